-- A level match and a sweep change the resting orders of a book alone.
use Rattle.std.proofs.Common.{◌≡◌, List, refl, sym, ap, ◌∙◌}
use Rattle.gx_base.specs.declared.price.Price.{Price}
use Rattle.step_config.specs.declared.step.Step.{Step}
use Rattle.plain_book.specs.Book.{Book}
use Rattle.plain_book.specs.Match.{MatchState}
use Rattle.level_sweep.specs.Sweep.{level_match, sweep, with_resting}
use Rattle.level_sweep.proofs.EachTrade.{Relation, IsKept, each-match, each-sweep}

-- the rest of the book stays
abbrev RestStays : Relation
RestStays a b = b.book ≡ with_resting b.book.resting a.book

rest : IsKept RestStays
rest = record {
  same = λ m. refl;
  both = λ a b c h k. k ∙ ap (with_resting c.book.resting) h;
  trades = λ step s n m. refl;
  marks = λ s n m. refl;
}

pub rest-match : (steps : List Step) (price : Price) (m : MatchState) → RestStays m (level_match steps price m)
rest-match steps price m = each-match RestStays rest steps price m

pub rest-sweep : (steps : List Step) (limit : Price) (m : MatchState) → RestStays m (sweep steps limit m)
rest-sweep steps limit m = each-sweep RestStays rest steps limit m

-- and so does a call that leaves the same book
pub rest-now : (m end : MatchState) (b : Book) → end.book ≡ with_resting end.book.resting m.book → b ≡ end.book → b ≡ with_resting b.resting m.book
rest-now m end b h k = k ∙ h ∙ ap (λ (x : Book). with_resting x.resting m.book) (sym k)
