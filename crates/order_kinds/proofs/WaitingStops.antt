-- A stop limit order comes in: it waits.
use Rattle.std.proofs.Common.{◌≡◌, ℕ, List, None, refl, sym, ap, subst}
use Rattle.gx_base.specs.declared.order.Kind.{Kind}
use Rattle.gx_base.specs.declared.order.Kind.TheVariants.{StopLimit}
use Rattle.gx_base.specs.Emits.{EmitMeanings, Emits}
use Rattle.gx_base.specs.EmitLaws.{emits_none}
use Rattle.step_config.specs.declared.step.Step.{Step}
use Rattle.plain_book.specs.Book.{Book, book_waited}
use Rattle.plain_book.specs.Match.{MatchState}
use Rattle.plain_book.specs.Matches.{MatchAt, match_at, start_at, IsNow}
use Rattle.order_kinds.specs.Entering.{last_fill}
use Rattle.order_kinds.specs.Stops.{Naming, taker_waiting, come_in_as, come_in}
use Rattle.order_kinds.specs.Inner.Apart.{ComeApartAs, ComeApart}
use Rattle.order_kinds.specs.Inner.Triggering.{ComesIn}

module _ {E : Type 0} (m : EmitMeanings E) (steps : List Step) (a : MatchAt E) where
  pub comes-to-wait : (book : Book) (slot : ℕ) → a.taker.order.kind ≡ StopLimit → book ≡ book_waited slot a.taker.order a.book
      → ComesIn m (λ naming. ComeApart naming steps) (λ naming. come_in naming steps) a (match_at book a.desk a.taker a.out) None
  comes-to-wait book slot is waited =
      let start = start_at a in
      let naming : Naming = λ before number. slot in
      let same : taker_waiting slot start ≡ come_in naming steps start = ap (λ (kind : Kind). come_in_as kind naming steps start) (sym is) in
      record {
        naming = naming;
        apart = subst (λ (kind : Kind). ComeApartAs kind naming steps start) (sym is) tt;
        now = subst (λ (s : MatchState). IsNow s book a.desk a.taker) same (record { book = waited; desk = refl; taker = refl });
        emits = subst (λ (s : MatchState). Emits m a.out a.out s.events) same (emits_none m a.out);
        last = ap (λ (s : MatchState). last_fill s.events) same;
      }
