use Rattle.std.proofs.lemmas.Grind.{common_steps}
use Rattle.std.proofs.Common.{◌≡◌, ℕ, List, length, sym, subst, ◌∙◌, arith}
use Rattle.gx_station.specs.AnswerLaws.{on_ok}
use Rattle.book_recovery.specs.Inner.Keeping.{KeepsProduct}
use Rattle.book_recovery.proofs.Payloads.{front_of}
use Rattle.book_recovery.proofs.taking.keep_first.Goals as goal

pub returns-clause-keeps : goal.returns-clause-keeps
returns-clause-keeps g c = λ image read stands.
    let size : length c.read_first.new.into ≡ c.first_len-length.result = grind (arith, common_steps) in
    let text = on_ok c.read_first.result (sym c.is_err.ensures.value ∙ c.if-is_err.false) c.read_first.ensures.text image read stands in
    subst (λ (l : List ℕ). KeepsProduct l 9 c.args.earlier.now.items c.keep_product.new.earlier.items c.keep_product.result) (front_of c.read_first.new.into _ _ size ∙ text) c.keep_product.ensures.keeps
