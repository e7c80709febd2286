use Rattle.std.proofs.Common.{sym, ap, subst, ◌∙◌}
use Rattle.plain_book.specs.Book.{IsRight}
use Rattle.order_kinds.specs.State.{State}
use Rattle.order_kinds.specs.Inner.Terms.{terms_seen, map_terms}
use Rattle.order_kinds.proofs.Terms.{terms-accepted}
use Rattle.order_kinds.proofs.Accepted.{takes-refusal}
use Rattle.order_kinds.proofs.accepting.apply_new.Goals as goal

pub accept_new-requires-clause-accepted : goal.accept_new-requires-clause-accepted
accept_new-requires-clause-accepted g c =
    terms-accepted c.args.product.now c.args.new.now c.args.state.now (terms_seen c.in-Ok.terms) c.limits.ensures c.requires.valid c.requires.fits
    (subst (λ (s : State). IsRight s.book) c.state.view_is c.rules.ensures) (sym c.of.ensures ∙ ap map_terms c.in-Ok.is)

pub returns-in-Err-clause-takes : goal.returns-in-Err-clause-takes
returns-in-Err-clause-takes g c =
    let end = c.refuse_new.new in
    takes-refusal g.E.Emit.meanings c.args.product.now c.args.new.now c.state.view_is c.in-Err.fault end.desk c.args.out.now end.out (sym c.of.ensures ∙ ap map_terms c.in-Err.is) c.refuse_new.ensures.desk c.refuse_new.ensures.emits
