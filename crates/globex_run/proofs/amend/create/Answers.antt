use Rattle.std.proofs.Common.{Err, sym, ap, subst, ◌∙◌}
use Rattle.globex_run.specs.Inner.Amending.{unamended_without, AmendsJournal}
use Rattle.globex_run.specs.declared.unamended.Unamended.{Unamended}
use Rattle.globex_run.proofs.AmendBegun.{created, not-created}
use Rattle.globex_run.proofs.amend.create.Goals as goal

pub returns-in-Ok : goal.returns-in-Ok
returns-in-Ok g c = record {
  did =
      created g.S.Station.meanings c.args.taken.now.product.now c.requires.right c.args.taken.now.text.now c.args.station.now c.start.new.station c.requires.unfinished c.in-Ok.field-0
      c.start.ensures.silent (c.in-Ok.ensures.none (λ e. cc e)) c.in-Ok.ensures.starts;
}

pub returns-in-Err : goal.returns-in-Err
returns-in-Err g c = record {
  did =
      subst (λ (w : Unamended). AmendsJournal g.S.Station.meanings c.args.taken.now.product.now c.args.taken.now.text.now c.args.station.now c.start.new.station (Err w)) (sym (c.of_unopened.ensures ∙ ap unamended_without c.unopened.ensures))
      (not-created g.S.Station.meanings c.args.taken.now.product.now c.requires.right c.args.taken.now.text.now c.args.station.now c.start.new.station c.requires.unfinished c.in-Err.fault
      c.start.ensures.silent (λ is. c.in-Err.ensures.store (ap Err is)) (λ no. c.in-Err.ensures.none (λ is. no (cc is))) c.in-Err.ensures.answers c.in-Err.ensures.stays c.in-Err.ensures.starts c.start.ensures.keeps);
}
