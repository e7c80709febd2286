use Rattle.std.proofs.Common.{Ok, Err, sym, ap, subst, ◌∙◌}
use Rattle.match_journal.specs.Opening.{LooksAny}
use Rattle.match_journal.specs.declared.limits.TheConstants.{MOST_LIMIT}
use Rattle.globex_run.specs.Inner.Amending.{unamended_without, AmendsJournal}
use Rattle.globex_run.specs.declared.unamended.Unamended.{Unamended}
use Rattle.globex_run.proofs.AmendReads.{reads-first}
use Rattle.globex_run.proofs.AmendBegun.{look-answers, not-opened}
use Rattle.globex_run.proofs.amend.amend_journal.Goals as goal

pub begin-requires-clause-unfinished : goal.begin-requires-clause-unfinished
begin-requires-clause-unfinished g c = λ image held.
    subst (LooksAny MOST_LIMIT image) (c.in-Ok-None.is ∙ ap Ok c.in-Ok-None.field-0-is) (c.look_any.ensures.answers image (sym c.look_any.ensures.reads.looks.keeps.holds ∙ held))

pub returns-in-Ok-Some : goal.returns-in-Ok-Some
returns-in-Ok-Some g c = record {
  did = reads-first g.S.Station.meanings c.args.taken.now.product.now c.args.taken.now.text.now c.args.station.now c.look_any.new.station c.amend_looked.new.station c.look_any.ensures.reads c.amend_looked.result (c.in-Ok-Some.ensures.none (λ e. cc e)) c.amend_looked.ensures.did;
}

pub returns-in-Ok-None : goal.returns-in-Ok-None
returns-in-Ok-None g c = record {
  did = reads-first g.S.Station.meanings c.args.taken.now.product.now c.args.taken.now.text.now c.args.station.now c.look_any.new.station c.begin.new.station c.look_any.ensures.reads c.begin.result (c.in-Ok-None.ensures.none (λ e. cc e)) c.begin.ensures.did;
}

pub returns-in-Err : goal.returns-in-Err
returns-in-Err g c = record {
  did =
      subst (λ (w : Unamended). AmendsJournal g.S.Station.meanings c.args.taken.now.product.now c.args.taken.now.text.now c.args.station.now c.look_any.new.station (Err w)) (sym (c.of_unopened.ensures ∙ ap unamended_without c.unopened.ensures))
      (not-opened c.args.taken.now.product.now c.args.taken.now.text.now g.S.Station.meanings c.args.station.now c.look_any.new.station c.in-Err.fault c.look_any.ensures.reads (λ is. c.in-Err.ensures.store (ap Err is)) (λ no. c.in-Err.ensures.none (λ is. no (cc is)))
      (λ image held. look-answers c.args.taken.now.product.now c.args.taken.now.text.now c.in-Err.fault image (c.in-Err.ensures.answers image held)));
}
