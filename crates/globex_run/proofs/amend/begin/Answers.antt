use Rattle.std.proofs.Common.{Err, sym, ap, subst, ◌∙◌}
use Rattle.globex_run.specs.Inner.Amending.{unamended_without, AmendsJournal}
use Rattle.globex_run.specs.declared.unamended.Unamended.{Unamended}
use Rattle.globex_run.proofs.AmendReads.{reads-first}
use Rattle.globex_run.proofs.AmendBegun.{no-journal, fault-answers, not-opened}
use Rattle.globex_run.proofs.amend.begin.Goals as goal

-- the text handed in was found in it, or none
pub create-requires-clause-unfinished : goal.create-requires-clause-unfinished
create-requires-clause-unfinished g c = λ image held.
    let before = sym c.look.ensures.reads.looks.keeps.holds ∙ held in
    no-journal c.args.taken.now.text.now image c.in-Ok.field-0 (c.requires.unfinished image before) (c.in-Ok.ensures.answers image before)

pub returns-in-Ok : goal.returns-in-Ok
returns-in-Ok g c = record {
  did = reads-first g.S.Station.meanings c.args.taken.now.product.now c.args.taken.now.text.now c.args.station.now c.look.new.station c.create.new.station c.look.ensures.reads c.create.result (c.in-Ok.ensures.none (λ e. cc e)) c.create.ensures.did;
}

pub returns-in-Err : goal.returns-in-Err
returns-in-Err g c = record {
  did =
      subst (λ (w : Unamended). AmendsJournal g.S.Station.meanings c.args.taken.now.product.now c.args.taken.now.text.now c.args.station.now c.look.new.station (Err w)) (sym (c.of_unopened.ensures ∙ ap unamended_without c.unopened.ensures))
      (not-opened c.args.taken.now.product.now c.args.taken.now.text.now g.S.Station.meanings c.args.station.now c.look.new.station c.in-Err.fault c.look.ensures.reads (λ is. c.in-Err.ensures.store (ap Err is)) (λ no. c.in-Err.ensures.none (λ is. no (cc is)))
      (λ image held. fault-answers c.args.taken.now.product.now c.args.taken.now.text.now c.in-Err.fault image (c.requires.unfinished image held) (c.in-Err.ensures.answers image held)));
}
