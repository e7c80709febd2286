use Rattle.std.proofs.Common.{refl}
use Rattle.globex_run.specs.declared.unamended.Unamended.TheVariants.{Store}
use Rattle.globex_run.proofs.AmendReads.{reads-first, refuses}
use Rattle.globex_run.proofs.AmendFollowed.{text-looked}
use Rattle.globex_run.proofs.amend.amend_looked.Goals as goal

pub amend_read-requires-clause-looked : goal.amend_read-requires-clause-looked
amend_read-requires-clause-looked g c =
    text-looked g.S.Station.meanings c.args.station.now c.read_text.new.station c.args.journal.now c.read_text.new.self _ c.read_text.new.into c.requires.looked c.read_text.ensures.looks c.read_text.ensures.stays c.in-Ok.ensures.text

pub returns-in-Ok : goal.returns-in-Ok
returns-in-Ok g c = record {
  did =
      reads-first g.S.Station.meanings c.args.taken.now.product.now c.args.taken.now.text.now c.args.station.now c.read_text.new.station c.amend_read.new.station (record { most = _; looks = c.read_text.ensures.looks })
      c.amend_read.result c.in-Ok.ensures.on_store.cause.ok c.amend_read.ensures.did;
}

pub returns-in-Err : goal.returns-in-Err
returns-in-Err g c = record {
  did =
      refuses g.S.Station.meanings c.args.taken.now.product.now c.args.taken.now.text.now c.args.station.now c.read_text.new.station Store tt (record { most = _; looks = c.read_text.ensures.looks })
      (λ is. c.in-Err.ensures.on_store.cause.failed) (λ other. absurd (other refl)) (λ image held. tt);
}
