use Rattle.globex_run.proofs.Stepping.{steps-resent, steps-unsent, steps-lost}
use Rattle.globex_run.proofs.resender.send_kept.Goals as goal

pub returns-in-Ok : goal.returns-in-Ok
returns-in-Ok g c =
    let e = c.in-Ok.ensures in
    steps-resent g.S.Station.meanings c.args.resender.now c.in-Some.kept c.resend_kept.new.kept c.in-Some.is c.resend_kept.new.reader c.args.station.now c.resend_kept.new.station c.args.range.now c.requires.empty c.resend_kept.ensures.reads c.in-Ok.field-0
    e.no_store e.no_send e.same e.again e.idle e.stays e.sends

pub returns-in-Some-why_unsent : goal.returns-in-Some-why_unsent
returns-in-Some-why_unsent g c =
    let e = c.in-Err.ensures in
    steps-unsent g.S.Station.meanings c.args.resender.now c.in-Some.kept c.resend_kept.new.kept c.in-Some.is c.resend_kept.new.reader c.args.station.now c.resend_kept.new.station c.args.range.now c.requires.empty c.resend_kept.ensures.reads c.in-Err.fault c.in-Some-why_unsent.why
    c.in-Some-why_unsent.ensures e.store e.no_store e.send e.no_send e.sends

pub returns-in-None : goal.returns-in-None
returns-in-None g c =
    let e = c.in-Err.ensures in
    steps-lost g.S.Station.meanings c.args.resender.now c.in-Some.kept c.resend_kept.new.kept c.in-Some.is c.resend_kept.new.reader c.args.station.now c.resend_kept.new.station c.args.range.now c.requires.empty c.resend_kept.ensures.reads c.in-Err.fault c.in-None.ensures e.no_store e.no_send e.sends
