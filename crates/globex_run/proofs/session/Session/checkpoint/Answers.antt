use Rattle.std.proofs.Common.{Err, refl, ap, ◌∙◌, arith}
use Rattle.match_journal.specs.LookLaws.{silent_then}
use Rattle.match_journal.specs.declared.standing.Standing.{Standing}
use Rattle.globex_run.specs.Outcomes.{outcome_of}
use Rattle.globex_run.specs.declared.ending.Ending.{Ending}
use Rattle.globex_run.specs.declared.ending.Ending.TheVariants.{Done, StoreFault, Full}
use Rattle.globex_run.proofs.Appended.{has_room}
use Rattle.globex_run.proofs.Checkpointed.{unopened-result, full-from, failed-from, added-from, opened-result}
use Rattle.globex_run.proofs.FromEntry.{refused_by}
use Rattle.globex_run.proofs.session.Session.checkpoint.Goals as goal

pub returns-in-Err-clause-did : goal.returns-in-Err-clause-did
returns-in-Err-clause-did g c =
    unopened-result g.S.Station.meanings c.args.self.now.product.now c.limits.ensures c.args.self.now.text.now c.args.station.now c.open.new.station c.open.new.self.engine.core c.open.ensures.silent c.in-Err.reason c.outcome.result
    (c.outcome.ensures ∙ ap (λ (e : Ending). outcome_of e 0) c.ending.ensures) (λ is. c.in-Err.ensures.store (ap Err is)) (λ no. c.in-Err.ensures.none (λ is. no (cc is))) c.in-Err.ensures.answers c.in-Err.ensures.opens

pub returns-in-Err-clause-stays : goal.returns-in-Err-clause-stays
returns-in-Err-clause-stays g c = λ image read refused.
    c.in-Err.ensures.stays image read (refused_by c.in-Err.reason c.outcome.result (c.outcome.ensures ∙ ap (λ (e : Ending). outcome_of e 0) c.ending.ensures) refused)

-- the longest image is far shorter than the head of a record can say
pub append-requires-clause-few : goal.append-requires-clause-few
append-requires-clause-few g c = omega (arith, c.write_image-image.ensures.few, c.limits.ensures.few_instruments, c.limits.ensures.few_orders)

pub returns-in-Ok-append-clause-did : goal.returns-in-Ok-append-clause-did
returns-in-Ok-append-clause-did g c =
    let m = g.S.Station.meanings in
    let opens = c.in-Ok.ensures.opens in
    let fits = has_room c.append.result _ _ c.append.ensures.full (λ is. cc (is, c.in-Ok-append.is)) in
    opened-result m c.args.self.now.product.now c.limits.ensures c.args.self.now.text.now c.args.station.now c.open.new.station c.open.new.self.engine.core c.in-Ok.journal c.in-Ok.ensures.answers c.append.new.station Done c.messages.result c.outcome-in-Ok-append.result c.outcome-in-Ok-append.ensures
    tt (λ no. absurd (no tt)) (λ e. cc e) (λ other. c.in-Ok-append.ensures.none (λ e. cc e) ∙ c.in-Ok.ensures.none (λ e. cc e)) (silent_then m _ _ _ c.open.ensures.silent c.append.ensures.silent)
    (λ image was. was)
    (λ image kept honest read startable.
    added-from m c.args.self.now.product.now c.limits.ensures c.args.self.now.text.now c.args.station.now c.open.new.station c.open.new.self.engine.core c.in-Ok.journal c.in-Ok.ensures.limit opens c.write_image-image.result.now c.write_image-image.ensures.image c.append.new.station c.open.ensures.silent.sent c.append.ensures.bytes_read
    image kept honest read startable c.in-Ok-append.field-0 fits c.in-Ok-append.ensures.appends c.messages.result c.messages.ensures.count)

pub returns-in-Err-Full-clause-did : goal.returns-in-Err-Full-clause-did
returns-in-Err-Full-clause-did g c =
    let m = g.S.Station.meanings in
    let full = c.in-Err-Full.is ∙ ap Err c.in-Err-Full.field-0-is in
    let nothing = c.append.ensures.nothing full in
    opened-result m c.args.self.now.product.now c.limits.ensures c.args.self.now.text.now c.args.station.now c.open.new.station c.open.new.self.engine.core c.in-Ok.journal c.in-Ok.ensures.answers c.append.new.station (Full c.end.result) 0 c.outcome-in-Err-Full.result c.outcome-in-Err-Full.ensures
    tt (λ no. refl) (λ e. cc e) (λ other. c.append.ensures.none (λ e. cc (e, full)) ∙ c.in-Ok.ensures.none (λ e. cc e)) (silent_then m _ _ _ c.open.ensures.silent c.append.ensures.silent)
    (λ image was. was)
    (λ image kept honest read startable.
    full-from m c.args.self.now.product.now c.limits.ensures c.args.self.now.text.now c.args.station.now c.open.new.station c.open.new.self.engine.core c.in-Ok.journal c.in-Ok.ensures.limit c.in-Ok.ensures.opens c.write_image-image.result.now c.write_image-image.ensures.image c.append.new.station c.open.ensures.silent.sent c.append.ensures.bytes_read
    image kept honest read startable nothing.0 c.end.result (c.end.ensures.value ∙ ap (λ (s : Standing). s.gate) nothing.1) (c.append.ensures.full.0 full))

pub returns-in-Err-Store-clause-did : goal.returns-in-Err-Store-clause-did
returns-in-Err-Store-clause-did g c =
    let m = g.S.Station.meanings in
    let stopped = c.in-Err-Store.is ∙ ap Err c.in-Err-Store.field-0-is in
    let fits = has_room c.append.result _ _ c.append.ensures.full (λ is. cc (is, stopped)) in
    opened-result m c.args.self.now.product.now c.limits.ensures c.args.self.now.text.now c.args.station.now c.open.new.station c.open.new.self.engine.core c.in-Ok.journal c.in-Ok.ensures.answers c.append.new.station StoreFault 0 c.outcome-in-Err-Store.result c.outcome-in-Err-Store.ensures
    tt (λ no. refl) (λ e. omega (arith, c.append.ensures.store stopped, c.in-Ok.ensures.none (λ e. cc e))) (λ other. absurd (other refl)) (silent_then m _ _ _ c.open.ensures.silent c.append.ensures.silent)
    (λ image was. tt)
    (λ image kept honest read startable.
    failed-from m c.args.self.now.product.now c.limits.ensures c.args.self.now.text.now c.args.station.now c.open.new.station c.open.new.self.engine.core c.in-Ok.journal c.in-Ok.ensures.limit c.in-Ok.ensures.opens c.write_image-image.result.now c.write_image-image.ensures.image c.append.new.station c.open.ensures.silent.sent c.append.ensures.bytes_read
    image kept honest read startable c.append.result fits c.append.ensures.appends g.met.S.Station.honest)
