use Rattle.std.proofs.Common.{◌<◌, [], length, sym, ap, ap₂, ◌∙◌, arith}
use Rattle.std.proofs.lemmas.List.Sums.{fold_more}
use Rattle.fix_request.specs.Requests.{request_of}
use Rattle.fix_session.specs.Answers.{noted}
use Rattle.fix_session.specs.SessionOut.{noted_in}
use Rattle.fix_session.proofs.Listed.{sender_is_listed}
use Rattle.journal_print.proofs.noting.note_messages.Goals as goal

pub note-requires : goal.note-requires
note-requires c = sender_is_listed c.args.product.now.names c.read_request-request.result c.limits.ensures.few_firms c.read_request-request.ensures.given

pub loop-number-preserved : goal.loop-number-preserved
loop-number-preserved c =
    let product = c.args.product.now in
    let given = c.args.framer.now.given in
    let k = c.loop-number.number in
    let within : k < length given = omega arith in
    c.note.ensures
    ∙ ap₂ noted c.loop-number.invariant (c.read_request-request.ensures.request ∙ ap (request_of product) c.given.ensures.bytes)
    ∙ sym (fold_more (noted_in product) c.args.sessions.now given k [] within)
