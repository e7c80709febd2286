use Rattle.std.proofs.Common.{◌≡◌, ◌++◌, ℕ, ◌<◌, [], length, refl, sym, ap, ◌∙◌, arith}
use Rattle.std.proofs.lemmas.List.{append-nil}
use Rattle.gx_base.specs.NameLists.{NameLists}
use Rattle.open_auction.specs.OpeningText.{instrument_opening, opening_texts, opening_text}
use Rattle.exec_report.proofs.Pushed.{put-of, put-then, put-as, pushes-as, pushes-then, pushes-part, sends-of, fails-of}
use Rattle.exec_report.proofs.TextsInARow.{texts-next, texts-around}
use Rattle.open_auction.proofs.print.print_opening.Goals as goal

pub loop-instrument-preserved : goal.loop-instrument-preserved
loop-instrument-preserved g c =
    let m = g.S.Station.meanings in
    let names = c.args.product.now.names in
    let state = c.args.core.now in
    let i = c.loop-instrument.instrument in
    let here : instrument_opening c.names-names.result.now state i ≡ instrument_opening names state i = ap (λ (n : NameLists). instrument_opening n state i) c.names-names.ensures in
    put-as m _ _ _ _ _ _ (texts-next (instrument_opening names state) (opening_texts names state) (λ k. refl) (λ k n. refl) i)
    (put-then m _ _ _ _ _ _ _ _ c.loop-instrument.invariant (put-as m _ _ _ _ _ _ here (put-of m _ _ _ _ _ c.in_ok-print_instrument.field-0 c.in_ok-print_instrument.ensures)))

pub returns-clause-sends : goal.returns-clause-sends
returns-clause-sends g c =
    let m = g.S.Station.meanings in
    let names = c.args.product.now.names in
    let state = c.args.core.now in
    let k = c.loop-instrument.instrument in
    let same : length names.instruments ≡ length c.names-names.result.now.instruments = ap (λ (n : NameLists). length n.instruments) (sym c.names-names.ensures) in
    let count : length names.instruments ≡ k = omega (arith, same, c.instrument_count-instrument-end.ensures.count, c.loop-instrument-test.false, c.loop-instrument.auto.instrument-end) in
    let whole : opening_text c.args.product.now state ≡ opening_texts names state 0 k ++ [] =
    ap (λ (n : ℕ). opening_texts names state 0 n) count ∙ sym (append-nil (opening_texts names state 0 k)) in
    sends-of m _ _ _ _ _ c.send_waiting.result c.requires.empty
    (pushes-then m _ _ _ _ _ _ _ _ _ c.send_waiting.result whole c.loop-instrument.invariant c.send_waiting.ensures.pushes)
    c.send_waiting.ensures.empty

pub returns-in_err-print_instrument-clause-sends : goal.returns-in_err-print_instrument-clause-sends
returns-in_err-print_instrument-clause-sends g c =
    let m = g.S.Station.meanings in
    let names = c.args.product.now.names in
    let state = c.args.core.now in
    let i = c.loop-instrument.instrument in
    let here : instrument_opening c.names-names.result.now state i ≡ instrument_opening names state i = ap (λ (n : NameLists). instrument_opening n state i) c.names-names.ensures in
    let same : length names.instruments ≡ length c.names-names.result.now.instruments = ap (λ (n : NameLists). length n.instruments) (sym c.names-names.ensures) in
    let below : i < length names.instruments = omega (arith, same, c.instrument_count-instrument-end.ensures.count, c.loop-instrument-test.true) in
    fails-of m _ _ _ c.print_instrument.new.buffer _ c.from_residual.result c.from_residual.ensures.0 c.requires.empty
    (pushes-part m _ _ _ _ _ _ _ _ _ _ _ c.in_err-print_instrument.field-0.0 c.from_residual.result c.from_residual.ensures.0
    (texts-around (instrument_opening names state) (opening_texts names state) (λ k. refl) (λ k n. refl) i (length names.instruments) below) c.loop-instrument.invariant
    (pushes-as m _ _ _ _ _ _ _ here c.in_err-print_instrument.ensures))
