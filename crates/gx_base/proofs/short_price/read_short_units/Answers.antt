use Rattle.std.proofs.Common.{ℕ, ◌≡◌, ◌+◌, ◌-◌, ◌∙◌, length, take, drop, sym, ap, arith, length-drop}
use Rattle.std.proofs.lemmas.List.{take_all}
use Rattle.gx_base.specs.Numbers.{are_digits}
use Rattle.std.specs.Str.Parse.{digits_value}
use Rattle.gx_base.proofs.PriceTexts.{slice_behind}
use Rattle.gx_base.proofs.ShortPrices.{below_all, product_fits, room_left, without_point, point_read}
use Rattle.gx_base.proofs.short_price.read_short_units.Goals as goal

pub read_run-whole-requires : goal.read_run-whole-requires
read_run-whole-requires c = room_left 0 0 (length c.args.text.now) (omega arith) (omega arith)

pub overflow_mul-result : goal.overflow_mul-result
overflow_mul-result c =
    let run = c.read_run-whole in
    record { fits = product_fits run.result.1 c.power_of_ten.result (below_all run.result.1 run.result.0 (length c.args.text.now) (omega (arith, run.ensures.low)) run.ensures.count (omega arith)) c.power_of_ten.ensures.low }

pub returns-then-whole-text : goal.returns-then-whole-text
returns-then-whole-text c =
    let text = c.args.text.now in
    let run = c.read_run-whole in
    let all : take run.result.0 text ≡ text = take_all run.result.0 text (omega arith) in
    without_point text c.args.decimals run.result.1 c.power_of_ten.result (omega arith) (omega arith) (ap are_digits (sym all) ∙ run.ensures.digits) (run.ensures.number ∙ ap (digits_value 10) all) c.power_of_ten.ensures.value

pub read_run-count-requires : goal.read_run-count-requires
read_run-count-requires c =
    let text = c.args.text.now in
    let run = c.read_run-whole in
    let rest : ℕ = length (take (length text - (run.result.0 + 1)) (drop (run.result.0 + 1) text)) in
    room_left run.result.1 run.result.0 rest (omega (arith, run.ensures.low)) (omega (arith, ap length (slice_behind (run.result.0 + 1) text), length-drop (run.result.0 + 1) text, run.ensures.count))

pub overflow_mul-result-2 : goal.overflow_mul-result-2
overflow_mul-result-2 c =
    let text = c.args.text.now in
    let run = c.read_run-whole in
    let fraction = c.read_run-count in
    let room = room_left run.result.1 run.result.0 fraction.result.0 (omega (arith, run.ensures.low)) (omega (arith, fraction.ensures.count, ap length (slice_behind (run.result.0 + 1) text), length-drop (run.result.0 + 1) text, run.ensures.count)) in
    record { fits = product_fits fraction.result.1 c.power_of_ten-2.result (omega (arith, room, fraction.ensures.low)) c.power_of_ten-2.ensures.low }

pub returns : goal.returns
returns c =
    let run = c.read_run-whole in
    let fraction = c.read_run-count in
    point_read c.args.text.now run.result.0 fraction.result.0 c.args.decimals run.result.1 fraction.result.1 c.power_of_ten-2.result
    (omega arith) (omega arith) (omega (arith, run.ensures.count)) c.if-text-whole-ne46.false run.ensures.digits run.ensures.number
    c.if-count-fraction.false fraction.ensures.count fraction.ensures.digits fraction.ensures.number c.if-fraction-decimals.false c.power_of_ten-2.ensures.value
