use Rattle.std.proofs.Common.{◌≡◌, ◌+◌, drop, sym, ap, arith}
use Rattle.std.specs.List.{sum_by, filter}
use Rattle.std.proofs.lemmas.List.Sums.{sum_by-drop_more}
use Rattle.price_chunks.specs.declared.place.Step.{Step}
use Rattle.price_chunks.proofs.Steps.{open_back, open_fits}
use Rattle.price_chunks.proofs.place.open_lots.Goals as goal
use Rattle.price_chunks.specs.Steps.{no_step, is_open_step}

pub loop-i-init : goal.loop-i-init
loop-i-init c =
    let leaves = sum_by (λ (s : Step). s.leaves) in
    let e : leaves (drop c.place_of-i.result c.args.steps.now) ≡ leaves (filter (is_open_step c.args.side c.args.limit) c.args.steps.now) = ap leaves (sym (open_back c.args.side c.args.limit c.args.steps.now c.place_of-i.result c.requires.ordered c.place_of-i.ensures)) in
    let g : 0 + leaves (drop c.place_of-i.result c.args.steps.now) ≡ leaves (filter (is_open_step c.args.side c.args.limit) c.args.steps.now) = omega arith in g

pub overflow_add-total : goal.overflow_add-total
overflow_add-total c =
    let leaves = λ (s : Step). s.leaves in
    let here : c.loop-i.total + sum_by leaves (drop c.loop-i.i c.args.steps.now) ≡ sum_by leaves (filter (is_open_step c.args.side c.args.limit) c.args.steps.now) = c.loop-i.invariant in
    let step = sum_by-drop_more leaves c.args.steps.now c.loop-i.i no_step c.loop-i-test.true in
    let fits = open_fits c.args.side c.args.limit leaves c.args.steps.now in
    let all = c.requires.fits in
    omega arith
