use Rattle.std.proofs.Common.{◌≡◌, ◌<◌, ◌≤◌, List, ℕ, length, take, subst, arith}
use Rattle.std.proofs.lemmas.List.{take_all, length-take-le}
use Rattle.globex_run.specs.Inner.Collecting.{CollectsFrames}
use Rattle.globex_run.proofs.CollectTurns.{collects-none, collects-more}
use Rattle.globex_run.proofs.opening_prices.collect_given.Goals as goal

pub loop-number-init : goal.loop-number-init
loop-number-init g c = record { collects = collects-none c.args.product.now c.args.core.now; fits = c.requires.fits }

pub collect-requires-clause-few : goal.collect-requires-clause-few
collect-requires-clause-few g c =
    let given = c.args.framer.now.given in
    let k = c.loop-number.number in
    let within : k ≤ length given = omega arith in
    omega (arith, c.loop-number.invariant.collects.count, length-take-le k given within, c.requires.few)

pub loop-number-preserved : goal.loop-number-preserved
loop-number-preserved g c =
    let product = c.args.product.now in
    let given = c.args.framer.now.given in
    let k = c.loop-number.number in
    let within : k < length given = omega arith in
    record {
      collects = collects-more product c.args.core.now c.loop-number.core c.collect.new.core given k within c.given.result.now c.given.ensures.bytes c.read_request-request.result
          c.read_request-request.ensures.request c.loop-number.invariant.collects c.collect.ensures.count c.collect.ensures.numbered c.collect.ensures.step;
      fits = c.collect.ensures.fits;
    }

pub returns : goal.returns
returns g c =
    let given = c.args.framer.now.given in
    let k = c.loop-number.number in
    let all : take k given ≡ given = take_all k given (omega arith) in
    record {
      collects = subst (λ (l : List (List ℕ)). CollectsFrames c.args.product.now c.args.core.now c.loop-number.core l) all c.loop-number.invariant.collects;
      fits = c.loop-number.invariant.fits;
    }
