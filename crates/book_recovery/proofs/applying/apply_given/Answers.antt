use Rattle.std.proofs.Common.{◌≡◌, ◌+◌, ◌<◌, [], ◌++◌, length, take, refl, sym, ap, ◌∙◌, subst, arith}
use Rattle.std.proofs.lemmas.List.{take_all}
use Rattle.gx_base.specs.EmitLaws.{emits_none, emits_joined, emits_as}
use Rattle.order_kinds.specs.State.{state_numbered}
use Rattle.order_kinds.specs.Step.{with_message, request_step, state_after, events_from}
use Rattle.book_recovery.specs.Passed.{ArePassed}
use Rattle.book_recovery.proofs.Applied.{state_more, events_more, passed_before, passed_here}
use Rattle.book_recovery.proofs.applying.apply_given.Goals as goal

pub loop-number-init : goal.loop-number-init
loop-number-init g c =
    let none = emits_none g.E.Emit.meanings c.args.out.now in
    record {
      count = omega arith;
      fits = c.requires.fits;
      puts = record { events = []; emits = none };
      silent = λ passed. refl;
      numbered = λ numbered. numbered;
      state = λ numbered. refl;
      emits = λ numbered. none;
    }

pub loop-number-preserved : goal.loop-number-preserved
loop-number-preserved g c =
    let m = g.E.Emit.meanings in
    let product = c.args.product.now in
    let start = state_numbered c.args.core.now in
    let given = c.args.framer.now.given in
    let k = c.loop-number.number in
    let frame = c.given.result.now in
    let request = c.read_request_into.new.request in
    let before = c.loop-number.invariant in
    let within : k < length given = omega arith in
    let puts = c.apply.ensures.puts in
    let s = state_numbered c.loop-number.core in
    let asked = c.read_request_into.ensures.request in
    let earlier = events_from product start (take k given) in
    let here = (request_step product request (with_message s)).1 in
    record {
      count = omega (arith, before.count, c.apply.ensures.count);
      fits = c.apply.ensures.fits;
      puts = record {
        events = before.puts.events ++ puts.events;
        emits = emits_joined m c.args.out.now c.loop-number.out c.apply.new.out before.puts.events puts.events before.puts.emits puts.emits;
      };
      silent = λ passed.
          c.apply.ensures.silent (passed_here product start given k within frame c.given.ensures.bytes passed request asked)
          ∙ before.silent (passed_before product start given k within frame c.given.ensures.bytes passed);
      numbered = λ numbered. (c.apply.ensures.step (before.numbered numbered)).numbered;
      state = λ numbered.
          state_more product start given k within frame c.given.ensures.bytes s request (before.state numbered) asked (state_numbered c.apply.new.self)
          (c.apply.ensures.step (before.numbered numbered)).state;
      emits = λ numbered.
          emits_as m c.args.out.now c.apply.new.out (earlier ++ here) (events_from product start (take (k + 1) given))
          (events_more product start given k within frame c.given.ensures.bytes s request (before.state numbered) asked)
          (emits_joined m c.args.out.now c.loop-number.out c.apply.new.out earlier here (before.emits numbered) (c.apply.ensures.step (before.numbered numbered)).emits);
    }

pub returns : goal.returns
returns g c =
    let m = g.E.Emit.meanings in
    let product = c.args.product.now in
    let start = state_numbered c.args.core.now in
    let given = c.args.framer.now.given in
    let before = c.loop-number.invariant in
    let all : take c.loop-number.number given ≡ given = take_all c.loop-number.number given (omega arith) in
    record {
      count = omega (arith, before.count);
      fits = before.fits;
      puts = before.puts;
      silent = λ passed. before.silent (subst (ArePassed product) (sym all) passed);
      numbered = before.numbered;
      state = λ numbered. before.state numbered ∙ ap (state_after product start) all;
      emits = λ numbered. emits_as m c.args.out.now c.loop-number.out (events_from product start (take c.loop-number.number given)) (events_from product start given) (ap (events_from product start) all) (before.emits numbered);
    }
