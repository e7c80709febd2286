use Rattle.std.proofs.Common.{◌≡◌, true, false, take}
use Rattle.step_config.specs.Rules.{name_of, is_same_name, has_name}
use Rattle.step_config.specs.RepeatLaws.{stands_twice, stands_once}
use Rattle.step_config.proofs.faults.first_twice.Goals as goal

pub returns-then-has_name : goal.returns-then-has_name
returns-then-has_name c =
    let step = c.index-steps-i.result in
    let has : has_name (name_of step) (take c.loop-i.i c.args.steps.now) ≡ true = cc in
    let found = stands_twice is_same_name name_of c.args.steps.now c.loop-i.i step c.loop-i-test.true c.index-steps-i.is has in
    cc

pub loop-i-preserved : goal.loop-i-preserved
loop-i-preserved c =
    let step = c.index-steps-i.result in
    let has_not : has_name (name_of step) (take c.loop-i.i c.args.steps.now) ≡ false = cc in
    let later = stands_once is_same_name name_of c.args.steps.now c.loop-i.i step c.loop-i-test.true c.index-steps-i.is has_not in
    cc
