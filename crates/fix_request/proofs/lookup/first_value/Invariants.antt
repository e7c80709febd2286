use Rattle.std.proofs.Common.{◌≡◌, length}
use Rattle.std.specs.Prelude.{IsTrue}
use Rattle.std.specs.List.{list_all}
use Rattle.fix_request.specs.Fields.{texts_of, has_tag, fields_of, value_of}
use Rattle.fix_request.proofs.lookup.first_value.Given as goal

abbrev pub invariant-loop-rest : goal.invariant-loop-rest
invariant-loop-rest l = (value_of l.tag (fields_of l.body) ≡ value_of l.tag (fields_of l.rest)) × IsTrue (list_all has_tag (texts_of l.rest))

abbrev pub decreases-loop-rest : goal.decreases-loop-rest
decreases-loop-rest l = length l.rest
