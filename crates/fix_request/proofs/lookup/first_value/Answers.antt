use Rattle.std.proofs.Common.{ℕ, ◌≤◌, List, length, ◌∙◌, ap, sym, arith}
use Rattle.std.proofs.lemmas.Bool.Decides.{nat_tests}
use Rattle.std.specs.Prelude.{Some}
use Rattle.std.specs.List.{before_first, after_first}
use Rattle.fix_request.specs.Fields.{is_soh, is_equals_sign}
use Rattle.fix_request.proofs.FirstField.{all_parts, value_found, value_later, few_digits}
use Rattle.fix_request.proofs.lookup.first_value.Goals as goal

pub read_digits-requires-clause-digits : goal.read_digits-requires-clause-digits
read_digits-requires-clause-digits c =
    let some : 1 ≤ length c.loop-rest.rest.now = grind (arith, nat_tests, c.is_empty.ensures, c.loop-rest-test.true) in
    let parts = all_parts c.loop-rest.rest.now some c.loop-rest.invariant.1 in
    rw (c.split_at_byte-in-loop-rest.ensures.before, c.split_at_byte.ensures.before) ((few_digits (before_first is_soh c.loop-rest.rest.now) parts.0).0)

pub read_digits-requires-clause-short : goal.read_digits-requires-clause-short
read_digits-requires-clause-short c =
    let some : 1 ≤ length c.loop-rest.rest.now = grind (arith, nat_tests, c.is_empty.ensures, c.loop-rest-test.true) in
    let parts = all_parts c.loop-rest.rest.now some c.loop-rest.invariant.1 in
    rw (c.split_at_byte-in-loop-rest.ensures.before, c.split_at_byte.ensures.before) ((few_digits (before_first is_soh c.loop-rest.rest.now) parts.0).1)

pub returns-then-read_digits-tag : goal.returns-then-read_digits-tag
returns-then-read_digits-tag c =
    let some : 1 ≤ length c.loop-rest.rest.now = grind (arith, nat_tests, c.is_empty.ensures, c.loop-rest-test.true) in
    let is = rw (c.read_digits.ensures, c.split_at_byte-in-loop-rest.ensures.before, c.split_at_byte.ensures.before) at c.if-read_digits-tag.true in
    sym (c.loop-rest.invariant.0 ∙ value_found c.args.tag c.loop-rest.rest.now some is ∙ sym (ap Some (c.split_at_byte-in-loop-rest.ensures.behind ∙ ap (λ (t : List ℕ). after_first is_equals_sign t) c.split_at_byte.ensures.before)))

pub loop-rest-preserved : goal.loop-rest-preserved
loop-rest-preserved c =
    let some : 1 ≤ length c.loop-rest.rest.now = grind (arith, nat_tests, c.is_empty.ensures, c.loop-rest-test.true) in
    let is = rw (c.read_digits.ensures, c.split_at_byte-in-loop-rest.ensures.before, c.split_at_byte.ensures.before) at c.if-read_digits-tag.false in
    rw c.split_at_byte.ensures.behind (c.loop-rest.invariant.0 ∙ value_later c.args.tag c.loop-rest.rest.now some is, (all_parts c.loop-rest.rest.now some c.loop-rest.invariant.1).1)
