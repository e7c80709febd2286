use Rattle.std.proofs.Common.{◌≡◌, true, arith}
use Rattle.std.proofs.lemmas.Bool.Decides.{nat_tests}
use Rattle.fix_request.proofs.Places.{are_digits, digits_placed}
use Rattle.fix_request.proofs.slots.slot_of_digits.Goals as goal

pub returns : goal.returns
returns c =
    let are : are_digits c.args.first c.args.second ≡ true = grind (arith, nat_tests, c.contains.ensures, c.is_ascii_digit.ensures) in
    digits_placed c.args.first c.args.second c.from.result c.from-2.result c.from-3.result are c.from.ensures c.from-2.ensures c.from-3.ensures
