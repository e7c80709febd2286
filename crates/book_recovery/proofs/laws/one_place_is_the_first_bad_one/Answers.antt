use Rattle.book_recovery.proofs.OneWay.{one_bad_for_each, no_bad_for_each}
use Rattle.book_recovery.proofs.laws.one_place_is_the_first_bad_one.Goals as goal

pub returns-clause-one : goal.returns-clause-one
returns-clause-one c = λ head image limit at at' first second. one_bad_for_each head limit image at at' first second

pub returns-clause-none : goal.returns-clause-none
returns-clause-none c = λ head image records first limit at journal gives good bad. no_bad_for_each head limit image records first at journal gives good bad
