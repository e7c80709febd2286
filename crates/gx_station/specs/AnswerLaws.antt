-- What holds at an answer.
use Rattle.std.proofs.Common.{◌≡◌, true, false, Result, Ok, Err, OnOk, OnErr}
use Rattle.std.specs.Result.{is_err}

-- what holds at Ok, where there is no error
pub on_ok : {T F P : Type 0} (r : Result T F) → is_err r ≡ false → OnOk r P → P
on_ok (Ok x) good p = p
on_ok (Err e) good p = absurd (cc good)

-- what holds at an error, where there is one
pub on_err : {T F P : Type 0} (r : Result T F) → is_err r ≡ true → OnErr r P → P
on_err (Ok x) bad p = absurd (cc bad)
on_err (Err e) bad p = p
