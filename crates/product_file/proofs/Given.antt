-- What is known of the steps of a reading that gave something.
use Rattle.std.proofs.Common.{◌≡◌, Bool, true, false, cond, Option, Some, None, ok_or, Result, Ok, Err, refl}
use Rattle.product_file.specs.declared.faults.ProductFault.{ProductFault}
use Rattle.product_file.specs.Inner.Keys.{◌>>=◌}

-- both steps gave something
pub both_gave : {A B : Type 0} (r : Result A ProductFault) (f : A → Result B ProductFault) (b : B) → (r >>= f) ≡ Ok b → (a : A) × (r ≡ Ok a) × (f a ≡ Ok b)
both_gave (Ok a) f b e = (a, refl, e)
both_gave (Err fault) f b e = cc

-- the test passed
pub test_passed : {A : Type 0} (t : Bool) (a : A) (fault : ProductFault) (b : A) → ◌≡◌ {A = Result A ProductFault} (cond t (Ok a) (Err fault)) (Ok b) → (t ≡ true) × (a ≡ b)
test_passed true a fault b e = (refl, cc)
test_passed false a fault b e = cc

-- there was a value
pub was_there : {A : Type 0} (o : Option A) (fault : ProductFault) (a : A) → ◌≡◌ {A = Result A ProductFault} (ok_or o fault) (Ok a) → o ≡ Some a
was_there None fault a e = cc
was_there (Some x) fault a e = cc
