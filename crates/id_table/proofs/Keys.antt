-- When the map takes two keys for one.
use Rattle.std.proofs.Common.{◌≡◌, ℕ, Bool, true, List, refl, ap}
use Rattle.std.specs.declared.cmp.Ordering.{Ordering}
use Rattle.std.specs.declared.cmp.Ordering.TheVariants.{Less, Equal, Greater}
use Rattle.std.specs.Ordering.{nat_cmp, eq_by_cmp, is_eq}
use Rattle.std.specs.Cmp.{tied_itself}
use Rattle.std.specs.Cmp.Lexicographic.{slice_cmp, nat_list_cmp_total}
use Rattle.std.specs.FinMap.{slice_cmp-IsAntisymmetric, nat_cmp-IsAntisymmetric}

is_equal : (r : Ordering) → is_eq r ≡ true → r ≡ Equal
is_equal Less e = cc
is_equal Equal e = refl
is_equal Greater e = cc

abbrev pub same_key : List ℕ → List ℕ → Bool
same_key q k = eq_by_cmp (slice_cmp nat_cmp) q k

pub same_key-true : (q k : List ℕ) → same_key q k ≡ true → q ≡ k
same_key-true q k e = slice_cmp-IsAntisymmetric nat_cmp-IsAntisymmetric q k (is_equal _ e)

pub same_key-itself : (q : List ℕ) → same_key q q ≡ true
same_key-itself q = ap is_eq (tied_itself nat_list_cmp_total q)
