-- What the numbers and the LMM shares of a document are like.
use Rattle.std.proofs.Common.{◌≡◌, ℕ, ◌≤◌, ◌<◌, ℤ, pos, negsuc, unsigned_abs, int_le, Bool, true, false, cond, nat_le, List, [], ◌∷◌, ◌++◌, length, position, slice_index_or, bytes_eq, ok_or, Ok, Err, subst, arith}
use Rattle.std.specs.List.{AllByRecursion}
use Rattle.std.proofs.lemmas.Bool.{and_parts}
use Rattle.std.proofs.lemmas.Bool.Decides.{nat_tests}
use Rattle.arrayvec.specs.ArrayVec.{ArrayVec}
use Rattle.gx_base.specs.declared.order.LmmShare.{LmmShare}
use Rattle.step_config.specs.Rules.{has_firm}
use Rattle.toml.specs.Data.{Data, get, as_integer}
use Rattle.step_config.specs.declared.step.TheConstants.{MOST_SHARES}
use Rattle.product_file.specs.declared.faults.ProductFault.{ProductFault}
use Rattle.product_file.specs.declared.faults.ProductFault.TheVariants.{Missing, Kind, Range, Twice, UnknownFirm}
use Rattle.product_file.specs.declared.faults.Key.{Key}
use Rattle.product_file.specs.declared.faults.Key.TheVariants.{Lmm, LmmFirm, LmmPercent}
use Rattle.product_file.specs.Keys.{word_of}
use Rattle.product_file.specs.Rows.{is_table}
use Rattle.product_file.specs.Ranges.{is_in_range}
use Rattle.product_file.specs.Inner.Keys.{◌>>=◌, where_passes, number_of, needed, needed_number, text_of, array_if}
use Rattle.product_file.specs.Inner.Shares.{share_firm, share_of, shares_after, shares_of}
use Rattle.product_file.proofs.Given.{both_gave, test_passed, was_there}
use Rattle.product_file.proofs.Lists.{all_push, place_within}

-- ---- numbers

pub bounds : (low high : ℕ) (z : ℤ) → is_in_range low high z ≡ true → (low ≤ unsigned_abs z) × (unsigned_abs z ≤ high)
bounds low high (pos n) e =
    let (above, below) = and_parts (int_le (pos low) (pos n)) (int_le (pos n) (pos high)) e in
    (grind (arith, nat_tests), grind (arith, nat_tests))
bounds low high (negsuc n) e = cc

pub number_within : (key : Key) (low high : ℕ) (value : Data) (n : ℕ) → number_of key low high value ≡ Ok n → (low ≤ n) × (n ≤ high)
unfolding number_of
number_within key low high value n e =
    let (z, _, rest) = both_gave (ok_or (as_integer value) (Kind key)) (λ z. where_passes (is_in_range low high) (Range key) z >>= λ within. Ok (unsigned_abs within)) n e in
    let (within, tested, made) = both_gave (where_passes (is_in_range low high) (Range key) z) (λ within. Ok (unsigned_abs within)) n rest in
    let (test, same) = test_passed (is_in_range low high z) z (Range key) within tested in
    let is : unsigned_abs z ≡ n = cc in
    subst (λ (m : ℕ). (low ≤ m) × (m ≤ high)) is (bounds low high z test)

pub needed_within : (key : Key) (low high : ℕ) (fields : Data) (n : ℕ) → needed_number key low high fields ≡ Ok n → (low ≤ n) × (n ≤ high)
needed_within key low high fields n e =
    let (value, _, read) = both_gave (ok_or (get (word_of key) fields) (Missing key)) (number_of key low high) n e in
    number_within key low high value n read

-- ---- shares

abbrev pub IsListed : List (List ℕ) → LmmShare → Type 0
IsListed firms share = share.firm < length firms

unless_twice : (t : Bool) (fault : ProductFault) (firm given : ℕ) → cond t (Err fault) (Ok firm) ≡ Ok given → firm ≡ given
unless_twice true fault firm given e = cc
unless_twice false fault firm given e = cc

listed_firm : (firms : List (List ℕ)) (earlier : List LmmShare) (entry : Data) (firm : ℕ) → share_firm firms earlier entry ≡ Ok firm → firm < length firms
unfolding share_firm
listed_firm firms earlier entry firm e =
    let (name, _, rest) = both_gave (needed LmmFirm text_of entry) (λ name. ok_or (position (λ listed. bytes_eq listed name) firms) (UnknownFirm LmmFirm) >>= λ at. cond (has_firm at earlier) (Err (Twice (slice_index_or firms at []))) (Ok at)) firm e in
    let (at, found, new) = both_gave (ok_or (position (λ listed. bytes_eq listed name) firms) (UnknownFirm LmmFirm)) (λ at. cond (has_firm at earlier) (Err (Twice (slice_index_or firms at []))) (Ok at)) firm rest in
    let same = unless_twice (has_firm at earlier) (Twice (slice_index_or firms at [])) at firm new in
    subst (λ (n : ℕ). n < length firms) same (place_within (λ listed. bytes_eq listed name) firms at (was_there (position (λ listed. bytes_eq listed name) firms) (UnknownFirm LmmFirm) at found))

listed_share : (firms : List (List ℕ)) (earlier : List LmmShare) (entry : Data) (share : LmmShare) → share_of firms earlier entry ≡ Ok share → IsListed firms share
unfolding share_of
listed_share firms earlier entry share e =
    let (firm, given, rest) = both_gave (share_firm firms earlier entry) (λ firm. needed_number LmmPercent 1 100 entry >>= λ percent. Ok (record { firm = firm; percent = percent })) share e in
    let (percent, _, made) = both_gave (needed_number LmmPercent 1 100 entry) (λ percent. Ok (record { firm = firm; percent = percent })) share rest in
    let same : firm ≡ share.firm = cc in
    subst (λ (n : ℕ). n < length firms) same (listed_firm firms earlier entry firm given)

listed_after : (firms : List (List ℕ)) (earlier : List LmmShare) (entries : List Data) (shares : ArrayVec LmmShare) → shares_after firms earlier entries ≡ Ok shares → AllByRecursion (IsListed firms) earlier → AllByRecursion (IsListed firms) shares.items
listed_after firms earlier [] shares e all =
    let same : earlier ≡ shares.items = cc in
    subst (AllByRecursion (IsListed firms)) same all
listed_after firms earlier (entry ∷ rest) shares e all =
    let (share, given, more) = both_gave (share_of firms earlier entry) (λ share. shares_after firms (earlier ++ share ∷ []) rest) shares e in
    listed_after firms (earlier ++ share ∷ []) rest shares more (all_push (IsListed firms) earlier share all (listed_share firms earlier entry share given))

pub listed_shares : (firms : List (List ℕ)) (fields : Data) (shares : ArrayVec LmmShare) → shares_of firms fields ≡ Ok shares → AllByRecursion (IsListed firms) shares.items
unfolding shares_of
listed_shares firms fields shares e =
    let few = λ (entries : List Data). where_passes (λ (es : List Data). nat_le (length es) MOST_SHARES) (Range Lmm) entries in
    let (entries, _, rest) = both_gave (array_if false is_table Lmm fields) (λ entries. few entries >>= shares_after firms []) shares e in
    let (kept, _, after) = both_gave (few entries) (shares_after firms []) shares rest in
    listed_after firms [] kept shares after tt
