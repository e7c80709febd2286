-- One entry further in the shares of an instrument.
use Rattle.std.proofs.Common.{◌≡◌, ℕ, ◌+◌, ◌<◌, ◌≤◌, true, false, nat_le, List, [], ◌∷◌, ◌++◌, length, get_or, map, drop, Ok, Err, refl, ap, ◌∙◌, arith}
use Rattle.std.proofs.lemmas.Bool.Decides.{nat_tests}
use Rattle.std.proofs.lemmas.List.{length-map}
use Rattle.gx_base.specs.declared.order.LmmShare.{LmmShare}
use Rattle.toml.specs.Data.{Data}
use Rattle.toml.specs.View.{view}
use Rattle.toml.specs.declared.value.Value.{Value}
use Rattle.step_config.specs.declared.step.TheConstants.{MOST_SHARES}
use Rattle.product_file.specs.declared.faults.ProductFault.{ProductFault}
use Rattle.product_file.specs.declared.faults.Key.TheVariants.{Lmm}
use Rattle.product_file.specs.Rows.{is_table}
use Rattle.product_file.specs.Inner.Keys.{array_if}
use Rattle.product_file.specs.Inner.Shares.{share_of, shares_after, shares_of}
use Rattle.product_file.proofs.Mapped.{drop-mapped}

from_entries : (firms : List (List ℕ)) (fields : Data) (entries : List Data) → Ok entries ≡ array_if false is_table Lmm fields → nat_le (length entries) MOST_SHARES ≡ true → shares_of firms fields ≡ shares_after firms [] entries
unfolding shares_of
from_entries firms fields entries found few = rw (← found, few) refl

with_next : (firms : List (List ℕ)) (earlier : List LmmShare) (entry : Data) (rest : List Data) (share : LmmShare) → Ok share ≡ share_of firms earlier entry → shares_after firms earlier (entry ∷ rest) ≡ shares_after firms (earlier ++ share ∷ []) rest
with_next firms earlier entry rest share e = rw (← e) refl

without_next : (firms : List (List ℕ)) (earlier : List LmmShare) (entry : Data) (rest : List Data) (fault : ProductFault) → Err fault ≡ share_of firms earlier entry → shares_after firms earlier (entry ∷ rest) ≡ Err fault
without_next firms earlier entry rest fault e = rw (← e) refl

-- the entries before the i-th gave the earlier shares
module _ (firms : List (List ℕ)) (entries : List Value) (earlier : List LmmShare) (i : ℕ) (entry : Value) (within : i < length entries) (is : entry ≡ get_or entries i entry)
    (so_far : shares_after firms [] (map view entries) ≡ shares_after firms earlier (drop i (map view entries))) where
  here : shares_after firms [] (map view entries) ≡ shares_after firms earlier (view entry ∷ drop (i + 1) (map view entries))
  here = so_far ∙ ap (shares_after firms earlier) (drop-mapped view entries i entry within is)

  pub next_share : (share : LmmShare) → Ok share ≡ share_of firms earlier (view entry) → shares_after firms [] (map view entries) ≡ shares_after firms (earlier ++ share ∷ []) (drop (i + 1) (map view entries))
  next_share share e = here ∙ with_next firms earlier (view entry) (drop (i + 1) (map view entries)) share e

  pub no_share : (fields : Data) (fault : ProductFault) → Ok (map view entries) ≡ array_if false is_table Lmm fields → length entries ≤ MOST_SHARES → Err fault ≡ share_of firms earlier (view entry) → shares_of firms fields ≡ Err fault
  no_share fields fault found few e =
      let short : nat_le (length (map view entries)) MOST_SHARES ≡ true = rw (length-map entries view) (grind (arith, nat_tests)) in
      from_entries firms fields (map view entries) found short ∙ here ∙ without_next firms earlier (view entry) (drop (i + 1) (map view entries)) fault e
