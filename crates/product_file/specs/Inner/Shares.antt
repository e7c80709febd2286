-- The shares of an instrument's lead market makers, step by step.
use Rattle.std.specs.Prelude.{ℕ, false, nat_le, if◌then◌else◌, List, [], ◌∷◌, ◌++◌, length, bytes_eq, position, slice_index_or, ok_or, Result, Ok, Err}
use Rattle.arrayvec.specs.ArrayVec.{ArrayVec}
use Rattle.gx_base.specs.declared.order.LmmShare.{LmmShare}
use Rattle.step_config.specs.Rules.{has_firm}
use Rattle.toml.specs.Data.{Data}
use Rattle.step_config.specs.declared.step.TheConstants.{MOST_SHARES}
use Rattle.product_file.specs.declared.faults.ProductFault.{ProductFault}
use Rattle.product_file.specs.declared.faults.ProductFault.TheVariants.{Range, Twice, UnknownFirm}
use Rattle.product_file.specs.declared.faults.Key.TheVariants.{Lmm, LmmFirm, LmmPercent}
use Rattle.product_file.specs.Rows.{is_table}
use Rattle.product_file.specs.Inner.Keys.{◌>>=◌, where_passes, needed, needed_number, text_of, array_if}

-- the number of the firm that an entry names: one that is listed, and that no earlier entry names
unfoldable pub share_firm : List (List ℕ) → List LmmShare → Data → Result ℕ ProductFault
share_firm firms earlier entry = do
  name ← needed LmmFirm text_of entry
  firm ← ok_or (position (λ listed. bytes_eq listed name) firms) (UnknownFirm LmmFirm)
  if has_firm firm earlier then Err (Twice (slice_index_or firms firm [])) else Ok firm

-- the share of an entry: its firm, and after that its percent
unfoldable pub share_of : List (List ℕ) → List LmmShare → Data → Result LmmShare ProductFault
share_of firms earlier entry = do
  firm ← share_firm firms earlier entry
  percent ← needed_number LmmPercent 1 100 entry
  Ok (record { firm = firm; percent = percent })

-- the shares of these entries, in their order, where those of `earlier` stand before all of them
abbrev pub shares_after : List (List ℕ) → List LmmShare → List Data → Result (ArrayVec LmmShare) ProductFault
shares_after firms earlier [] = Ok (record { items = earlier })
shares_after firms earlier (entry ∷ rest) = share_of firms earlier entry >>= λ share. shares_after firms (earlier ++ share ∷ []) rest

-- the shares of an instrument, of which there are at most MOST_SHARES, and none where the key is absent
unfoldable pub shares_of : List (List ℕ) → Data → Result (ArrayVec LmmShare) ProductFault
shares_of firms fields = do
  entries ← array_if false is_table Lmm fields
  few ← where_passes (λ (es : List Data). nat_le (length es) MOST_SHARES) (Range Lmm) entries
  shares_after firms [] few
