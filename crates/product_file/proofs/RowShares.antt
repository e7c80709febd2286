-- The shares of the lead market makers are their row's fault, or else their firms and percents.
use Rattle.std.proofs.Common.{◌≡◌, ℕ, ◌==◌, Bool, true, false, not, nat_le, if◌then◌else◌, List, [], ◌∷◌, ◌++◌, length, map, bytes_eq, slice_index_or, Option, Some, None, is_none, unwrap_or, option_map, ok_or, Result, Ok, Err, refl, sym, ap, ◌∙◌, append_assoc, append-nil}
use Rattle.std.specs.Bool.{Decides}
use Rattle.std.specs.List.{AllByRecursion, list_any}
use Rattle.std.specs.Option.{option_or, option_map_or}
use Rattle.std.proofs.lemmas.Bool.{eqb-true, eq-eqb}
use Rattle.std.proofs.lemmas.Bool.Decides.{same_from_decides}
use Rattle.std.proofs.lemmas.List.{map-append}
use Rattle.std.proofs.lemmas.List.Quantifiers.{position-Some}
use Rattle.std.proofs.lemmas.Slice.Eq.{bytes_eq-Decides}
use Rattle.arrayvec.specs.ArrayVec.{ArrayVec}
use Rattle.gx_base.specs.declared.order.LmmShare.{LmmShare}
use Rattle.step_config.specs.Rules.{has_firm}
use Rattle.toml.specs.Data.{Data, get}
use Rattle.step_config.specs.declared.step.TheConstants.{MOST_SHARES}
use Rattle.product_file.specs.declared.faults.ProductFault.{ProductFault}
use Rattle.product_file.specs.declared.faults.ProductFault.TheVariants.{Missing, Range, Twice, UnknownFirm}
use Rattle.product_file.specs.declared.faults.Key.TheVariants.{Lmm, LmmFirm, LmmPercent}
use Rattle.product_file.specs.Keys.{word_of}
use Rattle.product_file.specs.Values.{text_in, entries_in, text_at, number_at, value_at}
use Rattle.gx_base.specs.FirstFault.{fault_if, first_fault, unless_fault}
use Rattle.product_file.specs.Rows.{always, optional, a_text, an_integer, tables, row, is_table, value_fault, row_fault}
use Rattle.product_file.specs.Ranges.{any, from, at_most}
use Rattle.product_file.specs.ProductRows.{nothing, a_new_name, a_new_firm, share_fault, shares_of_firms}
use Rattle.product_file.specs.ProductValues.{number_of_firm, share_in, shares_in}
use Rattle.product_file.specs.Inner.Keys.{◌>>=◌, where_passes, text_of, needed_number, array_of}
use Rattle.product_file.specs.Inner.Shares.{share_firm, share_of, shares_after, shares_of}
use Rattle.product_file.proofs.Judged.{in_turn, passes, or_none, at_needed_checked, at_optional_checked}
use Rattle.product_file.proofs.Lists.{all_push}
use Rattle.product_file.proofs.FaultsInOrder.{faults_after, each_after}
use Rattle.product_file.proofs.RowValues.{text_kind, tables_kind, number_needed}

-- ---- faults that are none

left_none : (a b : Option ProductFault) → option_or a b ≡ None → a ≡ None
left_none None b e = refl
left_none (Some fault) b e = cc

right_none : (a b : Option ProductFault) → option_or a b ≡ None → b ≡ None
right_none None b e = e
right_none (Some fault) b e = cc

-- ---- firms

-- an entry whose firm is listed
pub record HasFirm (firms : List (List ℕ)) (entry : Data) : Type 0 where
  pub number : ℕ
  pub found : number_of_firm firms (text_at LmmFirm entry) ≡ Some number

module _ (firms : List (List ℕ)) where
  name_there : (name : List ℕ) (i : ℕ) → number_of_firm firms name ≡ Some i → slice_index_or firms i [] ≡ name
  name_there name i e = (bytes_eq-Decides (slice_index_or firms i []) name).0 (position-Some (λ firm. bytes_eq firm name) firms i [] e).1

  -- two firms have the same number where they have the same name
  same_firm : (a b : List ℕ) (i j : ℕ) → number_of_firm firms a ≡ Some i → number_of_firm firms b ≡ Some j → (i == j) ≡ bytes_eq a b
  same_firm a b i j e f =
      let decides : Decides (i == j) (a ≡ b) = (
        (λ t. let same : i ≡ j = eqb-true i j t in sym (name_there a i e) ∙ ap (λ (n : ℕ). slice_index_or firms n []) same ∙ name_there b j f),
        (λ s. let found : Some i ≡ Some j = sym e ∙ ap (number_of_firm firms) s ∙ f in eq-eqb i j (cc)),
      ) in
      same_from_decides (i == j) (bytes_eq a b) decides (bytes_eq-Decides a b)

  named_before : (name : List ℕ) (i : ℕ) (front : List Data) → number_of_firm firms name ≡ Some i → AllByRecursion (HasFirm firms) front
      → has_firm i (map (share_in firms) front) ≡ list_any (λ before. bytes_eq before name) (map (text_at LmmFirm) front)
  named_before name i [] e all = refl
  named_before name i (entry ∷ rest) e all =
      let here : ((share_in firms entry).firm == i) ≡ bytes_eq (text_at LmmFirm entry) name =
      ap (λ (o : Option ℕ). unwrap_or o 0 == i) (all.0).found ∙ same_firm (text_at LmmFirm entry) name (all.0).number i (all.0).found e in
      rw (here, named_before name i rest e (all.1)) refl

  new_firm : (test : Bool) (name : List ℕ) (i : ℕ) → ◌≡◌ {A = Result ℕ ProductFault} (if test then Err (Twice name) else Ok i) (unless_fault (option_or (option_or (fault_if test (Twice name)) None) None) i)
  new_firm true name i = refl
  new_firm false name i = refl

  module _ (front : List Data) (all : AllByRecursion (HasFirm firms) front) where
    by_place : (v : Data) (o : Option ℕ) → number_of_firm firms (text_in v) ≡ o
        → (ok_or o (UnknownFirm LmmFirm) >>= λ i. if has_firm i (map (share_in firms) front) then Err (Twice (slice_index_or firms i [])) else Ok i)
        ≡ unless_fault (first_fault (first_fault (fault_if (is_none o) (UnknownFirm LmmFirm) ∷ a_new_name (map (text_at LmmFirm) front) v ∷ []) ∷ [])) (unwrap_or o 0)
    by_place v None e = refl
    by_place v (Some i) e = rw (name_there (text_in v) i e, named_before (text_in v) i front e all) (new_firm (list_any (λ before. bytes_eq before (text_in v)) (map (text_at LmmFirm) front)) (text_in v) i)

    firm_row : (entry : Data) → share_firm firms (map (share_in firms) front) entry ≡ unless_fault (row_fault entry (row LmmFirm always a_text any (a_new_firm firms (map (text_at LmmFirm) front)))) (share_in firms entry).firm
    unfolding share_firm
    firm_row entry =
        at_needed_checked LmmFirm always a_text any (a_new_firm firms (map (text_at LmmFirm) front)) text_of text_in (text_kind LmmFirm)
        (λ name. ok_or (number_of_firm firms name) (UnknownFirm LmmFirm) >>= λ i. if has_firm i (map (share_in firms) front) then Err (Twice (slice_index_or firms i [])) else Ok i)
        (λ o. unwrap_or (number_of_firm firms (unwrap_or (option_map text_in o) [])) 0)
        (λ v. by_place v (number_of_firm firms (text_in v)) refl) (get (word_of LmmFirm) entry)

    -- ---- a share

    share_row : (entry : Data) → share_of firms (map (share_in firms) front) entry ≡ unless_fault (share_fault firms front entry) (share_in firms entry)
    unfolding share_of
    share_row entry =
        let percents = row_fault entry (row LmmPercent always an_integer (from 1 100) nothing) in
        in_turn (share_firm firms (map (share_in firms) front) entry) (row_fault entry (row LmmFirm always a_text any (a_new_firm firms (map (text_at LmmFirm) front)))) (share_in firms entry).firm
        (λ firm. needed_number LmmPercent 1 100 entry >>= λ percent. Ok (record { firm = firm; percent = percent })) (option_or percents None) (share_in firms entry) (firm_row entry)
        (λ _. in_turn (needed_number LmmPercent 1 100 entry) percents (number_at LmmPercent entry) (λ percent. Ok (record { firm = (share_in firms entry).firm; percent = percent })) None (share_in firms entry) (number_needed LmmPercent 1 100 entry) (λ _. refl))

  -- ---- an entry without fault has a firm

  found_firm : (o : Option ℕ) → fault_if (is_none o) (UnknownFirm LmmFirm) ≡ None → (i : ℕ) × (o ≡ Some i)
  found_firm None e = cc
  found_firm (Some i) e = (i, refl)

  given_firm : (earlier : List (List ℕ)) (o : Option Data) → option_map_or (value_fault (row LmmFirm always a_text any (a_new_firm firms earlier))) o (Some (Missing LmmFirm)) ≡ None → (i : ℕ) × (number_of_firm firms (unwrap_or (option_map text_in o) []) ≡ Some i)
  given_firm earlier None e = cc
  given_firm earlier (Some v) e =
      let unknown = fault_if (is_none (number_of_firm firms (text_in v))) (UnknownFirm LmmFirm) in
      let further = first_fault (unknown ∷ a_new_name earlier v ∷ []) in
      let rest : option_or further None ≡ None = right_none _ (option_or further None) e in
      found_firm (number_of_firm firms (text_in v)) (left_none unknown (first_fault (a_new_name earlier v ∷ [])) (left_none further None rest))

  has_firm_given : (front : List Data) (entry : Data) → share_fault firms front entry ≡ None → HasFirm firms entry
  has_firm_given front entry e =
      let found = given_firm (map (text_at LmmFirm) front) (value_at LmmFirm entry) (left_none (row_fault entry (row LmmFirm always a_text any (a_new_firm firms (map (text_at LmmFirm) front)))) _ e) in
      record { number = found.0; found = found.1 }

  -- ---- all of them

  shares_from : (front entries : List Data) → AllByRecursion (HasFirm firms) front → shares_after firms (map (share_in firms) front) entries ≡ unless_fault (faults_after (share_fault firms) front entries) (record { items = map (share_in firms) (front ++ entries) })
  shares_from front [] all = rw append-nil refl
  shares_from front (entry ∷ rest) all =
      let whole : ArrayVec LmmShare = record { items = map (share_in firms) (front ++ entry ∷ rest) } in
      in_turn (share_of firms (map (share_in firms) front) entry) (share_fault firms front entry) (share_in firms entry)
      (λ share. shares_after firms (map (share_in firms) front ++ share ∷ []) rest) (faults_after (share_fault firms) (front ++ entry ∷ []) rest) whole
      (share_row front all entry)
      (λ none.
      let later = shares_from (front ++ entry ∷ []) rest (all_push (HasFirm firms) front entry all (has_firm_given front entry none)) in
      ap (λ (shares : List LmmShare). shares_after firms shares rest) (sym (map-append (share_in firms) front (entry ∷ [])))
      ∙ later
      ∙ ap (λ (entries : List Data). unless_fault (faults_after (share_fault firms) (front ++ entry ∷ []) rest) (record { items = map (share_in firms) entries })) (append_assoc front (entry ∷ []) rest))

  in_order : (v : Data) → shares_after firms [] (entries_in v) ≡ unless_fault (first_fault (shares_of_firms firms v ∷ [])) (record { items = map (share_in firms) (entries_in v) })
  in_order v =
      shares_from [] (entries_in v) tt
      ∙ ap (λ (fault : Option ProductFault). unless_fault fault (record { items = map (share_in firms) (entries_in v) })) (sym (each_after (share_fault firms) (entries_in v)) ∙ sym (or_none (shares_of_firms firms v)))

  pub shares_row : (fields : Data) → shares_of firms fields ≡ unless_fault (row_fault fields (row Lmm optional tables (at_most MOST_SHARES) (shares_of_firms firms))) (record { items = shares_in firms fields })
  unfolding shares_of
  shares_row fields =
      let few = λ (entries : List Data). where_passes (λ (es : List Data). nat_le (length es) MOST_SHARES) (Range Lmm) entries in
      at_optional_checked Lmm optional tables (at_most MOST_SHARES) (shares_of_firms firms) (array_of is_table) entries_in (tables_kind Lmm)
      (λ entries. few entries >>= shares_after firms [])
      (λ o. record { items = map (share_in firms) (unwrap_or (option_map entries_in o) []) })
      (λ v. in_turn (few (entries_in v)) (fault_if (not (at_most MOST_SHARES v)) (Range Lmm)) (entries_in v) (shares_after firms []) (first_fault (shares_of_firms firms v ∷ [])) (record { items = map (share_in firms) (entries_in v) })
      (passes (at_most MOST_SHARES v) (Range Lmm) (entries_in v)) (λ _. in_order v))
      refl false (get (word_of Lmm) fields)
