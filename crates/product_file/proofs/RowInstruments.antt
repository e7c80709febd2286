-- The instruments of a document are their row's fault, or else what their tables give.
use Rattle.std.proofs.Common.{◌≡◌, ℕ, Bool, true, false, not, nat_le, ◌&&◌, if◌then◌else◌, List, [], ◌∷◌, ◌++◌, length, map, bytes_eq, Option, None, unwrap_or, option_map, Result, Ok, Err, refl, sym, ap, ◌∙◌, append_assoc, append-nil}
use Rattle.std.specs.List.{list_any}
use Rattle.std.specs.Option.{option_or}
use Rattle.std.proofs.lemmas.List.{map-append}
use Rattle.gx_base.specs.Texts.{is_name}
use Rattle.gx_base.specs.declared.names.Listed.{Listed}
use Rattle.toml.specs.Data.{Data, get}
use Rattle.gx_base.specs.declared.limits.TheConstants.{MOST_LOTS, MOST_INSTRUMENTS, MOST_DECIMALS}
use Rattle.step_config.specs.declared.step.TheConstants.{MOST_SHARES}
use Rattle.product_file.specs.declared.limits.TheConstants.{MOST_TICK, MOST_PROTECTION}
use Rattle.product_file.specs.declared.faults.ProductFault.{ProductFault}
use Rattle.product_file.specs.declared.faults.ProductFault.TheVariants.{Range, Twice}
use Rattle.product_file.specs.declared.faults.Key.TheVariants.{Instrument, Name, Decimals, Tick, Protection, Algorithm, TopMin, TopMax, Least, Split, Lmm, Steps}
use Rattle.product_file.specs.Keys.{word_of}
use Rattle.product_file.specs.Values.{text_in, entries_in, text_at, entries_at}
use Rattle.gx_base.specs.FirstFault.{fault_if, first_fault, unless_fault}
use Rattle.product_file.specs.Rows.{always, optional, only_where, a_text, an_integer, texts, tables, Row, row, is_table, row_fault}
use Rattle.product_file.specs.Ranges.{any, from, a_name, has_entries, at_most}
use Rattle.product_file.specs.ProductRows.{nothing, unless_new, a_new_name, a_letter, step_names, shares_of_firms, has_configured_list, lists_split, steps_fault, instrument_fault, instruments_of_firms}
use Rattle.product_file.specs.ProductValues.{listed_in, rule_in}
use Rattle.product_file.specs.Inner.Keys.{◌>>=◌, where_passes, text_of, needed, needed_number, array_of}
use Rattle.product_file.specs.Inner.Instruments.{new_name_of, listed_of, rule_of, InstrumentLists, instruments_after, tables_of, instruments_of}
use Rattle.product_file.proofs.Mapped.{list_any-map}
use Rattle.product_file.proofs.Judged.{in_turn, passes, or_assoc, or_none, bind_assoc, at_needed_checked}
use Rattle.product_file.proofs.FaultsInOrder.{faults_after, each_after}
use Rattle.product_file.proofs.RowValues.{text_kind, tables_kind, number_needed}
use Rattle.product_file.proofs.RowRules.{rule_fault, rule_row}

-- ---- the name

same_names : (name : List ℕ) (front : List Data) → list_any (λ (l : Listed). bytes_eq l.name name) (map listed_in front) ≡ list_any (λ before. bytes_eq before name) (map (text_at Name) front)
same_names name front =
    list_any-map (λ (l : Listed). bytes_eq l.name name) listed_in front
    ∙ sym (list_any-map (λ before. bytes_eq before name) (text_at Name) front)

new_or_twice : (test : Bool) (name : List ℕ) → ◌≡◌ {A = Result (List ℕ) ProductFault} (if test then Err (Twice name) else Ok name) (unless_fault (first_fault (fault_if test (Twice name) ∷ [])) name)
new_or_twice true name = refl
new_or_twice false name = refl

module _ (front : List Data) where
  new_name : (name : List ℕ) → (if list_any (λ (l : Listed). bytes_eq l.name name) (map listed_in front) then Err (Twice name) else Ok name) ≡ unless_fault (first_fault (unless_new (map (text_at Name) front) name ∷ [])) name
  new_name name = rw (same_names name front) (new_or_twice (list_any (λ before. bytes_eq before name) (map (text_at Name) front)) name)

  name_row : (fields : Data) → new_name_of (map listed_in front) fields ≡ unless_fault (row_fault fields (row Name always a_text a_name (a_new_name (map (text_at Name) front)))) (text_at Name fields)
  unfolding new_name_of
  name_row fields =
      let unless_listed = λ (name : List ℕ). if list_any (λ (l : Listed). bytes_eq l.name name) (map listed_in front) then Err (Twice name) else Ok name in
      bind_assoc (needed Name text_of fields) (where_passes is_name (Range Name)) unless_listed
      ∙ at_needed_checked Name always a_text a_name (a_new_name (map (text_at Name) front)) text_of text_in (text_kind Name)
      (λ text. where_passes is_name (Range Name) text >>= unless_listed) (λ o. unwrap_or (option_map text_in o) [])
      (λ v. in_turn (where_passes is_name (Range Name) (text_in v)) (fault_if (not (a_name v)) (Range Name)) (text_in v) unless_listed (first_fault (a_new_name (map (text_at Name) front) v ∷ [])) (text_in v)
      (passes (is_name (text_in v)) (Range Name) (text_in v)) (λ _. new_name (text_in v)))
      (get (word_of Name) fields)

  abbrev pub listed_fault : Data → Option ProductFault
  listed_fault fields =
      first_fault
      (row_fault fields (row Name always a_text a_name (a_new_name (map (text_at Name) front)))
      ∷ row_fault fields (row Decimals always an_integer (from 0 MOST_DECIMALS) nothing)
      ∷ [])

  listed_row : (fields : Data) → listed_of (map listed_in front) fields ≡ unless_fault (listed_fault fields) (listed_in fields)
  unfolding listed_of
  listed_row fields =
      in_turn (new_name_of (map listed_in front) fields) _ _ _ _ (listed_in fields) (name_row fields) (λ _.
      in_turn (needed_number Decimals 0 MOST_DECIMALS fields) _ _ _ None (listed_in fields) (number_needed Decimals 0 MOST_DECIMALS fields) (λ _. refl))

-- ---- all of them

-- the faults of a table in the order of its rows, as its name and decimals have them and then its rule
flat : (name decimals tick protection letter min max least split lmm names steps : Option ProductFault)
    → first_fault (first_fault (name ∷ decimals ∷ tick ∷ protection ∷ letter ∷ min ∷ max ∷ least ∷ split ∷ lmm ∷ names ∷ []) ∷ steps ∷ [])
    ≡ option_or (first_fault (name ∷ decimals ∷ [])) (first_fault (tick ∷ protection ∷ letter ∷ first_fault (min ∷ max ∷ least ∷ split ∷ lmm ∷ []) ∷ names ∷ steps ∷ []))
flat name decimals tick protection letter min max least split lmm names steps = simp or_assoc

module _ (firms : List (List ℕ)) where
  in_parts : (front : List Data) (fields : Data) → instrument_fault firms front fields ≡ option_or (listed_fault front fields) (rule_fault firms fields)
  in_parts front fields =
      let fault = λ (key_row : Row). row_fault fields key_row in
      flat
      (fault (row Name always a_text a_name (a_new_name (map (text_at Name) front))))
      (fault (row Decimals always an_integer (from 0 MOST_DECIMALS) nothing))
      (fault (row Tick always an_integer (from 1 MOST_TICK) nothing))
      (fault (row Protection always an_integer (from 0 MOST_PROTECTION) nothing))
      (fault (row Algorithm always a_text any a_letter))
      (fault (row TopMin optional an_integer (from 1 MOST_LOTS) nothing))
      (fault (row TopMax optional an_integer (from 1 MOST_LOTS) nothing))
      (fault (row Least optional an_integer (from 1 MOST_LOTS) nothing))
      (fault (row Split (only_where lists_split) an_integer (from 1 100) nothing))
      (fault (row Lmm optional tables (at_most MOST_SHARES) (shares_of_firms firms)))
      (fault (row Steps (only_where has_configured_list) texts any step_names))
      (steps_fault firms fields)

  abbrev pub lists_in : List Data → InstrumentLists
  lists_in entries = record { listed = map listed_in entries; rules = map (rule_in firms) entries }

  one_more : (front : List Data) (fields : Data) → record { listed = map listed_in front ++ listed_in fields ∷ []; rules = map (rule_in firms) front ++ rule_in firms fields ∷ [] } ≡ lists_in (front ++ fields ∷ [])
  one_more front fields = rw (map-append listed_in front (fields ∷ []), map-append (rule_in firms) front (fields ∷ [])) refl

  instruments_from : (front entries : List Data) → instruments_after firms (lists_in front) entries ≡ unless_fault (faults_after (instrument_fault firms) front entries) (lists_in (front ++ entries))
  instruments_from front [] = rw append-nil refl
  instruments_from front (fields ∷ rest) =
      let later = faults_after (instrument_fault firms) (front ++ fields ∷ []) rest in
      let whole = lists_in (front ++ fields ∷ rest) in
      let next : instruments_after firms (record { listed = map listed_in front ++ listed_in fields ∷ []; rules = map (rule_in firms) front ++ rule_in firms fields ∷ [] }) rest ≡ unless_fault later whole =
      ap (λ (lists : InstrumentLists). instruments_after firms lists rest) (one_more front fields)
      ∙ instruments_from (front ++ fields ∷ []) rest
      ∙ ap (λ (entries : List Data). unless_fault later (lists_in entries)) (append_assoc front (fields ∷ []) rest) in
      let judged : instruments_after firms (lists_in front) (fields ∷ rest) ≡ unless_fault (option_or (listed_fault front fields) (option_or (rule_fault firms fields) later)) whole =
      in_turn (listed_of (map listed_in front) fields) _ _ _ _ whole (listed_row front fields) (λ _.
      in_turn (rule_of firms fields) _ _ _ later whole (rule_row firms fields) (λ _. next)) in
      judged ∙ ap (λ (fault : Option ProductFault). unless_fault fault whole)
      (sym (or_assoc (listed_fault front fields) (rule_fault firms fields) later) ∙ ap (λ (fault : Option ProductFault). option_or fault later) (sym (in_parts front fields)))

  in_order : (v : Data) → instruments_after firms (lists_in []) (entries_in v) ≡ unless_fault (first_fault (instruments_of_firms firms v ∷ [])) (lists_in (entries_in v))
  in_order v =
      instruments_from [] (entries_in v)
      ∙ ap (λ (fault : Option ProductFault). unless_fault fault (lists_in (entries_in v))) (sym (each_after (instrument_fault firms) (entries_in v)) ∙ sym (or_none (instruments_of_firms firms v)))

  pub instruments_row : (document : Data) → instruments_of firms document ≡ unless_fault (row_fault document (row Instrument always tables (has_entries 1 MOST_INSTRUMENTS) (instruments_of_firms firms))) (lists_in (entries_at Instrument document))
  unfolding instruments_of tables_of
  instruments_row document =
      let few = λ (entries : List Data). where_passes (λ (ts : List Data). nat_le 1 (length ts) && nat_le (length ts) MOST_INSTRUMENTS) (Range Instrument) entries in
      bind_assoc (needed Instrument (array_of is_table) document) few (instruments_after firms (lists_in []))
      ∙ at_needed_checked Instrument always tables (has_entries 1 MOST_INSTRUMENTS) (instruments_of_firms firms) (array_of is_table) entries_in (tables_kind Instrument)
      (λ entries. few entries >>= instruments_after firms (lists_in [])) (λ o. lists_in (unwrap_or (option_map entries_in o) []))
      (λ v. in_turn (few (entries_in v)) (fault_if (not (has_entries 1 MOST_INSTRUMENTS v)) (Range Instrument)) (entries_in v) (instruments_after firms (lists_in [])) (first_fault (instruments_of_firms firms v ∷ [])) (lists_in (entries_in v))
      (passes (has_entries 1 MOST_INSTRUMENTS v) (Range Instrument) (entries_in v)) (λ _. in_order v))
      (get (word_of Instrument) document)
