-- No two instruments of a product that a text gives have one name.
use Rattle.std.proofs.Common.{◌≡◌, ℕ, ◌+◌, Bool, true, false, cond, not, ◌||◌, nat_lt, List, [], ◌∷◌, ◌++◌, map, take, Option, Some, None, option_map, unwrap_or, Ok, Err, length, bytes_eq, refl, sym, ap, subst, ◌∙◌, append_assoc, append-nil, length-append}
use Rattle.std.proofs.lemmas.List.{map-append}
use Rattle.std.specs.List.{IsDistinct, AllByRecursion, list_any, enumerate_from}
use Rattle.std.specs.Option.{option_or, option_map_or}
use Rattle.gx_base.specs.FirstFault.{fault_if, first_fault, unless_fault}
use Rattle.gx_base.specs.declared.limits.TheConstants.{MOST_INSTRUMENTS}
use Rattle.gx_base.specs.declared.names.Listed.{Listed}
use Rattle.toml.specs.Data.{Data}
use Rattle.product_file.specs.declared.limits.TheConstants.{LONGEST_TEXT, MOST_ORDERS, LEAST_JOURNAL, MOST_JOURNAL}
use Rattle.product_file.specs.declared.faults.Key.{Key}
use Rattle.product_file.specs.declared.faults.Key.TheVariants.{Exchange, Firms, MaxOrders, JournalLimit, Instrument, Name}
use Rattle.product_file.specs.declared.faults.ProductFault.{ProductFault}
use Rattle.product_file.specs.declared.faults.ProductFault.TheVariants.{Missing, Range, Twice}
use Rattle.product_file.specs.declared.faults.ProductFault.TheVariants as fault
use Rattle.product_file.specs.Values.{text_in, entries_in, value_at, text_at, texts_at, entries_at}
use Rattle.product_file.specs.Ranges.{from, a_name, has_entries, firm_names}
use Rattle.product_file.specs.Rows.{always, optional, ValueKind, is_of, row, value_fault, row_fault, table_fault, a_text, an_integer, texts, tables}
use Rattle.product_file.specs.ProductRows.{nothing, a_new_name, each_once, instrument_rows, instrument_fault, instruments_of_firms, document_fault}
use Rattle.product_file.specs.ProductValues.{listed_in, product_in}
use Rattle.product_file.specs.ProductTexts.{document_of, product_of_data, product_of}
use Rattle.product_file.specs.Products.{ProductLists}

-- ---- no fault

module _ {F : Type 0} where
  none-first : (a b : Option F) → option_or a b ≡ None → a ≡ None
  none-first None b h = refl
  none-first (Some f) b h = h

  none-others : (a b : Option F) → option_or a b ≡ None → b ≡ None
  none-others None b h = h
  none-others (Some f) b h = absurd (let e : Some f ≡ None = h in cc)

  unless-if : (b : Bool) (f : F) → fault_if b f ≡ None → b ≡ false
  unless-if false f h = refl
  unless-if true f h = absurd (let e : Some f ≡ None = h in cc)

-- the value at a key that has to be there, of which a further rule holds
record HasValue (key : Key) (further : Data → Option ProductFault) (fields : Data) : Type 0 where
  value : Data
  is : value_at key fields ≡ Some value
  holds : further value ≡ None

value-of : (key : Key) (kind : ValueKind) (range : Data → Bool) (further : Data → Option ProductFault) (fields : Data) → row_fault fields (row key always kind range further) ≡ None → HasValue key further fields
value-of key kind range further fields h =
    let r = row key always kind range further in
    let go : (o : Option Data) → value_at key fields ≡ o → option_map_or (value_fault r) o (Some (Missing key)) ≡ None → HasValue key further fields = elim [
      | None ↦ λ is k. absurd (let e : Some (Missing key) ≡ None = k in cc)
      | Some v ↦ λ is k.
          let behind = none-others (fault_if (not (is_of kind v)) (fault.Kind key)) (option_or (fault_if (not (range v)) (Range key)) (option_or (further v) None)) k in
          let last = none-others (fault_if (not (range v)) (Range key)) (option_or (further v) None) behind in
          record { value = v; is = is; holds = none-first (further v) None last }
    ] in go (value_at key fields) refl h

-- ---- keys that differ

neither : (a b : Bool) → (a || b) ≡ false → (a ≡ false) × (b ≡ false)
neither true b h = absurd (let e : true ≡ false = h in cc)
neither false b h = (refl, h)

module _ {K : Type 0} (same : K → K → Bool) where
  all-push : (P : K → Type 0) (ks : List K) (k : K) → AllByRecursion P ks → P k → AllByRecursion P (ks ++ k ∷ [])
  all-push P [] k all h = (h, tt)
  all-push P (j ∷ ks) k all h = (all.0, all-push P ks k all.1 h)

  -- one more key, which none of the others is
  distinct-push : (ks : List K) (k : K) → IsDistinct same ks → list_any (λ j. same j k) ks ≡ false → IsDistinct same (ks ++ k ∷ [])
  unfolding IsDistinct
  distinct-push [] k differ h = (tt, tt)
  distinct-push (j ∷ ks) k differ h =
      let parts = neither (same j k) (list_any (λ i. same i k) ks) h in
      (all-push (λ i. same j i ≡ false) ks k differ.0 parts.0, distinct-push ks k differ.1 parts.1)

  distinct-none : IsDistinct same []
  unfolding IsDistinct
  distinct-none = tt

take-front : {X : Type 0} (front xs : List X) → take (length front) (front ++ xs) ≡ front
take-front [] [] = refl
take-front [] (x ∷ xs) = refl
take-front (y ∷ front) xs = ap (λ (ys : List _). y ∷ ys) (take-front front xs)

-- where no entry has a fault, each has a key that none before it has
module _ {X K : Type 0} (same : K → K → Bool) (key : X → K) (fault_after : List X → X → Option ProductFault) where
  abbrev IsNew : Type 0
  IsNew = (earlier : List X) (x : X) → fault_after earlier x ≡ None → list_any (λ k. same k (key x)) (map key earlier) ≡ false

  keys-differ : IsNew → (all : List X) (k : ℕ) (front xs : List X) → all ≡ front ++ xs → k ≡ length front → IsDistinct same (map key front)
      → first_fault (map (λ (e : ℕ × X). fault_after (take e.0 all) e.1) (enumerate_from k xs)) ≡ None → IsDistinct same (map key all)
  keys-differ new all k front [] are count differ h = subst (λ (ys : List X). IsDistinct same (map key ys)) (sym (are ∙ append-nil front)) differ
  keys-differ new all k front (x ∷ xs) are count differ h =
      let before : take k all ≡ front = ap (λ (n : ℕ). take n all) count ∙ ap (take (length front)) are ∙ take-front front (x ∷ xs) in
      let none = subst (λ (ys : List X). list_any (λ k. same k (key x)) (map key ys) ≡ false) before (new (take k all) x (none-first _ _ h)) in
      keys-differ new all (k + 1) (front ++ x ∷ []) xs (are ∙ sym (append_assoc front (x ∷ []) xs)) (ap (λ (n : ℕ). n + 1) count ∙ sym (length-append front (x ∷ [])))
      (subst (IsDistinct same) (sym (map-append key front (x ∷ []))) (distinct-push same (map key front) (key x) differ none))
      (none-others _ _ h)

-- ---- instruments

entry-new : (firms : List (List ℕ)) (earlier : List Data) (fields : Data) → instrument_fault firms earlier fields ≡ None → list_any (λ other. bytes_eq other (text_at Name fields)) (map (text_at Name) earlier) ≡ false
entry-new firms earlier fields h =
    let names = map (text_at Name) earlier in
    let rows = none-first (table_fault (instrument_rows firms names) fields) _ h in
    let name = value-of Name a_text a_name (a_new_name names) fields (none-first _ _ rows) in
    let text : text_at Name fields ≡ text_in name.value = ap (λ (o : Option Data). unwrap_or (option_map text_in o) []) name.is in
    subst (λ (t : List ℕ). list_any (λ other. bytes_eq other t) names ≡ false) (sym text)
    (unless-if (list_any (λ other. bytes_eq other (text_in name.value)) names) (Twice (text_in name.value)) name.holds)

names-of : (entries : List Data) → map (λ (l : Listed). l.name) (map listed_in entries) ≡ map (text_at Name) entries
names-of [] = refl
names-of (fields ∷ entries) = ap (λ (names : List (List ℕ)). text_at Name fields ∷ names) (names-of entries)

abbrev NamesDiffer : ProductLists → Type 0
NamesDiffer product = IsDistinct bytes_eq (map (λ (l : Listed). l.name) product.names.instruments)

-- ---- a document

document-names-differ : (document : Data) → document_fault document ≡ None → NamesDiffer (product_in document)
document-names-differ document h =
    let firms = texts_at Firms document in
    let of_firms = row_fault document (row Firms always texts firm_names each_once) in
    let of_orders = row_fault document (row MaxOrders optional an_integer (from 1 MOST_ORDERS) nothing) in
    let of_journal = row_fault document (row JournalLimit optional an_integer (from LEAST_JOURNAL MOST_JOURNAL) nothing) in
    let of_instruments = row_fault document (row Instrument always tables (has_entries 1 MOST_INSTRUMENTS) (instruments_of_firms firms)) in
    let last = option_or of_instruments None in
    let not_exchange = none-others (row_fault document (row Exchange always a_text a_name nothing)) (option_or of_firms (option_or of_orders (option_or of_journal last))) h in
    let not_firms = none-others of_firms (option_or of_orders (option_or of_journal last)) not_exchange in
    let not_orders = none-others of_orders (option_or of_journal last) not_firms in
    let not_journal = none-others of_journal last not_orders in
    let found = value-of Instrument tables (has_entries 1 MOST_INSTRUMENTS) (instruments_of_firms firms) document (none-first of_instruments None not_journal) in
    let entries : entries_at Instrument document ≡ entries_in found.value = ap (λ (o : Option Data). unwrap_or (option_map entries_in o) []) found.is in
    let differ = keys-differ bytes_eq (text_at Name) (instrument_fault firms) (entry-new firms) (entries_in found.value) 0 [] (entries_in found.value) refl refl (distinct-none bytes_eq) found.holds in
    subst (λ (tables : List Data). IsDistinct bytes_eq (map (λ (l : Listed). l.name) (map listed_in tables))) (sym entries)
    (subst (IsDistinct bytes_eq) (sym (names-of (entries_in found.value))) differ)

-- ---- a text

data-names-differ : (data_ : Option Data) (product : ProductLists) → product_of_data data_ ≡ Ok product → NamesDiffer product
data-names-differ None product h = absurd (let e : Err _ ≡ Ok product = h in cc)
data-names-differ (Some document) product h =
    let go : (f : Option ProductFault) → document_fault document ≡ f → unless_fault f (product_in document) ≡ Ok product → NamesDiffer product = elim [
      | None ↦ λ is k.
          let e : Ok (product_in document) ≡ Ok product = k in
          let same : product_in document ≡ product = cc in
          subst NamesDiffer same (document-names-differ document is)
      | Some f ↦ λ is k. absurd (let e : Err f ≡ Ok product = k in cc)
    ] in go (document_fault document) refl h

pub names-differ : (text : List ℕ) (product : ProductLists) → product_of text ≡ Ok product → IsDistinct bytes_eq (map (λ (l : Listed). l.name) product.names.instruments)
unfolding product_of
names-differ text product h =
    let go : (b : Bool) → cond b (Err fault.TooLong) (product_of_data (document_of text)) ≡ Ok product → NamesDiffer product = elim [
      | true ↦ λ k. absurd (let e : Err fault.TooLong ≡ Ok product = k in cc)
      | false ↦ λ k. data-names-differ (document_of text) product k
    ] in go (nat_lt LONGEST_TEXT (length text)) h
