-- Each product that a text gives has names: those of the exchange, of the firms and of the instruments, with few decimals.
use Rattle.std.proofs.Common.{◌≡◌, ℕ, ◌+◌, ◌≤◌, Bool, true, false, cond, not, ◌&&◌, nat_lt, int_le, ℤ, pos, unsigned_abs, List, [], ◌∷◌, map, take, Option, Some, None, option_map, unwrap_or, Ok, Err, length, bytes_eq, codes, IsTrue, refl, sym, ap, subst, leb-true}
use Rattle.std.proofs.lemmas.Bool.{and_parts}
use Rattle.std.proofs.lemmas.List.Elements.{All-from_recursion}
use Rattle.std.specs.List.{AllByRecursion, list_all, enumerate_from}
use Rattle.std.specs.Option.{option_or, option_map_or}
use Rattle.toml.specs.Data.{Data}
use Rattle.gx_base.specs.FirstFault.{fault_if, first_fault, unless_fault}
use Rattle.gx_base.specs.Texts.{is_name}
use Rattle.gx_base.specs.declared.limits.TheConstants.{MOST_DECIMALS, MOST_FIRMS, MOST_INSTRUMENTS}
use Rattle.product_file.specs.declared.limits.TheConstants.{LONGEST_TEXT, MOST_ORDERS, LEAST_JOURNAL, MOST_JOURNAL}
use Rattle.product_file.specs.declared.faults.Key.{Key}
use Rattle.product_file.specs.declared.faults.Key.TheVariants.{Exchange, Firms, MaxOrders, JournalLimit, Instrument, Name, Decimals}
use Rattle.product_file.specs.declared.faults.ProductFault.{ProductFault}
use Rattle.product_file.specs.declared.faults.ProductFault.TheVariants.{Missing, Range}
use Rattle.product_file.specs.declared.faults.ProductFault.TheVariants as fault
use Rattle.product_file.specs.Values.{text_in, texts_in, integer_in, number_in, entries_in, value_at, text_at, texts_at, number_at, entries_at}
use Rattle.product_file.specs.Ranges.{from, a_name, has_entries, is_firm_name, firm_names}
use Rattle.product_file.specs.Rows.{always, optional, ValueKind, is_of, row, value_fault, row_fault, table_fault, a_text, an_integer, texts, tables}
use Rattle.product_file.specs.ProductRows.{nothing, a_new_name, each_once, instrument_rows, instrument_fault, instruments_of_firms, document_fault}
use Rattle.product_file.specs.ProductValues.{listed_in, product_in}
use Rattle.product_file.specs.ProductTexts.{document_of, product_of_data, product_of}
use Rattle.product_file.specs.Products.{ProductLists}
use Rattle.stream_laws.specs.Names.{AreNames, IsListed}

-- ---- no fault

module _ {F : Type 0} where
  none-first : (a b : Option F) → option_or a b ≡ None → a ≡ None
  none-first None b h = refl
  none-first (Some f) b h = h

  none-others : (a b : Option F) → option_or a b ≡ None → b ≡ None
  none-others None b h = h
  none-others (Some f) b h = absurd (let e : Some f ≡ None = h in cc)

  not-if : (b : Bool) (f : F) → fault_if (not b) f ≡ None → b ≡ true
  not-if true f h = refl
  not-if false f h = absurd (let e : Some f ≡ None = h in cc)

-- the value at a key that has to be there
record HasValue (key : Key) (range : Data → Bool) (further : Data → Option ProductFault) (fields : Data) : Type 0 where
  value : Data
  is : value_at key fields ≡ Some value
  within : range value ≡ true
  holds : further value ≡ None

value-of : (key : Key) (kind : ValueKind) (range : Data → Bool) (further : Data → Option ProductFault) (fields : Data) → row_fault fields (row key always kind range further) ≡ None → HasValue key range further fields
value-of key kind range further fields h =
    let r = row key always kind range further in
    let go : (o : Option Data) → value_at key fields ≡ o → option_map_or (value_fault r) o (Some (Missing key)) ≡ None → HasValue key range further fields = elim [
      | None ↦ λ is k. absurd (let e : Some (Missing key) ≡ None = k in cc)
      | Some v ↦ λ is k.
          let behind = none-others (fault_if (not (is_of kind v)) (fault.Kind key)) (option_or (fault_if (not (range v)) (Range key)) (option_or (further v) None)) k in
          let last = none-others (fault_if (not (range v)) (Range key)) (option_or (further v) None) behind in
          record {
            value = v;
            is = is;
            within = not-if (range v) (Range key) (none-first (fault_if (not (range v)) (Range key)) (option_or (further v) None) behind);
            holds = none-first (further v) None last;
          }
    ] in go (value_at key fields) refl h

-- ---- instruments

within-eight : (z : ℤ) → (int_le (pos 0) z && int_le z (pos 8)) ≡ true → unsigned_abs z ≤ 8
within-eight (pos n) h = leb-true n 8 (and_parts (int_le (pos 0) (pos n)) (int_le (pos n) (pos 8)) h).1
within-eight z h = absurd (let e : false ≡ true = (and_parts (int_le (pos 0) z) (int_le z (pos 8)) h).0 in cc)

entry-listed : (firms earlier : List (List ℕ)) (fields : Data) → table_fault (instrument_rows firms earlier) fields ≡ None → IsListed (listed_in fields)
entry-listed firms earlier fields h =
    let name = value-of Name a_text a_name (a_new_name earlier) fields (none-first _ _ h) in
    let decimals = value-of Decimals an_integer (from 0 MOST_DECIMALS) nothing fields (none-first _ _ (none-others _ _ h)) in
    let text : text_at Name fields ≡ text_in name.value = ap (λ (o : Option Data). unwrap_or (option_map text_in o) []) name.is in
    let number : number_at Decimals fields ≡ number_in decimals.value = ap (λ (o : Option Data). unwrap_or (option_map number_in o) 0) decimals.is in
    (subst (λ (t : List ℕ). is_name t ≡ true) (sym text) name.within, subst (λ (n : ℕ). n ≤ 8) (sym number) (within-eight (integer_in decimals.value) decimals.within))

each-entry : {X : Type 0} (P : X → Type 0) (fault_after : List X → X → Option ProductFault) → ((earlier : List X) (x : X) → fault_after earlier x ≡ None → P x) → (all : List X) (k : ℕ) (xs : List X)
    → first_fault (map (λ (e : ℕ × X). fault_after (take e.0 all) e.1) (enumerate_from k xs)) ≡ None → AllByRecursion P xs
each-entry P fault_after each all k [] h = tt
each-entry P fault_after each all k (x ∷ xs) h = (
  each (take k all) x (none-first _ _ h),
  each-entry P fault_after each all (k + 1) xs (none-others _ _ h),
)

all-listed : (P : Data → Type 0) → ((fields : Data) → P fields → IsListed (listed_in fields)) → (xs : List Data) → AllByRecursion P xs → AllByRecursion IsListed (map listed_in xs)
all-listed P each [] h = tt
all-listed P each (x ∷ xs) h = (each x h.0, all-listed P each xs h.1)

-- ---- firms

firms-named : (names : List (List ℕ)) → list_all is_firm_name names ≡ true → AllByRecursion (λ (firm : List ℕ). IsTrue (is_name firm)) names
firms-named [] h = tt
firms-named (name ∷ names) h =
    let parts = and_parts (is_firm_name name) (list_all is_firm_name names) h in
    ((and_parts (is_name name) (not (bytes_eq name (codes "UNKNOWN"))) parts.0).0, firms-named names parts.1)

-- ---- a document

document-names : (document : Data) → document_fault document ≡ None → AreNames (product_in document).names
document-names document h =
    let firms = texts_at Firms document in
    let behind = none-others _ _ h in
    let exchange = value-of Exchange a_text a_name nothing document (none-first _ _ h) in
    let listed = value-of Firms texts firm_names each_once document (none-first _ _ behind) in
    let of_orders = row_fault document (row MaxOrders optional an_integer (from 1 MOST_ORDERS) nothing) in
    let of_journal = row_fault document (row JournalLimit optional an_integer (from LEAST_JOURNAL MOST_JOURNAL) nothing) in
    let of_instruments = row_fault document (row Instrument always tables (has_entries 1 MOST_INSTRUMENTS) (instruments_of_firms firms)) in
    let of_firms = row_fault document (row Firms always texts firm_names each_once) in
    let last = option_or of_instruments None in
    let not_firms = none-others of_firms (option_or of_orders (option_or of_journal last)) behind in
    let not_orders = none-others of_orders (option_or of_journal last) not_firms in
    let not_journal = none-others of_journal last not_orders in
    let tables_are = value-of Instrument tables (has_entries 1 MOST_INSTRUMENTS) (instruments_of_firms firms) document (none-first of_instruments None not_journal) in
    let exchange_text : text_at Exchange document ≡ text_in exchange.value = ap (λ (o : Option Data). unwrap_or (option_map text_in o) []) exchange.is in
    let firm_texts : firms ≡ texts_in listed.value = ap (λ (o : Option Data). unwrap_or (option_map texts_in o) []) listed.is in
    let entries : entries_at Instrument document ≡ entries_in tables_are.value = ap (λ (o : Option Data). unwrap_or (option_map entries_in o) []) tables_are.is in
    let named = firms-named (texts_in listed.value) (and_parts (has_entries 1 MOST_FIRMS listed.value) (list_all is_firm_name (texts_in listed.value)) listed.within).1 in
    let Right = λ (fields : Data). IsListed (listed_in fields) in
    let each = each-entry Right (instrument_fault firms)
    (λ earlier fields k. entry-listed firms (map (text_at Name) earlier) fields (none-first (table_fault (instrument_rows firms (map (text_at Name) earlier)) fields) _ k))
    (entries_in tables_are.value) 0 (entries_in tables_are.value) tables_are.holds in
    record {
      exchange = subst (λ (t : List ℕ). is_name t ≡ true) (sym exchange_text) exchange.within;
      firms = All-from_recursion _ firms (subst (λ (l : List (List ℕ)). AllByRecursion (λ (firm : List ℕ). IsTrue (is_name firm)) l) (sym firm_texts) named);
      instruments = All-from_recursion IsListed (map listed_in (entries_at Instrument document))
          (subst (λ (l : List Data). AllByRecursion IsListed (map listed_in l)) (sym entries) (all-listed Right (λ fields is. is) (entries_in tables_are.value) each));
    }

-- ---- a text

data-names : (data_ : Option Data) (product : ProductLists) → product_of_data data_ ≡ Ok product → AreNames product.names
data-names None product h = absurd (let e : Err _ ≡ Ok product = h in cc)
data-names (Some document) product h =
    let go : (f : Option ProductFault) → document_fault document ≡ f → unless_fault f (product_in document) ≡ Ok product → AreNames product.names = elim [
      | None ↦ λ is k.
          let e : Ok (product_in document) ≡ Ok product = k in
          let same : product_in document ≡ product = cc in
          subst (λ (p : ProductLists). AreNames p.names) same (document-names document is)
      | Some f ↦ λ is k. absurd (let e : Err f ≡ Ok product = k in cc)
    ] in go (document_fault document) refl h

pub product-names : (text : List ℕ) (product : ProductLists) → product_of text ≡ Ok product → AreNames product.names
unfolding product_of
product-names text product h =
    let go : (b : Bool) → cond b (Err fault.TooLong) (product_of_data (document_of text)) ≡ Ok product → AreNames product.names = elim [
      | true ↦ λ k. absurd (let e : Err fault.TooLong ≡ Ok product = k in cc)
      | false ↦ λ k. data-names (document_of text) product k
    ] in go (nat_lt LONGEST_TEXT (length text)) h
