-- What the instruments of a document are like.
use Rattle.std.proofs.Common.{◌≡◌, ℕ, ◌+◌, ◌≤◌, Bool, true, false, ◌&&◌, cond, nat_le, List, [], ◌∷◌, ◌++◌, length, bytes_eq, Ok, Err, refl, subst, arith, length-append}
use Rattle.std.specs.List.{IsDistinct, AllByRecursion, list_any}
use Rattle.std.proofs.lemmas.Bool.{and_parts}
use Rattle.std.proofs.lemmas.Bool.Decides.{nat_tests}
use Rattle.gx_base.specs.declared.names.Listed.{Listed}
use Rattle.gx_base.specs.NameLists.{instrument_names}
use Rattle.toml.specs.Data.{Data}
use Rattle.gx_base.specs.declared.limits.TheConstants.{MOST_INSTRUMENTS, MOST_DECIMALS}
use Rattle.product_file.specs.declared.product.InstrumentRule.{InstrumentRule}
use Rattle.product_file.specs.declared.faults.ProductFault.{ProductFault}
use Rattle.product_file.specs.declared.faults.ProductFault.TheVariants.{Range, Twice}
use Rattle.product_file.specs.declared.faults.Key.TheVariants.{Instrument, Name, Decimals}
use Rattle.product_file.specs.Rows.{is_table}
use Rattle.product_file.specs.Inner.Keys.{needed, needed_name, needed_number, array_of}
use Rattle.product_file.specs.Inner.Instruments.{new_name_of, listed_of, rule_of, InstrumentLists, instruments_after, tables_of, instruments_of}
use Rattle.product_file.specs.Products.{IsRightInstrument}
use Rattle.product_file.proofs.Given.{both_gave, test_passed}
use Rattle.product_file.proofs.Lists.{all_push, distinct_push}
use Rattle.product_file.proofs.RightShares.{needed_within}
use Rattle.product_file.proofs.RightRules.{right_rule}

-- ---- one instrument

unless_twice : (t : Bool) (fault : ProductFault) (name given : List ℕ) → cond t (Err fault) (Ok name) ≡ Ok given → (t ≡ false) × (name ≡ given)
unless_twice true fault name given e = cc
unless_twice false fault name given e = (refl, cc)

new_name : (earlier : List Listed) (fields : Data) (name : List ℕ) → new_name_of earlier fields ≡ Ok name → list_any (λ (l : Listed). bytes_eq l.name name) earlier ≡ false
unfolding new_name_of
new_name earlier fields name e =
    let (written, _, new) = both_gave (needed_name Name fields) _ name e in
    let (none, same) = unless_twice (list_any (λ (l : Listed). bytes_eq l.name written) earlier) (Twice written) written name new in
    subst (λ (n : List ℕ). list_any (λ (l : Listed). bytes_eq l.name n) earlier ≡ false) same none

pub record IsNew (earlier : List Listed) (listed : Listed) : Type 0 where
  pub new : list_any (λ (l : Listed). bytes_eq l.name listed.name) earlier ≡ false
  pub few_decimals : listed.decimals ≤ MOST_DECIMALS

new_listed : (earlier : List Listed) (fields : Data) (listed : Listed) → listed_of earlier fields ≡ Ok listed → IsNew earlier listed
unfolding listed_of
new_listed earlier fields listed e =
    let (name, named, e1) = both_gave (new_name_of earlier fields) _ listed e in
    let (decimals, few, e2) = both_gave (needed_number Decimals 0 MOST_DECIMALS fields) _ listed e1 in
    let same : ◌≡◌ {A = Listed} (record { name = name; decimals = decimals }) listed = cc in
    subst (IsNew earlier) same (record { new = new_name earlier fields name named; few_decimals = (needed_within Decimals 0 MOST_DECIMALS fields decimals few).1 })

-- ---- all of them

pub record AreRightSoFar (firms : List (List ℕ)) (so_far : InstrumentLists) : Type 0 where
  pub a_rule_each : length so_far.rules ≡ length so_far.listed
  pub differ : IsDistinct bytes_eq (instrument_names so_far.listed)
  pub few_decimals : AllByRecursion (λ (l : Listed). l.decimals ≤ MOST_DECIMALS) so_far.listed
  pub each : AllByRecursion (IsRightInstrument (length firms)) so_far.rules

one_more : (firms : List (List ℕ)) (so_far : InstrumentLists) (listed : Listed) (rule : InstrumentRule) → AreRightSoFar firms so_far → IsNew so_far.listed listed → IsRightInstrument (length firms) rule
    → AreRightSoFar firms (record { listed = so_far.listed ++ listed ∷ []; rules = so_far.rules ++ rule ∷ [] })
one_more firms so_far listed rule right new is_right = record {
  a_rule_each = omega (arith, length-append so_far.rules (rule ∷ []), length-append so_far.listed (listed ∷ []), right.a_rule_each);
  differ = distinct_push bytes_eq (λ (l : Listed). l.name) so_far.listed listed right.differ new.new;
  few_decimals = all_push (λ (l : Listed). l.decimals ≤ MOST_DECIMALS) so_far.listed listed right.few_decimals new.few_decimals;
  each = all_push (IsRightInstrument (length firms)) so_far.rules rule right.each is_right;
}

right_after : (firms : List (List ℕ)) (so_far : InstrumentLists) (tables : List Data) (all : InstrumentLists) → instruments_after firms so_far tables ≡ Ok all → AreRightSoFar firms so_far → AreRightSoFar firms all
right_after firms so_far [] all e right =
    let same : so_far ≡ all = cc in
    subst (AreRightSoFar firms) same right
right_after firms so_far (fields ∷ rest) all e right =
    let (listed, new, e1) = both_gave (listed_of so_far.listed fields) _ all e in
    let (rule, ruled, e2) = both_gave (rule_of firms fields) _ all e1 in
    right_after firms (record { listed = so_far.listed ++ listed ∷ []; rules = so_far.rules ++ rule ∷ [] }) rest all e2
    (one_more firms so_far listed rule right (new_listed so_far.listed fields listed new) (right_rule firms fields rule ruled))

count_after : (firms : List (List ℕ)) (so_far : InstrumentLists) (tables : List Data) (all : InstrumentLists) → instruments_after firms so_far tables ≡ Ok all → length all.listed ≡ length so_far.listed + length tables
count_after firms so_far [] all e =
    let same : so_far.listed ≡ all.listed = cc in
    subst (λ (ls : List Listed). length ls ≡ length so_far.listed + 0) same (omega arith)
count_after firms so_far (fields ∷ rest) all e =
    let (listed, new, e1) = both_gave (listed_of so_far.listed fields) _ all e in
    let (rule, ruled, e2) = both_gave (rule_of firms fields) _ all e1 in
    let more = count_after firms (record { listed = so_far.listed ++ listed ∷ []; rules = so_far.rules ++ rule ∷ [] }) rest all e2 in
    omega (arith, more, length-append so_far.listed (listed ∷ []))

pub few_tables : (document : Data) (tables : List Data) → tables_of document ≡ Ok tables → (1 ≤ length tables) × (length tables ≤ MOST_INSTRUMENTS)
unfolding tables_of
few_tables document tables e =
    let (found, _, e1) = both_gave (needed Instrument (array_of is_table) document) _ tables e in
    let (test, same) = test_passed (nat_le 1 (length found) && nat_le (length found) MOST_INSTRUMENTS) found (Range Instrument) tables e1 in
    let (some, few) = and_parts (nat_le 1 (length found)) (nat_le (length found) MOST_INSTRUMENTS) test in
    subst (λ (ts : List Data). (1 ≤ length ts) × (length ts ≤ MOST_INSTRUMENTS)) same (grind (arith, nat_tests), grind (arith, nat_tests))

pub record AreRightInstruments (firms : List (List ℕ)) (all : InstrumentLists) : Type 0 where
  pub some : 1 ≤ length all.listed
  pub few : length all.listed ≤ MOST_INSTRUMENTS
  pub right : AreRightSoFar firms all

pub right_instruments : (firms : List (List ℕ)) (document : Data) (all : InstrumentLists) → instruments_of firms document ≡ Ok all → AreRightInstruments firms all
unfolding instruments_of IsDistinct
right_instruments firms document all e =
    let none : InstrumentLists = record { listed = []; rules = [] } in
    let (tables, found, e1) = both_gave (tables_of document) (instruments_after firms none) all e in
    let (some, few) = few_tables document tables found in
    let count = count_after firms none tables all e1 in
    record {
      some = omega (arith, count, some);
      few = omega (arith, count, few);
      right = right_after firms none tables all e1 (record { a_rule_each = refl; differ = tt; few_decimals = tt; each = tt });
    }
