-- What the firms of a document are like.
use Rattle.std.proofs.Common.{◌≡◌, ℕ, ◌≤◌, true, ◌&&◌, nat_le, List, [], ◌∷◌, length, map, Option, Some, None, Ok, bytes_eq, refl, subst, ap, arith}
use Rattle.std.specs.List.{IsDistinct, list_all}
use Rattle.std.proofs.lemmas.Bool.{and_parts}
use Rattle.std.proofs.lemmas.Bool.Decides.{nat_tests}
use Rattle.step_config.specs.RepeatLaws.{distinct}
use Rattle.toml.specs.Data.{Data}
use Rattle.gx_base.specs.declared.limits.TheConstants.{MOST_FIRMS}
use Rattle.product_file.specs.declared.faults.ProductFault.TheVariants.{Range}
use Rattle.product_file.specs.declared.faults.Key.TheVariants.{Firms}
use Rattle.product_file.specs.Values.{text_in}
use Rattle.product_file.specs.Rows.{is_text}
use Rattle.product_file.specs.Ranges.{is_firm_name}
use Rattle.product_file.specs.Inner.Keys.{◌>>=◌, needed, array_of}
use Rattle.product_file.specs.Inner.FirmNames.{are_firm_names, first_name_twice, unless_twice, each_once, firm_names, firms_of}
use Rattle.product_file.proofs.Given.{both_gave, test_passed}

pub record AreRightFirms (firms : List (List ℕ)) : Type 0 where
  pub some : 1 ≤ length firms
  pub few : length firms ≤ MOST_FIRMS
  pub differ : IsDistinct bytes_eq firms

none_twice : (names firms : List (List ℕ)) (twice : Option (List ℕ)) → unless_twice names twice ≡ Ok firms → (names ≡ firms) × (twice ≡ None)
none_twice names firms None e = (cc, refl)
none_twice names firms (Some name) e = cc

map-itself : {X : Type 0} (xs : List X) → map (λ x. x) xs ≡ xs
map-itself [] = refl
map-itself {X} (x ∷ xs) = ap (λ (rest : List X). x ∷ rest) (map-itself xs)

right_names : (names : List (List ℕ)) → are_firm_names names ≡ true → first_name_twice names ≡ None → AreRightFirms names
right_names names test once =
    let (lengths, each) = and_parts (nat_le 1 (length names) && nat_le (length names) MOST_FIRMS) (list_all is_firm_name names) test in
    let (some, few) = and_parts (nat_le 1 (length names)) (nat_le (length names) MOST_FIRMS) lengths in
    record {
      some = grind (arith, nat_tests);
      few = grind (arith, nat_tests);
      differ = subst (IsDistinct bytes_eq) (map-itself names) (distinct bytes_eq (λ (name : List ℕ). name) [] names once);
    }

pub right_firms : (document : Data) (firms : List (List ℕ)) → firms_of document ≡ Ok firms → AreRightFirms firms
unfolding firms_of
right_firms document firms e =
    let (entries, _, named) = both_gave (needed Firms (array_of is_text) document) (λ entries. firm_names entries >>= each_once) firms e in
    let (names, tested, once) = both_gave (firm_names entries) each_once firms named in
    let (test, same) = test_passed (are_firm_names (map text_in entries)) (map text_in entries) (Range Firms) names tested in
    let (kept, none) = none_twice names firms (first_name_twice names) once in
    subst AreRightFirms kept (right_names names (subst (λ (ns : List (List ℕ)). are_firm_names ns ≡ true) same test) none)
