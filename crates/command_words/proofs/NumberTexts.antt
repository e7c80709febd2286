-- The texts that `clap` takes as a number are those that `u32` reads.
use Rattle.std.proofs.Common.{◌≡◌, ◌==◌, ◌∙◌, ◌<◌, ◌^◌, ap, ℕ, pos, Bool, true, false, [], ◌∷◌, Option, Some, None, Result, Ok, Err, refl, sym, subst, arith, cond, drop}
use Rattle.std.specs.Prelude.{option_map, unwrap_or}
use Rattle.std.specs.Str.Parse.{IsNumeral, ParsesUnsigned, digits_value, starts_with_minus, without_leading_plus}
use Rattle.std.proofs.lemmas.Bool.{ne_eqb}
use Rattle.std.proofs.lemmas.Str.Parse.{digit_from_value}
use Rattle.std.proofs.lemmas.Int.{ints}
use Rattle.clap.specs.Lexer.{without_minus}
use Rattle.clap.specs.Matches.{ReadsOne, one_text}
use Rattle.clap.specs.Values.{IsSignedIn}
use Rattle.clap.specs.Walk.{Text, rows_of}
use Rattle.clap.specs.declared.parser.matches.Found.{Found}
use Rattle.clap.proofs.WalkLemmas.{one_text-rows}
use Rattle.command_words.specs.Commands.{number_in}
use Rattle.command_words.specs.Inner.{IsNumberText, IsRead}

without_minus-cond : (t : Text) → without_minus t ≡ cond (starts_with_minus t) (drop 1 t) t
without_minus-cond [] = refl
without_minus-cond (x ∷ xs) = go (x == 45)
  where
    go : (b : Bool) → unwrap_or (cond b (Some xs) None) (x ∷ xs) ≡ cond b xs (x ∷ xs)
    go true = refl
    go false = refl

no_plus : (ds : Text) → IsNumeral 10 ds → without_leading_plus ds ≡ ds
no_plus [] h = refl
no_plus (d ∷ ds) h =
    let plus : (d == 43) ≡ false = ne_eqb _ _ (λ e. omega (arith, digit_from_value d h.1.0)) in
    ap (λ (b : Bool). drop (cond b 1 0) (d ∷ ds)) plus

-- a text in a range from 0 on, without its minus
pub in_range_is_number : (most : ℕ) (t : Text) → most < 2 ^ 32 → IsSignedIn (pos 0) (pos most) t → IsNumberText (without_minus t)
in_range_is_number most t fits passed = subst IsNumberText (sym (without_minus-cond t)) (go (starts_with_minus t) refl)
  where
    go : (b : Bool) → starts_with_minus t ≡ b → IsNumberText (cond b (drop 1 t) t)
    go true minus =
        let low = rw minus at passed.2 in
        let numeral : IsNumeral 10 (drop 1 t) = rw minus at passed.0 in
        let same = no_plus (drop 1 t) numeral in
        let small : digits_value 10 (drop 1 t) < 2 ^ 32 = omega (arith, ints) in
        (rw same numeral, rw same small)
    go false minus =
        let high = rw minus at passed.3 in
        let numeral = rw minus at passed.0 in
        (numeral, omega (arith, ints))

-- what `get_one` answers, where it reads such texts only
pub one_is_number : (E : Type 0) (G : Text → Result ℕ E → Type 0) (f : Found) (id : Text) (r : Option ℕ) → IsRead f id
    → ((u : Text) (x : Result ℕ E) → G u x → ParsesUnsigned 32 10 u x)
    → (one_text f id ≡ None → r ≡ None) → ((t : Text) → one_text f id ≡ Some t → ReadsOne G t r) → r ≡ number_in id (rows_of f)
one_is_number E G f id r read only none value = go (one_text f id) refl ∙ ap (option_map (λ t. digits_value 10 (without_leading_plus t))) (one_text-rows f id)
  where
    at_some : (t : Text) (o : Option ℕ) → IsNumberText t → ReadsOne G t o → o ≡ Some (digits_value 10 (without_leading_plus t))
    at_some t (Some v) is h = ap Some (only t (Ok v) h).1
    at_some t None is h = absurd (only t (Err h.0) h.1 is)

    go : (o : Option Text) → one_text f id ≡ o → r ≡ option_map (λ t. digits_value 10 (without_leading_plus t)) (one_text f id)
    go None e = rw e (none e)
    go (Some t) e = rw e (at_some t r (read t e) (value t e))
