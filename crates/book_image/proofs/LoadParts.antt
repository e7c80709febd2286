-- The counters and the last trade prices, read one after the other.
use Rattle.std.proofs.Common.{length-append, length-drop, Option, None, ◌≡◌, ℕ, ◌+◌, ◌*◌, ◌<◌, ◌≤◌, List, [], ◌∷◌, ◌++◌, length, drop, set, get_or, refl, sym, ap, ◌∙◌, arith, drop-cons, append_assoc}
use Prim.Native.Nat.{zero, suc}
use Rattle.std.proofs.Math.Seq.{set-append_seam}
use Rattle.std.specs.Prelude.{slice_set}
use Rattle.gx_base.specs.declared.price.Price.{Price}
use Rattle.order_kinds.specs.State.{State}
use Rattle.book_image.specs.Rows.{number_at}
use Rattle.book_image.specs.Reading.{numbers_at, last_at, lasts_at}

-- One more place of a list is set, after those of its front that are.
pub next-set : {X : Type 0} (front : ℕ → List X) (all : List X) (k : ℕ) (v d : X) → length (front k) ≡ k → k < length all → front (k + 1) ≡ front k ++ v ∷ []
    → set (front k ++ drop k all) k v ≡ front (k + 1) ++ drop (k + 1) all
next-set front all k v d len lt more =
    let e : suc k ≡ k + 1 = omega arith in
    ap (λ l. set (front k ++ l) k v) (drop-cons all k d lt ∙ ap (λ (n : ℕ). get_or all k d ∷ drop n all) e)
    ∙ ap (λ (n : ℕ). set (front k ++ get_or all k d ∷ drop (k + 1) all) n v) (sym len)
    ∙ set-append_seam (front k) (get_or all k d) (drop (k + 1) all) v
    ∙ sym (append_assoc (front k) (v ∷ []) (drop (k + 1) all))
    ∙ ap (λ l. l ++ drop (k + 1) all) (sym more)

-- all of them are
pub all-set : {X : Type 0} (front all : List X) (n : ℕ) → length all ≤ n → front ++ drop n all ≡ front
all-set front all n le = ap (λ l. front ++ l) (none-left all n le) ∙ append-none front
  where
    none-left : {X : Type 0} (xs : List X) (n : ℕ) → length xs ≤ n → drop n xs ≡ []
    none-left [] zero le = refl
    none-left [] (suc n) le = refl
    none-left (x ∷ xs) zero le = absurd (omega arith)
    none-left (x ∷ xs) (suc n) le = none-left xs n (omega arith)

    append-none : {X : Type 0} (xs : List X) → xs ++ [] ≡ xs
    append-none [] = refl
    append-none (x ∷ xs) = ap (λ l. x ∷ l) (append-none xs)

module _ (payload : List ℕ) where
  pub numbers-length : (at n : ℕ) → length (numbers_at payload at n) ≡ n
  numbers-length at zero = refl
  numbers-length at (suc n) = ap suc (numbers-length (at + 8) n)

  pub numbers-last : (at n : ℕ) → numbers_at payload at (n + 1) ≡ numbers_at payload at n ++ number_at payload (at + 8 * n) ∷ []
  numbers-last at n = ap (numbers_at payload at) one ∙ last at n
    where
      one : n + 1 ≡ suc n
      one = omega arith

      last : (at n : ℕ) → numbers_at payload at (suc n) ≡ numbers_at payload at n ++ number_at payload (at + 8 * n) ∷ []
      last at zero = let e : at + 8 * 0 ≡ at = omega arith in ap (λ (a : ℕ). number_at payload a ∷ []) (sym e)
      last at (suc n) =
          let e : at + 8 + 8 * n ≡ at + 8 * suc n = omega arith in
          ap (λ l. number_at payload at ∷ l) (last (at + 8) n ∙ ap (λ (a : ℕ). numbers_at payload (at + 8) n ++ number_at payload a ∷ []) e)

  pub lasts-length : (i n : ℕ) → length (lasts_at payload i n) ≡ n
  lasts-length i zero = refl
  lasts-length i (suc n) = ap suc (lasts-length (i + 1) n)

  pub lasts-last : (n : ℕ) → lasts_at payload 0 (n + 1) ≡ lasts_at payload 0 n ++ last_at payload n ∷ []
  lasts-last n =
      let one : n + 1 ≡ suc n = omega arith in
      let z : 0 + n ≡ n = omega arith in
      ap (lasts_at payload 0) one ∙ last 0 n ∙ ap (λ (k : ℕ). lasts_at payload 0 n ++ last_at payload k ∷ []) z
    where
      last : (i n : ℕ) → lasts_at payload i (suc n) ≡ lasts_at payload i n ++ last_at payload (i + n) ∷ []
      last i zero = let e : i + 0 ≡ i = omega arith in ap (λ (k : ℕ). last_at payload k ∷ []) (sym e)
      last i (suc n) =
          let e : i + 1 + n ≡ i + suc n = omega arith in
          ap (λ l. last_at payload i ∷ l) (last (i + 1) n ∙ ap (λ (k : ℕ). lasts_at payload (i + 1) n ++ last_at payload k ∷ []) e)

-- the last trade prices of the first instruments are set in a core
abbrev with_last : State → List (Option Price) → State
with_last core last = record core { last = last }

module _ (payload : List ℕ) (old now : State) (k : ℕ) (is : now ≡ record old { last = lasts_at payload 0 k ++ drop k old.last }) where
  pub lasts-listed : k < length old.last → k < length now.last
  lasts-listed lt =
      omega (arith, lt, ap (λ (s : State). length s.last) is, length-append (lasts_at payload 0 k) (drop k old.last), lasts-length payload 0 k, length-drop k old.last)

  pub lasts-next : k < length old.last → (new : State) (v : Option Price) → v ≡ last_at payload k → new ≡ record now { last = slice_set now.last k v } → new ≡ record old { last = lasts_at payload 0 (k + 1) ++ drop (k + 1) old.last }
  lasts-next lt new v v-is put =
      let so_far = lasts_at payload 0 k ++ drop k old.last in
      let setting : State → State = λ s. record s { last = slice_set s.last k v } in
      let more : lasts_at payload 0 (k + 1) ≡ lasts_at payload 0 k ++ v ∷ [] = lasts-last payload k ∙ ap (λ (q : Option Price). lasts_at payload 0 k ++ q ∷ []) (sym v-is) in
      let all : set so_far k v ≡ lasts_at payload 0 (k + 1) ++ drop (k + 1) old.last = next-set (lasts_at payload 0) old.last k v None (lasts-length payload 0 k) lt more in
      put ∙ (ap setting is ∙ ap (with_last old) all)

  pub lasts-all : (n : ℕ) → k ≡ n → length old.last ≡ n → now ≡ record old { last = lasts_at payload 0 n }
  lasts-all n e len =
      let front : lasts_at payload 0 k ++ drop k old.last ≡ lasts_at payload 0 n ++ drop n old.last = ap (λ (j : ℕ). lasts_at payload 0 j ++ drop j old.last) e in
      let all : lasts_at payload 0 n ++ drop n old.last ≡ lasts_at payload 0 n = all-set (lasts_at payload 0 n) old.last n (omega (arith, len)) in
      is ∙ ap (with_last old) (front ∙ all)
