-- The orders of the firms whose turn is still to come.
use Rattle.std.proofs.Common.{◌≡◌, ℕ, ◌<◌, ◌+◌, ◌==◌, false, List, [], ◌∷◌, length, drop, slice_index_or, add-one, map, refl, sym, ap, ◌∙◌}
use Rattle.std.proofs.Math.Seq.{drop-cons}
use Rattle.std.specs.List.{IsDistinct, AllByRecursion}
use Rattle.gx_base.specs.declared.order.LmmShare.{LmmShare}
use Rattle.plain_book.specs.declared.entry.Entry.{Entry}
use Rattle.plain_book.proofs.Pairs.{all-from}
use Rattle.lmm_pass.proofs.Spends.{orders_of}

abbrev pub firm_of : LmmShare → ℕ
firm_of s = s.firm

abbrev pub no_share : LmmShare
no_share = record { firm = 0; percent = 0 }

abbrev pub share_at : List LmmShare → ℕ → LmmShare
share_at ss i = slice_index_or ss i no_share

-- the share whose turn it is
pub next-share : (ss : List LmmShare) (i : ℕ) → i < length ss → drop i ss ≡ share_at ss i ∷ drop (i + 1) ss
next-share ss i lt = drop-cons ss i no_share lt ∙ ap (λ (n : ℕ). share_at ss i ∷ drop n ss) (sym (add-one i))

-- the orders of each of these firms are in both lists the same
abbrev pub AreAsBefore : List LmmShare → List Entry → List Entry → Type 0
AreAsBefore ss old new = AllByRecursion (λ (s : LmmShare). orders_of s.firm new ≡ orders_of s.firm old) ss

pub unmoved-start : (ss : List LmmShare) (es : List Entry) → AreAsBefore ss es es
unmoved-start ss es = all-from (λ (s : LmmShare). orders_of s.firm es ≡ orders_of s.firm es) (λ s. refl) ss

-- the orders of every other firm stand at a level as they stood
abbrev pub KeepsOthers : ℕ → List Entry → List Entry → Type 0
KeepsOthers firm old new = (f : ℕ) → (firm == f) ≡ false → orders_of f new ≡ orders_of f old

others-unmoved : (firm : ℕ) (ss : List LmmShare) (old now next : List Entry) → AllByRecursion (λ y. (firm == y) ≡ false) (map firm_of ss) → KeepsOthers firm now next
    → AreAsBefore ss old now → AreAsBefore ss old next
others-unmoved firm [] old now next apart keeps h = tt
others-unmoved firm (s ∷ ss) old now next apart keeps h = (keeps s.firm apart.0 ∙ h.0, others-unmoved firm ss old now next apart.1 keeps h.1)

-- after the turn of the first firm
pub unmoved-more : (s : LmmShare) (ss : List LmmShare) (old now next : List Entry) → IsDistinct (λ a b. a == b) (map firm_of (s ∷ ss)) → KeepsOthers s.firm now next
    → AreAsBefore (s ∷ ss) old now → AreAsBefore ss old next
unfolding IsDistinct
unmoved-more s ss old now next differ keeps h = others-unmoved s.firm ss old now next differ.0 keeps h.1

pub distinct-more : (s : LmmShare) (ss : List LmmShare) → IsDistinct (λ a b. a == b) (map firm_of (s ∷ ss)) → IsDistinct (λ a b. a == b) (map firm_of ss)
unfolding IsDistinct
distinct-more s ss differ = differ.1
