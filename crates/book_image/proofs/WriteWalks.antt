-- A walk over orders that writes the row of each one.
use Rattle.std.proofs.Common.{◌≡◌, ℕ, ◌+◌, ◌*◌, ◌≤◌, List, [], ◌∷◌, ◌++◌, length, take, refl, sym, ap, subst, ◌∙◌, append_assoc, length-append, arith}
use Rattle.std.specs.List.{flat_map}
use Rattle.std.proofs.lemmas.Grind.{flat_map-append}
use Rattle.std.proofs.lemmas.List.{append-nil}
use Rattle.gx_base.specs.declared.order.Order.{Order}
use Rattle.plain_book.specs.declared.entry.Entry.{Entry}
use Rattle.book_walks.proofs.OrderWalks.{Next}
use Rattle.book_image.specs.declared.format.TheConstants.{ROW_BYTES}
use Rattle.book_image.specs.Rows.{order_row}
use Rattle.book_image.specs.Image.{entry_row}
use Rattle.book_image.specs.Inner.Writing.{Appends, AppendsRows}

-- ---- one call after the other

pub appends-none : (room : List ℕ) (at : ℕ) → Appends room room at at 0 []
appends-none room at = record { written = sym (append-nil (take at room)); ends = omega arith; size = refl }

pub appends-then : {old mid new : List ℕ} {at between end n m : ℕ} {front back : List ℕ}
    → Appends old mid at between n front → Appends mid new between end m back → Appends old new at end (n + m) (front ++ back)
appends-then {old} {mid} {new} {at} {between} {end} {n} {m} {front} {back} p q = record {
  written = q.written ∙ ap (λ (l : List ℕ). l ++ back) p.written ∙ append_assoc (take at old) front back;
  ends = omega (arith, p.ends, q.ends);
  size = q.size ∙ p.size;
}

pub appends-as : {old new : List ℕ} {at end : ℕ} (n m : ℕ) (bytes same : List ℕ) → n ≡ m → bytes ≡ same → Appends old new at end n bytes → Appends old new at end m same
appends-as {old} {new} {at} {end} n m bytes same e f p = record {
  written = p.written ∙ ap (λ (l : List ℕ). take at old ++ l) f;
  ends = p.ends ∙ ap (λ (k : ℕ). at + k) e;
  size = p.size;
}

rows-both : (xs ys : List Entry) → ROW_BYTES * length xs + ROW_BYTES * length ys ≡ ROW_BYTES * length (xs ++ ys)
rows-both xs ys = omega (arith, length-append xs ys)

pub rows-then : {old mid new : List ℕ} {at between end : ℕ} (xs ys : List Entry) → AppendsRows old mid at between xs → AppendsRows mid new between end ys → AppendsRows old new at end (xs ++ ys)
rows-then xs ys p q =
    appends-as (ROW_BYTES * length xs + ROW_BYTES * length ys) (ROW_BYTES * length (xs ++ ys)) (flat_map entry_row xs ++ flat_map entry_row ys) (flat_map entry_row (xs ++ ys))
    (rows-both xs ys) (sym (flat_map-append entry_row xs ys)) (appends-then p q)

pub rows-as : {old new : List ℕ} {at end : ℕ} (xs ys : List Entry) → xs ≡ ys → AppendsRows old new at end xs → AppendsRows old new at end ys
rows-as {old} {new} {at} {end} xs ys e p = subst (λ (es : List Entry). AppendsRows old new at end es) e p

-- the row of one
rows-one : {old new : List ℕ} {at end : ℕ} (e : Entry) → Appends old new at end ROW_BYTES (entry_row e) → AppendsRows old new at end (e ∷ [])
rows-one e p = appends-as ROW_BYTES (ROW_BYTES * length (e ∷ [])) (entry_row e) (flat_map entry_row (e ∷ [])) refl (sym (append-nil (entry_row e))) p

-- ---- a walk

-- the rows of the orders in front of those to come were written, and those to come are such
pub record IsWalked (orders : List Entry) (ToCome : List Entry → Type 0) (old new : List ℕ) (at end : ℕ) : Type 0 where
  pub done : List Entry
  pub rest : List Entry
  pub whole : orders ≡ done ++ rest
  pub next : ToCome rest
  pub rows : AppendsRows old new at end done

module _ (orders : List Entry) where
  pub walked-none : (ToCome : List Entry → Type 0) (room : List ℕ) (at : ℕ) → ToCome orders → IsWalked orders ToCome room room at at
  walked-none ToCome room at next = record { done = []; rest = orders; whole = refl; next = next; rows = appends-none room at }

  module _ {ToCome : List Entry → Type 0} {old mid : List ℕ} {at between : ℕ} (w : IsWalked orders ToCome old mid at between) where
    -- some more were written
    pub walked-more : (Then : List Entry → Type 0) (part rest : List Entry) (new : List ℕ) (end : ℕ)
        → w.rest ≡ part ++ rest → Then rest → AppendsRows mid new between end part → IsWalked orders Then old new at end
    walked-more Then part rest new end e next rows = record {
      done = w.done ++ part;
      rest = rest;
      whole = w.whole ∙ ap (λ (es : List Entry). w.done ++ es) e ∙ sym (append_assoc w.done part rest);
      next = next;
      rows = rows-then w.done part w.rows rows;
    }

    -- the row of the next one was written
    pub walked-row : (Then : List Entry → Type 0) {slot : ℕ} (n : Next w.rest slot) (new : List ℕ) (end : ℕ) (order : Order)
        → order ≡ n.e.order → Then n.behind → Appends mid new between end ROW_BYTES (order_row order) → IsWalked orders Then old new at end
    walked-row Then n new end order same next row =
        walked-more Then (n.e ∷ []) n.behind new end n.is next (rows-one n.e (appends-as ROW_BYTES ROW_BYTES (order_row order) (entry_row n.e) refl (ap (λ (o : Order). order_row o) same) row))

    -- there is room for those that come next
    pub walked-room : (part rest : List Entry) → w.rest ≡ part ++ rest → at + ROW_BYTES * length orders ≤ length old → between + ROW_BYTES * length part ≤ length mid
    walked-room part rest e room =
        omega (arith, room, w.rows.ends, w.rows.size, ap (λ (es : List Entry). length es) w.whole, length-append w.done w.rest, ap (λ (es : List Entry). length es) e, length-append part rest)

    -- none is to come
    pub walked-all : w.rest ≡ [] → AppendsRows old mid at between orders
    walked-all e = rows-as w.done orders (sym (w.whole ∙ ap (λ (es : List Entry). w.done ++ es) e ∙ append-nil w.done)) w.rows
