-- An order that is placed with no TOP in the book, and is then shown as a row says.
use Rattle.std.proofs.Common.{◌≡◌, ℕ, ◌<◌, ◌≤◌, Bool, true, false, cond, not, ◌&&◌, List, [], ◌∷◌, filter, None, refl, sym, ap, subst, ◌∙◌, arith, min}
use Rattle.std.proofs.lemmas.Bool.Decides.{nat_tests}
use Rattle.gx_base.specs.declared.order.Order.{Order}
use Rattle.gx_base.specs.declared.order.Side.{Side}
use Rattle.plain_book.specs.declared.entry.Entry.{Entry}
use Rattle.plain_book.specs.Orders.{HasSlot, order_of, is_on, is_new_best, is_at_earlier_level, placed, with_top, topped, with_order}
use Rattle.plain_book.specs.Book.{Book, AllDiffer, IsRight, first_shown, resting_placed, book_placed, book_with_order}
use Rattle.plain_book.specs.Numbers.{numbered, book_numbered}
use Rattle.plain_book.proofs.Levels.{AllDiffer-front, HasSlot-middle, order_of-middle, with_order-middle}
use Rattle.book_image.specs.Rules.{is_right_shown}
use Rattle.book_image.specs.Reading.{entry_of}
use Rattle.book_image.specs.Inner.Loading.{NoneTop, HasResting}
use Rattle.book_image.proofs.LoadLists.{placed-numbered}

abbrev pub entry_with : ℕ → Order → Entry
entry_with slot o = record { slot = slot; order = o; is_top = false }

-- as it is placed, with what is shown first
abbrev pub first_entry : ℕ → Order → Entry
first_entry slot o = entry_with slot (record o { shown = first_shown o })

unmarked : (i : ℕ) (s : Side) (e : Entry) → e.is_top ≡ false → topped i s None e ≡ e
unmarked i s e h =
    let mark : ℕ → Order → Bool → Entry = λ slot o b. record { slot = slot; order = o; is_top = b } in
    let go : (b : Bool) → cond b false e.is_top ≡ e.is_top = elim [ true ↦ sym h | false ↦ refl ] in
    ap (mark e.slot e.order) (go (is_on i s e))

pub unmarked-all : (i : ℕ) (s : Side) (es : List Entry) → NoneTop es → with_top i s None es ≡ es
unmarked-all i s [] h = refl
unmarked-all i s (e ∷ es) h = ap (λ (x : Entry). x ∷ with_top i s None es) (unmarked i s e h.0) ∙ ap (λ (l : List Entry). e ∷ l) (unmarked-all i s es h.1)

module _ (slot : ℕ) (o : Order) (b : Book) (none : NoneTop b.resting) where
  pub placed-plain : resting_placed slot o None b.resting ≡ placed (first_entry slot o) b.resting
  placed-plain =
      let es = b.resting in
      let n : Bool → Entry = λ t. record { slot = slot; order = record o { shown = first_shown o }; is_top = t && false } in
      let go : (t : Bool) → placed (n t) (cond t (with_top o.instrument o.side None es) es) ≡ placed (first_entry slot o) es = elim [
        | true ↦ ap (placed (first_entry slot o)) (unmarked-all o.instrument o.side es none)
        | false ↦ refl
      ] in go (is_new_best o es)

  ahead : List Entry
  ahead = filter (λ e. not (is_at_earlier_level (entry_with slot o) e)) b.resting

  behind : List Entry
  behind = filter (is_at_earlier_level (entry_with slot o)) b.resting

  module _ (after : Book) (is : after ≡ book_placed slot o None b) where
    pub after-resting : after.resting ≡ placed (first_entry slot o) b.resting
    after-resting = ap (λ (x : Book). x.resting) is ∙ placed-plain

    module _ (right : IsRight after) where
      differ : AllDiffer (placed (first_entry slot o) b.resting)
      differ = subst AllDiffer after-resting (AllDiffer-front after.resting after.waiting right.differ)

      pub after-has : HasSlot slot after.resting
      unfolding ahead behind
      after-has = subst (HasSlot slot) (sym after-resting) (HasSlot-middle ahead behind (first_entry slot o))

      pub after-order : order_of slot after.resting ≡ record o { shown = first_shown o }
      unfolding ahead behind
      after-order = ap (order_of slot) after-resting ∙ order_of-middle ahead behind (first_entry slot o) differ

      -- it is shown as the row says
      pub after-shown : with_order slot (record (order_of slot after.resting) { shown = o.shown }) after.resting ≡ placed (entry_with slot o) b.resting
      unfolding ahead behind
      after-shown =
          let showing : Order → Order = λ (q : Order). record q { shown = o.shown } in
          ap (λ (q : Order). with_order slot (showing q) after.resting) after-order
          ∙ ap (with_order slot o) after-resting
          ∙ with_order-middle ahead behind (first_entry slot o) o differ

  -- with its number for its slot
  pub resting-numbered : (last : Book) → last ≡ record b { resting = placed (entry_with slot o) b.resting } → HasResting b last (placed (entry_of o) (numbered b.resting))
  resting-numbered last is =
      let with_list : List Entry → Book = λ es. record (book_numbered b) { resting = es } in
      ap book_numbered is ∙ ap with_list (placed-numbered (entry_with slot o) b.resting)

shown-all : (o : Order) → is_right_shown o ≡ true → o.show ≡ 0 → o.shown ≡ first_shown o
shown-all o h z = grind (arith, nat_tests)

pub shown-within : (o : Order) → is_right_shown o ≡ true → 0 < o.show → (1 ≤ o.shown) × (o.shown ≤ min o.show o.leaves)
shown-within o h z = grind (arith, nat_tests)

abbrev with_resting : List Entry → Book → Book
with_resting es b = record b { resting = es }

module _ (slot : ℕ) (o : Order) (b : Book) (none : NoneTop b.resting) (after : Book) (is : after ≡ book_placed slot o None b) where
  -- an order that shows a part of it at a time
  pub part-placed : (last : Book) → IsRight after → last ≡ book_with_order slot (record (order_of slot after.resting) { shown = o.shown }) after → HasResting b last (placed (entry_of o) (numbered b.resting))
  part-placed last right shown =
      let es = placed (entry_with slot o) b.resting in
      let here : book_with_order slot (record (order_of slot after.resting) { shown = o.shown }) after ≡ with_resting es after = ap (λ (l : List Entry). with_resting l after) (after-shown slot o b none after is right) in
      let there : with_resting es after ≡ with_resting es b = ap (with_resting es) is in
      resting-numbered slot o b none last (shown ∙ (here ∙ there))

  -- an order that shows all of it
  pub whole-placed : is_right_shown o ≡ true → o.show ≡ 0 → HasResting b after (placed (entry_of o) (numbered b.resting))
  whole-placed right all =
      let es = placed (entry_with slot o) b.resting in
      let showing : ℕ → Order = λ n. record o { shown = n } in
      let same : showing (first_shown o) ≡ o = sym (ap showing (shown-all o right all)) in
      let here : after.resting ≡ es = after-resting slot o b none after is ∙ ap (λ (q : Order). placed (entry_with slot q) b.resting) same in
      let there : with_resting es after ≡ with_resting es b = ap (with_resting es) is in
      resting-numbered slot o b none after (ap (λ (l : List Entry). with_resting l after) here ∙ there)
