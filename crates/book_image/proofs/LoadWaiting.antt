-- Stops that are lined up one after the other.
use Rattle.std.proofs.Common.{◌≡◌, ℕ, ◌+◌, ◌<◌, ◌≤◌, false, List, [], ◌∷◌, ◌++◌, map, length, sym, ap, ◌∙◌, arith, length-append}
use Rattle.std.specs.Prelude.{nat_lt}
use Rattle.std.specs.List.{AllByRecursion}
use Rattle.std.proofs.lemmas.List.{map-append}
use Rattle.std.proofs.lemmas.Bool.Decides.{nat_tests}
use Rattle.gx_base.specs.declared.order.Order.{Order}
use Rattle.plain_book.specs.declared.entry.Entry.{Entry}
use Rattle.plain_book.specs.Orders.{is_live, is_named, is_of_earlier_instrument, lined_up}
use Rattle.plain_book.specs.Book.{Book, live_orders, book_waited}
use Rattle.plain_book.specs.Numbers.{numbered, book_numbered}
use Rattle.plain_book.proofs.Pairs.{none-any, any-none, all-append}
use Rattle.book_image.specs.Rules.{has_same_name}
use Rattle.book_image.specs.Reading.{entry_of}
use Rattle.book_image.specs.Inner.Loading.{orders_from, AreRightWaiting, HasWaiting}
use Rattle.book_image.proofs.LoadLists.{from-last, length-from, all-from, as-orders, as-length, numbered-length, live-numbered, lined-last}

module _ (old new : Book) (f : ℕ → Order) (count k : ℕ) (right : AreRightWaiting old.instruments old.resting f count) (lt : k < count) (h : HasWaiting old new (map entry_of (orders_from f 0 k))) where
  os : List Order
  os = orders_from f 0 k

  pub waiting-instruments : new.instruments ≡ old.instruments
  waiting-instruments = ap (λ (b : Book). b.instruments) h

  waiting-as : numbered new.waiting ≡ map entry_of (orders_from f 0 k)
  waiting-as = ap (λ (b : Book). b.waiting) h

  resting-same : numbered new.resting ≡ numbered old.resting
  resting-same = ap (λ (b : Book). b.resting) h

  pub waiting-room : length old.resting + count ≤ old.capacity → length (live_orders new) < new.capacity
  waiting-room room =
      let c : new.capacity ≡ old.capacity = ap (λ (b : Book). b.capacity) h in
      let r : length new.resting ≡ length old.resting = sym (numbered-length new.resting) ∙ ap (λ (es : List Entry). length es) resting-same ∙ numbered-length old.resting in
      let w : length new.waiting ≡ k = as-length new.waiting (orders_from f 0 k) waiting-as ∙ length-from f 0 k in
      omega (arith, room, lt, c, r, w, length-append new.resting new.waiting)

  pub waiting-unnamed : is_live (f k).firm (f k).id (live_orders new) ≡ false
  waiting-unnamed =
      let o = f k in
      let Q = λ (e : Entry). is_named o.firm o.id e ≡ false in
      let rests : is_live o.firm o.id new.resting ≡ false =
      sym (live-numbered o.firm o.id new.resting) ∙ ap (is_live o.firm o.id) resting-same ∙ live-numbered o.firm o.id old.resting ∙ right.apart k lt in
      let waits : AllByRecursion Q new.waiting =
      as-orders (λ (x : Order). has_same_name o x ≡ false) new.waiting (orders_from f 0 k) waiting-as
      (all-from f (λ (x : Order). has_same_name o x ≡ false) 0 k (λ i a b. right.named i k (omega (arith, b)) lt)) in
      any-none (is_named o.firm o.id) (live_orders new) (all-append Q new.resting new.waiting (none-any (is_named o.firm o.id) new.resting rests) waits)

  not-later : (a b : ℕ) → b ≤ a → nat_lt a b ≡ false
  not-later a b h = grind (arith, nat_tests)

  -- one more waits
  pub waiting-next : (slot : ℕ) (taken : Order) → taken ≡ f k → (last : Book) → last ≡ book_waited slot taken new → HasWaiting old last (map entry_of (orders_from f 0 (k + 1)))
  waiting-next slot taken taken-is last is =
      let o = f k in
      let hidden : ℕ → Order = λ n. record o { shown = n } in
      let n : Entry = record { slot = slot; order = hidden 0; is_top = false } in
      let same : hidden 0 ≡ o = ap hidden (sym (right.hidden k lt)) in
      let mark : Order → Entry = λ q. record { slot = o.number; order = q; is_top = false } in
      let line : AllByRecursion (λ (e : Entry). is_of_earlier_instrument n e ≡ false) new.waiting =
      as-orders (λ (x : Order). nat_lt o.instrument x.instrument ≡ false) new.waiting (orders_from f 0 k) waiting-as
      (all-from f (λ (x : Order). nat_lt o.instrument x.instrument ≡ false) 0 k (λ i a b. not-later o.instrument (f i).instrument (right.lined i k (omega (arith, b)) lt))) in
      let zero_plus : 0 + k ≡ k = omega arith in
      let all : numbered (lined_up n new.waiting) ≡ map entry_of (orders_from f 0 (k + 1)) =
      lined-last n new.waiting line
      ∙ ap (λ (q : Order). numbered new.waiting ++ mark q ∷ []) same
      ∙ ap (λ (es : List Entry). es ++ entry_of o ∷ []) waiting-as
      ∙ sym (ap (map entry_of) (from-last f 0 k ∙ ap (λ (j : ℕ). orders_from f 0 k ++ f j ∷ []) zero_plus) ∙ map-append entry_of (orders_from f 0 k) (o ∷ [])) in
      let with_list : Book → List Entry → Book = λ (b : Book) es. record b { waiting = es } in
      ap book_numbered (is ∙ ap (λ (q : Order). book_waited slot q new) taken-is)
      ∙ ap (with_list (book_numbered new)) all
      ∙ ap (λ (b : Book). with_list b (map entry_of (orders_from f 0 (k + 1)))) h
