-- Rows beside what is kept of the rows before them.
use Rattle.std.proofs.Common.{◌≡◌, ℕ, Bool, true, false, not, cond, ◌&&◌, ◌||◌, ◌+◌, List, [], ◌∷◌, ◌++◌, append_assoc, Option, Some, None, refl, ap, sym, subst, ◌∙◌}
use Rattle.std.specs.Prelude.{nat_le}
use Rattle.std.specs.List.{list_any}
use Rattle.std.proofs.lemmas.List.Folds.{list_any-append}
use Rattle.gx_base.specs.declared.order.Order.{Order}
use Rattle.product_file.specs.Products.{ProductLists}
use Rattle.plain_book.specs.Orders.{is_live}
use Rattle.plain_book.specs.Book.{Book, live_orders}
use Rattle.book_image.specs.declared.check_rows.Asked.{Asked}
use Rattle.book_image.specs.declared.check_rows.Front.{Front}
use Rattle.book_image.specs.Rows.{order_of_row, row_at, has_forms}
use Rattle.book_image.specs.Faults.{orders_at}
use Rattle.book_image.specs.Rules.{has_same_name, is_new_name, is_in_book_order, is_uncrossed, is_in_line, is_right_order, is_right_resting, is_right_waiting, may_live}
use Rattle.book_image.specs.Inner.Checking.{HasNames, TakesName, IsAsMade, IsFrontOf, front_with, fits_behind, is_resting_alone, is_waiting_alone, is_right_resting_after, is_right_waiting_after}
use Rattle.book_image.proofs.CheckFronts.{front-tells, front-next, line-next}
use Rattle.book_image.proofs.CheckNames.{orders-next, names-next}

-- ---- a row by itself: what is answered where its test holds, and where it does not

module _ (test : List ℕ → Bool) (given row : List ℕ) (found : Option Order) (answered : found ≡ cond (test given) (Some (order_of_row given)) None) (is : given ≡ row) where
  of-row : found ≡ cond (test row) (Some (order_of_row row)) None
  of-row = subst (λ (r : List ℕ). found ≡ cond (test r) (Some (order_of_row r)) None) is answered

  none-where : found ≡ None → test row ≡ false
  none-where none =
      let go : (b : Bool) → found ≡ cond b (Some (order_of_row row)) None → b ≡ false = elim [
        | true ↦ λ h. let f : Some (order_of_row row) ≡ None = sym h ∙ none in cc
        | false ↦ λ h. refl
      ] in go (test row) of-row

  some-where : (x : Order) → found ≡ Some x → test row ≡ true
  some-where x some =
      let go : (b : Bool) → found ≡ cond b (Some (order_of_row row)) None → b ≡ true = elim [
        | true ↦ λ h. refl
        | false ↦ λ h. let f : Some x ≡ None = sym some ∙ h in cc
      ] in go (test row) of-row

  pub some-is : (x : Order) → found ≡ Some x → x ≡ order_of_row row
  some-is x some =
      let go : (b : Bool) → found ≡ cond b (Some (order_of_row row)) None → x ≡ order_of_row row = elim [
        | true ↦ λ h. let f : Some x ≡ Some (order_of_row row) = sym some ∙ h in cc
        | false ↦ λ h. let f : Some x ≡ None = sym some ∙ h in cc
      ] in go (test row) of-row

-- ---- tests that are tried one after the other

and-regroup : (a n b u l : Bool) → (a && n && b && u && l) ≡ (a && l && (b && u) && n)
and-regroup false n b u l = refl
and-regroup true true true true true = refl
and-regroup true true true true false = refl
and-regroup true true true false true = refl
and-regroup true true true false false = refl
and-regroup true true false u true = refl
and-regroup true true false u false = refl
and-regroup true false true true true = refl
and-regroup true false true false true = refl
and-regroup true false false u true = refl
and-regroup true false b u false = refl

first-fails : (a b c : Bool) → a ≡ false → (a && b && c) ≡ false
first-fails false b c h = refl
first-fails true b c h = cc

second-fails : (a b c : Bool) → b ≡ false → (a && b && c) ≡ false
second-fails true false c h = refl
second-fails false b c h = refl
second-fails true true c h = cc

third-fails : (a b c : Bool) → c ≡ false → (a && b && c) ≡ false
third-fails true true c h = h
third-fails true false c h = refl
third-fails false b c h = refl

all-hold : (a b c : Bool) → a ≡ true → b ≡ true → c ≡ true → (a && b && c) ≡ true
all-hold true true true h g f = refl
all-hold false b c h g f = cc
all-hold true false c h g f = cc
all-hold true true false h g f = cc

-- ---- a resting row

module _ (product : ProductLists) (asked : Asked) (before : List Order) (row : List ℕ) where
  module _ (front : Front) (book : Book) (stands : IsFrontOf before front) (names : HasNames book before) where
    -- by what is kept
    resting-is : is_right_resting_after product asked before row
        ≡ (is_resting_alone product asked row && fits_behind front (order_of_row row) && not (is_live (order_of_row row).firm (order_of_row row).id (live_orders book)))
    resting-is =
        let o = order_of_row row in
        let a = is_resting_alone product asked row in
        and-regroup (has_forms row && is_right_order product asked.given o && is_right_resting o) (is_new_name o before) (is_in_book_order o before) (is_uncrossed o before) (may_live asked.trading o)
        ∙ ap (λ (b : Bool). a && b && is_new_name o before) (sym (front-tells front o before stands))
        ∙ ap (λ (b : Bool). a && fits_behind front o && not b) (sym (names o))

    resting-alone-wrong : is_resting_alone product asked row ≡ false → is_right_resting_after product asked before row ≡ false
    resting-alone-wrong h = resting-is ∙ first-fails _ (fits_behind front (order_of_row row)) _ h

    resting-order-wrong : fits_behind front (order_of_row row) ≡ false → is_right_resting_after product asked before row ≡ false
    resting-order-wrong h = resting-is ∙ second-fails (is_resting_alone product asked row) _ _ h

    resting-name-wrong : not (is_live (order_of_row row).firm (order_of_row row).id (live_orders book)) ≡ false
        → is_right_resting_after product asked before row ≡ false
    resting-name-wrong h = resting-is ∙ third-fails (is_resting_alone product asked row) (fits_behind front (order_of_row row)) _ h

    resting-right : is_resting_alone product asked row ≡ true → fits_behind front (order_of_row row) ≡ true
        → not (is_live (order_of_row row).firm (order_of_row row).id (live_orders book)) ≡ true
        → is_right_resting_after product asked before row ≡ true
    resting-right h g f = resting-is ∙ all-hold _ _ _ h g f

    -- by what is found of the row: nothing, or its order
    module _ (read : List ℕ) (found : Option Order) (answered : found ≡ cond (is_resting_alone product asked read) (Some (order_of_row read)) None) (is : read ≡ row) where
      pub resting-none-wrong : found ≡ None → is_right_resting_after product asked before row ≡ false
      resting-none-wrong none = resting-alone-wrong (none-where (is_resting_alone product asked) read row found answered is none)

      pub resting-place-wrong : (x : Order) → found ≡ Some x → fits_behind front x ≡ false → is_right_resting_after product asked before row ≡ false
      resting-place-wrong x some wrong = resting-order-wrong (ap (fits_behind front) (sym (some-is (is_resting_alone product asked) read row found answered is x some)) ∙ wrong)

      pub resting-id-wrong : (x : Order) → found ≡ Some x → not (is_live x.firm x.id (live_orders book)) ≡ false → is_right_resting_after product asked before row ≡ false
      resting-id-wrong x some wrong =
          resting-name-wrong (ap (λ (o : Order). not (is_live o.firm o.id (live_orders book))) (sym (some-is (is_resting_alone product asked) read row found answered is x some)) ∙ wrong)

      pub resting-all-right : (x : Order) → found ≡ Some x → fits_behind front x ≡ true → not (is_live x.firm x.id (live_orders book)) ≡ true → is_right_resting_after product asked before row ≡ true
      resting-all-right x some fits_there new =
          let same : order_of_row row ≡ x = sym (some-is (is_resting_alone product asked) read row found answered is x some) in
          resting-right (some-where (is_resting_alone product asked) read row found answered is x some) (ap (fits_behind front) same ∙ fits_there) (ap (λ (o : Order). not (is_live o.firm o.id (live_orders book))) same ∙ new)

-- ---- one row more

pub made-then : (a b c : Book) → IsAsMade a b → IsAsMade b c → IsAsMade a c
made-then a b c p q = record { capacity = q.capacity ∙ p.capacity; instruments = q.instruments ∙ p.instruments }

module _ (payload : List ℕ) (first k : ℕ) (x : Order) (is : x ≡ order_of_row (row_at payload first k)) where
  one-more : orders_at payload first (k + 1) ≡ orders_at payload first k ++ x ∷ []
  one-more = orders-next payload first k ∙ ap (λ (o : Order). orders_at payload first k ++ o ∷ []) (sym is)

  pub front-after : (front after : Front) → after ≡ front_with front x → IsFrontOf (orders_at payload first k) front
      → fits_behind front x ≡ true → IsFrontOf (orders_at payload first (k + 1)) after
  front-after front after same stands fits =
      subst (λ (os : List Order). IsFrontOf os after) (sym one-more)
      (subst (IsFrontOf (orders_at payload first k ++ x ∷ [])) (sym same) (front-next front x (orders_at payload first k) stands fits))

  pub names-after : (old new : Book) → HasNames old (orders_at payload first k) → TakesName x.firm x.id old new
      → HasNames new (orders_at payload first (k + 1))
  names-after old new names takes = subst (HasNames new) (sym one-more) (names-next x (orders_at payload first k) old new names takes)

  pub names-after-others : (others : List Order) (old new : Book) → HasNames old (others ++ orders_at payload first k)
      → TakesName x.firm x.id old new → HasNames new (others ++ orders_at payload first (k + 1))
  names-after-others others old new names takes =
      subst (HasNames new) (append_assoc others (orders_at payload first k) (x ∷ []) ∙ ap (λ (os : List Order). others ++ os) (sym one-more))
      (names-next x (others ++ orders_at payload first k) old new names takes)

  pub line-after : (last : ℕ) → ((o : Order) → is_in_line o (orders_at payload first k) ≡ nat_le last o.instrument)
      → nat_le last x.instrument ≡ true
      → (o : Order) → is_in_line o (orders_at payload first (k + 1)) ≡ nat_le x.instrument o.instrument
  line-after last stands fits o = ap (is_in_line o) one-more ∙ line-next last x (orders_at payload first k) stands fits o

-- ---- a waiting row

and-turn : (a r w n l : Bool) → (a && r && w && n && l) ≡ (a && l && n && (r && w))
and-turn false r w n l = refl
and-turn true true true true true = refl
and-turn true true true true false = refl
and-turn true true true false true = refl
and-turn true true true false false = refl
and-turn true true false true true = refl
and-turn true true false false true = refl
and-turn true true false n false = refl
and-turn true false w true true = refl
and-turn true false w false true = refl
and-turn true false w n false = refl

not-or : (a b : Bool) → (not a && not b) ≡ not (a || b)
not-or true b = refl
not-or false b = refl

module _ (product : ProductLists) (asked : Asked) (resting before : List Order) (row : List ℕ) where
  module _ (last : ℕ) (book : Book) (stands : (o : Order) → is_in_line o before ≡ nat_le last o.instrument) (names : HasNames book (resting ++ before)) where
    abbrev fits : Bool
    fits = nat_le last (order_of_row row).instrument

    -- by what is kept
    waiting-is : is_right_waiting_after product asked resting before row
        ≡ (is_waiting_alone product asked row && fits && not (is_live (order_of_row row).firm (order_of_row row).id (live_orders book)))
    waiting-is =
        let o = order_of_row row in
        let a = is_waiting_alone product asked row in
        and-turn (has_forms row && is_right_order product asked.given o && is_right_waiting product o) (is_new_name o resting) (is_new_name o before) (is_in_line o before) (may_live asked.trading o)
        ∙ ap (λ (b : Bool). a && b && (is_new_name o resting && is_new_name o before)) (stands o)
        ∙ ap (λ (b : Bool). a && fits && b) (not-or (list_any (has_same_name o) resting) (list_any (has_same_name o) before)
        ∙ ap not (sym (list_any-append (has_same_name o) resting before) ∙ sym (names o)))

    waiting-alone-wrong : is_waiting_alone product asked row ≡ false → is_right_waiting_after product asked resting before row ≡ false
    waiting-alone-wrong h = waiting-is ∙ first-fails _ fits _ h

    waiting-late-wrong : fits ≡ false → is_right_waiting_after product asked resting before row ≡ false
    waiting-late-wrong h = waiting-is ∙ second-fails (is_waiting_alone product asked row) _ _ h

    waiting-name-wrong : not (is_live (order_of_row row).firm (order_of_row row).id (live_orders book)) ≡ false
        → is_right_waiting_after product asked resting before row ≡ false
    waiting-name-wrong h = waiting-is ∙ third-fails (is_waiting_alone product asked row) fits _ h

    waiting-right : is_waiting_alone product asked row ≡ true → fits ≡ true
        → not (is_live (order_of_row row).firm (order_of_row row).id (live_orders book)) ≡ true
        → is_right_waiting_after product asked resting before row ≡ true
    waiting-right h g f = waiting-is ∙ all-hold _ _ _ h g f

    -- by what is found of the row: nothing, or its order
    module _ (read : List ℕ) (found : Option Order) (answered : found ≡ cond (is_waiting_alone product asked read) (Some (order_of_row read)) None) (is : read ≡ row) where
      pub waiting-none-wrong : found ≡ None → is_right_waiting_after product asked resting before row ≡ false
      waiting-none-wrong none = waiting-alone-wrong (none-where (is_waiting_alone product asked) read row found answered is none)

      pub waiting-line-wrong : (x : Order) → found ≡ Some x → nat_le last x.instrument ≡ false → is_right_waiting_after product asked resting before row ≡ false
      waiting-line-wrong x some wrong = waiting-late-wrong (ap (λ (o : Order). nat_le last o.instrument) (sym (some-is (is_waiting_alone product asked) read row found answered is x some)) ∙ wrong)

      pub waiting-id-wrong : (x : Order) → found ≡ Some x → not (is_live x.firm x.id (live_orders book)) ≡ false → is_right_waiting_after product asked resting before row ≡ false
      waiting-id-wrong x some wrong =
          waiting-name-wrong (ap (λ (o : Order). not (is_live o.firm o.id (live_orders book))) (sym (some-is (is_waiting_alone product asked) read row found answered is x some)) ∙ wrong)

      pub waiting-all-right : (x : Order) → found ≡ Some x → nat_le last x.instrument ≡ true → not (is_live x.firm x.id (live_orders book)) ≡ true → is_right_waiting_after product asked resting before row ≡ true
      waiting-all-right x some fits_there new =
          let same : order_of_row row ≡ x = sym (some-is (is_waiting_alone product asked) read row found answered is x some) in
          waiting-right (some-where (is_waiting_alone product asked) read row found answered is x some) (ap (λ (o : Order). nat_le last o.instrument) same ∙ fits_there) (ap (λ (o : Order). not (is_live o.firm o.id (live_orders book))) same ∙ new)
