-- What a trade makes of a resting order.
use Rattle.std.proofs.Common.{◌≡◌, ◌≢◌, ℕ, ◌+◌, ◌-◌, ◌<◌, ◌≤◌, min, Bool, false, cond, not, List, [], ◌∷◌, ◌++◌, length, map, refl, sym, ap, subst, ◌∙◌, arith, inl, inr}
use Rattle.std.proofs.lemmas.Bool.Decides.{eqb_tells}
use Rattle.std.proofs.lemmas.List.{length-map}
use Rattle.gx_base.specs.declared.order.Order.{Order}
use Rattle.plain_book.specs.Orders as orders
use Rattle.plain_book.specs.Orders.{filled_by, refreshed, placed, without}
use Rattle.plain_book.specs.Book.{Book, IsRight, IsResting, book_with_order, book_without, book_traded}
use Rattle.plain_book.proofs.Levels.{same}
use Rattle.plain_book.proofs.Calls.{rests-alone}
use Rattle.plain_book.proofs.Settled.{settled-gone, settled-back, settled-stays}
use Rattle.order_pool.specs.Queues as pool
use Rattle.order_pool.specs.Queues.{IsIn, SlotsDiffer, with_entry, without_slot, opened}
use Rattle.id_table.specs.Ids.{Ids}
use Rattle.price_level.specs.declared.row.LevelRow.{LevelRow}
use Rattle.price_level.specs.Rows.{Rows, AreRows, row_of, with_sums}
use Rattle.book_side.specs.declared.tops.SideTops.{SideTops}
use Rattle.book_side.specs.Inner.Content.{Held, book_of}
use Rattle.book_side.specs.Inner.Linked.{IsLinked}
use Rattle.book_side.specs.Inner.Steps.{resting_as, IsTopDropped}
use Rattle.book_side.proofs.Given as given
use Rattle.book_side.proofs.Pools.{at-appended, at-removed}
use Rattle.book_side.proofs.Seen.{IsHeldAs, resting-is, back-at, at-row}
use Rattle.book_side.proofs.Resting.{IsHeld}
use Rattle.book_side.proofs.Became.{AreParts, changed, went-back}

-- the order that went to the end
order-pushed : (s : ℕ) (o : Order) (hs : List Held) → pool.order_of s (without_slot s hs ++ (s, o) ∷ []) ≡ o
order-pushed s o [] = ap (λ (b : Bool). cond b o pool.no_order) (same s)
order-pushed s o (h ∷ hs) =
    let rest = without_slot s hs in
    elim (eqb_tells h.0 s) [
      | inl t ↦ ap (λ (b : Bool). pool.order_of s (cond (not b) (h ∷ rest) rest ++ (s, o) ∷ [])) t.0 ∙ order-pushed s o hs
      | inr t ↦
          ap (λ (b : Bool). pool.order_of s (cond (not b) (h ∷ rest) rest ++ (s, o) ∷ [])) t.0
          ∙ ap (λ (b : Bool). cond b h.1 (pool.order_of s (rest ++ (s, o) ∷ []))) t.0
          ∙ order-pushed s o hs
    ]

-- the three cases of a trade, where x is the order of the slot
module _ (b : Book) (right : IsRight b) (s : ℕ) (has : orders.HasSlot s b.resting) (x : Order) (is : x ≡ orders.order_of s b.resting) (lots : ℕ) where
  abbrev left : Order
  left = filled_by lots (orders.order_of s b.resting)

  pub traded-gone : x.leaves ≡ lots → book_without s b ≡ book_traded s lots b
  traded-gone none = rests-alone b right s has ∙ ap (resting_as b) (sym (settled-gone s left b.resting (omega (arith, none, ap (λ (o : Order). o.leaves) is))))

  module _ (few : lots ≤ (orders.order_of s b.resting).shown) (some : x.leaves ≢ lots) where
    some-left : left.leaves ≢ 0
    some-left = λ e. some (let within = given.within b right s has x is in omega (arith, e, few, within, ap (λ (o : Order). o.leaves) is, ap (λ (o : Order). o.shown) is))

    pub traded-back : x.shown ≡ lots → resting_as b (placed (record { slot = s; order = refreshed left; is_top = false }) (without s b.resting)) ≡ book_traded s lots b
    traded-back none = ap (resting_as b) (sym (settled-back s left b.resting some-left (omega (arith, none, ap (λ (o : Order). o.shown) is))))

    pub traded-stays : x.shown ≢ lots → book_with_order s left b ≡ book_traded s lots b
    traded-stays more = ap (resting_as b) (sym (settled-stays s left b.resting some-left (λ e. more (omega (arith, e, few, ap (λ (o : Order). o.shown) is)))))

module _ {c n : ℕ} {p : pool.Queues} {ids : Ids} {lv : Rows} {tops : List SideTops} (k : IsLinked c n p ids lv tops) {b : Book} (seen : book_of c n tops p.queues lv.rows ≡ b)
    (s : ℕ) (x : Order) (has : orders.HasSlot s b.resting) (held : IsHeldAs k seen s x) where
  abbrev P : ℕ → List Held
  P = pool.entries_at p.queues

  abbrev now : Order
  now = orders.order_of s b.resting

  is : x ≡ now
  is = resting-is k seen s x has held

  right : IsRight b
  right = subst IsRight seen k.right

  -- what is asked for where the lots are added and taken off
  pub record IsEnough (lots : ℕ) : Type 0 where
    pub shown : lots ≤ x.shown
    pub leaves : lots ≤ x.leaves
    pub filled : x.filled + lots ≤ 999999

  pub enough : (lots : ℕ) → lots ≤ now.shown → IsEnough lots
  enough lots few =
      let within = given.within b right s has x is in
      let whole = given.whole b right s has x is in
      let shown : lots ≤ x.shown = omega (arith, few, ap (λ (o : Order). o.shown) is) in
      record { shown = shown; leaves = omega (arith, shown, within); filled = omega (arith, shown, within, whole) }

  module _ (lots q : ℕ) (differ : SlotsDiffer p) (rules : AreRows lv) (at : IsIn p s q) where
    abbrev o : Order
    o = filled_by lots now

    o-is : o ≡ filled_by lots x
    o-is = ap (filled_by lots) (sym is)

    -- the lots, as a number of the sums, leave the row
    module _ (r : LevelRow) (row : r ≡ row_of q lv.rows) (m : ℕ) (m-is : m ≡ lots) where
      row-held : IsHeld r x
      row-held = (at-row k seen s has differ at held).held r row

      pub stays : {p' : pool.Queues} {lv' : Rows} → lots < now.shown
          → ((t : ℕ) → IsIn p s t → p' ≡ record p { queues = map (with_entry s (opened (x.filled + lots) (x.leaves - lots) (x.shown - lots) (pool.order_of s (P t)))) p.queues })
          → lv' ≡ record lv { rows = with_sums q r.count (r.shown - m) (r.leaves - m) lv.rows } → AreParts c n p' ids lv' tops (book_with_order s o b)
      stays {p'} {lv'} some set rows =
          let within = given.within b right s has x is in
          let some_x : lots < x.shown = omega (arith, some, ap (λ (y : Order). y.shown) is) in
          let lots_now = enough lots (omega (arith, some)) in
          let sums = row-held in
          let here : filled_by lots x ≡ o = sym o-is in
          let set' : p' ≡ record p { queues = map (with_entry s o) p.queues } =
          set q at
          ∙ ap (λ (y : Order). (let z : pool.Queues = record p { queues = map (with_entry s (opened (x.filled + lots) (x.leaves - lots) (x.shown - lots) y)) p.queues } in z)) (sym (held q at))
          ∙ ap (λ (y : Order). (let z : pool.Queues = record p { queues = map (with_entry s y) p.queues } in z)) here in
          let fit : IsResting b.instruments (filled_by lots x) =
          given.stays b right s has x is lots (omega (arith, some)) (filled_by lots x) refl (λ e. omega (arith, e, some_x, within)) (λ e. omega (arith, e, some_x)) in
          changed k seen s q x o has differ rules at held (record { level = refl; firm = refl; id = refl; fit = subst (IsResting b.instruments) here fit }) r (r.shown - m) (r.leaves - m) set'
          (record {
            row = row;
            shown_is = omega (arith, m-is, sums.shown, some, some_x, ap (λ (y : Order). y.shown) is);
            leaves_is = omega (arith, m-is, sums.leaves, lots_now.leaves, ap (λ (y : Order). y.leaves) is);
            rows = rows;
          })

      abbrev next : Order
      next = refreshed o

      next-is : refreshed (filled_by lots x) ≡ next
      next-is = ap refreshed (sym o-is)

      -- the pool has the same order, at the end
      pushed : {p1 : pool.Queues} → ((t : ℕ) → IsIn p s t → p1 ≡ record p { queues = pool.appended t (s, pool.order_of s (P t)) (pool.removed s p.queues) }) → pool.order_of s (pool.entries_at p1.queues q) ≡ x
      pushed {p1} back =
          let low : q < length (pool.removed s p.queues) = omega (arith, length-map p.queues (without_slot s), at.0) in
          let was = pool.order_of s (P q) in
          ap (λ (y : pool.Queues). pool.order_of s (pool.entries_at y.queues q)) (back q at)
          ∙ ap (pool.order_of s) (at-appended q (s, was) (pool.removed s p.queues) low ∙ ap (λ (l : List Held). l ++ (s, was) ∷ []) (at-removed s p.queues q))
          ∙ order-pushed s was (P q) ∙ sym (held q at)

      pub sent : {p1 p' : pool.Queues} {lv' : Rows} {tops' : List SideTops} (part shown : ℕ) → lots ≡ now.shown → lots ≢ now.leaves → part ≡ min x.show (x.leaves - lots)
          → ((t : ℕ) → IsIn p s t → p1 ≡ record p { queues = pool.appended t (s, pool.order_of s (P t)) (pool.removed s p.queues) }) → pool.live_of p1 ≡ pool.live_of p
          → ((t : ℕ) → IsIn p1 s t → p' ≡ record p1 { queues = map (with_entry s (opened (x.filled + lots) (x.leaves - lots) part (pool.order_of s (pool.entries_at p1.queues t)))) p1.queues }) → pool.live_of p' ≡ pool.live_of p1
          → shown + lots ≡ r.shown + part → lv' ≡ record lv { rows = with_sums q r.count shown (r.leaves - m) lv.rows } → length tops' ≡ length tops → IsTopDropped s x tops tops'
          → AreParts c n p' ids lv' tops' (resting_as b (placed (record { slot = s; order = next; is_top = false }) (without s b.resting)))
      sent {p1} {p'} {lv'} {tops'} part shown all some part_is back back_live set set_live shown_is rows long drop =
          let lots_now = enough lots (omega (arith, all)) in
          let sums = row-held in
          let set' : p' ≡ record p1 { queues = map (with_entry s next) p1.queues } =
          set q (back-at p s q at p1 back)
          ∙ ap (λ (y : Order). (let z : pool.Queues = record p1 { queues = map (with_entry s (opened (x.filled + lots) (x.leaves - lots) part y)) p1.queues } in z)) (pushed back)
          ∙ ap (λ (i : ℕ). (let z : pool.Queues = record p1 { queues = map (with_entry s (opened (x.filled + lots) (x.leaves - lots) i x)) p1.queues } in z)) part_is
          ∙ ap (λ (y : Order). (let z : pool.Queues = record p1 { queues = map (with_entry s y) p1.queues } in z)) next-is in
          let fit : IsResting b.instruments next =
          subst (IsResting b.instruments) next-is
          (given.goes b right s has x is lots (omega (arith, all)) (filled_by lots x) refl (λ e. some (omega (arith, e, lots_now.leaves, ap (λ (y : Order). y.leaves) is))) (omega (arith, all, ap (λ (y : Order). y.shown) is))) in
          let part_now : part ≡ next.shown = part_is ∙ ap (λ (y : Order). y.shown) next-is in
          went-back k seen s q x next has differ rules at held (record { level = refl; firm = refl; id = refl; fit = fit }) r shown (r.leaves - m) back back_live set' set_live
          (record {
            row = row;
            shown_is = omega (arith, shown_is, all, part_now, ap (λ (y : Order). y.shown) is);
            leaves_is = omega (arith, m-is, sums.leaves, lots_now.leaves, ap (λ (y : Order). y.leaves) is);
            rows = rows;
          })
          long drop
