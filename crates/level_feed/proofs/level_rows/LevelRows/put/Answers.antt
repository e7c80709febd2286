use Rattle.std.proofs.Common.{◌≡◌, ◌∙◌, ◌++◌, ◌∷◌, [], List, ℕ, length, length-append, refl, sym, ap, ap₂, subst, arith}
use Rattle.level_feed.specs.declared.row.Row.{Row}
use Rattle.level_feed.specs.Held.{FeedRows}
use Rattle.level_feed.specs.Rows.{with_row, with_rows, AreOrdered}
use Rattle.level_feed.proofs.Lengths.{ordered-with-row}
use Rattle.level_feed.proofs.KeptRows.{HasRoom, room-settled, room-left, count-then, row-last, row-changed}
use Rattle.level_feed.proofs.level_rows.LevelRows.put.Goals.{then-len-eq-MOST_CHANGES, else-len-eq-MOST_CHANGES}
use Rattle.level_feed.proofs.level_rows.LevelRows.put.Goals as goal

pub returns-then-count-self-clause-full : goal.returns-then-count-self-clause-full
returns-then-count-self-clause-full c =
    let count = count-then c.args.row c.args.self.now c.self.inside c.find.result c.is_some.result c.is_gone.result c.from-was.result c.from-is.result c.self.invariant c.self.view_is c.find.ensures c.is_some.ensures c.from-was.ensures c.is_gone.ensures c.from-is.ensures in
    let size : c.self.inside.capacity ≡ c.args.self.now.capacity = ap (λ (x : FeedRows). x.capacity) c.self.view_is in
    omega (arith, c.if-count-self.true)

pub push_reserved-requires : goal.push_reserved-requires
push_reserved-requires c =
    let count = count-then c.args.row c.args.self.now c.self.inside c.find.result c.is_some.result c.is_gone.result c.from-was.result c.from-is.result c.self.invariant c.self.view_is c.find.ensures c.is_some.ensures c.from-was.ensures c.is_gone.ensures c.from-is.ensures in
    let size : c.self.inside.capacity ≡ c.args.self.now.capacity = ap (λ (x : FeedRows). x.capacity) c.self.view_is in
    let s = c.if-len-eq-MOST_CHANGES.self-inside in
    let room : HasRoom c.args.self.now s = elim c.if-len-eq-MOST_CHANGES.branch [
      | then-len-eq-MOST_CHANGES w ↦
          let e = w.settle.ensures in
          subst (HasRoom c.args.self.now) (sym w.self-inside-is)
          (room-settled c.args.self.now c.self.inside _ c.self.invariant c.self.view_is refl e.rows e.none e.ordered e.settled_capacity e.room_capacity e.changes_capacity)
      | else-len-eq-MOST_CHANGES w ↦
          subst (HasRoom c.args.self.now) (sym w.self-inside-is)
          (room-left c.args.self.now c.self.inside c.self.invariant c.self.view_is (λ e. w.if-len-eq-MOST_CHANGES.false (omega (arith, e, c.len.ensures, c.self.inside.changes.ok))))
    ] in
    let most = room.most in
    let none : s.changes.items ≡ [] = sym c.deref-then-is-eq1.ensures.value ∙ c.if-comes_last.ensures.0 in
    let last : with_row c.args.row s.settled.items ≡ s.settled.items ++ c.args.row ∷ [] = subst (λ (xs : List Row). with_row c.args.row xs ≡ xs ++ c.args.row ∷ []) c.deref.ensures.value c.if-comes_last.ensures.1 in
    let is = row-last c.args.row c.args.self.now s room none last in
    let long = length-append s.settled.items (c.args.row ∷ []) in
    let fit = room.settled_fit in
    omega (arith, ap length is, s.settled.ok, c.if-count-self.false)

pub invariant_of-self : goal.invariant_of-self
invariant_of-self c =
    let count = count-then c.args.row c.args.self.now c.self.inside c.find.result c.is_some.result c.is_gone.result c.from-was.result c.from-is.result c.self.invariant c.self.view_is c.find.ensures c.is_some.ensures c.from-was.ensures c.is_gone.ensures c.from-is.ensures in
    let size : c.self.inside.capacity ≡ c.args.self.now.capacity = ap (λ (x : FeedRows). x.capacity) c.self.view_is in
    let s = c.if-len-eq-MOST_CHANGES.self-inside in
    let room : HasRoom c.args.self.now s = elim c.if-len-eq-MOST_CHANGES.branch [
      | then-len-eq-MOST_CHANGES w ↦
          let e = w.settle.ensures in
          subst (HasRoom c.args.self.now) (sym w.self-inside-is)
          (room-settled c.args.self.now c.self.inside _ c.self.invariant c.self.view_is refl e.rows e.none e.ordered e.settled_capacity e.room_capacity e.changes_capacity)
      | else-len-eq-MOST_CHANGES w ↦
          subst (HasRoom c.args.self.now) (sym w.self-inside-is)
          (room-left c.args.self.now c.self.inside c.self.invariant c.self.view_is (λ e. w.if-len-eq-MOST_CHANGES.false (omega (arith, e, c.len.ensures, c.self.inside.changes.ok))))
    ] in
    let most = room.most in
    let none : s.changes.items ≡ [] = sym c.deref-then-is-eq1.ensures.value ∙ c.if-comes_last.ensures.0 in
    let last : with_row c.args.row s.settled.items ≡ s.settled.items ++ c.args.row ∷ [] = subst (λ (xs : List Row). with_row c.args.row xs ≡ xs ++ c.args.row ∷ []) c.deref.ensures.value c.if-comes_last.ensures.1 in
    let is = row-last c.args.row c.args.self.now s room none last in
    let long = length-append s.settled.items (c.args.row ∷ []) in
    let fit = room.settled_fit in
    let less = room.less in
    let pushed = c.push_reserved.ensures.items in (
      subst AreOrdered (sym (pushed ∙ sym last)) (ordered-with-row c.args.row s.settled.items room.ordered),
      room.apart,
      count ∙ ap length (is ∙ sym pushed ∙ sym (ap (λ (xs : List Row). with_rows xs c.push_reserved.new.self.items) none)),
      omega (arith, c.if-count-self.false),
      omega (arith, c.if-count-self.false, ap length is, ap length pushed),
      omega arith,
      omega (arith, c.push_reserved.ensures.capacity),
      room.changes_fit,
      room.fit,
    )

pub invariant_of-self-else-is-eq1 : goal.invariant_of-self-else-is-eq1
invariant_of-self-else-is-eq1 c =
    let count = count-then c.args.row c.args.self.now c.self.inside c.find.result c.is_some.result c.is_gone.result c.from-was.result c.from-is.result c.self.invariant c.self.view_is c.find.ensures c.is_some.ensures c.from-was.ensures c.is_gone.ensures c.from-is.ensures in
    let size : c.self.inside.capacity ≡ c.args.self.now.capacity = ap (λ (x : FeedRows). x.capacity) c.self.view_is in
    let s = c.if-len-eq-MOST_CHANGES.self-inside in
    let room : HasRoom c.args.self.now s = elim c.if-len-eq-MOST_CHANGES.branch [
      | then-len-eq-MOST_CHANGES w ↦
          let e = w.settle.ensures in
          subst (HasRoom c.args.self.now) (sym w.self-inside-is)
          (room-settled c.args.self.now c.self.inside _ c.self.invariant c.self.view_is refl e.rows e.none e.ordered e.settled_capacity e.room_capacity e.changes_capacity)
      | else-len-eq-MOST_CHANGES w ↦
          subst (HasRoom c.args.self.now) (sym w.self-inside-is)
          (room-left c.args.self.now c.self.inside c.self.invariant c.self.view_is (λ e. w.if-len-eq-MOST_CHANGES.false (omega (arith, e, c.len.ensures, c.self.inside.changes.ok))))
    ] in
    let most = room.most in
    let effect = row-changed c.args.row c.args.self.now s c.put_change.new.changes.items room c.put_change.ensures.put in
    let less = room.less in
    let fit = room.changes_fit in (
      room.ordered,
      c.put_change.ensures.ordered,
      count ∙ ap length (sym effect),
      omega (arith, c.if-count-self.false),
      room.few,
      omega (arith, c.put_change.ensures.few),
      room.settled_fit,
      omega (arith, c.put_change.ensures.capacity),
      room.fit,
    )

pub returns-then-comes_last-clause-within : goal.returns-then-comes_last-clause-within
returns-then-comes_last-clause-within c =
    let count = count-then c.args.row c.args.self.now c.self.inside c.find.result c.is_some.result c.is_gone.result c.from-was.result c.from-is.result c.self.invariant c.self.view_is c.find.ensures c.is_some.ensures c.from-was.ensures c.is_gone.ensures c.from-is.ensures in
    let size : c.self.inside.capacity ≡ c.args.self.now.capacity = ap (λ (x : FeedRows). x.capacity) c.self.view_is in
    omega (arith, c.if-count-self.false)

pub returns-else-is-eq1-clause-put : goal.returns-else-is-eq1-clause-put
returns-else-is-eq1-clause-put c =
    let s = c.if-len-eq-MOST_CHANGES.self-inside in
    let room : HasRoom c.args.self.now s = elim c.if-len-eq-MOST_CHANGES.branch [
      | then-len-eq-MOST_CHANGES w ↦
          let e = w.settle.ensures in
          subst (HasRoom c.args.self.now) (sym w.self-inside-is)
          (room-settled c.args.self.now c.self.inside _ c.self.invariant c.self.view_is refl e.rows e.none e.ordered e.settled_capacity e.room_capacity e.changes_capacity)
      | else-len-eq-MOST_CHANGES w ↦
          subst (HasRoom c.args.self.now) (sym w.self-inside-is)
          (room-left c.args.self.now c.self.inside c.self.invariant c.self.view_is (λ e. w.if-len-eq-MOST_CHANGES.false (omega (arith, e, c.len.ensures, c.self.inside.changes.ok))))
    ] in
    let most = room.most in
    let effect = row-changed c.args.row c.args.self.now s c.put_change.new.changes.items room c.put_change.ensures.put in
    ap₂ (λ (n : ℕ) (xs : List Row). record { capacity = n; rows = xs }) most effect

pub returns-else-is-eq1-clause-within : goal.returns-else-is-eq1-clause-within
returns-else-is-eq1-clause-within c =
    let count = count-then c.args.row c.args.self.now c.self.inside c.find.result c.is_some.result c.is_gone.result c.from-was.result c.from-is.result c.self.invariant c.self.view_is c.find.ensures c.is_some.ensures c.from-was.ensures c.is_gone.ensures c.from-is.ensures in
    let size : c.self.inside.capacity ≡ c.args.self.now.capacity = ap (λ (x : FeedRows). x.capacity) c.self.view_is in
    omega (arith, c.if-count-self.false)
