-- Entering an order, or letting it wait, does the same where each order is named by its number, and numbers still differ.
use Rattle.std.proofs.Common.{◌≡◌, ℕ, Bool, true, false, cond, List, refl, sym, ap, subst, ◌∙◌}
use Rattle.std.specs.Prelude.{◌==◌, nat_lt}
use Rattle.gx_base.specs.declared.price.Price.{Price}
use Rattle.gx_base.specs.declared.order.Order.{Order}
use Rattle.gx_base.specs.declared.event.Cause.TheVariants as cause
use Rattle.step_config.specs.declared.step.Step.{Step}
use Rattle.plain_book.specs.Orders.{HasSlot, opposite}
use Rattle.plain_book.specs.Book.{Book, AllDiffer, live_orders}
use Rattle.plain_book.specs.Match.{MatchState}
use Rattle.plain_book.specs.Numbers.{book_numbered, match_numbered}
use Rattle.level_sweep.specs.Sweep.{sweep}
use Rattle.level_sweep.proofs.Swept.{sweep-order}
use Rattle.level_sweep.proofs.Renamed.{sweep-numbered, placed-same, waited-same}
use Rattle.order_kinds.specs.NewOrders.{may_rest}
use Rattle.order_kinds.specs.Entering.{as_limit, top_min_of, taker_cancelled, taker_rested, finished, open_for, entered}
use Rattle.order_kinds.specs.Stops.{taker_waiting}
use Rattle.order_kinds.proofs.Slots.{sweep-differ, sweep-lacks, placed-differ, waited-differ}
use Rattle.order_kinds.proofs.Numbering.{open-same}

-- ---- the same is done

finished-same : (name : ℕ) (steps : List Step) (m : MatchState) → finished m.taker.order.number steps (match_numbered m) ≡ match_numbered (finished name steps m)
finished-same name steps m =
    let o = as_limit m.taker.order in
    let rested : taker_rested o.number steps (match_numbered m) ≡ match_numbered (taker_rested name steps m) =
    ap (λ (b : Book). record m { book = b }) (placed-same name o (top_min_of steps) m.book) in
    let go : (none rests : Bool)
    → cond none (match_numbered m) (cond rests (taker_rested o.number steps (match_numbered m)) (taker_cancelled cause.Fak (match_numbered m)))
    ≡ match_numbered (cond none m (cond rests (taker_rested name steps m) (taker_cancelled cause.Fak m))) = elim [
      | true ↦ λ rests. refl
      | false ↦ elim [ true ↦ rested | false ↦ refl ]
    ] in go (m.taker.order.leaves == 0) (may_rest m.taker.order.life)

-- a sweep leaves the number of the incoming order
swept-number : (steps : List Step) (limit : Price) (m : MatchState) → (sweep steps limit m).taker.order.number ≡ m.taker.order.number
swept-number steps limit m = ap (λ (o : Order). o.number) (sweep-order steps limit m)

entered-same : (name : ℕ) (steps : List Step) (m : MatchState) → AllDiffer (live_orders m.book) → AllDiffer (live_orders (book_numbered m.book))
    → entered m.taker.order.number steps (match_numbered m) ≡ match_numbered (entered name steps m)
entered-same name steps m d n =
    let k = m.taker.order.number in
    let limit = m.taker.order.price in
    let end = sweep steps limit m in
    let least : open_for (match_numbered m) ≡ open_for m = open-same m.taker.order.instrument (opposite m.taker.order.side) limit.0 m.book.resting in
    let swept : finished k steps (sweep steps limit (match_numbered m)) ≡ match_numbered (finished name steps end) =
    ap (finished k steps) (sweep-numbered steps limit m d n)
    ∙ ap (λ (x : ℕ). finished x steps (match_numbered end)) (sym (swept-number steps limit m))
    ∙ finished-same name steps end in
    let go : (few : Bool)
    → cond few (taker_cancelled cause.MinQty (match_numbered m)) (finished k steps (sweep steps limit (match_numbered m)))
    ≡ match_numbered (cond few (taker_cancelled cause.MinQty m) (finished name steps end)) = elim [ true ↦ refl | false ↦ swept ] in
    ap (λ (x : ℕ). cond (nat_lt x m.taker.order.min) (taker_cancelled cause.MinQty (match_numbered m)) (finished k steps (sweep steps limit (match_numbered m)))) least
    ∙ go (nat_lt (open_for m) m.taker.order.min)

-- ---- slots and numbers still differ

-- slots differ, numbers differ, and no live order has the number of the incoming one
pub record IsIncoming (m : MatchState) : Type 0 where
  pub slots : AllDiffer (live_orders m.book)
  pub numbers : AllDiffer (live_orders (book_numbered m.book))
  pub fresh : HasSlot m.taker.order.number (live_orders (book_numbered m.book)) → ⊥

-- slots differ after an order was entered under a name that none had
entered-differ : (name : ℕ) (steps : List Step) (m : MatchState) → AllDiffer (live_orders m.book) → (HasSlot name (live_orders m.book) → ⊥) → AllDiffer (live_orders (entered name steps m).book)
entered-differ name steps m d fresh =
    let limit = m.taker.order.price in
    let end = sweep steps limit m in
    let swept : AllDiffer (live_orders end.book) = sweep-differ steps limit m d in
    let rested : AllDiffer (live_orders (taker_rested name steps end).book) = placed-differ name (as_limit end.taker.order) (top_min_of steps) end.book swept (sweep-lacks name steps limit m fresh) in
    let go : (few none rests : Bool) → AllDiffer (live_orders (cond few (taker_cancelled cause.MinQty m) (cond none end (cond rests (taker_rested name steps end) (taker_cancelled cause.Fak end)))).book) = elim [
      | true ↦ λ none rests. d
      | false ↦ elim [ true ↦ λ rests. swept | false ↦ elim [ true ↦ rested | false ↦ swept ] ]
    ] in go (nat_lt (open_for m) m.taker.order.min) (end.taker.order.leaves == 0) (may_rest end.taker.order.life)

-- what is done by number is what is done by slot, and numbers differ after it
pub record IsAlike (by_number by_slot : MatchState) : Type 0 where
  pub same : by_number ≡ match_numbered by_slot
  pub numbers : AllDiffer (live_orders (book_numbered by_slot.book))

pub entered-alike : (name : ℕ) (steps : List Step) (m : MatchState) → IsIncoming m → IsAlike (entered m.taker.order.number steps (match_numbered m)) (entered name steps m)
entered-alike name steps m incoming =
    let k = m.taker.order.number in
    let same = entered-same name steps m incoming.slots incoming.numbers in
    record { same = same; numbers = subst (λ (x : MatchState). AllDiffer (live_orders x.book)) same (entered-differ k steps (match_numbered m) incoming.numbers incoming.fresh) }

-- a stop that waits
pub waiting-alike : (name : ℕ) (m : MatchState) → IsIncoming m → IsAlike (taker_waiting m.taker.order.number (match_numbered m)) (taker_waiting name m)
waiting-alike name m incoming =
    let o = m.taker.order in
    let same = waited-same name o m.book in
    record {
      same = ap (λ (b : Book). record m { book = b }) same;
      numbers = subst (λ (b : Book). AllDiffer (live_orders b)) same (waited-differ o.number o (book_numbered m.book) incoming.numbers incoming.fresh);
    }
