-- What is drawn for a message is small.
use Rattle.std.proofs.Common.{ℕ, ◌/◌, ◌==◌, ◌<◌, ◌≤◌, nat_lt, cond, arith}
use Rattle.std.proofs.lemmas.Bool.{cond_both}
use Rattle.std.proofs.lemmas.Nat.{mod_below}
use Rattle.gx_base.specs.declared.order.Side.{Side}
use Rattle.gx_base.specs.declared.order.Side.TheVariants.{Buy, Sell}
use Rattle.product_file.specs.Products.{ProductLists}
use Rattle.order_maker.specs.declared.made.Made.{Made}
use Rattle.order_maker.specs.declared.made.Made.TheVariants.{New, Cancel, Replace}
use Rattle.order_maker.specs.Draws.{next_state, drawn}
use Rattle.order_maker.specs.Messages.{side_at, lowest, target_of, new_of, cancel_of, replace_of, message_of}

-- at most 100 lots, at most 10,099 ticks, and a message that goes back to none after it
abbrev pub IsSmall : ℕ → Made → Type 0
IsSmall j (New lots ticks) = (lots ≤ 100) × (ticks ≤ 10099)
IsSmall j (Cancel k) = k ≤ j
IsSmall j (Replace k lots ticks) = (k ≤ j) × ((lots ≤ 100) × (ticks ≤ 10099))

drawn-below : (limit x : ℕ) → 0 < limit → drawn limit x < limit
unfolding drawn
drawn-below limit x some = mod_below (x / 65536) limit some

low : (side : Side) → lowest side ≤ 9990
low Buy = omega arith
low Sell = omega arith

before : (j back : ℕ) → 1 ≤ j → target_of j back ≤ j
before j back some = omega arith

small-new : (j : ℕ) (side : Side) (x : ℕ) → IsSmall j (new_of side x).0
small-new j side x =
    let p = next_state x in
    let v = next_state p in
    (omega (arith, drawn-below 100 v (omega arith)), omega (arith, low side, drawn-below 110 p (omega arith)))

small-replace : (j x : ℕ) → 1 ≤ j → IsSmall j (replace_of j x).0
small-replace j x some =
    let d = next_state x in
    let v = next_state d in
    let p = next_state v in
    (before j (drawn 1000 d) some, (omega (arith, drawn-below 100 v (omega arith)), omega (arith, drawn-below 20 p (omega arith))))

pub small-message : (p : ProductLists) (j x : ℕ) → 1 ≤ j → IsSmall j (message_of p j x).0
unfolding message_of
small-message p j x some =
    let a = next_state x in
    let IsSmallDraw = λ (m : Made × ℕ). IsSmall j m.0 in
    cond_both (nat_lt (drawn 10 a) 8) (new_of (side_at p j) a) (cond (drawn 10 a == 8) (cancel_of j a) (replace_of j a)) IsSmallDraw
    (λ _. small-new j (side_at p j) a)
    (λ _. cond_both (drawn 10 a == 8) (cancel_of j a) (replace_of j a) IsSmallDraw (λ _. before j (drawn 1000 (next_state a)) some) (λ _. small-replace j a some))
