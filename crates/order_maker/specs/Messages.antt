-- The messages that are made, by their numbers from 1 on: whose each is, and what is drawn for it.
use Rattle.std.specs.Prelude.{ℕ, ◌+◌, ◌-◌, ◌/◌, ◌%◌, ◌==◌, nat_lt, max, if◌then◌else◌, length}
use Rattle.gx_base.specs.declared.order.Side.{Side}
use Rattle.gx_base.specs.declared.order.Side.TheVariants.{Buy, Sell}
use Rattle.product_file.specs.Products.{ProductLists}
use Rattle.order_maker.specs.declared.made.Made.{Made}
use Rattle.order_maker.specs.declared.made.Made.TheVariants.{New, Cancel, Replace}
use Rattle.order_maker.specs.Draws.{next_state, drawn}

-- ---- whose a message is, and what it is about

-- the firms take turns
abbrev pub firm_at : ProductLists → ℕ → ℕ
firm_at p j = (j - 1) % length p.names.firms

-- so do the instruments
abbrev pub instrument_at : ProductLists → ℕ → ℕ
instrument_at p j = j % length p.names.instruments

-- a round of the firms buys, and the next one sells
abbrev pub side_at : ProductLists → ℕ → Side
side_at p j = if (j / length p.names.firms) % 2 == 0 then Buy else Sell

-- the lowest price of new orders, in ticks: buys and sells overlap
abbrev pub lowest : Side → ℕ
lowest Buy = 9900
lowest Sell = 9990

-- the message that a change goes back to: so many before the last one, and no further than the first
abbrev pub target_of : ℕ → ℕ → ℕ
target_of j back = max 1 (j - 1 - back)

-- ---- what is drawn, with the state after it

-- p below 110, then v below 100
abbrev pub new_of : Side → ℕ → Made × ℕ
new_of side x =
    let p = next_state x in
    let v = next_state p in
    (New (drawn 100 v + 1) (lowest side + drawn 110 p), v)

-- d below 1000
abbrev pub cancel_of : ℕ → ℕ → Made × ℕ
cancel_of j x =
    let d = next_state x in
    (Cancel (target_of j (drawn 1000 d)), d)

-- d below 1000, then v below 100, then p below 20
abbrev pub replace_of : ℕ → ℕ → Made × ℕ
replace_of j x =
    let d = next_state x in
    let v = next_state d in
    let p = next_state v in
    (Replace (target_of j (drawn 1000 d)) (drawn 100 v + 1) (9990 + drawn 20 p), p)

-- a below 10: eight of ten are new orders, one is a cancel and one a replace
unfoldable pub message_of : ProductLists → ℕ → ℕ → Made × ℕ
message_of p j x =
    let a = next_state x in
    if nat_lt (drawn 10 a) 8 then new_of (side_at p j) a
    else if drawn 10 a == 8 then cancel_of j a
    else replace_of j a
