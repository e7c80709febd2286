-- Lots that are spent over the orders of one firm, as a rule of shares.
use Rattle.std.proofs.Common.{◌≡◌, ℕ, ◌+◌, ◌-◌, ◌≤◌, min, Bool, true, false, cond, List, [], ◌∷◌, filter, refl, ap, ◌∙◌, arith}
use Rattle.std.specs.Prelude.{◌==◌}
use Rattle.gx_base.specs.declared.order.Order.{Order}
use Rattle.gx_base.specs.declared.event.StepName.TheVariants.{Lmm}
use Rattle.plain_book.specs.declared.entry.Entry.{Entry}
use Rattle.plain_book.specs.Match.{MatchState, trade_share, trade_shares}
use Rattle.plain_book.specs.Shares.{shares_by, AreWithin, AreNone}
use Rattle.plain_book.specs.Steps.{spent}
use Rattle.plain_book.proofs.TradedShares.{share-leaves}
use Rattle.lmm_pass.specs.Firms.{lots_for_firm, spending_on_firm}
use Rattle.lmm_pass.specs.declared.pass.SpentOnFirm.{SpentOnFirm}

abbrev pub is_of_firm : ℕ → Entry → Bool
is_of_firm firm e = e.order.firm == firm

-- the orders of a firm, by priority
abbrev pub orders_of : ℕ → List Entry → List Entry
orders_of firm es = filter (is_of_firm firm) es

abbrev pub spent_on : ℕ → ℕ → SpentOnFirm
spent_on firm lots = record { firm = firm; left = lots }

-- the share of another firm's order is 0, and so it does not trade
pub trade-spent : (firm lots : ℕ) (es : List Entry) (m : MatchState) → trade_shares Lmm (shares_by spending_on_firm (spent_on firm lots) es) m ≡ trade_shares Lmm (spent lots (orders_of firm es)) m
trade-spent firm lots [] m = refl
trade-spent firm lots (e ∷ es) m =
    let rest : ℕ → MatchState → MatchState = λ n s. trade_shares Lmm (shares_by spending_on_firm (spent_on firm (lots - n)) es) s in
    let go : (c : Bool) → let n = cond c (min lots e.order.shown) 0 in rest n (trade_share Lmm e.slot n m) ≡ trade_shares Lmm (spent lots (cond c (e ∷ orders_of firm es) (orders_of firm es))) m = elim [
      | true ↦ trade-spent firm (lots - min lots e.order.shown) es (trade_share Lmm e.slot (min lots e.order.shown) m)
      | false ↦ trade-spent firm (lots - 0) es m ∙ ap (λ (n : ℕ). trade_shares Lmm (spent n (orders_of firm es)) m) (let all : lots - 0 ≡ lots = omega arith in all)
    ] in go (e.order.firm == firm)

-- an order trades no more than it shows, and than is left
lots-within : (firm left : ℕ) (o : Order) → (lots_for_firm firm left o ≤ o.shown) × (lots_for_firm firm left o ≤ left)
lots-within firm left o =
    let go : (c : Bool) → (cond c (min left o.shown) 0 ≤ o.shown) × (cond c (min left o.shown) 0 ≤ left) = elim [ true ↦ (omega arith, omega arith) | false ↦ (omega arith, omega arith) ] in
    go (o.firm == firm)

-- no more is spent than is wanted
pub spent-within : (wanted firm lots : ℕ) (es : List Entry) → lots ≤ wanted → AreWithin spending_on_firm wanted (spent_on firm lots) es
spent-within wanted firm lots [] le = tt
spent-within wanted firm lots (e ∷ es) le =
    let n = lots_for_firm firm lots e.order in
    let w = lots-within firm lots e.order in
    (w.0, omega (arith, w.1), spent-within (wanted - n) firm (lots - n) es (omega arith))

-- once none is left, no order trades
pub spent-none : (firm lots : ℕ) (es : List Entry) → lots ≡ 0 → AreNone (shares_by spending_on_firm (spent_on firm lots) es)
spent-none firm lots [] zero = tt
spent-none firm lots (e ∷ es) zero =
    let w = lots-within firm lots e.order in (omega (arith, zero, w.1), spent-none firm (lots - lots_for_firm firm lots e.order) es (omega (arith, zero)))

-- at most these lots are traded
pub spent-leaves : (lots : ℕ) (es : List Entry) (m : MatchState) → m.taker.order.leaves ≤ (trade_shares Lmm (spent lots es) m).taker.order.leaves + lots
spent-leaves lots [] m = omega arith
spent-leaves lots (e ∷ es) m =
    let n = min lots e.order.shown in
    omega (arith, share-leaves Lmm e.slot n m, spent-leaves (lots - n) es (trade_share Lmm e.slot n m))
