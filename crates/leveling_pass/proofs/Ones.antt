-- One lot for some orders of a level, and none for the others, as a rule of shares.
use Rattle.std.proofs.Common.{◌≡◌, ℕ, ◌-◌, ◌≤◌, min, Bool, true, false, cond, List, [], ◌∷◌, filter, refl, ap, ◌∙◌, arith}
use Rattle.std.specs.Prelude.{◌==◌}
use Rattle.std.specs.List.{AllByRecursion}
use Rattle.gx_base.specs.declared.event.StepName.TheVariants.{Leveling}
use Rattle.plain_book.specs.declared.entry.Entry.{Entry}
use Rattle.plain_book.specs.Orders.{Level, is_at, orders_at}
use Rattle.plain_book.specs.Book.{AllRest, IsResting}
use Rattle.plain_book.specs.Match.{MatchState, trade_share, trade_shares}
use Rattle.plain_book.specs.Shares.{shares_by, AreWithin, AreNone}
use Rattle.plain_book.specs.Steps.{ones, leveling_shares}
use Rattle.plain_book.proofs.Pairs.{all-filter, all-with}
use Rattle.leveling_pass.specs.OneEach.{lot_for, one_each}
use Rattle.leveling_pass.specs.declared.pass.OneEach.{OneEach}

abbrev pub ones_of : ℕ → OneEach
ones_of lots = record { left = lots }

-- an order had no share
abbrev is_left_out : Entry → Bool
is_left_out e = e.order.prorated == 0

-- the share of an order that had one is 0, and so it does not trade
pub trade-ones : (lots : ℕ) (es : List Entry) (m : MatchState) → trade_shares Leveling (shares_by one_each (ones_of lots) es) m ≡ trade_shares Leveling (leveling_shares lots es) m
trade-ones lots [] m = refl
trade-ones lots (e ∷ es) m =
    let F = filter is_left_out es in
    let rest : ℕ → MatchState → MatchState = λ n s. trade_shares Leveling (shares_by one_each (ones_of (lots - n)) es) s in
    let more : (n k : ℕ) (s : MatchState) → lots - n ≡ k → rest n s ≡ trade_shares Leveling (ones k F) s = λ n k s same. trade-ones (lots - n) es s ∙ ap (λ (i : ℕ). trade_shares Leveling (ones i F) s) same in
    let go : (c : Bool) → let n = cond c (min lots 1) 0 in rest n (trade_share Leveling e.slot n m) ≡ trade_shares Leveling (ones lots (cond c (e ∷ F) F)) m = elim [
      | true ↦ more (min lots 1) (lots - 1) (trade_share Leveling e.slot (min lots 1) m) (omega arith)
      | false ↦ more 0 lots m (omega arith)
    ] in go (is_left_out e)

-- each order shows a lot
abbrev AllShow : List Entry → Type 0
AllShow es = AllByRecursion (λ (e : Entry). 1 ≤ e.order.shown) es

ones-fit : (wanted lots : ℕ) (es : List Entry) → lots ≤ wanted → AllShow es → AreWithin one_each wanted (ones_of lots) es
ones-fit wanted lots [] le show = tt
ones-fit wanted lots (e ∷ es) le show =
    let some : 1 ≤ e.order.shown = show.0 in
    let small : (c : Bool) → (cond c (min lots 1) 0 ≤ e.order.shown) × (cond c (min lots 1) 0 ≤ lots) = elim [ true ↦ (omega arith, omega arith) | false ↦ (omega arith, omega arith) ] in
    let n = lot_for lots e.order in
    let fits : (n ≤ e.order.shown) × (n ≤ lots) = small (is_left_out e) in
    (fits.0, omega (arith, fits.1), ones-fit (wanted - n) (lots - n) es (omega arith) show.1)

-- once none is left, no order trades
pub ones-none : (lots : ℕ) (es : List Entry) → lots ≡ 0 → AreNone (shares_by one_each (ones_of lots) es)
ones-none lots [] zero = tt
ones-none lots (e ∷ es) zero =
    let small : (c : Bool) → cond c (min lots 1) 0 ≤ lots = elim [ true ↦ omega arith | false ↦ omega arith ] in
    let n = lot_for lots e.order in
    let fits : n ≤ lots = small (is_left_out e) in
    (omega (arith, zero, fits), ones-none (lots - n) es (omega (arith, zero)))

-- each order that rests shows a lot, and no more lots are traded than are wanted
pub ones-within : (wanted instruments : ℕ) (k : Level) (es : List Entry) → AllRest instruments es → AreWithin one_each wanted (ones_of wanted) (orders_at k es)
ones-within wanted instruments k es rest =
    let Rests = λ (e : Entry). IsResting instruments e.order in
    let Shows = λ (e : Entry). 1 ≤ e.order.shown in
    ones-fit wanted wanted (orders_at k es) (omega arith) (all-with Rests Shows (λ e r. r.showing) (orders_at k es) (all-filter Rests (is_at k) es rest))
