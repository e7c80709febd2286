-- The laws of shares: of proportion, of equal firms, and of what is shown.
use Rattle.std.specs.Prelude.{◌≡◌, ℕ, ◌+◌, ◌*◌, ◌<◌, ◌≤◌, min, List, [], ◌∷◌, map, Option}
use Rattle.step_config.specs.declared.step.Step.{Step}
use Rattle.step_config.specs.declared.step.Step.TheVariants.{Top, Lmm, Split, ProRata, Leveling, Fifo}
use Rattle.plain_book.specs.declared.entry.Entry.{Entry}
use Rattle.plain_book.specs.Match.{Share}
use Rattle.plain_book.specs.Steps.{prorata_share, top_shares, lmm_shares, split_shares, prorata_shares, leveling_shares}

-- ---- in proportion

-- Of a pool of lots, which is offered to orders that show so many in total, an order gets at most its part, less than one lot
-- below it where its part reaches the least and nothing elsewhere, and an order that shows more never gets less.
pub record IsInProportion (least pool total : ℕ) : Type 0 where
  pub at_most : (shown : ℕ) → prorata_share least pool total shown * total ≤ pool * shown
  pub within_a_lot : (shown : ℕ) → least * total ≤ pool * shown → pool * shown < (prorata_share least pool total shown + 1) * total
  pub nothing_below : (shown : ℕ) → pool * shown < least * total → prorata_share least pool total shown ≡ 0
  pub larger_gets_more : (a b : ℕ) → a ≤ b → prorata_share least pool total a ≤ prorata_share least pool total b

-- ---- firms

-- The shares of a step, of q lots that are wanted, over a level whose side has this TOP. FIFO gives one share at a time, from
-- the head of the level as it then stands.
abbrev pub shares_of : Step → Option ℕ → ℕ → List Entry → List Share
shares_of (Top rule) top q es = top_shares rule.max top q es
shares_of (Lmm shares) top q es = lmm_shares shares.items q es
shares_of (Split percent) top q es = split_shares percent q es
shares_of (ProRata least) top q es = prorata_shares least q es
shares_of Leveling top q es = leveling_shares q es
shares_of Fifo top q [] = []
shares_of Fifo top q (e ∷ es) = (e.slot, min q e.order.shown) ∷ []

-- the same orders, each of any firm
abbrev pub of_firm : (Entry → ℕ) → Entry → Entry
of_firm firm e = record e { order = record e.order { firm = firm e } }

abbrev pub of_firms : (Entry → ℕ) → List Entry → List Entry
of_firms firm es = map (of_firm firm) es

-- the steps that look at no firm
abbrev pub IsBlind : Step → Type 0
IsBlind (Lmm shares) = ⊥
IsBlind _ = Unit {0}

-- ---- what is shown

-- an order that rests shows some of its open lots, and no more than its display quantity where it has one
pub record IsShownPart (e : Entry) : Type 0 where
  pub some : 1 ≤ e.order.shown
  pub within : e.order.shown ≤ e.order.leaves
  pub display : 1 ≤ e.order.show → e.order.shown ≤ e.order.show

-- the same orders, each with any lots that are not shown
abbrev pub hiding : (Entry → ℕ) → Entry → Entry
hiding more e = record e { order = record e.order { leaves = e.order.shown + more e } }
