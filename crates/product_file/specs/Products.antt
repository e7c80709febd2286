-- A product as plain lists and numbers, and what holds of each one.
use Rattle.std.specs.Prelude.{◌≡◌, ℕ, ◌<◌, ◌≤◌, pos, ◌≤ℤ◌, Bool, false, List, length, Option, Some, None, is_some}
use Rattle.std.specs.List.{AllByRecursion}
use Rattle.gx_base.specs.NameLists.{NameLists}
use Rattle.gx_base.specs.declared.order.LmmShare.{LmmShare}
use Rattle.step_config.specs.declared.step.Step.{Step}
use Rattle.step_config.specs.declared.step.Step.TheVariants.{Top, Lmm, Split, ProRata, Leveling, Fifo}
use Rattle.gx_base.specs.declared.limits.TheConstants.{MOST_FIRMS, MOST_INSTRUMENTS}
use Rattle.step_config.specs.RightSteps.{AreRightSteps}
use Rattle.step_config.specs.Rules.{top_rule_of}
use Rattle.product_file.specs.declared.limits.TheConstants.{MOST_ORDERS, LEAST_JOURNAL, MOST_JOURNAL, MOST_TICK, MOST_PROTECTION}
use Rattle.product_file.specs.declared.product.InstrumentRule.{InstrumentRule}

pub record ProductLists : Type 0 where
  pub names : NameLists
  -- how many orders may be live at once
  pub max_orders : ℕ
  -- how many bytes the journal may have
  pub journal_limit : ℕ
  -- by instrument, in the order of the names
  pub rules : List InstrumentRule

-- the steps of an instrument favor a TOP order
abbrev pub has_top_by : Option InstrumentRule → Bool
has_top_by None = false
has_top_by (Some rule) = is_some (top_rule_of rule.steps)

-- each firm of an LMM step is one of so many
abbrev pub HasListedFirms : ℕ → Step → Type 0
HasListedFirms firms (Lmm shares) = AllByRecursion (λ (s : LmmShare). s.firm < firms) shares.items
HasListedFirms firms (Top rule) = Unit {0}
HasListedFirms firms (Split percent) = Unit {0}
HasListedFirms firms (ProRata least) = Unit {0}
HasListedFirms firms Leveling = Unit {0}
HasListedFirms firms Fifo = Unit {0}

pub record IsRightInstrument (firms : ℕ) (rule : InstrumentRule) : Type 0 where
  pub least_tick : pos 1 ≤ℤ rule.tick
  pub most_tick : rule.tick ≤ℤ pos MOST_TICK
  pub protection : rule.protection ≤ MOST_PROTECTION
  pub listed_firms : AllByRecursion (HasListedFirms firms) rule.steps
  pub right_steps : AreRightSteps rule.steps

pub record IsRightProduct (p : ProductLists) : Type 0 where
  pub some_firms : 1 ≤ length p.names.firms
  pub few_firms : length p.names.firms ≤ MOST_FIRMS
  pub some_instruments : 1 ≤ length p.names.instruments
  pub few_instruments : length p.names.instruments ≤ MOST_INSTRUMENTS
  pub a_rule_each : length p.rules ≡ length p.names.instruments
  pub some_orders : 1 ≤ p.max_orders
  pub few_orders : p.max_orders ≤ MOST_ORDERS
  pub least_limit : LEAST_JOURNAL ≤ p.journal_limit
  pub most_limit : p.journal_limit ≤ MOST_JOURNAL
  pub each : AllByRecursion (IsRightInstrument (length p.names.firms)) p.rules
