-- Lots that are spent over the orders of one firm, by priority.
use Rattle.std.specs.Prelude.{ℕ, ◌-◌, ◌==◌, min, if◌then◌else◌}
use Rattle.gx_base.specs.declared.order.Order.{Order}
use Rattle.plain_book.specs.Shares.{ShareMeanings}
use Rattle.lmm_pass.specs.declared.pass.SpentOnFirm.{SpentOnFirm}

-- what an order trades of the lots that are left for a firm: what it shows, and nothing where it is another firm's
abbrev pub lots_for_firm : ℕ → ℕ → Order → ℕ
lots_for_firm firm left o = if o.firm == firm then min left o.shown else 0

-- each order of the firm trades what it shows, as far as any lots are left
abbrev pub spending_on_firm : ShareMeanings SpentOnFirm
spending_on_firm = record {
  share = λ rule o. lots_for_firm rule.firm rule.left o;
  behind = λ rule o. record rule { left = rule.left - lots_for_firm rule.firm rule.left o };
}
