-- What is read is a right product.
use Rattle.std.proofs.Common.{◌≡◌, ℕ, ◌≤◌, List, Option, Some, None, unwrap_or, IfSome, Ok}
use Rattle.gx_base.specs.NameLists.{AreRight}
use Rattle.toml.specs.Data.{Data}
use Rattle.product_file.specs.declared.limits.TheConstants.{MOST_ORDERS, LEAST_JOURNAL, MOST_JOURNAL}
use Rattle.product_file.specs.Inner.FirmNames.{firms_of}
use Rattle.product_file.specs.Inner.Instruments.{InstrumentLists, instruments_of}
use Rattle.product_file.specs.Products.{IsRightProduct}
use Rattle.product_file.proofs.RightFirms.{AreRightFirms, right_firms}
use Rattle.product_file.proofs.RightInstruments.{AreRightInstruments, right_instruments}

-- a number within its limits, or the usual one
pub usual_within : (o : Option ℕ) (low high usual : ℕ) → IfSome o (λ n. (low ≤ n) × (n ≤ high)) → low ≤ usual → usual ≤ high → (low ≤ unwrap_or o usual) × (unwrap_or o usual ≤ high)
usual_within None low high usual h above below = (above, below)
usual_within (Some n) low high usual h above below = h

module _ (document : Data) (exchange : List ℕ) (firms : List (List ℕ)) (all : InstrumentLists) (e : firms_of document ≡ Ok firms) (f : instruments_of firms document ≡ Ok all) where
  right : AreRightFirms firms
  right = right_firms document firms e

  instruments : AreRightInstruments firms all
  instruments = right_instruments firms document all f

  pub right_names : AreRight (record { exchange = exchange; firms = firms; instruments = all.listed })
  right_names =
      record {
        few_firms = right.few;
        few_instruments = instruments.few;
        firms_differ = right.differ;
        instruments_differ = instruments.right.differ;
        few_decimals = instruments.right.few_decimals;
      }

  pub right_product : (max_orders journal_limit : ℕ) → (1 ≤ max_orders) × (max_orders ≤ MOST_ORDERS) → (LEAST_JOURNAL ≤ journal_limit) × (journal_limit ≤ MOST_JOURNAL)
      → IsRightProduct (record { names = record { exchange = exchange; firms = firms; instruments = all.listed }; max_orders = max_orders; journal_limit = journal_limit; rules = all.rules })
  right_product max_orders journal_limit orders limit =
      record {
        some_firms = right.some;
        few_firms = right.few;
        some_instruments = instruments.some;
        few_instruments = instruments.few;
        a_rule_each = instruments.right.a_rule_each;
        some_orders = orders.0;
        few_orders = orders.1;
        least_limit = limit.0;
        most_limit = limit.1;
        each = instruments.right.each;
      }
