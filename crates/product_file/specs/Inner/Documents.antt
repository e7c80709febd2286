-- The product of a document, step by step.
use Rattle.std.specs.Prelude.{false, unwrap_or, Result, Ok}
use Rattle.toml.specs.Data.{Data}
use Rattle.product_file.specs.declared.limits.TheConstants.{MOST_ORDERS, USUAL_ORDERS, LEAST_JOURNAL, MOST_JOURNAL, USUAL_JOURNAL}
use Rattle.product_file.specs.declared.faults.ProductFault.{ProductFault}
use Rattle.product_file.specs.declared.faults.Key.TheVariants.{Exchange, MaxOrders, JournalLimit}
use Rattle.product_file.specs.Inner.Keys.{◌>>=◌, number_if, needed_name}
use Rattle.product_file.specs.Inner.FirmNames.{firms_of}
use Rattle.product_file.specs.Inner.Instruments.{instruments_of}
use Rattle.product_file.specs.Products.{ProductLists}

unfoldable pub product_of_document : Data → Result ProductLists ProductFault
product_of_document document = do
  exchange ← needed_name Exchange document
  firms ← firms_of document
  max_orders ← number_if false MaxOrders 1 MOST_ORDERS document
  journal_limit ← number_if false JournalLimit LEAST_JOURNAL MOST_JOURNAL document
  instruments ← instruments_of firms document
  Ok (record {
    names = record { exchange = exchange; firms = firms; instruments = instruments.listed };
    max_orders = unwrap_or max_orders USUAL_ORDERS;
    journal_limit = unwrap_or journal_limit USUAL_JOURNAL;
    rules = instruments.rules;
  })
