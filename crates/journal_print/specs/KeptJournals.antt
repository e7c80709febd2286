-- A journal that was opened to be read more than once, and the products of its texts.
use Rattle.std.specs.Prelude.{◌≡◌, ℕ, ◌<◌, ◌≤◌, List}
use Rattle.gx_station.specs.Stations.{StationMeanings}
use Rattle.product_file.specs.Products.{ProductLists}
use Rattle.match_journal.specs.Journal.{Header}
use Rattle.match_journal.specs.Standing.{IsStanding}
use Rattle.match_journal.specs.Opening.{StandsIn}
use Rattle.book_recovery.specs.Products.{HasProducts, all_products}
use Rattle.journal_print.specs.declared.kept.KeptJournal.{KeptJournal}

-- its records can be gone through: it is in reach, and its last text gives this product
pub record CanBeReadAgain {S : Type 0} (m : StationMeanings S) (product : ProductLists) (kept : KeptJournal) (station : S) : Type 0 where
  pub reach : kept.journal.known ≤ m.reach station
  pub in_limit : kept.journal.first < kept.journal.limit
  pub stands : IsStanding kept.journal
  pub last : kept.products.last.now ≡ product
  pub limit : kept.journal.limit ≡ product.journal_limit

-- it was opened in this image, and these are the products of the image
pub record IsKeptOf (image : List ℕ) (kept : KeptJournal) : Type 0 where
  pub stands : StandsIn kept.journal image
  pub head : Header
  pub taken : HasProducts head kept.journal.limit image (all_products kept.products)
