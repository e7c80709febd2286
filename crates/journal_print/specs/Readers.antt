-- A reader before its first record, and after all that it has read.
use Rattle.std.specs.Prelude.{◌≡◌, []}
use Rattle.product_file.specs.Products.{ProductLists}
use Rattle.order_kinds.specs.Cores.{FitsProduct}
use Rattle.order_kinds.specs.State.{empty_state}
use Rattle.book_recovery.specs.Recovering.{HasRoomFor}
use Rattle.journal_print.specs.declared.reader.Reader.{Reader}

-- it has read nothing, and has room for each right book image of a product
pub record IsNewReader {B : Type 0} (product : ProductLists) (reader : Reader B) : Type 0 where
  pub core : reader.core ≡ empty_state product
  pub spare : reader.spare ≡ empty_state product
  pub room : HasRoomFor product reader.scratch
  pub reports : reader.reports ≡ []

-- it has gone through a journal under a product, or has read nothing: it can be made new, and nothing waits to be sent
pub record IsIdleReader {B : Type 0} (product : ProductLists) (reader : Reader B) : Type 0 where
  pub core : FitsProduct product reader.core
  pub spare : reader.spare ≡ empty_state product
  pub room : HasRoomFor product reader.scratch
  pub reports : reader.reports ≡ []
