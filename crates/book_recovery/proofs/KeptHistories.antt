-- Histories that an image keeps.
use Rattle.std.proofs.Common.{◌≡◌, ℕ, List, Ok, ap, ◌∙◌}
use Rattle.product_file.specs.Products.{ProductLists}
use Rattle.product_file.specs.ProductTexts.{product_of}
use Rattle.order_kinds.specs.Histories.{History, last_product}
use Rattle.match_journal.specs.Texts.{last_text}
use Rattle.book_recovery.specs.Kept.{IsStartableWithin}
use Rattle.book_recovery.proofs.Histories.{good-amended, last-gives, one-product}

-- the product of the text with which a command can go on from an image is the last one of what the image keeps
pub last-is : {limit : ℕ} (product : ProductLists) (text : List ℕ) (kept : History) (image : List ℕ) → product_of text ≡ Ok product → IsStartableWithin limit text kept image → last_product kept ≡ product
last-is product text kept image gives startable =
    ap last_product startable.are
    ∙ one-product _ product (last_text startable.head startable.records).bytes (last-gives startable.head startable.first startable.records startable.gives (good-amended startable.first 0 startable.records startable.good))
    (ap product_of startable.last.is ∙ gives)
