-- What the private functions compute of a document is what the rows say.
use Rattle.std.proofs.Common.{◌≡◌, false, None, refl}
use Rattle.toml.specs.Data.{Data}
use Rattle.product_file.specs.declared.limits.TheConstants.{MOST_ORDERS, LEAST_JOURNAL, MOST_JOURNAL}
use Rattle.product_file.specs.declared.faults.Key.TheVariants.{Exchange, Firms, MaxOrders, JournalLimit}
use Rattle.product_file.specs.Values.{texts_at}
use Rattle.gx_base.specs.FirstFault.{unless_fault}
use Rattle.product_file.specs.ProductRows.{document_fault}
use Rattle.product_file.specs.ProductValues.{product_in}
use Rattle.product_file.specs.Inner.Keys.{needed_name, number_if}
use Rattle.product_file.specs.Inner.FirmNames.{firms_of}
use Rattle.product_file.specs.Inner.Instruments.{instruments_of}
use Rattle.product_file.specs.Inner.Documents.{product_of_document}
use Rattle.product_file.proofs.Judged.{in_turn}
use Rattle.product_file.proofs.RowValues.{name_needed, number_optional}
use Rattle.product_file.proofs.RowFirms.{firms_row}
use Rattle.product_file.proofs.RowInstruments.{instruments_row}

pub by_rows : (document : Data) → product_of_document document ≡ unless_fault (document_fault document) (product_in document)
unfolding product_of_document
by_rows document =
    let firms = texts_at Firms document in
    let product = product_in document in
    in_turn (needed_name Exchange document) _ _ _ _ product (name_needed Exchange document) (λ _.
    in_turn (firms_of document) _ _ _ _ product (firms_row document) (λ _.
    in_turn (number_if false MaxOrders 1 MOST_ORDERS document) _ _ _ _ product (number_optional MaxOrders 1 MOST_ORDERS document) (λ _.
    in_turn (number_if false JournalLimit LEAST_JOURNAL MOST_JOURNAL document) _ _ _ _ product (number_optional JournalLimit LEAST_JOURNAL MOST_JOURNAL document) (λ _.
    in_turn (instruments_of firms document) _ _ _ None product (instruments_row firms document) (λ _. refl)))))
