-- The product of a text is right.
use Rattle.std.proofs.Common.{◌≡◌, ℕ, ◌≤◌, Bool, true, false, List, length, nat_lt, Option, Some, None, unwrap_or, IfSome, Result, Ok, Err, if◌then◌else◌, ◌∙◌, subst, lit≤}
use Rattle.toml.specs.Data.{Data, get}
use Rattle.product_file.specs.declared.limits.TheConstants.{LONGEST_TEXT, MOST_ORDERS, LEAST_JOURNAL, MOST_JOURNAL, USUAL_ORDERS, USUAL_JOURNAL}
use Rattle.product_file.specs.declared.faults.ProductFault.{ProductFault}
use Rattle.product_file.specs.declared.faults.ProductFault.TheVariants.{TooLong}
use Rattle.product_file.specs.declared.faults.Key.{Key}
use Rattle.product_file.specs.declared.faults.Key.TheVariants.{Exchange, MaxOrders, JournalLimit}
use Rattle.product_file.specs.Keys.{word_of}
use Rattle.product_file.specs.Products.{ProductLists, IsRightProduct}
use Rattle.product_file.specs.ProductTexts.{product_of, document_of, product_of_data}
use Rattle.product_file.specs.Inner.Keys.{needed_name, number_of, number_if, read_or_none}
use Rattle.product_file.specs.Inner.FirmNames.{firms_of}
use Rattle.product_file.specs.Inner.Instruments.{instruments_of}
use Rattle.product_file.specs.Inner.Documents.{product_of_document}
use Rattle.product_file.proofs.Given.{both_gave}
use Rattle.product_file.proofs.RightShares.{number_within}
use Rattle.product_file.proofs.RightProduct.{right_product, usual_within}
use Rattle.product_file.proofs.RowProduct.{by_rows}

-- an optional number is within its limits
found_within : (key : Key) (low high : ℕ) (value : Option Data) (found : Option ℕ) → read_or_none false key (λ k. number_of k low high) value ≡ Ok found → IfSome found (λ n. (low ≤ n) × (n ≤ high))
found_within key low high None found e = let same : None ≡ found = cc in subst (λ (o : Option ℕ). IfSome o (λ n. (low ≤ n) × (n ≤ high))) same tt
found_within key low high (Some value) found e =
    let (n, given, made) = both_gave (number_of key low high value) (λ (n : ℕ). Ok (Some n)) found e in
    let same : Some n ≡ found = cc in
    subst (λ (o : Option ℕ). IfSome o (λ n. (low ≤ n) × (n ≤ high))) same (number_within key low high value n given)

right_document : (document : Data) (product : ProductLists) → product_of_document document ≡ Ok product → IsRightProduct product
unfolding product_of_document
right_document document product e =
    let (exchange, _, e1) = both_gave (needed_name Exchange document) _ product e in
    let (firms, firms_given, e2) = both_gave (firms_of document) _ product e1 in
    let (orders, orders_given, e3) = both_gave (number_if false MaxOrders 1 MOST_ORDERS document) _ product e2 in
    let (limit, limit_given, e4) = both_gave (number_if false JournalLimit LEAST_JOURNAL MOST_JOURNAL document) _ product e3 in
    let (instruments, instruments_given, made) = both_gave (instruments_of firms document) _ product e4 in
    let few_orders = usual_within orders 1 MOST_ORDERS USUAL_ORDERS (found_within MaxOrders 1 MOST_ORDERS (get (word_of MaxOrders) document) orders orders_given) (lit≤ tt) (lit≤ tt) in
    let within_limit = usual_within limit LEAST_JOURNAL MOST_JOURNAL USUAL_JOURNAL (found_within JournalLimit LEAST_JOURNAL MOST_JOURNAL (get (word_of JournalLimit) document) limit limit_given) (lit≤ tt) (lit≤ tt) in
    let same : ◌≡◌ {A = ProductLists} (record {
      names = record { exchange = exchange; firms = firms; instruments = instruments.listed };
      max_orders = unwrap_or orders USUAL_ORDERS;
      journal_limit = unwrap_or limit USUAL_JOURNAL;
      rules = instruments.rules;
    }) product = cc in
    subst IsRightProduct same (right_product document exchange firms instruments firms_given instruments_given (unwrap_or orders USUAL_ORDERS) (unwrap_or limit USUAL_JOURNAL) few_orders within_limit)

of_data : (document : Option Data) (product : ProductLists) → product_of_data document ≡ Ok product → IsRightProduct product
of_data None product e = cc
of_data (Some document) product e = right_document document product (by_rows document ∙ e)

of_text : (too_long : Bool) (document : Option Data) (product : ProductLists) → ◌≡◌ {A = Result ProductLists ProductFault} (if too_long then Err TooLong else product_of_data document) (Ok product) → IsRightProduct product
of_text true document product e = cc
of_text false document product e = of_data document product e

pub product_of_text_is_right : (text : List ℕ) (product : ProductLists) → product_of text ≡ Ok product → IsRightProduct product
unfolding product_of
product_of_text_is_right text product e = of_text (nat_lt LONGEST_TEXT (length text)) (document_of text) product e
