-- Histories whose products are those of texts: what their reports add up to.
use Rattle.product_file.proofs.RightTexts.{product_of_text_is_right}
use Rattle.order_kinds.specs.Histories.{History, of_product, amended, AreRightProducts, AreOfTexts, IsBalanced}
use Rattle.engine_laws.proofs.BalancedHistories.{histories-balance}
use Rattle.stream_laws.specs.Histories.{HaveNames}
use Rattle.stream_laws.specs.Sums.{IsReadBalanced}
use Rattle.stream_laws.proofs.Histories.{histories-have-names}

right-products : (kept : History) → AreOfTexts kept → AreRightProducts kept
right-products (of_product product messages) of_text = product_of_text_is_right of_text.0 product of_text.1
right-products (amended before product messages) of_texts = (right-products before of_texts.0, product_of_text_is_right of_texts.1.0 product of_texts.1.1)

pub all-balance : (kept : History) → AreOfTexts kept → IsBalanced kept
all-balance kept of_texts = histories-balance kept (right-products kept of_texts)

-- so do the bytes of the reports
pub all-balance-as-read : ((history : History) → AreRightProducts history → HaveNames history → IsReadBalanced history) → (kept : History) → AreOfTexts kept → IsReadBalanced kept
all-balance-as-read law kept of_texts = law kept (right-products kept of_texts) (histories-have-names kept of_texts)
