use Rattle.product_file.proofs.RightTexts.{product_of_text_is_right}
use Rattle.product_file.proofs.laws.products_of_texts_are_right.Goals as goal

pub returns : goal.returns
returns c = λ text product e. product_of_text_is_right text product e
