use Rattle.gx_base.proofs.NumberTexts.{decimal-digits, decimal-value}
use Rattle.gx_base.proofs.PricesAgain.{price-read}
use Rattle.gx_base.proofs.laws.printed_texts_are_read_back.Goals as goal

pub returns-clause-prices : goal.returns-clause-prices
returns-clause-prices c = price-read

pub returns-clause-numbers : goal.returns-clause-numbers
returns-clause-numbers c = λ n h. (decimal-digits n h, decimal-value n h)
