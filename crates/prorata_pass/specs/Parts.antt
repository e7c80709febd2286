-- The part of what is wanted that each order of a level trades.
use Rattle.plain_book.specs.Shares.{ShareMeanings}
use Rattle.plain_book.specs.Steps.{prorata_share}
use Rattle.prorata_pass.specs.declared.ratio.Ratio.{Ratio}

-- each order trades its part of the same pool, in proportion to what it shows
abbrev pub parts : ShareMeanings Ratio
parts = record { share = λ ratio o. prorata_share ratio.least ratio.pool ratio.total o.shown; behind = λ ratio o. ratio }
