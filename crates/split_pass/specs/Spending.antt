-- Lots that are spent over orders by priority.
use Rattle.std.specs.Prelude.{◌-◌, min}
use Rattle.plain_book.specs.Shares.{ShareMeanings}
use Rattle.split_pass.specs.declared.split.Spent.{Spent}

-- each order trades what it shows, as far as any lots are left
abbrev pub spending : ShareMeanings Spent
spending = record {
  share = λ rule o. min rule.left o.shown;
  behind = λ rule o. record rule { left = rule.left - min rule.left o.shown };
}
