use Rattle.plain_book.specs.declared.entry.Entry.{Entry}
use Rattle.plain_book.specs.Book.{IsResting}
use Rattle.plain_book.proofs.Pairs.{all-with}
use Rattle.order_kinds.specs.Histories.{state_kept}
use Rattle.image_laws.proofs.Histories.{history-reached}
use Rattle.market_laws.specs.Shares.{IsShownPart}
use Rattle.market_laws.proofs.Proportion.{hidden-level}
use Rattle.market_laws.proofs.laws.hidden_stays_hidden.Goals as goal

pub returns-clause-levels : goal.returns-clause-levels
returns-clause-levels c = hidden-level

pub returns-clause-orders : goal.returns-clause-orders
returns-clause-orders c = λ history right is.
    (let b = (state_kept history).book in
    all-with (λ (e : Entry). IsResting b.instruments e.order) IsShownPart (λ e r. record { some = r.showing; within = r.within; display = r.display }) b.resting (history-reached history right is).held.book.rest)
