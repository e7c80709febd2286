use Rattle.market_laws.specs.Acts.{Act, EachAct}
use Rattle.market_laws.specs.Acts.Act.{trades, notes, rests, cancels, waits, triggers}
use Rattle.market_laws.specs.RightActs.{IsRightAct, IsTopByPrice}
use Rattle.plain_book.specs.Match.{MatchState}
use Rattle.market_laws.proofs.Chains.{each-with}
use Rattle.market_laws.proofs.Lifted.{in-each}
use Rattle.market_laws.proofs.Lasting.{top-is-first}
use Rattle.market_laws.proofs.laws.top_is_first_in_line.Goals as goal

top-of-act : (act : Act) (m : MatchState) → IsRightAct act m → IsTopByPrice act m
top-of-act (trades step slot lots) m h = tt
top-of-act (notes slot lots) m h = tt
top-of-act (rests steps) m h = h.top
top-of-act (cancels why) m h = tt
top-of-act waits m h = tt
top-of-act (triggers stop) m h = tt

pub returns-clause-line : goal.returns-clause-line
returns-clause-line c = top-is-first

pub returns-clause-price : goal.returns-clause-price
returns-clause-price c = in-each (λ product acts start. EachAct IsTopByPrice acts start) (λ product acts m h. each-with IsRightAct IsTopByPrice top-of-act acts m h)
