-- What was sent again of the lines of a history, by the answer.
use Rattle.std.specs.Prelude.{◌≡◌, ℕ, List, Result, Ok, Err}
use Rattle.gx_base.specs.KnownBytes.{IsKnownPrefix}
use Rattle.gx_station.specs.Stations.{StationMeanings, sent_and}
use Rattle.order_kinds.specs.Histories.{History, lines_kept}
use Rattle.fix_session.specs.Again.{again_text}
use Rattle.fix_session.specs.declared.again.ReportRange.{ReportRange}
use Rattle.journal_print.specs.declared.unprinted.Unprinted.{Unprinted}
use Rattle.journal_print.specs.declared.unprinted.Unprinted.TheVariants as unprinted

-- the lines of a range again, of all events of a history: each with the names of the product of its time
abbrev pub lines_again_kept : ReportRange → History → List ℕ
lines_again_kept range history = lines_kept (again_text range) history

module _ {S : Type 0} (m : StationMeanings S) (bytes : List ℕ) (old new : S) where
  -- all of it was sent, or a part if a call on the store or a send has failed; there is no other answer
  abbrev pub SendsAgain : Result (Unit {0}) Unprinted → Type 0
  SendsAgain (Ok t) = m.sent new ≡ sent_and (m.sent old) bytes
  SendsAgain (Err unprinted.Store) = IsKnownPrefix (m.sent new) (sent_and (m.sent old) bytes)
  SendsAgain (Err unprinted.Send) = IsKnownPrefix (m.sent new) (sent_and (m.sent old) bytes)
  SendsAgain (Err unprinted.NoMemory) = ⊥
  SendsAgain (Err (unprinted.NotAJournal at)) = ⊥
  SendsAgain (Err (unprinted.Bad at)) = ⊥
  SendsAgain (Err (unprinted.ProductDiffers at)) = ⊥
