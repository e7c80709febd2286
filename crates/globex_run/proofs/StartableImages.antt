-- An image from which a run can start is refused by no command.
use Rattle.std.proofs.Common.{⊎_elim, ◌≡◌, ◌≤◌, ℕ, List, length, Ok}
use Rattle.product_file.specs.Products.{ProductLists}
use Rattle.product_file.specs.ProductTexts.{product_of}
use Rattle.match_journal.specs.Journal.{IsJournal}
use Rattle.match_journal.specs.Classes.{IsForeignAt}
use Rattle.match_journal.specs.Opening.{IsOpenedOf, IsBadAt, HasOtherText}
use Rattle.match_journal.specs.declared.limits.TheConstants.{MOST_TEXT}
use Rattle.match_journal.specs.declared.faults.StartFault.TheVariants as start
use Rattle.match_journal.proofs.Unique.{unfinished_not_opened}
use Rattle.order_kinds.specs.Histories.{History}
use Rattle.book_recovery.specs.Kept.{IsStartable}
use Rattle.book_recovery.specs.BadPlaces.{IsBadForEachRecord, IsBadPlace}
use Rattle.book_recovery.proofs.OneWay.{no_bad_place}
use Rattle.command_words.specs.declared.command.Command.{Command}
use Rattle.command_words.specs.declared.command.Command.TheVariants.{Run, Replay, Book, Fills, Ledger, Steps, Drill, Checkpoint, Amend, Session, Opening, Levels, Rebuild}
use Rattle.globex_run.specs.Refusals.{HasBadRecordFor, IsRefusedWith}
use Rattle.globex_run.proofs.ProductReads.{short-text}
use Rattle.globex_run.proofs.KeptMore.{good-startable}
use Rattle.globex_run.proofs.Openings.{kept_not_refused}
use Rattle.globex_run.proofs.Refused.{unfinished-of, journal-opened-as, good-not-bad}

module _ (product : ProductLists) (text image : List ℕ) (kept : History) (gives : product_of text ≡ Ok product) (can : IsStartable product text kept image) where
  abbrev limit : ℕ
  limit = product.journal_limit

  short : length can.head.text ≤ MOST_TEXT
  short = short-text can.head.text can.first can.gives

  pub not-foreign : (at : ℕ) → IsForeignAt image at → ⊥
  not-foreign at foreign = kept_not_refused text kept image limit (start.NotAJournal at) can foreign (λ e. cc e)

  pub not-bad-front : (at : ℕ) → IsBadAt limit image at → ⊥
  not-bad-front at bad = kept_not_refused text kept image limit (start.Bad at) can bad (λ e. cc e)

  pub not-other : (at : ℕ) → HasOtherText text limit image at → ⊥
  not-other at other = kept_not_refused text kept image limit (start.ProductDiffers at) can other (λ e. cc e)

  -- where it is opened, it is a journal of its records
  is-journal : IsOpenedOf text limit image → IsJournal can.head limit can.records image
  is-journal opened = ⊎_elim
      (λ journal. journal)
      (λ unfinished. absurd (unfinished_not_opened text limit image (unfinished-of text image can.head can.records can.last unfinished) opened))
      can.keeps

  pub not-bad : (at : ℕ) (opened : IsOpenedOf text limit image) → IsBadPlace product opened.head limit image at → ⊥
  not-bad at opened bad = no_bad_place product opened.head limit can.records image at (journal-opened-as text image limit opened can.head short can.records (is-journal opened)) (good-startable product text kept image can gives) bad

  pub not-bad-record : (at : ℕ) (opened : IsOpenedOf text limit image) → IsBadForEachRecord opened.head limit image at → ⊥
  not-bad-record at opened bad = good-not-bad text image limit opened can.head short can.records (is-journal opened) can.first can.gives can.good at bad

  not-bad-for : (command : Command) (at : ℕ) (opened : IsOpenedOf text limit image) → HasBadRecordFor command product opened.head image at → ⊥
  not-bad-for Run at opened bad = not-bad at opened bad
  not-bad-for (Drill first count) at opened bad = not-bad at opened bad
  not-bad-for Checkpoint at opened bad = not-bad at opened bad
  not-bad-for Amend at opened bad = not-bad at opened bad
  not-bad-for Book at opened bad = not-bad at opened bad
  not-bad-for Opening at opened bad = not-bad at opened bad
  not-bad-for Replay at opened bad = not-bad-record at opened bad
  not-bad-for Fills at opened bad = not-bad-record at opened bad
  not-bad-for Ledger at opened bad = not-bad-record at opened bad
  not-bad-for Levels at opened bad = not-bad-record at opened bad
  not-bad-for Session at opened bad = not-bad-record at opened bad
  not-bad-for Steps at opened bad = absurd bad
  not-bad-for Rebuild at opened bad = absurd bad

  pub not-refused-by : (command : Command) (status at : ℕ) → IsRefusedWith command product text image status at → ⊥
  not-refused-by command status at refused = ⊎_elim
      (λ foreign. not-foreign at foreign.1)
      (λ others. ⊎_elim
      (λ bad. ⊎_elim (λ front. not-bad-front at front) (λ opened. not-bad-for command at opened.0 opened.1) bad.1)
      (λ other. not-other at other.1)
      others)
      refused
