-- What was noted of the messages that the journal in an image keeps, by the answer.
use Rattle.std.specs.Prelude.{◌≡◌, ◌⊎◌, ℕ, ◌≤◌, List, [], Option, None, IfSome, Result, Ok, Err}
use Rattle.product_file.specs.Products.{ProductLists}
use Rattle.match_journal.specs.Classes.{IsForeignAt}
use Rattle.match_journal.specs.Opening.{IsOpenedOf, IsBadAt, HasOtherText}
use Rattle.order_kinds.specs.declared.core_state.TheConstants.{MOST_MESSAGES}
use Rattle.order_kinds.specs.State.{State}
use Rattle.order_kinds.specs.Histories.{History, of_product, length_kept, state_kept}
use Rattle.book_recovery.specs.Kept.{HasKept}
use Rattle.book_recovery.specs.BadPlaces.{HasAmendment, IsBadForEachRecord}
use Rattle.fix_session.specs.declared.sessions.FirmSession.{FirmSession}
use Rattle.journal_print.specs.KeptJournals.{IsKeptOf}
use Rattle.journal_print.specs.NoteWorks.{sessions_noted}
use Rattle.journal_print.specs.declared.kept.KeptJournal.{KeptJournal}
use Rattle.journal_print.specs.declared.unprinted.Unprinted.{Unprinted}
use Rattle.journal_print.specs.declared.unprinted.Unprinted.TheVariants as unprinted

module _ (product : ProductLists) (text image : List ℕ) (sessions noted : List FirmSession) (state : State) where
  -- Each message of the history kept was noted under the product of its time, and a core has the counters after it. What was opened
  -- is the journal of the image; it is none where the image is an unfinished creation, which keeps no message.
  pub record AllNoted (found : Option KeptJournal) : Type 0 where
    pub kept : History
    pub has : HasKept product text kept image
    pub few : length_kept kept ≤ MOST_MESSAGES
    pub noted_is : noted ≡ sessions_noted sessions kept
    pub desk_is : state.desk ≡ (state_kept kept).desk
    pub of_image : IfSome found (IsKeptOf image)
    pub none : found ≡ None → kept ≡ of_product product []

  -- No two of these answers but for a fault of the store or want of memory fit one image, so each comes exactly where it fits.
  abbrev pub NotesMessages : Result (Option KeptJournal) Unprinted → Type 0
  NotesMessages (Ok found) = AllNoted found
  NotesMessages (Err unprinted.Store) = Unit {0}
  NotesMessages (Err unprinted.Send) = ⊥
  NotesMessages (Err unprinted.NoMemory) = (opened : IsOpenedOf text product.journal_limit image) × HasAmendment opened.head product.journal_limit image
  NotesMessages (Err (unprinted.NotAJournal at)) = IsForeignAt image at
  NotesMessages (Err (unprinted.Bad at)) =
      IsBadAt product.journal_limit image at ⊎ ((opened : IsOpenedOf text product.journal_limit image) × IsBadForEachRecord opened.head product.journal_limit image at)
  NotesMessages (Err (unprinted.ProductDiffers at)) = HasOtherText text product.journal_limit image at
