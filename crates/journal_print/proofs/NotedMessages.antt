-- What was noted of all messages, from what was gone through.
use Rattle.std.proofs.Common.{◌≡◌, ◌⊎◌, inl, inr, ℕ, ◌<◌, List, Option, Result, Ok, Err, OnOk, refl, ◌∙◌, ap, arith}
use Rattle.std.specs.Prelude.{IsErrOf}
use Rattle.gx_station.specs.Stations.{StationMeanings}
use Rattle.product_file.specs.Products.{ProductLists}
use Rattle.match_journal.specs.Opening.{IsOpenedOf, IsBadAt}
use Rattle.order_kinds.specs.declared.core_state.TheConstants.{MOST_MESSAGES}
use Rattle.order_kinds.specs.State.{State}
use Rattle.order_kinds.specs.Histories.{History, of_product, amended}
use Rattle.book_recovery.specs.BadPlaces.{IsBadForEachRecord}
use Rattle.fix_session.specs.SessionOut.{noted_all}
use Rattle.fix_session.specs.declared.sessions.FirmSession.{FirmSession}
use Rattle.journal_print.specs.NoteWorks.{note_work, sessions_noted}
use Rattle.journal_print.specs.Noted.{NotesMessages}
use Rattle.journal_print.specs.Printed.{SentNothing, SentToBadRecord, IsBadUnread}
use Rattle.journal_print.specs.Works.{work_after, work_text}
use Rattle.journal_print.specs.Inner.Publishing.{PublishesKept}
use Rattle.journal_print.specs.declared.kept.KeptJournal.{KeptJournal}
use Rattle.journal_print.specs.declared.unprinted.Unprinted.{Unprinted}
use Rattle.journal_print.specs.declared.unprinted.Unprinted.TheVariants as unprinted

noted-kept : (sessions : List FirmSession) (kept : History) → work_after note_work sessions kept ≡ sessions_noted sessions kept
noted-kept sessions (of_product product messages) = refl
noted-kept sessions (amended before product messages) = ap (λ (s : List FirmSession). noted_all product s messages) (noted-kept sessions before)

module _ {S : Type 0} (m : StationMeanings S) (product : ProductLists) (text image : List ℕ) (old new : S) (sessions then : List FirmSession) (state : State) where
  bad_place : (at : ℕ) → (IsBadUnread m product text image old new at × SentNothing m product text image old new) ⊎ SentToBadRecord m product text image old new (work_text note_work sessions) at
      → IsBadAt product.journal_limit image at ⊎ ((opened : IsOpenedOf text product.journal_limit image) × IsBadForEachRecord opened.head product.journal_limit image at)
  bad_place at (inl (inl bad, nothing)) = inl bad
  bad_place at (inl (inr bad, nothing)) = inr (bad.0, inl bad.1)
  bad_place at (inr record_bad) = inr (record_bad.opened, inr record_bad.bad)

  pub notes : (r : Result (Option KeptJournal) Unprinted) → OnOk r (state.desk.messages < MOST_MESSAGES) → (IsErrOf r unprinted.Send → ⊥) → PublishesKept m note_work product text image old new sessions then state r
      → NotesMessages product text image sessions then state r
  notes (Ok found) few never told = record {
    kept = told.kept;
    has = told.has;
    few = omega (arith, few, told.published.count_is);
    noted_is = told.published.work_is ∙ noted-kept sessions told.kept;
    desk_is = ap (λ (s : State). s.desk) told.published.state_is;
    of_image = told.of_image;
    none = told.none;
  }
  notes (Err unprinted.Store) few never told = tt
  notes (Err unprinted.Send) few never told = never refl
  notes (Err unprinted.NoMemory) few never told = told.0
  notes (Err (unprinted.NotAJournal at)) few never told = told.0
  notes (Err (unprinted.Bad at)) few never told = bad_place at told
  notes (Err (unprinted.ProductDiffers at)) few never told = told.0
