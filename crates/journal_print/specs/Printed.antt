-- What was printed of the journal in an image, by the answer.
use Rattle.std.specs.Prelude.{◌≡◌, ◌⊎◌, ℕ, ◌≤◌, List, [], ◌++◌, Result, Ok, Err}
use Rattle.gx_base.specs.KnownBytes.{IsKnownPrefix}
use Rattle.gx_station.specs.Stations.{StationMeanings, sent_and}
use Rattle.product_file.specs.Products.{ProductLists}
use Rattle.match_journal.specs.Journal.{Record}
use Rattle.match_journal.specs.Classes.{IsForeignAt}
use Rattle.match_journal.specs.Opening.{IsOpenedOf, IsBadAt, HasOtherText}
use Rattle.order_kinds.specs.declared.core_state.TheConstants.{MOST_MESSAGES}
use Rattle.order_kinds.specs.Balance.{total_open}
use Rattle.order_kinds.specs.Amendments.{amended_state}
use Rattle.order_kinds.specs.Step.{events_of, events_from}
use Rattle.order_kinds.specs.Histories.{History, of_product, amended, length_kept, state_kept, lines_kept}
use Rattle.book_recovery.specs.Histories.{AreGoodFrom, history_behind}
use Rattle.book_recovery.specs.Kept.{HasGoodTexts, HasKept, IsTrueImage, CanBeRecovered}
use Rattle.book_recovery.specs.BadPlaces.{HasAmendment, HasBadRecordAt, IsBadBeforeRecords, IsBadPlace}
use Rattle.book_print.specs.BookText.{book_text}
use Rattle.book_print.specs.FillText.{fill_line}
use Rattle.exec_report.specs.Forms.{LineText, FormMeanings, behind}
use Rattle.journal_print.specs.declared.unprinted.Unprinted.{Unprinted}
use Rattle.journal_print.specs.declared.unprinted.Unprinted.TheVariants as unprinted

module _ {F : Type 0} (f : FormMeanings F) where
  -- the form after the messages of a history and their events
  abbrev pub form_after : F → History → F
  form_after form (of_product product messages) = behind f form product messages (events_of product messages)
  form_after form (amended before product messages) =
      behind f (form_after form before) product messages (events_from product (amended_state product (state_kept before)) messages)

  -- all that a form prints of a history: the lines of its events, and its ending after them
  abbrev pub printed_whole : F → History → List ℕ
  printed_whole form history = lines_kept (f.text form) history ++ f.ending (form_after form history) (total_open (state_kept history).book)

-- the fills of a history: those of each pair with the names of its product
abbrev pub fills_kept : History → List ℕ
fills_kept history = lines_kept fill_line history

module _ {S : Type 0} (m : StationMeanings S) (product : ProductLists) (text image : List ℕ) (old new : S) where
  -- nothing was sent
  abbrev pub SentNothing : Type 0
  SentNothing = m.sent new ≡ m.sent old

  -- No head and no text is bad of a journal with this last text, its first records are good, and a part was sent of what is sent of their
  -- history.
  pub record SentPart (text_of : History → List ℕ) : Type 0 where
    pub texts : HasGoodTexts text product.journal_limit image
    pub before : List Record
    pub behind : List Record
    pub are : texts.records ≡ before ++ behind
    pub good : AreGoodFrom texts.first 0 before
    pub sent : IsKnownPrefix (m.sent new) (sent_and (m.sent old) (text_of (history_behind (of_product texts.first []) before)))

  -- A part was sent of what is printed of the history kept, whose messages are no more than a core takes.
  pub record SentPartOfAll (whole : History → List ℕ) : Type 0 where
    pub kept : History
    pub has : HasKept product text kept image
    pub few : length_kept kept ≤ MOST_MESSAGES
    pub sent : IsKnownPrefix (m.sent new) (sent_and (m.sent old) (whole kept))

  -- All was sent that is printed of the history kept, and its messages were counted; they are no more than a core takes.
  pub record SentAll (whole : History → List ℕ) (count : ℕ) : Type 0 where
    pub kept : History
    pub has : HasKept product text kept image
    pub few : length_kept kept ≤ MOST_MESSAGES
    pub sent : m.sent new ≡ sent_and (m.sent old) (whole kept)
    pub count_is : count ≡ length_kept kept

  -- a record is bad, and what is sent of the history of all records before it was sent
  pub record SentToBadRecord (text_of : History → List ℕ) (at : ℕ) : Type 0 where
    pub opened : IsOpenedOf text product.journal_limit image
    pub bad : HasBadRecordAt opened.head product.journal_limit image at
    pub sent : m.sent new ≡ sent_and (m.sent old) (text_of (history_behind (of_product bad.first []) bad.before))

  -- the journal cannot be opened, or a head or a text in it is bad
  abbrev pub IsBadUnread : ℕ → Type 0
  IsBadUnread at = IsBadAt product.journal_limit image at ⊎ ((opened : IsOpenedOf text product.journal_limit image) × IsBadBeforeRecords opened.head product.journal_limit image at)

  -- the journal has an amendment, so that its products take memory
  abbrev pub NeedsProducts : Type 0
  NeedsProducts = (opened : IsOpenedOf text product.journal_limit image) × HasAmendment opened.head product.journal_limit image

  -- What was sent of all messages, record by record, and what is sent of them as a whole. No two of these answers but for a fault of
  -- the outside or want of memory fit one image, so each comes exactly where it fits.
  abbrev pub PrintsMessages : (History → List ℕ) → (History → List ℕ) → Result ℕ Unprinted → Type 0
  PrintsMessages text_of whole (Ok count) = SentAll whole count
  PrintsMessages text_of whole (Err unprinted.Store) = SentNothing ⊎ SentPart text_of
  PrintsMessages text_of whole (Err unprinted.Send) = (IsOpenedOf text product.journal_limit image × SentPart text_of) ⊎ SentPartOfAll whole
  PrintsMessages text_of whole (Err (unprinted.NotAJournal at)) = IsForeignAt image at × SentNothing
  PrintsMessages text_of whole (Err unprinted.NoMemory) = NeedsProducts × SentNothing
  PrintsMessages text_of whole (Err (unprinted.Bad at)) = (IsBadUnread at × SentNothing) ⊎ SentToBadRecord text_of at
  PrintsMessages text_of whole (Err (unprinted.ProductDiffers at)) = HasOtherText text product.journal_limit image at × SentNothing

  -- what was printed of the events of all messages, line by line
  abbrev pub PrintsEvents : LineText → (History → List ℕ) → Result ℕ Unprinted → Type 0
  PrintsEvents line whole result = PrintsMessages (lines_kept line) whole result

  -- the book of the state after the history kept
  abbrev pub book_kept : History → List ℕ
  book_kept kept = book_text product (state_kept kept)

  -- The image is an unfinished creation, or a journal with no bad head and no bad record from the last book image on. What is sent
  -- and counted then, by the history kept, is said where each book image is that of the state there.
  pub record SentBook (Sends : History → Type 0) : Type 0 where
    pub recovered : CanBeRecovered product text product.journal_limit image
    pub sends : (kept : History) → IsTrueImage product text kept image → Sends kept

  -- the book of the state after this history was sent, and its messages were counted
  abbrev pub SentAllOfBook : ℕ → History → Type 0
  SentAllOfBook count kept = (m.sent new ≡ sent_and (m.sent old) (book_kept kept)) × (count ≡ length_kept kept)

  abbrev pub SentPartOfBook : History → Type 0
  SentPartOfBook kept = IsKnownPrefix (m.sent new) (sent_and (m.sent old) (book_kept kept))

  -- What was printed of the book: nothing, unless a state was recovered.
  abbrev pub PrintsBook : Result ℕ Unprinted → Type 0
  PrintsBook (Ok count) = SentBook (SentAllOfBook count)
  PrintsBook (Err unprinted.Store) = SentNothing
  PrintsBook (Err unprinted.Send) = SentBook SentPartOfBook
  PrintsBook (Err unprinted.NoMemory) = ⊥
  PrintsBook (Err (unprinted.NotAJournal at)) = IsForeignAt image at × SentNothing
  PrintsBook (Err (unprinted.Bad at)) =
      (IsBadAt product.journal_limit image at ⊎ ((opened : IsOpenedOf text product.journal_limit image) × IsBadPlace product opened.head product.journal_limit image at)) × SentNothing
  PrintsBook (Err (unprinted.ProductDiffers at)) = HasOtherText text product.journal_limit image at × SentNothing
