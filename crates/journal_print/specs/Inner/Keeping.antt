-- Opening a journal and taking the products of its texts.
use Rattle.std.specs.Prelude.{◌≡◌, ◌⊎◌, ℕ, List, Option, Some, None, Result, Ok, Err}
use Rattle.product_file.specs.Products.{ProductLists}
use Rattle.match_journal.specs.Classes.{IsBlank, IsSealedOf, IsForeignAt}
use Rattle.match_journal.specs.Opening.{IsOpenedOf, IsBadAt, HasOtherText, StandsIn}
use Rattle.book_recovery.specs.BadPlaces.{HasAmendment, IsBadBeforeRecords}
use Rattle.book_recovery.specs.Products.{HasProducts, all_products}
use Rattle.journal_print.specs.declared.kept.KeptJournal.{KeptJournal}
use Rattle.journal_print.specs.declared.unprinted.Unprinted.{Unprinted}
use Rattle.journal_print.specs.declared.unprinted.Unprinted.TheVariants as unprinted

module _ (product : ProductLists) (text image : List ℕ) where
  -- it stands before its first record, and these are the products of its texts
  pub record IsOpenedKept (kept : KeptJournal) : Type 0 where
    pub opened : IsOpenedOf text product.journal_limit image
    pub stands : StandsIn kept.journal image
    pub gate : kept.journal.gate ≡ kept.journal.first
    pub taken : HasProducts opened.head product.journal_limit image (all_products kept.products)

  -- what is answered over any image
  abbrev pub OpensKept : Result (Option KeptJournal) Unprinted → Type 0
  OpensKept (Ok None) = IsBlank image ⊎ IsSealedOf text image
  OpensKept (Ok (Some kept)) = IsOpenedKept kept
  OpensKept (Err unprinted.Store) = Unit {0}
  OpensKept (Err unprinted.Send) = ⊥
  OpensKept (Err unprinted.NoMemory) = (opened : IsOpenedOf text product.journal_limit image) × HasAmendment opened.head product.journal_limit image
  OpensKept (Err (unprinted.NotAJournal at)) = IsForeignAt image at
  OpensKept (Err (unprinted.Bad at)) =
      IsBadAt product.journal_limit image at ⊎ ((opened : IsOpenedOf text product.journal_limit image) × IsBadBeforeRecords opened.head product.journal_limit image at)
  OpensKept (Err (unprinted.ProductDiffers at)) = HasOtherText text product.journal_limit image at
