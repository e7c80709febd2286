-- Journals that are opened, and gone through again.
use Rattle.std.proofs.Common.{◌≡◌, ℕ, List, [], Bool, Result, Ok, Err, OnOk, length, replicate, None, sym, subst, ◌∙◌, ap, arith}
use Rattle.gx_base.specs.declared.trading.Trading.TheVariants.{Open}
use Rattle.gx_station.specs.Stations.{StationMeanings}
use Rattle.product_file.specs.Products.{ProductLists}
use Rattle.match_journal.specs.Journal.{Header}
use Rattle.match_journal.specs.Standing.{IsStanding, moved}
use Rattle.match_journal.specs.declared.standing.Standing.{Standing}
use Rattle.plain_book.specs.Book.{empty_book, book_cleared}
use Rattle.order_kinds.specs.State.{State, empty_desk, empty_state}
use Rattle.order_kinds.specs.Cores.{FitsProduct}
use Rattle.book_recovery.specs.BadPlaces.{HasAmendment, IsBadBeforeRecords}
use Rattle.book_recovery.specs.Products.{HasProducts, TakesProducts, all_products}
use Rattle.book_recovery.specs.declared.products.NoProducts.{NoProducts}
use Rattle.book_recovery.specs.declared.products.NoProducts.TheVariants as none
use Rattle.book_recovery.specs.declared.products.Products.{Products}
use Rattle.book_recovery.proofs.Standings.{stands_moved}
use Rattle.journal_print.specs.KeptJournals.{CanBeReadAgain, IsKeptOf}
use Rattle.journal_print.specs.Readers.{IsIdleReader}
use Rattle.journal_print.specs.Inner.Keeping.{IsOpenedKept}
use Rattle.journal_print.specs.Inner.Publishing.{IsGoneThrough}
use Rattle.journal_print.specs.declared.kept.KeptJournal.{KeptJournal}
use Rattle.journal_print.specs.declared.reader.Reader.{Reader}

module _ (image : List ℕ) (head : Header) (limit other : ℕ) (same : limit ≡ other) (why : NoProducts) (told : TakesProducts head limit image (Err why)) where
  -- its products were not taken, for want of memory
  pub not_taken : why ≡ none.NoMemory → HasAmendment head other image
  not_taken is = subst (λ (k : ℕ). HasAmendment head k image) same (subst (λ (e : NoProducts). TakesProducts head limit image (Err e)) is told)

  -- or since a head or a text is bad
  pub bad_unread : (at : ℕ) → why ≡ none.Bad at → IsBadBeforeRecords head other image at
  bad_unread at is = subst (λ (k : ℕ). IsBadBeforeRecords head k image at) same (subst (λ (e : NoProducts). TakesProducts head limit image (Err e)) is told)

-- a journal that was opened is one of its image
pub kept_of : (product : ProductLists) (text image : List ℕ) (kept : KeptJournal) → kept.journal.limit ≡ product.journal_limit → IsOpenedKept product text image kept → IsKeptOf image kept
kept_of product text image kept limit opened = record {
  stands = opened.stands;
  head = opened.opened.head;
  taken = subst (λ (k : ℕ). HasProducts opened.opened.head k image (all_products kept.products)) (sym limit) opened.taken;
}

-- it has moved
module _ (kept then : KeptJournal) (gate : ℕ) (ends : Bool) (is : then.journal ≡ moved kept.journal gate ends) (products : then.products ≡ kept.products) where
  pub kept_moved : (image : List ℕ) → IsKeptOf image kept → IsKeptOf image then
  kept_moved image of_image = record {
    stands = stands_moved kept.journal then.journal gate ends image is of_image.stands;
    head = of_image.head;
    taken =
        subst (λ (k : ℕ). HasProducts of_image.head k image (all_products then.products)) (sym (ap (λ (s : Standing). s.limit) is))
        (subst (λ (ps : Products). HasProducts of_image.head kept.journal.limit image (all_products ps)) (sym products) of_image.taken);
  }

  pub again_moved : {S : Type 0} (m : StationMeanings S) (product : ProductLists) (from to : S) → m.reach to ≡ m.reach from → IsStanding then.journal → CanBeReadAgain m product kept from → CanBeReadAgain m product then to
  again_moved m product from to reach stands again = record {
    reach = omega (arith, reach, again.reach, ap (λ (s : Standing). s.known) is);
    in_limit = omega (arith, again.in_limit, ap (λ (s : Standing). s.first) is, ap (λ (s : Standing). s.limit) is);
    stands = stands;
    last = ap (λ (ps : Products). ps.last.now) products ∙ again.last;
    limit = ap (λ (s : Standing). s.limit) is ∙ again.limit;
  }

-- what holds where all went well gives what else holds there
pub on_then : {T E P Q : Type 0} (r : Result T E) → (P → Q) → OnOk r P → OnOk r Q
on_then (Ok t) go told = go told
on_then (Err e) go told = tt

-- a reader that has gone through a journal is idle
pub idle_again : {S B T E : Type 0} (m : StationMeanings S) (product : ProductLists) (old new : Standing) (from to : S) (reader : Reader B) (r : Result T E) → OnOk r (IsGoneThrough m product old new from to reader)
    → OnOk r (FitsProduct product reader.core) → OnOk r (reader.reports ≡ []) → OnOk r (IsIdleReader product reader)
idle_again m product old new from to reader (Ok t) gone fits empty = record { core = fits; spare = gone.spare; room = gone.room; reports = empty }
idle_again m product old new from to reader (Err e) gone fits empty = tt

-- a cleared core is new
pub cleared_new : (product : ProductLists) (s : State) → FitsProduct product s → record { book = book_cleared s.book; last = replicate (length s.last) None; desk = empty_desk; trading = Open } ≡ empty_state product
cleared_new product s fits =
    let state : ℕ → ℕ → ℕ → State = λ capacity instruments prices. record { book = empty_book capacity instruments; last = replicate prices None; desk = empty_desk; trading = Open } in
    ap (λ (n : ℕ). state n s.book.instruments (length s.last)) fits.capacity
    ∙ ap (λ (n : ℕ). state product.max_orders n (length s.last)) fits.instruments
    ∙ ap (λ (n : ℕ). state product.max_orders (length product.names.instruments) n) fits.prices
