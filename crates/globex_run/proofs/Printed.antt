-- A command that prints ends well where a run can start from the image and no call on the station has failed.
use Rattle.std.proofs.Common.{◌≡◌, ◌≢◌, inl, inr, ⊎_elim, ℕ, List, Result, Ok, Err, ap}
use Rattle.gx_station.specs.Stations.{StationMeanings}
use Rattle.product_file.specs.Products.{ProductLists}
use Rattle.product_file.specs.ProductTexts.{product_of}
use Rattle.order_kinds.specs.Histories.{History}
use Rattle.book_recovery.specs.Kept.{IsStartable}
use Rattle.exec_report.specs.declared.texts.SendFault.{SendFault as SendFailed}
use Rattle.journal_print.specs.Printed.{PrintsMessages, PrintsBook}
use Rattle.journal_print.specs.declared.unprinted.Unprinted.{Unprinted}
use Rattle.journal_print.specs.declared.unprinted.Unprinted.TheVariants as unprinted
use Rattle.globex_run.specs.Prints.{outcome_printed, outcome_sent}
use Rattle.globex_run.specs.declared.outcome.Outcome.{Outcome}
use Rattle.globex_run.proofs.StartableImages.{not-foreign, not-bad-front, not-other, not-bad, not-bad-record}

module _ (outcome : Outcome) (quiet : (outcome.status ≢ 5) × (outcome.status ≢ 6)) where
  pub steps-printed : (result : Result (Unit {0}) SendFailed) → outcome ≡ outcome_sent 0 result → outcome.status ≡ 0
  steps-printed (Ok t) is = ap (λ (o : Outcome). o.status) is
  steps-printed (Err fault) is = absurd (quiet.1 (ap (λ (o : Outcome). o.status) is))

module _ {S : Type 0} (m : StationMeanings S) (product : ProductLists) (text : List ℕ) (old new : S) (outcome : Outcome) (quiet : (outcome.status ≢ 5) × (outcome.status ≢ 6)) (gives : product_of text ≡ Ok product) where
  module _ (image : List ℕ) (kept : History) (start : IsStartable product text kept image) where
    pub events-printed : (text_of whole : History → List ℕ) (answer : Result ℕ Unprinted) → outcome ≡ outcome_printed answer → outcome.status ≢ 1 → PrintsMessages m product text image old new text_of whole answer → outcome.status ≡ 0
    events-printed text_of whole (Ok n) is lacks printed = ap (λ (o : Outcome). o.status) is
    events-printed text_of whole (Err unprinted.Store) is lacks printed = absurd (quiet.0 (ap (λ (o : Outcome). o.status) is))
    events-printed text_of whole (Err unprinted.NoMemory) is lacks printed = absurd (lacks (ap (λ (o : Outcome). o.status) is))
    events-printed text_of whole (Err unprinted.Send) is lacks printed = absurd (quiet.1 (ap (λ (o : Outcome). o.status) is))
    events-printed text_of whole (Err (unprinted.NotAJournal at)) is lacks printed = absurd (not-foreign product text image kept gives start at printed.0)
    events-printed text_of whole (Err (unprinted.Bad at)) is lacks printed =
        absurd (⊎_elim
        (λ unread. ⊎_elim (λ front. not-bad-front product text image kept gives start at front) (λ early. not-bad-record product text image kept gives start at early.0 (inl early.1)) unread.0)
        (λ sent. not-bad-record product text image kept gives start at sent.opened (inr sent.bad))
        printed)
    events-printed text_of whole (Err (unprinted.ProductDiffers at)) is lacks printed = absurd (not-other product text image kept gives start at printed.0)

    pub book-printed : (answer : Result ℕ Unprinted) → outcome ≡ outcome_printed answer → PrintsBook m product text image old new answer → outcome.status ≡ 0
    book-printed (Ok n) is printed = ap (λ (o : Outcome). o.status) is
    book-printed (Err unprinted.Store) is printed = absurd (quiet.0 (ap (λ (o : Outcome). o.status) is))
    book-printed (Err unprinted.NoMemory) is printed = absurd printed
    book-printed (Err unprinted.Send) is printed = absurd (quiet.1 (ap (λ (o : Outcome). o.status) is))
    book-printed (Err (unprinted.NotAJournal at)) is printed = absurd (not-foreign product text image kept gives start at printed.0)
    book-printed (Err (unprinted.Bad at)) is printed =
        absurd (⊎_elim (λ front. not-bad-front product text image kept gives start at front) (λ bad. not-bad product text image kept gives start at bad.0 bad.1) printed.0)
    book-printed (Err (unprinted.ProductDiffers at)) is printed = absurd (not-other product text image kept gives start at printed.0)
