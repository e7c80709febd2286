-- What executing `amend` comes to.
use Rattle.std.proofs.Common.{◌≡◌, ◌⊎◌, inl, inr, ⊎_elim, ℕ, List, Result, Ok, Err, Some, ap, sym, ◌∙◌, refl}
use Rattle.gx_station.specs.Stations.{StationMeanings}
use Rattle.product_file.specs.Products.{ProductLists}
use Rattle.product_file.specs.ProductTexts.{product_of}
use Rattle.match_journal.specs.declared.limits.TheConstants.{MOST_LIMIT}
use Rattle.book_recovery.specs.Kept.{IsStartable, CanBeRecovered}
use Rattle.order_kinds.specs.Histories.{History}
use Rattle.command_words.specs.declared.command.Command.TheVariants.{Amend}
use Rattle.globex_run.specs.Outside.{SourceAt, Streams, station_at}
use Rattle.globex_run.specs.Refusals.{IsRefusal}
use Rattle.globex_run.specs.Inner.Amending.{AmendResult, IsRefusedAmend, outcome_amended}
use Rattle.globex_run.specs.Inner.Executing.{IsExecuted}
use Rattle.globex_run.specs.declared.outcome.Outcome.{Outcome}
use Rattle.globex_run.specs.declared.unamended.Unamended.{Unamended}
use Rattle.globex_run.specs.declared.unamended.Unamended.TheVariants as unamended
use Rattle.globex_run.proofs.Refused.{not-refusal, unfinished-of}
use Rattle.globex_run.proofs.AmendRefused.{amend-refuses, fits-not-refused, good-kept-journal, wide}
use Rattle.globex_run.proofs.AmendHeadlines.{amend-causes}

-- the status tells that the image was refused, and is none of the others
none-of : (status n : ℕ) → status ≡ n → (n ≡ 9 → ⊥) → (n ≡ 10 → ⊥) → (n ≡ 11 → ⊥) → (n ≡ 13 → ⊥) → IsRefusal status ⊎ (status ≡ 13) → ⊥
none-of status n is nine ten eleven thirteen either = ⊎_elim (not-refusal status n is nine ten eleven) (λ e. thirteen (sym is ∙ e)) either

pub refused-amend : (outcome : Outcome) (answer : Result ℕ Unamended) → outcome ≡ outcome_amended answer → IsRefusal outcome.status ⊎ (outcome.status ≡ 13) → IsRefusedAmend answer
refused-amend outcome (Ok count) is either = none-of outcome.status 0 (ap (λ (o : Outcome). o.status) is) (λ e. cc e) (λ e. cc e) (λ e. cc e) (λ e. cc e) either
refused-amend outcome (Err unamended.NoMemory) is either = tt
refused-amend outcome (Err unamended.Store) is either = none-of outcome.status 5 (ap (λ (o : Outcome). o.status) is) (λ e. cc e) (λ e. cc e) (λ e. cc e) (λ e. cc e) either
refused-amend outcome (Err (unamended.NotAJournal at)) is either = tt
refused-amend outcome (Err (unamended.Bad at)) is either = tt
refused-amend outcome (Err (unamended.ProductDiffers at)) is either = tt
refused-amend outcome (Err (unamended.Full at)) is either = none-of outcome.status 12 (ap (λ (o : Outcome). o.status) is) (λ e. cc e) (λ e. cc e) (λ e. cc e) (λ e. cc e) either
refused-amend outcome (Err (unamended.NotAmendable at)) is either = tt

module _ {I S : Type 0} (m : StationMeanings S) (product : ProductLists) (text : List ℕ) (source : SourceAt I) (old new : S) (outcome : Outcome) (did : AmendResult m product text old new outcome) where
  abbrev from : Streams I S
  from = record { input = source; station = station_at m old }

  abbrev to : Streams I S
  to = record { input = source; station = station_at m new }

  pub amend-executed : IsExecuted m product text from to outcome Amend
  amend-executed = record {
    executes = (did, refl);
    causes = amend-causes m product text source old new outcome did;
    stays = λ image writes known either. did.did.stays image known (refused-amend outcome did.answer did.is either);
    refused = λ writes either. did.did.silent.sent;
  }

-- An image from which a run of the text handed in can start is not refused.
module _ (product : ProductLists) (text image : List ℕ) (gives : product_of text ≡ Ok product) (kept : History) (start : IsStartable product text kept image) where
  recovered : CanBeRecovered product text MOST_LIMIT image
  recovered = ⊎_elim
      (λ journal. inr (good-kept-journal image text product gives kept start journal))
      (λ unfinished. inl (unfinished-of text image start.head start.records start.last unfinished))
      (wide image text product gives kept start)

  pub amend-opens : {S : Type 0} (m : StationMeanings S) (old new : S) (outcome : Outcome) → AmendResult m product text old new outcome → m.holds old ≡ Some image → IsRefusal outcome.status → ⊥
  amend-opens m old new outcome did known refusal =
      let there : outcome.status ≡ 1 → ⊥ = λ one. not-refusal outcome.status 1 one (λ e. cc e) (λ e. cc e) (λ e. cc e) refusal in
      let refuses = amend-refuses m product text old new outcome did there image known in
      let any = ⊎_elim (λ nine. inl nine) (λ more. inr (⊎_elim (λ ten. inl ten) (λ eleven. inr (inl eleven)) more)) refusal in
      fits-not-refused product text image (inl recovered) outcome.status outcome.at (refuses.answered any).0
