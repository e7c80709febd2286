-- What a call of `opening` comes to: why it ended, what it refuses, and that it ends well where it can.
use Rattle.std.proofs.Common.{◌≡◌, ◌≢◌, inl, inr, ⊎_elim, ℕ, ◌+◌, ◌≤◌, List, [], ◌++◌, length, Option, Some, None, Ok, refl, sym, ap, subst, ◌∙◌, arith}
use Rattle.std.specs.Prelude.{IfSome}
use Rattle.std.proofs.lemmas.List.{append-nil}
use Rattle.gx_station.specs.Stations.{StationMeanings}
use Rattle.fix_frame.specs.Stream.{messages_of, rest_of, IsBroken, IsCut}
use Rattle.product_file.specs.Products.{ProductLists, IsRightProduct}
use Rattle.product_file.specs.ProductTexts.{product_of}
use Rattle.match_journal.specs.Journal.{Record}
use Rattle.match_journal.specs.Texts.{last_text}
use Rattle.order_kinds.specs.Histories.{History, of_product, length_kept}
use Rattle.book_recovery.specs.Histories.{history_behind}
use Rattle.book_recovery.specs.Kept.{IsStartable, IsTrueImage}
use Rattle.book_recovery.proofs.Histories.{one-product}
use Rattle.command_words.specs.declared.command.Command.TheVariants.{Opening}
use Rattle.globex_run.specs.Outside.{SourceAt, Outside, Streams, station_at}
use Rattle.globex_run.specs.Outcomes.{outcome_of}
use Rattle.globex_run.specs.Journals.{AnswersImage}
use Rattle.globex_run.specs.RunResult.{EndsAs, RunEnded, BeginsWithFrame, bytes_at}
use Rattle.globex_run.specs.OpeningPrices.{EndsCollecting, FitsOpening, IsCounted, ShowsOpenings, IsCollected}
use Rattle.globex_run.specs.Inner.Collecting.{ShowsWithCause}
use Rattle.globex_run.specs.Inner.Executing.{IsExecuted}
use Rattle.globex_run.specs.declared.outcome.Outcome.{Outcome}
use Rattle.globex_run.specs.declared.ending.Ending.{Ending}
use Rattle.globex_run.specs.declared.ending.Ending.TheVariants.{Done, ReadFault, StoreFault, SendFault, BadFrame, Truncated, NotAJournal, JournalBad, ProductDiffers, Full}
use Rattle.globex_run.proofs.Answered.{more-messages, broken-messages, counted-more}
use Rattle.globex_run.proofs.Complete.{broken_more}
use Rattle.globex_run.proofs.Endings.{status_of}
use Rattle.globex_run.proofs.Executed.{only-printed, input-causes}
use Rattle.globex_run.proofs.Refused.{unfinished-of}
use Rattle.globex_run.proofs.StartableImages.{not-foreign, not-bad-front, not-bad, not-other}
use Rattle.globex_run.proofs.Told.{left_parts, nil_from_end}

-- ---- what it did

pub opening-executed : {I S : Type 0} (m : StationMeanings S) (product : ProductLists) (text : List ℕ) (before after : Streams I S) (outcome : Outcome) → IsRightProduct product → ShowsWithCause m product text before after outcome → IsExecuted m product text before after outcome Opening
opening-executed m product text before after outcome right did =
    only-printed m product text before after outcome Opening (λ never. never) (record { form = did.shows; reads = did.reads })
    (input-causes m product text before after outcome Opening tt right did.shows.ending did.shows.is did.cause)

-- ---- why it ended

if-some : {A : Type 0} (o : Option A) (P : A → Type 0) → ((x : A) → o ≡ Some x → P x) → IfSome o P
if-some None P holds = tt
if-some (Some x) P holds = holds x refl

pub image-of : (product : ProductLists) (text image : List ℕ) (ending : Ending) (count : ℕ) → FitsOpening product text image ending count → AnswersImage product text image ending
image-of product text image Done count fits = fits.0
image-of product text image (ReadFault place) count fits = fits.0
image-of product text image StoreFault count fits = tt
image-of product text image SendFault count fits = fits.0
image-of product text image (BadFrame place) count fits = fits.0
image-of product text image (Truncated place) count fits = fits.0
image-of product text image (NotAJournal place) count fits = fits
image-of product text image (JournalBad place) count fits = fits
image-of product text image (ProductDiffers place) count fits = fits
image-of product text image (Full place) count fits = fits.0

ends-of : {I S : Type 0} (before after : Streams I S) (ending : Ending) (count : ℕ) (taken : List ℕ) → EndsCollecting before after ending count taken → EndsAs before after ending count taken
ends-of before after Done count taken ends = ends
ends-of before after (ReadFault place) count taken ends = ends
ends-of before after StoreFault count taken ends = tt
ends-of before after SendFault count taken ends = tt
ends-of before after (BadFrame place) count taken ends = ends
ends-of before after (Truncated place) count taken ends = ends
ends-of before after (NotAJournal place) count taken ends = ends
ends-of before after (JournalBad place) count taken ends = ends
ends-of before after (ProductDiffers place) count taken ends = ends
ends-of before after (Full place) count taken ends = ends

pub opening-ended : {P I S : Type 0} (before after : Outside P I S) (outcome : Outcome) (text : List ℕ) (product : ProductLists) → ShowsOpenings product text before.streams after.streams outcome → RunEnded before after outcome text product
opening-ended before after outcome text product shows = record {
  ending = shows.ending;
  is = shows.is;
  image = if-some before.streams.station.image (λ image. AnswersImage product text image shows.ending) (λ image known. image-of product text image shows.ending outcome.messages (shows.image image known));
  serving = record { taken = shows.taken; took = shows.took; some = shows.some; ends = ends-of before.streams after.streams shows.ending outcome.messages shows.taken shows.ends };
}

-- ---- where a run can start and no fault comes

module _ (product : ProductLists) (text image : List ℕ) (kept : History) (gives : product_of text ≡ Ok product) (can : IsStartable product text kept image) where
  -- an unfinished creation has the header's text, and keeps nothing
  none-kept : can.records ≡ [] → kept ≡ of_product product []
  none-kept none =
      let text_is : can.head.text ≡ text = subst (λ (l : List Record). (last_text can.head l).bytes ≡ text) none can.last.is in
      let first_is : can.first ≡ product = one-product can.first product text (ap product_of (sym text_is) ∙ can.gives) gives in
      can.are ∙ ap (history_behind (of_product can.first [])) none ∙ ap (λ (p : ProductLists). of_product p []) first_is

  pub startable-true : IsTrueImage product text kept image
  startable-true = ⊎_elim
      (λ journal. inr (record { head = can.head; records = can.records; journal = journal; last = can.last; first = can.first; gives = can.gives; good = can.good }, can.are, can.are_true))
      (λ unfinished. inl (unfinished-of text image can.head can.records can.last unfinished, none-kept unfinished.0))
      can.keeps

module _ {I S : Type 0} (m : StationMeanings S) (i j : SourceAt I) (old new : S) (outcome : Outcome) (quiet : (outcome.status ≢ 5) × (outcome.status ≢ 6)) (read : outcome.status ≢ 4) (product : ProductLists) (text : List ℕ) (gives : product_of text ≡ Ok product) (image : List ℕ) (known : m.holds old ≡ Some image) (kept : History) (start : IsStartable product text kept image) (bytes : List ℕ) (input_known : i.left ≡ Some bytes) where
  abbrev entry : Streams I S
  entry = record { input = i; station = station_at m old }

  abbrev exit : Streams I S
  exit = record { input = j; station = station_at m new }

  module _ (taken rest : List ℕ) (left : j.left ≡ Some rest) (all : bytes ≡ taken ++ rest) (some : outcome.messages ≤ length (messages_of taken)) where
    all-taken : rest ≡ [] → taken ≡ bytes
    all-taken none = sym (append-nil taken) ∙ ap (λ (l : List ℕ). taken ++ l) (sym none) ∙ sym all

    by-ending : (ending : Ending) → outcome ≡ outcome_of ending outcome.messages → EndsCollecting entry exit ending outcome.messages taken → FitsOpening product text image ending outcome.messages → IsCounted ending (length_kept kept + outcome.messages) → IsCollected (length_kept kept) bytes outcome.status
    by-ending Done is ends fits few =
        let whole = all-taken (nil_from_end j.left rest left ends.0) in
        let count = ap (λ (l : List ℕ). length (messages_of l)) whole in
        inl (omega (arith, few, ends.1, count), inl (status_of outcome Done is, subst (λ (l : List ℕ). rest_of l ≡ []) whole ends.2))
    by-ending (ReadFault place) is ends fits few = absurd (read (status_of outcome (ReadFault place) is))
    by-ending StoreFault is ends fits few = absurd (quiet.0 (status_of outcome StoreFault is))
    by-ending SendFault is ends fits few = absurd (quiet.1 (status_of outcome SendFault is))
    by-ending (BadFrame place) is ends fits few =
        let count = ap (λ (l : List ℕ). length (messages_of l)) all ∙ ap length (broken-messages taken rest ends.2) in
        inl (omega (arith, few, ends.1, count), inr (inr (status_of outcome (BadFrame place) is, subst (λ (l : List ℕ). IsBroken l) (sym all) (broken_more taken rest ends.2))))
    by-ending (Truncated place) is ends fits few =
        let whole = all-taken (nil_from_end j.left rest left ends.0) in
        let count = ap (λ (l : List ℕ). length (messages_of l)) whole in
        inl (omega (arith, few, ends.2, count), inr (inl (status_of outcome (Truncated place) is, subst (λ (l : List ℕ). IsCut l) whole ends.3)))
    by-ending (NotAJournal place) is ends fits few = absurd (not-foreign product text image kept gives start place fits)
    by-ending (JournalBad place) is ends fits few = absurd (⊎_elim (λ front. not-bad-front product text image kept gives start place front) (λ bad. not-bad product text image kept gives start place bad.0 bad.1) fits)
    by-ending (ProductDiffers place) is ends fits few = absurd (not-other product text image kept gives start place fits)
    by-ending (Full place) is ends fits last =
        let more = counted-more outcome.messages taken some (subst (λ (n : ℕ). BeginsWithFrame (bytes_at n taken)) ends.0 ends.1) in
        let grown = more-messages taken rest in
        let count = ap (λ (l : List ℕ). length (messages_of l)) all in
        inr (omega (arith, last, more, grown, count), status_of outcome (Full place) is)

  pub opening-well : ShowsOpenings product text entry exit outcome → IsCollected (length_kept kept) bytes outcome.status
  opening-well shows =
      let parts = left_parts j.left bytes shows.taken (sym input_known ∙ shows.took) in
      by-ending shows.taken parts.0 parts.1 parts.2 shows.some shows.ending shows.is shows.ends (shows.image image known) (shows.counted image known kept (startable-true product text image kept gives start))
