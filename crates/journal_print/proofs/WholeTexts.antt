-- What is printed as a whole in each form: the reports, the fills, and the ledger, whose totals are the sums of all events.
use Rattle.std.proofs.Common.{◌≡◌, ◌≤◌, ⊎_elim, inl, inr, ℕ, List, [], ◌++◌, Result, Ok, Err, refl, sym, subst, ◌∙◌, ap, ap₂, arith, append-nil}
use Rattle.std.specs.List.{flat_map}
use Rattle.std.proofs.lemmas.Grind.{flat_map-append}
use Rattle.std.proofs.lemmas.List.Sums.{fold-append}
use Rattle.gx_base.specs.KnownBytes.{IsKnownPrefix}
use Rattle.gx_base.specs.Line.{line_of}
use Rattle.gx_base.specs.declared.event.Event.{Event}
use Rattle.gx_station.specs.Stations.{StationMeanings, sent_and}
use Rattle.product_file.specs.Products.{ProductLists, IsRightProduct}
use Rattle.order_kinds.specs.declared.core_state.TheConstants.{MOST_MESSAGES}
use Rattle.order_kinds.specs.Amendments.{amended_state}
use Rattle.order_kinds.specs.Balance.{total_open}
use Rattle.order_kinds.specs.Histories.{History, of_product, amended, AreRightProducts, length_kept, state_kept, events_kept, lines_kept, reports_kept}
use Rattle.order_kinds.specs.Step.{events_from, events_of}
use Rattle.engine_laws.specs.Bounds.{AreWithin, asked_in}
use Rattle.engine_laws.proofs.Bounds.{history-within, total-below}
use Rattle.book_recovery.specs.Kept.{HasKept}
use Rattle.book_recovery.proofs.Histories.{good-amended, under-first, under-behind}
use Rattle.exec_report.specs.Forms.{FormMeanings, LineText, behind}
use Rattle.exec_report.specs.FormLaws.{noted-nothing, text-behind}
use Rattle.exec_report.specs.ReportLines.{report_form}
use Rattle.exec_report.specs.declared.line_form.ReportForm.{ReportForm}
use Rattle.book_print.specs.FillText.{fill_line}
use Rattle.book_print.specs.LedgerText.{ledger_line, total_line, ledger_text, no_totals, totals_with, totals_after}
use Rattle.book_print.specs.TotalsLaws.{exact_totals, totals-exact}
use Rattle.book_print.specs.Printing.{fill_form, ledger_form}
use Rattle.book_print.specs.declared.fills.FillForm.{FillForm}
use Rattle.book_print.specs.declared.ledger.Totals.{Totals}
use Rattle.journal_print.specs.Works.{work_after, work_text, work_whole}
use Rattle.journal_print.specs.LineWorks.{lines_after, line_work}
use Rattle.journal_print.specs.Printed.{form_after, printed_whole, fills_kept, PrintsMessages, PrintsEvents}
use Rattle.journal_print.specs.declared.work.Lines.{Lines}
use Rattle.journal_print.specs.declared.unprinted.Unprinted.{Unprinted}
use Rattle.journal_print.specs.declared.unprinted.Unprinted.TheVariants as unprinted

-- ---- the work on lines, over a history

module _ {F : Type 0} (f : FormMeanings F) where
  abbrev lines_of : F → Lines F
  lines_of form = record { form = form }

  -- the work keeps the form
  work-after : (lines : Lines F) (kept : History) → work_after (line_work f) lines kept ≡ lines_of (form_after f lines.form kept)
  work-after lines (of_product product messages) = refl
  work-after lines (amended before product messages) = ap (λ (l : Lines F). lines_after f l product (amended_state product (state_kept before)) messages) (work-after lines before)

  -- which prints the same lines all the way
  text-kept : (form : F) (kept : History) → f.text (form_after f form kept) ≡ f.text form
  text-kept form (of_product product messages) = text-behind f form product messages (events_of product messages)
  text-kept form (amended before product messages) =
      text-behind f (form_after f form before) product messages (events_from product (amended_state product (state_kept before)) messages) ∙ text-kept form before

  pub lines-kept : (lines : Lines F) (kept : History) → work_text (line_work f) lines kept ≡ lines_kept (f.text lines.form) kept
  lines-kept lines (of_product product messages) = refl
  lines-kept lines (amended before product messages) =
      let events : List Event = events_from product (amended_state product (state_kept before)) messages in
      ap₂ (λ (a b : List ℕ). a ++ b) (lines-kept lines before)
      (ap (λ (l : Lines F). flat_map (f.text l.form product.names) events) (work-after lines before)
      ∙ ap (λ (t : LineText). flat_map (t product.names) events) (text-kept lines.form before))

  whole-kept : (lines : Lines F) (kept : History) → work_whole (line_work f) lines kept ≡ printed_whole f lines.form kept
  whole-kept lines kept =
      ap₂ (λ (a b : List ℕ). a ++ b) (lines-kept lines kept) (ap (λ (l : Lines F). f.ending l.form (total_open (state_kept kept).book)) (work-after lines kept))

-- ---- each form

pub report_whole : (form : ReportForm) (kept : History) → printed_whole report_form form kept ≡ reports_kept kept
report_whole form kept = append-nil (reports_kept kept)

pub fill_whole : (form : FillForm) (kept : History) → printed_whole fill_form form kept ≡ fills_kept kept
fill_whole form kept = append-nil (fills_kept kept)

-- the lines of the ledger do not name the product
ledger-lines : (kept : History) → lines_kept (λ names. ledger_line) kept ≡ flat_map ledger_line (events_kept kept)
ledger-lines (of_product product messages) = refl
ledger-lines (amended before product messages) =
    let events : List Event = events_from product (amended_state product (state_kept before)) messages in
    ap (λ (l : List ℕ). l ++ flat_map ledger_line events) (ledger-lines before) ∙ sym (flat_map-append ledger_line (events_kept before) events)

totals-behind : (totals : Totals) (product : ProductLists) (messages : List (List ℕ)) (events : List Event) → behind ledger_form totals product messages events ≡ totals_after totals events
totals-behind totals product messages events = ap (λ (t : Totals). totals_after t events) (noted-nothing ledger_form (λ form p frame. refl) totals product messages)

-- the totals are those of all events
totals-kept : (kept : History) → form_after ledger_form no_totals kept ≡ totals_after no_totals (events_kept kept)
totals-kept (of_product product messages) = totals-behind no_totals product messages (events_of product messages)
totals-kept (amended before product messages) =
    let events : List Event = events_from product (amended_state product (state_kept before)) messages in
    totals-behind (form_after ledger_form no_totals before) product messages events
    ∙ ap (λ (t : Totals). totals_after t events) (totals-kept before)
    ∙ sym (fold-append totals_with no_totals (events_kept before) events)

module _ (kept : History) (right : AreRightProducts kept) (few : length_kept kept ≤ MOST_MESSAGES) where
  abbrev events : List Event
  events = events_kept kept

  within : AreWithin (length_kept kept) events
  within = history-within kept events [] right (sym (append-nil events))

  totals_are : form_after ledger_form no_totals kept ≡ exact_totals events
  totals_are =
      totals-kept kept
      ∙ totals-exact asked_in events (record { accepted = λ head o. omega arith; replaced = λ head o old before. omega arith })
      (total-below (length_kept kept) _ few within.asked)
      (total-below (length_kept kept) _ few within.filled)
      (total-below (length_kept kept) _ few within.cancelled)

  pub ledger_whole : printed_whole ledger_form no_totals kept ≡ ledger_text kept
  ledger_whole =
      ap₂ (λ (l : List ℕ) (t : Totals). l ++ total_line t.entered t.filled (total_open (state_kept kept).book) t.cancelled) (ledger-lines kept) totals_are

-- ---- what was printed

-- each product of a history kept is right
right-kept : (product : ProductLists) (text image : List ℕ) (kept : History) → IsRightProduct product → HasKept product text kept image → AreRightProducts kept
right-kept product text image kept right (inl (unfinished, is)) = subst AreRightProducts (sym is) right
right-kept product text image kept right (inr (good, is)) =
    let first : History = of_product good.first [] in
    let under = under-behind good.first first good.records (under-first good.head.text good.first [] good.gives) (good-amended good.first 0 good.records good.good) in
    subst AreRightProducts (sym is) under.right

module _ {S : Type 0} (m : StationMeanings S) (product : ProductLists) (text image : List ℕ) (old new : S) where
  -- what is sent of the messages, and of all of them, said in other words
  printed_as : (parts lines : History → List ℕ) (whole same : History → List ℕ) → ((kept : History) → parts kept ≡ lines kept)
      → ((kept : History) → HasKept product text kept image → length_kept kept ≤ MOST_MESSAGES → whole kept ≡ same kept)
      → (r : Result ℕ Unprinted) → PrintsMessages m product text image old new parts whole r → PrintsMessages m product text image old new lines same r
  printed_as parts lines whole same part_is is r told = whole_as r (subst (λ (t : History → List ℕ). PrintsMessages m product text image old new t whole r) (λ i. λ (kept : History). part_is kept i) told)
    where
      whole_as : (r : Result ℕ Unprinted) → PrintsMessages m product text image old new lines whole r → PrintsMessages m product text image old new lines same r
      whole_as (Ok count) told = record {
        kept = told.kept;
        has = told.has;
        few = told.few;
        sent = told.sent ∙ ap (sent_and (m.sent old)) (is told.kept told.has told.few);
        count_is = told.count_is;
      }
      whole_as (Err unprinted.Store) told = told
      whole_as (Err unprinted.Send) told =
          ⊎_elim (λ part. inl part)
          (λ all. inr record {
            kept = all.kept;
            has = all.has;
            few = all.few;
            sent = subst (λ (l : List ℕ). IsKnownPrefix (m.sent new) (sent_and (m.sent old) l)) (is all.kept all.has all.few) all.sent;
          })
          told
      whole_as (Err unprinted.NoMemory) told = told
      whole_as (Err (unprinted.NotAJournal at)) told = told
      whole_as (Err (unprinted.Bad at)) told = told
      whole_as (Err (unprinted.ProductDiffers at)) told = told

  -- the reports are printed again
  pub reports_printed : (lines : Lines ReportForm) (r : Result ℕ Unprinted) → PrintsMessages m product text image old new (work_text (line_work report_form) lines) (work_whole (line_work report_form) lines) r
      → PrintsEvents m product text image old new line_of reports_kept r
  reports_printed lines =
      printed_as (work_text (line_work report_form) lines) (lines_kept line_of) (work_whole (line_work report_form) lines) reports_kept (lines-kept report_form lines)
      (λ kept has few. whole-kept report_form lines kept ∙ report_whole lines.form kept)

  -- each fill with the names of its product
  pub fills_printed : (lines : Lines FillForm) (r : Result ℕ Unprinted) → PrintsMessages m product text image old new (work_text (line_work fill_form) lines) (work_whole (line_work fill_form) lines) r
      → PrintsEvents m product text image old new fill_line fills_kept r
  fills_printed lines =
      printed_as (work_text (line_work fill_form) lines) (lines_kept fill_line) (work_whole (line_work fill_form) lines) fills_kept (lines-kept fill_form lines)
      (λ kept has few. whole-kept fill_form lines kept ∙ fill_whole lines.form kept)

  -- the ledger, from totals of which all are 0
  pub ledger_printed : IsRightProduct product → (lines : Lines Totals) → lines.form ≡ no_totals → (r : Result ℕ Unprinted)
      → PrintsMessages m product text image old new (work_text (line_work ledger_form) lines) (work_whole (line_work ledger_form) lines) r → PrintsEvents m product text image old new (λ names. ledger_line) ledger_text r
  ledger_printed right lines new_totals =
      printed_as (work_text (line_work ledger_form) lines) (lines_kept (λ names. ledger_line)) (work_whole (line_work ledger_form) lines) ledger_text (lines-kept ledger_form lines)
      (λ kept has few. whole-kept ledger_form lines kept ∙ ap (λ (t : Totals). printed_whole ledger_form t kept) new_totals ∙ ledger_whole kept (right-kept product text image kept right has) few)
