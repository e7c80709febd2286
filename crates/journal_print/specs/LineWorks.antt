-- The lines of events in some form, as the work on the messages of records.
use Rattle.std.specs.Prelude.{◌≡◌, ℕ, List, ◌++◌, refl}
use Rattle.std.proofs.Common.{sym, ◌∙◌, ap}
use Rattle.std.specs.List.{flat_map}
use Rattle.std.proofs.lemmas.Grind.{flat_map-append}
use Rattle.gx_base.specs.declared.event.Event.{Event}
use Rattle.product_file.specs.Products.{ProductLists}
use Rattle.order_kinds.specs.State.{State}
use Rattle.order_kinds.specs.Step.{state_after, events_from}
use Rattle.order_kinds.proofs.FurtherMessages.{events-append}
use Rattle.exec_report.specs.Forms.{FormMeanings, LineText, behind}
use Rattle.exec_report.specs.FormLaws.{behind-then, text-behind}
use Rattle.journal_print.specs.Works.{WorkMeanings}
use Rattle.journal_print.specs.declared.work.Lines.{Lines}

module _ {F : Type 0} (f : FormMeanings F) where
  -- the lines of the events of these messages
  abbrev pub lines_text : Lines F → ProductLists → State → List (List ℕ) → List ℕ
  lines_text lines product state messages = flat_map (f.text lines.form product.names) (events_from product state messages)

  -- the form after them
  abbrev pub lines_after : Lines F → ProductLists → State → List (List ℕ) → Lines F
  lines_after lines product state messages = record { form = behind f lines.form product messages (events_from product state messages) }

  pub lines-then : (lines : Lines F) (product : ProductLists) (state : State) (messages more : List (List ℕ))
      → lines_text lines product state (messages ++ more) ≡ lines_text lines product state messages ++ lines_text (lines_after lines product state messages) product (state_after product state messages) more
  lines-then lines product state messages more =
      let first : List Event = events_from product state messages in
      let new : List Event = events_from product (state_after product state messages) more in
      let line : LineText = f.text lines.form in
      ap (flat_map (line product.names)) (events-append product state messages more)
      ∙ flat_map-append (line product.names) first new
      ∙ ap (λ (t : LineText). flat_map (line product.names) first ++ flat_map (t product.names) new) (sym (text-behind f lines.form product messages first))

  pub after-then : (lines : Lines F) (product : ProductLists) (state : State) (messages more : List (List ℕ))
      → lines_after lines product state (messages ++ more) ≡ lines_after (lines_after lines product state messages) product (state_after product state messages) more
  after-then lines product state messages more =
      let first : List Event = events_from product state messages in
      let new : List Event = events_from product (state_after product state messages) more in
      ap (λ (g : F). let l : Lines F = record { form = g } in l)
      (ap (λ (es : List Event). behind f lines.form product (messages ++ more) es) (events-append product state messages more) ∙ behind-then f lines.form product messages more first new)

  abbrev pub line_work : WorkMeanings (Lines F)
  line_work = record {
    Fits = λ lines state. Unit {0};
    fits_amended = λ lines product state fits. fits;
    text = lines_text;
    after = lines_after;
    ending = λ lines live. f.ending lines.form live;
    is_silent = f.is_silent;
    text_none = λ lines product state. refl;
    after_none = λ lines product state. refl;
    text_then = lines-then;
    after_then = after-then;
  }
