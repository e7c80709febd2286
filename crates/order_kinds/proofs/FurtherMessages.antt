-- Further messages of a history.
use Rattle.std.proofs.Common.{◌≡◌, ℕ, List, [], ◌∷◌, ◌++◌, drop, length, flat_map, refl, sym, ap, ◌∙◌, append_assoc}
use Rattle.std.proofs.lemmas.Grind.{flat_map-append}
use Rattle.std.proofs.Math.Seq.{drop-append_seam}
use Rattle.gx_base.specs.Line.{line_of}
use Rattle.gx_base.specs.NameLists.{NameLists}
use Rattle.gx_base.specs.declared.event.Event.{Event}
use Rattle.product_file.specs.Products.{ProductLists}
use Rattle.order_kinds.specs.State.{State, empty_state}
use Rattle.order_kinds.specs.Step.{step_of, state_after, events_from, lines_of}
use Rattle.order_kinds.specs.Amendments.{amended_state}
use Rattle.order_kinds.specs.Histories.{History, of_product, amended, with_messages, last_product, state_kept, events_kept, lines_kept, reports_kept, new_reports}

-- ---- one product

pub state-append : (product : ProductLists) (state : State) (xs ys : List (List ℕ)) → state_after product state (xs ++ ys) ≡ state_after product (state_after product state xs) ys
state-append product state [] ys = refl
state-append product state (x ∷ xs) ys = state-append product (step_of product state x).0 xs ys

pub events-append : (product : ProductLists) (state : State) (xs ys : List (List ℕ))
    → events_from product state (xs ++ ys) ≡ events_from product state xs ++ events_from product (state_after product state xs) ys
events-append product state [] ys = refl
events-append product state (x ∷ xs) ys =
    let step = step_of product state x in
    ap (λ (es : List Event). step.1 ++ es) (events-append product step.0 xs ys)
    ∙ sym (append_assoc step.1 (events_from product step.0 xs) (events_from product (state_after product step.0 xs) ys))

-- ---- histories

pub state-further : (h : History) (messages : List (List ℕ)) → state_kept (with_messages h messages) ≡ state_after (last_product h) (state_kept h) messages
state-further (of_product product kept) messages = state-append product (empty_state product) kept messages
state-further (amended before product kept) messages = state-append product (amended_state product (state_kept before)) kept messages

pub events-further : (h : History) (messages : List (List ℕ))
    → events_kept (with_messages h messages) ≡ events_kept h ++ events_from (last_product h) (state_kept h) messages
events-further (of_product product kept) messages = events-append product (empty_state product) kept messages
events-further (amended before product kept) messages =
    let start = amended_state product (state_kept before) in
    ap (λ (es : List Event). events_kept before ++ es) (events-append product start kept messages)
    ∙ sym (append_assoc (events_kept before) (events_from product start kept) (events_from product (state_after product start kept) messages))

module _ (line : NameLists → Event → List ℕ) where
  lines-append : (product : ProductLists) (state : State) (xs ys : List (List ℕ))
      → flat_map (line product.names) (events_from product state (xs ++ ys))
      ≡ flat_map (line product.names) (events_from product state xs) ++ flat_map (line product.names) (events_from product (state_after product state xs) ys)
  lines-append product state xs ys =
      ap (λ (es : List Event). flat_map (line product.names) es) (events-append product state xs ys)
      ∙ flat_map-append (line product.names) (events_from product state xs) (events_from product (state_after product state xs) ys)

  pub lines-further : (h : History) (messages : List (List ℕ))
      → lines_kept line (with_messages h messages) ≡ lines_kept line h ++ flat_map (line (last_product h).names) (events_from (last_product h) (state_kept h) messages)
  lines-further (of_product product kept) messages = lines-append product (empty_state product) kept messages
  lines-further (amended before product kept) messages =
      let start = amended_state product (state_kept before) in
      ap (λ (l : List ℕ). lines_kept line before ++ l) (lines-append product start kept messages)
      ∙ sym (append_assoc (lines_kept line before) _ _)

-- ---- reports

pub reports-further : (h : History) (messages : List (List ℕ))
    → reports_kept (with_messages h messages) ≡ reports_kept h ++ lines_of (last_product h) (events_from (last_product h) (state_kept h) messages)
reports-further h messages = lines-further line_of h messages

pub new_reports-further : (h : History) (messages : List (List ℕ))
    → new_reports h messages ≡ lines_of (last_product h) (events_from (last_product h) (state_kept h) messages)
new_reports-further h messages =
    ap (λ (l : List ℕ). drop (length (reports_kept h)) l) (reports-further h messages)
    ∙ drop-append_seam (reports_kept h) _
