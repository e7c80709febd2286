-- The lines that are sent again out of a history are lines again of its reports.
use Rattle.std.proofs.Common.{ℕ, true, false, cond, List, [], ◌∷◌, ◌++◌, map, refl, sym, ap, subst, ◌∙◌, inl, inr, append_assoc}
use Rattle.std.specs.Prelude.{flat_map}
use Rattle.std.specs.List.{AllByRecursion}
use Rattle.gx_base.specs.NameLists.{NameLists}
use Rattle.gx_base.specs.Line.{body_of, line_of}
use Rattle.gx_base.specs.declared.event.Event.{Event}
use Rattle.book_order.proofs.Each.{all-front, all-back}
use Rattle.order_kinds.specs.State.{empty_state}
use Rattle.order_kinds.specs.Step.{events_from}
use Rattle.order_kinds.specs.Amendments.{amended_state}
use Rattle.order_kinds.specs.Histories.{History, of_product, amended, AreOfTexts, state_kept, events_kept, lines_kept}
use Rattle.stream_laws.specs.Names.{AreNames}
use Rattle.stream_laws.specs.Texts.{HasTexts}
use Rattle.stream_laws.specs.Histories.{HaveNames, each_report}
use Rattle.stream_laws.proofs.Histories.{histories-have-names, events-have-texts}
use Rattle.fix_session.specs.declared.again.ReportRange.{ReportRange}
use Rattle.fix_session.specs.Again.{again_body, again_line, again_text, head_in, is_asked}
use Rattle.fix_session.proofs.SessionLaws.{whole-again}
use Rattle.stream_laws.specs.Repeats.{IsLineAgain, Repeats, RepeatsReports}
use Rattle.stream_laws.proofs.Whole.{number-whole, time-whole}

-- ---- bytes after bytes

module _ (time : List ℕ) where
  -- a line more
  one_more : (report line rest : List ℕ) (reports : List (List ℕ)) → IsLineAgain time report line → Repeats time reports rest → Repeats time (report ∷ reports) (line ++ rest)
  one_more report line rest reports is more = inr (line, rest, refl, is, more)

  repeats_append : (first others : List (List ℕ)) (bytes more : List ℕ) → Repeats time first bytes → Repeats time others more → Repeats time (first ++ others) (bytes ++ more)
  repeats_append [] others bytes more h k = subst (λ (l : List ℕ). Repeats time others (l ++ more)) (sym h) k
  repeats_append (report ∷ first) others bytes more (inl h) k = inl (repeats_append first others bytes more h k)
  repeats_append (report ∷ first) others bytes more (inr h) k =
      inr (h.0, h.1 ++ more, ap (λ (l : List ℕ). l ++ more) h.2 ∙ append_assoc h.0 h.1 more, h.3, repeats_append first others h.1 more h.4 k)

-- ---- events under one product

module _ (range : ReportRange) (names : NameLists) (are : AreNames names) where
  -- the line of an event again
  line_again : (event : Event) → HasTexts event → IsLineAgain range.time (line_of names event) (again_line names range.time event)
  line_again event texts = record {
    body = body_of names event;
    again = again_body range.time (body_of names event);
    differ = (whole-again names range.time event are.exchange (number-whole (head_in event).line) (time-whole event texts)).differ;
    report_is = refl;
    line_is = refl;
  }

  events_repeat : (events : List Event) → AllByRecursion HasTexts events → Repeats range.time (map (line_of names) events) (flat_map (again_text range names) events)
  events_repeat [] texts = refl
  events_repeat (event ∷ events) texts =
      let rest = flat_map (again_text range names) events in
      let line = again_line names range.time event in
      let reports = map (line_of names) events in
      let more = events_repeat events texts.1 in
      elim (is_asked range event) as (λ b. Repeats range.time (line_of names event ∷ reports) (cond b line [] ++ rest)) [
        | true ↦ one_more range.time (line_of names event) line rest reports (line_again event texts.0) more
        | false ↦ inl more
      ]

-- ---- histories

texts_repeat : (range : ReportRange) (history : History) → HaveNames history → AllByRecursion HasTexts (events_kept history)
    → Repeats range.time (each_report history) (lines_kept (again_text range) history)
texts_repeat range (of_product product messages) are texts = events_repeat range product.names are (events_from product (empty_state product) messages) texts
texts_repeat range (amended before product messages) are texts =
    let first = events_kept before in
    let more = events_from product (amended_state product (state_kept before)) messages in
    repeats_append range.time (each_report before) (map (line_of product.names) more) (lines_kept (again_text range) before) (flat_map (again_text range product.names) more)
    (texts_repeat range before are.0 (all-front HasTexts first more texts))
    (events_repeat range product.names are.1 more (all-back HasTexts first more texts))

-- of any history whose products have names, and so of each whose products texts give
pub named-repeat : (history : History) → HaveNames history → RepeatsReports history
named-repeat history are range = texts_repeat range history are (events-have-texts history)

pub histories-repeat : (history : History) → AreOfTexts history → RepeatsReports history
histories-repeat history texts = named-repeat history (histories-have-names history texts)
