-- One record more of a history, as a work and a core go through it.
use Rattle.std.proofs.Common.{◌≡◌, ℕ, ◌+◌, List, [], ◌∷◌, ◌++◌, length, Result, refl, sym, ◌∙◌, ap, subst, arith, append_assoc, append-nil}
use Rattle.product_file.specs.Products.{ProductLists}
use Rattle.product_file.specs.declared.faults.ProductFault.{ProductFault}
use Rattle.order_kinds.specs.State.{State, state_numbered, empty_state}
use Rattle.order_kinds.specs.Step.{state_after}
use Rattle.order_kinds.specs.Amendments.{amended_state}
use Rattle.order_kinds.specs.Histories.{History, of_product, amended, with_messages, last_product, length_kept, state_kept}
use Rattle.order_kinds.proofs.Amended.{amended-numbered}
use Rattle.order_kinds.proofs.FurtherMessages.{state-further}
use Rattle.fix_frame.specs.Stream.{messages_of}
use Rattle.match_journal.specs.Journal.{Record}
use Rattle.match_journal.specs.declared.entry.EntryKind.{EntryKind}
use Rattle.match_journal.specs.declared.entry.EntryKind.TheVariants.{Frames, OldImage, Image, Amendment}
use Rattle.book_recovery.specs.Records.{messages_as}
use Rattle.book_recovery.specs.Histories.{IsProductBehind, amended_by, history_as}
use Rattle.book_recovery.specs.Products.{product_behind}
use Rattle.book_recovery.proofs.Histories.{AreAmended, with-count, with-last}
use Rattle.journal_print.specs.Works.{WorkMeanings, work_text, work_after}
use Rattle.journal_print.specs.Inner.Publishing.{GoesOver}

-- the last of these records is under a product that a product before it gives
pub last-amended : (product : ProductLists) (before : List Record) (r : Record) → AreAmended product (before ++ r ∷ []) → (from : ProductLists) × (to : ProductLists) × IsProductBehind from r.kind r.payload to
last-amended product [] r are = (product, are.0, are.1)
last-amended product (x ∷ before) r are = last-amended are.0 before r are.2

module _ {W : Type 0} (w : WorkMeanings W) (work : W) where
  -- ---- further messages

  text-further : (h : History) (more : List (List ℕ)) → work_text w work (with_messages h more) ≡ work_text w work h ++ w.text (work_after w work h) (last_product h) (state_kept h) more
  text-further (of_product product messages) more = w.text_then work product (empty_state product) messages more
  text-further (amended before product messages) more =
      let start = amended_state product (state_kept before) in
      let then = work_after w work before in
      ap (λ (l : List ℕ). work_text w work before ++ l) (w.text_then then product start messages more)
      ∙ sym (append_assoc (work_text w work before) (w.text then product start messages) (w.text (w.after then product start messages) product (state_after product start messages) more))

  after-further : (h : History) (more : List (List ℕ)) → work_after w work (with_messages h more) ≡ w.after (work_after w work h) (last_product h) (state_kept h) more
  after-further (of_product product messages) more = w.after_then work product (empty_state product) messages more
  after-further (amended before product messages) more = w.after_then (work_after w work before) product (amended_state product (state_kept before)) messages more

  -- ---- one record more

  -- a history is the one before, and then these messages of the product, from this state on
  pub record IsThen (h behind : History) (product : ProductLists) (state : State) (messages : List (List ℕ)) : Type 0 where
    pub text : work_text w work behind ≡ work_text w work h ++ w.text (work_after w work h) product state messages
    pub after : work_after w work behind ≡ w.after (work_after w work h) product state messages
    pub state_is : state_kept behind ≡ state_after product state messages
    pub count : length_kept behind ≡ length_kept h + length messages

  -- no message leaves a history as it is
  none_then : (h : History) (product : ProductLists) → IsThen h h product (state_kept h) []
  none_then h product = record {
    text = sym (ap (λ (l : List ℕ). work_text w work h ++ l) (w.text_none (work_after w work h) product (state_kept h)) ∙ append-nil (work_text w work h));
    after = sym (w.after_none (work_after w work h) product (state_kept h));
    state_is = refl;
    count = omega arith;
  }

  further_then : (h : History) (more : List (List ℕ)) → IsThen h (with_messages h more) (last_product h) (state_kept h) more
  further_then h more = record { text = text-further h more; after = after-further h more; state_is = state-further h more; count = with-count h more }

  amended_then : (h : History) (product : ProductLists) → IsThen h (amended h product []) product (amended_state product (state_kept h)) []
  amended_then h product = record { text = refl; after = refl; state_is = refl; count = refl }

  then_from : (h behind : History) (product same : ProductLists) (state start : State) (messages : List (List ℕ)) → product ≡ same → state ≡ start → IsThen h behind same start messages → IsThen h behind product state messages
  then_from h behind product same state start messages product_is state_is after =
      subst (λ (p : ProductLists). IsThen h behind p state messages) (sym product_is) (subst (λ (s : State). IsThen h behind same s messages) (sym state_is) after)

  -- a payload of a kind goes on from the core that has gone over to the product that holds after it
  module _ (h : History) (product : ProductLists) (number behind : ℕ) (old new : State) (kept : state_numbered old ≡ state_kept h) (over : GoesOver product number behind old new) where
    stays : behind ≡ number → state_numbered new ≡ state_kept h
    stays same = ap state_numbered (over.stays same) ∙ kept

    pub as_then : (kind : EntryKind) (payload : List ℕ) (from to : ProductLists) → IsProductBehind from kind payload to → behind ≡ product_behind number kind → product ≡ last_product (history_as h kind payload)
        → IsThen h (history_as h kind payload) product (state_numbered new) (messages_as kind payload)
    as_then Frames payload from to gives is last =
        let more = messages_of payload in
        then_from h (with_messages h more) product (last_product h) (state_numbered new) (state_kept h) more (last ∙ with-last h more) (stays is) (further_then h more)
    as_then OldImage payload from to gives is last = then_from h h product product (state_numbered new) (state_kept h) [] refl (stays is) (none_then h product)
    as_then Image payload from to gives is last = then_from h h product product (state_numbered new) (state_kept h) [] refl (stays is) (none_then h product)
    as_then Amendment payload from to gives is last =
        let product_is : product ≡ to = last ∙ ap (λ (r : Result ProductLists ProductFault). last_product (amended_by h r)) gives.0 in
        let state_is : state_numbered new ≡ amended_state to (state_kept h) =
        ap state_numbered (over.goes (λ same. omega (arith, same, is))) ∙ amended-numbered product old ∙ ap (amended_state product) kept ∙ ap (λ (p : ProductLists). amended_state p (state_kept h)) product_is in
        subst (λ (r : Result ProductLists ProductFault). IsThen h (amended_by h r) product (state_numbered new) []) (sym gives.0)
        (then_from h (amended h to []) product to (state_numbered new) (amended_state to (state_kept h)) [] product_is state_is (amended_then h to))
