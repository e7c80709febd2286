-- The states that histories lead to: that they are right, what is read of a true image, and the state after a true record.
use Rattle.std.proofs.Common.{◌≡◌, ℕ, ◌<◌, ◌≤◌, true, false, List, [], ◌∷◌, ◌++◌, None, refl, sym, subst, ◌∙◌, ap, arith}
use Rattle.std.specs.List.{AllByRecursion}
use Rattle.gx_base.proofs.Tests.{not-both}
use Rattle.fix_frame.specs.Stream.{messages_of}
use Rattle.product_file.specs.Products.{ProductLists}
use Rattle.plain_book.specs.declared.entry.Entry.{Entry}
use Rattle.plain_book.specs.Book.{AllDiffer, live_orders}
use Rattle.plain_book.specs.Numbers.{numbered}
use Rattle.plain_book.proofs.Pairs.{all-front, all-back, all-append, all-with}
use Rattle.order_kinds.specs.Histories.{History, length_kept, state_kept}
use Rattle.order_kinds.specs.declared.core_state.TheConstants.{MOST_MESSAGES}
use Rattle.order_kinds.specs.State.{State, state_numbered}
use Rattle.order_kinds.specs.Step.{state_after}
use Rattle.order_kinds.specs.Cores.{AreNumbered}
use Rattle.order_kinds.proofs.FurtherMessages.{state-further}
use Rattle.match_journal.specs.declared.entry.EntryKind.{EntryKind}
use Rattle.match_journal.specs.declared.entry.EntryKind.TheVariants.{Frames, OldImage, Image, Amendment}
use Rattle.match_journal.specs.Texts.{amended_image}
use Rattle.book_image.specs.Faults.{image_fault}
use Rattle.book_image.specs.Reading.{state_of_image}
use Rattle.image_laws.specs.Right.{IsRightEntry, IsRightState}
use Rattle.image_laws.proofs.Histories.{histories-right, histories-counted}
use Rattle.image_laws.proofs.Images.{image-right, image-read, old-image-right, old-image-read}
use Rattle.book_recovery.specs.Records.{is_image_kind, image_in, image_kind}
use Rattle.book_recovery.specs.Histories.{IsTrueAs, history_as}
use Rattle.book_recovery.specs.Recovering.{IsStateAfter}
use Rattle.book_recovery.specs.Inner.Replays.{IsReplayed}
use Rattle.book_recovery.proofs.Histories.{IsUnder, with-last, with-count}
use Rattle.book_recovery.proofs.ImageKinds.{image-state}

-- ---- order numbers

-- a number is the same where an order is named by it
all-unnamed : (bound : ℕ) (es : List Entry) → AllByRecursion (λ (e : Entry). e.order.number ≤ bound) (numbered es)
    → AllByRecursion (λ (e : Entry). e.order.number ≤ bound) es
all-unnamed bound [] all = tt
all-unnamed bound (e ∷ es) all = (all.0, all-unnamed bound es all.1)

given-numbers : (bound : ℕ) (resting waiting : List Entry) → AllByRecursion (λ (e : Entry). e.order.number ≤ bound) (numbered resting ++ numbered waiting)
    → AllByRecursion (λ (e : Entry). e.order.number ≤ bound) (resting ++ waiting)
given-numbers bound resting waiting all =
    let within : Entry → Type 0 = λ e. e.order.number ≤ bound in
    all-append within resting waiting
    (all-unnamed bound resting (all-front within (numbered resting) (numbered waiting) all))
    (all-unnamed bound waiting (all-back within (numbered resting) (numbered waiting) all))

-- order numbers differ in a right state, and so in one that is it with each order named by its number
right-numbered : (product : ProductLists) (right s : State) → IsRightState product right → state_numbered s ≡ right → AreNumbered s
right-numbered product right s is_right same =
    let given = all-with (IsRightEntry product right.desk.orders) (λ (e : Entry). e.order.number ≤ right.desk.orders) (λ e f. f.given) (live_orders right.book) is_right.entries in
    record {
      differ = subst (λ (t : State). AllDiffer (live_orders t.book)) (sym same) is_right.book.differ;
      given = given-numbers s.desk.orders s.book.resting s.book.waiting
          (subst (λ (t : State). AllByRecursion (λ (e : Entry). e.order.number ≤ t.desk.orders) (live_orders t.book)) (sym same) given);
    }

-- ---- histories of few messages

module _ (product : ProductLists) (h : History) (under : IsUnder product h) where
  pub kept-right : length_kept h < MOST_MESSAGES → IsRightState product (state_kept h)
  kept-right few = subst (λ (p : ProductLists). IsRightState p (state_kept h)) under.last (histories-right h under.right under.follow few)

  -- each message counts
  pub kept-counted : (state_kept h).desk.messages ≡ length_kept h
  kept-counted = histories-counted h under.right under.follow

  -- a true image has no fault, and is read as the state that it is of
  pub true-right : (kind : EntryKind) (payload : List ℕ) → is_image_kind kind ≡ true → length_kept h < MOST_MESSAGES → IsTrueAs h kind payload
      → image_fault (image_kind kind) product (image_in kind payload) ≡ None
  true-right Frames payload image few is_true = absurd (cc image)
  true-right OldImage payload image few is_true = old-image-right product (state_kept h) (kept-right few) payload is_true.0 is_true.1
  true-right Image payload image few is_true = image-right product (state_kept h) (kept-right few) payload is_true
  true-right Amendment payload image few is_true = image-right product (state_kept h) (kept-right few) (amended_image payload) is_true

  pub true-read : (kind : EntryKind) (payload : List ℕ) → is_image_kind kind ≡ true → length_kept h < MOST_MESSAGES → IsTrueAs h kind payload
      → state_of_image (image_kind kind) product (image_in kind payload) ≡ state_kept h
  true-read Frames payload image few is_true = absurd (cc image)
  true-read OldImage payload image few is_true = old-image-read product (state_kept h) (kept-right few) payload is_true.0 is_true.1
  true-read Image payload image few is_true = image-read product (state_kept h) (kept-right few) payload is_true
  true-read Amendment payload image few is_true = image-read product (state_kept h) (kept-right few) (amended_image payload) is_true

-- frames are applied under the last product
pub frames-after : (product : ProductLists) (h : History) (payload : List ℕ) → IsUnder product (history_as h Frames payload) → state_after product (state_kept h) (messages_of payload) ≡ state_kept (history_as h Frames payload)
frames-after product h payload under =
    ap (λ (p : ProductLists). state_after p (state_kept h) (messages_of payload)) (sym under.last ∙ with-last h (messages_of payload)) ∙ sym (state-further h (messages_of payload))

-- ---- one record

module _ (product : ProductLists) (h : History) (old new : State) where
  frames-behind : (payload : List ℕ) → IsUnder product (history_as h Frames payload) → IsReplayed product old new (record { kind = Frames; payload = payload })
      → IsStateAfter h old → IsStateAfter (history_as h Frames payload) new
  frames-behind payload under did before = record {
    state_is =
        did.state (λ frames. before.numbered)
        ∙ ap (λ (s : State). state_after product s (messages_of payload)) before.state_is
        ∙ frames-after product h payload under;
    numbered = did.numbered refl before.numbered;
    count_is = omega (arith, did.messages, before.count_is, with-count h (messages_of payload));
  }

  image-behind : (kind : EntryKind) (payload : List ℕ) → is_image_kind kind ≡ true → (then : History) → IsUnder product then → length_kept then < MOST_MESSAGES
      → IsReplayed product old new (record { kind = kind; payload = payload }) → IsTrueAs then kind payload → IsStateAfter then new
  image-behind kind payload image then under few did is_true =
      let is : state_numbered new ≡ state_kept then =
      did.state (λ frames. absurd (not-both (is_image_kind kind) image frames)) ∙ image-state product (state_numbered old) kind payload image ∙ true-read product then under kind payload image few is_true in
      record {
        state_is = is;
        numbered = right-numbered product (state_kept then) new (kept-right product then under few) is;
        count_is = ap (λ (s : State). s.desk.messages) is ∙ kept-counted product then under;
      }

  -- frames are applied to the state before, and a true image is that of the state after it
  pub state-behind : (kind : EntryKind) (payload : List ℕ) → IsUnder product (history_as h kind payload) → length_kept (history_as h kind payload) < MOST_MESSAGES
      → IsReplayed product old new (record { kind = kind; payload = payload }) → IsTrueAs (history_as h kind payload) kind payload
      → (is_image_kind kind ≡ false → IsStateAfter h old) → IsStateAfter (history_as h kind payload) new
  state-behind Frames payload under few did is_true stands = frames-behind payload under did (stands refl)
  state-behind OldImage payload under few did is_true stands = image-behind OldImage payload refl h under few did is_true
  state-behind Image payload under few did is_true stands = image-behind Image payload refl h under few did is_true
  state-behind Amendment payload under few did is_true stands = image-behind Amendment payload refl (history_as h Amendment payload) under few did is_true
