-- What is known of a right image: it is no longer than the room for one, and of fewer messages than a core takes.
use Rattle.std.proofs.Common.{◌≡◌, ℕ, ◌+◌, ◌-◌, ◌<◌, ◌≤◌, Bool, true, false, List, length, Option, Some, None, Ok, Err, option_map, refl, sym, subst, ap, ◌∙◌, arith, length-drop}
use Rattle.std.specs.Prelude.{nat_le, nat_lt}
use Rattle.std.specs.Int.{w64, from_be_bytes}
use Rattle.std.specs.Option.{option_or}
use Rattle.std.proofs.lemmas.Bool.Decides.{nat_tests}
use Rattle.std.proofs.lemmas.List.{take-take, length-take-le}
use Rattle.gx_base.specs.FirstFault.{fault_if, unless_fault}
use Rattle.product_file.specs.Products.{ProductLists}
use Rattle.order_kinds.specs.declared.core_state.TheConstants.{MOST_MESSAGES}
use Rattle.order_kinds.specs.State.{State, state_numbered}
use Rattle.book_image.specs.Rows.{number_at}
use Rattle.match_journal.specs.declared.entry.EntryKind.{EntryKind}
use Rattle.match_journal.specs.declared.entry.EntryKind.TheVariants.{Frames, OldImage, Image, Amendment}
use Rattle.book_image.specs.Image.{image_len}
use Rattle.book_image.specs.Kinds.{part_of, session_of, trading_of}
use Rattle.book_image.specs.Faults.{resting_place, resting_rows, resting_count, waiting_place, waiting_rows, waiting_count, rows_end, length_fault, desk_fault, wrong_place, is_right_last, parts_fault, image_fault}
use Rattle.book_image.specs.declared.format.TheConstants.{DESK_BYTES, INSTRUMENT_BYTES, ROW_BYTES}
use Rattle.book_image.specs.Reading.{state_of_image}
use Rattle.match_journal.specs.Texts.{text_size, amended_image}
use Rattle.match_journal.specs.declared.limits.TheConstants.{MOST_TEXT}
use Rattle.book_recovery.specs.Records.{is_image_kind, image_in, image_kind, HasTextAs}
use Rattle.book_recovery.specs.Inner.Contents.{FindsImage}
use Rattle.book_recovery.specs.Inner.Replays.{HasRightImage, IsImageRead}

none-then : {F : Type 0} (fault rest : Option F) → option_or fault rest ≡ None → (fault ≡ None) × (rest ≡ None)
none-then None rest h = (refl, h)
none-then (Some f) rest h = absurd (let k : Some f ≡ None = h in cc)

holds-not : {F : Type 0} (b : Bool) (f : F) → fault_if b f ≡ None → b ≡ false
holds-not true f h = absurd (let k : Some f ≡ None = h in cc)
holds-not false f h = refl

not-less : (a b : ℕ) → nat_lt a b ≡ false → b ≤ a
not-less a b h = grind (arith, nat_tests)

fewer : (a b : ℕ) → nat_le a b ≡ false → b < a
fewer a b h = grind (arith, nat_tests)

-- ---- the bytes of the old form

-- the byte of the session is one at most
part-length : (kind : EntryKind) (payload : List ℕ) → length payload ≤ length (part_of kind payload) + 1
part-length Frames payload = omega arith
part-length OldImage payload = omega arith
part-length Amendment payload = omega arith
part-length Image payload = omega (arith, length-take-le (length payload - 1) payload (omega arith))

-- and it comes last
part-count : (kind : EntryKind) (payload : List ℕ) → 8 ≤ length (part_of kind payload) → number_at (part_of kind payload) 0 ≡ number_at payload 0
part-count Frames payload long = refl
part-count OldImage payload long = refl
part-count Amendment payload long = refl
part-count Image payload long =
    ap (from_be_bytes w64) (take-take 8 (length payload - 1) payload (omega (arith, long, length-take-le (length payload - 1) payload (omega arith))))

module _ (kind : EntryKind) (product : ProductLists) (payload : List ℕ) (right : image_fault kind product payload ≡ None) where
  abbrev many : ℕ
  many = length product.names.instruments

  abbrev part : List ℕ
  part = part_of kind payload

  -- no part of it is wrong
  parts : parts_fault (trading_of (session_of kind payload)) product part ≡ None
  parts = (none-then (parts_fault (trading_of (session_of kind payload)) product part) _ right).0

  pub right-messages : number_at part 0 < MOST_MESSAGES
  right-messages =
      let sized = none-then (length_fault many part) _ parts in
      let counted = none-then (desk_fault part) _ sized.1 in
      fewer MOST_MESSAGES (number_at part 0) (holds-not _ 0 (none-then (fault_if (nat_le MOST_MESSAGES (number_at part 0)) 0) _ counted.0).0)

  least : resting_rows many ≤ length part
  least =
      let n = length part in
      let sized = none-then (length_fault many part) _ parts in
      not-less n (resting_rows many) (holds-not _ n (none-then (fault_if (nat_lt n (resting_rows many)) n) _ sized.0).0)

  -- the count of messages comes first
  pub counted-front : number_at part 0 ≡ number_at payload 0
  counted-front = part-count kind payload (omega (arith, least))

  ends : length part ≤ rows_end many part
  ends =
      let n = length part in
      let sized = none-then (length_fault many part) _ parts in
      let a = none-then (fault_if (nat_lt n (resting_rows many)) n) _ sized.0 in
      let b = none-then (fault_if (nat_lt n (waiting_rows many part)) n) _ a.1 in
      let c = none-then (fault_if (nat_lt n (rows_end many part)) n) _ b.1 in
      let d = none-then (fault_if (nat_lt (rows_end many part) n) (rows_end many part)) None c.1 in
      not-less (rows_end many part) n (holds-not _ (rows_end many part) d.0)

  few-orders : resting_count many part + waiting_count many part ≤ product.max_orders
  few-orders =
      let orders = resting_count many part + waiting_count many part in
      let sized = none-then (length_fault many part) _ parts in
      let counted = none-then (desk_fault part) _ sized.1 in
      let lasts = none-then (wrong_place (is_right_last product part) DESK_BYTES INSTRUMENT_BYTES 0 many) _ counted.1 in
      let some = none-then (fault_if (nat_lt product.max_orders (resting_count many part)) (resting_place many)) _ lasts.1 in
      let rows = none-then (wrong_place _ (resting_rows many) ROW_BYTES 0 (resting_count many part)) _ some.1 in
      let both = none-then (fault_if (nat_lt product.max_orders orders) (waiting_place many part)) _ rows.1 in
      not-less product.max_orders orders (holds-not _ (waiting_place many part) both.0)

  pub right-length : length payload ≤ image_len many product.max_orders
  right-length = omega (arith, ends, few-orders, part-length kind payload)

-- a payload with one is no longer than the room for an amendment
pub payload-right-length : (kind : EntryKind) (product : ProductLists) (payload : List ℕ) → is_image_kind kind ≡ true → HasRightImage kind product payload
    → length payload ≤ 4 + MOST_TEXT + image_len (length product.names.instruments) product.max_orders
payload-right-length Frames product payload image has = absurd (cc image)
payload-right-length OldImage product payload image has = omega (arith, right-length OldImage product payload has.right)
payload-right-length Image product payload image has = omega (arith, right-length Image product payload has.right)
payload-right-length Amendment product payload image has =
    omega (arith, right-length Image product (amended_image payload) has.right, has.text.few, has.text.inside, length-drop (4 + text_size payload) payload)

-- ---- what reading one answers

module _ {F : Type 0} (f : ℕ → F) where
  ok-right : (fault : Option ℕ) → Ok tt ≡ unless_fault {A = Unit {0}} (option_map f fault) tt → fault ≡ None
  ok-right None is = refl
  ok-right (Some at) is = absurd (cc is)

  err-wrong : (why : F) (fault : Option ℕ) → Err why ≡ unless_fault {A = Unit {0}} (option_map f fault) tt → fault ≡ None → ⊥
  err-wrong why None is none = absurd (cc is)
  err-wrong why (Some at) is none = absurd (cc none)

  module _ (own : EntryKind) (product : ProductLists) (held : List ℕ) where
    pub few-read : (new : State) → Ok tt ≡ unless_fault {A = Unit {0}} (option_map f (image_fault own product held)) tt → state_numbered new ≡ state_of_image own product held
        → new.desk.messages < MOST_MESSAGES
    few-read new is state = omega (arith, right-messages own product held (ok-right (image_fault own product held) is), ap (λ (s : State). s.desk.messages) state)

    -- it was found in these bytes, which are those of a payload
    module _ (kind : EntryKind) (own_is : own ≡ image_kind kind) (bytes payload : List ℕ) (same : bytes ≡ payload) (found : FindsImage kind bytes (Some held)) where
      held-is : held ≡ image_in kind payload
      held-is = found.1 ∙ ap (image_in kind) same

      fault-is : image_fault own product held ≡ image_fault (image_kind kind) product (image_in kind payload)
      fault-is = ap (λ (k : EntryKind). image_fault k product held) own_is ∙ ap (image_fault (image_kind kind) product) held-is

      pub image-read : (new : State) → Ok tt ≡ unless_fault {A = Unit {0}} (option_map f (image_fault own product held)) tt
          → state_numbered new ≡ state_of_image own product held → IsImageRead kind product payload new
      image-read new is state = record {
        has = record { text = subst (HasTextAs kind) same found.0; right = sym fault-is ∙ ok-right (image_fault own product held) is };
        state = state ∙ ap (λ (k : EntryKind). state_of_image k product held) own_is ∙ ap (state_of_image (image_kind kind) product) held-is;
      }

      pub image-wrong : (why : F) → Err why ≡ unless_fault {A = Unit {0}} (option_map f (image_fault own product held)) tt → HasRightImage kind product payload → ⊥
      image-wrong why is has = err-wrong why (image_fault own product held) is (fault-is ∙ has.right)

-- no image was found there
pub none-found : (kind : EntryKind) (product : ProductLists) (bytes payload : List ℕ) → bytes ≡ payload → FindsImage kind bytes None → HasRightImage kind product payload → ⊥
none-found kind product bytes payload same found has = found (subst (HasTextAs kind) (sym same) has.text)
