-- What a record holds, by its kind.
use Rattle.std.proofs.Common.{◌≡◌, ℕ, ◌+◌, ◌<◌, ◌≤◌, true, List, [], length, Result, Ok, Err, refl, sym, subst, ◌∙◌, ap, arith}
use Rattle.std.specs.Prelude.{IfOk}
use Rattle.fix_frame.specs.Stream.{messages_of, rest_of}
use Rattle.product_file.specs.Products.{ProductLists}
use Rattle.order_kinds.specs.State.{State}
use Rattle.order_kinds.specs.declared.core_state.TheConstants.{MOST_MESSAGES}
use Rattle.book_image.specs.Image.{image_len}
use Rattle.match_journal.specs.Journal.{most_payload}
use Rattle.match_journal.specs.declared.limits.TheConstants.{MOST_PAYLOAD, MOST_TEXT}
use Rattle.match_journal.specs.declared.entry.EntryKind.{EntryKind}
use Rattle.match_journal.specs.declared.entry.EntryKind.TheVariants.{Frames, OldImage, Image, Amendment}
use Rattle.book_recovery.specs.Records.{is_image_kind, AreGoodFrames, GivesAs, IsGoodAs}
use Rattle.book_recovery.specs.Inner.Replays.{IsImageRead, ReadsImage}
use Rattle.book_recovery.specs.Inner.Contents.{CountsBehind, ReadsFrames, IsContent, ReadsContent}
use Rattle.book_recovery.specs.declared.recovery.RecoverFault.{RecoverFault}
use Rattle.book_recovery.specs.declared.recovery.RecoverFault.TheVariants as fault
use Rattle.book_recovery.proofs.RightImages.{payload-right-length}
use Rattle.book_recovery.proofs.ImageKinds.{image-messages, image-good, good-image, image-count}

-- ---- frames that were held

module _ (count : ℕ) (held payload : List ℕ) (same : held ≡ payload) where
  pub frames_good : (given : List (List ℕ)) → rest_of held ≡ [] → given ≡ messages_of held → count + length given < MOST_MESSAGES → AreGoodFrames count payload × (given ≡ messages_of payload)
  frames_good given whole are few =
      let given_are : given ≡ messages_of payload = are ∙ ap messages_of same in
      (record { no_rest = sym (ap rest_of same) ∙ whole; few = omega (arith, few, ap length given_are) }, given_are)

  pub frames_broken : (rest_of held ≡ [] → count + length (messages_of held) < MOST_MESSAGES → ⊥) → AreGoodFrames count payload → ⊥
  frames_broken not_good good = not_good (ap rest_of same ∙ good.no_rest) (omega (arith, good.few, ap length (ap messages_of same)))

-- ---- by the kind

module _ (product : ProductLists) (count : ℕ) (payload : List ℕ) (gate : ℕ) (given : List (List ℕ)) (core : State) where
  pub counts_frames : (kind : EntryKind) → kind ≡ Frames → (r : Result ℕ RecoverFault) → IfOk r (λ behind. behind ≡ count + length given) → IfOk r (CountsBehind count kind given core)
  counts_frames Frames is r counts = counts
  counts_frames OldImage is r counts = absurd (cc is)
  counts_frames Image is r counts = absurd (cc is)
  counts_frames Amendment is r counts = absurd (cc is)

  content_frames : (r : Result ℕ RecoverFault) → IfOk r (λ behind. behind ≡ count + length given) → ReadsFrames count payload gate given r → ReadsContent product count Frames payload gate given core r
  content_frames (Ok behind) counts read = record {
    good = read.0;
    given_are = read.1;
    behind_is = counts ∙ ap (λ (l : List (List ℕ)). count + length l) read.1;
    state = λ image. absurd (cc image);
  }
  content_frames (Err fault.Store) counts read = tt
  content_frames (Err (fault.Bad at)) counts read = read

  pub reads_frames : (kind : EntryKind) → kind ≡ Frames → (r : Result ℕ RecoverFault) → IfOk r (λ behind. behind ≡ count + length given) → ReadsFrames count payload gate given r → ReadsContent product count kind payload gate given core r
  reads_frames Frames is r counts read = content_frames r counts read
  reads_frames OldImage is r counts read = absurd (cc is)
  reads_frames Image is r counts read = absurd (cc is)
  reads_frames Amendment is r counts read = absurd (cc is)

  pub reads_image : (kind : EntryKind) → is_image_kind kind ≡ true → (behind : ℕ) → given ≡ [] → behind ≡ core.desk.messages → IsImageRead kind product payload core → GivesAs product kind payload → IsContent product count kind payload given core behind
  reads_image kind image behind none counted read gives = record {
    good = image-good product count kind payload image read.has gives;
    given_are = none ∙ sym (image-messages kind payload image);
    behind_is = counted ∙ ap (λ (s : State). s.desk.messages) read.state ∙ sym (image-count product count kind payload image read.has.right);
    state = λ of_image. read.state;
  }

  pub reads_no_image : (kind : EntryKind) → is_image_kind kind ≡ true → (why : RecoverFault) → ReadsImage kind product payload core gate (Err why) → ReadsContent product count kind payload gate given core (Err why)
  reads_no_image kind image fault.Store read = tt
  reads_no_image kind image (fault.Bad at) read = (λ good. read.0 (good-image product count kind payload image good), read.1)

-- frames add theirs to the count
pub frames_counted : (count : ℕ) (kind : EntryKind) (given : List (List ℕ)) (core : State) (behind : ℕ) → kind ≡ Frames → CountsBehind count kind given core behind → behind ≡ count + length given
frames_counted count Frames given core behind is counts = counts
frames_counted count OldImage given core behind is counts = absurd (cc is)
frames_counted count Image given core behind is counts = absurd (cc is)
frames_counted count Amendment given core behind is counts = absurd (cc is)

-- ---- a payload in the memory

-- what is answered by the bytes there is answered by the payload that they are
pub content_of : (product : ProductLists) (count : ℕ) (kind : EntryKind) (gate : ℕ) (given : List (List ℕ)) (core : State) (bytes payload : List ℕ) → bytes ≡ payload → (r : Result ℕ RecoverFault)
    → (GivesAs product kind bytes → ReadsContent product count kind bytes gate given core r) → GivesAs product kind payload → ReadsContent product count kind payload gate given core r
content_of product count kind gate given core bytes payload same r told gives =
    subst (λ (p : List ℕ). GivesAs product kind p → ReadsContent product count kind p gate given core r) same told gives

-- one that is longer than the room is not good
pub longer_bad : (product : ProductLists) (count : ℕ) (kind : EntryKind) (payload : List ℕ) (room : ℕ) → length payload ≤ most_payload kind → MOST_PAYLOAD ≤ room
    → 4 + MOST_TEXT + image_len (length product.names.instruments) product.max_orders ≤ room → room < length payload → IsGoodAs product count kind payload → ⊥
longer_bad product count Frames payload room few frames images long good = omega (arith, few, frames, long)
longer_bad product count OldImage payload room few frames images long good = omega (arith, payload-right-length OldImage product payload refl (good-image product count OldImage payload refl good), images, long)
longer_bad product count Image payload room few frames images long good = omega (arith, payload-right-length Image product payload refl (good-image product count Image payload refl good), images, long)
longer_bad product count Amendment payload room few frames images long good = omega (arith, payload-right-length Amendment product payload refl (good-image product count Amendment payload refl good), images, long)
