-- One record was replayed, by its kind.
use Rattle.std.proofs.Common.{◌≡◌, ℕ, ◌+◌, true, List, length, Err, refl, sym, subst, ◌∙◌, ap}
use Rattle.gx_base.proofs.Tests.{not-both}
use Rattle.product_file.specs.Products.{ProductLists}
use Rattle.order_kinds.specs.State.{State, state_numbered}
use Rattle.order_kinds.specs.Step.{state_after}
use Rattle.order_kinds.specs.Cores.{AreNumbered}
use Rattle.match_journal.specs.declared.entry.EntryKind.{EntryKind}
use Rattle.match_journal.specs.declared.entry.EntryKind.TheVariants.{Frames, OldImage, Image, Amendment}
use Rattle.book_recovery.specs.Records.{is_image_kind, AreGoodFrames}
use Rattle.book_recovery.specs.Inner.Replays.{IsReplayed, ReplaysOne}
use Rattle.book_recovery.specs.Inner.Contents.{CountsBehind, IsContent, ReadsContent}
use Rattle.book_recovery.specs.declared.recovery.RecoverFault.{RecoverFault}
use Rattle.book_recovery.specs.declared.recovery.RecoverFault.TheVariants as fault
use Rattle.book_recovery.proofs.ImageKinds.{still-good, same-count, image-state, image-counts}

module _ (product : ProductLists) (old : State) (count : ℕ) (payload : List ℕ) (given : List (List ℕ)) where
  -- ---- an image, which is read into a core that was cleared

  pub image_replayed : (kind : EntryKind) → is_image_kind kind ≡ true → (new : State) (behind : ℕ) → CountsBehind count kind given new behind → IsContent product count kind payload given new behind
      → IsReplayed product old new (record { kind = kind; payload = payload })
  image_replayed kind image new behind counts content =
      record {
        good = still-good product count old.desk.messages kind payload image content.good;
        messages = sym (image-counts count kind given new behind image counts).1 ∙ content.behind_is ∙ same-count count old.desk.messages kind payload image;
        state = λ numbered. content.state image ∙ sym (image-state product (state_numbered old) kind payload image);
        numbered = λ frames. absurd (not-both (is_image_kind kind) image frames);
      }

  pub image_not_replayed : (kind : EntryKind) → is_image_kind kind ≡ true → (core new : State) (gate : ℕ) (why : RecoverFault) → ReadsContent product count kind payload gate given core (Err why)
      → ReplaysOne product old new gate (record { kind = kind; payload = payload }) (Err why)
  image_not_replayed kind image core new gate fault.Store read = tt
  image_not_replayed kind image core new gate (fault.Bad at) read =
      (λ good. read.0 (still-good product old.desk.messages count kind payload image good), read.1)

  -- ---- frames, which leave the core as it was until they are applied

  module _ (counted : count ≡ old.desk.messages) where
    pub frames_replayed : (kind : EntryKind) → kind ≡ Frames → (core new : State) (behind : ℕ) → core ≡ old → IsContent product count kind payload given core behind
        → (AreNumbered core → state_numbered new ≡ state_after product (state_numbered core) given)
        → new.desk.messages ≡ core.desk.messages + length given → (AreNumbered core → AreNumbered new)
        → IsReplayed product old new (record { kind = kind; payload = payload })
    frames_replayed OldImage is core new behind same content state messages numbered = absurd (cc is)
    frames_replayed Image is core new behind same content state messages numbered = absurd (cc is)
    frames_replayed Amendment is core new behind same content state messages numbered = absurd (cc is)
    frames_replayed Frames is core new behind same content state messages numbered = record {
      good = subst (λ (n : ℕ). AreGoodFrames n payload) counted content.good;
      messages = messages ∙ ap (λ (s : State). s.desk.messages + length given) same ∙ ap (λ (l : List (List ℕ)). old.desk.messages + length l) content.given_are;
      state = λ before.
          state (subst AreNumbered (sym same) (before refl))
          ∙ ap (λ (s : State). state_after product (state_numbered s) given) same
          ∙ ap (state_after product (state_numbered old)) content.given_are;
      numbered = λ frames before. numbered (subst AreNumbered (sym same) before);
    }

    pub frames_not_replayed : (kind : EntryKind) → kind ≡ Frames → (core new : State) (gate : ℕ) (why : RecoverFault) → ReadsContent product count kind payload gate given core (Err why)
        → ReplaysOne product old new gate (record { kind = kind; payload = payload }) (Err why)
    frames_not_replayed OldImage is core new gate why read = absurd (cc is)
    frames_not_replayed Image is core new gate why read = absurd (cc is)
    frames_not_replayed Amendment is core new gate why read = absurd (cc is)
    frames_not_replayed Frames is core new gate fault.Store read = tt
    frames_not_replayed Frames is core new gate (fault.Bad at) read =
        ((λ good. read.0 (subst (λ (n : ℕ). AreGoodFrames n payload) (sym counted) good)), read.1)
