-- Reading what a record holds, after some messages that are counted.
use Rattle.std.specs.Prelude.{◌≡◌, ℕ, ◌+◌, true, List, [], length, Option, Some, None, Result, Ok, Err}
use Rattle.fix_frame.specs.Stream.{messages_of}
use Rattle.product_file.specs.Products.{ProductLists}
use Rattle.order_kinds.specs.State.{State, state_numbered}
use Rattle.book_image.specs.Reading.{state_of_image}
use Rattle.match_journal.specs.Texts.{HasText, amended_text}
use Rattle.match_journal.specs.declared.entry.EntryKind.{EntryKind}
use Rattle.match_journal.specs.declared.entry.EntryKind.TheVariants.{Frames, OldImage, Image, Amendment}
use Rattle.book_recovery.specs.Records.{is_image_kind, image_in, image_kind, HasTextAs, messages_as, count_as, AreGoodFrames, IsGoodAs}
use Rattle.book_recovery.specs.declared.recovery.RecoverFault.{RecoverFault}
use Rattle.book_recovery.specs.declared.recovery.RecoverFault.TheVariants as fault

-- the count after a record: frames add theirs, and the state of an image says it
abbrev pub CountsBehind : ℕ → EntryKind → List (List ℕ) → State → ℕ → Type 0
CountsBehind count Frames given core behind = behind ≡ count + length given
CountsBehind count OldImage given core behind = (given ≡ []) × (behind ≡ core.desk.messages)
CountsBehind count Image given core behind = (given ≡ []) × (behind ≡ core.desk.messages)
CountsBehind count Amendment given core behind = (given ≡ []) × (behind ≡ core.desk.messages)

-- what is answered at frames with this payload and gate
abbrev pub ReadsFrames : ℕ → List ℕ → ℕ → List (List ℕ) → Result ℕ RecoverFault → Type 0
ReadsFrames count payload gate given (Ok behind) = AreGoodFrames count payload × (given ≡ messages_of payload)
ReadsFrames count payload gate given (Err fault.Store) = Unit {0}
ReadsFrames count payload gate given (Err (fault.Bad at)) = (AreGoodFrames count payload → ⊥) × (at ≡ gate)

-- The payload is good; these are its messages, and so many are counted after it. An image is that of the core.
pub record IsContent (product : ProductLists) (count : ℕ) (kind : EntryKind) (payload : List ℕ) (given : List (List ℕ)) (core : State) (behind : ℕ) : Type 0 where
  pub good : IsGoodAs product count kind payload
  pub given_are : given ≡ messages_as kind payload
  pub behind_is : behind ≡ count_as count kind payload
  pub state : is_image_kind kind ≡ true → state_numbered core ≡ state_of_image (image_kind kind) product (image_in kind payload)

-- what is answered at a record of this kind, with its payload and gate
abbrev pub ReadsContent : ProductLists → ℕ → EntryKind → List ℕ → ℕ → List (List ℕ) → State → Result ℕ RecoverFault → Type 0
ReadsContent product count kind payload gate given core (Ok behind) = IsContent product count kind payload given core behind
ReadsContent product count kind payload gate given core (Err fault.Store) = Unit {0}
ReadsContent product count kind payload gate given core (Err (fault.Bad at)) = (IsGoodAs product count kind payload → ⊥) × (at ≡ gate)

-- what is answered to one who asks for the text in the payload of an amendment
abbrev pub FindsText : List ℕ → Option (List ℕ) → Type 0
FindsText payload None = HasText payload → ⊥
FindsText payload (Some text) = HasText payload × (text ≡ amended_text payload)

-- what is answered to one who asks for the book image in a payload of a kind
abbrev pub FindsImage : EntryKind → List ℕ → Option (List ℕ) → Type 0
FindsImage kind payload None = HasTextAs kind payload → ⊥
FindsImage kind payload (Some image) = HasTextAs kind payload × (image ≡ image_in kind payload)
