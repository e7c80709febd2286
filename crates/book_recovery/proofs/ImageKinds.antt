-- The records that have a book image, of whichever kind.
use Rattle.std.proofs.Common.{◌≡◌, ◌≢◌, ◌⊎◌, inl, inr, ℕ, true, List, [], None, refl, sym, ap}
use Rattle.gx_base.proofs.Tests.{not-both}
use Rattle.product_file.specs.Products.{ProductLists}
use Rattle.order_kinds.specs.State.{State}
use Rattle.book_image.specs.Faults.{image_fault}
use Rattle.book_image.specs.Reading.{state_of_image}
use Rattle.match_journal.specs.declared.entry.EntryKind.{EntryKind}
use Rattle.match_journal.specs.declared.entry.EntryKind.TheVariants.{Frames, OldImage, Image, Amendment}
use Rattle.match_journal.specs.Texts.{amended_image}
use Rattle.book_recovery.specs.Records.{is_image_kind, image_in, image_kind, messages_as, count_as, GivesAs, IsGoodAs, state_as}
use Rattle.book_recovery.specs.Inner.Replays.{HasRightImage}
use Rattle.book_recovery.specs.Inner.Contents.{CountsBehind}
use Rattle.book_recovery.proofs.RightImages.{counted-front}

-- what is of one of these kinds has an image, and no frames
pub either-image : (kind : EntryKind) → (kind ≡ OldImage) ⊎ ((kind ≡ Image) ⊎ (kind ≡ Amendment)) → is_image_kind kind ≡ true
either-image kind (inl is) = ap is_image_kind is
either-image kind (inr (inl is)) = ap is_image_kind is
either-image kind (inr (inr is)) = ap is_image_kind is

pub not-frames : (kind : EntryKind) → is_image_kind kind ≡ true → kind ≢ Frames
not-frames kind image frames = absurd (not-both (is_image_kind kind) image (ap is_image_kind frames))

-- the kind of the image itself is that of no frames, and of no amendment
pub own-not-frames : (kind : EntryKind) → is_image_kind kind ≡ true → image_kind kind ≢ Frames
own-not-frames Frames image same = absurd (cc image)
own-not-frames OldImage image same = cc same
own-not-frames Image image same = cc same
own-not-frames Amendment image same = cc same

pub own-not-amendment : (kind : EntryKind) → image_kind kind ≢ Amendment
own-not-amendment Frames same = cc same
own-not-amendment OldImage same = cc same
own-not-amendment Image same = cc same
own-not-amendment Amendment same = cc same

pub image-messages : (kind : EntryKind) (payload : List ℕ) → is_image_kind kind ≡ true → messages_as kind payload ≡ []
image-messages Frames payload image = absurd (cc image)
image-messages OldImage payload image = refl
image-messages Image payload image = refl
image-messages Amendment payload image = refl

-- It is good where its image has no fault, whatever was counted before it. The text of an amendment has to give the product.
pub image-good : (product : ProductLists) (count : ℕ) (kind : EntryKind) (payload : List ℕ) → is_image_kind kind ≡ true → HasRightImage kind product payload → GivesAs product kind payload → IsGoodAs product count kind payload
image-good product count Frames payload image has gives = absurd (cc image)
image-good product count OldImage payload image has gives = has.right
image-good product count Image payload image has gives = has.right
image-good product count Amendment payload image has gives = record { text = has.text; gives = gives; image = has.right }

pub good-image : (product : ProductLists) (count : ℕ) (kind : EntryKind) (payload : List ℕ) → is_image_kind kind ≡ true → IsGoodAs product count kind payload → HasRightImage kind product payload
good-image product count Frames payload image good = absurd (cc image)
good-image product count OldImage payload image good = record { text = tt; right = good }
good-image product count Image payload image good = record { text = tt; right = good }
good-image product count Amendment payload image good = record { text = good.text; right = good.image }

pub still-good : (product : ProductLists) (count other : ℕ) (kind : EntryKind) (payload : List ℕ) → is_image_kind kind ≡ true → IsGoodAs product count kind payload → IsGoodAs product other kind payload
still-good product count other Frames payload image good = absurd (cc image)
still-good product count other OldImage payload image good = good
still-good product count other Image payload image good = good
still-good product count other Amendment payload image good = good

-- it says the count and the state itself
pub same-count : (count other : ℕ) (kind : EntryKind) (payload : List ℕ) → is_image_kind kind ≡ true → count_as count kind payload ≡ count_as other kind payload
same-count count other Frames payload image = absurd (cc image)
same-count count other OldImage payload image = refl
same-count count other Image payload image = refl
same-count count other Amendment payload image = refl

pub image-count : (product : ProductLists) (count : ℕ) (kind : EntryKind) (payload : List ℕ) → is_image_kind kind ≡ true → image_fault (image_kind kind) product (image_in kind payload) ≡ None
    → count_as count kind payload ≡ (state_of_image (image_kind kind) product (image_in kind payload)).desk.messages
image-count product count Frames payload image right = absurd (cc image)
image-count product count OldImage payload image right = refl
image-count product count Image payload image right = sym (counted-front Image product payload right)
image-count product count Amendment payload image right = sym (counted-front Image product (amended_image payload) right)

pub image-state : (product : ProductLists) (state : State) (kind : EntryKind) (payload : List ℕ) → is_image_kind kind ≡ true → state_as product state kind payload ≡ state_of_image (image_kind kind) product (image_in kind payload)
image-state product state Frames payload image = absurd (cc image)
image-state product state OldImage payload image = refl
image-state product state Image payload image = refl
image-state product state Amendment payload image = refl

-- so was it read
pub image-counts : (count : ℕ) (kind : EntryKind) (given : List (List ℕ)) (core : State) (behind : ℕ) → is_image_kind kind ≡ true → CountsBehind count kind given core behind → (given ≡ []) × (behind ≡ core.desk.messages)
image-counts count Frames given core behind image counts = absurd (cc image)
image-counts count OldImage given core behind image counts = counts
image-counts count Image given core behind image counts = counts
image-counts count Amendment given core behind image counts = counts

pub counts-image : (count : ℕ) (kind : EntryKind) (given : List (List ℕ)) (core : State) (behind : ℕ) → is_image_kind kind ≡ true → given ≡ [] → behind ≡ core.desk.messages → CountsBehind count kind given core behind
counts-image count Frames given core behind image none counted = absurd (cc image)
counts-image count OldImage given core behind image none counted = (none, counted)
counts-image count Image given core behind image none counted = (none, counted)
counts-image count Amendment given core behind image none counted = (none, counted)
