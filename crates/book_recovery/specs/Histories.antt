-- The history that the records of a journal keep, under one product after the other: when they are good, and when their images are true.
-- Our own rule.
use Rattle.std.specs.Prelude.{◌≡◌, ℕ, Bool, true, false, List, [], ◌∷◌, Result, Ok, Err}
use Rattle.std.specs.List.{AllByRecursion}
use Rattle.gx_base.specs.declared.trading.Trading.TheVariants.{Open}
use Rattle.fix_frame.specs.Stream.{messages_of}
use Rattle.product_file.specs.Products.{ProductLists}
use Rattle.product_file.specs.ProductTexts.{product_of}
use Rattle.product_file.specs.Amendments.{may_follow}
use Rattle.product_file.specs.declared.faults.ProductFault.{ProductFault}
use Rattle.order_kinds.specs.Histories.{History, amended, with_messages, state_kept}
use Rattle.book_image.specs.Image.{old_image_of, image_of}
use Rattle.match_journal.specs.Journal.{Record}
use Rattle.match_journal.specs.Texts.{HasText, amended_text, amended_image}
use Rattle.match_journal.specs.declared.entry.EntryKind.{EntryKind}
use Rattle.match_journal.specs.declared.entry.EntryKind.TheVariants.{Frames, OldImage, Image, Amendment}
use Rattle.book_recovery.specs.Records.{IsGoodAs, count_as}

-- ---- good records

-- The product after a payload of a kind, by that before it: that of an amendment's text, which may follow it, and else the same.
abbrev pub IsProductBehind : ProductLists → EntryKind → List ℕ → ProductLists → Type 0
IsProductBehind product Frames payload behind = behind ≡ product
IsProductBehind product OldImage payload behind = behind ≡ product
IsProductBehind product Image payload behind = behind ≡ product
IsProductBehind product Amendment payload behind = (product_of (amended_text payload) ≡ Ok behind) × (may_follow product behind ≡ Ok tt)

-- each is good under the product after it, by the count after those before it
abbrev pub AreGoodFrom : ProductLists → ℕ → List Record → Type 0
AreGoodFrom product count [] = Unit {0}
AreGoodFrom product count (r ∷ records) =
    (behind : ProductLists) × IsProductBehind product r.kind r.payload behind × IsGoodAs behind count r.kind r.payload
    × AreGoodFrom behind (count_as count r.kind r.payload) records

-- the texts of amendments end in their payloads, and give products that may follow each other
abbrev pub HaveProducts : ProductLists → List Record → Type 0
HaveProducts product [] = Unit {0}
HaveProducts product (r ∷ records) =
    (behind : ProductLists) × IsProductBehind product r.kind r.payload behind × (r.kind ≡ Amendment → HasText r.payload) × HaveProducts behind records

-- the products from that of a payload of a kind on, by those after it: an amendment has one of its own
abbrev pub products_as : EntryKind → ProductLists → List ProductLists → List ProductLists
products_as Frames behind later = later
products_as OldImage behind later = later
products_as Image behind later = later
products_as Amendment behind later = behind ∷ later

-- the products of the amendments in these records, in their order
abbrev pub products_in : (product : ProductLists) (records : List Record) → HaveProducts product records → List ProductLists
products_in product [] have = []
products_in product (r ∷ records) have = products_as r.kind have.0 (products_in have.0 records have.3)

-- each product may follow the one before it
abbrev pub FollowFrom : ProductLists → List ProductLists → Type 0
FollowFrom product [] = Unit {0}
FollowFrom product (next ∷ later) = (may_follow product next ≡ Ok tt) × FollowFrom next later

abbrev pub FollowEachOther : List ProductLists → Type 0
FollowEachOther [] = Unit {0}
FollowEachOther (first ∷ later) = FollowFrom first later

-- ---- the history

-- a history goes on under a product, if a text gives one
abbrev pub amended_by : History → Result ProductLists ProductFault → History
amended_by history (Ok product) = amended history product []
amended_by history (Err fault) = history

-- the history after a payload of a kind, by that before it
abbrev pub history_as : History → EntryKind → List ℕ → History
history_as history Frames payload = with_messages history (messages_of payload)
history_as history OldImage payload = history
history_as history Image payload = history
history_as history Amendment payload = amended_by history (product_of (amended_text payload))

-- the history after several records, by that before them
abbrev pub history_behind : History → List Record → History
history_behind history [] = history
history_behind history (r ∷ records) = history_behind (history_as history r.kind r.payload) records

-- ---- true records

-- A payload of a kind is true if this is the history after it: an image is that of the state there, and frames may be any. An old
-- image does not say the session: the market is open then.
abbrev pub IsTrueAs : History → EntryKind → List ℕ → Type 0
IsTrueAs history Frames payload = Unit {0}
IsTrueAs history OldImage payload = (payload ≡ old_image_of (state_kept history)) × ((state_kept history).trading ≡ Open)
IsTrueAs history Image payload = payload ≡ image_of (state_kept history)
IsTrueAs history Amendment payload = amended_image payload ≡ image_of (state_kept history)

-- each is true, by the history before it
abbrev pub AreTrueFrom : History → List Record → Type 0
AreTrueFrom history [] = Unit {0}
AreTrueFrom history (r ∷ records) =
    let behind = history_as history r.kind r.payload in
    IsTrueAs behind r.kind r.payload × AreTrueFrom behind records

-- ---- journals without amendments

abbrev pub is_amendment : EntryKind → Bool
is_amendment Frames = false
is_amendment OldImage = false
is_amendment Image = false
is_amendment Amendment = true

abbrev pub IsNoAmendment : Record → Type 0
IsNoAmendment r = is_amendment r.kind ≡ false

abbrev pub HaveNoAmendment : List Record → Type 0
HaveNoAmendment records = AllByRecursion IsNoAmendment records
