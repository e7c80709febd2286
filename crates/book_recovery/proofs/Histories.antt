-- The histories that the records of a journal keep: their products, their count of messages, and the last text.
use Rattle.std.proofs.Common.{◌≡◌, ℕ, ◌+◌, false, List, [], ◌∷◌, ◌++◌, length, Option, None, Result, Ok, Err, refl, sym, subst, ap, ◌∙◌, arith, length-append}
use Rattle.fix_frame.specs.Stream.{messages_of}
use Rattle.product_file.specs.Products.{ProductLists}
use Rattle.product_file.specs.ProductTexts.{product_of}
use Rattle.product_file.specs.Amendments.{may_follow}
use Rattle.product_file.specs.declared.faults.ProductFault.{ProductFault}
use Rattle.product_file.proofs.RightTexts.{product_of_text_is_right}
use Rattle.order_kinds.specs.Histories.{History, of_product, amended, with_messages, last_product, length_kept, IsHistory, AreRightProducts}
use Rattle.match_journal.specs.Journal.{Header, Record}
use Rattle.match_journal.specs.Texts.{PlacedAmendment, amended_text, amendment_as, amendment_behind, text_by, last_text}
use Rattle.match_journal.specs.declared.entry.EntryKind.{EntryKind}
use Rattle.match_journal.specs.declared.entry.EntryKind.TheVariants.{Frames, OldImage, Image, Amendment}
use Rattle.book_recovery.specs.Records.{is_image_kind, is_image, has_image, messages_as, record_messages, messages_in, count_as, GivesAs}
use Rattle.book_recovery.specs.Histories.{IsProductBehind, AreGoodFrom, HaveProducts, amended_by, history_as, history_behind}
use Rattle.book_recovery.proofs.LastImages.{or-none}

-- ---- records that are added

pub behind-append : (h : History) (xs ys : List Record) → history_behind h (xs ++ ys) ≡ history_behind (history_behind h xs) ys
behind-append h [] ys = refl
behind-append h (x ∷ xs) ys = behind-append (history_as h x.kind x.payload) xs ys

-- ---- further messages

pub with-last : (h : History) (more : List (List ℕ)) → last_product (with_messages h more) ≡ last_product h
with-last (of_product product messages) more = refl
with-last (amended before product messages) more = refl

pub with-count : (h : History) (more : List (List ℕ)) → length_kept (with_messages h more) ≡ length_kept h + length more
with-count (of_product product messages) more = length-append messages more
with-count (amended before product messages) more = omega (arith, length-append messages more)

with-follow : (h : History) (more : List (List ℕ)) → IsHistory h → IsHistory (with_messages h more)
with-follow (of_product product messages) more follow = tt
with-follow (amended before product messages) more follow = follow

with-right : (h : History) (more : List (List ℕ)) → AreRightProducts h → AreRightProducts (with_messages h more)
with-right (of_product product messages) more right = right
with-right (amended before product messages) more right = right

-- ---- how many messages there are

by-count : (h : History) (given : Result ProductLists ProductFault) → length_kept (amended_by h given) ≡ length_kept h + 0
by-count h (Ok product) = refl
by-count h (Err fault) = omega arith

pub as-count : (h : History) (kind : EntryKind) (payload : List ℕ) → length_kept (history_as h kind payload) ≡ length_kept h + length (messages_as kind payload)
as-count h Frames payload = with-count h (messages_of payload)
as-count h OldImage payload = omega arith
as-count h Image payload = omega arith
as-count h Amendment payload = by-count h (product_of (amended_text payload))

pub behind-count : (h : History) (records : List Record) → length_kept (history_behind h records) ≡ length_kept h + length (messages_in records)
behind-count h [] = omega arith
behind-count h (r ∷ records) =
    omega (arith, behind-count (history_as h r.kind r.payload) records, as-count h r.kind r.payload, length-append (record_messages r) (messages_in records))

-- ---- the products of records

-- texts give the products of the amendments among these records, and each may follow the one before it
abbrev pub AreAmended : ProductLists → List Record → Type 0
AreAmended product [] = Unit {0}
AreAmended product (r ∷ records) = (behind : ProductLists) × IsProductBehind product r.kind r.payload behind × AreAmended behind records

pub good-amended : (product : ProductLists) (count : ℕ) (records : List Record) → AreGoodFrom product count records → AreAmended product records
good-amended product count [] good = tt
good-amended product count (r ∷ records) good = (good.0, good.1, good-amended good.0 (count_as count r.kind r.payload) records good.3)

pub products-amended : (product : ProductLists) (records : List Record) → HaveProducts product records → AreAmended product records
products-amended product [] products = tt
products-amended product (r ∷ records) products = (products.0, products.1, products-amended products.0 records products.3)

pub amended-front : (product : ProductLists) (xs ys : List Record) → AreAmended product (xs ++ ys) → AreAmended product xs
amended-front product [] ys are = tt
amended-front product (x ∷ xs) ys are = (are.0, are.1, amended-front are.0 xs ys are.2)

-- ---- the last product of a history

by-last : (h : History) (behind : ProductLists) (given : Result ProductLists ProductFault) → given ≡ Ok behind → last_product (amended_by h given) ≡ behind
by-last h behind given is = ap (λ (r : Result ProductLists ProductFault). last_product (amended_by h r)) is

pub as-last : (product behind : ProductLists) (h : History) (kind : EntryKind) (payload : List ℕ) → last_product h ≡ product → IsProductBehind product kind payload behind → last_product (history_as h kind payload) ≡ behind
as-last product behind h Frames payload last is = with-last h (messages_of payload) ∙ last ∙ sym is
as-last product behind h OldImage payload last is = last ∙ sym is
as-last product behind h Image payload last is = last ∙ sym is
as-last product behind h Amendment payload last is = by-last h behind (product_of (amended_text payload)) is.0

-- frames leave it
as-frames : (h : History) (kind : EntryKind) (payload : List ℕ) → is_image_kind kind ≡ false → last_product (history_as h kind payload) ≡ last_product h
as-frames h Frames payload frames = with-last h (messages_of payload)
as-frames h OldImage payload frames = absurd (cc frames)
as-frames h Image payload frames = absurd (cc frames)
as-frames h Amendment payload frames = absurd (cc frames)

pub last-frames : (h : History) (records : List Record) → has_image records ≡ false → last_product (history_behind h records) ≡ last_product h
last-frames h [] none = refl
last-frames h (r ∷ records) none =
    let split = or-none (is_image r) (has_image records) none in
    last-frames (history_as h r.kind r.payload) records split.1 ∙ as-frames h r.kind r.payload split.0

pub behind-frames : (product behind : ProductLists) (kind : EntryKind) (payload : List ℕ) → is_image_kind kind ≡ false → IsProductBehind product kind payload behind → behind ≡ product
behind-frames product behind Frames payload frames is = is
behind-frames product behind OldImage payload frames is = is
behind-frames product behind Image payload frames is = is
behind-frames product behind Amendment payload frames is = absurd (cc frames)

-- ---- histories under a product

-- The last product is this one. Each product is right, and may follow the one before it.
pub record IsUnder (product : ProductLists) (h : History) : Type 0 where
  pub last : last_product h ≡ product
  pub follow : IsHistory h
  pub right : AreRightProducts h

pub under-first : (text : List ℕ) (first : ProductLists) (messages : List (List ℕ)) → product_of text ≡ Ok first → IsUnder first (of_product first messages)
under-first text first messages gives = record { last = refl; follow = tt; right = product_of_text_is_right text first gives }

pub under-as : (product behind : ProductLists) (h : History) (kind : EntryKind) (payload : List ℕ) → IsUnder product h → IsProductBehind product kind payload behind → IsUnder behind (history_as h kind payload)
under-as product behind h Frames payload under is = record {
  last = as-last product behind h Frames payload under.last is;
  follow = with-follow h (messages_of payload) under.follow;
  right = with-right h (messages_of payload) under.right;
}
under-as product behind h OldImage payload under is = record { last = under.last ∙ sym is; follow = under.follow; right = under.right }
under-as product behind h Image payload under is = record { last = under.last ∙ sym is; follow = under.follow; right = under.right }
under-as product behind h Amendment payload under is =
    let next : IsUnder behind (amended h behind []) = record {
      last = refl;
      follow = (under.follow, subst (λ (p : ProductLists). may_follow p behind ≡ Ok tt) (sym under.last) is.1);
      right = (under.right, product_of_text_is_right (amended_text payload) behind is.0);
    } in
    subst (λ (r : Result ProductLists ProductFault). IsUnder behind (amended_by h r)) (sym is.0) next

pub under-behind : (product : ProductLists) (h : History) (records : List Record) → IsUnder product h → AreAmended product records → IsUnder (last_product (history_behind h records)) (history_behind h records)
under-behind product h [] under are = record { last = refl; follow = under.follow; right = under.right }
under-behind product h (r ∷ records) under are =
    under-behind are.0 (history_as h r.kind r.payload) records (under-as product are.0 h r.kind r.payload under are.1) are.2

-- ---- the last text

text-as : (head : Header) (last : Option PlacedAmendment) (gate : ℕ) (product behind : ProductLists) (kind : EntryKind) (payload : List ℕ) → product_of (text_by head last).bytes ≡ Ok product
    → IsProductBehind product kind payload behind → product_of (text_by head (amendment_as last gate kind payload)).bytes ≡ Ok behind
text-as head last gate product behind Frames payload gives is = gives ∙ ap Ok (sym is)
text-as head last gate product behind OldImage payload gives is = gives ∙ ap Ok (sym is)
text-as head last gate product behind Image payload gives is = gives ∙ ap Ok (sym is)
text-as head last gate product behind Amendment payload gives is = is.0

texts-give : (head : Header) (last : Option PlacedAmendment) (gate : ℕ) (product : ProductLists) (h : History) (records : List Record) → product_of (text_by head last).bytes ≡ Ok product → last_product h ≡ product
    → AreAmended product records → product_of (text_by head (amendment_behind last gate records)).bytes ≡ Ok (last_product (history_behind h records))
texts-give head last gate product h [] gives is are = gives ∙ ap Ok (sym is)
texts-give head last gate product h (r ∷ records) gives is are =
    texts-give head (amendment_as last gate r.kind r.payload) (gate + (6 + length r.payload)) are.0 (history_as h r.kind r.payload) records
    (text-as head last gate product are.0 r.kind r.payload gives are.1) (as-last product are.0 h r.kind r.payload is are.1) are.2

-- it gives the last product
pub last-gives : (head : Header) (first : ProductLists) (records : List Record) → product_of head.text ≡ Ok first → AreAmended first records
    → product_of (last_text head records).bytes ≡ Ok (last_product (history_behind (of_product first []) records))
last-gives head first records gives are = texts-give head None (13 + length head.text) first (of_product first []) records gives refl are

pub one-product : (a b : ProductLists) (text : List ℕ) → product_of text ≡ Ok a → product_of text ≡ Ok b → a ≡ b
one-product a b text gives gives' = let same : ◌≡◌ {A = Result ProductLists ProductFault} (Ok a) (Ok b) = sym gives ∙ gives' in cc same

-- ---- the text of the last image, if it is that of an amendment

same-amendment : (last : Option PlacedAmendment) (gate : ℕ) (kind : EntryKind) (payload : List ℕ) → is_image_kind kind ≡ false → amendment_as last gate kind payload ≡ last
same-amendment last gate Frames payload frames = refl
same-amendment last gate OldImage payload frames = absurd (cc frames)
same-amendment last gate Image payload frames = absurd (cc frames)
same-amendment last gate Amendment payload frames = absurd (cc frames)

same-behind : (last : Option PlacedAmendment) (gate : ℕ) (records : List Record) → has_image records ≡ false → amendment_behind last gate records ≡ last
same-behind last gate [] none = refl
same-behind last gate (r ∷ records) none =
    let split = or-none (is_image r) (has_image records) none in
    same-behind (amendment_as last gate r.kind r.payload) (gate + (6 + length r.payload)) records split.1 ∙ same-amendment last gate r.kind r.payload split.0

own-gives : (head : Header) (last : Option PlacedAmendment) (gate : ℕ) (product : ProductLists) (kind : EntryKind) (payload : List ℕ) → product_of (text_by head (amendment_as last gate kind payload)).bytes ≡ Ok product → GivesAs product kind payload
own-gives head last gate product Frames payload gives = tt
own-gives head last gate product OldImage payload gives = tt
own-gives head last gate product Image payload gives = tt
own-gives head last gate product Amendment payload gives = gives

one-gives : (head : Header) (last : Option PlacedAmendment) (gate : ℕ) (product : ProductLists) (before : List Record) (r : Record) (more : List Record) → has_image more ≡ false
    → product_of (text_by head (amendment_behind last gate (before ++ r ∷ more))).bytes ≡ Ok product → GivesAs product r.kind r.payload
one-gives head last gate product [] r more none gives =
    own-gives head last gate product r.kind r.payload
    (subst (λ (l : Option PlacedAmendment). product_of (text_by head l).bytes ≡ Ok product) (same-behind (amendment_as last gate r.kind r.payload) (gate + (6 + length r.payload)) more none) gives)
one-gives head last gate product (x ∷ before) r more none gives =
    one-gives head (amendment_as last gate x.kind x.payload) (gate + (6 + length x.payload)) product before r more none gives

-- no image comes after this record: if it is an amendment, it has the last text
pub image-gives : (head : Header) (product : ProductLists) (before : List Record) (r : Record) (more : List Record) → has_image more ≡ false
    → product_of (last_text head (before ++ r ∷ more)).bytes ≡ Ok product → GivesAs product r.kind r.payload
image-gives head product before r more none gives = one-gives head None (13 + length head.text) product before r more none gives
