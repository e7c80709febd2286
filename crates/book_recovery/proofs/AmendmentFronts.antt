-- The text of an amendment, by the front of its payload.
use Rattle.std.proofs.Common.{◌≡◌, ⊎_elim, ℕ, ◌+◌, List, ◌++◌, length, take, drop, min, Result, Ok, Err, refl, sym, subst, ◌∙◌, ap, arith, length-append, length-drop}
use Rattle.std.specs.Int.{w32, from_be_bytes}
use Rattle.std.proofs.lemmas.List.{take-take, take-append-le, take-append-drop, drop-append-le, take_all, length-take-le}
use Rattle.std.proofs.lemmas.Bool.Decides.{leb_tells}
use Rattle.match_journal.specs.Texts.{HasText, text_size, amended_text}
use Rattle.match_journal.specs.declared.limits.TheConstants.{MOST_TEXT}
use Rattle.match_journal.specs.Standing.{Fits}
use Rattle.match_journal.specs.declared.entry.Entry.{Entry}
use Rattle.product_file.specs.Products.{ProductLists}
use Rattle.book_recovery.specs.Inner.Keeping.{IsKept, CannotBeKept, KeepsProduct, KeepsAmended}
use Rattle.book_recovery.specs.Inner.Replays.{payload_at}
use Rattle.book_recovery.specs.declared.products.NoProducts.{NoProducts}
use Rattle.book_recovery.specs.declared.products.NoProducts.TheVariants as none
use Rattle.book_recovery.proofs.Payloads.{payload-length, front_of}

-- the front tells all of the text
pub record IsFront (payload front : List ℕ) : Type 0 where
  pub whole : HasText front → HasText payload
  pub there : HasText payload → HasText front
  pub same : HasText payload → amended_text front ≡ amended_text payload

front-itself : (payload front : List ℕ) → front ≡ payload → IsFront payload front
front-itself payload front is = record {
  whole = λ has. subst HasText is has;
  there = λ has. subst HasText (sym is) has;
  same = λ has. ap amended_text is;
}

-- with something after it
front-long : (front behind : List ℕ) → length front ≡ 4 + MOST_TEXT → IsFront (front ++ behind) front
front-long front behind long =
    let size : text_size (front ++ behind) ≡ text_size front = ap (from_be_bytes w32) (take-append-le 4 front behind (omega (arith, long))) in
    record {
      whole = λ has. record { few = omega (arith, size, has.few); inside = omega (arith, size, has.inside, length-append front behind) };
      there = λ has. record { few = omega (arith, size, has.few); inside = omega (arith, size, has.few, long) };
      same = λ has.
          sym (
          ap (λ n. take n (drop 4 (front ++ behind))) size
          ∙ ap (take (text_size front)) (drop-append-le 4 front behind (omega (arith, long)))
          ∙ take-append-le (text_size front) (drop 4 front) behind (omega (arith, size, has.few, long, length-drop 4 front))
          );
    }

pub front-of-text : (payload : List ℕ) (count : ℕ) → count ≡ min (length payload) (4 + MOST_TEXT) → IsFront payload (take count payload)
front-of-text payload count is =
    ⊎_elim
    (λ t. front-itself payload (take count payload) (take_all count payload (omega (arith, is, t.1))))
    (λ t.
    subst (λ (l : List ℕ). IsFront l (take count payload)) (take-append-drop count payload)
    (front-long (take count payload) (drop count payload) (length-take-le count payload (omega (arith, is, t.1)) ∙ omega (arith, is, t.1))))
    (leb_tells (length payload) (4 + MOST_TEXT))

-- it was read, and stands at the front of the memory
pub front-read : (image : List ℕ) (known limit : ℕ) (entry : Entry) → Fits known limit entry → length image ≡ known → (count : ℕ) → count ≡ min entry.length (4 + MOST_TEXT)
    → (bytes post : List ℕ) → bytes ≡ take count (drop (entry.at + 6) image) → IsFront (payload_at image entry) (take count (bytes ++ post))
front-read image known limit entry fits long count count_is bytes post is =
    let behind = drop (entry.at + 6) image in
    let size : length bytes ≡ count = ap length is ∙ length-take-le count behind (omega (arith, count_is, length-drop (entry.at + 6) image, fits.inside, long)) in
    let all = payload-length image known limit entry fits long in
    subst (IsFront (payload_at image entry)) (sym (front_of bytes post count size ∙ is ∙ sym (take-take count entry.length behind (omega (arith, count_is)))))
    (front-of-text (payload_at image entry) count (count_is ∙ ap (λ n. min n (4 + MOST_TEXT)) (sym all)))

-- what is answered to one who keeps the product of its text
module _ (payload front : List ℕ) (is : IsFront payload front) (gate : ℕ) (old new : List ProductLists) where
  pub front-kept : (text : List ℕ) → HasText front → text ≡ amended_text front → (r : Result (Unit {0}) NoProducts) → KeepsProduct text gate old new r → KeepsAmended payload gate old new r
  front-kept text has same (Ok t) told = (is.whole has, subst (λ (l : List ℕ). IsKept l old new) (same ∙ is.same (is.whole has)) told)
  front-kept text has same (Err none.Store) told = tt
  front-kept text has same (Err none.NoMemory) told = tt
  front-kept text has same (Err (none.Bad at)) told = (told.0, λ whole. subst (λ (l : List ℕ). CannotBeKept l old) (same ∙ is.same whole) told.1)

  pub front-not-kept : (HasText front → ⊥) → KeepsAmended payload gate old new (Err (none.Bad gate))
  front-not-kept never = (refl, λ whole. absurd (never (is.there whole)))
