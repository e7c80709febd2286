-- The payload of an amendment with a text and a book image: it gives both back, and how it is written.
use Rattle.std.proofs.Common.{◌≡◌, ℕ, ◌+◌, ◌≤◌, List, [], ◌-◌, ◌++◌, length, take, drop, refl, sym, ◌∙◌, ap, arith, append_assoc, append-nil, length-append}
use Rattle.std.specs.Int.{w32, from_be_bytes, to_be_bytes}
use Rattle.std.proofs.lemmas.List.{take_at, take-take, take-append-drop, drop_at, drop-drop, drop-take, drop_all, length-take-le}
use borrow.Rule.Slice.PartMut.{put_mid, post_of, Post-is}
use Rattle.std.proofs.lemmas.Nat.{from_be_bytes-to_be_bytes_4}
use Rattle.match_journal.specs.Texts.{HasText, text_size, amended_text, amended_image}
use Rattle.match_journal.specs.declared.limits.TheConstants.{MOST_TEXT}
use Rattle.match_journal.proofs.Records.{length-size}
use Rattle.book_recovery.specs.Records.{amendment_of}

module _ (text image : List ℕ) where
  pub length-amendment : length (amendment_of text image) ≡ 4 + length text + length image
  length-amendment = omega (arith, length-append (to_be_bytes w32 (length text)) (text ++ image), length-size (length text), length-append text image)

  behind-size : drop 4 (amendment_of text image) ≡ text ++ image
  behind-size = drop_at (to_be_bytes w32 (length text)) (text ++ image) 4 (length-size (length text))

  module _ (few : length text ≤ MOST_TEXT) where
    pub amendment-size : text_size (amendment_of text image) ≡ length text
    amendment-size =
        ap (from_be_bytes w32) (take_at (to_be_bytes w32 (length text)) (text ++ image) 4 (length-size (length text)))
        ∙ from_be_bytes-to_be_bytes_4 (length text) (omega (arith, few))

    pub amendment-has-text : HasText (amendment_of text image)
    amendment-has-text = record {
      few = omega (arith, few, amendment-size);
      inside = omega (arith, amendment-size, length-amendment);
    }

    pub amendment-text : amended_text (amendment_of text image) ≡ text
    amendment-text =
        ap (λ n. take n (drop 4 (amendment_of text image))) amendment-size
        ∙ ap (take (length text)) behind-size
        ∙ take_at text image (length text) refl

    pub amendment-image : amended_image (amendment_of text image) ≡ image
    amendment-image =
        ap (λ n. drop (4 + n) (amendment_of text image)) amendment-size
        ∙ sym (drop-drop (length text) 4 (amendment_of text image))
        ∙ ap (drop (length text)) behind-size
        ∙ drop_at text image (length text) refl

-- ---- written after its text

take-behind : (xs ys : List ℕ) (n : ℕ) → take (length xs + n) (xs ++ ys) ≡ xs ++ take n ys
take-behind xs ys n =
    sym (take-append-drop (length xs) (take (length xs + n) (xs ++ ys)))
    ∙ ap (λ (l : List ℕ). l ++ drop (length xs) (take (length xs + n) (xs ++ ys))) (take-take (length xs) (length xs + n) (xs ++ ys) (omega arith) ∙ take_at xs ys (length xs) refl)
    ∙ ap (λ (l : List ℕ). xs ++ l) (drop-take (length xs) n (xs ++ ys) ∙ ap (take n) (drop_at xs ys (length xs) refl))

-- where all after a front was written
take-put-behind : (front count : ℕ) (whole back : List ℕ) → front ≤ length whole → take (front + count) (put_mid front (length whole - front) whole back) ≡ take front whole ++ take count back
take-put-behind front count whole back inside =
    let none : post_of front (length whole - front) whole ≡ [] = Post-is front (length whole) whole inside ∙ drop_all (length whole) whole (omega arith) in
    ap (λ (l : List ℕ). take (front + count) (take front whole ++ (back ++ l))) none
    ∙ ap (λ (l : List ℕ). take (front + count) (take front whole ++ l)) (append-nil back)
    ∙ ap (λ n. take n (take front whole ++ back)) (omega (arith, length-take-le front whole inside))
    ∙ take-behind (take front whole) back count

-- an image after the length of a text and the text is an amendment's payload
pub written-amendment : (front count : ℕ) (whole back text image : List ℕ) → front ≤ length whole → take front whole ≡ to_be_bytes w32 (length text) ++ text → take count back ≡ image
    → take (front + count) (put_mid front (length whole - front) whole back) ≡ amendment_of text image
written-amendment front count whole back text image inside text_is image_is =
    take-put-behind front count whole back inside
    ∙ ap (λ (l : List ℕ). l ++ take count back) text_is
    ∙ ap (λ (l : List ℕ). (to_be_bytes w32 (length text) ++ text) ++ l) image_is
    ∙ append_assoc (to_be_bytes w32 (length text)) text image
