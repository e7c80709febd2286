-- A record in the buffer.
use Rattle.std.proofs.Common.{◌≡◌, ℕ, ◌+◌, ◌-◌, ◌≤◌, List, [], ◌∷◌, ◌++◌, length, take, drop, sym, ◌∙◌, ap, arith, append_assoc, length-drop}
use Rattle.std.specs.Prelude.{slice_set}
use Rattle.std.specs.Int.{w32, to_be_bytes}
use Rattle.std.proofs.lemmas.List.{length-set, length-take-le}
use Rattle.std.proofs.lemmas.Grind.{take-set_at}
use Rattle.std.proofs.lemmas.Slice.{take-put_mid}
use borrow.Rule.Slice.PartMut.{put_mid, same_len_mid}
use Rattle.match_journal.specs.Journal.{Record, kind_byte}
use Rattle.match_journal.specs.Inner.Stores.{staged}
use Rattle.match_journal.proofs.Records.{length-size}

length-put : (a k : ℕ) (xs ys : List ℕ) → a + k ≤ length xs → length ys ≡ k → length (put_mid a k xs ys) ≡ length xs
length-put a k xs ys inside size = same_len_mid a k xs ys (size ∙ sym (length-take-le k (drop a xs) (omega (arith, length-drop a xs, inside))))

module _ (buffer : List ℕ) (r : Record) (byte : ℕ) (size body : List ℕ) (room : length r.payload + 6 ≤ length buffer) (byte_is : byte ≡ kind_byte r.kind) (size_is : size ≡ to_be_bytes w32 (length r.payload)) (body_is : body ≡ r.payload) where
  abbrev with_kind : List ℕ
  with_kind = slice_set buffer 0 byte

  abbrev with_size : List ℕ
  with_size = put_mid 1 4 with_kind size

  abbrev with_body : List ℕ
  with_body = put_mid 5 (5 + length r.payload - 5) with_size body

  four : length size ≡ 4
  four = ap length size_is ∙ length-size (length r.payload)

  long_kind : length with_kind ≡ length buffer
  long_kind = length-set buffer 0 byte

  long_size : length with_size ≡ length buffer
  long_size = length-put 1 4 with_kind size (omega (arith, long_kind, room)) four ∙ long_kind

  long_body : length with_body ≡ length buffer
  long_body = length-put 5 (5 + length r.payload - 5) with_size body (omega (arith, long_size, room)) (omega (arith, ap length body_is)) ∙ long_size

  pub staged_in : take (length r.payload + 6) (slice_set with_body (5 + length r.payload) 0) ≡ staged r
  staged_in =
      take-set_at with_body (5 + length r.payload) (length r.payload + 6) 0 (omega arith) (omega (arith, long_body, room))
      ∙ ap (λ (l : List ℕ). l ++ 0 ∷ []) (take-put_mid 5 (5 + length r.payload - 5) with_size body (5 + length r.payload) (omega (arith, ap length body_is)) (omega (arith, long_size, room)))
      ∙ ap (λ (l : List ℕ). (l ++ body) ++ 0 ∷ []) (take-put_mid 1 4 with_kind size 5 (omega (arith, four)) (omega (arith, long_kind, room)))
      ∙ ap (λ (l : List ℕ). ((l ++ size) ++ body) ++ 0 ∷ []) (take-set_at buffer 0 1 byte (omega arith) (omega (arith, room)))
      ∙ append_assoc (byte ∷ size) body (0 ∷ [])
      ∙ ap (λ (l : List ℕ). byte ∷ (size ++ (l ++ 0 ∷ []))) body_is
      ∙ ap (λ (l : List ℕ). byte ∷ (l ++ (r.payload ++ 0 ∷ []))) size_is
      ∙ ap (λ b. b ∷ (to_be_bytes w32 (length r.payload) ++ (r.payload ++ 0 ∷ []))) byte_is
