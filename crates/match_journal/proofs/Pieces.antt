-- A text that is compared in pieces.
use Rattle.std.proofs.Common.{◌≡◌, ◌≢◌, inl, inr, ⊎_elim, ℕ, ◌+◌, ◌-◌, ◌<◌, ◌≤◌, min, List, length, take, drop, sym, ◌∙◌, ap, arith, length-drop}
use Rattle.std.proofs.lemmas.List.{take-take, drop-take, drop-drop, length-take-le}
use Rattle.std.proofs.lemmas.Bool.{cases_lt}
use Rattle.match_journal.specs.Classes.{first_difference}
use Rattle.match_journal.proofs.Texts.{fd_more, fd_here, fd_other, fd_same, fd_ended}

module _ (image text product part : List ℕ) (front size at count same : ℕ) (text_is : take size (drop front image) ≡ text) (long : length text ≡ size) (in_text : at + count ≤ size) (in_product : at + count ≤ length product)
    (so_far : first_difference text product ≡ at + first_difference (drop at text) (drop at product))
    (part_is : part ≡ take count (drop at product)) (same_is : same ≡ first_difference (take (length part) (drop (front + at) image)) part) where
  piece : take count (drop (front + at) image) ≡ take count (drop at text)
  piece =
      sym (ap (take count) (ap (drop at) (sym text_is ∙ ap (λ k. take k (drop front image)) (omega (arith, in_text))) ∙ drop-take at (size - at) (drop front image)) ∙ take-take count (size - at) (drop at (drop front image)) (omega (arith, in_text)) ∙ ap (take count) (drop-drop at front image))

  long_part : length part ≡ count
  long_part = ap length part_is ∙ length-take-le count (drop at product) (omega (arith, length-drop at product, in_product))

  same_pieces : same ≡ first_difference (take count (drop at text)) (take count (drop at product))
  same_pieces =
      same_is
      ∙ ap (λ k. first_difference (take k (drop (front + at) image)) part) long_part
      ∙ ap (λ (l : List ℕ). first_difference l part) piece
      ∙ ap (first_difference (take count (drop at text))) part_is

  in_text' : count ≤ length (drop at text)
  in_text' = omega (arith, length-drop at text, long, in_text)

  in_product' : count ≤ length (drop at product)
  in_product' = omega (arith, length-drop at product, in_product)

  here : same < count → at + same ≡ first_difference text product
  here less = omega (arith, so_far, same_pieces, fd_here count (drop at text) (drop at product) in_text' in_product' (omega (arith, less, same_pieces)))

  pub piece_differs : same < count → (text ≢ product) × (at + same ≡ first_difference text product)
  piece_differs less = (fd_other text product (omega (arith, here less, less, long, in_text)), here less)

  pub piece_same : same ≡ count → first_difference text product ≡ at + same + first_difference (drop (at + same) text) (drop (at + same) product)
  piece_same whole =
      let more = fd_more count (drop at text) (drop at product) in_text' in_product' (sym same_pieces ∙ whole) in
      let behind : first_difference (drop count (drop at text)) (drop count (drop at product)) ≡ first_difference (drop (at + same) text) (drop (at + same) product) =
      ap (λ (l : List ℕ). first_difference l (drop count (drop at product))) (drop-drop count at text)
      ∙ ap (first_difference (drop (at + count) text)) (drop-drop count at product)
      ∙ ap (λ k. first_difference (drop (at + k) text) (drop (at + k) product)) (sym whole) in
      omega (arith, so_far, more, behind, whole)

-- all was compared
module _ (text product : List ℕ) (size at : ℕ) (long : length text ≡ size) (ended : at ≡ min size (length product)) (so_far : first_difference text product ≡ at + first_difference (drop at text) (drop at product)) where
  none : first_difference (drop at text) (drop at product) ≡ 0
  none = fd_ended text product at (⊎_elim (λ lt. inl (omega (arith, lt, ended, long))) (λ le. inr (omega (arith, le, ended, long))) (cases_lt size (length product)))

  pub pieces_same : size ≡ length product → text ≡ product
  pieces_same same = fd_same text product (omega (arith, so_far, none, ended, same, long)) (long ∙ same)

  pub pieces_differ : size ≢ length product → (text ≢ product) × (at ≡ first_difference text product)
  pieces_differ other = (λ same. other (sym long ∙ ap length same), omega (arith, so_far, none))
