-- The body in a line, and the parts of a body again.
use Rattle.std.proofs.Common.{◌≡◌, ℕ, ◌+◌, ◌-◌, ◌^◌, ◌<◌, ◌≤◌, true, List, [], ◌∷◌, ◌++◌, length, take, decimal, refl, sym, ap, ◌∙◌, arith, append_assoc, length-append}
use Rattle.std.proofs.lemmas.Fmt.{decimal_is_IsNumeral}
use Rattle.std.proofs.lemmas.List.{take_at}
use Rattle.std.specs.List.{before_first, after_first, list_all}
use Rattle.std.specs.Prelude.{codes}
use Rattle.gx_base.specs.Frames.{soh, field, head_of, trailer_of, frame_of}
use Rattle.gx_base.specs.NameLists.{NameLists}
use Rattle.gx_base.specs.Line.{body_of}
use Rattle.gx_base.specs.declared.event.Event.{Event}
use Rattle.fix_frame.specs.FrameLaws.{behind_begin}
use Rattle.fix_request.specs.Fields.{is_soh}
use Rattle.fix_session.specs.Again.{again_body, again_line}
use Rattle.fix_session.proofs.Cuts.{is_other, after-text, digits_other}

-- ---- the body in a line

module _ (body : List ℕ) where
  abbrev digits : List ℕ
  digits = decimal (length body)

  abbrev trailer : List ℕ
  trailer = trailer_of (head_of (decimal (length body)) ++ body)

  behind_two : length body < 2 ^ 64 → after_first is_soh (after_first is_soh (frame_of digits body)) ≡ body ++ trailer
  behind_two small =
      let all : list_all is_other (57 ∷ 61 ∷ digits) ≡ true = digits_other digits (decimal_is_IsNumeral (length body) small).0.1 in
      ap (after_first is_soh) (after-text (codes "8=FIX.4.2") (57 ∷ 61 ∷ (((digits ++ 1 ∷ []) ++ body) ++ trailer)) refl)
      ∙ ap (λ (l : List ℕ). after_first is_soh (57 ∷ 61 ∷ l)) (behind_begin digits body trailer)
      ∙ after-text (57 ∷ 61 ∷ digits) (body ++ trailer) all

  length_front : length (frame_of digits body) ≡ length (head_of digits) + length body + 7
  length_front =
      let tail : length trailer ≡ 7 = refl in
      omega (arith, tail, length-append (head_of digits ++ body) trailer, length-append (head_of digits) body)

  pub cut_out : (line b1 b2 : List ℕ) (n : ℕ) → line ≡ frame_of digits body → length line ≤ 1024 → b1 ≡ after_first is_soh line → b2 ≡ after_first is_soh b1 → n ≡ length b2 - 7 → take n b2 ≡ body
  cut_out line b1 b2 n is short first second count =
      let few : length body < 2 ^ 64 = omega (arith, short, ap length is, length_front) in
      let there : b2 ≡ body ++ trailer = second ∙ ap (after_first is_soh) (first ∙ ap (after_first is_soh) is) ∙ behind_two few in
      let tail : length trailer ≡ 7 = refl in
      let n_is : n ≡ length body = omega (arith, count, ap length there, length-append body trailer, tail) in
      ap (λ (l : List ℕ). take n l) there ∙ take_at body trailer n (sym n_is)

-- ---- a body again

pub again_parts : (body time type line exchange rest b1 b2 b3 out : List ℕ) → type ≡ before_first is_soh body → b1 ≡ after_first is_soh body
    → line ≡ before_first is_soh b1 → b2 ≡ after_first is_soh b1 → exchange ≡ before_first is_soh b2 → b3 ≡ after_first is_soh b2 → rest ≡ after_first is_soh b3
    → out ≡ (((((type ++ soh ∷ []) ++ (line ++ soh ∷ [])) ++ field "43" (codes "Y")) ++ (exchange ++ soh ∷ [])) ++ field "52" time) ++ rest
    → out ≡ again_body time body
again_parts body time type line exchange rest b1 b2 b3 out p1 p2 p3 p4 p5 p6 p7 is =
    is ∙ in_a_row (type ++ soh ∷ []) (line ++ soh ∷ []) (field "43" (codes "Y")) (exchange ++ soh ∷ []) (field "52" time) rest
    ∙ rw (p7, p6, p5, p4, p3, p2, p1) refl
  where
    in_a_row : (a b c d e f : List ℕ) → ((((a ++ b) ++ c) ++ d) ++ e) ++ f ≡ a ++ b ++ c ++ d ++ e ++ f
    in_a_row a b c d e f = simp append_assoc

pub six_in_a_row : (a b c d e f l1 l2 l3 l4 l5 l6 : List ℕ) → l1 ≡ a → l2 ≡ l1 ++ b → l3 ≡ l2 ++ c → l4 ≡ l3 ++ d → l5 ≡ l4 ++ e → l6 ≡ l5 ++ f → l6 ≡ ((((a ++ b) ++ c) ++ d) ++ e) ++ f
six_in_a_row a b c d e f l1 l2 l3 l4 l5 l6 p1 p2 p3 p4 p5 p6 = rw (p6, p5, p4, p3, p2, p1) refl

-- a line again, by its steps
pub again_is : (names : NameLists) (time : List ℕ) (event : Event) (body again whole : List ℕ) → body ≡ body_of names event → again ≡ again_body time body → whole ≡ frame_of (decimal (length again)) again → whole ≡ again_line names time event
again_is names time event body again whole body_is same whole_is =
    whole_is ∙ ap (λ (b : List ℕ). frame_of (decimal (length b)) b) (same ∙ ap (again_body time) body_is)

-- what is written of the body that is cut out is the body again
pub again_body_is : (time body cut again : List ℕ) → cut ≡ body → again ≡ again_body time cut → again ≡ again_body time body
again_body_is time body cut again cut_is is = is ∙ ap (again_body time) cut_is
