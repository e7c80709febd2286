use Rattle.std.proofs.Common.{◌≡◌, ℕ, ◌-◌, ◌≤◌, ◌++◌, List, length, take, drop, sym, ap, ◌∙◌, length-drop, arith}
use Rattle.std.proofs.lemmas.Bool.Decides.{same_from_decides}
use Rattle.std.proofs.lemmas.List.{take-append-drop, take-take, take_all}
use Rattle.std.proofs.lemmas.Slice.Eq.{bytes_eq-Decides}
use Rattle.gx_base.proofs.names.are_same_ends.Goals as goal

-- the first few and the rest tell the whole
same_whole : (start width : ℕ) (xs ys : List ℕ) → start ≤ width → take width xs ≡ take width ys → drop start xs ≡ drop start ys → xs ≡ ys
same_whole start width xs ys within front back =
    let head : take start xs ≡ take start ys = sym (take-take start width xs within) ∙ ap (take start) front ∙ take-take start width ys within in
    sym (take-append-drop start xs)
    ∙ ap (λ (l : List ℕ). l ++ drop start xs) head
    ∙ ap (λ (l : List ℕ). take start ys ++ l) back
    ∙ take-append-drop start ys

pub returns-then-is_same_word : goal.returns-then-is_same_word
returns-then-is_same_word c =
    let left : List ℕ = c.args.left.now in
    let right : List ℕ = c.args.right.now in
    let start : ℕ = length left - 4 in
    let front : take 4 left ≡ take 4 right = (bytes_eq-Decides (take 4 left) (take 4 right)).0 (sym c.is_same_word.ensures ∙ c.if-is_same_word.true) in
    let rest_left : take (length left - start) (drop start left) ≡ drop start left = take_all _ (drop start left) (omega (arith, length-drop start left)) in
    let rest_right : take (length right - start) (drop start right) ≡ drop start right = take_all _ (drop start right) (omega (arith, length-drop start right)) in
    let tells = bytes_eq-Decides (take (length left - start) (drop start left)) (take (length right - start) (drop start right)) in
    let backs = c.is_same_word-then-is_same_word.ensures in
    same_from_decides _ _ (
      λ yes. same_whole start 4 left right (omega arith) front (sym rest_left ∙ tells.0 (sym backs ∙ yes) ∙ rest_right),
      λ same. backs ∙ tells.1 (rest_left ∙ ap (drop start) same ∙ sym rest_right),
    )
    (bytes_eq-Decides left right)
