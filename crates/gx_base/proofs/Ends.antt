-- The first few of some bytes and the last few, which overlap, are all of them.
use Rattle.std.proofs.Common.{◌≡◌, ℕ, ◌+◌, ◌-◌, ◌≤◌, Bool, true, false, ◌&&◌, List, ◌++◌, length, take, drop, refl, sym, ap, ◌∙◌, append_assoc, length-append, length-drop, arith}
use Rattle.std.proofs.lemmas.List.{take-append-drop, drop-append-le, take-append-le, take-take, drop-drop, length-take-le, take_all}
use Rattle.std.proofs.lemmas.List.Folds.{list_all-append}
use Rattle.std.proofs.lemmas.Slice.{drop-append-drop}
use Rattle.std.proofs.lemmas.Simd.{pick_l_whole, length-chunk}
use Rattle.std.specs.Simd.Lanes.{chunk, pick_l}
use Rattle.std.specs.List.{list_all, range_with_len}

twice : (a b c : Bool) → ((a && b) && c) ≡ ((a && b) && (b && c))
twice true true c = refl
twice true false c = refl
twice false b c = refl

-- what is in both is tried twice
overlap : (p : ℕ → Bool) (front rest : List ℕ) (a : ℕ) → a ≤ length front → list_all p (front ++ rest) ≡ (list_all p front && list_all p (drop a (front ++ rest)))
overlap p front rest a inside =
    let both : list_all p front ≡ (list_all p (take a front) && list_all p (drop a front)) =
    ap (list_all p) (sym (take-append-drop a front)) ∙ list_all-append p (take a front) (drop a front) in
    let back : list_all p (drop a (front ++ rest)) ≡ (list_all p (drop a front) && list_all p rest) =
    ap (list_all p) (drop-append-le a front rest inside) ∙ list_all-append p (drop a front) rest in
    list_all-append p front rest
    ∙ ap (λ b. b && list_all p rest) both
    ∙ twice (list_all p (take a front)) (list_all p (drop a front)) (list_all p rest)
    ∙ sym (ap (λ b. b && (list_all p (drop a front) && list_all p rest)) both)
    ∙ sym (ap (λ b. list_all p front && b) back)

pub tried : (p : ℕ → Bool) (width : ℕ) (xs : List ℕ) → width ≤ length xs → length xs ≤ width + width
    → list_all p xs ≡ (list_all p (take width xs) && list_all p (drop (length xs - width) xs))
tried p width xs wide narrow =
    let whole : take width xs ++ drop width xs ≡ xs = take-append-drop width xs in
    let a : ℕ = length xs - width in
    sym (ap (list_all p) whole)
    ∙ overlap p (take width xs) (drop width xs) a (omega (arith, length-take-le width xs wide))
    ∙ ap (λ l. list_all p (take width xs) && list_all p (drop a l)) whole

pub tried_as_one : (p : ℕ → Bool) (width : ℕ) (xs : List ℕ) → width ≤ length xs → length xs ≤ width + width
    → list_all p (take width xs ++ drop (length xs - width) xs) ≡ list_all p xs
tried_as_one p width xs wide narrow =
    list_all-append p (take width xs) (drop (length xs - width) xs) ∙ sym (tried p width xs wide narrow)

-- what the last few end in
last : (width : ℕ) (xs : List ℕ) → width ≤ length xs → take width (drop (length xs - width) xs) ≡ drop (length xs - width) xs
last width xs wide = take_all width (drop (length xs - width) xs) (omega (arith, length-drop (length xs - width) xs))

-- the last few, after the first few have passed
pub tried_last : (p : ℕ → Bool) (width : ℕ) (xs : List ℕ) → width ≤ length xs → length xs ≤ width + width
    → list_all p (take width xs) ≡ true → list_all p (take width (drop (length xs - width) xs)) ≡ list_all p xs
tried_last p width xs wide narrow first =
    ap (list_all p) (last width xs wide)
    ∙ ap (λ b. b && list_all p (drop (length xs - width) xs)) (sym first)
    ∙ sym (tried p width xs wide narrow)

-- both in one block
pub joined : (width count : ℕ) (xs : List ℕ) → width ≤ length xs → count ≡ width + width
    → pick_l 0 (take width xs ++ chunk (length xs - width) width xs) (range_with_len 0 count) ≡ take width xs ++ drop (length xs - width) xs
joined width count xs wide even =
    let back : List ℕ = chunk (length xs - width) width xs in
    pick_l_whole 0 (take width xs ++ back) count (omega (arith, even, length-append (take width xs) back, length-take-le width xs wide, length-chunk (length xs - width) width xs (omega arith)))
    ∙ ap (λ l. take width xs ++ l) (last width xs wide)

-- both copied to their places
pub copied : (width : ℕ) (xs room : List ℕ) → width ≤ length xs → length xs ≤ width + width
    → (let start : ℕ = length xs - width in let part : List ℕ = take width xs ++ drop width room in
    take start part ++ (take (length xs - start) (drop start xs) ++ drop (length xs - start) (drop start part)) ≡ xs ++ drop (length xs) room)
copied width xs room wide narrow =
    let start : ℕ = length xs - width in
    let count : ℕ = length xs - start in
    let front : List ℕ = take width xs in
    let part : List ℕ = front ++ drop width room in
    let head : take start part ≡ take start xs =
    take-append-le start front (drop width room) (omega (arith, length-take-le width xs wide)) ∙ take-take start width xs (omega arith) in
    let end : start + count ≡ length xs = omega arith in
    let tail : drop count (drop start part) ≡ drop (length xs) room =
    drop-drop count start part ∙ ap (λ n. drop n part) end ∙ drop-append-drop width room front (length xs) wide (length-take-le width xs wide) in
    let back : take count (drop start xs) ≡ drop start xs = take_all count (drop start xs) (omega (arith, length-drop start xs)) in
    ap (λ (l : List ℕ). l ++ (take count (drop start xs) ++ drop count (drop start part))) head
    ∙ ap (λ (l : List ℕ). take start xs ++ (l ++ drop count (drop start part))) back
    ∙ ap (λ (l : List ℕ). take start xs ++ (drop start xs ++ l)) tail
    ∙ sym (append_assoc (take start xs) (drop start xs) (drop (length xs) room))
    ∙ ap (λ (l : List ℕ). l ++ drop (length xs) room) (take-append-drop start xs)
