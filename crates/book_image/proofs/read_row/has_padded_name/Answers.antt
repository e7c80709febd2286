use Rattle.std.proofs.Common.{◌≡◌, ℕ, ◌+◌, ◌-◌, ◌≤◌, Bool, true, false, not, ◌&&◌, List, ◌++◌, length, take, drop, replicate, get_or, Option, Some, None, is_some, sym, ap, ◌∙◌, arith}
use Rattle.std.specs.Prelude.{SomeIff, IsTrue, bytes_eq}
use Rattle.std.proofs.lemmas.List.{drop-replicate}
use Rattle.std.proofs.lemmas.Grind.{common_steps}
use Rattle.gx_base.specs.Texts.{is_name}
use Rattle.book_image.specs.Rows.{padded}
use Rattle.book_image.proofs.read_row.has_padded_name.Goals as goal

some-name : (found : Option (List ℕ)) (text : List ℕ) → SomeIff found (IsTrue (is_name text)) text → is_some found ≡ true → is_name text ≡ true
some-name None text h is = absurd (let f : false ≡ true = is in let g : ⊥ = cc in g)
some-name (Some id) text h is = h.0

long : (n : ℕ) (row : List ℕ) → length row ≡ 82 → n ≤ 24 → length (take n (drop 14 row)) ≡ n
long n row l h = grind (arith, common_steps)

past : (n : ℕ) → 14 + n - 14 ≡ n
past n = omega arith

-- the zeros after the id
filled : (n : ℕ) (row : List ℕ) → length row ≡ 82 → n ≤ 24 → take n (drop 14 row) ++ drop n (replicate 24 0) ≡ padded (take n (drop 14 row))
filled n row l h =
    ap (λ (xs : List ℕ). take n (drop 14 row) ++ xs) (drop-replicate n 24 0 ∙ ap (λ (k : ℕ). replicate (24 - k) 0) (sym (long n row l h)))

pub returns : goal.returns
returns c =
    let row = c.args.row.now in
    let n = get_or row 13 0 in
    let id : List ℕ = take n (drop 14 row) in
    let cut : take (14 + n - 14) (drop 14 row) ≡ id = ap (λ (k : ℕ). take k (drop 14 row)) (past n) in
    let name : is_name id ≡ true = ap is_name (sym cut) ∙ some-name c.new.result (take (14 + n - 14) (drop 14 row)) c.new.ensures (c.is_none.ensures ∙ ap not c.if-is_none.false) in
    let same : c.copy_from_slice.new.self ++ drop n (replicate 24 0) ≡ padded id =
    ap (λ (xs : List ℕ). xs ++ drop n (replicate 24 0)) (c.copy_from_slice.ensures.after ∙ cut) ∙ filled n row c.requires c.if-count-gt-LONGEST_NAME.false in
    c.eq.ensures
    ∙ ap (bytes_eq (take 24 (drop 14 row))) same
    ∙ ap (λ (b : Bool). b && bytes_eq (take 24 (drop 14 row)) (padded id)) (sym name)
