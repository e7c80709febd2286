use Rattle.std.proofs.Common.{◌≡◌, ℕ, Bool, ◌==◌, ◌-◌, ◌+◌, ◌/◌, ◌^◌, ◌≤◌, List, length, take, drop, map, sym, ap, ◌∙◌, arith, length-drop}
use Rattle.std.specs.Simd.Lanes.{mask_l}
use Rattle.std.proofs.lemmas.List.{drop-map, drop-drop, take_all, take_rest}
use Rattle.gx_base.specs.Frames.{soh}
use Rattle.gx_base.proofs.Marks.{shifted}
use Rattle.gx_base.proofs.bytes.soh_marks.Goals as goal

abbrev is_soh : ℕ → Bool
is_soh c = c == soh

-- the marks of the last bytes, without the first k of them
last_marks : (bytes : List ℕ) (start last : ℕ) → length bytes ≤ last + 64 → last ≤ start → mask_l (map is_soh (take 64 (drop last bytes))) / 2 ^ (start - last) ≡ mask_l (map is_soh (take 64 (drop start bytes)))
last_marks bytes start last all low =
    let k = start - last in
    let marks : List ℕ → ℕ = λ xs. mask_l (map is_soh xs) in
    let e : last + k ≡ start = omega arith in
    ap (λ (xs : List ℕ). marks xs / 2 ^ k) (take_all 64 (drop last bytes) (omega (arith, length-drop last bytes)))
    ∙ shifted (map is_soh (drop last bytes)) k
    ∙ ap mask_l (drop-map is_soh k (drop last bytes))
    ∙ ap marks (drop-drop k last bytes ∙ ap (λ n. drop n bytes) e ∙ sym (take_all 64 (drop start bytes) (omega (arith, length-drop start bytes))))

pub returns-then-bytes-ge-BLOCK : goal.returns-then-bytes-ge-BLOCK
returns-then-bytes-ge-BLOCK c =
    let bytes = c.args.bytes.now in
    let last = length bytes - 64 in
    ap (λ n. n / 2 ^ (c.args.start - last)) c.marks_of-then-bytes-ge-BLOCK.ensures ∙ last_marks bytes c.args.start last (omega arith) (omega arith)

pub returns : goal.returns
returns c =
    let bytes = c.args.bytes.now in
    let start = c.args.start in
    c.short_marks.ensures ∙ ap (λ (xs : List ℕ). mask_l (map is_soh xs)) (take_rest bytes start ∙ sym (take_all 64 (drop start bytes) (omega (arith, length-drop start bytes))))
