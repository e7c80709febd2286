use Rattle.std.proofs.Common.{◌≡◌, ◌≢◌, ℕ, ◌%◌, ◌^◌, ◌<◌, Bool, cond, eqb, List, length, map, take, replicate, Some, None, sym, ap, ◌∙◌, arith, w8}
use Rattle.std.proofs.lemmas.Bool.{lt-ltb}
use Rattle.std.proofs.lemmas.Simd.{bitmask_splat, trailing_mask_l}
use Rattle.std.proofs.lemmas.List.{take_all}
use Rattle.std.specs.Int.Count.{count_trailing_zeros}
use Rattle.std.specs.List.{position, position_or_len}
use Rattle.std.specs.Simd.Lanes.{mask_l, zip2, top}
use Rattle.gx_base.proofs.Marks.{inside}
use Rattle.gx_base.proofs.bytes.find_in_sixteen.Goals as goal

-- where a bit is set, the lowest one is where `position` finds the first
lowest_is_position : (test : ℕ → Bool) (bytes : List ℕ) → length bytes ≡ 16 → 0 < mask_l (map test bytes) → Some (count_trailing_zeros 64 (mask_l (map test bytes))) ≡ position test bytes
lowest_is_position test bytes long some =
    ap Some (trailing_mask_l test 64 bytes (omega arith) some)
    ∙ ap (λ b. cond b (Some (position_or_len test bytes)) None) (sym (lt-ltb _ _ (inside test bytes some)))

pub returns-else-marks-eq0 : goal.returns-else-marks-eq0
returns-else-marks-eq0 c =
    let bytes = c.args.bytes.now in
    let byte = c.args.byte in
    let marks = λ (lanes : List ℕ). mask_l (map (top 7) (zip2 (λ a b. cond (eqb a b) 255 0) lanes (replicate 16 byte))) % 2 ^ 64 in
    let same : marks (take 16 bytes) ≡ mask_l (map (λ x. eqb x byte) bytes) =
    ap marks (take_all 16 bytes (omega arith)) ∙ bitmask_splat w8 eqb bytes 16 byte c.requires (omega arith) in
    let some : marks (take 16 bytes) ≢ 0 = c.if-marks-eq0.false in
    ap (λ m. Some (count_trailing_zeros 64 m)) same ∙ lowest_is_position (λ x. eqb x byte) bytes c.requires (omega arith)
