use Rattle.std.proofs.Common.{◌≡◌, ◌-◌, ◌<◌, ℕ, List, ◌∷◌, length, get_or, arith, sym, ap, ◌∙◌, subst}
use Prim.Native.Nat.{suc}
use Rattle.std.specs.Prelude.{reverse}
use Rattle.std.proofs.lemmas.List.{get_or-reverse}
use Rattle.id_table.proofs.way.byte_from_end.Goals as goal

-- the bytes of the id stand in front
of_id : (firm : ℕ) (id : List ℕ) (back : ℕ) → back < length id → get_or id (length id - 1 - back) 0 ≡ get_or (reverse (firm ∷ id)) back 0
of_id firm id back lt =
    let le : back < length (firm ∷ id) = omega arith in
    let e : length (firm ∷ id) - 1 - back ≡ suc (length id - 1 - back) = omega arith in
    sym (get_or-reverse (firm ∷ id) back 0 le ∙ ap (λ (i : ℕ). get_or (firm ∷ id) i 0) e)

pub returns-then-back-bytes : goal.returns-then-back-bytes
returns-then-back-bytes c =
    let e = c.bytes-bytes.ensures.bytes in
    ap (λ (bytes : List ℕ). get_or bytes (length bytes - 1 - c.args.back) 0) e
    ∙ of_id c.args.firm c.args.id.now c.args.back (subst (λ (bytes : List ℕ). c.args.back < length bytes) e c.if-back-bytes.true)
