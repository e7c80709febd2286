use Rattle.std.proofs.Common.{◌≡◌, sym, ap, ◌∙◌}
use Rattle.std.specs.Int.{w32, from_le_bytes, to_le_bytes}
use Rattle.std.proofs.lemmas.Bool.Decides.{same_from_decides, Decides-eqb}
use Rattle.std.proofs.lemmas.Nat.{le_bytes_4}
use Rattle.std.proofs.lemmas.Slice.Eq.{bytes_eq-Decides}
use Rattle.gx_base.proofs.names.is_same_word.Goals as goal

-- four bytes are those that their number is written with
pub returns : goal.returns
returns c =
    let bytes = c.args.right.now in
    let word = c.args.left.now in
    let seen = c.from_le_bytes-seen.result in
    let sought = c.from_le_bytes-sought.result in
    let written : to_le_bytes w32 seen ≡ bytes = le_bytes_4 bytes seen c.requires.right (λ i. (c.type_inv.right i).fits) c.from_le_bytes-seen.ensures in
    let wanted : to_le_bytes w32 sought ≡ word = le_bytes_4 word sought c.requires.left (λ i. (c.type_inv.left i).fits) c.from_le_bytes-sought.ensures in
    let tells = Decides-eqb seen sought in
    same_from_decides _ _
    (λ yes. sym wanted ∙ ap (to_le_bytes w32) (sym (tells.0 yes)) ∙ written, λ same. tells.1 (c.from_le_bytes-seen.ensures ∙ ap (from_le_bytes w32) (sym same) ∙ sym c.from_le_bytes-sought.ensures))
    (bytes_eq-Decides word bytes)
