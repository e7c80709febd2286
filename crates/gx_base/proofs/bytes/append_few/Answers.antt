use Rattle.std.proofs.Common.{◌+◌, ◌∷◌, ◌++◌, [], ℕ, List, take, get_or, sym, ap, ◌∙◌, append_assoc, arith}
use Rattle.std.proofs.lemmas.List.{take_more, drop-set-lt}
use Rattle.std.proofs.lemmas.Grind.{take-set_at}
use Rattle.gx_base.proofs.Written.{same_further}
use Rattle.gx_base.proofs.bytes.append_few.Goals as goal

pub loop-k-preserved : goal.loop-k-preserved
loop-k-preserved c =
    let k = c.loop-k.k in
    let at = c.args.at + k in
    let bytes = c.args.bytes.now in
    let byte = get_or bytes k 0 in
    let more : List ℕ → List ℕ = λ xs. take c.args.at c.args.into.now ++ xs in (
      take-set_at c.loop-k.into at (c.args.at + (k + 1)) byte (omega arith) (omega arith)
          ∙ ap (λ (xs : List ℕ). xs ++ byte ∷ []) c.loop-k.invariant.0
          ∙ append_assoc (take c.args.at c.args.into.now) (take k bytes) (byte ∷ [])
          ∙ ap more (sym (take_more bytes k 0 (omega arith))),
      drop-set-lt (c.args.at + (k + 1)) c.loop-k.into at byte (omega arith)
          ∙ same_further at (c.args.at + (k + 1)) c.loop-k.into c.args.into.now (omega arith) c.loop-k.invariant.1,
    )
