use Rattle.std.proofs.Common.{rules, ◌≡◌, ℕ, ◌+◌, ◌-◌, ◌++◌, List, take, drop, ap, ap₂, ◌∙◌, append_assoc, arith}
use Rattle.line_parts.specs.declared.fields.TheConstants.{GAP}
use Rattle.line_parts.specs.declared.sum.TheConstants.{BLOCK}
use Rattle.gx_base.proofs.Written.{front_of, same_further}
use Rattle.line_parts.proofs.Framing.{body_front, body_longer}
use Rattle.line_parts.proofs.fields.move_body.Goals as goal

pub loop-from-preserved : goal.loop-from-preserved
loop-from-preserved c =
    let old : List ℕ = c.args.into.now in
    let into : List ℕ = c.loop-from.into in
    let new : List ℕ = c.append_few.new.into in
    let from = c.loop-from.from in
    let width : from + BLOCK - from ≡ BLOCK = omega arith in
    let block_is : c.copy_from_slice.new.self ≡ take BLOCK (drop from old) = c.copy_from_slice.ensures.after ∙ ap (λ n. take n (drop from into)) width ∙ ap (take BLOCK) c.loop-from.invariant.behind in
    let end : c.args.to + (from + BLOCK - GAP) ≡ c.append_few.result = omega (arith, c.append_few.ensures.end, c.copy_from_slice.ensures.len) in
    record {
      same_length = search rules;
      within = (omega arith, omega arith);
      moved =
          ap (λ n. take n new) end
          ∙ c.append_few.ensures.bytes
          ∙ ap₂ (λ (xs ys : List ℕ). xs ++ ys) c.loop-from.invariant.moved block_is
          ∙ append_assoc (take c.args.to old) (drop GAP (take from old)) (take BLOCK (drop from old))
          ∙ ap (λ (l : List ℕ). take c.args.to old ++ l) (body_longer old from BLOCK (omega arith) (omega arith));
      behind =
          same_further c.append_few.result (from + BLOCK) new into (omega arith) c.append_few.ensures.behind
          ∙ same_further from (from + BLOCK) into old (omega arith) c.loop-from.invariant.behind;
    }

pub returns : goal.returns
returns c =
    let old : List ℕ = c.args.into.now in
    let from = c.loop-from.from in
    front_of c.args.to (c.args.end - GAP) (c.args.to + (from - GAP)) old c.loop-from.into (drop GAP (take from old)) (omega arith) (omega arith) c.loop-from.invariant.moved
    ∙ ap (λ (l : List ℕ). take c.args.to old ++ l) (body_front old c.args.end from (omega arith) (omega arith))
