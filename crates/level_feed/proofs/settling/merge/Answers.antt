use Rattle.std.proofs.Common.{◌+◌, ◌∙◌, sym, refl, rules, arith, vec_capacity, get_or, subst}
use Rattle.level_feed.proofs.Compared.{no_row}
use Rattle.level_feed.proofs.Merging.{Merged, Step, merged_from, next-row, merged-room, merged-one, merged-none, step-row, step-here, step-first, step-alone, own-none, own-one}
use Rattle.level_feed.proofs.settling.merge.Goals.{then-at-settled-2+then-is_at_level, else-at-settled-2, else-at-settled-2-via-then-at-settled-2+else-is_at_level, else-at-settled-2-via-else-at-settled-2, then-not-is_gone, else-not-is_gone}
use Rattle.level_feed.proofs.settling.merge.Goals as goal

pub push_reserved-requires : goal.push_reserved-requires
push_reserved-requires c =
    let settled = c.args.settled.now in
    let changes = c.args.changes.now in
    let at = c.loop-at.at in
    let next = c.loop-at.next in
    let few = merged-room settled changes at next c.loop-at.into.items _ _ c.loop-at.invariant (get_or settled at no_row) (merged_from settled changes (at + 1) next)
    (next-row settled changes at next c.requires.settled c.requires.changes (c.if-comes_first.ensures.inside refl) c.if-comes_first.ensures.first)
    (omega (arith, c.requires.room, c.clear.ensures.capacity))
    in
    omega (arith, few, c.loop-at.into.ok)

pub loop-at-preserved-then-comes_first : goal.loop-at-preserved-then-comes_first
loop-at-preserved-then-comes_first c =
    let settled = c.args.settled.now in
    let changes = c.args.changes.now in
    let at = c.loop-at.at in
    let next = c.loop-at.next in
    merged-one settled changes at next c.loop-at.into.items _ _ c.loop-at.invariant (at + 1) next c.push_reserved.new.self.items _ (get_or settled at no_row)
    (step-row settled changes at next at c.requires.settled c.requires.changes c.loop-at.invariant.walked (c.if-comes_first.ensures.inside refl))
    (next-row settled changes at next c.requires.settled c.requires.changes (c.if-comes_first.ensures.inside refl) c.if-comes_first.ensures.first)
    c.push_reserved.ensures.items c.push_reserved.ensures.capacity

pub push_reserved-requires-then-not-is_gone : goal.push_reserved-requires-then-not-is_gone
push_reserved-requires-then-not-is_gone c =
    let settled = c.args.settled.now in
    let changes = c.args.changes.now in
    let at = c.loop-at.at in
    let next = c.loop-at.next in
    let walked = c.loop-at.invariant.walked in
    let o = c.requires.settled in
    let p = c.requires.changes in
    let change = get_or changes next no_row in
    let after = c.if-at-settled-2.at in
    let step = elim c.if-at-settled-2.branch as (λ _. Step settled changes at next after) [
      | then-at-settled-2+then-is_at_level w ↦ step-here settled changes at next after o p walked (search rules) (search rules) w.if-is_at_level.ensures w.at-is
      | else-at-settled-2 w ↦ elim w.else-at-settled-2.branch as (λ _. Step settled changes at next after) [
        | else-at-settled-2-via-then-at-settled-2+else-is_at_level v ↦ step-first settled changes at next after o p walked (search rules) (search rules) c.if-comes_first.ensures.first v.if-is_at_level.ensures w.at-is
        | else-at-settled-2-via-else-at-settled-2 v ↦ step-alone settled changes at next after o p walked (search rules) (search rules) w.at-is
      ]
    ] in
    let few = merged-room settled changes at next c.loop-at.into.items _ _ c.loop-at.invariant change (merged_from settled changes after (next + 1))
    (step.1 ∙ own-one change (merged_from settled changes after (next + 1)) c.if-not-is_gone.ensures)
    (omega (arith, c.requires.room, c.clear.ensures.capacity))
    in
    omega (arith, few, c.loop-at.into.ok)

pub loop-at-preserved : goal.loop-at-preserved
loop-at-preserved c =
    let settled = c.args.settled.now in
    let changes = c.args.changes.now in
    let at = c.loop-at.at in
    let next = c.loop-at.next in
    let walked = c.loop-at.invariant.walked in
    let o = c.requires.settled in
    let p = c.requires.changes in
    let change = get_or changes next no_row in
    let after = c.if-at-settled-2.at in
    let before = vec_capacity c.clear.new.self in
    let into = c.loop-at.into.items in
    let step = elim c.if-at-settled-2.branch as (λ _. Step settled changes at next after) [
      | then-at-settled-2+then-is_at_level w ↦ step-here settled changes at next after o p walked (search rules) (search rules) w.if-is_at_level.ensures w.at-is
      | else-at-settled-2 w ↦ elim w.else-at-settled-2.branch as (λ _. Step settled changes at next after) [
        | else-at-settled-2-via-then-at-settled-2+else-is_at_level v ↦ step-first settled changes at next after o p walked (search rules) (search rules) c.if-comes_first.ensures.first v.if-is_at_level.ensures w.at-is
        | else-at-settled-2-via-else-at-settled-2 v ↦ step-alone settled changes at next after o p walked (search rules) (search rules) w.at-is
      ]
    ] in
    elim c.if-not-is_gone.branch as (λ _. Merged settled changes after (next + 1) c.if-not-is_gone.into.items before (vec_capacity c.if-not-is_gone.into)) [
      | then-not-is_gone w ↦
          subst (λ v. Merged settled changes after (next + 1) v.items before (vec_capacity v)) (sym w.into-is)
          (merged-one settled changes at next into before _ c.loop-at.invariant after (next + 1) w.push_reserved-then-not-is_gone.new.self.items _ change step.0
          (step.1 ∙ own-one change (merged_from settled changes after (next + 1)) w.if-not-is_gone.ensures)
          w.push_reserved-then-not-is_gone.ensures.items w.push_reserved-then-not-is_gone.ensures.capacity)
      | else-not-is_gone w ↦
          subst (λ v. Merged settled changes after (next + 1) v.items before (vec_capacity v)) (sym w.into-is)
          (merged-none settled changes at next into before _ c.loop-at.invariant after (next + 1) step.0
          (step.1 ∙ own-none change (merged_from settled changes after (next + 1)) w.if-not-is_gone.ensures))
    ]
