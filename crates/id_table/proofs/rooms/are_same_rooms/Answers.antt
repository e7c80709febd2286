use Rattle.std.proofs.Common.{sym, ◌∙◌}
use Rattle.id_table.proofs.Padded.{last_tells}
use Rattle.id_table.proofs.Tests.{true_false}
use Rattle.id_table.proofs.rooms.are_same_rooms.Goals.{then-is_same_word, else-is_same_word}
use Rattle.id_table.proofs.rooms.are_same_rooms.Goals as goal

pub returns-then-is_same_word-2 : goal.returns-then-is_same_word-2
returns-then-is_same_word-2 c = elim c.if-is_same_word.branch [
  | then-is_same_word w ↦
      let first = sym c.is_same_word.ensures ∙ w.if-is_same_word.true in
      let second = sym w.is_same_word-then-is_same_word.ensures ∙ sym w.value-is ∙ c.if-is_same_word-2.true in
      c.is_same_word-then-is_same_word-2.ensures ∙ last_tells c.args.left.now c.args.right.now c.told-left c.told-right first second
  | else-is_same_word w ↦ absurd (true_false c.is_same_word.result (sym w.value-is ∙ c.if-is_same_word-2.true) w.if-is_same_word.false)
]
