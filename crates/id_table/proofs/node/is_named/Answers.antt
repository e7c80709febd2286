use Rattle.std.proofs.Common.{ℕ, bytes_eq, sym, ap, ◌∙◌}
use Rattle.id_table.specs.Inner.Nodes.{is_same}
use Rattle.id_table.specs.Ids.{key}
use Rattle.id_table.proofs.Named.{same_ids}
use Rattle.id_table.proofs.Padded.{same_rooms}
use Rattle.id_table.proofs.node.is_named.Goals as goal

pub returns-then-entry-firm : goal.returns-then-entry-firm
returns-then-entry-firm c =
    c.are_same_rooms.ensures
    ∙ (λ i. bytes_eq (c.room.ensures.room i) (c.room-then-entry-firm.ensures.room i))
    ∙ same_rooms c.args.entry.now.id c.args.id.now c.room.ensures.name c.room-then-entry-firm.ensures.name
    ∙ same_ids c.args.firm c.args.id.now c.args.entry.now.id
    ∙ ap (λ (x : ℕ). is_same (key c.args.firm c.args.id.now) (key x c.args.entry.now.id)) (sym c.if-entry-firm.true)
