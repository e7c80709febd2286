use Rattle.std.proofs.Common.{ap, ◌∙◌}
use Rattle.plain_book.specs.Book.{changed_to}
use Rattle.book_side.proofs.Renaming.{CanStand, stands}
use Rattle.book_side.proofs.linked.LinkedBookBook.change.Goals as goal
use Rattle.book_side.proofs.linked.LinkedBookBook.change.Goals.{After-set_id}

-- the order under its new id can change
can : (c : After-set_id) → CanStand c.args.slot.0 c.args.self.now c.args.id c.args.quantity c.args.min c.set_id.new.self c.changed-changed.result
can c =
    let r = c.requires in
    let now = c.changed-changed.ensures ∙ ap (changed_to c.args.id c.args.quantity c.args.min) c.order.ensures in
    stands c.args.self.now c.rules.ensures c.args.slot.0 r.live c.args.id c.args.quantity c.args.min r.open r.lower r.show r.no_min c.set_id.new.self c.changed-changed.result c.set_id.ensures now

pub set_live-requires : goal.set_live-requires
set_live-requires c =
    let at = can (goal.at.set_live-requires c).After-set_id in
    record { live = at.live; level = at.level; firm = at.same_firm; id = at.same_id; trigger = at.same_trigger; rests = at.rests; waits = at.waits }

pub returns : goal.returns
returns c = c.set_live.ensures ∙ (can (goal.at.returns c).After-set_id).view
