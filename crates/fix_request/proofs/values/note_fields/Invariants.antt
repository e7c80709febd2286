use Rattle.std.proofs.Common.{◌-◌, ◌≤◌, length, drop}
use Rattle.fix_request.specs.Inner.Slots.{places_view}
use Rattle.fix_request.specs.Inner.Views.{texts_of_places}
use Rattle.fix_request.proofs.FirstMark.{AreMarks}
use Rattle.fix_request.proofs.Noting.{IsNotedTo}
use Rattle.fix_request.proofs.values.note_fields.Given as goal

-- the fields before `start` are noted
abbrev pub invariant-fields : goal.invariant-fields
invariant-fields l = (l.start ≤ length l.bytes) × IsNotedTo l.bytes (drop l.start l.bytes) (places_view (texts_of_places l.texts))

abbrev pub decreases-fields : goal.decreases-fields
decreases-fields l = length l.bytes - l.start

-- the same, and some of the marks from there on are known
abbrev pub invariant-marked : goal.invariant-marked
invariant-marked l =
    (l.first ≤ l.start) × (l.start ≤ length l.bytes) × IsNotedTo l.bytes (drop l.start l.bytes) (places_view (texts_of_places l.texts)) × AreMarks l.marks (drop l.start l.bytes)

abbrev pub decreases-marked : goal.decreases-marked
decreases-marked l = length l.bytes - l.start
