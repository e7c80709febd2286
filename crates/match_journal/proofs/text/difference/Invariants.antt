use Rattle.std.proofs.Common.{◌-◌, ◌≡◌, ℕ, ◌+◌, ◌≤◌, List, length, min, take, drop, Some}
use Rattle.match_journal.specs.Causes.{LooksOnly}
use Rattle.match_journal.specs.Classes.{first_difference}
use Rattle.match_journal.proofs.text.difference.Given as goal

abbrev pub invariant-loop-at : goal.invariant-loop-at
invariant-loop-at g l =
    let m = g.S.Station.meanings in
    record {
      size : l.size ≡ l.place.len;
      most : l.most ≡ min l.size (length l.product);
      within : l.at ≤ l.most;
      looks : LooksOnly m l.fn.station l.station l.at;
      reach : m.reach l.station ≡ m.reach l.fn.station;
      faults : m.store_faults l.station ≡ m.store_faults l.fn.station;
      so_far : (image text : List ℕ) → m.holds l.fn.station ≡ Some image → take l.place.len (drop l.place.at image) ≡ text → length text ≡ l.place.len → first_difference text l.product ≡ l.at + first_difference (drop l.at text) (drop l.at l.product);
    }

abbrev pub decreases-loop-at : goal.decreases-loop-at
decreases-loop-at g l = l.most - l.at
