use Rattle.std.proofs.Common.{◌≡◌, ◌-◌, ◌+◌, ◌^◌, ◌<◌, ◌≤◌, IfSome, false, ℕ, List, length, Some}
use Rattle.match_journal.specs.Causes.{ReadsOnly}
use Rattle.match_journal.specs.Standing.{Fits, at_first, moved}
use Rattle.match_journal.specs.declared.entry.Entry.{Entry}
use Rattle.match_journal.specs.declared.version.Version.TheVariants.{Second}
use Rattle.match_journal.proofs.Passing.{Passes}
use Rattle.match_journal.proofs.look.last_amendment.Given as goal

abbrev pub invariant-heads : goal.invariant-heads
invariant-heads g l =
    let m = g.S.Station.meanings in
    record {
      reads : ReadsOnly m l.fn.station l.station;
      passes : l.standing.known ≡ l.fn.len → Passes m l.fn.station l.station l.fn.size l.fn.len l.fn.limit l.standing.gate l.last;
      knows : (image : List ℕ) → m.holds l.fn.station ≡ Some image → length image ≡ l.fn.len → l.standing.known ≡ l.fn.len;
      reach : l.standing.known ≤ m.reach l.station;
      faults : m.store_faults l.station ≡ m.store_faults l.fn.station;
      same : l.standing ≡ moved (at_first Second (13 + l.fn.size) l.standing.known l.fn.limit 13 l.fn.size) l.standing.gate false;
      grows : l.fn.len ≤ l.standing.known;
      inside : l.standing.gate < l.standing.known;
      len_is : l.len ≡ l.fn.len;
      fits : IfSome l.last (λ (entry : Entry). Fits l.standing.known l.fn.limit entry);
    }

abbrev pub decreases-heads : goal.decreases-heads
decreases-heads g l = (2 ^ 64 - l.standing.known) + (l.fn.limit - l.standing.gate)
