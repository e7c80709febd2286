use Rattle.std.proofs.Common.{◌≡◌, List, ℕ, Some, arith}
use Rattle.match_journal.specs.Opening.{StandsIn}
use Rattle.match_journal.proofs.LastTexts.{first_read, if_ok, if_err}
use Rattle.match_journal.proofs.journal.Journal.read_first.Goals as goal
use Rattle.match_journal.proofs.journal.Journal.read_first.Goals.{in-Ok, in-Err}

pub returns-clause-text : goal.returns-clause-text
returns-clause-text g c = elim c.match-read.branch [
  | in-Ok w ↦
      let text : (image : List ℕ) → g.S.Station.meanings.holds c.args.station.now ≡ Some image → (stands : StandsIn c.args.self.now image) → c.read.new.into ≡ stands.head.text =
      λ image held stands. first_read c.args.self.now image _ c.read.new.into held (omega (arith, c.read.auto.into, c.requires.size)) w.in-Ok.ensures.reads.bytes stands in
      if_ok _ c.match-read.result _ w.result-is text
  | in-Err w ↦ if_err _ c.match-read.result _ w.result-is
]
