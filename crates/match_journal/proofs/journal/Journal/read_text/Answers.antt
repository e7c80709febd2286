use Rattle.std.proofs.Common.{◌≡◌, List, ℕ, Some, ◌∙◌}
use Rattle.match_journal.specs.Opening.{StandsIn}
use Rattle.match_journal.proofs.LastTexts.{last_read, if_ok, if_err}
use Rattle.match_journal.proofs.journal.Journal.read_text.Goals as goal
use Rattle.match_journal.proofs.journal.Journal.read_text.Goals.{in-Ok, in-Err}

pub returns-clause-text : goal.returns-clause-text
returns-clause-text g c = elim c.match-read.branch [
  | in-Ok w ↦
      let text : (image : List ℕ) → g.S.Station.meanings.holds c.args.station.now ≡ Some image → (stands : StandsIn c.args.self.now image) → c.read.new.into ≡ stands.text.bytes =
      λ image held stands. last_read c.self.inside.standing c.args.self.now image _ c.read.new.into c.self.view_is held (c.read.auto.into ∙ c.requires.size) w.in-Ok.ensures.reads.bytes stands in
      if_ok _ c.match-read.result _ w.result-is text
  | in-Err w ↦ if_err _ c.match-read.result _ w.result-is
]
