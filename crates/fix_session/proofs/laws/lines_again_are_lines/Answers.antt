use Rattle.fix_session.proofs.SessionLaws.{lines-again}
use Rattle.fix_session.proofs.laws.lines_again_are_lines.Goals as goal

pub returns : goal.returns
returns c = λ names time event named timed small. lines-again names time event named timed small
