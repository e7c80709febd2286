use Rattle.stream_laws.proofs.WrittenReports.{writes-line}
use Rattle.stream_laws.proofs.reports.ledger_lines_tell_the_same.Goals as goal

pub returns : goal.returns
returns c names event are texts = writes-line names are event texts
