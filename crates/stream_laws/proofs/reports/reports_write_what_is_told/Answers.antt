use Rattle.stream_laws.proofs.Frames.{line-frame}
use Rattle.stream_laws.proofs.WrittenReports.{writes-kind, writes-told, writes-lots}
use Rattle.stream_laws.proofs.reports.reports_write_what_is_told.Goals as goal

pub returns-clause-frame : goal.returns-clause-frame
returns-clause-frame c names event are texts = line-frame names are event texts

pub returns-clause-kind : goal.returns-clause-kind
returns-clause-kind c names event are texts = writes-kind names are event texts

pub returns-clause-quantities : goal.returns-clause-quantities
returns-clause-quantities c names event are texts = writes-told names are event texts

pub returns-clause-lots : goal.returns-clause-lots
returns-clause-lots c names event are texts = writes-lots names are event texts
