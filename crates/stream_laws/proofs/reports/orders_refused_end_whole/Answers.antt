use Rattle.stream_laws.proofs.WrittenReports.{refused-ends}
use Rattle.stream_laws.proofs.reports.orders_refused_end_whole.Goals as goal

pub returns : goal.returns
returns c names head order fault are texts = refused-ends names head order fault are texts
