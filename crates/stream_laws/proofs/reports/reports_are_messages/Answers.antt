use Rattle.stream_laws.proofs.Histories.{reports-each, reports-whole}
use Rattle.stream_laws.proofs.reports.reports_are_messages.Goals as goal

pub returns-clause-each : goal.returns-clause-each
returns-clause-each c history are = reports-each history are

pub returns-clause-whole : goal.returns-clause-whole
returns-clause-whole c history are = reports-whole history are
