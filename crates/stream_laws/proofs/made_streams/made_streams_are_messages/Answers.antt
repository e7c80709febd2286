use Rattle.stream_laws.proofs.MadeStreams.{made-rest, made-count}
use Rattle.stream_laws.proofs.made_streams.made_streams_are_messages.Goals as goal

pub returns-clause-whole : goal.returns-clause-whole
returns-clause-whole c = made-rest

pub returns-clause-count : goal.returns-clause-count
returns-clause-count c = made-count
