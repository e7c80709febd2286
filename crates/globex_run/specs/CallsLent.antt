-- A call of `globex` whose arguments were lent as one.
use Rattle.std.specs.Prelude.{string_bytes, map}
use Rattle.gx_station.specs.Sources.{SourceMeanings}
use Rattle.gx_station.specs.Stations.{StationMeanings}
use Rattle.command_words.specs.Commands.{command_of}
use Rattle.globex_run.specs.Outside.{outside_at}
use Rattle.globex_run.specs.Calls.{Call}
use Rattle.globex_run.specs.declared.outcome.Outcome.{Outcome}
use Rattle.globex_run.specs.declared.reopening.CallOf.{CallOf}

abbrev pub call_of : {P I S : Type 0} → SourceMeanings P → SourceMeanings I → StationMeanings S → CallOf P I S → CallOf P I S → Outcome → Call P I S
call_of products inputs stations old new outcome = record {
  station = stations;
  asked = command_of (map string_bytes old.words.now);
  before = outside_at products inputs stations old.product old.input old.station;
  after = outside_at products inputs stations new.product new.input new.station;
  outcome = outcome;
}
