use Rattle.std.proofs.Common.{◌≡◌, ◌+◌, take, OnOk}
use Rattle.exec_report.specs.Pushes.{Pushes}
use Rattle.order_kinds.specs.State.{state_numbered}
use Rattle.order_kinds.specs.Step.{state_after}
use Rattle.order_kinds.specs.Cores.{FitsProduct, AreNumbered}
use Rattle.level_feed.specs.Feeds.{levels_of_state}
use Rattle.feed_print.specs.FeedTexts.{messages_text, place_after}
use Rattle.feed_print.proofs.feed_work.FeedWorkRecordWork.take.Given as goal

abbrev pub invariant-loop-number : goal.invariant-loop-number
invariant-loop-number g l = record {
  count : l.core.desk.messages ≡ l.fn.core.desk.messages + l.number;
  fits : FitsProduct l.product l.core;
  numbered : AreNumbered l.core;
  state : state_numbered l.core ≡ state_after l.product (state_numbered l.fn.core) (take l.number l.framer.given);
  pushes : Pushes g.S.Station.meanings l.fn.station l.station l.fn.buffer l.buffer (messages_text l.fn.self l.product (state_numbered l.fn.core) (take l.number l.framer.given)) l.told;
  place : OnOk l.told (l.self-inside.sent ≡ place_after l.fn.self l.product (state_numbered l.fn.core) (take l.number l.framer.given));
  rows : OnOk l.told (l.self-inside.sent.rows ≡ levels_of_state l.core);
}
