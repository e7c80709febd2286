use Rattle.engine_laws.proofs.Done.{sweep-done}
use Rattle.level_sweep.proofs.Showing.{showing-right}
use Rattle.engine_laws.proofs.Uncrossed.{rested-uncrossed}
use Rattle.engine_laws.proofs.matches.no_book_is_crossed.Goals as goal

pub returns : goal.returns
returns c steps m slot top_min steps_right right h some =
    rested-uncrossed steps m slot top_min right h (sweep-done steps m.taker.order.price steps_right.fifo_last m (showing-right m.book right)) some
