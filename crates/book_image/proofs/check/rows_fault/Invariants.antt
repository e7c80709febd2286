use Rattle.std.proofs.Common.{length}
use Rattle.book_image.specs.Faults.{orders_at, resting_rows, resting_count}
use Rattle.book_image.proofs.check.rows_fault.Given as goal

-- the orders of the resting rows
abbrev pub ghost-waiting_fault : goal.ghost-waiting_fault
ghost-waiting_fault g a =
    let instruments = length a.product.now.names.instruments in
    orders_at a.payload.now (resting_rows instruments) (resting_count instruments a.payload.now)
