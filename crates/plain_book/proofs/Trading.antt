-- The reports and the counters of a trade.
use Rattle.std.proofs.Common.{◌≡◌, ℕ, ◌+◌, ◌-◌, ◌≤◌, List, [], ◌∷◌, slice_index, slice_set, Option, subst, arith, refl}
use Rattle.gx_base.specs.declared.price.Price.{Price}
use Rattle.gx_base.specs.declared.order.Order.{Order}
use Rattle.gx_base.specs.declared.order.Desk.{Desk}
use Rattle.gx_base.specs.declared.order.Taker.{Taker}
use Rattle.gx_base.specs.declared.event.StepName.{StepName}
use Rattle.gx_base.specs.declared.event.Event.{Event}
use Rattle.gx_base.specs.Emits.{EmitMeanings, Puts, Emits}
use Rattle.gx_base.specs.EmitLaws.{emits_joined, emits_one}
use Rattle.plain_book.specs.Orders.{HasSlot, order_of, filled_by}
use Rattle.plain_book.specs.Book.{Book, book_traded}
use Rattle.plain_book.specs.Match.{next_head, report_counted, fill, taken_by, book_share_noted}
use Rattle.plain_book.specs.Matches.{CanTrade, KeepsRoom}
use Rattle.plain_book.proofs.LineCounts.{line-counted}
use Rattle.plain_book.proofs.Live.{unnamed-traded, unnamed-with_order}

-- the counters after a trade whose two reports go to these firms
abbrev pub counted : Desk → ℕ → ℕ → Desk
counted desk a b = report_counted (report_counted (record desk { trades = desk.trades + 1 }) a) b

pub keeps-traded : (desk : Desk) (a b wanted lots : ℕ) → 1 ≤ lots → lots ≤ wanted → KeepsRoom desk wanted (counted desk a b) (wanted - lots)
keeps-traded desk a b wanted lots some le =
    let once = slice_set desk.lines a (slice_index desk.lines a + 1) in
    record {
      messages = refl;
      orders = refl;
      fewer = omega arith;
      trades = omega arith;
      reports = omega arith;
      lines = λ i. omega (arith, line-counted desk.lines a i, line-counted once b i);
    }

-- the two reports of a trade, of which the second counts after the first
pub emits_trade : {E : Type 0} (m : EmitMeanings E) (a b c : E) (step : StepName) (lots : ℕ) (first second : Desk) (time : List ℕ) (price : Price) (resting taken : Order)
    → price ≡ resting.price → second ≡ report_counted first resting.firm
    → Puts m a b (fill lots resting.price step first.trades (next_head first resting.firm time) (filled_by lots resting))
    → Puts m b c (fill lots price step second.trades (next_head second taken.firm time) taken)
    → Emits m a c (fill lots resting.price step first.trades (next_head first resting.firm time) (filled_by lots resting) ∷ (fill lots resting.price step first.trades (next_head (report_counted first resting.firm) taken.firm time) taken ∷ []))
emits_trade m a b c step lots first second time price resting taken same counted p q =
    let x : Event = fill lots resting.price step first.trades (next_head first resting.firm time) (filled_by lots resting) in
    let told : Puts m b c (fill lots resting.price step second.trades (next_head second taken.firm time) taken) =
    subst (λ (p : Price). Puts m b c (fill lots p step second.trades (next_head second taken.firm time) taken)) same q in
    let y : Puts m b c (fill lots resting.price step first.trades (next_head (report_counted first resting.firm) taken.firm time) taken) =
    subst (λ (d : Desk). Puts m b c (fill lots resting.price step d.trades (next_head d taken.firm time) taken)) counted told in
    emits_joined m a b c (x ∷ []) _ (emits_one m a b x p) (emits_one m b c _ y)

-- after a trade the incoming order can still trade
abbrev pub taker_after : ℕ → Option (Price × Price) → Taker → Taker
taker_after lots range t = record t { order = taken_by lots t.order; range = range }

pub can-traded : (s n a : ℕ) (b : Book) (d : Desk) (t : Taker) (range : Option (Price × Price)) → HasSlot s b.resting → 1 ≤ n → n ≤ t.order.leaves → CanTrade b d t
    → CanTrade (book_traded s n b) (counted d a t.order.firm) (taker_after n range t)
can-traded s n a b d t range has some le can =
    let k = keeps-traded d a t.order.firm t.order.leaves n some le in
    record {
      listed = can.listed;
      firm = can.firm;
      unnamed = unnamed-traded t.order.firm t.order.id b can.unnamed s n has;
      whole = omega (arith, can.whole);
      small = can.small;
      messages = omega (arith, can.messages);
      orders = omega (arith, can.orders);
      trades = omega (arith, can.trades, k.trades);
      reports = omega (arith, can.reports, k.reports);
      lines = λ i. omega (arith, can.lines i, k.lines i);
    }

-- nor does the mark of a share matter
pub can-marked : (s n : ℕ) (b : Book) (d : Desk) (t : Taker) → HasSlot s b.resting → CanTrade b d t → CanTrade (book_share_noted s n b) d t
can-marked s n b d t has can = record {
  listed = can.listed;
  firm = can.firm;
  unnamed = unnamed-with_order t.order.firm t.order.id b can.unnamed s (record (order_of s b.resting) { prorated = n }) has refl refl;
  whole = can.whole;
  small = can.small;
  messages = can.messages;
  orders = can.orders;
  trades = can.trades;
  reports = can.reports;
  lines = can.lines;
}
