-- How far the counters of reports, trades and lines rise.
use Rattle.std.proofs.Common.{ℕ, ◌+◌, ◌≤◌, refl, ◌∙◌, arith}
use Rattle.gx_base.specs.declared.order.Desk.{Desk}
use Rattle.plain_book.specs.Match.{report_counted}
use Rattle.plain_book.proofs.LineCounts.{line-counted}
use Rattle.order_kinds.specs.Inner.Taking.{CountsRose}

pub rose-counted : (desk : Desk) (firm : ℕ) → CountsRose 1 desk (report_counted desk firm)
rose-counted desk firm = record {
  messages = refl;
  orders = refl;
  trades = omega arith;
  reports = omega arith;
  lines = λ i. line-counted desk.lines firm i;
}

-- one rise after the other
pub rose-both : (m n : ℕ) (a b c : Desk) → CountsRose m a b → CountsRose n b c → CountsRose (m + n) a c
rose-both m n a b c r s = record {
  messages = s.messages ∙ r.messages;
  orders = s.orders ∙ r.orders;
  trades = omega (arith, r.trades, s.trades);
  reports = omega (arith, r.reports, s.reports);
  lines = λ i. omega (arith, r.lines i, s.lines i);
}

pub rose-within : (m n : ℕ) (a b : Desk) → m ≤ n → CountsRose m a b → CountsRose n a b
rose-within m n a b le r = record {
  messages = r.messages;
  orders = r.orders;
  trades = omega (arith, r.trades, le);
  reports = omega (arith, r.reports, le);
  lines = λ i. omega (arith, r.lines i, le);
}
