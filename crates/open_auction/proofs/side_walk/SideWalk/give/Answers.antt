use Rattle.std.proofs.Common.{◌≡◌, ℕ, List, Option, Some, option_map, ap, sym, ◌∙◌, ◌-◌, arith}
use Rattle.gx_base.specs.declared.order.Slot.{Slot}
use Rattle.plain_book.specs.declared.entry.Entry.{Entry}
use Rattle.plain_book.specs.Book.{slot_number}
use Rattle.open_auction.specs.Pairs.{takers}
use Rattle.open_auction.specs.Inner.SideWalk.{with_left, orders_from, first_gives}
use Rattle.open_auction.proofs.Takers.{at-one, taker-lives, gives-some, gives-all, next-one}
use Rattle.open_auction.proofs.side_walk.SideWalk.give.Goals as goal

-- what it gives, seen through where it stands
seen : (at : Option Slot) (slot : Slot) (T l : List Entry) (left lots : ℕ) → at ≡ Some slot → l ≡ first_gives lots (with_left left (orders_from (Some slot.0) T)) → l ≡ first_gives lots (with_left left (orders_from (option_map slot_number at) T))
seen at slot T l left lots is h = h ∙ ap (λ (o : Option Slot). first_gives lots (with_left left (orders_from (option_map slot_number o) T))) (sym is)

pub returns-then-lots-self-clause-gives : goal.returns-then-lots-self-clause-gives
returns-then-lots-self-clause-gives g c =
    let b = g.B.Book.book c.args.book.now in
    let w = c.args.self.now in
    let T = takers w.instrument w.side w.price b.resting in
    let has = at-one w.at c.in-Some.slot T c.requires.walk.has c.in-Some.is in
    seen w.at c.in-Some.slot T (with_left (w.left - c.args.lots) (orders_from (option_map slot_number w.at) T)) w.left c.args.lots c.in-Some.is
    (ap (λ (o : Option Slot). with_left (w.left - c.args.lots) (orders_from (option_map slot_number o) T)) c.in-Some.is
    ∙ gives-some b c.rules.ensures w.instrument w.side w.price c.in-Some.slot.0 has w.left c.args.lots c.if-lots-self.true)

pub open_of-self-requires : goal.open_of-self-requires
open_of-self-requires g c =
    let b = g.B.Book.book c.args.book.now in
    let w = c.args.self.now in
    let T = takers w.instrument w.side w.price b.resting in
    let has = at-one w.at c.in-Some.slot T c.requires.walk.has c.in-Some.is in
    let n = option_map slot_number c.next_taker-self.result in
    taker-lives b c.rules.ensures w.instrument w.side w.price n (next-one b c.rules.ensures w.instrument w.side w.price c.in-Some.slot.0 has n c.next_taker-self.ensures)

pub returns-clause-walk : goal.returns-clause-walk
returns-clause-walk g c =
    let b = g.B.Book.book c.args.book.now in
    let w = c.args.self.now in
    let T = takers w.instrument w.side w.price b.resting in
    let has = at-one w.at c.in-Some.slot T c.requires.walk.has c.in-Some.is in
    let n = option_map slot_number c.next_taker-self.result in
    record {
      listed = c.requires.walk.listed;
      has = next-one b c.rules.ensures w.instrument w.side w.price c.in-Some.slot.0 has n c.next_taker-self.ensures;
    }

pub returns-clause-gives : goal.returns-clause-gives
returns-clause-gives g c =
    let b = g.B.Book.book c.args.book.now in
    let w = c.args.self.now in
    let T = takers w.instrument w.side w.price b.resting in
    let has = at-one w.at c.in-Some.slot T c.requires.walk.has c.in-Some.is in
    let n = option_map slot_number c.next_taker-self.result in
    let all : w.left ≡ c.args.lots = omega (arith, c.if-lots-self.false, c.requires.fits) in
    seen w.at c.in-Some.slot T (with_left c.open_of-self.result (orders_from n T)) w.left c.args.lots c.in-Some.is
    (gives-all b c.rules.ensures w.instrument w.side w.price c.in-Some.slot.0 has w.left c.args.lots n c.open_of-self.result all c.next_taker-self.ensures c.open_of-self.ensures)
