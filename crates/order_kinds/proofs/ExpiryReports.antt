-- Reports of orders that expire, some after others: what was put, how far the counters rose, and what there is room for.
use Rattle.std.proofs.Common.{◌≡◌, ℕ, ◌+◌, ◌≤◌, ◌<◌, ◌^◌, List, [], ◌∷◌, ◌++◌, filter, not, length, slice_index, refl, sym, ap, subst, ◌∙◌, arith}
use Rattle.std.proofs.lemmas.List.Elements.{filter-append}
use Rattle.std.proofs.lemmas.List.Filters.{length-filter_both}
use Rattle.gx_base.specs.declared.order.Desk.{Desk}
use Rattle.gx_base.specs.declared.event.Event.{Event}
use Rattle.gx_base.specs.Emits.{EmitMeanings}
use Rattle.gx_base.specs.EmitLaws.{emits_none, emits_joined, emits_as}
use Rattle.plain_book.specs.declared.entry.Entry.{Entry}
use Rattle.plain_book.specs.Orders.{HasSlot}
use Rattle.plain_book.specs.Book.{Book, IsRight, live_orders, book_without}
use Rattle.plain_book.specs.Match.{report_counted, next_head}
use Rattle.plain_book.proofs.LineCounts.{line-counted}
use Rattle.plain_book.proofs.Right.{live-without, length-without}
use Rattle.order_kinds.specs.TradingSessions.{expires, expired, expiry_reports}
use Rattle.order_kinds.specs.Inner.Taking.{CountsRose}
use Rattle.order_kinds.specs.Inner.Closing.{ReportsExpiries, HasRoomFor}
use Rattle.order_kinds.proofs.Counts.{rose-counted, rose-both, rose-within}

-- ---- one list after the other

reports-append : (time : List ℕ) (xs ys : List Entry) (desk : Desk) → let first = expiry_reports time xs desk in let second = expiry_reports time ys first.0 in
    expiry_reports time (xs ++ ys) desk ≡ (second.0, first.1 ++ second.1)
reports-append time [] ys desk = refl
reports-append time (x ∷ xs) ys desk =
    let head = expired (next_head desk x.order.firm time) x.order in
    ap (λ (t : Desk × List Event). (t.0, head ∷ t.1)) (reports-append time xs ys (report_counted desk x.order.firm))

module _ {E : Type 0} (m : EmitMeanings E) (time : List ℕ) where
  pub reports-none : (d : Desk) (x : E) → ReportsExpiries m time [] d d x x
  reports-none d x = record { desk = refl; emits = emits_none m x }

  pub reports-as : {d1 d2 : Desk} {x1 x2 : E} (xs ys : List Entry) → xs ≡ ys → ReportsExpiries m time xs d1 d2 x1 x2 → ReportsExpiries m time ys d1 d2 x1 x2
  reports-as {d1} {d2} {x1} {x2} xs ys is r = subst (λ (es : List Entry). ReportsExpiries m time es d1 d2 x1 x2) is r

  pub reports-then : {d1 d2 d3 : Desk} {x1 x2 x3 : E} (xs ys : List Entry)
      → ReportsExpiries m time xs d1 d2 x1 x2 → ReportsExpiries m time ys d2 d3 x2 x3 → ReportsExpiries m time (xs ++ ys) d1 d3 x1 x3
  reports-then {d1} {d2} {d3} {x1} {x2} {x3} xs ys r s =
      let fx = filter expires xs in
      let fy = filter expires ys in
      let first = expiry_reports time fx d1 in
      let second = expiry_reports time fy first.0 in
      let all : expiry_reports time (filter expires (xs ++ ys)) d1 ≡ (second.0, first.1 ++ second.1) =
      ap (λ (es : List Entry). expiry_reports time es d1) (filter-append expires xs ys) ∙ reports-append time fx fy d1 in
      let later : expiry_reports time fy d2 ≡ second = ap (λ (d : Desk). expiry_reports time fy d) r.desk in
      record {
        desk = s.desk ∙ ap (λ (t : Desk × List Event). t.0) later ∙ sym (ap (λ (t : Desk × List Event). t.0) all);
        emits = emits_as m x1 x3 (first.1 ++ (expiry_reports time fy d2).1) (expiry_reports time (filter expires (xs ++ ys)) d1).1
            (ap (λ (t : Desk × List Event). first.1 ++ t.1) later ∙ sym (ap (λ (t : Desk × List Event). t.1) all))
            (emits_joined m x1 x2 x3 first.1 (expiry_reports time fy d2).1 r.emits s.emits);
      }

-- ---- how far the counters rise

rose-reports : (time : List ℕ) (es : List Entry) (desk : Desk) → CountsRose (length es) desk (expiry_reports time es desk).0
rose-reports time [] desk = record { messages = refl; orders = refl; trades = omega arith; reports = omega arith; lines = λ place. omega arith }
rose-reports time (e ∷ es) desk =
    let after = report_counted desk e.order.firm in
    let last = (expiry_reports time es after).0 in
    let both = rose-both 1 (length es) desk after last (rose-counted desk e.order.firm) (rose-reports time es after) in
    rose-within (1 + length es) (length (e ∷ es)) desk last (omega arith) both

-- by no more than the live orders of a book are
pub rose-expiries : (time : List ℕ) (b : Book) → IsRight b → (old new : Desk) → new ≡ (expiry_reports time (filter expires (live_orders b)) old).0 → CountsRose (2 ^ 38) old new
rose-expiries time b right old new is =
    let es = filter expires (live_orders b) in
    let few : length es ≤ 2 ^ 38 = omega (arith, length-filter_both expires (λ e. not (expires e)) (λ e. refl) (live_orders b), right.few, right.small) in
    subst (λ (d : Desk). CountsRose (2 ^ 38) old d) (sym is) (rose-within (length es) (2 ^ 38) old _ few (rose-reports time es old))

-- ---- the room that there is

module _ (b : Book) (right : IsRight b) (slot : ℕ) (has : HasSlot slot (live_orders b)) (desk : Desk) (room : HasRoomFor b desk) where
  one-less : length (live_orders b) ≡ length (live_orders (book_without slot b)) + 1
  one-less = omega (arith, ap (λ (es : List Entry). length es) (live-without slot b), length-without slot (live_orders b) right.differ has)

  pub room-reports : desk.reports < 2 ^ 63
  room-reports = omega (arith, one-less, room.reports)

  pub room-lines : (place : ℕ) → slice_index desk.lines place < 2 ^ 63
  room-lines place = omega (arith, one-less, room.lines place)

  -- after an order left and was reported
  pub room-left : (after : Book) → after ≡ book_without slot b → (firm : ℕ) (then : Desk) → then ≡ report_counted desk firm → HasRoomFor after then
  room-left after gone firm then counted =
      let fewer : length (live_orders b) ≡ length (live_orders after) + 1 = one-less ∙ ap (λ (c : Book). length (live_orders c) + 1) (sym gone) in
      record {
        reports = omega (arith, fewer, room.reports, ap (λ (d : Desk). d.reports) counted);
        lines = λ place. omega (arith, fewer, room.lines place, line-counted desk.lines firm place, ap (λ (d : Desk). slice_index d.lines place) counted);
      }
