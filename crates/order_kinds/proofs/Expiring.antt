-- The orders of one part of a book expire, one after the other: who is gone, and what stands at a slot of the walk.
use Rattle.std.proofs.Common.{◌≡◌, ℕ, ◌<◌, Bool, true, false, cond, not, List, [], ◌∷◌, ◌++◌, filter, Option, option_map, refl, sym, ap, ap₂, subst, ◌∙◌, append-nil, append_assoc}
use Rattle.std.proofs.lemmas.List.Elements.{filter-append}
use Rattle.gx_base.specs.declared.order.Order.{Order}
use Rattle.gx_base.specs.declared.order.Slot.{Slot}
use Rattle.gx_base.specs.declared.order.Desk.{Desk}
use Rattle.gx_base.specs.declared.event.Event.{Event}
use Rattle.gx_base.specs.Emits.{EmitMeanings, Emits}
use Rattle.gx_base.specs.EmitLaws.{emits_as}
use Rattle.plain_book.specs.declared.entry.Entry.{Entry}
use Rattle.plain_book.specs.Orders.{order_of, slot_of, without}
use Rattle.plain_book.specs.Book.{Book, IsRight, AllDiffer, live_orders, book_without, slot_number}
use Rattle.plain_book.specs.Match.{report_counted, next_head}
use Rattle.plain_book.proofs.Levels.{same, without-none, other}
use Rattle.book_walks.proofs.OrderWalks.{Next, fewer-behind, left_from}
use Rattle.order_kinds.specs.TradingSessions.{expires, expired, expiry_reports}
use Rattle.order_kinds.specs.Inner.Closing.{ReportsExpiries, HasRoomFor}
use Rattle.order_kinds.proofs.ExpiryReports.{reports-none, reports-as, reports-then}

-- ---- who is gone

-- these orders are gone
abbrev pub without_all : List Entry → List Entry → List Entry
without_all [] es = es
without_all (x ∷ xs) es = without_all xs (without x.slot es)

pub all-more : (xs : List Entry) (e : Entry) (es : List Entry) → without_all (xs ++ e ∷ []) es ≡ without e.slot (without_all xs es)
all-more [] e es = refl
all-more (x ∷ xs) e es = all-more xs e (without x.slot es)

-- the book without them
abbrev pub book_without_all : List Entry → Book → Book
book_without_all xs b = record b { resting = without_all xs b.resting; waiting = without_all xs b.waiting }

book-more : (xs : List Entry) (e : Entry) (b : Book) → book_without e.slot (book_without_all xs b) ≡ book_without_all (xs ++ e ∷ []) b
book-more xs e b = ap₂ (λ (rs ws : List Entry). record b { resting = rs; waiting = ws }) (sym (all-more xs e b.resting)) (sym (all-more xs e b.waiting))

without-middle : (xs ys : List Entry) (e : Entry) → AllDiffer (xs ++ e ∷ ys) → without e.slot (xs ++ e ∷ ys) ≡ xs ++ ys
without-middle [] ys e d = ap (λ (b : Bool). cond (not b) (e ∷ without e.slot ys) (without e.slot ys)) (same e.slot) ∙ without-none e.slot ys d.0
without-middle (x ∷ xs) ys e d =
    let rest = without e.slot (xs ++ e ∷ ys) in
    ap (λ (b : Bool). cond (not b) (x ∷ rest) rest) (other x e xs ys d) ∙ ap (λ (l : List Entry). x ∷ l) (without-middle xs ys e d.1)

-- ---- who stays, of the orders that the walk has met

abbrev pub stayed : List Entry → List Entry
stayed es = filter (λ (e : Entry). not (expires e)) es

filter-end : (p : Entry → Bool) (xs : List Entry) (e : Entry) (c : Bool) → p e ≡ c → filter p (xs ++ e ∷ []) ≡ filter p xs ++ cond c (e ∷ []) []
filter-end p xs e c is = filter-append p xs (e ∷ []) ∙ ap (λ (b : Bool). filter p xs ++ cond b (e ∷ []) []) is

-- ---- the walk

module _ {E : Type 0} (m : EmitMeanings E) (time : List ℕ) (part : Book → List Entry) (leaves : (s : ℕ) (b : Book) → part (book_without s b) ≡ without s (part b)) (differ : (b : Book) → IsRight b → AllDiffer (part b)) where
  -- Of a part of the book some orders were met, and the walk stands at the first of the rest.
  pub record IsExpiring (b0 : Book) (d0 : Desk) (x0 : E) (at : Option Slot) (b : Book) (d : Desk) (x : E) : Type 0 where
    pub met : List Entry
    pub rest : List Entry
    pub whole : part b0 ≡ met ++ rest
    pub left : part b ≡ stayed met ++ rest
    pub next : option_map slot_number at ≡ slot_of rest
    pub book : b ≡ book_without_all (filter expires met) b0
    pub reports : ReportsExpiries m time met d0 d x0 x
    pub room : HasRoomFor b d

  module _ (b0 : Book) (d0 : Desk) (x0 : E) where
    pub expiring-first : (at : Option Slot) → option_map slot_number at ≡ slot_of (part b0) → HasRoomFor b0 d0 → IsExpiring b0 d0 x0 at b0 d0 x0
    expiring-first at next room = record {
      met = [];
      rest = part b0;
      whole = refl;
      left = refl;
      next = next;
      book = refl;
      reports = reports-none m time d0 x0;
      room = room;
    }

    module _ {at : Option Slot} {b : Book} {d : Desk} {x : E} (w : IsExpiring b0 d0 x0 at b d x) where
      pub expiring-all : w.rest ≡ [] → (b ≡ book_without_all (filter expires (part b0)) b0) × ReportsExpiries m time (part b0) d0 d x0 x
      expiring-all none =
          let all : w.met ≡ part b0 = sym (append-nil w.met) ∙ ap (λ (l : List Entry). w.met ++ l) (sym none) ∙ sym w.whole in
          (w.book ∙ ap (λ (l : List Entry). book_without_all (filter expires l) b0) all, reports-as m time w.met (part b0) all w.reports)

      module _ {slot : ℕ} (n : Next w.rest slot) (after : Option Slot) (then : option_map slot_number after ≡ slot_of n.behind) where
        abbrev e : Entry
        e = n.e

        moved : part b0 ≡ (w.met ++ e ∷ []) ++ n.behind
        moved = w.whole ∙ ap (λ (l : List Entry). w.met ++ l) n.is ∙ sym (append_assoc w.met (e ∷ []) n.behind)

        now : part b ≡ stayed w.met ++ e ∷ n.behind
        now = w.left ∙ ap (λ (l : List Entry). stayed w.met ++ l) n.is

        -- fewer are to come
        pub expiring-fewer : IsRight b0 → left_from (option_map slot_number after) (part b0) < left_from (option_map slot_number at) (part b0)
        expiring-fewer right = fewer-behind (part b0) w.met w.rest slot (option_map slot_number at) (option_map slot_number after) (differ b0 right) w.whole w.next n then

        -- the order stays
        pub expiring-stays : expires n.e ≡ false → IsExpiring b0 d0 x0 after b d x
        expiring-stays is =
            let same_gone : filter expires w.met ≡ filter expires (w.met ++ e ∷ []) = sym (append-nil (filter expires w.met)) ∙ sym (filter-end expires w.met e false is) in
            record {
              met = w.met ++ e ∷ [];
              rest = n.behind;
              whole = moved;
              left = now ∙ sym (append_assoc (stayed w.met) (e ∷ []) n.behind) ∙ ap (λ (l : List Entry). l ++ n.behind) (sym (filter-end (λ (y : Entry). not (expires y)) w.met e true (ap not is)));
              next = then;
              book = w.book ∙ ap (λ (l : List Entry). book_without_all l b0) same_gone;
              reports = record {
                desk = w.reports.desk ∙ ap (λ (l : List Entry). (expiry_reports time l d0).0) same_gone;
                emits = emits_as m x0 x _ _ (ap (λ (l : List Entry). (expiry_reports time l d0).1) same_gone) w.reports.emits;
              };
              room = w.room;
            }

        -- it expires
        module _ (is : expires n.e ≡ true) (right : IsRight b) (order : order_of slot (live_orders b) ≡ n.e.order) where
          pub expiring-gone : (b2 : Book) → b2 ≡ book_without slot b → (d2 : Desk) → d2 ≡ report_counted d (order_of slot (live_orders b)).firm
              → (x2 : E) → Emits m x x2 (expired (next_head d (order_of slot (live_orders b)).firm time) (order_of slot (live_orders b)) ∷ [])
              → HasRoomFor b2 d2 → IsExpiring b0 d0 x0 after b2 d2 x2
          expiring-gone b2 gone d2 counted x2 emits room =
              let more : filter expires w.met ++ e ∷ [] ≡ filter expires (w.met ++ e ∷ []) = sym (filter-end expires w.met e true is) in
              let only : filter expires (e ∷ []) ≡ e ∷ [] = ap (λ (c : Bool). cond c (e ∷ []) []) is in
              let one : expiry_reports time (filter expires (e ∷ [])) d ≡ (report_counted d e.order.firm, expired (next_head d e.order.firm time) e.order ∷ []) =
              ap (λ (l : List Entry). expiry_reports time l d) only in
              let told : ReportsExpiries m time (e ∷ []) d d2 x x2 = record {
                desk = counted ∙ ap (λ (o : Order). report_counted d o.firm) order ∙ sym (ap (λ (t : Desk × List Event). t.0) one);
                emits = emits_as m x x2 _ _ (ap (λ (o : Order). expired (next_head d o.firm time) o ∷ []) order ∙ sym (ap (λ (t : Desk × List Event). t.1) one)) emits;
              } in
              record {
                met = w.met ++ e ∷ [];
                rest = n.behind;
                whole = moved;
                left =
                    ap part gone ∙ leaves slot b
                    ∙ ap (λ (k : ℕ). without k (part b)) (sym n.named)
                    ∙ ap (without e.slot) now
                    ∙ without-middle (stayed w.met) n.behind e (subst AllDiffer now (differ b right))
                    ∙ ap (λ (l : List Entry). l ++ n.behind) (sym (filter-end (λ (y : Entry). not (expires y)) w.met e false (ap not is) ∙ append-nil (stayed w.met)));
                next = then;
                book =
                    gone
                    ∙ ap (λ (k : ℕ). book_without k b) (sym n.named)
                    ∙ ap (book_without e.slot) w.book
                    ∙ book-more (filter expires w.met) e b0
                    ∙ ap (λ (l : List Entry). book_without_all l b0) more;
                reports = reports-then m time w.met (e ∷ []) w.reports told;
                room = room;
              }
