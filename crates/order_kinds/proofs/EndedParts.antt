-- A close that goes part by part: the sides and the instruments one after the other are all orders of the book.
use Rattle.std.proofs.Common.{◌≡◌, ℕ, ◌+◌, ◌<◌, Bool, true, false, cond, not, ◌&&◌, ◌||◌, List, [], ◌∷◌, ◌++◌, filter, Option, refl, sym, ap, ap₂, ◌∙◌, inl, inr, arith}
use Rattle.std.specs.Prelude.{◌==◌, nat_lt}
use Rattle.std.specs.List.{AllByRecursion}
use Rattle.std.proofs.lemmas.Bool.Decides.{eqb_tells, nat_tests}
use Rattle.gx_base.specs.declared.order.Side.{Side}
use Rattle.gx_base.specs.declared.order.Side.TheVariants.{Buy, Sell}
use Rattle.gx_base.specs.declared.order.Slot.{Slot}
use Rattle.gx_base.specs.declared.order.Desk.{Desk}
use Rattle.gx_base.specs.Emits.{EmitMeanings}
use Rattle.plain_book.specs.declared.entry.Entry.{Entry}
use Rattle.plain_book.specs.Orders.{HasSlot, is_of, is_on, is_side, side_of, stops_of, without}
use Rattle.plain_book.specs.Book.{Book, IsRight, AllDiffer, EachPair, AreInLine, live_orders, book_without}
use Rattle.plain_book.proofs.Filters.{filter-comm, filter-under}
use Rattle.plain_book.proofs.Levels.{same, HasSlot-filter, AllDiffer-front, AllDiffer-back, slots-apart, without-none}
use Rattle.plain_book.proofs.Pairs.{all-from, all-with}
use Rattle.book_walks.proofs.SideLevels.{filter-all}
use Rattle.book_walks.proofs.OrderWalks.{side-differ, stops-differ}
use Rattle.book_walks.proofs.InstrumentWalks.{is_of_before, none-below, before-none, before-all, instrument-next}
use Rattle.order_kinds.specs.TradingSessions.{stays, expires, book_closed}
use Rattle.order_kinds.specs.Inner.Closing.{ended, resting_ended, waiting_ended, ReportsExpiries, HasRoomFor}
use Rattle.order_kinds.proofs.ExpiryReports.{reports-none, reports-as, reports-then}
use Rattle.order_kinds.proofs.Expiring.{without_all, book_without_all, IsExpiring}

-- ---- the walks over a side, and over the stops of an instrument

pub side-leaves : (i : ℕ) (side : Side) (s : ℕ) (b : Book) → side_of i side (book_without s b).resting ≡ without s (side_of i side b.resting)
side-leaves i side s b = filter-comm (is_on i side) (λ (e : Entry). not (e.slot == s)) b.resting

pub stops-leave : (i s : ℕ) (b : Book) → stops_of i (book_without s b).waiting ≡ without s (stops_of i b.waiting)
stops-leave i s b = filter-comm (is_of i) (λ (e : Entry). not (e.slot == s)) b.waiting

module _ {E : Type 0} (m : EmitMeanings E) (time : List ℕ) (i : ℕ) where
  abbrev pub SideExpiring : Side → Book → Desk → E → Option Slot → Book → Desk → E → Type 0
  SideExpiring side b0 d0 x0 at b d x = IsExpiring m time (λ c. side_of i side c.resting) (side-leaves i side) (side-differ i side) b0 d0 x0 at b d x

  abbrev pub StopsExpiring : Book → Desk → E → Option Slot → Book → Desk → E → Type 0
  StopsExpiring b0 d0 x0 at b d x = IsExpiring m time (λ c. stops_of i c.waiting) (stops-leave i) (stops-differ i) b0 d0 x0 at b d x

-- ---- who is gone, by a test

others-stay : (x : Entry) (xs es : List Entry) → (HasSlot x.slot xs → ⊥) → without_all xs (x ∷ es) ≡ x ∷ without_all xs es
others-stay x [] es h = refl
others-stay x (y ∷ ys) es h =
    let apart : (x.slot == y.slot) ≡ false = elim (eqb_tells x.slot y.slot) [ inl t ↦ absurd (h (inl (sym t.1))) | inr t ↦ t.0 ] in
    ap (λ (b : Bool). without_all ys (cond (not b) (x ∷ without y.slot es) (without y.slot es))) apart ∙ others-stay x ys (without y.slot es) (λ k. h (inr k))

-- if those are gone that pass a test, the others are left
gone-by : (p : Entry → Bool) (es : List Entry) → AllDiffer es → without_all (filter p es) es ≡ filter (λ (e : Entry). not (p e)) es
gone-by p [] d = refl
gone-by p (x ∷ xs) d =
    let F = filter p xs in
    let Q = filter (λ (e : Entry). not (p e)) xs in
    let go : (b : Bool) → without_all (cond b (x ∷ F) F) (x ∷ xs) ≡ cond (not b) (x ∷ Q) Q = elim [
      | true ↦
          ap (λ (b : Bool). without_all F (cond (not b) (x ∷ without x.slot xs) (without x.slot xs))) (same x.slot)
          ∙ ap (without_all F) (without-none x.slot xs d.0) ∙ gone-by p xs d.1
      | false ↦ others-stay x F xs (λ h. d.0 (HasSlot-filter p x.slot xs h)) ∙ ap (λ (l : List Entry). x ∷ l) (gone-by p xs d.1)
    ] in go (p x)

-- none of them stands there
none-gone : (xs es : List Entry) → ((s : ℕ) → HasSlot s xs → HasSlot s es → ⊥) → without_all xs es ≡ es
none-gone [] es apart = refl
none-gone (x ∷ xs) es apart = ap (without_all xs) (without-none x.slot es (apart x.slot (inl refl))) ∙ none-gone xs es (λ s h k. apart s (inr h) k)

filter-both : (p q : Entry → Bool) (es : List Entry) → filter p (filter q es) ≡ filter (λ (e : Entry). q e && p e) es
filter-both p q [] = refl
filter-both p q (x ∷ xs) =
    let G = filter (λ (e : Entry). q e && p e) xs in
    let go : (b : Bool) → filter p (cond b (x ∷ filter q xs) (filter q xs)) ≡ cond (b && p x) (x ∷ G) G = elim [
      | true ↦ ap (λ (l : List Entry). cond (p x) (x ∷ l) l) (filter-both p q xs)
      | false ↦ filter-both p q xs
    ] in go (q x)

part-gone : (p : Entry → Bool) (es : List Entry) → AllDiffer es → without_all (filter expires (filter p es)) es ≡ ended p es
part-gone p es d = ap (λ (l : List Entry). without_all l es) (filter-both expires p es) ∙ gone-by (λ (e : Entry). p e && expires e) es d

has-part : (p : Entry → Bool) (s : ℕ) (es : List Entry) → HasSlot s (filter expires (filter p es)) → HasSlot s es
has-part p s es h = HasSlot-filter p s es (HasSlot-filter expires s (filter p es) h)

pub side-gone : (i : ℕ) (side : Side) (b : Book) → IsRight b → book_without_all (filter expires (side_of i side b.resting)) b ≡ resting_ended (is_on i side) b
side-gone i side b r =
    ap₂ (λ (rs ws : List Entry). record b { resting = rs; waiting = ws })
    (part-gone (is_on i side) b.resting (AllDiffer-front b.resting b.waiting r.differ))
    (none-gone (filter expires (side_of i side b.resting)) b.waiting (λ s h k. slots-apart s b.resting b.waiting r.differ (has-part (is_on i side) s b.resting h) k))

pub stops-gone : (i : ℕ) (b : Book) → IsRight b → book_without_all (filter expires (stops_of i b.waiting)) b ≡ waiting_ended (is_of i) b
stops-gone i b r =
    ap₂ (λ (rs ws : List Entry). record b { resting = rs; waiting = ws })
    (none-gone (filter expires (stops_of i b.waiting)) b.resting (λ s h k. slots-apart s b.resting b.waiting r.differ k (has-part (is_of i) s b.waiting h)))
    (part-gone (is_of i) b.waiting (AllDiffer-back b.resting b.waiting r.differ))

-- ---- one part after the other

-- a test that both pass or neither
filter-same : (p q : Entry → Bool) (es : List Entry) → AllByRecursion (λ (e : Entry). p e ≡ q e) es → filter p es ≡ filter q es
filter-same p q [] h = refl
filter-same p q (e ∷ es) h = ap₂ (λ (c : Bool) (l : List Entry). cond c (e ∷ l) l) h.0 (filter-same p q es h.1)

filter-each : (p q : Entry → Bool) (es : List Entry) → ((e : Entry) → p e ≡ q e) → filter p es ≡ filter q es
filter-each p q es h = filter-same p q es (all-from (λ (e : Entry). p e ≡ q e) h es)

neither : (a b x : Bool) → (not (a && x) && not (b && x)) ≡ not ((a || b) && x)
neither true b true = refl
neither true true false = refl
neither true false false = refl
neither false b x = refl

-- first those of one test, and then those of another
ended-both : (p q r : Entry → Bool) → ((e : Entry) → r e ≡ (p e || q e)) → (es : List Entry) → ended q (ended p es) ≡ ended r es
ended-both p q r either es =
    filter-both (λ (e : Entry). not (q e && expires e)) (λ (e : Entry). not (p e && expires e)) es
    ∙ filter-each (λ (e : Entry). not (p e && expires e) && not (q e && expires e)) (λ (e : Entry). not (r e && expires e)) es
    (λ e. neither (p e) (q e) (expires e) ∙ ap (λ (c : Bool). not (c && expires e)) (sym (either e)))

-- those of the other test are all there then
part-kept : (p q : Entry → Bool) → ((e : Entry) → p e ≡ true → q e ≡ false) → (es : List Entry) → filter p (ended q es) ≡ filter p es
part-kept p q apart es = filter-under p (λ (e : Entry). not (q e && expires e)) (λ e h. ap (λ (c : Bool). not (c && expires e)) (apart e h)) es

-- ---- the sides of an instrument

on-one : (c : Bool) (s : Side) → c ≡ ((c && is_side s Buy) || (c && is_side s Sell))
on-one true Buy = refl
on-one true Sell = refl
on-one false s = refl

not-on-both : (c : Bool) (s : Side) → (c && is_side s Sell) ≡ true → (c && is_side s Buy) ≡ false
not-on-both true Buy h = sym h
not-on-both true Sell h = refl
not-on-both false s h = refl

pub sides-ended : (i : ℕ) (b b1 b2 : Book) → b1 ≡ resting_ended (is_on i Buy) b → b2 ≡ resting_ended (is_on i Sell) b1 → b2 ≡ resting_ended (is_of i) b
sides-ended i b b1 b2 buys sells =
    sells ∙ ap (resting_ended (is_on i Sell)) buys
    ∙ ap (λ (es : List Entry). record b { resting = es }) (ended-both (is_on i Buy) (is_on i Sell) (is_of i) (λ e. on-one (is_of i e) e.order.side) b.resting)

pub sells-kept : (i : ℕ) (b b1 : Book) → b1 ≡ resting_ended (is_on i Buy) b → side_of i Sell b1.resting ≡ side_of i Sell b.resting
sells-kept i b b1 buys =
    ap (λ (c : Book). side_of i Sell c.resting) buys ∙ part-kept (is_on i Sell) (is_on i Buy) (λ e. not-on-both (is_of i e) e.order.side) b.resting

-- ---- the instruments one after the other

before-or-here : (n k : ℕ) → nat_lt n (k + 1) ≡ (nat_lt n k || (n == k))
before-or-here n k = grind (arith, nat_tests)

here-not-before : (n k : ℕ) → (n == k) ≡ true → nat_lt n k ≡ false
here-not-before n k h = grind (arith, nat_tests)

below : (n k : ℕ) → n < k → nat_lt n k ≡ true
below n k h = grind (arith, nat_tests)

not-not : (b : Bool) → not (not b) ≡ b
not-not true = refl
not-not false = refl

ended-none : (es : List Entry) → es ≡ ended (is_of_before 0) es
ended-none es =
    sym (filter-all (λ (e : Entry). not (is_of_before 0 e && expires e)) es
    (all-from (λ (e : Entry). not (is_of_before 0 e && expires e) ≡ true) (λ e. ap (λ (c : Bool). not (c && expires e)) (none-below e.order.instrument)) es))

ended-next : (k : ℕ) (es : List Entry) → ended (is_of k) (ended (is_of_before k) es) ≡ ended (is_of_before (k + 1)) es
ended-next k es = ended-both (is_of_before k) (is_of k) (is_of_before (k + 1)) (λ e. before-or-here e.order.instrument k) es

ended-all : (n : ℕ) (es : List Entry) → AllByRecursion (λ (e : Entry). e.order.instrument < n) es → ended (is_of_before n) es ≡ filter stays es
ended-all n es listed =
    filter-same (λ (e : Entry). not (is_of_before n e && expires e)) stays es
    (all-with (λ (e : Entry). e.order.instrument < n) (λ (e : Entry). not (is_of_before n e && expires e) ≡ stays e)
    (λ e h. ap (λ (c : Bool). not (c && expires e)) (below e.order.instrument n h) ∙ not-not (stays e)) es listed)

-- The orders `es` of a book, which `into` puts into it, were gone over up to an instrument.
pub record AreEndedBefore {E : Type 0} (m : EmitMeanings E) (time : List ℕ) (es : List Entry) (into : List Entry → Book) (d0 : Desk) (x0 : E) (k : ℕ) (b : Book) (d : Desk) (x : E) : Type 0 where
  pub book : b ≡ into (ended (is_of_before k) es)
  pub reports : ReportsExpiries m time (filter (is_of_before k) es) d0 d x0 x
  pub room : HasRoomFor b d

module _ {E : Type 0} (m : EmitMeanings E) (time : List ℕ) (es : List Entry) (into : List Entry → Book) (d0 : Desk) (x0 : E) where
  pub ended-first : (b : Book) → b ≡ into es → HasRoomFor b d0 → AreEndedBefore m time es into d0 x0 0 b d0 x0
  ended-first b is room = record {
    book = is ∙ ap into (ended-none es);
    reports = reports-as m time [] (filter (is_of_before 0) es) (sym (before-none es)) (reports-none m time d0 x0);
    room = room;
  }

  module _ {k : ℕ} {b : Book} {d : Desk} {x : E} (w : AreEndedBefore m time es into d0 x0 k b d x) where
    pub ended-then : EachPair AreInLine es → (orders : List Entry) → orders ≡ filter (is_of k) (ended (is_of_before k) es) → (b2 : Book) → b2 ≡ into (ended (is_of k) (ended (is_of_before k) es))
        → (d2 : Desk) (x2 : E) → ReportsExpiries m time orders d d2 x x2 → HasRoomFor b2 d2 → AreEndedBefore m time es into d0 x0 (k + 1) b2 d2 x2
    ended-then lined orders are b2 is d2 x2 told room = record {
      book = is ∙ ap into (ended-next k es);
      reports = reports-as m time (filter (is_of_before k) es ++ filter (is_of k) es) (filter (is_of_before (k + 1)) es) (sym (instrument-next k es lined))
          (reports-then m time (filter (is_of_before k) es) (filter (is_of k) es) w.reports
          (reports-as m time orders (filter (is_of k) es) (are ∙ part-kept (is_of k) (is_of_before k) (λ e. here-not-before e.order.instrument k) es) told));
      room = room;
    }

    pub ended-last : (n : ℕ) → k ≡ n → AllByRecursion (λ (e : Entry). e.order.instrument < n) es → (b ≡ into (filter stays es)) × ReportsExpiries m time es d0 d x0 x
    ended-last n is listed = (
      w.book ∙ ap into (ap (λ (j : ℕ). ended (is_of_before j) es) is ∙ ended-all n es listed),
      reports-as m time (filter (is_of_before k) es) es (ap (λ (j : ℕ). filter (is_of_before j) es) is ∙ before-all n es listed) w.reports,
    )

-- ---- the resting orders, and then the waiting stops

pub all-ended : (b b1 b2 : Book) → b1 ≡ record b { resting = filter stays b.resting } → b2 ≡ record b1 { waiting = filter stays b1.waiting } → b2 ≡ book_closed b
all-ended b b1 b2 resting waiting = waiting ∙ ap (λ (c : Book). record c { waiting = filter stays c.waiting }) resting

pub all-reported : {E : Type 0} (m : EmitMeanings E) (time : List ℕ) (b b1 : Book) → b1 ≡ record b { resting = filter stays b.resting } → {d0 d1 d2 : Desk} {x0 x1 x2 : E}
    → ReportsExpiries m time b.resting d0 d1 x0 x1 → ReportsExpiries m time b1.waiting d1 d2 x1 x2 → ReportsExpiries m time (live_orders b) d0 d2 x0 x2
all-reported m time b b1 is first second = reports-then m time b.resting b.waiting first (reports-as m time b1.waiting b.waiting (ap (λ (c : Book). c.waiting) is) second)
