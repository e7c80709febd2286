-- A trade of a resting order and the incoming one keeps what has been told of the open orders.
use Rattle.std.proofs.Common.{◌≡◌, ◌≢◌, ℕ, ◌+◌, ◌-◌, ◌≤◌, List, [], ◌∷◌, ◌++◌, refl, sym, ap, subst, ◌∙◌, arith, inl, inr, append_assoc}
use Rattle.std.proofs.lemmas.List.Sorted.{IsPermutation-sym, IsPermutation-cons, IsPermutation-trans}
use Rattle.std.proofs.lemmas.List.Sums.{sum_by-cons}
use Rattle.std.proofs.lemmas.Bool.Decides.{eqb_tells}
use Rattle.std.specs.List.{AllByRecursion}
use Rattle.gx_base.specs.declared.price.Price.{Price}
use Rattle.gx_base.specs.declared.order.Side.{Side}
use Rattle.gx_base.specs.declared.order.Side.TheVariants.{Buy, Sell}
use Rattle.gx_base.specs.declared.order.Order.{Order}
use Rattle.gx_base.specs.declared.order.Desk.{Desk}
use Rattle.gx_base.specs.declared.event.Head.{Head}
use Rattle.gx_base.specs.declared.event.StepName.{StepName}
use Rattle.gx_base.specs.declared.event.Event.{Event}
use Rattle.gx_base.specs.declared.event.Event.TheVariants.{Fill}
use Rattle.plain_book.specs.declared.entry.Entry.{Entry}
use Rattle.plain_book.specs.Orders.{HasSlot, order_of, opposite, without, with_order, settled, refreshed, filled_by}
use Rattle.plain_book.specs.Book.{Book, live_orders, AllDiffer, book_traded}
use Rattle.plain_book.specs.Match.{MatchState, next_head, report_counted, taken_by, trade, book_share_noted}
use Rattle.plain_book.proofs.Levels.{AllDiffer-front}
use Rattle.plain_book.proofs.Pairs.{all-append, all-with}
use Rattle.level_sweep.proofs.EachOrder.{StaysTrue, all-kept}
use Rattle.order_kinds.specs.Balance.{ArePaired}
use Rattle.engine_laws.proofs.Events.{paired-append, given_fill, taken_fill}
use Rattle.engine_laws.proofs.Told.{Account, account, is_of, IsTold, told-shuffled, told-closed, told-after, swapped}
use Rattle.engine_laws.proofs.Books.{accounts, AreSame, IsByNumber, taken-same, changed-same, settled-gone, settled-same, same-front, numbered-differ}

-- ---- what holds at every moment

-- an order that rests shows some of what is open, and all of it where it shows no part
pub record Shows (o : Order) : Type 0 where
  pub some : 1 ≤ o.shown
  pub within : o.shown ≤ o.leaves
  pub unhidden : o.show ≡ 0 → o.shown ≡ o.leaves

abbrev pub Rests : Entry → Type 0
Rests e = IsByNumber e × Shows e.order

-- These events tell of the live orders, which are by their numbers, and of others that are open besides: an incoming one, or
-- none. So many numbers of orders and of trades are given.
pub record IsSound (events : List Event) (others : List Account) (b : Book) (orders trades : ℕ) : Type 0 where
  pub told : IsTold events orders (others ++ accounts (live_orders b))
  pub paired : ArePaired 1 trades events
  pub rest : AllByRecursion Rests b.resting
  pub wait : AllByRecursion IsByNumber b.waiting

-- after these events, in the middle of a match: the incoming order is open
abbrev pub InMatch : List Event → MatchState → Type 0
InMatch before m = IsSound (before ++ m.events) (account m.taker.order ∷ []) m.book m.desk.orders m.desk.trades

pub live-by-number : (b : Book) → AllByRecursion Rests b.resting → AllByRecursion IsByNumber b.waiting → AllByRecursion IsByNumber (live_orders b)
live-by-number b rest wait = all-append IsByNumber b.resting b.waiting (all-with Rests IsByNumber (λ e h. h.0) b.resting rest) wait

-- no two live orders have one slot
pub match-differ : (before : List Event) (m : MatchState) → InMatch before m → AllDiffer (live_orders m.book)
match-differ before m h =
    numbered-differ (live_orders m.book) (live-by-number m.book h.rest h.wait)
    (λ k. omega (arith, h.told.single k, sum_by-cons (is_of k) (account m.taker.order) (accounts (live_orders m.book))))

pub resting-differ : (before : List Event) (m : MatchState) → InMatch before m → AllDiffer m.book.resting
resting-differ before m h = AllDiffer-front m.book.resting m.book.waiting (match-differ before m h)

-- ---- trades and noted shares keep how orders rest

show-back : (n : ℕ) (o : Order) → Shows o → o.leaves - n ≢ 0 → o.shown - n ≡ 0 → Shows (refreshed (filled_by n o))
show-back n o h a b =
    let hidden : o.show ≢ 0 = λ e. (let u = h.unhidden e in omega (arith, u, a, b)) in
    record { some = omega (arith, hidden, a); within = omega arith; unhidden = λ e. absurd (hidden e) }

show-stays : (n : ℕ) (o : Order) → Shows o → o.shown - n ≢ 0 → Shows (filled_by n o)
show-stays n o h b = record { some = omega (arith, b); within = omega (arith, h.within); unhidden = λ e. ap (λ (k : ℕ). k - n) (h.unhidden e) }

mark-stays : (n : ℕ) (o : Order) → Shows o → Shows (record o { prorated = n })
mark-stays n o h = record { some = h.some; within = h.within; unhidden = h.unhidden }

rests : StaysTrue Rests
rests = record {
  fills = λ n e x p q is some. (is ∙ p.0, show-stays n e.order p.1 some);
  refreshes = λ n e p some none. (p.0, show-back n e.order p.1 some none);
  marks = λ n e x p q is. (is ∙ p.0, mark-stays n e.order p.1);
}

-- ---- one fill

pub told-fill : {events : List Event} {orders : ℕ} (head : Head) (o : Order) (lots : ℕ) (price : Price) (step : StepName) (number : ℕ) (x : Account) (xs : List Account)
    → lots ≤ x.leaves → account o ≡ record x { filled = x.filled + lots; leaves = x.leaves - lots } → IsTold events orders (x ∷ xs)
    → IsTold (events ++ Fill head o lots price step number ∷ []) orders (account o ∷ xs)
told-fill head o lots price step number x xs le is h =
    let y : Account = record x { filled = x.filled + lots; leaves = x.leaves - lots } in
    let quantity : o.quantity ≡ x.quantity = ap (λ (a : Account). a.quantity) is in
    let filled : o.filled ≡ x.filled + lots = ap (λ (a : Account). a.filled) is in
    let leaves : o.leaves ≡ x.leaves - lots = ap (λ (a : Account). a.leaves) is in
    let whole : o.quantity ≡ o.filled + o.leaves = omega (arith, quantity, filled, leaves, h.whole.0, le) in
    told-after (Fill head o lots price step number) o x (account o) xs
    (record {
      is = refl;
      number = ap (λ (a : Account). a.number) is;
      same = ap (λ (a : Account). a.number) is;
      whole = whole;
      filled = filled;
      tells = refl;
      left = refl;
      adds = omega (arith, whole);
      spent = tt;
      enters = λ total all others gone within t. omega (arith, t, leaves, le);
    }) h

-- ---- a trade

opposite-twice : (s : Side) → s ≡ opposite (opposite s)
opposite-twice Buy = refl
opposite-twice Sell = refl

module _ (before : List Event) (step : StepName) (s n : ℕ) (m : MatchState) where
  -- of a live order of the other side, of no more lots than are open of it and of the incoming one
  pub trade-kept : HasSlot s m.book.resting → n ≤ (order_of s m.book.resting).leaves → (order_of s m.book.resting).side ≡ opposite m.taker.order.side → n ≤ m.taker.order.leaves
      → InMatch before m → InMatch before (trade step s n m)
  trade-kept has fits meets wanted h =
      let resting = order_of s m.book.resting in
      let given : Order = filled_by n resting in
      let taken : Order = taken_by n m.taker.order in
      let number = m.desk.trades + 1 in
      let counted : Desk = record m.desk { trades = number } in
      let first = given_fill step s n m in
      let second = taken_fill step s n m in
      let events = before ++ m.events in
      let differ = resting-differ before m h in
      let T = account m.taker.order in
      let R = account resting in
      let others = accounts (without s m.book.resting ++ m.book.waiting) in
      let here : IsTold events m.desk.orders (R ∷ (T ∷ others)) =
      told-shuffled (T ∷ accounts (live_orders m.book)) (R ∷ (T ∷ others))
      (IsPermutation-trans (T ∷ accounts (live_orders m.book)) (T ∷ (R ∷ others)) (R ∷ (T ∷ others))
      (IsPermutation-cons T (accounts (live_orders m.book)) (R ∷ others) (same-front m.book.resting (without s m.book.resting) R m.book.waiting (taken-same s m.book.resting differ has)))
      (swapped T R others)) h.told in
      let one = told-fill (next_head counted given.firm m.taker.time) given n resting.price step number R (T ∷ others) fits refl here in
      let turned = told-shuffled (account given ∷ (T ∷ others)) (T ∷ (account given ∷ others)) (swapped (account given) T others) one in
      let two = told-fill (next_head (report_counted counted given.firm) taken.firm m.taker.time) taken n resting.price step number T (account given ∷ others) wanted refl turned in
      let joined : (events ++ first ∷ []) ++ second ∷ [] ≡ before ++ ((m.events ++ first ∷ []) ++ second ∷ []) =
      ap (λ (l : List Event). l ++ second ∷ []) (append_assoc before m.events (first ∷ [])) ∙ append_assoc before (m.events ++ first ∷ []) (second ∷ []) in
      let after = live_orders (book_traded s n m.book) in
      let end : IsTold ((events ++ first ∷ []) ++ second ∷ []) m.desk.orders (account taken ∷ accounts after) = elim (eqb_tells given.leaves 0) [
        | inl t ↦
            subst (λ (es : List Entry). IsTold ((events ++ first ∷ []) ++ second ∷ []) m.desk.orders (account taken ∷ accounts (es ++ m.book.waiting))) (sym (settled-gone s given m.book.resting t.1))
            (told-closed (account given) (account taken ∷ others) t.1
            (told-shuffled (account taken ∷ (account given ∷ others)) (account given ∷ (account taken ∷ others)) (swapped (account taken) (account given) others) two))
        | inr t ↦
            told-shuffled (account taken ∷ (account given ∷ others)) (account taken ∷ accounts after)
            (IsPermutation-cons (account taken) (account given ∷ others) (accounts after)
            (IsPermutation-sym (accounts after) (account given ∷ others)
            (same-front (settled s given m.book.resting) (without s m.book.resting) (account given) m.book.waiting (settled-same s given m.book.resting differ has t.1)))) two
      ] in
      record {
        told = subst (λ (l : List Event). IsTold l m.desk.orders (account taken ∷ accounts after)) joined end;
        paired = subst (ArePaired 1 number) (sym (append_assoc events (first ∷ []) (second ∷ [])) ∙ joined)
            (paired-append 1 m.desk.trades number events (first ∷ (second ∷ [])) h.paired (refl, refl, refl, refl, opposite-twice m.taker.order.side ∙ ap opposite (sym meets), refl));
        rest = (all-kept Rests rests).trades step s n m h.rest;
        wait = h.wait;
      }

  -- a noted share is no quantity
  pub marks-kept : HasSlot s m.book.resting → InMatch before m → InMatch before (record m { book = book_share_noted s n m.book })
  marks-kept has h =
      let differ = resting-differ before m h in
      let resting = order_of s m.book.resting in
      let now : Order = record resting { prorated = n } in
      let T = account m.taker.order in
      let es = m.book.resting in
      let left = accounts (without s es ++ m.book.waiting) in
      let was : AreSame (accounts (live_orders m.book)) (account resting ∷ left) = same-front es (without s es) (account resting) m.book.waiting (taken-same s es differ has) in
      let is : AreSame (accounts (with_order s now es ++ m.book.waiting)) (account resting ∷ left) = same-front (with_order s now es) (without s es) (account resting) m.book.waiting (changed-same s now es differ has) in
      record {
        told = told-shuffled (T ∷ accounts (live_orders m.book)) (T ∷ accounts (with_order s now es ++ m.book.waiting))
            (IsPermutation-cons T (accounts (live_orders m.book)) (accounts (with_order s now es ++ m.book.waiting))
            (IsPermutation-trans (accounts (live_orders m.book)) (account resting ∷ left) (accounts (with_order s now es ++ m.book.waiting)) was
            (IsPermutation-sym (accounts (with_order s now es ++ m.book.waiting)) (account resting ∷ left) is))) h.told;
        paired = h.paired;
        rest = (all-kept Rests rests).marks s n m h.rest;
        wait = h.wait;
      }
