-- Where each order is named by its number in place of its slot, a match does the same.
use Rattle.std.proofs.Common.{◌≡◌, ℕ, ◌+◌, Bool, true, false, cond, not, List, [], ◌∷◌, ◌++◌, filter, refl, sym, ap, ◌∙◌, inl, inr}
use Rattle.std.specs.Prelude.{◌==◌}
use Rattle.std.specs.List.{AllByRecursion}
use Rattle.std.proofs.lemmas.List.{map-append}
use Rattle.std.proofs.lemmas.Bool.Decides.{eqb_tells}
use Rattle.gx_base.specs.declared.price.Price.{Price}
use Rattle.gx_base.specs.declared.order.Order.{Order}
use Rattle.gx_base.specs.declared.order.Side.{Side}
use Rattle.gx_base.specs.declared.event.StepName.{StepName}
use Rattle.plain_book.specs.declared.entry.Entry.{Entry}
use Rattle.plain_book.specs.Orders.{HasSlot, is_at, is_on, is_at_earlier_level, order_of, without, with_order, reordered, placed, settled, traded, refreshed, filled_by, side_of, price_of, best_of}
use Rattle.plain_book.specs.Book.{Book}
use Rattle.plain_book.specs.Match.{MatchState, Share, trade, trade_if_any, report, fill, taken_by, lengthened, is_prorata, book_share_noted, share_noted, trade_share, trade_shares}
use Rattle.plain_book.specs.Steps.{facing, level_now}
use Rattle.plain_book.proofs.Levels.{same, renewed}
use Rattle.plain_book.proofs.Pairs.{all-from, all-with}
use Rattle.plain_book.specs.Numbers.{entry_numbered, numbered, book_numbered, match_numbered}
use Rattle.level_sweep.proofs.EachOrder.{none-traded}
use Rattle.level_sweep.proofs.Names.{GoesWith, Agree, KeepsNames, found-name, keeps-marked, keeps-share}

-- ---- lists

pub filter-numbered : (p q : Entry → Bool) (es : List Entry) → AllByRecursion (λ e. q (entry_numbered e) ≡ p e) es → filter q (numbered es) ≡ numbered (filter p es)
filter-numbered p q [] h = refl
filter-numbered p q (e ∷ es) h =
    let t = filter-numbered p q es h.1 in
    let go : (b : Bool) → cond b (entry_numbered e ∷ filter q (numbered es)) (filter q (numbered es)) ≡ numbered (cond b (e ∷ filter p es) (filter p es)) = elim [
      | true ↦ ap (λ (x : List Entry). entry_numbered e ∷ x) t
      | false ↦ t
    ] in ap (λ (b : Bool). cond b (entry_numbered e ∷ filter q (numbered es)) (filter q (numbered es))) h.0 ∙ go (p e)

-- a test that looks at the order alone
pub filter-order : (p : Entry → Bool) → ((e : Entry) → p (entry_numbered e) ≡ p e) → (es : List Entry) → filter p (numbered es) ≡ numbered (filter p es)
filter-order p h es = filter-numbered p p es (all-from (λ e. p (entry_numbered e) ≡ p e) h es)

pub level-numbered : (price : Price) (m : MatchState) → level_now price (match_numbered m) ≡ numbered (level_now price m)
level-numbered price m = filter-order (is_at (facing price m.taker)) (λ e. refl) m.book.resting

pub side-numbered : (i : ℕ) (d : Side) (es : List Entry) → side_of i d (numbered es) ≡ numbered (side_of i d es)
side-numbered i d es = filter-order (is_on i d) (λ e. refl) es

price-numbered : (es : List Entry) → price_of (numbered es) ≡ price_of es
price-numbered [] = refl
price-numbered (e ∷ es) = refl

pub best-numbered : (i : ℕ) (d : Side) (es : List Entry) → best_of i d (numbered es) ≡ best_of i d es
best-numbered i d es = ap price_of (side-numbered i d es) ∙ price-numbered (side_of i d es)

pub placed-numbered : (n : Entry) (es : List Entry) → placed (entry_numbered n) (numbered es) ≡ numbered (placed n es)
placed-numbered n es =
    ap (λ (q : List Entry). q ++ entry_numbered n ∷ filter (is_at_earlier_level n) (numbered es)) (filter-order (λ e. not (is_at_earlier_level n e)) (λ e. refl) es)
    ∙ ap (λ (q : List Entry). numbered (filter (λ e. not (is_at_earlier_level n e)) es) ++ entry_numbered n ∷ q) (filter-order (is_at_earlier_level n) (λ e. refl) es)
    ∙ sym (map-append entry_numbered (filter (λ e. not (is_at_earlier_level n e)) es) (n ∷ filter (is_at_earlier_level n) es))

-- ---- one order

pub test-is : (m n : ℕ) → (m == n) ≡ true → m ≡ n
test-is m n h = elim (eqb_tells m n) [ inl t ↦ t.1 | inr t ↦ absurd (let k : true ≡ false = sym h ∙ t.0 in cc) ]

module _ (s k : ℕ) where
  pub order-numbered : (es : List Entry) → Agree s k es → order_of k (numbered es) ≡ order_of s es
  order-numbered [] a = refl
  order-numbered (e ∷ es) a =
      ap (λ (b : Bool). cond b e.order (order_of k (numbered es))) (sym a.0)
      ∙ ap (λ (o : Order). cond (e.slot == s) e.order o) (order-numbered es a.1)

  pub without-numbered : (es : List Entry) → Agree s k es → without k (numbered es) ≡ numbered (without s es)
  without-numbered es a =
      filter-numbered (λ e. not (e.slot == s)) (λ e. not (e.slot == k)) es
      (all-with (λ (e : Entry). GoesWith s k e.slot e.order.number) (λ (e : Entry). not (e.order.number == k) ≡ not (e.slot == s)) (λ e h. ap not (sym h)) es a)

  pub with_order-numbered : (o : Order) (es : List Entry) → o.number ≡ k → Agree s k es → with_order k o (numbered es) ≡ numbered (with_order s o es)
  with_order-numbered o [] h a = refl
  with_order-numbered o (e ∷ es) h a =
      let t = with_order-numbered o es h a.1 in
      let one : reordered k o (entry_numbered e) ≡ entry_numbered (reordered s o e) = elim (eqb_tells e.slot s) [
        | inl t ↦
            let is : (e.order.number == k) ≡ true = sym a.0 ∙ t.0 in
            ap (λ (b : Bool). cond b (renewed (entry_numbered e) o) (entry_numbered e)) is
            ∙ ap (λ (x : ℕ). renewed (record e { slot = x }) o) (test-is e.order.number k is ∙ sym h)
            ∙ ap (λ (b : Bool). entry_numbered (cond b (renewed e o) e)) (sym t.0)
        | inr t ↦
            ap (λ (b : Bool). cond b (renewed (entry_numbered e) o) (entry_numbered e)) (sym a.0 ∙ t.0)
            ∙ ap (λ (b : Bool). entry_numbered (cond b (renewed e o) e)) (sym t.0)
      ] in
      ap (λ (x : Entry). x ∷ with_order k o (numbered es)) one ∙ ap (λ (q : List Entry). entry_numbered (reordered s o e) ∷ q) t

  settled-numbered : (o : Order) (es : List Entry) → o.number ≡ k → Agree s k es → settled k o (numbered es) ≡ numbered (settled s o es)
  settled-numbered o es h a =
      let n : Entry = record { slot = s; order = refreshed o; is_top = false } in
      let m : Entry = record { slot = k; order = refreshed o; is_top = false } in
      let gone = without-numbered es a in
      let back : placed m (without k (numbered es)) ≡ numbered (placed n (without s es)) =
      ap (placed m) gone
      ∙ ap (λ (x : ℕ). placed (record m { slot = x }) (numbered (without s es))) (sym h)
      ∙ placed-numbered n (without s es) in
      let go : (x y : Bool) → cond x (without k (numbered es)) (cond y (placed m (without k (numbered es))) (with_order k o (numbered es)))
      ≡ numbered (cond x (without s es) (cond y (placed n (without s es)) (with_order s o es))) = elim [
        | true ↦ λ y. gone
        | false ↦ elim [ true ↦ back | false ↦ with_order-numbered o es h a ]
      ] in go (o.leaves == 0) (o.shown == 0)

  traded-numbered : (n : ℕ) (es : List Entry) → Agree s k es → traded k n (numbered es) ≡ numbered (traded s n es)
  traded-numbered n es a =
      let o : Order = filled_by n (order_of s es) in
      ap (λ (x : Order). settled k (filled_by n x) (numbered es)) (order-numbered es a)
      ∙ elim (found-name (GoesWith s k) s es a) [
        | inl g ↦ none-traded s k n es (numbered es) g.1 ∙ without-numbered es a ∙ ap numbered (sym (none-traded s s n es es g.1))
        | inr p ↦ settled-numbered o es (test-is (order_of s es).number k (sym p ∙ same s)) a
      ]

  with_mark-numbered : (n : ℕ) (es : List Entry) → Agree s k es → with_order k (record (order_of k (numbered es)) { prorated = n }) (numbered es) ≡ numbered (with_order s (record (order_of s es) { prorated = n }) es)
  with_mark-numbered n es a =
      ap (λ (x : Order). with_order k (record x { prorated = n }) (numbered es)) (order-numbered es a)
      ∙ elim (found-name (GoesWith s k) s es a) [
        | inl g ↦ none-marked (record (order_of s es) { prorated = n }) es a g.0
        | inr p ↦ with_order-numbered (record (order_of s es) { prorated = n }) es (test-is (order_of s es).number k (sym p ∙ same s)) a
      ]
    where
      none-marked : (o : Order) (es : List Entry) → Agree s k es → (HasSlot s es → ⊥) → with_order k o (numbered es) ≡ numbered (with_order s o es)
      none-marked o [] a h = refl
      none-marked o (e ∷ es) a h =
          let no : (e.slot == s) ≡ false = elim (eqb_tells e.slot s) [ inl t ↦ absurd (h (inl t.1)) | inr t ↦ t.0 ] in
          ap (λ (b : Bool). cond b (renewed (entry_numbered e) o) (entry_numbered e) ∷ with_order k o (numbered es)) (sym a.0 ∙ no)
          ∙ ap (λ (q : List Entry). entry_numbered e ∷ q) (none-marked o es a.1 (λ x. h (inr x)))
          ∙ ap (λ (b : Bool). entry_numbered (cond b (renewed e o) e) ∷ numbered (with_order s o es)) (sym no)

  -- ---- one share

  abbrev traded_as : StepName → ℕ → Order → Book → MatchState → MatchState
  traded_as step lots resting b m =
      let number = m.desk.trades + 1 in
      let taken = taken_by lots m.taker.order in
      report (fill lots resting.price step number) taken (report (fill lots resting.price step number) (filled_by lots resting) (record m {
        book = b;
        desk = record m.desk { trades = number };
        taker = record m.taker { order = taken; range = lengthened resting.price m.taker.range };
      }))

  trade-numbered : (step : StepName) (n : ℕ) (m : MatchState) → Agree s k m.book.resting → trade step k n (match_numbered m) ≡ match_numbered (trade step s n m)
  trade-numbered step n m a =
      let es = m.book.resting in
      let b : List Entry → Book = λ x. record (book_numbered m.book) { resting = x } in
      ap (λ (o : Order). traded_as step n o (b (traded k n (numbered es))) m) (order-numbered es a)
      ∙ ap (λ (x : List Entry). traded_as step n (order_of s es) (b x) m) (traded-numbered n es a)

  any-numbered : (step : StepName) (n : ℕ) (m : MatchState) → Agree s k m.book.resting → trade_if_any step k n (match_numbered m) ≡ match_numbered (trade_if_any step s n m)
  any-numbered step n m a =
      let go : (c : Bool) → cond c (match_numbered m) (trade step k n (match_numbered m)) ≡ match_numbered (cond c m (trade step s n m)) = elim [ true ↦ refl | false ↦ trade-numbered step n m a ] in
      go (n == 0)

  marked-numbered : (step : StepName) (n : ℕ) (m : MatchState) → Agree s k m.book.resting → share_noted step k n (match_numbered m) ≡ match_numbered (share_noted step s n m)
  marked-numbered step n m a =
      let b : List Entry → Book = λ x. record (book_numbered m.book) { resting = x } in
      let go : (c : Bool) → record (match_numbered m) { book = cond c (book_share_noted k n (book_numbered m.book)) (book_numbered m.book) } ≡ match_numbered (record m { book = cond c (book_share_noted s n m.book) m.book }) = elim [
        | true ↦ ap (λ (x : List Entry). record m { book = b x }) (with_mark-numbered n m.book.resting a)
        | false ↦ refl
      ] in go (is_prorata step)

  pub share-numbered : (step : StepName) (n : ℕ) (m : MatchState) → Agree s k m.book.resting → trade_share step k n (match_numbered m) ≡ match_numbered (trade_share step s n m)
  share-numbered step n m a =
      ap (trade_if_any step k n) (marked-numbered step n m a)
      ∙ any-numbered step n (share_noted step s n m) (keeps-marked step s n (GoesWith s k) m a)

-- ---- shares

-- the second shares are the first by number
abbrev pub SameShares : List Entry → List Share → List Share → Type 0
SameShares es [] [] = Unit {0}
SameShares es [] (y ∷ ys) = ⊥
SameShares es (x ∷ xs) [] = ⊥
SameShares es (x ∷ xs) (y ∷ ys) = (x.1 ≡ y.1) × Agree x.0 y.0 es × SameShares es xs ys

shares-kept : (f : MatchState → MatchState) → KeepsNames f → (m : MatchState) (xs ys : List Share) → SameShares m.book.resting xs ys → SameShares (f m).book.resting xs ys
shares-kept f k m [] [] h = h
shares-kept f k m [] (y ∷ ys) h = absurd h
shares-kept f k m (x ∷ xs) [] h = absurd h
shares-kept f k m (x ∷ xs) (y ∷ ys) h = (h.0, k (GoesWith x.0 y.0) m h.1, shares-kept f k m xs ys h.2)

pub shares-numbered : (step : StepName) (xs ys : List Share) (m : MatchState) → SameShares m.book.resting xs ys → trade_shares step ys (match_numbered m) ≡ match_numbered (trade_shares step xs m)
shares-numbered step [] [] m h = refl
shares-numbered step [] (y ∷ ys) m h = absurd h
shares-numbered step (x ∷ xs) [] m h = absurd h
shares-numbered step (x ∷ xs) (y ∷ ys) m h =
    ap (λ (n : ℕ). trade_shares step ys (trade_share step y.0 n (match_numbered m))) (sym h.0)
    ∙ ap (trade_shares step ys) (share-numbered x.0 y.0 step x.1 m h.1)
    ∙ shares-numbered step xs ys (trade_share step x.0 x.1 m) (shares-kept (trade_share step x.0 x.1) (keeps-share step x.0 x.1) m xs ys h.2)
