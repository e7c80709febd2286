-- A walk that spends lots on the orders of one firm leaves the orders of every other firm at its level as they stood.
use Rattle.std.proofs.Common.{◌≡◌, ℕ, ◌-◌, Bool, true, false, cond, List, [], ◌∷◌, ◌++◌, filter, min, refl, sym, ap, subst, ◌∙◌, inl, inr, append_assoc}
use Rattle.std.proofs.lemmas.Bool.Decides.{eqb_tells}
use Rattle.std.proofs.lemmas.List.{append-nil}
use Rattle.std.proofs.lemmas.List.Elements.{filter-append}
use Rattle.std.specs.Prelude.{◌==◌}
use Rattle.gx_base.specs.declared.price.Price.{Price}
use Rattle.gx_base.specs.declared.order.Order.{Order}
use Rattle.gx_base.specs.declared.event.StepName.TheVariants.{Lmm}
use Rattle.plain_book.specs.declared.entry.Entry.{Entry}
use Rattle.plain_book.specs.Orders.{Level, level_of, orders_at, order_of, without, with_order, placed, settled, refreshed, filled_by}
use Rattle.plain_book.specs.Book.{AllDiffer}
use Rattle.plain_book.specs.Match.{MatchState, Share, trade, trade_share, trade_shares}
use Rattle.plain_book.specs.Shares.{shares_by}
use Rattle.plain_book.specs.Steps.{facing}
use Rattle.plain_book.proofs.Levels.{renewed}
use Rattle.plain_book.proofs.Walks.{Stands, stands-order, stands-with_order, stands-without, stands-last}
use Rattle.lmm_pass.specs.Firms.{lots_for_firm, spending_on_firm}
use Rattle.lmm_pass.proofs.Slots.{settled-differ}
use Rattle.lmm_pass.proofs.Spends.{is_of_firm, orders_of, spent_on}

-- ---- a walk

-- an element that does not pass can be left out
filter-skip : {X : Type 0} (p : X → Bool) (xs ys : List X) (x : X) → p x ≡ false → filter p (xs ++ x ∷ ys) ≡ filter p (xs ++ ys)
filter-skip p xs ys x h =
    filter-append p xs (x ∷ ys) ∙ ap (λ (b : Bool). filter p xs ++ cond b (x ∷ filter p ys) (filter p ys)) h ∙ sym (filter-append p xs ys)

-- what is left of a walk stands in the level, and the orders of a firm stand there as before
pub record IsBeside (k : Level) (firm : ℕ) (old now rest : List Entry) : Type 0 where
  pub ahead : List Entry
  pub behind : List Entry
  pub differ : AllDiffer now
  pub is : orders_at k now ≡ ahead ++ (rest ++ behind)
  pub unmoved : orders_of firm (orders_at k now) ≡ orders_of firm old

module _ (k : Level) (firm : ℕ) (old : List Entry) (e : Entry) (rest : List Entry) where
  -- an order of another firm trades, and so leaves, goes after the others, or stays
  beside-settled : (es : List Entry) (o : Order) → (e.order.firm == firm) ≡ false → (o.firm == firm) ≡ false → level_of o ≡ level_of e.order → IsBeside k firm old es (e ∷ rest) → IsBeside k firm old (settled e.slot o es) rest
  beside-settled es o other its at b =
      let xs = b.ahead in
      let ys = b.behind in
      let s : Stands k es xs e (rest ++ ys) = record { differ = b.differ; is = b.is } in
      let n : Entry = record { slot = e.slot; order = refreshed o; is_top = false } in
      let left : orders_of firm (xs ++ (rest ++ ys)) ≡ orders_of firm old = sym (filter-skip (is_of_firm firm) xs (rest ++ ys) e other) ∙ ap (orders_of firm) (sym b.is) ∙ b.unmoved in
      let differ = settled-differ e.slot o es b.differ in
      let go : (c d : Bool) → let now = cond c (without e.slot es) (cond d (placed n (without e.slot es)) (with_order e.slot o es)) in AllDiffer now → IsBeside k firm old now rest = elim [
        | true ↦ λ d differ. record { ahead = xs; behind = ys; differ = differ; is = stands-without s; unmoved = ap (orders_of firm) (stands-without s) ∙ left }
        | false ↦ elim [
          | true ↦ λ differ. record {
            ahead = xs;
            behind = ys ++ n ∷ [];
            differ = differ;
            is = stands-last s n at ∙ append_assoc xs (rest ++ ys) (n ∷ []) ∙ ap (λ (q : List Entry). xs ++ q) (append_assoc rest ys (n ∷ []));
            unmoved = ap (orders_of firm) (stands-last s n at) ∙ filter-skip (is_of_firm firm) (xs ++ (rest ++ ys)) [] n its ∙ ap (orders_of firm) (append-nil (xs ++ (rest ++ ys))) ∙ left;
          }
          | false ↦ λ differ. record {
            ahead = xs ++ renewed e o ∷ [];
            behind = ys;
            differ = differ;
            is = stands-with_order s o at ∙ sym (append_assoc xs (renewed e o ∷ []) (rest ++ ys));
            unmoved = ap (orders_of firm) (stands-with_order s o at) ∙ filter-skip (is_of_firm firm) xs (rest ++ ys) (renewed e o) its ∙ left;
          }
        ]
      ] in go (o.leaves == 0) (o.shown == 0) differ

  -- an order trades nothing
  beside-passed : (now : List Entry) → IsBeside k firm old now (e ∷ rest) → IsBeside k firm old now rest
  beside-passed now b = record {
    ahead = b.ahead ++ e ∷ [];
    behind = b.behind;
    differ = b.differ;
    is = b.is ∙ sym (append_assoc b.ahead (e ∷ []) (rest ++ b.behind));
    unmoved = b.unmoved;
  }

  beside-share : (lots : ℕ) (m : MatchState) → (e.order.firm == firm) ≡ false → IsBeside k firm old m.book.resting (e ∷ rest) → IsBeside k firm old (trade_share Lmm e.slot lots m).book.resting rest
  beside-share lots m other b =
      let es = m.book.resting in
      let order : order_of e.slot es ≡ e.order = order-of-beside es b in
      let o : Order = filled_by lots (order_of e.slot es) in
      let traded = beside-settled es o other (ap (λ (x : Order). x.firm == firm) order ∙ other) (ap level_of order) b in
      let go : (c : Bool) → IsBeside k firm old (cond c m (trade Lmm e.slot lots m)).book.resting rest = elim [ true ↦ beside-passed es b | false ↦ traded ] in
      go (lots == 0)
    where
      order-of-beside : (es : List Entry) → IsBeside k firm old es (e ∷ rest) → order_of e.slot es ≡ e.order
      order-of-beside es b = let s : Stands k es b.ahead e (rest ++ b.behind) = record { differ = b.differ; is = b.is } in stands-order s

  -- an order trades of what is left for a firm that is another one
  beside-spent : (its left : ℕ) (m : MatchState) → (its == firm) ≡ false → IsBeside k firm old m.book.resting (e ∷ rest) → IsBeside k firm old (trade_share Lmm e.slot (lots_for_firm its left e.order) m).book.resting rest
  beside-spent its left m apart b = elim (eqb_tells e.order.firm its) [
    | inl t ↦ beside-share (lots_for_firm its left e.order) m (ap (λ (f : ℕ). f == firm) t.1 ∙ apart) b
    | inr t ↦ subst (λ (c : Bool). IsBeside k firm old (trade_share Lmm e.slot (cond c (min left e.order.shown) 0) m).book.resting rest) (sym t.0) (beside-passed m.book.resting b)
  ]

beside-all : (k : Level) (its firm left : ℕ) (old : List Entry) (rest : List Entry) (m : MatchState) → (its == firm) ≡ false → IsBeside k firm old m.book.resting rest
    → orders_of firm (orders_at k (trade_shares Lmm (shares_by spending_on_firm (spent_on its left) rest) m).book.resting) ≡ orders_of firm old
beside-all k its firm left old [] m apart b = b.unmoved
beside-all k its firm left old (e ∷ rest) m apart b =
    let n = lots_for_firm its left e.order in beside-all k its firm (left - n) old rest (trade_share Lmm e.slot n m) apart (beside-spent k firm old e rest its left m apart b)

-- the orders of another firm stand as they stood
pub spent-others : (k : Level) (its firm left : ℕ) (m : MatchState) → AllDiffer m.book.resting → (its == firm) ≡ false
    → orders_of firm (orders_at k (trade_shares Lmm (shares_by spending_on_firm (spent_on its left) (orders_at k m.book.resting)) m).book.resting) ≡ orders_of firm (orders_at k m.book.resting)
spent-others k its firm left m differ apart =
    let es = orders_at k m.book.resting in
    beside-all k its firm left es es m apart (record { ahead = []; behind = []; differ = differ; is = sym (append-nil es); unmoved = refl })

-- ---- the level that the incoming order meets stays

share-facing : (s n : ℕ) (price : Price) (m : MatchState) → facing price (trade_share Lmm s n m).taker ≡ facing price m.taker
share-facing s n price m =
    let go : (c : Bool) → facing price (cond c m (trade Lmm s n m)).taker ≡ facing price m.taker = elim [ true ↦ refl | false ↦ refl ] in
    go (n == 0)

pub shares-facing : (shares : List Share) (price : Price) (m : MatchState) → facing price (trade_shares Lmm shares m).taker ≡ facing price m.taker
shares-facing [] price m = refl
shares-facing (x ∷ xs) price m = shares-facing xs price (trade_share Lmm x.0 x.1 m) ∙ share-facing x.0 x.1 price m
