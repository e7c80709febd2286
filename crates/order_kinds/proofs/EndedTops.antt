-- TOP ends on the instruments one after the other, if they have no TOP step.
use Rattle.std.proofs.Common.{◌≡◌, ℕ, ◌+◌, ◌<◌, Bool, true, false, cond, ◌&&◌, ◌||◌, List, [], ◌∷◌, map, Some, None, is_some, refl, sym, ap, ap₂, ◌∙◌, arith}
use Rattle.std.specs.Prelude.{◌==◌, nat_le, slice_get}
use Rattle.std.specs.List.{AllByRecursion}
use Rattle.std.proofs.lemmas.Bool.Decides.{nat_tests, Decides-eqb}
use Rattle.gx_base.specs.declared.order.Side.{Side}
use Rattle.gx_base.specs.declared.order.Side.TheVariants.{Buy, Sell}
use Rattle.step_config.specs.Rules.{top_rule_of}
use Rattle.product_file.specs.Products.{ProductLists, has_top_by}
use Rattle.product_file.specs.declared.product.InstrumentRule.{InstrumentRule}
use Rattle.plain_book.specs.declared.entry.Entry.{Entry}
use Rattle.plain_book.specs.Orders.{is_of, is_side, with_top, topped}
use Rattle.plain_book.specs.Book.{Book}
use Rattle.order_kinds.specs.Amendments.{untopped}
use Rattle.order_kinds.specs.Inner.Amending.{tops_ended, tops_ended_by}

-- the steps of the order's instrument favor a TOP order
abbrev favors : ProductLists → Entry → Bool
favors product e = has_top_by (slice_get product.rules e.order.instrument)

-- an order after the walk has gone over the instruments before this one
abbrev pub untopped_before : ProductLists → ℕ → Entry → Entry
untopped_before product k e = record e { is_top = e.is_top && (nat_le k e.order.instrument || favors product e) }

abbrev marked : Entry → Bool → Entry
marked e mark = record e { is_top = mark }

-- ---- one order

and_true : (b : Bool) → (b && true) ≡ b
and_true true = refl
and_true false = refl

passed-later : (n k : ℕ) → (n == k) ≡ false → nat_le (k + 1) n ≡ nat_le k n
passed-later n k h = grind (arith, nat_tests)

passed-here : (n k : ℕ) → (n == k) ≡ true → nat_le (k + 1) n ≡ false
passed-here n k h = grind (arith, nat_tests)

passed-all : (n k : ℕ) → n < k → nat_le k n ≡ false
passed-all n k h = grind (arith, nat_tests)

none-passed : (n : ℕ) → nat_le 0 n ≡ true
none-passed n = grind (arith, nat_tests)

or_true : (a b : Bool) → b ≡ true → (a || b) ≡ true
or_true true b h = refl
or_true false b h = h

-- the mark of an order, of which `here` says whether it is of the instrument
ended-mark : (here mark past past_next favored : Bool) (side : Side) → (here ≡ true → (past_next || favored) ≡ false) → (here ≡ false → past_next ≡ past)
    → cond (here && is_side side Sell) false (cond (here && is_side side Buy) false (mark && (past || favored))) ≡ (mark && (past_next || favored))
ended-mark true true past past_next favored Buy h k = sym (h refl)
ended-mark true true past past_next favored Sell h k = sym (h refl)
ended-mark true false past past_next favored Buy h k = refl
ended-mark true false past past_next favored Sell h k = refl
ended-mark false mark past past_next favored side h k = ap (λ (b : Bool). mark && (b || favored)) (sym (k refl))

kept-mark : (here mark past past_next favored : Bool) → (here ≡ true → favored ≡ true) → (here ≡ false → past_next ≡ past)
    → (mark && (past || favored)) ≡ (mark && (past_next || favored))
kept-mark true mark past past_next favored h k = ap (λ (b : Bool). mark && b) (or_true past favored (h refl) ∙ sym (or_true past_next favored (h refl)))
kept-mark false mark past past_next favored h k = ap (λ (b : Bool). mark && (b || favored)) (sym (k refl))

module _ (product : ProductLists) (k : ℕ) (rule : InstrumentRule) (found : slice_get product.rules k ≡ Some rule) where
  favored-here : (e : Entry) → is_of k e ≡ true → favors product e ≡ is_some (top_rule_of rule.steps)
  favored-here e h = ap (λ (n : ℕ). has_top_by (slice_get product.rules n)) ((Decides-eqb e.order.instrument k).0 h) ∙ ap has_top_by found

  ended-one : is_some (top_rule_of rule.steps) ≡ false → (e : Entry) → topped k Sell None (topped k Buy None (untopped_before product k e)) ≡ untopped_before product (k + 1) e
  ended-one none e =
      let n = e.order.instrument in
      ap (marked e) (ended-mark (is_of k e) e.is_top (nat_le k n) (nat_le (k + 1) n) (favors product e) e.order.side
      (λ here. ap₂ (λ (a b : Bool). a || b) (passed-here n k here) (favored-here e here ∙ none)) (λ other. passed-later n k other))

  kept-one : is_some (top_rule_of rule.steps) ≡ true → (e : Entry) → untopped_before product k e ≡ untopped_before product (k + 1) e
  kept-one some e =
      let n = e.order.instrument in
      ap (marked e) (kept-mark (is_of k e) e.is_top (nat_le k n) (nat_le (k + 1) n) (favors product e) (λ here. favored-here e here ∙ some) (λ other. passed-later n k other))

  -- ---- all orders

  ended-each : is_some (top_rule_of rule.steps) ≡ false → (es : List Entry) → with_top k Sell None (with_top k Buy None (map (untopped_before product k) es)) ≡ map (untopped_before product (k + 1)) es
  ended-each none [] = refl
  ended-each none (e ∷ es) = ap₂ (λ (x : Entry) (xs : List Entry). x ∷ xs) (ended-one none e) (ended-each none es)

  kept-each : is_some (top_rule_of rule.steps) ≡ true → (es : List Entry) → map (untopped_before product k) es ≡ map (untopped_before product (k + 1)) es
  kept-each some [] = refl
  kept-each some (e ∷ es) = ap₂ (λ (x : Entry) (xs : List Entry). x ∷ xs) (kept-one some e) (kept-each some es)

  pub tops-next : (b now : Book) → now ≡ record b { resting = map (untopped_before product k) b.resting } → is_some (top_rule_of rule.steps) ≡ false
      → tops_ended k now ≡ record b { resting = map (untopped_before product (k + 1)) b.resting }
  tops-next b now is none = ap (tops_ended k) is ∙ ap (λ (es : List Entry). record b { resting = es }) (ended-each none b.resting)

  pub tops-stay : (b now : Book) → now ≡ record b { resting = map (untopped_before product k) b.resting } → is_some (top_rule_of rule.steps) ≡ true
      → now ≡ record b { resting = map (untopped_before product (k + 1)) b.resting }
  tops-stay b now is some = is ∙ ap (λ (es : List Entry). record b { resting = es }) (kept-each some b.resting)

module _ (product : ProductLists) where
  first-each : (es : List Entry) → es ≡ map (untopped_before product 0) es
  first-each [] = refl
  first-each (e ∷ es) =
      let mark : e.is_top ≡ (e.is_top && (nat_le 0 e.order.instrument || favors product e)) =
      sym (ap (λ (b : Bool). e.is_top && (b || favors product e)) (none-passed e.order.instrument) ∙ and_true e.is_top) in
      ap₂ (λ (x : Entry) (xs : List Entry). x ∷ xs) (ap (marked e) mark) (first-each es)

  pub tops-first : (b : Book) → b ≡ record b { resting = map (untopped_before product 0) b.resting }
  tops-first b = ap (λ (es : List Entry). record b { resting = es }) (first-each b.resting)

  last-each : (n : ℕ) (es : List Entry) → AllByRecursion (λ (e : Entry). e.order.instrument < n) es → map (untopped_before product n) es ≡ map (untopped product) es
  last-each n [] listed = refl
  last-each n (e ∷ es) listed =
      ap₂ (λ (x : Entry) (xs : List Entry). x ∷ xs) (ap (λ (b : Bool). marked e (e.is_top && (b || favors product e))) (passed-all e.order.instrument n listed.0)) (last-each n es listed.1)

  pub tops-last : (b now : Book) (k n : ℕ) → now ≡ record b { resting = map (untopped_before product k) b.resting } → k ≡ n → AllByRecursion (λ (e : Entry). e.order.instrument < n) b.resting
      → now ≡ tops_ended_by product b
  tops-last b now k n is end listed =
      is ∙ ap (λ (j : ℕ). record b { resting = map (untopped_before product j) b.resting }) end ∙ ap (λ (es : List Entry). record b { resting = es }) (last-each n b.resting listed)
