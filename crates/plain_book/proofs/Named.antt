-- No firm has an id twice: what keeps it so.
use Rattle.std.proofs.Common.{◌≡◌, ◌≢◌, ℕ, Bool, true, false, cond, not, ◌&&◌, List, [], ◌∷◌, refl, sym, ap, subst, ◌∙◌, inl, inr}
use Rattle.std.proofs.lemmas.Bool.Decides.{eqb_tells, Decides-eqb}
use Rattle.std.proofs.lemmas.Slice.Eq.{bytes_eq-Decides}
use Rattle.std.specs.Prelude.{◌==◌, bytes_eq}
use Rattle.std.specs.List.{AllByRecursion}
use Rattle.gx_base.specs.declared.order.Order.{Order}
use Rattle.plain_book.specs.declared.entry.Entry.{Entry}
use Rattle.plain_book.specs.Orders.{HasSlot, order_of, without, with_order, reordered}
use Rattle.plain_book.specs.Book.{EachPair, AllDiffer, AreNamedApart}
use Rattle.plain_book.proofs.Pairs.{all-with, all-filter, all-front, all-back, pairs-map, pairs-both, differ-pairs}
use Rattle.plain_book.proofs.Levels.{renewed}
use Rattle.plain_book.proofs.Live.{AllOrders, IsUnnamed, orders-at}
use Rattle.plain_book.proofs.Sorted.{IsInserted, inserted-pairs}
use Rattle.plain_book.proofs.Tops.{at-slot}

same-test : (b c : Bool) → (b ≡ true → c ≡ true) → (c ≡ true → b ≡ true) → b ≡ c
same-test true true f g = refl
same-test true false f g = sym (f refl)
same-test false true f g = g refl
same-test false false f g = refl

eqb-sym : (m n : ℕ) → (m == n) ≡ (n == m)
eqb-sym m n = same-test (m == n) (n == m) (λ h. (Decides-eqb n m).1 (sym ((Decides-eqb m n).0 h))) (λ h. (Decides-eqb m n).1 (sym ((Decides-eqb n m).0 h)))

bytes-sym : (xs ys : List ℕ) → bytes_eq xs ys ≡ bytes_eq ys xs
bytes-sym xs ys =
    same-test (bytes_eq xs ys) (bytes_eq ys xs) (λ h. (bytes_eq-Decides ys xs).1 (sym ((bytes_eq-Decides xs ys).0 h))) (λ h. (bytes_eq-Decides xs ys).1 (sym ((bytes_eq-Decides ys xs).0 h)))

-- whether two orders are named alike
abbrev pub named_alike : Order → Order → Bool
named_alike a b = (b.firm == a.firm) && bytes_eq b.id a.id

named-sym : (a b : Order) → named_alike a b ≡ named_alike b a
named-sym a b = ap (λ (x : Bool). x && bytes_eq b.id a.id) (eqb-sym b.firm a.firm) ∙ ap (λ (x : Bool). (a.firm == b.firm) && x) (bytes-sym b.id a.id)

abbrev pub Unnamed : Order → Order → Type 0
Unnamed n x = IsUnnamed n.firm n.id x

-- an order comes whose name no order has
pub named-inserted : (n : Entry) (es fs : List Entry) → IsInserted n es fs → EachPair AreNamedApart es → AllOrders (Unnamed n.order) es → EachPair AreNamedApart fs
named-inserted n es fs r h u =
    let U = λ (e : Entry). Unnamed n.order e.order in
    let whole = subst (AllByRecursion U) r.whole u in
    inserted-pairs r AreNamedApart h
    (all-with U (λ x. AreNamedApart x n) (λ x k. named-sym x.order n.order ∙ k) r.front (all-front U r.front r.back whole))
    (all-back U r.front r.back whole)

-- without the order of a slot, no order has its name
pub unnamed-without : (s : ℕ) (es : List Entry) → EachPair AreNamedApart es → HasSlot s es → AllOrders (Unnamed (order_of s es)) (without s es)
unnamed-without s [] h has = tt
unnamed-without s (e ∷ es) h has = elim (eqb_tells e.slot s) [
  | inl t ↦
      subst (λ (b : Bool). AllOrders (Unnamed (cond b e.order (order_of s es))) (cond (not b) (e ∷ without s es) (without s es))) (sym t.0)
      (all-filter (λ (x : Entry). Unnamed e.order x.order) (λ x. not (x.slot == s)) es h.0)
  | inr t ↦
      let has' : HasSlot s es = elim has [ inl a ↦ absurd (t.1 a) | inr a ↦ a ] in
      subst (λ (b : Bool). AllOrders (Unnamed (cond b e.order (order_of s es))) (cond (not b) (e ∷ without s es) (without s es))) (sym t.0)
      (named-sym (order_of s es) e.order ∙ orders-at (Unnamed e.order) s es h.0 has', unnamed-without s es h.1 has')
]

-- the order of a slot gets a name that no order has
pub named-renamed : (s : ℕ) (o : Order) (es : List Entry) → AllDiffer es → EachPair AreNamedApart es → AllOrders (Unnamed o) es → EachPair AreNamedApart (with_order s o es)
named-renamed s o es d h u =
    let D = λ (a b : Entry). b.slot ≢ a.slot in
    pairs-map (λ a b. D a b × AreNamedApart a b) AreNamedApart (λ (e : Entry). Unnamed o e.order) (reordered s o) (λ a b ua ub r.
    elim (eqb_tells a.slot s) [
      | inl t ↦ elim (eqb_tells b.slot s) [
        | inl v ↦ absurd (r.0 (v.1 ∙ sym t.1))
        | inr v ↦ ap (λ (c : Bool). AreNamed (cond c (renewed a o) a) (reordered s o b)) t.0 ∙ ap (λ (c : Bool). AreNamed (renewed a o) (cond c (renewed b o) b)) v.0 ∙ ub
      ]
      | inr t ↦ elim (eqb_tells b.slot s) [
        | inl v ↦ ap (λ (c : Bool). AreNamed (cond c (renewed a o) a) (reordered s o b)) t.0 ∙ ap (λ (c : Bool). AreNamed a (cond c (renewed b o) b)) v.0 ∙ named-sym a.order o ∙ ua
        | inr v ↦ ap (λ (c : Bool). AreNamed (cond c (renewed a o) a) (reordered s o b)) t.0 ∙ ap (λ (c : Bool). AreNamed a (cond c (renewed b o) b)) v.0 ∙ r.1
      ]
    ]) es u (pairs-both D AreNamedApart es (differ-pairs es d) h)
  where
    AreNamed : Entry → Entry → Bool
    AreNamed a b = named_alike a.order b.order

-- the order of a slot changes and keeps its name
pub named-changed : (s : ℕ) (o : Order) (es : List Entry) → AllDiffer es → EachPair AreNamedApart es → o.firm ≡ (order_of s es).firm → o.id ≡ (order_of s es).id → EachPair AreNamedApart (with_order s o es)
named-changed s o es d h f i =
    let P = λ (q : Order). (o.firm ≡ q.firm) × (o.id ≡ q.id) in
    let Keeps = λ (e : Entry). ((reordered s o e).order.firm ≡ e.order.firm) × ((reordered s o e).order.id ≡ e.order.id) in
    let keeps : AllByRecursion Keeps es = all-with (λ (e : Entry). e.slot ≡ s → P e.order) Keeps (λ e k.
    elim (eqb_tells e.slot s) [
      | inl t ↦ (ap (λ (c : Bool). (cond c (renewed e o) e).order.firm) t.0 ∙ (k t.1).0, ap (λ (c : Bool). (cond c (renewed e o) e).order.id) t.0 ∙ (k t.1).1)
      | inr t ↦ (ap (λ (c : Bool). (cond c (renewed e o) e).order.firm) t.0, ap (λ (c : Bool). (cond c (renewed e o) e).order.id) t.0)
    ]) es (at-slot P s es d (f, i)) in
    pairs-map AreNamedApart AreNamedApart Keeps (reordered s o) (λ a b ka kb r. alike _ _ _ _ _ _ _ _ ka.0 kb.0 ka.1 kb.1 ∙ r) es keeps h
  where
    alike : (fa fa' fb fb' : ℕ) (ia ia' ib ib' : List ℕ) → fa ≡ fa' → fb ≡ fb' → ia ≡ ia' → ib ≡ ib' → ((fb == fa) && bytes_eq ib ia) ≡ ((fb' == fa') && bytes_eq ib' ia')
    alike fa fa' fb fb' ia ia' ib ib' p q r t =
        ap (λ (x : ℕ). (fb == x) && bytes_eq ib ia) p ∙ ap (λ (x : ℕ). (x == fa') && bytes_eq ib ia) q ∙ ap (λ (x : List ℕ). (fb' == fa') && bytes_eq ib x) r ∙ ap (λ (x : List ℕ). (fb' == fa') && bytes_eq x ia') t
