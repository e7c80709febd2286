-- One store through a link, and what links lead to.
use Rattle.std.proofs.Common.{◌≡◌, ◌≢◌, ℕ, ◌<◌, ◌≤◌, Bool, true, false, cond, nat_lt, get_or, sym, ap, subst, ◌∙◌, arith, inl, inr}
use Rattle.std.proofs.lemmas.List.{get_or_read}
use Rattle.std.proofs.lemmas.Bool.Decides.{nat_tests}
use Rattle.std.specs.declared.vec.Vec.{Vec}
use Rattle.std.specs.Prelude.{MatchBool}
use Rattle.std.specs.Vec.{with_item}
use denote.RawPtr.{Ptr, block_ptr, null_ptr, InBlock}
use Rattle.order_pool.specs.declared.node.Node.{Node}
use Rattle.order_pool.specs.declared.node.Ends.{Ends}
use Rattle.order_pool.specs.Inner.Places.{place, index_of}
use Rattle.order_pool.specs.Inner.Block.{node_size, blank_node, no_ends, lead, IsPast, IsLink, leads_in, nodes_next, nodes_prev, ends_first, ends_last}

pub lt-true : (p n : ℕ) → p < n → nat_lt p n ≡ true
lt-true p n lt = grind (arith, nat_tests)

pub lt-false : (p n : ℕ) → n ≤ p → nat_lt p n ≡ false
lt-false p n le = grind (arith, nat_tests)

pub index_of-place : (base : Ptr) (k : ℕ) → InBlock base → index_of node_size base (place node_size base k) ≡ k
unfolding index_of
index_of-place (block_ptr b o) k h = omega arith
index_of-place null_ptr k h = absurd h

pub when-same : (b : Bool) (p q : Ptr) → b ≡ true → MatchBool b (p ≡ q) (p ≢ q) → p ≡ q
when-same b p q e m = subst (λ (x : Bool). MatchBool x (p ≡ q) (p ≢ q)) e m

pub when-other : (b : Bool) (p q : Ptr) → b ≡ false → MatchBool b (p ≡ q) (p ≢ q) → p ≢ q
when-other b p q e m = subst (λ (x : Bool). MatchBool x (p ≡ q) (p ≢ q)) e m

-- ---- where links lead

module _ (base : Ptr) (slots : ℕ) where
  pub lead-in : (home : ℕ) (p : Ptr) → index_of node_size base p < slots → lead base slots home p ≡ index_of node_size base p
  lead-in home p lt = ap (λ (b : Bool). cond b (index_of node_size base p) home) (lt-true (index_of node_size base p) slots lt)

  pub lead-out : (home : ℕ) (p : Ptr) → slots ≤ index_of node_size base p → lead base slots home p ≡ home
  lead-out home p le = ap (λ (b : Bool). cond b (index_of node_size base p) home) (lt-false (index_of node_size base p) slots le)

  module _ (past : Ptr) (past_is : IsPast base slots past) where
    pub index-past : index_of node_size base past ≡ slots
    index-past = ap (index_of node_size base) past_is.is ∙ index_of-place base slots past_is.in_block

    pub lead-past : (home : ℕ) → lead base slots home past ≡ home
    lead-past home = lead-out home past (omega (arith, index-past))

    pub IsLink-past : (n : ℕ) → IsLink base slots n past
    IsLink-past n = record { is = past_is.is ∙ ap (place node_size base) (sym index-past); within = inr index-past }

    pub IsLink-place : (n k : ℕ) (p : Ptr) → p ≡ place node_size base k → k < n → IsLink base slots n p
    IsLink-place n k p e lt =
        let i : index_of node_size base p ≡ k = ap (index_of node_size base) e ∙ index_of-place base k past_is.in_block in
        record { is = e ∙ ap (place node_size base) (sym i); within = inl (omega arith) }

    -- a link that does not lead past all leads to a node
    pub leads-in : (n : ℕ) (p : Ptr) → IsLink base slots n p → p ≢ past → index_of node_size base p < n
    leads-in n p l ne =
        elim l.within [
          | inl lt ↦ lt
          | inr e ↦ absurd (ne (l.is ∙ ap (place node_size base) e ∙ sym past_is.is))
        ]

-- ---- what is read

pub node_read : {Y : Type 0} (v : Vec Node Y) (k : ℕ) (n : Node) → k < v.len → n ≡ get_or v.items k n → n ≡ get_or v.items k (blank_node null_ptr 0)
node_read v k n lt read = get_or_read v.items k n (omega (arith, v.ok.0)) read (blank_node null_ptr 0)

pub ends_read : {Z : Type 0} (u : Vec Ends Z) (q : ℕ) (e : Ends) → q < u.len → e ≡ get_or u.items q e → e ≡ get_or u.items q (no_ends null_ptr)
ends_read u q e lt read = get_or_read u.items q e (omega (arith, u.ok.0)) read (no_ends null_ptr)

-- ---- one store

module _ {Y Z : Type 0} (v : Vec Node Y) (u : Vec Ends Z) where
  abbrev at : Ptr → ℕ
  at p = index_of node_size v.ptr p

  pub leads-true : (p : Ptr) → at p < v.cap → leads_in v p ≡ true
  leads-true p lt = lt-true (at p) v.cap lt

  pub leads-false : (past p : Ptr) → IsPast v.ptr v.cap past → p ≡ past → leads_in v p ≡ false
  leads-false past p past_is e = lt-false (at p) v.cap (omega (arith, ap at e, index-past v.ptr v.cap past past_is))

  pub next-stored : (p x : Ptr) (n : Node) → at p < v.len → n ≡ get_or v.items (at p) n → with_item v (at p) (record n { next = x }) ≡ nodes_next v p x
  next-stored p x n lt read =
      let w : Node → Vec Node Y = λ m. with_item v (at p) (record m { next = x }) in
      ap w (node_read v (at p) n lt read)
      ∙ sym (ap (λ (b : Bool). cond b (w (get_or v.items (at p) (blank_node null_ptr 0))) v) (leads-true p (omega (arith, v.ok.1))))

  pub prev-stored : (p x : Ptr) (n : Node) → at p < v.len → n ≡ get_or v.items (at p) n → with_item v (at p) (record n { prev = x }) ≡ nodes_prev v p x
  prev-stored p x n lt read =
      let w : Node → Vec Node Y = λ m. with_item v (at p) (record m { prev = x }) in
      ap w (node_read v (at p) n lt read)
      ∙ sym (ap (λ (b : Bool). cond b (w (get_or v.items (at p) (blank_node null_ptr 0))) v) (leads-true p (omega (arith, v.ok.1))))

  pub first-stored : (past p x : Ptr) (q : ℕ) (e : Ends) → IsPast v.ptr v.cap past → p ≡ past → q < u.len → e ≡ get_or u.items q e → with_item u q (record e { first = x }) ≡ ends_first v u p q x
  first-stored past p x q e past_is is lt read =
      let w : Ends → Vec Ends Z = λ m. with_item u q (record m { first = x }) in
      ap w (ends_read u q e lt read) ∙ sym (ap (λ (b : Bool). cond b u (w (get_or u.items q (no_ends null_ptr)))) (leads-false past p past_is is))

  pub last-stored : (past p x : Ptr) (q : ℕ) (e : Ends) → IsPast v.ptr v.cap past → p ≡ past → q < u.len → e ≡ get_or u.items q e → with_item u q (record e { last = x }) ≡ ends_last v u p q x
  last-stored past p x q e past_is is lt read =
      let w : Ends → Vec Ends Z = λ m. with_item u q (record m { last = x }) in
      ap w (ends_read u q e lt read) ∙ sym (ap (λ (b : Bool). cond b u (w (get_or u.items q (no_ends null_ptr)))) (leads-false past p past_is is))
