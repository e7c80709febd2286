-- Paths along two links, when one node leaves and when one comes.
use Rattle.std.proofs.Common.{◌≡◌, ◌≢◌, ℕ, ◌+◌, ◌≤◌, Bool, not, cond, List, [], ◌∷◌, ◌++◌, length, refl, sym, ap, subst, ◌∙◌, arith, inl, inr}
use Rattle.std.proofs.lemmas.Bool.Decides.{eqb_tells}
use Prim.Native.Nat.{zero, suc}
use Rattle.order_pool.specs.Inner.Rings.{Each, AllDiffer, Path, IsChain, cells_along, without, In}

pub each-from : (S T : ℕ → Type 0) → ((k : ℕ) → S k → T k) → (ks : List ℕ) → Each S ks → Each T ks
each-from S T f [] h = tt
each-from S T f (k ∷ ks) h = (f k h.0, each-from S T f ks h.1)

pub each-in : (T : ℕ → Type 0) (i : ℕ) (ks : List ℕ) → In i ks → Each T ks → T i
each-in T i [] h t = absurd h
each-in T i (k ∷ ks) (inl e) t = subst T (sym e) t.0
each-in T i (k ∷ ks) (inr h) t = each-in T i ks h t.1

pub each-of : (T : ℕ → Type 0) (ks : List ℕ) → ((k : ℕ) → In k ks → T k) → Each T ks
each-of T [] f = tt
each-of T (k ∷ ks) f = (f k (inl refl), each-of T ks (λ j m. f j (inr m)))

pub in-push : (i : ℕ) (ks : List ℕ) → In i (ks ++ i ∷ [])
in-push i [] = inl refl
in-push i (k ∷ ks) = inr (in-push i ks)

pub in-push_old : (i j : ℕ) (ks : List ℕ) → In i ks → In i (ks ++ j ∷ [])
in-push_old i j [] h = absurd h
in-push_old i j (k ∷ ks) (inl e) = inl e
in-push_old i j (k ∷ ks) (inr h) = inr (in-push_old i j ks h)

pub each-push : (T : ℕ → Type 0) (ks : List ℕ) (i : ℕ) → Each T ks → T i → Each T (ks ++ i ∷ [])
each-push T [] i h t = (t, tt)
each-push T (k ∷ ks) i h t = (h.0, each-push T ks i h.1 t)

pub differ-push : (ks : List ℕ) (i : ℕ) → AllDiffer ks → Each (λ k. k ≢ i) ks → AllDiffer (ks ++ i ∷ [])
differ-push [] i d h = (tt, tt)
differ-push (k ∷ ks) i d h = (each-push (λ j. j ≢ k) ks i d.0 (λ e. h.0 (sym e)), differ-push ks i d.1 h.1)

pub chain-same : (N M : ℕ → ℕ) (a : ℕ) (ks : List ℕ) → Each (λ k. M k ≡ N k) ks → IsChain N a ks → IsChain M a ks
chain-same N M a [] s h = tt
chain-same N M a (k ∷ ks) s h = (h.0, subst (λ (b : ℕ). IsChain M b ks) (sym s.0) (chain-same N M (N k) ks s.1 h.1))

-- ---- `without`

pub without-same : (i k : ℕ) (ks : List ℕ) → i ≡ k → without i (k ∷ ks) ≡ without i ks
without-same i k ks e =
    elim (eqb_tells k i) [
      | inl t ↦ ap (λ (b : Bool). cond (not b) (k ∷ without i ks) (without i ks)) t.0
      | inr t ↦ absurd (t.1 (sym e))
    ]

pub without-other : (i k : ℕ) (ks : List ℕ) → k ≢ i → without i (k ∷ ks) ≡ k ∷ without i ks
without-other i k ks ne =
    elim (eqb_tells k i) [
      | inl t ↦ absurd (ne t.1)
      | inr t ↦ ap (λ (b : Bool). cond (not b) (k ∷ without i ks) (without i ks)) t.0
    ]

pub without-none : (i : ℕ) (ks : List ℕ) → Each (λ k. k ≢ i) ks → without i ks ≡ ks
without-none i [] h = refl
without-none i (k ∷ ks) h = without-other i k ks h.0 ∙ ap (λ (js : List ℕ). k ∷ js) (without-none i ks h.1)

pub without-each : (T : ℕ → Type 0) (i : ℕ) (ks : List ℕ) → Each T ks → Each T (without i ks)
without-each T i [] h = tt
without-each T i (k ∷ ks) h =
    elim (eqb_tells k i) [
      | inl t ↦ subst (Each T) (sym (without-same i k ks (sym t.1))) (without-each T i ks h.1)
      | inr t ↦ subst (Each T) (sym (without-other i k ks t.1)) (h.0, without-each T i ks h.1)
    ]

pub without-differ : (i : ℕ) (ks : List ℕ) → AllDiffer ks → AllDiffer (without i ks)
without-differ i [] d = tt
without-differ i (k ∷ ks) d =
    elim (eqb_tells k i) [
      | inl t ↦ subst AllDiffer (sym (without-same i k ks (sym t.1))) (without-differ i ks d.1)
      | inr t ↦ subst AllDiffer (sym (without-other i k ks t.1)) (without-each (λ j. j ≢ k) i ks d.0, without-differ i ks d.1)
    ]

pub without-gone : (i : ℕ) (ks : List ℕ) → Each (λ k. k ≢ i) (without i ks)
without-gone i [] = tt
without-gone i (k ∷ ks) =
    elim (eqb_tells k i) [
      | inl t ↦ subst (Each (λ j. j ≢ i)) (sym (without-same i k ks (sym t.1))) (without-gone i ks)
      | inr t ↦ subst (Each (λ j. j ≢ i)) (sym (without-other i k ks t.1)) (t.1, without-gone i ks)
    ]

pub without-in : (i j : ℕ) (ks : List ℕ) → In j ks → j ≢ i → In j (without i ks)
without-in i j [] h ne = absurd h
without-in i j (k ∷ ks) (inl e) ne = subst (In j) (sym (without-other i k ks (λ q. ne (e ∙ q)))) (inl e)
without-in i j (k ∷ ks) (inr h) ne =
    elim (eqb_tells k i) [
      | inl t ↦ subst (In j) (sym (without-same i k ks (sym t.1))) (without-in i j ks h ne)
      | inr t ↦ subst (In j) (sym (without-other i k ks t.1)) (inr (without-in i j ks h ne))
    ]

pub length-without : (i : ℕ) (ks : List ℕ) → In i ks → AllDiffer ks → length (without i ks) + 1 ≡ length ks
length-without i [] h d = absurd h
length-without i (k ∷ ks) (inl e) d =
    let gone : without i ks ≡ ks = without-none i ks (each-from (λ j. j ≢ k) (λ j. j ≢ i) (λ j ne is. ne (is ∙ e)) ks d.0) in
    let l : length (without i (k ∷ ks)) ≡ length ks = ap length (without-same i k ks e ∙ gone) in
    let r : length (k ∷ ks) ≡ suc (length ks) = refl in
    omega arith
length-without i (k ∷ ks) (inr h) d =
    let ne : k ≢ i = (λ e. each-in (λ j. j ≢ k) i ks h d.0 (sym e)) in
    let l : length (without i (k ∷ ks)) ≡ suc (length (without i ks)) = ap length (without-other i k ks ne) in
    let r : length (k ∷ ks) ≡ suc (length ks) = refl in
    let s = length-without i ks h d.1 in
    omega arith

-- ---- what a path says

module _ (N P : ℕ → ℕ) where
  -- the next one leads back, and the one before leads here
  pub path-first : (a : ℕ) (ks : List ℕ) (z : ℕ) → Path N P a ks z → P (N a) ≡ a
  path-first a [] z h = ap P h.0 ∙ h.1
  path-first a (k ∷ ks) z h = ap P h.0 ∙ h.1

  pub path-last : (a : ℕ) (ks : List ℕ) (z : ℕ) → Path N P a ks z → N (P z) ≡ z
  path-last a [] z h = ap N h.1 ∙ h.0
  path-last a (k ∷ ks) z h = path-last k ks z h.2

  pub path-forth : (i a : ℕ) (ks : List ℕ) (z : ℕ) → Path N P a ks z → In i ks → P (N i) ≡ i
  path-forth i a [] z h m = absurd m
  path-forth i a (k ∷ ks) z h (inl e) = ap (λ (j : ℕ). P (N j)) e ∙ path-first k ks z h.2 ∙ sym e
  path-forth i a (k ∷ ks) z h (inr m) = path-forth i k ks z h.2 m

  pub path-back : (i a : ℕ) (ks : List ℕ) (z : ℕ) → Path N P a ks z → In i ks → N (P i) ≡ i
  path-back i a [] z h m = absurd m
  path-back i a (k ∷ ks) z h (inl e) = ap N (ap P e ∙ h.1) ∙ h.0 ∙ sym e
  path-back i a (k ∷ ks) z h (inr m) = path-back i k ks z h.2 m

  -- what is true of all on the path is true of a neighbour
  pub first-is : (T : ℕ → Type 0) (a : ℕ) (ks : List ℕ) (z : ℕ) → Path N P a ks z → Each T ks → T z → T (N a)
  first-is T a [] z h t tz = subst T (sym h.0) tz
  first-is T a (k ∷ ks) z h t tz = subst T (sym h.0) t.0

  pub next-is : (T : ℕ → Type 0) (i a : ℕ) (ks : List ℕ) (z : ℕ) → Path N P a ks z → Each T ks → T z → In i ks → T (N i)
  next-is T i a [] z h t tz m = absurd m
  next-is T i a (k ∷ ks) z h t tz (inl e) = subst (λ (j : ℕ). T (N j)) (sym e) (first-is T k ks z h.2 t.1 tz)
  next-is T i a (k ∷ ks) z h t tz (inr m) = next-is T i k ks z h.2 t.1 tz m

  pub last-is : (T : ℕ → Type 0) (a : ℕ) (ks : List ℕ) (z : ℕ) → Path N P a ks z → Each T ks → T a → T (P z)
  last-is T a [] z h t ta = subst T (sym h.1) ta
  last-is T a (k ∷ ks) z h t ta = last-is T k ks z h.2 t.1 t.0

  pub prev-is : (T : ℕ → Type 0) (i a : ℕ) (ks : List ℕ) (z : ℕ) → Path N P a ks z → Each T ks → T a → In i ks → T (P i)
  prev-is T i a [] z h t ta m = absurd m
  prev-is T i a (k ∷ ks) z h t ta (inl e) = subst T (sym (ap P e ∙ h.1)) ta
  prev-is T i a (k ∷ ks) z h t ta (inr m) = prev-is T i k ks z h.2 t.1 t.0 m

  -- the path is what the links give
  pub cells_along-path : (n a : ℕ) (ks : List ℕ) (z : ℕ) → Path N P a ks z → Each (λ k. k ≢ z) ks → length ks ≤ n → cells_along N n z a ≡ ks
  unfolding cells_along
  cells_along-path zero a [] z h ne le = refl
  cells_along-path zero a (k ∷ ks) z h ne le = let l : suc (length ks) ≤ 0 = le in absurd (omega arith)
  cells_along-path (suc n) a [] z h ne le =
      elim (eqb_tells (N a) z) [
        | inl t ↦ ap (λ (b : Bool). cond b [] (N a ∷ cells_along N n z (N a))) t.0
        | inr t ↦ absurd (t.1 h.0)
      ]
  cells_along-path (suc n) a (k ∷ ks) z h ne le =
      let l : suc (length ks) ≤ suc n = le in
      elim (eqb_tells (N a) z) [
        | inl t ↦ absurd (ne.0 (sym h.0 ∙ t.1))
        | inr t ↦ ap (λ (b : Bool). cond b [] (N a ∷ cells_along N n z (N a))) t.0 ∙ ap (λ (j : ℕ). j ∷ cells_along N n z j) h.0 ∙ ap (λ (js : List ℕ). k ∷ js) (cells_along-path n k ks z h.2 ne.1 (omega arith))
      ]

module _ (N P N' P' : ℕ → ℕ) where
  pub path-same : (a : ℕ) (ks : List ℕ) (z : ℕ) → N' a ≡ N a → Each (λ k. N' k ≡ N k) ks → Each (λ k. P' k ≡ P k) ks → P' z ≡ P z → Path N P a ks z → Path N' P' a ks z
  path-same a [] z na ns ps pz h = (na ∙ h.0, pz ∙ h.1)
  path-same a (k ∷ ks) z na ns ps pz h = (na ∙ h.0, ps.0 ∙ h.1, path-same k ks z ns.0 ns.1 ps.1 pz h.2)

  -- the neighbours of i are joined
  module _ (i : ℕ) (n₁ : N' (P i) ≡ N i) (n₂ : (y : ℕ) → y ≢ P i → N' y ≡ N y) (p₁ : P' (N i) ≡ P i) (p₂ : (y : ℕ) → y ≢ N i → P' y ≡ P y) (back : N (P i) ≡ i) (forth : P (N i) ≡ i) where
    here : (a k : ℕ) (ks : List ℕ) (z : ℕ) → i ≡ k → P k ≡ a → Path N P k ks z → Each (λ j. j ≢ a) ks → Each (λ j. j ≢ z) ks → AllDiffer ks → Path N' P' a ks z
    here a k [] z e pk h na nz d =
        let pa : P i ≡ a = ap P e ∙ pk in
        let ni : N i ≡ z = ap N e ∙ h.0 in
        (ap N' (sym pa) ∙ n₁ ∙ ni, ap P' (sym ni) ∙ p₁ ∙ pa)
    here a k (m ∷ ms) z e pk h na nz d =
        let pa : P i ≡ a = ap P e ∙ pk in
        let ni : N i ≡ m = ap N e ∙ h.0 in (
          ap N' (sym pa) ∙ n₁ ∙ ni,
          ap P' (sym ni) ∙ p₁ ∙ pa,
          path-same m ms z (n₂ m (λ q. na.0 (q ∙ pa))) (each-from (λ j. j ≢ a) (λ j. N' j ≡ N j) (λ j ne. n₂ j (λ q. ne (q ∙ pa))) ms na.1)
              (each-from (λ j. j ≢ m) (λ j. P' j ≡ P j) (λ j ne. p₂ j (λ q. ne (q ∙ ni))) ms d.0) (p₂ z (λ q. nz.0 (sym (q ∙ ni)))) h.2,
        )

    pub detached-path : (a : ℕ) (ks : List ℕ) (z : ℕ) → Path N P a ks z → In i ks → Each (λ k. k ≢ a) ks → Each (λ k. k ≢ z) ks → AllDiffer ks → Path N' P' a (without i ks) z
    detached-path a [] z h m na nz d = absurd m
    detached-path a (k ∷ ks) z h (inl e) na nz d =
        let gone = without-same i k ks e ∙ without-none i ks (each-from (λ j. j ≢ k) (λ j. j ≢ i) (λ j ne is. ne (is ∙ e)) ks d.0) in
        subst (λ (js : List ℕ). Path N' P' a js z) (sym gone) (here a k ks z e h.1 h.2 na.1 nz.1 d.1)
    detached-path a (k ∷ ks) z h (inr m) na nz d =
        let ne : k ≢ i = (λ e. each-in (λ j. j ≢ k) i ks m d.0 (sym e)) in
        let ia : i ≢ a = each-in (λ j. j ≢ a) i ks m na.1 in
        subst (λ (js : List ℕ). Path N' P' a js z) (sym (without-other i k ks ne))
        (n₂ a (λ q. ne (sym h.0 ∙ ap N q ∙ back)) ∙ h.0, p₂ k (λ q. ia (sym forth ∙ ap P (sym q) ∙ h.1)) ∙ h.1, detached-path k ks z h.2 m d.0 nz.1 d.1)

  -- i comes before z
  module _ (i z : ℕ) (n₁ : N' (P z) ≡ i) (n₂ : (y : ℕ) → y ≢ P z → y ≢ i → N' y ≡ N y) (n₃ : N' i ≡ z) (p₁ : P' i ≡ P z) (p₂ : (y : ℕ) → y ≢ i → y ≢ z → P' y ≡ P y) (p₃ : P' z ≡ i) (back : N (P z) ≡ z) where
    pub attached-path : (a : ℕ) (ks : List ℕ) → Path N P a ks z → a ≢ i → Each (λ k. k ≢ i) ks → Each (λ k. k ≢ z) ks → Path N' P' a (ks ++ i ∷ []) z
    attached-path a [] h ai ni nz = (ap N' (sym h.1) ∙ n₁, p₁ ∙ h.1, (n₃, p₃))
    attached-path a (k ∷ ks) h ai ni nz =
        (n₂ a (λ q. nz.0 (sym h.0 ∙ ap N q ∙ back)) ai ∙ h.0, p₂ k ni.0 nz.0 ∙ h.1, attached-path k ks h.2 ni.0 ni.1 nz.1)
