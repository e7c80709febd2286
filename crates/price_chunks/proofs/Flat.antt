-- The levels of chunks that stand one after the other.
use Rattle.std.proofs.Common.{◌≡◌, ◌≢◌, ℕ, ◌+◌, ◌<◌, Bool, true, false, cond, not, if◌then◌else◌, List, [], ◌∷◌, ◌++◌, length, get_or, set, map, filter, take, drop, refl, sym, ap, subst, ◌∙◌, arith, append_assoc, length-append}
use Prim.Native.Nat.{zero, suc}
use Rattle.std.specs.Prelude.{ℤ}
use Rattle.std.specs.List.{AllByRecursion}
use Rattle.std.proofs.lemmas.Bool.{false_from_ne_true}
use Rattle.std.proofs.lemmas.Bool.Decides.{Decides-int_eq}
use Rattle.std.proofs.lemmas.List.{map-append, append-nil, get_or_append_left, get_or-append-add, set-get_or, set_split, take_more, drop_all}
use Rattle.std.proofs.lemmas.List.Elements.{filter-append}
use Rattle.book_order.proofs.Each.{all-with}
use Rattle.book_order.proofs.Before.{better-past, better-apart}
use Rattle.book_order.proofs.Levels.{is_better-irrefl}
use Rattle.book_order.specs.Levels.{is_better}
use Rattle.gx_base.specs.declared.price.Price.{Price}
use Rattle.gx_base.specs.declared.order.Side.{Side}
use Rattle.price_chunks.specs.declared.place.Step.{Step}
use Rattle.price_chunks.proofs.Steps.{place_up}
use Rattle.price_chunks.specs.Steps.{no_step, step_at, AreWorstFirst, is_worse_step, is_step_at, is_open_step, with_step, without_step, opened, with_open}
use Rattle.price_chunks.specs.Inner.Chunks.{flat, chunk_at, IsChunkOf}

-- ---- the levels before a chunk, its own, and those after it

pub flat-append : (xs ys : List (List Step)) → flat (xs ++ ys) ≡ flat xs ++ flat ys
flat-append [] ys = refl
flat-append (x ∷ xs) ys = ap (λ (l : List Step). x ++ l) (flat-append xs ys) ∙ sym (append_assoc x (flat xs) (flat ys))

pub flat-set : (chunks : List (List Step)) (j : ℕ) (p : List Step) → j < length chunks → flat (set chunks j p) ≡ flat (take j chunks) ++ (p ++ flat (drop (suc j) chunks))
flat-set chunks j p lt = ap flat (set_split chunks j p lt) ∙ flat-append (take j chunks) (p ∷ drop (suc j) chunks)

pub flat-at : (chunks : List (List Step)) (j : ℕ) → j < length chunks → flat chunks ≡ flat (take j chunks) ++ (chunk_at chunks j ++ flat (drop (suc j) chunks))
flat-at chunks j lt = ap flat (sym (set-get_or chunks j [])) ∙ flat-set chunks j (chunk_at chunks j) lt

pub flat-more : (chunks : List (List Step)) (j : ℕ) → j < length chunks → flat (take (j + 1) chunks) ≡ flat (take j chunks) ++ chunk_at chunks j
flat-more chunks j lt = ap flat (take_more chunks j [] lt) ∙ flat-append (take j chunks) (chunk_at chunks j ∷ []) ∙ ap (λ (l : List Step). flat (take j chunks) ++ l) (append-nil (chunk_at chunks j))

-- ---- order

pub two : (side : Side) (a b x y : Step) → a ≡ x → b ≡ y → is_better side a.price.0 b.price.0 ≡ true → is_better side x.price.0 y.price.0 ≡ true
two side a b x y e f h = subst (λ (p : Step × Step). is_better side p.0.price.0 p.1.price.0 ≡ true) (λ i. (e i, f i)) h

pub order-front : (side : Side) (xs ys : List Step) → AreWorstFirst side (xs ++ ys) → AreWorstFirst side xs
order-front side xs ys o i k lt below =
    two side (step_at (xs ++ ys) k) (step_at (xs ++ ys) i) (step_at xs k) (step_at xs i) (get_or_append_left xs ys no_step k below) (get_or_append_left xs ys no_step i (omega arith))
    (o i k lt (omega (arith, length-append xs ys)))

pub order-back : (side : Side) (xs ys : List Step) → AreWorstFirst side (xs ++ ys) → AreWorstFirst side ys
order-back side xs ys o i k lt below =
    let n = length xs in
    two side (step_at (xs ++ ys) (n + k)) (step_at (xs ++ ys) (n + i)) (step_at ys k) (step_at ys i) (get_or-append-add xs ys k no_step) (get_or-append-add xs ys i no_step)
    (o (n + i) (n + k) (omega arith) (omega (arith, length-append xs ys)))

pub order-chunk : (side : Side) (chunks : List (List Step)) (j : ℕ) → j < length chunks → AreWorstFirst side (flat chunks) → AreWorstFirst side (chunk_at chunks j)
order-chunk side chunks j lt o =
    let rest = flat (drop (suc j) chunks) in
    order-front side (chunk_at chunks j) rest (order-back side (flat (take j chunks)) (chunk_at chunks j ++ rest) (subst (AreWorstFirst side) (flat-at chunks j lt) o))

pub all-from : {X : Type 0} (P : X → Type 0) (xs : List X) (d : X) → ((k : ℕ) → k < length xs → P (get_or xs k d)) → AllByRecursion P xs
all-from P [] d f = tt
all-from P (x ∷ xs) d f = (f 0 (omega arith), all-from P xs d (λ k lt. f (suc k) (omega arith)))

-- where the last of a list is worse, each is
pub upto : (side : Side) (price : Price) (xs p : List Step) (n : ℕ) → AreWorstFirst side (xs ++ p) → n + 1 ≡ length p → is_worse_step side price (step_at p n) ≡ true → AllByRecursion (λ (s : Step). is_worse_step side price s ≡ true) (xs ++ p)
upto side price xs p n o e h =
    let all = xs ++ p in
    let l = length-append xs p in
    let last : is_worse_step side price (step_at all (length xs + n)) ≡ true = ap (is_worse_step side price) (get_or-append-add xs p n no_step) ∙ h in
    all-from (λ (s : Step). is_worse_step side price s ≡ true) all no_step (λ k lt. place_up side price all (length xs + n) o (omega arith) last k (omega arith))

-- where the last of a list is not, each after it is better
pub past : (side : Side) (price : Price) (p ys : List Step) (n : ℕ) → AreWorstFirst side (p ++ ys) → n + 1 ≡ length p → is_worse_step side price (step_at p n) ≡ false → AllByRecursion (λ (s : Step). is_better side s.price.0 price.0 ≡ true) ys
past side price p ys n o e h =
    let l = length-append p ys in
    all-from (λ (s : Step). is_better side s.price.0 price.0 ≡ true) ys no_step (λ k lt.
    better-past side (step_at ys k).price.0 (step_at p n).price.0 price.0
    (two side (step_at (p ++ ys) (length p + k)) (step_at (p ++ ys) n) (step_at ys k) (step_at p n) (get_or-append-add p ys k no_step) (get_or_append_left p ys no_step n (omega arith)) (o n (length p + k) (omega arith) (omega arith)))
    h)

-- ---- the place of a price

module _ (side : Side) (price : Price) (chunks : List (List Step)) (o : AreWorstFirst side (flat chunks)) where
  pub before_more : (j n : ℕ) → j < length chunks → n + 1 ≡ length (chunk_at chunks j) → is_worse_step side price (step_at (chunk_at chunks j) n) ≡ true → AllByRecursion (λ (s : Step). is_worse_step side price s ≡ true) (flat (take (j + 1) chunks))
  before_more j n lt e h =
      let p = chunk_at chunks j in
      let a = flat (take j chunks) in
      let rest = flat (drop (suc j) chunks) in
      let q = subst (AreWorstFirst side) (flat-at chunks j lt ∙ sym (append_assoc a p rest)) o in
      subst (AllByRecursion (λ (s : Step). is_worse_step side price s ≡ true)) (sym (flat-more chunks j lt)) (upto side price a p n (order-front side (a ++ p) rest q) e h)

  pub after_at : (j n : ℕ) → j < length chunks → n + 1 ≡ length (chunk_at chunks j) → is_worse_step side price (step_at (chunk_at chunks j) n) ≡ false → AllByRecursion (λ (s : Step). is_better side s.price.0 price.0 ≡ true) (flat (drop (suc j) chunks))
  after_at j n lt e h =
      let p = chunk_at chunks j in
      let a = flat (take j chunks) in
      let rest = flat (drop (suc j) chunks) in
      past side price p rest n (order-back side a (p ++ rest) (subst (AreWorstFirst side) (flat-at chunks j lt) o)) e h

  pub after_none : (j : ℕ) → j + 1 ≡ length chunks → AllByRecursion (λ (s : Step). is_better side s.price.0 price.0 ≡ true) (flat (drop (suc j) chunks))
  after_none j e = subst (λ (l : List (List Step)). AllByRecursion (λ (s : Step). is_better side s.price.0 price.0 ≡ true) (flat l)) (sym (drop_all (suc j) chunks (omega arith))) tt

-- ---- what a filter leaves

pub filter-all : (q : Step → Bool) (xs : List Step) → AllByRecursion (λ s. q s ≡ true) xs → (filter q xs ≡ xs) × (filter (λ s. not (q s)) xs ≡ [])
filter-all q [] h = (refl, refl)
filter-all q (x ∷ xs) h =
    let r = filter-all q xs h.1 in
    (ap (λ (b : Bool). cond b (x ∷ filter q xs) (filter q xs)) h.0 ∙ ap (λ (l : List Step). x ∷ l) r.0, ap (λ (b : Bool). cond (not b) (x ∷ filter (λ s. not (q s)) xs) (filter (λ s. not (q s)) xs)) h.0 ∙ r.1)

pub filter-none : (q : Step → Bool) (xs : List Step) → AllByRecursion (λ s. q s ≡ false) xs → (filter q xs ≡ []) × (filter (λ s. not (q s)) xs ≡ xs)
filter-none q [] h = (refl, refl)
filter-none q (x ∷ xs) h =
    let r = filter-none q xs h.1 in
    (ap (λ (b : Bool). cond b (x ∷ filter q xs) (filter q xs)) h.0 ∙ r.0, ap (λ (b : Bool). cond (not b) (x ∷ filter (λ s. not (q s)) xs) (filter (λ s. not (q s)) xs)) h.0 ∙ ap (λ (l : List Step). x ∷ l) r.1)

three : (q : Step → Bool) (a p b : List Step) → filter q (a ++ (p ++ b)) ≡ filter q a ++ (filter q p ++ filter q b)
three q a p b = filter-append q a (p ++ b) ∙ ap (λ (l : List Step). filter q a ++ l) (filter-append q p b)

module _ (side : Side) (price : Price) where
  pub worse_not_at : (s : Step) → is_worse_step side price s ≡ true → is_step_at price s ≡ false
  worse_not_at s h =
      false_from_ne_true (is_step_at price s) (λ t.
      let e : s.price.0 ≡ price.0 = (Decides-int_eq s.price.0 price.0).0 t in
      let k = subst (λ (x : ℤ). is_better side price.0 x ≡ true) e h in
      let g = is_better-irrefl side price.0 in cc)

  better_not_at : (s : Step) → is_better side s.price.0 price.0 ≡ true → is_step_at price s ≡ false
  better_not_at s h =
      false_from_ne_true (is_step_at price s) (λ t.
      let e : s.price.0 ≡ price.0 = (Decides-int_eq s.price.0 price.0).0 t in
      let k = subst (λ (x : ℤ). is_better side x price.0 ≡ true) e h in
      let g = is_better-irrefl side price.0 in cc)

-- ---- a chunk is changed in its place

module _ (side : Side) (price : Price) (chunks : List (List Step)) (j : ℕ) (at : IsChunkOf side price chunks j) where
  pub put_chunk : (s : Step) → s.price ≡ price → flat (set chunks j (with_step side s (chunk_at chunks j))) ≡ with_step side s (flat chunks)
  put_chunk s e =
      let a = flat (take j chunks) in
      let p = chunk_at chunks j in
      let b = flat (drop (suc j) chunks) in
      let q = is_worse_step side price in
      let n : Step → Bool = λ t. not (q t) in
      let fa = filter-all q a at.before in
      let fb = filter-none q b (all-with (λ (t : Step). is_better side t.price.0 price.0 ≡ true) (λ t. q t ≡ false) (λ t h. better-apart side t.price.0 price.0 h) b at.after) in
      let front : filter q (a ++ (p ++ b)) ≡ a ++ filter q p = three q a p b ∙ (λ i. fa.0 i ++ (filter q p ++ fb.0 i)) ∙ ap (λ (l : List Step). a ++ l) (append-nil (filter q p)) in
      let back : filter n (a ++ (p ++ b)) ≡ filter n p ++ b = three n a p b ∙ (λ i. fa.1 i ++ (filter n p ++ fb.1 i)) in
      let w : (x : Price) → x ≡ price → flat (set chunks j (filter (is_worse_step side x) p ++ s ∷ filter (λ t. not (is_worse_step side x t)) p)) ≡ filter (is_worse_step side x) (flat chunks) ++ s ∷ filter (λ t. not (is_worse_step side x t)) (flat chunks) = λ x f.
      subst (λ (y : Price). flat (set chunks j (filter (is_worse_step side y) p ++ s ∷ filter (λ t. not (is_worse_step side y t)) p)) ≡ filter (is_worse_step side y) (flat chunks) ++ s ∷ filter (λ t. not (is_worse_step side y t)) (flat chunks)) (sym f)
      (flat-set chunks j (filter q p ++ s ∷ filter n p) at.within
      ∙ ap (λ (l : List Step). a ++ l) (append_assoc (filter q p) (s ∷ filter n p) b)
      ∙ sym (append_assoc a (filter q p) (s ∷ (filter n p ++ b)))
      ∙ (λ i. sym front i ++ s ∷ sym back i)
      ∙ ap (λ (l : List Step). filter q l ++ s ∷ filter n l) (sym (flat-at chunks j at.within))) in
      w s.price e

  pub take_chunk : flat (set chunks j (without_step price (chunk_at chunks j))) ≡ without_step price (flat chunks)
  take_chunk =
      let a = flat (take j chunks) in
      let p = chunk_at chunks j in
      let b = flat (drop (suc j) chunks) in
      let q = is_step_at price in
      let n : Step → Bool = λ t. not (q t) in
      let fa = filter-none q a (all-with (λ (t : Step). is_worse_step side price t ≡ true) (λ t. q t ≡ false) (worse_not_at side price) a at.before) in
      let fb = filter-none q b (all-with (λ (t : Step). is_better side t.price.0 price.0 ≡ true) (λ t. q t ≡ false) (better_not_at side price) b at.after) in
      flat-set chunks j (filter n p) at.within
      ∙ (λ i. sym fa.1 i ++ (filter n p ++ sym fb.1 i))
      ∙ sym (three n a p b)
      ∙ ap (filter n) (sym (flat-at chunks j at.within))

-- ---- what is asked is asked of one chunk

module _ (side : Side) (price : Price) (chunks : List (List Step)) (j : ℕ) (at : IsChunkOf side price chunks j) where
  pub at_chunk : filter (is_step_at price) (flat chunks) ≡ filter (is_step_at price) (chunk_at chunks j)
  at_chunk =
      let a = flat (take j chunks) in
      let p = chunk_at chunks j in
      let b = flat (drop (suc j) chunks) in
      let q = is_step_at price in
      let fa = filter-none q a (all-with (λ (t : Step). is_worse_step side price t ≡ true) (λ t. q t ≡ false) (worse_not_at side price) a at.before) in
      let fb = filter-none q b (all-with (λ (t : Step). is_better side t.price.0 price.0 ≡ true) (λ t. q t ≡ false) (better_not_at side price) b at.after) in
      ap (filter q) (flat-at chunks j at.within) ∙ three q a p b ∙ (λ i. fa.0 i ++ (filter q p ++ fb.0 i)) ∙ append-nil (filter q p)

  pub worse_chunk : filter (is_worse_step side price) (flat chunks) ≡ flat (take j chunks) ++ filter (is_worse_step side price) (chunk_at chunks j)
  worse_chunk =
      let a = flat (take j chunks) in
      let p = chunk_at chunks j in
      let b = flat (drop (suc j) chunks) in
      let q = is_worse_step side price in
      let fa = filter-all q a at.before in
      let fb = filter-none q b (all-with (λ (t : Step). is_better side t.price.0 price.0 ≡ true) (λ t. q t ≡ false) (λ t h. better-apart side t.price.0 price.0 h) b at.after) in
      ap (filter q) (flat-at chunks j at.within) ∙ three q a p b ∙ (λ i. fa.0 i ++ (filter q p ++ fb.0 i)) ∙ ap (λ (l : List Step). a ++ l) (append-nil (filter q p))

  pub open_chunk : filter (is_open_step side price) (flat chunks) ≡ filter (is_open_step side price) (chunk_at chunks j) ++ flat (drop (suc j) chunks)
  open_chunk =
      let a = flat (take j chunks) in
      let p = chunk_at chunks j in
      let b = flat (drop (suc j) chunks) in
      let q = is_worse_step side price in
      let n : Step → Bool = λ t. not (q t) in
      let fa = filter-all q a at.before in
      let fb = filter-none q b (all-with (λ (t : Step). is_better side t.price.0 price.0 ≡ true) (λ t. q t ≡ false) (λ t h. better-apart side t.price.0 price.0 h) b at.after) in
      ap (filter n) (flat-at chunks j at.within) ∙ three n a p b ∙ (λ i. fa.1 i ++ (filter n p ++ fb.1 i))

-- a price that no level has
same_open : (price : Price) (n : ℕ) (xs : List Step) → AllByRecursion (λ s. is_step_at price s ≡ false) xs → with_open price n xs ≡ xs
same_open price n [] h = refl
same_open price n (x ∷ xs) h = λ i. (if h.0 i then record x { leaves = n } else x) ∷ same_open price n xs h.1 i

pub lots_chunk : (side : Side) (price : Price) (chunks : List (List Step)) (j : ℕ) (n : ℕ) → IsChunkOf side price chunks j → flat (set chunks j (with_open price n (chunk_at chunks j))) ≡ with_open price n (flat chunks)
lots_chunk side price chunks j n at =
    let a = flat (take j chunks) in
    let p = chunk_at chunks j in
    let b = flat (drop (suc j) chunks) in
    let q = is_step_at price in
    let fa = same_open price n a (all-with (λ (t : Step). is_worse_step side price t ≡ true) (λ t. q t ≡ false) (worse_not_at side price) a at.before) in
    let fb = same_open price n b (all-with (λ (t : Step). is_better side t.price.0 price.0 ≡ true) (λ t. q t ≡ false) (better_not_at side price) b at.after) in
    let f = opened price n in
    flat-set chunks j (with_open price n p) at.within
    ∙ (λ i. sym fa i ++ (with_open price n p ++ sym fb i))
    ∙ sym (map-append f a (p ++ b) ∙ ap (λ (l : List Step). map f a ++ l) (map-append f p b))
    ∙ ap (with_open price n) (sym (flat-at chunks j at.within))

pub none_open : (price : Price) (n : ℕ) (xs : List Step) → ((k : ℕ) → k < length xs → is_step_at price (step_at xs k) ≡ false) → xs ≡ with_open price n xs
none_open price n xs f = sym (same_open price n xs (all-from (λ (s : Step). is_step_at price s ≡ false) xs no_step f))

pub one_open : (price : Price) (n : ℕ) (xs : List Step) (p : ℕ) → p < length xs → is_step_at price (step_at xs p) ≡ true → ((k : ℕ) → k < length xs → (k ≡ p → ⊥) → is_step_at price (step_at xs k) ≡ false) → set xs p (record (step_at xs p) { leaves = n }) ≡ with_open price n xs
one_open price n [] p lt h f = absurd (omega arith)
one_open price n (x ∷ xs) zero lt h f = λ i. (if sym h i then record x { leaves = n } else x) ∷ none_open price n xs (λ k l. let ne : suc k ≢ 0 = omega arith in f (suc k) (omega arith) ne) i
one_open price n (x ∷ xs) (suc p) lt h f =
    let z : 0 ≢ suc p = omega arith in
    let e = f 0 (omega arith) z in
    λ i. (if sym e i then record x { leaves = n } else x) ∷ one_open price n xs p (omega arith) h (λ k l m. let ne : suc k ≢ suc p = omega arith in f (suc k) (omega arith) ne) i
