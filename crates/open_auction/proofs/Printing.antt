-- Lines that are put out one after the other.
use Rattle.std.proofs.Common.{◌≡◌, ℕ, ◌+◌, ◌≤◌, min, List, [], ◌∷◌, ◌++◌, length, Some, None, refl, sym, ap, ◌∙◌, arith}
use Prim.Native.Nat.{zero, suc}
use Rattle.std.specs.List.{flat_map}
use Rattle.gx_base.specs.declared.price.Price.{Price}
use Rattle.plain_book.specs.declared.entry.Entry.{Entry}
use Rattle.open_auction.specs.declared.quote.Opening.{Opening}
use Rattle.open_auction.specs.declared.side_walk.Left.{Left}
use Rattle.open_auction.specs.OpeningText.{candidate_line, pair_line, pair_words}
use Rattle.open_auction.specs.Pairs.{Pair, pairs, all_pairs, after_giving}
use Rattle.open_auction.specs.Inner.Walk.{first_of, after_first}
use Rattle.open_auction.specs.Inner.SideWalk.{first_left, first_gives}
use Rattle.open_auction.proofs.Pairing.{fewer}

-- ---- candidates

pub candidate-next : (decimals : ℕ) (L M : List Opening) (o : Opening) → Some o ≡ first_of L → M ≡ after_first L → flat_map (candidate_line decimals) L ≡ candidate_line decimals o ++ flat_map (candidate_line decimals) M
candidate-next decimals [] M o h k = absurd (let e : Some o ≡ None = h in cc)
candidate-next decimals (x ∷ L) M o h k =
    let same : x ≡ o = (let e : Some x ≡ Some o = sym h in cc) in
    ap (λ (y : Opening). candidate_line decimals y ++ flat_map (candidate_line decimals) L) same
    ∙ ap (λ (l : List Opening). candidate_line decimals o ++ flat_map (candidate_line decimals) l) (sym k)

pub candidates-end : (decimals : ℕ) (L : List Opening) → first_of L ≡ None → flat_map (candidate_line decimals) L ≡ []
candidates-end decimals [] h = refl
candidates-end decimals (x ∷ L) h = absurd (let e : Some x ≡ None = h in cc)

-- ---- pairs

-- more rounds than are needed make no difference
enough : (n m : ℕ) (bs ss : List Entry) → length bs + length ss ≤ n → length bs + length ss ≤ m → pairs n bs ss ≡ pairs m bs ss
enough zero zero bs ss h k = refl
enough zero (suc m) [] ss h k = refl
enough zero (suc m) (b ∷ bs) ss h k = absurd (omega (arith, h))
enough (suc n) zero [] ss h k = refl
enough (suc n) zero (b ∷ bs) ss h k = absurd (omega (arith, k))
enough (suc n) (suc m) [] ss h k = refl
enough (suc n) (suc m) (b ∷ bs) [] h k = refl
enough (suc n) (suc m) (b ∷ bs) (s ∷ ss) h k =
    let lots = min b.order.leaves s.order.leaves in
    ap (λ (qs : List Pair). record { lots = lots; buy = b.order; sell = s.order } ∷ qs) (enough n m (after_giving lots b bs) (after_giving lots s ss) (fewer b s bs ss n h) (fewer b s bs ss m k))

-- the first pair, and those that are left then
all-next : (b s : Entry) (bs ss : List Entry) → let lots = min b.order.leaves s.order.leaves in
    all_pairs (b ∷ bs) (s ∷ ss) ≡ record { lots = lots; buy = b.order; sell = s.order } ∷ all_pairs (after_giving lots b bs) (after_giving lots s ss)
all-next b s bs ss =
    let lots = min b.order.leaves s.order.leaves in
    let n = length bs + length (s ∷ ss) in
    let count : length (b ∷ bs) + length (s ∷ ss) ≡ suc n = omega arith in
    let few : length (after_giving lots b bs) + length (after_giving lots s ss) ≤ n = fewer b s bs ss n (omega arith) in
    ap (λ (k : ℕ). pairs k (b ∷ bs) (s ∷ ss)) count
    ∙ ap (λ (qs : List Pair). record { lots = lots; buy = b.order; sell = s.order } ∷ qs) (enough n (length (after_giving lots b bs) + length (after_giving lots s ss)) (after_giving lots b bs) (after_giving lots s ss) few (omega arith))

pub pair-next : (decimals : ℕ) (p : Price) (bs ss bs' ss' : List Entry) (b s : Left) (lots : ℕ) → Some b ≡ first_left bs → Some s ≡ first_left ss → lots ≡ min b.lots s.lots → bs' ≡ first_gives lots bs → ss' ≡ first_gives lots ss
    → flat_map (pair_line decimals p) (all_pairs bs ss) ≡ pair_words decimals p lots b.number s.number ++ flat_map (pair_line decimals p) (all_pairs bs' ss')
pair-next decimals p [] ss bs' ss' b s lots h k is f g = absurd (let e : Some b ≡ None = h in cc)
pair-next decimals p (x ∷ bs) [] bs' ss' b s lots h k is f g = absurd (let e : Some s ≡ None = k in cc)
pair-next decimals p (x ∷ bs) (y ∷ ss) bs' ss' b s lots h k is f g =
    let line = pair_line decimals p in
    let first : b ≡ record { number = x.order.number; lots = x.order.leaves } = cc in
    let second : s ≡ record { number = y.order.number; lots = y.order.leaves } = cc in
    let much : min x.order.leaves y.order.leaves ≡ lots = sym (is ∙ ap (λ (l : Left). min l.lots s.lots) first ∙ ap (λ (l : Left). min x.order.leaves l.lots) second) in
    ap (λ (qs : List Pair). flat_map line qs) (all-next x y bs ss)
    ∙ ap (λ (n : ℕ). pair_words decimals p n x.order.number y.order.number ++ flat_map line (all_pairs (after_giving n x bs) (after_giving n y ss))) much
    ∙ ap (λ (l : Left). pair_words decimals p lots l.number y.order.number ++ flat_map line (all_pairs (after_giving lots x bs) (after_giving lots y ss))) (sym first)
    ∙ ap (λ (l : Left). pair_words decimals p lots b.number l.number ++ flat_map line (all_pairs (after_giving lots x bs) (after_giving lots y ss))) (sym second)
    ∙ ap (λ (l : List Entry). pair_words decimals p lots b.number s.number ++ flat_map line (all_pairs l (after_giving lots y ss))) (sym f)
    ∙ ap (λ (l : List Entry). pair_words decimals p lots b.number s.number ++ flat_map line (all_pairs bs' l)) (sym g)

pub pairs-end-buys : (decimals : ℕ) (p : Price) (bs ss : List Entry) → first_left bs ≡ None → flat_map (pair_line decimals p) (all_pairs bs ss) ≡ []
pairs-end-buys decimals p [] ss h = ap (λ (qs : List Pair). flat_map (pair_line decimals p) qs) (none (0 + length ss) ss)
  where
    none : (n : ℕ) (ss : List Entry) → pairs n [] ss ≡ []
    none zero ss = refl
    none (suc n) ss = refl
pairs-end-buys decimals p (b ∷ bs) ss h = absurd (let l : Left = record { number = b.order.number; lots = b.order.leaves } in let e : Some l ≡ None = h in cc)

pub pairs-end-sells : (decimals : ℕ) (p : Price) (bs ss : List Entry) → first_left ss ≡ None → flat_map (pair_line decimals p) (all_pairs bs ss) ≡ []
pairs-end-sells decimals p bs [] h = ap (λ (qs : List Pair). flat_map (pair_line decimals p) qs) (none (length bs + 0) bs)
  where
    none : (n : ℕ) (bs : List Entry) → pairs n bs [] ≡ []
    none zero bs = refl
    none (suc n) [] = refl
    none (suc n) (b ∷ bs) = refl
pairs-end-sells decimals p bs (s ∷ ss) h = absurd (let l : Left = record { number = s.order.number; lots = s.order.leaves } in let e : Some l ≡ None = h in cc)
