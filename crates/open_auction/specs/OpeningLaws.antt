-- The text of the openings does not depend on how the orders are named.
use Rattle.std.specs.Prelude.{◌≡◌, ℕ, ◌+◌, ◌-◌, ◌==◌, zero, suc, min, Bool, true, false, List, [], ◌∷◌, ◌++◌, filter, map, length, flat_map, sum_by, Option, Some, None, refl, if◌then◌else◌}
use Rattle.std.specs.List.{fold}
use Rattle.std.proofs.Common.{sym, ap, ◌∙◌}
use Rattle.std.proofs.lemmas.List.{length-map}
use Rattle.std.proofs.lemmas.List.Sums.{sum_by-cons}
use Rattle.gx_base.specs.NameLists.{NameLists}
use Rattle.gx_base.specs.Line.{decimals_of}
use Rattle.gx_base.specs.declared.price.Price.{Price}
use Rattle.gx_base.specs.declared.order.Side.{Side}
use Rattle.gx_base.specs.declared.order.Side.TheVariants.{Buy, Sell}
use Rattle.product_file.specs.Products.{ProductLists}
use Rattle.plain_book.specs.declared.entry.Entry.{Entry}
use Rattle.plain_book.specs.Orders.{is_of, is_on, is_within, side_of}
use Rattle.plain_book.specs.Numbers.{entry_numbered, numbered}
use Rattle.order_kinds.specs.State.{State, state_numbered}
use Rattle.order_kinds.specs.OrderRules.{last_of}
use Rattle.open_auction.specs.declared.quote.Opening.{Opening}
use Rattle.open_auction.specs.Curves.{demand, supply}
use Rattle.open_auction.specs.Candidates.{put_price, prices_of, candidates}
use Rattle.open_auction.specs.Openings.{opening_at, openings, opening_of, chosen, trades}
use Rattle.open_auction.specs.Pairs.{Pair, takers, after_giving, pairs, all_pairs, opening_pairs}
use Rattle.open_auction.specs.OpeningText.{name_line, candidate_line, opening_line, pair_lines, pair_line, instrument_opening, opening_texts, opening_text}

-- a test that does not look at the slot
abbrev Ignores : (Entry → Bool) → Type 0
Ignores p = (e : Entry) → p (entry_numbered e) ≡ p e

filter-numbered : (p : Entry → Bool) → Ignores p → (es : List Entry) → filter p (numbered es) ≡ numbered (filter p es)
filter-numbered p f [] = refl
filter-numbered p f (e ∷ es) =
    ap (λ (b : Bool). if b then entry_numbered e ∷ filter p (numbered es) else filter p (numbered es)) (f e)
    ∙ ap (λ (l : List Entry). if p e then entry_numbered e ∷ l else l) (filter-numbered p f es)
    ∙ both (p e)
  where
    both : (b : Bool) → (if b then entry_numbered e ∷ numbered (filter p es) else numbered (filter p es)) ≡ numbered (if b then e ∷ filter p es else filter p es)
    both true = refl
    both false = refl

takers-numbered : (i : ℕ) (s : Side) (p : Price) (es : List Entry) → takers i s p (numbered es) ≡ numbered (takers i s p es)
takers-numbered i s p es =
    ap (λ (l : List Entry). filter (λ e. is_within s p.0 e.order.price.0) l) (filter-numbered (is_on i s) (λ e. refl) es)
    ∙ filter-numbered (λ e. is_within s p.0 e.order.price.0) (λ e. refl) (side_of i s es)

leaves-numbered : (es : List Entry) → sum_by (λ (e : Entry). e.order.leaves) (numbered es) ≡ sum_by (λ (e : Entry). e.order.leaves) es
leaves-numbered [] = refl
leaves-numbered (e ∷ es) =
    sum_by-cons (λ (e : Entry). e.order.leaves) (entry_numbered e) (numbered es)
    ∙ ap (λ (n : ℕ). e.order.leaves + n) (leaves-numbered es)
    ∙ sym (sum_by-cons (λ (e : Entry). e.order.leaves) e es)

open-numbered : (i : ℕ) (s : Side) (p : Price) (es : List Entry) → sum_by (λ (e : Entry). e.order.leaves) (takers i s p (numbered es)) ≡ sum_by (λ (e : Entry). e.order.leaves) (takers i s p es)
open-numbered i s p es = ap (λ (l : List Entry). sum_by (λ (e : Entry). e.order.leaves) l) (takers-numbered i s p es) ∙ leaves-numbered (takers i s p es)

prices-numbered : (es : List Entry) → prices_of (numbered es) ≡ prices_of es
prices-numbered [] = refl
prices-numbered (e ∷ es) = ap (put_price e.order.price) (prices-numbered es)

candidates-numbered : (i : ℕ) (es : List Entry) → candidates i (numbered es) ≡ candidates i es
candidates-numbered i es = ap prices_of (filter-numbered (is_of i) (λ e. refl) es) ∙ prices-numbered (filter (is_of i) es)

at-numbered : (i : ℕ) (es : List Entry) (p : Price) → opening_at i (numbered es) p ≡ opening_at i es p
at-numbered i es p =
    let made : ℕ → ℕ → Opening = λ d s. record { price = p; volume = min d s; demand = d; supply = s } in
    ap (λ (d : ℕ). made d (supply i (numbered es) p)) (open-numbered i Buy p es) ∙ ap (made (demand i es p)) (open-numbered i Sell p es)

all-at : (i : ℕ) (es : List Entry) (cs : List Price) → map (opening_at i (numbered es)) cs ≡ map (opening_at i es) cs
all-at i es [] = refl
all-at i es (c ∷ cs) = ap (λ (o : Opening). o ∷ map (opening_at i (numbered es)) cs) (at-numbered i es c) ∙ ap (λ (os : List Opening). opening_at i es c ∷ os) (all-at i es cs)

openings-numbered : (i : ℕ) (es : List Entry) → openings i (numbered es) ≡ openings i es
openings-numbered i es = ap (map (opening_at i (numbered es))) (candidates-numbered i es) ∙ all-at i es (candidates i es)

opening-numbered : (last : Option Price) (i : ℕ) (es : List Entry) → opening_of last i (numbered es) ≡ opening_of last i es
opening-numbered last i es = ap (λ (os : List Opening). fold (chosen last) None (filter trades os)) (openings-numbered i es)

giving-numbered : (lots : ℕ) (e : Entry) (es : List Entry) → after_giving lots (entry_numbered e) (numbered es) ≡ numbered (after_giving lots e es)
giving-numbered lots e es = both (e.order.leaves == lots)
  where
    both : (b : Bool) → (if b then numbered es else entry_numbered (record e { order = record e.order { leaves = e.order.leaves - lots } }) ∷ numbered es) ≡ numbered (if b then es else record e { order = record e.order { leaves = e.order.leaves - lots } } ∷ es)
    both true = refl
    both false = refl

pairs-numbered : (n : ℕ) (bs ss : List Entry) → pairs n (numbered bs) (numbered ss) ≡ pairs n bs ss
pairs-numbered zero bs ss = refl
pairs-numbered (suc n) [] ss = refl
pairs-numbered (suc n) (b ∷ bs) [] = refl
pairs-numbered (suc n) (b ∷ bs) (s ∷ ss) =
    let lots = min b.order.leaves s.order.leaves in
    let first : Pair = record { lots = lots; buy = b.order; sell = s.order } in
    ap (λ (l : List Entry). first ∷ pairs n l (after_giving lots (entry_numbered s) (numbered ss))) (giving-numbered lots b bs)
    ∙ ap (λ (l : List Entry). first ∷ pairs n (numbered (after_giving lots b bs)) l) (giving-numbered lots s ss)
    ∙ ap (λ (qs : List Pair). first ∷ qs) (pairs-numbered n (after_giving lots b bs) (after_giving lots s ss))

all-pairs-numbered : (bs ss : List Entry) → all_pairs (numbered bs) (numbered ss) ≡ all_pairs bs ss
all-pairs-numbered bs ss =
    ap (λ (n : ℕ). pairs (n + length (numbered ss)) (numbered bs) (numbered ss)) (length-map bs entry_numbered)
    ∙ ap (λ (n : ℕ). pairs (length bs + n) (numbered bs) (numbered ss)) (length-map ss entry_numbered)
    ∙ pairs-numbered (length bs + length ss) bs ss

opening-pairs-numbered : (i : ℕ) (es : List Entry) (p : Price) → opening_pairs i (numbered es) p ≡ opening_pairs i es p
opening-pairs-numbered i es p =
    ap (λ (bs : List Entry). all_pairs bs (takers i Sell p (numbered es))) (takers-numbered i Buy p es)
    ∙ ap (λ (ss : List Entry). all_pairs (numbered (takers i Buy p es)) ss) (takers-numbered i Sell p es)
    ∙ all-pairs-numbered (takers i Buy p es) (takers i Sell p es)

lines-numbered : (decimals i : ℕ) (es : List Entry) (o : Option Opening) → pair_lines decimals i (numbered es) o ≡ pair_lines decimals i es o
lines-numbered decimals i es None = refl
lines-numbered decimals i es (Some o) = ap (λ (qs : List Pair). flat_map (pair_line decimals o.price) qs) (opening-pairs-numbered i es o.price)

instrument-numbered : (names : NameLists) (state : State) (i : ℕ) → instrument_opening names (state_numbered state) i ≡ instrument_opening names state i
instrument-numbered names state i =
    let es = state.book.resting in
    let d = decimals_of names i in
    let last = last_of i state.last in
    let text : List Opening → Option Opening → List ℕ → List ℕ = λ os o l. name_line names i ++ flat_map (candidate_line d) os ++ opening_line d o ++ l in
    ap (λ (os : List Opening). text os (opening_of last i (numbered es)) (pair_lines d i (numbered es) (opening_of last i (numbered es)))) (openings-numbered i es)
    ∙ ap (λ (o : Option Opening). text (openings i es) o (pair_lines d i (numbered es) o)) (opening-numbered last i es)
    ∙ ap (text (openings i es) (opening_of last i es)) (lines-numbered d i es (opening_of last i es))

texts-numbered : (names : NameLists) (state : State) (i count : ℕ) → opening_texts names (state_numbered state) i count ≡ opening_texts names state i count
texts-numbered names state i zero = refl
texts-numbered names state i (suc count) =
    ap (λ (l : List ℕ). l ++ opening_texts names (state_numbered state) (i + 1) count) (instrument-numbered names state i)
    ∙ ap (λ (l : List ℕ). instrument_opening names state i ++ l) (texts-numbered names state (i + 1) count)

-- a state whose orders are named by their numbers has the same text
pub opening_text-numbered : (product : ProductLists) (state : State) → opening_text product (state_numbered state) ≡ opening_text product state
opening_text-numbered product state = texts-numbered product.names state 0 (length product.names.instruments)
