-- The first waiting stop of an instrument that a range of trade prices reaches.
use Rattle.std.proofs.Common.{◌≡◌, ℕ, Bool, cond, List, [], ◌∷◌, filter, Option, Some, None, refl, sym, ap, subst, ◌∙◌, option_map, inl}
use Rattle.std.specs.List.{AllByRecursion}
use Rattle.std.proofs.lemmas.Bool.Decides.{Decides-eqb}
use Rattle.gx_base.specs.declared.price.Price.{Price}
use Rattle.plain_book.specs.declared.entry.Entry.{Entry}
use Rattle.plain_book.specs.Orders.{HasSlot, order_of, slot_of, is_of, stops_of}
use Rattle.plain_book.specs.Book.{Book, IsRight, AllDiffer}
use Rattle.plain_book.specs.Waiting.{is_reached_by}
use Rattle.plain_book.proofs.Levels.{same, HasSlot-filter, AllDiffer-filter, AllDiffer-back, order_of-filter}
use Rattle.plain_book.proofs.Pairs.{all-filter, all-passing}
use Rattle.order_kinds.specs.Stops.{first_entry, first_reached}

-- ---- the first of a list

pub slot-first : (es : List Entry) → slot_of es ≡ option_map (λ (e : Entry). e.slot) (first_entry es)
slot-first [] = refl
slot-first (e ∷ es) = refl

first-holds : (Each : Entry → Type 0) (es : List Entry) (e : Entry) → AllByRecursion Each es → first_entry es ≡ Some e → Each e
first-holds Each [] e a is = absurd (let k : None ≡ Some e = is in cc)
first-holds Each (x ∷ es) e a is = let k : Some x ≡ Some e = is in let here : x ≡ e = cc in subst Each here a.0

-- its slot is that of its order
abbrev pub StandsIn : Entry → List Entry → Type 0
StandsIn e es = HasSlot e.slot es × (order_of e.slot es ≡ e.order)

first-stands : (es : List Entry) (e : Entry) → first_entry es ≡ Some e → StandsIn e es
first-stands [] e is = absurd (let k : None ≡ Some e = is in cc)
first-stands (x ∷ es) e is =
    let k : Some x ≡ Some e = is in
    let here : x ≡ e = cc in
    subst (λ (y : Entry). StandsIn y (x ∷ es)) here (inl refl, ap (λ (b : Bool). cond b x.order (order_of x.slot es)) (same x.slot))

stands-filter : (p : Entry → Bool) (e : Entry) (es : List Entry) → AllDiffer es → StandsIn e (filter p es) → StandsIn e es
stands-filter p e es d stands = (HasSlot-filter p e.slot es stands.0, sym (order_of-filter p e.slot es d stands.0) ∙ stands.1)

-- ---- the first stop that is reached

-- it is one of those that wait
pub reached-holds : (Each : Entry → Type 0) (instrument : ℕ) (range : Option (Price × Price)) (waiting : List Entry) (e : Entry) → AllByRecursion Each waiting → first_reached instrument range waiting ≡ Some e → Each e
reached-holds Each instrument None waiting e a is = absurd (let k : None ≡ Some e = is in cc)
reached-holds Each instrument (Some range) waiting e a is =
    let stops = stops_of instrument waiting in
    first-holds Each _ e (all-filter Each (is_reached_by range) stops (all-filter Each (is_of instrument) waiting a)) is

pub reached-stands : (instrument : ℕ) (range : Option (Price × Price)) (waiting : List Entry) (e : Entry) → AllDiffer waiting → first_reached instrument range waiting ≡ Some e → StandsIn e waiting
reached-stands instrument None waiting e d is = absurd (let k : None ≡ Some e = is in cc)
reached-stands instrument (Some range) waiting e d is =
    let stops = stops_of instrument waiting in
    stands-filter (is_of instrument) e waiting d
    (stands-filter (is_reached_by range) e stops (AllDiffer-filter (is_of instrument) waiting d) (first-stands (filter (is_reached_by range) stops) e is))

-- it is one of the instrument
reached-of : (instrument : ℕ) (range : Option (Price × Price)) (waiting : List Entry) (e : Entry) → first_reached instrument range waiting ≡ Some e → e.order.instrument ≡ instrument
reached-of instrument None waiting e is = absurd (let k : None ≡ Some e = is in cc)
reached-of instrument (Some range) waiting e is =
    let Of = λ (x : Entry). x.order.instrument ≡ instrument in
    let stops = stops_of instrument waiting in
    let all : AllByRecursion Of stops = all-passing Of (is_of instrument) (λ x h. (Decides-eqb x.order.instrument instrument).0 h) waiting in
    first-holds Of _ e (all-filter Of (is_reached_by range) stops all) is

-- ---- it was found by its slot

-- a waiting stop of this slot is the first that the range reaches
pub record IsFirstReached (instrument : ℕ) (range : Option (Price × Price)) (waiting : List Entry) (slot : ℕ) : Type 0 where
  pub stop : Entry
  pub has : stop.slot ≡ slot
  pub first : first_reached instrument range waiting ≡ Some stop

module _ (instrument : ℕ) (range : Option (Price × Price)) (waiting : List Entry) where
  pub found-some : (slot : ℕ) → Some slot ≡ option_map (λ (e : Entry). e.slot) (first_reached instrument range waiting) → IsFirstReached instrument range waiting slot
  found-some slot is =
      let go : (next : Option Entry) → first_reached instrument range waiting ≡ next → Some slot ≡ option_map (λ (e : Entry). e.slot) next → IsFirstReached instrument range waiting slot = elim [
        | None ↦ λ first h. absurd (let k : Some slot ≡ None = h in cc)
        | Some stop ↦ λ first h. record { stop = stop; has = let k : Some slot ≡ Some stop.slot = h in cc; first = first }
      ] in go (first_reached instrument range waiting) refl is

  pub found-none : None ≡ option_map (λ (e : Entry). e.slot) (first_reached instrument range waiting) → first_reached instrument range waiting ≡ None
  found-none is =
      let go : (next : Option Entry) → None ≡ option_map (λ (e : Entry). e.slot) next → next ≡ None = elim [
        | None ↦ λ h. refl
        | Some stop ↦ λ h. absurd (let k : None ≡ Some stop.slot = h in cc)
      ] in go (first_reached instrument range waiting) is

module _ (instrument : ℕ) (range : Option (Price × Price)) (b : Book) (right : IsRight b) (slot : ℕ) (found : IsFirstReached instrument range b.waiting slot) where
  stands : StandsIn found.stop b.waiting
  stands = reached-stands instrument range b.waiting found.stop (AllDiffer-back b.resting b.waiting right.differ) found.first

  pub found-waits : HasSlot slot b.waiting
  found-waits = subst (λ (n : ℕ). HasSlot n b.waiting) found.has stands.0

  pub found-order : order_of slot b.waiting ≡ found.stop.order
  found-order = ap (λ (n : ℕ). order_of n b.waiting) (sym found.has) ∙ stands.1

  pub found-instrument : found.stop.order.instrument ≡ instrument
  found-instrument = reached-of instrument range b.waiting found.stop found.first
