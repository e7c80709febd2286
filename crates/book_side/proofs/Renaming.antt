-- A live order that gets another id.
use Rattle.std.proofs.Common.{◌≡◌, ℕ, ◌<◌, ◌≤◌, Bool, true, false, cond, not, List, [], ◌∷◌, filter, refl, sym, ap, subst, ◌∙◌, inl, inr}
use Rattle.std.proofs.lemmas.Bool.Decides.{eqb_tells, Decides-eqb}
use Rattle.std.proofs.lemmas.Slice.Eq.{bytes_eq-Decides}
use Rattle.std.specs.Prelude.{◌==◌, None, Some}
use Rattle.std.specs.List.{AllByRecursion}
use Rattle.gx_base.specs.declared.order.Order.{Order}
use Rattle.plain_book.specs.declared.entry.Entry.{Entry}
use Rattle.plain_book.specs.Orders.{HasSlot, order_of, level_of, is_live, is_named, slot_of, slot_named, reordered, with_order, without}
use Rattle.plain_book.specs.Book.{Book, live_orders, IsRight, IsResting, IsWaiting, changed_to, book_changed}
use Rattle.plain_book.proofs.Levels.{order_of-left, order_of-right, slots-apart, and-left, and-right}
use Rattle.plain_book.proofs.Pairs.{none-any}
use Rattle.plain_book.proofs.Live.{orders-at, fit_of}
use Rattle.plain_book.proofs.Named.{named-renamed, unnamed-without}
use Rattle.plain_book.proofs.Walks.{HasSlot-with_order, HasSlot-before, order_of-with_order}
use Rattle.plain_book.proofs.Right.{live-reordered, right-reordered}
use Rattle.book_side.specs.Inner.Steps.{book_reordered}
use Rattle.book_side.proofs.Ids.{is_same_name}
use Rattle.plain_book.proofs.Fits.{rest-changed, wait-changed}
use Rattle.book_side.proofs.Leaving.{left-named}
use Rattle.book_side.proofs.Backing.{own-slot}

-- ---- what is found by a name

abbrev renewed : Entry → Order → Entry
renewed e o = record e { order = o }

-- not the order that has another name now
names-other : (s : ℕ) (o : Order) (f : ℕ) (i : List ℕ) → is_same_name o.firm o.id f i ≡ false → (es : List Entry) → filter (is_named f i) (with_order s o es) ≡ filter (is_named f i) (without s es)
names-other s o f i other [] = refl
names-other s o f i other (e ∷ es) =
    let F = filter (is_named f i) (with_order s o es) in
    elim (eqb_tells e.slot s) [
      | inl t ↦
          ap (λ (b : Bool). filter (is_named f i) (cond b (renewed e o) e ∷ with_order s o es)) t.0
          ∙ ap (λ (b : Bool). cond b (renewed e o ∷ F) F) other
          ∙ names-other s o f i other es
          ∙ sym (ap (λ (b : Bool). filter (is_named f i) (cond (not b) (e ∷ without s es) (without s es))) t.0)
      | inr t ↦
          ap (λ (b : Bool). filter (is_named f i) (cond b (renewed e o) e ∷ with_order s o es)) t.0
          ∙ ap (λ (l : List Entry). cond (is_named f i e) (e ∷ l) l) (names-other s o f i other es)
          ∙ sym (ap (λ (b : Bool). filter (is_named f i) (cond (not b) (e ∷ without s es) (without s es))) t.0)
    ]

-- and that order
names-own : (s : ℕ) (o : Order) (f : ℕ) (i : List ℕ) → is_same_name o.firm o.id f i ≡ true → (es : List Entry) → HasSlot s es → AllByRecursion (λ (e : Entry). is_named f i e ≡ false) es → slot_named f i (with_order s o es) ≡ Some s
names-own s o f i own [] h a = absurd h
names-own s o f i own (e ∷ es) h a =
    let F = filter (is_named f i) (with_order s o es) in
    elim (eqb_tells e.slot s) [
      | inl t ↦
          ap (λ (b : Bool). slot_named f i (cond b (renewed e o) e ∷ with_order s o es)) t.0
          ∙ ap (λ (b : Bool). slot_of (cond b (renewed e o ∷ F) F)) own
          ∙ ap (λ (m : ℕ). Some m) t.1
      | inr t ↦
          ap (λ (b : Bool). slot_named f i (cond b (renewed e o) e ∷ with_order s o es)) t.0
          ∙ ap (λ (b : Bool). slot_of (cond b (e ∷ F) F)) a.0
          ∙ names-own s o f i own es (elim h [ inl x ↦ absurd (t.1 x) | inr x ↦ x ]) a.1
    ]

-- an order that changes twice
twice-ordered : (s : ℕ) (o x : Order) (es : List Entry) → with_order s o (with_order s x es) ≡ with_order s o es
twice-ordered s o x [] = refl
twice-ordered s o x (e ∷ es) =
    let go : (b : Bool) → (e.slot == s) ≡ b → reordered s o (cond b (renewed e x) e) ≡ reordered s o e = elim [
      | true ↦ λ t. ap (λ (c : Bool). cond c (renewed e o) (renewed e x)) t ∙ sym (ap (λ (c : Bool). cond c (renewed e o) e) t)
      | false ↦ λ t. refl
    ] in
    ap (λ (y : Entry). y ∷ with_order s o (with_order s x es)) (go (e.slot == s) refl) ∙ ap (λ (l : List Entry). reordered s o e ∷ l) (twice-ordered s o x es)

fit-resting : (m : ℕ) (id : List ℕ) (o : Order) → IsResting m o → IsResting m (record o { id = id })
fit-resting m id o f = record {
  fit = (let g = f.fit in record { listed = g.listed; firm = g.firm; kind = g.kind; life = g.life; no_trigger = g.no_trigger; no_min = g.no_min; whole = g.whole; some = g.some; show = g.show; small = g.small });
  showing = f.showing;
  within = f.within;
  display = f.display;
  unhidden = f.unhidden;
}

fit-waiting : (m : ℕ) (id : List ℕ) (o : Order) → IsWaiting m o → IsWaiting m (record o { id = id })
fit-waiting m id o f = record {
  fit = (let g = f.fit in record { listed = g.listed; firm = g.firm; kind = g.kind; unfilled = g.unfilled; no_share = g.no_share; whole = g.whole; some = g.some; show = g.show; small = g.small });
  hidden = f.hidden;
}

-- what is asked of an order that takes its place, and what comes of it
pub record CanStand (s : ℕ) (b : Book) (id : List ℕ) (quantity least : ℕ) (y : Book) (x : Order) : Type 0 where
  pub live : HasSlot s (live_orders y)
  pub level : level_of x ≡ level_of (order_of s (live_orders y))
  pub same_firm : x.firm ≡ (order_of s (live_orders y)).firm
  pub same_id : x.id ≡ (order_of s (live_orders y)).id
  pub same_trigger : x.trigger ≡ (order_of s (live_orders y)).trigger
  pub rests : HasSlot s y.resting → IsResting y.instruments x
  pub waits : HasSlot s y.waiting → IsWaiting y.instruments x
  pub view : book_reordered s x y ≡ book_changed s id quantity least b

module _ (b : Book) (r : IsRight b) (s : ℕ) (h : HasSlot s (live_orders b)) (id : List ℕ) where
  abbrev es : List Entry
  es = live_orders b

  abbrev old : Order
  old = order_of s es

  abbrev o : Order
  o = record old { id = id }

  abbrev new : Book
  new = book_reordered s o b

  -- what the old name finds
  pub old-named : slot_named old.firm old.id es ≡ Some s
  old-named = own-slot s es old h refl (unnamed-without s es r.named h)

  order-rests : HasSlot s b.resting → IsResting b.instruments old
  order-rests has = subst (IsResting b.instruments) (sym (order_of-left s b.resting b.waiting has)) (fit_of b.instruments s b.resting r.rest has)

  order-waits : HasSlot s b.waiting → IsWaiting b.instruments old
  order-waits has = subst (IsWaiting b.instruments) (sym (order_of-right s b.resting b.waiting (λ x. slots-apart s b.resting b.waiting r.differ x has))) (orders-at (IsWaiting b.instruments) s b.waiting r.wait has)

  module _ (unnamed : is_live old.firm id es ≡ false) where
    pub names-renamed : (f : ℕ) (i : List ℕ) → slot_named f i (with_order s o es) ≡ cond (is_same_name old.firm id f i) (Some s) (cond (is_same_name old.firm old.id f i) None (slot_named f i es))
    names-renamed f i =
        let go : (c : Bool) → is_same_name old.firm id f i ≡ c → slot_named f i (with_order s o es) ≡ cond c (Some s) (cond (is_same_name old.firm old.id f i) None (slot_named f i es)) = elim [
          | true ↦ λ t.
              let ef : old.firm ≡ f = (Decides-eqb old.firm f).0 (and-left _ _ t) in
              let ei : id ≡ i = (bytes_eq-Decides id i).0 (and-right (old.firm == f) _ t) in
              names-own s o f i t es h
              (subst (λ (g : ℕ). AllByRecursion (λ (e : Entry). is_named g i e ≡ false) es) ef (subst (λ (j : List ℕ). AllByRecursion (λ (e : Entry). is_named old.firm j e ≡ false) es) ei (none-any (is_named old.firm id) es unnamed)))
          | false ↦ λ t. ap slot_of (names-other s o f i t es) ∙ left-named s b r h f i
        ] in go (is_same_name old.firm id f i) refl

    pub right-renamed : IsRight new
    right-renamed =
        right-reordered b s o r refl (named-renamed s o es r.differ r.named (none-any (is_named old.firm id) es unnamed))
        (λ has. fit-resting b.instruments id old (order-rests has)) (λ has. fit-waiting b.instruments id old (order-waits has))

  -- ---- the order then changes

  is-now : order_of s (live_orders new) ≡ o
  is-now = ap (order_of s) (live-reordered s o b) ∙ order_of-with_order s o es h

  reordered-twice : (x : Order) → book_reordered s x new ≡ book_reordered s x b
  reordered-twice x =
      ap (λ (l : List Entry). (let y : Book = record b { resting = l; waiting = with_order s x new.waiting } in y)) (twice-ordered s x o b.resting)
      ∙ ap (λ (l : List Entry). (let y : Book = record b { resting = with_order s x b.resting; waiting = l } in y)) (twice-ordered s x o b.waiting)

  module _ (quantity least : ℕ) (a : old.filled < quantity) (q : quantity ≤ old.quantity) (w : old.show ≤ quantity) (z : HasSlot s b.resting → least ≡ 0) where
    can-stand : CanStand s b id quantity least new (changed_to id quantity least old)
    can-stand = record {
      live = subst (HasSlot s) (sym (live-reordered s o b)) (HasSlot-with_order s s o es h);
      level = ap level_of (sym is-now);
      same_firm = ap (λ (x : Order). x.firm) (sym is-now);
      same_id = ap (λ (x : Order). x.id) (sym is-now);
      same_trigger = ap (λ (x : Order). x.trigger) (sym is-now);
      rests = λ has. let before = HasSlot-before s s o b.resting has in rest-changed b.instruments id quantity least old (order-rests before) a q w (z before);
      waits = λ has. wait-changed b.instruments id quantity least old (order-waits (HasSlot-before s s o b.waiting has)) a q w;
      view = reordered-twice (changed_to id quantity least old);
    }

    pub stands : (y : Book) (x : Order) → y ≡ new → x ≡ changed_to id quantity least old → CanStand s b id quantity least y x
    stands y x ey ex = subst (λ (y : Book). CanStand s b id quantity least y x) (sym ey) (subst (λ (x : Order). CanStand s b id quantity least new x) (sym ex) can-stand)
