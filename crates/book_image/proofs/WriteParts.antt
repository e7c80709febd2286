-- The parts of an image: the orders and the parts of the instruments one after the other, the TOP orders, and the gap for a number.
use Rattle.std.proofs.Common.{◌≡◌, ℕ, ◌+◌, ◌-◌, ◌*◌, ◌/◌, ◌<◌, ◌≤◌, Bool, true, false, cond, List, [], ◌∷◌, ◌++◌, filter, length, take, get_or, add-one, Option, Some, None, refl, sym, ap, ◌∙◌, inl, inr, append_assoc, length-append, arith}
use Prim.Native.Nat.{zero, suc}
use Rattle.std.proofs.Math.Seq.{take-suc}
use Rattle.std.proofs.lemmas.Grind.{flat_map-append}
use Rattle.gx_base.specs.declared.price.Price.{Price}
use Rattle.gx_base.specs.declared.order.Desk.{Desk}
use Rattle.order_kinds.specs.OrderRules.{last_of}
use Rattle.std.specs.List.{flat_map}
use Rattle.std.proofs.lemmas.List.{append-nil, length-map}
use Rattle.gx_base.specs.declared.order.Side.{Side}
use Rattle.gx_base.specs.declared.order.Side.TheVariants.{Buy, Sell}
use Rattle.gx_base.specs.declared.order.Order.{Order}
use Rattle.plain_book.specs.declared.entry.Entry.{Entry}
use Rattle.plain_book.specs.Orders.{is_of, is_on, HasSlot, order_of, slot_of, side_of, top_of}
use Rattle.plain_book.specs.Numbers.{entry_numbered, numbered}
use Rattle.plain_book.specs.Book.{Book, IsRight, AllDiffer, EachPair, AreInLine, live_orders}
use Rattle.plain_book.proofs.Levels.{HasSlot-filter, HasSlot-left, AllDiffer-filter, AllDiffer-front, order_of-middle, order_of-filter, order_of-left}
use Rattle.order_kinds.specs.State.{State, state_numbered}
use Rattle.book_image.specs.declared.format.TheConstants.{ROW_BYTES}
use Rattle.book_image.specs.Rows.{count_bytes, number_bytes}
use Rattle.book_image.specs.Image.{entry_row, first_number, top_number, instrument_bytes, instruments_bytes, rows_bytes, old_image_of, session_byte, image_of, last_bytes, desk_bytes}
use Rattle.book_walks.proofs.InstrumentWalks.{is_of_before, instrument-next}
use Rattle.book_walks.proofs.SideLevels.{either, pass, stop}

-- ---- the orders of the first instruments

length-part : (p : Entry → Bool) (es : List Entry) → length (filter p es) ≤ length es
length-part p [] = omega arith
length-part p (e ∷ es) =
    let t = length-part p es in
    elim (either (p e)) [
      | inl h ↦ omega (arith, t, ap (λ (q : List Entry). length q) (pass p e es h))
      | inr h ↦ omega (arith, t, ap (λ (q : List Entry). length q) (stop p e es h))
    ]

-- there is room for the orders of the next instrument
pub instrument-room : (i start end room : ℕ) (es : List Entry) → EachPair AreInLine es
    → end ≡ start + ROW_BYTES * length (filter (is_of_before i) es) → start + ROW_BYTES * length es ≤ room
    → end + ROW_BYTES * length (filter (is_of i) es) ≤ room
instrument-room i start end room es o h k =
    omega (arith, h, k, length-part (is_of_before (i + 1)) es, ap (λ (q : List Entry). length q) (instrument-next i es o), length-append (filter (is_of_before i) es) (filter (is_of i) es))

-- How many orders of the first instruments there are, by where their rows end.
pub row-count : (start end n : ℕ) → end ≡ start + ROW_BYTES * n → (end - start) / ROW_BYTES ≡ n
row-count start end n h = omega (arith, h)

pub few-before : (i start end : ℕ) (es : List Entry) (most : ℕ)
    → end ≡ start + ROW_BYTES * length (filter (is_of_before i) es) → length es < most → (end - start) / ROW_BYTES < most
few-before i start end es most h k = omega (arith, row-count start end (length (filter (is_of_before i) es)) h, length-part (is_of_before i) es, k)

-- ---- the parts of the instruments

module _ (state : State) where
  instruments-more : (i a b : ℕ) → instruments_bytes state i (a + b) ≡ instruments_bytes state i a ++ instruments_bytes state (i + a) b
  instruments-more i zero b =
      let from : i + 0 ≡ i = omega arith in
      let count : zero + b ≡ b = omega arith in
      ap (λ (n : ℕ). instruments_bytes state i n) count ∙ ap (λ (n : ℕ). instruments_bytes state n b) (sym from)
  instruments-more i (suc a) b =
      let count : suc a + b ≡ suc (a + b) = omega arith in
      let from : (i + 1) + a ≡ i + suc a = omega arith in
      ap (λ (n : ℕ). instruments_bytes state i n) count
      ∙ ap (λ (l : List ℕ). instrument_bytes state i ++ l) (instruments-more (i + 1) a b)
      ∙ sym (append_assoc (instrument_bytes state i) (instruments_bytes state (i + 1) a) (instruments_bytes state ((i + 1) + a) b))
      ∙ ap (λ (n : ℕ). instruments_bytes state i (suc a) ++ instruments_bytes state n b) from

  from-none : (k : ℕ) → 0 + k ≡ k
  from-none k = omega arith

  pub instruments-next : (k : ℕ) → instruments_bytes state 0 k ++ instrument_bytes state k ≡ instruments_bytes state 0 (k + 1)
  instruments-next k =
      sym (instruments-more 0 k 1
      ∙ ap (λ (l : List ℕ). instruments_bytes state 0 k ++ l) (append-nil (instrument_bytes state (0 + k)))
      ∙ ap (λ (i : ℕ). instruments_bytes state 0 k ++ instrument_bytes state i) (from-none k))

-- ---- the TOP order of a side

abbrev is_top : Entry → Bool
is_top e = e.is_top

first-some : (slot : ℕ) (xs : List Entry) → AllDiffer xs → Some slot ≡ slot_of xs
    → (HasSlot slot xs) × ((order_of slot xs).number ≡ first_number xs)
first-some slot [] d h = absurd (let k : Some slot ≡ None = h in cc)
first-some slot (x ∷ xs) d h =
    let same : slot ≡ x.slot = let k : Some slot ≡ Some x.slot = h in cc in
    (inl (sym same), ap (λ (s : ℕ). (order_of s (x ∷ xs)).number) same ∙ ap (λ (o : Order). o.number) (order_of-middle [] xs x d))

module _ (i : ℕ) (s : Side) (b : Book) (r : IsRight b) where
  module _ (slot : ℕ) (h : Some slot ≡ top_of i s b.resting) where
    side-differ : AllDiffer (side_of i s b.resting)
    side-differ = AllDiffer-filter (is_on i s) b.resting (AllDiffer-front b.resting b.waiting r.differ)

    top-first : HasSlot slot (filter is_top (side_of i s b.resting)) × ((order_of slot (filter is_top (side_of i s b.resting))).number ≡ top_number i s b.resting)
    top-first = first-some slot (filter is_top (side_of i s b.resting)) (AllDiffer-filter is_top (side_of i s b.resting) side-differ) h

    on-side-has : HasSlot slot (side_of i s b.resting)
    on-side-has = HasSlot-filter is_top slot (side_of i s b.resting) top-first.0

    rests : HasSlot slot b.resting
    rests = HasSlot-filter (is_on i s) slot b.resting on-side-has

    pub top-live : HasSlot slot (live_orders b)
    top-live = HasSlot-left slot b.resting b.waiting rests

    pub top-numbered : (order_of slot (live_orders b)).number ≡ top_number i s b.resting
    top-numbered =
        ap (λ (o : Order). o.number) (
        order_of-left slot b.resting b.waiting rests
        ∙ sym (order_of-filter (is_on i s) slot b.resting (AllDiffer-front b.resting b.waiting r.differ) on-side-has)
        ∙ sym (order_of-filter is_top slot (side_of i s b.resting) side-differ top-first.0))
        ∙ top-first.1

-- ---- an image does not look at the slots

filter-numbered : (p : Entry → Bool) → ((e : Entry) → p (entry_numbered e) ≡ p e) → (es : List Entry) → filter p (numbered es) ≡ numbered (filter p es)
filter-numbered p h [] = refl
filter-numbered p h (e ∷ es) =
    let t = filter-numbered p h es in
    let go : (b : Bool) → cond b (entry_numbered e ∷ filter p (numbered es)) (filter p (numbered es)) ≡ numbered (cond b (e ∷ filter p es) (filter p es)) = elim [
      | true ↦ ap (λ (x : List Entry). entry_numbered e ∷ x) t
      | false ↦ t
    ] in ap (λ (b : Bool). cond b (entry_numbered e ∷ filter p (numbered es)) (filter p (numbered es))) (h e) ∙ go (p e)

first-numbered : (es : List Entry) → first_number (numbered es) ≡ first_number es
first-numbered [] = refl
first-numbered (e ∷ es) = refl

tops-numbered : (i : ℕ) (s : Side) (es : List Entry) → top_number i s (numbered es) ≡ top_number i s es
tops-numbered i s es =
    ap (λ (l : List Entry). first_number (filter is_top l)) (filter-numbered (is_on i s) (λ e. refl) es)
    ∙ ap first_number (filter-numbered is_top (λ e. refl) (side_of i s es))
    ∙ first-numbered (filter is_top (side_of i s es))

instrument-numbered : (state : State) (i : ℕ) → instrument_bytes (state_numbered state) i ≡ instrument_bytes state i
instrument-numbered state i =
    rw (tops-numbered i Buy state.book.resting, tops-numbered i Sell state.book.resting) refl

instruments-numbered : (state : State) (i n : ℕ) → instruments_bytes (state_numbered state) i n ≡ instruments_bytes state i n
instruments-numbered state i zero = refl
instruments-numbered state i (suc n) =
    ap (λ (l : List ℕ). l ++ instruments_bytes (state_numbered state) (i + 1) n) (instrument-numbered state i)
    ∙ ap (λ (l : List ℕ). instrument_bytes state i ++ l) (instruments-numbered state (i + 1) n)

each-numbered : (es : List Entry) → flat_map entry_row (numbered es) ≡ flat_map entry_row es
each-numbered [] = refl
each-numbered (e ∷ es) = ap (λ (l : List ℕ). entry_row e ++ l) (each-numbered es)

rows-numbered : (es : List Entry) → rows_bytes (numbered es) ≡ rows_bytes es
rows-numbered es =
    ap (λ (n : ℕ). count_bytes n ++ flat_map entry_row (numbered es)) (length-map es entry_numbered)
    ∙ ap (λ (l : List ℕ). count_bytes (length es) ++ l) (each-numbered es)

image-numbered : (state : State) → old_image_of (state_numbered state) ≡ old_image_of state
image-numbered state =
    let b = state.book in
    let desk = desk_bytes state.desk in
    ap (λ (l : List ℕ). ((desk ++ l) ++ rows_bytes (numbered b.resting)) ++ rows_bytes (numbered b.waiting)) (instruments-numbered state 0 b.instruments)
    ∙ ap (λ (l : List ℕ). ((desk ++ instruments_bytes state 0 b.instruments) ++ l) ++ rows_bytes (numbered b.waiting)) (rows-numbered b.resting)
    ∙ ap (λ (l : List ℕ). ((desk ++ instruments_bytes state 0 b.instruments) ++ rows_bytes b.resting) ++ l) (rows-numbered b.waiting)

-- ---- the parts together

pub lines-next : (lines : List ℕ) (i : ℕ) → i < length lines
    → flat_map number_bytes (take i lines) ++ number_bytes (get_or lines i 0) ≡ flat_map number_bytes (take (i + 1) lines)
lines-next lines i h =
    sym (ap (λ (n : ℕ). flat_map number_bytes (take n lines)) (add-one i)
    ∙ ap (λ (l : List ℕ). flat_map number_bytes l) (take-suc lines i 0 h)
    ∙ flat_map-append number_bytes (take i lines) (get_or lines i 0 ∷ [])
    ∙ ap (λ (l : List ℕ). flat_map number_bytes (take i lines) ++ l) (append-nil (number_bytes (get_or lines i 0))))

pub same-part : (state : State) (i : ℕ) (last : Option Price) (buy sell : ℕ) (b : Book) → b ≡ state.book → last ≡ last_of i state.last
    → buy ≡ top_number i Buy b.resting → sell ≡ top_number i Sell b.resting
    → (last_bytes last ++ number_bytes buy) ++ number_bytes sell ≡ instrument_bytes state i
same-part state i last buy sell b e l buy_is sell_is =
    ap (λ (q : Option Price). (last_bytes q ++ number_bytes buy) ++ number_bytes sell) l
    ∙ ap (λ (n : ℕ). (last_bytes (last_of i state.last) ++ number_bytes n) ++ number_bytes sell) (buy_is ∙ ap (λ (q : Book). top_number i Buy q.resting) e)
    ∙ ap (λ (n : ℕ). (last_bytes (last_of i state.last) ++ number_bytes (top_number i Buy state.book.resting)) ++ number_bytes n) (sell_is ∙ ap (λ (q : Book). top_number i Sell q.resting) e)

old-image : (state : State) (desk : Desk) (a b : Book) → desk ≡ state.desk → a ≡ state.book → b ≡ state.book
    → ((desk_bytes desk ++ instruments_bytes state 0 state.book.instruments) ++ rows_bytes a.resting) ++ rows_bytes b.waiting ≡ old_image_of (state_numbered state)
old-image state desk a b d e f =
    let parts = instruments_bytes state 0 state.book.instruments in
    ap (λ (k : Desk). ((desk_bytes k ++ parts) ++ rows_bytes a.resting) ++ rows_bytes b.waiting) d
    ∙ ap (λ (q : Book). ((desk_bytes state.desk ++ parts) ++ rows_bytes q.resting) ++ rows_bytes b.waiting) e
    ∙ ap (λ (q : Book). ((desk_bytes state.desk ++ parts) ++ rows_bytes state.book.resting) ++ rows_bytes q.waiting) f
    ∙ sym (image-numbered state)

pub whole-image : (state : State) (desk : Desk) (a b : Book) (byte : ℕ) → desk ≡ state.desk → a ≡ state.book → b ≡ state.book → byte ≡ session_byte state.trading
    → (((desk_bytes desk ++ instruments_bytes state 0 state.book.instruments) ++ rows_bytes a.resting) ++ rows_bytes b.waiting) ++ byte ∷ [] ≡ image_of (state_numbered state)
whole-image state desk a b byte d e f s =
    ap (λ (l : List ℕ). l ++ byte ∷ []) (old-image state desk a b d e f)
    ∙ ap (λ (n : ℕ). old_image_of (state_numbered state) ++ n ∷ []) s
