-- Lines that are written, and read again.
use Rattle.std.proofs.Common.{◌≡◌, ℕ, ◌+◌, ◌%◌, ◌<◌, ◌≤◌, Bool, true, false, cond, not, nat_lt, nat_le, List, [], ◌∷◌, ◌++◌, length, map, decimal, bytes_eq, get_or, Option, Some, None, Ok, refl, sym, ap, ◌∙◌, arith, length-append, append_assoc}
use Prim.Native.Nat.{zero, suc}
use Rattle.std.specs.Prelude.{◌==◌, codes, slice_get, slice_index, unsigned_abs}
use Rattle.std.specs.List.{AllByRecursion, IsDistinct, list_all, position_or_len}
use Rattle.std.proofs.lemmas.Bool.{and_parts, cond-true, leb-true, lt-ltb, eq-eqb, ne_eqb}
use Rattle.std.proofs.lemmas.Slice.Eq.{bytes_eq-Decides}
use Rattle.gx_base.specs.Numbers.{price_of, price_text}
use Rattle.gx_base.specs.Texts.{is_name, is_name_byte}
use Rattle.gx_base.specs.declared.limits.TheConstants.{MOST_DECIMALS, MOST_PRICE_UNITS}
use Rattle.gx_base.specs.declared.names.Listed.{Listed}
use Rattle.gx_base.specs.declared.price.Price.{Price}
use Rattle.gx_base.specs.declared.order.Side.{Side}
use Rattle.level_feed.specs.declared.row.Row.{Row}
use Rattle.line_parts.specs.Words.{side_letter}
use Rattle.level_feed.specs.FeedText.{name_of, decimals_in, row_line}
use Rattle.level_feed.specs.Lines.{Listing, ◌>>=◌, split_last, number_of, greatest_number, side_of, instrument_of, on_tick, price_at, snapshot_line, increment_line, row_line_of, line_of}
use Rattle.level_feed.specs.declared.line.Line.TheVariants as kind
use Rattle.level_feed.specs.Laws.{IsListed, IsRightListing, IsPriced}
use Rattle.gx_base.proofs.NumberTexts.{Lacks, lacks-append, decimal-lacks}
use Rattle.level_feed.proofs.Words.{split-at, number-read, short-decimal, side-read, side-lacks, side-length}
use Rattle.gx_base.proofs.PricesAgain.{price-read, price-lacks, price-length}

-- ---- words

split-word : (front word : List ℕ) → Lacks 32 word → split_last (front ++ codes " " ++ word) ≡ Some (record { front = front; word = word })
split-word front word h = ap split_last (append_assoc front (codes " ") word) ∙ split-at front word h

row-by-words : (listing : Listing) (name side price shown orders : List ℕ) (i : ℕ) (s : Side) (p : Price) (m n : ℕ) → Lacks 32 side → Lacks 32 price → Lacks 32 shown → Lacks 32 orders → instrument_of listing.instruments name ≡ Some i → side_of side ≡ Some s → price_at listing i price ≡ Some p → number_of shown ≡ Some m → number_of orders ≡ Some n → row_line_of listing (name ++ codes " " ++ side ++ codes " " ++ price ++ codes " " ++ shown ++ codes " " ++ orders) ≡ Some (kind.Row (record { instrument = i; side = s; price = p; shown = m; orders = n }))
row-by-words listing name side price shown orders i s p m n l1 l2 l3 l4 ei es ep em en =
    let a = name ++ codes " " ++ side in
    let b = a ++ codes " " ++ price in
    let c = b ++ codes " " ++ shown in
    let e1 = split-word c orders l4 in
    let e2 = split-word b shown l3 in
    let e3 = split-word a price l2 in
    let e4 = split-word name side l1 in
    rw (e1, e2, e3, e4, ei, es, ep, em, en) refl

snapshot-by-words : (number rows : List ℕ) (n r : ℕ) → Lacks 32 rows → number_of number ≡ Some n → number_of rows ≡ Some r → snapshot_line (number ++ codes " " ++ rows) ≡ Some (kind.Snapshot n r)
snapshot-by-words number rows n r l en er = let e = split-word number rows l in rw (e, en, er) refl

increment-by-words : (number last rows : List ℕ) (n j r : ℕ) → Lacks 32 last → Lacks 32 rows → number_of number ≡ Some n → number_of last ≡ Some j → number_of rows ≡ Some r → increment_line (number ++ codes " " ++ last ++ codes " " ++ rows) ≡ Some (kind.Increment n j r)
increment-by-words number last rows n j r l1 l2 en ej er =
    let e1 = split-word (number ++ codes " " ++ last) rows l2 in
    let e2 = split-word number last l1 in
    rw (e1, e2, en, ej, er) refl

-- ---- names

abbrev names_in : List Listed → List (List ℕ)
names_in listed = map (λ (l : Listed). l.name) listed

abbrev has_name : List ℕ → List ℕ → Bool
has_name text name = bytes_eq name text

abbrev get_name : List (List ℕ) → ℕ → List ℕ
get_name names i = get_or names i []

not-first : (name text : List ℕ) (names : List (List ℕ)) (i : ℕ) → AllByRecursion (λ y. bytes_eq name y ≡ false) names → i < length names → get_name names i ≡ text → has_name text name ≡ false
not-first name text [] i h lt e = absurd (omega arith)
not-first name text (n ∷ names) zero h lt e = ap (bytes_eq name) (sym e) ∙ h.0
not-first name text (n ∷ names) (suc i) h lt e = let less : suc i < suc (length names) = lt in not-first name text names i h.1 (omega arith) e

place-of : (text : List ℕ) (names : List (List ℕ)) (i : ℕ) → IsDistinct bytes_eq names → i < length names → get_name names i ≡ text → position_or_len (has_name text) names ≡ i
unfolding IsDistinct
place-of text [] i d lt e = absurd (omega arith)
place-of text (n ∷ names) zero d lt e =
    ap (λ (b : Bool). cond (not b) (1 + position_or_len (has_name text) names) 0) ((bytes_eq-Decides n text).1 e)
place-of text (n ∷ names) (suc i) d lt e =
    let all : suc i < suc (length names) = lt in
    let less : i < length names = omega arith in
    ap (λ (b : Bool). cond (not b) (1 + position_or_len (has_name text) names) 0) (not-first n text names i d.0 less e)
    ∙ omega (arith, place-of text names i d.1 less e)

name-at : (listed : List Listed) (i : ℕ) → i < length listed → get_name (names_in listed) i ≡ name_of listed i
name-at [] i lt = absurd (omega arith)
name-at (l ∷ listed) zero lt = refl
name-at (l ∷ listed) (suc i) lt = let less : suc i < suc (length listed) = lt in name-at listed i (omega arith)

length-names : (listed : List Listed) → length (names_in listed) ≡ length listed
length-names [] = refl
length-names (l ∷ listed) = ap suc (length-names listed)

pub name-read : (listed : List Listed) (i : ℕ) → IsDistinct bytes_eq (names_in listed) → i < length listed → instrument_of listed (name_of listed i) ≡ Some i
name-read listed i d lt =
    let names = names_in listed in
    let size = length-names listed in
    let place = place-of (name_of listed i) names i d (omega arith) (name-at listed i lt) in
    ap (λ (k : ℕ). cond (nat_lt k (length names)) (Some k) None) place ∙ cond-true (nat_lt i (length names)) (Some i) None (lt-ltb i (length names) (omega arith))

-- ---- what is listed

listed-at : (P : Listed → Type 0) (Q : List ℕ → ℕ → Type 0) (listed : List Listed) (i : ℕ) → ((l : Listed) → P l → Q l.name l.decimals) → AllByRecursion P listed → i < length listed → Q (name_of listed i) (decimals_in listed i)
listed-at P Q [] i f h lt = absurd (omega arith)
listed-at P Q (l ∷ listed) zero f h lt = f l h.0
listed-at P Q (l ∷ listed) (suc i) f h lt = let less : suc i < suc (length listed) = lt in listed-at P Q listed i f h.1 (omega arith)

abbrev IsNamed : List ℕ → ℕ → Type 0
IsNamed name decimals = (is_name name ≡ true) × (decimals ≤ MOST_DECIMALS)

named : (listing : Listing) (i : ℕ) → IsRightListing listing → i < length listing.instruments → IsNamed (name_of listing.instruments i) (decimals_in listing.instruments i)
named listing i right lt = listed-at IsListed IsNamed listing.instruments i (λ l h. h) right.names lt

name-lacks : (b : ℕ) (name : List ℕ) → b < 32 → list_all is_name_byte name ≡ true → Lacks b name
name-lacks b [] low h = tt
name-lacks b (c ∷ name) low h =
    let both = and_parts (is_name_byte c) (list_all is_name_byte name) h in
    let least = leb-true 32 c (and_parts (nat_le 32 c) (nat_le c 126) both.0).0 in
    (ne_eqb c b (λ e. absurd (omega arith)), name-lacks b name low both.1)

short-name : (name : List ℕ) → is_name name ≡ true → length name ≤ 24
short-name name is = leb-true (length name) 24 (and_parts _ _ (and_parts _ (list_all is_name_byte name) is).0).1

-- ---- prices

get-tick : (ticks : List ℕ) (i : ℕ) → i < length ticks → slice_get ticks i ≡ Some (slice_index ticks i)
get-tick [] i lt = absurd (omega arith)
get-tick (t ∷ ticks) zero lt = refl
get-tick (t ∷ ticks) (suc i) lt = let less : suc i < suc (length ticks) = lt in get-tick ticks i (omega arith)

price-at-read : (listing : Listing) (i : ℕ) (price : Price) → IsRightListing listing → i < length listing.instruments → unsigned_abs price.0 ≤ MOST_PRICE_UNITS → unsigned_abs price.0 % slice_index listing.ticks i ≡ 0 → price_at listing i (price_text price (decimals_in listing.instruments i)) ≡ Some price
price-at-read listing i price right lt small on =
    let decimals = decimals_in listing.instruments i in
    let size = right.ticks in
    let tick : slice_get listing.ticks i ≡ Some (slice_index listing.ticks i) = get-tick listing.ticks i (omega arith) in
    let read : price_of (price_text price decimals) decimals ≡ Ok price = price-read price decimals small (named listing i right lt).1 in
    let by-tick : ℕ → Option Price = λ t. on_tick t (price_of (price_text price decimals) decimals) in
    ap (λ (o : Option ℕ). o >>= by-tick) tick
    ∙ ap (on_tick (slice_index listing.ticks i)) read
    ∙ cond-true (unsigned_abs price.0 % slice_index listing.ticks i == 0) (Some price) None (eq-eqb (unsigned_abs price.0 % slice_index listing.ticks i) 0 on)

-- ---- lines

-- a row whose line can be read
pub record IsWritten (listing : Listing) (r : Row) : Type 0 where
  pub priced : IsPriced listing r
  pub few_lots : r.shown ≤ greatest_number
  pub few_orders : r.orders ≤ greatest_number

module _ (listing : Listing) (right : IsRightListing listing) where
  pub row-read : (r : Row) → IsWritten listing r → line_of listing (row_line listing.instruments r) ≡ Some (kind.Row r)
  row-read r is =
      let p = is.priced in
      let lots = is.few_lots in
      let orders = is.few_orders in
      row-by-words listing (name_of listing.instruments r.instrument) (side_letter r.side) (price_text r.price (decimals_in listing.instruments r.instrument)) (decimal r.shown) (decimal r.orders)
      r.instrument r.side r.price r.shown r.orders
      (side-lacks 32 r.side (omega arith)) (price-lacks 32 r.price (decimals_in listing.instruments r.instrument) (omega arith) p.in_range) (decimal-lacks 32 r.shown (omega arith) (omega arith)) (decimal-lacks 32 r.orders (omega arith) (omega arith))
      (name-read listing.instruments r.instrument right.differ p.listed) (side-read r.side) (price-at-read listing r.instrument r.price right p.listed p.in_range p.on_tick) (number-read r.shown lots) (number-read r.orders orders)

  -- what is true of each line: it is short and has no line feed
  pub record IsLine (text : List ℕ) : Type 0 where
    pub lacks : Lacks 10 text
    pub short : length text ≤ 127

  pub row-is-line : (r : Row) → IsWritten listing r → IsLine (row_line listing.instruments r)
  row-is-line r is =
      let p = is.priced in
      let lots = is.few_lots in
      let orders = is.few_orders in
      let names = named listing r.instrument right p.listed in
      let name = name_of listing.instruments r.instrument in
      let price = price_text r.price (decimals_in listing.instruments r.instrument) in
      let a = name ++ codes " " ++ side_letter r.side in
      let b = a ++ codes " " ++ price in
      let c = b ++ codes " " ++ decimal r.shown in
      let space : Lacks 10 (codes " ") = (refl, tt) in
      let name-ok = name-lacks 10 name (omega arith) (and_parts _ (list_all is_name_byte name) names.0).1 in
      let a-ok = lacks-append 10 (name ++ codes " ") (side_letter r.side) (lacks-append 10 name (codes " ") name-ok space) (side-lacks 10 r.side (omega arith)) in
      let b-ok = lacks-append 10 (a ++ codes " ") price (lacks-append 10 a (codes " ") a-ok space) (price-lacks 10 r.price (decimals_in listing.instruments r.instrument) (omega arith) p.in_range) in
      let c-ok = lacks-append 10 (b ++ codes " ") (decimal r.shown) (lacks-append 10 b (codes " ") b-ok space) (decimal-lacks 10 r.shown (omega arith) (omega arith)) in
      let d-ok = lacks-append 10 (c ++ codes " ") (decimal r.orders) (lacks-append 10 c (codes " ") c-ok space) (decimal-lacks 10 r.orders (omega arith) (omega arith)) in
      let name-short = short-name name names.0 in
      let price-short = price-length r.price (decimals_in listing.instruments r.instrument) p.in_range names.1 in
      let lots-short = short-decimal r.shown lots in
      let orders-short = short-decimal r.orders orders in
      let side-short = side-length r.side in
      record {
        lacks = (refl, (refl, d-ok));
        short = omega (arith, length-append (c ++ codes " ") (decimal r.orders), length-append c (codes " "), length-append (b ++ codes " ") (decimal r.shown), length-append b (codes " "), length-append (a ++ codes " ") price, length-append a (codes " "), length-append (name ++ codes " ") (side_letter r.side), length-append name (codes " "));
      }

  pub snapshot-read : (number rows : ℕ) → number ≤ greatest_number → rows ≤ greatest_number → line_of listing (codes "S " ++ decimal number ++ codes " " ++ decimal rows) ≡ Some (kind.Snapshot number rows)
  snapshot-read number rows a b =
      snapshot-by-words (decimal number) (decimal rows) number rows (decimal-lacks 32 rows (omega arith) (omega arith)) (number-read number a) (number-read rows b)

  pub increment-read : (number last rows : ℕ) → number ≤ greatest_number → last ≤ greatest_number → rows ≤ greatest_number → line_of listing (codes "I " ++ decimal number ++ codes " " ++ decimal last ++ codes " " ++ decimal rows) ≡ Some (kind.Increment number last rows)
  increment-read number last rows a b c =
      increment-by-words (decimal number) (decimal last) (decimal rows) number last rows (decimal-lacks 32 last (omega arith) (omega arith)) (decimal-lacks 32 rows (omega arith) (omega arith)) (number-read number a) (number-read last b) (number-read rows c)

  two-numbers : (m n : ℕ) → m ≤ greatest_number → n ≤ greatest_number → Lacks 10 (decimal m ++ codes " " ++ decimal n) × (length (decimal m ++ codes " " ++ decimal n) ≤ 39)
  two-numbers m n a b = (
    lacks-append 10 (decimal m ++ codes " ") (decimal n) (lacks-append 10 (decimal m) (codes " ") (decimal-lacks 10 m (omega arith) (omega arith)) (refl, tt)) (decimal-lacks 10 n (omega arith) (omega arith)),
    omega (arith, length-append (decimal m ++ codes " ") (decimal n), length-append (decimal m) (codes " "), short-decimal m a, short-decimal n b),
  )

  pub snapshot-is-line : (number rows : ℕ) → number ≤ greatest_number → rows ≤ greatest_number → IsLine (codes "S " ++ decimal number ++ codes " " ++ decimal rows)
  snapshot-is-line number rows a b = let two = two-numbers number rows a b in let short = two.1 in record { lacks = (refl, (refl, two.0)); short = omega arith }

  pub increment-is-line : (number last rows : ℕ) → number ≤ greatest_number → last ≤ greatest_number → rows ≤ greatest_number → IsLine (codes "I " ++ decimal number ++ codes " " ++ decimal last ++ codes " " ++ decimal rows)
  increment-is-line number last rows a b c =
      let two = two-numbers number last a b in
      let front = decimal number ++ codes " " ++ decimal last in
      let short = two.1 in
      record {
        lacks = (refl, (refl, lacks-append 10 (front ++ codes " ") (decimal rows) (lacks-append 10 front (codes " ") two.0 (refl, tt)) (decimal-lacks 10 rows (omega arith) (omega arith))));
        short = omega (arith, length-append (front ++ codes " ") (decimal rows), length-append front (codes " "), short-decimal rows c);
      }
