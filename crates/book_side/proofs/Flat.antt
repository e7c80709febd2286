-- Queues one after the other: filters, maps and sums of them, and where an order is put in.
use Rattle.std.proofs.Common.{◌≡◌, ◌≢◌, ℕ, Bool, true, false, cond, not, List, [], ◌∷◌, ◌++◌, map, filter, refl, sym, ap, subst, ◌∙◌, inl, inr, append_assoc}
use Rattle.std.proofs.lemmas.List.{map-append}
use Rattle.std.proofs.lemmas.List.Elements.{filter-append}
use Rattle.std.proofs.lemmas.Bool.Decides.{eqb_tells}
use Rattle.std.specs.List.{AllByRecursion}
use Rattle.plain_book.specs.declared.entry.Entry.{Entry}
use Rattle.plain_book.specs.Orders.{Level, level_of, is_before, is_at_earlier_level, HasSlot, placed}
use Rattle.plain_book.proofs.Levels.{HasSlot-left, HasSlot-right, HasSlot-either, is_before-irrefl}
use Rattle.book_order.proofs.Before.{before-apart}
use Rattle.plain_book.proofs.Pairs.{all-append, all-with}
use Rattle.price_level.specs.declared.row.LevelRow.{LevelRow}
use Rattle.price_level.specs.Rows.{Pairs, AreRowsApart, level_of_row, HasQueue, row_of, without_row, with_sums}
use Rattle.book_side.specs.Inner.Flat.{flat, queues_of}

-- ---- maps and filters

pub flat-map : {X Y : Type 0} (f : X → Y) (Q : ℕ → List X) (qs : List ℕ) → map f (flat Q qs) ≡ flat (λ q. map f (Q q)) qs
flat-map f Q [] = refl
flat-map f Q (q ∷ qs) = map-append f (Q q) (flat Q qs) ∙ ap (λ l. map f (Q q) ++ l) (flat-map f Q qs)

pub flat-filter : {X : Type 0} (p : X → Bool) (Q : ℕ → List X) (qs : List ℕ) → filter p (flat Q qs) ≡ flat (λ q. filter p (Q q)) qs
flat-filter p Q [] = refl
flat-filter p Q (q ∷ qs) = filter-append p (Q q) (flat Q qs) ∙ ap (λ l. filter p (Q q) ++ l) (flat-filter p Q qs)

pub flat-same : {X : Type 0} (Q R : ℕ → List X) (qs : List ℕ) → ((q : ℕ) → Q q ≡ R q) → flat Q qs ≡ flat R qs
flat-same Q R [] h = refl
flat-same Q R (q ∷ qs) h = ap (λ l. l ++ flat Q qs) (h q) ∙ ap (λ l. R q ++ l) (flat-same Q R qs h)

-- the queues of these levels are the same
pub flat-rows : {X : Type 0} (Q R : ℕ → List X) (rs : List LevelRow) → AllByRecursion (λ (r : LevelRow). Q r.queue ≡ R r.queue) rs → flat Q (queues_of rs) ≡ flat R (queues_of rs)
flat-rows Q R [] h = refl
flat-rows Q R (r ∷ rs) h = ap (λ l. l ++ flat Q (queues_of rs)) h.0 ∙ ap (λ l. R r.queue ++ l) (flat-rows Q R rs h.1)

-- a level without orders comes or goes
pub flat-without : {X : Type 0} (Q : ℕ → List X) (q : ℕ) → Q q ≡ [] → (rs : List LevelRow) → flat Q (queues_of (without_row q rs)) ≡ flat Q (queues_of rs)
flat-without Q q e [] = refl
flat-without Q q e (r ∷ rs) = elim (eqb_tells r.queue q) [
  | inl t ↦
      ap (λ (b : Bool). flat Q (queues_of (cond (not b) (r ∷ without_row q rs) (without_row q rs)))) t.0
      ∙ flat-without Q q e rs
      ∙ ap (λ l. l ++ flat Q (queues_of rs)) (sym e ∙ ap Q (sym t.1))
  | inr t ↦
      ap (λ (b : Bool). flat Q (queues_of (cond (not b) (r ∷ without_row q rs) (without_row q rs)))) t.0
      ∙ ap (λ l. Q r.queue ++ l) (flat-without Q q e rs)
]

-- ---- what holds of each

pub flat-all : {X : Type 0} (P : X → Type 0) (Q : ℕ → List X) (rs : List LevelRow) → AllByRecursion (λ (r : LevelRow). AllByRecursion P (Q r.queue)) rs → AllByRecursion P (flat Q (queues_of rs))
flat-all P Q [] h = tt
flat-all P Q (r ∷ rs) h = all-append P (Q r.queue) (flat Q (queues_of rs)) h.0 (flat-all P Q rs h.1)

-- ---- where an order is put in

-- n comes in front of what passes
abbrev pub put_before : (Entry → Bool) → Entry → List Entry → List Entry
put_before p n es = filter (λ e. not (p e)) es ++ n ∷ filter p es

module _ (p : Entry → Bool) (n : Entry) where
  pub put-front : (xs ys : List Entry) → AllByRecursion (λ (e : Entry). p e ≡ false) xs → put_before p n (xs ++ ys) ≡ xs ++ put_before p n ys
  put-front [] ys h = refl
  put-front (x ∷ xs) ys h =
      ap (λ (b : Bool). cond (not b) (x ∷ filter (λ e. not (p e)) (xs ++ ys)) (filter (λ e. not (p e)) (xs ++ ys)) ++ n ∷ cond b (x ∷ filter p (xs ++ ys)) (filter p (xs ++ ys))) h.0
      ∙ ap (λ l. x ∷ l) (put-front xs ys h.1)

  kept-all : (ys : List Entry) → AllByRecursion (λ (e : Entry). p e ≡ true) ys → filter p ys ≡ ys
  kept-all [] h = refl
  kept-all (y ∷ ys) h = ap (λ (b : Bool). cond b (y ∷ filter p ys) (filter p ys)) h.0 ∙ ap (λ l. y ∷ l) (kept-all ys h.1)

  kept-none : (ys : List Entry) → AllByRecursion (λ (e : Entry). p e ≡ true) ys → filter (λ e. not (p e)) ys ≡ []
  kept-none [] h = refl
  kept-none (y ∷ ys) h = ap (λ (b : Bool). cond (not b) (y ∷ filter (λ e. not (p e)) ys) (filter (λ e. not (p e)) ys)) h.0 ∙ kept-none ys h.1

  pub put-back : (ys : List Entry) → AllByRecursion (λ (e : Entry). p e ≡ true) ys → put_before p n ys ≡ n ∷ ys
  put-back ys h = ap (λ l. l ++ n ∷ filter p ys) (kept-none ys h) ∙ ap (λ l. n ∷ l) (kept-all ys h)

abbrev Front : Entry → List Entry → Type 0
Front n es = AllByRecursion (λ (e : Entry). is_at_earlier_level n e ≡ false) es

abbrev Back : Entry → List Entry → Type 0
Back n es = AllByRecursion (λ (e : Entry). is_at_earlier_level n e ≡ true) es

-- the orders of a queue stand at the level
abbrev pub AreAt : (ℕ → List Entry) → LevelRow → Type 0
AreAt E r = AllByRecursion (λ (e : Entry). level_of e.order ≡ level_of_row r) (E r.queue)

-- how the orders of a level stand to n
all-stand : (n : Entry) (r : LevelRow) (b : Bool) → is_before (level_of n.order) (level_of_row r) ≡ b → (es : List Entry) → AllByRecursion (λ (e : Entry). level_of e.order ≡ level_of_row r) es → AllByRecursion (λ (e : Entry). is_at_earlier_level n e ≡ b) es
all-stand n r b h es a = all-with (λ (e : Entry). level_of e.order ≡ level_of_row r) (λ (e : Entry). is_at_earlier_level n e ≡ b) (λ e l. ap (is_before (level_of n.order)) l ∙ h) es a

rows-back : (n : Entry) (E : ℕ → List Entry) (r : LevelRow) → level_of_row r ≡ level_of n.order → (rs : List LevelRow) → AllByRecursion (AreRowsApart r) rs → AllByRecursion (AreAt E) rs → Back n (flat E (queues_of rs))
rows-back n E r l [] a h = tt
rows-back n E r l (x ∷ rs) a h =
    all-append (λ (e : Entry). is_at_earlier_level n e ≡ true) (E x.queue) (flat E (queues_of rs))
    (all-stand n x true (subst (λ (k : Level). is_before k (level_of_row x) ≡ true) l a.0.0) (E x.queue) h.0)
    (rows-back n E r l rs a.1 h.1)

-- the level of a queue
abbrev pub IsLevelOf : ℕ → Level → LevelRow → Type 0
IsLevelOf q k r = r.queue ≡ q → level_of_row r ≡ k

before-of : (q : ℕ) (k : Level) (r : LevelRow) (rs : List LevelRow) → HasQueue q rs → AllByRecursion (AreRowsApart r) rs → AllByRecursion (IsLevelOf q k) rs → is_before (level_of_row r) k ≡ true
before-of q k r [] h a l = absurd h
before-of q k r (x ∷ rs) h a l = elim h [
  | inl e ↦ subst (λ (j : Level). is_before (level_of_row r) j ≡ true) (l.0 e) a.0.0
  | inr e ↦ before-of q k r rs e a.1 l.1
]

-- n comes to the end of the queue q, which is that of its level: so it is put in after those at its price and before it
pub flat-placed : (E E' : ℕ → List Entry) (n : Entry) (q : ℕ) → E' q ≡ E q ++ n ∷ [] → ((p : ℕ) → p ≢ q → E' p ≡ E p)
    → (rs : List LevelRow) → Pairs AreRowsApart rs → HasQueue q rs → AllByRecursion (IsLevelOf q (level_of n.order)) rs → AllByRecursion (AreAt E) rs
    → placed n (flat E (queues_of rs)) ≡ flat E' (queues_of rs)
flat-placed E E' n q here there [] a h l at = absurd h
flat-placed E E' n q here there (r ∷ rs) a h l at =
    let k = level_of n.order in
    let F = flat E (queues_of rs) in
    elim (eqb_tells r.queue q) [
      | inl t ↦
          let lv : level_of_row r ≡ k = l.0 t.1 in
          let front : Front n (E r.queue) = all-stand n r false (subst (λ (j : Level). is_before k j ≡ false) (sym lv) (is_before-irrefl k)) (E r.queue) at.0 in
          let others : flat E (queues_of rs) ≡ flat E' (queues_of rs) =
          flat-rows E E' rs (all-with (AreRowsApart r) (λ (x : LevelRow). E x.queue ≡ E' x.queue) (λ x d. sym (there x.queue (λ e. d.1 (e ∙ sym t.1)))) rs a.0) in
          put-front (is_at_earlier_level n) n (E r.queue) F front
          ∙ ap (λ l. E r.queue ++ l) (put-back (is_at_earlier_level n) n F (rows-back n E r lv rs a.0 at.1))
          ∙ sym (append_assoc (E r.queue) (n ∷ []) F)
          ∙ ap (λ l. l ++ F) (ap (λ p. E p ++ n ∷ []) t.1 ∙ sym here ∙ ap E' (sym t.1))
          ∙ ap (λ l. E' r.queue ++ l) others
      | inr t ↦
          let later : HasQueue q rs = elim h [ inl e ↦ absurd (t.1 e) | inr e ↦ e ] in
          let before : is_before (level_of_row r) k ≡ true = before-of q k r rs later a.0 l.1 in
          let front : Front n (E r.queue) = all-stand n r false (before-apart (level_of_row r) k before) (E r.queue) at.0 in
          put-front (is_at_earlier_level n) n (E r.queue) F front
          ∙ ap (λ l. E r.queue ++ l) (flat-placed E E' n q here there rs a.1 later l.1 at.1)
          ∙ ap (λ l. l ++ flat E' (queues_of rs)) (sym (there r.queue t.1))
    ]

-- ---- one level, by its queue

pub row_of-here : (q : ℕ) (r : LevelRow) (rs : List LevelRow) → r.queue ≡ q → row_of q (r ∷ rs) ≡ r
row_of-here q r rs e = elim (eqb_tells r.queue q) [ inl t ↦ ap (λ (b : Bool). cond b r (row_of q rs)) t.0 | inr t ↦ absurd (t.1 e) ]

pub row_of-later : (q : ℕ) (r : LevelRow) (rs : List LevelRow) → r.queue ≢ q → row_of q (r ∷ rs) ≡ row_of q rs
row_of-later q r rs n = elim (eqb_tells r.queue q) [ inl t ↦ absurd (n t.1) | inr t ↦ ap (λ (b : Bool). cond b r (row_of q rs)) t.0 ]

none-later : (q : ℕ) (r : LevelRow) → r.queue ≡ q → (rs : List LevelRow) → AllByRecursion (AreRowsApart r) rs → (R : LevelRow) → AllByRecursion (λ (x : LevelRow). x.queue ≡ q → x ≡ R) rs
none-later q r e [] a R = tt
none-later q r e (x ∷ rs) a R = ((λ h. absurd (a.0.1 (h ∙ sym e))), none-later q r e rs a.1 R)

-- no other level has its queue
pub only-row : (q : ℕ) (rs : List LevelRow) → Pairs AreRowsApart rs → AllByRecursion (λ (r : LevelRow). r.queue ≡ q → r ≡ row_of q rs) rs
only-row q [] a = tt
only-row q (r ∷ rs) a = elim (eqb_tells r.queue q) [
  | inl t ↦ ((λ _. sym (row_of-here q r rs t.1)), none-later q r t.1 rs a.0 (row_of q (r ∷ rs)))
  | inr t ↦ (
    (λ e. absurd (t.1 e)),
    subst (λ (R : LevelRow). AllByRecursion (λ (x : LevelRow). x.queue ≡ q → x ≡ R) rs) (sym (row_of-later q r rs t.1)) (only-row q rs a.1),
  )
]

-- what holds of each level holds of that of a queue
pub at-row : (P : LevelRow → Type 0) (q : ℕ) (rs : List LevelRow) → HasQueue q rs → AllByRecursion P rs → P (row_of q rs)
at-row P q [] h a = absurd h
at-row P q (r ∷ rs) h a = elim (eqb_tells r.queue q) [
  | inl t ↦ subst P (sym (row_of-here q r rs t.1)) a.0
  | inr t ↦ subst P (sym (row_of-later q r rs t.1)) (at-row P q rs (elim h [ inl e ↦ absurd (t.1 e) | inr e ↦ e ]) a.1)
]

pub row_of-queue : (q : ℕ) (rs : List LevelRow) → HasQueue q rs → (row_of q rs).queue ≡ q
row_of-queue q [] h = absurd h
row_of-queue q (r ∷ rs) h = elim (eqb_tells r.queue q) [
  | inl t ↦ ap (λ (x : LevelRow). x.queue) (row_of-here q r rs t.1) ∙ t.1
  | inr t ↦ ap (λ (x : LevelRow). x.queue) (row_of-later q r rs t.1) ∙ row_of-queue q rs (elim h [ inl e ↦ absurd (t.1 e) | inr e ↦ e ])
]

-- ---- one order, by its slot

pub flat-has : (s q : ℕ) (E : ℕ → List Entry) (rs : List LevelRow) → HasQueue q rs → HasSlot s (E q) → HasSlot s (flat E (queues_of rs))
flat-has s q E [] h k = absurd h
flat-has s q E (r ∷ rs) h k = elim h [
  | inl e ↦ HasSlot-left s (E r.queue) (flat E (queues_of rs)) (subst (λ p. HasSlot s (E p)) (sym e) k)
  | inr e ↦ HasSlot-right s (E r.queue) (flat E (queues_of rs)) (flat-has s q E rs e k)
]

-- an order stands in some level's queue
pub record Stood (s : ℕ) (E : ℕ → List Entry) (rs : List LevelRow) : Type 0 where
  pub queue : ℕ
  pub is_row : HasQueue queue rs
  pub has : HasSlot s (E queue)

pub flat-had : (s : ℕ) (E : ℕ → List Entry) (rs : List LevelRow) → HasSlot s (flat E (queues_of rs)) → Stood s E rs
flat-had s E [] h = absurd h
flat-had s E (r ∷ rs) h = elim (HasSlot-either s (E r.queue) (flat E (queues_of rs)) h) [
  | inl e ↦ record { queue = r.queue; is_row = inl refl; has = e }
  | inr e ↦ let k = flat-had s E rs e in record { queue = k.queue; is_row = inr k.is_row; has = k.has }
]

-- the sums of a level once they are set
pub row_of-summed : (q a b d : ℕ) (rs : List LevelRow) → HasQueue q rs → (row_of q (with_sums q a b d rs)).count ≡ a
row_of-summed q a b d [] h = absurd h
row_of-summed q a b d (r ∷ rs) h =
    let new : LevelRow = record r { count = a; shown = b; leaves = d } in
    elim (eqb_tells r.queue q) [
      | inl t ↦
          ap (λ (c : Bool). (row_of q (cond c new r ∷ with_sums q a b d rs)).count) t.0
          ∙ ap (λ (c : Bool). (cond c new (row_of q (with_sums q a b d rs))).count) t.0
      | inr t ↦
          ap (λ (c : Bool). (row_of q (cond c new r ∷ with_sums q a b d rs)).count) t.0
          ∙ ap (λ (c : Bool). (cond c r (row_of q (with_sums q a b d rs))).count) t.0
          ∙ row_of-summed q a b d rs (elim h [ inl e ↦ absurd (t.1 e) | inr e ↦ e ])
    ]

-- the sums of a level that goes do not matter
pub without-summed : (q a b d : ℕ) (rs : List LevelRow) → without_row q (with_sums q a b d rs) ≡ without_row q rs
without-summed q a b d [] = refl
without-summed q a b d (r ∷ rs) =
    let new : LevelRow = record r { count = a; shown = b; leaves = d } in
    elim (eqb_tells r.queue q) [
      | inl t ↦
          ap (λ (c : Bool). without_row q (cond c new r ∷ with_sums q a b d rs)) t.0
          ∙ ap (λ (c : Bool). cond (not c) (new ∷ without_row q (with_sums q a b d rs)) (without_row q (with_sums q a b d rs))) t.0
          ∙ without-summed q a b d rs
          ∙ sym (ap (λ (c : Bool). cond (not c) (r ∷ without_row q rs) (without_row q rs)) t.0)
      | inr t ↦
          ap (λ (c : Bool). without_row q (cond c new r ∷ with_sums q a b d rs)) t.0
          ∙ ap (λ (c : Bool). cond (not c) (r ∷ without_row q (with_sums q a b d rs)) (without_row q (with_sums q a b d rs))) t.0
          ∙ ap (λ (l : List LevelRow). r ∷ l) (without-summed q a b d rs)
          ∙ sym (ap (λ (c : Bool). cond (not c) (r ∷ without_row q rs) (without_row q rs)) t.0)
    ]

-- the sums that a level has, set anew, are the same
pub same-sums : (q : ℕ) (x : LevelRow) (rs : List LevelRow) → AllByRecursion (λ (r : LevelRow). r.queue ≡ q → r ≡ x) rs → with_sums q x.count x.shown x.leaves rs ≡ rs
same-sums q x [] a = refl
same-sums q x (r ∷ rs) a =
    let new : LevelRow = record r { count = x.count; shown = x.shown; leaves = x.leaves } in
    let later = ap (λ (l : List LevelRow). r ∷ l) (same-sums q x rs a.1) in
    elim (eqb_tells r.queue q) [
      | inl t ↦
          ap (λ (c : Bool). cond c new r ∷ with_sums q x.count x.shown x.leaves rs) t.0
          ∙ ap (λ (y : LevelRow). record r { count = y.count; shown = y.shown; leaves = y.leaves } ∷ with_sums q x.count x.shown x.leaves rs) (sym (a.0 t.1))
          ∙ later
      | inr t ↦ ap (λ (c : Bool). cond c new r ∷ with_sums q x.count x.shown x.leaves rs) t.0 ∙ later
    ]
