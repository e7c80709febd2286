-- The fold of a text that goes on: its first line, and a line that has a fault whatever comes next.
use Rattle.std.proofs.Common.{◌≡◌, ℕ, ◌+◌, ◌<◌, ◌≤◌, Bool, true, false, cond, nat_lt, List, [], ◌∷◌, ◌++◌, length, Option, Some, None, Result, Ok, Err, refl, sym, ap, ◌∙◌, arith, length-append, append_assoc}
use Rattle.std.specs.Prelude.{◌==◌}
use Rattle.std.proofs.lemmas.Bool.{cond-true, lt-ltb, ltb-true, eqb-true}
use Rattle.std.proofs.lemmas.List.{append-nil}
use Rattle.std.proofs.lemmas.List.Elements.{All-from_recursion}
use Rattle.std.proofs.lemmas.List.Splits.{slice_split_none, slice_split_at, length-slice_split}
use Rattle.gx_base.proofs.NumberTexts.{lacks-append}
use Rattle.level_feed.specs.declared.fault.FeedFault.{FeedFault}
use Rattle.level_feed.specs.declared.fault.FeedFault.TheVariants.{Form}
use Rattle.level_feed.specs.Lines.{Listing, line_of}
use Rattle.level_feed.specs.Tables.{Table, is_inside, longest_line, read_by, text_taken}
use Rattle.level_feed.specs.Folds.{FoldFault, Cut, Broken, pieces_of, table_in, ended, where_taken, fold_from}
use Rattle.feed_reader.specs.Inner.{HasNoEnd, IsFront}

abbrev pub Fold : Type 0
Fold = Result Table FoldFault

pub no-end-append : (xs ys : List ℕ) → HasNoEnd xs → HasNoEnd ys → HasNoEnd (xs ++ ys)
no-end-append xs ys h g = lacks-append 10 xs ys h g

-- a byte after others, in two ways
abbrev same-text : (k : List ℕ) (c : ℕ) (more : List ℕ) → (k ++ c ∷ []) ++ more ≡ k ++ c ∷ more
same-text k c more = append_assoc k (c ∷ []) more

-- ---- the end

ended-cases : (at block a : ℕ) (f : FeedFault) (long inside some : Bool) (t : Table) (n : Option ℕ)
    → cond long (Err (Broken at Form)) (cond inside (Err (Cut block)) (cond some (Err (Cut at)) (table_in t n))) ≡ Err (Broken a f)
    → (long ≡ true) × (at ≡ a) × (Form ≡ f)
ended-cases at block a f true inside some t n e = (refl, cc, cc)
ended-cases at block a f false true some t n e = cc
ended-cases at block a f false false true t n e = cc
ended-cases at block a f false false false t None e = cc
ended-cases at block a f false false false t (Some number) e = cc

pub ended-broken : (t : Table) (at block : ℕ) (rest : List ℕ) (a : ℕ) (f : FeedFault) → ended t at block rest ≡ Err (Broken a f) → (longest_line < length rest) × (at ≡ a) × (Form ≡ f)
ended-broken t at block rest a f e =
    let parts = ended-cases at block a f (nat_lt longest_line (length rest)) (is_inside t) (nat_lt 0 (length rest)) t t.number e in
    (ltb-true longest_line (length rest) parts.0, parts.1, parts.2)

module _ (listing : Listing) where
  abbrev pub next_block : Table → ℕ → ℕ → ℕ
  next_block t at block = cond (is_inside t) block at

  -- ---- the rest of a line, and a line

  pub fold-rest : (t : Table) (at block : ℕ) (k : List ℕ) → HasNoEnd k → fold_from listing t at block (pieces_of k) ≡ ended t at block k
  fold-rest t at block k h =
      ap (fold_from listing t at block) (slice_split_none (λ c. c == 10) k (All-from_recursion (λ (c : ℕ). (c == 10) ≡ false) k h))

  fold-cons : (t : Table) (at block : ℕ) (k : List ℕ) (pieces : List (List ℕ)) → 1 ≤ length pieces
      → fold_from listing t at block (k ∷ pieces) ≡ where_taken at (text_taken listing t k) (λ u. fold_from listing u (at + length k + 1) (next_block t at block) pieces)
  fold-cons t at block k [] h = absurd (omega arith)
  fold-cons t at block k (p ∷ pieces) h = refl

  pub fold-line : (t : Table) (at block : ℕ) (k more : List ℕ) → HasNoEnd k
      → fold_from listing t at block (pieces_of (k ++ 10 ∷ more)) ≡ where_taken at (text_taken listing t k) (λ u. fold_from listing u (at + length k + 1) (next_block t at block) (pieces_of more))
  fold-line t at block k more h =
      ap (fold_from listing t at block) (slice_split_at (λ c. c == 10) k 10 more (All-from_recursion (λ (c : ℕ). (c == 10) ≡ false) k h) refl)
      ∙ fold-cons t at block k (pieces_of more) (omega (arith, length-slice_split (λ c. c == 10) more))

  -- ---- a line that is too long

  taken-long : (t : Table) (k : List ℕ) → longest_line < length k → text_taken listing t k ≡ Err Form
  taken-long t k h =
      cond-true (nat_lt longest_line (length k)) (Err Form) (read_by listing t (line_of listing k)) (lt-ltb longest_line (length k) h)

  rest-long : (t : Table) (at block : ℕ) (k : List ℕ) → longest_line < length k → ended t at block k ≡ Err (Broken at Form)
  rest-long t at block k h =
      cond-true (nat_lt longest_line (length k)) (Err (Broken at Form)) _ (lt-ltb longest_line (length k) h)

  abbrev IsLongBefore : Table → ℕ → ℕ → List ℕ → Type 0
  IsLongBefore t at block more = (k : List ℕ) → HasNoEnd k → longest_line < length k → fold_from listing t at block (pieces_of (k ++ more)) ≡ Err (Broken at Form)

  long-by : (t : Table) (at block c : ℕ) (more : List ℕ) (b : Bool) → (c == 10) ≡ b → IsLongBefore t at block more → IsLongBefore t at block (c ∷ more)
  long-by t at block c more true is all k h long =
      let e : c ≡ 10 = eqb-true c 10 is in
      ap (λ (n : ℕ). fold_from listing t at block (pieces_of (k ++ n ∷ more))) e
      ∙ fold-line t at block k more h
      ∙ ap (λ (r : Result Table FeedFault). where_taken at r (λ u. fold_from listing u (at + length k + 1) (next_block t at block) (pieces_of more))) (taken-long t k long)
  long-by t at block c more false is all k h long =
      ap (λ (text : List ℕ). fold_from listing t at block (pieces_of text)) (sym (same-text k c more))
      ∙ all (k ++ c ∷ []) (no-end-append k (c ∷ []) h (is, tt)) (omega (arith, length-append k (c ∷ [])))

  -- it has its fault whatever comes next
  pub fold-long : (t : Table) (at block : ℕ) (k more : List ℕ) → HasNoEnd k → longest_line < length k → fold_from listing t at block (pieces_of (k ++ more)) ≡ Err (Broken at Form)
  fold-long t at block k [] h long =
      ap (λ (text : List ℕ). fold_from listing t at block (pieces_of text)) (append-nil k)
      ∙ fold-rest t at block k h
      ∙ rest-long t at block k long
  fold-long t at block k (c ∷ more) h long =
      long-by t at block c more (c == 10) refl (λ l g m. fold-long t at block l more g m) k h long

  -- ---- the front of a line has no fault

  pub front-unbroken : (t : Table) (at block : ℕ) (k : List ℕ) (a : ℕ) (f : FeedFault) → IsFront k → ended t at block k ≡ Err (Broken a f) → ⊥
  front-unbroken t at block k a f front e =
      let parts = ended-broken t at block k a f e in
      let short = front.short in
      let long = parts.0 in
      absurd (omega arith)

  -- ---- a fault stays

  module _ (ys : List ℕ) (a : ℕ) (f : FeedFault) where
    abbrev Stays : List ℕ → Type 0
    Stays xs =
        (t : Table) (at block : ℕ) (k : List ℕ) → HasNoEnd k → fold_from listing t at block (pieces_of (k ++ xs)) ≡ Err (Broken a f)
        → fold_from listing t at block (pieces_of (k ++ (xs ++ ys))) ≡ Err (Broken a f)

    rest-stays : Stays []
    rest-stays t at block k h e =
        let parts = ended-broken t at block k a f (sym (fold-rest t at block k h) ∙ ap (λ (text : List ℕ). fold_from listing t at block (pieces_of text)) (sym (append-nil k)) ∙ e) in
        let same : Broken at Form ≡ Broken a f = cc (parts.1, parts.2) in
        fold-long t at block k ys h parts.0 ∙ ap Err same

    -- a line that was taken or not, with what comes next
    then-stays : (at : ℕ) (r : Result Table FeedFault) (few many : Table → Fold) → ((u : Table) → few u ≡ Err (Broken a f) → many u ≡ Err (Broken a f)) → where_taken at r few ≡ Err (Broken a f) → where_taken at r many ≡ Err (Broken a f)
    then-stays at (Ok u) few many all e = all u e
    then-stays at (Err fault) few many all e = e

    stays-by : (c : ℕ) (xs : List ℕ) (b : Bool) → (c == 10) ≡ b → Stays xs → Stays (c ∷ xs)
    stays-by c xs true is all t at block k h e =
        let ten : c ≡ 10 = eqb-true c 10 is in
        let text = λ (n : ℕ) (more : List ℕ). fold_from listing t at block (pieces_of (k ++ n ∷ more)) in
        let after = λ (more : List ℕ) (u : Table). fold_from listing u (at + length k + 1) (next_block t at block) (pieces_of more) in
        let before : where_taken at (text_taken listing t k) (after xs) ≡ Err (Broken a f) = sym (fold-line t at block k xs h) ∙ ap (λ n. text n xs) (sym ten) ∙ e in
        ap (λ n. text n (xs ++ ys)) ten
        ∙ fold-line t at block k (xs ++ ys) h
        ∙ then-stays at (text_taken listing t k) (after xs) (after (xs ++ ys)) (λ u g. all u (at + length k + 1) (next_block t at block) [] tt g) before
    stays-by c xs false is all t at block k h e =
        let fold = λ (text : List ℕ). fold_from listing t at block (pieces_of text) in
        ap fold (sym (same-text k c (xs ++ ys)))
        ∙ all t at block (k ++ c ∷ []) (no-end-append k (c ∷ []) h (is, tt)) (ap fold (same-text k c xs) ∙ e)

    pub stays : (xs : List ℕ) → Stays xs
    stays [] t at block k h e = rest-stays t at block k h e
    stays (c ∷ xs) t at block k h e = stays-by c xs (c == 10) refl (stays xs) t at block k h e
