-- One answer of a recovery fits an image, and a journal has one first bad place.
use Rattle.std.proofs.Common.{◌≡◌, ◌⊎◌, inl, inr, ℕ, List, [], ◌∷◌, ◌++◌, length, Result, Ok, Err, refl, sym, subst, ◌∙◌, ap, ap₂, append_assoc}
use Rattle.match_journal.specs.Journal.{IsJournal, Record, journal_front, Header}
use Rattle.match_journal.proofs.Heads.{one_bad_head, no_bad_head, one_journal}
use Rattle.product_file.specs.Products.{ProductLists}
use Rattle.product_file.specs.ProductTexts.{product_of}
use Rattle.order_kinds.specs.State.{State}
use Rattle.book_recovery.specs.Records.{from_last_image, before_last_image, image_gate, count_behind, count_behind_all, IsGoodRecord, AreGoodRecords}
use Rattle.book_recovery.specs.Histories.{AreGoodFrom, HaveProducts}
use Rattle.book_recovery.specs.BadPlaces.{HasBadPayloadAt, IsBadPlace, GivesNoProduct, HasBadTextBehind, HasBadTextAt, HasBadRecordAt, IsBadForEachRecord}
use Rattle.book_recovery.specs.Recovering.{IsRecovered, Recovers}
use Rattle.book_recovery.specs.declared.recovery.Recovered.{Recovered}
use Rattle.book_recovery.specs.declared.recovery.RecoverFault.{RecoverFault}
use Rattle.book_recovery.specs.declared.recovery.RecoverFault.TheVariants as fault
use Rattle.book_recovery.proofs.GoodHistories.{good-front, good-have, have-front}
use Rattle.book_recovery.proofs.Histories.{one-product}

-- ---- the place of a record that is not good

-- of good records each is good after those before it
good_within : (product : ProductLists) (count : ℕ) (before : List Record) (r : Record) (more : List Record) → AreGoodRecords product count (before ++ r ∷ more) → IsGoodRecord product (count_behind_all count before) r
good_within product count [] r more good = good.0
good_within product count (x ∷ before) r more good = good_within product (count_behind count x) before r more good.1

no_bad_payload : (product : ProductLists) (head : Header) (limit : ℕ) (ps : List Record) (image : List ℕ) (at : ℕ) → IsJournal head limit ps image → AreGoodRecords product 0 (from_last_image ps) → HasBadPayloadAt product head limit image at → ⊥
no_bad_payload product head limit ps image at journal good bad =
    let same = ap from_last_image (one_journal head limit image ps bad.records journal bad.heads) ∙ bad.first.are in
    bad.first.not_good (good_within product 0 bad.before bad.first.bad bad.first.behind (subst (AreGoodRecords product 0) same good))

-- the first list up to one that is not good
first_bad : (product : ProductLists) (count : ℕ) (xs ys : List Record) (p q : Record) (more more' : List Record) → AreGoodRecords product count xs → AreGoodRecords product count ys
    → (IsGoodRecord product (count_behind_all count xs) p → ⊥) → (IsGoodRecord product (count_behind_all count ys) q → ⊥) → xs ++ p ∷ more ≡ ys ++ q ∷ more' → xs ≡ ys
first_bad product count [] [] p q more more' good good' bad bad' e = refl
first_bad product count [] (y ∷ ys) p q more more' good good' bad bad' e = let same : y ≡ p = cc e in absurd (bad (subst (IsGoodRecord product count) same good'.0))
first_bad product count (x ∷ xs) [] p q more more' good good' bad bad' e = let same : x ≡ q = cc e in absurd (bad' (subst (IsGoodRecord product count) same good.0))
first_bad product count (x ∷ xs) (y ∷ ys) p q more more' good good' bad bad' e =
    let same : x ≡ y = cc e in
    let rest : xs ++ p ∷ more ≡ ys ++ q ∷ more' = cc e in
    let behind = first_bad product (count_behind count x) xs ys p q more more' good.1
    (subst (λ (r : Record). AreGoodRecords product (count_behind count r) ys) (sym same) good'.1) bad
    (subst (λ (r : Record). IsGoodRecord product (count_behind_all (count_behind count r) ys) q → ⊥) (sym same) bad') rest in
    cc (same, behind)

one_bad_payload : (product : ProductLists) (head : Header) (limit : ℕ) (image : List ℕ) (at at' : ℕ) → HasBadPayloadAt product head limit image at → HasBadPayloadAt product head limit image at' → at ≡ at'
one_bad_payload product head limit image at at' a b =
    let all = one_journal head limit image a.records b.records a.heads b.heads in
    let same = first_bad product 0 a.before b.before a.first.bad b.first.bad a.first.behind b.first.behind a.first.good b.first.good a.first.not_good b.first.not_good
    (sym a.first.are ∙ ap from_last_image all ∙ b.first.are) in
    a.place ∙ ap₂ (λ (records before : List Record). length (journal_front head (before_last_image records ++ before))) all same ∙ sym b.place

-- ---- one answer

pub one_place : (product : ProductLists) (head : Header) (limit : ℕ) (image : List ℕ) (at at' : ℕ) → IsBadPlace product head limit image at → IsBadPlace product head limit image at' → at ≡ at'
one_place product head limit image at at' (inl a) (inl b) = one_bad_head head limit image at at' a b
one_place product head limit image at at' (inl a) (inr b) = absurd (no_bad_head head limit _ image at b.heads a)
one_place product head limit image at at' (inr a) (inl b) = absurd (no_bad_head head limit _ image at' a.heads b)
one_place product head limit image at at' (inr a) (inr b) = one_bad_payload product head limit image at at' a b

-- a journal of records that are good from the last image on has none
pub no_bad_place : (product : ProductLists) (head : Header) (limit : ℕ) (records : List Record) (image : List ℕ) (at : ℕ) → IsJournal head limit records image → AreGoodRecords product 0 (from_last_image records) → IsBadPlace product head limit image at → ⊥
no_bad_place product head limit records image at journal good (inl bad) = no_bad_head head limit records image at journal bad
no_bad_place product head limit records image at journal good (inr bad) = no_bad_payload product head limit records image at journal good bad

module _ (product : ProductLists) (head : Header) (image : List ℕ) (limit gate gate' : ℕ) (state state' : State) where
  same_recovered : (r r' : Recovered) → IsRecovered product head limit image gate state r → IsRecovered product head limit image gate' state' r' → r ≡ r'
  same_recovered r r' a b =
      let same = one_journal head limit image a.records b.records a.journal.journal b.journal.journal in
      let messages : r.messages ≡ r'.messages = a.messages ∙ ap (λ (l : List Record). count_behind_all 0 (from_last_image l)) same ∙ sym b.messages in
      let entries : r.entries ≡ r'.entries = a.entries ∙ ap length same ∙ sym b.entries in
      let image_at : r.image_at ≡ r'.image_at = a.image_at ∙ ap (image_gate head) same ∙ sym b.image_at in
      λ i. record { messages = messages i; entries = entries i; image_at = image_at i }

  pub one_recovery : (a b : Result Recovered RecoverFault) → Recovers product head limit image gate state a → Recovers product head limit image gate' state' b → (a ≡ Err fault.Store → ⊥) → (b ≡ Err fault.Store → ⊥) → a ≡ b
  one_recovery (Err fault.Store) b x y told told' = absurd (told refl)
  one_recovery (Ok r) (Err fault.Store) x y told told' = absurd (told' refl)
  one_recovery (Ok r) (Ok r') x y told told' = ap Ok (same_recovered r r' x y)
  one_recovery (Ok r) (Err (fault.Bad at)) x y told told' = absurd (no_bad_place product head limit x.records image at x.journal.journal x.good y)
  one_recovery (Err (fault.Bad at)) (Err fault.Store) x y told told' = absurd (told' refl)
  one_recovery (Err (fault.Bad at)) (Ok r) x y told told' = absurd (no_bad_place product head limit y.records image at y.journal.journal y.good x)
  one_recovery (Err (fault.Bad at)) (Err (fault.Bad at')) x y told told' = ap (λ k. Err (fault.Bad k)) (one_place product head limit image at at' x y)

-- ---- the first bad place, for who takes the products of all texts and then reads each record whole

-- the first list up to one with which something holds no more, where it holds of each front of what it holds of
one_front : (P : List Record → Type 0) → ((xs ys : List Record) → P (xs ++ ys) → P xs) → (xs ys : List Record) (p q : Record) (more more' : List Record) → P xs → P ys → (P (xs ++ p ∷ []) → ⊥) → (P (ys ++ q ∷ []) → ⊥)
    → xs ++ p ∷ more ≡ ys ++ q ∷ more' → xs ≡ ys
one_front P front [] [] p q more more' holds holds' ends ends' e = refl
one_front P front [] (y ∷ ys) p q more more' holds holds' ends ends' e =
    let same : y ≡ p = cc e in
    absurd (ends (subst (λ (r : Record). P (r ∷ [])) same (front (y ∷ []) ys holds')))
one_front P front (x ∷ xs) [] p q more more' holds holds' ends ends' e =
    let same : x ≡ q = cc e in
    absurd (ends' (subst (λ (r : Record). P (r ∷ [])) same (front (x ∷ []) xs holds)))
one_front P front (x ∷ xs) (y ∷ ys) p q more more' holds holds' ends ends' e =
    let same : y ≡ x = cc e in
    let rest : xs ++ p ∷ more ≡ ys ++ q ∷ more' = cc e in
    let behind = one_front (λ (l : List Record). P (x ∷ l)) (λ (us vs : List Record). front (x ∷ us) vs) xs ys p q more more' holds
    (subst (λ (r : Record). P (r ∷ ys)) same holds') ends
    (λ more_holds. ends' (subst (λ (r : Record). P (r ∷ (ys ++ q ∷ []))) (sym same) more_holds)) rest in
    cc (same, behind)

-- what holds of a list of records holds of its front with one record more
front_holds : (P : List Record → Type 0) → ((xs ys : List Record) → P (xs ++ ys) → P xs) → (records before : List Record) (r : Record) (behind : List Record) → records ≡ before ++ r ∷ behind → P records → P (before ++ r ∷ [])
front_holds P front records before r behind are holds = front (before ++ r ∷ []) behind (subst P (are ∙ sym (append_assoc before (r ∷ []) behind)) holds)

module _ (head : Header) (limit : ℕ) (image : List ℕ) where
  -- a journal whose texts give products that may follow each other has no bad text
  pub no_bad_text : (records : List Record) (first : ProductLists) (at : ℕ) → IsJournal head limit records image → product_of head.text ≡ Ok first → HaveProducts first records → HasBadTextAt head limit image at → ⊥
  no_bad_text records first at journal gives have bad = none bad.bad
    where
      same : records ≡ bad.records
      same = one_journal head limit image records bad.records journal bad.heads

      none : (GivesNoProduct head.text × (at ≡ 9)) ⊎ ((other : ProductLists) × (product_of head.text ≡ Ok other) × HasBadTextBehind head other bad.records at) → ⊥
      none (inl never) = never.0 first gives
      none (inr there) =
          let behind = there.2 in
          behind.have_no_more
          (front_holds (HaveProducts there.0) (have-front there.0) bad.records behind.before behind.bad behind.behind behind.are
          (subst (λ (p : ProductLists). HaveProducts p bad.records) (one-product first there.0 head.text gives there.1) (subst (HaveProducts first) same have)))

  -- nor has a journal of good records a bad record
  pub no_bad_record : (records : List Record) (first : ProductLists) (at : ℕ) → IsJournal head limit records image → product_of head.text ≡ Ok first → AreGoodFrom first 0 records → HasBadRecordAt head limit image at → ⊥
  no_bad_record records first at journal gives good bad =
      let same = one_journal head limit image records bad.records journal bad.heads in
      bad.not_good
      (front_holds (AreGoodFrom bad.first 0) (good-front bad.first 0) bad.records bad.before bad.bad bad.behind bad.are
      (subst (λ (p : ProductLists). AreGoodFrom p 0 bad.records) (one-product first bad.first head.text gives bad.gives) (subst (AreGoodFrom first 0) same good)))

  pub no_bad_for_each : (records : List Record) (first : ProductLists) (at : ℕ) → IsJournal head limit records image → product_of head.text ≡ Ok first → AreGoodFrom first 0 records → IsBadForEachRecord head limit image at → ⊥
  no_bad_for_each records first at journal gives good (inl (inl bad)) = no_bad_head head limit records image at journal bad
  no_bad_for_each records first at journal gives good (inl (inr bad)) = no_bad_text records first at journal gives (good-have first 0 records good) bad
  no_bad_for_each records first at journal gives good (inr bad) = no_bad_record records first at journal gives good bad

  pub one_bad_text : (at at' : ℕ) → HasBadTextAt head limit image at → HasBadTextAt head limit image at' → at ≡ at'
  one_bad_text at at' a b = one a.bad b.bad
    where
      all : a.records ≡ b.records
      all = one_journal head limit image a.records b.records a.heads b.heads

      one : (GivesNoProduct head.text × (at ≡ 9)) ⊎ ((p : ProductLists) × (product_of head.text ≡ Ok p) × HasBadTextBehind head p a.records at)
          → (GivesNoProduct head.text × (at' ≡ 9)) ⊎ ((p : ProductLists) × (product_of head.text ≡ Ok p) × HasBadTextBehind head p b.records at') → at ≡ at'
      one (inl x) (inl y) = x.1 ∙ sym y.1
      one (inl x) (inr y) = absurd (x.0 y.0 y.1)
      one (inr x) (inl y) = absurd (y.0 x.0 x.1)
      one (inr x) (inr y) =
          let left = x.2 in
          let right = subst (λ (p : ProductLists). HasBadTextBehind head p b.records at') (one-product y.0 x.0 head.text y.1 x.1) y.2 in
          let same = one_front (HaveProducts x.0) (have-front x.0) left.before right.before left.bad right.bad left.behind right.behind left.have right.have left.have_no_more right.have_no_more
          (sym left.are ∙ all ∙ right.are) in
          left.place ∙ ap (λ (l : List Record). length (journal_front head l)) same ∙ sym right.place

  pub one_bad_record : (at at' : ℕ) → HasBadRecordAt head limit image at → HasBadRecordAt head limit image at' → at ≡ at'
  one_bad_record at at' a b =
      let all = one_journal head limit image a.records b.records a.heads b.heads in
      let first = one-product b.first a.first head.text b.gives a.gives in
      let same = one_front (AreGoodFrom a.first 0) (good-front a.first 0) a.before b.before a.bad b.bad a.behind b.behind a.good
      (subst (λ (p : ProductLists). AreGoodFrom p 0 b.before) first b.good) a.not_good
      (λ good. b.not_good (subst (λ (p : ProductLists). AreGoodFrom p 0 (b.before ++ b.bad ∷ [])) (sym first) good)) (sym a.are ∙ all ∙ b.are) in
      a.place ∙ ap (λ (l : List Record). length (journal_front head l)) same ∙ sym b.place

  pub one_bad_for_each : (at at' : ℕ) → IsBadForEachRecord head limit image at → IsBadForEachRecord head limit image at' → at ≡ at'
  one_bad_for_each at at' (inl (inl a)) (inl (inl b)) = one_bad_head head limit image at at' a b
  one_bad_for_each at at' (inl (inl a)) (inl (inr b)) = absurd (no_bad_head head limit b.records image at b.heads a)
  one_bad_for_each at at' (inl (inl a)) (inr b) = absurd (no_bad_head head limit b.records image at b.heads a)
  one_bad_for_each at at' (inl (inr a)) (inl (inl b)) = absurd (no_bad_head head limit a.records image at' a.heads b)
  one_bad_for_each at at' (inl (inr a)) (inl (inr b)) = one_bad_text at at' a b
  one_bad_for_each at at' (inl (inr a)) (inr b) = absurd (no_bad_text b.records b.first at b.heads b.gives b.have a)
  one_bad_for_each at at' (inr a) (inl (inl b)) = absurd (no_bad_head head limit a.records image at' a.heads b)
  one_bad_for_each at at' (inr a) (inl (inr b)) = absurd (no_bad_text a.records a.first at' a.heads a.gives a.have b)
  one_bad_for_each at at' (inr a) (inr b) = one_bad_record at at' a b
