-- Keeping the products of all amendments of a journal but the last, one after the other.
use Rattle.std.proofs.Common.{◌≡◌, ◌≢◌, ◌⊎◌, inl, inr, ⊎_elim, ℕ, ◌+◌, ◌<◌, true, false, List, [], ◌∷◌, ◌++◌, length, Ok, Err, refl, sym, subst, ◌∙◌, ap, arith, append_assoc, append-nil, length-append}
use Rattle.std.specs.List.{flat_map}
use Rattle.product_file.specs.Products.{ProductLists}
use Rattle.match_journal.specs.Journal.{IsJournal, Header, Record, journal_front, open_record}
use Rattle.match_journal.specs.Walking.{IsNext}
use Rattle.match_journal.specs.declared.entry.Entry.{Entry}
use Rattle.match_journal.specs.declared.entry.EntryKind.{EntryKind}
use Rattle.match_journal.specs.declared.entry.EntryKind.TheVariants.{Frames, OldImage, Image, Amendment}
use Rattle.match_journal.proofs.Heads.{length-first}
use Rattle.match_journal.proofs.Walked.{front-split}
use Rattle.match_journal.proofs.Records.{length-record}
use Rattle.book_recovery.specs.Histories.{is_amendment, HaveNoAmendment}
use Rattle.book_recovery.specs.Products.{AreProducts}
use Rattle.book_recovery.specs.Inner.Keeping.{IsSplit, KeepsAmended, KeepsAll}
use Rattle.book_recovery.specs.Inner.Replays.{payload_at}
use Rattle.book_recovery.specs.declared.products.NoProducts.{NoProducts}
use Rattle.book_recovery.specs.declared.products.NoProducts.TheVariants as none
use Rattle.book_recovery.proofs.ProductsTaken.{are-plain, are-amended, are-not-amended}
use Rattle.book_recovery.proofs.Replaying.{record_next}

amends-kind : (kind : EntryKind) → is_amendment kind ≡ true → kind ≡ Amendment
amends-kind Frames is = absurd (cc is)
amends-kind OldImage is = absurd (cc is)
amends-kind Image is = absurd (cc is)
amends-kind Amendment is = refl

-- gates rise
gate-below : (head : Header) (before : List Record) (r : Record) (rest : List Record) → length (journal_front head before) < length (journal_front head (before ++ r ∷ rest))
gate-below head before r rest =
    omega (arith, ap length (front-split head before (r ∷ rest)), length-append (journal_front head before) (flat_map open_record (r ∷ rest)), length-append (open_record r) (flat_map open_record rest), length-record r)

module _ (head : Header) (records : List Record) (last_at : ℕ) (split : IsSplit head records last_at) where
  -- the last amendment is still to come
  pub record IsOnTheWay (before after : List Record) (items : List ProductLists) : Type 0 where
    pub rest : List Record
    pub front : split.front ≡ before ++ rest
    pub left : after ≡ rest ++ split.last ∷ split.more
    pub kept : AreProducts head before items

  -- it was passed
  pub record IsPast (after : List Record) (items : List ProductLists) : Type 0 where
    pub none : HaveNoAmendment after
    pub kept : AreProducts head split.front items

  -- Some records were passed, and the products of the amendments among them were kept, but for that of the last one.
  pub record IsKeeping (gate : ℕ) (items : List ProductLists) : Type 0 where
    pub before : List Record
    pub after : List Record
    pub are : records ≡ before ++ after
    pub place : gate ≡ length (journal_front head before)
    pub state : IsOnTheWay before after items ⊎ IsPast after items

  pub keeping-first : (gate : ℕ) (items : List ProductLists) → gate ≡ 13 + length head.text → AreProducts head [] items → IsKeeping gate items
  keeping-first gate items place kept = record {
    before = [];
    after = records;
    are = refl;
    place = place ∙ sym (length-first head);
    state = inl (record { rest = split.front; front = refl; left = split.are; kept = kept });
  }

  -- all records were passed
  pub keeping-done : (gate : ℕ) (items : List ProductLists) (at : IsKeeping gate items) → at.after ≡ [] → AreProducts head split.front items
  keeping-done gate items at none = ⊎_elim (λ way. not-left way.rest (sym way.left ∙ none)) (λ past. past.kept) at.state
    where
      not-left : (rest : List Record) → rest ++ split.last ∷ split.more ≡ [] → AreProducts head split.front items
      not-left [] is = absurd (cc is)
      not-left (r ∷ rest) is = absurd (cc is)

  module _ (image : List ℕ) (gate next : ℕ) (items : List ProductLists) (at : IsKeeping gate items) (entry : Entry) (one : IsNext head image at.before at.after next entry) where
    records-are : records ≡ (at.before ++ one.found ∷ []) ++ one.more
    records-are = at.are ∙ ap (λ (l : List Record). at.before ++ l) one.is ∙ sym (append_assoc at.before (one.found ∷ []) one.more)

    -- one record more was passed
    keeping-then : (then : List ProductLists) → IsOnTheWay (at.before ++ one.found ∷ []) one.more then ⊎ IsPast one.more then → IsKeeping next then
    keeping-then then state = record { before = at.before ++ one.found ∷ []; after = one.more; are = records-are; place = one.gate_is; state = state }

    -- the record is the last amendment, or one before it
    pub record IsAhead (way : IsOnTheWay at.before at.after items) : Type 0 where
      pub rest : List Record
      pub front : split.front ≡ at.before ++ one.found ∷ rest
      pub left : one.more ≡ rest ++ split.last ∷ split.more

    pub record IsItself (way : IsOnTheWay at.before at.after items) : Type 0 where
      pub front : split.front ≡ at.before
      pub more : one.more ≡ split.more

    which : (way : IsOnTheWay at.before at.after items) → IsItself way ⊎ IsAhead way
    which way = by-rest way.rest way.front (sym way.left ∙ one.is)
      where
        by-rest : (rest : List Record) → split.front ≡ at.before ++ rest → rest ++ split.last ∷ split.more ≡ one.found ∷ one.more → IsItself way ⊎ IsAhead way
        by-rest [] front is = inl (record { front = front ∙ append-nil at.before; more = cc is })
        by-rest (r ∷ rest) front is =
            let same : r ≡ one.found = cc is in
            let left : one.more ≡ rest ++ split.last ∷ split.more = cc is in
            inr (record { rest = rest; front = front ∙ ap (λ (x : Record). at.before ++ x ∷ rest) same; left = left })

    at-last : (way : IsOnTheWay at.before at.after items) → IsItself way → entry.at ≡ last_at
    at-last way itself = one.at_is ∙ ap (λ (l : List Record). length (journal_front head l)) (sym itself.front) ∙ sym split.gate_is

    not-last : (way : IsOnTheWay at.before at.after items) → IsAhead way → entry.at ≡ last_at → ⊥
    not-last way ahead is =
        omega (arith, is, one.at_is, split.gate_is, ap (λ (l : List Record). length (journal_front head l)) ahead.front, gate-below head at.before one.found ahead.rest)

    ahead-then : (then : List ProductLists) (way : IsOnTheWay at.before at.after items) (ahead : IsAhead way) → AreProducts head (at.before ++ one.found ∷ []) then → IsKeeping next then
    ahead-then then way ahead kept =
        keeping-then then (inl (record { rest = ahead.rest; front = ahead.front ∙ sym (append_assoc at.before (one.found ∷ []) ahead.rest); left = ahead.left; kept = kept }))

    past-more : IsPast at.after items → HaveNoAmendment (one.found ∷ one.more)
    past-more past = subst HaveNoAmendment one.is past.none

    -- it is no amendment, or the last one
    pub keeping-passed : (is_amendment entry.kind ≡ false) ⊎ (entry.at ≡ last_at) → IsKeeping next items
    keeping-passed passed =
        ⊎_elim
        (λ way. ⊎_elim
        (λ itself. keeping-then items (inr (record { none = subst HaveNoAmendment (sym itself.more) split.none; kept = subst (λ (l : List Record). AreProducts head l items) (sym itself.front) way.kept })))
        (λ ahead. ahead-then items way ahead (⊎_elim
        (λ plain. are-plain head at.before items way.kept (one.found ∷ []) (ap is_amendment (sym one.kind) ∙ plain, tt))
        (λ is. absurd (not-last way ahead is))
        passed))
        (which way))
        (λ past. keeping-then items (inr (record { none = (past-more past).1; kept = past.kept })))
        at.state

    module _ (amends : is_amendment entry.kind ≡ true) (not_last : entry.at ≢ last_at) where
      -- it is one before the last
      way-of : (way : IsOnTheWay at.before at.after items) → IsAhead way
      way-of way = ⊎_elim (λ itself. absurd (not_last (at-last way itself))) (λ ahead. ahead) (which way)

      not-past : IsPast at.after items → ⊥
      not-past past = cc (sym (past-more past).0 ∙ ap is_amendment (sym one.kind) ∙ amends)

      found-amends : one.found.kind ≡ Amendment
      found-amends = sym one.kind ∙ amends-kind entry.kind amends

      payload-is : payload_at image entry ≡ one.found.payload
      payload-is = ap (λ (r : Record). r.payload) (record_next head image at.before at.after next entry one)

      pub keeping-kept : (then : List ProductLists) → KeepsAmended (payload_at image entry) entry.at items then (Ok tt) → IsKeeping next then
      keeping-kept then told =
          let kept : KeepsAmended one.found.payload entry.at items then (Ok tt) = subst (λ (l : List ℕ). KeepsAmended l entry.at items then (Ok tt)) payload-is told in
          ⊎_elim
          (λ way. ahead-then then way (way-of way)
          (subst (AreProducts head (at.before ++ one.found ∷ [])) (sym kept.1.is)
          (are-amended head at.before items way.kept one.found found-amends kept.1.product kept.0 kept.1.gives kept.1.follows)))
          (λ past. absurd (not-past past))
          at.state

      pub keeping-failed : (limit : ℕ) (then : List ProductLists) → IsJournal head limit records image → (why : NoProducts) → KeepsAmended (payload_at image entry) entry.at items then (Err why) → KeepsAll head limit image split.front then (Err why)
      keeping-failed limit then journal none.Store told = tt
      keeping-failed limit then journal none.NoMemory told = tt
      keeping-failed limit then journal (none.Bad place) told =
          let kept : KeepsAmended one.found.payload entry.at items then (Err (none.Bad place)) = subst (λ (l : List ℕ). KeepsAmended l entry.at items then (Err (none.Bad place))) payload-is told in
          ⊎_elim
          (λ way. record {
            records = records;
            heads = journal;
            bad = inr (
              way.kept.first,
              way.kept.gives,
              record {
                before = at.before;
                bad = one.found;
                behind = one.more;
                are = at.are ∙ ap (λ (l : List Record). at.before ++ l) one.is;
                have = way.kept.have;
                have_no_more = are-not-amended head at.before items way.kept one.found found-amends kept.1;
                place = kept.0 ∙ one.at_is;
              },
            );
          })
          (λ past. absurd (not-past past))
          at.state
