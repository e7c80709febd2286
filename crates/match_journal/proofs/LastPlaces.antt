-- Where the last text of a journal of the second version stands.
use Rattle.std.proofs.Common.{◌≡◌, inr, ℕ, ◌+◌, List, ◌++◌, length, take, drop, Option, Some, None, Result, Ok, Err, refl, sym, subst, ◌∙◌, ap, ap₂}
use Rattle.std.specs.Int.{w32, to_be_bytes}
use Rattle.std.proofs.lemmas.List.{drop-take, drop-drop}
use Rattle.match_journal.specs.Journal.{Header, Record, IsJournal, magic, header}
use Rattle.match_journal.specs.Classes.{HasHeader}
use Rattle.match_journal.specs.Texts.{PlacedAmendment, HasTextIn, header_text, last_amendment, text_by}
use Rattle.match_journal.specs.Inner.Fronts.{IsEntryOf, HasLastEntry, IsLastPlace, AmendedAnswers, LastTextAnswers}
use Rattle.match_journal.specs.declared.entry.Entry.{Entry}
use Rattle.match_journal.specs.declared.text.TextPlace.{TextPlace}
use Rattle.match_journal.specs.declared.version.Version.{Version}
use Rattle.match_journal.specs.declared.version.Version.TheVariants.{First, Second}
use Rattle.match_journal.specs.declared.faults.StartFault.{StartFault}
use Rattle.match_journal.specs.declared.faults.StartFault.TheVariants as fault

text_behind : (v : Version) (text : List ℕ) → drop 12 (magic v ++ (to_be_bytes w32 (length text) ++ text)) ≡ text
text_behind First text = refl
text_behind Second text = refl

-- the text of a header stands after its length
header_stands : (head : Header) (image : List ℕ) → HasHeader head image → take (length head.text) (drop 13 image) ≡ head.text
header_stands head image h = ap (take (length head.text)) (sym (drop-drop 12 1 image)) ∙ sym (drop-take 12 (length head.text) (drop 1 image)) ∙ ap (drop 12) h.stands ∙ text_behind head.version head.text

module _ (head : Header) (limit : ℕ) (image : List ℕ) where
  -- ---- no record is an amendment

  none_amended : (size : ℕ) (place : TextPlace) (records : List Record) → IsJournal head limit records image → (last : Option PlacedAmendment) → last_amendment head records ≡ last → IsEntryOf image None last
      → HasHeader head image → length head.text ≡ size → (place.at ≡ 13) × (place.len ≡ size) → IsLastPlace head limit image place
  none_amended size place records journal None is entry header long at = record {
    text = header_text head;
    is = (records, journal, subst HasTextIn (sym is) tt, ap (text_by head) is);
    stands = record { at = at.0; len = at.1 ∙ sym long; stands = ap₂ (λ n k. take n (drop k image)) (at.1 ∙ sym long) at.0 ∙ header_stands head image header };
  }
  none_amended size place records journal (Some last) is entry header long at = absurd entry

  pub last_header : (size : ℕ) (place : TextPlace) (found : Option Entry) → found ≡ None → HasLastEntry head limit image found → HasHeader head image → length head.text ≡ size → (place.at ≡ 13) × (place.len ≡ size) → IsLastPlace head limit image place
  last_header size place found is has header long at =
      let none : HasLastEntry head limit image None = subst (HasLastEntry head limit image) is has in
      none_amended size place none.records none.heads (last_amendment head none.records) refl none.last header long at

  -- ---- one is

  amended : (entry : Entry) (records : List Record) → IsJournal head limit records image → (last : PlacedAmendment) → last_amendment head records ≡ Some last → entry.at ≡ last.gate → (r : Result TextPlace StartFault) → AmendedAnswers image entry.at last.payload r → LastTextAnswers head limit image r
  amended entry records journal last is place (Ok text) a = record {
    text = text_by head (Some last);
    is = (records, journal, subst HasTextIn (sym is) a.whole, ap (text_by head) is);
    stands = record { at = a.stands.at ∙ ap (λ k. k + 10) place; len = a.stands.len; stands = a.stands.stands };
  }
  amended entry records journal last is place (Err fault.Store) a = tt
  amended entry records journal last is place (Err (fault.NotAJournal at)) a = absurd a
  amended entry records journal last is place (Err (fault.Bad at)) a = inr (record { records = records; heads = journal; last = last; is_last = is; no_text = a.0; place = a.1 ∙ place })
  amended entry records journal last is place (Err (fault.ProductDiffers at)) a = absurd a

  some_amended : (entry : Entry) (records : List Record) → IsJournal head limit records image → (last : Option PlacedAmendment) → last_amendment head records ≡ last → IsEntryOf image (Some entry) last → (r : Result TextPlace StartFault)
      → ((payload : List ℕ) → entry.length ≡ length payload → take entry.length (drop (entry.at + 6) image) ≡ payload → AmendedAnswers image entry.at payload r) → LastTextAnswers head limit image r
  some_amended entry records journal None is at r answers = absurd at
  some_amended entry records journal (Some last) is at r answers = amended entry records journal last is at.0 r (answers last.payload at.1 at.2)

  pub last_amended : (found : Option Entry) (entry : Entry) → found ≡ Some entry → HasLastEntry head limit image found → (r : Result TextPlace StartFault)
      → ((payload : List ℕ) → entry.length ≡ length payload → take entry.length (drop (entry.at + 6) image) ≡ payload → AmendedAnswers image entry.at payload r) → LastTextAnswers head limit image r
  last_amended found entry is has r answers =
      let some : HasLastEntry head limit image (Some entry) = subst (HasLastEntry head limit image) is has in
      some_amended entry some.records some.heads (last_amendment head some.records) refl some.last r answers
