-- Images that are opened or are an unfinished creation.
use Rattle.std.proofs.Common.{◌⊎◌, inl, inr, ℕ, List, ◌∷◌, ◌++◌, length, get_or, ◌∙◌, ap, arith, length-append}
use Rattle.std.specs.List.{flat_map}
use Rattle.match_journal.specs.Journal.{Header, IsJournal, Record, header, open_record}
use Rattle.match_journal.specs.Classes.{IsBlank, IsSealedOf}
use Rattle.match_journal.specs.Texts.{PlacedText, HasLastText}
use Rattle.match_journal.specs.Opening.{IsOpenedOf}
use Rattle.match_journal.proofs.LastTexts.{one_last_text}

module _ (text : List ℕ) (limit : ℕ) (image : List ℕ) where
  -- an unfinished creation is no journal
  pub not_unfinished : (head : Header) (records : List Record) → IsJournal head limit records image → IsBlank image ⊎ IsSealedOf text image → ⊥
  not_unfinished head records journal (inl (inl short)) =
      omega (arith, short, ap length journal.is, length-append (header head ++ flat_map open_record records) (journal.gate ∷ journal.behind))
  not_unfinished head records journal (inl (inr closed)) = omega (arith, closed.0, ap (λ (l : List ℕ). get_or l 0 0) journal.is)
  not_unfinished head records journal (inr sealed) = sealed.1.not_open (ap (λ (l : List ℕ). get_or l 0 0) journal.is)

  -- the text of a journal that is opened is its last one
  pub opened_last : (opened : IsOpenedOf text limit image) (records : List Record) → IsJournal opened.head limit records image → HasLastText opened.head records text
  opened_last opened records journal =
      let last = one_last_text opened.head image limit records opened.placed opened.opened journal in
      record { is = ap (λ (t : PlacedText). t.bytes) last.0 ∙ opened.is; inside = last.1 }
