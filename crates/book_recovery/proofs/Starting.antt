-- Where the second pass begins.
use Rattle.std.proofs.Common.{◌≡◌, ℕ, ◌+◌, ◌<◌, ◌≤◌, List, [], ◌++◌, length, Bool, Option, Some, None, Ok, refl, sym, subst, ◌∙◌, ap, arith, append-nil}
use Rattle.std.specs.Option.{option_or}
use Rattle.product_file.specs.Products.{ProductLists}
use Rattle.product_file.specs.ProductTexts.{product_of}
use Rattle.match_journal.specs.Texts.{last_text}
use Rattle.order_kinds.specs.State.{State, empty_state}
use Rattle.match_journal.specs.Journal.{IsJournal, Record, journal_front, Header}
use Rattle.match_journal.specs.Standing.{Fits, moved}
use Rattle.match_journal.specs.Walking.{IsHead, Walks, IsNext}
use Rattle.match_journal.specs.declared.entry.Entry.{Entry}
use Rattle.match_journal.specs.declared.entry.EntryKind.{EntryKind}
use Rattle.match_journal.specs.declared.entry.EntryKind.TheVariants.{Frames, OldImage, Image, Amendment}
use Rattle.match_journal.specs.declared.standing.Standing.{Standing}
use Rattle.match_journal.proofs.Walked.{record_left, none_left}
use Rattle.book_recovery.specs.Records.{before_last_image, from_last_image}
use Rattle.book_recovery.specs.Recovering.{first_read}
use Rattle.book_recovery.specs.Inner.Starting.{IsMet, CanBegin, begins_from, IsAtImage, BeginsAt}
use Rattle.book_recovery.specs.Inner.Counting.{with_head_of, with_head}
use Rattle.book_recovery.specs.Inner.Replays.{AreReplayed}
use Rattle.book_recovery.specs.declared.recovery.Heads.{Heads}
use Rattle.match_journal.proofs.Heads.{length-first}
use Rattle.book_recovery.proofs.LastImages.{last_split, none-kept}
use Rattle.book_recovery.proofs.Replaying.{replaying_first, replaying_done}

-- ---- one head more was passed

-- an entry that was met, once the journal has gone on
met_then : (s : Standing) (entry : Entry) (gate : ℕ) (ends : Bool) → s.gate ≤ gate → gate < s.limit → IsMet s entry → IsMet (moved s gate ends) entry
met_then s entry gate ends on few met = record { fits = met.fits; ends = omega (arith, met.ends, on); in_limit = few }

frames_then : (s : Standing) (image_at : Option ℕ) (start : Option Entry) (entry : Entry) (gate : ℕ) (ends : Bool) → CanBegin s start → IsAtImage s image_at start
    → entry.at ≡ s.gate → s.gate ≤ gate → IsMet (moved s gate ends) entry
    → CanBegin (moved s gate ends) (option_or start (Some entry)) × IsAtImage (moved s gate ends) image_at (option_or start (Some entry))
frames_then s image_at None entry gate ends can at place on met = (met, place ∙ can ∙ ap (λ (o : Option ℕ). first_read o s.first) (sym at))
frames_then s image_at (Some e) entry gate ends can at place on met = (met_then s e gate ends on met.in_limit can, at)

kind_then : (s : Standing) (heads : Heads) (kind : EntryKind) (entry : Entry) (gate : ℕ) (ends : Bool) → BeginsAt s heads → entry.at ≡ s.gate → s.gate ≤ gate → IsMet (moved s gate ends) entry
    → BeginsAt (moved s gate ends) (with_head_of heads kind entry)
kind_then s heads Frames entry gate ends begins place on met =
    let both = frames_then s heads.image_at heads.start entry gate ends begins.can begins.at_image place on met in
    record { can = both.0; at_image = both.1 }
kind_then s heads OldImage entry gate ends begins place on met = record { can = met; at_image = refl }
kind_then s heads Image entry gate ends begins place on met = record { can = met; at_image = refl }
kind_then s heads Amendment entry gate ends begins place on met = record { can = met; at_image = refl }

pub begins_then : (s t : Standing) (heads then : Heads) (entry : Entry) (ends : Bool) → t ≡ moved s (s.gate + 6 + entry.length) ends → BeginsAt s heads → (entry.at ≡ s.gate) × Fits s.known s.limit entry
    → then ≡ with_head heads entry → BeginsAt t then
begins_then s t heads then entry ends moves begins met is =
    let gate = s.gate + 6 + entry.length in
    subst (BeginsAt t) (sym is)
    (subst (λ (x : Standing). BeginsAt x (with_head heads entry)) (sym moves)
    (kind_then s heads entry.kind entry gate ends begins met.0 (omega arith) (record { fits = met.1; ends = omega (arith, met.0); in_limit = omega (arith, met.0, met.1.in_limit) })))

-- ---- the start

pub none_begun : (start : Option Entry) → ((entry : Entry) → start ≡ Some entry → ⊥) → start ≡ None
none_begun None none = refl
none_begun (Some entry) none = absurd (none entry refl)

pub can_begin : (s : Standing) (start : Option Entry) (entry : Entry) → start ≡ Some entry → CanBegin s start → IsMet s entry
can_begin s start entry is begins = subst (CanBegin s) is begins

pub begins_at : (s : Standing) (start : Option Entry) (entry : Entry) → start ≡ Some entry → begins_from s start ≡ entry.at
begins_at s start entry is = ap (begins_from s) is

-- it is at the place from which on all is read
first_at : (s : Standing) (image_at : Option ℕ) (start : Option Entry) → CanBegin s start → IsAtImage s image_at start → begins_from s start ≡ first_read image_at s.first
first_at s image_at None can at = can ∙ ap (λ (o : Option ℕ). first_read o s.first) (sym at)
first_at s image_at (Some entry) can at = at

pub begins_first : (s : Standing) (heads : Heads) → BeginsAt s heads → begins_from s heads.start ≡ first_read heads.image_at s.first
begins_first s heads begins = first_at s heads.image_at heads.start begins.can begins.at_image

module _ (head : Header) (image : List ℕ) (limit : ℕ) (records : List Record) (start : Option Entry) (journal : IsJournal head limit records image)
    (walks : Walks image limit (length (journal_front head (before_last_image records))) (Ok start)) where
  abbrev place : ℕ
  place = length (journal_front head (before_last_image records))

  split : IsJournal head limit (before_last_image records ++ from_last_image records) image
  split = subst (λ (l : List Record). IsJournal head limit l image) (sym (last_split records)) journal

  pub start_head : (entry : Entry) → start ≡ Some entry → IsHead image limit place entry
  start_head entry is = subst (λ (o : Option Entry). Walks image limit place (Ok o)) is walks

  -- without an entry nothing is left to do
  pub none_replayed : (product : ProductLists) (first gate : ℕ) (new : State) → start ≡ None → first ≡ 13 + length head.text → gate ≡ first → new ≡ empty_state product → product_of (last_text head records).bytes ≡ Ok product
      → AreReplayed product head limit image records gate new
  none_replayed product first gate new is first_is still empty gives =
      let left : from_last_image records ≡ [] = none_left head image limit (before_last_image records) (from_last_image records) split place refl (subst (λ (o : Option Entry). Walks image limit place (Ok o)) is walks) in
      let none = none-kept records left in
      let at : gate ≡ place = still ∙ first_is ∙ sym (length-first head) ∙ ap (λ (l : List Record). length (journal_front head (before_last_image l))) (sym none) in
      replaying_done product head image limit records gate new (replaying_first product head records gate new at empty gives) journal left

  -- the first of the records from the last image on is that of the entry
  pub first_next : (next : ℕ) (entry : Entry) → start ≡ Some entry → next ≡ entry.at + 6 + entry.length
      → IsNext head image (before_last_image records ++ []) (from_last_image records) next entry
  first_next next entry is next_is =
      let at_head = start_head entry is in
      subst (λ (l : List Record). IsNext head image l (from_last_image records) next entry) (sym (append-nil (before_last_image records)))
      (record_left head image limit (before_last_image records) (from_last_image records) split place next entry refl at_head (omega (arith, next_is, at_head.at_is)))
