-- The faults of an image, as they are tried: those of its parts, that of the byte of the session, and those of the TOP orders.
use Rattle.std.proofs.Common.{◌≡◌, ℕ, ◌<◌, ◌≤◌, List, [], ◌∷◌, length, Option, Some, None, ap, sym, ◌∙◌}
use Rattle.std.specs.Prelude.{nat_lt}
use Rattle.std.specs.Option.{option_or}
use Rattle.gx_base.specs.FirstFault.{fault_if, first_fault}
use Rattle.gx_base.specs.declared.trading.Trading.{Trading}
use Rattle.product_file.specs.Products.{ProductLists}
use Rattle.match_journal.specs.declared.entry.EntryKind.{EntryKind}
use Rattle.book_image.specs.Kinds.{part_of, session_of, trading_of}
use Rattle.book_image.specs.Faults.{parts_fault, tops_fault, image_fault}
use Rattle.book_image.specs.Reading.{state_of_part, state_of_image}
use Rattle.book_image.proofs.CheckFaults.{lt-true, lt-false, if-here, if-past, or-here, or-past, or-last}

abbrev faults_of : Option ℕ → ℕ → ℕ → Option ℕ → Option ℕ
faults_of parts session place tops = first_fault (parts ∷ fault_if (nat_lt 1 session) place ∷ tops ∷ [])

module _ (parts tops : Option ℕ) (session place : ℕ) where
  parts-first : (x : ℕ) → parts ≡ Some x → faults_of parts session place tops ≡ Some x
  parts-first x h = or-here parts (option_or (fault_if (nat_lt 1 session) place) (option_or tops None)) x h

  session-next : parts ≡ None → 1 < session → faults_of parts session place tops ≡ Some place
  session-next h g =
      or-past parts (option_or (fault_if (nat_lt 1 session) place) (option_or tops None)) h
      ∙ if-here (nat_lt 1 session) place (option_or tops None) (lt-true 1 session g)

  tops-last : parts ≡ None → session ≤ 1 → faults_of parts session place tops ≡ tops
  tops-last h g =
      or-past parts (option_or (fault_if (nat_lt 1 session) place) (option_or tops None)) h
      ∙ if-past (nat_lt 1 session) place (option_or tops None) (lt-false 1 session g) ∙ or-last tops

-- the part and the session of a payload
module _ (kind : EntryKind) (payload part : List ℕ) (session : ℕ) (trading : Trading)
    (part_is : part ≡ part_of kind payload) (session_is : session ≡ session_of kind payload) (trading_is : trading ≡ trading_of session)
    (product : ProductLists) where
  fault-is : faults_of (parts_fault trading product part) session (length part) (tops_fault product part) ≡ image_fault kind product payload
  fault-is =
      ap (λ (t : Trading). faults_of (parts_fault t product part) session (length part) (tops_fault product part)) trading_is
      ∙ ap (λ (s : ℕ). faults_of (parts_fault (trading_of s) product part) s (length part) (tops_fault product part)) session_is
      ∙ ap (λ (p : List ℕ). faults_of (parts_fault (trading_of (session_of kind payload)) product p) (session_of kind payload) (length p) (tops_fault product p)) part_is

  pub state-is : state_of_part trading product part ≡ state_of_image kind product payload
  state-is =
      ap (λ (t : Trading). state_of_part t product part) trading_is
      ∙ ap (λ (s : ℕ). state_of_part (trading_of s) product part) session_is
      ∙ ap (λ (p : List ℕ). state_of_part (trading_of (session_of kind payload)) product p) part_is

  module _ (parts : Option ℕ) (parts_are : parts ≡ parts_fault trading product part) where
    pub fault-of-parts : (x : ℕ) → parts ≡ Some x → image_fault kind product payload ≡ Some x
    fault-of-parts x h = sym fault-is ∙ parts-first (parts_fault trading product part) (tops_fault product part) session (length part) x (sym parts_are ∙ h)

    pub fault-of-session : parts ≡ None → 1 < session → image_fault kind product payload ≡ Some (length part)
    fault-of-session h g = sym fault-is ∙ session-next (parts_fault trading product part) (tops_fault product part) session (length part) (sym parts_are ∙ h) g

    pub fault-of-tops : (tops found : Option ℕ) → tops ≡ tops_fault product part → parts ≡ None → session ≤ 1 → tops ≡ found → image_fault kind product payload ≡ found
    fault-of-tops tops found tops_are h g is =
        sym fault-is ∙ tops-last (parts_fault trading product part) (tops_fault product part) session (length part) (sym parts_are ∙ h) g ∙ sym tops_are ∙ is
