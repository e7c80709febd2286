-- The bytes of a record's head.
use Rattle.std.specs.Prelude.{◌≡◌, ℕ, List, ◌∷◌, take, drop, true, Option, Some, None}
use Rattle.match_journal.specs.declared.entry.Entry.{Entry}
use Rattle.match_journal.specs.declared.version.Version.{Version}
use Rattle.match_journal.specs.Journal.{has_kind}
use Rattle.match_journal.specs.Standing.{Fits}
use Rattle.match_journal.specs.Walking.{head_of}

-- these bytes are those of an entry, but for the gate, in a journal of this version
pub record IsHeadOf (version : Version) (head : List ℕ) (at most : ℕ) (entry : Entry) : Type 0 where
  pub at_is : entry.at ≡ at
  pub known : has_kind version entry.kind ≡ true
  pub stands : 1 ∷ take 5 (drop 1 head) ≡ head_of entry
  pub fits : Fits most most entry

abbrev pub HeadAnswers : Version → List ℕ → ℕ → ℕ → Option Entry → Type 0
HeadAnswers version head at most None = (entry : Entry) → IsHeadOf version head at most entry → ⊥
HeadAnswers version head at most (Some entry) = IsHeadOf version head at most entry
