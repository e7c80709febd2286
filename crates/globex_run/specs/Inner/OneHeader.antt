-- Images that keep records under the text of one header. A last text does not tell the header's, which is that of the first product; and
-- a crash takes nothing of a header but the version of an unfinished creation.
use Rattle.std.specs.Prelude.{ℕ, ◌≤◌, max, List, length}
use Rattle.match_journal.specs.Journal.{Record, in_version}
use Rattle.match_journal.specs.Classes.{Keeps}
use Rattle.match_journal.specs.declared.version.Version.{Version}
use Rattle.match_journal.specs.declared.limits.TheConstants.{MOST_UNFINISHED}

-- these records are kept, with a header of this text in either version
abbrev pub KeepsUnder : List ℕ → ℕ → List Record → List ℕ → Type 0
KeepsUnder first limit records image = (version : Version) × Keeps (in_version version first) limit records image

-- A crash while the journal is opened leaves an image that keeps the same records under the same text, and is no longer than it was, or
-- than an unfinished creation may be.
pub record IsOpeningUnder (first : List ℕ) (limit : ℕ) (records : List Record) (image left : List ℕ) : Type 0 where
  pub keeps : KeepsUnder first limit records left
  pub no_longer : length left ≤ max (length image) MOST_UNFINISHED
