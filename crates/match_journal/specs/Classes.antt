-- What an image is before it is opened. The classes are tried in this order: blank, sealed, journal; else it is foreign.
use Rattle.std.specs.Prelude.{◌≡◌, ◌≢◌, ◌⊎◌, ℕ, ◌+◌, ◌<◌, ◌≤◌, max, List, [], length, take, drop, get_or}
use Rattle.std.specs.Bool.{nat_eq}
use Rattle.std.specs.List.{common_prefix_len}
use Rattle.match_journal.specs.Journal.{Header, Record, IsJournal, header, in_version, magic}
use Rattle.match_journal.specs.Texts.{HasLastText}
use Rattle.match_journal.specs.declared.version.Version.{Version}
use Rattle.match_journal.specs.declared.version.Version.TheVariants.{First, Second}
use Rattle.match_journal.specs.declared.limits.TheConstants.{MOST_TEXT, MOST_UNFINISHED}

-- the first place at which two texts differ, or the shorter one ends
abbrev pub first_difference : List ℕ → List ℕ → ℕ
first_difference = common_prefix_len nat_eq

-- this header stands after the first gate, and a gate after it
pub record HasHeader (head : Header) (image : List ℕ) : Type 0 where
  pub few : length head.text ≤ MOST_TEXT
  pub stands : take (12 + length head.text) (drop 1 image) ≡ header head
  pub inside : 13 + length head.text < length image

-- there is no gate yet, or the first is closed
abbrev pub IsBlank : List ℕ → Type 0
IsBlank image = (length image ≤ 1) ⊎ ((get_or image 0 0 ≡ 0) × (length image ≤ MOST_UNFINISHED))

-- all is written but the first gate, which a crash has torn
pub record IsSealed (head : Header) (image : List ℕ) : Type 0 where
  pub not_closed : get_or image 0 0 ≢ 0
  pub not_open : get_or image 0 0 ≢ 1
  pub header : HasHeader head image
  pub closed : get_or image (13 + length head.text) 0 ≡ 0

-- sealed, with a header of this text in either version
abbrev pub IsSealedOf : List ℕ → List ℕ → Type 0
IsSealedOf text image = (version : Version) × IsSealed (in_version version text) image

-- the first gate is open, and the magic of a version stands after it; its text, its records may be good or not
pub record HasOpenGate (image : List ℕ) : Type 0 where
  pub opened : get_or image 0 0 ≡ 1
  pub version : Version
  pub magic : take 8 (drop 1 image) ≡ magic version

-- the same of the second version, all heads of which an opening goes over
abbrev pub IsOfSecondVersion : List ℕ → Type 0
IsOfSecondVersion image = (gate : HasOpenGate image) × (gate.version ≡ Second)

pub record IsForeign (image : List ℕ) : Type 0 where
  pub not_blank : IsBlank image → ⊥
  pub not_sealed : (head : Header) → IsSealed head image → ⊥
  pub not_journal : HasOpenGate image → ⊥

-- ---- the faults of opening, and their places

-- the first place at which a text differs from both magics, or at which it ends before they do
abbrev pub magic_difference : List ℕ → ℕ
magic_difference text = max (first_difference (magic First) text) (first_difference (magic Second) text)

-- 0 where the first byte is not 1, else the first place in 1..=8 whose byte is missing, or fits the magic of neither version
pub record IsForeignAt (image : List ℕ) (at : ℕ) : Type 0 where
  pub foreign : IsForeign image
  pub place : ((get_or image 0 0 ≢ 1) × (at ≡ 0)) ⊎ ((get_or image 0 0 ≡ 1) × (at ≡ 1 + magic_difference (drop 1 image)))

-- the length of its text is too great, or the image ends before the gate after the text
pub record HasBadHeader (image : List ℕ) (at : ℕ) : Type 0 where
  pub journal : HasOpenGate image
  pub no_header : (head : Header) → HasHeader head image → ⊥
  pub place : at ≡ 9

-- ---- what an image keeps

-- A creation that a crash has cut, or that was not begun. It keeps no record. A blank image becomes a journal of the second version,
-- and a sealed one keeps its own.
pub record IsUnfinished (head : Header) (image : List ℕ) : Type 0 where
  pub unfinished : (IsBlank image × (head.version ≡ Second)) ⊎ IsSealed head image
  pub few : length image ≤ MOST_UNFINISHED

-- the image is a journal with this header that keeps these records, or the unfinished creation of one, which keeps none
abbrev pub Keeps : Header → ℕ → List Record → List ℕ → Type 0
Keeps head limit records image = IsJournal head limit records image ⊎ ((records ≡ []) × IsUnfinished head image)

-- The same with some header, where the last text is this one. An unfinished creation has no text but the header's.
pub record KeepsOf (text : List ℕ) (limit : ℕ) (records : List Record) (image : List ℕ) : Type 0 where
  pub head : Header
  pub last : HasLastText head records text
  pub keeps : Keeps head limit records image
