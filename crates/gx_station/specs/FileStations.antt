-- The adapter to a file and a stream. It tells nothing of their content, and so it is not honest: what a file keeps after a
-- crash no clause can say. Its clauses say which calls it made of them.
use Rattle.std.specs.Prelude.{ℕ, List, take, Option, None}
use Rattle.std.specs.Io.KnownBytes.{Appends}
use Rattle.gx_station.specs.Stations.{StationMeanings}
use Rattle.gx_station.specs.Honest.{IsHonestNow}
use Rattle.gx_station.specs.declared.file_station.FileStation.{FileStation}

abbrev pub file_of : {F W : Type 0} → FileStation F W → Option F
file_of s = s.file

abbrev pub writer_of : {F W : Type 0} → FileStation F W → W
writer_of s = s.out

abbrev pub reach_of : {F W : Type 0} → FileStation F W → ℕ
reach_of s = s.reach

abbrev pub store_faults_of : {F W : Type 0} → FileStation F W → ℕ
store_faults_of s = s.store_faults

abbrev pub send_faults_of : {F W : Type 0} → FileStation F W → ℕ
send_faults_of s = s.send_faults

-- the counts and the reach are told, and nothing else
abbrev pub file_meanings : {F W : Type 0} → StationMeanings (FileStation F W)
file_meanings = record {
  sent = λ _. None;
  send_faults = send_faults_of;
  holds = λ _. None;
  bytes_read = λ _. None;
  store_faults = store_faults_of;
  reach = reach_of;
  time = λ _. 0;
  is_honest = λ _. ⊥;
  may_leave = λ _ _. Unit {0};
  left_since = λ _ _ _ _. Unit {0};
}

pub file_honest : {F W : Type 0} → (s : FileStation F W) → ⊥ → IsHonestNow file_meanings s
file_honest s none = absurd none

-- the bytes that a writer holds, where it tells them, stay and grow by a front of these
abbrev pub AppendsFront : Option (List ℕ) → Option (List ℕ) → List ℕ → Type 0
AppendsFront old new bytes = (count : ℕ) × Appends old new (take count bytes)
