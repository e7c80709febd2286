-- What an honest station owes: its image is kept by a disk that does as `Disk` says, and its output only grows. To be honest
-- is a fact of a station that each of its calls keeps (`AddsOnly`). The rules are these (our own, after what POSIX and disks
-- give):
--
-- 1. At each moment image and output are told. What a read gives is one of the images that a crash now could leave. Since
--    the present time there are just the pairs of such an image and what was sent (`IsHonestNow`).
-- 2. Time never falls, and a pair that could once be left since some time stays one (`AddsOnly`).
-- 3. `length` and `read` add no image and no output (`KeepsImage`), and settle nothing: what a crash could leave, it still
--    can (`Measures`, `Reads`).
-- 4. A write, Ok or Failed, adds images that are one from before, torn in the written range, with what was sent as their
--    output (`TearsImage`).
-- 5. A sync, Ok or Failed, adds no image and no output (`KeepsImage`). After one that is Ok a crash leaves just what a
--    read gives (`IsSettled`).
-- 6. A send changes no image, and adds the present images with each output from the one before it to the one after it, and
--    no other pair (`Quiet`, `PassesOutputs`).
use Rattle.std.specs.Prelude.{◌≡◌, ℕ, ◌≤◌, List, length, Some}
use Rattle.gx_station.specs.Disk.{Torn}
use Rattle.gx_station.specs.Stations.{StationMeanings, IsBetween}
use Rattle.gx_station.specs.Moments.{AddsOnly}

module _ {S : Type 0} (m : StationMeanings S) where
  -- rule 1, and that the image is no shorter than the station's reach
  pub record IsHonestNow (s : S) : Type 0 where
    pub known_image : (image : List ℕ) × (m.holds s ≡ Some image)
    pub known_output : (out : List ℕ) × (m.sent s ≡ Some out)
    pub reaches : (image : List ℕ) → m.holds s ≡ Some image → m.reach s ≤ length image
    pub as_read : (image : List ℕ) → m.holds s ≡ Some image → m.may_leave s image
    pub counts_now : (t : ℕ) (image out : List ℕ) → t ≤ m.time s → m.may_leave s image → m.sent s ≡ Some out → m.left_since s t image out
    pub only_now : (image out : List ℕ) → m.left_since s (m.time s) image out → m.may_leave s image × (m.sent s ≡ Some out)

  -- nothing is pending: a crash leaves just what a read gives
  abbrev pub IsSettled : S → Type 0
  IsSettled s = (image : List ℕ) → m.may_leave s image → m.holds s ≡ Some image

  -- rules 3 and 5: a read gives the same image, and no image and no output was added
  pub record KeepsImage (old new : S) : Type 0 where
    pub holds : m.holds new ≡ m.holds old
    pub images : m.is_honest old → (image : List ℕ) → m.may_leave new image → m.may_leave old image
    pub moments : AddsOnly m old new (λ image out. ⊥)

  -- rule 4: a write of n bytes, done or failed
  pub record TearsImage (old new : S) (at n : ℕ) : Type 0 where
    pub images : m.is_honest old → (image : List ℕ) → m.may_leave new image → (before : List ℕ) × m.may_leave old before × Torn at n before image
    pub images_stay : m.is_honest old → (image : List ℕ) → m.may_leave old image → m.may_leave new image
    pub moments : AddsOnly m old new (λ image out. m.may_leave new image × (m.sent old ≡ Some out))

  -- rule 6: on the way a crash could leave each output from the one before to the one after
  pub record PassesOutputs (old new : S) : Type 0 where
    pub passes : m.is_honest old → (t : ℕ) (image out : List ℕ) → t ≤ m.time old → m.may_leave old image → IsBetween (m.sent old) out (m.sent new) → m.left_since new t image out
