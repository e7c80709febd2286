-- Streams of bytes, as the adapters call them.
use Rattle.std.specs.Prelude.{◌≡◌, ◌≢◌, ◌⊎◌, ℕ, zero, suc, ◌+◌, ◌≤◌, Bool, true, false, List, length, drop, Option, Result, Ok, Err}
use Rattle.std.specs.IoError.{error_kind}
use Rattle.std.specs.declared.io.Error.{Error}
use Rattle.std.specs.declared.io.ErrorKind.{ErrorKind}
use Rattle.std.specs.declared.io.ErrorKind.TheVariants.{Interrupted}
use Rattle.gx_station.specs.declared.count.TheConstants.{LAST_COUNT}

-- what a call answered, with the kind of its error
abbrev pub answer_of : {T : Type 0} → Result T Error → Result T ErrorKind
answer_of (Ok x) = Ok x
answer_of (Err e) = Err (error_kind e)

-- What each call did, as a relation of the stream before it and the stream after it.
pub record InputMeanings (R : Type 0) : Type 1 where
  -- the bytes that are left, where that is told
  pub left : R → Option (List ℕ)
  -- a room was read into, which now holds these bytes; what was answered
  pub read : R → R → List ℕ → Result ℕ ErrorKind → Type 0

pub record OutputMeanings (W : Type 0) : Type 1 where
  -- the bytes that were taken, where that is told
  pub holds : W → Option (List ℕ)
  -- these bytes were offered; what was answered
  pub wrote : W → W → List ℕ → Result ℕ ErrorKind → Type 0
  -- the stream was flushed; whether that was Ok
  pub flushed : W → W → Bool → Type 0

-- ---- a read that is tried again where it was interrupted

module _ {R : Type 0} (m : InputMeanings R) where
  -- so many reads, and each of them was interrupted
  abbrev pub WasInterrupted : ℕ → R → R → Type 0
  WasInterrupted zero old new = new ≡ old
  WasInterrupted (suc tries) old new = (mid : R) × (into : List ℕ) × WasInterrupted tries old mid × m.read mid new into (Err Interrupted)

  -- The last read, after so many that were interrupted: an Ok is its own answer. An error comes of an error that is no
  -- interruption, or where the tries are used up.
  abbrev pub ReadEnds : {F : Type 0} → ℕ → R → R → List ℕ → Result ℕ F → Type 0
  ReadEnds tries mid new into (Ok n) = m.read mid new into (Ok n)
  ReadEnds tries mid new into (Err e) =
      ((kind : ErrorKind) × (kind ≢ Interrupted) × m.read mid new into (Err kind))
      ⊎ ((new ≡ mid) × (LAST_COUNT ≤ tries))

  -- interrupted reads, and the last one
  pub record ReadsOnce {F : Type 0} (old new : R) (into : List ℕ) (result : Result ℕ F) : Type 0 where
    pub tries : ℕ
    pub mid : R
    pub interrupted : WasInterrupted tries old mid
    pub ends : ReadEnds tries mid new into result

-- ---- a send: writes until all is taken, and then a flush

module _ {W : Type 0} (m : OutputMeanings W) where
  -- a write after which the send goes on: it took so many of these bytes, or none where it was interrupted
  abbrev pub Advances : W → W → List ℕ → ℕ → Type 0
  Advances old new bytes zero = m.wrote old new bytes (Err Interrupted)
  Advances old new bytes (suc n) = m.wrote old new bytes (Ok (suc n))

  -- an answer after which no write follows: none was taken, or an error that is no interruption
  abbrev pub IsLastAnswer : Result ℕ ErrorKind → Type 0
  IsLastAnswer (Ok n) = n ≡ 0
  IsLastAnswer (Err kind) = kind ≢ Interrupted

  -- a write that ends the send
  abbrev pub IsLastWrite : W → W → List ℕ → Type 0
  IsLastWrite old new bytes = (answer : Result ℕ ErrorKind) × IsLastAnswer answer × m.wrote old new bytes answer

  -- so many writes took the first `count` of the bytes, each from where the one before it ended
  abbrev pub IsTaken : ℕ → W → W → List ℕ → ℕ → Type 0
  IsTaken zero old new bytes count = (new ≡ old) × (count ≡ 0)
  IsTaken (suc tries) old new bytes count =
      (mid : W) × (before : ℕ) × (more : ℕ) × IsTaken tries old mid bytes before
      × Advances mid new (drop before bytes) more × (count ≡ before + more)

  -- so many writes took all of the bytes
  abbrev pub AreTaken : W → W → List ℕ → Type 0
  AreTaken old new bytes = (tries : ℕ) × IsTaken tries old new bytes (length bytes)

  -- The last call, after writes that took `count` of the bytes: an Ok comes of a flush that was Ok, once all are taken. An
  -- error comes of a flush that failed, of a write that took none or failed, or where the tries are used up.
  abbrev pub SendEnds : {T F : Type 0} → ℕ → W → W → List ℕ → ℕ → Result T F → Type 0
  SendEnds tries mid new bytes count (Ok x) = (count ≡ length bytes) × m.flushed mid new true
  SendEnds tries mid new bytes count (Err e) =
      ((count ≡ length bytes) × m.flushed mid new false)
      ⊎ (IsLastWrite mid new (drop count bytes) ⊎ ((new ≡ mid) × (LAST_COUNT ≤ tries)))

  -- writes, and the last call
  pub record SendsOnce {T F : Type 0} (old new : W) (bytes : List ℕ) (result : Result T F) : Type 0 where
    pub tries : ℕ
    pub mid : W
    pub count : ℕ
    pub taken : IsTaken tries old mid bytes count
    pub ends : SendEnds tries mid new bytes count result
