-- A file that keeps an image, as a station calls it.
use Rattle.std.specs.Prelude.{◌≡◌, ℕ, Bool, List, Option, Some, None, ⊤}
use Rattle.std.specs.declared.fs.File.{File}

-- What each call did: a relation of the file before it and the file after it, and of what the call answered. Code that is
-- generic over files can show a relation only by that one call.
pub record FileMeanings (F : Type 0) : Type 1 where
  -- the length was asked for: this one was answered, or the call failed
  pub measured : F → F → Option ℕ → Type 0
  -- from this place on a room was filled, which now holds these bytes; whether that was Ok
  pub read : F → F → ℕ → List ℕ → Bool → Type 0
  -- at this place these bytes were written; whether that was Ok
  pub wrote : F → F → ℕ → List ℕ → Bool → Type 0
  -- the file was synced; whether that was Ok
  pub synced : F → F → Bool → Type 0
  -- the exclusive lock was asked for; whether the file has it
  pub locked : F → F → Bool → Type 0

-- A real file tells nothing of a call but that it is the same file.
abbrev pub real_file : FileMeanings File
real_file = record {
  measured = λ old new answer. new ≡ old;
  read = λ old new at into ok. new ≡ old;
  wrote = λ old new at bytes ok. new ≡ old;
  synced = λ old new ok. new ≡ old;
  locked = λ old new ok. new ≡ old;
}

-- the one call that was made on the file, where there is a file, which is still there
abbrev pub CallsFile : {F : Type 0} → Option F → Option F → (F → F → Type 0) → Type 0
CallsFile None None Call = ⊤
CallsFile None (Some new) Call = ⊥
CallsFile (Some old) None Call = ⊥
CallsFile (Some old) (Some new) Call = Call old new
