-- The exclusive lock of a file.
use Rattle.std.specs.Prelude.{true, false, Option, Some, None}
use Rattle.gx_station.specs.ImageFiles.{FileMeanings}

-- the file has its lock, and is handed on; or it was asked for in vain
abbrev pub IsLocked : {F : Type 0} → FileMeanings F → F → Option F → Type 0
IsLocked m file (Some locked) = m.locked file locked true
IsLocked {F} m file None = (refused : F) × m.locked file refused false
