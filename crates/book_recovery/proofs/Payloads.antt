-- The bytes of a payload: in the image, and in the memory that they were read into.
use Rattle.std.proofs.Common.{◌≡◌, ℕ, ◌+◌, ◌≤◌, List, ◌++◌, length, take, drop, ◌∙◌, arith, length-drop}
use Rattle.std.proofs.lemmas.List.{take-append-le, take_all, length-take-le}
use Rattle.match_journal.specs.Standing.{Fits}
use Rattle.match_journal.specs.declared.entry.Entry.{Entry}
use Rattle.book_recovery.specs.Inner.Replays.{payload_at}

pub payload-length : (image : List ℕ) (known limit : ℕ) (entry : Entry) → Fits known limit entry → length image ≡ known → length (payload_at image entry) ≡ entry.length
payload-length image known limit entry fits long =
    length-take-le entry.length (drop (entry.at + 6) image) (omega (arith, length-drop (entry.at + 6) image, fits.inside, long))

pub payload-inside : (image : List ℕ) (entry : Entry) (end : ℕ) → entry.at + 6 + entry.length ≤ end → end ≤ length image → length (payload_at image entry) ≡ entry.length
payload-inside image entry end inside long = length-take-le entry.length (drop (entry.at + 6) image) (omega (arith, length-drop (entry.at + 6) image, inside, long))

-- the front of the memory, once bytes were read into it
pub front_of : (bytes post : List ℕ) (n : ℕ) → length bytes ≡ n → take n (bytes ++ post) ≡ bytes
front_of bytes post n size = take-append-le n bytes post (omega (arith, size)) ∙ take_all n bytes (omega (arith, size))
