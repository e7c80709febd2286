-- The two kinds of images that a journal has: those of now, and those of the old form, which have no session (our own rules). An
-- amendment has an image of now within its payload.
use Rattle.std.specs.Prelude.{ℕ, ◌-◌, ◌==◌, if◌then◌else◌, List, length, take}
use Rattle.gx_base.specs.declared.trading.Trading.{Trading}
use Rattle.gx_base.specs.declared.trading.Trading.TheVariants.{Open, Closed}
use Rattle.match_journal.specs.declared.entry.EntryKind.{EntryKind}
use Rattle.match_journal.specs.declared.entry.EntryKind.TheVariants.{Frames, OldImage, Image, Amendment}
use Rattle.book_image.specs.Rows.{byte_at}

-- the bytes of the old form: of an image of now all but the last byte
abbrev pub part_of : EntryKind → List ℕ → List ℕ
part_of Image payload = take (length payload - 1) payload
part_of OldImage payload = payload
part_of Frames payload = payload
part_of Amendment payload = payload

-- the byte of the session: the last one, and 1 for the old form, which is of an open market
abbrev pub session_of : EntryKind → List ℕ → ℕ
session_of Image payload = byte_at payload (length payload - 1)
session_of OldImage payload = 1
session_of Frames payload = 1
session_of Amendment payload = 1

-- the session that a byte is read as, whether the byte is right or not
abbrev pub trading_of : ℕ → Trading
trading_of byte = if byte == 0 then Closed else Open
