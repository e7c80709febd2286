-- What a call writes after the first bytes of a room.
use Rattle.std.specs.Prelude.{◌≡◌, ℕ, ◌+◌, ◌*◌, List, [], ◌∷◌, ◌++◌, flat_map, length, take}
use Rattle.gx_base.specs.declared.order.Order.{Order}
use Rattle.plain_book.specs.declared.entry.Entry.{Entry}
use Rattle.book_image.specs.declared.format.TheConstants.{ROW_BYTES}
use Rattle.book_image.specs.Rows.{padded, side_byte, order_kind_byte, life_byte}
use Rattle.book_image.specs.Image.{entry_row}

-- After the first bytes, up to a place, these were written: so many, up to their end. The room is as large as before.
pub record Appends (old new : List ℕ) (place end count : ℕ) (bytes : List ℕ) : Type 0 where
  pub written : take end new ≡ take place old ++ bytes
  pub ends : end ≡ place + count
  pub size : length new ≡ length old

-- the rows of some orders
abbrev pub AppendsRows : List ℕ → List ℕ → ℕ → ℕ → List Entry → Type 0
AppendsRows old new place end es = Appends old new place end (ROW_BYTES * length es) (flat_map entry_row es)

-- ---- the parts of a row

abbrev pub name_bytes : List ℕ → List ℕ
name_bytes id = length id ∷ padded id

abbrev pub mark_bytes : Order → List ℕ
mark_bytes o = o.firm ∷ o.instrument ∷ side_byte o.side ∷ order_kind_byte o.kind ∷ life_byte o.life ∷ []
