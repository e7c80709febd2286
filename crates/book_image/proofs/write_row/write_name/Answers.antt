use Rattle.std.proofs.Common.{List, ℕ, subst}
use Rattle.book_image.specs.Inner.Writing.{Appends, name_bytes}
use Rattle.book_image.proofs.WriteNames.{name-written}
use Rattle.book_image.proofs.write_row.write_name.Goals as goal

pub returns : goal.returns
returns c =
    subst (λ (id : List ℕ). Appends c.args.into.now c.write_bytes.new.into c.args.at c.write_bytes.result 25 (name_bytes id)) c.bytes-bytes.ensures.bytes
    (name-written c.bytes-bytes.result.now c.bytes-bytes.ensures.name c.write_bytes-at.ensures c.write_bytes-at-2.ensures c.write_bytes.ensures)
