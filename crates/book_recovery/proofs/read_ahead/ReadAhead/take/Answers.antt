use Rattle.std.proofs.Common.{◌≡◌, ◌+◌, ◌-◌, ◌++◌, List, ℕ, length, take, drop, refl, ◌∙◌, ap, arith, append-nil, length-drop}
use Rattle.std.proofs.lemmas.List.{length-take-le}
use Rattle.std.specs.Box.{boxed_slice_items}
use Rattle.book_recovery.proofs.Ahead.{block_bytes, copied_bytes, joined_bytes, no_post, ok_then}
use Rattle.book_recovery.proofs.read_ahead.ReadAhead.take.Goals as goal

pub returns-then-have-into-clause-bytes : goal.returns-then-have-into-clause-bytes
returns-then-have-into-clause-bytes g c = λ image read.
    let ahead = c.args.self.now in
    copied_bytes c.copy-have.new.into (boxed_slice_items ahead.block) image ahead.count ahead.at c.args.place c.copy-have.result (length c.args.into.now) c.args.place c.copy-have.ensures.bytes (c.requires.ahead.bytes image read) c.requires.ahead.begins
    (omega (arith, c.copy-have.ensures.count, c.requires.ahead.begins, c.requires.ahead.ready)) c.copy-have.ensures.size (omega (arith, c.if-have-into.true, c.copy-have.ensures.size)) refl

pub returns-clause-bytes : goal.returns-clause-bytes
returns-clause-bytes g c = ok_then c.take_more.result (λ told image read.
    let ahead = c.args.self.now in
    let have = c.copy-have.result in
    let few : have + c.args.place ≡ ahead.at + ahead.count = omega (arith, c.copy-have.ensures.count, c.copy-have.ensures.size, c.if-have-into.false, c.requires.ahead.ready) in
    let none = no_post c.copy-have.new.into have (omega (arith, c.copy-have.ensures.count, c.copy-have.ensures.size)) in
    let first = c.copy-have.ensures.bytes ∙ block_bytes (boxed_slice_items ahead.block) image ahead.count ahead.at c.args.place have (c.requires.ahead.bytes image read) c.requires.ahead.begins
    (omega (arith, c.copy-have.ensures.count, c.requires.ahead.begins, c.requires.ahead.ready)) in
    ap (λ (l : List ℕ). take have c.copy-have.new.into ++ (c.take_more.new.into ++ l)) none
    ∙ ap (λ (l : List ℕ). take have c.copy-have.new.into ++ l) (append-nil c.take_more.new.into)
    ∙ joined_bytes (take have c.copy-have.new.into) c.take_more.new.into image have (length c.args.into.now) _ c.args.place (ahead.at + ahead.count) first (told image read)
    (length-take-le (length c.copy-have.new.into - have) (drop have c.copy-have.new.into) (omega (arith, length-drop have c.copy-have.new.into)) ∙ ap (λ n. n - have) c.copy-have.ensures.size)
    (omega (arith, c.copy-have.ensures.count)) (omega (arith, few)))
    c.take_more.ensures.bytes
