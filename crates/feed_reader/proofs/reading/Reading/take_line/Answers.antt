use Rattle.std.proofs.Common.{◌≡◌, ◌+◌, cond, [], ◌∷◌, ◌++◌, length, sym, ap, subst, ◌∙◌, arith, length-append}
use Rattle.std.proofs.lemmas.Bool.{cond-true, cond-false}
use Rattle.level_feed.specs.Lines.{listing_of}
use Rattle.level_feed.specs.Tables.{is_inside}
use Rattle.feed_reader.specs.declared.reading.Reading.TheInside.{Inside}
use Rattle.feed_reader.specs.Inner.{Place, IsFront, GoesOn, IsBrokenAt}
use Rattle.feed_reader.proofs.GoingOn.{behind_line, place-is, line-goes, line-breaks}
use Rattle.feed_reader.proofs.reading.Reading.take_line.Goals as goal
use Rattle.feed_reader.proofs.reading.Reading.take_line.Goals.{then-begins_block, else-begins_block}

pub returns-in-Err-clause-err : goal.returns-in-Err-clause-err
returns-in-Err-clause-err c =
    let listing = listing_of c.args.product.now in
    let table = c.args.table.now.table in
    let bytes = c.args.bytes.now in
    let inside = c.self.inside in
    let place : Place = record { block = inside.block; at = inside.at; kept = inside.kept.items } in
    let is : place ≡ c.args.self.now = c.self.view_is in
    let front : IsFront place.kept = subst (λ (p : Place). IsFront p.kept) (sym is) c.requires.front in
    subst (λ (p : Place). IsBrokenAt listing table p (bytes ++ 10 ∷ []) (record { at = inside.at; fault = c.in-Err.fault })) is
    (line-breaks listing table place bytes c.in-Err.fault front c.requires.one_line c.in-Err.ensures.took)

pub returns-clause-ok : goal.returns-clause-ok
returns-clause-ok c =
    let listing = listing_of c.args.product.now in
    let table = c.args.table.now.table in
    let bytes = c.args.bytes.now in
    let inside = c.self.inside in
    let behind = c.if-begins_block.self-inside in
    let place : Place = record { block = inside.block; at = inside.at; kept = inside.kept.items } in
    let is : place ≡ c.args.self.now = c.self.view_is in
    let front : IsFront place.kept = subst (λ (p : Place). IsFront p.kept) (sym is) c.requires.front in
    let now : Place = record { block = behind.block; at = behind.at + (c.len.result + length bytes + 1); kept = behind.kept.items } in
    let goes = λ (e : now ≡ behind_line table place bytes). subst (λ (p : Place). GoesOn listing table p (bytes ++ 10 ∷ []) c.take_text.new.table.table now) is (line-goes listing table c.take_text.new.table.table place now bytes front c.requires.one_line c.in_default.ensures.took e) in
    elim c.if-begins_block.branch [
      | then-begins_block w ↦ goes
          (place-is now (cond (is_inside table) inside.block inside.at) (inside.at + length (inside.kept.items ++ bytes) + 1) []
          (ap (λ (i : Inside). i.block) w.self-inside-is ∙ sym (cond-false (is_inside table) inside.block inside.at (sym w.if-begins_block.ensures)))
          (omega (arith, ap (λ (i : Inside). i.at) w.self-inside-is, c.len.ensures.value, length-append inside.kept.items bytes))
          (ap (λ (i : Inside). i.kept.items) w.self-inside-is ∙ c.in_default.ensures.kept))
      | else-begins_block w ↦ goes
          (place-is now (cond (is_inside table) inside.block inside.at) (inside.at + length (inside.kept.items ++ bytes) + 1) []
          (ap (λ (i : Inside). i.block) w.self-inside-is ∙ sym (cond-true (is_inside table) inside.block inside.at (sym w.if-begins_block.ensures)))
          (omega (arith, ap (λ (i : Inside). i.at) w.self-inside-is, c.len.ensures.value, length-append inside.kept.items bytes))
          (ap (λ (i : Inside). i.kept.items) w.self-inside-is ∙ c.in_default.ensures.kept))
    ]
