use Rattle.std.proofs.Common.{List, ℕ, [], ◌∷◌, ◌++◌, sym, subst, ◌∙◌}
use Rattle.std.proofs.lemmas.Result.{err_from_is_err_and}
use Rattle.level_feed.specs.Lines.{listing_of}
use Rattle.feed_reader.specs.Inner.{IsBrokenAt}
use Rattle.feed_reader.proofs.GoingOn.{line-gone, goes-then, breaks-then, breaks-more, rest-goes, rest-breaks}
use Rattle.feed_reader.proofs.reading.Reading.take.Goals as goal

pub returns-in_err-take_line-clause-err : goal.returns-in_err-take_line-clause-err
returns-in_err-take_line-clause-err c =
    let listing = listing_of c.args.product.now in
    let loop = c.loop-line.invariant in
    let line = c.in-Some.line.now in
    let broken = c.in_err-take_line.field-0.0 in
    let whole = line-gone c.args.bytes.now loop.gone c.loop-line.rest.now line c.in-Some.behind.now loop.whole c.in-Some.ensures.whole in
    let breaks = breaks-then listing c.args.table.now.table c.args.self.now loop.gone c.loop-line.table.table c.loop-line.self (line ++ 10 ∷ []) broken loop.goes c.in_err-take_line.ensures.err in
    let p = err_from_is_err_and c.from_residual.result c.from_residual.ensures.1 in
    rw (p.1, p.2)
    (subst (λ (text : List ℕ). IsBrokenAt listing c.args.table.now.table c.args.self.now text broken) (sym whole)
    (breaks-more listing c.args.table.now.table c.args.self.now (loop.gone ++ (line ++ 10 ∷ [])) c.in-Some.behind.now broken breaks))

pub loop-line-preserved : goal.loop-line-preserved
loop-line-preserved c =
    let loop = c.loop-line.invariant in
    let line = c.in-Some.line.now in
    record {
      gone = loop.gone ++ (line ++ 10 ∷ []);
      whole = line-gone c.args.bytes.now loop.gone c.loop-line.rest.now line c.in-Some.behind.now loop.whole c.in-Some.ensures.whole;
      goes = goes-then (listing_of c.args.product.now) c.args.table.now.table c.args.self.now loop.gone c.loop-line.table.table c.loop-line.self (line ++ 10 ∷ []) c.take_line.new.table.table c.take_line.new.self loop.goes
          c.in_ok-take_line.ensures.ok;
      capacity = c.in_ok-take_line.ensures.capacity ∙ loop.capacity;
    }

pub returns-clause-err : goal.returns-clause-err
returns-clause-err c =
    let loop = c.loop-line.invariant in
    rest-breaks (listing_of c.args.product.now) c.args.table.now.table c.args.self.now c.args.bytes.now c.loop-line.table.table c.loop-line.self loop.gone c.loop-line.rest.now c.keep.result loop.whole loop.goes c.in_default.ensures.first
    c.keep.ensures.err c.keep.ensures.long

pub returns-clause-ok : goal.returns-clause-ok
returns-clause-ok c =
    let loop = c.loop-line.invariant in
    rest-goes (listing_of c.args.product.now) c.args.table.now.table c.args.self.now c.args.bytes.now c.loop-line.table.table c.loop-line.self c.keep.new.self loop.gone c.loop-line.rest.now c.keep.result loop.whole loop.goes c.in_default.ensures.first
    c.keep.ensures.ok c.keep.ensures.short
