use Rattle.std.proofs.Common.{◌≡◌, ℕ, ◌-◌, ◌<◌, min, true, false, length, Err, refl, sym, ap, subst, ◌∙◌, arith}
use Rattle.std.specs.Prelude.{◌==◌, is_some}
use Rattle.std.proofs.lemmas.Bool.{eqb-true, eqb-false}
use Rattle.level_feed.specs.Lines.{listing_of}
use Rattle.feed_reader.specs.declared.feed.TheConstants.{MOST_FEED}
use Rattle.feed_reader.specs.declared.unread.Unread.TheVariants.{ReadFault}
use Rattle.feed_reader.specs.Feeds.{ReadsFeed}
use Rattle.feed_reader.specs.Inner.{Place}
use Rattle.feed_reader.proofs.Turns.{read-failed, read-broken, read-too-long, read-on, read-cut-block, read-cut-line, read-no-snapshot, read-whole}
use Rattle.feed_reader.proofs.WholeFeeds.{feed-read}
use Rattle.feed_reader.proofs.feed.read_feed.Goals as goal

-- a length that was compared with 0
some-length : (n k : ℕ) → n ≡ k → false ≡ (n == 0) → 0 < k
some-length n k e f = let some = eqb-false n 0 (sym f) in omega (arith, some)

no-length : (n k : ℕ) → n ≡ k → true ≡ (n == 0) → k ≡ 0
no-length n k e f = sym e ∙ eqb-true n 0 (sym f)

pub returns-in-Err-clause-reads : goal.returns-in-Err-clause-reads
returns-in-Err-clause-reads g c =
    let m = g.I.Source.meanings in
    let listing = listing_of c.args.product.now in
    subst (λ (n : ℕ). ReadsFeed m listing c.args.input.now c.read.new.self c.reads.table (Err (ReadFault n))) (sym c.count.ensures)
    (read-failed m listing c.args.input.now c.reads.input c.read.new.self c.reads.table.table c.reads.reading c.reads.invariant.reading c.read.new.into c.in-Err.field-0 c.reads.table c.in-Err.ensures.takes)

pub returns-in-Err-take-clause-reads : goal.returns-in-Err-take-clause-reads
returns-in-Err-take-clause-reads g c =
    let n = c.in-Ok.count in
    let most = c.min-most.ensures ∙ ap (λ (k : ℕ). min n (MOST_FEED - k)) c.count-in-reads.ensures in
    read-broken g.I.Source.meanings (listing_of c.args.product.now) c.args.input.now c.reads.input c.read.new.self c.reads.table.table c.reads.reading c.reads.invariant.reading c.read.new.into n c.min-most.result c.in-Ok.ensures.takes most
    c.in-Err-take.broken c.take.new.table c.in-Err-take.ensures.err

pub returns-then-most-count-clause-reads : goal.returns-then-most-count-clause-reads
returns-then-most-count-clause-reads g c =
    let n = c.in-Ok.count in
    let most = c.min-most.ensures ∙ ap (λ (k : ℕ). min n (MOST_FEED - k)) c.count-in-reads.ensures in
    read-too-long g.I.Source.meanings (listing_of c.args.product.now) c.args.input.now c.reads.input c.read.new.self c.reads.table.table c.reads.reading c.reads.invariant.reading c.read.new.into n c.min-most.result c.in-Ok.ensures.takes most
    c.take.new.table.table c.take.new.self c.in_default.ensures.ok c.take.new.table c.if-most-count.true

pub reads-preserved : goal.reads-preserved
reads-preserved g c =
    let n = c.in-Ok.count in
    let most = c.min-most.ensures ∙ ap (λ (k : ℕ). min n (MOST_FEED - k)) c.count-in-reads.ensures in
    record {
      reading = read-on g.I.Source.meanings (listing_of c.args.product.now) c.args.input.now c.reads.input c.read.new.self c.reads.table.table c.reads.reading c.reads.invariant.reading c.read.new.into n c.min-most.result c.in-Ok.ensures.takes
          most c.take.new.table.table c.take.new.self c.in_default.ensures.ok c.if-most-count.false;
      capacity = c.in_default.ensures.capacity ∙ c.reads.invariant.capacity;
    }

pub returns-then-inside-clause-reads : goal.returns-then-inside-clause-reads
returns-then-inside-clause-reads g c =
    read-cut-block g.I.Source.meanings (listing_of c.args.product.now) c.args.input.now c.reads.input c.read.new.self c.reads.table.table c.reads.reading c.reads.invariant.reading c.read.new.into c.in-Ok.count c.in-Ok.ensures.takes
    c.if-count-eq0.true c.reads.table c.reading.inside.block (ap (λ (p : Place). p.block) c.reading.view_is) (sym c.if-inside.ensures)

pub returns-then-not-is_empty-clause-reads : goal.returns-then-not-is_empty-clause-reads
returns-then-not-is_empty-clause-reads g c =
    let kept = ap (λ (p : Place). length p.kept) c.reading.view_is in
    read-cut-line g.I.Source.meanings (listing_of c.args.product.now) c.args.input.now c.reads.input c.read.new.self c.reads.table.table c.reads.reading c.reads.invariant.reading c.read.new.into c.in-Ok.count c.in-Ok.ensures.takes
    c.if-count-eq0.true c.reads.table c.reading.inside.at (ap (λ (p : Place). p.at) c.reading.view_is) (sym c.if-inside.ensures) (some-length _ _ kept c.if-not-is_empty.ensures)

pub returns-then-is_none-clause-reads : goal.returns-then-is_none-clause-reads
returns-then-is_none-clause-reads g c =
    let kept = ap (λ (p : Place). length p.kept) c.reading.view_is in
    read-no-snapshot g.I.Source.meanings (listing_of c.args.product.now) c.args.input.now c.reads.input c.read.new.self c.reads.table.table c.reads.reading c.reads.invariant.reading c.read.new.into c.in-Ok.count c.in-Ok.ensures.takes
    c.if-count-eq0.true c.reads.table (sym c.if-inside.ensures) (no-length _ _ kept c.if-not-is_empty.ensures) (ap is_some (sym c.number.ensures) ∙ c.if-is_none.ensures)

pub returns-clause-reads : goal.returns-clause-reads
returns-clause-reads g c =
    let kept = ap (λ (p : Place). length p.kept) c.reading.view_is in
    read-whole g.I.Source.meanings (listing_of c.args.product.now) c.args.input.now c.reads.input c.read.new.self c.reads.table.table c.reads.reading c.reads.invariant.reading c.read.new.into c.in-Ok.count c.in-Ok.ensures.takes
    c.if-count-eq0.true c.reads.table refl (sym c.if-inside.ensures) (no-length _ _ kept c.if-not-is_empty.ensures) (ap is_some (sym c.number.ensures) ∙ c.if-is_none.ensures)

-- ---- by the bytes of the whole input

pub returns-in-Err-take-clause-whole : goal.returns-in-Err-take-clause-whole
returns-in-Err-take-clause-whole g c all known = feed-read _ _ _ _ _ _ all (returns-in-Err-take-clause-reads g c) known

pub returns-then-most-count-clause-whole : goal.returns-then-most-count-clause-whole
returns-then-most-count-clause-whole g c all known = feed-read _ _ _ _ _ _ all (returns-then-most-count-clause-reads g c) known

pub returns-then-inside-clause-whole : goal.returns-then-inside-clause-whole
returns-then-inside-clause-whole g c all known = feed-read _ _ _ _ _ _ all (returns-then-inside-clause-reads g c) known

pub returns-then-not-is_empty-clause-whole : goal.returns-then-not-is_empty-clause-whole
returns-then-not-is_empty-clause-whole g c all known = feed-read _ _ _ _ _ _ all (returns-then-not-is_empty-clause-reads g c) known

pub returns-then-is_none-clause-whole : goal.returns-then-is_none-clause-whole
returns-then-is_none-clause-whole g c all known = feed-read _ _ _ _ _ _ all (returns-then-is_none-clause-reads g c) known

pub returns-clause-whole : goal.returns-clause-whole
returns-clause-whole g c all known = feed-read _ _ _ _ _ _ all (returns-clause-reads g c) known
