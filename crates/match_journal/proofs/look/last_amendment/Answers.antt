use Rattle.std.proofs.Common.{Ok, Err, subst, sym, ◌∙◌, ap, arith, ◌+◌, ◌*◌, length}
use Rattle.match_journal.specs.LookLaws.{reads_look, reads_then, reads_more}
use Rattle.match_journal.specs.BadRecords.{HasBadHeadAt}
use Rattle.match_journal.specs.declared.standing.Standing.{Standing}
use Rattle.match_journal.proofs.Heads.{opened_begins}
use Rattle.match_journal.proofs.Passing.{passes_amended, passes_other, passes_done, passes_bad, passes_few, walks_at, walks_same, fits_at, fits_longer, moved_on}
use Rattle.match_journal.proofs.look.last_amendment.Goals as goal

pub heads-preserved-in-Amendment : goal.heads-preserved-in-Amendment
heads-preserved-in-Amendment g c =
    let m = g.S.Station.meanings in
    let before = c.heads.invariant in
    let fits = fits_at c.heads.standing c.args.size c.heads.standing.known c.args.limit c.in-Ok-Some.field-0 c.in-Ok-Some.entry before.same c.in-Ok-Some.field-0-is c.in-Ok-Some.ensures.entry in
    record {
      reads = reads_look m _ _ _ 6 before.reads c.read_head.ensures.looks;
      passes = λ is. passes_amended m c.args.station.now c.args.size c.args.len.now c.args.limit c.heads.station c.read_head.new.station c.heads.standing.gate c.heads.last (before.passes is) c.read_head.ensures.looks c.in-Ok-Some.field-0 c.in-Ok-Some.entry c.in-Ok-Some.field-0-is c.in-Amendment.is (walks_same m c.heads.station c.args.len.now c.heads.standing.known c.args.limit c.heads.standing.gate (Ok c.in-Ok-Some.field-0) is (walks_at m c.heads.standing c.args.size c.heads.standing.known c.args.limit c.heads.station (Ok c.in-Ok-Some.field-0) before.same c.in-Ok-Some.ensures.walks));
      knows = before.knows;
      reach = omega (arith, c.read_head.ensures.reach, before.reach);
      faults = c.in-Ok-Some.ensures.none (λ e. cc e) ∙ before.faults;
      same = moved_on c.heads.standing c.args.size c.heads.standing.known c.args.limit _ before.same;
      grows = before.grows;
      inside = omega (arith, fits.0, fits.1.inside);
      len_is = before.len_is;
      fits = fits.1;
    }

pub heads-preserved-in-Frames : goal.heads-preserved-in-Frames
heads-preserved-in-Frames g c =
    let m = g.S.Station.meanings in
    let before = c.heads.invariant in
    let fits = fits_at c.heads.standing c.args.size c.heads.standing.known c.args.limit c.in-Ok-Some.field-0 c.in-Ok-Some.entry before.same c.in-Ok-Some.field-0-is c.in-Ok-Some.ensures.entry in
    record {
      reads = reads_look m _ _ _ 6 before.reads c.read_head.ensures.looks;
      passes = λ is. passes_other m c.args.station.now c.args.size c.args.len.now c.args.limit c.heads.station c.read_head.new.station c.heads.standing.gate c.heads.last (before.passes is) c.read_head.ensures.looks c.in-Ok-Some.field-0 c.in-Ok-Some.entry c.in-Ok-Some.field-0-is c.in-Frames.is (walks_same m c.heads.station c.args.len.now c.heads.standing.known c.args.limit c.heads.standing.gate (Ok c.in-Ok-Some.field-0) is (walks_at m c.heads.standing c.args.size c.heads.standing.known c.args.limit c.heads.station (Ok c.in-Ok-Some.field-0) before.same c.in-Ok-Some.ensures.walks));
      knows = before.knows;
      reach = omega (arith, c.read_head.ensures.reach, before.reach);
      faults = c.in-Ok-Some.ensures.none (λ e. cc e) ∙ before.faults;
      same = moved_on c.heads.standing c.args.size c.heads.standing.known c.args.limit _ before.same;
      grows = before.grows;
      inside = omega (arith, fits.0, fits.1.inside);
      len_is = before.len_is;
      fits = before.fits;
    }

-- the image is longer than it was: no image that a read gives has both lengths
pub heads-preserved : goal.heads-preserved
heads-preserved g c =
    let m = g.S.Station.meanings in
    let before = c.heads.invariant in
    record {
      reads = reads_look m _ _ _ 0 (reads_look m _ _ _ 6 before.reads c.read_head.ensures.looks) c.measured_again.ensures.looks;
      passes = λ is. absurd (omega (arith, is, before.grows, c.in-Ok.ensures.grows, c.if-known-standing.false));
      knows = λ image read long. c.in-Ok.ensures.stays image (c.read_head.ensures.looks.keeps.holds ∙ before.reads.looks.keeps.holds ∙ read) (long ∙ sym (before.knows image read long)) ∙ before.knows image read long;
      reach = c.in-Ok.ensures.reach;
      faults = c.in-Ok.ensures.none ∙ c.in-Err-Bad.ensures.none (λ e. cc e) ∙ before.faults;
      same = ap (λ (s : Standing). record s { known = c.in-Ok.known }) before.same;
      grows = omega (arith, before.grows, c.in-Ok.ensures.grows);
      inside = omega (arith, before.inside, c.in-Ok.ensures.grows);
      len_is = before.len_is;
      fits = fits_longer c.heads.last c.heads.standing.known c.in-Ok.known c.args.limit c.in-Ok.ensures.grows before.fits;
    }

pub returns-in-Ok-None-clause-heads : goal.returns-in-Ok-None-clause-heads
returns-in-Ok-None-clause-heads g c = λ head image read known gate headed second long.
    let m = g.S.Station.meanings in
    let before = c.heads.invariant in
    let is = before.knows image read known in
    passes_done m c.args.station.now c.args.size c.args.len.now c.args.limit c.heads.station c.read_head.new.station c.heads.standing.gate c.heads.last (before.passes is) c.read_head.ensures.looks c.in-Ok-None.field-0 c.in-Ok-None.field-0-is
    (walks_same m c.heads.station c.args.len.now c.heads.standing.known c.args.limit c.heads.standing.gate (Ok c.in-Ok-None.field-0) is (walks_at m c.heads.standing c.args.size c.heads.standing.known c.args.limit c.heads.station (Ok c.in-Ok-None.field-0) before.same c.in-Ok-None.ensures.walks)) head image read known second long (opened_begins head c.args.limit image gate headed c.requires.least)

pub returns-then-known-standing-clause-heads : goal.returns-then-known-standing-clause-heads
returns-then-known-standing-clause-heads g c = λ head image read known gate headed second long.
    let m = g.S.Station.meanings in
    let before = c.heads.invariant in
    let is = before.knows image read known in
    subst (HasBadHeadAt head c.args.limit image) (sym c.in-Err-Bad.at-is)
    (passes_bad m c.args.station.now c.args.size c.args.len.now c.args.limit c.heads.station c.read_head.new.station c.heads.standing.gate c.heads.last (before.passes is) c.read_head.ensures.looks c.in-Err-Bad.field-0 c.in-Err-Bad.at c.in-Err-Bad.field-0-is
    (walks_same m c.heads.station c.args.len.now c.heads.standing.known c.args.limit c.heads.standing.gate (Err c.in-Err-Bad.field-0) is (walks_at m c.heads.standing c.args.size c.heads.standing.known c.args.limit c.heads.station (Err c.in-Err-Bad.field-0) before.same c.in-Err-Bad.ensures.walks)) head image read known second long (opened_begins head c.args.limit image gate headed c.requires.least))

pub returns-in-Ok-None-clause-reads : goal.returns-in-Ok-None-clause-reads
returns-in-Ok-None-clause-reads g c =
    let m = g.S.Station.meanings in
    let before = c.heads.invariant in
    reads_look m _ _ _ 6 before.reads c.read_head.ensures.looks

pub returns-in-Ok-None-clause-few_bytes : goal.returns-in-Ok-None-clause-few_bytes
returns-in-Ok-None-clause-few_bytes g c = λ head image records read known second long journal.
    let m = g.S.Station.meanings in
    let before = c.heads.invariant in
    passes_few m c.args.station.now c.args.size c.args.len.now c.args.limit c.heads.station c.read_head.new.station c.heads.standing.gate c.heads.last (before.passes (before.knows image read known)) c.read_head.ensures.looks head image records read known second long journal

pub returns-in-Err-Store-clause-reads : goal.returns-in-Err-Store-clause-reads
returns-in-Err-Store-clause-reads g c =
    let m = g.S.Station.meanings in
    let before = c.heads.invariant in
    reads_look m _ _ _ 6 before.reads c.read_head.ensures.looks

pub returns-in-Err-Store-clause-few_bytes : goal.returns-in-Err-Store-clause-few_bytes
returns-in-Err-Store-clause-few_bytes g c = λ head image records read known second long journal.
    let m = g.S.Station.meanings in
    let before = c.heads.invariant in
    passes_few m c.args.station.now c.args.size c.args.len.now c.args.limit c.heads.station c.read_head.new.station c.heads.standing.gate c.heads.last (before.passes (before.knows image read known)) c.read_head.ensures.looks head image records read known second long journal

pub returns-in-Err-Store-clause-reach : goal.returns-in-Err-Store-clause-reach
returns-in-Err-Store-clause-reach g c =
    let m = g.S.Station.meanings in
    let before = c.heads.invariant in
    omega (arith, before.len_is, before.grows, before.reach, c.read_head.ensures.reach)

pub returns-in-Err-Store-clause-grows : goal.returns-in-Err-Store-clause-grows
returns-in-Err-Store-clause-grows g c = omega (arith, c.heads.invariant.len_is)

pub returns-in-Err-Store-clause-stays : goal.returns-in-Err-Store-clause-stays
returns-in-Err-Store-clause-stays g c = λ image read long. c.heads.invariant.len_is

pub returns-in-Err-clause-reads : goal.returns-in-Err-clause-reads
returns-in-Err-clause-reads g c =
    let m = g.S.Station.meanings in
    let before = c.heads.invariant in
    reads_look m _ _ _ 0 (reads_look m _ _ _ 6 before.reads c.read_head.ensures.looks) c.measured_again.ensures.looks

pub returns-in-Err-clause-few_bytes : goal.returns-in-Err-clause-few_bytes
returns-in-Err-clause-few_bytes g c = λ head image records read known second long journal.
    let m = g.S.Station.meanings in
    let before = c.heads.invariant in
    reads_more (6 * (length records + 1) + 0) (6 * (length records + 1)) _ _ (omega arith) (reads_then (6 * (length records + 1)) 0 _ _ _ (passes_few m c.args.station.now c.args.size c.args.len.now c.args.limit c.heads.station c.read_head.new.station c.heads.standing.gate c.heads.last (before.passes (before.knows image read known)) c.read_head.ensures.looks head image records read known second long journal) c.measured_again.ensures.looks.bytes_read)

pub returns-in-Err-clause-reach : goal.returns-in-Err-clause-reach
returns-in-Err-clause-reach g c =
    let m = g.S.Station.meanings in
    let before = c.heads.invariant in
    omega (arith, before.len_is, before.grows, before.reach, c.read_head.ensures.reach, c.measured_again.ensures.looks.reach)

pub returns-in-Err-clause-grows : goal.returns-in-Err-clause-grows
returns-in-Err-clause-grows g c = omega (arith, c.heads.invariant.len_is)

pub returns-in-Err-clause-stays : goal.returns-in-Err-clause-stays
returns-in-Err-clause-stays g c = λ image read long. c.heads.invariant.len_is

pub returns-then-known-standing-clause-reads : goal.returns-then-known-standing-clause-reads
returns-then-known-standing-clause-reads g c =
    let m = g.S.Station.meanings in
    let before = c.heads.invariant in
    reads_look m _ _ _ 0 (reads_look m _ _ _ 6 before.reads c.read_head.ensures.looks) c.measured_again.ensures.looks

pub returns-then-known-standing-clause-few_bytes : goal.returns-then-known-standing-clause-few_bytes
returns-then-known-standing-clause-few_bytes g c = λ head image records read known second long journal.
    let m = g.S.Station.meanings in
    let before = c.heads.invariant in
    reads_more (6 * (length records + 1) + 0) (6 * (length records + 1)) _ _ (omega arith) (reads_then (6 * (length records + 1)) 0 _ _ _ (passes_few m c.args.station.now c.args.size c.args.len.now c.args.limit c.heads.station c.read_head.new.station c.heads.standing.gate c.heads.last (before.passes (before.knows image read known)) c.read_head.ensures.looks head image records read known second long journal) c.measured_again.ensures.looks.bytes_read)

pub returns-then-known-standing-clause-reach : goal.returns-then-known-standing-clause-reach
returns-then-known-standing-clause-reach g c =
    let m = g.S.Station.meanings in
    let before = c.heads.invariant in
    omega (arith, before.len_is, before.grows, before.reach, c.read_head.ensures.reach, c.measured_again.ensures.looks.reach)

pub returns-then-known-standing-clause-grows : goal.returns-then-known-standing-clause-grows
returns-then-known-standing-clause-grows g c = omega (arith, c.heads.invariant.len_is)

pub returns-then-known-standing-clause-stays : goal.returns-then-known-standing-clause-stays
returns-then-known-standing-clause-stays g c = λ image read long. c.heads.invariant.len_is
