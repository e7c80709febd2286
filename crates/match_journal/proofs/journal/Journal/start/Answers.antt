use Rattle.std.proofs.Common.{◌+◌, ◌*◌, [], length, refl, sym, ◌∙◌, ap, subst, arith}
use Rattle.std.proofs.lemmas.Option.{same_Some}
use Rattle.gx_station.specs.AnswerLaws.{on_ok}
use Rattle.gx_station.specs.Honest.{KeepsImage}
use Rattle.match_journal.specs.LookLaws.{keeps_then, reads_then, reads_more}
use Rattle.match_journal.specs.Journal.{Header, IsJournal, in_version}
use Rattle.match_journal.specs.Opening.{most_to_open}
use Rattle.match_journal.specs.Classes.{IsSealed}
use Rattle.match_journal.specs.declared.limits.TheConstants.{MOST_TEXT, MOST_UNFINISHED}
use Rattle.match_journal.specs.declared.version.Version.TheVariants.{Second}
use Rattle.match_journal.specs.Inner.Fronts.{IsHeld, IsMade}
use Rattle.match_journal.specs.Steps.{Rests, HoldsOne}
use Rattle.match_journal.specs.StepLaws.{rests_kept, steps_hold}
use Rattle.match_journal.proofs.Created.{blank_keeps}
use Rattle.match_journal.proofs.Creating.{opening_itself}
use Rattle.match_journal.proofs.Found.{found_starts, opened_class, sealed_class, sealed_version, stands_made}
use Rattle.match_journal.specs.HeaderLaws.{same_head}
use Rattle.match_journal.proofs.Stepping.{steps_ok, steps_failed, from_synced}
use Rattle.match_journal.proofs.Looking.{reads_same, reads_between}
use Rattle.match_journal.proofs.journal.Journal.start.Goals as goal

pub returns-clause-starts : goal.returns-clause-starts
returns-clause-starts g c = λ image head records last keeps.
    let m = g.S.Station.meanings in
    let looks = c.look_at.ensures.reads.looks in
    from_synced m c.args.station.now c.sync.new.self c.hold_text.new.station c.finish.new.station image _ _ _ _ (sym c.is_err.ensures.value ∙ c.if-is_err.false) c.sync.ensures.syncs (keeps_then m _ _ _ looks.keeps c.hold_text.ensures.looks.keeps) (c.hold_text.ensures.looks.silent.sent ∙ looks.silent.sent) (λ read.
    let at = c.sync.ensures.syncs.keeps.holds ∙ read in
    let found = c.in-Ok.ensures.found image at in
    let held : IsHeld c.args.product.now c.args.limit image c.in-Ok.found = record { is_found = found; has_text = c.in-Ok-hold_text.ensures.text image c.args.limit (looks.keeps.holds ∙ at) found } in
    steps_ok m _ _ image _ _ _ _ (sym c.is_err-2.ensures.value ∙ c.if-is_err-2.false)
    (c.finish.ensures.steps image c.args.limit head records c.requires.least held c.version_or-version.ensures last keeps))

pub returns-then-is_err-2-clause-starts : goal.returns-then-is_err-2-clause-starts
returns-then-is_err-2-clause-starts g c = λ image head records last keeps.
    let m = g.S.Station.meanings in
    let looks = c.look_at.ensures.reads.looks in
    from_synced m c.args.station.now c.sync.new.self c.hold_text.new.station c.finish.new.station image _ _ _ _ (sym c.is_err.ensures.value ∙ c.if-is_err.false) c.sync.ensures.syncs (keeps_then m _ _ _ looks.keeps c.hold_text.ensures.looks.keeps) (c.hold_text.ensures.looks.silent.sent ∙ looks.silent.sent) (λ read.
    let at = c.sync.ensures.syncs.keeps.holds ∙ read in
    let found = c.in-Ok.ensures.found image at in
    let held : IsHeld c.args.product.now c.args.limit image c.in-Ok.found = record { is_found = found; has_text = c.in-Ok-hold_text.ensures.text image c.args.limit (looks.keeps.holds ∙ at) found } in
    steps_failed m _ _ image _ _ _ _ (sym c.is_err-2.ensures.value ∙ c.if-is_err-2.true)
    (c.finish.ensures.steps image c.args.limit head records c.requires.least held c.version_or-version.ensures last keeps))

pub returns-then-is_err-2-clause-keeps : goal.returns-then-is_err-2-clause-keeps
returns-then-is_err-2-clause-keeps g c = λ image head records h read last keeps.
    let m = g.S.Station.meanings in
    let looks = c.look_at.ensures.reads.looks in
    let both = keeps_then m c.sync.new.self c.look_at.new.station c.hold_text.new.station looks.keeps c.hold_text.ensures.looks.keeps in
    let synced = c.sync.ensures.syncs.keeps.moments.honest h in
    let at = c.sync.ensures.syncs.keeps.holds ∙ read in
    let found = c.in-Ok.ensures.found image at in
    let held : IsHeld c.args.product.now c.args.limit image c.in-Ok.found = record { is_found = found; has_text = c.in-Ok-hold_text.ensures.text image c.args.limit (looks.keeps.holds ∙ at) found } in
    let steps = c.finish.ensures.steps image c.args.limit head records c.requires.least held c.version_or-version.ensures last keeps in
    let rests : Rests m image c.hold_text.new.station = rests_kept m c.sync.new.self c.hold_text.new.station image both synced record { read = at; settled = on_ok c.sync.result (sym c.is_err.ensures.value ∙ c.if-is_err.false) c.sync.ensures.syncs.settled h } in
    steps_hold m g.met.S.Station.honest c.hold_text.new.station c.finish.new.station image _ (opening_itself c.args.product.now c.args.limit head records image last keeps) (both.moments.honest synced) rests (steps.moments (both.moments.honest synced) rests)

pub returns-clause-creates : goal.returns-clause-creates
returns-clause-creates g c = λ image read blank.
    let last = (returns-clause-starts g c image (in_version Second c.args.product.now) [] (record { is = refl; inside = tt }) (blank_keeps (in_version Second c.args.product.now) c.args.limit image refl blank)).ends read in
    record { image = last.image; read = last.read; has = last.has.1 }

pub returns-clause-makes : goal.returns-clause-makes
returns-clause-makes g c = λ image head read of_text sealed.
    let m = g.S.Station.meanings in
    let at = c.sync.ensures.syncs.keeps.holds ∙ read in
    let found = c.in-Ok.ensures.found image at in
    let same = same_head head (in_version c.version_or-version.result c.args.product.now) (sealed_version c.args.limit image c.in-Ok.found.class c.in-Ok.found.text head found.class sealed ∙ sym c.version_or-version.ensures) of_text in
    let made = on_ok _ (sym c.is_err-2.ensures.value ∙ c.if-is_err-2.false) (c.finish.ensures.makes image c.args.limit c.requires.least (sealed_class c.args.limit image c.in-Ok.found.class c.in-Ok.found.text head found.class sealed) (subst (λ (h : Header). IsSealed h image) same sealed) (c.hold_text.ensures.looks.keeps.holds ∙ c.look_at.ensures.reads.looks.keeps.holds ∙ at)) in
    subst (λ (h : Header). HoldsOne m (IsJournal h c.args.limit []) c.finish.new.station) (sym same) made

pub returns-then-is_err-clause-keeps : goal.returns-then-is_err-clause-keeps
returns-then-is_err-clause-keeps g c = λ image head records h read last keeps.
    record { image = image; read = c.sync.ensures.syncs.keeps.holds ∙ read; has = opening_itself c.args.product.now c.args.limit head records image last keeps }

pub returns-in-Err-clause-keeps : goal.returns-in-Err-clause-keeps
returns-in-Err-clause-keeps g c = λ image head records h read last keeps.
    record { image = image; read = c.look_at.ensures.reads.looks.keeps.holds ∙ c.sync.ensures.syncs.keeps.holds ∙ read; has = opening_itself c.args.product.now c.args.limit head records image last keeps }

pub returns-in-Err-hold_text-clause-keeps : goal.returns-in-Err-hold_text-clause-keeps
returns-in-Err-hold_text-clause-keeps g c = λ image head records h read last keeps.
    record { image = image; read = c.hold_text.ensures.looks.keeps.holds ∙ c.look_at.ensures.reads.looks.keeps.holds ∙ c.sync.ensures.syncs.keeps.holds ∙ read; has = opening_itself c.args.product.now c.args.limit head records image last keeps }

pub returns-clause-keeps : goal.returns-clause-keeps
returns-clause-keeps g c = λ image head records h read last keeps.
    let made = (returns-clause-starts g c image head records last keeps).ends read in
    record { image = made.image; read = made.read; has = made.has.0 }

-- ---- what it is then

pub returns-clause-stands_in : goal.returns-clause-stands_in
returns-clause-stands_in g c = λ before after read read'.
    let m = g.S.Station.meanings in
    let looks = c.look_at.ensures.reads.looks in
    let at = c.sync.ensures.syncs.keeps.holds ∙ read in
    let found = c.in-Ok.ensures.found before at in
    let held : IsHeld c.args.product.now c.args.limit before c.in-Ok.found = record { is_found = found; has_text = c.in-Ok-hold_text.ensures.text before c.args.limit (looks.keeps.holds ∙ at) found } in
    let here = c.hold_text.ensures.looks.keeps.holds ∙ looks.keeps.holds ∙ at in
    stands_made c.args.limit before after c.version_or-version.result c.args.product.now c.requires.short c.in-Ok.found c.journal_then.result c.journal_then.ensures found
    (λ opened. same_Some after before (sym read' ∙ ap m.holds (c.finish.ensures.opened opened) ∙ here))
    (λ shut.
    let one = on_ok c.finish.result (sym c.is_err-2.ensures.value ∙ c.if-is_err-2.false) (c.finish.ensures.makes_one before c.args.limit c.requires.least shut held here c.version_or-version.ensures) in
    subst (IsMade (in_version c.version_or-version.result c.args.product.now) c.args.limit _) (same_Some one.image after (sym one.read ∙ read')) one.has)

pub returns-clause-answers : goal.returns-clause-answers
returns-clause-answers g c = λ image read.
    let at = c.sync.ensures.syncs.keeps.holds ∙ read in
    let found = c.in-Ok.ensures.found image at in
    found_starts c.args.product.now c.args.limit image c.in-Ok.found.class c.in-Ok.found.text found.class (c.in-Ok-hold_text.ensures.text image c.args.limit (c.look_at.ensures.reads.looks.keeps.holds ∙ at) found)

pub returns-clause-opened : goal.returns-clause-opened
returns-clause-opened g c = λ image read gate.
    let m = g.S.Station.meanings in
    let class = opened_class c.args.limit image c.in-Ok.found.class c.in-Ok.found.text (c.in-Ok.ensures.found image (c.sync.ensures.syncs.keeps.holds ∙ read)).class gate in
    subst (KeepsImage m c.args.station.now) (sym (c.finish.ensures.opened class)) (keeps_then m _ _ _ c.sync.ensures.syncs.keeps (keeps_then m _ _ _ c.look_at.ensures.reads.looks.keeps c.hold_text.ensures.looks.keeps))

pub returns-then-is_err-2-clause-opened : goal.returns-then-is_err-2-clause-opened
returns-then-is_err-2-clause-opened g c = λ image read gate.
    let m = g.S.Station.meanings in
    let class = opened_class c.args.limit image c.in-Ok.found.class c.in-Ok.found.text (c.in-Ok.ensures.found image (c.sync.ensures.syncs.keeps.holds ∙ read)).class gate in
    subst (KeepsImage m c.args.station.now) (sym (c.finish.ensures.opened class)) (keeps_then m _ _ _ c.sync.ensures.syncs.keeps (keeps_then m _ _ _ c.look_at.ensures.reads.looks.keeps c.hold_text.ensures.looks.keeps))

pub returns-in-Err-hold_text-clause-opened : goal.returns-in-Err-hold_text-clause-opened
returns-in-Err-hold_text-clause-opened g c = λ image read gate.
    let m = g.S.Station.meanings in
    keeps_then m _ _ _ c.sync.ensures.syncs.keeps (keeps_then m _ _ _ c.look_at.ensures.reads.looks.keeps c.hold_text.ensures.looks.keeps)

-- ---- what was read

pub returns-then-is_err-clause-front_bytes : goal.returns-then-is_err-clause-front_bytes
returns-then-is_err-clause-front_bytes g c = λ image read other.
    reads_same _ _ _ c.sync.ensures.syncs.bytes_read

pub returns-then-is_err-clause-few_bytes : goal.returns-then-is_err-clause-few_bytes
returns-then-is_err-clause-few_bytes g c = λ head image records read journal.
    reads_same _ _ _ c.sync.ensures.syncs.bytes_read

pub returns-in-Err-clause-front_bytes : goal.returns-in-Err-clause-front_bytes
returns-in-Err-clause-front_bytes g c = λ image read other.
    reads_between MOST_UNFINISHED _ _ _ _ c.sync.ensures.syncs.bytes_read (reads_more 14 MOST_UNFINISHED _ _ (omega arith) (c.look_at.ensures.front_bytes image (c.sync.ensures.syncs.keeps.holds ∙ read) other)) refl

pub returns-in-Err-clause-few_bytes : goal.returns-in-Err-clause-few_bytes
returns-in-Err-clause-few_bytes g c = λ head image records read journal.
    reads_between (most_to_open records) _ _ _ _ c.sync.ensures.syncs.bytes_read (reads_more (18 + 6 * (length records + 1)) (most_to_open records) _ _ (omega arith) (c.look_at.ensures.few_bytes head image records (c.sync.ensures.syncs.keeps.holds ∙ read) journal)) refl

pub returns-in-Err-hold_text-clause-front_bytes : goal.returns-in-Err-hold_text-clause-front_bytes
returns-in-Err-hold_text-clause-front_bytes g c = λ image read other.
    reads_between MOST_UNFINISHED _ _ _ _ c.sync.ensures.syncs.bytes_read (reads_then 14 MOST_TEXT _ _ _ (c.look_at.ensures.front_bytes image (c.sync.ensures.syncs.keeps.holds ∙ read) other) c.hold_text.ensures.looks.bytes_read) refl

pub returns-in-Err-hold_text-clause-few_bytes : goal.returns-in-Err-hold_text-clause-few_bytes
returns-in-Err-hold_text-clause-few_bytes g c = λ head image records read journal.
    reads_between (most_to_open records) _ _ _ _ c.sync.ensures.syncs.bytes_read (reads_more (18 + 6 * (length records + 1) + MOST_TEXT) (most_to_open records) _ _ (omega arith)
    (reads_then (18 + 6 * (length records + 1)) MOST_TEXT _ _ _ (c.look_at.ensures.few_bytes head image records (c.sync.ensures.syncs.keeps.holds ∙ read) journal) c.hold_text.ensures.looks.bytes_read)) refl

pub returns-then-is_err-2-clause-front_bytes : goal.returns-then-is_err-2-clause-front_bytes
returns-then-is_err-2-clause-front_bytes g c = λ image read other.
    reads_between MOST_UNFINISHED _ _ _ _ c.sync.ensures.syncs.bytes_read (reads_then 14 MOST_TEXT _ _ _ (c.look_at.ensures.front_bytes image (c.sync.ensures.syncs.keeps.holds ∙ read) other) c.hold_text.ensures.looks.bytes_read) c.finish.ensures.puts.bytes_read

pub returns-then-is_err-2-clause-few_bytes : goal.returns-then-is_err-2-clause-few_bytes
returns-then-is_err-2-clause-few_bytes g c = λ head image records read journal.
    reads_between (most_to_open records) _ _ _ _ c.sync.ensures.syncs.bytes_read (reads_more (18 + 6 * (length records + 1) + MOST_TEXT) (most_to_open records) _ _ (omega arith)
    (reads_then (18 + 6 * (length records + 1)) MOST_TEXT _ _ _ (c.look_at.ensures.few_bytes head image records (c.sync.ensures.syncs.keeps.holds ∙ read) journal) c.hold_text.ensures.looks.bytes_read)) c.finish.ensures.puts.bytes_read

pub returns-clause-front_bytes : goal.returns-clause-front_bytes
returns-clause-front_bytes g c = λ image read other.
    reads_between MOST_UNFINISHED _ _ _ _ c.sync.ensures.syncs.bytes_read (reads_then 14 MOST_TEXT _ _ _ (c.look_at.ensures.front_bytes image (c.sync.ensures.syncs.keeps.holds ∙ read) other) c.hold_text.ensures.looks.bytes_read) c.finish.ensures.puts.bytes_read

pub returns-clause-few_bytes : goal.returns-clause-few_bytes
returns-clause-few_bytes g c = λ head image records read journal.
    reads_between (most_to_open records) _ _ _ _ c.sync.ensures.syncs.bytes_read (reads_more (18 + 6 * (length records + 1) + MOST_TEXT) (most_to_open records) _ _ (omega arith)
    (reads_then (18 + 6 * (length records + 1)) MOST_TEXT _ _ _ (c.look_at.ensures.few_bytes head image records (c.sync.ensures.syncs.keeps.holds ∙ read) journal) c.hold_text.ensures.looks.bytes_read)) c.finish.ensures.puts.bytes_read

-- nothing is pending
pub returns-clause-settles : goal.returns-clause-settles
returns-clause-settles g c = λ h.
    let m = g.S.Station.meanings in
    let both = keeps_then m c.sync.new.self c.look_at.new.station c.hold_text.new.station c.look_at.ensures.reads.looks.keeps c.hold_text.ensures.looks.keeps in
    let synced = c.sync.ensures.syncs.keeps.moments.honest h in
    let before = on_ok c.sync.result (sym c.is_err.ensures.value ∙ c.if-is_err.false) c.sync.ensures.syncs.settled h in
    on_ok c.finish.result (sym c.is_err-2.ensures.value ∙ c.if-is_err-2.false) c.finish.ensures.settled (both.moments.honest synced) (λ left may. both.holds ∙ before left (both.images synced left may))
