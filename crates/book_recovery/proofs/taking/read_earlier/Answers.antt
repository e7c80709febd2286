use Rattle.std.proofs.Common.{◌≡◌, ◌-◌, ◌++◌, inl, inr, List, [], ◌∷◌, length, Some, Err, sym, subst, ap, ◌∙◌}
use Rattle.std.proofs.lemmas.Result.{err_from_is_err_and}
use Rattle.std.specs.List.{slice_get}
use Rattle.product_file.specs.Products.{ProductLists}
use Rattle.product_file.specs.Amendments.{may_follow}
use Rattle.match_journal.specs.HeaderLaws.{one_header}
use Rattle.match_journal.specs.Journal.{IsJournal, Header}
use Rattle.match_journal.specs.LookLaws.{reads_look}
use Rattle.match_journal.specs.declared.standing.Standing.{Standing}
use Rattle.match_journal.proofs.Heads.{opened_begins}
use Rattle.book_recovery.specs.BadPlaces.{IsBadBeforeRecords}
use Rattle.book_recovery.specs.Inner.Counting.{Counts}
use Rattle.book_recovery.specs.Inner.Keeping.{FollowsLast, KeepsAll}
use Rattle.book_recovery.specs.declared.recovery.RecoverFault.{RecoverFault}
use Rattle.book_recovery.proofs.EarlierProducts.{rewound, none-there, first-kept, takes-none, found, takes-all, takes-bad, first-failed, all-failed}
use Rattle.book_recovery.proofs.ProductsTaken.{follow-push, follows-last, last-followed, follows-none, none-got, may-be, may-not}
use Rattle.book_recovery.proofs.Standings.{stands_first, stands_moved}
use Rattle.book_recovery.proofs.taking.read_earlier.Goals as goal

-- ---- the station

pub returns-in_err-keep_first-clause-reads : goal.returns-in_err-keep_first-clause-reads
returns-in_err-keep_first-clause-reads g c = reads_look g.S.Station.meanings _ _ _ _ c.read_heads.ensures.reads c.keep_first.ensures.reads.looks

pub returns-in_err-keep_all_amended-clause-reads : goal.returns-in_err-keep_all_amended-clause-reads
returns-in_err-keep_all_amended-clause-reads g c =
    reads_look g.S.Station.meanings _ _ _ _ (reads_look g.S.Station.meanings _ _ _ _ c.read_heads.ensures.reads c.keep_first.ensures.reads.looks) c.keep_all_amended.ensures.reads.looks

pub returns-then-is_err-clause-reads : goal.returns-then-is_err-clause-reads
returns-then-is_err-clause-reads g c =
    reads_look g.S.Station.meanings _ _ _ _ (reads_look g.S.Station.meanings _ _ _ _ c.read_heads.ensures.reads c.keep_first.ensures.reads.looks) c.keep_all_amended.ensures.reads.looks

pub returns-else-is_err-clause-reads : goal.returns-else-is_err-clause-reads
returns-else-is_err-clause-reads g c =
    reads_look g.S.Station.meanings _ _ _ _ (reads_look g.S.Station.meanings _ _ _ _ c.read_heads.ensures.reads c.keep_first.ensures.reads.looks) c.keep_all_amended.ensures.reads.looks

pub returns-in_default-last-clause-reads : goal.returns-in_default-last-clause-reads
returns-in_default-last-clause-reads g c =
    reads_look g.S.Station.meanings _ _ _ _ (reads_look g.S.Station.meanings _ _ _ _ c.read_heads.ensures.reads c.keep_first.ensures.reads.looks) c.keep_all_amended.ensures.reads.looks

-- ---- the products

-- a head is bad
pub returns-in-Err-Bad-clause-takes : goal.returns-in-Err-Bad-clause-takes
returns-in-Err-Bad-clause-takes g c = λ head text image read known least opened gives.
    let s = c.args.journal.now in
    let counts = c.in-Err-Bad.ensures.counts head image read known (opened_begins head s.limit image opened.gate opened.header least) (stands_first s head image known opened.header) in
    subst (IsBadBeforeRecords head s.limit image) (sym c.in-Err-Bad.at-is)
    (inl (subst (λ (e : RecoverFault). Counts head s.limit image c.read_heads.new.journal.gate (Err e)) c.in-Err-Bad.field-0-is counts))

-- there is no amendment
pub returns-in_default-clause-takes : goal.returns-in_default-clause-takes
returns-in_default-clause-takes g c = λ head text image read known least opened gives.
    let s = c.args.journal.now in
    let product = c.args.product.now in
    let first = stands_first s head image known opened.header in
    let counted = c.in-Ok.ensures.counts head image read known (opened_begins head s.limit image opened.gate opened.header least) first in
    let journal = counted.journal.journal in
    let back = rewound s c.read_heads.new.journal c.rewind.new.self _ _ c.read_heads.ensures.same c.rewind.ensures in
    let there = stands_moved s c.rewind.new.self _ _ image back known in
    let held = c.read_heads.ensures.reads.looks.keeps.holds ∙ read in
    let inside = subst (λ k. IsJournal head k counted.records image) (sym (ap (λ (x : Standing). x.limit) back)) journal in
    takes-none head s.limit image counted.records journal text opened product gives c.args.earlier.now.items c.requires.none_yet
    (none-there c.amended_at.result c.in_default.not-Some _ (c.amended_at.ensures.gate image head counted.records there inside))

pub returns-in_err-keep_first-clause-takes : goal.returns-in_err-keep_first-clause-takes
returns-in_err-keep_first-clause-takes g c = λ head text image read known least opened gives.
    let s = c.args.journal.now in
    let product = c.args.product.now in
    let first = stands_first s head image known opened.header in
    let counted = c.in-Ok.ensures.counts head image read known (opened_begins head s.limit image opened.gate opened.header least) first in
    let journal = counted.journal.journal in
    let back = rewound s c.read_heads.new.journal c.rewind.new.self _ _ c.read_heads.ensures.same c.rewind.ensures in
    let there = stands_moved s c.rewind.new.self _ _ image back known in
    let held = c.read_heads.ensures.reads.looks.keeps.holds ∙ read in
    let inside = subst (λ k. IsJournal head k counted.records image) (sym (ap (λ (x : Standing). x.limit) back)) journal in
    let told = c.in-Some.ensures.gate image head counted.records there inside in
    let same = ap (λ (h : Header). h.text) (one_header image there.head head there.opened.header opened.header) in
    let p = err_from_is_err_and c.from_residual.result c.from_residual.ensures.1 in
    rw (p.1, p.2)
    (first-failed head s.limit image counted.records journal text opened product gives c.in-Some.last_at told there.head.text c.args.earlier.now.items c.keep_first.new.earlier.items (c.keep_first.new.earlier.items ++ product ∷ []) same c.requires.none_yet c.in_err-keep_first.field-0.0
    (c.in_err-keep_first.ensures.keeps image held there))

pub returns-in_err-keep_all_amended-clause-takes : goal.returns-in_err-keep_all_amended-clause-takes
returns-in_err-keep_all_amended-clause-takes g c = λ head text image read known least opened gives.
    let s = c.args.journal.now in
    let product = c.args.product.now in
    let first = stands_first s head image known opened.header in
    let counted = c.in-Ok.ensures.counts head image read known (opened_begins head s.limit image opened.gate opened.header least) first in
    let journal = counted.journal.journal in
    let back = rewound s c.read_heads.new.journal c.rewind.new.self _ _ c.read_heads.ensures.same c.rewind.ensures in
    let there = stands_moved s c.rewind.new.self _ _ image back known in
    let held = c.read_heads.ensures.reads.looks.keeps.holds ∙ read in
    let inside = subst (λ k. IsJournal head k counted.records image) (sym (ap (λ (x : Standing). x.limit) back)) journal in
    let told = c.in-Some.ensures.gate image head counted.records there inside in
    let same = ap (λ (h : Header). h.text) (one_header image there.head head there.opened.header opened.header) in
    let moves = c.keep_first.ensures.stays ∙ back in
    let there-then = stands_moved s c.keep_first.new.journal _ _ image moves known in
    let inside-then = subst (λ k. IsJournal head k counted.records image) (sym (ap (λ (x : Standing). x.limit) moves)) journal in
    let kept-first = first-kept head there.head.text _ _ same c.requires.none_yet (c.in_ok-keep_first.ensures.keeps image held there) in
    let split = (found head s.limit image counted.records journal text opened product gives c.in-Some.last_at told).split in
    let failed = c.in_err-keep_all_amended.ensures.keeps head image counted.records split (c.keep_first.ensures.reads.looks.keeps.holds ∙ held) there-then inside-then (ap (λ (x : Standing). x.gate) moves ∙ first) kept-first in
    let p = err_from_is_err_and c.from_residual-in_err-keep_all_amended.result c.from_residual-in_err-keep_all_amended.ensures.1 in
    rw (p.1, p.2)
    (all-failed head s.limit image counted.records journal text opened product gives c.in-Some.last_at told split.front c.keep_all_amended.new.earlier.items (c.keep_all_amended.new.earlier.items ++ product ∷ []) c.in_err-keep_all_amended.field-0.0
    (subst (λ k. KeepsAll head k image split.front c.keep_all_amended.new.earlier.items (Err c.in_err-keep_all_amended.field-0.0)) (ap (λ (x : Standing). x.limit) moves) failed))

-- the last product may not follow
pub returns-then-is_err-clause-takes : goal.returns-then-is_err-clause-takes
returns-then-is_err-clause-takes g c = λ head text image read known least opened gives.
    let s = c.args.journal.now in
    let product = c.args.product.now in
    let first = stands_first s head image known opened.header in
    let counted = c.in-Ok.ensures.counts head image read known (opened_begins head s.limit image opened.gate opened.header least) first in
    let journal = counted.journal.journal in
    let back = rewound s c.read_heads.new.journal c.rewind.new.self _ _ c.read_heads.ensures.same c.rewind.ensures in
    let there = stands_moved s c.rewind.new.self _ _ image back known in
    let held = c.read_heads.ensures.reads.looks.keeps.holds ∙ read in
    let inside = subst (λ k. IsJournal head k counted.records image) (sym (ap (λ (x : Standing). x.limit) back)) journal in
    let told = c.in-Some.ensures.gate image head counted.records there inside in
    let same = ap (λ (h : Header). h.text) (one_header image there.head head there.opened.header opened.header) in
    let moves = c.keep_first.ensures.stays ∙ back in
    let there-then = stands_moved s c.keep_first.new.journal _ _ image moves known in
    let inside-then = subst (λ k. IsJournal head k counted.records image) (sym (ap (λ (x : Standing). x.limit) moves)) journal in
    let kept-first = first-kept head there.head.text _ _ same c.requires.none_yet (c.in_ok-keep_first.ensures.keeps image held there) in
    let split = (found head s.limit image counted.records journal text opened product gives c.in-Some.last_at told).split in
    let items = c.keep_all_amended.new.earlier.items in
    let kept = c.in_ok-keep_all_amended.ensures.keeps head image counted.records split (c.keep_first.ensures.reads.looks.keeps.holds ∙ held) there-then inside-then (ap (λ (x : Standing). x.gate) moves ∙ first) kept-first in
    let got : slice_get items (length items - 1) ≡ Some c.in-Some-last.before.now = ap (λ (l : List ProductLists). slice_get l (length l - 1)) (sym c.deref.ensures.value) ∙ sym c.in-Some-last.ensures.value in
    inr (takes-bad head s.limit image counted.records journal text opened product gives c.in-Some.last_at told items kept
    (λ follows. may-not c.may_follow.result (may_follow c.in-Some-last.before.now product) c.may_follow.ensures (sym c.is_err.ensures.value ∙ c.if-is_err.true) (last-followed items c.in-Some-last.before.now product got follows)))

pub returns-else-is_err-clause-follow : goal.returns-else-is_err-clause-follow
returns-else-is_err-clause-follow g c =
    let items = c.keep_all_amended.new.earlier.items in
    let got : slice_get items (length items - 1) ≡ Some c.in-Some-last.before.now = ap (λ (l : List ProductLists). slice_get l (length l - 1)) (sym c.deref.ensures.value) ∙ sym c.in-Some-last.ensures.value in
    follow-push items c.args.product.now c.in_ok-keep_all_amended.ensures.follow (follows-last items c.in-Some-last.before.now c.args.product.now got (may-be c.may_follow.result (may_follow c.in-Some-last.before.now c.args.product.now) c.may_follow.ensures (sym c.is_err.ensures.value ∙ c.if-is_err.false)))

pub returns-else-is_err-clause-takes : goal.returns-else-is_err-clause-takes
returns-else-is_err-clause-takes g c = λ head text image read known least opened gives.
    let s = c.args.journal.now in
    let product = c.args.product.now in
    let first = stands_first s head image known opened.header in
    let counted = c.in-Ok.ensures.counts head image read known (opened_begins head s.limit image opened.gate opened.header least) first in
    let journal = counted.journal.journal in
    let back = rewound s c.read_heads.new.journal c.rewind.new.self _ _ c.read_heads.ensures.same c.rewind.ensures in
    let there = stands_moved s c.rewind.new.self _ _ image back known in
    let held = c.read_heads.ensures.reads.looks.keeps.holds ∙ read in
    let inside = subst (λ k. IsJournal head k counted.records image) (sym (ap (λ (x : Standing). x.limit) back)) journal in
    let told = c.in-Some.ensures.gate image head counted.records there inside in
    let same = ap (λ (h : Header). h.text) (one_header image there.head head there.opened.header opened.header) in
    let moves = c.keep_first.ensures.stays ∙ back in
    let there-then = stands_moved s c.keep_first.new.journal _ _ image moves known in
    let inside-then = subst (λ k. IsJournal head k counted.records image) (sym (ap (λ (x : Standing). x.limit) moves)) journal in
    let kept-first = first-kept head there.head.text _ _ same c.requires.none_yet (c.in_ok-keep_first.ensures.keeps image held there) in
    let split = (found head s.limit image counted.records journal text opened product gives c.in-Some.last_at told).split in
    let items = c.keep_all_amended.new.earlier.items in
    let kept = c.in_ok-keep_all_amended.ensures.keeps head image counted.records split (c.keep_first.ensures.reads.looks.keeps.holds ∙ held) there-then inside-then (ap (λ (x : Standing). x.gate) moves ∙ first) kept-first in
    let got : slice_get items (length items - 1) ≡ Some c.in-Some-last.before.now = ap (λ (l : List ProductLists). slice_get l (length l - 1)) (sym c.deref.ensures.value) ∙ sym c.in-Some-last.ensures.value in
    takes-all head s.limit image counted.records journal text opened product gives c.in-Some.last_at told items kept (follows-last items c.in-Some-last.before.now product got (may-be c.may_follow.result (may_follow c.in-Some-last.before.now c.args.product.now) c.may_follow.ensures (sym c.is_err.ensures.value ∙ c.if-is_err.false)))

pub returns-in_default-last-clause-takes : goal.returns-in_default-last-clause-takes
returns-in_default-last-clause-takes g c = λ head text image read known least opened gives.
    let s = c.args.journal.now in
    let product = c.args.product.now in
    let first = stands_first s head image known opened.header in
    let counted = c.in-Ok.ensures.counts head image read known (opened_begins head s.limit image opened.gate opened.header least) first in
    let journal = counted.journal.journal in
    let back = rewound s c.read_heads.new.journal c.rewind.new.self _ _ c.read_heads.ensures.same c.rewind.ensures in
    let there = stands_moved s c.rewind.new.self _ _ image back known in
    let held = c.read_heads.ensures.reads.looks.keeps.holds ∙ read in
    let inside = subst (λ k. IsJournal head k counted.records image) (sym (ap (λ (x : Standing). x.limit) back)) journal in
    let told = c.in-Some.ensures.gate image head counted.records there inside in
    let same = ap (λ (h : Header). h.text) (one_header image there.head head there.opened.header opened.header) in
    let moves = c.keep_first.ensures.stays ∙ back in
    let there-then = stands_moved s c.keep_first.new.journal _ _ image moves known in
    let inside-then = subst (λ k. IsJournal head k counted.records image) (sym (ap (λ (x : Standing). x.limit) moves)) journal in
    let kept-first = first-kept head there.head.text _ _ same c.requires.none_yet (c.in_ok-keep_first.ensures.keeps image held there) in
    let split = (found head s.limit image counted.records journal text opened product gives c.in-Some.last_at told).split in
    let items = c.keep_all_amended.new.earlier.items in
    let kept = c.in_ok-keep_all_amended.ensures.keeps head image counted.records split (c.keep_first.ensures.reads.looks.keeps.holds ∙ held) there-then inside-then (ap (λ (x : Standing). x.gate) moves ∙ first) kept-first in
    let follows : FollowsLast items product = follows-none items product (ap (λ (l : List ProductLists). slice_get l (length l - 1)) (sym c.deref.ensures.value) ∙ none-got c.last.result c.in_default-last.not-Some _ c.last.ensures.value) in
    takes-all head s.limit image counted.records journal text opened product gives c.in-Some.last_at told items kept follows
