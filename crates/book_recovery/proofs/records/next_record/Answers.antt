use Rattle.std.proofs.Common.{refl, sym, ◌∙◌, ap, subst, arith}
use Rattle.match_journal.specs.declared.standing.Standing.{Standing}
use Rattle.match_journal.specs.LookLaws.{reads_itself, reads_look}
use Rattle.order_kinds.specs.State.{State}
use Rattle.order_kinds.specs.Cores.{FitsProduct}
use Rattle.order_kinds.proofs.EmptyStates.{fits-empty}
use Rattle.book_recovery.specs.Products.{all_products}
use Rattle.book_recovery.proofs.ProductLists.{alike-sym, alike-room, alike-empty, number-alike}
use Rattle.book_recovery.proofs.Reading.{journal_on, none_left, none_bad, one_left, number_there, product_there, gives_there, content_more, content_unread}
use Rattle.book_recovery.proofs.Standings.{stands_moved, some_moved}
use Rattle.book_recovery.proofs.records.next_record.Goals as goal

-- ---- the product of the record is as large as the last

pub read_record-requires-clause-room : goal.read_record-requires-clause-room
read_record-requires-clause-room g c =
    let all = c.args.products.now in
    let product = c.get-product.result.now in
    let alike = number-alike all.last.now all.earlier.items _ product all.follow c.get-product.ensures in
    alike-room all.last.now product c.args.scratch.now (alike-sym product all.last.now alike) c.requires.room

pub read_record-requires-clause-fits : goal.read_record-requires-clause-fits
read_record-requires-clause-fits g c =
    let all = c.args.products.now in
    let product = c.get-product.result.now in
    let alike = number-alike all.last.now all.earlier.items _ product all.follow c.get-product.ensures in
    subst (λ (s : State). FitsProduct product s) (alike-empty product all.last.now alike ∙ sym c.requires.spare) (fits-empty product)

pub read_record-requires-clause-new : goal.read_record-requires-clause-new
read_record-requires-clause-new g c = λ image.
    let all = c.args.products.now in
    let product = c.get-product.result.now in
    let alike = number-alike all.last.now all.earlier.items _ product all.follow c.get-product.ensures in
    c.requires.spare ∙ sym (alike-empty product all.last.now alike)

pub clear_spare-requires-clause-frames : goal.clear_spare-requires-clause-frames
clear_spare-requires-clause-frames g c = λ frames.
    let all = c.args.products.now in
    let product = c.get-product.result.now in
    let alike = number-alike all.last.now all.earlier.items _ product all.follow c.get-product.ensures in
    c.read_record.ensures.frames frames ∙ c.requires.spare ∙ sym (alike-empty product all.last.now alike)

pub returns-in-Ok-clause-room : goal.returns-in-Ok-clause-room
returns-in-Ok-clause-room g c =
    let all = c.args.products.now in
    let product = c.get-product.result.now in
    let alike = number-alike all.last.now all.earlier.items _ product all.follow c.get-product.ensures in
    alike-room product all.last.now c.read_record.new.scratch alike c.read_record.ensures.room

pub returns-in-Ok-clause-spare : goal.returns-in-Ok-clause-spare
returns-in-Ok-clause-spare g c =
    let all = c.args.products.now in
    let product = c.get-product.result.now in
    let alike = number-alike all.last.now all.earlier.items _ product all.follow c.get-product.ensures in
    c.clear_spare.ensures ∙ alike-empty product all.last.now alike

pub returns-in-Err-clause-room : goal.returns-in-Err-clause-room
returns-in-Err-clause-room g c =
    let all = c.args.products.now in
    let product = c.get-product.result.now in
    let alike = number-alike all.last.now all.earlier.items _ product all.follow c.get-product.ensures in
    alike-room product all.last.now c.read_record.new.scratch alike c.read_record.ensures.room

pub returns-in-Err-clause-spare : goal.returns-in-Err-clause-spare
returns-in-Err-clause-spare g c = c.in-Err.ensures.unread refl ∙ c.requires.spare

-- ---- what was read, and is given

pub returns-in-Ok-clause-reads : goal.returns-in-Ok-clause-reads
returns-in-Ok-clause-reads g c =
    let m = g.S.Station.meanings in
    reads_look m _ _ _ c.in-Ok-Some.entry.length (reads_look m _ _ _ 6 (reads_itself m c.args.station.now) c.next_known.ensures.looks) c.read_record.ensures.looks

pub returns-in-Err-clause-reads : goal.returns-in-Err-clause-reads
returns-in-Err-clause-reads g c =
    let m = g.S.Station.meanings in
    reads_look m _ _ _ c.in-Ok-Some.entry.length (reads_look m _ _ _ 6 (reads_itself m c.args.station.now) c.next_known.ensures.looks) c.read_record.ensures.looks

pub returns-in-Ok-clause-rises : goal.returns-in-Ok-clause-rises
returns-in-Ok-clause-rises g c =
    let step = c.read_record.ensures.stays ∙ some_moved c.args.journal.now c.next_known.new.journal c.in-Ok-Some.field-0 c.in-Ok-Some.entry c.in-Ok-Some.field-0-is c.in-Ok-Some.ensures.moves in
    omega (arith, ap (λ (s : Standing). s.gate) step, c.in-Ok.ensures.size)

-- ---- the records

pub returns-in-Ok-None-clause-records : goal.returns-in-Ok-None-clause-records
returns-in-Ok-None-clause-records g c = λ head image records before holds known read place.
    let all = all_products c.args.products.now in
    let limit = c.args.journal.now.limit in
    none_left head limit image all records before c.args.passed read c.next_known.new.journal.gate c.in-Ok-None.field-0 c.in-Ok-None.field-0-is
    (c.in-Ok-None.ensures.in_order head image before read.rest holds known (journal_on head limit image all records before c.args.passed read) place)

pub returns-in-Err-Bad-clause-records : goal.returns-in-Err-Bad-clause-records
returns-in-Err-Bad-clause-records g c = λ head image records before holds known read place.
    let all = all_products c.args.products.now in
    let limit = c.args.journal.now.limit in
    absurd (none_bad head limit image all records before c.args.passed read c.next_known.new.journal.gate c.in-Err-Bad.at c.in-Err-Bad.field-0 c.in-Err-Bad.field-0-is
    (c.in-Err-Bad.ensures.in_order head image before read.rest holds known (journal_on head limit image all records before c.args.passed read) place))

pub returns-in-Ok-clause-records : goal.returns-in-Ok-clause-records
returns-in-Ok-clause-records g c = λ head image records before holds known read place.
    let products = c.args.products.now in
    let all = all_products products in
    let limit = c.args.journal.now.limit in
    let entry = c.in-Ok-Some.entry in
    let gate = c.next_known.new.journal.gate in
    let next = one_left head limit image all records before c.args.passed read gate c.in-Ok-Some.field-0 entry c.in-Ok-Some.field-0-is
    (c.in-Ok-Some.ensures.in_order head image before read.rest holds known (journal_on head limit image all records before c.args.passed read) place) in
    let number = c.number_behind-number.result in
    let number_is = number_there head limit image all records before c.args.passed read entry gate next products.earlier.items products.last.now refl number c.number_behind-number.ensures.amends c.number_behind-number.ensures.stays in
    let product = c.get-product.result.now in
    let same = product_there head limit image all records before c.args.passed read entry gate next number products.last.now product number_is c.get-product.ensures in
    let met = some_moved c.args.journal.now c.next_known.new.journal c.in-Ok-Some.field-0 entry c.in-Ok-Some.field-0-is c.in-Ok-Some.ensures.moves in
    content_more head limit image all records before c.args.passed read entry gate next product same c.read_record.new.scratch.framer.given c.read_record.new.core c.read_record.new.journal.gate
    (record { messages = c.in-Ok.messages; product = number }) (ap (λ (s : Standing). s.gate) c.read_record.ensures.stays) number_is
    (c.in-Ok.ensures.reads image (c.next_known.ensures.looks.keeps.holds ∙ holds) (stands_moved c.args.journal.now c.next_known.new.journal _ _ image met known)
    (gives_there head limit image all records before c.args.passed read entry gate next product same))

pub returns-in-Err-clause-records : goal.returns-in-Err-clause-records
returns-in-Err-clause-records g c = λ head image records before holds known read place.
    let products = c.args.products.now in
    let all = all_products products in
    let limit = c.args.journal.now.limit in
    let entry = c.in-Ok-Some.entry in
    let gate = c.next_known.new.journal.gate in
    let next = one_left head limit image all records before c.args.passed read gate c.in-Ok-Some.field-0 entry c.in-Ok-Some.field-0-is
    (c.in-Ok-Some.ensures.in_order head image before read.rest holds known (journal_on head limit image all records before c.args.passed read) place) in
    let number = c.number_behind-number.result in
    let number_is = number_there head limit image all records before c.args.passed read entry gate next products.earlier.items products.last.now refl number c.number_behind-number.ensures.amends c.number_behind-number.ensures.stays in
    let product = c.get-product.result.now in
    let same = product_there head limit image all records before c.args.passed read entry gate next number products.last.now product number_is c.get-product.ensures in
    let met = some_moved c.args.journal.now c.next_known.new.journal c.in-Ok-Some.field-0 entry c.in-Ok-Some.field-0-is c.in-Ok-Some.ensures.moves in
    content_unread head limit image all records before c.args.passed read entry gate next product same c.read_record.new.scratch.framer.given c.read_record.new.core c.read_record.new.journal.gate c.in-Err.why
    (c.in-Err.ensures.reads image (c.next_known.ensures.looks.keeps.holds ∙ holds) (stands_moved c.args.journal.now c.next_known.new.journal _ _ image met known)
    (gives_there head limit image all records before c.args.passed read entry gate next product same))
