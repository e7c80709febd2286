use Rattle.std.proofs.Common.{ℕ, Option, Ok, Err, refl, sym, subst, ◌∙◌}
use Rattle.match_journal.specs.Journal.{IsJournal}
use Rattle.order_kinds.specs.State.{State}
use Rattle.book_recovery.specs.Products.{all_products}
use Rattle.book_recovery.proofs.Standings.{stands_first}
use Rattle.journal_print.specs.KeptJournals.{CanBeReadAgain}
use Rattle.journal_print.specs.Inner.Keeping.{OpensKept}
use Rattle.journal_print.specs.Inner.Publishing.{Publishes}
use Rattle.journal_print.specs.declared.kept.KeptJournal.{KeptJournal}
use Rattle.journal_print.specs.declared.records.Until.TheVariants.{End}
use Rattle.journal_print.proofs.KeptJournals.{kept_of, kept_moved}
use Rattle.journal_print.proofs.Printing.{some_found, none_kept, all_kept, stopped}
use Rattle.journal_print.proofs.Stations.{looking_then}
use Rattle.journal_print.proofs.kept.publish_kept.Goals as goal

pub publish_records-gone-requires-clause-work : goal.publish_records-gone-requires-clause-work
publish_records-gone-requires-clause-work g c =
    subst (λ (x : State). g.W.RecordWork.meanings.Fits c.args.work.now x) (sym c.requires.new.core) c.requires.work

pub returns-in-Ok-None-clause-publishes : goal.returns-in-Ok-None-clause-publishes
returns-in-Ok-None-clause-publishes g c = λ image read.
    let told = subst (λ (o : Option KeptJournal). OpensKept c.args.product.now c.args.text.now image (Ok o)) c.in-Ok-None.field-0-is (c.in-Ok-None.ensures.opens image read) in
    none_kept g.S.Station.meanings g.W.RecordWork.meanings c.args.product.now c.args.text.now image c.args.station.now c.open_kept.new.station c.args.work.now c.args.reader.now.core told c.open_kept.ensures.reads.looks.silent.sent c.requires.new.core

pub returns-in-Ok-clause-silent : goal.returns-in-Ok-clause-silent
returns-in-Ok-clause-silent g c = λ silent. looking_then g.S.Station.meanings _ _ _ c.open_kept.ensures.reads (c.publish_records-gone.ensures.silent silent)

pub returns-in-Ok-clause-publishes : goal.returns-in-Ok-clause-publishes
returns-in-Ok-clause-publishes g c = λ image read.
    let m = g.S.Station.meanings in
    let w = g.W.RecordWork.meanings in
    let product = c.args.product.now in
    let kept = c.in-Ok-Some.kept in
    let opened = subst (λ (o : Option KeptJournal). OpensKept product c.args.text.now image (Ok o)) c.in-Ok-Some.field-0-is (c.in-Ok-Some.ensures.opens image read) in
    let again = some_found (λ (k : KeptJournal). CanBeReadAgain m product k c.open_kept.new.station) c.in-Ok-Some.field-0 kept c.in-Ok-Some.field-0-is c.in-Ok-Some.ensures.again in
    let looks = c.open_kept.ensures.reads.looks in
    let head = opened.opened.head in
    let taken = opened.taken in
    let heads = subst (λ (k : ℕ). IsJournal head k taken.records image) (sym again.limit) taken.heads in
    let done = c.in-Ok.ensures.publishes head image taken.records (looks.keeps.holds ∙ read) opened.stands heads (opened.gate ∙ stands_first kept.journal head image opened.stands opened.opened.opened.header) taken.all in
    let all =
    subst (λ (k : ℕ). Publishes m w head k image (all_products kept.products) taken.records c.open_kept.new.station c.publish_records-gone.new.station c.args.work.now c.publish_records-gone.new.work c.publish_records-gone.new.reader.core End taken.all (Ok c.in-Ok.field-0)) again.limit done in
    let then : KeptJournal = record { journal = c.publish_records-gone.new.journal; products = kept.products } in
    all_kept m w product c.args.text.now image c.args.station.now c.open_kept.new.station c.publish_records-gone.new.station looks.silent.sent c.args.work.now c.publish_records-gone.new.work c.publish_records-gone.new.reader.core opened.opened (all_products kept.products) taken.records taken.heads taken.all
    then (kept_moved kept then _ _ c.in-Ok.ensures.again.same refl image (kept_of product c.args.text.now image kept again.limit opened)) c.in-Ok.field-0 all

pub returns-clause-silent : goal.returns-clause-silent
returns-clause-silent g c = λ silent. looking_then g.S.Station.meanings _ _ _ c.open_kept.ensures.reads (c.publish_records-gone.ensures.silent silent)

pub returns-clause-publishes : goal.returns-clause-publishes
returns-clause-publishes g c = λ image read.
    let m = g.S.Station.meanings in
    let w = g.W.RecordWork.meanings in
    let product = c.args.product.now in
    let kept = c.in-Ok-Some.kept in
    let opened = subst (λ (o : Option KeptJournal). OpensKept product c.args.text.now image (Ok o)) c.in-Ok-Some.field-0-is (c.in-Ok-Some.ensures.opens image read) in
    let again = some_found (λ (k : KeptJournal). CanBeReadAgain m product k c.open_kept.new.station) c.in-Ok-Some.field-0 kept c.in-Ok-Some.field-0-is c.in-Ok-Some.ensures.again in
    let looks = c.open_kept.ensures.reads.looks in
    let head = opened.opened.head in
    let taken = opened.taken in
    let heads = subst (λ (k : ℕ). IsJournal head k taken.records image) (sym again.limit) taken.heads in
    let done = c.in-Err-gone.ensures.publishes head image taken.records (looks.keeps.holds ∙ read) opened.stands heads (opened.gate ∙ stands_first kept.journal head image opened.stands opened.opened.opened.header) taken.all in
    let all =
    subst (λ (k : ℕ). Publishes m w head k image (all_products kept.products) taken.records c.open_kept.new.station c.publish_records-gone.new.station c.args.work.now c.publish_records-gone.new.work c.publish_records-gone.new.reader.core End taken.all (Err c.in-Err-gone.fault)) again.limit done in
    stopped m w product c.args.text.now image c.args.station.now c.open_kept.new.station c.publish_records-gone.new.station looks.silent.sent c.args.work.now c.publish_records-gone.new.work c.publish_records-gone.new.reader.core opened.opened (all_products kept.products) taken.records taken.heads taken.all c.in-Err-gone.fault all
