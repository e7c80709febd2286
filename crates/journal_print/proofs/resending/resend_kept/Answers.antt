use Rattle.std.proofs.Common.{◌≤◌, ◌+◌, ℕ, length, refl, sym, subst, ◌∙◌, ap, arith}
use Rattle.match_journal.specs.Journal.{Header, IsJournal}
use Rattle.match_journal.specs.declared.limits.TheConstants.{MOST_LIMIT}
use Rattle.match_journal.specs.declared.standing.Standing.{Standing}
use Rattle.match_journal.proofs.AmendedAt.{header_of_journal}
use Rattle.book_recovery.specs.Products.{all_products}
use Rattle.book_recovery.proofs.Standings.{moved_itself, moved_then, stands_moved}
use Rattle.journal_print.specs.declared.kept.KeptJournal.{KeptJournal}
use Rattle.journal_print.proofs.KeptJournals.{kept_moved, again_moved, on_then, idle_again, cleared_new}
use Rattle.journal_print.proofs.LinesAgain.{resent}
use Rattle.journal_print.proofs.resending.resend_kept.Goals as goal

pub publish_records-requires-clause-new : goal.publish_records-requires-clause-new
publish_records-requires-clause-new g c =
    let idle = c.requires.idle in
    record { core = c.clear.ensures ∙ cleared_new c.args.kept.now.products.last.now c.args.reader.now.core idle.core; spare = idle.spare; room = idle.room; reports = idle.reports }

pub returns-clause-again : goal.returns-clause-again
returns-clause-again g c =
    let kept = c.args.kept.now in
    let then : KeptJournal = record { journal = c.publish_records.new.journal; products = kept.products } in
    on_then c.publish_records.result
    (λ gone.
    let is = moved_then kept.journal c.rewind.new.self then.journal _ _ (moved_itself kept.journal c.rewind.new.self _ _ c.rewind.ensures) gone.same in
    again_moved kept then _ _ is refl g.S.Station.meanings kept.products.last.now c.args.station.now c.publish_records.new.station gone.reach gone.stands c.requires.again)
    c.publish_records.ensures.again

pub returns-clause-idle : goal.returns-clause-idle
returns-clause-idle g c =
    idle_again g.S.Station.meanings c.args.kept.now.products.last.now _ _ c.args.station.now c.publish_records.new.station c.publish_records.new.reader c.publish_records.result c.publish_records.ensures.again c.publish_records.ensures.fits c.publish_records.ensures.empty

pub returns-clause-stays : goal.returns-clause-stays
returns-clause-stays g c = λ image of_image.
    let kept = c.args.kept.now in
    let then : KeptJournal = record { journal = c.publish_records.new.journal; products = kept.products } in
    on_then c.publish_records.result
    (λ gone.
    let is = moved_then kept.journal c.rewind.new.self then.journal _ _ (moved_itself kept.journal c.rewind.new.self _ _ c.rewind.ensures) gone.same in
    kept_moved kept then _ _ is refl image of_image)
    c.publish_records.ensures.again

pub returns-clause-sends : goal.returns-clause-sends
returns-clause-sends g c = λ text image history read of_image has.
    let m = g.S.Station.meanings in
    let kept = c.args.kept.now in
    let journal = c.rewind.new.self in
    let again = c.requires.again in
    let limit = ap (λ (s : Standing). s.limit) c.rewind.ensures in
    let stands = of_image.stands in
    let taken = of_image.taken in
    let head = of_image.head in
    let most : journal.limit ≤ MOST_LIMIT = omega (arith, limit, again.stands.in_limit) in
    let most_kept : kept.journal.limit ≤ MOST_LIMIT = again.stands.in_limit in
    let heads = subst (λ (k : ℕ). IsJournal head k taken.records image) (sym limit) taken.heads in
    let same_head = header_of_journal head stands.head kept.journal.limit image taken.records most_kept taken.heads stands.opened.gate stands.opened.header in
    let place = ap (λ (s : Standing). s.gate) c.rewind.ensures ∙ stands.first ∙ ap (λ (h : Header). 13 + length h.text) (sym same_head) in
    resent m c.args.range.now head journal.limit image (all_products kept.products) taken.records heads taken.all c.args.station.now c.publish_records.new.station _ c.publish_records.new.work refl c.publish_records.new.reader.core
    kept.products.last.now text history most (limit ∙ again.limit) has c.publish_records.result
    (c.publish_records.ensures.publishes head image taken.records read (stands_moved kept.journal journal _ _ image c.rewind.ensures stands) heads place taken.all)
