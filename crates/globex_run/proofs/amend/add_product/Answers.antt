use Rattle.std.proofs.Common.{Err, sym, ap, subst}
use Rattle.order_kinds.proofs.Amended.{fits-follows}
use Rattle.globex_run.specs.Inner.Amending.{AmendsJournal}
use Rattle.globex_run.specs.declared.unamended.Unamended.{Unamended}
use Rattle.globex_run.proofs.AmendFollowed.{new-before, room-before, room-after}
use Rattle.globex_run.proofs.AmendAdded.{not-opened, amended-by}
use Rattle.globex_run.proofs.amend.add_product.Goals as goal

pub open_journal-opened-requires-clause-new : goal.open_journal-opened-requires-clause-new
open_journal-opened-requires-clause-new g c = new-before c.args.kept.now.product.now c.args.taken.now.product.now c.requires.may c.args.core.now c.requires.new

pub open_journal-opened-requires-clause-room : goal.open_journal-opened-requires-clause-room
open_journal-opened-requires-clause-room g c = room-before c.args.kept.now.product.now c.args.taken.now.product.now c.requires.may c.args.scratch.now c.requires.space

pub amend-requires : goal.amend-requires
amend-requires g c = fits-follows c.args.kept.now.product.now c.args.taken.now.product.now c.open_journal-opened.new.core c.in-Ok.ensures.fits c.requires.may

pub add_record-requires-clause-space : goal.add_record-requires-clause-space
add_record-requires-clause-space g c = room-after c.args.kept.now.product.now c.args.taken.now.product.now c.requires.may c.open_journal-opened.new.scratch c.open_journal-opened.ensures.room

pub returns-in-Ok : goal.returns-in-Ok
returns-in-Ok g c = record {
  did =
      amended-by g.S.Station.meanings c.args.taken.now.product.now c.requires.right c.args.taken.now.text.now c.args.kept.now.text.now c.args.kept.now.product.now c.args.kept.now.gives c.requires.may c.requires.other
      c.args.station.now c.open_journal-opened.new.station c.requires.second
      c.in-Ok.journal c.in-Ok.ensures.limit c.in-Ok.ensures.version c.open_journal-opened.new.core c.amend.new.self c.amend.ensures.amends c.open_journal-opened.ensures.silent (c.in-Ok.ensures.none (λ e. cc e)) c.in-Ok.ensures.answers c.in-Ok.ensures.opens
      c.add_record.new.station c.add_record.result g.met.S.Station.honest c.add_record.ensures.silent c.add_record.ensures.store c.add_record.ensures.none c.add_record.ensures.adds;
}

pub returns-in-Err : goal.returns-in-Err
returns-in-Err g c = record {
  did =
      subst (λ (w : Unamended). AmendsJournal g.S.Station.meanings c.args.taken.now.product.now c.args.taken.now.text.now c.args.station.now c.open_journal-opened.new.station (Err w)) (sym c.of_unopened.ensures)
      (not-opened g.S.Station.meanings c.args.taken.now.product.now c.requires.right c.args.taken.now.text.now c.args.kept.now.text.now c.args.kept.now.product.now c.args.kept.now.gives c.requires.may c.requires.other
      c.args.station.now c.open_journal-opened.new.station c.requires.second
      c.in-Err.why c.open_journal-opened.new.core c.open_journal-opened.ensures.silent (λ is. c.in-Err.ensures.store (ap Err is)) (λ no. c.in-Err.ensures.none (λ is. no (cc is))) c.in-Err.ensures.answers c.in-Err.ensures.stays c.in-Err.ensures.opens);
}
