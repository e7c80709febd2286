use Rattle.std.proofs.Common.{Err, ap, ◌∙◌}
use Rattle.globex_run.proofs.AmendKeeping.{kept, bad-kept, unread-kept}
use Rattle.globex_run.proofs.amend.keep.Goals as goal

pub returns-in-Ok : goal.returns-in-Ok
returns-in-Ok g c = record {
  did =
      kept g.S.Station.meanings c.args.taken.now.product.now c.args.taken.now.text.now c.args.taken.now.gives c.args.station.now c.recover.new.station c.args.journal.now c.requires.looked c.recover.ensures.reads
      c.recover.new.journal.gate c.recover.new.core c.recover.result c.recover.ensures.recovers c.in-Ok.recovered c.in-Ok.is c.in-Ok.recovered.messages c.in-Ok.ensures.counts (c.in-Ok.ensures.none (λ e. cc e));
}

pub returns-in-Err-Store : goal.returns-in-Err-Store
returns-in-Err-Store g c = record {
  did =
      unread-kept g.S.Station.meanings c.args.taken.now.product.now c.args.taken.now.text.now c.args.taken.now.gives c.args.station.now c.recover.new.station c.args.journal.now c.requires.looked c.recover.ensures.reads
      c.recover.new.journal.gate c.recover.new.core c.recover.result c.recover.ensures.recovers (c.recover.ensures.store (c.in-Err-Store.is ∙ ap Err c.in-Err-Store.field-0-is));
}

pub returns-in-Err-Bad : goal.returns-in-Err-Bad
returns-in-Err-Bad g c = record {
  did =
      bad-kept g.S.Station.meanings c.args.taken.now.product.now c.args.taken.now.text.now c.args.taken.now.gives c.args.station.now c.recover.new.station c.args.journal.now c.requires.looked c.recover.ensures.reads
      c.recover.new.journal.gate c.recover.new.core c.recover.result c.recover.ensures.recovers c.in-Err-Bad.at (c.in-Err-Bad.is ∙ ap Err c.in-Err-Bad.field-0-is) (c.recover.ensures.none (λ e. cc (e, c.in-Err-Bad.is, c.in-Err-Bad.field-0-is)));
}
