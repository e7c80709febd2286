use Rattle.std.proofs.Common.{refl}
use Rattle.match_journal.specs.LookLaws.{reads_itself}
use Rattle.globex_run.specs.declared.unamended.Unamended.TheVariants.{NotAmendable}
use Rattle.globex_run.proofs.AmendReads.{refuses}
use Rattle.globex_run.proofs.AmendFollowed.{refuses-product, not-amendable, second-of}
use Rattle.globex_run.proofs.amend.follow.Goals as goal

pub add_product-requires-clause-may : goal.add_product-requires-clause-may
add_product-requires-clause-may g c = c.in-Ok-may_amend.ensures.1

pub add_product-requires-clause-second : goal.add_product-requires-clause-second
add_product-requires-clause-second g c = λ image held.
    second-of g.S.Station.meanings c.args.taken.now.product.now c.args.taken.now.text.now c.args.kept_text.now c.requires.other c.args.station.now c.args.journal.now c.requires.looked image held (c.requires.heads image held)
    c.version.result c.version.ensures c.in-Ok-may_amend.ensures.0

pub returns-in-Err : goal.returns-in-Err
returns-in-Err g c = record {
  did =
      refuses-product g.S.Station.meanings c.args.taken.now.product.now c.args.taken.now.text.now c.args.kept_text.now c.requires.other c.args.station.now c.args.journal.now c.requires.looked c.requires.heads
      c.in-Err.fault c.in-Err.ensures.refused c.without_product.result c.without_product.ensures;
}

pub returns-in-Err-may_amend : goal.returns-in-Err-may_amend
returns-in-Err-may_amend g c = record {
  did =
      refuses g.S.Station.meanings c.args.taken.now.product.now c.args.taken.now.text.now c.args.station.now c.args.station.now (NotAmendable c.in-Err-may_amend.reason) tt (reads_itself g.S.Station.meanings c.args.station.now) (λ is. cc is) (λ other. refl)
      (λ image held.
      not-amendable g.S.Station.meanings c.args.taken.now.product.now c.args.taken.now.text.now c.args.kept_text.now c.requires.other c.args.station.now c.args.journal.now c.requires.looked image held (c.requires.heads image held)
      c.in-Ok.product c.in-Ok.ensures.read c.version.result c.version.ensures c.in-Err-may_amend.reason c.in-Err-may_amend.ensures);
}
