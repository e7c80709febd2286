use Rattle.std.proofs.Common.{subst}
use Rattle.order_maker.specs.Stream.{MadeStream}
use Rattle.stream_laws.proofs.MadeStreams.{made-rest}
use Rattle.globex_run.specs.Inner.Drilling.{DrillResult}
use Rattle.globex_run.proofs.session.Session.drill.Goals as goal

pub returns-clause-drills : goal.returns-clause-drills
returns-clause-drills g c = record {
  whole = made-rest c.args.self.now.product.now c.args.first c.args.count c.limits.ensures c.names_are_right.ensures c.ranges.count.fits;
  end = c.run_drill.new.made;
  did = subst (λ (s : MadeStream). DrillResult g.S.Station.meanings c.args.self.now.product.now c.args.self.now.text.now s c.run_drill.new.made c.args.station.now c.run_drill.new.station c.run_drill.result) c.new-made.ensures c.run_drill.ensures.drills;
}
