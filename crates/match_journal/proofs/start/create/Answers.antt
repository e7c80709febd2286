use Rattle.std.proofs.Common.{ap, List, ℕ, ◌++◌, [], ◌∷◌}
use Rattle.match_journal.specs.Journal.{in_version}
use Rattle.match_journal.proofs.Creating.{create_stopped, create_done}
use Rattle.match_journal.proofs.start.create.Goals as goal

pub returns-in_err-store_parts-clause-steps : goal.returns-in_err-store_parts-clause-steps
returns-in_err-store_parts-clause-steps g c = λ image limit fits closed.
    create_stopped g.S.Station.meanings (in_version c.args.version c.args.product.now) limit c.requires.short fits c.args.station.now c.store_parts.new.station image _ _ _ _ (ap (λ (l : List ℕ). l ++ (c.args.product.now ++ 0 ∷ [])) c.head_of.ensures) closed c.from_residual.ensures.0 c.in_err-store_parts.ensures

pub returns-clause-steps : goal.returns-clause-steps
returns-clause-steps g c = λ image limit fits closed.
    create_done g.S.Station.meanings (in_version c.args.version c.args.product.now) limit c.requires.short fits c.args.station.now c.store_parts.new.station c.store.new.station image _ _ _ (ap (λ (l : List ℕ). l ++ (c.args.product.now ++ 0 ∷ [])) c.head_of.ensures) closed c.in_ok-store_parts.ensures c.store.ensures
