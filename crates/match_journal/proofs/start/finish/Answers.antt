use Rattle.std.proofs.Common.{◌≤◌, length, ap, subst, arith}
use Rattle.match_journal.specs.Journal.{in_version}
use Rattle.match_journal.specs.Inner.Fronts.{IsOfClass, IsInside, is_open}
use Rattle.match_journal.specs.declared.class.Class.{Class}
use Rattle.match_journal.proofs.Stepping.{settled_then, settled_later}
use Rattle.match_journal.proofs.Creating.{same_steps, empty_stopped, empty_done, empty_told, blank_done, blank_told, sealed_done, sealed_made, sealed_told, open_done}
use Rattle.match_journal.proofs.Found.{header_here, sealed_here}
use Rattle.match_journal.proofs.start.finish.Goals as goal

-- ---- an empty image

pub returns-in_err-store-in-Empty-clause-steps : goal.returns-in_err-store-in-Empty-clause-steps
returns-in_err-store-in-Empty-clause-steps g c = λ image limit head records fits held told last keeps.
    let m = g.S.Station.meanings in
    let here = in_version c.args.version c.args.product.now in
    let small : length image ≤ 1 = subst (λ (k : Class). IsOfClass limit image k c.args.found.now.text) c.in-Empty.is held.is_found.class in
    let same = header_here c.args.product.now limit image c.args.found.now.class c.args.found.now.text head c.args.version records held.is_found.class (ap is_open c.in-Empty.is) told last keeps in
    same_steps m c.args.product.now limit records head here c.args.station.now c.store.new.station image _ same.1 (λ keeps. empty_stopped m here limit c.requires.short fits c.args.station.now c.store.new.station image records _ _ small keeps c.from_residual.ensures.0 c.in_err-store-in-Empty.ensures) keeps

pub returns-in_ok-store-in-Empty-clause-settled : goal.returns-in_ok-store-in-Empty-clause-settled
returns-in_ok-store-in-Empty-clause-settled g c =
    settled_later g.S.Station.meanings c.args.station.now c.create.new.station _ (settled_then g.S.Station.meanings c.args.station.now c.store.new.station c.create.new.station _ _ c.in_ok-store-in-Empty.ensures.puts c.create.ensures.settled)

pub returns-in_ok-store-in-Empty-clause-makes_one : goal.returns-in_ok-store-in-Empty-clause-makes_one
returns-in_ok-store-in-Empty-clause-makes_one g c = λ image limit fits shut held read told.
    let small : length image ≤ 1 = subst (λ (k : Class). IsOfClass limit image k c.args.found.now.text) c.in-Empty.is held.is_found.class in
    empty_told g.S.Station.meanings (in_version c.args.version c.args.product.now) limit c.requires.short fits c.args.station.now c.store.new.station c.create.new.station image _ _ _ small read (omega (arith, small, held.is_found.len)) c.in_ok-store-in-Empty.ensures c.create.ensures.steps

pub returns-in_ok-store-in-Empty-clause-steps : goal.returns-in_ok-store-in-Empty-clause-steps
returns-in_ok-store-in-Empty-clause-steps g c = λ image limit head records fits held told last keeps.
    let m = g.S.Station.meanings in
    let here = in_version c.args.version c.args.product.now in
    let small : length image ≤ 1 = subst (λ (k : Class). IsOfClass limit image k c.args.found.now.text) c.in-Empty.is held.is_found.class in
    let same = header_here c.args.product.now limit image c.args.found.now.class c.args.found.now.text head c.args.version records held.is_found.class (ap is_open c.in-Empty.is) told last keeps in
    same_steps m c.args.product.now limit records head here c.args.station.now c.create.new.station image _ same.1 (λ keeps. empty_done m here limit c.requires.short fits c.args.station.now c.store.new.station c.create.new.station image records _ _ small keeps c.in_ok-store-in-Empty.ensures c.create.ensures.steps) keeps

-- ---- a blank one

pub returns-in-Blank-clause-makes_one : goal.returns-in-Blank-clause-makes_one
returns-in-Blank-clause-makes_one g c = λ image limit fits shut held read told.
    let blank = subst (λ (k : Class). IsOfClass limit image k c.args.found.now.text) c.in-Blank.is held.is_found.class in
    let some : 1 ≤ c.args.found.now.len = subst (λ (k : Class). IsInside k c.args.found.now.text c.args.found.now.len) c.in-Blank.is c.requires.inside in
    blank_told g.S.Station.meanings (in_version c.args.version c.args.product.now) limit c.requires.short fits c.args.station.now c.create-in-Blank.new.station image _ _ (omega (arith, some, held.is_found.len)) blank.0 blank.1 read (omega (arith, held.is_found.len)) c.create-in-Blank.ensures.steps

pub returns-in-Blank-clause-steps : goal.returns-in-Blank-clause-steps
returns-in-Blank-clause-steps g c = λ image limit head records fits held told last keeps.
    let m = g.S.Station.meanings in
    let here = in_version c.args.version c.args.product.now in
    let blank = subst (λ (k : Class). IsOfClass limit image k c.args.found.now.text) c.in-Blank.is held.is_found.class in
    let some : 1 ≤ c.args.found.now.len = subst (λ (k : Class). IsInside k c.args.found.now.text c.args.found.now.len) c.in-Blank.is c.requires.inside in
    let same = header_here c.args.product.now limit image c.args.found.now.class c.args.found.now.text head c.args.version records held.is_found.class (ap is_open c.in-Blank.is) told last keeps in
    same_steps m c.args.product.now limit records head here c.args.station.now c.create-in-Blank.new.station image _ same.1 (λ keeps. blank_done m here limit c.requires.short fits c.args.station.now c.create-in-Blank.new.station image records _ (omega (arith, some, held.is_found.len)) blank.0 blank.1 keeps c.create-in-Blank.ensures.steps) keeps

-- ---- a sealed one

pub returns-in-Sealed-clause-makes_one : goal.returns-in-Sealed-clause-makes_one
returns-in-Sealed-clause-makes_one g c = λ image limit fits shut held read told.
    let sealed = sealed_here c.args.product.now limit image c.args.found.now.class _ _ c.args.found.now.text c.args.version c.in-Sealed.is held.is_found.class held.has_text told in
    sealed_told g.S.Station.meanings (in_version c.args.version c.args.product.now) limit c.requires.short fits c.args.station.now c.store-in-Sealed.new.station image _ _ sealed read (omega (arith, held.is_found.len, sealed.header.inside)) c.store-in-Sealed.ensures

pub returns-in-Sealed-clause-makes : goal.returns-in-Sealed-clause-makes
returns-in-Sealed-clause-makes g c = λ image limit fits is sealed read. sealed_made g.S.Station.meanings (in_version c.args.version c.args.product.now) limit c.requires.short fits c.args.station.now c.store-in-Sealed.new.station image _ sealed read c.store-in-Sealed.ensures

pub returns-in-Sealed-clause-steps : goal.returns-in-Sealed-clause-steps
returns-in-Sealed-clause-steps g c = λ image limit head records fits held told last keeps.
    let m = g.S.Station.meanings in
    let here = in_version c.args.version c.args.product.now in
    let sealed = sealed_here c.args.product.now limit image c.args.found.now.class _ _ c.args.found.now.text c.args.version c.in-Sealed.is held.is_found.class held.has_text told in
    let same = header_here c.args.product.now limit image c.args.found.now.class c.args.found.now.text head c.args.version records held.is_found.class (ap is_open c.in-Sealed.is) told last keeps in
    same_steps m c.args.product.now limit records head here c.args.station.now c.store-in-Sealed.new.station image _ same.1 (λ keeps. sealed_done m here limit c.requires.short fits c.args.station.now c.store-in-Sealed.new.station image records _ sealed keeps c.store-in-Sealed.ensures) keeps

-- ---- a journal

pub returns-in-Open-clause-steps : goal.returns-in-Open-clause-steps
returns-in-Open-clause-steps g c = λ image limit head records fits held told last keeps.
    let opened = subst (λ (k : Class). IsOfClass limit image k c.args.found.now.text) c.in-Open.is held.is_found.class in
    open_done g.S.Station.meanings c.args.product.now limit head records c.args.station.now image _ last opened.opened.gate (omega (arith, opened.opened.header.inside)) keeps
