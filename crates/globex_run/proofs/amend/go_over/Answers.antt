use Rattle.std.proofs.Common.{ℕ, Err, refl, sym, ap, subst, ◌∙◌}
use Rattle.globex_run.specs.Inner.Amending.{AmendsJournal}
use Rattle.globex_run.specs.declared.unamended.Unamended.TheVariants.{Store, Bad}
use Rattle.globex_run.proofs.AmendReads.{reads-first, refuses}
use Rattle.globex_run.proofs.AmendFollowed.{first-in-limit, looked-behind, good-heads, bad-heads}
use Rattle.globex_run.proofs.amend.go_over.Goals as goal

pub check_heads-requires-clause-in_limit : goal.check_heads-requires-clause-in_limit
check_heads-requires-clause-in_limit g c = first-in-limit g.S.Station.meanings c.args.station.now c.args.journal.now c.requires.looked.at

pub follow-requires-clause-looked : goal.follow-requires-clause-looked
follow-requires-clause-looked g c = looked-behind g.S.Station.meanings c.args.station.now c.check_heads.new.station c.args.journal.now c.check_heads.new.journal c.args.kept_text.now c.requires.looked c.check_heads.ensures.reads c.check_heads.ensures.same c.check_heads.ensures.stands

pub follow-requires-clause-heads : goal.follow-requires-clause-heads
follow-requires-clause-heads g c = λ image held.
    good-heads g.S.Station.meanings c.args.station.now c.args.journal.now c.args.kept_text.now c.requires.looked image (sym c.check_heads.ensures.reads.looks.keeps.holds ∙ held) c.check_heads.result c.check_heads.ensures.checks c.in-Ok.is

pub returns-in-Ok : goal.returns-in-Ok
returns-in-Ok g c = record {
  did = reads-first g.S.Station.meanings c.args.taken.now.product.now c.args.taken.now.text.now c.args.station.now c.check_heads.new.station c.follow.new.station c.check_heads.ensures.reads c.follow.result (c.in-Ok.ensures.none (λ e. cc e)) c.follow.ensures.did;
}

pub returns-in-Err-Store : goal.returns-in-Err-Store
returns-in-Err-Store g c = record {
  did =
      refuses g.S.Station.meanings c.args.taken.now.product.now c.args.taken.now.text.now c.args.station.now c.check_heads.new.station Store tt c.check_heads.ensures.reads
      (λ is. c.check_heads.ensures.store (c.in-Err-Store.is ∙ ap Err c.in-Err-Store.field-0-is)) (λ other. absurd (other refl)) (λ image held. tt);
}

pub returns-in-Err-Bad : goal.returns-in-Err-Bad
returns-in-Err-Bad g c = record {
  did =
      subst (λ (n : ℕ). AmendsJournal g.S.Station.meanings c.args.taken.now.product.now c.args.taken.now.text.now c.args.station.now c.check_heads.new.station (Err (Bad n))) (sym c.in-Err-Bad.at-is)
      (refuses g.S.Station.meanings c.args.taken.now.product.now c.args.taken.now.text.now c.args.station.now c.check_heads.new.station (Bad c.in-Err-Bad.at) tt c.check_heads.ensures.reads
      (λ is. cc is) (λ other. c.check_heads.ensures.none (λ e. cc (e, c.in-Err-Bad.is, c.in-Err-Bad.field-0-is)))
      (λ image held. bad-heads g.S.Station.meanings c.args.station.now c.args.journal.now c.args.kept_text.now c.requires.looked image held c.check_heads.result c.check_heads.ensures.checks c.args.taken.now.product.now c.args.taken.now.text.now c.requires.other c.in-Err-Bad.at (c.in-Err-Bad.is ∙ ap Err c.in-Err-Bad.field-0-is)));
}
