use Rattle.std.proofs.Common.{◌≡◌, ◌==◌, ℕ, true, arith, length, refl, sym, ap, subst, ◌∙◌}
use Rattle.std.proofs.lemmas.Bool.Decides.{nat_tests}
use Rattle.gx_station.specs.Quiet.{Sends}
use Rattle.plain_book.specs.Book.{Book, live_orders}
use Rattle.order_kinds.specs.State.{state_numbered}
use Rattle.book_print.specs.TallyText.{tally_line}
use Rattle.globex_run.specs.Outcomes.{outcome_of}
use Rattle.globex_run.specs.declared.ending.Ending.{Ending}
use Rattle.globex_run.proofs.Drilled.{live-numbered, drill-ends}
use Rattle.globex_run.proofs.session.Session.run_drill.Goals as goal

-- what equals zero is zero
zero_tested : (n : ℕ) → (n == 0) ≡ true → n ≡ 0
zero_tested n is = grind (arith, nat_tests)

pub returns-then-not-is_ok-clause-drills : goal.returns-then-not-is_ok-clause-drills
returns-then-not-is_ok-clause-drills g c =
    drill-ends g.S.Station.meanings c.args.self.now.product.now c.args.self.now.text.now c.args.made.now c.serve-outcome.new.input c.args.station.now c.serve-outcome.new.station c.new-tally.result c.serve-outcome.new.form (state_numbered c.serve-outcome.new.self.engine.core) c.serve-outcome.result
    c.new-tally.ensures c.serve-outcome.ensures.session (c.serve-outcome.ensures.silent refl) _ _
    (λ other. (refl, refl))
    (λ ok. let is : c.is_ok.result ≡ true = c.is_ok.ensures ∙ ap (λ (n : ℕ). n == 0) ok in absurd (let no = c.if-not-is_ok.true in cc))

pub returns-clause-drills : goal.returns-clause-drills
returns-clause-drills g c =
    let m = g.S.Station.meanings in
    let served = c.serve-outcome.result in
    let tally = c.serve-outcome.new.form in
    drill-ends m c.args.self.now.product.now c.args.self.now.text.now c.args.made.now c.serve-outcome.new.input c.args.station.now c.serve-outcome.new.station c.new-tally.result tally (state_numbered c.serve-outcome.new.self.engine.core) served
    c.new-tally.ensures c.serve-outcome.ensures.session (c.serve-outcome.ensures.silent refl) _ _
    (λ other. absurd (other (zero_tested served.status (sym c.is_ok.ensures ∙ c.if-not-is_ok.false))))
    (λ ok. record {
      result = c.print_tally-sent.result;
      sends = subst (λ (n : ℕ). Sends m c.serve-outcome.new.station c.print_tally-sent.new.station (tally_line served.messages tally n) c.print_tally-sent.result)
          (c.live-live.ensures ∙ ap (λ (b : Book). length (live_orders b)) c.book.ensures ∙ live-numbered c.serve-outcome.new.self.engine.core.book) c.print_tally-sent.ensures.sends;
      outcome_is = c.outcome.ensures ∙ ap (λ (e : Ending). outcome_of e served.messages) c.of_sent.ensures;
    })
