use Rattle.std.proofs.Common.{◌≡◌, ◌+◌, ◌-◌, ◌%◌, ◌≤◌, length, arith, ap, ◌∙◌}
use Rattle.gx_base.specs.declared.order.Side.{Side}
use Rattle.order_maker.specs.Inner.{side_after}
use Rattle.order_maker.proofs.Turns.{next_mod, side_follows}
use Rattle.order_maker.proofs.turn.turn_after.Goals as goal

pub returns-clause-turn : goal.returns-clause-turn
returns-clause-turn c =
    let p = c.args.product.now in
    let t = c.args.turn.now in
    let turn = c.requires.turn in
    let firms = length p.names.firms in
    let instruments = length p.names.instruments in
    let some_firms : 1 ≤ firms = omega (arith, turn.listed_firm) in
    let some_instruments : 1 ≤ instruments = omega (arith, turn.listed_instrument) in
    let firm_count : c.firm_count.result ≡ firms = c.firm_count.ensures.count ∙ ap (λ names. length names.firms) c.names-names.ensures in
    let again : c.firm_count-2.result ≡ firms = c.firm_count-2.ensures.count ∙ ap (λ names. length names.firms) c.names-names.ensures in
    let instrument_count : c.instrument_count.result ≡ instruments = c.instrument_count.ensures.count ∙ ap (λ names. length names.instruments) c.names-names.ensures in
    let one_more : t.number - 1 + 1 ≡ t.number = omega (arith, c.requires.some) in
    let one_less : t.number ≡ t.number + 1 - 1 = omega arith in
    let firm : c.next_of-firm.result ≡ t.number % firms =
    c.next_of-firm.ensures.next ∙ ap (λ k. (t.firm + 1) % k) firm_count ∙ ap (λ k. (k + 1) % firms) turn.firm
    ∙ next_mod (t.number - 1) firms some_firms ∙ ap (λ k. k % firms) one_more in
    record {
      firm = firm ∙ ap (λ k. k % firms) one_less;
      listed_firm = omega (arith, c.next_of-firm.ensures.listed, firm_count);
      instrument = c.next_of.ensures.next ∙ ap (λ k. (t.instrument + 1) % k) instrument_count ∙ ap (λ k. (k + 1) % instruments) turn.instrument
          ∙ next_mod t.number instruments some_instruments;
      listed_instrument = omega (arith, c.next_of.ensures.listed, instrument_count);
      side = c.side_after.ensures ∙ ap (λ k. side_after t.side c.next_of-firm.result k) again ∙ ap (λ k. side_after t.side k firms) firm
          ∙ ap (λ (s : Side). side_after s (t.number % firms) firms) turn.side ∙ side_follows t.number firms some_firms;
    }
