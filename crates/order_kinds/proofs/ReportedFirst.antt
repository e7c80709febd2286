-- An order is reported and comes in: the report before its trades changes nothing of what they do.
use Rattle.std.proofs.Common.{◌≡◌, ℕ, ◌+◌, List, [], ◌∷◌, length, Option, Some, None, refl, sym, ap, subst, ◌∙◌}
use Prim.Native.Nat.{zero, suc}
use Rattle.gx_base.specs.declared.trading.Trading.{Trading}
use Rattle.gx_base.specs.declared.price.Price.{Price}
use Rattle.gx_base.specs.declared.order.Kind.{Kind}
use Rattle.gx_base.specs.declared.order.Kind.TheVariants.{Limit, Market, StopLimit}
use Rattle.gx_base.specs.declared.order.Taker.{Taker}
use Rattle.gx_base.specs.declared.event.Event.{Event}
use Rattle.gx_base.specs.Emits.{EmitMeanings, Emits}
use Rattle.gx_base.specs.EmitLaws.{emits_joined, emits_as}
use Rattle.step_config.specs.declared.step.Step.{Step}
use Rattle.plain_book.specs.declared.entry.Entry.{Entry}
use Rattle.plain_book.specs.Book.{AllDiffer, live_orders}
use Rattle.plain_book.specs.Match.{MatchState, match_start}
use Rattle.plain_book.proofs.TradedShares.{with_events}
use Rattle.order_kinds.specs.Instruments.{ListedInstrument}
use Rattle.order_kinds.specs.State.{State}
use Rattle.order_kinds.specs.Entering.{entered, last_fill, last_after}
use Rattle.order_kinds.specs.Stops.{Naming, fill_range, first_reached, next_stop, stop_triggered, stop_entered, stop_rounds, entered_with_stops, come_in_as, come_in}
use Rattle.order_kinds.specs.Accepting.{after_match}
use Rattle.order_kinds.specs.Inner.Apart.{EnterApart, ComeApartAs, ComeApart}
use Rattle.order_kinds.specs.Inner.ComingIn.{brought_in, BroughtApart}
use Rattle.order_kinds.specs.Inner.Taking.{Takes}
use Rattle.order_kinds.proofs.Entered.{entered-ignores}

-- a report of no trade
pub record IsNoFill (event : Event) : Type 0 where
  pub range : (events : List Event) → fill_range (event ∷ events) ≡ fill_range events
  pub last : (events : List Event) → last_fill (event ∷ events) ≡ last_fill events

module _ (event : Event) (none : IsNoFill event) (steps : List Step) where
  abbrev after : MatchState → MatchState
  after m = with_events (event ∷ []) m

  next-after : (m : MatchState) → next_stop (after m) ≡ next_stop m
  next-after m = ap (λ (range : Option (Price × Price)). first_reached m.taker.order.instrument range m.book.waiting) (none.range m.events)

  stop-after : (e : Option Entry) (name : ℕ → ℕ) (m : MatchState) → stop_entered e name steps (after m) ≡ after (stop_entered e name steps m)
  stop-after None name m = refl
  stop-after (Some e) name m = entered-ignores (name e.order.number) steps (event ∷ []) (stop_triggered e m)

  rounds-after : (n : ℕ) (naming : Naming) (m : MatchState) → stop_rounds n naming steps (after m) ≡ after (stop_rounds n naming steps m)
  rounds-after zero naming m = refl
  rounds-after (suc n) naming m =
      let before = stop_rounds n naming steps m in
      ap (λ (x : MatchState). stop_entered (next_stop x) (naming n) steps x) (rounds-after n naming m)
      ∙ ap (λ (e : Option Entry). stop_entered e (naming n) steps (after before)) (next-after before)
      ∙ stop-after (next_stop before) (naming n) before

  -- the order, and so many stops
  abbrev rounds : Naming → ℕ → MatchState → MatchState
  rounds naming turns m = stop_rounds turns (λ before. naming (before + 1)) steps (entered (naming 0 m.taker.order.number) steps m)

  turns-after : (naming : Naming) (turns : ℕ) (m : MatchState) → rounds naming turns (after m) ≡ after (rounds naming turns m)
  turns-after naming turns m =
      let name = naming 0 m.taker.order.number in
      let later : Naming = λ before. naming (before + 1) in
      ap (λ (x : MatchState). stop_rounds turns later steps x) (entered-ignores name steps (event ∷ []) m) ∙ rounds-after turns later (entered name steps m)

  entered-after : (naming : Naming) (m : MatchState) → entered_with_stops naming steps (after m) ≡ after (entered_with_stops naming steps m)
  entered-after naming m =
      let name = naming 0 m.taker.order.number in
      ap (λ (n : ℕ). rounds naming n (after m)) (ap (λ (x : MatchState). length x.book.waiting) (entered-ignores name steps (event ∷ []) m))
      ∙ turns-after naming (length (entered name steps m).book.waiting) m

  comes-as : (kind : Kind) (naming : Naming) (m : MatchState) → come_in_as kind naming steps (after m) ≡ after (come_in_as kind naming steps m)
  comes-as StopLimit naming m = refl
  comes-as Limit naming m = entered-after naming m
  comes-as Market naming m = entered-after naming m

  pub comes-after : (naming : Naming) (m : MatchState) → come_in naming steps (after m) ≡ after (come_in naming steps m)
  comes-after naming m = comes-as m.taker.order.kind naming m

  enter-apart : (naming : Naming) (m : MatchState) → EnterApart naming steps m → EnterApart naming steps (after m)
  enter-apart naming m apart turns = subst (λ (x : MatchState). AllDiffer (live_orders x.book)) (sym (turns-after naming turns m)) (apart turns)

  apart-as : (kind : Kind) (naming : Naming) (m : MatchState) → ComeApartAs kind naming steps m → ComeApartAs kind naming steps (after m)
  apart-as StopLimit naming m apart = tt
  apart-as Limit naming m apart = enter-apart naming m apart
  apart-as Market naming m apart = enter-apart naming m apart

  pub apart-after : (naming : Naming) (m : MatchState) → ComeApart naming steps m → ComeApart naming steps (after m)
  apart-after naming m apart = apart-as m.taker.order.kind naming m apart

-- The report was put, and the order came in from the state after it.
module _ {E : Type 0} (m : EmitMeanings E) (event : Event) (none : IsNoFill event) (instrument : ListedInstrument) (old reported new : State) (taker : Taker) (start : MatchState) (a b c : E)
    (begins : with_events (event ∷ []) (match_start reported.book reported.desk taker) ≡ start) (same : reported.last ≡ old.last) (session : reported.trading ≡ old.trading)
    (puts : Emits m a b (event ∷ [])) (takes : Takes m (BroughtApart instrument taker) (λ naming. brought_in naming instrument taker) reported new b c)
  where
    abbrev steps : List Step
    steps = instrument.rule.steps

    pub takes-reported : Takes m (λ state naming. ComeApart naming steps start) (λ naming state. after_match instrument.number state (come_in naming steps start)) old new a c
    takes-reported =
        let naming = takes.naming in
        let first = match_start reported.book reported.desk taker in
        let done = come_in naming steps first in
        let end = come_in naming steps start in
        let is : with_events (event ∷ []) done ≡ end = sym (comes-after event none steps naming first) ∙ ap (λ (x : MatchState). come_in naming steps x) begins in
        let last : last_fill done.events ≡ last_fill end.events = sym (none.last done.events) ∙ ap (λ (x : MatchState). last_fill x.events) is in
        record {
          naming = naming;
          apart = subst (λ (x : MatchState). ComeApart naming steps x) begins (apart-after event none steps naming first takes.apart);
          state = takes.state
              ∙ ap (λ (x : MatchState). record reported { book = x.book; last = last_after instrument.number (last_fill done.events) reported.last; desk = x.desk }) is
              ∙ ap (λ (p : Option Price). record reported { book = end.book; last = last_after instrument.number p reported.last; desk = end.desk }) last
              ∙ ap (λ (l : List (Option Price)). record reported { book = end.book; last = last_after instrument.number (last_fill end.events) l; desk = end.desk }) same
              ∙ ap (λ (t : Trading). record { book = end.book; last = last_after instrument.number (last_fill end.events) old.last; desk = end.desk; trading = t }) session;
          emits = emits_as m a c (event ∷ done.events) end.events (ap (λ (x : MatchState). x.events) is) (emits_joined m a b c (event ∷ []) done.events puts takes.emits);
        }
