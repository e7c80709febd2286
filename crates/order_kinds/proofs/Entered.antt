-- An order is entered: what becomes of it, one part after the other.
use Rattle.std.proofs.Common.{◌≡◌, ◌≢◌, ℕ, ◌≤◌, Bool, true, false, cond, not, List, [], ◌∷◌, length, refl, sym, ap, subst, ◌∙◌, arith, length-append, append_assoc}
use Rattle.std.specs.Prelude.{◌==◌, nat_lt}
use Rattle.std.proofs.lemmas.Bool.{ne_eqb}
use Rattle.gx_base.specs.declared.price.Price.{Price}
use Rattle.gx_base.specs.declared.order.Order.{Order}
use Rattle.gx_base.specs.declared.order.Desk.{Desk}
use Rattle.gx_base.specs.declared.order.Taker.{Taker}
use Rattle.gx_base.specs.declared.event.Cause.{Cause}
use Rattle.gx_base.specs.declared.event.Cause.TheVariants as cause
use Rattle.gx_base.specs.Emits.{EmitMeanings, Emits}
use Rattle.gx_base.specs.EmitLaws.{emits_none, emits_as}
use Rattle.step_config.specs.declared.step.Step.{Step}
use Rattle.plain_book.specs.Book.{Book, IsFitToRest, live_orders}
use Rattle.plain_book.specs.Match.{MatchState, match_start, report_counted, next_head}
use Rattle.plain_book.specs.Matches.{MatchAt, match_at, start_at, IsNow, CanTrade, Matches}
use Rattle.plain_book.proofs.Matching.{goes-on}
use Rattle.plain_book.proofs.TradedShares.{match_with, with_events, IgnoresEvents}
use Rattle.level_sweep.specs.Sweep.{sweep, with_resting}
use Rattle.level_sweep.proofs.Events.{sweep-ignores}
use Rattle.level_sweep.proofs.Swept.{filled_as, sweep-fewer, sweep-order}
use Rattle.order_kinds.specs.NewOrders.{may_rest}
use Rattle.order_kinds.specs.Entering.{cancel_event, taker_cancelled, as_limit, taker_rested, finished, open_for, entered}
use Rattle.order_kinds.specs.Inner.Taking.{TakesPart, CanRest}

-- ---- after the sweep

pub finished-none : (name : ℕ) (steps : List Step) (m : MatchState) → m.taker.order.leaves ≡ 0 → finished name steps m ≡ m
finished-none name steps m none =
    ap (λ (n : ℕ). cond (n == 0) m (cond (may_rest m.taker.order.life) (taker_rested name steps m) (taker_cancelled cause.Fak m))) none

finished-some : (name : ℕ) (steps : List Step) (m : MatchState) → m.taker.order.leaves ≢ 0
    → finished name steps m ≡ cond (may_rest m.taker.order.life) (taker_rested name steps m) (taker_cancelled cause.Fak m)
finished-some name steps m some =
    ap (λ (c : Bool). cond c m (cond (may_rest m.taker.order.life) (taker_rested name steps m) (taker_cancelled cause.Fak m))) (ne_eqb m.taker.order.leaves 0 some)

pub finished-cancelled : (name : ℕ) (steps : List Step) (m : MatchState) → m.taker.order.leaves ≢ 0 → may_rest m.taker.order.life ≡ false
    → finished name steps m ≡ taker_cancelled cause.Fak m
finished-cancelled name steps m some never =
    finished-some name steps m some ∙ ap (λ (c : Bool). cond c (taker_rested name steps m) (taker_cancelled cause.Fak m)) never

-- what is done does not depend on the events so far
cancelled-ignores : (why : Cause) → IgnoresEvents (taker_cancelled why)
cancelled-ignores why es m =
    let event = cancel_event why (next_head m.desk m.taker.order.firm m.taker.time) m.taker.order in
    ap (match_with m.book (report_counted m.desk m.taker.order.firm) m.taker) (append_assoc es m.events (event ∷ []))

finished-ignores : (name : ℕ) (steps : List Step) → IgnoresEvents (finished name steps)
finished-ignores name steps es m =
    let go : (a b : Bool) → cond a (with_events es m) (cond b (taker_rested name steps (with_events es m)) (taker_cancelled cause.Fak (with_events es m)))
    ≡ with_events es (cond a m (cond b (taker_rested name steps m) (taker_cancelled cause.Fak m))) = elim [
      | true ↦ λ b. refl
      | false ↦ elim [ true ↦ refl | false ↦ cancelled-ignores cause.Fak es m ]
    ] in go (m.taker.order.leaves == 0) (may_rest m.taker.order.life)

-- ---- the whole of it

-- what is done where the minimum is open, or is not
abbrev entered_by : ℕ → List Step → MatchState → Bool → MatchState
entered_by name steps m c = cond c (taker_cancelled cause.MinQty m) (finished name steps (sweep steps m.taker.order.price m))

pub entered-cancelled : (name : ℕ) (steps : List Step) (m : MatchState) → nat_lt (open_for m) m.taker.order.min ≡ true → entered name steps m ≡ taker_cancelled cause.MinQty m
entered-cancelled name steps m h = ap (entered_by name steps m) h

pub entered-swept : (name : ℕ) (steps : List Step) (m : MatchState) → nat_lt (open_for m) m.taker.order.min ≡ false
    → entered name steps m ≡ finished name steps (sweep steps m.taker.order.price m)
entered-swept name steps m h = ap (entered_by name steps m) h

-- and so is all of it
pub entered-ignores : (name : ℕ) (steps : List Step) → IgnoresEvents (entered name steps)
entered-ignores name steps es m =
    let price = m.taker.order.price in
    let swept : finished name steps (sweep steps price (with_events es m)) ≡ with_events es (finished name steps (sweep steps price m)) =
    ap (finished name steps) (sweep-ignores steps price es m) ∙ finished-ignores name steps es (sweep steps price m) in
    let go : (c : Bool) → entered_by name steps (with_events es m) c ≡ with_events es (entered_by name steps m c) = elim [
      | true ↦ cancelled-ignores cause.MinQty es m
      | false ↦ swept
    ] in go (nat_lt (open_for m) m.taker.order.min)

pub not-false : (b : Bool) → not b ≡ false → b ≡ true
not-false true h = refl
not-false false h = sym h

pub not-true : (b : Bool) → not b ≡ true → b ≡ false
not-true true h = sym h
not-true false h = refl

module _ {E : Type 0} (m : EmitMeanings E) where
  -- nothing is done
  pub takes-nothing : (part : ℕ → MatchState → MatchState) (a : MatchAt E) → part 0 (start_at a) ≡ start_at a → TakesPart m part a a
  takes-nothing part a is = record {
    name = 0;
    now = record { book = sym (ap (λ (x : MatchState). x.book) is); desk = sym (ap (λ (x : MatchState). x.desk) is); taker = sym (ap (λ (x : MatchState). x.taker) is) };
    emits = emits_as m a.out a.out [] (part 0 (start_at a)).events (sym (ap (λ (x : MatchState). x.events) is)) (emits_none m a.out);
  }

  -- the order is cancelled
  pub takes-cancelled : (part : ℕ → MatchState → MatchState) (why : Cause) (a : MatchAt E) (desk : Desk) (out : E) → part 0 (start_at a) ≡ taker_cancelled why (start_at a)
      → desk ≡ report_counted a.desk a.taker.order.firm
      → Emits m a.out out (cancel_event why (next_head a.desk a.taker.order.firm a.taker.time) a.taker.order ∷ [])
      → TakesPart m part a (match_at a.book desk a.taker out)
  takes-cancelled part why a desk out is counted emits = record {
    name = 0;
    now = record {
      book = sym (ap (λ (x : MatchState). x.book) is);
      desk = counted ∙ sym (ap (λ (x : MatchState). x.desk) is);
      taker = sym (ap (λ (x : MatchState). x.taker) is);
    };
    emits = emits_as m a.out out (cancel_event why (next_head a.desk a.taker.order.firm a.taker.time) a.taker.order ∷ []) (part 0 (start_at a)).events
        (sym (ap (λ (x : MatchState). x.events) is)) emits;
  }

  -- what was done is also something else
  pub takes-as : (f g : ℕ → MatchState → MatchState) (a b : MatchAt E) → ((name : ℕ) → f name (start_at a) ≡ g name (start_at a)) → TakesPart m f a b → TakesPart m g a b
  takes-as f g a b same done = record {
    name = done.name;
    now = subst (λ (x : MatchState). IsNow x b.book b.desk b.taker) (same done.name) done.now;
    emits = subst (λ (x : MatchState). Emits m a.out b.out x.events) (same done.name) done.emits;
  }

  -- f was done, and then g
  takes-then : (f : MatchState → MatchState) (g : ℕ → MatchState → MatchState) (a b c : MatchAt E) → ((name : ℕ) → IgnoresEvents (g name)) → Matches m f a b → TakesPart m g b c
      → TakesPart m (λ name s. g name (f s)) a c
  takes-then f g a b c ignores first second =
      let on = goes-on m a.out (f (start_at a)) b c (g second.name) (ignores second.name) first.now first.emits second.now second.emits in
      record { name = second.name; now = on.0; emits = on.1 }

  -- it sweeps the other side, and then what is left of it rests or is cancelled
  pub takes-swept : (steps : List Step) (a b c : MatchAt E) → nat_lt (open_for (start_at a)) a.taker.order.min ≡ false
      → Matches m (sweep steps a.taker.order.price) a b → TakesPart m (λ name. finished name steps) b c → TakesPart m (λ name. entered name steps) a c
  takes-swept steps a b c enough swept done =
      let price = a.taker.order.price in
      takes-as (λ name s. finished name steps (sweep steps price s)) (λ name. entered name steps) a c (λ name. sym (entered-swept name steps (start_at a) enough))
      (takes-then (sweep steps price) (λ name. finished name steps) a b c (λ name. finished-ignores name steps) swept done)

-- ---- what is left after a sweep can come to rest

module _ (steps : List Step) (limit : Price) (b b' : Book) (d d' : Desk) (t t' : Taker)
    (now : IsNow (sweep steps limit (match_start b d t)) b' d' t') (stays : b' ≡ with_resting b'.resting b)
  where
    no-more : length (live_orders b') ≤ length (live_orders b)
    no-more =
        let rest : length b'.resting ≤ length b.resting = subst (λ (x : Book). length x.resting ≤ length b.resting) (sym now.book) (sweep-fewer steps limit (match_start b d t)) in
        omega (arith, rest, length-append b'.resting b'.waiting, length-append b.resting b.waiting, ap (λ (x : Book). length x.waiting) stays)

    pub swept-order : t'.order ≡ filled_as t'.order t.order
    swept-order = subst (λ (x : Taker). x.order ≡ filled_as x.order t.order) (sym now.taker) (sweep-order steps limit (match_start b d t))

    fit-swept : CanTrade b' d' t' → 1 ≤ t'.order.leaves → IsFitToRest b.instruments (as_limit t.order) → IsFitToRest b.instruments (as_limit (filled_as t'.order t.order))
    fit-swept can some fit = record {
      listed = fit.listed;
      firm = fit.firm;
      kind = fit.kind;
      life = fit.life;
      no_trigger = fit.no_trigger;
      no_min = fit.no_min;
      whole = can.whole ∙ ap (λ (o : Order). o.quantity) swept-order;
      some = some;
      show = fit.show;
      small = fit.small;
    }

    pub can-rest : CanTrade b' d' t' → (may_rest t.order.life ≡ true → CanRest b t.order) → 1 ≤ t'.order.leaves → may_rest t'.order.life ≡ true → CanRest b' t'.order
    can-rest can rests some may =
        let rest = rests (ap (λ (o : Order). may_rest o.life) (sym swept-order) ∙ may) in
        let fit : IsFitToRest b.instruments (as_limit t'.order) = subst (λ (o : Order). IsFitToRest b.instruments (as_limit o)) (sym swept-order) (fit-swept can some rest.fit) in
        record {
          room = omega (arith, no-more, rest.room, ap (λ (x : Book). x.capacity) stays);
          unnamed = can.unnamed;
          fit = subst (λ (n : ℕ). IsFitToRest n (as_limit t'.order)) (sym (ap (λ (x : Book). x.instruments) stays)) fit;
        }
