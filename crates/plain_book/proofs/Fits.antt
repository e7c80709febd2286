-- Orders that stay fit to rest or to wait when a call changes them.
use Rattle.std.proofs.Common.{◌≡◌, ◌≢◌, ℕ, ◌-◌, ◌<◌, ◌≤◌, Bool, cond, List, ap, refl, arith, inl, inr, min}
use Rattle.std.proofs.lemmas.Bool.Decides.{eqb_tells}
use Rattle.gx_base.specs.declared.order.Order.{Order}
use Rattle.plain_book.specs.Orders.{refreshed, filled_by}
use Rattle.plain_book.specs.Book.{IsResting, IsWaiting, IsFitToRest, IsFitToWait, first_shown, changed_to}

abbrev filled_fit : ℕ → ℕ → Order → Type 0
filled_fit m n o = IsFitToRest m (filled_by n o)

fit-filled : (m n : ℕ) (o : Order) → IsResting m o → n ≤ o.shown → o.leaves - n ≢ 0 → filled_fit m n o
fit-filled m n o f h a = record {
  listed = f.fit.listed;
  firm = f.fit.firm;
  kind = f.fit.kind;
  life = f.fit.life;
  no_trigger = f.fit.no_trigger;
  no_min = f.fit.no_min;
  whole = omega (arith, f.fit.whole, f.within);
  some = omega arith;
  show = f.fit.show;
  small = f.fit.small;
}

pub fit-stays : (m n : ℕ) (o : Order) → IsResting m o → n ≤ o.shown → o.leaves - n ≢ 0 → o.shown - n ≢ 0 → IsResting m (filled_by n o)
fit-stays m n o f h a b = record {
  fit = fit-filled m n o f h a;
  showing = omega arith;
  within = omega (arith, f.within);
  display = λ e. omega (arith, f.display e);
  unhidden = λ e. omega (arith, f.unhidden e);
}

refreshed-fit : (m : ℕ) (o : Order) → IsFitToRest m o → o.show ≢ 0 → IsResting m (refreshed o)
refreshed-fit m o f hidden = record {
  fit = record { listed = f.listed; firm = f.firm; kind = f.kind; life = f.life; no_trigger = f.no_trigger; no_min = f.no_min; whole = f.whole; some = f.some; show = f.show; small = f.small };
  showing = omega (arith, hidden, f.some);
  within = omega arith;
  display = λ e. omega arith;
  unhidden = λ e. absurd (hidden e);
}

pub fit-back : (m n : ℕ) (o : Order) → IsResting m o → n ≤ o.shown → o.leaves - n ≢ 0 → o.shown - n ≡ 0 → IsResting m (refreshed (filled_by n o))
fit-back m n o f h a b =
    let hidden : o.show ≢ 0 = λ e. (let u = f.unhidden e in omega arith) in
    refreshed-fit m (filled_by n o) (fit-filled m n o f h a) hidden

pub fit-prorated : (m n : ℕ) (o : Order) → IsResting m o → IsResting m (record o { prorated = n })
fit-prorated m n o f = record { fit = same-fit f.fit; showing = f.showing; within = f.within; display = f.display; unhidden = f.unhidden }
  where
    same-fit : IsFitToRest m o → IsFitToRest m (record o { prorated = n })
    same-fit f = record { listed = f.listed; firm = f.firm; kind = f.kind; life = f.life; no_trigger = f.no_trigger; no_min = f.no_min; whole = f.whole; some = f.some; show = f.show; small = f.small }

pub fit-shown : (m n : ℕ) (o : Order) → IsResting m o → 1 ≤ o.show → 1 ≤ n → n ≤ min o.show o.leaves → IsResting m (record o { shown = n })
fit-shown m n o f some one le = record { fit = same-fit f.fit; showing = one; within = omega arith; display = λ e. omega arith; unhidden = λ e. absurd (omega arith) }
  where
    same-fit : IsFitToRest m o → IsFitToRest m (record o { shown = n })
    same-fit f = record { listed = f.listed; firm = f.firm; kind = f.kind; life = f.life; no_trigger = f.no_trigger; no_min = f.no_min; whole = f.whole; some = f.some; show = f.show; small = f.small }

shown-fit : (m n : ℕ) (o : Order) → IsFitToRest m o → IsFitToRest m (record o { shown = n })
shown-fit m n o f = record { listed = f.listed; firm = f.firm; kind = f.kind; life = f.life; no_trigger = f.no_trigger; no_min = f.no_min; whole = f.whole; some = f.some; show = f.show; small = f.small }

pub fit-placed : (m : ℕ) (o : Order) → IsFitToRest m o → IsResting m (record o { shown = first_shown o })
fit-placed m o p = elim (eqb_tells o.show 0) [
  | inl t ↦
      let e : first_shown o ≡ o.leaves = ap (λ (c : Bool). cond c o.leaves (min o.show o.leaves)) t.0 in
      let zero_show : o.show ≡ 0 = t.1 in
      record { fit = shown-fit m (first_shown o) o p; showing = omega (arith, e, p.some); within = omega (arith, e); display = λ h. absurd (omega arith); unhidden = λ h. e }
  | inr t ↦
      let e : first_shown o ≡ min o.show o.leaves = ap (λ (c : Bool). cond c o.leaves (min o.show o.leaves)) t.0 in
      let n : o.show ≢ 0 = t.1 in
      record { fit = shown-fit m (first_shown o) o p; showing = omega (arith, e, p.some); within = omega (arith, e); display = λ h. omega (arith, e); unhidden = λ h. absurd (n h) }
]

pub fit-waited : (m : ℕ) (o : Order) → IsFitToWait m o → IsWaiting m (record o { shown = 0 })
fit-waited m o f = record {
  fit = record { listed = f.listed; firm = f.firm; kind = f.kind; unfilled = f.unfilled; no_share = f.no_share; whole = f.whole; some = f.some; show = f.show; small = f.small };
  hidden = refl;
}

pub rest-changed : (m : ℕ) (id : List ℕ) (quantity least : ℕ) (o : Order) → IsResting m o → o.filled < quantity → quantity ≤ o.quantity → o.show ≤ quantity → least ≡ 0 → IsResting m (changed_to id quantity least o)
rest-changed m id quantity least o f a b s z = record {
  fit = record {
    listed = f.fit.listed;
    firm = f.fit.firm;
    kind = f.fit.kind;
    life = f.fit.life;
    no_trigger = f.fit.no_trigger;
    no_min = z;
    whole = omega arith;
    some = omega arith;
    show = s;
    small = omega (arith, f.fit.small);
  };
  showing = omega (arith, f.showing);
  within = omega arith;
  display = λ h. omega (arith, f.display h);
  unhidden = λ h. omega (arith, f.unhidden h, f.fit.whole);
}

pub wait-changed : (m : ℕ) (id : List ℕ) (quantity least : ℕ) (o : Order) → IsWaiting m o → o.filled < quantity → quantity ≤ o.quantity → o.show ≤ quantity → IsWaiting m (changed_to id quantity least o)
wait-changed m id quantity least o f a b s = record {
  fit = record {
    listed = f.fit.listed;
    firm = f.fit.firm;
    kind = f.fit.kind;
    unfilled = f.fit.unfilled;
    no_share = f.fit.no_share;
    whole = omega (arith, f.fit.unfilled);
    some = omega arith;
    show = s;
    small = omega (arith, f.fit.small);
  };
  hidden = omega (arith, f.hidden);
}
