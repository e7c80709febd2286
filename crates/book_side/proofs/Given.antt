-- What the steps of a call ask of an order that rests.
use Rattle.std.proofs.Common.{◌≡◌, ◌≢◌, ℕ, ◌+◌, ◌≤◌, min, sym, subst, ap, arith}
use Rattle.gx_base.specs.declared.order.Order.{Order}
use Rattle.plain_book.specs.Orders.{HasSlot, order_of, filled_by, refreshed}
use Rattle.plain_book.specs.Book.{Book, IsRight, IsResting}
use Rattle.plain_book.proofs.Live.{fit_of}
use Rattle.plain_book.proofs.Fits.{fit-back, fit-stays, fit-prorated, fit-shown}

-- x is the order of a slot, as it was answered
module _ (b : Book) (r : IsRight b) (s : ℕ) (has : HasSlot s b.resting) (x : Order) (is : x ≡ order_of s b.resting) where
  fits : IsResting b.instruments x
  fits = subst (IsResting b.instruments) (sym is) (fit_of b.instruments s b.resting r.rest has)

  pub within : x.shown ≤ x.leaves
  within = fits.within

  pub whole : x.filled + x.leaves ≤ 999999
  whole = omega (arith, fits.fit.whole, fits.fit.small)

  -- some lots of it are traded
  module _ (lots : ℕ) (few : lots ≤ (order_of s b.resting).shown) (y : Order) (given : y ≡ filled_by lots x) where
    enough : lots ≤ x.shown
    enough = omega (arith, few, ap (λ (o : Order). o.shown) is)

    pub stays : y.leaves ≢ 0 → y.shown ≢ 0 → IsResting b.instruments y
    stays = subst (λ (o : Order). o.leaves ≢ 0 → o.shown ≢ 0 → IsResting b.instruments o) (sym given) (λ e f. fit-stays b.instruments lots x fits enough e f)

    pub goes : y.leaves ≢ 0 → y.shown ≡ 0 → IsResting b.instruments (refreshed y)
    goes = subst (λ (o : Order). o.leaves ≢ 0 → o.shown ≡ 0 → IsResting b.instruments (refreshed o)) (sym given) (λ e f. fit-back b.instruments lots x fits enough e f)

  pub prorated : (share : ℕ) → IsResting b.instruments (record x { prorated = share })
  prorated share = fit-prorated b.instruments share x fits

  pub shows : (shown : ℕ) → 1 ≤ (order_of s b.resting).show → 1 ≤ shown → shown ≤ min (order_of s b.resting).show (order_of s b.resting).leaves → IsResting b.instruments (record x { shown = shown })
  shows shown display some few =
      let below : shown ≤ min x.show x.leaves = subst (λ (o : Order). shown ≤ min o.show o.leaves) (sym is) few in
      fit-shown b.instruments shown x fits (subst (λ (o : Order). 1 ≤ o.show) (sym is) display) some below
