-- An amendment leads from a state that messages lead to under a product, to such a state of the product that follows.
use Rattle.std.proofs.Common.{◌≡◌, ℕ, Bool, true, false, ◌&&◌, List, [], ◌∷◌, ◌++◌, length, map, Option, Some, None, refl, sym, ap, ◌∙◌, arith, suc, inl, inr}
use Rattle.std.specs.Prelude.{IfSome, slice_get}
use Rattle.std.specs.List.{AllByRecursion}
use Rattle.gx_base.specs.declared.price.Price.{Price}
use Rattle.product_file.specs.Products.{ProductLists, has_top_by}
use Rattle.plain_book.specs.declared.entry.Entry.{Entry}
use Rattle.plain_book.specs.Orders.{level_of, HasSlot}
use Rattle.plain_book.specs.Book.{Book, IsRight, IsResting, AllDiffer, EachPair, AreNamedApart, AreInBookOrder, MayPrecedeTop}
use Rattle.plain_book.proofs.Levels.{and-left, and-right}
use Rattle.plain_book.proofs.Pairs.{all-with, all-map, pairs-map, all-from}
use Rattle.engine_laws.specs.MatchLaws.{IsUncrossed, AreApart}
use Rattle.order_kinds.specs.OrderRules.{last_of}
use Rattle.order_kinds.specs.State.{State}
use Rattle.order_kinds.specs.TradingSessions.{AreUntilCancelled}
use Rattle.order_kinds.specs.Amendments.{untopped, amended_state}
use Rattle.book_image.specs.Rules.{is_price_of}
use Rattle.image_laws.specs.Right.{IsRightEntry, IsTopAllowed, IsRightStop}
use Rattle.image_laws.proofs.Held.{IsHeld}
use Rattle.image_laws.proofs.Reached.{IsReached}
use Rattle.order_kinds.proofs.Amended.{Follows}
use Rattle.image_laws.proofs.Following.{same-prices}

-- ---- a book that loses TOP orders

module _ (product : ProductLists) where
  abbrev cut : Entry → Entry
  cut e = untopped product e

  pub has-cut : (s : ℕ) (es ws : List Entry) → HasSlot s (map cut es ++ ws) → HasSlot s (es ++ ws)
  has-cut s [] ws h = h
  has-cut s (e ∷ es) ws h = elim h [ inl a ↦ inl a | inr a ↦ inr (has-cut s es ws a) ]

  differ-cut : (es ws : List Entry) → AllDiffer (es ++ ws) → AllDiffer (map cut es ++ ws)
  differ-cut [] ws h = h
  differ-cut (e ∷ es) ws h = ((λ k. h.0 (has-cut e.slot es ws k)), differ-cut es ws h.1)

  unnamed-cut : (e : Entry) (es ws : List Entry) → AllByRecursion (AreNamedApart e) (es ++ ws) → AllByRecursion (AreNamedApart (cut e)) (map cut es ++ ws)
  unnamed-cut e [] ws h = all-with (AreNamedApart e) (AreNamedApart (cut e)) (λ x k. k) ws h
  unnamed-cut e (x ∷ es) ws h = (h.0, unnamed-cut e es ws h.1)

  named-cut : (es ws : List Entry) → EachPair AreNamedApart (es ++ ws) → EachPair AreNamedApart (map cut es ++ ws)
  named-cut [] ws h = h
  named-cut (e ∷ es) ws h = (unnamed-cut e es ws h.0, named-cut es ws h.1)

  length-cut : (es ws : List Entry) → length (map cut es ++ ws) ≡ length (es ++ ws)
  length-cut [] ws = refl
  length-cut (e ∷ es) ws = ap suc (length-cut es ws)

  top-off : (e : Entry) → e.is_top ≡ false → (cut e).is_top ≡ false
  top-off e off = ap (λ (b : Bool). b && has_top_by (slice_get product.rules e.order.instrument)) off

  precedes-cut : (a b : Entry) → MayPrecedeTop a b → MayPrecedeTop (cut a) (cut b)
  precedes-cut a b h top on =
      let q = h (and-left b.is_top (has_top_by (slice_get product.rules b.order.instrument)) top) on in
      (top-off a q.0, q.1)

  right-cut : (b : Book) → IsRight b → IsRight (record b { resting = map cut b.resting })
  right-cut b r = record {
    rest = all-map (λ (e : Entry). IsResting b.instruments e.order) (λ (e : Entry). IsResting b.instruments e.order) cut (λ x k. k) b.resting r.rest;
    wait = r.wait;
    differ = differ-cut b.resting b.waiting r.differ;
    named = named-cut b.resting b.waiting r.named;
    ordered = pairs-map AreInBookOrder AreInBookOrder (λ (e : Entry). Unit {0}) cut (λ a b _ _ k. k) b.resting (all-from (λ (e : Entry). Unit {0}) (λ x. tt) b.resting) r.ordered;
    lined = r.lined;
    tops = pairs-map MayPrecedeTop MayPrecedeTop (λ (e : Entry). Unit {0}) cut (λ a b _ _ k. precedes-cut a b k) b.resting (all-from (λ (e : Entry). Unit {0}) (λ x. tt) b.resting) r.tops;
    few = omega (arith, length-cut b.resting b.waiting, r.few);
    small = r.small;
  }

  -- each order that is TOP still may be
  cut-allowed : (es : List Entry) → AllByRecursion (IsTopAllowed product) (map cut es)
  cut-allowed [] = tt
  cut-allowed (e ∷ es) = ((λ top. and-right e.is_top (has_top_by (slice_get product.rules e.order.instrument)) top), cut-allowed es)

-- ---- an amendment

module _ (old new : ProductLists) (f : Follows old new) where
  entry-follows : (given : ℕ) (e : Entry) → IsRightEntry old given e → IsRightEntry new given e
  entry-follows given e r = record {
    slot = r.slot;
    some = r.some;
    given = r.given;
    firm = omega (arith, r.firm, f.firms);
    instrument = omega (arith, r.instrument, f.instruments);
    id = r.id;
    price = sym (same-prices old new f e.order.instrument e.order.price) ∙ r.price;
    prorated = r.prorated;
  }

  entries-follow : (given : ℕ) (es ws : List Entry) → AllByRecursion (IsRightEntry old given) (es ++ ws) → AllByRecursion (IsRightEntry new given) (map (untopped new) es ++ ws)
  entries-follow given [] ws h = all-with (IsRightEntry old given) (IsRightEntry new given) (λ e r. entry-follows given e r) ws h
  entries-follow given (e ∷ es) ws h =
      let r = entry-follows given e h.0 in
      (record { slot = r.slot; some = r.some; given = r.given; firm = r.firm; instrument = r.instrument; id = r.id; price = r.price; prorated = r.prorated }, entries-follow given es ws h.1)

  stop-follows : (e : Entry) → IsRightStop old e → IsRightStop new e
  stop-follows e r = record { no_top = r.no_top; trigger = sym (same-prices old new f e.order.instrument e.order.trigger) ∙ r.trigger; not_beyond = r.not_beyond; min = r.min }

  held-follows : (given : ℕ) (b : Book) → IsHeld old given b → IsHeld new given (record b { resting = map (untopped new) b.resting })
  held-follows given b h = record {
    capacity = h.capacity ∙ f.orders;
    instruments = h.instruments ∙ f.instruments;
    book = right-cut new b h.book;
    entries = entries-follow given b.resting b.waiting h.entries;
    tops = cut-allowed new b.resting;
    stops = all-with (IsRightStop old) (IsRightStop new) (λ e r. stop-follows e r) b.waiting h.stops;
  }

  uncrossed-cut : (es : List Entry) → IsUncrossed es → IsUncrossed (map (untopped new) es)
  uncrossed-cut es h =
      let Apart : Entry → Entry → Type 0 = λ x y. AreApart (level_of x.order) (level_of y.order) in
      all-map (λ (x : Entry). AllByRecursion (Apart x) es) (λ (x : Entry). AllByRecursion (Apart x) (map (untopped new) es)) (untopped new)
      (λ x k. all-map (Apart x) (Apart x) (untopped new) (λ y q. q) es k) es h

  lives-cut : (es ws : List Entry) → AreUntilCancelled (es ++ ws) → AreUntilCancelled (map (untopped new) es ++ ws)
  lives-cut [] ws h = h
  lives-cut (e ∷ es) ws h = (h.0, lives-cut es ws h.1)

  last-follows : (j : ℕ) (last : Option Price) → IfSome last (λ price. is_price_of old j price ≡ true) → IfSome last (λ price. is_price_of new j price ≡ true)
  last-follows j None h = h
  last-follows j (Some price) h = sym (same-prices old new f j price) ∙ h

  pub reached-follows : (sent bound : ℕ) (state : State) → IsReached old sent bound state → IsReached new sent bound (amended_state new state)
  reached-follows sent bound state h = record {
    held = held-follows state.desk.orders state.book h.held;
    uncrossed = uncrossed-cut state.book.resting h.uncrossed;
    prices = h.prices ∙ f.instruments;
    lasts = λ j. last-follows j (last_of j state.last) (h.lasts j);
    lives = λ closed. lives-cut state.book.resting state.book.waiting (h.lives closed);
    counted = h.counted;
    few = h.few;
  }
