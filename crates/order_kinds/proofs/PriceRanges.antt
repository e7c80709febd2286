-- The end of a price range, where prices never improve.
use Rattle.std.proofs.Common.{◌≡◌, ℕ, ◌+◌, Bool, true, false, cond, Option, Some, None, refl, sym, ap, ◌∙◌}
use Rattle.std.specs.Prelude.{ℤ, int_lt}
use Rattle.gx_base.specs.declared.price.Price.{Price}
use Rattle.gx_base.specs.declared.order.Side.{Side}
use Rattle.gx_base.specs.declared.order.Side.TheVariants.{Buy, Sell}
use Rattle.gx_base.proofs.Tests.{int-same}
use Rattle.book_order.proofs.Before.{int-past}
use Rattle.plain_book.specs.Orders.{is_better, opposite, order_of}
use Rattle.plain_book.specs.Book.{book_traded}
use Rattle.plain_book.specs.Match.{MatchState, taken_by, lower, higher, lengthened}
use Rattle.order_kinds.specs.Inner.Taking.{last_in_range}

-- a match whose lots are traded, before the fills are put
abbrev pub traded_at : ℕ → ℕ → MatchState → MatchState
traded_at s n m = record m {
  book = book_traded s n m.book;
  desk = record m.desk { trades = m.desk.trades + 1 };
  taker = record m.taker { order = taken_by n m.taker.order; range = lengthened (order_of s m.book.resting).price m.taker.range };
}

pub price-same : (p q : Price) → p.0 ≡ q.0 → p ≡ q
price-same p q h = let mk : ℤ → Price = λ z. record { 0 = z } in ap mk h

pub either-same : (b : Bool) (p : Price) → cond b p p ≡ p
either-same true p = refl
either-same false p = refl

-- where one price is the higher, and the next is no lower
higher-next : (r p x : Price) → higher r p ≡ p → int_lt x.0 p.0 ≡ false → higher r x ≡ x
higher-next r p x h not-lower =
    let go : (b : Bool) → int_lt r.0 x.0 ≡ b → cond b x r ≡ x = elim [
      | true ↦ λ k. refl
      | false ↦ λ k.
          let here : (b : Bool) → int_lt r.0 p.0 ≡ b → cond b p r ≡ p → r ≡ x = elim [
            | true ↦ λ l e. absurd (let f : false ≡ true = sym k ∙ int-past r.0 p.0 x.0 l not-lower in cc)
            | false ↦ λ l e.
                let below : int_lt p.0 x.0 ≡ false = ap (λ (q : Price). int_lt q.0 x.0) (sym e) ∙ k in
                e ∙ price-same p x (int-same p.0 x.0 below not-lower)
          ] in here (int_lt r.0 p.0) refl h
    ] in go (int_lt r.0 x.0) refl

-- where one price is the lower, and the next is no higher
lower-next : (r p x : Price) → lower r p ≡ p → int_lt p.0 x.0 ≡ false → lower r x ≡ x
lower-next r p x h not-higher =
    let go : (b : Bool) → int_lt r.0 x.0 ≡ b → cond b r x ≡ x = elim [
      | false ↦ λ k. refl
      | true ↦ λ k.
          let here : (b : Bool) → int_lt r.0 p.0 ≡ b → cond b r p ≡ p → r ≡ x = elim [
            | true ↦ λ l e. absurd (let f : false ≡ true = sym not-higher ∙ ap (λ (q : Price). int_lt q.0 x.0) (sym e) ∙ k in cc)
            | false ↦ λ l e. absurd (let f : false ≡ true = sym l ∙ int-past r.0 x.0 p.0 k not-higher in cc)
          ] in here (int_lt r.0 p.0) refl h
    ] in go (int_lt r.0 x.0) refl

-- a trade at this price makes it the end of the range
abbrev pub IsEnd : Side → Price → Option (Price × Price) → Type 0
IsEnd side price range = last_in_range side (lengthened price range) ≡ Some price

pub end-first : (side : Side) (price : Price) → IsEnd side price None
end-first Buy price = refl
end-first Sell price = refl

some-price : (p q : Price) → Some p ≡ Some q → p ≡ q
some-price p q h = cc

-- so does a trade at a price that is no better for the incoming order
pub end-next : (side : Side) (p x : Price) (range : Option (Price × Price)) → IsEnd side p range → is_better (opposite side) x.0 p.0 ≡ false → IsEnd side x range
end-next side p x None h k = end-first side x
end-next Buy p x (Some range) h k = ap (λ (q : Price). Some q) (higher-next range.1 p x (some-price (higher range.1 p) p h) k)
end-next Sell p x (Some range) h k = ap (λ (q : Price). Some q) (lower-next range.0 p x (some-price (lower range.0 p) p h) k)

-- so does another trade at the same price
pub end-again : (side : Side) (p : Price) (range : Option (Price × Price)) → IsEnd side p range → IsEnd side p (lengthened p range)
end-again Buy p None h = ap (λ (q : Price). Some q) (either-same (int_lt p.0 p.0) p)
end-again Sell p None h = ap (λ (q : Price). Some q) (either-same (int_lt p.0 p.0) p)
end-again Buy p (Some range) h = ap (λ (q : Price). Some (higher q p)) (some-price (higher range.1 p) p h) ∙ ap (λ (q : Price). Some q) (either-same (int_lt p.0 p.0) p)
end-again Sell p (Some range) h = ap (λ (q : Price). Some (lower q p)) (some-price (lower range.0 p) p h) ∙ ap (λ (q : Price). Some q) (either-same (int_lt p.0 p.0) p)

pub end-none : (side : Side) → last_in_range side None ≡ None
end-none Buy = refl
end-none Sell = refl
