-- What is a price under a product is one under a product that may follow it.
use Rattle.std.proofs.Common.{◌≡◌, ℕ, true, false, ◌&&◌, List, [], ◌∷◌, Some, refl, ap, suc}
use Prim.Native.Nat.{zero}
use Rattle.std.specs.Prelude.{◌==◌, nat_le, unsigned_abs, slice_get, ◌%◌}
use Rattle.std.proofs.lemmas.Bool.Decides.{Decides-int_eq}
use Rattle.gx_base.specs.declared.limits.TheConstants.{MOST_PRICE_UNITS}
use Rattle.gx_base.specs.declared.price.Price.{Price}
use Rattle.product_file.specs.Products.{ProductLists}
use Rattle.product_file.specs.declared.product.InstrumentRule.{InstrumentRule}
use Rattle.product_file.specs.Amendments.{are_same, has_same_tick}
use Rattle.plain_book.proofs.Levels.{and-left, and-right}
use Rattle.order_kinds.proofs.Amended.{Follows}
use Rattle.book_image.specs.Rules.{is_price_by, is_price_of}

tick-price : (a b : InstrumentRule) (price : Price) → has_same_tick a b ≡ true → is_price_by (Some a) price ≡ is_price_by (Some b) price
tick-price a b price h =
    ap (λ (t : _). nat_le (unsigned_abs price.0) MOST_PRICE_UNITS && (unsigned_abs price.0 % unsigned_abs t == 0)) ((Decides-int_eq a.tick b.tick).0 h)

tick-prices : (price : Price) (xs ys : List InstrumentRule) (i : ℕ) → are_same has_same_tick xs ys ≡ true → is_price_by (slice_get xs i) price ≡ is_price_by (slice_get ys i) price
tick-prices price [] [] i h = refl
tick-prices price [] (y ∷ ys) i h = absurd (let k : false ≡ true = h in cc)
tick-prices price (x ∷ xs) [] i h = absurd (let k : false ≡ true = h in cc)
tick-prices price (x ∷ xs) (y ∷ ys) zero h = tick-price x y price (and-left (has_same_tick x y) (are_same has_same_tick xs ys) h)
tick-prices price (x ∷ xs) (y ∷ ys) (suc i) h = tick-prices price xs ys i (and-right (has_same_tick x y) (are_same has_same_tick xs ys) h)

pub same-prices : (old new : ProductLists) → Follows old new → (i : ℕ) (price : Price) → is_price_of old i price ≡ is_price_of new i price
same-prices old new f i price = tick-prices price old.rules new.rules i f.ticks
