-- What a listing takes from a product is the same in a product that may follow it.
use Rattle.std.proofs.Common.{◌≡◌, ℕ, Bool, true, false, not, List, [], ◌∷◌, map, Option, Some, None, Ok, Result, bytes_eq, refl, sym, ap, ap₂, subst, ◌∙◌}
use Rattle.std.specs.Prelude.{◌==◌, nat_lt, unsigned_abs}
use Rattle.std.specs.Option.{option_or}
use Rattle.std.proofs.lemmas.Bool.{and_parts}
use Rattle.std.proofs.lemmas.Bool.Decides.{Decides-eqb, Decides-int_eq}
use Rattle.std.proofs.lemmas.Slice.Eq.{bytes_eq-Decides}
use Rattle.gx_base.specs.FirstFault.{fault_if, unless_fault}
use Rattle.gx_base.specs.declared.names.Listed.{Listed}
use Rattle.product_file.specs.Products.{ProductLists}
use Rattle.product_file.specs.Amendments.{begins_with, are_same, is_same_listed, has_same_tick, has_same_instruments, amend_fault, may_follow}
use Rattle.product_file.specs.declared.product.InstrumentRule.{InstrumentRule}
use Rattle.product_file.specs.declared.amendments.AmendFault.{AmendFault}
use Rattle.product_file.specs.declared.amendments.AmendFault.TheVariants as fault
use Rattle.order_kinds.specs.Histories.{History, of_product, amended, last_product}
use Rattle.level_feed.specs.Lines.{Listing, listing_of}
use Rattle.stream_laws.specs.FeedLaws.{HaveListing, SameListings}

-- ---- no fault

no-fault : (f : Option AmendFault) → ◌≡◌ {A = Result (Unit {0}) AmendFault} (unless_fault f (tt {0})) (Ok tt) → f ≡ None
no-fault None h = refl
no-fault (Some f) h = cc

passes : (b : Bool) (f : AmendFault) (rest : Option AmendFault) → option_or (fault_if (not b) f) rest ≡ None → (b ≡ true) × (rest ≡ None)
passes true f rest h = (refl, h)
passes false f rest h = cc

not-if : (b : Bool) (f : AmendFault) (rest : Option AmendFault) → option_or (fault_if b f) rest ≡ None → rest ≡ None
not-if true f rest h = cc
not-if false f rest h = h

-- what stays
record Stays (old new : ProductLists) : Type 0 where
  orders : (old.max_orders == new.max_orders) ≡ true
  instruments : are_same is_same_listed old.names.instruments new.names.instruments ≡ true
  ticks : are_same has_same_tick old.rules new.rules ≡ true

stays : (old new : ProductLists) → may_follow old new ≡ Ok tt → Stays old new
stays old new h =
    let exchange = bytes_eq old.names.exchange new.names.exchange in
    let firms = begins_with bytes_eq old.names.firms new.names.firms in
    let orders = old.max_orders == new.max_orders in
    let limit = nat_lt new.journal_limit old.journal_limit in
    let instruments = has_same_instruments old new in
    let by_instruments = option_or (fault_if (not instruments) fault.Instruments) None in
    let by_limit = option_or (fault_if limit fault.JournalLimit) by_instruments in
    let by_orders = option_or (fault_if (not orders) fault.MaxOrders) by_limit in
    let by_firms = option_or (fault_if (not firms) fault.Firms) by_orders in
    let after_exchange = passes exchange fault.Exchange by_firms (no-fault (amend_fault old new) h) in
    let after_firms = passes firms fault.Firms by_orders after_exchange.1 in
    let after_orders = passes orders fault.MaxOrders by_limit after_firms.1 in
    let after_limit = not-if limit fault.JournalLimit by_instruments after_orders.1 in
    let after_instruments = passes instruments fault.Instruments None after_limit in
    let parts = and_parts (are_same is_same_listed old.names.instruments new.names.instruments) (are_same has_same_tick old.rules new.rules) after_instruments.0 in
    record { orders = after_orders.0; instruments = parts.0; ticks = parts.1 }

-- ---- lists that are the same

-- where the test of two elements decides what a function takes from them, the lists give the same
module _ {A B : Type 0} (same : A → A → Bool) (f : A → B) (decides : (a b : A) → same a b ≡ true → f b ≡ f a) where
  same-taken : (xs ys : List A) → are_same same xs ys ≡ true → map f ys ≡ map f xs
  same-taken [] [] h = refl
  same-taken [] (y ∷ ys) h = absurd (let e : false ≡ true = h in cc)
  same-taken (x ∷ xs) [] h = absurd (let e : false ≡ true = h in cc)
  same-taken (x ∷ xs) (y ∷ ys) h =
      let parts = and_parts (same x y) (are_same same xs ys) h in
      ap₂ (λ (b : B) (bs : List B). b ∷ bs) (decides x y parts.0) (same-taken xs ys parts.1)

map-itself : {A : Type 0} (xs : List A) → map (λ (x : A). x) xs ≡ xs
map-itself [] = refl
map-itself (x ∷ xs) = ap (λ (ys : List _). x ∷ ys) (map-itself xs)

-- ---- instruments and ticks

listed-same : (a b : Listed) → is_same_listed a b ≡ true → b ≡ a
listed-same a b h =
    let parts = and_parts (bytes_eq a.name b.name) (a.decimals == b.decimals) h in
    sym (ap₂ (λ (name : List ℕ) (decimals : ℕ). record { name = name; decimals = decimals }) ((bytes_eq-Decides a.name b.name).0 parts.0) ((Decides-eqb a.decimals b.decimals).0 parts.1))

tick-same : (a b : InstrumentRule) → has_same_tick a b ≡ true → unsigned_abs b.tick ≡ unsigned_abs a.tick
tick-same a b h = ap unsigned_abs (sym ((Decides-int_eq a.tick b.tick).0 h))

pub same-instruments : (old new : ProductLists) → may_follow old new ≡ Ok tt → new.names.instruments ≡ old.names.instruments
same-instruments old new h =
    sym (map-itself new.names.instruments)
    ∙ same-taken is_same_listed (λ (l : Listed). l) listed-same old.names.instruments new.names.instruments (stays old new h).instruments
    ∙ map-itself old.names.instruments

-- ---- listings

-- a listing of the same parts
same-parts : (a b : Listing) → a.instruments ≡ b.instruments → a.ticks ≡ b.ticks → a.max_orders ≡ b.max_orders → a ≡ b
same-parts a b instruments ticks orders =
    ap (λ (i : List Listed). record { instruments = i; ticks = a.ticks; max_orders = a.max_orders }) instruments
    ∙ ap₂ (λ (t : List ℕ) (m : ℕ). record { instruments = b.instruments; ticks = t; max_orders = m }) ticks orders

pub same-listing : (old new : ProductLists) → may_follow old new ≡ Ok tt → listing_of new ≡ listing_of old
same-listing old new h =
    let are = stays old new h in
    same-parts (listing_of new) (listing_of old) (same-instruments old new h)
    (same-taken has_same_tick (λ (rule : InstrumentRule). unsigned_abs rule.tick) tick-same old.rules new.rules are.ticks)
    (sym ((Decides-eqb old.max_orders new.max_orders).0 are.orders))

-- ---- histories

same-as : (a b : Listing) → a ≡ b → (kept : History) → HaveListing a kept → HaveListing b kept
same-as a b same kept h = subst (λ (listing : Listing). HaveListing listing kept) same h

pub same-listings : SameListings
same-listings (of_product product messages) is = refl
same-listings (amended before product messages) is =
    (same-as (listing_of (last_product before)) (listing_of product) (sym (same-listing (last_product before) product is.1)) before (same-listings before is.0), refl)
