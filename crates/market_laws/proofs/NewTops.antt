-- An order that comes to rest as TOP has a better price than every order of its side.
use Rattle.std.proofs.Common.{◌≡◌, ℕ, Bool, true, false, cond, ◌&&◌, List, [], ◌∷◌, filter, Option, Some, None, refl, sym, ◌∙◌}
use Rattle.std.specs.List.{AllByRecursion}
use Rattle.gx_base.specs.declared.order.Order.{Order}
use Rattle.plain_book.specs.declared.entry.Entry.{Entry}
use Rattle.plain_book.specs.Orders.{is_on, is_new_best, is_at_earlier_level, slot_of, top_of, side_of, with_top, placed}
use Rattle.plain_book.specs.Book.{EachPair, AreInBookOrder, first_shown, makes_top, resting_placed}
use Rattle.plain_book.proofs.Pairs.{all-with, all-filter}
use Rattle.plain_book.proofs.Tops.{behind-on, new-best-all}
use Rattle.image_laws.proofs.Orders.{IsOther, all-placed}
use Rattle.market_laws.specs.RightActs.{IsBetterThan}

-- an order of this slot is not TOP
abbrev IsNoTop : ℕ → Entry → Type 0
IsNoTop s e = e.slot ≡ s → e.is_top ≡ false

none-has-top : (s : ℕ) (es : List Entry) → AllByRecursion (IsNoTop s) es → slot_of (filter (λ (e : Entry). e.is_top) es) ≡ Some s → ⊥
none-has-top s [] h is = let k : None ≡ Some s = is in absurd (let e : None ≡ Some s = k in cc)
none-has-top s (e ∷ es) h is =
    let F = filter (λ (x : Entry). x.is_top) es in
    let go : (c : Bool) → e.is_top ≡ c → slot_of (cond c (e ∷ F) F) ≡ Some s → ⊥ = elim [
      | true ↦ λ top k. (let f : Some e.slot ≡ Some s = k in let here : e.slot ≡ s = cc in let off = h.0 here in absurd (let g : true ≡ false = sym top ∙ off in cc))
      | false ↦ λ top k. none-has-top s es h.1 k
    ] in go e.is_top refl is

pub top-by-price : (s : ℕ) (o : Order) (least : Option ℕ) (es : List Entry) → EachPair AreInBookOrder es → AllByRecursion (IsOther s) es
    → top_of o.instrument o.side (resting_placed s o least es) ≡ Some s → AllByRecursion (IsBetterThan o) es
top-by-price s o least es ordered fresh is =
    let N = λ (top : Bool). let x : Entry = record { slot = s; order = record o { shown = first_shown o }; is_top = top } in x in
    let marked = with_top o.instrument o.side None es in
    let go : (best : Bool) → is_new_best o es ≡ best → top_of o.instrument o.side (placed (N (best && makes_top least o.leaves)) (cond best marked es)) ≡ Some s → AllByRecursion (IsBetterThan o) es = elim [
      | true ↦ λ better k.
          let n = N true in
          all-with (λ (x : Entry). is_on o.instrument o.side x ≡ true → is_at_earlier_level n x ≡ true) (IsBetterThan o) (λ x b on. sym (behind-on n x on) ∙ b on) es (new-best-all n es ordered better)
      | false ↦ λ worse k.
          let n = N false in
          let none = all-placed (IsNoTop s) n es (λ same. refl) (all-with (IsOther s) (IsNoTop s) (λ e other same. absurd (other same)) es fresh) in
          absurd (none-has-top s (side_of o.instrument o.side (placed n es)) (all-filter (IsNoTop s) (is_on o.instrument o.side) (placed n es) none) k)
    ] in go (is_new_best o es) refl is
