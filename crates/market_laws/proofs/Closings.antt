-- A close does right things: what it reports of each order that expires, and the markets that it leaves.
use Rattle.std.proofs.Common.{◌≡◌, ℕ, Bool, true, false, cond, List, [], ◌∷◌, filter, refl, sym, ap, ◌∙◌}
use Rattle.std.specs.List.{AllByRecursion}
use Rattle.gx_base.specs.declared.order.Desk.{Desk}
use Rattle.gx_base.specs.declared.event.Head.{Head}
use Rattle.gx_base.specs.declared.event.Event.{Event}
use Rattle.plain_book.specs.declared.entry.Entry.{Entry}
use Rattle.plain_book.specs.Match.{report_counted, next_head}
use Rattle.order_kinds.specs.TradingSessions.{expired, expiry_reports}

-- what holds of the report of each order that expires
pub each-expiry : (P : Event → Type 0) (Q : Entry → Type 0) → ((head : Head) (e : Entry) → Q e → P (expired head e.order)) → (time : List ℕ) (es : List Entry) (desk : Desk) → AllByRecursion Q es
    → AllByRecursion P (expiry_reports time es desk).1
each-expiry P Q f time [] desk h = tt
each-expiry P Q f time (e ∷ es) desk h = (f (next_head desk e.order.firm time) e h.0, each-expiry P Q f time es (report_counted desk e.order.firm) h.1)

-- no order is given a number
pub expiry-orders : (time : List ℕ) (es : List Entry) (desk : Desk) → (expiry_reports time es desk).0.orders ≡ desk.orders
expiry-orders time [] desk = refl
expiry-orders time (e ∷ es) desk = expiry-orders time es (report_counted desk e.order.firm)

-- two tests, in either order
pub filters-swap : (p q : Entry → Bool) (es : List Entry) → filter p (filter q es) ≡ filter q (filter p es)
filters-swap p q [] = refl
filters-swap p q (e ∷ es) =
    let L = filter p (filter q es) in
    let R = filter q (filter p es) in
    let rest : L ≡ R = filters-swap p q es in
    let go : (a b : Bool) → p e ≡ a → q e ≡ b → filter p (cond b (e ∷ filter q es) (filter q es)) ≡ filter q (cond a (e ∷ filter p es) (filter p es)) = elim [
      | true ↦ elim [
        | true ↦ λ is on. ap (λ (c : Bool). cond c (e ∷ L) L) is ∙ ap (λ (l : List Entry). e ∷ l) rest ∙ sym (ap (λ (c : Bool). cond c (e ∷ R) R) on)
        | false ↦ λ is on. rest ∙ sym (ap (λ (c : Bool). cond c (e ∷ R) R) on)
      ]
      | false ↦ elim [
        | true ↦ λ is on. ap (λ (c : Bool). cond c (e ∷ L) L) is ∙ rest
        | false ↦ λ is on. rest
      ]
    ] in go (p e) (q e) refl refl
