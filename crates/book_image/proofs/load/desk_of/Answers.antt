use Rattle.std.proofs.Common.{◌≡◌, ℕ, List, ap, ◌∙◌}
use Rattle.gx_base.specs.declared.order.Desk.{Desk}
use Rattle.book_image.proofs.load.desk_of.Goals as goal

made : (a b d e a' b' d' e' : ℕ) (l l' : List ℕ) → a ≡ a' → b ≡ b' → d ≡ d' → e ≡ e' → l ≡ l'
    → ◌≡◌ {A = Desk} (record { messages = a; orders = b; reports = d; trades = e; lines = l }) (record { messages = a'; orders = b'; reports = d'; trades = e'; lines = l' })
made a b d e a' b' d' e' l l' p q r s t =
    let desk : ℕ → ℕ → ℕ → ℕ → List ℕ → Desk = λ m o r t l. record { messages = m; orders = o; reports = r; trades = t; lines = l } in
    ap (λ (n : ℕ). desk n b d e l) p ∙ ap (λ (n : ℕ). desk a' n d e l) q ∙ ap (λ (n : ℕ). desk a' b' n e l) r ∙ ap (λ (n : ℕ). desk a' b' d' n l) s ∙ ap (desk a' b' d' e') t

pub returns : goal.returns
returns c =
    let p = c.args.payload.now in
    made _ _ _ _ _ _ _ _ _ _ c.number_at.ensures c.number_at-2.ensures c.number_at-3.ensures c.number_at-4.ensures c.lines_at.ensures
