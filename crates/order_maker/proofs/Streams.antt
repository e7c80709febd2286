-- The stream from one message on.
use Rattle.std.proofs.Common.{◌≡◌, ℕ, zero, suc, ◌+◌, ◌-◌, ◌≤◌, [], List, ◌++◌, append_assoc, arith, refl, sym, ap, ◌∙◌}
use Rattle.product_file.specs.Products.{ProductLists}
use Rattle.order_maker.specs.declared.made.Made.{Made}
use Rattle.order_maker.specs.Messages.{message_of}
use Rattle.order_maker.specs.Stream.{frame_at, frames_from}

-- no message is left
pub frames-none : (p : ProductLists) (x j left : ℕ) → left ≡ 0 → frames_from p x j left ≡ []
unfolding frames_from
frames-none p x j left none = rw none refl

-- the first frame, and then the others
pub frames-more : (p : ProductLists) (x j left : ℕ) → 1 ≤ left → frames_from p x j left ≡ frame_at p j (message_of p j x).0 ++ frames_from p (message_of p j x).1 (j + 1) (left - 1)
unfolding frames_from
frames-more p x j zero some = absurd (omega arith)
frames-more p x j (suc more) some = let one : suc more - 1 ≡ more = omega arith in rw one refl

-- a frame more stands in front of the stream that is left
pub frame_placed : (p : ProductLists) (x next j left : ℕ) (made : Made) (old placed : List ℕ) → 1 ≤ left → (made, next) ≡ message_of p j x → placed ≡ old ++ frame_at p j made
    → old ++ frames_from p x j left ≡ placed ++ frames_from p next (j + 1) (left - 1)
frame_placed p x next j left made old placed some drawn is =
    ap (λ (l : List ℕ). old ++ l) (frames-more p x j left some ∙ ap (λ (m : Made × ℕ). frame_at p j m.0 ++ frames_from p m.1 (j + 1) (left - 1)) (sym drawn))
    ∙ sym (append_assoc old (frame_at p j made) (frames_from p next (j + 1) (left - 1)))
    ∙ ap (λ (l : List ℕ). l ++ frames_from p next (j + 1) (left - 1)) (sym is)
