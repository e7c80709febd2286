-- What follows in turn.
use Rattle.std.proofs.Common.{◌≡◌, ℕ, zero, suc, ◌+◌, ◌-◌, ◌*◌, ◌/◌, ◌%◌, ◌<◌, ◌≤◌, ◌==◌, true, false, nat_lt, cond, if◌then◌else◌, inl, inr, arith, refl, sym, ap, ◌∙◌}
use Rattle.std.proofs.lemmas.Nat.{div-add-mod', div-mul-add, mod-mul-add}
use Rattle.std.proofs.Math.Nat.{eq-or-lt_of_le, mod-eq_of_lt, mod-lt}
use Rattle.gx_base.specs.declared.order.Side.{Side}
use Rattle.gx_base.specs.declared.order.Side.TheVariants.{Buy, Sell}
use Rattle.order_maker.specs.Inner.{other, side_after}

-- a number that is not the last of its round
inner_parts : (j n : ℕ) → j + 1 ≡ (j / n) * n + (j % n + 1)
inner_parts j n = omega (arith, div-add-mod' j n)

inner_mod : (j n : ℕ) → j % n + 1 < n → (j + 1) % n ≡ j % n + 1
inner_mod j n within = ap (λ k. k % n) (inner_parts j n) ∙ mod-mul-add (j / n) n (j % n + 1) within

inner_div : (j n : ℕ) → j % n + 1 < n → (j + 1) / n ≡ j / n
inner_div j n within = ap (λ k. k / n) (inner_parts j n) ∙ div-mul-add (j / n) n (j % n + 1) within

-- the last number of its round
once_more : (q n : ℕ) → (q + 1) * n ≡ q * n + n
once_more q n = grind arith

last_parts : (j n : ℕ) → j % n + 1 ≡ n → j + 1 ≡ (j / n + 1) * n + 0
last_parts j n last = omega (arith, div-add-mod' j n, once_more (j / n) n)

last_mod : (j n : ℕ) → 1 ≤ n → j % n + 1 ≡ n → (j + 1) % n ≡ 0
last_mod j n some last = ap (λ k. k % n) (last_parts j n last) ∙ mod-mul-add (j / n + 1) n 0 some

last_div : (j n : ℕ) → 1 ≤ n → j % n + 1 ≡ n → (j + 1) / n ≡ j / n + 1
last_div j n some last = ap (λ k. k / n) (last_parts j n last) ∙ div-mul-add (j / n + 1) n 0 some

-- the next number in turn, by the one before it
pub next_mod : (j n : ℕ) → 1 ≤ n → (j % n + 1) % n ≡ (j + 1) % n
next_mod j n some =
    let bound : j % n + 1 ≤ n = omega (arith, mod-lt j some) in
    elim (eq-or-lt_of_le bound) [
      | inl last ↦ (let self : n ≡ 1 * n + 0 = omega arith in ap (λ k. k % n) (last ∙ self) ∙ mod-mul-add 1 n 0 some ∙ sym (last_mod j n some last))
      | inr within ↦ mod-eq_of_lt within ∙ sym (inner_mod j n within)
    ]

-- one round buys, and the next one sells
abbrev side_of : ℕ → Side
side_of round = if round % 2 == 0 then Buy else Sell

flipped : (r : ℕ) → r < 2 → other (if r == 0 then Buy else Sell) ≡ (if (1 - r) == 0 then Buy else Sell)
flipped zero few = refl
flipped (suc zero) few = refl
flipped (suc (suc r)) few = absurd (omega (arith, few))

next_side : (round : ℕ) → other (side_of round) ≡ side_of (round + 1)
next_side round =
    let next : (round + 1) % 2 ≡ 1 - round % 2 = omega arith in
    flipped (round % 2) (omega arith) ∙ ap (λ k. if k == 0 then Buy else Sell) (sym next)

-- the last firm's message begins a round
pub side_follows : (j n : ℕ) → 1 ≤ n → side_after (side_of (j / n)) (j % n) n ≡ side_of ((j + 1) / n)
side_follows j n some =
    let bound : j % n + 1 ≤ n = omega (arith, mod-lt j some) in
    elim (eq-or-lt_of_le bound) [
      | inl last ↦ (let is : nat_lt (j % n + 1) n ≡ false = grind arith in
          ap (λ b. cond b (side_of (j / n)) (other (side_of (j / n)))) is ∙ next_side (j / n) ∙ ap side_of (sym (last_div j n some last)))
      | inr within ↦ (let is : nat_lt (j % n + 1) n ≡ true = grind arith in
          ap (λ b. cond b (side_of (j / n)) (other (side_of (j / n)))) is ∙ ap side_of (sym (inner_div j n within)))
    ]
