-- Which orders may rest.
use Rattle.std.proofs.Common.{◌≡◌, true, false, refl, inl, inr, ◌⊎◌}
use Rattle.gx_base.specs.declared.order.Life.{Life}
use Rattle.gx_base.specs.declared.order.Life.TheVariants.{Day, Gtc, Fak, Fok}
use Rattle.order_kinds.specs.NewOrders.{may_rest}

pub resting-life : (life : Life) → may_rest life ≡ true → (life ≡ Day) ⊎ (life ≡ Gtc)
resting-life Day h = inl refl
resting-life Gtc h = inr refl
resting-life Fak h = absurd (let k : false ≡ true = h in cc)
resting-life Fok h = absurd (let k : false ≡ true = h in cc)
