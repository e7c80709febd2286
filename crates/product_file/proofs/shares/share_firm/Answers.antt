use Rattle.std.proofs.Common.{◌≡◌, List, [], ℕ, Some, None, Err, Result, position, bytes_eq, sym, refl}
use Rattle.std.proofs.lemmas.List.{get_or_read}
use Rattle.product_file.specs.declared.faults.ProductFault.{ProductFault}
use Rattle.product_file.specs.declared.faults.ProductFault.TheVariants.{Twice}
use Rattle.product_file.specs.Inner.Shares.{share_firm}
use Rattle.product_file.proofs.Lists.{place_within}
use Rattle.product_file.proofs.shares.share_firm.Goals as goal

twice_same : (a b : List ℕ) → a ≡ b → ◌≡◌ {A = Result ℕ ProductFault} (Err (Twice a)) (Err (Twice b))
twice_same a b e = rw e refl

pub returns-in-Some : goal.returns-in-Some
unfolding share_firm
returns-in-Some c =
    let firms = c.args.firms.now in
    let at = c.in-Some.at in
    let name = c.in_ok-name.name.now in
    let found : Some at ≡ position (λ listed. bytes_eq listed name) firms = rw c.as_bytes.ensures.value at c.in-Some.ensures in
    let within = place_within (λ listed. bytes_eq listed name) firms at (sym found) in
    let same = get_or_read firms at c.index-firms-at.result within c.index-firms-at.is [] in
    rw (← c.in_ok-name.ensures, ← found, ← c.if-has_firm.ensures) (twice_same c.index-firms-at.result _ same)

pub returns-in-None : goal.returns-in-None
unfolding share_firm
returns-in-None c =
    let none : None ≡ position (λ listed. bytes_eq listed c.in_ok-name.name.now) c.args.firms.now = rw c.as_bytes.ensures.value at c.in-None.ensures in
    rw (← c.in_ok-name.ensures, ← none) refl
