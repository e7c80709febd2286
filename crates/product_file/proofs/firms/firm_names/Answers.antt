use Rattle.std.proofs.Common.{◌≡◌, ◌+◌, Bool, true, false, ◌&&◌, cond, nat_le, length, map, drop, sym, ap, ◌∙◌, refl}
use Rattle.std.specs.List.{list_all}
use Rattle.toml.specs.View.{view}
use Rattle.gx_base.specs.declared.limits.TheConstants.{MOST_FIRMS}
use Rattle.product_file.specs.Values.{text_in}
use Rattle.product_file.specs.Ranges.{is_firm_name}
use Rattle.product_file.proofs.Mapped.{all-mapped_twice, take-mapped_twice}
use Rattle.product_file.proofs.firms.firm_names.Goals as goal

fails : (b : Bool) → (b ≡ true → ⊥) → b ≡ false
fails true h = absurd (h refl)
fails false h = refl

-- where the last of three tests fails, all fail
last_fails : {A : Type 0} (a b c : Bool) (x y : A) → c ≡ false → cond (a && b && c) x y ≡ y
last_fails true true c x y e = rw e refl
last_fails true false c x y e = refl
last_fails false b c x y e = refl

pub returns-in-None : goal.returns-in-None
returns-in-None c =
    let value = c.entry-item.result in
    let i = c.loop-entry.entry-index in
    let texts = map text_in (map view c.args.entries.now) in
    let here = all-mapped_twice text_in view c.args.entries.now i value c.loop-entry-test.true c.entry-item.is is_firm_name in
    let fault = fails (is_firm_name (text_in (view value))) c.in-None.ensures in
    sym (last_fails (nat_le 1 (length texts)) (nat_le (length texts) MOST_FIRMS) (list_all is_firm_name texts) _ _
    (c.loop-entry.invariant.rest ∙ here ∙ ap (λ (b : Bool). b && list_all is_firm_name (drop (i + 1) texts)) fault))

pub loop-entry-preserved : goal.loop-entry-preserved
loop-entry-preserved c =
    let passed = take-mapped_twice text_in view c.args.entries.now c.loop-entry.entry-index c.entry-item.result c.loop-entry-test.true c.entry-item.is in
    record {
      kept = cc (passed, c.in-Some.ensures.1);
      rest = c.loop-entry.invariant.rest ∙ all-mapped_twice text_in view c.args.entries.now c.loop-entry.entry-index c.entry-item.result c.loop-entry-test.true c.entry-item.is is_firm_name
          ∙ ap (λ (b : Bool). b && list_all is_firm_name (drop (c.loop-entry.entry-index + 1) (map text_in (map view c.args.entries.now)))) (c.in-Some.ensures.0);
    }
