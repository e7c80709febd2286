use Rattle.std.proofs.Common.{◌≡◌, ◌++◌, List, [], ◌∷◌, ℕ, Ok, true, false, map, take, bytes_eq, sym, ap, ◌∙◌, not, arith}
use Rattle.std.specs.List.{list_any}
use Rattle.std.proofs.lemmas.List.{take_more}
use Rattle.step_config.specs.RepeatLaws.{stands_twice, stands_once}
use Rattle.product_file.proofs.Numbered.{is_numbered, stands_before, next_number}
use Rattle.product_file.proofs.firms.first_numbered.Goals as goal

pub returns-then-not-is_new : goal.returns-then-not-is_new
returns-then-not-is_new c =
    let names = c.args.names.now in
    let i = c.loop-name.name-index in
    let name = c.name-item.result in
    let ok : c.insert.result ≡ Ok c.unwrap-is_new.result = cc in
    let added = rw c.bytes.ensures.bytes at (rw ok at c.insert.ensures.added) in
    let has : list_any (λ before. bytes_eq before name) (take i names) ≡ true = stands_before (λ k. k.now) _ name c.loop-name.numbers.keys (take i names) added c.loop-name.invariant.numbered ∙ ap not c.if-not-is_new.true in
    sym (c.loop-name.invariant.decides ∙ stands_twice bytes_eq (λ n. n) names i name c.loop-name-test.true c.name-item.is has)

pub loop-name-preserved : goal.loop-name-preserved
loop-name-preserved c =
    let names = c.args.names.now in
    let i = c.loop-name.name-index in
    let name = c.name-item.result in
    let keys = c.loop-name.numbers.keys in
    let ok : c.insert.result ≡ Ok c.unwrap-is_new.result = cc in
    let added = rw c.bytes.ensures.bytes at (rw ok at c.insert.ensures.added) in
    let after = rw ok at c.insert.ensures.keys in
    let has_not : list_any (λ before. bytes_eq before name) (take i names) ≡ false = stands_before (λ k. k.now) _ name keys (take i names) added c.loop-name.invariant.numbered ∙ ap not c.if-not-is_new.false in
    let new : list_any (λ k. bytes_eq c.bytes.result.now k.now) keys ≡ false = rw (c.bytes.ensures.bytes) (is_numbered (λ k. k.now) name keys ∙ ap (list_any (λ before. bytes_eq before name)) c.loop-name.invariant.numbered ∙ has_not) in
    record {
      decides = c.loop-name.invariant.decides ∙ stands_once bytes_eq (λ n. n) names i name c.loop-name-test.true c.name-item.is has_not;
      numbered = ap (map (λ k. k.now)) after ∙ next_number (λ k. k.now) keys c.bytes.result new ∙ rw (c.loop-name.invariant.numbered, c.bytes.ensures.bytes) (sym (take_more names i name c.loop-name-test.true ∙ ap (λ (n : List ℕ). take i names ++ n ∷ []) (sym c.name-item.is)));
      room = omega (arith, c.insert.ensures.spare);
    }
