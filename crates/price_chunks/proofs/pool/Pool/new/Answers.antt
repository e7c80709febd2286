use Rattle.std.proofs.Common.{◌≡◌, ℕ, ◌+◌, List, [], ◌∷◌, ◌++◌, Vec, Global, length, replicate, vec_capacity, sym, ap, subst, ◌∙◌, arith, length-append}
use Rattle.price_chunks.specs.declared.place.Step.{Step}
use Rattle.price_chunks.proofs.Moves.{no_pool, more_pool, more_seen}
use Rattle.price_chunks.proofs.pool.Pool.new.Goals as goal
use Rattle.price_chunks.specs.Inner.Pool.{numbers_of, rooms_of, gather_all, IsPool}

pub loop-number-init : goal.loop-number-init
loop-number-init c =
    let chunks = c.in_ok-chunks.chunks in
    let sides = c.in_ok-sides.sides in
    let free = c.in_ok-free.free in
    let none = c.in_ok-chunks.ensures.items in
    let empty = c.in_ok-sides.ensures.items in
    record {
      pool = subst (λ (x : List (List Step) × List (Vec ℕ Global)). IsPool x.0 c.args.room (numbers_of x.1) (rooms_of x.1) [] (vec_capacity free)) (λ j. (sym none j, sym empty j)) (no_pool c.args.room (vec_capacity free) c.requires.fits c.in_ok-free.ensures.exact);
      seen = (λ j. gather_all (none j) (numbers_of (empty j)));
      chunks = ap {B = ℕ} length none;
      sides = ap {B = ℕ} length empty;
      chunks_room = c.in_ok-chunks.ensures.exact;
      sides_room = c.in_ok-sides.ensures.exact;
      free = c.in_ok-free.ensures.items;
      within = omega arith;
    }

pub push_reserved-requires-in-loop-number : goal.push_reserved-requires-in-loop-number
push_reserved-requires-in-loop-number c =
    let v = c.loop-number.invariant in
    omega (arith, v.sides, v.sides_room, c.loop-number.sides.ok.0, c.loop-number-test.true)

pub push_reserved-requires-in-loop-number-2 : goal.push_reserved-requires-in-loop-number-2
push_reserved-requires-in-loop-number-2 c =
    let v = c.loop-number.invariant in
    omega (arith, v.chunks, v.chunks_room, c.loop-number.chunks.ok.0, c.loop-number-test.true, c.requires.some)

pub loop-number-preserved : goal.loop-number-preserved
loop-number-preserved c =
    let v = c.loop-number.invariant in
    let chunks = c.loop-number.chunks.items in
    let sides = c.loop-number.sides.items in
    let r = vec_capacity c.in_ok-free.free in
    let w = c.push_reserved.new.self in
    let w_is : w.items ≡ length chunks ∷ [] = c.push_reserved.ensures.items ∙ (λ j. c.in_ok-numbers.ensures.items j ++ sym v.chunks j ∷ []) in
    let more : c.push_reserved-in-loop-number-2.new.self.items ≡ chunks ++ [] ∷ [] = c.push_reserved-in-loop-number-2.ensures.items ∙ ap (λ (x : List Step). chunks ++ x ∷ []) c.new.ensures in
    let sides_more : c.push_reserved-in-loop-number.new.self.items ≡ sides ++ w ∷ [] = c.push_reserved-in-loop-number.ensures.items in
    record {
      pool = subst (λ (x : List (List Step) × List (Vec ℕ Global)). IsPool x.0 c.args.room (numbers_of x.1) (rooms_of x.1) [] r) (λ j. (sym more j, sym sides_more j)) (more_pool chunks c.args.room sides r v.pool w w_is (c.push_reserved.ensures.capacity ∙ c.in_ok-numbers.ensures.exact));
      seen = (λ j. gather_all (more j) (numbers_of (sides_more j))) ∙ more_seen chunks c.args.room sides r v.pool w w_is c.loop-number.number v.seen;
      chunks = ap {B = ℕ} length more ∙ length-append chunks ([] ∷ []) ∙ ap {B = ℕ} (λ (n : ℕ). n + 1) v.chunks;
      sides = ap {B = ℕ} length sides_more ∙ length-append sides (w ∷ []) ∙ ap {B = ℕ} (λ (n : ℕ). n + 1) v.sides;
      chunks_room = c.push_reserved-in-loop-number-2.ensures.capacity ∙ v.chunks_room;
      sides_room = c.push_reserved-in-loop-number.ensures.capacity ∙ v.sides_room;
      free = v.free;
      within = omega (arith, c.loop-number-test.true);
    }

pub invariant_of-result : goal.invariant_of-result
invariant_of-result c =
    let v = c.loop-number.invariant in
    let chunks = c.loop-number.chunks in
    let sides = c.loop-number.sides in (
      subst (λ (x : ℕ × List ℕ). IsPool chunks.items x.0 (numbers_of sides.items) (rooms_of sides.items) x.1 (vec_capacity c.in_ok-free.free)) (λ j. (sym v.chunks_room j, sym v.free j)) v.pool,
      omega (arith, v.sides_room, v.sides, v.within, c.loop-number-test.false),
    )

pub returns : goal.returns
returns c =
    let v = c.loop-number.invariant in
    let all : c.loop-number.number ≡ c.args.count = omega (arith, v.within, c.loop-number-test.false) in
    (λ j. record { room = v.chunks_room j; sides = (v.seen ∙ ap (λ (n : ℕ). replicate n ([] ∷ [])) all) j })
