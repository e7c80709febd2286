use Rattle.std.proofs.Common.{◌≡◌, ◌≢◌, ◌<◌, List, length, refl, subst, sym, arith}
use Rattle.id_table.specs.declared.node.Node.{Node}
use Rattle.id_table.specs.Ids.{key}
use Rattle.id_table.specs.Inner.Nodes.{key_of, entry_at}
use Rattle.id_table.specs.Inner.Places.{IsBelow}
use Rattle.id_table.proofs.Passing.{depth_within, within_leads, next, ends}
use Rattle.id_table.proofs.forest.Forest.spot_of.Goals as goal

pub next_spot-spot-requires-clause-depth : goal.next_spot-spot-requires-clause-depth
next_spot-spot-requires-clause-depth c =
    let f = c.args.self.now in
    let k = key c.args.firm c.args.id.now in
    let within : c.loop-spot.spot.link < length f.nodes.items = subst (λ (ns : List Node). c.loop-spot.spot.link < length ns) c.deref.ensures.value (c.loop-spot-test.ensures.within refl) in
    subst (λ (ns : List Node). c.loop-spot.spot.depth < length ns) (sym c.deref-in-loop-spot.ensures.value)
    (depth_within f c.requires k c.loop-spot.spot c.loop-spot.invariant.on (within_leads f c.requires c.loop-spot.spot.link within))

pub loop-spot-smaller : goal.loop-spot-smaller
loop-spot-smaller c =
    let f = c.args.self.now in
    let k = key c.args.firm c.args.id.now in
    let within : c.loop-spot.spot.link < length f.nodes.items = subst (λ (ns : List Node). c.loop-spot.spot.link < length ns) c.deref.ensures.value (c.loop-spot-test.ensures.within refl) in
    let deep : c.loop-spot.spot.depth < length f.nodes.items = depth_within f c.requires k c.loop-spot.spot c.loop-spot.invariant.on (within_leads f c.requires c.loop-spot.spot.link within) in
    omega (arith, deep, c.next_spot-spot.ensures.depth)

pub loop-spot-preserved : goal.loop-spot-preserved
loop-spot-preserved c =
    let f = c.args.self.now in
    let k = key c.args.firm c.args.id.now in
    let s = c.loop-spot.spot in
    let within : s.link < length f.nodes.items = subst (λ (ns : List Node). s.link < length ns) c.deref.ensures.value (c.loop-spot-test.ensures.within refl) in
    let other : key_of (entry_at f.nodes.items s.link) ≢ k = subst (λ (ns : List Node). key_of (entry_at ns s.link) ≢ k) c.deref.ensures.value (c.loop-spot-test.ensures.other refl) in
    next f c.requires k s c.next_spot-spot.result c.is_high.result c.loop-spot.invariant c.is_high.ensures (within_leads f c.requires s.link within) other
    (subst (λ (ns : List Node). IsBelow ns s c.is_high.result c.next_spot-spot.result) c.deref-in-loop-spot.ensures.value c.next_spot-spot.ensures)

pub returns : goal.returns
returns c =
    let f = c.args.self.now in
    let k = key c.args.firm c.args.id.now in
    let s = c.loop-spot.spot in
    ends f c.requires k s c.loop-spot.invariant
    (subst (λ (ns : List Node). s.link < length ns → key_of (entry_at ns s.link) ≡ k) c.deref.ensures.value (c.loop-spot-test.ensures.named refl))
