use Rattle.std.proofs.Common.{◌≡◌, ◌≢◌, ◌<◌, List, length, refl, sym, subst, arith}
use Rattle.std.proofs.Math.Dec.{eqb}
use Rattle.std.proofs.lemmas.List.{get_or_read}
use Rattle.id_table.specs.declared.node.Node.{Node}
use Rattle.id_table.specs.Inner.Nodes.{nowhere, blank, key_of, entry_at, node_at}
use Rattle.id_table.specs.Inner.Places.{IsBelow}
use Rattle.id_table.proofs.Passing.{depth_within}
use Rattle.id_table.proofs.Sinking.{own_within, leads_on, sunk}
use Rattle.id_table.proofs.forest.Forest.leaf_below.Goals as goal

pub next_spot-leaf-requires-clause-depth : goal.next_spot-leaf-requires-clause-depth
next_spot-leaf-requires-clause-depth c =
    let f = c.args.self.now in
    let l = c.loop-high.leaf in
    let own = c.loop-high.invariant.own in
    subst (λ (ns : List Node). l.depth < length ns) (sym c.deref.ensures.value) (depth_within f c.requires.forest (key_of (entry_at f.nodes.items l.link)) l own.on own.leads)

pub loop-high-smaller : goal.loop-high-smaller
loop-high-smaller c =
    let f = c.args.self.now in
    let l = c.loop-high.leaf in
    let own = c.loop-high.invariant.own in
    let deep : l.depth < length f.nodes.items = depth_within f c.requires.forest (key_of (entry_at f.nodes.items l.link)) l own.on own.leads in
    omega (arith, deep, c.next_spot-leaf.ensures.depth)

pub loop-high-preserved : goal.loop-high-preserved
loop-high-preserved c =
    let f = c.args.self.now in
    let l = c.loop-high.leaf in
    let within = own_within f c.requires.forest l c.loop-high.invariant.own in
    let tested : c.index.result.now ≡ node_at f.nodes.items l.link = get_or_read f.nodes.items l.link c.index.result.now within c.index.ensures blank in
    let read : c.index-in-loop-high.result.now ≡ node_at f.nodes.items l.link = get_or_read f.nodes.items l.link c.index-in-loop-high.result.now within c.index-in-loop-high.ensures blank in
    let b = eqb (node_at f.nodes.items l.link).low nowhere in
    let below : IsBelow f.nodes.items l b c.next_spot-leaf.result =
    subst (λ (n : Node). IsBelow f.nodes.items l (eqb n.low nowhere) c.next_spot-leaf.result) read
    (subst (λ (ns : List Node). IsBelow ns l (eqb c.index-in-loop-high.result.now.low nowhere) c.next_spot-leaf.result) c.deref.ensures.value c.next_spot-leaf.ensures) in
    let more : (node_at f.nodes.items l.link).low ≡ nowhere → (node_at f.nodes.items l.link).high ≢ nowhere = subst (λ (n : Node). n.low ≡ nowhere → n.high ≢ nowhere) tested (c.loop-high-test.ensures.below refl) in
    sunk f c.requires.forest c.args.spot l c.next_spot-leaf.result b c.loop-high.invariant below (leads_on (node_at f.nodes.items l.link) c.next_spot-leaf.result.link more below.link)
