use Rattle.std.proofs.Common.{◌≡◌, ◌<◌, length, sym, ap, ◌∙◌}
use Rattle.std.proofs.lemmas.Bool.{ltb-true}
use Rattle.std.proofs.lemmas.List.{get_or_read}
use Rattle.id_table.specs.declared.node.Node.{Node}
use Rattle.id_table.specs.Inner.Nodes.{blank, key_of, node_at}
use Rattle.id_table.proofs.Keys.{same_key-true}
use Rattle.id_table.proofs.Tests.{differ_not}
use Rattle.id_table.proofs.node.is_end.Goals as goal

pub returns-in-Some-clause-named : goal.returns-in-Some-clause-named
returns-in-Some-clause-named c = λ named within.
    let here : c.in-Some.node.now ≡ node_at c.args.nodes.now c.args.link = get_or_read c.args.nodes.now c.args.link c.in-Some.node.now within c.in-Some.ensures.lookup.1 blank in
    sym (ap (λ (n : Node). key_of n.entry) here) ∙ sym (same_key-true _ _ (sym c.is_named.ensures ∙ named))

pub returns-in-Some-clause-other : goal.returns-in-Some-clause-other
returns-in-Some-clause-other c = λ other.
    let within : c.args.link < length c.args.nodes.now = ltb-true _ _ (sym c.in-Some.ensures.lookup.0) in
    let here : c.in-Some.node.now ≡ node_at c.args.nodes.now c.args.link = get_or_read c.args.nodes.now c.args.link c.in-Some.node.now within c.in-Some.ensures.lookup.1 blank in
    λ named. differ_not _ _ (sym c.is_named.ensures ∙ other) (sym named ∙ sym (ap (λ (n : Node). key_of n.entry) here))
