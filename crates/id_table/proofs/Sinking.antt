-- The way down from a node to one with nothing below it.
use Rattle.std.proofs.Common.{◌≡◌, ◌≢◌, ℕ, ◌<◌, ◌≤◌, Bool, true, cond, length, sym, ap, subst, ◌∙◌, arith}
use Prim.Native.Nat.{suc}
use Rattle.std.proofs.Math.Dec.{eqb}
use Rattle.std.proofs.lemmas.Bool.{eqb-true, eqb-false}
use Rattle.id_table.specs.declared.node.Node.{Node}
use Rattle.id_table.specs.declared.spot.Spot.{Spot}
use Rattle.id_table.specs.declared.forest.Forest.{Forest}
use Rattle.id_table.specs.Inner.Nodes.{nowhere, key_of, entry_at}
use Rattle.id_table.specs.Inner.Places.{link_of, side_of, way, IsBelow, IsWithin}
use Rattle.id_table.specs.Inner.Forests.{IsForest, IsOwnSpot, Stands}
use Rattle.id_table.specs.Inner.Ways.{home_of}
use Rattle.id_table.proofs.Passing.{none, link_side, link_within, side_within}
use Rattle.id_table.proofs.Tests.{by_test}
use Rattle.id_table.proofs.Ways.{side_way, IsSideWay}

-- a spot at or below another, both on the way of the key of the node that it leads to
pub record HasSunk (f : Forest) (s l : Spot) : Type 0 where
  pub own : IsOwnSpot f l
  pub above : s.place ≡ way (home_of f.capacity) (link_of f) (key_of (entry_at f.nodes.items l.link)) s.depth
  pub deep : s.depth ≤ l.depth

-- the link on the side that is taken leads on
pub leads_on : (n : Node) (t : ℕ) → (n.low ≡ nowhere → n.high ≢ nowhere) → t ≡ cond (eqb n.low nowhere) n.high n.low → t ≢ nowhere
leads_on n t below is e = by_test (eqb n.low nowhere) ⊥
    (λ yes. below (eqb-true n.low nowhere yes) (sym (is ∙ ap (λ (b : Bool). cond b n.high n.low) yes) ∙ e))
    (λ no. eqb-false n.low nowhere no (sym (is ∙ ap (λ (b : Bool). cond b n.high n.low) no) ∙ e))

module _ (f : Forest) (forest : IsForest f) where
  pub own_within : (s : Spot) → IsOwnSpot f s → s.link < length f.nodes.items
  own_within s own = subst (λ (x : ℕ). x < length f.nodes.items) (sym own.on.link) (link_within f forest s.place (λ e. own.leads (own.on.link ∙ e)))

  pub sunk : (s l t : Spot) (b : Bool) → HasSunk f s l → IsBelow f.nodes.items l b t → t.link ≢ nowhere → HasSunk f s t
  sunk s l t b at below leads =
      let home = home_of f.capacity in
      let link = link_of f in
      let k = key_of (entry_at f.nodes.items l.link) in
      let q = key_of (entry_at f.nodes.items t.link) in
      let node : l.link ≡ link (way home link k l.depth) = at.own.on.link ∙ ap link at.own.on.place in
      let led : t.link ≡ link (side_of b l.link) = below.link ∙ link_side f.buckets.items f.nodes.items b l.link in
      let led' : t.link ≡ link (side_of b (link (way home link k l.depth))) = led ∙ ap (λ (x : ℕ). link (side_of b x)) node in
      let live = subst (λ (x : ℕ). (entry_at f.nodes.items x).is_live ≡ true) (sym led) (forest.trees.ends (side_of b l.link) (λ e. leads (led ∙ e))) in
      let stands : Stands home link q t.link = forest.trees.stands t.link live in
      let side : IsSideWay home link k l.depth b q = side_way home link _ forest.trees (none f forest) k l.depth b q stands.depth (λ e. at.own.leads (node ∙ e)) (λ e. leads (led' ∙ e)) (stands.there ∙ led') in
      let deeper : t.depth ≡ suc l.depth = omega (arith, below.depth) in
      record {
        own = record {
          leads = leads;
          on = record {
            place = below.place ∙ ap (side_of b) node ∙ side.place ∙ sym (ap (way home link q) deeper);
            link = led ∙ sym (ap link below.place);
            within = subst (IsWithin f) (sym below.place) (side_within f forest b l.link (own_within l at.own));
          };
        };
        above = at.above ∙ side.ways s.depth at.deep;
        deep = omega (arith, at.deep, below.depth);
      }
