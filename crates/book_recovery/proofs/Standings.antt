-- A journal that has moved, and moves again.
use Rattle.std.proofs.Common.{◌≡◌, ℕ, ◌+◌, List, length, Bool, false, Option, Some, None, Ok, Err, not, sym, ◌∙◌, ap, ap₂, subst}
use Rattle.std.specs.Prelude.{IfSome}
use Rattle.match_journal.specs.Journal.{Header}
use Rattle.match_journal.specs.HeaderLaws.{one_header}
use Rattle.match_journal.specs.Classes.{HasHeader}
use Rattle.match_journal.specs.Opening.{StandsIn}
use Rattle.match_journal.specs.Standing.{moved}
use Rattle.match_journal.specs.Walking.{stands_then}
use Rattle.match_journal.specs.declared.entry.Entry.{Entry}
use Rattle.match_journal.specs.declared.faults.WalkFault.{WalkFault}
use Rattle.match_journal.specs.declared.standing.Standing.{Standing}

pub moved_itself : (s x : Standing) (gate : ℕ) (ends : Bool) → x ≡ moved s gate ends → x ≡ moved s x.gate x.is_at_end
moved_itself s x gate ends is = is ∙ ap₂ (moved s) (sym (ap (λ (t : Standing). t.gate) is)) (sym (ap (λ (t : Standing). t.is_at_end) is))

pub moved_then : (s x y : Standing) (gate : ℕ) (ends : Bool) → x ≡ moved s x.gate x.is_at_end → y ≡ moved x gate ends → y ≡ moved s y.gate y.is_at_end
moved_then s x y gate ends same is = moved_itself s y gate ends (is ∙ ap (λ (t : Standing). moved t gate ends) same)

-- it knows of an image what it knew
pub stands_moved : (s x : Standing) (gate : ℕ) (ends : Bool) (image : List ℕ) → x ≡ moved s gate ends → StandsIn s image → StandsIn x image
stands_moved s x gate ends image is stands = subst (λ (t : Standing). StandsIn t image) (sym is) (record {
  known = stands.known;
  head = stands.head;
  text = stands.text;
  opened = stands.opened;
  version = stands.version;
  first = stands.first;
  text_at = stands.text_at;
  text_len = stands.text_len;
})

-- the first gate is after the header of the image
pub stands_first : (s : Standing) (head : Header) (image : List ℕ) → StandsIn s image → HasHeader head image → s.first ≡ 13 + length head.text
stands_first s head image stands header = stands.first ∙ ap (λ (h : Header). 13 + length h.text) (one_header image stands.head head stands.opened.header header)

-- the head of a record was passed
pub some_moved : (x y : Standing) (found : Option Entry) (entry : Entry) → found ≡ Some entry → y ≡ stands_then x (Ok found) → y ≡ moved x (x.gate + 6 + entry.length) false
some_moved x y found entry is then = subst (λ (o : Option Entry). y ≡ stands_then x (Ok o)) is then

-- the gate is closed
pub none_moved : (x y : Standing) (found : Option Entry) → found ≡ None → y ≡ stands_then x (Ok found) → y ≡ moved x x.gate (not x.is_lost)
none_moved x y found is then = subst (λ (o : Option Entry). y ≡ stands_then x (Ok o)) is then

-- what holds of the entry that was found
pub entry_found : (P : Entry → Type 0) (found : Option Entry) (entry : Entry) → found ≡ Some entry → IfSome found P → P entry
entry_found P found entry is told = subst (λ (o : Option Entry). IfSome o P) is told

-- a walk that was ended at the gate that was come to
pub ended : (x y z : Standing) (ends : Bool) (why : WalkFault) → y ≡ stands_then x (Err why) → z ≡ moved y y.gate ends → z ≡ moved x x.gate ends
ended x y z ends why stays is = is ∙ ap (λ (t : Standing). moved t t.gate ends) stays
