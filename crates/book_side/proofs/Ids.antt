-- What is looked up in a table of ids after its calls.
use Rattle.std.proofs.Common.{◌≡◌, ◌≢◌, ℕ, ◌+◌, ◌-◌, Bool, true, false, cond, ◌&&◌, List, ◌∷◌, Option, Some, None, is_some, refl, ap, ◌∙◌, arith}
use Rattle.std.proofs.lemmas.Bool.Decides.{Decides-eqb}
use Rattle.std.proofs.lemmas.Slice.Eq.{bytes_eq-Decides}
use Rattle.std.specs.Prelude.{◌==◌, bytes_eq, option_map}
use Rattle.std.specs.Cmp.{both_ways}
use Rattle.std.specs.Cmp.Lexicographic.{slice_cmp, nat_list_cmp_total}
use Rattle.std.specs.FinMap as map
use Rattle.std.specs.Ordering.{nat_cmp}
use Rattle.std.specs.FinMap.{get-empty, get-insert, get-remove, len-insert, len-remove, empty_of_len}
use Rattle.gx_base.specs.declared.order.Slot.{Slot}
use Rattle.plain_book.specs.Book.{slot_number}
use Rattle.plain_book.proofs.Levels.{and-left, and-right}
use Rattle.id_table.specs.Ids.{Ids, Slots, key, with_slots}
use Rattle.id_table.proofs.Keys.{same_key, same_key-true, same_key-itself}

-- the slot of an id
abbrev pub looked_up : ℕ → List ℕ → Ids → Option ℕ
looked_up firm id t = option_map slot_number (map.get t.slots (key firm id))

abbrev pub count_of : Ids → ℕ
count_of t = map.len t.slots

abbrev pub is_same_name : ℕ → List ℕ → ℕ → List ℕ → Bool
is_same_name firm id f i = (firm == f) && bytes_eq id i

same-name : (firm : ℕ) (id : List ℕ) (f : ℕ) (i : List ℕ) → same_key (key f i) (key firm id) ≡ is_same_name firm id f i
same-name firm id f i =
    both_ways (same_key (key f i) (key firm id)) (is_same_name firm id f i) (λ e.
    let p : f ∷ i ≡ firm ∷ id = same_key-true (f ∷ i) (firm ∷ id) e in
    let pf : firm ≡ f = cc in
    let pi : id ≡ i = cc in
    ap (λ (b : Bool). b && bytes_eq id i) ((Decides-eqb firm f).1 pf) ∙ (bytes_eq-Decides id i).1 pi)
    (λ e.
    let pf : firm ≡ f = (Decides-eqb firm f).0 (and-left (firm == f) (bytes_eq id i) e) in
    let pi : id ≡ i = (bytes_eq-Decides id i).0 (and-right (firm == f) (bytes_eq id i) e) in
    ap (λ (g : ℕ). same_key (key f i) (key g id)) pf ∙ ap (λ (j : List ℕ). same_key (key f i) (key f j)) pi ∙ same_key-itself (key f i))

mapped-cond : (b : Bool) (x y : Option Slot) → option_map slot_number (cond b x y) ≡ cond b (option_map slot_number x) (option_map slot_number y)
mapped-cond true x y = refl
mapped-cond false x y = refl

not-some : (o : Option Slot) → o ≡ None → is_some o ≡ false
not-some None e = refl
not-some (Some s) e = cc

is-some : (o : Option Slot) → o ≢ None → is_some o ≡ true
is-some None e = absurd (e refl)
is-some (Some s) e = refl

some-kept : (m : Slots) (k : List ℕ) → map.get m k ≢ None → map.len m ≢ 0
some-kept m k n e = n (ap (λ (x : Slots). map.get x k) (empty_of_len m e) ∙ get-empty (slice_cmp nat_cmp) k)

-- an id that none has
pub none-looked : (o : Option Slot) → option_map slot_number o ≡ None → o ≡ None
none-looked None e = refl
none-looked (Some s) e = cc

-- an id has its slot
pub record IsGiven (firm : ℕ) (id : List ℕ) (slot : ℕ) (t t' : Ids) : Type 0 where
  pub capacity : t'.capacity ≡ t.capacity
  pub count : count_of t' ≡ count_of t + 1
  pub names : (f : ℕ) (i : List ℕ) → looked_up f i t' ≡ cond (is_same_name firm id f i) (Some slot) (looked_up f i t)

-- an id is gone
pub record IsTaken (firm : ℕ) (id : List ℕ) (t t' : Ids) : Type 0 where
  pub capacity : t'.capacity ≡ t.capacity
  pub count : count_of t' + 1 ≡ count_of t
  pub names : (f : ℕ) (i : List ℕ) → looked_up f i t' ≡ cond (is_same_name firm id f i) None (looked_up f i t)

module _ (t t' : Ids) (firm : ℕ) (id : List ℕ) where
  looked-inserted : (s : Slot) (f : ℕ) (i : List ℕ) → looked_up f i (with_slots (map.insert t.slots (key firm id) s) t) ≡ cond (is_same_name firm id f i) (Some s.0) (looked_up f i t)
  looked-inserted s f i =
      ap (option_map slot_number) (get-insert nat_list_cmp_total t.slots (key firm id) s (key f i) ∙ ap (λ (b : Bool). cond b (Some s) (map.get t.slots (key f i))) (same-name firm id f i))
      ∙ mapped-cond (is_same_name firm id f i) (Some s) (map.get t.slots (key f i))

  pub inserted : (s : Slot) → map.get t.slots (key firm id) ≡ None → t' ≡ with_slots (map.insert t.slots (key firm id) s) t → IsGiven firm id s.0 t t'
  inserted s absent e = record {
    capacity = ap (λ (x : Ids). x.capacity) e;
    count = ap count_of e ∙ len-insert nat_list_cmp_total t.slots (key firm id) s ∙ ap (λ (b : Bool). cond b (map.len t.slots) (map.len t.slots + 1)) (not-some (map.get t.slots (key firm id)) absent);
    names = λ f i. ap (looked_up f i) e ∙ looked-inserted s f i;
  }

  looked-removed : (f : ℕ) (i : List ℕ) → looked_up f i (with_slots (map.remove t.slots (key firm id)) t) ≡ cond (is_same_name firm id f i) None (looked_up f i t)
  looked-removed f i =
      ap (option_map slot_number) (get-remove nat_list_cmp_total t.slots (key firm id) (key f i) ∙ ap (λ (b : Bool). cond b None (map.get t.slots (key f i))) (same-name firm id f i))
      ∙ mapped-cond (is_same_name firm id f i) None (map.get t.slots (key f i))

  pub removed : map.get t.slots (key firm id) ≢ None → t' ≡ with_slots (map.remove t.slots (key firm id)) t → IsTaken firm id t t'
  removed there e =
      let fewer : map.len (map.remove t.slots (key firm id)) ≡ map.len t.slots - 1 =
      len-remove nat_list_cmp_total t.slots (key firm id) ∙ ap (λ (b : Bool). cond b (map.len t.slots - 1) (map.len t.slots)) (is-some (map.get t.slots (key firm id)) there) in
      let some = some-kept t.slots (key firm id) there in
      record {
        capacity = ap (λ (x : Ids). x.capacity) e;
        count = omega (arith, ap count_of e, fewer, some);
        names = λ f i. ap (looked_up f i) e ∙ looked-removed f i;
      }

-- the slot that is looked up
pub some-looked : (o : Option Slot) (s : Slot) → option_map slot_number o ≡ Some s.0 → o ≡ Some s
some-looked None s e = cc
some-looked (Some t) s e =
    let is : t.0 ≡ s.0 = cc in
    ap (λ (n : ℕ). (let x : Option Slot = Some (record { 0 = n }) in x)) is

-- an id becomes another
pub record IsRenamed (firm : ℕ) (old new : List ℕ) (slot : ℕ) (t t' : Ids) : Type 0 where
  pub capacity : t'.capacity ≡ t.capacity
  pub count : count_of t' ≡ count_of t
  pub names : (f : ℕ) (i : List ℕ) → looked_up f i t' ≡ cond (is_same_name firm new f i) (Some slot) (cond (is_same_name firm old f i) None (looked_up f i t))

pub renamed : (t t' : Ids) (firm : ℕ) (old new : List ℕ) (s : Slot) → map.get t.slots (key firm old) ≢ None → map.get t.slots (key firm new) ≡ None
    → t' ≡ with_slots (map.insert (map.remove t.slots (key firm old)) (key firm new) s) t → IsRenamed firm old new s.0 t t'
renamed t t' firm old new s there absent e =
    let without : Ids = with_slots (map.remove t.slots (key firm old)) t in
    let out = removed t without firm old there refl in
    let gone : map.get without.slots (key firm new) ≡ None =
    get-remove nat_list_cmp_total t.slots (key firm old) (key firm new) ∙ ap (λ (o : Option Slot). cond (same_key (key firm new) (key firm old)) None o) absent ∙ none-either (same_key (key firm new) (key firm old)) in
    let in_ = inserted without t' firm new s gone e in
    record {
      capacity = in_.capacity ∙ out.capacity;
      count = in_.count ∙ out.count;
      names = λ f i. in_.names f i ∙ ap (λ (o : Option ℕ). cond (is_same_name firm new f i) (Some s.0) o) (out.names f i);
    }
  where
    none-either : (b : Bool) → cond b (let x : Option Slot = None in x) None ≡ None
    none-either true = refl
    none-either false = refl
