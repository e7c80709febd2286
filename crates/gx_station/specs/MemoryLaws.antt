-- A station in memory is honest.
use Rattle.std.specs.Prelude.{◌≡◌, ℕ, ◌+◌, ◌≤◌, true, false, List, [], ◌∷◌, ◌++◌, length, take, fold, Some, refl}
use Rattle.std.proofs.Common.{sym, ◌∙◌, ap, subst, arith, length-append}
use Rattle.std.proofs.lemmas.List.{take_all, append-nil, nil_from_length}
use Rattle.std.proofs.lemmas.Grind.{fold-append}
use Rattle.gx_base.specs.KnownBytes.{IsPrefix, prefix_itself}
use Rattle.gx_station.specs.Disk.{Disk}
use Rattle.gx_station.specs.TornImages.{torn_none, torn_whole}
use Rattle.gx_station.specs.Honest.{IsHonestNow}
use Rattle.gx_station.specs.MemoryStation.{Call, Looked, Wrote, Synced, Sent, MemoryStation, IsSound, memory_meanings, disk_step, disk_after, first_disk, output_step, output_after, Leaves}

-- ---- the disk after calls

-- what a read gives is one of the images that a crash could leave
step_leaves : (d : Disk) (call : Call) → Leaves d d.holds → Leaves (disk_step d call) (disk_step d call).holds
step_leaves d (Looked n) here = here
step_leaves d (Wrote at bytes true) here = (d.holds, here, torn_whole at bytes d.holds)
step_leaves d (Wrote at bytes false) here = (d.holds, here, torn_none at (length bytes) d.holds)
step_leaves d (Synced true) here = refl
step_leaves d (Synced false) here = here
step_leaves d (Sent bytes) here = here

pub leaves_holds : (calls : List Call) (d : Disk) → Leaves d d.holds → Leaves (fold disk_step d calls) (fold disk_step d calls).holds
leaves_holds [] d here = here
leaves_holds (call ∷ calls) d here = leaves_holds calls (disk_step d call) (step_leaves d call here)

pub disk_more : (first : List ℕ) (done : List Call) (call : Call) → disk_after first (done ++ call ∷ []) ≡ disk_step (disk_after first done) call
disk_more first done call = fold-append disk_step (first_disk first) done (call ∷ [])

pub output_more : (done : List Call) (call : Call) → output_after (done ++ call ∷ []) ≡ output_step (output_after done) call
output_more done call = fold-append output_step [] done (call ∷ [])

-- ---- moments

pub same_prefix : (a b : List ℕ) → IsPrefix a b → IsPrefix b a → b ≡ a
same_prefix a b p q =
    let none : q.rest ≡ [] = nil_from_length q.rest (omega (arith, ap length p.is, ap length q.is, length-append a p.rest, length-append b q.rest)) in
    sym (q.is ∙ ap (λ (l : List ℕ). b ++ l) none ∙ append-nil b)

pub memory_honest : (s : MemoryStation) → IsSound s → IsHonestNow memory_meanings s
memory_honest s sound = record {
  known_image = (s.image, refl);
  known_output = (s.sent, refl);
  reaches = λ image is. subst (λ (l : List ℕ). s.reach ≤ length l) (cc is) sound.reach;
  as_read = λ image is. subst (λ (l : List ℕ). Leaves (disk_after s.first s.done) l) (sym sound.image ∙ cc is) (leaves_holds s.done (first_disk s.first) refl);
  counts_now = λ t image out le leaves is.
      let same : output_after s.done ≡ out = sym sound.sent ∙ cc is in
      record {
        count = length s.done;
        since = le;
        until = omega arith;
        leaves = subst (λ (l : List Call). Leaves (disk_after s.first l) image) (sym (take_all (length s.done) s.done (omega arith))) leaves;
        low = subst (λ (l : List Call). IsPrefix (output_after l) out) (sym (take_all (length s.done) s.done (omega arith))) (subst (λ (l : List ℕ). IsPrefix l out) (sym same) (prefix_itself out));
        high = subst (λ (l : List Call). IsPrefix out (output_after l)) (sym (take_all (length s.done + 1) s.done (omega arith))) (subst (λ (l : List ℕ). IsPrefix out l) (sym same) (prefix_itself out));
      };
  only_now = λ image out left.
      let all : take left.count s.done ≡ s.done = take_all left.count s.done left.since in
      let more : take (left.count + 1) s.done ≡ s.done = take_all (left.count + 1) s.done (omega (arith, left.since)) in (
        subst (λ (l : List Call). Leaves (disk_after s.first l) image) all left.leaves,
        ap Some (sound.sent ∙ same_prefix out (output_after s.done) (subst (λ (l : List Call). IsPrefix out (output_after l)) more left.high) (subst (λ (l : List Call). IsPrefix (output_after l) out) all left.low)),
      );
}
