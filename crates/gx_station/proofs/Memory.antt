-- What each call of a station in memory does meets what a station's calls are to do.
use Rattle.std.proofs.Common.{◌≡◌, ◌⊎◌, inl, inr, ⊎_elim, ℕ, ◌+◌, ◌<◌, ◌≤◌, max, Bool, true, false, List, [], ◌∷◌, ◌++◌, length, take, drop, fold, Some, Result, Ok, Err, IfOk, OnOk, refl, sym, ◌∙◌, ap, subst, arith, append_assoc}
use Rattle.std.proofs.lemmas.List.{take_all, take_at, take-append-le, length_push, append-nil}
use Rattle.std.proofs.lemmas.Bool.{cases_lt}
use Rattle.std.proofs.lemmas.Grind.{fold-append}
use Rattle.gx_base.specs.KnownBytes.{IsPrefix, prefix_itself}
use Rattle.gx_station.specs.Counts.{counted, HasCause}
use Rattle.gx_station.specs.declared.count.TheConstants.{LAST_COUNT}
use Rattle.gx_station.specs.Disk.{Disk, Torn, written}
use Rattle.gx_station.specs.Moments.{AddsOnly}
use Rattle.gx_station.specs.Honest.{KeepsImage, PassesOutputs}
use Rattle.gx_station.specs.Quiet.{Quiet, Sends}
use Rattle.gx_station.specs.StoreCalls.{OnStore, Measures, Reads, Writes, Syncs}
use Rattle.gx_station.specs.MemoryStation.{Call, Looked, Wrote, Synced, Sent, MemoryStation, IsSound, memory_meanings, disk_step, disk_after, first_disk, output_step, output_after, read_step, LeftSince, Leaves, Answers, listed, store_refused, send_refused, store_failed, send_failed, was_measured, was_written, write_failed, was_sent}
use Rattle.gx_station.specs.TornImages.{torn_none, length-written}
use Rattle.gx_station.specs.MemoryLaws.{disk_more, output_more, same_prefix, leaves_holds}

-- ---- moments: one call more

longer_by : (call : Call) (out sent : List ℕ) → IsPrefix out sent → IsPrefix out (output_step sent call)
longer_by (Looked n) out sent p = p
longer_by (Wrote at bytes ok) out sent p = p
longer_by (Synced ok) out sent p = p
longer_by (Sent bytes) out sent p = record { rest = p.rest ++ bytes; is = ap (λ (l : List ℕ). l ++ bytes) p.is ∙ append_assoc out p.rest bytes }

module _ (first : List ℕ) (done : List Call) (call : Call) where
  abbrev more : List Call
  more = done ++ call ∷ []

  longer : (out sent : List ℕ) → IsPrefix out sent → IsPrefix out (output_step sent call)
  longer out sent p = longer_by call out sent p

  -- what could be left before can be left now
  pub left_stays : (t : ℕ) (image out : List ℕ) → LeftSince first done t image out → LeftSince first more t image out
  left_stays t image out left = record {
    count = left.count;
    since = left.since;
    until = omega (arith, left.until, length_push done call);
    leaves = subst (λ (l : List Call). Leaves (disk_after first l) image) (sym (take-append-le left.count done (call ∷ []) left.until)) left.leaves;
    low = subst (λ (l : List Call). IsPrefix (output_after l) out) (sym (take-append-le left.count done (call ∷ []) left.until)) left.low;
    high = ⊎_elim
        (λ lt. subst (λ (l : List Call). IsPrefix out (output_after l)) (sym (take-append-le (left.count + 1) done (call ∷ []) (omega (arith, lt)))) left.high)
        (λ le.
        let old : take (left.count + 1) done ≡ done = take_all (left.count + 1) done (omega (arith, le)) in
        let new : take (left.count + 1) more ≡ more = take_all (left.count + 1) more (omega (arith, le, length_push done call)) in
        subst (λ (l : List Call). IsPrefix out (output_after l)) (sym new) (subst (λ (l : List ℕ). IsPrefix out l) (sym (output_more done call)) (longer out (output_after done) (subst (λ (l : List Call). IsPrefix out (output_after l)) old left.high))))
        (cases_lt left.count (length done));
  }

  -- inside the call, or after it
  pub record Inside (image out : List ℕ) : Type 0 where
    pub leaves : Leaves (disk_after first done) image
    pub low : IsPrefix (output_after done) out
    pub high : IsPrefix out (output_step (output_after done) call)

  pub record Behind (image out : List ℕ) : Type 0 where
    pub leaves : Leaves (disk_step (disk_after first done) call) image
    pub is : out ≡ output_step (output_after done) call

  left_early : (t : ℕ) (image out : List ℕ) (left : LeftSince first more t image out) → left.count < length done → LeftSince first done t image out
  left_early t image out left lt = record {
    count = left.count;
    since = left.since;
    until = omega (arith, lt);
    leaves = subst (λ (l : List Call). Leaves (disk_after first l) image) (take-append-le left.count done (call ∷ []) (omega (arith, lt))) left.leaves;
    low = subst (λ (l : List Call). IsPrefix (output_after l) out) (take-append-le left.count done (call ∷ []) (omega (arith, lt))) left.low;
    high = subst (λ (l : List Call). IsPrefix out (output_after l)) (take-append-le (left.count + 1) done (call ∷ []) (omega (arith, lt))) left.high;
  }

  left_inside : (t : ℕ) (image out : List ℕ) (left : LeftSince first more t image out) → left.count ≡ length done → Inside image out
  left_inside t image out left is =
      let now : take left.count more ≡ done = take_at done (call ∷ []) left.count (sym is) in
      let then : take (left.count + 1) more ≡ more = take_all (left.count + 1) more (omega (arith, is, length_push done call)) in
      record {
        leaves = subst (λ (l : List Call). Leaves (disk_after first l) image) now left.leaves;
        low = subst (λ (l : List Call). IsPrefix (output_after l) out) now left.low;
        high = subst (λ (l : List ℕ). IsPrefix out l) (output_more done call) (subst (λ (l : List Call). IsPrefix out (output_after l)) then left.high);
      }

  left_behind : (t : ℕ) (image out : List ℕ) (left : LeftSince first more t image out) → length done < left.count → Behind image out
  left_behind t image out left lt =
      let now : take left.count more ≡ more = take_all left.count more (omega (arith, lt, length_push done call)) in
      let then : take (left.count + 1) more ≡ more = take_all (left.count + 1) more (omega (arith, lt, length_push done call)) in
      record {
        leaves = subst (λ d. Leaves d image) (disk_more first done call) (subst (λ (l : List Call). Leaves (disk_after first l) image) now left.leaves);
        is = same_prefix (output_after more) out (subst (λ (l : List Call). IsPrefix (output_after l) out) now left.low) (subst (λ (l : List Call). IsPrefix out (output_after l)) then left.high) ∙ output_more done call;
      }

  pub left_adds : (t : ℕ) (image out : List ℕ) → LeftSince first more t image out → LeftSince first done t image out ⊎ (Inside image out ⊎ Behind image out)
  left_adds t image out left =
      ⊎_elim
      (λ lt. inl (left_early t image out left lt))
      (λ le. inr (⊎_elim (λ gt. inr (left_behind t image out left gt)) (λ ge. inl (left_inside t image out left (omega (arith, le, ge)))) (cases_lt (length done) left.count)))
      (cases_lt left.count (length done))

  -- an output on the way through the call
  pub left_passes : (t : ℕ) (image out : List ℕ) → t ≤ length done → Inside image out → LeftSince first more t image out
  left_passes t image out le here = record {
    count = length done;
    since = le;
    until = omega (arith, length_push done call);
    leaves = subst (λ (l : List Call). Leaves (disk_after first l) image) (sym (take_at done (call ∷ []) (length done) refl)) here.leaves;
    low = subst (λ (l : List Call). IsPrefix (output_after l) out) (sym (take_at done (call ∷ []) (length done) refl)) here.low;
    high = subst (λ (l : List Call). IsPrefix out (output_after l)) (sym (take_all (length done + 1) more (omega (arith, length_push done call)))) (subst (λ (l : List ℕ). IsPrefix out l) (sym (output_more done call)) here.high);
  }

-- what could be left just now
left_now : (first : List ℕ) (done : List Call) (t : ℕ) (image out : List ℕ) → t ≤ length done → Leaves (disk_after first done) image → out ≡ output_after done → LeftSince first done t image out
left_now first done t image out le leaves is = record {
  count = length done;
  since = le;
  until = omega arith;
  leaves = subst (λ (l : List Call). Leaves (disk_after first l) image) (sym (take_all (length done) done (omega arith))) leaves;
  low = subst (λ (l : List Call). IsPrefix (output_after l) out) (sym (take_all (length done) done (omega arith))) (subst (λ (l : List ℕ). IsPrefix (output_after done) l) (sym is) (prefix_itself (output_after done)));
  high = subst (λ (l : List Call). IsPrefix out (output_after l)) (sym (take_all (length done + 1) done (omega arith))) (subst (λ (l : List ℕ). IsPrefix out l) is (prefix_itself out));
}

-- ---- the station

-- a call that was refused is not listed
adds_same : (old new : MemoryStation) (P : List ℕ → List ℕ → Type 0) → new.first ≡ old.first → new.done ≡ old.done → (IsSound old → IsSound new) → AddsOnly memory_meanings old new P
adds_same old new P first done sound = record {
  later = omega (arith, ap length done);
  honest = sound;
  keeps = λ h t image out le left. subst (λ (l : List Call). LeftSince new.first l t image out) (sym done) (subst (λ (l : List ℕ). LeftSince l old.done t image out) (sym first) left);
  adds = λ h t image out le left. inl (subst (λ (l : List Call). LeftSince old.first l t image out) done (subst (λ (l : List ℕ). LeftSince l new.done t image out) first left));
}

adds_listed : (old new : MemoryStation) (call : Call) (P : List ℕ → List ℕ → Type 0) → new.first ≡ old.first → new.done ≡ old.done ++ call ∷ [] → (IsSound old → IsSound new)
    → (IsSound old → (t : ℕ) (image out : List ℕ) → t ≤ length old.done → Inside old.first old.done call image out ⊎ Behind old.first old.done call image out → LeftSince old.first old.done t image out ⊎ P image out)
    → AddsOnly memory_meanings old new P
adds_listed old new call P first done sound here = record {
  later = omega (arith, ap length done, length_push old.done call);
  honest = sound;
  keeps = λ h t image out le left. subst (λ (l : List Call). LeftSince new.first l t image out) (sym done) (subst (λ (l : List ℕ). LeftSince l (old.done ++ call ∷ []) t image out) (sym first) (left_stays old.first old.done call t image out left));
  adds = λ h t image out le left.
      ⊎_elim (λ early. inl early) (here h t image out le)
      (left_adds old.first old.done call t image out (subst (λ (l : List Call). LeftSince old.first l t image out) done (subst (λ (l : List ℕ). LeftSince l new.done t image out) first left)));
}

-- a call that neither sends nor changes what the disk could leave
none_added : (old new : MemoryStation) (call : Call) (P : List ℕ → List ℕ → Type 0) → new.first ≡ old.first → new.done ≡ old.done ++ call ∷ [] → (IsSound old → IsSound new)
    → output_step (output_after old.done) call ≡ output_after old.done
    → ((image : List ℕ) → Leaves (disk_step (disk_after old.first old.done) call) image → Leaves (disk_after old.first old.done) image)
    → AddsOnly memory_meanings old new P
none_added old new call P first done sound silent images = adds_listed old new call P first done sound (λ h t image out le here. inl (⊎_elim
    (λ inside. left_now old.first old.done t image out le inside.leaves (same_prefix (output_after old.done) out inside.low (subst (λ (l : List ℕ). IsPrefix out l) silent inside.high)))
    (λ behind. left_now old.first old.done t image out le (images image behind.leaves) (behind.is ∙ silent))
    here))

-- what a sync leaves is one of the images before
sync_leaves : (d : Disk) (ok : Bool) → Leaves d d.holds → (image : List ℕ) → Leaves (disk_step d (Synced ok)) image → Leaves d image
sync_leaves d true here image is = subst (λ (l : List ℕ). Leaves d l) (sym is) here
sync_leaves d false here image leaves = leaves

sound_listed : (old new : MemoryStation) (call : Call) → new.first ≡ old.first → new.done ≡ old.done ++ call ∷ [] → new.image ≡ (disk_step (disk_after old.first old.done) call).holds → new.sent ≡ output_step (output_after old.done) call → new.reach ≤ length new.image → IsSound new
sound_listed old new call first done image sent reach = record {
  image = image ∙ ap (λ d. d.holds) (sym (disk_more old.first old.done call)) ∙ ap (λ (l : List Call). (disk_after old.first l).holds) (sym done) ∙ ap (λ (l : List ℕ). (disk_after l new.done).holds) (sym first);
  sent = sent ∙ sym (output_more old.done call) ∙ ap output_after (sym done);
  reach = reach;
}

may_leave_listed : (first : List ℕ) (done : List Call) (call : Call) (image : List ℕ) → Leaves (disk_after first (done ++ call ∷ [])) image → Leaves (disk_step (disk_after first done) call) image
may_leave_listed first done call image leaves = subst (λ d. Leaves d image) (disk_more first done call) leaves

pub read_more : (done : List Call) (call : Call) → fold read_step 0 (done ++ call ∷ []) ≡ read_step (fold read_step 0 done) call
read_more done call = fold-append read_step 0 done (call ∷ [])

-- ---- each answer

-- the count of store faults rose
abbrev Counts : MemoryStation → Type 0
Counts s = (s.store_faults ≤ LAST_COUNT) × (s.send_faults ≤ LAST_COUNT)

stopped : {T F : Type 0} (before : ℕ) (e : F) → before ≤ LAST_COUNT → HasCause {T = T} {F = F} before (counted before) (Err e)
stopped before e le = record { never_falls = omega (arith, le); ok = tt; failed = omega arith }

went : {T F : Type 0} (count : ℕ) (x : T) → HasCause {T = T} {F = F} count count (Ok x)
went count x = record { never_falls = omega arith; ok = refl; failed = tt }

keeps_refused : (old : MemoryStation) → KeepsImage memory_meanings old (store_refused old)
keeps_refused old = record {
  holds = refl;
  images = λ h image may. may;
  moments = adds_same old (store_refused old) (λ image out. ⊥) refl refl (λ h. record { image = h.image; sent = h.sent; reach = h.reach });
}

-- a call that looks at the image, or syncs it
module _ (old new : MemoryStation) (call : Call) (first : new.first ≡ old.first) (done : new.done ≡ old.done ++ call ∷ []) (image_is : new.image ≡ old.image) (sent_is : new.sent ≡ old.sent) (in_reach : IsSound old → new.reach ≤ length old.image)
    (holds : (disk_step (disk_after old.first old.done) call).holds ≡ (disk_after old.first old.done).holds) (silent : output_step (output_after old.done) call ≡ output_after old.done)
    (leaves : (image : List ℕ) → Leaves (disk_step (disk_after old.first old.done) call) image → Leaves (disk_after old.first old.done) image) where
  keeps_looked : KeepsImage memory_meanings old new
  keeps_looked = record {
    holds = ap Some image_is;
    images = λ h image may. leaves image (may_leave_listed old.first old.done call image (subst (λ (l : List Call). Leaves (disk_after old.first l) image) done (subst (λ (l : List ℕ). Leaves (disk_after l new.done) image) first may)));
    moments = none_added old new call (λ image out. ⊥) first done
        (λ h. sound_listed old new call first done (image_is ∙ h.image ∙ sym holds) (sent_is ∙ h.sent ∙ sym silent) (subst (λ (l : List ℕ). new.reach ≤ length l) (sym image_is) (in_reach h)))
        silent leaves;
  }

-- a look settles nothing
stays_looked : (old new : MemoryStation) (count : ℕ) → new.first ≡ old.first → new.done ≡ old.done ++ Looked count ∷ [] → (image : List ℕ) → Leaves (disk_after old.first old.done) image → Leaves (disk_after new.first new.done) image
stays_looked old new count first done image leaves =
    subst (λ (l : List ℕ). Leaves (disk_after l new.done) image) (sym first) (subst (λ (l : List Call). Leaves (disk_after old.first l) image) (sym done) (subst (λ d. Leaves d image) (sym (disk_more old.first old.done (Looked count))) leaves))

on_store : {T F : Type 0} (old new : MemoryStation) (result : Result T F) → new.sent ≡ old.sent → new.send_faults ≡ old.send_faults → HasCause old.store_faults new.store_faults result → OnStore memory_meanings old new result
on_store old new result sent send_faults cause = record { sent = ap Some sent; send_faults = send_faults; cause = cause }

pub memory_measures : {F : Type 0} (old new : MemoryStation) (fits : Bool) (result : Result ℕ F) → old.store_faults ≤ LAST_COUNT → Answers old new fits (was_measured old) (store_failed old (Looked 0)) (store_refused old) result → IfOk result (λ len. len ≡ length old.image) → Measures memory_meanings old new result
memory_measures {F} old new fits (Ok len) few (room, goes, is) value = subst (λ n. Measures memory_meanings {F = F} old n (Ok len)) (sym is) record {
  on_store = on_store old (was_measured old) (Ok len) refl refl (went old.store_faults len);
  keeps = keeps_looked old (was_measured old) (Looked 0) refl refl refl refl (λ h. omega (arith, h.reach)) refl refl (λ image leaves. leaves);
  images_stay = λ h. stays_looked old (was_measured old) 0 refl refl;
  bytes_read = ap Some (read_more old.done (Looked 0) ∙ omega arith);
  value = value;
  reach = ap (max old.reach) (sym value);
  reach_err = tt;
}
memory_measures {F} old new fits (Err e) few why value = ⊎_elim
    (λ refused. subst (λ n. Measures memory_meanings {F = F} old n (Err e)) (sym refused.1) record {
      on_store = on_store old (store_refused old) (Err e) refl refl (stopped old.store_faults e few);
      keeps = keeps_refused old;
      images_stay = λ h image may. may;
      bytes_read = refl;
      value = tt;
      reach = tt;
      reach_err = refl;
    })
    (λ failed. subst (λ n. Measures memory_meanings {F = F} old n (Err e)) (sym failed.2) record {
      on_store = on_store old (store_failed old (Looked 0)) (Err e) refl refl (stopped old.store_faults e few);
      keeps = keeps_looked old (store_failed old (Looked 0)) (Looked 0) refl refl refl refl (λ h. h.reach) refl refl (λ image leaves. leaves);
      images_stay = λ h. stays_looked old (store_failed old (Looked 0)) 0 refl refl;
      bytes_read = ap Some (read_more old.done (Looked 0) ∙ omega arith);
      value = tt;
      reach = tt;
      reach_err = refl;
    })
    why

pub memory_reads : {T F : Type 0} (old new : MemoryStation) (at : ℕ) (into : List ℕ) (fits : Bool) (result : Result T F) → old.store_faults ≤ LAST_COUNT → Answers old new fits (listed old (Looked (length into))) (store_failed old (Looked 0)) (store_refused old) result → OnOk result (into ≡ take (length into) (drop at old.image)) → Reads memory_meanings old new at into result
memory_reads {T} {F} old new at into fits (Ok x) few (room, goes, is) value = subst (λ n. Reads memory_meanings {T = T} {F = F} old n at into (Ok x)) (sym is) record {
  on_store = on_store old (listed old (Looked (length into))) (Ok x) refl refl (went old.store_faults x);
  keeps = keeps_looked old (listed old (Looked (length into))) (Looked (length into)) refl refl refl refl (λ h. h.reach) refl refl (λ image leaves. leaves);
  images_stay = λ h. stays_looked old (listed old (Looked (length into))) (length into) refl refl;
  reach = refl;
  bytes = value;
  bytes_read = ap Some (read_more old.done (Looked (length into)));
  bytes_read_err = tt;
}
memory_reads {T} {F} old new at into fits (Err e) few why value = ⊎_elim
    (λ refused. subst (λ n. Reads memory_meanings {T = T} {F = F} old n at into (Err e)) (sym refused.1) record {
      on_store = on_store old (store_refused old) (Err e) refl refl (stopped old.store_faults e few);
      keeps = keeps_refused old;
      images_stay = λ h image may. may;
      reach = refl;
      bytes = tt;
      bytes_read = tt;
      bytes_read_err = refl;
    })
    (λ failed. subst (λ n. Reads memory_meanings {T = T} {F = F} old n at into (Err e)) (sym failed.2) record {
      on_store = on_store old (store_failed old (Looked 0)) (Err e) refl refl (stopped old.store_faults e few);
      keeps = keeps_looked old (store_failed old (Looked 0)) (Looked 0) refl refl refl refl (λ h. h.reach) refl refl (λ image leaves. leaves);
      images_stay = λ h. stays_looked old (store_failed old (Looked 0)) 0 refl refl;
      reach = refl;
      bytes = tt;
      bytes_read = tt;
      bytes_read_err = ap Some (read_more old.done (Looked 0) ∙ omega arith);
    })
    why

pub memory_syncs : {T F : Type 0} (old new : MemoryStation) (fits : Bool) (result : Result T F) → old.store_faults ≤ LAST_COUNT → Answers old new fits (listed old (Synced true)) (store_failed old (Synced false)) (store_refused old) result → Syncs memory_meanings old new result
memory_syncs {T} {F} old new fits (Ok x) few (room, goes, is) = subst (λ n. Syncs memory_meanings {T = T} {F = F} old n (Ok x)) (sym is) record {
  on_store = on_store old (listed old (Synced true)) (Ok x) refl refl (went old.store_faults x);
  keeps = keeps_looked old (listed old (Synced true)) (Synced true) refl refl refl refl (λ h. h.reach) refl refl (sync_leaves (disk_after old.first old.done) true (leaves_holds old.done (first_disk old.first) refl));
  reach = refl;
  bytes_read = ap Some (read_more old.done (Synced true));
  settled = λ h image may. ap Some (h.image ∙ sym (may_leave_listed old.first old.done (Synced true) image may));
}
memory_syncs {T} {F} old new fits (Err e) few why = ⊎_elim
    (λ refused. subst (λ n. Syncs memory_meanings {T = T} {F = F} old n (Err e)) (sym refused.1) record {
      on_store = on_store old (store_refused old) (Err e) refl refl (stopped old.store_faults e few);
      keeps = keeps_refused old;
      reach = refl;
      bytes_read = refl;
      settled = tt;
    })
    (λ failed. subst (λ n. Syncs memory_meanings {T = T} {F = F} old n (Err e)) (sym failed.2) record {
      on_store = on_store old (store_failed old (Synced false)) (Err e) refl refl (stopped old.store_faults e few);
      keeps = keeps_looked old (store_failed old (Synced false)) (Synced false) refl refl refl refl (λ h. h.reach) refl refl (λ image leaves. leaves);
      reach = refl;
      bytes_read = ap Some (read_more old.done (Synced false));
      settled = tt;
    })
    why

-- a write leaves images that are torn in its range
wrote_leaves : (old : MemoryStation) (at : ℕ) (bytes : List ℕ) (ok : Bool) (image : List ℕ) → Leaves (disk_after old.first (old.done ++ Wrote at bytes ok ∷ [])) image → (before : List ℕ) × Leaves (disk_after old.first old.done) before × Torn at (length bytes) before image
wrote_leaves old at bytes ok image leaves = may_leave_listed old.first old.done (Wrote at bytes ok) image leaves

wrote_stays : (old : MemoryStation) (at : ℕ) (bytes : List ℕ) (ok : Bool) (image : List ℕ) → Leaves (disk_after old.first old.done) image → Leaves (disk_after old.first (old.done ++ Wrote at bytes ok ∷ [])) image
wrote_stays old at bytes ok image leaves = subst (λ d. Leaves d image) (sym (disk_more old.first old.done (Wrote at bytes ok))) (image, leaves, torn_none at (length bytes) image)

wrote_adds : (old new : MemoryStation) (at : ℕ) (bytes : List ℕ) (ok : Bool) → new.first ≡ old.first → new.done ≡ old.done ++ Wrote at bytes ok ∷ [] → (IsSound old → IsSound new)
    → AddsOnly memory_meanings old new (λ image out. Leaves (disk_after old.first (old.done ++ Wrote at bytes ok ∷ [])) image × (Some old.sent ≡ Some out))
wrote_adds old new at bytes ok first done sound = adds_listed old new (Wrote at bytes ok) _ first done sound (λ h t image out le here. ⊎_elim
    (λ inside. inl (left_now old.first old.done t image out le inside.leaves (same_prefix (output_after old.done) out inside.low inside.high)))
    (λ behind. inr (subst (λ d. Leaves d image) (sym (disk_more old.first old.done (Wrote at bytes ok))) behind.leaves, ap Some (h.sent ∙ sym behind.is)))
    here)

pub memory_writes : {T F : Type 0} (old new : MemoryStation) (at : ℕ) (bytes : List ℕ) (fits : Bool) (result : Result T F) → old.store_faults ≤ LAST_COUNT → at ≤ old.reach
    → Answers old new fits (was_written old at bytes) (write_failed old at bytes) (store_refused old) result → Writes memory_meanings old new at bytes result
memory_writes {T} {F} old new at bytes fits (Ok x) few within (room, goes, is) = subst (λ n. Writes memory_meanings {T = T} {F = F} old n at bytes (Ok x)) (sym is) record {
  on_store = on_store old (was_written old at bytes) (Ok x) refl refl (went old.store_faults x);
  bytes_read = ap Some (read_more old.done (Wrote at bytes true));
  reach = refl;
  reach_err = tt;
  holds = refl;
  holds_err = tt;
  tears = record {
    images = λ h. wrote_leaves old at bytes true;
    images_stay = λ h. wrote_stays old at bytes true;
    moments = wrote_adds old (was_written old at bytes) at bytes true refl refl (λ h. sound_listed old (was_written old at bytes) (Wrote at bytes true) refl refl (ap (written at bytes) h.image) h.sent
        (omega (arith, h.reach, within, length-written at bytes old.image)));
  };
}
memory_writes {T} {F} old new at bytes fits (Err e) few within why = ⊎_elim
    (λ refused. subst (λ n. Writes memory_meanings {T = T} {F = F} old n at bytes (Err e)) (sym refused.1) record {
      on_store = on_store old (store_refused old) (Err e) refl refl (stopped old.store_faults e few);
      bytes_read = refl;
      reach = tt;
      reach_err = refl;
      holds = tt;
      holds_err = torn_none at (length bytes) old.image;
      tears = record {
        images = λ h image may. (image, may, torn_none at (length bytes) image);
        images_stay = λ h image may. may;
        moments = adds_same old (store_refused old) _ refl refl (λ h. record { image = h.image; sent = h.sent; reach = h.reach });
      };
    })
    (λ failed. subst (λ n. Writes memory_meanings {T = T} {F = F} old n at bytes (Err e)) (sym failed.2) record {
      on_store = on_store old (write_failed old at bytes) (Err e) refl refl (stopped old.store_faults e few);
      bytes_read = ap Some (read_more old.done (Wrote at bytes false));
      reach = tt;
      reach_err = refl;
      holds = tt;
      holds_err = torn_none at (length bytes) old.image;
      tears = record {
        images = λ h. wrote_leaves old at bytes false;
        images_stay = λ h. wrote_stays old at bytes false;
        moments = wrote_adds old (write_failed old at bytes) at bytes false refl refl (λ h. sound_listed old (write_failed old at bytes) (Wrote at bytes false) refl refl h.image h.sent h.reach);
      };
    })
    why

-- ---- sends

-- a send of these bytes is listed
module _ (old new : MemoryStation) (bytes : List ℕ) (first : new.first ≡ old.first) (done : new.done ≡ old.done ++ Sent bytes ∷ []) (image : new.image ≡ old.image) (sent : new.sent ≡ old.sent ++ bytes) (reach : new.reach ≡ old.reach)
    (store_faults : new.store_faults ≡ old.store_faults) (send_faults : old.send_faults ≤ new.send_faults) where
  same_images : (left : List ℕ) → (Leaves (disk_after new.first new.done) left → Leaves (disk_after old.first old.done) left) × (Leaves (disk_after old.first old.done) left → Leaves (disk_after new.first new.done) left)
  same_images left =
      let same : disk_after new.first new.done ≡ disk_after old.first old.done = ap (λ (l : List ℕ). disk_after l new.done) first ∙ ap (disk_after old.first) done ∙ disk_more old.first old.done (Sent bytes) in
      (subst (λ d. Leaves d left) same, subst (λ d. Leaves d left) (sym same))

  quiet_sent : Quiet memory_meanings old new
  quiet_sent = record {
    sent = record { rest = bytes; is = sent };
    send_faults = send_faults;
    holds = ap Some image;
    reach = reach;
    bytes_read = ap Some (ap (fold read_step 0) done ∙ read_more old.done (Sent bytes));
    store_faults = store_faults;
    no_image_more = λ h left. (same_images left).0;
    no_image_less = λ h left. (same_images left).1;
    moments = adds_listed old new (Sent bytes) _ first done
        (λ h. sound_listed old new (Sent bytes) first done (image ∙ h.image) (sent ∙ ap (λ (l : List ℕ). l ++ bytes) h.sent) (subst (λ (l : List ℕ). new.reach ≤ length l) (sym image) (omega (arith, reach, h.reach))))
        (λ h t left out le here. inr (⊎_elim
        (λ inside. (
          inside.leaves,
          record {
            low = subst (λ (l : List ℕ). IsPrefix l out) (sym h.sent) inside.low;
            high = subst (λ (l : List ℕ). IsPrefix out l) (sym (sent ∙ ap (λ (l : List ℕ). l ++ bytes) h.sent)) inside.high;
          },
        ))
        (λ behind. (
          behind.leaves,
          record {
            low = record { rest = bytes; is = behind.is ∙ ap (λ (l : List ℕ). l ++ bytes) (sym h.sent) };
            high = subst (λ (l : List ℕ). IsPrefix out l) (behind.is ∙ ap (λ (l : List ℕ). l ++ bytes) (sym h.sent) ∙ sym sent) (prefix_itself out);
          },
        ))
        here));
  }

  passes_sent : PassesOutputs memory_meanings old new
  passes_sent = record {
    passes = λ h t left out le leaves between.
        subst (λ (l : List Call). LeftSince new.first l t left out) (sym done) (subst (λ (l : List ℕ). LeftSince l (old.done ++ Sent bytes ∷ []) t left out) (sym first)
        (left_passes old.first old.done (Sent bytes) t left out le record {
          leaves = leaves;
          low = subst (λ (l : List ℕ). IsPrefix l out) h.sent between.low;
          high = subst (λ (l : List ℕ). IsPrefix out l) (sent ∙ ap (λ (l : List ℕ). l ++ bytes) h.sent) between.high;
        }));
  }

quiet_refused : (old : MemoryStation) → old.send_faults ≤ LAST_COUNT → Quiet memory_meanings old (send_refused old)
quiet_refused old few = record {
  sent = prefix_itself old.sent;
  send_faults = omega (arith, few);
  holds = refl;
  reach = refl;
  bytes_read = refl;
  store_faults = refl;
  no_image_more = λ h left may. may;
  no_image_less = λ h left may. may;
  moments = adds_same old (send_refused old) _ refl refl (λ h. record { image = h.image; sent = h.sent; reach = h.reach });
}

passes_refused : (old : MemoryStation) → PassesOutputs memory_meanings old (send_refused old)
passes_refused old = record { passes = λ h t left out le leaves between. left_now old.first old.done t left out le leaves (same_prefix old.sent out between.low between.high ∙ h.sent) }

pub memory_sends : {T F : Type 0} (old new : MemoryStation) (bytes : List ℕ) (fits : Bool) (result : Result T F) → old.send_faults ≤ LAST_COUNT
    → Answers old new fits (was_sent old bytes) (send_failed old) (send_refused old) result → Sends memory_meanings old new bytes result
memory_sends {T} {F} old new bytes fits (Ok x) few (room, goes, is) = subst (λ n. Sends memory_meanings {T = T} {F = F} old n bytes (Ok x)) (sym is) record {
  quiet = quiet_sent old (was_sent old bytes) bytes refl refl refl refl refl refl (omega arith);
  cause = went old.send_faults x;
  all = refl;
  part = tt;
}
memory_sends {T} {F} old new bytes fits (Err e) few why = ⊎_elim
    (λ refused. subst (λ n. Sends memory_meanings {T = T} {F = F} old n bytes (Err e)) (sym refused.1) record {
      quiet = quiet_refused old few;
      cause = stopped old.send_faults e few;
      all = tt;
      part = record { rest = bytes; is = refl };
    })
    (λ failed. subst (λ n. Sends memory_meanings {T = T} {F = F} old n bytes (Err e)) (sym failed.2) record {
      quiet = quiet_sent old (send_failed old) [] refl refl refl (sym (append-nil old.sent)) refl refl (omega (arith, few));
      cause = stopped old.send_faults e few;
      all = tt;
      part = record { rest = bytes; is = refl };
    })
    why

pub memory_passes : (old new : MemoryStation) (bytes : List ℕ) → new ≡ was_sent old bytes → PassesOutputs memory_meanings old new
memory_passes old new bytes is = subst (λ n. PassesOutputs memory_meanings old n) (sym is) (passes_sent old (was_sent old bytes) bytes refl refl refl refl refl refl (omega arith))

pub memory_passes_err : {A B C : Type 0} (old new : MemoryStation) → old.send_faults ≤ LAST_COUNT → (A × (new ≡ send_refused old)) ⊎ (B × C × (new ≡ send_failed old)) → PassesOutputs memory_meanings old new
memory_passes_err old new few why = ⊎_elim
    (λ refused. subst (λ n. PassesOutputs memory_meanings old n) (sym refused.1) (passes_refused old))
    (λ failed. subst (λ n. PassesOutputs memory_meanings old n) (sym failed.2) (passes_sent old (send_failed old) [] refl refl refl (sym (append-nil old.sent)) refl refl (omega (arith, few))))
    why
