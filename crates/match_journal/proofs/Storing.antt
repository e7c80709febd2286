-- Bytes that are stored in parts.
use Rattle.std.proofs.Common.{◌≡◌, ℕ, ◌+◌, ◌≤◌, max, List, ◌++◌, length, Option, Some, None, Result, Ok, Err, OnOk, OnErr, IsErr, true, false, refl, sym, ◌∙◌, ap, subst, arith, length-append}
use Rattle.std.specs.Option.{option_map}
use Rattle.gx_station.specs.Counts.{HasCause}
use Rattle.gx_station.specs.Disk.{Torn, written}
use Rattle.gx_station.specs.Stations.{StationMeanings}
use Rattle.gx_station.specs.StoreCalls.{Writes}
use Rattle.match_journal.specs.StepLaws.{adds_then, adds_weaker}
use Rattle.match_journal.specs.Inner.Stores.{Puts, Stores}
use Rattle.match_journal.proofs.Torn.{torn_then, torn_wider, written_then}

told_then : (at : ℕ) (x y : List ℕ) (told : Option (List ℕ)) → option_map (written (at + length x) y) (option_map (written at x) told) ≡ option_map (written at (x ++ y)) told
told_then at x y None = refl
told_then at x y (Some image) = ap Some (written_then at x y image)

-- a call that was Ok, and then another
pub cause_then : {T U F : Type 0} (a b c : ℕ) (x : U) (r : Result T F) → HasCause {T = U} {F = F} a b (Ok x) → HasCause b c r → HasCause a c r
cause_then a b c x (Ok y) first second = record { never_falls = omega (arith, first.never_falls, second.never_falls); ok = second.ok ∙ first.ok; failed = tt }
cause_then a b c x (Err e) first second = record { never_falls = omega (arith, first.never_falls, second.never_falls); ok = tt; failed = omega (arith, first.never_falls, second.failed) }

pub cause_err : {T U F G : Type 0} (a b : ℕ) (e : G) (r : Result T F) → IsErr r → HasCause {T = U} {F = G} a b (Err e) → HasCause a b r
cause_err a b e (Ok x) bad cause = absurd (let f : false ≡ true = bad in cc)
cause_err a b e (Err f) bad cause = record { never_falls = cause.never_falls; ok = tt; failed = cause.failed }

pub not_ok : {T F : Type 0} (A : Type 0) (r : Result T F) → IsErr r → OnOk r A
not_ok A (Ok x) bad = absurd (let f : false ≡ true = bad in cc)
not_ok A (Err e) bad = tt

module _ {S : Type 0} (m : StationMeanings S) where
  pub puts_err : {T U F G : Type 0} (a b : S) (e : G) (r : Result T F) → IsErr r → Puts m {T = U} {F = G} a b (Err e) → Puts m a b r
  puts_err a b e r bad puts = record {
    on_store = record { sent = puts.on_store.sent; send_faults = puts.on_store.send_faults; cause = cause_err (m.store_faults a) (m.store_faults b) e r bad puts.on_store.cause };
    bytes_read = puts.bytes_read;
    reach = puts.reach;
    honest = puts.honest;
  }

  pub puts_then : {T U F : Type 0} (a b c : S) (x : U) (r : Result T F) → Puts m {T = U} {F = F} a b (Ok x) → Puts m b c r → Puts m a c r
  puts_then a b c x r first second = record {
    on_store = record {
      sent = second.on_store.sent ∙ first.on_store.sent;
      send_faults = second.on_store.send_faults ∙ first.on_store.send_faults;
      cause = cause_then (m.store_faults a) (m.store_faults b) (m.store_faults c) x r first.on_store.cause second.on_store.cause;
    };
    bytes_read = second.bytes_read ∙ first.bytes_read;
    reach = omega (arith, first.reach, second.reach);
    honest = λ h. second.honest (first.honest h);
  }

  -- what a crash could leave of what it could leave before
  abbrev Tears : S → ℕ → ℕ → List ℕ → Type 0
  Tears old at n image = (before : List ℕ) × m.may_leave old before × Torn at n before image

  pub stores_write : {T F : Type 0} (old new : S) (at : ℕ) (bytes : List ℕ) (r : Result T F) → Writes m old new at bytes r → Stores m old new at bytes r
  stores_write {T} {F} old new at bytes r writes = record {
    puts = record { on_store = writes.on_store; bytes_read = writes.bytes_read; reach = reach r writes.reach writes.reach_err; honest = writes.tears.moments.honest };
    reach_ok = reach_ok r writes.reach;
    holds = writes.holds;
    images = writes.tears.images;
    moments = adds_weaker m old new _ _ (λ h image out here. (writes.tears.images h image here.0, here.1)) writes.tears.moments;
  }
    where
      reach : (r : Result T F) → OnOk r (m.reach new ≡ max (m.reach old) (at + length bytes)) → OnErr r (m.reach new ≡ m.reach old) → m.reach old ≤ m.reach new
      reach (Ok x) ok err = omega (arith, ok)
      reach (Err e) ok err = omega (arith, err)

      reach_ok : (r : Result T F) → OnOk r (m.reach new ≡ max (m.reach old) (at + length bytes)) → OnOk r (at + length bytes ≤ m.reach new)
      reach_ok (Ok x) ok = omega (arith, ok)
      reach_ok (Err e) ok = tt

  -- the first part could not be stored
  pub stores_none : {T U F G : Type 0} (old new : S) (at : ℕ) (x y : List ℕ) (e : G) (r : Result T F) → IsErr r → Stores m {T = U} {F = G} old new at x (Err e) → Stores m old new at (x ++ y) r
  stores_none old new at x y e r bad first = record {
    puts = puts_err old new e r bad first.puts;
    reach_ok = not_ok _ r bad;
    holds = not_ok _ r bad;
    images = λ h image may. wider image (first.images h image may);
    moments = adds_weaker m old new _ _ (λ h image out here. (wider image here.0, here.1)) first.moments;
  }
    where
      wider : (image : List ℕ) → Tears old at (length x) image → Tears old at (length (x ++ y)) image
      wider image from = (from.0, from.1, subst (λ k. Torn at k from.0 image) (sym (length-append x y)) (torn_wider at (length x) (length y) from.0 image from.2))

  -- the first part was stored, and then the second or a part of it
  pub stores_then : {T U F : Type 0} (old mid new : S) (at : ℕ) (x y : List ℕ) (u : U) (r : Result T F) → Stores m {T = U} {F = F} old mid at x (Ok u) → Stores m mid new (at + length x) y r → Stores m old new at (x ++ y) r
  stores_then {T} {U} {F} old mid new at x y u r first second = record {
    puts = puts_then old mid new u r first.puts second.puts;
    reach_ok = reach_ok r second.reach_ok;
    holds = holds r second.holds;
    images = λ h image may. both h image (second.images (first.moments.honest h) image may);
    moments = adds_then m old mid new _ _ (λ h image out here. (both h image here.0, sym first.puts.on_store.sent ∙ here.1)) (adds_weaker m old mid _ _ (λ h image out here. (wider image here.0, here.1)) first.moments) second.moments;
  }
    where
      wider : (image : List ℕ) → Tears old at (length x) image → Tears old at (length (x ++ y)) image
      wider image from = (from.0, from.1, subst (λ k. Torn at k from.0 image) (sym (length-append x y)) (torn_wider at (length x) (length y) from.0 image from.2))

      both : m.is_honest old → (image : List ℕ) → Tears mid (at + length x) (length y) image → Tears old at (length (x ++ y)) image
      both h image from =
          let early = first.images h from.0 from.1 in
          (early.0, early.1, subst (λ k. Torn at k early.0 image) (sym (length-append x y)) (torn_then at (length x) (length y) early.0 from.0 image early.2 from.2))

      reach_ok : (r : Result T F) → OnOk r (at + length x + length y ≤ m.reach new) → OnOk r (at + length (x ++ y) ≤ m.reach new)
      reach_ok (Ok x') ok = omega (arith, ok, length-append x y)
      reach_ok (Err e) ok = tt

      holds : (r : Result T F) → OnOk r (m.holds new ≡ option_map (written (at + length x) y) (m.holds mid)) → OnOk r (m.holds new ≡ option_map (written at (x ++ y)) (m.holds old))
      holds (Ok x') ok = ok ∙ ap (option_map (written (at + length x) y)) first.holds ∙ told_then at x y (m.holds old)
      holds (Err e) ok = tt
