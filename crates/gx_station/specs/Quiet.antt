-- Nothing but sends happened to a station.
use Rattle.std.specs.Prelude.{◌≡◌, ℕ, ◌≤◌, List, Some, Result, OnOk, OnErr, refl}
use Rattle.std.proofs.Common.{inl, inr, ⊎_elim, ◌∙◌, arith}
use Rattle.gx_base.specs.KnownBytes.{IsKnownPrefix, known_itself, known_then}
use Rattle.gx_station.specs.Counts.{HasCause}
use Rattle.gx_station.specs.Stations.{StationMeanings, IsBetween, sent_and}
use Rattle.gx_station.specs.Moments.{AddsOnly, adds_none}

module _ {S : Type 0} (m : StationMeanings S) where
  -- The image, what is known of it, and the count of its faults are as they were; the output only grew. Of an honest station
  -- the images that a crash could leave are the same, and the pairs added are such an image with an output on the way.
  pub record Quiet (old new : S) : Type 0 where
    pub sent : IsKnownPrefix (m.sent old) (m.sent new)
    pub send_faults : m.send_faults old ≤ m.send_faults new
    pub holds : m.holds new ≡ m.holds old
    pub reach : m.reach new ≡ m.reach old
    pub bytes_read : m.bytes_read new ≡ m.bytes_read old
    pub store_faults : m.store_faults new ≡ m.store_faults old
    pub no_image_more : m.is_honest old → (image : List ℕ) → m.may_leave new image → m.may_leave old image
    pub no_image_less : m.is_honest old → (image : List ℕ) → m.may_leave old image → m.may_leave new image
    pub moments : AddsOnly m old new (λ image out. m.may_leave old image × IsBetween (m.sent old) out (m.sent new))

  pub quiet_itself : (a : S) → Quiet a a
  quiet_itself a = record {
    sent = known_itself (m.sent a);
    send_faults = omega arith;
    holds = refl;
    reach = refl;
    bytes_read = refl;
    store_faults = refl;
    no_image_more = λ h image may. may;
    no_image_less = λ h image may. may;
    moments = adds_none m a (λ image out. m.may_leave a image × IsBetween (m.sent a) out (m.sent a));
  }

  pub quiet_then : (a b c : S) → Quiet a b → Quiet b c → Quiet a c
  quiet_then a b c p q = record {
    sent = known_then (m.sent a) (m.sent b) (m.sent c) p.sent q.sent;
    send_faults = omega (arith, p.send_faults, q.send_faults);
    holds = q.holds ∙ p.holds;
    reach = q.reach ∙ p.reach;
    bytes_read = q.bytes_read ∙ p.bytes_read;
    store_faults = q.store_faults ∙ p.store_faults;
    no_image_more = λ h image may. p.no_image_more h image (q.no_image_more (p.moments.honest h) image may);
    no_image_less = λ h image may. q.no_image_less (p.moments.honest h) image (p.no_image_less h image may);
    moments = record {
      later = omega (arith, p.moments.later, q.moments.later);
      honest = λ h. q.moments.honest (p.moments.honest h);
      keeps = λ h t image out le left. q.moments.keeps (p.moments.honest h) t image out (omega (arith, le, p.moments.later)) (p.moments.keeps h t image out le left);
      adds = λ h t image out le left.
          ⊎_elim
          (λ early. ⊎_elim (λ at. inl at) (λ here. inr (here.0, record { low = here.1.low; high = known_then (Some out) (m.sent b) (m.sent c) here.1.high q.sent })) (p.moments.adds h t image out le early))
          (λ here. inr (p.no_image_more h image here.0, record { low = known_then (m.sent a) (m.sent b) (Some out) p.sent here.1.low; high = here.1.high }))
          (q.moments.adds (p.moments.honest h) t image out (omega (arith, le, p.moments.later)) left);
    };
  }

  -- a send adds all of the bytes, or fails and adds a part from their front
  pub record Sends {T F : Type 0} (old new : S) (bytes : List ℕ) (result : Result T F) : Type 0 where
    pub quiet : Quiet old new
    pub cause : HasCause (m.send_faults old) (m.send_faults new) result
    pub all : OnOk result (m.sent new ≡ sent_and (m.sent old) bytes)
    pub part : OnErr result (IsKnownPrefix (m.sent new) (sent_and (m.sent old) bytes))
