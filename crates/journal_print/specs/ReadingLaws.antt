-- Reads of the journal and sends, one after the other.
use Rattle.std.proofs.Common.{◌≡◌, ℕ, inl, inr, ⊎_elim, List, Option, Some, refl, sym, subst, ◌∙◌, arith}
use Rattle.gx_base.specs.KnownBytes.{IsKnownPrefix, known_itself, known_then}
use Rattle.gx_station.specs.Stations.{StationMeanings}
use Rattle.gx_station.specs.Moments.{adds_none}
use Rattle.gx_station.specs.Quiet.{Quiet}
use Rattle.match_journal.specs.Causes.{ReadsOnly}
use Rattle.journal_print.specs.Reading.{ReadsAndSends}

known_same : (a b : Option (List ℕ)) → b ≡ a → IsKnownPrefix a b
known_same a b same = subst (λ o. IsKnownPrefix a o) (sym same) (known_itself a)

module _ {S : Type 0} (m : StationMeanings S) where
  pub reading_itself : (a : S) → ReadsAndSends m a a
  reading_itself a = record {
    holds = refl;
    sent = known_itself (m.sent a);
    store_faults = omega arith;
    send_faults = omega arith;
    no_image_more = λ h image may. may;
    no_image_less = λ h image may. may;
    moments = adds_none m a _;
  }

  pub reading_only : (a b : S) → ReadsOnly m a b → ReadsAndSends m a b
  reading_only a b reads =
      let looks = reads.looks in
      record {
        holds = looks.keeps.holds;
        sent = known_same (m.sent a) (m.sent b) looks.silent.sent;
        store_faults = looks.silent.store_faults;
        send_faults = omega (arith, looks.silent.send_faults);
        no_image_more = λ h image may. looks.keeps.images h image may;
        no_image_less = λ h image may. looks.images_stay h image may;
        moments = record {
          later = looks.keeps.moments.later;
          honest = λ h. looks.keeps.moments.honest h;
          keeps = λ h t image out le left. looks.keeps.moments.keeps h t image out le left;
          adds = λ h t image out le left. ⊎_elim (λ at. inl at) (λ none. absurd none) (looks.keeps.moments.adds h t image out le left);
        };
      }

  pub sending_only : (a b : S) → Quiet m a b → ReadsAndSends m a b
  sending_only a b q = record {
    holds = q.holds;
    sent = q.sent;
    store_faults = omega (arith, q.store_faults);
    send_faults = q.send_faults;
    no_image_more = λ h image may. q.no_image_more h image may;
    no_image_less = λ h image may. q.no_image_less h image may;
    moments = q.moments;
  }

  pub reading_then : (a b c : S) → ReadsAndSends m a b → ReadsAndSends m b c → ReadsAndSends m a c
  reading_then a b c p q = record {
    holds = q.holds ∙ p.holds;
    sent = known_then (m.sent a) (m.sent b) (m.sent c) p.sent q.sent;
    store_faults = omega (arith, p.store_faults, q.store_faults);
    send_faults = omega (arith, p.send_faults, q.send_faults);
    no_image_more = λ h image may. p.no_image_more h image (q.no_image_more (p.moments.honest h) image may);
    no_image_less = λ h image may. q.no_image_less (p.moments.honest h) image (p.no_image_less h image may);
    moments = record {
      later = omega (arith, p.moments.later, q.moments.later);
      honest = λ h. q.moments.honest (p.moments.honest h);
      keeps = λ h t image out le left. q.moments.keeps (p.moments.honest h) t image out (omega (arith, le, p.moments.later)) (p.moments.keeps h t image out le left);
      adds = λ h t image out le left.
          ⊎_elim
          (λ early. ⊎_elim (λ at. inl at) (λ here. inr (here.0, record { low = here.1.low; high = known_then (Some out) (m.sent b) (m.sent c) here.1.high q.sent })) (p.moments.adds h t image out le early))
          (λ here. inr (p.no_image_more h image here.0, record { low = known_then (m.sent a) (m.sent b) (Some out) p.sent here.1.low; high = here.1.high }))
          (q.moments.adds (p.moments.honest h) t image out (omega (arith, le, p.moments.later)) left);
    };
  }
