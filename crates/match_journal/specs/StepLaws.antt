-- Steps, one after the other.
use Rattle.std.specs.Prelude.{◌≡◌, ℕ, List, Some}
use Rattle.std.proofs.Common.{inl, inr, ⊎_elim, sym, subst, ◌∙◌, arith}
use Rattle.std.proofs.lemmas.Option.{same_Some}
use Rattle.gx_station.specs.Stations.{StationMeanings}
use Rattle.gx_station.specs.Moments.{AddsOnly}
use Rattle.gx_station.specs.Honest.{IsHonestNow, KeepsImage}
use Rattle.match_journal.specs.Steps.{Rests, HoldsOne}

module _ {S : Type 0} (m : StationMeanings S) where
  -- one call more, whose pairs are of the kind that was added before
  pub adds_then : (a b c : S) (P Q : List ℕ → List ℕ → Type 0) → (m.is_honest a → (image out : List ℕ) → Q image out → P image out) → AddsOnly m a b P → AddsOnly m b c Q → AddsOnly m a c P
  adds_then a b c P Q weaker first second = record {
    later = omega (arith, first.later, second.later);
    honest = λ h. second.honest (first.honest h);
    keeps = λ h t image out le left. second.keeps (first.honest h) t image out (omega (arith, le, first.later)) (first.keeps h t image out le left);
    adds = λ h t image out le left.
        ⊎_elim (λ early. first.adds h t image out le early) (λ here. inr (weaker h image out here)) (second.adds (first.honest h) t image out (omega (arith, le, first.later)) left);
  }

  -- less is said of the pairs
  pub adds_weaker : (a b : S) (P Q : List ℕ → List ℕ → Type 0) → (m.is_honest a → (image out : List ℕ) → P image out → Q image out) → AddsOnly m a b P → AddsOnly m a b Q
  adds_weaker a b P Q weaker adds = record {
    later = adds.later;
    honest = adds.honest;
    keeps = adds.keeps;
    adds = λ h t image out le left. ⊎_elim (λ early. inl early) (λ here. inr (weaker h image out here)) (adds.adds h t image out le left);
  }

  -- a look at the image, or a sync, leaves it at rest
  pub rests_kept : (a b : S) (image : List ℕ) → KeepsImage m a b → m.is_honest a → Rests m image a → Rests m image b
  rests_kept a b image keeps h rests = record { read = keeps.holds ∙ rests.read; settled = λ left may. keeps.holds ∙ rests.settled left (keeps.images h left may) }

  -- Where nothing was pending, and only images that have During were added, a read gives such an image, whatever the calls on
  -- the way answered.
  pub steps_hold : ((s : S) → m.is_honest s → IsHonestNow m s) → (a b : S) (image : List ℕ) (During : List ℕ → Type 0) → During image → m.is_honest a → Rests m image a → AddsOnly m a b (λ left out. During left × (m.sent a ≡ Some out)) → HoldsOne m During b
  steps_hold now a b image During here h rests adds =
      let then = now b (adds.honest h) in
      let last = then.known_image.0 in
      let left = then.counts_now (m.time a) last then.known_output.0 adds.later (then.as_read last then.known_image.1) then.known_output.1 in
      record {
        image = last;
        read = then.known_image.1;
        has =
            ⊎_elim
            (λ early. subst During (same_Some image last (sym rests.read ∙ rests.settled last ((now a h).only_now last then.known_output.0 early).0)) here)
            (λ during. during.0)
            (adds.adds h (m.time a) last then.known_output.0 (omega arith) left);
      }
