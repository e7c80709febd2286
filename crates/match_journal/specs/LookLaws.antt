-- Looks at an image, one after the other.
use Rattle.std.proofs.Common.{ℕ, ◌+◌, ◌≤◌, Option, Some, None, refl, ◌∙◌, arith}
use Rattle.gx_station.specs.Stations.{StationMeanings}
use Rattle.gx_station.specs.Moments.{adds_none}
use Rattle.gx_station.specs.Honest.{KeepsImage}
use Rattle.match_journal.specs.Causes.{ReadsAtMost, SendsNothing, LooksOnly, ReadsOnly}
use Rattle.match_journal.specs.StepLaws.{adds_then}

pub none_read : (count : Option ℕ) → ReadsAtMost 0 count count
none_read None = tt
none_read (Some n) = (omega arith, omega arith)

pub reads_then : (x y : ℕ) (a b c : Option ℕ) → ReadsAtMost x a b → ReadsAtMost y b c → ReadsAtMost (x + y) a c
reads_then x y None None None p q = tt
reads_then x y None None (Some c) p q = absurd q
reads_then x y None (Some b) c p q = absurd p
reads_then x y (Some a) None c p q = absurd p
reads_then x y (Some a) (Some b) None p q = absurd q
reads_then x y (Some a) (Some b) (Some c) p q = (omega (arith, p.0, q.0), omega (arith, p.1, q.1))

pub reads_more : (x y : ℕ) (a b : Option ℕ) → x ≤ y → ReadsAtMost x a b → ReadsAtMost y a b
reads_more x y None None le p = tt
reads_more x y None (Some b) le p = absurd p
reads_more x y (Some a) None le p = absurd p
reads_more x y (Some a) (Some b) le p = (p.0, omega (arith, p.1, le))

module _ {S : Type 0} (m : StationMeanings S) where
  pub keeps_itself : (a : S) → KeepsImage m a a
  keeps_itself a = record { holds = refl; images = λ h image may. may; moments = adds_none m a (λ image out. ⊥) }

  pub keeps_then : (a b c : S) → KeepsImage m a b → KeepsImage m b c → KeepsImage m a c
  keeps_then a b c first second = record {
    holds = second.holds ∙ first.holds;
    images = λ h image may. first.images h image (second.images (first.moments.honest h) image may);
    moments = adds_then m a b c _ _ (λ h image out none. none) first.moments second.moments;
  }

  pub silent_then : (a b c : S) → SendsNothing m a b → SendsNothing m b c → SendsNothing m a c
  silent_then a b c first second = record {
    sent = second.sent ∙ first.sent;
    send_faults = second.send_faults ∙ first.send_faults;
    store_faults = omega (arith, first.store_faults, second.store_faults);
  }

  pub looks_then : (a b c : S) (x y : ℕ) → LooksOnly m a b x → LooksOnly m b c y → LooksOnly m a c (x + y)
  looks_then a b c x y first second = record {
    silent = silent_then a b c first.silent second.silent;
    keeps = keeps_then a b c first.keeps second.keeps;
    images_stay = λ h image may. second.images_stay (first.keeps.moments.honest h) image (first.images_stay h image may);
    reach = omega (arith, first.reach, second.reach);
    bytes_read = reads_then x y (m.bytes_read a) (m.bytes_read b) (m.bytes_read c) first.bytes_read second.bytes_read;
  }

  pub looks_more : (a b : S) (x y : ℕ) → x ≤ y → LooksOnly m a b x → LooksOnly m a b y
  looks_more a b x y le looks = record {
    silent = looks.silent;
    keeps = looks.keeps;
    images_stay = looks.images_stay;
    reach = looks.reach;
    bytes_read = reads_more x y (m.bytes_read a) (m.bytes_read b) le looks.bytes_read;
  }

  -- one look more, by a bound for both
  pub looks_by : (a b c : S) (x y most : ℕ) → LooksOnly m a b x → LooksOnly m b c y → x + y ≤ most → LooksOnly m a c most
  looks_by a b c x y most first second few = looks_more a c (x + y) most few (looks_then a b c x y first second)

  -- ---- looks, whatever their bounds

  pub reads_itself : (a : S) → ReadsOnly m a a
  reads_itself a = record {
    most = 0;
    looks = record {
      silent = record { sent = refl; send_faults = refl; store_faults = omega arith };
      keeps = keeps_itself a;
      images_stay = λ h image may. may;
      reach = omega arith;
      bytes_read = none_read (m.bytes_read a);
    };
  }

  pub reads_of : (a b c : S) (x y : ℕ) → LooksOnly m a b x → LooksOnly m b c y → ReadsOnly m a c
  reads_of a b c x y first second = record { most = x + y; looks = looks_then a b c x y first second }

  -- one look more
  pub reads_look : (a b c : S) (most : ℕ) → ReadsOnly m a b → LooksOnly m b c most → ReadsOnly m a c
  reads_look a b c most reads looks = reads_of a b c reads.most most reads.looks looks

  -- and one look before
  pub look_reads : (a b c : S) (most : ℕ) → LooksOnly m a b most → ReadsOnly m b c → ReadsOnly m a c
  look_reads a b c most looks reads = reads_of a b c most reads.most looks reads.looks
