-- Steps from one image at rest to the next.
use Rattle.std.proofs.Common.{◌≡◌, ℕ, true, false, ◌+◌, ◌≤◌, List, length, Some, Result, Ok, Err, OnOk, IsErr, refl, sym, ◌∙◌, ap, subst, arith}
use Rattle.std.specs.Option.{option_map}
use Rattle.std.specs.Result.{is_err}
use Rattle.gx_station.specs.Disk.{Torn, written}
use Rattle.gx_station.specs.TornImages.{torn_whole}
use Rattle.gx_station.specs.Stations.{StationMeanings}
use Rattle.gx_station.specs.Moments.{AddsOnly, adds_none}
use Rattle.gx_station.specs.Honest.{KeepsImage, IsSettled}
use Rattle.gx_station.specs.StoreCalls.{Syncs}
use Rattle.gx_station.specs.AnswerLaws.{on_ok}
use Rattle.match_journal.specs.Inner.Stores.{Puts, Stores, Stored}
use Rattle.match_journal.specs.Steps.{Rests, HoldsOne, Steps, StepsFrom}
use Rattle.match_journal.specs.StepLaws.{adds_then, adds_weaker, rests_kept}
use Rattle.match_journal.proofs.Storing.{not_ok, puts_err, puts_then}

module _ {S : Type 0} (m : StationMeanings S) where
  -- ---- steps

  -- nothing was to be done
  pub steps_none : {T F : Type 0} (a : S) (image : List ℕ) (During Last : List ℕ → Type 0) (r : Result T F) → During image → Last image → Steps m a a image During Last r
  steps_none {T} {F} a image During Last r during last = record {
    ends = λ read. ended r read;
    moments = λ h rests. adds_none m a (λ left out. During left × (m.sent a ≡ Some out));
  }
    where
      ended : (r : Result T F) → m.holds a ≡ Some image → OnOk r (HoldsOne m (λ l. During l × Last l) a)
      ended (Ok x) read = record { image = image; read = read; has = (during, last) }
      ended (Err e) read = tt

  -- one step more
  pub steps_then : {T U F G : Type 0} (a b c : S) (image : List ℕ) (During Middle Last : List ℕ → Type 0) (x : U) (r : Result T F) → m.sent b ≡ m.sent a → (m.is_honest a → IsSettled m b)
      → Steps m {T = U} {F = G} a b image During Middle (Ok x) → ((middle : List ℕ) → Middle middle → Steps m b c middle During Last r) → Steps m a c image During Last r
  steps_then a b c image During Middle Last x r silent settled first then = record {
    ends = λ read.
        let at = first.ends read in
        (then at.image at.has.1).ends at.read;
    moments = λ h rests.
        let at = first.ends rests.read in
        adds_then m a b c _ _ (λ h left out here. (here.0, sym silent ∙ here.1)) (first.moments h rests) ((then at.image at.has.1).moments ((first.moments h rests).honest h) record { read = at.read; settled = settled h });
  }

  -- a step that was not done
  pub steps_err : {T U F G : Type 0} (a b : S) (image : List ℕ) (During Last Last' : List ℕ → Type 0) (e : G) (r : Result T F) → IsErr r → Steps m {T = U} {F = G} a b image During Last (Err e) → Steps m a b image During Last' r
  steps_err a b image During Last Last' e r bad steps = record { ends = λ read. not_ok _ r bad; moments = steps.moments }

  -- the same step, answered by another function
  pub steps_ok : {T U F G : Type 0} (a b : S) (image : List ℕ) (During Last : List ℕ → Type 0) (r : Result U G) (x : T) → is_err r ≡ false → Steps m a b image During Last r → Steps m {F = F} a b image During Last (Ok x)
  steps_ok a b image During Last (Ok y) x good steps = record { ends = steps.ends; moments = steps.moments }
  steps_ok a b image During Last (Err e) x good steps = absurd (cc good)

  pub steps_failed : {T U F G : Type 0} (a b : S) (image : List ℕ) (During Last : List ℕ → Type 0) (r : Result U G) (e : F) → is_err r ≡ true → Steps m a b image During Last r → Steps m {T = T} a b image During Last (Err e)
  steps_failed a b image During Last r e bad steps = record { ends = λ read. tt; moments = steps.moments }

  -- from a sync on nothing is pending
  pub from_synced : {T U F G : Type 0} (old a b new : S) (image : List ℕ) (During Last : List ℕ → Type 0) (s : Result U G) (r : Result T F) → is_err s ≡ false → Syncs m old a s → KeepsImage m a b → m.sent b ≡ m.sent a → (m.holds old ≡ Some image → Steps m b new image During Last r) → StepsFrom m old new image During Last r
  from_synced old a b new image During Last s r ok syncs keeps silent steps = record {
    ends = λ read. (steps read).ends (keeps.holds ∙ syncs.keeps.holds ∙ read);
    moments = λ h read. adds_then m old b new _ _ (λ h left out here. (here.0, sym (silent ∙ syncs.on_store.sent) ∙ here.1)) (adds_then m old a b _ _ (λ h left out none. absurd none) (adds_weaker m old a _ _ (λ h left out none. absurd none) syncs.keeps.moments) keeps.moments) ((steps read).moments (honest h) (rests h read));
  }
    where
      honest : m.is_honest old → m.is_honest b
      honest h = keeps.moments.honest (syncs.keeps.moments.honest h)

      rests : m.is_honest old → m.holds old ≡ Some image → Rests m image b
      rests h read = rests_kept m a b image keeps (syncs.keeps.moments.honest h) record { read = syncs.keeps.holds ∙ read; settled = on_ok s ok syncs.settled h }

  -- less is said of the way and of the end
  pub steps_weaker : {T F : Type 0} (a b : S) (image : List ℕ) (During During' Last Last' : List ℕ → Type 0) (r : Result T F) → ((left : List ℕ) → During left → During' left) → ((last : List ℕ) → Last last → Last' last) → Steps m a b image During Last r → Steps m a b image During' Last' r
  steps_weaker {T} {F} a b image During During' Last Last' r during last steps = record {
    ends = λ read. ended r (steps.ends read);
    moments = λ h rests. adds_weaker m a b _ _ (λ h left out here. (during left here.0, here.1)) (steps.moments h rests);
  }
    where
      ended : (r : Result T F) → OnOk r (HoldsOne m (λ l. During l × Last l) b) → OnOk r (HoldsOne m (λ l. During' l × Last' l) b)
      ended (Ok x) at = record { image = at.image; read = at.read; has = (during at.image at.has.0, last at.image at.has.1) }
      ended (Err e) at = tt

  -- ---- bytes that are stored

  -- what is left on the way
  torn : {T F : Type 0} (old mid : S) (at : ℕ) (bytes image : List ℕ) (r : Result T F) → Stores m old mid at bytes r → Rests m image old → AddsOnly m old mid (λ left out. Torn at (length bytes) image left × (m.sent old ≡ Some out))
  torn old mid at bytes image r stores rests = adds_weaker m old mid _ _ (λ h left out here.
      let from = here.0 in
      let same : from.0 ≡ image = cc (rests.settled from.0 from.1, rests.read) in
      (subst (λ (l : List ℕ). Torn at (length bytes) l left) same from.2, here.1)) stores.moments

  pub stored_none : {T U F G : Type 0} (old mid : S) (at : ℕ) (bytes : List ℕ) (e : G) (r : Result T F) → IsErr r → Stores m {T = U} {F = G} old mid at bytes (Err e) → Stored m old mid at bytes r
  stored_none old mid at bytes e r bad stores = record {
    puts = puts_err m old mid e r bad stores.puts;
    reach_ok = not_ok _ r bad;
    settled = not_ok _ r bad;
    steps = λ image. record { ends = λ read. not_ok _ r bad; moments = λ h rests. torn old mid at bytes image (Err e) stores rests };
  }

  pub stored : {T U F : Type 0} (old mid new : S) (at : ℕ) (bytes : List ℕ) (x : U) (r : Result T F) → Stores m {T = U} {F = F} old mid at bytes (Ok x) → Syncs m mid new r → Stored m old new at bytes r
  stored {T} {U} {F} old mid new at bytes x r stores syncs = record {
    puts = puts_then m old mid new x r stores.puts record { on_store = syncs.on_store; bytes_read = syncs.bytes_read; reach = omega (arith, syncs.reach); honest = syncs.keeps.moments.honest };
    reach_ok = reached r;
    settled = settled r syncs.settled;
    steps = λ image. record {
      ends = λ read. done image read r;
      moments = λ h rests. adds_then m old mid new _ _ (λ h left out none. absurd none) (torn old mid at bytes image (Ok x) stores rests) syncs.keeps.moments;
    };
  }
    where
      reached : (r : Result T F) → OnOk r (at + length bytes ≤ m.reach new)
      reached (Ok y) = omega (arith, stores.reach_ok, syncs.reach)
      reached (Err e) = tt

      settled : (r : Result T F) → OnOk r (m.is_honest mid → IsSettled m new) → OnOk r (m.is_honest old → IsSettled m new)
      settled (Ok y) then = λ h. then (stores.moments.honest h)
      settled (Err e) then = tt

      done : (image : List ℕ) → m.holds old ≡ Some image → (r : Result T F) → OnOk r (HoldsOne m (λ last. Torn at (length bytes) image last × (last ≡ written at bytes image)) new)
      done image read (Ok y) = record {
        image = written at bytes image;
        read = syncs.keeps.holds ∙ stores.holds ∙ ap (option_map (written at bytes)) read;
        has = (torn_whole at bytes image, refl);
      }
      done image read (Err e) = tt

  -- a call that was Ok before one that settles
  pub settled_then : {T U F G : Type 0} (old mid new : S) (x : U) (r : Result T F) → Puts m {T = U} {F = G} old mid (Ok x) → OnOk r (m.is_honest mid → IsSettled m new) → OnOk r (m.is_honest old → IsSettled m new)
  settled_then old mid new x (Ok y) puts then = λ h. then (puts.honest h)
  settled_then old mid new x (Err e) puts then = tt

  -- whatever was pending before
  pub settled_later : {T F : Type 0} (old new : S) (r : Result T F) → OnOk r (m.is_honest old → IsSettled m new) → OnOk r (m.is_honest old → IsSettled m old → IsSettled m new)
  settled_later old new (Ok x) settled = λ h before. settled h
  settled_later old new (Err e) settled = tt
