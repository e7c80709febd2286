-- Messages that are told one after the other: bytes that were put out, until a send fails.
use Rattle.std.proofs.Common.{◌≡◌, ℕ, List, [], ◌++◌, true, false, Result, Ok, Err, IsErr, sym, ap, subst, ◌∙◌, append-nil, append_assoc}
use Rattle.std.specs.Prelude.{OnOk, OnErr}
use Rattle.gx_station.specs.Stations.{StationMeanings}
use Rattle.gx_station.specs.Quiet.{Sends}
use Rattle.exec_report.specs.Pushes.{Pushes}
use Rattle.exec_report.proofs.Pushed.{put-of, put-then, pushes-as, pushes-then, pushes-part, pushes-first, sends-of, fails-of}
use Rattle.feed_print.specs.FeedPlaces.{FeedPlace}

-- ---- what holds of a result

pub on-any : {T F : Type 0} (X : Type 0) (r : Result T F) → X → OnOk r X
on-any X (Ok x) h = h
on-any X (Err f) h = tt

pub on-known : {T F : Type 0} (X : Type 0) (r : Result T F) (x : T) → r ≡ Ok x → OnOk r X → X
on-known X (Ok y) x is h = h
on-known X (Err f) x is h = cc

pub on-failed : {T F : Type 0} (X : Type 0) (r : Result T F) → IsErr r → OnOk r X
on-failed X (Ok x) err = absurd (let no : false ≡ true = err in cc)
on-failed X (Err f) err = tt

pub on-map : {T F : Type 0} (X Y : Type 0) (r : Result T F) → (X → Y) → OnOk r X → OnOk r Y
on-map X Y (Ok x) f h = f h
on-map X Y (Err e) f h = tt

-- the second call is made after the first one alone
pub on-next : {T U F : Type 0} (X Y Z : Type 0) (told : Result U F) (r : Result T F) → OnErr told (IsErr r × Z) → OnOk told (X → OnOk r Y) → OnOk told X → OnOk r Y
on-next X Y Z (Ok x) r failed h first = h first
on-next X Y Z (Err f) (Ok y) failed h first = absurd (let no : false ≡ true = failed.0 in cc)
on-next X Y Z (Err f) (Err g) failed h first = tt

-- ---- bytes

module _ {S : Type 0} (m : StationMeanings S) {T U F : Type 0} (old mid new : S) (waits waits_mid waits_new : List ℕ) (front whole : List ℕ) (r : Result T F) where
  -- one message more, unless a send has failed before
  pub pushes-more : (told : Result U F) (piece : FeedPlace → List ℕ) (at sent : FeedPlace) → whole ≡ front ++ piece at → Pushes m {T = U} {F = F} old mid waits waits_mid front told → OnErr told (IsErr r × (new ≡ mid))
      → OnOk told (sent ≡ at) → OnOk told (Pushes m {T = T} {F = F} mid new waits_mid waits_new (piece sent) r) → Pushes m {T = T} {F = F} old new waits waits_new whole r
  pushes-more (Ok x) piece at sent e p failed same q =
      pushes-then m {T = T} {F = F} old mid new waits waits_mid waits_new front (piece at) whole r e (put-of m {T = U} {F = F} old mid waits waits_mid front x p)
      (pushes-as m {T = T} {F = F} mid new waits_mid waits_new (piece sent) (piece at) r (ap piece same) q)
  pushes-more (Err f) piece at sent e p failed same q =
      pushes-first m {T = T} {U = U} {F = F} old new waits waits_mid waits_new front (piece at) whole f r failed.0 e
      (subst (λ (s : S). Pushes m {T = U} {F = F} old s waits waits_mid front (Err f)) (sym failed.1) p)

  -- nothing is sent after a send that failed
  pub sends-failed : (told : Result U F) (f : F) → told ≡ Err f → IsErr r → waits ≡ [] → whole ≡ front → Pushes m {T = U} {F = F} old mid waits waits_mid front told → Sends m {T = T} {F = F} old mid whole r
  sends-failed told f is err none e p =
      fails-of m {T = T} {F = F} old mid waits waits_new whole r err none
      (pushes-first m {T = T} {U = U} {F = F} old mid waits waits_mid waits_new front [] whole f r err (e ∙ sym (append-nil front))
      (subst (λ (t : Result U F). Pushes m {T = U} {F = F} old mid waits waits_mid front t) is p))

  -- and last what waits is sent
  pub sends-rest : (told : Result U F) (x : U) → told ≡ Ok x → waits ≡ [] → whole ≡ front → Pushes m {T = U} {F = F} old mid waits waits_mid front told → Pushes m {T = T} {F = F} mid new waits_mid waits_new [] r
      → OnOk r (waits_new ≡ []) → Sends m {T = T} {F = F} old new whole r
  sends-rest told x is none e p q empty =
      sends-of m {T = T} {F = F} old new waits waits_new whole r none
      (pushes-then m {T = T} {F = F} old mid new waits waits_mid waits_new front [] whole r (e ∙ sym (append-nil front))
      (put-of m {T = U} {F = F} old mid waits waits_mid front x (subst (λ (t : Result U F). Pushes m {T = U} {F = F} old mid waits waits_mid front t) is p)) q)
      empty

-- three parts: the middle one failed, or both were put out and the last one is to come
module _ {S : Type 0} (m : StationMeanings S) {T U V F : Type 0} (old mid new : S) (waits waits_mid waits_new : List ℕ) (front middle back whole : List ℕ) (e : whole ≡ front ++ (middle ++ back)) (x : U)
    (p : Pushes m {T = U} {F = F} old mid waits waits_mid front (Ok x)) where
  pub changes-failed : (f : F) → Pushes m {T = V} {F = F} mid new waits_mid waits_new middle (Err f) → (r : Result T F) → IsErr r → Pushes m {T = T} {F = F} old new waits waits_new whole r
  changes-failed f q r err =
      pushes-part m {T = T} {U = V} {F = F} old mid new waits waits_mid waits_new waits_new front middle back whole f r err e (put-of m {T = U} {F = F} old mid waits waits_mid front x p) q

  pub three-parts : (y : V) → Pushes m {T = V} {F = F} mid new waits_mid waits_new middle (Ok y) → (end : S) (waits_end : List ℕ) (r : Result T F) → Pushes m {T = T} {F = F} new end waits_new waits_end back r
      → Pushes m {T = T} {F = F} old end waits waits_end whole r
  three-parts y q end waits_end r last =
      pushes-then m {T = T} {F = F} old new end waits waits_new waits_end (front ++ middle) back whole r (e ∙ sym (append_assoc front middle back))
      (put-then m old mid new waits waits_mid waits_new front middle (put-of m {T = U} {F = F} old mid waits waits_mid front x p) (put-of m {T = V} {F = F} mid new waits_mid waits_new middle y q))
      last
