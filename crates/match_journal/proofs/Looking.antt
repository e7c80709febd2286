-- One read, as a look at an image.
use Rattle.std.proofs.Common.{◌≡◌, ⊎_elim, ℕ, ◌+◌, ◌<◌, ◌≤◌, min, List, ◌++◌, length, take, Option, Some, None, option_map, Result, Ok, Err, refl, sym, ◌∙◌, ap, subst, arith}
use Rattle.std.proofs.lemmas.Bool.{cases_lt}
use Rattle.std.proofs.lemmas.List.{take-append-le, take_all, length-take-le}
use Rattle.gx_station.specs.Stations.{StationMeanings}
use Rattle.gx_station.specs.StoreCalls.{Measures, Reads}
use Rattle.match_journal.specs.Causes.{ReadsAtMost, LooksOnly}
use Rattle.match_journal.specs.LookLaws.{keeps_itself}

pub reads_same : (most : ℕ) (a b : Option ℕ) → b ≡ a → ReadsAtMost most a b
reads_same most None None is = tt
reads_same most None (Some b) is = absurd (cc is)
reads_same most (Some a) None is = absurd (cc is)
reads_same most (Some a) (Some b) is = let same : b ≡ a = cc is in (omega (arith, same), omega (arith, same))

reads_so_many : (most n : ℕ) (a b : Option ℕ) → n ≤ most → b ≡ option_map (λ k. k + n) a → ReadsAtMost most a b
reads_so_many most n None None few is = tt
reads_so_many most n None (Some b) few is = absurd (cc is)
reads_so_many most n (Some a) None few is = absurd (cc is)
reads_so_many most n (Some a) (Some b) few is = let more : b ≡ a + n = cc is in (omega (arith, more), omega (arith, more, few))

-- a look between two calls that read nothing
pub reads_between : (most : ℕ) (a b c d : Option ℕ) → b ≡ a → ReadsAtMost most b c → d ≡ c → ReadsAtMost most a d
reads_between most a b c d before reads after = subst (λ (o : Option ℕ). ReadsAtMost most a o) (sym after) (subst (λ (o : Option ℕ). ReadsAtMost most o c) before reads)

-- how many bytes were read into the front of some room
pub room_read : (into room : List ℕ) (count : ℕ) → length into ≡ length (take count room) → count ≤ length room → length into ≡ count
room_read into room count is few = is ∙ length-take-le count room few

-- the front of the room that some bytes were read into: the most that is read, or all that is left
pub front_read : (bytes into post : List ℕ) (count most : ℕ) → count ≡ min (length bytes) most → length into ≡ count → into ≡ take (length into) bytes → take count (into ++ post) ≡ take most bytes
front_read bytes into post count most is long read =
    take-append-le count into post (omega (arith, long))
    ∙ take_all count into (omega (arith, long))
    ∙ read
    ∙ ap (λ k. take k bytes) long
    ∙ ⊎_elim
    (λ less. ap (λ k. take k bytes) (omega (arith, is, less)) ∙ take_all (length bytes) bytes (omega arith) ∙ sym_all less)
    (λ least. ap (λ k. take k bytes) (omega (arith, is, least)))
    (cases_lt (length bytes) most)
  where
    sym_all : length bytes < most → bytes ≡ take most bytes
    sym_all less = sym (take_all most bytes (omega (arith, less)))

-- the front of the room, where just the bytes that were read stand
pub front_all : (bytes into post : List ℕ) (count : ℕ) → length into ≡ count → into ≡ take (length into) bytes → take count (into ++ post) ≡ take (length (take count (into ++ post))) bytes
front_all bytes into post count long read =
    let same : take count (into ++ post) ≡ into = take-append-le count into post (omega (arith, long)) ∙ take_all count into (omega (arith, long)) in
    same ∙ read ∙ ap (λ k. take k bytes) (sym (ap length same))

module _ {S : Type 0} (m : StationMeanings S) where
  pub looks_none : (s : S) (most : ℕ) → LooksOnly m s s most
  looks_none s most = record {
    silent = record { sent = refl; send_faults = refl; store_faults = omega arith };
    keeps = keeps_itself m s;
    images_stay = λ h image may. may;
    reach = omega arith;
    bytes_read = reads_same most (m.bytes_read s) (m.bytes_read s) refl;
  }

  -- the length was asked for
  pub looks_measured : {F : Type 0} (old new : S) (r : Result ℕ F) → Measures m old new r → LooksOnly m old new 0
  looks_measured {F} old new r measures = record {
    silent = record { sent = measures.on_store.sent; send_faults = measures.on_store.send_faults; store_faults = measures.on_store.cause.never_falls };
    keeps = measures.keeps;
    images_stay = measures.images_stay;
    reach = reach r measures;
    bytes_read = reads_same 0 (m.bytes_read old) (m.bytes_read new) measures.bytes_read;
  }
    where
      reach : (r : Result ℕ F) → Measures m old new r → m.reach old ≤ m.reach new
      reach (Ok len) measures = omega (arith, measures.reach)
      reach (Err e) measures = omega (arith, measures.reach_err)

  pub looks_read : {T F : Type 0} (old new : S) (at most : ℕ) (into : List ℕ) (r : Result T F) → length into ≤ most → Reads m old new at into r → LooksOnly m old new most
  looks_read {T} {F} old new at most into r few reads = record {
    silent = record { sent = reads.on_store.sent; send_faults = reads.on_store.send_faults; store_faults = reads.on_store.cause.never_falls };
    keeps = reads.keeps;
    images_stay = reads.images_stay;
    reach = omega (arith, reads.reach);
    bytes_read = few_read r reads;
  }
    where
      few_read : (r : Result T F) → Reads m old new at into r → ReadsAtMost most (m.bytes_read old) (m.bytes_read new)
      few_read (Ok x) reads = reads_so_many most (length into) (m.bytes_read old) (m.bytes_read new) few reads.bytes_read
      few_read (Err e) reads = reads_same most (m.bytes_read old) (m.bytes_read new) reads.bytes_read_err
