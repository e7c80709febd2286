-- Reading ahead: how much was read, and which bytes the block has.
use Rattle.std.proofs.Common.{◌≡◌, ℕ, ◌+◌, ◌-◌, ◌≤◌, List, [], ◌∷◌, ◌++◌, length, take, drop, Result, Ok, Err, refl, sym, ◌∙◌, ap, ap₂, arith, append_assoc, append-nil, length-append}
use Rattle.std.specs.Prelude.{OnOk}
use Rattle.std.specs.List.{flat_map}
use Rattle.std.specs.Box.{boxed_slice_items}
use Rattle.std.proofs.lemmas.List.{take-take, drop-take, drop-drop, drop_all, take_all, take-append-le, length-take-le}
use borrow.Rule.Slice.PartMut.{post_of, Post-is}
use Rattle.std.proofs.Math.Seq.{take-add}
use Rattle.gx_station.specs.Stations.{StationMeanings}
use Rattle.match_journal.specs.Causes.{LooksOnly}
use Rattle.match_journal.specs.Journal.{Header, Record, journal_front, open_record}
use Rattle.match_journal.specs.Walking.{IsNext}
use Rattle.match_journal.specs.declared.entry.Entry.{Entry}
use Rattle.match_journal.proofs.Records.{length-record}
use Rattle.match_journal.proofs.Walked.{front-split}
use Rattle.match_journal.specs.LookLaws.{keeps_itself, none_read, reads_more, looks_by, looks_more}
use Rattle.book_recovery.specs.Inner.Ahead.{front, IsAhead, GoesAhead}
use Rattle.book_recovery.specs.declared.read_ahead.ReadAhead.{ReadAhead}

module _ {S : Type 0} (m : StationMeanings S) where
  pub looks_itself : (s : S) (most : ℕ) → LooksOnly m s s most
  looks_itself s most = record {
    silent = record { sent = refl; send_faults = refl; store_faults = omega arith };
    keeps = keeps_itself m s;
    images_stay = λ h image may. may;
    reach = omega arith;
    bytes_read = reads_more 0 most (m.bytes_read s) (m.bytes_read s) (omega arith) (none_read (m.bytes_read s));
  }

  -- nothing was read
  pub goes_none : (s : S) (ahead : ReadAhead) (end : ℕ) → front ahead ≤ end → GoesAhead m s s ahead ahead end
  goes_none s ahead end ends = record {
    looks = looks_itself s (front ahead - front ahead);
    further = omega arith;
    ends = ends;
    reach = refl;
  }

  pub goes_then : (a b c : S) (x y z : ReadAhead) (end : ℕ) → GoesAhead m a b x y end → GoesAhead m b c y z end → GoesAhead m a c x z end
  goes_then a b c x y z end first second = record {
    looks = looks_by m a b c (front y - front x) (front z - front y) (front z - front x) first.looks second.looks (omega (arith, first.further, second.further));
    further = omega (arith, first.further, second.further);
    ends = second.ends;
    reach = second.reach ∙ first.reach;
  }

  -- of a look that goes up to the block, once the block has gone on
  pub looks_ahead : (a b c : S) (ahead then : ReadAhead) (from end : ℕ) → from ≤ front ahead → LooksOnly m a b (front ahead - from) → GoesAhead m b c ahead then end → LooksOnly m a c (front then - from)
  looks_ahead a b c ahead then from end le looks goes =
      looks_by m a b c (front ahead - from) (front then - front ahead) (front then - from) looks goes.looks (omega (arith, le, goes.further))

  -- no more than stands between two gates, but for six bytes at the first, which were not read, and six at the last
  pub looks_to_end : (a b : S) (ahead : ReadAhead) (from gate end : ℕ) → front ahead ≤ end → end ≤ gate + 6 → LooksOnly m a b (front ahead - (from + 6)) → LooksOnly m a b (gate - from)
  looks_to_end a b ahead from gate end ends few looks = looks_more m a b (front ahead - (from + 6)) (gate - from) (omega (arith, ends, few)) looks

  -- nothing is read yet
  pub begun_ahead : (s : S) (ahead : ReadAhead) (place end : ℕ) → ahead.at ≡ place → ahead.count ≡ 0 → place ≤ end → IsAhead m s ahead place end
  begun_ahead s ahead place end at none le = record {
    begins = omega (arith, at);
    ready = omega (arith, at);
    ends = omega (arith, at, none, le);
    bytes = λ image holds. ap (λ n. take n (boxed_slice_items ahead.block)) none ∙ sym (ap (λ n. take n (drop ahead.at image)) none);
  }

-- what the block has from a place on is what stands there in the image
pub block_bytes : (block image : List ℕ) (count at place have : ℕ) → take count block ≡ take count (drop at image) → at ≤ place → place - at + have ≤ count
    → take have (drop (place - at) block) ≡ take have (drop place image)
block_bytes block image count at place have same begins inside =
    let from = place - at in
    sym (drop-take from have block)
    ∙ ap (drop from) (sym (take-take (from + have) count block inside) ∙ ap (take (from + have)) same ∙ take-take (from + have) count (drop at image) inside)
    ∙ drop-take from have (drop at image)
    ∙ ap (take have) (drop-drop from at image ∙ ap (λ k. drop k image) (omega (arith, begins)))

-- the front of some memory from the block, and the rest from after it
pub joined_bytes : (bytes more image : List ℕ) (have all count place next : ℕ) → bytes ≡ take have (drop place image) → more ≡ take count (drop next image) → count ≡ all - have → have ≤ all → next ≡ place + have
    → bytes ++ more ≡ take all (drop place image)
joined_bytes bytes more image have all count place next first second count_is le next_is =
    ap₂ (λ (x y : List ℕ). x ++ y) first (second ∙ ap₂ (λ n k. take n (drop k image)) count_is next_is ∙ ap (take (all - have)) (sym (drop-drop have place image)))
    ∙ sym (take-add have (all - have) (drop place image))
    ∙ ap (λ k. take k (drop place image)) (omega (arith, le))

-- some memory that was filled from the block
pub copied_bytes : (into block image : List ℕ) (count at place have all next : ℕ) → take have into ≡ take have (drop (place - at) block) → take count block ≡ take count (drop at image) → at ≤ place → place - at + have ≤ count
    → length into ≡ all → have ≡ all → next ≡ place → into ≡ take all (drop next image)
copied_bytes into block image count at place have all next copied same begins inside size is next_is =
    sym (take_all have into (omega (arith, size, is)))
    ∙ copied
    ∙ block_bytes block image count at place have same begins inside
    ∙ ap₂ (λ n k. take n (drop k image)) is (sym next_is)

-- where nothing stands after a part, the part is all of the rest
pub no_post : (xs : List ℕ) (front : ℕ) → front ≤ length xs → post_of front (length xs - front) xs ≡ []
no_post xs front le = Post-is front (length xs) xs le ∙ drop_all (length xs) xs (omega arith)

pub ok_then : {T F P Q : Type 0} (r : Result T F) → (P → Q) → OnOk r P → OnOk r Q
ok_then (Ok x) f p = f p
ok_then (Err e) f p = tt

-- the bytes of a head, which were read into the front of some room
pub head_bytes : (into room post image : List ℕ) (count place gate : ℕ) → length into ≡ length (take count room) → count ≤ length room → place ≡ gate → into ≡ take (length (take count room)) (drop place image)
    → take count (into ++ post) ≡ take (length (take count (into ++ post))) (drop gate image)
head_bytes into room post image count place gate size few at are =
    let long : length into ≡ count = size ∙ length-take-le count room few in
    let same : take count (into ++ post) ≡ into = take-append-le count into post (omega (arith, long)) ∙ take_all count into (omega (arith, long)) in
    same ∙ are ∙ ap₂ (λ n k. take n (drop k image)) (sym size ∙ sym (ap length same)) at

-- ---- the last gate

-- no record ends after it
pub next_inside : (head : Header) (image : List ℕ) (before after : List Record) (gate last : ℕ) (entry : Entry) → IsNext head image before after gate entry → last ≡ length (journal_front head (before ++ after)) → gate ≤ last
next_inside head image before after gate last entry next is =
    let all : before ++ after ≡ (before ++ next.found ∷ []) ++ next.more = ap (λ (l : List Record). before ++ l) next.is ∙ sym (append_assoc before (next.found ∷ []) next.more) in
    omega (
      arith,
      is,
      ap (λ (l : List Record). length (journal_front head l)) all,
      ap length (front-split head (before ++ next.found ∷ []) next.more),
      length-append (journal_front head (before ++ next.found ∷ [])) (flat_map open_record next.more),
      next.gate_is,
    )

-- and where none is left, it is met
pub none_inside : (head : Header) (before after : List Record) (last : ℕ) → after ≡ [] → last ≡ length (journal_front head (before ++ after)) → last ≡ length (journal_front head before)
none_inside head before after last none is = is ∙ ap (λ (l : List Record). length (journal_front head (before ++ l))) none ∙ ap (λ (l : List Record). length (journal_front head l)) (append-nil before)

-- none is left there
pub none_more : (head : Header) (before after : List Record) → length (journal_front head before) ≡ length (journal_front head (before ++ after)) → after ≡ []
none_more head before [] is = refl
none_more head before (r ∷ more) is =
    absurd (omega (
      arith,
      is,
      ap length (front-split head before (r ∷ more)),
      length-append (journal_front head before) (flat_map open_record (r ∷ more)),
      length-append (open_record r) (flat_map open_record more),
      length-record r,
    ))
