-- The turns of reading a feed.
use Rattle.std.proofs.Common.{◌≡◌, ℕ, ◌<◌, ◌≤◌, true, false, nat_lt, min, List, [], ◌++◌, length, take, Option, Some, None, Ok, Err, refl, sym, ap, subst, ◌∙◌, arith, length-append, append_assoc}
use Rattle.std.specs.Prelude.{◌-◌, is_some}
use Rattle.std.proofs.lemmas.Bool.{cond-true, cond-false, lt-ltb, le-ltb}
use Rattle.std.proofs.lemmas.List.{append-nil, length-take-le}
use Rattle.gx_station.specs.Counts.{Rose}
use Rattle.gx_station.specs.Sources.{SourceMeanings, and_left, IsAtEnd, Takes}
use Rattle.gx_station.specs.declared.station.Failed.{Failed}
use Rattle.level_feed.specs.declared.fault.FeedFault.TheVariants.{Form}
use Rattle.level_feed.specs.Lines.{Listing}
use Rattle.level_feed.specs.Tables.{Table, is_inside, empty_table, longest_line}
use Rattle.level_feed.specs.Folds.{Cut, Broken, NoSnapshot, table_in, ended, table_of}
use Rattle.level_feed.specs.Held.{HeldTable}
use Rattle.feed_reader.specs.declared.feed.TheConstants.{MOST_FEED}
use Rattle.feed_reader.specs.declared.reading.BrokenLine.{BrokenLine}
use Rattle.feed_reader.specs.declared.unread.Unread.TheVariants as unread
use Rattle.feed_reader.specs.Feeds.{feed_part, IsUnbroken, FoldsWhole, ReadsFeed}
use Rattle.feed_reader.specs.Inner.{Place, end_of, IsFront, GoesOn, IsBrokenAt}
use Rattle.feed_reader.proofs.Fronts.{part-of-both}
use Rattle.feed_reader.proofs.Pieces.{Fold}
use Rattle.feed_reader.proofs.GoingOn.{new_place, goes-nowhere, goes-then, breaks-then, goes-to-end, goes-unbroken}

-- ---- what is left

and-nothing : (left : Option (List ℕ)) → and_left [] left ≡ left
and-nothing None = refl
and-nothing (Some rest) = refl

and-then : (xs ys : List ℕ) (left : Option (List ℕ)) → and_left xs (and_left ys left) ≡ and_left (xs ++ ys) left
and-then xs ys None = refl
and-then xs ys (Some rest) = ap Some (sym (append_assoc xs ys rest))

-- ---- the end of a feed

ended-inside : (t : Table) (at block : ℕ) (k : List ℕ) → IsFront k → is_inside t ≡ true → ended t at block k ≡ Err (Cut block)
ended-inside t at block k front inside =
    cond-false (nat_lt longest_line (length k)) (Err (Broken at Form)) _ (le-ltb longest_line (length k) front.short)
    ∙ cond-true (is_inside t) (Err (Cut block)) _ inside

ended-line : (t : Table) (at block : ℕ) (k : List ℕ) → IsFront k → is_inside t ≡ false → 0 < length k → ended t at block k ≡ Err (Cut at)
ended-line t at block k front outside some =
    cond-false (nat_lt longest_line (length k)) (Err (Broken at Form)) _ (le-ltb longest_line (length k) front.short)
    ∙ cond-false (is_inside t) (Err (Cut block)) _ outside
    ∙ cond-true (nat_lt 0 (length k)) (Err (Cut at)) _ (lt-ltb 0 (length k) some)

ended-between : (t : Table) (at block : ℕ) (k : List ℕ) → IsFront k → is_inside t ≡ false → length k ≡ 0 → ended t at block k ≡ table_in t t.number
ended-between t at block k front outside empty =
    cond-false (nat_lt longest_line (length k)) (Err (Broken at Form)) _ (le-ltb longest_line (length k) front.short)
    ∙ cond-false (is_inside t) (Err (Cut block)) _ outside
    ∙ cond-false (nat_lt 0 (length k)) (Err (Cut at)) _ (le-ltb 0 (length k) (omega arith))

none-is : (o : Option ℕ) → is_some o ≡ false → o ≡ None
none-is None e = refl
none-is (Some number) e = cc

some-is : (o : Option ℕ) → is_some o ≡ true → (number : ℕ) × (o ≡ Some number)
some-is None e = cc
some-is (Some number) e = (number, refl)

module _ {I : Type 0} (m : SourceMeanings I) (listing : Listing) where
  -- so far no line has a fault, and no read failed
  pub record IsReading (old new : I) (t : Table) (p : Place) : Type 0 where
    pub taken : List ℕ
    pub took : m.left old ≡ and_left taken (m.left new)
    pub goes : GoesOn listing empty_table new_place taken t p
    pub few : length taken ≤ MOST_FEED
    pub faults : m.faults new ≡ m.faults old

  pub reading-begins : (old : I) → IsReading old old empty_table new_place
  reading-begins old = record {
    taken = [];
    took = sym (and-nothing (m.left old));
    goes = goes-nowhere listing empty_table new_place (record { no_end = tt; short = omega arith });
    few = omega arith;
    faults = refl;
  }

  module _ (old mid new : I) (t : Table) (p : Place) (r : IsReading old mid t p) where
    reading-count : end_of p ≡ length r.taken
    reading-count = let place = r.goes.place in omega arith

    pub reading-few : end_of p ≤ MOST_FEED
    reading-few = let few = r.few in omega (arith, reading-count)

    pub read-failed : (into : List ℕ) (failed : Failed) (table : HeldTable) → Takes m mid new into (Err failed) → ReadsFeed m listing old new table (Err (unread.ReadFault (end_of p)))
    read-failed into failed table takes = record {
      taken = r.taken;
      took = r.took ∙ ap (and_left r.taken) (sym takes.unread);
      ends = record { place = reading-count; few = r.few; unbroken = goes-unbroken listing r.taken t p r.goes };
      cause = (omega (arith, takes.cause.never_falls, r.faults), subst (λ (n : ℕ). Rose n (m.faults new)) r.faults takes.cause.failed);
    }

    module _ (into : List ℕ) (n most : ℕ) (takes : Takes {F = Failed} m mid new into (Ok n)) (is : most ≡ min n (MOST_FEED - end_of p)) where
      abbrev all : List ℕ
      all = r.taken ++ take n into

      all-took : m.left old ≡ and_left all (m.left new)
      all-took = r.took ∙ ap (and_left r.taken) takes.placed ∙ and-then r.taken (take n into) (m.left new)

      first-of-all : feed_part all ≡ r.taken ++ take most into
      first-of-all = part-of-both r.taken into n most r.few takes.within (is ∙ ap (λ (k : ℕ). min n (MOST_FEED - k)) reading-count)

      no-fault : m.faults new ≡ m.faults old
      no-fault = takes.cause.ok ∙ r.faults

      pub read-broken : (broken : BrokenLine) (table : HeldTable) → IsBrokenAt listing t p (take most into) broken → ReadsFeed m listing old new table (Err (unread.Broken broken.at broken.fault))
      read-broken broken table h = record {
        taken = all;
        took = all-took;
        ends = ap (table_of listing) (first-of-all ∙ sym (append-nil (r.taken ++ take most into))) ∙ breaks-then listing empty_table new_place r.taken t p (take most into) broken r.goes h [];
        cause = no-fault;
      }

      module _ (u : Table) (q : Place) (goes : GoesOn listing t p (take most into) u q) where
        goes-all : GoesOn listing empty_table new_place (r.taken ++ take most into) u q
        goes-all = goes-then listing empty_table new_place r.taken t p (take most into) u q r.goes goes

        pub read-too-long : (table : HeldTable) → most < n → ReadsFeed m listing old new table (Err unread.TooLong)
        read-too-long table low = record {
          taken = all;
          took = all-took;
          ends = record {
            many = omega (arith, length-append r.taken (take n into), length-take-le n into takes.within, is, reading-count);
            unbroken = subst (λ (text : List ℕ). IsUnbroken listing text) (sym first-of-all) (goes-unbroken listing (r.taken ++ take most into) u q goes-all);
          };
          cause = no-fault;
        }

        pub read-on : n ≤ most → IsReading old new u q
        read-on high =
            let same : most ≡ n = omega (arith, is) in
            record {
              taken = r.taken ++ take most into;
              took = subst (λ (k : ℕ). m.left old ≡ and_left (r.taken ++ take k into) (m.left new)) (sym same) all-took;
              goes = goes-all;
              few = omega (arith, length-append r.taken (take most into), length-take-le most into (omega (arith, takes.within)), is, reading-count, reading-few);
              faults = no-fault;
            }

    -- ---- the end

    module _ (into : List ℕ) (n : ℕ) (takes : Takes {F = Failed} m mid new into (Ok n)) (none : n ≡ 0) (table : HeldTable) where
      left-same : m.left mid ≡ m.left new
      left-same = takes.placed ∙ ap (λ (k : ℕ). and_left (take k into) (m.left new)) none ∙ and-nothing (m.left new)

      folds-whole : (fold : Fold) → ended t p.at p.block p.kept ≡ fold → FoldsWhole listing r.taken (m.left new) fold
      folds-whole fold e = record {
        at_end = subst IsAtEnd left-same (takes.end none);
        few = r.few;
        folds = goes-to-end listing r.taken t p r.goes ∙ e;
      }

      took-all : m.left old ≡ and_left r.taken (m.left new)
      took-all = r.took ∙ ap (and_left r.taken) left-same

      no-fault-at-end : m.faults new ≡ m.faults old
      no-fault-at-end = takes.cause.ok ∙ r.faults

      pub read-cut-block : (block : ℕ) → block ≡ p.block → is_inside t ≡ true → ReadsFeed m listing old new table (Err (unread.Cut block))
      read-cut-block block is inside = record {
        taken = r.taken;
        took = took-all;
        ends = folds-whole (Err (Cut block)) (ended-inside t p.at p.block p.kept r.goes.front inside ∙ ap (λ (k : ℕ). Err (Cut k)) (sym is));
        cause = no-fault-at-end;
      }

      pub read-cut-line : (at : ℕ) → at ≡ p.at → is_inside t ≡ false → 0 < length p.kept → ReadsFeed m listing old new table (Err (unread.Cut at))
      read-cut-line at is outside some = record {
        taken = r.taken;
        took = took-all;
        ends = folds-whole (Err (Cut at)) (ended-line t p.at p.block p.kept r.goes.front outside some ∙ ap (λ (k : ℕ). Err (Cut k)) (sym is));
        cause = no-fault-at-end;
      }

      pub read-no-snapshot : is_inside t ≡ false → length p.kept ≡ 0 → is_some t.number ≡ false → ReadsFeed m listing old new table (Err unread.NoSnapshot)
      read-no-snapshot outside empty number = record {
        taken = r.taken;
        took = took-all;
        ends = folds-whole (Err NoSnapshot) (ended-between t p.at p.block p.kept r.goes.front outside empty ∙ ap (table_in t) (none-is t.number number));
        cause = no-fault-at-end;
      }

      pub read-whole : table.table ≡ t → is_inside t ≡ false → length p.kept ≡ 0 → is_some t.number ≡ true → ReadsFeed m listing old new table (Ok tt)
      read-whole is outside empty some = record {
        taken = r.taken;
        took = took-all;
        ends = (
          folds-whole (Ok table.table) (ended-between t p.at p.block p.kept r.goes.front outside empty ∙ ap (table_in t) (some-is t.number some).1 ∙ ap (λ (u : Table). Ok u) (sym is)),
          ((some-is t.number some).0, ap (λ (u : Table). u.number) is ∙ (some-is t.number some).1),
        );
        cause = no-fault-at-end;
      }
