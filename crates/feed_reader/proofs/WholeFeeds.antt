-- What is told of a feed is decided by the bytes of the whole input.
use Rattle.std.proofs.Common.{◌≡◌, ℕ, ◌<◌, ◌≤◌, nat_le, List, [], ◌++◌, length, Option, Some, None, Result, Ok, Err, inl, inr, refl, sym, ap, subst, ◌∙◌, arith, length-append}
use Rattle.std.proofs.lemmas.Bool.{cond-true, cond-false, le-leb, lt-leb, cases_lt}
use Rattle.std.proofs.lemmas.List.{append-nil}
use Rattle.gx_station.specs.Sources.{SourceMeanings, and_left}
use Rattle.level_feed.specs.declared.fault.FeedFault.{FeedFault}
use Rattle.level_feed.specs.Lines.{Listing}
use Rattle.level_feed.specs.Tables.{Table, empty_table}
use Rattle.level_feed.specs.Folds.{FoldFault, Cut, Broken, NoSnapshot, table_of}
use Rattle.level_feed.specs.Held.{HeldTable}
use Rattle.feed_reader.specs.declared.feed.TheConstants.{MOST_FEED}
use Rattle.feed_reader.specs.declared.unread.Unread.{Unread}
use Rattle.feed_reader.specs.declared.unread.Unread.TheVariants as unread
use Rattle.feed_reader.specs.Feeds.{feed_part, FoldsWhole, EndsFeed, ReadsFeed, read_into}
use Rattle.feed_reader.specs.WholeFeeds.{told, told_long, feed_end, IsReadAs, BrokenStays}
use Rattle.feed_reader.proofs.Fronts.{part-few, part-many, part-grows}
use Rattle.feed_reader.proofs.Pieces.{stays}

pub broken-stays : BrokenStays
broken-stays listing xs ys at fault e = stays listing ys at fault xs empty_table 0 0 [] tt e

module _ (listing : Listing) where
  few-told : (all : List ℕ) → length all ≤ MOST_FEED → feed_end listing all ≡ told (table_of listing all)
  few-told all few =
      cond-true (nat_le (length all) MOST_FEED) (told (table_of listing all)) (told_long (table_of listing (feed_part all))) (le-leb (length all) MOST_FEED few)

  many-told : (all : List ℕ) → MOST_FEED < length all → feed_end listing all ≡ told_long (table_of listing (feed_part all))
  many-told all many =
      cond-false (nat_le (length all) MOST_FEED) (told (table_of listing all)) (told_long (table_of listing (feed_part all))) (lt-leb (length all) MOST_FEED many)

  whole-told : (all taken rest : List ℕ) (fold : Result Table FoldFault) → all ≡ taken ++ rest → FoldsWhole listing taken (Some rest) fold → feed_end listing all ≡ told fold
  whole-told all taken rest fold is w =
      let same : all ≡ taken = is ∙ ap (λ (l : List ℕ). taken ++ l) w.at_end ∙ append-nil taken in
      ap (feed_end listing) same ∙ few-told taken w.few ∙ ap told w.folds

  broken-told : (all : List ℕ) (at : ℕ) (fault : FeedFault) → table_of listing (feed_part all) ≡ Err (Broken at fault) → feed_end listing all ≡ Err (unread.Broken at fault)
  broken-told all at fault e =
      elim (cases_lt MOST_FEED (length all)) [
        | inl many ↦ many-told all many ∙ ap told_long e
        | inr few ↦ few-told all few ∙ ap (λ (l : List ℕ). told (table_of listing l)) (sym (part-few all few)) ∙ ap told e
      ]

  long-fold : (fold : Result Table FoldFault) → ((at : ℕ) (fault : FeedFault) → fold ≡ Err (Broken at fault) → ⊥) → told_long fold ≡ Err unread.TooLong
  long-fold (Ok table) h = refl
  long-fold (Err (Cut at)) h = refl
  long-fold (Err (Broken at fault)) h = absurd (h at fault refl)
  long-fold (Err NoSnapshot) h = refl

  by-taken : (all taken rest : List ℕ) (read : Result Table Unread) → all ≡ taken ++ rest → EndsFeed listing taken (Some rest) read → IsReadAs listing all read
  by-taken all taken rest (Ok table) is h = whole-told all taken rest (Ok table) is h.0
  by-taken all taken rest (Err (unread.ReadFault at)) is h = tt
  by-taken all taken rest (Err (unread.Broken at fault)) is h =
      let front = part-grows taken rest in
      broken-told all at fault
      (ap (λ (l : List ℕ). table_of listing (feed_part l)) is ∙ ap (table_of listing) front.is ∙ broken-stays listing (feed_part taken) front.more at fault h)
  by-taken all taken rest (Err (unread.Cut at)) is h = whole-told all taken rest (Err (Cut at)) is h
  by-taken all taken rest (Err unread.NoSnapshot) is h = whole-told all taken rest (Err NoSnapshot) is h
  by-taken all taken rest (Err unread.TooLong) is h =
      let many = h.many in
      let front : feed_part all ≡ feed_part taken = ap feed_part is ∙ part-many taken rest (omega arith) in
      many-told all (omega (arith, ap (λ (l : List ℕ). length l) is, length-append taken rest))
      ∙ ap (λ (l : List ℕ). told_long (table_of listing l)) front
      ∙ long-fold (table_of listing (feed_part taken)) h.unbroken

  by-left : (all taken : List ℕ) (left : Option (List ℕ)) (read : Result Table Unread) → Some all ≡ and_left taken left → EndsFeed listing taken left read → IsReadAs listing all read
  by-left all taken None read e h = cc
  by-left all taken (Some rest) read e h = by-taken all taken rest read (cc) h

  -- where no read failed, it is what all bytes of the input give
  pub read-whole : (all taken rest : List ℕ) (left : Option (List ℕ)) → left ≡ Some rest → all ≡ taken ++ rest → (read : Result Table Unread) → EndsFeed listing taken left read → ((at : ℕ) → read ≡ Err (unread.ReadFault at) → ⊥) → feed_end listing all ≡ read
  read-whole all taken rest left is whole read ends none = by-read read (by-taken all taken rest read whole (subst (λ (l : Option (List ℕ)). EndsFeed listing taken l read) is ends)) none
    where
      by-read : (read : Result Table Unread) → IsReadAs listing all read → ((at : ℕ) → read ≡ Err (unread.ReadFault at) → ⊥) → feed_end listing all ≡ read
      by-read (Ok table) is none = is
      by-read (Err (unread.ReadFault at)) is none = absurd (none at refl)
      by-read (Err (unread.Broken at fault)) is none = is
      by-read (Err (unread.Cut at)) is none = is
      by-read (Err unread.NoSnapshot) is none = is
      by-read (Err unread.TooLong) is none = is

-- over an input whose bytes are known, the answer is that of all of them, unless a read failed
pub feed-read : {I : Type 0} (m : SourceMeanings I) (listing : Listing) (old new : I) (table : HeldTable) (result : Result (Unit {0}) Unread) (all : List ℕ)
    → ReadsFeed m listing old new table result → m.left old ≡ Some all → IsReadAs listing all (read_into table result)
feed-read m listing old new table result all reads known =
    by-left listing all reads.taken (m.left new) (read_into table result) (sym known ∙ reads.took) reads.ends
