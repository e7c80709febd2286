-- Which records the image keeps beyond those of entry, and how many: one for each read.
use Rattle.std.proofs.Common.{◌≡◌, ⊎_elim, inl, inr, ℕ, ◌≤◌, List, [], ◌++◌, length, sym, ap, subst, arith, length-append}
use Rattle.std.proofs.lemmas.List.{append-nil}
use Rattle.gx_station.specs.Stations.{StationMeanings}
use Rattle.match_journal.specs.Journal.{Record, Header}
use Rattle.match_journal.specs.Steps.{HoldsOne}
use Rattle.book_recovery.specs.Records.{IsWhole, AreWhole}
use Rattle.product_file.specs.Products.{ProductLists}
use Rattle.exec_report.specs.Forms.{LineText}
use Rattle.gx_base.specs.declared.event.Event.{Event}
use Rattle.order_kinds.specs.State.{State}
use Rattle.globex_run.specs.Outside.{SourceAt, Outside, Streams}
use Rattle.globex_run.specs.Headline.{Premises, AddsMessages, KeepsARecordPerRead}
use Rattle.globex_run.specs.Inner.OneHeader.{KeepsUnder}
use Rattle.globex_run.specs.Inner.Sessions.{EndsSession, SessionFrom}
use Rattle.globex_run.specs.declared.ending.Ending.{Ending}
use Rattle.globex_run.specs.declared.ending.Ending.TheVariants.{Done, ReadFault, StoreFault, SendFault, BadFrame, Truncated, NotAJournal, JournalBad, ProductDiffers, Full}
use Rattle.globex_run.specs.declared.outcome.Outcome.{Outcome}
use Rattle.plain_book.proofs.Pairs.{all-front}
use Rattle.globex_run.proofs.KeptMore.{keeps-of}
use Rattle.globex_run.proofs.Told.{outside_of}
use Rattle.order_kinds.specs.Histories.{History}

-- the first of whole records are whole
pub whole-front : (more rest added : List Record) → added ≡ more ++ rest → AreWhole added → AreWhole more
whole-front more rest added are whole = all-front IsWhole more rest (subst (λ (l : List Record). AreWhole l) are whole)

-- the image keeps these records, and then the first of those added
pub record KeepsNoMore {S : Type 0} (m : StationMeanings S) (first : List ℕ) (limit : ℕ) (now : S) (records added : List Record) : Type 0 where
  pub more : List Record
  pub rest : List Record
  pub are : added ≡ more ++ rest
  pub holds : HoldsOne m (KeepsUnder first limit (records ++ more)) now

module _ {I S : Type 0} (m : StationMeanings S) (line : LineText) (product : ProductLists) (head : Header) (before after : Streams I S) (count : ℕ) (records : List Record) (kept : History) (added : List Record) (behind : List ℕ) where
  abbrev Keeping : Type 0
  Keeping = KeepsNoMore m head.text product.journal_limit after.station.object records added

  all_added : HoldsOne m (KeepsUnder head.text product.journal_limit (records ++ added)) after.station.object → Keeping
  all_added holds = record { more = added; rest = []; are = sym (append-nil added); holds = holds }

  pub keeps_no_more : (ending : Ending) → EndsSession m line product head before after ending count records kept added behind → Keeping
  keeps_no_more Done ends = all_added ends.keeps
  keeps_no_more (ReadFault place) ends = all_added ends.keeps
  keeps_no_more StoreFault ends = ⊎_elim
      (λ holds. record { more = ends.served; rest = ends.others; are = ends.are; holds = holds })
      (λ holds. all_added holds)
      ends.keeps
  keeps_no_more SendFault ends = all_added ends.keeps
  keeps_no_more (BadFrame place) ends = all_added ends.keeps
  keeps_no_more (Truncated place) ends = all_added ends.keeps
  keeps_no_more (NotAJournal place) ends = absurd ends
  keeps_no_more (JournalBad place) ends = absurd ends
  keeps_no_more (ProductDiffers place) ends = absurd ends
  keeps_no_more (Full place) ends = all_added ends.0.keeps

module _ {P I S : Type 0} (m : StationMeanings S) (p q : SourceAt P) (i j : SourceAt I) (old new : S) (line : LineText) (Published : List Event → Type 0) (then : State) (outcome : Outcome) where
  abbrev entry : Outside P I S
  entry = outside_of m p i old

  abbrev exit : Outside P I S
  exit = outside_of m q j new

  module _ (given : Premises m entry exit outcome.status) (taken : List ℕ) (ending : Ending) (from : SessionFrom m line given.product given.startable.head entry.streams exit.streams Published then given.image given.startable.records given.kept taken ending outcome.messages) where
    pub keeping : KeepsNoMore m given.startable.head.text given.product.journal_limit new given.startable.records from.added
    keeping = keeps_no_more m line given.product given.startable.head entry.streams exit.streams outcome.messages given.startable.records given.kept from.added from.behind ending from.ends

    abbrev pub adds-messages : AddsMessages m entry exit outcome given
    adds-messages = record {
      image = keeping.holds.image;
      image_known = keeping.holds.read;
      added = keeping.more;
      keeps = keeps-of given.product given.text given.kept given.image given.startable keeping.more (whole-front keeping.more keeping.rest from.added keeping.are from.whole) keeping.holds.image keeping.holds.has;
      whole = whole-front keeping.more keeping.rest from.added keeping.are from.whole;
    }

    few-added : length keeping.more ≤ length from.added
    few-added = omega (arith, ap (λ (l : List Record). length l) keeping.are, length-append keeping.more keeping.rest)

    pub record-per-read : KeepsARecordPerRead m entry exit outcome given
    record-per-read = record {
      adds = adds-messages;
      few = ⊎_elim (λ within. inl (omega (arith, within, few-added))) (λ last. inr last) from.reads;
    }
