-- Journals within one limit and within another: the greater one takes all that the smaller one takes, and the smaller one what ends in it.
use Rattle.std.proofs.Common.{◌≡◌, inl, inr, ℕ, ◌+◌, ◌<◌, ◌≤◌, List, length, sym, ◌∙◌, arith, length-append}
use Rattle.std.specs.List.{flat_map}
use Rattle.product_file.specs.Products.{ProductLists}
use Rattle.order_kinds.specs.Histories.{History}
use Rattle.match_journal.specs.Journal.{Header, Record, IsJournal, journal_front, header, in_version, open_record}
use Rattle.match_journal.specs.HeaderLaws.{length-header}
use Rattle.match_journal.specs.Classes.{Keeps}
use Rattle.match_journal.specs.declared.version.Version.{Version}
use Rattle.book_recovery.specs.Kept.{IsStartableWithin, CanBeRecovered}
use Rattle.globex_run.specs.Inner.OneHeader.{KeepsUnder}

-- ---- the length of a front

-- it does not depend on the version
pub front-length : (head : Header) (records : List Record) → length (journal_front head records) ≡ 13 + length head.text + length (flat_map open_record records)
front-length head records = omega (arith, length-header head, length-append (header head) (flat_map open_record records))

pub same-length : (first : List ℕ) (v w : Version) (records : List Record) → length (journal_front (in_version v first) records) ≡ length (journal_front (in_version w first) records)
same-length first v w records = front-length (in_version v first) records ∙ sym (front-length (in_version w first) records)

-- ---- from any limit to another

module _ (limit other : ℕ) where
  -- a journal within one limit whose front ends in another one is within that one too
  pub journal-within : (head : Header) (records : List Record) (image : List ℕ) → length (journal_front head records) < other → IsJournal head limit records image → IsJournal head other records image
  journal-within head records image ends journal = record {
    gate = journal.gate;
    behind = journal.behind;
    is = journal.is;
    closed = journal.closed;
    sized = journal.sized;
    in_limit = ends;
  }

  pub keeps-within : (head : Header) (records : List Record) (image : List ℕ) → length (journal_front head records) < other → Keeps head limit records image → Keeps head other records image
  keeps-within head records image ends (inl journal) = inl (journal-within head records image ends journal)
  keeps-within head records image ends (inr unfinished) = inr unfinished

  -- under the text of a header, by its front in any version
  pub under-within : (version : Version) (first : List ℕ) (records : List Record) (image : List ℕ) → length (journal_front (in_version version first) records) < other → KeepsUnder first limit records image → KeepsUnder first other records image
  under-within version first records image ends keeps =
      (keeps.0, keeps-within (in_version keeps.0 first) records image (omega (arith, ends, same-length first keeps.0 version records)) keeps.1)

-- ---- from a limit to a greater one

module _ (limit greater : ℕ) (is_less : limit ≤ greater) where
  pub journal-wider : (head : Header) (records : List Record) (image : List ℕ) → IsJournal head limit records image → IsJournal head greater records image
  journal-wider head records image journal = journal-within limit greater head records image (omega (arith, journal.in_limit, is_less)) journal

  pub keeps-wider : (head : Header) (records : List Record) (image : List ℕ) → Keeps head limit records image → Keeps head greater records image
  keeps-wider head records image (inl journal) = inl (journal-wider head records image journal)
  keeps-wider head records image (inr unfinished) = inr unfinished

  pub under-wider : (first : List ℕ) (records : List Record) (image : List ℕ) → KeepsUnder first limit records image → KeepsUnder first greater records image
  under-wider first records image keeps = (keeps.0, keeps-wider (in_version keeps.0 first) records image keeps.1)

  pub startable-wider : (text : List ℕ) (kept : History) (image : List ℕ) → IsStartableWithin limit text kept image → IsStartableWithin greater text kept image
  startable-wider text kept image start = record {
    head = start.head;
    records = start.records;
    keeps = keeps-wider start.head start.records image start.keeps;
    last = start.last;
    first = start.first;
    gives = start.gives;
    good = start.good;
    are_true = start.are_true;
    are = start.are;
  }

  -- what can be recovered from
  pub recovered-wider : (product : ProductLists) (text image : List ℕ) → CanBeRecovered product text limit image → CanBeRecovered product text greater image
  recovered-wider product text image (inl unfinished) = inl unfinished
  recovered-wider product text image (inr good) = inr record {
    head = good.head;
    few = good.few;
    records = good.records;
    journal = journal-wider good.head good.records image good.journal;
    last = good.last;
    good = good.good;
  }
