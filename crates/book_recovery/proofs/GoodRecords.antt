-- Good records, one more of them, one of true records, and how many messages fit.
use Rattle.std.proofs.Common.{◌≡◌, ℕ, ◌*◌, ◌<◌, ◌≤◌, List, [], ◌∷◌, ◌++◌, length, refl, ◌∙◌, ap, arith, append-nil, length-append}
use Rattle.std.specs.List.{flat_map, concat}
use Rattle.std.proofs.lemmas.Grind.{flat_map-append}
use Rattle.fix_frame.specs.Stream.{messages_of, rest_of}
use Rattle.fix_frame.specs.StreamLaws.{messages_of-are_frames, concat-messages_of}
use Rattle.fix_frame.specs.FramingLaws.{frames_least}
use Rattle.product_file.specs.Products.{ProductLists}
use Rattle.order_kinds.specs.declared.core_state.TheConstants.{MOST_MESSAGES}
use Rattle.match_journal.specs.Journal.{IsJournal, Record, open_record, header, Header}
use Rattle.match_journal.specs.declared.entry.EntryKind.{EntryKind}
use Rattle.match_journal.specs.declared.entry.EntryKind.TheVariants.{Frames, OldImage, Image, Amendment}
use Rattle.match_journal.specs.declared.limits.TheConstants.{MOST_LIMIT}
use Rattle.match_journal.proofs.Records.{length-record}
use Rattle.book_recovery.specs.Records.{messages_as, record_messages, messages_in, count_behind, count_behind_all, IsGoodRecord, AreGoodRecords}
use Rattle.order_kinds.specs.Histories.{History}
use Rattle.book_recovery.specs.Histories.{IsTrueAs, AreTrueFrom, history_as, history_behind}

-- ---- one record more

pub messages-push : (xs : List Record) (r : Record) → messages_in (xs ++ r ∷ []) ≡ messages_in xs ++ record_messages r
messages-push xs r = flat_map-append record_messages xs (r ∷ []) ∙ ap (λ (l : List (List ℕ)). messages_in xs ++ l) (append-nil (record_messages r))

pub count_push : (count : ℕ) (xs : List Record) (r : Record) → count_behind_all count (xs ++ r ∷ []) ≡ count_behind (count_behind_all count xs) r
count_push count [] r = refl
count_push count (x ∷ xs) r = count_push (count_behind count x) xs r

pub good_push : (product : ProductLists) (count : ℕ) (xs : List Record) (r : Record) → AreGoodRecords product count xs
    → IsGoodRecord product (count_behind_all count xs) r → AreGoodRecords product count (xs ++ r ∷ [])
good_push product count [] r good more = (more, tt)
good_push product count (x ∷ xs) r good more = (good.0, good_push product (count_behind count x) xs r good.1 more)

-- ---- one of true records

pub true_at : (h : History) (xs : List Record) (r : Record) (more : List Record) → AreTrueFrom h (xs ++ r ∷ more) → IsTrueAs (history_as (history_behind h xs) r.kind r.payload) r.kind r.payload
true_at h [] r more are_true = are_true.0
true_at h (x ∷ xs) r more are_true = true_at (history_as h x.kind x.payload) xs r more are_true.1

-- ---- how many messages fit

pub payload-messages : (kind : EntryKind) (payload : List ℕ) → length (messages_as kind payload) * 22 ≤ length payload
payload-messages Frames payload =
    omega (
      arith,
      frames_least (messages_of payload) (messages_of-are_frames payload),
      ap length (concat-messages_of payload),
      length-append (concat (messages_of payload)) (rest_of payload),
    )
payload-messages OldImage payload = omega arith
payload-messages Image payload = omega arith
payload-messages Amendment payload = omega arith

pub records-messages : (records : List Record) → length (messages_in records) * 22 ≤ length (flat_map open_record records)
records-messages [] = omega arith
records-messages (r ∷ records) =
    omega (
      arith,
      payload-messages r.kind r.payload,
      length-record r,
      records-messages records,
      length-append (record_messages r) (messages_in records),
      length-append (open_record r) (flat_map open_record records),
    )

-- a journal has room for fewer than a core takes
pub journal-messages : (head : Header) (limit : ℕ) (records : List Record) (image : List ℕ) → IsJournal head limit records image → limit ≤ MOST_LIMIT
    → length (messages_in records) < MOST_MESSAGES
journal-messages head limit records image journal few =
    omega (arith, records-messages records, journal.in_limit, few, length-append (header head) (flat_map open_record records))
