-- What a session keeps of the messages that it took, and what a crash leaves, in messages.
use Rattle.std.proofs.Common.{◌≡◌, ◌⊎◌, inl, inr, ⊎_elim, ℕ, ◌+◌, ◌<◌, ◌≤◌, List, [], ◌∷◌, ◌++◌, length, take, drop, Option, Some, refl, sym, ap, subst, ◌∙◌, length-append, take-append-drop, arith}
use Rattle.std.proofs.lemmas.Bool.{cases_lt}
use Rattle.std.proofs.lemmas.List.{append-nil, drop-take}
use Rattle.std.proofs.Math.Seq.{drop-append_seam}
use Rattle.std.proofs.lemmas.Option.{same_Some}
use Rattle.gx_base.specs.KnownBytes.{IsPrefix}
use Rattle.gx_base.specs.declared.event.Event.{Event}
use Rattle.gx_station.specs.Stations.{StationMeanings, IsBetween, sent_and}
use Rattle.gx_station.specs.SendLaws.{sent_and_none}
use Rattle.gx_station.specs.Honest.{IsHonestNow}
use Rattle.fix_frame.specs.Stream.{messages_of}
use Rattle.match_journal.specs.Classes.{Keeps}
use Rattle.match_journal.specs.Steps.{HoldsOne}
use Rattle.match_journal.specs.StepLaws.{adds_weaker}
use Rattle.order_kinds.specs.State.{State}
use Rattle.book_recovery.specs.Records.{IsWhole, AreWhole, messages_in}
use Rattle.book_recovery.specs.Kept.{IsStartable}
use Rattle.exec_report.specs.Forms.{LineText}
use Rattle.globex_run.specs.Outside.{SourceAt, Outside}
use Rattle.globex_run.specs.RunResult.{first_messages}
use Rattle.globex_run.specs.Headline.{Premises, KeepsNow, KeepsCounted, IsCrashPrefix, LeavesCrashPrefixes, LeftSinceEntry, IsAsAtEntry, BeforeTheFirstSync, KeepsEverySent, HasSentBehind}
use Rattle.globex_run.specs.Inner.OneHeader.{KeepsUnder}
use Rattle.globex_run.specs.Inner.Recording.{lines_from, IsRecordCrash}
use Rattle.globex_run.specs.Inner.Sessions.{IsFrontServed, SessionFrom}
use Rattle.globex_run.specs.declared.outcome.Outcome.{Outcome}
use Rattle.globex_run.specs.declared.ending.Ending.{Ending}
use Rattle.match_journal.specs.Journal.{Record, IsRecord, most_payload, Header, in_version}
use Rattle.match_journal.specs.declared.version.Version.{Version}
use Rattle.match_journal.specs.declared.limits.TheConstants.{MOST_PAYLOAD}
use Rattle.match_journal.specs.declared.entry.EntryKind.{EntryKind}
use Rattle.std.specs.List.{concat, AllByRecursion}
use Rattle.plain_book.proofs.Pairs.{all-front}
use Rattle.book_order.proofs.Each.{all-back}
use Rattle.globex_run.proofs.Folds.{messages_in-append}
use Rattle.globex_run.proofs.KeptMore.{with-none, keeps-frames}
use Rattle.globex_run.proofs.Additions.{first_served, within_served, records_joined}
use Rattle.globex_run.proofs.Told.{outside_of}
use Rattle.order_kinds.specs.Histories.{History, with_messages, state_kept}

-- ---- the messages of one record at most

-- after the first of so many there are none
none-more : (n : ℕ) (messages : List (List ℕ)) → length (concat (drop n (take n messages))) ≤ MOST_PAYLOAD
none-more n messages =
    let same : n ≡ n + 0 = omega arith in
    let none : drop n (take n messages) ≡ [] = ap (λ (k : ℕ). drop n (take k messages)) same ∙ drop-take n 0 messages in
    subst (λ (l : List (List ℕ)). length (concat l) ≤ MOST_PAYLOAD) (sym none) (omega arith)

-- the records added after others are sized as records are
sized-behind : (head : Header) (limit : ℕ) (records added : List Record) (image : List ℕ) → Keeps head limit (records ++ added) image → AllByRecursion (IsRecord head.version) added
sized-behind head limit records added image keeps = ⊎_elim
    (λ journal. all-back (IsRecord head.version) records added journal.sized)
    (λ unfinished. all-back (IsRecord head.version) records added (subst (λ (l : List Record). AllByRecursion (IsRecord head.version) l) (sym unfinished.0) tt))
    keeps

-- the messages of one whole record have no more bytes than it
few-in-one : (version : Version) (records : List Record) → length records ≤ 1 → AreWhole records → AllByRecursion (IsRecord version) records → length (concat (messages_in records)) ≤ MOST_PAYLOAD
few-in-one version [] one whole are = omega arith
few-in-one version (r ∷ []) one whole are =
    let few : length r.payload ≤ MOST_PAYLOAD = subst (λ (k : EntryKind). length r.payload ≤ most_payload k) whole.0.frames are.0.few in
    omega (arith, few, ap (λ (l : List ℕ). length l) (records_joined (r ∷ []) whole), ap (λ (l : List ℕ). length l) (append-nil r.payload))
few-in-one version (r ∷ (s ∷ records)) one whole are = absurd (omega (arith, one))

module _ {P I S : Type 0} (m : StationMeanings S) (p q : SourceAt P) (i j : SourceAt I) (old new : S) (line : LineText) (Published : List Event → Type 0) (then : State) (outcome : Outcome) where
  abbrev entry : Outside P I S
  entry = outside_of m p i old

  abbrev exit : Outside P I S
  exit = outside_of m q j new

  module _ (given : Premises m entry exit outcome.status) (taken : List ℕ) (sends : List (List ℕ) → List ℕ) where
    -- what the session came to from the image of entry
    abbrev From : Ending → Type 0
    From ending = SessionFrom m line given.product given.startable.head entry.streams exit.streams Published then given.image given.startable.records given.kept taken ending outcome.messages

    -- an image that keeps the earlier messages and then these
    abbrev KeepsAt : List (List ℕ) → List ℕ → Type 0
    KeepsAt messages left = IsStartable given.product given.text (with_messages given.kept messages) left

    -- what is sent of the messages in these records
    abbrev lines_in : List Record → List ℕ
    lines_in served = lines_from line given.product (state_kept given.kept) (messages_in served)

    -- the messages that the outcome counts
    abbrev counted : List (List ℕ)
    counted = first_messages outcome.messages taken

    -- an output on the way to what the session sends of some messages is on the way to what is sent where these are kept
    abbrev pub IsOnTheWay : Type 0
    IsOnTheWay = (served : List Record) (out : List ℕ) → IsBetween (m.sent old) out (sent_and (m.sent old) (lines_in served)) → (front : List ℕ) × IsPrefix front (sends (messages_in served)) × (Some out ≡ sent_and (m.sent old) front)

    module _ (ending : Ending) (from : From ending) where
      -- ---- the first of the records added

      module _ (served others : List Record) (parts : from.added ≡ served ++ others) where
        -- so many messages are those in the first records
        pub first : (count : ℕ) → count ≡ length (messages_in served) → first_messages count taken ≡ messages_in served
        first count is = ap (λ (n : ℕ). first_messages n taken) is ∙ first_served taken from.behind from.added served others from.whole from.are parts

        -- they are no more than were read
        pub within : length (messages_in served) ≤ length (messages_of taken)
        within = within_served taken from.behind from.added served others from.whole from.are parts

        -- an image that keeps the first records keeps their messages
        keeps_served : (messages : List (List ℕ)) → messages ≡ messages_in served → (left : List ℕ) → KeepsUnder given.startable.head.text given.product.journal_limit (given.startable.records ++ served) left → KeepsAt messages left
        keeps_served messages same left keeps =
            subst (λ (l : List (List ℕ)). IsStartable given.product given.text (with_messages given.kept l) left) (sym same)
            (keeps-frames given.product from.right given.text given.kept given.image given.startable served (all-front IsWhole served others (subst (λ (l : List Record). AreWhole l) parts from.whole)) left keeps)

        -- and so does what a read gives
        pub keeps_now : (messages : List (List ℕ)) → messages ≡ messages_in served → HoldsOne m (KeepsUnder given.startable.head.text given.product.journal_limit (given.startable.records ++ served)) new → KeepsNow m entry exit outcome given (messages_of taken) sends messages
        keeps_now messages same holds = record { image = holds.image; image_known = holds.read; keeps = keeps_served messages same holds.image holds.has }

      -- all of them are the first ones
      pub all_parts : from.added ≡ from.added ++ []
      all_parts = sym (append-nil from.added)

      -- ---- a crash

      module _ (on_way : IsOnTheWay) where
        -- in messages
        pub crash : (left out : List ℕ) → IsRecordCrash line given.product (state_kept given.kept) given.startable.head given.product.journal_limit given.startable.records from.added (length given.image) (m.sent old) left out → IsCrashPrefix m entry exit outcome given (messages_of taken) sends left out
        crash left out at =
            let served = take at.count from.added in
            let others = drop at.count from.added in
            let parts : from.added ≡ served ++ others = sym (take-append-drop at.count from.added) in
            let count = length (messages_in served) in
            let same : first_messages count taken ≡ messages_in served = first served others parts count refl in
            let front = on_way served out at.sent_is in
            record {
              count = count;
              within = within served others parts;
              keeps = keeps_served served others parts (first_messages count taken) same left at.keeps;
              no_longer = at.no_longer;
              output = front.0;
              front = subst (λ (l : List (List ℕ)). IsPrefix front.0 (sends l)) (sym same) front.1;
              sent = front.2;
            }

        -- at every moment of the session
        pub every-moment : LeavesCrashPrefixes m entry exit outcome given (messages_of taken) sends
        every-moment = adds_weaker m old new _ _ (λ h left out at. crash left out at) from.adds

    -- ---- since entry

    module _ (nothing : IsPrefix [] (sends [])) (moments : LeavesCrashPrefixes m entry exit outcome given (messages_of taken) sends) (now : IsHonestNow m old) where
      -- what a crash since entry leaves
      since-entry : (left out : List ℕ) → LeftSinceEntry m entry exit outcome given (messages_of taken) sends left out → IsAsAtEntry m entry exit outcome given (messages_of taken) sends left out ⊎ IsCrashPrefix m entry exit outcome given (messages_of taken) sends left out
      since-entry left out since =
          ⊎_elim
          (λ early. let at = now.only_now left out early in inl (record { image = at.0; output = at.1 }))
          (λ here. inr here)
          (moments.adds given.honest (m.time old) left out (omega arith) since)

      -- the image of entry, and its output
      at-entry : (left out : List ℕ) → m.holds old ≡ Some left → m.sent old ≡ Some out → IsCrashPrefix m entry exit outcome given (messages_of taken) sends left out
      at-entry left out read sent =
          let same : given.image ≡ left = same_Some given.image left (sym given.image_known ∙ read) in
          record {
            count = 0;
            within = omega arith;
            keeps = subst (λ (h : History). IsStartable given.product given.text h left) (sym (with-none given.kept)) (subst (λ (l : List ℕ). IsStartable given.product given.text given.kept l) same given.startable);
            no_longer = omega (arith, ap (λ (l : List ℕ). length l) same);
            output = [];
            front = nothing;
            sent = sym sent ∙ sym (sent_and_none (m.sent old));
          }

      -- before the first sync
      pub first-sync : BeforeTheFirstSync m entry exit outcome given (messages_of taken) sends
      first-sync = record {
        pairs = since-entry;
        settled = λ settled left out since. ⊎_elim (λ early. at-entry left out (settled left early.image) early.output) (λ here. here) (since-entry left out since);
      }

      -- ---- with every message, where more is sent of more messages

      module _ (grows : (a b : ℕ) → a ≤ b → length (sends (first_messages a taken)) ≤ length (sends (first_messages b taken))) where
        -- nothing is sent of a message before the image keeps it
        reported : (n : ℕ) (left out : List ℕ) → HasSentBehind m entry exit outcome given (messages_of taken) sends n out → (at : IsCrashPrefix m entry exit outcome given (messages_of taken) sends left out) → n < at.count
        reported n left out behind at =
            elim (cases_lt n at.count) [
              | inl lt ↦ lt
              | inr le ↦
                  let is : out ≡ behind.output ++ at.output = same_Some out (behind.output ++ at.output) (at.sent ∙ ap (λ (s : Option (List ℕ)). sent_and s at.output) behind.output_known) in
                  let total : length out ≡ length (behind.output ++ at.output) = ap (λ (l : List ℕ). length l) is in
                  let part : length (sends (first_messages at.count taken)) ≡ length (at.output ++ at.front.rest) = ap (λ (l : List ℕ). length l) at.front.is in
                  let fewer = grows at.count n le in
                  absurd (omega (arith, behind.longer, total, part, fewer, length-append behind.output at.output, length-append at.output at.front.rest))
            ]

        -- at entry nothing of them was sent
        unsent : (n : ℕ) (left out : List ℕ) → HasSentBehind m entry exit outcome given (messages_of taken) sends n out → IsAsAtEntry m entry exit outcome given (messages_of taken) sends left out → ⊥
        unsent n left out behind at =
            let same : behind.output ≡ out = same_Some behind.output out (sym behind.output_known ∙ at.output) in
            absurd (omega (arith, behind.longer, ap (λ (l : List ℕ). length l) same))

        -- each message of which something was sent is kept
        pub every-message : KeepsEverySent m entry exit outcome given (messages_of taken) sends
        every-message left out since n behind =
            elim (since-entry left out since) [
              | inl early ↦ absurd (unsent n left out behind early)
              | inr at ↦ (at.count, reported n left out behind at, at.within, at.keeps)
            ]

    -- ---- which messages are kept

    -- all that were counted are kept
    pub keeps-counted : (ending : Ending) (from : From ending) → outcome.messages ≤ length (messages_of taken) → KeepsNow m entry exit outcome given (messages_of taken) sends counted → KeepsCounted m entry exit outcome given (messages_of taken) sends
    keeps-counted ending from some keeps = record { some = some; keeps = λ other. keeps; keeps_more = λ five. record { count = outcome.messages; counted = omega arith; within = some; keeps = keeps; one_record = none-more outcome.messages (messages_of taken) } }

    -- at a failed append the last record may be kept
    pub keeps-front : (ending : Ending) (from : From ending) → outcome.status ≡ 5 → outcome.messages ≤ length (messages_of taken) → IsFrontServed m line given.product given.startable.head entry.streams exit.streams given.startable.records given.kept from.added outcome.messages → KeepsCounted m entry exit outcome given (messages_of taken) sends
    keeps-front ending from five some front =
        let served = front.served in
        let others = front.others in
        let same : counted ≡ messages_in served = first ending from served others front.are outcome.messages front.messages in
        let all = length (messages_in from.added) in
        let whole : first_messages all taken ≡ messages_in from.added = first ending from from.added [] (all_parts ending from) all refl in
        let more : length (messages_in from.added) ≡ length (messages_in served ++ messages_in others) = ap (λ (l : List (List ℕ)). length l) (ap messages_in front.are ∙ messages_in-append served others) in
        record {
          some = some;
          keeps = λ other. absurd (other five);
          keeps_more = λ here.
              elim front.keeps [
                | inl few ↦ record {
                  count = outcome.messages;
                  counted = omega arith;
                  within = some;
                  keeps = keeps_now ending from served others front.are counted same few;
                  one_record = none-more outcome.messages (messages_of taken);
                }
                | inr entire ↦ record {
                  count = all;
                  counted = omega (arith, more, front.messages, length-append (messages_in served) (messages_in others));
                  within = within ending from from.added [] (all_parts ending from);
                  keeps = keeps_now ending from from.added [] (all_parts ending from) (first_messages all taken) whole entire;
                  one_record =
                      subst (λ (l : List (List ℕ)). length (concat (drop outcome.messages l)) ≤ MOST_PAYLOAD)
                      (sym (whole ∙ ap messages_in front.are ∙ messages_in-append served others))
                      (subst (λ (l : List (List ℕ)). length (concat l) ≤ MOST_PAYLOAD)
                      (sym (ap (λ (n : ℕ). drop n (messages_in served ++ messages_in others)) front.messages ∙ drop-append_seam (messages_in served) (messages_in others)))
                      (few-in-one entire.has.0 others front.one
                      (all-back IsWhole served others (subst (λ (l : List Record). AreWhole l) front.are from.whole))
                      (all-back (IsRecord entire.has.0) served others (subst (λ (l : List Record). AllByRecursion (IsRecord entire.has.0) l) front.are
                      (sized-behind (in_version entire.has.0 given.startable.head.text) given.product.journal_limit given.startable.records from.added entire.image entire.has.1)))));
                }
              ];
        }
