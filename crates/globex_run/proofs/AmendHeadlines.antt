-- What is said of an amendment, from what it came to.
use Rattle.std.proofs.Common.{◌≡◌, ◌≢◌, ◌==◌, ◌||◌, ◌⊎◌, inl, inr, ⊎_elim, ℕ, ◌≤◌, max, List, [], ◌∷◌, ◌++◌, length, Bool, true, false, Option, Some, Result, Ok, Err, refl, sym, ap, subst, ◌∙◌, arith}
use Prim.Native.Nat.{zero, suc}
use Rattle.std.proofs.lemmas.Option.{same_Some}
use Rattle.gx_station.specs.Stations.{StationMeanings}
use Rattle.gx_station.specs.SendLaws.{sent_and_none}
use Rattle.gx_station.specs.Honest.{IsHonestNow}
use Rattle.product_file.specs.Products.{ProductLists}
use Rattle.product_file.specs.ProductTexts.{product_of}
use Rattle.product_file.specs.Amendments.{may_follow}
use Rattle.match_journal.specs.Classes.{IsBlank, IsUnfinished}
use Rattle.match_journal.specs.Journal.{Header, IsJournal, in_version}
use Rattle.match_journal.specs.Steps.{HoldsOne}
use Rattle.match_journal.specs.StepLaws.{adds_weaker}
use Rattle.match_journal.specs.declared.version.Version.TheVariants.{Second}
use Rattle.order_kinds.specs.Histories.{History, of_product}
use Rattle.book_recovery.specs.Kept.{IsStartable}
use Rattle.book_recovery.proofs.Histories.{one-product}
use Rattle.command_words.specs.declared.command.Command.{Command}
use Rattle.command_words.specs.declared.command.Command.TheVariants.{Amend}
use Rattle.globex_run.specs.Calls.{Call}
use Rattle.globex_run.specs.Outside.{SourceAt, Streams, Outside, IsQuiet, station_at}
use Rattle.globex_run.specs.Outcomes.{is_outcome}
use Rattle.globex_run.specs.Amends.{AmendStart, AmendPremises, CanFollow, KeepsOld, KeepsNew, KeepsStep, Amends, AmendsNot, HasNoRoomForAmendment, CanBeAmended, amend_work, record_added, history_amended, IsRefusedForAmend}
use Rattle.globex_run.specs.Memory.{StopsAtProducts}
use Rattle.globex_run.specs.Reopening.{IsTextLeft}
use Rattle.globex_run.specs.Steps.{IsFront, LeavesFronts, LeavesEntryOrFronts, LeftSinceEntry, IsOfEntry}
use Rattle.globex_run.specs.Inner.Amending.{AnswersAmend, AmendFrom, EndsAmend, IsAmendCrash, KeepsEither, AmendResult, outcome_amended}
use Rattle.globex_run.specs.Inner.Executing.{HasCauses}
use Rattle.globex_run.specs.Inner.OneHeader.{KeepsUnder}
use Rattle.globex_run.specs.declared.outcome.Outcome.{Outcome}
use Rattle.globex_run.specs.declared.unamended.Unamended.{Unamended}
use Rattle.globex_run.specs.declared.unamended.Unamended.TheVariants as unamended
use Rattle.journal_print.specs.ReadingLaws.{reading_only}
use Rattle.globex_run.proofs.AmendRefused.{wide, startable-widely, can-fits, fits-not-refused}
use Rattle.globex_run.proofs.AmendedKept.{keeps-amendment, follows-kept}
use Rattle.globex_run.proofs.KeptMore.{keeps-same}
use Rattle.globex_run.proofs.LastTexts.{first-last, last-of-none}
use Rattle.globex_run.proofs.Told.{outside_of}

-- ---- what the outcome tells of faults

-- the statuses of `amend`, once its product was taken
abbrev is_of_amend : ℕ → Bool
is_of_amend n = (n == 0) || (n == 1) || (n == 5) || (n == 9) || (n == 10) || (n == 11) || (n == 12) || (n == 13)

module _ {I S : Type 0} (m : StationMeanings S) (product : ProductLists) (text : List ℕ) (source : SourceAt I) (old new : S) (outcome : Outcome)
    (did : AmendResult m product text old new outcome) where
  abbrev was : Streams I S
  was = record { input = source; station = station_at m old }

  abbrev now : Streams I S
  now = record { input = source; station = station_at m new }

  abbrev Causes : Type 0
  Causes = HasCauses m product text was now outcome Amend

  abbrev answered : Unamended → Result ℕ Unamended
  answered why = Err why

  -- ---- the status, and the count

  status-by : (answer : Result ℕ Unamended) → outcome ≡ outcome_amended answer → is_of_amend outcome.status ≡ true
  status-by (Ok count) is = ap (λ (o : Outcome). is_of_amend o.status) is
  status-by (Err unamended.NoMemory) is = ap (λ (o : Outcome). is_of_amend o.status) is
  status-by (Err unamended.Store) is = ap (λ (o : Outcome). is_of_amend o.status) is
  status-by (Err (unamended.NotAJournal at)) is = ap (λ (o : Outcome). is_of_amend o.status) is
  status-by (Err (unamended.Bad at)) is = ap (λ (o : Outcome). is_of_amend o.status) is
  status-by (Err (unamended.ProductDiffers at)) is = ap (λ (o : Outcome). is_of_amend o.status) is
  status-by (Err (unamended.Full at)) is = ap (λ (o : Outcome). is_of_amend o.status) is
  status-by (Err (unamended.NotAmendable at)) is = ap (λ (o : Outcome). is_of_amend o.status) is

  other-status : (k : ℕ) → is_of_amend k ≡ false → outcome.status ≡ k → ⊥
  other-status k off e = let on : is_of_amend k ≡ true = subst (λ (n : ℕ). is_of_amend n ≡ true) e (status-by did.answer did.is) in cc (off, on)

  -- 13 is the highest
  low-by : (answer : Result ℕ Unamended) → outcome ≡ outcome_amended answer → outcome.status ≤ 13
  low-by (Ok count) is = omega (arith, ap (λ (o : Outcome). o.status) is)
  low-by (Err unamended.NoMemory) is = omega (arith, ap (λ (o : Outcome). o.status) is)
  low-by (Err unamended.Store) is = omega (arith, ap (λ (o : Outcome). o.status) is)
  low-by (Err (unamended.NotAJournal at)) is = omega (arith, ap (λ (o : Outcome). o.status) is)
  low-by (Err (unamended.Bad at)) is = omega (arith, ap (λ (o : Outcome). o.status) is)
  low-by (Err (unamended.ProductDiffers at)) is = omega (arith, ap (λ (o : Outcome). o.status) is)
  low-by (Err (unamended.Full at)) is = omega (arith, ap (λ (o : Outcome). o.status) is)
  low-by (Err (unamended.NotAmendable at)) is = omega (arith, ap (λ (o : Outcome). o.status) is)

  -- nothing is sent, and no message read
  pub amend-statuses : (outcome.status ≡ 6) ⊎ ((outcome.status ≡ 7) ⊎ ((outcome.status ≡ 8) ⊎ (14 ≤ outcome.status))) → ⊥
  amend-statuses never =
      let low = low-by did.answer did.is in
      ⊎_elim (other-status 6 refl) (λ more. ⊎_elim (other-status 7 refl) (λ more. ⊎_elim (other-status 8 refl) (λ high. omega (arith, high, low)) more) more) never

  count-by : (answer : Result ℕ Unamended) → outcome ≡ outcome_amended answer → outcome.status ≢ 0 → outcome.messages ≡ 0
  count-by (Ok count) is other = absurd (other (ap (λ (o : Outcome). o.status) is))
  count-by (Err unamended.NoMemory) is other = ap (λ (o : Outcome). o.messages) is
  count-by (Err unamended.Store) is other = ap (λ (o : Outcome). o.messages) is
  count-by (Err (unamended.NotAJournal at)) is other = ap (λ (o : Outcome). o.messages) is
  count-by (Err (unamended.Bad at)) is other = ap (λ (o : Outcome). o.messages) is
  count-by (Err (unamended.ProductDiffers at)) is other = ap (λ (o : Outcome). o.messages) is
  count-by (Err (unamended.Full at)) is other = ap (λ (o : Outcome). o.messages) is
  count-by (Err (unamended.NotAmendable at)) is other = ap (λ (o : Outcome). o.messages) is

  -- messages are counted at status 0 alone
  pub amend-counts : outcome.status ≢ 0 → outcome.messages ≡ 0
  amend-counts other = count-by did.answer did.is other

  -- ---- the faults

  -- by an answer with this status: 1 is that of want of memory alone, and 5 of a failed call on the store
  causes-at : (answer : Result ℕ Unamended) → did.answer ≡ answer → is_outcome outcome ≡ true → (n : ℕ) → outcome.status ≡ n
      → (n ≡ 1 → answer ≡ answered unamended.NoMemory) → (n ≡ 5 → answer ≡ answered unamended.Store) → (answer ≡ answered unamended.Store → n ≡ 5) → Causes
  causes-at answer same placed n status lacks store stored = record {
    right = did.right;
    outcome_is = placed;
    words = other-status 2 refl;
    product_right = other-status 3 refl;
    memory = λ e. (inr (tt, stops (same ∙ lacks (sym status ∙ e))), amend-counts (λ none. omega (arith, e, none)));
    memory_reads = λ e. reading_only m old new (did.did.memory (same ∙ lacks (sym status ∙ e)));
    read = λ e. absurd (other-status 4 refl e);
    no_read = λ no. refl;
    store = λ e. did.did.store (same ∙ store (sym status ∙ e));
    no_store = λ no. did.did.no_store (λ failed. no (status ∙ stored (sym same ∙ failed)));
    send = λ e. absurd (other-status 6 refl e);
    no_send = λ no. did.did.silent.send_faults;
    frames = λ either. absurd (⊎_elim (other-status 7 refl) (other-status 8 refl) either);
  }
    where
      -- the product of another text found no memory
      stops : did.answer ≡ answered unamended.NoMemory → StopsAtProducts m was now Amend product text
      stops lacked = record {
        input = refl;
        reads = did.did.memory lacked;
        has = λ image known. subst (λ (r : Result ℕ Unamended). AnswersAmend product text image r) lacked (did.did.answers image known);
      }

  causes-by : (answer : Result ℕ Unamended) → did.answer ≡ answer → outcome ≡ outcome_amended answer → outcome.status ≡ (outcome_amended answer).status → Causes
  causes-by (Ok count) same is status = causes-at (Ok count) same (ap is_outcome is) 0 status (λ e. cc e) (λ e. cc e) (λ e. cc e)
  causes-by (Err unamended.NoMemory) same is status = causes-at (Err unamended.NoMemory) same (ap is_outcome is) 1 status (λ e. refl) (λ e. cc e) (λ e. cc e)
  causes-by (Err unamended.Store) same is status = causes-at (Err unamended.Store) same (ap is_outcome is) 5 status (λ e. cc e) (λ e. refl) (λ e. refl)
  causes-by (Err (unamended.NotAJournal at)) same is status =
      causes-at (Err (unamended.NotAJournal at)) same (ap is_outcome is) 9 status (λ e. cc e) (λ e. cc e) (λ e. cc e)
  causes-by (Err (unamended.Bad at)) same is status =
      causes-at (Err (unamended.Bad at)) same (ap is_outcome is) 10 status (λ e. cc e) (λ e. cc e) (λ e. cc e)
  causes-by (Err (unamended.ProductDiffers at)) same is status =
      causes-at (Err (unamended.ProductDiffers at)) same (ap is_outcome is) 11 status (λ e. cc e) (λ e. cc e) (λ e. cc e)
  causes-by (Err (unamended.Full at)) same is status =
      causes-at (Err (unamended.Full at)) same (ap is_outcome is) 12 status (λ e. cc e) (λ e. cc e) (λ e. cc e)
  causes-by (Err (unamended.NotAmendable at)) same is status =
      causes-at (Err (unamended.NotAmendable at)) same (ap is_outcome is) 13 status (λ e. cc e) (λ e. cc e) (λ e. cc e)

  pub amend-causes : Causes
  amend-causes = causes-by did.answer refl did.is (ap (λ (o : Outcome). o.status) did.is)

-- ---- under the premises

module _ {P I S : Type 0} (m : StationMeanings S) (p q : SourceAt P) (i j : SourceAt I) (old new : S) (outcome : Outcome) where
  abbrev entry : Outside P I S
  entry = outside_of m p i old

  abbrev exit : Outside P I S
  exit = outside_of m q j new

  module _ (start : AmendStart m entry) (did : AmendResult m start.product start.text old new outcome) where
    abbrev From : Result ℕ Unamended → Type 0
    From answer = AmendFrom m start.product start.text old new start.image start.kept_text start.kept_product start.kept start.startable answer

    from : From did.answer
    from = did.did.from start.image start.kept_text start.kept_product start.kept start.honest start.image_known start.kept_gives start.startable start.blank

    abbrev Ends : Result ℕ Unamended → Type 0
    Ends answer = EndsAmend m start.product start.text old new start.image start.kept_text start.kept_product start.kept start.startable answer

    abbrev Either : List ℕ → Type 0
    Either left = KeepsEither m start.product start.text old new start.image start.kept_text start.kept_product start.kept start.startable left

    -- the same records keep the same history
    old-kept : (left : List ℕ) → KeepsUnder start.startable.head.text start.kept_product.journal_limit start.startable.records left → KeepsOld start left
    old-kept left keeps = keeps-same start.kept_product start.kept_text start.kept start.image start.startable left keeps

    -- the product of the image is the one that may be followed
    may : CanFollow start.product start.text start.image → may_follow start.kept_product start.product ≡ Ok tt
    may can =
        (follows-kept start.product start.text start.kept_product start.kept_text start.kept start.image start.kept_gives
        (startable-widely start.image start.kept_text start.kept_product start.kept_gives start.kept start.startable) can).0

    -- with the amendment they keep the new one
    new-kept : (left : List ℕ) → CanFollow start.product start.text start.image
        → IsJournal start.startable.head start.product.journal_limit (start.startable.records ++ record_added start ∷ []) left → KeepsNew start left
    new-kept left can journal =
        keeps-amendment start.text start.product start.gives start.kept start.kept_product start.kept_text start.kept_gives (may can) start.image start.startable left journal

    either-kept : (left : List ℕ) → Either left → KeepsOld start left ⊎ KeepsNew start left
    either-kept left keeps = ⊎_elim (λ before. inl (old-kept left before)) (λ after. inr (new-kept left after.0.0 after.1)) keeps

    -- ---- a crash

    module _ (asked : Option Command) where
      abbrev the-call : Call P I S
      the-call = record { station = m; asked = asked; before = entry; after = exit; outcome = outcome }

      abbrev AtFront : List ℕ → List ℕ → Type 0
      AtFront left out = IsFront the-call (amend_work start) left out

      -- nothing is sent of any step
      front : (n : ℕ) → n ≤ 1 → (left out : List ℕ) → KeepsStep start n left → length left ≤ max (length start.image) start.product.journal_limit → m.sent old ≡ Some out → AtFront left out
      front n within left out keeps few sent = record {
        count = n;
        within = within;
        keeps = keeps;
        no_longer = few;
        output = [];
        front = record { rest = []; is = refl };
        sent = sym sent ∙ sym (sent_and_none (m.sent old));
      }

      crash : (left out : List ℕ) → IsAmendCrash m start.product start.text old new start.image start.kept_text start.kept_product start.kept start.startable left out → AtFront left out
      crash left out here = ⊎_elim
          (λ before. front 0 (omega arith) left out before here.no_longer here.sent)
          (λ after. front 1 (omega arith) left out after here.no_longer here.sent)
          (either-kept left here.keeps)

      pub amend-every-moment : LeavesFronts the-call (amend_work start)
      amend-every-moment = adds_weaker m old new _ _ (λ h left out here. crash left out here) from.moments

      -- the image of entry, and its output
      at-entry : (left out : List ℕ) → m.holds old ≡ Some left → m.sent old ≡ Some out → AtFront left out
      at-entry left out read sent =
          let same : start.image ≡ left = same_Some start.image left (sym start.image_known ∙ read) in
          front 0 (omega arith) left out (subst (λ (l : List ℕ). KeepsOld start l) same start.startable) (omega (arith, ap (λ (l : List ℕ). length l) same)) sent

      since-entry : IsHonestNow m old → (left out : List ℕ) → LeftSinceEntry the-call (amend_work start) left out → IsOfEntry the-call (amend_work start) left out ⊎ AtFront left out
      since-entry now left out since = ⊎_elim
          (λ early. let at = now.only_now left out early in inl (record { image = at.0; output = at.1 }))
          (λ here. inr here)
          (amend-every-moment.adds start.honest (m.time old) left out (omega arith) since)

      pub amend-first-sync : IsHonestNow m old → LeavesEntryOrFronts the-call (amend_work start)
      amend-first-sync now = record {
        pairs = λ left out since. since-entry now left out since;
        settled = λ settled left out since.
            ⊎_elim (λ early. at-entry left out (settled left early.image) early.output) (λ here. here) (since-entry now left out since);
      }

  -- ---- the ends

  module _ (given : AmendPremises m entry exit outcome.status) (did : AmendResult m given.start.product given.start.text old new outcome) where
    abbrev start : AmendStart m entry
    start = given.start

    kept-by : (image : List ℕ) → KeepsUnder start.startable.head.text start.kept_product.journal_limit start.startable.records image → KeepsOld start image
    kept-by image keeps = old-kept start did image keeps

    -- status 0
    does : (answer : Result ℕ Unamended) → outcome ≡ outcome_amended answer → outcome.status ≡ 0 → Ends start did answer → Amends m entry exit outcome given
    does (Ok count) is none ends = record {
      did = ⊎_elim
          (λ same. inl (record {
            same = same.0;
            image = same.1.image;
            image_known = same.1.read;
            keeps = kept-by same.1.image same.1.has;
            unwritten = same.2;
          }))
          (λ added. inr (record {
            other = added.0.1;
            image = added.1.image;
            image_known = added.1.read;
            keeps = new-kept start did added.1.image added.0.0 added.1.has;
            journal = added.1.has;
          }))
          ends.0;
      count = ap (λ (o : Outcome). o.messages) is ∙ ends.1;
    }
    does (Err unamended.NoMemory) is none ends = absurd (omega (arith, none, ap (λ (o : Outcome). o.status) is))
    does (Err unamended.Store) is none ends = absurd (omega (arith, none, ap (λ (o : Outcome). o.status) is))
    does (Err (unamended.NotAJournal at)) is none ends = absurd (omega (arith, none, ap (λ (o : Outcome). o.status) is))
    does (Err (unamended.Bad at)) is none ends = absurd (omega (arith, none, ap (λ (o : Outcome). o.status) is))
    does (Err (unamended.ProductDiffers at)) is none ends = absurd (omega (arith, none, ap (λ (o : Outcome). o.status) is))
    does (Err (unamended.Full at)) is none ends = absurd (omega (arith, none, ap (λ (o : Outcome). o.status) is))
    does (Err (unamended.NotAmendable at)) is none ends = absurd (omega (arith, none, ap (λ (o : Outcome). o.status) is))

    pub amend-does : outcome.status ≡ 0 → Amends m entry exit outcome given
    amend-does none = does did.answer did.is none (from start did).ends

    -- any other
    abbrev HoldsBefore : Type 0
    HoldsBefore = HoldsOne m (KeepsUnder start.startable.head.text start.kept_product.journal_limit start.startable.records) new

    left-as-was : HoldsBefore → AmendsNot m entry exit outcome given
    left-as-was holds = record { image = holds.image; image_known = holds.read; keeps = inl (kept-by holds.image holds.has) }

    ends-by : (answer : Result ℕ Unamended) → outcome ≡ outcome_amended answer → outcome.status ≢ 0 → Ends start did answer → AmendsNot m entry exit outcome given
    ends-by (Ok count) is other ends = absurd (other (ap (λ (o : Outcome). o.status) is))
    ends-by (Err unamended.NoMemory) is other ends = left-as-was ends
    ends-by (Err unamended.Store) is other ends = record {
      image = ends.image;
      image_known = ends.read;
      keeps = ⊎_elim (λ before. inl before) (λ after. inr (ap (λ (o : Outcome). o.status) is, after)) (either-kept start did ends.image ends.has);
    }
    ends-by (Err (unamended.NotAJournal at)) is other ends = left-as-was ends
    ends-by (Err (unamended.Bad at)) is other ends = left-as-was ends
    ends-by (Err (unamended.ProductDiffers at)) is other ends = left-as-was ends
    ends-by (Err (unamended.Full at)) is other ends = left-as-was ends.1
    ends-by (Err (unamended.NotAmendable at)) is other ends = left-as-was ends

    pub amend-ends : outcome.status ≢ 0 → AmendsNot m entry exit outcome given
    amend-ends other = ends-by did.answer did.is other (from start did).ends

    -- 12
    full-by : (answer : Result ℕ Unamended) → outcome ≡ outcome_amended answer → outcome.status ≡ 12 → Ends start did answer → HasNoRoomForAmendment m entry exit outcome given
    full-by (Ok count) is twelve ends = absurd (omega (arith, twelve, ap (λ (o : Outcome). o.status) is))
    full-by (Err unamended.NoMemory) is twelve ends = absurd (omega (arith, twelve, ap (λ (o : Outcome). o.status) is))
    full-by (Err unamended.Store) is twelve ends = absurd (omega (arith, twelve, ap (λ (o : Outcome). o.status) is))
    full-by (Err (unamended.NotAJournal at)) is twelve ends = absurd (omega (arith, twelve, ap (λ (o : Outcome). o.status) is))
    full-by (Err (unamended.Bad at)) is twelve ends = absurd (omega (arith, twelve, ap (λ (o : Outcome). o.status) is))
    full-by (Err (unamended.ProductDiffers at)) is twelve ends = absurd (omega (arith, twelve, ap (λ (o : Outcome). o.status) is))
    full-by (Err (unamended.NotAmendable at)) is twelve ends = absurd (omega (arith, twelve, ap (λ (o : Outcome). o.status) is))
    full-by (Err (unamended.Full at)) is twelve ends =
        let place : outcome.at ≡ at = ap (λ (o : Outcome). o.at) is in
        record {
          other = ends.0.other;
          place = place ∙ ends.0.place_is;
          too_long = omega (arith, ends.0.too_long, ends.0.place_is);
        }

    pub amend-full : outcome.status ≡ 12 → HasNoRoomForAmendment m entry exit outcome given
    amend-full twelve = full-by did.answer did.is twelve (from start did).ends

  -- ---- where it can be done

  module _ (can : CanBeAmended m entry) (quiet : IsQuiet entry exit) (did : AmendResult m can.start.product can.start.text old new outcome) where
    never : (s a : ℕ) → IsRefusedForAmend can.start.product can.start.text can.start.image s a → ⊥
    never s a refused = fits-not-refused can.start.product can.start.text can.start.image (can-fits m entry can) s a refused

    done-by : (answer : Result ℕ Unamended) → did.answer ≡ answer → outcome ≡ outcome_amended answer → AnswersAmend can.start.product can.start.text can.start.image answer
        → Ends can.start did answer → (outcome.status ≡ 1) ⊎ (outcome.status ≡ 0)
    done-by (Ok count) same is was ends = inr (ap (λ (o : Outcome). o.status) is)
    done-by (Err unamended.NoMemory) same is was ends = inl (ap (λ (o : Outcome). o.status) is)
    done-by (Err unamended.Store) same is was ends = absurd (quiet.store (did.did.store same))
    done-by (Err (unamended.NotAJournal at)) same is was ends = absurd (never 9 at (inl (refl, was)))
    done-by (Err (unamended.Bad at)) same is was ends = absurd (never 10 at (inr (inl (refl, was))))
    done-by (Err (unamended.ProductDiffers at)) same is was ends = absurd (never 11 at (inr (inr (inl (refl, was)))))
    done-by (Err (unamended.NotAmendable at)) same is was ends = absurd (never 13 at (inr (inr (inr (refl, was)))))
    done-by (Err (unamended.Full at)) same is was ends = absurd (omega (arith, ends.0.too_long, ends.0.place_is, can.room ends.0.other))

    pub amend-done : (outcome.status ≡ 1) ⊎ (outcome.status ≡ 0)
    amend-done = done-by did.answer refl did.is (did.did.answers can.start.image can.start.image_known) (from can.start did).ends

-- ---- what a crash leaves, opened again

-- An image that keeps a history under some text keeps one under its last text; a blank image under any text.
module _ (given text left : List ℕ) (product : ProductLists) (gives : product_of text ≡ Ok product) (is_left : IsTextLeft given text left) where
  abbrev Reopens : Type 0
  Reopens = (later : History) × IsStartable product text later left

  -- a blank image keeps no message, whatever the text
  blank-reopens : IsBlank left → (head : Header) → IsUnfinished head left → Reopens
  blank-reopens blank head unfinished = (
    of_product product [],
    record {
      head = in_version Second text;
      records = [];
      keeps = inr (refl, record { unfinished = inl (blank, refl); few = unfinished.few });
      last = first-last (in_version Second text);
      first = product;
      gives = gives;
      good = tt;
      are_true = tt;
      are = refl;
    },
  )

  module _ (kept_text : List ℕ) (kept_product : ProductLists) (kept_gives : product_of kept_text ≡ Ok kept_product) (kept : History) (start : IsStartable kept_product kept_text kept left) where
    -- under the same text it is the same
    same-reopens : kept_text ≡ text → Reopens
    same-reopens same =
        let product_same = one-product kept_product product text (ap product_of (sym same) ∙ kept_gives) gives in
        (kept, subst (λ (p : ProductLists). IsStartable p text kept left) product_same (subst (λ (t : List ℕ). IsStartable kept_product t kept left) same start))

    pub amend-reopens : Reopens
    amend-reopens = elim (wide left kept_text kept_product kept_gives kept start) [
      | inl journal ↦ same-reopens (sym start.last.is ∙ (is_left.journal start.head start.records journal).is)
      | inr unfinished ↦ ⊎_elim
          (λ blank. blank-reopens blank.0 start.head unfinished.1)
          (λ sealed. same-reopens (sym (last-of-none start.head kept_text start.records unfinished.0 start.last) ∙ is_left.sealed start.head sealed))
          unfinished.1.unfinished
    ]

-- so does what is kept after a step of an amendment
module _ {P I S : Type 0} {m : StationMeanings S} {before : Outside P I S} (start : AmendStart m before) (given text left : List ℕ) (product : ProductLists) (gives : product_of text ≡ Ok product) (is_left : IsTextLeft given text left) where
  pub amend-step-reopens : (n : ℕ) → KeepsStep start n left → (later : History) × IsStartable product text later left
  amend-step-reopens zero keeps = amend-reopens given text left product gives is_left start.kept_text start.kept_product start.kept_gives start.kept keeps
  amend-step-reopens (suc n) keeps = amend-reopens given text left product gives is_left start.text start.product start.gives (history_amended start) keeps
