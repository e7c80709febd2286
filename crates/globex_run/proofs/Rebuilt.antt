-- What a call of `rebuild` comes to: its statuses, the causes of its faults, and that it ends by the input alone.
use Rattle.std.proofs.Common.{◌≡◌, ◌≢◌, ◌==◌, ◌||◌, ⊎_elim, ℕ, ◌≤◌, Bool, true, false, List, Some, Result, Ok, Err, refl, sym, ap, subst, ◌∙◌, arith}
use Rattle.std.proofs.lemmas.Bool.Decides.{nat_tests}
use Rattle.gx_station.specs.Counts.{Rose, HasCause}
use Rattle.gx_station.specs.Stations.{StationMeanings}
use Rattle.product_file.specs.Products.{ProductLists, IsRightProduct}
use Rattle.exec_report.specs.declared.texts.SendFault.{SendFault as SendFailed}
use Rattle.level_feed.specs.Lines.{listing_of}
use Rattle.level_feed.specs.Tables.{Table}
use Rattle.level_feed.specs.declared.fault.FeedFault.{FeedFault}
use Rattle.level_feed.specs.declared.fault.FeedFault.TheVariants.{Form, Gap, Full}
use Rattle.feed_reader.specs.Feeds.{HasReadCause}
use Rattle.feed_reader.specs.declared.unread.Unread.{Unread}
use Rattle.feed_reader.specs.declared.unread.Unread.TheVariants as unread
use Rattle.feed_reader.proofs.WholeFeeds.{read-whole}
use Rattle.command_words.specs.declared.command.Command.TheVariants.{Rebuild}
use Rattle.globex_run.specs.Outside.{Streams}
use Rattle.globex_run.specs.Outcomes.{is_outcome}
use Rattle.globex_run.specs.Words.{NeverEndsWith}
use Rattle.globex_run.specs.Refusals.{IsRefusal}
use Rattle.globex_run.specs.RunResult.{TakesInput}
use Rattle.globex_run.specs.Rebuilding.{outcome_unread, outcome_rebuilt, SendsByFeed, RebuildsLevels, feed_status, IsRebuilt}
use Rattle.globex_run.specs.Inner.Executing.{HasCauses, IsExecuted}
use Rattle.globex_run.specs.Inner.Rebuilt.{SentWithCause, RebuildsWithCause}
use Rattle.globex_run.specs.declared.outcome.Outcome.{Outcome}
use Rattle.globex_run.proofs.Executed.{only-printed}
use Rattle.globex_run.proofs.Told.{left_parts}

-- ---- its statuses

abbrev is_of_rebuild : ℕ → Bool
is_of_rebuild n = (n == 0) || (n == 4) || (n == 6) || (n == 8) || (n == 12) || (n == 14) || (n == 15) || (n == 16) || (n == 17)

-- one of them, and a place only where it speaks of one
record IsOfRebuild (o : Outcome) : Type 0 where
  status : is_of_rebuild o.status ≡ true
  placed : is_outcome o ≡ true

of-fault : (at : ℕ) (fault : FeedFault) → IsOfRebuild (outcome_unread (unread.Broken at fault))
of-fault at Form = record { status = refl; placed = refl }
of-fault at (Gap last number) = record { status = refl; placed = refl }
of-fault at Full = record { status = refl; placed = refl }

of-unread : (why : Unread) → IsOfRebuild (outcome_unread why)
of-unread (unread.ReadFault at) = record { status = refl; placed = refl }
of-unread (unread.Broken at fault) = of-fault at fault
of-unread (unread.Cut at) = record { status = refl; placed = refl }
of-unread unread.NoSnapshot = record { status = refl; placed = refl }
of-unread unread.TooLong = record { status = refl; placed = refl }

of-rebuilt : (number : ℕ) (result : Result (Unit {0}) SendFailed) → IsOfRebuild (outcome_rebuilt number result)
of-rebuilt number (Ok t) = record { status = refl; placed = refl }
of-rebuilt number (Err fault) = record { status = refl; placed = refl }

-- a status that is none of them
off : (n k : ℕ) → is_of_rebuild n ≡ true → is_of_rebuild k ≡ false → n ≡ k → ⊥
off n k told none is = let on : is_of_rebuild k ≡ true = subst (λ (x : ℕ). is_of_rebuild x ≡ true) is told in cc (on, none)

between : (n : ℕ) → is_of_rebuild n ≡ true → 9 ≤ n → n ≤ 11 → ⊥
between n told low high = grind (arith, nat_tests)

above : (n : ℕ) → is_of_rebuild n ≡ true → 18 ≤ n → ⊥
above n told high = grind (arith, nat_tests)

never-of : (n : ℕ) → is_of_rebuild n ≡ true → NeverEndsWith Rebuild n → ⊥
never-of n told never = ⊎_elim
    (λ five. off n 5 told refl five)
    (λ more. ⊎_elim
    (λ seven. off n 7 told refl seven)
    (λ more. ⊎_elim
    (λ refused. between n told refused.0 refused.1)
    (λ more. ⊎_elim (λ thirteen. off n 13 told refl thirteen) (λ high. above n told high) more)
    more)
    more)
    never

-- the status of a line with a fault is none of these
fault-apart : (at : ℕ) (fault : FeedFault) → ((outcome_unread (unread.Broken at fault)).status ≢ 4) × ((outcome_unread (unread.Broken at fault)).status ≢ 6)
fault-apart at Form = (λ e. cc e, λ e. cc e)
fault-apart at (Gap last number) = (λ e. cc e, λ e. cc e)
fault-apart at Full = (λ e. cc e, λ e. cc e)

not-sent : (why : Unread) → (outcome_unread why).status ≢ 6
not-sent (unread.ReadFault at) = λ e. cc e
not-sent (unread.Broken at fault) = (fault-apart at fault).1
not-sent (unread.Cut at) = λ e. cc e
not-sent unread.NoSnapshot = λ e. cc e
not-sent unread.TooLong = λ e. cc e

module _ {I S : Type 0} (before after : Streams I S) (product : ProductLists) (outcome : Outcome) where
  is-of : (read : Result Table Unread) → SendsByFeed product before after outcome read → IsOfRebuild outcome
  is-of (Ok table) sends = subst IsOfRebuild (sym sends.outcome_is) (of-rebuilt sends.number sends.result)
  is-of (Err why) sends = subst IsOfRebuild (sym sends.0) (of-unread why)

  module _ (did : RebuildsLevels product before after outcome) where
    pub rebuilt-takes : TakesInput before after
    rebuilt-takes = record { taken = did.taken; took = did.took }

    told : is_of_rebuild outcome.status ≡ true
    told = (is-of did.read did.sends).status

    pub rebuilt-statuses : NeverEndsWith Rebuild outcome.status → ⊥
    rebuilt-statuses never = never-of outcome.status told never

    pub rebuilt-not-refused : IsRefusal outcome.status → ⊥
    rebuilt-not-refused refusal = ⊎_elim (off outcome.status 9 told refl) (λ more. ⊎_elim (off outcome.status 10 told refl) (off outcome.status 11 told refl) more) refusal

-- ---- the causes of its faults

module _ {I S : Type 0} (m : StationMeanings S) (product : ProductLists) (text : List ℕ) (before after : Streams I S) (outcome : Outcome) where
  rose : (read : Result Table Unread) → SendsByFeed product before after outcome read → HasReadCause before.input.faults after.input.faults read → outcome.status ≡ 4 → Rose before.input.faults after.input.faults
  rose (Ok table) sends cause four = by-sent sends.result sends.outcome_is
    where
      by-sent : (result : Result (Unit {0}) SendFailed) → outcome ≡ outcome_rebuilt sends.number result → Rose before.input.faults after.input.faults
      by-sent (Ok t) is = absurd (omega (arith, four, ap (λ (o : Outcome). o.status) is))
      by-sent (Err fault) is = absurd (omega (arith, four, ap (λ (o : Outcome). o.status) is))
  rose (Err (unread.ReadFault at)) sends cause four = cause.1
  rose (Err (unread.Broken at fault)) sends cause four = absurd ((fault-apart at fault).0 (sym (ap (λ (o : Outcome). o.status) sends.0) ∙ four))
  rose (Err (unread.Cut at)) sends cause four = absurd (omega (arith, four, ap (λ (o : Outcome). o.status) sends.0))
  rose (Err unread.NoSnapshot) sends cause four = absurd (omega (arith, four, ap (λ (o : Outcome). o.status) sends.0))
  rose (Err unread.TooLong) sends cause four = absurd (omega (arith, four, ap (λ (o : Outcome). o.status) sends.0))

  stays : (read : Result Table Unread) → SendsByFeed product before after outcome read → HasReadCause before.input.faults after.input.faults read → outcome.status ≢ 4 → after.input.faults ≡ before.input.faults
  stays (Ok table) sends cause other = cause
  stays (Err (unread.ReadFault at)) sends cause other = absurd (other (ap (λ (o : Outcome). o.status) sends.0))
  stays (Err (unread.Broken at fault)) sends cause other = cause
  stays (Err (unread.Cut at)) sends cause other = cause
  stays (Err unread.NoSnapshot) sends cause other = cause
  stays (Err unread.TooLong) sends cause other = cause

  sent-rose : (read : Result Table Unread) (sends : SendsByFeed product before after outcome read) → SentWithCause product before after outcome read sends → outcome.status ≡ 6 → Rose before.station.send_faults after.station.send_faults
  sent-rose (Ok table) sends cause six = by-sent sends.result sends.outcome_is cause
    where
      by-sent : (result : Result (Unit {0}) SendFailed) → outcome ≡ outcome_rebuilt sends.number result → HasCause before.station.send_faults after.station.send_faults result → Rose before.station.send_faults after.station.send_faults
      by-sent (Ok t) is why = absurd (omega (arith, six, ap (λ (o : Outcome). o.status) is))
      by-sent (Err fault) is why = why.failed
  sent-rose (Err why) sends cause six = absurd (not-sent why (sym (ap (λ (o : Outcome). o.status) sends.0) ∙ six))

  sent-stays : (read : Result Table Unread) (sends : SendsByFeed product before after outcome read) → SentWithCause product before after outcome read sends → outcome.status ≢ 6 → after.station.send_faults ≡ before.station.send_faults
  sent-stays (Ok table) sends cause other = by-sent sends.result sends.outcome_is cause
    where
      by-sent : (result : Result (Unit {0}) SendFailed) → outcome ≡ outcome_rebuilt sends.number result → HasCause before.station.send_faults after.station.send_faults result → after.station.send_faults ≡ before.station.send_faults
      by-sent (Ok t) is why = why.ok
      by-sent (Err fault) is why = absurd (other (ap (λ (o : Outcome). o.status) is))
  sent-stays (Err why) sends cause other = cause

  pub rebuild-executed : IsRightProduct product → RebuildsWithCause m product before after outcome → IsExecuted m product text before after outcome Rebuild
  rebuild-executed right did = only-printed m product text before after outcome Rebuild (λ never. never) (record { form = did.form; reads = did.reads }) causes
    where
      of : IsOfRebuild outcome
      of = is-of before after product outcome did.form.read did.form.sends

      none : (k : ℕ) → is_of_rebuild k ≡ false → outcome.status ≡ k → ⊥
      none k off-k is = off outcome.status k of.status off-k is

      causes : HasCauses m product text before after outcome Rebuild
      causes = record {
        right = right;
        outcome_is = of.placed;
        words = none 2 refl;
        product_right = none 3 refl;
        memory = λ one. absurd (none 1 refl one);
        memory_reads = λ one. absurd (none 1 refl one);
        read = λ four. (tt, rose did.form.read did.form.sends did.read four);
        no_read = λ other. stays did.form.read did.form.sends did.read other;
        store = λ five. absurd (none 5 refl five);
        no_store = λ other. did.store;
        send = λ six. sent-rose did.form.read did.form.sends did.sent six;
        no_send = λ other. sent-stays did.form.read did.form.sends did.sent other;
        frames = λ either. tt;
      }

-- ---- where no fault comes

module _ {I S : Type 0} (before after : Streams I S) (product : ProductLists) (outcome : Outcome) (bytes : List ℕ) (known : before.input.left ≡ Some bytes) (no_read : outcome.status ≢ 4) (no_send : outcome.status ≢ 6) where
  is-feed : (read : Result Table Unread) → SendsByFeed product before after outcome read → outcome.status ≡ feed_status read
  is-feed (Ok table) sends = by-sent sends.result sends.outcome_is
    where
      by-sent : (result : Result (Unit {0}) SendFailed) → outcome ≡ outcome_rebuilt sends.number result → outcome.status ≡ 0
      by-sent (Ok t) is = ap (λ (o : Outcome). o.status) is
      by-sent (Err fault) is = absurd (no_send (ap (λ (o : Outcome). o.status) is))
  is-feed (Err why) sends = ap (λ (o : Outcome). o.status) sends.0

  pub rebuilt-well : RebuildsLevels product before after outcome → IsRebuilt product bytes outcome.status
  rebuilt-well did =
      let parts = left_parts after.input.left bytes did.taken (sym known ∙ did.took) in
      let status = is-feed did.read did.sends in
      status ∙ ap feed_status (sym (read-whole (listing_of product) bytes did.taken parts.0 after.input.left parts.1 parts.2 did.read did.ends (λ at is. no_read (status ∙ ap feed_status is))))
