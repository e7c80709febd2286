-- How the steps of answering go together.
use Rattle.std.proofs.Common.{◌≡◌, ℕ, true, false, true≢false, List, [], ◌++◌, Option, Some, None, Result, Ok, Err, refl, sym, ap, subst, ◌∙◌, arith}
use Rattle.std.specs.Prelude.{Bool, is_some, is_err, OnOk, IfSome, IsErrOf}
use Rattle.gx_base.specs.KnownBytes.{IsKnownPrefix, known_then}
use Rattle.gx_station.specs.Counts.{Rose}
use Rattle.gx_station.specs.Stations.{StationMeanings, sent_and}
use Rattle.gx_station.specs.Quiet.{Quiet}
use Rattle.gx_station.specs.SendLaws.{sent_and_none, sent_and-append, known_front}
use Rattle.product_file.specs.Products.{ProductLists}
use Rattle.exec_report.specs.Pushes.{Pushes as Pushed}
use Rattle.fix_session.specs.declared.again.ReportRange.{ReportRange}
use Rattle.order_kinds.specs.Cores.{FitsProduct}
use Rattle.order_kinds.specs.State.{empty_state}
use Rattle.order_kinds.specs.Histories.{History}
use Rattle.book_recovery.specs.Kept.{HasKept}
use Rattle.book_recovery.specs.Recovering.{HasRoomFor}
use Rattle.book_recovery.specs.declared.products.Products.{Products}
use Rattle.journal_print.specs.KeptJournals.{CanBeReadAgain, IsKeptOf}
use Rattle.journal_print.specs.ReadingLaws.{reading_then, reading_itself, sending_only}
use Rattle.journal_print.specs.Reading.{ReadsAndSends}
use Rattle.journal_print.specs.Readers.{IsIdleReader}
use Rattle.journal_print.specs.Resent.{SendsAgain, lines_again_kept}
use Rattle.journal_print.specs.declared.kept.KeptJournal.{KeptJournal}
use Rattle.journal_print.specs.declared.reader.Reader.{Reader}
use Rattle.journal_print.specs.declared.unprinted.Unprinted.{Unprinted}
use Rattle.journal_print.specs.declared.unprinted.Unprinted.TheVariants as unprinted
use Rattle.globex_run.specs.Answering.{lines_again}
use Rattle.globex_run.specs.Inner.AnswerSteps.{CanGoThrough, CanResend, IsJournalOf, ShowsHistory, FaultsBy, Pushes, Steps, Turns, unanswered_by}
use Rattle.globex_run.specs.declared.resender.Resender.{Resender}
use Rattle.globex_run.specs.declared.resender.Unanswered.{Unanswered}
use Rattle.globex_run.specs.declared.resender.Unanswered.TheVariants as unanswered

abbrev pub done : Result (Unit {0}) Unanswered
done = Ok tt

abbrev pub failed : Unanswered → Result (Unit {0}) Unanswered
failed why = Err why

abbrev resent : Unit {0} → Result (Unit {0}) Unprinted
resent t = Ok t

abbrev unsent : Unprinted → Result (Unit {0}) Unprinted
unsent fault = Err fault

abbrev reason : Result (Unit {0}) Unprinted → Unprinted
reason (Ok t) = unprinted.NoMemory
reason (Err fault) = fault

abbrev is_store : Result (Unit {0}) Unprinted → Bool
is_store (Err unprinted.Store) = true
is_store other = false

abbrev why_or : Unanswered → Option Unanswered → Unanswered
why_or other None = other
why_or other (Some why) = why

rose-from : (a b c : ℕ) → b ≡ a → Rose b c → Rose a c
rose-from a b c same rose = subst (λ k. Rose k c) same rose

module _ {S : Type 0} (m : StationMeanings S) where
  -- ---- what is done to the station

  pub faults-then : (a b c : S) (result : Result (Unit {0}) Unanswered) → FaultsBy m a b done → FaultsBy m b c result → FaultsBy m a c result
  faults-then a b c (Ok t) p q = (q.0 ∙ p.0, q.1 ∙ p.1)
  faults-then a b c (Err unanswered.Store) p q = (rose-from (m.store_faults a) (m.store_faults b) (m.store_faults c) p.0 q.0, q.1 ∙ p.1)
  faults-then a b c (Err unanswered.Send) p q = (q.0 ∙ p.0, rose-from (m.send_faults a) (m.send_faults b) (m.send_faults c) p.1 q.1)

  -- ---- what was sent and waits

  pub pushes-then : {T F : Type 0} (a b c : S) (u v w xs ys : List ℕ) (result : Result T F) → sent_and (m.sent b) v ≡ sent_and (sent_and (m.sent a) u) xs → Pushes m b c v w ys result → Pushes m a c u w (xs ++ ys) result
  pushes-then a b c u v w xs ys (Ok t) first second = record {
    all = second.all ∙ ap (λ s. sent_and s ys) first ∙ sym (sent_and-append (sent_and (m.sent a) u) xs ys);
    part = tt;
  }
  pushes-then a b c u v w xs ys (Err e) first second = record {
    all = tt;
    part = subst (λ s. IsKnownPrefix (m.sent c) s) (ap (λ s. sent_and s ys) first ∙ sym (sent_and-append (sent_and (m.sent a) u) xs ys)) second.part;
  }

  pub pushes-stopped : {T F : Type 0} (a b : S) (u v xs ys : List ℕ) (e : F) → Pushes m {T = T} a b u v xs (Err e) → Pushes m {T = T} a b u v (xs ++ ys) (Err e)
  pushes-stopped a b u v xs ys e first = record {
    all = tt;
    part = known_then _ _ _ first.part (known_front (sent_and (m.sent a) u) xs ys);
  }

  -- nothing was sent
  pub pushes-none : {T F : Type 0} (a : S) (u : List ℕ) (t : T) → Pushes m {F = F} a a u u [] (Ok t)
  pushes-none a u t = record { all = sym (sent_and_none (sent_and (m.sent a) u)); part = tt }

  shows-still : (kept : Option KeptJournal) (old new : S) (history : History) → m.holds new ≡ m.holds old → ShowsHistory m kept old history → ShowsHistory m kept new history
  shows-still None old new history same shows = shows
  shows-still (Some kept) old new history same shows =
      record { text = shows.text; image = shows.image; holds = same ∙ shows.holds; of_image = shows.of_image; has = shows.has }

  module _ {B : Type 0} where
    -- ---- a text was put after what waits

    can-still : (kept : Option KeptJournal) (reader : Reader B) (reports : List ℕ) (old new : S) → Quiet m old new
        → IfSome kept (CanGoThrough m reader old) → IfSome kept (CanGoThrough m (record reader { reports = reports }) new)
    can-still None reader reports old new quiet can = tt
    can-still (Some k) reader reports old new quiet can =
        record { again = record { reach = omega (arith, can.again.reach, quiet.reach); in_limit = can.again.in_limit; stands = can.again.stands; last = can.again.last; limit = can.again.limit }; core = can.core; spare = can.spare; room = can.room }

    abbrev WithReports : Resender B → List ℕ → Resender B
    WithReports resender reports = record { kept = resender.kept; reader = record resender.reader { reports = reports } }

    module _ {T F : Type 0} (resender : Resender B) (reports : List ℕ) (old new : S) (bytes text : List ℕ) (same : text ≡ bytes) where
      pub steps-pushed : (t : T) → CanResend m resender old → Pushed m {F = F} old new resender.reader.reports reports text (Ok t) → Steps m resender (WithReports resender reports) old new (λ h. bytes) done
      steps-pushed t can pushed = record {
        reads = sending_only m old new pushed.quiet;
        faults = (pushed.quiet.store_faults, pushed.steady);
        can = can-still resender.kept resender.reader reports old new pushed.quiet can;
        shows = λ h is. shows-still resender.kept old new h pushed.quiet.holds is;
        sends = λ h is. record { all = pushed.all ∙ ap (λ (l : List ℕ). sent_and (sent_and (m.sent old) resender.reader.reports) l) same; part = tt };
      }

      pub steps-unpushed : (e : F) → Pushed m {T = T} old new resender.reader.reports reports text (Err e) → Steps m resender (WithReports resender reports) old new (λ h. bytes) (failed unanswered.Send)
      steps-unpushed e pushed = record {
        reads = sending_only m old new pushed.quiet;
        faults = (pushed.quiet.store_faults, pushed.rose);
        can = tt;
        shows = tt;
        sends = λ h is. record { all = tt; part = subst (λ (l : List ℕ). IsKnownPrefix (m.sent new) (sent_and (sent_and (m.sent old) resender.reader.reports) l)) same pushed.part };
      }

    -- ---- lines were sent again

    module _ (resender : Resender B) (kept after : KeptJournal) (is : resender.kept ≡ Some kept) (reader : Reader B) (old new : S) (range : ReportRange) (empty : resender.reader.reports ≡ []) (reads : ReadsAndSends m old new) where
      abbrev Sends : Result (Unit {0}) Unprinted → Type 0
      Sends result = (text image : List ℕ) (history : History) → m.holds old ≡ Some image → IsKeptOf image kept → HasKept kept.products.last.now text history image
          → SendsAgain m (lines_again_kept range history) old new result

      -- what is known of the history kept
      journal_of : (h : History) → ShowsHistory m resender.kept old h → IsJournalOf m old h kept
      journal_of h shows = subst (λ (k : Option KeptJournal). ShowsHistory m k old h) is shows

      waits : (bytes : List ℕ) → sent_and (sent_and (m.sent old) resender.reader.reports) bytes ≡ sent_and (m.sent old) bytes
      waits bytes = ap (λ (l : List ℕ). sent_and (sent_and (m.sent old) l) bytes) empty ∙ ap (λ s. sent_and s bytes) (sent_and_none (m.sent old))

      pub steps-resent : (t : Unit {0}) → ((IsErrOf (resent t) unprinted.Store → ⊥) → m.store_faults new ≡ m.store_faults old) → ((IsErrOf (resent t) unprinted.Send → ⊥) → m.send_faults new ≡ m.send_faults old)
          → after.products ≡ kept.products → CanBeReadAgain m kept.products.last.now after new → IsIdleReader kept.products.last.now reader → ((image : List ℕ) → IsKeptOf image kept → IsKeptOf image after) → Sends (Ok t)
          → Steps m resender (record { kept = Some after; reader = reader }) old new (λ h. lines_again h range) done
      steps-resent t no_store no_send same again idle stays sends =
          let last = λ (p : Products). p.last.now in
          let product = ap last (sym same) in
          record {
            reads = reads;
            faults = (no_store (λ e. true≢false (sym (ap is_err e))), no_send (λ e. true≢false (sym (ap is_err e))));
            can = record {
              again = subst (λ (p : ProductLists). CanBeReadAgain m p after new) product again;
              core = subst (λ (p : ProductLists). FitsProduct p reader.core) product idle.core;
              spare = subst (λ (p : ProductLists). reader.spare ≡ empty_state p) product idle.spare;
              room = subst (λ (p : ProductLists). HasRoomFor p reader.scratch) product idle.room;
            };
            shows = λ h shows.
                let of = journal_of h shows in
                record {
                  text = of.text;
                  image = of.image;
                  holds = reads.holds ∙ of.holds;
                  of_image = stays of.image of.of_image;
                  has = subst (λ (p : ProductLists). HasKept p of.text h of.image) product of.has;
                };
            sends = λ h shows.
                let of = journal_of h shows in
                record {
                  all = ap (λ (l : List ℕ). sent_and (m.sent new) l) idle.reports ∙ sent_and_none (m.sent new) ∙ sends of.text of.image h of.holds of.of_image of.has ∙ sym (waits (lines_again h range));
                  part = tt;
                };
          }

      pub steps-unsent : (fault : Unprinted) (why : Unanswered) → Some why ≡ unanswered_by fault
          → (IsErrOf (unsent fault) unprinted.Store → Rose (m.store_faults old) (m.store_faults new)) → ((IsErrOf (unsent fault) unprinted.Store → ⊥) → m.store_faults new ≡ m.store_faults old)
          → (IsErrOf (unsent fault) unprinted.Send → Rose (m.send_faults old) (m.send_faults new)) → ((IsErrOf (unsent fault) unprinted.Send → ⊥) → m.send_faults new ≡ m.send_faults old)
          → Sends (Err fault) → Steps m resender (record { kept = Some after; reader = reader }) old new (λ h. lines_again h range) (failed why)
      steps-unsent unprinted.Store why why_is store no_store send no_send sends =
          subst (λ (w : Unanswered). Steps m resender (record { kept = Some after; reader = reader }) old new (λ h. lines_again h range) (failed w)) (ap (why_or unanswered.Store) (sym why_is))
          (record {
            reads = reads;
            faults = (store refl, no_send (λ e. true≢false (ap is_store e)));
            can = tt;
            shows = tt;
            sends = λ h shows.
                let of = journal_of h shows in
                record { all = tt; part = subst (λ s. IsKnownPrefix (m.sent new) s) (sym (waits (lines_again h range))) (sends of.text of.image h of.holds of.of_image of.has) };
          })
      steps-unsent unprinted.Send why why_is store no_store send no_send sends =
          subst (λ (w : Unanswered). Steps m resender (record { kept = Some after; reader = reader }) old new (λ h. lines_again h range) (failed w)) (ap (why_or unanswered.Store) (sym why_is))
          (record {
            reads = reads;
            faults = (no_store (λ e. true≢false (sym (ap is_store e))), send refl);
            can = tt;
            shows = tt;
            sends = λ h shows.
                let of = journal_of h shows in
                record { all = tt; part = subst (λ s. IsKnownPrefix (m.sent new) s) (sym (waits (lines_again h range))) (sends of.text of.image h of.holds of.of_image of.has) };
          })
      steps-unsent unprinted.NoMemory why why_is store no_store send no_send sends = absurd (true≢false (ap is_some why_is))
      steps-unsent (unprinted.NotAJournal at) why why_is store no_store send no_send sends = absurd (true≢false (ap is_some why_is))
      steps-unsent (unprinted.Bad at) why why_is store no_store send no_send sends = absurd (true≢false (ap is_some why_is))
      steps-unsent (unprinted.ProductDiffers at) why why_is store no_store send no_send sends = absurd (true≢false (ap is_some why_is))

      -- over an image that is told this does not happen
      pub steps-lost : (fault : Unprinted) → None ≡ unanswered_by fault
          → ((IsErrOf (unsent fault) unprinted.Store → ⊥) → m.store_faults new ≡ m.store_faults old) → ((IsErrOf (unsent fault) unprinted.Send → ⊥) → m.send_faults new ≡ m.send_faults old)
          → Sends (Err fault) → Steps m resender (record { kept = None; reader = reader }) old new (λ h. lines_again h range) done
      steps-lost fault lost no_store no_send sends = record {
        reads = reads;
        faults = (no_store (not_store fault lost), no_send (not_send fault lost));
        can = tt;
        shows = λ h shows. absurd (never h shows);
        sends = λ h shows. absurd (never h shows);
      }
        where
          not_store : (fault : Unprinted) → None ≡ unanswered_by fault → IsErrOf (unsent fault) unprinted.Store → ⊥
          not_store fault lost e = true≢false (ap is_some (ap (λ (r : Result (Unit {0}) Unprinted). unanswered_by (reason r)) (sym e) ∙ sym lost))

          not_send : (fault : Unprinted) → None ≡ unanswered_by fault → IsErrOf (unsent fault) unprinted.Send → ⊥
          not_send fault lost e = true≢false (ap is_some (ap (λ (r : Result (Unit {0}) Unprinted). unanswered_by (reason r)) (sym e) ∙ sym lost))

          no_answer : (fault : Unprinted) (h : History) → None ≡ unanswered_by fault → SendsAgain m (lines_again_kept range h) old new (unsent fault) → ⊥
          no_answer unprinted.Store h lost sent = true≢false (sym (ap is_some lost))
          no_answer unprinted.Send h lost sent = true≢false (sym (ap is_some lost))
          no_answer unprinted.NoMemory h lost sent = sent
          no_answer (unprinted.NotAJournal at) h lost sent = sent
          no_answer (unprinted.Bad at) h lost sent = sent
          no_answer (unprinted.ProductDiffers at) h lost sent = sent

          never : (h : History) → ShowsHistory m resender.kept old h → ⊥
          never h shows = let of = journal_of h shows in no_answer fault h lost (sends of.text of.image h of.holds of.of_image of.has)

    -- ---- one step, and then another

    pub steps-then : (r s t : Resender B) (a b c : S) (f g : History → List ℕ) (result : Result (Unit {0}) Unanswered) → Steps m r s a b f done → Steps m s t b c g result → Steps m r t a c (λ h. f h ++ g h) result
    steps-then r s t a b c f g (Ok x) first second = record {
      reads = reading_then m a b c first.reads second.reads;
      faults = faults-then a b c (Ok x) first.faults second.faults;
      can = second.can;
      shows = λ h is. second.shows h (first.shows h is);
      sends = λ h is. pushes-then a b c r.reader.reports s.reader.reports t.reader.reports (f h) (g h) (Ok x) (first.sends h is).all (second.sends h (first.shows h is));
    }
    steps-then r s t a b c f g (Err e) first second = record {
      reads = reading_then m a b c first.reads second.reads;
      faults = faults-then a b c (Err e) first.faults second.faults;
      can = tt;
      shows = tt;
      sends = λ h is. pushes-then a b c r.reader.reports s.reader.reports t.reader.reports (f h) (g h) (Err e) (first.sends h is).all (second.sends h (first.shows h is));
    }

    pub steps-stopped : (r s : Resender B) (a b : S) (f g : History → List ℕ) (e : Unanswered) → Steps m r s a b f (failed e) → Steps m r s a b (λ h. f h ++ g h) (failed e)
    steps-stopped r s a b f g e first = record {
      reads = first.reads;
      faults = first.faults;
      can = tt;
      shows = tt;
      sends = λ h is. pushes-stopped a b r.reader.reports s.reader.reports (f h) (g h) e (first.sends h is);
    }

    -- the same bytes
    pub steps-as : (r s : Resender B) (a b : S) (f g : History → List ℕ) (result : Result (Unit {0}) Unanswered) → ((h : History) → f h ≡ g h) → Steps m r s a b f result → Steps m r s a b g result
    steps-as r s a b f g result same did = record {
      reads = did.reads;
      faults = did.faults;
      can = did.can;
      shows = did.shows;
      sends = λ h is. subst (λ (l : List ℕ). Pushes m a b r.reader.reports s.reader.reports l result) (same h) (did.sends h is);
    }

    -- nothing was done
    pub steps-none : (r : Resender B) (a : S) → CanResend m r a → Steps m r r a a (λ h. []) done
    steps-none r a can = record {
      reads = reading_itself m a;
      faults = (refl, refl);
      can = can;
      shows = λ h is. is;
      sends = λ h is. pushes-none a r.reader.reports tt;
    }

    -- ---- from an empty buffer to an empty one

    pub turns-of : (r s : Resender B) (a b : S) (f : History → List ℕ) (result : Result (Unit {0}) Unanswered) → r.reader.reports ≡ [] → OnOk result (s.reader.reports ≡ []) → Steps m r s a b f result → Turns m r s a b f result
    turns-of r s a b f (Ok t) before behind did = record {
      reads = did.reads;
      faults = did.faults;
      can = did.can;
      shows = did.shows;
      all = λ h is.
          sym (sent_and_none (m.sent b))
          ∙ ap (λ (l : List ℕ). sent_and (m.sent b) l) (sym behind)
          ∙ (did.sends h is).all
          ∙ ap (λ (l : List ℕ). sent_and (sent_and (m.sent a) l) (f h)) before
          ∙ ap (λ s. sent_and s (f h)) (sent_and_none (m.sent a));
      part = λ h is. tt;
      empty = behind;
    }
    turns-of r s a b f (Err e) before behind did = record {
      reads = did.reads;
      faults = did.faults;
      can = tt;
      shows = tt;
      all = λ h is. tt;
      part = λ h is. subst (λ s. IsKnownPrefix (m.sent b) s) (ap (λ (l : List ℕ). sent_and (sent_and (m.sent a) l) (f h)) before ∙ ap (λ s. sent_and s (f h)) (sent_and_none (m.sent a))) (did.sends h is).part;
      empty = tt;
    }
