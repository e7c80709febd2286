-- What is printed of all messages, from what was gone through.
use Rattle.std.proofs.Common.{◌≡◌, ◌⊎◌, inl, inr, ℕ, List, [], Option, Some, None, Ok, Err, refl, sym, subst, ◌∙◌, ap}
use Rattle.std.specs.Prelude.{IfSome}
use Rattle.gx_base.specs.KnownBytes.{IsKnownPrefix}
use Rattle.gx_station.specs.Stations.{StationMeanings, sent_and}
use Rattle.gx_station.specs.SendLaws.{sent_and_none, sent_and-append}
use Rattle.product_file.specs.Products.{ProductLists}
use Rattle.match_journal.specs.Classes.{IsBlank, IsSealedOf}
use Rattle.match_journal.specs.Journal.{IsJournal, Record}
use Rattle.match_journal.specs.Opening.{IsOpenedOf}
use Rattle.order_kinds.specs.Balance.{total_open}
use Rattle.order_kinds.specs.State.{State, state_numbered, empty_state}
use Rattle.order_kinds.specs.Histories.{History, of_product, state_kept}
use Rattle.book_recovery.specs.Histories.{history_behind}
use Rattle.book_recovery.specs.Kept.{HasGoodTexts}
use Rattle.book_recovery.specs.Products.{AreProducts}
use Rattle.book_print.specs.BookLaws.{total_open-numbered}
use Rattle.journal_print.specs.Works.{WorkMeanings, work_text, work_after, work_whole}
use Rattle.journal_print.specs.Printed.{SentPart, PrintsMessages}
use Rattle.journal_print.specs.KeptJournals.{IsKeptOf}
use Rattle.journal_print.specs.Inner.Keeping.{OpensKept}
use Rattle.journal_print.specs.Inner.Publishing.{ArePublished, PartPublished, Publishes, KeptPublished, PublishesKept}
use Rattle.journal_print.specs.declared.kept.KeptJournal.{KeptJournal}
use Rattle.journal_print.specs.declared.records.Until.TheVariants.{End}
use Rattle.journal_print.specs.declared.unprinted.Unprinted.{Unprinted}
use Rattle.journal_print.specs.declared.unprinted.Unprinted.TheVariants as unprinted
use Rattle.journal_print.proofs.OpenedImages.{opened_last}

-- what holds of what was found
pub some_found : {A : Type 0} (P : A → Type 0) (found : Option A) (x : A) → found ≡ Some x → IfSome found P → P x
some_found P found x is told = subst (λ o. IfSome o P) is told

module _ {S W : Type 0} (m : StationMeanings S) (w : WorkMeanings W) (product : ProductLists) (text image : List ℕ) where
  -- the journal was not opened, or its products were not taken
  pub not_opened : (old new : S) (work then : W) (state : State) (why : Unprinted) → OpensKept product text image (Err why) → m.sent new ≡ m.sent old → PublishesKept m w product text image old new work then state (Err why)
  not_opened old new work then state unprinted.Store told sent = inl sent
  not_opened old new work then state unprinted.Send told sent = absurd told
  not_opened old new work then state unprinted.NoMemory told sent = (told, sent)
  not_opened old new work then state (unprinted.NotAJournal at) told sent = (told, sent)
  not_opened old new work then state (unprinted.Bad at) told sent = inl (told, sent)
  not_opened old new work then state (unprinted.ProductDiffers at) told sent = (told, sent)

  -- an unfinished creation keeps nothing
  pub none_kept : (old new : S) (work : W) (state : State) → IsBlank image ⊎ IsSealedOf text image → m.sent new ≡ m.sent old → state ≡ empty_state product → KeptPublished m w product text image old new work work state None
  none_kept old new work state unfinished sent is = record {
    kept = of_product product [];
    has = inl (unfinished, refl);
    published = record {
      sent = sent ∙ sym (ap (sent_and (m.sent old)) (w.text_none work product (empty_state product)) ∙ sent_and_none (m.sent old));
      work_is = sym (w.after_none work product (empty_state product));
      state_is = ap state_numbered is;
      count_is = ap (λ (s : State). s.desk.messages) is;
    };
    of_image = tt;
    none = λ is. refl;
  }

  -- the records of the journal were gone through, from the first one on
  module _ (old mid new : S) (looked : m.sent mid ≡ m.sent old) (work then : W) (state : State) (opened : IsOpenedOf text product.journal_limit image) (products : List ProductLists) (records : List Record)
      (journal : IsJournal opened.head product.journal_limit records image) (all : AreProducts opened.head records products) where
    abbrev texts : HasGoodTexts text product.journal_limit image
    texts = record {
      head = opened.head;
      records = records;
      journal = journal;
      last = opened_last text product.journal_limit image opened records journal;
      first = all.first;
      gives = all.gives;
      have = all.have;
    }

    part_sent : PartPublished m w opened.head product.journal_limit image products records mid new work then state all → SentPart m product text image old new (work_text w work)
    part_sent part = record {
      texts = texts;
      before = part.before;
      behind = part.behind;
      are = part.are;
      good = part.good;
      sent = subst (λ s. IsKnownPrefix (m.sent new) (sent_and s (work_text w work (history_behind (of_product all.first []) part.before)))) looked part.sent;
    }

    pub stopped : (why : Unprinted) → Publishes m w opened.head product.journal_limit image products records mid new work then state End all (Err why) → PublishesKept m w product text image old new work then state (Err why)
    stopped unprinted.Store told = inr (part_sent told)
    stopped unprinted.Send told = (opened, part_sent told)
    stopped unprinted.NoMemory told = absurd told
    stopped (unprinted.NotAJournal at) told = absurd told
    stopped (unprinted.Bad at) told = inr record {
      opened = opened;
      bad = told.bad;
      sent = told.sent ∙ ap (λ s. sent_and s (work_text w work (history_behind (of_product told.bad.first []) told.bad.before))) looked;
    }
    stopped (unprinted.ProductDiffers at) told = absurd told

    pub all_kept : (found : KeptJournal) → IsKeptOf image found → (t : Unit {0}) → Publishes m w opened.head product.journal_limit image products records mid new work then state End all (Ok t)
        → KeptPublished m w product text image old new work then state (Some found)
    all_kept found of_image t (inr enough) = absurd enough.enough
    all_kept found of_image t (inl done) = record {
      kept = history_behind (of_product all.first []) records;
      has = inr (
        record {
          head = opened.head;
          records = records;
          journal = journal;
          last = texts.last;
          first = all.first;
          gives = all.gives;
          good = done.good;
        },
        refl,
      );
      published = record {
        sent = done.published.sent ∙ ap (λ s. sent_and s (work_text w work (history_behind (of_product all.first []) records))) looked;
        work_is = done.published.work_is;
        state_is = done.published.state_is;
        count_is = done.published.count_is;
      };
      of_image = of_image;
      none = λ is. absurd (cc is);
    }

  -- not all messages were gone through
  pub not_printed : (old new : S) (work then : W) (state : State) (whole : History → List ℕ) (why : Unprinted) → PublishesKept m w product text image old new work then state (Err why) → PrintsMessages m product text image old new (work_text w work) whole (Err why)
  not_printed old new work then state whole unprinted.Store told = told
  not_printed old new work then state whole unprinted.Send told = inl told
  not_printed old new work then state whole unprinted.NoMemory told = told
  not_printed old new work then state whole (unprinted.NotAJournal at) told = told
  not_printed old new work then state whole (unprinted.Bad at) told = told
  not_printed old new work then state whole (unprinted.ProductDiffers at) told = told

  -- what is sent of the messages, and then what comes after them, are all
  pub with_ending : (old mid : S) (work then : W) (state : State) (kept : History) → ArePublished m w old mid work then state kept → (live : ℕ) → live ≡ total_open state.book
      → sent_and (m.sent mid) (w.ending then live) ≡ sent_and (m.sent old) (work_whole w work kept)
  with_ending old mid work then state kept published live live_is =
      let sent : List ℕ = work_text w work kept in
      let last : W = work_after w work kept in
      let lots : ℕ = total_open (state_kept kept).book in
      let same : live ≡ lots = live_is ∙ sym (total_open-numbered state.book) ∙ ap (λ (s : State). total_open s.book) published.state_is in
      ap (λ s. sent_and s (w.ending then live)) published.sent
      ∙ ap (λ (l : List ℕ). sent_and (sent_and (m.sent old) sent) l) (ap (λ (g : W). w.ending g live) published.work_is ∙ ap (w.ending last) same)
      ∙ sym (sent_and-append (m.sent old) sent (w.ending last lots))
