-- What is sent of the feed of a history as a whole, message by message and at its end: the text of its feed.
use Rattle.std.proofs.Common.{◌≡◌, ⊎_elim, inl, inr, ℕ, ◌+◌, Bool, false, List, [], ◌∷◌, ◌++◌, length, Result, Ok, Err, refl, sym, subst, ◌∙◌, ap, ap₂, arith, append-nil}
use Rattle.std.specs.Prelude.{if◌then◌else◌, ◌==◌}
use Rattle.std.proofs.lemmas.Bool.{ne_eqb}
use Rattle.gx_base.specs.KnownBytes.{IsKnownPrefix}
use Rattle.gx_base.specs.declared.names.Listed.{Listed}
use Rattle.gx_station.specs.Stations.{StationMeanings, sent_and}
use Rattle.product_file.specs.Products.{ProductLists, IsRightProduct}
use Rattle.product_file.specs.ProductTexts.{product_of}
use Rattle.order_kinds.specs.State.{empty_state}
use Rattle.order_kinds.specs.Amendments.{amended_state}
use Rattle.order_kinds.specs.Histories.{History, of_product, amended, last_product, AreRightProducts, IsHistory, state_kept}
use Rattle.image_laws.proofs.Histories.{histories-counted}
use Rattle.match_journal.specs.Journal.{Record}
use Rattle.book_recovery.specs.Histories.{AreGoodFrom, history_behind}
use Rattle.book_recovery.specs.Kept.{HasKept}
use Rattle.book_recovery.proofs.Histories.{IsUnder, good-amended, under-first, under-behind}
use Rattle.level_feed.specs.declared.row.Row.{Row}
use Rattle.level_feed.specs.Blocks.{feed_blocks}
use Rattle.level_feed.specs.FeedText.{text_of_blocks}
use Rattle.level_feed.specs.Feeds.{levels_kept, feed_text}
use Rattle.stream_laws.proofs.SameListings.{same-instruments}
use Rattle.stream_laws.proofs.StatesAt.{length-levels-kept}
use Rattle.journal_print.specs.Works.{work_after, work_text, work_whole}
use Rattle.journal_print.specs.Printed.{PrintsMessages, SentPart}
use Rattle.journal_print.specs.declared.unprinted.Unprinted.{Unprinted}
use Rattle.journal_print.specs.declared.unprinted.Unprinted.TheVariants as unprinted
use Rattle.feed_print.specs.FeedPlaces.{FeedPlace, feed_start}
use Rattle.feed_print.specs.FeedTexts.{beginning, messages_text, place_after, feed_so_far}
use Rattle.feed_print.specs.FeedWorks.{feed_work}
use Rattle.feed_print.proofs.SentLevels.{AreCounted, sent_levels, place_of_levels, text-more, place-more}

-- ---- over a history

abbrev names_kept : History → List Listed
names_kept kept = (last_product kept).names.instruments

-- each message of a history counts
first-counted : (product : ProductLists) → IsRightProduct product → AreCounted product (empty_state product) 0
first-counted product right frames = let same : length frames ≡ 0 + length frames = omega arith in histories-counted (of_product product frames) right tt ∙ same

amended-counted : (before : History) (product : ProductLists) → AreRightProducts before → IsRightProduct product → IsHistory (amended before product [])
    → AreCounted product (amended_state product (state_kept before)) (length (levels_kept before))
amended-counted before product right_before right is frames =
    histories-counted (amended before product frames) (right_before, right) is ∙ ap (λ (n : ℕ). n + length frames) (sym (length-levels-kept before))

-- the feed is sent so far
place-kept : (kept : History) → AreRightProducts kept → IsHistory kept → work_after feed_work feed_start kept ≡ place_of_levels (levels_kept kept)
place-kept (of_product product messages) right is = place-more product (empty_state product) [] messages (first-counted product right)
place-kept (amended before product messages) right is =
    let start = amended_state product (state_kept before) in
    ap (λ (place : FeedPlace). place_after place product start messages) (place-kept before right.0 is.0)
    ∙ place-more product start (levels_kept before) messages (amended-counted before product right.0 right.1 is)

-- and this was sent
text-kept : (kept : History) → AreRightProducts kept → IsHistory kept → work_text feed_work feed_start kept ≡ sent_levels (names_kept kept) (levels_kept kept)
text-kept (of_product product messages) right is = text-more product (empty_state product) [] messages (first-counted product right)
text-kept (amended before product messages) right is =
    let start = amended_state product (state_kept before) in
    let old = levels_kept before in
    ap₂ (λ (a b : List ℕ). a ++ b)
    (text-kept before right.0 is.0 ∙ ap (λ (listed : List Listed). sent_levels listed old) (sym (same-instruments (last_product before) product is.1)))
    (ap (λ (place : FeedPlace). messages_text place product start messages) (place-kept before right.0 is.0))
    ∙ text-more product start old messages (amended-counted before product right.0 right.1 is)

-- ---- the whole feed

with-ending : (listed : List Listed) (levels : List (List Row)) → sent_levels listed levels ++ beginning (place_of_levels levels) ≡ text_of_blocks listed (feed_blocks levels)
with-ending listed [] = refl
with-ending listed (new ∷ later) = append-nil (text_of_blocks listed (feed_blocks (new ∷ later)))

-- after all messages the whole feed is sent
pub whole-feed : (kept : History) → AreRightProducts kept → IsHistory kept → work_whole feed_work feed_start kept ≡ feed_text kept
whole-feed kept right is =
    ap₂ (λ (a b : List ℕ). a ++ b) (text-kept kept right is) (ap beginning (place-kept kept right is)) ∙ with-ending (names_kept kept) (levels_kept kept)

sent-so-far : (listed : List Listed) (levels : List (List Row)) → sent_levels listed levels ≡ (if length levels == 0 then [] else text_of_blocks listed (feed_blocks levels))
sent-so-far listed [] = refl
sent-so-far listed (new ∷ later) =
    let some : (length (new ∷ later) == 0) ≡ false = ne_eqb _ _ (λ none. omega (arith, none)) in
    ap (λ (b : Bool). if b then [] else text_of_blocks listed (feed_blocks (new ∷ later))) (sym some)

-- before that nothing, as long as there is no message, and then the whole feed of the messages so far
pub so-far : (kept : History) → AreRightProducts kept → IsHistory kept → work_text feed_work feed_start kept ≡ feed_so_far kept
so-far kept right is =
    text-kept kept right is
    ∙ sent-so-far (names_kept kept) (levels_kept kept)
    ∙ ap (λ (n : ℕ). if n == 0 then [] else feed_text kept) (length-levels-kept kept)

-- ---- what was printed

-- the history of good records has right products, each of which may follow the one before
under-good : (text : List ℕ) (first : ProductLists) (records : List Record) → product_of text ≡ Ok first → AreGoodFrom first 0 records
    → let h = history_behind (of_product first []) records in IsUnder (last_product h) h
under-good text first records gives good = under-behind first (of_product first []) records (under-first text first [] gives) (good-amended first 0 records good)

so-far-good : (text : List ℕ) (first : ProductLists) (records : List Record) → product_of text ≡ Ok first → AreGoodFrom first 0 records
    → let h = history_behind (of_product first []) records in work_text feed_work feed_start h ≡ feed_so_far h
so-far-good text first records gives good =
    let under = under-good text first records gives good in
    so-far (history_behind (of_product first []) records) under.right under.follow

whole-has : (product : ProductLists) (text image : List ℕ) (kept : History) → IsRightProduct product → HasKept product text kept image → work_whole feed_work feed_start kept ≡ feed_text kept
whole-has product text image kept right (inl (unfinished, is)) =
    subst (λ (h : History). work_whole feed_work feed_start h ≡ feed_text h) (sym is) (whole-feed (of_product product []) right tt)
whole-has product text image kept right (inr (good, is)) =
    let under = under-good good.head.text good.first good.records good.gives good.good in
    subst (λ (h : History). work_whole feed_work feed_start h ≡ feed_text h) (sym is) (whole-feed (history_behind (of_product good.first []) good.records) under.right under.follow)

-- what is sent of the messages record by record, and of all of them, said as the feed
pub levels_printed : {S : Type 0} (m : StationMeanings S) (product : ProductLists) (text image : List ℕ) (old new : S) → IsRightProduct product → (r : Result ℕ Unprinted)
    → PrintsMessages m product text image old new (work_text feed_work feed_start) (work_whole feed_work feed_start) r → PrintsMessages m product text image old new feed_so_far feed_text r
levels_printed m product text image old new right = printed
  where
    part : SentPart m product text image old new (work_text feed_work feed_start) → SentPart m product text image old new feed_so_far
    part sent = record {
      texts = sent.texts;
      before = sent.before;
      behind = sent.behind;
      are = sent.are;
      good = sent.good;
      sent = subst (λ (l : List ℕ). IsKnownPrefix (m.sent new) (sent_and (m.sent old) l)) (so-far-good sent.texts.head.text sent.texts.first sent.before sent.texts.gives sent.good) sent.sent;
    }

    printed : (r : Result ℕ Unprinted) → PrintsMessages m product text image old new (work_text feed_work feed_start) (work_whole feed_work feed_start) r → PrintsMessages m product text image old new feed_so_far feed_text r
    printed (Ok count) told = record {
      kept = told.kept;
      has = told.has;
      few = told.few;
      sent = told.sent ∙ ap (sent_and (m.sent old)) (whole-has product text image told.kept right told.has);
      count_is = told.count_is;
    }
    printed (Err unprinted.Store) told = ⊎_elim (λ none. inl none) (λ sent. inr (part sent)) told
    printed (Err unprinted.Send) told =
        ⊎_elim (λ sent. inl (sent.0, part sent.1))
        (λ all. inr record {
          kept = all.kept;
          has = all.has;
          few = all.few;
          sent = subst (λ (l : List ℕ). IsKnownPrefix (m.sent new) (sent_and (m.sent old) l)) (whole-has product text image all.kept right all.has) all.sent;
        })
        told
    printed (Err unprinted.NoMemory) told = told
    printed (Err (unprinted.NotAJournal at)) told = told
    printed (Err (unprinted.Bad at)) told =
        ⊎_elim (λ unread. inl unread)
        (λ bad. inr record {
          opened = bad.opened;
          bad = bad.bad;
          sent = bad.sent ∙ ap (sent_and (m.sent old)) (so-far-good bad.opened.head.text bad.bad.first bad.bad.before bad.bad.gives bad.bad.good);
        })
        told
    printed (Err (unprinted.ProductDiffers at)) told = told
