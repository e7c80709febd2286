-- Lines that are sent again: those of the history that an image keeps, also where not all records were gone through.
use Rattle.std.specs.Prelude.{◌&&◌, nat_le}
use Rattle.std.proofs.Common.{◌≡◌, ◌≤◌, inl, inr, ℕ, Bool, true, false, List, [], ◌∷◌, ◌++◌, Option, Some, None, Result, Ok, Err, if◌then◌else◌, refl, sym, subst, ◌∙◌, ap, arith, append_assoc, append-nil}
use Rattle.gx_base.specs.KnownBytes.{IsKnownPrefix, known_then}
use Rattle.gx_base.specs.declared.event.Head.{Head}
use Rattle.gx_base.specs.declared.event.Event.{Event}
use Rattle.gx_base.specs.declared.event.Event.TheVariants.{Accepted, Triggered, Fill, Cancelled, Expired, Replaced, RefusedNew, RefusedChange, RefusedSession}
use Rattle.gx_station.specs.Stations.{StationMeanings, sent_and}
use Rattle.gx_station.specs.SendLaws.{known_front}
use Rattle.fix_frame.specs.Stream.{messages_of}
use Rattle.product_file.specs.Products.{ProductLists}
use Rattle.product_file.specs.ProductTexts.{product_of}
use Rattle.product_file.specs.declared.faults.ProductFault.{ProductFault}
use Rattle.match_journal.specs.Journal.{Header, IsJournal, Record}
use Rattle.match_journal.specs.Texts.{amended_text}
use Rattle.match_journal.specs.declared.entry.EntryKind.{EntryKind}
use Rattle.match_journal.specs.declared.entry.EntryKind.TheVariants.{Frames, OldImage, Image, Amendment}
use Rattle.match_journal.specs.declared.limits.TheConstants.{MOST_LIMIT}
use Rattle.match_journal.proofs.Heads.{one_journal}
use Rattle.match_journal.proofs.Unique.{one_journal_header}
use Rattle.order_kinds.specs.State.{State}
use Rattle.order_kinds.specs.Histories.{History, of_product, last_product, state_kept, lines_kept}
use Rattle.order_kinds.proofs.FurtherMessages.{state-further, lines-further}
use Rattle.engine_laws.specs.Lines.{count_at, is_firm, goes_to_range, WritesOnly}
use Rattle.engine_laws.proofs.NumberedSteps.{counts-never-fall}
use Rattle.engine_laws.proofs.Unwritten.{messages-written, amended-written}
use Rattle.book_recovery.specs.Histories.{AreGoodFrom, amended_by, history_as, history_behind}
use Rattle.book_recovery.specs.Kept.{HasKept}
use Rattle.book_recovery.specs.Products.{AreProducts}
use Rattle.book_recovery.proofs.Histories.{behind-append, one-product}
use Rattle.book_recovery.proofs.OneWay.{no_bad_record}
use Rattle.exec_report.specs.Forms.{LineText}
use Rattle.fix_session.specs.Again.{goes_to, is_asked, again_text, again_form}
use Rattle.fix_session.specs.declared.again.ReportRange.{ReportRange}
use Rattle.fix_session.specs.declared.again.AgainForm.{AgainForm}
use Rattle.journal_print.specs.LineWorks.{line_work}
use Rattle.journal_print.specs.Resent.{lines_again_kept, SendsAgain}
use Rattle.journal_print.specs.Inner.Publishing.{Publishes, PartPublished}
use Rattle.journal_print.specs.Works.{work_text}
use Rattle.journal_print.specs.declared.records.Until.TheVariants.{Lines as LinesOf}
use Rattle.journal_print.specs.declared.work.Lines.{Lines}
use Rattle.journal_print.specs.declared.unprinted.Unprinted.{Unprinted}
use Rattle.journal_print.specs.declared.unprinted.Unprinted.TheVariants as unprinted
use Rattle.journal_print.proofs.OpenedImages.{not_unfinished}
use Rattle.journal_print.proofs.WholeTexts.{lines-kept}

-- ---- the lines of more records begin with those of fewer

-- some lines begin with others
pub record BeginsWith (all front : List ℕ) : Type 0 where
  pub rest : List ℕ
  pub is : all ≡ front ++ rest

module _ (line : LineText) where
  by-begins : (h : History) (given : Result ProductLists ProductFault) → BeginsWith (lines_kept line (amended_by h given)) (lines_kept line h)
  by-begins h (Ok product) = record { rest = _; is = refl }
  by-begins h (Err fault) = record { rest = []; is = sym (append-nil (lines_kept line h)) }

  as-begins : (h : History) (kind : EntryKind) (payload : List ℕ) → BeginsWith (lines_kept line (history_as h kind payload)) (lines_kept line h)
  as-begins h Frames payload = record { rest = _; is = lines-further line h (messages_of payload) }
  as-begins h OldImage payload = record { rest = []; is = sym (append-nil (lines_kept line h)) }
  as-begins h Image payload = record { rest = []; is = sym (append-nil (lines_kept line h)) }
  as-begins h Amendment payload = by-begins h (product_of (amended_text payload))

  pub behind-begins : (h : History) (records : List Record) → BeginsWith (lines_kept line (history_behind h records)) (lines_kept line h)
  behind-begins h [] = record { rest = []; is = sym (append-nil (lines_kept line h)) }
  behind-begins h (r ∷ records) =
      let one = as-begins h r.kind r.payload in
      let more = behind-begins (history_as h r.kind r.payload) records in
      record {
        rest = one.rest ++ more.rest;
        is = more.is ∙ ap (λ (l : List ℕ). l ++ more.rest) one.is ∙ append_assoc (lines_kept line h) one.rest more.rest;
      }

-- ---- no line of a range comes once its firm has had as many

module _ (range : ReportRange) where
  abbrev line : LineText
  line = again_text range

  same-firm : (firm : ℕ) (to : Option ℕ) → goes_to firm to ≡ is_firm firm to
  same-firm firm None = refl
  same-firm firm (Some other) = refl

  grouped : (a b c : Bool) → a && b && c ≡ a && (b && c)
  grouped true b c = refl
  grouped false b c = refl

  asked_head : (h : Head) → goes_to range.firm h.firm && nat_le range.from h.line && nat_le h.line range.to ≡ is_firm range.firm h.firm && (nat_le range.from h.line && nat_le h.line range.to)
  asked_head h =
      grouped (goes_to range.firm h.firm) (nat_le range.from h.line) (nat_le h.line range.to)
      ∙ ap (λ (b : Bool). b && (nat_le range.from h.line && nat_le h.line range.to)) (same-firm range.firm h.firm)

  -- only what is asked for is sent again
  asked : (e : Event) → is_asked range e ≡ goes_to_range range.firm range.from range.to e
  asked (Accepted head o) = asked_head head
  asked (Triggered head o) = asked_head head
  asked (Fill head o lots price step trade) = asked_head head
  asked (Cancelled head o gone by cause) = asked_head head
  asked (Expired head o gone) = asked_head head
  asked (Replaced head o old before) = asked_head head
  asked (RefusedNew head new fault) = asked_head head
  asked (RefusedChange head id old number filled replace fault) = asked_head head
  asked (RefusedSession head seq tag reason rule) = asked_head head

  unless : (b : Bool) (bytes : List ℕ) → b ≡ false → (if b then bytes else []) ≡ []
  unless true bytes not_so = absurd (cc not_so)
  unless false bytes not_so = refl

  only : WritesOnly range.firm range.from range.to line
  only names e not_so = unless (is_asked range e) _ (asked e ∙ not_so)

  -- its firm has had as many lines
  abbrev IsPast : History → Type 0
  IsPast h = range.to ≤ count_at range.firm (state_kept h)

  -- that stays, and the lines stay
  record StaysPast (h behind : History) : Type 0 where
    past : IsPast behind
    same : lines_kept line behind ≡ lines_kept line h

  by-past : (h : History) (given : Result ProductLists ProductFault) → IsPast h → StaysPast h (amended_by h given)
  by-past h (Ok product) past = record { past = past; same = amended-written range.firm range.from range.to line only h product [] past }
  by-past h (Err fault) past = record { past = past; same = refl }

  as-past : (h : History) (kind : EntryKind) (payload : List ℕ) → IsPast h → StaysPast h (history_as h kind payload)
  as-past h Frames payload past =
      let more = messages_of payload in
      let rises = counts-never-fall (last_product h) (state_kept h) more range.firm in
      record {
        past = subst (λ (s : State). range.to ≤ count_at range.firm s) (sym (state-further h more)) (omega (arith, past, rises));
        same = messages-written range.firm range.from range.to line only h more past;
      }
  as-past h OldImage payload past = record { past = past; same = refl }
  as-past h Image payload past = record { past = past; same = refl }
  as-past h Amendment payload past = by-past h (product_of (amended_text payload)) past

  pub behind-past : (h : History) (records : List Record) → range.to ≤ count_at range.firm (state_kept h) → lines_again_kept range (history_behind h records) ≡ lines_again_kept range h
  behind-past h [] past = refl
  behind-past h (r ∷ records) past =
      let one = as-past h r.kind r.payload past in
      behind-past (history_as h r.kind r.payload) records one.past ∙ one.same

-- ---- what was sent again

module _ {S : Type 0} (m : StationMeanings S) (range : ReportRange) (head : Header) (limit : ℕ) (image : List ℕ) (products : List ProductLists) (records : List Record) (journal : IsJournal head limit records image) (all : AreProducts head records products)
    (old new : S) (lines last : Lines AgainForm) (is_range : lines.form.range ≡ range) (state : State) where
  abbrev first : History
  first = of_product all.first []

  -- what some records have
  abbrev lines_of : List Record → List ℕ
  lines_of before = lines_again_kept range (history_behind first before)

  text_is : (before : List Record) → work_text (line_work again_form) lines (history_behind first before) ≡ lines_of before
  text_is before = lines-kept again_form lines (history_behind first before) ∙ ap (λ (r : ReportRange). lines_again_kept r (history_behind first before)) is_range

  -- the history that an image keeps is that of its records
  module _ (product : ProductLists) (text : List ℕ) (history : History) (most : limit ≤ MOST_LIMIT) (same_limit : limit ≡ product.journal_limit) where
    record IsOf : Type 0 where
      is : history ≡ history_behind first records
      good : AreGoodFrom all.first 0 records

    history_of : HasKept product text history image → IsOf
    history_of (inl unfinished) = absurd (not_unfinished text limit image head records journal unfinished.0)
    history_of (inr (good, is)) =
        let theirs : IsJournal good.head limit good.records image = subst (λ (k : ℕ). IsJournal good.head k good.records image) (sym same_limit) good.journal in
        let heads : good.head ≡ head = one_journal_header good.head head limit image good.records records most theirs journal in
        let same : good.records ≡ records = one_journal head limit image good.records records (subst (λ (h : Header). IsJournal h limit good.records image) heads theirs) journal in
        let product_is : good.first ≡ all.first = one-product good.first all.first head.text (subst (λ (h : Header). product_of h.text ≡ Ok good.first) heads good.gives) all.gives in
        record {
          is = is ∙ ap (λ (p : ProductLists). history_behind (of_product p []) good.records) product_is ∙ ap (history_behind first) same;
          good = subst (AreGoodFrom all.first 0) same (subst (λ (p : ProductLists). AreGoodFrom p 0 good.records) product_is good.good);
        }

    module _ (has : HasKept product text history image) where
      of : IsOf
      of = history_of has

      whole : lines_again_kept range history ≡ lines_of records
      whole = ap (lines_again_kept range) of.is

      -- what the first records have is a part of it
      part : (before behind : List Record) → records ≡ before ++ behind → BeginsWith (lines_again_kept range history) (lines_of before)
      part before behind are =
          let more = behind-begins (again_text range) (history_behind first before) behind in
          record { rest = more.rest; is = whole ∙ ap lines_of are ∙ ap (lines_again_kept range) (behind-append first before behind) ∙ more.is }

      part_sent : PartPublished m (line_work again_form) head limit image products records old new lines last state all → IsKnownPrefix (m.sent new) (sent_and (m.sent old) (lines_again_kept range history))
      part_sent told =
          let front = part told.before told.behind told.are in
          let sent = subst (λ (l : List ℕ). IsKnownPrefix (m.sent new) (sent_and (m.sent old) l)) (text_is told.before) told.sent in
          subst (λ (l : List ℕ). IsKnownPrefix (m.sent new) (sent_and (m.sent old) l)) (sym front.is)
          (known_then (m.sent new) (sent_and (m.sent old) (lines_of told.before)) (sent_and (m.sent old) (lines_of told.before ++ front.rest)) sent (known_front (m.sent old) (lines_of told.before) front.rest))

      pub resent : (r : Result (Unit {0}) Unprinted) → Publishes m (line_work again_form) head limit image products records old new lines last state (LinesOf range) all r → SendsAgain m (lines_again_kept range history) old new r
      resent (Ok t) (inl done) = done.published.sent ∙ ap (sent_and (m.sent old)) (text_is records ∙ sym whole)
      resent (Ok t) (inr enough) =
          let past : range.to ≤ count_at range.firm (state_kept (history_behind first enough.before)) =
          subst (λ (s : State). range.to ≤ count_at range.firm s) enough.published.state_is enough.enough in
          let same : lines_of records ≡ lines_of enough.before =
          ap lines_of enough.are ∙ ap (lines_again_kept range) (behind-append first enough.before enough.behind) ∙ behind-past range (history_behind first enough.before) enough.behind past in
          enough.published.sent ∙ ap (sent_and (m.sent old)) (text_is enough.before ∙ sym same ∙ sym whole)
      resent (Err unprinted.Store) told = part_sent told
      resent (Err unprinted.Send) told = part_sent told
      resent (Err unprinted.NoMemory) told = absurd told
      resent (Err (unprinted.NotAJournal at)) told = absurd told
      resent (Err (unprinted.Bad at)) told = absurd (no_bad_record head limit image records all.first at journal all.gives of.good told.bad)
      resent (Err (unprinted.ProductDiffers at)) told = absurd told
