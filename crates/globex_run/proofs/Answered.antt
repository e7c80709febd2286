-- Where a command can start and no fault comes, all messages of the input are answered that can be counted.
use Rattle.std.proofs.Common.{◌≡◌, ◌≢◌, inl, inr, ⊎_elim, ℕ, ◌+◌, ◌<◌, ◌≤◌, List, [], ◌∷◌, ◌++◌, length, take, drop, Some, Result, Ok, Err, refl, sym, ap, subst, ◌∙◌, append_assoc, length-append, arith}
use Rattle.std.proofs.lemmas.List.{append-nil, take-append-drop, length-take-le}
use Rattle.std.proofs.Math.Seq.{drop-append_seam}
use Rattle.std.specs.List.{concat}
use Rattle.gx_station.specs.Stations.{StationMeanings}
use Rattle.fix_frame.specs.Grammar.{IsNoFrameFront}
use Rattle.fix_frame.specs.FrontLaws.{refused_more}
use Rattle.fix_frame.specs.Stream.{messages_of, rest_of, IsBroken, IsCut}
use Rattle.fix_frame.specs.StreamLaws.{concat-messages_of, messages_of-append, messages_of-refused, messages_of-frame-append, rest_of-begins_with_none, messages_of-none}
use Rattle.fix_frame.specs.FramingLaws.{concat-append}
use Rattle.product_file.specs.Products.{ProductLists}
use Rattle.product_file.specs.ProductTexts.{product_of}
use Rattle.order_kinds.specs.Histories.{History}
use Rattle.order_kinds.specs.declared.core_state.TheConstants.{MOST_MESSAGES}
use Rattle.book_recovery.specs.Kept.{IsStartable}
use Rattle.journal_print.specs.declared.unprinted.Unprinted.{Unprinted}
use Rattle.journal_print.specs.declared.unprinted.Unprinted.TheVariants as unprinted
use Rattle.globex_run.specs.Outside.{SourceAt, Streams, station_at}
use Rattle.globex_run.specs.Outcomes.{outcome_of}
use Rattle.globex_run.specs.RunResult.{EndsAs, BeginsWithFrame, end_of_messages, bytes_at}
use Rattle.globex_run.specs.Prints.{outcome_printed}
use Rattle.globex_run.specs.Answering.{IsUnreadable, AnswersBy, AnswersSession, IsAnswered}
use Rattle.globex_run.specs.declared.outcome.Outcome.{Outcome}
use Rattle.globex_run.specs.declared.ending.Ending.{Ending}
use Rattle.globex_run.specs.declared.ending.Ending.TheVariants.{Done, ReadFault, StoreFault, SendFault, BadFrame, Truncated, NotAJournal, JournalBad, ProductDiffers, Full}
use Rattle.globex_run.proofs.Complete.{broken_more}
use Rattle.globex_run.proofs.Endings.{status_of}
use Rattle.globex_run.proofs.Told.{left_parts, nil_from_end}
use Rattle.globex_run.proofs.StartableImages.{not-foreign, not-bad-front, not-bad-record, not-other}

abbrev pub unprinted-answer : Unprinted → Result ℕ Unprinted
unprinted-answer why = Err why

-- ---- the messages of some bytes, and of more

pub more-messages : (taken rest : List ℕ) → length (messages_of taken) ≤ length (messages_of (taken ++ rest))
more-messages taken rest =
    let parts = ap length (messages_of-append taken rest) in
    omega (arith, parts, length-append (messages_of taken) (messages_of (rest_of taken ++ rest)))

-- after bytes that are broken stands no further message
pub broken-messages : (taken rest : List ℕ) → IsBroken taken → messages_of (taken ++ rest) ≡ messages_of taken
broken-messages taken rest broken =
    let refused : IsNoFrameFront (rest_of taken ++ rest) = refused_more (rest_of taken) rest (record { none = rest_of-begins_with_none taken; no_front = broken }) in
    messages_of-append taken rest ∙ ap (λ (l : List (List ℕ)). messages_of taken ++ l) (messages_of-refused (rest_of taken ++ rest) refused) ∙ append-nil (messages_of taken)

-- what comes after the first messages are the others, and then the rest
behind-first : (count : ℕ) (taken : List ℕ) → bytes_at (end_of_messages count taken) taken ≡ concat (drop count (messages_of taken)) ++ rest_of taken
behind-first count taken =
    let first = take count (messages_of taken) in
    let others = drop count (messages_of taken) in
    let whole : taken ≡ concat first ++ (concat others ++ rest_of taken) =
    sym (concat-messages_of taken)
    ∙ ap (λ (l : List (List ℕ)). concat l ++ rest_of taken) (sym (take-append-drop count (messages_of taken)))
    ∙ ap (λ (l : List ℕ). l ++ rest_of taken) (concat-append first others)
    ∙ append_assoc (concat first) (concat others) (rest_of taken) in
    ap (λ (l : List ℕ). drop (length (concat first)) l) whole ∙ drop-append_seam (concat first) (concat others ++ rest_of taken)

-- a frame there is a message more
pub counted-more : (count : ℕ) (taken : List ℕ) → count ≤ length (messages_of taken) → BeginsWithFrame (bytes_at (end_of_messages count taken) taken) → count + 1 ≤ length (messages_of taken)
counted-more count taken within begins = by-others (drop count (messages_of taken)) refl
  where
    by-others : (others : List (List ℕ)) → drop count (messages_of taken) ≡ others → count + 1 ≤ length (messages_of taken)
    by-others [] none =
        let here : begins.frame ++ begins.more ≡ rest_of taken = sym begins.front ∙ behind-first count taken ∙ ap (λ (l : List (List ℕ)). concat l ++ rest_of taken) none in
        let some : messages_of (rest_of taken) ≡ begins.frame ∷ messages_of begins.more = ap messages_of (sym here) ∙ messages_of-frame-append begins.frame begins.more begins.is_frame in
        let no : messages_of (rest_of taken) ≡ [] = messages_of-none (rest_of taken) (rest_of-begins_with_none taken) in
        absurd (let e : begins.frame ∷ messages_of begins.more ≡ [] = sym some ∙ no in cc e)
    by-others (frame ∷ frames) some =
        let parts = ap length (take-append-drop count (messages_of taken)) in
        let long = ap length some in
        omega (arith, parts, long, length-append (take count (messages_of taken)) (drop count (messages_of taken)), length-take-le count (messages_of taken) within)

-- ---- how it ends

module _ {P I S : Type 0} (m : StationMeanings S) (p q : SourceAt P) (i j : SourceAt I) (old new : S) (outcome : Outcome) (quiet : (outcome.status ≢ 5) × (outcome.status ≢ 6)) (read : outcome.status ≢ 4) (lacks : outcome.status ≢ 1) (product : ProductLists) (text : List ℕ) (gives : product_of text ≡ Ok product) (image : List ℕ) (known : m.holds old ≡ Some image) (kept : History) (start : IsStartable product text kept image) (bytes : List ℕ) (input_known : i.left ≡ Some bytes) where
  abbrev entry : Streams I S
  entry = record { input = i; station = station_at m old }

  abbrev exit : Streams I S
  exit = record { input = j; station = station_at m new }

  stopped-well : (why : Unprinted) → outcome ≡ outcome_printed (Err why) → IsUnreadable product text image why → ⊥
  stopped-well unprinted.Store is fits = quiet.0 (ap (λ (o : Outcome). o.status) is)
  stopped-well unprinted.Send is fits = fits
  stopped-well unprinted.NoMemory is fits = lacks (ap (λ (o : Outcome). o.status) is)
  stopped-well (unprinted.NotAJournal at) is fits = not-foreign product text image kept gives start at fits
  stopped-well (unprinted.Bad at) is fits = ⊎_elim (λ front. not-bad-front product text image kept gives start at front) (λ bad. not-bad-record product text image kept gives start at bad.0 bad.1) fits
  stopped-well (unprinted.ProductDiffers at) is fits = not-other product text image kept gives start at fits

  module _ (taken rest : List ℕ) (left : j.left ≡ Some rest) (all : bytes ≡ taken ++ rest) (some : outcome.messages ≤ length (messages_of taken)) (few : outcome.messages < MOST_MESSAGES) where
    all-taken : rest ≡ [] → taken ≡ bytes
    all-taken none = sym (append-nil taken) ∙ ap (λ (l : List ℕ). taken ++ l) (sym none) ∙ sym all

    by-ending : (ending : Ending) (history : History) → outcome ≡ outcome_of ending outcome.messages → EndsAs entry exit ending outcome.messages taken → AnswersBy m product history old new ending outcome.messages taken → IsAnswered bytes outcome.status
    by-ending Done history is ends by =
        let whole = all-taken (nil_from_end j.left rest left ends.0) in
        let count = ap (λ (l : List ℕ). length (messages_of l)) whole in
        inl (omega (arith, few, ends.1, count), inl (status_of outcome Done is, subst (λ (l : List ℕ). rest_of l ≡ []) whole ends.2))
    by-ending (ReadFault place) history is ends by = absurd (read (status_of outcome (ReadFault place) is))
    by-ending StoreFault history is ends by = absurd (quiet.0 (status_of outcome StoreFault is))
    by-ending SendFault history is ends by = absurd (quiet.1 (status_of outcome SendFault is))
    by-ending (BadFrame place) history is ends by =
        let count = ap (λ (l : List ℕ). length (messages_of l)) all ∙ ap length (broken-messages taken rest ends.2) in
        inl (omega (arith, few, ends.1, count), inr (inr (status_of outcome (BadFrame place) is, subst (λ (l : List ℕ). IsBroken l) (sym all) (broken_more taken rest ends.2))))
    by-ending (Truncated place) history is ends by =
        let whole = all-taken (nil_from_end j.left rest left ends.0) in
        let count = ap (λ (l : List ℕ). length (messages_of l)) whole in
        inl (omega (arith, few, ends.2, count), inr (inl (status_of outcome (Truncated place) is, subst (λ (l : List ℕ). IsCut l) whole ends.3)))
    by-ending (NotAJournal place) history is ends by = absurd by
    by-ending (JournalBad place) history is ends by = absurd by
    by-ending (ProductDiffers place) history is ends by = absurd by
    by-ending (Full place) history is ends by =
        let more = counted-more outcome.messages taken some (subst (λ (n : ℕ). BeginsWithFrame (bytes_at n taken)) ends.0 ends.1) in
        let grown = more-messages taken rest in
        let count = ap (λ (l : List ℕ). length (messages_of l)) all in
        inr (omega (arith, by.1, more, grown, count), status_of outcome (Full place) is)

  pub answered-well : AnswersSession m product text entry exit outcome → IsAnswered bytes outcome.status
  answered-well (inl stopped) = absurd (stopped-well stopped.why stopped.is (stopped.fits image known))
  answered-well (inr did) =
      let taken = did.answers.serving.taken in
      let parts = left_parts j.left bytes taken (sym input_known ∙ did.answers.serving.took) in
      let at = did.answers.answers image known in
      by-ending taken parts.0 parts.1 parts.2 did.answers.serving.some did.answers.few did.ending at.0 did.is did.answers.serving.ends at.1.1
