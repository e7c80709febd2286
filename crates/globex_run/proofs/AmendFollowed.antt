-- `amend` where the journal has another text than the one handed in, up to its opening.
use Rattle.std.proofs.Common.{◌≡◌, ◌≢◌, inl, inr, ⊎_elim, ℕ, ◌+◌, ◌<◌, ◌≤◌, Bool, List, length, replicate, Option, Some, None, Result, Ok, Err, option_map, sym, ap, subst, ◌∙◌, arith, refl}
use Rattle.gx_station.specs.Stations.{StationMeanings}
use Rattle.product_file.specs.Products.{ProductLists}
use Rattle.product_file.specs.ProductTexts.{product_of}
use Rattle.product_file.specs.Amendments.{may_follow}
use Rattle.product_file.specs.declared.faults.ProductFault.{ProductFault}
use Rattle.product_file.specs.declared.faults.ProductFault.TheVariants as product_fault
use Rattle.match_journal.specs.LookLaws.{reads_itself}
use Rattle.match_journal.specs.Journal.{Header, IsJournal, Record}
use Rattle.match_journal.specs.Texts.{HasText, PlacedAmendment, PlacedText, last_amendment}
use Rattle.match_journal.specs.BadRecords.{HasBadHeadAt}
use Rattle.match_journal.specs.Opening.{IsOpened, StandsIn}
use Rattle.match_journal.specs.Causes.{LooksOnly, ReadsOnly}
use Rattle.match_journal.specs.Standing.{IsStanding, moved, version_number}
use Rattle.match_journal.specs.declared.limits.TheConstants.{MOST_LIMIT, LEAST_LIMIT, MOST_TEXT}
use Rattle.match_journal.specs.declared.standing.Standing.{Standing}
use Rattle.match_journal.specs.declared.version.Version.{Version}
use Rattle.match_journal.specs.declared.version.Version.TheVariants.{First, Second}
use Rattle.std.specs.Vec.{vec_capacity}
use Rattle.std.specs.Option.{unwrap_or}
use Rattle.gx_base.specs.declared.trading.Trading.TheVariants.{Open}
use Rattle.plain_book.specs.Book.{empty_book}
use Rattle.order_kinds.specs.State.{State, empty_desk, empty_state}
use Rattle.order_kinds.proofs.Amended.{follows}
use Rattle.book_image.specs.Image.{image_len}
use Rattle.book_recovery.specs.Records.{amendment_of}
use Rattle.book_recovery.proofs.AmendmentPayloads.{amendment-has-text}
use Rattle.book_recovery.specs.Recovering.{ChecksHeads, HasRoomFor}
use Rattle.book_recovery.specs.declared.recovery.RecoverFault.{RecoverFault}
use Rattle.book_recovery.specs.declared.recovery.RecoverFault.TheVariants as fault
use Rattle.book_recovery.specs.declared.scratch.Scratch.{Scratch}
use Rattle.globex_run.specs.Amends.{KeepsOtherText, text_gate}
use Rattle.globex_run.specs.Inner.Amending.{AnswersAmend, AmendsJournal}
use Rattle.globex_run.specs.Inner.AmendParts.{HasGoodHeads, IsSecondOf, IsLookedAt, IsLooked, MayAmend, TellsNoProduct}
use Rattle.globex_run.specs.declared.unamended.Unamended.{Unamended}
use Rattle.globex_run.specs.declared.unamended.Unamended.TheVariants.{NoMemory, Store, NotAJournal, Bad, ProductDiffers, Full, NotAmendable}
use Rattle.globex_run.proofs.AmendReads.{refuses}

pub is-first : (v : Version) → version_number v ≡ 1 → v ≡ First
is-first First is = refl
is-first Second is = absurd (omega (arith, is))

pub is-second : (v : Version) → version_number v ≢ 1 → v ≡ Second
is-second First other = absurd (other refl)
is-second Second other = refl

module _ {S : Type 0} (m : StationMeanings S) (product : ProductLists) (text kept_text : List ℕ) (other : kept_text ≢ text) (s : S) (journal : Standing) (looked : IsLooked m s journal kept_text) (image : List ℕ) (held : m.holds s ≡ Some image) where
  abbrev pub stands : StandsIn journal image
  stands = looked.at.stands image held

  pub opened : IsOpened stands.head MOST_LIMIT stands.text image
  opened = subst (λ k. IsOpened stands.head k stands.text image) looked.at.limit stands.opened

  of-text : stands.text.bytes ≡ kept_text
  of-text = looked.is image held stands

  pub another : stands.text.bytes ≢ text
  another same = other (sym of-text ∙ same)

  pub bad-head : (at : ℕ) → HasBadHeadAt stands.head MOST_LIMIT image at → AnswersAmend product text image (Err (Bad at))
  bad-head at bad = inr (inr (inl (stands.head, stands.text, opened, another, bad)))

  module _ (heads : HasGoodHeads image) where
    -- the records of the journal that was looked at
    abbrev pub good : (records : List Record) × IsJournal stands.head MOST_LIMIT records image
    good = heads stands.head stands.text opened

    abbrev pub found : KeepsOtherText text image
    found = record { head = stands.head; placed = stands.text; opened = opened; other = another; records = good.0; heads = good.1 }

    -- its text gives no product
    pub no-product : (fault : ProductFault) → product_of kept_text ≡ Err fault → (place : ℕ) → ((image : List ℕ) (head : Header) (records : List Record) → StandsIn journal image → IsJournal head journal.limit records image → place ≡ text_gate (last_amendment head records))
        → AnswersAmend product text image (Err (Bad place))
    no-product fault refused place place_is =
        let at_gate = place_is image stands.head good.0 stands (subst (λ k. IsJournal stands.head k good.0 image) (sym looked.at.limit) good.1) in
        inr (inr (inr (inl (found, (λ product gives. let e : Err fault ≡ Ok product = sym refused ∙ (ap product_of (sym of-text) ∙ gives) in cc e), at_gate))))

    -- the product may not follow
    pub not-amendable : (kept_product : ProductLists) → product_of kept_text ≡ Ok kept_product → (version : ℕ) → version ≡ version_number journal.version → (at : ℕ) → MayAmend version kept_product product (Err at) → AnswersAmend product text image (Err (NotAmendable at))
    not-amendable kept_product gives version version_is at why =
        let number : version ≡ version_number stands.head.version = version_is ∙ ap version_number stands.version in
        record {
          kept = record { found = found; product = kept_product; gives = ap product_of of-text ∙ gives };
          why = ⊎_elim
              (λ first. inl (is-first stands.head.version (sym number ∙ first.0), first.1))
              (λ second. inr (is-second stands.head.version (λ is. second.0 (number ∙ is)), second.1))
              why;
        }

    -- it may
    pub second-of : (version : ℕ) → version ≡ version_number journal.version → version ≢ 1 → IsSecondOf kept_text image
    second-of version version_is other = record {
      head = stands.head;
      placed = stands.text;
      opened = opened;
      is = of-text;
      second = is-second stands.head.version (λ is. other (version_is ∙ ap version_number stands.version ∙ is));
      records = good.0;
      heads = good.1;
    }

-- ---- a product that may follow another one asks for the same memory

module _ (before after : ProductLists) (may : may_follow before after ≡ Ok tt) where
  orders-stay : before.max_orders ≡ after.max_orders
  orders-stay = (follows before after may).orders

  instruments-stay : length before.names.instruments ≡ length after.names.instruments
  instruments-stay = (follows before after may).instruments

  abbrev empty-as : ℕ → ℕ → State
  empty-as orders instruments = record { book = empty_book orders instruments; last = replicate instruments None; desk = empty_desk; trading = Open }

  -- a new core of it is one of that before
  pub new-before : (core : State) → core ≡ empty_state after → core ≡ empty_state before
  new-before core new = new ∙ ap (λ n. empty-as n (length after.names.instruments)) (sym orders-stay) ∙ ap (λ n. empty-as before.max_orders n) (sym instruments-stay)

  pub room-before : (scratch : Scratch) → HasRoomFor after scratch → HasRoomFor before scratch
  room-before scratch room =
      subst (λ n. 4 + MOST_TEXT + image_len n before.max_orders ≤ vec_capacity scratch.payload) (sym instruments-stay)
      (subst (λ n. 4 + MOST_TEXT + image_len (length after.names.instruments) n ≤ vec_capacity scratch.payload) (sym orders-stay) room)

  pub room-after : (scratch : Scratch) → HasRoomFor before scratch → HasRoomFor after scratch
  room-after scratch room =
      subst (λ n. 4 + MOST_TEXT + image_len n after.max_orders ≤ vec_capacity scratch.payload) instruments-stay
      (subst (λ n. 4 + MOST_TEXT + image_len (length before.names.instruments) n ≤ vec_capacity scratch.payload) orders-stay room)

-- ---- the pass over the heads

module _ {S : Type 0} (m : StationMeanings S) where
  pub first-in-limit : (s : S) (journal : Standing) → IsLookedAt m s journal → journal.first < journal.limit
  first-in-limit s journal at = omega (arith, at.standing.short, at.limit)

  -- a journal that was moved along its image stands there as before
  stands-moved : (journal : Standing) (gate : ℕ) (is_at_end : Bool) (image : List ℕ) → StandsIn journal image → StandsIn (moved journal gate is_at_end) image
  stands-moved journal gate is_at_end image stands = record {
    known = stands.known;
    head = stands.head;
    text = stands.text;
    opened = stands.opened;
    version = stands.version;
    first = stands.first;
    text_at = stands.text_at;
    text_len = stands.text_len;
  }

  abbrev stands-back : (journal : Standing) (gate : ℕ) (is_at_end : Bool) (image : List ℕ) → StandsIn (moved journal gate is_at_end) image → StandsIn journal image
  stands-back journal gate is_at_end image stands = record {
    known = stands.known;
    head = stands.head;
    text = stands.text;
    opened = stands.opened;
    version = stands.version;
    first = stands.first;
    text_at = stands.text_at;
    text_len = stands.text_len;
  }

  moved-looked : (a b : S) (journal : Standing) (gate : ℕ) (is_at_end : Bool) (text : List ℕ) → IsLooked m a journal text → ReadsOnly m a b → IsStanding (moved journal gate is_at_end) → IsLooked m b (moved journal gate is_at_end) text
  moved-looked a b journal gate is_at_end text looked reads standing = record {
    at = record {
      standing = standing;
      limit = looked.at.limit;
      not_lost = looked.at.not_lost;
      reach = omega (arith, looked.at.reach, reads.looks.reach);
      stands = λ image held. stands-moved journal gate is_at_end image (looked.at.stands image (sym reads.looks.keeps.holds ∙ held));
    };
    is = λ image held stands. looked.is image (sym reads.looks.keeps.holds ∙ held) (stands-back journal gate is_at_end image stands);
  }

  pub looked-behind : (a b : S) (journal then : Standing) (text : List ℕ) → IsLooked m a journal text → ReadsOnly m a b → then ≡ moved journal then.gate then.is_at_end → IsStanding then → IsLooked m b then text
  looked-behind a b journal then text looked reads same standing =
      subst (λ (s : Standing). IsLooked m b s text) (sym same) (moved-looked a b journal then.gate then.is_at_end text looked reads (subst IsStanding same standing))

  -- what is told of the heads
  module _ (s : S) (journal : Standing) (text : List ℕ) (looked : IsLooked m s journal text) (image : List ℕ) (held : m.holds s ≡ Some image) (result : Result (Unit {0}) RecoverFault)
      (checks : (head : Header) (placed : PlacedText) (image : List ℕ) → m.holds s ≡ Some image → StandsIn journal image → LEAST_LIMIT ≤ journal.limit → IsOpened head journal.limit placed image → ChecksHeads head journal.limit image result) where
    told : (head : Header) (placed : PlacedText) → IsOpened head MOST_LIMIT placed image → ChecksHeads head MOST_LIMIT image result
    told head placed opened =
        subst (λ k. ChecksHeads head k image result) looked.at.limit
        (checks head placed image held (looked.at.stands image held) (omega (arith, looked.at.limit)) (subst (λ k. IsOpened head k placed image) (sym looked.at.limit) opened))

    pub good-heads : result ≡ Ok tt → HasGoodHeads image
    good-heads is = λ head placed opened. subst (ChecksHeads head MOST_LIMIT image) is (told head placed opened)

    pub bad-heads : (product : ProductLists) (new_text : List ℕ) → text ≢ new_text → (at : ℕ) → result ≡ Err (fault.Bad at) → AnswersAmend product new_text image (Err (Bad at))
    bad-heads product new_text other at is =
        let here = looked.at.stands image held in
        let opened = subst (λ k. IsOpened here.head k here.text image) looked.at.limit here.opened in
        bad-head m product new_text text other s journal looked image held at (subst (ChecksHeads here.head MOST_LIMIT image) is (told here.head here.text opened))

-- ---- one record

pub payload-has-text : (payload text image : List ℕ) → length text ≤ MOST_TEXT → payload ≡ amendment_of text image → HasText payload
payload-has-text payload text image few is = subst HasText (sym is) (amendment-has-text text image few)

-- ---- the text

-- what was read is the last text
pub text-looked : {S : Type 0} (m : StationMeanings S) (a b : S) (journal then : Standing) (most : ℕ) (text : List ℕ) → IsLookedAt m a journal → LooksOnly m a b most → then ≡ journal → ((image : List ℕ) → m.holds a ≡ Some image → (stands : StandsIn journal image) → text ≡ stands.text.bytes) → IsLooked m b then text
text-looked m a b journal then most text at looks same is =
    subst (λ (s : Standing). IsLooked m b s text) (sym same) record {
      at = record {
        standing = at.standing;
        limit = at.limit;
        not_lost = at.not_lost;
        reach = omega (arith, at.reach, looks.reach);
        stands = λ image held. at.stands image (sym looks.keeps.holds ∙ held);
      };
      is = λ image held stands. sym (is image (sym looks.keeps.holds ∙ held) stands);
    }

-- ---- a text without a product

-- the place of the text of an amendment, or of the header's
pub gate-or : (last : Option PlacedAmendment) → unwrap_or (option_map (λ (last : PlacedAmendment). last.gate) last) 9 ≡ text_gate last
gate-or None = refl
gate-or (Some last) = refl

pub refuses-product : {S : Type 0} (m : StationMeanings S) (product : ProductLists) (text kept_text : List ℕ) (other : kept_text ≢ text) (s : S) (journal : Standing) (looked : IsLooked m s journal kept_text) → ((image : List ℕ) → m.holds s ≡ Some image → HasGoodHeads image)
    → (fault : ProductFault) → (fault ≢ product_fault.NoMemory → product_of kept_text ≡ Err fault) → (why : Unamended) → TellsNoProduct journal fault why → AmendsJournal m product text s s (Err why)
refuses-product m product text kept_text other s journal looked heads fault refused NoMemory tells =
    refuses m product text s s NoMemory tt (reads_itself m s) (λ is. cc is) (λ other. refl) (λ image held. found m product text kept_text other s journal looked image held (heads image held))
refuses-product m product text kept_text other s journal looked heads fault refused Store tells = absurd tells
refuses-product m product text kept_text other s journal looked heads fault refused (NotAJournal at) tells = absurd tells
refuses-product m product text kept_text other s journal looked heads fault refused (Bad at) tells =
    refuses m product text s s (Bad at) tt (reads_itself m s) (λ is. cc is) (λ other. refl) (λ image held. no-product m product text kept_text other s journal looked image held (heads image held) fault (refused tells.0) at tells.1)
refuses-product m product text kept_text other s journal looked heads fault refused (ProductDiffers at) tells = absurd tells
refuses-product m product text kept_text other s journal looked heads fault refused (Full at) tells = absurd tells
refuses-product m product text kept_text other s journal looked heads fault refused (NotAmendable at) tells = absurd tells
