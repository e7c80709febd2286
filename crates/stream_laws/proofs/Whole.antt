-- No SOH is in a number, whatever it is, nor in the time of an event.
use Rattle.std.proofs.Common.{◌≡◌, ℕ, zero, suc, ◌+◌, ◌/◌, ◌%◌, ◌≤◌, Bool, true, false, cond, not, ◌||◌, List, [], ◌∷◌, decimal, nat_lt, ◌&&◌, Some, None, refl, ap, arith, inl, inr, true≢false}
use Rattle.std.specs.Prelude.{◌==◌}
use Rattle.std.specs.Fmt.{digits, digits_onto, digit_glyph}
use Rattle.std.specs.List.{list_any}
use Rattle.std.proofs.lemmas.Bool.{and_from}
use Rattle.std.proofs.lemmas.Bool.Decides.{eqb_tells}
use Rattle.gx_base.specs.declared.event.Event.{Event}
use Rattle.gx_base.specs.declared.event.Event.TheVariants.{Accepted, Triggered, Fill, Cancelled, Expired, Replaced, RefusedNew, RefusedChange, RefusedSession}
use Rattle.fix_request.specs.Fields.{is_soh}
use Rattle.stream_laws.specs.Texts.{HasTexts}
use Rattle.fix_session.specs.Again.{head_in}
use Rattle.fix_session.proofs.SessionLaws.{IsWhole}

-- ---- numbers: their digits are from 48 on

glyph_above : (upper : Bool) (d : ℕ) → 2 ≤ digit_glyph upper d
glyph_above upper d =
    let go : (a b : Bool) → 2 ≤ cond a (48 + d) (cond b (55 + d) (87 + d)) = elim [ true ↦ λ b. omega arith | false ↦ elim [ true ↦ omega arith | false ↦ omega arith ] ] in
    go (nat_lt d 10) upper

whole_more : (c : ℕ) (text : List ℕ) → 2 ≤ c → IsWhole text → IsWhole (c ∷ text)
whole_more c text above h =
    let other : is_soh c ≡ false = elim (eqb_tells c 1) [ inl t ↦ absurd (omega (arith, above, t.1)) | inr t ↦ t.0 ] in
    and_from (not (is_soh c)) _ (ap not other) h

digits_whole : (k n : ℕ) (text : List ℕ) → IsWhole text → IsWhole (digits_onto k 10 false n text)
digits_whole zero n text h = h
digits_whole (suc k) n text h =
    let c = digit_glyph false (n % 10) in
    let one = whole_more c text (glyph_above false (n % 10)) h in
    let more = digits_whole k (n / 10) (c ∷ text) one in
    let go : (b : Bool) → IsWhole (cond b (c ∷ text) (digits_onto k 10 false (n / 10) (c ∷ text))) = elim [ true ↦ one | false ↦ more ] in
    go (n / 10 == 0)

pub number-whole : (n : ℕ) → IsWhole (decimal n)
unfolding digits
number-whole n = digits_whole 64 n [] refl

-- ---- times

plain_whole : (text : List ℕ) → list_any is_soh text ≡ false → IsWhole text
plain_whole [] h = refl
plain_whole (c ∷ text) h = by_test (is_soh c) (list_any is_soh text) _ h (plain_whole text)
  where
    by_test : (p q r : Bool) → (p || q) ≡ false → (q ≡ false → r ≡ true) → (not p && r) ≡ true
    by_test true q r h k = absurd (true≢false h)
    by_test false q r h k = k h

pub time-whole : (event : Event) → HasTexts event → IsWhole (head_in event).time
time-whole (Accepted head order) texts = plain_whole head.time texts.0.plain
time-whole (Triggered head order) texts = plain_whole head.time texts.0.plain
time-whole (Fill head order lots price step trade) texts = plain_whole head.time texts.0.plain
time-whole (Cancelled head order gone None cause) texts = plain_whole head.time texts.0.plain
time-whole (Cancelled head order gone (Some by) cause) texts = plain_whole head.time texts.0.plain
time-whole (Expired head order gone) texts = plain_whole head.time texts.0.plain
time-whole (Replaced head order old old_quantity) texts = plain_whole head.time texts.0.plain
time-whole (RefusedNew head order fault) texts = plain_whole head.time texts.0.plain
time-whole (RefusedChange head id old number filled replace fault) texts = plain_whole head.time texts.0.plain
time-whole (RefusedSession head seq tag reason rule) texts = plain_whole head.time texts.0.plain
