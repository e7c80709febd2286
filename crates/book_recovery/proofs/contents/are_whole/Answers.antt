use Rattle.std.proofs.Common.{◌≡◌, ℕ, List, [], ◌++◌, length, sym, ◌∙◌, ap, arith, eq-eqb, append-nil}
use Rattle.std.specs.Prelude.{◌↔◌, IsTrue, nat_eq}
use Rattle.std.proofs.lemmas.Bool.{eqb-true}
use Rattle.std.proofs.lemmas.List.{nil_from_length}
use Rattle.fix_frame.specs.Framing.{Framing}
use Rattle.fix_frame.specs.Stream.{rest_of}
use Rattle.fix_frame.specs.StreamLaws.{messages_of-none, rest_of-none}
use Rattle.book_recovery.proofs.GivenFrames.{rest_left, given_left, least_left, none_left}
use Rattle.book_recovery.proofs.contents.are_whole.Goals as goal

no_bytes : (rest left : List ℕ) (n : ℕ) → rest ≡ left → n ≡ length left → IsTrue (nat_eq n 0) ↔ (rest ≡ [])
no_bytes rest left n is count = (
  λ none. is ∙ nil_from_length left (sym count ∙ eqb-true n 0 none),
  λ none. eq-eqb n 0 (count ∙ ap length (sym is ∙ none)),
)

pub frames-preserved : goal.frames-preserved
frames-preserved c = record {
  rest = sym (rest_left c.frames.framer c.next.new.self _ _ c.in-Frame.ensures.front) ∙ c.frames.invariant.rest;
  given = given_left c.frames.framer c.next.new.self _ _ c.in-Frame.ensures.front ∙ c.frames.invariant.given;
}

pub returns : goal.returns
returns c =
    let none = none_left c.frames.framer c.next.new.self c.next.result c.in_default.not-Frame c.next.ensures.front in
    let left = sym c.frames.invariant.rest ∙ rest_of-none c.frames.framer.rest none.1 ∙ sym (ap (λ (f : Framing). f.rest) none.0) in
    let no_message = messages_of-none c.frames.framer.rest none.1 in
    record {
      whole = no_bytes (rest_of c.args.framer.now.rest) c.next.new.self.rest c.rest.result left c.rest.ensures.count;
      given =
          ap (λ (f : Framing). f.given) none.0 ∙ sym (append-nil c.frames.framer.given)
          ∙ ap (λ (l : List (List ℕ)). c.frames.framer.given ++ l) (sym no_message) ∙ c.frames.invariant.given;
      rest = sym left;
    }

pub frames-smaller : goal.frames-smaller
frames-smaller c = omega (arith, least_left c.frames.framer c.next.new.self _ _ c.in-Frame.ensures.front)
