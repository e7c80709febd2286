-- Frames that were taken from an input, one turn after the other, and how that ends.
use Rattle.std.proofs.Common.{◌≡◌, ◌⊎◌, ⊎_elim, ℕ, ◌+◌, ◌-◌, ◌*◌, ◌<◌, ◌≤◌, List, [], ◌∷◌, ◌++◌, length, take, drop, Option, Result, Ok, refl, sym, ap, subst, ◌∙◌, append_assoc, length-append, arith}
use Rattle.std.specs.List.{All, concat}
use Rattle.std.proofs.lemmas.List.{nil_from_length, take_at, drop_at}
use Rattle.std.proofs.lemmas.List.Elements.{All-nil, All-append}
use Rattle.gx_station.specs.Sources.{and_left, IsAtEnd}
use Rattle.fix_frame.specs.Framing.{Framing}
use Rattle.fix_frame.specs.Grammar.{IsFrame, IsFrameFront, IsPartOfFrame, IsNoFrameFront}
use Rattle.fix_frame.specs.Stream.{messages_of, rest_of}
use Rattle.fix_frame.specs.StreamLaws.{messages_of-append, rest_of-append, messages_of-unfinished, messages_of-refused, rest_of-none}
use Rattle.fix_frame.specs.FrontLaws.{unfinished_front, unfinished_none}
use Rattle.fix_frame.specs.FramingLaws.{concat-append, messages_of-concat, rest_of-concat}
use Rattle.match_journal.specs.Journal.{frames_record}
use Rattle.globex_run.specs.Outside.{SourceAt, Streams}
use Rattle.globex_run.specs.RunResult.{AreAll, BeginsWithFrame, EndsAs, end_of_messages, first_messages}
use Rattle.globex_run.specs.Inner.Serving.{TakesMore, HasNoRoomBehind, AreMostGiven, GivesFrames, IsEmptyFramer}
use Rattle.globex_run.specs.declared.give_frames.Behind.{Behind}
use Rattle.globex_run.specs.declared.ending.Ending.TheVariants.{Done, ReadFault, BadFrame, Truncated, Full}
use Rattle.globex_run.proofs.Lists.{and_left-then, and_left-none}
use Rattle.globex_run.proofs.Additions.{one_length}

-- ---- frames, and what comes after them

pub messages_behind : (frames : List (List ℕ)) (rest : List ℕ) → All IsFrame frames → messages_of (concat frames ++ rest) ≡ frames ++ messages_of rest
messages_behind frames rest are =
    messages_of-append (concat frames) rest
    ∙ ap (λ (l : List ℕ). messages_of (concat frames) ++ messages_of (l ++ rest)) (rest_of-concat frames are)
    ∙ ap (λ (l : List (List ℕ)). l ++ messages_of rest) (messages_of-concat frames are)

rest_behind : (frames : List (List ℕ)) (rest : List ℕ) → All IsFrame frames → rest_of (concat frames ++ rest) ≡ rest_of rest
rest_behind frames rest are =
    rest_of-append (concat frames) rest
    ∙ ap (λ (l : List ℕ). rest_of (l ++ rest)) (rest_of-concat frames are)

-- ---- how a turn goes on

-- each turn takes a message, or the framer holds more
pub turn_falls : (count n : ℕ) (given : List (List ℕ)) (held taken read rest : List ℕ) → n ≡ length given → count + n ≤ 16777215 → length (concat given) + length rest ≤ 8192 → (length taken ≡ 0 → ⊥) → read ≡ held ++ taken → read ≡ concat given ++ rest
    → (16777216 - (count + n)) * 8193 + (8192 - length rest) < (16777216 - count) * 8193 + (8192 - length held)
turn_falls count n [] held taken read rest n_is few fits some is front =
    let sizes : length rest ≡ length held + length taken = sym (ap length front) ∙ ap length is ∙ length-append held taken in
    omega (arith, n_is, few, fits, some, sizes)
turn_falls count n (f ∷ fs) held taken read rest n_is few fits some is front = omega (arith, n_is, few, fits)

-- the place in the input is within the messages taken, each of which is no longer than the framer
pub place_within : (count n at : ℕ) (given : List (List ℕ)) (rest : List ℕ) → n ≡ length given → at ≤ count * 8192 → length (concat given) + length rest ≤ 8192 → at + length (concat given) ≤ (count + n) * 8192
place_within count n at [] rest n_is here fits = omega (arith, n_is, here)
place_within count n at (f ∷ fs) rest n_is here fits = omega (arith, n_is, here, fits)

-- a framer never holds as much as a record of its own may have
no_room : (given : List (List ℕ)) (rest : List ℕ) → length (concat given) + length rest ≤ 8192 → HasNoRoomBehind 16384 given rest → ⊥
no_room [] rest fits long = omega (arith, long.too_long, fits, ap length long.front, length-append long.frame long.more)
no_room (f ∷ fs) rest fits long =
    omega (arith, long.too_long, fits, ap length long.front, length-append long.frame long.more, one_length (frames_record (concat (f ∷ fs))))

-- so another frame stands there, and no more may be taken
pub last_given : (count most n : ℕ) (f : Framing) → n ≡ length f.given → count ≤ 16777215 → most ≡ 16777215 - count → length (concat f.given) + length f.rest ≤ 8192 → HasNoRoomBehind 16384 f.given f.rest ⊎ AreMostGiven most f → ((count + n) + 1 ≡ 16777216) × BeginsWithFrame f.rest
last_given count most n f n_is few is fits full =
    ⊎_elim (λ long. absurd (no_room f.given f.rest fits long)) (λ last. (omega (arith, n_is, last.0, is, few), last.1)) full

-- ---- turns

module _ {I : Type 0} (source : SourceAt I) where
  -- Some frames were taken, and the framer holds what was read after them. No read has failed.
  pub record HasTaken (input : SourceAt I) (frames : List (List ℕ)) (framing : Framing) : Type 0 where
    pub are : All IsFrame frames
    pub took : source.left ≡ and_left (concat frames ++ framing.rest) input.left
    pub offset : framing.offset ≡ length (concat frames)
    pub faults : input.faults ≡ source.faults

  pub taken_first : (framing : Framing) → IsEmptyFramer framing → HasTaken source [] framing
  taken_first framing empty = record {
    are = All-nil IsFrame;
    took = subst (λ (l : List ℕ). source.left ≡ and_left l source.left) (sym empty.rest) (and_left-none source.left);
    offset = empty.offset;
    faults = refl;
  }

  module _ (input : SourceAt I) (frames : List (List ℕ)) (framing : Framing) (turn : HasTaken input frames framing) where
    -- more was read
    pub taken_read : {F : Type 0} (then : SourceAt I) (next : Framing) (n : ℕ) → TakesMore {F = F} input then framing next (Ok n) → HasTaken then frames next
    taken_read then next n takes = record {
      are = turn.are;
      took =
          turn.took
          ∙ ap (λ (l : Option (List ℕ)). and_left (concat frames ++ framing.rest) l) takes.left
          ∙ and_left-then (concat frames ++ framing.rest) takes.taken then.left
          ∙ ap (λ (l : List ℕ). and_left l then.left) (append_assoc (concat frames) framing.rest takes.taken ∙ ap (λ (l : List ℕ). concat frames ++ l) (sym takes.rest));
      offset = takes.offset ∙ turn.offset;
      faults = takes.cause.ok ∙ turn.faults;
    }

    -- frames were given
    pub taken_given : (room most : ℕ) (next : Framing) (stands : Behind) → GivesFrames room most framing next stands → All IsFrame next.given → HasTaken input (frames ++ next.given) next
    taken_given room most next stands gives are = record {
      are = All-append IsFrame frames next.given turn.are are;
      took =
          turn.took
          ∙ ap (λ (l : List ℕ). and_left (concat frames ++ l) input.left) gives.front
          ∙ ap (λ (l : List ℕ). and_left l input.left) (sym (append_assoc (concat frames) (concat next.given) next.rest) ∙ ap (λ (l : List ℕ). l ++ next.rest) (sym (concat-append frames next.given)));
      offset = gives.offset ∙ omega (arith, turn.offset, ap length (concat-append frames next.given), length-append (concat frames) (concat next.given));
      faults = turn.faults;
    }

    -- ---- what the bytes taken are

    abbrev pub taken : List ℕ
    taken = concat frames ++ framing.rest

    pub messages_are : messages_of taken ≡ frames ++ messages_of framing.rest
    messages_are = messages_behind frames framing.rest turn.are

    rest_is : rest_of taken ≡ rest_of framing.rest
    rest_is = rest_behind frames framing.rest turn.are

    pub took_all : (then : SourceAt I) → input.left ≡ then.left → source.left ≡ and_left taken then.left
    took_all then left = turn.took ∙ ap (λ (l : Option (List ℕ)). and_left taken l) left

    -- where nothing was read
    pub nothing_read : {F : Type 0} (then : SourceAt I) (next : Framing) (result : Result ℕ F) (takes : TakesMore input then framing next result) → takes.taken ≡ [] → input.left ≡ then.left
    nothing_read then next result takes none = takes.left ∙ ap (λ (l : List ℕ). and_left l then.left) none ∙ sym (and_left-none then.left)

    -- the source is at its end
    pub none_left : {F : Type 0} (then : SourceAt I) (next : Framing) (n : ℕ) → n ≡ 0 → TakesMore {F = F} input then framing next (Ok n) → (input.left ≡ then.left) × IsAtEnd then.left
    none_left then next n zero takes =
        let left = nothing_read then next (Ok n) takes (nil_from_length takes.taken (omega (arith, takes.count, zero))) in
        (left, subst (λ (l : Option (List ℕ)). IsAtEnd l) left (takes.end zero))

    module _ (count : ℕ) (count_is : count ≡ length frames) where
      pub some_taken : count ≤ length (messages_of taken)
      some_taken = omega (arith, count_is, ap length messages_are, length-append frames (messages_of framing.rest))

      pub first_are : first_messages count taken ≡ frames
      first_are = ap (take count) messages_are ∙ take_at frames (messages_of framing.rest) count (sym count_is)

      all : messages_of framing.rest ≡ [] → AreAll count taken
      all none = omega (arith, count_is, ap length messages_are, length-append frames (messages_of framing.rest), ap length none)

      place_is : (at : ℕ) → at ≡ framing.offset → at ≡ end_of_messages count taken
      place_is at is = is ∙ turn.offset ∙ sym (ap (λ (l : List (List ℕ)). length (concat l)) first_are)

      -- ---- how it ends

      module _ {S : Type 0} (before after : Streams I S) where
        pub taken-read-fault : (at : ℕ) → IsPartOfFrame framing.rest → at ≡ framing.offset + length framing.rest → EndsAs before after (ReadFault at) count taken
        taken-read-fault at front is = (
          omega (arith, is, turn.offset, length-append (concat frames) framing.rest),
          all (messages_of-unfinished framing.rest front),
          subst IsFrameFront (sym (rest_is ∙ rest_of-none framing.rest (unfinished_none framing.rest front))) (unfinished_front framing.rest front),
        )

        pub taken-done : IsAtEnd after.input.left → length framing.rest ≡ 0 → EndsAs before after Done count taken
        taken-done end empty = let none = nil_from_length framing.rest empty in (end, all (ap messages_of none), rest_is ∙ ap rest_of none)

        pub taken-truncated : (at : ℕ) → IsAtEnd after.input.left → at ≡ framing.offset → (length framing.rest ≡ 0 → ⊥) → IsPartOfFrame framing.rest → EndsAs before after (Truncated at) count taken
        taken-truncated at end is holds front =
            let rest = rest_is ∙ rest_of-none framing.rest (unfinished_none framing.rest front) in
            (end, place_is at is, all (messages_of-unfinished framing.rest front), (λ none. holds (ap length (sym rest ∙ none)), subst IsFrameFront (sym rest) (unfinished_front framing.rest front)))

        -- after the frames stand bytes that are the front of none
        pub taken-broken : (at : ℕ) → at ≡ framing.offset → IsNoFrameFront framing.rest → EndsAs before after (BadFrame at) count taken
        taken-broken at is broken =
            let rest = rest_is ∙ rest_of-none framing.rest broken.none in
            (place_is at is, all (messages_of-refused framing.rest broken), λ front. broken.no_front (subst IsFrameFront rest front))

        -- or one more frame than may be taken
        pub taken-full : (at : ℕ) → at ≡ framing.offset → BeginsWithFrame framing.rest → EndsAs before after (Full at) count taken
        taken-full at is follows = (
          place_is at is,
          record {
            frame = follows.frame;
            more = follows.more;
            is_frame = follows.is_frame;
            front = ap (λ k. drop k taken) (is ∙ turn.offset) ∙ drop_at (concat frames) framing.rest (length (concat frames)) refl ∙ follows.front;
          },
        )
