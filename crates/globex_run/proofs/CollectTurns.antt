-- How collecting goes on, turn by turn, and how it ends.
use Rattle.std.proofs.Common.{◌≡◌, ℕ, ◌+◌, ◌<◌, List, [], ◌∷◌, ◌++◌, length, get_or, take, Ok, Err, refl, sym, ap, subst, ◌∙◌, length-append, arith}
use Rattle.std.proofs.lemmas.List.{take_more}
use Rattle.std.specs.List.{All}
use Rattle.gx_station.specs.Counts.{Rose}
use Rattle.gx_station.specs.Sources.{and_left}
use Rattle.fix_frame.specs.Framing.{Framing}
use Rattle.fix_frame.specs.Grammar.{IsFrame, IsPartOfFrame, IsNoFrameFront}
use Rattle.product_file.specs.Products.{ProductLists}
use Rattle.fix_request.specs.Requests.{request_of}
use Rattle.fix_request.specs.declared.request.Request.{Request}
use Rattle.order_kinds.specs.State.{State, state_numbered}
use Rattle.order_kinds.specs.Cores.{AreNumbered}
use Rattle.order_kinds.specs.Collecting.{collect_step, collected}
use Rattle.order_kinds.specs.declared.core_state.TheConstants.{MOST_MESSAGES}
use Rattle.globex_run.specs.Outside.{SourceAt}
use Rattle.globex_run.specs.OpeningPrices.{IsCounted}
use Rattle.globex_run.specs.RunResult.{BeginsWithFrame, EndsAs}
use Rattle.globex_run.specs.Inner.Collecting.{CollectsFrames, CollectsInput, IsOfInput, input_alone}
use Rattle.globex_run.specs.Inner.Serving.{TakesMore, GivesFrames, IsEmptyFramer, CausedBy}
use Rattle.globex_run.specs.declared.give_frames.Behind.{Behind}
use Rattle.globex_run.specs.declared.ending.Ending.{Ending}
use Rattle.globex_run.specs.declared.ending.Ending.TheVariants.{Done, ReadFault, BadFrame, Truncated, Full}
use Rattle.globex_run.proofs.FrameTurns.{HasTaken, taken_first, taken_read, taken_given, taken, first_are, some_taken, took_all, nothing_read, none_left, taken-read-fault, taken-done, taken-truncated, taken-broken, taken-full}

-- ---- frames, one after the other

collected-append : (product : ProductLists) (state : State) (xs ys : List (List ℕ)) → collected product state (xs ++ ys) ≡ collected product (collected product state xs) ys
collected-append product state [] ys = refl
collected-append product state (x ∷ xs) ys = collected-append product (collect_step product (request_of product x) state) xs ys

module _ (product : ProductLists) where
  pub collects-none : (state : State) → CollectsFrames product state state []
  collects-none state = record { count = omega arith; numbered = λ are. are; state = λ are. refl }

  pub collects-then : (a b c : State) (xs ys : List (List ℕ)) → CollectsFrames product a b xs → CollectsFrames product b c ys → CollectsFrames product a c (xs ++ ys)
  collects-then a b c xs ys first second = record {
    count = omega (arith, first.count, second.count, length-append xs ys);
    numbered = λ are. second.numbered (first.numbered are);
    state = λ are.
        second.state (first.numbered are)
        ∙ ap (λ (s : State). collected product s ys) (first.state are)
        ∙ sym (collected-append product (state_numbered a) xs ys);
  }

  -- one more of some frames
  pub collects-more : (a b c : State) (frames : List (List ℕ)) (k : ℕ) (within : k < length frames) (frame : List ℕ) (is : frame ≡ get_or frames k []) (request : Request) → request ≡ request_of product frame
      → CollectsFrames product a b (take k frames) → c.desk.messages ≡ b.desk.messages + 1 → (AreNumbered b → AreNumbered c) → (AreNumbered b → state_numbered c ≡ collect_step product request (state_numbered b))
      → CollectsFrames product a c (take (k + 1) frames)
  collects-more a b c frames k within frame is request asked before count numbered step =
      let one : CollectsFrames product b c (frame ∷ []) = record {
        count = count;
        numbered = numbered;
        state = λ are. step are ∙ ap (λ (r : Request). collect_step product r (state_numbered b)) asked;
      } in
      let more : take (k + 1) frames ≡ take k frames ++ frame ∷ [] = take_more frames k [] within ∙ ap (λ (x : List ℕ). take k frames ++ x ∷ []) (sym is) in
      subst (λ (l : List (List ℕ)). CollectsFrames product a c l) (sym more) (collects-then a b c (take k frames) (frame ∷ []) before one)

-- ---- turns

module _ {I : Type 0} (product : ProductLists) (source : SourceAt I) (old : State) where
  -- Some frames were collected, and the framer holds what was read after them. No read has failed.
  pub record IsCollecting (input : SourceAt I) (state : State) (framing : Framing) : Type 0 where
    pub frames : List (List ℕ)
    pub taken : HasTaken source input frames framing
    pub collects : CollectsFrames product old state frames
    pub few : state.desk.messages < MOST_MESSAGES

  pub collect-first : (framing : Framing) → IsEmptyFramer framing → old.desk.messages < MOST_MESSAGES → IsCollecting source old framing
  collect-first framing empty few = record { frames = []; taken = taken_first source framing empty; collects = collects-none product old; few = few }

  module _ (input : SourceAt I) (state : State) (framing : Framing) (turn : IsCollecting input state framing) where
    -- more was read
    pub collect-read : {F : Type 0} (then : SourceAt I) (next : Framing) (n : ℕ) → TakesMore {F = F} input then framing next (Ok n) → IsCollecting then state next
    collect-read then next n takes =
        record { frames = turn.frames; taken = taken_read source input turn.frames framing turn.taken then next n takes; collects = turn.collects; few = turn.few }

    -- frames were given, and collected
    pub collect-given : (room most : ℕ) (next : Framing) (stands : Behind) → GivesFrames room most framing next stands → All IsFrame next.given → (then : State) → CollectsFrames product state then next.given → then.desk.messages < MOST_MESSAGES → IsCollecting input then next
    collect-given room most next stands gives are then did few = record {
      frames = turn.frames ++ next.given;
      taken = taken_given source input turn.frames framing turn.taken room most next stands gives are;
      collects = collects-then product old state then turn.frames next.given turn.collects did;
      few = few;
    }

    -- ---- no more was collected

    abbrev Ends : SourceAt I → Ending → Type 0
    Ends then ending = CollectsInput product source then old state ending

    abbrev bytes : List ℕ
    bytes = taken source input turn.frames framing turn.taken

    ends_as : (then : SourceAt I) (ending : Ending) → IsOfInput ending → source.left ≡ and_left bytes then.left → EndsAs (input_alone source) (input_alone then) ending (length turn.frames) bytes → IsCounted ending state.desk.messages
        → CausedBy ending (input_alone source) (input_alone then) → Ends then ending
    ends_as then ending of_input took ends counted cause = record {
      of_input = of_input;
      count = length turn.frames;
      taken = bytes;
      took = took;
      some = some_taken source input turn.frames framing turn.taken (length turn.frames) refl;
      ends = ends;
      collects = subst (λ (l : List (List ℕ)). CollectsFrames product old state l) (sym (first_are source input turn.frames framing turn.taken (length turn.frames) refl)) turn.collects;
      counted = counted;
      cause = cause;
    }

    module _ {F : Type 0} (then : SourceAt I) (next : Framing) where
      pub collect-read-fault : (fault : F) (at : ℕ) → TakesMore input then framing next (Err fault) → IsPartOfFrame framing.rest → at ≡ framing.offset + length framing.rest → Ends then (ReadFault at)
      collect-read-fault fault at takes front is =
          ends_as then (ReadFault at) tt (took_all source input turn.frames framing turn.taken then (nothing_read source input turn.frames framing turn.taken then next (Err fault) takes takes.none))
          (taken-read-fault source input turn.frames framing turn.taken (length turn.frames) refl (input_alone source) (input_alone then) at front is) turn.few
          (subst (λ k. Rose k then.faults) turn.taken.faults takes.cause.failed, refl, refl)

      module _ (n : ℕ) (zero : n ≡ 0) (takes : TakesMore {F = F} input then framing next (Ok n)) where
        pub collect-done : length framing.rest ≡ 0 → Ends then Done
        collect-done empty =
            let end = none_left source input turn.frames framing turn.taken then next n zero takes in
            ends_as then Done tt (took_all source input turn.frames framing turn.taken then end.0) (taken-done source input turn.frames framing turn.taken (length turn.frames) refl (input_alone source) (input_alone then) end.1 empty) turn.few
            (takes.cause.ok ∙ turn.taken.faults, refl, refl)

        pub collect-truncated : (at : ℕ) → at ≡ framing.offset → (length framing.rest ≡ 0 → ⊥) → IsPartOfFrame framing.rest → Ends then (Truncated at)
        collect-truncated at is holds front =
            let end = none_left source input turn.frames framing turn.taken then next n zero takes in
            ends_as then (Truncated at) tt (took_all source input turn.frames framing turn.taken then end.0)
            (taken-truncated source input turn.frames framing turn.taken (length turn.frames) refl (input_alone source) (input_alone then) at end.1 is holds front) turn.few
            (takes.cause.ok ∙ turn.taken.faults, refl, refl)

    pub collect-broken : (at : ℕ) → at ≡ framing.offset → IsNoFrameFront framing.rest → Ends input (BadFrame at)
    collect-broken at is broken =
        ends_as input (BadFrame at) tt turn.taken.took (taken-broken source input turn.frames framing turn.taken (length turn.frames) refl (input_alone source) (input_alone input) at is broken) turn.few
        (turn.taken.faults, refl, refl)

    pub collect-full : (at : ℕ) → at ≡ framing.offset → (state.desk.messages + 1 ≡ MOST_MESSAGES) × BeginsWithFrame framing.rest → Ends input (Full at)
    collect-full at is last =
        ends_as input (Full at) tt turn.taken.took (taken-full source input turn.frames framing turn.taken (length turn.frames) refl (input_alone source) (input_alone input) at is last.1) last.0
        (turn.taken.faults, refl, refl)
