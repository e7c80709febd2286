-- Applying one more of some messages.
use Rattle.std.proofs.Common.{◌≡◌, ℕ, ◌+◌, ◌<◌, List, [], ◌∷◌, ◌++◌, true, length, get_or, take, refl, sym, ap, ◌∙◌, arith, append_assoc, append-nil, length-take-le, take-take}
use Rattle.std.proofs.lemmas.List.{get_or-take, take_more}
use Rattle.std.proofs.lemmas.List.Elements.{All-get_or, All-take, All-same}
use Rattle.gx_base.specs.declared.event.Event.{Event}
use Rattle.product_file.specs.Products.{ProductLists}
use Rattle.fix_request.specs.Requests.{request_of}
use Rattle.fix_request.specs.declared.request.Request.{Request}
use Rattle.order_kinds.specs.State.{State}
use Rattle.order_kinds.specs.Step.{with_message, is_passed, request_step, step_of, state_after, events_from}
use Rattle.book_recovery.specs.Passed.{ArePassed}

state_after-push : (product : ProductLists) (s : State) (xs : List (List ℕ)) (x : List ℕ) → state_after product s (xs ++ x ∷ []) ≡ (step_of product (state_after product s xs) x).0
state_after-push product s [] x = refl
state_after-push product s (y ∷ xs) x = state_after-push product (step_of product s y).0 xs x

events_from-push : (product : ProductLists) (s : State) (xs : List (List ℕ)) (x : List ℕ) → events_from product s (xs ++ x ∷ []) ≡ events_from product s xs ++ (step_of product (state_after product s xs) x).1
events_from-push product s [] x = append-nil (step_of product s x).1
events_from-push product s (y ∷ xs) x =
    let then = (step_of product s y).0 in
    let events = (step_of product s y).1 in
    ap (λ (l : List Event). events ++ l) (events_from-push product then xs x) ∙ sym (append_assoc events (events_from product then xs) (step_of product (state_after product then xs) x).1)

-- of these frames the first k are applied, and the next one is
module _ (product : ProductLists) (start : State) (frames : List (List ℕ)) (k : ℕ) (within : k < length frames) (frame : List ℕ) (is : frame ≡ get_or frames k []) where
  more : take (k + 1) frames ≡ take k frames ++ frame ∷ []
  more = take_more frames k [] within ∙ ap (λ (x : List ℕ). take k frames ++ x ∷ []) (sym is)

  module _ (s : State) (request : Request) (s_is : s ≡ state_after product start (take k frames)) (asked : request ≡ request_of product frame) where
    same : request_step product request (with_message s) ≡ step_of product (state_after product start (take k frames)) frame
    same = ap (λ (r : Request). request_step product r (with_message s)) asked ∙ ap (λ (t : State). step_of product t frame) s_is

    pub state_more : (next : State) → next ≡ (request_step product request (with_message s)).0 → next ≡ state_after product start (take (k + 1) frames)
    state_more next did =
        did ∙ (ap (λ (both : State × List Event). both.0) same ∙ (sym (state_after-push product start (take k frames) frame) ∙ ap (state_after product start) (sym more)))

    pub events_more : events_from product start (take k frames) ++ (request_step product request (with_message s)).1 ≡ events_from product start (take (k + 1) frames)
    events_more =
        ap (λ (both : State × List Event). events_from product start (take k frames) ++ both.1) same
        ∙ (sym (events_from-push product start (take k frames) frame) ∙ ap (events_from product start) (sym more))

  module _ (passed : ArePassed product (take (k + 1) frames)) where
    pub passed_before : ArePassed product (take k frames)
    passed_before =
        All-same (λ (x : List ℕ). is_passed (request_of product x) ≡ true) (take k frames) (take k (take (k + 1) frames)) (sym (take-take k (k + 1) frames (omega arith)))
        (All-take (λ (x : List ℕ). is_passed (request_of product x) ≡ true) k (take (k + 1) frames) passed)

    pub passed_here : (request : Request) → request ≡ request_of product frame → is_passed request ≡ true
    passed_here request asked =
        let long : length (take (k + 1) frames) ≡ k + 1 = length-take-le (k + 1) frames (omega arith) in
        let below : k < length (take (k + 1) frames) = omega arith in
        let read : get_or (take (k + 1) frames) k [] ≡ frame = get_or-take (k + 1) frames k [] (omega arith) ∙ sym is in
        ap is_passed (asked ∙ ap (request_of product) (sym read)) ∙ All-get_or (λ (x : List ℕ). is_passed (request_of product x) ≡ true) (take (k + 1) frames) k [] below passed
