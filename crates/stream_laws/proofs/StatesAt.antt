-- The levels after each message of a history are those of the state at that time.
use Rattle.std.proofs.Common.{◌≡◌, ℕ, ◌+◌, ◌-◌, ◌<◌, ◌≤◌, Bool, true, false, cond, List, [], ◌∷◌, ◌++◌, length, length-append, take, get_or, refl, sym, ap, ap₂, ◌∙◌, arith}
use Prim.Native.Nat.{zero, suc}
use Rattle.std.specs.Prelude.{nat_le}
use Rattle.std.proofs.lemmas.Bool.{leb-true, leb-false}
use Rattle.std.proofs.lemmas.List.{get_or_append_left, get_or-append-add, take_all}
use Rattle.product_file.specs.Products.{ProductLists}
use Rattle.order_kinds.specs.State.{State, empty_state}
use Rattle.order_kinds.specs.Step.{state_after, step_of}
use Rattle.order_kinds.specs.Amendments.{amended_state}
use Rattle.order_kinds.specs.Histories.{History, of_product, amended, length_kept, state_kept}
use Rattle.level_feed.specs.declared.row.Row.{Row}
use Rattle.level_feed.specs.Laws.{levels_at}
use Rattle.level_feed.specs.Feeds.{levels_of_state, levels_from, levels_kept}
use Rattle.stream_laws.specs.FeedLaws.{state_at}
use Rattle.stream_laws.proofs.Amended.{levels-amended}

-- ---- the messages of one product

pub length-from : (product : ProductLists) (state : State) (frames : List (List ℕ)) → length (levels_from product state frames) ≡ length frames
length-from product state [] = refl
length-from product state (frame ∷ frames) = ap suc (length-from product (step_of product state frame).0 frames)

pub from-at : (product : ProductLists) (state : State) (frames : List (List ℕ)) (m : ℕ) → m < length frames → get_or (levels_from product state frames) m [] ≡ levels_of_state (state_after product state (take (suc m) frames))
from-at product state [] m lt = absurd (omega arith)
from-at product state (frame ∷ frames) zero lt = refl
from-at product state (frame ∷ frames) (suc m) lt = let less : suc m < suc (length frames) = lt in from-at product (step_of product state frame).0 frames m (omega arith)

-- ---- histories

pub length-levels-kept : (kept : History) → length (levels_kept kept) ≡ length_kept kept
length-levels-kept (of_product product messages) = length-from product (empty_state product) messages
length-levels-kept (amended before product messages) =
    let start = amended_state product (state_kept before) in
    length-append (levels_kept before) (levels_from product start messages) ∙ ap₂ (λ (a b : ℕ). a + b) (length-levels-kept before) (length-from product start messages)

pub levels-kept-at : (kept : History) (m : ℕ) → m ≤ length_kept kept → levels_at (levels_kept kept) m ≡ levels_of_state (state_at kept m)
levels-kept-at (of_product product messages) zero low = refl
levels-kept-at (of_product product messages) (suc m) low = from-at product (empty_state product) messages m (omega arith)
levels-kept-at (amended before product messages) m low =
    let start = amended_state product (state_kept before) in
    let n = length_kept before in
    let old : List (List Row) = [] ∷ levels_kept before in
    let more = levels_from product start messages in
    let size : length (levels_kept before) ≡ n = length-levels-kept before in
    let go : (b : Bool) → nat_le m n ≡ b → get_or (old ++ more) m [] ≡ levels_of_state (cond b (state_at before m) (state_after product start (take (m - n) messages))) = elim [
      | true ↦ λ is.
          let within : m ≤ n = leb-true m n is in
          get_or_append_left old more [] m (omega (arith, size, within)) ∙ levels-kept-at before m within
      | false ↦ λ is.
          let behind : n < m = leb-false m n is in
          let j : ℕ = m - n - 1 in
          let place : m ≡ length old + j = omega (arith, size, behind) in
          let count : suc j ≡ m - n = omega (arith, behind) in
          ap (λ (i : ℕ). get_or (old ++ more) i []) place
          ∙ get_or-append-add old more j []
          ∙ from-at product start messages j (omega (arith, behind, low))
          ∙ ap (λ (i : ℕ). levels_of_state (state_after product start (take i messages))) count
    ] in go (nat_le m n) refl

-- ---- the end

pub levels-at-end : (kept : History) → levels_of_state (state_at kept (length_kept kept)) ≡ levels_of_state (state_kept kept)
levels-at-end (of_product product messages) = ap (λ (ms : List (List ℕ)). levels_of_state (state_after product (empty_state product) ms)) (take_all (length messages) messages (omega arith))
levels-at-end (amended before product []) =
    let start = amended_state product (state_kept before) in
    let n = length_kept before in
    let end : n + 0 ≡ n = omega arith in
    let go : (b : Bool) → nat_le (n + 0) n ≡ b → levels_of_state (cond b (state_at before (n + 0)) (state_after product start (take (n + 0 - n) []))) ≡ levels_of_state start = elim [
      | true ↦ λ is. ap (λ (i : ℕ). levels_of_state (state_at before i)) end ∙ levels-at-end before ∙ sym (levels-amended product (state_kept before))
      | false ↦ λ is. absurd (omega (arith, leb-false (n + 0) n is))
    ] in go (nat_le (n + 0) n) refl
levels-at-end (amended before product (message ∷ messages)) =
    let start = amended_state product (state_kept before) in
    let n = length_kept before in
    let m : ℕ = n + suc (length messages) in
    let all : List (List ℕ) = message ∷ messages in
    let go : (b : Bool) → nat_le m n ≡ b → levels_of_state (cond b (state_at before m) (state_after product start (take (m - n) all))) ≡ levels_of_state (state_after product start all) = elim [
      | true ↦ λ is. absurd (omega (arith, leb-true m n is))
      | false ↦ λ is. ap (λ (ms : List (List ℕ)). levels_of_state (state_after product start ms)) (take_all (m - n) all (omega arith))
    ] in go (nat_le m n) refl
