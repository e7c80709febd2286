-- What the work on the messages of records stands for.
use Rattle.std.specs.Prelude.{◌≡◌, ℕ, Bool, List, [], ◌++◌}
use Rattle.product_file.specs.Products.{ProductLists}
use Rattle.order_kinds.specs.Balance.{total_open}
use Rattle.order_kinds.specs.State.{State, empty_state}
use Rattle.order_kinds.specs.Step.{state_after}
use Rattle.order_kinds.specs.Amendments.{amended_state}
use Rattle.order_kinds.specs.Histories.{History, of_product, amended, state_kept}

pub record WorkMeanings (W : Type 0) : Type 1 where
  -- the work can go on from this state; an amendment does not end that
  pub Fits : W → State → Type 0
  pub fits_amended : (w : W) (product : ProductLists) (state : State) → Fits w state → Fits w (amended_state product state)
  -- what is sent of messages of a product, by the state before them
  pub text : W → ProductLists → State → List (List ℕ) → List ℕ
  -- the work after them
  pub after : W → ProductLists → State → List (List ℕ) → W
  -- what is sent after all messages, where so many lots are open of all live orders
  pub ending : W → ℕ → List ℕ
  -- it sends nothing of any message
  pub is_silent : Bool
  -- no message leaves nothing, and messages may be taken in two parts
  pub text_none : (w : W) (product : ProductLists) (state : State) → text w product state [] ≡ []
  pub after_none : (w : W) (product : ProductLists) (state : State) → after w product state [] ≡ w
  pub text_then : (w : W) (product : ProductLists) (state : State) (messages more : List (List ℕ))
      → text w product state (messages ++ more) ≡ text w product state messages ++ text (after w product state messages) product (state_after product state messages) more
  pub after_then : (w : W) (product : ProductLists) (state : State) (messages more : List (List ℕ))
      → after w product state (messages ++ more) ≡ after (after w product state messages) product (state_after product state messages) more

module _ {W : Type 0} (w : WorkMeanings W) where
  -- the work after the messages of a history
  abbrev pub work_after : W → History → W
  work_after work (of_product product messages) = w.after work product (empty_state product) messages
  work_after work (amended before product messages) = w.after (work_after work before) product (amended_state product (state_kept before)) messages

  -- what is sent of them
  abbrev pub work_text : W → History → List ℕ
  work_text work (of_product product messages) = w.text work product (empty_state product) messages
  work_text work (amended before product messages) =
      work_text work before ++ w.text (work_after work before) product (amended_state product (state_kept before)) messages

  -- what is sent of them and then after all messages
  abbrev pub work_whole : W → History → List ℕ
  work_whole work history = work_text work history ++ w.ending (work_after work history) (total_open (state_kept history).book)
