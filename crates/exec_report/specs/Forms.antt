-- What the form of a line stands for.
use Rattle.std.specs.Prelude.{◌≡◌, ℕ, Bool, true, false, List, [], fold}
use Rattle.std.proofs.Common.{sym}
use Rattle.std.proofs.lemmas.Bool.{true≢false}
use Rattle.gx_base.specs.NameLists.{NameLists}
use Rattle.gx_base.specs.declared.event.Event.{Event}
use Rattle.product_file.specs.Products.{ProductLists}

-- how an event is printed under some names
abbrev pub LineText : Type 0
LineText = NameLists → Event → List ℕ

pub record FormMeanings (F : Type 0) : Type 0 where
  -- the line of an event under these names; it may go by the form, as by a range, but by nothing that the form keeps
  pub text : F → LineText
  -- the form after an event, and after a message of a product
  pub after : F → Event → F
  pub noted : F → ProductLists → List ℕ → F
  -- what is printed after the lines of all events, where so many lots are open of all live orders
  pub ending : F → ℕ → List ℕ
  pub text_after : (f : F) (e : Event) → text (after f e) ≡ text f
  pub text_noted : (f : F) (product : ProductLists) (frame : List ℕ) → text (noted f product frame) ≡ text f
  -- what is kept of events is apart from what is kept of messages
  pub apart : (f : F) (e : Event) (product : ProductLists) (frame : List ℕ) → noted (after f e) product frame ≡ after (noted f product frame) e
  -- it prints nothing, whatever happens
  pub is_silent : Bool
  pub silent : is_silent ≡ true → (f : F) (names : NameLists) (e : Event) → text f names e ≡ []

-- a form that prints is not silent
pub prints : {A : Type 0} → false ≡ true → A
prints never = absurd (true≢false (sym never))

module _ {F : Type 0} (f : FormMeanings F) where
  abbrev pub noted_all : F → ProductLists → List (List ℕ) → F
  noted_all form product frames = fold (λ (g : F) (frame : List ℕ). f.noted g product frame) form frames

  -- the form after messages and their events
  abbrev pub behind : F → ProductLists → List (List ℕ) → List Event → F
  behind form product frames events = fold f.after (noted_all form product frames) events
