-- What takes events, and what a call that puts events does to it.
use Rattle.std.specs.Prelude.{◌≡◌, ℕ, ◌≤◌, Bool, true, false, List, length, take, fold}
use Rattle.gx_base.specs.declared.event.Event.{Event}

-- what an emitter stands for
pub record EmitMeanings (E : Type 0) : Type 1 where
  -- what can be seen of it: what the events so far have become
  pub Seen : Type 0
  pub seen : E → Seen
  -- what one event more makes of it
  pub after : E → Seen → Event → Seen
  pub has_failed : E → Bool
  -- the first is a part of the second, as a put leaves it that fails
  pub IsPart : Seen → Seen → Type 0
  pub part_itself : (s : Seen) → IsPart s s
  -- the second is the same emitter as the first, later
  pub Later : E → E → Type 0
  pub later_itself : (a : E) → Later a a
  pub later_then : (a b c : E) → Later a b → Later b c → Later a c
  pub after_stays : (a b : E) → Later a b → after b ≡ after a

module _ {E : Type 0} (m : EmitMeanings E) where
  -- one event was put
  pub record Puts (old new : E) (event : Event) : Type 0 where
    pub later : m.Later old new
    pub done : m.has_failed new ≡ false → m.seen new ≡ m.after old (m.seen old) event
    pub cut : m.has_failed old ≡ false → m.has_failed new ≡ true → m.IsPart (m.seen new) (m.after old (m.seen old) event)
    pub stays : m.has_failed old ≡ true → new ≡ old

  -- these events were put; after a failure a part of them, and from a failure on nothing changes
  pub record Emits (old new : E) (events : List Event) : Type 0 where
    pub later : m.Later old new
    pub all : m.has_failed new ≡ false → m.seen new ≡ fold (m.after old) (m.seen old) events
    pub part : m.has_failed new ≡ true → (k : ℕ) × (k ≤ length events) × m.IsPart (m.seen new) (fold (m.after old) (m.seen old) (take k events))
    pub stays : m.has_failed old ≡ true → new ≡ old
