-- Levels that may have changed, as events name them. Our own rules.
use Rattle.std.specs.Prelude.{◌≡◌, Bool, true, false, ◌||◌, nat_le, if◌then◌else◌, List, [], length, filter, fold, Option, Some, None, refl}
use Rattle.std.specs.List.{list_any}
use Rattle.gx_base.specs.declared.event.Event.{Event}
use Rattle.gx_base.specs.declared.event.Event.TheVariants.{Accepted, Triggered, Fill, Cancelled, Expired, Replaced, RefusedNew, RefusedChange, RefusedSession}
use Rattle.gx_base.specs.Emits.{EmitMeanings}
use Rattle.book_order.specs.Levels.{Level, is_level}
use Rattle.plain_book.specs.Orders.{level_of}
use Rattle.level_feed.specs.declared.noted.TheConstants.{MOST_NOTED}
use Rattle.level_feed.specs.declared.row.Row.{Row}
use Rattle.level_feed.specs.Rows.{level_of_row, with_row}

-- the levels that may have changed, each as a row of one lot and one order; or any may have
pub record Noted : Type 0 where
  pub any : Bool
  -- in book order
  pub levels : List Row

abbrev pub nothing_noted : Noted
nothing_noted = record { any = false; levels = [] }

-- one of the rows is at the level
abbrev pub is_among : Level → List Row → Bool
is_among k rows = list_any (λ r. is_level (level_of_row r) k) rows

-- the level may have changed
abbrev pub is_noted : Level → Noted → Bool
is_noted k noted = noted.any || is_among k noted.levels

-- ---- one level more

-- the row that stands for a level
abbrev pub row_noting : Level → Row
row_noting k = record { instrument = k.instrument; side = k.side; price = record { 0 = k.price }; shown = 1; orders = 1 }

-- a level that is not there yet: if there is no room for it, any level may have changed
abbrev pub noted_new : Level → Noted → Noted
noted_new k noted = if nat_le MOST_NOTED (length noted.levels) then record noted { any = true } else record noted { levels = with_row (row_noting k) noted.levels }

-- the level may have changed too
abbrev pub noted_with : Level → Noted → Noted
noted_with k noted = if is_noted k noted then noted else noted_new k noted

-- ---- one event more

-- the level of the order that an event tells of
abbrev pub level_of_event : Event → Option Level
level_of_event (Accepted head order) = Some (level_of order)
level_of_event (Triggered head order) = Some (level_of order)
level_of_event (Fill head order lots price step trade) = Some (level_of order)
level_of_event (Cancelled head order gone by cause) = Some (level_of order)
level_of_event (Expired head order gone) = Some (level_of order)
level_of_event (Replaced head order old old_quantity) = Some (level_of order)
level_of_event (RefusedNew head order fault) = None
level_of_event (RefusedChange head id old number filled replace fault) = None
level_of_event (RefusedSession head seq tag reason rule) = None

abbrev pub noted_if : Option Level → Noted → Noted
noted_if None noted = noted
noted_if (Some k) noted = noted_with k noted

abbrev pub noted_event : Event → Noted → Noted
noted_event event noted = noted_if (level_of_event event) noted

-- events noted one after the other
abbrev pub noted_events : List Event → Noted → Noted
noted_events events noted = fold (λ (n : Noted) (e : Event). noted_event e n) noted events

-- the level is that one
abbrev pub is_level_if : Level → Option Level → Bool
is_level_if k None = false
is_level_if k (Some j) = is_level j k

-- the event tells of an order at the level
abbrev pub is_event_at : Level → Event → Bool
is_event_at k event = is_level_if k (level_of_event event)

-- one of the events does
abbrev pub has_event_at : Level → List Event → Bool
has_event_at k events = list_any (is_event_at k) events

-- it sees the levels, and never fails
abbrev pub noted_meanings : EmitMeanings Noted
noted_meanings = record {
  Seen = Noted;
  seen = λ noted. noted;
  after = λ _ noted event. noted_event event noted;
  has_failed = λ _. false;
  IsPart = λ _ _. Unit {0};
  part_itself = λ _. tt;
  Later = λ _ _. Unit {0};
  later_itself = λ _. tt;
  later_then = λ _ _ _ _ _. tt;
  after_stays = λ _ _ _. refl;
}

-- ---- what it says of two lists of rows

-- the rows at a level: one or none
abbrev pub rows_at : Level → List Row → List Row
rows_at k rows = filter (λ r. is_level (level_of_row r) k) rows

-- a level that is not noted has in both lists the same row, or none
abbrev pub AreNoted : Noted → List Row → List Row → Type 0
AreNoted noted old new = (k : Level) → is_noted k noted ≡ false → rows_at k new ≡ rows_at k old
