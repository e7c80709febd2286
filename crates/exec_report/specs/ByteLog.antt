-- What a `ByteEmit` stands for.
use Rattle.std.specs.Prelude.{◌≡◌, ℕ, ◌+◌, ◌<◌, Bool, true, false, List, ◌++◌, length, refl}
use Rattle.std.proofs.Common.{inl, inr, sym, ◌∙◌, ap, subst}
use Rattle.std.proofs.lemmas.Bool.{cases_Bool, true≢false}
use Rattle.gx_base.specs.NameLists.{NameLists}
use Rattle.gx_base.specs.Line.{line_of}
use Rattle.gx_base.specs.KnownBytes.{IsPrefix, prefix_itself, prefix_then}
use Rattle.gx_base.specs.Emits.{EmitMeanings}
use Rattle.gx_base.specs.declared.event.Event.{Event}

-- the lines so far, in room for so many bytes, and whether one did not fit
pub record ByteLog : Type 0 where
  pub names : NameLists
  pub bytes : List ℕ
  pub room : ℕ
  pub full : Bool

-- these bytes, and then the line of an event
abbrev pub with_line : NameLists → List ℕ → Event → List ℕ
with_line names bytes event = bytes ++ line_of names event

-- there is no room after the lines for the line of some event
pub record Overflows (log : ByteLog) : Type 0 where
  pub event : Event
  pub above : log.room < length log.bytes + length (line_of log.names event)

-- the same log later: names and room stay and lines are only added; it is full only where a line did not fit, and then
-- nothing changes any more
pub record IsLaterLog (before after : ByteLog) : Type 0 where
  pub same_names : after.names ≡ before.names
  pub same_room : after.room ≡ before.room
  pub grows : IsPrefix before.bytes after.bytes
  pub overflows : before.full ≡ false → after.full ≡ true → Overflows after
  pub stays : before.full ≡ true → after ≡ before

pub log_itself : (a : ByteLog) → IsLaterLog a a
log_itself a = record {
  same_names = refl;
  same_room = refl;
  grows = prefix_itself a.bytes;
  overflows = λ no yes. absurd (true≢false (sym yes ∙ no));
  stays = λ full. refl;
}

pub log_then : (a b c : ByteLog) → IsLaterLog a b → IsLaterLog b c → IsLaterLog a c
log_then a b c first second = record {
  same_names = second.same_names ∙ first.same_names;
  same_room = second.same_room ∙ first.same_room;
  grows = prefix_then a.bytes b.bytes c.bytes first.grows second.grows;
  overflows = λ no yes. elim (cases_Bool b.full) [
    | inl was ↦ subst Overflows (sym (second.stays was)) (first.overflows no was)
    | inr was_not ↦ second.overflows was_not yes
  ];
  stays = λ full. second.stays (ap (λ (l : ByteLog). l.full) (first.stays full) ∙ full) ∙ first.stays full;
}

abbrev pub byte_meanings : EmitMeanings ByteLog
byte_meanings = record {
  Seen = List ℕ;
  seen = λ e. e.bytes;
  after = λ e. with_line e.names;
  has_failed = λ e. e.full;
  IsPart = IsPrefix;
  part_itself = prefix_itself;
  Later = IsLaterLog;
  later_itself = log_itself;
  later_then = log_then;
  after_stays = λ a b later. ap with_line later.same_names;
}
