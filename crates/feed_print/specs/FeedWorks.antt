-- The level feed as the work on the messages of records.
use Rattle.std.specs.Prelude.{◌≡◌, false, refl}
use Rattle.std.proofs.Common.{sym, ◌∙◌}
use Rattle.level_feed.specs.Feeds.{levels_of_state}
use Rattle.journal_print.specs.Works.{WorkMeanings}
use Rattle.feed_print.specs.FeedPlaces.{FeedPlace}
use Rattle.feed_print.specs.FeedTexts.{beginning, messages_text, place_after, levels-untopped, text-then, after-then}

-- the feed of the messages of records; of no message at all it is the first snapshot
abbrev pub feed_work : WorkMeanings FeedPlace
feed_work = record {
  Fits = λ place state. place.rows ≡ levels_of_state state;
  fits_amended = λ place product state fits. fits ∙ sym (levels-untopped product state.book.resting);
  text = messages_text;
  after = place_after;
  ending = λ place live. beginning place;
  is_silent = false;
  text_none = λ place product state. refl;
  after_none = λ place product state. refl;
  text_then = text-then;
  after_then = after-then;
}
