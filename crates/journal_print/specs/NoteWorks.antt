-- Noting the messages of records, as a work on them: nothing is sent.
use Rattle.std.specs.Prelude.{List, [], true, refl}
use Rattle.std.proofs.lemmas.List.Sums.{fold-append}
use Rattle.order_kinds.specs.Histories.{History, of_product, amended}
use Rattle.fix_session.specs.SessionOut.{noted_in, noted_all}
use Rattle.fix_session.specs.declared.sessions.FirmSession.{FirmSession}
use Rattle.journal_print.specs.Works.{WorkMeanings}

-- the sessions after the messages of a history, each noted under the product of its time
abbrev pub sessions_noted : List FirmSession → History → List FirmSession
sessions_noted sessions (of_product product messages) = noted_all product sessions messages
sessions_noted sessions (amended before product messages) = noted_all product (sessions_noted sessions before) messages

abbrev pub note_work : WorkMeanings (List FirmSession)
note_work = record {
  Fits = λ sessions state. Unit {0};
  fits_amended = λ sessions product state fits. fits;
  text = λ sessions product state messages. [];
  after = λ sessions product state messages. noted_all product sessions messages;
  ending = λ sessions live. [];
  is_silent = true;
  text_none = λ sessions product state. refl;
  after_none = λ sessions product state. refl;
  text_then = λ sessions product state messages more. refl;
  after_then = λ sessions product state messages more. fold-append (noted_in product) sessions messages more;
}
