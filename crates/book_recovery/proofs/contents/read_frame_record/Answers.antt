use Rattle.std.proofs.Common.{true≢false, length, refl, sym, ◌∙◌, ap, arith}
use Rattle.book_recovery.proofs.RecordContents.{frames_good, frames_broken}
use Rattle.book_recovery.proofs.Reading.{few_messages, messages_given, payload_given, given_are_all}
use Rattle.book_recovery.proofs.contents.read_frame_record.Goals as goal
use Rattle.book_recovery.proofs.contents.read_frame_record.Goals.{else-are_whole-via-then-are_whole+else-behind-lt-MOST_MESSAGES, else-are_whole-via-else-are_whole}

-- a payload has no more frames than bytes
pub overflow_add-behind : goal.overflow_add-behind
overflow_add-behind c =
    let given = messages_given c.hold.new.framer.rest c.hold.new.framer.given c.are_whole-are_whole.new.framer.given c.hold.ensures.given c.are_whole-are_whole.ensures.given in
    omega (arith, c.requires.few, c.requires.short, c.given_count.ensures, ap length given, few_messages c.hold.new.framer.rest, ap length c.hold.ensures.rest)

pub returns-then-behind-lt-MOST_MESSAGES-clause-given : goal.returns-then-behind-lt-MOST_MESSAGES-clause-given
returns-then-behind-lt-MOST_MESSAGES-clause-given c =
    given_are_all c.hold.new.framer.rest c.hold.new.framer.given c.are_whole-are_whole.new.framer.given c.hold.ensures.given c.are_whole-are_whole.ensures.given (c.are_whole-are_whole.ensures.whole.0 c.if-are_whole.true)

pub returns-then-behind-lt-MOST_MESSAGES-clause-size : goal.returns-then-behind-lt-MOST_MESSAGES-clause-size
returns-then-behind-lt-MOST_MESSAGES-clause-size c =
    let given = payload_given c.hold.new.framer.rest c.hold.new.framer.given c.are_whole-are_whole.new.framer.given c.hold.ensures.given c.are_whole-are_whole.ensures.given (c.are_whole-are_whole.ensures.whole.0 c.if-are_whole.true) in
    omega (arith, ap length given, ap length c.hold.ensures.rest)

pub returns-then-behind-lt-MOST_MESSAGES-clause-reads : goal.returns-then-behind-lt-MOST_MESSAGES-clause-reads
returns-then-behind-lt-MOST_MESSAGES-clause-reads c =
    let given = messages_given c.hold.new.framer.rest c.hold.new.framer.given c.are_whole-are_whole.new.framer.given c.hold.ensures.given c.are_whole-are_whole.ensures.given in
    frames_good c.args.count c.hold.new.framer.rest c.args.payload.now c.hold.ensures.rest c.are_whole-are_whole.new.framer.given (c.are_whole-are_whole.ensures.whole.0 c.if-are_whole.true) given
    (omega (arith, c.if-behind-lt-MOST_MESSAGES.true, c.given_count.ensures))

-- it is not whole frames, or they are too many
pub returns-clause-reads : goal.returns-clause-reads
returns-clause-reads c =
    let given = messages_given c.hold.new.framer.rest c.hold.new.framer.given c.are_whole-are_whole.new.framer.given c.hold.ensures.given c.are_whole-are_whole.ensures.given in (
      frames_broken c.args.count c.hold.new.framer.rest c.args.payload.now c.hold.ensures.rest
          (λ whole few. elim c.else-are_whole.branch [
            | else-are_whole-via-then-are_whole+else-behind-lt-MOST_MESSAGES w ↦ omega (arith, few, w.if-behind-lt-MOST_MESSAGES.false, c.given_count.ensures, ap length given)
            | else-are_whole-via-else-are_whole w ↦ true≢false (sym (c.are_whole-are_whole.ensures.whole.1 whole) ∙ w.if-are_whole.false)
          ]),
      refl,
    )
