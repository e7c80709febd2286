use Rattle.fix_frame.specs.Stream.{messages_of}
use Rattle.command_words.specs.declared.command.Command.TheVariants.{Run}
use Rattle.order_kinds.specs.Histories.{new_reports}
use Rattle.globex_run.proofs.EverySent.{prefixes-of, entry-or-prefixes, messages-sent}
use Rattle.globex_run.proofs.headline.globex_for_run.Goals as goal

pub returns-clause-exactly_the_reports : goal.returns-clause-exactly_the_reports
returns-clause-exactly_the_reports g c asks given read none = c.globex.ensures.does_all Run asks tt given read none

pub returns-clause-any_other_ending : goal.returns-clause-any_other_ending
returns-clause-any_other_ending g c asks given read other = c.globex.ensures.ends_otherwise Run asks tt given read other

pub returns-clause-at_every_moment : goal.returns-clause-at_every_moment
returns-clause-at_every_moment g c asks given read = prefixes-of _ given (messages_of read.taken) (λ messages. new_reports given.kept messages) (c.globex.ensures.at_every_moment Run asks tt given read)

pub returns-clause-before_the_first_sync : goal.returns-clause-before_the_first_sync
returns-clause-before_the_first_sync g c asks given read = entry-or-prefixes _ given (messages_of read.taken) (λ messages. new_reports given.kept messages) (c.globex.ensures.before_the_first_sync Run asks tt given read)

pub returns-clause-with_every_message : goal.returns-clause-with_every_message
returns-clause-with_every_message g c asks given read = messages-sent _ given (messages_of read.taken) (λ messages. new_reports given.kept messages) (c.globex.ensures.with_every_message Run asks tt given read)
