use Rattle.std.proofs.Common.{ap, ◌∙◌, ◌≡◌, [], map, string_bytes, sym, subst, IfErr, IfOk, None, Some}
use Rattle.std.specs.Option.{ok_or}
use Rattle.clap.specs.Faults.{fault_of, is_simple_and_free}
use Rattle.clap.specs.Kinds.{HasKind}
use Rattle.clap.specs.Matches.{found_of}
use Rattle.clap.specs.Simple.{App, is_simple, matches_of}
use Rattle.clap.specs.Walk.{rows_of}
use Rattle.command_words.specs.declared.command.WordsFault.TheVariants.{Refused}
use Rattle.command_words.specs.Commands.{command_of, words_app}
use Rattle.command_words.proofs.OptionTexts.{count_is_read, first_is_read}
use Rattle.command_words.proofs.Taken.{err_refused, given_by, is_ours, is_simple_too, refused_by, taken}
use Rattle.command_words.proofs.reading.read_command.Goals as goal

pub found_command-requires-clause-first : goal.found_command-requires-clause-first
found_command-requires-clause-first c =
    let command = c.in_ok-words_command in
    first_is_read command.field-0 c.in_ok-matches.matches c.in_ok-matches.ensures.parsed command.ensures.plain command.ensures.local command.ensures.app

pub found_command-requires-clause-count : goal.found_command-requires-clause-count
found_command-requires-clause-count c =
    let command = c.in_ok-words_command in
    count_is_read command.field-0 c.in_ok-matches.matches c.in_ok-matches.ensures.parsed command.ensures.plain command.ensures.local command.ensures.app

pub returns-in_err-matches-clause-refused : goal.returns-in_err-matches-clause-refused
returns-in_err-matches-clause-refused c =
    let words = map string_bytes c.args.words.now in
    let app = c.in_ok-words_command.ensures.app in
    let e = c.in_err-matches.field-0.0 in
    let has : HasKind (fault_of words_app words) e = subst (λ (a : App). HasKind (fault_of a words) e) app (c.in_err-matches.ensures.kinds (ap is_simple_and_free app ∙ is_ours)) in
    err_refused words c.from_residual-in_err-matches.result e has c.from_residual-in_err-matches.ensures.1

is_given : (c : goal.Joined-matches) → command_of (map string_bytes c.args.words.now) ≡ c.found_command.result
is_given c =
    let words = map string_bytes c.args.words.now in
    let app = c.in_ok-words_command.ensures.app in
    let none : fault_of words_app words ≡ [] = sym (ap (λ (a : App). fault_of a words) app) ∙ c.in_ok-matches.ensures.kinds (ap is_simple_and_free app ∙ is_ours) in
    let rows : rows_of (found_of c.in_ok-matches.matches) ≡ matches_of words_app words =
    (c.in_ok-matches.ensures.matches (ap is_simple app ∙ is_simple_too)).0 ∙ ap (λ (a : App). matches_of a words) app in
    taken words (rows_of (found_of c.in_ok-matches.matches)) none rows ∙ sym c.found_command.ensures

-- what is returned is what was found, or a refusal
found_or_refused : (c : goal.Joined-matches) → c.ok_or.result ≡ ok_or c.found_command.result Refused
found_or_refused c = c.ok_or.ensures.value

pub returns-clause-given : goal.returns-clause-given
returns-clause-given c =
    let words = map string_bytes c.args.words.now in
    subst (λ r. IfOk r (λ command. command_of words ≡ Some command)) (sym (found_or_refused c)) (given_by words c.found_command.result (is_given c))

pub returns-clause-refused : goal.returns-clause-refused
returns-clause-refused c =
    let words = map string_bytes c.args.words.now in
    subst (λ r. IfErr r (λ fault. fault ≡ Refused → command_of words ≡ None)) (sym (found_or_refused c)) (refused_by words c.found_command.result (is_given c))
