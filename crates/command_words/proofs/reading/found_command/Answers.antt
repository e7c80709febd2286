use Rattle.std.proofs.Common.{ap, ap₂, ◌∙◌, ◌≡◌, ℕ, List, Option, None, Some, codes}
use Rattle.std.specs.Prelude.{option_and_then}
use Rattle.clap.specs.Matches.{found_of}
use Rattle.clap.specs.Walk.{Row, Text, first_of, rows_of}
use Rattle.clap.proofs.WalkLemmas.{first_value-rows}
use Rattle.command_words.specs.declared.command.Command.{Command}
use Rattle.command_words.specs.Commands.{found_command, named_command, number_in}
use Rattle.command_words.proofs.reading.found_command.Goals as goal

abbrev of_name : List Row → Option Text → Option Command
of_name rows = option_and_then (λ name. named_command name (number_in (codes "first") rows) (number_in (codes "count") rows))

nameless : (rows : List Row) → None ≡ first_of (codes "command") rows → None ≡ found_command rows
nameless rows e = ap (of_name rows) e

named : (rows : List Row) (name : Text) (first count : Option ℕ) → Some name ≡ first_of (codes "command") rows
    → first ≡ number_in (codes "first") rows → count ≡ number_in (codes "count") rows
    → named_command name first count ≡ found_command rows
named rows name first count has is_first is_count = ap₂ (named_command name) is_first is_count ∙ ap (of_name rows) has

pub returns-in_err-name : goal.returns-in_err-name
returns-in_err-name c =
    let f = found_of c.args.matches.now in
    c.from_residual.ensures ∙ nameless (rows_of f) (c.in_err-name.ensures ∙ first_value-rows f (codes "command"))

pub returns : goal.returns
returns c =
    let f = found_of c.args.matches.now in
    c.named_command.ensures ∙ named (rows_of f) c.in_ok-name.name.now c.number_in-first.result c.number_in-count.result
    (c.in_ok-name.ensures ∙ first_value-rows f (codes "command")) c.number_in-first.ensures c.number_in-count.ensures
