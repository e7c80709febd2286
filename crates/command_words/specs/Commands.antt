-- Which command the words of the command line give. This is our own rule, by what `clap` takes.
use Rattle.std.specs.Prelude.{ℕ, pos, true, List, [], ◌∷◌, Option, Some, None, if◌then◌else◌, codes}
use Rattle.std.specs.Prelude.{option_and_then, option_map}
use Rattle.std.specs.Str.{bytes_eq}
use Rattle.std.specs.Str.Parse.{digits_value, without_leading_plus}
use Rattle.clap.specs.Walk.{Row, Rule, Text, first_of, is_empty, one_of}
use Rattle.clap.specs.Simple.{App, matches_of, new_rule, new_shape}
use Rattle.clap.specs.Faults.{fault_of}
use Rattle.clap.specs.declared.builder.value_parser.ValueParser.TheVariants.{Signed}
use Rattle.command_words.specs.declared.command.Command.{Command}
use Rattle.command_words.specs.declared.command.Command.TheVariants.{Run, Replay, Book, Fills}
use Rattle.command_words.specs.declared.command.Command.TheVariants.{Ledger, Steps, Checkpoint, Amend, Session, Opening, Levels, Rebuild, Drill}

-- the command's name, which has to be there
abbrev pub command_rule : Rule
command_rule = record (new_rule (codes "command")) { required = true }

-- an option with a value: a number from 0 to `most`, as `clap` checks those of `u32`
abbrev pub number_rule : List ℕ → ℕ → Rule
number_rule name most = record (new_rule name) {
  long = Some name;
  parser = Some (Signed (pos 0) (pos most));
}

-- the one `clap` command that reads the words, none of which is the program's name
abbrev pub words_app : App
words_app = record {
  top = record (new_shape (codes "globex")) {
    rules = command_rule
        ∷ number_rule (codes "first") 2147483647
        ∷ number_rule (codes "count") 1000000
        ∷ [];
    no_binary_name = true;
  };
  subs = [];
}

-- the command of this name that has no options
abbrev pub plain_command : Text → Option Command
plain_command name = if bytes_eq name (codes "run") then Some Run
    else (if bytes_eq name (codes "replay") then Some Replay
    else (if bytes_eq name (codes "book") then Some Book
    else (if bytes_eq name (codes "fills") then Some Fills
    else (if bytes_eq name (codes "ledger") then Some Ledger
    else (if bytes_eq name (codes "steps") then Some Steps
    else (if bytes_eq name (codes "checkpoint") then Some Checkpoint
    else (if bytes_eq name (codes "amend") then Some Amend
    else (if bytes_eq name (codes "session") then Some Session
    else (if bytes_eq name (codes "opening") then Some Opening
    else (if bytes_eq name (codes "levels") then Some Levels
    else (if bytes_eq name (codes "rebuild") then Some Rebuild
    else None)))))))))))

-- the command of a name and the two options: `drill` has both, and the others have neither
abbrev pub named_command : Text → Option ℕ → Option ℕ → Option Command
named_command name None None = plain_command name
named_command name (Some first) (Some count) =
    if bytes_eq name (codes "drill") then Some (Drill first count) else None
named_command name _ _ = None

-- the number that `u32` reads of an option's value, where the words have it
abbrev pub number_in : Text → List Row → Option ℕ
number_in id rows =
    option_map (λ text. digits_value 10 (without_leading_plus text)) (one_of id rows)

-- the command of what `clap` found
abbrev pub found_command : List Row → Option Command
found_command rows = option_and_then (λ name.
    named_command name (number_in (codes "first") rows) (number_in (codes "count") rows))
    (first_of (codes "command") rows)

-- the command that the words give: none where `clap` refuses them
unfoldable pub command_of : List Text → Option Command
command_of words = if is_empty (fault_of words_app words)
    then found_command (matches_of words_app words) else None
