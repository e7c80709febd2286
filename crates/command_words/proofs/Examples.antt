-- What the definition says of some words: it computes.
use Rattle.std.proofs.Common.{◌≡◌, [], ◌∷◌, Some, None, refl, codes}
use Rattle.clap.proofs.OnLiterals.{clap_on_literals}
use Rattle.command_words.specs.declared.command.Command.TheVariants.{Amend, Checkpoint, Drill, Ledger, Levels, Opening, Rebuild, Run, Session}
use Rattle.command_words.specs.Commands.{command_of}

pub run_alone : command_of (codes "run" ∷ []) ≡ Some Run
unfolding command_of clap_on_literals
run_alone = refl

pub checkpoint_alone : command_of (codes "checkpoint" ∷ []) ≡ Some Checkpoint
unfolding command_of clap_on_literals
checkpoint_alone = refl

pub amend_alone : command_of (codes "amend" ∷ []) ≡ Some Amend
unfolding command_of clap_on_literals
amend_alone = refl

pub session_alone : command_of (codes "session" ∷ []) ≡ Some Session
unfolding command_of clap_on_literals
session_alone = refl

pub opening_alone : command_of (codes "opening" ∷ []) ≡ Some Opening
unfolding command_of clap_on_literals
opening_alone = refl

pub levels_alone : command_of (codes "levels" ∷ []) ≡ Some Levels
unfolding command_of clap_on_literals
levels_alone = refl

pub rebuild_alone : command_of (codes "rebuild" ∷ []) ≡ Some Rebuild
unfolding command_of clap_on_literals
rebuild_alone = refl

pub behind_hyphens : command_of (codes "--" ∷ codes "ledger" ∷ []) ≡ Some Ledger
unfolding command_of clap_on_literals
behind_hyphens = refl

pub drill_in_any_order : command_of (codes "--count" ∷ codes "2" ∷ codes "drill" ∷ codes "--first=007" ∷ []) ≡ Some (Drill 7 2)
unfolding command_of clap_on_literals
drill_in_any_order = refl

pub no_word : command_of [] ≡ None
unfolding command_of clap_on_literals
no_word = refl

pub run_with_first : command_of (codes "run" ∷ codes "--first" ∷ codes "1" ∷ []) ≡ None
unfolding command_of clap_on_literals
run_with_first = refl

pub drill_without_count : command_of (codes "drill" ∷ codes "--first" ∷ codes "1" ∷ []) ≡ None
unfolding command_of clap_on_literals
drill_without_count = refl

pub greater_than_most : command_of (codes "drill" ∷ codes "--first" ∷ codes "1" ∷ codes "--count" ∷ codes "1000001" ∷ []) ≡ None
unfolding command_of clap_on_literals
greater_than_most = refl

pub first_twice : command_of (codes "drill" ∷ codes "--first" ∷ codes "1" ∷ codes "--first" ∷ codes "1" ∷ codes "--count" ∷ codes "1" ∷ []) ≡ None
unfolding command_of clap_on_literals
first_twice = refl

pub help : command_of (codes "--help" ∷ []) ≡ None
unfolding command_of clap_on_literals
help = refl
