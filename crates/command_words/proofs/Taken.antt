-- What the faults of the words say of their command.
use Rattle.std.proofs.Common.{◌≡◌, ◌∙◌, ap, arith, true, false, List, [], ◌∷◌, Option, None, Some, Result, Ok, Err, IfOk, IfErr, refl, sym, inl, inr, cond}
use Rattle.std.proofs.lemmas.Bool.{ne_eqb}
use Rattle.std.specs.Option.{ok_or}
use Rattle.std.specs.Result.{IsErrAnd}
use Rattle.clap.specs.Faults.{fault_of, is_simple_and_free}
use Rattle.clap.specs.Kinds.{HasKind, Kinds}
use Rattle.clap.specs.Simple.{is_simple, matches_of}
use Rattle.clap.specs.Values.{kind_of}
use Rattle.clap.specs.Walk.{Row, Text, is_empty}
use Rattle.clap.specs.declared.error.Error.{Error}
use Rattle.clap.specs.declared.error.kind.ErrorKind.TheVariants.{OutOfMemory}
use Rattle.clap.proofs.OnLiterals.{clap_on_literals}
use Rattle.command_words.specs.declared.command.Command.{Command}
use Rattle.command_words.specs.declared.command.WordsFault.{WordsFault}
use Rattle.command_words.specs.declared.command.WordsFault.TheVariants.{Refused}
use Rattle.command_words.specs.Commands.{command_of, found_command, words_app}

pub is_ours : is_simple_and_free words_app ≡ true
unfolding clap_on_literals
is_ours = refl

pub is_simple_too : is_simple words_app ≡ true
unfolding clap_on_literals
is_simple_too = refl

is_empty-cons : {X : Type 0} (x : X) (xs : List X) → is_empty (x ∷ xs) ≡ false
is_empty-cons x xs = ne_eqb _ _ (λ e. omega arith)

pub taken : (words : List Text) (rows : List Row) → fault_of words_app words ≡ [] → rows ≡ matches_of words_app words → command_of words ≡ found_command rows
unfolding command_of
taken words rows none is = ap (λ (ks : Kinds). cond (is_empty ks) (found_command (matches_of words_app words)) None) none ∙ ap found_command (sym is)

-- an error of another kind than memory comes where there is a fault
pub refused : (words : List Text) (e : Error) → HasKind (fault_of words_app words) e → (kind_of e ≡ OutOfMemory → ⊥) → command_of words ≡ None
unfolding command_of
refused words e has other = go (fault_of words_app words) has
  where
    go : (ks : Kinds) → HasKind ks e → cond (is_empty ks) (found_command (matches_of words_app words)) None ≡ None
    go [] (inl memory) = absurd (other memory)
    go [] (inr none) = absurd none
    go (k ∷ ks) h = rw (is_empty-cons k ks) refl

pub err_refused : {T : Type 0} (words : List Text) (r : Result T WordsFault) (e : Error) → HasKind (fault_of words_app words) e
    → IsErrAnd r (λ fault. fault ≡ Refused → kind_of e ≡ OutOfMemory → ⊥) → IfErr r (λ fault. fault ≡ Refused → command_of words ≡ None)
err_refused words (Ok x) e has h = tt
err_refused words (Err f) e has h = λ is. refused words e has (h is)

pub given_by : (words : List Text) (o : Option Command) → command_of words ≡ o → IfOk (ok_or o Refused) (λ command. command_of words ≡ Some command)
given_by words None is = tt
given_by words (Some command) is = is

pub refused_by : (words : List Text) (o : Option Command) → command_of words ≡ o
    → IfErr (ok_or o Refused) (λ fault. fault ≡ Refused → command_of words ≡ None)
refused_by words None is = λ _. is
refused_by words (Some command) is = tt
