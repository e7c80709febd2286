use Rattle.std.specs.Str.Parse.{ExplainsUnsignedError, HasUnsignedDigitsIfOk, ParsesUnsigned}
use Rattle.clap.specs.Matches.{found_of}
use Rattle.command_words.proofs.NumberTexts.{one_is_number}
use Rattle.command_words.proofs.reading.number_in.Goals as goal

pub returns : goal.returns
returns c = one_is_number _ (λ bs r. ParsesUnsigned 32 10 bs r × ExplainsUnsignedError 10 bs r × HasUnsignedDigitsIfOk bs r)
    (found_of c.args.matches.now) c.args.id.now c.get_one.result c.requires (λ u x g. g.0) c.get_one.ensures.none c.get_one.ensures.value
