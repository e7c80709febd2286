use Rattle.std.proofs.Common.{List, ℕ, length, ap, subst, arith, length-append}
use Rattle.std.specs.List.{All, concat}
use Rattle.fix_frame.specs.Grammar.{IsFrame}
use Rattle.fix_frame.specs.Stream.{messages_of, rest_of}
use Rattle.fix_frame.specs.StreamLaws.{concat-messages_of, messages_of-are_frames}
use Rattle.globex_run.proofs.give_frames.given_are_frames.Goals as goal

pub returns-clause-frames : goal.returns-clause-frames
returns-clause-frames c = subst (λ (l : List (List ℕ)). All IsFrame l) c.all_given.ensures.frames (messages_of-are_frames c.all_given.result.now)

pub returns-clause-fits : goal.returns-clause-fits
returns-clause-fits c =
    let bytes = c.all_given.result.now in
    omega (arith, c.all_given.ensures.fits, ap length (concat-messages_of bytes), length-append (concat (messages_of bytes)) (rest_of bytes), ap (λ (l : List (List ℕ)). length (concat l)) c.all_given.ensures.frames)
