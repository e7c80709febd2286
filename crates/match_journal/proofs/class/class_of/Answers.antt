use Rattle.std.proofs.Common.{List, ℕ, Ok, Err, arith, subst}
use Rattle.std.proofs.lemmas.List.{take_rest}
use Rattle.match_journal.specs.Inner.Fronts.{MagicAnswers}
use Rattle.match_journal.proofs.Fronts.{head_byte, foreign_magic, foreign_open, foreign_size, bad_size, magic_opened, has_size}
use Rattle.match_journal.proofs.class.class_of.Goals as goal

-- ---- the magic of neither version

pub returns-then-head-eq1-clause-front : goal.returns-then-head-eq1-clause-front
returns-then-head-eq1-clause-front c = λ image size is.
    let answers = subst (λ (l : List ℕ). MagicAnswers l (Err c.in-Err.same)) (take_rest c.args.head.now 1) c.in-Err.ensures in
    foreign_open c.args.head.now image is (omega (arith, size, c.requires.some)) c.if-head-eq1.true c.in-Err.same answers

pub returns-else-head-eq1-clause-front : goal.returns-else-head-eq1-clause-front
returns-else-head-eq1-clause-front c = λ image size is.
    let answers = subst (λ (l : List ℕ). MagicAnswers l (Err c.in-Err.same)) (take_rest c.args.head.now 1) c.in-Err.ensures in
    foreign_magic c.args.head.now image is (omega (arith, size, c.requires.some)) c.if-head-eq0.false c.if-head-eq1.false c.in-Err.same answers

-- ---- a magic and a text

pub returns-then-head-eq1-2-clause-front : goal.returns-then-head-eq1-2-clause-front
returns-then-head-eq1-2-clause-front c = λ image size is.
    let stands = subst (λ (l : List ℕ). MagicAnswers l (Ok c.in-Ok.version)) (take_rest c.args.head.now 1) c.in-Ok.ensures in
    (magic_opened c.args.head.now image is c.if-head-eq1-2.true c.in-Ok.version stands, has_size c.args.head.now image is c.in-Ok.version c.args.len c.in-Some.size size stands c.in-Some.ensures.size)

pub returns-else-head-eq1-2-clause-front : goal.returns-else-head-eq1-2-clause-front
returns-else-head-eq1-2-clause-front c = λ image size is.
    let stands = subst (λ (l : List ℕ). MagicAnswers l (Ok c.in-Ok.version)) (take_rest c.args.head.now 1) c.in-Ok.ensures in
    let byte = head_byte c.args.head.now image is in (
      λ zero. c.if-head-eq0.false (omega (arith, byte, zero)),
      λ one. c.if-head-eq1-2.false (omega (arith, byte, one)),
      has_size c.args.head.now image is c.in-Ok.version c.args.len c.in-Some.size size stands c.in-Some.ensures.size,
    )

-- ---- a magic and no text

pub returns-then-head-eq1-3-clause-front : goal.returns-then-head-eq1-3-clause-front
returns-then-head-eq1-3-clause-front c = λ image size is.
    let stands = subst (λ (l : List ℕ). MagicAnswers l (Ok c.in-Ok.version)) (take_rest c.args.head.now 1) c.in-Ok.ensures in
    bad_size c.args.head.now image is c.args.len size (magic_opened c.args.head.now image is c.if-head-eq1-3.true c.in-Ok.version stands) c.in-None.ensures.size

pub returns-else-head-eq1-3-clause-front : goal.returns-else-head-eq1-3-clause-front
returns-else-head-eq1-3-clause-front c = λ image size is.
    foreign_size c.args.head.now image is c.args.len size (omega (arith, size, c.requires.some)) c.if-head-eq0.false c.if-head-eq1-3.false c.in-None.ensures.size
