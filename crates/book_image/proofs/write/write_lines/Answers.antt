use Rattle.std.proofs.Common.{◌≡◌, ℕ, ◌+◌, ◌*◌, List, ◌++◌, length, take, get_or, ap, arith}
use Rattle.std.specs.List.{flat_map}
use Rattle.std.proofs.lemmas.List.{take_all}
use Rattle.book_image.specs.Rows.{number_bytes}
use Rattle.book_image.proofs.WriteWalks.{appends-then, appends-as}
use Rattle.book_image.proofs.WriteParts.{lines-next}
use Rattle.book_image.proofs.write.write_lines.Goals as goal

pub loop-line-preserved : goal.loop-line-preserved
loop-line-preserved c =
    let lines = c.args.desk.now.lines in
    let i = c.loop-line.line in
    let long : length lines ≡ 65 = search in
    appends-as (8 * i + 8) (8 * (i + 1)) (flat_map number_bytes (take i lines) ++ number_bytes (get_or lines i 0)) (flat_map number_bytes (take (i + 1) lines))
    (omega arith) (lines-next lines i (omega (arith, long, c.loop-line-test.true))) (appends-then c.loop-line.invariant c.write_number-end.ensures)

pub returns : goal.returns
returns c =
    let lines = c.args.desk.now.lines in
    let i = c.loop-line.line in
    let long : length lines ≡ 65 = search in
    appends-as (8 * i) (8 * 65) (flat_map number_bytes (take i lines)) (flat_map number_bytes lines)
    (omega (arith, c.loop-line-test.false, c.loop-line.auto.line-end)) (ap (λ (l : List ℕ). flat_map number_bytes l) (take_all i lines (omega (arith, long, c.loop-line-test.false)))) c.loop-line.invariant
