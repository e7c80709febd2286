use Rattle.std.proofs.Common.{◌≡◌, length, take, drop, ◌+◌, sym, ◌∙◌, ap, subst, arith}
use Rattle.std.specs.Prelude.{IfSome}
use Rattle.gx_station.specs.AnswerLaws.{on_ok}
use Rattle.match_journal.proofs.AmendedTexts.{text_whole}
use Rattle.match_journal.proofs.look.amended_text.Goals as goal

pub returns-clause-text : goal.returns-clause-text
returns-clause-text g c = λ image payload read long is.
    let into = c.read.new.into in
    let four : length into ≡ 4 = omega arith in
    let told = on_ok c.read.result (sym c.is_err.ensures.value ∙ c.if-is_err.false) c.read.ensures.reads.bytes in
    let bytes : into ≡ take 4 (drop (c.args.entry.now.at + 6) image) = subst (λ h. IfSome h (λ image. into ≡ take (length into) (drop (c.args.entry.now.at + 6) image))) read told ∙ ap (λ k. take k (drop (c.args.entry.now.at + 6) image)) four in
    text_whole image payload into c.args.entry.now.at c.args.entry.now.length _ long is c.if-entry-lt4.false bytes c.from_be_bytes-len.ensures c.if-len-gt-MOST_TEXT.false c.if-entry-len.false
