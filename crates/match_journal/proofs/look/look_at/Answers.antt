use Rattle.std.proofs.Common.{◌≡◌, ◌+◌, ◌*◌, length, List, ℕ, sym, subst, ◌∙◌, arith}
use Rattle.std.specs.Prelude.{IfSome}
use Rattle.match_journal.specs.Causes.{ReadsAtMost}
use Rattle.match_journal.specs.LookLaws.{look_reads, reads_look, reads_then, reads_more}
use Rattle.match_journal.proofs.Looking.{looks_measured}
use Rattle.match_journal.proofs.look.look_at.Goals as goal

pub returns-in-Err-clause-reads : goal.returns-in-Err-clause-reads
returns-in-Err-clause-reads g c =
    let m = g.S.Station.meanings in
    look_reads m _ _ _ 0 (looks_measured m _ _ _ c.length.ensures.measures) c.front_of.ensures.reads

pub returns-in-Err-clause-front_bytes : goal.returns-in-Err-clause-front_bytes
returns-in-Err-clause-front_bytes g c = λ image read other.
    let m = g.S.Station.meanings in
    let measured = looks_measured m _ _ _ c.length.ensures.measures in
    let known : length image ≡ c.in-Ok.len = sym (subst (λ h. IfSome h (λ (image : List ℕ). c.in-Ok.len ≡ length image)) read c.in-Ok.ensures.measures.value) in
    reads_then 0 14 _ _ _ measured.bytes_read (c.front_of.ensures.few_bytes image (measured.keeps.holds ∙ read) known)

pub returns-in-Err-clause-few_bytes : goal.returns-in-Err-clause-few_bytes
returns-in-Err-clause-few_bytes g c = λ head image records read journal.
    let m = g.S.Station.meanings in
    let measured = looks_measured m _ _ _ c.length.ensures.measures in
    let known : length image ≡ c.in-Ok.len = sym (subst (λ h. IfSome h (λ (image : List ℕ). c.in-Ok.len ≡ length image)) read c.in-Ok.ensures.measures.value) in
    reads_more (0 + 14) _ _ _ (omega arith) (reads_then 0 14 _ _ _ measured.bytes_read (c.front_of.ensures.few_bytes image (measured.keeps.holds ∙ read) known))

pub returns-in-Ok-text_of-clause-reads : goal.returns-in-Ok-text_of-clause-reads
returns-in-Ok-text_of-clause-reads g c =
    let m = g.S.Station.meanings in
    reads_look m _ _ _ _ (look_reads m _ _ _ 0 (looks_measured m _ _ _ c.length.ensures.measures) c.front_of.ensures.reads) c.text_of.ensures.reads.looks

pub returns-in-Ok-text_of-clause-front_bytes : goal.returns-in-Ok-text_of-clause-front_bytes
returns-in-Ok-text_of-clause-front_bytes g c = λ image read other.
    let m = g.S.Station.meanings in
    let measured = looks_measured m _ _ _ c.length.ensures.measures in
    let known : length image ≡ c.in-Ok.len = sym (subst (λ h. IfSome h (λ (image : List ℕ). c.in-Ok.len ≡ length image)) read c.in-Ok.ensures.measures.value) in
    let held = measured.keeps.holds ∙ read in
    let class = c.in-Ok-front_of.ensures.front image held known in
    subst (λ s. ReadsAtMost 14 (m.bytes_read c.args.station.now) (m.bytes_read s)) (sym (c.text_of.ensures.front_bytes image (c.front_of.ensures.reads.looks.keeps.holds ∙ held) class other))
    (reads_then 0 14 _ _ _ measured.bytes_read (c.front_of.ensures.few_bytes image held known))

pub returns-in-Ok-text_of-clause-few_bytes : goal.returns-in-Ok-text_of-clause-few_bytes
returns-in-Ok-text_of-clause-few_bytes g c = λ head image records read journal.
    let m = g.S.Station.meanings in
    let measured = looks_measured m _ _ _ c.length.ensures.measures in
    let known : length image ≡ c.in-Ok.len = sym (subst (λ h. IfSome h (λ (image : List ℕ). c.in-Ok.len ≡ length image)) read c.in-Ok.ensures.measures.value) in
    let held = measured.keeps.holds ∙ read in
    let class = c.in-Ok-front_of.ensures.front image held known in
    let stays = known ∙ sym (c.front_of.ensures.stays image held known) in
    reads_more ((0 + 14) + (4 + 6 * (length records + 1))) _ _ _ (omega arith)
    (reads_then (0 + 14) (4 + 6 * (length records + 1)) _ _ _ (reads_then 0 14 _ _ _ measured.bytes_read (c.front_of.ensures.few_bytes image held known))
    (c.text_of.ensures.few_bytes head image records (c.front_of.ensures.reads.looks.keeps.holds ∙ held) stays class journal))

pub returns-in-Err-text_of-clause-reads : goal.returns-in-Err-text_of-clause-reads
returns-in-Err-text_of-clause-reads g c =
    let m = g.S.Station.meanings in
    reads_look m _ _ _ _ (look_reads m _ _ _ 0 (looks_measured m _ _ _ c.length.ensures.measures) c.front_of.ensures.reads) c.text_of.ensures.reads.looks

pub returns-in-Err-text_of-clause-front_bytes : goal.returns-in-Err-text_of-clause-front_bytes
returns-in-Err-text_of-clause-front_bytes g c = λ image read other.
    let m = g.S.Station.meanings in
    let measured = looks_measured m _ _ _ c.length.ensures.measures in
    let known : length image ≡ c.in-Ok.len = sym (subst (λ h. IfSome h (λ (image : List ℕ). c.in-Ok.len ≡ length image)) read c.in-Ok.ensures.measures.value) in
    let held = measured.keeps.holds ∙ read in
    let class = c.in-Ok-front_of.ensures.front image held known in
    subst (λ s. ReadsAtMost 14 (m.bytes_read c.args.station.now) (m.bytes_read s)) (sym (c.text_of.ensures.front_bytes image (c.front_of.ensures.reads.looks.keeps.holds ∙ held) class other))
    (reads_then 0 14 _ _ _ measured.bytes_read (c.front_of.ensures.few_bytes image held known))

pub returns-in-Err-text_of-clause-few_bytes : goal.returns-in-Err-text_of-clause-few_bytes
returns-in-Err-text_of-clause-few_bytes g c = λ head image records read journal.
    let m = g.S.Station.meanings in
    let measured = looks_measured m _ _ _ c.length.ensures.measures in
    let known : length image ≡ c.in-Ok.len = sym (subst (λ h. IfSome h (λ (image : List ℕ). c.in-Ok.len ≡ length image)) read c.in-Ok.ensures.measures.value) in
    let held = measured.keeps.holds ∙ read in
    let class = c.in-Ok-front_of.ensures.front image held known in
    let stays = known ∙ sym (c.front_of.ensures.stays image held known) in
    reads_more ((0 + 14) + (4 + 6 * (length records + 1))) _ _ _ (omega arith)
    (reads_then (0 + 14) (4 + 6 * (length records + 1)) _ _ _ (reads_then 0 14 _ _ _ measured.bytes_read (c.front_of.ensures.few_bytes image held known))
    (c.text_of.ensures.few_bytes head image records (c.front_of.ensures.reads.looks.keeps.holds ∙ held) stays class journal))
