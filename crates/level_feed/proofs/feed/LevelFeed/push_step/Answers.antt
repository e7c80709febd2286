use Rattle.std.proofs.Common.{◌≡◌, ◌≤◌, ◌∙◌, ◌++◌, List, length, length-append, ap, ap₂, subst, sym, arith}
use Rattle.std.specs.Prelude.{not, IfOk}
use Rattle.gx_base.specs.NameLists.{NameLists}
use Rattle.level_feed.specs.declared.row.Row.{Row}
use Rattle.level_feed.specs.Rows.{levels_of, gone, changed, difference, is_none, with_rows, AreOrdered}
use Rattle.level_feed.specs.Blocks.{increment}
use Rattle.level_feed.specs.FeedText.{text_of_blocks}
use Rattle.level_feed.specs.Held.{FeedRows}
use Rattle.level_feed.specs.Noted.{AreNoted}
use Rattle.level_feed.specs.Inner.{picked, Stays}
use Rattle.exec_report.proofs.Pushed.{pushes-as}
use Rattle.level_feed.proofs.LevelsOf.{length-levels, levels-ordered}
use Rattle.level_feed.proofs.RowsAt.{levels-open}
use Rattle.level_feed.proofs.Picked.{picked-ordered, picked-few, picked-gone, picked-changed, effect-is, effect-stays}
use Rattle.level_feed.proofs.feed.LevelFeed.push_step.Goals as goal

pub compare-requires-clause-old : goal.compare-requires-clause-old
compare-requires-clause-old g c =
    let levels = c.args.noted.now.levels in
    let old = c.self.inside.rows.rows in
    let was : c.deref.result.now ≡ picked levels old = c.deref.ensures.value ∙ c.take_sent.ensures.rows ∙ ap (λ (q : List Row). picked q old) c.levels-levels.ensures.levels in
    subst AreOrdered (sym was) (picked-ordered levels old c.levels-levels.ensures.ordered c.rules-2.ensures.ordered)

pub compare-requires-clause-new : goal.compare-requires-clause-new
compare-requires-clause-new g c =
    let levels = c.args.noted.now.levels in
    let es = (g.B.Book.book c.args.book.now).resting in
    let new = levels_of es in
    let news = levels-ordered es c.rules.ensures.ordered in
    let fresh : c.deref-2.result.now ≡ picked levels new = c.deref-2.ensures.value ∙ c.take_noted.ensures.rows ∙ ap (λ (q : List Row). picked q new) c.levels-levels.ensures.levels in
    subst AreOrdered (sym fresh) (picked-ordered levels new c.levels-levels.ensures.ordered news)

pub compare-requires-clause-gone_room : goal.compare-requires-clause-gone_room
compare-requires-clause-gone_room g c =
    let levels = c.args.noted.now.levels in
    let old = c.self.inside.rows.rows in
    let was : c.deref.result.now ≡ picked levels old = c.deref.ensures.value ∙ c.take_sent.ensures.rows ∙ ap (λ (q : List Row). picked q old) c.levels-levels.ensures.levels in
    omega (arith, ap length was, picked-few levels old c.levels-levels.ensures.ordered c.rules-2.ensures.ordered, c.rules-2.ensures.few, c.self.invariant.3)

pub compare-requires-clause-changed_room : goal.compare-requires-clause-changed_room
compare-requires-clause-changed_room g c =
    let levels = c.args.noted.now.levels in
    let es = (g.B.Book.book c.args.book.now).resting in
    let new = levels_of es in
    let news = levels-ordered es c.rules.ensures.ordered in
    let fresh : c.deref-2.result.now ≡ picked levels new = c.deref-2.ensures.value ∙ c.take_noted.ensures.rows ∙ ap (λ (q : List Row). picked q new) c.levels-levels.ensures.levels in
    let b = g.B.Book.book c.args.book.now in
    let same = ap (λ (f : FeedRows). f.capacity) c.self.view_is in
    let few : length new ≤ c.self.inside.rows.capacity = omega (arith, length-levels es, length-append es b.waiting, c.rules.ensures.few, c.requires.capacity, same) in
    omega (arith, ap length fresh, picked-few levels new c.levels-levels.ensures.ordered news, c.self.invariant.4)

pub put_all-requires : goal.put_all-requires
put_all-requires g c =
    let levels = c.args.noted.now.levels in
    let old = c.self.inside.rows.rows in
    let es = (g.B.Book.book c.args.book.now).resting in
    let new = levels_of es in
    let news = levels-ordered es c.rules.ensures.ordered in
    let was : c.deref.result.now ≡ picked levels old = c.deref.ensures.value ∙ c.take_sent.ensures.rows ∙ ap (λ (q : List Row). picked q old) c.levels-levels.ensures.levels in
    let fresh : c.deref-2.result.now ≡ picked levels new = c.deref-2.ensures.value ∙ c.take_noted.ensures.rows ∙ ap (λ (q : List Row). picked q new) c.levels-levels.ensures.levels in
    let each = sym c.if-is_any.ensures in
    let noted : AreNoted c.args.noted.now old new = subst (λ (f : FeedRows). AreNoted c.args.noted.now f.rows new) (sym c.self.view_is) c.requires.noted in
    let is-gone : c.compare.new.gone_rows.items ≡ gone old new = c.compare.ensures.gone ∙ ap₂ gone was fresh ∙ picked-gone c.args.noted.now old new each noted c.levels-levels.ensures.ordered c.rules-2.ensures.ordered news in
    let b = g.B.Book.book c.args.book.now in
    let same = ap (λ (f : FeedRows). f.capacity) c.self.view_is in
    let few : length new ≤ c.self.inside.rows.capacity = omega (arith, length-levels es, length-append es b.waiting, c.rules.ensures.few, c.requires.capacity, same) in
    record { stays = subst (λ (q : List Row). Stays c.self.inside.rows.capacity q old) (sym (c.deref-3.ensures.value ∙ is-gone)) (effect-stays c.self.inside.rows.capacity old new c.rules-2.ensures.ordered news (levels-open es) c.rules-2.ensures.few few).0 }

pub put_all-requires-2 : goal.put_all-requires-2
put_all-requires-2 g c =
    let levels = c.args.noted.now.levels in
    let old = c.self.inside.rows.rows in
    let es = (g.B.Book.book c.args.book.now).resting in
    let new = levels_of es in
    let news = levels-ordered es c.rules.ensures.ordered in
    let was : c.deref.result.now ≡ picked levels old = c.deref.ensures.value ∙ c.take_sent.ensures.rows ∙ ap (λ (q : List Row). picked q old) c.levels-levels.ensures.levels in
    let fresh : c.deref-2.result.now ≡ picked levels new = c.deref-2.ensures.value ∙ c.take_noted.ensures.rows ∙ ap (λ (q : List Row). picked q new) c.levels-levels.ensures.levels in
    let each = sym c.if-is_any.ensures in
    let noted : AreNoted c.args.noted.now old new = subst (λ (f : FeedRows). AreNoted c.args.noted.now f.rows new) (sym c.self.view_is) c.requires.noted in
    let is-gone : c.compare.new.gone_rows.items ≡ gone old new = c.compare.ensures.gone ∙ ap₂ gone was fresh ∙ picked-gone c.args.noted.now old new each noted c.levels-levels.ensures.ordered c.rules-2.ensures.ordered news in
    let is-changed : c.compare.new.changed_rows.items ≡ changed old new = c.compare.ensures.changed ∙ ap₂ changed was fresh ∙ picked-changed c.args.noted.now old new each noted c.levels-levels.ensures.ordered c.rules-2.ensures.ordered news in
    let b = g.B.Book.book c.args.book.now in
    let same = ap (λ (f : FeedRows). f.capacity) c.self.view_is in
    let few : length new ≤ c.self.inside.rows.capacity = omega (arith, length-levels es, length-append es b.waiting, c.rules.ensures.few, c.requires.capacity, same) in
    let mid : c.put_all.new.self ≡ record c.self.inside.rows { rows = with_rows (gone old new) old } = c.put_all.ensures ∙ ap (λ (q : List Row). record c.self.inside.rows { rows = with_rows q old }) (c.deref-3.ensures.value ∙ is-gone) in
    let stays = (effect-stays c.self.inside.rows.capacity old new c.rules-2.ensures.ordered news (levels-open es) c.rules-2.ensures.few few).1 in
    record { stays = subst (λ (f : FeedRows). Stays f.capacity c.deref-4.result.now f.rows) (sym mid) (subst (λ (q : List Row). Stays c.self.inside.rows.capacity q (with_rows (gone old new) old)) (sym (c.deref-4.ensures.value ∙ is-changed)) stays) }

pub returns-clause-sends : goal.returns-clause-sends
returns-clause-sends g c =
    let levels = c.args.noted.now.levels in
    let old = c.self.inside.rows.rows in
    let es = (g.B.Book.book c.args.book.now).resting in
    let new = levels_of es in
    let news = levels-ordered es c.rules.ensures.ordered in
    let was : c.deref.result.now ≡ picked levels old = c.deref.ensures.value ∙ c.take_sent.ensures.rows ∙ ap (λ (q : List Row). picked q old) c.levels-levels.ensures.levels in
    let fresh : c.deref-2.result.now ≡ picked levels new = c.deref-2.ensures.value ∙ c.take_noted.ensures.rows ∙ ap (λ (q : List Row). picked q new) c.levels-levels.ensures.levels in
    let each = sym c.if-is_any.ensures in
    let noted : AreNoted c.args.noted.now old new = subst (λ (f : FeedRows). AreNoted c.args.noted.now f.rows new) (sym c.self.view_is) c.requires.noted in
    let is-gone : c.compare.new.gone_rows.items ≡ gone old new = c.compare.ensures.gone ∙ ap₂ gone was fresh ∙ picked-gone c.args.noted.now old new each noted c.levels-levels.ensures.ordered c.rules-2.ensures.ordered news in
    let is-changed : c.compare.new.changed_rows.items ≡ changed old new = c.compare.ensures.changed ∙ ap₂ changed was fresh ∙ picked-changed c.args.noted.now old new each noted c.levels-levels.ensures.ordered c.rules-2.ensures.ordered news in
    let is-difference : c.deref-5.result.now ++ c.deref-6.result.now ≡ difference c.args.self.now.rows new =
    ap₂ (λ (p : List Row) (q : List Row). p ++ q) (c.deref-5.ensures.value ∙ is-gone) (c.deref-6.ensures.value ∙ is-changed) ∙ ap (λ (f : FeedRows). difference f.rows new) c.self.view_is
    in
    pushes-as g.S.Station.meanings _ _ _ _ _ _ c.push_increment.result (ap₂ (λ (n : NameLists) (q : List Row). text_of_blocks n.instruments (increment c.args.number c.args.last q)) c.names-names.ensures is-difference) c.push_increment.ensures.sends

pub returns-clause-told : goal.returns-clause-told
returns-clause-told g c =
    let levels = c.args.noted.now.levels in
    let old = c.self.inside.rows.rows in
    let es = (g.B.Book.book c.args.book.now).resting in
    let new = levels_of es in
    let news = levels-ordered es c.rules.ensures.ordered in
    let was : c.deref.result.now ≡ picked levels old = c.deref.ensures.value ∙ c.take_sent.ensures.rows ∙ ap (λ (q : List Row). picked q old) c.levels-levels.ensures.levels in
    let fresh : c.deref-2.result.now ≡ picked levels new = c.deref-2.ensures.value ∙ c.take_noted.ensures.rows ∙ ap (λ (q : List Row). picked q new) c.levels-levels.ensures.levels in
    let each = sym c.if-is_any.ensures in
    let noted : AreNoted c.args.noted.now old new = subst (λ (f : FeedRows). AreNoted c.args.noted.now f.rows new) (sym c.self.view_is) c.requires.noted in
    let is-gone : c.compare.new.gone_rows.items ≡ gone old new = c.compare.ensures.gone ∙ ap₂ gone was fresh ∙ picked-gone c.args.noted.now old new each noted c.levels-levels.ensures.ordered c.rules-2.ensures.ordered news in
    let is-changed : c.compare.new.changed_rows.items ≡ changed old new = c.compare.ensures.changed ∙ ap₂ changed was fresh ∙ picked-changed c.args.noted.now old new each noted c.levels-levels.ensures.ordered c.rules-2.ensures.ordered news in
    let is-difference : c.deref-5.result.now ++ c.deref-6.result.now ≡ difference c.args.self.now.rows new =
    ap₂ (λ (p : List Row) (q : List Row). p ++ q) (c.deref-5.ensures.value ∙ is-gone) (c.deref-6.ensures.value ∙ is-changed) ∙ ap (λ (f : FeedRows). difference f.rows new) c.self.view_is
    in
    subst (λ (q : List Row). IfOk c.push_increment.result (λ sent. sent ≡ not (is_none q))) is-difference c.push_increment.ensures.told

pub returns-clause-rows : goal.returns-clause-rows
returns-clause-rows g c =
    let levels = c.args.noted.now.levels in
    let old = c.self.inside.rows.rows in
    let es = (g.B.Book.book c.args.book.now).resting in
    let new = levels_of es in
    let news = levels-ordered es c.rules.ensures.ordered in
    let was : c.deref.result.now ≡ picked levels old = c.deref.ensures.value ∙ c.take_sent.ensures.rows ∙ ap (λ (q : List Row). picked q old) c.levels-levels.ensures.levels in
    let fresh : c.deref-2.result.now ≡ picked levels new = c.deref-2.ensures.value ∙ c.take_noted.ensures.rows ∙ ap (λ (q : List Row). picked q new) c.levels-levels.ensures.levels in
    let each = sym c.if-is_any.ensures in
    let noted : AreNoted c.args.noted.now old new = subst (λ (f : FeedRows). AreNoted c.args.noted.now f.rows new) (sym c.self.view_is) c.requires.noted in
    let is-gone : c.compare.new.gone_rows.items ≡ gone old new = c.compare.ensures.gone ∙ ap₂ gone was fresh ∙ picked-gone c.args.noted.now old new each noted c.levels-levels.ensures.ordered c.rules-2.ensures.ordered news in
    let is-changed : c.compare.new.changed_rows.items ≡ changed old new = c.compare.ensures.changed ∙ ap₂ changed was fresh ∙ picked-changed c.args.noted.now old new each noted c.levels-levels.ensures.ordered c.rules-2.ensures.ordered news in
    let mid : c.put_all.new.self ≡ record c.self.inside.rows { rows = with_rows (gone old new) old } = c.put_all.ensures ∙ ap (λ (q : List Row). record c.self.inside.rows { rows = with_rows q old }) (c.deref-3.ensures.value ∙ is-gone) in
    let end : c.put_all-2.new.self ≡ record c.self.inside.rows { rows = new } =
    c.put_all-2.ensures
    ∙ ap₂ (λ (q : List Row) (f : FeedRows). record f { rows = with_rows q f.rows }) (c.deref-4.ensures.value ∙ is-changed) mid
    ∙ ap (λ (q : List Row). record c.self.inside.rows { rows = q }) (effect-is old new c.rules-2.ensures.ordered news (levels-open es))
    in
    end ∙ ap (λ (f : FeedRows). record f { rows = new }) c.self.view_is
