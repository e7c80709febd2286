use Rattle.std.proofs.Common.{◌≡◌, ◌≤◌, ◌+◌, List, [], drop, arith, subst, sym, ◌∙◌}
use Rattle.std.proofs.lemmas.List.{drop_all}
use Rattle.gx_base.specs.declared.order.LmmShare.{LmmShare}
use Rattle.plain_book.specs.Orders.{orders_at}
use Rattle.plain_book.specs.Matches.{match_at}
use Rattle.plain_book.specs.Steps.{facing}
use Rattle.plain_book.proofs.Levels.{AllDiffer-front}
use Rattle.lmm_pass.proofs.Spends.{spent-within}
use Rattle.lmm_pass.proofs.Absent.{absent-none}
use Rattle.lmm_pass.proofs.Unmoved.{next-share, share_at}
use Rattle.lmm_pass.proofs.UnderWay.{IsUnderWay, way-start, way-more, way-past, way-wanted, way-end}
use Rattle.lmm_pass.proofs.pass.lmm_pass.Goals as goal

pub loop-share-init : goal.loop-share-init
loop-share-init g c = way-start g.E.Emit.meanings c.args.price c.args.shares.now (match_at (g.B.Book.book c.args.book.now) c.args.desk.now c.args.taker.now c.args.out.now) c.requires.can c.requires.firms c.requires.percents c.requires.sum

pub loop-share-preserved-then-has : goal.loop-share-preserved-then-has
loop-share-preserved-then-has g c =
    let m = g.E.Emit.meanings in
    let price = c.args.price in
    let shares = c.args.shares.now in
    let l = c.loop-share in
    let i = l.share-index in
    let before = match_at (g.B.Book.book c.args.book.now) c.args.desk.now c.args.taker.now c.args.out.now in
    let now = match_at (g.B.Book.book l.book) l.desk l.taker l.out in
    let s : LmmShare = share_at shares i in
    let way = subst (λ (left : List LmmShare). IsUnderWay m price shares before left now) (next-share shares i c.loop-share-test.true) l.invariant in
    let level = orders_at (facing price c.args.taker.now) (g.B.Book.book c.args.book.now).resting in
    let absent = c.absent_firms-absent in
    let none = absent-none c.firms_due-due.result absent.result s.firm level (absent.ensures s.firm) (sym c.has.ensures ∙ c.if-has.true) in
    way-past m price shares before s (drop (i + 1) shares) now none way

pub trade_level-requires-clause-within : goal.trade_level-requires-clause-within
trade_level-requires-clause-within g c =
    let m = g.E.Emit.meanings in
    let price = c.args.price in
    let shares = c.args.shares.now in
    let l = c.loop-share in
    let i = l.share-index in
    let s : LmmShare = share_at shares i in
    let b = g.B.Book.book l.book in
    let before = match_at (g.B.Book.book c.args.book.now) c.args.desk.now c.args.taker.now c.args.out.now in
    let now = match_at b l.desk l.taker l.out in
    let way = subst (λ (left : List LmmShare). IsUnderWay m price shares before left now) (next-share shares i c.loop-share-test.true) l.invariant in
    let few : c.percent_of.result ≤ l.taker.order.leaves = omega (arith, c.percent_of.ensures.value, way-wanted m price shares before s (drop (i + 1) shares) now way) in
    spent-within l.taker.order.leaves s.firm c.percent_of.result (orders_at (facing price l.taker) b.resting) few

pub loop-share-preserved : goal.loop-share-preserved
loop-share-preserved g c =
    let m = g.E.Emit.meanings in
    let price = c.args.price in
    let shares = c.args.shares.now in
    let l = c.loop-share in
    let i = l.share-index in
    let b = g.B.Book.book l.book in
    let before = match_at (g.B.Book.book c.args.book.now) c.args.desk.now c.args.taker.now c.args.out.now in
    let now = match_at b l.desk l.taker l.out in
    let r = c.trade_level.new in
    let way = subst (λ (left : List LmmShare). IsUnderWay m price shares before left now) (next-share shares i c.loop-share-test.true) l.invariant in
    way-more m price shares before (share_at shares i) (drop (i + 1) shares) now (match_at (g.B.Book.book r.book) r.desk r.taker r.out) c.percent_of.result (AllDiffer-front b.resting b.waiting c.rules.ensures.differ) way c.percent_of.ensures.value c.trade_level.ensures

pub returns : goal.returns
returns g c =
    let m = g.E.Emit.meanings in
    let price = c.args.price in
    let shares = c.args.shares.now in
    let l = c.loop-share in
    let before = match_at (g.B.Book.book c.args.book.now) c.args.desk.now c.args.taker.now c.args.out.now in
    let now = match_at (g.B.Book.book l.book) l.desk l.taker l.out in
    let all : drop l.share-index shares ≡ [] = drop_all l.share-index shares (omega (arith, c.loop-share-test.false)) in
    way-end m price shares before now (subst (λ (left : List LmmShare). IsUnderWay m price shares before left now) all l.invariant)
