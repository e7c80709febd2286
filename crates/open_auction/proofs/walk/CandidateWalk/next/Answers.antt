use Rattle.std.proofs.Common.{◌≡◌, ◌<◌, ◌^◌, ◌+◌, min, Some, Option, ℕ, List, sym, ap, ◌∙◌, arith}
use Rattle.gx_base.specs.declared.price.Price.{Price}
use Rattle.gx_base.specs.declared.order.Side.TheVariants.{Buy, Sell}
use Rattle.plain_book.specs.declared.entry.Entry.{Entry}
use Rattle.plain_book.specs.Orders.{worse_of, better_of}
use Rattle.open_auction.specs.declared.quote.Opening.{Opening}
use Rattle.open_auction.specs.Curves.{demand, supply}
use Rattle.open_auction.specs.Openings.{opening_at}
use Rattle.open_auction.specs.Inner.Walk.{higher, first_of}
use Rattle.open_auction.proofs.Prices.{lesser-of}
use Rattle.open_auction.proofs.Walking.{demand-is, demand-fits, supply-is, supply-covers, next-sums, next-to-come, meets}
use Rattle.open_auction.proofs.walk.CandidateWalk.next.Goals as goal

pub overflow_add-demand : goal.overflow_add-demand
overflow_add-demand g c =
    let b = g.B.Book.book c.args.book.now in
    let fits : c.args.self.now.above + c.open_total.result < 2 ^ 63 = demand-fits b c.rules.ensures c.args.self.now c.requires c.in_ok-price.price c.in_ok-price.was c.open_total.result c.open_total.ensures in
    omega arith

pub overflow_sub-self : goal.overflow_sub-self
overflow_sub-self g c =
    let b = g.B.Book.book c.args.book.now in
    supply-covers b c.rules.ensures c.args.self.now c.requires c.in_ok-price.price c.in_ok-price.was c.open_total-2.result c.open_total-2.ensures

-- where the walk goes, by the book's answers
goes : (es : List Entry) (i : ℕ) (p : Price) (next buy sell : Option Price) → next ≡ higher buy sell → buy ≡ worse_of i Buy p.0 es → sell ≡ better_of i Sell p.0 es → next ≡ higher (worse_of i Buy p.0 es) (better_of i Sell p.0 es)
goes es i p next buy sell h k l = h ∙ ap (λ (o : Option Price). higher o sell) k ∙ ap (higher (worse_of i Buy p.0 es)) l

pub returns-clause-walk : goal.returns-clause-walk
returns-clause-walk g c =
    let b = g.B.Book.book c.args.book.now in
    let w = c.args.self.now in
    let p = c.in_ok-price.price in
    record {
      listed = c.requires.listed;
      sums = next-sums b c.rules.ensures w c.requires p c.in_ok-price.was c.higher-self.result
          (goes b.resting w.instrument p c.higher-self.result c.worse-buy.result c.better-sell.result c.higher-self.ensures c.worse-buy.ensures c.better-sell.ensures)
          c.open_total.result c.open_total-2.result c.open_total.ensures c.open_total-2.ensures;
    }

made : (i : ℕ) (es : List Entry) (p : Price) (d s v : ℕ) → d ≡ demand i es p → s ≡ supply i es p → v ≡ min d s → Some (let o : Opening = record { price = p; volume = v; demand = d; supply = s } in o) ≡ Some (opening_at i es p)
made i es p d s v h k l =
    let O = λ (v d s : ℕ). let o : Opening = record { price = p; volume = v; demand = d; supply = s } in Some o in
    ap (λ (n : ℕ). O n d s) l ∙ ap (λ (n : ℕ). O (min n s) n s) h ∙ ap (λ (n : ℕ). O (min (demand i es p) n) (demand i es p) n) k

pub returns-clause-first : goal.returns-clause-first
returns-clause-first g c =
    let b = g.B.Book.book c.args.book.now in
    let w = c.args.self.now in
    let p = c.in_ok-price.price in
    made w.instrument b.resting p _ _ _
    (demand-is b c.rules.ensures w c.requires p c.in_ok-price.was c.open_total.result c.open_total.ensures)
    (supply-is b c.rules.ensures w c.requires p c.in_ok-price.was)
    (lesser-of _ _ _ c.min.ensures)
    ∙ sym (ap first_of (meets b c.rules.ensures w c.requires p c.in_ok-price.was))

pub returns-clause-rest : goal.returns-clause-rest
returns-clause-rest g c =
    let b = g.B.Book.book c.args.book.now in
    let w = c.args.self.now in
    let p = c.in_ok-price.price in
    next-to-come b c.rules.ensures w c.requires p c.in_ok-price.was c.higher-self.result
    (goes b.resting w.instrument p c.higher-self.result c.worse-buy.result c.better-sell.result c.higher-self.ensures c.worse-buy.ensures c.better-sell.ensures)
    c.open_total.result c.open_total-2.result c.open_total.ensures c.open_total-2.ensures
