use Rattle.std.proofs.Common.{◌≡◌, ℕ, List, sym, ap, subst, ◌∙◌}
use Rattle.gx_base.specs.declared.order.Side.TheVariants.{Buy, Sell}
use Rattle.plain_book.specs.declared.entry.Entry.{Entry}
use Rattle.plain_book.specs.Book.{Book}
use Rattle.plain_book.specs.Numbers.{numbered}
use Rattle.book_image.specs.Faults.{top_at}
use Rattle.book_image.specs.Reading.{with_first_top, with_all_tops}
use Rattle.book_image.specs.Inner.Loading.{IsRightTop, NoneTopOn, HasResting, orders_of}
use Rattle.book_image.proofs.LoadLists.{orders-numbered}
use Rattle.book_image.proofs.LoadLevels.{resting-then, resting-is}
use Rattle.book_image.proofs.LoadTops.{first-top-orders, all-tops-orders, buys-unmarked, sells-unmarked, none-numbered, none-top-numbered}
use Rattle.book_image.proofs.mark_tops.mark_tops.Goals as goal

-- the entries of a book by their numbers
numbered-as : (a b : Book) (es : List Entry) → HasResting a b es → numbered b.resting ≡ es
numbered-as a b es h = ap (λ (x : Book). x.resting) h

-- the orders that rest stay while they are marked
orders-kept : (a b : Book) (es : List Entry) → HasResting a b es → orders_of es ≡ orders_of a.resting → orders_of b.resting ≡ orders_of a.resting
orders-kept a b es h same = sym (orders-numbered b.resting) ∙ ap orders_of (numbered-as a b es h) ∙ same

tops-so-far : (payload : List ℕ) (k : ℕ) (a : Book) → orders_of (with_all_tops payload k (numbered a.resting)) ≡ orders_of a.resting
tops-so-far payload k a = all-tops-orders payload k (numbered a.resting) ∙ orders-numbered a.resting

-- after the buys of an instrument
buys-marked : (payload : List ℕ) (k number : ℕ) (a b c : Book) → HasResting a b (with_all_tops payload k (numbered a.resting)) → HasResting b c (with_first_top k Buy number (numbered b.resting))
    → HasResting a c (with_first_top k Buy number (with_all_tops payload k (numbered a.resting)))
buys-marked payload k number a b c h t =
    resting-is a c _ _ (resting-then a b c _ _ h t) (ap (with_first_top k Buy number) (numbered-as a b _ h))

pub mark_side-requires-clause-right : goal.mark_side-requires-clause-right
mark_side-requires-clause-right g c =
    let a = g.B.Book.book c.args.book.now in
    let b = g.B.Book.book c.loop-k.book in
    let k = c.loop-k.k in
    let same = orders-kept a b _ c.loop-k.invariant (tops-so-far c.args.payload.now k a) in
    subst (λ (n : ℕ). IsRightTop k Buy n (orders_of b.resting)) (sym c.number_at.ensures)
    (subst (IsRightTop k Buy (top_at c.args.payload.now k Buy)) (sym same) (c.requires.right k Buy c.loop-k-test.true))

pub mark_side-requires-clause-none_top : goal.mark_side-requires-clause-none_top
mark_side-requires-clause-none_top g c =
    let a = g.B.Book.book c.args.book.now in
    let b = g.B.Book.book c.loop-k.book in
    none-numbered c.loop-k.k Buy b.resting
    (subst (NoneTopOn c.loop-k.k Buy) (sym (numbered-as a b _ c.loop-k.invariant)) (buys-unmarked c.args.payload.now c.loop-k.k (numbered a.resting) Buy (none-top-numbered a.resting c.requires.none_top)))

pub mark_side-requires-in-loop-k-clause-right : goal.mark_side-requires-in-loop-k-clause-right
mark_side-requires-in-loop-k-clause-right g c =
    let a = g.B.Book.book c.args.book.now in
    let b = g.B.Book.book c.loop-k.book in
    let d = g.B.Book.book c.mark_side.new.book in
    let k = c.loop-k.k in
    let p = c.args.payload.now in
    let marked = buys-marked p k c.number_at.result a b d c.loop-k.invariant c.mark_side.ensures in
    let same = orders-kept a d _ marked (first-top-orders k Buy c.number_at.result (with_all_tops p k (numbered a.resting)) ∙ tops-so-far p k a) in
    subst (λ (n : ℕ). IsRightTop k Sell n (orders_of d.resting)) (sym c.number_at-in-loop-k.ensures)
    (subst (IsRightTop k Sell (top_at p k Sell)) (sym same) (c.requires.right k Sell c.loop-k-test.true))

pub mark_side-requires-in-loop-k-clause-none_top : goal.mark_side-requires-in-loop-k-clause-none_top
mark_side-requires-in-loop-k-clause-none_top g c =
    let p = c.args.payload.now in
    let k = c.loop-k.k in
    let a = g.B.Book.book c.args.book.now in
    let d = g.B.Book.book c.mark_side.new.book in
    let marked = buys-marked p k c.number_at.result a (g.B.Book.book c.loop-k.book) d c.loop-k.invariant c.mark_side.ensures in
    none-numbered k Sell d.resting (subst (NoneTopOn k Sell) (sym (numbered-as a d _ marked)) (sells-unmarked p k c.number_at.result (numbered a.resting) (none-top-numbered a.resting c.requires.none_top)))
