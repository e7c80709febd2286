use Rattle.std.proofs.Common.{◌≡◌, ◌++◌, List, ℕ, Option, refl, ap, ◌∙◌, append_assoc}
use Rattle.std.specs.List.{flat_map}
use Rattle.gx_base.specs.NameLists.{NameLists}
use Rattle.gx_base.specs.Line.{decimals_of}
use Rattle.gx_base.specs.declared.price.Price.{Price}
use Rattle.plain_book.specs.Book.{Book}
use Rattle.order_kinds.specs.State.{State}
use Rattle.order_kinds.specs.OrderRules.{last_of}
use Rattle.open_auction.specs.declared.quote.Opening.{Opening}
use Rattle.open_auction.specs.Openings.{openings, opening_of}
use Rattle.open_auction.specs.OpeningText.{name_line, candidate_line, opening_line, pair_lines, instrument_opening}
use Rattle.exec_report.proofs.Pushed.{put-of, put-then, put-as, pushes-as, pushes-then, pushes-part, pushes-first}
use Rattle.open_auction.proofs.print.print_instrument.Goals as goal

-- the opening, by what the book and the core tell
opening-is : (state : State) (i : ℕ) (b : Book) (last : Option Price) (o : Option Opening) → b ≡ state.book → last ≡ last_of i state.last → o ≡ opening_of last i b.resting → o ≡ opening_of (last_of i state.last) i state.book.resting
opening-is state i b last o e h k = k ∙ ap (λ (q : Book). opening_of last i q.resting) e ∙ ap (λ (l : Option Price). opening_of l i state.book.resting) h

-- the four parts
head : NameLists → ℕ → List ℕ
head names i = name_line names i

lines : NameLists → State → ℕ → List ℕ
lines names state i = flat_map (candidate_line (decimals_of names i)) (openings i state.book.resting)

price : NameLists → State → ℕ → List ℕ
price names state i = opening_line (decimals_of names i) (opening_of (last_of i state.last) i state.book.resting)

trades : NameLists → State → ℕ → List ℕ
trades names state i = pair_lines (decimals_of names i) i state.book.resting (opening_of (last_of i state.last) i state.book.resting)

four : (names : NameLists) (state : State) (i : ℕ) → instrument_opening names state i ≡ ((head names i ++ lines names state i) ++ price names state i) ++ trades names state i
unfolding head lines price trades
four names state i = refl

after-head : (names : NameLists) (state : State) (i : ℕ) → instrument_opening names state i ≡ head names i ++ (lines names state i ++ (price names state i ++ trades names state i))
after-head names state i =
    four names state i
    ∙ append_assoc (head names i ++ lines names state i) (price names state i) (trades names state i)
    ∙ append_assoc (head names i) (lines names state i) (price names state i ++ trades names state i)

after-lines : (names : NameLists) (state : State) (i : ℕ) → instrument_opening names state i ≡ (head names i ++ lines names state i) ++ (price names state i ++ trades names state i)
after-lines names state i = four names state i ∙ append_assoc (head names i ++ lines names state i) (price names state i) (trades names state i)

head-as : (names : NameLists) (i : ℕ) → name_line names i ≡ head names i
unfolding head
head-as names i = refl

lines-as : (names : NameLists) (state : State) (i : ℕ) (b : Book) (d : ℕ) → b ≡ state.book → d ≡ decimals_of names i → flat_map (candidate_line d) (openings i b.resting) ≡ lines names state i
unfolding lines
lines-as names state i b d e h = ap (λ (n : ℕ). flat_map (candidate_line n) (openings i b.resting)) h ∙ ap (λ (q : Book). flat_map (candidate_line (decimals_of names i)) (openings i q.resting)) e

price-as : (names : NameLists) (state : State) (i : ℕ) (d : ℕ) (o : Option Opening) → d ≡ decimals_of names i → o ≡ opening_of (last_of i state.last) i state.book.resting → opening_line d o ≡ price names state i
unfolding price
price-as names state i d o h k = ap (λ (n : ℕ). opening_line n o) h ∙ ap (opening_line (decimals_of names i)) k

trades-as : (names : NameLists) (state : State) (i : ℕ) (b : Book) (d : ℕ) (o : Option Opening) → b ≡ state.book → d ≡ decimals_of names i → o ≡ opening_of (last_of i state.last) i state.book.resting → pair_lines d i b.resting o ≡ trades names state i
unfolding trades
trades-as names state i b d o e h k =
    ap (λ (n : ℕ). pair_lines n i b.resting o) h
    ∙ ap (λ (q : Book). pair_lines (decimals_of names i) i q.resting o) e
    ∙ ap (pair_lines (decimals_of names i) i state.book.resting) k

pub returns-in_err-print_name : goal.returns-in_err-print_name
returns-in_err-print_name g c =
    let m = g.S.Station.meanings in
    let names = c.args.names.now in
    let state = c.args.core.now in
    let i = c.args.instrument in
    pushes-first m _ _ _ _ _ _ _ _ c.in_err-print_name.field-0.0 c.from_residual.result c.from_residual.ensures.0 (after-head names state i)
    (pushes-as m _ _ _ _ _ _ _ (head-as names i) c.in_err-print_name.ensures)

pub returns-in_err-print_candidates : goal.returns-in_err-print_candidates
returns-in_err-print_candidates g c =
    let m = g.S.Station.meanings in
    let names = c.args.names.now in
    let state = c.args.core.now in
    let i = c.args.instrument in
    let b = g.B.Book.book c.book-book.result.now in
    pushes-part m _ _ _ _ _ _ _ _ _ _ _ c.in_err-print_candidates.field-0.0 c.from_residual-in_err-print_candidates.result c.from_residual-in_err-print_candidates.ensures.0
    (after-head names state i)
    (put-as m _ _ _ _ _ _ (head-as names i) (put-of m _ _ _ _ _ c.in_ok-print_name.field-0 c.in_ok-print_name.ensures))
    (pushes-as m _ _ _ _ _ _ _ (lines-as names state i b c.listed-decimals.result.decimals c.book-book.ensures c.listed-decimals.ensures.decimals) c.in_err-print_candidates.ensures)

pub returns-in_err-print_price : goal.returns-in_err-print_price
returns-in_err-print_price g c =
    let m = g.S.Station.meanings in
    let names = c.args.names.now in
    let state = c.args.core.now in
    let i = c.args.instrument in
    let b = g.B.Book.book c.book-book.result.now in
    let d = c.listed-decimals.result.decimals in
    let opened = opening-is state i b c.last.result c.opening-opening.result c.book-book.ensures c.last.ensures c.opening-opening.ensures in
    pushes-part m _ _ _ _ _ _ _ _ _ _ _ c.in_err-print_price.field-0.0 c.from_residual-in_err-print_price.result c.from_residual-in_err-print_price.ensures.0
    (after-lines names state i)
    (put-then m _ _ _ _ _ _ _ _
    (put-as m _ _ _ _ _ _ (head-as names i) (put-of m _ _ _ _ _ c.in_ok-print_name.field-0 c.in_ok-print_name.ensures))
    (put-as m _ _ _ _ _ _ (lines-as names state i b d c.book-book.ensures c.listed-decimals.ensures.decimals) (put-of m _ _ _ _ _ c.in_ok-print_candidates.field-0 c.in_ok-print_candidates.ensures)))
    (pushes-as m _ _ _ _ _ _ _ (price-as names state i d c.opening-opening.result c.listed-decimals.ensures.decimals opened) c.in_err-print_price.ensures)

pub returns : goal.returns
returns g c =
    let m = g.S.Station.meanings in
    let names = c.args.names.now in
    let state = c.args.core.now in
    let i = c.args.instrument in
    let b = g.B.Book.book c.book-book.result.now in
    let d = c.listed-decimals.result.decimals in
    let opened = opening-is state i b c.last.result c.opening-opening.result c.book-book.ensures c.last.ensures c.opening-opening.ensures in
    pushes-then m _ _ _ _ _ _ ((head names i ++ lines names state i) ++ price names state i) (trades names state i) (instrument_opening names state i) c.print_trades.result
    (four names state i)
    (put-then m _ _ _ _ _ _ _ _
    (put-then m _ _ _ _ _ _ _ _
    (put-as m _ _ _ _ _ _ (head-as names i) (put-of m _ _ _ _ _ c.in_ok-print_name.field-0 c.in_ok-print_name.ensures))
    (put-as m _ _ _ _ _ _ (lines-as names state i b d c.book-book.ensures c.listed-decimals.ensures.decimals) (put-of m _ _ _ _ _ c.in_ok-print_candidates.field-0 c.in_ok-print_candidates.ensures)))
    (put-as m _ _ _ _ _ _ (price-as names state i d c.opening-opening.result c.listed-decimals.ensures.decimals opened) (put-of m _ _ _ _ _ c.in_ok-print_price.field-0 c.in_ok-print_price.ensures)))
    (pushes-as m _ _ _ _ _ _ _ (trades-as names state i b d c.opening-opening.result c.book-book.ensures c.listed-decimals.ensures.decimals opened) c.print_trades.ensures)
