-- What the messages of a history report adds up.
use Rattle.std.proofs.Common.{◌≡◌, List, [], ◌∷◌, ◌++◌, map, refl, sym, subst, ap, ◌∙◌}
use Rattle.std.specs.List.{AllByRecursion}
use Rattle.gx_base.specs.declared.event.Event.{Event}
use Rattle.product_file.specs.Products.{ProductLists}
use Rattle.plain_book.specs.declared.entry.Entry.{Entry}
use Rattle.plain_book.specs.Book.{live_orders}
use Rattle.order_kinds.specs.State.{State, empty_state}
use Rattle.order_kinds.specs.Amendments.{untopped, amended_state}
use Rattle.order_kinds.specs.Histories.{History, of_product, amended, AreRightProducts, state_kept, events_kept, IsBalanced}
use Rattle.engine_laws.proofs.Told.{Account, IsTold, account}
use Rattle.engine_laws.proofs.Books.{accounts, accounts-append}
use Rattle.engine_laws.proofs.Trades.{Rests}
use Rattle.engine_laws.proofs.BalancedRequests.{TellsState}
use Rattle.engine_laws.proofs.Streams.{frames-kept, starts, sound-balances}

-- ---- an amendment, which changes no quantity

untopped-accounts : (product : ProductLists) (es : List Entry) → accounts (map (untopped product) es) ≡ accounts es
untopped-accounts product [] = refl
untopped-accounts product (e ∷ es) = ap (λ (xs : List Account). account e.order ∷ xs) (untopped-accounts product es)

untopped-rest : (product : ProductLists) (es : List Entry) → AllByRecursion Rests es → AllByRecursion Rests (map (untopped product) es)
untopped-rest product [] h = tt
untopped-rest product (e ∷ es) h = (h.0, untopped-rest product es h.1)

pub amended-kept : (product : ProductLists) (events : List Event) (state : State) → TellsState events state → TellsState events (amended_state product state)
amended-kept product events state h =
    let same : accounts (live_orders (amended_state product state).book) ≡ accounts (live_orders state.book) =
    accounts-append (map (untopped product) state.book.resting) state.book.waiting
    ∙ ap (λ (xs : List Account). xs ++ accounts state.book.waiting) (untopped-accounts product state.book.resting)
    ∙ sym (accounts-append state.book.resting state.book.waiting) in
    record {
      told = subst (λ (xs : List Account). IsTold events state.desk.orders xs) (sym same) h.told;
      paired = h.paired;
      rest = untopped-rest product state.book.resting h.rest;
      wait = h.wait;
    }

-- ---- the law

pub history-kept : (history : History) → AreRightProducts history → TellsState (events_kept history) (state_kept history)
history-kept (of_product product messages) right = frames-kept product right [] (empty_state product) messages (starts product right)
history-kept (amended before product messages) right =
    frames-kept product right.1 (events_kept before) (amended_state product (state_kept before)) messages
    (amended-kept product (events_kept before) (state_kept before) (history-kept before right.0))

pub histories-balance : (history : History) → AreRightProducts history → IsBalanced history
histories-balance history right = sound-balances (events_kept history) (state_kept history) (history-kept history right)
