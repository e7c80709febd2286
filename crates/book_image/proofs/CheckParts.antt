-- The faults of the rows, as they are tried, where the code has counted and found these.
use Rattle.std.proofs.Common.{◌≡◌, ℕ, ◌+◌, ◌*◌, ◌<◌, ◌≤◌, List, length, Option, Some, None, ap, sym, ◌∙◌, arith}
use Rattle.std.specs.Prelude.{nat_lt}
use Rattle.std.specs.Option.{option_or}
use Rattle.gx_base.specs.FirstFault.{fault_if}
use Rattle.gx_base.specs.declared.order.Order.{Order}
use Rattle.gx_base.specs.declared.trading.Trading.{Trading}
use Rattle.product_file.specs.Products.{ProductLists}
use Rattle.book_image.specs.declared.format.TheConstants.{ROW_BYTES, COUNT_BYTES}
use Rattle.book_image.specs.declared.check_rows.Asked.{Asked}
use Rattle.book_image.specs.Rows.{count_at, number_at}
use Rattle.book_image.specs.Faults.{resting_place, resting_rows, resting_count, waiting_place, waiting_rows, waiting_count, orders_at}
use Rattle.book_image.specs.Inner.Checking.{asked_of, resting_fault, waiting_fault, rows_fault}
use Rattle.book_image.proofs.CheckFaults.{lt-true, lt-false, if-here, if-past, or-here, or-past, or-last}

module _ (trading : Trading) (product : ProductLists) (part : List ℕ) (given n most rest : ℕ)
    (given_is : given ≡ number_at part 8) (n_is : n ≡ length product.names.instruments) (most_is : most ≡ product.max_orders)
    (rest_is : rest ≡ count_at part (resting_place n)) where
  abbrev many : ℕ
  many = length product.names.instruments

  abbrev resting : List Order
  resting = orders_at part (resting_rows many) (resting_count many part)

  rest_count : rest ≡ resting_count many part
  rest_count = rest_is ∙ ap (λ (k : ℕ). count_at part (resting_place k)) n_is

  -- ---- the faults after each one

  abbrev after_waiting : Option ℕ
  after_waiting = option_or (waiting_fault product (asked_of trading part) resting part (waiting_rows many part) (waiting_count many part)) None

  abbrev after_resting : Option ℕ
  after_resting = option_or (fault_if (nat_lt product.max_orders (resting_count many part + waiting_count many part)) (waiting_place many part)) after_waiting

  abbrev after_count : Option ℕ
  after_count = option_or (resting_fault product (asked_of trading part) part (resting_rows many) (resting_count many part)) after_resting

  pub many-resting : most < rest → Some (resting_place n) ≡ rows_fault trading product part
  many-resting above =
      ap (λ (k : ℕ). Some (resting_place k)) n_is
      ∙ sym (if-here (nat_lt product.max_orders (resting_count many part)) (resting_place many) after_count
      (lt-true product.max_orders (resting_count many part) (omega (arith, most_is, rest_count, above))))

  module _ (few : rest ≤ most) where
    past-count : rows_fault trading product part ≡ after_count
    past-count =
        if-past (nat_lt product.max_orders (resting_count many part)) (resting_place many) after_count
        (lt-false product.max_orders (resting_count many part) (omega (arith, most_is, rest_count, few)))

    module _ (found : Option ℕ) (found_is : found ≡ resting_fault product (record { given = given; trading = trading }) part (resting_rows n) rest) where
      found_as : found ≡ resting_fault product (asked_of trading part) part (resting_rows many) (resting_count many part)
      found_as =
          let asked : ℕ → Asked = λ g. record { given = g; trading = trading } in
          found_is
          ∙ ap (λ (g : ℕ). resting_fault product (asked g) part (resting_rows n) rest) given_is
          ∙ ap (λ (k : ℕ). resting_fault product (asked_of trading part) part (resting_rows k) rest) n_is
          ∙ ap (λ (r : ℕ). resting_fault product (asked_of trading part) part (resting_rows many) r) rest_count

      pub resting-wrong : (at : ℕ) → found ≡ Some at → Some at ≡ rows_fault trading product part
      resting-wrong at h = sym (past-count ∙ or-here (resting_fault product (asked_of trading part) part (resting_rows many) (resting_count many part)) after_resting at (sym found_as ∙ h))

      module _ (fine : found ≡ None) (wait : ℕ) (wait_is : wait ≡ count_at part (resting_rows n + ROW_BYTES * rest)) where
        past-resting : rows_fault trading product part ≡ after_resting
        past-resting = past-count ∙ or-past (resting_fault product (asked_of trading part) part (resting_rows many) (resting_count many part)) after_resting (sym found_as ∙ fine)

        place_is : resting_rows n + ROW_BYTES * rest ≡ waiting_place many part
        place_is =
            ap (λ (k : ℕ). resting_rows k + ROW_BYTES * rest) n_is ∙ ap (λ (r : ℕ). resting_rows many + ROW_BYTES * r) rest_count

        wait_count : wait ≡ waiting_count many part
        wait_count = wait_is ∙ ap (count_at part) place_is

        pub many-waiting : most < rest + wait → Some (resting_rows n + ROW_BYTES * rest) ≡ rows_fault trading product part
        many-waiting above =
            ap (λ (k : ℕ). Some k) place_is
            ∙ sym (past-resting
            ∙ if-here (nat_lt product.max_orders (resting_count many part + waiting_count many part)) (waiting_place many part) after_waiting
            (lt-true product.max_orders (resting_count many part + waiting_count many part) (omega (arith, most_is, rest_count, wait_count, above))))

        pub waiting-answer : rest + wait ≤ most → (last : Option ℕ)
            → last ≡ waiting_fault product (record { given = given; trading = trading }) resting part (resting_rows n + ROW_BYTES * rest + COUNT_BYTES) wait
            → last ≡ rows_fault trading product part
        waiting-answer low last last_is =
            let asked : ℕ → Asked = λ g. record { given = g; trading = trading } in
            last_is
            ∙ ap (λ (g : ℕ). waiting_fault product (asked g) resting part (resting_rows n + ROW_BYTES * rest + COUNT_BYTES) wait) given_is
            ∙ ap (λ (p : ℕ). waiting_fault product (asked_of trading part) resting part (p + COUNT_BYTES) wait) place_is
            ∙ ap (λ (w : ℕ). waiting_fault product (asked_of trading part) resting part (waiting_rows many part) w) wait_count
            ∙ sym (past-resting
            ∙ if-past (nat_lt product.max_orders (resting_count many part + waiting_count many part)) (waiting_place many part) after_waiting
            (lt-false product.max_orders (resting_count many part + waiting_count many part) (omega (arith, most_is, rest_count, wait_count, low)))
            ∙ or-last (waiting_fault product (asked_of trading part) resting part (waiting_rows many part) (waiting_count many part)))
