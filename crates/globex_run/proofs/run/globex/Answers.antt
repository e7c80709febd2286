use Rattle.std.proofs.Common.{◌≤◌, inl, ℕ, List, length, refl, sym, ap, subst, ◌∙◌}
use Rattle.product_file.specs.ProductTexts.{product_of}
use Rattle.std.proofs.lemmas.Option.{same_Some}
use Rattle.globex_run.specs.Outside.{source_at}
use Rattle.globex_run.specs.Words.{IsWriting}
use Rattle.globex_run.proofs.ProductReads.{none-taken, short-text}
use Rattle.globex_run.proofs.Runs.{memory-without, few-without, product-early, product-none, product-taken, words-early, early-words, early-product, not-begun}
use Rattle.globex_run.proofs.Commands.{product-told, leaves-all, only-reads, leaves-the-input, does-all, ends-as-told, leaves-a-front, leaves-the-entry, keeps-what-is-sent, adds-messages-alone, adds-a-record-per-read, reads-it-once, is-full-for-messages, is-full-for-image, is-full-for-amendment, sends-nothing-then, prints-its-text, answers-its-input, shows-its-openings, rebuilds-its-levels, ends-well, ends-where-told, refuses-what-it-must, refuses-amendments, opens-it-again, has-its-statuses}
use Rattle.globex_run.proofs.Balanced.{all-balance, all-balance-as-read}
use Rattle.globex_run.proofs.run.globex.Goals as goal

pub returns-in-Err-take_product-clause-all_done : goal.returns-in-Err-take_product-clause-all_done
returns-in-Err-take_product-clause-all_done g c asked asks can quiet =
    let told = product-told _ _ asked can in
    inl (memory-without (source_at g.P.Source.meanings c.args.product.now) (source_at g.P.Source.meanings c.take_product.new.source)
    c.in-Err-take_product.reason _ c.in-Err-take_product.ensures c.outcome_without.ensures told.0 told.1 told.2 told.3 quiet.product)

pub invariant_of-lent : goal.invariant_of-lent
invariant_of-lent g c = record {
  short = subst (λ (l : List ℕ). length l ≤ 65536) (sym c.deref.ensures.value) (short-text c.in-Ok-take_product.taken.text.items c.in-Ok-take_product.taken.product c.in-Ok-take_product.ensures.1);
  gives = ap product_of c.deref.ensures.value ∙ c.in-Ok-take_product.ensures.1;
}

pub returns-in-Err-clause-no_memory : goal.returns-in-Err-clause-no_memory
returns-in-Err-clause-no_memory g c one = (none-taken (source_at g.P.Source.meanings c.args.product.now), inl refl)

pub returns-in-Err-take_product-clause-no_memory : goal.returns-in-Err-take_product-clause-no_memory
returns-in-Err-take_product-clause-no_memory g c one =
    (few-without (source_at g.P.Source.meanings c.args.product.now) (source_at g.P.Source.meanings c.take_product.new.source) c.in-Err-take_product.reason _ c.in-Err-take_product.ensures c.outcome_without.ensures one, inl refl)

pub returns-clause-no_memory : goal.returns-clause-no_memory
returns-clause-no_memory g c = leaves-all g.S.Station.meanings (source_at g.P.Source.meanings c.args.product.now) (source_at g.P.Source.meanings c.take_product.new.source) (source_at g.I.Source.meanings c.args.input.now) (source_at g.I.Source.meanings c.execute.new.input)
    c.args.station.now c.execute.new.station c.execute.result _ _ c.deref.ensures.value c.in-Ok-take_product.taken.product c.in-Ok-take_product.ensures.0 c.in-Ok-take_product.ensures.1 _ _ c.in-Ok.ensures.given c.execute.ensures.executes c.execute.ensures.causes

pub returns-clause-only_reads : goal.returns-clause-only_reads
returns-clause-only_reads g c = only-reads g.S.Station.meanings (source_at g.P.Source.meanings c.args.product.now) (source_at g.P.Source.meanings c.take_product.new.source) (source_at g.I.Source.meanings c.args.input.now) (source_at g.I.Source.meanings c.execute.new.input)
    c.args.station.now c.execute.new.station c.execute.result _ _ c.deref.ensures.value c.in-Ok-take_product.taken.product c.in-Ok-take_product.ensures.0 c.in-Ok-take_product.ensures.1 _ _ c.in-Ok.ensures.given c.execute.ensures.executes c.execute.ensures.causes

pub returns-clause-untouched_input : goal.returns-clause-untouched_input
returns-clause-untouched_input g c = leaves-the-input g.S.Station.meanings (source_at g.P.Source.meanings c.args.product.now) (source_at g.P.Source.meanings c.take_product.new.source) (source_at g.I.Source.meanings c.args.input.now) (source_at g.I.Source.meanings c.execute.new.input)
    c.args.station.now c.execute.new.station c.execute.result _ _ c.deref.ensures.value c.in-Ok-take_product.taken.product c.in-Ok-take_product.ensures.0 c.in-Ok-take_product.ensures.1 _ _ c.in-Ok.ensures.given c.execute.ensures.executes c.execute.ensures.causes

pub returns-clause-refused : goal.returns-clause-refused
returns-clause-refused g c asked asks writing refusal =
    let writes = subst IsWriting (same_Some asked _ (sym asks ∙ c.in-Ok.ensures.given)) writing in
    (c.execute.ensures.refused writes refusal, λ image read. c.execute.ensures.stays image writes read refusal)

pub returns-clause-does_all : goal.returns-clause-does_all
returns-clause-does_all g c = does-all g.S.Station.meanings (source_at g.P.Source.meanings c.args.product.now) (source_at g.P.Source.meanings c.take_product.new.source) (source_at g.I.Source.meanings c.args.input.now) (source_at g.I.Source.meanings c.execute.new.input)
    c.args.station.now c.execute.new.station c.execute.result _ _ c.deref.ensures.value c.in-Ok-take_product.taken.product c.in-Ok-take_product.ensures.0 c.in-Ok-take_product.ensures.1 _ _ c.in-Ok.ensures.given c.execute.ensures.executes c.execute.ensures.causes

pub returns-clause-ends_otherwise : goal.returns-clause-ends_otherwise
returns-clause-ends_otherwise g c = ends-as-told g.S.Station.meanings (source_at g.P.Source.meanings c.args.product.now) (source_at g.P.Source.meanings c.take_product.new.source) (source_at g.I.Source.meanings c.args.input.now) (source_at g.I.Source.meanings c.execute.new.input)
    c.args.station.now c.execute.new.station c.execute.result _ _ c.deref.ensures.value c.in-Ok-take_product.taken.product c.in-Ok-take_product.ensures.0 c.in-Ok-take_product.ensures.1 _ _ c.in-Ok.ensures.given c.execute.ensures.executes c.execute.ensures.causes

pub returns-clause-at_every_moment : goal.returns-clause-at_every_moment
returns-clause-at_every_moment g c = leaves-a-front g.S.Station.meanings (source_at g.P.Source.meanings c.args.product.now) (source_at g.P.Source.meanings c.take_product.new.source) (source_at g.I.Source.meanings c.args.input.now) (source_at g.I.Source.meanings c.execute.new.input)
    c.args.station.now c.execute.new.station c.execute.result _ _ c.deref.ensures.value c.in-Ok-take_product.taken.product c.in-Ok-take_product.ensures.0 c.in-Ok-take_product.ensures.1 _ _ c.in-Ok.ensures.given c.execute.ensures.executes c.execute.ensures.causes

pub returns-clause-before_the_first_sync : goal.returns-clause-before_the_first_sync
returns-clause-before_the_first_sync g c = leaves-the-entry g.S.Station.meanings (source_at g.P.Source.meanings c.args.product.now) (source_at g.P.Source.meanings c.take_product.new.source) (source_at g.I.Source.meanings c.args.input.now) (source_at g.I.Source.meanings c.execute.new.input)
    c.args.station.now c.execute.new.station c.execute.result _ _ c.deref.ensures.value c.in-Ok-take_product.taken.product c.in-Ok-take_product.ensures.0 c.in-Ok-take_product.ensures.1 _ _ c.in-Ok.ensures.given c.execute.ensures.executes c.execute.ensures.causes (λ honest. g.met.S.Station.honest c.args.station.now honest)

pub returns-clause-with_every_message : goal.returns-clause-with_every_message
returns-clause-with_every_message g c = keeps-what-is-sent g.S.Station.meanings (source_at g.P.Source.meanings c.args.product.now) (source_at g.P.Source.meanings c.take_product.new.source) (source_at g.I.Source.meanings c.args.input.now) (source_at g.I.Source.meanings c.execute.new.input)
    c.args.station.now c.execute.new.station c.execute.result _ _ c.deref.ensures.value c.in-Ok-take_product.taken.product c.in-Ok-take_product.ensures.0 c.in-Ok-take_product.ensures.1 _ _ c.in-Ok.ensures.given c.execute.ensures.executes c.execute.ensures.causes (λ honest. g.met.S.Station.honest c.args.station.now honest)

pub returns-clause-adds_messages : goal.returns-clause-adds_messages
returns-clause-adds_messages g c = adds-messages-alone g.S.Station.meanings (source_at g.P.Source.meanings c.args.product.now) (source_at g.P.Source.meanings c.take_product.new.source) (source_at g.I.Source.meanings c.args.input.now) (source_at g.I.Source.meanings c.execute.new.input)
    c.args.station.now c.execute.new.station c.execute.result _ _ c.deref.ensures.value c.in-Ok-take_product.taken.product c.in-Ok-take_product.ensures.0 c.in-Ok-take_product.ensures.1 _ _ c.in-Ok.ensures.given c.execute.ensures.executes c.execute.ensures.causes

pub returns-clause-record_per_read : goal.returns-clause-record_per_read
returns-clause-record_per_read g c = adds-a-record-per-read g.S.Station.meanings (source_at g.P.Source.meanings c.args.product.now) (source_at g.P.Source.meanings c.take_product.new.source) (source_at g.I.Source.meanings c.args.input.now) (source_at g.I.Source.meanings c.execute.new.input)
    c.args.station.now c.execute.new.station c.execute.result _ _ c.deref.ensures.value c.in-Ok-take_product.taken.product c.in-Ok-take_product.ensures.0 c.in-Ok-take_product.ensures.1 _ _ c.in-Ok.ensures.given c.execute.ensures.executes c.execute.ensures.causes

pub returns-clause-few_bytes : goal.returns-clause-few_bytes
returns-clause-few_bytes g c = reads-it-once g.S.Station.meanings (source_at g.P.Source.meanings c.args.product.now) (source_at g.P.Source.meanings c.take_product.new.source) (source_at g.I.Source.meanings c.args.input.now) (source_at g.I.Source.meanings c.execute.new.input)
    c.args.station.now c.execute.new.station c.execute.result _ _ c.deref.ensures.value c.in-Ok-take_product.taken.product c.in-Ok-take_product.ensures.0 c.in-Ok-take_product.ensures.1 _ _ c.in-Ok.ensures.given c.execute.ensures.executes c.execute.ensures.causes

pub returns-clause-full : goal.returns-clause-full
returns-clause-full g c = is-full-for-messages g.S.Station.meanings (source_at g.P.Source.meanings c.args.product.now) (source_at g.P.Source.meanings c.take_product.new.source) (source_at g.I.Source.meanings c.args.input.now) (source_at g.I.Source.meanings c.execute.new.input)
    c.args.station.now c.execute.new.station c.execute.result _ _ c.deref.ensures.value c.in-Ok-take_product.taken.product c.in-Ok-take_product.ensures.0 c.in-Ok-take_product.ensures.1 _ _ c.in-Ok.ensures.given c.execute.ensures.executes c.execute.ensures.causes

pub returns-clause-image_full : goal.returns-clause-image_full
returns-clause-image_full g c = is-full-for-image g.S.Station.meanings (source_at g.P.Source.meanings c.args.product.now) (source_at g.P.Source.meanings c.take_product.new.source) (source_at g.I.Source.meanings c.args.input.now) (source_at g.I.Source.meanings c.execute.new.input)
    c.args.station.now c.execute.new.station c.execute.result _ _ c.deref.ensures.value c.in-Ok-take_product.taken.product c.in-Ok-take_product.ensures.0 c.in-Ok-take_product.ensures.1 _ _ c.in-Ok.ensures.given c.execute.ensures.executes c.execute.ensures.causes

pub returns-clause-amendment_full : goal.returns-clause-amendment_full
returns-clause-amendment_full g c = is-full-for-amendment g.S.Station.meanings (source_at g.P.Source.meanings c.args.product.now) (source_at g.P.Source.meanings c.take_product.new.source) (source_at g.I.Source.meanings c.args.input.now) (source_at g.I.Source.meanings c.execute.new.input)
    c.args.station.now c.execute.new.station c.execute.result _ _ c.deref.ensures.value c.in-Ok-take_product.taken.product c.in-Ok-take_product.ensures.0 c.in-Ok-take_product.ensures.1 _ _ c.in-Ok.ensures.given c.execute.ensures.executes c.execute.ensures.causes

pub returns-clause-sends_nothing : goal.returns-clause-sends_nothing
returns-clause-sends_nothing g c = sends-nothing-then g.S.Station.meanings (source_at g.P.Source.meanings c.args.product.now) (source_at g.P.Source.meanings c.take_product.new.source) (source_at g.I.Source.meanings c.args.input.now) (source_at g.I.Source.meanings c.execute.new.input)
    c.args.station.now c.execute.new.station c.execute.result _ _ c.deref.ensures.value c.in-Ok-take_product.taken.product c.in-Ok-take_product.ensures.0 c.in-Ok-take_product.ensures.1 _ _ c.in-Ok.ensures.given c.execute.ensures.executes c.execute.ensures.causes

pub returns-clause-prints : goal.returns-clause-prints
returns-clause-prints g c = prints-its-text g.S.Station.meanings (source_at g.P.Source.meanings c.args.product.now) (source_at g.P.Source.meanings c.take_product.new.source) (source_at g.I.Source.meanings c.args.input.now) (source_at g.I.Source.meanings c.execute.new.input)
    c.args.station.now c.execute.new.station c.execute.result _ _ c.deref.ensures.value c.in-Ok-take_product.taken.product c.in-Ok-take_product.ensures.0 c.in-Ok-take_product.ensures.1 _ _ c.in-Ok.ensures.given c.execute.ensures.executes c.execute.ensures.causes

pub returns-clause-answers : goal.returns-clause-answers
returns-clause-answers g c = answers-its-input g.S.Station.meanings (source_at g.P.Source.meanings c.args.product.now) (source_at g.P.Source.meanings c.take_product.new.source) (source_at g.I.Source.meanings c.args.input.now) (source_at g.I.Source.meanings c.execute.new.input)
    c.args.station.now c.execute.new.station c.execute.result _ _ c.deref.ensures.value c.in-Ok-take_product.taken.product c.in-Ok-take_product.ensures.0 c.in-Ok-take_product.ensures.1 _ _ c.in-Ok.ensures.given c.execute.ensures.executes c.execute.ensures.causes

pub returns-clause-openings : goal.returns-clause-openings
returns-clause-openings g c = shows-its-openings g.S.Station.meanings (source_at g.P.Source.meanings c.args.product.now) (source_at g.P.Source.meanings c.take_product.new.source) (source_at g.I.Source.meanings c.args.input.now) (source_at g.I.Source.meanings c.execute.new.input)
    c.args.station.now c.execute.new.station c.execute.result _ _ c.deref.ensures.value c.in-Ok-take_product.taken.product c.in-Ok-take_product.ensures.0 c.in-Ok-take_product.ensures.1 _ _ c.in-Ok.ensures.given c.execute.ensures.executes c.execute.ensures.causes

pub returns-clause-rebuilds : goal.returns-clause-rebuilds
returns-clause-rebuilds g c = rebuilds-its-levels g.S.Station.meanings (source_at g.P.Source.meanings c.args.product.now) (source_at g.P.Source.meanings c.take_product.new.source) (source_at g.I.Source.meanings c.args.input.now) (source_at g.I.Source.meanings c.execute.new.input)
    c.args.station.now c.execute.new.station c.execute.result _ _ c.deref.ensures.value c.in-Ok-take_product.taken.product c.in-Ok-take_product.ensures.0 c.in-Ok-take_product.ensures.1 _ _ c.in-Ok.ensures.given c.execute.ensures.executes c.execute.ensures.causes

pub returns-in-Err-clause-best_openings : goal.returns-in-Err-clause-best_openings
returns-in-Err-clause-best_openings g c =
    record { greatest = c.no_price_opens_more.ensures; ties = c.ties_fall_by_the_rules.ensures; candidates = c.candidates_are_the_prices.ensures; pairs = c.pairs_add_up.ensures }

pub returns-in-Err-take_product-clause-best_openings : goal.returns-in-Err-take_product-clause-best_openings
returns-in-Err-take_product-clause-best_openings g c =
    record { greatest = c.no_price_opens_more.ensures; ties = c.ties_fall_by_the_rules.ensures; candidates = c.candidates_are_the_prices.ensures; pairs = c.pairs_add_up.ensures }

pub returns-clause-best_openings : goal.returns-clause-best_openings
returns-clause-best_openings g c =
    record { greatest = c.no_price_opens_more.ensures; ties = c.ties_fall_by_the_rules.ensures; candidates = c.candidates_are_the_prices.ensures; pairs = c.pairs_add_up.ensures }

pub returns-in-Err-clause-feeds_fold : goal.returns-in-Err-clause-feeds_fold
returns-in-Err-clause-feeds_fold g c = record { at_blocks = c.feeds_of_histories_fold_to_levels.ensures.at_blocks; between_blocks = c.feeds_of_histories_fold_to_levels.ensures.between_blocks; whole = c.feeds_of_histories_fold_to_levels.ensures.whole }

pub returns-in-Err-take_product-clause-feeds_fold : goal.returns-in-Err-take_product-clause-feeds_fold
returns-in-Err-take_product-clause-feeds_fold g c = record { at_blocks = c.feeds_of_histories_fold_to_levels.ensures.at_blocks; between_blocks = c.feeds_of_histories_fold_to_levels.ensures.between_blocks; whole = c.feeds_of_histories_fold_to_levels.ensures.whole }

pub returns-clause-feeds_fold : goal.returns-clause-feeds_fold
returns-clause-feeds_fold g c = record { at_blocks = c.feeds_of_histories_fold_to_levels.ensures.at_blocks; between_blocks = c.feeds_of_histories_fold_to_levels.ensures.between_blocks; whole = c.feeds_of_histories_fold_to_levels.ensures.whole }

pub returns-in-Err-clause-repeats : goal.returns-in-Err-clause-repeats
returns-in-Err-clause-repeats g c = c.resends_repeat_reports.ensures

pub returns-in-Err-take_product-clause-repeats : goal.returns-in-Err-take_product-clause-repeats
returns-in-Err-take_product-clause-repeats g c = c.resends_repeat_reports.ensures

pub returns-clause-repeats : goal.returns-clause-repeats
returns-clause-repeats g c = c.resends_repeat_reports.ensures

pub returns-clause-all_done : goal.returns-clause-all_done
returns-clause-all_done g c = ends-well g.S.Station.meanings (source_at g.P.Source.meanings c.args.product.now) (source_at g.P.Source.meanings c.take_product.new.source) (source_at g.I.Source.meanings c.args.input.now) (source_at g.I.Source.meanings c.execute.new.input)
    c.args.station.now c.execute.new.station c.execute.result _ _ c.deref.ensures.value c.in-Ok-take_product.taken.product c.in-Ok-take_product.ensures.0 c.in-Ok-take_product.ensures.1 _ _ c.in-Ok.ensures.given c.execute.ensures.executes c.execute.ensures.causes

pub returns-in-Err-clause-balanced : goal.returns-in-Err-clause-balanced
returns-in-Err-clause-balanced g c = all-balance

pub returns-in-Err-take_product-clause-balanced : goal.returns-in-Err-take_product-clause-balanced
returns-in-Err-take_product-clause-balanced g c = all-balance

pub returns-clause-balanced : goal.returns-clause-balanced
returns-clause-balanced g c = all-balance

pub returns-clause-did : goal.returns-clause-did
returns-clause-did g c = ends-where-told g.S.Station.meanings (source_at g.P.Source.meanings c.args.product.now) (source_at g.P.Source.meanings c.take_product.new.source) (source_at g.I.Source.meanings c.args.input.now) (source_at g.I.Source.meanings c.execute.new.input)
    c.args.station.now c.execute.new.station c.execute.result _ _ c.deref.ensures.value c.in-Ok-take_product.taken.product c.in-Ok-take_product.ensures.0 c.in-Ok-take_product.ensures.1 _ _ c.in-Ok.ensures.given c.execute.ensures.executes c.execute.ensures.causes

pub returns-clause-refuses : goal.returns-clause-refuses
returns-clause-refuses g c = refuses-what-it-must g.S.Station.meanings (source_at g.P.Source.meanings c.args.product.now) (source_at g.P.Source.meanings c.take_product.new.source) (source_at g.I.Source.meanings c.args.input.now) (source_at g.I.Source.meanings c.execute.new.input)
    c.args.station.now c.execute.new.station c.execute.result _ _ c.deref.ensures.value c.in-Ok-take_product.taken.product c.in-Ok-take_product.ensures.0 c.in-Ok-take_product.ensures.1 _ _ c.in-Ok.ensures.given c.execute.ensures.executes c.execute.ensures.causes

pub returns-clause-amendments : goal.returns-clause-amendments
returns-clause-amendments g c = refuses-amendments g.S.Station.meanings (source_at g.P.Source.meanings c.args.product.now) (source_at g.P.Source.meanings c.take_product.new.source) (source_at g.I.Source.meanings c.args.input.now) (source_at g.I.Source.meanings c.execute.new.input)
    c.args.station.now c.execute.new.station c.execute.result _ _ c.deref.ensures.value c.in-Ok-take_product.taken.product c.in-Ok-take_product.ensures.0 c.in-Ok-take_product.ensures.1 _ _ c.in-Ok.ensures.given c.execute.ensures.executes c.execute.ensures.causes

pub returns-clause-opens_again : goal.returns-clause-opens_again
returns-clause-opens_again g c = opens-it-again g.S.Station.meanings (source_at g.P.Source.meanings c.args.product.now) (source_at g.P.Source.meanings c.take_product.new.source) (source_at g.I.Source.meanings c.args.input.now) (source_at g.I.Source.meanings c.execute.new.input)
    c.args.station.now c.execute.new.station c.execute.result _ _ c.deref.ensures.value c.in-Ok-take_product.taken.product c.in-Ok-take_product.ensures.0 c.in-Ok-take_product.ensures.1 _ _ c.in-Ok.ensures.given c.execute.ensures.executes c.execute.ensures.causes

pub returns-clause-statuses : goal.returns-clause-statuses
returns-clause-statuses g c = has-its-statuses g.S.Station.meanings (source_at g.P.Source.meanings c.args.product.now) (source_at g.P.Source.meanings c.take_product.new.source) (source_at g.I.Source.meanings c.args.input.now) (source_at g.I.Source.meanings c.execute.new.input)
    c.args.station.now c.execute.new.station c.execute.result _ _ c.deref.ensures.value c.in-Ok-take_product.taken.product c.in-Ok-take_product.ensures.0 c.in-Ok-take_product.ensures.1 _ _ c.in-Ok.ensures.given c.execute.ensures.executes c.execute.ensures.causes

pub returns-in-Err-clause-product : goal.returns-in-Err-clause-product
returns-in-Err-clause-product g c text known =
    product-early _ _ c.outcome_of_words.result text known (words-early c.in-Err.fault c.outcome_of_words.result c.outcome_of_words.ensures)

pub returns-in-Err-take_product-clause-product : goal.returns-in-Err-take_product-clause-product
returns-in-Err-take_product-clause-product g c text known =
    product-none _ _ c.outcome_without.result text known c.in-Err-take_product.reason c.in-Err-take_product.ensures c.outcome_without.ensures

pub returns-clause-product : goal.returns-clause-product
returns-clause-product g c text known =
    product-taken _ _ c.execute.result text known c.in-Ok-take_product.taken.text.items c.in-Ok-take_product.taken.product c.in-Ok-take_product.ensures.0 c.in-Ok-take_product.ensures.1 c.execute.ensures.causes.product_right

pub returns-in-Err-clause-reports_balanced : goal.returns-in-Err-clause-reports_balanced
returns-in-Err-clause-reports_balanced g c = all-balance-as-read c.reports_balance.ensures

pub returns-in-Err-take_product-clause-reports_balanced : goal.returns-in-Err-take_product-clause-reports_balanced
returns-in-Err-take_product-clause-reports_balanced g c = all-balance-as-read c.reports_balance.ensures

pub returns-clause-reports_balanced : goal.returns-clause-reports_balanced
returns-clause-reports_balanced g c = all-balance-as-read c.reports_balance.ensures

pub returns-in-Err-clause-does_all : goal.returns-in-Err-clause-does_all
returns-in-Err-clause-does_all g c asked asks writing given =
    let product = source_at g.P.Source.meanings c.args.product.now in
    let input = source_at g.I.Source.meanings c.args.input.now in
    absurd (not-begun g.S.Station.meanings product product input input c.args.station.now c.args.station.now c.outcome_of_words.result (early-words product product c.in-Err.fault c.outcome_of_words.result c.outcome_of_words.ensures) _ asked asks given)

pub returns-in-Err-take_product-clause-does_all : goal.returns-in-Err-take_product-clause-does_all
returns-in-Err-take_product-clause-does_all g c asked asks writing given =
    let before = source_at g.P.Source.meanings c.args.product.now in
    let after = source_at g.P.Source.meanings c.take_product.new.source in
    let input = source_at g.I.Source.meanings c.args.input.now in
    absurd (not-begun g.S.Station.meanings before after input input c.args.station.now c.args.station.now c.outcome_without.result (early-product before after c.in-Err-take_product.reason c.outcome_without.result c.in-Err-take_product.ensures c.outcome_without.ensures) _ asked asks given)

pub returns-in-Err-clause-ends_otherwise : goal.returns-in-Err-clause-ends_otherwise
returns-in-Err-clause-ends_otherwise g c asked asks writing given =
    let product = source_at g.P.Source.meanings c.args.product.now in
    let input = source_at g.I.Source.meanings c.args.input.now in
    absurd (not-begun g.S.Station.meanings product product input input c.args.station.now c.args.station.now c.outcome_of_words.result (early-words product product c.in-Err.fault c.outcome_of_words.result c.outcome_of_words.ensures) _ asked asks given)

pub returns-in-Err-take_product-clause-ends_otherwise : goal.returns-in-Err-take_product-clause-ends_otherwise
returns-in-Err-take_product-clause-ends_otherwise g c asked asks writing given =
    let before = source_at g.P.Source.meanings c.args.product.now in
    let after = source_at g.P.Source.meanings c.take_product.new.source in
    let input = source_at g.I.Source.meanings c.args.input.now in
    absurd (not-begun g.S.Station.meanings before after input input c.args.station.now c.args.station.now c.outcome_without.result (early-product before after c.in-Err-take_product.reason c.outcome_without.result c.in-Err-take_product.ensures c.outcome_without.ensures) _ asked asks given)

pub returns-in-Err-clause-at_every_moment : goal.returns-in-Err-clause-at_every_moment
returns-in-Err-clause-at_every_moment g c asked asks writing given =
    let product = source_at g.P.Source.meanings c.args.product.now in
    let input = source_at g.I.Source.meanings c.args.input.now in
    absurd (not-begun g.S.Station.meanings product product input input c.args.station.now c.args.station.now c.outcome_of_words.result (early-words product product c.in-Err.fault c.outcome_of_words.result c.outcome_of_words.ensures) _ asked asks given)

pub returns-in-Err-take_product-clause-at_every_moment : goal.returns-in-Err-take_product-clause-at_every_moment
returns-in-Err-take_product-clause-at_every_moment g c asked asks writing given =
    let before = source_at g.P.Source.meanings c.args.product.now in
    let after = source_at g.P.Source.meanings c.take_product.new.source in
    let input = source_at g.I.Source.meanings c.args.input.now in
    absurd (not-begun g.S.Station.meanings before after input input c.args.station.now c.args.station.now c.outcome_without.result (early-product before after c.in-Err-take_product.reason c.outcome_without.result c.in-Err-take_product.ensures c.outcome_without.ensures) _ asked asks given)

pub returns-in-Err-clause-before_the_first_sync : goal.returns-in-Err-clause-before_the_first_sync
returns-in-Err-clause-before_the_first_sync g c asked asks writing given =
    let product = source_at g.P.Source.meanings c.args.product.now in
    let input = source_at g.I.Source.meanings c.args.input.now in
    absurd (not-begun g.S.Station.meanings product product input input c.args.station.now c.args.station.now c.outcome_of_words.result (early-words product product c.in-Err.fault c.outcome_of_words.result c.outcome_of_words.ensures) _ asked asks given)

pub returns-in-Err-take_product-clause-before_the_first_sync : goal.returns-in-Err-take_product-clause-before_the_first_sync
returns-in-Err-take_product-clause-before_the_first_sync g c asked asks writing given =
    let before = source_at g.P.Source.meanings c.args.product.now in
    let after = source_at g.P.Source.meanings c.take_product.new.source in
    let input = source_at g.I.Source.meanings c.args.input.now in
    absurd (not-begun g.S.Station.meanings before after input input c.args.station.now c.args.station.now c.outcome_without.result (early-product before after c.in-Err-take_product.reason c.outcome_without.result c.in-Err-take_product.ensures c.outcome_without.ensures) _ asked asks given)

pub returns-in-Err-clause-with_every_message : goal.returns-in-Err-clause-with_every_message
returns-in-Err-clause-with_every_message g c asked asks writing given =
    let product = source_at g.P.Source.meanings c.args.product.now in
    let input = source_at g.I.Source.meanings c.args.input.now in
    absurd (not-begun g.S.Station.meanings product product input input c.args.station.now c.args.station.now c.outcome_of_words.result (early-words product product c.in-Err.fault c.outcome_of_words.result c.outcome_of_words.ensures) _ asked asks given)

pub returns-in-Err-take_product-clause-with_every_message : goal.returns-in-Err-take_product-clause-with_every_message
returns-in-Err-take_product-clause-with_every_message g c asked asks writing given =
    let before = source_at g.P.Source.meanings c.args.product.now in
    let after = source_at g.P.Source.meanings c.take_product.new.source in
    let input = source_at g.I.Source.meanings c.args.input.now in
    absurd (not-begun g.S.Station.meanings before after input input c.args.station.now c.args.station.now c.outcome_without.result (early-product before after c.in-Err-take_product.reason c.outcome_without.result c.in-Err-take_product.ensures c.outcome_without.ensures) _ asked asks given)
