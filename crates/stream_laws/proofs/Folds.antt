-- The fold law over histories.
use Rattle.std.proofs.Common.{◌≡◌, ℕ, ◌<◌, List, [], ◌∷◌, length, length-take, take, get_or, append-nil, Ok, refl, sym, ap, subst, ◌∙◌, arith}
use Prim.Native.Nat.{suc}
use Rattle.std.specs.List.{AllByRecursion}
use Rattle.book_order.proofs.Each.{all-append}
use Rattle.product_file.specs.Products.{ProductLists}
use Rattle.product_file.proofs.RightTexts.{product_of_text_is_right}
use Rattle.order_kinds.specs.declared.core_state.TheConstants.{MOST_MESSAGES}
use Rattle.order_kinds.specs.State.{State, empty_state}
use Rattle.order_kinds.specs.Step.{state_after}
use Rattle.order_kinds.specs.Amendments.{amended_state}
use Rattle.order_kinds.specs.Histories.{History, of_product, amended, last_product, length_kept, state_kept, AreOfTexts, AreRightProducts, IsHistory}
use Rattle.image_laws.specs.Right.{IsRightState}
use Rattle.image_laws.proofs.Histories.{histories-right}
use Rattle.level_feed.specs.declared.row.Row.{Row}
use Rattle.level_feed.specs.Lines.{Listing, listing_of}
use Rattle.level_feed.specs.Blocks.{last_number, blocks_from, feed_blocks}
use Rattle.level_feed.specs.Laws.{IsRightListing, AreLevels, IsPart}
use Rattle.level_feed.specs.Feeds.{levels_of_state, levels_from, levels_kept}
use Rattle.level_feed.proofs.Chains.{part-within}
use Rattle.level_feed.proofs.Folding.{folds-at-blocks, folds-between-blocks}
use Rattle.stream_laws.specs.FeedLaws.{FoldsAtBlocks, FoldsBetweenBlocks, FoldsWhole}
use Rattle.stream_laws.proofs.SameListings.{same-listing}
use Rattle.stream_laws.proofs.States.{listing-right, state-levels}
use Rattle.stream_laws.proofs.StatesAt.{length-from, from-at, length-levels-kept, levels-kept-at, levels-at-end}

-- ---- products of texts

right-products : (kept : History) → AreOfTexts kept → AreRightProducts kept
right-products (of_product product messages) texts = product_of_text_is_right texts.0 product texts.1
right-products (amended before product messages) texts = (right-products before texts.0, product_of_text_is_right texts.1.0 product texts.1.1)

pub last-listing-right : (kept : History) → AreOfTexts kept → IsRightListing (listing_of (last_product kept))
last-listing-right (of_product product messages) texts = listing-right texts.0 product texts.1
last-listing-right (amended before product messages) texts = listing-right texts.1.0 product texts.1.1

-- ---- levels

all-from-places : (P : List Row → Type 0) (xs : List (List Row)) → ((i : ℕ) → i < length xs → P (get_or xs i [])) → AllByRecursion P xs
all-from-places P [] h = tt
all-from-places P (x ∷ xs) h = (h 0 (omega arith), all-from-places P xs (λ i lt. let less : suc i < suc (length xs) = omega arith in h (suc i) less))

module _ (product : ProductLists) (start : State) (messages : List (List ℕ)) where
  each-level : ((m : ℕ) → IsRightState product (state_after product start (take m messages))) → AllByRecursion (AreLevels (listing_of product)) (levels_from product start messages)
  each-level right =
      let levels = levels_from product start messages in
      all-from-places (AreLevels (listing_of product)) levels (λ i lt.
      let here : get_or levels i [] ≡ levels_of_state (state_after product start (take (suc i) messages)) = from-at product start messages i (omega (arith, length-from product start messages, lt)) in
      subst (AreLevels (listing_of product)) (sym here) (state-levels product (state_after product start (take (suc i) messages)) (right (suc i))))

levels-are : (kept : History) → AreRightProducts kept → IsHistory kept → length_kept kept < MOST_MESSAGES → AllByRecursion (AreLevels (listing_of (last_product kept))) (levels_kept kept)
levels-are (of_product product messages) right is few =
    each-level product (empty_state product) messages (λ m. histories-right (of_product product (take m messages)) right is (omega (arith, few, length-take m messages)))
levels-are (amended before product messages) right is few =
    let start = amended_state product (state_kept before) in
    let same = sym (same-listing (last_product before) product is.1) in
    let old = levels-are before right.0 is.0 (omega (arith, few)) in
    all-append (AreLevels (listing_of product)) (levels_kept before) (levels_from product start messages)
    (subst (λ (listing : Listing). AllByRecursion (AreLevels listing) (levels_kept before)) same old)
    (each-level product start messages (λ m. histories-right (amended before product (take m messages)) right is (omega (arith, few, length-take m messages))))

pub levels-of-texts : (kept : History) → AreOfTexts kept → IsHistory kept → length_kept kept < MOST_MESSAGES → AllByRecursion (AreLevels (listing_of (last_product kept))) (levels_kept kept)
levels-of-texts kept texts is few = levels-are kept (right-products kept texts) is few

-- ---- the law

pub folds-at : FoldsAtBlocks
folds-at kept part back number texts is few p =
    let listing = listing_of (last_product kept) in
    let levels = levels_kept kept in
    let size = length-levels-kept kept in
    let are = levels-of-texts kept texts is few in
    folds-at-blocks listing levels part back number (last-listing-right kept texts) are (omega arith) p
    ∙ ap Ok (levels-kept-at kept number (omega (arith, part-within listing levels are part back number p)))

pub folds-between : FoldsBetweenBlocks
folds-between kept part back number m texts is few p low high later =
    let listing = listing_of (last_product kept) in
    let levels = levels_kept kept in
    let size = length-levels-kept kept in
    let are = levels-of-texts kept texts is few in
    folds-between-blocks listing levels part back number m (last-listing-right kept texts) are (omega arith) p low (omega arith) later
    ∙ ap Ok (levels-kept-at kept m high)

pub folds-whole : FoldsWhole
folds-whole kept texts is few =
    let listing = listing_of (last_product kept) in
    let levels = levels_kept kept in
    let size = length-levels-kept kept in
    let are = levels-of-texts kept texts is few in
    let middle = blocks_from 1 0 [] levels in
    let number = last_number 0 middle in
    let p : IsPart levels (feed_blocks levels) [] number =
    record { front = []; first = 0; rows = []; middle = middle; whole = sym (append-nil (feed_blocks levels)); from_snapshot = refl; to_block = refl } in
    folds-between kept (feed_blocks levels) [] number (length_kept kept) texts is few p (omega (arith, part-within listing levels are (feed_blocks levels) [] number p)) (omega arith) tt
    ∙ ap Ok (levels-at-end kept)
