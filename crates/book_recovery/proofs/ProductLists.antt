-- The products of a journal, each of which may follow the one before: which of them comes next, and what all of them have in common.
use Rattle.std.proofs.Common.{◌≡◌, ℕ, ◌+◌, ◌≤◌, zero, suc, List, [], ◌∷◌, ◌++◌, drop, length, get_or, None, Ok, replicate, refl, sym, subst, ◌∙◌, ap, ap₂, arith}
use Rattle.std.specs.Vec.{vec_capacity}
use Rattle.std.proofs.lemmas.List.{get_or-drop, drop-drop}
use Rattle.gx_base.specs.declared.trading.Trading.TheVariants.{Open}
use Rattle.product_file.specs.Products.{ProductLists}
use Rattle.product_file.specs.Amendments.{may_follow}
use Rattle.plain_book.specs.Book.{empty_book}
use Rattle.order_kinds.specs.State.{State, empty_desk, empty_state}
use Rattle.order_kinds.specs.Cores.{FitsProduct}
use Rattle.order_kinds.proofs.Amended.{follows, fits-follows}
use Rattle.book_image.specs.Image.{image_len}
use Rattle.match_journal.specs.declared.limits.TheConstants.{MOST_TEXT}
use Rattle.book_recovery.specs.Histories.{FollowFrom, FollowEachOther}
use Rattle.book_recovery.specs.Recovering.{HasRoomFor}
use Rattle.book_recovery.specs.declared.scratch.Scratch.{Scratch}

-- ---- one place of a list

module _ (xs : List ProductLists) (n : ℕ) (p : ProductLists) (later : List ProductLists) (left : drop n xs ≡ p ∷ later) where
  pub get-drop : (d : ProductLists) → get_or xs n d ≡ p
  get-drop d =
      let zero_more : n ≡ n + 0 = omega arith in
      ap (λ (k : ℕ). get_or xs k d) zero_more ∙ sym (get_or-drop n xs 0 d) ∙ ap (λ (l : List ProductLists). get_or l 0 d) left

  pub drop-next : drop (n + 1) xs ≡ later
  drop-next = sym (drop-drop 1 n xs) ∙ ap (drop 1) left

-- ---- what all have in common

-- as many orders and instruments
pub record AreAlike (a b : ProductLists) : Type 0 where
  pub orders : a.max_orders ≡ b.max_orders
  pub instruments : length a.names.instruments ≡ length b.names.instruments

pub alike-sym : (a b : ProductLists) → AreAlike a b → AreAlike b a
alike-sym a b alike = record { orders = sym alike.orders; instruments = sym alike.instruments }

alike-on : (a b c : ProductLists) → AreAlike a b → AreAlike b c → AreAlike a c
alike-on a b c one two = record { orders = one.orders ∙ two.orders; instruments = one.instruments ∙ two.instruments }

alike-follows : (a b : ProductLists) → may_follow a b ≡ Ok tt → AreAlike a b
alike-follows a b may = let f = follows a b may in record { orders = f.orders; instruments = f.instruments }

pub alike-empty : (a b : ProductLists) → AreAlike a b → empty_state a ≡ empty_state b
alike-empty a b alike =
    ap₂ (λ (orders instruments : ℕ). record { book = empty_book orders instruments; last = replicate instruments None; desk = empty_desk; trading = Open }) alike.orders alike.instruments

pub alike-room : (a b : ProductLists) (scratch : Scratch) → AreAlike a b → HasRoomFor a scratch → HasRoomFor b scratch
alike-room a b scratch alike room =
    subst (λ (instruments : ℕ). 4 + MOST_TEXT + image_len instruments b.max_orders ≤ vec_capacity scratch.payload) alike.instruments
    (subst (λ (orders : ℕ). 4 + MOST_TEXT + image_len (length a.names.instruments) orders ≤ vec_capacity scratch.payload) alike.orders room)

-- ---- of products that follow each other, any one and the last

follow-each : (p : ProductLists) (later : List ProductLists) → FollowFrom p later → FollowEachOther later
follow-each p [] follow = tt
follow-each p (q ∷ later) follow = follow.1

module _ (last : ProductLists) where
  first-alike : (p : ProductLists) (earlier : List ProductLists) → FollowFrom p (earlier ++ last ∷ []) → AreAlike p last
  first-alike p [] follow = alike-follows p last follow.0
  first-alike p (q ∷ earlier) follow = alike-on p q last (alike-follows p q follow.0) (first-alike q earlier follow.1)

  pub get-alike : (earlier : List ProductLists) (n : ℕ) → FollowEachOther (earlier ++ last ∷ []) → AreAlike (get_or (earlier ++ last ∷ []) n last) last
  get-alike [] zero follow = record { orders = refl; instruments = refl }
  get-alike [] (suc n) follow = record { orders = refl; instruments = refl }
  get-alike (p ∷ earlier) zero follow = first-alike p earlier follow
  get-alike (p ∷ earlier) (suc n) follow = get-alike earlier n (follow-each p (earlier ++ last ∷ []) follow)

  -- so has the product of a number
  pub number-alike : (earlier : List ProductLists) (n : ℕ) (product : ProductLists) → FollowEachOther (earlier ++ last ∷ []) → product ≡ get_or (earlier ++ last ∷ []) n last → AreAlike product last
  number-alike earlier n product follow is = subst (λ (p : ProductLists). AreAlike p last) (sym is) (get-alike earlier n follow)

  module _ (state : State) where
    -- what fits the first fits each
    fits-first : (p : ProductLists) (earlier : List ProductLists) (n : ℕ) → FollowFrom p (earlier ++ last ∷ []) → FitsProduct p state → FitsProduct (get_or (earlier ++ last ∷ []) n last) state
    fits-first p [] zero follow fits = fits-follows p last state fits follow.0
    fits-first p [] (suc n) follow fits = fits-follows p last state fits follow.0
    fits-first p (q ∷ earlier) zero follow fits = fits-follows p q state fits follow.0
    fits-first p (q ∷ earlier) (suc n) follow fits = fits-first q earlier n follow.1 (fits-follows p q state fits follow.0)

    -- what fits one of them fits those after it
    pub fits-later : (earlier : List ProductLists) (a b : ℕ) → FollowEachOther (earlier ++ last ∷ []) → a ≤ b → FitsProduct (get_or (earlier ++ last ∷ []) a last) state
        → FitsProduct (get_or (earlier ++ last ∷ []) b last) state
    fits-later [] zero zero follow le fits = fits
    fits-later [] zero (suc b) follow le fits = fits
    fits-later [] (suc a) zero follow le fits = fits
    fits-later [] (suc a) (suc b) follow le fits = fits
    fits-later (p ∷ earlier) zero zero follow le fits = fits
    fits-later (p ∷ earlier) zero (suc b) follow le fits = fits-first p earlier b follow fits
    fits-later (p ∷ earlier) (suc a) zero follow le fits = absurd (omega (arith, le))
    fits-later (p ∷ earlier) (suc a) (suc b) follow le fits = fits-later earlier a b (follow-each p (earlier ++ last ∷ []) follow) (omega (arith, le)) fits

    -- and the last
    to-last : (p : ProductLists) (earlier : List ProductLists) → FollowFrom p (earlier ++ last ∷ []) → FitsProduct p state → FitsProduct last state
    to-last p [] follow fits = fits-follows p last state fits follow.0
    to-last p (q ∷ earlier) follow fits = to-last q earlier follow.1 (fits-follows p q state fits follow.0)

    pub fits-last : (earlier : List ProductLists) (n : ℕ) → FollowEachOther (earlier ++ last ∷ []) → FitsProduct (get_or (earlier ++ last ∷ []) n last) state → FitsProduct last state
    fits-last [] zero follow fits = fits
    fits-last [] (suc n) follow fits = fits
    fits-last (p ∷ earlier) zero follow fits = to-last p earlier follow fits
    fits-last (p ∷ earlier) (suc n) follow fits = fits-last earlier n (follow-each p (earlier ++ last ∷ []) follow) fits
