-- The LMM step, when the shares of some lead market makers were traded.
use Rattle.std.proofs.Common.{◌≡◌, ℕ, ◌*◌, ◌/◌, ◌≤◌, ◌==◌, List, [], ◌∷◌, ◌++◌, map, sum_by, refl, sym, ap, subst, ◌∙◌, append_assoc, arith}
use Rattle.std.proofs.lemmas.List.{append-nil}
use Rattle.std.proofs.lemmas.List.Sums.{sum_by-cons}
use Rattle.std.specs.List.{IsDistinct, AllByRecursion}
use Rattle.gx_base.specs.declared.price.Price.{Price}
use Rattle.gx_base.specs.declared.order.Taker.{Taker}
use Rattle.gx_base.specs.declared.order.LmmShare.{LmmShare}
use Rattle.gx_base.specs.declared.event.StepName.TheVariants.{Lmm}
use Rattle.gx_base.specs.Emits.{EmitMeanings}
use Rattle.plain_book.specs.declared.entry.Entry.{Entry}
use Rattle.plain_book.specs.Orders.{Level, orders_at}
use Rattle.plain_book.specs.Book.{Book, AllDiffer}
use Rattle.plain_book.specs.Match.{MatchState, Share, trade_shares}
use Rattle.plain_book.specs.Matches.{MatchAt, start_at, CanTrade, Matches}
use Rattle.plain_book.specs.Shares.{shares_by}
use Rattle.plain_book.specs.Steps.{facing, spent, lmm, lmm_shares}
use Rattle.plain_book.proofs.TradedShares.{shares-ignore, shares-append}
use Rattle.plain_book.proofs.Parts.{parts-fit}
use Rattle.plain_book.proofs.Matching.{matches-none, matches-then, matches-as}
use Rattle.lmm_pass.specs.Firms.{spending_on_firm}
use Rattle.lmm_pass.proofs.Spends.{orders_of, spent_on, trade-spent, spent-leaves}
use Rattle.lmm_pass.proofs.Others.{spent-others, shares-facing}
use Rattle.lmm_pass.proofs.Unmoved.{firm_of, AreAsBefore, KeepsOthers, unmoved-start, unmoved-more, distinct-more}

abbrev percent_of : LmmShare → ℕ
percent_of s = s.percent

-- the part of q that a lead market maker gets
abbrev pub part_in : ℕ → LmmShare → ℕ
part_in q s = q * s.percent / 100

abbrev pub IsPercent : LmmShare → Type 0
IsPercent s = (1 ≤ s.percent) × (s.percent ≤ 100)

-- the shares of a step, and those of them that are left
module _ {E : Type 0} (m : EmitMeanings E) (price : Price) (shares : List LmmShare) (before : MatchAt E) where
  abbrev pub level_before : List Entry
  level_before = orders_at (facing price before.taker) before.book.resting

  -- the shares of these firms were traded that stand before those that are left, and the orders of the firms that are
  -- left are as they were
  pub record IsUnderWay (left : List LmmShare) (now : MatchAt E) : Type 0 where
    pub run : List Share
    pub matches : Matches m (trade_shares Lmm run) before now
    pub all : run ++ lmm_shares left before.taker.order.leaves level_before ≡ lmm_shares shares before.taker.order.leaves level_before
    pub faces : facing price now.taker ≡ facing price before.taker
    pub unmoved : AreAsBefore left level_before (orders_at (facing price now.taker) now.book.resting)
    pub firms : IsDistinct (λ a b. a == b) (map firm_of left)
    pub percents : AllByRecursion IsPercent left
    pub enough : sum_by (part_in before.taker.order.leaves) left ≤ now.taker.order.leaves

  pub way-start : CanTrade before.book before.desk before.taker → IsDistinct (λ a b. a == b) (map firm_of shares) → AllByRecursion IsPercent shares → sum_by (λ (s : LmmShare). s.percent) shares ≤ 100 → IsUnderWay shares before
  way-start can firms percents sum = record {
    run = [];
    matches = matches-none m before can;
    all = refl;
    faces = refl;
    unmoved = unmoved-start shares level_before;
    firms = firms;
    percents = percents;
    enough = parts-fit (part_in before.taker.order.leaves) percent_of before.taker.order.leaves 100 (λ s. omega arith) shares sum;
  }

  -- the walk of the next firm
  pub way-more : (s : LmmShare) (left : List LmmShare) (now next : MatchAt E) (lots : ℕ) → AllDiffer now.book.resting → IsUnderWay (s ∷ left) now → lots ≡ before.taker.order.leaves * s.percent / 100
      → Matches m (trade_shares Lmm (shares_by spending_on_firm (spent_on s.firm lots) (orders_at (facing price now.taker) now.book.resting))) now next
      → IsUnderWay left next
  way-more s left now next lots differ w is walk =
      let q = before.taker.order.leaves in
      let es = level_before in
      let k = facing price now.taker in
      let level = orders_at k now.book.resting in
      let walked = trade_shares Lmm (shares_by spending_on_firm (spent_on s.firm lots) level) (start_at now) in
      let part = spent (q * s.percent / 100) (orders_of s.firm es) in
      let same : walked ≡ trade_shares Lmm part (start_at now) =
      trade-spent s.firm lots level (start_at now)
      ∙ ap (λ (xs : List Entry). trade_shares Lmm (spent lots xs) (start_at now)) w.unmoved.0
      ∙ ap (λ (n : ℕ). trade_shares Lmm (spent n (orders_of s.firm es)) (start_at now)) is in
      let parted : Matches m (trade_shares Lmm part) now next = matches-as m (trade_shares Lmm (shares_by spending_on_firm (spent_on s.firm lots) level)) (trade_shares Lmm part) now next same walk in
      let both = matches-then m (trade_shares Lmm w.run) (trade_shares Lmm part) before now next (shares-ignore Lmm part) w.matches parted in
      let met : facing price next.taker ≡ k = ap (facing price) walk.now.taker ∙ shares-facing (shares_by spending_on_firm (spent_on s.firm lots) level) price (start_at now) in
      let keeps : KeepsOthers s.firm level (orders_at k walked.book.resting) = λ f apart. spent-others k s.firm f lots (start_at now) differ apart in
      let unmoved : AreAsBefore left es (orders_at k walked.book.resting) = unmoved-more s left es level (orders_at k walked.book.resting) w.firms keeps w.unmoved in
      let stands : orders_at k walked.book.resting ≡ orders_at (facing price next.taker) next.book.resting =
      ap (λ (b : Book). orders_at k b.resting) (sym walk.now.book) ∙ ap (λ (x : Level). orders_at x next.book.resting) (sym met) in
      let leaves : next.taker.order.leaves ≡ (trade_shares Lmm part (start_at now)).taker.order.leaves = ap (λ (t : Taker). t.order.leaves) parted.now.taker in
      record {
        run = w.run ++ part;
        matches = matches-as m (λ (x : MatchState). trade_shares Lmm part (trade_shares Lmm w.run x)) (trade_shares Lmm (w.run ++ part)) before next (sym (shares-append Lmm w.run part (start_at before))) both;
        all = append_assoc w.run part (lmm_shares left q es) ∙ w.all;
        faces = met ∙ w.faces;
        unmoved = subst (λ (xs : List Entry). AreAsBefore left es xs) stands unmoved;
        firms = distinct-more s left w.firms;
        percents = w.percents.1;
        enough = omega (arith, w.enough, sum_by-cons (part_in q) s left, leaves, spent-leaves (q * s.percent / 100) (orders_of s.firm es) (start_at now));
      }

  -- the next firm has no order at the level
  pub way-past : (s : LmmShare) (left : List LmmShare) (now : MatchAt E) → orders_of s.firm level_before ≡ [] → IsUnderWay (s ∷ left) now → IsUnderWay left now
  way-past s left now none w =
      let q = before.taker.order.leaves in
      record {
        run = w.run;
        matches = w.matches;
        all = sym (ap (λ (xs : List Entry). w.run ++ (spent (q * s.percent / 100) xs ++ lmm_shares left q level_before)) none) ∙ w.all;
        faces = w.faces;
        unmoved = w.unmoved.1;
        firms = distinct-more s left w.firms;
        percents = w.percents.1;
        enough = omega (arith, w.enough, sum_by-cons (part_in q) s left);
      }

  -- the lots of the next firm are still wanted
  pub way-wanted : (s : LmmShare) (left : List LmmShare) (now : MatchAt E) → IsUnderWay (s ∷ left) now → before.taker.order.leaves * s.percent / 100 ≤ now.taker.order.leaves
  way-wanted s left now w = omega (arith, w.enough, sum_by-cons (part_in before.taker.order.leaves) s left)

  pub way-end : (now : MatchAt E) → IsUnderWay [] now → Matches m (lmm shares price) before now
  way-end now w = matches-as m (trade_shares Lmm w.run) (lmm shares price) before now (ap (λ (xs : List Share). trade_shares Lmm xs (start_at before)) (sym (append-nil w.run) ∙ w.all)) w.matches
