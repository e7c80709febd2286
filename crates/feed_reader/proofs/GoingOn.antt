-- What taking bytes does to the fold.
use Rattle.std.proofs.Common.{◌≡◌, ℕ, ◌+◌, ◌<◌, ◌≤◌, cond, List, [], ◌∷◌, ◌++◌, length, Result, Ok, Err, IfErr, OnErr, OnOk, refl, sym, ap, subst, ◌∙◌, arith, length-append, append_assoc}
use Rattle.std.proofs.lemmas.List.{append-nil}
use Rattle.level_feed.specs.declared.fault.FeedFault.{FeedFault}
use Rattle.level_feed.specs.declared.fault.FeedFault.TheVariants.{Form}
use Rattle.level_feed.specs.Lines.{Listing}
use Rattle.level_feed.specs.Tables.{Table, is_inside, empty_table, longest_line, text_taken}
use Rattle.level_feed.specs.Folds.{pieces_of, ended, where_taken, fold_from, table_of}
use Rattle.feed_reader.specs.declared.reading.BrokenLine.{BrokenLine}
use Rattle.feed_reader.specs.Feeds.{IsUnbroken}
use Rattle.feed_reader.specs.Inner.{Place, HasNoEnd, IsFront, fold_on, GoesOn, IsBrokenAt}
use Rattle.feed_reader.proofs.Pieces.{no-end-append, fold-rest, fold-line, fold-long, front-unbroken}

abbrev pub new_place : Place
new_place = record { block = 0; at = 0; kept = [] }

-- where a line ends
abbrev pub behind_line : Table → Place → List ℕ → Place
behind_line t p bytes = record { block = cond (is_inside t) p.block p.at; at = p.at + length (p.kept ++ bytes) + 1; kept = [] }

-- a line after what is gone
pub line-gone : (bytes gone rest line behind : List ℕ) → bytes ≡ gone ++ rest → rest ≡ line ++ 10 ∷ behind → bytes ≡ (gone ++ (line ++ 10 ∷ [])) ++ behind
line-gone bytes gone rest line behind e f =
    e
    ∙ ap (λ (l : List ℕ). gone ++ l) (f ∙ sym (append_assoc line (10 ∷ []) behind))
    ∙ sym (append_assoc gone (line ++ 10 ∷ []) behind)

pub place-is : (q : Place) (block at : ℕ) (kept : List ℕ) → q.block ≡ block → q.at ≡ at → q.kept ≡ kept → q ≡ record { block = block; at = at; kept = kept }
place-is q block at kept e f g =
    subst (λ (b : ℕ). q ≡ record { block = b; at = at; kept = kept }) e
    (subst (λ (a : ℕ). q ≡ record { block = q.block; at = a; kept = kept }) f
    (subst (λ (k : List ℕ). q ≡ record { block = q.block; at = q.at; kept = k }) g refl))

module _ (listing : Listing) where
  -- ---- nothing, and bytes after bytes

  pub goes-nowhere : (t : Table) (p : Place) → IsFront p.kept → GoesOn listing t p [] t p
  goes-nowhere t p front = record { folds = λ more. refl; place = omega arith; front = front }

  pub goes-then : (t : Table) (p : Place) (xs : List ℕ) (u : Table) (q : Place) (ys : List ℕ) (v : Table) (r : Place) → GoesOn listing t p xs u q → GoesOn listing u q ys v r → GoesOn listing t p (xs ++ ys) v r
  goes-then t p xs u q ys v r g h =
      let first = g.place in
      let second = h.place in
      record {
        folds = λ more. ap (fold_on listing t p) (append_assoc xs ys more) ∙ g.folds (ys ++ more) ∙ h.folds more;
        place = omega (arith, length-append xs ys);
        front = h.front;
      }

  pub breaks-then : (t : Table) (p : Place) (xs : List ℕ) (u : Table) (q : Place) (ys : List ℕ) (broken : BrokenLine) → GoesOn listing t p xs u q → IsBrokenAt listing u q ys broken → IsBrokenAt listing t p (xs ++ ys) broken
  breaks-then t p xs u q ys broken g h more =
      ap (fold_on listing t p) (append_assoc xs ys more) ∙ g.folds (ys ++ more) ∙ h more

  -- bytes with a fault, and more bytes
  pub breaks-more : (t : Table) (p : Place) (xs ys : List ℕ) (broken : BrokenLine) → IsBrokenAt listing t p xs broken → IsBrokenAt listing t p (xs ++ ys) broken
  breaks-more t p xs ys broken h more =
      ap (fold_on listing t p) (append_assoc xs ys more) ∙ h (ys ++ more)

  -- ---- a line

  line-text : (k bytes more : List ℕ) → k ++ ((bytes ++ 10 ∷ []) ++ more) ≡ (k ++ bytes) ++ 10 ∷ more
  line-text k bytes more =
      ap (λ (text : List ℕ). k ++ text) (append_assoc bytes (10 ∷ []) more) ∙ sym (append_assoc k bytes (10 ∷ more))

  line-fold : (t : Table) (p : Place) (bytes more : List ℕ) → HasNoEnd p.kept → HasNoEnd bytes
      → fold_on listing t p ((bytes ++ 10 ∷ []) ++ more) ≡ where_taken p.at (text_taken listing t (p.kept ++ bytes)) (λ u. fold_on listing u (behind_line t p bytes) more)
  line-fold t p bytes more k h =
      ap (λ (text : List ℕ). fold_from listing t p.at p.block (pieces_of text)) (line-text p.kept bytes more)
      ∙ fold-line listing t p.at p.block (p.kept ++ bytes) more (no-end-append p.kept bytes k h)

  pub line-goes : (t u : Table) (p q : Place) (bytes : List ℕ) → IsFront p.kept → HasNoEnd bytes → text_taken listing t (p.kept ++ bytes) ≡ Ok u → q ≡ behind_line t p bytes → GoesOn listing t p (bytes ++ 10 ∷ []) u q
  line-goes t u p q bytes front h e is =
      let goes : GoesOn listing t p (bytes ++ 10 ∷ []) u (behind_line t p bytes) = record {
        folds = λ more. line-fold t p bytes more front.no_end h ∙ ap (λ (r : Result Table FeedFault). where_taken p.at r (λ v. fold_on listing v (behind_line t p bytes) more)) e;
        place = omega (arith, length-append p.kept bytes, length-append bytes (10 ∷ []));
        front = record { no_end = tt; short = omega arith };
      } in
      subst (GoesOn listing t p (bytes ++ 10 ∷ []) u) (sym is) goes

  pub line-breaks : (t : Table) (p : Place) (bytes : List ℕ) (fault : FeedFault) → IsFront p.kept → HasNoEnd bytes → text_taken listing t (p.kept ++ bytes) ≡ Err fault → IsBrokenAt listing t p (bytes ++ 10 ∷ []) (record { at = p.at; fault = fault })
  line-breaks t p bytes fault front h e more =
      line-fold t p bytes more front.no_end h
      ∙ ap (λ (r : Result Table FeedFault). where_taken p.at r (λ v. fold_on listing v (behind_line t p bytes) more)) e

  -- ---- the front of a line

  pub front-goes : (t : Table) (p q : Place) (bytes : List ℕ) → IsFront p.kept → HasNoEnd bytes → length (p.kept ++ bytes) ≤ longest_line → q ≡ record { block = p.block; at = p.at; kept = p.kept ++ bytes } → GoesOn listing t p bytes t q
  front-goes t p q bytes front h short is =
      let goes : GoesOn listing t p bytes t (record { block = p.block; at = p.at; kept = p.kept ++ bytes }) = record {
        folds = λ more. ap (λ (text : List ℕ). fold_from listing t p.at p.block (pieces_of text)) (sym (append_assoc p.kept bytes more));
        place = omega (arith, length-append p.kept bytes);
        front = record { no_end = no-end-append p.kept bytes front.no_end h; short = short };
      } in
      subst (GoesOn listing t p bytes t) (sym is) goes

  pub front-breaks : (t : Table) (p : Place) (bytes : List ℕ) → IsFront p.kept → HasNoEnd bytes → longest_line < length (p.kept ++ bytes) → IsBrokenAt listing t p bytes (record { at = p.at; fault = Form })
  front-breaks t p bytes front h long more =
      ap (λ (text : List ℕ). fold_from listing t p.at p.block (pieces_of text)) (sym (append_assoc p.kept bytes more))
      ∙ fold-long listing t p.at p.block (p.kept ++ bytes) more (no-end-append p.kept bytes front.no_end h) long

  -- where the rest of some bytes is kept, or is too long
  pub rest-breaks : (t : Table) (p : Place) (bytes : List ℕ) (u : Table) (q : Place) (gone rest : List ℕ) (result : Result (Unit {0}) BrokenLine) → bytes ≡ gone ++ rest → GoesOn listing t p gone u q → HasNoEnd rest
      → IfErr result (λ broken. broken ≡ record { at = q.at; fault = Form }) → OnErr result (longest_line < length (q.kept ++ rest)) → IfErr result (IsBrokenAt listing t p bytes)
  rest-breaks t p bytes u q gone rest (Ok _) is g h e long = tt
  rest-breaks t p bytes u q gone rest (Err broken) is g h e long =
      let breaks : IsBrokenAt listing t p (gone ++ rest) (record { at = q.at; fault = Form }) = breaks-then t p gone u q rest (record { at = q.at; fault = Form }) g (front-breaks u q rest g.front h long) in
      subst (λ (text : List ℕ). IsBrokenAt listing t p text broken) (sym is) (subst (IsBrokenAt listing t p (gone ++ rest)) (sym e) breaks)

  pub rest-goes : (t : Table) (p : Place) (bytes : List ℕ) (u : Table) (q r : Place) (gone rest : List ℕ) (result : Result (Unit {0}) BrokenLine) → bytes ≡ gone ++ rest → GoesOn listing t p gone u q → HasNoEnd rest
      → OnOk result (r ≡ record { block = q.block; at = q.at; kept = q.kept ++ rest }) → OnOk result (length (q.kept ++ rest) ≤ longest_line) → OnOk result (GoesOn listing t p bytes u r)
  rest-goes t p bytes u q r gone rest (Ok _) is g h e short =
      subst (λ (text : List ℕ). GoesOn listing t p text u r) (sym is) (goes-then t p gone u q rest u r g (front-goes u q r rest g.front h short e))
  rest-goes t p bytes u q r gone rest (Err broken) is g h e short = tt

  -- ---- from the front of a feed

  pub goes-to-end : (taken : List ℕ) (t : Table) (p : Place) → GoesOn listing empty_table new_place taken t p → table_of listing taken ≡ ended t p.at p.block p.kept
  goes-to-end taken t p g =
      ap (table_of listing) (sym (append-nil taken))
      ∙ g.folds []
      ∙ ap (λ (text : List ℕ). fold_from listing t p.at p.block (pieces_of text)) (append-nil p.kept)
      ∙ fold-rest listing t p.at p.block p.kept g.front.no_end

  pub goes-unbroken : (taken : List ℕ) (t : Table) (p : Place) → GoesOn listing empty_table new_place taken t p → IsUnbroken listing taken
  goes-unbroken taken t p g at fault e =
      front-unbroken listing t p.at p.block p.kept at fault g.front (sym (goes-to-end taken t p g) ∙ e)
