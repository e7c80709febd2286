-- The calls of a book in two lists, by what its parts ensure: the book is kept. A call's requires speak of the book that is seen.
use Rattle.std.proofs.Common.{◌≡◌, ℕ, ◌≤◌, List, [], ◌∷◌, ◌++◌, Option, false, sym, ap, subst, ◌∙◌, arith}
use Rattle.gx_base.specs.declared.order.Order.{Order}
use Rattle.plain_book.specs.declared.entry.Entry.{Entry}
use Rattle.plain_book.specs.Orders.{HasSlot, order_of, level_of, is_live, without, with_order, traded, lined_up}
use Rattle.plain_book.specs.Book.{Book, live_orders, IsResting, IsFitToRest, IsFitToWait, resting_placed}
use Rattle.plain_book.specs.Inner.FreeSlots.{book_of, IsKept, freed}
use Rattle.plain_book.proofs.Live.{fit_of}
use Rattle.plain_book.proofs.Kept.{free-last, kept-placed, kept-waited, kept-without, kept-with_order, kept-traded}

module _ {c n : ℕ} {xs ws : List Entry} {rr wr : ℕ} {ss : List ℕ} {fr : ℕ} {v : Book} (k : IsKept (book_of c n xs ws) rr wr ss fr) (seen : book_of c n xs ws ≡ v) where
  abbrev b : Book
  b = book_of c n xs ws

  -- what is true of the book that is seen
  back : (P : Book → Type 0) → P v → P b
  back P h = subst P (sym seen) h

  abbrev Rests : ℕ → Book → Type 0
  Rests s x = HasSlot s x.resting

  pub seen-fits : (s : ℕ) → HasSlot s v.resting → IsResting n (order_of s xs)
  seen-fits s has = fit_of n s xs k.right.rest (back (Rests s) has)

  -- ---- an order comes, and takes the last of the free slots

  module _ (s : ℕ) (left : List ℕ) {fr' : ℕ} (taken : ss ≡ left ++ s ∷ []) (room : fr ≤ fr') where
    taken-from : IsKept b rr wr (left ++ s ∷ []) fr
    taken-from = subst (λ (q : List ℕ). IsKept b rr wr q fr) taken k

    pub seen-fresh : HasSlot s (live_orders v) → ⊥
    seen-fresh h = free-last s left (live_orders b) taken-from.free (back (λ (x : Book). HasSlot s (live_orders x)) h)

    module _ (o : Order) (unnamed : is_live o.firm o.id (live_orders v) ≡ false) where
      unnamed-here : is_live o.firm o.id (live_orders b) ≡ false
      unnamed-here = back (λ (x : Book). is_live o.firm o.id (live_orders x) ≡ false) unnamed

      pub seen-placed : (least : Option ℕ) {xs' : List Entry} {rr' : ℕ} → xs' ≡ resting_placed s o least xs → rr' ≡ rr → IsFitToRest v.instruments o → IsKept (book_of c n xs' ws) rr' wr left fr'
      seen-placed least {xs'} {rr'} is same fit =
          subst (λ (l : List Entry). IsKept (book_of c n l ws) rr' wr left fr') (sym is)
          (kept-placed b rr wr left fr rr' wr fr' s taken-from (omega (arith, same)) (omega arith) room o least (back (λ (x : Book). IsFitToRest x.instruments o) fit) unnamed-here)

      pub seen-waited : {ws' : List Entry} {wr' : ℕ} → ws' ≡ lined_up (record { slot = s; order = record o { shown = 0 }; is_top = false }) ws → wr' ≡ wr → IsFitToWait v.instruments o
          → IsKept (book_of c n xs ws') rr wr' left fr'
      seen-waited {ws'} {wr'} is same fit =
          subst (λ (l : List Entry). IsKept (book_of c n xs l) rr wr' left fr') (sym is)
          (kept-waited b rr wr left fr rr wr' fr' s taken-from (omega arith) (omega (arith, same)) room o (back (λ (x : Book). IsFitToWait x.instruments o) fit) unnamed-here)

  -- ---- an order that is there

  -- it changes, and stays where it is
  pub seen-renewed : (change : Order → Order) → ((o : Order) → (level_of (change o) ≡ level_of o) × ((change o).firm ≡ o.firm) × ((change o).id ≡ o.id)) → (s : ℕ) {old : Order} {xs' : List Entry} {rr' : ℕ} → HasSlot s v.resting
      → old ≡ order_of s xs → xs' ≡ with_order s (change old) xs → rr' ≡ rr → IsResting n (change (order_of s xs)) → IsKept (book_of c n xs' ws) rr' wr ss fr
  seen-renewed change stays s {old} {xs'} {rr'} has was is same fit =
      let h = back (Rests s) has in
      let o = stays (order_of s xs) in
      subst (λ (l : List Entry). IsKept (book_of c n l ws) rr' wr ss fr) (sym (is ∙ ap (λ (x : Order). with_order s (change x) xs) was))
      (kept-with_order b rr wr ss fr rr' wr fr k (omega (arith, same)) (omega arith) (omega arith) s (change (order_of s xs)) h o.0 o.1 o.2 fit)

  pub seen-removed : (s : ℕ) {xs' ws' : List Entry} {rr' wr' : ℕ} {ss' : List ℕ} {fr' : ℕ} → HasSlot s (live_orders v) → xs' ≡ without s xs → rr' ≡ rr → ws' ≡ without s ws → wr' ≡ wr → ss' ≡ ss ++ s ∷ [] → fr ≤ fr'
      → IsKept (book_of c n xs' ws') rr' wr' ss' fr'
  seen-removed s {xs'} {ws'} {rr'} {wr'} {ss'} {fr'} live is same is2 same2 given room =
      subst (λ (l : List Entry). IsKept (book_of c n l ws') rr' wr' ss' fr') (sym is)
      (subst (λ (l : List Entry). IsKept (book_of c n (without s xs) l) rr' wr' ss' fr') (sym is2)
      (subst (λ (q : List ℕ). IsKept (book_of c n (without s xs) (without s ws)) rr' wr' q fr') (sym given)
      (kept-without b rr wr ss fr rr' wr' fr' k (omega (arith, same)) (omega (arith, same2)) room s (back (λ (x : Book). HasSlot s (live_orders x)) live))))

  pub seen-traded : (s lots : ℕ) {xs' : List Entry} {rr' : ℕ} {ss' : List ℕ} {fr' : ℕ} → HasSlot s v.resting → 1 ≤ lots → lots ≤ (order_of s v.resting).shown → xs' ≡ traded s lots xs → rr' ≡ rr → ss' ≡ freed s lots xs ss → fr ≤ fr'
      → IsKept (book_of c n xs' ws) rr' wr ss' fr'
  seen-traded s lots {xs'} {rr'} {ss'} {fr'} has some shown is same given room =
      subst (λ (l : List Entry). IsKept (book_of c n l ws) rr' wr ss' fr') (sym is)
      (subst (λ (q : List ℕ). IsKept (book_of c n (traded s lots xs) ws) rr' wr q fr') (sym given)
      (kept-traded b rr wr ss fr rr' wr fr' k (omega (arith, same)) (omega arith) room s lots (back (Rests s) has) some (back (λ (x : Book). lots ≤ (order_of s x.resting).shown) shown)))
