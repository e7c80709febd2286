-- What the call makes that gives a live order another id.
use Rattle.std.proofs.Common.{◌≡◌, ℕ, false, cond, List, map, refl, sym, ap, subst, ◌∙◌}
use Rattle.std.specs.FinMap as finmap
use Rattle.std.specs.Prelude.{Option, None, Some}
use Rattle.gx_base.specs.declared.order.Order.{Order}
use Rattle.gx_base.specs.declared.order.Slot.{Slot}
use Rattle.plain_book.specs.declared.entry.Entry.{Entry}
use Rattle.plain_book.specs.Orders.{HasSlot, order_of, is_live}
use Rattle.plain_book.specs.Book.{Book, live_orders}
use Rattle.plain_book.proofs.Pairs.{all-front}
use Rattle.plain_book.proofs.Tops.{at-slot}
use Rattle.order_pool.specs.Queues as pool
use Rattle.order_pool.specs.Queues.{with_entry}
use Rattle.id_table.specs.Ids.{Ids, key, with_slots}
use Rattle.price_level.specs.Rows.{Rows}
use Rattle.book_side.specs.declared.tops.SideTops.{SideTops}
use Rattle.book_side.specs.Inner.Content.{book_of}
use Rattle.book_side.specs.Inner.Linked.{IsLinked}
use Rattle.book_side.proofs.Ids.{is_same_name, IsRenamed, renamed, none-looked, some-looked}
use Rattle.book_side.proofs.Names.{unnamed-looked}
use Rattle.book_side.proofs.Places.{is-named}
use Rattle.book_side.proofs.Renaming.{old-named, names-renamed, right-renamed}
use Rattle.book_side.proofs.Reordering.{IsAlike, IsReordered, is-reordered}

module _ (c n : ℕ) (p : pool.Queues) (ids : Ids) (lv : Rows) (tops : List SideTops) (k : IsLinked c n p ids lv tops) (slot : Slot) (id : List ℕ) where
  abbrev book : Book
  book = book_of c n tops p.queues lv.rows

  abbrev old : Order
  old = order_of slot.0 (live_orders book)

  abbrev Sets : pool.Queues → Order → Type 0
  Sets p' x = p' ≡ record p { queues = map (with_entry slot.0 (record x { id = id })) p.queues }

  abbrev Renames : Ids → Order → Type 0
  Renames ids' x = (t : Slot) → finmap.get ids.slots (key x.firm x.id) ≡ Some t → ids' ≡ with_slots (finmap.insert (finmap.remove ids.slots (key x.firm x.id)) (key x.firm id) t) ids

  module _ (h : HasSlot slot.0 (live_orders book)) (unnamed : is_live old.firm id (live_orders book) ≡ false) where
    pub absent : (x : Order) → x ≡ old → finmap.get ids.slots (key x.firm id) ≡ None
    absent x e =
        subst (λ (y : Order). finmap.get ids.slots (key y.firm id) ≡ None) (sym e)
        (none-looked (finmap.get ids.slots (key old.firm id)) (k.named old.firm id ∙ unnamed-looked old.firm id (live_orders book) unnamed))

    named-now : (p' : pool.Queues) (ids' : Ids) → Sets p' old → pool.live_of p' ≡ pool.live_of p → Renames ids' old → IsReordered c n p p' ids' lv tops slot.0 (record old { id = id })
    named-now p' ids' set live rename =
        let found = some-looked (finmap.get ids.slots (key old.firm old.id)) slot (k.named old.firm old.id ∙ old-named book k.right slot.0 h id) in
        let there = is-named c n p ids lv tops k slot.0 h old refl in
        let names : IsRenamed old.firm old.id id slot.0 ids ids' = renamed ids ids' old.firm old.id id slot there (absent old refl) (rename slot found) in
        let o : Order = record old { id = id } in
        is-reordered c n p p' ids ids' lv tops k slot.0 o set live refl
        (all-front (λ (e : Entry). e.slot ≡ slot.0 → IsAlike o e.order) book.resting book.waiting
        (at-slot (λ (x : Order). IsAlike o x) slot.0 (live_orders book) k.right.differ (record { level = refl; shown = refl; leaves = refl })))
        (right-renamed book k.right slot.0 h id unnamed) names.capacity names.count
        (λ f i.
        names.names f i ∙ ap (λ (t : Option ℕ). cond (is_same_name old.firm id f i) (Some slot.0) (cond (is_same_name old.firm old.id f i) None t)) (k.named f i)
        ∙ sym (names-renamed book k.right slot.0 h id unnamed f i))

    pub named : (p' : pool.Queues) (ids' : Ids) (x : Order) → x ≡ old → Sets p' x → pool.live_of p' ≡ pool.live_of p → Renames ids' x → IsReordered c n p p' ids' lv tops slot.0 (record old { id = id })
    named p' ids' x e =
        subst (λ (y : Order). Sets p' y → pool.live_of p' ≡ pool.live_of p → Renames ids' y → IsReordered c n p p' ids' lv tops slot.0 (record old { id = id })) (sym e) (named-now p' ids')
