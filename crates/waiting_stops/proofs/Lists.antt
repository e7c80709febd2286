-- The list of one instrument among those of all.
use Rattle.std.proofs.Common.{◌≡◌, ℕ, ◌<◌, List, [], length, get_or, set, sym, ap, ◌∙◌, arith}
use Rattle.std.proofs.lemmas.List.{length-map, get_or-map, map-set}
use Rattle.waiting_stops.specs.declared.queue.StopQueue.{StopQueue}
use Rattle.waiting_stops.specs.declared.queue.Wait.{Wait}
use Rattle.waiting_stops.specs.Waits.{StopLists, list_at}
use Rattle.waiting_stops.specs.Inner.Kept.{waits_of, lists_of}

module _ (queues : List StopQueue) (k capacity : ℕ) (now : StopLists) (view : record { capacity = capacity; lists = lists_of queues } ≡ now) (lt : k < length now.lists) (q : StopQueue) (is : q ≡ get_or queues k q) where
  listed : k < length queues
  listed =
      let e = ap {B = ℕ} (λ (x : StopLists). length x.lists) view in
      omega (arith, length-map queues waits_of)

  pub list-is : waits_of q ≡ list_at now.lists k
  list-is = ap waits_of is ∙ sym (get_or-map waits_of queues k q [] listed) ∙ ap (λ (x : StopLists). list_at x.lists k) view

  pub seen-set : (new : StopQueue) (ws : List Wait) → waits_of new ≡ ws → record { capacity = capacity; lists = lists_of (set queues k new) } ≡ record now { lists = set now.lists k ws }
  seen-set new ws e =
      ap (λ (x : List (List Wait)). record { capacity = capacity; lists = x }) (map-set waits_of queues k new ∙ ap (set (lists_of queues) k) e)
      ∙ ap (λ (x : StopLists). record x { lists = set x.lists k ws }) view
