-- Lists of queues, each once.
use Rattle.std.proofs.Common.{◌≢◌, ℕ, List, [], ◌∷◌, ◌++◌}
use Rattle.std.specs.List.{AllByRecursion}
use Rattle.price_level.specs.Inner.Kept.{AreApart}
use Rattle.price_level.proofs.Lists.{all-with, pairs-append}

pub apart-push : (queues : List ℕ) (q : ℕ) → AreApart queues → AllByRecursion (λ x. q ≢ x) queues → AreApart (queues ++ q ∷ [])
apart-push queues q a h = pairs-append (λ x y. y ≢ x) queues (q ∷ []) a (tt, tt) (all-with (λ x. q ≢ x) (λ x. AllByRecursion (λ y. y ≢ x) (q ∷ [])) (λ x ne. (ne, tt)) queues h)
