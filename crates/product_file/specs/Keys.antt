-- The keys of a product file (our own format), as they stand in it.
use Rattle.std.specs.Prelude.{ℕ, List, codes}
use Rattle.product_file.specs.declared.faults.Key.{Key}
use Rattle.product_file.specs.declared.faults.Key.TheVariants as key

abbrev pub word_of : Key → List ℕ
word_of key.Exchange = codes "exchange"
word_of key.Firms = codes "firms"
word_of key.MaxOrders = codes "max_orders"
word_of key.JournalLimit = codes "journal_limit"
word_of key.Instrument = codes "instrument"
word_of key.Name = codes "name"
word_of key.Decimals = codes "decimals"
word_of key.Tick = codes "tick"
word_of key.Protection = codes "protection"
word_of key.Algorithm = codes "algorithm"
word_of key.TopMin = codes "top_min"
word_of key.TopMax = codes "top_max"
word_of key.Least = codes "least"
word_of key.Split = codes "split"
word_of key.Lmm = codes "lmm"
word_of key.LmmFirm = codes "firm"
word_of key.LmmPercent = codes "percent"
word_of key.Steps = codes "steps"
