-- What the values of a document without fault mean: the product, read off key by key (our own format).
use Rattle.std.specs.Prelude.{ℕ, pos, if◌then◌else◌, List, map, codes, bytes_eq, Option, unwrap_or, position}
use Rattle.gx_base.specs.declared.names.Listed.{Listed}
use Rattle.gx_base.specs.declared.order.LmmShare.{LmmShare}
use Rattle.gx_base.specs.declared.order.TopRule.{TopRule}
use Rattle.step_config.specs.declared.step.Step.{Step}
use Rattle.step_config.specs.declared.step.Step.TheVariants.{Top, Lmm, Split, ProRata, Leveling, Fifo}
use Rattle.step_config.specs.declared.presets.Letter.{Letter}
use Rattle.step_config.specs.declared.presets.Letter.TheVariants.{F, K}
use Rattle.step_config.specs.Presets.{preset_steps}
use Rattle.toml.specs.Data.{Data}
use Rattle.gx_base.specs.declared.limits.TheConstants.{MOST_LOTS}
use Rattle.product_file.specs.declared.limits.TheConstants.{USUAL_ORDERS, USUAL_JOURNAL}
use Rattle.product_file.specs.declared.product.InstrumentRule.{InstrumentRule}
use Rattle.product_file.specs.declared.faults.Key.TheVariants.{Exchange, Firms, MaxOrders, JournalLimit, Instrument, Name, Decimals, Tick, Protection, Algorithm, TopMin, TopMax, Least, LmmFirm, LmmPercent, Steps}
use Rattle.product_file.specs.declared.faults.Key.TheVariants as key
use Rattle.product_file.specs.Values.{text_at, texts_at, number_at, number_or, entries_at}
use Rattle.product_file.specs.Letters.{letter_of, usual_least}
use Rattle.product_file.specs.Products.{ProductLists}

-- ---- an instrument's steps

-- the letter of the algorithm
abbrev pub letter_in : Data → Letter
letter_in fields = unwrap_or (letter_of (text_at Algorithm fields)) F

-- a firm's number is its place among the firms, from 0 on
abbrev pub number_of_firm : List (List ℕ) → List ℕ → Option ℕ
number_of_firm firms name = position (λ firm. bytes_eq firm name) firms

-- the share that an entry of `lmm` gives
abbrev pub share_in : List (List ℕ) → Data → LmmShare
share_in firms entry = record { firm = unwrap_or (number_of_firm firms (text_at LmmFirm entry)) 0; percent = number_at LmmPercent entry }

-- the shares of the lead market makers, and none where there is no `lmm`
abbrev pub shares_in : List (List ℕ) → Data → List LmmShare
shares_in firms fields = map (share_in firms) (entries_at key.Lmm fields)

-- the limits of TOP: 1 and MOST_LOTS where the file gives none
abbrev pub top_in : Data → TopRule
top_in fields = record { min = number_or 1 TopMin fields; max = number_or MOST_LOTS TopMax fields }

-- the least part of PRORATA
abbrev pub least_in : Data → ℕ
least_in fields = number_or (usual_least (letter_in fields)) Least fields

-- the step that the file names, with what it takes
abbrev pub step_in : List (List ℕ) → Data → List ℕ → Step
step_in firms fields name =
    if bytes_eq name (codes "TOP") then Top (top_in fields)
    else (if bytes_eq name (codes "LMM") then Lmm (record { items = shares_in firms fields })
    else (if bytes_eq name (codes "SPLIT") then Split (number_at key.Split fields)
    else (if bytes_eq name (codes "PRORATA") then ProRata (least_in fields)
    else (if bytes_eq name (codes "LEVELING") then Leveling
    else Fifo))))

-- the steps of a letter: those that the file names for K, and for every other one its own list (which is this project's,
-- after the exchange's published outline)
abbrev pub steps_of_letter : Letter → List (List ℕ) → Data → List Step
steps_of_letter K firms fields = map (step_in firms fields) (texts_at Steps fields)
steps_of_letter letter firms fields = preset_steps letter (record { top = top_in fields; least = least_in fields; lmm = record { items = shares_in firms fields } })

-- the steps of an instrument
abbrev pub steps_in : List (List ℕ) → Data → List Step
steps_in firms fields = steps_of_letter (letter_in fields) firms fields

-- ---- instruments, and the product

-- the name and the decimals of an instrument
abbrev pub listed_in : Data → Listed
listed_in fields = record { name = text_at Name fields; decimals = number_at Decimals fields }

-- what an instrument's orders are held to
abbrev pub rule_in : List (List ℕ) → Data → InstrumentRule
rule_in firms fields = record { tick = pos (number_at Tick fields); protection = number_at Protection fields; letter = letter_in fields; steps = steps_in firms fields }

-- the product that a document without fault gives: the usual orders and the usual limit of the journal where it says nothing of them
abbrev pub product_in : Data → ProductLists
product_in document =
    let firms = texts_at Firms document in
    let instruments = entries_at Instrument document in
    record {
      names = record { exchange = text_at Exchange document; firms = firms; instruments = map listed_in instruments };
      max_orders = number_or USUAL_ORDERS MaxOrders document;
      journal_limit = number_or USUAL_JOURNAL JournalLimit document;
      rules = map (rule_in firms) instruments;
    }
