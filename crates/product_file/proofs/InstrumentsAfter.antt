-- One table further in the instruments of a document.
use Rattle.std.proofs.Common.{◌≡◌, ℕ, ◌+◌, ◌<◌, List, [], ◌∷◌, ◌++◌, length, get_or, map, drop, Ok, Err, refl, ap, ◌∙◌}
use Rattle.gx_base.specs.declared.names.Listed.{Listed}
use Rattle.toml.specs.Data.{Data}
use Rattle.toml.specs.View.{view}
use Rattle.toml.specs.declared.value.Value.{Value}
use Rattle.product_file.specs.declared.product.InstrumentRule.{InstrumentRule}
use Rattle.product_file.specs.declared.faults.ProductFault.{ProductFault}
use Rattle.product_file.specs.Inner.Instruments.{listed_of, rule_of, InstrumentLists, instruments_after, tables_of, instruments_of}
use Rattle.product_file.proofs.Mapped.{drop-mapped}

abbrev pub no_instruments : InstrumentLists
no_instruments = record { listed = []; rules = [] }

from_tables : (firms : List (List ℕ)) (document : Data) (tables : List Data) → Ok tables ≡ tables_of document → instruments_of firms document ≡ instruments_after firms no_instruments tables
unfolding instruments_of
from_tables firms document tables found = rw (← found) refl

with_next : (firms : List (List ℕ)) (earlier : InstrumentLists) (fields : Data) (rest : List Data) (listed : Listed) (rule : InstrumentRule) → Ok listed ≡ listed_of earlier.listed fields → Ok rule ≡ rule_of firms fields
    → instruments_after firms earlier (fields ∷ rest) ≡ instruments_after firms (record { listed = earlier.listed ++ listed ∷ []; rules = earlier.rules ++ rule ∷ [] }) rest
with_next firms earlier fields rest listed rule e f = rw (← e, ← f) refl

without_name : (firms : List (List ℕ)) (earlier : InstrumentLists) (fields : Data) (rest : List Data) (fault : ProductFault) → Err fault ≡ listed_of earlier.listed fields → instruments_after firms earlier (fields ∷ rest) ≡ Err fault
without_name firms earlier fields rest fault e = rw (← e) refl

without_rule : (firms : List (List ℕ)) (earlier : InstrumentLists) (fields : Data) (rest : List Data) (listed : Listed) (fault : ProductFault) → Ok listed ≡ listed_of earlier.listed fields → Err fault ≡ rule_of firms fields → instruments_after firms earlier (fields ∷ rest) ≡ Err fault
without_rule firms earlier fields rest listed fault e f = rw (← e, ← f) refl

-- the tables before the i-th gave the earlier instruments
module _ (firms : List (List ℕ)) (tables : List Value) (earlier : InstrumentLists) (i : ℕ) (table : Value) (within : i < length tables) (is : table ≡ get_or tables i table)
    (so_far : instruments_after firms no_instruments (map view tables) ≡ instruments_after firms earlier (drop i (map view tables))) where
  here : instruments_after firms no_instruments (map view tables) ≡ instruments_after firms earlier (view table ∷ drop (i + 1) (map view tables))
  here = so_far ∙ ap (instruments_after firms earlier) (drop-mapped view tables i table within is)

  pub next_instrument : (listed : Listed) (rule : InstrumentRule) → Ok listed ≡ listed_of earlier.listed (view table) → Ok rule ≡ rule_of firms (view table)
      → instruments_after firms no_instruments (map view tables) ≡ instruments_after firms (record { listed = earlier.listed ++ listed ∷ []; rules = earlier.rules ++ rule ∷ [] }) (drop (i + 1) (map view tables))
  next_instrument listed rule e f = here ∙ with_next firms earlier (view table) (drop (i + 1) (map view tables)) listed rule e f

  pub no_listed : (document : Data) (fault : ProductFault) → Ok (map view tables) ≡ tables_of document → Err fault ≡ listed_of earlier.listed (view table) → instruments_of firms document ≡ Err fault
  no_listed document fault found e = from_tables firms document (map view tables) found ∙ here ∙ without_name firms earlier (view table) (drop (i + 1) (map view tables)) fault e

  pub no_rule : (document : Data) (listed : Listed) (fault : ProductFault) → Ok (map view tables) ≡ tables_of document → Ok listed ≡ listed_of earlier.listed (view table) → Err fault ≡ rule_of firms (view table) → instruments_of firms document ≡ Err fault
  no_rule document listed fault found e f = from_tables firms document (map view tables) found ∙ here ∙ without_rule firms earlier (view table) (drop (i + 1) (map view tables)) listed fault e f
