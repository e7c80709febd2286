-- The front that stands at a name's number is that of the name.
use Rattle.std.proofs.Common.{◌≡◌, ℕ, ◌<◌, List, length, get_or, map, refl, sym, ap, ◌∙◌, codes}
use Rattle.std.specs.Prelude.{slice_get, unwrap_or, option_map}
use Rattle.std.proofs.lemmas.List.{get_or-map}
use Rattle.std.proofs.lemmas.Option.{slice_get-get_or, unwrap_or-slice_get}
use Rattle.gx_base.specs.Fronts.{firm_front, instrument_front, side_front, side_fronts}
use Rattle.gx_base.specs.Line.{firm_name, instrument_name}
use Rattle.gx_base.specs.NameLists.{NameLists}
use Rattle.gx_base.specs.declared.names.Listed.{Listed}
use Rattle.gx_base.specs.declared.order.Side.{Side}
use Rattle.gx_base.specs.declared.order.Side.TheVariants.{Buy, Sell}
use Rattle.gx_base.specs.declared.fronts.SideFronts.{SideFronts}

made_of : {X Y : Type 0} (make : X → Y) (made : List Y) (names : List X) (i : ℕ) (given : Y) (other : X) → made ≡ map make names → i < length names → given ≡ get_or made i given → given ≡ make (get_or names i other)
made_of make made names i given other same below is =
    is ∙ ap (λ ys. get_or ys i given) same ∙ get_or-map make names i other given below

pub firm_front_of : (names : NameLists) (fronts : List (List ℕ)) (i : ℕ) (given : List ℕ) → fronts ≡ map firm_front names.firms → i < length names.firms → given ≡ get_or fronts i given → given ≡ firm_front (firm_name names i)
firm_front_of names fronts i given same below is =
    made_of firm_front fronts names.firms i given (codes "UNKNOWN") same below is
    ∙ ap firm_front (sym (unwrap_or-slice_get names.firms i (codes "UNKNOWN")))

front_of_side : (listed : Listed) (side : Side) → side_front (side_fronts listed) side ≡ instrument_front listed.name side
front_of_side listed Buy = refl
front_of_side listed Sell = refl

pub side_front_of : (names : NameLists) (fronts : List SideFronts) (i : ℕ) (side : Side) (given : SideFronts) (text : List ℕ) → fronts ≡ map side_fronts names.instruments → i < length names.instruments → given ≡ get_or fronts i given → text ≡ side_front given side → text ≡ instrument_front (instrument_name names i) side
side_front_of names fronts i side given text same below is text-is =
    let unknown : Listed = record { name = codes "UNKNOWN"; decimals = 0 } in
    let listed : Listed = get_or names.instruments i unknown in
    text-is
    ∙ ap (λ (made : SideFronts). side_front made side) (made_of side_fronts fronts names.instruments i given unknown same below is)
    ∙ front_of_side listed side
    ∙ sym (ap (λ found. instrument_front (unwrap_or (option_map (λ (l : Listed). l.name) found) (codes "UNKNOWN")) side) (slice_get-get_or names.instruments i unknown below))
