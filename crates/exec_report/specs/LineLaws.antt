-- The lines of events, one after the other.
use Rattle.std.proofs.Common.{◌≡◌, ℕ, List, [], ◌∷◌, ◌++◌, fold, sym, ◌∙◌, append_assoc}
use Rattle.std.proofs.lemmas.List.{append-nil}
use Rattle.std.specs.List.{flat_map}
use Rattle.gx_base.specs.NameLists.{NameLists}
use Rattle.gx_base.specs.Line.{line_of}
use Rattle.exec_report.specs.ByteLog.{with_line}
use Rattle.gx_base.specs.declared.event.Event.{Event}

pub fold-with_line : (names : NameLists) (bytes : List ℕ) (events : List Event) → fold (with_line names) bytes events ≡ bytes ++ flat_map (line_of names) events
fold-with_line names bytes [] = sym (append-nil bytes)
fold-with_line names bytes (e ∷ events) =
    fold-with_line names (bytes ++ line_of names e) events ∙ append_assoc bytes (line_of names e) (flat_map (line_of names) events)
