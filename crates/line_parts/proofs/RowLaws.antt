-- Fields in a row.
use Rattle.std.proofs.Common.{◌≡◌, ℕ, ◌+◌, ◌-◌, ◌≤◌, List, [], ◌∷◌, ◌++◌, length, take, drop, sym, ap, ◌∙◌, length-append, append_assoc, arith}
use Rattle.std.proofs.lemmas.List.{length-take-le, take_all, take-append-drop}
use Rattle.line_parts.specs.declared.fields.TheConstants.{GAP}
use Rattle.gx_base.specs.Frames.{soh}
use Rattle.line_parts.specs.Rows.{ended}

-- the byte that ends a field is written
pub ended_is : (old new : List ℕ) (at end : ℕ) → take end new ≡ take at old ++ soh ∷ [] → take end new ≡ ended at old
unfolding ended
ended_is old new at end is = is

front_parts : (front : List ℕ) → take 1 front ≡ soh ∷ [] → front ≡ soh ∷ drop 1 front
front_parts front begins = sym (take-append-drop 1 front) ∙ ap (λ (l : List ℕ). l ++ drop 1 front) begins

-- the byte that ends a field and what is written after it
pub ended_before : (old front : List ℕ) (at : ℕ) → take 1 front ≡ soh ∷ [] → take at old ++ front ≡ ended at old ++ drop 1 front
unfolding ended
ended_before old front at begins = ap (λ (l : List ℕ). take at old ++ l) (front_parts front begins) ∙ sym (append_assoc (take at old) (soh ∷ []) (drop 1 front))

-- a constant text is ended with the next field
pub text_ended : (old new front : List ℕ) (at last : ℕ) → take 1 front ≡ soh ∷ [] → take last new ≡ take at old ++ front → ended last new ≡ ended at old ++ (drop 1 front ++ soh ∷ [])
unfolding ended
text_ended old new front at last begins written =
    ap (λ (l : List ℕ). l ++ soh ∷ []) (written ∙ ended_before old front at begins) ∙ append_assoc (ended at old) (drop 1 front) (soh ∷ [])

-- a value that is written after its front is ended with the next field
pub field_ended : (old mid new front value : List ℕ) (at end last : ℕ) → take 1 front ≡ soh ∷ [] → take end mid ≡ take at old ++ front → take last new ≡ take end mid ++ value
    → ended last new ≡ ended at old ++ (drop 1 front ++ value ++ soh ∷ [])
unfolding ended
field_ended old mid new front value at end last begins fronted valued =
    ap (λ (l : List ℕ). l ++ soh ∷ [])
    (valued ∙ ap (λ (l : List ℕ). l ++ value) (fronted ∙ ended_before old front at begins) ∙ append_assoc (ended at old) (drop 1 front) value)
    ∙ append_assoc (ended at old) (drop 1 front ++ value) (soh ∷ [])

-- a value that is written after its tag is ended with the next field
pub value_ended : (old new value : List ℕ) (at last : ℕ) → take last new ≡ take at old ++ value → ended last new ≡ take at old ++ (value ++ soh ∷ [])
unfolding ended
value_ended old new value at last written = ap (λ (l : List ℕ). l ++ soh ∷ []) written ∙ append_assoc (take at old) value (soh ∷ [])

-- the first bytes, of which the last ends a field
pub ended_length : (old : List ℕ) (at : ℕ) → at ≤ length old → length (ended at old) ≡ at + 1
unfolding ended
ended_length old at fits = omega (arith, length-append (take at old) (soh ∷ []), length-take-le at old fits)

-- what is written after the byte that ends the head
pub after_gap : (old new body : List ℕ) (end : ℕ) → GAP ≤ length old → take end new ≡ ended (GAP - 1) old ++ body → take end new ≡ take GAP (ended (GAP - 1) old) ++ body
after_gap old new body end room is =
    is ∙ ap (λ (l : List ℕ). l ++ body) (sym (take_all GAP (ended (GAP - 1) old) (omega (arith, ended_length old (GAP - 1) (omega arith)))))
