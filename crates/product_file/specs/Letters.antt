-- The letters of algorithms and the names of steps in a product file. What each letter stands for, its steps and its
-- usual values are our own, after the exchange's published outline of its algorithms.
use Rattle.std.specs.Prelude.{ℕ, Bool, true, false, ◌||◌, if◌then◌else◌, List, codes, bytes_eq, Option, Some, None}
use Rattle.step_config.specs.declared.presets.Letter.{Letter}
use Rattle.step_config.specs.declared.presets.Letter.TheVariants.{F, C, A, T, O, Q, K}

-- the letter that a text is
abbrev pub letter_of : List ℕ → Option Letter
letter_of text =
    if bytes_eq text (codes "F") then Some F
    else (if bytes_eq text (codes "C") then Some C
    else (if bytes_eq text (codes "A") then Some A
    else (if bytes_eq text (codes "T") then Some T
    else (if bytes_eq text (codes "O") then Some O
    else (if bytes_eq text (codes "Q") then Some Q
    else (if bytes_eq text (codes "K") then Some K
    else None))))))

-- whether a letter stands for the list of steps that the file gives, and for none of its own
abbrev pub is_configurable : Letter → Bool
is_configurable K = true
is_configurable letter = false

-- the least part of a PRORATA step, in lots, where the file gives none
abbrev pub usual_least : Letter → ℕ
usual_least A = 2
usual_least letter = 1

-- the names of steps
abbrev pub is_step_name : List ℕ → Bool
is_step_name text =
    bytes_eq text (codes "TOP")
    || bytes_eq text (codes "LMM")
    || bytes_eq text (codes "SPLIT")
    || bytes_eq text (codes "PRORATA")
    || bytes_eq text (codes "LEVELING")
    || bytes_eq text (codes "FIFO")
