-- Times by their bytes.
use Rattle.gx_base.specs.Texts.{part_of}
use Rattle.std.specs.Prelude.{ℕ, ◌+◌, ◌*◌, Bool, true, ◌&&◌, nat_le, List, [], ◌∷◌, take, slice_index, codes}

-- each byte is no less than the one of `lows` at its place, and no greater than that of `highs`
abbrev pub lies_within : List ℕ → List ℕ → List ℕ → Bool
lies_within [] lows highs = true
lies_within (c ∷ text) [] highs = true
lies_within (c ∷ text) (low ∷ lows) [] = true
lies_within (c ∷ text) (low ∷ lows) (high ∷ highs) = (nat_le low c && nat_le c high) && lies_within text lows highs

-- the first sixteen bytes: digits, and what stands between them
abbrev pub has_form : List ℕ → Bool
has_form text = lies_within (take 16 text) (codes "00000000-00:00:0") (codes "99991939-29:59:6")

-- two bytes as a number, which has the order of their texts
abbrev pub pair : List ℕ → ℕ
pair text = slice_index text 0 * 256 + slice_index text 1

abbrev pub is_between : List ℕ → List ℕ → List ℕ → Bool
is_between text low high = nat_le (pair low) (pair text) && nat_le (pair text) (pair high)

-- month, day, hour and second, if they are digits: the form leaves nothing to try of the minute
abbrev pub has_ranges : List ℕ → Bool
has_ranges text =
    is_between (part_of text 4 2) (codes "01") (codes "12")
    && is_between (part_of text 6 2) (codes "01") (codes "31")
    && is_between (part_of text 9 2) (codes "00") (codes "23")
    && is_between (part_of text 15 2) (codes "00") (codes "60")
