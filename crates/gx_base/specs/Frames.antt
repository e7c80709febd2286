-- The frame round a body: begin string, body length and checksum (FIX 4.2).
use Rattle.std.specs.Prelude.{ℕ, ◌%◌, List, [], ◌∷◌, ◌++◌, sum, codes}
use Prim.Native.String.{String}
use Rattle.gx_base.specs.Numbers.{fixed_digits}
use Rattle.gx_base.specs.declared.limits.TheConstants.{SOH}

-- the byte that ends a field
abbrev pub soh : ℕ
soh = SOH

-- a field: its tag, `=`, its value, and SOH
abbrev pub field : String → List ℕ → List ℕ
field tag value = codes tag ++ 61 ∷ value ++ soh ∷ []

-- what stands before a body whose length is written so
abbrev pub head_of : List ℕ → List ℕ
head_of length_text = field "8" (codes "FIX.4.2") ++ field "9" length_text

-- the sum of the bytes modulo 256 (FIX 4.2)
abbrev pub checksum_of : List ℕ → ℕ
checksum_of bytes = sum bytes % 256

-- the trailer with this checksum, in three digits (FIX 4.2)
abbrev pub trailer_with : ℕ → List ℕ
trailer_with checksum = field "10" (fixed_digits 3 checksum)

-- the trailer of these bytes
abbrev pub trailer_of : List ℕ → List ℕ
trailer_of bytes = trailer_with (checksum_of bytes)

-- the frame of a body, with this text as its length
abbrev pub frame_of : List ℕ → List ℕ → List ℕ
frame_of length_text body = let front = head_of length_text ++ body in front ++ trailer_of front
