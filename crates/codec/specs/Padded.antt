-- The buffer of an instruction's bytes.
use Rattle.std.specs.Prelude.{ℕ, ◌-◌, List, ◌++◌, length, replicate}
use Rattle.codec.specs.declared.encode.Encoded.TheInside.{Inside}

-- these bytes, and zeros up to six
abbrev pub padded : List ℕ → Inside
padded xs = record { bytes = xs ++ replicate (6 - length xs) 0; count = length xs }
