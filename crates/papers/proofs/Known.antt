-- The value that catalogues of CRCs give for the nine digits, here without the final inversion. Assumes nothing.
use Prim.Native.Nat.{◌-◌}
use mathlib.Core.Path.{◌≡◌, refl}
use Rattle.std.specs.Prelude.{codes}
use Rattle.papers.specs.Crc.{shifted, eight, crc, crc_of}

pub nine_digits : crc_of (codes "123456789") ≡ 0xFFFFFFFF - 0xCBF43926
unfolding shifted eight crc
nine_digits = refl
