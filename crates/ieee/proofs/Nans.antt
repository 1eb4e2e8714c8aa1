-- What `is_nan` holds of is the one NaN. Assumes nothing.
use Rattle.std.proofs.Common.{◌≡◌, true, refl}
use lib.Ieee.{Float, nan, inf, fin, is_nan}

pub is_nan_lem : (v : Float) → is_nan v ≡ true → v ≡ nan
unfolding is_nan
is_nan_lem nan e = refl
is_nan_lem (inf s) e = cc
is_nan_lem (fin s m d) e = cc
