-- The conversions between kinds 0 and 3: what one that gave bytes had asked, and that any image of which this holds is converted.
use Rattle.std.specs.Prelude.{Bool, not, List, ◌≡◌, ℕ}
use Rattle.rules.specs.declared.Geometry.{Geometry}
use Rattle.rules.specs.Image.{correction_back_of}
use Rattle.layouts.specs.Directions.{converted_to}
use Rattle.layouts.specs.Corrections.{layout_in}
use Rattle.layouts.specs.Kinds.{OpenIn}

-- What a conversion that gave bytes asked, and the bytes.
pub record Gave (written : Bool) (b : List ℕ) (room : ℕ) (x : List ℕ) : Type 0 where
  pub c : Geometry
  pub h : Geometry
  pub is_open : OpenIn (not written) b c h
  pub room_is : room ≡ correction_back_of c h
  pub bytes : converted_to written b (layout_in (not written) b c h) ≡ x
