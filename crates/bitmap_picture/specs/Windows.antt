-- A picture of 256 windows of 32 octets.
use Rattle.std.specs.Prelude.{ℕ, ◌*◌, ◌≤◌, ◌<◌, ◌≡◌, Bool, false, List, [], get_or, eqb}
use Rattle.format.specs.Octets.{among}
use Rattle.format.specs.Bitmap.{window_octets}

-- an octet in which no bit is set
abbrev pub zero_octet : ℕ → Bool
zero_octet x = eqb x 0

-- The picture holds exactly the types ts, none of which is in a window from `top` on.
pub record Holds (m : List (List ℕ)) (top : ℕ) (ts : List ℕ) : Type 0 where
  pub windows : (w : ℕ) → w < 256 → get_or m w [] ≡ window_octets ts w
  pub above : (t : ℕ) → top * 256 ≤ t → among t ts ≡ false
