-- EUI48 and EUI64: read back, bounded, accepted.
use Prim.Native.Nat.{ℕ, ◌≤◌}
use mathlib.Core.Path.{refl}
use mathlib.Core.List.{List, map}
use native.Mathlib.Omega.{arith}
use Rattle.format.specs.Lists.{each_of}
use Rattle.format.specs.Octets.{split_on}
use Rattle.format.specs.Field.{eui}
use Rattle.format.specs.Digits.{digits, lower_digit}
use Rattle.format.specs.Hex.{hex_pair}
use Rattle.format.specs.Eui.{read_eui}
use Rattle.format.specs.Catalogue.{TypeName}
use Rattle.format.specs.Run.{shown, read_field}
use Rattle.format.proofs.Wire.{octets_taken}
use Rattle.format.proofs.Field.{Back, FieldLaws, width_accepted, pieces_bound, Separated, octets_separated, exactly_length, separated_back}

abbrev lower_pair : ℕ → List ℕ
lower_pair x = map lower_digit (digits 16 2 x)

hyphened : Separated 256 45 lower_pair hex_pair
hyphened = octets_separated 45 lower_pair hex_pair refl refl refl refl refl

pub eui_laws : (c : List TypeName) → (w : ℕ) → 1 ≤ w → FieldLaws c (eui w)
unfolding Back shown read_field
eui_laws c w n = record {
  back = λ o p b e r q t. separated_back w 45 lower_pair hex_pair hyphened n (read_eui w) (λ t. refl) p b (octets_taken w p n e) r q;
  bound = λ p b e. omega (arith, pieces_bound 2 45 lower_pair p (λ x. omega arith));
  accepted = λ o h ts us p e. width_accepted w n (read_eui w) (λ t p e. exactly_length w (each_of hex_pair (split_on 45 t)) p e) ts us p e;
}
