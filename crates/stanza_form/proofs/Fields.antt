-- A usable integer field: its symbols and its width.
use Prim.Native.Nat.{ℕ, ◌≤◌}
use mathlib.Core.Path.{◌≡◌, refl, sym}
use mathlib.Core.Bool.{Bool, true, false, ◌||◌, true≢false}
use mathlib.Core.List.{List, [], ◌∷◌}
use Rattle.std.specs.Prelude.{Some}
use native.Mathlib.Omega.{arith}
use lib.Dec.{eqb}
use borrow.Author.Tests.{eqb-true}
use Rattle.format.specs.Octets.{among}
use Rattle.format.specs.Field.{Symbol, int}
use Rattle.format.specs.Demands.{sound_kind}
use Rattle.format.proofs.Lists.{and_left}
use Rattle.stanza_form.specs.declared.Form.TheVariants.{Int}
use Rattle.stanza_form.specs.Forms.{symbols_in, or_none}
use Rattle.stanza_form.specs.declared.FieldDesc.{FieldDesc}
use Rattle.stanza_form.specs.Fields.{Usable}

-- the widths of integers
in_four : (w : ℕ) (a b c : Bool) → eqb w 1 ≡ a → eqb w 2 ≡ b → eqb w 4 ≡ c → a || (b || (c || false)) ≡ true → (1 ≤ w) × (w ≤ 4)
in_four w true b c p q r e = let z = eqb-true w 1 p in (omega arith, omega arith)
in_four w false true c p q r e = let z = eqb-true w 2 q in (omega arith, omega arith)
in_four w false false true p q r e = let z = eqb-true w 4 r in (omega arith, omega arith)
in_four w false false false p q r e = absurd (true≢false (sym e))

int_width : (w : ℕ) (l : List Symbol) → sound_kind (int w l) ≡ true → (1 ≤ w) × (w ≤ 4)
int_width w l h = in_four w (eqb w 1) (eqb w 2) (eqb w 4) refl refl refl (and_left (among w (1 ∷ 2 ∷ 4 ∷ [])) _ (and_left _ _ h))

module _ (s : List ℕ) (d : FieldDesc) (u : Usable s d) (w : ℕ) (g : d.form ≡ Int w) where
  -- an integer's symbols
  abbrev pub symbols_of : List Symbol
  symbols_of = or_none (symbols_in w s d.qualifiers_at d.qualifiers_end)

  pub symbols_of_lem : symbols_in w s d.qualifiers_at d.qualifiers_end ≡ Some symbols_of
  symbols_of_lem = u.placed.listed w symbols_of (rw g)

  pub int_four : w ≤ 4
  int_four = (int_width w symbols_of (rw g at u.sound)).1

  pub int_some : 1 ≤ w
  int_some = (int_width w symbols_of (rw g at u.sound)).0
