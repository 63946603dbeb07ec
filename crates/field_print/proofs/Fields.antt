-- The octets that a field takes, by its kind.
use Prim.Native.Nat.{ℕ, zero, suc, ◌≤◌}
use mathlib.Core.Path.{◌≡◌, sym, ◌∙◌}
use mathlib.Core.Bool.{Bool, true, false, true≢false}
use mathlib.Core.List.{List, [], ◌∷◌}
use native.Mathlib.Omega.{arith}
use lib.ListN.{length}
use Rattle.std.specs.Prelude.{Result, Ok, Err}
use Rattle.std.specs.Result.{result_unwrap_or}
use Rattle.format.specs.Wire.{Taken, short, bad, count, label_length, took, taken}
use Rattle.buffer.specs.declared.lack.Lack.{Lack}
use Rattle.buffer.specs.declared.lack.Lack.TheVariants.{Missing, Fault}
use Rattle.field_wire.specs.Wire.{taken_in}
use Rattle.format.specs.Field.{start}
use Rattle.format.proofs.Wire.{at_end_lem, octets_taken}
use Rattle.stanza_form.specs.declared.Form.TheVariants.{Int}
use Rattle.stanza_form.specs.declared.FieldDesc.{FieldDesc}
use Rattle.stanza_form.specs.Fields.{kind_for, Usable}
use Rattle.stanza_form.proofs.Fields.{int_some}

-- a count comes first
pub counted_some : (p : List ℕ) (lo : ℕ) → taken (count lo) p ≡ took (length p) → 1 ≤ length p
counted_some [] lo t = absurd (true≢false (sym (at_end_lem (count lo) 0 t).0))
counted_some (x ∷ p) lo t = omega arith

-- a name, whether it may be missing or not
pub name_anyhow : (b : Bool) (xs : List ℕ) (n : ℕ) → taken (label_length b 0) xs ≡ took n → taken (label_length true 0) xs ≡ took n
unfolding taken
name_anyhow true xs n t = t
name_anyhow false [] n t = absurd (true≢false (sym (at_end_lem (label_length false 0) n t).0))
name_anyhow false (x ∷ xs) n t = by x t
  where
    by : (y : ℕ) → taken (label_length false 0) (y ∷ xs) ≡ took n → taken (label_length true 0) (y ∷ xs) ≡ took n
    by zero e = e
    by (suc y) e = e

-- the octets of an integer
pub int_wide : (s : List ℕ) (d : FieldDesc) (u : Usable s d) (w : ℕ) (g : d.form ≡ Int w) (p : List ℕ) → taken (start (kind_for s d)) p ≡ took (length p) → length p ≡ w
int_wide s d u w g p t = octets_taken w p (int_some s d u w g) (rw g at t)

-- the octets that a field takes, if it takes some
pub taken_or_none : (r : Result ℕ Lack) (w n : ℕ) → n ≡ result_unwrap_or r 0 → {t : Taken} → taken_in r ≡ t → t ≡ took w → n ≡ w
taken_or_none (Ok m) w n e p q = let z : took m ≡ took w = p ∙ q in cc
taken_or_none (Err Missing) w n e p q = let z : short ≡ took w = p ∙ q in cc
taken_or_none (Err Fault) w n e p q = let z : bad ≡ took w = p ∙ q in cc
