-- A value that is read piece by piece, or stored after its count.
use Prim.Native.Nat.{ℕ, ◌+◌, ◌-◌, ◌≤◌, ◌<◌}
use mathlib.Core.Path.{◌≡◌, refl, sym, ap, ◌∙◌}
use mathlib.Core.List.{List, [], ◌∷◌, ◌++◌, append_assoc, append-nil}
use Rattle.std.specs.Prelude.{Option, None, Some}
use native.Mathlib.Omega.{arith}
use lib.ListN.{length, set}
use borrow.Author.Tests.{le-leb, lt-leb}
use Rattle.format.specs.Lists.{◌>>=◌}
use Rattle.format.specs.Text.{counted}
use Rattle.buffer.specs.Writing.{Wrote, Values}
use Rattle.buffer.proofs.Laws.{wrote_none, wrote_append, wrote_before}
pub use Rattle.buffer.specs.Writing.{after}

pub after_none : (o : Option (List ℕ)) → after [] o ≡ o
after_none None = refl
after_none (Some ys) = refl

pub after_after : (xs ys : List ℕ) (o : Option (List ℕ)) → after xs (after ys o) ≡ after (xs ++ ys) o
after_after xs ys None = refl
after_after xs ys (Some zs) = ap Some (sym (append_assoc xs ys zs))

-- A reader has stored the first octets of the value `all`, up to m, and `rest` is left to be read: all is those octets and the rest.
pub record Begun (o₀ o : List ℕ) (n m : ℕ) (all rest : Option (List ℕ)) : Type 0 where
  pub octets : List ℕ
  pub wrote : Wrote o₀ o n m octets
  pub same : all ≡ after octets rest

pub begun_none : (o : List ℕ) (n : ℕ) (v : Option (List ℕ)) → Begun o o n n v v
begun_none o n v = record { octets = []; wrote = wrote_none o n; same = sym (after_none v) }

pub begun_piece : {o₀ o o' : List ℕ} {n m r : ℕ} {all v : Option (List ℕ)} (piece : List ℕ) (w : Option (List ℕ)) → Begun o₀ o n m all v → Wrote o o' m r piece → v ≡ after piece w
    → Begun o₀ o' n r all w
begun_piece piece w b p e = record {
  octets = b.octets ++ piece;
  wrote = wrote_append b.wrote p;
  same = b.same ∙ ap (after b.octets) e ∙ after_after b.octets piece w;
}

-- the rest has no value, or is empty, or is read by a callee
pub begun_fault : {o₀ o : List ℕ} {n m : ℕ} {all v : Option (List ℕ)} → Begun o₀ o n m all v → v ≡ None → all ≡ None
begun_fault b e = b.same ∙ ap (after b.octets) e

pub begun_all : {o₀ o : List ℕ} {n m : ℕ} {all v : Option (List ℕ)} → Begun o₀ o n m all v → v ≡ Some [] → Values o₀ o n (Some m) all
begun_all b e = (b.octets, b.same ∙ ap (after b.octets) e ∙ ap Some (append-nil b.octets), b.wrote)

pub begun_rest : {o₀ o : List ℕ} {n m : ℕ} {all v : Option (List ℕ)} (o' : List ℕ) (r : Option ℕ) → Begun o₀ o n m all v → Values o o' m r v → Values o₀ o' n r all
begun_rest o' None b h = begun_fault b h
begun_rest o' (Some r) b (xs, e, w) = (b.octets ++ xs, b.same ∙ ap (after b.octets) e, wrote_append b.wrote w)

-- a value after its count, which must be lo to 255
module _ (lo : ℕ) (o o₁ : List ℕ) (n m : ℕ) (v : Option (List ℕ)) (h : Values o o₁ (n + 1) (Some m) v) where
  pub count_is : m ≡ n + 1 + length h.0
  count_is = h.2.count

  pub too_short : m - (n + 1) < lo → (v >>= counted lo) ≡ None
  too_short k = rw (h.1, lt-leb lo (length h.0) (omega (arith, count_is)))

  pub too_long : lo ≤ m - (n + 1) → 255 < m - (n + 1) → (v >>= counted lo) ≡ None
  too_long l k = rw (h.1, le-leb lo (length h.0) (omega (arith, count_is)), lt-leb (length h.0) 255 (omega (arith, count_is)))

  pub counted_value : (o₂ : List ℕ) → lo ≤ m - (n + 1) → m - (n + 1) ≤ 255 → o₂ ≡ set o₁ n (m - (n + 1)) → Values o o₂ n (Some m) (v >>= counted lo)
  counted_value o₂ j k p =
      let l : m - (n + 1) ≡ length h.0 = omega (arith, count_is) in
      (length h.0 ∷ h.0, rw (h.1, le-leb lo (length h.0) (omega arith), le-leb (length h.0) 255 (omega arith)), wrote_before o₂ (length h.0) h.2 (rw l at p))
