-- Laws of the writes of octets.
use Rattle.std.proofs.Common.{ℕ, ◌-◌, ◌<◌, ◌≡◌, refl, sym, ap, ◌∙◌, subst, List, [], ◌++◌, append_assoc, append-nil, length, length-append, take, drop, take-append-drop, arith}
use Rattle.std.proofs.Math.Seq.{take-append_seam}
use Rattle.std.proofs.lemmas.List.{take_rest}
use Rattle.std.specs.Prelude.{Option, false, Result, Ok, Err, is_ok, IsErr}
use Rattle.std.specs.Io.KnownBytes.{Appends, Keeps}
use Rattle.std.proofs.KnownBytes.{Appends-trans, Appends-nil, Appends-kept}
use Rattle.streams.specs.Writing.{Written}

-- the first octets were written, and `rest` is what is left of them
pub record Upto (before now : Option (List ℕ)) (xs rest : List ℕ) : Type 0 where
  pub front : List ℕ
  pub parts : xs ≡ front ++ rest
  pub octets : Appends before now front

pub upto_none : (a : Option (List ℕ)) (xs : List ℕ) → Upto a a xs xs
upto_none a xs = record { front = []; parts = refl; octets = Appends-nil a }

-- what was written so far and what a further write took of the rest are what both took
pub upto_more : {a b c : Option (List ℕ)} {xs rest : List ℕ} → Upto a b xs rest → (n : ℕ) → Appends b c (take n rest) → Upto a c xs (take (length rest - n) (drop n rest))
upto_more {a} {b} {c} {xs} {rest} u n p = record {
  front = u.front ++ take n rest;
  parts = u.parts ∙ ap (λ l. u.front ++ l) (sym (ap (λ l. take n rest ++ l) (take_rest rest n) ∙ take-append-drop n rest)) ∙ sym (append_assoc u.front (take n rest) (take (length rest - n) (drop n rest)));
  octets = Appends-trans a b c _ _ u.octets p;
}

-- a write that took none
pub upto_still : {a b c : Option (List ℕ)} {xs rest : List ℕ} → Upto a b xs rest → (n : ℕ) → n ≡ 0 → Appends b c (take n rest) → Upto a c xs rest
upto_still {a} {b} {c} u n z p = record {
  front = u.front;
  parts = u.parts;
  octets = let q : Appends a c (u.front ++ []) = Appends-trans a b c _ _ u.octets (rw z at p) in subst (Appends a c) (append-nil u.front) q;
}

-- or that failed
pub upto_kept : {a b : Option (List ℕ)} {xs rest : List ℕ} → Upto a b xs rest → (c : Option (List ℕ)) → Keeps b c → Upto a c xs rest
upto_kept {a} {b} u c k = record { front = u.front; parts = u.parts; octets = Appends-kept a b c u.front u.octets k }

-- octets are left
pub upto_part : {a b : Option (List ℕ)} {xs rest : List ℕ} → Upto a b xs rest → 0 < length rest → Written a b false xs
upto_part {a} {b} {xs} {rest} u h =
    let few : length u.front < length xs = omega (arith, length-append u.front rest, ap length u.parts) in
    let same : take (length u.front) xs ≡ u.front = ap (take (length u.front)) u.parts ∙ take-append_seam u.front rest in
    (length u.front, few, subst (Appends a b) (sym same) u.octets)

pub upto_failed : {A E : Type 0} {a b : Option (List ℕ)} {xs rest : List ℕ} → Upto a b xs rest → 0 < length rest → (r : Result A E) → IsErr r → Written a b (is_ok r) xs
upto_failed u h (Ok x) e = cc
upto_failed u h (Err x) e = upto_part u h
