-- The names of qualifiers, stored one by one as parts.
use Prim.Native.Nat.{ℕ, ◌+◌, ◌≤◌, ◌<◌}
use mathlib.Core.Path.{◌≡◌, sym, ◌∙◌}
use mathlib.Core.List.{List, [], ◌∷◌, ◌++◌, map, map-append, append-nil}
use native.Mathlib.Numerals.{add-one}
use lib.ListN.{length, take, set}
use lib.Seq.{slice, take-suc-set, append_snoc}
use Rattle.format.specs.Octets.{name_octet}
use Rattle.octets.specs.Octets.{part_in, front_end}
use Rattle.parts.specs.Parts.{part_of}
use Rattle.stanza_words.specs.Qualifiers.{pieces_in, name_in}
use Rattle.stanza_words.proofs.Laws.{not_comma, last_piece, next_piece, name_in_lem}

-- the first n parts of two lists and the names from i on are the names from a on
pub record Naming (s : List ℕ) (a b : ℕ) (list other : List ℕ) (n i : ℕ) : Type 0 where
  pub names : map (part_of s) (take n list) ++ map name_in (pieces_in s i b) ≡ map name_in (pieces_in s a b)
  pub same : take n other ≡ take n list

stored : (xs : List ℕ) (n k : ℕ) → n < length xs → take (n + 1) (set xs n k) ≡ take n xs ++ k ∷ []
stored xs n k h = rw add-one (take-suc-set xs n k h)

module _ (s : List ℕ) (a b i z e : ℕ) (h : i ≤ b) (l : b ≤ length s) (q : z ≡ front_end not_comma s i b) (d : e ≡ front_end name_octet s i z)
    (list other : List ℕ) (n k : ℕ) (f : n < length list) (g : n < length other) (o : (t : List ℕ) → part_of t k ≡ slice i e t) (m : Naming s a b list other n i) where
  name_is : name_in (part_in s i z) ≡ part_of s k
  name_is = name_in_lem s i b z h l q e d ∙ sym (o s)

  one_more : (ps : List (List ℕ)) → map (part_of s) (take (n + 1) (set list n k)) ++ ps ≡ map (part_of s) (take n list) ++ (part_of s k ∷ ps)
  one_more ps = rw (stored list n k f, map-append (part_of s) (take n list) (k ∷ [])) (append_snoc (map (part_of s) (take n list)) (part_of s k) ps)

  both_same : take (n + 1) (set other n k) ≡ take (n + 1) (set list n k)
  both_same = rw (stored other n k g, stored list n k f, m.same)

  pub names_next : (z ≡ b → ⊥) → Naming s a b (set list n k) (set other n k) (n + 1) (z + 1)
  names_next u = record {
    names = one_more (map name_in (pieces_in s (z + 1) b)) ∙ (rw (next_piece s i b z h l q u, name_is) at m.names);
    same = both_same;
  }

  pub names_last : z ≡ b → (map (part_of s) (take (n + 1) (set list n k)) ≡ map name_in (pieces_in s a b)) × (take (n + 1) (set other n k) ≡ take (n + 1) (set list n k))
  names_last u = (
    sym (append-nil (map (part_of s) (take (n + 1) (set list n k)))) ∙ one_more [] ∙ (rw (last_piece s i b z h l q u, name_is) at m.names),
    both_same,
  )
