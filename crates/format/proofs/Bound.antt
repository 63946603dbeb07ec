-- The printed text of accepted RDATA is at most 1,048,576 octets.
use Prim.Native.Nat.{ℕ, ◌+◌, ◌*◌, ◌≤◌}
use mathlib.Core.Path.{◌≡◌, refl, sym, ◌∙◌}
use mathlib.Core.Bool.{Bool, true, false, cond, true≢false}
use mathlib.Core.List.{List, [], ◌∷◌}
use native.Mathlib.Omega.{arith}
use lib.ListN.{length, take, drop, length-append, length-take, length-drop}
use Rattle.format.specs.Lists.{any_of, all_of}
use Rattle.format.specs.Octets.{Octets}
use Rattle.format.specs.Field.{Kind, int, rrtype, bitmap, a4, aa, aaaa, name, str, strs, raw, b32, b64, hex, hexc, eui, time, start, tail}
use Rattle.format.specs.Catalogue.{TypeName}
use Rattle.format.specs.Run.{shown, parts, parts_of, max_rdata, joined, text_of_parts}
use Rattle.format.specs.Entries.{max_text}
use Rattle.format.specs.Demands.{tails_last, sound_kind, sound_names}
use Rattle.format.proofs.Lists.{and_left, and_right, or_left, or_right, below_take, below_drop}
use Rattle.format.proofs.Wire.{fits}
use Rattle.format.proofs.Field.{is_bitmap, cap}
use Rattle.format.proofs.Run.{First, took_first, first, no_tail}
use Rattle.format.proofs.Fields.{field_laws, taken_alone}

joined_bound : (s t : List ℕ) → length (joined s t) ≤ length s + 1 + length t
joined_bound [] t = omega arith
joined_bound (x ∷ s) [] = omega arith
joined_bound (x ∷ s) (y ∷ t) = omega (arith, length-append (x ∷ s) (32 ∷ y ∷ t))

abbrev caps : List Kind → ℕ
caps [] = 0
caps (k ∷ ks) = cap k + 1 + caps ks

run_bound : (c : List TypeName) → sound_names c ≡ true → (ks : List Kind) (xs : List ℕ) (ps : List (List ℕ)) → all_of sound_kind ks ≡ true → Octets xs → parts_of ks xs ≡ parts ps → length (text_of_parts (shown c) ks ps) ≤ 4 * length xs + caps ks
unfolding text_of_parts
run_bound c sound [] xs ps g b e = omega arith
run_bound c sound (k ∷ ks) xs ps g b e = by (first k ks xs ps e) (λ ys qs. run_bound c sound ks ys qs (and_right (sound_kind k) (all_of sound_kind ks) g))
  where
    by : First k ks xs ps → ((ys : List ℕ) (qs : List (List ℕ)) → Octets ys → parts_of ks ys ≡ parts qs → length (text_of_parts (shown c) ks qs) ≤ 4 * length ys + caps ks)
        → length (text_of_parts (shown c) (k ∷ ks) ps) ≤ 4 * length xs + (cap k + 1 + caps ks)
    by (took_first n qs t f w) ih =
        let m : n ≤ length xs = fits (start k) xs n t in
        let l : length (take n xs) ≡ n = length-take n xs ∙ omega arith in
        let l2 = (field_laws c sound k (and_left (sound_kind k) (all_of sound_kind ks) g)).bound (take n xs) (below_take 256 n xs b) (taken_alone k xs n t) in
        let d = ih (drop n xs) qs (below_drop 256 n xs b) f in
        rw w (omega (arith, joined_bound (shown c k (take n xs)) (text_of_parts (shown c) ks qs), length-drop n xs))

pub cap_most : (k : Kind) → cap k ≤ 687679
cap_most k = by (is_bitmap k)
  where
    by : (b : Bool) → cond b 687679 63 ≤ 687679
    by true = omega arith
    by false = omega arith

-- only a tail is R[L]
pub tail_bitmap : (k : Kind) → is_bitmap k ≡ true → tail k ≡ true
tail_bitmap bitmap h = refl
tail_bitmap (int w l) h = absurd (true≢false (sym h))
tail_bitmap rrtype h = absurd (true≢false (sym h))
tail_bitmap a4 h = absurd (true≢false (sym h))
tail_bitmap aa h = absurd (true≢false (sym h))
tail_bitmap aaaa h = absurd (true≢false (sym h))
tail_bitmap (name m) h = absurd (true≢false (sym h))
tail_bitmap str h = absurd (true≢false (sym h))
tail_bitmap strs h = refl
tail_bitmap raw h = refl
tail_bitmap b32 h = absurd (true≢false (sym h))
tail_bitmap b64 h = refl
tail_bitmap hex h = refl
tail_bitmap hexc h = absurd (true≢false (sym h))
tail_bitmap (eui w) h = absurd (true≢false (sym h))
tail_bitmap time h = absurd (true≢false (sym h))

plain_cap : (k : Kind) → tail k ≡ false → cap k ≡ 63
plain_cap k h = by (is_bitmap k) refl
  where
    by : (b : Bool) → is_bitmap k ≡ b → ◌≡◌ {A = ℕ} (cond b 687679 63) 63
    by true e = absurd (true≢false (sym (tail_bitmap k e) ∙ h))
    by false e = refl

caps_bound : (ks : List Kind) → tails_last ks ≡ true → caps ks ≤ 64 * length ks + 687616
caps_bound [] h = omega arith
caps_bound (k ∷ []) h = omega (arith, cap_most k)
caps_bound (k ∷ l ∷ ks) h = let (f, g) = no_tail k l ks h in omega (arith, plain_cap k f, caps_bound (l ∷ ks) g)

-- and where none is R[L] at most four for each octet and 64 for each field
caps_plain : (ks : List Kind) → any_of is_bitmap ks ≡ false → caps ks ≡ 64 * length ks
caps_plain [] h = omega arith
caps_plain (k ∷ ks) h = rw (or_left (is_bitmap k) (any_of is_bitmap ks) h) (omega (arith, caps_plain ks (or_right (is_bitmap k) (any_of is_bitmap ks) h)))

pub plain_within : (c : List TypeName) → sound_names c ≡ true → (ks : List Kind) → any_of is_bitmap ks ≡ false → all_of sound_kind ks ≡ true → (xs : List ℕ) → Octets xs → (ps : List (List ℕ)) → parts_of ks xs ≡ parts ps
    → length (text_of_parts (shown c) ks ps) ≤ 4 * length xs + 64 * length ks
plain_within c sound ks h g xs b ps e = omega (arith, run_bound c sound ks xs ps g b e, caps_plain ks h)

pub text_within : (c : List TypeName) → sound_names c ≡ true → (ks : List Kind) → tails_last ks ≡ true → all_of sound_kind ks ≡ true → length ks ≤ 64 → (xs : List ℕ) → Octets xs → length xs ≤ max_rdata → (ps : List (List ℕ)) → parts_of ks xs ≡ parts ps
    → length (text_of_parts (shown c) ks ps) ≤ max_text
text_within c sound ks h g n xs b l ps e = omega (arith, run_bound c sound ks xs ps g b e, caps_bound ks h)
