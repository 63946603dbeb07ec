-- Every kind has the laws of its room; so a run of them reads back, and what it reads is accepted.
use Prim.Native.Nat.{ℕ, zero, suc, ◌≤◌}
use mathlib.Core.Path.{◌≡◌, refl, sym, ap, ◌∙◌}
use mathlib.Core.Bool.{true, false, true≢false}
use mathlib.Core.List.{List, [], ◌∷◌, ◌++◌}
use native.Mathlib.Omega.{arith}
use lib.ListN.{length, take, drop, length-take, take-append-drop}
use Rattle.format.specs.Lists.{all_of, flat}
use Rattle.format.specs.Octets.{Octets, among}
use Rattle.format.specs.Wire.{took, taken}
use Rattle.format.specs.Field.{Kind, int, rrtype, bitmap, a4, aa, aaaa, name, str, strs, raw, b32, b64, hex, hexc, eui, time, start, tail}
use Rattle.format.specs.Token.{Token, tokens}
use Rattle.format.specs.Name.{is_wire_name}
use Rattle.format.specs.Catalogue.{TypeName}
use Rattle.format.specs.Run.{shown, Got, no_token, read_field, parts, parts_of, text_of_parts, read_run}
use Rattle.format.specs.Demands.{tails_last, sound_kind, sound_names}
use Rattle.format.proofs.Lists.{and_left, and_right, below_take, below_drop}
use Rattle.format.proofs.Wire.{fits, alone}
use Rattle.format.proofs.Field.{Back, FieldLaws}
use Rattle.format.proofs.Text.{str_laws, raw_laws, strs_laws}
use Rattle.format.proofs.Name.{name_laws}
use Rattle.format.proofs.Number.{int_laws}
use Rattle.format.proofs.Catalogue.{rrtype_laws}
use Rattle.format.proofs.Base.{b64_laws, b32_laws}
use Rattle.format.proofs.Bitmap.{bitmap_laws}
use Rattle.format.proofs.Hex.{hex_laws, hexc_laws}
use Rattle.format.proofs.Eui.{eui_laws}
use Rattle.format.proofs.Address.{a4_laws, aa_laws, aaaa_laws}
use Rattle.format.proofs.Time.{time_laws}
use Rattle.format.proofs.Run.{First, took_first, first, empty, Backs, run_back, run_accepted}

eui_width : (w : ℕ) → among w (6 ∷ 8 ∷ []) ≡ true → 1 ≤ w
eui_width zero h = absurd (true≢false (sym h))
eui_width (suc w) h = omega arith

pub field_laws : (c : List TypeName) → sound_names c ≡ true → (k : Kind) → sound_kind k ≡ true → FieldLaws c k
field_laws c g (int w l) h = int_laws w l h c
field_laws c g rrtype h = rrtype_laws c g
field_laws c g bitmap h = bitmap_laws c g
field_laws c g a4 h = a4_laws c
field_laws c g aa h = aa_laws c
field_laws c g aaaa h = aaaa_laws c
field_laws c g (name m) h = name_laws c m
field_laws c g str h = str_laws c
field_laws c g strs h = strs_laws c
field_laws c g raw h = raw_laws c
field_laws c g b32 h = b32_laws c
field_laws c g b64 h = b64_laws c
field_laws c g hex h = hex_laws c
field_laws c g hexc h = hexc_laws c
field_laws c g (eui w) h = eui_laws c w (eui_width w h)
field_laws c g time h = time_laws c

-- a field that is no tail needs a token
needs_token : (c : List TypeName) (o : List ℕ) (k : Kind) → tail k ≡ false → read_field c k o [] ≡ no_token
unfolding read_field
needs_token c o (int w l) h = refl
needs_token c o rrtype h = refl
needs_token c o bitmap h = cc
needs_token c o a4 h = refl
needs_token c o aa h = refl
needs_token c o aaaa h = refl
needs_token c o (name m) h = rw h
needs_token c o str h = refl
needs_token c o strs h = refl
needs_token c o raw h = refl
needs_token c o b32 h = refl
needs_token c o b64 h = refl
needs_token c o hex h = refl
needs_token c o hexc h = refl
needs_token c o (eui w) h = refl
needs_token c o time h = refl

-- the octets that a field takes, taken alone
pub taken_alone : (k : Kind) (xs : List ℕ) (n : ℕ) → taken (start k) xs ≡ took n → taken (start k) (take n xs) ≡ took (length (take n xs))
taken_alone k xs n t =
    let m : n ≤ length xs = fits (start k) xs n t in
    let l : length (take n xs) ≡ n = length-take n xs ∙ omega arith in
    rw l (alone (start k) xs n t)

module _ (c : List TypeName) (sound : sound_names c ≡ true) (o : List ℕ) where
  abbrev read_here : Kind → List Token → Got
  read_here k ts = read_field c k o ts

  fields_back : (ks : List Kind) (xs : List ℕ) (ps : List (List ℕ)) → all_of sound_kind ks ≡ true → Octets xs → parts_of ks xs ≡ parts ps → Backs (shown c) read_here ks ps × (flat ps ≡ xs)
  unfolding Back
  fields_back [] xs ps g b e = let (f, h) = empty xs ps e in rw (f, h) (tt, refl)
  fields_back (k ∷ ks) xs ps g b e = by (first k ks xs ps e) (λ ys qs. fields_back ks ys qs (and_right (sound_kind k) (all_of sound_kind ks) g))
    where
      by : First k ks xs ps → ((ys : List ℕ) (qs : List (List ℕ)) → Octets ys → parts_of ks ys ≡ parts qs → Backs (shown c) read_here ks qs × (flat qs ≡ ys)) → Backs (shown c) read_here (k ∷ ks) ps × (flat ps ≡ xs)
      by (took_first n qs t f w) ih =
          let r = ih (drop n xs) qs (below_drop 256 n xs b) f in
          let l = (field_laws c sound k (and_left (sound_kind k) (all_of sound_kind ks) g)).back o (take n xs) (below_take 256 n xs b) (taken_alone k xs n t) in
          rw w ((l, r.0), ap (λ t. take n xs ++ t) r.1 ∙ take-append-drop n xs)

  -- what accepted octets print reads back to their fields, and the fields joined are the octets
  pub round_trip : (ks : List Kind) → tails_last ks ≡ true → all_of sound_kind ks ≡ true → (xs : List ℕ) → Octets xs → (ps : List (List ℕ)) → parts_of ks xs ≡ parts ps
      → (read_run (λ k ts. read_field c k o ts) ks (tokens (text_of_parts (shown c) ks ps)) ≡ parts ps) × (flat ps ≡ xs)
  round_trip ks h g xs b ps e = let r = fields_back ks xs ps g b e in (run_back (shown c) read_here (needs_token c o) ks ps h r.0, r.1)

  -- what is read is accepted
  pub reads_accepted : is_wire_name o ≡ true → (ks : List Kind) (ts : List Token) (ps : List (List ℕ)) → tails_last ks ≡ true → all_of sound_kind ks ≡ true
      → read_run (λ k ts. read_field c k o ts) ks ts ≡ parts ps → parts_of ks (flat ps) ≡ parts ps
  reads_accepted w ks ts ps h g e = run_accepted read_here sound_kind (λ k s. (field_laws c sound k s).accepted o w) ks ts ps h g e
