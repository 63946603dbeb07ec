-- S[M]: one string after another.
use Prim.Native.Nat.{ℕ, suc, ◌≤◌, ◌<◌}
use mathlib.Core.Path.{◌≡◌, refl, sym, ap, subst, ◌∙◌}
use mathlib.Core.Bool.{false, cond}
use mathlib.Core.List.{List, [], ◌∷◌}
use Rattle.std.specs.Prelude.{Option, None, Some}
use native.Mathlib.Omega.{arith}
use native.Mathlib.Decide.{dec_le}
use lib.ListN.{length}
use lib.Dec.{leb}
use borrow.Author.Tests.{leb-true}
use Rattle.format.specs.Lists.{◌>>=◌, cons_both, each_of, null, flat}
use Rattle.format.specs.Octets.{in_range}
use Rattle.format.specs.Field.{strs}
use Rattle.format.specs.Token.{Token}
use Rattle.format.specs.Text.{with_count, counted, string_value, read_string}
use Rattle.format.specs.Catalogue.{TypeName}
use Rattle.format.specs.Run.{no_token, bad_token, got, got_or, one_token, read_field}
use Rattle.format.proofs.Lists.{bind_some, provided_some, and_right}
use Rattle.buffer.specs.Writing.{Wrote}
use Rattle.buffer.proofs.Values.{after, Begun, begun_none, begun_piece, begun_fault, begun_all}

-- the octets of all the strings
abbrev pub all_strings : List Token → Option (List ℕ)
all_strings ts = each_of read_string ts >>= λ l. Some (flat l)

-- a string with its count has 1 to 256 octets
string_sized : (t : Token) (xs : List ℕ) → read_string t ≡ Some xs → (1 ≤ length xs) × (length xs ≤ 256)
string_sized t xs e =
    let (v, a, b) = bind_some (string_value t) (counted 0) xs e in
    let (c, d) = provided_some (in_range 0 255 (length v)) (with_count v) xs b in
    let z : length xs ≡ suc (length v) = ap length (sym d) in
    let h = leb-true (length v) 255 (and_right (leb 0 (length v)) (leb (length v) 255) c) in
    (omega arith, omega arith)

-- the next string, and the strings after it
pub record Next (us : List Token) (xs : List ℕ) (vs : List Token) : Type 0 where
  pub there : null us ≡ false
  pub first : all_strings us ≡ after xs (all_strings vs)
  pub least : 1 ≤ length xs
  pub most : length xs ≤ 256

pub next_string : (us : List Token) (xs : List ℕ) (vs : List Token) → one_token read_string us ≡ got xs vs → Next us xs vs
next_string [] xs vs e = let z : ◌≡◌ {A = ℕ} 0 1 = cc in absurd (omega arith)
next_string (t ∷ ts) xs vs e = by (read_string t) refl e
  where
    by : (o : Option (List ℕ)) → read_string t ≡ o → got_or o ts ≡ got xs vs → Next (t ∷ ts) xs vs
    by None r g = let z : ◌≡◌ {A = ℕ} 0 1 = cc in absurd (omega arith)
    by (Some ys) r g =
        let p : ys ≡ xs = cc in
        let q : ts ≡ vs = cc in
        let s = string_sized t xs (r ∙ ap Some p) in
        record { there = refl; first = joins (r ∙ ap Some p) q; least = s.0; most = s.1 }
      where
        after_one : (o : Option (List (List ℕ))) → (cons_both (Some xs) o >>= λ l. Some (flat l)) ≡ after xs (o >>= λ l. Some (flat l))
        after_one None = refl
        after_one (Some l) = refl

        joins : read_string t ≡ Some xs → ts ≡ vs → all_strings (t ∷ ts) ≡ after xs (all_strings vs)
        joins r q = ap (λ o. cons_both o (each_of read_string ts) >>= λ l. Some (flat l)) r ∙ after_one (each_of read_string ts) ∙ ap (λ us. after xs (all_strings us)) q

pub no_string : (us : List Token) → one_token read_string us ≡ no_token → us ≡ []
no_string [] e = refl
no_string (t ∷ ts) e = by (read_string t) e
  where
    by : (o : Option (List ℕ)) → got_or o ts ≡ no_token → t ∷ ts ≡ []
    by None g = let z : ◌≡◌ {A = ℕ} 0 1 = cc in absurd (omega arith)
    by (Some ys) g = let z : ◌≡◌ {A = ℕ} 0 1 = cc in absurd (omega arith)

pub bad_string : (us : List Token) → one_token read_string us ≡ bad_token → (null us ≡ false) × (all_strings us ≡ None)
bad_string [] e = let z : ◌≡◌ {A = ℕ} 0 1 = cc in absurd (omega arith)
bad_string (t ∷ ts) e = by (read_string t) refl e
  where
    by : (o : Option (List ℕ)) → read_string t ≡ o → got_or o ts ≡ bad_token → (false ≡ false) × (all_strings (t ∷ ts) ≡ None)
    by None r g = (refl, ap (λ o. cons_both o (each_of read_string ts) >>= λ l. Some (flat l)) r)
    by (Some ys) r g = let z : ◌≡◌ {A = ℕ} 0 1 = cc in absurd (omega arith)

-- In the loop: the strings of ts before us stand from n to m; there is none yet if m is n.
pub record Before (o₀ o : List ℕ) (n m : ℕ) (ts us : List Token) : Type 0 where
  pub begun : Begun o₀ o n m (all_strings ts) (all_strings us)
  pub none_yet : m ≤ n → us ≡ ts
  pub there : n < m → null ts ≡ false

pub before_start : (o : List ℕ) (n : ℕ) (ts : List Token) → Before o o n n ts ts
before_start o n ts = record { begun = begun_none o n (all_strings ts); none_yet = λ h. refl; there = λ h. absurd (omega arith) }

module _ {o₀ o : List ℕ} {n m : ℕ} {ts us : List Token} (b : Before o₀ o n m ts us) (h : n ≤ m) where
  there_is : null us ≡ false → null ts ≡ false
  there_is e = by (dec_le m n)
    where
      by : Dec (m ≤ n) → null ts ≡ false
      by (yes l) = ap null (sym (b.none_yet l)) ∙ e
      by (no l) = b.there (omega arith)

  pub before_next : (o' : List ℕ) (r : ℕ) (xs : List ℕ) (vs : List Token) → one_token read_string us ≡ got xs vs → Wrote o o' m r xs → Before o₀ o' n r ts vs
  before_next o' r xs vs e w =
      let s = next_string us xs vs e in
      let c = w.count in
      let l = s.least in
      record { begun = begun_piece xs (all_strings vs) b.begun w s.first; none_yet = λ k. absurd (omega arith); there = λ k. there_is s.there }

  module _ (ns : List TypeName) (q : List ℕ) where
    pub strings_missing : one_token read_string us ≡ no_token → m ≤ n → read_field ns strs q ts ≡ no_token
    unfolding read_field
    strings_missing e l = let z : ts ≡ [] = sym (b.none_yet l) ∙ no_string us e in rw z

    pub strings_bad : one_token read_string us ≡ bad_token → read_field ns strs q ts ≡ bad_token
    unfolding read_field
    strings_bad e = let (t, v) = bad_string us e in rw (there_is t, begun_fault b.begun v)

    strings_got : (xs : List ℕ) → null ts ≡ false → all_strings ts ≡ Some xs → read_field ns strs q ts ≡ got xs []
    unfolding read_field
    strings_got xs t v = ap (λ x. cond x no_token (got_or (all_strings ts) [])) t ∙ ap (λ o. got_or o []) v

    pub strings_all : one_token read_string us ≡ no_token → n < m → (o' : List ℕ) → o' ≡ o → (xs : List ℕ) × (read_field ns strs q ts ≡ got xs us) × Wrote o₀ o' n m xs
    strings_all e l o' p =
        let z = no_string us e in
        let (xs, v, w) = begun_all b.begun (ap all_strings z) in
        (xs, strings_got xs (b.there l) v ∙ ap (got xs) (sym z), subst (λ x. Wrote o₀ x n m xs) (sym p) w)
