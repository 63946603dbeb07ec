-- What is said of every form, form by form or kind by kind: the list of forms stands in this file and in that of the definitions.
use Prim.Native.Nat.{ℕ}
use mathlib.Core.Path.{◌≡◌, refl, sym, subst}
use mathlib.Core.Bool.{Bool, true, false, not, cond, ◌&&◌, true≢false}
use mathlib.Core.List.{List, [], ◌∷◌}
use Rattle.std.specs.Prelude.{Option, None, Some}
use native.Mathlib.Omega.{arith}
use lib.Dec.{eqb}
use types.Run.{OneOf, miss}
use denote.Enum.Declared.{tag_of}
use Rattle.format.specs.Lists.{provided, null}
use Rattle.format.specs.Octets.{ascii, same_octets}
use Rattle.format.specs.Field.{Symbol, Kind, int, rrtype, bitmap, a4, aa, aaaa, name, str, strs, raw, b32, b64, hex, hexc, eui, time, start, tail}
use Rattle.format.specs.Token.{Token, broken, quoted}
use Rattle.format.specs.Catalogue.{TypeName}
use Rattle.format.specs.Run.{got, no_token, read_field, one_bare, one_token}
use Rattle.format.specs.Text.{read_string, read_raw}
use Rattle.format.specs.Name.{read_name}
use Rattle.format.specs.Number.{read_integer}
use Rattle.format.specs.Catalogue.{read_type_in}
use Rattle.format.specs.Address.{read_a, read_aa, read_aaaa}
use Rattle.format.specs.Base.{read_base32}
use Rattle.format.specs.Hex.{read_counted_hex}
use Rattle.format.specs.Eui.{read_eui}
use Rattle.format.specs.Time.{read_time}
use Rattle.format.specs.Types.{Takes, symbols, words, TypeRow, has_word, name_kind, string_kind, type_rows, takes_of}
use Rattle.format.proofs.Field.{is_bitmap}
use Rattle.stanza_form.specs.declared.Form.{Form}
use Rattle.stanza_form.specs.declared.Form.TheVariants.{Int, Eui, Name, Rrtype, Dotted, Aa, Aaaa, Time, Str, Base32, Hexc, Bitmap, Strs, Raw, Base64, Hex}
use Rattle.stanza_form.specs.declared.Shape.{Shape}
use Rattle.stanza_form.specs.declared.Shape.TheVariants.{Octets, Labels, Counted, Strings, Rest, Windows}
use Rattle.stanza_form.specs.Forms.{kind_of, shape_of, stage_of, tail_of, Rule, bare_by, name_by, string_by, raw_by, all_tokens, rule_of, takes_one, value_by, missing_by, read_by, parameter_of, form_number, held_by, form_at}

-- a form's number and parameter are those of no other
pub form_again : (f : Form) → form_at (form_number f) (held_by f) ≡ f
unfolding form_at
form_again (Int w) = refl
form_again (Eui w) = refl
form_again (Name m) = refl
form_again Rrtype = refl
form_again Dotted = refl
form_again Aa = refl
form_again Aaaa = refl
form_again Time = refl
form_again Str = refl
form_again Base32 = refl
form_again Hexc = refl
form_again Bitmap = refl
form_again Strs = refl
form_again Raw = refl
form_again Base64 = refl
form_again Hex = refl

-- a form's shape is that of its kind: where it starts, whether it is a tail, and whether it is R[L]
abbrev pub is_windows : Shape → Bool
is_windows Octets = false
is_windows Labels = false
is_windows Counted = false
is_windows Strings = false
is_windows Rest = false
is_windows Windows = true

pub record Shaped (k : Kind) (s : Shape) (p : ℕ) : Type 0 where
  pub starts : start k ≡ stage_of s p
  pub tails : tail k ≡ tail_of s p
  pub windows : is_bitmap k ≡ is_windows s

pub shaped : (l : List Symbol) (f : Form) → Shaped (kind_of l f) (shape_of f) (parameter_of f)
shaped l (Int w) = record { starts = refl; tails = refl; windows = refl }
shaped l (Eui w) = record { starts = refl; tails = refl; windows = refl }
shaped l (Name m) = record { starts = refl; tails = refl; windows = refl }
shaped l Rrtype = record { starts = refl; tails = refl; windows = refl }
shaped l Dotted = record { starts = refl; tails = refl; windows = refl }
shaped l Aa = record { starts = refl; tails = refl; windows = refl }
shaped l Aaaa = record { starts = refl; tails = refl; windows = refl }
shaped l Time = record { starts = refl; tails = refl; windows = refl }
shaped l Str = record { starts = refl; tails = refl; windows = refl }
shaped l Base32 = record { starts = refl; tails = refl; windows = refl }
shaped l Hexc = record { starts = refl; tails = refl; windows = refl }
shaped l Bitmap = record { starts = refl; tails = refl; windows = refl }
shaped l Strs = record { starts = refl; tails = refl; windows = refl }
shaped l Raw = record { starts = refl; tails = refl; windows = refl }
shaped l Base64 = record { starts = refl; tails = refl; windows = refl }
shaped l Hex = record { starts = refl; tails = refl; windows = refl }

pub not_windows : (k : Shape) → OneOf (0 ∷ 1 ∷ 2 ∷ 3 ∷ 4 ∷ []) (tag_of Rattle.stanza_form.specs.contracts.Shape.the_type k) → is_windows k ≡ false
not_windows Octets h = refl
not_windows Labels h = refl
not_windows Counted h = refl
not_windows Strings h = refl
not_windows Rest h = refl
not_windows Windows h = absurd (miss (0 ∷ 1 ∷ 2 ∷ 3 ∷ 4 ∷ []) 5 tt h)

-- where a form's kind starts, by the shape q and the parameter that were found of it
pub start_by : (l : List Symbol) (f : Form) (k q : Shape) (p : ℕ) → k ≡ shape_of f → k ≡ q → p ≡ parameter_of f → stage_of q p ≡ start (kind_of l f)
start_by l f k q p e g h = rw (← g, e, h) (sym (shaped l f).starts)

-- one bare token, and one token
one_bare_lem : (f : List ℕ → List ℕ → Option (List ℕ)) (o : List ℕ) (ts : List Token) → one_bare (f o) ts ≡ read_by (bare_by f) o ts
one_bare_lem f o [] = refl
one_bare_lem f o (t ∷ ts) = refl

one_name : (b : Bool) (o : List ℕ) (ts : List Token) → cond (b && null ts) (got [] []) (one_bare (read_name o) ts) ≡ read_by (name_by b) o ts
one_name true o [] = refl
one_name true o (t ∷ ts) = refl
one_name false o [] = refl
one_name false o (t ∷ ts) = refl

one_string : (o : List ℕ) (ts : List Token) → one_token read_string ts ≡ read_by string_by o ts
one_string o [] = refl
one_string o (t ∷ ts) = refl

one_raw : (o : List ℕ) (ts : List Token) → one_token read_raw ts ≡ read_by raw_by o ts
one_raw o [] = refl
one_raw o (t ∷ ts) = refl

-- a kind that takes one token reads it by its rule
pub reads_one : (c : List TypeName) (k : Kind) → takes_one (rule_of c k) ≡ true → (o : List ℕ) (ts : List Token) → read_field c k o ts ≡ read_by (rule_of c k) o ts
unfolding read_field
reads_one c (int w l) h o ts = one_bare_lem (λ o. read_integer w l) o ts
reads_one c rrtype h o ts = one_bare_lem (λ o. read_type_in c) o ts
reads_one c bitmap h o ts = absurd (true≢false (sym h))
reads_one c a4 h o ts = one_bare_lem (λ o. read_a) o ts
reads_one c aa h o ts = one_bare_lem (λ o. read_aa) o ts
reads_one c aaaa h o ts = one_bare_lem (λ o. read_aaaa) o ts
reads_one c (name m) h o ts = one_name m.optional o ts
reads_one c str h o ts = one_string o ts
reads_one c strs h o ts = absurd (true≢false (sym h))
reads_one c raw h o ts = one_raw o ts
reads_one c b32 h o ts = one_bare_lem (λ o. read_base32) o ts
reads_one c b64 h o ts = absurd (true≢false (sym h))
reads_one c hex h o ts = absurd (true≢false (sym h))
reads_one c hexc h o ts = one_bare_lem (λ o. read_counted_hex) o ts
reads_one c (eui w) h o ts = one_bare_lem (λ o. read_eui w) o ts
reads_one c time h o ts = one_bare_lem (λ o. read_time) o ts

-- the tags of the forms, but one
abbrev skipping : ℕ → List ℕ → List ℕ
skipping n [] = []
skipping n (x ∷ xs) = cond (eqb x n) (skipping n xs) (x ∷ skipping n xs)

abbrev pub except : ℕ → List ℕ
except n = skipping n (0 ∷ 1 ∷ 2 ∷ 3 ∷ 4 ∷ 5 ∷ 6 ∷ 7 ∷ 8 ∷ 9 ∷ 10 ∷ 11 ∷ 12 ∷ 13 ∷ 14 ∷ 15 ∷ [])

abbrev pub Not : ℕ → Form → Type 0
Not n f = OneOf (except n) (tag_of Rattle.stanza_form.specs.contracts.Form.the_type f)

pub one_form : (c : List TypeName) (f : Form) → Not 11 f → Not 12 f → Not 14 f → Not 15 f → (l : List Symbol) → takes_one (rule_of c (kind_of l f)) ≡ true
one_form c (Int w) p q r s l = refl
one_form c (Eui w) p q r s l = refl
one_form c (Name m) p q r s l = refl
one_form c Rrtype p q r s l = refl
one_form c Dotted p q r s l = refl
one_form c Aa p q r s l = refl
one_form c Aaaa p q r s l = refl
one_form c Time p q r s l = refl
one_form c Str p q r s l = refl
one_form c Base32 p q r s l = refl
one_form c Hexc p q r s l = refl
one_form c Bitmap p q r s l = absurd (miss (except 11) 11 tt p)
one_form c Strs p q r s l = absurd (miss (except 12) 12 tt q)
one_form c Raw p q r s l = refl
one_form c Base64 p q r s l = absurd (miss (except 14) 14 tt r)
one_form c Hex p q r s l = absurd (miss (except 15) 15 tt s)

-- "Only S fields take quoted tokens."
pub only_strings : (c : List TypeName) (f : Form) → Not 8 f → Not 13 f → (l : List Symbol) (o x : List ℕ) → value_by (rule_of c (kind_of l f)) o (quoted x) ≡ None
only_strings c (Int w) g h l o x = refl
only_strings c (Eui w) g h l o x = refl
only_strings c (Name m) g h l o x = refl
only_strings c Rrtype g h l o x = refl
only_strings c Dotted g h l o x = refl
only_strings c Aa g h l o x = refl
only_strings c Aaaa g h l o x = refl
only_strings c Time g h l o x = refl
only_strings c Str g h l o x = absurd (miss (except 8) 8 tt g)
only_strings c Base32 g h l o x = refl
only_strings c Hexc g h l o x = refl
only_strings c Bitmap g h l o x = refl
only_strings c Strs g h l o x = refl
only_strings c Raw g h l o x = absurd (miss (except 13) 13 tt h)
only_strings c Base64 g h l o x = refl
only_strings c Hex g h l o x = refl

-- only a name may be missing
pub none_missing : (c : List TypeName) (f : Form) → Not 2 f → (l : List Symbol) → missing_by (rule_of c (kind_of l f)) ≡ no_token
none_missing c (Int w) g l = refl
none_missing c (Eui w) g l = refl
none_missing c (Name m) g l = absurd (miss (except 2) 2 tt g)
none_missing c Rrtype g l = refl
none_missing c Dotted g l = refl
none_missing c Aa g l = refl
none_missing c Aaaa g l = refl
none_missing c Time g l = refl
none_missing c Str g l = refl
none_missing c Base32 g l = refl
none_missing c Hexc g l = refl
none_missing c Bitmap g l = refl
none_missing c Strs g l = refl
none_missing c Raw g l = refl
none_missing c Base64 g l = refl
none_missing c Hex g l = refl

-- no rule has a value of a token with a fault
pub none_of_broken : (r : Rule) (o : List ℕ) → value_by r o broken ≡ None
none_of_broken (bare_by f) o = refl
none_of_broken (name_by optional) o = refl
none_of_broken string_by o = refl
none_of_broken raw_by o = refl
none_of_broken all_tokens o = refl

abbrev pub is_integer : Kind → Bool
is_integer (int w l) = true
is_integer rrtype = false
is_integer bitmap = false
is_integer a4 = false
is_integer aa = false
is_integer aaaa = false
is_integer (name m) = false
is_integer str = false
is_integer strs = false
is_integer raw = false
is_integer b32 = false
is_integer b64 = false
is_integer hex = false
is_integer hexc = false
is_integer (eui w) = false
is_integer time = false

-- words make no integer
abbrev pub Wordy : Takes → Type 0
Wordy (symbols w) = Unit {0}
Wordy (words ws f) = (given : List (List ℕ)) (k : Kind) → f given ≡ Some k → is_integer k ≡ false

abbrev pub All-wordy : List TypeRow → Type 0
All-wordy [] = Unit {0}
All-wordy (r ∷ rs) = Wordy r.takes × All-wordy rs

always : (j : Kind) → is_integer j ≡ false → (given : List (List ℕ)) (k : Kind) → Some j ≡ Some k → is_integer k ≡ false
always j h given k e = let w : j ≡ k = cc in rw (← w) h

either : (i j : Kind) → is_integer i ≡ false → is_integer j ≡ false → (b : Bool) → is_integer (cond b i j) ≡ false
either i j h k true = h
either i j h k false = k

strings : (given : List (List ℕ)) (k : Kind) → string_kind given ≡ Some k → is_integer k ≡ false
strings given k e = by (has_word given (ascii "M")) (has_word given (ascii "X")) e
  where
    by : (m x : Bool) → cond m (provided (not x) strs) (Some (cond x raw str)) ≡ Some k → is_integer k ≡ false
    by true true e = cc
    by true false e = always strs refl given k e
    by false x e = always (cond x raw str) (either raw str refl refl x) given k e

with_word : (i j : Kind) → is_integer i ≡ false → is_integer j ≡ false → (given : List (List ℕ)) (k : Kind) → Some (cond (null given) i j) ≡ Some k → is_integer k ≡ false
with_word i j h l given k e = always (cond (null given) i j) (either i j h l (null given)) given k e

pub rows_wordy : All-wordy type_rows
rows_wordy =
    (tt, (tt, (tt, ((with_word rrtype bitmap refl refl), ((always a4 refl), ((always aa refl), ((always aaaa refl), ((λ given k e. always (name_kind given) refl given k e), (strings, ((always b32 refl), ((always b64 refl), ((with_word hex hexc refl refl), ((always time refl), ((always (eui 6) refl), ((always (eui 8) refl), ((always (eui 6) refl), ((always (eui 8) refl), tt)))))))))))))))))

pub row_of : (rs : List TypeRow) → All-wordy rs → (k : List ℕ) (t : Takes) → takes_of rs k ≡ Some t → Wordy t
row_of [] h k t e = let z : ◌≡◌ {A = ℕ} 0 1 = cc in absurd (omega arith)
row_of (r ∷ rs) h k t e = by (same_octets k r.type_word) e (row_of rs h.1 k t)
  where
    by : (b : Bool) → cond b (Some r.takes) (takes_of rs k) ≡ Some t → (takes_of rs k ≡ Some t → Wordy t) → Wordy t
    by true e ih = let w : r.takes ≡ t = cc in subst Wordy w h.0
    by false e ih = ih e
