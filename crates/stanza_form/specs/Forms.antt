-- The forms of fields in code, and what each is by the definitions of document 01: its kind, its shape on the wire, how it reads
-- its tokens, its number in a code, and the word of its type.
use Rattle.std.specs.Prelude.{ℕ, ◌/◌, ◌%◌, Bool, true, false, cond, Option, None, Some, List, [], ◌∷◌, length, eqb, leb}
use Rattle.format.specs.Lists.{◌>>=◌, each_of, null}
use Rattle.format.specs.Octets.{ascii}
use Rattle.format.specs.Wire.{Stage, count, label_length, to_the_end, string_count, window}
use Rattle.format.specs.Field.{Symbol, Kind, int, rrtype, bitmap, a4, aa, aaaa, name, str, strs, raw, b32, b64, hex, hexc, eui, time, any_octets}
use Rattle.format.specs.Number.{read_integer}
use Rattle.format.specs.Token.{Token}
use Rattle.format.specs.Catalogue.{TypeName, read_type_in}
use Rattle.format.specs.Address.{read_a, read_aa, read_aaaa}
use Rattle.format.specs.Text.{read_string, read_raw}
use Rattle.format.specs.Name.{read_name}
use Rattle.format.specs.Base.{read_base32}
use Rattle.format.specs.Hex.{read_counted_hex}
use Rattle.format.specs.Eui.{read_eui}
use Rattle.format.specs.Time.{read_time}
use Rattle.format.specs.Run.{Got, no_token, got, got_or, bare_of}
use Rattle.format.specs.Types.{TypeRow, Takes, symbols, words, no_words, name_kind, string_kind, symbol_of}
use Rattle.stanza_words.specs.Qualifiers.{qualifiers_in}
use Rattle.stanza_words.specs.declared.Words.{Words}
use Rattle.stanza_words.specs.declared.Words.TheVariants.{OnR, OnN, OnS, OnX}
use Rattle.stanza_form.specs.declared.Form.{Form}
use Rattle.stanza_form.specs.declared.Form.TheVariants.{Int, Eui, Name, Rrtype, Dotted, Aa, Aaaa, Time, Str, Base32, Hexc, Bitmap, Strs, Raw, Base64, Hex}
use Rattle.stanza_form.specs.declared.Shape.{Shape}
use Rattle.stanza_form.specs.declared.Shape.TheVariants.{Octets, Labels, Counted, Strings, Rest, Windows}
use Rattle.stanza_form.specs.declared.FieldType.{FieldType}
use Rattle.stanza_form.specs.declared.FieldType.TheVariants.{Int1, Int2, Int4, Plain, Listed}

-- whether O, which is 8, is among the marks of a name
abbrev pub optional_in : ℕ → Bool
optional_in m = leb 8 m

-- the kind of a form, with an integer's symbols
abbrev pub kind_of : List Symbol → Form → Kind
kind_of l (Int w) = int w l
kind_of l (Eui w) = eui w
kind_of l (Name m) = name (record { compressed = eqb (m % 2) 1; mailbox = eqb (m / 2 % 2) 1; lower_case = eqb (m / 4 % 2) 1; optional = optional_in m })
kind_of l Rrtype = rrtype
kind_of l Dotted = a4
kind_of l Aa = aa
kind_of l Aaaa = aaaa
kind_of l Time = time
kind_of l Str = str
kind_of l Base32 = b32
kind_of l Hexc = hexc
kind_of l Bitmap = bitmap
kind_of l Strs = strs
kind_of l Raw = raw
kind_of l Base64 = b64
kind_of l Hex = hex

-- what a form holds, or 0
abbrev pub held_by : Form → ℕ
held_by (Int w) = w
held_by (Eui w) = w
held_by (Name m) = m
held_by Rrtype = 0
held_by Dotted = 0
held_by Aa = 0
held_by Aaaa = 0
held_by Time = 0
held_by Str = 0
held_by Base32 = 0
held_by Hexc = 0
held_by Bitmap = 0
held_by Strs = 0
held_by Raw = 0
held_by Base64 = 0
held_by Hex = 0

-- the symbols of an integer of w octets among the qualifiers from a to b
abbrev pub symbols_in : ℕ → List ℕ → ℕ → ℕ → Option (List Symbol)
symbols_in w s a b = qualifiers_in s a b >>= each_of (symbol_of w)

-- the symbols that are listed, or none
abbrev pub or_none : Option (List Symbol) → List Symbol
or_none None = []
or_none (Some l) = l

-- the kind of a form with the qualifiers from a to b
abbrev pub kind_in : List ℕ → ℕ → ℕ → Form → Kind
kind_in s a b f = kind_of (or_none (symbols_in (held_by f) s a b)) f

-- the shape of a form on the wire
abbrev pub shape_of : Form → Shape
shape_of (Int w) = Octets
shape_of (Eui w) = Octets
shape_of (Name m) = Labels
shape_of Rrtype = Octets
shape_of Dotted = Octets
shape_of Aa = Octets
shape_of Aaaa = Octets
shape_of Time = Octets
shape_of Str = Counted
shape_of Base32 = Counted
shape_of Hexc = Counted
shape_of Bitmap = Windows
shape_of Strs = Strings
shape_of Raw = Rest
shape_of Base64 = Rest
shape_of Hex = Rest

-- what a form has beside its shape: how many octets, the least count, or the marks of a name
abbrev pub parameter_of : Form → ℕ
parameter_of (Int w) = w
parameter_of (Eui w) = w
parameter_of (Name m) = m
parameter_of Rrtype = 2
parameter_of Dotted = 4
parameter_of Aa = 8
parameter_of Aaaa = 16
parameter_of Time = 4
parameter_of Str = 0
parameter_of Base32 = 1
parameter_of Hexc = 0
parameter_of Bitmap = 0
parameter_of Strs = 0
parameter_of Raw = 0
parameter_of Base64 = 0
parameter_of Hex = 0

-- what a shape with its parameter is by document 01: where a field stands before its first octet
abbrev pub stage_of : Shape → ℕ → Stage
stage_of Octets w = any_octets w
stage_of Labels marks = label_length (optional_in marks) 0
stage_of Counted least = count least
stage_of Strings p = string_count false
stage_of Rest p = to_the_end false
stage_of Windows p = window 0

-- "Tail fields: S[M], S[X], B64, X without C, R[L], N[O]." Their shapes end where the octets do.
abbrev pub tail_of : Shape → ℕ → Bool
tail_of Octets w = false
tail_of Labels marks = optional_in marks
tail_of Counted least = false
tail_of Strings p = true
tail_of Rest p = true
tail_of Windows p = true

-- How a kind reads its tokens: one bare token, under an origin; a name, which may be missing; one token as a string or as octets
-- without a count; or all the tokens that are left.
pub data Rule : Type 0 where
  bare_by : (List ℕ → List ℕ → Option (List ℕ)) → Rule
  name_by : Bool → Rule
  string_by : Rule
  raw_by : Rule
  all_tokens : Rule

-- the rule of each kind, with the names of types that are known: "other tails all that are left"
abbrev pub rule_of : List TypeName → Kind → Rule
rule_of c (int w l) = bare_by (λ o. read_integer w l)
rule_of c rrtype = bare_by (λ o. read_type_in c)
rule_of c bitmap = all_tokens
rule_of c a4 = bare_by (λ o. read_a)
rule_of c aa = bare_by (λ o. read_aa)
rule_of c aaaa = bare_by (λ o. read_aaaa)
rule_of c (name m) = name_by m.optional
rule_of c str = string_by
rule_of c strs = all_tokens
rule_of c raw = raw_by
rule_of c b32 = bare_by (λ o. read_base32)
rule_of c b64 = all_tokens
rule_of c hex = all_tokens
rule_of c hexc = bare_by (λ o. read_counted_hex)
rule_of c (eui w) = bare_by (λ o. read_eui w)
rule_of c time = bare_by (λ o. read_time)

-- whether a rule takes one token
abbrev pub takes_one : Rule → Bool
takes_one (bare_by f) = true
takes_one (name_by optional) = true
takes_one string_by = true
takes_one raw_by = true
takes_one all_tokens = false

-- the value of the one token that a field takes; the fields that take all the tokens have none
abbrev pub value_by : Rule → List ℕ → Token → Option (List ℕ)
value_by (bare_by f) o t = bare_of t >>= f o
value_by (name_by optional) o t = bare_of t >>= read_name o
value_by string_by o t = read_string t
value_by raw_by o t = read_raw t
value_by all_tokens o t = None

-- what a field makes of no token
abbrev pub missing_by : Rule → Got
missing_by (bare_by f) = no_token
missing_by (name_by optional) = cond optional (got [] []) no_token
missing_by string_by = no_token
missing_by raw_by = no_token
missing_by all_tokens = no_token

-- what a field that takes one token makes of those that are left
abbrev pub read_by : Rule → List ℕ → List Token → Got
read_by r o [] = missing_by r
read_by r o (t ∷ ts) = got_or (value_by r o t) ts

-- the number of a form in a code
abbrev pub form_number : Form → ℕ
form_number (Int w) = 0
form_number (Eui w) = 1
form_number (Name m) = 2
form_number Rrtype = 3
form_number Dotted = 4
form_number Aa = 5
form_number Aaaa = 6
form_number Time = 7
form_number Str = 8
form_number Base32 = 9
form_number Hexc = 10
form_number Bitmap = 11
form_number Strs = 12
form_number Raw = 13
form_number Base64 = 14
form_number Hex = 15

-- the form of a number and a parameter; any number from 15 on is the last form's
unfoldable pub form_at : ℕ → ℕ → Form
form_at n p =
    cond (eqb n 0) (Int p) (cond (eqb n 1) (Eui p) (cond (eqb n 2) (Name p) (cond (eqb n 3) Rrtype (cond (eqb n 4) Dotted (cond (eqb n 5) Aa (cond (eqb n 6) Aaaa (cond (eqb n 7) Time (cond (eqb n 8) Str (cond (eqb n 9) Base32 (cond (eqb n 10) Hexc (cond (eqb n 11) Bitmap (cond (eqb n 12) Strs (cond (eqb n 13) Raw (cond (eqb n 14) Base64 Hex))))))))))))))

-- the types that take words
abbrev pub listed : Words → Takes
listed OnR = words (ascii "L" ∷ []) (λ given. Some (cond (null given) rrtype bitmap))
listed OnN = words (ascii "C" ∷ ascii "A" ∷ ascii "L" ∷ ascii "O" ∷ []) (λ given. Some (name_kind given))
listed OnS = words (ascii "M" ∷ ascii "X" ∷ []) string_kind
listed OnX = words (ascii "C" ∷ []) (λ given. Some (cond (null given) hex hexc))

-- what a type takes
abbrev pub taken_by : Option FieldType → Option Takes
taken_by None = None
taken_by (Some Int1) = Some (symbols 1)
taken_by (Some Int2) = Some (symbols 2)
taken_by (Some Int4) = Some (symbols 4)
taken_by (Some (Plain k)) = Some (no_words (kind_of [] k))
taken_by (Some (Listed w)) = Some (listed w)

-- the rows of types of more than one letter
abbrev pub longer : List TypeRow → List TypeRow
longer [] = []
longer (r ∷ rs) = cond (eqb (length r.type_word) 1) (longer rs) (r ∷ longer rs)
