-- One field by its kind, and a run of fields: what they take, their text, and what tokens read to.
use Rattle.std.specs.Prelude.{ℕ, suc, Bool, true, false, cond, ◌&&◌, List, [], ◌∷◌, ◌++◌, map, length, take, drop, leb}
use Rattle.std.specs.Prelude.{Option, None, Some}
use Rattle.format.specs.Lists.{◌>>=◌, each_of, null, flat, parted}
use Rattle.format.specs.Octets.{ascii}
use Rattle.format.specs.Wire.{Taken, short, bad, took, taken}
use Rattle.format.specs.Field.{Kind, int, rrtype, bitmap, a4, aa, aaaa, name, str, strs, raw, b32, b64, hex, hexc, eui, time, start}
use Rattle.format.specs.Digits.{number}
use Rattle.format.specs.Number.{symbol_or_decimal, read_integer}
use Rattle.format.specs.Token.{Token, bare, quoted, broken}
use Rattle.format.specs.Bitmap.{bitmap_text, read_bitmap}
use Rattle.format.specs.Address.{dotted_text, read_a, groups, colons, read_aa, aaaa_text, read_aaaa}
use Rattle.format.specs.Text.{pieces, string_text, read_string, not_empty, read_raw}
use Rattle.format.specs.Name.{name_text, read_name}
use Rattle.format.specs.Base.{base32_text, read_base32, base64_text, read_base64}
use Rattle.format.specs.Hex.{hex_text, from_hex, counted_hex_text, read_counted_hex}
use Rattle.format.specs.Eui.{eui_text, read_eui}
use Rattle.format.specs.Time.{time_text, read_time}
use Rattle.format.specs.Catalogue.{TypeName, type_text_in, type_number_in, read_type_in}

-- the text of a field, from the octets that it takes, with the names of types that are known
unfoldable pub shown : List TypeName → Kind → List ℕ → List ℕ
shown c (int w l) p = symbol_or_decimal l (number 256 p)
shown c rrtype p = type_text_in c (number 256 p)
shown c bitmap p = bitmap_text (type_text_in c) p
shown c a4 p = dotted_text p
shown c aa p = colons (groups p)
shown c aaaa p = aaaa_text (groups p)
shown c (name m) p = name_text p
shown c str p = string_text (drop 1 p)
shown c strs p = parted (ascii " ") (map string_text (pieces p))
shown c raw p = string_text p
shown c b32 p = base32_text (drop 1 p)
shown c b64 p = base64_text p
shown c hex p = hex_text p
shown c hexc p = counted_hex_text (drop 1 p)
shown c (eui w) p = eui_text p
shown c time p = time_text (number 256 p)

-- What a field makes of the tokens that are left: none is there (8), a rule is broken (9), or its octets and the tokens after it.
pub data Got : Type 0 where
  no_token : Got
  bad_token : Got
  got : List ℕ → List Token → Got

-- 9 where there is no value
abbrev pub got_or : Option (List ℕ) → List Token → Got
got_or None ts = bad_token
got_or (Some p) ts = got p ts

-- "Only S fields take quoted tokens."
abbrev pub bare_of : Token → Option (List ℕ)
bare_of (bare t) = Some t
bare_of (quoted t) = None
bare_of broken = None

-- one token
abbrev pub one_token : (Token → Option (List ℕ)) → List Token → Got
one_token f [] = no_token
one_token f (t ∷ ts) = got_or (f t) ts

-- one bare token
abbrev pub one_bare : (List ℕ → Option (List ℕ)) → List Token → Got
one_bare f ts = one_token (λ t. bare_of t >>= f) ts

-- all that are left, one at least, as one text
abbrev pub joined_bares : (List ℕ → Option (List ℕ)) → List Token → Got
joined_bares f [] = no_token
joined_bares f (t ∷ ts) = got_or (each_of bare_of (t ∷ ts) >>= λ l. f (flat l) >>= not_empty) []

-- "A field that isn't a tail takes one token, S[X] one, N[O] at most one, other tails all that are left."
unfoldable pub read_field : List TypeName → Kind → List ℕ → List Token → Got
read_field c (int w l) o ts = one_bare (read_integer w l) ts
read_field c rrtype o ts = one_bare (read_type_in c) ts
read_field c bitmap o ts = got_or (read_bitmap (λ t. bare_of t >>= type_number_in c) ts) []
read_field c a4 o ts = one_bare read_a ts
read_field c aa o ts = one_bare read_aa ts
read_field c aaaa o ts = one_bare read_aaaa ts
read_field c (name m) o ts = cond (m.optional && null ts) (got [] []) (one_bare (read_name o) ts)
read_field c str o ts = one_token read_string ts
read_field c strs o ts = cond (null ts) no_token (got_or (each_of read_string ts >>= λ l. Some (flat l)) [])
read_field c raw o ts = one_token read_raw ts
read_field c b32 o ts = one_bare read_base32 ts
read_field c b64 o ts = joined_bares read_base64 ts
read_field c hex o ts = joined_bares from_hex ts
read_field c hexc o ts = one_bare read_counted_hex ts
read_field c (eui w) o ts = one_bare (read_eui w) ts
read_field c time o ts = one_bare read_time ts

-- What a run makes of its input: a refusal's number and place; or the octets of each field.
pub data Parts : Type 0 where
  refused : ℕ → ℕ → Parts
  parts : List (List ℕ) → Parts

-- a field's octets before those of the fields after it, whose places are one further
abbrev pub with_first : List ℕ → Parts → Parts
with_first p (refused n i) = refused n (suc i)
with_first p (parts ps) = parts (p ∷ ps)

-- 8 or 9 at this field, or its octets and the rest
abbrev pub after_taking : Taken → List ℕ → (List ℕ → Parts) → Parts
after_taking short xs f = refused 8 1
after_taking bad xs f = refused 9 1
after_taking (took n) xs f = with_first (take n xs) (f (drop n xs))

-- the fields "taken from the left by the wire rules"; 10 where something is left
unfoldable pub parts_of : List Kind → List ℕ → Parts
parts_of [] [] = parts []
parts_of [] (x ∷ xs) = refused 10 1
parts_of (k ∷ ks) xs = after_taking (taken (start k) xs) xs (λ ys. parts_of ks ys)

-- no refusal
abbrev pub is_parts : Parts → Bool
is_parts (refused n i) = false
is_parts (parts ps) = true

-- "RDATA over 65,535 octets"
abbrev pub max_rdata : ℕ
max_rdata = 65535

-- "A list accepts octets when they are at most 65,535 and its fields .. meet no 8 or 9 and leave nothing over"
unfoldable pub accepts : List Kind → List ℕ → Bool
accepts ks xs = leb (length xs) max_rdata && is_parts (parts_of ks xs)

-- "with one space between them if neither is empty and nothing otherwise"
abbrev pub joined : List ℕ → List ℕ → List ℕ
joined [] t = t
joined (x ∷ s) [] = x ∷ s
joined (x ∷ s) (y ∷ t) = (x ∷ s) ++ (ascii " " ++ y ∷ t)

-- A run's text is the same for any way to show a field.
module _ (show : Kind → List ℕ → List ℕ) where
  -- the fields' texts, joined
  unfoldable pub text_of_parts : List Kind → List (List ℕ) → List ℕ
  text_of_parts [] ps = []
  text_of_parts (k ∷ ks) [] = []
  text_of_parts (k ∷ ks) (p ∷ ps) = joined (show k p) (text_of_parts ks ps)

  -- no text where a field refuses
  abbrev pub text_in : List Kind → Parts → List ℕ
  text_in ks (refused n i) = []
  text_in ks (parts ps) = text_of_parts ks ps

-- "Its text for octets it accepts is the printing fixed above."
unfoldable pub text_of : List TypeName → List Kind → List ℕ → List ℕ
text_of c ks xs = text_in (shown c) ks (parts_of ks xs)

-- Reading a run is the same for any way to read a field.
module _ (read : Kind → List Token → Got) where
  -- 8 or 9 at this field, or its octets and the tokens after it
  abbrev pub after_reading : Got → (List Token → Parts) → Parts
  after_reading no_token f = refused 8 1
  after_reading bad_token f = refused 9 1
  after_reading (got p ts) f = with_first p (f ts)

  -- "anything but blanks after the last field is 10"
  unfoldable pub read_run : List Kind → List Token → Parts
  read_run [] [] = parts []
  read_run [] (t ∷ ts) = refused 10 1
  read_run (k ∷ ks) ts = after_reading (read k ts) (λ us. read_run ks us)
