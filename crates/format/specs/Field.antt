-- The fields of a judged stanza: what their types and qualifiers come to.
use Rattle.std.specs.Prelude.{ℕ, ◌-◌, Bool, true, false, List, [], ◌∷◌}
use Rattle.format.specs.Wire.{Stage, any_octet, count, label_length, to_the_end, string_count, window}

-- A part of the stanza: the place of its first octet, from 0, and its octets.
pub record Part : Type 0 where
  pub place : ℕ
  pub octets : List ℕ

-- A symbol of an integer field, as spelled, and its number.
pub record Symbol : Type 0 where
  pub spelling : Part
  pub value : ℕ

-- The qualifiers C, A, L and O of a name. "C, A and L on N change no octet here."
pub record NameMarks : Type 0 where
  pub compressed : Bool
  pub mailbox : Bool
  pub lower_case : Bool
  pub optional : Bool

-- The kinds of fields.
pub data Kind : Type 0 where
  int : ℕ → List Symbol → Kind  -- I1, I2, I4: the octets, and the symbols in order
  rrtype : Kind  -- R
  bitmap : Kind  -- R[L]
  a4 : Kind  -- A
  aa : Kind  -- AA
  aaaa : Kind  -- AAAA
  name : NameMarks → Kind  -- N, N[O]
  str : Kind  -- S
  strs : Kind  -- S[M]
  raw : Kind  -- S[X]
  b32 : Kind  -- B32
  b64 : Kind  -- B64
  hex : Kind  -- X
  hexc : Kind  -- X[C]
  eui : ℕ → Kind  -- EUI48, EUI64: the octets
  time : Kind  -- T

-- w octets of any value
abbrev pub any_octets : ℕ → Stage
any_octets w = any_octet (w - 1)

-- the wire shape of a field: where it stands before its first octet
abbrev pub start : Kind → Stage
start (int w l) = any_octets w
start rrtype = any_octets 2
start bitmap = window 0
start a4 = any_octets 4
start aa = any_octets 8
start aaaa = any_octets 16
start (name m) = label_length m.optional 0
start str = count 0
start strs = string_count false
start raw = to_the_end false
start b32 = count 1
start b64 = to_the_end false
start hex = to_the_end false
start hexc = count 0
start (eui w) = any_octets w
start time = any_octets 4

-- "Tail fields: S[M], S[X], B64, X without C, R[L], N[O]."
abbrev pub tail : Kind → Bool
tail (int w l) = false
tail rrtype = false
tail bitmap = true
tail a4 = false
tail aa = false
tail aaaa = false
tail (name m) = m.optional
tail str = false
tail strs = true
tail raw = true
tail b32 = false
tail b64 = true
tail hex = true
tail hexc = false
tail (eui w) = false
tail time = false

-- A field of a description: its kind, its name (no octets: none) and its free text.
pub record Field : Type 0 where
  pub kind : Kind
  pub field_name : Part
  pub free_text : Part

-- the kinds of fields, in order
abbrev pub kinds : List Field → List Kind
kinds [] = []
kinds (f ∷ fs) = f.kind ∷ kinds fs
