-- What a type and its qualifiers mean in code, by the definitions of document 01.
use Rattle.std.specs.Prelude.{ℕ, ◌≡◌, Bool, cond, Option, None, Some, Result, Ok, Err, List, [], ◌∷◌}
use Rattle.std.proofs.Math.Seq.{slice}
use Rattle.std.specs.Int.Bits.{bit_or}
use Rattle.format.specs.Lists.{◌>>=◌, each_of, any_of}
use Rattle.format.specs.Field.{Kind}
use Rattle.format.specs.Grammar.{Qualifier, qualifier}
use Rattle.format.specs.Types.{Takes, unknown_word, allowed, Meaning, unknown, forbidden, means, or_forbidden, meaning_of, meaning}
use Rattle.stanza_words.specs.Qualifiers.{pieces_in, qualifiers_in, any_in}
use Rattle.stanza_words.specs.declared.Words.{Words}
use Rattle.stanza_words.specs.declared.Words.TheVariants.{OnR, OnN, OnS, OnX}
use Rattle.stanza_words.specs.declared.Test.TheVariants.{IsWord}
use Rattle.stanza_form.specs.Forms.{kind_in, listed}
use Rattle.stanza_form.specs.declared.Form.{Form}
use Rattle.stanza_form.specs.declared.Form.TheVariants.{Bitmap, Name, Str, Strs, Raw, Hexc}
use Rattle.stanza_types.specs.declared.Misuse.{Misuse}
use Rattle.stanza_types.specs.declared.Misuse.TheVariants.{Malformed, Unknown, Forbidden}

-- what a type and its qualifiers from a to b mean; `none`: they break the grammar
abbrev pub meant_in : List ℕ → ℕ → ℕ → Result Form Misuse → Option Meaning
meant_in s a b (Err Malformed) = None
meant_in s a b (Err Unknown) = Some unknown
meant_in s a b (Err Forbidden) = Some forbidden
meant_in s a b (Ok f) = Some (means (kind_in s a b f))

-- what the qualifiers from a to b mean, if f gives the kind that they make where they are allowed
abbrev pub meaning_by : (List Qualifier → Option Kind) → List ℕ → ℕ → ℕ → Option Meaning
meaning_by f s a b = each_of qualifier (pieces_in s a b) >>= λ qs. Some (cond (any_of unknown_word qs) unknown (or_forbidden (f qs)))

-- what a type means with the qualifiers from a to b, of which there is at least one
abbrev pub qualified_in : Option Takes → List ℕ → ℕ → ℕ → Option Meaning
qualified_in t s a b = each_of qualifier (pieces_in s a b) >>= λ qs. Some (meaning_of t qs)

-- what the type k means with the qualifiers from a to b
abbrev pub meaning_in : List ℕ → List ℕ → ℕ → ℕ → Option Meaning
meaning_in k s a b = qualifiers_in s a b >>= λ qs. Some (meaning k qs)

-- the marks of a name in one octet
abbrev pub mark_of : Bool → ℕ → ℕ
mark_of given k = cond given k 0

abbrev pub marks_of : Bool → Bool → Bool → Bool → ℕ
marks_of c a i o = bit_or (bit_or (mark_of c 1) (mark_of a 2)) (bit_or (mark_of i 4) (mark_of o 8))

-- what the words of a type make: at least one is given, and none twice
abbrev pub name_form : List ℕ → ℕ → ℕ → Form
name_form s a b = Name (marks_of (any_in (IsWord 67) s a b) (any_in (IsWord 65) s a b) (any_in (IsWord 76) s a b) (any_in (IsWord 79) s a b))

abbrev pub made_of : List ℕ → ℕ → ℕ → Words → Result Form Misuse
made_of s a b OnR = Ok Bitmap
made_of s a b OnN = Ok (name_form s a b)
made_of s a b OnS = cond (any_in (IsWord 77) s a b) (cond (any_in (IsWord 88) s a b) (Err Forbidden) (Ok Strs)) (cond (any_in (IsWord 88) s a b) (Ok Raw) (Ok Str))
made_of s a b OnX = Ok Hexc

-- what the letter x makes: if a kind of field, then x as the only qualifier means that kind
abbrev pub MadeBy : Words → ℕ → Option Form → Type 0
MadeBy w x None = Unit {0}
MadeBy w x (Some f) = (s : List ℕ) (a b : ℕ) → slice a b s ≡ x ∷ [] → meant_in s a b (Ok f) ≡ meaning_by (allowed (listed w)) s a b
