-- What the code's answers mean, by the definitions of document 01.
use Rattle.std.specs.Prelude.{ℕ, zero, suc, ◌+◌, ◌≤◌, ◌<◌, ◌≡◌, Bool, true, false, not, cond, ◌&&◌, List, [], ◌∷◌, eqb, length, drop, Option, None, Some}
use Rattle.std.proofs.Math.Seq.{slice}
use Rattle.format.specs.Octets.{blank}
use Rattle.format.specs.Token.{text_octet, guarded, Token, bare, quoted, broken, Scan, in_bare, in_quotes, tokens}
use Rattle.octets.specs.Octets.{front_end as end_of}
use Rattle.tokens.specs.declared.Next.{Next}
use Rattle.tokens.specs.declared.Next.TheVariants.{Bare, Quoted, Broken}

-- the tokens that are left, given the next one, if there is one
abbrev pub tokens_by : List ℕ → Option Next → List Token
tokens_by t None = []
tokens_by t (Some (Bare a e)) = bare (slice a e t) ∷ tokens (drop e t)
tokens_by t (Some (Quoted a e)) = quoted (slice a e t) ∷ tokens (drop (e + 1) t)
tokens_by t (Some Broken) = broken ∷ []

-- where the next token may stand, from i on
abbrev pub Within : List ℕ → ℕ → Option Next → Type 0
Within t i None = Unit {0}
Within t i (Some (Bare a e)) = (i ≤ a) × (a < e) × (e ≤ length t)
Within t i (Some (Quoted a e)) = (i < a) × (a ≤ e) × (e < length t)
Within t i (Some Broken) = Unit {0}

-- Where a scan stands inside a token, after no backslash: a token quoted by q, or a bare one if q is 0.
abbrev pub inside : ℕ → Scan
inside zero = in_bare false
inside (suc q) = in_quotes (suc q) false

-- an octet that stands for itself there
abbrev pub standing : ℕ → ℕ → Bool
standing zero x = not (blank x) && text_octet x && not (guarded x) && not (eqb x 92)
standing (suc q) x = not (eqb x (suc q)) && not (eqb x 92) && text_octet x

-- the end of the run of such octets from i on, not past e
abbrev pub front_end : ℕ → List ℕ → ℕ → ℕ → ℕ
front_end q t i e = end_of (standing q) t i e

-- a backslash, before an octet that it takes into the token
abbrev pub escapes : List ℕ → Bool
escapes [] = false
escapes (x ∷ []) = false
escapes (x ∷ y ∷ xs) = eqb x 92 && text_octet y

-- "followed by a blank or the end"
abbrev pub parted_off : List ℕ → Bool
parted_off [] = true
parted_off (x ∷ xs) = blank x

abbrev pub closes : ℕ → List ℕ → Bool
closes q [] = false
closes q (x ∷ xs) = eqb x q && parted_off xs

-- the token whose octets stand from a to j, if it properly ends there, else a broken one
abbrev pub ended_at : List ℕ → ℕ → ℕ → ℕ → Next
ended_at t a zero j = cond (parted_off (drop j t)) (Bare a j) Broken
ended_at t a (suc q) j = cond (closes (suc q) (drop j t)) (Quoted a j) Broken

-- a token whose octets start at a: quoted by q, or bare if q is 0
abbrev pub From : List ℕ → ℕ → ℕ → Next → Type 0
From t q a (Bare b e) = (q ≡ 0) × (b ≡ a) × (a ≤ e) × (e ≤ length t) × (parted_off (drop e t) ≡ true)
From t q a (Quoted b e) = (1 ≤ q) × (b ≡ a) × (a ≤ e) × (e < length t)
From t q a Broken = Unit {0}
