-- Text: tokens parted by blanks, and the escapes inside a token.
use Rattle.std.specs.Prelude.{ℕ, ◌+◌, ◌*◌, ◌-◌, Bool, true, false, not, cond, ◌&&◌, ◌||◌, List, [], ◌∷◌, leb, eqb}
use Prim.Native.Char.{code}
use Rattle.std.specs.Prelude.{Option, None, Some}
use Rattle.format.specs.Lists.{cons_both}
use Rattle.format.specs.Octets.{in_range, among, blank, digit}
use Rattle.format.specs.Number.{fixed_decimal}

-- "Octets are tab and 20 to 7E hex."
abbrev pub text_octet : ℕ → Bool
text_octet x = eqb x 9 || in_range 0x20 0x7E x

-- "quoted, by `"` or `'`"
abbrev pub quote_mark : ℕ → Bool
quote_mark x = eqb x (code "\"") || eqb x (code "'")

-- "A bare token holds no unescaped quote, `;`, `(` or `)`."
abbrev pub guarded : ℕ → Bool
guarded x = quote_mark x || eqb x (code ";") || eqb x (code "(") || eqb x (code ")")

-- A token: its octets as written, without the quotes. A fault inside it leaves nothing after it to be read.
pub data Token : Type 0 where
  bare : List ℕ → Token
  quoted : List ℕ → Token
  broken : Token

-- Where a scan stands: between tokens; in a bare one, or in one quoted by q, perhaps after a backslash; after a closing quote.
pub data Scan : Type 0 where
  between : Scan
  in_bare : Bool → Scan
  in_quotes : ℕ → Bool → Scan
  closed : Scan

-- What an octet does to a scan: it is left out, is kept in the token, ends the token, or breaks it.
pub data ScanMove : Type 0 where
  skip : Scan → ScanMove
  keep : Scan → ScanMove
  end_bare : ScanMove
  end_quoted : ScanMove
  breaks : ScanMove

-- an octet of a bare token, after no backslash
abbrev pub bare_octet : ℕ → ScanMove
bare_octet x = cond (text_octet x && not (guarded x)) (keep (in_bare (eqb x (code "\\")))) breaks

-- "A backslash takes the next octet into its token, a blank too." "A quoted token must be followed by a blank or the end."
abbrev pub scan_step : Scan → ℕ → ScanMove
scan_step between x = cond (blank x) (skip between) (cond (quote_mark x) (skip (in_quotes x false)) (bare_octet x))
scan_step (in_bare true) x = cond (text_octet x) (keep (in_bare false)) breaks
scan_step (in_bare false) x = cond (blank x) end_bare (bare_octet x)
scan_step (in_quotes q true) x = cond (text_octet x) (keep (in_quotes q false)) breaks
scan_step (in_quotes q false) x = cond (eqb x q) (skip closed) (cond (text_octet x) (keep (in_quotes q (eqb x (code "\\")))) breaks)
scan_step closed x = cond (blank x) end_quoted breaks

-- "an unclosed quote, like any fault inside a token"
abbrev pub scan_end : Scan → List Token
scan_end between = []
scan_end (in_bare true) = broken ∷ []
scan_end (in_bare false) = bare [] ∷ []
scan_end (in_quotes q e) = broken ∷ []
scan_end closed = quoted [] ∷ []

-- x before the octets of the first token
abbrev pub into_first : ℕ → List Token → List Token
into_first x [] = []
into_first x (bare t ∷ ts) = bare (x ∷ t) ∷ ts
into_first x (quoted t ∷ ts) = quoted (x ∷ t) ∷ ts
into_first x (broken ∷ ts) = broken ∷ ts

-- the tokens after that
abbrev pub after_scan : ℕ → ScanMove → (Scan → List Token) → List Token
after_scan x (skip s) f = f s
after_scan x (keep s) f = into_first x (f s)
after_scan x end_bare f = bare [] ∷ f between
after_scan x end_quoted f = quoted [] ∷ f between
after_scan x breaks f = broken ∷ []

-- The tokens from where a scan stands; inside a token, the first is the rest of it.
unfoldable pub scanned : Scan → List ℕ → List Token
scanned s [] = scan_end s
scanned s (x ∷ xs) = after_scan x (scan_step s x) (λ t. scanned t xs)

-- "Text is tokens parted by blanks"
abbrev pub tokens : List ℕ → List Token
tokens xs = scanned between xs

-- An octet of a token's value: written plainly, or by an escape.
pub data Item : Type 0 where
  plain : ℕ → Item
  escape : ℕ → Item

-- however it is written
abbrev pub octet_of : Item → ℕ
octet_of (plain x) = x
octet_of (escape x) = x

-- Where an escape stands: none begun; after the backslash; after one or two of its digits, with their number.
pub data Escaping : Type 0 where
  outside : Escaping
  slash : Escaping
  one_digit : ℕ → Escaping
  two_digits : ℕ → Escaping

-- What an octet does to an escape: moves it on, ends it with an octet of the value, or breaks it.
pub data EscapeMove : Type 0 where
  moves : Escaping → EscapeMove
  gives : Item → EscapeMove
  bad_escape : EscapeMove

-- "`\DDD` (000 to 255) and backslash with a nondigit are escapes."
abbrev pub escape_step : Escaping → ℕ → EscapeMove
escape_step outside x = cond (eqb x (code "\\")) (moves slash) (gives (plain x))
escape_step slash x = cond (digit x) (moves (one_digit (x - code "0"))) (gives (escape x))
escape_step (one_digit v) x = cond (digit x) (moves (two_digits (v * 10 + (x - code "0")))) bad_escape
escape_step (two_digits v) x = cond (digit x && leb (v * 10 + (x - code "0")) 255) (gives (escape (v * 10 + (x - code "0")))) bad_escape

-- no value ends inside an escape
abbrev pub escape_end : Escaping → Option (List Item)
escape_end outside = Some []
escape_end slash = None
escape_end (one_digit v) = None
escape_end (two_digits v) = None

-- the value after that
abbrev pub after_escape : EscapeMove → (Escaping → Option (List Item)) → Option (List Item)
after_escape (moves e) f = f e
after_escape (gives i) f = cons_both (Some i) (f outside)
after_escape bad_escape f = None

-- the value from where an escape stands
unfoldable pub unescaped_from : Escaping → List ℕ → Option (List Item)
unescaped_from e [] = escape_end e
unescaped_from e (x ∷ xs) = after_escape (escape_step e x) (λ f. unescaped_from f xs)

-- the value of a token's octets
abbrev pub unescaped : List ℕ → Option (List Item)
unescaped xs = unescaped_from outside xs

-- printing: a backslash before the special octets, `\DDD` outside lo to 7E hex
abbrev pub escaped : ℕ → List ℕ → ℕ → List ℕ
escaped lo special x = cond (among x special) (code "\\" ∷ x ∷ []) (cond (in_range lo 0x7E x) (x ∷ []) (code "\\" ∷ fixed_decimal 3 x))
