-- What the judge guarantees of a description that it accepts.
use Prim.Native.Nat.{ℕ, suc, ◌+◌, ◌-◌, ◌^◌, ◌≤◌}
use mathlib.Core.Path.{◌≡◌, refl, ap, ◌∙◌, subst}
use mathlib.Core.Bool.{Bool, true, false, not, cond, ◌&&◌, ◌||◌}
use mathlib.Core.List.{List, [], ◌∷◌, ◌++◌}
use Rattle.std.specs.Prelude.{Option, None, Some}
use native.Mathlib.Omega.{arith}
use lib.ListN.{length, drop, length-append}
use lib.Dec.{leb, ltb, eqb}
use borrow.Author.Tests.{leb-false}
use Rattle.format.specs.Lists.{◌>>=◌, provided, cons_both, each_of, null, any_of, all_of, twice, Spanned, span}
use Rattle.format.specs.Octets.{ascii, in_range, among, blank, alphanumeric, name_octet, same_octets, split_on}
use Rattle.format.specs.Field.{Part, Symbol, Kind, int, rrtype, bitmap, a4, aa, aaaa, str, strs, raw, b32, b64, hex, hexc, eui, time, tail, Field, kinds}
use Rattle.format.specs.Number.{decimal_of}
use Rattle.format.specs.Lines.{placed, lines}
use Rattle.format.specs.Grammar.{part_at, is_name, name_at, after, free_text_at, Header, header_line, Qualifier, word, symbol, if_qualifier, qualifier, Qualified, not_bracket, if_qualifiers, qualifiers_at, field_name_at, FieldLine, if_type, field_line}
use Rattle.format.specs.Types.{Takes, symbols, words, TypeRow, has_word, name_kind, string_kind, type_rows, takes_of, unknown_word, symbol_of, word_of, same_symbol, allowed, Meaning, unknown, forbidden, means, or_forbidden, meaning_of, meaning}
use Rattle.format.specs.Judge.{Description, Progress, before_header, after_header, Verdict, faulty, goes_on, after_tail, same_name, with_field, of_meaning, of_field_line, of_header, as_set, content_line, ignored, line_verdict, Judged, rejected, described, at_end, after_line, judged_from, max_stanza, judged}
use Rattle.format.specs.Text.{pieces}
use Rattle.format.specs.Stored.{strings_in, whole_strings, tagged, is_edition, or_rejected, judged_stored, as_file, as_stored}
use Rattle.format.specs.Demands.{tails_last, sound_symbol, sound_kind, Sound, Judges}
use Rattle.format.proofs.Lists.{and_left, and_right, or_left, or_right, bind_some, provided_some, each_all, all_snoc, twice_snoc}
use Rattle.format.proofs.Token.{given}

-- the grammar: a symbol's spelling is a name
abbrev named_symbol : Qualifier → Bool
named_symbol (word w) = true
named_symbol (symbol s) = is_name s.spelling.octets

qualifier_named : (p : Part) (q : Qualifier) → qualifier p ≡ Some q → named_symbol q ≡ true
qualifier_named p q e =
    let (s, a, b) = bind_some (name_at p.octets) (if_qualifier p.place) q e in
    let (c, d) = provided_some (is_name (span name_octet p.octets).front) (span name_octet p.octets) s a in
    by s (rw d at c) (null s.rest) b
  where
    by : (s : Spanned) → is_name s.front ≡ true → (b : Bool)
        → cond b (Some (word s.front)) (after 61 s.rest >>= λ ds. decimal_of ds >>= λ n. Some (symbol (record { spelling = record { place = p.place; octets = s.front }; value = n }))) ≡ Some q
        → named_symbol q ≡ true
    by s h true e = let w : word s.front ≡ q = cc in rw (← w)
    by s h false e =
        let (ds, a, b) = bind_some (after 61 s.rest) _ q e in
        let (n, c, d) = bind_some (decimal_of ds) _ q b in
        let w : symbol (record { spelling = record { place = p.place; octets = s.front }; value = n }) ≡ q = cc in
        rw (← w) h

no_qualifiers : (r : List ℕ) (q : Qualified) → Some (record { qualifiers = []; rest = r }) ≡ Some q → all_of named_symbol q.qualifiers ≡ true
no_qualifiers r q e = let w : ◌≡◌ {A = Qualified} (record { qualifiers = []; rest = r }) q = cc in rw (← w)

qualifiers_named : (end : ℕ) (t : List ℕ) (q : Qualified) → qualifiers_at end t ≡ Some q → all_of named_symbol q.qualifiers ≡ true
qualifiers_named end [] q e = no_qualifiers [] q e
qualifiers_named end (x ∷ t) q e = by (eqb x 91) e
  where
    s : Spanned
    s = span not_bracket t

    by : (b : Bool) → cond b (if_qualifiers (end - length t) (span not_bracket t)) (Some (record { qualifiers = []; rest = x ∷ t })) ≡ Some q → all_of named_symbol q.qualifiers ≡ true
    by true e =
        let (qs, a, b) = bind_some (each_of qualifier (placed (end - length t) (split_on 44 s.front))) _ q e in
        let (r, c, d) = bind_some (after 93 s.rest) _ q b in
        let w : ◌≡◌ {A = Qualified} (record { qualifiers = qs; rest = r }) q = cc in
        rw (← w) (each_all qualifier named_symbol qualifier_named (placed (end - length t) (split_on 44 s.front)) qs a)
    by false e = no_qualifiers (x ∷ t) q e

line_named : (end : ℕ) (t : List ℕ) (l : FieldLine) → field_line end t ≡ Some l → all_of named_symbol l.qualifiers ≡ true
line_named end t l e =
    let (k, a, b) = bind_some (if_type (span alphanumeric t)) _ l e in
    let (q, c, d) = bind_some (qualifiers_at end k.rest) _ l b in
    let (n, f, g) = bind_some (field_name_at q.rest) _ l d in
    let (x, h, i) = bind_some (free_text_at end n.rest) _ l g in
    let w : ◌≡◌ {A = FieldLine} (record { keyword = k.front; qualifiers = q.qualifiers; field_name = part_at end (n.front ++ n.rest) n.front; free_text = x }) l = cc in
    rw (← w) (qualifiers_named end k.rest q c)

-- the types: what each row makes is sound
abbrev Sound-row : Takes → Type 0
Sound-row (symbols w) = among w (1 ∷ 2 ∷ 4 ∷ []) ≡ true
Sound-row (words ws f) = (given : List (List ℕ)) (k : Kind) → f given ≡ Some k → sound_kind k ≡ true

abbrev Sound-rows : List TypeRow → Type 0
Sound-rows [] = Unit {0}
Sound-rows (r ∷ rs) = Sound-row r.takes × Sound-rows rs

always : (j : Kind) → sound_kind j ≡ true → (given : List (List ℕ)) (k : Kind) → Some j ≡ Some k → sound_kind k ≡ true
always j h given k e = let w : j ≡ k = cc in rw (← w) h

either : (i j : Kind) → sound_kind i ≡ true → sound_kind j ≡ true → (b : Bool) → sound_kind (cond b i j) ≡ true
either i j h k true = h
either i j h k false = k

strings_sound : (given : List (List ℕ)) (k : Kind) → string_kind given ≡ Some k → sound_kind k ≡ true
strings_sound given k e = by (has_word given (ascii "M")) (has_word given (ascii "X")) e
  where
    by : (m x : Bool) → cond m (provided (not x) strs) (Some (cond x raw str)) ≡ Some k → sound_kind k ≡ true
    by true true e = cc
    by true false e = always strs refl given k e
    by false x e = always (cond x raw str) (either raw str refl refl x) given k e

rows_sound : Sound-rows type_rows
rows_sound =
    let r = always (eui 6) refl in (
      refl,
      (
        refl,
        (
          refl,
          (
            with_or_without rrtype bitmap refl refl,
            (
              always a4 refl,
              (
                always aa refl,
                (
                  always aaaa refl,
                  (
                    names_sound,
                    (
                      strings_sound,
                      (always b32 refl, (always b64 refl, (with_or_without hex hexc refl refl, (always time refl, (r, (always (eui 8) refl, (r, (always (eui 8) refl, tt)))))))),
                    ),
                  ),
                ),
              ),
            ),
          ),
        ),
      ),
    )
  where
    with_or_without : (i j : Kind) → sound_kind i ≡ true → sound_kind j ≡ true → (given : List (List ℕ)) (k : Kind) → Some (cond (null given) i j) ≡ Some k → sound_kind k ≡ true
    with_or_without i j h l given k e = always (cond (null given) i j) (either i j h l (null given)) given k e

    names_sound : (given : List (List ℕ)) (k : Kind) → Some (name_kind given) ≡ Some k → sound_kind k ≡ true
    names_sound given k e = always (name_kind given) refl given k e

row_of : (rs : List TypeRow) → Sound-rows rs → (k : List ℕ) (t : Takes) → takes_of rs k ≡ Some t → Sound-row t
row_of [] h k t e = let z : ◌≡◌ {A = ℕ} 0 1 = cc in absurd (omega arith)
row_of (r ∷ rs) h k t e = by (same_octets k r.type_word) e (row_of rs h.1 k t)
  where
    by : (b : Bool) → cond b (Some r.takes) (takes_of rs k) ≡ Some t → (takes_of rs k ≡ Some t → Sound-row t) → Sound-row t
    by true e ih = let w : r.takes ≡ t = cc in subst Sound-row w h.0
    by false e ih = ih e

symbol_sound : (w : ℕ) (q : Qualifier) (s : Symbol) → named_symbol q ≡ true → symbol_of w q ≡ Some s → sound_symbol w s ≡ true
symbol_sound w (word t) s h e = cc
symbol_sound w (symbol u) s h e = let (a, b) = provided_some (ltb u.value (256 ^ w)) u s e in rw (← b, h, a)

symbols_sound : (w : ℕ) (qs : List Qualifier) (l : List Symbol) → all_of named_symbol qs ≡ true → each_of (symbol_of w) qs ≡ Some l → all_of (sound_symbol w) l ≡ true
symbols_sound w [] l h e = let q : [] ≡ l = cc in rw (← q)
symbols_sound w (q ∷ qs) l h e = by (symbol_of w q) refl (each_of (symbol_of w) qs) refl e (λ m. symbols_sound w qs m (and_right (named_symbol q) (all_of named_symbol qs) h))
  where
    by : (o : Option Symbol) → symbol_of w q ≡ o → (p : Option (List Symbol)) → each_of (symbol_of w) qs ≡ p → cons_both o p ≡ Some l
        → ((m : List Symbol) → each_of (symbol_of w) qs ≡ Some m → all_of (sound_symbol w) m ≡ true) → all_of (sound_symbol w) l ≡ true
    by None a p b e ih = cc
    by (Some s) a None b e ih = cc
    by (Some s) a (Some m) b e ih = let z : s ∷ m ≡ l = cc in rw (← z, symbol_sound w q s (and_left (named_symbol q) (all_of named_symbol qs) h) a, ih m b)

allowed_sound : (t : Takes) (qs : List Qualifier) (k : Kind) → Sound-row t → all_of named_symbol qs ≡ true → allowed t qs ≡ Some k → sound_kind k ≡ true
allowed_sound (symbols w) qs k r h e =
    let (l, a, b) = bind_some (each_of (symbol_of w) qs) (λ l. provided (not (twice same_symbol l)) (int w l)) k e in
    let (c, d) = provided_some (not (twice same_symbol l)) (int w l) k b in
    rw (← d, r, symbols_sound w qs l h a, c)
allowed_sound (words ws f) qs k r h e =
    let (given, a, b) = bind_some (each_of word_of qs) (λ given. cond (all_of (has_word ws) given && not (twice same_octets given)) (f given) None) k e in
    by given (all_of (has_word ws) given && not (twice same_octets given)) b
  where
    by : (given : List (List ℕ)) (b : Bool) → cond b (f given) None ≡ Some k → sound_kind k ≡ true
    by given true e = r given k e
    by given false e = cc

meaning_sound : (w : List ℕ) (qs : List Qualifier) (k : Kind) → all_of named_symbol qs ≡ true → meaning w qs ≡ means k → sound_kind k ≡ true
meaning_sound w qs k h e = by (takes_of type_rows w) refl e
  where
    on : (t : Takes) → Sound-row t → (b : Bool) (o : Option Kind) → allowed t qs ≡ o → cond b unknown (or_forbidden o) ≡ means k → sound_kind k ≡ true
    on t r true o a e = cc
    on t r false None a e = cc
    on t r false (Some j) a e = let z : j ≡ k = cc in allowed_sound t qs k r h (a ∙ ap Some z)

    by : (o : Option Takes) → takes_of type_rows w ≡ o → meaning_of o qs ≡ means k → sound_kind k ≡ true
    by None a e = cc
    by (Some t) a e = on t (row_of type_rows rows_sound w t a) (any_of unknown_word qs) (allowed t qs) refl e

-- through the lines
record Fine (fs : List Field) : Type 0 where
  most : length fs ≤ 64
  tails : tails_last (kinds fs) ≡ true
  names : twice same_name fs ≡ false
  sound : all_of sound_kind (kinds fs) ≡ true

no_tails_last : (fs : List Field) (f : Field) → after_tail fs ≡ false → tails_last (kinds (fs ++ f ∷ [])) ≡ true
no_tails_last [] f h = refl
no_tails_last (g ∷ []) f h = rw (or_left (tail g.kind) false h)
no_tails_last (g ∷ k ∷ gs) f h = rw (or_left (tail g.kind) (after_tail (k ∷ gs)) h) (no_tails_last (k ∷ gs) f (or_right (tail g.kind) (after_tail (k ∷ gs)) h))

kinds_snoc : (fs : List Field) (f : Field) → kinds (fs ++ f ∷ []) ≡ kinds fs ++ f.kind ∷ []
kinds_snoc [] f = refl
kinds_snoc (g ∷ fs) f = ap (λ ks. g.kind ∷ ks) (kinds_snoc fs f)

-- what a line leads to
abbrev Leads : Progress → Type 0
Leads before_header = Unit {0}
Leads (after_header d) = Fine d.fields

abbrev Leading : Verdict → Type 0
Leading (faulty n) = Unit {0}
Leading (goes_on s) = Leads s

leading_cond : (b : Bool) (x y : Verdict) → Leading x → (b ≡ false → Leading y) → Leading (cond b x y)
leading_cond true x y h k = h
leading_cond false x y h k = k refl

field_leads : (d : Description) (f : Field) → Fine d.fields → sound_kind f.kind ≡ true → Leading (with_field d f)
field_leads d f h k =
    leading_cond (after_tail d.fields || any_of (λ g. same_name g f) d.fields) (faulty 4) _ tt (λ e.
    leading_cond (leb 64 (length d.fields)) (faulty 5) _ tt (λ l. record {
      most = omega (arith, leb-false 64 (length d.fields) l, length-append d.fields (f ∷ []));
      tails = no_tails_last d.fields f (or_left (after_tail d.fields) (any_of (λ g. same_name g f) d.fields) e);
      names = twice_snoc same_name d.fields f h.names (or_right (after_tail d.fields) (any_of (λ g. same_name g f) d.fields) e);
      sound = rw (kinds_snoc d.fields f) (all_snoc sound_kind (kinds d.fields) f.kind h.sound k);
    }))

meaning_leads : (d : Description) (l : FieldLine) (m : Meaning) → Fine d.fields → ((k : Kind) → m ≡ means k → sound_kind k ≡ true) → Leading (of_meaning d l m)
meaning_leads d l unknown h s = tt
meaning_leads d l forbidden h s = tt
meaning_leads d l (means k) h s = field_leads d (record { kind = k; field_name = l.field_name; free_text = l.free_text }) h (s k refl)

line_leads : (d : Description) (end : ℕ) (t : List ℕ) → Fine d.fields → Leading (of_field_line d (field_line end t))
line_leads d end t h = by (field_line end t) refl
  where
    by : (o : Option FieldLine) → field_line end t ≡ o → Leading (of_field_line d o)
    by None e = tt
    by (Some l) e = meaning_leads d l (meaning l.keyword l.qualifiers) h (λ k. meaning_sound l.keyword l.qualifiers k (line_named end t l e))

header_leads : (o : Option Header) → Leading (of_header o)
header_leads None = tt
header_leads (Some h) = by (in_range 1 65535 h.type_no)
  where
    by : (b : Bool) → Leading (cond b (goes_on (after_header (record { header = h; fields = [] }))) (faulty 4))
    by true = record { most = omega arith; tails = refl; names = refl; sound = refl }
    by false = tt

content_leads : (i : Bool) (s : Progress) (b : Bool) (end : ℕ) (t : List ℕ) → Leads s → Leading (content_line i s b end t)
content_leads i before_header true end t h = tt
content_leads i before_header false end t h = header_leads (header_line end t)
content_leads i (after_header d) b end t h = by (as_set i b)
  where
    by : (c : Bool) → Leading (cond c (of_field_line d (field_line end t)) (faulty 2))
    by true = line_leads d end t h
    by false = tt

verdict_leads : (i : Bool) (s : Progress) (l : Part) → Leads s → Leading (line_verdict i s l)
verdict_leads i s l h =
    leading_cond (ignored (span blank l.octets).rest) (goes_on s) _ h (λ e. content_leads i s (not (null (span blank l.octets).front)) (l.place + length l.octets) (span blank l.octets).rest h)

lines_fine : (f : Bool) (ls : List Part) (i : ℕ) (s : Progress) (d : Description) → Leads s → judged_from f i s ls ≡ described d → Fine d.fields × (1 ≤ length d.fields)
unfolding judged_from
lines_fine f [] i s d h e = by s h e
  where
    on : (c : Description) (fs : List Field) → c.fields ≡ fs → Fine c.fields → cond (null fs) (rejected 2 0) (described c) ≡ described d → Fine d.fields × (1 ≤ length d.fields)
    on c [] p h e = let z : ◌≡◌ {A = ℕ} 0 1 = cc in absurd (omega arith)
    on c (f ∷ fs) p h e = let w : c ≡ d = cc in rw (← w) (h, rw p (omega arith))

    by : (s : Progress) → Leads s → at_end s ≡ described d → Fine d.fields × (1 ≤ length d.fields)
    by before_header h e = let z : ◌≡◌ {A = ℕ} 0 1 = cc in absurd (omega arith)
    by (after_header c) h e = on c c.fields refl h e
lines_fine f (l ∷ ls) i s d h e = by (line_verdict f s l) (verdict_leads f s l h) e (λ t. lines_fine f ls (suc i) t d)
  where
    by : (v : Verdict) → Leading v → after_line v i (λ t. judged_from f (suc i) t ls) ≡ described d
        → ((t : Progress) → Leads t → judged_from f (suc i) t ls ≡ described d → Fine d.fields × (1 ≤ length d.fields)) → Fine d.fields × (1 ≤ length d.fields)
    by (faulty n) g q ih = let z : ◌≡◌ {A = ℕ} 0 1 = cc in absurd (omega arith)
    by (goes_on t) g q ih = ih t g q

-- a judge's answer, of a file's lines or of stored ones: what it describes is sound
abbrev Answers : Judged → Type 0
Answers j = (d : Description) → j ≡ described d → Sound d

pub lines_sound : (f : Bool) (i : ℕ) (ls : List Part) → Answers (judged_from f i before_header ls)
lines_sound f i ls d e =
    let (h, k) = lines_fine f ls i before_header d tt e in
    record { some_field = k; most_fields = h.most; tails_last_lem = h.tails; names_distinct = h.names; kinds_sound = h.sound }

-- what stands before the lines refuses, or leaves them
or_sound : (n i : ℕ) (b : Bool) (j : Judged) → Answers j → Answers (or_rejected n i b j)
or_sound n i true j k d e = k d e
or_sound n i false j k d e = let z : ◌≡◌ {A = ℕ} 0 1 = cc in absurd (omega arith)

pub judges : Judges
unfolding judged judged_stored
judges (as_file stanza) = or_sound _ _ (leb (length stanza) max_stanza) _ (lines_sound _ _ (lines stanza))
judges (as_stored edition txt) =
    or_sound _ _ (leb (length txt) max_stanza) _ (or_sound _ _ (is_edition edition) _ (or_sound _ _ (whole_strings txt) _ (or_sound _ _ (tagged (strings_in txt)) _
    (lines_sound _ _ (drop 1 (strings_in txt))))))
