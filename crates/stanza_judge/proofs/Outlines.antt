-- The fields that the judge has found so far, and the lines that are left.
use Prim.Native.Nat.{ℕ, zero, suc, ◌+◌, ◌*◌, ◌/◌, ◌%◌, ◌≤◌, ◌<◌}
use mathlib.Core.Path.{◌≡◌, refl, sym, ap, ◌∙◌, subst}
use mathlib.Core.Bool.{Bool, true, false, ◌||◌, true≢false}
use mathlib.Core.List.{List, [], ◌∷◌, ◌++◌, map}
use native.Mathlib.Omega.{arith}
use native.Mathlib.Numerals.{add-one}
use native.Mathlib.Decide.{dec_lt}
use lib.ListN.{length, take, drop, get_or, set, length-set, get_or-map}
use lib.Seq.{slice, drop-cons, length-take-le, get_or-set_same, get_or-set_other}
use Rattle.std.proofs.lemmas.List.{map-set, length-map}
use borrow.Author.Tests.{le-leb, lt-leb, ne_eqb}
use Rattle.std.specs.Prelude.{Result, Ok, Err}
use Rattle.format.specs.Lists.{any_of}
use Rattle.format.specs.Field.{Field, kinds, tail}
use Rattle.format.specs.Lines.{lines}
use Rattle.format.specs.Judge.{Description, Progress, before_header, after_header, faulty, goes_on, after_tail, same_name, line_verdict, Judged, rejected, described, at_end, after_line, judged_from, judged}
use Rattle.octets.specs.Octets.{part_in}
use Rattle.stanza_form.specs.declared.FieldDesc.{FieldDesc}
use Rattle.stanza_form.specs.Forms.{kind_in}
use Rattle.stanza_form.specs.Fields.{field_of, Placed, no_field, fields_from}
use Rattle.stanza_form.specs.Code.{fields_of}
use Rattle.stanza_form.proofs.Codes.{without_text, without_texts, coded_at}
use Rattle.stanza_line.specs.declared.HeaderDesc.{HeaderDesc}
use Rattle.stanza_line.specs.declared.NewField.{NewField}
use Rattle.stanza_line.specs.declared.Span.{Span}
use Rattle.stanza_line.specs.declared.Refusal.{Refusal}
use Rattle.stanza_line.specs.declared.Refusal.TheVariants.{Malformed, Unknown, Forbidden, TooMany}
use Rattle.stanza_line.specs.declared.Seen.{Seen}
use Rattle.stanza_line.specs.declared.Seen.TheVariants.{Nothing, Header as SeenHeader, Tail}
use Rattle.stanza_line.specs.declared.Step.{Step}
use Rattle.stanza_line.specs.declared.Step.TheVariants.{Skip, Head, Add}
use Rattle.stanza_line.specs.Verdict.{refusal_number, header_of, field_for, named_among, progress_of, tail_in, Stands, step_of, Room, Due}
use Rattle.stanza_judge.specs.declared.Outline.{Outline}
use Rattle.stanza_judge.specs.Stanza.{lines_in, end_in, Whole, Begins, begun, outline_at, outline_of, AllPlaced, OutlinedAs}
use Rattle.stanza_judge.proofs.Walk.{NextLine, next_of, none_of}

-- `m` fields, starting at number k
module _ (s : List ℕ) (fs : List FieldDesc) (names ends : List ℕ) where
  fields_many : (k m : ℕ) → length (fields_from s fs names ends k m) ≡ m
  fields_many k zero = refl
  fields_many k (suc m) = ap suc (fields_many (k + 1) m)

-- where the names begin, and where they end
abbrev pub starts : List Span → List ℕ
starts xs = map (λ x. x.at) xs

abbrev pub ends : List Span → List ℕ
ends xs = map (λ x. x.end) xs

abbrev no_span : Span
no_span = record { at = 0; end = 0 }

module _ (s : List ℕ) (fs : List FieldDesc) (xs : List Span) (f : Field) (a e : ℕ) (p : f.field_name ≡ part_in s a e) where
  fields_named : (k m : ℕ) → k + m ≤ length xs → any_of (λ g. same_name g f) (fields_from s fs (starts xs) (ends xs) k m) ≡ named_among s (take m (drop k xs)) (slice a e s)
  fields_named k zero h = refl
  fields_named k (suc m) h =
      let l : k < length xs = omega arith in
      let q : drop k xs ≡ get_or xs k no_span ∷ drop (k + 1) xs = rw add-one (drop-cons xs k no_span l) in
      rw (q, get_or-map (λ x. x.at) xs k no_span, get_or-map (λ x. x.end) xs k no_span, fields_named (k + 1) m (omega arith), p)

-- one more field at the end
module _ (s : List ℕ) (fs : List FieldDesc) (names ends : List ℕ) (n : ℕ) (f : FieldDesc) (x y : ℕ) (h : n < length fs) (i : n < length names) (j : n < length ends) where
  new_field : field_of s (get_or (set fs n f) n no_field) (get_or (set names n x) n 0) (get_or (set ends n y) n 0) ≡ field_of s f x y
  new_field = rw (get_or-set_same fs n f no_field h, get_or-set_same names n x 0 i, get_or-set_same ends n y 0 j)

  old_field : (k : ℕ) → k < n → field_of s (get_or (set fs n f) k no_field) (get_or (set names n x) k 0) (get_or (set ends n y) k 0) ≡ field_of s (get_or fs k no_field) (get_or names k 0) (get_or ends k 0)
  old_field k l = rw (get_or-set_other fs n k f no_field (λ q. omega arith), get_or-set_other names n k x 0 (λ q. omega arith), get_or-set_other ends n k y 0 (λ q. omega arith))

  fields_more : (k m : ℕ) → k + m ≡ n → fields_from s (set fs n f) (set names n x) (set ends n y) k (m + 1) ≡ fields_from s fs names ends k m ++ field_of s f x y ∷ []
  fields_more k zero q = let r : k ≡ n = omega arith in rw (r) (ap (λ z. z ∷ []) new_field)
  fields_more k (suc m) q = let t : suc m + 1 ≡ suc (m + 1) = omega arith in rw (t, old_field k (omega arith), fields_more (k + 1) m (omega arith))

  one_field_more : fields_from s (set fs n f) (set names n x) (set ends n y) 0 (n + 1) ≡ fields_from s fs names ends 0 n ++ field_of s f x y ∷ []
  one_field_more = fields_more 0 n (omega arith)

-- the same, with the name's place
module _ (s : List ℕ) (fs : List FieldDesc) (xs : List Span) (n : ℕ) (f : FieldDesc) (x : Span) (h : n < length fs) (i : n < length xs) where
  one_name_more : fields_from s (set fs n f) (starts (set xs n x)) (ends (set xs n x)) 0 (n + 1) ≡ fields_from s fs (starts xs) (ends xs) 0 n ++ field_of s f x.at x.end ∷ []
  one_name_more =
      rw (map-set (λ y. y.at) xs n x, map-set (λ y. y.end) xs n x)
      (one_field_more s fs (starts xs) (ends xs) n f x.at x.end h (omega (arith, length-map xs (λ (y : Span). y.at))) (omega (arith, length-map xs (λ (y : Span). y.end))))

-- its qualifiers lie in the stanza, as those of the others do
more_placed : (s : List ℕ) (fs : List FieldDesc) (n : ℕ) (f : FieldDesc) → n < length fs → AllPlaced s fs n → Placed s f → AllPlaced s (set fs n f) (n + 1)
more_placed s fs n f h p q k l = by (dec_lt k n)
  where
    by : Dec (k < n) → Placed s (get_or (set fs n f) k no_field)
    by (yes a) = subst (Placed s) (sym (get_or-set_other fs n k f no_field (λ z. omega arith))) (p k a)
    by (no a) = let z : k ≡ n = omega arith in subst (Placed s) (sym (ap (λ i. get_or (set fs n f) i no_field) z ∙ get_or-set_same fs n f no_field h)) q

tail_snoc : (fs : List Field) (f : Field) → after_tail (fs ++ f ∷ []) ≡ after_tail fs || tail f.kind
tail_snoc [] f = by (tail f.kind)
  where
    by : (b : Bool) → b || false ≡ b
    by true = refl
    by false = refl
tail_snoc (g ∷ fs) f = by (tail g.kind) (tail_snoc fs f)
  where
    by : (b : Bool) → after_tail (fs ++ f ∷ []) ≡ after_tail fs || tail f.kind → b || after_tail (fs ++ f ∷ []) ≡ (b || after_tail fs) || tail f.kind
    by true e = refl
    by false e = e

-- After some lines: judging the lines from `at` on, from the description so far, gives what judging all the lines gives.
abbrev so_far : List ℕ → HeaderDesc → List FieldDesc → List Span → ℕ → Description
so_far s h fs names n = record { header = header_of s h; fields = fields_from s fs (starts names) (ends names) 0 n }

pub record Kept (in_file : Bool) (all : Judged) (s : List ℕ) (h : HeaderDesc) (fs : List FieldDesc) (names : List Span) (n : ℕ) (seen : Seen) (at line : ℕ) : Type 0 where
  pub none_yet : seen ≡ Nothing → n ≡ 0
  pub tails : after_tail (fields_from s fs (starts names) (ends names) 0 n) ≡ tail_in seen
  pub placed : AllPlaced s fs n
  pub whole : in_file ≡ false → Whole s at
  pub left : judged_from in_file line (progress_of seen (so_far s h fs names n)) (lines_in in_file s at) ≡ all

stands : {in_file : Bool} {all : Judged} {s : List ℕ} {h : HeaderDesc} {fs : List FieldDesc} {names : List Span} {n : ℕ} {seen : Seen} {at line : ℕ}
    → Kept in_file all s h fs names n seen at line → n ≤ length names → Stands s (so_far s h fs names n) seen (take n names)
stands {in_file} {all} {s} {h} {fs} {names} {n} k l = record {
  many = fields_many s fs (starts names) (ends names) 0 n ∙ sym (length-take-le n names l);
  tails = k.tails;
  named = λ f a e p. fields_named s fs names f a e p 0 n (omega arith);
}

-- the first line of those that are left
module _ (in_file : Bool) (s : List ℕ) (p : Progress) (at line : ℕ) (w : in_file ≡ false → Whole s at) (l : at < length s) where
  one_line : judged_from in_file line p (lines_in in_file s at) ≡ after_line (line_verdict in_file p (part_in s at (end_in in_file s at))) line (λ t. judged_from in_file (line + 1) t (lines_in in_file s (end_in in_file s at + 1)))
  unfolding judged_from
  one_line = rw ((next_of in_file s at w l).first, add-one line)

  after_step : (r : Result Step Refusal) (q : Progress) → step_of s p r ≡ line_verdict in_file p (part_in s at (end_in in_file s at)) → step_of s p r ≡ goes_on q → judged_from in_file (line + 1) q (lines_in in_file s (end_in in_file s at + 1)) ≡ judged_from in_file line p (lines_in in_file s at)
  after_step r q e g = sym (one_line ∙ ap (λ v. after_line v line (λ t. judged_from in_file (line + 1) t (lines_in in_file s (end_in in_file s at + 1)))) (sym e ∙ g))

  after_refusal : (r : Refusal) → step_of s p (Err r) ≡ line_verdict in_file p (part_in s at (end_in in_file s at)) → judged_from in_file line p (lines_in in_file s at) ≡ rejected (refusal_number r) line
  after_refusal r e = one_line ∙ ap (λ v. after_line v line (λ t. judged_from in_file (line + 1) t (lines_in in_file s (end_in in_file s at + 1)))) (sym e)

-- a refusal's number is not 0
refusal_some : (r : Refusal) → 1 ≤ refusal_number r
refusal_some Malformed = omega arith
refusal_some Unknown = omega arith
refusal_some Forbidden = omega arith
refusal_some TooMany = omega arith

-- before the first line, and from one line to the next
kept_start : (in_file : Bool) (s : List ℕ) (h : HeaderDesc) (fs : List FieldDesc) (names : List Span) (at line : ℕ) → (in_file ≡ false → Whole s at)
    → Kept in_file (judged_from in_file line before_header (lines_in in_file s at)) s h fs names 0 Nothing at line
kept_start in_file s h fs names at line w = record { none_yet = λ q. refl; tails = refl; placed = λ k q. absurd (omega arith); whole = w; left = refl }

module _ {in_file : Bool} {all : Judged} {s : List ℕ} {h : HeaderDesc} {fs : List FieldDesc} {names : List Span} {n : ℕ} {seen : Seen} {at line : ℕ} (k : Kept in_file all s h fs names n seen at line) (l : at < length s) where
  kept_skip : goes_on (progress_of seen (so_far s h fs names n)) ≡ line_verdict in_file (progress_of seen (so_far s h fs names n)) (part_in s at (end_in in_file s at)) → Kept in_file all s h fs names n seen (end_in in_file s at + 1) (line + 1)
  kept_skip e = record {
    none_yet = k.none_yet;
    tails = k.tails;
    placed = k.placed;
    whole = (next_of in_file s at k.whole l).rest;
    left = after_step in_file s (progress_of seen (so_far s h fs names n)) at line k.whole l (Ok Skip) (progress_of seen (so_far s h fs names n)) e refl ∙ k.left;
  }

  kept_head : (x : HeaderDesc) → seen ≡ Nothing → step_of s (progress_of seen (so_far s h fs names n)) (Ok (Head x)) ≡ line_verdict in_file (progress_of seen (so_far s h fs names n)) (part_in s at (end_in in_file s at))
      → Kept in_file all s x fs names n SeenHeader (end_in in_file s at + 1) (line + 1)
  kept_head x q e = record {
    none_yet = λ z. cc;
    tails = rw none_so_far;
    placed = k.placed;
    whole = (next_of in_file s at k.whole l).rest;
    left = rw none_so_far (after_step in_file s (progress_of seen (so_far s h fs names n)) at line k.whole l (Ok (Head x)) (after_header (record { header = header_of s x; fields = [] })) e refl ∙ k.left);
  }
    where
      none_so_far : fields_from s fs (starts names) (ends names) 0 n ≡ []
      none_so_far = rw (k.none_yet q)

  kept_add : (f : NewField) (t : Seen) → n < length fs → n < length names → seen ≡ SeenHeader → Placed s f.field
      → ((d : Description) → progress_of t d ≡ after_header d) → tail_in t ≡ tail (kind_in s f.field.qualifiers_at f.field.qualifiers_end f.field.form)
      → step_of s (progress_of seen (so_far s h fs names n)) (Ok (Add f)) ≡ line_verdict in_file (progress_of seen (so_far s h fs names n)) (part_in s at (end_in in_file s at))
      → Kept in_file all s h (set fs n f.field) (set names n f.name) (n + 1) t (end_in in_file s at + 1) (line + 1)
  kept_add f t x y q g u v e = record {
    none_yet = λ z. later t z u;
    tails = ap after_tail more ∙ tail_snoc (fields_from s fs (starts names) (ends names) 0 n) (field_for s f) ∙ ap (λ c. c || tail (field_for s f).kind) (k.tails ∙ ap tail_in q) ∙ sym v;
    placed = more_placed s fs n f.field x k.placed g;
    whole = (next_of in_file s at k.whole l).rest;
    left = ap (λ p. judged_from in_file (line + 1) p (lines_in in_file s (end_in in_file s at + 1))) (u (so_far s h (set fs n f.field) (set names n f.name) (n + 1)) ∙ ap (λ gs. after_header (record { header = header_of s h; fields = gs })) more)
        ∙ after_step in_file s (progress_of seen (so_far s h fs names n)) at line k.whole l (Ok (Add f)) (after_header (record { header = header_of s h; fields = fields_from s fs (starts names) (ends names) 0 n ++ field_for s f ∷ [] })) e added ∙ k.left;
  }
    where
      more : fields_from s (set fs n f.field) (starts (set names n f.name)) (ends (set names n f.name)) 0 (n + 1) ≡ fields_from s fs (starts names) (ends names) 0 n ++ field_for s f ∷ []
      more = one_name_more s fs names n f.field f.name x y

      added : step_of s (progress_of seen (so_far s h fs names n)) (Ok (Add f)) ≡ goes_on (after_header (record { header = header_of s h; fields = fields_from s fs (starts names) (ends names) 0 n ++ field_for s f ∷ [] }))
      added = rw q

      later : (t : Seen) → t ≡ Nothing → ((d : Description) → progress_of t d ≡ after_header d) → n + 1 ≡ 0
      later t z u = let w : before_header ≡ after_header (so_far s h fs names n) = rw z at (u (so_far s h fs names n)) in cc

  kept_refused : (m : Refusal) → faulty (refusal_number m) ≡ line_verdict in_file (progress_of seen (so_far s h fs names n)) (part_in s at (end_in in_file s at)) → rejected (refusal_number m) line ≡ all
  kept_refused m e = sym (after_refusal in_file s (progress_of seen (so_far s h fs names n)) at line k.whole l m e) ∙ k.left

-- after the last line
module _ {in_file : Bool} {all : Judged} {s : List ℕ} {h : HeaderDesc} {fs : List FieldDesc} {names : List Span} {n : ℕ} {seen : Seen} {at line : ℕ} (k : Kept in_file all s h fs names n seen at line) (l : length s ≤ at) where
  at_the_end : at_end (progress_of seen (so_far s h fs names n)) ≡ all
  at_the_end = sym (none_of in_file s at line (progress_of seen (so_far s h fs names n)) k.whole l) ∙ k.left

  no_fields : n ≡ 0 → rejected 2 0 ≡ all
  no_fields q = by seen (rw q at at_the_end)
    where
      by : (b : Seen) → at_end (progress_of b (so_far s h fs names 0)) ≡ all → rejected 2 0 ≡ all
      by Nothing e = e
      by SeenHeader e = e
      by Tail e = e

  some_fields : (n ≡ 0 → ⊥) → described (so_far s h fs names n) ≡ all
  some_fields q = by seen refl n refl
    where
      by : (b : Seen) → seen ≡ b → (m : ℕ) → n ≡ m → described (so_far s h fs names n) ≡ all
      by Nothing e m z = absurd (q (k.none_yet e))
      by SeenHeader e zero z = absurd (q z)
      by SeenHeader e (suc m) z = rw z (rw (e, z) at at_the_end)
      by Tail e zero z = absurd (q z)
      by Tail e (suc m) z = rw z (rw (e, z) at at_the_end)

-- the fields of the codes: their kinds, and the places of their qualifiers
module _ (s codes : List ℕ) (fs : List FieldDesc) (e : fields_of codes ≡ without_texts fs) where
  coded_field : (k : ℕ) → get_or (fields_of codes) k no_field ≡ without_text (get_or fs k no_field)
  coded_field k = ap (λ ds. get_or ds k no_field) e ∙ coded_at fs k

  coded_kinds : (names ends : List ℕ) (k m : ℕ) → kinds (fields_from s fs names ends k m) ≡ kinds (fields_from s (fields_of codes) [] [] k m)
  coded_kinds names ends k zero = refl
  coded_kinds names ends k (suc m) = rw (coded_field k, coded_kinds names ends (k + 1) m)

  coded_placed : (n : ℕ) → AllPlaced s fs n → AllPlaced s (fields_of codes) n
  coded_placed n p k l = subst (Placed s) (sym (coded_field k)) (record { from = (p k l).from; to = (p k l).to; listed = (p k l).listed })

-- After `line` lines, none of which is refused.
pub record Judging (in_file : Bool) (all : Judged) (s : List ℕ) (h : HeaderDesc) (fs : List FieldDesc) (names : List Span) (n : ℕ) (seen : Seen) (at line : ℕ) : Type 0 where
  pub within : at ≤ length s + 1
  pub few : n ≤ 64
  pub counted : line ≤ at
  pub all_fields : length fs ≡ 64
  pub all_names : length names ≡ 64
  pub short : length s ≤ 8192
  pub kept : Kept in_file all s h fs names n seen at (line + 1)

-- before any line there is no header
abbrev pub no_header : HeaderDesc
no_header = record { name_at = 0; name_end = 0; number = 0; text_at = 0; text_end = 0 }

pub judging_start : (in_file : Bool) (s : List ℕ) (h : HeaderDesc) (fs : List FieldDesc) (names : List Span) → length fs ≡ 64 → length names ≡ 64
    → (at line : ℕ) → Begins in_file s at line → Judging in_file (begun in_file s at line) s h fs names 0 Nothing at line
judging_start in_file s h fs names x y at line b = record {
  within = b.within;
  few = omega arith;
  counted = b.counted;
  all_fields = x;
  all_names = y;
  short = b.short;
  kept = kept_start in_file s h fs names at (line + 1) b.whole;
}

-- a turn of the loop, at a line that is left
module _ {in_file : Bool} {all : Judged} {s : List ℕ} {h : HeaderDesc} {fs : List FieldDesc} {names : List Span} {n : ℕ} {seen : Seen} {at line : ℕ}
    (j : Judging in_file all s h fs names n seen at line) (m : at < length s) where
  -- the line from `at` to e
  module _ (e : ℕ) (w : e ≡ end_in in_file s at) where
    next : NextLine in_file s at
    next = next_of in_file s at j.kept.whole m

    pub line_within : (at ≤ e) × (e ≤ length s)
    line_within = (rw w next.from, rw w next.within)

    -- what that line does
    module _ (r : Result Step Refusal) (u : Due s seen (length (take n names)) r)
        (g : (d : Description) → Stands s d seen (take n names) → step_of s (progress_of seen d) r ≡ line_verdict in_file (progress_of seen d) (part_in s at e)) where
      here : step_of s (progress_of seen (so_far s h fs names n)) r ≡ line_verdict in_file (progress_of seen (so_far s h fs names n)) (part_in s at (end_in in_file s at))
      here = rw w at (g (so_far s h fs names n) (stands j.kept (omega (arith, j.few, j.all_names))))

      going : {x : HeaderDesc} {gs : List FieldDesc} {ns : List Span} {k : ℕ} {a : Seen} → k ≤ 64 → length gs ≡ 64 → length ns ≡ 64 → Kept in_file all s x gs ns k a (end_in in_file s at + 1) (line + 1 + 1)
          → Judging in_file all s x gs ns k a (e + 1) (line + 1)
      going l x y k = record {
        within = omega (arith, line_within.1);
        few = l;
        counted = omega (arith, line_within.0, j.counted);
        all_fields = x;
        all_names = y;
        short = j.short;
        kept = rw w k;
      }

      pub turn_skip : r ≡ Ok Skip → Judging in_file all s h fs names n seen (e + 1) (line + 1)
      turn_skip q = going j.few j.all_fields j.all_names (kept_skip j.kept m (rw q at here))

      pub turn_head : {x : HeaderDesc} → r ≡ Ok (Head x) → Judging in_file all s x fs names n SeenHeader (e + 1) (line + 1)
      turn_head {x} q = going j.few j.all_fields j.all_names (kept_head j.kept m x (subst (Due s seen (length (take n names))) q u) (rw q at here))

      pub add_room : {f : NewField} → r ≡ Ok (Add f) → Room s seen n f
      add_room {f} q =
          let z : Room s seen (length (take n names)) f = subst (Due s seen (length (take n names))) q u in
          rw (length-take-le n names (omega (arith, j.few, j.all_names))) at z

      pub turn_add : {f : NewField} → r ≡ Ok (Add f) → (t : Seen) → ((d : Description) → progress_of t d ≡ after_header d)
          → tail_in t ≡ tail (kind_in s f.field.qualifiers_at f.field.qualifiers_end f.field.form)
          → Judging in_file all s h (set fs n f.field) (set names n f.name) (n + 1) t (e + 1) (line + 1)
      turn_add {f} q t v b =
          let z = add_room q in
          going (omega (arith, z.few)) (length-set fs n f.field ∙ j.all_fields) (length-set names n f.name ∙ j.all_names)
          (kept_add j.kept m f t (omega (arith, z.few, j.all_fields)) (omega (arith, z.few, j.all_names)) z.after z.placed v b (rw q at here))

      pub turn_refuse : (k : Refusal) → r ≡ Err k → rejected (refusal_number k) (line + 1) ≡ all
      turn_refuse k q = kept_refused j.kept m k (rw q at here)

-- what the outline says
module _ {in_file : Bool} {all : Judged} {s codes : List ℕ} {h : HeaderDesc} {fs : List FieldDesc} {names : List Span} {n : ℕ} {seen : Seen} {at line : ℕ}
    (j : Judging in_file all s h fs names n seen at line) (c : fields_of codes ≡ without_texts fs) where
  outlined : (r place : ℕ) → outline_of (so_far s h fs names n) (record { number = r; line = place; count = n }) ≡ all → (r ≡ 0 → AllPlaced s fs n)
      → OutlinedAs all s codes (record { number = r; line = place; count = n })
  outlined r place q p = record {
    found = so_far s h fs names n;
    judges = q;
    many = fields_many s fs (starts names) (ends names) 0 n;
    coded = coded_kinds s codes fs c (starts names) (ends names) 0 n;
    placed = λ z. coded_placed s codes fs c n (p z);
  }

  -- a line was refused
  pub refused_outlined : (r place : ℕ) → 1 ≤ r → rejected r place ≡ all → OutlinedAs all s codes (record { number = r; line = place; count = n })
  refused_outlined r place l q = outlined r place (rw (ne_eqb r 0 (λ z. omega arith)) q) (λ z. absurd (omega arith))

  pub line_refused : (k : Refusal) (r place : ℕ) → r ≡ refusal_number k → rejected (refusal_number k) place ≡ all → OutlinedAs all s codes (record { number = r; line = place; count = n })
  line_refused k r place e q = refused_outlined r place (omega (arith, refusal_some k)) (rw e q)

  -- no line is left
  pub judging_end : length s ≤ at → (r : ℕ) → (n ≡ 0 → r ≡ 2) → (1 ≤ n → r ≡ 0) → OutlinedAs all s codes (record { number = r; line = 0; count = n })
  judging_end m r a b = by n refl
    where
      by : (i : ℕ) → n ≡ i → OutlinedAs all s codes (record { number = r; line = 0; count = n })
      by zero y = refused_outlined r 0 (omega (arith, a y)) (rw (a y) (no_fields j.kept m y))
      by (suc i) y =
          let e : r ≡ 0 = b (omega arith) in
          outlined r 0 (rw e (some_fields j.kept m (λ x. omega arith))) (λ x. j.kept.placed)

-- the parts of an outline can be read back from its number
pub packs : (number line count : ℕ) → number < 256 → line < 65536 → count ≤ 64 → outline_at (number * 4294967296 + line * 65536 + count) ≡ record { number = number; line = line; count = count }
packs number line count h i j = rw (first, second, third)
  where
    r : ℕ
    r = number * 4294967296 + line * 65536 + count

    first : r / 4294967296 % 256 ≡ number
    first = omega arith

    second : r / 65536 % 65536 ≡ line
    second = omega arith

    third : r % 65536 ≡ count
    third = omega arith

-- the whole stanza, short enough or too long
judged_lines : (s : List ℕ) → length s ≤ 8192 → judged s ≡ judged_from true 1 before_header (lines s)
unfolding judged
judged_lines s h = rw (le-leb (length s) 8192 h)

pub judged_long : (s : List ℕ) → 8192 < length s → rejected 1 0 ≡ judged s
unfolding judged
judged_long s h = rw (lt-leb (length s) 8192 h)

-- a file's lines begin at 0
module _ (s : List ℕ) (h : length s ≤ 8192) where
  pub file_begins : Begins true s 0 0
  file_begins = record { short = h; within = omega arith; counted = omega arith; whole = λ q. absurd (true≢false q) }

  pub file_begun : begun true s 0 0 ≡ judged s
  file_begun = sym (judged_lines s h)

-- a refusal before any line
pub told_outlined : {j : Judged} (s codes : List ℕ) (number place : ℕ) → 1 ≤ number → rejected number place ≡ j → OutlinedAs j s codes (record { number = number; line = place; count = 0 })
told_outlined {j} s codes number place l q = record {
  found = record { header = header_of s no_header; fields = [] };
  judges = rw (ne_eqb number 0 (λ z. omega arith)) q;
  many = refl;
  coded = refl;
  placed = λ z. absurd (omega arith);
}

-- the same outline, its verdict written in another way
pub as_judged : {i j : Judged} {s codes : List ℕ} {o : Outline} → i ≡ j → OutlinedAs i s codes o → OutlinedAs j s codes o
as_judged {i} {j} {s} {codes} {o} e h = subst (λ k. OutlinedAs k s codes o) e h
