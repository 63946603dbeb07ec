-- N and N[O]: read back, bounded, accepted.
use Prim.Native.Nat.{ℕ, zero, suc, ◌+◌, ◌*◌, ◌≤◌, ◌<◌}
use mathlib.Core.Path.{◌≡◌, refl, sym, ap, ◌∙◌, subst}
use mathlib.Core.Bool.{Bool, true, false, not, cond, ◌&&◌}
use mathlib.Core.List.{List, [], ◌∷◌, ◌++◌, map, append_assoc}
use Rattle.std.specs.Prelude.{Option, Some}
use native.Mathlib.Omega.{arith}
use lib.ListN.{length, length-append}
use lib.Dec.{leb, eqb}
use borrow.Author.Tests.{le-leb, eqb-true, leb-true}
use Rattle.format.specs.Lists.{null, flat_map, parted, split}
use Rattle.format.specs.Octets.{Octets, ascii, in_range, same_octets}
use Rattle.format.specs.Wire.{label_length, label_octet, Taken, short, bad, took, taken, takes_all}
use Rattle.format.specs.Field.{NameMarks, name}
use Rattle.format.specs.Token.{Token, between, in_bare, scanned, Item, plain, octet_of, outside, unescaped_from, unescaped}
use Rattle.format.specs.Text.{with_count}
use Rattle.format.specs.Name.{name_escape, or_root, name_text, is_dot, label_before, wire_name, name_of, read_name, is_wire_name}
use Rattle.format.specs.Catalogue.{TypeName}
use Rattle.format.specs.Run.{shown, Got, got, one_bare, read_field}
use Rattle.format.proofs.Lists.{and_left, and_right, not_true, bind_some, provided_some, map_first, below_parts}
use Rattle.format.proofs.Finite.{at_each}
use Rattle.format.proofs.Wire.{at_end_lem}
use Rattle.format.proofs.Token.{Parted, kept, kept_append, word_scanned, name_kept, name_begins, given_unescaped, Itemed, item, name_item, none_scanned}
use Rattle.format.proofs.Field.{Back, FieldLaws, bare_accepted}
use Rattle.format.proofs.Text.{all_pieces, counted_bound, escape_bound, escapes_bound, went_on, piece_taken, takes_piece, with_rest}

-- labels of 1 to 63 octets
abbrev Labels : List (List ℕ) → Type 0
Labels [] = Unit {0}
Labels (l ∷ ls) = (1 ≤ length l) × (length l ≤ 63) × Labels ls

-- the wire name of labels: they and an empty piece, after their counts
abbrev wire : List (List ℕ) → List ℕ
wire ls = flat_map with_count (ls ++ [] ∷ [])

wire_some : (ls : List (List ℕ)) → 1 ≤ length (wire ls)
wire_some [] = omega arith
wire_some (l ∷ ls) = omega arith

both_le : (a b c d : ℕ) → leb a b && leb c d ≡ true → (a ≤ b) × (c ≤ d)
both_le a b c d h = (leb-true a b (and_left (leb a b) (leb c d) h), leb-true c d (and_right (leb a b) (leb c d) h))

-- What is taken as a name from t octets on is one.
zero_last : (b : Bool) (t : ℕ) (p : List ℕ) → taken (label_length b t) (0 ∷ p) ≡ took (suc (length p)) → p ≡ []
unfolding taken
zero_last b t [] e = refl
zero_last b t (x ∷ p) e = cc

pub name_some : (t : ℕ) (p : List ℕ) → taken (label_length false t) p ≡ took (length p) → 1 ≤ length p
name_some t [] e = let z : ◌≡◌ {A = ℕ} 0 1 = cc (at_end_lem (label_length false t) 0 e).0 in absurd (omega arith)
name_some t (x ∷ p) e = omega arith

labels_taken : (m : ℕ) (b : Bool) (t : ℕ) (p : List ℕ) → length p ≤ m → 1 ≤ length p → t ≤ 254 → taken (label_length b t) p ≡ took (length p) → (ls : List (List ℕ)) × (p ≡ wire ls) × Labels ls × (t + length p ≤ 255)
labels_taken zero b t p h n k e = absurd (omega arith)
labels_taken (suc m) b t [] h n k e = absurd (omega arith)
labels_taken (suc m) b t (zero ∷ p) h n k e = let z = zero_last b t p e in ([], ap (λ r. 0 ∷ r) z, tt, omega (arith, ap length z))
labels_taken (suc m) b t (suc y ∷ p) h n k e =
    let u = t + 1 + suc y in
    let (c, d) = went_on (label_length b t) (label_octet y u) (leb (suc y) 63 && leb (u + 1) 255) (suc y) p (length p) refl e in
    let (l, w, f, g, a) = piece_taken (λ i. label_octet i u) (label_length false u) (λ x. refl) (λ i x. refl) (λ i. refl) y p d in
    let (i, j) = both_le (suc y) 63 (u + 1) 255 c in
    let (ls, v, o, s) = labels_taken m false u w (omega (arith, ap length f, length-append l w)) (name_some u w a) (omega arith) a in
    (l ∷ ls, with_rest (suc y) p l w (wire ls) f g v, (omega arith, omega arith, o), omega (arith, ap length f, length-append l w))

-- and the reverse
takes_labels : (b : Bool) (t : ℕ) (ls : List (List ℕ)) → Labels ls → t + length (wire ls) ≤ 255 → taken (label_length b t) (wire ls) ≡ took (length (wire ls))
unfolding taken
takes_labels b t [] h k = refl
takes_labels b t ([] ∷ ls) h k = absurd (omega (arith, h.0))
takes_labels b t ((x ∷ l) ∷ ls) h k =
    let u = t + 1 + suc (length l) in
    let s = length-append l (wire ls) in
    let n = wire_some ls in
    rw (
      le-leb (suc (length l)) 63 h.1,
      le-leb (u + 1) 255 (omega arith),
      takes_piece (λ i. label_octet i u) (label_length false u) (λ x. refl) (λ i x. refl) (λ i. refl) (length l) (x ∷ l) (wire ls) refl (takes_labels false u ls h.2 (omega arith)),
    )

-- so a name is what is taken as one
abbrev Labelled : List ℕ → Type 0
Labelled p = (ls : List (List ℕ)) × (p ≡ wire ls) × Labels ls

abbrev WireName : List ℕ → Type 0
WireName p = Labelled p × (length p ≤ 255)

taken_name : (b : Bool) (p : List ℕ) → 1 ≤ length p → taken (label_length b 0) p ≡ took (length p) → WireName p
taken_name b p n e = let (ls, f, g, k) = labels_taken (length p) b 0 p (omega arith) n (omega arith) e in ((ls, f, g), omega arith)

name_taken : (b : Bool) (p : List ℕ) → WireName p → taken (label_length b 0) p ≡ took (length p)
name_taken b p ((ls, e, h), k) = rw e (takes_labels b 0 ls h (omega (arith, ap length e)))

-- The text of a name: its labels, each before a dot.
abbrev dotted : List (List ℕ) → List ℕ
dotted [] = []
dotted (l ∷ ls) = flat_map name_escape l ++ 46 ∷ dotted ls

parted_dotted : (ls : List (List ℕ)) → parted (46 ∷ []) (map (flat_map name_escape) (ls ++ [] ∷ [])) ≡ dotted ls
parted_dotted [] = refl
parted_dotted (l ∷ []) = append_assoc (flat_map name_escape l) (46 ∷ []) []
parted_dotted (l ∷ m ∷ ls) =
    append_assoc (flat_map name_escape l) (46 ∷ []) (parted (46 ∷ []) (map (flat_map name_escape) (m ∷ ls ++ [] ∷ []))) ∙ ap (λ r. flat_map name_escape l ++ 46 ∷ r) (parted_dotted (m ∷ ls))

name_dotted : (l : List ℕ) (ls : List (List ℕ)) → name_text (wire (l ∷ ls)) ≡ or_root (dotted (l ∷ ls))
name_dotted l ls = ap or_root (ap (λ ps. parted (46 ∷ []) (map (flat_map name_escape) ps)) (all_pieces (l ∷ ls ++ [] ∷ [])) ∙ parted_dotted (l ∷ ls))

-- it is one bare token
label_kept : (l t : List ℕ) → Octets l → kept (in_bare false) (flat_map name_escape l ++ 46 ∷ t) ≡ kept (in_bare false) t
label_kept [] t b = refl
label_kept (x ∷ l) t b =
    rw (append_assoc (name_escape x) (flat_map name_escape l) (46 ∷ t)) (kept_append (in_bare false) (in_bare false) (name_escape x) (flat_map name_escape l ++ 46 ∷ t) (name_kept x b.0) ∙ label_kept l t b.1)

labels_kept : (ls : List (List ℕ)) → Octets (wire ls) → kept (in_bare false) (dotted ls) ≡ Some (in_bare false)
labels_kept [] b = refl
labels_kept (l ∷ ls) b = let (c, d) = below_parts 256 l (wire ls) b.1 in label_kept l (dotted ls) c ∙ labels_kept ls d

-- and its items, split at the dots, are the pieces
data Reads (t : List ℕ) (ps : List (List ℕ)) : Type 0 where
  reads : (is : List Item) → unescaped t ≡ Some is → map (map octet_of) (split is_dot is) ≡ ps → Reads t ps

octet_reads : (x : ℕ) (t l : List ℕ) (ps : List (List ℕ)) → x < 256 → Reads t (l ∷ ps) → Reads (name_escape x ++ t) ((x ∷ l) ∷ ps)
octet_reads x t l ps h (reads is e f) = by (name_item x h)
  where
    by : Itemed (name_escape x) x → Reads (name_escape x ++ t) ((x ∷ l) ∷ ps)
    by (item i a b c) = reads (i ∷ is) (rw (given_unescaped outside (name_escape x) t i a, e)) (rw (c, map_first octet_of i (split is_dot is), f, b))

label_reads : (l t : List ℕ) (ps : List (List ℕ)) → Octets l → Reads t ps → Reads (flat_map name_escape l ++ 46 ∷ t) (l ∷ ps)
unfolding unescaped_from
label_reads [] t ps b (reads is e f) = reads (plain 46 ∷ is) (rw e) (ap (λ r. [] ∷ r) f)
label_reads (x ∷ l) t ps b r = rw (append_assoc (name_escape x) (flat_map name_escape l) (46 ∷ t)) (octet_reads x (flat_map name_escape l ++ 46 ∷ t) l ps b.0 (label_reads l t ps b.1 r))

labels_read : (ls : List (List ℕ)) → Octets (wire ls) → Reads (dotted ls) (ls ++ [] ∷ [])
unfolding unescaped_from
labels_read [] b = reads [] refl refl
labels_read (l ∷ ls) b = let (c, d) = below_parts 256 l (wire ls) b.1 in label_reads l (dotted ls) (ls ++ [] ∷ []) c (labels_read ls d)

-- which give the wire name back
label_wire : (o : Option (List ℕ)) (l w : List ℕ) (ps : List (List ℕ)) → 1 ≤ length l → length l ≤ 63 → wire_name o ps ≡ Some w → wire_name o (l ∷ ps) ≡ Some (with_count l ++ w)
unfolding wire_name
label_wire o l w [] h k e = cc
label_wire o l w (m ∷ ps) h k e = rw (e, le-leb 1 (length l) h, le-leb (length l) 63 k)

labels_wire : (o : Option (List ℕ)) (ls : List (List ℕ)) → Labels ls → wire_name o (ls ++ [] ∷ []) ≡ Some (wire ls)
unfolding wire_name
labels_wire o [] h = refl
labels_wire o (l ∷ ls) h = label_wire o l (wire ls) (ls ++ [] ∷ []) h.0 h.1 (labels_wire o ls h.2)

-- The text of a label begins with neither a dot nor `@`.
abbrev begins : List ℕ → Bool
begins [] = false
begins (c ∷ t) = not (eqb c 46) && not (eqb c 64)

begun : (t r : List ℕ) → begins t ≡ true → (or_root (t ++ r) ≡ t ++ r) × (same_octets (t ++ r) (ascii ".") ≡ false) × (same_octets (t ++ r) (ascii "@") ≡ false)
begun [] r h = (cc, cc, cc)
begun (c ∷ t) r h = (refl, rw (not_true (eqb c 46) (and_left (not (eqb c 46)) (not (eqb c 64)) h)), rw (not_true (eqb c 64) (and_right (not (eqb c 46)) (not (eqb c 64)) h)))

-- one bare token, or none where b says so
abbrev one_or_none : Bool → (List ℕ → Option (List ℕ)) → List Token → Got
one_or_none b f ts = cond (b && null ts) (got [] []) (one_bare f ts)

word_back : (b : Bool) (f : List ℕ → Option (List ℕ)) (t p r : List ℕ) → kept between t ≡ Some (in_bare false) → f t ≡ Some p → Parted r
    → one_or_none b f (scanned between (t ++ r)) ≡ got p (scanned between r)
word_back true f t p r k e q = rw (word_scanned t r k q, e)
word_back false f t p r k e q = rw (word_scanned t r k q, e)

name_reads : (o t : List ℕ) (ls : List (List ℕ)) → same_octets t (ascii ".") ≡ false → same_octets t (ascii "@") ≡ false → Reads t (ls ++ [] ∷ []) → Labels ls → length (wire ls) ≤ 255 → read_name o t ≡ Some (wire ls)
name_reads o t ls a b (reads is e f) h k = rw (b, a, e, f, labels_wire (Some o) ls h, le-leb (length (wire ls)) 255 k)

labels_back : (b : Bool) (o r : List ℕ) (ls : List (List ℕ)) → Octets (wire ls) → Labels ls → length (wire ls) ≤ 255 → Parted r
    → one_or_none b (read_name o) (scanned between (name_text (wire ls) ++ r)) ≡ got (wire ls) (scanned between r)
labels_back b o r [] c h k q = word_back b (read_name o) (46 ∷ []) (0 ∷ []) r refl refl q
labels_back b o r ([] ∷ ls) c h k q = absurd (omega (arith, h.0))
labels_back b o r ((x ∷ l) ∷ ls) c h k q =
    let t = flat_map name_escape l ++ 46 ∷ dotted ls in
    let (d, g) = below_parts 256 (x ∷ l) (wire ls) c.1 in
    let a : dotted ((x ∷ l) ∷ ls) ≡ name_escape x ++ t = append_assoc (name_escape x) (flat_map name_escape l) (46 ∷ dotted ls) in
    let (u, v, w) = begun (name_escape x) t (at_each (λ x. begins (name_escape x)) 256 refl x d.0) in
    let m : name_text (wire ((x ∷ l) ∷ ls)) ≡ name_escape x ++ t = name_dotted (x ∷ l) ls ∙ ap or_root a ∙ u in
    let i : kept between (name_escape x ++ t) ≡ Some (in_bare false) = kept_append between (in_bare false) (name_escape x) t (name_begins x d.0) ∙ label_kept l (dotted ls) d.1 ∙ labels_kept ls g in
    let j = name_reads o (name_escape x ++ t) ((x ∷ l) ∷ ls) v w (rw a at (labels_read ((x ∷ l) ∷ ls) c)) h k in
    rw m (word_back b (read_name o) (name_escape x ++ t) (wire ((x ∷ l) ∷ ls)) r i j q)

-- a root's text has one octet more
root_bound : (t : List ℕ) → length (or_root t) ≤ length t + 1
root_bound [] = omega arith
root_bound (x ∷ t) = omega arith

labels_bound : (ls : List (List ℕ)) → length (name_text (wire ls)) ≤ 4 * length (wire ls) + 1
labels_bound [] = omega arith
labels_bound (l ∷ ls) =
    omega (arith, ap length (name_dotted l ls), root_bound (dotted (l ∷ ls)), ap length (parted_dotted (l ∷ ls)), counted_bound 46 (flat_map name_escape) (λ s. omega (arith, escapes_bound name_escape (escape_bound 0x21 (ascii ".\\\"';()@$")) s)) (l ∷ ls ++ [] ∷ []))

-- What reads to a name is one.
takes_all_lem : (r : Taken) (xs : List ℕ) → takes_all r xs ≡ true → r ≡ took (length xs)
takes_all_lem short xs e = cc
takes_all_lem bad xs e = cc
takes_all_lem (took n) xs e = ap took (eqb-true n (length xs) e)

origin_taken : (o : List ℕ) → is_wire_name o ≡ true → taken (label_length false 0) o ≡ took (length o)
origin_taken o h = takes_all_lem (taken (label_length false 0) o) o h

origin_name : (o : List ℕ) → is_wire_name o ≡ true → WireName o
origin_name o h = taken_name false o (name_some 0 o (origin_taken o h)) (origin_taken o h)

pub wire_name_255 : (o : List ℕ) → is_wire_name o ≡ true → (1 ≤ length o) × (length o ≤ 255)
wire_name_255 o h = (name_some 0 o (origin_taken o h), (origin_name o h).1)

before_name : (l v w : List ℕ) → Labelled v → label_before l v ≡ Some w → Labelled w
before_name l v w (ls, f, h) e =
    let (a, b) = provided_some (in_range 1 63 (length l)) (with_count l ++ v) w e in
    let (c, d) = both_le 1 (length l) (length l) 63 a in
    (l ∷ ls, sym b ∙ ap (λ r. with_count l ++ r) f, (c, d, h))

wire_accepted : (o w : List ℕ) (ps : List (List ℕ)) → Labelled o → wire_name (Some o) ps ≡ Some w → Labelled w
unfolding wire_name
wire_accepted o w [] n e = let z : ◌≡◌ {A = ℕ} 0 1 = cc in absurd (omega arith)
wire_accepted o w ([] ∷ []) n e = ([], cc, tt)
wire_accepted o w ((x ∷ l) ∷ []) n e = before_name (x ∷ l) o w n e
wire_accepted o w (l ∷ m ∷ ps) n e = let (v, a, b) = bind_some (wire_name (Some o) (m ∷ ps)) (label_before l) w e in before_name l v w (wire_accepted o v (m ∷ ps) n a) b

-- a test's first answer, or what its other one gives
if_some : {A : Type 0} (P : A → Type 0) (c : Bool) (x p : A) (y : Option A) → P x → (y ≡ Some p → P p) → cond c (Some x) y ≡ Some p → P p
if_some P true x p y h k e = subst P (cc) h
if_some P false x p y h k e = k e

text_accepted : (o t p : List ℕ) → WireName o → name_of (Some o) t ≡ Some p → WireName p
text_accepted o t p n e = if_some WireName (same_octets t (ascii ".")) (0 ∷ []) p _ (([], refl, tt), omega arith) (λ f.
    let (is, a, g) = bind_some (unescaped t) _ p f in
    let (w, b, h) = bind_some (wire_name (Some o) _) _ p g in
    let (c, d) = provided_some (leb (length w) 255) w p h in
    subst WireName d (wire_accepted o w _ n.0 b, leb-true (length w) 255 c)) e

name_accepted : (b : Bool) (o : List ℕ) → is_wire_name o ≡ true → (t p : List ℕ) → read_name o t ≡ Some p → taken (label_length b 0) p ≡ took (length p)
name_accepted b o h t p e = let n = origin_name o h in name_taken b p (if_some WireName (same_octets t (ascii "@")) o p (name_of (Some o) t) n (text_accepted o t p n) e)

field_accepted : (b : Bool) (o : List ℕ) → is_wire_name o ≡ true → (ts us : List Token) (p : List ℕ) → one_or_none b (read_name o) ts ≡ got p us → taken (label_length b 0) p ≡ took (length p)
unfolding taken
field_accepted true o h [] us p e = let z : p ≡ [] = cc in rw z
field_accepted true o h (t ∷ ts) us p e = bare_accepted (label_length true 0) (read_name o) (name_accepted true o h) (t ∷ ts) us p e
field_accepted false o h ts us p e = bare_accepted (label_length false 0) (read_name o) (name_accepted false o h) ts us p e

field_back : (b : Bool) (o p r : List ℕ) → Octets p → taken (label_length b 0) p ≡ took (length p) → Parted r → (b ≡ true → r ≡ [])
    → one_or_none b (read_name o) (scanned between (name_text p ++ r)) ≡ got p (scanned between r)
field_back true o [] r c e q t = rw (t refl, none_scanned)
field_back false o [] r c e q t = absurd (omega (arith, name_some 0 [] e))
field_back b o (x ∷ p) r c e q t =
    let ((ls, f, g), k) = taken_name b (x ∷ p) (omega arith) e in
    subst (λ w. one_or_none b (read_name o) (scanned between (name_text w ++ r)) ≡ got w (scanned between r)) (sym f) (labels_back b o r ls (subst Octets f c) g (omega (arith, ap length f)) q)

field_bound : (b : Bool) (p : List ℕ) → taken (label_length b 0) p ≡ took (length p) → length (name_text p) ≤ 4 * length p + 1
field_bound b [] e = omega arith
field_bound b (x ∷ p) e = let ((ls, f, g), k) = taken_name b (x ∷ p) (omega arith) e in subst (λ w. length (name_text w) ≤ 4 * length w + 1) (sym f) (labels_bound ls)

pub name_laws : (c : List TypeName) → (m : NameMarks) → FieldLaws c (name m)
unfolding Back shown read_field
name_laws c m = record {
  back = λ o p b e r q t. field_back m.optional o p r b e q t;
  bound = λ p b e. omega (arith, field_bound m.optional p e);
  accepted = λ o h ts us p e. field_accepted m.optional o h ts us p e;
}
