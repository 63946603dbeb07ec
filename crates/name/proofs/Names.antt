-- Reading a name label by label gives what the definition, which works on all its pieces, gives.
use Prim.Native.Nat.{ℕ, ◌+◌, ◌-◌, ◌≤◌, ◌<◌}
use mathlib.Core.Path.{◌≡◌, refl, sym, ap, ◌∙◌}
use mathlib.Core.Bool.{Bool, true, false}
use mathlib.Core.List.{List, [], ◌∷◌, ◌++◌, map, append_assoc, append-nil}
use Rattle.std.specs.Prelude.{Option, None, Some}
use native.Mathlib.Omega.{arith}
use lib.Dec.{leb, eqb}
use lib.ListN.{length, drop, get_or, set, length-append, length-drop}
use borrow.Author.Tests.{le-leb, lt-leb}
use Rattle.std.proofs.lemmas.List.{drop-drop}
use Rattle.format.specs.Lists.{◌>>=◌, provided, cons_both, null, cons_first, split}
use Rattle.format.specs.Token.{Item, plain, escape, octet_of, slash, unescaped_from, unescaped}
use Rattle.format.specs.Text.{with_count}
use Rattle.format.specs.Name.{is_dot, label_before, wire_name}
use Rattle.format.proofs.Lists.{split_some, map_some, map_first, drop_next, drop_none}
use Rattle.format.proofs.Token.{none_left as nothing-unescaped}
use Rattle.buffer.specs.Writing.{Wrote, Values, after}
use Rattle.buffer.proofs.Laws.{wrote_none, wrote_one, wrote_append, wrote_before}
use Rattle.escape.specs.Escapes.{items_after, Within}
use Rattle.name.specs.Name.{labels_of, spelled, limited, OneItem, BeforeDot, BeforeOrigin, Finished}
use Rattle.buffer.proofs.Values.{Begun, begun_piece, begun_rest}
use Rattle.escape.proofs.Escapes.{plain_unescaped, slash_unescaped}

-- the pieces, item by item
octet_first : (i : Item) (is : List Item) → is_dot i ≡ false → labels_of (i ∷ is) ≡ cons_first (octet_of i) (labels_of is)
octet_first i is h = rw h (map_first octet_of i (split is_dot is))

dot_first : (i : Item) (is : List Item) → is_dot i ≡ true → labels_of (i ∷ is) ≡ [] ∷ labels_of is
dot_first i is h = rw h

some_label : (is : List Item) → null (labels_of is) ≡ false
some_label is = map_some (map octet_of) (split is_dot is) (split_some is_dot is)

-- the pieces, with octets put before those of the first
abbrev before : List ℕ → List (List ℕ) → List (List ℕ)
before p [] = []
before p (l ∷ ls) = (p ++ l) ∷ ls

before_none : (ps : List (List ℕ)) → before [] ps ≡ ps
before_none [] = refl
before_none (l ∷ ls) = refl

before_one : (p : List ℕ) (x : ℕ) (ps : List (List ℕ)) → before p (cons_first x ps) ≡ before (p ++ x ∷ []) ps
before_one p x [] = refl
before_one p x (l ∷ ls) = ap (λ q. q ∷ ls) (sym (append_assoc p (x ∷ []) l))

-- a label of 1 to 63 octets, one that is too long, and an empty one
label_short : (l w : List ℕ) → 1 ≤ length l → length l ≤ 63 → label_before l w ≡ Some (with_count l ++ w)
label_short l w h k = rw (le-leb 1 (length l) h, le-leb (length l) 63 k)

label_long : (l w : List ℕ) → 63 < length l → label_before l w ≡ None
label_long l w h = rw (le-leb 1 (length l) (omega arith), lt-leb (length l) 63 h)

label_bind : (l : List ℕ) → 1 ≤ length l → length l ≤ 63 → (x : Option (List ℕ)) → (x >>= label_before l) ≡ after (with_count l) x
label_bind l h k None = refl
label_bind l h k (Some w) = label_short l w h k

long_bind : (l : List ℕ) → 63 < length l → (x : Option (List ℕ)) → (x >>= label_before l) ≡ None
long_bind l h None = refl
long_bind l h (Some w) = label_long l w h

empty_bind : (x : Option (List ℕ)) → (x >>= label_before []) ≡ None
empty_bind None = refl
empty_bind (Some w) = refl

-- the name whose first label begins with p and goes on with the items that are left
abbrev named : List ℕ → List ℕ → Option (List Item) → Option (List ℕ)
named o p x = x >>= λ is. wire_name (Some o) (before p (labels_of is))

module _ (o : List ℕ) where
  named_none : (x : Option (List Item)) → named o [] x ≡ (x >>= λ is. wire_name (Some o) (labels_of is))
  named_none None = refl
  named_none (Some is) = ap (wire_name (Some o)) (before_none (labels_of is))

  named_octet : (p : List ℕ) (i : Item) (x : Option (List Item)) → is_dot i ≡ false → named o p (cons_both (Some i) x) ≡ named o (p ++ octet_of i ∷ []) x
  named_octet p i None h = refl
  named_octet p i (Some is) h = ap (λ ps. wire_name (Some o) (before p ps)) (octet_first i is h) ∙ ap (wire_name (Some o)) (before_one p (octet_of i) (labels_of is))

  last_wire : (l : List ℕ) → 1 ≤ length l → wire_name (Some o) (l ∷ []) ≡ label_before l o
  unfolding wire_name
  last_wire [] h = absurd (omega arith)
  last_wire (x ∷ l) h = refl

  more_wire : (l : List ℕ) (ps : List (List ℕ)) → null ps ≡ false → wire_name (Some o) (l ∷ ps) ≡ (wire_name (Some o) ps >>= label_before l)
  unfolding wire_name
  more_wire l [] h = cc
  more_wire l (m ∷ ps) h = refl

  none_wire : wire_name (Some o) [] ≡ None
  unfolding wire_name
  none_wire = refl

  long_wire : (l : List ℕ) (ps : List (List ℕ)) → 63 < length l → wire_name (Some o) (l ∷ ps) ≡ None
  long_wire l [] h = last_wire l (omega arith) ∙ label_long l o h
  long_wire l (m ∷ ps) h = more_wire l (m ∷ ps) refl ∙ long_bind l h (wire_name (Some o) (m ∷ ps))

  long_before : (p : List ℕ) (ps : List (List ℕ)) → 63 < length p → wire_name (Some o) (before p ps) ≡ None
  long_before p [] h = none_wire
  long_before p (l ∷ ls) h = long_wire (p ++ l) ls (omega (arith, length-append p l))

  named_long : (p : List ℕ) (x : Option (List Item)) → 63 < length p → named o p x ≡ None
  named_long p None h = refl
  named_long p (Some is) h = long_before p (labels_of is) h

  named_dot : (p : List ℕ) (i : Item) (x : Option (List Item)) → is_dot i ≡ true → named o p (cons_both (Some i) x) ≡ ((x >>= λ is. wire_name (Some o) (labels_of is)) >>= label_before p)
  named_dot p i None h = refl
  named_dot p i (Some is) h =
      ap (λ ps. wire_name (Some o) (before p ps)) (dot_first i is h) ∙ ap (λ q. wire_name (Some o) (q ∷ labels_of is)) (append-nil p) ∙ more_wire p (labels_of is) (some_label is)

  named_last : (p : List ℕ) → 1 ≤ length p → named o p (Some []) ≡ label_before p o
  named_last p h = ap (λ q. wire_name (Some o) (q ∷ [])) (append-nil p) ∙ last_wire p h

  spelled_none : spelled o [] ≡ Some (0 ∷ [])
  unfolding wire_name unescaped_from
  spelled_none = refl

-- the octet at a place, plain or escaped
module _ (t : List ℕ) (j : ℕ) (h : j < length t) where
  plain_item : eqb (get_or t j 0) 92 ≡ false → unescaped (drop j t) ≡ cons_both (Some (plain (get_or t j 0))) (unescaped (drop (j + 1) t))
  plain_item f = ap unescaped (drop_next t j h) ∙ plain_unescaped (get_or t j 0) (drop (j + 1) t) (rw f)

  pub one_plain : eqb (get_or t j 0) 92 ≡ false → OneItem t j (Some (get_or t j 0, j + 1))
  one_plain f = (plain (get_or t j 0), refl, refl, omega arith, omega arith, plain_item f)

  module _ (f : get_or t j 0 ≡ 92) where
    slash_items : unescaped (drop j t) ≡ unescaped_from slash (drop (j + 1) t)
    slash_items = ap unescaped (drop_next t j h ∙ ap (λ x. x ∷ drop (j + 1) t) f) ∙ slash_unescaped (drop (j + 1) t)

    pub no_escape_read : unescaped_from slash (drop (j + 1) t) ≡ None → unescaped (drop j t) ≡ None
    no_escape_read q = slash_items ∙ q

    pub one_escape : (x n : ℕ) → unescaped_from slash (drop (j + 1) t) ≡ items_after (drop (j + 1) t) (Some (x, n)) → Within (drop (j + 1) t) (Some (x, n)) → OneItem t j (Some (x, j + 1 + n))
    one_escape x n q w =
        (escape x, refl, rw f, omega arith, omega (arith, w.1, length-drop (j + 1) t), slash_items ∙ q ∙ ap (λ s. cons_both (Some (escape x)) (unescaped s)) (drop-drop n (j + 1) t))

-- The octets of a label, from i to j in the text, stand in the buffer from n + 1 to m: with them, the text from j on spells what it does from i on.
pub record Part (o₀ o : List ℕ) (n m : ℕ) (t : List ℕ) (i j : ℕ) : Type 0 where
  pub octets : List ℕ
  pub wrote : Wrote o₀ o (n + 1) m octets
  pub same : (origin : List ℕ) → spelled origin (drop i t) ≡ named origin octets (unescaped (drop j t))

pub part_none : (o : List ℕ) (n : ℕ) (t : List ℕ) (i : ℕ) → Part o o n (n + 1) t i i
part_none o n t i = record { octets = []; wrote = wrote_none o (n + 1); same = λ origin. sym (named_none origin (unescaped (drop i t))) }

module _ {o₀ o : List ℕ} {n m : ℕ} {t : List ℕ} {i j : ℕ} (p : Part o₀ o n m t i j) where
  pub part_fault : unescaped (drop j t) ≡ None → (origin : List ℕ) → spelled origin (drop i t) ≡ None
  part_fault f origin = p.same origin ∙ ap (named origin p.octets) f

  -- one more octet
  module _ (b k : ℕ) (d : eqb (get_or t j 0) 46 ≡ false) (g : OneItem t j (Some (b, k))) where
    with_octet : (origin : List ℕ) → spelled origin (drop i t) ≡ named origin (p.octets ++ b ∷ []) (unescaped (drop k t))
    with_octet origin =
        p.same origin ∙ ap (named origin p.octets) g.5 ∙ named_octet origin p.octets g.0 (unescaped (drop k t)) (g.2 ∙ d)
        ∙ ap (λ x. named origin (p.octets ++ x ∷ []) (unescaped (drop k t))) g.1

    pub part_octet : (o' : List ℕ) → o' ≡ set o m b → Part o₀ o' n (m + 1) t i k
    part_octet o' q = record { octets = p.octets ++ b ∷ []; wrote = wrote_append p.wrote (wrote_one o o' m b q); same = with_octet }

    pub part_long : n + 63 < m → (origin : List ℕ) → spelled origin (drop i t) ≡ None
    part_long h origin = with_octet origin ∙ named_long origin (p.octets ++ b ∷ []) (unescaped (drop k t)) (omega (arith, p.wrote.count, length-append p.octets (b ∷ [])))

  -- a dot
  module _ (h : j < length t) (d : get_or t j 0 ≡ 46) where
    at_dot : (origin : List ℕ) → spelled origin (drop i t) ≡ (spelled origin (drop (j + 1) t) >>= label_before p.octets)
    at_dot origin =
        p.same origin ∙ ap (named origin p.octets) (plain_item t j h (rw d)) ∙ named_dot origin p.octets (plain (get_or t j 0)) (unescaped (drop (j + 1) t)) (rw d)

    pub part_empty : m ≤ n + 1 → (origin : List ℕ) → spelled origin (drop i t) ≡ None
    part_empty k origin = at_dot origin ∙ by p.octets p.wrote.count
      where
        by : (s : List ℕ) → m ≡ n + 1 + length s → (spelled origin (drop (j + 1) t) >>= label_before s) ≡ None
        by [] q = empty_bind (spelled origin (drop (j + 1) t))
        by (x ∷ s) q = absurd (omega arith)

    pub part_dot : (o' : List ℕ) → i ≤ j → n + 1 < m → m ≤ n + 64 → o' ≡ set o n (m - (n + 1)) → BeforeDot o₀ o' n t i (j + 1) m
    part_dot o' a b c q =
        let s : m - (n + 1) ≡ length p.octets = omega (arith, p.wrote.count) in
        record {
          label = with_count p.octets;
          wrote = wrote_before o' (length p.octets) p.wrote (rw s at q);
          small = c;
          on = omega arith;
          within = omega arith;
          same = λ origin. at_dot origin ∙ label_bind p.octets (omega arith) (omega arith) (spelled origin (drop (j + 1) t));
        }

  -- the end
  pub part_last : (o' : List ℕ) → length t ≤ j → n + 1 < m → m ≤ n + 64 → o' ≡ set o n (m - (n + 1)) → BeforeOrigin o₀ o' n t i m
  part_last o' a b c q =
      let s : m - (n + 1) ≡ length p.octets = omega (arith, p.wrote.count) in
      record {
        label = with_count p.octets;
        wrote = wrote_before o' (length p.octets) p.wrote (rw s at q);
        small = c;
        same = λ origin.
            p.same origin ∙ ap (named origin p.octets) (ap unescaped (drop_none t j a) ∙ nothing-unescaped) ∙ named_last origin p.octets (omega arith)
            ∙ label_short p.octets origin (omega arith) (omega arith);
      }

-- at most 255 octets
limited_value : (o₀ o : List ℕ) (n m : ℕ) (v : Option (List ℕ)) → Values o₀ o n (Some m) v → Values o₀ o n (provided (leb (m - n) 255) m) (limited v)
limited_value o₀ o n m v (xs, f, w) = let q : m - n ≡ length xs = omega (arith, w.count) in rw (f, q) (by (leb (length xs) 255))
  where
    by : (b : Bool) → Values o₀ o n (provided b m) (provided b xs)
    by true = (xs, refl, w)
    by false = refl

-- the labels, one after another
module _ {o₀ o : List ℕ} {n m : ℕ} {all : Option (List ℕ)} (origin t : List ℕ) (j : ℕ) (b : Begun o₀ o n m all (spelled origin (drop j t))) where
  pub dot_begun : {o' : List ℕ} {k z : ℕ} → BeforeDot o o' m t j k z → Begun o₀ o' n z all (spelled origin (drop k t))
  dot_begun {k = k} g = begun_piece g.label (spelled origin (drop k t)) b g.wrote (g.same origin)

  pub with_origin : {o' o'' : List ℕ} {z : ℕ} {r : Option ℕ} → BeforeOrigin o o' m t j z → Finished o' o'' n z origin r → Values o₀ o'' n r (limited all)
  with_origin {o'' = o''} {z = z} g (y, w, q) = rw q (limited_value o₀ o'' n y all (begun_rest o'' (Some y) b (g.label ++ origin, g.same origin, wrote_append g.wrote w)))

  pub with_zero : {o' : List ℕ} {r : Option ℕ} → length t ≤ j → Finished o o' n m (0 ∷ []) r → Values o₀ o' n r (limited all)
  with_zero {o' = o'} h (y, w, q) = rw q (limited_value o₀ o' n y all (begun_rest o' (Some y) b (0 ∷ [], ap (spelled origin) (drop_none t j h) ∙ spelled_none origin, w)))
