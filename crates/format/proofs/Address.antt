-- A, AA and AAAA: read back, bounded, accepted.
use Prim.Native.Nat.{ℕ, zero, suc, ◌+◌, ◌*◌, ◌-◌, ◌≤◌, ◌<◌, max}
use mathlib.Core.Path.{◌≡◌, refl, sym, ap, ◌∙◌, subst}
use mathlib.Core.Bool.{Bool, true, false, not, cond}
use mathlib.Core.List.{List, [], ◌∷◌, ◌++◌, map, append_assoc, append-nil}
use Rattle.std.specs.Prelude.{Option, Some}
use native.Mathlib.Omega.{arith}
use lib.ListN.{length, drop, length-append, length-map, replicate, length-replicate, length-drop}
use lib.Dec.{leb, ltb, eqb}
use borrow.Author.Tests.{le-leb, eqb-true, ltb-false, leb-true, eqb-false}
use Rattle.format.specs.Lists.{◌>>=◌, each_of, exactly}
use Rattle.format.specs.Octets.{Below, split_on}
use Rattle.format.specs.Field.{a4, aa, aaaa}
use Rattle.format.specs.Digits.{digits, without_zeros, lower_digit, digit_value}
use Rattle.format.specs.Number.{decimal}
use Rattle.format.specs.Token.{between, scanned}
use Rattle.format.specs.Address.{small_number, read_a, groups, group_octets, group_text, colons, group_of, read_aa, zeros_at, longest_zeros, before_run, after_run, aaaa_text, groups_of, side_of, Doubled, single, double, into_before, at_double_colon, eight_groups, read_aaaa}
use Rattle.format.specs.Catalogue.{TypeName}
use Rattle.format.specs.Run.{shown, got, one_bare, read_field}
use Rattle.format.proofs.Lists.{not_true, bind_some, provided_some, below_parts}
use Rattle.format.proofs.Finite.{at_each}
use Rattle.format.proofs.Digits.{digits_below, digits_length, number_digits, digits_number, zeros_number, zeros_below, zeros_length, chars_back}
use Rattle.format.proofs.Wire.{octets_taken}
use Rattle.format.proofs.Token.{Parted, Plainly, chars_plain, plain_append}
use Rattle.format.proofs.Field.{Back, FieldLaws, bare_back, width_accepted, pieces_bound, Free, split_last, split_more, Separated, separated_read, separated_plain, separated_long, octets_separated, exact, exactly_length, separated_back}
use Rattle.format.proofs.Number.{decimal_10}

-- A
dotted : Separated 256 46 decimal small_number
dotted = octets_separated 46 decimal small_number refl refl refl refl refl

pub a4_laws : (c : List TypeName) → FieldLaws c a4
unfolding Back shown read_field
a4_laws c = record {
  back = λ o p b e r q t. separated_back 4 46 decimal small_number dotted (omega arith) read_a (λ t. refl) p b (octets_taken 4 p (omega arith) e) r q;
  bound = λ p b e. omega (arith, pieces_bound 10 46 decimal p decimal_10, octets_taken 4 p (omega arith) e);
  accepted = λ o n ts us p e. width_accepted 4 (omega arith) read_a (λ t p e. exactly_length 4 (each_of small_number (split_on 46 t)) p e) ts us p e;
}

-- one group
group_below : (g : ℕ) → Below 16 (without_zeros (digits 16 4 g))
group_below g = zeros_below 16 (digits 16 4 g) (digits_below 16 4 g (omega arith))

group_size : (g : ℕ) → (1 ≤ length (group_text g)) × (length (group_text g) ≤ 4)
group_size g =
    let l = zeros_length (digits 16 4 g) (omega (arith, digits_length 16 4 g)) in
    (omega (arith, length-map (without_zeros (digits 16 4 g)) lower_digit), omega (arith, length-map (without_zeros (digits 16 4 g)) lower_digit, digits_length 16 4 g))

group_plain : (g : ℕ) → Plainly (group_text g)
group_plain g = chars_plain lower_digit 16 refl (without_zeros (digits 16 4 g)) (group_below g)

low_free : (ds : List ℕ) → Below 16 ds → Free 58 (map lower_digit ds)
low_free [] h = tt
low_free (d ∷ ds) h = (not_true (eqb (lower_digit d) 58) (at_each (λ d. not (eqb (lower_digit d) 58)) 16 refl d h.0), low_free ds h.1)

group_reads : (g : ℕ) → g < 65536 → group_of (group_text g) ≡ Some g
group_reads g h =
    rw (
      le-leb 1 (length (group_text g)) (group_size g).0,
      le-leb (length (group_text g)) 4 (group_size g).1,
      chars_back lower_digit (digit_value 16) 16 refl (without_zeros (digits 16 4 g)) (group_below g),
    )
    (ap Some (zeros_number 16 (digits 16 4 g) ∙ number_digits 16 4 g (omega arith) h))

grouped : Separated 65536 58 group_text group_of
grouped = record {
  plain_mark = refl;
  plain = λ x h. group_plain x;
  free = λ x h. low_free (without_zeros (digits 16 4 x)) (group_below x);
  back = group_reads;
  long = λ x h. (group_size x).0;
}

-- two octets to a group
data Paired (k : ℕ) (p : List ℕ) : Type 0 where
  paired : length (groups p) ≡ k → Below 65536 (groups p) → group_octets (groups p) ≡ p → Paired k p

pub pair_back : (x y : ℕ) → x < 256 → y < 256 → digits 256 2 (x * 256 + y) ≡ x ∷ y ∷ []
pair_back x y h k = ap (digits 256 2) (omega arith) ∙ digits_number 256 (x ∷ y ∷ []) (h, (k, tt))

pairs_back : (k : ℕ) (p : List ℕ) → length p ≡ 2 * k → Below 256 p → Paired k p
pairs_back zero [] e b = paired refl tt refl
pairs_back zero (x ∷ p) e b = absurd (omega arith)
pairs_back (suc k) [] e b = absurd (omega arith)
pairs_back (suc k) (x ∷ []) e b = absurd (omega arith)
pairs_back (suc k) (x ∷ y ∷ p) e b = by (pairs_back k p (omega arith) b.1.1)
  where
    by : Paired k p → Paired (suc k) (x ∷ y ∷ p)
    by (paired l c f) = paired (ap suc l) (omega (arith, b.0, b.1.0), c) (ap (λ t. t ++ group_octets (groups p)) (pair_back x y b.0 b.1.0) ∙ rw f)

-- AA
aa_field : (p gs r : List ℕ) → length gs ≡ 4 → Below 65536 gs → group_octets gs ≡ p → Parted r → one_bare read_aa (scanned between (colons gs ++ r)) ≡ got p (scanned between r)
aa_field p [] r l b f q = absurd (omega arith)
aa_field p (g ∷ gs) r l b f q =
    bare_back read_aa (colons (g ∷ gs)) p r (separated_long 65536 58 group_text group_of grouped g gs b) (separated_plain 65536 58 group_text group_of grouped g gs b)
    (rw (separated_read 65536 58 group_text group_of grouped g gs b, exact 4 (g ∷ gs) l) (ap Some f)) q

pub groups_length : (gs : List ℕ) → length (group_octets gs) ≡ 2 * length gs
groups_length [] = refl
groups_length (g ∷ gs) = omega (arith, groups_length gs)

groups_octets : (n : ℕ) (o : Option (List ℕ)) (p : List ℕ) → ((gs : List ℕ) → o ≡ Some gs → length gs ≡ n) → (o >>= λ gs. Some (group_octets gs)) ≡ Some p → length p ≡ 2 * n
groups_octets n o p h e = let (gs, a, b) = bind_some o (λ gs. Some (group_octets gs)) p e in let q : group_octets gs ≡ p = cc in rw (← q) (groups_length gs ∙ ap (λ k. 2 * k) (h gs a))

colons_bound : (gs : List ℕ) → length (colons gs) ≤ 5 * length gs
colons_bound gs = pieces_bound 4 58 group_text gs (λ g. (group_size g).1)

pub groups_short : (p : List ℕ) → 2 * length (groups p) ≤ length p
groups_short [] = omega arith
groups_short (x ∷ []) = omega arith
groups_short (x ∷ y ∷ p) = omega (arith, groups_short p)

pub aa_laws : (c : List TypeName) → FieldLaws c aa
unfolding Back shown read_field
aa_laws c = record {
  back = λ o p b e r q t. by p r q (pairs_back 4 p (octets_taken 8 p (omega arith) e) b);
  bound = λ p b e. omega (arith, colons_bound (groups p), groups_short p);
  accepted = λ o n ts us p e. width_accepted 8 (omega arith) read_aa (λ t p e. groups_octets 4 (exactly 4 (each_of group_of (split_on 58 t))) p (exactly_length 4 (each_of group_of (split_on 58 t))) e) ts us p e;
}
  where
    by : (p r : List ℕ) → Parted r → Paired 4 p → one_bare read_aa (scanned between (colons (groups p) ++ r)) ≡ got p (scanned between r)
    by p r q (paired l c f) = aa_field p (groups p) r l c f q

-- AAAA: where the double colon stands
abbrev pub before_all : List ℕ → Doubled → Doubled
before_all [] d = d
before_all (x ∷ xs) d = into_before x (before_all xs d)

pub all_single : (t : List ℕ) → before_all t single ≡ single
all_single [] = refl
all_single (x ∷ t) = rw (all_single t)

pub all_double : (t s u : List ℕ) → before_all t (double s u) ≡ double (t ++ s) u
all_double [] s u = refl
all_double (x ∷ t) s u = rw (all_double t s u)

past_one : (x : ℕ) (t : List ℕ) → eqb x 58 ≡ false → at_double_colon (x ∷ t) ≡ into_before x (at_double_colon t)
past_one x [] h = refl
past_one x (y ∷ t) h = rw h

past : (t r : List ℕ) → Free 58 t → at_double_colon (t ++ r) ≡ before_all t (at_double_colon r)
past [] r h = refl
past (x ∷ t) r h = past_one x (t ++ r) h.0 ∙ rw (past t r h.1)

-- a colon before a text that begins with a digit
past_colon : (t : List ℕ) → 1 ≤ length t → (r : List ℕ) → Free 58 t → at_double_colon (58 ∷ (t ++ r)) ≡ into_before 58 (at_double_colon (t ++ r))
past_colon [] l r h = absurd (omega arith)
past_colon (x ∷ t) l r h = rw h.0

free_of : (g : ℕ) → Free 58 (group_text g)
free_of g = low_free (without_zeros (digits 16 4 g)) (group_below g)

colon_on : (g : ℕ) (gs u : List ℕ) → at_double_colon (58 ∷ (colons (g ∷ gs) ++ u)) ≡ into_before 58 (at_double_colon (colons (g ∷ gs) ++ u))
colon_on g [] u = past_colon (group_text g) (group_size g).0 u (free_of g)
colon_on g (h ∷ gs) u =
    rw (append_assoc (group_text g ++ 58 ∷ []) (colons (h ∷ gs)) u, append_assoc (group_text g) (58 ∷ []) (colons (h ∷ gs) ++ u)) (past_colon (group_text g) (group_size g).0 (58 ∷ (colons (h ∷ gs) ++ u)) (free_of g))

no_double : (g : ℕ) (gs : List ℕ) → at_double_colon (colons (g ∷ gs)) ≡ single
no_double g [] = rw (← (append-nil (group_text g))) (past (group_text g) [] (free_of g) ∙ all_single (group_text g))
no_double g (h ∷ gs) =
    rw (append_assoc (group_text g) (58 ∷ []) (colons (h ∷ gs)), past (group_text g) (58 ∷ colons (h ∷ gs)) (free_of g))
    (ap (before_all (group_text g)) (rw (append-nil (colons (h ∷ gs))) at (colon_on h gs []) ∙ ap (into_before 58) (no_double h gs)) ∙ all_single (group_text g))

then_double : (g : ℕ) (gs u : List ℕ) → at_double_colon (colons (g ∷ gs) ++ 58 ∷ 58 ∷ u) ≡ double (colons (g ∷ gs)) u
then_double g [] u = past (group_text g) (58 ∷ 58 ∷ u) (free_of g) ∙ all_double (group_text g) [] u ∙ ap (λ t. double t u) (append-nil (group_text g))
then_double g (h ∷ gs) u =
    rw (append_assoc (group_text g ++ 58 ∷ []) (colons (h ∷ gs)) (58 ∷ 58 ∷ u), append_assoc (group_text g) (58 ∷ []) (colons (h ∷ gs) ++ 58 ∷ 58 ∷ u), append_assoc (group_text g) (58 ∷ []) (colons (h ∷ gs)))
    (past (group_text g) (58 ∷ (colons (h ∷ gs) ++ 58 ∷ 58 ∷ u)) (free_of g) ∙ ap (before_all (group_text g)) (colon_on h gs (58 ∷ 58 ∷ u) ∙ ap (into_before 58) (then_double h gs u)) ∙ all_double (group_text g) (58 ∷ colons (h ∷ gs)) u)

-- the groups on one side
side_split : (g : ℕ) (gs : List ℕ) → split_on 58 (colons (g ∷ gs)) ≡ map group_text (g ∷ gs)
side_split g [] = split_last 58 (group_text g) (free_of g)
side_split g (h ∷ gs) = rw (append_assoc (group_text g) (58 ∷ []) (colons (h ∷ gs)), split_more 58 (group_text g) (colons (h ∷ gs)) (free_of g), side_split h gs)

side_groups : (d : Bool) (g : ℕ) (gs : List ℕ) → Below 65536 (g ∷ gs) → groups_of d (map group_text (g ∷ gs)) ≡ Some (g ∷ gs)
unfolding groups_of
side_groups d g [] b = rw (group_reads g b.0)
side_groups d g (h ∷ gs) b = rw (group_reads g b.0, side_groups d h gs b.1)

side_some : (d : Bool) (t : List ℕ) → 1 ≤ length t → side_of d t ≡ groups_of d (split_on 58 t)
side_some d [] h = absurd (omega arith)
side_some d (x ∷ t) h = refl

side_reads : (d : Bool) (gs : List ℕ) → Below 65536 gs → side_of d (colons gs) ≡ Some gs
side_reads d [] b = refl
side_reads d (g ∷ gs) b = side_some d (colons (g ∷ gs)) (separated_long 65536 58 group_text group_of grouped g gs b) ∙ ap (groups_of d) (side_split g gs) ∙ side_groups d g gs b

-- the run of zeros
zeros_front : (gs : List ℕ) → gs ≡ replicate (zeros_at gs) 0 ++ drop (zeros_at gs) gs
zeros_front [] = refl
zeros_front (zero ∷ gs) = ap (λ l. 0 ∷ l) (zeros_front gs)
zeros_front (suc g ∷ gs) = refl

run_split : (gs : List ℕ) (m : ℕ) → longest_zeros gs ≡ m → 1 ≤ m → gs ≡ before_run m gs ++ (replicate m 0 ++ after_run m gs)
unfolding longest_zeros
run_split [] m e h = absurd (omega arith)
run_split (g ∷ gs) m e h = by (eqb (zeros_at (g ∷ gs)) m) refl (λ f. run_split gs m f h)
  where
    by : (b : Bool) → eqb (zeros_at (g ∷ gs)) m ≡ b → (longest_zeros gs ≡ m → gs ≡ before_run m gs ++ (replicate m 0 ++ after_run m gs)) → (g ∷ gs) ≡ before_run m (g ∷ gs) ++ (replicate m 0 ++ after_run m (g ∷ gs))
    by true f ih = rw f (subst (λ (k : ℕ). (g ∷ gs) ≡ replicate k 0 ++ drop k (g ∷ gs)) (eqb-true (zeros_at (g ∷ gs)) m f) (zeros_front (g ∷ gs)))
    by false f ih = rw f (ap (λ l. g ∷ l) (ih (apart (zeros_at (g ∷ gs)) (eqb-false (zeros_at (g ∷ gs)) m f) e)))
      where
        apart : (z : ℕ) → (z ≡ m → ⊥) → max z (longest_zeros gs) ≡ m → longest_zeros gs ≡ m
        apart z n q = omega arith

double_at : (b u : List ℕ) → at_double_colon (colons b ++ 58 ∷ 58 ∷ u) ≡ double (colons b) u
double_at [] u = refl
double_at (g ∷ gs) u = then_double g gs u

sides_read : (b a : List ℕ) (t : List ℕ) → Below 65536 b → Below 65536 a → length b + length a ≤ 7
    → eight_groups t (double (colons b) (colons a)) ≡ Some (b ++ replicate (8 - (length b + length a)) 0 ++ a)
sides_read b a t h k l = rw (side_reads false b h, side_reads true a k, le-leb (length b + length a) 7 l)

whole_read : (gs : List ℕ) → length gs ≡ 8 → Below 65536 gs → eight_groups (colons gs) (at_double_colon (colons gs)) ≡ Some gs
whole_read [] l b = absurd (omega arith)
whole_read (g ∷ gs) l b = rw (no_double g gs, side_split g gs, side_groups true g gs b) (exact 8 (g ∷ gs) l)

run_read : (gs b a t : List ℕ) (m : ℕ) → length gs ≡ 8 → Below 65536 gs → 2 ≤ m → gs ≡ b ++ (replicate m 0 ++ a) → eight_groups t (at_double_colon (colons b ++ 58 ∷ 58 ∷ colons a)) ≡ Some gs
run_read gs b a t m l h n s =
    let j : length b + (m + length a) ≡ 8 = ap (λ k. length b + (k + length a)) (sym (length-replicate m 0)) ∙ ap (λ k. length b + k) (sym (length-append (replicate m 0) a)) ∙ sym (length-append b (replicate m 0 ++ a)) ∙ ap length (sym s) ∙ l in
    let k : Below 65536 (b ++ (replicate m 0 ++ a)) = rw s at h in
    let c = below_parts 65536 b (replicate m 0 ++ a) k in
    let d = below_parts 65536 (replicate m 0) a c.1 in
    let z : 8 - (length b + length a) ≡ m = omega arith in
    rw (double_at b (colons a), sides_read b a t c.0 d.1 (omega arith)) (ap Some (ap (λ k. b ++ replicate k 0 ++ a) z ∙ append_assoc b (replicate m 0) a ∙ sym s))

text_read : (gs : List ℕ) → length gs ≡ 8 → Below 65536 gs → eight_groups (aaaa_text gs) (at_double_colon (aaaa_text gs)) ≡ Some gs
text_read gs l b = by (ltb (longest_zeros gs) 2) refl
  where
    by : (c : Bool) → ltb (longest_zeros gs) 2 ≡ c → eight_groups (aaaa_text gs) (at_double_colon (aaaa_text gs)) ≡ Some gs
    by true e = rw e (whole_read gs l b)
    by false e =
        let n : 2 ≤ longest_zeros gs = ltb-false (longest_zeros gs) 2 e in
        rw e (run_read gs (before_run (longest_zeros gs) gs) (after_run (longest_zeros gs) gs) (colons (before_run (longest_zeros gs) gs) ++ 58 ∷ 58 ∷ colons (after_run (longest_zeros gs) gs)) (longest_zeros gs) l b n (run_split gs (longest_zeros gs) refl (omega arith)))

colons_plain : (gs : List ℕ) → Plainly (colons gs)
colons_plain [] = tt
colons_plain (g ∷ []) = group_plain g
colons_plain (g ∷ h ∷ gs) = plain_append (group_text g ++ 58 ∷ []) (colons (h ∷ gs)) (plain_append (group_text g) (58 ∷ []) (group_plain g) (refl, tt)) (colons_plain (h ∷ gs))

colons_long : (gs : List ℕ) → 1 ≤ length gs → 1 ≤ length (colons gs)
colons_long [] h = absurd (omega arith)
colons_long (g ∷ []) h = (group_size g).0
colons_long (g ∷ h ∷ gs) k = omega (arith, (group_size g).0, length-append (group_text g) (58 ∷ []), length-append (group_text g ++ 58 ∷ []) (colons (h ∷ gs)))

text_fine : (gs : List ℕ) → 1 ≤ length gs → (1 ≤ length (aaaa_text gs)) × Plainly (aaaa_text gs)
text_fine gs h = by (ltb (longest_zeros gs) 2) refl
  where
    by : (c : Bool) → ltb (longest_zeros gs) 2 ≡ c → (1 ≤ length (aaaa_text gs)) × Plainly (aaaa_text gs)
    by true e = rw e (colons_long gs h, colons_plain gs)
    by false e =
        rw e (
          omega (arith, length-append (colons (before_run (longest_zeros gs) gs)) (58 ∷ 58 ∷ colons (after_run (longest_zeros gs) gs))),
          plain_append (colons (before_run (longest_zeros gs) gs)) (58 ∷ 58 ∷ colons (after_run (longest_zeros gs) gs)) (colons_plain (before_run (longest_zeros gs) gs)) (refl, (refl, colons_plain (after_run (longest_zeros gs) gs))),
        )

-- as long as eight groups
eight : (t : List ℕ) (d : Doubled) (gs : List ℕ) → eight_groups t d ≡ Some gs → length gs ≡ 8
eight t single gs e = exactly_length 8 (groups_of true (split_on 58 t)) gs e
eight t (double s u) gs e =
    let (fs, a, b) = bind_some (side_of false s) _ gs e in
    let (hs, c, d) = bind_some (side_of true u) _ gs b in
    let (f, g) = provided_some (leb (length fs + length hs) 7) (fs ++ replicate (8 - (length fs + length hs)) 0 ++ hs) gs d in
    rw (← g) (filled_up fs hs (leb-true (length fs + length hs) 7 f))
  where
    filled_up : (fs hs : List ℕ) → length fs + length hs ≤ 7 → length (fs ++ replicate (8 - (length fs + length hs)) 0 ++ hs) ≡ 8
    filled_up fs hs l = simp (length-append, length-replicate) (omega arith)

before_short : (m : ℕ) (gs : List ℕ) → length (before_run m gs) ≤ length gs
before_short m [] = omega arith
before_short m (g ∷ gs) = by (eqb (zeros_at (g ∷ gs)) m) (before_short m gs)
  where
    by : (b : Bool) → length (before_run m gs) ≤ length gs → length (cond b [] (g ∷ before_run m gs)) ≤ suc (length gs)
    by true h = omega arith
    by false h = omega arith

after_short : (m : ℕ) (gs : List ℕ) → length (after_run m gs) ≤ length gs
after_short m [] = omega arith
after_short m (g ∷ gs) = by (eqb (zeros_at (g ∷ gs)) m) (after_short m gs)
  where
    by : (b : Bool) → length (after_run m gs) ≤ length gs → length (cond b (drop m (g ∷ gs)) (after_run m gs)) ≤ suc (length gs)
    by true h = omega (arith, length-drop m (g ∷ gs))
    by false h = omega arith

groups_bound : (gs : List ℕ) → length (aaaa_text gs) ≤ 10 * length gs + 2
groups_bound gs = by (ltb (longest_zeros gs) 2)
  where
    s : List ℕ
    s = before_run (longest_zeros gs) gs

    t : List ℕ
    t = after_run (longest_zeros gs) gs

    by : (b : Bool) → length (cond b (colons gs) (colons s ++ 58 ∷ 58 ∷ colons t)) ≤ 10 * length gs + 2
    by true = omega (arith, colons_bound gs)
    by false = omega (arith, colons_bound s, colons_bound t, before_short (longest_zeros gs) gs, after_short (longest_zeros gs) gs, length-append (colons s) (58 ∷ 58 ∷ colons t))

pub aaaa_laws : (c : List TypeName) → FieldLaws c aaaa
unfolding Back shown read_field
aaaa_laws c = record {
  back = λ o p b e r q t. by p r q (pairs_back 8 p (octets_taken 16 p (omega arith) e) b);
  bound = λ p b e. omega (arith, groups_bound (groups p), groups_short p, octets_taken 16 p (omega arith) e);
  accepted = λ o n ts us p e. width_accepted 16 (omega arith) read_aaaa (λ t p e. groups_octets 8 (eight_groups t (at_double_colon t)) p (eight t (at_double_colon t)) e) ts us p e;
}
  where
    by : (p r : List ℕ) → Parted r → Paired 8 p → one_bare read_aaaa (scanned between (aaaa_text (groups p) ++ r)) ≡ got p (scanned between r)
    by p r q (paired l c f) =
        let g = text_fine (groups p) (omega arith) in
        bare_back read_aaaa (aaaa_text (groups p)) p r g.0 g.1 (rw (text_read (groups p) l c) (ap Some f)) q
