-- What each room shows of its kinds, and the laws over any value that one token, or all of them, read to.
use Prim.Native.Nat.{ℕ, zero, suc, ◌+◌, ◌*◌, ◌≤◌, ◌<◌}
use mathlib.Core.Path.{◌≡◌, refl, sym, ap, subst}
use mathlib.Core.Bool.{Bool, true, false, not, cond}
use mathlib.Core.List.{List, [], ◌∷◌, ◌++◌, map, append_assoc, append-nil}
use Rattle.std.specs.Prelude.{Option, None, Some}
use native.Mathlib.Omega.{arith}
use lib.ListN.{length, length-append, length-map}
use lib.Dec.{leb, ltb, eqb}
use borrow.Author.Tests.{le-leb, eq-eqb, eqb-true, ltb-false, leb-true}
use Rattle.format.specs.Lists.{◌>>=◌, provided, each_of, exactly, all_of, flat, parted}
use Rattle.format.specs.Octets.{Below, Octets, in_range, split_on}
use Rattle.format.specs.Wire.{Stage, any_octet, count, to_the_end, Move, stop, fault, go, more_octets, step, took, taken}
use Rattle.format.specs.Field.{Kind, int, rrtype, bitmap, a4, aa, aaaa, name, str, strs, raw, b32, b64, hex, hexc, eui, time, any_octets, start, tail}
use Rattle.format.specs.Token.{Token, bare, between, scanned, plain}
use Rattle.format.specs.Text.{with_count, counted, not_empty}
use Rattle.format.specs.Name.{is_wire_name}
use Rattle.format.specs.Catalogue.{TypeName}
use Rattle.format.specs.Run.{shown, Got, got, got_or, bare_of, one_token, one_bare, joined_bares, read_field}
use Rattle.format.specs.Entries.{read}
use Rattle.format.proofs.Lists.{and_left, and_right, not_true, bind_some, provided_some}
use Rattle.format.proofs.Finite.{all_below, at_each}
use Rattle.format.proofs.Digits.{gives_back, gives_some}
use Rattle.format.proofs.Wire.{Came, stops, goes, came, at_end_lem, need_takes, takes_width, takes_count, takes_end}
use Rattle.format.proofs.Token.{Parted, at_end_of_text, plainly, Plainly, bare_scanned, none_scanned, plain_append}

-- the field's text, and then nothing or a space and more, reads to its octets
abbrev pub BackBy : (Kind → List ℕ → List ℕ) → (Kind → List Token → Got) → Kind → List ℕ → Type 0
BackBy show read k p = (r : List ℕ) → Parted r → (tail k ≡ true → r ≡ []) → read k (scanned between (show k p ++ r)) ≡ got p (scanned between r)

unfoldable pub Back : List TypeName → Kind → List ℕ → List ℕ → Type 0
Back c k o p = BackBy (shown c) (λ k ts. read_field c k o ts) k p

-- A field's text is at most four octets for each of its own, and so many more: R[L] has up to 65,536 types, 512 of them with a name.
abbrev pub is_bitmap : Kind → Bool
is_bitmap (int w l) = false
is_bitmap rrtype = false
is_bitmap bitmap = true
is_bitmap a4 = false
is_bitmap aa = false
is_bitmap aaaa = false
is_bitmap (name m) = false
is_bitmap str = false
is_bitmap strs = false
is_bitmap raw = false
is_bitmap b32 = false
is_bitmap b64 = false
is_bitmap hex = false
is_bitmap hexc = false
is_bitmap (eui w) = false
is_bitmap time = false

abbrev pub cap : Kind → ℕ
cap k = cond (is_bitmap k) 687679 63

pub record FieldLaws (c : List TypeName) (k : Kind) : Type 0 where
  pub back : (o p : List ℕ) → Octets p → taken (start k) p ≡ took (length p) → Back c k o p
  pub bound : (p : List ℕ) → Octets p → taken (start k) p ≡ took (length p) → length (shown c k p) ≤ 4 * length p + cap k
  pub accepted : (o : List ℕ) → is_wire_name o ≡ true → (ts us : List Token) (p : List ℕ) → read_field c k o ts ≡ got p us → taken (start k) p ≡ took (length p)

-- one bare token of plain octets
pub bare_back : (f : List ℕ → Option (List ℕ)) (t p r : List ℕ) → 1 ≤ length t → Plainly t → f t ≡ Some p → Parted r
    → one_bare f (scanned between (t ++ r)) ≡ got p (scanned between r)
bare_back f [] p r n h e q = absurd (omega arith)
bare_back f (x ∷ t) p r n h e q = rw (bare_scanned x t r h q, e)

-- all the tokens that are left, printed as one bare token of plain octets
some_octets : (p : List ℕ) → 1 ≤ length p → not_empty p ≡ Some p
some_octets [] h = absurd (omega arith)
some_octets (x ∷ p) h = refl

joined_one : (f : List ℕ → Option (List ℕ)) (t p : List ℕ) → f t ≡ Some p → 1 ≤ length p → joined_bares f (bare t ∷ []) ≡ got p []
joined_one f t p e h = rw (append-nil t, e, some_octets p h)

pub all_back : (f : List ℕ → Option (List ℕ)) (t p r : List ℕ) → 1 ≤ length t → Plainly t → f t ≡ Some p → 1 ≤ length p → r ≡ []
    → joined_bares f (scanned between (t ++ r)) ≡ got p (scanned between r)
all_back f [] p r n h e l z = absurd (omega arith)
all_back f (x ∷ t) p r n h e l z = rw (z, bare_scanned x t [] h at_end_of_text, none_scanned) (joined_one f (x ∷ t) p e l)

-- what one token gives
pub got_some : (o : Option (List ℕ)) (us vs : List Token) (p : List ℕ) → got_or o us ≡ got p vs → o ≡ Some p
got_some None us vs p e = let z : ◌≡◌ {A = ℕ} 0 1 = cc in absurd (omega arith)
got_some (Some q) us vs p e = let w : q ≡ p = cc in ap Some w

pub token_accepted : (s : Stage) (f : Token → Option (List ℕ)) → ((t : Token) (p : List ℕ) → f t ≡ Some p → taken s p ≡ took (length p))
    → (ts us : List Token) (p : List ℕ) → one_token f ts ≡ got p us → taken s p ≡ took (length p)
token_accepted s f h [] us p e = let z : ◌≡◌ {A = ℕ} 0 1 = cc in absurd (omega arith)
token_accepted s f h (t ∷ ts) us p e = h t p (got_some (f t) ts us p e)

pub bare_accepted : (s : Stage) (f : List ℕ → Option (List ℕ)) → ((t p : List ℕ) → f t ≡ Some p → taken s p ≡ took (length p))
    → (ts us : List Token) (p : List ℕ) → one_bare f ts ≡ got p us → taken s p ≡ took (length p)
bare_accepted s f h ts us p e = token_accepted s (λ t. bare_of t >>= f) (λ t p e. let (u, a, b) = bind_some (bare_of t) f p e in h u p b) ts us p e

-- values that are not empty
pub not_empty_lem : (t p : List ℕ) → not_empty t ≡ Some p → 1 ≤ length p
not_empty_lem [] p e = let z : ◌≡◌ {A = ℕ} 0 1 = cc in absurd (omega arith)
not_empty_lem (x ∷ t) p e = let w : x ∷ t ≡ p = cc in rw (← w) (omega arith)

pub all_accepted : (f : List ℕ → Option (List ℕ)) (ts us : List Token) (p : List ℕ) → joined_bares f ts ≡ got p us → taken (to_the_end false) p ≡ took (length p)
all_accepted f [] us p e = let z : ◌≡◌ {A = ℕ} 0 1 = cc in absurd (omega arith)
all_accepted f (t ∷ ts) us p e =
    let (l, a, b) = bind_some (each_of bare_of (t ∷ ts)) (λ l. f (flat l) >>= not_empty) p (got_some _ [] us p e) in
    let (q, c, d) = bind_some (f (flat l)) not_empty p b in
    takes_end false p (λ z. not_empty_lem q p d)

-- values of w octets
pub width_accepted : (w : ℕ) → 1 ≤ w → (f : List ℕ → Option (List ℕ)) → ((t p : List ℕ) → f t ≡ Some p → length p ≡ w)
    → (ts us : List Token) (p : List ℕ) → one_bare f ts ≡ got p us → taken (any_octets w) p ≡ took (length p)
width_accepted w n f h ts us p e = bare_accepted (any_octets w) f (λ t p e. takes_width w p n (h t p e)) ts us p e

-- values after their count
pub counted_accepted : (lo : ℕ) (t p : List ℕ) → counted lo t ≡ Some p → taken (count lo) p ≡ took (length p)
counted_accepted lo t p e =
    let (a, b) = provided_some (in_range lo 255 (length t)) (with_count t) p e in
    rw (← b) (takes_count lo t (leb-true lo (length t) (and_left (leb lo (length t)) (leb (length t) 255) a)))

-- what a count and as many octets are
pub data Counted (lo : ℕ) (p : List ℕ) : Type 0 where
  is_counted : (xs : List ℕ) → p ≡ with_count xs → lo ≤ length xs → Counted lo p

count_moves : (lo x : ℕ) (m : Move) → step (count lo) x ≡ m → (m ≡ fault → ⊥) → (lo ≤ x) × (more_octets x ≡ m)
count_moves lo x m e f = by (ltb x lo) refl e
  where
    by : (b : Bool) → ltb x lo ≡ b → cond b fault (more_octets x) ≡ m → (lo ≤ x) × (more_octets x ≡ m)
    by true g e = absurd (f (sym e))
    by false g e = (ltb-false x lo g, e)

more_takes : (x : ℕ) (xs : List ℕ) (t : Stage) (m : ℕ) → more_octets x ≡ go t → taken t xs ≡ took m → m ≡ x
more_takes zero xs t m e f = let z : ◌≡◌ {A = ℕ} 0 1 = cc in absurd (omega arith)
more_takes (suc n) xs t m e f = let w : any_octet n ≡ t = cc in need_takes n xs m (rw (← w) at f)

none_more : (x : ℕ) → more_octets x ≡ stop → x ≡ 0
none_more zero e = refl
none_more (suc n) e = let z : ◌≡◌ {A = ℕ} 0 1 = cc in absurd (omega arith)

pub counted_octets : (lo : ℕ) (p : List ℕ) → taken (count lo) p ≡ took (length p) → Counted lo p
counted_octets lo [] e = let z : ◌≡◌ {A = ℕ} 0 1 = cc (at_end_lem (count lo) 0 e).0 in absurd (omega arith)
counted_octets lo (x ∷ xs) e = by (came (count lo) x xs (suc (length xs)) e)
  where
    is : x ≡ length xs → lo ≤ x → Counted lo (x ∷ xs)
    is l h = is_counted xs (rw (← l)) (omega arith)

    by : Came (count lo) x xs (suc (length xs)) → Counted lo (x ∷ xs)
    by (stops p q) = let (a, b) = count_moves lo x stop p (λ z. let y : ◌≡◌ {A = ℕ} 0 1 = cc in omega arith) in is (omega (arith, none_more x b)) a
    by (goes t m p q r) = let (a, b) = count_moves lo x (go t) p (λ z. let y : ◌≡◌ {A = ℕ} 0 1 = cc in omega arith) in is (omega (arith, more_takes x xs t m b q)) a

pub counted_some : (lo : ℕ) (t : List ℕ) → lo ≤ length t → length t ≤ 255 → counted lo t ≡ Some (with_count t)
counted_some lo t h k = rw (le-leb lo (length t) h, le-leb (length t) 255 k)

-- several texts with a separator between them
abbrev pub Each : ℕ → List (List ℕ) → Type 0
Each c [] = Unit {0}
Each c (t ∷ ts) = (length t ≤ c) × Each c ts

pub parted_bound : (c s : ℕ) (ts : List (List ℕ)) → Each c ts → length (parted (s ∷ []) ts) ≤ suc c * length ts
parted_bound c s [] h = omega arith
parted_bound c s (t ∷ []) h = omega (arith, h.0)
parted_bound c s (t ∷ u ∷ ts) h = omega (arith, h.0, parted_bound c s (u ∷ ts) h.1, length-append t (s ∷ []), length-append (t ++ s ∷ []) (parted (s ∷ []) (u ∷ ts)))

each_map : (c : ℕ) (g : ℕ → List ℕ) (xs : List ℕ) → ((x : ℕ) → length (g x) ≤ c) → Each c (map g xs)
each_map c g [] h = tt
each_map c g (x ∷ xs) h = (h x, each_map c g xs h)

pub pieces_bound : (c s : ℕ) (g : ℕ → List ℕ) (xs : List ℕ) → ((x : ℕ) → length (g x) ≤ c) → length (parted (s ∷ []) (map g xs)) ≤ suc c * length xs
pieces_bound c s g xs h = subst (λ (k : ℕ). length (parted (s ∷ []) (map g xs)) ≤ suc c * k) (length-map xs g) (parted_bound c s (map g xs) (each_map c g xs h))

-- texts without the separator are split again
abbrev pub Free : ℕ → List ℕ → Type 0
Free s [] = Unit {0}
Free s (x ∷ t) = (eqb x s ≡ false) × Free s t

pub split_last : (s : ℕ) (t : List ℕ) → Free s t → split_on s t ≡ t ∷ []
split_last s [] h = refl
split_last s (x ∷ t) h = rw (h.0, split_last s t h.1)

pub split_more : (s : ℕ) (t r : List ℕ) → Free s t → split_on s (t ++ s ∷ r) ≡ t ∷ split_on s r
split_more s [] r h = rw (eq-eqb s s refl)
split_more s (x ∷ t) r h = rw (h.0, split_more s t r h.1)

-- Numbers below m written by g, parted by s, each read back by f.
pub record Separated (m s : ℕ) (g : ℕ → List ℕ) (f : List ℕ → Option ℕ) : Type 0 where
  pub plain_mark : plainly s ≡ true
  pub plain : (x : ℕ) → x < m → Plainly (g x)
  pub free : (x : ℕ) → x < m → Free s (g x)
  pub back : (x : ℕ) → x < m → f (g x) ≡ Some x
  pub long : (x : ℕ) → x < m → 1 ≤ length (g x)

module _ (m s : ℕ) (g : ℕ → List ℕ) (f : List ℕ → Option ℕ) (w : Separated m s g f) where
  pub separated_read : (x : ℕ) (xs : List ℕ) → Below m (x ∷ xs) → each_of f (split_on s (parted (s ∷ []) (map g (x ∷ xs)))) ≡ Some (x ∷ xs)
  separated_read x [] b = rw (split_last s (g x) (w.free x b.0), w.back x b.0)
  separated_read x (y ∷ xs) b =
      rw (append_assoc (g x) (s ∷ []) (parted (s ∷ []) (map g (y ∷ xs))), split_more s (g x) (parted (s ∷ []) (map g (y ∷ xs))) (w.free x b.0), w.back x b.0, separated_read y xs b.1)

  pub separated_plain : (x : ℕ) (xs : List ℕ) → Below m (x ∷ xs) → Plainly (parted (s ∷ []) (map g (x ∷ xs)))
  separated_plain x [] b = w.plain x b.0
  separated_plain x (y ∷ xs) b = plain_append (g x ++ s ∷ []) (parted (s ∷ []) (map g (y ∷ xs))) (plain_append (g x) (s ∷ []) (w.plain x b.0) (w.plain_mark, tt)) (separated_plain y xs b.1)

  pub separated_long : (x : ℕ) (xs : List ℕ) → Below m (x ∷ xs) → 1 ≤ length (parted (s ∷ []) (map g (x ∷ xs)))
  separated_long x [] b = w.long x b.0
  separated_long x (y ∷ xs) b = omega (arith, w.long x b.0, length-append (g x) (s ∷ []), length-append (g x ++ s ∷ []) (parted (s ∷ []) (map g (y ∷ xs))))

-- the same for octets, by one computed test of all 256
all_plain : (t : List ℕ) → all_of plainly t ≡ true → Plainly t
all_plain [] h = tt
all_plain (x ∷ t) h = (and_left (plainly x) (all_of plainly t) h, all_plain t (and_right (plainly x) (all_of plainly t) h))

all_free : (s : ℕ) (t : List ℕ) → all_of (λ c. not (eqb c s)) t ≡ true → Free s t
all_free s [] h = tt
all_free s (x ∷ t) h = (not_true (eqb x s) (and_left (not (eqb x s)) (all_of (λ c. not (eqb c s)) t) h), all_free s t (and_right (not (eqb x s)) (all_of (λ c. not (eqb c s)) t) h))

pub octets_separated : (s : ℕ) (g : ℕ → List ℕ) (f : List ℕ → Option ℕ) → plainly s ≡ true → all_below (λ x. all_of plainly (g x)) 256 ≡ true
    → all_below (λ x. all_of (λ c. not (eqb c s)) (g x)) 256 ≡ true → all_below (λ x. gives_back (f (g x)) x) 256 ≡ true → all_below (λ x. leb 1 (length (g x))) 256 ≡ true
    → Separated 256 s g f
octets_separated s g f a b c d e = record {
  plain_mark = a;
  plain = λ x h. all_plain (g x) (at_each (λ x. all_of plainly (g x)) 256 b x h);
  free = λ x h. all_free s (g x) (at_each (λ x. all_of (λ c. not (eqb c s)) (g x)) 256 c x h);
  back = λ x h. gives_some (f (g x)) x (at_each (λ x. gives_back (f (g x)) x) 256 d x h);
  long = λ x h. leb-true 1 (length (g x)) (at_each (λ x. leb 1 (length (g x))) 256 e x h);
}

-- a list of exactly n
pub exact : (n : ℕ) (p : List ℕ) → length p ≡ n → exactly n (Some p) ≡ Some p
exact n p e = rw (eq-eqb (length p) n e)

pub exactly_length : (n : ℕ) (o : Option (List ℕ)) (p : List ℕ) → exactly n o ≡ Some p → length p ≡ n
exactly_length n o p e =
    let (l, a, b) = bind_some o (λ l. provided (eqb (length l) n) l) p e in
    let (c, d) = provided_some (eqb (length l) n) l p b in
    rw (← d) (eqb-true (length l) n c)

-- a text of w octets, each written by g, parted by s
pub separated_back : (w s : ℕ) (g : ℕ → List ℕ) (f : List ℕ → Option ℕ) → Separated 256 s g f → 1 ≤ w
    → (read : List ℕ → Option (List ℕ)) → ((t : List ℕ) → read t ≡ exactly w (each_of f (split_on s t)))
    → (p : List ℕ) → Octets p → length p ≡ w → (r : List ℕ) → Parted r → one_bare read (scanned between (parted (s ∷ []) (map g p) ++ r)) ≡ got p (scanned between r)
separated_back w s g f h n read e [] b l r q = absurd (omega arith)
separated_back w s g f h n read e (x ∷ p) b l r q =
    bare_back read (parted (s ∷ []) (map g (x ∷ p))) (x ∷ p) r (separated_long 256 s g f h x p b) (separated_plain 256 s g f h x p b) (rw (e (parted (s ∷ []) (map g (x ∷ p))), separated_read 256 s g f h x p b) (exact w (x ∷ p) l)) q
