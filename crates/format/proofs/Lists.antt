-- Laws of tests, options and lists.
use Prim.Native.Nat.{ℕ, zero, suc, ◌+◌, ◌≤◌, ◌<◌}
use mathlib.Core.Path.{◌≡◌, refl, sym, ap}
use mathlib.Core.Bool.{Bool, true, false, not, ◌&&◌, ◌||◌}
use mathlib.Core.List.{List, [], ◌∷◌, ◌++◌, map}
use Rattle.std.specs.Prelude.{Option, None, Some}
use native.Mathlib.Omega.{arith}
use native.Mathlib.Numerals.{add-one}
use lib.ListN.{take, drop, length, get_or, drop_of_length-le}
use lib.Seq.{slice, drop-cons, take-length}
use lib.Dec.{eqb}
use borrow.Author.Tests.{eq-eqb, eqb-true}
use Rattle.format.specs.Lists.{◌>>=◌, provided, cons_both, each_of, null, any_of, all_of, twice, cons_first, parting, split}
use Rattle.format.specs.Octets.{Below, same_octets}
use Rattle.format.specs.Lines.{placed}

pub and_left : (a b : Bool) → a && b ≡ true → a ≡ true
and_left true b h = refl
and_left false b h = h

pub and_right : (a b : Bool) → a && b ≡ true → b ≡ true
and_right true b h = h
and_right false b h = cc

pub or_left : (a b : Bool) → a || b ≡ false → a ≡ false
or_left true b h = h
or_left false b h = refl

pub or_right : (a b : Bool) → a || b ≡ false → b ≡ false
or_right true b h = cc
or_right false b h = h

pub not_true : (b : Bool) → not b ≡ true → b ≡ false
not_true true h = sym h
not_true false h = refl

pub implied : (a b : Bool) → not a || b ≡ true → a ≡ true → b ≡ true
implied true b h e = h
implied false b h e = cc

-- what an option that came out was made of
pub bind_some : {A B : Type 0} (o : Option A) (f : A → Option B) (y : B) → (o >>= f) ≡ Some y → (x : A) × (o ≡ Some x) × (f x ≡ Some y)
bind_some None f y e = let z : ◌≡◌ {A = ℕ} 0 1 = cc in absurd (omega arith)
bind_some (Some x) f y e = (x, refl, e)

pub provided_some : {A : Type 0} (b : Bool) (x y : A) → provided b x ≡ Some y → (b ≡ true) × (x ≡ y)
provided_some true x y e = (refl, cc)
provided_some false x y e = let z : ◌≡◌ {A = ℕ} 0 1 = cc in absurd (omega arith)

-- a test of every value that a partial function gives
pub each_all : {A B : Type 0} (f : A → Option B) (g : B → Bool) → ((x : A) (y : B) → f x ≡ Some y → g y ≡ true) → (xs : List A) (ys : List B) → each_of f xs ≡ Some ys → all_of g ys ≡ true
each_all f g h [] ys e = let q : [] ≡ ys = cc in rw (← q)
each_all f g h (x ∷ xs) ys e = by (f x) refl (each_of f xs) refl e (each_all f g h xs)
  where
    by : (o : Option _) → f x ≡ o → (p : Option (List _)) → each_of f xs ≡ p → cons_both o p ≡ Some ys → ((zs : List _) → each_of f xs ≡ Some zs → all_of g zs ≡ true) → all_of g ys ≡ true
    by None a p b e ih = cc
    by (Some y) a None b e ih = cc
    by (Some y) a (Some zs) b e ih = let q : y ∷ zs ≡ ys = cc in rw (← q, h x y a, ih zs b)

-- a split has a part
pub split_some : {A : Type 0} (f : A → Bool) (xs : List A) → null (split f xs) ≡ false
split_some f [] = refl
split_some f (x ∷ xs) = by (f x) (split f xs) (split_some f xs)
  where
    by : (b : Bool) (ts : List (List _)) → null ts ≡ false → null (parting b x ts) ≡ false
    by true ts h = refl
    by false [] h = h
    by false (t ∷ ts) h = refl

pub map_some : {A B : Type 0} (f : A → B) (xs : List A) → null xs ≡ false → null (map f xs) ≡ false
map_some f [] h = h
map_some f (x ∷ xs) h = refl

pub map_first : {A B : Type 0} (f : A → B) (x : A) (ss : List (List A)) → map (map f) (cons_first x ss) ≡ cons_first (f x) (map (map f) ss)
map_first f x [] = refl
map_first f x (s ∷ ss) = refl

pub placed_some : (at : ℕ) (ts : List (List ℕ)) → null ts ≡ false → null (placed at ts) ≡ false
placed_some at [] h = h
placed_some at (t ∷ ts) h = refl

-- lists with one more element
pub all_snoc : {A : Type 0} (f : A → Bool) (xs : List A) (y : A) → all_of f xs ≡ true → f y ≡ true → all_of f (xs ++ y ∷ []) ≡ true
all_snoc f [] y h k = rw k
all_snoc f (x ∷ xs) y h k = rw (and_left (f x) (all_of f xs) h, all_snoc f xs y (and_right (f x) (all_of f xs) h) k)

any_snoc : {A : Type 0} (f : A → Bool) (xs : List A) (y : A) → any_of f xs ≡ false → f y ≡ false → any_of f (xs ++ y ∷ []) ≡ false
any_snoc f [] y h k = rw k
any_snoc f (x ∷ xs) y h k = rw (or_left (f x) (any_of f xs) h, any_snoc f xs y (or_right (f x) (any_of f xs) h) k)

pub twice_snoc : {A : Type 0} (same : A → A → Bool) (xs : List A) (y : A) → twice same xs ≡ false → any_of (λ x. same x y) xs ≡ false → twice same (xs ++ y ∷ []) ≡ false
twice_snoc same [] y h k = refl
twice_snoc same (x ∷ xs) y h k =
    rw (
      any_snoc (same x) xs y (or_left (any_of (same x) xs) (twice same xs) h) (or_left (same x y) (any_of (λ x. same x y) xs) k),
      twice_snoc same xs y (or_right (any_of (same x) xs) (twice same xs) h) (or_right (same x y) (any_of (λ x. same x y) xs) k),
    )

-- the part from a place to the end
pub to_end : (s : List ℕ) (i : ℕ) → slice i (length s) s ≡ drop i s
to_end s i = ap (drop i) (take-length s)

-- every number of a list is below the bound, where each place's is
pub below_each : (m : ℕ) (xs : List ℕ) → ((k : ℕ) → get_or xs k 0 < m) → Below m xs
below_each m [] h = tt
below_each m (x ∷ xs) h = (h 0, below_each m xs (λ k. h (suc k)))

-- every number of a part is below the bound
pub below_append : (b : ℕ) (ds es : List ℕ) → Below b ds → Below b es → Below b (ds ++ es)
below_append b [] es h k = k
below_append b (d ∷ ds) es h k = (h.0, below_append b ds es h.1 k)

pub below_take : (m n : ℕ) (xs : List ℕ) → Below m xs → Below m (take n xs)
below_take m zero xs h = tt
below_take m (suc n) [] h = tt
below_take m (suc n) (x ∷ xs) h = (h.0, below_take m n xs h.1)

pub below_drop : (m n : ℕ) (xs : List ℕ) → Below m xs → Below m (drop n xs)
below_drop m zero xs h = h
below_drop m (suc n) [] h = tt
below_drop m (suc n) (x ∷ xs) h = below_drop m n xs h.1

pub all_take : {A : Type 0} (f : A → Bool) (n : ℕ) (xs : List A) → all_of f xs ≡ true → all_of f (take n xs) ≡ true
all_take f zero xs h = refl
all_take f (suc n) [] h = refl
all_take f (suc n) (x ∷ xs) h = rw (and_left (f x) (all_of f xs) h, all_take f n xs (and_right (f x) (all_of f xs) h))

pub all_drop : {A : Type 0} (f : A → Bool) (n : ℕ) (xs : List A) → all_of f xs ≡ true → all_of f (drop n xs) ≡ true
all_drop f zero xs h = h
all_drop f (suc n) [] h = refl
all_drop f (suc n) (x ∷ xs) h = all_drop f n xs (and_right (f x) (all_of f xs) h)

pub below_parts : (b : ℕ) (s q : List ℕ) → Below b (s ++ q) → Below b s × Below b q
below_parts b [] q h = (tt, h)
below_parts b (x ∷ s) q h = let (f, g) = below_parts b s q h.1 in ((h.0, f), g)

-- the next element of a list that is gone through by an index, and none
pub drop_next : (s : List ℕ) (i : ℕ) → i < length s → drop i s ≡ get_or s i 0 ∷ drop (i + 1) s
drop_next s i h = rw (add-one, drop-cons s i 0)

pub drop_none : (s : List ℕ) (i : ℕ) → length s ≤ i → drop i s ≡ []
drop_none s i h = drop_of_length-le s h

-- texts that are the same
pub same_octets_lem : (xs : List ℕ) → same_octets xs xs ≡ true
same_octets_lem [] = refl
same_octets_lem (x ∷ xs) = rw (eq-eqb x x refl, same_octets_lem xs)

pub octets_same : (xs ys : List ℕ) → same_octets xs ys ≡ true → xs ≡ ys
octets_same [] [] e = refl
octets_same [] (y ∷ ys) e = cc
octets_same (x ∷ xs) [] e = cc
octets_same (x ∷ xs) (y ∷ ys) e = let q : x ≡ y = eqb-true x y (and_left (eqb x y) (same_octets xs ys) e) in rw (q, octets_same xs ys (and_right (eqb x y) (same_octets xs ys) e))

-- two octets or more are not one alone
pub longer : (c a b : ℕ) (t : List ℕ) → same_octets (a ∷ b ∷ t) (c ∷ []) ≡ false
longer c a b t = by (eqb a c)
  where
    by : (d : Bool) → d && false ≡ false
    by true = refl
    by false = refl
