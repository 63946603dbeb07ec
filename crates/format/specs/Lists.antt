-- Options and lists, as the definitions use them.
use Rattle.std.specs.Prelude.{ℕ, Bool, true, false, ◌&&◌, ◌||◌, List, [], ◌∷◌, ◌++◌, length, eqb}
use Rattle.std.specs.Prelude.{Option, None, Some}

infixl 10 ◌>>=◌
-- what is there handed on: `do` blocks are read by this
abbrev pub ◌>>=◌ : {A B : Type 0} → Option A → (A → Option B) → Option B
◌>>=◌ None f = None
◌>>=◌ (Some x) f = f x

-- x where a test holds
abbrev pub provided : {A : Type 0} → Bool → A → Option A
provided true x = Some x
provided false x = None

-- the first that is there
abbrev pub or_else : {A : Type 0} → Option A → Option A → Option A
or_else None o = o
or_else (Some x) o = Some x

-- one before the others, if all are there
abbrev pub cons_both : {A : Type 0} → Option A → Option (List A) → Option (List A)
cons_both None o = None
cons_both (Some x) None = None
cons_both (Some x) (Some xs) = Some (x ∷ xs)

-- a partial function at every element, or none
abbrev pub each_of : {A B : Type 0} → (A → Option B) → List A → Option (List B)
each_of f [] = Some []
each_of f (x ∷ xs) = cons_both (f x) (each_of f xs)

-- a list of exactly n
abbrev pub exactly : ℕ → Option (List ℕ) → Option (List ℕ)
exactly n o = o >>= λ l. provided (eqb (length l) n) l

-- no element
abbrev pub null : {A : Type 0} → List A → Bool
null [] = true
null (x ∷ xs) = false

-- some element passes
abbrev pub any_of : {A : Type 0} → (A → Bool) → List A → Bool
any_of f [] = false
any_of f (x ∷ xs) = f x || any_of f xs

-- every element passes
abbrev pub all_of : {A : Type 0} → (A → Bool) → List A → Bool
all_of f [] = true
all_of f (x ∷ xs) = f x && all_of f xs

-- some two elements are the same
abbrev pub twice : {A : Type 0} → (A → A → Bool) → List A → Bool
twice same [] = false
twice same (x ∷ xs) = any_of (same x) xs || twice same xs

-- the elements of lists, one list after another
abbrev pub flat : {A : Type 0} → List (List A) → List A
flat [] = []
flat (t ∷ ts) = t ++ flat ts

-- the lists of the elements, one after another
abbrev pub flat_map : {A B : Type 0} → (A → List B) → List A → List B
flat_map f [] = []
flat_map f (x ∷ xs) = f x ++ flat_map f xs

-- lists with a separator between them
abbrev pub parted : {A : Type 0} → List A → List (List A) → List A
parted s [] = []
parted s (t ∷ []) = t
parted s (t ∷ u ∷ ts) = t ++ s ++ parted s (u ∷ ts)

-- x before the first list
abbrev pub cons_first : {A : Type 0} → A → List (List A) → List (List A)
cons_first x [] = []
cons_first x (t ∷ ts) = (x ∷ t) ∷ ts

-- x ends a part, or begins the first
abbrev pub parting : {A : Type 0} → Bool → A → List (List A) → List (List A)
parting true x ts = [] ∷ ts
parting false x ts = cons_first x ts

-- the parts between the elements that pass: one more than those
abbrev pub split : {A : Type 0} → (A → Bool) → List A → List (List A)
split f [] = [] ∷ []
split f (x ∷ xs) = parting (f x) x (split f xs)

-- the longest front whose elements pass, and the rest
pub record Spanned : Type 0 where
  pub front : List ℕ
  pub rest : List ℕ

abbrev pub spanning : Bool → ℕ → List ℕ → Spanned → Spanned
spanning true x xs s = record { front = x ∷ s.front; rest = s.rest }
spanning false x xs s = record { front = []; rest = x ∷ xs }

abbrev pub span : (ℕ → Bool) → List ℕ → Spanned
span f [] = record { front = []; rest = [] }
span f (x ∷ xs) = spanning (f x) x xs (span f xs)
