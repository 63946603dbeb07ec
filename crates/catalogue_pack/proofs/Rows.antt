-- Lists of entries and of their numbers.
use Prim.Native.Nat.{ℕ, zero, suc, ◌+◌, ◌/◌, ◌%◌, ◌≤◌, ◌<◌, min}
use mathlib.Core.Path.{◌≡◌, refl, ap, ◌∙◌, subst}
use mathlib.Core.List.{List, [], ◌∷◌, ◌++◌}
use native.Mathlib.Omega.{arith}
use lib.ListN.{length, get_or, set, take, drop, length-take}
use Rattle.format.specs.Catalogue.{Entry}
use Rattle.catalogue.specs.Entries.{entry_at, entries_at}
use Rattle.catalogue_pack.specs.declared.Entry.{Entry as Lent}
use Rattle.catalogue_pack.specs.Place.{no_lent}
use Rattle.catalogue_pack.specs.Packed.{entry_of, lent_of, entries_of, pack_of, packs, Fitting, AllFit, packed_in, room_for, Packed}

-- what stands past the end
abbrev pub no_entry : Entry
no_entry = entry_of 0 0 0

pub lent_at : (ys : List Lent) (i : ℕ) → get_or (entries_of ys) i no_entry ≡ lent_of (get_or ys i no_lent)
lent_at [] i = refl
lent_at (y ∷ ys) zero = refl
lent_at (y ∷ ys) (suc i) = lent_at ys i

pub lent_count : (ys : List Lent) → length (entries_of ys) ≡ length ys
lent_count [] = refl
lent_count (y ∷ ys) = ap suc (lent_count ys)

-- one entry more is packed
next_suc : (es : List Entry) (xs : List ℕ) (i : ℕ) → i < length es → i < length xs → set (packed_in es xs i) i (pack_of (get_or es i no_entry)) ≡ packed_in es xs (suc i)
next_suc [] xs i l m = absurd (omega arith)
next_suc (e ∷ es) [] i l m = absurd (omega arith)
next_suc (e ∷ es) (x ∷ xs) zero l m = refl
next_suc (e ∷ es) (x ∷ xs) (suc i) l m = ap (λ zs. pack_of e ∷ zs) (next_suc es xs i (omega arith) (omega arith))

-- one entry more fits
fit_suc : (es : List Entry) (i : ℕ) → i < length es → AllFit (take i es) → Fitting (get_or es i no_entry) → AllFit (take (suc i) es)
fit_suc [] i l a f = absurd (omega arith)
fit_suc (e ∷ es) zero l a f = (f, tt)
fit_suc (e ∷ es) (suc i) l a f = (a.0, fit_suc es i (omega arith) a.1 f)

-- the first i entries stand in the array as numbers, and fit
abbrev pub Stored : List Entry → List ℕ → List ℕ → ℕ → Type 0
Stored es before raw i = (raw ≡ packed_in es before i) × AllFit (take i es)

-- the next entry is e, and its number is stored
pub next_stored : (es : List Entry) (before raw : List ℕ) (i : ℕ) (e : Entry) (w : ℕ) → i < length es → i < length before → get_or es i no_entry ≡ e → w ≡ pack_of e → Fitting e
    → Stored es before raw i → Stored es before (set raw i w) (i + 1)
next_stored es before raw i e w l m q v f (s, a) =
    let z : suc i ≡ i + 1 = omega arith in
    (rw (s, v, ← z, ← q) (next_suc es before i l m), rw (← z) (fit_suc es i l a (rw q f)))

-- all are packed, or 513
pub all_packed : (es : List Entry) (before raw : List ℕ) (n : ℕ) → n ≡ min (length es) 513 → Stored es before raw n → Packed es before raw n
all_packed es before raw n q (s, a) = record { count = omega (arith, q, length-take 513 es); numbers = s; fit = a }

-- the numbers of the first k entries, or of all, whatever stands after them
fronts : (k : ℕ) (es : List Entry) (l : List ℕ) → take (length (take k es)) (packs (take (length (take k es)) es) ++ l) ≡ packs (take k es)
fronts zero es l = refl
fronts (suc k) [] l = refl
fronts (suc k) (e ∷ es) l = ap (λ zs. pack_of e ∷ zs) (fronts k es l)

has_front : (k : ℕ) (es : List Entry) (l : List ℕ) → length (take k es) ≤ length (packs (take (length (take k es)) es) ++ l)
has_front zero es l = omega arith
has_front (suc k) [] l = omega arith
has_front (suc k) (e ∷ es) l = let h = has_front k es l in omega (arith, h)

taken : (k : ℕ) (es : List Entry) → take (length (take k es)) es ≡ take k es
taken zero es = refl
taken (suc k) [] = refl
taken (suc k) (e ∷ es) = ap (λ zs. e ∷ zs) (taken k es)

-- an entry whose parts fit comes back from its number
apart : (e : Entry) → Fitting e → entry_at (pack_of e) ≡ e
apart e f = λ i. record { type_no = n i; start = s i; size = z i }
  where
    n : pack_of e / 4294967296 ≡ e.type_no
    n = omega (arith, f.number_fits, f.start_fits, f.size_fits)

    s : pack_of e / 65536 % 65536 ≡ e.start
    s = omega (arith, f.number_fits, f.start_fits, f.size_fits)

    z : pack_of e % 65536 ≡ e.size
    z = omega (arith, f.number_fits, f.start_fits, f.size_fits)

come_back : (es : List Entry) → AllFit es → entries_at (packs es) ≡ es
come_back [] a = refl
come_back (e ∷ es) a = λ i. apart e a.0 i ∷ come_back es a.1 i

-- The entries of the packed numbers are the first 513 entries.
module _ (es : List Entry) (before after : List ℕ) (n : ℕ) (p : Packed es before after n) where
  pub packed_entries : entries_at (take n after) ≡ take 513 es
  packed_entries =
      ap (λ (l : List ℕ). entries_at (take n l)) p.numbers ∙
      ap (λ (m : ℕ). entries_at (take m (packed_in es before m))) p.count ∙
      ap entries_at (fronts 513 es (drop (room_for es) before)) ∙
      come_back (take 513 es) (subst AllFit (ap (λ (m : ℕ). take m es) p.count ∙ taken 513 es) p.fit)

  pub packed_within : n ≤ length after
  packed_within = rw p.numbers (rw p.count (has_front 513 es (drop (room_for es) before)))
