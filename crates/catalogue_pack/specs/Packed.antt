-- Lent entries as numbers in an array.
use Rattle.std.specs.Prelude.{ℕ, ◌+◌, ◌*◌, ◌<◌, ◌≡◌, List, [], ◌∷◌, ◌++◌, length, take, drop}
use Rattle.format.specs.Catalogue.{Entry}
use Rattle.catalogue_pack.specs.declared.Entry.{Entry as Lent}

-- a type number, and where its name starts and how long it is
abbrev pub entry_of : ℕ → ℕ → ℕ → Entry
entry_of number start size = record { type_no = number; start = start; size = size }

-- the entry of a struct
abbrev pub lent_of : Lent → Entry
lent_of e = entry_of e.number e.start e.length

-- the entries of structs
abbrev pub entries_of : List Lent → List Entry
entries_of [] = []
entries_of (e ∷ es) = lent_of e ∷ entries_of es

-- the entries of parallel lists, as many as the shortest has
abbrev pub parallel : List ℕ → List ℕ → List ℕ → List Entry
parallel [] ss zs = []
parallel (n ∷ ns) [] zs = []
parallel (n ∷ ns) (s ∷ ss) [] = []
parallel (n ∷ ns) (s ∷ ss) (z ∷ zs) = entry_of n s z ∷ parallel ns ss zs

-- an entry as one number: `entry_at` takes it apart
abbrev pub pack_of : Entry → ℕ
pack_of e = e.type_no * 4294967296 + e.start * 65536 + e.size

abbrev pub packs : List Entry → List ℕ
packs [] = []
packs (e ∷ es) = pack_of e ∷ packs es

-- an entry's type number fits 32 bits, and where its name starts and how long it is 16 each
pub record Fitting (e : Entry) : Type 0 where
  pub number_fits : e.type_no < 4294967296
  pub start_fits : e.start < 65536
  pub size_fits : e.size < 65536

abbrev pub AllFit : List Entry → Type 0
AllFit [] = Unit {0}
AllFit (e ∷ es) = Fitting e × AllFit es

-- an array with the numbers of the first n entries; what stands after them stays
abbrev pub packed_in : List Entry → List ℕ → ℕ → List ℕ
packed_in es before n = packs (take n es) ++ drop n before

-- as many entries as there are, 513 at most
abbrev pub room_for : List Entry → ℕ
room_for es = length (take 513 es)

-- n entries are packed, all or 513; each fits its number
pub record Packed (es : List Entry) (before after : List ℕ) (n : ℕ) : Type 0 where
  pub count : n ≡ room_for es
  pub numbers : after ≡ packed_in es before n
  pub fit : AllFit (take n es)
