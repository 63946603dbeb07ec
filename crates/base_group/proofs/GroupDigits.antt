-- Digits taken from a text by an alphabet, and their octets, group by group.
use Rattle.std.proofs.Common.{ℕ, suc, ◌+◌, ◌*◌, ◌/◌, ◌^◌, ◌≤◌, ◌<◌, ◌≡◌, refl, sym, ap, subst, ◌∙◌, Bool, true, false, cond, List, [], ◌∷◌, ◌++◌, append_assoc, Option, None, Some, arith, length, drop, get_or, length-append, length-drop}
use mathlib.Core.List.{append-nil}
use native.Mathlib.Nat.{lt_of_lt_of_le, pow-le-pow_right, pow-le-pow_left, le_trans, mul-suc, mul-le-mul_left}
use lib.Seq.{drop-drop}
use borrow.Author.Tests.{lt-ltb, le-ltb, ne_eqb}
use Rattle.format.specs.Lists.{◌>>=◌, cons_both, each_of}
use Rattle.format.specs.Digits.{digits, number}
use Rattle.format.specs.Base.{whole_octets, from_digits}
use Rattle.format.proofs.Lists.{below_append, drop_next, drop_none}
use Rattle.format.proofs.Digits.{digits_length, number_bound}
use Rattle.buffer.specs.Writing.{Wrote, Values, after}
use Rattle.buffer.proofs.Laws.{wrote_none, wrote_append}
use Rattle.buffer.proofs.Values.{after_none, after_after}
use Rattle.base_group.specs.Group.{char_value, left_out, without, octets_by, Grouping, Stops, Taken, Groups}
use Rattle.base_group.proofs.Bits.{number_last, digits_bits, digits_bound, group_octets_lem}

-- a number of a few digits has room for another
few_digits : (w q v : ℕ) → w ≤ 6 → q < 8 → v < (2 ^ w) ^ q → v < 2 ^ 42
few_digits w q v h k l =
    let b : 2 ^ w ≤ 2 ^ 6 = pow-le-pow_right {n = 2} (omega arith) h in
    let a : (2 ^ w) ^ q ≤ (2 ^ 6) ^ q = pow-le-pow_left b q in
    let c : (2 ^ 6) ^ q ≤ (2 ^ 6) ^ 7 = let j : q ≤ 7 = omega arith in pow-le-pow_right {n = 2 ^ 6} (omega arith) j in
    lt_of_lt_of_le l (le_trans a c)

module _ (f : ℕ → Bool) where
  pub without_append : (xs ys : List ℕ) → without f (xs ++ ys) ≡ without f xs ++ without f ys
  without_append [] ys = refl
  without_append (x ∷ xs) ys = by (f x) (without_append xs ys)
    where
      by : (b : Bool) → without f (xs ++ ys) ≡ without f xs ++ without f ys → cond b (without f (xs ++ ys)) (x ∷ without f (xs ++ ys)) ≡ cond b (without f xs) (x ∷ without f xs) ++ without f ys
      by true ih = ih
      by false ih = ap (λ zs. x ∷ zs) ih

  pub without_on : (t : List ℕ) (n : ℕ) → n < length t → f (get_or t n 0) ≡ true → without f (drop n t) ≡ without f (drop (n + 1) t)
  without_on t n h p = rw (drop_next t n h, p)

  pub without_next : (t : List ℕ) (n : ℕ) → n < length t → f (get_or t n 0) ≡ false → without f (drop n t) ≡ get_or t n 0 ∷ without f (drop (n + 1) t)
  without_next t n h p = rw (drop_next t n h, p)

each_append : (f : ℕ → Option ℕ) (xs ys ds es : List ℕ) → each_of f xs ≡ Some ds → each_of f ys ≡ Some es → each_of f (xs ++ ys) ≡ Some (ds ++ es)
each_append f [] ys ds es p q = let e : ds ≡ [] = cc in rw e q
each_append f (x ∷ xs) ys ds es p q = by (f x) (each_of f xs) refl refl (λ zs b. each_append f xs ys zs es b q) p
  where
    by : (o : Option ℕ) (s : Option (List ℕ)) → f x ≡ o → each_of f xs ≡ s → ((zs : List ℕ) → each_of f xs ≡ Some zs → each_of f (xs ++ ys) ≡ Some (zs ++ es)) → cons_both o s ≡ Some ds → cons_both (f x) (each_of f (xs ++ ys)) ≡ Some (ds ++ es)
    by None s a b ih c = cc
    by (Some d) None a b ih c = cc
    by (Some d) (Some zs) a b ih c = let z : ds ≡ d ∷ zs = cc in rw (a, ih zs b, z)

pub each_none : (f : ℕ → Option ℕ) (xs : List ℕ) (y : ℕ) (ys : List ℕ) → f y ≡ None → each_of f (xs ++ y ∷ ys) ≡ None
each_none f [] y ys p = rw p
each_none f (x ∷ xs) y ys p = rw (each_none f xs y ys p) (by (f x))
  where
    by : (o : Option ℕ) → cons_both o None ≡ None
    by None = refl
    by (Some d) = refl

-- digits, octet by octet
module _ (a : List ℕ) (skip base : ℕ) (t : List ℕ) where
  pub taken_none : Taken a skip base t 0 0 0
  taken_none = record { chars = []; ds = []; within = omega arith; from = omega arith; below = tt; long = refl; is = refl; parts = refl; read = refl }

  module _ (n q v : ℕ) (s : Taken a skip base t n q v) (h : n < length t) where
    pub taken_left : left_out a skip (get_or t n 0) ≡ true → Taken a skip base t (n + 1) q v
    taken_left p = record {
      chars = s.chars;
      ds = s.ds;
      within = omega arith;
      from = omega (arith, s.from);
      below = s.below;
      long = s.long;
      is = s.is;
      parts = s.parts ∙ ap (λ xs. s.chars ++ xs) (without_on (left_out a skip) t n h p);
      read = s.read;
    }

    taken_digit : (x : ℕ) → left_out a skip (get_or t n 0) ≡ false → x ≡ get_or a (get_or t n 0) 0 → x < base → Taken a skip base t (n + 1) (q + 1) (v * base + x)
    taken_digit x p e b =
        let y : ℕ = get_or t n 0 in
        let one : each_of (char_value a base) (y ∷ []) ≡ Some (x ∷ []) = rw (← e, lt-ltb x base b) in
        record {
          chars = s.chars ++ y ∷ [];
          ds = s.ds ++ x ∷ [];
          within = omega arith;
          from = omega (arith, s.from);
          below = below_append base s.ds (x ∷ []) s.below (b, tt);
          long = length-append s.ds (x ∷ []) ∙ ap (λ m. m + 1) s.long;
          is = number_last base s.ds x ∙ ap (λ m. m * base + x) s.is;
          parts = s.parts ∙ ap (λ xs. s.chars ++ xs) (without_next (left_out a skip) t n h p) ∙ sym (append_assoc s.chars (y ∷ []) (without (left_out a skip) (drop (n + 1) t)));
          read = each_append (char_value a base) s.chars (y ∷ []) s.ds (x ∷ []) s.read one;
        }

-- the next digit, given the base as the code has it
pub taken_next : (a : List ℕ) (skip base b : ℕ) (t : List ℕ) (n q v x : ℕ) → Taken a skip base t n q v → n < length t → left_out a skip (get_or t n 0) ≡ false → x ≡ get_or a (get_or t n 0) 0 → b ≡ base → x < b
    → Taken a skip base t (n + 1) (q + 1) (v * b + x)
taken_next a skip base b t n q v x s h p e z l =
    subst (λ y. Taken a skip base t (n + 1) (q + 1) (v * y + x)) (sym z) (taken_digit a skip base t n q v s h x p e (omega arith))

pub digit_kept : (a : List ℕ) (skip base x y : ℕ) → x ≡ get_or a y 0 → x < base → base ≤ skip → left_out a skip y ≡ false
digit_kept a skip base x y e h k = ne_eqb (get_or a y 0) skip (λ z. omega arith)

pub taken_room : (a : List ℕ) (skip w b : ℕ) (t : List ℕ) (n q v : ℕ) → Taken a skip (2 ^ w) t n q v → b ≡ 2 ^ w → w ≤ 6 → q < 8 → v * b + b < 2 ^ 49
taken_room a skip w b t n q v s e h m =
    let k : b ≤ 2 ^ 6 = rw e (pow-le-pow_right {n = 2} (omega arith) h) in
    let small : v < (2 ^ w) ^ q = subst (λ x. x < (2 ^ w) ^ q) s.is (subst (λ x. number (2 ^ w) s.ds < (2 ^ w) ^ x) s.long (number_bound (2 ^ w) s.ds s.below)) in
    let r : v * b ≤ v * 2 ^ 6 = mul-le-mul_left v k in
    omega (arith, few_digits w q v h m small)

-- whole groups, one after another
module _ (o₀ : List ℕ) (at : ℕ) (a : List ℕ) (skip w k : ℕ) (t : List ℕ) where
  pub groups_none : Groups o₀ o₀ at a skip w k t 0 at
  groups_none = record {
    xs = [];
    chars = [];
    all = [];
    many = 0;
    wrote = wrote_none o₀ at;
    within = omega arith;
    bound = omega arith;
    parts = refl;
    read = refl;
    counts = omega arith;
    same = λ r. sym (after_none (from_digits w r));
  }

  module _ (o : List ℕ) (n end : ℕ) (b : Groups o₀ o at a skip w k t n end) (m q v : ℕ) (s : Taken a skip (2 ^ w) (drop n t) m q v) where
    pub all_parts : without (left_out a skip) t ≡ (b.chars ++ s.chars) ++ without (left_out a skip) (drop (n + m) t)
    all_parts =
        b.parts ∙ ap (λ xs. b.chars ++ xs) (s.parts ∙ ap (λ xs. s.chars ++ without (left_out a skip) xs) (drop-drop m n t))
        ∙ sym (append_assoc b.chars s.chars (without (left_out a skip) (drop (n + m) t)))

    pub all_read : each_of (char_value a (2 ^ w)) (b.chars ++ s.chars) ≡ Some (b.all ++ s.ds)
    all_read = each_append (char_value a (2 ^ w)) b.chars s.chars b.all s.ds b.read s.read

    pub all_within : n + m ≤ length t
    all_within = omega (arith, b.within, s.within, length-drop n t)

    pub groups_more : (o' : List ℕ) (r : ℕ) → Grouping w k → k ≤ q → q ≤ k → Wrote o o' end r (digits 256 (w * k / 8) v) → Groups o₀ o' at a skip w k t (n + m) r
    groups_more o' r u h l p =
        let y : List ℕ = digits 256 (w * k / 8) v in
        let c : length s.ds ≡ k = omega (arith, s.long) in
        let whole : w * length s.ds ≡ 8 * (w * k / 8) = ap (λ x. w * x) c ∙ u.whole in
        record {
          xs = b.xs ++ y;
          chars = b.chars ++ s.chars;
          all = b.all ++ s.ds;
          many = suc b.many;
          wrote = wrote_append b.wrote p;
          within = all_within;
          bound = omega (arith, b.bound, s.from, p.count, digits_length 256 (w * k / 8) v, u.less);
          parts = all_parts;
          read = all_read;
          counts = length-append b.all s.ds ∙ omega (arith, b.counts, c, mul-suc k b.many);
          same = λ r.
              ap (from_digits w) (append_assoc b.all s.ds r) ∙ b.same (s.ds ++ r)
              ∙ ap (after b.xs) (group_octets_lem w (w * k / 8) s.ds r s.below whole ∙ ap (λ x. after (digits 256 (w * k / 8) x) (from_digits w r)) s.is)
              ∙ after_after b.xs y (from_digits w r);
        }

    -- the last digits, and all octets
    pub last_small : v < 2 ^ (w * q)
    last_small = subst (λ x. x < 2 ^ (w * q)) s.is (subst (λ x. number (2 ^ w) s.ds < 2 ^ (w * x)) s.long (digits_bound w s.ds s.below))

    octets_are : from_digits w (b.all ++ s.ds) ≡ after b.xs (whole_octets w 8 0 (digits 2 (w * q) v))
    octets_are =
        b.same s.ds
        ∙ ap (λ x. after b.xs (whole_octets w 8 0 x)) (digits_bits w s.ds s.below ∙ ap (λ x. digits 2 (w * x) (number (2 ^ w) s.ds)) s.long ∙ ap (digits 2 (w * q)) s.is)

    pub front_all : (o' : List ℕ) (r : Option ℕ) → Values o o' end r (whole_octets w 8 0 (digits 2 (w * q) v)) → Values o₀ o' at r (from_digits w (b.all ++ s.ds))
    front_all o' None p = octets_are ∙ ap (after b.xs) p
    front_all o' (Some r) (ys, p, c) = (b.xs ++ ys, octets_are ∙ ap (after b.xs) p, wrote_append b.wrote c)

    -- all digits are read; or an octet that is no digit follows them
    pub front_octets : length t ≤ n + m → (o' : List ℕ) (r : Option ℕ) → Values o o' end r (whole_octets w 8 0 (digits 2 (w * q) v)) → Values o₀ o' at r (octets_by a skip w t)
    front_octets h o' r p =
        let e : without (left_out a skip) t ≡ b.chars ++ s.chars = all_parts ∙ ap (λ xs. (b.chars ++ s.chars) ++ without (left_out a skip) xs) (drop_none t (n + m) h) ∙ append-nil (b.chars ++ s.chars) in
        subst (λ x. Values o₀ o' at r x) (sym (ap (λ xs. each_of (char_value a (2 ^ w)) xs >>= from_digits w) e ∙ ap (λ x. x >>= from_digits w) all_read)) (front_all o' r p)

    pub front_fault : n + m < length t → Stops a skip (2 ^ w) (get_or t (n + m) 0) → octets_by a skip w t ≡ None
    front_fault h x =
        let y : ℕ = get_or t (n + m) 0 in
        let e : without (left_out a skip) t ≡ (b.chars ++ s.chars) ++ y ∷ without (left_out a skip) (drop (n + m + 1) t) = all_parts ∙ ap (λ xs. (b.chars ++ s.chars) ++ xs) (without_next (left_out a skip) t (n + m) h x.kept) in
        ap (λ xs. each_of (char_value a (2 ^ w)) xs >>= from_digits w) e
        ∙ ap (λ x. x >>= from_digits w) (each_none (char_value a (2 ^ w)) (b.chars ++ s.chars) y (without (left_out a skip) (drop (n + m + 1) t)) (rw (le-ltb (get_or a y 0) (2 ^ w) x.high)))
