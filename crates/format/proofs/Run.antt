-- Runs of fields: their parts, their text, and reading it again.
use Prim.Native.Nat.{ℕ, suc, ◌≤◌}
use mathlib.Core.Path.{◌≡◌, refl, sym, ap, ◌∙◌}
use mathlib.Core.Bool.{Bool, true, false, not, ◌&&◌, true≢false}
use mathlib.Core.List.{List, [], ◌∷◌, ◌++◌, append_assoc, append-nil}
use native.Mathlib.Omega.{arith}
use lib.ListN.{length, take, drop}
use lib.Seq.{take-append_seam, drop-append_seam}
use lib.Dec.{leb}
use borrow.Author.Tests.{le-leb}
use Rattle.format.specs.Lists.{all_of, flat}
use Rattle.format.specs.Wire.{Taken, short, bad, took, taken}
use Rattle.format.specs.Field.{Kind, int, rrtype, bitmap, a4, aa, aaaa, name, str, strs, raw, b32, b64, hex, hexc, eui, time, start, tail}
use Rattle.format.specs.Token.{Token, between, scanned, tokens}
use Rattle.format.specs.Run.{Got, no_token, bad_token, got, Parts, refused, parts, with_first, after_taking, parts_of, is_parts, max_rdata, accepts, joined, text_of_parts, after_reading, read_run}
use Rattle.format.specs.Entries.{read}
use Rattle.format.specs.Demands.{tails_last}
use Rattle.format.proofs.Lists.{and_left, and_right, not_true}
use Rattle.format.proofs.Wire.{self_ending, anyhow}
use Rattle.format.proofs.Token.{Parted, at_end_of_text, spaced, none_scanned}
use Rattle.format.proofs.Field.{BackBy}

-- a field that is no tail is self-ending
pub not_tail : (k : Kind) → tail k ≡ false → self_ending (start k) ≡ true
not_tail (int n l) h = refl
not_tail rrtype h = refl
not_tail bitmap h = cc
not_tail a4 h = refl
not_tail aa h = refl
not_tail aaaa h = refl
not_tail (name o) h = rw h
not_tail str h = refl
not_tail strs h = cc
not_tail raw h = cc
not_tail b32 h = refl
not_tail b64 h = cc
not_tail hex h = cc
not_tail hexc h = refl
not_tail (eui n) h = refl
not_tail time h = refl

-- what a list that takes all of xs took first
pub data First (k : Kind) (ks : List Kind) (xs : List ℕ) (rs : List (List ℕ)) : Type 0 where
  took_first : (n : ℕ) (ps : List (List ℕ)) → taken (start k) xs ≡ took n → parts_of ks (drop n xs) ≡ parts ps → rs ≡ take n xs ∷ ps → First k ks xs rs

pub first : (k : Kind) (ks : List Kind) (xs : List ℕ) (rs : List (List ℕ)) → parts_of (k ∷ ks) xs ≡ parts rs → First k ks xs rs
unfolding parts_of
first k ks xs rs e = by (taken (start k) xs) refl e
  where
    on : (n : ℕ) (r : Parts) → taken (start k) xs ≡ took n → parts_of ks (drop n xs) ≡ r → with_first (take n xs) r ≡ parts rs → First k ks xs rs
    on n (refused m i) p q f = let z : ◌≡◌ {A = ℕ} 0 1 = cc in absurd (omega arith)
    on n (parts ps) p q f = took_first n ps p q (cc)

    by : (t : Taken) → taken (start k) xs ≡ t → after_taking t xs (λ ys. parts_of ks ys) ≡ parts rs → First k ks xs rs
    by short p f = let z : ◌≡◌ {A = ℕ} 0 1 = cc in absurd (omega arith)
    by bad p f = let z : ◌≡◌ {A = ℕ} 0 1 = cc in absurd (omega arith)
    by (took n) p f = on n (parts_of ks (drop n xs)) p refl f

-- and the way back
pub more : (k : Kind) (ks : List Kind) (xs : List ℕ) (n : ℕ) → taken (start k) xs ≡ took n → parts_of (k ∷ ks) xs ≡ with_first (take n xs) (parts_of ks (drop n xs))
unfolding parts_of
more k ks xs n e = rw e

pub empty : (xs : List ℕ) (rs : List (List ℕ)) → parts_of [] xs ≡ parts rs → (xs ≡ []) × (rs ≡ [])
unfolding parts_of
empty [] rs e = (refl, cc)
empty (x ∷ xs) rs e = let z : ◌≡◌ {A = ℕ} 0 1 = cc in absurd (omega arith)

-- as many parts as fields
pub part_count : (ks : List Kind) (xs : List ℕ) (ps : List (List ℕ)) → parts_of ks xs ≡ parts ps → length ps ≡ length ks
part_count [] xs ps e = ap length (empty xs ps e).1
part_count (k ∷ ks) xs ps e = by (first k ks xs ps e) (λ ys qs. part_count ks ys qs)
  where
    by : First k ks xs ps → ((ys : List ℕ) (qs : List (List ℕ)) → parts_of ks ys ≡ parts qs → length qs ≡ length ks) → length ps ≡ suc (length ks)
    by (took_first n qs t f w) ih = rw (w, ih (drop n xs) qs f)

pub accepted_parts : (ks : List Kind) (xs : List ℕ) → accepts ks xs ≡ true → (ps : List (List ℕ)) × (parts_of ks xs ≡ parts ps)
unfolding accepts
accepted_parts ks xs h = by (leb (length xs) max_rdata) (parts_of ks xs) refl h
  where
    by : (b : Bool) (r : Parts) → parts_of ks xs ≡ r → b && is_parts r ≡ true → (ps : List (List ℕ)) × (parts_of ks xs ≡ parts ps)
    by true (refused n i) e f = let z : ◌≡◌ {A = ℕ} 0 1 = cc in absurd (omega arith)
    by true (parts ps) e f = (ps, e)
    by false r e f = let z : ◌≡◌ {A = ℕ} 0 1 = cc in absurd (omega arith)

pub parts_accepted : (ks : List Kind) (xs : List ℕ) (ps : List (List ℕ)) → length xs ≤ max_rdata → parts_of ks xs ≡ parts ps → accepts ks xs ≡ true
unfolding accepts
parts_accepted ks xs ps h e = rw (le-leb (length xs) max_rdata h, e)

joined_nil : (s : List ℕ) → joined s [] ≡ s
joined_nil [] = refl
joined_nil (x ∷ s) = refl

joined_assoc : (s t u : List ℕ) → joined (joined s t) u ≡ joined s (joined t u)
joined_assoc [] t u = refl
joined_assoc (x ∷ s) [] u = refl
joined_assoc (x ∷ s) (y ∷ t) [] = refl
joined_assoc (x ∷ s) (y ∷ t) (z ∷ u) = ap (λ r. x ∷ r) (append_assoc s _ _)

module _ (show : Kind → List ℕ → List ℕ) where
  pub text_append : (ks ls : List Kind) (ps qs : List (List ℕ)) → length ps ≡ length ks
      → text_of_parts show (ks ++ ls) (ps ++ qs) ≡ joined (text_of_parts show ks ps) (text_of_parts show ls qs)
  unfolding text_of_parts
  text_append [] ls [] qs e = refl
  text_append [] ls (p ∷ ps) qs e = absurd (omega arith)
  text_append (k ∷ ks) ls [] qs e = absurd (omega arith)
  text_append (k ∷ ks) ls (p ∷ ps) qs e = rw (text_append ks ls ps qs (omega arith), joined_assoc)

-- A run's text reads back, for any way to show and to read a field that reads its text back.
abbrev pub Backs : (Kind → List ℕ → List ℕ) → (Kind → List Token → Got) → List Kind → List (List ℕ) → Type 0
Backs show read [] [] = Unit {0}
Backs show read [] (p ∷ ps) = ⊥
Backs show read (k ∷ ks) [] = ⊥
Backs show read (k ∷ ks) (p ∷ ps) = BackBy show read k p × Backs show read ks ps

-- what stands after a field's text
abbrev after_text : List ℕ → List ℕ
after_text [] = []
after_text (y ∷ t) = 32 ∷ y ∷ t

after_parted : (t : List ℕ) → Parted (after_text t)
after_parted [] = at_end_of_text
after_parted (y ∷ t) = spaced (y ∷ t)

after_scanned : (t : List ℕ) → scanned between (after_text t) ≡ scanned between t
unfolding scanned
after_scanned [] = refl
after_scanned (y ∷ t) = refl

joined_after : (c : ℕ) (s t : List ℕ) → joined (c ∷ s) t ≡ (c ∷ s) ++ after_text t
joined_after c s [] = sym (append-nil (c ∷ s))
joined_after c s (y ∷ t) = refl

pub no_tail : (k l : Kind) (ks : List Kind) → tails_last (k ∷ l ∷ ks) ≡ true → (tail k ≡ false) × (tails_last (l ∷ ks) ≡ true)
no_tail k l ks h = (not_true (tail k) (and_left (not (tail k)) (tails_last (l ∷ ks)) h), and_right (not (tail k)) (tails_last (l ∷ ks)) h)

module _ (show : Kind → List ℕ → List ℕ) (read : Kind → List Token → Got) (needs : (k : Kind) → tail k ≡ false → read k [] ≡ no_token) where
  read_step : (k : Kind) (ks : List Kind) (ts us : List Token) (p : List ℕ) → read k ts ≡ got p us → read_run read (k ∷ ks) ts ≡ with_first p (read_run read ks us)
  unfolding read_run
  read_step k ks ts us p e = rw e

  -- a field that is no tail needs a token, so it prints something
  shows : (k : Kind) (p : List ℕ) → BackBy show read k p → tail k ≡ false → (c : ℕ) × (s : List ℕ) × (show k p ≡ c ∷ s)
  shows k p b h = by (show k p) refl
    where
      by : (t : List ℕ) → show k p ≡ t → (c : ℕ) × (s : List ℕ) × (show k p ≡ c ∷ s)
      by [] e =
          let f : read k (scanned between []) ≡ got p (scanned between []) = rw e at (b [] at_end_of_text (λ t. refl)) in
          let g : read k [] ≡ got p [] = rw none_scanned at f in
          let z : ◌≡◌ {A = ℕ} 0 1 = cc (needs k h) in absurd (omega arith)
      by (c ∷ s) e = (c, s, e)

  pub run_back : (ks : List Kind) (ps : List (List ℕ)) → tails_last ks ≡ true → Backs show read ks ps → read_run read ks (tokens (text_of_parts show ks ps)) ≡ parts ps
  unfolding text_of_parts
  run_back [] [] h b = unfold scanned read_run in refl
  run_back [] (p ∷ ps) h b = absurd b
  run_back (k ∷ ks) [] h b = absurd b
  run_back (k ∷ []) (p ∷ []) h b =
      rw (joined_nil (show k p), ← (append-nil (show k p))) (read_step k [] (scanned between (show k p ++ [])) (scanned between []) p (b.0 [] at_end_of_text (λ e. refl)) ∙ (unfold scanned read_run in refl))
  run_back (k ∷ []) (p ∷ q ∷ ps) h b = absurd b.1
  run_back (k ∷ l ∷ ks) (p ∷ ps) h b = by (no_tail k l ks h) (run_back (l ∷ ks) ps (no_tail k l ks h).1 b.1)
    where
      by : (tail k ≡ false) × (tails_last (l ∷ ks) ≡ true) → read_run read (l ∷ ks) (tokens (text_of_parts show (l ∷ ks) ps)) ≡ parts ps
          → read_run read (k ∷ l ∷ ks) (tokens (joined (show k p) (text_of_parts show (l ∷ ks) ps))) ≡ parts (p ∷ ps)
      by n ih =
          let t : List ℕ = text_of_parts show (l ∷ ks) ps in
          let (c, s, e) = shows k p b.0 n.0 in
          let j : joined (show k p) t ≡ show k p ++ after_text t = rw (e, joined_after c s t) in
          let g : read k (scanned between (show k p ++ after_text t)) ≡ got p (scanned between (after_text t)) = b.0 (after_text t) (after_parted t) (λ f. absurd (true≢false (sym f ∙ n.0))) in
          rw (j, read_step k (l ∷ ks) (scanned between (show k p ++ after_text t)) (scanned between (after_text t)) p g, after_scanned t, ih)

-- What a run reads, its fields take on the wire.
data First-read (read : Kind → List Token → Got) (k : Kind) (ks : List Kind) (ts : List Token) (rs : List (List ℕ)) : Type 0 where
  read_first : (p : List ℕ) (us : List Token) (ps : List (List ℕ)) → read k ts ≡ got p us → read_run read ks us ≡ parts ps → rs ≡ p ∷ ps → First-read read k ks ts rs

first_read : (read : Kind → List Token → Got) (k : Kind) (ks : List Kind) (ts : List Token) (rs : List (List ℕ)) → read_run read (k ∷ ks) ts ≡ parts rs → First-read read k ks ts rs
unfolding read_run
first_read read k ks ts rs e = by (read k ts) refl e
  where
    on : (p : List ℕ) (us : List Token) → read k ts ≡ got p us → (r : Parts) → read_run read ks us ≡ r → with_first p r ≡ parts rs → First-read read k ks ts rs
    on p us a (refused n i) q f = let z : ◌≡◌ {A = ℕ} 0 1 = cc in absurd (omega arith)
    on p us a (parts ps) q f = read_first p us ps a q (cc)

    by : (g : Got) → read k ts ≡ g → after_reading read g (λ us. read_run read ks us) ≡ parts rs → First-read read k ks ts rs
    by no_token a f = let z : ◌≡◌ {A = ℕ} 0 1 = cc in absurd (omega arith)
    by bad_token a f = let z : ◌≡◌ {A = ℕ} 0 1 = cc in absurd (omega arith)
    by (got p us) a f = on p us a (read_run read ks us) refl f

no_kinds : (read : Kind → List Token → Got) (ts : List Token) (ps : List (List ℕ)) → read_run read [] ts ≡ parts ps → ps ≡ []
unfolding read_run
no_kinds read [] ps e = cc
no_kinds read (t ∷ ts) ps e = cc

-- octets that a list takes whole, one field after another
taken_whole : (k : Kind) (ks : List Kind) (p : List ℕ) (ps : List (List ℕ)) → taken (start k) (p ++ flat ps) ≡ took (length p) → parts_of ks (flat ps) ≡ parts ps
    → parts_of (k ∷ ks) (p ++ flat ps) ≡ parts (p ∷ ps)
taken_whole k ks p ps e f = rw (more k ks (p ++ flat ps) (length p) e, take-append_seam p (flat ps), drop-append_seam p (flat ps), f)

module _ (read : Kind → List Token → Got) (sound : Kind → Bool)
    (accepted : (k : Kind) → sound k ≡ true → (ts us : List Token) (p : List ℕ) → read k ts ≡ got p us → taken (start k) p ≡ took (length p)) where
  pub run_accepted : (ks : List Kind) (ts : List Token) (ps : List (List ℕ)) → tails_last ks ≡ true → all_of sound ks ≡ true → read_run read ks ts ≡ parts ps → parts_of ks (flat ps) ≡ parts ps
  run_accepted [] ts ps h g e = rw (no_kinds read ts ps e) (unfold parts_of in refl)
  run_accepted (k ∷ []) ts ps h g e = by (first_read read k [] ts ps e)
    where
      by : First-read read k [] ts ps → parts_of (k ∷ []) (flat ps) ≡ parts ps
      by (read_first p us qs a b c) =
          let n : qs ≡ [] = no_kinds read us qs b in
          let t : taken (start k) (p ++ flat qs) ≡ took (length p) = rw (n, append-nil p) (accepted k (and_left (sound k) true g) ts us p a) in
          rw c (taken_whole k [] p qs t (rw n (unfold parts_of in refl)))
  run_accepted (k ∷ l ∷ ks) ts ps h g e = by (first_read read k (l ∷ ks) ts ps e) (λ us qs. run_accepted (l ∷ ks) us qs (no_tail k l ks h).1 (and_right (sound k) (all_of sound (l ∷ ks)) g))
    where
      by : First-read read k (l ∷ ks) ts ps → ((us : List Token) (qs : List (List ℕ)) → read_run read (l ∷ ks) us ≡ parts qs → parts_of (l ∷ ks) (flat qs) ≡ parts qs) → parts_of (k ∷ l ∷ ks) (flat ps) ≡ parts ps
      by (read_first p us qs a b c) ih =
          let t : taken (start k) (p ++ flat qs) ≡ took (length p)
          = anyhow (start k) p (flat qs) (length p) (not_tail k (no_tail k l ks h).0) (accepted k (and_left (sound k) (all_of sound (l ∷ ks)) g) ts us p a) in
          rw c (taken_whole k (l ∷ ks) p qs t (ih us qs b))
