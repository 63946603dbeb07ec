-- What the fields after the first few of a run make of the tokens that are left.
use Prim.Native.Nat.{ℕ, suc, min, ◌+◌, ◌≤◌, ◌<◌}
use mathlib.Core.Path.{◌≡◌, refl, sym, ap, subst, ◌∙◌}
use mathlib.Core.Bool.{true, false, true≢false}
use mathlib.Core.List.{List, [], ◌∷◌, ◌++◌, append_assoc, append-nil}
use native.Mathlib.Omega.{arith}
use native.Mathlib.Decide.{dec_le}
use lib.ListN.{length, drop, length-append, drop_of_length-le}
use Rattle.format.specs.Lists.{null, flat}
use Rattle.format.specs.Field.{Kind}
use Rattle.format.specs.Token.{Token, scanned, tokens}
use Rattle.format.specs.Run.{Got, no_token, bad_token, got, refused, parts, with_first, max_rdata, read_run}
use Rattle.buffer.specs.Writing.{Wrote}
use Rattle.buffer.proofs.Laws.{wrote_none, wrote_append}
use Rattle.buffer.specs.declared.lack.Lack.{Lack}
use Rattle.buffer.specs.declared.lack.Lack.TheVariants.{Missing, Fault}
use Rattle.std.specs.Prelude.{Err}
use Rattle.run_wire.specs.Run.{number_of}
use Rattle.field_read.specs.Fields.{Gives}
use Rattle.run_read.specs.Reading.{Stands}

-- no token is left at the end of a text
pub none_left : (t : List ℕ) (i : ℕ) → i ≡ length t → tokens (drop i t) ≡ []
unfolding scanned
none_left t i e = let h : length t ≤ i = omega arith in ap tokens (drop_of_length-le t h)

module _ (read : Kind → List Token → Got) where
  -- After k fields of a run ks on tokens ts, with the octets xs: what the other fields, ls, make of the tokens left, us, tells what the run makes of ts.
  pub record Ahead (ks : List Kind) (ts : List Token) (ls : List Kind) (us : List Token) (k : ℕ) (xs : List ℕ) : Type 0 where
    pub refuses : (n i : ℕ) → read_run read ls us ≡ refused n i → read_run read ks ts ≡ refused n (k + i)
    pub accepts : (ps : List (List ℕ)) → read_run read ls us ≡ parts ps → (qs : List (List ℕ)) × (read_run read ks ts ≡ parts qs) × (flat qs ≡ xs ++ flat ps)

  run_next : (j : Kind) (js : List Kind) (us : List Token) (p : List ℕ) (vs : List Token) → read j us ≡ got p vs → read_run read (j ∷ js) us ≡ with_first p (read_run read js vs)
  unfolding read_run
  run_next j js us p vs t = rw t

  pub ahead_start : (ks : List Kind) (ts : List Token) → Ahead ks ts ks ts 0 []
  ahead_start ks ts = record { refuses = λ n i e. let q : i ≡ 0 + i = omega arith in e ∙ ap (refused n) q; accepts = λ ps e. (ps, e, refl) }

  module _ {ks : List Kind} {ts : List Token} {ls : List Kind} {us : List Token} {k : ℕ} {xs : List ℕ} (a : Ahead ks ts ls us k xs) (j : Kind) (js : List Kind) (e : ls ≡ j ∷ js) where
    pub ahead_missing : read j us ≡ no_token → read_run read ks ts ≡ refused 8 (k + 1)
    unfolding read_run
    ahead_missing t = a.refuses 8 1 (rw (e, t))

    pub ahead_bad : read j us ≡ bad_token → read_run read ks ts ≡ refused 9 (k + 1)
    unfolding read_run
    ahead_bad t = a.refuses 9 1 (rw (e, t))

    -- what is lacking tells the refusal
    pub ahead_lacks : (w : Lack) (xs ys : List ℕ) (n : ℕ) (s : List ℕ) → Gives xs ys n s (Err w) (read j us) → read_run read ks ts ≡ refused (number_of w) (k + 1)
    ahead_lacks Missing xs ys n s t = ahead_missing t
    ahead_lacks Fault xs ys n s t = ahead_bad t

    pub ahead_got : (p : List ℕ) (vs : List Token) → read j us ≡ got p vs → Ahead ks ts js vs (k + 1) (xs ++ p)
    ahead_got p vs t = record {
      refuses = λ n i r. let q : k + suc i ≡ k + 1 + i = omega arith in a.refuses n (suc i) (on ∙ ap (with_first p) r) ∙ ap (refused n) q;
      accepts = λ ps r. let (qs, f, g) = a.accepts (p ∷ ps) (on ∙ ap (with_first p) r) in (qs, f, g ∙ sym (append_assoc xs p (flat ps)));
    }
      where
        on : read_run read ls us ≡ with_first p (read_run read js vs)
        on = ap (λ l. read_run read l us) e ∙ run_next j js us p vs t

  module _ {ks : List Kind} {ts : List Token} {ls : List Kind} {us : List Token} {k : ℕ} {xs : List ℕ} (a : Ahead ks ts ls us k xs) (e : ls ≡ []) where
    pub ahead_over : null us ≡ false → read_run read ks ts ≡ refused 10 (k + 1)
    unfolding read_run
    ahead_over h = a.refuses 10 1 (rw e (by us h))
      where
        by : (vs : List Token) → null vs ≡ false → read_run read [] vs ≡ refused 10 1
        by [] h = absurd (true≢false h)
        by (v ∷ vs) h = refl

    pub ahead_done : null us ≡ true → (qs : List (List ℕ)) × (read_run read ks ts ≡ parts qs) × (flat qs ≡ xs)
    unfolding read_run
    ahead_done h = let (qs, f, g) = a.accepts [] (rw e (by us h)) in (qs, f, g ∙ append-nil xs)
      where
        by : (vs : List Token) → null vs ≡ true → read_run read [] vs ≡ parts []
        by [] h = refl
        by (v ∷ vs) h = absurd (true≢false (sym h))

-- the octets of the fields that are read
pub stands_none : (o : List ℕ) → Stands o o 0 []
stands_none o = record { whole = λ h. wrote_none o 0; over = λ h. absurd (omega arith) }

pub stands_next : {o₀ o o' : List ℕ} {n m : ℕ} {xs p : List ℕ} (r : ℕ) → Stands o₀ o n xs → Wrote o o' n m p → r ≡ min m 65536 → Stands o₀ o' r (xs ++ p)
stands_next {o₀} {o} {o'} {n} {m} {xs} {p} r s w e = record {
  whole = λ h. let q : r ≡ m = omega arith in subst (λ i. Wrote o₀ o' 0 i (xs ++ p)) (sym q) (wrote_append (s.whole (omega (arith, w.count))) w);
  over = λ h. by h (dec_le n max_rdata);
}
  where
    by : max_rdata < r → Dec (n ≤ max_rdata) → max_rdata < length (xs ++ p)
    by h (yes l) = omega (arith, (s.whole l).count, w.count, length-append xs p)
    by h (no l) = omega (arith, s.over (omega arith), length-append xs p)
