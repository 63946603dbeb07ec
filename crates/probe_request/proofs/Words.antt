-- Laws of the words of a line, by what follows the last one.
use Rattle.std.proofs.Common.{◌≡◌, ℕ, ◌+◌, Bool, true, false, not, cond, List, [], ◌∷◌, length, take, drop, take_while, eqb, arith, refl, ap, ◌∙◌}
use Rattle.std.specs.Prelude.{Option, None, Some}
use Rattle.std.proofs.lemmas.List.Sums.{take_while-cons}
use Rattle.format.specs.Lists.{parting, null}
use Rattle.format.specs.Octets.{split_on}
use Rattle.format.proofs.Lists.{split_some}
use Rattle.probe_request.specs.Request.{said}
use Rattle.probe_request.specs.Words.{words_of, NextWord}

-- an octet of a word
abbrev pub in_word : ℕ → Bool
in_word b = not (eqb b 32)

-- how many octets the first word has
abbrev pub word_length : List ℕ → ℕ
word_length t = length (take_while in_word t)

split_on_word : (x : ℕ) (t : List ℕ) (b : Bool) → split_on 32 t ≡ take (word_length t) t ∷ words_of (drop (word_length t) t)
    → let n = length (cond (not b) (x ∷ take_while in_word t) []) in parting b x (split_on 32 t) ≡ take n (x ∷ t) ∷ words_of (drop n (x ∷ t))
split_on_word x t true ih = refl
split_on_word x t false ih = rw ih

split_word : (t : List ℕ) → split_on 32 t ≡ take (word_length t) t ∷ words_of (drop (word_length t) t)
split_word [] = refl
split_word (x ∷ t) = rw (take_while-cons in_word x t) (split_on_word x t (eqb x 32) (split_word t))

pub next : {rest : List ℕ} (x : ℕ) (t : List ℕ) {w l : List ℕ} → rest ≡ x ∷ t → w ≡ take (word_length t) t → l ≡ drop (word_length t) t → length w + length l ≡ length t → NextWord rest w l
next x t e p q h = record {
  words = rw e (split_word t ∙ cc);
  octets = omega (arith, ap length e);
}

-- what the next word says
pub some_said : {A : Type 0} (f : List ℕ → Option A) {rest w l : List ℕ} → NextWord rest w l → (v : A) → f w ≡ Some v → said f (words_of rest) ≡ Some (record { value = v; later = words_of l })
some_said f n v e = rw (n.words, e)

-- no words are left only at the end of the line
pub some_left : (rest : List ℕ) → (length rest ≡ 0 → ⊥) → null (words_of rest) ≡ false
some_left [] h = absurd (h refl)
some_left (x ∷ t) h = split_some (λ y. eqb y 32) t
