-- What a field makes of its token, by its kind.
use Prim.Native.Nat.{ℕ, ◌<◌, ◌≤◌}
use mathlib.Core.Path.{◌≡◌, refl, sym, ap, subst, ◌∙◌}
use mathlib.Core.Logic.{inl, inr}
use mathlib.Core.Bool.{Bool, true, cond}
use mathlib.Core.List.{List, [], ◌∷◌}
use Rattle.std.specs.Prelude.{Option, None, Some, Result, Ok, Err}
use native.Mathlib.Omega.{arith}
use lib.ListN.{length, drop, drop_of_length-le}
use Rattle.format.specs.Field.{Symbol, Kind}
use Rattle.format.specs.Token.{Token, broken, scanned, tokens}
use Rattle.format.specs.Catalogue.{TypeName}
use Rattle.format.specs.Run.{Got, no_token, bad_token, got, got_or, one_token, read_field}
use Rattle.format.specs.Text.{read_string}
use Rattle.buffer.specs.Writing.{Values}
use Rattle.buffer.specs.declared.lack.Lack.{Lack}
use Rattle.buffer.specs.declared.lack.Lack.TheVariants.{Missing, Fault}
use Rattle.base.specs.Rest.{Gets}
use Rattle.stanza_form.specs.declared.Form.{Form}
use Rattle.stanza_form.specs.declared.Form.TheVariants.{Int, Eui, Name, Rrtype, Dotted, Aa, Aaaa, Time, Str, Base32, Hexc, Bitmap, Strs, Raw, Base64, Hex}
use Rattle.stanza_form.specs.Forms.{kind_of, optional_in, rule_of, takes_one, value_by}
use Rattle.stanza_form.proofs.Forms.{reads_one, none_missing, none_of_broken, Not}
use Rattle.field_read.specs.Fields.{placed_at, got_at, Gives, Onward}

-- no token is left: for a name, and for any other field that takes one
pub none_name : (ns : List TypeName) (f : Form) (m : ℕ) → f ≡ Name m → (l : List Symbol) → takes_one (rule_of ns (kind_of l f)) ≡ true → (o : List ℕ) {b : Bool} → b ≡ optional_in m
    → read_field ns (kind_of l f) o [] ≡ cond b (got [] []) no_token
none_name ns f m e l g o h = reads_one ns (kind_of l f) g o [] ∙ rw (e, h)

pub none_else : (ns : List TypeName) (f : Form) → Not 2 f → (l : List Symbol) → takes_one (rule_of ns (kind_of l f)) ≡ true → (o : List ℕ) → read_field ns (kind_of l f) o [] ≡ no_token
none_else ns f n l g o = reads_one ns (kind_of l f) g o [] ∙ none_missing ns f n l

-- a form that is no name has one of the other tags
pub not_name : (f : Form) → ((m : ℕ) → f ≡ Name m → ⊥) → Not 2 f
not_name (Int m) h = inl refl
not_name (Eui m) h = inr (inl refl)
not_name (Name m) h = absurd (h m refl)
not_name Rrtype h = inr (inr (inl refl))
not_name Dotted h = inr (inr (inr (inl refl)))
not_name Aa h = inr (inr (inr (inr (inl refl))))
not_name Aaaa h = inr (inr (inr (inr (inr (inl refl)))))
not_name Time h = inr (inr (inr (inr (inr (inr (inl refl))))))
not_name Str h = inr (inr (inr (inr (inr (inr (inr (inl refl)))))))
not_name Base32 h = inr (inr (inr (inr (inr (inr (inr (inr (inl refl))))))))
not_name Hexc h = inr (inr (inr (inr (inr (inr (inr (inr (inr (inl refl)))))))))
not_name Bitmap h = inr (inr (inr (inr (inr (inr (inr (inr (inr (inr (inl refl))))))))))
not_name Strs h = inr (inr (inr (inr (inr (inr (inr (inr (inr (inr (inr (inl refl)))))))))))
not_name Raw h = inr (inr (inr (inr (inr (inr (inr (inr (inr (inr (inr (inr (inl refl))))))))))))
not_name Base64 h = inr (inr (inr (inr (inr (inr (inr (inr (inr (inr (inr (inr (inr (inl refl)))))))))))))
not_name Hex h = inr (inr (inr (inr (inr (inr (inr (inr (inr (inr (inr (inr (inr (inr refl)))))))))))))

-- the octets of a token, with the tokens from j on left
pub gives : (before after t : List ℕ) (n : ℕ) (v : Option ℕ) (p : Option (List ℕ)) (j : ℕ) → Values before after n v p → j ≤ length t → Gives before after n t (placed_at v j) (got_or p (tokens (drop j t)))
gives before after t n None p j e h = ap (λ q. got_or q (tokens (drop j t))) e
gives before after t n (Some m) p j (xs, e, w) h = (xs, ap (λ q. got_or q (tokens (drop j t))) e, w, h)

pub gives_token : (ns : List TypeName) (before after t : List ℕ) (n : ℕ) (k : Kind) → takes_one (rule_of ns k) ≡ true → (o : List ℕ) (x : Token) (us : List Token) (v : Option ℕ) (j : ℕ) → x ∷ tokens (drop j t) ≡ us
    → Values before after n v (value_by (rule_of ns k) o x) → j ≤ length t → Gives before after n t (placed_at v j) (read_field ns k o us)
gives_token ns before after t n k g o x us v j e w h =
    subst (λ r. Gives before after n t (placed_at v j) r) (sym (reads_one ns k g o (x ∷ tokens (drop j t))) ∙ ap (read_field ns k o) e) (gives before after t n v (value_by (rule_of ns k) o x) j w h)

pub bad_token_lem : (ns : List TypeName) (k : Kind) → takes_one (rule_of ns k) ≡ true → (o : List ℕ) (us : List Token) → broken ∷ [] ≡ us → read_field ns k o us ≡ bad_token
bad_token_lem ns k g o us e = ap (read_field ns k o) (sym e) ∙ reads_one ns k g o (broken ∷ []) ∙ ap (λ p. got_or p []) (none_of_broken (rule_of ns k) o)

-- a string
pub gives_string : (before after t : List ℕ) (n : ℕ) (x : Token) (us : List Token) (v : Option ℕ) (j : ℕ) → x ∷ tokens (drop j t) ≡ us
    → Values before after n v (read_string x) → j ≤ length t → Gives before after n t (placed_at v j) (one_token read_string us)
gives_string before after t n x us v j e w h =
    subst (λ r. Gives before after n t (placed_at v j) r) (ap (one_token read_string) e) (gives before after t n v (read_string x) j w h)

pub onward : (before after : List ℕ) (i : ℕ) (v : Option ℕ) (j : ℕ) → i < j → Onward before after i (placed_at v j)
onward before after i None j h = tt
onward before after i (Some m) j h = h

-- a field that takes all tokens
tokens_end : (t : List ℕ) → tokens (drop (length t) t) ≡ []
unfolding scanned
tokens_end t = let h : length t ≤ length t = omega arith in ap tokens (drop_of_length-le t h)

pub gives_all : (before after t : List ℕ) (n : ℕ) (v : Option ℕ) (p : Option (List ℕ)) → Values before after n v p → Gives before after n t (placed_at v (length t)) (got_or p [])
gives_all before after t n v p w =
    subst (λ ts. Gives before after n t (placed_at v (length t)) (got_or p ts)) (tokens_end t) (gives before after t n v p (length t) w (omega arith))

pub gives_rest : (before after t : List ℕ) (n : ℕ) (r : Result ℕ Lack) (g : Got) → Gets before after n r g → Gives before after n t (got_at r (length t)) g
gives_rest before after t n (Err Missing) g e = e
gives_rest before after t n (Err Fault) g e = e
gives_rest before after t n (Ok m) g (xs, e, w) = (xs, e ∙ ap (got xs) (sym (tokens_end t)), w, omega arith)
