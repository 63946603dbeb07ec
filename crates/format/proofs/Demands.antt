-- The demands, proved.
use Prim.Native.Nat.{ℕ, zero, suc, ◌+◌, ◌-◌, ◌≤◌, ◌<◌}
use mathlib.Core.Path.{◌≡◌, refl, ap}
use mathlib.Core.Logic.{◌↔◌, ◌⊎◌, inl, inr}
use mathlib.Core.Bool.{Bool, true, false, ◌&&◌, true≢false}
use mathlib.Core.List.{List, [], ◌∷◌, ◌++◌}
use native.Mathlib.Omega.{arith}
use lib.ListN.{length, take, drop, length-take, length-drop, take-append-drop}
use lib.Seq.{drop-nil, take-length, take_all, take-nil}
use lib.Dec.{leb}
use borrow.Author.Tests.{le-leb, leb-true, lt-leb}
use Rattle.format.specs.Lists.{all_of, flat}
use Rattle.format.specs.Octets.{Octets, among}
use Rattle.format.specs.Wire.{Taken, short, bad, took, taken}
use Rattle.format.specs.Field.{Kind, start, Field, kinds}
use Rattle.format.specs.Token.{tokens}
use Rattle.format.specs.Name.{is_wire_name}
use Rattle.format.specs.Judge.{Description, described}
use Rattle.format.specs.Stored.{Lent, judged_of}
use Rattle.format.specs.Run.{shown, read_field, Parts, refused, parts, with_first, after_taking, parts_of, is_parts, max_rdata, accepts, text_of_parts, text_in, text_of, read_run}
use Rattle.format.specs.Catalogue.{Entry, TypeName, Catalogued, bad_entry, known, catalogued_from, catalogued}
use Rattle.format.specs.Entries.{Answer, done, refusal, max_text, or_refusal, of_parts, is_run, run, of_catalogue, printing_of, reading_of, if_room, room, outcome, print_of, read_of}
use Rattle.format.specs.Demands.{tails_last, sound_kind, sound_names, Sound, Prints, Divides, whole_list, second_list, Demand3, RoundTrip, Demand2, ReadAccepted, BadCatalogue, BadRun, BadOrigin, OldAnswers}
use Rattle.format.proofs.Lists.{and_right, all_take, all_drop}
use Rattle.format.proofs.Judge.{judges}
use Rattle.format.proofs.Run.{first, parts_accepted, no_tail}
use Rattle.format.proofs.Cut.{Cuttable, cut_cases, none_left, cut_accepted, cut_once, cut_text}
use Rattle.format.proofs.Fields.{round_trip, reads_accepted}
use Rattle.format.proofs.Bound.{text_within}
use Rattle.format.proofs.Catalogue.{catalogues}

-- a run of a stanza's fields
tails_drop : (n : ℕ) (ks : List Kind) → tails_last ks ≡ true → tails_last (drop n ks) ≡ true
tails_drop zero ks h = h
tails_drop (suc n) [] h = refl
tails_drop (suc n) (k ∷ []) h = rw (drop-nil n)
tails_drop (suc n) (k ∷ l ∷ ks) h = tails_drop n (l ∷ ks) (no_tail k l ks h).1

tails_take : (n : ℕ) (ks : List Kind) → tails_last ks ≡ true → tails_last (take n ks) ≡ true
tails_take zero ks h = refl
tails_take (suc n) [] h = refl
tails_take (suc n) (k ∷ []) h = rw (take-nil n)
tails_take (suc zero) (k ∷ l ∷ ks) h = refl
tails_take (suc (suc n)) (k ∷ l ∷ ks) h = let (f, g) = no_tail k l ks h in rw f (tails_take (suc n) (l ∷ ks) g)

pub kinds_length : (fs : List Field) → length (kinds fs) ≡ length fs
kinds_length [] = refl
kinds_length (f ∷ fs) = ap suc (kinds_length fs)

pub record Fit (ks : List Kind) : Type 0 where
  pub tails : tails_last ks ≡ true
  pub sound : all_of sound_kind ks ≡ true
  pub most : length ks ≤ 64

pub run_fit : (d : Description) → Sound d → (first len : ℕ) → Fit (run first len (kinds d.fields))
run_fit d s first len =
    let ks : List Kind = drop (first - 1) (kinds d.fields) in
    record {
      tails = tails_take len ks (tails_drop (first - 1) (kinds d.fields) s.tails_last_lem);
      sound = all_take sound_kind len ks (all_drop sound_kind (first - 1) (kinds d.fields) s.kinds_sound);
      most = omega (arith, s.most_fields, kinds_length d.fields, length-take len ks, length-drop (first - 1) (kinds d.fields));
    }

-- what reading answers with 0 is accepted
pub read_accepted : ReadAccepted
unfolding reading_of
read_accepted es names s d j first len o t xs e = by (leb (length t) max_text) (rw j at e)
  where
    ks : List Kind
    ks = run first len (kinds d.fields)

    fit : Fit ks
    fit = run_fit d (judges s d j) first len

    -- what follows 13
    Rest : List TypeName → Answer
    Rest c = of_parts (read_run (λ k ts. read_field c k o ts) ks (tokens t)) (λ ps. or_refusal 11 (leb (length (flat ps)) max_rdata) (done (flat ps)))

    on_parts : (c : List TypeName) → sound_names c ≡ true → is_wire_name o ≡ true → (q : Parts) → read_run (λ k ts. read_field c k o ts) ks (tokens t) ≡ q → of_parts q (λ ps. or_refusal 11 (leb (length (flat ps)) max_rdata) (done (flat ps))) ≡ done xs → accepts ks xs ≡ true
    on_parts c g w (refused n i) p e = cc
    on_parts c g w (parts ps) p e = on_length (leb (length (flat ps)) max_rdata) refl e
      where
        on_length : (a : Bool) → leb (length (flat ps)) max_rdata ≡ a → or_refusal 11 a (done (flat ps)) ≡ done xs → accepts ks xs ≡ true
        on_length true a e = let z : flat ps ≡ xs = cc in rw (← z) (parts_accepted ks (flat ps) ps (leb-true (length (flat ps)) max_rdata a) (reads_accepted c g o w ks (tokens t) ps fit.tails fit.sound p))
        on_length false a e = cc

    on_names : is_wire_name o ≡ true → (r : Catalogued) → catalogued names es ≡ r → of_catalogue r Rest ≡ done xs → accepts ks xs ≡ true
    on_names w (bad_entry i) p e = cc
    on_names w (known c) p e = on_parts c (catalogues names es c p).0 w (read_run (λ k ts. read_field c k o ts) ks (tokens t)) refl e

    on_origin : (a : Bool) → is_wire_name o ≡ a → or_refusal 7 a (of_catalogue (catalogued names es) Rest) ≡ done xs → accepts ks xs ≡ true
    on_origin true a e = on_names a (catalogued names es) refl e
    on_origin false a e = cc

    on_run : (a : Bool) → or_refusal 6 a (or_refusal 7 (is_wire_name o) (of_catalogue (catalogued names es) Rest)) ≡ done xs → accepts ks xs ≡ true
    on_run true e = on_origin (is_wire_name o) refl e
    on_run false e = cc

    by : (a : Bool) → or_refusal 1 a (or_refusal 6 (is_run first len (kinds d.fields)) (or_refusal 7 (is_wire_name o) (of_catalogue (catalogued names es) Rest))) ≡ done xs → accepts ks xs ≡ true
    by true e = on_run (is_run first len (kinds d.fields)) e
    by false e = cc

-- room or none
fits_room : (t : List ℕ) (n : ℕ) → length t ≤ n → if_room n (done t) ≡ done t
fits_room t n h = rw (le-leb (length t) n h)

lacks_room : (t : List ℕ) (n : ℕ) → n < length t → if_room n (done t) ≡ refusal 12 (length t)
lacks_room t n h = rw (lt-leb (length t) n h)

-- the numbers of a run's refusals
abbrev Numbered : Parts → Type 0
Numbered (refused n i) = among n (1 ∷ 8 ∷ 9 ∷ 10 ∷ []) ≡ true
Numbered (parts ps) = Unit {0}

numbered : (ks : List Kind) (xs : List ℕ) → Numbered (parts_of ks xs)
unfolding parts_of
numbered [] [] = tt
numbered [] (x ∷ xs) = refl
numbered (k ∷ ks) xs = by (taken (start k) xs) (λ ys. numbered ks ys)
  where
    on : (p : List ℕ) (r : Parts) → Numbered r → Numbered (with_first p r)
    on p (refused n i) h = h
    on p (parts ps) h = tt

    by : (t : Taken) → ((ys : List ℕ) → Numbered (parts_of ks ys)) → Numbered (after_taking t xs (λ ys. parts_of ks ys))
    by short ih = refl
    by bad ih = refl
    by (took n) ih = on (take n xs) (parts_of ks (drop n xs)) (ih (drop n xs))

module _ (es : List Entry) (names : List ℕ) (c : List TypeName) (n : catalogued names es ≡ known c) (s : Lent) (d : Description) (j : judged_of s ≡ described d) (first len : ℕ) (r : is_run first len (kinds d.fields) ≡ true) where
  abbrev ks : List Kind
  ks = run first len (kinds d.fields)

  -- printing, want of room apart
  prints_text : (xs : List ℕ) → accepts ks xs ≡ true → printing_of s first len es names xs ≡ done (text_of c ks xs)
  unfolding printing_of accepts text_of
  prints_text xs h = rw (j, r, n) (by (leb (length xs) max_rdata) (parts_of ks xs) h)
    where
      by : (a : Bool) (q : Parts) → a && is_parts q ≡ true → or_refusal 1 a (of_parts q (λ ps. done (text_of_parts (shown c) ks ps))) ≡ done (text_in (shown c) ks q)
      by true (parts ps) e = refl
      by true (refused n i) e = cc
      by false q e = cc

  abbrev Refusing : Answer → Type 0
  Refusing (done t) = ⊥
  Refusing (refusal n i) = among n (1 ∷ 8 ∷ 9 ∷ 10 ∷ []) ≡ true

  prints_refusal : (xs : List ℕ) → accepts ks xs ≡ false → Refusing (printing_of s first len es names xs)
  unfolding printing_of accepts
  prints_refusal xs h = rw (j, r, n) (by (leb (length xs) max_rdata) (parts_of ks xs) (numbered ks xs) h)
    where
      by : (a : Bool) (q : Parts) → Numbered q → a && is_parts q ≡ false → Refusing (or_refusal 1 a (of_parts q (λ ps. done (text_of_parts (shown c) ks ps))))
      by true (parts ps) n e = absurd (true≢false e)
      by true (refused m i) n e = n
      by false q n e = refl

  pub prints : (xs : List ℕ) → Prints es names c s first len (run first len (kinds d.fields)) xs
  unfolding print_of
  prints xs = record {
    enough_room = λ h out at l. rw (prints_text xs h, fits_room (text_of c ks xs) (room out at) l);
    no_room = λ h out at l. rw (prints_text xs h, lacks_room (text_of c ks xs) (room out at) l);
    refuses = λ h out at. by (printing_of s first len es names xs) out at (prints_refusal xs h);
  }
    where
      by : (a : Answer) (out : List ℕ) (at : ℕ) → Refusing a → (among (outcome out at (if_room (room out at) a)).number (1 ∷ 8 ∷ 9 ∷ 10 ∷ []) ≡ true) × ((outcome out at (if_room (room out at) a)).lent ≡ out)
      by (done t) out at h = absurd h
      by (refusal n i) out at h = (h, refl)

  -- reading the printed text
  reads_text : (xs : List ℕ) → Octets xs → accepts ks xs ≡ true → (o : List ℕ) → is_wire_name o ≡ true → reading_of s first len es names o (text_of c ks xs) ≡ done xs
  unfolding reading_of accepts text_of
  reads_text xs b h o w = by (leb (length xs) max_rdata) refl (parts_of ks xs) refl h
    where
      fit : Fit ks
      fit = run_fit d (judges s d j) first len

      sound : sound_names c ≡ true
      sound = (catalogues names es c n).0

      by : (a : Bool) → leb (length xs) max_rdata ≡ a → (q : Parts) → parts_of ks xs ≡ q → a && is_parts q ≡ true → reading_of s first len es names o (text_in (shown c) ks q) ≡ done xs
      by true a (parts ps) p e =
          let h = round_trip c sound o ks fit.tails fit.sound xs b ps p in
          let m : length (text_of_parts (shown c) ks ps) ≤ max_text = text_within c sound ks fit.tails fit.sound fit.most xs b (leb-true (length xs) max_rdata a) ps p in
          rw (le-leb (length (text_of_parts (shown c) ks ps)) max_text m, j, r, w, n, h.0, h.1, a)
      by true a (refused n i) p e = cc
      by false a q p e = cc

  round : (xs : List ℕ) → Octets xs → RoundTrip es names c s first len (run first len (kinds d.fields)) xs
  unfolding read_of
  round xs b = record {
    prints = prints xs;
    reads = λ h o w out at l. rw (reads_text xs b h o w, fits_room xs (room out at) l);
    reads_no_room = λ h o w out at l. rw (reads_text xs b h o w, lacks_room xs (room out at) l);
  }

pub demand_2 : Demand2
demand_2 es names c n s d j first len r xs b = round es names c n s d j first len r xs b

-- the lists of a cut
whole_list_lem : (ks : List Kind) → whole_list ks ≡ ks
whole_list_lem ks = take-length ks

second_list_lem : (ks : List Kind) (k : ℕ) → second_list ks k ≡ drop k ks
second_list_lem ks k = let q : k + 1 - 1 ≡ k = omega arith in rw q (take_all (length ks - k) (drop k ks) (omega (arith, length-drop k ks)))

a_run : (ks : List Kind) (first len : ℕ) → 1 ≤ first → first - 1 + len ≤ length ks → is_run first len ks ≡ true
a_run ks first len h l = rw (le-leb 1 first h, le-leb (first - 1 + len) (length ks) l)

pub demand_3 : Demand3
demand_3 es names n v s d j k h xs m = record {
  accepted = rw (whole_list_lem ks, second_list_lem ks k) (whole_cut (cut_accepted front back c xs m));
  no_other = λ e v f w u. rw (second_list_lem ks k) (other e (rw (second_list_lem ks k) at v) f w u (accepts front (take f xs)) refl (accepts back (drop f xs)) refl);
  text = λ e w. rw (whole_list_lem ks, second_list_lem ks k) (whole_text (cut_text front back c xs n e (rw (second_list_lem ks k) at w)));
  nothing = (λ e. none_left xs (and_right (leb (length xs) max_rdata) (is_parts (parts_of [] xs)) (unfold accepts in e)), λ e. rw e (unfold accepts parts_of in refl));
  no_text = unfold text_of parts_of text_of_parts in refl;
  whole_prints = prints es names n v s d j 1 (length ks) (a_run ks 1 (length ks) (omega arith) (omega arith)) xs;
  first_prints = λ e. prints es names n v s d j 1 k (a_run ks 1 k (omega arith) (omega (arith, kinds_length d.fields))) (take e xs);
  second_prints = λ e. prints es names n v s d j (k + 1) (length ks - k) (a_run ks (k + 1) (length ks - k) (omega arith) (omega (arith, kinds_length d.fields))) (drop e xs);
}
  where
    ks : List Kind
    ks = kinds d.fields

    front : List Kind
    front = take k ks

    back : List Kind
    back = drop k ks

    c : Cuttable front back
    c = cut_cases ks k (judges s d j).tails_last_lem

    whole_cut : (accepts (front ++ back) xs ≡ true) ↔ ((e : ℕ) × Divides front back xs e) → (accepts ks xs ≡ true) ↔ ((e : ℕ) × Divides front back xs e)
    whole_cut p = rw (take-append-drop k ks) at p

    whole_text : {t : List ℕ} → text_of n (front ++ back) xs ≡ t → text_of n ks xs ≡ t
    whole_text p = rw (take-append-drop k ks) at p

    other : (e : ℕ) → Divides front back xs e → (f : ℕ) → f ≤ length xs → (f ≡ e → ⊥) → (a : Bool) → accepts front (take f xs) ≡ a → (b : Bool) → accepts back (drop f xs) ≡ b
        → (accepts front (take f xs) ≡ false) ⊎ (accepts back (drop f xs) ≡ false)
    other e v f w u true p true q = absurd (u (cut_once front back c xs f e (record { within = w; front = p; back = q }) v))
    other e v f w u true p false q = inr q
    other e v f w u false p b q = inl p

-- a bad catalogue, whatever the RDATA and the text
pub bad_catalogue : BadCatalogue
unfolding print_of printing_of read_of reading_of
bad_catalogue es names i n s d j first len r = record {
  printing_13 = λ xs l out at. rw (le-leb (length xs) max_rdata l, j, r, n);
  reading_13 = λ o w t l out at. rw (le-leb (length t) max_text l, j, r, w, n);
}

-- the order before 13
pub bad_run : BadRun
unfolding print_of printing_of read_of reading_of
bad_run es names s d j first len r = record {
  printing_6 = λ xs l out at. rw (le-leb (length xs) max_rdata l, j, r);
  reading_6 = λ o t l out at. rw (le-leb (length t) max_text l, j, r);
}

pub bad_origin : BadOrigin
unfolding read_of reading_of
bad_origin es names s d j first len r o w t l out at = rw (le-leb (length t) max_text l, j, r, w)

-- no entry: the old answers
pub old_answers : OldAnswers
unfolding print_of printing_of read_of reading_of catalogued_from shown read_field
old_answers = record {
  shown_type = λ p. refl;
  shown_types = λ p. refl;
  read_type_lem = λ o ts. refl;
  read_types = λ o ts. refl;
  no_entry_prints = λ stanza first len names rdata out at. refl;
  no_entry_reads = λ stanza first len names origin text out at. refl;
}
