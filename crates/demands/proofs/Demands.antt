-- The demands over the promises of the entries, proved from these promises alone.
use Prim.Native.Nat.{ℕ, ◌+◌, ◌-◌, ◌≤◌, ◌<◌}
use mathlib.Core.Path.{◌≡◌, refl, sym, ap, subst, ◌∙◌}
use mathlib.Core.Logic.{◌↔◌, ◌⊎◌, inl, inr}
use mathlib.Core.Bool.{Bool, true, false, not, cond, ◌||◌, true≢false}
use mathlib.Core.List.{List, [], ◌∷◌, ◌++◌, append-nil, append_assoc}
use native.Mathlib.Omega.{arith}
use native.Mathlib.Nat.{add-zero}
use native.Mathlib.Decide.{dec_le}
use lib.ListN.{length, take, drop, length-take, take-append-drop}
use lib.Seq.{take_at, drop_at}
use lib.Dec.{eqb, leb}
use borrow.Author.Tests.{eqb-true, eq-eqb, le-leb, leb-true, leb-false}
use Rattle.format.specs.Lists.{all_of}
use Rattle.format.specs.Octets.{Octets, among}
use Rattle.format.specs.Field.{Kind, kinds}
use Rattle.format.specs.Wire.{taken as wire_taken}
use Rattle.format.specs.Name.{is_wire_name}
use Rattle.format.specs.Judge.{Description, Judged, rejected, described}
use Rattle.format.specs.Stored.{Lent, as_file, as_stored, judged_of}
use Rattle.format.specs.Catalogue.{Entry, TypeName, known, catalogued}
use Rattle.format.specs.Run.{parts_of, is_parts, max_rdata, accepts, joined, text_of}
use Rattle.format.specs.Entries.{Answer, done, refusal, max_text, room, stored, is_run, run, if_room, Outcome, outcome, printing_of, print_of, reading_of, read_of, judge_outcome, judge_of}
use Rattle.format.specs.Demands.{Prints, RoundTrip, Divides, whole_list, first_list, second_list, Cuts}
use Rattle.format.proofs.Lists.{and_left}
use Rattle.format.proofs.Judge.{judges}
use Rattle.format.proofs.Demands.{demand_2, demand_3, prints, read_accepted, bad_catalogue, kinds_length}
use Rattle.demands.proofs.ReadOctets.{read_octets}
use Rattle.demands.specs.Demands.{JudgeCall, PrintCall, ReadCall, EntryCalls, print_with_numbers_of, read_with_numbers_of, print_numbers_of, read_numbers_of, Answered, Keeps, FirstDemand, taken, accepted, written, rdata_of, Answers, Returns, BadNames, RunOf, SecondDemand, CutCalls, EmptyCall, ThirdDemand}
use Rattle.entry.specs.declared.Reply.{Reply}
use Rattle.entry.specs.Entries.{Replies, Leaves}
use Rattle.entry.specs.Refusals.{no_room, judge_numbers_of}
use Rattle.entry.proofs.Refusals.{apart, Row, row_wider, lent_rejected, print_refusals, read_refusals, stored_refusals, Rows, print_rows, read_rows, print_rows_old, read_rows_old, not_zero}
use Rattle.entry.proofs.Numbers.{print_told, read_told, zero_done, HasRun, print_run, read_short, read_run_lem}

-- every entry's promise is a call's
pub entry_calls : EntryCalls
entry_calls = record {
  judge = λ s r p. p;
  judge_stored_lem = λ t e r p. p;
  print = λ s f m xs o at r a p. p;
  print_with_lem = λ s f m es ns xs o at r a p. p;
  print_stored_lem = λ t f m e xs o at r a p. p;
  read = λ s f m g t o at r a p. p;
  read_with_lem = λ s f m es ns g t o at r a p. p;
  read_stored_lem = λ x f m e g t o at r a p. p;
}

-- the octets of a stored text
stored_text : (out : List ℕ) (at : ℕ) (t : List ℕ) → length t ≤ room out at → take (length t) (drop at (stored out at t)) ≡ t
stored_text out at [] h = refl
stored_text out at (x ∷ t) h =
    let n : length (take at out) ≡ at = omega (arith, length-take at out) in
    ap (λ fit. take (length (x ∷ t)) (drop at fit)) (append_assoc (take at out) (x ∷ t) (drop (at + length (x ∷ t)) out))
    ∙ ap (take (length (x ∷ t))) (drop_at (take at out) ((x ∷ t) ++ drop (at + length (x ∷ t)) out) at n) ∙ take_at (x ∷ t) (drop (at + length (x ∷ t)) out) (length (x ∷ t)) refl

nothing_stored : (out : List ℕ) (at : ℕ) → stored out at [] ≡ out
nothing_stored out at = ap (λ i. take at out ++ [] ++ drop i out) (add-zero at) ∙ ap (λ r. r ++ drop at out) (append-nil (take at out)) ∙ take-append-drop at out

-- 1, 8, 9 and 10 are neither 0 nor 12
no_answer : (n : ℕ) → among n (1 ∷ 8 ∷ 9 ∷ 10 ∷ []) ≡ true → among n (0 ∷ 12 ∷ []) ≡ false
no_answer n h = apart n (1 ∷ 8 ∷ 9 ∷ 10 ∷ []) (0 ∷ 12 ∷ []) refl h

module _ (es : List Entry) (names : List ℕ) (types : List TypeName) (ks : List Kind) (l : Lent) (first many : ℕ) (xs : List ℕ) (p : Prints es names types l first many ks xs)
    (c : PrintCall es names l first many xs) where
  -- the three ways to answer
  data Way : Type 0 where
    written_text : accepts ks xs ≡ true → length (text_of types ks xs) ≤ room c.out c.at → c.reply.number ≡ 0 → c.reply.place ≡ length (text_of types ks xs)
        → c.after ≡ stored c.out c.at (text_of types ks xs) → Way
    lacking_room : accepts ks xs ≡ true → room c.out c.at < length (text_of types ks xs) → c.reply.number ≡ 12 → c.reply.place ≡ length (text_of types ks xs) → c.after ≡ c.out → Way
    refusing : accepts ks xs ≡ false → among c.reply.number (1 ∷ 8 ∷ 9 ∷ 10 ∷ []) ≡ true → c.after ≡ c.out → Way

  way : Way
  way = by (accepts ks xs) refl (dec_le (length (text_of types ks xs)) (room c.out c.at))
    where
      by : (b : Bool) → accepts ks xs ≡ b → Dec (length (text_of types ks xs) ≤ room c.out c.at) → Way
      by true a (yes fit) =
          let e = p.enough_room a c.out c.at fit in
          written_text a fit (c.promise.numbers ∙ ap (λ o. o.number) e) (c.promise.places ∙ ap (λ o. o.place) e) (c.promise.octets ∙ ap (λ o. o.lent) e)
      by true a (no fit) =
          let m : room c.out c.at < length (text_of types ks xs) = omega arith in
          let e = p.no_room a c.out c.at m in
          lacking_room a m (c.promise.numbers ∙ ap (λ o. o.number) e) (c.promise.places ∙ ap (λ o. o.place) e) (c.promise.octets ∙ ap (λ o. o.lent) e)
      by false a fit = let e = p.refuses a c.out c.at in refusing a (rw c.promise.numbers e.0) (c.promise.octets ∙ e.1)

  answers : Answers es names types ks l first many xs c
  answers = by way
    where
      by : Way → Answers es names types ks l first many xs c
      by (written_text a fit n q r) = record {
        exactly = rw (n, a);
        text = λ z. (q, rw (q, r) (stored_text c.out c.at (text_of types ks xs) fit), r);
        needed = λ z. absurd (omega (arith, n, z));
        refused = λ z. absurd (true≢false (rw n at z));
      }
      by (lacking_room a fit n q r) = record {
        exactly = rw (n, a);
        text = λ z. absurd (omega (arith, n, z));
        needed = λ z. (q, fit, r);
        refused = λ z. absurd (true≢false (rw n at z));
      }
      by (refusing a n r) = record {
        exactly = no_answer c.reply.number n ∙ sym a;
        text = λ z. absurd (true≢false (sym (rw z at n)));
        needed = λ z. absurd (true≢false (sym (rw z at n)));
        refused = λ z. (n, r);
      }

-- if a call answers 0, its list accepts
done_accepts : {es : List Entry} {names : List ℕ} (types : List TypeName) (ks : List Kind) (l : Lent) (first many : ℕ) (xs : List ℕ) (c : PrintCall es names l first many xs)
    → Answers es names types ks l first many xs c → c.reply.number ≡ 0 → accepts ks xs ≡ true
done_accepts types ks l first many xs c a z = sym a.exactly ∙ rw z

module _ (es : List Entry) (names : List ℕ) (types : List TypeName) (n : catalogued names es ≡ known types)
    (l : Lent) (d : Description) (j : judged_of l ≡ described d) (k : ℕ) (h : k ≤ length d.fields) (xs : List ℕ) (m : length xs ≤ max_rdata) where
  ks : List Kind
  ks = kinds d.fields

  cuts : Cuts es names types l (kinds d.fields) k xs
  cuts = demand_3 es names types n l d j k h xs m

  module _ (whole : PrintCall es names l 1 (length (kinds d.fields)) xs) (front : (e : ℕ) → PrintCall es names l 1 k (take e xs))
      (back : (e : ℕ) → PrintCall es names l (k + 1) (length (kinds d.fields) - k) (drop e xs)) where
    whole_way : Answers es names types (whole_list (kinds d.fields)) l 1 (length (kinds d.fields)) xs whole
    whole_way = answers es names types (whole_list (kinds d.fields)) l 1 (length (kinds d.fields)) xs cuts.whole_prints whole

    front_way : (e : ℕ) → Answers es names types (first_list (kinds d.fields) k) l 1 k (take e xs) (front e)
    front_way e = answers es names types (first_list (kinds d.fields) k) l 1 k (take e xs) (cuts.first_prints e) (front e)

    back_way : (e : ℕ) → Answers es names types (second_list (kinds d.fields) k) l (k + 1) (length (kinds d.fields) - k) (drop e xs) (back e)
    back_way e = answers es names types (second_list (kinds d.fields) k) l (k + 1) (length (kinds d.fields) - k) (drop e xs) (cuts.second_prints e) (back e)

    divided : (e : ℕ) → e ≤ length xs → accepted (front e) ≡ true → accepted (back e) ≡ true → Divides (first_list (kinds d.fields) k) (second_list (kinds d.fields) k) xs e
    divided e fit a b = record { within = fit; front = sym (front_way e).exactly ∙ a; back = sym (back_way e).exactly ∙ b }

    cut_calls : CutCalls es names types l (kinds d.fields) k xs whole front back
    cut_calls = record {
      divides = (
        λ a. let (e, v) = cuts.accepted.0 (sym whole_way.exactly ∙ a) in (e, v.within, (front_way e).exactly ∙ v.front, (back_way e).exactly ∙ v.back),
        λ (e, fit, a, b). whole_way.exactly ∙ cuts.accepted.1 (e, divided e fit a b),
      );
      no_other = λ e fit a b f w u. by f (cuts.no_other e (divided e fit a b) f w u);
      texts = λ e fit a b c. (whole_way.text a).1 ∙ cuts.text e (record { within = fit; front = done_accepts types _ _ _ _ _ (front e) (front_way e) b; back = done_accepts types _ _ _ _ _ (back e) (back_way e) c })
          ∙ ap (λ t. joined t (text_of types (second_list (kinds d.fields) k) (drop e xs))) (sym ((front_way e).text b).1) ∙ ap (joined (written (front e))) (sym ((back_way e).text c).1);
      whole_answers = whole_way;
      front_answers = front_way;
      back_answers = back_way;
    }
      where
        by : (f : ℕ) → (accepts (first_list (kinds d.fields) k) (take f xs) ≡ false) ⊎ (accepts (second_list (kinds d.fields) k) (drop f xs) ≡ false) → (accepted (front f) ≡ false) ⊎ (accepted (back f) ≡ false)
        by f (inl a) = inl ((front_way f).exactly ∙ a)
        by f (inr b) = inr ((back_way f).exactly ∙ b)

  empty_call : (c : PrintCall es names l (k + 1) 0 xs) → EmptyCall es names l k xs c
  empty_call c = record { only = (λ e. cuts.nothing.0 (sym way_to.exactly ∙ e), λ e. way_to.exactly ∙ cuts.nothing.1 e); none = λ e. by e (cuts.nothing.0 (sym way_to.exactly ∙ e)) }
    where
      is_run_lem : is_run (k + 1) 0 (kinds d.fields) ≡ true
      is_run_lem = rw (le-leb 1 (k + 1) (omega arith), le-leb (k + 1 - 1 + 0) (length (kinds d.fields)) (omega (arith, kinds_length d.fields)))

      way_to : Answers es names types [] l (k + 1) 0 xs c
      way_to = answers es names types [] l (k + 1) 0 xs (prints es names types n l d j (k + 1) 0 is_run_lem xs) c

      text_none : xs ≡ [] → length (text_of types [] xs) ≡ 0
      text_none e = ap length (ap (text_of types []) e ∙ cuts.no_text)

      by : accepted c ≡ true → xs ≡ [] → (c.reply.number ≡ 0) × (c.reply.place ≡ 0) × (c.after ≡ c.out)
      by e q = on (eqb c.reply.number 0) refl (eqb c.reply.number 12) refl e
        where
          on : (a : Bool) → eqb c.reply.number 0 ≡ a → (b : Bool) → eqb c.reply.number 12 ≡ b → a || (b || false) ≡ true → (c.reply.number ≡ 0) × (c.reply.place ≡ 0) × (c.after ≡ c.out)
          on true a b p f =
              let n = eqb-true c.reply.number 0 a in
              let t = way_to.text n in
              let z : text_of types [] xs ≡ [] = ap (text_of types []) q ∙ cuts.no_text in
              (n, t.0 ∙ text_none q, t.2 ∙ ap (stored c.out c.at) z ∙ nothing_stored c.out c.at)
          on false a true p f = absurd (omega (arith, (way_to.needed (eqb-true c.reply.number 12 p)).1, text_none q))
          on false a false p f = absurd (true≢false (sym f))

pub third_demand : ThirdDemand
third_demand es names types n l d j k h xs m = (λ whole front back. cut_calls es names types n l d j k h xs m whole front back, λ c. empty_call es names types n l d j k h xs m c)

-- a run of an accepted description, with a catalogue that is not refused
module _ (es : List Entry) (names : List ℕ) (l : Lent) (first many : ℕ) (h : HasRun l first many es names) where
  abbrev run_kinds : List Kind
  run_kinds = run first many (kinds h.description.fields)

  run_answers : (xs : List ℕ) (c : PrintCall es names l first many xs) → Answers es names h.types run_kinds l first many xs c
  run_answers xs c = answers es names h.types run_kinds l first many xs (prints es names h.types h.known_there l h.description h.accepted first many h.run xs) c

-- a call that answers 0 is on such a run
printed_run : (es : List Entry) (names : List ℕ) (l : Lent) (first many : ℕ) (xs : List ℕ) (c : PrintCall es names l first many xs) → c.reply.number ≡ 0 → HasRun l first many es names
unfolding print_of
printed_run es names l first many xs c z =
    let (t, e, fit) = zero_done (printing_of l first many es names xs) (print_told l first many es names xs) c.out c.at (sym c.promise.numbers ∙ z) in
    print_run l first many es names xs t e

one_text : (es : List Entry) (names : List ℕ) (l : Lent) (first many : ℕ) (xs : List ℕ) (p q : PrintCall es names l first many xs)
    → p.reply.number ≡ 0 → q.reply.number ≡ 0 → written p ≡ written q
one_text es names l first many xs p q y z =
    let h = printed_run es names l first many xs p y in
    ((run_answers es names l first many h xs p).text y).1 ∙ sym ((run_answers es names l first many h xs q).text z).1

returned : (es : List Entry) (names : List ℕ) (l : Lent) (first many : ℕ) (xs : List ℕ) → Octets xs → (p : PrintCall es names l first many xs) → p.reply.number ≡ 0
    → (origin : List ℕ) → is_wire_name origin ≡ true → (q : ReadCall es names l first many origin (written p)) → Returns es names l first many origin (written p) xs q
returned es names l first many xs b p z origin w q = record {
  enough_room = λ fit.
      let e = reads ∙ trip.reads in_list origin w q.out q.at fit in
      let n = q.promise.places ∙ ap (λ o. o.place) e in
      let r = q.promise.octets ∙ ap (λ o. o.lent) e in
      (q.promise.numbers ∙ ap (λ o. o.number) e, n, rw (n, r) (stored_text q.out q.at xs fit), r);
  no_room = λ fit.
      let e = reads ∙ trip.reads_no_room in_list origin w q.out q.at fit in
      (q.promise.numbers ∙ ap (λ o. o.number) e, q.promise.places ∙ ap (λ o. o.place) e, q.promise.octets ∙ ap (λ o. o.lent) e);
}
  where
    h : HasRun l first many es names
    h = printed_run es names l first many xs p z

    ks : List Kind
    ks = run_kinds es names l first many h

    a : Answers es names h.types ks l first many xs p
    a = run_answers es names l first many h xs p

    in_list : accepts ks xs ≡ true
    in_list = done_accepts h.types ks l first many xs p a z

    trip : RoundTrip es names h.types l first many ks xs
    trip = demand_2 es names h.types h.known_there l h.description h.accepted first many h.run xs b

    reads : read_of l first many es names origin (written p) q.out q.at ≡ read_of l first many es names origin (text_of h.types ks xs) q.out q.at
    reads = ap (λ t. read_of l first many es names origin t q.out q.at) (a.text z).1

-- what reading wrote is what the definition answers
read_done : (es : List Entry) (names : List ℕ) (l : Lent) (first many : ℕ) (origin text : List ℕ) (c : ReadCall es names l first many origin text) → c.reply.number ≡ 0
    → reading_of l first many es names origin text ≡ done (rdata_of c)
unfolding read_of
read_done es names l first many origin text c z =
    let (xs, e, fit) = zero_done (reading_of l first many es names origin text) (read_told l first many es names origin text) c.out c.at (sym c.promise.numbers ∙ z) in by xs e fit
  where
    by : (xs : List ℕ) → reading_of l first many es names origin text ≡ done xs → length xs ≤ room c.out c.at → reading_of l first many es names origin text ≡ done (rdata_of c)
    by xs e fit =
        let f : read_of l first many es names origin text c.out c.at ≡ record { number = 0; place = length xs; lent = stored c.out c.at xs } = rw (e, le-leb (length xs) (room c.out c.at) fit) in
        let n = c.promise.places ∙ ap (λ o. o.place) f in
        let r = c.promise.octets ∙ ap (λ o. o.lent) f in
        rw (n, r, stored_text c.out c.at xs fit) e

reads_accepted : (es : List Entry) (names : List ℕ) (l : Lent) (first many : ℕ) (origin text : List ℕ) (q : ReadCall es names l first many origin text) → q.reply.number ≡ 0
    → (p : PrintCall es names l first many (rdata_of q)) → accepted p ≡ true
reads_accepted es names l first many origin text q z p =
    let e = read_done es names l first many origin text q z in
    let h = read_run_lem l first many es names origin text (rdata_of q) e in
    (run_answers es names l first many h (rdata_of q) p).exactly ∙ read_accepted es names l h.description h.accepted first many origin text (rdata_of q) e

-- what the definition's answer means for a call: a result, given room; want of room; or a refusal
data Came (a : Answer) (out : List ℕ) (at : ℕ) (r : Reply) (after : List ℕ) : Type 0 where
  gives : (t : List ℕ) → a ≡ done t → length t ≤ room out at → r.number ≡ 0 → r.place ≡ length t → after ≡ stored out at t → Came a out at r after
  lacks : (t : List ℕ) → a ≡ done t → room out at < length t → r.number ≡ 12 → r.place ≡ length t → after ≡ out → Came a out at r after
  refuses : (n i : ℕ) → a ≡ refusal n i → r.number ≡ n → r.place ≡ i → after ≡ out → Came a out at r after

came : (a : Answer) (out : List ℕ) (at : ℕ) (r : Reply) (after : List ℕ) → Leaves r after (outcome out at (if_room (room out at) a)) → Came a out at r after
came (refusal n i) out at r after w = refuses n i refl w.numbers w.places w.octets
came (done t) out at r after w = by (leb (length t) (room out at)) refl w
  where
    by : (b : Bool) → leb (length t) (room out at) ≡ b → Leaves r after (outcome out at (cond b (done t) (refusal 12 (length t)))) → Came (done t) out at r after
    by true fit w = gives t refl (leb-true (length t) (room out at) fit) w.numbers w.places w.octets
    by false fit w = lacks t refl (leb-false (length t) (room out at) fit) w.numbers w.places w.octets

print_came : {es : List Entry} {names : List ℕ} {l : Lent} {first many : ℕ} {xs : List ℕ} (c : PrintCall es names l first many xs)
    → Came (printing_of l first many es names xs) c.out c.at c.reply c.after
unfolding print_of
print_came c = came _ c.out c.at c.reply c.after c.promise

read_came : {es : List Entry} {names : List ℕ} {l : Lent} {first many : ℕ} {origin text : List ℕ} (c : ReadCall es names l first many origin text)
    → Came (reading_of l first many es names origin text) c.out c.at c.reply c.after
unfolding read_of
read_came c = came _ c.out c.at c.reply c.after c.promise

-- the root is a wire name
root_name : is_wire_name (0 ∷ []) ≡ true
unfolding wire_taken
root_name = refl

-- a printed text has at most 1,048,576 octets: it would not be read back else
print_length : (es : List Entry) (names : List ℕ) (l : Lent) (first many : ℕ) (xs : List ℕ) → Octets xs → (t : List ℕ) → printing_of l first many es names xs ≡ done t → length t ≤ max_text
unfolding print_of read_of
print_length es names l first many xs b t e = omega (arith, (a.text refl).0, read_short l first many es names (0 ∷ []) (text_of h.types ks xs) back.0 back.1)
  where
    h : HasRun l first many es names
    h = print_run l first many es names xs t e

    ks : List Kind
    ks = run_kinds es names l first many h

    c : PrintCall es names l first many xs
    c = record {
      out = t;
      at = 0;
      reply = record { number = 0; place = length t };
      after = stored t 0 t;
      promise = rw (e, le-leb (length t) (length t - 0) (omega arith)) (record { numbers = refl; places = refl; octets = refl });
    }

    a : Answers es names h.types ks l first many xs c
    a = run_answers es names l first many h xs c

    trip : RoundTrip es names h.types l first many ks xs
    trip = demand_2 es names h.types h.known_there l h.description h.accepted first many h.run xs b

    back : (ys : List ℕ) × (reading_of l first many es names (0 ∷ []) (text_of h.types ks xs) ≡ done ys) × (length ys ≤ room xs 0)
    back =
        zero_done (reading_of l first many es names (0 ∷ []) (text_of h.types ks xs)) (read_told l first many es names (0 ∷ []) (text_of h.types ks xs)) xs 0
        (ap (λ o. o.number) (trip.reads (done_accepts h.types ks l first many xs c a refl) (0 ∷ []) root_name xs 0 (omega arith)))

-- what is read has at most 65,535 octets
read_length : (es : List Entry) (names : List ℕ) (l : Lent) (first many : ℕ) (origin text xs : List ℕ) → reading_of l first many es names origin text ≡ done xs → length xs ≤ max_rdata
unfolding accepts
read_length es names l first many origin text xs e =
    let h = read_run_lem l first many es names origin text xs e in
    let ks = run first many (kinds h.description.fields) in
    let a = read_accepted es names l h.description h.accepted first many origin text xs e in
    leb-true (length xs) max_rdata (and_left (leb (length xs) max_rdata) (is_parts (parts_of ks xs)) a)

or_right : (b c : Bool) → c ≡ true → b || c ≡ true
or_right true c e = refl
or_right false c e = e

-- demand 1 of an answer that is a row of the table
row_answered : {numbers : List ℕ} {l : Lent} {many space n i : ℕ} (r : Reply) → Row l many space numbers n i → r.number ≡ n → r.place ≡ i → Answered numbers l many space r
row_answered {numbers} {n = n} r w p q = record {
  number = subst (λ (k : ℕ). eqb k 0 || among k numbers ≡ true) (sym p) (or_right (eqb n 0) (among n numbers) w.number);
  place = λ z. rw (p, q) w.fixed;
  halves = omega (arith, q, w.small);
}

answered : (numbers : List ℕ) (l : Lent) (many : ℕ) (a : Answer) (out : List ℕ) (at : ℕ) (r : Reply) (after : List ℕ) → among 12 numbers ≡ true → Rows l many (room out at) numbers a
    → ((t : List ℕ) → a ≡ done t → length t < 4294967296) → Came a out at r after → Answered numbers l many (room out at) r × Keeps r out after
answered numbers l many a out at r after m w fit (gives t e h p q s) = (
  record { number = rw p; place = λ z. absurd (z p); halves = omega (arith, q, fit t e) },
  λ z. absurd (z p),
)
answered numbers l many a out at r after m w fit (lacks t e h p q s) =
    (row_answered r (record { fixed = no_room h; small = fit t e; number = m }) p q, λ z. s)
answered numbers l many a out at r after m w fit (refuses n i e p q s) = (row_answered r (rw e at w) p q, λ z. s)

rows_wider : (l : Lent) (many space : ℕ) (xs ys : List ℕ) → all_of (λ x. among x ys) xs ≡ true → (a : Answer) → Rows l many space xs a → Rows l many space ys a
rows_wider l many space xs ys h (done t) w = tt
rows_wider l many space xs ys h (refusal n i) w = row_wider xs ys h w

judge_answered : (l : Lent) (c : JudgeCall l) → Answered (judge_numbers_of l) l 0 0 c.reply
unfolding judge_of
judge_answered l c = by (judged_of l) refl c.promise
  where
    by : (j : Judged) → judged_of l ≡ j → Replies c.reply (judge_outcome j) → Answered (judge_numbers_of l) l 0 0 c.reply
    by (rejected n i) e w = row_answered c.reply (rw e at (lent_rejected l 0 0)) w.numbers w.places
    by (described d) e w = record {
      number = rw w.numbers;
      place = λ z. absurd (z w.numbers);
      halves = omega (arith, w.places, (judges l d e).most_fields);
    }

-- printing and reading, with any numbers in which their refusals and 12 lie
abbrev Holds : List ℕ → List ℕ → Type 0
Holds numbers refusals = (among 12 numbers ≡ true) × (all_of (λ x. among x numbers) refusals ≡ true)

module _ (numbers refusals : List ℕ) (h : Holds numbers refusals) (es : List Entry) (names : List ℕ) (l : Lent) (first many : ℕ) where
  print_answered : (xs : List ℕ) → Octets xs → (c : PrintCall es names l first many xs) → Rows l many (room c.out c.at) refusals (printing_of l first many es names xs)
      → Answered numbers l many (room c.out c.at) c.reply × Keeps c.reply c.out c.after
  print_answered xs b c w =
      answered numbers l many (printing_of l first many es names xs) c.out c.at c.reply c.after h.0
      (rows_wider l many (room c.out c.at) refusals numbers h.1 (printing_of l first many es names xs) w)
      (λ t e. omega (arith, print_length es names l first many xs b t e)) (print_came c)

  read_answered : (origin text : List ℕ) (c : ReadCall es names l first many origin text) → Rows l many (room c.out c.at) refusals (reading_of l first many es names origin text)
      → Answered numbers l many (room c.out c.at) c.reply × Keeps c.reply c.out c.after
  read_answered origin text c w =
      answered numbers l many (reading_of l first many es names origin text) c.out c.at c.reply c.after h.0
      (rows_wider l many (room c.out c.at) refusals numbers h.1 (reading_of l first many es names origin text) w)
      (λ xs e. omega (arith, read_length es names l first many origin text xs e)) (read_came c)

-- the numbers of either form
print_with_holds : (l : Lent) → Holds (print_with_numbers_of l) (print_refusals (13 ∷ stored_refusals l))
print_with_holds (as_file stanza) = (refl, refl)
print_with_holds (as_stored edition txt) = (refl, refl)

read_with_holds : (l : Lent) → Holds (read_with_numbers_of l) (read_refusals (13 ∷ stored_refusals l))
read_with_holds (as_file stanza) = (refl, refl)
read_with_holds (as_stored edition txt) = (refl, refl)

print_holds : (l : Lent) → Holds (print_numbers_of l) (print_refusals (stored_refusals l))
print_holds (as_file stanza) = (refl, refl)
print_holds (as_stored edition txt) = (refl, refl)

read_holds : (l : Lent) → Holds (read_numbers_of l) (read_refusals (stored_refusals l))
read_holds (as_file stanza) = (refl, refl)
read_holds (as_stored edition txt) = (refl, refl)

pub first_demand : FirstDemand
first_demand = record {
  judging = judge_answered;
  printing = λ es names l f m xs b c. print_answered _ _ (print_with_holds l) es names l f m xs b c (print_rows l f m (room c.out c.at) es names xs);
  reading = λ es names l f m o t c. read_answered _ _ (read_with_holds l) es names l f m o t c (read_rows l f m (room c.out c.at) es names o t);
  printing_old = λ names l f m xs b c. (print_answered _ _ (print_holds l) [] names l f m xs b c (print_rows_old l f m (room c.out c.at) names xs)).0;
  reading_old = λ names l f m o t c. (read_answered _ _ (read_holds l) [] names l f m o t c (read_rows_old l f m (room c.out c.at) names o t)).0;
}

-- demand 2: what is accepted
described_by : (l : Lent) (c : JudgeCall l) → (c.reply.number ≡ 0) ↔ ((d : Description) × (judged_of l ≡ described d) × (c.reply.place ≡ length d.fields))
unfolding judge_of
described_by l c = (λ z. by (judged_of l) refl c.promise z, λ (d, e, q). let w : Replies c.reply (judge_outcome (judged_of l)) = c.promise in w.numbers ∙ ap (λ j. (judge_outcome j).number) e)
  where
    by : (j : Judged) → judged_of l ≡ j → Replies c.reply (judge_outcome j) → c.reply.number ≡ 0 → (d : Description) × (judged_of l ≡ described d) × (c.reply.place ≡ length d.fields)
    by (rejected n i) e w z =
        let r : Row l 0 0 (judge_numbers_of l) n i = rw e at (lent_rejected l 0 0) in absurd (true≢false (sym (eq-eqb n 0 (sym w.numbers ∙ z)) ∙ not_zero r.fixed))
    by (described d) e w z = (d, e, w.places)

run_of : (es : List Entry) (names : List ℕ) (l : Lent) (first many : ℕ) → HasRun l first many es names
    → ((ks : List Kind) × RunOf l first many ks) × ((types : List TypeName) × (catalogued names es ≡ known types))
run_of es names l first many h = (
  (run_kinds es names l first many h, record { description = h.description; accepted_there = h.accepted; is_run_lem = h.run; fields = refl }),
  (h.types, h.known_there),
)

-- a refusal, want of room apart, is not accepted
not_taken : (l : Lent) (many space : ℕ) (numbers : List ℕ) (r : Reply) (n i : ℕ) → Row l many space numbers n i → all_of (λ x. not (among x (0 ∷ 12 ∷ []))) numbers ≡ true → r.number ≡ n
    → taken r ≡ false
not_taken l many space numbers r n i w h p = rw p (apart n numbers (0 ∷ 12 ∷ []) h w.number)

-- no refusal of printing or reading is 0 or 12
print_apart : (l : Lent) → all_of (λ x. not (among x (0 ∷ 12 ∷ []))) (print_refusals (13 ∷ stored_refusals l)) ≡ true
print_apart (as_file stanza) = refl
print_apart (as_stored edition txt) = refl

read_apart : (l : Lent) → all_of (λ x. not (among x (0 ∷ 12 ∷ []))) (read_refusals (13 ∷ stored_refusals l)) ≡ true
read_apart (as_file stanza) = refl
read_apart (as_stored edition txt) = refl

rdata_run : (es : List Entry) (names : List ℕ) (l : Lent) (first many : ℕ) (xs : List ℕ) (c : PrintCall es names l first many xs) → accepted c ≡ true
    → ((ks : List Kind) × RunOf l first many ks) × ((types : List TypeName) × (catalogued names es ≡ known types))
rdata_run es names l first many xs c z = by (print_came c)
  where
    by : Came (printing_of l first many es names xs) c.out c.at c.reply c.after
        → ((ks : List Kind) × RunOf l first many ks) × ((types : List TypeName) × (catalogued names es ≡ known types))
    by (gives t e h p q s) = run_of es names l first many (print_run l first many es names xs t e)
    by (lacks t e h p q s) = run_of es names l first many (print_run l first many es names xs t e)
    by (refuses n i e p q s) =
        let w : Row l many 0 (print_refusals (13 ∷ stored_refusals l)) n i = rw e at (print_rows l first many 0 es names xs) in
        absurd (true≢false (sym z ∙ not_taken l many 0 (print_refusals (13 ∷ stored_refusals l)) c.reply n i w (print_apart l) p))

text_read : (es : List Entry) (names : List ℕ) (l : Lent) (first many : ℕ) (origin text : List ℕ) (c : ReadCall es names l first many origin text)
    → (taken c.reply ≡ true) ↔ ((xs : List ℕ) × (reading_of l first many es names origin text ≡ done xs) × Returns es names l first many origin text xs c)
text_read es names l first many origin text c = (λ z. by z (read_came c), λ (xs, e, r). back xs e (read_came c))
  where
    by : taken c.reply ≡ true → Came (reading_of l first many es names origin text) c.out c.at c.reply c.after
        → (xs : List ℕ) × (reading_of l first many es names origin text ≡ done xs) × Returns es names l first many origin text xs c
    by z (gives t e h p q s) = (
      t,
      e,
      record {
        enough_room = λ fit. (p, q, rw (q, s) (stored_text c.out c.at t h), s);
        no_room = λ fit. absurd (omega (arith, fit, h));
      },
    )
    by z (lacks t e h p q s) = (t, e, record { enough_room = λ fit. absurd (omega (arith, fit, h)); no_room = λ fit. (p, q, s) })
    by z (refuses n i e p q s) =
        let w : Row l many 0 (read_refusals (13 ∷ stored_refusals l)) n i = rw e at (read_rows l first many 0 es names origin text) in
        absurd (true≢false (sym z ∙ not_taken l many 0 (read_refusals (13 ∷ stored_refusals l)) c.reply n i w (read_apart l) p))

    back : (xs : List ℕ) → reading_of l first many es names origin text ≡ done xs → Came (reading_of l first many es names origin text) c.out c.at c.reply c.after → taken c.reply ≡ true
    back xs d (gives t e h p q s) = rw p
    back xs d (lacks t e h p q s) = rw p
    back xs d (refuses n i e p q s) = let z : refusal n i ≡ done xs = sym e ∙ d in cc

-- 13 for a bad catalogue
bad_names : (i : ℕ) (out : List ℕ) {r : Reply} {after : List ℕ} {o : Outcome} → Leaves r after o → o ≡ record { number = 13; place = i; lent = out } → BadNames i r out after
bad_names i out w e = (w.numbers ∙ ap (λ o. o.number) e, w.places ∙ ap (λ o. o.place) e, w.octets ∙ ap (λ o. o.lent) e)

pub second_demand : SecondDemand
second_demand = record {
  description = described_by;
  rdata = λ es names types n l f m ks r xs c.
      subst (λ ks. Answers es names types ks l f m xs c) (sym r.fields)
      (answers es names types (run f m (kinds r.description.fields)) l f m xs (prints es names types n l r.description r.accepted_there f m r.is_run_lem xs) c);
  rdata_run = rdata_run;
  text = text_read;
  rdata_apart = λ es names i n l f m ks r xs fit c.
      bad_names i c.out c.promise ((bad_catalogue es names i n l r.description r.accepted_there f m r.is_run_lem).printing_13 xs fit c.out c.at);
  text_apart = λ es names i n l f m ks r o w t fit c.
      bad_names i c.out c.promise ((bad_catalogue es names i n l r.description r.accepted_there f m r.is_run_lem).reading_13 o w t fit c.out c.at);
  returns = returned;
  one_text = one_text;
  read_accepted = reads_accepted;
  read_octets = λ es names l f m o t b q z. read_octets es names l f m o t (rdata_of q) b (read_done es names l f m o t q z);
}
