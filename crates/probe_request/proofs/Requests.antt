-- Laws of a request, read word by word.
use Rattle.std.proofs.Common.{◌≡◌, ℕ, suc, ◌+◌, ◌≤◌, ◌*◌, true, List, [], ◌∷◌, ◌++◌, length, take, drop, arith, refl, ap, ◌∙◌}
use Rattle.std.specs.Prelude.{Option, None, Some}
use lib.ListN.{set, length-append}
use lib.Seq.{slice, sets, sets-eq, take_at, drop_at, length-take-le, take-set-le}
use Rattle.format.specs.Lists.{◌>>=◌, provided, null}
use Rattle.buffer.specs.Writing.{Wrote}
use Rattle.buffer.proofs.Laws.{wrote_length}
use Rattle.probe_request.specs.Request.{octets_of, number_of, Said, said, Asked, marks_stored, whole_words, catalogue_words, origin_word, run_words}
use Rattle.probe_request.specs.declared.Description.{Description}
use Rattle.probe_request.specs.declared.Catalogue.{Catalogue}
use Rattle.probe_request.specs.declared.Run.{Run}
use Rattle.probe_request.specs.Words.{text_at, words_of, Says, Spells, Lent, description_words, Described, Lists, in_file, whole_named, run_named}

bind_bind : {A B C : Type 0} (o : Option A) (f : A → Option B) (g : B → Option C) → (o >>= f >>= g) ≡ (o >>= λ x. f x >>= g)
bind_bind None f g = refl
bind_bind (Some x) f g = refl

-- a text stands where it was stored, and stays there while others are stored after it
module _ {o o' : List ℕ} {n r : ℕ} {t : List ℕ} (w : Wrote o o' n r t) where
  stored : r ≤ length o → slice n r o' ≡ t
  stored h =
      let e : n + length t ≤ length o = omega (arith, w.count) in
      let f : length (take n o) ≡ n = length-take-le n o (omega arith) in
      rw (w.octets, sets-eq t o n e, w.count, take_at (take n o ++ t) (drop (n + length t) o) (n + length t) (omega (arith, length-append (take n o) t))) (drop_at (take n o) t n f)

  kept : (k m : ℕ) → m ≤ n → slice k m o' ≡ slice k m o
  kept k m h = ap (slice k m) w.octets ∙ ap (drop k) (before o n t h)
    where
      before : (o : List ℕ) (n : ℕ) (t : List ℕ) → m ≤ n → take m (sets o n t) ≡ take m o
      before o n [] h = refl
      before o n (b ∷ t) h = before (set o n b) (suc n) t (omega arith) ∙ take-set-le m o n b h

-- W
module _ {rest before after later : List ℕ} {to : ℕ} (s : Spells (said octets_of (words_of rest)) rest before after 0 to later) (room : length rest ≤ 2 * length before) (z : null (words_of later) ≡ true) where
  pub job_read : Some (whole_named 87 (in_file (record { from = 0; to = to })) after) ≡ whole_words 32 87 (words_of rest)
  job_read = rw (s.reads, z, stored s.wrote (omega (arith, s.fits)))

-- J, JC and JS: the description, and no other words
abbrev whole_rest : ℕ → ℕ → Said Lent → Option Asked
whole_rest mark x d = provided (null d.later) (record {
  letter = x;
  stored = marks_stored mark;
  stanza = d.value.stanza;
  edition = d.value.edition;
  first = 0;
  many = 0;
  entries = [];
  names = [];
  origin = [];
  octets = [];
  room = 0;
})

whole_parts : (mark x : ℕ) (ws : List (List ℕ)) → whole_words mark x ws ≡ (description_words mark ws >>= whole_rest mark x)
whole_parts mark x ws = simp bind_bind

module _ {mark x : ℕ} {rest before after later : List ℕ} {d : Description} (s : Described mark rest before after d later) where
  pub whole_read : length rest ≤ 2 * length before → null (words_of later) ≡ true → Some (whole_named x d after) ≡ whole_words mark x (words_of rest)
  whole_read h z = rw (whole_parts mark x (words_of rest), s.reads, z, s.stored, s.start, stored s.wrote (omega (arith, s.fits)))

-- P and R: the description, and the words after it
abbrev run_rest : ℕ → ℕ → Said Lent → Option Asked
run_rest mark x d = do
  f ← said number_of d.later
  m ← said number_of f.later
  c ← catalogue_words mark m.later
  o ← origin_word x c.later
  t ← said octets_of o.later
  r ← said number_of t.later
  provided (null r.later) (record {
    letter = x;
    stored = marks_stored mark;
    stanza = d.value.stanza;
    edition = d.value.edition;
    first = f.value;
    many = m.value;
    entries = c.value.entries;
    names = c.value.names;
    origin = o.value;
    octets = t.value;
    room = r.value;
  })

run_parts : (mark x : ℕ) (ws : List (List ℕ)) → run_words mark x ws ≡ (description_words mark ws >>= run_rest mark x)
run_parts mark x ws = simp bind_bind

module _ (x : ℕ) {mark : ℕ} {rest r₁ r₂ r₃ r₄ r₅ r₆ r₇ before b₁ b₂ b₃ after : List ℕ} {lent : Description} {first many middle to room : ℕ} {c : Catalogue}
    (d : Described mark rest before b₁ lent r₁) (f : Says (said number_of (words_of r₁)) r₁ first r₂) (m : Says (said number_of (words_of r₂)) r₂ many r₃)
    (e : Lists mark r₃ b₁ b₂ lent.text.to c r₄) (o : Spells (origin_word x (words_of r₄)) r₄ b₂ b₃ c.names.to middle r₅)
    (t : Spells (said octets_of (words_of r₅)) r₅ b₃ after middle to r₆) (r : Says (said number_of (words_of r₆)) r₆ room r₇)
    (wide : length rest ≤ 2 * length before) (z : null (words_of r₇) ≡ true) where
  abbrev read : Run
  read = record {
    lent = lent;
    first = first;
    many = many;
    catalogue = c;
    origin = record { from = c.names.to; to = middle };
    octets = record { from = middle; to = to };
    room = room;
  }

  fits : to ≤ length before
  fits = omega (arith, d.fits, f.shorter, m.shorter, e.fits, o.fits, t.fits)

  stanza_stands : text_at after lent.text ≡ d.octets
  stanza_stands =
      rw d.start
      (kept t.wrote 0 lent.text.to (omega (arith, e.wrote_entries.count, e.wrote_names.count, o.wrote.count))
      ∙ kept o.wrote 0 lent.text.to (omega (arith, e.wrote_entries.count, e.wrote_names.count))
      ∙ kept e.wrote_names 0 lent.text.to (omega (arith, e.wrote_entries.count)) ∙ kept e.wrote_entries 0 lent.text.to (omega arith)
      ∙ stored d.wrote (omega (arith, fits, e.wrote_entries.count, e.wrote_names.count, o.wrote.count, t.wrote.count)))

  entries_stand : text_at after c.entries ≡ e.entries
  entries_stand =
      rw e.start
      (kept t.wrote lent.text.to c.entries.to (omega (arith, e.wrote_names.count, o.wrote.count)) ∙ kept o.wrote lent.text.to c.entries.to (omega (arith, e.wrote_names.count))
      ∙ kept e.wrote_names lent.text.to c.entries.to (omega arith) ∙ stored e.wrote_entries (omega (arith, fits, e.wrote_names.count, o.wrote.count, t.wrote.count, wrote_length d.wrote)))

  names_stand : text_at after c.names ≡ e.names
  names_stand =
      rw e.middle
      (kept t.wrote c.entries.to c.names.to (omega (arith, o.wrote.count)) ∙ kept o.wrote c.entries.to c.names.to (omega arith)
      ∙ stored e.wrote_names (omega (arith, fits, o.wrote.count, t.wrote.count, wrote_length d.wrote, wrote_length e.wrote_entries)))

  origin_stands : slice c.names.to middle after ≡ o.octets
  origin_stands =
      kept t.wrote c.names.to middle (omega arith)
      ∙ stored o.wrote (omega (arith, fits, t.wrote.count, wrote_length d.wrote, wrote_length e.wrote_entries, wrote_length e.wrote_names))

  octets_stand : slice middle to after ≡ t.octets
  octets_stand = stored t.wrote (omega (arith, fits, wrote_length d.wrote, wrote_length e.wrote_entries, wrote_length e.wrote_names, wrote_length o.wrote))

  pub run_read : Some (run_named x read after) ≡ run_words mark x (words_of rest)
  run_read =
      rw (run_parts mark x (words_of rest), d.reads, f.reads, m.reads, e.reads, o.reads, t.reads, r.reads, z, d.stored, stanza_stands, entries_stand, names_stand, origin_stands, octets_stand)
