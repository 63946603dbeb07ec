-- What reading a run answers, given what the reader left in a buffer.
use Prim.Native.Nat.{ℕ, ◌+◌, ◌-◌, ◌≤◌, ◌<◌, min}
use mathlib.Core.Path.{◌≡◌, refl, sym, ap, ◌∙◌, subst}
use mathlib.Core.List.{List, [], ◌∷◌, ◌++◌}
use native.Mathlib.Omega.{arith}
use native.Mathlib.Decide.{dec_le}
use lib.ListN.{length, take, drop}
use lib.Seq.{sets-eq, take-append_seam}
use borrow.Author.Tests.{le-leb, lt-leb}
use Rattle.format.specs.Lists.{flat}
use Rattle.format.specs.Field.{Kind}
use Rattle.format.specs.Catalogue.{TypeName}
use Rattle.format.specs.Run.{Parts, refused, parts, max_rdata}
use Rattle.format.specs.Entries.{done}
use Rattle.buffer.specs.Writing.{Wrote}
use Rattle.buffer.proofs.Laws.{wrote_length, wrote_text}
use Rattle.std.specs.Prelude.{Ok}
use Rattle.run_wire.specs.declared.Refusal.{Refusal}
use Rattle.run_read.specs.Reading.{Stands, Reads}
use Rattle.entry.specs.declared.Reply.{Reply}
use Rattle.entry.specs.Entries.{Leaves, with_room, run_parts, run_octets, ReadsIn}
use Rattle.entry.proofs.Rooms.{leaves_done, leaves_measured, leaves_refused}

-- a run reads a text in only one way
one_reading : (p : Parts) (ps qs : List (List ℕ)) → p ≡ parts ps → p ≡ parts qs → qs ≡ ps
one_reading p ps qs a b = let z : parts qs ≡ parts ps = sym b ∙ a in cc

not_refused : (p : Parts) (ps : List (List ℕ)) (n i : ℕ) → p ≡ parts ps → p ≡ refused n i → ⊥
not_refused p ps n i a b = let z : ◌≡◌ {A = Parts} (refused n i) (parts ps) = sym b ∙ a in let y : ◌≡◌ {A = ℕ} 0 1 = cc in absurd (omega arith)

-- the octets of a run, if they are not too many
stands_short : {before after : List ℕ} {m : ℕ} {xs : List ℕ} → Stands before after m xs → length xs ≤ max_rdata → Wrote before after 0 m xs
stands_short {before} {after} {m} {xs} s h = by (dec_le m max_rdata)
  where
    by : Dec (m ≤ max_rdata) → Wrote before after 0 m xs
    by (yes l) = s.whole l
    by (no l) = absurd (omega (arith, s.over (omega arith)))

-- the front of the array that holds them
front_of : (before after : List ℕ) (m : ℕ) (xs : List ℕ) → Wrote before after 0 m xs → m ≤ length before → take m after ≡ xs
front_of before after m xs w h = by xs w
  where
    by : (ys : List ℕ) → Wrote before after 0 m ys → take m after ≡ ys
    by [] v = let z : m ≡ 0 = omega (arith, v.count) in rw z
    by (y ∷ ys) v =
        let z : m ≡ length (y ∷ ys) = omega (arith, v.count) in
        ap (take m) (v.octets ∙ sets-eq (y ∷ ys) before 0 (omega arith)) ∙ ap (λ k. take k ((y ∷ ys) ++ drop (0 + length (y ∷ ys)) before)) z ∙ take-append_seam (y ∷ ys) _

octets_done : (ns : List TypeName) (ks : List Kind) (origin text : List ℕ) (ps : List (List ℕ)) → run_parts ns ks origin text ≡ parts ps → length (flat ps) ≤ max_rdata → run_octets ns ks origin text ≡ done (flat ps)
octets_done ns ks origin text ps e h = rw (e, le-leb (length (flat ps)) max_rdata h)

module _ (ns : List TypeName) (ks : List Kind) (origin text out : List ℕ) (at : ℕ) where
  -- the run refuses the text
  pub refused_leaves : (reply : Reply) (r : Refusal) → run_parts ns ks origin text ≡ refused r.number r.place → reply.number ≡ r.number → reply.place ≡ r.place → Leaves reply out (with_room out at (run_octets ns ks origin text))
  refused_leaves reply r e = leaves_refused out at r.number r.place (run_octets ns ks origin text) reply (rw e)

  module _ (before after : List ℕ) (m : ℕ) (v : Reads before after (Ok m) (run_parts ns ks origin text)) where
    -- there are too many octets
    pub over_leaves : (reply : Reply) → max_rdata < m → reply.number ≡ 11 → reply.place ≡ 0 → Leaves reply out (with_room out at (run_octets ns ks origin text))
    over_leaves reply h =
        let (ps, p, s) = v in
        leaves_refused out at 11 0 (run_octets ns ks origin text) reply (rw (p, lt-leb (length (flat ps)) max_rdata (s.over h)))

    module _ (h : m ≤ max_rdata) where
      -- there is no room for them
      pub measured_leaves : (reply : Reply) → length out - at < m → reply.number ≡ 12 → reply.place ≡ m → Leaves reply out (with_room out at (run_octets ns ks origin text))
      measured_leaves reply l n i =
          let (ps, p, s) = v in
          let w = s.whole h in
          rw (octets_done ns ks origin text ps p (omega (arith, w.count))) (leaves_measured out out at m (flat ps) reply refl w.count l n i)

      -- there is room for them in the lent part
      pub reads_in : m ≤ length out - at → ReadsIn ns ks origin text (length out - at)
      reads_in l = let (ps, p, s) = v in let w = s.whole h in record { fields = ps; reads = p; short = omega (arith, w.count); fits = omega (arith, w.count) }

      -- there is room in the array too, and they are copied from its front
      pub copied_leaves : (reply : Reply) (o ys : List ℕ) (a w : ℕ) → o ≡ out → a ≡ min at (length out) → m ≤ length out - at → m ≤ length after → Wrote (take (length o - a) (drop a o)) ys 0 w (take m after)
          → reply.number ≡ 0 → reply.place ≡ w → Leaves reply (take a o ++ (ys ++ drop (length o - a) (drop a o))) (with_room out at (run_octets ns ks origin text))
      copied_leaves reply o ys a w q b l f u n i =
          let (ps, p, s) = v in
          let x = s.whole h in
          rw (octets_done ns ks origin text ps p (omega (arith, x.count)))
          (leaves_done o out ys at a w (flat ps) reply q b (omega (arith, x.count)) (wrote_text _ (flat ps) (front_of before after m (flat ps) x (omega (arith, wrote_length x))) u) n i)

-- a second reading finds what the first found: it is not refused, and there is room for what it finds
module _ {ns : List TypeName} {ks : List Kind} {origin text : List ℕ} {room : ℕ} (z : ReadsIn ns ks origin text room) where
  pub again_done : (r : Refusal) → run_parts ns ks origin text ≡ refused r.number r.place → ⊥
  again_done r e = not_refused _ z.fields r.number r.place z.reads e

  pub again_wrote : (before after : List ℕ) (m : ℕ) → Reads before after (Ok m) (run_parts ns ks origin text) → Wrote before after 0 m (flat z.fields)
  again_wrote before after m (qs, p, s) = stands_short (subst (λ ps. Stands before after m (flat ps)) (one_reading _ z.fields qs z.reads p) s) z.short

pub again_leaves : {ns : List TypeName} {ks : List Kind} {origin text : List ℕ} (out ys : List ℕ) (at a w : ℕ) (reply : Reply) (z : ReadsIn ns ks origin text (length out - at)) → a ≡ min at (length out)
    → Wrote (take (length out - a) (drop a out)) ys 0 w (flat z.fields) → reply.number ≡ 0 → reply.place ≡ w
    → Leaves reply (take a out ++ (ys ++ drop (length out - a) (drop a out))) (with_room out at (run_octets ns ks origin text))
again_leaves {ns} {ks} {origin} {text} out ys at a w reply z b u n i =
    rw (octets_done ns ks origin text z.fields z.reads z.short) (leaves_done out out ys at a w (flat z.fields) reply refl b z.fits u n i)
