use Rattle.format.specs.Base.{base32_text}
use Rattle.format.specs.Hex.{counted_hex_text}
use Rattle.format.specs.Text.{string_text}
use Rattle.format.specs.Run.{shown}
use Rattle.format.proofs.Wire.{octets_taken}
use Rattle.octets.proofs.Slices.{lent_rest}
use Rattle.buffer.proofs.Laws.{wrote_text}
use Rattle.stanza_form.proofs.Fields.{symbols_of, symbols_of_lem, int_four}
use Rattle.field_print.proofs.Fields.{int_wide, counted_some, name_anyhow}
use mathlib.Core.Path.{◌≡◌, ap}
use lib.ListN.{length}
use native.Mathlib.Omega.{arith}
use borrow.Author.Rules.{rules}
use Rattle.field_print.proofs.put_field.Goals as goal

pub number-requires : goal.number-requires
number-requires c =
    let v = int_four c.args.s.now c.args.d c.requires.usable c.in-Int.field-0 c.in-Int.is in
    let q = int_wide c.args.s.now c.args.d c.requires.usable c.in-Int.field-0 c.in-Int.is c.args.p.now c.requires.taken in
    omega arith

pub put_number-requires : goal.put_number-requires
put_number-requires c = record {
  place = search rules;
  from = rw (c.from-a.ensures, c.from-b.ensures) c.requires.usable.placed.from;
  to = rw c.from-b.ensures c.requires.usable.placed.to;
  stanza = c.requires.stanza;
  number = c.number.ensures.small;
}

pub field-requires : goal.field-requires
field-requires c = record { place = search rules; two = octets_taken 2 c.args.p.now (omega arith) (rw c.in-Rrtype.is at c.requires.taken) }

pub field-requires-in-Bitmap : goal.field-requires-in-Bitmap
field-requires-in-Bitmap c = record { place = search rules; short = c.requires.octets; whole = rw c.in-Bitmap.is at c.requires.taken }

pub aaaa-requires : goal.aaaa-requires
aaaa-requires c = record { place = search rules; octets = octets_taken 16 c.args.p.now (omega arith) (rw c.in-Aaaa.is at c.requires.taken) }

pub name-requires : goal.name-requires
name-requires c = record { place = search rules; octets = c.requires.octets; name = name_anyhow _ _ _ (rw c.in-Name.is at c.requires.taken) }

pub strings-requires : goal.strings-requires
strings-requires c = record { place = search rules; octets = c.requires.octets; strings = rw c.in-Strs.is at c.requires.taken }

pub field-requires-in-Time : goal.field-requires-in-Time
field-requires-in-Time c = record { place = search rules; four = octets_taken 4 c.args.p.now (omega arith) (rw c.in-Time.is at c.requires.taken) }

pub slice_bounds-string-count : goal.slice_bounds-string-count
slice_bounds-string-count c = omega (arith, counted_some c.args.p.now 0 (rw c.in-Str.is at c.requires.taken))

pub slice_bounds-string-start : goal.slice_bounds-string-start
slice_bounds-string-start c = omega (arith, counted_some c.args.p.now 0 (rw c.in-Str.is at c.requires.taken))

pub slice_bounds-base32-count : goal.slice_bounds-base32-count
slice_bounds-base32-count c = omega (arith, counted_some c.args.p.now 1 (rw c.in-Base32.is at c.requires.taken))

pub slice_bounds-base32-start : goal.slice_bounds-base32-start
slice_bounds-base32-start c = omega (arith, counted_some c.args.p.now 1 (rw c.in-Base32.is at c.requires.taken))

pub slice_bounds-counted_hex-count : goal.slice_bounds-counted_hex-count
slice_bounds-counted_hex-count c = omega (arith, counted_some c.args.p.now 0 (rw c.in-Hexc.is at c.requires.taken))

pub slice_bounds-counted_hex-start : goal.slice_bounds-counted_hex-start
slice_bounds-counted_hex-start c = omega (arith, counted_some c.args.p.now 0 (rw c.in-Hexc.is at c.requires.taken))

pub returns-in-Int : goal.returns-in-Int
unfolding shown
returns-in-Int c =
    rw (c.in-Int.is, ← c.number.ensures.value)
    (c.put_number.ensures c.in-Int.field-0
    (symbols_of c.args.s.now c.args.d c.requires.usable c.in-Int.field-0 c.in-Int.is)
    (rw (c.from-a.ensures, c.from-b.ensures) (symbols_of_lem c.args.s.now c.args.d c.requires.usable c.in-Int.field-0 c.in-Int.is)))

pub returns-in-Rrtype : goal.returns-in-Rrtype
unfolding shown
returns-in-Rrtype c = rw c.in-Rrtype.is c.field.ensures

pub returns-in-Bitmap : goal.returns-in-Bitmap
unfolding shown
returns-in-Bitmap c = rw c.in-Bitmap.is c.field-in-Bitmap.ensures

pub returns-in-Dotted : goal.returns-in-Dotted
unfolding shown
returns-in-Dotted c = rw c.in-Dotted.is c.dotted.ensures

pub returns-in-Aa : goal.returns-in-Aa
unfolding shown
returns-in-Aa c = rw c.in-Aa.is c.groups.ensures

pub returns-in-Aaaa : goal.returns-in-Aaaa
unfolding shown
returns-in-Aaaa c = rw c.in-Aaaa.is c.aaaa.ensures

pub returns-in-Name : goal.returns-in-Name
unfolding shown
returns-in-Name c = rw c.in-Name.is c.name.ensures

pub returns-in-Strs : goal.returns-in-Strs
unfolding shown
returns-in-Strs c = rw c.in-Strs.is c.strings.ensures

pub returns-in-Raw : goal.returns-in-Raw
unfolding shown
returns-in-Raw c = rw c.in-Raw.is c.string-in-Raw.ensures

pub returns-in-Base64 : goal.returns-in-Base64
unfolding shown
returns-in-Base64 c = rw c.in-Base64.is c.base64.ensures

pub returns-in-Hex : goal.returns-in-Hex
unfolding shown
returns-in-Hex c = rw c.in-Hex.is c.put_hex_upper.ensures

pub returns-in-Eui : goal.returns-in-Eui
unfolding shown
returns-in-Eui c = rw c.in-Eui.is c.field-in-Eui.ensures

pub returns-in-Time : goal.returns-in-Time
unfolding shown
returns-in-Time c = rw c.in-Time.is c.field-in-Time.ensures

pub returns-in-Str : goal.returns-in-Str
unfolding shown
returns-in-Str c = rw c.in-Str.is (wrote_text _ _ (ap string_text (lent_rest c.args.p.now 1)) c.string.ensures)

pub returns-in-Base32 : goal.returns-in-Base32
unfolding shown
returns-in-Base32 c = rw c.in-Base32.is (wrote_text _ _ (ap base32_text (lent_rest c.args.p.now 1)) c.base32.ensures)

pub returns-in-Hexc : goal.returns-in-Hexc
unfolding shown
returns-in-Hexc c = rw c.in-Hexc.is (wrote_text _ _ (ap counted_hex_text (lent_rest c.args.p.now 1)) c.counted_hex.ensures)
