use mathlib.Core.Path.{subst, ap}
use Rattle.catalogue.specs.Known.{names_in}
use Rattle.buffer.specs.Writing.{Values}
use Rattle.base.specs.Rest.{Gets}
use Rattle.format.specs.Base.{read_base64}
use Rattle.bitmap.specs.Reading.{bitmap_read}
use Rattle.format.specs.Token.{tokens}
use Rattle.format.specs.Run.{read_field, joined_bares}
use Rattle.octets.proofs.Slices.{lent_rest}
use Rattle.field_read.proofs.Fields.{gives_all, gives_rest}
use Rattle.field_read.proofs.read_field.Goals as goal

pub returns-in-Bitmap : goal.returns-in-Bitmap
unfolding read_field
returns-in-Bitmap c =
    rw (c.in-Bitmap.is, c.before-in-Bitmap.ensures)
    (gives_all _ _ c.args.t.now _ c.read.result _
    (subst (λ xs. Values c.args.out.now c.read.new.out c.args.at c.read.result (bitmap_read (names_in c.args.u.now.c) xs)) (lent_rest c.args.t.now c.args.i) c.read.ensures))

pub returns-in-Base64 : goal.returns-in-Base64
unfolding read_field
returns-in-Base64 c =
    rw (c.in-Base64.is, c.all.ensures) (gives_rest _ _ c.args.t.now _ c.base64_rest.result _ (rw (lent_rest c.args.t.now c.args.i) at c.base64_rest.ensures))

pub returns-in-Hex : goal.returns-in-Hex
unfolding read_field
returns-in-Hex c =
    rw (c.in-Hex.is, c.all-in-Hex.ensures) (gives_rest _ _ c.args.t.now _ c.hex_rest.result _ (rw (lent_rest c.args.t.now c.args.i) at c.hex_rest.ensures))
