use Rattle.std.proofs.Common.{◌-◌, ◌≤◌, length, drop}
use lib.Dec.{ltb}
use Rattle.format.specs.Bitmap.{types, bitmap_text}
use Rattle.format.specs.Catalogue.{type_text_in}
use Rattle.catalogue.specs.Known.{names_in}
use Rattle.buffer.proofs.Laws.{Left}
use Rattle.bitmap.specs.Types.{types_text}
use Rattle.bitmap.proofs.Blocks.{Whole}
use Rattle.bitmap.proofs.print.field.Given as goal

-- The types of the blocks before j are written; writing those of the others from m on would give the whole text.
abbrev pub invariant-loop-j : goal.invariant-loop-j
invariant-loop-j l = record {
  order : l.at ≤ l.m;
  within : l.j ≤ length l.p;
  left : Left l.initial.out l.at (bitmap_text (type_text_in (names_in l.c)) l.p) l.out l.m (types_text (type_text_in (names_in l.c)) (ltb l.at l.m) (types (drop l.j l.p)));
  whole : Whole (drop l.j l.p);
}

abbrev pub decreases-loop-j : goal.decreases-loop-j
decreases-loop-j l = length l.p - l.j
