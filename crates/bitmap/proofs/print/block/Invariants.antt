use Rattle.std.proofs.Common.{◌+◌, ◌-◌, ◌*◌, ◌≤◌, ◌≡◌, length, drop}
use lib.Dec.{ltb}
use Rattle.format.specs.Bitmap.{at_octets, types_from}
use Rattle.format.specs.Catalogue.{type_text_in}
use Rattle.catalogue.specs.Known.{names_in}
use Rattle.buffer.proofs.Laws.{Left}
use Rattle.bitmap.specs.Types.{types_text}
use Rattle.bitmap.proofs.print.block.Given as goal

-- The types of the octets so far are written; writing those of the others, from t on, at m would give the whole text.
abbrev pub invariant-loop-x : goal.invariant-loop-x
invariant-loop-x l = record {
  order : l.start ≤ l.m;
  next : l.t ≡ l.v + 8 * l.x-index;
  left : Left l.initial.out l.at (types_text (type_text_in (names_in l.c)) (ltb l.start l.at) (types_from (at_octets l.v (length l.p)) l.p)) l.out l.m
      (types_text (type_text_in (names_in l.c)) (ltb l.start l.m) (types_from (at_octets l.t (length l.p - l.x-index)) (drop l.x-index l.p)));
}
