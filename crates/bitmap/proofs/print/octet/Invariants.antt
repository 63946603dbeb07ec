use Prim.Native.Nat.{◌+◌, ◌-◌, ◌≤◌}
use lib.Dec.{ltb}
use Rattle.format.specs.Digits.{digits}
use Rattle.format.specs.Bitmap.{set_bits}
use Rattle.format.specs.Catalogue.{type_text_in}
use Rattle.catalogue.specs.Known.{names_in}
use Rattle.buffer.proofs.Laws.{Left}
use Rattle.bitmap.specs.Types.{types_text}
use Rattle.bitmap.proofs.Texts.{Within, types_left}
use Rattle.bitmap.proofs.print.octet.Given as goal

-- The types before t are written; writing those left in y, from t on, at m would give the types of the whole octet.
abbrev pub invariant-loop-y : goal.invariant-loop-y
invariant-loop-y l = record {
  order : l.start ≤ l.m;
  rising : l.v ≤ l.t;
  within : Within (l.v + 8 - l.t) l.y;
  left : Left l.initial.out l.at (types_text (type_text_in (names_in l.c)) (ltb l.start l.at) (set_bits l.v (digits 2 8 l.x))) l.out l.m (types_text (type_text_in (names_in l.c)) (ltb l.start l.m) (types_left l.v l.t l.y));
}

abbrev pub decreases-loop-y : goal.decreases-loop-y
decreases-loop-y l = l.v + 8 - l.t
