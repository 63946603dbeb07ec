-- P1 to P14, computed.
use mathlib.Core.Path.{refl}
use Rattle.format.specs.Wire.{taken}
use Rattle.format.specs.Token.{scanned, unescaped_from}
use Rattle.format.specs.Bitmap.{octets_from, blocks_from}
use Rattle.format.specs.Address.{longest_zeros, groups_of}
use Rattle.format.specs.Name.{wire_name}
use Rattle.format.specs.Judge.{judged_from, judged}
use Rattle.format.specs.Catalogue.{catalogued_from}
use Rattle.format.specs.Run.{shown, read_field, parts_of, text_of_parts, read_run}
use Rattle.format.specs.Entries.{printing_of, reading_of}
use Rattle.format.specs.Settled.{answered, Settled}

pub settled : Settled
unfolding answered printing_of reading_of catalogued_from judged judged_from parts_of taken text_of_parts shown read_run read_field scanned unescaped_from wire_name octets_from blocks_from longest_zeros groups_of
settled = refl
