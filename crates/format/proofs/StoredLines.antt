-- The lines of request 4, computed.
use mathlib.Core.Path.{refl}
use Rattle.format.specs.Wire.{taken}
use Rattle.format.specs.Token.{scanned}
use Rattle.format.specs.Judge.{judged_from}
use Rattle.format.specs.Catalogue.{catalogued_from}
use Rattle.format.specs.Run.{shown, read_field, parts_of, text_of_parts, read_run}
use Rattle.format.specs.Stored.{judged_stored}
use Rattle.format.specs.Entries.{printing_of, print_of, reading_of, read_of, judge_of}
use Rattle.format.specs.StoredLines.{StoredLines}

pub stored_lines : StoredLines
unfolding judge_of print_of printing_of read_of reading_of catalogued_from judged_stored judged_from parts_of taken text_of_parts shown read_run read_field scanned
stored_lines = refl
