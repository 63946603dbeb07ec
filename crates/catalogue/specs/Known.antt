-- The types that a catalogue names.
use Rattle.std.specs.Prelude.{List}
use Rattle.format.specs.Catalogue.{TypeName}
use Rattle.catalogue.specs.Entries.{names_of}
use Rattle.catalogue.specs.declared.Catalogue.{Catalogue}

abbrev pub names_in : Catalogue → List TypeName
names_in c = names_of c.names.now c.types.now
