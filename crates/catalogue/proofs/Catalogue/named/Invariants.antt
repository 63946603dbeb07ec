use Rattle.std.proofs.Common.{◌≡◌, drop}
use Rattle.catalogue.specs.Entries.{names_of, name_number}
use Rattle.catalogue.specs.Known.{names_in}
use Rattle.catalogue.proofs.Catalogue.named.Given as goal

-- The entries from this one on give the same answer as all of them.
abbrev pub invariant-loop-w : goal.invariant-loop-w
invariant-loop-w l = name_number (names_in l.self) l.t ≡ name_number (names_of l.self.names.now (drop l.w-index l.self.types.now)) l.t
