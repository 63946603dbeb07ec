-- How long the line is that tells a fault.
use Prim.Native.Nat.{ℕ, ◌≤◌}
use mathlib.Core.List.{◌++◌}
use Rattle.std.specs.Prelude.{Option, None, Some}
use native.Mathlib.Omega.{arith}
use lib.ListN.{length, length-append}
use Rattle.format.specs.Octets.{ascii}
use Rattle.format.specs.Number.{decimal}
use Rattle.format.proofs.Number.{decimal_10}
use Rattle.job_fault.specs.Words.{reason_words, line_words, fault_words}
use Rattle.job_fault.specs.declared.reason.Reason.{Reason}
use Rattle.job_fault.specs.declared.reason.Reason.TheVariants.{TooLong, NoCount, ByteOrderMark, CarriageReturn, NotCount, TooFew, NotOneLine, NoLastDot, NotName, LineAfter}
use Rattle.job_fault.specs.declared.fault.Fault.{Fault}

-- no reason has over 80 octets, and the line's number no more than 10 digits
pub reason_short : (r : Reason) → length (reason_words r) ≤ 80
reason_short TooLong = omega arith
reason_short NoCount = omega arith
reason_short ByteOrderMark = omega arith
reason_short CarriageReturn = omega arith
reason_short NotCount = omega arith
reason_short TooFew = omega arith
reason_short NotOneLine = omega arith
reason_short NoLastDot = omega arith
reason_short NotName = omega arith
reason_short LineAfter = omega arith

pub line_short : (l : Option ℕ) → length (line_words l) ≤ 17
line_short None = omega arith
line_short (Some k) = omega (arith, length-append (decimal k) (ascii ": "), decimal_10 k)

-- so a buffer of 128 octets has room for any
pub words_short : (f : Option Fault) → length (fault_words f) ≤ 128
words_short None = omega arith
words_short (Some f) = omega (arith, length-append (line_words f.line ++ reason_words f.reason) (ascii "\n"), length-append (line_words f.line) (reason_words f.reason), line_short f.line, reason_short f.reason)
