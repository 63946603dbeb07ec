use Prim.Native.Nat.{◌≤◌}
use mathlib.Core.Path.{ap, subst}
use Rattle.std.specs.Prelude.{Some}
use Rattle.format.specs.Token.{bare, quoted}
use Rattle.format.specs.Text.{read_string}
use Rattle.buffer.specs.Writing.{Values}
use Rattle.octets.proofs.Slices.{lent}
use Rattle.field_read.proofs.Fields.{gives_string}
use native.Mathlib.Omega.{arith}
use Rattle.field_read.proofs.string.Goals as goal

pub returns-in-Some-Bare-clause-gives : goal.returns-in-Some-Bare-clause-gives
returns-in-Some-Bare-clause-gives c =
    let w = (rw c.in-Some-Bare.field-0-is at (c.in-Some-Bare.ensures {u = tt}).within) in
    rw c.before-in-Some-Bare.ensures
    (gives_string _ _ _ _ _ _ c.string.result _ (rw c.in-Some-Bare.field-0-is at (c.in-Some-Bare.ensures {u = tt}).tokens)
    (subst (λ xs. Values c.args.out.now c.string.new.out c.args.at c.string.result (read_string (bare xs)))
    (lent c.args.t.now c.in-Some-Bare.a c.in-Some-Bare.e (omega (arith, w.1))) c.string.ensures) w.2)

pub returns-in-Some-Quoted-clause-gives : goal.returns-in-Some-Quoted-clause-gives
returns-in-Some-Quoted-clause-gives c =
    let w = (rw c.in-Some-Quoted.field-0-is at (c.in-Some-Quoted.ensures {u = tt}).within) in
    rw c.before-in-Some-Quoted.ensures
    (gives_string _ _ _ _ _ _ c.string-in-Some-Quoted.result _ (rw c.in-Some-Quoted.field-0-is at (c.in-Some-Quoted.ensures {u = tt}).tokens)
    (subst (λ xs. Values c.args.out.now c.string-in-Some-Quoted.new.out c.args.at c.string-in-Some-Quoted.result (read_string (quoted xs)))
    (lent c.args.t.now c.in-Some-Quoted.a c.in-Some-Quoted.e w.1) c.string-in-Some-Quoted.ensures) (omega (arith, w.2)))
