use Rattle.catalogue.specs.Known.{names_in}
use mathlib.Core.Path.{subst}
use Rattle.format.specs.Token.{bare, quoted}
use Rattle.stanza_form.specs.Fields.{kind_for}
use Rattle.stanza_form.specs.Forms.{rule_of, value_by}
use Rattle.buffer.specs.Writing.{Values}
use Rattle.octets.proofs.Slices.{lent}
use Rattle.field_read.proofs.Fields.{gives_token, bad_token_lem}
use native.Mathlib.Omega.{arith}
use Rattle.field_read.proofs.one_token.Goals as goal

pub returns-in-Some-Bare : goal.returns-in-Some-Bare
returns-in-Some-Bare c =
    let w = (rw c.in-Some-Bare.field-0-is at (c.in-Some-Bare.ensures {u = tt}).within) in
    rw c.before-in-Some-Bare.ensures
    (gives_token (names_in c.args.u.now.c) _ _ _ _ _ c.requires.one c.args.u.now.origin.now _ _ c.of_bare.result _
    (rw c.in-Some-Bare.field-0-is at (c.in-Some-Bare.ensures {u = tt}).tokens)
    (subst (λ xs. Values c.args.out.now c.of_bare.new.out c.args.at c.of_bare.result (value_by (rule_of (names_in c.args.u.now.c) (kind_for c.args.u.now.s.now c.args.d)) c.args.u.now.origin.now (bare xs)))
    (lent c.args.t.now c.in-Some-Bare.a c.in-Some-Bare.e (omega (arith, w.1))) c.of_bare.ensures) w.2)

pub returns-in-Some-Quoted : goal.returns-in-Some-Quoted
returns-in-Some-Quoted c =
    let w = (rw c.in-Some-Quoted.field-0-is at (c.in-Some-Quoted.ensures {u = tt}).within) in
    rw c.before-in-Some-Quoted.ensures
    (gives_token (names_in c.args.u.now.c) _ _ _ _ _ c.requires.one c.args.u.now.origin.now _ _ c.of_quoted.result _
    (rw c.in-Some-Quoted.field-0-is at (c.in-Some-Quoted.ensures {u = tt}).tokens)
    (subst (λ xs. Values c.args.out.now c.of_quoted.new.out c.args.at c.of_quoted.result (value_by (rule_of (names_in c.args.u.now.c) (kind_for c.args.u.now.s.now c.args.d)) c.args.u.now.origin.now (quoted xs)))
    (lent c.args.t.now c.in-Some-Quoted.a c.in-Some-Quoted.e w.1) (c.of_quoted.ensures (names_in c.args.u.now.c) _ c.args.u.now.origin.now)) (omega (arith, w.2)))

pub returns-in-Some-Broken : goal.returns-in-Some-Broken
returns-in-Some-Broken c =
    bad_token_lem (names_in c.args.u.now.c) _ c.requires.one c.args.u.now.origin.now _ (rw c.in-Some-Broken.field-0-is at (c.in-Some-Broken.ensures {u = tt}).tokens)
