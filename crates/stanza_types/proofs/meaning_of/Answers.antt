use Rattle.std.specs.Prelude.{Err}
use Rattle.stanza_types.proofs.Meanings.{plain_in, qualified_in_lem}
use Rattle.stanza_types.proofs.meaning_of.Goals as goal

pub returns-then-a-b : goal.returns-then-a-b
returns-then-a-b c =
    plain_in c.args.name.now c.args.s.now c.args.a c.args.b _ c.type_of-ty.ensures c.plain_meant.result c.if-a-b.true
    c.plain_meant.ensures

pub returns-in-None : goal.returns-in-None
returns-in-None c =
    qualified_in_lem c.args.name.now c.args.s.now c.args.a c.args.b _ (rw c.in-None.is at c.type_of-ty.ensures) (Err c.untyped.result) c.if-a-b.false
    c.untyped.ensures

pub returns-in-Some : goal.returns-in-Some
returns-in-Some c =
    qualified_in_lem c.args.name.now c.args.s.now c.args.a c.args.b _ (rw c.in-Some.is at c.type_of-ty.ensures) _ c.if-a-b.false
    c.qualified.ensures
