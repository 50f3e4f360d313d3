use Rattle.std.proofs.Common.{◌∙◌, refl, sym}
use Rattle.check_members.proofs.AccessorLemmas.{generics_broken, generics_none, no_generic_arguments, signature_left, signature_none, some_generic_arguments, type_broken}
use Rattle.check_members.proofs.member_reading.Signatures.keeps_reference.Goals as goal

pub returns-then-is_some : goal.returns-then-is_some
returns-then-is_some g c s a f v r p h e bodies =
    some_generic_arguments s a f c.generic_arguments.result (c.generic_arguments.ensures f e) (sym c.is_some.ensures ∙ c.if-is_some.true)

pub returns-then-not-of : goal.returns-then-not-of
returns-then-not-of g c s a f v r p h e bodies =
    type_broken (g.R.Rule.broken c.args.self.now.rule.now) s v.breaks a f c.in_ok-of.of (c.in_ok-of.ensures s a f r p h e bodies) c.if-not-of.true

pub returns-then-not-generics : goal.returns-then-not-generics
returns-then-not-generics g c s a f v r p h e bodies =
    let broken = g.R.Rule.broken c.args.self.now.rule.now in
    generics_broken broken s v.breaks a f c.in_ok-generics.generics (c.in_ok-generics.ensures s a f r p h e bodies refl (generics_none broken s v.breaks a)) c.if-not-generics.true

pub returns : goal.returns
returns g c s a f v r p h e bodies =
    let broken = g.R.Rule.broken c.args.self.now.rule.now in
    signature_left broken s v.breaks a f c.in_ok-of.of c.in_ok-generics.generics c.in_ok-signature.signature c.if-not-of.false c.if-not-generics.false
    (c.in_ok-of.ensures s a f r p h e bodies) (c.in_ok-generics.ensures s a f r p h e bodies refl (generics_none broken s v.breaks a))
    (c.in_ok-signature.ensures s a f r p h e bodies refl (signature_none broken s v.breaks a))
    (no_generic_arguments s a f c.generic_arguments.result (c.generic_arguments.ensures f e) (sym c.is_some.ensures ∙ c.if-is_some.false))
