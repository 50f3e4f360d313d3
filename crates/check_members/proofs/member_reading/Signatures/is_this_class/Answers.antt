use Rattle.std.proofs.Common.{ap, ◌∙◌, sym}
use Rattle.std.specs.Prelude.{◌&&◌}
use Rattle.source_model.specs.Undeclared.{has_known_scope, names_this_class}
use Rattle.check_members.proofs.ReadLemmas.{never}
use Rattle.check_members.proofs.ReferenceParts.{not_this_class, this_class}
use Rattle.check_members.proofs.member_reading.Signatures.is_this_class.Goals as goal

pub returns-then-has : goal.returns-then-has
returns-then-has g c s a f v r p e fits bodies here =
    sym (never (has_known_scope s f) (names_this_class s a f) (sym (not_this_class s a f (sym (c.has.ensures f e) ∙ c.if-has.true))))

pub returns-then-not-known : goal.returns-then-not-known
returns-then-not-known g c s a f v r p e fits bodies here =
    let known = c.in_ok-known.ensures s f v r e fits bodies in
    sym (ap (λ b. b && names_this_class s a f) (sym known ∙ c.if-not-known.true))

pub returns : goal.returns
returns g c s a f v r p e fits bodies here =
    let untyped = sym (c.has.ensures f e) ∙ c.if-has.false in
    let known = c.in_ok-known.ensures s f v r e fits bodies in
    c.is_here.ensures
    ∙ this_class s a f c.in_ok-name.name c.args.path.now here (c.in_ok-name.ensures s a f (c.at.ensures s a v r p) e fits bodies untyped)
    ∙ sym (ap (λ b. b && names_this_class s a f) (sym known ∙ c.if-not-known.false))
