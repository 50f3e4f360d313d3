use Rattle.std.proofs.Common.{ap}
use Rattle.type_terms.specs.declared.name.Scope.TheVariants.{Here}
use Rattle.source_syntax.proofs.NameTails.{longer_path}
use Rattle.source_syntax.proofs.place.Place.name_before.Goals as goal

pub returns : goal.returns
returns c s a x named f e fits bodies =
    ap (λ p. record { scope = Here; path = p })
    (longer_path s f c.in_ok-outer.outer c.in_ok-inner.inner c.in_ok-path.path c.push.new.self c.in_ok-path-2.path c.args.first c.leaf_at.result fits
    c.in_ok-path.ensures c.in_ok-push.ensures.ok (c.in_ok-path-2.ensures s a x f e bodies) (c.in_ok-outer.ensures s x.reads named)
    (c.in_ok-inner.ensures s x.reads) (c.leaf_at.ensures f e))
