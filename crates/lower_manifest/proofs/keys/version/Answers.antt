use Rattle.std.proofs.Common.{[], ◌∷◌, sym, subst, ◌∙◌}
use Rattle.ilasm_grammar.specs.declared.productions.TheConstants.{KEY_VER}
use Rattle.source_model.specs.Forest.{parts}
use Rattle.source_model.specs.Manifests.{version_in}
use Rattle.source_flags.specs.InRange.{IsInRange}
use Rattle.source_flags.proofs.Gathered.{said, said_last}
use Rattle.lower_manifest.proofs.KeyLemmas.{only}
use Rattle.lower_manifest.proofs.keys.version.Goals as goal

pub returns-in-Some : goal.returns-in-Some
returns-in-Some c s f r e h =
    let l = said (IsInRange s) (KEY_VER ∷ []) f c.in_ok-said.said c.in-Some.line h c.in-Some.is (c.in_ok-said.ensures f e) in
    c.version_in.ensures s l.of.below r l.below (subst (λ q. IsInRange s q l.of.below) (only KEY_VER l.of.production l.sought-is) l.own)
    ∙ sym (said_last (λ q. version_in s q.below) (0 ∷ 0 ∷ 0 ∷ 0 ∷ []) (parts (KEY_VER ∷ []) f) l.of l.last)
