use Rattle.std.proofs.Common.{[], ◌∷◌, sym, subst}
use Rattle.std.specs.List.{AllByRecursion}
use Rattle.source_model.specs.Forest.{parts}
use Rattle.source_nodes.specs.Pieces.{ArePieces}
use Rattle.source_flags.specs.InRange.{IsInRange}
use Rattle.source_flags.proofs.Gathered.{IsSought, all_follow, of_parts}
use Rattle.lower_manifest.specs.Customs.{IsCustom}
use Rattle.lower_manifest.proofs.KeyLemmas.{only}
use Rattle.lower_members.proofs.HeldParts.{custom_in}
use Rattle.lower_members.proofs.item_customs.attributes_in.Goals as goal

pub attributes-requires-clause-parts : goal.attributes-requires-clause-parts
attributes-requires-clause-parts c =
    let f = c.requires.forest in
    let ps = parts (c.args.production ∷ []) f.0 in
    (ps, subst (λ xs. ArePieces c.args.nodes.now xs ps) (sym c.as_slice.ensures) (c.in_ok-found.ensures f.0 f.1))

pub returns : goal.returns
returns c s a x f e each among =
    let sought = c.args.production ∷ [] in
    let ps = parts sought f in
    let are : ArePieces c.args.nodes.now c.as_slice.result.now ps =
    subst (λ xs. ArePieces c.args.nodes.now xs ps) (sym c.as_slice.ensures) (c.in_ok-found.ensures f e) in
    let customs : AllByRecursion (IsCustom s) ps =
    all_follow (IsSought (IsInRange s) sought) (IsCustom s) ps
    (λ p g. custom_in s p.below c.args.production among (subst (λ q. IsInRange s q p.below) (only c.args.production p.production g.0) g.1).fits g.2)
    (of_parts (IsInRange s) sought f each) in
    c.attributes.ensures s a x ps are customs
