use Rattle.std.proofs.Common.{[], ◌∷◌, length, ap, sym, subst, arith}
use Rattle.std.specs.Prelude.{false}
use Rattle.std.specs.List.{AllByRecursion}
use Rattle.ilasm_grammar.specs.declared.productions.TheConstants.{ASSEMBLY_ASSEMBLY_ATTR_STAR, ASSEMBLY_ITEM_CUSTOM}
use Rattle.source_model.specs.Forest.{parts, the}
use Rattle.source_model.specs.Items.{declarations, own_customs}
use Rattle.source_model.specs.Manifests.{this_assembly}
use Rattle.source_model.specs.Nodes.{nothing_around}
use Rattle.source_nodes.specs.Pieces.{ArePieces}
use Rattle.source_syntax.proofs.SizeLemmas.{the_smaller}
use Rattle.lower_manifest.specs.Customs.{IsCustom}
use Rattle.source_flags.specs.InRange.{IsInRange}
use Rattle.source_flags.specs.Lines.{productions_of}
use Rattle.source_flags.specs.declared.gathering.Kind.TheVariants.{Declarations}
use Rattle.lower_manifest.proofs.CustomParts.{IsRanged, assembly_holds, outside_hold}
use Rattle.source_flags.proofs.Gathered.{IsSought, all_follow, of_parts}
use Rattle.lower_manifest.proofs.KeyLemmas.{only}
use Rattle.lower_manifest.proofs.ManifestLemmas.{declaration_in_range}
use Rattle.lower_manifest.proofs.manifests.read_customs.Goals as goal

pub parts_of-requires : goal.parts_of-requires
parts_of-requires c = (the ASSEMBLY_ASSEMBLY_ATTR_STAR c.requires.forest.0, c.declaration-below.ensures c.requires.forest.0 c.requires.forest.1)

pub attributes-requires-clause-parts : goal.attributes-requires-clause-parts
attributes-requires-clause-parts c =
    let f = c.requires.forest.0 in
    let d = the ASSEMBLY_ASSEMBLY_ATTR_STAR f in
    let ps = parts (ASSEMBLY_ITEM_CUSTOM ∷ []) d in
    (ps, subst (λ xs. ArePieces c.declaration-below.result.now xs ps) (sym c.as_slice.ensures) (c.in_ok-own.ensures d (c.declaration-below.ensures f c.requires.forest.1)))

pub attributes-requires-clause-few : goal.attributes-requires-clause-few
attributes-requires-clause-few c =
    let f = c.requires.forest in
    let below = ap length (c.declaration-below.ensures f.0 f.1) in
    omega (arith, below, the_smaller ASSEMBLY_ASSEMBLY_ATTR_STAR f.0, ap length f.1, c.requires.few)

pub attributes-requires-2-clause-parts : goal.attributes-requires-2-clause-parts
attributes-requires-2-clause-parts c =
    let nodes = c.args.place.now.reader.nodes.now in
    let ps = c.requires.parts.0 in
    (own_customs ps, subst (λ xs. ArePieces nodes xs (own_customs ps)) (sym c.as_slice-2.ensures) (c.in_ok-free.ensures nodes ps c.requires.parts.1))

pub returns : goal.returns
returns c s x all h =
    let d = this_assembly s in
    let below = c.declaration-below.ensures s.tree x.reads.nodes in
    let ps = parts (ASSEMBLY_ITEM_CUSTOM ∷ []) d in
    let own : ArePieces c.declaration-below.result.now c.as_slice.result.now ps =
    subst (λ xs. ArePieces c.declaration-below.result.now xs ps) (sym c.as_slice.ensures) (c.in_ok-own.ensures d below) in
    let own_all : AllByRecursion (IsCustom s) ps =
    all_follow (IsSought (IsInRange s) (ASSEMBLY_ITEM_CUSTOM ∷ [])) (IsCustom s) ps
    (λ p g. assembly_holds s p (only ASSEMBLY_ITEM_CUSTOM p.production g.0) (g.1, g.2))
    (of_parts (IsInRange s) (ASSEMBLY_ITEM_CUSTOM ∷ []) d (declaration_in_range s h)) in
    let nodes = c.args.place.now.reader.nodes.now in
    let qs = declarations s.tree in
    let free : ArePieces nodes c.as_slice-2.result.now (own_customs qs) =
    subst (λ xs. ArePieces nodes xs (own_customs qs)) (sym c.as_slice-2.ensures) (c.in_ok-free.ensures nodes qs all) in
    let free_all : AllByRecursion (IsCustom s) (own_customs qs) =
    outside_hold s false qs
    (all_follow (IsSought (IsInRange s) (productions_of Declarations)) (IsRanged s) qs (λ p g. (g.1, g.2)) (of_parts (IsInRange s) (productions_of Declarations) s.tree h)) in
    record {
      assembly-are = c.in_ok-assembly.ensures s nothing_around x ps own own_all;
      outside-are = c.in_ok-outside.ensures s nothing_around x (own_customs qs) free free_all;
    }
