use Rattle.std.proofs.Common.{length, ap, sym, subst}
use Rattle.source_flags.proofs.Gathered.{has_bodies}
use Rattle.source_model.specs.Items.{declarations}
use Rattle.source_nodes.specs.Pieces.{ArePieces}
use Rattle.elaborate.proofs.AssemblyLemmas.{at_outside}
use Rattle.elaborate.proofs.ClassLemmas.{all_ranged}
use Rattle.elaborate.proofs.assemblies.read_assembly.Goals as goal

pub extern_keys-requires : goal.extern_keys-requires
extern_keys-requires g c =
    let f = c.requires.forest in
    let ps = declarations f.0 in
    (ps, subst (λ xs. ArePieces c.args.reader.now.nodes.now xs ps) (sym c.as_slice.ensures) (c.in_ok-declared.ensures f.0 f.1))

pub assembly_at-requires-clause-parts : goal.assembly_at-requires-clause-parts
assembly_at-requires-clause-parts g c =
    let f = c.requires.forest in
    let ps = declarations f.0 in
    (ps, subst (λ xs. ArePieces c.args.reader.now.nodes.now xs ps) (sym c.as_slice-2.ensures) (c.in_ok-declared.ensures f.0 f.1))

pub returns : goal.returns
returns g c s knows r each some =
    let nodes = c.args.reader.now.nodes.now in
    let ps = declarations s.tree in
    let declared = c.in_ok-declared.ensures s.tree r.nodes in
    let keys = c.in_ok-keys.ensures s r (subst (λ xs. ArePieces nodes xs ps) (sym c.as_slice.ensures) declared) (has_bodies s s.tree (all_ranged s s.tree each)) in
    c.assembly_at.ensures s knows
    (at_outside _ s (length nodes) r keys c.new-none.ensures c.new-none.ensures (ap length r.nodes) c.requires.few)
    (subst (λ xs. ArePieces nodes xs ps) (sym c.as_slice-2.ensures) declared) each some
