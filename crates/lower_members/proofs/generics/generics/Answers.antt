use Rattle.std.proofs.Common.{◌≡◌, ℕ, List, ◌≤◌, ◌<◌, [], ◌∷◌, ◌++◌, length, map, ap, sym, subst, ◌∙◌, arith}
use Rattle.std.specs.Prelude.{filter}
use Rattle.std.specs.List.{enumerate_from}
use Rattle.std.proofs.lemmas.List.{take_all}
use Rattle.assembly_tree.specs.declared.members.Attribute.{Attribute}
use Rattle.ilasm_grammar.specs.declared.productions.TheConstants.{TYPAR, TYPARS_OPT_SOME}
use Rattle.source_flags.specs.InRange.{IsInRange}
use Rattle.source_flags.proofs.Gathered.{IsSought, all_at, of_parts}
use Rattle.source_model.specs.Forest.{child}
use Rattle.source_model.specs.Items.{runs}
use Rattle.source_model.specs.Nodes.{typar_names, typars}
use Rattle.source_model.specs.Parameters as params
use Rattle.source_nodes.specs.Pieces.{ArePieces}
use Rattle.source_nodes.proofs.PieceLemmas.{as_many, map_next, part_read}
use Rattle.source_syntax.proofs.ReferenceLemmas.{of_child}
use Rattle.lower_manifest.proofs.KeyLemmas.{only}
use Rattle.lower_members.specs.Generics.{generic_with}
use Rattle.lower_members.specs.ParamLines.{given}
use Rattle.lower_members.proofs.GenericLemmas.{Remaining, all_remain, last_is, less_remain, many_names, many_typars, no_typars, numbered_at, typar_parts}
use Rattle.lower_members.proofs.generics.generics.Goals as goal

pub generic-requires : goal.generic-requires
generic-requires c =
    let found = c.as_slice-typar-items.result.now in
    let f = c.requires.forest in
    let below = c.child-below.ensures f.0 f.1 in
    let are : ArePieces c.child-below.result.now found (typar_parts f.0) =
    subst (λ xs. ArePieces c.child-below.result.now xs (typar_parts f.0)) (sym c.as_slice-typar-items.ensures) (c.in_ok-typars.ensures (child (TYPARS_OPT_SOME ∷ []) f.0) (sym below)) in
    let m = part_read c.child-below.result.now found (typar_parts f.0) c.loop-typar.typar-index _ are c.loop-typar-test.true in
    (m.of.below, m.below ∙ sym c.nodes_of.ensures)

pub loop-typar-init : goal.loop-typar-init
loop-typar-init c s a x f ps e h names few are each =
    let all = all_remain s a c.args.names.now ps c.in_ok-given.given.items (c.in_ok-given.ensures s a x ps are each few) in
    record {
      left = subst (λ n. Remaining (λ k. given s a (typar_names s f) k (runs ps)) n 0 c.in_ok-given.given.items) (many_names s f)
          (subst (λ ns. Remaining (λ k. given s a ns k (runs ps)) (length ns) 0 c.in_ok-given.given.items) names all);
      same = c.new-all.ensures;
    }

pub loop-typar-preserved : goal.loop-typar-preserved
loop-typar-preserved c s a x f ps e h names few are each =
    let found = c.as_slice-typar-items.result.now in
    let i = c.loop-typar.typar-index in
    let below = c.child-below.ensures f e in
    let qs = typar_parts f in
    let pieces : ArePieces c.child-below.result.now found qs =
    subst (λ xs. ArePieces c.child-below.result.now xs qs) (sym c.as_slice-typar-items.ensures) (c.in_ok-typars.ensures (child (TYPARS_OPT_SOME ∷ []) f) (sym below)) in
    let m = part_read c.child-below.result.now found qs i _ pieces c.loop-typar-test.true in
    let many = as_many c.child-below.result.now found qs pieces in
    let low : i < length qs = omega (arith, many, c.loop-typar-test.true) in
    let own = all_at (IsSought (IsInRange s) (TYPAR ∷ [])) qs i m.of (of_parts (IsInRange s) (TYPAR ∷ []) (child (TYPARS_OPT_SOME ∷ []) f) (of_child (IsInRange s) (TYPARS_OPT_SOME ∷ []) f h)) m.at in
    let range = subst (λ q. IsInRange s q m.of.below) (only TYPAR m.of.production own.0) own.1 in
    let read = c.loop-typar.invariant s a x f ps e h names few are each in
    let some : 0 < length c.loop-typar.given.items = (let n = read.left.many in omega (arith, n, low)) in
    let taken = c.take_last-customs.ensures some in
    let want : ℕ → List Attribute = λ k. given s a (typar_names s f) k (runs ps) in
    let customs = last_is want (length qs) i c.loop-typar.given.items c.take_last-customs.new.given.items c.take_last-customs.result read.left taken low in
    let one = c.in_ok-one.ensures s a x m.of.below (m.below ∙ sym c.nodes_of.ensures) range own.2 ∙ ap (generic_with s a m.of.below) customs in
    record {
      left = less_remain want (length qs) i c.loop-typar.given.items c.take_last-customs.new.given.items c.take_last-customs.result read.left taken low;
      same = c.in_ok-push.ensures.ok ∙ ap (λ y. c.loop-typar.all ++ y ∷ []) one
          ∙ map_next (params.generic s a (typar_names s f) (filter params.speaks_of_typar (runs ps))) (enumerate_from 0 (typars f)) i (i, m.of.below) c.loop-typar.all (numbered_at qs i m.of m.at) read.same;
    }

pub returns : goal.returns
returns c s a x f ps e h names few are each =
    let found = c.as_slice-typar-items.result.now in
    let below = c.child-below.ensures f e in
    let qs = typar_parts f in
    let pieces : ArePieces c.child-below.result.now found qs =
    subst (λ xs. ArePieces c.child-below.result.now xs qs) (sym c.as_slice-typar-items.ensures) (c.in_ok-typars.ensures (child (TYPARS_OPT_SOME ∷ []) f) (sym below)) in
    let many = as_many c.child-below.result.now found qs pieces in
    let over : length (enumerate_from 0 (typars f)) ≤ c.loop-typar.typar-index = (let n = many_typars f in omega (arith, n, many, c.loop-typar-test.false)) in
    (c.loop-typar.invariant s a x f ps e h names few are each).same
    ∙ ap (map (params.generic s a (typar_names s f) (filter params.speaks_of_typar (runs ps)))) (take_all c.loop-typar.typar-index (enumerate_from 0 (typars f)) over)

pub returns-then-len-eq0 : goal.returns-then-len-eq0
returns-then-len-eq0 c s a x f ps e h names few are each =
    let nothing : length (typar_names s f) ≡ 0 = ap length (sym names) ∙ sym c.len.ensures ∙ c.if-len-eq0.true in
    c.new.ensures
    ∙ sym (ap (λ fs. map (params.generic s a (typar_names s f) (filter params.speaks_of_typar (runs ps))) (enumerate_from 0 fs)) (no_typars s f nothing))
