use Rattle.std.proofs.Common.{◌≡◌, [], ◌∷◌, sym, subst, rules}
use Rattle.std.specs.List.{AllByRecursion}
use Rattle.ilasm_grammar.specs.declared.productions.TheConstants.{DATA}
use Rattle.source_flags.specs.InRange.{AllInRange, IsInRange}
use Rattle.source_flags.specs.Outside.{shut_of}
use Rattle.source_flags.specs.declared.outside.Shut.TheVariants.{Methods}
use Rattle.source_flags.proofs.Apart.{same_outside}
use Rattle.source_flags.proofs.Gathered.{IsSought, all_follow, has_bodies, of_parts}
use Rattle.source_model.specs.Forest.{parts, parts_outside}
use Rattle.source_nodes.specs.Pieces.{ArePieces}
use Rattle.lower_members.proofs.LabelledLemmas.{data_past, none_found}
use Rattle.lower_members.proofs.labelled_data.collect_data.Goals as goal

pub contents_of-requires : goal.contents_of-requires
contents_of-requires c =
    let f = c.requires in
    let ps = parts_outside (shut_of Methods) (DATA ∷ []) f.0 in
    (ps, subst (λ xs. ArePieces c.args.reader.now.nodes.now xs ps) (sym c.as_slice.ensures) (c.in_ok-all.ensures f.0 f.1))

pub returns-then-is_empty : goal.returns-then-is_empty
returns-then-is_empty c s r h =
    let none : c.in_ok-all.all ≡ [] = search rules in
    let found : ArePieces c.args.reader.now.nodes.now [] (parts (DATA ∷ []) s.tree) =
    subst (ArePieces c.args.reader.now.nodes.now []) (same_outside Methods (DATA ∷ []) data_past s s.tree (has_bodies s s.tree h))
    (subst (λ xs. ArePieces c.args.reader.now.nodes.now xs (parts_outside (shut_of Methods) (DATA ∷ []) s.tree)) none (c.in_ok-all.ensures s.tree r.nodes)) in
    c.no_data.ensures s (none_found c.args.reader.now.nodes.now (parts (DATA ∷ []) s.tree) found)

pub returns : goal.returns
returns c s r h =
    let ps = parts (DATA ∷ []) s.tree in
    let all : ArePieces c.args.reader.now.nodes.now c.as_slice.result.now ps =
    subst (ArePieces c.args.reader.now.nodes.now c.as_slice.result.now) (same_outside Methods (DATA ∷ []) data_past s s.tree (has_bodies s s.tree h))
    (subst (λ xs. ArePieces c.args.reader.now.nodes.now xs (parts_outside (shut_of Methods) (DATA ∷ []) s.tree)) (sym c.as_slice.ensures) (c.in_ok-all.ensures s.tree r.nodes)) in
    let each : AllByRecursion (λ p. AllInRange s p.below) ps =
    all_follow (IsSought (IsInRange s) (DATA ∷ [])) (λ p. AllInRange s p.below) ps (λ p g. g.2) (of_parts (IsInRange s) (DATA ∷ []) s.tree h) in
    record { labels-are = c.in_ok-labels.ensures s r; contents-are = c.in_ok-contents.ensures s ps r all each }
