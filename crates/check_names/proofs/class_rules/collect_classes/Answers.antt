use Rattle.std.proofs.Common.{◌∷◌, ◌∙◌, [], ap, sym, subst, refl}
use Rattle.assembly_tree.specs.DataSize.{is_id}
use Rattle.source_model.specs.Names.{module_path}
use Rattle.source_syntax.specs.ClassNumbers.{Knows, class_in, id_of, outer_of}
use Rattle.source_syntax.specs.Nested.{IsNested}
use Rattle.source_syntax.proofs.ClassLemmas.{id_itself, id_same}
use Rattle.check_names.proofs.ClassWalks.{module_known, paths_are, twice_are}
use Rattle.source_syntax.proofs.NestedLemmas.{none_nested}
use Rattle.check_names.proofs.class_rules.collect_classes.Goals as goal

pub returns : goal.returns
returns c s r =
    let none = c.new-paths.ensures in
    let id = c.in_ok-module.module in
    let nested = subst (λ cs. IsNested outer_of id_of is_id cs) (sym none) (none_nested outer_of id_of is_id id_same id_itself) in
    let knows = subst (λ i. Knows c.push.new.self ((i ∷ []) ∷ [])) c.in_ok-module.ensures
    (module_known c.new-paths.result c.push.new.self id none (ap (λ cs. class_in cs id 0) none) nested c.in_ok-push.ensures.ok) in
    let bodies = (c.derivations_have_bodies.ensures s r.derived).1 in
    let added = c.in_ok-again.ensures.added s [] s.tree (module_path ∷ []) r r.nodes bodies refl knows in
    record { knows = subst (Knows c.add_classes.new.paths) (paths_are s) added.knows; again = added.first ∙ twice_are s }
