-- Each path that a faultless source declares leads to a type of its assembly (ECMA-335 II.10).
use Rattle.std.proofs.Common.{◌≡◌, inl, inr, List, map, ap, sym, subst, ◌∙◌}
use Rattle.std.specs.Prelude.{Bool, true, ◌||◌, is_some, filter}
use Rattle.std.proofs.lemmas.Bool.{cases_Bool, or_left, or_right}
use Rattle.type_terms.specs.declared.name.TypeId.{TypeId}
use Rattle.assembly_tree.specs.DataSize.{type_at}
use Rattle.assembly_tree.specs.WellFormedNames.{is_declared, is_module_path}
use Rattle.source_model.specs.Classes.{assembly, classes_in}
use Rattle.source_model.specs.DeclaredTwice.{is_module_class, is_same_class, repeats}
use Rattle.source_model.specs.Names.{class_at, classes, is_declared_path, is_path, module_path}
use Rattle.source_model.specs.Nodes.{Node, class_token, nothing_around}
use Rattle.source_model.specs.Source.{Source}
use Rattle.source_syntax.proofs.ClassLemmas.{path_itself, path_same}
use Rattle.laws_formed_sources.proofs.sources.ClassPlaces.{class_found, class_leads, class_paths, path_of, paths_in}
use Rattle.laws_formed_sources.proofs.sources.Members.{Apart}
use Rattle.laws_formed_sources.proofs.sources.Repeats.{no_map, none_twice}
use Rattle.laws_formed_sources.proofs.sources.Unbroken.{NothingTwice, empty_in}

module _ (s : Source) (h : NothingTwice s) where
  pub no_class_twice : Apart (paths_in s s.tree)
  no_class_twice =
      let both =
      empty_in (map (λ (n : Node). class_token n.below) (filter is_module_class (classes s)))
      (map (λ (n : Node). class_token n.below) (repeats is_same_class (classes s))) h.types in
      subst Apart (class_paths s)
      (none_twice is_same_class (path_of s) (λ m n e. ap (is_path m.around.path) (sym e) ∙ path_itself m.around.path) (classes s)
      (no_map (λ (n : Node). class_token n.below) (repeats is_same_class (classes s)) both.1))

  pub declared_path : (path : List TypeId) → is_declared_path s path ≡ true → is_declared (assembly s) path ≡ true
  unfolding assembly
  declared_path path e = elim (cases_Bool (is_path path module_path)) [
    | inl is ↦
        or_left (is_module_path path) (is_some (type_at (classes_in s nothing_around s.tree) path))
        (ap is_module_path (path_same path module_path is))
    | inr other ↦
        or_right (is_module_path path) (is_some (type_at (classes_in s nothing_around s.tree) path))
        (class_leads s nothing_around s.tree no_class_twice path
        (class_found s path (sym (ap (λ (c : Bool). c || is_some (class_at s path)) other) ∙ e)))
  ]
