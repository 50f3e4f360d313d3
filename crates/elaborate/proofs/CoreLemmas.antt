-- Where the root of all classes stands.
use Rattle.std.proofs.Common.{◌≡◌, ◌<◌, ℕ, suc, List, [], ◌∷◌, Option, None, Some, length, map, cond, refl, ap, sym, ◌∙◌}
use Rattle.std.specs.Prelude.{Bool, is_some, option_map, position}
use Rattle.std.proofs.lemmas.List.Quantifiers.{position-Some}
use Rattle.type_terms.specs.declared.name.TypeId.{TypeId}
use Rattle.assembly_tree.specs.DataSize.{is_id}
use Rattle.assembly_tree.specs.declared.assembly.ExternAssembly.{ExternAssembly}
use Rattle.source_model.specs.Classes.{core_scope, is_core, object_scope, system_object}
use Rattle.source_model.specs.Manifests.{extern_assemblies, extern_assembly}
use Rattle.source_model.specs.Names.{externs, is_declared_path}
use Rattle.source_model.specs.Source.{Source}
use Rattle.source_syntax.specs.ClassNumbers.{Knows, class_in, id_of, outer_of}
use Rattle.source_syntax.specs.Nested.{onward, reached}
use Rattle.source_syntax.specs.declared.class_paths.ClassName.{ClassName}
use Rattle.source_syntax.proofs.LabelLemmas.{position_first}
use Rattle.check_names.specs.DeclaredClasses.{declared_paths}
use Rattle.check_names.proofs.NamedTypeLemmas.{declared_is}
use Rattle.elaborate.specs.Cores.{is_core_assembly}

-- the first of what a list gives is the first that gives it
position_map : {X Y : Type 0} (p : Y → Bool) (g : X → Y) (xs : List X) → position p (map g xs) ≡ position (λ x. p (g x)) xs
position_map p g [] = refl
position_map p g (x ∷ xs) =
    position_first p (g x) (map g xs) ∙ ap (λ o. cond (p (g x)) (Some 0) (option_map suc o)) (position_map p g xs)
    ∙ sym (position_first (λ x. p (g x)) x xs)

pub first_core : (s : Source) (all : List ExternAssembly) (o : Option ℕ) → all ≡ extern_assemblies s → o ≡ position is_core_assembly all → object_scope s o ≡ core_scope s
first_core s all o is found =
    ap (object_scope s) (found ∙ ap (position is_core_assembly) is ∙ position_map is_core_assembly (extern_assembly s) (externs s))

pub object_declared : (s : Source) (cs : List ClassName) (id : TypeId) → Knows cs (declared_paths s) → system_object ≡ id ∷ []
    → is_some (class_in cs id 0) ≡ is_declared_path s system_object
object_declared s cs id knows is = arrived (class_in cs id 0) ∙ declared_is s cs knows id [] ∙ ap (is_declared_path s) (sym is)
  where
    arrived : (o : Option ℕ) → is_some o ≡ is_some (onward (reached outer_of id_of is_id cs []) o)
    arrived None = refl
    arrived (Some k) = refl

pub place_within : {X : Type 0} (p : X → Bool) (xs : List X) (k : ℕ) → position p xs ≡ Some k → k < length xs
place_within p [] k e = absurd cc
place_within p (x ∷ xs) k e = (position-Some p (x ∷ xs) k x e).0
