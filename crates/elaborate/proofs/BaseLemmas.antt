-- The bases of classes, by what they say.
use Rattle.std.proofs.Common.{◌≡◌, List, [], ◌∷◌, ◌++◌, Option, None, Some, refl, ap, sym, ◌∙◌}
use Rattle.std.specs.Prelude.{Bool, true, false, ◌&&◌, if◌then◌else◌}
use Rattle.type_terms.specs.declared.name.Scope.{Scope}
use Rattle.type_terms.specs.declared.name.TypeId.{TypeId}
use Rattle.type_terms.specs.declared.term.Owner.{Owner}
use Rattle.ilasm_grammar.specs.declared.productions.TheConstants.{EXTENDS, EXTENDS_OPT_SOME}
use Rattle.source_model.specs.Classes.{base, core_scope, is_interface, is_root, named_object}
use Rattle.source_model.specs.Forest.{Forest, child, has}
use Rattle.source_model.specs.Nodes.{Around}
use Rattle.source_model.specs.Source.{Source}
use Rattle.source_model.specs.Types.{the_owner}
use Rattle.elaborate.specs.Bases.{is_outside}

module _ (s : Source) (a : Around) (f : Forest) where
  abbrev pub written : Forest
  written = child (EXTENDS_OPT_SOME ∷ []) f

  abbrev chosen : Bool → Bool → Bool → Option Owner
  chosen i e r = if i then None else if e then Some (the_owner s a written) else if r then None else named_object (core_scope s)

  pub of_interface : is_interface s f ≡ true → None ≡ base s a f
  of_interface i = sym (ap (λ (c : Bool). chosen c (has EXTENDS written) (is_root a.path)) i)

  pub of_written : (owner : Owner) → is_interface s f ≡ false → has EXTENDS written ≡ true → owner ≡ the_owner s a written → Some owner ≡ base s a f
  of_written owner i e is =
      ap Some is ∙ sym (ap (λ (c : Bool). chosen c (has EXTENDS written) (is_root a.path)) i ∙ ap (λ (c : Bool). chosen false c (is_root a.path)) e)

  pub of_root : is_interface s f ≡ false → has EXTENDS written ≡ false → is_root a.path ≡ true → None ≡ base s a f
  of_root i e r =
      sym (ap (λ (c : Bool). chosen c (has EXTENDS written) (is_root a.path)) i ∙ ap (λ (c : Bool). chosen false c (is_root a.path)) e
      ∙ ap (λ (c : Bool). chosen false false c) r)

  pub of_object : (core : Option Scope) → is_interface s f ≡ false → has EXTENDS written ≡ false → is_root a.path ≡ false → core ≡ core_scope s
      → named_object core ≡ base s a f
  of_object core i e r is =
      ap named_object is
      ∙ sym (ap (λ (c : Bool). chosen c (has EXTENDS written) (is_root a.path)) i ∙ ap (λ (c : Bool). chosen false c (is_root a.path)) e
      ∙ ap (λ (c : Bool). chosen false false c) r)

-- a class in another isn't the root
pub root_outside : (path : List TypeId) (id : TypeId) → (is_outside path && is_root (id ∷ [])) ≡ is_root (path ++ id ∷ [])
root_outside [] id = refl
root_outside (x ∷ []) id = refl
root_outside (x ∷ y ∷ more) id = refl
