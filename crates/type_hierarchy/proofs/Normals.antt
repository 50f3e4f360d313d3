-- What is asked of a name that is normalised.
use Rattle.std.proofs.Common.{◌≡◌, ◌∙◌, ap, sym, true, ◌&&◌, List, Option, None, Some, if◌then◌else◌, inl, inr}
use Rattle.std.specs.List.{find}
use Rattle.std.proofs.lemmas.Bool.{cases_Bool}
use Rattle.type_terms.specs.declared.name.Scope.{Scope}
use Rattle.type_terms.specs.declared.name.TypeId.{TypeId}
use Rattle.type_terms.specs.declared.name.TypeName.{TypeName}
use Rattle.type_terms.specs.declared.term.Primitive.{Primitive}
use Rattle.type_terms.specs.declared.term.SigType.{out-SigType}
use Rattle.type_terms.specs.declared.term.SigType.TheVariants as type
use Rattle.type_hierarchy.specs.Declarations.{is_class_of, layer_is_class, integral_layer, plain_in}
use Rattle.type_hierarchy.specs.Names.{same_scope, same_path, primitives}
use Rattle.type_hierarchy.specs.Normal.{Reading, has_class, named_type, name_or_primitive, primitive_of}
use Rattle.type_hierarchy.specs.Reading.{if_integral}
use Rattle.type_hierarchy.proofs.TableLemmas.{path_decides}

integral_of : (r : Reading) (n : TypeName) (o : Option Primitive) → if_integral o ≡ integral_layer (out-SigType (name_or_primitive r n o))
integral_of r n (Some p) = ap integral_layer (sym (type.outs-Prim p))
integral_of r n None = elim (cases_Bool (r.is_value n)) [
  | inl e ↦ rw e (ap integral_layer (sym (type.outs-Value n)))
  | inr e ↦ rw e (ap integral_layer (sym (type.outs-Class n)))
]

pub integral_named : (r : Reading) (n : TypeName) (o : Option Primitive) → o ≡ primitive_of r.core n
    → if_integral o ≡ integral_layer (out-SigType (named_type r n))
integral_named r n o e = rw e (integral_of r n (primitive_of r.core n))

-- a name with that path is that of no primitive type
no_primitive : (core : Scope) (path : List TypeId) (n : TypeName) → find (has_class path) primitives ≡ None
    → is_class_of core path n ≡ true → primitive_of core n ≡ None
no_primitive core path n none is = elim (cases_Bool (same_scope n.scope core)) [
  | inl e ↦
      let same : same_path n.path path ≡ true = sym (ap (λ b. b && same_path n.path path) e) ∙ is in
      ap (λ b. if b then find (has_class n.path) primitives else None) e
      ∙ ap (λ p. find (has_class p) primitives) ((path_decides n.path path).0 same) ∙ none
  | inr e ↦ ap (λ b. if b then find (has_class n.path) primitives else None) e
]

class_of : (core : Scope) (scope : Scope → Scope) (path : List TypeId) (n : TypeName) (o : Option Primitive)
    → (is_class_of core path n ≡ true → o ≡ None) → is_class_of core path n ≡ layer_is_class core path (out-SigType (name_or_primitive (plain_in core scope) n o))
class_of core scope path n None h = ap (layer_is_class core path) (sym (type.outs-Class n))
class_of core scope path n (Some p) h = elim (cases_Bool (is_class_of core path n)) [
  | inl e ↦ absurd (let x : Some p ≡ None = h e in let f : ⊥ = cc in f)
  | inr e ↦ e ∙ ap (layer_is_class core path) (sym (type.outs-Prim p))
]

pub class_named : (core : Scope) (scope : Scope → Scope) (path : List TypeId) (n : TypeName) → find (has_class path) primitives ≡ None
    → is_class_of core path n ≡ layer_is_class core path (out-SigType (named_type (plain_in core scope) n))
class_named core scope path n none = class_of core scope path n (primitive_of core n) (no_primitive core path n none)
