-- A value of a type has as many bytes in a listing as in the tree.
use Rattle.std.proofs.Common.{◌≡◌, ℕ, Bool, true, false, cond, List, [], ◌∷◌, map, Option, None, Some, refl, ap, sym, ◌∙◌}
use Rattle.std.specs.Prelude.{find, option_map}
use Rattle.type_terms.specs.declared.name.Scope as scope
use Rattle.type_terms.specs.declared.name.TypeId.{TypeId}
use Rattle.type_terms.specs.declared.term.Owner.TheOpen.{SigType-F, Prim, Class, Value, Inst, Var, MVar, SzArray, Array, ByRef, Pointer, Mod, Pinned}
use Rattle.type_terms.specs.declared.term.SigType.{SigType, fold-SigType}
use Rattle.assembly_tree.specs.DataSize as tree
use Rattle.assembly_tree.specs.DataSize.{type_at, declared_in, layout_size, type_size, no_size, size_in_data}
use Rattle.assembly_tree.specs.declared.assembly.Assembly.{Assembly}
use Rattle.assembly_tree.specs.declared.typedef.Layout.{Layout}
use Rattle.assembly_tree.specs.declared.typedef.TypeDef.{TypeDef}
use Rattle.assembly_tree.proofs.FormedFacts.{assemblies_named}
use Rattle.source_model.specs.Data as read
use Rattle.source_model.specs.Data.{layout, class_layout, value_size, data_size}
use Rattle.source_model.specs.Names.{classes, class_at, is_path}
use Rattle.source_model.specs.Nodes.{Node}
use Rattle.source_model.specs.Source.{Source}
use Rattle.listing_declarations.specs.Laws.{IsListingOf}
use Rattle.type_places.specs.Laws.{PathsLead}
use Rattle.type_places.specs.Places.{Placed, has_path, layout_found, layout_of}
use Rattle.listing_places.specs.Laws.{place_of, PlacesAreRead, SizesAreKnown}

-- ---- the first class of a path

found_placed : (s : Source) (path : List TypeId) (ns : List Node) →
    option_map (λ (n : Node). layout s n.below) (find (λ n. is_path n.around.path path) ns) ≡ layout_found path (map (place_of s) ns)
found_placed s path [] = refl
found_placed s path (m ∷ ns) = by (is_path m.around.path path) (found_placed s path ns)
  where
    by : (c : Bool) → option_map (λ (n : Node). layout s n.below) (find (λ n. is_path n.around.path path) ns) ≡ layout_found path (map (place_of s) ns) →
        option_map (λ (n : Node). layout s n.below) (cond c (Some m) (find (λ n. is_path n.around.path path) ns))
        ≡ option_map (λ (q : Placed). q.layout) (cond c (Some (place_of s m)) (find (has_path path) (map (place_of s) ns)))
    by true e = refl
    by false e = e

-- ---- sizes by layouts

abbrev sized : Option (Option Layout) → Option ℕ
sized None = None
sized (Some l) = layout_size l

class_sized : (s : Source) (o : Option Node) → layout_size (class_layout s o) ≡ sized (option_map (λ (n : Node). layout s n.below) o)
class_sized s None = refl
class_sized s (Some n) = refl

type_sized : (o : Option TypeDef) → type_size o ≡ sized (layout_of o)
type_sized None = refl
type_sized (Some t) = refl

module _ (lead : PathsLead) (placed : PlacesAreRead) (s : Source) (a : Assembly) (listed : IsListingOf s a) where
  leads : (path : List TypeId) → option_map (λ (n : Node). layout s n.below) (class_at s path) ≡ layout_of (type_at a.types path)
  leads path =
      found_placed s path (classes s)
      ∙ (ap (layout_found path) (placed s a listed) ∙ lead a true 100 a.types ((assemblies_named a).0 listed.formed).classes path)

  value_is : (at : scope.Scope) (path : List TypeId) → value_size s at path ≡ type_size (declared_in a.types at path)
  value_is scope.TheVariants.Here path = class_sized s (class_at s path) ∙ (ap sized (leads path) ∙ sym (type_sized (type_at a.types path)))
  value_is (scope.TheVariants.Extern k) path = refl

  step_is : (l : SigType-F (Option ℕ) (Option ℕ)) → read.size_step (value_size s) l ≡ tree.size_step a l
  step_is (Prim x) = refl
  step_is (Value t) = value_is t.scope t.path
  step_is (Mod required by of) = refl
  step_is (Class t) = refl
  step_is (Inst v t args) = refl
  step_is (Var k) = refl
  step_is (MVar k) = refl
  step_is (SzArray of) = refl
  step_is (Array of rank sizes lower) = refl
  step_is (ByRef of) = refl
  step_is (Pointer of) = refl
  step_is (Pinned of) = refl

  size_is : (t : SigType) → data_size s t ≡ size_in_data a t
  size_is t = ap (λ step. fold-SigType (Option ℕ) (Option ℕ) no_size step t) (λ i l. step_is l i)

pub sizes_are_known : PathsLead → PlacesAreRead → SizesAreKnown
sizes_are_known lead placed = record {
  leads = λ s a listed path. leads lead placed s a listed path;
  sizes = λ s a listed t. size_is lead placed s a listed t;
}
