-- The numbers of parameters rise in each method of a well-formed assembly.
use Rattle.std.proofs.Common.{◌≡◌, true, List, [], ◌∷◌}
use Rattle.std.specs.Prelude.{IsTrue, nat_le, length}
use Rattle.std.specs.List.{AllByRecursion, flat_map, list_all}
use Rattle.std.proofs.lemmas.Bool.{and_parts}
use Rattle.assembly_tree.specs.WellFormed.{is_well_formed}
use Rattle.assembly_tree.specs.WellFormedFacts.{WellFormed}
use Rattle.assembly_tree.specs.WellFormedMembers.{is_method, is_param_before}
use Rattle.assembly_tree.specs.WellFormedNames.{rises}
use Rattle.assembly_tree.specs.declared.assembly.Assembly.{Assembly}
use Rattle.assembly_tree.specs.declared.members.Method.{Method}
use Rattle.assembly_tree.specs.declared.members.Param.{Param}
use Rattle.assembly_tree.specs.declared.typedef.TypeDef.TheViews.{out-TypeDef}
use Rattle.assembly_tree.proofs.FormedFacts.{assemblies_named, types_named, methods_named}
use Rattle.image_members.specs.Classes.{AreClasses}
use Rattle.image_members.specs.DeclaredMembers.{class_methods}
use Rattle.image_members.specs.Places.{all_methods}
use Rattle.image_members.specs.declared.classes.Class.{Class}
use Rattle.laws_image_parts.proofs.CellLemmas.{all_both}
use Rattle.laws_image_reading.proofs.order.Levels.{IsOwn, classes_own}

abbrev pub HasRising : Method → Type 0
HasRising m = rises is_param_before m.params ≡ true

-- what is made of each has what it asks
each_flat : {X Y : Type 0} (P : Y → Type 0) (Q : X → Type 0) (make : X → List Y) → ((x : X) → Q x → AllByRecursion P (make x)) → (xs : List X) → AllByRecursion Q xs → AllByRecursion P (flat_map make xs)
each_flat P Q make f [] h = tt
each_flat P Q make f (x ∷ xs) h = all_both P (make x) (flat_map make xs) (f x h.0) (each_flat P Q make f xs h.1)

module _ (a : Assembly) where
  method_rising : (m : Method) → IsTrue (is_method a m) → HasRising m
  method_rising m h = (and_parts (rises is_param_before m.params) (list_all (λ (p : Param). nat_le p.number (length m.sig.params)) m.params) ((methods_named a m).0 h).numbers).0

  methods_rising : (ms : List Method) → IsTrue (list_all (is_method a) ms) → AllByRecursion HasRising ms
  methods_rising [] h = tt
  methods_rising (m ∷ ms) h = let both = and_parts (is_method a m) (list_all (is_method a) ms) h in (method_rising m both.0, methods_rising ms both.1)

  class_rising : (c : Class) → IsOwn a c → AllByRecursion HasRising (class_methods c)
  class_rising c h = methods_rising (class_methods c) ((types_named a h.0 (out-TypeDef c.of.now)).0 h.1).methods

  pub all_rising : (classes : List Class) → AreClasses 0 2 a.types classes → is_well_formed a ≡ true → AllByRecursion HasRising (all_methods a classes)
  all_rising classes are formed =
      let whole : WellFormed a = (assemblies_named a).0 formed in
      all_both HasRising a.methods (flat_map class_methods classes) (methods_rising a.methods whole.methods)
      (each_flat HasRising (IsOwn a) class_methods class_rising classes (classes_own a are true 100 whole.classes))
