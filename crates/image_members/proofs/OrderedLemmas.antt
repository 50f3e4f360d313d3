-- What is declared, with one type more.
use Rattle.std.proofs.Common.{◌≡◌, ◌∙◌, ap, sym, List, [], ◌∷◌, ◌++◌}
use Rattle.std.specs.List.{flat_map}
use Rattle.std.proofs.lemmas.Grind.{flat_map-append}
use Rattle.std.proofs.lemmas.List.{append-nil, append_assoc, map-append}
use Rattle.assembly_tree.specs.declared.assembly.Assembly.{Assembly}
use Rattle.assembly_tree.specs.declared.members.Field.{Field}
use Rattle.assembly_tree.specs.declared.members.Method.{Method}
use Rattle.image_members.specs.DeclaredMembers.{class_fields, class_methods}
use Rattle.image_members.specs.Ordered.{AddsMembers, IsOrdered}
use Rattle.image_members.specs.Places.{type_of, all_methods, class_events, class_properties, params_of}
use Rattle.image_members.specs.declared.classes.Class.{Class}
use Rattle.image_members.specs.declared.order.Ordered.{Ordered}

one_more : {X : Type 0} (f : Class → List X) (cs : List Class) (c : Class) → flat_map f cs ++ f c ≡ flat_map f (cs ++ c ∷ [])
one_more f cs c = sym (flat_map-append f cs (c ∷ []) ∙ ap (λ ys. flat_map f cs ++ ys) (append-nil (f c)))

methods_more : (a : Assembly) (cs : List Class) (c : Class) → all_methods a cs ++ class_methods c ≡ all_methods a (cs ++ c ∷ [])
methods_more a cs c = append_assoc a.methods (flat_map class_methods cs) (class_methods c) ∙ ap (λ (ms : List Method). a.methods ++ ms) (one_more class_methods cs c)

pub ordered_more : (a : Assembly) (cs : List Class) (c : Class) (old new : Ordered) → IsOrdered a cs old → AddsMembers c.of.now old new → IsOrdered a (cs ++ c ∷ []) new
ordered_more a cs c old new o m = record {
  types = m.types ∙ ap (λ ts. ts ++ c.of.now ∷ []) o.types ∙ sym (map-append type_of cs (c ∷ []));
  fields = m.fields ∙ ap (λ fs. fs ++ class_fields c) o.fields ∙ append_assoc a.fields (flat_map class_fields cs) (class_fields c)
      ∙ ap (λ (fs : List Field). a.fields ++ fs) (one_more class_fields cs c);
  methods = m.methods ∙ ap (λ ms. ms ++ class_methods c) o.methods ∙ methods_more a cs c;
  params = m.params ∙ ap (λ ps. ps ++ flat_map params_of (class_methods c)) o.params ∙ sym (flat_map-append params_of (all_methods a cs) (class_methods c))
      ∙ ap (flat_map params_of) (methods_more a cs c);
  properties = m.properties ∙ ap (λ ps. ps ++ class_properties c) o.properties ∙ one_more class_properties cs c;
  events = m.events ∙ ap (λ es. es ++ class_events c) o.events ∙ one_more class_events cs c;
}
