-- The signatures of members that meet their conditions are in a reader's bounds.
use Rattle.std.proofs.Common.{◌≡◌, refl, sym, ℕ, ◌^◌, ◌≤◌, ◌==◌, true≢false, length, Option, Some, None, arith}
use Rattle.std.specs.Prelude.{IsTrue, is_none}
use Rattle.std.proofs.lemmas.Bool.{and_parts, leb-true, eqb-true}
use Rattle.std.proofs.lemmas.List.Elements.{All-from_recursion}
use Rattle.assembly_tree.specs.Weight.{signature_weight, field_weight, method_weight, property_weight}
use Rattle.assembly_tree.specs.WellFormedMembers.{is_field, is_method, is_property}
use Rattle.assembly_tree.specs.WellFormedTerms.{is_type, is_signature}
use Rattle.assembly_tree.specs.declared.assembly.Assembly.{Assembly}
use Rattle.assembly_tree.specs.declared.members.Field.{Field}
use Rattle.assembly_tree.specs.declared.members.Method.{Method}
use Rattle.assembly_tree.specs.declared.members.Property.{Property}
use Rattle.assembly_tree.proofs.FormedFacts.{fields_named, methods_named, properties_named, signatures_named}
use Rattle.type_terms.specs.declared.reference.MethodSig.{MethodSig}
use Rattle.image_model.specs.Terms.{HasBounds, HasRanks}
use Rattle.laws_image_parts.specs.namings.Readable.{IsTypeTaken, IsMethodTaken}
use Rattle.laws_writable_trees.proofs.Each.{each_from, each_true}
use Rattle.laws_writable_trees.proofs.Members.{IsFine}
use Rattle.laws_image_reading.proofs.members.TypeBounds.{formed_ranks, formed_depth, formed_depths, nodes_weigh, list_weighs}

pub no_sentinel : (sentinel : Option ℕ) → IsTrue (is_none sentinel) → sentinel ≡ None
no_sentinel None h = refl
no_sentinel (Some k) h = absurd (true≢false (sym h))

module _ (a : Assembly) where
  pub field_taken : (f : Field) → IsFine (is_field a) field_weight f → IsTypeTaken f.of
  unfolding field_weight
  field_taken f h =
      let light = h.light in
      let few = nodes_weigh f.of in
      (formed_depth a f.of ((fields_named a f).0 h.formed).of, omega arith)

  pub field_ranks : (f : Field) → IsFine (is_field a) field_weight f → HasRanks f.of
  field_ranks f h = formed_ranks a f.of ((fields_named a f).0 h.formed).of

  signature_taken : (s : MethodSig) → IsTrue (is_signature a s) → signature_weight s ≤ 2 ^ 26 → IsMethodTaken s
  unfolding signature_weight
  signature_taken s h k =
      let f = (signatures_named a s).0 h in
      let ret = formed_depth a s.ret f.ret in
      let params = formed_depths a s.params f.params in
      let one = nodes_weigh s.ret in
      let all = list_weighs s.params in
      (omega arith, omega arith)

  signature_bounds : (s : MethodSig) → IsTrue (is_signature a s) → HasBounds s
  signature_bounds s h =
      let f = (signatures_named a s).0 h in
      record {
        generic = leb-true s.generic 65535 f.generic;
        params = leb-true (length s.params) 65535 f.count;
        ret = formed_ranks a s.ret f.ret;
        ranks = All-from_recursion HasRanks s.params (each_from (λ t. IsTrue (is_type a t)) HasRanks (formed_ranks a) s.params (each_true (is_type a) s.params f.params));
      }

  pub method_taken : (m : Method) → IsFine (is_method a) method_weight m → IsMethodTaken m.sig
  unfolding method_weight
  method_taken m h = let light = h.light in signature_taken m.sig ((methods_named a m).0 h.formed).sig (omega arith)

  pub method_bounds : (m : Method) → IsFine (is_method a) method_weight m → HasBounds m.sig
  method_bounds m h = signature_bounds m.sig ((methods_named a m).0 h.formed).sig

  pub method_sentinel : (m : Method) → IsFine (is_method a) method_weight m → m.sig.sentinel ≡ None
  method_sentinel m h =
      no_sentinel m.sig.sentinel (and_parts (is_none m.sig.sentinel) (m.sig.generic == length m.generics) ((methods_named a m).0 h.formed).declaration).0

  pub method_generic : (m : Method) → IsFine (is_method a) method_weight m → m.sig.generic ≡ length m.generics
  method_generic m h =
      eqb-true m.sig.generic (length m.generics) (and_parts (is_none m.sig.sentinel) (m.sig.generic == length m.generics) ((methods_named a m).0 h.formed).declaration).1

  pub property_taken : (p : Property) → IsFine (is_property a) property_weight p → IsMethodTaken p.sig
  unfolding property_weight
  property_taken p h = let light = h.light in signature_taken p.sig ((properties_named a p).0 h.formed).sig (omega arith)

  pub property_bounds : (p : Property) → IsFine (is_property a) property_weight p → HasBounds p.sig
  property_bounds p h = signature_bounds p.sig ((properties_named a p).0 h.formed).sig
