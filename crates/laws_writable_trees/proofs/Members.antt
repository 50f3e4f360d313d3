-- Signatures, references and what belongs to members can be written, where names can.
use Rattle.std.proofs.Common.{◌≡◌, refl, sym, ◌∙◌, ℕ, ◌^◌, ◌≤◌, ◌==◌, ◌||◌, Bool, true, true≢false, not, nat_lt, List, length, Option, Some, None, inl, inr, arith}
use Rattle.std.specs.Prelude.{IsTrue, sum_by, is_none}
use Rattle.std.specs.List.{AllByRecursion, list_all}
use Rattle.std.proofs.lemmas.Bool.{and_parts, or_cases, not-true, ltb-true, leb-true, eqb-true}
use Rattle.assembly_tree.specs.Weight.{optional, type_weight, signature_weight, method_ref_weight, field_ref_weight, bounds_weight, attribute_weight, generic_weight}
use Rattle.assembly_tree.specs.WellFormedMembers.{is_attribute, is_generic}
use Rattle.assembly_tree.specs.WellFormedNames.{option_all, is_name, is_type_name}
use Rattle.assembly_tree.specs.WellFormedTerms.{is_type, is_owner, is_signature, is_property_signature, are_arguments, is_method_ref, is_plain_ref, is_field_ref}
use Rattle.assembly_tree.specs.declared.assembly.Assembly.{Assembly}
use Rattle.assembly_tree.specs.declared.members.Attribute.{Attribute}
use Rattle.assembly_tree.specs.declared.members.Generic.{Generic}
use Rattle.assembly_tree.proofs.FormedFacts.{signatures_named, method_refs_named, field_refs_named}
use Rattle.sig_codec.specs.Spellable.{IsSentinel}
use Rattle.type_terms.specs.declared.name.TypeName.{TypeName}
use Rattle.type_terms.specs.declared.reference.FieldRef.{FieldRef}
use Rattle.type_terms.specs.declared.reference.MethodRef.{MethodRef}
use Rattle.type_terms.specs.declared.reference.MethodSig.{MethodSig}
use Rattle.type_terms.specs.declared.term.SigType.{SigType}
use Rattle.image_tokens.specs.Texts.{HasNoZero}
use Rattle.image_tokens.specs.Writable.{CanBeNamed, IsOwnerWritable, IsMethodWritable, IsPropertyWritable, AreArgumentsWritable, IsMethodRefWritable, IsFieldRefWritable}
use Rattle.image_tokens.specs.declared.references.References.{References}
use Rattle.laws_writable_trees.proofs.Bounds.{type_bounds, signature_bounds, arguments_bounds}
use Rattle.laws_writable_trees.proofs.Each.{split_three, split_four, each_from, each_true, each_light, each_both}
use Rattle.laws_writable_trees.proofs.Names.{plain_name, some_name}
use Rattle.laws_writable_trees.proofs.Types.{type_can, owner_can, types_can, owners_can}

-- ---- parts that meet their conditions and are light

pub record IsFine {X : Type 0} (test : X → Bool) (weigh : X → ℕ) (x : X) : Type 0 where
  pub formed : IsTrue (test x)
  pub light : weigh x ≤ 2 ^ 26

pub each_fine : {X : Type 0} (test : X → Bool) (weigh : X → ℕ) (xs : List X) → IsTrue (list_all test xs) → sum_by weigh xs ≤ 2 ^ 26 → AllByRecursion (IsFine test weigh) xs
each_fine test weigh xs h k =
    each_from (λ x. IsTrue (test x) × (weigh x ≤ 2 ^ 26)) (IsFine test weigh) (λ x both. record { formed = both.0; light = both.1 }) xs
    (each_both (λ x. IsTrue (test x)) (λ x. weigh x ≤ 2 ^ 26) xs (each_true test xs h) (each_light weigh (2 ^ 26) xs k))

-- ---- signatures

explicit_is : (explicit this : Bool) → IsTrue (not explicit || this) → explicit ≡ true → this ≡ true
explicit_is explicit this h e = elim (or_cases (not explicit) this h) [
  | inl n ↦ absurd (true≢false (sym e ∙ not-true explicit n))
  | inr t ↦ t
]

sentinel_is : (sentinel : Option ℕ) (params : List SigType) → IsTrue (option_all (λ k. nat_lt k (length params)) sentinel) → IsSentinel sentinel params
sentinel_is None params h = tt
sentinel_is (Some k) params h = ltb-true k (length params) h

no_sentinel : (sentinel : Option ℕ) → IsTrue (is_none sentinel) → sentinel ≡ None
no_sentinel None h = refl
no_sentinel (Some k) h = absurd (true≢false (sym h))

module _ (a : Assembly) (r : References) (names : (name : TypeName) → IsTrue (is_type_name a name) → CanBeNamed r name) where
  pub signature_can : (s : MethodSig) → IsTrue (is_signature a s) → signature_weight s ≤ 2 ^ 26 → IsMethodWritable r s
  unfolding signature_weight
  signature_can s h k =
      let f = (signatures_named a s).0 h in
      let generic = leb-true s.generic 65535 f.generic in
      let count = leb-true (length s.params) 65535 f.count in
      record {
        explicit = explicit_is s.explicit_this s.has_this f.explicit;
        generic = omega arith;
        count = omega arith;
        ret = type_can a r names s.ret f.ret (omega arith);
        params = types_can a r names s.params f.params (omega arith);
        sentinel = sentinel_is s.sentinel s.params f.sentinel;
        in_bounds = signature_bounds a s h k;
      }

  pub property_signature_can : (s : MethodSig) → IsTrue (is_property_signature s) → IsTrue (is_signature a s) → signature_weight s ≤ 2 ^ 26 → IsPropertyWritable r s
  property_signature_can s own h k =
      let parts = split_four (is_none s.sentinel) (s.generic == 0) (not s.explicit_this) (not s.vararg) own in
      let can = signature_can s h k in
      record {
        no_explicit = not-true s.explicit_this parts.2;
        no_vararg = not-true s.vararg parts.3;
        no_generic = eqb-true s.generic 0 parts.1;
        no_sentinel = no_sentinel s.sentinel parts.0;
        count = can.count;
        ret = can.ret;
        params = can.params;
      }

  -- ---- references

  arguments_can : (generic : ℕ) (args : Option (List SigType)) → generic ≤ 65535 → IsTrue (are_arguments generic args) → IsTrue (option_all (list_all (is_type a)) args)
      → optional (λ ts. sum_by type_weight ts) args ≤ 2 ^ 26 → AreArgumentsWritable r args
  arguments_can generic None few h each k = tt
  arguments_can generic (Some ts) few h each k =
      let both = and_parts (nat_lt 0 (length ts)) (length ts == generic) h in
      let some = ltb-true 0 (length ts) both.0 in
      let same = eqb-true (length ts) generic both.1 in
      (some, omega arith, types_can a r names ts each k)

  pub method_ref_can : (m : MethodRef) → IsTrue (is_method_ref a m) → method_ref_weight m ≤ 2 ^ 26 → IsMethodRefWritable r m
  unfolding method_ref_weight
  method_ref_can m h k =
      let f = (method_refs_named a m).0 h in
      let s = (signatures_named a m.sig).0 f.sig in
      record {
        owner = owner_can a r names m.owner f.owner (omega arith);
        name = plain_name m.name f.name;
        named = some_name m.name f.name;
        sig = signature_can m.sig f.sig (omega arith);
        args = arguments_can m.sig.generic m.args (leb-true m.sig.generic 65535 s.generic) f.arguments f.args (omega arith);
        in_bounds = arguments_bounds a m.sig.generic m.args (leb-true m.sig.generic 65535 s.generic) f.arguments f.args (omega arith);
      }

  pub plain_ref_can : (m : MethodRef) → IsTrue (is_plain_ref a m) → method_ref_weight m ≤ 2 ^ 26 → IsMethodRefWritable r m
  unfolding is_plain_ref
  plain_ref_can m h k = method_ref_can m (and_parts (is_none m.args) (is_method_ref a m) h).1 k

  pub field_ref_can : (f : FieldRef) → IsTrue (is_field_ref a f) → field_ref_weight f ≤ 2 ^ 26 → IsFieldRefWritable r f
  unfolding field_ref_weight
  field_ref_can f h k =
      let parts = (field_refs_named a f).0 h in
      record {
        owner = owner_can a r names f.owner parts.owner (omega arith);
        name = plain_name f.name parts.name;
        named = some_name f.name parts.name;
        of = type_can a r names f.of parts.of (omega arith);
        in_bounds = type_bounds a f.of parts.of (omega arith);
      }

  -- ---- attributes and generic parameters

  pub attribute_can : (x : Attribute) → IsFine (is_attribute a) attribute_weight x → IsMethodRefWritable r x.constructor
  unfolding is_attribute attribute_weight
  attribute_can x h = let light = h.light in plain_ref_can x.constructor h.formed (omega arith)

  -- the bounds of a generic parameter
  pub bounds_can : (g : Generic) → IsFine (is_generic a) generic_weight g → AllByRecursion (IsOwnerWritable r) g.bounds
  unfolding is_generic generic_weight bounds_weight
  bounds_can g h =
      let parts = split_three (is_name g.name) (list_all (is_owner a) g.bounds) (list_all (is_attribute a) g.attributes) h.formed in
      let light = h.light in
      owners_can a r names g.bounds parts.1 (omega arith)

pub generic_named : (a : Assembly) (g : Generic) → IsFine (is_generic a) generic_weight g → HasNoZero g.name
unfolding is_generic
generic_named a g h = plain_name g.name (split_three (is_name g.name) (list_all (is_owner a) g.bounds) (list_all (is_attribute a) g.attributes) h.formed).0
