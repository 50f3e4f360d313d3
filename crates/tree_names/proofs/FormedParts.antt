-- Called members meet their conditions.
use Rattle.std.proofs.Common.{◌≡◌, ◌∙◌, ap, sym, refl, ℕ, ◌==◌, ◌&&◌, ◌||◌, Bool, true, not, List, [], ◌∷◌, map, length, nat_lt, nat_le, is_none, Option, None, Some, IsTrue, arith}
use Rattle.std.specs.Prelude.{option_map}
use Rattle.std.specs.List.{list_all}
use Rattle.std.proofs.lemmas.Bool.{and_parts}
use Rattle.std.proofs.lemmas.List.{length-map}
use Rattle.type_terms.specs.declared.reference.FieldRef.{FieldRef}
use Rattle.type_terms.specs.declared.reference.MethodRef.{MethodRef}
use Rattle.type_terms.specs.declared.reference.MethodSig.{MethodSig}
use Rattle.type_terms.specs.declared.term.SigType.{SigType}
use Rattle.assembly_tree.proofs.FormedFacts.{bodies_named, events_named, field_refs_named, fields_named, heads_named, method_refs_named, methods_named, properties_named, signatures_named, types_named}
use Rattle.assembly_tree.specs.DataSize.{size_in_data}
use Rattle.assembly_tree.specs.WellFormed.{are_cor_flags, is_file_alignment, is_image_base, is_manifest}
use Rattle.assembly_tree.specs.WellFormedBodies.{is_body, is_clause, is_handled, is_instruction, is_operand}
use Rattle.assembly_tree.specs.WellFormedMembers.{are_params, is_attribute, is_clear, is_constant, is_content, is_event, is_field, is_generic, is_method, is_param, is_param_before, is_property}
use Rattle.assembly_tree.specs.WellFormedNames.{before_first, has_no_zero, is_name, option_all, rises}
use Rattle.assembly_tree.specs.WellFormedTerms.{are_arguments, is_count, is_declaration, is_field_ref, is_method_ref, is_owner, is_plain_ref, is_property_signature, is_sentinel_inside, is_signature, is_type}
use Rattle.assembly_tree.specs.WellFormedTypes.{has_accessors_of_event, has_accessors_of_property, is_base, is_head, is_own, members_differ}
use Rattle.assembly_tree.specs.declared.assembly.Assembly.{Assembly}
use Rattle.assembly_tree.specs.declared.assembly.Manifest.{Manifest}
use Rattle.assembly_tree.specs.declared.body.Body.{Body}
use Rattle.assembly_tree.specs.declared.body.Clause.{Clause}
use Rattle.assembly_tree.specs.declared.body.ClauseKind as handles
use Rattle.assembly_tree.specs.declared.body.Ins.{Ins}
use Rattle.assembly_tree.specs.declared.body.Operand as operand
use Rattle.assembly_tree.specs.declared.members.Attribute.{Attribute}
use Rattle.assembly_tree.specs.declared.members.Event.{Event}
use Rattle.assembly_tree.specs.declared.members.Field.{Field}
use Rattle.assembly_tree.specs.declared.members.Generic.{Generic}
use Rattle.assembly_tree.specs.declared.members.Method.{Method}
use Rattle.assembly_tree.specs.declared.members.Param.{Param}
use Rattle.assembly_tree.specs.declared.members.Property.{Property}
use Rattle.tree_names.specs.Called.{Call, called_attribute, called_body, called_clause, called_event, called_field, called_field_ref, called_generic, called_handled, called_instruction, called_manifest, called_method, called_method_ref, called_operand, called_owner, called_param, called_property, called_signature, called_type}
use Rattle.tree_names.specs.Laws.{Carries, FormedFields, FormedMethods, FormedManifests}
use Rattle.tree_names.proofs.CalledBodies.{branches_called, clause_called, instruction_called}
use Rattle.tree_names.proofs.FormedTerms.{all_called, may_called, owner_called, type_called}
use Rattle.tree_names.proofs.Interfaces.{and_from}

arguments : (call : SigType → SigType) (n : ℕ) (args : Option (List SigType)) → are_arguments n (option_map (map call) args) ≡ are_arguments n args
arguments call n None = refl
arguments call n (Some ts) = ap (λ k. nat_lt 0 k && (k == n)) (length-map ts call)

no_arguments : (call : List SigType → List SigType) (args : Option (List SigType)) → is_none (option_map call args) ≡ is_none args
no_arguments call None = refl
no_arguments call (Some ts) = refl

sentinel : (n m : ℕ) (s : Option ℕ) → m ≡ n → option_all (λ k. nat_lt k m) s ≡ option_all (λ k. nat_lt k n) s
sentinel n m s e = ap (λ l. option_all (λ k. nat_lt k l) s) e

content : (a c : Assembly) (t u : SigType) (bytes : Option (List ℕ)) → ((n : ℕ) → size_in_data a t ≡ Some n → size_in_data c u ≡ Some n)
    → is_content (size_in_data a t) bytes ≡ true → is_content (size_in_data c u) bytes ≡ true
content a c t u bytes sizes h = go (size_in_data a t) bytes refl h
  where
    go : (o : Option ℕ) (b : Option (List ℕ)) → size_in_data a t ≡ o → is_content o b ≡ true → is_content (size_in_data c u) b ≡ true
    go o None e k = refl
    go None (Some bs) e k = absurd cc
    go (Some n) (Some bs) e k = ap (λ o. is_content o (Some bs)) (sizes n e) ∙ k

param_parts : (n z r k x y : Bool) → IsTrue (n && z && r && k && x) → (IsTrue x → IsTrue y) → IsTrue (n && z && r && k && y)
param_parts n z r k x y h g =
    let p : IsTrue x = grind arith in
    let q : IsTrue y = g p in
    grind arith

manifest_parts : (n u m b l r x y v w : Bool) → IsTrue (n && u && m && b && l && r && x && y) → (IsTrue x → IsTrue v) → (IsTrue y → IsTrue w)
    → IsTrue (n && u && m && b && l && r && v && w)
manifest_parts n u m b l r x y v w h g k =
    let p : IsTrue x = grind arith in
    let q : IsTrue y = grind arith in
    let s : IsTrue v = g p in
    let t : IsTrue w = k q in
    grind arith

module _ (f : Call) (a c : Assembly) (carries : Carries f a c) where
  types : (t : SigType) → is_type a t ≡ true → is_type c (called_type f t) ≡ true
  types = type_called f a c carries

  type_lists : (ts : List SigType) → list_all (is_type a) ts ≡ true → list_all (is_type c) (map (called_type f) ts) ≡ true
  type_lists = all_called (is_type a) (is_type c) (called_type f) types

  signatures : (s : MethodSig) → is_signature a s ≡ true → is_signature c (called_signature f s) ≡ true
  unfolding called_signature
  signatures s h =
      let r = (signatures_named a s).0 h in
      (signatures_named c (called_signature f s)).1 (record {
        generic = r.generic;
        count = ap is_count (length-map s.params (called_type f)) ∙ r.count;
        explicit = r.explicit;
        sentinel = sentinel (length s.params) (length (map (called_type f) s.params)) s.sentinel (length-map s.params (called_type f)) ∙ r.sentinel;
        ret = types s.ret r.ret;
        params = type_lists s.params r.params;
      })

  method_refs : (r : MethodRef) → is_method_ref a r ≡ true → is_method_ref c (called_method_ref f r) ≡ true
  unfolding called_method_ref called_signature
  method_refs x h =
      let r = (method_refs_named a x).0 h in
      (method_refs_named c (called_method_ref f x)).1 (record {
        name = r.name;
        arguments = arguments (called_type f) x.sig.generic x.args ∙ r.arguments;
        owner = owner_called f a c carries x.owner r.owner;
        sig = signatures x.sig r.sig;
        args = may_called (list_all (is_type a)) (list_all (is_type c)) (map (called_type f)) type_lists x.args r.args;
      })

  plain_refs : (r : MethodRef) → is_plain_ref a r ≡ true → is_plain_ref c (called_method_ref f r) ≡ true
  unfolding is_plain_ref called_method_ref
  plain_refs x h =
      let hs = and_parts (is_none x.args) (is_method_ref a x) h in
      and_from (is_none (option_map (map (called_type f)) x.args)) (is_method_ref c (called_method_ref f x))
      (no_arguments (map (called_type f)) x.args ∙ hs.0) (method_refs x hs.1)

  field_refs : (r : FieldRef) → is_field_ref a r ≡ true → is_field_ref c (called_field_ref f r) ≡ true
  unfolding called_field_ref
  field_refs x h =
      let r = (field_refs_named a x).0 h in
      (field_refs_named c (called_field_ref f x)).1 (record { name = r.name; owner = owner_called f a c carries x.owner r.owner; of = types x.of r.of })

  attribute : (x : Attribute) → is_attribute a x ≡ true → is_attribute c (called_attribute f x) ≡ true
  unfolding is_attribute called_attribute
  attribute x h = plain_refs x.constructor h

  pub attributes : (xs : List Attribute) → list_all (is_attribute a) xs ≡ true → list_all (is_attribute c) (map (called_attribute f) xs) ≡ true
  attributes = all_called (is_attribute a) (is_attribute c) (called_attribute f) attribute

  generic : (g : Generic) → is_generic a g ≡ true → is_generic c (called_generic f g) ≡ true
  unfolding is_generic called_generic
  generic g h =
      let hs = and_parts (is_name g.name && list_all (is_owner a) g.bounds) (list_all (is_attribute a) g.attributes) h in
      let ks = and_parts (is_name g.name) (list_all (is_owner a) g.bounds) hs.0 in
      and_from (is_name g.name && list_all (is_owner c) (map (called_owner f) g.bounds)) (list_all (is_attribute c) (map (called_attribute f) g.attributes))
      (and_from (is_name g.name) (list_all (is_owner c) (map (called_owner f) g.bounds)) ks.0
      (all_called (is_owner a) (is_owner c) (called_owner f) (owner_called f a c carries) g.bounds ks.1)) (attributes g.attributes hs.1)

  pub generics : (gs : List Generic) → list_all (is_generic a) gs ≡ true → list_all (is_generic c) (map (called_generic f) gs) ≡ true
  generics = all_called (is_generic a) (is_generic c) (called_generic f) generic

  pub field : (x : Field) → is_field a x ≡ true → is_field c (called_field f x) ≡ true
  unfolding called_field
  field x h =
      let r = (fields_named a x).0 h in
      (fields_named c (called_field f x)).1 (record {
        name = r.name;
        flags = r.flags;
        of = types x.of r.of;
        constant = r.constant;
        content = content a c x.of (called_type f x.of) x.content (carries.sizes x.of) r.content;
        attributes = attributes x.attributes r.attributes;
      })

  -- ---- bodies

  operands : (o : operand.Operand) → is_operand a o ≡ true → is_operand c (called_operand f o) ≡ true
  unfolding called_operand
  operands (operand.TheVariants.Method m) h = method_refs m h
  operands (operand.TheVariants.Field r) h = field_refs r h
  operands (operand.TheVariants.Of o) h = owner_called f a c carries o h
  operands operand.TheVariants.Nothing h = refl
  operands (operand.TheVariants.Var n) h = refl
  operands (operand.TheVariants.Int n) h = refl
  operands (operand.TheVariants.Real bits) h = refl
  operands (operand.TheVariants.Target at) h = refl
  operands (operand.TheVariants.Targets at) h = refl
  operands (operand.TheVariants.Text units) h = refl

  operand_in : (i : Ins) → is_operand a i.operand ≡ true → is_operand c (called_instruction f i).operand ≡ true
  unfolding called_instruction
  operand_in i h = operands i.operand h

  handled : (k : handles.ClauseKind) → is_handled a k ≡ true → is_handled c (called_handled f k) ≡ true
  unfolding called_handled
  handled (handles.TheVariants.Catch o) h = owner_called f a c carries o h
  handled (handles.TheVariants.Filter at) h = refl
  handled handles.TheVariants.Finally h = refl
  handled handles.TheVariants.Fault h = refl

  handled_in : (x : Clause) → is_handled a x.kind ≡ true → is_handled c (called_clause f x).kind ≡ true
  unfolding called_clause
  handled_in x h = handled x.kind h

  instructions : (n m : ℕ) (xs : List Ins) → m ≡ n → list_all (is_instruction n) xs ≡ true → list_all (is_instruction m) (map (called_instruction f) xs) ≡ true
  instructions n m xs e h =
      ap (λ k. list_all (is_instruction k) (map (called_instruction f) xs)) e
      ∙ all_called (is_instruction n) (is_instruction n) (called_instruction f) (λ i k. instruction_called f n i ∙ k) xs h

  ranges : (n m : ℕ) (xs : List Clause) → m ≡ n → list_all (is_clause n) xs ≡ true → list_all (is_clause m) (map (called_clause f) xs) ≡ true
  ranges n m xs e h =
      ap (λ k. list_all (is_clause k) (map (called_clause f) xs)) e
      ∙ all_called (is_clause n) (is_clause n) (called_clause f) (λ x k. clause_called f n x ∙ k) xs h

  body : (b : Body) → is_body a b ≡ true → is_body c (called_body f b) ≡ true
  unfolding called_body
  body b h =
      let r = (bodies_named a b).0 h in
      let long = length-map b.code (called_instruction f) in
      (bodies_named c (called_body f b)).1 (record {
        some_code = ap (nat_lt 0) long ∙ r.some_code;
        local_count = ap is_count (length-map b.locals (called_type f)) ∙ r.local_count;
        clause_count = ap is_count (length-map b.clauses (called_clause f)) ∙ r.clause_count;
        instructions = instructions (length b.code) (length (map (called_instruction f) b.code)) b.code long r.instructions;
        ranges = ranges (length b.code) (length (map (called_instruction f) b.code)) b.clauses long r.ranges;
        short_branches = branches_called f b.code ∙ r.short_branches;
        locals = type_lists b.locals r.locals;
        operands = all_called (λ (i : Ins). is_operand a i.operand) (λ (i : Ins). is_operand c i.operand) (called_instruction f) operand_in b.code r.operands;
        catches = all_called (λ (x : Clause). is_handled a x.kind) (λ (x : Clause). is_handled c x.kind) (called_clause f) handled_in b.clauses r.catches;
      })

  -- ---- methods

  param : (p : Param) → is_param a p ≡ true → is_param c (called_param f p) ≡ true
  unfolding is_param called_param
  param p h = param_parts (has_no_zero p.name) (not (p.number == 0) || (length p.name == 0)) (is_clear 0x1000 p.flags) (option_all is_constant p.constant)
      (list_all (is_attribute a) p.attributes) (list_all (is_attribute c) (map (called_attribute f) p.attributes)) h (attributes p.attributes)

  params_before : (ps : List Param) → rises is_param_before ps ≡ true → rises is_param_before (map (called_param f) ps) ≡ true
  unfolding called_param
  params_before [] h = refl
  params_before (p ∷ []) h = refl
  params_before (p ∷ q ∷ more) h =
      let hs = and_parts (is_param_before p q) (rises is_param_before (q ∷ more)) h in
      and_from (is_param_before p q) (rises is_param_before (map (called_param f) (q ∷ more))) hs.0 (params_before (q ∷ more) hs.1)

  params_within : (n : ℕ) (ps : List Param) → list_all (λ p. nat_le p.number n) ps ≡ true → list_all (λ p. nat_le p.number n) (map (called_param f) ps) ≡ true
  unfolding called_param
  params_within n = all_called (λ (p : Param). nat_le p.number n) (λ (p : Param). nat_le p.number n) (called_param f) (λ p h. h)

  numbers : (n m : ℕ) (ps : List Param) → m ≡ n → are_params n ps ≡ true → are_params m (map (called_param f) ps) ≡ true
  numbers n m ps e h =
      let hs = and_parts (rises is_param_before ps) (list_all (λ p. nat_le p.number n) ps) h in
      ap (λ k. are_params k (map (called_param f) ps)) e
      ∙ and_from (rises is_param_before (map (called_param f) ps)) (list_all (λ p. nat_le p.number n) (map (called_param f) ps)) (params_before ps hs.0) (params_within n ps hs.1)

  declared : (n m : ℕ) (s : MethodSig) → m ≡ n → is_declaration n s ≡ true → is_declaration m (called_signature f s) ≡ true
  unfolding called_signature
  declared n m s e h = ap (λ k. is_none s.sentinel && (s.generic == k)) e ∙ h

  params_long : (s : MethodSig) → length (called_signature f s).params ≡ length s.params
  unfolding called_signature
  params_long s = length-map s.params (called_type f)

  pub method : (m : Method) → is_method a m ≡ true → is_method c (called_method f m) ≡ true
  unfolding called_method
  method m h =
      let r = (methods_named a m).0 h in
      (methods_named c (called_method f m)).1 (record {
        name = r.name;
        impl_flags = r.impl_flags;
        declaration = declared (length m.generics) (length (map (called_generic f) m.generics)) m.sig (length-map m.generics (called_generic f)) r.declaration;
        sig = signatures m.sig r.sig;
        numbers = numbers (length m.sig.params) (length (called_signature f m.sig).params) m.params (params_long m.sig) r.numbers;
        generics = generics m.generics r.generics;
        params = all_called (is_param a) (is_param c) (called_param f) param m.params r.params;
        overrides = all_called (is_plain_ref a) (is_plain_ref c) (called_method_ref f) plain_refs m.overrides r.overrides;
        body = may_called (is_body a) (is_body c) (called_body f) body m.body r.body;
        attributes = attributes m.attributes r.attributes;
      })

  -- ---- properties, events and the manifest

  property_sig : (s : MethodSig) → is_property_signature s ≡ true → is_property_signature (called_signature f s) ≡ true
  unfolding called_signature
  property_sig s h = h

  pub property : (p : Property) → is_property a p ≡ true → is_property c (called_property f p) ≡ true
  unfolding called_property
  property p h =
      let r = (properties_named a p).0 h in
      (properties_named c (called_property f p)).1 (record {
        name = r.name;
        flags = r.flags;
        declaration = property_sig p.sig r.declaration;
        sig = signatures p.sig r.sig;
        constant = r.constant;
        accessors = r.accessors;
        attributes = attributes p.attributes r.attributes;
      })

  pub event : (e : Event) → is_event a e ≡ true → is_event c (called_event f e) ≡ true
  unfolding called_event
  event e h =
      let r = (events_named a e).0 h in
      (events_named c (called_event f e)).1 (record {
        name = r.name;
        of = owner_called f a c carries e.of r.of;
        accessors = r.accessors;
        attributes = attributes e.attributes r.attributes;
      })

  pub manifest : (m : Manifest) → is_manifest a m ≡ true → is_manifest c (called_manifest f m) ≡ true
  unfolding is_manifest called_manifest
  manifest m h = manifest_parts (is_name m.name) (has_no_zero m.culture) (is_name m.module) (is_image_base m.image_base) (is_file_alignment m.file_alignment)
      (are_cor_flags m.cor_flags) (list_all (is_attribute a) m.attributes) (list_all (is_attribute a) m.module_attributes)
      (list_all (is_attribute c) (map (called_attribute f) m.attributes)) (list_all (is_attribute c) (map (called_attribute f) m.module_attributes))
      h (attributes m.attributes) (attributes m.module_attributes)

pub formed_fields : FormedFields
formed_fields f a c carries x h = field f a c carries x h

pub formed_methods : FormedMethods
formed_methods f a c carries m h = method f a c carries m h

pub formed_manifests : FormedManifests
formed_manifests f a c carries m h = manifest f a c carries m h
