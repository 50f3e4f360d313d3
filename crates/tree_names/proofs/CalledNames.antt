-- The names in a called part are what the names in the part are called.
use Rattle.std.proofs.Common.{◌≡◌, ◌∙◌, ap, sym, refl, List, [], ◌∷◌, ◌++◌, map, Option, None, Some}
use Rattle.std.specs.Prelude.{option_map}
use Rattle.std.specs.List.{flat_map}
use Rattle.std.proofs.lemmas.List.{map-append}
use Rattle.type_terms.specs.declared.name.TypeName.{TypeName}
use Rattle.type_terms.specs.declared.reference.FieldRef.{FieldRef}
use Rattle.type_terms.specs.declared.reference.MethodRef.{MethodRef}
use Rattle.type_terms.specs.declared.reference.MethodSig.{MethodSig}
use Rattle.type_terms.specs.declared.term.Owner.{Owner}
use Rattle.type_terms.specs.declared.term.SigType.{SigType}
use Rattle.type_terms.specs.declared.term.Owner.TheOpen.{Owner-F, SigType-F, Name, Spec, Prim, Class, Value, Inst, Var, MVar, SzArray, Array, ByRef, Pointer, Mod, Pinned}
use Rattle.type_terms.specs.declared.term.Owner.{map-Owner}
use Rattle.type_terms.specs.declared.term.SigType.{map-SigType}
use Rattle.assembly_tree.specs.declared.assembly.Manifest.{Manifest}
use Rattle.assembly_tree.specs.declared.body.Body.{Body}
use Rattle.assembly_tree.specs.declared.body.Clause.{Clause}
use Rattle.assembly_tree.specs.declared.body.ClauseKind.{ClauseKind}
use Rattle.assembly_tree.specs.declared.body.ClauseKind.TheVariants as kind
use Rattle.assembly_tree.specs.declared.body.Ins.{Ins}
use Rattle.assembly_tree.specs.declared.body.Operand.{Operand}
use Rattle.assembly_tree.specs.declared.body.Operand.TheVariants as operand
use Rattle.assembly_tree.specs.declared.members.Attribute.{Attribute}
use Rattle.assembly_tree.specs.declared.members.Event.{Event}
use Rattle.assembly_tree.specs.declared.members.Field.{Field}
use Rattle.assembly_tree.specs.declared.members.Generic.{Generic}
use Rattle.assembly_tree.specs.declared.members.Method.{Method}
use Rattle.assembly_tree.specs.declared.members.Param.{Param}
use Rattle.assembly_tree.specs.declared.members.Property.{Property}
use Rattle.tree_names.specs.Called.{Call, called_attribute, called_body, called_clause, called_event, called_field, called_field_ref, called_generic, called_handled, called_instruction, called_manifest, called_method, called_method_ref, called_operand, called_owner, called_param, called_property, called_signature, called_type}
use Rattle.tree_names.specs.Laws.{NamesOfTypes, NamesOfOwners, NamesOfFields, NamesOfMethods, NamesOfManifests}
use Rattle.tree_names.specs.Named.{Names, optional, owner_step, type_step, names_in_attribute, names_in_body, names_in_clause, names_in_event, names_in_field, names_in_field_ref, names_in_generic, names_in_handled, names_in_instruction, names_in_manifest, names_in_method, names_in_method_ref, names_in_operand, names_in_owner, names_in_param, names_in_property, names_in_signature, names_in_type}
use Rattle.tree_names.proofs.Fusion.{renamed_owner, renamed_type, fused, owner_fused, fold_called, fold_called_owner}

-- ---- types

flat_called : (f : Call) (xs : List Names) → map f (flat_map (λ (a : Names). a) xs) ≡ flat_map (λ (a : Names). a) (map (map f) xs)
flat_called f [] = refl
flat_called f (x ∷ xs) = map-append f x (flat_map (λ (a : Names). a) xs) ∙ ap (λ ns. map f x ++ ns) (flat_called f xs)

owner_made : (f : Call) (l : Owner-F Names Names) → map f (owner_step l) ≡ owner_step (renamed_owner f (map-Owner Names Names Names Names (map f) (map f) l))
owner_made f (Name n) = refl
owner_made f (Spec of) = refl

type_made : (f : Call) (l : SigType-F Names Names) → map f (type_step l) ≡ type_step (renamed_type f (map-SigType Names Names Names Names (map f) (map f) l))
type_made f (Prim p) = refl
type_made f (Class n) = refl
type_made f (Value n) = refl
type_made f (Inst v n args) = ap (λ ns. f n ∷ ns) (flat_called f args)
type_made f (Var n) = refl
type_made f (MVar n) = refl
type_made f (SzArray of) = refl
type_made f (Array of rank sizes lower) = refl
type_made f (ByRef of) = refl
type_made f (Pointer of) = refl
type_made f (Mod required by of) = map-append f by of
type_made f (Pinned of) = refl

pub names_of_types : NamesOfTypes
names_of_types f t =
    fold_called Names Names owner_step type_step f t
    ∙ sym (fused Names Names Names Names owner_step type_step (λ l. owner_step (renamed_owner f l)) (λ l. type_step (renamed_type f l)) (map f) (map f) (owner_made f) (type_made f) t)

pub names_of_owners : NamesOfOwners
names_of_owners f o =
    fold_called_owner Names Names owner_step type_step f o
    ∙ sym (owner_fused Names Names Names Names owner_step type_step (λ l. owner_step (renamed_owner f l)) (λ l. type_step (renamed_type f l)) (map f) (map f) (owner_made f) (type_made f) o)

-- ---- lists, what may be there, and one list behind another

both : (f : Call) (a b : Names) {x y : Names} → x ≡ map f a → y ≡ map f b → x ++ y ≡ map f (a ++ b)
both f a b p q = (λ i. p i ++ q i) ∙ sym (map-append f a b)

pub all : {X : Type 0} (f : Call) (names : X → Names) (call : X → X) → ((x : X) → names (call x) ≡ map f (names x)) → (xs : List X)
    → flat_map names (map call xs) ≡ map f (flat_map names xs)
all f names call h [] = refl
all f names call h (x ∷ xs) = both f _ _ (h x) (all f names call h xs)

pub may : {X : Type 0} (f : Call) (names : X → Names) (call : X → X) → ((x : X) → names (call x) ≡ map f (names x)) → (o : Option X)
    → optional names (option_map call o) ≡ map f (optional names o)
may f names call h None = refl
may f names call h (Some x) = h x

module _ (f : Call) where
  types : (ts : List SigType) → flat_map names_in_type (map (called_type f) ts) ≡ map f (flat_map names_in_type ts)
  types = all f names_in_type (called_type f) (names_of_types f)

  signatures : (s : MethodSig) → names_in_signature (called_signature f s) ≡ map f (names_in_signature s)
  unfolding names_in_signature called_signature
  signatures s = both f _ _ (names_of_types f s.ret) (types s.params)

  method_refs : (r : MethodRef) → names_in_method_ref (called_method_ref f r) ≡ map f (names_in_method_ref r)
  unfolding names_in_method_ref called_method_ref
  method_refs r =
      both f _ _ (both f _ _ (names_of_owners f r.owner) (signatures r.sig)) (may f (λ ts. flat_map names_in_type ts) (map (called_type f)) types r.args)

  field_refs : (r : FieldRef) → names_in_field_ref (called_field_ref f r) ≡ map f (names_in_field_ref r)
  unfolding names_in_field_ref called_field_ref
  field_refs r = both f _ _ (names_of_owners f r.owner) (names_of_types f r.of)

  attributes : (a : Attribute) → names_in_attribute (called_attribute f a) ≡ map f (names_in_attribute a)
  unfolding names_in_attribute called_attribute
  attributes a = method_refs a.constructor

  lists : (xs : List Attribute) → flat_map names_in_attribute (map (called_attribute f) xs) ≡ map f (flat_map names_in_attribute xs)
  lists = all f names_in_attribute (called_attribute f) attributes

  generics : (g : Generic) → names_in_generic (called_generic f g) ≡ map f (names_in_generic g)
  unfolding names_in_generic called_generic
  generics g = both f _ _ (all f names_in_owner (called_owner f) (names_of_owners f) g.bounds) (lists g.attributes)

  fields : (x : Field) → names_in_field (called_field f x) ≡ map f (names_in_field x)
  unfolding names_in_field called_field
  fields x = both f _ _ (names_of_types f x.of) (lists x.attributes)

  properties : (p : Property) → names_in_property (called_property f p) ≡ map f (names_in_property p)
  unfolding names_in_property called_property
  properties p = both f _ _ (signatures p.sig) (lists p.attributes)

  events : (e : Event) → names_in_event (called_event f e) ≡ map f (names_in_event e)
  unfolding names_in_event called_event
  events e = both f _ _ (names_of_owners f e.of) (lists e.attributes)

  params : (p : Param) → names_in_param (called_param f p) ≡ map f (names_in_param p)
  unfolding names_in_param called_param
  params p = lists p.attributes

  operands : (o : Operand) → names_in_operand (called_operand f o) ≡ map f (names_in_operand o)
  unfolding names_in_operand called_operand
  operands (operand.Method m) = method_refs m
  operands (operand.Field r) = field_refs r
  operands (operand.Of o) = names_of_owners f o
  operands operand.Nothing = refl
  operands (operand.Var n) = refl
  operands (operand.Int n) = refl
  operands (operand.Real bits) = refl
  operands (operand.Target at) = refl
  operands (operand.Targets at) = refl
  operands (operand.Text units) = refl

  instructions : (i : Ins) → names_in_instruction (called_instruction f i) ≡ map f (names_in_instruction i)
  unfolding names_in_instruction called_instruction
  instructions i = operands i.operand

  handled : (k : ClauseKind) → names_in_handled (called_handled f k) ≡ map f (names_in_handled k)
  unfolding names_in_handled called_handled
  handled (kind.Catch o) = names_of_owners f o
  handled (kind.Filter at) = refl
  handled kind.Finally = refl
  handled kind.Fault = refl

  clauses : (c : Clause) → names_in_clause (called_clause f c) ≡ map f (names_in_clause c)
  unfolding names_in_clause called_clause
  clauses c = handled c.kind

  bodies : (b : Body) → names_in_body (called_body f b) ≡ map f (names_in_body b)
  unfolding names_in_body called_body
  bodies b =
      both f _ _ (both f _ _ (types b.locals) (all f names_in_instruction (called_instruction f) instructions b.code))
      (all f names_in_clause (called_clause f) clauses b.clauses)

  methods : (m : Method) → names_in_method (called_method f m) ≡ map f (names_in_method m)
  unfolding names_in_method called_method
  methods m =
      both f _ _ (both f _ _ (both f _ _ (both f _ _ (both f _ _ (signatures m.sig) (all f names_in_generic (called_generic f) generics m.generics))
      (all f names_in_param (called_param f) params m.params)) (all f names_in_method_ref (called_method_ref f) method_refs m.overrides))
      (may f names_in_body (called_body f) bodies m.body)) (lists m.attributes)

  manifests : (m : Manifest) → names_in_manifest (called_manifest f m) ≡ map f (names_in_manifest m)
  unfolding names_in_manifest called_manifest
  manifests m = both f _ _ (lists m.attributes) (lists m.module_attributes)

pub names_of_attributes : (f : Call) (a : Attribute) → names_in_attribute (called_attribute f a) ≡ map f (names_in_attribute a)
names_of_attributes f a = attributes f a

pub names_of_generics : (f : Call) (g : Generic) → names_in_generic (called_generic f g) ≡ map f (names_in_generic g)
names_of_generics f g = generics f g

pub names_of_properties : (f : Call) (p : Property) → names_in_property (called_property f p) ≡ map f (names_in_property p)
names_of_properties f p = properties f p

pub names_of_events : (f : Call) (e : Event) → names_in_event (called_event f e) ≡ map f (names_in_event e)
names_of_events f e = events f e

pub names_of_fields : NamesOfFields
names_of_fields f x = fields f x

pub names_of_methods : NamesOfMethods
names_of_methods f m = methods f m

pub names_of_manifests : NamesOfManifests
names_of_manifests f m = manifests f m
