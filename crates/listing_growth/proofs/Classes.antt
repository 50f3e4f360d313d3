-- Fields in a row, and types, grow.
use Rattle.std.proofs.Common.{◌≡◌, ℕ, zero, suc, ◌+◌, ◌&&◌, nat_lt, arith, Bool, true, false, List, [], ◌∷◌, ◌++◌, map, length, Option, None, Some, refl, sym, subst, ◌∙◌}
use Rattle.std.proofs.lemmas.Bool.{and_parts, eqb-true}
use Rattle.std.specs.List.{list_all}
use Rattle.std.specs.Prelude.{option_map}
use Rattle.ilasm_grammar.specs.Ilasm.{ilasm, rule_by}
use Rattle.ilasm_grammar.specs.declared.nonterminals.TheConstants as n
use Rattle.ilasm_grammar.specs.declared.productions.TheConstants as p
use Rattle.ilasm_grammar.specs.declared.symbol.Symbol.TheVariants.{Nonterminal}
use Rattle.il_lexer.specs.declared.word.TheConstants as word
use Rattle.type_terms.specs.declared.name.TypeId.{TypeId}
use Rattle.type_terms.specs.declared.term.Owner.{Owner}
use Rattle.assembly_tree.specs.WellFormedMembers.{is_attribute, is_generic, is_field, is_method, is_property, is_event}
use Rattle.assembly_tree.specs.WellFormedNames.{option_all}
use Rattle.assembly_tree.specs.WellFormedTerms.{is_owner}
use Rattle.assembly_tree.specs.WellFormedTypes.{is_own, are_types}
use Rattle.assembly_tree.specs.declared.assembly.Assembly.{Assembly}
use Rattle.assembly_tree.specs.declared.assembly.ExternAssembly.{ExternAssembly}
use Rattle.assembly_tree.specs.declared.members.Attribute.{Attribute}
use Rattle.assembly_tree.specs.declared.members.Event.{Event}
use Rattle.assembly_tree.specs.declared.members.Field.{Field}
use Rattle.assembly_tree.specs.declared.members.Generic.{Generic}
use Rattle.assembly_tree.specs.declared.members.Method.{Method}
use Rattle.assembly_tree.specs.declared.members.Property.{Property}
use Rattle.assembly_tree.specs.declared.typedef.Layout.{Layout}
use Rattle.assembly_tree.specs.declared.typedef.TypeDef.{TypeDef}
use Rattle.assembly_tree.specs.declared.typedef.TypeDef.TheOpen.{TypeDef-F}
use Rattle.assembly_tree.specs.declared.typedef.TypeDef.TheFolds.{fold_out-TypeDef}
use Rattle.assembly_tree.specs.declared.typedef.TypeDef.TheViews.{out-TypeDef}
use Rattle.assembly_tree.proofs.FormedFacts.{types_named, heads_named, fields_named}
use Rattle.listing_model.specs.Classes.{ClassShown, classes_from, layout_lines, typar_member, implements, class_item, class_step, class}
use Rattle.listing_model.specs.Grown.{head_of, body_of, Grows}
use Rattle.listing_model.specs.Members.{typar_lines, field, field_items, fields, behind_field, field_contents, property, event}
use Rattle.listing_model.specs.Methods.{method}
use Rattle.listing_model.specs.Shown.{none, item, put, branch, w}
use Rattle.listing_model.specs.Types.{owner}
use Rattle.listing_model.specs.Values.{customs}
use Rattle.listing_growth.specs.Held.{are_attributes_held, is_generic_held, is_owner_held, is_field_held, is_method_held, is_property_held, is_event_held, is_own_held, typedef_holds, is_typedef_held}
use Rattle.listing_growth.specs.Laws.{Stands}
use Rattle.listing_growth.specs.Standing.{all_owners_stand}
use Rattle.listing_growth.proofs.Accessors.{customs_stand, methods_sign, property_stands, event_stands}
use Rattle.listing_growth.proofs.Flags.{types_grow}
use Rattle.listing_growth.proofs.Formed.{both, some_length, type_may, owner_may_stand, owners_may, generics_may}
use Rattle.listing_growth.proofs.Members.{spec_commas, each_owner, typars_grow, field_item_stands}
use Rattle.listing_growth.proofs.Methods.{typar_lines_stand, method_item_stands}
use Rattle.listing_growth.proofs.Rows.{EachStands, each_append, each_both, IsOption, OptionGrows, optional_stands, IsRow, star_stands, commas_grow}
use Rattle.listing_growth.proofs.Types.{owners_stand}

-- ---- fields

-- a field with its attributes
field_stands_with : (a : Assembly) {x : ℕ} (production custom_production : ℕ) → head_of production ≡ Some x → body_of production ≡ Nonterminal n.FIELD ∷ [] →
    head_of custom_production ≡ Some x → body_of custom_production ≡ Nonterminal n.CUSTOM ∷ [] → (externs : List ExternAssembly) (k : ℕ)
    (f : Field) → is_field a f ≡ true → is_field_held f ≡ true → EachStands x (field_items externs production custom_production k f)
unfolding is_field_held
field_stands_with a production custom_production head body head2 body2 externs k f m h =
    let formed = (fields_named a f).0 m in
    let h5 = and_parts _ _ h in
    let h4 = and_parts _ _ h5.0 in
    let h3 = and_parts _ _ h4.0 in
    let h2 = and_parts _ _ h3.0 in
    let h1 = and_parts _ _ h2.0 in
    let s = field_item_stands externs k f (type_may a f.of formed.of h1.1) in (
      (head, subst (λ b. Grows b (put (field externs k f) none)) (sym body) (s.0, s.1, tt)),
      customs_stand a custom_production head2 body2 externs f.attributes formed.attributes h5.1,
    )

-- fields with their attributes, in a class or outside of any
pub fields_stand : (a : Assembly) {x : ℕ} (production custom_production : ℕ) → head_of production ≡ Some x → body_of production ≡ Nonterminal n.FIELD ∷ [] →
    head_of custom_production ≡ Some x → body_of custom_production ≡ Nonterminal n.CUSTOM ∷ [] → (externs : List ExternAssembly) (k : ℕ)
    (fs : List Field) → list_all (is_field a) fs ≡ true → list_all is_field_held fs ≡ true → EachStands x (fields externs production custom_production k fs)
fields_stand a production custom_production head body head2 body2 externs k [] m h = tt
fields_stand a {x = x} production custom_production head body head2 body2 externs k (f ∷ fs) m h =
    let ms = and_parts (is_field a f) (list_all (is_field a) fs) m in
    let hs = and_parts (is_field_held f) (list_all is_field_held fs) h in
    each_append x (field_items externs production custom_production k f) (fields externs production custom_production (behind_field k f.content) fs)
    (field_stands_with a production custom_production head body head2 body2 externs k f ms.0 hs.0)
    (fields_stand a production custom_production head body head2 body2 externs (behind_field k f.content) fs ms.1 hs.1)

-- ---- heads

extends_option : IsOption n.EXTENDS_OPT p.EXTENDS_OPT_SOME p.EXTENDS_OPT_NONE (Nonterminal n.EXTENDS ∷ [])
unfolding ilasm rule_by
extends_option = record { some_head = refl; some_body = refl; none_head = refl; none_body = refl }

implements_option : IsOption n.IMPLEMENTS_OPT p.IMPLEMENTS_OPT_SOME p.IMPLEMENTS_OPT_NONE (Nonterminal n.IMPLEMENTS ∷ [])
unfolding ilasm rule_by
implements_option = record { some_head = refl; some_body = refl; none_head = refl; none_body = refl }

member_row : IsRow n.MEMBER_STAR n.MEMBER p.MEMBER_STAR_MORE p.MEMBER_STAR_END
unfolding ilasm rule_by
member_row = record { more_head = refl; more_body = refl; end_head = refl; end_body = refl }

layout_stands : (l : Option Layout) → EachStands n.MEMBER (layout_lines l)
unfolding ilasm rule_by
layout_stands None = tt
layout_stands (Some l) = ((refl, (refl, (refl, tt))), ((refl, (refl, (refl, tt))), tt))

typar_member_stands : (k : ℕ) → Stands n.MEMBER (typar_member k)
unfolding ilasm rule_by
typar_member_stands k = (refl, (refl, (refl, (refl, (refl, (refl, (refl, tt))), tt))))

module _ (a : Assembly) (externs : List ExternAssembly) where
  extends_grow : (o : Option Owner) → option_all (is_owner a) o ≡ true → option_all is_owner_held o ≡ true →
      OptionGrows (Nonterminal n.EXTENDS ∷ []) (option_map (λ o. branch p.EXTENDS (w word.EXTENDS (put (owner externs o) none)) none) o)
  unfolding ilasm rule_by
  extends_grow None m h = tt
  extends_grow (Some o) m h = let s = owners_stand externs o (owner_may_stand a o m h) in (refl, (refl, (s.0, s.1, tt)), tt)

  implements_grow : (os : List Owner) → all_owners_stand os ≡ true → OptionGrows (Nonterminal n.IMPLEMENTS ∷ []) (implements externs os)
  unfolding ilasm rule_by
  implements_grow [] h = tt
  implements_grow (o ∷ os) h = (refl, (refl, commas_grow spec_commas (owner externs o) (map (owner externs) os) (each_owner externs (o ∷ os) h) [] none tt), tt)

  -- ---- members

  member_customs : (xs : List Attribute) → list_all (is_attribute a) xs ≡ true → are_attributes_held xs ≡ true →
      EachStands n.MEMBER (customs externs p.MEMBER_CUSTOM xs)
  unfolding ilasm rule_by
  member_customs xs = customs_stand a p.MEMBER_CUSTOM refl refl externs xs

  member_typars : (gs : List Generic) → list_all (is_generic a) gs ≡ true → list_all is_generic_held gs ≡ true →
      EachStands n.MEMBER (typar_lines externs typar_member p.MEMBER_CUSTOM 1 gs)
  unfolding ilasm rule_by
  member_typars gs m h = typar_lines_stand a typar_member p.MEMBER_CUSTOM typar_member_stands refl refl externs 1 gs m h

  member_fields : (k : ℕ) (fs : List Field) → list_all (is_field a) fs ≡ true → list_all is_field_held fs ≡ true →
      EachStands n.MEMBER (fields externs p.MEMBER_FIELD p.MEMBER_CUSTOM k fs)
  unfolding ilasm rule_by
  member_fields k fs m h = fields_stand a p.MEMBER_FIELD p.MEMBER_CUSTOM refl refl refl refl externs k fs m h

  member_method : (x : Method) → is_method a x ≡ true → is_method_held x ≡ true → Stands n.MEMBER (item p.MEMBER_METHOD (put (method externs x) none))
  unfolding ilasm rule_by
  member_method x m h = let s = method_item_stands externs a x m h in (refl, (s.0, s.1, tt))

  module _ (path : List TypeId) (some : nat_lt 0 (length path) ≡ true) (ms : List Method) (formed : list_all (is_method a) ms ≡ true) (held : list_all is_method_held ms ≡ true) where
    member_property : (x : Property) → is_property a x ≡ true → is_property_held x ≡ true → Stands n.MEMBER (item p.MEMBER_PROPERTY (put (property externs path ms x) none))
    unfolding ilasm rule_by
    member_property x m h = let s = property_stands externs path some ms (methods_sign a ms formed held) a x m h in (refl, (s.0, s.1, tt))

    member_event : (x : Event) → is_event a x ≡ true → is_event_held x ≡ true → Stands n.MEMBER (item p.MEMBER_EVENT (put (event externs path ms x) none))
    unfolding ilasm rule_by
    member_event x m h = let s = event_stands externs path some ms (methods_sign a ms formed held) a x m h in (refl, (s.0, s.1, tt))

  -- ---- types

  -- a type stands for one, whatever it is nested in and whatever data stands before it
  abbrev pub ClassStands : ClassShown → Type 0
  ClassStands c = (outer : List TypeId) (k : ℕ) → Stands n.CLASS (c.shown outer k)

  abbrev pub AllStand : List ClassShown → Type 0
  AllStand [] = Unit {0}
  AllStand (c ∷ cs) = ClassStands c × AllStand cs

  pub each_class : {x : ℕ} (production : ℕ) → head_of production ≡ Some x → body_of production ≡ Nonterminal n.CLASS ∷ [] → (outer : List TypeId) (k : ℕ)
      (cs : List ClassShown) → AllStand cs → EachStands x (classes_from production outer k cs)
  each_class production head body outer k [] h = tt
  each_class production head body outer k (c ∷ cs) h =
      let s = h.0 outer k in
      ((head, subst (λ b. Grows b (put (c.shown outer k) none)) (sym body) (s.0, s.1, tt)), each_class production head body outer (k + length c.contents) cs h.1)

  longer : (path : List TypeId) (id : TypeId) → nat_lt 0 (length (path ++ id ∷ [])) ≡ true
  longer [] id = refl
  longer (x ∷ path) id = some_length _

  item_stands : (top : Bool) (t : TypeDef-F TypeDef) (inner : List ClassShown) → is_own a top t ≡ true → is_own_held t ≡ true → AllStand inner →
      (path : List TypeId) (k : ℕ) → nat_lt 0 (length path) ≡ true →
      Stands n.CLASS (class_item externs (record {
        id = t.id;
        flags = t.flags;
        layout = t.layout;
        generics = t.generics;
        extends = t.extends;
        implements = t.implements;
        fields = t.fields;
        methods = t.methods;
        properties = t.properties;
        events = t.events;
        nested = inner;
        attributes = t.attributes;
      }) path k)
  unfolding ilasm rule_by is_own_held
  item_stands top t inner m h nest path k some =
      let f = (types_named a top t).0 m in
      let g = (heads_named a top t).0 f.head in
      let h9 = and_parts _ _ h in
      let h8 = and_parts _ _ h9.0 in
      let h7 = and_parts _ _ h8.0 in
      let h6 = and_parts _ _ h7.0 in
      let h5 = and_parts _ _ h6.0 in
      let h4 = and_parts _ _ h5.0 in
      let h3 = and_parts _ _ h4.0 in
      let h2 = and_parts _ _ h3.0 in
      let flags = types_grow t.flags in
      let typars = typars_grow externs t.generics (generics_may a t.generics g.generics h2.1) [] none tt in
      let base = optional_stands extends_option _ (extends_grow t.extends g.extends h3.1) in
      let faces = optional_stands implements_option (implements externs t.implements) (implements_grow t.implements (owners_may a t.implements g.implements h4.1)) in
      let members =
      star_stands member_row _
      (each_append n.MEMBER (layout_lines t.layout) _ (layout_stands t.layout)
      (each_append n.MEMBER (customs externs p.MEMBER_CUSTOM t.attributes) _ (member_customs t.attributes g.attributes h9.1)
      (each_append n.MEMBER (typar_lines externs typar_member p.MEMBER_CUSTOM 1 t.generics) _ (member_typars t.generics g.generics h2.1)
      (each_append n.MEMBER (fields externs p.MEMBER_FIELD p.MEMBER_CUSTOM k t.fields) _ (member_fields k t.fields f.fields h5.1)
      (each_append n.MEMBER (map (λ m. item p.MEMBER_METHOD (put (method externs m) none)) t.methods) _
      (each_both n.MEMBER (λ m. item p.MEMBER_METHOD (put (method externs m) none)) (is_method a) is_method_held member_method t.methods f.methods h6.1)
      (each_append n.MEMBER (map (λ x. item p.MEMBER_PROPERTY (put (property externs path t.methods x) none)) t.properties) _
      (each_both n.MEMBER (λ x. item p.MEMBER_PROPERTY (put (property externs path t.methods x) none)) (is_property a) is_property_held
      (member_property path some t.methods f.methods h6.1) t.properties f.properties h7.1)
      (each_append n.MEMBER (map (λ x. item p.MEMBER_EVENT (put (event externs path t.methods x) none)) t.events) _
      (each_both n.MEMBER (λ x. item p.MEMBER_EVENT (put (event externs path t.methods x) none)) (is_event a) is_event_held
      (member_event path some t.methods f.methods h6.1) t.events f.events h8.1)
      (each_class p.MEMBER_CLASS refl refl path (k + length (field_contents t.fields)) inner nest)))))))) in
      (refl, (refl, (flags.0, flags.1, (refl, (typars.0, typars.1, (base.0, base.1, (faces.0, faces.1, (refl, (members.0, members.1, (refl, tt))))))))))

  class_stands : (top : Bool) (t : TypeDef) → is_own a top (out-TypeDef t) ≡ true → is_own_held (out-TypeDef t) ≡ true → AllStand (map (class externs) (out-TypeDef t).nested) →
      ClassStands (class externs t)
  unfolding class
  class_stands top t m h inner outer k =
      subst (λ (c : ClassShown). Stands n.CLASS (c.shown outer k)) (sym (fold_out-TypeDef ClassShown (class_step externs) t))
      (item_stands top (out-TypeDef t) (map (class externs) (out-TypeDef t).nested) m h inner (outer ++ (out-TypeDef t).id ∷ []) k (longer outer (out-TypeDef t).id))

  -- what a type holds: its own, and the types that it nests
  all_held : (ts : List TypeDef) → list_all (λ ok. ok) (map is_typedef_held ts) ≡ true → list_all is_typedef_held ts ≡ true
  all_held [] h = refl
  all_held (t ∷ ts) h =
      let hs = and_parts (is_typedef_held t) (list_all (λ ok. ok) (map is_typedef_held ts)) h in
      both (is_typedef_held t) (list_all is_typedef_held ts) hs.0 (all_held ts hs.1)

  held_out : (t : TypeDef) → is_typedef_held t ≡ true → (is_own_held (out-TypeDef t) ≡ true) × (list_all is_typedef_held (out-TypeDef t).nested ≡ true)
  unfolding is_typedef_held is_own_held
  held_out t h =
      let hs = and_parts _ _ (sym (fold_out-TypeDef Bool typedef_holds t) ∙ h) in (hs.0, all_held (out-TypeDef t).nested hs.1)

  pub types_all : (depth : ℕ) (top : Bool) (ts : List TypeDef) → are_types a top depth ts ≡ true → list_all is_typedef_held ts ≡ true →
      AllStand (map (class externs) ts)
  unfolding are_types
  types_all zero top [] m h = tt
  types_all zero top (t ∷ ts) m h = let none = eqb-true (suc (length ts)) 0 m in absurd (omega arith)
  types_all (suc depth) top ts m h = go (λ us n k. types_all depth false us n k) ts (and_parts _ _ m).1 h
    where
      go : ((us : List TypeDef) → are_types a false depth us ≡ true → list_all is_typedef_held us ≡ true → AllStand (map (class externs) us)) → (us : List TypeDef) → list_all (λ t. is_own a top (out-TypeDef t) && are_types a false depth (out-TypeDef t).nested) us ≡ true →
          list_all is_typedef_held us ≡ true → AllStand (map (class externs) us)
      go inner [] mm hh = tt
      go inner (t ∷ us) mm hh =
          let ms = and_parts (is_own a top (out-TypeDef t) && are_types a false depth (out-TypeDef t).nested) (list_all (λ v. is_own a top (out-TypeDef v) && are_types a false depth (out-TypeDef v).nested) us) mm in
          let own = and_parts (is_own a top (out-TypeDef t)) (are_types a false depth (out-TypeDef t).nested) ms.0 in
          let hs = and_parts (is_typedef_held t) (list_all is_typedef_held us) hh in
          let out = held_out t hs.0 in
          (class_stands top t own.0 out.0 (inner (out-TypeDef t).nested own.1 out.1), go inner us ms.1 hs.1)
