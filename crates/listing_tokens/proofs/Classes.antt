-- Types are sound.
use Rattle.std.proofs.Common.{◌≡◌, ℕ, zero, suc, ◌+◌, ◌^◌, ◌<◌, ◌≤◌, ◌&&◌, Bool, true, false, List, [], ◌∷◌, ◌++◌, map, length, Option, None, Some, refl, ap, sym, subst, ◌∙◌, arith, length-append}
use Rattle.std.proofs.lemmas.Bool.{and_parts, eqb-true, leb-true}
use Rattle.std.proofs.lemmas.List.Sums.{sum_by-cons, sum-map}
use Rattle.std.specs.List.{list_all}
use Rattle.std.specs.Prelude.{option_map, sum_by}
use Rattle.il_lexer.specs.declared.word.TheConstants as word
use Rattle.ilasm_grammar.specs.declared.productions.TheConstants as p
use Rattle.type_terms.specs.declared.name.TypeId.{TypeId}
use Rattle.type_terms.specs.declared.term.Owner.{Owner}
use Rattle.assembly_tree.specs.Weight.{field_weight, method_weight, own_weight, typedef_step, typedef_weight}
use Rattle.assembly_tree.specs.WellFormed.{is_extern}
use Rattle.assembly_tree.specs.WellFormedMembers.{is_method, is_property, is_event}
use Rattle.assembly_tree.specs.WellFormedNames.{option_all, is_type_id}
use Rattle.assembly_tree.specs.WellFormedTerms.{is_owner}
use Rattle.assembly_tree.specs.WellFormedTypes.{is_own, are_types}
use Rattle.assembly_tree.specs.declared.assembly.Assembly.{Assembly}
use Rattle.assembly_tree.specs.declared.members.Event.{Event}
use Rattle.assembly_tree.specs.declared.members.Field.{Field}
use Rattle.assembly_tree.specs.declared.members.Method.{Method}
use Rattle.assembly_tree.specs.declared.members.Property.{Property}
use Rattle.assembly_tree.specs.declared.typedef.Layout.{Layout}
use Rattle.assembly_tree.specs.declared.typedef.TypeDef.{TypeDef}
use Rattle.assembly_tree.specs.declared.typedef.TypeDef.TheOpen.{TypeDef-F}
use Rattle.assembly_tree.specs.declared.typedef.TypeDef.TheFolds.{fold_out-TypeDef}
use Rattle.assembly_tree.specs.declared.typedef.TypeDef.TheViews.{out-TypeDef}
use Rattle.assembly_tree.proofs.FormedFacts.{types_named, heads_named}
use Rattle.listing_growth.specs.Held.{are_bytes, is_layout_held, is_owner_held, is_field_held, is_method_held, is_property_held, is_event_held, is_own_held, typedef_holds, is_typedef_held}
use Rattle.listing_model.specs.Classes.{ClassShown, all_contents, classes_from, layout_lines, typar_member, implements, class_item, class_step, class}
use Rattle.listing_model.specs.Flags.{type_flag_items}
use Rattle.listing_model.specs.Members.{typar_lines, fields, field_contents, contents_then, property, event}
use Rattle.listing_model.specs.Methods.{method}
use Rattle.listing_model.specs.Shown.{Leaf, none, item, put, w, branch, opt_below}
use Rattle.listing_model.specs.Types.{owner}
use Rattle.listing_model.specs.Values.{customs}
use Rattle.listing_tokens.proofs.Members.{specs_sound, typars_sound, typar_lines_sound, fields_sound, AllSign, methods_sign, property_sound, event_sound}
use Rattle.listing_tokens.proofs.Methods.{key_sound, method_item_sound}
use Rattle.listing_tokens.proofs.Sound.{Sound, wf, tf, wider, SoundItem, EachSound, each_wider, sounds_append, star_sound}
use Rattle.listing_tokens.proofs.Terms.{LeafLaws, both, owner_sound}
use Rattle.listing_tokens.proofs.Values.{u16_small, u32_small, type_flags_sound, customs_sound}

-- ---- bytes of data

all_append : (xs ys : List (List ℕ)) → list_all are_bytes xs ≡ true → list_all are_bytes ys ≡ true → list_all are_bytes (xs ++ ys) ≡ true
all_append [] ys h k = k
all_append (x ∷ xs) ys h k =
    let hs = and_parts (are_bytes x) (list_all are_bytes xs) h in both (are_bytes x) (list_all are_bytes (xs ++ ys)) hs.0 (all_append xs ys hs.1 k)

then_bytes : (content : Option (List ℕ)) (more : List (List ℕ)) → option_all are_bytes content ≡ true → list_all are_bytes more ≡ true →
    list_all are_bytes (contents_then content more) ≡ true
then_bytes None more h k = k
then_bytes (Some bytes) more h k = both (are_bytes bytes) (list_all are_bytes more) h k

pub field_bytes : (fs : List Field) → list_all is_field_held fs ≡ true → list_all are_bytes (field_contents fs) ≡ true
unfolding is_field_held
field_bytes [] h = refl
field_bytes (f ∷ fs) h =
    let hs = and_parts _ _ h in
    then_bytes f.content (field_contents fs) (and_parts _ _ (and_parts _ _ hs.0).0).1 (field_bytes fs hs.1)

-- ---- how much data there is

held_one : (content : Option (List ℕ)) (rest : List (List ℕ)) → length (contents_then content rest) ≤ 1 + length rest
held_one None rest = omega arith
held_one (Some bytes) rest = omega arith

-- fields have no more data than they weigh
pub contents_light : (fs : List Field) → length (field_contents fs) ≤ sum_by field_weight fs
unfolding field_weight
contents_light [] = omega arith
contents_light (f ∷ fs) =
    let rest = contents_light fs in
    let one = held_one f.content (field_contents fs) in
    let all = sum_by-cons field_weight f fs in
    omega arith

weight_out : (t : TypeDef) → typedef_weight t ≡ own_weight (out-TypeDef t) + sum_by typedef_weight (out-TypeDef t).nested
unfolding own_weight
weight_out t = fold_out-TypeDef ℕ typedef_step t ∙ ap (λ s. own_weight (out-TypeDef t) + s) (sum-map typedef_weight (out-TypeDef t).nested)

-- one is no heavier than all
lighter : {X : Type 0} (weigh : X → ℕ) (x : X) (xs : List X) (most : ℕ) → sum_by weigh (x ∷ xs) ≤ most → (weigh x ≤ most) × (sum_by weigh xs ≤ most)
lighter weigh x xs most h = let all = sum_by-cons weigh x xs in (omega arith, omega arith)

module _ (laws : LeafLaws) (a : Assembly) (named_well : list_all is_extern a.externs ≡ true) (few : length a.externs < 2 ^ 128) where
  -- ---- lines

  layout_sound : (l : Option Layout) → option_all is_layout_held l ≡ true → EachSound 101 (layout_lines l)
  layout_sound None h = tt
  layout_sound (Some l) h =
      let hs = and_parts _ _ h in (
        (λ rest. (wf refl refl, (tf (laws.numbers.natural l.pack (u16_small l.pack hs.0)) refl refl, tt))),
        ((λ rest. (wf refl refl, (tf (laws.numbers.natural l.size (u32_small l.size hs.1)) refl refl, tt))), tt),
      )

  typar_member_sound : (k : ℕ) → k < 2 ^ 128 → SoundItem 101 (typar_member k)
  typar_member_sound k small rest = (wf refl refl, key_sound laws k small _)

  extends_sound : (o : Option Owner) → option_all (is_owner a) o ≡ true → option_all is_owner_held o ≡ true → (rest : List Leaf) →
      Sound 100 (opt_below (option_map (λ o. branch p.EXTENDS (w word.EXTENDS (put (owner a.externs o) none)) none) o)) rest
  extends_sound None m h rest = tt
  extends_sound (Some o) m h rest = ((wf refl refl, ((owner_sound laws a named_well few o m h).sound _, tt)), tt)

  implements_sound : (os : List Owner) → list_all (is_owner a) os ≡ true → list_all is_owner_held os ≡ true → (rest : List Leaf) →
      Sound 100 (opt_below (implements a.externs os)) rest
  implements_sound [] m h rest = tt
  implements_sound (o ∷ os) m h rest = ((wf refl refl, specs_sound laws a named_well few 100 (omega arith) o os m h none _ tt), tt)

  pub methods_sound : (production : ℕ) (ms : List Method) → sum_by method_weight ms ≤ 2 ^ 26 → list_all (is_method a) ms ≡ true → list_all is_method_held ms ≡ true →
      EachSound 102 (map (λ m. item production (put (method a.externs m) none)) ms)
  methods_sound production [] light m h = tt
  methods_sound production (x ∷ xs) light m h =
      let ls = lighter method_weight x xs (2 ^ 26) light in
      let ms = and_parts (is_method a x) (list_all (is_method a) xs) m in
      let hs = and_parts (is_method_held x) (list_all is_method_held xs) h in
      ((λ rest. (method_item_sound laws a named_well few x ls.0 ms.0 hs.0 _, tt)), methods_sound production xs ls.1 ms.1 hs.1)

  module _ (path : List TypeId) (ids : list_all is_type_id path ≡ true) (ms : List Method) (sign : AllSign laws a named_well few ms) where
    properties_sound : (xs : List Property) → list_all (is_property a) xs ≡ true → list_all is_property_held xs ≡ true →
        EachSound 102 (map (λ x. item p.MEMBER_PROPERTY (put (property a.externs path ms x) none)) xs)
    properties_sound [] m h = tt
    properties_sound (x ∷ xs) m h =
        let ks = and_parts (is_property a x) (list_all (is_property a) xs) m in
        let hs = and_parts (is_property_held x) (list_all is_property_held xs) h in
        ((λ rest. (property_sound laws a named_well few path ids ms sign x ks.0 hs.0 _, tt)), properties_sound xs ks.1 hs.1)

    events_sound : (xs : List Event) → list_all (is_event a) xs ≡ true → list_all is_event_held xs ≡ true →
        EachSound 102 (map (λ x. item p.MEMBER_EVENT (put (event a.externs path ms x) none)) xs)
    events_sound [] m h = tt
    events_sound (x ∷ xs) m h =
        let ks = and_parts (is_event a x) (list_all (is_event a) xs) m in
        let hs = and_parts (is_event_held x) (list_all is_event_held xs) h in
        ((λ rest. (event_sound laws a named_well few path ids ms sign x ks.0 hs.0 _, tt)), events_sound xs ks.1 hs.1)

  -- ---- types

  -- a type with so much room, where the numbers of its data are small
  abbrev pub ClassSound : ℕ → ClassShown → Type 0
  ClassSound r c = (outer : List TypeId) → list_all is_type_id outer ≡ true → (k : ℕ) → k + length c.contents < 2 ^ 128 → SoundItem r (c.shown outer k)

  abbrev pub AllSound : ℕ → List ClassShown → Type 0
  AllSound r [] = Unit {0}
  AllSound r (c ∷ cs) = ClassSound r c × AllSound r cs

  pub classes_sound : (r production : ℕ) (outer : List TypeId) → list_all is_type_id outer ≡ true → (k : ℕ) (cs : List ClassShown) → AllSound r cs →
      k + length (all_contents cs) < 2 ^ 128 → EachSound r (classes_from production outer k cs)
  classes_sound r production outer ids k [] h small = tt
  classes_sound r production outer ids k (c ∷ cs) h small =
      let joined = length-append c.contents (all_contents cs) in
      let here : k + length c.contents < 2 ^ 128 = omega arith in
      let more : (k + length c.contents) + length (all_contents cs) < 2 ^ 128 = omega arith in
      ((λ rest. (h.0 outer ids k here _, tt)), classes_sound r production outer ids (k + length c.contents) cs h.1 more)

  ids_append : (path : List TypeId) (id : TypeId) → list_all is_type_id path ≡ true → is_type_id id ≡ true → list_all is_type_id (path ++ id ∷ []) ≡ true
  ids_append [] id h k = both (is_type_id id) true k refl
  ids_append (x ∷ path) id h k =
      let hs = and_parts (is_type_id x) (list_all is_type_id path) h in
      both (is_type_id x) (list_all is_type_id (path ++ id ∷ [])) hs.0 (ids_append path id hs.1 k)

  item_sound : (r : ℕ) → 102 ≤ r → (top : Bool) (t : TypeDef-F TypeDef) (inner : List ClassShown) → is_own a top t ≡ true → is_own_held t ≡ true →
      own_weight t ≤ 2 ^ 26 → AllSound r inner → (path : List TypeId) → list_all is_type_id path ≡ true → (k : ℕ) →
      k + length (field_contents t.fields ++ all_contents inner) < 2 ^ 128 →
      SoundItem (suc r) (class_item a.externs (record {
        id = t.id;
        flags = t.flags;
        layout = t.layout;
        generics = t.generics;
        extends = t.extends;
        implements = t.implements;
        fields = t.fields;
        methods = t.methods;
        properties = t.properties;
        events = t.events;
        nested = inner;
        attributes = t.attributes;
      }) path k)
  unfolding is_own_held own_weight
  item_sound r le top t inner m h light nest path ids k small rest =
      let f = (types_named a top t).0 m in
      let g = (heads_named a top t).0 f.head in
      let id = and_parts _ _ g.id in
      let h9 = and_parts _ _ h in
      let h8 = and_parts _ _ h9.0 in
      let h7 = and_parts _ _ h8.0 in
      let h6 = and_parts _ _ h7.0 in
      let h5 = and_parts _ _ h6.0 in
      let h4 = and_parts _ _ h5.0 in
      let h3 = and_parts _ _ h4.0 in
      let h2 = and_parts _ _ h3.0 in
      let h1 = and_parts _ _ h2.0 in
      let count = length-append (field_contents t.fields) (all_contents inner) in
      let own_data : k + length (field_contents t.fields) < 2 ^ 128 = omega arith in
      let inner_data : (k + length (field_contents t.fields)) + length (all_contents inner) < 2 ^ 128 = omega arith in
      let typars_few : 1 + length t.generics < 2 ^ 128 = let most = leb-true (length t.generics) 65535 g.count in omega arith in
      let methods_light : sum_by method_weight t.methods ≤ 2 ^ 26 = omega arith in
      let le101 : 101 ≤ r = omega arith in
      let le100 : 100 ≤ suc r = omega arith in
      let sign = methods_sign laws a named_well few t.methods f.methods h6.1 in
      let members =
      sounds_append r (layout_lines t.layout) _ (each_wider 101 r le101 _ (layout_sound t.layout h1.1))
      (sounds_append r (customs a.externs p.MEMBER_CUSTOM t.attributes) _
      (each_wider 101 r le101 _ (customs_sound laws a named_well few p.MEMBER_CUSTOM t.attributes g.attributes h9.1))
      (sounds_append r (typar_lines a.externs typar_member p.MEMBER_CUSTOM 1 t.generics) _
      (each_wider 101 r le101 _ (typar_lines_sound laws a named_well few typar_member p.MEMBER_CUSTOM typar_member_sound 1 t.generics typars_few g.generics h2.1))
      (sounds_append r (fields a.externs p.MEMBER_FIELD p.MEMBER_CUSTOM k t.fields) _
      (each_wider 101 r le101 _ (fields_sound laws a named_well few p.MEMBER_FIELD p.MEMBER_CUSTOM k t.fields own_data f.fields h5.1))
      (sounds_append r (map (λ m. item p.MEMBER_METHOD (put (method a.externs m) none)) t.methods) _
      (each_wider 102 r le _ (methods_sound p.MEMBER_METHOD t.methods methods_light f.methods h6.1))
      (sounds_append r (map (λ x. item p.MEMBER_PROPERTY (put (property a.externs path t.methods x) none)) t.properties) _
      (each_wider 102 r le _ (properties_sound path ids t.methods sign t.properties f.properties h7.1))
      (sounds_append r (map (λ x. item p.MEMBER_EVENT (put (event a.externs path t.methods x) none)) t.events) _
      (each_wider 102 r le _ (events_sound path ids t.methods sign t.events f.events h8.1))
      (classes_sound r p.MEMBER_CLASS path ids (k + length (field_contents t.fields)) inner nest inner_data))))))) in (
        wf refl refl,
        (
          star_sound (suc r) p.CLASS_ATTR_STAR_MORE p.CLASS_ATTR_STAR_END (type_flag_items t.flags) (type_flags_sound laws r t.flags (u32_small t.flags h1.0)) _,
          (
            tf (laws.names.type_name t.id.space t.id.name id.0 id.1) refl refl,
            (
              (typars_sound laws a named_well few r le101 t.generics g.generics h2.1 none _ tt).0,
              (
                wider 100 (suc r) le100 _ _ (extends_sound t.extends g.extends h3.1 _),
                (
                  wider 100 (suc r) le100 _ _ (implements_sound t.implements g.implements h4.1 _),
                  (wf refl refl, (star_sound r p.MEMBER_STAR_MORE p.MEMBER_STAR_END _ members _, (wf refl refl, tt))),
                ),
              ),
            ),
          ),
        ),
      )

  class_sound : (r : ℕ) → 102 ≤ r → (top : Bool) (t : TypeDef) → is_own a top (out-TypeDef t) ≡ true → is_own_held (out-TypeDef t) ≡ true →
      is_type_id (out-TypeDef t).id ≡ true → own_weight (out-TypeDef t) ≤ 2 ^ 26 → AllSound r (map (class a.externs) (out-TypeDef t).nested) →
      ClassSound (suc r) (class a.externs t)
  unfolding class
  class_sound r le top t m h id light inner =
      subst (ClassSound (suc r)) (sym (fold_out-TypeDef ClassShown (class_step a.externs) t))
      (λ outer ids k small. item_sound r le top (out-TypeDef t) (map (class a.externs) (out-TypeDef t).nested) m h light inner
      (outer ++ (out-TypeDef t).id ∷ []) (ids_append outer (out-TypeDef t).id ids id) k small)

  all_held : (ts : List TypeDef) → list_all (λ ok. ok) (map is_typedef_held ts) ≡ true → list_all is_typedef_held ts ≡ true
  all_held [] h = refl
  all_held (t ∷ ts) h =
      let hs = and_parts (is_typedef_held t) (list_all (λ ok. ok) (map is_typedef_held ts)) h in
      both (is_typedef_held t) (list_all is_typedef_held ts) hs.0 (all_held ts hs.1)

  held_out : (t : TypeDef) → is_typedef_held t ≡ true → (is_own_held (out-TypeDef t) ≡ true) × (list_all is_typedef_held (out-TypeDef t).nested ≡ true)
  unfolding is_typedef_held is_own_held
  held_out t h = let hs = and_parts _ _ (sym (fold_out-TypeDef Bool typedef_holds t) ∙ h) in (hs.0, all_held (out-TypeDef t).nested hs.1)

  fields_of : (t : TypeDef-F TypeDef) → is_own_held t ≡ true → list_all is_field_held t.fields ≡ true
  unfolding is_own_held
  fields_of t h =
      let h9 = and_parts _ _ h in
      let h8 = and_parts _ _ h9.0 in
      let h7 = and_parts _ _ h8.0 in
      let h6 = and_parts _ _ h7.0 in
      (and_parts _ _ h6.0).1

  id_of : (top : Bool) (t : TypeDef-F TypeDef) → is_own a top t ≡ true → is_type_id t.id ≡ true
  id_of top t m = ((heads_named a top t).0 ((types_named a top t).0 m).head).id

  pub types_sound : (depth r : ℕ) → 102 + depth ≤ r → (top : Bool) (ts : List TypeDef) → are_types a top depth ts ≡ true → list_all is_typedef_held ts ≡ true →
      sum_by typedef_weight ts ≤ 2 ^ 26 → AllSound r (map (class a.externs) ts)
  unfolding are_types
  types_sound zero r le top [] m h light = tt
  types_sound zero r le top (t ∷ ts) m h light = let none = eqb-true (suc (length ts)) 0 m in absurd (omega arith)
  types_sound (suc depth) zero le top ts m h light = absurd (omega arith)
  types_sound (suc depth) (suc r) le top ts m h light =
      let deep : 102 + depth ≤ r = omega arith in go (λ us n k l. types_sound depth r deep false us n k l) ts (and_parts _ _ m).1 h light
    where
      go : ((us : List TypeDef) → are_types a false depth us ≡ true → list_all is_typedef_held us ≡ true → sum_by typedef_weight us ≤ 2 ^ 26 → AllSound r (map (class a.externs) us)) → (us : List TypeDef) → list_all (λ t. is_own a top (out-TypeDef t) && are_types a false depth (out-TypeDef t).nested) us ≡ true →
          list_all is_typedef_held us ≡ true → sum_by typedef_weight us ≤ 2 ^ 26 → AllSound (suc r) (map (class a.externs) us)
      go inner [] mm hh ll = tt
      go inner (t ∷ us) mm hh ll =
          let ms = and_parts (is_own a top (out-TypeDef t) && are_types a false depth (out-TypeDef t).nested) (list_all (λ t. is_own a top (out-TypeDef t) && are_types a false depth (out-TypeDef t).nested) us) mm in
          let own = and_parts (is_own a top (out-TypeDef t)) (are_types a false depth (out-TypeDef t).nested) ms.0 in
          let hs = and_parts (is_typedef_held t) (list_all is_typedef_held us) hh in
          let out = held_out t hs.0 in
          let ls = lighter typedef_weight t us (2 ^ 26) ll in
          let parts = weight_out t in
          let nested_light : sum_by typedef_weight (out-TypeDef t).nested ≤ 2 ^ 26 = omega arith in
          let own_light : own_weight (out-TypeDef t) ≤ 2 ^ 26 = omega arith in
          let room : 102 ≤ r = omega arith in
          (class_sound r room top t own.0 out.0 (id_of top (out-TypeDef t) own.0) own_light (inner (out-TypeDef t).nested own.1 out.1 nested_light), go inner us ms.1 hs.1 ls.1)

  -- types have no more data than they weigh
  pub data_light : (depth : ℕ) (top : Bool) (ts : List TypeDef) → are_types a top depth ts ≡ true → length (all_contents (map (class a.externs) ts)) ≤ sum_by typedef_weight ts
  unfolding are_types class own_weight
  data_light zero top [] m = omega arith
  data_light zero top (t ∷ ts) m = let none = eqb-true (suc (length ts)) 0 m in absurd (omega arith)
  data_light (suc depth) top ts m = go (λ us n. data_light depth false us n) ts (and_parts _ _ m).1
    where
      go : ((us : List TypeDef) → are_types a false depth us ≡ true → length (all_contents (map (class a.externs) us)) ≤ sum_by typedef_weight us) → (us : List TypeDef) → list_all (λ t. is_own a top (out-TypeDef t) && are_types a false depth (out-TypeDef t).nested) us ≡ true →
          length (all_contents (map (class a.externs) us)) ≤ sum_by typedef_weight us
      go below [] mm = omega arith
      go below (t ∷ us) mm =
          let ms = and_parts (is_own a top (out-TypeDef t) && are_types a false depth (out-TypeDef t).nested) (list_all (λ t. is_own a top (out-TypeDef t) && are_types a false depth (out-TypeDef t).nested) us) mm in
          let own = and_parts (is_own a top (out-TypeDef t)) (are_types a false depth (out-TypeDef t).nested) ms.0 in
          let inner = below (out-TypeDef t).nested own.1 in
          let fields = contents_light (out-TypeDef t).fields in
          let is = ap (λ (c : ClassShown). length c.contents) (fold_out-TypeDef ClassShown (class_step a.externs) t) in
          let split = length-append (field_contents (out-TypeDef t).fields) (all_contents (map (class a.externs) (out-TypeDef t).nested)) in
          let joined = length-append (class a.externs t).contents (all_contents (map (class a.externs) us)) in
          let parts = weight_out t in
          let all = sum_by-cons typedef_weight t us in
          let rest = go below us ms.1 in
          omega arith

  -- the data of types is bytes
  class_bytes : (depth : ℕ) (top : Bool) (ts : List TypeDef) → are_types a top depth ts ≡ true → list_all is_typedef_held ts ≡ true →
      list_all are_bytes (all_contents (map (class a.externs) ts)) ≡ true
  unfolding are_types class is_own_held
  class_bytes zero top [] m h = refl
  class_bytes zero top (t ∷ ts) m h = let none = eqb-true (suc (length ts)) 0 m in absurd (omega arith)
  class_bytes (suc depth) top ts m h = go (λ us n k. class_bytes depth false us n k) ts (and_parts _ _ m).1 h
    where
      go : ((us : List TypeDef) → are_types a false depth us ≡ true → list_all is_typedef_held us ≡ true → list_all are_bytes (all_contents (map (class a.externs) us)) ≡ true) →
          (us : List TypeDef) → list_all (λ t. is_own a top (out-TypeDef t) && are_types a false depth (out-TypeDef t).nested) us ≡ true →
          list_all is_typedef_held us ≡ true → list_all are_bytes (all_contents (map (class a.externs) us)) ≡ true
      go below [] mm hh = refl
      go below (t ∷ us) mm hh =
          let ms = and_parts (is_own a top (out-TypeDef t) && are_types a false depth (out-TypeDef t).nested) (list_all (λ v. is_own a top (out-TypeDef v) && are_types a false depth (out-TypeDef v).nested) us) mm in
          let own = and_parts (is_own a top (out-TypeDef t)) (are_types a false depth (out-TypeDef t).nested) ms.0 in
          let hs = and_parts (is_typedef_held t) (list_all is_typedef_held us) hh in
          let out = held_out t hs.0 in
          let its =
          all_append (field_contents (out-TypeDef t).fields) (all_contents (map (class a.externs) (out-TypeDef t).nested))
          (field_bytes (out-TypeDef t).fields (fields_of (out-TypeDef t) out.0)) (below (out-TypeDef t).nested own.1 out.1) in
          let one = subst (λ (c : ClassShown). list_all are_bytes c.contents ≡ true) (sym (fold_out-TypeDef ClassShown (class_step a.externs) t)) its in
          all_append (class a.externs t).contents (all_contents (map (class a.externs) us)) one (go below us ms.1 hs.1)

  pub bytes_in : (ts : List TypeDef) (fs : List Field) → are_types a true 100 ts ≡ true → list_all is_typedef_held ts ≡ true → list_all is_field_held fs ≡ true →
      list_all are_bytes (all_contents (map (class a.externs) ts) ++ field_contents fs) ≡ true
  bytes_in ts fs m h k = all_append (all_contents (map (class a.externs) ts)) (field_contents fs) (class_bytes 100 true ts m h) (field_bytes fs k)
