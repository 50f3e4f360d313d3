-- The assembly that a faultless source denotes is well formed, but for what is said to remain (ECMA-335 II.10, II.22).
use Rattle.std.proofs.Common.{◌≡◌, ℕ, zero, suc, ◌+◌, ◌<◌, ◌≤◌, inl, inr, List, [], ◌∷◌, ◌++◌, Option, None, Some, cond, length, map, refl, ap, sym, subst, ◌∙◌, arith, length-append, nat_lt, nat_eq}
use Rattle.std.specs.Prelude.{Bool, true, false, not, ◌==◌, ◌||◌, ◌&&◌, if◌then◌else◌, codes, filter, is_none, is_some}
use Rattle.std.specs.List.{AllByRecursion, flat_map, list_all}
use Rattle.std.specs.Cmp.{IsTotalOrder}
use lib.Pointwise.{pointwise}
use Rattle.std.proofs.lemmas.Bool.{and_from, and_parts, cases_Bool, ltb-false, or_left, or_right}
use Rattle.std.proofs.lemmas.Bool.Decides.{Decides-eqb}
use Rattle.std.proofs.lemmas.List.Folds.{list_all-append}
use Rattle.il_lexer.specs.Longest.{LongestSpelling}
use Rattle.il_lexer.specs.Unplaced.{ReadsAsItLexes}
use Rattle.type_terms.specs.Order.{owner_order, term_order}
use Rattle.type_terms.specs.declared.name.Scope.{Scope}
use Rattle.type_terms.specs.declared.name.TypeId.{TypeId}
use Rattle.type_terms.specs.declared.term.Owner.{Owner}
use Rattle.assembly_tree.specs.declared.assembly.Assembly.{Assembly}
use Rattle.assembly_tree.specs.declared.typedef.TypeDef.{TypeDef}
use Rattle.assembly_tree.specs.declared.typedef.TypeDef.TheViews.{out-TypeDef}
use Rattle.assembly_tree.specs.WellFormed.{are_classes, is_well_formed}
use Rattle.assembly_tree.specs.WellFormedNames.{all_differ, is_module, is_system_object}
use Rattle.assembly_tree.specs.WellFormedTypes.{are_types, has_its_accessors, is_base, is_not_module, is_own, is_same_id, members_differ}
use Rattle.assembly_tree.proofs.FormedFacts.{assemblies_named}
use Rattle.ilasm_grammar.specs.declared.productions.TheConstants.{CLASS, DECL_FIELD, DECL_METHOD, EXTENDS, EXTENDS_OPT_SOME, FIELD, MEMBER_FIELD, MEMBER_METHOD, MEMBER_PROPERTY, METHOD, PROPERTY}
use Rattle.ilasm_grammar.specs.Ilasm.{ilasm, rule_by}
use Rattle.ilasm_grammar.specs.declared.nonterminals.TheConstants as n
use Rattle.ilasm_grammar.specs.declared.symbol.Symbol.TheVariants.{Nonterminal}
use Rattle.source_nodes.specs.Derived.{Fits, FitsBody, head_of}
use Rattle.source_syntax.proofs.BodyLemmas.{fits_has}
use Rattle.source_syntax.proofs.ReferenceLemmas.{sound_part}
use Rattle.source_nodes.proofs.WrittenNames.{one_in}
use Rattle.source_model.specs.Bodies.{body}
use Rattle.source_model.specs.Classes.{assembly, base, class_from, classes_in, core_scope, is_interface, is_root, named_object, wants_object}
use Rattle.source_model.specs.DeclaredTwice.{events_twice, fields_twice, is_module_class, is_same_class, members_twice_in, methods_twice, properties_twice, repeats}
use Rattle.source_model.specs.Flags.{type_flags}
use Rattle.source_model.specs.Forest.{Forest, Part, none, leaf, branch, child, has, is_among, the}
use Rattle.source_model.specs.Items.{Run, declarations, members, runs}
use Rattle.source_model.specs.Members.{events, field, fields, in_method, is_field_part, is_method_part, method, methods, properties}
use Rattle.source_model.specs.Signatures.{is_field_unbroken, is_method_unbroken, is_property_unbroken}
use Rattle.assembly_tree.specs.WellFormedMembers.{is_same_event, is_same_field, is_same_method, is_same_property}
use Rattle.laws_formed_sources.proofs.sources.Differing.{events_differ, field_unbroken, fields_differ, method_unbroken, methods_differ, properties_differ, property_unbroken}
use Rattle.source_model.specs.Names.{classes, is_path, module_path}
use Rattle.source_model.specs.Nodes.{Around, Node, class_token, entered, nodes, nodes_in, nothing_around, type_id}
use Rattle.source_model.specs.OutOfRange.{class_too_deep}
use Rattle.source_model.specs.Source.{Source}
use Rattle.source_model.specs.TypeRules.{path_too_long}
use Rattle.source_model.specs.Types.{the_owner}
use Rattle.source_model.specs.Undeclared.{object_undeclared_of}
use Rattle.laws_formed_sources.specs.sources.Laws.{IsRight}
use Rattle.laws_formed_sources.specs.sources.Productions.{AllFaultless, HasFewTypars, IsFaultlessAt}
use Rattle.laws_formed_sources.specs.sources.Remaining.{Among, ClassRemains, Remains, has_body, has_content}
use Rattle.laws_formed_sources.proofs.sources.Occurring.{IsThere, Occurs, alone_occurs, among_back, among_front, declarations_occur, declared_productions, member_productions, members_occur}
use Rattle.laws_formed_sources.proofs.sources.Rules.{AllOf, body_of, fits_of, for_each}
use Rattle.laws_formed_sources.proofs.sources.Types.{bodies_of}
use Rattle.laws_formed_sources.proofs.sources.Attributes.{IsGood, parts_held}
use Rattle.laws_formed_sources.proofs.sources.ClassFormed.{class_is, fields_formed, method_held, methods_formed, own_formed}
use Rattle.laws_formed_sources.proofs.sources.BodyNames.{body_formed, body_names}
use Rattle.laws_formed_sources.proofs.sources.BodyForm.{form_formed}
use Rattle.laws_formed_sources.proofs.sources.ClassPlaces.{class_id, classes_leaf, classes_none, classes_other, classes_own, nested_is, paths_at, paths_in}
use Rattle.laws_formed_sources.proofs.sources.Declared.{no_class_twice}
use Rattle.laws_formed_sources.proofs.sources.ManifestFormed.{externs_formed, manifest_formed, outside_few}
use Rattle.laws_formed_sources.proofs.sources.Members.{Apart, apart_back, apart_front, apart_map}
use Rattle.laws_formed_sources.proofs.sources.Parts.{all_mapped, parts_good, passed}
use Rattle.laws_formed_sources.proofs.sources.Repeats.{no_map}
use Rattle.laws_formed_sources.proofs.sources.Signatures.{few_typars}
use Rattle.laws_formed_sources.proofs.sources.Structure.{ids_differ}
use Rattle.laws_formed_sources.proofs.sources.Unbroken.{all_bounded, all_declared, empty_in, nothing_twice}

-- ---- what holds at each of a list

none_at : {X Y : Type 0} (g : X → List Y) (q : X) (xs : List X) → Among q xs → flat_map g xs ≡ [] → g q ≡ []
none_at g q [] h e = absurd h
none_at g q (x ∷ xs) (inl is) e = subst (λ y. g y ≡ []) is (empty_in (g x) (flat_map g xs) e).0
none_at g q (x ∷ xs) (inr h) e = none_at g q xs h (empty_in (g x) (flat_map g xs) e).1

filter_in : {X : Type 0} (test : X → Bool) (q : X) (xs : List X) → Among q xs → test q ≡ true → Among q (filter test xs)
filter_in test q [] h e = absurd h
filter_in test q (x ∷ xs) (inl is) e =
    subst (Among q) (sym (ap (λ (c : Bool). cond c (x ∷ filter test xs) (filter test xs)) (ap test is ∙ e))) (inl is)
filter_in test q (x ∷ xs) (inr h) e = elim (cases_Bool (test x)) [
  | inl own ↦ subst (Among q) (sym (ap (λ (c : Bool). cond c (x ∷ filter test xs) (filter test xs)) own)) (inr (filter_in test q xs h e))
  | inr other ↦ subst (Among q) (sym (ap (λ (c : Bool). cond c (x ∷ filter test xs) (filter test xs)) other)) (filter_in test q xs h e)
]

none_passes : {X : Type 0} (test : X → Bool) (q : X) (xs : List X) → Among q xs → filter test xs ≡ [] → test q ≡ false
none_passes test q xs h e = elim (cases_Bool (test q)) [
  | inl own ↦ absurd (subst (Among q) e (filter_in test q xs h own))
  | inr other ↦ other
]

if_nothing : (c : Bool) (k : ℕ) → (if c then k ∷ [] else []) ≡ [] → c ≡ false
if_nothing true k e = absurd cc
if_nothing false k e = refl

-- ---- fields and methods by their nodes

field_alone : AllOf (λ p. body_of (ilasm p) ≡ Nonterminal n.FIELD ∷ []) (DECL_FIELD ∷ MEMBER_FIELD ∷ [])
unfolding ilasm rule_by
field_alone = (refl, (refl, tt))

method_alone : AllOf (λ p. body_of (ilasm p) ≡ Nonterminal n.METHOD ∷ []) (DECL_METHOD ∷ MEMBER_METHOD ∷ [])
unfolding ilasm rule_by
method_alone = (refl, (refl, tt))

property_alone : body_of (ilasm MEMBER_PROPERTY) ≡ Nonterminal n.PROPERTY ∷ []
unfolding ilasm rule_by
property_alone = refl

one_property : (p : ℕ) → head_of p ≡ Some n.PROPERTY → p ≡ PROPERTY
unfolding ilasm
one_property p e = one_in _ _ _ n.PROPERTY PROPERTY p e refl

one_field : (p : ℕ) → head_of p ≡ Some n.FIELD → p ≡ FIELD
unfolding ilasm
one_field p e = one_in _ _ _ n.FIELD FIELD p e refl

one_method : (p : ℕ) → head_of p ≡ Some n.METHOD → p ≡ METHOD
unfolding ilasm
one_method p e = one_in _ _ _ n.METHOD METHOD p e refl

either_is : (q a b : ℕ) → (q == a || q == b) ≡ true → is_among (a ∷ b ∷ []) q ≡ true
either_is q a b e = elim (cases_Bool (q == a)) [
  | inl is ↦ ap (λ (c : Bool). c || ((b == q) || false)) ((Decides-eqb a q).1 (sym ((Decides-eqb q a).0 is)))
  | inr other ↦
      let is : (q == b) ≡ true = sym (ap (λ (c : Bool). c || q == b) other) ∙ e in
      or_right (a == q) ((b == q) || false) (ap (λ (c : Bool). c || false) ((Decides-eqb b q).1 (sym ((Decides-eqb q b).0 is))))
]

module _ (longest : LongestSpelling) (reads : ReadsAsItLexes) (s : Source) (r : IsRight s) (left : Remains s) (c : Around) (few : HasFewTypars c) where
  -- a part that is faultless, and a node of the source
  abbrev IsPlaced : Part → Type 0
  IsPlaced p = IsGood s p × IsThere s c p

  lone_body : (sought : List ℕ) (m : ℕ) → AllOf (λ p. body_of (ilasm p) ≡ Nonterminal m ∷ []) sought → (p : Part) → is_among sought p.production ≡ true → IsGood s p
      → Fits s (Nonterminal m ∷ []) p.below
  lone_body sought m alone p known h =
      subst (λ body. Fits s body p.below) (for_each (λ q. body_of (ilasm q) ≡ Nonterminal m ∷ []) sought alone p.production known) (fits_of s p.production p.below h.0.range.fits)

  field_content : (x : Run) → (is_field_part x.head ≡ true) × IsPlaced x.head → has_content (assembly s) (field s c x) ≡ true
  field_content x h =
      let fits = lone_body (DECL_FIELD ∷ MEMBER_FIELD ∷ []) n.FIELD field_alone x.head (either_is x.head.production DECL_FIELD MEMBER_FIELD h.0) h.1.0 in
      let there = alone_occurs s FIELD n.FIELD one_field x.head.below c fits h.1.1.1 in
      left.fields (record { production = FIELD; below = the FIELD x.head.below; around = c }) there.0 refl

  method_body : (p : Part) → (is_method_part p ≡ true) × IsPlaced p → has_body (assembly s) (method s c (the METHOD p.below)) ≡ true
  method_body p h =
      let fits = lone_body (DECL_METHOD ∷ MEMBER_METHOD ∷ []) n.METHOD method_alone p (either_is p.production DECL_METHOD MEMBER_METHOD h.0) h.1.0 in
      let there = alone_occurs s METHOD n.METHOD one_method p.below c fits h.1.1.1 in
      let own = method_held s p h.0 h.1.0 in
      let around = in_method c (the METHOD p.below) in
      body_formed (assembly s) (body s around (the METHOD p.below))
      (body_names longest reads s r around (record { class = few.class; method = few_typars s (the METHOD p.below) own.1 }) (the METHOD p.below) own.1)
      (form_formed s (all_bounded s r.faultless) (record { production = METHOD; below = the METHOD p.below; around = around })
      (filter_in (λ m. is_among (METHOD ∷ []) m.production) (record { production = METHOD; below = the METHOD p.below; around = around }) (nodes s) there.0 refl)
      (left.methods (record { production = METHOD; below = the METHOD p.below; around = around }) there.0 refl))

  placed : (ps : List Part) → AllByRecursion (IsGood s) ps → AllByRecursion (IsThere s c) ps → AllByRecursion IsPlaced ps
  placed [] h i = tt
  placed (p ∷ ps) h i = ((h.0, i.0), placed ps h.1 i.1)

  heads_placed : (ps : List Part) → AllByRecursion IsPlaced ps → AllByRecursion (λ (x : Run). IsPlaced x.head) (runs ps)
  heads_placed [] h = tt
  heads_placed (p ∷ ps) h = (h.0, heads_placed ps h.1)

  all_twice : (ps : List Part) → AllByRecursion (λ p. (is_method_part p ≡ true) × IsPlaced p) ps → list_all (has_body (assembly s)) (map (method s c) (map (λ p. the METHOD p.below) ps)) ≡ true
  all_twice [] h = refl
  all_twice (p ∷ ps) h =
      and_from (has_body (assembly s) (method s c (the METHOD p.below))) (list_all (has_body (assembly s)) (map (method s c) (map (λ p. the METHOD p.below) ps))) (method_body p h.0) (all_twice ps h.1)

  pub contents_there : (ps : List Part) → AllByRecursion (IsGood s) ps → AllByRecursion (IsThere s c) ps → list_all (has_content (assembly s)) (fields s c ps) ≡ true
  contents_there ps h i =
      all_mapped (λ (x : Run). (is_field_part x.head ≡ true) × IsPlaced x.head) (has_content (assembly s)) (field s c) field_content (filter (λ x. is_field_part x.head) (runs ps))
      (passed (λ (x : Run). IsPlaced x.head) (λ x. is_field_part x.head) (runs ps) (heads_placed ps (placed ps h i)))

  pub bodies_there : (ps : List Part) → AllByRecursion (IsGood s) ps → AllByRecursion (IsThere s c) ps → list_all (has_body (assembly s)) (methods s c ps) ≡ true
  bodies_there ps h i = all_twice (filter is_method_part ps) (passed IsPlaced is_method_part ps (placed ps h i))

  fields_unbroken : (ps : List Part) → AllByRecursion (λ p. (is_field_part p ≡ true) × IsPlaced p) ps
      → AllByRecursion (λ f. is_field_unbroken s c f ≡ true) (map (λ p. the FIELD p.below) ps)
  fields_unbroken [] h = tt
  fields_unbroken (p ∷ ps) h =
      let fits = lone_body (DECL_FIELD ∷ MEMBER_FIELD ∷ []) n.FIELD field_alone p (either_is p.production DECL_FIELD MEMBER_FIELD h.0.0) h.0.1.0 in
      let there = alone_occurs s FIELD n.FIELD one_field p.below c fits h.0.1.1.1 in
      (field_unbroken s (all_declared s r.faultless) (all_bounded s r.faultless) c (the FIELD p.below) there.1, fields_unbroken ps h.1)

  pub fields_apart : IsTotalOrder term_order → (ps : List Part) → AllByRecursion (IsGood s) ps → AllByRecursion (IsThere s c) ps → members_twice_in s c ps ≡ []
      → all_differ is_same_field (fields s c ps) ≡ true
  fields_apart total ps h i e =
      let front = fields_twice s c ps ++ methods_twice s c ps in
      let once = (empty_in (fields_twice s c ps) (methods_twice s c ps) (empty_in front (properties_twice s c ps) (empty_in (front ++ properties_twice s c ps) (events_twice s ps) e).0).0).0 in
      fields_differ total s c ps (fields_unbroken (filter is_field_part ps) (passed IsPlaced is_field_part ps (placed ps h i))) once

  methods_unbroken : (ps : List Part) → AllByRecursion (λ p. (is_method_part p ≡ true) × IsPlaced p) ps
      → AllByRecursion (λ f. is_method_unbroken s c f ≡ true) (map (λ p. the METHOD p.below) ps)
  methods_unbroken [] h = tt
  methods_unbroken (p ∷ ps) h =
      let fits = lone_body (DECL_METHOD ∷ MEMBER_METHOD ∷ []) n.METHOD method_alone p (either_is p.production DECL_METHOD MEMBER_METHOD h.0.0) h.0.1.0 in
      let there = alone_occurs s METHOD n.METHOD one_method p.below c fits h.0.1.1.1 in
      let own = method_held s p h.0.0 h.0.1.0 in
      (method_unbroken s (all_declared s r.faultless) (all_bounded s r.faultless) c (the METHOD p.below) there.1 (few_typars s (the METHOD p.below) own.1), methods_unbroken ps h.1)

  pub methods_apart : IsTotalOrder term_order → (ps : List Part) → AllByRecursion (IsGood s) ps → AllByRecursion (IsThere s c) ps → members_twice_in s c ps ≡ []
      → all_differ is_same_method (methods s c ps) ≡ true
  methods_apart total ps h i e =
      let front = fields_twice s c ps ++ methods_twice s c ps in
      let once = (empty_in (fields_twice s c ps) (methods_twice s c ps) (empty_in front (properties_twice s c ps) (empty_in (front ++ properties_twice s c ps) (events_twice s ps) e).0).0).1 in
      methods_differ total s c ps (methods_unbroken (filter is_method_part ps) (passed IsPlaced is_method_part ps (placed ps h i))) once

  properties_unbroken : (ps : List Part) → AllByRecursion (λ p. ((p.production == MEMBER_PROPERTY) ≡ true) × IsPlaced p) ps
      → AllByRecursion (λ f. is_property_unbroken s c f ≡ true) (map (λ p. the PROPERTY p.below) ps)
  properties_unbroken [] h = tt
  properties_unbroken (p ∷ ps) h =
      let fits : Fits s (Nonterminal n.PROPERTY ∷ []) p.below =
      subst (λ body. Fits s body p.below) property_alone (fits_of s MEMBER_PROPERTY p.below (subst (λ q. FitsBody s q p.below) ((Decides-eqb p.production MEMBER_PROPERTY).0 h.0.0) h.0.1.0.0.range.fits)) in
      let there = alone_occurs s PROPERTY n.PROPERTY one_property p.below c fits h.0.1.1.1 in
      let own = sound_part (IsFaultlessAt s) PROPERTY p.below h.0.1.0.1 (fits_has s (Nonterminal n.PROPERTY ∷ []) p.below n.PROPERTY PROPERTY fits refl one_property) in
      (property_unbroken s (all_declared s r.faultless) (all_bounded s r.faultless) c (the PROPERTY p.below) there.1 own.0.properties, properties_unbroken ps h.1)

  pub properties_apart : IsTotalOrder term_order → (ps : List Part) → AllByRecursion (IsGood s) ps → AllByRecursion (IsThere s c) ps → members_twice_in s c ps ≡ []
      → all_differ is_same_property (properties s c ps) ≡ true
  properties_apart total ps h i e =
      let front = fields_twice s c ps ++ methods_twice s c ps in
      let once = (empty_in front (properties_twice s c ps) (empty_in (front ++ properties_twice s c ps) (events_twice s ps) e).0).1 in
      properties_differ total s c ps (properties_unbroken (filter (λ p. p.production == MEMBER_PROPERTY) ps) (passed IsPlaced (λ p. p.production == MEMBER_PROPERTY) ps (placed ps h i))) once

  pub events_apart : IsTotalOrder term_order → (ps : List Part) → members_twice_in s c ps ≡ [] → all_differ is_same_event (events s c ps) ≡ true
  events_apart total ps e =
      events_differ total s c ps (empty_in (fields_twice s c ps ++ methods_twice s c ps ++ properties_twice s c ps) (events_twice s ps) e).1

-- ---- the class outside of any

same_module : (id : TypeId) → is_module id ≡ true → is_path (id ∷ []) module_path ≡ true
same_module id e =
    let both = and_parts (length id.space == 0) (pointwise nat_eq id.name (codes "<Module>")) e in
    and_from (pointwise nat_eq id.space [] && pointwise nat_eq id.name (codes "<Module>")) true
    (and_from (pointwise nat_eq id.space []) (pointwise nat_eq id.name (codes "<Module>")) (go id.space ((Decides-eqb (length id.space) 0).0 both.0)) both.1) refl
  where
    go : (w : List ℕ) → length w ≡ 0 → pointwise nat_eq w [] ≡ true
    go [] h = refl
    go (x ∷ w) h = absurd (omega (arith, h))

one_longer : (m : ℕ) → (m + 1 == 1) ≡ (m == 0)
one_longer m = elim (cases_Bool (m == 0)) [
  | inl is ↦ let e = (Decides-eqb m 0).0 is in (Decides-eqb (m + 1) 1).1 (omega (arith, e)) ∙ sym is
  | inr other ↦ elim (cases_Bool (m + 1 == 1)) [
    | inl same ↦
        let e = (Decides-eqb (m + 1) 1).0 same in
        let both : (m == 0) ≡ true = (Decides-eqb m 0).1 (omega (arith, e)) in absurd cc
    | inr apart ↦ apart ∙ sym other
  ]
]

-- ---- the base of a class

rooted : (path : List TypeId) (id : TypeId) → is_root (path ++ id ∷ []) ≡ true → ((length (path ++ id ∷ []) == 1) && is_system_object id) ≡ true
rooted [] id e = e
rooted (i ∷ []) id e = absurd cc
rooted (i ∷ j ∷ path) id e = absurd cc

bare : (c : Bool) (k : ℕ) → (if c then k ∷ [] else []) ≡ [] → c ≡ false
bare true k e = absurd cc
bare false k e = refl

wanted : (b : Bool) → (true && not b) ≡ false → b ≡ true
wanted true e = refl
wanted false e = absurd cc

module _ (s : Source) (path : List TypeId) (b : Forest) where
  abbrev place : Around
  place = record { path = path ++ class_id s b ∷ []; class = b; method = none }

  abbrev own_extends : Forest
  own_extends = child (EXTENDS_OPT_SOME ∷ []) b

  core_there : object_undeclared_of s (record { production = CLASS; below = b; around = place }) ≡ []
      → is_interface s b ≡ false → has EXTENDS own_extends ≡ false → is_root place.path ≡ false → is_some (core_scope s) ≡ true
  core_there declared face without other =
      let wants : wants_object s place b ≡ true =
      ap (λ (c : Bool). not (c || has EXTENDS own_extends || is_root place.path)) face
      ∙ ap (λ (c : Bool). not (c || is_root place.path)) without ∙ ap (λ c. not c) other in
      wanted (is_some (core_scope s))
      (sym (ap (λ (c : Bool). c && not (is_some (core_scope s))) wants) ∙ bare (wants_object s place b && not (is_some (core_scope s))) (class_token b) declared)

  object_some : (o : Option Scope) → is_some o ≡ true → is_some (named_object o) ≡ true
  object_some None e = absurd cc
  object_some (Some x) e = refl

  abbrev fits_base : Option Owner → Bool
  fits_base o = is_some o || ((length place.path == 1) && is_system_object (class_id s b))

  given : (o : Option Owner) → is_some o ≡ true → fits_base o ≡ true
  given o e = or_left (is_some o) ((length place.path == 1) && is_system_object (class_id s b)) e

  pub based : object_undeclared_of s (record { production = CLASS; below = b; around = place }) ≡ []
      → is_base (length place.path == 1) (class_id s b) (type_flags s b) (base s place b) ≡ true
  based declared = elim (cases_Bool (is_interface s b)) [
    | inl face ↦
        ap (λ (c : Bool). cond c (is_none (base s place b)) (fits_base (base s place b))) face
        ∙ ap (λ (c : Bool). is_none (if c then None else lower)) face
    | inr face ↦
        ap (λ (c : Bool). cond c (is_none (base s place b)) (fits_base (base s place b))) face
        ∙ ap (λ (c : Bool). fits_base (if c then None else lower)) face
        ∙ elim (cases_Bool (has EXTENDS own_extends)) [
          | inl some ↦ ap (λ (c : Bool). fits_base (if c then Some (the_owner s place own_extends) else lowest)) some ∙ given (Some (the_owner s place own_extends)) refl
          | inr without ↦
              ap (λ (c : Bool). fits_base (if c then Some (the_owner s place own_extends) else lowest)) without
              ∙ elim (cases_Bool (is_root place.path)) [
                | inl root ↦ ap (λ (c : Bool). fits_base (if c then None else named_object (core_scope s))) root ∙ rooted path (class_id s b) root
                | inr other ↦
                    ap (λ (c : Bool). fits_base (if c then None else named_object (core_scope s))) other
                    ∙ given (named_object (core_scope s)) (object_some (core_scope s) (core_there declared face without other))
              ]
        ]
  ]
    where
      lowest : Option Owner
      lowest = if is_root place.path then None else named_object (core_scope s)

      lower : Option Owner
      lower = if has EXTENDS own_extends then Some (the_owner s place own_extends) else lowest

module _ (terms : IsTotalOrder term_order) (total : IsTotalOrder owner_order) (longest : LongestSpelling) (reads : ReadsAsItLexes) (s : Source) (r : IsRight s) (all : AllFaultless s s.tree) (fits : Fits s (Nonterminal n.SOURCE ∷ []) s.tree) (left : Remains s) where
  abbrev A : Assembly
  A = assembly s

  class_around : (c : Around) (p : ℕ) (b : Forest) → (p == CLASS) ≡ true → entered s c p b ≡ record { path = c.path ++ class_id s b ∷ []; class = b; method = none }
  class_around c p b e =
      ap (λ (x : Bool). if x then record { path = c.path ++ class_id s b ∷ []; class = b; method = none }
      else if p == METHOD then record { path = c.path; class = c.class; method = b } else c) e

  other_path : (c : Around) (p : ℕ) (b : Forest) → (p == CLASS) ≡ false → (entered s c p b).path ≡ c.path
  other_path c p b e =
      ap (λ (x : Bool). (if x then record { path = c.path ++ class_id s b ∷ []; class = b; method = none }
      else if p == METHOD then record { path = c.path; class = c.class; method = b } else c).path) e ∙ same (p == METHOD)
    where
      same : (x : Bool) → (if x then record { path = c.path; class = c.class; method = b } else c).path ≡ c.path
      same true = refl
      same false = refl

  abbrev node : Around → ℕ → Forest → Node
  node c p b = record { production = p; below = b; around = entered s c p b }

  -- ---- how deep they nest

  shallow : (n : Node) → Among n (nodes s) → n.production ≡ CLASS → length n.around.path ≤ 100
  shallow n here is =
      let nested = (empty_in (flat_map class_too_deep (nodes s)) (flat_map path_too_long (nodes s)) (all_bounded s r.faultless).nestings).0 in
      let h = if_nothing (n.production == CLASS && nat_lt 100 (length n.around.path)) (class_token n.below) (none_at class_too_deep n (nodes s) here nested) in
      ltb-false 100 (length n.around.path) (sym (ap (λ (x : Bool). x && nat_lt 100 (length n.around.path)) ((Decides-eqb n.production CLASS).1 is)) ∙ h)

  -- the parts of a branch
  occurs_own : (c : Around) (p : ℕ) (b f : Forest) → Occurs s c (branch p b f) → Among (node c p b) (nodes s)
  occurs_own c p b f h = h (node c p b) (inl refl)

  occurs_below : (c : Around) (p : ℕ) (b f : Forest) → Occurs s c (branch p b f) → Occurs s (entered s c p b) b
  occurs_below c p b f h n i = h n (inr (among_front n (nodes_in s (entered s c p b) b) (nodes_in s c f) i))

  occurs_after : (c : Around) (p : ℕ) (b f : Forest) → Occurs s c (branch p b f) → Occurs s c f
  occurs_after c p b f h n i = h n (inr (among_back n (nodes_in s (entered s c p b) b) (nodes_in s c f) i))

  longer : (c : Around) (p : ℕ) (b : Forest) → (p == CLASS) ≡ true → length (entered s c p b).path ≡ length c.path + 1
  longer c p b e = ap (λ (x : Around). length x.path) (class_around c p b e) ∙ length-append c.path (class_id s b ∷ [])

  none_deeper : (f : Forest) (a c : Around) → length c.path ≡ 100 → Occurs s c f → classes_in s a f ≡ []
  none_deeper none a c e h = classes_none s a
  none_deeper (leaf k f) a c e h = classes_leaf s a k f ∙ none_deeper f a c e h
  none_deeper (branch p b f) a c e h = elim (cases_Bool (p == CLASS)) [
    | inl own ↦
        let low = shallow (node c p b) (occurs_own c p b f h) ((Decides-eqb p CLASS).0 own) in
        absurd (omega (arith, low, e, longer c p b own))
    | inr other ↦
        classes_other s a p b f other
        ∙ ap (λ ts. ts ++ classes_in s a f) (none_deeper b a (entered s c p b) (ap (λ (q : List TypeId). length q) (other_path c p b other) ∙ e) (occurs_below c p b f h))
        ∙ none_deeper f a c e (occurs_after c p b f h)
  ]

  -- ---- a class

  abbrev is_fine : Bool → ℕ → TypeDef → Bool
  is_fine top d t = is_own A top (out-TypeDef t) && are_types A false d (out-TypeDef t).nested

  nested_fine : (top : Bool) (d : ℕ) (ts : List TypeDef) → all_differ is_same_id ts ≡ true → (d ≡ 0 → ts ≡ []) → ((e : ℕ) → d ≡ suc e → list_all (is_fine top e) ts ≡ true)
      → are_types A top d ts ≡ true
  unfolding are_types
  nested_fine top zero ts differ empty fine = ap (λ us. length us == 0) (empty refl)
  nested_fine top (suc e) ts differ empty fine = and_from (all_differ is_same_id ts) (list_all (is_fine top e) ts) differ (fine e refl)

  not_outside : (n : Node) → Among n (nodes s) → n.production ≡ CLASS → is_path n.around.path module_path ≡ false
  not_outside n here is =
      let both =
      empty_in (map (λ (m : Node). class_token m.below) (filter is_module_class (classes s)))
      (map (λ (m : Node). class_token m.below) (repeats is_same_class (classes s))) (nothing_twice s r.faultless).types in
      none_passes is_module_class n (classes s)
      (filter_in (λ m. (CLASS == m.production) || false) n (nodes s) here (ap (λ (c : Bool). c || false) ((Decides-eqb CLASS n.production).1 (sym is))))
      (no_map (λ (m : Node). class_token m.below) (filter is_module_class (classes s)) both.0)

  in_classes : (n : Node) → Among n (nodes s) → n.production ≡ CLASS → Among n (classes s)
  in_classes n here is = filter_in (λ m. (CLASS == m.production) || false) n (nodes s) here (ap (λ (c : Bool). c || false) ((Decides-eqb CLASS n.production).1 (sym is)))

  twice_nowhere : (members_twice_in s nothing_around (declarations s.tree) ≡ []) × (flat_map (λ (m : Node). members_twice_in s m.around (members m.below)) (classes s) ≡ [])
  twice_nowhere =
      empty_in (members_twice_in s nothing_around (declarations s.tree)) (flat_map (λ (m : Node). members_twice_in s m.around (members m.below)) (classes s))
      (nothing_twice s r.faultless).members

  members_there : (n : Node) → Among n (nodes s) → n.production ≡ CLASS → members_twice_in s n.around (members n.below) ≡ []
  members_there n here is = none_at (λ (m : Node). members_twice_in s m.around (members m.below)) n (classes s) (in_classes n here is) twice_nowhere.1

  object_there : (n : Node) → Among n (nodes s) → n.production ≡ CLASS → object_undeclared_of s n ≡ []
  object_there n here is = none_at (object_undeclared_of s) n (classes s) (in_classes n here is) (all_declared s r.faultless).objects

  abbrev class_place : List TypeId → Forest → Around
  class_place path b = record { path = path ++ class_id s b ∷ []; class = b; method = none }

  few_around : (path : List TypeId) (b : Forest) → AllFaultless s b → HasFewTypars (class_place path b)
  few_around path b h = record { class = few_typars s b h; method = omega arith }

  apart_of : (path : List TypeId) (b : Forest) → is_path (path ++ class_id s b ∷ []) module_path ≡ false → is_not_module (length path == 0) (class_id s b) ≡ true
  apart_of [] b e = elim (cases_Bool (is_module (class_id s b))) [
    | inl is ↦ let h : true ≡ false = sym (same_module (class_id s b) is) ∙ e in absurd cc
    | inr other ↦ ap (λ c. not c) other
  ]
  apart_of (i ∷ path) b e = ap (λ (c : Bool). not (c && is_module (class_id s b))) (some (length (i ∷ path)) (omega arith))
    where
      some : (m : ℕ) → 0 < m → (m == 0) ≡ false
      some m h = elim (cases_Bool (m == 0)) [
        | inl is ↦ let same = (Decides-eqb m 0).0 is in absurd (omega (arith, h, same))
        | inr other ↦ other
      ]

  own_fine : (path : List TypeId) (b : Forest) (nested : List TypeDef) → IsFaultlessAt s CLASS b → AllFaultless s b
      → ClassRemains s (record { production = CLASS; below = b; around = class_place path b }) → is_path (path ++ class_id s b ∷ []) module_path ≡ false
      → object_undeclared_of s (record { production = CLASS; below = b; around = class_place path b }) ≡ [] → Occurs s (class_place path b) b
      → members_twice_in s (class_place path b) (members b) ≡ [] → is_own A (length path == 0) (out-TypeDef (class_from s (class_place path b) b nested)) ≡ true
  unfolding has_its_accessors members_differ
  own_fine path b nested own each remains apart object occurs twice =
      let good = parts_good s member_productions b each in
      let there = members_occur s b own.range.fits (bodies_of s b each) (class_place path b) occurs in
      ap (is_own A (length path == 0)) (class_is s (class_place path b) b nested)
      ∙ own_formed total longest reads s r (class_place path b) (few_around path b each) b own each (length path == 0) nested (apart_of path b apart)
      (ap (λ (c : Bool). is_base c (type_id s (class_token b)) (type_flags s b) (base s (class_place path b) b))
      (sym (ap (λ m. m == 1) (length-append path (class_id s b ∷ [])) ∙ one_longer (length path))) ∙ based s path b object)
      (contents_there longest reads s r left (class_place path b) (few_around path b each) (members b) good there)
      (bodies_there longest reads s r left (class_place path b) (few_around path b each) (members b) good there) remains.accessors
      (and_from
      (all_differ is_same_field (fields s (class_place path b) (members b)) && all_differ is_same_method (methods s (class_place path b) (members b))
      && all_differ is_same_property (properties s (class_place path b) (members b)))
      (all_differ is_same_event (events s (class_place path b) (members b)))
      (and_from (all_differ is_same_field (fields s (class_place path b) (members b)) && all_differ is_same_method (methods s (class_place path b) (members b)))
      (all_differ is_same_property (properties s (class_place path b) (members b)))
      (and_from (all_differ is_same_field (fields s (class_place path b) (members b))) (all_differ is_same_method (methods s (class_place path b) (members b)))
      (fields_apart longest reads s r left (class_place path b) (few_around path b each) terms (members b) good there twice)
      (methods_apart longest reads s r left (class_place path b) (few_around path b each) terms (members b) good there twice))
      (properties_apart longest reads s r left (class_place path b) (few_around path b each) terms (members b) good there twice))
      (events_apart longest reads s r left (class_place path b) (few_around path b each) terms (members b) twice))

  classes_fine : (f : Forest) (a c : Around) (d : ℕ) → a.path ≡ c.path → d + length c.path + 1 ≡ 100 → Occurs s c f → AllFaultless s f → Apart (paths_in s f)
      → list_all (is_fine (length c.path == 0) d) (classes_in s a f) ≡ true
  classes_fine none a c d same depth occurs each apart = ap (list_all (is_fine (length c.path == 0) d)) (classes_none s a)
  classes_fine (leaf k f) a c d same depth occurs each apart = ap (list_all (is_fine (length c.path == 0) d)) (classes_leaf s a k f) ∙ classes_fine f a c d same depth occurs each apart
  classes_fine (branch p b f) a c d same depth occurs each apart = elim (cases_Bool (p == CLASS)) [
    | inl own ↦
        let x = class_place c.path b in
        let inner : entered s a p b ≡ x = class_around a p b own ∙ ap (λ (q : List TypeId). class_place q b) same in
        let outer : entered s c p b ≡ x = class_around c p b own in
        let is : p ≡ CLASS = (Decides-eqb p CLASS).0 own in
        let here = occurs_own c p b f occurs in
        let distinct : Apart (paths_at s true b (paths_in s b) ++ paths_in s f) = subst (λ (y : Bool). Apart (paths_at s y b (paths_in s b) ++ paths_in s f)) own apart in
        let below : Apart (paths_in s b) = apart_map (λ q. class_id s b ∷ q) (paths_in s b) (apart_front (map (λ q. class_id s b ∷ q) (paths_in s b)) (paths_in s f) distinct.1) in
        let long : length x.path ≡ length c.path + 1 = length-append c.path (class_id s b ∷ []) in
        let deeper : (length x.path == 0) ≡ false = some (length x.path) (omega (arith, long)) in
        let occurs-x : Occurs s x b = subst (λ y. Occurs s y b) outer (occurs_below c p b f occurs) in
        let nested = classes_in s x b in
        let nested_ok = nested_fine false d nested (ids_differ s x b below)
        (λ e. none_deeper b x x (omega (arith, e, depth, long)) occurs-x)
        (λ e g. sym (ap (λ y. list_all (is_fine y e) nested) deeper) ∙ classes_fine b x x e refl (omega (arith, g, depth, long)) occurs-x each.1 below) in
        let remains : ClassRemains s (record { production = CLASS; below = b; around = x }) =
        subst (λ y. ClassRemains s (record { production = CLASS; below = b; around = y })) outer
        (subst (λ q. ClassRemains s (record { production = q; below = b; around = entered s c p b })) is (left.classes (node c p b) here is)) in
        let outside : is_path x.path module_path ≡ false = subst (λ (y : Around). is_path y.path module_path ≡ false) outer (not_outside (node c p b) here is) in
        let object : object_undeclared_of s (record { production = CLASS; below = b; around = x }) ≡ [] =
        subst (λ y. object_undeclared_of s (record { production = CLASS; below = b; around = y }) ≡ []) outer (object_there (node c p b) here is) in
        let twice : members_twice_in s x (members b) ≡ [] =
        subst (λ y. members_twice_in s y (members b) ≡ []) outer (members_there (node c p b) here is) in
        let t = class_from s x b nested in
        ap (list_all (is_fine (length c.path == 0) d)) (classes_own s a p b f own)
        ∙ ap (λ y. list_all (is_fine (length c.path == 0) d) (class_from s y b (classes_in s y b) ∷ classes_in s a f)) inner
        ∙ and_from (is_fine (length c.path == 0) d t) (list_all (is_fine (length c.path == 0) d) (classes_in s a f))
        (and_from (is_own A (length c.path == 0) (out-TypeDef t)) (are_types A false d (out-TypeDef t).nested)
        (own_fine c.path b nested (subst (λ q. IsFaultlessAt s q b) is each.0) each.1 remains outside object occurs-x twice)
        (ap (are_types A false d) (nested_is s x b nested) ∙ nested_ok))
        (classes_fine f a c d same depth (occurs_after c p b f occurs) each.2 (apart_back (paths_at s true b (paths_in s b)) (paths_in s f) distinct))
    | inr other ↦
        let distinct : Apart (paths_in s b ++ paths_in s f) = subst (λ (y : Bool). Apart (paths_at s y b (paths_in s b) ++ paths_in s f)) other apart in
        let path = other_path c p b other in
        ap (list_all (is_fine (length c.path == 0) d)) (classes_other s a p b f other)
        ∙ list_all-append (is_fine (length c.path == 0) d) (classes_in s a b) (classes_in s a f)
        ∙ and_from (list_all (is_fine (length c.path == 0) d) (classes_in s a b)) (list_all (is_fine (length c.path == 0) d) (classes_in s a f))
        (sym (ap (λ (q : List TypeId). list_all (is_fine (length q == 0) d) (classes_in s a b)) path)
        ∙ classes_fine b a (entered s c p b) d (same ∙ sym path) (ap (λ (q : List TypeId). d + length q + 1) path ∙ depth) (occurs_below c p b f occurs) each.1
        (apart_front (paths_in s b) (paths_in s f) distinct))
        (classes_fine f a c d same depth (occurs_after c p b f occurs) each.2 (apart_back (paths_in s b) (paths_in s f) distinct))
  ]
    where
      some : (m : ℕ) → 0 < m → (m == 0) ≡ false
      some m h = elim (cases_Bool (m == 0)) [
        | inl is ↦ let same = (Decides-eqb m 0).0 is in absurd (omega (arith, h, same))
        | inr other ↦ other
      ]

  pub classes_formed : are_classes A ≡ true
  unfolding assembly nodes
  classes_formed =
      nested_fine true 100 (classes_in s nothing_around s.tree) (ids_differ s nothing_around s.tree (no_class_twice s (nothing_twice s r.faultless)))
      (λ e. absurd (omega (arith, e)))
      (λ e g. classes_fine s.tree nothing_around nothing_around e refl (omega (arith, g)) (λ n i. i) all (no_class_twice s (nothing_twice s r.faultless)))

  -- ---- the whole

  pub whole_formed : is_well_formed A ≡ true
  unfolding assembly nodes
  whole_formed =
      let good = parts_good s declared_productions s.tree all in
      let helds = parts_held s declared_productions s.tree all in
      let there = declarations_occur s s.tree fits (bodies_of s s.tree all) nothing_around (λ n i. i) in
      let contents = contents_there longest reads s r left nothing_around outside_few (declarations s.tree) good there in
      let bodies = bodies_there longest reads s r left nothing_around outside_few (declarations s.tree) good there in
      (assemblies_named A).1 (record {
        manifest = manifest_formed longest reads s r all;
        externs = externs_formed longest reads s r all;
        classes = classes_formed;
        fields = fields_formed longest reads s r nothing_around outside_few (declarations s.tree) good helds contents bodies;
        methods = methods_formed longest reads s r nothing_around outside_few (declarations s.tree) good helds contents bodies;
        fields_differ = fields_apart longest reads s r left nothing_around outside_few terms (declarations s.tree) good there twice_nowhere.0;
        methods_differ = methods_apart longest reads s r left nothing_around outside_few terms (declarations s.tree) good there twice_nowhere.0;
        one_entry = left.one_entry;
      })
