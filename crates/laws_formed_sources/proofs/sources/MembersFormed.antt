-- The members that a faultless source declares are well formed (ECMA-335 II.15 to II.18).
use Rattle.std.proofs.Common.{◌≡◌, ℕ, suc, ◌+◌, ◌<◌, ◌≤◌, inl, inr, List, [], ◌∷◌, ◌++◌, Option, None, Some, length, refl, ap, sym, subst, ◌∙◌, arith, nat_lt, nat_le}
use Rattle.std.specs.Prelude.{Bool, true, false, not, ◌==◌, ◌||◌, ◌&&◌, if◌then◌else◌, fold, filter, slice_get}
use Rattle.std.specs.List.{AllByRecursion, enumerate_from, flat_map, list_all}
use Rattle.std.proofs.lemmas.Bool.{and_from, and_parts, cases_Bool, le-leb, lt-ltb, or_left}
use Rattle.std.proofs.lemmas.Bool.Decides.{Decides-eqb}
use Rattle.std.proofs.lemmas.List.{length-map}
use Rattle.std.proofs.lemmas.List.Folds.{list_all-append}
use Rattle.std.proofs.lemmas.Option.{same_Some}
use Rattle.il_lexer.specs.Longest.{LongestSpelling}
use Rattle.il_lexer.specs.Unplaced.{ReadsAsItLexes}
use Rattle.il_lexer.specs.declared.types.TokenKind.TheVariants as kind
use Rattle.type_terms.specs.declared.reference.MethodRef.{MethodRef}
use Rattle.assembly_tree.specs.DataSize.{size_in_data}
use Rattle.assembly_tree.specs.declared.assembly.Assembly.{Assembly}
use Rattle.assembly_tree.specs.declared.members.Constant.{Constant}
use Rattle.assembly_tree.specs.declared.members.Param.{Param}
use Rattle.assembly_tree.specs.WellFormedBodies.{is_body}
use Rattle.assembly_tree.specs.WellFormedMembers.{are_params, is_attribute, is_clear, is_constant, is_content, is_event, is_event_accessor, is_field, is_generic, is_method, is_param, is_param_before, is_property, is_property_accessor}
use Rattle.assembly_tree.specs.WellFormedNames.{before_first, has_no_zero, is_name, option_all, rises}
use Rattle.assembly_tree.specs.WellFormedTerms.{is_method_ref, is_owner, is_plain_ref}
use Rattle.assembly_tree.proofs.FormedFacts.{events_named, fields_named, method_refs_named, methods_named, properties_named}
use Rattle.ilasm_grammar.specs.Ilasm.{ilasm, rule_by}
use Rattle.ilasm_grammar.specs.declared.nonterminals.TheConstants as n
use Rattle.ilasm_grammar.specs.declared.productions.TheConstants.{DEF_ARG, DEF_ARGS_OPT_SOME, EVENT, EVENT_ITEM_ADDON, EVENT_ITEM_CUSTOM, EVENT_ITEM_FIRE, EVENT_ITEM_OTHER, EVENT_ITEM_REMOVEON, FIELD, METHOD, METHOD_REF, NAME_OPT_SOME, OVERRIDDEN_METHOD, OVERRIDDEN_SPEC, PROPERTY, PROPERTY_ITEM_CUSTOM, PROPERTY_ITEM_GET, PROPERTY_ITEM_OTHER, PROPERTY_ITEM_SET, TYPAR, TYPAR_BOUNDS, TYPARS_OPT_SOME, TYPE}
use Rattle.ilasm_grammar.specs.declared.terminals.TheConstants as t
use Rattle.source_model.specs.Bodies.{body}
use Rattle.source_model.specs.Classes.{assembly}
use Rattle.source_model.specs.Constants.{constant_of}
use Rattle.source_model.specs.Data.{content}
use Rattle.source_model.specs.Forest.{Forest, Part, none, child, each, has, is_among, leaf_at, parts, the}
use Rattle.source_model.specs.Items.{Run, items_and_ends, runs}
use Rattle.source_model.specs.Manifests.{attributes}
use Rattle.source_model.specs.Members.{accessor, accessor_kind, accessors_in, event, field_from, field_token, method_from, overridden, property, property_token}
use Rattle.source_model.specs.Nodes.{Around, typar_names, typars}
use Rattle.source_model.specs.Parameters.{attributes_of, generic, generics, has_row, line_constant, later_constant, parameter_name, parameter_number, parameters, params, row, rows_of, speaks_of_parameter, speaks_of_typar, typar_number}
use Rattle.source_model.specs.References.{argument_types, method_name, method_ref, method_signature}
use Rattle.source_model.specs.Signatures.{generic_arguments_token}
use Rattle.source_model.specs.Source.{Source}
use Rattle.source_model.specs.Types.{owners_in, the_owner, the_type, type_of}
use Rattle.source_model.specs.Values.{name_text}
use Rattle.source_nodes.specs.Derived.{FitsBody, head_of}
use Rattle.source_nodes.specs.Readers.{IsOf as IsKind}
use Rattle.source_syntax.proofs.BodyLemmas.{all_in, fits_has, goes_on_with, has_child, nowhere_below, StaysChosen, closed_rule}
use Rattle.source_syntax.proofs.NameTokens.{name_at, terminals_of_rule, typar_is_name}
use Rattle.source_syntax.proofs.ReferenceLemmas.{of_child, of_the, sound_part}
use Rattle.source_flags.proofs.Gathered.{IsSought, all_append, all_follow, of_parts}
use Rattle.laws_formed_sources.specs.sources.Laws.{IsRight}
use Rattle.laws_formed_sources.specs.sources.Productions.{AllFaultless, HasFewTypars, IsFaultlessAt}
use Rattle.laws_formed_sources.proofs.sources.Attributes as held
use Rattle.laws_formed_sources.proofs.sources.Attributes.{IsAttribute, IsGood, IsHeld, IsRunOf, items_held, one_ref, runs_held}
use Rattle.laws_formed_sources.proofs.sources.ClearBits.{clear}
use Rattle.laws_formed_sources.proofs.sources.Constants.{constant_of_formed}
use Rattle.laws_formed_sources.proofs.sources.ImplementationFlags.{implementation_formed}
use Rattle.laws_formed_sources.proofs.sources.Parts.{IsOf, all_mapped, all_numbered, each_good, filtered}
use Rattle.laws_formed_sources.proofs.sources.References.{method_named}
use Rattle.laws_formed_sources.proofs.sources.Right as right
use Rattle.laws_formed_sources.proofs.sources.Rules.{AllOf, IsHeaded, Stays, all_headed, body_of, fits_of, for_each, stays_from}
use Rattle.laws_formed_sources.proofs.sources.Types.{bodies_of}

-- ---- tokens of names

field_name : slice_get (terminals_of_rule (ilasm FIELD)) 1 ≡ Some t.NAME
unfolding ilasm rule_by
field_name = refl

property_name : slice_get (terminals_of_rule (ilasm PROPERTY)) 1 ≡ Some t.NAME
unfolding ilasm rule_by
property_name = refl

event_name : slice_get (terminals_of_rule (ilasm EVENT)) 1 ≡ Some t.NAME
unfolding ilasm rule_by
event_name = refl

name_opt : slice_get (terminals_of_rule (ilasm NAME_OPT_SOME)) 0 ≡ Some t.NAME
unfolding ilasm rule_by
name_opt = refl

has_method_name : goes_on_with n.METHOD_NAME (body_of (ilasm METHOD)) ≡ true
unfolding ilasm rule_by
has_method_name = refl

spec_has_name : goes_on_with n.METHOD_NAME (body_of (ilasm OVERRIDDEN_SPEC)) ≡ true
unfolding ilasm rule_by
spec_has_name = refl

has_reference : goes_on_with n.METHOD_REF (body_of (ilasm OVERRIDDEN_METHOD)) ≡ true
unfolding ilasm rule_by
has_reference = refl

-- the nonterminals of what a parameter has beside its name
abbrev in_argument : ℕ → Bool
in_argument m = m == n.FLAGS || (m == n.PARAM_ATTR_STAR || (m == n.PARAM_ATTR || (nat_le n.TYPE m && nat_le m n.SPEC)))

argument_stays : StaysChosen in_argument n.NAME_OPT
unfolding ilasm
argument_stays p r is c = closed_rule in_argument n.NAME_OPT _ _ _ p r is c refl

head_name_opt : head_of NAME_OPT_SOME ≡ Some n.NAME_OPT
unfolding ilasm rule_by
head_name_opt = refl

argument_enters : all_in (λ m. m == n.NAME_OPT || in_argument m) (body_of (ilasm DEF_ARG)) ≡ true
unfolding ilasm rule_by
argument_enters = refl

-- ---- accessors

-- what leads to the items of an event, and to those of a property
abbrev above : List ℕ
above = n.SOURCE ∷ n.DECL_STAR ∷ n.DECL ∷ n.CLASS ∷ n.MEMBER_STAR ∷ n.MEMBER ∷ []

abbrev no_event : ℕ → Bool
no_event m = not (is_among (n.EVENT ∷ n.EVENT_ITEM_STAR ∷ n.EVENT_ITEM ∷ above) m)

abbrev no_property : ℕ → Bool
no_property m = not (is_among (n.PROPERTY ∷ n.PROPERTY_ITEM_STAR ∷ n.PROPERTY_ITEM ∷ above) m)

no_event_stays : Stays no_event
unfolding ilasm
no_event_stays p r is c = stays_from no_event _ _ _ p r is c refl

no_property_stays : Stays no_property
unfolding ilasm
no_property_stays p r is c = stays_from no_property _ _ _ p r is c refl

property_without_events : all_in no_event (body_of (ilasm PROPERTY)) ≡ true
unfolding ilasm rule_by
property_without_events = refl

event_without_properties : all_in no_property (body_of (ilasm EVENT)) ≡ true
unfolding ilasm rule_by
event_without_properties = refl

abbrev accessors : List ℕ
accessors = PROPERTY_ITEM_GET ∷ PROPERTY_ITEM_SET ∷ PROPERTY_ITEM_OTHER ∷ EVENT_ITEM_ADDON ∷ EVENT_ITEM_REMOVEON ∷ EVENT_ITEM_FIRE ∷ EVENT_ITEM_OTHER ∷ []

heads_are : AllOf (λ p. head_of p ≡ Some n.PROPERTY_ITEM) (PROPERTY_ITEM_GET ∷ PROPERTY_ITEM_SET ∷ PROPERTY_ITEM_OTHER ∷ [])
unfolding ilasm rule_by
heads_are = (refl, (refl, (refl, tt)))

event_heads_are : AllOf (λ p. head_of p ≡ Some n.EVENT_ITEM) (EVENT_ITEM_ADDON ∷ EVENT_ITEM_REMOVEON ∷ EVENT_ITEM_FIRE ∷ [])
unfolding ilasm rule_by
event_heads_are = (refl, (refl, (refl, tt)))

barred : (chosen : ℕ → Bool) (p l : ℕ) (b : Forest) → head_of p ≡ Some l → chosen l ≡ false → IsHeaded chosen p b → ⊥
barred chosen p l b head other h =
    let same : h.0 ≡ l = same_Some h.0 l (sym h.1 ∙ head) in
    let both : true ≡ false = sym h.2 ∙ ap chosen same ∙ other in
    absurd cc

property_kind : (p : ℕ) (b : Forest) → is_among accessors p ≡ true → IsHeaded no_event p b
    → ((accessor_kind p == 1) || (accessor_kind p == 2) || (accessor_kind p == 4)) ≡ true
property_kind p b known h =
    for_each Q accessors (
      (λ i. refl),
      (
        (λ i. refl),
        (
          (λ i. refl),
          (
            (λ i. absurd (barred no_event EVENT_ITEM_ADDON n.EVENT_ITEM b event_heads_are.0 refl i)),
            (
              (λ i. absurd (barred no_event EVENT_ITEM_REMOVEON n.EVENT_ITEM b event_heads_are.1.0 refl i)),
              ((λ i. absurd (barred no_event EVENT_ITEM_FIRE n.EVENT_ITEM b event_heads_are.1.1.0 refl i)), ((λ i. refl), tt)),
            ),
          ),
        ),
      ),
    )
    p known h
  where
    Q : ℕ → Type 0
    Q q = IsHeaded no_event q b → ((accessor_kind q == 1) || (accessor_kind q == 2) || (accessor_kind q == 4)) ≡ true

event_kind : (p : ℕ) (b : Forest) → is_among accessors p ≡ true → IsHeaded no_property p b
    → ((accessor_kind p == 4) || (accessor_kind p == 8) || (accessor_kind p == 0x10) || (accessor_kind p == 0x20)) ≡ true
event_kind p b known h =
    for_each Q accessors (
      (λ i. absurd (barred no_property PROPERTY_ITEM_GET n.PROPERTY_ITEM b heads_are.0 refl i)),
      (
        (λ i. absurd (barred no_property PROPERTY_ITEM_SET n.PROPERTY_ITEM b heads_are.1.0 refl i)),
        ((λ i. refl), ((λ i. refl), ((λ i. refl), ((λ i. refl), ((λ i. refl), tt))))),
      ),
    )
    p known h
  where
    Q : ℕ → Type 0
    Q q = IsHeaded no_property q b → ((accessor_kind q == 4) || (accessor_kind q == 8) || (accessor_kind q == 0x10) || (accessor_kind q == 0x20)) ≡ true

-- ---- members

module _ (longest : LongestSpelling) (reads : ReadsAsItLexes) (s : Source) (r : IsRight s) (a : Around) (few : HasFewTypars a) where
  abbrev A : Assembly
  A = assembly s

  named : (k : ℕ) → IsKind s kind.Name k → is_name (name_text s k) ≡ true
  named k h = right.named longest reads s r k h

  plain : (f : Forest) → IsFaultlessAt s METHOD_REF f → AllFaultless s f → generic_arguments_token f ≡ [] → is_plain_ref A (method_ref s a f) ≡ true
  plain f own all = right.plain_ref_formed longest reads s r a few f own all

  lines : (rs : List Run) → AllByRecursion (IsRunOf s) rs → list_all (is_attribute A) (attributes_of s a rs) ≡ true
  lines rs h = held.lines_formed s a A plain rs h

  behind : (ps : List Part) → AllByRecursion (IsAttribute s) ps → list_all (is_attribute A) (attributes s a ps) ≡ true
  behind ps h = held.attributes_formed s a A plain ps h

  -- ---- generic parameters

  generic_formed : (names : List (List ℕ)) (rs : List Run) → AllByRecursion (IsRunOf s) rs → (x : ℕ × Forest) → IsOf s TYPAR x.1 → is_generic A (generic s a names rs x) ≡ true
  unfolding is_generic
  generic_formed names rs h (k, f) own =
      let bounds = right.owners_formed longest reads s r a few (the TYPAR_BOUNDS f) (of_the (IsFaultlessAt s) TYPAR_BOUNDS f own.1) in
      and_from (is_name (name_text s (leaf_at 0 f)) && list_all (is_owner A) (owners_in s a (the TYPAR_BOUNDS f)))
      (list_all (is_attribute A) (attributes_of s a (filter (λ x. typar_number s names x.head.below == k) rs)))
      (and_from (is_name (name_text s (leaf_at 0 f))) (list_all (is_owner A) (owners_in s a (the TYPAR_BOUNDS f)))
      (named (leaf_at 0 f) (typar_is_name s f (own.0.range.fits, bodies_of s f own.1))) bounds)
      (lines (filter (λ x. typar_number s names x.head.below == k) rs) (filtered (IsRunOf s) (λ x. typar_number s names x.head.below == k) rs h))

  pub generics_formed : (f : Forest) → AllFaultless s f → (rs : List Run) → AllByRecursion (IsRunOf s) rs → list_all (is_generic A) (generics s a f rs) ≡ true
  generics_formed f all rs h =
      all_mapped (λ x. IsOf s TYPAR x.1) (is_generic A) (generic s a (typar_names s f) (filter speaks_of_typar rs))
      (generic_formed (typar_names s f) (filter speaks_of_typar rs) (filtered (IsRunOf s) speaks_of_typar rs h))
      (enumerate_from 0 (typars f))
      (all_numbered (IsOf s TYPAR) 0 (typars f) (each_good s TYPAR (child (TYPARS_OPT_SOME ∷ []) f) (of_child (IsFaultlessAt s) (TYPARS_OPT_SOME ∷ []) f all)))

  -- ---- parameters

  parameter_named : (f : Forest) → IsOf s DEF_ARG f → has_no_zero (parameter_name s f) ≡ true
  parameter_named f own = elim (cases_Bool (has NAME_OPT_SOME f)) [
    | inl some ↦
        let c = has_child (IsFaultlessAt s) NAME_OPT_SOME f own.1
        (nowhere_below in_argument n.NAME_OPT argument_stays s NAME_OPT_SOME n.NAME_OPT head_name_opt refl f (body_of (ilasm DEF_ARG)) (fits_of s DEF_ARG f own.0.range.fits) (bodies_of s f own.1) argument_enters) some in
        let k = leaf_at 0 (child (NAME_OPT_SOME ∷ []) f) in
        let whole = named k (name_at s NAME_OPT_SOME 0 (child (NAME_OPT_SOME ∷ []) f) name_opt c.0.range.fits) in
        ap (λ (c : Bool). has_no_zero (if c then name_text s k else [])) some
        ∙ (and_parts (nat_lt 0 (length (name_text s k))) (has_no_zero (name_text s k)) whole).1
    | inr missing ↦ ap (λ (c : Bool). has_no_zero (if c then name_text s (leaf_at 0 (child (NAME_OPT_SOME ∷ []) f)) else [])) missing
  ]

  constants_fold : (rs : List Run) (c : Option Constant) → option_all is_constant c ≡ true → option_all is_constant (fold (line_constant s) c rs) ≡ true
  constants_fold [] c h = h
  constants_fold (x ∷ rs) c h = constants_fold rs (line_constant s c x) (either (constant_of s x.head.below) (constant_of_formed s x.head.below))
    where
      either : (o : Option Constant) → option_all is_constant o ≡ true → option_all is_constant (later_constant c o) ≡ true
      either None i = h
      either (Some d) i = i

  -- a parameter, or the return value, which has no name
  abbrev IsParameter : ℕ × Forest → Type 0
  IsParameter x = (has_no_zero (parameter_name s x.1) ≡ true) × ((not (x.0 == 0) || (length (parameter_name s x.1) == 0)) ≡ true)

  row_formed : (k : ℕ) (f : Forest) (own : List Run) → IsParameter (k, f) → AllByRecursion (IsRunOf s) own → is_param A (row s a k f own) ≡ true
  unfolding is_param
  row_formed k f own h rs =
      let p = row s a k f own in
      let p1 = and_from (has_no_zero p.name) (not (p.number == 0) || (length p.name == 0)) h.0 h.1 in
      let p2 = and_from (has_no_zero p.name && (not (p.number == 0) || (length p.name == 0))) (is_clear 0x1000 p.flags) p1 (clear _ 0x1000 (omega arith)) in
      let p3 = and_from (has_no_zero p.name && (not (p.number == 0) || (length p.name == 0)) && is_clear 0x1000 p.flags) (option_all is_constant p.constant) p2 (constants_fold own None refl) in
      and_from (has_no_zero p.name && (not (p.number == 0) || (length p.name == 0)) && is_clear 0x1000 p.flags && option_all is_constant p.constant) (list_all (is_attribute A) p.attributes) p3 (lines own rs)

  rows_formed : (rs : List Run) → AllByRecursion (IsRunOf s) rs → (xs : List (ℕ × Forest)) → AllByRecursion IsParameter xs
      → list_all (is_param A) (flat_map (rows_of s a rs) xs) ≡ true
  rows_formed rs h [] ps = refl
  rows_formed rs h ((k, f) ∷ xs) ps =
      list_all-append (is_param A) (rows_of s a rs (k, f)) (flat_map (rows_of s a rs) xs)
      ∙ and_from (list_all (is_param A) (rows_of s a rs (k, f))) (list_all (is_param A) (flat_map (rows_of s a rs) xs))
      (one (has_row own f)) (rows_formed rs h xs ps.1)
    where
      own : List Run
      own = filter (λ x. parameter_number s x.head.below == k) rs

      one : (c : Bool) → list_all (is_param A) (if c then row s a k f own ∷ [] else []) ≡ true
      one true = and_from (is_param A (row s a k f own)) true (row_formed k f own ps.0 (filtered (IsRunOf s) (λ x. parameter_number s x.head.below == k) rs h)) refl
      one false = refl

  numbered_parameters : (k : ℕ) (fs : List Forest) → AllByRecursion (IsOf s DEF_ARG) fs → AllByRecursion IsParameter (enumerate_from (1 + k) fs)
  numbered_parameters k [] h = tt
  numbered_parameters k (f ∷ fs) h =
      let next : 1 + k + 1 ≡ 1 + (k + 1) = omega arith in
      let some : (1 + k == 0) ≡ false = false-of (1 + k) (omega arith) in (
        (parameter_named f h.0, or_left (not (1 + k == 0)) (length (parameter_name s f) == 0) (ap (λ c. not c) some)),
        subst (λ m. AllByRecursion IsParameter (enumerate_from m fs)) (sym next) (numbered_parameters (k + 1) fs h.1),
      )
    where
      false-of : (m : ℕ) → 0 < m → (m == 0) ≡ false
      false-of m i = elim (cases_Bool (m == 0)) [
        | inl is ↦ let same = (Decides-eqb m 0).0 is in absurd (omega (arith, i, same))
        | inr other ↦ other
      ]

  pub params_formed : (f : Forest) → AllFaultless s f → (rs : List Run) → AllByRecursion (IsRunOf s) rs → list_all (is_param A) (params s a f rs) ≡ true
  params_formed f all rs h =
      rows_formed (filter speaks_of_parameter rs) (filtered (IsRunOf s) speaks_of_parameter rs h) ((0, none) ∷ enumerate_from 1 (parameters f))
      ((refl, refl), numbered_parameters 0 (parameters f) (each_good s DEF_ARG (child (DEF_ARGS_OPT_SOME ∷ []) f) (of_child (IsFaultlessAt s) (DEF_ARGS_OPT_SOME ∷ []) f all)))

  -- ---- fields

  -- but for its data
  pub field_formed : (f : Forest) → IsFaultlessAt s FIELD f → AllFaultless s f → (customs : List Part) → AllByRecursion (IsAttribute s) customs
      → is_content (size_in_data A (type_of s a (child (TYPE ∷ []) f))) (content s (type_of s a (child (TYPE ∷ []) f)) f) ≡ true
      → is_field A (field_from s a f customs) ≡ true
  field_formed f own all customs h inside = (fields_named A (field_from s a f customs)).1 (record {
    name = named (field_token f) (name_at s FIELD 1 f field_name own.range.fits);
    flags = clear _ 0x8100 (omega arith);
    of = right.child_type_formed longest reads s r a few f all;
    constant = constant_of_formed s f;
    content = inside;
    attributes = behind customs h;
  })

  -- ---- properties and events

  accessors_headed : (chosen : ℕ → Bool) → Stays chosen → (p : ℕ) (f : Forest) → all_in chosen (body_of (ilasm p)) ≡ true → FitsBody s p f → AllFaultless s f
      → AllByRecursion (IsSought (IsHeaded chosen) accessors) (accessors_in f)
  accessors_headed chosen closed p f e fits all =
      of_parts (IsHeaded chosen) accessors f (all_headed chosen closed s f (body_of (ilasm p)) (fits_of s p f fits) (bodies_of s f all) e)

  pub property_formed : (ms : List Forest) (f : Forest) → IsFaultlessAt s PROPERTY f → AllFaultless s f → is_property A (property s a ms f) ≡ true
  property_formed ms f own all = (properties_named A (property s a ms f)).1 (record {
    name = named (property_token f) (name_at s PROPERTY 1 f property_name own.range.fits);
    flags = clear _ 0x1000 (omega arith);
    declaration = refl;
    sig = right.property_signature_formed longest reads s r a few f all;
    constant = constant_of_formed s f;
    accessors = all_mapped (IsSought (IsHeaded no_event) accessors) is_property_accessor (accessor s a ms) (λ p h. property_kind p.production p.below h.0 h.1) (accessors_in f)
        (accessors_headed no_event no_event_stays PROPERTY f property_without_events own.range.fits all);
    attributes = behind (parts (PROPERTY_ITEM_CUSTOM ∷ []) f) (held.customs_sought s PROPERTY_ITEM_CUSTOM refl f all);
  })

  pub event_formed : (ms : List Forest) (f : Forest) → IsFaultlessAt s EVENT f → AllFaultless s f → is_event A (event s a ms f) ≡ true
  event_formed ms f own all = (events_named A (event s a ms f)).1 (record {
    name = named (property_token f) (name_at s EVENT 1 f event_name own.range.fits);
    of = right.first_formed longest reads s r a few (owners_in s a f) (right.owners_formed longest reads s r a few f all);
    accessors = all_mapped (IsSought (IsHeaded no_property) accessors) is_event_accessor (accessor s a ms) (λ p h. event_kind p.production p.below h.0 h.1) (accessors_in f)
        (accessors_headed no_property no_property_stays EVENT f event_without_properties own.range.fits all);
    attributes = behind (parts (EVENT_ITEM_CUSTOM ∷ []) f) (held.customs_sought s EVENT_ITEM_CUSTOM refl f all);
  })

  -- ---- rows of parameters rise

  abbrev IsBetween : ℕ → ℕ → Param → Type 0
  IsBetween low high p = (low ≤ p.number) × (p.number < high)

  rows_between : (rs : List Run) (k : ℕ) (fs : List Forest) → AllByRecursion (IsBetween k (k + length fs)) (flat_map (rows_of s a rs) (enumerate_from k fs))
  rows_between rs k [] = tt
  rows_between rs k (f ∷ fs) =
      all_append (IsBetween k (k + suc (length fs))) (rows_of s a rs (k, f)) (flat_map (rows_of s a rs) (enumerate_from (k + 1) fs)) (one (has_row own f))
      (all_follow (IsBetween (k + 1) (k + 1 + length fs)) (IsBetween k (k + suc (length fs))) (flat_map (rows_of s a rs) (enumerate_from (k + 1) fs)) (λ p h. wider p h) (rows_between rs (k + 1) fs))
    where
      own : List Run
      own = filter (λ x. parameter_number s x.head.below == k) rs

      wider : (p : Param) → IsBetween (k + 1) (k + 1 + length fs) p → IsBetween k (k + suc (length fs)) p
      wider p h = (omega (arith, h.0), omega (arith, h.1))

      one : (c : Bool) → AllByRecursion (IsBetween k (k + suc (length fs))) (if c then row s a k f own ∷ [] else [])
      one true = ((omega arith, omega arith), tt)
      one false = tt

  rows_rise : (rs : List Run) (k : ℕ) (fs : List Forest) → rises is_param_before (flat_map (rows_of s a rs) (enumerate_from k fs)) ≡ true
  rows_rise rs k [] = refl
  rows_rise rs k (f ∷ fs) = one (has_row own f) (flat_map (rows_of s a rs) (enumerate_from (k + 1) fs)) (rows_between rs (k + 1) fs) (rows_rise rs (k + 1) fs)
    where
      own : List Run
      own = filter (λ x. parameter_number s x.head.below == k) rs

      first : (ps : List Param) → AllByRecursion (IsBetween (k + 1) (k + 1 + length fs)) ps → before_first is_param_before (row s a k f own) ps ≡ true
      first [] h = refl
      first (p ∷ ps) h = lt-ltb k p.number (omega (arith, h.0.0))

      one : (c : Bool) (ps : List Param) → AllByRecursion (IsBetween (k + 1) (k + 1 + length fs)) ps → rises is_param_before ps ≡ true
          → rises is_param_before ((if c then row s a k f own ∷ [] else []) ++ ps) ≡ true
      one true ps h i = and_from (before_first is_param_before (row s a k f own) ps) (rises is_param_before ps) (first ps h) i
      one false ps h i = i

  pub params_numbered : (f : Forest) (rs : List Run) → are_params (length (argument_types s a (child (DEF_ARGS_OPT_SOME ∷ []) f))) (params s a f rs) ≡ true
  params_numbered f rs =
      and_from (rises is_param_before (params s a f rs)) (list_all (λ p. nat_le p.number count) (params s a f rs))
      (rows_rise (filter speaks_of_parameter rs) 0 (none ∷ parameters f))
      (low (params s a f rs) (rows_between (filter speaks_of_parameter rs) 0 (none ∷ parameters f)))
    where
      count : ℕ
      count = length (argument_types s a (child (DEF_ARGS_OPT_SOME ∷ []) f))

      many : count ≡ length (parameters f)
      many = length-map (each DEF_ARG (child (DEF_ARGS_OPT_SOME ∷ []) f)) (λ d. the_type s a d)

      low : (ps : List Param) → AllByRecursion (IsBetween 0 (0 + suc (length (parameters f)))) ps → list_all (λ p. nat_le p.number count) ps ≡ true
      low [] h = refl
      low (p ∷ ps) h = and_from (nat_le p.number count) (list_all (λ p. nat_le p.number count) ps) (le-leb p.number count (omega (arith, h.0.1, many))) (low ps h.1)

  -- ---- methods

  abbrev by_its_name : Forest → Part → MethodRef
  by_its_name f p = record { owner = the_owner s a p.below; name = method_name s p.below; sig = method_signature s a f; args = None }

  override_formed : (f : Forest) → AllFaultless s f → (p : Part) → IsSought (IsFaultlessAt s) (OVERRIDDEN_METHOD ∷ OVERRIDDEN_SPEC ∷ []) p
      → is_plain_ref A (overridden s a f p) ≡ true
  unfolding is_plain_ref
  override_formed f all p h =
      for_each Q (OVERRIDDEN_METHOD ∷ OVERRIDDEN_SPEC ∷ []) (
        (λ own.
            let some = fits_has s (body_of (ilasm OVERRIDDEN_METHOD)) p.below n.METHOD_REF METHOD_REF (fits_of s OVERRIDDEN_METHOD p.below own.range.fits) has_reference one_ref in
            let ref = sound_part (IsFaultlessAt s) METHOD_REF p.below h.2 some in
            plain (the METHOD_REF p.below) ref.0 ref.1 own.arguments),
        ((λ own. by_name own), tt),
      )
      p.production h.0 h.1
    where
      Q : ℕ → Type 0
      Q q = IsFaultlessAt s q p.below → is_plain_ref A (if q == OVERRIDDEN_METHOD then method_ref s a (the METHOD_REF p.below) else (by_its_name f p)) ≡ true

      by_name : IsFaultlessAt s OVERRIDDEN_SPEC p.below → is_plain_ref A (by_its_name f p) ≡ true
      by_name own =
          and_from true (is_method_ref A (by_its_name f p)) refl
          ((method_refs_named A (by_its_name f p)).1 (record {
            name = method_named longest reads s r.read.lexes named p.below (body_of (ilasm OVERRIDDEN_SPEC)) (fits_of s OVERRIDDEN_SPEC p.below own.range.fits) h.2 spec_has_name;
            arguments = refl;
            owner = right.first_formed longest reads s r a few (owners_in s a p.below) (right.owners_formed longest reads s r a few p.below h.2);
            sig = right.method_signature_formed longest reads s r a few f all;
            args = refl;
          }))

  -- but for its body
  pub method_formed : (f : Forest) → IsFaultlessAt s METHOD f → AllFaultless s f → option_all (is_body A) (body s a f) ≡ true → is_method A (method_from s a f) ≡ true
  method_formed f own all inside = (methods_named A (method_from s a f)).1 (record {
    name = method_named longest reads s r.read.lexes named f (body_of (ilasm METHOD)) (fits_of s METHOD f own.range.fits) all has_method_name;
    impl_flags = implementation_formed s f all;
    declaration = (Decides-eqb (length (typars f)) (length (generics s a f (runs (items_and_ends f))))).1 generic_count;
    sig = right.method_signature_formed longest reads s r a few f all;
    numbers = params_numbered f (runs (items_and_ends f));
    generics = generics_formed f all (runs (items_and_ends f)) (runs_held s (items_and_ends f) (items_held s f all));
    params = params_formed f all (runs (items_and_ends f)) (runs_held s (items_and_ends f) (items_held s f all));
    overrides = all_mapped (IsSought (IsFaultlessAt s) (OVERRIDDEN_METHOD ∷ OVERRIDDEN_SPEC ∷ [])) (is_plain_ref A) (overridden s a f) (override_formed f all)
        (parts (OVERRIDDEN_METHOD ∷ OVERRIDDEN_SPEC ∷ []) f) (of_parts (IsFaultlessAt s) (OVERRIDDEN_METHOD ∷ OVERRIDDEN_SPEC ∷ []) f all);
    body = inside;
    attributes = held.own_attributes_formed s a A plain (items_and_ends f) (items_held s f all);
  })
    where
      numbered_count : {X : Type 0} (k : ℕ) (xs : List X) → length (enumerate_from k xs) ≡ length xs
      numbered_count k [] = refl
      numbered_count k (x ∷ xs) = ap suc (numbered_count (k + 1) xs)

      generic_count : length (typars f) ≡ length (generics s a f (runs (items_and_ends f)))
      generic_count =
          sym (length-map (enumerate_from 0 (typars f)) (generic s a (typar_names s f) (filter speaks_of_typar (runs (items_and_ends f)))) ∙ numbered_count 0 (typars f))
