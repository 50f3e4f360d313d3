-- The classes that a faultless source declares are well formed, each by itself (ECMA-335 II.10, II.22.37).
use Rattle.std.proofs.Common.{◌≡◌, ℕ, suc, ◌+◌, ◌⊎◌, inl, inr, List, [], ◌∷◌, Option, None, Some, length, map, refl, ap, sym, subst, ◌∙◌, arith, nat_lt}
use Rattle.std.specs.Prelude.{Bool, true, false, ◌==◌, ◌||◌, ◌&&◌, if◌then◌else◌, fold, filter, position, ℤ, pos, negsuc}
use Rattle.std.specs.List.{AllByRecursion, enumerate_from, list_all}
use Rattle.std.specs.Cmp.{IsTotalOrder}
use Rattle.std.specs.Ordering.{is_lt, ordering_reverse}
use Rattle.std.specs.declared.cmp.Ordering.{Ordering}
use Rattle.std.specs.declared.cmp.Ordering.TheVariants.{Less, Equal, Greater}
use Rattle.std.proofs.lemmas.Bool.{and_from, and_parts, cases_Bool, le-leb, lt-ltb}
use Rattle.std.proofs.lemmas.Bool.Decides.{Decides-eqb}
use Rattle.std.proofs.lemmas.List.{length-map}
use Rattle.std.proofs.lemmas.List.Quantifiers.{position-Some}
use Rattle.il_lexer.specs.Longest.{LongestSpelling}
use Rattle.il_lexer.specs.Unplaced.{ReadsAsItLexes}
use Rattle.type_terms.specs.Order.{owner_order}
use Rattle.type_terms.specs.declared.name.Scope.TheVariants.{Here, Extern}
use Rattle.type_terms.specs.declared.term.Owner.{Owner}
use Rattle.assembly_tree.specs.declared.assembly.Assembly.{Assembly}
use Rattle.assembly_tree.specs.declared.typedef.TypeDef.{TypeDef}
use Rattle.assembly_tree.specs.declared.typedef.TypeDef.TheViews.{out-TypeDef, out-roll-TypeDef}
use Rattle.assembly_tree.specs.WellFormedMembers.{is_event, is_field, is_method, is_property}
use Rattle.assembly_tree.specs.WellFormedNames.{before_first, is_declared, is_type_name, option_all, rises}
use Rattle.assembly_tree.specs.WellFormedTerms.{is_owner}
use Rattle.assembly_tree.specs.WellFormedTypes.{has_its_accessors, is_base, is_head, is_layout, is_not_module, are_members, is_own, is_owner_before, is_pack, members_differ}
use Rattle.assembly_tree.proofs.FormedFacts.{heads_named}
use Rattle.ilasm_grammar.specs.Ilasm.{ilasm, rule_by}
use Rattle.ilasm_grammar.specs.declared.nonterminals.TheConstants as n
use Rattle.ilasm_grammar.specs.declared.productions.TheConstants.{CLASS, DECL_FIELD, DECL_METHOD, EVENT, EXTENDS, EXTENDS_OPT_SOME, FIELD, IMPLEMENTS_OPT_SOME, MEMBER_CLASS, MEMBER_CUSTOM, MEMBER_DATA, MEMBER_EVENT, MEMBER_FIELD, MEMBER_METHOD, MEMBER_PACK, MEMBER_PARAM, MEMBER_PROPERTY, MEMBER_SIZE, METHOD, PROPERTY}
use Rattle.source_model.specs.Classes.{assembly, base, class_from, core_scope, is_core, is_interface, is_root, named_object, object_scope, put, put_before, rising, system_object}
use Rattle.source_model.specs.Data.{layout, layout_from, lines_of}
use Rattle.source_model.specs.Flags.{type_flags}
use Rattle.source_model.specs.Forest.{Forest, Part, none, child, has, leaf_at, the}
use Rattle.source_model.specs.Items.{Run, members, runs}
use Rattle.source_model.specs.Manifests.{extern_assembly}
use Rattle.source_model.specs.Members.{event, events, events_in, field, fields, in_method, is_field_part, is_method_part, method, method_forests, methods, properties, properties_in, property}
use Rattle.source_model.specs.Names.{externs, is_declared_path}
use Rattle.source_model.specs.Nodes.{Around, class_token, type_id, typar_names, typars}
use Rattle.source_model.specs.OutOfRange.{is_natural_with}
use Rattle.source_model.specs.Parameters.{generic, generics, speaks_of_typar}
use Rattle.source_model.specs.Shapes.{natural}
use Rattle.source_model.specs.Source.{Source}
use Rattle.source_model.specs.Types.{owners_in, the_owner}
use Rattle.source_model.specs.Values.{int_at}
use Rattle.source_nodes.specs.Derived.{head_of}
use Rattle.source_syntax.proofs.BodyLemmas.{fits_has, goes_on_with}
use Rattle.source_syntax.proofs.NameTokens.{class_is_name}
use Rattle.source_syntax.proofs.ReferenceLemmas.{of_child, sound_part}
use Rattle.source_nodes.proofs.WrittenNames.{one_in}
use Rattle.laws_formed_sources.specs.sources.Laws.{IsRight}
use Rattle.laws_formed_sources.specs.sources.Productions.{AllFaultless, HasFewTypars, IsFaultlessAt}
use Rattle.laws_formed_sources.specs.sources.Remaining.{class_record, has_body, has_content}
use Rattle.laws_formed_sources.proofs.sources.Attributes as held
use Rattle.laws_formed_sources.proofs.sources.Attributes.{IsGood, IsHeld, IsRunOf, parts_held, runs_held}
use Rattle.laws_formed_sources.proofs.sources.Declared.{declared_path}
use Rattle.laws_formed_sources.proofs.sources.MembersFormed as member
use Rattle.laws_formed_sources.proofs.sources.Parts.{IsOf, all_mapped, parts_good, passed}
use Rattle.laws_formed_sources.proofs.sources.Right as right
use Rattle.laws_formed_sources.proofs.sources.Rules.{body_of, fits_of}
use Rattle.laws_formed_sources.proofs.sources.Signatures.{few_typars}
use Rattle.laws_formed_sources.proofs.sources.Unbroken.{nothing_twice}

-- ---- interfaces rise

module _ (total : IsTotalOrder owner_order) where
  turned : (o q : Owner) → owner_order o q ≡ Greater → is_owner_before q o ≡ true
  turned o q e = ap is_lt (total.antisymm q o ∙ ap ordering_reverse e)

  first_kept : (p o : Owner) (xs : List Owner) → is_owner_before p o ≡ true → before_first is_owner_before p xs ≡ true → before_first is_owner_before p (put o xs) ≡ true
  first_kept p o [] h i = h
  first_kept p o (q ∷ rest) h i = go (owner_order o q)
    where
      go : (x : Ordering) → before_first is_owner_before p (put_before x o q rest (put o rest)) ≡ true
      go Less = h
      go Equal = i
      go Greater = i

  put_step : (o q : Owner) (rest : List Owner) → rises is_owner_before (q ∷ rest) ≡ true → rises is_owner_before (put o rest) ≡ true → (x : Ordering) → owner_order o q ≡ x
      → rises is_owner_before (put_before x o q rest (put o rest)) ≡ true
  put_step o q rest h i Less e = and_from (is_owner_before o q) (rises is_owner_before (q ∷ rest)) (ap is_lt e) h
  put_step o q rest h i Equal e = h
  put_step o q rest h i Greater e =
      let both = and_parts (before_first is_owner_before q rest) (rises is_owner_before rest) h in
      and_from (before_first is_owner_before q (put o rest)) (rises is_owner_before (put o rest)) (first_kept q o rest (turned o q e) both.0) i

  put_rises : (o : Owner) (xs : List Owner) → rises is_owner_before xs ≡ true → rises is_owner_before (put o xs) ≡ true
  put_rises o [] h = refl
  put_rises o (q ∷ rest) h =
      put_step o q rest h (put_rises o rest (and_parts (before_first is_owner_before q rest) (rises is_owner_before rest) h).1) (owner_order o q) refl

  pub interfaces_rise : (os : List Owner) → rises is_owner_before (rising os) ≡ true
  interfaces_rise [] = refl
  interfaces_rise (o ∷ os) = put_rises o (rising os) (interfaces_rise os)

module _ (test : Owner → Bool) where
  put_all : (o : Owner) (xs : List Owner) → test o ≡ true → list_all test xs ≡ true → list_all test (put o xs) ≡ true
  put_all o [] h i = and_from (test o) true h refl
  put_all o (q ∷ rest) h i =
      let both = and_parts (test q) (list_all test rest) i in
      go (put_all o rest h both.1) both.0 (owner_order o q)
    where
      go : list_all test (put o rest) ≡ true → test q ≡ true → (x : Ordering) → list_all test (put_before x o q rest (put o rest)) ≡ true
      go more own Less = and_from (test o) (list_all test (q ∷ rest)) h i
      go more own Equal = i
      go more own Greater = and_from (test q) (list_all test (put o rest)) own more

  pub rising_all : (os : List Owner) → list_all test os ≡ true → list_all test (rising os) ≡ true
  rising_all [] h = refl
  rising_all (o ∷ os) h = let both = and_parts (test o) (list_all test os) h in put_all o (rising os) both.0 (rising_all os both.1)

-- ---- productions of members

field_in_decl : goes_on_with n.FIELD (body_of (ilasm DECL_FIELD)) ≡ true
unfolding ilasm rule_by
field_in_decl = refl

field_in_member : goes_on_with n.FIELD (body_of (ilasm MEMBER_FIELD)) ≡ true
unfolding ilasm rule_by
field_in_member = refl

method_in_decl : goes_on_with n.METHOD (body_of (ilasm DECL_METHOD)) ≡ true
unfolding ilasm rule_by
method_in_decl = refl

method_in_member : goes_on_with n.METHOD (body_of (ilasm MEMBER_METHOD)) ≡ true
unfolding ilasm rule_by
method_in_member = refl

property_in_member : goes_on_with n.PROPERTY (body_of (ilasm MEMBER_PROPERTY)) ≡ true
unfolding ilasm rule_by
property_in_member = refl

event_in_member : goes_on_with n.EVENT (body_of (ilasm MEMBER_EVENT)) ≡ true
unfolding ilasm rule_by
event_in_member = refl

one_field : (p : ℕ) → head_of p ≡ Some n.FIELD → p ≡ FIELD
unfolding ilasm
one_field p e = one_in _ _ _ n.FIELD FIELD p e refl

one_method : (p : ℕ) → head_of p ≡ Some n.METHOD → p ≡ METHOD
unfolding ilasm
one_method p e = one_in _ _ _ n.METHOD METHOD p e refl

one_property : (p : ℕ) → head_of p ≡ Some n.PROPERTY → p ≡ PROPERTY
unfolding ilasm
one_property p e = one_in _ _ _ n.PROPERTY PROPERTY p e refl

one_event : (p : ℕ) → head_of p ≡ Some n.EVENT → p ≡ EVENT
unfolding ilasm
one_event p e = one_in _ _ _ n.EVENT EVENT p e refl

module _ (s : Source) where
  -- what a part holds
  holds : (q m w : ℕ) → ((p : ℕ) → head_of p ≡ Some m → p ≡ w) → goes_on_with m (body_of (ilasm q)) ≡ true → (f : Forest) → IsFaultlessAt s q f → AllFaultless s f → IsOf s w (the w f)
  holds q m w one e f own all = sound_part (IsFaultlessAt s) w f all (fits_has s (body_of (ilasm q)) f m w (fits_of s q f own.range.fits) e one)

  two_of : (q a b : ℕ) → (q == a || q == b) ≡ true → (q ≡ a) ⊎ (q ≡ b)
  two_of q a b e = elim (cases_Bool (q == a)) [
    | inl is ↦ inl ((Decides-eqb q a).0 is)
    | inr other ↦ inr ((Decides-eqb q b).0 (sym (ap (λ (c : Bool). c || q == b) other) ∙ e))
  ]

  pub field_held : (p : Part) → is_field_part p ≡ true → IsGood s p → IsOf s FIELD (the FIELD p.below)
  field_held p e h = elim (two_of p.production DECL_FIELD MEMBER_FIELD e) [
    | inl is ↦ holds DECL_FIELD n.FIELD FIELD one_field field_in_decl p.below (subst (λ q. IsFaultlessAt s q p.below) is h.0) h.1
    | inr is ↦ holds MEMBER_FIELD n.FIELD FIELD one_field field_in_member p.below (subst (λ q. IsFaultlessAt s q p.below) is h.0) h.1
  ]

  pub method_held : (p : Part) → is_method_part p ≡ true → IsGood s p → IsOf s METHOD (the METHOD p.below)
  method_held p e h = elim (two_of p.production DECL_METHOD MEMBER_METHOD e) [
    | inl is ↦ holds DECL_METHOD n.METHOD METHOD one_method method_in_decl p.below (subst (λ q. IsFaultlessAt s q p.below) is h.0) h.1
    | inr is ↦ holds MEMBER_METHOD n.METHOD METHOD one_method method_in_member p.below (subst (λ q. IsFaultlessAt s q p.below) is h.0) h.1
  ]

  -- ---- what is declared, each by what stands below its production

  each_held : (P : Forest → Type 0) (w : ℕ) (ps : List Part) → AllByRecursion (λ (p : Part). P (the w p.below)) ps → AllByRecursion P (map (λ p. the w p.below) ps)
  each_held P w [] h = tt
  each_held P w (p ∷ ps) h = (h.0, each_held P w ps h.1)

  mapped : {Q R : Part → Type 0} (ps : List Part) → ((p : Part) → Q p → R p) → AllByRecursion Q ps → AllByRecursion R ps
  mapped [] step h = tt
  mapped (p ∷ ps) step h = (step p h.0, mapped ps step h.1)

  pub methods_held : (ps : List Part) → AllByRecursion (IsGood s) ps → AllByRecursion (IsOf s METHOD) (method_forests ps)
  methods_held ps h =
      each_held (IsOf s METHOD) METHOD (filter is_method_part ps) (mapped (filter is_method_part ps) (λ p i. method_held p i.0 i.1) (passed (IsGood s) is_method_part ps h))

  pub properties_held : (ps : List Part) → AllByRecursion (IsGood s) ps → AllByRecursion (IsOf s PROPERTY) (properties_in ps)
  properties_held ps h =
      each_held (IsOf s PROPERTY) PROPERTY (filter (λ p. p.production == MEMBER_PROPERTY) ps)
      (mapped (filter (λ p. p.production == MEMBER_PROPERTY) ps)
      (λ p i. holds MEMBER_PROPERTY n.PROPERTY PROPERTY one_property property_in_member p.below (subst (λ q. IsFaultlessAt s q p.below) ((Decides-eqb p.production MEMBER_PROPERTY).0 i.0) i.1.0) i.1.1)
      (passed (IsGood s) (λ p. p.production == MEMBER_PROPERTY) ps h))

  pub events_held : (ps : List Part) → AllByRecursion (IsGood s) ps → AllByRecursion (IsOf s EVENT) (events_in ps)
  events_held ps h =
      each_held (IsOf s EVENT) EVENT (filter (λ p. p.production == MEMBER_EVENT) ps)
      (mapped (filter (λ p. p.production == MEMBER_EVENT) ps)
      (λ p i. holds MEMBER_EVENT n.EVENT EVENT one_event event_in_member p.below (subst (λ q. IsFaultlessAt s q p.below) ((Decides-eqb p.production MEMBER_EVENT).0 i.0) i.1.0) i.1.1)
      (passed (IsGood s) (λ p. p.production == MEMBER_EVENT) ps h))

  -- a declaration with the attributes behind it
  abbrev IsRun : Run → Type 0
  IsRun x = IsGood s x.head × IsRunOf s x

  runs_good : (ps : List Part) → AllByRecursion (IsGood s) ps → AllByRecursion (IsHeld s) ps → AllByRecursion IsRun (runs ps)
  runs_good [] h i = tt
  runs_good (p ∷ ps) h i = let rest = runs_held s (p ∷ ps) i in ((h.0, rest.0), runs_good ps h.1 i.1)

-- ---- the members of a class, and what is declared outside of any

mapped_with : {X Y : Type 0} (P : X → Type 0) (extra test : Y → Bool) (f : X → Y) → ((x : X) → P x → extra (f x) ≡ true → test (f x) ≡ true) → (xs : List X) → AllByRecursion P xs
    → list_all extra (map f xs) ≡ true → list_all test (map f xs) ≡ true
mapped_with P extra test f step [] h i = refl
mapped_with P extra test f step (x ∷ xs) h i =
    let both = and_parts (extra (f x)) (list_all extra (map f xs)) i in
    and_from (test (f x)) (list_all test (map f xs)) (step x h.0 both.0) (mapped_with P extra test f step xs h.1 both.1)

module _ (longest : LongestSpelling) (reads : ReadsAsItLexes) (s : Source) (r : IsRight s) (a : Around) (few : HasFewTypars a)
    (ps : List Part) (good : AllByRecursion (IsGood s) ps) (helds : AllByRecursion (IsHeld s) ps)
    (contents : list_all (has_content (assembly s)) (fields s a ps) ≡ true) (bodies : list_all (has_body (assembly s)) (methods s a ps) ≡ true) where
  pub fields_formed : list_all (is_field (assembly s)) (fields s a ps) ≡ true
  fields_formed =
      mapped_with (λ (x : Run). (is_field_part x.head ≡ true) × IsRun s x) (has_content (assembly s)) (is_field (assembly s)) (field s a)
      (λ x h inside. let f = field_held s x.head h.0 h.1.0 in member.field_formed longest reads s r a few (the FIELD x.head.below) f.0 f.1 x.customs h.1.1 inside)
      (filter (λ x. is_field_part x.head) (runs ps)) (passed (IsRun s) (λ x. is_field_part x.head) (runs ps) (runs_good s ps good helds)) contents

  in_few : (f : Forest) → IsOf s METHOD f → HasFewTypars (in_method a f)
  in_few f h = record { class = few.class; method = few_typars s f h.1 }

  pub methods_formed : list_all (is_method (assembly s)) (methods s a ps) ≡ true
  methods_formed =
      mapped_with (IsOf s METHOD) (has_body (assembly s)) (is_method (assembly s)) (method s a)
      (λ f h inside. member.method_formed longest reads s r (in_method a f) (in_few f h) f h.0 h.1 inside) (method_forests ps) (methods_held s ps good) bodies

  pub properties_formed : list_all (is_property (assembly s)) (properties s a ps) ≡ true
  properties_formed =
      all_mapped (IsOf s PROPERTY) (is_property (assembly s)) (property s a (method_forests ps))
      (λ f h. member.property_formed longest reads s r a few (method_forests ps) f h.0 h.1) (properties_in ps) (properties_held s ps good)

  pub events_formed : list_all (is_event (assembly s)) (events s a ps) ≡ true
  events_formed =
      all_mapped (IsOf s EVENT) (is_event (assembly s)) (event s a (method_forests ps))
      (λ f h. member.event_formed longest reads s r a few (method_forests ps) f h.0 h.1) (events_in ps) (events_held s ps good)

-- ---- a class by itself

pub class_is : (s : Source) (a : Around) (f : Forest) (nested : List TypeDef) → out-TypeDef (class_from s a f nested) ≡ class_record s a f nested
class_is s a f nested = out-roll-TypeDef (class_record s a f nested)

module _ (total : IsTotalOrder owner_order) (longest : LongestSpelling) (reads : ReadsAsItLexes) (s : Source) (r : IsRight s) (a : Around) (few : HasFewTypars a)
    (f : Forest) (own : IsFaultlessAt s CLASS f) (all : AllFaultless s f) where
  abbrev A : Assembly
  A = assembly s

  unless : (c : Bool) (k : ℕ) → (if c then [] else k ∷ []) ≡ [] → c ≡ true
  unless true k e = refl
  unless false k e = absurd cc

  abbrev member_productions : List ℕ
  member_productions =
      MEMBER_CLASS ∷ MEMBER_FIELD ∷ MEMBER_METHOD ∷ MEMBER_PROPERTY ∷ MEMBER_EVENT ∷ MEMBER_CUSTOM ∷ MEMBER_DATA ∷ MEMBER_PARAM ∷ MEMBER_PACK
      ∷ MEMBER_SIZE ∷ []

  good : AllByRecursion (IsGood s) (members f)
  good = parts_good s member_productions f all

  helds : AllByRecursion (IsHeld s) (members f)
  helds = parts_held s member_productions f all

  -- ---- its layout

  abbrev IsPackLine : Part → Type 0
  IsPackLine p = ((p.production == MEMBER_PACK) ≡ true) × IsGood s p

  natural_passes : (z : ℤ) → is_natural_with is_pack z ≡ true → is_pack (natural z) ≡ true
  natural_passes (pos m) e = e
  natural_passes (negsuc m) e = absurd cc

  packed : (ps : List Part) (m : ℕ) → AllByRecursion IsPackLine ps → is_pack m ≡ true → is_pack (fold (λ n p. natural (int_at s (leaf_at 1 p.below))) m ps) ≡ true
  packed [] m h e = e
  packed (p ∷ ps) m h e =
      let line : IsFaultlessAt s MEMBER_PACK p.below = subst (λ q. IsFaultlessAt s q p.below) ((Decides-eqb p.production MEMBER_PACK).0 h.0.0) h.0.1.0 in
      let k = leaf_at 1 p.below in
      packed ps (natural (int_at s k)) h.1 (natural_passes (int_at s k) (unless (is_natural_with is_pack (int_at s k)) k line.range.layouts))

  layout_formed : is_layout (layout s f) ≡ true
  layout_formed = go (lines_of MEMBER_PACK f) (lines_of MEMBER_SIZE f) (passed (IsGood s) (λ p. p.production == MEMBER_PACK) (members f) good)
    where
      go : (ps sizes : List Part) → AllByRecursion IsPackLine ps → is_layout (layout_from s ps sizes) ≡ true
      go [] [] h = refl
      go [] (q ∷ sizes) h = refl
      go (p ∷ ps) sizes h = packed (p ∷ ps) 0 h refl

  -- ---- its base

  object_known : (o : Option ℕ) → position (is_core s) (externs s) ≡ o → option_all (is_owner A) (named_object (object_scope s o)) ≡ true
  unfolding assembly is_type_name
  object_known (Some k) at =
      let less = (position-Some (is_core s) (externs s) k none at).0 in
      right.name_owner longest reads s r a few (record { scope = Extern k; path = system_object })
      (and_from true (nat_lt k (length (map (extern_assembly s) (externs s)))) refl
      (lt-ltb k (length (map (extern_assembly s) (externs s))) (omega (arith, less, length-map (externs s) (extern_assembly s)))))
  object_known None at = elim (cases_Bool (is_declared_path s system_object)) [
    | inl is ↦
        subst (λ (c : Bool). option_all (is_owner A) (named_object (if c then Some Here else None)) ≡ true) (sym is)
        (right.name_owner longest reads s r a few (record { scope = Here; path = system_object })
        (and_from true (is_declared A system_object) refl (declared_path s (nothing_twice s r.faultless) system_object is)))
    | inr other ↦ subst (λ (c : Bool). option_all (is_owner A) (named_object (if c then Some Here else None)) ≡ true) (sym other) refl
  ]

  either : (c : Bool) (x y : Option Owner) → option_all (is_owner A) x ≡ true → option_all (is_owner A) y ≡ true → option_all (is_owner A) (if c then x else y) ≡ true
  either true x y h i = h
  either false x y h i = i

  extends_formed : option_all (is_owner A) (base s a f) ≡ true
  extends_formed =
      let g = child (EXTENDS_OPT_SOME ∷ []) f in
      either (is_interface s f) None (if has EXTENDS g then Some (the_owner s a g) else if is_root a.path then None else named_object (core_scope s)) refl
      (either (has EXTENDS g) (Some (the_owner s a g)) (if is_root a.path then None else named_object (core_scope s))
      (right.first_formed longest reads s r a few (owners_in s a g)
      (right.owners_formed longest reads s r a few g (of_child (IsFaultlessAt s) (EXTENDS_OPT_SOME ∷ []) f all)))
      (either (is_root a.path) None (named_object (core_scope s)) refl (object_known (position (is_core s) (externs s)) refl)))

  -- ---- its head and its members

  numbered_count : {X : Type 0} (k : ℕ) (xs : List X) → length (enumerate_from k xs) ≡ length xs
  numbered_count k [] = refl
  numbered_count k (x ∷ xs) = ap suc (numbered_count (k + 1) xs)

  pub head_formed : (top : Bool) (nested : List TypeDef) → is_not_module top (type_id s (class_token f)) ≡ true → is_base top (type_id s (class_token f)) (type_flags s f) (base s a f) ≡ true
      → is_head A top (class_record s a f nested) ≡ true
  head_formed top nested apart based = (heads_named A top (class_record s a f nested)).1 (record {
    id = right.id longest reads s r (class_token f) (class_is_name s CLASS f refl own.range.fits);
    not_module = apart;
    layout = layout_formed;
    base = based;
    count = le-leb (length (generics s a f (runs (members f)))) 65535 (omega (arith, few_typars s f all, length-map (enumerate_from 0 (typars f)) (generic s a (typar_names s f) (filter speaks_of_typar (runs (members f)))), numbered_count 0 (typars f)));
    generics = member.generics_formed longest reads s r a few f all (runs (members f)) (runs_held s (members f) helds);
    extends = extends_formed;
    rising = interfaces_rise total (owners_in s a (child (IMPLEMENTS_OPT_SOME ∷ []) f));
    implements = rising_all (is_owner A) (owners_in s a (child (IMPLEMENTS_OPT_SOME ∷ []) f))
        (right.owners_formed longest reads s r a few (child (IMPLEMENTS_OPT_SOME ∷ []) f) (of_child (IsFaultlessAt s) (IMPLEMENTS_OPT_SOME ∷ []) f all));
    attributes = held.own_attributes_formed s a A (right.plain_ref_formed longest reads s r a few) (members f) helds;
  })

  pub own_formed : (top : Bool) (nested : List TypeDef) → is_not_module top (type_id s (class_token f)) ≡ true → is_base top (type_id s (class_token f)) (type_flags s f) (base s a f) ≡ true
      → list_all (has_content A) (fields s a (members f)) ≡ true → list_all (has_body A) (methods s a (members f)) ≡ true
      → has_its_accessors (class_record s a f nested) ≡ true → members_differ (class_record s a f nested) ≡ true
      → is_own A top (class_record s a f nested) ≡ true
  unfolding is_own are_members
  own_formed top nested apart based contents bodies accessors differ =
      let t = class_record s a f nested in
      let m1 = and_from (list_all (is_field A) t.fields) (list_all (is_method A) t.methods) (fields_formed longest reads s r a few (members f) good helds contents bodies)
      (methods_formed longest reads s r a few (members f) good helds contents bodies) in
      let m2 = and_from (list_all (is_field A) t.fields && list_all (is_method A) t.methods) (list_all (is_property A) t.properties) m1
      (properties_formed longest reads s r a few (members f) good helds contents bodies) in
      let m3 = and_from (list_all (is_field A) t.fields && list_all (is_method A) t.methods && list_all (is_property A) t.properties) (list_all (is_event A) t.events) m2
      (events_formed longest reads s r a few (members f) good helds contents bodies) in
      and_from (is_head A top t && (list_all (is_field A) t.fields && list_all (is_method A) t.methods && list_all (is_property A) t.properties && list_all (is_event A) t.events) && has_its_accessors t)
      (members_differ t)
      (and_from (is_head A top t && (list_all (is_field A) t.fields && list_all (is_method A) t.methods && list_all (is_property A) t.properties && list_all (is_event A) t.events)) (has_its_accessors t)
      (and_from (is_head A top t) (list_all (is_field A) t.fields && list_all (is_method A) t.methods && list_all (is_property A) t.properties && list_all (is_event A) t.events)
      (head_formed top nested apart based) m3)
      accessors)
      differ
