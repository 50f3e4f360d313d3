-- The accessors of a class in a faultless source are among its methods (ECMA-335 II.17, II.18, II.22.28).
use Rattle.std.proofs.Common.{◌≡◌, ◌⊎◌, ℕ, ◌<◌, inl, inr, List, [], ◌∷◌, Option, None, Some, cond, length, map, refl, ap, sym, subst, ◌∙◌, arith}
use Rattle.std.specs.Prelude.{Bool, true, false, not, ◌==◌, ◌||◌, ◌&&◌, filter, position, if◌then◌else◌}
use Rattle.std.specs.List.{AllByRecursion, flat_map, list_all, list_any}
use Rattle.std.proofs.lemmas.Bool.{and_from, lt-ltb}
use Rattle.std.proofs.lemmas.Bool.Decides.{Decides-eqb}
use Rattle.std.proofs.lemmas.List.{length-map}
use Rattle.std.proofs.lemmas.List.Quantifiers.{position-Some}
use Rattle.assembly_tree.specs.WellFormedMembers.{is_accessor_of}
use Rattle.assembly_tree.specs.WellFormedTypes.{has_accessors_of_event, has_accessors_of_property, has_its_accessors}
use Rattle.ilasm_grammar.specs.Ilasm.{ilasm, rule_by}
use Rattle.ilasm_grammar.specs.declared.nonterminals.TheConstants as n
use Rattle.ilasm_grammar.specs.declared.productions.TheConstants.{CLASS, EVENT, EVENT_ITEM_ADDON, EVENT_ITEM_FIRE, EVENT_ITEM_OTHER, EVENT_ITEM_REMOVEON, MEMBER_EVENT, MEMBER_PROPERTY, METHOD_REF, PROPERTY, PROPERTY_ITEM_GET, PROPERTY_ITEM_OTHER, PROPERTY_ITEM_SET}
use Rattle.ilasm_grammar.specs.declared.symbol.Symbol.TheVariants.{Nonterminal}
use Rattle.source_model.specs.Forest.{Forest, Part, none, is_among, leaf_at, the}
use Rattle.source_model.specs.Items.{members}
use Rattle.source_model.specs.Members.{accessor, accessors_in, event, events_in, is_meant, method, method_forests, or_first, properties_in, property}
use Rattle.source_model.specs.Nodes.{Around, Node, nodes, nodes_of}
use Rattle.source_model.specs.OutOfRange.{without_arguments}
use Rattle.source_model.specs.Signatures.{generic_arguments_token, is_method_unbroken, is_reference_unbroken}
use Rattle.source_model.specs.Source.{Source}
use Rattle.source_model.specs.Undeclared.{accessor_undeclared_of, accessors_undeclared_of, is_one_of, is_this_class}
use Rattle.source_nodes.specs.Derived.{Fits, head_of}
use Rattle.source_syntax.proofs.BodyLemmas.{all_in}
use Rattle.source_nodes.proofs.WrittenNames.{one_in}
use Rattle.source_flags.proofs.Gathered.{IsSought, of_parts}
use Rattle.laws_formed_sources.specs.sources.Laws.{IsRight}
use Rattle.laws_formed_sources.specs.sources.Productions.{AllFaultless, IsFaultlessAt}
use Rattle.laws_formed_sources.specs.sources.Remaining.{Among, class_record}
use Rattle.laws_formed_sources.proofs.sources.Attributes.{IsGood}
use Rattle.laws_formed_sources.proofs.sources.ClassFormed.{events_held, properties_held}
use Rattle.laws_formed_sources.proofs.sources.Occurring.{IsThere, Occurs, alone_occurs, member_productions, members_occur}
use Rattle.laws_formed_sources.proofs.sources.Parts.{IsOf, parts_good, passed}
use Rattle.laws_formed_sources.proofs.sources.Rules.{AllOf, body_of, fits_of, for_each}
use Rattle.laws_formed_sources.proofs.sources.Types.{bodies_of}
use Rattle.laws_formed_sources.proofs.sources.Unbroken.{all_bounded, all_declared, empty_in}
use Rattle.laws_formed_sources.proofs.members.Nodes.{filter_in, node_class, node_good, node_occurs, none_at}
use Rattle.laws_formed_sources.proofs.members.References.{IsFound, empty_unbroken, parts_there, plain, reference_unbroken, the_found}

-- ---- one that is found

any_filtered : {X : Type 0} (test kept : X → Bool) (xs : List X) → list_any test (filter kept xs) ≡ true → list_any test xs ≡ true
any_filtered test kept [] e = e
any_filtered test kept (x ∷ xs) e = go (kept x) (test x) refl (any_filtered test kept xs) e
  where
    go : (c d : Bool) → test x ≡ d → (list_any test (filter kept xs) ≡ true → list_any test xs ≡ true) → list_any test (cond c (x ∷ filter kept xs) (filter kept xs)) ≡ true
        → (d || list_any test xs) ≡ true
    go c true is rest h = refl
    go true false is rest h = rest (sym (ap (λ (o : Bool). o || list_any test (filter kept xs)) is) ∙ h)
    go false false is rest h = rest h

place_within : {X : Type 0} (test : X → Bool) (xs : List X) → list_any test xs ≡ true → or_first (position test xs) < length xs
place_within test [] e = absurd cc
place_within test (x ∷ xs) e = go (position test (x ∷ xs)) refl
  where
    go : (o : Option ℕ) → position test (x ∷ xs) ≡ o → or_first o < length (x ∷ xs)
    go None is = omega arith
    go (Some k) is = (position-Some test (x ∷ xs) k x is).0

if_nothing : (c : Bool) (k : ℕ) → (if c then k ∷ [] else []) ≡ [] → c ≡ false
if_nothing true k e = absurd cc
if_nothing false k e = refl

other_half : (u t o : Bool) → u ≡ true → (u && not (t && o)) ≡ false → o ≡ true
other_half true true true e h = refl
other_half true true false e h = absurd cc
other_half true false o e h = absurd cc
other_half false t o e h = absurd cc

-- ---- the productions of accessors

abbrev accessor_productions : List ℕ
accessor_productions =
    PROPERTY_ITEM_GET ∷ PROPERTY_ITEM_SET ∷ PROPERTY_ITEM_OTHER ∷ EVENT_ITEM_ADDON ∷ EVENT_ITEM_REMOVEON ∷ EVENT_ITEM_FIRE
    ∷ EVENT_ITEM_OTHER ∷ []

accessors_plain : AllOf (λ q. all_in plain (body_of (ilasm q)) ≡ true) accessor_productions
unfolding ilasm rule_by
accessors_plain = (refl, (refl, (refl, (refl, (refl, (refl, (refl, tt)))))))

accessors_barred : AllOf (λ q. is_among without_arguments q ≡ true) accessor_productions
accessors_barred = (refl, (refl, (refl, (refl, (refl, (refl, (refl, tt)))))))

property_plain : all_in plain (body_of (ilasm PROPERTY)) ≡ true
unfolding ilasm rule_by
property_plain = refl

event_plain : all_in plain (body_of (ilasm EVENT)) ≡ true
unfolding ilasm rule_by
event_plain = refl

property_alone : body_of (ilasm MEMBER_PROPERTY) ≡ Nonterminal n.PROPERTY ∷ []
unfolding ilasm rule_by
property_alone = refl

event_alone : body_of (ilasm MEMBER_EVENT) ≡ Nonterminal n.EVENT ∷ []
unfolding ilasm rule_by
event_alone = refl

one_property : (p : ℕ) → head_of p ≡ Some n.PROPERTY → p ≡ PROPERTY
unfolding ilasm
one_property p e = one_in _ _ _ n.PROPERTY PROPERTY p e refl

one_event : (p : ℕ) → head_of p ≡ Some n.EVENT → p ≡ EVENT
unfolding ilasm
one_event p e = one_in _ _ _ n.EVENT EVENT p e refl

module _ (s : Source) (r : IsRight s) (c : Around) where
  -- a part that is faultless, and a node of the source
  abbrev IsPlaced : Part → Type 0
  IsPlaced q = IsSought (IsFaultlessAt s) accessor_productions q × IsThere s c q

  barred : (q : Part) → IsSought (IsFaultlessAt s) accessor_productions q → generic_arguments_token (the METHOD_REF q.below) ≡ []
  barred q h =
      sym (ap (λ (x : Bool). if x then generic_arguments_token (the METHOD_REF q.below) else [])
      (for_each (λ p. is_among without_arguments p ≡ true) accessor_productions accessors_barred q.production h.0)) ∙ h.1.arguments

  accessor_unbroken : (q : Part) → IsPlaced q → is_reference_unbroken s c (the METHOD_REF q.below) ≡ true
  accessor_unbroken q h =
      go (the_found s c METHOD_REF (body_of (ilasm q.production)) q.below (fits_of s q.production q.below h.0.1.range.fits)
      (for_each (λ p. all_in plain (body_of (ilasm p)) ≡ true) accessor_productions accessors_plain q.production h.0.0) h.0.2 h.1.1)
    where
      go : (the METHOD_REF q.below ≡ none) ⊎ IsFound s c METHOD_REF (the METHOD_REF q.below) → is_reference_unbroken s c (the METHOD_REF q.below) ≡ true
      go (inl e) = ap (is_reference_unbroken s c) e ∙ empty_unbroken s c (all_declared s r.faultless) (all_bounded s r.faultless)
      go (inr f) = reference_unbroken s c (all_declared s r.faultless) (all_bounded s r.faultless) (the METHOD_REF q.below) f.1 f.0.1 (barred q h.0)

  module _ (ms : List Forest) where
    accessor_within : (q : Part) → IsPlaced q → accessor_undeclared_of s c ms q ≡ [] → is_accessor_of (length ms) (accessor s c ms q) ≡ true
    accessor_within q h e =
        let ref = the METHOD_REF q.below in
        let one : is_one_of s c ms ref ≡ true =
        other_half (is_reference_unbroken s c ref) (is_this_class s c ref) (is_one_of s c ms ref) (accessor_unbroken q h)
        (if_nothing (is_reference_unbroken s c ref && not (is_this_class s c ref && is_one_of s c ms ref)) (leaf_at 0 q.below) e) in
        lt-ltb (or_first (position (is_meant s c ref) ms)) (length ms) (place_within (is_meant s c ref) ms (any_filtered (is_meant s c ref) (is_method_unbroken s c) ms one))

    accessors_within : (qs : List Part) → AllByRecursion (IsSought (IsFaultlessAt s) accessor_productions) qs → AllByRecursion (IsThere s c) qs
        → flat_map (accessor_undeclared_of s c ms) qs ≡ [] → list_all (is_accessor_of (length ms)) (map (accessor s c ms) qs) ≡ true
    accessors_within [] h i e = refl
    accessors_within (q ∷ qs) h i e =
        let none_such = empty_in (accessor_undeclared_of s c ms q) (flat_map (accessor_undeclared_of s c ms) qs) e in
        and_from (is_accessor_of (length ms) (accessor s c ms q)) (list_all (is_accessor_of (length ms)) (map (accessor s c ms) qs))
        (accessor_within q (h.0, i.0) none_such.0) (accessors_within qs h.1 i.1 none_such.1)

  -- ---- of a property or an event

  abbrev own_methods : List Forest
  own_methods = method_forests (members c.class)

  member_accessors : (w : ℕ) (f : Forest) → is_among (PROPERTY ∷ EVENT ∷ []) w ≡ true → all_in plain (body_of (ilasm w)) ≡ true → IsOf s w f
      → Among (record { production = w; below = f; around = c }) (nodes s) → Occurs s c f
      → list_all (is_accessor_of (length own_methods)) (map (accessor s c own_methods) (accessors_in f)) ≡ true
  member_accessors w f known body h here occurs =
      accessors_within own_methods (accessors_in f) (of_parts (IsFaultlessAt s) accessor_productions f h.1)
      (parts_there s c accessor_productions (body_of (ilasm w)) f (fits_of s w f h.0.range.fits) body h.1 occurs)
      (none_at (accessors_undeclared_of s) (record { production = w; below = f; around = c }) (nodes_of (PROPERTY ∷ EVENT ∷ []) (nodes s))
      (filter_in (λ (m : Node). is_among (PROPERTY ∷ EVENT ∷ []) m.production) (record { production = w; below = f; around = c }) (nodes s) here known)
      (all_declared s r.faultless).accessors)

  -- ---- of a class

  abbrev IsMember : Part → Type 0
  IsMember p = IsGood s p × IsThere s c p

  both_hold : (ps : List Part) → AllByRecursion (IsGood s) ps → AllByRecursion (IsThere s c) ps → AllByRecursion IsMember ps
  both_hold [] h i = tt
  both_hold (p ∷ ps) h i = ((h.0, i.0), both_hold ps h.1 i.1)

  lone_body : (q m : ℕ) → body_of (ilasm q) ≡ Nonterminal m ∷ [] → (p : Part) → (p.production == q) ≡ true → IsGood s p → Fits s (Nonterminal m ∷ []) p.below
  lone_body q m alone p known h =
      subst (λ body. Fits s body p.below) (ap (λ x. body_of (ilasm x)) ((Decides-eqb p.production q).0 known) ∙ alone) (fits_of s p.production p.below h.0.range.fits)

  abbrev IsProperty : Part → Type 0
  IsProperty p = ((p.production == MEMBER_PROPERTY) ≡ true) × IsMember p

  properties_within : (ps : List Part) → AllByRecursion IsProperty ps → AllByRecursion (IsOf s PROPERTY) (map (λ (p : Part). the PROPERTY p.below) ps)
      → list_all (has_accessors_of_property (length own_methods)) (map (property s c own_methods) (map (λ (p : Part). the PROPERTY p.below) ps)) ≡ true
  properties_within [] h i = refl
  properties_within (p ∷ ps) h i =
      let there = alone_occurs s PROPERTY n.PROPERTY one_property p.below c (lone_body MEMBER_PROPERTY n.PROPERTY property_alone p h.0.0 h.0.1.0) h.0.1.1.1 in
      and_from (has_accessors_of_property (length own_methods) (property s c own_methods (the PROPERTY p.below)))
      (list_all (has_accessors_of_property (length own_methods)) (map (property s c own_methods) (map (λ (q : Part). the PROPERTY q.below) ps)))
      (member_accessors PROPERTY (the PROPERTY p.below) refl property_plain i.0 there.0 there.1) (properties_within ps h.1 i.1)

  abbrev IsEvent : Part → Type 0
  IsEvent p = ((p.production == MEMBER_EVENT) ≡ true) × IsMember p

  events_within : (ps : List Part) → AllByRecursion IsEvent ps → AllByRecursion (IsOf s EVENT) (map (λ (p : Part). the EVENT p.below) ps)
      → list_all (has_accessors_of_event (length own_methods)) (map (event s c own_methods) (map (λ (p : Part). the EVENT p.below) ps)) ≡ true
  events_within [] h i = refl
  events_within (p ∷ ps) h i =
      let there = alone_occurs s EVENT n.EVENT one_event p.below c (lone_body MEMBER_EVENT n.EVENT event_alone p h.0.0 h.0.1.0) h.0.1.1.1 in
      and_from (has_accessors_of_event (length own_methods) (event s c own_methods (the EVENT p.below)))
      (list_all (has_accessors_of_event (length own_methods)) (map (event s c own_methods) (map (λ (q : Part). the EVENT q.below) ps)))
      (member_accessors EVENT (the EVENT p.below) refl event_plain i.0 there.0 there.1) (events_within ps h.1 i.1)

  class_accessors : IsOf s CLASS c.class → Occurs s c c.class → has_its_accessors (class_record s c c.class []) ≡ true
  unfolding has_its_accessors
  class_accessors own occurs =
      let ps = members c.class in
      let good = parts_good s member_productions c.class own.1 in
      let held = both_hold ps good (members_occur s c.class own.0.range.fits (bodies_of s c.class own.1) c occurs) in
      let many : length (map (method s c) own_methods) ≡ length own_methods = length-map own_methods (method s c) in
      and_from (list_all (has_accessors_of_property (length (map (method s c) own_methods))) (map (property s c own_methods) (properties_in ps)))
      (list_all (has_accessors_of_event (length (map (method s c) own_methods))) (map (event s c own_methods) (events_in ps)))
      (ap (λ k. list_all (has_accessors_of_property k) (map (property s c own_methods) (properties_in ps))) many
      ∙ properties_within (filter (λ p. p.production == MEMBER_PROPERTY) ps) (passed IsMember (λ p. p.production == MEMBER_PROPERTY) ps held) (properties_held s ps good))
      (ap (λ k. list_all (has_accessors_of_event k) (map (event s c own_methods) (events_in ps))) many
      ∙ events_within (filter (λ p. p.production == MEMBER_EVENT) ps) (passed IsMember (λ p. p.production == MEMBER_EVENT) ps held) (events_held s ps good))

pub accessors_formed : (s : Source) → IsRight s → AllFaultless s s.tree → (m : Node) → Among m (nodes s) → m.production ≡ CLASS
    → has_its_accessors (class_record s m.around m.below []) ≡ true
accessors_formed s r all m here is =
    let same = node_class s m here is in
    let own = node_good s all m here in
    let good : IsOf s CLASS m.below = (subst (λ q. IsFaultlessAt s q m.below) is own.0, own.1) in
    subst (λ f. has_its_accessors (class_record s m.around f []) ≡ true) same
    (class_accessors s r m.around (subst (IsOf s CLASS) (sym same) good) (subst (Occurs s m.around) (sym same) (node_occurs s m here)))
