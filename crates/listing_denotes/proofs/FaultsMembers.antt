-- No member of a listing is declared twice.
use Rattle.std.proofs.Common.{◌≡◌, ℕ, zero, suc, ◌+◌, ◌&&◌, nat_eq, Bool, true, false, cond, if◌then◌else◌, List, [], ◌∷◌, ◌++◌, map, filter, length, refl, ap, sym, subst, ◌∙◌, arith}
use Rattle.std.proofs.lemmas.Bool.{and_parts, eqb-true}
use Rattle.std.proofs.lemmas.Bool.Decides.{Decides-eqb}
use Rattle.std.proofs.lemmas.List.Elements.{filter-append}
use Rattle.std.specs.List.{flat_map, list_all}
use Rattle.ilasm_grammar.specs.declared.nonterminals.TheConstants as n
use Rattle.ilasm_grammar.specs.declared.productions.TheConstants as p
use Rattle.ilasm_grammar.specs.declared.symbol.Symbol.{Symbol}
use Rattle.ilasm_grammar.specs.declared.symbol.Symbol.TheVariants.{Terminal, Nonterminal}
use Rattle.assembly_tree.specs.WellFormed.{is_well_formed}
use Rattle.assembly_tree.specs.WellFormedMembers.{is_same_field, is_same_method, is_same_property, is_same_event}
use Rattle.assembly_tree.specs.WellFormedNames.{all_differ}
use Rattle.assembly_tree.specs.WellFormedTypes.{is_own, are_types}
use Rattle.assembly_tree.specs.declared.assembly.Assembly.{Assembly}
use Rattle.assembly_tree.specs.declared.typedef.TypeDef.{TypeDef}
use Rattle.assembly_tree.specs.declared.typedef.TypeDef.TheFolds.{fold-TypeDef, fold_out-TypeDef}
use Rattle.assembly_tree.specs.declared.typedef.TypeDef.TheOpen.{TypeDef-F}
use Rattle.assembly_tree.specs.declared.typedef.TypeDef.TheViews.{out-TypeDef, roll-TypeDef, out-roll-TypeDef}
use Rattle.assembly_tree.proofs.FormedFacts.{assemblies_named, types_named}
use Rattle.source_model.specs.Classes.{assembly, class_from, classes_in}
use Rattle.source_model.specs.DeclaredTwice.{members_twice_in, members_twice}
use Rattle.source_model.specs.Forest as f
use Rattle.source_model.specs.Items.{declarations, members}
use Rattle.source_model.specs.Members as read
use Rattle.source_model.specs.Names.{classes}
use Rattle.source_model.specs.Nodes.{Around, Node, nodes, nothing_around, entered}
use Rattle.source_model.specs.Source.{Source}
use Rattle.listing_growth.specs.Laws.{CanonStands}
use Rattle.listing_model.specs.Canon.{canon}
use Rattle.listing_model.specs.Grown.{body_of, Grows}
use Rattle.listing_model.specs.Shown.{Shown, size}
use Rattle.listing_model.specs.Shown.{Shown as shown}
use Rattle.listing_reading.specs.Laws.{SearchesPass}
use Rattle.listing_reading.specs.Numbered.{numbered}
use Rattle.listing_rows.specs.Laws.{class_parts}
use Rattle.listing_declarations.specs.Laws.{IsListingOf}
use Rattle.listing_places.proofs.Nodes.{class_nodes, flipped, own_class, other_class, entered_is, no_class_in_method, none_inside}
use Rattle.members_once.specs.Laws.{MembersAreOnce}

both : (x y : Bool) → x ≡ true → y ≡ true → (x && y) ≡ true
both true y h k = k
both false y h k = h

-- ---- types whose members differ, with those that they nest

abbrev own_differ : {A : Type 0} → TypeDef-F A → Bool
own_differ t =
    all_differ is_same_field t.fields && (all_differ is_same_method t.methods && (all_differ is_same_property t.properties && all_differ is_same_event t.events))

abbrev differ_step : TypeDef-F Bool → Bool
differ_step t = own_differ t && list_all (λ ok. ok) t.nested

abbrev deep : TypeDef → Bool
deep t = fold-TypeDef Bool differ_step t

deep_out : (t : TypeDef) → deep t ≡ (own_differ (out-TypeDef t) && list_all (λ ok. ok) (map deep (out-TypeDef t).nested))
deep_out t = fold_out-TypeDef Bool differ_step t

deep_roll : (x : TypeDef-F TypeDef) → deep (roll-TypeDef x) ≡ (own_differ x && list_all (λ ok. ok) (map deep x.nested))
deep_roll x = deep_out (roll-TypeDef x) ∙ ap (λ (y : TypeDef-F TypeDef). own_differ y && list_all (λ ok. ok) (map deep y.nested)) (out-roll-TypeDef x)

all_mapped : (ts : List TypeDef) → list_all (λ ok. ok) (map deep ts) ≡ list_all deep ts
all_mapped [] = refl
all_mapped (t ∷ ts) = ap (λ c. deep t && c) (all_mapped ts)

module _ (a : Assembly) where
  abbrev Passes : Bool → ℕ → TypeDef → Bool
  Passes top depth t = is_own a top (out-TypeDef t) && are_types a false depth (out-TypeDef t).nested

  all_deep : (depth : ℕ) (top : Bool) (ts : List TypeDef) → are_types a top depth ts ≡ true → list_all deep ts ≡ true
  unfolding are_types
  all_deep zero top [] m = refl
  all_deep zero top (t ∷ ts) m = let none = eqb-true (suc (length ts)) 0 m in absurd (omega arith)
  all_deep (suc depth) top ts m = go (λ us k. all_deep depth false us k) ts (and_parts _ _ m).1
    where
      go : ((us : List TypeDef) → are_types a false depth us ≡ true → list_all deep us ≡ true) → (us : List TypeDef) → list_all (Passes top depth) us ≡ true → list_all deep us ≡ true
      go deeper [] mm = refl
      go deeper (t ∷ us) mm =
          let ms = and_parts (Passes top depth t) (list_all (Passes top depth) us) mm in
          let inside = and_parts (is_own a top (out-TypeDef t)) (are_types a false depth (out-TypeDef t).nested) ms.0 in
          let d = (types_named a top (out-TypeDef t)).0 inside.0 in
          let own = both _ _ d.fields_differ (both _ _ d.methods_differ (both _ _ d.properties_differ d.events_differ)) in
          both (deep t) (list_all deep us) (deep_out t ∙ both _ _ own (all_mapped (out-TypeDef t).nested ∙ deeper (out-TypeDef t).nested inside.1)) (go deeper us ms.1)

-- ---- members of one class, or of none

module _ (once : MembersAreOnce) (s : Source) where
  none_twice : (around : Around) (ps : List f.Part) → all_differ is_same_field (read.fields s around ps) ≡ true → all_differ is_same_method (read.methods s around ps) ≡ true →
      all_differ is_same_property (read.properties s around ps) ≡ true → all_differ is_same_event (read.events s around ps) ≡ true → members_twice_in s around ps ≡ []
  none_twice around ps h k l m =
      let fields = once.fields s around ps h in
      let methods = once.methods s around ps k in
      let properties = once.properties s around ps l in
      let events = once.events s around ps m in
      λ i. fields i ++ methods i ++ properties i ++ events i

  abbrev twice_at : Node → List ℕ
  twice_at m = members_twice_in s m.around (members m.below)

  -- ---- classes

  module _ (searches : SearchesPass) where
    abbrev NoneTwice : Around → f.Forest → Type 0
    NoneTwice around g = list_all deep (classes_in s around g) ≡ true → flat_map twice_at (class_nodes s around g) ≡ []

    all_join : (xs ys : List TypeDef) → list_all deep (xs ++ ys) ≡ true → (list_all deep xs ≡ true) × (list_all deep ys ≡ true)
    all_join [] ys h = (refl, h)
    all_join (x ∷ xs) ys h =
        let hs = and_parts (deep x) (list_all deep (xs ++ ys)) h in let more = all_join xs ys hs.1 in (both (deep x) (list_all deep xs) hs.0 more.0, more.1)

    flat_join : (xs ys : List Node) → flat_map twice_at xs ≡ [] → flat_map twice_at ys ≡ [] → flat_map twice_at (xs ++ ys) ≡ []
    flat_join [] ys h k = k
    flat_join (x ∷ xs) ys h k = let hs = empty_both (twice_at x) (flat_map twice_at xs) h in ap (λ zs. zs ++ flat_map twice_at (xs ++ ys)) hs.0 ∙ flat_join xs ys hs.1 k
      where
        empty_both : (us vs : List ℕ) → (us ++ vs) ≡ [] → (us ≡ []) × (vs ≡ [])
        empty_both [] vs e = (refl, e)
        empty_both (u ∷ us) vs e = absurd cc

    abbrev inside : Around → f.Forest → Around
    inside around b = entered s around p.CLASS b

    classes_own : (around : Around) (b after : f.Forest) → classes_in s around (f.branch p.CLASS b after) ≡ class_from s (inside around b) b (classes_in s (inside around b) b) ∷ classes_in s around after
    unfolding classes_in
    classes_own around b after = refl

    classes_other : (around : Around) (q : ℕ) (b after : f.Forest) → nat_eq q p.CLASS ≡ false → classes_in s around (f.branch q b after) ≡ classes_in s around b ++ classes_in s around after
    unfolding classes_in
    classes_other around q b after e =
        ap (λ c. (if c then class_from s (entered s around q b) b (classes_in s (entered s around q b) b) ∷ [] else classes_in s around b) ++ classes_in s around after) e

    class_none : (around : Around) (b : f.Forest) → deep (class_from s (inside around b) b (classes_in s (inside around b) b)) ≡ true → NoneTwice (inside around b) b →
        (members_twice_in s (inside around b) (members b) ≡ []) × (flat_map twice_at (class_nodes s (inside around b) b) ≡ [])
    class_none around b h deeper =
        let hs = and_parts _ _ (sym (deep_roll _) ∙ h) in
        let one = and_parts _ _ hs.0 in
        let two = and_parts _ _ one.1 in
        let three = and_parts _ _ two.1 in
        (none_twice (inside around b) (members b) one.0 two.0 three.0 three.1, deeper (sym (all_mapped (classes_in s (inside around b) b)) ∙ hs.1))

    branch_none : (q : ℕ) (b : Shown) → Grows (body_of q) b → (at : ℕ) (behind : f.Forest) (c : Bool) → nat_eq p.CLASS q ≡ c → (m : Bool) → nat_eq q p.METHOD ≡ m → (around : Around) →
        ((inner : Around) → NoneTwice inner (numbered at b)) → NoneTwice around behind → NoneTwice around (f.branch q (numbered at b) behind)
    branch_none q b grown at behind true c m d around inner later =
        let own = numbered at b in
        let same = (Decides-eqb p.CLASS q).0 c in
        subst (λ (x : ℕ). NoneTwice around (f.branch x own behind)) same
        (λ h.
        let hs = and_parts _ _ (sym (ap (list_all deep) (classes_own around own behind)) ∙ h) in
        let here = class_none around own hs.0 (inner (inside around own)) in
        ap (flat_map twice_at) (own_class s around own behind)
        ∙ (ap (λ zs. zs ++ flat_map twice_at (class_nodes s (inside around own) own ++ class_nodes s around behind)) here.0
        ∙ flat_join (class_nodes s (inside around own) own) (class_nodes s around behind) here.1 (later hs.1)))
    branch_none q b grown at behind false c true d around inner later =
        λ h. let own = numbered at b in
        let same = (Decides-eqb q p.METHOD).0 d in
        let nothing = searches.nothing class_parts (body_of p.METHOD) (no_class_in_method s) b (subst (λ x. Grows (body_of x) b) same grown) at in
        let hs = all_join (classes_in s around own) (classes_in s around behind) (sym (ap (list_all deep) (classes_other around q own behind (flipped s p.CLASS q c))) ∙ h) in
        ap (flat_map twice_at) (other_class s around q own behind c ∙ ap (λ ns. ns ++ class_nodes s around behind) (none_inside s searches (entered s around q own) own nothing)) ∙ later hs.1
    branch_none q b grown at behind false c false d around inner later =
        λ h. let own = numbered at b in
        let around_is = entered_is s around q own (flipped s p.CLASS q c) d in
        let hs = all_join (classes_in s around own) (classes_in s around behind) (sym (ap (list_all deep) (classes_other around q own behind (flipped s p.CLASS q c))) ∙ h) in
        ap (flat_map twice_at) (other_class s around q own behind c ∙ ap (λ x. class_nodes s x own ++ class_nodes s around behind) around_is)
        ∙ flat_join (class_nodes s around own) (class_nodes s around behind) (inner around hs.0) (later hs.1)

    classes_none : (symbols : List Symbol) (g : Shown) → Grows symbols g → (around : Around) (at : ℕ) → NoneTwice around (numbered at g)
    unfolding classes_in
    classes_none symbols shown.none h around at = λ d. refl
    classes_none [] (shown.leaf l after) h around at = absurd h
    classes_none [] (shown.branch q b after) h around at = absurd h
    classes_none (Terminal t ∷ more) (shown.leaf l after) h around at = classes_none more after h.1 around (suc at)
    classes_none (Terminal t ∷ more) (shown.branch q b after) h around at = absurd h
    classes_none (Nonterminal m ∷ more) (shown.leaf l after) h around at = absurd h
    classes_none (Nonterminal m ∷ more) (shown.branch q b after) h around at =
        branch_none q b h.1 at (numbered (at + size b) after) (nat_eq p.CLASS q) refl (nat_eq q p.METHOD) refl around (λ inner. classes_none (body_of q) b h.1 inner at)
        (classes_none more after h.2 around (at + size b))

-- ---- what is declared outside of any class

-- what isn't sought isn't among the parts
none_of_parts : (sought : List ℕ) (test : ℕ → Bool) → ((q : ℕ) → f.is_among sought q ≡ true → test q ≡ false) → (g : f.Forest) → filter (λ (x : f.Part). test x.production) (f.parts sought g) ≡ []
none_of_parts sought test h f.none = refl
none_of_parts sought test h (f.leaf k after) = none_of_parts sought test h after
none_of_parts sought test h (f.branch q b after) = by (f.is_among sought q) refl (none_of_parts sought test h b) (none_of_parts sought test h after)
  where
    by : (c : Bool) → f.is_among sought q ≡ c → filter (λ (x : f.Part). test x.production) (f.parts sought b) ≡ [] → filter (λ (x : f.Part). test x.production) (f.parts sought after) ≡ [] →
        filter (λ (x : f.Part). test x.production) (cond c (f.part q b ∷ []) (f.parts sought b) ++ f.parts sought after) ≡ []
    by true e inner later =
        let rest = filter (λ (x : f.Part). test x.production) (f.parts sought after) in
        ap (λ (c : Bool). cond c (f.part q b ∷ rest) rest) (h q e) ∙ later
    by false e inner later = filter-append (λ (x : f.Part). test x.production) (f.parts sought b) (f.parts sought after) ∙ (λ i. inner i ++ later i)

abbrev declared_parts : List ℕ
declared_parts =
    p.DECL_ASSEMBLY ∷ p.DECL_MODULE ∷ p.DECL_IMAGEBASE ∷ p.DECL_FILE ∷ p.DECL_STACKRESERVE ∷ p.DECL_SUBSYSTEM ∷ p.DECL_CORFLAGS ∷ p.DECL_CLASS
    ∷ p.DECL_FIELD ∷ p.DECL_METHOD ∷ p.DECL_CUSTOM ∷ p.DECL_DATA ∷ []

no_property : (q : ℕ) → f.is_among declared_parts q ≡ true → nat_eq q p.MEMBER_PROPERTY ≡ false
no_property q h = grind (arith, h)

no_event : (q : ℕ) → f.is_among declared_parts q ≡ true → nat_eq q p.MEMBER_EVENT ≡ false
no_event q h = grind (arith, h)

module _ (searches : SearchesPass) (once : MembersAreOnce) (stands : CanonStands) (s : Source) (a : Assembly) (listed : IsListingOf s a) (says : assembly s ≡ a) where
  formed : is_well_formed (assembly s) ≡ true
  formed = ap is_well_formed says ∙ listed.formed

  globals_none : members_twice_in s nothing_around (declarations s.tree) ≡ []
  unfolding assembly
  globals_none =
      let wf = (assemblies_named (assembly s)).0 formed in
      let ps = declarations s.tree in
      let no_properties = ap (λ xs. all_differ is_same_property (map (read.property s nothing_around (read.method_forests ps)) (map (λ (x : f.Part). f.the p.PROPERTY x.below) xs)))
      (none_of_parts declared_parts (λ q. nat_eq q p.MEMBER_PROPERTY) no_property s.tree) in
      let no_events = ap (λ xs. all_differ is_same_event (map (read.event s nothing_around (read.method_forests ps)) (map (λ (x : f.Part). f.the p.EVENT x.below) xs)))
      (none_of_parts declared_parts (λ q. nat_eq q p.MEMBER_EVENT) no_event s.tree) in
      none_twice once s nothing_around ps wf.fields_differ wf.methods_differ no_properties no_events

  types_none : flat_map (twice_at once s) (classes s) ≡ []
  unfolding nodes assembly
  types_none =
      let wf = (assemblies_named (assembly s)).0 formed in
      let tree = listed.tree in
      let differ : list_all deep (classes_in s nothing_around (numbered 0 (canon a))) ≡ true = sym (ap (λ x. list_all deep (classes_in s nothing_around x)) tree) ∙ all_deep (assembly s) 100 true (classes_in s nothing_around s.tree) wf.classes in
      ap (λ x. flat_map (twice_at once s) (class_nodes s nothing_around x)) tree
      ∙ classes_none once s searches (Nonterminal n.SOURCE ∷ []) (canon a) (stands a listed.formed listed.held) nothing_around 0 differ

  pub members_are : members_twice s ≡ []
  members_are = λ i. globals_none i ++ types_none i
