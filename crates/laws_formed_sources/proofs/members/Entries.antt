-- The program of a faultless source starts at one method at most (ECMA-335 II.15.4.1.2).
use Rattle.std.proofs.Common.{◌≡◌, ℕ, ◌+◌, ◌≤◌, inl, inr, List, [], ◌∷◌, ◌++◌, Some, cond, drop, length, map, refl, ap, sym, subst, ◌∙◌, arith, length-append}
use Rattle.std.specs.Prelude.{Bool, true, false, not, ◌==◌, ◌||◌, filter, if◌then◌else◌, option_map, sum, sum_by}
use Rattle.std.proofs.lemmas.Bool.{cases_Bool, le-leb}
use Rattle.std.proofs.lemmas.Bool.Decides.{Decides-eqb}
use Rattle.std.proofs.lemmas.List.Sums.{sum-map, sum_by-cons}
use Rattle.std.proofs.lemmas.Option.{same_Some}
use Rattle.assembly_tree.specs.declared.members.Method.{Method}
use Rattle.assembly_tree.specs.declared.typedef.TypeDef.{TypeDef}
use Rattle.assembly_tree.specs.declared.typedef.TypeDef.TheFolds.{fold-roll-TypeDef}
use Rattle.assembly_tree.specs.WellFormed.{is_one_entry}
use Rattle.assembly_tree.specs.WellFormedTypes.{entries, entries_in, entries_of, entries_step}
use Rattle.ilasm_grammar.specs.Grammar.{Rule}
use Rattle.ilasm_grammar.specs.Ilasm.{ilasm, rule_by}
use Rattle.ilasm_grammar.specs.declared.nonterminals.TheConstants as n
use Rattle.ilasm_grammar.specs.declared.productions.TheConstants.{CLASS, DECL_METHOD, ITEM_ENTRYPOINT, MEMBER_METHOD, METHOD}
use Rattle.ilasm_grammar.specs.declared.symbol.Symbol.{Symbol}
use Rattle.ilasm_grammar.specs.declared.symbol.Symbol.TheVariants.{Terminal, Nonterminal}
use Rattle.source_model.specs.Classes.{assembly, class_from, classes_in}
use Rattle.source_model.specs.DeclaredTwice.{entries_twice}
use Rattle.source_model.specs.Forest.{Forest, Part, none, leaf, branch, below_each, first_or, first_token, has, is_among, is_any_part, part, parts, the}
use Rattle.source_model.specs.Items.{declarations, members}
use Rattle.source_model.specs.Members.{is_method_part, method, method_forests, methods}
use Rattle.source_model.specs.Nodes.{Around, entered, nothing_around}
use Rattle.source_model.specs.Source.{Source}
use Rattle.source_nodes.specs.Derived.{Fits, FitsBody, HasBodies, head_of}
use Rattle.source_syntax.proofs.BodyLemmas.{all_in}
use Rattle.source_nodes.proofs.WrittenNames.{both_true, other_true}
use Rattle.laws_formed_sources.proofs.sources.ClassPlaces.{classes_leaf, classes_none, classes_other, classes_own}
use Rattle.laws_formed_sources.proofs.sources.Occurring.{declared_productions, member_productions, seeks}
use Rattle.laws_formed_sources.proofs.sources.Repeats.{no_map}
use Rattle.laws_formed_sources.proofs.sources.Rules.{Stays, body_of, fits_of, nowhere, rule_below, rule_passes, stays_from}

-- ---- all entry points of a forest

abbrev entry_points : Forest → ℕ
entry_points none = 0
entry_points (leaf k f) = entry_points f
entry_points (branch p b f) = cond (is_among (ITEM_ENTRYPOINT ∷ []) p) 1 0 + (entry_points b + entry_points f)

at_least : (p : ℕ) (b f : Forest) → entry_points b + entry_points f ≤ entry_points (branch p b f)
at_least p b f = omega arith

-- ---- sums over parts

abbrev weights : (Part → ℕ) → List Part → ℕ
weights w [] = 0
weights w (p ∷ ps) = w p + weights w ps

weights_joined : (w : Part → ℕ) (ps qs : List Part) → weights w (ps ++ qs) ≡ weights w ps + weights w qs
weights_joined w [] qs = omega arith
weights_joined w (p ∷ ps) qs = let more = weights_joined w ps qs in omega (arith, more)

abbrev points_below : Part → ℕ
points_below p = entry_points p.below

-- the parts of a forest hold no more than the forest
parts_within : (sought : List ℕ) (f : Forest) → weights points_below (parts sought f) ≤ entry_points f
parts_within sought none = omega arith
parts_within sought (leaf k f) = parts_within sought f
parts_within sought (branch p b f) = go (is_among sought p) (parts_within sought b) (parts_within sought f)
  where
    go : (c : Bool) → weights points_below (parts sought b) ≤ entry_points b → weights points_below (parts sought f) ≤ entry_points f
        → weights points_below ((if c then part p b ∷ [] else parts sought b) ++ parts sought f) ≤ entry_points (branch p b f)
    go true h i = let low = at_least p b f in omega (arith, low, i)
    go false h i =
        let low = at_least p b f in
        let both = weights_joined points_below (parts sought b) (parts sought f) in omega (arith, low, h, i, both)

first_within : (ps : List Part) → entry_points (first_or none (below_each ps)) ≤ weights points_below ps
first_within [] = omega arith
first_within (p ∷ ps) = omega arith

the_within : (w : ℕ) (f : Forest) → entry_points (the w f) ≤ entry_points f
the_within w f = let one = first_within (parts (w ∷ []) f) in let all = parts_within (w ∷ []) f in omega (arith, one, all)

-- ---- the entry points that are parts

found_within : (f : Forest) → length (parts (ITEM_ENTRYPOINT ∷ []) f) ≤ entry_points f
found_within none = omega arith
found_within (leaf k f) = found_within f
found_within (branch p b f) = go (is_among (ITEM_ENTRYPOINT ∷ []) p) (found_within b) (found_within f)
  where
    go : (c : Bool) → length (parts (ITEM_ENTRYPOINT ∷ []) b) ≤ entry_points b → length (parts (ITEM_ENTRYPOINT ∷ []) f) ≤ entry_points f
        → length ((if c then part p b ∷ [] else parts (ITEM_ENTRYPOINT ∷ []) b) ++ parts (ITEM_ENTRYPOINT ∷ []) f) ≤ cond c 1 0 + (entry_points b + entry_points f)
    go true h i = omega (arith, i)
    go false h i = let both = length-append (parts (ITEM_ENTRYPOINT ∷ []) b) (parts (ITEM_ENTRYPOINT ∷ []) f) in omega (arith, h, i, both)

any_long : (ps : List Part) → cond (is_any_part ps) 1 0 ≤ length ps
any_long [] = omega arith
any_long (p ∷ ps) = omega arith

has_within : (f : Forest) → cond (has ITEM_ENTRYPOINT f) 1 0 ≤ entry_points f
has_within f = let any = any_long (parts (ITEM_ENTRYPOINT ∷ []) f) in let all = found_within f in omega (arith, any, all)

-- a body of tokens holds none
tokens_hold_none : (s : Source) (body : List Symbol) (f : Forest) → Fits s body f → all_in (λ m. false) body ≡ true → entry_points f ≡ 0
tokens_hold_none s body none h e = refl
tokens_hold_none s [] (leaf k f) h e = absurd h
tokens_hold_none s (Terminal t ∷ more) (leaf k f) h e = tokens_hold_none s more f h.1 e
tokens_hold_none s (Nonterminal m ∷ more) (leaf k f) h e = absurd h
tokens_hold_none s [] (branch p b f) h e = absurd h
tokens_hold_none s (Terminal t ∷ more) (branch p b f) h e = absurd h
tokens_hold_none s (Nonterminal m ∷ more) (branch p b f) h e = absurd cc

entry_tokens : all_in (λ m. false) (body_of (ilasm ITEM_ENTRYPOINT)) ≡ true
unfolding ilasm rule_by
entry_tokens = refl

entry_alone : (p : ℕ) → is_among (ITEM_ENTRYPOINT ∷ []) p ≡ true → ITEM_ENTRYPOINT ≡ p
entry_alone p e = elim (cases_Bool (ITEM_ENTRYPOINT == p)) [
  | inl is ↦ (Decides-eqb ITEM_ENTRYPOINT p).0 is
  | inr other ↦ let h : false ≡ true = sym (ap (λ (c : Bool). c || false) other) ∙ e in absurd cc
]

-- so that each is a part
all_found : (s : Source) (f : Forest) → HasBodies s f → entry_points f ≤ length (parts (ITEM_ENTRYPOINT ∷ []) f)
all_found s none h = omega arith
all_found s (leaf k f) h = all_found s f h
all_found s (branch p b f) h = go (is_among (ITEM_ENTRYPOINT ∷ []) p) refl (all_found s b h.1) (all_found s f h.2)
  where
    go : (c : Bool) → is_among (ITEM_ENTRYPOINT ∷ []) p ≡ c → entry_points b ≤ length (parts (ITEM_ENTRYPOINT ∷ []) b) → entry_points f ≤ length (parts (ITEM_ENTRYPOINT ∷ []) f)
        → cond c 1 0 + (entry_points b + entry_points f) ≤ length ((if c then part p b ∷ [] else parts (ITEM_ENTRYPOINT ∷ []) b) ++ parts (ITEM_ENTRYPOINT ∷ []) f)
    go true is i j =
        let own : FitsBody s ITEM_ENTRYPOINT b = subst (λ q. FitsBody s q b) (sym (entry_alone p is)) h.0 in
        let empty = tokens_hold_none s (body_of (ilasm ITEM_ENTRYPOINT)) b (fits_of s ITEM_ENTRYPOINT b own) entry_tokens in
        omega (arith, empty, j)
    go false is i j = let both = length-append (parts (ITEM_ENTRYPOINT ∷ []) b) (parts (ITEM_ENTRYPOINT ∷ []) f) in omega (arith, i, j, both)

-- ---- the methods among parts

abbrev method_points : Part → ℕ
method_points p = cond (is_method_part p) (entry_points p.below) 0

entries_next : (m : Method) (ms : List Method) → entries_in (m ∷ ms) ≡ cond m.entry 1 0 + entries_in ms
entries_next m ms = sum_by-cons (λ (x : Method). cond x.entry 1 0) m ms

module _ (s : Source) (a : Around) where
  methods_within : (ps : List Part) → entries_in (methods s a ps) ≤ weights method_points ps
  methods_within [] = omega arith
  methods_within (p ∷ ps) = go (is_method_part p) (methods_within ps)
    where
      go : (c : Bool) → entries_in (methods s a ps) ≤ weights method_points ps
          → entries_in (map (method s a) (map (λ (q : Part). the METHOD q.below) (cond c (p ∷ filter is_method_part ps) (filter is_method_part ps)))) ≤ cond c (entry_points p.below) 0 + weights method_points ps
      go true h =
          let next = entries_next (method s a (the METHOD p.below)) (methods s a ps) in
          let own = has_within (the METHOD p.below) in
          let within = the_within METHOD p.below in
          omega (arith, h, next, own, within)
      go false h = omega (arith, h)

-- ---- the classes of a forest

abbrev type_entries : List TypeDef → ℕ
type_entries [] = 0
type_entries (t ∷ ts) = entries_of t + type_entries ts

summed_entries : (ts : List TypeDef) → sum_by entries_of ts ≡ type_entries ts
summed_entries [] = refl
summed_entries (t ∷ ts) = sum_by-cons entries_of t ts ∙ ap (λ k. entries_of t + k) (summed_entries ts)

sum_mapped : (ts : List TypeDef) → sum (map entries_of ts) ≡ type_entries ts
sum_mapped ts = sum-map entries_of ts ∙ summed_entries ts

class_entries : (s : Source) (a : Around) (b : Forest) (nested : List TypeDef) → entries_of (class_from s a b nested) ≡ entries_in (methods s a (members b)) + type_entries nested
class_entries s a b nested = fold-roll-TypeDef ℕ entries_step _ ∙ ap (λ k. entries_in (methods s a (members b)) + k) (sum_mapped nested)

-- no class stands below a method
abbrev plain : ℕ → Bool
plain m = not (is_among (n.SOURCE ∷ n.DECL_STAR ∷ n.DECL ∷ n.CLASS ∷ n.MEMBER_STAR ∷ n.MEMBER ∷ []) m)

plain_stays : Stays plain
unfolding ilasm
plain_stays p r is c = stays_from plain _ _ _ p r is c refl

head_class : head_of CLASS ≡ Some n.CLASS
unfolding ilasm rule_by
head_class = refl

decl_plain : all_in plain (body_of (ilasm DECL_METHOD)) ≡ true
unfolding ilasm rule_by
decl_plain = refl

member_plain : all_in plain (body_of (ilasm MEMBER_METHOD)) ≡ true
unfolding ilasm rule_by
member_plain = refl

-- a forest without the production of a class has no class
empty_both : {X : Type 0} (xs ys : List X) → xs ++ ys ≡ [] → (xs ≡ []) × (ys ≡ [])
empty_both [] ys e = (refl, e)
empty_both (x ∷ xs) ys e = absurd cc

no_types : (s : Source) (a : Around) (f : Forest) → parts (CLASS ∷ []) f ≡ [] → classes_in s a f ≡ []
no_types s a none e = classes_none s a
no_types s a (leaf k f) e = classes_leaf s a k f ∙ no_types s a f e
no_types s a (branch p b f) e = elim (cases_Bool (p == CLASS)) [
  | inl own ↦
      let is : is_among (CLASS ∷ []) p ≡ true = ap (λ (c : Bool). c || false) ((Decides-eqb CLASS p).1 (sym ((Decides-eqb p CLASS).0 own))) in
      let some : part p b ∷ parts (CLASS ∷ []) f ≡ [] = sym (ap (λ (c : Bool). (if c then part p b ∷ [] else parts (CLASS ∷ []) b) ++ parts (CLASS ∷ []) f) is) ∙ e in
      absurd cc
  | inr other ↦ elim (cases_Bool (is_among (CLASS ∷ []) p)) [
    | inl is ↦
        let some : part p b ∷ parts (CLASS ∷ []) f ≡ [] = sym (ap (λ (c : Bool). (if c then part p b ∷ [] else parts (CLASS ∷ []) b) ++ parts (CLASS ∷ []) f) is) ∙ e in
        absurd cc
    | inr apart ↦
        let both = empty_both (parts (CLASS ∷ []) b) (parts (CLASS ∷ []) f)
        (sym (ap (λ (c : Bool). (if c then part p b ∷ [] else parts (CLASS ∷ []) b) ++ parts (CLASS ∷ []) f) apart) ∙ e) in
        classes_other s a p b f other ∙ ap (λ ts. ts ++ classes_in s a f) (no_types s a b both.0) ∙ no_types s a f both.1
  ]
]

no_types_in_method : (s : Source) (a : Around) (p : ℕ) (b : Forest) → (p == DECL_METHOD || p == MEMBER_METHOD) ≡ true → FitsBody s p b → HasBodies s b → classes_in s a b ≡ []
no_types_in_method s a p b known fits each = no_types s a b (elim (cases_Bool (p == DECL_METHOD)) [
  | inl is ↦ below DECL_METHOD decl_plain (subst (λ q. FitsBody s q b) ((Decides-eqb p DECL_METHOD).0 is) fits)
  | inr other ↦
      below MEMBER_METHOD member_plain (subst (λ q. FitsBody s q b) ((Decides-eqb p MEMBER_METHOD).0 (sym (ap (λ (c : Bool). c || p == MEMBER_METHOD) other) ∙ known)) fits)
])
  where
    below : (q : ℕ) → all_in plain (body_of (ilasm q)) ≡ true → FitsBody s q b → parts (CLASS ∷ []) b ≡ []
    below q e h = nowhere plain plain_stays s CLASS n.CLASS head_class refl b (body_of (ilasm q)) (fits_of s q b h) each e

-- ---- a class, and what is declared outside of any

module _ (s : Source) where
  -- the classes of a forest have no more entry points than the forest
  abbrev TypesWithin : Forest → Type 0
  TypesWithin f = (a : Around) → type_entries (classes_in s a f) ≤ entry_points f

  types_joined : (xs ys : List TypeDef) → type_entries (xs ++ ys) ≡ type_entries xs + type_entries ys
  types_joined [] ys = omega arith
  types_joined (t ∷ ts) ys = let more = types_joined ts ys in omega (arith, more)

  module _ (chosen : ℕ → Bool) (sought : List ℕ) (closed : (p : ℕ) (r : Rule) → ilasm p ≡ Some r → seeks chosen sought p r.head r.body ≡ true) (no_class : chosen n.CLASS ≡ false) where
    -- and no more with the methods among its parts
    abbrev AllWithin : Forest → Type 0
    AllWithin f = (a : Around) (body : List Symbol) → Fits s body f → all_in chosen body ≡ true
        → weights method_points (parts sought f) + type_entries (classes_in s a f) ≤ entry_points f

    not_class : (p m : ℕ) → head_of p ≡ Some m → chosen m ≡ true → (p == CLASS) ≡ false
    not_class p m h c = elim (cases_Bool (p == CLASS)) [
      | inl is ↦
          let same : m ≡ n.CLASS = same_Some m n.CLASS (sym h ∙ ap head_of ((Decides-eqb p CLASS).0 is) ∙ head_class) in
          let both : true ≡ false = sym c ∙ ap chosen same ∙ no_class in absurd cc
      | inr other ↦ other
    ]

    -- a part that is sought
    part_within : (a : Around) (p : ℕ) (b : Forest) → FitsBody s p b → HasBodies s b → TypesWithin b → method_points (part p b) + type_entries (classes_in s a b) ≤ entry_points b
    part_within a p b fits each types = go (is_method_part (part p b)) refl
      where
        go : (c : Bool) → is_method_part (part p b) ≡ c → cond c (entry_points b) 0 + type_entries (classes_in s a b) ≤ entry_points b
        go true is =
            let empty : type_entries (classes_in s a b) ≡ 0 = ap type_entries (no_types_in_method s a p b is fits each) in
            omega (arith, empty)
        go false is = let low = types a in omega (arith, low)

    all_within_step : (p : ℕ) (b f : Forest) → FitsBody s p b → HasBodies s b → TypesWithin b → AllWithin b → AllWithin f → AllWithin (branch p b f)
    all_within_step p b f fits each types below after a [] h e = absurd h
    all_within_step p b f fits each types below after a (Terminal t ∷ more) h e = absurd h
    all_within_step p b f fits each types below after a (Nonterminal m ∷ more) h e =
        let both = both_true (chosen m) (all_in chosen more) e in
        let other = not_class p m h.0 both.0 in
        let r = rule_below s p b (ilasm p) refl fits in
        let heads : r.0.head ≡ m = same_Some r.0.head m (sym (ap (option_map (λ (x : Rule). x.head)) r.1) ∙ h.0) in
        let passes = other_true (chosen r.0.head) (is_among sought p || all_in chosen r.0.body) (closed p r.0 r.1) (ap chosen heads ∙ both.0) in
        let counts : type_entries (classes_in s a (branch p b f)) ≡ type_entries (classes_in s a b) + type_entries (classes_in s a f) =
        ap type_entries (classes_other s a p b f other) ∙ types_joined (classes_in s a b) (classes_in s a f) in
        let low = at_least p b f in
        let rest = after a more h.1 both.1 in
        elim (cases_Bool (is_among sought p)) [
          | inl is ↦
              let own = part_within a p b fits each types in
              let parted : weights method_points (parts sought (branch p b f)) ≡ method_points (part p b) + weights method_points (parts sought f) =
              ap (λ (c : Bool). weights method_points ((if c then part p b ∷ [] else parts sought b) ++ parts sought f)) is in
              omega (arith, own, parted, counts, low, rest)
          | inr apart ↦
              let inner = below a r.0.body r.2 (sym (ap (λ (c : Bool). c || all_in chosen r.0.body) apart) ∙ passes) in
              let parted : weights method_points (parts sought (branch p b f)) ≡ weights method_points (parts sought b) + weights method_points (parts sought f) =
              ap (λ (c : Bool). weights method_points ((if c then part p b ∷ [] else parts sought b) ++ parts sought f)) apart
              ∙ weights_joined method_points (parts sought b) (parts sought f) in
              omega (arith, inner, parted, counts, low, rest)
        ]

    all_within_leaf : (k : ℕ) (f : Forest) → AllWithin f → AllWithin (leaf k f)
    all_within_leaf k f after a [] h e = absurd h
    all_within_leaf k f after a (Terminal t ∷ more) h e =
        let same : type_entries (classes_in s a (leaf k f)) ≡ type_entries (classes_in s a f) = ap type_entries (classes_leaf s a k f) in
        let rest = after a more h.1 e in omega (arith, same, rest)
    all_within_leaf k f after a (Nonterminal m ∷ more) h e = absurd h

    all_within_none : AllWithin none
    all_within_none a body h e = let same : type_entries (classes_in s a none) ≡ 0 = ap type_entries (classes_none s a) in omega (arith, same)

-- ---- the whole

abbrev in_class : ℕ → Bool
in_class m = not (is_among (n.SOURCE ∷ n.DECL_STAR ∷ n.DECL ∷ n.CLASS ∷ n.METHOD ∷ []) m)

abbrev outside : ℕ → Bool
outside m = not (is_among (n.MEMBER_STAR ∷ n.MEMBER ∷ n.CLASS ∷ n.METHOD ∷ []) m)

class_rules : (p : ℕ) (r : Rule) → ilasm p ≡ Some r → seeks in_class member_productions p r.head r.body ≡ true
unfolding ilasm
class_rules p r is = rule_passes (seeks in_class member_productions) _ _ _ p r is refl

source_rules : (p : ℕ) (r : Rule) → ilasm p ≡ Some r → seeks outside declared_productions p r.head r.body ≡ true
unfolding ilasm
source_rules p r is = rule_passes (seeks outside declared_productions) _ _ _ p r is refl

class_body : all_in in_class (body_of (ilasm CLASS)) ≡ true
unfolding ilasm rule_by
class_body = refl

module _ (s : Source) where
  abbrev InClass : Forest → Type 0
  InClass f = AllWithin s in_class member_productions class_rules refl f

  types_within_step : (p : ℕ) (b f : Forest) → FitsBody s p b → TypesWithin s b → InClass b → TypesWithin s f → TypesWithin s (branch p b f)
  types_within_step p b f fits types below after a =
      let low = at_least p b f in
      let rest = after a in
      elim (cases_Bool (p == CLASS)) [
        | inl own ↦
            let x = entered s a p b in
            let is : p ≡ CLASS = (Decides-eqb p CLASS).0 own in
            let inner = below x (body_of (ilasm CLASS)) (fits_of s CLASS b (subst (λ q. FitsBody s q b) is fits)) class_body in
            let methods = methods_within s x (members b) in
            let counts : type_entries (classes_in s a (branch p b f)) ≡ entries_in (map (method s x) (method_forests (members b))) + type_entries (classes_in s x b) + type_entries (classes_in s a f) =
            ap type_entries (classes_own s a p b f own)
            ∙ ap (λ k. k + type_entries (classes_in s a f)) (class_entries s x b (classes_in s x b)) in
            omega (arith, low, rest, inner, methods, counts)
        | inr other ↦
            let own = types a in
            let counts : type_entries (classes_in s a (branch p b f)) ≡ type_entries (classes_in s a b) + type_entries (classes_in s a f) =
            ap type_entries (classes_other s a p b f other) ∙ types_joined s (classes_in s a b) (classes_in s a f) in
            omega (arith, low, rest, own, counts)
      ]

  all_types : (f : Forest) → HasBodies s f → TypesWithin s f × InClass f
  all_types none h =
      ((λ a. let same : type_entries (classes_in s a none) ≡ 0 = ap type_entries (classes_none s a) in omega (arith, same)), all_within_none s in_class member_productions class_rules refl)
  all_types (leaf k f) h =
      let after = all_types f h in (
        (λ a. let same : type_entries (classes_in s a (leaf k f)) ≡ type_entries (classes_in s a f) = ap type_entries (classes_leaf s a k f) in
            let rest = after.0 a in omega (arith, same, rest)),
        all_within_leaf s in_class member_productions class_rules refl k f after.1,
      )
  all_types (branch p b f) h =
      let below = all_types b h.1 in
      let after = all_types f h.2 in (
        types_within_step p b f h.0 below.0 below.1 after.0,
        all_within_step s in_class member_productions class_rules refl p b f h.0 h.1 below.0 below.1 after.1,
      )

  all_declared : (f : Forest) → HasBodies s f → AllWithin s outside declared_productions source_rules refl f
  all_declared none h = all_within_none s outside declared_productions source_rules refl
  all_declared (leaf k f) h = all_within_leaf s outside declared_productions source_rules refl k f (all_declared f h)
  all_declared (branch p b f) h =
      all_within_step s outside declared_productions source_rules refl p b f h.0 h.1 (all_types b h.1).0 (all_declared b h.1) (all_declared f h.2)

  -- ---- one at most

  as_many : (ps : List Part) → length (below_each ps) ≡ length ps
  as_many [] = refl
  as_many (p ∷ ps) = let more = as_many ps in omega (arith, more)

  one_long : (fs : List Forest) → drop 1 fs ≡ [] → length fs ≤ 1
  one_long [] e = omega arith
  one_long (f ∷ []) e = omega arith
  one_long (f ∷ g ∷ fs) e = absurd cc

  pub one_entry : Fits s (Nonterminal n.SOURCE ∷ []) s.tree → HasBodies s s.tree → entries_twice s ≡ [] → is_one_entry (assembly s) ≡ true
  unfolding assembly entries
  one_entry fits each e =
      let once = one_long (each_entry s.tree) (no_map first_token (drop 1 (each_entry s.tree)) e) in
      let many = as_many (parts (ITEM_ENTRYPOINT ∷ []) s.tree) in
      let found = all_found s s.tree each in
      let methods = methods_within s nothing_around (declarations s.tree) in
      let all = all_declared s.tree each nothing_around (Nonterminal n.SOURCE ∷ []) fits refl in
      let types = summed_entries (classes_in s nothing_around s.tree) in
      le-leb (entries (assembly s)) 1 (omega (arith, once, many, found, methods, all, types))
    where
      each_entry : Forest → List Forest
      each_entry f = below_each (parts (ITEM_ENTRYPOINT ∷ []) f)
