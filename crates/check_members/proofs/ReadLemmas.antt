-- Members as they are read: what a rule finds in their signatures, and the place of their types.
use Rattle.std.proofs.Common.{◌≡◌, ℕ, ◌-◌, ◌<◌, ◌≤◌, ◌^◌, List, [], ◌∷◌, None, Some, length, map, drop, refl, ap, sym, ◌∙◌, arith, length-drop}
use Rattle.std.specs.Prelude.{Bool, true, false, not, ◌&&◌, if◌then◌else◌, is_some, min}
use Rattle.std.specs.List.{flat_map}
use Rattle.std.proofs.lemmas.List.{length-map}
use Rattle.type_terms.specs.declared.name.TypeId.{TypeId}
use Rattle.ilasm_grammar.specs.declared.productions.TheConstants.{ASSEMBLY_EXTERN, TARGET_SCOPE, TYPAR, TYPARS_OPT_SOME}
use Rattle.source_model.specs.Forest.{Forest, child, has, leaf_at, preorder}
use Rattle.source_model.specs.Members.{in_method}
use Rattle.source_model.specs.Names.{extern_key, externs, scope_named}
use Rattle.source_model.specs.Nodes.{Around, Node, nodes_in, nothing_around, typar_names, typars}
use Rattle.source_model.specs.Parameters.{parameters}
use Rattle.source_model.specs.Source.{Source}
use Rattle.source_model.specs.TypeRules.{are_unbroken, breaks_signature, first_of, is_nothing, past_count}
use Rattle.source_model.specs.Undeclared.{has_known_scope}
use Rattle.source_model.specs.Values.{name_text, scope_text}
use Rattle.source_syntax.specs.Namings.{AreNames, tokens_named}
use Rattle.source_syntax.specs.Places.{IsAt}
use Rattle.source_nodes.specs.Readers.{Reads}
use Rattle.source_syntax.specs.declared.name_lists.Named.{Named}
use Rattle.source_syntax.specs.declared.name_lists.Naming.TheVariants.{Assembly, Own}
use Rattle.source_syntax.specs.declared.place.Place.{Place}
use Rattle.source_syntax.proofs.SizeLemmas.{child_smaller, few_each}
use Rattle.check_names.specs.NamedTypes.{scope_by, written_scope_by}
use Rattle.check_names.specs.declared.named_types.Scopes.{Scopes}
use Rattle.check_names.proofs.NamedTypeLemmas.{scope_is}
use Rattle.check_members.proofs.KeepLemmas.{nothing_same}
use Rattle.check_members.specs.MemberKinds.{class_around, is_unbroken_of, member_of, unbroken_member}
use Rattle.check_members.specs.MemberReading.{Serves}
use Rattle.check_visitor.specs.Surroundings.{HasParameters, IsSurrounding, found_in}
use Rattle.check_visitor.specs.declared.asking.Surrounding.{Surrounding}
use Rattle.check_members.specs.declared.member_kinds.Kind.{Kind}
use Rattle.check_members.specs.declared.member_sets.Member.{Member}

-- the rule finds nothing where nothing breaks a signature
pub kept_is : (broken : Source → Node → List ℕ) (scopes : Scopes) (s : Source) → Serves broken scopes s → (a : Around) (f : Forest)
    → is_nothing (found_in broken s a f) ≡ are_unbroken s (nodes_in s a f)
kept_is broken scopes s v a f = nothing_same (broken s) (breaks_signature s) v.breaks (nodes_in s a f)

pub place_is : (broken : Source → Node → List ℕ) (scopes : Scopes) (s : Source) → Serves broken scopes s → (a : Around) (x : Place) (p : Surrounding)
    → Reads x.reader s → HasParameters s p a → x.keys.now ≡ scopes.keys.now → x.class.now ≡ p.class_typars.now → x.method.now ≡ p.method_typars.now → IsAt x s a
place_is broken scopes s v a x p r has k c m = record {
  reads = r;
  keys = k ∙ v.keys-are;
  few = v.few;
  class = c ∙ has.class;
  method = m ∙ has.method;
  few-class = has.few-class;
  few-method = has.few-method;
}

-- ---- a member, or none

module _ (s : Source) (a : Around) (kind : Kind) (f : Forest) where
  pub none_is : is_unbroken_of s a kind f ≡ false → None ≡ unbroken_member s a kind f
  none_is e = sym (ap (λ (b : Bool). if b then Some (member_of s a kind f) else None) e)

  pub some_is : (m : Member) → is_unbroken_of s a kind f ≡ true → m ≡ member_of s a kind f → Some m ≡ unbroken_member s a kind f
  some_is m e is = ap Some is ∙ sym (ap (λ (b : Bool). if b then Some (member_of s a kind f) else None) e)

pub same_member : (m n : Member) → m.name ≡ n.name → m.sig ≡ n.sig → m ≡ n
same_member m n name sig = λ k. record { name = name k; sig = sig k }

-- ---- truth values

pub both_are : (c a b : Bool) → a ≡ c → b ≡ true → (a && b) ≡ c
both_are c true b is h = h ∙ is
both_are c false b is h = is

pub never : (a b : Bool) → b ≡ false → (a && b) ≡ false
never true b h = h
never false b h = refl

pub not_true : (b : Bool) → not b ≡ true → b ≡ false
not_true true e = absurd cc
not_true false e = refl

pub not_false : (b : Bool) → not b ≡ false → b ≡ true
not_false true e = refl
not_false false e = absurd cc

-- ---- counts of generic parameters

few : (n total : ℕ) (gs : List Forest) → length gs ≡ total - n → total ≤ n → is_nothing (first_of gs) ≡ true
few n total [] e h = refl
few n total (g ∷ gs) e h = absurd (omega (arith, e, h))

many : (n total : ℕ) (gs : List Forest) → length gs ≡ total - n → n < total → is_nothing (first_of gs) ≡ false
many n total [] e h = absurd (omega (arith, e, h))
many n total (g ∷ gs) e h = refl

pub few_typars : (f : Forest) → length (typars f) ≤ 65535 → is_nothing (past_count (typars f)) ≡ true
few_typars f h = few 65535 (length (typars f)) (drop 65535 (typars f)) (length-drop 65535 (typars f)) h

pub many_typars : (f : Forest) → 65535 < length (typars f) → is_nothing (past_count (typars f)) ≡ false
many_typars f h = many 65535 (length (typars f)) (drop 65535 (typars f)) (length-drop 65535 (typars f)) h

-- fewer than the nodes
pub few_names : (s : Source) (f : Forest) (n : ℕ) → length (preorder f) < n → length (typar_names s f) < n
few_names s f n h =
    let names : length (typar_names s f) ≡ length (typars f) = length-map (typars f) (λ (g : Forest). name_text s (leaf_at 0 g)) in
    omega (arith, names, h, few_each TYPAR (child (TYPARS_OPT_SOME ∷ []) f), child_smaller (TYPARS_OPT_SOME ∷ []) f)

-- ---- what a source knows of its assemblies

keys_as : (s : Source) (fs : List Forest) → map (name_text s) (flat_map (tokens_named Assembly) fs) ≡ map (extern_key s) fs
keys_as s [] = refl
keys_as s (f ∷ fs) = ap (λ ks. extern_key s f ∷ ks) (keys_as s fs)

few_externs : (s : Source) (n : ℕ) → length (preorder s.tree) < n → length (externs s) < n
few_externs s n h = omega (arith, h, few_each ASSEMBLY_EXTERN s.tree)

pub serves_by : (broken : Source → Node → List ℕ) (s : Source) (scopes : Scopes) (x own : Named) → scopes.keys.now ≡ x.names → scopes.own.now ≡ own.names
    → AreNames s Assembly x → AreNames s Own own → ((n : Node) → is_nothing (broken s n) ≡ is_nothing (breaks_signature s n))
    → length (preorder s.tree) < 2 ^ 32 → Serves broken scopes s
serves_by broken s scopes x own k o names owns same few = record {
  breaks = same;
  keys-are = k ∙ names.texts ∙ keys_as s (externs s);
  own-are = o ∙ owns.texts;
  few = few_externs s (2 ^ 32) few;
}

-- the name in brackets before the owner of a reference, by what stands for it
module _ (broken : Source → Node → List ℕ) (s : Source) (scopes : Scopes) (v : Serves broken scopes s) where
  standing_known : (text : List ℕ) → is_some (scope_by scopes.keys.now scopes.own.now text) ≡ is_some (scope_named s text)
  standing_known text = ap is_some (scope_is s scopes.keys.now scopes.own.now (v.keys-are ∙ sym (keys_as s (externs s))) v.own-are text)

  pub scope_known : (f : Forest) (token : ℕ) (b : Bool) → has TARGET_SCOPE f ≡ true → token ≡ leaf_at 0 (child (TARGET_SCOPE ∷ []) f)
      → b ≡ is_some (written_scope_by scopes.keys.now scopes.own.now s (Some token)) → b ≡ has_known_scope s f
  scope_known f token b some at is =
      is ∙ standing_known (scope_text s token) ∙ ap (λ k. is_some (scope_named s (scope_text s k))) at
      ∙ sym (ap (λ (c : Bool). if c then is_some (scope_named s (scope_text s (leaf_at 0 (child (TARGET_SCOPE ∷ []) f)))) else true) some)

pub unscoped_known : (s : Source) (f : Forest) → has TARGET_SCOPE f ≡ false → true ≡ has_known_scope s f
unscoped_known s f none =
    sym (ap (λ (c : Bool). if c then is_some (scope_named s (scope_text s (leaf_at 0 (child (TARGET_SCOPE ∷ []) f)))) else true) none)

-- ---- what stands around

pub around_nothing : (p : Surrounding) → p.depth ≡ 0 → [] ≡ p.class.now → [] ≡ p.method.now → IsSurrounding p nothing_around
around_nothing p depth class method = record { depth = depth; class = class; method = method }

pub names_of_nothing : (s : Source) (p : Surrounding) → p.class_typars.now ≡ [] → p.method_typars.now ≡ [] → p.parameters ≡ 0 → HasParameters s p nothing_around
names_of_nothing s p class method count = record {
  class = class;
  method = method;
  count = count;
  few-class = omega arith;
  few-method = omega arith;
}

pub around_class : (s : Source) (path : List TypeId) (f : Forest) (p : Surrounding) → p.depth ≡ min (length (class_around s path f).path) 101
    → preorder f ≡ p.class.now → [] ≡ p.method.now → IsSurrounding p (class_around s path f)
around_class s path f p d e none = record { depth = d; class = e; method = none }

pub names_of_class : (s : Source) (path : List TypeId) (f : Forest) (p : Surrounding) → p.class_typars.now ≡ typar_names s f → p.method_typars.now ≡ []
    → p.parameters ≡ 0 → length (preorder f) < 2 ^ 32 → HasParameters s p (class_around s path f)
names_of_class s path f p class none count few = record {
  class = class;
  method = none;
  count = count;
  few-class = few_names s f (2 ^ 32) few;
  few-method = omega arith;
}

pub around_method : (a : Around) (f : Forest) (q p : Surrounding) → IsSurrounding q a → p.depth ≡ q.depth → p.class.now ≡ q.class.now
    → preorder f ≡ p.method.now → IsSurrounding p (in_method a f)
around_method a f q p is depth class method = record { depth = depth ∙ is.depth; class = is.class ∙ sym class; method = method }

pub names_of_method : (s : Source) (a : Around) (f : Forest) (q p : Surrounding) → HasParameters s q a → p.class_typars.now ≡ q.class_typars.now
    → p.method_typars.now ≡ typar_names s f → p.parameters ≡ length (parameters f) → length (preorder f) < 2 ^ 32 → HasParameters s p (in_method a f)
names_of_method s a f q p has class names count few = record {
  class = class ∙ has.class;
  method = names;
  count = count;
  few-class = has.few-class;
  few-method = few_names s f (2 ^ 32) few;
}
