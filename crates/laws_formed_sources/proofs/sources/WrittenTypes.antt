-- Types' names that a faultless source writes are known to its assembly (ECMA-335 II.7.3).
use Rattle.std.proofs.Common.{◌≡◌, ℕ, List, [], ◌∷◌, Option, None, Some, length, map, refl, ap, sym, subst, ◌∙◌, arith, nat_lt, nat_le}
use Rattle.std.specs.Prelude.{Bool, true, false, ◌&&◌, if◌then◌else◌, is_some, position, bytes_eq}
use Rattle.std.specs.List.{AllByRecursion, list_all}
use Rattle.std.proofs.lemmas.Bool.{and_from, le-leb, lt-ltb, ltb-false}
use Rattle.std.proofs.lemmas.List.{length-map}
use Rattle.std.proofs.lemmas.List.Quantifiers.{position-Some}
use Rattle.std.proofs.lemmas.Option.{same_Some}
use Rattle.il_lexer.specs.declared.types.TokenKind.TheVariants as kind
use Rattle.type_terms.specs.declared.name.Scope.{Scope}
use Rattle.type_terms.specs.declared.name.Scope.TheVariants.{Here, Extern}
use Rattle.type_terms.specs.declared.name.TypeId.{TypeId}
use Rattle.assembly_tree.specs.WellFormedNames.{is_declared, is_known, is_known_in, is_short_path, is_type_id, is_type_name}
use Rattle.ilasm_grammar.specs.declared.productions.TheConstants.{PATH, SLASH_NAME, TYPE_NAME_PATH, TYPE_NAME_SCOPE}
use Rattle.source_model.specs.Classes.{assembly}
use Rattle.source_model.specs.Forest.{Forest, Part, none, leaf, branch, child, each, is_among, leaf_at, parts}
use Rattle.source_model.specs.Manifests.{extern_assembly}
use Rattle.source_model.specs.Names.{Written, assemblies, extern_key, externs, is_declared_path, is_own_name_of, module_name, name_of_parts, or_here, or_module, or_scope, path_tokens, type_name, type_named, with_scope, without_scope, written_name, written_scope}
use Rattle.source_model.specs.Nodes.{type_id}
use Rattle.source_model.specs.Source.{Source}
use Rattle.source_model.specs.TypeRules.{past_100_names, path_too_long_in, path_undeclared, scope_token_unless, scope_undeclared_in, type_undeclared_in}
use Rattle.source_model.specs.Values.{scope_text}
use Rattle.source_nodes.specs.Derived.{FitsBody, HasBodies}
use Rattle.source_nodes.specs.Readers.{IsOf}
use Rattle.source_syntax.proofs.NameTokens.{Each, IsBody, each_body}
use Rattle.source_nodes.proofs.WrittenNames.{path_alone, path_begins, path_child, slash_names}
use Rattle.source_flags.proofs.Gathered.{of_parts, IsSought}
use Rattle.laws_formed_sources.specs.sources.Productions.{AllFaultless, IsFaultlessAt}
use Rattle.laws_formed_sources.proofs.sources.Rules.{for_each}

-- ---- the tokens of a path

-- these tokens are names, and there is one at least
abbrev pub AllNamed : Source → List ℕ → Type 0
AllNamed s [] = Unit {0}
AllNamed s (k ∷ ks) = IsOf s kind.Name k × AllNamed s ks

abbrev pub AreNames : Source → List ℕ → Type 0
AreNames s [] = ⊥
AreNames s (k ∷ ks) = IsOf s kind.Name k × AllNamed s ks

later_named : (s : Source) (fs : List Forest) → Each (IsBody s SLASH_NAME) fs → AllNamed s (map (λ g. leaf_at 1 g) fs)
later_named s [] h = tt
later_named s (f ∷ fs) h = (slash_names s f h.0.0, later_named s fs h.1)

pub path_named : (s : Source) (f : Forest) → FitsBody s PATH f → HasBodies s f → AreNames s (path_tokens f)
path_named s f fits bodies = (path_begins s f fits, later_named s (each SLASH_NAME f) (each_body s SLASH_NAME f bodies))

-- ---- names that are known

unless_nothing : (c : Bool) (k : ℕ) → (if c then [] else k ∷ []) ≡ [] → c ≡ true
unless_nothing true k e = refl
unless_nothing false k e = absurd cc

if_nothing : (c : Bool) (k : ℕ) → (if c then k ∷ [] else []) ≡ [] → c ≡ false
if_nothing true k e = absurd cc
if_nothing false k e = refl

module _ (s : Source) (declared : (path : List TypeId) → is_declared_path s path ≡ true → is_declared (assembly s) path ≡ true)
    (named : (k : ℕ) → IsOf s kind.Name k → is_type_id (type_id s k) ≡ true) where
  short : (ks : List ℕ) → past_100_names ks ≡ [] → nat_le (length (map (type_id s) ks)) 100 ≡ true
  short [] e = refl
  short (k ∷ ks) e =
      let few = ltb-false 99 (length ks) (if_nothing (nat_lt 99 (length ks)) k e) in
      le-leb (length (map (type_id s) (k ∷ ks))) 100 (omega (arith, few, length-map (k ∷ ks) (type_id s)))

  ids : (ks : List ℕ) → AllNamed s ks → list_all is_type_id (map (type_id s) ks) ≡ true
  ids [] h = refl
  ids (k ∷ ks) h = and_from (is_type_id (type_id s k)) (list_all is_type_id (map (type_id s) ks)) (named k h.0) (ids ks h.1)

  all_ids : (ks : List ℕ) → AreNames s ks → list_all is_type_id (map (type_id s) ks) ≡ true
  all_ids [] h = absurd h
  all_ids (k ∷ ks) h = ids (k ∷ ks) h

  -- the number of an assembly is one of those that are named
  extern_within : (own : Bool) (o : Option ℕ) (n : ℕ) → or_here own o ≡ Some (Extern n) → o ≡ Some n
  extern_within own (Some k) n e = let same : Extern k ≡ Extern n = same_Some (Extern k) (Extern n) e in cc
  extern_within true None n e = let same : Here ≡ Extern n = same_Some Here (Extern n) e in absurd cc
  extern_within false None n e = absurd cc

  extern_known : (o : Option ℕ) (n : ℕ) → written_scope s o ≡ Some (Extern n) → nat_lt n (length (assembly s).externs) ≡ true
  unfolding assembly
  extern_known None n e = let same : Here ≡ Extern n = same_Some Here (Extern n) e in absurd cc
  extern_known (Some k) n e =
      let key = scope_text s k in
      let at = extern_within (is_own_name_of s (assemblies s) key) (position (λ f. bytes_eq (extern_key s f) key) (externs s)) n e in
      let less = (position-Some (λ f. bytes_eq (extern_key s f) key) (externs s) n none at).0 in
      lt-ltb n (length (map (extern_assembly s) (externs s))) (omega (arith, less, length-map (externs s) (extern_assembly s)))

  known_path : (ks : List ℕ) → AreNames s ks → path_undeclared s ks (Some Here) ≡ [] → is_declared (assembly s) (map (type_id s) ks) ≡ true
  known_path [] h e = absurd h
  known_path (k ∷ ks) h e = declared (map (type_id s) (k ∷ ks)) (unless_nothing (is_declared_path s (map (type_id s) (k ∷ ks))) k e)

  no_scope : (o : Option ℕ) → written_scope s o ≡ None → scope_token_unless (is_some (written_scope s o)) o ≡ [] → ⊥
  no_scope None e h = absurd cc
  no_scope (Some k) e h = let is : k ∷ [] ≡ [] = sym (ap (λ x. scope_token_unless (is_some x) (Some k)) e) ∙ h in absurd cc

  known : (w : Written) → AreNames s w.path → type_undeclared_in s (Some w) ≡ [] → scope_undeclared_in s (Some w) ≡ [] → is_known (assembly s) (type_named s w) ≡ true
  known w h e i = go (written_scope s w.scope) refl
    where
      go : (o : Option Scope) → written_scope s w.scope ≡ o → is_known (assembly s) (type_named s w) ≡ true
      go None is = absurd (no_scope w.scope is i)
      go (Some Here) is =
          ap (λ o. is_known_in (assembly s) (or_scope o) (map (type_id s) w.path)) is
          ∙ known_path w.path h (sym (ap (path_undeclared s w.path) is) ∙ e)
      go (Some (Extern n)) is = ap (λ o. is_known_in (assembly s) (or_scope o) (map (type_id s) w.path)) is ∙ extern_known w.scope n is

  pub written_known : (w : Written) → AreNames s w.path → type_undeclared_in s (Some w) ≡ [] → scope_undeclared_in s (Some w) ≡ []
      → path_too_long_in (Some w) ≡ [] → is_type_name (assembly s) (type_named s w) ≡ true
  unfolding is_type_name
  written_known w h types scopes paths =
      let path = map (type_id s) w.path in
      and_from (is_short_path path && list_all is_type_id path) (is_known (assembly s) (type_named s w))
      (and_from (is_short_path path) (list_all is_type_id path) (short w.path paths) (all_ids w.path h)) (known w h types scopes)

  pub module_known : is_type_name (assembly s) module_name ≡ true
  unfolding is_type_name
  module_known = refl

  -- what a production names, where it names something
  pub production_known : (p : ℕ) (f : Forest) → IsFaultlessAt s p f → ((w : Written) → written_name p f ≡ Some w → AreNames s w.path)
      → is_type_name (assembly s) (or_module s (written_name p f)) ≡ true
  production_known p f h names = go (written_name p f) refl h.types h.scopes h.paths
    where
      go : (o : Option Written) → written_name p f ≡ o → type_undeclared_in s (written_name p f) ≡ [] → scope_undeclared_in s (written_name p f) ≡ []
          → path_too_long_in (written_name p f) ≡ [] → is_type_name (assembly s) (or_module s (written_name p f)) ≡ true
      go None is a b c = ap (λ o. is_type_name (assembly s) (or_module s o)) is ∙ module_known
      go (Some w) is a b c =
          ap (λ o. is_type_name (assembly s) (or_module s o)) is
          ∙ written_known w (names w is) (sym (ap (type_undeclared_in s) is) ∙ a) (sym (ap (scope_undeclared_in s) is) ∙ b) (sym (ap path_too_long_in is) ∙ c)

  -- ---- the first type's name in a forest

  scoped_names : (f : Forest) → FitsBody s TYPE_NAME_SCOPE f → HasBodies s f → (w : Written) → written_name TYPE_NAME_SCOPE f ≡ Some w → AreNames s w.path
  scoped_names f fits bodies w e =
      let c = path_child s f fits bodies in
      subst (λ x. AreNames s x.path) (same_Some (with_scope f) w e) (path_named s (child (PATH ∷ []) f) c.0 c.1)

  lone_names : (f : Forest) → FitsBody s TYPE_NAME_PATH f → HasBodies s f → (w : Written) → written_name TYPE_NAME_PATH f ≡ Some w → AreNames s w.path
  lone_names f fits bodies w e =
      let c = path_alone s f fits bodies in
      subst (λ x. AreNames s x.path) (same_Some (without_scope f) w e) (path_named s (child (PATH ∷ []) f) c.0 c.1)

  bodies_in : (f : Forest) → AllFaultless s f → HasBodies s f
  bodies_in none h = tt
  bodies_in (leaf k a) h = bodies_in a h
  bodies_in (branch p b a) h = (h.0.range.fits, bodies_in b h.1, bodies_in a h.2)

  pub name_known : (f : Forest) → AllFaultless s f → is_type_name (assembly s) (type_name s f) ≡ true
  name_known f each = go (parts sought f) (of_parts (IsFaultlessAt s) sought f each)
    where
      sought : List ℕ
      sought = TYPE_NAME_SCOPE ∷ TYPE_NAME_PATH ∷ []

      names : (p : ℕ) (g : Forest) → is_among sought p ≡ true → IsFaultlessAt s p g → AllFaultless s g → (w : Written) → written_name p g ≡ Some w → AreNames s w.path
      names p g known own below = for_each Q sought ((λ h. scoped_names g h (bodies_in g below)), ((λ h. lone_names g h (bodies_in g below)), tt)) p known own.range.fits
        where
          Q : ℕ → Type 0
          Q q = FitsBody s q g → (w : Written) → written_name q g ≡ Some w → AreNames s w.path

      go : (ps : List Part) → AllByRecursion (IsSought (IsFaultlessAt s) sought) ps → is_type_name (assembly s) (name_of_parts s ps) ≡ true
      go [] h = module_known
      go (q ∷ qs) h = production_known q.production q.below h.0.1 (names q.production q.below h.0.0 h.0.1 h.0.2)
