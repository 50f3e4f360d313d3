-- Types and assemblies that are named and not declared, from what is found of them.
use Rattle.std.proofs.Common.{◌≡◌, ℕ, zero, suc, ◌+◌, ◌<◌, ◌≤◌, List, [], ◌∷◌, Option, None, Some, length, drop, map, refl, ap, sym, subst, ◌∙◌, arith}
use Rattle.std.specs.Prelude.{Bool, true, false, ◌==◌, ◌||◌, if◌then◌else◌, get_or, position, bytes_eq, is_some}
use Rattle.std.specs.List.{flat_map, list_any}
use Rattle.std.proofs.lemmas.List.{drop_more}
use Rattle.std.proofs.lemmas.List.Quantifiers.{position-Some}
use Rattle.std.proofs.lemmas.Bool.Decides.{Decides-eqb}
use Rattle.type_terms.specs.declared.name.Scope.{Scope}
use Rattle.type_terms.specs.declared.name.Scope.TheVariants.{Here, Extern}
use Rattle.type_terms.specs.declared.name.TypeId.{TypeId}
use Rattle.assembly_tree.specs.DataSize.{is_id}
use Rattle.source_model.specs.Forest.{Forest}
use Rattle.source_model.specs.Names.{Written, assemblies, classes, extern_key, externs, is_declared_path, is_own_name_of, is_path, module_path, or_here, scope_named, written_name, written_scope}
use Rattle.source_model.specs.Nodes.{Node, nodes, type_id}
use Rattle.source_model.specs.Source.{Source}
use Rattle.source_model.specs.TypeRules.{path_undeclared, scope_token_unless, scope_undeclared, scope_undeclared_in, type_undeclared, type_undeclared_in}
use Rattle.source_model.specs.Undeclared.{scopes_undeclared, types_undeclared}
use Rattle.source_model.specs.Values.{name_text, scope_text}
use Rattle.source_syntax.specs.ClassNumbers.{Knows, class_in, class_numbered, id_of, outer_of}
use Rattle.check_names.specs.DeclaredClasses.{declared_paths}
use Rattle.check_names.specs.NamedTypes.{is_first, path_missing, scope_by, scope_missing_in, standing_of, type_missing_in, written_scope_by}
use Rattle.source_syntax.specs.Namings.{names_in, tokens_named}
use Rattle.source_nodes.specs.Derived.{FitsBody, HasBodies}
use Rattle.source_nodes.specs.Least.{least}
use Rattle.source_syntax.specs.Nested.{onward, reached}
use Rattle.check_names.specs.WrittenTypes.{any_written, written_of}
use Rattle.check_names.specs.declared.written.WrittenName.{WrittenName}
use Rattle.source_syntax.specs.declared.class_paths.ClassName.{ClassName}
use Rattle.source_syntax.specs.declared.name_lists.Naming.TheVariants.{Assembly, Own}
use Rattle.check_names.specs.declared.named_types.Standing.{Standing}
use Rattle.check_names.specs.declared.named_types.Standing.TheVariants as standing
use Rattle.source_syntax.proofs.ClassLemmas.{path_itself, path_same}
use Rattle.check_names.proofs.MissingLemmas.{flat_same, some_found, some_place}
use Rattle.source_syntax.proofs.ScopeLemmas.{either_way, key_position}
use Rattle.check_names.proofs.WrittenLemmas.{AreNamed, IfNamed, written_named}
use Rattle.std.proofs.lemmas.Bool.{cases_Bool}
use Rattle.std.proofs.Common.{inl, inr}

-- ---- along a path

rest_of : (s : Source) (cs : List ClassName) (path : List ℕ) (k at : ℕ) → k < length path
    → reached outer_of id_of is_id cs (map (type_id s) (drop k path)) at
    ≡ onward (reached outer_of id_of is_id cs (map (type_id s) (drop (k + 1) path))) (class_in cs (type_id s (get_or path k 0)) at)
rest_of s cs path k at within = ap (λ ks. reached outer_of id_of is_id cs (map (type_id s) ks) at) (drop_more path k 0 within)

pub goes_on : (s : Source) (cs : List ClassName) (path : List ℕ) (k at number : ℕ) (id : TypeId) (whole : Option ℕ) → k < length path
    → id ≡ type_id s (get_or path k 0) → class_in cs id at ≡ Some number
    → whole ≡ reached outer_of id_of is_id cs (map (type_id s) (drop k path)) at → whole ≡ reached outer_of id_of is_id cs (map (type_id s) (drop (k + 1) path)) number
goes_on s cs path k at number id whole within is found so_far =
    so_far ∙ rest_of s cs path k at within
    ∙ ap (onward (reached outer_of id_of is_id cs (map (type_id s) (drop (k + 1) path)))) (ap (λ i. class_in cs i at) (sym is) ∙ found)

pub stops : (s : Source) (cs : List ClassName) (path : List ℕ) (k at : ℕ) (id : TypeId) (whole : Option ℕ) → k < length path
    → id ≡ type_id s (get_or path k 0) → class_in cs id at ≡ None
    → whole ≡ reached outer_of id_of is_id cs (map (type_id s) (drop k path)) at → false ≡ is_some whole
stops s cs path k at id whole within is none so_far =
    sym (ap is_some (so_far ∙ rest_of s cs path k at within
    ∙ ap (onward (reached outer_of id_of is_id cs (map (type_id s) (drop (k + 1) path)))) (ap (λ i. class_in cs i at) (sym is) ∙ none)))

pub arrives : (s : Source) (cs : List ClassName) (path : List ℕ) (k at : ℕ) (whole : Option ℕ) → length path ≤ k
    → whole ≡ reached outer_of id_of is_id cs (map (type_id s) (drop k path)) at → true ≡ is_some whole
arrives s cs path k at whole over so_far =
    sym (ap is_some (so_far ∙ ap (λ ks. reached outer_of id_of is_id cs (map (type_id s) ks) at) (past path k over)))
  where
    past : (xs : List ℕ) (n : ℕ) → length xs ≤ n → drop n xs ≡ []
    past [] zero h = refl
    past [] (suc n) h = refl
    past (x ∷ xs) zero h = absurd (omega (arith, h))
    past (x ∷ xs) (suc n) h = past xs n (omega (arith, h))

-- ---- the paths of the classes

module _ (s : Source) (cs : List ClassName) (knows : Knows cs (declared_paths s)) where
  turned : (p q : List TypeId) → is_path p q ≡ is_path q p
  turned p q = elim (cases_Bool (is_path p q)) [
    | inl e ↦ e ∙ sym (ap (λ x. is_path x p) (sym (path_same p q e)) ∙ path_itself p)
    | inr e ↦ elim (cases_Bool (is_path q p)) [
      | inr d ↦ e ∙ sym d
      | inl d ↦ let also : is_path p q ≡ true = ap (λ x. is_path p x) (path_same q p d) ∙ path_itself p in absurd cc
    ]
  ]

  any_path : (path : List TypeId) (ns : List Node) → list_any (is_path path) (map (λ (n : Node). n.around.path) ns) ≡ list_any (λ (n : Node). is_path n.around.path path) ns
  any_path path [] = refl
  any_path path (n ∷ ns) =
      ap (λ b. b || list_any (is_path path) (map (λ (m : Node). m.around.path) ns)) (turned path n.around.path) ∙ ap (λ b. is_path n.around.path path || b) (any_path path ns)

  pub declared_is : (i : TypeId) (more : List TypeId) → is_some (class_numbered cs (i ∷ more)) ≡ is_declared_path s (i ∷ more)
  declared_is i more =
      knows i more
      ∙ ap (λ b. is_path (i ∷ more) module_path || b) (any_path (i ∷ more) (classes s) ∙ sym (some_found (λ (n : Node). is_path n.around.path (i ∷ more)) (classes s)))

-- ---- what is known of a source

module _ (s : Source) (keys own : List (List ℕ)) (k : keys ≡ map (name_text s) (names_in Assembly s.tree)) (o : own ≡ map (name_text s) (names_in Own s.tree)) where
  keys_as : (fs : List Forest) → map (name_text s) (flat_map (tokens_named Assembly) fs) ≡ map (extern_key s) fs
  keys_as [] = refl
  keys_as (f ∷ fs) = ap (λ ks. extern_key s f ∷ ks) (keys_as fs)

  own_as : (fs : List Forest) (text : List ℕ) → is_first (map (name_text s) (flat_map (tokens_named Own) fs)) text ≡ is_own_name_of s fs text
  own_as [] text = refl
  own_as (f ∷ fs) text = refl

  pub scope_is : (text : List ℕ) → scope_by keys own text ≡ scope_named s text
  scope_is text =
      ap (λ x. or_here (is_first x text) (position (bytes_eq text) keys)) o ∙ ap (λ b. or_here b (position (bytes_eq text) keys)) (own_as (assemblies s) text)
      ∙ ap (λ x. or_here (is_own_name_of s (assemblies s) text) (position (bytes_eq text) x)) (k ∙ keys_as (externs s))
      ∙ ap (or_here (is_own_name_of s (assemblies s) text)) (key_position s text)

  written_scope_is : (scope : Option ℕ) → written_scope_by keys own s scope ≡ written_scope s scope
  written_scope_is None = refl
  written_scope_is (Some j) = scope_is (scope_text s j)

  pub one_scope : (w : Option Written) → scope_missing_in keys own s w ≡ scope_undeclared_in s w
  one_scope None = refl
  one_scope (Some w) = ap (λ x. scope_token_unless (is_some x) w.scope) (written_scope_is w.scope)

  pub scopes_are : flat_map (λ (n : Node). scope_missing_in keys own s (written_name n.production n.below)) (nodes s) ≡ scopes_undeclared s
  scopes_are = flat_same _ (scope_undeclared s) (nodes s) (λ n. one_scope (written_name n.production n.below))

  module _ (cs : List ClassName) (knows : Knows cs (declared_paths s)) where
    one_path : (path : List ℕ) (scope : Option Scope) → path_missing cs s path scope ≡ path_undeclared s path scope
    one_path [] scope = refl
    one_path (j ∷ js) None = refl
    one_path (j ∷ js) (Some (Extern n)) = refl
    one_path (j ∷ js) (Some Here) = ap (λ (b : Bool). if b then [] else j ∷ []) (declared_is s cs knows (type_id s j) (map (type_id s) js))

    pub one_type : (w : Option Written) → type_missing_in keys own cs s w ≡ type_undeclared_in s w
    one_type None = refl
    one_type (Some w) = ap (path_missing cs s w.path) (written_scope_is w.scope) ∙ one_path w.path (written_scope s w.scope)

    pub types_are : flat_map (λ (n : Node). type_missing_in keys own cs s (written_name n.production n.below)) (nodes s) ≡ types_undeclared s
    types_are = flat_same _ (type_undeclared s) (nodes s) (λ n. one_type (written_name n.production n.below))

-- ---- one name

pub elsewhere : (keys own : List (List ℕ)) (text : List ℕ) (k : ℕ) → position (bytes_eq text) keys ≡ Some k
    → standing.Elsewhere ≡ standing_of (scope_by keys own text)
elsewhere keys own text k at = sym (ap (λ o. standing_of (or_here (is_first own text) o)) at)

pub here_or_nowhere : (keys own : List (List ℕ)) (text : List ℕ) (x : Standing) (b : Bool) → position (bytes_eq text) keys ≡ None
    → x ≡ standing_of (or_here b None) → b ≡ is_first own text → x ≡ standing_of (scope_by keys own text)
here_or_nowhere keys own text x b at is same =
    is ∙ ap (λ c. standing_of (or_here c None)) same ∙ sym (ap (λ o. standing_of (or_here (is_first own text) o)) at)

at_first : (own : List (List ℕ)) (text : List ℕ) (k : ℕ) → position (bytes_eq text) own ≡ Some k → (k == 0) ≡ is_first own text
at_first [] text k e = absurd cc
at_first (x ∷ xs) text k e =
    go (bytes_eq text x) refl (position-Some (bytes_eq text) (x ∷ xs) k [] e)
  where
    go : (b : Bool) → bytes_eq text x ≡ b
        → (k < suc (length xs)) × (bytes_eq text (get_or (x ∷ xs) k []) ≡ true) × ((j : ℕ) → j < k → bytes_eq text (get_or (x ∷ xs) j []) ≡ false)
        → (k == 0) ≡ bytes_eq x text
    go true own p = first (k == 0) refl ∙ sym (either_way x text ∙ own)
      where
        first : (c : Bool) → (k == 0) ≡ c → c ≡ true
        first true h = refl
        first false h =
            let more : 0 < k = grind arith in
            let no = p.2 0 more in
            absurd cc
    go false own p = later (k == 0) refl ∙ sym (either_way x text ∙ own)
      where
        later : (c : Bool) → (k == 0) ≡ c → c ≡ false
        later false h = refl
        later true h =
            let none : k ≡ 0 = (Decides-eqb k 0).0 h in
            let yes : bytes_eq text x ≡ true = sym (ap (λ m. bytes_eq text (get_or (x ∷ xs) m [])) none) ∙ p.1 in
            absurd cc

pub first_place : (own : List (List ℕ)) (text : List ℕ) (k : ℕ) → position (bytes_eq text) own ≡ Some k → (k == 0) ≡ is_first own text
first_place own text k e = at_first own text k e

pub not_first : (own : List (List ℕ)) (text : List ℕ) → position (bytes_eq text) own ≡ None → false ≡ is_first own text
not_first [] text e = refl
not_first (x ∷ xs) text e = go (bytes_eq text x) refl
  where
    go : (b : Bool) → bytes_eq text x ≡ b → false ≡ bytes_eq x text
    go false own = sym (either_way x text ∙ own)
    go true own =
        let any : is_some (position (bytes_eq text) (x ∷ xs)) ≡ true = some_place (bytes_eq text) (x ∷ xs) ∙ ap (λ b. b || list_any (bytes_eq text) xs) own in
        let none : is_some (position (bytes_eq text) (x ∷ xs)) ≡ false = ap is_some e in
        absurd cc

pub written_is : (keys own : List (List ℕ)) (s : Source) (scope : Option ℕ) (token : ℕ) (text : List ℕ) (x : Standing) → scope ≡ Some token
    → text ≡ scope_text s token → x ≡ standing_of (scope_by keys own text) → x ≡ standing_of (written_scope_by keys own s scope)
written_is keys own s scope token text x at is named =
    named ∙ ap (λ t. standing_of (scope_by keys own t)) is ∙ sym (ap (λ o. standing_of (written_scope_by keys own s o)) at)

-- ---- a production

pub none_of : (p : ℕ) (n : Node) (o : Option WrittenName) → any_written o ≡ written_name p n.below → n.production ≡ p → o ≡ None
    → written_name n.production n.below ≡ None
none_of p n o is same none = ap (λ q. written_name q n.below) same ∙ sym is ∙ ap any_written none

pub some_of : (p : ℕ) (n : Node) (o : Option WrittenName) (w : WrittenName) → any_written o ≡ written_name p n.below → n.production ≡ p → o ≡ Some w
    → written_name n.production n.below ≡ Some (written_of w)
some_of p n o w is same some = ap (λ q. written_name q n.below) same ∙ sym is ∙ ap any_written some

pub tokens_of_name : (s : Source) (n : Node) (w : Written) → written_name n.production n.below ≡ Some w → FitsBody s n.production n.below → HasBodies s n.below → AreNamed s w
tokens_of_name s n w is fits h = subst (IfNamed s) is (written_named s n.production n.below fits h)

pub path_elsewhere : (cs : List ClassName) (s : Source) (path : List ℕ) (scope : Option Scope) → standing.Elsewhere ≡ standing_of scope → None ≡ least (path_missing cs s path scope)
path_elsewhere cs s [] scope e = refl
path_elsewhere cs s (k ∷ ks) None e = refl
path_elsewhere cs s (k ∷ ks) (Some (Extern n)) e = refl
path_elsewhere cs s (k ∷ ks) (Some Here) e = absurd cc

pub path_nowhere : (cs : List ClassName) (s : Source) (path : List ℕ) (scope : Option Scope) → standing.Nowhere ≡ standing_of scope → None ≡ least (path_missing cs s path scope)
path_nowhere cs s [] scope e = refl
path_nowhere cs s (k ∷ ks) None e = refl
path_nowhere cs s (k ∷ ks) (Some (Extern n)) e = refl
path_nowhere cs s (k ∷ ks) (Some Here) e = absurd cc

pub here_is : (scope : Option Scope) → standing.Here ≡ standing_of scope → scope ≡ Some Here
here_is None e = absurd cc
here_is (Some (Extern n)) e = absurd cc
here_is (Some Here) e = refl
