-- Names of types break no rule.
use Rattle.std.proofs.Common.{◌≡◌, ◌&&◌, ℕ, suc, ◌+◌, ◌≤◌, nat_lt, nat_le, Bool, true, false, if◌then◌else◌, List, [], ◌∷◌, map, length, Option, Some, refl, ap, sym, subst, ◌∙◌, arith}
use Rattle.std.proofs.lemmas.Bool.{and_parts, false≢true, leb-true}
use Rattle.std.specs.Prelude.{is_some}
use Rattle.ilasm_grammar.specs.declared.productions.TheConstants as p
use Rattle.type_terms.specs.declared.name.Scope as scope
use Rattle.type_terms.specs.declared.name.TypeId.{TypeId}
use Rattle.type_terms.specs.declared.name.TypeName.{TypeName}
use Rattle.type_terms.specs.Depth.{owner_depth_step, depth_step, owner_depth}
use Rattle.type_terms.specs.declared.term.Owner.TheVariants as o
use Rattle.type_terms.proofs.Layers.{fold-Name}
use Rattle.assembly_tree.specs.WellFormedTerms as formed
use Rattle.assembly_tree.specs.WellFormedTerms.{is_owner}
use Rattle.assembly_tree.specs.WellFormedNames.{is_declared, is_known_in, is_type_name}
use Rattle.assembly_tree.specs.declared.assembly.Assembly.{Assembly}
use Rattle.source_model.specs.Forest as f
use Rattle.source_model.specs.Names.{path_tokens, is_declared_path, scope_named}
use Rattle.source_model.specs.Nodes.{Around, Node, nodes_in, type_id}
use Rattle.source_model.specs.Source.{Source}
use Rattle.source_model.specs.TypeRules.{past_100_names, path_undeclared, scope_token_unless}
use Rattle.source_model.specs.Values.{part_texts, dotted, between_quotes}
use Rattle.faultless_nodes.specs.Laws.{BreaksNothing, EachBreaksNothing, UnaskedBreakNothing}
use Rattle.listing_formed.specs.Laws.{Knows, FormedAreReadable}
use Rattle.listing_growth.specs.Held.{owner_holds, type_holds, is_owner_held}
use Rattle.listing_growth.specs.Standing.{has_name}
use Rattle.listing_leaves.specs.Laws.{is_name}
use Rattle.listing_leaves.specs.Names as leaf
use Rattle.listing_model.specs.Shown.{none, size}
use Rattle.listing_model.specs.Types.{path, path_below, slash_name, extern_key, name_in, type_name}
use Rattle.listing_reading.specs.Numbered.{numbered, Agrees}
use Rattle.listing_terms.specs.Laws.{PathsAreRead}
use Rattle.listing_terms.specs.Readable as may
use Rattle.listing_terms.specs.Readable.{is_path_named, is_scope_named, is_name_readable, is_owner_readable}
use Rattle.listing_values.specs.Laws.{NamesAreRead}
use Rattle.listing_denotes.specs.Quiet.{ItemsBreakNothing, RowsBreakNothing}

both : (x y : Bool) → x ≡ true → y ≡ true → (x && y) ≡ true
both true y i j = j
both false y i j = i

-- a path of at most 100 names, by its tokens
mapped_length : {X Y : Type 0} (g : X → Y) (xs : List X) → length (map g xs) ≡ length xs
mapped_length g [] = refl
mapped_length g (x ∷ xs) = ap suc (mapped_length g xs)

abbrev head_or : List ℕ → ℕ
head_or [] = 0
head_or (k ∷ ks) = k

not_more : (n : ℕ) → suc n ≤ 100 → nat_lt 99 n ≡ false
not_more n h = grind (arith, h)

short_tokens : (ks : List ℕ) → length ks ≤ 100 → past_100_names ks ≡ []
short_tokens [] h = refl
short_tokens (k ∷ ks) h = ap (λ (b : Bool). if b then k ∷ [] else []) (not_more (length ks) h)

-- tokens that are those of a path, each a name
pub short : (g : ℕ → TypeId) (ks : List ℕ) (ids : List TypeId) → map g ks ≡ ids → nat_le (length ids) 100 ≡ true → past_100_names ks ≡ []
short g ks ids e h =
    let same : length ks ≡ length ids = sym (mapped_length g ks) ∙ ap (λ (xs : List TypeId). length xs) e in
    short_tokens ks (subst (λ n. n ≤ 100) (sym same) (leb-true (length ids) 100 h))

pub known_path : (s : Source) (ks : List ℕ) (ids : List TypeId) → map (type_id s) ks ≡ ids → is_declared_path s ids ≡ true →
    path_undeclared s ks (Some scope.TheVariants.Here) ≡ []
known_path s [] ids e h = refl
known_path s (k ∷ ks) ids e h = ap (λ (b : Bool). if b then [] else k ∷ []) (ap (is_declared_path s) e ∙ h)

pub other_path : (s : Source) (ks : List ℕ) (n : ℕ) → path_undeclared s ks (Some (scope.TheVariants.Extern n)) ≡ []
other_path s [] n = refl
other_path s (k ∷ ks) n = refl

abbrev node_at : Around → ℕ → f.Forest → Node
node_at x q b = record { production = q; below = b; around = x }

module _ (unasked : UnaskedBreakNothing) (rows : RowsBreakNothing) (s : Source) (x : Around) where
  slashes_quiet : (ids : List TypeId) (at : ℕ) → ItemsBreakNothing s x at (map slash_name ids)
  slashes_quiet [] at = tt
  slashes_quiet (id ∷ ids) at = ((unasked.node s _ refl, tt), slashes_quiet ids (at + size (slash_name id).below))

  pub path_quiet : (ids : List TypeId) (at : ℕ) (after : f.Forest) → EachBreaksNothing s (nodes_in s x after) →
      EachBreaksNothing s (nodes_in s x (f.branch p.PATH (numbered at (path_below ids)) after))
  path_quiet [] at after k = (unasked.node s _ refl, k)
  path_quiet (id ∷ ids) at after k =
      let items = map slash_name ids in
      unasked.branch s x p.PATH (numbered at (path_below (id ∷ ids))) after (unasked.node s _ refl)
      (rows.row s x p.SLASH_NAME_STAR_MORE p.SLASH_NAME_STAR_END refl refl items (suc at) f.none (slashes_quiet ids (suc at)) tt) k

module _ (unasked : UnaskedBreakNothing) (rows : RowsBreakNothing) (names : NamesAreRead) (paths : PathsAreRead) (s : Source) (a : Assembly) (knows : Knows s a)
    (declared : (ids : List TypeId) → is_declared a ids ≡ true → is_declared_path s ids ≡ true) (readable : FormedAreReadable) (x : Around) where
  -- a name in brackets stands for its assembly
  pub scope_is : (k : ℕ) → is_scope_named a.externs (scope.TheVariants.Extern k) ≡ true → (text : List ℕ) → text ≡ leaf.scope (extern_key a.externs k) →
      scope_named s (dotted (part_texts (between_quotes text))) ≡ Some (scope.TheVariants.Extern k)
  scope_is k h text e =
      let hs = and_parts (nat_lt k (length a.externs)) (is_name (extern_key a.externs k)) h in
      ap (λ t. scope_named s (dotted (part_texts (between_quotes t)))) e ∙ (ap (scope_named s) (names.scope (extern_key a.externs k) hs.1) ∙ knows.keys k hs.0)

  -- a name can be read back
  pub name_readable : (t : TypeName) → is_type_name a t ≡ true → has_name t ≡ true → is_name_readable a.externs t ≡ true
  unfolding is_owner is_owner_held is_owner_readable
  name_readable t m h =
      let depth_is = fold-Name ℕ ℕ owner_depth_step depth_step t in
      let formed_is = fold-Name Bool Bool (formed.owner_step a) (formed.type_step a) t in
      let can = readable.owners a knows.names (o.Name t) (both (nat_le (owner_depth (o.Name t)) 100) _ (ap (λ (n : ℕ). nat_le n 100) depth_is) (formed_is ∙ m))
      (fold-Name Bool Bool owner_holds type_holds t ∙ h) in
      sym (fold-Name Bool Bool (may.owner_step a.externs) (may.type_step a.externs) t) ∙ can.0

  here_quiet : (ids : List TypeId) → is_path_named ids ≡ true → nat_le (length ids) 100 ≡ true → is_declared a ids ≡ true → (at : ℕ) →
      Agrees s at (path ids none) → BreaksNothing s (node_at x p.TYPE_NAME_PATH (numbered at (path ids none)))
  here_quiet ids h few known at ag =
      let is = paths s ids h at ag.0 in
      record {
        types = known_path s (path_tokens (numbered at (path_below ids))) ids is (declared ids known);
        scopes = refl;
        typars = refl;
        param_types = refl;
        numbers = refl;
        depth = refl;
        nesting = refl;
        paths = short (type_id s) (path_tokens (numbered at (path_below ids))) ids is few;
        class = λ i. absurd (false≢true i);
        field = λ i. absurd (false≢true i);
        label = λ i. absurd (false≢true i);
        accessors = λ i. absurd (false≢true i);
        method = λ i. absurd (false≢true i);
      }

  other_quiet : (k : ℕ) (ids : List TypeId) → is_scope_named a.externs (scope.TheVariants.Extern k) ≡ true → is_path_named ids ≡ true → nat_le (length ids) 100 ≡ true → (at : ℕ) →
      Agrees s at (name_in a.externs (scope.TheVariants.Extern k) ids).below → BreaksNothing s (node_at x p.TYPE_NAME_SCOPE (numbered at (name_in a.externs (scope.TheVariants.Extern k) ids).below))
  other_quiet k ids low h few at ag =
      let is = paths s ids h (suc at) ag.1.0 in
      let known = scope_is k low _ ag.0.text in
      let tokens = path_tokens (numbered (suc at) (path_below ids)) in
      record {
        types = ap (path_undeclared s tokens) known ∙ other_path s tokens k;
        scopes = ap (λ (o : Option scope.Scope). scope_token_unless (is_some o) (Some at)) known;
        typars = refl;
        param_types = refl;
        numbers = refl;
        depth = refl;
        nesting = refl;
        paths = short (type_id s) tokens ids is few;
        class = λ i. absurd (false≢true i);
        field = λ i. absurd (false≢true i);
        label = λ i. absurd (false≢true i);
        accessors = λ i. absurd (false≢true i);
        method = λ i. absurd (false≢true i);
      }

  in_quiet : (sc : scope.Scope) (ids : List TypeId) → is_known_in a sc ids ≡ true → is_scope_named a.externs sc ≡ true → is_path_named ids ≡ true → nat_le (length ids) 100 ≡ true → (at : ℕ) →
      Agrees s at (name_in a.externs sc ids).below → (after : f.Forest) → EachBreaksNothing s (nodes_in s x after) →
      EachBreaksNothing s (nodes_in s x (f.branch (name_in a.externs sc ids).production (numbered at (name_in a.externs sc ids).below) after))
  in_quiet scope.TheVariants.Here ids known named h few at ag after r =
      unasked.branch s x p.TYPE_NAME_PATH (numbered at (path ids none)) after (here_quiet ids h few known at ag) (path_quiet unasked rows s x ids at f.none tt) r
  in_quiet (scope.TheVariants.Extern k) ids known named h few at ag after r =
      unasked.branch s x p.TYPE_NAME_SCOPE (numbered at (name_in a.externs (scope.TheVariants.Extern k) ids).below) after (other_quiet k ids named h few at ag)
      (path_quiet unasked rows s x ids (suc at) f.none tt) r

  pub name_quiet : (t : TypeName) → is_type_name a t ≡ true → has_name t ≡ true → (at : ℕ) → Agrees s at (type_name a.externs t).below → (after : f.Forest) →
      EachBreaksNothing s (nodes_in s x after) → EachBreaksNothing s (nodes_in s x (f.branch (type_name a.externs t).production (numbered at (type_name a.externs t).below) after))
  unfolding is_type_name
  name_quiet t m h at ag after r =
      let ms = and_parts _ _ m in
      let ls = and_parts _ _ ms.0 in
      let rs = and_parts (is_scope_named a.externs t.scope) (is_path_named t.path) (name_readable t m h) in
      in_quiet t.scope t.path ms.1 rs.0 rs.1 ls.0 at ag after r
