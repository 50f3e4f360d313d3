-- References to fields break no rule.
use Rattle.std.proofs.Common.{◌≡◌, ◌&&◌, ℕ, suc, ◌+◌, nat_lt, nat_le, Bool, true, false, cond, List, [], ◌∷◌, ◌++◌, map, length, Option, Some, refl, ap, sym, subst, ◌∙◌, arith}
use Rattle.std.proofs.lemmas.Bool.{and_parts, false≢true}
use Rattle.std.specs.List.{list_all}
use Rattle.std.specs.Prelude.{is_some}
use Rattle.ilasm_grammar.specs.declared.productions.TheConstants as p
use Rattle.type_terms.specs.Depth.{owner_depth_step, depth_step, depth}
use Rattle.type_terms.specs.declared.name.Scope as scope
use Rattle.type_terms.specs.declared.name.TypeId.{TypeId}
use Rattle.type_terms.specs.declared.name.TypeName.{TypeName}
use Rattle.type_terms.specs.declared.reference.FieldRef.{FieldRef}
use Rattle.type_terms.specs.declared.term.Owner.{Owner, out-Owner, roll-Owner}
use Rattle.type_terms.specs.declared.term.Owner.TheVariants as o
use Rattle.type_terms.specs.declared.term.Owner.TheOpen as layer
use Rattle.type_terms.specs.declared.term.SigType.{SigType}
use Rattle.type_terms.proofs.Layers.{OwnerWith, TypeWith, owner_values, owner_by_layers, fold-Name, fold-Spec}
use Rattle.assembly_tree.specs.WellFormedNames.{is_declared, is_module, is_known_in, is_type_name}
use Rattle.assembly_tree.specs.WellFormedTerms as formed
use Rattle.assembly_tree.specs.WellFormedTerms.{is_type, is_owner, is_field_ref}
use Rattle.assembly_tree.specs.declared.assembly.Assembly.{Assembly}
use Rattle.assembly_tree.proofs.FormedFacts.{field_refs_named}
use Rattle.source_model.specs.Forest as f
use Rattle.source_model.specs.Names.{path_tokens, is_declared_path}
use Rattle.source_model.specs.Nodes.{Around, Node, nodes_in, type_id}
use Rattle.source_model.specs.Source.{Source}
use Rattle.source_model.specs.TypeRules.{path_undeclared, scope_token_unless}
use Rattle.faultless_nodes.specs.Laws.{BreaksNothing, EachBreaksNothing, UnaskedBreakNothing}
use Rattle.listing_declarations.specs.Laws.{IsListingOf}
use Rattle.listing_formed.specs.Laws.{Knows, FormedAreReadable}
use Rattle.listing_growth.specs.Held.{owner_holds, type_holds, is_type_held, is_owner_held, is_field_ref_held}
use Rattle.listing_growth.specs.Standing.{has_name}
use Rattle.listing_model.specs.References.{field_end, field_here, field_in, field_target, field_ref}
use Rattle.listing_model.specs.Shown.{none, branch, Item, item, put, w, size}
use Rattle.listing_model.specs.Types.{name, path, path_below, type_of, type_below, extern_scope}
use Rattle.listing_model.specs.Types as shown
use Rattle.il_lexer.specs.declared.word.TheConstants as word
use Rattle.listing_reading.specs.Numbered.{numbered, Agrees}
use Rattle.listing_terms.specs.Laws.{PathsAreRead}
use Rattle.listing_terms.specs.Readable.{is_id_named, is_path_named, is_scope_named}
use Rattle.listing_values.specs.Laws.{NamesAreRead}
use Rattle.listing_denotes.specs.Quiet.{RowsBreakNothing}
use Rattle.listing_denotes.specs.Terms.{TermsBreakNothing}
use Rattle.listing_denotes.proofs.TermsNames.{short, known_path, other_path, path_quiet, scope_is, name_readable}

pub both : (x y : Bool) → x ≡ true → y ≡ true → (x && y) ≡ true
both true y i j = j
both false y i j = i

-- a list with an item isn't empty
some_length : (k : ℕ) → nat_lt 0 (suc k) ≡ true
some_length k = grind arith

pub no_length : nat_lt 0 0 ≡ true → ⊥
no_length h = false≢true h

abbrev pub node_at : Around → ℕ → f.Forest → Node
node_at x q b = record { production = q; below = b; around = x }

-- ---- owners

pub owner_cases : (P : Owner → Type 0) → ((n : TypeName) → P (o.Name n)) → ((u : SigType) → P (o.Spec u)) → (x : Owner) → P x
owner_cases P named typed = owner_by_layers P (λ (u : SigType). Unit {0}) made (λ l. tt)
  where
    made : (l : layer.Owner-F (OwnerWith P (λ (u : SigType). Unit {0})) (TypeWith P (λ (u : SigType). Unit {0}))) →
        P (roll-Owner (owner_values P (λ (u : SigType). Unit {0}) l))
    made (layer.Name n) = subst P (sym (o.rolls-Name n)) (named n)
    made (layer.Spec x) = subst P (sym (o.rolls-Spec x.0)) (typed x.0)

pub owner_named : (a : Assembly) (t : TypeName) → is_owner a (o.Name t) ≡ true → is_type_name a t ≡ true
unfolding is_owner
owner_named a t h = sym (fold-Name Bool Bool (formed.owner_step a) (formed.type_step a) t) ∙ (and_parts _ _ h).1

pub owner_has_name : (t : TypeName) → is_owner_held (o.Name t) ≡ true → has_name t ≡ true
unfolding is_owner_held
owner_has_name t h = sym (fold-Name Bool Bool owner_holds type_holds t) ∙ h

pub owner_typed : (a : Assembly) (u : SigType) → is_owner a (o.Spec u) ≡ true → is_type a u ≡ true
unfolding is_owner is_type
owner_typed a u h =
    let hs = and_parts _ _ h in
    both (nat_le (depth u) 100) _ (sym (ap (λ (n : ℕ). nat_le n 100) (fold-Spec ℕ ℕ owner_depth_step depth_step u)) ∙ hs.0)
    (sym (fold-Spec Bool Bool (formed.owner_step a) (formed.type_step a) u) ∙ hs.1)

pub owner_type_held : (u : SigType) → is_owner_held (o.Spec u) ≡ true → is_type_held u ≡ true
unfolding is_owner_held is_type_held
owner_type_held u h = sym (fold-Spec Bool Bool owner_holds type_holds u) ∙ h

-- ---- names as targets

-- a name that a tree can hold, by its parts
pub record IsNamed (a : Assembly) (sc : scope.Scope) (ids : List TypeId) : Type 0 where
  pub known : is_known_in a sc ids ≡ true
  pub scoped : is_scope_named a.externs sc ≡ true
  pub named : is_path_named ids ≡ true
  pub short : nat_le (length ids) 100 ≡ true

module _ (unasked : UnaskedBreakNothing) (rows : RowsBreakNothing) (names : NamesAreRead) (paths : PathsAreRead) (readable : FormedAreReadable) (s : Source) (a : Assembly) (knows : Knows s a)
    (declared : (ids : List TypeId) → is_declared a ids ≡ true → is_declared_path s ids ≡ true) (x : Around) where
  pub parts_of : (t : TypeName) → is_type_name a t ≡ true → has_name t ≡ true → IsNamed a t.scope t.path
  unfolding is_type_name
  parts_of t m h =
      let ms = and_parts _ _ m in
      let ls = and_parts _ _ ms.0 in
      let rs = and_parts (is_scope_named a.externs t.scope) (is_path_named t.path) (name_readable unasked rows names paths s a knows declared readable x t m h) in
      record { known = ms.1; scoped = rs.0; named = rs.1; short = ls.0 }

  -- the tokens of a name of two parts or more, of which the first stands apart
  pub tokens_are : (id next : TypeId) (more : List TypeId) → is_path_named (id ∷ next ∷ more) ≡ true → (at : ℕ) → Agrees s at (shown.type_id id none) →
      (j : ℕ) → Agrees s j (path_below (next ∷ more)) → map (type_id s) (at ∷ path_tokens (numbered j (path_below (next ∷ more)))) ≡ id ∷ next ∷ more
  tokens_are id next more h at ag j aj =
      let all = (and_parts (nat_lt 0 (length (id ∷ next ∷ more))) (list_all is_id_named (id ∷ next ∷ more)) h).1 in
      let hs = and_parts (is_id_named id) (list_all is_id_named (next ∷ more)) all in
      let one = paths s (id ∷ []) (both (is_id_named id) true hs.0 refl) at (ag.0, (tt, tt)) in
      let others = paths s (next ∷ more) (both (nat_lt 0 (length (next ∷ more))) (list_all is_id_named (next ∷ more)) (some_length (length more)) hs.1) j aj in
      ap (λ (xs : List TypeId). xs ++ map (type_id s) (path_tokens (numbered j (path_below (next ∷ more))))) one ∙ ap (λ (xs : List TypeId). id ∷ xs) others

  pub one_token : (id : TypeId) → is_path_named (id ∷ []) ≡ true → (at : ℕ) → Agrees s at (shown.type_id id none) → map (type_id s) (at ∷ []) ≡ id ∷ []
  one_token id h at ag = paths s (id ∷ []) h at (ag.0, (tt, tt))

  module _ (terms : TermsBreakNothing) (listed : IsListingOf s a) (r : FieldRef) where
    abbrev Quiet : Item → Type 0
    Quiet i = (at : ℕ) → Agrees s at i.below → EachBreaksNothing s (nodes_in s x (f.branch i.production (numbered at i.below) f.none))

    module_target : Quiet (item p.FIELD_TARGET_NAME (name r.name (branch p.FIELD_TAIL_NONE none none)))
    module_target at ag = (
      record {
        types = refl;
        scopes = refl;
        typars = refl;
        param_types = refl;
        numbers = refl;
        depth = refl;
        nesting = refl;
        paths = refl;
        class = λ i. absurd (false≢true i);
        field = λ i. absurd (false≢true i);
        label = λ i. absurd (false≢true i);
        accessors = λ i. absurd (false≢true i);
        method = λ i. absurd (false≢true i);
      },
      (unasked.node s _ refl, tt),
    )

    one_target : (id : TypeId) → IsNamed a scope.TheVariants.Here (id ∷ []) → Quiet (item p.FIELD_TARGET_NAME (shown.type_id id (branch p.FIELD_TAIL_DOUBLE_COLON (field_end a.externs r) none)))
    one_target id n at ag = (
      record {
        types = known_path s (at ∷ []) (id ∷ []) (one_token id n.named at (ag.0, tt)) (declared (id ∷ []) n.known);
        scopes = refl;
        typars = refl;
        param_types = refl;
        numbers = refl;
        depth = refl;
        nesting = refl;
        paths = refl;
        class = λ i. absurd (false≢true i);
        field = λ i. absurd (false≢true i);
        label = λ i. absurd (false≢true i);
        accessors = λ i. absurd (false≢true i);
        method = λ i. absurd (false≢true i);
      },
      (unasked.node s _ refl, tt),
    )

    inner_target : (id next : TypeId) (more : List TypeId) → IsNamed a scope.TheVariants.Here (id ∷ next ∷ more) →
        Quiet (item p.FIELD_TARGET_NAME (shown.type_id id (branch p.FIELD_TAIL_SLASH (w word.SLASH (path (next ∷ more) (field_end a.externs r))) none)))
    inner_target id next more n at ag =
        let tokens = at ∷ path_tokens (numbered (suc (suc at)) (path_below (next ∷ more))) in
        let is = tokens_are id next more n.named at (ag.0, tt) (suc (suc at)) ag.1.0.1.0 in
        let ending = numbered (suc (suc at) + size (path_below (next ∷ more))) (field_end a.externs r) in
        let own : BreaksNothing s (node_at x p.FIELD_TARGET_NAME (numbered at (shown.type_id id (branch p.FIELD_TAIL_SLASH (w word.SLASH (path (next ∷ more) (field_end a.externs r))) none)))) =
        record {
          types = known_path s tokens (id ∷ next ∷ more) is (declared (id ∷ next ∷ more) n.known);
          scopes = refl;
          typars = refl;
          param_types = refl;
          numbers = refl;
          depth = refl;
          nesting = refl;
          paths = short (type_id s) tokens (id ∷ next ∷ more) is n.short;
          class = λ i. absurd (false≢true i);
          field = λ i. absurd (false≢true i);
          label = λ i. absurd (false≢true i);
          accessors = λ i. absurd (false≢true i);
          method = λ i. absurd (false≢true i);
        } in
        let slash = f.leaf (suc at) (f.branch p.PATH (numbered (suc (suc at)) (path_below (next ∷ more))) ending) in
        unasked.branch s x p.FIELD_TARGET_NAME (f.leaf at (f.branch p.FIELD_TAIL_SLASH slash f.none)) f.none own
        (unasked.branch s x p.FIELD_TAIL_SLASH slash f.none (unasked.node s _ refl) (path_quiet unasked rows s x (next ∷ more) (suc (suc at)) ending tt) tt) tt

    scoped_target : (k : ℕ) (ids : List TypeId) → IsNamed a (scope.TheVariants.Extern k) ids → Quiet (item p.FIELD_TARGET_SCOPE (extern_scope a.externs k (path ids (field_end a.externs r))))
    scoped_target k ids n at ag =
        let tokens = path_tokens (numbered (suc at) (path_below ids)) in
        let is = paths s ids n.named (suc at) ag.1.0 in
        let known = scope_is unasked rows names paths s a knows declared readable x k n.scoped _ ag.0.text in
        let ending = numbered (suc at + size (path_below ids)) (field_end a.externs r) in
        let below = f.leaf at (f.branch p.PATH (numbered (suc at) (path_below ids)) ending) in
        let own : BreaksNothing s (node_at x p.FIELD_TARGET_SCOPE below) =
        record {
          types = ap (path_undeclared s tokens) known ∙ other_path s tokens k;
          scopes = ap (λ (y : Option scope.Scope). scope_token_unless (is_some y) (Some at)) known;
          typars = refl;
          param_types = refl;
          numbers = refl;
          depth = refl;
          nesting = refl;
          paths = short (type_id s) tokens ids is n.short;
          class = λ i. absurd (false≢true i);
          field = λ i. absurd (false≢true i);
          label = λ i. absurd (false≢true i);
          accessors = λ i. absurd (false≢true i);
          method = λ i. absurd (false≢true i);
        } in
        unasked.branch s x p.FIELD_TARGET_SCOPE below f.none own (path_quiet unasked rows s x ids (suc at) ending tt) tt

    single_target : (id : TypeId) (b : Bool) → IsNamed a scope.TheVariants.Here (id ∷ []) →
        Quiet (cond b (item p.FIELD_TARGET_NAME (name r.name (branch p.FIELD_TAIL_NONE none none))) (item p.FIELD_TARGET_NAME (shown.type_id id (branch p.FIELD_TAIL_DOUBLE_COLON (field_end a.externs r) none))))
    single_target id true n = module_target
    single_target id false n = one_target id n

    here_target : (ids : List TypeId) → IsNamed a scope.TheVariants.Here ids → Quiet (field_here a.externs ids r)
    here_target [] n = absurd (no_length (and_parts (nat_lt 0 0) true n.named).0)
    here_target (id ∷ []) n = single_target id (is_module id) n
    here_target (id ∷ next ∷ more) n = inner_target id next more n

    in_target : (sc : scope.Scope) (ids : List TypeId) → IsNamed a sc ids → Quiet (field_in a.externs sc ids r)
    in_target scope.TheVariants.Here ids n = here_target ids n
    in_target (scope.TheVariants.Extern k) ids n = scoped_target k ids n

    typed_target : (u : SigType) → is_type a u ≡ true → is_type_held u ≡ true → Quiet (item p.FIELD_TARGET_TYPE (put (type_of a.externs u) (field_end a.externs r)))
    typed_target u m h at ag =
        let ending = numbered (at + size (type_below a.externs u)) (field_end a.externs r) in
        unasked.branch s x p.FIELD_TARGET_TYPE (f.branch p.TYPE (numbered at (type_below a.externs u)) ending) f.none (unasked.node s _ refl)
        (terms.types s a listed x u m h at ag.0 ending tt) tt

    any_target : (u : Owner) → is_owner a u ≡ true → is_owner_held u ≡ true → Quiet (field_target a.externs (out-Owner u) r)
    any_target = owner_cases (λ u. is_owner a u ≡ true → is_owner_held u ≡ true → Quiet (field_target a.externs (out-Owner u) r))
        (λ t m h. subst (λ l. Quiet (field_target a.externs l r)) (sym (o.outs-Name t)) (in_target t.scope t.path (parts_of t (owner_named a t m) (owner_has_name t h))))
        (λ u m h. subst (λ l. Quiet (field_target a.externs l r)) (sym (o.outs-Spec u)) (typed_target u (owner_typed a u m) (owner_type_held u h)))

    pub field_quiet : is_field_ref a r ≡ true → is_field_ref_held r ≡ true → (at : ℕ) → Agrees s at (field_ref a.externs r).below → (after : f.Forest) → EachBreaksNothing s (nodes_in s x after) →
        EachBreaksNothing s (nodes_in s x (f.branch (field_ref a.externs r).production (numbered at (field_ref a.externs r).below) after))
    unfolding field_ref is_field_ref_held
    field_quiet m h at ag after k =
        let named = (field_refs_named a r).0 m in
        let hs = and_parts (is_owner_held r.owner) (is_type_held r.of) h in
        let target = field_target a.externs (out-Owner r.owner) r in
        let next = at + size (type_below a.externs r.of) in
        let behind = f.branch target.production (numbered next target.below) f.none in
        unasked.branch s x p.FIELD_REF (f.branch p.TYPE (numbered at (type_below a.externs r.of)) behind) after (unasked.node s _ refl)
        (terms.types s a listed x r.of named.of hs.1 at ag.0 behind (any_target r.owner named.owner hs.0 next ag.1.0)) k
