-- References to fields are read back.
use Rattle.std.proofs.Common.{◌≡◌, ℕ, suc, ◌+◌, ◌&&◌, nat_lt, Bool, true, false, cond, if◌then◌else◌, List, [], ◌∷◌, ◌++◌, map, length, refl, ap, sym, subst, ◌∙◌, arith}
use Rattle.std.proofs.lemmas.Bool.{and_parts, false≢true}
use Rattle.std.specs.List.{list_all}
use Rattle.ilasm_grammar.specs.Ilasm.{ilasm, rule_by}
use Rattle.ilasm_grammar.specs.declared.productions.TheConstants as p
use Rattle.type_terms.specs.declared.name.Scope as scope
use Rattle.type_terms.specs.declared.name.TypeId.{TypeId}
use Rattle.type_terms.specs.declared.name.TypeName.{TypeName}
use Rattle.type_terms.specs.declared.reference.FieldRef.{FieldRef}
use Rattle.type_terms.specs.declared.term.Owner.{Owner, out-Owner}
use Rattle.type_terms.specs.declared.term.Owner.TheVariants as o
use Rattle.type_terms.specs.declared.term.Owner.TheOpen as layer
use Rattle.type_terms.specs.declared.term.SigType.{SigType}
use Rattle.type_terms.proofs.Layers.{fold-Name, fold-Spec}
use Rattle.assembly_tree.specs.WellFormedNames.{is_module}
use Rattle.assembly_tree.specs.declared.assembly.ExternAssembly.{ExternAssembly}
use Rattle.source_model.specs.Forest as f
use Rattle.source_model.specs.Names.{or_module, written_name, path_tokens}
use Rattle.source_model.specs.Nodes.{Around, type_id}
use Rattle.source_model.specs.References as read
use Rattle.source_model.specs.Source.{Source}
use Rattle.source_model.specs.Types.{types_in, the_type}
use Rattle.source_model.specs.Types.{type_of as read_type}
use Rattle.source_model.specs.Values.{name_text, part_texts, dotted}
use Rattle.listing_growth.specs.Laws.{TermsStand, ReferencesStand}
use Rattle.listing_growth.specs.Standing.{field_stands}
use Rattle.listing_leaves.specs.Laws.{is_name}
use Rattle.listing_leaves.specs.Names as leaf
use Rattle.listing_model.specs.Grown.{body_of, Grows}
use Rattle.listing_model.specs.References.{field_end, field_path, field_in, field_here, field_target, field_ref}
use Rattle.listing_model.specs.Shown.{Item, item, size}
use Rattle.listing_model.specs.Types.{name, path_below, type_below}
use Rattle.listing_model.specs.Types.{type_id as shown_id}
use Rattle.listing_reading.specs.Laws.{SearchesPass}
use Rattle.listing_reading.specs.Numbered.{numbered, Agrees}
use Rattle.listing_terms.specs.Laws.{PathsAreRead, TermsAreRead}
use Rattle.listing_terms.specs.Readable as may
use Rattle.listing_terms.specs.Readable.{KnowsAssemblies, is_id_named, is_path_named, is_name_readable, is_type_readable, is_owner_readable}
use Rattle.listing_values.specs.Laws.{NamesAreRead}
use Rattle.listing_references.specs.Laws.{is_field_readable, FieldsAreRead}
use Rattle.listing_references.proofs.Searched.{typed_outside_types, scoped_outside_types, typed_outside_scoped, typed_outside_named, scoped_outside_named, Ends, leaf_ends, after_leaf, after_branch, in_branch, owner_cases, module_is}

-- ---- the owner, by the production of the target

-- a reference by what stands below the production of its type, and its target
abbrev reference : f.Forest → ℕ → f.Forest → f.Forest
reference type_tree q body = f.branch p.TYPE type_tree (f.branch q body f.none)

abbrev typed : List ℕ
typed = p.FIELD_TARGET_TYPE ∷ []

abbrev scoped : List ℕ
scoped = p.FIELD_TARGET_SCOPE ∷ []

abbrev owner_in : Source → Around → f.Forest → Owner
owner_in s a g = read.owner_of s a p.FIELD_TARGET_SCOPE p.FIELD_TARGET_TYPE p.FIELD_TARGET_NAME g

module _ (s : Source) (a : Around) (type_tree : f.Forest) (no_typed : f.parts typed type_tree ≡ []) (no_scoped : f.parts scoped type_tree ≡ []) where
  typed_owner : (body : f.Forest) → owner_in s a (reference type_tree p.FIELD_TARGET_TYPE body) ≡ o.Spec (the_type s a body)
  typed_owner body =
      let g = reference type_tree p.FIELD_TARGET_TYPE body in
      let has_typed : f.has p.FIELD_TARGET_TYPE g ≡ true = ap (λ ps. f.is_any_part (ps ++ f.parts typed (f.branch p.FIELD_TARGET_TYPE body f.none))) no_typed in
      ap
      (λ c. if c then o.Spec (the_type s a body)
      else if f.has p.FIELD_TARGET_SCOPE g then o.Name (or_module s (written_name p.FIELD_TARGET_SCOPE f.none))
      else o.Name (or_module s (written_name p.FIELD_TARGET_NAME f.none)))
      has_typed

  scoped_owner : (body : f.Forest) → f.parts typed body ≡ [] →
      owner_in s a (reference type_tree p.FIELD_TARGET_SCOPE body) ≡ o.Name (or_module s (written_name p.FIELD_TARGET_SCOPE body))
  scoped_owner body h =
      let g = reference type_tree p.FIELD_TARGET_SCOPE body in
      let has_typed : f.has p.FIELD_TARGET_TYPE g ≡ false =
      ap (λ ps. f.is_any_part (ps ++ (f.parts typed body ++ []))) no_typed ∙ ap (λ ps. f.is_any_part (ps ++ [])) h in
      let has_scoped : f.has p.FIELD_TARGET_SCOPE g ≡ true = ap (λ ps. f.is_any_part (ps ++ f.parts scoped (f.branch p.FIELD_TARGET_SCOPE body f.none))) no_scoped in
      ap
      (λ c. if c then o.Spec (the_type s a f.none)
      else if f.has p.FIELD_TARGET_SCOPE g then o.Name (or_module s (written_name p.FIELD_TARGET_SCOPE body))
      else o.Name (or_module s (written_name p.FIELD_TARGET_NAME f.none)))
      has_typed
      ∙ ap
      (λ c. if c then o.Name (or_module s (written_name p.FIELD_TARGET_SCOPE body)) else o.Name (or_module s (written_name p.FIELD_TARGET_NAME f.none)))
      has_scoped

  named_owner : (body : f.Forest) → f.parts typed body ≡ [] → f.parts scoped body ≡ [] →
      owner_in s a (reference type_tree p.FIELD_TARGET_NAME body) ≡ o.Name (or_module s (written_name p.FIELD_TARGET_NAME body))
  named_owner body h k =
      let g = reference type_tree p.FIELD_TARGET_NAME body in
      let has_typed : f.has p.FIELD_TARGET_TYPE g ≡ false =
      ap (λ ps. f.is_any_part (ps ++ (f.parts typed body ++ []))) no_typed ∙ ap (λ ps. f.is_any_part (ps ++ [])) h in
      let has_scoped : f.has p.FIELD_TARGET_SCOPE g ≡ false =
      ap (λ ps. f.is_any_part (ps ++ (f.parts scoped body ++ []))) no_scoped ∙ ap (λ ps. f.is_any_part (ps ++ [])) k in
      ap
      (λ c. if c then o.Spec (the_type s a f.none)
      else if f.has p.FIELD_TARGET_SCOPE g then o.Name (or_module s (written_name p.FIELD_TARGET_SCOPE f.none))
      else o.Name (or_module s (written_name p.FIELD_TARGET_NAME body)))
      has_typed
      ∙ ap
      (λ c. if c then o.Name (or_module s (written_name p.FIELD_TARGET_SCOPE f.none)) else o.Name (or_module s (written_name p.FIELD_TARGET_NAME body)))
      has_scoped

-- ---- the target

-- what a target is read as, behind any type: its owner, and the name that ends it
pub record TargetReads (s : Source) (a : Around) (i : Item) (u : Owner) (text : List ℕ) : Type 0 where
  pub owner : (type_tree : f.Forest) → f.parts typed type_tree ≡ [] → f.parts scoped type_tree ≡ [] → (at : ℕ) → Agrees s at i.below →
      owner_in s a (reference type_tree i.production (numbered at i.below)) ≡ u
  pub token : ℕ → ℕ
  pub ends : (at : ℕ) → Ends (numbered at i.below) (token at)
  pub name_is : (at : ℕ) → Agrees s at i.below → name_text s (token at) ≡ text

-- the first type where one stands at the front
pub the_first : (s : Source) (a : Around) (tree after : f.Forest) → the_type s a (f.branch p.TYPE tree after) ≡ read_type s a tree
unfolding types_in
the_first s a tree after = refl

pub no_length : nat_lt 0 0 ≡ true → ⊥
no_length h = false≢true h

pub both : (x y : Bool) → x ≡ true → y ≡ true → (x && y) ≡ true
both true y h k = k
both false y h k = h

some_id : (id : TypeId) (ids : List TypeId) → nat_lt 0 (length (id ∷ ids)) ≡ true
some_id id ids = grind arith

pub path_is : (id : TypeId) (ids : List TypeId) → list_all is_id_named (id ∷ ids) ≡ true → is_path_named (id ∷ ids) ≡ true
path_is id ids h = both (nat_lt 0 (length (id ∷ ids))) (list_all is_id_named (id ∷ ids)) (some_id id ids) h

-- `::` and a name end with the name
end_ends : (text : List ℕ) (from : ℕ) → Ends (f.leaf from (f.leaf (suc from) f.none)) (suc from)
end_ends text from = after_leaf (suc from) from (f.leaf (suc from) f.none) (leaf_ends (suc from))

abbrev pub of_name : scope.Scope → List TypeId → TypeName
of_name sc ids = record { scope = sc; path = ids }

module _ (names : NamesAreRead) (paths : PathsAreRead) (terms : TermsAreRead) (searches : SearchesPass) (s : Source) (a : Around) (externs : List ExternAssembly) (knows : KnowsAssemblies s externs) (r : FieldRef) (named : is_name r.name ≡ true) where
  text_read : (spelled : List ℕ) → spelled ≡ leaf.name r.name → dotted (part_texts spelled) ≡ r.name
  text_read spelled e = ap (λ t. dotted (part_texts t)) e ∙ names.name r.name named

  -- `TYPE::NAME`
  typed_reads : (u : SigType) → is_type_readable externs u ≡ true → TargetReads s a (field_target externs (layer.Spec u) r) (o.Spec u) r.name
  typed_reads u h = record {
    owner = λ tree no_typed no_scoped at ag.
        let from = at + size (type_below externs u) in
        typed_owner s a tree no_typed no_scoped (numbered at (field_target externs (layer.Spec u) r).below)
        ∙ ap o.Spec (the_first s a (numbered at (type_below externs u)) (numbered from (field_end externs r)) ∙ terms.types s a externs knows u h at ag.0);
    token = λ at. suc (at + size (type_below externs u));
    ends = λ at.
        let from = at + size (type_below externs u) in
        after_branch (suc from) p.TYPE (numbered at (type_below externs u)) (numbered from (field_end externs r)) (end_ends r.name from);
    name_is = λ at ag. text_read _ ag.1.1.0.text;
  }

  -- `[ASSEMBLY]TYPE::NAME`
  scoped_reads : (k : ℕ) (ids : List TypeId) → is_name_readable externs (of_name (scope.TheVariants.Extern k) ids) ≡ true →
      Grows (body_of p.FIELD_TARGET_SCOPE) (field_in externs (scope.TheVariants.Extern k) ids r).below →
      TargetReads s a (field_in externs (scope.TheVariants.Extern k) ids r) (o.Name (of_name (scope.TheVariants.Extern k) ids)) r.name
  scoped_reads k ids h g = record {
    owner = λ tree no_typed no_scoped at ag.
        let shown = (field_in externs (scope.TheVariants.Extern k) ids r).below in
        scoped_owner s a tree no_typed no_scoped (numbered at shown) (searches.nothing typed (body_of p.FIELD_TARGET_SCOPE) typed_outside_scoped shown g at)
        ∙ ap o.Name (terms.names s externs knows (of_name (scope.TheVariants.Extern k) ids) h at (ag.0, (ag.1.0, tt)) f.none);
    token = λ at. suc (suc at + size (path_below ids));
    ends = λ at.
        let from = suc at + size (path_below ids) in
        after_leaf (suc from) at (f.branch p.PATH (numbered (suc at) (path_below ids)) (numbered from (field_end externs r)))
        (after_branch (suc from) p.PATH (numbered (suc at) (path_below ids)) (numbered from (field_end externs r)) (end_ends r.name from));
    name_is = λ at ag. text_read _ ag.1.1.1.0.text;
  }

  -- a name alone stands for `<Module>`
  alone_reads : (id : TypeId) → is_module id ≡ true →
      TargetReads s a (item p.FIELD_TARGET_NAME (name r.name (field_path externs [] r))) (o.Name (of_name scope.TheVariants.Here (id ∷ []))) r.name
  alone_reads id e = record {
    owner = λ tree no_typed no_scoped at ag.
        named_owner s a tree no_typed no_scoped (numbered at (name r.name (field_path externs [] r))) refl refl
        ∙ ap (λ x. o.Name (of_name scope.TheVariants.Here (x ∷ []))) (module_is id e);
    token = λ at. at;
    ends = λ at d. refl;
    name_is = λ at ag. text_read _ ag.0.text;
  }

  -- `TYPE::NAME` of a class that is in no other
  one_reads : (id : TypeId) → is_path_named (id ∷ []) ≡ true →
      TargetReads s a (item p.FIELD_TARGET_NAME (shown_id id (field_path externs (id ∷ []) r))) (o.Name (of_name scope.TheVariants.Here (id ∷ []))) r.name
  one_reads id h = record {
    owner = λ tree no_typed no_scoped at ag.
        named_owner s a tree no_typed no_scoped (numbered at (shown_id id (field_path externs (id ∷ []) r))) refl refl
        ∙ ap (λ ids. o.Name (of_name scope.TheVariants.Here ids)) (paths s (id ∷ []) h at (ag.0, (tt, tt)));
    token = λ at. suc (suc at);
    ends = λ at.
        after_leaf (suc (suc at)) at (f.branch p.FIELD_TAIL_DOUBLE_COLON (numbered (suc at) (field_end externs r)) f.none)
        (in_branch (suc (suc at)) p.FIELD_TAIL_DOUBLE_COLON (numbered (suc at) (field_end externs r)) (end_ends r.name (suc at)));
    name_is = λ at ag. text_read _ ag.1.0.1.0.text;
  }

  -- and of one that is in others
  inner_reads : (id next : TypeId) (more : List TypeId) → is_path_named (id ∷ []) ≡ true → is_path_named (next ∷ more) ≡ true →
      Grows (body_of p.FIELD_TARGET_NAME) (field_here externs (id ∷ next ∷ more) r).below →
      TargetReads s a (field_here externs (id ∷ next ∷ more) r) (o.Name (of_name scope.TheVariants.Here (id ∷ next ∷ more))) r.name
  inner_reads id next more h k g = record {
    owner = λ tree no_typed no_scoped at ag.
        let shown = (field_here externs (id ∷ next ∷ more) r).below in
        named_owner s a tree no_typed no_scoped (numbered at shown)
        (searches.nothing typed (body_of p.FIELD_TARGET_NAME) typed_outside_named shown g at)
        (searches.nothing scoped (body_of p.FIELD_TARGET_NAME) scoped_outside_named shown g at)
        ∙ (ap
        (λ ids. o.Name (of_name scope.TheVariants.Here (ids ++ map (type_id s) (path_tokens (numbered (suc (suc at)) (path_below (next ∷ more)))))))
        (paths s (id ∷ []) h at (ag.0, (tt, tt)))
        ∙ ap (λ ids. o.Name (of_name scope.TheVariants.Here (id ∷ ids))) (paths s (next ∷ more) k (suc (suc at)) ag.1.0.1.0));
    token = λ at. suc (suc (suc at) + size (path_below (next ∷ more)));
    ends = λ at.
        let from = suc (suc at) + size (path_below (next ∷ more)) in
        let inner = f.branch p.PATH (numbered (suc (suc at)) (path_below (next ∷ more))) (numbered from (field_end externs r)) in
        after_leaf (suc from) at (f.branch p.FIELD_TAIL_SLASH (f.leaf (suc at) inner) f.none)
        (in_branch (suc from) p.FIELD_TAIL_SLASH (f.leaf (suc at) inner)
        (after_leaf (suc from) (suc at) inner
        (after_branch (suc from) p.PATH (numbered (suc (suc at)) (path_below (next ∷ more))) (numbered from (field_end externs r)) (end_ends r.name from))));
    name_is = λ at ag. text_read _ ag.1.0.1.1.1.0.text;
  }

  single_reads : (id : TypeId) (b : Bool) → is_module id ≡ b → is_path_named (id ∷ []) ≡ true →
      TargetReads s a
      (cond b (item p.FIELD_TARGET_NAME (name r.name (field_path externs [] r))) (item p.FIELD_TARGET_NAME (shown_id id (field_path externs (id ∷ []) r))))
      (o.Name (of_name scope.TheVariants.Here (id ∷ []))) r.name
  single_reads id true e h = alone_reads id e
  single_reads id false e h = one_reads id h

  here_reads : (ids : List TypeId) → is_path_named ids ≡ true → Grows (body_of (field_here externs ids r).production) (field_here externs ids r).below →
      TargetReads s a (field_here externs ids r) (o.Name (of_name scope.TheVariants.Here ids)) r.name
  here_reads [] h g = absurd (no_length (and_parts (nat_lt 0 0) true h).0)
  here_reads (id ∷ []) h g = single_reads id (is_module id) refl h
  here_reads (id ∷ next ∷ more) h g =
      let all = (and_parts (nat_lt 0 (length (id ∷ next ∷ more))) (list_all is_id_named (id ∷ next ∷ more)) h).1 in
      let hs = and_parts (is_id_named id) (list_all is_id_named (next ∷ more)) all in
      inner_reads id next more (path_is id [] (both (is_id_named id) true hs.0 refl)) (path_is next more hs.1) g

  name_reads : (sc : scope.Scope) (ids : List TypeId) → is_name_readable externs (of_name sc ids) ≡ true →
      Grows (body_of (field_in externs sc ids r).production) (field_in externs sc ids r).below →
      TargetReads s a (field_in externs sc ids r) (o.Name (of_name sc ids)) r.name
  name_reads scope.TheVariants.Here ids h g = here_reads ids (and_parts true (is_path_named ids) h).1 g
  name_reads (scope.TheVariants.Extern k) ids h g = scoped_reads k ids h g

  abbrev Target : layer.Owner-F Owner SigType → Owner → Type 0
  Target l u = Grows (body_of (field_target externs l r).production) (field_target externs l r).below → TargetReads s a (field_target externs l r) u r.name

  named_target : (n : TypeName) → is_owner_readable externs (o.Name n) ≡ true → Target (out-Owner (o.Name n)) (o.Name n)
  unfolding is_owner_readable
  named_target n h =
      subst (λ l. Target l (o.Name n)) (sym (o.outs-Name n))
      (name_reads n.scope n.path (sym (fold-Name Bool Bool (may.owner_step externs) (may.type_step externs) n) ∙ h))

  typed_target : (u : SigType) → is_owner_readable externs (o.Spec u) ≡ true → Target (out-Owner (o.Spec u)) (o.Spec u)
  unfolding is_owner_readable is_type_readable
  typed_target u h =
      subst (λ l. Target l (o.Spec u)) (sym (o.outs-Spec u))
      (λ g. typed_reads u (sym (fold-Spec Bool Bool (may.owner_step externs) (may.type_step externs) u) ∙ h))

  target_reads : (u : Owner) → is_owner_readable externs u ≡ true → Target (out-Owner u) u
  target_reads = owner_cases (λ u. is_owner_readable externs u ≡ true → Target (out-Owner u) u) named_target typed_target

module _ (names : NamesAreRead) (paths : PathsAreRead) (terms : TermsAreRead) (searches : SearchesPass) (types_stand : TermsStand) (stand : ReferencesStand) (s : Source) (a : Around) (externs : List ExternAssembly) (knows : KnowsAssemblies s externs) where
  field_is : (r : FieldRef) → is_field_readable externs r ≡ true → field_stands r ≡ true → (at : ℕ) → Agrees s at (field_ref externs r).below →
      read.field_ref s a (numbered at (field_ref externs r).below) ≡ r
  unfolding ilasm rule_by field_ref
  field_is r h k at ag =
      let hs = and_parts (is_name r.name && is_owner_readable externs r.owner) (is_type_readable externs r.of) h in
      let ns = and_parts (is_name r.name) (is_owner_readable externs r.owner) hs.0 in
      let grown = stand.fields externs r k in
      let target = field_target externs (out-Owner r.owner) r in
      let from = at + size (type_below externs r.of) in
      let tree = numbered at (type_below externs r.of) in
      let t = target_reads names paths terms searches s a externs knows r ns.0 r.owner ns.1 grown.1.2.1 in
      let no_typed = searches.nothing typed (body_of p.TYPE) typed_outside_types (type_below externs r.of) grown.1.1 at in
      let no_scoped = searches.nothing scoped (body_of p.TYPE) scoped_outside_types (type_below externs r.of) grown.1.1 at in
      let owner_is = t.owner tree no_typed no_scoped from ag.1.0 in
      let last_is = after_branch (t.token from) p.TYPE tree (f.branch target.production (numbered from target.below) f.none)
      (in_branch (t.token from) target.production (numbered from target.below) (t.ends from)) 0 in
      let name_is = ap (name_text s) last_is ∙ t.name_is from ag.1.0 in
      let of_is = terms.types s a externs knows r.of hs.1 at ag.0 in
      λ i. record { owner = owner_is i; name = name_is i; of = of_is i }

pub fields_are_read : NamesAreRead → PathsAreRead → TermsAreRead → SearchesPass → TermsStand → ReferencesStand → FieldsAreRead
fields_are_read names paths terms searches types_stand stand s a externs knows r h k at ag =
    field_is names paths terms searches types_stand stand s a externs knows r h k at ag
