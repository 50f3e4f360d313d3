-- References to methods are read back.
use Rattle.std.proofs.Common.{◌≡◌, ℕ, suc, ◌+◌, ◌&&◌, nat_lt, Bool, true, false, cond, if◌then◌else◌, List, [], ◌∷◌, ◌++◌, map, length, None, Some, refl, ap, sym, subst, ◌∙◌, append-nil}
use Rattle.std.proofs.lemmas.Bool.{and_parts}
use Rattle.std.specs.List.{list_all}
use Rattle.ilasm_grammar.specs.Ilasm.{ilasm, rule_by, has_bit}
use Rattle.ilasm_grammar.specs.declared.nonterminals.TheConstants as n
use Rattle.ilasm_grammar.specs.declared.productions.TheConstants as p
use Rattle.ilasm_grammar.specs.declared.symbol.Symbol.{Symbol}
use Rattle.ilasm_grammar.specs.declared.symbol.Symbol.TheVariants.{Terminal, Nonterminal}
use Rattle.ilasm_grammar.specs.declared.terminals.TheConstants.{WORDS}
use Rattle.il_lexer.specs.declared.word.TheConstants as word
use Rattle.type_terms.specs.declared.name.Scope as scope
use Rattle.type_terms.specs.declared.name.TypeId.{TypeId}
use Rattle.type_terms.specs.declared.name.TypeName.{TypeName}
use Rattle.type_terms.specs.declared.reference.MethodRef.{MethodRef}
use Rattle.type_terms.specs.declared.term.Owner.{Owner, out-Owner}
use Rattle.type_terms.specs.declared.term.Owner.TheVariants as o
use Rattle.type_terms.specs.declared.term.Owner.TheOpen as layer
use Rattle.type_terms.specs.declared.term.SigType.{SigType}
use Rattle.type_terms.proofs.Layers.{fold-Name, fold-Spec}
use Rattle.assembly_tree.specs.WellFormedNames.{is_module}
use Rattle.assembly_tree.specs.declared.assembly.ExternAssembly.{ExternAssembly}
use Rattle.source_model.specs.Forest as f
use Rattle.source_model.specs.Names.{or_module, module_name, written_name, path_tokens}
use Rattle.source_model.specs.Nodes.{Around, type_id}
use Rattle.source_model.specs.References as read
use Rattle.source_model.specs.Source.{Source}
use Rattle.source_model.specs.Shapes.{natural}
use Rattle.source_model.specs.Types.{the_type, types_in}
use Rattle.source_model.specs.Values.{int_at, name_text, part_texts, dotted}
use Rattle.listing_growth.specs.Laws.{ReferencesStand}
use Rattle.listing_growth.specs.Standing.{method_stands, signature_stands, args_stand, owner_can_stand}
use Rattle.listing_leaves.specs.Laws.{is_name}
use Rattle.listing_model.specs.Grown.{body_of, Grows}
use Rattle.listing_model.specs.References.{convention, method_name, arguments, generics_and_arguments, method_generics, target_end, target_path, target_here, target_in, target_of, method_ref}
use Rattle.listing_model.specs.Shown as piece
use Rattle.listing_model.specs.Shown.{Shown, none, Item, item, put, w, size, opt_production, opt_below}
use Rattle.listing_model.specs.Types.{name, path, path_below, type_of, type_below}
use Rattle.listing_model.specs.Types.{type_id as shown_id}
use Rattle.listing_reading.specs.Below.{below, cant_stand}
use Rattle.listing_reading.specs.BelowMasks.{below_masks}
use Rattle.listing_reading.specs.Laws.{SearchesPass}
use Rattle.listing_reading.specs.Numbered.{numbered, Agrees}
use Rattle.listing_terms.specs.Laws.{PathsAreRead, TermsAreRead}
use Rattle.listing_terms.specs.Readable as may
use Rattle.listing_terms.specs.Readable.{KnowsAssemblies, is_id_named, is_path_named, is_name_readable, is_type_readable, is_owner_readable}
use Rattle.listing_values.specs.Laws.{NamesAreRead}
use Rattle.listing_references.specs.Laws.{IsMethodReadable, shown_generics, ConventionsAreRead, ArgumentsAreRead, MethodNamesAreRead, GenericsAreRead, MethodsAreRead}
use Rattle.listing_references.proofs.Searched.{owner_cases, module_is}
use Rattle.listing_references.proofs.Fields.{the_first, no_length, both, path_is, of_name}

-- ---- what can't stand where

abbrev tail_symbols : List Symbol
tail_symbols = Nonterminal n.METHOD_GENERICS_OPT ∷ Nonterminal n.SIGNATURE ∷ []

abbrev end_symbols : List Symbol
end_symbols = Terminal (WORDS + word.DOUBLE_COLON) ∷ Nonterminal n.TARGET_END ∷ []

-- what is sought in a reference, and can't stand in what grows from symbols
pub record Absent (symbols : List Symbol) : Type 0 where
  pub no_signature : cant_stand (p.SIGNATURE ∷ []) symbols ≡ true
  pub no_generics : cant_stand (p.METHOD_GENERICS ∷ []) symbols ≡ true
  pub no_ending : cant_stand (p.TARGET_END ∷ []) symbols ≡ true
  pub no_typed : cant_stand (p.TARGET_TYPE ∷ []) symbols ≡ true
  pub no_scoped : cant_stand (p.TARGET_SCOPE ∷ []) symbols ≡ true

none_before : Absent (Nonterminal n.CALL_CONV ∷ Nonterminal n.TYPE ∷ [])
unfolding ilasm rule_by has_bit below below_masks
none_before = record { no_signature = refl; no_generics = refl; no_ending = refl; no_typed = refl; no_scoped = refl }

none_in_types : Absent (Nonterminal n.TYPE ∷ [])
unfolding ilasm rule_by has_bit below below_masks
none_in_types = record { no_signature = refl; no_generics = refl; no_ending = refl; no_typed = refl; no_scoped = refl }

none_in_paths : Absent (Nonterminal n.PATH ∷ [])
unfolding ilasm rule_by has_bit below below_masks
none_in_paths = record { no_signature = refl; no_generics = refl; no_ending = refl; no_typed = refl; no_scoped = refl }

none_in_names : Absent (Nonterminal n.METHOD_NAME ∷ [])
unfolding ilasm rule_by has_bit below below_masks
none_in_names = record { no_signature = refl; no_generics = refl; no_ending = refl; no_typed = refl; no_scoped = refl }

no_end_in_tail : cant_stand (p.TARGET_END ∷ []) tail_symbols ≡ true
unfolding ilasm rule_by has_bit below below_masks
no_end_in_tail = refl

-- no name goes on in what stands behind `::`
no_slash_in_tail : cant_stand (p.NAME_TAIL_SLASH ∷ []) tail_symbols ≡ true
unfolding ilasm rule_by has_bit below below_masks
no_slash_in_tail = refl

no_colon_in_tail : cant_stand (p.NAME_TAIL_DOUBLE_COLON ∷ []) tail_symbols ≡ true
unfolding ilasm rule_by has_bit below below_masks
no_colon_in_tail = refl

no_slash_in_end : cant_stand (p.NAME_TAIL_SLASH ∷ []) end_symbols ≡ true
unfolding ilasm rule_by has_bit below below_masks
no_slash_in_end = refl

-- no target stands in another
pub record NoTargets (production : ℕ) : Type 0 where
  pub no_typed : cant_stand (p.TARGET_TYPE ∷ []) (body_of production) ≡ true
  pub no_scoped : cant_stand (p.TARGET_SCOPE ∷ []) (body_of production) ≡ true

none_in_scoped : NoTargets p.TARGET_SCOPE
unfolding ilasm rule_by has_bit below below_masks
none_in_scoped = record { no_typed = refl; no_scoped = refl }

none_in_named : NoTargets p.TARGET_NAME
unfolding ilasm rule_by has_bit below below_masks
none_in_named = record { no_typed = refl; no_scoped = refl }

no_signature_in_generics : cant_stand (p.SIGNATURE ∷ []) (Nonterminal n.METHOD_GENERICS_OPT ∷ []) ≡ true
unfolding ilasm rule_by has_bit below below_masks
no_signature_in_generics = refl

no_generics_in_signature : cant_stand (p.METHOD_GENERICS ∷ []) (Nonterminal n.SIGNATURE ∷ []) ≡ true
unfolding ilasm rule_by has_bit below below_masks
no_generics_in_signature = refl

-- ---- the tail: generic arguments and the signature

abbrev tail : List ExternAssembly → MethodRef → Shown
tail externs r = generics_and_arguments externs r none

-- where the signature stands in it, and where it stands behind `::` and the name
abbrev signature_at : List ExternAssembly → MethodRef → ℕ → ℕ
signature_at externs r k = k + size (opt_below (method_generics externs r.sig.generic r.args))

abbrev past_name : MethodRef → ℕ → ℕ
past_name r k = suc k + size (method_name r.name).below

-- what stands below the production behind `::`
abbrev end_below : List ExternAssembly → MethodRef → ℕ → f.Forest
end_below externs r k = numbered (suc k) (put (method_name r.name) (tail externs r))

module _ (searches : SearchesPass) (externs : List ExternAssembly) (r : MethodRef) where
  signature_in : Grows tail_symbols (tail externs r) → (k : ℕ) →
      f.parts (p.SIGNATURE ∷ []) (numbered k (tail externs r)) ≡ f.parts (p.SIGNATURE ∷ []) (numbered (signature_at externs r k) (arguments externs r.sig none))
  signature_in g k = searches.parts (p.SIGNATURE ∷ []) 1 tail_symbols no_signature_in_generics (tail externs r) g k

  generics_in : Grows tail_symbols (tail externs r) → (k : ℕ) →
      f.parts (p.METHOD_GENERICS ∷ []) (numbered k (tail externs r)) ≡ f.parts (p.METHOD_GENERICS ∷ []) (numbered k (shown_generics externs r.sig.generic r.args))
  generics_in g k =
      let q = opt_production p.METHOD_GENERICS_OPT_SOME p.METHOD_GENERICS_OPT_NONE (method_generics externs r.sig.generic r.args) in
      let under = numbered k (opt_below (method_generics externs r.sig.generic r.args)) in
      ap (λ ps. (if f.is_among (p.METHOD_GENERICS ∷ []) q then f.part q under ∷ [] else f.parts (p.METHOD_GENERICS ∷ []) under) ++ ps)
      (searches.nothing (p.METHOD_GENERICS ∷ []) (Nonterminal n.SIGNATURE ∷ []) no_generics_in_signature (arguments externs r.sig none) g.2 (signature_at externs r k))

  tail_grows : Grows end_symbols (target_end externs r) → Grows tail_symbols (tail externs r)
  unfolding ilasm rule_by
  tail_grows g = g.1.1.2

  in_end : (q : ℕ) → cant_stand (q ∷ []) (Nonterminal n.METHOD_NAME ∷ []) ≡ true → f.is_among (q ∷ []) p.TARGET_END ≡ false → Grows end_symbols (target_end externs r) → (k : ℕ) →
      f.parts (q ∷ []) (numbered k (target_end externs r)) ≡ f.parts (q ∷ []) (numbered (past_name r k) (tail externs r))
  unfolding ilasm rule_by
  in_end q h e g k =
      ap (λ c. (if c then f.part p.TARGET_END (end_below externs r k) ∷ [] else f.parts (q ∷ []) (end_below externs r k)) ++ []) e
      ∙ (append-nil (f.parts (q ∷ []) (end_below externs r k)) ∙ searches.parts (q ∷ []) 1 (body_of p.TARGET_END) h (put (method_name r.name) (tail externs r)) g.1.1 (suc k))

-- ---- the target

abbrev typed : List ℕ
typed = p.TARGET_TYPE ∷ []

abbrev scoped : List ℕ
scoped = p.TARGET_SCOPE ∷ []

abbrev ended : List ℕ
ended = p.TARGET_END ∷ []

-- a reference by its convention, its type and its target
abbrev reference : f.Forest → f.Forest → ℕ → f.Forest → f.Forest
reference conv type_tree q under = f.branch p.CALL_CONV conv (f.branch p.TYPE type_tree (f.branch q under f.none))

abbrev owner_in : Source → Around → f.Forest → Owner
owner_in s a g = read.owner_of s a p.TARGET_SCOPE p.TARGET_TYPE p.TARGET_NAME g

-- what is sought in the target stands nowhere before it
abbrev Passes : List ℕ → f.Forest → f.Forest → ℕ → f.Forest → Type 0
Passes qs conv type_tree q under = f.parts qs (reference conv type_tree q under) ≡ f.parts qs (f.branch q under f.none)

-- what a target is read as, behind any convention and type: its owner, its name, and the place of its tail
pub record MethodTarget (s : Source) (a : Around) (externs : List ExternAssembly) (i : Item) (u : Owner) (r : MethodRef) : Type 0 where
  pub place : ℕ → ℕ
  pub grows : Grows tail_symbols (tail externs r)
  pub agrees : (at : ℕ) → Agrees s at i.below → Agrees s (place at) (tail externs r)
  pub signature : (at : ℕ) → f.parts (p.SIGNATURE ∷ []) (f.branch i.production (numbered at i.below) f.none) ≡ f.parts (p.SIGNATURE ∷ []) (numbered (place at) (tail externs r))
  pub generics : (at : ℕ) → f.parts (p.METHOD_GENERICS ∷ []) (f.branch i.production (numbered at i.below) f.none) ≡ f.parts (p.METHOD_GENERICS ∷ []) (numbered (place at) (tail externs r))
  pub owner : (conv type_tree : f.Forest) (at : ℕ) → Passes typed conv type_tree i.production (numbered at i.below) → Passes scoped conv type_tree i.production (numbered at i.below) →
      Agrees s at i.below → owner_in s a (reference conv type_tree i.production (numbered at i.below)) ≡ u
  pub named : (conv type_tree : f.Forest) (at : ℕ) → Passes ended conv type_tree i.production (numbered at i.below) → Agrees s at i.below →
      read.reference_name s a (reference conv type_tree i.production (numbered at i.below)) ≡ r.name

module _ (s : Source) (a : Around) (conv type_tree under : f.Forest) where
  typed_owner : Passes typed conv type_tree p.TARGET_TYPE under → owner_in s a (reference conv type_tree p.TARGET_TYPE under) ≡ o.Spec (the_type s a under)
  typed_owner h =
      ap
      (λ c. if c then o.Spec (the_type s a under)
      else if f.has p.TARGET_SCOPE (reference conv type_tree p.TARGET_TYPE under) then o.Name (or_module s (written_name p.TARGET_SCOPE f.none))
      else o.Name (or_module s (written_name p.TARGET_NAME f.none)))
      (ap f.is_any_part h)

  scoped_owner : Passes typed conv type_tree p.TARGET_SCOPE under → Passes scoped conv type_tree p.TARGET_SCOPE under → f.parts typed under ≡ [] →
      owner_in s a (reference conv type_tree p.TARGET_SCOPE under) ≡ o.Name (or_module s (written_name p.TARGET_SCOPE under))
  scoped_owner h k e =
      ap
      (λ c. if c then o.Spec (the_type s a f.none)
      else if f.has p.TARGET_SCOPE (reference conv type_tree p.TARGET_SCOPE under) then o.Name (or_module s (written_name p.TARGET_SCOPE under))
      else o.Name (or_module s (written_name p.TARGET_NAME f.none)))
      (ap f.is_any_part (h ∙ ap (λ ps. ps ++ []) e))
      ∙ ap
      (λ c. if c then o.Name (or_module s (written_name p.TARGET_SCOPE under)) else o.Name (or_module s (written_name p.TARGET_NAME f.none)))
      (ap f.is_any_part k)

  named_owner : Passes typed conv type_tree p.TARGET_NAME under → Passes scoped conv type_tree p.TARGET_NAME under → f.parts typed under ≡ [] → f.parts scoped under ≡ [] →
      owner_in s a (reference conv type_tree p.TARGET_NAME under) ≡ o.Name (or_module s (written_name p.TARGET_NAME under))
  named_owner h k e g =
      ap
      (λ c. if c then o.Spec (the_type s a f.none)
      else if f.has p.TARGET_SCOPE (reference conv type_tree p.TARGET_NAME under) then o.Name (or_module s (written_name p.TARGET_SCOPE f.none))
      else o.Name (or_module s (written_name p.TARGET_NAME under)))
      (ap f.is_any_part (h ∙ ap (λ ps. ps ++ []) e))
      ∙ ap
      (λ c. if c then o.Name (or_module s (written_name p.TARGET_SCOPE f.none)) else o.Name (or_module s (written_name p.TARGET_NAME under)))
      (ap f.is_any_part (k ∙ ap (λ ps. ps ++ []) g))

-- the name behind `::`
ended_name : (s : Source) (a : Around) (whole under : f.Forest) → f.parts ended whole ≡ f.part p.TARGET_END under ∷ [] → read.reference_name s a whole ≡ read.method_name s under
ended_name s a whole under h =
    ap (λ ps. if f.is_any_part ps then read.method_name s (f.first_or f.none (f.below_each ps)) else name_text s (f.leaf_at 0 (f.child (p.TARGET_NAME ∷ []) whole))) h

-- ---- what is sought stands in the tail

module _ (searches : SearchesPass) (externs : List ExternAssembly) (r : MethodRef) where
  abbrev typed_shown : SigType → Shown
  typed_shown u = (target_of externs (layer.Spec u) r).below

  typed_end : (u : SigType) → Grows (body_of p.TARGET_TYPE) (typed_shown u) → Grows end_symbols (target_end externs r)
  unfolding ilasm rule_by
  typed_end u g = g.2

  typed_ends : (u : SigType) → Grows (body_of p.TARGET_TYPE) (typed_shown u) → (q : ℕ) → cant_stand (q ∷ []) (Nonterminal n.TYPE ∷ []) ≡ true → (at : ℕ) →
      f.parts (q ∷ []) (numbered at (typed_shown u)) ≡ f.parts (q ∷ []) (numbered (at + size (type_below externs u)) (target_end externs r))
  unfolding ilasm rule_by
  typed_ends u g q c at = searches.parts (q ∷ []) 1 (body_of p.TARGET_TYPE) c (typed_shown u) g at

  abbrev scoped_shown : ℕ → List TypeId → Shown
  scoped_shown k ids = (target_in externs (scope.TheVariants.Extern k) ids r).below

  scoped_end : (k : ℕ) (ids : List TypeId) → Grows (body_of p.TARGET_SCOPE) (scoped_shown k ids) → Grows end_symbols (target_end externs r)
  unfolding ilasm rule_by
  scoped_end k ids g = g.1.2

  scoped_ends : (k : ℕ) (ids : List TypeId) → Grows (body_of p.TARGET_SCOPE) (scoped_shown k ids) → (q : ℕ) → cant_stand (q ∷ []) (Nonterminal n.PATH ∷ []) ≡ true → (at : ℕ) →
      f.parts (q ∷ []) (numbered at (scoped_shown k ids)) ≡ f.parts (q ∷ []) (numbered (suc at + size (path_below ids)) (target_end externs r))
  unfolding ilasm rule_by
  scoped_ends k ids g q c at = searches.parts (q ∷ []) 2 (body_of p.TARGET_SCOPE) c (scoped_shown k ids) g at

  abbrev alone_shown : Shown
  alone_shown = name r.name (target_path externs [] r)

  alone_tail : Grows (body_of p.TARGET_NAME) alone_shown → Grows tail_symbols (tail externs r)
  unfolding ilasm rule_by
  alone_tail g = g.1.1

  abbrev one_shown : TypeId → Shown
  one_shown id = shown_id id (target_path externs (id ∷ []) r)

  one_end : (id : TypeId) → Grows (body_of p.TARGET_NAME) (one_shown id) → Grows end_symbols (target_end externs r)
  unfolding ilasm rule_by
  one_end id g = g.1.1

  abbrev inner_shown : TypeId → TypeId → List TypeId → Shown
  inner_shown id next more = (target_here externs (id ∷ next ∷ more) r).below

  -- what stands below the production behind the first name
  abbrev inner_below : TypeId → List TypeId → Shown
  inner_below next more = w word.SLASH (path (next ∷ more) (target_end externs r))

  inner_end : (id next : TypeId) (more : List TypeId) → Grows (body_of p.TARGET_NAME) (inner_shown id next more) → Grows end_symbols (target_end externs r)
  unfolding ilasm rule_by
  inner_end id next more g = g.1.1.1.2

  inner_ends : (id next : TypeId) (more : List TypeId) → Grows (body_of p.TARGET_NAME) (inner_shown id next more) → (q : ℕ) → cant_stand (q ∷ []) (Nonterminal n.PATH ∷ []) ≡ true → (at : ℕ) →
      f.parts (q ∷ []) (numbered (suc at) (inner_below next more)) ≡ f.parts (q ∷ []) (numbered (suc (suc at) + size (path_below (next ∷ more))) (target_end externs r))
  unfolding ilasm rule_by
  inner_ends id next more g q c at = searches.parts (q ∷ []) 2 (body_of p.NAME_TAIL_SLASH) c (inner_below next more) g.1.1 (suc at)

-- ---- the targets

module _ (names : NamesAreRead) (methods : MethodNamesAreRead) (paths : PathsAreRead) (terms : TermsAreRead) (searches : SearchesPass) (s : Source) (a : Around) (externs : List ExternAssembly) (knows : KnowsAssemblies s externs) (r : MethodRef) (called : is_name r.name ≡ true) where
  -- the name behind `::` at this place
  end_read : (k : ℕ) → Agrees s k (target_end externs r) → read.method_name s (end_below externs r k) ≡ r.name
  end_read k ag = methods s r.name called (suc k) ag.1.0.0 (numbered (past_name r k) (tail externs r))

  -- what is sought behind `::`
  abbrev behind : ℕ → Type 0
  behind q = (k : ℕ) → f.parts (q ∷ []) (numbered k (target_end externs r)) ≡ f.parts (q ∷ []) (numbered (past_name r k) (tail externs r))

  signature_behind : Grows end_symbols (target_end externs r) → behind p.SIGNATURE
  signature_behind g k = in_end searches externs r p.SIGNATURE none_in_names.no_signature refl g k

  generics_behind : Grows end_symbols (target_end externs r) → behind p.METHOD_GENERICS
  generics_behind g k = in_end searches externs r p.METHOD_GENERICS none_in_names.no_generics refl g k

  -- `TYPE::NAME`
  typed_target : (u : SigType) → is_type_readable externs u ≡ true → Grows (body_of p.TARGET_TYPE) (target_of externs (layer.Spec u) r).below →
      MethodTarget s a externs (target_of externs (layer.Spec u) r) (o.Spec u) r
  typed_target u h g =
      let shown = (target_of externs (layer.Spec u) r).below in
      let eg = typed_end searches externs r u g in
      record {
        place = λ at. past_name r (at + size (type_below externs u));
        grows = tail_grows searches externs r eg;
        agrees = λ at ag. ag.1.1.0.1;
        signature = λ at.
            append-nil (f.parts (p.SIGNATURE ∷ []) (numbered at shown))
            ∙ (typed_ends searches externs r u g p.SIGNATURE none_in_types.no_signature at ∙ signature_behind eg (at + size (type_below externs u)));
        generics = λ at.
            append-nil (f.parts (p.METHOD_GENERICS ∷ []) (numbered at shown))
            ∙ (typed_ends searches externs r u g p.METHOD_GENERICS none_in_types.no_generics at ∙ generics_behind eg (at + size (type_below externs u)));
        owner = λ conv tree at typed_passes scoped_passes ag.
            typed_owner s a conv tree (numbered at shown) typed_passes
            ∙ ap o.Spec (the_first s a (numbered at (type_below externs u)) (numbered (at + size (type_below externs u)) (target_end externs r)) ∙ terms.types s a externs knows u h at ag.0);
        named = λ conv tree at ended_passes ag.
            let k = at + size (type_below externs u) in
            ended_name s a (reference conv tree p.TARGET_TYPE (numbered at shown)) (end_below externs r k)
            (ended_passes ∙ ap (λ ps. ps ++ []) (typed_ends searches externs r u g p.TARGET_END none_in_types.no_ending at))
            ∙ end_read k ag.1;
      }

  -- `[ASSEMBLY]TYPE::NAME`
  scoped_target : (e : ℕ) (ids : List TypeId) → is_name_readable externs (of_name (scope.TheVariants.Extern e) ids) ≡ true →
      Grows (body_of p.TARGET_SCOPE) (target_in externs (scope.TheVariants.Extern e) ids r).below →
      MethodTarget s a externs (target_in externs (scope.TheVariants.Extern e) ids r) (o.Name (of_name (scope.TheVariants.Extern e) ids)) r
  scoped_target e ids h g =
      let shown = (target_in externs (scope.TheVariants.Extern e) ids r).below in
      let eg = scoped_end searches externs r e ids g in
      record {
        place = λ at. past_name r (suc at + size (path_below ids));
        grows = tail_grows searches externs r eg;
        agrees = λ at ag. ag.1.1.1.0.1;
        signature = λ at.
            append-nil (f.parts (p.SIGNATURE ∷ []) (numbered at shown))
            ∙ (scoped_ends searches externs r e ids g p.SIGNATURE none_in_paths.no_signature at ∙ signature_behind eg (suc at + size (path_below ids)));
        generics = λ at.
            append-nil (f.parts (p.METHOD_GENERICS ∷ []) (numbered at shown))
            ∙ (scoped_ends searches externs r e ids g p.METHOD_GENERICS none_in_paths.no_generics at ∙ generics_behind eg (suc at + size (path_below ids)));
        owner = λ conv tree at typed_passes scoped_passes ag.
            scoped_owner s a conv tree (numbered at shown) typed_passes scoped_passes (searches.nothing typed (body_of p.TARGET_SCOPE) none_in_scoped.no_typed shown g at)
            ∙ ap o.Name (terms.names s externs knows (of_name (scope.TheVariants.Extern e) ids) h at (ag.0, (ag.1.0, tt)) f.none);
        named = λ conv tree at ended_passes ag.
            let k = suc at + size (path_below ids) in
            ended_name s a (reference conv tree p.TARGET_SCOPE (numbered at shown)) (end_below externs r k)
            (ended_passes ∙ ap (λ ps. ps ++ []) (scoped_ends searches externs r e ids g p.TARGET_END none_in_paths.no_ending at))
            ∙ end_read k ag.1.1;
      }

  -- a name that a tail follows is no type's
  alone_is : (t : Shown) → Grows tail_symbols t → (at : ℕ) →
      or_module s (written_name p.TARGET_NAME (f.leaf at (f.branch p.NAME_TAIL_METHOD_GENERICS_OPT (numbered (suc at) t) f.none))) ≡ module_name
  alone_is t g at =
      let under = f.leaf at (f.branch p.NAME_TAIL_METHOD_GENERICS_OPT (numbered (suc at) t) f.none) in
      let no_slash : f.has p.NAME_TAIL_SLASH under ≡ false =
      ap (λ ps. f.is_any_part (ps ++ [])) (searches.nothing (p.NAME_TAIL_SLASH ∷ []) tail_symbols no_slash_in_tail t g (suc at)) in
      let no_colon : f.has p.NAME_TAIL_DOUBLE_COLON under ≡ false =
      ap (λ ps. f.is_any_part (ps ++ [])) (searches.nothing (p.NAME_TAIL_DOUBLE_COLON ∷ []) tail_symbols no_colon_in_tail t g (suc at)) in
      ap
      (λ c. or_module s (if c then Some (record { scope = None; path = at ∷ path_tokens f.none })
      else if f.has p.NAME_TAIL_DOUBLE_COLON under then Some (record { scope = None; path = at ∷ [] }) else None))
      no_slash
      ∙ ap (λ c. or_module s (if c then Some (record { scope = None; path = at ∷ [] }) else None)) no_colon

  -- and one that `::` follows is
  one_is : (id : TypeId) → is_path_named (id ∷ []) ≡ true → Grows end_symbols (target_end externs r) → (at : ℕ) → Agrees s at (one_shown searches externs r id) →
      or_module s (written_name p.TARGET_NAME (numbered at (one_shown searches externs r id))) ≡ of_name scope.TheVariants.Here (id ∷ [])
  one_is id h g at ag =
      let under = numbered at (one_shown searches externs r id) in
      let no_slash : f.has p.NAME_TAIL_SLASH under ≡ false =
      ap (λ ps. f.is_any_part (ps ++ [])) (searches.nothing (p.NAME_TAIL_SLASH ∷ []) end_symbols no_slash_in_end (target_end externs r) g (suc at)) in
      ap
      (λ c. or_module s (if c then Some (record { scope = None; path = at ∷ path_tokens f.none }) else Some (record { scope = None; path = at ∷ [] })))
      no_slash
      ∙ ap (λ ids. of_name scope.TheVariants.Here ids) (paths s (id ∷ []) h at (ag.0, (tt, tt)))

  -- a name alone stands for a method of `<Module>`
  alone_target : (id : TypeId) → is_module id ≡ true → Grows (body_of p.TARGET_NAME) (name r.name (target_path externs [] r)) →
      MethodTarget s a externs (item p.TARGET_NAME (name r.name (target_path externs [] r))) (o.Name (of_name scope.TheVariants.Here (id ∷ []))) r
  alone_target id e g =
      let shown = name r.name (target_path externs [] r) in
      let tg = alone_tail searches externs r g in
      record {
        place = λ at. suc at;
        grows = tg;
        agrees = λ at ag. ag.1.0;
        signature = λ at. append-nil (f.parts (p.SIGNATURE ∷ []) (numbered at shown)) ∙ append-nil (f.parts (p.SIGNATURE ∷ []) (numbered (suc at) (tail externs r)));
        generics = λ at. append-nil (f.parts (p.METHOD_GENERICS ∷ []) (numbered at shown)) ∙ append-nil (f.parts (p.METHOD_GENERICS ∷ []) (numbered (suc at) (tail externs r)));
        owner = λ conv tree at typed_passes scoped_passes ag.
            named_owner s a conv tree (numbered at shown) typed_passes scoped_passes (searches.nothing typed (body_of p.TARGET_NAME) none_in_named.no_typed shown g at) (searches.nothing scoped (body_of p.TARGET_NAME) none_in_named.no_scoped shown g at)
            ∙ ap o.Name (alone_is (tail externs r) tg at ∙ ap (λ x. of_name scope.TheVariants.Here (x ∷ [])) (module_is id e));
        named = λ conv tree at ended_passes ag.
            let whole = reference conv tree p.TARGET_NAME (numbered at shown) in
            ap (λ ps. if f.is_any_part ps then read.method_name s (f.first_or f.none (f.below_each ps)) else name_text s (f.leaf_at 0 (f.child (p.TARGET_NAME ∷ []) whole)))
            (ended_passes ∙ ap (λ ps. (ps ++ []) ++ []) (searches.nothing ended tail_symbols no_end_in_tail (tail externs r) tg (suc at)))
            ∙ (ap (λ t. dotted (part_texts t)) ag.0.text ∙ names.name r.name called);
      }

  -- `TYPE::NAME` of a class that is in no other
  one_target : (id : TypeId) → is_path_named (id ∷ []) ≡ true → Grows (body_of p.TARGET_NAME) (shown_id id (target_path externs (id ∷ []) r)) →
      MethodTarget s a externs (item p.TARGET_NAME (shown_id id (target_path externs (id ∷ []) r))) (o.Name (of_name scope.TheVariants.Here (id ∷ []))) r
  one_target id h g =
      let shown = shown_id id (target_path externs (id ∷ []) r) in
      let eg = one_end searches externs r id g in
      record {
        place = λ at. past_name r (suc at);
        grows = tail_grows searches externs r eg;
        agrees = λ at ag. ag.1.0.1.0.1;
        signature = λ at.
            append-nil (f.parts (p.SIGNATURE ∷ []) (numbered at shown))
            ∙ (append-nil (f.parts (p.SIGNATURE ∷ []) (numbered (suc at) (target_end externs r))) ∙ signature_behind eg (suc at));
        generics = λ at.
            append-nil (f.parts (p.METHOD_GENERICS ∷ []) (numbered at shown))
            ∙ (append-nil (f.parts (p.METHOD_GENERICS ∷ []) (numbered (suc at) (target_end externs r))) ∙ generics_behind eg (suc at));
        owner = λ conv tree at typed_passes scoped_passes ag.
            named_owner s a conv tree (numbered at shown) typed_passes scoped_passes (searches.nothing typed (body_of p.TARGET_NAME) none_in_named.no_typed shown g at) (searches.nothing scoped (body_of p.TARGET_NAME) none_in_named.no_scoped shown g at)
            ∙ ap o.Name (one_is id h eg at ag);
        named = λ conv tree at ended_passes ag.
            ended_name s a (reference conv tree p.TARGET_NAME (numbered at shown)) (end_below externs r (suc at)) ended_passes ∙ end_read (suc at) ag.1.0;
      }

  -- and of one that is in others
  inner_target : (id next : TypeId) (more : List TypeId) → is_path_named (id ∷ []) ≡ true → is_path_named (next ∷ more) ≡ true →
      Grows (body_of p.TARGET_NAME) (target_here externs (id ∷ next ∷ more) r).below →
      MethodTarget s a externs (target_here externs (id ∷ next ∷ more) r) (o.Name (of_name scope.TheVariants.Here (id ∷ next ∷ more))) r
  inner_target id next more h j g =
      let shown = (target_here externs (id ∷ next ∷ more) r).below in
      let inner = inner_below searches externs r next more in
      let eg = inner_end searches externs r id next more g in
      record {
        place = λ at. past_name r (suc (suc at) + size (path_below (next ∷ more)));
        grows = tail_grows searches externs r eg;
        agrees = λ at ag. ag.1.0.1.1.1.0.1;
        signature = λ at.
            append-nil (f.parts (p.SIGNATURE ∷ []) (numbered at shown))
            ∙ (append-nil (f.parts (p.SIGNATURE ∷ []) (numbered (suc at) inner))
            ∙ (inner_ends searches externs r id next more g p.SIGNATURE none_in_paths.no_signature at ∙ signature_behind eg (suc (suc at) + size (path_below (next ∷ more)))));
        generics = λ at.
            append-nil (f.parts (p.METHOD_GENERICS ∷ []) (numbered at shown))
            ∙ (append-nil (f.parts (p.METHOD_GENERICS ∷ []) (numbered (suc at) inner))
            ∙ (inner_ends searches externs r id next more g p.METHOD_GENERICS none_in_paths.no_generics at ∙ generics_behind eg (suc (suc at) + size (path_below (next ∷ more)))));
        owner = λ conv tree at typed_passes scoped_passes ag.
            named_owner s a conv tree (numbered at shown) typed_passes scoped_passes (searches.nothing typed (body_of p.TARGET_NAME) none_in_named.no_typed shown g at) (searches.nothing scoped (body_of p.TARGET_NAME) none_in_named.no_scoped shown g at)
            ∙ (ap
            (λ ids. o.Name (of_name scope.TheVariants.Here (ids ++ map (type_id s) (path_tokens (numbered (suc (suc at)) (path_below (next ∷ more)))))))
            (paths s (id ∷ []) h at (ag.0, (tt, tt)))
            ∙ ap (λ ids. o.Name (of_name scope.TheVariants.Here (id ∷ ids))) (paths s (next ∷ more) j (suc (suc at)) ag.1.0.1.0));
        named = λ conv tree at ended_passes ag.
            let k = suc (suc at) + size (path_below (next ∷ more)) in
            ended_name s a (reference conv tree p.TARGET_NAME (numbered at shown)) (end_below externs r k)
            (ended_passes ∙ ap (λ ps. (ps ++ []) ++ []) (inner_ends searches externs r id next more g p.TARGET_END none_in_paths.no_ending at))
            ∙ end_read k ag.1.0.1.1;
      }

  abbrev Meant : Item → Owner → Type 0
  Meant i u = Grows (body_of i.production) i.below → MethodTarget s a externs i u r

  single_target : (id : TypeId) (b : Bool) → is_module id ≡ b → is_path_named (id ∷ []) ≡ true →
      Meant (cond b (item p.TARGET_NAME (name r.name (target_path externs [] r))) (item p.TARGET_NAME (shown_id id (target_path externs (id ∷ []) r))))
      (o.Name (of_name scope.TheVariants.Here (id ∷ [])))
  single_target id true e h g = alone_target id e g
  single_target id false e h g = one_target id h g

  here_target : (ids : List TypeId) → is_path_named ids ≡ true → Meant (target_here externs ids r) (o.Name (of_name scope.TheVariants.Here ids))
  here_target [] h g = absurd (no_length (and_parts (nat_lt 0 0) true h).0)
  here_target (id ∷ []) h g = single_target id (is_module id) refl h g
  here_target (id ∷ next ∷ more) h g =
      let all = (and_parts (nat_lt 0 (length (id ∷ next ∷ more))) (list_all is_id_named (id ∷ next ∷ more)) h).1 in
      let hs = and_parts (is_id_named id) (list_all is_id_named (next ∷ more)) all in
      inner_target id next more (path_is id [] (both (is_id_named id) true hs.0 refl)) (path_is next more hs.1) g

  name_target : (sc : scope.Scope) (ids : List TypeId) → is_name_readable externs (of_name sc ids) ≡ true → Meant (target_in externs sc ids r) (o.Name (of_name sc ids))
  name_target scope.TheVariants.Here ids h g = here_target ids (and_parts true (is_path_named ids) h).1 g
  name_target (scope.TheVariants.Extern e) ids h g = scoped_target e ids h g

  owner_named : (m : TypeName) → is_owner_readable externs (o.Name m) ≡ true → Meant (target_of externs (out-Owner (o.Name m)) r) (o.Name m)
  unfolding is_owner_readable
  owner_named m h =
      subst (λ l. Meant (target_of externs l r) (o.Name m)) (sym (o.outs-Name m))
      (name_target m.scope m.path (sym (fold-Name Bool Bool (may.owner_step externs) (may.type_step externs) m) ∙ h))

  owner_typed : (u : SigType) → is_owner_readable externs (o.Spec u) ≡ true → Meant (target_of externs (out-Owner (o.Spec u)) r) (o.Spec u)
  unfolding is_owner_readable is_type_readable
  owner_typed u h =
      subst (λ l. Meant (target_of externs l r) (o.Spec u)) (sym (o.outs-Spec u))
      (typed_target u (sym (fold-Spec Bool Bool (may.owner_step externs) (may.type_step externs) u) ∙ h))

  any_target : (u : Owner) → is_owner_readable externs u ≡ true → Meant (target_of externs (out-Owner u) r) u
  any_target = owner_cases (λ u. is_owner_readable externs u ≡ true → Meant (target_of externs (out-Owner u) r) u) owner_named owner_typed

-- ---- the whole

abbrev under_of : Shown → Shown
under_of none = none
under_of (piece.leaf l after) = none
under_of (piece.branch q under after) = under

abbrev first_below : List f.Part → f.Forest
first_below ps = f.first_or f.none (f.below_each ps)

module _ (names : NamesAreRead) (conventions : ConventionsAreRead) (args : ArgumentsAreRead) (methods : MethodNamesAreRead) (generics : GenericsAreRead) (paths : PathsAreRead) (terms : TermsAreRead) (searches : SearchesPass) (stand : ReferencesStand) (s : Source) (a : Around) (externs : List ExternAssembly) (knows : KnowsAssemblies s externs) where
  method_is : (r : MethodRef) → IsMethodReadable externs r → method_stands r ≡ true → (at : ℕ) → Agrees s at (method_ref externs r).below →
      read.method_ref s a (numbered at (method_ref externs r).below) ≡ r
  unfolding ilasm rule_by method_ref
  method_is r h st at ag =
      let grown = stand.methods externs r st in
      let shown = (method_ref externs r).below in
      let args_good = (and_parts (signature_stands r.sig) (args_stand r.args) (and_parts (owner_can_stand r.owner) (signature_stands r.sig && args_stand r.args) st).1).1 in
      let target = target_of externs (out-Owner r.owner) r in
      let after_all = put (type_of externs r.sig.ret) (put target none) in
      let type_from = at + size (under_of (convention r.sig none)) in
      let from = type_from + size (type_below externs r.sig.ret) in
      let conv = numbered at (under_of (convention r.sig none)) in
      let tree = numbered type_from (type_below externs r.sig.ret) in
      let t = any_target names methods paths terms searches s a externs knows r h.called r.owner h.owned grown.1.2.2.1 in
      let k = t.place from in
      let sk = signature_at externs r k in
      let tail_agrees = t.agrees from ag.1.1.0 in
      let owner_is = t.owner conv tree from (searches.parts typed 2 (body_of p.METHOD_REF) none_before.no_typed shown grown.1 at)
      (searches.parts scoped 2 (body_of p.METHOD_REF) none_before.no_scoped shown grown.1 at) ag.1.1.0 in
      let name_is = t.named conv tree from (searches.parts ended 2 (body_of p.METHOD_REF) none_before.no_ending shown grown.1 at) ag.1.1.0 in
      let same_signature = ap first_below
      (searches.parts (p.SIGNATURE ∷ []) 2 (body_of p.METHOD_REF) none_before.no_signature shown grown.1 at
      ∙ (t.signature from ∙ signature_in searches externs r t.grows k)) in
      let same_generics = searches.parts (p.METHOD_GENERICS ∷ []) 2 (body_of p.METHOD_REF) none_before.no_generics shown grown.1 at
      ∙ (t.generics from ∙ generics_in searches externs r t.grows k) in
      let params_are = ap (read.argument_types s a) same_signature ∙ args.types s a externs knows r.sig h.parameters sk tail_agrees.1 in
      let sentinel_is = ap read.sentinel same_signature ∙ args.sentinel externs r.sig h.inside sk in
      let number_is = ap
      (λ g. if f.has p.GEN_ARGS_BRACKET g then natural (int_at s (f.leaf_at 1 (f.the p.GEN_ARGS_BRACKET g))) else length (types_in s a g))
      (ap first_below same_generics)
      ∙ generics.number s a externs knows r.sig.generic r.args h.counted h.many h.arguments args_good k (tail_agrees.0, tt) in
      let args_are = ap
      (λ ps. if f.is_any_part ps then (if f.has p.GEN_ARGS_BRACKET (first_below ps) then None else Some (types_in s a (first_below ps))) else None)
      same_generics
      ∙ generics.arguments s a externs knows r.sig.generic r.args h.arguments args_good k (tail_agrees.0, tt) in
      let ret_is = terms.types s a externs knows r.sig.ret h.returned type_from ag.1.0 in
      let this_is = conventions.this r.sig after_all at in
      let explicit_is = conventions.explicit r.sig after_all at h.explicit in
      let vararg_is = conventions.vararg r.sig after_all at in
      λ i. record {
        owner = owner_is i;
        name = name_is i;
        sig = record { has_this = this_is i; explicit_this = explicit_is i; vararg = vararg_is i; generic = number_is i; ret = ret_is i; params = params_are i; sentinel = sentinel_is i };
        args = args_are i;
      }

pub methods_are_read : NamesAreRead → ConventionsAreRead → ArgumentsAreRead → MethodNamesAreRead → GenericsAreRead → PathsAreRead → TermsAreRead → SearchesPass → ReferencesStand → MethodsAreRead
methods_are_read names conventions args methods generics paths terms searches stand s a externs knows r h st at ag =
    method_is names conventions args methods generics paths terms searches stand s a externs knows r h st at ag
