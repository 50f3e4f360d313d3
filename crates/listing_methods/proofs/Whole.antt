-- Methods are read back.
use Rattle.std.proofs.Common.{◌≡◌, ℕ, suc, ◌+◌, ◌-◌, ◌<◌, ◌≤◌, ◌^◌, nat_eq, Bool, true, false, cond, if◌then◌else◌, List, [], ◌∷◌, ◌++◌, map, filter, length, take, Option, None, Some, refl, ap, sym, subst, ◌∙◌, append-nil, append_assoc, arith}
use Rattle.std.proofs.lemmas.Bool.{and_parts, eqb-true, leb-true}
use Rattle.std.specs.List.{list_all, flat_map}
use Rattle.ilasm_grammar.specs.Ilasm.{ilasm, rule_by, has_bit}
use Rattle.ilasm_grammar.specs.declared.nonterminals.TheConstants as n
use Rattle.ilasm_grammar.specs.declared.productions.TheConstants as p
use Rattle.ilasm_grammar.specs.declared.symbol.Symbol.TheVariants.{Nonterminal}
use Rattle.il_lexer.specs.declared.word.TheConstants as word
use Rattle.type_terms.specs.declared.reference.MethodRef.{MethodRef}
use Rattle.assembly_tree.specs.WellFormedBodies.{is_body}
use Rattle.assembly_tree.specs.WellFormedMembers.{is_method}
use Rattle.assembly_tree.specs.WellFormedNames.{option_all}
use Rattle.assembly_tree.specs.WellFormedTerms.{is_plain_ref}
use Rattle.assembly_tree.specs.declared.assembly.Assembly.{Assembly}
use Rattle.assembly_tree.specs.declared.assembly.ExternAssembly.{ExternAssembly}
use Rattle.assembly_tree.specs.declared.body.Body.{Body}
use Rattle.assembly_tree.specs.declared.members.Attribute.{Attribute}
use Rattle.assembly_tree.specs.declared.members.Generic.{Generic}
use Rattle.assembly_tree.specs.declared.members.Method.{Method}
use Rattle.assembly_tree.specs.declared.members.Param.{Param}
use Rattle.assembly_tree.proofs.FormedFacts.{methods_named, signatures_named}
use Rattle.source_model.specs.Bodies as bodies
use Rattle.source_model.specs.Clauses.{clause_forms, guarded_in}
use Rattle.source_model.specs.Forest as f
use Rattle.source_model.specs.Instructions.{instruction_forms}
use Rattle.source_model.specs.Items.{plain_items, items_and_ends, is_custom, runs, own_customs}
use Rattle.source_model.specs.Manifests.{attributes}
use Rattle.source_model.specs.Members as read
use Rattle.source_model.specs.Nodes.{Around}
use Rattle.source_model.specs.Operands.{instruction}
use Rattle.source_model.specs.Parameters.{is_typar_line, generics as read_generics, params as read_params}
use Rattle.source_model.specs.Shapes.{natural}
use Rattle.source_model.specs.Source.{Source}
use Rattle.source_model.specs.Values.{integer}
use Rattle.listing_bodies.specs.Laws.{guarded_at, IsBodyOf, LacksIn, PassesClauses, LinesLack, BodiesAreRead}
use Rattle.listing_constants.specs.Laws.{AttributesAreRead, ConstantsAreRead}
use Rattle.listing_flags.specs.Laws.{FlagsAreRead}
use Rattle.listing_formed.specs.Laws.{Knows, FormedAreRead}
use Rattle.listing_growth.specs.Held.{are_attributes_held, is_generic_held, is_param_held, is_method_ref_held, is_body_held, is_method_held}
use Rattle.listing_heads.specs.Laws.{typars_place, args_place, HeadsAreRead}
use Rattle.listing_members.specs.Laws.{IsTyparHead, typar_runs, TyparLinesAreRead, GenericsAreRead}
use Rattle.listing_model.specs.Grown.{body_of, Grows}
use Rattle.listing_model.specs.Members.{number_in_brackets, typar_line, typar_lines}
use Rattle.listing_model.specs.Methods as written
use Rattle.listing_model.specs.References.{method_ref}
use Rattle.listing_model.specs.Shown.{Shown, none, Item, item, put, line, size, star_production, star_below}
use Rattle.listing_model.specs.Values.{custom, customs, constant_opt}
use Rattle.listing_reading.specs.Below.{below, cant_stand}
use Rattle.listing_reading.specs.BelowMasks.{below_masks}
use Rattle.listing_reading.specs.Laws.{SearchesPass, RunsAreRead}
use Rattle.listing_reading.specs.Numbered.{numbered, Agrees, rest, place}
use Rattle.listing_reading.specs.Rows.{AreAmong, parts_at, IsEndOfRun}
use Rattle.listing_rows.specs.Laws.{SegmentsAreRead, PiecesAreRead, OptionsAreRead, WalksPass, RunsAreFiltered, item_parts, runs_of, NonePass, AllOwned}
use Rattle.listing_rows.specs.Segments.{end_of, ItemsAgree, pieces_at, EachGrown, EachLacks}
use Rattle.listing_values.specs.Laws.{NamesAreRead, NumbersAreRead}
use Rattle.listing_methods.specs.Laws.{is_short_code, MethodsAreRead}
use Rattle.listing_methods.proofs.Items.{ends_of, ends_at, row_ends, ends_joined, plain_ends, is_param, Idle, idle_both, idle_typars, idle_params, idle_ends, idle_owned, idle_override, idle_entry, line_idle, body_idle}
use Rattle.listing_methods.proofs.Params.{param_run, param_runs, rows_are, rising}

-- ---- what can't stand in the items before the body

pub record FrontLacks (sought : List ℕ) : Type 0 where
  pub head : cant_stand sought (take 11 (body_of p.METHOD)) ≡ true
  pub custom : LacksIn sought p.ITEM_CUSTOM
  pub param : LacksIn sought p.ITEM_PARAM
  pub override : LacksIn sought p.ITEM_OVERRIDE
  pub entry : LacksIn sought p.ITEM_ENTRYPOINT
  pub more : f.is_among sought p.ITEM_STAR_MORE ≡ false
  pub end : f.is_among sought p.ITEM_STAR_END ≡ false

no_code_before : FrontLacks instruction_forms
unfolding ilasm rule_by has_bit below below_masks
no_code_before = record { head = refl; custom = record { own = refl; inside = refl }; param = record { own = refl; inside = refl }; override = record { own = refl; inside = refl }; entry = record { own = refl; inside = refl }; more = refl; end = refl }

no_labels_before : FrontLacks (p.ITEM_NAME ∷ [])
unfolding ilasm rule_by has_bit below below_masks
no_labels_before = record { head = refl; custom = record { own = refl; inside = refl }; param = record { own = refl; inside = refl }; override = record { own = refl; inside = refl }; entry = record { own = refl; inside = refl }; more = refl; end = refl }

no_locals_before : FrontLacks (p.LOCAL ∷ [])
unfolding ilasm rule_by has_bit below below_masks
no_locals_before = record { head = refl; custom = record { own = refl; inside = refl }; param = record { own = refl; inside = refl }; override = record { own = refl; inside = refl }; entry = record { own = refl; inside = refl }; more = refl; end = refl }

no_init_before : FrontLacks (p.INIT_OPT_SOME ∷ [])
unfolding ilasm rule_by has_bit below below_masks
no_init_before = record { head = refl; custom = record { own = refl; inside = refl }; param = record { own = refl; inside = refl }; override = record { own = refl; inside = refl }; entry = record { own = refl; inside = refl }; more = refl; end = refl }

no_bound_before : FrontLacks (p.ITEM_MAXSTACK ∷ [])
unfolding ilasm rule_by has_bit below below_masks
no_bound_before = record { head = refl; custom = record { own = refl; inside = refl }; param = record { own = refl; inside = refl }; override = record { own = refl; inside = refl }; entry = record { own = refl; inside = refl }; more = refl; end = refl }

no_clauses_before : FrontLacks clause_forms
unfolding ilasm rule_by has_bit below below_masks
no_clauses_before = record { head = refl; custom = record { own = refl; inside = refl }; param = record { own = refl; inside = refl }; override = record { own = refl; inside = refl }; entry = record { own = refl; inside = refl }; more = refl; end = refl }

-- overrides, and the entry point
abbrev override_parts : List ℕ
override_parts = p.OVERRIDDEN_METHOD ∷ p.OVERRIDDEN_SPEC ∷ []

pub record Apart (sought : List ℕ) : Type 0 where
  pub head : cant_stand sought (take 11 (body_of p.METHOD)) ≡ true
  pub custom : LacksIn sought p.ITEM_CUSTOM
  pub param : LacksIn sought p.ITEM_PARAM
  pub bound : LacksIn sought p.ITEM_MAXSTACK
  pub locals : LacksIn sought p.ITEM_LOCALS
  pub label : LacksIn sought p.ITEM_NAME
  pub code : LacksIn sought p.ITEM_INSTRUCTION
  pub clauses : PassesClauses sought
  pub try : f.is_among sought p.ITEM_TRY ≡ false
  pub more : f.is_among sought p.ITEM_STAR_MORE ≡ false
  pub end : f.is_among sought p.ITEM_STAR_END ≡ false

overrides_apart : Apart (p.OVERRIDDEN_METHOD ∷ p.OVERRIDDEN_SPEC ∷ [])
unfolding ilasm rule_by has_bit below below_masks
overrides_apart = record {
  head = refl;
  custom = record { own = refl; inside = refl };
  param = record { own = refl; inside = refl };
  bound = record { own = refl; inside = refl };
  locals = record { own = refl; inside = refl };
  label = record { own = refl; inside = refl };
  code = record { own = refl; inside = refl };
  clauses = record { range = refl; catch = refl; filter = refl; finally = refl; fault = refl; filter_start = refl; handler = refl; end = refl; owners = refl };
  try = refl;
  more = refl;
  end = refl;
}

entry_apart : Apart (p.ITEM_ENTRYPOINT ∷ [])
unfolding ilasm rule_by has_bit below below_masks
entry_apart = record {
  head = refl;
  custom = record { own = refl; inside = refl };
  param = record { own = refl; inside = refl };
  bound = record { own = refl; inside = refl };
  locals = record { own = refl; inside = refl };
  label = record { own = refl; inside = refl };
  code = record { own = refl; inside = refl };
  clauses = record { range = refl; catch = refl; filter = refl; finally = refl; fault = refl; filter_start = refl; handler = refl; end = refl; owners = refl };
  try = refl;
  more = refl;
  end = refl;
}

no_override_in_entry : LacksIn (p.OVERRIDDEN_METHOD ∷ p.OVERRIDDEN_SPEC ∷ []) p.ITEM_ENTRYPOINT
unfolding ilasm rule_by has_bit below below_masks
no_override_in_entry = record { own = refl; inside = refl }

no_entry_in_override : LacksIn (p.ITEM_ENTRYPOINT ∷ []) p.ITEM_OVERRIDE
unfolding ilasm rule_by has_bit below below_masks
no_entry_in_override = record { own = refl; inside = refl }

-- `.param [n]` stands in no attribute
no_param_in_custom : LacksIn (p.PARAM_OF_BRACKET ∷ []) p.ITEM_CUSTOM
unfolding ilasm rule_by has_bit below below_masks
no_param_in_custom = record { own = refl; inside = refl }

no_typar_in_param : cant_stand (p.PARAM_OF_TYPE ∷ []) (body_of p.PARAM_OF_BRACKET) ≡ true
unfolding ilasm rule_by has_bit below below_masks
no_typar_in_param = refl

items_head : cant_stand item_parts (take 11 (body_of p.METHOD)) ≡ true
unfolding ilasm rule_by has_bit below below_masks
items_head = refl

-- ---- lines that lack what is sought

module _ (externs : List ExternAssembly) (sought : List ℕ) where
  customs_lack : LacksIn sought p.ITEM_CUSTOM → (xs : List Attribute) → EachLacks sought (customs externs p.ITEM_CUSTOM xs)
  customs_lack l [] = tt
  customs_lack l (x ∷ xs) = (l.own, l.inside, customs_lack l xs)

  typar_by : LacksIn sought p.ITEM_CUSTOM → LacksIn sought p.ITEM_PARAM → (c : Bool) (k : ℕ) (x : Generic) →
      EachLacks sought (cond c [] (written.typar_item k ∷ customs externs p.ITEM_CUSTOM x.attributes))
  typar_by l q true k x = tt
  typar_by l q false k x = (q.own, q.inside, customs_lack l x.attributes)

  row_by : LacksIn sought p.ITEM_CUSTOM → LacksIn sought p.ITEM_PARAM → (c : Bool) (r : Param) →
      EachLacks sought (cond c (written.param_line r ∷ customs externs p.ITEM_CUSTOM r.attributes) [])
  row_by l q true r = (q.own, q.inside, customs_lack l r.attributes)
  row_by l q false r = tt

  module _ (pieces : PiecesAreRead) where
    typars_lack : LacksIn sought p.ITEM_CUSTOM → LacksIn sought p.ITEM_PARAM → (k : ℕ) (gs : List Generic) → EachLacks sought (typar_lines externs written.typar_item p.ITEM_CUSTOM k gs)
    typars_lack l q k [] = tt
    typars_lack l q k (x ∷ gs) =
        pieces.lack sought (typar_line externs written.typar_item p.ITEM_CUSTOM k x) (typar_lines externs written.typar_item p.ITEM_CUSTOM (suc k) gs)
        (typar_by l q (nat_eq (length x.attributes) 0) k x) (typars_lack l q (suc k) gs)

    rows_lack : LacksIn sought p.ITEM_CUSTOM → LacksIn sought p.ITEM_PARAM → (rs : List Param) → EachLacks sought (flat_map (written.row_lines externs) rs)
    rows_lack l q [] = tt
    rows_lack l q (r ∷ rs) =
        pieces.lack sought (written.row_lines externs r) (flat_map (written.row_lines externs) rs) (row_by l q (written.wants_line r) r) (rows_lack l q rs)

  overrides_lack : LacksIn sought p.ITEM_OVERRIDE → (rs : List MethodRef) → EachLacks sought (map (written.override externs) rs)
  overrides_lack l [] = tt
  overrides_lack l (r ∷ rs) = (l.own, l.inside, overrides_lack l rs)

  entry_lacks : LacksIn sought p.ITEM_ENTRYPOINT → (b : Bool) → EachLacks sought (written.entrypoint externs b)
  entry_lacks l true = (l.own, l.inside, tt)
  entry_lacks l false = tt

-- ---- they are plain items

module _ (externs : List ExternAssembly) (segments : SegmentsAreRead) where
  customs_plain : (xs : List Attribute) → AreAmong plain_items (customs externs p.ITEM_CUSTOM xs)
  customs_plain [] = tt
  customs_plain (x ∷ xs) = (refl, customs_plain xs)

  typar_plain : (c : Bool) (k : ℕ) (x : Generic) → AreAmong plain_items (cond c [] (written.typar_item k ∷ customs externs p.ITEM_CUSTOM x.attributes))
  typar_plain true k x = tt
  typar_plain false k x = (refl, customs_plain x.attributes)

  typars_plain : (k : ℕ) (gs : List Generic) → AreAmong plain_items (typar_lines externs written.typar_item p.ITEM_CUSTOM k gs)
  typars_plain k [] = tt
  typars_plain k (x ∷ gs) =
      segments.among plain_items (typar_line externs written.typar_item p.ITEM_CUSTOM k x) (typar_lines externs written.typar_item p.ITEM_CUSTOM (suc k) gs)
      (typar_plain (nat_eq (length x.attributes) 0) k x) (typars_plain (suc k) gs)

  row_plain : (c : Bool) (r : Param) → AreAmong plain_items (cond c (written.param_line r ∷ customs externs p.ITEM_CUSTOM r.attributes) [])
  row_plain true r = (refl, customs_plain r.attributes)
  row_plain false r = tt

  rows_plain : (rs : List Param) → AreAmong plain_items (flat_map (written.row_lines externs) rs)
  rows_plain [] = tt
  rows_plain (r ∷ rs) =
      segments.among plain_items (written.row_lines externs r) (flat_map (written.row_lines externs) rs) (row_plain (written.wants_line r) r) (rows_plain rs)

-- ---- lines of generic parameters

typar_head : NumbersAreRead → IsTyparHead written.typar_item p.ITEM_CUSTOM
typar_head numbers_read = record {
  is_line = λ k at. refl;
  plain = λ k at. refl;
  begins = λ k at. refl;
  custom = λ g. refl;
  no_line = λ g. refl;
  number = λ s names k at small ag. ap (λ z. natural z - 1) (ap (λ t. integer t) ag.1.0.1.0.1.0.text ∙ numbers_read.natural k small);
}

-- ---- the method

module _ (searches : SearchesPass) (filtered : RunsAreFiltered) (pieces : PiecesAreRead) (segments : SegmentsAreRead) (externs : List ExternAssembly) where
  abbrev row_items : Bool → Param → List Item
  row_items c r = cond c (written.param_line r ∷ customs externs p.ITEM_CUSTOM r.attributes) []

  abbrev param_parts : ℕ → Param → List f.Part
  param_parts at r = parts_at (at + size (written.param_line r).below) (customs externs p.ITEM_CUSTOM r.attributes)

  customs_are : (xs : List Attribute) (at : ℕ) → list_all is_custom (parts_at at (customs externs p.ITEM_CUSTOM xs)) ≡ true
  customs_are [] at = refl
  customs_are (x ∷ xs) at = customs_are xs (at + size (put (custom externs x) none))

  customs_no_typar : (xs : List Attribute) (at : ℕ) → NonePass is_typar_line (parts_at at (customs externs p.ITEM_CUSTOM xs))
  customs_no_typar [] at = tt
  customs_no_typar (x ∷ xs) at = (refl, customs_no_typar xs (at + size (put (custom externs x) none)))

  customs_no_param : (xs : List Attribute) → EachGrown n.ITEM (customs externs p.ITEM_CUSTOM xs) → (at : ℕ) → NonePass is_param (parts_at at (customs externs p.ITEM_CUSTOM xs))
  customs_no_param [] g at = tt
  customs_no_param (x ∷ xs) g at = (
    ap f.is_any_part (searches.nothing (p.PARAM_OF_BRACKET ∷ []) (body_of p.ITEM_CUSTOM) no_param_in_custom.inside (put (custom externs x) none) g.1 at),
    customs_no_param xs g.2 (at + size (put (custom externs x) none)),
  )

  none_both : (test : f.Part → Bool) (ps qs : List f.Part) → NonePass test ps → NonePass test qs → NonePass test (ps ++ qs)
  none_both test [] qs h k = k
  none_both test (x ∷ ps) qs h k = (h.0, none_both test ps qs h.1 k)

  -- lines of generic parameters speak of no parameter
  typar_no_param : (c : Bool) (k : ℕ) (x : Generic) → EachGrown n.ITEM (cond c [] (written.typar_item k ∷ customs externs p.ITEM_CUSTOM x.attributes)) → (at : ℕ) →
      NonePass is_param (parts_at at (cond c [] (written.typar_item k ∷ customs externs p.ITEM_CUSTOM x.attributes)))
  typar_no_param true k x g at = tt
  typar_no_param false k x g at = (refl, customs_no_param x.attributes g.2 (at + size (written.typar_item k).below))

  typars_no_param : (k : ℕ) (gs : List Generic) → EachGrown n.ITEM (typar_lines externs written.typar_item p.ITEM_CUSTOM k gs) → (at : ℕ) →
      NonePass is_param (parts_at at (typar_lines externs written.typar_item p.ITEM_CUSTOM k gs))
  typars_no_param k [] g at = tt
  typars_no_param k (x ∷ gs) g at =
      let own = typar_line externs written.typar_item p.ITEM_CUSTOM k x in
      let more = typar_lines externs written.typar_item p.ITEM_CUSTOM (suc k) gs in
      let both = pieces.each n.ITEM own more g in
      subst (NonePass is_param) (sym (segments.parts at own more))
      (none_both is_param (parts_at at own) (parts_at (end_of at own) more) (typar_no_param (nat_eq (length x.attributes) 0) k x both.0 at) (typars_no_param (suc k) gs both.1 (end_of at own)))

  -- ---- lines of parameters

  no_typar_line : (r : Param) → Grows (body_of p.ITEM_PARAM) (written.param_line r).below → (at : ℕ) → is_typar_line (f.part p.ITEM_PARAM (numbered at (written.param_line r).below)) ≡ false
  unfolding ilasm rule_by
  no_typar_line r g at =
      ap (λ ps. f.is_any_part (ps ++ [])) (searches.nothing (p.PARAM_OF_TYPE ∷ []) (body_of p.PARAM_OF_BRACKET) no_typar_in_param (number_in_brackets r.number (written.line_flags r (constant_opt r.constant none))) g.1.1 (suc at))

  row_no_typar : (c : Bool) (r : Param) → EachGrown n.ITEM (row_items c r) → (at : ℕ) → NonePass is_typar_line (parts_at at (row_items c r))
  row_no_typar true r g at = (no_typar_line r g.1 at, customs_no_typar r.attributes (at + size (written.param_line r).below))
  row_no_typar false r g at = tt

  rows_no_typar : (rs : List Param) → EachGrown n.ITEM (flat_map (written.row_lines externs) rs) → (at : ℕ) → NonePass is_typar_line (parts_at at (flat_map (written.row_lines externs) rs))
  rows_no_typar [] g at = tt
  rows_no_typar (r ∷ rs) g at =
      let own = written.row_lines externs r in
      let more = flat_map (written.row_lines externs) rs in
      let both = pieces.each n.ITEM own more g in
      subst (NonePass is_typar_line) (sym (segments.parts at own more))
      (none_both is_typar_line (parts_at at own) (parts_at (end_of at own) more) (row_no_typar (written.wants_line r) r both.0 at) (rows_no_typar rs both.1 (end_of at own)))

  row_ends_run : (c : Bool) (r : Param) (at : ℕ) (after : List f.Part) → IsEndOfRun after → IsEndOfRun (parts_at at (row_items c r) ++ after)
  row_ends_run true r at after h = refl
  row_ends_run false r at after h = h

  parts_are : (r : Param) (rs : List Param) (at : ℕ) (after : List f.Part) →
      parts_at at (written.row_lines externs r ++ flat_map (written.row_lines externs) rs) ++ after
      ≡ parts_at at (written.row_lines externs r) ++ (parts_at (end_of at (written.row_lines externs r)) (flat_map (written.row_lines externs) rs) ++ after)
  parts_are r rs at after =
      let own = written.row_lines externs r in
      let more = flat_map (written.row_lines externs) rs in
      ap (λ ps. ps ++ after) (segments.parts at own more) ∙ append_assoc (parts_at at own) (parts_at (end_of at own) more) after

  rows_end : (rs : List Param) (at : ℕ) (after : List f.Part) → IsEndOfRun after → IsEndOfRun (parts_at at (flat_map (written.row_lines externs) rs) ++ after)
  rows_end [] at after h = h
  rows_end (r ∷ rs) at after h =
      subst IsEndOfRun (sym (parts_are r rs at after)) (row_ends_run (written.wants_line r) r at (parts_at (end_of at (written.row_lines externs r)) (flat_map (written.row_lines externs) rs) ++ after) (rows_end rs (end_of at (written.row_lines externs r)) after h))

  row_run : (c : Bool) (r : Param) → EachGrown n.ITEM (row_items c r) → (at : ℕ) (after : List f.Part) → IsEndOfRun after →
      runs_of is_param (parts_at at (row_items c r) ++ after)
      ≡ cond c (record { head = f.part p.ITEM_PARAM (numbered at (written.param_line r).below); customs = param_parts at r } ∷ []) [] ++ runs_of is_param after
  row_run true r g at after h =
      filtered.run is_param (f.part p.ITEM_PARAM (numbered at (written.param_line r).below)) (param_parts at r) after refl
      (customs_are r.attributes (at + size (written.param_line r).below)) (customs_no_param r.attributes g.2 (at + size (written.param_line r).below)) h
  row_run false r g at after h = refl

  rows_run : (rs : List Param) → EachGrown n.ITEM (flat_map (written.row_lines externs) rs) → (at : ℕ) (after : List f.Part) → IsEndOfRun after →
      runs_of is_param (parts_at at (flat_map (written.row_lines externs) rs) ++ after) ≡ param_runs externs at rs ++ runs_of is_param after
  rows_run [] g at after h = refl
  rows_run (r ∷ rs) g at after h =
      let own = written.row_lines externs r in
      let more = flat_map (written.row_lines externs) rs in
      let both = pieces.each n.ITEM own more g in
      let next = end_of at own in
      ap (runs_of is_param) (parts_are r rs at after)
      ∙ (row_run (written.wants_line r) r both.0 at (parts_at next more ++ after) (rows_end rs next after h)
      ∙ (ap (λ xs. param_run externs at r ++ xs) (rows_run rs both.1 next after h)
      ∙ sym (append_assoc (param_run externs at r) (param_runs externs next rs) (runs_of is_param after))))

  row_owned : (c : Bool) (r : Param) (at : ℕ) (after : List f.Part) → AllOwned after → AllOwned (parts_at at (row_items c r) ++ after)
  row_owned true r at after h =
      filtered.owned (f.part p.ITEM_PARAM (numbered at (written.param_line r).below)) (param_parts at r) after refl refl (customs_are r.attributes (at + size (written.param_line r).below)) h
  row_owned false r at after h = h

  rows_owned : (rs : List Param) (at : ℕ) (after : List f.Part) → AllOwned after → AllOwned (parts_at at (flat_map (written.row_lines externs) rs) ++ after)
  rows_owned [] at after h = h
  rows_owned (r ∷ rs) at after h =
      subst AllOwned (sym (parts_are r rs at after)) (row_owned (written.wants_line r) r at (parts_at (end_of at (written.row_lines externs r)) (flat_map (written.row_lines externs) rs) ++ after) (rows_owned rs (end_of at (written.row_lines externs r)) after h))

module _ (names : NamesAreRead) (numbers_read : NumbersAreRead) (flag_laws : FlagsAreRead) (constants : ConstantsAreRead) (attribute_laws : AttributesAreRead) (formed : FormedAreRead) (heads : HeadsAreRead) (typar_laws : TyparLinesAreRead) (generic_laws : GenericsAreRead) (lack : LinesLack) (bodies_read : BodiesAreRead) (searches : SearchesPass) (runs_read : RunsAreRead) (filtered : RunsAreFiltered) (options : OptionsAreRead) (segments : SegmentsAreRead) (pieces : PiecesAreRead) (walks : WalksPass)
    (s : Source) (outer : Around) (a : Assembly) (knows : Knows s a) (m : Method) (wf : is_method a m ≡ true) (held : is_method_held m ≡ true) (short : is_short_code m.body)
    (grown : Grows (body_of p.METHOD) (written.method a.externs m).below) (at : ℕ) (ag : Agrees s at (written.method a.externs m).below) where
  abbrev shown : Shown
  shown = (written.method a.externs m).below

  abbrev g : f.Forest
  g = numbered at shown

  abbrev around : Around
  around = read.in_method outer g

  abbrev c_items : List Item
  c_items = customs a.externs p.ITEM_CUSTOM m.attributes

  abbrev t_items : List Item
  t_items = typar_lines a.externs written.typar_item p.ITEM_CUSTOM 1 m.generics

  abbrev r_items : List Item
  r_items = flat_map (written.row_lines a.externs) m.params

  abbrev o_items : List Item
  o_items = map (written.override a.externs) m.overrides

  abbrev e_items : List Item
  e_items = written.entrypoint a.externs m.entry

  abbrev b_items : List Item
  b_items = written.body_opt a.externs m.body

  abbrev items_at : ℕ
  items_at = place 11 at shown

  abbrev t_at : ℕ
  t_at = end_of items_at c_items

  abbrev r_at : ℕ
  r_at = end_of t_at t_items

  abbrev o_at : ℕ
  o_at = end_of r_at r_items

  abbrev e_at : ℕ
  e_at = end_of o_at o_items

  abbrev b_at : ℕ
  b_at = end_of e_at e_items

  abbrev all_items : List Item
  all_items = c_items ++ (t_items ++ (r_items ++ (o_items ++ (e_items ++ b_items))))

  pub record Grew : Type 0 where
    pub c : EachGrown n.ITEM c_items
    pub t : EachGrown n.ITEM t_items
    pub r : EachGrown n.ITEM r_items
    pub o : EachGrown n.ITEM o_items
    pub e : EachGrown n.ITEM e_items
    pub b : EachGrown n.ITEM b_items

  item_row : body_of p.ITEM_STAR_MORE ≡ Nonterminal n.ITEM ∷ Nonterminal n.ITEM_STAR ∷ []
  unfolding ilasm rule_by
  item_row = refl

  grew : Grew
  unfolding ilasm rule_by written.method
  grew =
      let all = pieces.grown n.ITEM n.ITEM_STAR p.ITEM_STAR_MORE p.ITEM_STAR_END item_row all_items (searches.rest 11 (body_of p.METHOD) shown grown).1 in
      let one = pieces.each n.ITEM c_items (t_items ++ (r_items ++ (o_items ++ (e_items ++ b_items)))) all in
      let two = pieces.each n.ITEM t_items (r_items ++ (o_items ++ (e_items ++ b_items))) one.1 in
      let three = pieces.each n.ITEM r_items (o_items ++ (e_items ++ b_items)) two.1 in
      let four = pieces.each n.ITEM o_items (e_items ++ b_items) three.1 in
      let five = pieces.each n.ITEM e_items b_items four.1 in
      record { c = one.0; t = two.0; r = three.0; o = four.0; e = five.0; b = five.1 }

  pub record Agreed : Type 0 where
    pub c : ItemsAgree s items_at c_items
    pub t : ItemsAgree s t_at t_items
    pub r : ItemsAgree s r_at r_items
    pub o : ItemsAgree s o_at o_items
    pub b : ItemsAgree s b_at b_items

  agreed : Agreed
  unfolding written.method
  agreed =
      let all = segments.row s p.ITEM_STAR_MORE p.ITEM_STAR_END all_items items_at ag.1.1.1.1.1.1.1.1.1.1.1.0 in
      let one = segments.agree s items_at c_items (t_items ++ (r_items ++ (o_items ++ (e_items ++ b_items)))) all in
      let two = segments.agree s t_at t_items (r_items ++ (o_items ++ (e_items ++ b_items))) one.1 in
      let three = segments.agree s r_at r_items (o_items ++ (e_items ++ b_items)) two.1 in
      let four = segments.agree s o_at o_items (e_items ++ b_items) three.1 in
      let five = segments.agree s e_at e_items b_items four.1 in
      record { c = one.0; t = two.0; r = three.0; o = four.0; b = five.1 }

  -- what is sought in the method is sought in its items
  in_items : (sought : List ℕ) → cant_stand sought (take 11 (body_of p.METHOD)) ≡ true → f.is_among sought p.ITEM_STAR_MORE ≡ false → f.is_among sought p.ITEM_STAR_END ≡ false →
      f.parts sought g
      ≡ pieces_at sought items_at c_items ++ (pieces_at sought t_at t_items ++ (pieces_at sought r_at r_items ++ (pieces_at sought o_at o_items ++ (pieces_at sought e_at e_items ++ pieces_at sought b_at b_items))))
  unfolding ilasm rule_by written.method
  in_items sought head more end =
      searches.parts sought 11 (body_of p.METHOD) head shown grown at
      ∙ (pieces.row sought p.ITEM_STAR_MORE p.ITEM_STAR_END more end all_items items_at (f.leaf (place 12 at shown) f.none)
      ∙ (append-nil (pieces_at sought items_at all_items)
      ∙ (pieces.joined sought items_at c_items (t_items ++ (r_items ++ (o_items ++ (e_items ++ b_items))))
      ∙ ap (λ ps. pieces_at sought items_at c_items ++ ps)
      (pieces.joined sought t_at t_items (r_items ++ (o_items ++ (e_items ++ b_items)))
      ∙ ap (λ ps. pieces_at sought t_at t_items ++ ps)
      (pieces.joined sought r_at r_items (o_items ++ (e_items ++ b_items))
      ∙ ap (λ ps. pieces_at sought r_at r_items ++ ps)
      (pieces.joined sought o_at o_items (e_items ++ b_items) ∙ ap (λ ps. pieces_at sought o_at o_items ++ ps) (pieces.joined sought e_at e_items b_items)))))))

  c_none : (sought : List ℕ) → LacksIn sought p.ITEM_CUSTOM → pieces_at sought items_at c_items ≡ []
  c_none sought l = pieces.none sought n.ITEM items_at c_items grew.c (customs_lack a.externs sought l m.attributes)

  t_none : (sought : List ℕ) → LacksIn sought p.ITEM_CUSTOM → LacksIn sought p.ITEM_PARAM → pieces_at sought t_at t_items ≡ []
  t_none sought l q = pieces.none sought n.ITEM t_at t_items grew.t (typars_lack a.externs sought pieces l q 1 m.generics)

  r_none : (sought : List ℕ) → LacksIn sought p.ITEM_CUSTOM → LacksIn sought p.ITEM_PARAM → pieces_at sought r_at r_items ≡ []
  r_none sought l q = pieces.none sought n.ITEM r_at r_items grew.r (rows_lack a.externs sought pieces l q m.params)

  o_none : (sought : List ℕ) → LacksIn sought p.ITEM_OVERRIDE → pieces_at sought o_at o_items ≡ []
  o_none sought l = pieces.none sought n.ITEM o_at o_items grew.o (overrides_lack a.externs sought l m.overrides)

  e_none : (sought : List ℕ) → LacksIn sought p.ITEM_ENTRYPOINT → pieces_at sought e_at e_items ≡ []
  e_none sought l = pieces.none sought n.ITEM e_at e_items grew.e (entry_lacks a.externs sought l m.entry)

  b_none : (sought : List ℕ) → Apart sought → pieces_at sought b_at b_items ≡ []
  b_none sought h = by m.body grew.b
    where
      by : (o : Option Body) → EachGrown n.ITEM (written.body_opt a.externs o) → pieces_at sought b_at (written.body_opt a.externs o) ≡ []
      by None q = refl
      by (Some x) q = lack.body a x sought h.clauses h.try h.bound h.locals h.label h.code q b_at

  only_body : (sought : List ℕ) → FrontLacks sought → f.parts sought g ≡ pieces_at sought b_at b_items
  only_body sought l =
      let body = pieces_at sought b_at b_items in
      in_items sought l.head l.more l.end
      ∙ (ap (λ ps. ps ++ (pieces_at sought t_at t_items ++ (pieces_at sought r_at r_items ++ (pieces_at sought o_at o_items ++ (pieces_at sought e_at e_items ++ body))))) (c_none sought l.custom)
      ∙ (ap (λ ps. ps ++ (pieces_at sought r_at r_items ++ (pieces_at sought o_at o_items ++ (pieces_at sought e_at e_items ++ body)))) (t_none sought l.custom l.param)
      ∙ (ap (λ ps. ps ++ (pieces_at sought o_at o_items ++ (pieces_at sought e_at e_items ++ body))) (r_none sought l.custom l.param)
      ∙ (ap (λ ps. ps ++ (pieces_at sought e_at e_items ++ body)) (o_none sought l.override) ∙ ap (λ ps. ps ++ body) (e_none sought l.entry)))))

  -- ---- overrides, and the entry point

  overrides_read : (rs : List MethodRef) → list_all (is_plain_ref a) rs ≡ true → list_all is_method_ref_held rs ≡ true → (k : ℕ) → ItemsAgree s k (map (written.override a.externs) rs) →
      map (read.overridden s around g) (pieces_at override_parts k (map (written.override a.externs) rs)) ≡ rs
  unfolding is_plain_ref method_ref
  overrides_read [] q h k i = refl
  overrides_read (r ∷ rs) q h k i =
      let qs = and_parts (is_plain_ref a r) (list_all (is_plain_ref a) rs) q in
      let hs = and_parts (is_method_ref_held r) (list_all is_method_ref_held rs) h in
      let next = k + size (written.override a.externs r).below in
      ap (λ x. x ∷ map (read.overridden s around g) (pieces_at override_parts next (map (written.override a.externs) rs)))
      (formed.methods s around a knows r (and_parts _ _ qs.0).1 hs.0 (suc (suc k)) i.0.1.0.1.0)
      ∙ ap (λ xs. r ∷ xs) (overrides_read rs qs.1 hs.1 next i.1)

  overrides_alone : f.parts override_parts g ≡ pieces_at override_parts o_at o_items
  overrides_alone =
      let sought = override_parts in
      let own = pieces_at sought o_at o_items in
      in_items sought overrides_apart.head overrides_apart.more overrides_apart.end
      ∙ (ap (λ ps. ps ++ (pieces_at sought t_at t_items ++ (pieces_at sought r_at r_items ++ (own ++ (pieces_at sought e_at e_items ++ pieces_at sought b_at b_items))))) (c_none sought overrides_apart.custom)
      ∙ (ap (λ ps. ps ++ (pieces_at sought r_at r_items ++ (own ++ (pieces_at sought e_at e_items ++ pieces_at sought b_at b_items)))) (t_none sought overrides_apart.custom overrides_apart.param)
      ∙ (ap (λ ps. ps ++ (own ++ (pieces_at sought e_at e_items ++ pieces_at sought b_at b_items))) (r_none sought overrides_apart.custom overrides_apart.param)
      ∙ (ap (λ ps. own ++ (ps ++ pieces_at sought b_at b_items)) (e_none sought no_override_in_entry) ∙ (ap (λ ps. own ++ ps) (b_none sought overrides_apart) ∙ append-nil own)))))

  entry_by : (c : Bool) (k : ℕ) → f.is_any_part (pieces_at (p.ITEM_ENTRYPOINT ∷ []) k (written.entrypoint a.externs c)) ≡ c
  entry_by true k = refl
  entry_by false k = refl

  entry_alone : f.parts (p.ITEM_ENTRYPOINT ∷ []) g ≡ pieces_at (p.ITEM_ENTRYPOINT ∷ []) e_at e_items
  entry_alone =
      let sought = p.ITEM_ENTRYPOINT ∷ [] in
      let own = pieces_at sought e_at e_items in
      in_items sought entry_apart.head entry_apart.more entry_apart.end
      ∙ (ap (λ ps. ps ++ (pieces_at sought t_at t_items ++ (pieces_at sought r_at r_items ++ (pieces_at sought o_at o_items ++ (own ++ pieces_at sought b_at b_items))))) (c_none sought entry_apart.custom)
      ∙ (ap (λ ps. ps ++ (pieces_at sought r_at r_items ++ (pieces_at sought o_at o_items ++ (own ++ pieces_at sought b_at b_items)))) (t_none sought entry_apart.custom entry_apart.param)
      ∙ (ap (λ ps. ps ++ (pieces_at sought o_at o_items ++ (own ++ pieces_at sought b_at b_items))) (r_none sought entry_apart.custom entry_apart.param)
      ∙ (ap (λ ps. ps ++ (own ++ pieces_at sought b_at b_items)) (o_none sought no_entry_in_override) ∙ (ap (λ ps. own ++ ps) (b_none sought entry_apart) ∙ append-nil own)))))

  -- ---- the body

  guarded_row : (items : List Item) (k : ℕ) (after : f.Forest) →
      guarded_in f.none (f.branch (star_production p.ITEM_STAR_MORE p.ITEM_STAR_END items) (numbered k (star_below p.ITEM_STAR_MORE p.ITEM_STAR_END items)) after) ≡ guarded_at k items ++ guarded_in f.none after
  guarded_row [] k after = refl
  guarded_row (i ∷ is) k after =
      let next = k + size i.below in
      let b = numbered k i.below in
      let own = guarded_in (if nat_eq i.production p.ITEM_TRY then b else f.none) b ++ (if f.is_among clause_forms i.production then record { tried = f.none; clause = f.part i.production b } ∷ [] else []) in
      let row = f.branch (star_production p.ITEM_STAR_MORE p.ITEM_STAR_END is) (numbered next (star_below p.ITEM_STAR_MORE p.ITEM_STAR_END is)) f.none in
      ap (λ gs. ((gs ++ guarded_in f.none row) ++ []) ++ guarded_in f.none after) (sym (append-nil own))
      ∙ (ap (λ gs. (((own ++ []) ++ gs) ++ []) ++ guarded_in f.none after) (guarded_row is next f.none ∙ append-nil (guarded_at next is))
      ∙ ap (λ gs. gs ++ guarded_in f.none after) (append-nil ((own ++ []) ++ guarded_at next is)))

  guarded_joined : (k : ℕ) (xs ys : List Item) → guarded_at k (xs ++ ys) ≡ guarded_at k xs ++ guarded_at (end_of k xs) ys
  guarded_joined k [] ys = refl
  guarded_joined k (x ∷ xs) ys =
      let next = k + size x.below in
      let own = guarded_in f.none (f.branch x.production (numbered k x.below) f.none) in
      ap (λ gs. own ++ gs) (guarded_joined next xs ys) ∙ sym (append_assoc own (guarded_at next xs) (guarded_at (end_of next xs) ys))

  guarded_none : (xs : List Item) → EachGrown n.ITEM xs → EachLacks clause_forms xs → (k : ℕ) → guarded_at k xs ≡ []
  guarded_none [] h l k = refl
  guarded_none (x ∷ xs) h l k =
      let next = k + size x.below in
      let b = numbered k x.below in
      let no_clause = searches.nothing clause_forms (body_of x.production) l.1 x.below h.1 k in
      let tried = if nat_eq x.production p.ITEM_TRY then b else f.none in
      ap (λ c. ((guarded_in tried b ++ (if c then record { tried = f.none; clause = f.part x.production b } ∷ [] else [])) ++ []) ++ guarded_at next xs) l.0
      ∙ (ap (λ gs. ((gs ++ []) ++ []) ++ guarded_at next xs) (walks.no_clauses tried b no_clause) ∙ guarded_none xs h.2 l.2 next)

  clauses_alone : guarded_in f.none g ≡ guarded_at b_at b_items
  unfolding ilasm rule_by written.method
  clauses_alone =
      let l = no_clauses_before in
      walks.clauses f.none 11 (body_of p.METHOD) l.head shown grown at
      ∙ (guarded_row all_items items_at (f.leaf (place 12 at shown) f.none)
      ∙ (append-nil (guarded_at items_at all_items)
      ∙ (guarded_joined items_at c_items (t_items ++ (r_items ++ (o_items ++ (e_items ++ b_items))))
      ∙ (ap (λ gs. gs ++ guarded_at t_at (t_items ++ (r_items ++ (o_items ++ (e_items ++ b_items))))) (guarded_none c_items grew.c (customs_lack a.externs clause_forms l.custom m.attributes) items_at)
      ∙ (guarded_joined t_at t_items (r_items ++ (o_items ++ (e_items ++ b_items)))
      ∙ (ap (λ gs. gs ++ guarded_at r_at (r_items ++ (o_items ++ (e_items ++ b_items)))) (guarded_none t_items grew.t (typars_lack a.externs clause_forms pieces l.custom l.param 1 m.generics) t_at)
      ∙ (guarded_joined r_at r_items (o_items ++ (e_items ++ b_items))
      ∙ (ap (λ gs. gs ++ guarded_at o_at (o_items ++ (e_items ++ b_items))) (guarded_none r_items grew.r (rows_lack a.externs clause_forms pieces l.custom l.param m.params) r_at)
      ∙ (guarded_joined o_at o_items (e_items ++ b_items)
      ∙ (ap (λ gs. gs ++ guarded_at e_at (e_items ++ b_items)) (guarded_none o_items grew.o (overrides_lack a.externs clause_forms l.override m.overrides) o_at)
      ∙ (guarded_joined e_at e_items b_items ∙ ap (λ gs. gs ++ guarded_at b_at b_items) (guarded_none e_items grew.e (entry_lacks a.externs clause_forms l.entry m.entry) e_at))))))))))))

  body_stands : IsBodyOf g b_at b_items
  body_stands = record {
    instructions = only_body instruction_forms no_code_before;
    labels = only_body (p.ITEM_NAME ∷ []) no_labels_before;
    locals = only_body (p.LOCAL ∷ []) no_locals_before;
    init = only_body (p.INIT_OPT_SOME ∷ []) no_init_before;
    bound = only_body (p.ITEM_MAXSTACK ∷ []) no_bound_before;
    clauses = clauses_alone;
  }

  body_by : (o : Option Body) → option_all (is_body a) o ≡ true → option_all is_body_held o ≡ true → is_short_code o → EachGrown n.ITEM (written.body_opt a.externs o) →
      ItemsAgree s b_at (written.body_opt a.externs o) → IsBodyOf g b_at (written.body_opt a.externs o) → bodies.body s around g ≡ o
  unfolding bodies.body bodies.code
  body_by None q h l e i stands = ap (λ ps. bodies.body_unless_empty s around g (map (instruction s around g) ps)) stands.instructions
  body_by (Some b) q h l e i stands = bodies_read s around a knows b q h l g b_at e i stands

  -- ---- attributes, generic parameters and parameters

  overrides_idle : (rs : List MethodRef) → EachGrown n.ITEM (map (written.override a.externs) rs) → (k : ℕ) → Idle (ends_at k (map (written.override a.externs) rs))
  overrides_idle [] h k = tt
  overrides_idle (r ∷ rs) h k =
      idle_both (ends_of k (written.override a.externs r)) (ends_at (k + size (written.override a.externs r).below) (map (written.override a.externs) rs))
      (line_idle searches walks p.ITEM_OVERRIDE idle_override (written.override a.externs r).below h.1 k) (overrides_idle rs h.2 (k + size (written.override a.externs r).below))

  abbrev entry_line : Item
  entry_line = item p.ITEM_ENTRYPOINT (line word.DOT_ENTRYPOINT none)

  entry_idle : (c : Bool) → EachGrown n.ITEM (written.entrypoint a.externs c) → (k : ℕ) → Idle (ends_at k (written.entrypoint a.externs c))
  unfolding ilasm rule_by
  entry_idle true h k = idle_both (ends_of k entry_line) [] (line_idle searches walks p.ITEM_ENTRYPOINT idle_entry entry_line.below h.1 k) tt
  entry_idle false h k = tt

  bodies_idle : (o : Option Body) → EachGrown n.ITEM (written.body_opt a.externs o) → (k : ℕ) → Idle (ends_at k (written.body_opt a.externs o))
  bodies_idle None h k = tt
  bodies_idle (Some b) h k = body_idle searches walks lack pieces a b h k

  tail_idle : Idle (ends_at o_at (o_items ++ (e_items ++ b_items)))
  tail_idle =
      subst Idle (sym (ends_joined o_at o_items (e_items ++ b_items)))
      (idle_both (ends_at o_at o_items) (ends_at e_at (e_items ++ b_items)) (overrides_idle m.overrides grew.o o_at)
      (subst Idle (sym (ends_joined e_at e_items b_items)) (idle_both (ends_at e_at e_items) (ends_at b_at b_items) (entry_idle m.entry grew.e e_at) (bodies_idle m.body grew.b b_at))))

  abbrev tail_parts : List f.Part
  tail_parts = ends_at o_at (o_items ++ (e_items ++ b_items))

  abbrev c_parts : List f.Part
  c_parts = parts_at items_at c_items

  abbrev t_parts : List f.Part
  t_parts = parts_at t_at t_items

  abbrev r_parts : List f.Part
  r_parts = parts_at r_at r_items

  all_ends : items_and_ends g ≡ c_parts ++ (t_parts ++ (r_parts ++ tail_parts))
  unfolding ilasm rule_by written.method
  all_ends =
      walks.items 11 (body_of p.METHOD) items_head shown grown at
      ∙ (row_ends all_items items_at (f.leaf (place 12 at shown) f.none)
      ∙ (append-nil (ends_at items_at all_items)
      ∙ (ends_joined items_at c_items (t_items ++ (r_items ++ (o_items ++ (e_items ++ b_items))))
      ∙ (ap (λ ps. ps ++ ends_at t_at (t_items ++ (r_items ++ (o_items ++ (e_items ++ b_items))))) (plain_ends items_at c_items (customs_plain a.externs segments m.attributes))
      ∙ ap (λ ps. c_parts ++ ps)
      (ends_joined t_at t_items (r_items ++ (o_items ++ (e_items ++ b_items)))
      ∙ (ap (λ ps. ps ++ ends_at r_at (r_items ++ (o_items ++ (e_items ++ b_items)))) (plain_ends t_at t_items (typars_plain a.externs segments 1 m.generics))
      ∙ ap (λ ps. t_parts ++ ps)
      (ends_joined r_at r_items (o_items ++ (e_items ++ b_items)) ∙ ap (λ ps. ps ++ tail_parts) (plain_ends r_at r_items (rows_plain a.externs segments m.params)))))))))

  rows_then_tail : IsEndOfRun (r_parts ++ tail_parts)
  rows_then_tail = rows_end searches filtered pieces segments a.externs m.params r_at tail_parts (idle_ends tail_parts tail_idle)

  held_attributes : are_attributes_held m.attributes ≡ true
  unfolding is_method_held
  held_attributes = (and_parts _ _ held).1

  pub record Parts : Type 0 where
    pub generics : list_all is_generic_held m.generics ≡ true
    pub params : list_all is_param_held m.params ≡ true
    pub overrides : list_all is_method_ref_held m.overrides ≡ true
    pub body : option_all is_body_held m.body ≡ true

  parts_held : Parts
  unfolding is_method_held
  parts_held =
      let h7 = and_parts _ _ held in
      let h6 = and_parts _ _ h7.0 in
      let h5 = and_parts _ _ h6.0 in
      let h4 = and_parts _ _ h5.0 in
      let h3 = and_parts _ _ h4.0 in
      record { generics = h3.1; params = h4.1; overrides = h5.1; body = h6.1 }

  attributes_are : attributes s around (own_customs (items_and_ends g)) ≡ m.attributes
  attributes_are =
      let owned = typar_laws.owned a.externs written.typar_item p.ITEM_CUSTOM (typar_head numbers_read) m.generics 1 t_at (r_parts ++ tail_parts)
      (rows_owned searches filtered pieces segments a.externs m.params r_at tail_parts (idle_owned filtered tail_parts tail_idle)) in
      ap (λ ps. attributes s around (own_customs ps)) all_ends
      ∙ (ap (attributes s around)
      (runs_read.outside c_parts (t_parts ++ (r_parts ++ tail_parts)) (customs_are searches filtered pieces segments a.externs m.attributes items_at)
      ∙ (ap (λ ps. c_parts ++ ps) (owned false) ∙ append-nil c_parts))
      ∙ attribute_laws s around a knows m.attributes ((methods_named a m).0 wf).attributes held_attributes p.ITEM_CUSTOM items_at agreed.c)

  few_generics : 1 + length m.generics < 2 ^ 128
  few_generics =
      let m1 = (methods_named a m).0 wf in
      let count : m.sig.generic ≤ 65535 = leb-true m.sig.generic 65535 ((signatures_named a m.sig).0 m1.sig).generic in
      let same : m.sig.generic ≡ length m.generics = eqb-true m.sig.generic (length m.generics) (and_parts _ _ m1.declaration).1 in
      omega arith

  generics_are : read_generics s around g (runs (items_and_ends g)) ≡ m.generics
  generics_are =
      let after = r_parts ++ tail_parts in
      let place_of = heads.typars s a m wf grown at ag in
      generic_laws.read s around a knows written.typar_item p.ITEM_CUSTOM (typar_head numbers_read) m.generics ((methods_named a m).0 wf).generics parts_held.generics few_generics t_at agreed.t
      (typars_place a m at) place_of.1 g place_of.0 (runs (items_and_ends g))
      (ap (runs_of is_typar_line) all_ends
      ∙ (filtered.past is_typar_line c_parts (t_parts ++ after) (customs_no_typar searches filtered pieces segments a.externs m.attributes items_at)
      ∙ (typar_laws.runs a.externs written.typar_item p.ITEM_CUSTOM (typar_head numbers_read) m.generics 1 t_at after rows_then_tail
      ∙ (ap (λ rs. typar_runs a.externs written.typar_item p.ITEM_CUSTOM t_at 1 m.generics ++ rs)
      (filtered.past is_typar_line r_parts tail_parts (rows_no_typar searches filtered pieces segments a.externs m.params grew.r r_at) ∙ filtered.none is_typar_line tail_parts (idle_typars tail_parts tail_idle))
      ∙ append-nil (typar_runs a.externs written.typar_item p.ITEM_CUSTOM t_at 1 m.generics)))))

  params_are : read_params s around g (runs (items_and_ends g)) ≡ m.params
  params_are =
      let m1 = (methods_named a m).0 wf in
      let numbers = and_parts _ _ m1.numbers in
      let after = r_parts ++ tail_parts in
      let args = heads.parameters s a m wf grown at ag in
      rows_are names numbers_read flag_laws constants attribute_laws searches options segments pieces s around a knows m.params m1.params parts_held.params (rising m.params numbers.0) r_at grew.r agreed.r
      m.sig.params numbers.1 (args_place a m at) args.1 args.2 g args.0 (runs (items_and_ends g))
      (ap (runs_of is_param) all_ends
      ∙ (filtered.past is_param c_parts (t_parts ++ after) (customs_no_param searches filtered pieces segments a.externs m.attributes grew.c items_at)
      ∙ (filtered.past is_param t_parts after (typars_no_param searches filtered pieces segments a.externs 1 m.generics grew.t t_at)
      ∙ (rows_run searches filtered pieces segments a.externs m.params grew.r r_at tail_parts (idle_ends tail_parts tail_idle)
      ∙ (ap (λ rs. param_runs a.externs r_at m.params ++ rs) (filtered.none is_param tail_parts (idle_params tail_parts tail_idle)) ∙ append-nil (param_runs a.externs r_at m.params))))))

  -- ---- the whole

  method_is : read.method s outer g ≡ m
  method_is =
      let m1 = (methods_named a m).0 wf in
      let name_is = heads.names s a m wf grown at ag in
      let flags_are = heads.flags s a m wf held grown at ag in
      let impl_are = heads.implementations s a m wf held grown at ag in
      let sig_is = heads.signatures s around a knows m wf held grown at ag in
      let overrides_are = ap (map (read.overridden s around g)) overrides_alone ∙ overrides_read m.overrides m1.overrides parts_held.overrides o_at agreed.o in
      let entry_is = ap f.is_any_part entry_alone ∙ entry_by m.entry e_at in
      let body_is = body_by m.body m1.body parts_held.body short grew.b agreed.b body_stands in
      λ i. record {
        name = name_is i;
        flags = flags_are i;
        impl_flags = impl_are i;
        sig = sig_is i;
        generics = generics_are i;
        params = params_are i;
        overrides = overrides_are i;
        entry = entry_is i;
        body = body_is i;
        attributes = attributes_are i;
      }

pub methods_are_read : NamesAreRead → NumbersAreRead → FlagsAreRead → ConstantsAreRead → AttributesAreRead → FormedAreRead → HeadsAreRead → TyparLinesAreRead → GenericsAreRead → LinesLack → BodiesAreRead → SearchesPass → RunsAreRead → RunsAreFiltered → OptionsAreRead → SegmentsAreRead → PiecesAreRead → WalksPass → MethodsAreRead
methods_are_read names numbers_read flag_laws constants attribute_laws formed heads typar_laws generic_laws lack bodies_read searches runs_read filtered options segments pieces walks s outer a knows m wf held short grown at ag =
    method_is names numbers_read flag_laws constants attribute_laws formed heads typar_laws generic_laws lack bodies_read searches runs_read filtered options segments pieces walks s outer a knows m wf held short grown at ag
