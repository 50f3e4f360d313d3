-- Bodies are read back.
use Rattle.std.proofs.Common.{◌≡◌, inl, ℕ, suc, ◌+◌, ◌<◌, ◌^◌, ◌||◌, not, nat_eq, nat_lt, Bool, true, false, cond, if◌then◌else◌, List, [], ◌∷◌, ◌++◌, map, length, take, drop, fold, Some, refl, ap, sym, ◌∙◌, append-nil, append_assoc, arith}
use Rattle.std.proofs.lemmas.Bool.{and_parts, ltb-true, false≢true}
use Rattle.std.specs.List.{list_all, list_any}
use Rattle.ilasm_grammar.specs.Ilasm.{ilasm, rule_by, has_bit}
use Rattle.ilasm_grammar.specs.declared.nonterminals.TheConstants as n
use Rattle.ilasm_grammar.specs.declared.productions.TheConstants as p
use Rattle.ilasm_grammar.specs.declared.symbol.Symbol.TheVariants.{Nonterminal}
use Rattle.il_lexer.specs.declared.types.TokenKind.TheVariants as kind
use Rattle.il_lexer.specs.declared.word.TheConstants as word
use Rattle.type_terms.specs.declared.term.SigType.{SigType}
use Rattle.assembly_tree.specs.WellFormedBodies.{size_of, offset_of, is_body}
use Rattle.assembly_tree.specs.WellFormedTerms.{is_type}
use Rattle.assembly_tree.specs.declared.assembly.Assembly.{Assembly}
use Rattle.assembly_tree.specs.declared.body.Body.{Body}
use Rattle.assembly_tree.specs.declared.body.Clause.{Clause}
use Rattle.assembly_tree.specs.declared.body.ClauseKind as handles
use Rattle.assembly_tree.specs.declared.body.Ins.{Ins}
use Rattle.assembly_tree.proofs.FormedFacts.{bodies_named}
use Rattle.source_model.specs.Bodies as read
use Rattle.source_model.specs.Clauses as clause
use Rattle.source_model.specs.Clauses.{clause_forms, guarded_in}
use Rattle.source_model.specs.Forest as f
use Rattle.source_model.specs.Instructions.{instruction_forms, instructions_of, label_number, labels}
use Rattle.source_model.specs.Nodes.{Around}
use Rattle.source_model.specs.Operands.{instruction}
use Rattle.source_model.specs.Shapes.{natural}
use Rattle.source_model.specs.Source.{Source, spelling}
use Rattle.source_model.specs.Types.{types_in, the_type}
use Rattle.source_model.specs.Values.{int_at, integer}
use Rattle.source_model.specs.Variables.{local_types}
use Rattle.listing_constants.specs.Laws.{LabelsAreRead, StringsAreRead, ConstantsAreRead}
use Rattle.listing_formed.specs.Laws.{Knows, FormedAreRead}
use Rattle.listing_growth.specs.Held.{is_type_held, is_instruction_held, is_clause_held, is_body_held}
use Rattle.listing_leaves.specs.Numbers as numbers
use Rattle.listing_leaves.specs.Numbers.{label}
use Rattle.listing_model.specs.Bodies as written
use Rattle.listing_model.specs.Grown.{body_of, Grows}
use Rattle.listing_model.specs.Shown.{Shown, none, Item, item, put, w, line, token, optional, opt_production, opt_below, when, size, behind_comma, commas}
use Rattle.listing_model.specs.Types.{owner}
use Rattle.listing_reading.specs.Below.{below, cant_stand}
use Rattle.listing_reading.specs.BelowMasks.{below_masks}
use Rattle.listing_reading.specs.Laws.{SearchesPass}
use Rattle.listing_reading.specs.Numbered.{numbered, Agrees, rest, place}
use Rattle.listing_reading.specs.Rows.{AreAmong, parts_behind}
use Rattle.listing_rows.specs.Laws.{SegmentsAreRead, PiecesAreRead, WalksPass}
use Rattle.listing_rows.specs.Segments.{end_of, ItemsAgree, BehindAgree, CommasAgree, comma_parts, pieces_of, pieces_at, EachGrown, EachLacks}
use Rattle.listing_values.specs.Laws.{NumbersAreRead, LabelsDiffer}
use Rattle.listing_bodies.specs.Laws.{guarded_at, IsBodyOf, LacksIn, PassesClauses, LinesLack, BodiesAreRead}
use Rattle.listing_bodies.proofs.Clauses.{clauses_are}
use Rattle.listing_bodies.proofs.CodeLines.{lines, instructions_are, labels_are, lines_rise, spelled, code_is}
use Rattle.listing_bodies.proofs.Labels.{IsFound, number_is, parts_of, tokens_of}

-- ---- what can't stand in the lines of a body

no_forms_in_bound : LacksIn instruction_forms p.ITEM_MAXSTACK
unfolding ilasm rule_by has_bit below below_masks
no_forms_in_bound = record { own = refl; inside = refl }

no_forms_in_locals : LacksIn instruction_forms p.ITEM_LOCALS
unfolding ilasm rule_by has_bit below below_masks
no_forms_in_locals = record { own = refl; inside = refl }

no_forms_in_labels : LacksIn instruction_forms p.ITEM_NAME
unfolding ilasm rule_by has_bit below below_masks
no_forms_in_labels = record { own = refl; inside = refl }

no_label_in_bound : LacksIn (p.ITEM_NAME ∷ []) p.ITEM_MAXSTACK
unfolding ilasm rule_by has_bit below below_masks
no_label_in_bound = record { own = refl; inside = refl }

no_label_in_locals : LacksIn (p.ITEM_NAME ∷ []) p.ITEM_LOCALS
unfolding ilasm rule_by has_bit below below_masks
no_label_in_locals = record { own = refl; inside = refl }

no_local_in_bound : LacksIn (p.LOCAL ∷ []) p.ITEM_MAXSTACK
unfolding ilasm rule_by has_bit below below_masks
no_local_in_bound = record { own = refl; inside = refl }

no_local_in_labels : LacksIn (p.LOCAL ∷ []) p.ITEM_NAME
unfolding ilasm rule_by has_bit below below_masks
no_local_in_labels = record { own = refl; inside = refl }

no_local_in_code : LacksIn (p.LOCAL ∷ []) p.ITEM_INSTRUCTION
unfolding ilasm rule_by has_bit below below_masks
no_local_in_code = record { own = refl; inside = refl }

no_init_in_bound : LacksIn (p.INIT_OPT_SOME ∷ []) p.ITEM_MAXSTACK
unfolding ilasm rule_by has_bit below below_masks
no_init_in_bound = record { own = refl; inside = refl }

no_init_in_labels : LacksIn (p.INIT_OPT_SOME ∷ []) p.ITEM_NAME
unfolding ilasm rule_by has_bit below below_masks
no_init_in_labels = record { own = refl; inside = refl }

no_init_in_code : LacksIn (p.INIT_OPT_SOME ∷ []) p.ITEM_INSTRUCTION
unfolding ilasm rule_by has_bit below below_masks
no_init_in_code = record { own = refl; inside = refl }

no_bound_in_locals : LacksIn (p.ITEM_MAXSTACK ∷ []) p.ITEM_LOCALS
unfolding ilasm rule_by has_bit below below_masks
no_bound_in_locals = record { own = refl; inside = refl }

no_bound_in_labels : LacksIn (p.ITEM_MAXSTACK ∷ []) p.ITEM_NAME
unfolding ilasm rule_by has_bit below below_masks
no_bound_in_labels = record { own = refl; inside = refl }

no_bound_in_code : LacksIn (p.ITEM_MAXSTACK ∷ []) p.ITEM_INSTRUCTION
unfolding ilasm rule_by has_bit below below_masks
no_bound_in_code = record { own = refl; inside = refl }

no_clause_in_locals : LacksIn clause_forms p.ITEM_LOCALS
unfolding ilasm rule_by has_bit below below_masks
no_clause_in_locals = record { own = refl; inside = refl }

no_clause_in_code : LacksIn clause_forms p.ITEM_INSTRUCTION
unfolding ilasm rule_by has_bit below below_masks
no_clause_in_code = record { own = refl; inside = refl }

no_init_behind : cant_stand (p.INIT_OPT_SOME ∷ []) (drop 2 (body_of p.ITEM_LOCALS)) ≡ true
unfolding ilasm rule_by has_bit below below_masks
no_init_behind = refl

no_local_before : cant_stand (p.LOCAL ∷ []) (take 3 (body_of p.ITEM_LOCALS)) ≡ true
unfolding ilasm rule_by has_bit below below_masks
no_local_before = refl

forms_pass : PassesClauses instruction_forms
unfolding ilasm rule_by has_bit below below_masks
forms_pass = record { range = refl; catch = refl; filter = refl; finally = refl; fault = refl; filter_start = refl; handler = refl; end = refl; owners = refl }

labels_pass : PassesClauses (p.ITEM_NAME ∷ [])
unfolding ilasm rule_by has_bit below below_masks
labels_pass = record { range = refl; catch = refl; filter = refl; finally = refl; fault = refl; filter_start = refl; handler = refl; end = refl; owners = refl }

locals_pass : PassesClauses (p.LOCAL ∷ [])
unfolding ilasm rule_by has_bit below below_masks
locals_pass = record { range = refl; catch = refl; filter = refl; finally = refl; fault = refl; filter_start = refl; handler = refl; end = refl; owners = refl }

init_passes : PassesClauses (p.INIT_OPT_SOME ∷ [])
unfolding ilasm rule_by has_bit below below_masks
init_passes = record { range = refl; catch = refl; filter = refl; finally = refl; fault = refl; filter_start = refl; handler = refl; end = refl; owners = refl }

bound_passes : PassesClauses (p.ITEM_MAXSTACK ∷ [])
unfolding ilasm rule_by has_bit below below_masks
bound_passes = record { range = refl; catch = refl; filter = refl; finally = refl; fault = refl; filter_start = refl; handler = refl; end = refl; owners = refl }

past : (sought : List ℕ) (q : ℕ) (b after : f.Forest) → f.is_among sought q ≡ false → f.parts sought b ≡ [] → f.parts sought (f.branch q b after) ≡ f.parts sought after
past sought q b after e h =
    ap (λ c. (if c then f.part q b ∷ [] else f.parts sought b) ++ f.parts sought after) e ∙ ap (λ ps. ps ++ f.parts sought after) h

own_none : (xs : List f.Part) → (xs ++ []) ≡ [] → xs ≡ []
own_none xs h = sym (append-nil xs) ∙ h

-- what holds nothing alone holds nothing with anything behind it
alone_behind : (sought : List ℕ) (q : ℕ) (b after : f.Forest) → f.parts sought (f.branch q b f.none) ≡ [] → f.parts sought (f.branch q b after) ≡ f.parts sought after
alone_behind sought q b after h =
    ap (λ ps. ps ++ f.parts sought after) (own_none (if f.is_among sought q then f.part q b ∷ [] else f.parts sought b) h)

module _ (searches : SearchesPass) (a : Assembly) (code : List Ins) (sought : List ℕ) (passes : PassesClauses sought) where
  handler_none : (c : Clause) (at : ℕ) → f.parts sought (numbered at (written.handler a.externs code c)) ≡ []
  handler_none c at = past sought p.HANDLER_HANDLER (f.leaf at (f.leaf (suc at) (f.leaf (suc (suc at)) (f.leaf (suc (suc (suc at))) f.none)))) f.none passes.handler refl

  handled_none : (c : Clause) (k : handles.ClauseKind) → Grows (body_of (written.handled a.externs code c k).production) (written.handled a.externs code c k).below → (at : ℕ) →
      (f.is_among sought (written.handled a.externs code c k).production ≡ false) × (f.parts sought (numbered at (written.handled a.externs code c k).below) ≡ [])
  unfolding ilasm rule_by
  handled_none c (handles.TheVariants.Catch o) g at =
      let alone = searches.nothing sought (Nonterminal n.SPEC ∷ []) passes.owners (put (owner a.externs o) none) (g.1.0, g.1.1, tt) (suc at) in
      let from = suc at + size (owner a.externs o).below in
      (passes.catch, alone_behind sought (owner a.externs o).production (numbered (suc at) (owner a.externs o).below) (numbered from (written.handler a.externs code c)) alone ∙ handler_none c from)
  handled_none c (handles.TheVariants.Filter k) g at =
      (passes.filter, past sought p.FILTER_START_NAME (f.leaf (suc at) f.none) (numbered (suc at + 1) (written.handler a.externs code c)) passes.filter_start refl ∙ handler_none c (suc at + 1))
  handled_none c handles.TheVariants.Finally g at = (passes.finally, handler_none c (suc at))
  handled_none c handles.TheVariants.Fault g at = (passes.fault, handler_none c (suc at))

  clause_none : (c : Clause) → Grows (body_of p.ITEM_TRY) (written.clause a.externs code c).below → (at : ℕ) → f.parts sought (numbered at (written.clause a.externs code c).below) ≡ []
  unfolding ilasm rule_by
  clause_none c g at =
      let shown = written.handled a.externs code c c.kind in
      let from = suc at + 3 in
      let inner = handled_none c c.kind g.1.2.1 from in
      let behind = f.branch p.CLAUSE_STAR_END f.none f.none in
      past sought p.TRY_RANGE_NAME (f.leaf (suc at) (f.leaf (suc (suc at)) (f.leaf (suc (suc (suc at))) f.none))) (f.branch shown.production (numbered from shown.below) behind) passes.range refl
      ∙ (past sought shown.production (numbered from shown.below) behind inner.0 inner.1 ∙ past sought p.CLAUSE_STAR_END f.none f.none passes.end refl)

  pub clauses_none : f.is_among sought p.ITEM_TRY ≡ false → (cs : List Clause) (at : ℕ) → EachGrown n.ITEM (map (written.clause a.externs code) cs) → pieces_at sought at (map (written.clause a.externs code) cs) ≡ []
  clauses_none own [] at g = refl
  clauses_none own (c ∷ cs) at g =
      let next = at + size (written.clause a.externs code c).below in
      let more = pieces_at sought next (map (written.clause a.externs code) cs) in
      ap (λ b. (if b then f.part p.ITEM_TRY (numbered at (written.clause a.externs code c).below) ∷ [] else f.parts sought (numbered at (written.clause a.externs code c).below)) ++ more) own
      ∙ (ap (λ ps. ps ++ more) (clause_none c g.1 at) ∙ clauses_none own cs next g.2)

-- ---- lines that lack what is sought

code_lacks : (a : Assembly) (code : List Ins) (sought : List ℕ) → LacksIn sought p.ITEM_NAME → LacksIn sought p.ITEM_INSTRUCTION → (o : ℕ) (is : List Ins) →
    EachLacks sought (written.instructions a.externs code o is)
code_lacks a code sought l i o [] = tt
code_lacks a code sought l i o (x ∷ is) = (l.own, l.inside, (i.own, i.inside, code_lacks a code sought l i (o + size_of x) is))

label_lacks : (sought : List ℕ) → LacksIn sought p.ITEM_NAME → (b : Bool) (o : ℕ) → EachLacks sought (cond b (written.label_line o ∷ []) [])
label_lacks sought l true o = (l.own, l.inside, tt)
label_lacks sought l false o = tt

module _ (a : Assembly) where
  abbrev locals_item : Bool → List SigType → Item
  locals_item init ts =
      item p.ITEM_LOCALS
      (line word.DOT_LOCALS
      (optional p.INIT_OPT_SOME p.INIT_OPT_NONE (when init (w word.INIT none))
      (w word.OPEN_PAREN
      (optional p.LOCALS_OPT_SOME p.LOCALS_OPT_NONE (written.locals_between a.externs (written.locals_from a.externs 0 ts)) (w word.CLOSE_PAREN none)))))

  abbrev locals_by : Bool → Bool → List SigType → List Item
  locals_by b init ts = cond b (locals_item init ts ∷ []) []

  locals_lack : (sought : List ℕ) → LacksIn sought p.ITEM_LOCALS → (b init : Bool) (ts : List SigType) → EachLacks sought (locals_by b init ts)
  locals_lack sought l true init ts = (l.own, l.inside, tt)
  locals_lack sought l false init ts = tt

  -- ---- locals

  locals_among : (k : ℕ) (ts : List SigType) → AreAmong (p.LOCAL ∷ []) (written.locals_from a.externs k ts)
  locals_among k [] = tt
  locals_among k (t ∷ ts) = (refl, locals_among (suc k) ts)

  none_of : (ts : List SigType) → nat_eq (length ts) 0 ≡ true → [] ≡ ts
  none_of [] h = refl
  none_of (t ∷ ts) h = absurd (false≢true (sym (some (length ts)) ∙ h))
    where
      some : (m : ℕ) → nat_eq (suc m) 0 ≡ false
      some m = grind arith

  no_locals : (init : Bool) (ts : List SigType) → (init || not (nat_eq (length ts) 0)) ≡ false → (init ≡ false) × ([] ≡ ts)
  no_locals true ts e = absurd (false≢true (sym e))
  no_locals false ts e = (refl, none_of ts (by (nat_eq (length ts) 0) e))
    where
      by : (c : Bool) → not c ≡ false → c ≡ true
      by true h = refl
      by false h = absurd (false≢true (sym h))

  module _ (searches : SearchesPass) where
    init_by : (b init : Bool) (ts : List SigType) → (init || not (nat_eq (length ts) 0)) ≡ b → EachGrown n.ITEM (locals_by b init ts) → (at : ℕ) (more : List f.Part) → more ≡ [] →
        f.is_any_part (pieces_at (p.INIT_OPT_SOME ∷ []) at (locals_by b init ts) ++ more) ≡ init
    unfolding ilasm rule_by
    init_by false init ts e g at more nothing = ap f.is_any_part nothing ∙ sym (no_locals init ts e).0
    init_by true true ts e g at more nothing = refl
    init_by true false ts e g at more nothing =
        ap (λ ps. f.is_any_part ((ps ++ []) ++ more))
        (searches.nothing (p.INIT_OPT_SOME ∷ []) (drop 2 (body_of p.ITEM_LOCALS)) no_init_behind (rest 2 (locals_item false ts).below)
        (searches.rest 2 (body_of p.ITEM_LOCALS) (locals_item false ts).below g.1) (place 2 at (locals_item false ts).below))
        ∙ ap f.is_any_part nothing

  module _ (formed : FormedAreRead) (s : Source) (around : Around) (knows : Knows s a) where
    local_is : (k : ℕ) (t : SigType) → is_type a t ≡ true → is_type_held t ≡ true → (at : ℕ) → Agrees s at (written.local a.externs k t).below →
        the_type s around (numbered at (written.local a.externs k t).below) ≡ t
    unfolding types_in
    local_is k t m h at ag = formed.types s around a knows t m h (place 1 at (written.local a.externs k t).below) ag.1.0

    behind_are : (k : ℕ) (ts : List SigType) → list_all (is_type a) ts ≡ true → list_all is_type_held ts ≡ true → (at : ℕ) → BehindAgree s at (written.locals_from a.externs k ts) →
        map (the_type s around) (f.below_each (parts_behind at (written.locals_from a.externs k ts))) ≡ ts
    behind_are k [] m h at ag = refl
    behind_are k (t ∷ ts) m h at ag =
        let ms = and_parts (is_type a t) (list_all (is_type a) ts) m in
        let hs = and_parts (is_type_held t) (list_all is_type_held ts) h in
        let next = at + size (behind_comma 0 (written.local a.externs k t)).below in
        ap (λ u. u ∷ map (the_type s around) (f.below_each (parts_behind next (written.locals_from a.externs (suc k) ts)))) (local_is k t ms.0 hs.0 (suc at) ag.0)
        ∙ ap (λ us. t ∷ us) (behind_are (suc k) ts ms.1 hs.1 next ag.1)

    locals_are : (ts : List SigType) → list_all (is_type a) ts ≡ true → list_all is_type_held ts ≡ true → (at : ℕ) → CommasAgree s at (written.locals_from a.externs 0 ts) →
        map (the_type s around) (f.below_each (comma_parts at (written.locals_from a.externs 0 ts))) ≡ ts
    locals_are [] m h at ag = refl
    locals_are (t ∷ ts) m h at ag =
        let ms = and_parts (is_type a t) (list_all (is_type a) ts) m in
        let hs = and_parts (is_type_held t) (list_all is_type_held ts) h in
        let next = at + size (written.local a.externs 0 t).below in
        ap (λ u. u ∷ map (the_type s around) (f.below_each (parts_behind next (written.locals_from a.externs 1 ts)))) (local_is 0 t ms.0 hs.0 at ag.0)
        ∙ ap (λ us. t ∷ us) (behind_are 1 ts ms.1 hs.1 next ag.1)

-- ---- the lines of a body, one after another

module _ (pieces : PiecesAreRead) (searches : SearchesPass) (a : Assembly) (b : Body) (grown : EachGrown n.ITEM (written.body a.externs b)) where
  abbrev bound_item : Item
  bound_item = item p.ITEM_MAXSTACK (line word.DOT_MAXSTACK (token kind.Int (numbers.natural b.bound) none))

  abbrev locals_part : List Item
  locals_part = written.locals a.externs b.init b.locals

  abbrev code_part : List Item
  code_part = written.instructions a.externs b.code 0 b.code

  abbrev end_part : List Item
  end_part = written.end_label a.externs b

  abbrev clauses_part : List Item
  clauses_part = map (written.clause a.externs b.code) b.clauses

  abbrev locals_at : ℕ → ℕ
  locals_at at = at + size bound_item.below

  abbrev code_at : ℕ → ℕ
  code_at at = end_of (locals_at at) locals_part

  abbrev end_at : ℕ → ℕ
  end_at at = end_of (code_at at) code_part

  abbrev clauses_at : ℕ → ℕ
  clauses_at at = end_of (end_at at) end_part

  abbrev behind_bound : List Item
  behind_bound = locals_part ++ (code_part ++ (end_part ++ clauses_part))

  -- each segment has grown
  pub record Segments : Type 0 where
    pub bound : Grows (body_of p.ITEM_MAXSTACK) bound_item.below
    pub locals : EachGrown n.ITEM locals_part
    pub code : EachGrown n.ITEM code_part
    pub end : EachGrown n.ITEM end_part
    pub clauses : EachGrown n.ITEM clauses_part

  segments_grown : Segments
  unfolding written.body
  segments_grown =
      let one = pieces.each n.ITEM locals_part (code_part ++ (end_part ++ clauses_part)) grown.2 in
      let two = pieces.each n.ITEM code_part (end_part ++ clauses_part) one.1 in
      let three = pieces.each n.ITEM end_part clauses_part two.1 in
      record { bound = grown.1; locals = one.0; code = two.0; end = three.0; clauses = three.1 }

  -- what is sought, segment by segment
  in_segments : (sought : List ℕ) (at : ℕ) →
      pieces_at sought at (written.body a.externs b)
      ≡ pieces_of sought at bound_item ++ (pieces_at sought (locals_at at) locals_part ++ (pieces_at sought (code_at at) code_part ++ (pieces_at sought (end_at at) end_part ++ pieces_at sought (clauses_at at) clauses_part)))
  unfolding written.body
  in_segments sought at =
      ap (λ ps. pieces_of sought at bound_item ++ ps)
      (pieces.joined sought (locals_at at) locals_part (code_part ++ (end_part ++ clauses_part))
      ∙ ap (λ ps. pieces_at sought (locals_at at) locals_part ++ ps)
      (pieces.joined sought (code_at at) code_part (end_part ++ clauses_part)
      ∙ ap (λ ps. pieces_at sought (code_at at) code_part ++ ps) (pieces.joined sought (end_at at) end_part clauses_part)))

  bound_none : (sought : List ℕ) → LacksIn sought p.ITEM_MAXSTACK → (at : ℕ) → pieces_of sought at bound_item ≡ []
  bound_none sought l at =
      ap (λ c. if c then f.part p.ITEM_MAXSTACK (numbered at bound_item.below) ∷ [] else f.parts sought (numbered at bound_item.below)) l.own
      ∙ searches.nothing sought (body_of p.ITEM_MAXSTACK) l.inside bound_item.below segments_grown.bound at

  locals_none : (sought : List ℕ) → LacksIn sought p.ITEM_LOCALS → (at : ℕ) → pieces_at sought (locals_at at) locals_part ≡ []
  locals_none sought l at =
      pieces.none sought n.ITEM (locals_at at) locals_part segments_grown.locals (locals_lack a sought l (b.init || not (nat_eq (length b.locals) 0)) b.init b.locals)

  code_none : (sought : List ℕ) → LacksIn sought p.ITEM_NAME → LacksIn sought p.ITEM_INSTRUCTION → (at : ℕ) → pieces_at sought (code_at at) code_part ≡ []
  code_none sought l i at = pieces.none sought n.ITEM (code_at at) code_part segments_grown.code (code_lacks a b.code sought l i 0 b.code)

  end_none : (sought : List ℕ) → LacksIn sought p.ITEM_NAME → (at : ℕ) → pieces_at sought (end_at at) end_part ≡ []
  end_none sought l at =
      pieces.none sought n.ITEM (end_at at) end_part segments_grown.end
      (label_lacks sought l (list_any (written.ends_last b.code) b.clauses) (offset_of b.code (length b.code)))

  clauses_lack : (sought : List ℕ) → PassesClauses sought → f.is_among sought p.ITEM_TRY ≡ false → (at : ℕ) → pieces_at sought (clauses_at at) clauses_part ≡ []
  clauses_lack sought passes own at = clauses_none searches a b.code sought passes own b.clauses (clauses_at at) segments_grown.clauses

  code_alone : (at : ℕ) → pieces_at instruction_forms at (written.body a.externs b) ≡ pieces_at instruction_forms (code_at at) code_part
  code_alone at =
      let code = pieces_at instruction_forms (code_at at) code_part in
      in_segments instruction_forms at
      ∙ (ap (λ ps. ps ++ (pieces_at instruction_forms (locals_at at) locals_part ++ (code ++ (pieces_at instruction_forms (end_at at) end_part ++ pieces_at instruction_forms (clauses_at at) clauses_part)))) (bound_none instruction_forms no_forms_in_bound at)
      ∙ (ap (λ ps. ps ++ (code ++ (pieces_at instruction_forms (end_at at) end_part ++ pieces_at instruction_forms (clauses_at at) clauses_part))) (locals_none instruction_forms no_forms_in_locals at)
      ∙ (ap (λ ps. code ++ (ps ++ pieces_at instruction_forms (clauses_at at) clauses_part)) (end_none instruction_forms no_forms_in_labels at)
      ∙ (ap (λ ps. code ++ ps) (clauses_lack instruction_forms forms_pass refl at) ∙ append-nil code))))

  labels_alone : (at : ℕ) → pieces_at (p.ITEM_NAME ∷ []) at (written.body a.externs b) ≡ pieces_at (p.ITEM_NAME ∷ []) (code_at at) code_part ++ pieces_at (p.ITEM_NAME ∷ []) (end_at at) end_part
  labels_alone at =
      let names = p.ITEM_NAME ∷ [] in
      let code = pieces_at names (code_at at) code_part in
      let end = pieces_at names (end_at at) end_part in
      in_segments names at
      ∙ (ap (λ ps. ps ++ (pieces_at names (locals_at at) locals_part ++ (code ++ (end ++ pieces_at names (clauses_at at) clauses_part)))) (bound_none names no_label_in_bound at)
      ∙ (ap (λ ps. ps ++ (code ++ (end ++ pieces_at names (clauses_at at) clauses_part))) (locals_none names no_label_in_locals at)
      ∙ ap (λ ps. code ++ ps) (ap (λ ps. end ++ ps) (clauses_lack names labels_pass refl at) ∙ append-nil end)))

  locals_alone : (at : ℕ) → pieces_at (p.LOCAL ∷ []) at (written.body a.externs b) ≡ pieces_at (p.LOCAL ∷ []) (locals_at at) locals_part
  locals_alone at =
      let sought = p.LOCAL ∷ [] in
      let own = pieces_at sought (locals_at at) locals_part in
      in_segments sought at
      ∙ (ap (λ ps. ps ++ (own ++ (pieces_at sought (code_at at) code_part ++ (pieces_at sought (end_at at) end_part ++ pieces_at sought (clauses_at at) clauses_part)))) (bound_none sought no_local_in_bound at)
      ∙ (ap (λ ps. own ++ (ps ++ (pieces_at sought (end_at at) end_part ++ pieces_at sought (clauses_at at) clauses_part))) (code_none sought no_local_in_labels no_local_in_code at)
      ∙ (ap (λ ps. own ++ (ps ++ pieces_at sought (clauses_at at) clauses_part)) (end_none sought no_local_in_labels at)
      ∙ (ap (λ ps. own ++ ps) (clauses_lack sought locals_pass refl at) ∙ append-nil own))))

  behind_locals : (at : ℕ) → (pieces_at (p.INIT_OPT_SOME ∷ []) (code_at at) code_part ++ (pieces_at (p.INIT_OPT_SOME ∷ []) (end_at at) end_part ++ pieces_at (p.INIT_OPT_SOME ∷ []) (clauses_at at) clauses_part)) ≡ []
  behind_locals at =
      let sought = p.INIT_OPT_SOME ∷ [] in
      ap (λ ps. ps ++ (pieces_at sought (end_at at) end_part ++ pieces_at sought (clauses_at at) clauses_part)) (code_none sought no_init_in_labels no_init_in_code at)
      ∙ (ap (λ ps. ps ++ pieces_at sought (clauses_at at) clauses_part) (end_none sought no_init_in_labels at) ∙ clauses_lack sought init_passes refl at)

  init_alone : (at : ℕ) → pieces_at (p.INIT_OPT_SOME ∷ []) at (written.body a.externs b)
      ≡ pieces_at (p.INIT_OPT_SOME ∷ []) (locals_at at) locals_part ++ (pieces_at (p.INIT_OPT_SOME ∷ []) (code_at at) code_part ++ (pieces_at (p.INIT_OPT_SOME ∷ []) (end_at at) end_part ++ pieces_at (p.INIT_OPT_SOME ∷ []) (clauses_at at) clauses_part))
  init_alone at =
      let sought = p.INIT_OPT_SOME ∷ [] in
      in_segments sought at
      ∙ ap (λ ps. ps ++ (pieces_at sought (locals_at at) locals_part ++ (pieces_at sought (code_at at) code_part ++ (pieces_at sought (end_at at) end_part ++ pieces_at sought (clauses_at at) clauses_part)))) (bound_none sought no_init_in_bound at)

  bound_alone : (at : ℕ) → pieces_at (p.ITEM_MAXSTACK ∷ []) at (written.body a.externs b) ≡ f.part p.ITEM_MAXSTACK (numbered at bound_item.below) ∷ []
  bound_alone at =
      let sought = p.ITEM_MAXSTACK ∷ [] in
      let own = f.part p.ITEM_MAXSTACK (numbered at bound_item.below) in
      in_segments sought at
      ∙ ap (λ ps. own ∷ ps)
      (ap (λ ps. ps ++ (pieces_at sought (code_at at) code_part ++ (pieces_at sought (end_at at) end_part ++ pieces_at sought (clauses_at at) clauses_part))) (locals_none sought no_bound_in_locals at)
      ∙ (ap (λ ps. ps ++ (pieces_at sought (end_at at) end_part ++ pieces_at sought (clauses_at at) clauses_part)) (code_none sought no_bound_in_labels no_bound_in_code at)
      ∙ (ap (λ ps. ps ++ pieces_at sought (clauses_at at) clauses_part) (end_none sought no_bound_in_labels at) ∙ clauses_lack sought bound_passes refl at)))

  all_lack : (sought : List ℕ) → PassesClauses sought → f.is_among sought p.ITEM_TRY ≡ false → LacksIn sought p.ITEM_MAXSTACK → LacksIn sought p.ITEM_LOCALS → LacksIn sought p.ITEM_NAME →
      LacksIn sought p.ITEM_INSTRUCTION → (at : ℕ) → pieces_at sought at (written.body a.externs b) ≡ []
  all_lack sought passes own in_bound in_locals in_labels in_code at =
      in_segments sought at
      ∙ (ap (λ ps. ps ++ (pieces_at sought (locals_at at) locals_part ++ (pieces_at sought (code_at at) code_part ++ (pieces_at sought (end_at at) end_part ++ pieces_at sought (clauses_at at) clauses_part)))) (bound_none sought in_bound at)
      ∙ (ap (λ ps. ps ++ (pieces_at sought (code_at at) code_part ++ (pieces_at sought (end_at at) end_part ++ pieces_at sought (clauses_at at) clauses_part))) (locals_none sought in_locals at)
      ∙ (ap (λ ps. ps ++ (pieces_at sought (end_at at) end_part ++ pieces_at sought (clauses_at at) clauses_part)) (code_none sought in_labels in_code at)
      ∙ (ap (λ ps. ps ++ pieces_at sought (clauses_at at) clauses_part) (end_none sought in_labels at) ∙ clauses_lack sought passes own at))))

pub lines_lack : PiecesAreRead → SearchesPass → LinesLack
lines_lack pieces searches = record {
  clause = λ a code sought passes c g at. clause_none searches a code sought passes c g at;
  body = λ a b sought passes own in_bound in_locals in_labels in_code g at. all_lack pieces searches a b g sought passes own in_bound in_locals in_labels in_code at;
}

-- ---- clauses among the lines

guarded_joined : (at : ℕ) (xs ys : List Item) → guarded_at at (xs ++ ys) ≡ guarded_at at xs ++ guarded_at (end_of at xs) ys
guarded_joined at [] ys = refl
guarded_joined at (x ∷ xs) ys =
    let next = at + size x.below in
    let own = guarded_in f.none (f.branch x.production (numbered at x.below) f.none) in
    ap (λ gs. own ++ gs) (guarded_joined next xs ys) ∙ sym (append_assoc own (guarded_at next xs) (guarded_at (end_of next xs) ys))

module _ (searches : SearchesPass) (walks : WalksPass) (a : Assembly) where
  lacks_clauses : (q : ℕ) → LacksIn clause_forms q → (g : Shown) → Grows (body_of q) g → (at : ℕ) (tried : f.Forest) → guarded_in tried (numbered at g) ≡ []
  lacks_clauses q l g h at tried = walks.no_clauses tried (numbered at g) (searches.nothing clause_forms (body_of q) l.inside g h at)

  no_clause_in_lines : (code : List Ins) (is : List Ins) (at o : ℕ) → EachGrown n.ITEM (written.instructions a.externs code o is) → guarded_at at (written.instructions a.externs code o is) ≡ []
  no_clause_in_lines code [] at o g = refl
  no_clause_in_lines code (i ∷ is) at o g =
      let shown = put (written.instruction a.externs code i) none in
      let from = at + size (written.label_line o).below in
      let next = from + size shown in
      let more = guarded_at next (written.instructions a.externs code (o + size_of i) is) in
      ap (λ gs. ((gs ++ []) ++ []) ++ more) (lacks_clauses p.ITEM_INSTRUCTION no_clause_in_code shown g.2.1 from f.none) ∙ no_clause_in_lines code is next (o + size_of i) g.2.2

  no_clause_in_label : (b : Bool) (o at : ℕ) → guarded_at at (cond b (written.label_line o ∷ []) []) ≡ []
  no_clause_in_label true o at = refl
  no_clause_in_label false o at = refl

  no_clause_in_locals_by : (b init : Bool) (ts : List SigType) → EachGrown n.ITEM (locals_by a b init ts) → (at : ℕ) → guarded_at at (locals_by a b init ts) ≡ []
  no_clause_in_locals_by false init ts g at = refl
  no_clause_in_locals_by true init ts g at =
      ap (λ gs. ((gs ++ []) ++ []) ++ []) (lacks_clauses p.ITEM_LOCALS no_clause_in_locals (locals_item a init ts).below g.1 at f.none)

-- ---- bodies

module _ (numbers_read : NumbersAreRead) (differ : LabelsDiffer) (label_laws : LabelsAreRead) (strings : StringsAreRead) (constants : ConstantsAreRead) (formed : FormedAreRead) (searches : SearchesPass) (walks : WalksPass) (segments : SegmentsAreRead) (pieces : PiecesAreRead) (s : Source) (around : Around) (a : Assembly) (knows : Knows s a) (b : Body) (m : is_body a b ≡ true) (h : is_body_held b ≡ true) (few : offset_of b.code (length b.code) < 2 ^ 128) (method : f.Forest) (at : ℕ) (grown : EachGrown n.ITEM (written.body a.externs b)) (ag : ItemsAgree s at (written.body a.externs b)) (stands : IsBodyOf method at (written.body a.externs b)) where
  abbrev grows : Segments pieces searches a b grown
  grows = segments_grown pieces searches a b grown

  abbrev first_line : ℕ
  first_line = code_at pieces searches a b grown at

  abbrev last_line : ℕ
  last_line = end_at pieces searches a b grown at

  pub record Agreeing : Type 0 where
    pub bound : Agrees s at (bound_item pieces searches a b grown).below
    pub locals : ItemsAgree s (locals_at pieces searches a b grown at) (locals_part pieces searches a b grown)
    pub code : ItemsAgree s first_line (code_part pieces searches a b grown)
    pub end : ItemsAgree s last_line (end_part pieces searches a b grown)
    pub clauses : ItemsAgree s (clauses_at pieces searches a b grown at) (clauses_part pieces searches a b grown)

  agreeing : Agreeing
  unfolding written.body
  agreeing =
      let one = segments.agree s (locals_at pieces searches a b grown at) (locals_part pieces searches a b grown) (code_part pieces searches a b grown ++ (end_part pieces searches a b grown ++ clauses_part pieces searches a b grown)) ag.1 in
      let two = segments.agree s first_line (code_part pieces searches a b grown) (end_part pieces searches a b grown ++ clauses_part pieces searches a b grown) one.1 in
      let three = segments.agree s last_line (end_part pieces searches a b grown) (clauses_part pieces searches a b grown) two.1 in
      record { bound = ag.0; locals = one.0; code = two.0; end = three.0; clauses = three.1 }

  abbrev some_end : Bool
  some_end = list_any (written.ends_last b.code) b.clauses

  abbrev last_label : List ℕ
  last_label = cond some_end (last_line ∷ []) []

  tail_by : (c : Bool) (o k : ℕ) → map (f.leaf_at 0) (f.below_each (pieces_at (p.ITEM_NAME ∷ []) k (cond c (written.label_line o ∷ []) []))) ≡ cond c (k ∷ []) []
  tail_by true o k = refl
  tail_by false o k = refl

  last_by : (c : Bool) (o k : ℕ) → ItemsAgree s k (cond c (written.label_line o ∷ []) []) → cond c (k ∷ []) [] ≡ k ∷ [] → spelling s k ≡ label o
  last_by true o k g e = g.0.0.text
  last_by false o k g e = absurd cc

  there_by : (c : Bool) → c ≡ true → cond c (last_line ∷ []) [] ≡ last_line ∷ []
  there_by true e = refl
  there_by false e = absurd (false≢true e)

  ins_are : instructions_of method ≡ parts_of (lines a b.code first_line 0 b.code)
  ins_are = stands.instructions ∙ (code_alone pieces searches a b grown at ∙ instructions_are a b.code (length b.code) b.code ((bodies_named a b).0 m).instructions first_line 0)

  labels_eq : labels method ≡ tokens_of (lines a b.code first_line 0 b.code) ++ last_label
  labels_eq =
      ap (λ ps. map (f.leaf_at 0) (f.below_each ps)) (stands.labels ∙ labels_alone pieces searches a b grown at)
      ∙ (labels_are a b.code searches b.code first_line 0 grows.code (pieces_at (p.ITEM_NAME ∷ []) last_line (end_part pieces searches a b grown))
      ∙ ap (λ ks. tokens_of (lines a b.code first_line 0 b.code) ++ ks) (tail_by some_end (offset_of b.code (length b.code)) last_line))

  number_of : (j : ℕ) → IsFound j (length b.code) last_label last_line → (k : ℕ) → spelling s k ≡ written.label_at b.code j → label_number s method k ≡ j
  number_of j is_found k e =
      number_is label_laws differ s method first_line (lines a b.code first_line 0 b.code) b.code last_line last_label ins_are labels_eq
      (lines_rise a b.code (length b.code) b.code ((bodies_named a b).0 m).instructions first_line 0) (spelled a b.code s b.code first_line 0 agreeing.code)
      (last_by some_end (offset_of b.code (length b.code)) last_line agreeing.end) few j is_found k e

  pub record Held : Type 0 where
    pub bound : nat_lt b.bound 0x10000 ≡ true
    pub locals : list_all is_type_held b.locals ≡ true
    pub code : list_all is_instruction_held b.code ≡ true
    pub clauses : list_all is_clause_held b.clauses ≡ true

  held : Held
  unfolding is_body_held
  held =
      let h1 = and_parts _ _ h in
      let h2 = and_parts _ _ h1.0 in
      let h3 = and_parts _ _ h2.0 in
      record { bound = h3.0; locals = h3.1; code = h2.1; clauses = h1.1 }

  code_eq : read.code s around method ≡ b.code
  unfolding read.code
  code_eq =
      ap (map (instruction s around method)) ins_are
      ∙ code_is numbers_read strings constants formed searches walks s around a knows method b.code (λ j low k e. number_of j (inl low) k e) b.code
      ((bodies_named a b).0 m).instructions ((bodies_named a b).0 m).operands held.code first_line 0 grows.code agreeing.code

  clauses_eq : clause.clauses s around method ≡ b.clauses
  unfolding written.body
  clauses_eq =
      let ends = end_part pieces searches a b grown in
      let handlers = clauses_part pieces searches a b grown in
      let code = code_part pieces searches a b grown in
      let from = locals_at pieces searches a b grown at in
      let last = clauses_at pieces searches a b grown at in
      ap (map (clause.clause s around method))
      (stands.clauses
      ∙ (guarded_joined from (locals_part pieces searches a b grown) (code ++ (ends ++ handlers))
      ∙ (ap (λ gs. gs ++ guarded_at first_line (code ++ (ends ++ handlers))) (no_clause_in_locals_by searches walks a (b.init || not (nat_eq (length b.locals) 0)) b.init b.locals grows.locals from)
      ∙ (guarded_joined first_line code (ends ++ handlers)
      ∙ (ap (λ gs. gs ++ guarded_at last_line (ends ++ handlers)) (no_clause_in_lines searches walks a b.code b.code first_line 0 grows.code)
      ∙ (guarded_joined last_line ends handlers
      ∙ ap (λ gs. gs ++ guarded_at last handlers) (no_clause_in_label searches walks a some_end (offset_of b.code (length b.code)) last_line)))))))
      ∙ clauses_are formed searches walks s around a knows method b.code last_label last_line number_of b.clauses ((bodies_named a b).0 m).ranges ((bodies_named a b).0 m).catches held.clauses
      (there_by some_end) last grows.clauses agreeing.clauses

  -- ---- locals, and the bound of the stack

  between_parts : (ts : List SigType) (from j : ℕ) →
      f.parts (p.LOCAL ∷ []) (f.branch (opt_production p.LOCALS_OPT_SOME p.LOCALS_OPT_NONE (written.locals_between a.externs (written.locals_from a.externs 0 ts))) (numbered from (opt_below (written.locals_between a.externs (written.locals_from a.externs 0 ts)))) (f.leaf j f.none))
      ≡ comma_parts from (written.locals_from a.externs 0 ts)
  between_parts [] from j = refl
  between_parts (t ∷ ts) from j =
      let rows = written.locals_from a.externs 0 (t ∷ ts) in
      let own = f.parts (p.LOCAL ∷ []) (numbered from (commas p.COMMA_LOCAL_STAR_MORE p.COMMA_LOCAL_STAR_END p.COMMA_LOCAL rows none)) in
      append-nil (own ++ [])
      ∙ (append-nil own
      ∙ segments.commas (p.LOCAL ∷ []) p.COMMA_LOCAL_STAR_MORE p.COMMA_LOCAL_STAR_END p.COMMA_LOCAL refl refl refl rows (locals_among a 0 (t ∷ ts)) from none (λ k. refl))

  between_agree : (ts : List SigType) (from : ℕ) → Agrees s from (opt_below (written.locals_between a.externs (written.locals_from a.externs 0 ts))) → CommasAgree s from (written.locals_from a.externs 0 ts)
  between_agree [] from g = tt
  between_agree (t ∷ ts) from g =
      segments.commas_agree s p.COMMA_LOCAL_STAR_MORE p.COMMA_LOCAL_STAR_END p.COMMA_LOCAL (written.locals_from a.externs 0 (t ∷ ts)) from none g.0

  locals_by_line : (c init : Bool) (ts : List SigType) → (init || not (nat_eq (length ts) 0)) ≡ c → list_all (is_type a) ts ≡ true → list_all is_type_held ts ≡ true →
      EachGrown n.ITEM (locals_by a c init ts) → (from : ℕ) → ItemsAgree s from (locals_by a c init ts) →
      map (the_type s around) (f.below_each (pieces_at (p.LOCAL ∷ []) from (locals_by a c init ts))) ≡ ts
  unfolding ilasm rule_by
  locals_by_line false init ts e q l g from i = (no_locals a init ts e).1
  locals_by_line true init ts e q l g from i =
      let shown = (locals_item a init ts).below in
      let place_of = place 4 from shown in
      ap (λ ps. map (the_type s around) (f.below_each (ps ++ [])))
      (searches.parts (p.LOCAL ∷ []) 3 (body_of p.ITEM_LOCALS) no_local_before shown g.1 from ∙ between_parts ts (place 3 from shown) place_of)
      ∙ (ap (λ ps. map (the_type s around) (f.below_each ps)) (append-nil (comma_parts (place 3 from shown) (written.locals_from a.externs 0 ts)))
      ∙ locals_are a formed s around knows ts q l (place 3 from shown) (between_agree ts (place 3 from shown) i.0.1.1.1.0))

  locals_eq : local_types s around method ≡ b.locals
  locals_eq =
      ap (λ ps. map (the_type s around) (f.below_each ps)) (stands.locals ∙ locals_alone pieces searches a b grown at)
      ∙ locals_by_line (b.init || not (nat_eq (length b.locals) 0)) b.init b.locals refl ((bodies_named a b).0 m).locals held.locals grows.locals (locals_at pieces searches a b grown at) agreeing.locals

  init_eq : f.has p.INIT_OPT_SOME method ≡ b.init
  init_eq =
      ap f.is_any_part (stands.init ∙ init_alone pieces searches a b grown at)
      ∙ init_by a searches (b.init || not (nat_eq (length b.locals) 0)) b.init b.locals refl grows.locals (locals_at pieces searches a b grown at) _ (behind_locals pieces searches a b grown at)

  small_bound : b.bound < 0x10000 → b.bound < 2 ^ 128
  small_bound l = omega arith

  bound_eq : read.bound s method ≡ b.bound
  bound_eq =
      ap (λ ps. fold (λ k l. natural (int_at s (f.leaf_at 1 l))) 8 (f.below_each ps)) (stands.bound ∙ bound_alone pieces searches a b grown at)
      ∙ ap natural (ap (λ t. integer t) agreeing.bound.1.0.text ∙ numbers_read.natural b.bound (small_bound (ltb-true b.bound 0x10000 held.bound)))

  some_code : (is : List Ins) → nat_lt 0 (length is) ≡ true →
      read.body_unless_empty s around method is
      ≡ Some (record { bound = read.bound s method; init = f.has p.INIT_OPT_SOME method; locals = local_types s around method; code = is; clauses = clause.clauses s around method })
  some_code [] l = absurd (false≢true l)
  some_code (i ∷ is) l = refl

  body_eq : read.body s around method ≡ Some b
  unfolding read.body
  body_eq =
      ap (read.body_unless_empty s around method) code_eq
      ∙ (some_code b.code ((bodies_named a b).0 m).some_code
      ∙ (λ i. Some (record { bound = bound_eq i; init = init_eq i; locals = locals_eq i; code = b.code; clauses = clauses_eq i })))

pub bodies_are_read : NumbersAreRead → LabelsDiffer → LabelsAreRead → StringsAreRead → ConstantsAreRead → FormedAreRead → SearchesPass → WalksPass → SegmentsAreRead → PiecesAreRead → BodiesAreRead
bodies_are_read numbers_read differ label_laws strings constants formed searches walks segments pieces s around a knows b m h few method at grown ag stands =
    body_eq numbers_read differ label_laws strings constants formed searches walks segments pieces s around a knows b m h few method at grown ag stands
