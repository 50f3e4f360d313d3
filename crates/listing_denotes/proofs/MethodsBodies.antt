-- The lines of a body break no rule.
use Rattle.std.proofs.Common.{◌≡◌, ◌||◌, ℕ, suc, ◌+◌, nat_eq, not, Bool, true, false, cond, List, [], ◌∷◌, ◌++◌, map, length, take, Option, None, Some, refl}
use Rattle.std.proofs.lemmas.Bool.{and_parts}
use Rattle.std.specs.List.{list_all, list_any}
use Rattle.il_lexer.specs.declared.word.TheConstants as word
use Rattle.ilasm_grammar.specs.Ilasm.{ilasm, rule_by, has_bit}
use Rattle.ilasm_grammar.specs.declared.nonterminals.TheConstants as n
use Rattle.ilasm_grammar.specs.declared.productions.TheConstants as p
use Rattle.opcode_table.specs.Opcodes as opcodes
use Rattle.opcode_table.specs.declared.op.Op.{Op}
use Rattle.type_terms.specs.declared.term.SigType.{SigType}
use Rattle.assembly_tree.specs.WellFormedBodies.{is_operand, is_handled, is_body, offset_of, size_of}
use Rattle.assembly_tree.specs.WellFormedTerms.{is_type}
use Rattle.assembly_tree.specs.declared.assembly.Assembly.{Assembly}
use Rattle.assembly_tree.specs.declared.body.Body.{Body}
use Rattle.assembly_tree.specs.declared.body.Clause.{Clause}
use Rattle.assembly_tree.specs.declared.body.ClauseKind as handles
use Rattle.assembly_tree.specs.declared.body.Ins.{Ins}
use Rattle.assembly_tree.specs.declared.body.Operand as operand
use Rattle.assembly_tree.proofs.FormedFacts.{bodies_named}
use Rattle.source_model.specs.Forest as f
use Rattle.source_model.specs.Nodes.{Around, nodes_in, entered}
use Rattle.source_model.specs.Source.{Source}
use Rattle.faultless_nodes.specs.Laws.{EachBreaksNothing, asked, UnaskedBreakNothing}
use Rattle.listing_declarations.specs.Laws.{IsListingOf}
use Rattle.listing_growth.specs.Held.{is_type_held, is_instruction_held, is_operand_held, is_clause_held, is_handled_held, is_body_held}
use Rattle.listing_model.specs.Bodies as written
use Rattle.listing_model.specs.Grown.{body_of, Grows}
use Rattle.listing_model.specs.Shown.{Shown, none, branch, Item, item, put, token, w, line, optional, when, size, star_production, star_below, behind_comma, opt_below}
use Rattle.listing_model.specs.Types.{type_below, owner}
use Rattle.listing_model.specs.References.{method_ref, field_ref}
use Rattle.listing_model.specs.Methods.{body_opt}
use Rattle.listing_leaves.specs.Numbers.{natural}
use Rattle.il_lexer.specs.declared.types.TokenKind.TheVariants as kind
use Rattle.assembly_tree.specs.WellFormedNames.{option_all}
use Rattle.listing_reading.specs.Below.{below, cant_stand}
use Rattle.listing_reading.specs.BelowMasks.{below_masks}
use Rattle.listing_reading.specs.Laws.{SearchesPass}
use Rattle.listing_reading.specs.Numbered.{numbered, place, Agrees}
use Rattle.listing_rows.specs.Laws.{SegmentsAreRead, PiecesAreRead}
use Rattle.listing_rows.specs.Segments.{end_of, ItemsAgree, EachGrown}
use Rattle.listing_denotes.specs.Quiet.{ItemsBreakNothing, RowsBreakNothing}
use Rattle.listing_denotes.specs.Terms.{TermsBreakNothing}
use Rattle.listing_denotes.specs.References.{IsQuiet, ReferencesBreakNothing}

-- ---- forms of instructions in which nothing is asked

none_in_none : cant_stand asked (body_of p.INSTRUCTION_OP_NONE) ≡ true
unfolding ilasm rule_by has_bit below below_masks
none_in_none = refl

none_in_var : cant_stand asked (body_of p.INSTRUCTION_OP_VAR) ≡ true
unfolding ilasm rule_by has_bit below below_masks
none_in_var = refl

none_in_num : cant_stand asked (body_of p.INSTRUCTION_OP_NUM) ≡ true
unfolding ilasm rule_by has_bit below below_masks
none_in_num = refl

none_in_real : cant_stand asked (body_of p.INSTRUCTION_OP_REAL) ≡ true
unfolding ilasm rule_by has_bit below below_masks
none_in_real = refl

none_in_branch : cant_stand asked (body_of p.INSTRUCTION_OP_BRANCH) ≡ true
unfolding ilasm rule_by has_bit below below_masks
none_in_branch = refl

none_in_switch : cant_stand asked (body_of p.INSTRUCTION_SWITCH) ≡ true
unfolding ilasm rule_by has_bit below below_masks
none_in_switch = refl

none_in_text : cant_stand asked (body_of p.INSTRUCTION_LDSTR) ≡ true
unfolding ilasm rule_by has_bit below below_masks
none_in_text = refl

none_before_method : cant_stand asked (take 1 (body_of p.INSTRUCTION_OP_METHOD)) ≡ true
unfolding ilasm rule_by has_bit below below_masks
none_before_method = refl

none_before_field : cant_stand asked (take 1 (body_of p.INSTRUCTION_OP_FIELD)) ≡ true
unfolding ilasm rule_by has_bit below below_masks
none_before_field = refl

none_before_type : cant_stand asked (take 1 (body_of p.INSTRUCTION_OP_TYPE)) ≡ true
unfolding ilasm rule_by has_bit below below_masks
none_before_type = refl

-- what stands below the production of the line of locals
abbrev pub locals_below : Assembly → Bool → List SigType → Shown
locals_below a init ts =
    line word.DOT_LOCALS
    (optional p.INIT_OPT_SOME p.INIT_OPT_NONE (when init (w word.INIT none))
    (w word.OPEN_PAREN (optional p.LOCALS_OPT_SOME p.LOCALS_OPT_NONE (written.locals_between a.externs (written.locals_from a.externs 0 ts)) (w word.CLOSE_PAREN none))))

module _ (unasked : UnaskedBreakNothing) (rows : RowsBreakNothing) (segments : SegmentsAreRead) (pieces : PiecesAreRead) (searches : SearchesPass) (terms : TermsBreakNothing) (references : ReferencesBreakNothing)
    (s : Source) (a : Assembly) (listed : IsListingOf s a) (x : Around) where
  -- what can hold nothing of which a rule speaks
  plain : (q : ℕ) → f.is_among asked q ≡ false → cant_stand asked (body_of q) ≡ true → (b : Shown) → Grows (body_of q) b → (at : ℕ) → EachBreaksNothing s (nodes_in s x (f.branch q (numbered at b) f.none))
  plain q e c b g at =
      let around = entered s x q (numbered at b) in
      unasked.branch s x q (numbered at b) f.none (unasked.node s (record { production = q; below = numbered at b; around = around }) e)
      (unasked.forest s around (numbered at b) (searches.nothing asked (body_of q) c b g at)) tt

  -- ---- operands

  abbrev Quiet : Item → Type 0
  Quiet i = Grows (body_of i.production) i.below → (at : ℕ) → Agrees s at i.below → EachBreaksNothing s (nodes_in s x (f.branch i.production (numbered at i.below) f.none))

  token_quiet : (code : List Ins) (o : operand.Operand) → is_operand a o ≡ true → is_operand_held o ≡ true → (at : ℕ) → Agrees s at (put (written.token_item a.externs code o) none) →
      EachBreaksNothing s (nodes_in s x (numbered at (put (written.token_item a.externs code o) none)))
  token_quiet code (operand.TheVariants.Method m) c h at ag =
      let own = put (method_ref a.externs m) none in
      unasked.branch s x p.TOKEN_OPERAND_METHOD (f.leaf at (numbered (suc at) own)) f.none (unasked.node s _ refl) (references.methods s a listed x m c h (suc at) ag.0.1.0 f.none tt) tt
  token_quiet code (operand.TheVariants.Field y) c h at ag =
      let own = put (field_ref a.externs y) none in
      unasked.branch s x p.TOKEN_OPERAND_FIELD (f.leaf at (numbered (suc at) own)) f.none (unasked.node s _ refl) (references.fields s a listed x y c h (suc at) ag.0.1.0 f.none tt) tt
  token_quiet code (operand.TheVariants.Of o) c h at ag =
      let own = put (owner a.externs o) none in
      unasked.branch s x p.TOKEN_OPERAND_SPEC (numbered at own) f.none (unasked.node s _ refl) (terms.owners s a listed x o c h at ag.0.0 f.none tt) tt
  token_quiet code operand.TheVariants.Nothing c h at ag = (unasked.node s _ refl, tt)
  token_quiet code (operand.TheVariants.Var k) c h at ag = (unasked.node s _ refl, tt)
  token_quiet code (operand.TheVariants.Int k) c h at ag = (unasked.node s _ refl, tt)
  token_quiet code (operand.TheVariants.Real k) c h at ag = (unasked.node s _ refl, tt)
  token_quiet code (operand.TheVariants.Target k) c h at ag = (unasked.node s _ refl, tt)
  token_quiet code (operand.TheVariants.Targets k) c h at ag = (unasked.node s _ refl, tt)
  token_quiet code (operand.TheVariants.Text k) c h at ag = (unasked.node s _ refl, tt)

  operand_quiet : (code : List Ins) (op : Op) (o : operand.Operand) → is_operand a o ≡ true → is_operand_held o ≡ true → Quiet (written.operand_item a.externs code op o)
  operand_quiet code op operand.TheVariants.Nothing c h g at ag = plain p.INSTRUCTION_OP_NONE refl none_in_none (written.operand_item a.externs code op operand.TheVariants.Nothing).below g at
  operand_quiet code op (operand.TheVariants.Var k) c h g at ag = plain p.INSTRUCTION_OP_VAR refl none_in_var (written.operand_item a.externs code op (operand.TheVariants.Var k)).below g at
  operand_quiet code op (operand.TheVariants.Int k) c h g at ag = plain p.INSTRUCTION_OP_NUM refl none_in_num (written.operand_item a.externs code op (operand.TheVariants.Int k)).below g at
  operand_quiet code op (operand.TheVariants.Real k) c h g at ag = plain p.INSTRUCTION_OP_REAL refl none_in_real (written.operand_item a.externs code op (operand.TheVariants.Real k)).below g at
  operand_quiet code op (operand.TheVariants.Target k) c h g at ag = plain p.INSTRUCTION_OP_BRANCH refl none_in_branch (written.operand_item a.externs code op (operand.TheVariants.Target k)).below g at
  operand_quiet code op (operand.TheVariants.Targets k) c h g at ag = plain p.INSTRUCTION_SWITCH refl none_in_switch (written.operand_item a.externs code op (operand.TheVariants.Targets k)).below g at
  operand_quiet code op (operand.TheVariants.Text k) c h g at ag = plain p.INSTRUCTION_LDSTR refl none_in_text (written.operand_item a.externs code op (operand.TheVariants.Text k)).below g at
  operand_quiet code op (operand.TheVariants.Method m) c h g at ag =
      let shown = (written.operand_item a.externs code op (operand.TheVariants.Method m)).below in
      unasked.branch s x p.INSTRUCTION_OP_METHOD (numbered at shown) f.none (unasked.node s _ refl)
      (rows.past s x 1 (body_of p.INSTRUCTION_OP_METHOD) none_before_method shown g at (references.methods s a listed x m c h (place 1 at shown) ag.1.0 f.none tt)) tt
  operand_quiet code op (operand.TheVariants.Field y) c h g at ag =
      let shown = (written.operand_item a.externs code op (operand.TheVariants.Field y)).below in
      unasked.branch s x p.INSTRUCTION_OP_FIELD (numbered at shown) f.none (unasked.node s _ refl)
      (rows.past s x 1 (body_of p.INSTRUCTION_OP_FIELD) none_before_field shown g at (references.fields s a listed x y c h (place 1 at shown) ag.1.0 f.none tt)) tt
  operand_quiet code op (operand.TheVariants.Of o) c h g at ag =
      let shown = (written.operand_item a.externs code op (operand.TheVariants.Of o)).below in
      unasked.branch s x p.INSTRUCTION_OP_TYPE (numbered at shown) f.none (unasked.node s _ refl)
      (rows.past s x 1 (body_of p.INSTRUCTION_OP_TYPE) none_before_type shown g at (terms.owners s a listed x o c h (place 1 at shown) ag.1.0 f.none tt)) tt

  -- an instruction, whichever of its two ways it is written
  written_quiet : (code : List Ins) (op : Op) (o : operand.Operand) → is_operand a o ≡ true → is_operand_held o ≡ true → (b : Bool) →
      Quiet (cond b (item p.INSTRUCTION_LDTOKEN (w word.LDTOKEN (put (written.token_item a.externs code o) none))) (written.operand_item a.externs code op o))
  written_quiet code op o c h true g at ag =
      unasked.branch s x p.INSTRUCTION_LDTOKEN (f.leaf at (numbered (suc at) (put (written.token_item a.externs code o) none))) f.none (unasked.node s _ refl) (token_quiet code o c h (suc at) ag.1) tt
  written_quiet code op o c h false g at ag = operand_quiet code op o c h g at ag

  instruction_quiet : (code : List Ins) (i : Ins) → is_operand a i.operand ≡ true → is_instruction_held i ≡ true → Quiet (item p.ITEM_INSTRUCTION (put (written.instruction a.externs code i) none))
  unfolding ilasm rule_by is_instruction_held
  instruction_quiet code i c h g at ag =
      unasked.branch s x p.ITEM_INSTRUCTION (numbered at (put (written.instruction a.externs code i) none)) f.none (unasked.node s _ refl)
      (written_quiet code i.op i.operand c h (written.is_token (opcodes.kind_of i.op)) g.1 at ag.0) tt

  code_quiet : (code : List Ins) (is : List Ins) → list_all (λ i. is_operand a i.operand) is ≡ true → list_all is_instruction_held is ≡ true → (o at : ℕ) → EachGrown n.ITEM (written.instructions a.externs code o is) →
      ItemsAgree s at (written.instructions a.externs code o is) → ItemsBreakNothing s x at (written.instructions a.externs code o is)
  code_quiet code [] c h o at g ag = tt
  code_quiet code (i ∷ is) c h o at g ag =
      let cs = and_parts (is_operand a i.operand) (list_all (λ j. is_operand a j.operand) is) c in
      let hs = and_parts (is_instruction_held i) (list_all is_instruction_held is) h in
      let label = written.label_line o in
      let own = item p.ITEM_INSTRUCTION (put (written.instruction a.externs code i) none) in (
        (unasked.node s _ refl, tt),
        (
          instruction_quiet code i cs.0 hs.0 g.2.1 (at + size label.below) ag.1.0,
          code_quiet code is cs.1 hs.1 (o + size_of i) (at + size label.below + size own.below) g.2.2 ag.1.1,
        ),
      )

  -- ---- locals

  local_quiet : (k : ℕ) (t : SigType) → is_type a t ≡ true → is_type_held t ≡ true → (at : ℕ) → Agrees s at (written.local a.externs k t).below → (after : f.Forest) → EachBreaksNothing s (nodes_in s x after) →
      EachBreaksNothing s (nodes_in s x (f.branch p.LOCAL (numbered at (written.local a.externs k t).below) after))
  local_quiet k t c h at ag after r =
      let named = f.branch p.NAME_OPT_NONE f.none f.none in
      let from = at + 3 in
      let typed = f.branch p.TYPE (numbered from (type_below a.externs t)) named in
      unasked.branch s x p.LOCAL (numbered at (written.local a.externs k t).below) after (unasked.node s _ refl)
      (unasked.node s _ refl, (unasked.node s _ refl, terms.types s a listed x t c h from ag.1.0 named (unasked.node s _ refl, tt))) r

  behind_locals : (k : ℕ) (ts : List SigType) → list_all (is_type a) ts ≡ true → list_all is_type_held ts ≡ true → (at : ℕ) → ItemsAgree s at (map (behind_comma p.COMMA_LOCAL) (written.locals_from a.externs k ts)) →
      ItemsBreakNothing s x at (map (behind_comma p.COMMA_LOCAL) (written.locals_from a.externs k ts))
  behind_locals k [] c h at ag = tt
  behind_locals k (t ∷ ts) c h at ag =
      let cs = and_parts (is_type a t) (list_all (is_type a) ts) c in
      let hs = and_parts (is_type_held t) (list_all is_type_held ts) h in
      let own = written.local a.externs k t in (
        unasked.branch s x p.COMMA_LOCAL (f.leaf at (f.branch p.LOCAL (numbered (suc at) own.below) f.none)) f.none (unasked.node s _ refl) (local_quiet k t cs.0 hs.0 (suc at) ag.0.1.0 f.none tt) tt,
        behind_locals (suc k) ts cs.1 hs.1 (at + size (behind_comma p.COMMA_LOCAL own).below) ag.1,
      )

  between_then : (ts : List SigType) → list_all (is_type a) ts ≡ true → list_all is_type_held ts ≡ true → (after : Shown) → IsQuiet s x after →
      IsQuiet s x (optional p.LOCALS_OPT_SOME p.LOCALS_OPT_NONE (written.locals_between a.externs (written.locals_from a.externs 0 ts)) after)
  between_then [] c h after r at ag = (unasked.node s _ refl, r (at + 0) ag.1)
  between_then (t ∷ ts) c h after r at ag =
      let cs = and_parts (is_type a t) (list_all (is_type a) ts) c in
      let hs = and_parts (is_type_held t) (list_all is_type_held ts) h in
      let own = written.local a.externs 0 t in
      let others = map (behind_comma p.COMMA_LOCAL) (written.locals_from a.externs 1 ts) in
      let from = at + size own.below in
      let row = f.branch (star_production p.COMMA_LOCAL_STAR_MORE p.COMMA_LOCAL_STAR_END others) (numbered from (star_below p.COMMA_LOCAL_STAR_MORE p.COMMA_LOCAL_STAR_END others)) f.none in
      let first = f.branch p.LOCAL (numbered at own.below) row in
      let next = at + size (opt_below (written.locals_between a.externs (written.locals_from a.externs 0 (t ∷ ts)))) in
      unasked.branch s x p.LOCALS_OPT_SOME (f.branch p.LOCALS first f.none) (numbered next after) (unasked.node s _ refl)
      (unasked.branch s x p.LOCALS first f.none (unasked.node s _ refl)
      (local_quiet 0 t cs.0 hs.0 at ag.0.0.0 row
      (rows.row s x p.COMMA_LOCAL_STAR_MORE p.COMMA_LOCAL_STAR_END refl refl others from f.none
      (behind_locals 1 ts cs.1 hs.1 from (segments.row s p.COMMA_LOCAL_STAR_MORE p.COMMA_LOCAL_STAR_END others from ag.0.0.1.0)) tt)) tt)
      (r next ag.1)

  locals_quiet : (init : Bool) (ts : List SigType) → list_all (is_type a) ts ≡ true → list_all is_type_held ts ≡ true → (at : ℕ) → ItemsAgree s at (written.locals a.externs init ts) →
      ItemsBreakNothing s x at (written.locals a.externs init ts)
  locals_quiet init ts c h at ag = by (init || not (nat_eq (length ts) 0)) init ag
    where
      behind : IsQuiet s x (w word.OPEN_PAREN (optional p.LOCALS_OPT_SOME p.LOCALS_OPT_NONE (written.locals_between a.externs (written.locals_from a.externs 0 ts)) (w word.CLOSE_PAREN none)))
      behind j i = between_then ts c h (w word.CLOSE_PAREN none) (λ y z. tt) (suc j) i.1

      inside : (i : Bool) (j : ℕ) → Agrees s j (locals_below a i ts) → EachBreaksNothing s (nodes_in s x (numbered j (locals_below a i ts)))
      inside true j d = (unasked.node s _ refl, behind (suc j + 1) d.1.1)
      inside false j d = (unasked.node s _ refl, behind (suc j + 0) d.1.1)

      by : (b i : Bool) → ItemsAgree s at (cond b (item p.ITEM_LOCALS (locals_below a i ts) ∷ []) []) → ItemsBreakNothing s x at (cond b (item p.ITEM_LOCALS (locals_below a i ts) ∷ []) [])
      by false i d = tt
      by true i d = (unasked.branch s x p.ITEM_LOCALS (numbered at (locals_below a i ts)) f.none (unasked.node s _ refl) (inside i at d.0) tt, tt)

  -- ---- clauses

  handled_quiet : (code : List Ins) (c : Clause) (k : handles.ClauseKind) → is_handled a k ≡ true → is_handled_held k ≡ true → (at : ℕ) → Agrees s at (written.handled a.externs code c k).below → (after : f.Forest) →
      EachBreaksNothing s (nodes_in s x after) → EachBreaksNothing s (nodes_in s x (f.branch (written.handled a.externs code c k).production (numbered at (written.handled a.externs code c k).below) after))
  handled_quiet code c (handles.TheVariants.Catch o) m h at ag after r =
      let own = owner a.externs o in
      let last = numbered (suc at + size own.below) (written.handler a.externs code c) in
      unasked.branch s x p.CLAUSE_CATCH (f.leaf at (f.branch own.production (numbered (suc at) own.below) last)) after (unasked.node s _ refl)
      (terms.owners s a listed x o m h (suc at) ag.1.0 last (unasked.node s _ refl, tt)) r
  handled_quiet code c (handles.TheVariants.Filter k) m h at ag after r = (unasked.node s _ refl, (unasked.node s _ refl, (unasked.node s _ refl, r)))
  handled_quiet code c handles.TheVariants.Finally m h at ag after r = (unasked.node s _ refl, (unasked.node s _ refl, r))
  handled_quiet code c handles.TheVariants.Fault m h at ag after r = (unasked.node s _ refl, (unasked.node s _ refl, r))

  clauses_quiet : (code : List Ins) (cs : List Clause) → list_all (λ c. is_handled a c.kind) cs ≡ true → list_all is_clause_held cs ≡ true → (at : ℕ) → ItemsAgree s at (map (written.clause a.externs code) cs) →
      ItemsBreakNothing s x at (map (written.clause a.externs code) cs)
  unfolding is_clause_held
  clauses_quiet code [] m h at ag = tt
  clauses_quiet code (c ∷ cs) m h at ag =
      let ms = and_parts (is_handled a c.kind) (list_all (λ d. is_handled a d.kind) cs) m in
      let hs = and_parts (is_clause_held c) (list_all is_clause_held cs) h in
      let own = written.handled a.externs code c c.kind in
      let from = suc at + 3 in
      let last = numbered (from + size own.below) (branch p.CLAUSE_STAR_END none none) in (
        unasked.branch s x p.ITEM_TRY (numbered at (written.clause a.externs code c).below) f.none (unasked.node s _ refl)
            (unasked.node s _ refl, handled_quiet code c c.kind ms.0 hs.0 from ag.0.1.1.0 last (unasked.node s _ refl, tt)) tt,
        clauses_quiet code cs ms.1 hs.1 (at + size (written.clause a.externs code c).below) ag.1,
      )

  -- ---- the whole body

  body_quiet : (b : Body) → is_body a b ≡ true → is_body_held b ≡ true → (at : ℕ) → EachGrown n.ITEM (written.body a.externs b) → ItemsAgree s at (written.body a.externs b) → ItemsBreakNothing s x at (written.body a.externs b)
  unfolding written.body is_body_held
  body_quiet b m h at g ag =
      let good = (bodies_named a b).0 m in
      let h1 = and_parts _ _ h in
      let h2 = and_parts _ _ h1.0 in
      let h3 = and_parts _ _ h2.0 in
      let first = item p.ITEM_MAXSTACK (line word.DOT_MAXSTACK (token kind.Int (natural b.bound) none)) in
      let j1 = at + size first.below in
      let locals = written.locals a.externs b.init b.locals in
      let code = written.instructions a.externs b.code 0 b.code in
      let end = written.end_label a.externs b in
      let clauses = map (written.clause a.externs b.code) b.clauses in
      let p1 = segments.agree s j1 locals (code ++ (end ++ clauses)) ag.1 in
      let j2 = end_of j1 locals in
      let p2 = segments.agree s j2 code (end ++ clauses) p1.1 in
      let j3 = end_of j2 code in
      let p3 = segments.agree s j3 end clauses p2.1 in
      let g1 = pieces.each n.ITEM locals (code ++ (end ++ clauses)) g.2 in
      let g2 = pieces.each n.ITEM code (end ++ clauses) g1.1 in (
        (unasked.node s _ refl, tt),
        rows.joined s x j1 locals (code ++ (end ++ clauses)) (locals_quiet b.init b.locals good.locals h3.1 j1 p1.0)
            (rows.joined s x j2 code (end ++ clauses) (code_quiet b.code b.code good.operands h2.1 0 j2 g2.0 p2.0)
            (rows.joined s x j3 end clauses (end_quiet (list_any (written.ends_last b.code) b.clauses) (offset_of b.code (length b.code)) j3)
            (clauses_quiet b.code b.clauses good.catches h1.1 (end_of j3 end) p3.1))),
      )
    where
      end_quiet : (c : Bool) (o j : ℕ) → ItemsBreakNothing s x j (cond c (written.label_line o ∷ []) [])
      end_quiet true o j = ((unasked.node s _ refl, tt), tt)
      end_quiet false o j = tt

  pub bodies_quiet : (b : Option Body) → option_all (is_body a) b ≡ true → option_all is_body_held b ≡ true → (at : ℕ) →
      EachGrown n.ITEM (body_opt a.externs b) → ItemsAgree s at (body_opt a.externs b) → ItemsBreakNothing s x at (body_opt a.externs b)
  bodies_quiet None m h at g ag = tt
  bodies_quiet (Some b) m h at g ag = body_quiet b m h at g ag
