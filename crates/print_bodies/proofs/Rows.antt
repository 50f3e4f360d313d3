-- Rows of a body: targets, locals, instructions and clauses, drawn one after the other.
use Rattle.std.proofs.Common.{◌≡◌, ℕ, suc, ◌+◌, ◌<◌, ◌||◌, not, ◌==◌, Bool, true, false, cond, List, [], ◌∷◌, ◌++◌, length, map, fold, drop, get_or, Option, None, Some, refl, ap, sym, ◌∙◌, arith}
use Rattle.std.specs.List.{list_any}
use Rattle.il_lexer.specs.declared.word.TheConstants as word
use Rattle.ilasm_grammar.specs.declared.productions.TheConstants as p
use Rattle.type_terms.specs.declared.term.SigType.{SigType}
use Rattle.assembly_tree.specs.WellFormedBodies.{size_of, offset_of}
use Rattle.assembly_tree.specs.declared.assembly.ExternAssembly.{ExternAssembly}
use Rattle.assembly_tree.specs.declared.body.Body.{Body}
use Rattle.assembly_tree.specs.declared.body.Clause.{Clause}
use Rattle.assembly_tree.specs.declared.body.Ins.{Ins}
use Rattle.assembly_tree.specs.declared.body.Operand as operand
use Rattle.opcode_table.specs.Opcodes as opcodes
use Rattle.opcode_table.specs.declared.kind.OperandKind.{OperandKind}
use Rattle.listing_leaves.specs.Numbers.{natural}
use Rattle.il_lexer.specs.declared.types.TokenKind.TheVariants as kind
use Rattle.listing_model.specs.Bodies.{is_token, token_item, operand_item, comma_name, targets, to_label, label_line, instruction, instructions, clause, ends_last, local, locals_from, locals_between, locals, end_label, body}
use Rattle.listing_model.specs.Shown.{none, item, put, token, w, line, opt_below}
use Rattle.print_leaves.specs.Page.{Page, drawn}
use Rattle.print_terms.specs.Rows.{under, in_row, behind, between}
use Rattle.print_terms.proofs.Rows.{star_map, row_append, row_map, commas_between}
use Rattle.print_members.proofs.Steps.{drop_at}
use Rattle.print_bodies.specs.Lines.{token_drawn, end_drawn, code_drawn, init_opt, locals_line}

-- ---- targets

pub targets_done : (code : List Ins) (q a new : Page) (k : ℕ) (ks all : List ℕ) → all ≡ k ∷ ks → a ≡ drawn q (to_label code k none) →
    new ≡ fold (λ r j. under r (comma_name code j)) a ks → new ≡ drawn q (opt_below (targets code all))
targets_done code q a new k ks all e ha hn =
    hn
    ∙ (ap (λ r. fold (λ r j. under r (comma_name code j)) r ks) ha
    ∙ (sym (star_map p.COMMA_NAME_STAR_MORE p.COMMA_NAME_STAR_END (comma_name code) (drawn q (to_label code k none)) ks)
    ∙ ap (λ xs. drawn q (opt_below (targets code xs))) (sym e)))

module _ (externs : List ExternAssembly) where
  -- ---- instructions

  token_is : (code : List Ins) (q : Page) (o : operand.Operand) → token_drawn externs q o ≡ under q (token_item externs code o)
  token_is code q operand.TheVariants.Nothing = refl
  token_is code q (operand.TheVariants.Var k) = refl
  token_is code q (operand.TheVariants.Int z) = refl
  token_is code q (operand.TheVariants.Real bits) = refl
  token_is code q (operand.TheVariants.Target k) = refl
  token_is code q (operand.TheVariants.Targets ks) = refl
  token_is code q (operand.TheVariants.Method m) = refl
  token_is code q (operand.TheVariants.Field f) = refl
  token_is code q (operand.TheVariants.Of o) = refl
  token_is code q (operand.TheVariants.Text units) = refl

  pub token_done : (code : List Ins) (q a new : Page) (i : Ins) (k : OperandKind) (t : Bool) → k ≡ opcodes.kind_of i.op → t ≡ is_token k → t ≡ true →
      a ≡ drawn q (w word.LDTOKEN none) → new ≡ token_drawn externs a i.operand → new ≡ under q (instruction externs code i)
  token_done code q a new i k t ek et e ha hn =
      let is : true ≡ is_token (opcodes.kind_of i.op) = sym e ∙ (et ∙ ap is_token ek) in
      hn
      ∙ (ap (λ r. token_drawn externs r i.operand) ha
      ∙ (token_is code (drawn q (w word.LDTOKEN none)) i.operand
      ∙ ap (λ b. under q (cond b (item p.INSTRUCTION_LDTOKEN (w word.LDTOKEN (put (token_item externs code i.operand) none))) (operand_item externs code i.op i.operand))) is))

  pub instructions_step : (code : List Ins) (q a b goal : Page) (o next k : ℕ) (i : Ins) (all : List Ins) → k < length all → i ≡ get_or all k i →
      a ≡ under q (label_line o) → b ≡ under a (instruction externs code i) → next ≡ o + size_of i →
      in_row q (instructions externs code o (drop k all)) ≡ goal → in_row b (instructions externs code next (drop (k + 1) all)) ≡ goal
  instructions_step code q a b goal o next k i all h e ha hb hn so =
      ap (λ r. in_row r (instructions externs code next (drop (k + 1) all))) (hb ∙ ap (λ r. under r (instruction externs code i)) ha)
      ∙ (ap (λ n. in_row (under (under q (label_line o)) (instruction externs code i)) (instructions externs code n (drop (k + 1) all))) hn
      ∙ (sym (ap (λ xs. in_row q (instructions externs code o xs)) (drop_at all k i h e)) ∙ so))

  -- ---- locals

  pub locals_step : (q a b goal : Page) (k : ℕ) (t : SigType) (ts : List SigType) → k < length ts → t ≡ get_or ts k t →
      a ≡ drawn q (w word.COMMA none) → b ≡ under a (local externs (k + 1) t) →
      fold behind q (locals_from externs (suc k) (drop k ts)) ≡ goal → fold behind b (locals_from externs (suc (k + 1)) (drop (k + 1) ts)) ≡ goal
  locals_step q a b goal k t ts h e ha hb so =
      ap (λ r. fold behind r (locals_from externs (suc (k + 1)) (drop (k + 1) ts))) (hb ∙ ap (λ r. under r (local externs (k + 1) t)) ha)
      ∙ (ap (λ n. fold behind (under (drawn q (w word.COMMA none)) (local externs n t)) (locals_from externs (suc n) (drop (k + 1) ts))) {x = k + 1} {y = suc k} (omega arith)
      ∙ (sym (ap (λ xs. fold behind q (locals_from externs (suc k) xs)) (drop_at ts k t h e)) ∙ so))

  -- the line of locals behind its parenthesis
  pub between_locals : (q : Page) (ts : List SigType) → drawn q (opt_below (locals_between externs (locals_from externs 0 ts))) ≡ between q (locals_from externs 0 ts)
  between_locals q [] = refl
  between_locals q (t ∷ ts) = commas_between p.COMMA_LOCAL_STAR_MORE p.COMMA_LOCAL_STAR_END p.COMMA_LOCAL q (locals_from externs 0 (t ∷ ts)) none

  pub line_done : (q a b c d new : Page) (init : Bool) (ts : List SigType) → a ≡ drawn q (line word.DOT_LOCALS none) → b ≡ drawn a (init_opt init none) →
      c ≡ drawn b (w word.OPEN_PAREN none) → d ≡ between c (locals_from externs 0 ts) → new ≡ drawn d (w word.CLOSE_PAREN none) →
      new ≡ drawn q (locals_line externs init ts)
  line_done q a b c d new init ts ha hb hc hd hn =
      let opened = drawn (drawn (drawn q (line word.DOT_LOCALS none)) (init_opt init none)) (w word.OPEN_PAREN none) in
      hn
      ∙ ap (λ r. drawn r (w word.CLOSE_PAREN none))
      (hd
      ∙ (ap (λ r. between r (locals_from externs 0 ts))
      (hc ∙ ap (λ r. drawn r (w word.OPEN_PAREN none)) (hb ∙ ap (λ r. drawn r (init_opt init none)) ha))
      ∙ sym (between_locals opened ts)))

  -- ---- bodies

  clauses_are : (q : Page) (code : List Ins) (cs : List Clause) → in_row q (map (clause externs code) cs) ≡ fold (λ r c. under r (clause externs code c)) q cs
  clauses_are q code cs = row_map (clause externs code) q cs

  end_by : (q : Page) (t : Bool) (offset : ℕ) → in_row q (cond t (label_line offset ∷ []) []) ≡ end_drawn q t offset
  end_by q true offset = refl
  end_by q false offset = refl

  pub code_is : (q : Page) (b : Body) →
      in_row q (instructions externs b.code 0 b.code ++ (end_label externs b ++ map (clause externs b.code) b.clauses))
      ≡ code_drawn externs q b.code b.clauses
  code_is q b =
      let ends = end_label externs b in
      let cs = map (clause externs b.code) b.clauses in
      let first = in_row q (instructions externs b.code 0 b.code) in
      row_append q (instructions externs b.code 0 b.code) (ends ++ cs)
      ∙ (row_append first ends cs
      ∙ (ap (λ r. in_row r cs) (end_by first (list_any (ends_last b.code) b.clauses) (offset_of b.code (length b.code)))
      ∙ clauses_are (end_drawn first (list_any (ends_last b.code) b.clauses) (offset_of b.code (length b.code))) b.code b.clauses))

  pub code_done : (q a b new : Page) (code all : List Ins) (cs : List Clause) (ends : Bool) (offset n : ℕ) → all ≡ code →
      a ≡ in_row q (instructions externs all 0 code) → ends ≡ list_any (ends_last code) cs → n ≡ length code → offset ≡ offset_of all n →
      b ≡ end_drawn a ends offset → new ≡ fold (λ r c. under r (clause externs all c)) b cs → new ≡ code_drawn externs q code cs
  code_done q a b new code all cs ends offset n e ha ht en ho hb hn =
      let last = list_any (ends_last code) cs in
      hn
      ∙ (ap (λ is. fold (λ r c. under r (clause externs is c)) b cs) e
      ∙ ap (λ r. fold (λ r c. under r (clause externs code c)) r cs)
      (hb
      ∙ (ap (λ t. end_drawn a t offset) ht
      ∙ (ap (λ o. end_drawn a last o) (ho ∙ (ap (λ is. offset_of is n) e ∙ ap (λ m. offset_of code m) en))
      ∙ ap (λ r. end_drawn r last (offset_of code (length code))) (ha ∙ ap (λ is. in_row q (instructions externs is 0 code)) e)))))

  pub body_done : (q a c d new : Page) (b : Body) (n : ℕ) (ts : List SigType) (code : List Ins) (cs : List Clause) → n ≡ b.bound → ts ≡ b.locals → code ≡ b.code → cs ≡ b.clauses →
      a ≡ drawn q (line word.DOT_MAXSTACK none) → c ≡ drawn a (token kind.Int (natural n) none) →
      d ≡ in_row c (locals externs b.init ts) → new ≡ code_drawn externs d code cs → new ≡ in_row q (body externs b)
  unfolding body
  body_done q a c d new b n ts code cs en et ec es ha hc hd hn =
      let front = drawn (drawn q (line word.DOT_MAXSTACK none)) (token kind.Int (natural b.bound) none) in
      hn
      ∙ (ap (λ r. code_drawn externs r code cs)
      (hd ∙ (ap (λ r. in_row r (locals externs b.init ts)) (hc ∙ (ap (λ m. drawn a (token kind.Int (natural m) none)) en ∙ ap (λ r. drawn r (token kind.Int (natural b.bound) none)) ha))
      ∙ ap (λ xs. in_row front (locals externs b.init xs)) et))
      ∙ (ap (λ xs. code_drawn externs (in_row front (locals externs b.init b.locals)) xs cs) ec
      ∙ (ap (λ xs. code_drawn externs (in_row front (locals externs b.init b.locals)) b.code xs) es
      ∙ (sym (code_is (in_row front (locals externs b.init b.locals)) b)
      ∙ sym (row_append front (locals externs b.init b.locals)
      (instructions externs b.code 0 b.code ++ (end_label externs b ++ map (clause externs b.code) b.clauses)))))))
