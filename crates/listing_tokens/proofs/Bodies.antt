-- Bodies of methods are sound.
use Rattle.std.proofs.Common.{◌≡◌, ℕ, zero, suc, ◌+◌, ◌^◌, ◌<◌, ◌≤◌, ◌||◌, not, nat_eq, Bool, true, false, cond, ℤ, List, [], ◌∷◌, ◌++◌, map, take, length, refl, sym, subst, append_assoc, arith}
use Rattle.std.proofs.lemmas.Bool.{and_parts, ltb-true, false≢true}
use Rattle.std.proofs.lemmas.List.Sums.{sum_by-cons}
use Rattle.std.specs.List.{list_all, list_any}
use Rattle.std.specs.Prelude.{sum_by}
use lib.Signed.{mag}
use Rattle.il_lexer.specs.WordList.{words}
use Rattle.il_lexer.specs.declared.types.TokenKind.TheVariants as kind
use Rattle.il_lexer.specs.declared.word.TheConstants as word
use Rattle.ilasm_grammar.specs.declared.productions.TheConstants as p
use Rattle.opcode_table.specs.Opcodes.{kind_of}
use Rattle.opcode_table.specs.Sizes.{opcode_size}
use Rattle.opcode_table.specs.declared.kind.OperandKind.{OperandKind}
use Rattle.opcode_table.specs.declared.kind.OperandKind.TheVariants as form
use Rattle.opcode_table.specs.declared.op.Op.{Op}
use Rattle.opcode_table.specs.declared.op.Op.TheVariants.{Br}
use Rattle.type_terms.specs.declared.term.SigType.{SigType}
use Rattle.assembly_tree.specs.Weight.{operand_weight, instruction_weight, body_weight}
use Rattle.assembly_tree.specs.WellFormed.{is_extern}
use Rattle.assembly_tree.specs.WellFormedBodies.{operand_kind, operand_size, fits_kind, is_operand, is_instruction, is_handled, offset_of, size_of, is_body}
use Rattle.assembly_tree.specs.WellFormedTerms as formed
use Rattle.assembly_tree.specs.declared.assembly.Assembly.{Assembly}
use Rattle.assembly_tree.specs.declared.body.Body.{Body}
use Rattle.assembly_tree.specs.declared.body.Clause.{Clause}
use Rattle.assembly_tree.specs.declared.body.ClauseKind as handles
use Rattle.assembly_tree.specs.declared.body.Ins.{Ins}
use Rattle.assembly_tree.specs.declared.body.Operand as operand
use Rattle.assembly_tree.proofs.FormedFacts.{bodies_named}
use Rattle.listing_growth.specs.Held.{is_i64, is_operand_held, is_instruction_held, is_handled_held, is_clause_held, is_body_held, is_type_held}
use Rattle.listing_leaves.specs.Laws.{IsLeaf}
use Rattle.listing_leaves.specs.Numbers.{hexadecimal}
use Rattle.listing_model.specs.Bodies.{label_at, label_line, mnemonic, comma_name, targets, is_short_real, is_token, real_bits, token_item, operand_item, instruction, instructions, handler, handled, clause, ends_last, local, locals_from, locals_between, locals, body}
use Rattle.listing_model.specs.Shown.{Leaf, Shown, none, leaves, Item, item, put, w, branch, line, optional, star_below, star_production, when}
use Rattle.listing_model.specs.Types.{owner}
use Rattle.listing_tokens.proofs.Members.{bracketed}
use Rattle.listing_tokens.proofs.References.{type_in, method_ref_sound, field_ref_sound}
use Rattle.listing_tokens.proofs.Sound.{no_colon, is_plain, plain_word, Sound, wf, tf, wider, SoundItem, EachSound, star_sound, when_sound, commas_sound}
use Rattle.listing_tokens.proofs.Terms.{LeafLaws, owner_sound, type_sound}
use Rattle.listing_tokens.proofs.Values.{u16_small, in_parentheses, string_sound}

-- ---- mnemonics

pub mnemonic_plain : (op : Op) → is_plain (mnemonic op) ≡ true
unfolding words
mnemonic_plain Br = refl
mnemonic_plain op = refl

not_any : (k : ℕ) → is_plain k ≡ true → (ls : List Leaf) (after : Shown) → no_colon (leaves (w k after) ++ ls) ≡ true
not_any k h ls after = grind (arith, h)

-- it may stand behind `:`, whatever stands behind it
abbrev NoColon : Shown → Type 0
NoColon g = (rest : List Leaf) → no_colon (leaves g ++ rest) ≡ true

before_branch : (p : ℕ) (below after : Shown) → NoColon below → NoColon (branch p below after)
before_branch p below after h rest = subst (λ ls. no_colon ls ≡ true) (sym (append_assoc (leaves below) (leaves after) rest)) (h (leaves after ++ rest))

-- ---- offsets

small_opcode : (op : Op) → opcode_size op ≤ 2
unfolding opcode_size
small_opcode Br = omega arith
small_opcode op = omega arith

small_operand : (k : OperandKind) (o : operand.Operand) → operand_size k o ≤ 8 + operand_weight o
unfolding operand_weight
small_operand form.Nothing o = omega arith
small_operand form.Var8 o = omega arith
small_operand form.Var16 o = omega arith
small_operand form.Num8 o = omega arith
small_operand form.Num32 o = omega arith
small_operand form.Num64 o = omega arith
small_operand form.Byte o = omega arith
small_operand form.Real4 o = omega arith
small_operand form.Real8 o = omega arith
small_operand form.Branch8 o = omega arith
small_operand form.Branch32 o = omega arith
small_operand form.Switch (operand.TheVariants.Targets at) = omega arith
small_operand form.Switch o = omega arith
small_operand form.Method o = omega arith
small_operand form.Field o = omega arith
small_operand form.Of o = omega arith
small_operand form.Text o = omega arith
small_operand form.Token o = omega arith

size_light : (i : Ins) → size_of i ≤ instruction_weight i
unfolding size_of instruction_weight operand_kind
size_light i = let one = small_opcode i.op in let two = small_operand (kind_of i.op) i.operand in omega arith

sizes_light : (is : List Ins) → sum_by size_of is ≤ sum_by instruction_weight is
sizes_light [] = omega arith
sizes_light (i ∷ is) =
    let rest = sizes_light is in
    let one = size_light i in
    let a = sum_by-cons size_of i is in
    let b = sum_by-cons instruction_weight i is in
    omega arith

front_light : (is : List Ins) (k : ℕ) → offset_of is k ≤ sum_by instruction_weight is
front_light is zero = omega arith
front_light [] (suc k) = omega arith
front_light (i ∷ is) (suc k) =
    let rest = front_light is k in
    let one = size_light i in
    let a = sum_by-cons size_of i (take k is) in
    let b = sum_by-cons instruction_weight i is in
    omega arith

-- ---- operands

int_small : (z : ℤ) → is_i64 z ≡ true → mag z < 2 ^ 127
int_small z h = grind (arith, h)

real_sound : (laws : LeafLaws) (r : ℕ) (b : Bool) (bits : ℕ) → bits < 2 ^ 128 → SoundItem (suc r) (real_bits b bits)
real_sound laws r true bits small rest = (wf refl refl, in_parentheses r (hexadecimal 8 bits) (laws.numbers.hexadecimal 8 bits small) rest)
real_sound laws r false bits small rest = (wf refl refl, in_parentheses r (hexadecimal 16 bits) (laws.numbers.hexadecimal 16 bits small) rest)

module _ (laws : LeafLaws) (a : Assembly) (named_well : list_all is_extern a.externs ≡ true) (few : length a.externs < 2 ^ 128) (code : List Ins)
    (light : sum_by instruction_weight code < 2 ^ 128) where
  label_leaf : (k : ℕ) → IsLeaf kind.Name (label_at code k)
  label_leaf k = let low = front_light code k in laws.numbers.label (offset_of code k) (omega arith)

  names_sound : (r : ℕ) (ks : List ℕ) → EachSound r (map (comma_name code) ks)
  names_sound r [] = tt
  names_sound r (k ∷ ks) = ((λ rest. (wf refl refl, (tf (label_leaf k) refl refl, tt))), names_sound r ks)

  targets_sound : (r : ℕ) (ks : List ℕ) (rest : List Leaf) →
      Sound (suc r) (w word.OPEN_PAREN (optional p.NAMES_OPT_SOME p.NAMES_OPT_NONE (targets code ks) (w word.CLOSE_PAREN none))) rest
  targets_sound r [] rest = (wf refl refl, (tt, (wf refl refl, tt)))
  targets_sound r (k ∷ []) rest = (wf refl refl, (((tf (label_leaf k) refl refl, (tt, tt)), tt), (wf refl refl, tt)))
  targets_sound r (k ∷ next ∷ ks) rest =
      (wf refl refl, (((tf (label_leaf k) refl refl, (star_sound r p.COMMA_NAME_STAR_MORE p.COMMA_NAME_STAR_END (map (comma_name code) (next ∷ ks)) (names_sound r (next ∷ ks)) _, tt)), tt), (wf refl refl, tt)))

  -- a mnemonic, and what stands behind it
  op_sound : (r : ℕ) (op : Op) (rest : List Leaf) → Sound r (w (mnemonic op) none) rest
  op_sound r op rest = plain_word (mnemonic_plain op) none rest tt

  abbrev by_form : Op → OperandKind → operand.Operand → Item
  by_form op k o = cond (is_token k) (item p.INSTRUCTION_LDTOKEN (w word.LDTOKEN (put (token_item a.externs code o) none))) (operand_item a.externs code op o)

  form_sound : (op : Op) (k : OperandKind) (o : operand.Operand) → fits_kind k o ≡ true → is_operand a o ≡ true → is_operand_held o ≡ true →
      SoundItem 101 (by_form op k o)
  form_sound op form.Nothing operand.TheVariants.Nothing f m h rest = (op_sound 101 op _, tt)
  form_sound op form.Var8 (operand.TheVariants.Var k) f m h rest = (op_sound 101 op _, ((tf (laws.numbers.natural k (u16_small k h)) refl refl, tt), tt))
  form_sound op form.Var16 (operand.TheVariants.Var k) f m h rest = (op_sound 101 op _, ((tf (laws.numbers.natural k (u16_small k h)) refl refl, tt), tt))
  form_sound op form.Num8 (operand.TheVariants.Int k) f m h rest = (op_sound 101 op _, (tf (laws.numbers.integer k (int_small k h)) refl refl, tt))
  form_sound op form.Num32 (operand.TheVariants.Int k) f m h rest = (op_sound 101 op _, (tf (laws.numbers.integer k (int_small k h)) refl refl, tt))
  form_sound op form.Num64 (operand.TheVariants.Int k) f m h rest = (op_sound 101 op _, (tf (laws.numbers.integer k (int_small k h)) refl refl, tt))
  form_sound op form.Byte (operand.TheVariants.Int k) f m h rest = (op_sound 101 op _, (tf (laws.numbers.integer k (int_small k h)) refl refl, tt))
  form_sound op form.Real4 (operand.TheVariants.Real bits) f m h rest =
      let low = ltb-true bits 0x10000000000000000 h in
      (op_sound 101 op _, (real_sound laws 100 (is_short_real (kind_of op)) bits (omega arith) _, tt))
  form_sound op form.Real8 (operand.TheVariants.Real bits) f m h rest =
      let low = ltb-true bits 0x10000000000000000 h in
      (op_sound 101 op _, (real_sound laws 100 (is_short_real (kind_of op)) bits (omega arith) _, tt))
  form_sound op form.Branch8 (operand.TheVariants.Target k) f m h rest = (op_sound 101 op _, (tf (label_leaf k) refl refl, tt))
  form_sound op form.Branch32 (operand.TheVariants.Target k) f m h rest = (op_sound 101 op _, (tf (label_leaf k) refl refl, tt))
  form_sound op form.Switch (operand.TheVariants.Targets ks) f m h rest = (wf refl refl, targets_sound 100 ks rest)
  form_sound op form.Method (operand.TheVariants.Method r) f m h rest = (op_sound 101 op _, (method_ref_sound laws a named_well few r m h _, tt))
  form_sound op form.Field (operand.TheVariants.Field r) f m h rest = (op_sound 101 op _, (field_ref_sound laws a named_well few r m h _, tt))
  form_sound op form.Of (operand.TheVariants.Of o) f m h rest =
      (op_sound 101 op _, (wider 100 101 (omega arith) (owner a.externs o).below _ ((owner_sound laws a named_well few o m h).sound _), tt))
  form_sound op form.Text (operand.TheVariants.Text units) f m h rest =
      (wf refl refl, (string_sound laws 101 p.STRING_OPERAND_TEXT p.STRING_OPERAND_BYTES units h _, tt))
  form_sound op form.Token (operand.TheVariants.Method r) f m h rest =
      (wf refl refl, ((wf refl refl, (method_ref_sound laws a named_well few r m h _, tt)), tt))
  form_sound op form.Token (operand.TheVariants.Field r) f m h rest =
      (wf refl refl, ((wf refl refl, (field_ref_sound laws a named_well few r m h _, tt)), tt))
  form_sound op form.Token (operand.TheVariants.Of o) f m h rest =
      (wf refl refl, ((wider 100 101 (omega arith) (owner a.externs o).below _ ((owner_sound laws a named_well few o m h).sound _), tt), tt))
  form_sound op k o f m h rest = absurd (false≢true f)

  form_begins : (op : Op) (k : OperandKind) (o : operand.Operand) → fits_kind k o ≡ true → (rest : List Leaf) → no_colon (leaves (by_form op k o).below ++ rest) ≡ true
  form_begins op form.Nothing operand.TheVariants.Nothing f rest = not_any (mnemonic op) (mnemonic_plain op) [] none
  form_begins op form.Var8 (operand.TheVariants.Var k) f rest = not_any (mnemonic op) (mnemonic_plain op) [] none
  form_begins op form.Var16 (operand.TheVariants.Var k) f rest = not_any (mnemonic op) (mnemonic_plain op) [] none
  form_begins op form.Num8 (operand.TheVariants.Int k) f rest = not_any (mnemonic op) (mnemonic_plain op) [] none
  form_begins op form.Num32 (operand.TheVariants.Int k) f rest = not_any (mnemonic op) (mnemonic_plain op) [] none
  form_begins op form.Num64 (operand.TheVariants.Int k) f rest = not_any (mnemonic op) (mnemonic_plain op) [] none
  form_begins op form.Byte (operand.TheVariants.Int k) f rest = not_any (mnemonic op) (mnemonic_plain op) [] none
  form_begins op form.Real4 (operand.TheVariants.Real bits) f rest = not_any (mnemonic op) (mnemonic_plain op) [] none
  form_begins op form.Real8 (operand.TheVariants.Real bits) f rest = not_any (mnemonic op) (mnemonic_plain op) [] none
  form_begins op form.Branch8 (operand.TheVariants.Target k) f rest = not_any (mnemonic op) (mnemonic_plain op) [] none
  form_begins op form.Branch32 (operand.TheVariants.Target k) f rest = not_any (mnemonic op) (mnemonic_plain op) [] none
  form_begins op form.Switch (operand.TheVariants.Targets ks) f rest = refl
  form_begins op form.Method (operand.TheVariants.Method r) f rest = not_any (mnemonic op) (mnemonic_plain op) [] none
  form_begins op form.Field (operand.TheVariants.Field r) f rest = not_any (mnemonic op) (mnemonic_plain op) [] none
  form_begins op form.Of (operand.TheVariants.Of o) f rest = not_any (mnemonic op) (mnemonic_plain op) [] none
  form_begins op form.Text (operand.TheVariants.Text units) f rest = refl
  form_begins op form.Token (operand.TheVariants.Method r) f rest = refl
  form_begins op form.Token (operand.TheVariants.Field r) f rest = refl
  form_begins op form.Token (operand.TheVariants.Of o) f rest = refl
  form_begins op k o f rest = absurd (false≢true f)

  instruction_sound : (i : Ins) → fits_kind (operand_kind i.op) i.operand ≡ true → is_operand a i.operand ≡ true → is_instruction_held i ≡ true →
      SoundItem 101 (instruction a.externs code i)
  unfolding operand_kind is_instruction_held
  instruction_sound i f m h = form_sound i.op (kind_of i.op) i.operand f m h

  instruction_begins : (i : Ins) → fits_kind (operand_kind i.op) i.operand ≡ true → (rest : List Leaf) →
      no_colon (leaves (instruction a.externs code i).below ++ rest) ≡ true
  unfolding operand_kind
  instruction_begins i f rest = form_begins i.op (kind_of i.op) i.operand f rest

  -- ---- rows of items, of which a label's `:` is followed by no other one

  -- the items in their row, before what stands behind it
  abbrev pub Row : List Item → List Leaf → Type 0
  Row is rest = Sound 101 (star_below p.ITEM_STAR_MORE p.ITEM_STAR_END is) rest

  code_sound : (count offset : ℕ) (is : List Ins) → list_all (is_instruction count) is ≡ true → list_all (λ i. is_operand a i.operand) is ≡ true →
      list_all is_instruction_held is ≡ true → offset + sum_by size_of is < 2 ^ 128 → (more : List Item) (rest : List Leaf) → Row more rest →
      Row (instructions a.externs code offset is ++ more) rest
  code_sound count offset [] f m h small more rest k = k
  code_sound count offset (i ∷ is) f m h small more rest k =
      let fs = and_parts (is_instruction count i) (list_all (is_instruction count) is) f in
      let ms = and_parts (is_operand a i.operand) (list_all (λ j. is_operand a j.operand) is) m in
      let hs = and_parts (is_instruction_held i) (list_all is_instruction_held is) h in
      let cons = sum_by-cons size_of i is in
      let low : offset < 2 ^ 128 = omega arith in
      let less : (offset + size_of i) + sum_by size_of is < 2 ^ 128 = omega arith in
      let fit = (and_parts _ _ fs.0).0 in
      let js = instructions a.externs code (offset + size_of i) is ++ more in
      let after = branch (star_production p.ITEM_STAR_MORE p.ITEM_STAR_END js) (star_below p.ITEM_STAR_MORE p.ITEM_STAR_END js) none in
      let one = instruction a.externs code i in
      let begins =
      before_branch p.ITEM_STAR_MORE (branch p.ITEM_INSTRUCTION (put one none) after) none
      (before_branch p.ITEM_INSTRUCTION (put one none) after (before_branch one.production one.below none (instruction_begins i fit))) in (
        (tf (laws.numbers.label offset low) refl refl, (wf (begins rest) refl, tt)),
        (((instruction_sound i fit ms.0 hs.0 _, tt), (code_sound count (offset + size_of i) is fs.1 ms.1 hs.1 less more rest k, tt)), tt),
      )

  -- ---- exception clauses

  handler_sound : (c : Clause) (rest : List Leaf) → Sound 101 (handler a.externs code c) rest
  handler_sound c rest = ((wf refl refl, (tf (label_leaf c.handler_start) refl refl, (wf refl refl, (tf (label_leaf c.handler_end) refl refl, tt)))), tt)

  handled_sound : (c : Clause) (k : handles.ClauseKind) → is_handled a k ≡ true → is_handled_held k ≡ true → SoundItem 101 (handled a.externs code c k)
  handled_sound c (handles.TheVariants.Catch o) m h rest =
      (wf refl refl, (wider 100 101 (omega arith) (owner a.externs o).below _ ((owner_sound laws a named_well few o m h).sound _), handler_sound c rest))
  handled_sound c (handles.TheVariants.Filter k) m h rest = (wf refl refl, ((tf (label_leaf k) refl refl, tt), handler_sound c rest))
  handled_sound c handles.TheVariants.Finally m h rest = (wf refl refl, handler_sound c rest)
  handled_sound c handles.TheVariants.Fault m h rest = (wf refl refl, handler_sound c rest)

  clause_sound : (c : Clause) → is_handled a c.kind ≡ true → is_clause_held c ≡ true → SoundItem 101 (clause a.externs code c)
  unfolding is_clause_held
  clause_sound c m h rest =
      (wf refl refl, ((tf (label_leaf c.try_start) refl refl, (wf refl refl, (tf (label_leaf c.try_end) refl refl, tt))), (handled_sound c c.kind m h _, (tt, tt))))

  clauses_sound : (cs : List Clause) → list_all (λ c. is_handled a c.kind) cs ≡ true → list_all is_clause_held cs ≡ true →
      EachSound 101 (map (clause a.externs code) cs)
  clauses_sound [] m h = tt
  clauses_sound (c ∷ cs) m h =
      let ms = and_parts (is_handled a c.kind) (list_all (λ d. is_handled a d.kind) cs) m in
      let hs = and_parts (is_clause_held c) (list_all is_clause_held cs) h in
      (clause_sound c ms.0 hs.0, clauses_sound cs ms.1 hs.1)

  -- the clauses begin with no colon, and neither does what stands behind the row
  clauses_begin : (cs : List Clause) (rest : List Leaf) → no_colon rest ≡ true →
      no_colon (leaves (branch (star_production p.ITEM_STAR_MORE p.ITEM_STAR_END (map (clause a.externs code) cs)) (star_below p.ITEM_STAR_MORE p.ITEM_STAR_END (map (clause a.externs code) cs)) none) ++ rest) ≡ true
  clauses_begin [] rest h = h
  clauses_begin (c ∷ cs) rest h = refl

  end_sound : (b : Bool) (offset : ℕ) (cs : List Clause) → offset < 2 ^ 128 → list_all (λ c. is_handled a c.kind) cs ≡ true → list_all is_clause_held cs ≡ true →
      (rest : List Leaf) → no_colon rest ≡ true → Row (cond b (label_line offset ∷ []) [] ++ map (clause a.externs code) cs) rest
  end_sound true offset cs small m h rest k =
      ((tf (laws.numbers.label offset small) refl refl, (wf (clauses_begin cs rest k) refl, tt)), (star_sound 101 p.ITEM_STAR_MORE p.ITEM_STAR_END (map (clause a.externs code) cs) (clauses_sound cs m h) rest, tt))
  end_sound false offset cs small m h rest k = star_sound 101 p.ITEM_STAR_MORE p.ITEM_STAR_END (map (clause a.externs code) cs) (clauses_sound cs m h) rest

-- ---- locals

module _ (laws : LeafLaws) (a : Assembly) (named_well : list_all is_extern a.externs ≡ true) (few : length a.externs < 2 ^ 128) where
  local_sound : (k : ℕ) → k < 2 ^ 128 → (t : SigType) → formed.is_type a t ≡ true → is_type_held t ≡ true → SoundItem 100 (local a.externs k t)
  local_sound k small t m h rest =
      ((bracketed laws 99 k small none _ tt, tt), (type_in laws a named_well few 100 (omega arith) t (type_sound laws a named_well few t m h) _, (tt, tt)))

  each_local : (k : ℕ) (ts : List SigType) → k + length ts < 2 ^ 128 → list_all (formed.is_type a) ts ≡ true → list_all is_type_held ts ≡ true →
      EachSound 100 (locals_from a.externs k ts)
  each_local k [] small m h = tt
  each_local k (t ∷ ts) small m h =
      let ms = and_parts (formed.is_type a t) (list_all (formed.is_type a) ts) m in
      let hs = and_parts (is_type_held t) (list_all is_type_held ts) h in
      let here : k < 2 ^ 128 = omega arith in
      let more : suc k + length ts < 2 ^ 128 = omega arith in
      (local_sound k here t ms.0 hs.0, each_local (suc k) ts more ms.1 hs.1)

  between_sound : (k : ℕ) (ts : List SigType) → k + length ts < 2 ^ 128 → list_all (formed.is_type a) ts ≡ true → list_all is_type_held ts ≡ true →
      (rest : List Leaf) →
      Sound 101 (w word.OPEN_PAREN (optional p.LOCALS_OPT_SOME p.LOCALS_OPT_NONE (locals_between a.externs (locals_from a.externs k ts)) (w word.CLOSE_PAREN none))) rest
  between_sound k [] small m h rest = (wf refl refl, (tt, (wf refl refl, tt)))
  between_sound k (t ∷ ts) small m h rest =
      let all = each_local k (t ∷ ts) small m h in
      (wf refl refl, ((commas_sound 100 p.COMMA_LOCAL_STAR_MORE p.COMMA_LOCAL_STAR_END p.COMMA_LOCAL (local a.externs k t) (locals_from a.externs (suc k) ts) all none _ tt, tt), (wf refl refl, tt)))

  locals_by : (b init : Bool) (ts : List SigType) → length ts < 2 ^ 128 → list_all (formed.is_type a) ts ≡ true → list_all is_type_held ts ≡ true →
      EachSound 101 (cond b (item p.ITEM_LOCALS
      (line word.DOT_LOCALS
      (optional p.INIT_OPT_SOME p.INIT_OPT_NONE (when init (w word.INIT none))
      (w word.OPEN_PAREN
      (optional p.LOCALS_OPT_SOME p.LOCALS_OPT_NONE (locals_between a.externs (locals_from a.externs 0 ts)) (w word.CLOSE_PAREN none))))) ∷ []) [])
  locals_by true init ts small m h =
      ((λ rest. (wf refl refl, (when_sound 101 init (w word.INIT none) _ (wf refl refl, tt), between_sound 0 ts (omega arith) m h rest))), tt)
  locals_by false init ts small m h = tt

  locals_sound : (init : Bool) (ts : List SigType) → length ts < 2 ^ 128 → list_all (formed.is_type a) ts ≡ true → list_all is_type_held ts ≡ true →
      EachSound 101 (locals a.externs init ts)
  locals_sound init ts small m h = locals_by (init || not (nat_eq (length ts) 0)) init ts small m h

  -- ---- bodies

  -- items in front of a row
  pub front_row : (r : ℕ) (is js : List Item) (rest : List Leaf) → EachSound r is → Sound r (star_below p.ITEM_STAR_MORE p.ITEM_STAR_END js) rest →
      Sound r (star_below p.ITEM_STAR_MORE p.ITEM_STAR_END (is ++ js)) rest
  front_row r [] js rest h k = k
  front_row r (i ∷ is) js rest h k = (h.0 _, (front_row r is js rest h.1 k, tt))

  pub body_sound : (b : Body) → body_weight b ≤ 2 ^ 26 → is_body a b ≡ true → is_body_held b ≡ true → (rest : List Leaf) → no_colon rest ≡ true →
      Sound 101 (star_below p.ITEM_STAR_MORE p.ITEM_STAR_END (body a.externs b)) rest
  unfolding body is_body_held body_weight
  body_sound b light m h rest k =
      let f = (bodies_named a b).0 m in
      let h3 = and_parts _ _ h in
      let h2 = and_parts _ _ h3.0 in
      let h1 = and_parts _ _ h2.0 in
      let sizes = sizes_light b.code in
      let end = front_light b.code (length b.code) in
      let small : sum_by instruction_weight b.code < 2 ^ 128 = omega arith in
      let all : 0 + sum_by size_of b.code < 2 ^ 128 = omega arith in
      let last : offset_of b.code (length b.code) < 2 ^ 128 = omega arith in
      let locals_few : length b.locals < 2 ^ 128 = omega arith in (
        (wf refl refl, (tf (laws.numbers.natural b.bound (u16_small b.bound h1.0)) refl refl, tt)),
        (
          front_row 101 (locals a.externs b.init b.locals) _ rest (locals_sound b.init b.locals locals_few f.locals h1.1)
              (code_sound laws a named_well few b.code small (length b.code) 0 b.code f.instructions f.operands h2.1 all _ rest
              (end_sound laws a named_well few b.code small (list_any (ends_last b.code) b.clauses) (offset_of b.code (length b.code)) b.clauses last f.catches h3.1 rest k)),
          tt,
        ),
      )
