-- The lines of code of a body: each instruction behind its label.
use Rattle.std.proofs.Common.{◌≡◌, ℕ, suc, ◌+◌, ◌<◌, ◌≤◌, ◌&&◌, Bool, true, false, if◌then◌else◌, List, [], ◌∷◌, ◌++◌, map, length, refl, ap, ◌∙◌, arith}
use Rattle.std.proofs.lemmas.Bool.{and_parts}
use Rattle.std.specs.List.{list_all}
use Rattle.ilasm_grammar.specs.Ilasm.{ilasm, rule_by, has_bit}
use Rattle.ilasm_grammar.specs.declared.nonterminals.TheConstants as n
use Rattle.ilasm_grammar.specs.declared.productions.TheConstants as p
use Rattle.assembly_tree.specs.WellFormedBodies.{size_of, operand_kind, fits_kind, are_targets, is_operand, is_instruction}
use Rattle.assembly_tree.specs.declared.assembly.Assembly.{Assembly}
use Rattle.assembly_tree.specs.declared.body.Ins.{Ins}
use Rattle.opcode_table.specs.Opcodes.{kind_of}
use Rattle.source_model.specs.Forest as f
use Rattle.source_model.specs.Instructions.{instruction_forms, mnemonic_token, label_number}
use Rattle.source_model.specs.Nodes.{Around}
use Rattle.source_model.specs.Operands.{instruction}
use Rattle.source_model.specs.Source.{Source, spelling}
use Rattle.listing_constants.specs.Laws.{StringsAreRead, ConstantsAreRead}
use Rattle.listing_formed.specs.Laws.{Knows, FormedAreRead}
use Rattle.listing_growth.specs.Held.{is_instruction_held}
use Rattle.listing_model.specs.Bodies as written
use Rattle.listing_model.specs.Grown.{body_of}
use Rattle.listing_model.specs.Shown.{none, Item, item, put, size}
use Rattle.listing_reading.specs.Below.{below, cant_stand}
use Rattle.listing_reading.specs.BelowMasks.{below_masks}
use Rattle.listing_reading.specs.Laws.{SearchesPass}
use Rattle.listing_reading.specs.Numbered.{numbered}
use Rattle.listing_rows.specs.Laws.{WalksPass}
use Rattle.listing_rows.specs.Segments.{end_of, ItemsAgree, pieces_at, EachGrown}
use Rattle.listing_values.specs.Laws.{NumbersAreRead}
use Rattle.listing_bodies.proofs.Labels.{Lines, Rise, parts_of, tokens_of, Spelled}
use Rattle.listing_bodies.proofs.Operands.{instruction_read, form_begins, form_among, form_some}

no_label_inside : cant_stand (p.ITEM_NAME ∷ []) (body_of p.ITEM_INSTRUCTION) ≡ true
unfolding ilasm rule_by has_bit below below_masks
no_label_inside = refl

both : (x y : Bool) → x ≡ true → y ≡ true → (x && y) ≡ true
both true y h k = k
both false y h k = h

module _ (a : Assembly) (code : List Ins) where
  abbrev ins : Ins → Item
  ins i = written.instruction a.externs code i

  abbrev ins_item : Ins → Item
  ins_item i = item p.ITEM_INSTRUCTION (put (ins i) none)

  abbrev begins_at : ℕ → ℕ → ℕ
  begins_at at o = at + size (written.label_line o).below

  abbrev part_at : ℕ → Ins → f.Part
  part_at at i = f.part (ins i).production (numbered at (ins i).below)

  -- where each stands, the first label at this token and for this offset
  abbrev pub lines : ℕ → ℕ → List Ins → Lines
  lines at o [] = []
  lines at o (i ∷ is) = (at, part_at (begins_at at o) i) ∷ lines (begins_at at o + size (ins_item i).below) (o + size_of i) is

  fits : (count : ℕ) (i : Ins) → is_instruction count i ≡ true → fits_kind (operand_kind i.op) i.operand ≡ true
  fits count i h = (and_parts (fits_kind (operand_kind i.op) i.operand) (are_targets count i.operand) h).0

  begins : (count : ℕ) (i : Ins) → is_instruction count i ≡ true → (at : ℕ) → mnemonic_token (part_at at i) ≡ at
  unfolding operand_kind
  begins count i h at = form_begins a code i.op (kind_of i.op) i.operand (fits count i h) at

  among : (count : ℕ) (i : Ins) → is_instruction count i ≡ true → f.is_among instruction_forms (ins i).production ≡ true
  unfolding operand_kind
  among count i h = form_among a code i.op (kind_of i.op) i.operand (fits count i h)

  some : (count : ℕ) (i : Ins) → is_instruction count i ≡ true → 0 < size (ins i).below
  unfolding operand_kind
  some count i h = form_some a code i.op (kind_of i.op) i.operand (fits count i h)

  -- its instructions
  pub instructions_are : (count : ℕ) (is : List Ins) → list_all (is_instruction count) is ≡ true → (at o : ℕ) →
      pieces_at instruction_forms at (written.instructions a.externs code o is) ≡ parts_of (lines at o is)
  instructions_are count [] h at o = refl
  instructions_are count (i ∷ is) h at o =
      let hs = and_parts (is_instruction count i) (list_all (is_instruction count) is) h in
      let from = begins_at at o in
      let next = from + size (ins_item i).below in
      let more = pieces_at instruction_forms next (written.instructions a.externs code (o + size_of i) is) in
      ap (λ c. ((if c then part_at from i ∷ [] else f.parts instruction_forms (numbered from (ins i).below)) ++ []) ++ more) (among count i hs.0)
      ∙ ap (λ ps. part_at from i ∷ ps) (instructions_are count is hs.1 next (o + size_of i))

  -- its labels
  pub labels_are : (searches : SearchesPass) (is : List Ins) (at o : ℕ) → EachGrown n.ITEM (written.instructions a.externs code o is) → (more : List f.Part) →
      map (f.leaf_at 0) (f.below_each (pieces_at (p.ITEM_NAME ∷ []) at (written.instructions a.externs code o is) ++ more)) ≡ tokens_of (lines at o is) ++ map (f.leaf_at 0) (f.below_each more)
  labels_are searches [] at o g more = refl
  labels_are searches (i ∷ is) at o g more =
      let from = begins_at at o in
      let next = from + size (ins_item i).below in
      let rest = pieces_at (p.ITEM_NAME ∷ []) next (written.instructions a.externs code (o + size_of i) is) in
      ap (λ ps. at ∷ map (f.leaf_at 0) (f.below_each ((ps ++ rest) ++ more))) (searches.nothing (p.ITEM_NAME ∷ []) (body_of p.ITEM_INSTRUCTION) no_label_inside (ins_item i).below g.2.1 from)
      ∙ ap (λ ks. at ∷ ks) (labels_are searches is next (o + size_of i) g.2.2 more)

  same_or_less : (k : ℕ) → k ≤ k
  same_or_less k = omega arith

  later : (at from end : ℕ) (ls : Lines) → at ≤ from → Rise from ls end → Rise at ls end
  later at from end [] h r = let low : from ≤ end = r in omega arith
  later at from end ((l, q) ∷ ls) h r = let low : from ≤ l = r.0 in let less : at ≤ l = omega arith in (less, r.1, r.2)

  -- they rise
  pub lines_rise : (count : ℕ) (is : List Ins) → list_all (is_instruction count) is ≡ true → (at o : ℕ) →
      Rise at (lines at o is) (end_of at (written.instructions a.externs code o is))
  lines_rise count [] h at o = same_or_less at
  lines_rise count (i ∷ is) h at o =
      let hs = and_parts (is_instruction count i) (list_all (is_instruction count) is) h in
      let from = begins_at at o in
      let next = from + size (ins_item i).below in
      let token = begins count i hs.0 from in
      let one = some count i hs.0 in
      let first : at < mnemonic_token (part_at from i) = omega arith in
      let second : suc (mnemonic_token (part_at from i)) ≤ next = omega arith in
      (same_or_less at, first, later (suc (mnemonic_token (part_at from i))) next (end_of next (written.instructions a.externs code (o + size_of i) is)) (lines next (o + size_of i) is) second (lines_rise count is hs.1 next (o + size_of i)))

  pub spelled : (s : Source) (is : List Ins) (at o : ℕ) → ItemsAgree s at (written.instructions a.externs code o is) → Spelled s o (lines at o is) is
  spelled s [] at o ag = tt
  spelled s (i ∷ is) at o ag = (ag.0.0.text, spelled s is (begins_at at o + size (ins_item i).below) (o + size_of i) ag.1.1)

module _ (numbers_read : NumbersAreRead) (strings : StringsAreRead) (constants : ConstantsAreRead) (formed : FormedAreRead) (searches : SearchesPass) (walks : WalksPass) (s : Source) (around : Around) (a : Assembly) (knows : Knows s a) (method : f.Forest) (code : List Ins) (number_of : (j : ℕ) → j < length code → (k : ℕ) → spelling s k ≡ written.label_at code j → label_number s method k ≡ j) where
  pub code_is : (is : List Ins) → list_all (is_instruction (length code)) is ≡ true → list_all (λ i. is_operand a i.operand) is ≡ true → list_all is_instruction_held is ≡ true →
      (at o : ℕ) → EachGrown n.ITEM (written.instructions a.externs code o is) → ItemsAgree s at (written.instructions a.externs code o is) →
      map (instruction s around method) (parts_of (lines a code at o is)) ≡ is
  unfolding ilasm rule_by
  code_is [] h m l at o g ag = refl
  code_is (i ∷ is) h m l at o g ag =
      let hs = and_parts (is_instruction (length code) i) (list_all (is_instruction (length code)) is) h in
      let ms = and_parts (is_operand a i.operand) (list_all (λ x. is_operand a x.operand) is) m in
      let ls = and_parts (is_instruction_held i) (list_all is_instruction_held is) l in
      let from = begins_at a code at o in
      let next = from + size (ins_item a code i).below in
      ap (λ x. x ∷ map (instruction s around method) (parts_of (lines a code next (o + size_of i) is)))
      (instruction_read numbers_read strings constants formed searches walks s around a knows method code number_of i hs.0 ms.0 ls.0 from g.2.1.1 ag.1.0.0)
      ∙ ap (λ xs. i ∷ xs) (code_is is hs.1 ms.1 ls.1 next (o + size_of i) g.2.2 ag.1.1)
