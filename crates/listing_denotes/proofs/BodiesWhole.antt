-- Methods break no rule on the labels, variables, branches, clauses and numbers of their bodies.
use Rattle.std.proofs.Common.{◌≡◌, ◌||◌, ℕ, suc, ◌+◌, ◌<◌, ◌≤◌, ◌^◌, ◌&&◌, not, nat_eq, nat_lt, Bool, true, false, cond, if◌then◌else◌, pos, List, [], ◌∷◌, ◌++◌, map, filter, take, length, Option, None, Some, refl, ap, sym, subst, ◌∙◌, append-nil, arith}
use Rattle.std.proofs.lemmas.Bool.{and_parts, leb-true, ltb-true}
use Rattle.std.specs.List.{list_all, list_any, flat_map, enumerate_from}
use Rattle.std.specs.Prelude.{⊤}
use Rattle.ilasm_grammar.specs.Ilasm.{ilasm, rule_by, has_bit}
use Rattle.ilasm_grammar.specs.declared.nonterminals.TheConstants as n
use Rattle.ilasm_grammar.specs.declared.productions.TheConstants as p
use Rattle.opcode_table.specs.Opcodes.{kind_of}
use Rattle.type_terms.specs.declared.term.SigType.{SigType}
use Rattle.assembly_tree.specs.WellFormedBodies.{operand_kind, fits_kind, are_targets, is_instruction, size_of, offset_of, is_body}
use Rattle.assembly_tree.specs.WellFormedNames.{option_all}
use Rattle.assembly_tree.specs.declared.assembly.Assembly.{Assembly}
use Rattle.assembly_tree.specs.declared.body.Body.{Body}
use Rattle.assembly_tree.specs.declared.body.Ins.{Ins}
use Rattle.assembly_tree.specs.declared.members.Method.{Method}
use Rattle.assembly_tree.proofs.FormedFacts.{bodies_named, methods_named}
use Rattle.source_model.specs.Bodies as bodies
use Rattle.source_model.specs.BodyFaults.{label_names_in, variable_undeclared, branch_too_far, targets_at_the_end, clause_backwards, is_same_name}
use Rattle.source_model.specs.BodyNumbers.{bounds_out_of_range, number_out_of_range, real_out_of_range, variable_out_of_range, local_misnumbered, body_numbers_out_of_range_in}
use Rattle.source_model.specs.Clauses.{clause_forms, guarded, Guarded}
use Rattle.source_model.specs.DeclaredTwice.{repeats}
use Rattle.source_model.specs.Forest as f
use Rattle.source_model.specs.Instructions.{instruction_forms, instructions_of, labels, is_label, label_number, targets}
use Rattle.source_model.specs.Members.{in_method}
use Rattle.source_model.specs.Nodes.{Around, Node}
use Rattle.source_model.specs.Operands.{instruction}
use Rattle.source_model.specs.OutOfRange.{is_16_bits}
use Rattle.source_model.specs.Source.{Source, spelling}
use Rattle.source_model.specs.TypeRules.{is_within, unless, past_count}
use Rattle.source_model.specs.Values.{integer, name_text}
use Rattle.source_model.specs.Variables.{locals}
use Rattle.faultless_nodes.specs.Laws.{MethodBreaksNothing}
use Rattle.listing_bodies.specs.Laws.{LacksIn, PassesClauses, LinesLack}
use Rattle.listing_constants.specs.Laws.{LabelsAreRead, ConstantsAreRead}
use Rattle.listing_growth.specs.Held.{is_instruction_held, is_body_held, is_method_held}
use Rattle.listing_leaves.specs.Numbers.{label}
use Rattle.listing_methods.specs.Laws.{is_short_code, MethodsAreRead}
use Rattle.listing_model.specs.Bodies as written
use Rattle.listing_model.specs.Grown.{body_of}
use Rattle.listing_model.specs.Methods.{method, body_opt}
use Rattle.listing_model.specs.Shown.{none, Item, item, put, size, opt_production, opt_below, behind_comma, commas}
use Rattle.listing_reading.specs.Below.{below, cant_stand}
use Rattle.listing_reading.specs.BelowMasks.{below_masks}
use Rattle.listing_reading.specs.Laws.{SearchesPass}
use Rattle.listing_reading.specs.Numbered.{numbered, Agrees, place}
use Rattle.listing_reading.specs.Rows.{AreAmong, parts_behind}
use Rattle.listing_rows.specs.Laws.{SegmentsAreRead, PiecesAreRead, WalksPass}
use Rattle.listing_rows.specs.Segments.{ItemsAgree, BehindAgree, CommasAgree, comma_parts, pieces_at, EachGrown}
use Rattle.listing_values.specs.Laws.{NumbersAreRead, LabelsDiffer}
use Rattle.listing_denotes.specs.Bodies.{BodiesBreakNothing}
use Rattle.listing_denotes.specs.Whole.{ListingsAreRead}
use Rattle.listing_denotes.proofs.BodiesClauses.{clauses_known}
use Rattle.listing_denotes.proofs.BodiesForms.{name_parts, NamesKnown, IsPlain, form_among, form_plain}
use Rattle.listing_denotes.proofs.BodiesFront.{FrontLacks, body_at, body_grown, body_agrees, only_body}
use Rattle.listing_denotes.proofs.BodiesLabels.{last_offset, last_of_code, offset_from, offset_of_code, offset_low, label_texts, texts_differ, HasLabel, text_there, named, texts_of, end_texts, lines_texts, labels_once, label_found}
use Rattle.listing_denotes.proofs.BodiesLines.{code_part, end_part, clauses_part, locals_at, code_at, end_at, clauses_at, segments_grown, agreeing, in_bound, in_locals, in_code, in_labels, in_both}
use Rattle.listing_denotes.proofs.BodiesRead.{IsRead, is_read, all_known, low, ends_right, branches_reach, clauses_forward, few_locals, few_clauses}
use Rattle.listing_denotes.proofs.MethodsBodies.{locals_below}
use Rattle.listing_denotes.proofs.ValuesFlags.{within, unless_none}

-- ---- what can't stand where

forms_before : FrontLacks instruction_forms
unfolding ilasm rule_by has_bit below below_masks
forms_before = record { head = refl; custom = record { own = refl; inside = refl }; param = record { own = refl; inside = refl }; override = record { own = refl; inside = refl }; entry = record { own = refl; inside = refl }; more = refl; end = refl }

labels_before : FrontLacks (p.ITEM_NAME ∷ [])
unfolding ilasm rule_by has_bit below below_masks
labels_before = record { head = refl; custom = record { own = refl; inside = refl }; param = record { own = refl; inside = refl }; override = record { own = refl; inside = refl }; entry = record { own = refl; inside = refl }; more = refl; end = refl }

locals_before : FrontLacks (p.LOCAL ∷ [])
unfolding ilasm rule_by has_bit below below_masks
locals_before = record { head = refl; custom = record { own = refl; inside = refl }; param = record { own = refl; inside = refl }; override = record { own = refl; inside = refl }; entry = record { own = refl; inside = refl }; more = refl; end = refl }

bound_before : FrontLacks (p.ITEM_MAXSTACK ∷ [])
unfolding ilasm rule_by has_bit below below_masks
bound_before = record { head = refl; custom = record { own = refl; inside = refl }; param = record { own = refl; inside = refl }; override = record { own = refl; inside = refl }; entry = record { own = refl; inside = refl }; more = refl; end = refl }

names_before : FrontLacks name_parts
unfolding ilasm rule_by has_bit below below_masks
names_before = record { head = refl; custom = record { own = refl; inside = refl }; param = record { own = refl; inside = refl }; override = record { own = refl; inside = refl }; entry = record { own = refl; inside = refl }; more = refl; end = refl }

clauses_before : FrontLacks clause_forms
unfolding ilasm rule_by has_bit below below_masks
clauses_before = record { head = refl; custom = record { own = refl; inside = refl }; param = record { own = refl; inside = refl }; override = record { own = refl; inside = refl }; entry = record { own = refl; inside = refl }; more = refl; end = refl }

-- what is sought stands in none of these lines
pub record Lacking (sought : List ℕ) : Type 0 where
  pub bound : LacksIn sought p.ITEM_MAXSTACK
  pub locals : LacksIn sought p.ITEM_LOCALS
  pub label : LacksIn sought p.ITEM_NAME

forms_lacking : Lacking instruction_forms
unfolding ilasm rule_by has_bit below below_masks
forms_lacking = record { bound = record { own = refl; inside = refl }; locals = record { own = refl; inside = refl }; label = record { own = refl; inside = refl } }

names_lacking : Lacking name_parts
unfolding ilasm rule_by has_bit below below_masks
names_lacking = record { bound = record { own = refl; inside = refl }; locals = record { own = refl; inside = refl }; label = record { own = refl; inside = refl } }

label_in_bound : LacksIn (p.ITEM_NAME ∷ []) p.ITEM_MAXSTACK
unfolding ilasm rule_by has_bit below below_masks
label_in_bound = record { own = refl; inside = refl }

label_in_locals : LacksIn (p.ITEM_NAME ∷ []) p.ITEM_LOCALS
unfolding ilasm rule_by has_bit below below_masks
label_in_locals = record { own = refl; inside = refl }

local_in_bound : LacksIn (p.LOCAL ∷ []) p.ITEM_MAXSTACK
unfolding ilasm rule_by has_bit below below_masks
local_in_bound = record { own = refl; inside = refl }

local_in_label : LacksIn (p.LOCAL ∷ []) p.ITEM_NAME
unfolding ilasm rule_by has_bit below below_masks
local_in_label = record { own = refl; inside = refl }

local_in_code : LacksIn (p.LOCAL ∷ []) p.ITEM_INSTRUCTION
unfolding ilasm rule_by has_bit below below_masks
local_in_code = record { own = refl; inside = refl }

bound_in_locals : LacksIn (p.ITEM_MAXSTACK ∷ []) p.ITEM_LOCALS
unfolding ilasm rule_by has_bit below below_masks
bound_in_locals = record { own = refl; inside = refl }

bound_in_label : LacksIn (p.ITEM_MAXSTACK ∷ []) p.ITEM_NAME
unfolding ilasm rule_by has_bit below below_masks
bound_in_label = record { own = refl; inside = refl }

bound_in_code : LacksIn (p.ITEM_MAXSTACK ∷ []) p.ITEM_INSTRUCTION
unfolding ilasm rule_by has_bit below below_masks
bound_in_code = record { own = refl; inside = refl }

forms_pass : PassesClauses instruction_forms
unfolding ilasm rule_by has_bit below below_masks
forms_pass = record { range = refl; catch = refl; filter = refl; finally = refl; fault = refl; filter_start = refl; handler = refl; end = refl; owners = refl }

labels_pass : PassesClauses (p.ITEM_NAME ∷ [])
unfolding ilasm rule_by has_bit below below_masks
labels_pass = record { range = refl; catch = refl; filter = refl; finally = refl; fault = refl; filter_start = refl; handler = refl; end = refl; owners = refl }

locals_pass : PassesClauses (p.LOCAL ∷ [])
unfolding ilasm rule_by has_bit below below_masks
locals_pass = record { range = refl; catch = refl; filter = refl; finally = refl; fault = refl; filter_start = refl; handler = refl; end = refl; owners = refl }

bound_passes : PassesClauses (p.ITEM_MAXSTACK ∷ [])
unfolding ilasm rule_by has_bit below below_masks
bound_passes = record { range = refl; catch = refl; filter = refl; finally = refl; fault = refl; filter_start = refl; handler = refl; end = refl; owners = refl }

no_local_first : cant_stand (p.LOCAL ∷ []) (take 3 (body_of p.ITEM_LOCALS)) ≡ true
unfolding ilasm rule_by has_bit below below_masks
no_local_first = refl

-- ---- lists

both : (x y : Bool) → x ≡ true → y ≡ true → (x && y) ≡ true
both true y h k = k
both false y h k = h

abbrev first_ins : Ins → List Ins → Ins
first_ins other [] = other
first_ins other (i ∷ is) = i

abbrev behind_first : List Ins → List Ins
behind_first [] = []
behind_first (i ∷ is) = is

module _ (s : Source) (method : f.Forest) where
  abbrev EachPlain : List f.Part → Type 0
  EachPlain [] = ⊤
  EachPlain (q ∷ qs) = IsPlain s method q × EachPlain qs

  none_with : (form : ℕ) (test : f.Part → List ℕ) → ((q : f.Part) → IsPlain s method q → nat_eq q.production form ≡ true → test q ≡ []) → (qs : List f.Part) → EachPlain qs →
      flat_map test (filter (λ q. nat_eq q.production form) qs) ≡ []
  none_with form test get [] h = refl
  none_with form test get (q ∷ qs) h = by (nat_eq q.production form) refl (none_with form test get qs h.1)
    where
      by : (c : Bool) → nat_eq q.production form ≡ c → flat_map test (filter (λ r. nat_eq r.production form) qs) ≡ [] →
          flat_map test (cond c (q ∷ filter (λ r. nat_eq r.production form) qs) (filter (λ r. nat_eq r.production form) qs)) ≡ []
      by true e r = ap (λ (ks : List ℕ). ks ++ flat_map test (filter (λ r. nat_eq r.production form) qs)) (get q h.0 e) ∙ r
      by false e r = r

  known_behind : (ps qs : List f.Part) → NamesKnown s method ps → NamesKnown s method qs → NamesKnown s method (ps ++ qs)
  known_behind [] qs h k = k
  known_behind (q ∷ ps) qs h k = (h.0, known_behind ps qs h.1 k)

  all_joined : (js ks : List ℕ) → list_all (is_label s method) js ≡ true → list_all (is_label s method) ks ≡ true → list_all (is_label s method) (js ++ ks) ≡ true
  all_joined [] ks h k = k
  all_joined (j ∷ js) ks h k =
      let hs = and_parts (is_label s method j) (list_all (is_label s method) js) h in
      both (is_label s method j) (list_all (is_label s method) (js ++ ks)) hs.0 (all_joined js ks hs.1 k)

  all_there : (ps : List f.Part) → NamesKnown s method ps → list_all (is_label s method) (flat_map label_names_in ps) ≡ true
  all_there [] h = refl
  all_there (q ∷ ps) h = all_joined (label_names_in q) (flat_map label_names_in ps) h.0 (all_there ps h.1)

  none_unknown : (ks : List ℕ) → list_all (is_label s method) ks ≡ true → filter (λ k. not (is_label s method k)) ks ≡ []
  none_unknown [] h = refl
  none_unknown (k ∷ ks) h =
      let hs = and_parts (is_label s method k) (list_all (is_label s method) ks) h in
      ap (λ (c : Bool). cond (not c) (k ∷ filter (λ j. not (is_label s method j)) ks) (filter (λ j. not (is_label s method j)) ks)) hs.0 ∙ none_unknown ks hs.1

-- ---- locals

itself : (k : ℕ) → is_within (pos k) (pos k) (pos k) ≡ true
itself k = grind arith

one_more : (k : ℕ) → suc k ≡ k + 1
one_more k = omega arith

locals_among : (a : Assembly) (k : ℕ) (ts : List SigType) → AreAmong (p.LOCAL ∷ []) (written.locals_from a.externs k ts)
locals_among a k [] = tt
locals_among a k (t ∷ ts) = (refl, locals_among a (suc k) ts)

module _ (laws : NumbersAreRead) (segments : SegmentsAreRead) (searches : SearchesPass) (s : Source) (a : Assembly) where
  local_right : (k : ℕ) (t : SigType) → k < 2 ^ 128 → (j : ℕ) → Agrees s j (written.local a.externs k t).below → local_misnumbered s (k, numbered j (written.local a.externs k t).below) ≡ []
  local_right k t small j ag =
      ap (λ (ks : List ℕ). ks ++ []) (unless_none (is_within (pos k) (pos k)) s (suc j) (pos k) (ap (λ z. integer z) ag.0.0.1.0.text ∙ laws.natural k small) (itself k))

  behind_right : (k : ℕ) (ts : List SigType) → k + length ts < 2 ^ 128 → (j : ℕ) → BehindAgree s j (written.locals_from a.externs k ts) →
      flat_map (local_misnumbered s) (enumerate_from k (f.below_each (parts_behind j (written.locals_from a.externs k ts)))) ≡ []
  behind_right k [] small j ag = refl
  behind_right k (t ∷ ts) small j ag =
      let here : k < 2 ^ 128 = omega arith in
      let later : suc k + length ts < 2 ^ 128 = omega arith in
      let next = j + size (behind_comma 0 (written.local a.externs k t)).below in
      let others = f.below_each (parts_behind next (written.locals_from a.externs (suc k) ts)) in
      ap (λ (ks : List ℕ). ks ++ flat_map (local_misnumbered s) (enumerate_from (k + 1) others)) (local_right k t here (suc j) ag.0)
      ∙ subst (λ (i : ℕ). flat_map (local_misnumbered s) (enumerate_from i others) ≡ []) (one_more k) (behind_right (suc k) ts later next ag.1)

  commas_right : (ts : List SigType) → length ts < 2 ^ 128 → (j : ℕ) → CommasAgree s j (written.locals_from a.externs 0 ts) →
      flat_map (local_misnumbered s) (enumerate_from 0 (f.below_each (comma_parts j (written.locals_from a.externs 0 ts)))) ≡ []
  commas_right [] small j ag = refl
  commas_right (t ∷ ts) small j ag =
      let here : 0 < 2 ^ 128 = omega arith in
      let later : 1 + length ts < 2 ^ 128 = omega arith in
      let next = j + size (written.local a.externs 0 t).below in
      ap (λ (ks : List ℕ). ks ++ flat_map (local_misnumbered s) (enumerate_from 1 (f.below_each (parts_behind next (written.locals_from a.externs 1 ts))))) (local_right 0 t here j ag.0)
      ∙ behind_right 1 ts later next ag.1

  between_parts : (ts : List SigType) (from j : ℕ) →
      f.parts (p.LOCAL ∷ []) (f.branch (opt_production p.LOCALS_OPT_SOME p.LOCALS_OPT_NONE (written.locals_between a.externs (written.locals_from a.externs 0 ts))) (numbered from (opt_below (written.locals_between a.externs (written.locals_from a.externs 0 ts)))) (f.leaf j f.none))
      ≡ comma_parts from (written.locals_from a.externs 0 ts)
  between_parts [] from j = refl
  between_parts (t ∷ ts) from j =
      let rows = written.locals_from a.externs 0 (t ∷ ts) in
      let own = f.parts (p.LOCAL ∷ []) (numbered from (commas p.COMMA_LOCAL_STAR_MORE p.COMMA_LOCAL_STAR_END p.COMMA_LOCAL rows none)) in
      append-nil (own ++ [])
      ∙ (append-nil own
      ∙ segments.commas (p.LOCAL ∷ []) p.COMMA_LOCAL_STAR_MORE p.COMMA_LOCAL_STAR_END p.COMMA_LOCAL refl refl refl rows (locals_among a 0 (t ∷ ts)) from none (λ k. refl))

  between_agree : (ts : List SigType) (from : ℕ) → Agrees s from (opt_below (written.locals_between a.externs (written.locals_from a.externs 0 ts))) → CommasAgree s from (written.locals_from a.externs 0 ts)
  between_agree [] from g = tt
  between_agree (t ∷ ts) from g =
      segments.commas_agree s p.COMMA_LOCAL_STAR_MORE p.COMMA_LOCAL_STAR_END p.COMMA_LOCAL (written.locals_from a.externs 0 (t ∷ ts)) from none g.0

  -- `[k]` before each local of the line is its number
  line_right : (c init : Bool) (ts : List SigType) → length ts < 2 ^ 128 → EachGrown n.ITEM (cond c (item p.ITEM_LOCALS (locals_below a init ts) ∷ []) []) → (from : ℕ) →
      ItemsAgree s from (cond c (item p.ITEM_LOCALS (locals_below a init ts) ∷ []) []) →
      flat_map (local_misnumbered s) (enumerate_from 0 (f.below_each (pieces_at (p.LOCAL ∷ []) from (cond c (item p.ITEM_LOCALS (locals_below a init ts) ∷ []) []) ++ []))) ≡ []
  unfolding ilasm rule_by
  line_right false init ts small g from i = refl
  line_right true init ts small g from i =
      let shown = locals_below a init ts in
      let parts = comma_parts (place 3 from shown) (written.locals_from a.externs 0 ts) in
      ap (λ (ps : List f.Part). flat_map (local_misnumbered s) (enumerate_from 0 (f.below_each ((ps ++ []) ++ []))))
      (searches.parts (p.LOCAL ∷ []) 3 (body_of p.ITEM_LOCALS) no_local_first shown g.1 from ∙ between_parts ts (place 3 from shown) (place 4 from shown))
      ∙ (ap (λ (ps : List f.Part). flat_map (local_misnumbered s) (enumerate_from 0 (f.below_each ps))) (append-nil (parts ++ []) ∙ append-nil parts)
      ∙ commas_right ts small (place 3 from shown) (between_agree ts (place 3 from shown) i.0.1.1.1.0))

-- ---- instructions

module _ (laws : NumbersAreRead) (constants : ConstantsAreRead) (searches : SearchesPass) (s : Source) (around : Around) (method : f.Forest) (a : Assembly) (code : List Ins) where
  abbrev low_targets : f.Part → Bool
  low_targets q = list_all (λ k. nat_lt (label_number s method k) (length (instructions_of method))) (targets q)

  abbrev Right : ℕ → ℕ → List Ins → Type 0
  Right at o is =
      EachPlain s method (pieces_at instruction_forms at (written.instructions a.externs code o is)) × NamesKnown s method (pieces_at name_parts at (written.instructions a.externs code o is))

  -- each is right by itself, and the labels that it names are there
  code_right : (count : ℕ) (is : List Ins) → list_all (is_instruction count) is ≡ true → list_all is_instruction_held is ≡ true → (at o : ℕ) → EachGrown n.ITEM (written.instructions a.externs code o is) →
      ItemsAgree s at (written.instructions a.externs code o is) → map (instruction s around method) (pieces_at instruction_forms at (written.instructions a.externs code o is)) ≡ is →
      list_all low_targets (pieces_at instruction_forms at (written.instructions a.externs code o is)) ≡ true → Right at o is
  unfolding ilasm rule_by operand_kind is_instruction_held
  code_right count [] h l at o g ag said reach = (tt, tt)
  code_right count (i ∷ is) h l at o g ag said reach =
      let hs = and_parts (is_instruction count i) (list_all (is_instruction count) is) h in
      let own = and_parts (fits_kind (operand_kind i.op) i.operand) (are_targets count i.operand) hs.0 in
      let ls = and_parts (is_instruction_held i) (list_all is_instruction_held is) l in
      let ins = written.instruction a.externs code i in
      let from = at + size (written.label_line o).below in
      let next = from + size (put ins none) in
      let q = f.part ins.production (numbered from ins.below) in
      let rest = pieces_at instruction_forms next (written.instructions a.externs code (o + size_of i) is) in
      let names = pieces_at name_parts next (written.instructions a.externs code (o + size_of i) is) in
      let e : pieces_at instruction_forms at (written.instructions a.externs code o (i ∷ is)) ≡ q ∷ rest =
      ap (λ (c : Bool). ((if c then q ∷ [] else f.parts instruction_forms (numbered from ins.below)) ++ []) ++ rest) (form_among a code i.op (kind_of i.op) i.operand own.0) in
      let told : (instruction s around method q ∷ map (instruction s around method) rest) ≡ i ∷ is = sym (ap (map (instruction s around method)) e) ∙ said in
      let own_said = ap (first_ins i) told in
      let more_said = ap behind_first told in
      let reaches = and_parts (low_targets q) (list_all low_targets rest) (sym (ap (list_all low_targets) e) ∙ reach) in
      let plain : IsPlain s method q = form_plain laws constants searches s method a code i.op (kind_of i.op) i.operand refl refl own.0 ls.0 from g.2.1.1 ag.1.0.0 (ap (λ (x : Ins). x.op) own_said) in
      let more = code_right count is hs.1 ls.1 next (o + size_of i) g.2.2 ag.1.1 more_said reaches.1 in (
        subst (EachPlain s method) (sym e) (plain, more.0),
        known_behind s method (f.parts name_parts (f.branch ins.production (numbered from ins.below) f.none)) names (plain.names (all_known s around method (targets q) reaches.0)) more.1,
      )

-- ---- the whole

-- what is sought in a method stands in these items alone
pub record Stands (method : f.Forest) (at : ℕ) (items : List Item) : Type 0 where
  pub instructions : f.parts instruction_forms method ≡ pieces_at instruction_forms at items
  pub labels : f.parts (p.ITEM_NAME ∷ []) method ≡ pieces_at (p.ITEM_NAME ∷ []) at items
  pub locals : f.parts (p.LOCAL ∷ []) method ≡ pieces_at (p.LOCAL ∷ []) at items
  pub bound : f.parts (p.ITEM_MAXSTACK ∷ []) method ≡ pieces_at (p.ITEM_MAXSTACK ∷ []) at items
  pub names : f.parts name_parts method ≡ pieces_at name_parts at items
  pub clauses : f.parts clause_forms method ≡ pieces_at clause_forms at items

abbrev node_of : f.Forest → Around → Node
node_of method around = record { production = p.METHOD; below = method; around = around }

few_enough : (k : ℕ) → k ≤ 65535 → k < 2 ^ 128
few_enough k h = omega arith

bound_small : (k : ℕ) → k < 0x10000 → k < 2 ^ 128
bound_small k h = omega arith

bound_most : (k : ℕ) → k < 0x10000 → k ≤ 0xFFFF
bound_most k h = omega arith

-- a method without a body
no_body : (walks : WalksPass) (s : Source) (around : Around) (method : f.Forest) (at : ℕ) → Stands method at [] → MethodBreaksNothing s (node_of method around)
no_body walks s around method at stands =
    let node = node_of method around in
    let none_guarded : guarded method ≡ [] = walks.no_clauses f.none method stands.clauses in
    record {
      labels_once = ap (λ (ps : List f.Part). repeats (is_same_name s) (map (f.leaf_at 0) (f.below_each ps))) stands.labels;
      labels_known = ap (λ (ps : List f.Part). filter (λ k. not (is_label s method k)) (flat_map label_names_in ps)) stands.names;
      variables = ap (λ (ps : List f.Part). flat_map (variable_undeclared s method) (filter (λ q. nat_eq q.production p.INSTRUCTION_OP_VAR) ps)) stands.instructions;
      branches = ap (λ (ps : List f.Part). flat_map (branch_too_far s node) (enumerate_from 0 ps)) stands.instructions;
      ends = ap (λ (ps : List f.Part). flat_map (targets_at_the_end s method) ps) stands.instructions;
      clauses = ap (λ (gs : List Guarded). flat_map (clause_backwards s node) gs) none_guarded;
      numbers =
          (let bounds = ap (λ (ps : List f.Part). flat_map (λ line. unless is_16_bits s (f.leaf_at 1 line)) (f.below_each ps)) stands.bound in
          let integers = ap (λ (ps : List f.Part). flat_map (number_out_of_range s) (filter (λ q. nat_eq q.production p.INSTRUCTION_OP_NUM) ps)) stands.instructions in
          let reals = ap (λ (ps : List f.Part). flat_map (real_out_of_range s) (filter (λ q. nat_eq q.production p.INSTRUCTION_OP_REAL) ps)) stands.instructions in
          let variables = ap (λ (ps : List f.Part). flat_map (variable_out_of_range s method) (filter (λ q. nat_eq q.production p.INSTRUCTION_OP_VAR) ps)) stands.instructions in
          let misnumbered = ap (λ (ps : List f.Part). flat_map (local_misnumbered s) (enumerate_from 0 (f.below_each ps))) stands.locals in
          let many_locals = ap (λ (ps : List f.Part). past_count (f.below_each ps)) stands.locals in
          let many_clauses = ap (λ (gs : List Guarded). past_count (map (λ g. g.clause.below) gs)) none_guarded in
          λ i. bounds i ++ integers i ++ reals i ++ variables i ++ misnumbered i ++ many_locals i ++ many_clauses i);
    }

module _ (laws : NumbersAreRead) (differ : LabelsDiffer) (label_laws : LabelsAreRead) (constants : ConstantsAreRead) (lines : LinesLack) (searches : SearchesPass) (segments : SegmentsAreRead) (pieces : PiecesAreRead) (s : Source)
    (around : Around) (a : Assembly) (method : f.Forest) (b : Body) (formed : is_body a b ≡ true) (held : is_body_held b ≡ true) (few : offset_of b.code (length b.code) < 2 ^ 128) (at : ℕ)
    (grown : EachGrown n.ITEM (written.body a.externs b)) (ag : ItemsAgree s at (written.body a.externs b)) (stands : Stands method at (written.body a.externs b)) (read : IsRead s around method b) where
  abbrev some_end : Bool
  some_end = list_any (written.ends_last b.code) b.clauses

  abbrev first_line : ℕ
  first_line = code_at pieces searches lines a b grown at

  abbrev last_line : ℕ
  last_line = end_at pieces searches lines a b grown at

  last_small : last_offset 0 b.code < 2 ^ 128
  last_small = let e = last_of_code b.code in omega (arith, e, few)

  -- ---- labels

  end_is : texts_of label_laws searches s a b.code (pieces_at (p.ITEM_NAME ∷ []) last_line (end_part pieces searches lines a b grown) ++ []) ≡ cond some_end (label (last_offset 0 b.code) ∷ []) []
  end_is =
      end_texts label_laws searches s a b.code some_end (offset_of b.code (length b.code)) last_line few (agreeing pieces searches lines a b grown segments s at ag).end
      ∙ ap (λ (k : ℕ). cond some_end (label k ∷ []) []) (sym (last_of_code b.code))

  label_texts_are : map (name_text s) (labels method) ≡ label_texts some_end 0 b.code
  label_texts_are =
      ap (texts_of label_laws searches s a b.code) (stands.labels ∙ in_labels pieces searches lines a b grown (p.ITEM_NAME ∷ []) label_in_bound label_in_locals labels_pass refl at)
      ∙ lines_texts label_laws searches s a b.code some_end b.code first_line 0 last_small (segments_grown pieces searches lines a b grown).code (agreeing pieces searches lines a b grown segments s at ag).code
      (pieces_at (p.ITEM_NAME ∷ []) last_line (end_part pieces searches lines a b grown) ++ []) end_is

  known : (j : ℕ) → HasLabel some_end j (length b.code) → (k : ℕ) → spelling s k ≡ written.label_at b.code j → is_label s method k ≡ true
  known j has k e =
      let low = offset_low 0 b.code j in
      let last = last_small in
      let small : offset_from 0 b.code j < 2 ^ 128 = omega (arith, low, last) in
      label_found s method (label_texts some_end 0 b.code) label_texts_are k (label (offset_from 0 b.code j))
      (named label_laws searches s a b.code k (offset_from 0 b.code j) small (e ∙ ap label (sym (offset_of_code b.code j)))) (text_there some_end 0 b.code j has)

  -- ---- instructions

  pub record Held : Type 0 where
    pub bound : nat_lt b.bound 0x10000 ≡ true
    pub code : list_all is_instruction_held b.code ≡ true

  body_held : Held
  unfolding is_body_held
  body_held =
      let h1 = and_parts _ _ held in
      let h2 = and_parts _ _ h1.0 in
      let h3 = and_parts _ _ h2.0 in
      record { bound = h3.0; code = h2.1 }

  instructions_are : instructions_of method ≡ pieces_at instruction_forms first_line (code_part pieces searches lines a b grown)
  instructions_are =
      stands.instructions
      ∙ (in_code pieces searches lines a b grown instruction_forms forms_lacking.bound forms_lacking.locals forms_lacking.label forms_pass refl at
      ∙ append-nil (pieces_at instruction_forms first_line (code_part pieces searches lines a b grown)))

  all_right : EachPlain s method (pieces_at instruction_forms first_line (code_part pieces searches lines a b grown)) × NamesKnown s method (pieces_at name_parts first_line (code_part pieces searches lines a b grown))
  all_right =
      let good = (bodies_named a b).0 formed in
      code_right laws constants searches s around method a b.code (length b.code) b.code good.instructions body_held.code first_line 0 (segments_grown pieces searches lines a b grown).code
      (agreeing pieces searches lines a b grown segments s at ag).code (sym (ap (map (instruction s around method)) instructions_are) ∙ read.code)
      (sym (ap (list_all (low_targets laws constants searches s around method a b.code)) instructions_are) ∙ low s around method b read good.instructions good.short_branches good.ranges)

  plain : EachPlain s method (instructions_of method)
  plain = subst (EachPlain s method) (sym instructions_are) all_right.0

  names_known : NamesKnown s method (f.parts name_parts method)
  names_known =
      let good = (bodies_named a b).0 formed in
      subst (NamesKnown s method) (sym (stands.names ∙ in_both pieces searches lines a b grown name_parts names_lacking.bound names_lacking.locals names_lacking.label at))
      (known_behind s method (pieces_at name_parts first_line (code_part pieces searches lines a b grown)) (pieces_at name_parts (clauses_at pieces searches lines a b grown at) (clauses_part pieces searches lines a b grown)) all_right.1
      (clauses_known searches s a method b.code some_end known b.clauses good.ranges (λ e. e) (clauses_at pieces searches lines a b grown at) (segments_grown pieces searches lines a b grown).clauses
      (agreeing pieces searches lines a b grown segments s at ag).clauses))

  -- ---- numbers

  bounds_right : bounds_out_of_range s method ≡ []
  bounds_right =
      let low = ltb-true b.bound 0x10000 body_held.bound in
      ap (λ (ps : List f.Part). flat_map (λ line. unless is_16_bits s (f.leaf_at 1 line)) (f.below_each ps))
      (stands.bound ∙ in_bound pieces searches lines a b grown (p.ITEM_MAXSTACK ∷ []) bound_in_locals bound_in_label bound_in_code bound_passes refl at)
      ∙ ap (λ (ks : List ℕ). ks ++ [])
      (unless_none is_16_bits s (suc at) (pos b.bound) (ap (λ t. integer t) (agreeing pieces searches lines a b grown segments s at ag).bound.1.0.text ∙ laws.natural b.bound (bound_small b.bound low))
      (within 0xFFFF b.bound (bound_most b.bound low)))

  locals_right : flat_map (local_misnumbered s) (enumerate_from 0 (locals method)) ≡ []
  locals_right =
      let good = (bodies_named a b).0 formed in
      ap (λ (ps : List f.Part). flat_map (local_misnumbered s) (enumerate_from 0 (f.below_each ps)))
      (stands.locals ∙ in_locals pieces searches lines a b grown (p.LOCAL ∷ []) local_in_bound local_in_label local_in_code locals_pass refl at)
      ∙ line_right laws segments searches s a (b.init || not (nat_eq (length b.locals) 0)) b.init b.locals (few_enough (length b.locals) (leb-true (length b.locals) 65535 good.local_count))
      (segments_grown pieces searches lines a b grown).locals (locals_at pieces searches lines a b grown at) (agreeing pieces searches lines a b grown segments s at ag).locals

  numbers_right : body_numbers_out_of_range_in s (node_of method around) ≡ []
  numbers_right =
      let good = (bodies_named a b).0 formed in
      let bounds = bounds_right in
      let integers = none_with s method p.INSTRUCTION_OP_NUM (number_out_of_range s) (λ q h e. h.number e) (instructions_of method) plain in
      let reals = none_with s method p.INSTRUCTION_OP_REAL (real_out_of_range s) (λ q h e. h.real e) (instructions_of method) plain in
      let variables = none_with s method p.INSTRUCTION_OP_VAR (variable_out_of_range s method) (λ q h e. h.variable e) (instructions_of method) plain in
      let misnumbered = locals_right in
      let many_locals = few_locals s around method b read good.instructions good.short_branches good.ranges good.local_count in
      let many_clauses = few_clauses s around method b read good.instructions good.short_branches good.ranges good.clause_count in
      λ i. bounds i ++ integers i ++ reals i ++ variables i ++ misnumbered i ++ many_locals i ++ many_clauses i

  some_body : MethodBreaksNothing s (node_of method around)
  some_body =
      let good = (bodies_named a b).0 formed in
      record {
        labels_once = labels_once s method (label_texts some_end 0 b.code) label_texts_are (texts_differ differ some_end 0 b.code last_small);
        labels_known = none_unknown s method (flat_map label_names_in (f.parts name_parts method)) (all_there s method (f.parts name_parts method) names_known);
        variables = none_with s method p.INSTRUCTION_OP_VAR (variable_undeclared s method) (λ q h e. h.declared e) (instructions_of method) plain;
        branches = branches_reach s around method b read good.instructions good.short_branches good.ranges p.METHOD;
        ends = ends_right s around method b read good.instructions good.short_branches good.ranges;
        clauses = clauses_forward s around method b read good.instructions good.short_branches good.ranges p.METHOD;
        numbers = numbers_right;
      }

held_body : (y : Method) → is_method_held y ≡ true → option_all is_body_held y.body ≡ true
unfolding is_method_held
held_body y h = (and_parts _ _ (and_parts _ _ h).0).1

pub bodies_break_nothing : NumbersAreRead → LabelsDiffer → LabelsAreRead → ConstantsAreRead → LinesLack → SearchesPass → SegmentsAreRead → PiecesAreRead → WalksPass → MethodsAreRead → ListingsAreRead → BodiesBreakNothing
bodies_break_nothing laws differ label_laws constants lines searches segments pieces walks methods listings s a listed x m formed held short grown at ag =
    let good = (methods_named a m).0 formed in
    let shown = (method a.externs m).below in
    let g = numbered at shown in
    let around = in_method x g in
    let read : bodies.body s around g ≡ m.body = ap (λ (y : Method). y.body) (methods s x a (listings.knows s a listed) m formed held short grown at ag) in
    let k = body_at searches pieces segments s a m grown at ag in
    let only = only_body searches pieces segments s a m grown at ag in
    let stands : Stands g k (body_opt a.externs m.body) =
    record {
      instructions = only instruction_forms forms_before;
      labels = only (p.ITEM_NAME ∷ []) labels_before;
      locals = only (p.LOCAL ∷ []) locals_before;
      bound = only (p.ITEM_MAXSTACK ∷ []) bound_before;
      names = only name_parts names_before;
      clauses = only clause_forms clauses_before;
    } in
    by g around k m.body good.body (held_body m held) short read (body_grown searches pieces segments s a m grown at ag) (body_agrees searches pieces segments s a m grown at ag) stands
  where
    by : (g : f.Forest) (around : Around) (k : ℕ) (o : Option Body) → option_all (is_body a) o ≡ true → option_all is_body_held o ≡ true → is_short_code o → bodies.body s around g ≡ o →
        EachGrown n.ITEM (body_opt a.externs o) → ItemsAgree s k (body_opt a.externs o) → Stands g k (body_opt a.externs o) → MethodBreaksNothing s (node_of g around)
    by g around k None q h l read grew i stands = no_body walks s around g k stands
    by g around k (Some b) q h l read grew i stands =
        some_body laws differ label_laws constants lines searches segments pieces s around a g b q h l k grew i stands (is_read s around g b read)
