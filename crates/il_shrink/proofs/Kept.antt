-- What a shrunk body keeps.
use Rattle.std.proofs.Common.{◌≡◌, ◌∙◌, sym, ap, refl, ℕ, ◌+◌, ◌*◌, ◌&&◌, Bool, List, [], ◌∷◌, ◌++◌, length, map, Some, nat_lt, IsTrue, arith}
use Rattle.std.specs.List.{list_all, sum_by, flat_map}
use Rattle.std.proofs.lemmas.List.{length-map}
use Rattle.std.proofs.lemmas.List.Sums.{sum_by-cons}
use Rattle.opcode_table.specs.declared.kind.OperandKind.{OperandKind}
use Rattle.opcode_table.specs.declared.kind.OperandKind.TheVariants as kind
use Rattle.assembly_tree.specs.declared.assembly.Assembly.{Assembly}
use Rattle.assembly_tree.specs.declared.body.Body.{Body}
use Rattle.assembly_tree.specs.declared.body.Ins.{Ins}
use Rattle.assembly_tree.specs.declared.body.Operand as operand
use Rattle.assembly_tree.specs.Room.{instruction_texts, body_texts}
use Rattle.assembly_tree.specs.Weight.{type_weight, instruction_weight, clause_weight, body_weight}
use Rattle.assembly_tree.specs.WellFormedBodies.{operand_kind, fits_kind, are_targets, is_operand, is_handled, is_instruction, is_clause, has_body_form, names_well, is_body, short_branches_reach}
use Rattle.assembly_tree.specs.WellFormedTerms.{is_count, is_type}
use Rattle.il_shrink.specs.Branches.{short_kind}
use Rattle.il_shrink.specs.Shrunk.{with_short, IsChoice, IsShrunk}
use Rattle.il_shrink.proofs.Lists.{all_same}
use Rattle.il_shrink.proofs.Ops.{kind_short}

-- ---- a choice for code

pub all_kept : (test : Ins → Bool) → ((i : Ins) → test (with_short i) ≡ test i) → (code choice : List Ins) → IsChoice code choice → list_all test choice ≡ list_all test code
all_kept test h code choice e = sym (all_same with_short test h choice) ∙ ap (list_all test) e ∙ all_same with_short test h code

sum_same : (weigh : Ins → ℕ) → ((i : Ins) → weigh (with_short i) ≡ weigh i) → (code : List Ins) → sum_by weigh (map with_short code) ≡ sum_by weigh code
sum_same weigh h [] = refl
sum_same weigh h (i ∷ is) =
    let rest : sum_by weigh (map with_short is) ≡ sum_by weigh is = sum_same weigh h is in
    let first : weigh (with_short i) ≡ weigh i = h i in
    simp sum_by-cons (omega arith)

pub sum_kept : (weigh : Ins → ℕ) → ((i : Ins) → weigh (with_short i) ≡ weigh i) → (code choice : List Ins) → IsChoice code choice → sum_by weigh choice ≡ sum_by weigh code
sum_kept weigh h code choice e = sym (sum_same weigh h choice) ∙ ap (sum_by weigh) e ∙ sum_same weigh h code

texts_same : (code : List Ins) → flat_map instruction_texts (map with_short code) ≡ flat_map instruction_texts code
unfolding instruction_texts
texts_same [] = refl
texts_same (i ∷ is) = ap (λ l. instruction_texts i ++ l) (texts_same is)

pub texts_kept : (code choice : List Ins) → IsChoice code choice → flat_map instruction_texts choice ≡ flat_map instruction_texts code
texts_kept code choice e = sym (texts_same choice) ∙ ap (flat_map instruction_texts) e ∙ texts_same code

pub length_kept : (code choice : List Ins) → IsChoice code choice → length choice ≡ length code
length_kept code choice e = sym (length-map choice with_short) ∙ ap length e ∙ length-map code with_short

-- ---- a body

fits_short : (k : OperandKind) (o : operand.Operand) → fits_kind (short_kind k) o ≡ fits_kind k o
fits_short kind.Branch32 (operand.TheVariants.Target at) = refl
fits_short k o = refl

instruction_short : (n : ℕ) (i : Ins) → is_instruction n (with_short i) ≡ is_instruction n i
unfolding operand_kind
instruction_short n i =
    ap (λ k. fits_kind k i.operand && are_targets n i.operand) (kind_short i.op)
    ∙ ap (λ b. b && are_targets n i.operand) (fits_short (operand_kind i.op) i.operand)

form_with : (b : Body) (code : List Ins) → IsChoice b.code code → has_body_form (record b { code = code }) ≡ has_body_form b
unfolding has_body_form
form_with b code e =
    ap (λ n. nat_lt 0 n && is_count (length b.locals) && is_count (length b.clauses) && list_all (is_instruction n) code && list_all (is_clause n) b.clauses)
    (length_kept b.code code e)
    ∙ ap (λ t. nat_lt 0 (length b.code) && is_count (length b.locals) && is_count (length b.clauses) && t && list_all (is_clause (length b.code)) b.clauses)
    (all_kept (is_instruction (length b.code)) (instruction_short (length b.code)) b.code code e)

pub form_kept : (b c : Body) → IsShrunk b c → has_body_form c ≡ has_body_form b
form_kept b c h = ap has_body_form h.same ∙ form_with b c.code h.code.choice_of

names_with : (a : Assembly) (b : Body) (code : List Ins) → IsChoice b.code code → names_well a (record b { code = code }) ≡ names_well a b
unfolding names_well
names_with a b code e =
    ap (λ t. list_all (is_type a) b.locals && t && list_all (λ c. is_handled a c.kind) b.clauses)
    (all_kept (λ i. is_operand a i.operand) (λ i. refl) b.code code e)

three : (a b c : Bool) → IsTrue (a && b && c) → IsTrue a × IsTrue c
three a b c h = (grind arith, grind arith)

all_three : (a b c : Bool) → IsTrue a → IsTrue b → IsTrue c → IsTrue (a && b && c)
all_three a b c x y z = grind arith

-- a shrunk body of a body that meets its conditions meets them
pub body_kept : (a : Assembly) (b c : Body) → IsShrunk b c → IsTrue (is_body a b) → IsTrue (is_body a c)
unfolding is_body
body_kept a b c h formed =
    let (form, names) = three (has_body_form b) (short_branches_reach b.code) (names_well a b) formed in
    all_three (has_body_form c) (short_branches_reach c.code) (names_well a c) (form_kept b c h ∙ form) h.code.valid
    (ap (names_well a) h.same ∙ names_with a b c.code h.code.choice_of ∙ names)

weight_with : (b : Body) (code : List Ins) → IsChoice b.code code → body_weight (record b { code = code }) ≡ body_weight b
unfolding body_weight instruction_weight
weight_with b code e =
    ap (λ n. 64 * length b.locals + sum_by type_weight b.locals + n + sum_by clause_weight b.clauses) (sum_kept instruction_weight (λ i. refl) b.code code e)

pub weight_kept : (b c : Body) → IsShrunk b c → body_weight c ≡ body_weight b
weight_kept b c h = ap body_weight h.same ∙ weight_with b c.code h.code.choice_of

pub body_texts_kept : (b c : Body) → IsShrunk b c → body_texts (Some c) ≡ body_texts (Some b)
unfolding body_texts
body_texts_kept b c h = texts_kept b.code c.code h.code.choice_of
