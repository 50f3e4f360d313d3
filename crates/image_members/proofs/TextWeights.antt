-- The texts that an assembly loads take no more bytes in the heap than the assembly weighs.
use Rattle.std.proofs.Common.{◌≡◌, ◌∙◌, ap, subst, ℕ, ◌+◌, ◌*◌, ◌≤◌, Bool, true, false, cond, List, [], ◌∷◌, ◌++◌, map, length, Option, Some, None, arith}
use Rattle.std.specs.Prelude.{nat_lt, sum, sum_by}
use Rattle.std.specs.List.{flat_map}
use Rattle.std.proofs.lemmas.List.Sums.{sum_by-cons, sum-map}
use Rattle.assembly_tree.specs.Room.{Units, packed_width, entry_size, operand_texts, instruction_texts, body_texts, method_texts, typedef_texts_step, typedef_texts, texts}
use Rattle.assembly_tree.specs.Weight.{optional, operand_weight, instruction_weight, body_weight, method_weight, own_weight, typedef_step, typedef_weight, weight_of}
use Rattle.assembly_tree.specs.declared.assembly.Assembly.{Assembly}
use Rattle.assembly_tree.specs.declared.body.Body.{Body}
use Rattle.assembly_tree.specs.declared.body.Ins.{Ins}
use Rattle.assembly_tree.specs.declared.body.Operand.{Operand}
use Rattle.assembly_tree.specs.declared.body.Operand.TheVariants as operand
use Rattle.assembly_tree.specs.declared.members.Method.{Method}
use Rattle.assembly_tree.specs.declared.typedef.TypeDef.{TypeDef}
use Rattle.assembly_tree.specs.declared.typedef.TypeDef.TheFolds.{fold-roll-TypeDef, ind-TypeDef}
use Rattle.image_tokens.specs.Loaded.{entry_sizes}
use Rattle.image_tokens.proofs.LoadsLemmas.{sizes_both}
use Rattle.image_members.proofs.TextLemmas.{flat_mapped, whole_texts}

most : (a b : Bool) → cond a 1 (cond b 2 4) ≤ 4
most true b = omega arith
most false true = omega arith
most false false = omega arith

width_most : (n : ℕ) → packed_width n ≤ 4
width_most n = most (nat_lt n 0x80) (nat_lt n 0x4000)

pub entry_most : (units : Units) → entry_size units ≤ 5 + 2 * length units
entry_most units = let width = width_most (2 * length units + 1) in omega arith

operand_most : (o : Operand) → entry_sizes (operand_texts o) ≤ 5 + operand_weight o
unfolding operand_weight
operand_most (operand.Text units) =
    let one = entry_most units in
    let alone = sum_by-cons entry_size units [] in
    omega arith
operand_most operand.Nothing = omega arith
operand_most (operand.Var n) = omega arith
operand_most (operand.Int n) = omega arith
operand_most (operand.Real bits) = omega arith
operand_most (operand.Target at) = omega arith
operand_most (operand.Targets at) = omega arith
operand_most (operand.Method m) = omega arith
operand_most (operand.Field f) = omega arith
operand_most (operand.Of o) = omega arith

instruction_most : (i : Ins) → entry_sizes (instruction_texts i) ≤ instruction_weight i
unfolding instruction_texts instruction_weight
instruction_most i = let o = operand_most i.operand in omega arith

flat_most : {X : Type 0} (f : X → List Units) (weigh : X → ℕ) → ((x : X) → entry_sizes (f x) ≤ weigh x) → (xs : List X) → entry_sizes (flat_map f xs) ≤ sum_by weigh xs
flat_most f weigh each [] = omega arith
flat_most f weigh each (x ∷ xs) =
    let rest = flat_most f weigh each xs in
    let one = each x in
    let both = sizes_both (f x) (flat_map f xs) in
    let all = sum_by-cons weigh x xs in
    omega arith

body_most : (b : Option Body) → entry_sizes (body_texts b) ≤ optional body_weight b
unfolding body_texts body_weight
body_most None = omega arith
body_most (Some b) = let code = flat_most instruction_texts instruction_weight instruction_most b.code in omega arith

method_most : (m : Method) → entry_sizes (method_texts m) ≤ method_weight m
unfolding method_texts method_weight
method_most m = let b = body_most m.body in omega arith

-- ---- types

abbrev Fits : TypeDef → Type 0
Fits t = entry_sizes (typedef_texts t) ≤ typedef_weight t

nested_most : (ts : List ((t : TypeDef) × Fits t)) → entry_sizes (flat_map typedef_texts (map (λ e. e.0) ts)) ≤ sum_by typedef_weight (map (λ e. e.0) ts)
nested_most [] = omega arith
nested_most (e ∷ ts) =
    let rest = nested_most ts in
    let one = e.1 in
    let both = sizes_both (typedef_texts e.0) (flat_map typedef_texts (map (λ x. x.0) ts)) in
    let all = sum_by-cons typedef_weight e.0 (map (λ x. x.0) ts) in
    omega arith

typedef_most : (t : TypeDef) → Fits t
unfolding own_weight
typedef_most = ind-TypeDef Fits (λ x y is.
    let inner = subst (λ z. entry_sizes (flat_map typedef_texts z.nested) ≤ sum_by typedef_weight z.nested) is (nested_most y.nested) in
    let own = flat_most method_texts method_weight method_most x.methods in
    let its_texts = ap entry_sizes (fold-roll-TypeDef (List Units) typedef_texts_step x) ∙ sizes_both (flat_map method_texts x.methods) (flat_map (λ ts. ts) (map typedef_texts x.nested)) in
    let flat = ap entry_sizes (flat_mapped x.nested) in
    let its_weight = fold-roll-TypeDef ℕ typedef_step x in
    let all = sum-map typedef_weight x.nested in
    omega arith)

-- 1 for the empty entry at index 0
pub texts_fit : (a : Assembly) → 1 + entry_sizes (texts a) ≤ weight_of a
unfolding weight_of
texts_fit a =
    let whole = ap entry_sizes (whole_texts a) ∙ sizes_both (flat_map method_texts a.methods) (flat_map typedef_texts a.types) in
    let methods = flat_most method_texts method_weight method_most a.methods in
    let types = flat_most typedef_texts typedef_weight typedef_most a.types in
    omega arith
