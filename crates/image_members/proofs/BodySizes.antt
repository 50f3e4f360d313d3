-- How many bytes a body has that is written in its most compact form, at most.
use Rattle.std.proofs.Common.{◌≡◌, ℤ, ap, refl, sym, ◌∙◌, subst, ℕ, zero, suc, ◌+◌, ◌*◌, ◌/◌, ◌%◌, ◌-◌, ◌<◌, ◌≤◌, ◌^◌, ◌==◌, ◌&&◌, Bool, true, false, cond, not, List, [], ◌∷◌, ◌++◌, take, drop, length, inl, inr, arith}
use Rattle.std.specs.Prelude.{slice_index, slice_index_or, nat_lt, map}
use Rattle.std.specs.List.{All, sum_by, flat_map, list_any, range_with_len}
use Rattle.std.proofs.Math.Seq.{take-length}
use Rattle.std.proofs.lemmas.Bool.{cases_Bool}
use Rattle.std.proofs.lemmas.List.{length-append, append-nil, length-take-le}
use Rattle.std.proofs.lemmas.List.Sums.{sum_by-cons}
use Rattle.std.proofs.lemmas.List.FromFn.{length-map-range_with_len}
use Rattle.assembly_tree.specs.declared.body.Body.{Body}
use Rattle.assembly_tree.specs.declared.body.Ins.{Ins}
use Rattle.assembly_tree.specs.declared.body.Operand as operand
use Rattle.opcode_table.specs.declared.kind.OperandKind.{OperandKind}
use Rattle.opcode_table.specs.declared.kind.OperandKind.TheVariants as kinds
use Rattle.body_codec.specs.Encoding.{size_of, ins_size, offset, IsWritten}
use Rattle.body_codec.specs.Instruction.{Piece, IsWhole, opcode_bytes, operand_size, piece_bytes, bytes_of_pieces, kind}
use Rattle.body_codec.specs.Names.{Notation}
use Rattle.body_codec.specs.Spelling.{Form, nothing, variable, integer, byte, real, target, targets, token, form, IsInteger, SpellsOperand, SpellsIns, SpellsCode}

-- ---- instructions

-- but for a switch, the bytes of an operand don't count how many there are
plain : (k : OperandKind) (tail : List ℕ) → (form k ≡ targets → ⊥) → operand_size k tail ≡ operand_size k []
plain kinds.Nothing tail n = refl
plain kinds.Var8 tail n = refl
plain kinds.Var16 tail n = refl
plain kinds.Num8 tail n = refl
plain kinds.Num32 tail n = refl
plain kinds.Num64 tail n = refl
plain kinds.Byte tail n = refl
plain kinds.Real4 tail n = refl
plain kinds.Real8 tail n = refl
plain kinds.Branch8 tail n = refl
plain kinds.Branch32 tail n = refl
plain kinds.Switch tail n = absurd (n refl)
plain kinds.Method tail n = refl
plain kinds.Field tail n = refl
plain kinds.Of tail n = refl
plain kinds.Text tail n = refl
plain kinds.Token tail n = refl

-- a switch has four bytes, and four for each target
switched : (k : OperandKind) (tail : List ℕ) → form k ≡ targets → operand_size k tail ≡ operand_size kinds.Switch tail
switched kinds.Nothing tail e = absurd cc
switched kinds.Var8 tail e = absurd cc
switched kinds.Var16 tail e = absurd cc
switched kinds.Num8 tail e = absurd cc
switched kinds.Num32 tail e = absurd cc
switched kinds.Num64 tail e = absurd cc
switched kinds.Byte tail e = absurd cc
switched kinds.Real4 tail e = absurd cc
switched kinds.Real8 tail e = absurd cc
switched kinds.Branch8 tail e = absurd cc
switched kinds.Branch32 tail e = absurd cc
switched kinds.Switch tail e = refl
switched kinds.Method tail e = absurd cc
switched kinds.Field tail e = absurd cc
switched kinds.Of tail e = absurd cc
switched kinds.Text tail e = absurd cc
switched kinds.Token tail e = absurd cc

no_integer : (k : OperandKind) (tail : List ℕ) (n : ℤ) → IsInteger (form k) tail n → form k ≡ targets → ⊥
no_integer k tail n h e = subst (λ f. IsInteger f tail n) e h

operand_long : (w : Notation) (pieces : List Piece) (at : ℕ) (k : OperandKind) (tail : List ℕ) (o : operand.Operand) → length tail ≡ operand_size k tail → SpellsOperand w pieces at k tail o
    → length tail ≡ size_of k o
operand_long w pieces at k tail operand.TheVariants.Nothing s h = s ∙ plain k tail (λ e. let both : nothing ≡ targets = sym h ∙ e in absurd cc)
operand_long w pieces at k tail (operand.TheVariants.Var n) s h = s ∙ plain k tail (λ e. let both : variable ≡ targets = sym h.0 ∙ e in absurd cc)
operand_long w pieces at k tail (operand.TheVariants.Int n) s h = s ∙ plain k tail (no_integer k tail n h)
operand_long w pieces at k tail (operand.TheVariants.Real n) s h = s ∙ plain k tail (λ e. let both : real ≡ targets = sym h.0 ∙ e in absurd cc)
operand_long w pieces at k tail (operand.TheVariants.Target t) s h = s ∙ plain k tail (λ e. let both : target ≡ targets = sym h.0 ∙ e in absurd cc)
operand_long w pieces at k tail (operand.TheVariants.Targets ts) s h = s ∙ switched k tail h.0 ∙ ap (λ n. 4 + 4 * n) (sym h.1.count)
operand_long w pieces at k tail (operand.TheVariants.Method m) s h = s ∙ plain k tail (λ e. let both : token ≡ targets = sym h.formed ∙ e in absurd cc)
operand_long w pieces at k tail (operand.TheVariants.Field f) s h = s ∙ plain k tail (λ e. let both : token ≡ targets = sym h.formed ∙ e in absurd cc)
operand_long w pieces at k tail (operand.TheVariants.Of o) s h = s ∙ plain k tail (λ e. let both : token ≡ targets = sym h.formed ∙ e in absurd cc)
operand_long w pieces at k tail (operand.TheVariants.Text units) s h = s ∙ plain k tail (λ e. let both : token ≡ targets = sym h.formed ∙ e in absurd cc)

piece_long : (w : Notation) (pieces : List Piece) (at : ℕ) (p : Piece) (i : Ins) → IsWhole p → SpellsIns w pieces at p i → length (piece_bytes p) ≡ ins_size i
piece_long w pieces at p i whole h =
    let tail : length p.tail ≡ size_of (kind p.op) i.operand = operand_long w pieces at (kind p.op) p.tail i.operand whole.size h.operand in
    length-append (opcode_bytes p.op) p.tail ∙ ap (λ n. length (opcode_bytes p.op) + n) tail ∙ ap (λ op. length (opcode_bytes op) + size_of (kind op) i.operand) h.op

-- one after another
sizes : (ps : List Piece) (code : List Ins) → length ps ≡ length code
    → ((k : ℕ) (p : Piece) (i : Ins) → k < length code → length (piece_bytes (slice_index_or ps k p)) ≡ ins_size (slice_index_or code k i))
    → length (bytes_of_pieces ps) ≡ sum_by ins_size code
sizes [] [] e f = refl
sizes [] (i ∷ code) e f = absurd (omega arith)
sizes (p ∷ ps) [] e f = absurd (omega arith)
sizes (p ∷ ps) (i ∷ code) e f =
    let here : length (piece_bytes p) ≡ ins_size i = f 0 p i (omega arith) in
    let rest = sizes ps code (omega arith) (λ k q j low. f (suc k) q j (omega arith)) in
    length-append (piece_bytes p) (bytes_of_pieces ps) ∙ ap (λ n. n + length (bytes_of_pieces ps)) here ∙ ap (λ n. ins_size i + n) rest ∙ sym (sum_by-cons ins_size i code)

pub code_long : (w : Notation) (pieces : List Piece) (code : List Ins) (bytes : List ℕ) → SpellsCode w pieces code bytes → length bytes ≡ sum_by ins_size code
code_long w pieces code bytes h =
    ap (length {A = ℕ}) h.cut.whole
    ∙ sizes pieces code h.each.count
    (λ k p i low. piece_long w pieces k (slice_index_or pieces k p) (slice_index_or code k i) (h.cut.each k p (let same = h.each.count in omega arith)) (h.each.each k p i low))

pub all_of : (code : List Ins) → offset code (length code) ≡ sum_by ins_size code
unfolding offset
all_of code = ap (sum_by ins_size) (take-length code)
