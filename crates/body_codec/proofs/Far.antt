-- Which short branch is the first that doesn't reach.
use Rattle.std.proofs.Common.{◌≡◌, ◌∙◌, inl, inr, Result, Err, ℕ, ◌<◌, ◌+◌, ℤ, pos, ◌-ℤ◌, List, length, get_or, ap, refl, subst, arith}
use Rattle.std.specs.List.{All}
use Rattle.std.proofs.lemmas.Bool.{cases_order}
use Rattle.opcode_table.specs.declared.op.Op.TheVariants.{Nop}
use Rattle.assembly_tree.specs.declared.body.Body.{Body}
use Rattle.assembly_tree.specs.declared.body.ClauseKind as handled
use Rattle.body_codec.specs.Names.{TokenMap}
use Rattle.body_codec.specs.Faults.{Answers}
use Rattle.opcode_table.specs.declared.kind.OperandKind.{OperandKind}
use Rattle.opcode_table.specs.declared.kind.OperandKind.TheVariants as kinds
use Rattle.assembly_tree.specs.declared.body.Ins.{Ins}
use Rattle.assembly_tree.specs.declared.body.Operand as operand
use Rattle.body_codec.specs.declared.fault.BodyFault.{BodyFault}
use Rattle.body_codec.specs.declared.fault.BodyFault.TheVariants as faults
use Rattle.body_codec.specs.Instruction.{kind}
use Rattle.body_codec.specs.Encoding.{CanBeWritten, FitsBytes, IsFar, IsFarFault, IsFirstFar, KindFits, OperandFits, distance, offset}
use Rattle.body_codec.specs.Written.{AreOffsets, AreRangesWithin, AreWithin, Reaches, far_from}

-- a displacement by offsets is the distance by instructions
pub far_is : (code : List Ins) (os : List ℕ) (k t : ℕ) → AreOffsets code os → k < length code → t < length code → far_from os (get_or os (k + 1) 0) t ≡ distance code k t
far_is code os k t o h w =
    ap (λ n. pos n -ℤ pos (get_or os (k + 1) 0)) (o.each t (omega arith))
    ∙ ap (λ n. pos (offset code t) -ℤ pos n) (o.each (k + 1) (omega arith))

-- what reaches isn't too far
not_far : (code : List Ins) (os : List ℕ) (k : ℕ) → AreOffsets code os → k < length code → (kd : OperandKind) (value : operand.Operand)
    → AreWithin (length code) value → Reaches os (get_or os (k + 1) 0) kd value → (to : ℕ) → kd ≡ kinds.Branch8 → value ≡ operand.TheVariants.Target to → FitsBytes 1 (distance code k to)
not_far code os k o h kd value w r to e f =
    let P : ℤ → Type 0 = FitsBytes 1 in
    let Q : OperandKind → Type 0 = λ q. Reaches os (get_or os (k + 1) 0) q value in
    let R : operand.Operand → Type 0 = λ v. Reaches os (get_or os (k + 1) 0) kinds.Branch8 v in
    let W : operand.Operand → Type 0 = AreWithin (length code) in
    subst P (far_is code os k to o h (subst W f w)) (subst R f (subst Q e r))

pub is_not_far : (code : List Ins) (os : List ℕ) (k : ℕ) → AreOffsets code os → k < length code → (ins : Ins)
    → AreWithin (length code) ins.operand → Reaches os (get_or os (k + 1) 0) (kind ins.op) ins.operand → IsFar code k ins → ⊥
is_not_far code os k o h ins w r far =
    far.far (not_far code os k o h (kind ins.op) ins.operand w r far.to far.short far.branch)

-- only one is the first
pub first_unique : (code : List Ins) (a b : ℕ) → IsFirstFar code a → IsFirstFar code b → a ≡ b
first_unique code a b f g =
    let d : Ins = record { op = Nop; operand = operand.TheVariants.Nothing } in
    elim (cases_order a b) [
      | inl e ↦ e
      | inr (inl l) ↦ absurd (g.before a d l (f.far d))
      | inr (inr l) ↦ absurd (f.before b d l (g.far d))
    ]

-- so where one is, no other fault is named
pub only_far : {X : Type 0} (code : List Ins) (at : ℕ) → IsFirstFar code at → (fault : BodyFault) → IsFarFault code fault → Answers {X = X} (Err fault) (Err (faults.Far at))
only_far {X = X} code at f (faults.Far b) g = let e : ℕ → Result X BodyFault = λ n. Err (faults.Far n) in inl (ap e (first_unique code b at g f))
only_far {X = X} code at f faults.NoMemory g = inr refl
only_far {X = X} code at f fault g = absurd g

-- and the code isn't written
pub none_far : (code : List Ins) (os : List ℕ) → AreOffsets code os → All (λ ins. AreWithin (length code) ins.operand) code
    → ((k : ℕ) (i : Ins) → k < length code → Reaches os (get_or os (k + 1) 0) (kind (get_or code k i).op) (get_or code k i).operand)
    → (at : ℕ) → IsFirstFar code at → ⊥
none_far code os o within near at f =
    let d : Ins = record { op = Nop; operand = operand.TheVariants.Nothing } in
    is_not_far code os at o f.within (get_or code at d) (within at d f.within) (near at d f.within) (f.far d)

-- ---- what can be written

within_of : (numbers : TokenMap) (count : ℕ) (kd : OperandKind) (value : operand.Operand) → OperandFits numbers count kd value → AreWithin count value
within_of numbers count kd (operand.TheVariants.Target t) fit = fit.1
within_of numbers count kd (operand.TheVariants.Targets ts) fit = fit.1
within_of numbers count kd value fit = tt

pub code_within : (numbers : TokenMap) (code : List Ins) → All (λ ins. OperandFits numbers (length code) (kind ins.op) ins.operand) code → All (λ ins. AreWithin (length code) ins.operand) code
code_within numbers code fits k d h = within_of numbers (length code) (kind (get_or code k d).op) (get_or code k d).operand (fits k d h)

pub operands_within : (numbers : TokenMap) (body : Body) → CanBeWritten numbers body → All (λ ins. AreWithin (length body.code) ins.operand) body.code
operands_within numbers body can k d h = within_of numbers (length body.code) (kind (get_or body.code k d).op) (get_or body.code k d).operand (can.operands k d h)

filter_within : (numbers : TokenMap) (handler : ℕ) (k : handled.ClauseKind) → KindFits numbers handler k → (at : ℕ) → k ≡ handled.TheVariants.Filter at → at < handler
filter_within numbers handler k f at e = let P : handled.ClauseKind → Type 0 = KindFits numbers handler in subst P e f

pub ranges_within : (numbers : TokenMap) (body : Body) (os : List ℕ) → AreOffsets body.code os → CanBeWritten numbers body → All (AreRangesWithin (length os)) body.clauses
ranges_within numbers body os o can k d h =
    let f = can.clauses k d h in
    record {
      try_start = omega (arith, o.count, f.try_some, f.try_inside);
      try_end = omega (arith, o.count, f.try_inside);
      handler_start = omega (arith, o.count, f.handler_some, f.handler_inside);
      handler_end = omega (arith, o.count, f.handler_inside);
      filter = λ at e. omega (arith, o.count, filter_within numbers (get_or body.clauses k d).handler_start (get_or body.clauses k d).kind f.kind at e, f.handler_some, f.handler_inside);
    }
