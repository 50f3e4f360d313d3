-- A body weighs what is told of it by its outline.
use Rattle.std.proofs.Common.{◌≡◌, ℕ, suc, ◌+◌, ◌-◌, ◌*◌, ◌^◌, ◌<◌, ◌≤◌, inl, inr, min, List, [], ◌∷◌, length, take, get_or, slice_index_or, Option, None, Some, refl, sym, ◌∙◌, ap, subst, arith}
use Rattle.std.specs.Prelude.{sum_by, if◌then◌else◌, ◌==◌}
use Rattle.std.specs.List.{filter_map, cons_option}
use Rattle.std.specs.Option.{option_map_or}
use Rattle.std.proofs.lemmas.List.{take_all}
use Rattle.std.proofs.lemmas.List.Sums.{sum_by-cons, sum_by_more}
use Rattle.heaps.specs.LookUp.{BlobIsComputed}
use Rattle.assembly_tree.specs.Weight.{type_weight, operand_weight, instruction_weight, handled_weight, clause_weight, body_weight}
use Rattle.assembly_tree.specs.declared.body.Body.{Body}
use Rattle.assembly_tree.specs.declared.body.Clause.{Clause}
use Rattle.assembly_tree.specs.declared.body.ClauseKind as handled
use Rattle.assembly_tree.specs.declared.body.Ins.{Ins}
use Rattle.assembly_tree.specs.declared.body.Operand as operand
use Rattle.byteorder.specs.Endian.{little_number}
use Rattle.opcode_table.specs.declared.kind.OperandKind.{OperandKind}
use Rattle.opcode_table.specs.declared.kind.OperandKind.TheVariants as kinds
use Rattle.body_codec.specs.Bodies.{Spells}
use Rattle.body_codec.specs.Header.{code_of, locals_token}
use Rattle.body_codec.specs.Instruction.{Piece, kind, number}
use Rattle.body_codec.specs.NamedTokens.{caught_in}
use Rattle.body_codec.specs.Names.{NameMap, reading, takes_token}
use Rattle.body_codec.specs.Sections.{clause_rows, SpellsKind, SpellsClause}
use Rattle.body_codec.specs.Spelling.{form, token, targets, SpellsOperand, SpellsIns}
use Rattle.body_codec.specs.declared.decoding.sections.ClauseRow.{ClauseRow}
use Rattle.body_codec.proofs.Outcomes.{cut_same}
use Rattle.body_codec.proofs.Spelled.{to_targets, to_token}
use Rattle.body_outlines.specs.Outlines.{Outlines, token_use, use_in, switch_targets, targets_in}
use Rattle.body_outlines.specs.declared.outlined.BodyOutline.{BodyOutline}
use Rattle.body_outlines.specs.declared.outlined.TokenUse.{TokenUse}
use Rattle.image_model.specs.Namings.{AreNamings}
use Rattle.told_weights.specs.Told.{Tells}
use Rattle.body_weights.specs.Bodies.{BodyTold}
use Rattle.body_weights.specs.Tokens.{Tokens, AreTokens, row_told, told_as, use_told, locals_told, outline_told}
use Rattle.body_weights.proofs.Naming.{owner_tells, locals_tell, named_tells}

-- ---- sums

sums_tell : {X Y : Type 0} (f : X → ℕ) (g : Y → ℕ) (xs : List X) (ys : List Y) → length xs ≡ length ys
    → ((k : ℕ) (x : X) (y : Y) → k < length ys → Tells (f (get_or xs k x)) (g (get_or ys k y))) → Tells (sum_by f xs) (sum_by g ys)
sums_tell f g [] [] e h = refl
sums_tell f g [] (y ∷ ys) e h = absurd (omega (arith, e))
sums_tell f g (x ∷ xs) [] e h = absurd (omega (arith, e))
sums_tell f g (x ∷ xs) (y ∷ ys) e h =
    let here = h 0 x y (omega arith) in
    let more = sums_tell f g xs ys (omega (arith, e)) (λ k a b l. h (suc k) a b (omega (arith, l))) in
    let a = sum_by-cons f x xs in
    let b = sum_by-cons g y ys in
    omega (arith, here, more, a, b)

-- with one more, where it is there
joined : {Y : Type 0} (g : Y → ℕ) (o : Option Y) (ys : List Y) → sum_by g (cons_option o ys) ≡ option_map_or g o 0 + sum_by g ys
joined g None ys = omega arith
joined g (Some y) ys = sum_by-cons g y ys

-- ---- instructions

abbrev piece_told : (TokenUse → ℕ) → Piece → ℕ
piece_told g p = 16 + 4 * targets_in p + option_map_or g (use_in p) 0

pieces_sum : (g : TokenUse → ℕ) (ps : List Piece) → sum_by (piece_told g) ps ≡ 16 * length ps + 4 * sum_by targets_in ps + sum_by g (filter_map use_in ps)
pieces_sum g [] = omega arith
pieces_sum g (p ∷ ps) =
    let more = pieces_sum g ps in
    let a = sum_by-cons (piece_told g) p ps in
    let b = sum_by-cons targets_in p ps in
    let c = joined g (use_in p) (filter_map use_in ps) in
    omega (arith, more, a, b, c)

-- neither a token nor targets
plain_weighs : (names : NameMap) (ps : List Piece) (k : ℕ) (kd : OperandKind) (tail : List ℕ) (o : operand.Operand) → (form kd ≡ token → ⊥) → (form kd ≡ targets → ⊥)
    → SpellsOperand (reading names) ps k kd tail o → operand_weight o ≡ 0
unfolding operand_weight
plain_weighs names ps k kd tail operand.TheVariants.Nothing n t h = refl
plain_weighs names ps k kd tail (operand.TheVariants.Var v) n t h = refl
plain_weighs names ps k kd tail (operand.TheVariants.Int v) n t h = refl
plain_weighs names ps k kd tail (operand.TheVariants.Real v) n t h = refl
plain_weighs names ps k kd tail (operand.TheVariants.Target v) n t h = refl
plain_weighs names ps k kd tail (operand.TheVariants.Targets v) n t h = absurd (t h.0)
plain_weighs names ps k kd tail (operand.TheVariants.Method v) n t h = absurd (n h.formed)
plain_weighs names ps k kd tail (operand.TheVariants.Field v) n t h = absurd (n h.formed)
plain_weighs names ps k kd tail (operand.TheVariants.Of v) n t h = absurd (n h.formed)
plain_weighs names ps k kd tail (operand.TheVariants.Text v) n t h = absurd (n h.formed)

switch_weighs : (names : NameMap) (ps : List Piece) (k : ℕ) (tail : List ℕ) (o : operand.Operand) → SpellsOperand (reading names) ps k kinds.Switch tail o → operand_weight o ≡ 4 * little_number 4 tail
unfolding operand_weight
switch_weighs names ps k tail o h =
    let t = to_targets (reading names) ps k kinds.Switch tail o refl h in
    let c = t.2.count in
    ap operand_weight t.1 ∙ omega (arith, c)

none_told : (w : ℕ) → w ≡ 0 → Tells 0 w
none_told w e = omega (arith, e)

module _ (it : Tokens) (are : AreTokens it) (names : NameMap) (tell : AreNamings it.known.image names) (computed : BlobIsComputed) where
  abbrev operand_told : OperandKind → List ℕ → ℕ
  operand_told kd tail = 4 * switch_targets kd tail + option_map_or (use_told it) (if takes_token kd then Some (token_use kd (number tail)) else None) 0

  token_told : (ps : List Piece) (k : ℕ) (kd : OperandKind) (tail : List ℕ) (o : operand.Operand) → form kd ≡ token → SpellsOperand (reading names) ps k kd tail o
      → Tells (told_as it kd (number tail)) (operand_weight o)
  token_told ps k kd tail o e h = named_tells it are names tell computed kd (number tail) o (to_token (reading names) ps k kd tail o e h)

  operand_tells : (ps : List Piece) (k : ℕ) (kd : OperandKind) (tail : List ℕ) (o : operand.Operand) → SpellsOperand (reading names) ps k kd tail o → Tells (operand_told kd tail) (operand_weight o)
  operand_tells ps k kinds.Method tail o h = let t = token_told ps k kinds.Method tail o refl h in omega (arith, t)
  operand_tells ps k kinds.Field tail o h = let t = token_told ps k kinds.Field tail o refl h in omega (arith, t)
  operand_tells ps k kinds.Of tail o h = let t = token_told ps k kinds.Of tail o refl h in omega (arith, t)
  operand_tells ps k kinds.Text tail o h = let t = token_told ps k kinds.Text tail o refl h in omega (arith, t)
  operand_tells ps k kinds.Token tail o h = let t = token_told ps k kinds.Token tail o refl h in omega (arith, t)
  operand_tells ps k kinds.Switch tail o h = let t = switch_weighs names ps k tail o h in omega (arith, t)
  operand_tells ps k kinds.Nothing tail o h = none_told (operand_weight o) (plain_weighs names ps k kinds.Nothing tail o (λ e. cc) (λ e. cc) h)
  operand_tells ps k kinds.Var8 tail o h = none_told (operand_weight o) (plain_weighs names ps k kinds.Var8 tail o (λ e. cc) (λ e. cc) h)
  operand_tells ps k kinds.Var16 tail o h = none_told (operand_weight o) (plain_weighs names ps k kinds.Var16 tail o (λ e. cc) (λ e. cc) h)
  operand_tells ps k kinds.Num8 tail o h = none_told (operand_weight o) (plain_weighs names ps k kinds.Num8 tail o (λ e. cc) (λ e. cc) h)
  operand_tells ps k kinds.Num32 tail o h = none_told (operand_weight o) (plain_weighs names ps k kinds.Num32 tail o (λ e. cc) (λ e. cc) h)
  operand_tells ps k kinds.Num64 tail o h = none_told (operand_weight o) (plain_weighs names ps k kinds.Num64 tail o (λ e. cc) (λ e. cc) h)
  operand_tells ps k kinds.Byte tail o h = none_told (operand_weight o) (plain_weighs names ps k kinds.Byte tail o (λ e. cc) (λ e. cc) h)
  operand_tells ps k kinds.Real4 tail o h = none_told (operand_weight o) (plain_weighs names ps k kinds.Real4 tail o (λ e. cc) (λ e. cc) h)
  operand_tells ps k kinds.Real8 tail o h = none_told (operand_weight o) (plain_weighs names ps k kinds.Real8 tail o (λ e. cc) (λ e. cc) h)
  operand_tells ps k kinds.Branch8 tail o h = none_told (operand_weight o) (plain_weighs names ps k kinds.Branch8 tail o (λ e. cc) (λ e. cc) h)
  operand_tells ps k kinds.Branch32 tail o h = none_told (operand_weight o) (plain_weighs names ps k kinds.Branch32 tail o (λ e. cc) (λ e. cc) h)

  instruction_tells : (ps : List Piece) (k : ℕ) (p : Piece) (i : Ins) → SpellsIns (reading names) ps k p i → Tells (piece_told (use_told it) p) (instruction_weight i)
  unfolding instruction_weight
  instruction_tells ps k p i h = let t = operand_tells ps k (kind p.op) p.tail i.operand h.operand in omega (arith, t)

  -- ---- clauses

  abbrev clause_told : ClauseRow → ℕ
  clause_told r = 64 + option_map_or (row_told it) (caught_in r) 0

  clauses_sum : (rs : List ClauseRow) → sum_by clause_told rs ≡ 64 * length rs + sum_by (row_told it) (filter_map caught_in rs)
  clauses_sum [] = omega arith
  clauses_sum (r ∷ rs) =
      let more = clauses_sum rs in
      let a = sum_by-cons clause_told r rs in
      let c = joined (row_told it) (caught_in r) (filter_map caught_in rs) in
      omega (arith, more, a, c)

  caught_by : (r : ClauseRow) (n : ℕ) → r.kind ≡ n → option_map_or (row_told it) (caught_in r) 0 ≡ option_map_or (row_told it) (if n == 0 then Some r.class_or_filter else None) 0
  caught_by r n e = ap (λ (z : ℕ). option_map_or (row_told it) (if z == 0 then Some r.class_or_filter else None) 0) e

  handled_tells : (ps : List Piece) (r : ClauseRow) (handler : ℕ) (c : handled.ClauseKind) → SpellsKind (reading names) ps r handler c → Tells (clause_told r) (64 + handled_weight c)
  unfolding handled_weight
  handled_tells ps r handler (handled.TheVariants.Catch o) h =
      let e = caught_by r 0 h.0 in
      let t = owner_tells it are names tell r.class_or_filter o h.1 in
      omega (arith, e, t)
  handled_tells ps r handler (handled.TheVariants.Filter at) h = let e = caught_by r 1 h.0 in omega (arith, e)
  handled_tells ps r handler handled.TheVariants.Finally h = let e = caught_by r 2 h in omega (arith, e)
  handled_tells ps r handler handled.TheVariants.Fault h = let e = caught_by r 4 h in omega (arith, e)

  clause_tells : (ps : List Piece) (r : ClauseRow) (c : Clause) → SpellsClause (reading names) ps r c → Tells (clause_told r) (clause_weight c)
  unfolding clause_weight
  clause_tells ps r c h = handled_tells ps r c.handler_start c.kind h.kind

  -- ---- the whole

  pub body_tells : (bytes : List ℕ) (o : BodyOutline) (told : ℕ) → Outlines bytes o → Tells told (outline_told it o) → (body : Body) (size : ℕ) → Spells (reading names) bytes body size → Tells told (body_weight body)
  unfolding outline_told body_weight
  body_tells bytes o told h t body size s =
      let same : s.pieces ≡ h.pieces = cut_same (code_of bytes) s.pieces h.pieces s.code.cut h.outline.code.cut in
      let code = sums_tell (piece_told (use_told it)) instruction_weight s.pieces body.code s.code.each.count
      (λ k p i l. instruction_tells s.pieces k (slice_index_or s.pieces k p) (slice_index_or body.code k i) (s.code.each.each k p i l)) in
      let clauses = sums_tell clause_told clause_weight (clause_rows bytes) body.clauses s.clauses.count
      (λ k r c l. clause_tells s.pieces (slice_index_or (clause_rows bytes) k r) (slice_index_or body.clauses k c) (s.clauses.each k r c l)) in
      let locals = subst (λ (z : ℕ). Tells (locals_told it z) (64 * length body.locals + sum_by type_weight body.locals)) (sym h.locals) (locals_tell it are names tell (locals_token bytes) body.locals s.locals) in
      let many : o.instructions ≡ length s.pieces = h.instructions ∙ ap (λ (ps : List Piece). length ps) (sym same) in
      let jumps : o.targets ≡ sum_by targets_in s.pieces = h.targets ∙ ap (sum_by targets_in) (sym same) in
      let uses : sum_by (use_told it) o.operands ≡ sum_by (use_told it) (filter_map use_in s.pieces) = ap (sum_by (use_told it)) (h.operands ∙ ap (filter_map use_in) (sym same)) in
      let catches : sum_by (row_told it) o.catches ≡ sum_by (row_told it) (filter_map caught_in (clause_rows bytes)) = ap (sum_by (row_told it)) h.catches in
      let rows = h.clauses in
      let a = pieces_sum (use_told it) s.pieces in
      let b = clauses_sum (clause_rows bytes) in
      omega (arith, code, clauses, locals, many, jumps, uses, catches, rows, a, b, t)

-- a number that tells what is told by the outline tells what the body weighs
pub outline_tells : (it : Tokens) → AreTokens it → BlobIsComputed → (image bytes : List ℕ) (o : BodyOutline) (told : ℕ) → image ≡ it.known.image → Outlines bytes o → Tells told (outline_told it o) → BodyTold image bytes told
outline_tells it are computed image bytes o told e h t names body tell is =
    body_tells it are names (subst (λ (i : List ℕ). AreNamings i names) e tell) computed bytes o told h t body is.0 is.1

-- ---- loops

-- one more
pub sum_more : {X : Type 0} (f : X → ℕ) (xs : List X) (i : ℕ) (x : X) (sum one next : ℕ) → i < length xs → one ≡ f (get_or xs i x) → next ≡ min (sum + one) (2 ^ 64 - 1)
    → Tells sum (sum_by f (take i xs)) → Tells next (sum_by f (take (i + 1) xs))
sum_more f xs i x sum one next less is add told =
    let more = sum_by_more f xs i x less in
    omega (arith, is, add, told, more)

-- all
pub sum_all : {X : Type 0} (f : X → ℕ) (xs : List X) (i sum : ℕ) → length xs ≤ i → Tells sum (sum_by f (take i xs)) → Tells sum (sum_by f xs)
sum_all {X = X} f xs i sum end told = subst (λ (ys : List X). Tells sum (sum_by f ys)) (take_all i xs end) told
