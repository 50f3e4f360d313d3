-- A body whose tokens all have names is spelled.
use Rattle.std.proofs.Common.{◌≡◌, ◌∙◌, sym, ap, subst, refl, ℕ, zero, suc, ◌+◌, ◌<◌, ◌≤◌, ◌⊎◌, inl, inr, true, false, pos, List, [], ◌∷◌, ◌++◌, length, get_or, slice_index, slice_index_or, Option, None, Some, option_map, arith}
use Rattle.std.specs.Option.{option_or}
use Rattle.std.proofs.lemmas.Bool.{false≢true}
use Rattle.std.proofs.lemmas.Option.{none-some, same_Some}
use Rattle.std.proofs.lemmas.List.{length-append, get_or_default}
use Rattle.byteorder.specs.Endian.{little_number}
use Rattle.type_terms.specs.declared.term.Owner.{Owner}
use Rattle.opcode_table.specs.declared.kind.OperandKind.{OperandKind}
use Rattle.opcode_table.specs.declared.kind.OperandKind.TheVariants as kinds
use Rattle.assembly_tree.specs.declared.body.Body.{Body}
use Rattle.assembly_tree.specs.declared.body.Clause.{Clause}
use Rattle.assembly_tree.specs.declared.body.ClauseKind as handled
use Rattle.assembly_tree.specs.declared.body.Ins.{Ins}
use Rattle.assembly_tree.specs.declared.body.Operand as operand
use Rattle.body_codec.specs.declared.decoding.sections.ClauseRow.{ClauseRow}
use Rattle.body_codec.specs.Instruction.{Piece, kind, number, signed, target_count, displacement}
use Rattle.body_codec.specs.Names.{NameMap, reading, takes_token, named}
use Rattle.body_codec.specs.Spelling.{LeadsTo, token, form, SpellsOperand, SpellsToken, SpellsTargets, SpellsIns, SpellsEach}
use Rattle.body_codec.specs.Header.{bound_of, inits, locals_token}
use Rattle.body_codec.specs.Sections.{IsRange, SpellsKind, SpellsClause, SpellsClauses, clause_rows, body_end}
use Rattle.body_codec.specs.Bodies.{Spells}
use Rattle.body_codec.specs.Faults.{IsKnown, IsOutline, HasTargets, HaveTargets, HasKind, IsClause, AreClauses, HasName, HaveNames, Catches, HaveCatches}
use Rattle.body_codec.proofs.Marks.{each_push}
use Rattle.body_codec.proofs.Outcomes.{any_piece, any_row}

-- ---- a list of what there is for each number

record Collected (X : Type 0) (P : ℕ → X → Type 0) (n : ℕ) : Type 0 where
  items : List X
  count : length items ≡ n
  each : (k : ℕ) (d : X) → k < n → P k (get_or items k d)

collect : {X : Type 0} (P : ℕ → X → Type 0) (n : ℕ) → ((k : ℕ) → k < n → (x : X) × P k x) → Collected X P n
collect P zero h = record { items = []; count = refl; each = λ k d l. absurd (omega arith) }
collect {X = X} P (suc n) h =
    let before : Collected X P n = collect P n (λ k l. h k (omega arith)) in
    let last = h n (omega arith) in
    record {
      items = before.items ++ last.0 ∷ [];
      count = let l = length-append before.items (last.0 ∷ []) in let c = before.count in omega arith;
      each = λ k d l. each_push P before.items last.0 n before.count before.each last.1 k d (omega arith);
    }

-- ---- operands

map_spelled : {V : Type 0} (f : V → operand.Operand) (P : operand.Operand → Type 0) → ((v : V) → P (f v)) → (x : Option V) (o : operand.Operand) → option_map f x ≡ Some o → P o
map_spelled f P h None o e = absurd (none-some o e)
map_spelled f P h (Some v) o e = subst P (same_Some (f v) o e) (h v)

or_spelled : (P : operand.Operand → Type 0) (a b : Option operand.Operand) (o : operand.Operand) → (a ≡ Some o → P o) → (b ≡ Some o → P o) → option_or a b ≡ Some o → P o
or_spelled P None b o f g e = g e
or_spelled P (Some x) b o f g e = f e

-- what a name is an operand of: where it is spelled as a token
abbrev IsName : operand.Operand → Type 0
IsName (operand.TheVariants.Method m) = Unit {0}
IsName (operand.TheVariants.Field f) = Unit {0}
IsName (operand.TheVariants.Of o) = Unit {0}
IsName (operand.TheVariants.Text units) = Unit {0}
IsName operand.TheVariants.Nothing = ⊥
IsName (operand.TheVariants.Var n) = ⊥
IsName (operand.TheVariants.Int n) = ⊥
IsName (operand.TheVariants.Real n) = ⊥
IsName (operand.TheVariants.Target n) = ⊥
IsName (operand.TheVariants.Targets n) = ⊥

named_name : (names : NameMap) (kd : OperandKind) (t : ℕ) (o : operand.Operand) → named names kd t ≡ Some o → IsName o
named_name names kinds.Method t o e = map_spelled operand.TheVariants.Method IsName (λ v. tt) (names.methods t) o e
named_name names kinds.Field t o e = map_spelled operand.TheVariants.Field IsName (λ v. tt) (names.fields t) o e
named_name names kinds.Of t o e = map_spelled operand.TheVariants.Of IsName (λ v. tt) (names.owners t) o e
named_name names kinds.Text t o e = map_spelled operand.TheVariants.Text IsName (λ v. tt) (names.texts t) o e
named_name names kinds.Token t o e =
    or_spelled IsName (option_map operand.TheVariants.Method (names.methods t)) (option_or (option_map operand.TheVariants.Field (names.fields t)) (option_map operand.TheVariants.Of (names.owners t))) o
    (map_spelled operand.TheVariants.Method IsName (λ v. tt) (names.methods t) o)
    (or_spelled IsName (option_map operand.TheVariants.Field (names.fields t)) (option_map operand.TheVariants.Of (names.owners t)) o
    (map_spelled operand.TheVariants.Field IsName (λ v. tt) (names.fields t) o) (map_spelled operand.TheVariants.Of IsName (λ v. tt) (names.owners t) o)) e
named_name names _ t o e = absurd (none-some o e)

name_spelled : (names : NameMap) (ps : List Piece) (k : ℕ) (kd : OperandKind) (tail : List ℕ) (o : operand.Operand) → IsName o → SpellsToken (reading names) kd tail o
    → SpellsOperand (reading names) ps k kd tail o
name_spelled names ps k kd tail (operand.TheVariants.Method m) n h = h
name_spelled names ps k kd tail (operand.TheVariants.Field m) n h = h
name_spelled names ps k kd tail (operand.TheVariants.Of m) n h = h
name_spelled names ps k kd tail (operand.TheVariants.Text m) n h = h
name_spelled names ps k kd tail operand.TheVariants.Nothing n h = absurd n
name_spelled names ps k kd tail (operand.TheVariants.Var m) n h = absurd n
name_spelled names ps k kd tail (operand.TheVariants.Int m) n h = absurd n
name_spelled names ps k kd tail (operand.TheVariants.Real m) n h = absurd n
name_spelled names ps k kd tail (operand.TheVariants.Target m) n h = absurd n
name_spelled names ps k kd tail (operand.TheVariants.Targets m) n h = absurd n

token_exists : (names : NameMap) (ps : List Piece) (k : ℕ) (kd : OperandKind) (tail : List ℕ) → form kd ≡ token
    → ((value : operand.Operand) × (named names kd (number tail) ≡ Some value)) → (o : operand.Operand) × SpellsOperand (reading names) ps k kd tail o
token_exists names ps k kd tail e v =
    (v.0, name_spelled names ps k kd tail v.0 (named_name names kd (number tail) v.0 v.1) (record { formed = e; named = v.1 }))

switch_exists : (names : NameMap) (ps : List Piece) (k : ℕ) (tail : List ℕ)
    → ((i : ℕ) → i < little_number 4 tail → (t : ℕ) × LeadsTo ps k t (displacement kinds.Switch tail i)) → (o : operand.Operand) × SpellsOperand (reading names) ps k kinds.Switch tail o
switch_exists names ps k tail h =
    let ts = collect (λ i t. LeadsTo ps k t (displacement kinds.Switch tail i)) (little_number 4 tail) h in
    let spelled : SpellsTargets ps k tail ts.items = record { count = ts.count; each = λ i l. ts.each i 0 (let c = ts.count in omega arith) } in
    (operand.TheVariants.Targets ts.items, (refl, spelled))

operand_exists : (names : NameMap) (ps : List Piece) (k : ℕ) (kd : OperandKind) (tail : List ℕ)
    → ((i : ℕ) → i < target_count kd tail → (t : ℕ) × LeadsTo ps k t (displacement kd tail i))
    → (takes_token kd ≡ true → (value : operand.Operand) × (named names kd (number tail) ≡ Some value)) → (o : operand.Operand) × SpellsOperand (reading names) ps k kd tail o
operand_exists names ps k kinds.Nothing tail h g = (operand.TheVariants.Nothing, refl)
operand_exists names ps k kinds.Var8 tail h g = (operand.TheVariants.Var (number tail), (refl, refl))
operand_exists names ps k kinds.Var16 tail h g = (operand.TheVariants.Var (number tail), (refl, refl))
operand_exists names ps k kinds.Num8 tail h g = (operand.TheVariants.Int (signed tail), refl)
operand_exists names ps k kinds.Num32 tail h g = (operand.TheVariants.Int (signed tail), refl)
operand_exists names ps k kinds.Num64 tail h g = (operand.TheVariants.Int (signed tail), refl)
operand_exists names ps k kinds.Byte tail h g = (operand.TheVariants.Int (pos (number tail)), refl)
operand_exists names ps k kinds.Real4 tail h g = (operand.TheVariants.Real (number tail), (refl, refl))
operand_exists names ps k kinds.Real8 tail h g = (operand.TheVariants.Real (number tail), (refl, refl))
operand_exists names ps k kinds.Branch8 tail h g = let t = h 0 (omega arith) in (operand.TheVariants.Target t.0, (refl, t.1))
operand_exists names ps k kinds.Branch32 tail h g = let t = h 0 (omega arith) in (operand.TheVariants.Target t.0, (refl, t.1))
operand_exists names ps k kinds.Switch tail h g = switch_exists names ps k tail h
operand_exists names ps k kinds.Method tail h g = token_exists names ps k kinds.Method tail refl (g refl)
operand_exists names ps k kinds.Field tail h g = token_exists names ps k kinds.Field tail refl (g refl)
operand_exists names ps k kinds.Of tail h g = token_exists names ps k kinds.Of tail refl (g refl)
operand_exists names ps k kinds.Text tail h g = token_exists names ps k kinds.Text tail refl (g refl)
operand_exists names ps k kinds.Token tail h g = token_exists names ps k kinds.Token tail refl (g refl)

-- ---- instructions

ins_exists : (names : NameMap) (ps : List Piece) (k : ℕ) → k < length ps → HaveTargets ps (length ps) → HaveNames names ps (length ps)
    → (ins : Ins) × ((p : Piece) → SpellsIns (reading names) ps k (slice_index_or ps k p) ins)
ins_exists names ps k l t h =
    let q = slice_index_or ps k any_piece in
    let o = operand_exists names ps k (kind q.op) q.tail (t k any_piece l) (h k any_piece l) in
    let ins : Ins = record { op = q.op; operand = o.0 } in
    let P : Piece → Type 0 = λ p. SpellsIns (reading names) ps k p ins in
    (ins, λ p. subst P (get_or_default ps k any_piece p l) (record { op = refl; operand = o.1 }))

code_exists : (names : NameMap) (ps : List Piece) → HaveTargets ps (length ps) → HaveNames names ps (length ps) → (code : List Ins) × SpellsEach (reading names) ps code
code_exists names ps t h =
    let found = collect (λ k (ins : Ins). (p : Piece) → SpellsIns (reading names) ps k (slice_index_or ps k p) ins) (length ps) (λ k l. ins_exists names ps k l t h) in
    let spelled : SpellsEach (reading names) ps found.items = record {
      count = sym found.count;
      each = λ k p i l. found.each k i (let c = found.count in omega arith) p;
    } in
    (found.items, spelled)

-- ---- clauses

kind_exists : (names : NameMap) (ps : List Piece) (row : ClauseRow) (handler : ℕ) → HasKind ps row handler → Catches names row
    → (k : handled.ClauseKind) × SpellsKind (reading names) ps row handler k
kind_exists names ps row handler (inl e) c = let o = c e in (handled.TheVariants.Catch o.0, (e, o.1))
kind_exists names ps row handler (inr (inl f)) c = (handled.TheVariants.Filter f.1, (f.0, f.2, f.3))
kind_exists names ps row handler (inr (inr (inl e))) c = (handled.TheVariants.Finally, e)
kind_exists names ps row handler (inr (inr (inr e))) c = (handled.TheVariants.Fault, e)

clause_exists : (names : NameMap) (ps : List Piece) (row : ClauseRow) → IsClause ps row → Catches names row → (c : Clause) × SpellsClause (reading names) ps row c
clause_exists names ps row h c =
    let k = kind_exists names ps row h.handler_start h.kind c in
    let clause : Clause = record { kind = k.0; try_start = h.try_start; try_end = h.try_end; handler_start = h.handler_start; handler_end = h.handler_end } in
    (clause, record { try_range = h.try_range; handler_range = h.handler_range; kind = k.1 })

clause_at : (names : NameMap) (ps : List Piece) (rows : List ClauseRow) (k : ℕ) → k < length rows → AreClauses ps rows (length rows) → HaveCatches names rows (length rows)
    → (c : Clause) × ((r : ClauseRow) → SpellsClause (reading names) ps (slice_index_or rows k r) c)
clause_at names ps rows k l h c =
    let one = clause_exists names ps (slice_index_or rows k any_row) (h k any_row l) (c k any_row l) in
    let P : ClauseRow → Type 0 = λ r. SpellsClause (reading names) ps r one.0 in
    (one.0, λ r. subst P (get_or_default rows k any_row r l) one.1)

clauses_exist : (names : NameMap) (ps : List Piece) (rows : List ClauseRow) → length rows ≤ 65535 → AreClauses ps rows (length rows) → HaveCatches names rows (length rows)
    → (clauses : List Clause) × SpellsClauses (reading names) ps rows clauses
clauses_exist names ps rows few h c =
    let found = collect (λ k (x : Clause). (r : ClauseRow) → SpellsClause (reading names) ps (slice_index_or rows k r) x) (length rows) (λ k l. clause_at names ps rows k l h c) in
    let spelled : SpellsClauses (reading names) ps rows found.items = record {
      count = sym found.count;
      few = few;
      each = λ k r x l. found.each k x (let n = found.count in omega arith) r;
    } in
    (found.items, spelled)

-- ---- the body

pub body_exists : (names : NameMap) (bytes : List ℕ) (ps : List Piece) → IsKnown names bytes → IsOutline bytes ps → HaveNames names ps (length ps)
    → HaveCatches names (clause_rows bytes) (length (clause_rows bytes)) → (body : Body) × (size : ℕ) × Spells (reading names) bytes body size
body_exists names bytes ps known outline h c =
    let code = code_exists names ps outline.code.targets h in
    let clauses = clauses_exist names ps (clause_rows bytes) outline.clauses.few outline.clauses.each c in
    let body : Body = record { bound = bound_of bytes; init = inits bytes; locals = known.types; code = code.0; clauses = clauses.0 } in
    let spelled : Spells (reading names) bytes body (body_end bytes) = record {
      header = known.header;
      bound = refl;
      init = refl;
      locals = known.locals;
      pieces = ps;
      code = record { cut = outline.code.cut; each = code.1 };
      read = outline.clauses.read;
      clauses = clauses.1;
      ends = refl;
    } in
    (body, body_end bytes, spelled)
