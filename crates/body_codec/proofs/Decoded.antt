-- What the steps of decode found together are the body, or its first fault.
use Rattle.std.proofs.Common.{◌≡◌, ◌≢◌, ◌∙◌, sym, ap, subst, refl, ℕ, ◌≤◌, ◌⊎◌, inl, inr, Bool, List, length, slice_index_or, Result, Ok, Err, IfOk, IfErr, arith}
use Rattle.std.proofs.lemmas.List.{same_lists}
use Rattle.type_terms.specs.declared.term.SigType.{SigType}
use Rattle.assembly_tree.specs.declared.body.Body.{Body}
use Rattle.assembly_tree.specs.declared.body.Clause.{Clause}
use Rattle.assembly_tree.specs.declared.body.ClauseKind as handled
use Rattle.assembly_tree.specs.declared.body.Ins.{Ins}
use Rattle.body_codec.specs.declared.fault.BodyFault.{BodyFault}
use Rattle.body_codec.specs.declared.fault.BodyFault.TheVariants as faults
use Rattle.body_codec.specs.declared.decoding.sections.ClauseRow.{ClauseRow}
use Rattle.body_codec.specs.Instruction.{Piece, kind}
use Rattle.body_codec.specs.Names.{NameMap, Notation, reading}
use Rattle.body_codec.specs.Spelling.{SpellsEach, IsCut}
use Rattle.body_codec.specs.Header.{locals_token, code_of, SpellsLocals}
use Rattle.body_codec.specs.Sections.{is_broken, clause_rows, SpellsKind, SpellsClause, SpellsClauses}
use Rattle.body_codec.specs.Bodies.{Spells}
use Rattle.body_codec.specs.Faults.{IsKnown, BeginsOpcode, IsUnknown, IsCutOff, HaveTargets, HasKind, IsClause, AreClauses, HasClauses, HaveNames, Catches, HaveCatches, IsUnnamedAt, IsUncaughtAt, IsAstray, IsWrongAt, IsCode, IsOutline, IsFault, Answers}
use Rattle.body_codec.proofs.Outcomes.{any_row, stop_tells, stop_cut, cut_same, astray_not, astray_tells, wrong_not, wrong_tells, unnamed_not, unnamed_tells, uncaught_not, uncaught_tells}
use Rattle.body_codec.proofs.Spelled.{operand_targets, operand_name, code_tells, some_tells}
use Rattle.body_codec.proofs.Places.{range_tells, place_tells}

-- ---- what is spelled passes each stage

known : (names : NameMap) (bytes : List ℕ) (b : Body) (n : ℕ) → Spells (reading names) bytes b n → IsKnown names bytes
known names bytes b n s = record { header = s.header; types = b.locals; locals = s.locals }

-- an item of a list with places below its length, whatever the default
code_targets : (names : NameMap) (ps : List Piece) (code : List Ins) (any : Ins) → SpellsEach (reading names) ps code → HaveTargets ps (length ps)
code_targets names ps code any e k p h =
    let c = e.count in
    let s = e.each k p any (omega arith) in
    let q = slice_index_or ps k p in
    operand_targets (reading names) ps k (kind q.op) q.tail (slice_index_or code k any).operand s.operand

pub code_names : (names : NameMap) (ps : List Piece) (code : List Ins) (any : Ins) → SpellsEach (reading names) ps code → HaveNames names ps (length ps)
code_names names ps code any e k p h t =
    let c = e.count in
    let s = e.each k p any (omega arith) in
    let q = slice_index_or ps k p in
    ((slice_index_or code k any).operand, operand_name names ps k (kind q.op) q.tail (slice_index_or code k any).operand s.operand t)

spelled_kind : (w : Notation) (ps : List Piece) (row : ClauseRow) (handler : ℕ) (k : handled.ClauseKind) → SpellsKind w ps row handler k → HasKind ps row handler
spelled_kind w ps row handler (handled.TheVariants.Catch o) h = inl h.0
spelled_kind w ps row handler (handled.TheVariants.Filter at) h = inr (inl (h.0, at, h.1, h.2))
spelled_kind w ps row handler handled.TheVariants.Finally h = inr (inr (inl h))
spelled_kind w ps row handler handled.TheVariants.Fault h = inr (inr (inr h))

clause_is : (w : Notation) (ps : List Piece) (row : ClauseRow) (c : Clause) → SpellsClause w ps row c → IsClause ps row
clause_is w ps row c h = record {
  try_start = c.try_start;
  try_end = c.try_end;
  handler_start = c.handler_start;
  handler_end = c.handler_end;
  try_range = h.try_range;
  handler_range = h.handler_range;
  kind = spelled_kind w ps row c.handler_start c.kind h.kind;
}

kind_catches : (names : NameMap) (ps : List Piece) (row : ClauseRow) (handler : ℕ) (k : handled.ClauseKind) → SpellsKind (reading names) ps row handler k → Catches names row
kind_catches names ps row handler (handled.TheVariants.Catch o) h e = (o, h.1)
kind_catches names ps row handler (handled.TheVariants.Filter at) h e = let f = h.0 in absurd (omega arith)
kind_catches names ps row handler handled.TheVariants.Finally h e = absurd (omega arith)
kind_catches names ps row handler handled.TheVariants.Fault h e = absurd (omega arith)

any_clause : Clause
any_clause = record { kind = handled.TheVariants.Finally; try_start = 0; try_end = 0; handler_start = 0; handler_end = 0 }

clauses_are : (w : Notation) (ps : List Piece) (rows : List ClauseRow) (cs : List Clause) → SpellsClauses w ps rows cs → AreClauses ps rows (length rows)
clauses_are w ps rows cs s k r h =
    let c = s.count in
    clause_is w ps (slice_index_or rows k r) (slice_index_or cs k any_clause) (s.each k r any_clause (omega arith))

clauses_catch : (names : NameMap) (ps : List Piece) (rows : List ClauseRow) (cs : List Clause) → SpellsClauses (reading names) ps rows cs → HaveCatches names rows (length rows)
clauses_catch names ps rows cs s k r h =
    let c = s.count in
    let x = s.each k r any_clause (omega arith) in
    let d = slice_index_or cs k any_clause in
    kind_catches names ps (slice_index_or rows k r) d.handler_start d.kind x.kind

-- ---- and each fault is excluded by it

pub record Passes (names : NameMap) (bytes : List ℕ) : Type 0 where
  pub known : IsKnown names bytes
  pub pieces : List Piece
  pub cut : IsCut (code_of bytes) pieces
  pub targets : HaveTargets pieces (length pieces)
  pub clauses : HasClauses pieces bytes
  pub names_known : HaveNames names pieces (length pieces)
  pub catches : HaveCatches names (clause_rows bytes) (length (clause_rows bytes))

pub spelled_passes : (names : NameMap) (bytes : List ℕ) (b : Body) (n : ℕ) (any : Ins) → Spells (reading names) bytes b n → Passes names bytes
spelled_passes names bytes b n any s = record {
  known = known names bytes b n s;
  pieces = s.pieces;
  cut = s.code.cut;
  targets = code_targets names s.pieces b.code any s.code.each;
  clauses = record { read = s.read; few = s.clauses.few; each = clauses_are (reading names) s.pieces (clause_rows bytes) b.clauses s.clauses };
  names_known = code_names names s.pieces b.code any s.code.each;
  catches = clauses_catch names s.pieces (clause_rows bytes) b.clauses s.clauses;
}

targets_along : (bytes : List ℕ) (ps qs : List Piece) → IsCut (code_of bytes) ps → IsCut (code_of bytes) qs → HaveTargets ps (length ps) → HaveTargets qs (length qs)
targets_along bytes ps qs c d h = subst (λ xs. HaveTargets xs (length xs)) (cut_same (code_of bytes) ps qs c d) h

astray_along : (bytes : List ℕ) (ps qs : List Piece) (o : ℕ) → IsCut (code_of bytes) ps → IsCut (code_of bytes) qs → IsAstray ps o → IsAstray qs o
astray_along bytes ps qs o c d h = subst (λ xs. IsAstray xs o) (cut_same (code_of bytes) ps qs c d) h

-- the stages that a fault behind the header passes before it fails
pub fault_excluded : (names : NameMap) (bytes : List ℕ) (f : BodyFault) → Passes names bytes → IsFault names bytes f → (f ≡ faults.NoMemory)
fault_excluded names bytes faults.Header p h = absurd (h p.known)
fault_excluded names bytes (faults.Opcode o) p h = absurd (stop_cut (code_of bytes) o h.1.rest p.pieces h.1.stops p.cut)
fault_excluded names bytes (faults.Cut o) p h = absurd (stop_cut (code_of bytes) o h.1.rest p.pieces h.1.stops p.cut)
fault_excluded names bytes (faults.Target o) p h =
    absurd (astray_not p.pieces o (astray_along bytes h.1.0 p.pieces o h.1.1 p.cut h.1.2) p.targets)
fault_excluded names bytes (faults.Range c) p h =
    let same = cut_same (code_of bytes) h.1.0 p.pieces h.1.1.cut p.cut in
    let w = subst (λ xs. IsWrongAt xs (clause_rows bytes) (is_broken bytes) c) same h.1.2 in
    absurd (wrong_not p.pieces (clause_rows bytes) (is_broken bytes) c w p.clauses.read p.clauses.few p.clauses.each)
fault_excluded names bytes (faults.Token o) p h =
    let same = cut_same (code_of bytes) h.1.0 p.pieces h.1.1.code.cut p.cut in
    absurd (elim h.1.2 [
      | inl u ↦ unnamed_not names p.pieces o (subst (λ xs. IsUnnamedAt names xs o) same u) p.names_known
      | inr u ↦ uncaught_not names (clause_rows bytes) o u.1 p.catches
    ])
fault_excluded names bytes (faults.Far k) p h = absurd h
fault_excluded names bytes faults.NoMemory p h = refl

-- ---- of two faults one is the other

pub unknown_cutoff : (code : List ℕ) (o p : ℕ) → IsUnknown code o → IsCutOff code p → ⊥
unknown_cutoff code o p u c = let t = stop_tells code o p u.rest c.rest u.stops c.stops in u.unknown (subst BeginsOpcode (sym t.1) c.begins)

pub target_code : (bytes : List ℕ) (ps qs : List Piece) (o : ℕ) → IsCut (code_of bytes) ps → IsAstray ps o → IsCode bytes qs → ⊥
target_code bytes ps qs o c a d = astray_not qs o (astray_along bytes ps qs o c d.cut a) d.targets

pub target_target : (bytes : List ℕ) (ps qs : List Piece) (o p : ℕ) → IsCut (code_of bytes) ps → IsAstray ps o → IsCut (code_of bytes) qs → IsAstray qs p → o ≡ p
target_target bytes ps qs o p c a d b = astray_tells qs o p (astray_along bytes ps qs o c d a) b

wrong_along : (bytes : List ℕ) (ps qs : List Piece) (c : ℕ) → IsCode bytes ps → IsCode bytes qs → IsWrongAt ps (clause_rows bytes) (is_broken bytes) c → IsWrongAt qs (clause_rows bytes) (is_broken bytes) c
wrong_along bytes ps qs c d e w = subst (λ xs. IsWrongAt xs (clause_rows bytes) (is_broken bytes) c) (cut_same (code_of bytes) ps qs d.cut e.cut) w

pub range_outline : (bytes : List ℕ) (ps qs : List Piece) (c : ℕ) → IsCode bytes ps → IsWrongAt ps (clause_rows bytes) (is_broken bytes) c → IsOutline bytes qs → ⊥
range_outline bytes ps qs c d w e = wrong_not qs (clause_rows bytes) (is_broken bytes) c (wrong_along bytes ps qs c d e.code w) e.clauses.read e.clauses.few e.clauses.each

pub range_range : (bytes : List ℕ) (ps qs : List Piece) (c d : ℕ) → IsCode bytes ps → IsWrongAt ps (clause_rows bytes) (is_broken bytes) c → IsCode bytes qs
    → IsWrongAt qs (clause_rows bytes) (is_broken bytes) d → c ≡ d
range_range bytes ps qs c d e w f v = wrong_tells qs (clause_rows bytes) (is_broken bytes) c d (wrong_along bytes ps qs c e f w) v

-- an unknown token, at these instructions
abbrev TokenAt : NameMap → List ℕ → List Piece → ℕ → Type 0
TokenAt names bytes ps o = IsUnnamedAt names ps o ⊎ (HaveNames names ps (length ps) × IsUncaughtAt names (clause_rows bytes) o)

token_same : (names : NameMap) (bytes : List ℕ) (ps : List Piece) (o p : ℕ) → TokenAt names bytes ps o → TokenAt names bytes ps p → o ≡ p
token_same names bytes ps o p (inl u) (inl v) = unnamed_tells names ps o p u v
token_same names bytes ps o p (inl u) (inr v) = absurd (unnamed_not names ps o u v.0)
token_same names bytes ps o p (inr u) (inl v) = absurd (unnamed_not names ps p v u.0)
token_same names bytes ps o p (inr u) (inr v) = uncaught_tells names (clause_rows bytes) o p u.1 v.1

token_token : (names : NameMap) (bytes : List ℕ) (ps qs : List Piece) (o p : ℕ) → IsOutline bytes ps → TokenAt names bytes ps o → IsOutline bytes qs → TokenAt names bytes qs p → o ≡ p
token_token names bytes ps qs o p d t e u =
    token_same names bytes qs o p (subst (λ xs. TokenAt names bytes xs o) (cut_same (code_of bytes) ps qs d.code.cut e.code.cut) t) u

pub fault_tells : (names : NameMap) (bytes : List ℕ) (f g : BodyFault) → IsFault names bytes f → IsFault names bytes g → (f ≡ g) ⊎ ((f ≡ faults.NoMemory) ⊎ (g ≡ faults.NoMemory))
fault_tells names bytes faults.Header faults.Header h k = inl refl
fault_tells names bytes faults.Header (faults.Opcode p) h k = absurd (h k.0)
fault_tells names bytes faults.Header (faults.Cut p) h k = absurd (h k.0)
fault_tells names bytes faults.Header (faults.Target p) h k = absurd (h k.0)
fault_tells names bytes faults.Header (faults.Range p) h k = absurd (h k.0)
fault_tells names bytes faults.Header (faults.Token p) h k = absurd (h k.0)
fault_tells names bytes faults.Header (faults.Far p) h k = absurd k
fault_tells names bytes faults.Header faults.NoMemory h k = inr (inr refl)
fault_tells names bytes (faults.Opcode o) faults.Header h k = absurd (k h.0)
fault_tells names bytes (faults.Opcode o) (faults.Opcode p) h k = inl (ap faults.Opcode (stop_tells (code_of bytes) o p h.1.rest k.1.rest h.1.stops k.1.stops).0)
fault_tells names bytes (faults.Opcode o) (faults.Cut p) h k = absurd (unknown_cutoff (code_of bytes) o p h.1 k.1)
fault_tells names bytes (faults.Opcode o) (faults.Target p) h k = absurd (stop_cut (code_of bytes) o h.1.rest (k.1.0) h.1.stops k.1.1)
fault_tells names bytes (faults.Opcode o) (faults.Range p) h k = absurd (stop_cut (code_of bytes) o h.1.rest (k.1.0) h.1.stops k.1.1.cut)
fault_tells names bytes (faults.Opcode o) (faults.Token p) h k = absurd (stop_cut (code_of bytes) o h.1.rest (k.1.0) h.1.stops k.1.1.code.cut)
fault_tells names bytes (faults.Opcode o) (faults.Far p) h k = absurd k
fault_tells names bytes (faults.Opcode o) faults.NoMemory h k = inr (inr refl)
fault_tells names bytes (faults.Cut o) faults.Header h k = absurd (k h.0)
fault_tells names bytes (faults.Cut o) (faults.Opcode p) h k = absurd (unknown_cutoff (code_of bytes) p o k.1 h.1)
fault_tells names bytes (faults.Cut o) (faults.Cut p) h k = inl (ap faults.Cut (stop_tells (code_of bytes) o p h.1.rest k.1.rest h.1.stops k.1.stops).0)
fault_tells names bytes (faults.Cut o) (faults.Target p) h k = absurd (stop_cut (code_of bytes) o h.1.rest (k.1.0) h.1.stops k.1.1)
fault_tells names bytes (faults.Cut o) (faults.Range p) h k = absurd (stop_cut (code_of bytes) o h.1.rest (k.1.0) h.1.stops k.1.1.cut)
fault_tells names bytes (faults.Cut o) (faults.Token p) h k = absurd (stop_cut (code_of bytes) o h.1.rest (k.1.0) h.1.stops k.1.1.code.cut)
fault_tells names bytes (faults.Cut o) (faults.Far p) h k = absurd k
fault_tells names bytes (faults.Cut o) faults.NoMemory h k = inr (inr refl)
fault_tells names bytes (faults.Target o) faults.Header h k = absurd (k h.0)
fault_tells names bytes (faults.Target o) (faults.Opcode p) h k = absurd (stop_cut (code_of bytes) p k.1.rest (h.1.0) k.1.stops h.1.1)
fault_tells names bytes (faults.Target o) (faults.Cut p) h k = absurd (stop_cut (code_of bytes) p k.1.rest (h.1.0) k.1.stops h.1.1)
fault_tells names bytes (faults.Target o) (faults.Target p) h k = inl (ap faults.Target (target_target bytes h.1.0 k.1.0 o p h.1.1 h.1.2 k.1.1 k.1.2))
fault_tells names bytes (faults.Target o) (faults.Range p) h k = absurd (target_code bytes h.1.0 (k.1.0) o h.1.1 h.1.2 (k.1.1))
fault_tells names bytes (faults.Target o) (faults.Token p) h k = absurd (target_code bytes h.1.0 (k.1.0) o h.1.1 h.1.2 (k.1.1.code))
fault_tells names bytes (faults.Target o) (faults.Far p) h k = absurd k
fault_tells names bytes (faults.Target o) faults.NoMemory h k = inr (inr refl)
fault_tells names bytes (faults.Range o) faults.Header h k = absurd (k h.0)
fault_tells names bytes (faults.Range o) (faults.Opcode p) h k = absurd (stop_cut (code_of bytes) p k.1.rest (h.1.0) k.1.stops h.1.1.cut)
fault_tells names bytes (faults.Range o) (faults.Cut p) h k = absurd (stop_cut (code_of bytes) p k.1.rest (h.1.0) k.1.stops h.1.1.cut)
fault_tells names bytes (faults.Range o) (faults.Target p) h k = absurd (target_code bytes k.1.0 (h.1.0) p k.1.1 k.1.2 (h.1.1))
fault_tells names bytes (faults.Range o) (faults.Range p) h k = inl (ap faults.Range (range_range bytes h.1.0 k.1.0 o p h.1.1 h.1.2 k.1.1 k.1.2))
fault_tells names bytes (faults.Range o) (faults.Token p) h k = absurd (range_outline bytes h.1.0 k.1.0 o h.1.1 h.1.2 k.1.1)
fault_tells names bytes (faults.Range o) (faults.Far p) h k = absurd k
fault_tells names bytes (faults.Range o) faults.NoMemory h k = inr (inr refl)
fault_tells names bytes (faults.Token o) faults.Header h k = absurd (k h.0)
fault_tells names bytes (faults.Token o) (faults.Opcode p) h k = absurd (stop_cut (code_of bytes) p k.1.rest (h.1.0) k.1.stops h.1.1.code.cut)
fault_tells names bytes (faults.Token o) (faults.Cut p) h k = absurd (stop_cut (code_of bytes) p k.1.rest (h.1.0) k.1.stops h.1.1.code.cut)
fault_tells names bytes (faults.Token o) (faults.Target p) h k = absurd (target_code bytes k.1.0 (h.1.0) p k.1.1 k.1.2 (h.1.1.code))
fault_tells names bytes (faults.Token o) (faults.Range p) h k = absurd (range_outline bytes k.1.0 h.1.0 p k.1.1 k.1.2 h.1.1)
fault_tells names bytes (faults.Token o) (faults.Token p) h k = inl (ap faults.Token (token_token names bytes h.1.0 k.1.0 o p h.1.1 h.1.2 k.1.1 k.1.2))
fault_tells names bytes (faults.Token o) (faults.Far p) h k = absurd k
fault_tells names bytes (faults.Token o) faults.NoMemory h k = inr (inr refl)
fault_tells names bytes (faults.Far o) g h k = absurd h
fault_tells names bytes faults.NoMemory g h k = inr (inl refl)

-- ---- of two bodies one is the other

kind_tells : (names : NameMap) (ps : List Piece) (row : ClauseRow) (handler : ℕ) (k l : handled.ClauseKind) → handler ≤ length ps → SpellsKind (reading names) ps row handler k
    → SpellsKind (reading names) ps row handler l → k ≡ l
kind_tells names ps row handler (handled.TheVariants.Catch o) (handled.TheVariants.Catch p) n h g = ap handled.TheVariants.Catch (some_tells (names.owners row.class_or_filter) o p h.1 g.1)
kind_tells names ps row handler (handled.TheVariants.Catch o) (handled.TheVariants.Filter at) n h g = let a = h.0 in let b = g.0 in absurd (omega arith)
kind_tells names ps row handler (handled.TheVariants.Catch o) handled.TheVariants.Finally n h g = let a = h.0 in absurd (omega arith)
kind_tells names ps row handler (handled.TheVariants.Catch o) handled.TheVariants.Fault n h g = let a = h.0 in absurd (omega arith)
kind_tells names ps row handler (handled.TheVariants.Filter at) (handled.TheVariants.Catch p) n h g = let a = h.0 in let b = g.0 in absurd (omega arith)
kind_tells names ps row handler (handled.TheVariants.Filter at) (handled.TheVariants.Filter to) n h g =
    let a = h.1 in let b = g.1 in ap handled.TheVariants.Filter (place_tells ps at to (omega arith) (omega arith) (h.2 ∙ sym g.2))
kind_tells names ps row handler (handled.TheVariants.Filter at) handled.TheVariants.Finally n h g = let a = h.0 in absurd (omega arith)
kind_tells names ps row handler (handled.TheVariants.Filter at) handled.TheVariants.Fault n h g = let a = h.0 in absurd (omega arith)
kind_tells names ps row handler handled.TheVariants.Finally (handled.TheVariants.Catch p) n h g = let b = g.0 in absurd (omega arith)
kind_tells names ps row handler handled.TheVariants.Finally (handled.TheVariants.Filter to) n h g = let b = g.0 in absurd (omega arith)
kind_tells names ps row handler handled.TheVariants.Finally handled.TheVariants.Finally n h g = refl
kind_tells names ps row handler handled.TheVariants.Finally handled.TheVariants.Fault n h g = absurd (omega arith)
kind_tells names ps row handler handled.TheVariants.Fault (handled.TheVariants.Catch p) n h g = let b = g.0 in absurd (omega arith)
kind_tells names ps row handler handled.TheVariants.Fault (handled.TheVariants.Filter to) n h g = let b = g.0 in absurd (omega arith)
kind_tells names ps row handler handled.TheVariants.Fault handled.TheVariants.Finally n h g = absurd (omega arith)
kind_tells names ps row handler handled.TheVariants.Fault handled.TheVariants.Fault n h g = refl

abbrev clause_of : handled.ClauseKind → ℕ → ℕ → ℕ → ℕ → Clause
clause_of k a b s e = record { kind = k; try_start = a; try_end = b; handler_start = s; handler_end = e }

same_clause : (k l : handled.ClauseKind) (a b c d s t e f : ℕ) → k ≡ l → a ≡ b → c ≡ d → s ≡ t → e ≡ f → clause_of k a c s e ≡ clause_of l b d t f
same_clause k l a b c d s t e f x y z u v =
    ap (λ q. clause_of q a c s e) x ∙ (ap (λ q. clause_of l q c s e) y ∙ (ap (λ q. clause_of l b q s e) z ∙ (ap (λ q. clause_of l b d q e) u ∙ ap (λ q. clause_of l b d t q) v)))

clause_tells : (names : NameMap) (ps : List Piece) (row : ClauseRow) (c d : Clause) → SpellsClause (reading names) ps row c → SpellsClause (reading names) ps row d → c ≡ d
clause_tells names ps row c d h g =
    let t = range_tells ps row.try_offset row.try_length c.try_start c.try_end d.try_start d.try_end h.try_range g.try_range in
    let r = range_tells ps row.handler_offset row.handler_length c.handler_start c.handler_end d.handler_start d.handler_end h.handler_range g.handler_range in
    let a = g.handler_range.some in
    let b = g.handler_range.inside in
    let k = kind_tells names ps row d.handler_start c.kind d.kind (omega arith) (subst (λ n. SpellsKind (reading names) ps row n c.kind) r.0 h.kind) g.kind in
    same_clause c.kind d.kind c.try_start d.try_start c.try_end d.try_end c.handler_start d.handler_start c.handler_end d.handler_end k t.0 t.1 r.0 r.1

clauses_tell : (names : NameMap) (ps : List Piece) (rows : List ClauseRow) (cs ds : List Clause) → SpellsClauses (reading names) ps rows cs → SpellsClauses (reading names) ps rows ds → cs ≡ ds
clauses_tell names ps rows cs ds h g =
    let a = h.count in
    let b = g.count in
    same_lists cs ds (omega arith) (λ k d l. clause_tells names ps (slice_index_or rows k any_row) (slice_index_or cs k d) (slice_index_or ds k d) (h.each k any_row d l) (g.each k any_row d (omega arith)))

locals_tell : (names : NameMap) (token : ℕ) (ts us : List SigType) → SpellsLocals (reading names) token ts → SpellsLocals (reading names) token us → ts ≡ us
locals_tell names token ts us (inl a) (inl b) = a.1 ∙ sym b.1
locals_tell names token ts us (inl a) (inr b) = absurd (b.0 a.0)
locals_tell names token ts us (inr a) (inl b) = absurd (a.0 b.0)
locals_tell names token ts us (inr a) (inr b) = some_tells (names.locals token) ts us a.1 b.1

abbrev body_of : ℕ → Bool → List SigType → List Ins → List Clause → Body
body_of bound init locals code clauses = record { bound = bound; init = init; locals = locals; code = code; clauses = clauses }

pub body_tells : (names : NameMap) (bytes : List ℕ) (b d : Body) (n m : ℕ) → Spells (reading names) bytes b n → Spells (reading names) bytes d m → (b ≡ d) × (n ≡ m)
body_tells names bytes b d n m s t =
    let same = cut_same (code_of bytes) s.pieces t.pieces s.code.cut t.code.cut in
    let bound = s.bound ∙ sym t.bound in
    let init = s.init ∙ sym t.init in
    let locals = locals_tell names (locals_token bytes) b.locals d.locals s.locals t.locals in
    let code = code_tells names t.pieces b.code d.code (subst (λ xs. SpellsEach (reading names) xs b.code) same s.code.each) t.code.each in
    let clauses = clauses_tell names t.pieces (clause_rows bytes) b.clauses d.clauses (subst (λ xs. SpellsClauses (reading names) xs (clause_rows bytes) b.clauses) same s.clauses) t.clauses in (
      ap (λ x. body_of x b.init b.locals b.code b.clauses) bound ∙ (ap (λ x. body_of d.bound x b.locals b.code b.clauses) init
          ∙ (ap (λ x. body_of d.bound d.init x b.code b.clauses) locals ∙ (ap (λ x. body_of d.bound d.init d.locals x b.clauses) code ∙ ap (λ x. body_of d.bound d.init d.locals d.code x) clauses))),
      s.ends ∙ sym t.ends,
    )

-- ---- so an answer is the only one

spelled_not_fault : (names : NameMap) (bytes : List ℕ) (b : Body) (n : ℕ) (any : Ins) (f : BodyFault) → Spells (reading names) bytes b n → IsFault names bytes f → f ≡ faults.NoMemory
spelled_not_fault names bytes b n any f s h = fault_excluded names bytes f (spelled_passes names bytes b n any s) h

pub only_body : (names : NameMap) (bytes : List ℕ) (any : Ins) (r : Result (Body × ℕ) BodyFault) → IfOk r (λ x. Spells (reading names) bytes x.0 x.1) → IfErr r (IsFault names bytes)
    → (b : Body) (n : ℕ) → Spells (reading names) bytes b n → Answers r (Ok (b, n))
only_body names bytes any (Ok x) h g b n s =
    let t = body_tells names bytes x.0 b x.1 n h s in
    inl (ap (λ y. Ok (y, x.1)) t.0 ∙ ap (λ y. Ok (b, y)) t.1)
only_body names bytes any (Err f) h g b n s = inr (ap Err (spelled_not_fault names bytes b n any f s g))

pub only_fault : (names : NameMap) (bytes : List ℕ) (any : Ins) (r : Result (Body × ℕ) BodyFault) → IfOk r (λ x. Spells (reading names) bytes x.0 x.1) → IfErr r (IsFault names bytes)
    → (f : BodyFault) → f ≢ faults.NoMemory → IsFault names bytes f → Answers r (Err f)
only_fault names bytes any (Ok x) h g f ne k = absurd (ne (spelled_not_fault names bytes x.0 x.1 any f h k))
only_fault names bytes any (Err e) h g f ne k =
    elim (fault_tells names bytes e f g k) [
      | inl same ↦ inl (ap Err same)
      | inr u ↦ elim u [ inl m ↦ inr (ap Err m) | inr m ↦ absurd (ne m) ]
    ]
