-- Bodies of methods are well formed: what a body names is in use (II.25.4, III.1.9).
use Rattle.std.proofs.Common.{◌≡◌, ◌≢◌, ℕ, zero, suc, ◌<◌, ◌≤◌, inl, inr, Bool, true, ◌&&◌, List, [], ◌∷◌, Contains, length, slice_index_or, option_map, Option, Some, None, refl, sym, subst, arith}
use Rattle.std.proofs.lemmas.Bool.{and_from}
use Rattle.std.specs.List.{list_all}
use Rattle.std.specs.Option.{option_or}
use Rattle.opcode_table.specs.declared.kind.OperandKind.{OperandKind}
use Rattle.opcode_table.specs.declared.kind.OperandKind.TheVariants as kinds
use Rattle.type_terms.specs.declared.reference.FieldRef.{FieldRef}
use Rattle.type_terms.specs.declared.reference.MethodRef.{MethodRef}
use Rattle.type_terms.specs.declared.term.Owner.{Owner}
use Rattle.type_terms.specs.declared.term.SigType.{SigType}
use Rattle.assembly_tree.specs.WellFormedBodies.{has_body_form, short_branches_reach, names_well, is_body, is_operand, is_handled}
use Rattle.assembly_tree.specs.WellFormedNames.{option_all}
use Rattle.assembly_tree.specs.WellFormedTerms.{is_count, is_type, is_owner}
use Rattle.assembly_tree.specs.declared.assembly.Assembly.{Assembly}
use Rattle.assembly_tree.specs.declared.body.Body.{Body}
use Rattle.assembly_tree.specs.declared.body.Clause.{Clause}
use Rattle.assembly_tree.specs.declared.body.ClauseKind as handles
use Rattle.assembly_tree.specs.declared.body.Ins.{Ins}
use Rattle.assembly_tree.specs.declared.body.Operand as operand
use Rattle.body_codec.specs.declared.decoding.sections.ClauseRow.{ClauseRow}
use Rattle.body_codec.specs.Instruction.{Piece, kind, number}
use Rattle.body_codec.specs.Names.{NameMap, reading, named}
use Rattle.body_codec.specs.Header.{code_of, locals_token, SpellsLocals}
use Rattle.body_codec.specs.Sections.{clause_rows, SpellsKind}
use Rattle.body_codec.specs.Spelling.{token, form, SpellsOperand}
use Rattle.body_codec.specs.Bodies.{Spells}
use Rattle.body_codec.specs.Faults.{IsOutline}
use Rattle.body_codec.proofs.Outcomes.{cut_same}
use Rattle.image_model.specs.Columns.{method_rva}
use Rattle.image_model.specs.Rows.{HasRow}
use Rattle.image_model.specs.Naming.{IsToken, NamesOwner}
use Rattle.image_model.specs.Used.{IsUsed}
use Rattle.image_model.specs.Bodies.{HasBody, BodyNames, body_of}
use Rattle.image_model.specs.Faults.{header, clauses, Reads}
use Rattle.image_model.specs.Reading.{BodyIs}
use Rattle.image_namings.proofs.BodyTokens.{tokens_of, locals_among, operand_among, caught_among}
use Rattle.image_namings.proofs.Decided.{none_is_not}
use Rattle.formed_references.specs.Laws.{AreUsed, AreFormed}
use Rattle.formed_references.proofs.Words.{le_true}
use Rattle.formed_images.specs.Laws.{AreBytes}
use Rattle.formed_images.proofs.Bytes.{readable_bytes}

-- ---- lists

by_index : {X : Type 0} (test : X → Bool) (xs : List X) → ((k : ℕ) (d : X) → k < length xs → test (slice_index_or xs k d) ≡ true) → list_all test xs ≡ true
by_index test [] f = refl
by_index test (x ∷ xs) f = and_from (test x) (list_all test xs) (f zero x (omega arith)) (by_index test xs (λ k d lt. f (suc k) d (omega arith)))

-- ---- names of operands

no_method : (o : Option FieldRef) (p : Option Owner) (m : MethodRef) → option_or (option_map operand.TheVariants.Field o) (option_map operand.TheVariants.Of p) ≡ Some (operand.TheVariants.Method m) → ⊥
no_method (Some f) p m e = absurd cc
no_method None (Some o) m e = absurd cc
no_method None None m e = none_is_not e

method_first : (q : Option MethodRef) (o : Option FieldRef) (p : Option Owner) (m : MethodRef)
    → option_or (option_map operand.TheVariants.Method q) (option_or (option_map operand.TheVariants.Field o) (option_map operand.TheVariants.Of p)) ≡ Some (operand.TheVariants.Method m) → q ≡ Some m
method_first (Some n) o p m e = cc
method_first None o p m e = absurd (no_method o p m e)

field_first : (q : Option MethodRef) (o : Option FieldRef) (p : Option Owner) (f : FieldRef)
    → option_or (option_map operand.TheVariants.Method q) (option_or (option_map operand.TheVariants.Field o) (option_map operand.TheVariants.Of p)) ≡ Some (operand.TheVariants.Field f) → o ≡ Some f
field_first (Some n) o p f e = absurd cc
field_first None (Some g) p f e = cc
field_first None None (Some o) f e = absurd cc
field_first None None None f e = absurd (none_is_not e)

owner_first : (q : Option MethodRef) (o : Option FieldRef) (p : Option Owner) (w : Owner)
    → option_or (option_map operand.TheVariants.Method q) (option_or (option_map operand.TheVariants.Field o) (option_map operand.TheVariants.Of p)) ≡ Some (operand.TheVariants.Of w) → p ≡ Some w
owner_first (Some n) o p w e = absurd cc
owner_first None (Some g) p w e = absurd cc
owner_first None None (Some o) w e = cc
owner_first None None None w e = absurd (none_is_not e)

map_method : (q : Option MethodRef) (m : MethodRef) → option_map operand.TheVariants.Method q ≡ Some (operand.TheVariants.Method m) → q ≡ Some m
map_method None m e = absurd (none_is_not e)
map_method (Some n) m e = cc

map_field : (q : Option FieldRef) (m : FieldRef) → option_map operand.TheVariants.Field q ≡ Some (operand.TheVariants.Field m) → q ≡ Some m
map_field None m e = absurd (none_is_not e)
map_field (Some n) m e = cc

map_owner : (q : Option Owner) (m : Owner) → option_map operand.TheVariants.Of q ≡ Some (operand.TheVariants.Of m) → q ≡ Some m
map_owner None m e = absurd (none_is_not e)
map_owner (Some n) m e = cc

-- what another kind of operand names is no other thing
abbrev Not : {X : Type 0} → (X → operand.Operand) → operand.Operand → Type 0
Not {X = X} make o = (q : Option X) → option_map make q ≡ Some o → ⊥

named_method : (names : NameMap) (k : OperandKind) (t : ℕ) (m : MethodRef) → named names k t ≡ Some (operand.TheVariants.Method m) → names.methods t ≡ Some m
named_method names kinds.Method t m e = map_method (names.methods t) m e
named_method names kinds.Field t m e = absurd (other (names.fields t) e)
  where
    other : Not operand.TheVariants.Field (operand.TheVariants.Method m)
    other None f = none_is_not f
    other (Some x) f = absurd cc
named_method names kinds.Of t m e = absurd (other (names.owners t) e)
  where
    other : Not operand.TheVariants.Of (operand.TheVariants.Method m)
    other None f = none_is_not f
    other (Some x) f = absurd cc
named_method names kinds.Text t m e = absurd (other (names.texts t) e)
  where
    other : Not operand.TheVariants.Text (operand.TheVariants.Method m)
    other None f = none_is_not f
    other (Some x) f = absurd cc
named_method names kinds.Token t m e = method_first (names.methods t) (names.fields t) (names.owners t) m e
named_method names _ t m e = absurd (none_is_not e)

named_field : (names : NameMap) (k : OperandKind) (t : ℕ) (m : FieldRef) → named names k t ≡ Some (operand.TheVariants.Field m) → names.fields t ≡ Some m
named_field names kinds.Field t m e = map_field (names.fields t) m e
named_field names kinds.Method t m e = absurd (other (names.methods t) e)
  where
    other : Not operand.TheVariants.Method (operand.TheVariants.Field m)
    other None f = none_is_not f
    other (Some x) f = absurd cc
named_field names kinds.Of t m e = absurd (other (names.owners t) e)
  where
    other : Not operand.TheVariants.Of (operand.TheVariants.Field m)
    other None f = none_is_not f
    other (Some x) f = absurd cc
named_field names kinds.Text t m e = absurd (other (names.texts t) e)
  where
    other : Not operand.TheVariants.Text (operand.TheVariants.Field m)
    other None f = none_is_not f
    other (Some x) f = absurd cc
named_field names kinds.Token t m e = field_first (names.methods t) (names.fields t) (names.owners t) m e
named_field names _ t m e = absurd (none_is_not e)

named_owner : (names : NameMap) (k : OperandKind) (t : ℕ) (m : Owner) → named names k t ≡ Some (operand.TheVariants.Of m) → names.owners t ≡ Some m
named_owner names kinds.Of t m e = map_owner (names.owners t) m e
named_owner names kinds.Method t m e = absurd (other (names.methods t) e)
  where
    other : Not operand.TheVariants.Method (operand.TheVariants.Of m)
    other None f = none_is_not f
    other (Some x) f = absurd cc
named_owner names kinds.Field t m e = absurd (other (names.fields t) e)
  where
    other : Not operand.TheVariants.Field (operand.TheVariants.Of m)
    other None f = none_is_not f
    other (Some x) f = absurd cc
named_owner names kinds.Text t m e = absurd (other (names.texts t) e)
  where
    other : Not operand.TheVariants.Text (operand.TheVariants.Of m)
    other None f = none_is_not f
    other (Some x) f = absurd cc
named_owner names kinds.Token t m e = owner_first (names.methods t) (names.fields t) (names.owners t) m e
named_owner names _ t m e = absurd (none_is_not e)

-- ---- bodies

-- a body that is read has the form of one, and its short branches reach
abbrev pub BodiesAreFormed : Type 0
BodiesAreFormed =
    (names : NameMap) (bytes : List ℕ) (body : Body) (size : ℕ) → AreBytes bytes → Spells (reading names) bytes body size → is_count (length body.locals) ≡ true
    → (has_body_form body ≡ true) × (short_branches_reach body.code ≡ true)

module _ (image : List ℕ) (a : Assembly) (h : Reads image a) (bytes : AreBytes image) (forms : AreFormed image a h.names) (body_law : BodiesAreFormed) where
  -- what a token names is well formed where it is in use
  owner_at : (t : ℕ) (o : Owner) → h.names.owners t ≡ Some o → AreUsed image t → is_owner a o ≡ true
  owner_at t o e used = go ((h.named.owners t o).0 e)
    where
      go : NamesOwner image h.names.owners t o → is_owner a o ≡ true
      go (NamesOwner.by_row {table = table} {row = row} i r) =
          forms.owner table row o r (λ e there. used 0x1B row (subst (λ (x : ℕ). IsToken t x row) e i) (inr (inr (inr (inl refl)))) there)

  operand_formed : (pieces : List Piece) (k : ℕ) (of : OperandKind) (tail : List ℕ) (o : operand.Operand) → SpellsOperand (reading h.names) pieces k of tail o → (form of ≡ token → AreUsed image (number tail)) → is_operand a o ≡ true
  operand_formed pieces k of tail (operand.TheVariants.Method m) s used =
      forms.method (number tail) m ((h.named.methods (number tail) m).0 (named_method h.names of (number tail) m s.named)) (used s.formed)
  operand_formed pieces k of tail (operand.TheVariants.Field f) s used =
      forms.field (number tail) f ((h.named.fields (number tail) f).0 (named_field h.names of (number tail) f s.named)) (used s.formed)
  operand_formed pieces k of tail (operand.TheVariants.Of o) s used = owner_at (number tail) o (named_owner h.names of (number tail) o s.named) (used s.formed)
  operand_formed pieces k of tail operand.TheVariants.Nothing s used = refl
  operand_formed pieces k of tail (operand.TheVariants.Var n) s used = refl
  operand_formed pieces k of tail (operand.TheVariants.Int n) s used = refl
  operand_formed pieces k of tail (operand.TheVariants.Real n) s used = refl
  operand_formed pieces k of tail (operand.TheVariants.Target n) s used = refl
  operand_formed pieces k of tail (operand.TheVariants.Targets n) s used = refl
  operand_formed pieces k of tail (operand.TheVariants.Text n) s used = refl

  handled_formed : (pieces : List Piece) (row : ClauseRow) (handler : ℕ) (c : handles.ClauseKind) → SpellsKind (reading h.names) pieces row handler c → (row.kind ≡ 0 → AreUsed image row.class_or_filter) → is_handled a c ≡ true
  handled_formed pieces row handler (handles.TheVariants.Catch o) s used = owner_at row.class_or_filter o s.1 (used s.0)
  handled_formed pieces row handler (handles.TheVariants.Filter at) s used = refl
  handled_formed pieces row handler handles.TheVariants.Finally s used = refl
  handled_formed pieces row handler handles.TheVariants.Fault s used = refl

  module _ (row : ℕ) (there : HasRow image 0x06 row) (has : HasBody image row) where
    -- the tokens that the body names are in use
    token_used : (pieces : List Piece) → IsOutline (body_of image row) pieces → (t : ℕ) → Contains (tokens_of (body_of image row) pieces) t → AreUsed image t
    token_used pieces outline t among table named i reference named_there =
        let known = (h.rows header 0x06 row).header refl there has in
        let is : BodyNames image row t = record {
          there = has;
          code_type = (h.rows header 0x06 row).code_type refl there;
          locals = known.locals;
          tokens = tokens_of (body_of image row) pieces;
          named = record { header = known.header; pieces = pieces; outline = outline; all = refl };
          among = among;
        } in
        IsUsed.by_body there is i reference named_there

    locals_formed : (types : List SigType) → SpellsLocals (reading h.names) (locals_token (body_of image row)) types → (locals_token (body_of image row) ≢ 0 → AreUsed image (locals_token (body_of image row)))
        → (length types ≤ 65535) × (list_all (is_type a) types ≡ true)
    locals_formed types (inl s) used = (subst (λ (ts : List SigType). length ts ≤ 65535) (sym s.1) (omega arith), subst (λ (ts : List SigType). list_all (is_type a) ts ≡ true) (sym s.1) refl)
    locals_formed types (inr s) used =
        let n = (h.named.locals (locals_token (body_of image row)) types).0 s.1 in
        (forms.local_count _ types n (used s.0), forms.locals _ types n (used s.0))

    body_formed : (body : Body) (size : ℕ) → Spells (reading h.names) (body_of image row) body size → is_body a body ≡ true
    unfolding is_body names_well
    body_formed body size s =
        let o = h.rows clauses 0x06 row refl there has in
        let pieces = cut_same (code_of (body_of image row)) s.pieces o.0 s.code.cut o.1.code.cut in
        let outline : IsOutline (body_of image row) s.pieces = subst (IsOutline (body_of image row)) (sym pieces) o.1 in
        let used = token_used s.pieces outline in
        let locals = locals_formed body.locals s.locals (λ n. used (locals_token (body_of image row)) (locals_among (body_of image row) s.pieces n)) in
        let operands = by_index (λ (i : Ins). is_operand a i.operand) body.code (λ k d lt.
        let p : Piece = record { op = d.op; tail = [] } in
        let ins = s.code.each.each k p d lt in
        let q = slice_index_or s.pieces k p in
        operand_formed s.pieces k (kind q.op) q.tail (slice_index_or body.code k d).operand ins.operand
        (λ e. used (number q.tail) (operand_among (body_of image row) s.pieces k p (let n = s.code.each.count in omega arith) e))) in
        let catches = by_index (λ (c : Clause). is_handled a c.kind) body.clauses (λ k d lt.
        let r : ClauseRow = record { kind = 0; try_offset = 0; try_length = 0; handler_offset = 0; handler_length = 0; class_or_filter = 0 } in
        let clause = s.clauses.each k r d lt in
        let q = slice_index_or (clause_rows (body_of image row)) k r in
        handled_formed s.pieces q _ (slice_index_or body.clauses k d).kind clause.kind
        (λ e. used q.class_or_filter (caught_among (body_of image row) s.pieces k r (let n = s.clauses.count in omega arith) e))) in
        let formed = body_law h.names (body_of image row) body size (readable_bytes image (method_rva image row) bytes) s (le_true (length body.locals) 65535 locals.0) in
        and_from (has_body_form body && short_branches_reach body.code) (list_all (is_type a) body.locals && list_all (λ (i : Ins). is_operand a i.operand) body.code && list_all (λ (c : Clause). is_handled a c.kind) body.clauses)
        (and_from (has_body_form body) (short_branches_reach body.code) formed.0 formed.1)
        (and_from (list_all (is_type a) body.locals && list_all (λ (i : Ins). is_operand a i.operand) body.code) (list_all (λ (c : Clause). is_handled a c.kind) body.clauses)
        (and_from (list_all (is_type a) body.locals) (list_all (λ (i : Ins). is_operand a i.operand) body.code) locals.1 operands) catches)

  pub bodies_formed : (row : ℕ) (body : Option Body) → HasRow image 0x06 row → BodyIs image h.names (method_rva image row) body → option_all (is_body a) body ≡ true
  bodies_formed row None there is = refl
  bodies_formed row (Some body) there is = body_formed row there is.0 body is.1.0 is.1.1
