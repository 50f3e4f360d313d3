-- What is spelled with tokens is spelled with the names that they stand for.
use Rattle.std.proofs.Common.{◌≡◌, inl, inr, ℕ, List, ap, refl, sym, subst, Some}
use Rattle.std.specs.Option.{option_map}
use Rattle.type_terms.specs.declared.term.SigType.{SigType}
use Rattle.opcode_table.specs.declared.kind.OperandKind.{OperandKind}
use Rattle.opcode_table.specs.declared.kind.OperandKind.TheVariants as kinds
use Rattle.assembly_tree.specs.declared.body.Body.{Body}
use Rattle.assembly_tree.specs.declared.body.Clause.{Clause}
use Rattle.assembly_tree.specs.declared.body.ClauseKind as handled
use Rattle.assembly_tree.specs.declared.body.Ins.{Ins}
use Rattle.assembly_tree.specs.declared.body.Operand as operand
use Rattle.body_codec.specs.declared.decoding.sections.ClauseRow.{ClauseRow}
use Rattle.body_codec.specs.Instruction.{Piece, kind, number}
use Rattle.body_codec.specs.Names.{NameMap, TokenMap, Suits, named, reading, token_of, writing}
use Rattle.body_codec.specs.Spelling.{SpellsCode, SpellsIns, SpellsOperand, SpellsToken}
use Rattle.body_codec.specs.Header.{SpellsLocals}
use Rattle.body_codec.specs.Sections.{SpellsClause, SpellsClauses, SpellsKind}
use Rattle.body_codec.specs.Bodies.{Spells}
use Rattle.body_codec.specs.Back.{NamesBack}

module _ (numbers : TokenMap) (names : NameMap) (b : NamesBack numbers names) where
  named_as : (a kd : OperandKind) (token : ℕ) (value : operand.Operand) → kd ≡ a → named names a token ≡ Some value → named names kd token ≡ Some value
  named_as a kd token value e n = let P : OperandKind → Type 0 = λ q. named names q token ≡ Some value in subst P (sym e) n

  name_of : (kd : OperandKind) (value : operand.Operand) (token : ℕ) → Suits kd value → token_of numbers value ≡ Some token → named names kd token ≡ Some value
  name_of kd (operand.TheVariants.Method m) token (inl e) t =
      named_as kinds.Method kd token (operand.TheVariants.Method m) e (ap (option_map operand.TheVariants.Method) (b.methods m token t))
  name_of kd (operand.TheVariants.Method m) token (inr e) t =
      named_as kinds.Token kd token (operand.TheVariants.Method m) e (rw (b.methods m token t) refl)
  name_of kd (operand.TheVariants.Field f) token (inl e) t =
      named_as kinds.Field kd token (operand.TheVariants.Field f) e (ap (option_map operand.TheVariants.Field) (b.fields f token t))
  name_of kd (operand.TheVariants.Field f) token (inr e) t =
      named_as kinds.Token kd token (operand.TheVariants.Field f) e (rw (b.of_field f token t, b.fields f token t) refl)
  name_of kd (operand.TheVariants.Of o) token (inl e) t =
      named_as kinds.Of kd token (operand.TheVariants.Of o) e (ap (option_map operand.TheVariants.Of) (b.owners o token t))
  name_of kd (operand.TheVariants.Of o) token (inr e) t =
      let apart = b.of_type o token t in
      named_as kinds.Token kd token (operand.TheVariants.Of o) e (rw (apart.0, apart.1, b.owners o token t) refl)
  name_of kd (operand.TheVariants.Text units) token e t =
      named_as kinds.Text kd token (operand.TheVariants.Text units) e (ap (option_map operand.TheVariants.Text) (b.texts units token t))
  name_of kd value token s t = absurd s

  token_back : (kd : OperandKind) (tail : List ℕ) (value : operand.Operand) → SpellsToken (writing numbers) kd tail value → SpellsToken (reading names) kd tail value
  token_back kd tail value s = record { formed = s.formed; named = name_of kd value (number tail) s.named.0 s.named.1 }

  operand_back : (ps : List Piece) (k : ℕ) (kd : OperandKind) (tail : List ℕ) (value : operand.Operand) → SpellsOperand (writing numbers) ps k kd tail value → SpellsOperand (reading names) ps k kd tail value
  operand_back ps k kd tail (operand.TheVariants.Method m) s = token_back kd tail (operand.TheVariants.Method m) s
  operand_back ps k kd tail (operand.TheVariants.Field f) s = token_back kd tail (operand.TheVariants.Field f) s
  operand_back ps k kd tail (operand.TheVariants.Of o) s = token_back kd tail (operand.TheVariants.Of o) s
  operand_back ps k kd tail (operand.TheVariants.Text units) s = token_back kd tail (operand.TheVariants.Text units) s
  operand_back ps k kd tail operand.TheVariants.Nothing s = s
  operand_back ps k kd tail (operand.TheVariants.Var n) s = s
  operand_back ps k kd tail (operand.TheVariants.Int n) s = s
  operand_back ps k kd tail (operand.TheVariants.Real bits) s = s
  operand_back ps k kd tail (operand.TheVariants.Target t) s = s
  operand_back ps k kd tail (operand.TheVariants.Targets ts) s = s

  ins_back : (ps : List Piece) (k : ℕ) (p : Piece) (i : Ins) → SpellsIns (writing numbers) ps k p i → SpellsIns (reading names) ps k p i
  ins_back ps k p i s = record { op = s.op; operand = operand_back ps k (kind p.op) p.tail i.operand s.operand }

  code_back : (ps : List Piece) (code : List Ins) (bytes : List ℕ) → SpellsCode (writing numbers) ps code bytes → SpellsCode (reading names) ps code bytes
  code_back ps code bytes s = record {
    cut = s.cut;
    each = record { count = s.each.count; each = λ k p i h. ins_back ps k _ _ (s.each.each k p i h) };
  }

  locals_back : (token : ℕ) (types : List SigType) → SpellsLocals (writing numbers) token types → SpellsLocals (reading names) token types
  locals_back token types (inl e) = inl e
  locals_back token types (inr (some, (few, t))) = inr (some, b.locals types token t)

  kind_back : (ps : List Piece) (row : ClauseRow) (handler : ℕ) (k : handled.ClauseKind) → SpellsKind (writing numbers) ps row handler k → SpellsKind (reading names) ps row handler k
  kind_back ps row handler (handled.TheVariants.Catch owner) s = (s.0, b.owners owner row.class_or_filter s.1)
  kind_back ps row handler (handled.TheVariants.Filter at) s = s
  kind_back ps row handler handled.TheVariants.Finally s = s
  kind_back ps row handler handled.TheVariants.Fault s = s

  clause_back : (ps : List Piece) (row : ClauseRow) (c : Clause) → SpellsClause (writing numbers) ps row c → SpellsClause (reading names) ps row c
  clause_back ps row c s = record {
    try_range = s.try_range;
    handler_range = s.handler_range;
    kind = kind_back ps row c.handler_start c.kind s.kind;
  }

  clauses_back : (ps : List Piece) (rows : List ClauseRow) (cs : List Clause) → SpellsClauses (writing numbers) ps rows cs → SpellsClauses (reading names) ps rows cs
  clauses_back ps rows cs s = record { count = s.count; few = s.few; each = λ k r c h. clause_back ps _ _ (s.each k r c h) }

  pub body_back : (bytes : List ℕ) (body : Body) (size : ℕ) → Spells (writing numbers) bytes body size → Spells (reading names) bytes body size
  body_back bytes body size s = record {
    header = s.header;
    bound = s.bound;
    init = s.init;
    locals = locals_back _ body.locals s.locals;
    pieces = s.pieces;
    code = code_back s.pieces body.code _ s.code;
    read = s.read;
    clauses = clauses_back s.pieces _ body.clauses s.clauses;
    ends = s.ends;
  }
