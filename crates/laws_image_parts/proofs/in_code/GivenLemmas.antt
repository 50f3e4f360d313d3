-- The tokens that a written body names.
use Rattle.std.proofs.Common.{◌≡◌, ap, refl, ◌∙◌, subst, ℕ, zero, suc, ◌==◌, ◌<◌, Bool, true, false, cond, List, [], ◌∷◌, ◌++◌, length, Option, None, Some, Contains, inl, inr, arith}
use Rattle.std.specs.Prelude.{◌⊎◌, slice_index_or, ℤ}
use Rattle.std.specs.List.{cons_option, filter_map}
use Rattle.std.proofs.lemmas.Bool.{eq-eqb, eqb-true}
use Rattle.assembly_tree.specs.declared.body.Body.{Body}
use Rattle.assembly_tree.specs.declared.body.Clause.{Clause}
use Rattle.assembly_tree.specs.declared.body.ClauseKind.{ClauseKind}
use Rattle.assembly_tree.specs.declared.body.ClauseKind.TheVariants as handled
use Rattle.assembly_tree.specs.declared.body.Ins.{Ins}
use Rattle.assembly_tree.specs.declared.body.Operand.{Operand}
use Rattle.assembly_tree.specs.declared.body.Operand.TheVariants as operand
use Rattle.type_terms.specs.declared.term.SigType.{SigType}
use Rattle.opcode_table.specs.declared.kind.OperandKind.{OperandKind}
use Rattle.opcode_table.specs.declared.kind.OperandKind.TheVariants as kinds
use Rattle.body_codec.specs.Bodies.{Spells}
use Rattle.body_codec.specs.Header.{SpellsLocals, locals_token}
use Rattle.body_codec.specs.Instruction.{Piece, kind, number}
use Rattle.body_codec.specs.NamedTokens.{AreNamed, token_in, caught_in, locals_in}
use Rattle.body_codec.specs.Names.{TokenMap, takes_token, writing}
use Rattle.body_codec.specs.Sections.{clause_rows, SpellsClauses, SpellsKind}
use Rattle.body_codec.specs.Spelling.{Form, form, IsCut, IsInteger, SpellsEach, SpellsOperand}
use Rattle.body_codec.specs.Spelling as spelling
use Rattle.body_codec.proofs.Outcomes.{cut_same}
use Rattle.laws_image_parts.specs.in_code.Following.{MoreMayFollow}
use Rattle.laws_image_parts.proofs.in_code.BodyLemmas.{spells_longer}
use Rattle.laws_image_parts.specs.in_code.Given.{NamedIsGiven, IsGiven, of_type, of_method, of_field, of_locals, of_text}

-- ---- one of a list

abbrev Has : {X : Type 0} → List X → X → Type 0
Has [] x = ⊥
Has (y ∷ ys) x = (y ≡ x) ⊎ Has ys x

has_of : (xs : List ℕ) (k x : ℕ) → k < length xs → slice_index_or xs k x ≡ x → Has xs x
has_of [] k x low e = absurd (omega arith)
has_of (y ∷ ys) zero x low e = inl e
has_of (y ∷ ys) (suc k) x low e = inr (has_of ys k x (omega arith) e)

has_either : (xs ys : List ℕ) (x : ℕ) → Has (xs ++ ys) x → Has xs x ⊎ Has ys x
has_either [] ys x h = inr h
has_either (z ∷ xs) ys x (inl e) = inl (inl e)
has_either (z ∷ xs) ys x (inr h) = elim (has_either xs ys x h) [ inl f ↦ inl (inr f) | inr b ↦ inr b ]

-- what a list gives, by the item that gives it
record Gives {X : Type 0} (f : X → Option ℕ) (xs : List X) (y : ℕ) : Type 0 where
  k : ℕ
  low : k < length xs
  gives : (d : X) → f (slice_index_or xs k d) ≡ Some y

has_given : {X : Type 0} (f : X → Option ℕ) (xs : List X) (y : ℕ) → Has (filter_map f xs) y → Gives f xs y
has_given f [] y h = absurd h
has_given {X} f (x ∷ xs) y h = by_item (λ g. has_given f xs y g) (f x) refl h
  where
    later : Gives f xs y → Gives f (x ∷ xs) y
    later g = let low = g.low in record { k = suc g.k; low = omega arith; gives = g.gives }

    by_item : (Has (filter_map f xs) y → Gives f xs y) → (o : Option ℕ) → f x ≡ o → Has (cons_option o (filter_map f xs)) y → Gives f (x ∷ xs) y
    by_item rest None e g = later (rest g)
    by_item rest (Some z) e (inl same) = record { k = 0; low = omega arith; gives = λ d. e ∙ ap Some same }
    by_item rest (Some z) e (inr g) = later (rest g)

-- a choice that gives something
chosen : (b : Bool) (x y : ℕ) → cond b (Some x) None ≡ Some y → (b ≡ true) × (x ≡ y)
chosen true x y e = (refl, cc)
chosen false x y e = absurd cc

-- ---- operands, catches and locals

takes_form : (k : OperandKind) → takes_token k ≡ true → form k ≡ spelling.token
takes_form kinds.Nothing e = absurd cc
takes_form kinds.Var8 e = absurd cc
takes_form kinds.Var16 e = absurd cc
takes_form kinds.Num8 e = absurd cc
takes_form kinds.Num32 e = absurd cc
takes_form kinds.Num64 e = absurd cc
takes_form kinds.Byte e = absurd cc
takes_form kinds.Real4 e = absurd cc
takes_form kinds.Real8 e = absurd cc
takes_form kinds.Branch8 e = absurd cc
takes_form kinds.Branch32 e = absurd cc
takes_form kinds.Switch e = absurd cc
takes_form kinds.Method e = refl
takes_form kinds.Field e = refl
takes_form kinds.Of e = refl
takes_form kinds.Text e = refl
takes_form kinds.Token e = refl

-- no integer has the form of a token
no_integer : (f : Form) (tail : List ℕ) (n : ℤ) → f ≡ spelling.token → IsInteger f tail n → ⊥
no_integer f tail n e h = subst (λ g. IsInteger g tail n) e h

module _ (numbers : TokenMap) where
  operand_given : (pieces : List Piece) (k : ℕ) (kind : OperandKind) (tail : List ℕ) (o : Operand) → takes_token kind ≡ true
      → SpellsOperand (writing numbers) pieces k kind tail o → IsGiven numbers (number tail)
  operand_given pieces k kind tail operand.Nothing e h = absurd (let f = takes_form kind e in cc)
  operand_given pieces k kind tail (operand.Var n) e h = absurd (let f = takes_form kind e in let g = h.0 in cc)
  operand_given pieces k kind tail (operand.Int n) e h = absurd (no_integer (form kind) tail n (takes_form kind e) h)
  operand_given pieces k kind tail (operand.Real bits) e h = absurd (let f = takes_form kind e in let g = h.0 in cc)
  operand_given pieces k kind tail (operand.Target t) e h = absurd (let f = takes_form kind e in let g = h.0 in cc)
  operand_given pieces k kind tail (operand.Targets ts) e h = absurd (let f = takes_form kind e in let g = h.0 in cc)
  operand_given pieces k kind tail (operand.Method m) e h = of_method h.named.1
  operand_given pieces k kind tail (operand.Field f) e h = of_field h.named.1
  operand_given pieces k kind tail (operand.Of o) e h = of_type h.named.1
  operand_given pieces k kind tail (operand.Text units) e h = of_text h.named.1

  code_given : (pieces : List Piece) (code : List Ins) (token : ℕ) → SpellsEach (writing numbers) pieces code → Gives token_in pieces token → IsGiven numbers token
  code_given pieces [] token h g = absurd (let low = g.low in let count = h.count in omega arith)
  code_given pieces (i ∷ code) token h g =
      let low = g.low in
      let count = h.count in
      let piece : Piece = slice_index_or pieces g.k (record { op = i.op; tail = [] }) in
      let is = h.each g.k (record { op = i.op; tail = [] }) i (omega arith) in
      let both = chosen (takes_token (kind piece.op)) (number piece.tail) token (g.gives (record { op = i.op; tail = [] })) in
      subst (IsGiven numbers) both.1 (operand_given pieces g.k (kind piece.op) piece.tail _ both.0 is.operand)

  caught_given : (pieces : List Piece) (row : _) (handler token : ℕ) (k : ClauseKind) → SpellsKind (writing numbers) pieces row handler k → caught_in row ≡ Some token → IsGiven numbers token
  caught_given pieces row handler token (handled.Catch owner) h e = let both = chosen _ _ token e in subst (IsGiven numbers) both.1 (of_type h.1)
  caught_given pieces row handler token (handled.Filter at) h e = absurd (let zero_kind = eqb-true _ 0 (chosen _ _ token e).0 in let one = h.0 in omega arith)
  caught_given pieces row handler token handled.Finally h e = absurd (let zero_kind = eqb-true _ 0 (chosen _ _ token e).0 in omega arith)
  caught_given pieces row handler token handled.Fault h e = absurd (let zero_kind = eqb-true _ 0 (chosen _ _ token e).0 in omega arith)

  clauses_given : (pieces : List Piece) (rows : List _) (clauses : List Clause) (token : ℕ) → SpellsClauses (writing numbers) pieces rows clauses → Gives caught_in rows token
      → IsGiven numbers token
  clauses_given pieces [] clauses token h g = absurd (let low = g.low in omega arith)
  clauses_given pieces (row ∷ rows) [] token h g = absurd (let low = g.low in let count = h.count in omega arith)
  clauses_given pieces (row ∷ rows) (c ∷ clauses) token h g =
      let low = g.low in
      let count = h.count in
      let is = h.each g.k row c (omega arith) in
      caught_given pieces (slice_index_or (row ∷ rows) g.k row) _ token _ is.kind (g.gives row)

  locals_given : (token own : ℕ) (b : Bool) → (own == 0) ≡ b → {types : List SigType} → SpellsLocals (writing numbers) own types → Has (cond b [] (own ∷ [])) token → IsGiven numbers token
  locals_given token own true e s h = absurd h
  locals_given token own false e (inl s) (inl same) = absurd (let none = eq-eqb own 0 s.0 in cc)
  locals_given token own false e (inr s) (inl same) = subst (IsGiven numbers) same (of_locals s.1.1)
  locals_given token own false e s (inr h) = absurd h

  module _ (bytes tokens : List ℕ) (body : Body) (size : ℕ) (h : Spells (writing numbers) bytes body size) (n : AreNamed bytes tokens) where
    pieces_are : n.pieces ≡ h.pieces
    pieces_are = cut_same _ n.pieces h.pieces n.outline.code.cut h.code.cut

    pub named_given : (token : ℕ) → Contains tokens token → IsGiven numbers token
    named_given token c =
        let all = subst (λ (ts : List ℕ). Has ts token) n.all (has_of tokens c.0 token c.1 c.2) in
        elim (has_either (locals_in (locals_token bytes)) (filter_map token_in n.pieces ++ filter_map caught_in (clause_rows bytes)) token all) [
          | inl locals ↦ locals_given token (locals_token bytes) (locals_token bytes == 0) refl h.locals locals
          | inr rest ↦ elim (has_either (filter_map token_in n.pieces) (filter_map caught_in (clause_rows bytes)) token rest) [
            | inl operands ↦ code_given h.pieces body.code token h.code.each (subst (λ ps. Gives token_in ps token) pieces_are (has_given token_in n.pieces token operands))
            | inr caught ↦ clauses_given h.pieces (clause_rows bytes) body.clauses token h.clauses (has_given caught_in (clause_rows bytes) token caught)
          ]
        ]

pub all_given : MoreMayFollow → NamedIsGiven
all_given same numbers bytes more tokens body size token h n c = named_given numbers (bytes ++ more) tokens body size (spells_longer same (writing numbers) bytes more body size h) n token c
