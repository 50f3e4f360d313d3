-- The tokens of what a body names while an image is being made (ECMA-335 II.25.4, III.1.9), and what a step leaves that gives
-- them.
use Rattle.std.specs.Prelude.{◌≡◌, ◌≢◌, ℕ, ◌+◌, ◌≤◌, ⊤, List, [], Some}
use Rattle.std.specs.List.{AllByRecursion}
use Rattle.assembly_tree.specs.declared.body.Body.{Body}
use Rattle.assembly_tree.specs.declared.body.Clause.{Clause}
use Rattle.assembly_tree.specs.declared.body.ClauseKind.{ClauseKind}
use Rattle.assembly_tree.specs.declared.body.ClauseKind.TheVariants as kind
use Rattle.assembly_tree.specs.declared.body.Ins.{Ins}
use Rattle.assembly_tree.specs.declared.body.Operand.{Operand}
use Rattle.assembly_tree.specs.declared.body.Operand.TheVariants as operand
use Rattle.type_terms.specs.declared.term.Owner.{Owner}
use Rattle.type_terms.specs.declared.term.SigType.{SigType}
use Rattle.image_tokens.specs.Members.{HasField, HasMethod, HasLocals, HasLoaded}
use Rattle.image_tokens.specs.References.{tokens_of, size, Grows, AreKnown}
use Rattle.image_tokens.specs.declared.references.References.{References}

-- something has a token
abbrev pub HasSome : (References → ℕ → Type 0) → References → Type 0
HasSome Is r = (token : ℕ) × Is r token

-- an owner has one
abbrev pub HasOwner : Owner → References → ℕ → Type 0
HasOwner o r token = tokens_of r o ≡ Some token

-- what an instruction names has a token
abbrev pub HasOperandToken : References → Operand → Type 0
HasOperandToken r (operand.Method m) = HasSome (HasMethod m) r
HasOperandToken r (operand.Field f) = HasSome (HasField f) r
HasOperandToken r (operand.Of o) = HasSome (HasOwner o) r
HasOperandToken r (operand.Text units) = HasSome (HasLoaded units) r
HasOperandToken r operand.Nothing = ⊤
HasOperandToken r (operand.Var n) = ⊤
HasOperandToken r (operand.Int n) = ⊤
HasOperandToken r (operand.Real bits) = ⊤
HasOperandToken r (operand.Target at) = ⊤
HasOperandToken r (operand.Targets at) = ⊤

abbrev pub HasInstructionToken : References → Ins → Type 0
HasInstructionToken r i = HasOperandToken r i.operand

-- what a clause catches has a token
abbrev pub HasHandledToken : References → ClauseKind → Type 0
HasHandledToken r (kind.Catch o) = HasSome (HasOwner o) r
HasHandledToken r (kind.Filter at) = ⊤
HasHandledToken r kind.Finally = ⊤
HasHandledToken r kind.Fault = ⊤

abbrev pub HasClauseToken : References → Clause → Type 0
HasClauseToken r c = HasHandledToken r c.kind

-- locals have one, where there are any
abbrev pub HaveLocalsToken : References → List SigType → Type 0
HaveLocalsToken r ts = ts ≢ [] → HasSome (HasLocals ts) r

-- all that a body names has its token
pub record HasBodyTokens (r : References) (b : Body) : Type 0 where
  pub locals : HaveLocalsToken r b.locals
  pub code : AllByRecursion (HasInstructionToken r) b.code
  pub clauses : AllByRecursion (HasClauseToken r) b.clauses

-- a step leaves what `Has` says, and so many bytes more came at most
pub record Notes (Has : References → Type 0) (old new : References) (weight : ℕ) : Type 0 where
  pub grows : Grows old new
  pub known : AreKnown new
  pub room : size new ≤ size old + weight
  pub has : Has new
