-- What a source is read as: the assembly that it denotes, or its first fault.
use Rattle.std.specs.Prelude.{◌≡◌, ℕ, List, length, ⊤}
use Rattle.assembly_tree.specs.declared.assembly.Assembly.{Assembly}
use Rattle.il_base.specs.declared.pos.Pos.{Pos}
use Rattle.il_lexer.specs.declared.types.Token.{Token}
use Rattle.il_lexer.specs.Lexing.{HasFault, IsAccepted, place_of}
use Rattle.ilasm_grammar.specs.Parsing.{IsSyntaxFault}
use Rattle.source_model.specs.Denotes.{Denotes, HasNameFault}
use Rattle.source_model.specs.declared.fault.NameClass.{NameClass}
use Rattle.source_assembly.specs.declared.fault.ReadFault.{ReadFault}
use Rattle.source_assembly.specs.declared.fault.ReadFault.TheVariants.{Faulty, NoMemory}
use Rattle.source_assembly.specs.declared.fault.SourceFault.{SourceFault}
use Rattle.source_assembly.specs.declared.fault.SourceFault.TheVariants.{Lexical, Syntax, Named}

-- the source has tokens within the limits, and denotes the assembly
pub record IsAssemblyOf (source : List ℕ) (a : Assembly) : Type 0 where
  pub denotes : Denotes source a
  pub accepted : IsAccepted source denotes.source.tokens

-- the source has tokens, and they have this syntax fault
pub record HasSyntaxFault (source : List ℕ) (pos : Pos) (rule : ℕ) : Type 0 where
  pub tokens : List Token
  pub accepted : IsAccepted source tokens
  pub fault : IsSyntaxFault tokens (place_of source (length source)) pos rule

-- the source has a derivation, and this is the first of the rules on declarations, names and bounds that it breaks
pub record BreaksRule (source : List ℕ) (pos : Pos) (class : NameClass) (rule : ℕ) : Type 0 where
  pub fault : HasNameFault source pos class rule
  pub accepted : IsAccepted source fault.source.tokens

-- the fault of a source
abbrev pub IsFaultOf : List ℕ → SourceFault → Type 0
IsFaultOf source (Lexical line rule) = (pos : Pos) × HasFault source pos rule × (line ≡ pos.line)
IsFaultOf source (Syntax line rule) = (pos : Pos) × HasSyntaxFault source pos rule × (line ≡ pos.line)
IsFaultOf source (Named line class rule) = (pos : Pos) × BreaksRule source pos class rule × (line ≡ pos.line)

-- the cause of each answer; want of memory has none
abbrev pub IsCause : List ℕ → ReadFault → Type 0
IsCause source (Faulty fault) = IsFaultOf source fault
IsCause source NoMemory = ⊤
