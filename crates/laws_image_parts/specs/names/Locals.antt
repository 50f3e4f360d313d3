-- The tokens of StandAloneSig name the locals that they were given to (ECMA-335 II.22.36, III.1.9).
use Rattle.std.specs.Prelude.{◌≡◌, ℕ, ◌≤◌, ◌↔◌, List, map, Option, Some, slice_get}
use Rattle.assembly_tree.specs.declared.assembly.Assembly.{Assembly}
use Rattle.sig_codec.specs.Signature.{SpellsLocals, max_depth, max_nodes}
use Rattle.sig_codec.specs.Tokens.{GivesBack}
use Rattle.type_terms.specs.Depth.{depth, largest}
use Rattle.type_terms.specs.Nodes.{list_nodes}
use Rattle.type_terms.specs.declared.term.Owner.{Owner}
use Rattle.type_terms.specs.declared.term.SigType.{SigType}
use Rattle.image_tokens.specs.Found.{token_in}
use Rattle.image_tokens.specs.KnownTokens.{locals_apart}
use Rattle.image_tokens.specs.References.{HasSignature}
use Rattle.image_tokens.specs.declared.references.References.{References}
use Rattle.image_tokens.specs.declared.row_set.Cells.{Cells}
use Rattle.image_members.specs.Pushing.{Tables}
use Rattle.image_members.specs.declared.classes.Class.{Class}
use Rattle.image_model.specs.Naming.{NamesLocals}
use Rattle.laws_image_parts.specs.names.Owners.{OwnersRead}
use Rattle.laws_image_parts.specs.names.Written.{IsWritten}

-- types that a reader takes: none is deeper, and all have no more nodes than that
abbrev pub AreTaken : List SigType → Type 0
AreTaken types = (largest (map depth types) ≤ max_depth) × (list_nodes types ≤ max_nodes)

-- each row of StandAloneSig has locals that a reader takes
abbrev pub LocalsAreReadable : References → Type 0
LocalsAreReadable r = (k : ℕ) (cells : Cells) (types : List SigType) → slice_get r.referred.locals k ≡ Some cells → HasSignature SpellsLocals r types cells.first → AreTaken types

-- a map tells what the tokens name, and gives back all locals that were given a token
pub record LocalsRead (r : References) (image : List ℕ) (owners : ℕ → Option Owner) : Type 0 where
  pub locals : ℕ → Option (List SigType)
  pub tells : (token : ℕ) (types : List SigType) → (locals token ≡ Some types) ↔ NamesLocals image owners token types
  pub back : GivesBack (token_in locals_apart r.known.locals) locals

-- ---- the law

abbrev pub LocalsAreRead : Type 0
LocalsAreRead =
    (a : Assembly) (classes : List Class) (r : References) (tables : Tables) (code image : List ℕ) → IsWritten a classes r tables code image
    → LocalsAreReadable r → (o : OwnersRead r image) → LocalsRead r image o.owners
