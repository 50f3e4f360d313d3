-- The tokens of an image name the types that they were given to (ECMA-335 II.22.37 to II.22.39, III.1.9).
use Rattle.std.specs.Prelude.{◌≡◌, ℕ, ◌≤◌, List, Option, Some, slice_get}
use Rattle.assembly_tree.specs.declared.assembly.Assembly.{Assembly}
use Rattle.sig_codec.specs.Signature.{max_depth, max_nodes}
use Rattle.sig_codec.specs.Spelling.{SpellsType}
use Rattle.sig_codec.specs.Tokens.{GivesBack}
use Rattle.type_terms.specs.Depth.{depth}
use Rattle.type_terms.specs.Nodes.{nodes}
use Rattle.type_terms.specs.declared.term.Owner.{Owner}
use Rattle.type_terms.specs.declared.term.SigType.{SigType}
use Rattle.image_tokens.specs.References.{HasSignature, tokens_of}
use Rattle.image_tokens.specs.declared.references.References.{References}
use Rattle.image_tokens.specs.declared.row_set.Cells.{Cells}
use Rattle.image_members.specs.Pushing.{Tables}
use Rattle.image_members.specs.declared.classes.Class.{Class}
use Rattle.image_model.specs.Naming.{TellsOwners}
use Rattle.laws_image_parts.specs.names.Written.{IsWritten}

-- each row of TypeSpec has a type that a reader takes: it is no deeper and has no more nodes than that
abbrev pub SpecsAreReadable : References → Type 0
SpecsAreReadable r =
    (k : ℕ) (cells : Cells) (t : SigType) → slice_get r.referred.specs k ≡ Some cells → HasSignature SpellsType r t cells.first
    → (depth t ≤ max_depth) × (nodes t ≤ max_nodes)

-- a map tells what the tokens name, and gives back each type that was given a token
pub record OwnersRead (r : References) (image : List ℕ) : Type 0 where
  pub owners : ℕ → Option Owner
  pub tells : TellsOwners image owners
  pub back : GivesBack (tokens_of r) owners

-- ---- the law

abbrev pub OwnersAreRead : Type 0
OwnersAreRead =
    (a : Assembly) (classes : List Class) (r : References) (tables : Tables) (code image : List ℕ) → IsWritten a classes r tables code image
    → SpecsAreReadable r → OwnersRead r image

-- what was written as the signature of a type is that of one type
abbrev pub TypesAreOne : Type 0
TypesAreOne =
    (a : Assembly) (classes : List Class) (r : References) (tables : Tables) (code image : List ℕ) → IsWritten a classes r tables code image
    → (t u : SigType) (blob : ℕ) → HasSignature SpellsType r t blob → HasSignature SpellsType r u blob → t ≡ u
