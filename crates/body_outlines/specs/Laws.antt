-- Laws of outlines: where all tokens have names there is a body (II.25.4), and a body that is read has the form of one.
use Rattle.std.specs.Prelude.{ℕ, ◌<◌, List, length, slice_index, IsTrue}
use Rattle.assembly_tree.specs.WellFormedBodies.{has_body_form, short_branches_reach}
use Rattle.assembly_tree.specs.WellFormedTerms.{is_count}
use Rattle.assembly_tree.specs.declared.body.Body.{Body}
use Rattle.body_codec.specs.Bodies.{Spells}
use Rattle.body_codec.specs.Faults.{IsKnown, IsOutline, HaveNames, HaveCatches}
use Rattle.body_codec.specs.Instruction.{Piece}
use Rattle.body_codec.specs.Names.{NameMap, reading}
use Rattle.body_codec.specs.NamedTokens.{AreNamed}
use Rattle.body_codec.specs.Sections.{clause_rows}
use Rattle.body_outlines.specs.Outlines.{Outlines, tokens_of}
use Rattle.body_outlines.specs.declared.outlined.BodyOutline.{BodyOutline}

-- The tokens of the locals, of the operands and of the catches have names.
abbrev pub OutlinesAreBodies : Type 0
OutlinesAreBodies =
    (names : NameMap) (bytes : List ℕ) (pieces : List Piece) → IsKnown names bytes → IsOutline bytes pieces → HaveNames names pieces (length pieces)
    → HaveCatches names (clause_rows bytes) (length (clause_rows bytes)) → (body : Body) × (size : ℕ) × Spells (reading names) bytes body size

-- the tokens of an outline are those that the body names
abbrev pub OutlinesNameTokens : Type 0
OutlinesNameTokens = (bytes : List ℕ) (o : BodyOutline) → Outlines bytes o → AreNamed bytes (tokens_of o)

-- what a body that is read has
pub record IsFormed (body : Body) : Type 0 where
  pub form : IsTrue (has_body_form body)
  pub short_branches : IsTrue (short_branches_reach body.code)

-- The count of its locals is what their signature says, which isn't asked of the body.
abbrev pub ReadBodiesAreFormed : Type 0
ReadBodiesAreFormed =
    (names : NameMap) (bytes : List ℕ) (body : Body) (size : ℕ) → ((k : ℕ) → slice_index bytes k < 256) → Spells (reading names) bytes body size
    → IsTrue (is_count (length body.locals)) → IsFormed body
