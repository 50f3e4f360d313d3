-- Signatures and texts that a reader takes, in the rows of what is declared and referred to (ECMA-335 II.23.2, II.24.2.4).
use Rattle.std.specs.Prelude.{◌≡◌, ℕ, ◌≤◌, List, Some, slice_get}
use Rattle.std.specs.List.{AllByRecursion}
use Rattle.sig_codec.specs.Signature.{max_depth, max_nodes, SpellsField, SpellsMethod, SpellsInstantiation}
use Rattle.sig_codec.specs.Spelling.{Notation}
use Rattle.type_terms.specs.Depth.{depth, sig_depth}
use Rattle.type_terms.specs.Nodes.{nodes, sig_nodes}
use Rattle.type_terms.specs.declared.reference.MethodSig.{MethodSig}
use Rattle.type_terms.specs.declared.term.SigType.{SigType}
use Rattle.image_tokens.specs.Loaded.{AreUnits}
use Rattle.image_tokens.specs.References.{HasSignature}
use Rattle.image_tokens.specs.declared.references.References.{References}
use Rattle.image_tokens.specs.declared.row_set.Cells.{Cells}
use Rattle.laws_image_parts.specs.names.Locals.{AreTaken, LocalsAreReadable}
use Rattle.laws_image_parts.specs.names.Owners.{SpecsAreReadable}

-- a type and a method's signature are no deeper and have no more nodes than a reader takes
abbrev pub IsTypeTaken : SigType → Type 0
IsTypeTaken t = (depth t ≤ max_depth) × (nodes t ≤ max_nodes)

abbrev pub IsMethodTaken : MethodSig → Type 0
IsMethodTaken s = (sig_depth s ≤ max_depth) × (sig_nodes s ≤ max_nodes)

-- the signatures of a kind in a column of rows are
abbrev pub AreReadableIn : {X : Type 0} → (Notation → X → List ℕ → Type 0) → (X → Type 0) → References → List Cells → (Cells → ℕ) → Type 0
AreReadableIn {X} Spells Taken r rows column = (k : ℕ) (cells : Cells) (x : X) → slice_get rows k ≡ Some cells → HasSignature Spells r x (column cells) → Taken x

-- those of fields and methods, declared or not, and of the arguments of methods
pub record MembersAreReadable (r : References) : Type 0 where
  pub fields : AreReadableIn SpellsField IsTypeTaken r r.declared.fields (λ c. c.third)
  pub methods : AreReadableIn SpellsMethod IsMethodTaken r r.declared.methods (λ c. c.third)
  pub member_fields : AreReadableIn SpellsField IsTypeTaken r r.referred.members (λ c. c.third)
  pub member_methods : AreReadableIn SpellsMethod IsMethodTaken r r.referred.members (λ c. c.third)
  pub arguments : AreReadableIn SpellsInstantiation AreTaken r r.referred.instances (λ c. c.second)

-- each text that was given a token is one of UTF-16 units
abbrev pub TextsAreUnits : References → Type 0
TextsAreUnits r = AllByRecursion (λ e. AreUnits e.0) r.known.texts

-- all of it
pub record IsReadable (r : References) : Type 0 where
  pub specs : SpecsAreReadable r
  pub locals : LocalsAreReadable r
  pub members : MembersAreReadable r
  pub texts : TextsAreUnits r
