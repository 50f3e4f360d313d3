-- The worlds of an image and its references.
use Rattle.std.specs.Prelude.{◌≡◌, ℕ, ◌+◌, ◌≤◌, ◌^◌, [], length, IsTrue}
use Rattle.std.specs.List.{All}
use Rattle.type_terms.specs.declared.term.SigType.{SigType}
use Rattle.assembly_tree.specs.declared.assembly.Assembly.{Assembly}
use Rattle.assembly_tree.specs.Weight.{weight_of}
use Rattle.assembly_tree.specs.WellFormed.{is_well_formed}
use Rattle.type_hierarchy.specs.Ancestors.{all_declared, IsAcyclic}
use Rattle.type_hierarchy.specs.Declarations.{hierarchy_of}
use Rattle.type_hierarchy.specs.Indexed.{KnowsTypes}
use Rattle.type_hierarchy.specs.Laws.{IsGrounded}
use Rattle.type_hierarchy.specs.Scopes.{Sources}
use Rattle.type_hierarchy.specs.World.{Content, Stays, hierarchy}

-- an assembly that a world takes
abbrev pub IsFit : Assembly → Type 0
IsFit a = IsTrue (is_well_formed a) × (weight_of a ≤ 2 ^ 26)

-- the world of these assemblies, in which no type is its own ancestor; its pool is empty. No type has more types above it than
-- the assemblies declare and four: an array, Enum and MulticastDelegate where they aren't declared, and one outside the world
pub record IsWorldOf (s : Sources) (w : Content) : Type 0 where
  pub hierarchy : hierarchy w ≡ hierarchy_of s
  pub nodes : w.nodes ≡ []
  pub types : KnowsTypes s.image w.tables
  pub acyclic : IsAcyclic s
  pub grounded : (height : SigType → ℕ) × IsGrounded (hierarchy_of s) height × ((t : SigType) → height t ≤ length (all_declared s) + 4)

-- the world of an image and its references, each of them fit, whatever it was asked since it was made
pub record IsWorldSince (s : Sources) (w : Content) : Type 0 where
  pub image : IsFit s.image
  pub references : All IsFit s.references
  pub few : length s.references ≤ 8
  pub first : Content
  pub made : IsWorldOf s first
  pub stays : Stays first w
