-- Numbers of tokens, and when two tokens have one.
use Rattle.std.specs.Prelude.{◌≡◌, ℕ, ◌/◌, ◌%◌, ◌^◌, ◌≤◌, ◌<◌, ◌==◌, ◌&&◌, ◌||◌, nat_lt, nat_le, Bool, false, if◌then◌else◌, List, Option, Some, None, slice_get}
use Rattle.type_terms.specs.Depth.{depth, owner_depth}
use Rattle.type_terms.specs.declared.term.Owner.{Owner}
use Rattle.type_terms.specs.declared.term.SigType.{SigType}
use Rattle.image_model.specs.Naming.{TellsOwners}
use Rattle.image_model.specs.Rows.{count_of, HasRow}
use Rattle.name_numbers.specs.Names.{depth_at}
use Rattle.name_numbers.specs.declared.numbering.Named.{Named}
use Rattle.signature_equality.specs.Numbering.{IsCanon}
use Rattle.type_names.specs.Forest.{ref_node}
use Rattle.type_names.specs.Numbers.{number_of}
use Rattle.owner_numbers.specs.Terms.{term_of, IsTold}

-- the numbers of an image's types and references, and one for each row of TypeSpec
pub record Classes : Type 0 where
  pub image : List ℕ
  pub named : List Named
  pub classes : List ℕ

abbrev pub is_row : List ℕ → ℕ → ℕ → Bool
is_row image table row = nat_lt 0 row && nat_le row (count_of image table)

-- the number of a type and of a reference, if they are there
abbrev pub type_number : List ℕ → List Named → ℕ → Option ℕ
type_number image named row = if is_row image 0x02 row then number_of named row else None

abbrev pub reference_number : List ℕ → List Named → ℕ → Option ℕ
reference_number image named row = if is_row image 0x01 row then number_of named (ref_node image row) else None

-- the number of a token of TypeDef or TypeRef
unfoldable pub name_number : List ℕ → List Named → ℕ → Option ℕ
name_number image named token =
    if token / 2 ^ 24 == 0x02 then type_number image named (token % 2 ^ 24)
    else if token / 2 ^ 24 == 0x01 then reference_number image named (token % 2 ^ 24)
    else None

-- the number of a token of TypeSpec
unfoldable pub spec_number : List ℕ → ℕ → Option ℕ
spec_number classes token = if token / 2 ^ 24 == 0x1B then slice_get classes (token % 2 ^ 24) else None

abbrev pub same_number : Option ℕ → Option ℕ → Bool
same_number None b = false
same_number (Some a) None = false
same_number (Some a) (Some b) = a == b

abbrev pub canon : Classes → ℕ → ℕ → Bool
canon it a b =
    same_number (name_number it.image it.named a) (name_number it.image it.named b) || same_number (spec_number it.classes a) (spec_number it.classes b)

-- each type and each reference has a number
pub record AreNumbered (image : List ℕ) (named : List Named) : Type 0 where
  pub types : (row : ℕ) → HasRow image 0x02 row → 0 < depth_at named row
  pub references : (row : ℕ) → HasRow image 0x01 row → 0 < depth_at named (ref_node image row)

-- ---- what tokens name that is less deep than this

abbrev pub kept_below : ℕ → Option Owner → Option Owner
kept_below depth None = None
kept_below depth (Some o) = if nat_lt (owner_depth o) depth then Some o else None

abbrev pub below : ℕ → (ℕ → Option Owner) → ℕ → Option Owner
below depth owners token = kept_below depth (owners token)

-- Two rows of TypeSpec have types, and what stands in these is told by numbers.
pub record AreComparable (it : Classes) (owners : ℕ → Option Owner) (row other : ℕ) : Type 0 where
  pub limit : ℕ
  pub one : SigType
  pub two : SigType
  pub one_is : term_of it.image owners other ≡ Some one
  pub two_is : term_of it.image owners row ≡ Some two
  pub one_deep : depth one ≤ limit
  pub two_deep : depth two ≤ limit
  pub canon : IsCanon (below limit owners) (canon it)

pub record MayCompare (it : Classes) (row other : ℕ) : Type 0 where
  pub told : IsTold it.image
  pub row_there : HasRow it.image 0x1B row
  pub other_there : HasRow it.image 0x1B other
  pub comparable : (owners : ℕ → Option Owner) → TellsOwners it.image owners → AreComparable it owners row other
