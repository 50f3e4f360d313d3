-- The rows of TypeSpec while they get their numbers, deeper types after those that may stand in them.
use Rattle.std.specs.Prelude.{◌≡◌, ◌↔◌, ℕ, ◌+◌, ◌≤◌, ◌<◌, ◌⊎◌, List, Option, Some, length, slice_index}
use Rattle.type_terms.specs.declared.term.Owner.{Owner}
use Rattle.type_terms.specs.declared.term.SigType.{SigType}
use Rattle.hash_places.specs.Slots.{place_of}
use Rattle.image_model.specs.Naming.{TellsOwners}
use Rattle.image_model.specs.Structure.{HasScopes}
use Rattle.row_demands.specs.Structured.{MeetStructure}
use Rattle.row_twins.specs.Linked.{AreLinked, HasRow}
use Rattle.row_twins.specs.Twins.{IsWithin}
use Rattle.signature_facts.specs.Scanning.{OwnersFacts}
use Rattle.type_names.specs.Numbers.{TypeNumbers}
use Rattle.owner_numbers.specs.Terms.{term_in, term_of, spec_count, level_at, hash_at, IsTold, TellFacts}
use Rattle.owner_numbers.specs.declared.classes.Sorted.{Sorted}

-- what is known of an image whose rows of TypeSpec get numbers
pub record MayBeSorted (image : List ℕ) (names : TypeNumbers) (facts : OwnersFacts) : Type 0 where
  pub same : names.image ≡ image
  pub meets : MeetStructure image
  pub scopes : (table row : ℕ) → HasScopes image table row
  pub told : IsTold image
  pub facts_are : TellFacts image facts

-- this is the number of a row: that of a row with the same type whose number is its own
abbrev pub IsClass : List ℕ → (ℕ → Option Owner) → Sorted → (index class : ℕ) → Type 0
IsClass image owners it index class = (hash : ℕ) × HasRow it.firsts.rows hash class × (term_in image owners index ≡ term_of image owners class)

abbrev pub HasClass : List ℕ → Sorted → (row class : ℕ) → Type 0
HasClass image it row class = IsWithin (spec_count image) class × ((owners : ℕ → Option Owner) → TellsOwners image owners → (hash : ℕ) × HasRow it.firsts.rows hash class × (term_of image owners row ≡ term_of image owners class))

-- no two rows whose number is their own have one type; and numbers are right
pub record AreFirsts (image : List ℕ) (owners : ℕ → Option Owner) (it : Sorted) : Type 0 where
  pub apart : (g h one other : ℕ) → HasRow it.firsts.rows g one → HasRow it.firsts.rows h other → term_of image owners one ≡ term_of image owners other → one ≡ other
  pub by_index : (index class : ℕ) → place_of it.by_index index ≡ Some class → IsClass image owners it index class
  pub class : (row : ℕ) → 0 < slice_index it.classes.items row
      → (hash : ℕ) × HasRow it.firsts.rows hash (slice_index it.classes.items row) × (term_of image owners row ≡ term_of image owners (slice_index it.classes.items row))

-- a row whose number is its own has a type that is at most so deep, and its hash
pub record IsFirst (image : List ℕ) (facts : OwnersFacts) (level hash row : ℕ) : Type 0 where
  pub within : IsWithin (spec_count image) row
  pub hashed : hash ≡ hash_at facts row
  pub depth : ℕ
  pub is : level_at facts row ≡ Some depth
  pub low : depth ≤ level

pub record AreSorted (image : List ℕ) (facts : OwnersFacts) (level : ℕ) (it : Sorted) : Type 0 where
  pub long : length it.classes.items ≡ spec_count image + 1
  pub linked : AreLinked it.firsts
  pub firsts : (hash row : ℕ) → HasRow it.firsts.rows hash row → IsFirst image facts level hash row
  pub so : (owners : ℕ → Option Owner) → TellsOwners image owners → AreFirsts image owners it

-- the rows whose type is less deep have numbers, and those before one whose type is so deep
abbrev pub AreDone : List ℕ → OwnersFacts → Sorted → (level upto : ℕ) → Type 0
AreDone image facts it level upto =
    (row depth : ℕ) → IsWithin (spec_count image) row → level_at facts row ≡ Some depth → (depth < level) ⊎ ((depth ≡ level) × (row < upto)) → 0 < slice_index it.classes.items row

-- rows have one number exactly where they have one type
pub record AreClasses (image : List ℕ) (classes : List ℕ) : Type 0 where
  pub long : length classes ≡ spec_count image + 1
  pub same : (owners : ℕ → Option Owner) → TellsOwners image owners → (one other : ℕ) (s t : SigType) → IsWithin (spec_count image) one → IsWithin (spec_count image) other
      → term_of image owners one ≡ Some s → term_of image owners other ≡ Some t → (slice_index classes one ≡ slice_index classes other) ↔ (s ≡ t)
