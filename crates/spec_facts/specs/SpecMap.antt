-- What tokens are told of where the facts of names are known (II.22.39): a TypeSpec has those of the type that its signature spells,
-- where tokens are told of so.
use Rattle.std.specs.Prelude.{◌≡◌, ℕ, ◌-◌, slice_get, ◌/◌, ◌%◌, ◌^◌, ◌==◌, if◌then◌else◌, false, List, Option, Some, None}
use Rattle.std.specs.Option.{option_map}
use Rattle.type_terms.specs.declared.term.Owner.{Owner}
use Rattle.signature_facts.specs.declared.facts.Facts.{Facts}
use Rattle.signature_facts.specs.declared.facts.OwnerFacts.{OwnerFacts}
use Rattle.signature_facts.specs.Facts.{Naming, owner_facts}
use Rattle.signature_facts.specs.Scanning.{OwnersFacts}

-- the facts of a TypeSpec, by those of its type
abbrev pub spec_of : Facts → OwnerFacts
spec_of f = record { is_name = false; facts = f }

abbrev pub joined : {X : Type 0} → Option (Option X) → Option X
joined None = None
joined (Some x) = x

-- what a list with an entry for each row tells of a row
unfoldable pub row_told : List (Option Facts) → ℕ → Option Facts
row_told rows row = if row == 0 then None else joined (slice_get rows (row - 1))

-- a token of the table TypeSpec, where the facts of its rows are told, and any other
abbrev pub merged : OwnersFacts → (ℕ → Option Facts) → OwnersFacts
merged names specs token = if token / 2 ^ 24 == 0x1B then option_map spec_of (specs (token % 2 ^ 24)) else names token

-- of the tokens of all other tables a map tells the facts of what they name
abbrev pub AreNameFacts : Naming → (ℕ → Option Owner) → OwnersFacts → Type 0
AreNameFacts naming owners names = (token : ℕ) → (token / 2 ^ 24 ≡ 0x1B → ⊥) → names token ≡ option_map (owner_facts naming) (owners token)
