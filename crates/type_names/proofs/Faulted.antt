-- The first row that fails I13 is a fault of the image.
use Rattle.std.proofs.Common.{ℕ, List, refl, arith}
use Rattle.image_model.specs.declared.place.Place.TheVariants.{Row}
use Rattle.image_model.specs.Faults.{indexes, entries, manifest, runs, order, scopes, signatures, distinct, values, header, instructions, clauses, tokens, attributes, bases, accessors, HoldBefore, NamedFor, HasTables, IsImageFault, in_row}
use Rattle.image_model.specs.Structure.{HasScopes}
use Rattle.demand_search.specs.Search as found
use Rattle.row_demands.specs.Structured.{MeetStructure}
use Rattle.row_demands.proofs.Faulted.{no_names}

unnamed : (image : List ℕ) → NamedFor image no_names scopes
unnamed image late = absurd (omega arith)

before_scopes : (image : List ℕ) → MeetStructure image → HoldBefore image no_names scopes
before_scopes image meets indexes early = (meets.indexes, meets.entry)
before_scopes image meets entries early = meets.entries
before_scopes image meets manifest early = meets.manifest
before_scopes image meets runs early = meets.runs
before_scopes image meets order early = meets.order
before_scopes image meets scopes early = absurd (omega arith)
before_scopes image meets signatures early = absurd (omega arith)
before_scopes image meets distinct early = absurd (omega arith)
before_scopes image meets values early = absurd (omega arith)
before_scopes image meets header early = absurd (omega arith)
before_scopes image meets instructions early = absurd (omega arith)
before_scopes image meets clauses early = absurd (omega arith)
before_scopes image meets tokens early = absurd (omega arith)
before_scopes image meets attributes early = absurd (omega arith)
before_scopes image meets bases early = absurd (omega arith)
before_scopes image meets accessors early = absurd (omega arith)

pub fault_in_scopes : (image : List ℕ) → HasTables image → MeetStructure image → (table row : ℕ) → found.IsFirstBad (HasScopes image) table row → IsImageFault image 13 (Row table row)
fault_in_scopes image has meets table row f =
    in_row no_names {rule = scopes} has (unnamed image) (before_scopes image meets) (record { bad = f.bad; first = f.first }) refl
