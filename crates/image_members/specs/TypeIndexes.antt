-- Types as coded indexes (ECMA-335 II.24.2.6).
use Rattle.std.specs.Prelude.{◌≡◌, ℕ, Some}
use Rattle.metadata_tables.specs.declared.coded.Coded.TheVariants.{TypeDefOrRef}
use Rattle.type_terms.specs.declared.term.Owner.{Owner}
use Rattle.image_tokens.specs.Indexes.{index_of_token}
use Rattle.image_tokens.specs.References.{tokens_of}
use Rattle.image_tokens.specs.declared.references.References.{References}

-- the coded index of the row with the token of a type
abbrev pub IsTypeIndex : Owner → References → ℕ → Type 0
IsTypeIndex o r index = (token : ℕ) × (tokens_of r o ≡ Some token) × (index ≡ index_of_token TypeDefOrRef token)
