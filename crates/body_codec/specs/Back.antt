-- When what a numberer numbered has the same names again.
use Rattle.std.specs.Prelude.{◌≡◌, ℕ, None, Some}
use Rattle.type_terms.specs.declared.term.Owner.{Owner}
use Rattle.type_terms.specs.declared.reference.FieldRef.{FieldRef}
use Rattle.sig_codec.specs.Tokens.{GivesBack}
use Rattle.body_codec.specs.Names.{NameMap, TokenMap}

-- Each map of a namer gives back what the map of a numberer numbered. The token of ldtoken may name a method, a field or a
-- type: that of a field names no method, and that of a type neither.
pub record NamesBack (numbers : TokenMap) (names : NameMap) : Type 0 where
  pub owners : GivesBack numbers.owners names.owners
  pub methods : GivesBack numbers.methods names.methods
  pub fields : GivesBack numbers.fields names.fields
  pub locals : GivesBack numbers.locals names.locals
  pub texts : GivesBack numbers.texts names.texts
  pub of_field : (f : FieldRef) (token : ℕ) → numbers.fields f ≡ Some token → names.methods token ≡ None
  pub of_type : (o : Owner) (token : ℕ) → numbers.owners o ≡ Some token → (names.methods token ≡ None) × (names.fields token ≡ None)
