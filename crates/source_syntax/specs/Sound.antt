-- What of a declaration or a reference can be read.
use Rattle.std.specs.Prelude.{◌≡◌, true, [], ◌∷◌, ◌⊎◌}
use Rattle.ilasm_grammar.specs.declared.productions.TheConstants.{TYPE, PATH, METHOD_GENERICS, SIGNATURE, DEF_ARGS_OPT_SOME}
use Rattle.source_model.specs.Forest.{Forest, none, child, the}
use Rattle.source_model.specs.Nodes.{Around}
use Rattle.source_model.specs.Signatures.{is_field_unbroken, is_method_unbroken, is_property_unbroken, is_reference_unbroken}
use Rattle.source_model.specs.Source.{Source}
use Rattle.source_nodes.specs.Derived.{FitsBody, HasBodies}
use Rattle.source_syntax.specs.Places.{IsReadable}

-- what stands below a type's production, or nothing
abbrev pub IsTypeOrNothing : Source → Forest → Type 0
IsTypeOrNothing s f = (f ≡ none) ⊎ FitsBody s TYPE f

-- the path in a forest can be read
abbrev pub HasPath : Source → Forest → Type 0
HasPath s f = FitsBody s PATH (child (PATH ∷ []) f) × HasBodies s (child (PATH ∷ []) f)

-- the type at the top of a forest can be read
pub record HasSoundType (s : Source) (f : Forest) : Type 0 where
  pub fits : IsTypeOrNothing s (child (TYPE ∷ []) f)
  pub each : IsReadable s (child (TYPE ∷ []) f)

-- the types in the signature of a declared method can be read
pub record HasSoundMethod (s : Source) (f : Forest) : Type 0 where
  pub ret : HasSoundType s f
  pub parameters : IsReadable s (child (DEF_ARGS_OPT_SOME ∷ []) f)

-- those of a property
pub record HasSoundProperty (s : Source) (f : Forest) : Type 0 where
  pub ret : HasSoundType s f
  pub parameters : IsReadable s (child (SIGNATURE ∷ []) f)

-- those of a reference to a method, but for its owner
pub record HasSoundReference (s : Source) (f : Forest) : Type 0 where
  pub ret : HasSoundType s f
  pub generics : IsReadable s (the METHOD_GENERICS f)
  pub arguments : IsReadable s (the SIGNATURE f)

-- a signature that breaks no rule of its own can be read
pub record UnbrokenIsSound : Type 0 where
  pub field : (s : Source) (a : Around) (f : Forest) → HasBodies s f → is_field_unbroken s a f ≡ true → HasSoundType s f
  pub method : (s : Source) (a : Around) (f : Forest) → HasBodies s f → is_method_unbroken s a f ≡ true → HasSoundMethod s f
  pub property : (s : Source) (a : Around) (f : Forest) → HasBodies s f → is_property_unbroken s a f ≡ true → HasSoundProperty s f
  pub reference : (s : Source) (a : Around) (f : Forest) → HasBodies s f → is_reference_unbroken s a f ≡ true → HasSoundReference s f
