-- The rows of Property, in the order in which properties are declared (ECMA-335 II.22.34, II.23.1.14).
use Rattle.std.specs.Prelude.{◌≡◌, ℕ, ◌+◌, List, [], ◌∷◌, length, bit_or}
use Rattle.assembly_tree.specs.Weight.{signature_weight}
use Rattle.assembly_tree.specs.declared.members.Property.{Property}
use Rattle.sig_codec.specs.Signature.{SpellsProperty}
use Rattle.image_rows.specs.FieldRows.{flag_if}
use Rattle.image_tokens.specs.References.{HasSignature}
use Rattle.image_tokens.specs.Texts.{HasNoZero, HoldsText}
use Rattle.image_tokens.specs.Writable.{IsPropertyWritable}
use Rattle.image_tokens.specs.declared.references.References.{References}

-- the flags, with HasDefault where there is a constant
abbrev pub property_flags : Property → ℕ
property_flags p = bit_or p.flags (flag_if 0x1000 p.constant)

-- flags, name and signature
pub record IsPropertyRow (r : References) (cells : List ℕ) (p : Property) : Type 0 where
  pub name : ℕ
  pub signature : ℕ
  pub are : cells ≡ property_flags p ∷ name ∷ signature ∷ []
  pub name_is : HoldsText r.heaps.strings p.name name
  pub signature_is : HasSignature SpellsProperty r p.sig signature

-- the bytes of a name, with the zero that ends it, and of a signature
unfoldable pub property_bytes : Property → ℕ
property_bytes p = length p.name + 1 + (signature_weight p.sig + 8)

pub record CanPushProperty (r : References) (p : Property) : Type 0 where
  pub name : HasNoZero p.name
  pub sig : IsPropertyWritable r p.sig
