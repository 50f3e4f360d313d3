-- The rows of CustomAttribute.
use Rattle.std.proofs.Common.{◌≡◌, ap, refl, subst, ℕ, ◌+◌, ◌<◌, ◌≤◌, ◌^◌, List, [], ◌∷◌, length, arith}
use Rattle.metadata_tables.specs.Encoding.{AddsRow, IsRowOf}
use Rattle.metadata_tables.specs.Laws.{RowOfColumns}
use Rattle.metadata_tables.specs.Schema.{schema}
use Rattle.metadata_tables.specs.declared.coded.Coded.TheVariants.{CustomAttributeType}
use Rattle.assembly_tree.specs.Weight.{method_ref_weight}
use Rattle.assembly_tree.specs.declared.members.Attribute.{Attribute}
use Rattle.image_rows.specs.AttributeRows.{attributes_with, attribute_bytes, IsAttributeRow, CanPushAttribute}
use Rattle.image_tokens.specs.Blobs.{HoldsBlob}
use Rattle.image_tokens.specs.Indexes.{index_of_token}
use Rattle.image_tokens.specs.KnownTokens.{methods_apart}
use Rattle.image_tokens.specs.Members.{Leaves, HasMethod}
use Rattle.image_members.specs.Pushing.{Tables, Pushes}
use Rattle.image_tokens.specs.References.{Grows, Goes, size}
use Rattle.image_tokens.specs.declared.references.References.{References}
use Rattle.image_tokens.proofs.BodyLemmas.{method_can}
use Rattle.image_tokens.proofs.GrowthLemmas.{grows_trans, token_kept}
use Rattle.image_members.proofs.KindLemmas.{RowKind, one_pushed}
use Rattle.image_members.proofs.ManifestLemmas.{blob_kept}

pub attribute_cells : RowOfColumns → (parent constructor value : ℕ) → IsRowOf 0x0C (parent ∷ constructor ∷ value ∷ [])
unfolding schema
attribute_cells law parent constructor value = law 0x0C (parent ∷ constructor ∷ value ∷ []) (omega arith) (tt, (tt, (tt, tt)))

pub attribute_kept : (a b : References) → Grows a b → (cells : List ℕ) (x : ℕ × Attribute) → IsAttributeRow a cells x → IsAttributeRow b cells x
attribute_kept a b g cells x h = record {
  token = h.token;
  value = h.value;
  are = h.are;
  token_is = token_kept methods_apart a.known.methods b.known.methods x.1.constructor h.token g.known_methods h.token_is;
  value_is = blob_kept a.heaps.blobs b.heaps.blobs x.1.value h.value g.blobs h.value_is;
}

pub attribute_still : (a b : References) → Grows a b → (x : ℕ × Attribute) → CanPushAttribute a x → CanPushAttribute b x
attribute_still a b g x h = method_can a b g x.1.constructor h

abbrev pub attribute_kind : RowKind (ℕ × Attribute)
attribute_kind = record { table = 0x0C; is = IsAttributeRow; weigh = attribute_bytes; can = CanPushAttribute; kept = attribute_kept; still = attribute_still }

pub attribute_bytes_are : (parent : ℕ) (a : Attribute) → attribute_bytes (parent, a) ≡ method_ref_weight a.constructor + (length a.value + 4)
unfolding attribute_bytes
attribute_bytes_are parent a = refl

pub attribute_pushed : (a b c : References) (from to : Tables) (parent : ℕ) (x : Attribute) (lent_value : List ℕ) (token value : ℕ) → lent_value ≡ x.value
    → Leaves (HasMethod x.constructor) a b (method_ref_weight x.constructor) token → Goes b c (length lent_value + 4) → HoldsBlob c.heaps.blobs lent_value value
    → AddsRow from to 0x0C (parent ∷ index_of_token CustomAttributeType token ∷ value ∷ []) → Pushes 0x0C IsAttributeRow attribute_bytes (attributes_with parent (x ∷ [])) a c from to
attribute_pushed a b c from to parent x lent_value token value same t v is row =
    let bytes = attribute_bytes_are parent x in
    let first = t.room in
    let then = v.size in
    let long = ap (length {A = ℕ}) same in
    one_pushed attribute_kind a c from to (parent ∷ index_of_token CustomAttributeType token ∷ value ∷ []) (parent, x) (grows_trans a b c t.grows v.grows) v.known (omega arith) row
    (record {
      token = token;
      value = value;
      are = refl;
      token_is = token_kept methods_apart b.known.methods c.known.methods x.constructor token v.grows.known_methods t.is;
      value_is = subst (λ (bs : List ℕ). HoldsBlob c.heaps.blobs bs value) same is;
    })
