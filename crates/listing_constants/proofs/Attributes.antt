-- Attributes are read back.
use Rattle.std.proofs.Common.{◌≡◌, ℕ, suc, ◌+◌, true, if◌then◌else◌, List, [], ◌∷◌, ◌++◌, drop, take, refl, ap, ◌∙◌}
use Rattle.std.proofs.lemmas.Bool.{and_parts}
use Rattle.std.specs.List.{list_all}
use Rattle.ilasm_grammar.specs.Ilasm.{ilasm, rule_by, has_bit}
use Rattle.ilasm_grammar.specs.declared.productions.TheConstants as p
use Rattle.assembly_tree.specs.WellFormedMembers.{is_attribute}
use Rattle.assembly_tree.specs.WellFormedTerms.{is_plain_ref}
use Rattle.assembly_tree.specs.declared.assembly.Assembly.{Assembly}
use Rattle.assembly_tree.specs.declared.members.Attribute.{Attribute}
use Rattle.source_model.specs.Forest as f
use Rattle.source_model.specs.Manifests.{attribute, attributes}
use Rattle.source_model.specs.Nodes.{Around}
use Rattle.source_model.specs.Source.{Source}
use Rattle.source_model.specs.Values.{bytes_in_parentheses, equals_bytes}
use Rattle.listing_formed.specs.Laws.{Knows, FormedAreRead, FormedAreReadable}
use Rattle.listing_growth.specs.Held.{is_attribute_held, are_attributes_held}
use Rattle.listing_growth.specs.Laws.{ValuesStand}
use Rattle.listing_model.specs.Grown.{body_of}
use Rattle.listing_model.specs.References.{method_ref}
use Rattle.listing_model.specs.Shown.{none, put, size}
use Rattle.listing_model.specs.Values.{custom, customs}
use Rattle.listing_reading.specs.Below.{below, cant_stand}
use Rattle.listing_reading.specs.BelowMasks.{below_masks}
use Rattle.listing_reading.specs.Laws.{SearchesPass}
use Rattle.listing_reading.specs.Numbered.{numbered, Agrees}
use Rattle.listing_reading.specs.Rows.{parts_at}
use Rattle.listing_rows.specs.Segments.{ItemsAgree}
use Rattle.listing_values.specs.Laws.{BytesAreRead}
use Rattle.listing_constants.specs.Laws.{AttributesAreRead}

no_bytes_before : cant_stand (p.EQ_BYTES_OPT_SOME ∷ []) (take 2 (body_of p.CUSTOM)) ≡ true
unfolding ilasm rule_by has_bit below below_masks
no_bytes_before = refl

module _ (formed : FormedAreRead) (readable : FormedAreReadable) (bytes : BytesAreRead) (stand : ValuesStand) (searches : SearchesPass) (s : Source) (around : Around) (a : Assembly) (knows : Knows s a) where
  attribute_read : (x : Attribute) → is_attribute a x ≡ true → is_attribute_held x ≡ true → (at : ℕ) → Agrees s at (put (custom a.externs x) none) →
      attribute s around (numbered at (put (custom a.externs x) none)) ≡ x
  unfolding is_attribute is_attribute_held is_plain_ref method_ref
  attribute_read x m h at ag =
      let ref = (and_parts _ _ m).1 in
      let hs = and_parts _ _ h in
      let stands = (readable.methods a knows.names x.constructor ref hs.0).1 in
      let grown = (stand.attributes a.externs x stands).1 in
      let found = searches.parts (p.EQ_BYTES_OPT_SOME ∷ []) 2 (body_of p.CUSTOM) no_bytes_before (custom a.externs x).below grown at in
      let constructor_is = formed.methods s around a knows x.constructor ref hs.0 (suc at) ag.0.1.0 in
      let value_is = ap (λ ps. if f.is_any_part ps then equals_bytes s (f.leaf_at 0 (f.first_or f.none (f.below_each ps))) else []) (ap (λ ps. ps ++ []) found)
      ∙ (ap (λ t. bytes_in_parentheses (drop 1 t)) ag.0.1.1.0.0.text ∙ bytes.equals x.value hs.1) in
      λ i. record { constructor = constructor_is i; value = value_is i }

  attributes_read : (xs : List Attribute) → list_all (is_attribute a) xs ≡ true → are_attributes_held xs ≡ true → (production at : ℕ) →
      ItemsAgree s at (customs a.externs production xs) → attributes s around (parts_at at (customs a.externs production xs)) ≡ xs
  attributes_read [] m h production at ag = refl
  attributes_read (x ∷ xs) m h production at ag =
      let ms = and_parts (is_attribute a x) (list_all (is_attribute a) xs) m in
      let hs = and_parts (is_attribute_held x) (are_attributes_held xs) h in
      let from = at + size (put (custom a.externs x) none) in
      ap (λ y. y ∷ attributes s around (parts_at from (customs a.externs production xs))) (attribute_read x ms.0 hs.0 at ag.0)
      ∙ ap (λ ys. x ∷ ys) (attributes_read xs ms.1 hs.1 production from ag.1)

pub attributes_are_read : FormedAreRead → FormedAreReadable → BytesAreRead → ValuesStand → SearchesPass → AttributesAreRead
attributes_are_read formed readable bytes stand searches s around a knows xs m h production at ag =
    attributes_read formed readable bytes stand searches s around a knows xs m h production at ag
