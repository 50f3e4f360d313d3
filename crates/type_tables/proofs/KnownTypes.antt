-- What the tables of a world tell of the types of its image.
use Rattle.std.proofs.Common.{◌≡◌, ◌∙◌, ap, sym, subst, refl, inl, inr, Some, ℕ, Bool, true, not, List, [], ◌∷◌, ◌++◌, length, take}
use Rattle.std.specs.Prelude.{slice_get, option_and_then}
use Rattle.std.specs.List.{list_any}
use Rattle.std.proofs.lemmas.Option.{same_Some}
use Rattle.type_terms.specs.declared.name.Scope.TheVariants.{Here}
use Rattle.type_terms.specs.declared.name.TypeId.{TypeId}
use Rattle.type_terms.specs.declared.name.TypeName.{TypeName}
use Rattle.assembly_tree.specs.declared.typedef.TypeDef.{TypeDef}
use Rattle.assembly_tree.specs.DataSize.{type_at}
use Rattle.assembly_tree.specs.WellFormed.{are_classes}
use Rattle.type_hierarchy.specs.Declarations.{place_in, place_of}
use Rattle.type_hierarchy.specs.Indexed.{KnowsTypes}
use Rattle.type_tables.specs.Indexing.{AreIndexed, IsIndexed, StandsAt}
use Rattle.type_tables.specs.Members.{IsScopes, member}
use Rattle.type_hierarchy.specs.Names.{full_name, is_among, same_scope}
use Rattle.type_tables.specs.Places.{ArePlaces, row}
use Rattle.type_hierarchy.specs.Scopes.{Sources, Member, member_of, scope_in}
use Rattle.type_hierarchy.specs.declared.meanings.Meanings.{Meanings}
use Rattle.type_tables.specs.declared.places.Places.{Places}
use Rattle.type_tables.specs.declared.scopes.Scopes.{Scopes}
use Rattle.type_hierarchy.specs.declared.tables.Tables.{Tables}
use Rattle.type_tables.proofs.IndexLemmas.{at_index}
use Rattle.type_tables.proofs.PlaceLemmas.{declared_among}
use Rattle.type_tables.proofs.SoFar.{first_of_scope, own_is}

abbrev the_image : Sources → Member
the_image s = record { number = 0; assembly = s.image }

image_here : (s : Sources) → member_of s Here ≡ Some (the_image s)
unfolding member_of scope_in
image_here s = refl

no_index : (index k : ℕ) → slice_get [] k ≡ Some index → ⊥
no_index index k h = let f : ⊥ = cc in f

pub none_indexed : (ts : List TypeDef) (p : Places) → p.names ≡ [] → p.indexes ≡ [] → AreIndexed ts p
none_indexed ts p names indexes = record {
  paired = ap length indexes ∙ sym (ap length names);
  each = λ k index path at. absurd (no_index index k (ap (λ l. slice_get l k) (sym indexes) ∙ at.indexed));
}

module _ (s : Sources) (z : Scopes) (k n : ℕ) (means : Meanings) (ok : IsScopes s z) (number : slice_get z.numbers k ≡ Some n) (meant : slice_get z.meanings k ≡ Some means) where
  -- only the image has the scope `Here`
  pub more_indexed : (b : Bool) (types : List TypeDef) (old new : Places) → b ≡ not (list_any (λ (m : Meanings). same_scope m.own means.own) (take k z.meanings)) → b ≡ true
      → types ≡ (member s n).assembly.types → IsIndexed means.own [] types old new → AreIndexed s.image.types old → AreIndexed s.image.types new
  more_indexed b types old new e is of grown before = record {
    paired = grown.paired before.paired;
    each = λ j index path at. elim (grown.each before.paired j index (full_name Here path) at) [
      | inl was ↦ before.each j index path was
      | inr from ↦
          let own = own_is s z k n means ok number meant in
          let here : Here ≡ means.own = ap (λ (x : TypeName). x.scope) from.named in
          let same : path ≡ from.path = ap (λ (x : TypeName). x.path) from.named in
          let first = first_of_scope s z k n means ok number meant b e is in
          let this : the_image s ≡ member s n = same_Some (the_image s) (member s n) (sym (image_here s) ∙ ap (member_of s) (here ∙ own) ∙ first) in
          let those : types ≡ s.image.types = of ∙ ap (λ (m : Member). m.assembly.types) (sym this) in
          subst (λ (ts : List TypeDef). StandsAt ts path index) those (subst (λ (p : List TypeId). StandsAt types p index) (sym same) from.at)
    ];
  }

declared_here : (s : Sources) (path : List TypeId) (u : TypeDef) → type_at s.image.types path ≡ Some u
    → place_of s (full_name Here path) ≡ Some (record { member = the_image s; typedef = u })
unfolding place_of
declared_here s path u h =
    ap (option_and_then (λ (m : Member). place_in m (type_at m.assembly.types path))) (image_here s) ∙ ap (place_in (the_image s)) h

pub knows_all : (s : Sources) (p : Places) (t : Tables) → are_classes s.image ≡ true → ArePlaces s (row p) → AreIndexed s.image.types p
    → t.names ≡ p.names → t.indexes ≡ p.indexes → KnowsTypes s.image t
knows_all s p t formed places indexed names indexes = record {
  paired = ap length indexes ∙ indexed.paired ∙ sym (ap length names);
  declared = λ path u h.
      ap (λ ns. is_among ns (full_name Here path)) (names ∙ places.names)
      ∙ declared_among s (full_name Here path) (record { member = the_image s; typedef = u }) (declared_here s path u h);
  stands = λ k index outer id f g.
      at_index s.image true 100 formed
      (indexed.each k index (outer ++ id ∷ []) (record { named = ap (λ l. slice_get l k) (sym names) ∙ f; indexed = ap (λ l. slice_get l k) (sym indexes) ∙ g }))
      outer id refl;
}
