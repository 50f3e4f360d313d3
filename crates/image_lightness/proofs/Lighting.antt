-- What is known of an image that meets I1 to I23, and what follows from an answer.
use Rattle.std.proofs.Common.{◌≡◌, ℕ, ◌*◌, ◌/◌, ◌%◌, ◌≤◌, inl, inr, Bool, false, List, option_map, Option, Some, None, refl, sym, ◌∙◌, ap, subst, arith}
use Rattle.std.specs.Prelude.{slice_index}
use Rattle.std.proofs.lemmas.Bool.{cases_lt, false≢true}
use Rattle.metadata_tables.specs.CodedIndex.{table_of}
use Rattle.metadata_tables.specs.Schema.{schema}
use Rattle.metadata_tables.specs.Stream.{cell}
use Rattle.metadata_tables.specs.declared.coded.Coded.TheVariants.{MethodDefOrRef}
use Rattle.assembly_tree.specs.Weight.{weight_of}
use Rattle.body_codec.specs.Names.{NameMap}
use Rattle.data_demands.specs.Measured.{CanMeasure}
use Rattle.image_assemblies.specs.Laws.{AssemblyExists}
use Rattle.image_methods.specs.Overriders.{AreOverriders}
use Rattle.image_model.specs.Columns.{override_body, override_class}
use Rattle.image_model.specs.Faults.{max_weight, signatures, distinct, values, IsImageFault}
use Rattle.image_model.specs.Members.{HasValues, OverridesInClass}
use Rattle.image_model.specs.Naming.{TellsOwners}
use Rattle.image_model.specs.Namings.{AreNamings}
use Rattle.image_model.specs.Rows.{count_of, HasRow}
use Rattle.image_model.specs.Streams.{tables_of}
use Rattle.image_model.specs.declared.place.Place.TheVariants.{Whole}
use Rattle.image_namings.proofs.Standing.{Stands, stands}
use Rattle.image_ready.specs.Laws.{AreDataSizes}
use Rattle.image_weights.specs.Standing.{MeetsRules}
use Rattle.interface_numbers.specs.Known.{CanNumber}
use Rattle.name_weights.specs.Weights.{AreWeights, weighing}
use Rattle.image_model.specs.Structure.{HasScopes}
use Rattle.spec_facts.specs.SpecMap.{AreNameFacts}
use Rattle.owner_numbers.specs.Terms.{TellFacts, IsTold}
use Rattle.row_chains.specs.Following.{AreWithin}
use Rattle.row_demands.specs.Structured.{MeetStructure}
use Rattle.row_weights.specs.Rows.{AreKnown, known}
use Rattle.signature_equality.specs.Numbering.{IsCanon}
use Rattle.signature_facts.specs.Scanning.{OwnersFacts}
use Rattle.type_terms.specs.declared.term.Owner.{Owner}
use Rattle.image_lightness.specs.Light.{Meets, TellsLight, TellWeighed}

module _ (image : List ℕ) (meets : Meets image) where
  abbrev names : NameMap
  names = meets.demands.named.0

  named : AreNamings image names
  named = meets.demands.named.1

  -- an image whose assembly isn't light fails the last demand
  pub too_large_is : (light : Bool) → AssemblyExists → TellsLight image light → light ≡ false → IsImageFault image 24 Whole
  too_large_is light law tells over =
      let a = law image names meets.short meets.tables named (meets.demands.rows names named) in
      let h = tells names a.0 named a.1 in
      IsImageFault.too_large meets.tables named (meets.demands.rows names named) a.1 (elim (cases_lt max_weight (weight_of a.0)) [
        | inl more ↦ more
        | inr less ↦ absurd (false≢true (sym over ∙ h.1 less))
      ])

  -- ---- what is asked below

  pub weights_known : (weights : List ℕ) (facts : OwnersFacts) → AreWeights image weights → TellWeighed image facts → AreKnown (known image weights facts)
  weights_known weights facts are tell = record {
    short = meets.short;
    tables = meets.tables;
    meets = meets.demands.structure;
    scopes = meets.demands.scopes;
    weights_are = are;
    facts_are = tell;
  }

  pub told : IsTold image
  told = (names.owners, named.owners)

  pub can_number : (facts : OwnersFacts) (canon : ℕ → ℕ → Bool) → TellFacts image facts → ((owners : ℕ → Option Owner) → TellsOwners image owners → IsCanon owners canon) → CanNumber image facts canon
  can_number facts canon tell is = record {
    short = meets.short;
    tables = meets.tables;
    named = meets.demands.named;
    rows = meets.demands.rows;
    facts_are = λ n are. tell n.owners are.owners;
    canon_is = λ n are. is n.owners are.owners;
  }

  pub values_hold : (table row : ℕ) (n : NameMap) → AreNamings image n → HasValues image n table row
  values_hold table row n are = meets.demands.rows n are values table row

  pub can_measure : CanMeasure image
  can_measure = record {
    meets = meets.demands.structure;
    scopes = meets.demands.scopes;
    named = meets.demands.named;
    signatures = λ n are. meets.demands.rows n are signatures;
    distinct = λ n are. meets.demands.rows n are distinct;
  }

  pub overrides : (row : ℕ) → HasRow image 0x19 row → OverridesInClass image row
  overrides row there = (values_hold 0x19 row names named).override refl there

  pub meets_rules : (sizes : List ℕ) → ((n : NameMap) → AreNamings image n → AreDataSizes image n sizes) → (n : NameMap) × MeetsRules image n × AreDataSizes image n sizes
  meets_rules sizes are = (names, record { short = meets.short; tables = meets.tables; named = named; rows = meets.demands.rows names named }, are names named)

  -- ---- maps of members (II.22.12, II.22.27, II.22.35)

  pub event_parents : (row : ℕ) → HasRow image 0x12 row → cell (tables_of image) 0x12 row 0 ≤ count_of image 0x02
  unfolding schema
  event_parents row there = (meets.demands.structure.indexes 0x12 row there 0 (omega arith)).1

  pub property_parents : (row : ℕ) → HasRow image 0x15 row → cell (tables_of image) 0x15 row 0 ≤ count_of image 0x02
  unfolding schema
  property_parents row there = (meets.demands.structure.indexes 0x15 row there 0 (omega arith)).1

  stand : Stands image
  stand = stands image names (λ earlier low. meets.demands.rows names named earlier)

  class_there : (row : ℕ) → HasRow image 0x19 row → HasRow image 0x02 (override_class image row)
  unfolding schema
  class_there row there = meets.demands.structure.indexes 0x19 row there 0 (omega arith)

  abbrev pair : ℕ → ℕ → ℕ × ℕ
  pair a b = (a, b)

  second_is : (o : Option ℕ) (second table row : ℕ) → option_map (λ (t : ℕ). pair t second) o ≡ Some (pair table row) → second ≡ row
  second_is None second table row e = cc
  second_is (Some t) second table row e = let p : pair t second ≡ pair table row = cc in ap (λ (q : ℕ × ℕ). q.1) p

  pub bodies_within : (bodies : List ℕ) → AreOverriders image bodies → AreWithin bodies (count_of image 0x06)
  bodies_within bodies are row some less =
      let upto : row ≤ count_of image 0x19 = (let l = are.long in omega arith) in
      let m = overrides row (some, upto) in
      let there : HasRow image 0x06 m.0 = stand.method_there m.0 (override_class image row) (class_there row (some, upto)) m.2 in
      let half : override_body image row / 2 ≡ m.0 = second_is (table_of MethodDefOrRef (override_body image row % 2)) (override_body image row / 2) 0x06 m.0 m.1 in
      let twice : override_body image row ≡ slice_index bodies row * 2 = are.each row some upto in
      let last : m.0 ≤ count_of image 0x06 = there.1 in
      omega (arith, half, twice, last)

  -- ---- along equal images

  pub weighed : (i : List ℕ) (w : OwnersFacts) → i ≡ image → (MeetStructure i → ((table row : ℕ) → HasScopes i table row) → (n : NameMap) → AreNamings i n → AreNameFacts weighing n.owners w)
      → (n : NameMap) → AreNamings image n → AreNameFacts weighing n.owners w
  weighed i w e h n are =
      h (subst MeetStructure (sym e) meets.demands.structure) (λ table row. subst (λ (x : List ℕ). HasScopes x table row) (sym e) (meets.demands.scopes table row)) n
      (subst (λ (x : List ℕ). AreNamings x n) (sym e) are)

  pub known_along : (i weights : List ℕ) (facts : OwnersFacts) → i ≡ image → AreWeights image weights → TellWeighed image facts → AreKnown (known i weights facts)
  known_along i weights facts e are tell = subst (λ (x : List ℕ). AreKnown (known x weights facts)) (sym e) (weights_known weights facts are tell)
