-- What the names of nodes are made of.
use Rattle.std.proofs.Common.{◌≡◌, ℕ, ◌+◌, ◌-◌, ◌^◌, ◌<◌, ◌≤◌, inl, inr, List, [], ◌∷◌, Some, length, refl, sym, ◌∙◌, ap, subst, arith}
use Rattle.std.specs.Prelude.{if◌then◌else◌}
use Rattle.std.proofs.lemmas.Bool.{cases_eq, cases_lt, eq-eqb, ne_eqb}
use Rattle.std.proofs.lemmas.List.{length-append}
use Rattle.assembly_tree.specs.Weight.{id_weight}
use Rattle.heaps.specs.Content.{HasText}
use Rattle.image_model.specs.Cells.{HasIndexes}
use Rattle.image_model.specs.Columns.{type_name, type_space, type_ref_name, type_ref_space, type_ref_scope}
use Rattle.image_model.specs.Faults.{HasTables}
use Rattle.image_model.specs.Naming.{HasId, HasRefId, HasPath, HasRefPath}
use Rattle.image_model.specs.Rows.{count_of, HasRow, enclosing}
use Rattle.image_model.specs.Streams.{strings_of}
use Rattle.metadata_tables.specs.CodedIndex.{unpacked}
use Rattle.metadata_tables.specs.declared.coded.Coded.TheVariants.{ResolutionScope}
use Rattle.row_groups.proofs.Enclosing.{outer_there}
use Rattle.signature_facts.specs.Facts.{capped}
use Rattle.type_names.specs.Forest.{ref_node}
use Rattle.type_names.specs.Numbers.{NodeNames, IsNode}
use Rattle.type_names.proofs.Facts.{scopes_there}
use Rattle.type_names.proofs.Paths.{names_one}
use Rattle.type_names.proofs.Sizes.{few_types, few_references}
use Rattle.type_names.proofs.Telling.{type_names, reference_names}
use Rattle.type_terms.specs.declared.name.Scope.{Scope}
use Rattle.type_terms.specs.declared.name.Scope.TheVariants.{Here}
use Rattle.type_terms.specs.declared.name.TypeId.{TypeId}
use Rattle.name_weights.specs.declared.parts.Part.{Part}
use Rattle.name_weights.specs.Weights.{named_count, led_to, outer_named, scope_outer, IsMade, IsPart}

-- ---- a path has a name

path_long : {image : List ℕ} {row : ℕ} {path : List TypeId} → HasPath image row path → 0 < length path
path_long (HasPath.top e h) = omega arith
path_long (HasPath.nested {id = x} {before = b} e some h i s) = let l = ap length s ∙ length-append b (x ∷ []) in omega (arith, l)

ref_path_long : {image : List ℕ} {row : ℕ} {scope : Scope} {path : List TypeId} → HasRefPath image row scope path → 0 < length path
ref_path_long (HasRefPath.in_module e h) = omega arith
ref_path_long (HasRefPath.in_assembly e g h) = omega arith
ref_path_long (HasRefPath.in_type {id = x} {before = b} e h i s) = let l = ap length s ∙ length-append b (x ∷ []) in omega (arith, l)

pub names_long : (image : List ℕ) (k : ℕ) (scope : Scope) (path : List TypeId) → NodeNames image k scope path → 0 < length path
names_long image k scope path (NodeNames.type there h) = path_long h
names_long image k scope path (NodeNames.reference there e h) = ref_path_long h

-- ---- parts

-- what the texts at two indexes weigh
abbrev pub OwnIs : List ℕ → (space name own : ℕ) → Type 0
OwnIs heap space name own = (id : TypeId) → HasText heap space id.space → HasText heap name id.name → own ≡ capped (id_weight id)

-- the same, of what is seen otherwise
pub own_by : (heap seen : List ℕ) (space name s n own : ℕ) → seen ≡ heap → s ≡ space → n ≡ name → OwnIs seen s n own → OwnIs heap space name own
own_by heap seen space name s n own e f g h =
    subst (λ (x : List ℕ). OwnIs x space name own) e (subst (λ (x : ℕ). OwnIs seen x name own) f (subst (λ (x : ℕ). OwnIs seen s x own) g h))

pub own_sum : (id : TypeId) (s n a own : ℕ) → s ≡ capped (length id.space) → n ≡ capped (length id.name) → a ≡ capped (s + n) → own ≡ capped (a + 32) → own ≡ capped (id_weight id)
unfolding id_weight
own_sum id s n a own e f g h = omega (arith, e, f, g, h)

-- rows of references have numbers of 32 bits
pub ref_small : (image : List ℕ) (k types : ℕ) → HasTables image → length image ≤ 2 ^ 26 → types ≡ count_of image 0x02 → k ≤ named_count image → k - types < 2 ^ 32
ref_small image k types has small e upto =
    let few = few_references image has in
    omega (arith, small, e, upto, few)

pub count_small : (image : List ℕ) → HasTables image → length image ≤ 2 ^ 26 → named_count image < 2 ^ 32
count_small image has small =
    let t = few_types image has in
    let r = few_references image has in
    omega (arith, small, t, r)

module _ (image : List ℕ) (indexes : (table row : ℕ) → HasRow image table row → HasIndexes image table row) where
  pub type_is_node : (row : ℕ) → HasRow image 0x02 row → IsNode image row
  type_is_node row there = let b = there.1 in (there.0, omega arith)

  pub ref_is_node : (row : ℕ) → HasRow image 0x01 row → IsNode image (ref_node image row)
  ref_is_node row there = let a = there.0 in let b = there.1 in (omega arith, omega arith)

  -- ---- types

  module _ (row : ℕ) (there : HasRow image 0x02 row) (part : Part) (outer : part.outer ≡ enclosing image row) (own : OwnIs (strings_of image) (type_space image row) (type_name image row) part.own) where
    outer_type : 0 < enclosing image row → HasRow image 0x02 (enclosing image row)
    outer_type some = outer_there image indexes row there some

    type_made : {r : ℕ} {path : List TypeId} → HasPath image r path → r ≡ row → IsMade image part Here path
    type_made (HasPath.top {type = t} {id = x} e h) same =
        let i : HasId image row x = subst (λ (z : ℕ). HasId image z x) same h in
        record {
          id = x;
          before = [];
          is = refl;
          own = own x i.space i.name;
          outer = inl (outer ∙ ap (enclosing image) (sym same) ∙ e, refl);
        }
    type_made (HasPath.nested {type = t} {outer = o} {id = x} {before = b} {path = p} e some h i s) same =
        let x_is : HasId image row x = subst (λ (z : ℕ). HasId image z x) same i in
        let at : part.outer ≡ o = outer ∙ ap (enclosing image) (sym same) ∙ e in
        let o_there : HasRow image 0x02 o = subst (HasRow image 0x02) (sym outer ∙ at) (outer_type (subst (λ (z : ℕ). 0 < z) (sym (sym outer ∙ at)) some)) in
        record {
          id = x;
          before = b;
          is = s;
          own = own x x_is.space x_is.name;
          outer = inr (
            subst (IsNode image) (sym at) (type_is_node o o_there),
            subst (λ (z : ℕ). NodeNames image z Here b) (sym at) (NodeNames.type o_there h),
          );
        }

    type_within : part.outer ≤ named_count image
    type_within = elim (cases_lt 0 (enclosing image row)) [
      | inl some ↦ let h = (outer_type some).1 in omega (arith, outer, h)
      | inr none ↦ omega (arith, outer, none)
    ]

    pub type_part : IsPart image row part
    type_part = record {
      within = type_within;
      made = λ scope path names.
          let low = there.1 in
          let is = type_names names low in
          subst (λ (s : Scope). IsMade image part s path) (sym is.0) (type_made is.1 refl);
    }

  -- ---- references

  module _ (row : ℕ) (there : HasRow image 0x01 row) (part : Part) (outer : part.outer ≡ scope_outer image (type_ref_scope image row)) (own : OwnIs (strings_of image) (type_ref_space image row) (type_ref_name image row) part.own) where
    led : (table r : ℕ) → unpacked ResolutionScope (type_ref_scope image row) ≡ Some (table, r) → part.outer ≡ led_to image table r
    led table r e = outer ∙ ap (outer_named image) e

    scope_there : (table r : ℕ) → unpacked ResolutionScope (type_ref_scope image row) ≡ Some (table, r) → HasRow image table r
    scope_there table r e =
        let s = scopes_there image indexes row there in
        let one = names_one ResolutionScope (type_ref_scope image row) s.0 s.1 table r s.2 e in
        subst (λ (z : ℕ). HasRow image table z) one.1 (subst (λ (z : ℕ). HasRow image z s.1) one.0 s.3)

    at_row : {r : ℕ} {t o : ℕ} → r ≡ row → unpacked ResolutionScope (type_ref_scope image r) ≡ Some (t, o) → unpacked ResolutionScope (type_ref_scope image row) ≡ Some (t, o)
    at_row same e = ap (λ (z : ℕ). unpacked ResolutionScope (type_ref_scope image z)) (sym same) ∙ e

    ref_made : {r : ℕ} {scope : Scope} {path : List TypeId} → HasRefPath image r scope path → r ≡ row → IsMade image part scope path
    ref_made (HasRefPath.in_module {row = t} {m = m} {id = x} e h) same =
        let i : HasRefId image row x = subst (λ (z : ℕ). HasRefId image z x) same h in
        record { id = x; before = []; is = refl; own = own x i.space i.name; outer = inl (led 0x00 m (at_row same e), refl) }
    ref_made (HasRefPath.in_assembly {row = t} {assembly = a} {k = k} {id = x} e g h) same =
        let i : HasRefId image row x = subst (λ (z : ℕ). HasRefId image z x) same h in
        record { id = x; before = []; is = refl; own = own x i.space i.name; outer = inl (led 0x23 a (at_row same e), refl) }
    ref_made (HasRefPath.in_type {row = t} {outer = o} {scope = c} {id = x} {before = b} {path = p} e h j s) same =
        let i : HasRefId image row x = subst (λ (z : ℕ). HasRefId image z x) same j in
        let at : part.outer ≡ ref_node image o = led 0x01 o (at_row same e) in
        let o_there = scope_there 0x01 o (at_row same e) in
        record {
          id = x;
          before = b;
          is = s;
          own = own x i.space i.name;
          outer = inr (
            subst (IsNode image) (sym at) (ref_is_node o o_there),
            subst (λ (z : ℕ). NodeNames image z c b) (sym at) (NodeNames.reference o_there refl h),
          );
        }

    led_within : (table r : ℕ) → HasRow image table r → led_to image table r ≤ named_count image
    led_within table r h = elim (cases_eq table 0x01) [
      | inl is ↦
          let at : led_to image table r ≡ ref_node image r = ap (λ b. if b then ref_node image r else 0) (eq-eqb table 0x01 is) in
          let low = (subst (λ (z : ℕ). HasRow image z r) is h).1 in
          omega (arith, at, low)
      | inr other ↦
          let at : led_to image table r ≡ 0 = ap (λ b. if b then ref_node image r else 0) (ne_eqb table 0x01 other) in
          omega (arith, at)
    ]

    ref_within : part.outer ≤ named_count image
    ref_within =
        let s = scopes_there image indexes row there in
        let w = led_within s.0 s.1 s.3 in
        omega (arith, led s.0 s.1 s.2, w)

    pub ref_part : IsPart image (ref_node image row) part
    ref_part = record {
      within = ref_within;
      made = λ scope path names. ref_made (reference_names names row there.0 refl) refl;
    }
