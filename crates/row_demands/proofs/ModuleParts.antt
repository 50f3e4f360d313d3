-- What is asked of `<Module>`, in parts.
use Rattle.std.proofs.Common.{◌≡◌, ℕ, zero, suc, ◌+◌, ◌-◌, ◌<◌, ◌≤◌, List, [], ◌∷◌, length, true, false, Bool, cond, arith, refl, sym, ◌∙◌, ap, subst, inl, inr, ◌⊎◌}
use Rattle.std.specs.Prelude.{◌↔◌, ◌==◌, filter}
use Rattle.std.specs.List.{range_with_len}
use Rattle.std.proofs.lemmas.Bool.{ne_eqb, eqb-false, cases_lt}
use Rattle.std.proofs.lemmas.List.FromFn.{length-range_with_len}
use Rattle.metadata_tables.specs.declared.coded.Coded.TheVariants.{HasCustomAttribute, TypeOrMethodDef}
use Rattle.metadata_tables.specs.CodedIndex.{tag_of}
use Rattle.image_model.specs.Rows.{count_of, HasRow, rows_of, rows_with, index_of, events_in, properties_in}
use Rattle.image_model.specs.Columns.{interface_class, attribute_parent, event_map_parent, property_map_parent, nested_class, enclosing_class, generic_owner}
use Rattle.image_model.specs.Structure.{IsModuleType, HasNoneInModule}
use Rattle.row_demands.specs.Members.{HasNone, HasEmptyRuns, IsModuleNamed, OwnsNothing, start_of, end_of}

-- ---- no row holds a value

not_cons : (x : ℕ) (xs : List ℕ) → x ∷ xs ≡ [] → ⊥
not_cons x xs e = let l : length (x ∷ xs) ≡ 0 = ap length e in absurd (omega arith)

chosen_none : (b : Bool) (x : ℕ) (xs : List ℕ) → cond b (x ∷ xs) xs ≡ [] → (b ≡ false) × (xs ≡ [])
chosen_none true x xs e = absurd (not_cons x xs e)
chosen_none false x xs e = (refl, e)

same_or_not : (k a : ℕ) → (k ≡ a) ⊎ (k ≡ a → ⊥)
same_or_not k a = elim (cases_lt k a) [ inl less ↦ inr (λ e. absurd (omega arith)) | inr le ↦ elim (cases_lt a k) [ inl more ↦ inr (λ e. absurd (omega arith)) | inr ge ↦ inl (omega arith) ] ]

kept_none : (p : ℕ → Bool) (a n : ℕ) → filter p (range_with_len a n) ≡ [] → (k : ℕ) → a ≤ k → k < a + n → p k ≡ false
kept_none p a zero e k from less = absurd (omega arith)
kept_none p a (suc n) e k from less =
    let c = chosen_none (p a) a (filter p (range_with_len (a + 1) n)) e in
    elim (same_or_not k a) [ inl same ↦ subst (λ j. p j ≡ false) (sym same) c.0 | inr other ↦ kept_none p (a + 1) n c.1 k (omega arith) (omega arith) ]

none_kept : (p : ℕ → Bool) (a n : ℕ) → ((k : ℕ) → a ≤ k → k < a + n → p k ≡ false) → filter p (range_with_len a n) ≡ []
none_kept p a zero h = refl
none_kept p a (suc n) h =
    ap (λ b. cond b (a ∷ filter p (range_with_len (a + 1) n)) (filter p (range_with_len (a + 1) n))) (h a (omega arith) (omega arith))
    ∙ none_kept p (a + 1) n (λ k from less. h k (omega arith) (omega arith))

rows_are : (image : List ℕ) (table : ℕ) → rows_of image table ≡ range_with_len 1 (count_of image table)
unfolding rows_of
rows_are image table = refl

with_are : (image : List ℕ) (table : ℕ) (column : List ℕ → ℕ → ℕ) (value : ℕ)
    → rows_with image table column value ≡ filter (λ row. column image row == value) (rows_of image table)
unfolding rows_with
with_are image table column value = refl

none_with : (image : List ℕ) (table : ℕ) (column : List ℕ → ℕ → ℕ) (value : ℕ)
    → (rows_with image table column value ≡ []) ↔ ((row : ℕ) → HasRow image table row → column image row ≡ value → ⊥)
none_with image table column value =
    let p : ℕ → Bool = λ row. column image row == value in
    let same : rows_with image table column value ≡ filter p (range_with_len 1 (count_of image table)) = with_are image table column value ∙ ap (filter p) (rows_are image table) in (
      λ none row there. eqb-false (column image row) value (kept_none p 1 (count_of image table) (sym same ∙ none) row (let h = there in omega arith) (let h = there in omega arith)),
      λ none. same ∙ none_kept p 1 (count_of image table) (λ row from less. ne_eqb (column image row) value (none row (omega arith, omega arith))),
    )

-- ---- empty runs

empty_range : (a n : ℕ) → (range_with_len a n ≡ []) ↔ (n ≡ 0)
empty_range a n = (λ e. sym (length-range_with_len a n) ∙ ap length e, λ z. ap (range_with_len a) z)

empty_run : (a b : ℕ) → (range_with_len a (b - a) ≡ []) ↔ (b ≤ a)
empty_run a b = let e = empty_range a (b - a) in (λ none. let z = e.0 none in omega arith, λ less. e.1 (omega arith))

no_properties : (image : List ℕ) → HasNoneInModule image 0x15 property_map_parent properties_in ↔ HasEmptyRuns image 0x15 0x17
no_properties image = (
  λ h row there one. (empty_run (start_of image 0x15 0x17 row) (end_of image 0x15 0x17 row)).0 (h row there one),
  λ h row there one. (empty_run (start_of image 0x15 0x17 row) (end_of image 0x15 0x17 row)).1 (h row there one),
)

no_events : (image : List ℕ) → HasNoneInModule image 0x12 event_map_parent events_in ↔ HasEmptyRuns image 0x12 0x14
no_events image = (
  λ h row there one. (empty_run (start_of image 0x12 0x14 row) (end_of image 0x12 0x14 row)).0 (h row there one),
  λ h row there one. (empty_run (start_of image 0x12 0x14 row) (end_of image 0x12 0x14 row)).1 (h row there one),
)

-- ---- the parts

attributes_of_module : index_of HasCustomAttribute 0x02 1 ≡ 0x23
unfolding tag_of
attributes_of_module = refl

generics_of_module : index_of TypeOrMethodDef 0x02 1 ≡ 0x02
unfolding tag_of
generics_of_module = refl

pub module_named : (image : List ℕ) → IsModuleType image → IsModuleNamed image
module_named image m = record { name = m.name; space = m.space; no_base = m.no_base }

pub module_maps : (image : List ℕ) → IsModuleType image → HasEmptyRuns image 0x15 0x17 × HasEmptyRuns image 0x12 0x14
module_maps image m = ((no_properties image).0 m.no_properties, (no_events image).0 m.no_events)

pub module_owns : (image : List ℕ) → IsModuleType image → OwnsNothing image
module_owns image m =
    record {
      interfaces = (none_with image 0x09 interface_class 1).0 m.no_interfaces;
      attributes = (none_with image 0x0C attribute_parent 0x23).0 (subst (λ i. rows_with image 0x0C attribute_parent i ≡ []) attributes_of_module m.no_attributes);
      generics = (none_with image 0x2A generic_owner 0x02).0 (subst (λ i. rows_with image 0x2A generic_owner i ≡ []) generics_of_module m.no_generics);
    }

pub module_nests : (image : List ℕ) → IsModuleType image → HasNone image 0x29 0 1 × HasNone image 0x29 1 1
module_nests image m = ((none_with image 0x29 nested_class 1).0 m.not_nested, (none_with image 0x29 enclosing_class 1).0 m.not_enclosing)

pub module_of_parts : (image : List ℕ) → IsModuleNamed image → HasEmptyRuns image 0x15 0x17 × HasEmptyRuns image 0x12 0x14 → OwnsNothing image
    → HasNone image 0x29 0 1 × HasNone image 0x29 1 1 → IsModuleType image
module_of_parts image named maps owns nests =
    record {
      name = named.name;
      space = named.space;
      no_base = named.no_base;
      no_properties = (no_properties image).1 maps.0;
      no_events = (no_events image).1 maps.1;
      no_interfaces = (none_with image 0x09 interface_class 1).1 owns.interfaces;
      no_attributes = subst (λ i. rows_with image 0x0C attribute_parent i ≡ []) (sym attributes_of_module) ((none_with image 0x0C attribute_parent 0x23).1 owns.attributes);
      no_generics = subst (λ i. rows_with image 0x2A generic_owner i ≡ []) (sym generics_of_module) ((none_with image 0x2A generic_owner 0x02).1 owns.generics);
      not_nested = (none_with image 0x29 nested_class 1).1 nests.0;
      not_enclosing = (none_with image 0x29 enclosing_class 1).1 nests.1;
    }
