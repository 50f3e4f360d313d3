-- The rows of what other rows own.
use Rattle.std.proofs.Common.{◌≡◌, ap, refl, sym, ◌∙◌, subst, ℕ, ◌+◌, ◌-◌, ◌<◌, ◌≤◌, ◌^◌, List, [], ◌∷◌, ◌++◌, length, map, arith}
use Rattle.std.specs.Borrow.{Bor}
use Rattle.std.specs.Prelude.{sum_by}
use Rattle.std.specs.List.{AllByRecursion}
use Rattle.std.proofs.lemmas.List.{length-map}
use Rattle.assembly_tree.specs.declared.assembly.Assembly.{Assembly}
use Rattle.assembly_tree.specs.declared.members.Attribute.{Attribute}
use Rattle.assembly_tree.specs.declared.members.Constant.{Constant}
use Rattle.assembly_tree.specs.declared.members.Generic.{Generic}
use Rattle.metadata_tables.specs.Encoding.{rows_of, rows_in}
use Rattle.image_tokens.specs.References.{size, Grows, AreKnown}
use Rattle.image_tokens.specs.declared.references.References.{References}
use Rattle.image_tokens.proofs.GrowthLemmas.{grows_refl, grows_trans}
use Rattle.image_rows.specs.AttributeRows.{attribute_bytes, IsAttributeRow, CanPushAttribute}
use Rattle.image_members.specs.ConstantRows.{constant_bytes, IsConstantRow, CanPushConstant}
use Rattle.image_rows.specs.Filled.{HoldsItems, HoldsOwned}
use Rattle.image_members.specs.GenericRows.{generic_of, bounds_from, bound_bytes, IsBoundRow, CanPushBound, generic_bytes, IsGenericRow, CanPushGeneric}
use Rattle.image_members.specs.Lists.{Owned, longest_of, attribute_lists, attribute_items, constant_lists, constant_items, generic_lists, generic_items, generics_in}
use Rattle.image_members.specs.Pushing.{Tables, AddsRows, Pushes, CanPush}
use Rattle.image_members.specs.declared.classes.Class.{Class}
use Rattle.image_rows.proofs.AttributeLemmas.{attribute_kept}
use Rattle.image_rows.proofs.BoundLemmas.{bound_kept}
use Rattle.image_members.proofs.ConstantLemmas.{constant_kept}
use Rattle.image_members.proofs.GenericLemmas.{generic_kept}
use Rattle.image_tables.specs.Filling.{IsReady, Fills}
use Rattle.image_tables.specs.Parts.{part_of, KeepsOtherParts}
use Rattle.image_tables.proofs.PartLemmas.{none_at, still_none, adds_part, others_trans, held, held_later, can_push}
use Rattle.laws_tree_weights.specs.ImageBytes.{owned_bytes}

pub owned_bytes_are : (a : Assembly) (classes : List Class) → owned_bytes a classes
    ≡ sum_by generic_bytes (generic_items a classes) + sum_by bound_bytes (bounds_from 1 (generics_in a classes))
    + sum_by constant_bytes (constant_items a classes) + sum_by attribute_bytes (attribute_items a classes)
unfolding owned_bytes
owned_bytes_are a classes = refl

part_here : (table here : ℕ) → table ≡ here → part_of here ≡ 5 → part_of table ≡ 5
part_here table here e at = ap part_of e ∙ at

module _ (a : Assembly) (classes : List Class) (r0 : References) (t0 : Tables) (ready : IsReady 5 (owned_bytes a classes) a classes r0 t0) where
  pub generics_can : CanPush 0x2A CanPushGeneric generic_bytes (generic_items a classes) r0 t0
  generics_can =
      can_push 0x2A CanPushGeneric generic_bytes (generic_items a classes) r0 t0 ready.known (ready.can r0 (grows_refl r0)).generics
      (none_at 5 0x2A 5 t0 ready.lacks refl (omega arith)) ready.few.generics (let bytes = owned_bytes_are a classes in let room = ready.room in omega arith)

  pub generics_few : length (generics_in a classes) < 2 ^ 24 - 1
  generics_few = let few = ready.few.generics in let long = length-map (generic_items a classes) generic_of in omega arith

  module _ (r1 : References) (t1 : Tables) (one : Pushes 0x2A IsGenericRow generic_bytes (generic_items a classes) r0 r1 t0 t1) where
    no_bounds : rows_of t1 0x2C ≡ []
    no_bounds = still_none 0x2A 0x2C one.rows t0 t1 one.adds (λ e. absurd (omega arith)) (none_at 5 0x2C 5 t0 ready.lacks refl (omega arith))

    pub bounds_can : CanPush 0x2C CanPushBound bound_bytes (bounds_from 1 (generics_in a classes)) r1 t1
    bounds_can =
        can_push 0x2C CanPushBound bound_bytes (bounds_from 1 (generics_in a classes)) r1 t1 one.known (ready.can r1 one.grows).bounds no_bounds ready.few.bounds
        (let bytes = owned_bytes_are a classes in let room = ready.room in let first = one.room in omega arith)

    module _ (r2 : References) (t2 : Tables) (two : Pushes 0x2C IsBoundRow bound_bytes (bounds_from 1 (generics_in a classes)) r1 r2 t1 t2) where
      no_constants : rows_of t2 0x0B ≡ []
      no_constants = two.adds.others 0x0B (λ e. absurd (omega arith)) ∙ one.adds.others 0x0B (λ e. absurd (omega arith)) ∙ none_at 5 0x0B 5 t0 ready.lacks refl (omega arith)

      pub constants_can : CanPush 0x0B CanPushConstant constant_bytes (constant_items a classes) r2 t2
      constants_can =
          can_push 0x0B CanPushConstant constant_bytes (constant_items a classes) r2 t2 two.known (ready.can r2 (grows_trans r0 r1 r2 one.grows two.grows)).constants no_constants ready.few.constants
          (let bytes = owned_bytes_are a classes in let room = ready.room in let first = one.room in let second = two.room in omega arith)

      module _ (r3 : References) (t3 : Tables) (three : Pushes 0x0B IsConstantRow constant_bytes (constant_items a classes) r2 r3 t2 t3) where
        grown : Grows r0 r3
        grown = grows_trans r0 r2 r3 (grows_trans r0 r1 r2 one.grows two.grows) three.grows

        no_attributes : rows_of t3 0x0C ≡ []
        no_attributes =
            three.adds.others 0x0C (λ e. absurd (omega arith)) ∙ two.adds.others 0x0C (λ e. absurd (omega arith)) ∙ one.adds.others 0x0C (λ e. absurd (omega arith))
            ∙ none_at 5 0x0C 5 t0 ready.lacks refl (omega arith)

        pub attributes_can : CanPush 0x0C CanPushAttribute attribute_bytes (attribute_items a classes) r3 t3
        attributes_can =
            can_push 0x0C CanPushAttribute attribute_bytes (attribute_items a classes) r3 t3 three.known (ready.can r3 grown).attributes no_attributes ready.few.attributes
            (let bytes = owned_bytes_are a classes in let room = ready.room in let first = one.room in let second = two.room in let third = three.room in omega arith)

        pub owned_filled : (r4 : References) (t4 : Tables) → Pushes 0x0C IsAttributeRow attribute_bytes (attribute_items a classes) r3 r4 t3 t4
            → Fills 5 (owned_bytes a classes) (HoldsOwned a classes) r0 r4 t0 t4
        owned_filled r4 t4 four = record {
          grows = grows_trans r0 r3 r4 grown four.grows;
          known = four.known;
          room = (let bytes = owned_bytes_are a classes in let first = one.room in let second = two.room in let third = three.room in let last = four.room in omega arith);
          holds = record {
            generics = held_later 0x2A IsGenericRow generic_kept (generic_items a classes) r1 r4 t1 t4 (grows_trans r1 r2 r4 two.grows (grows_trans r2 r3 r4 three.grows four.grows))
                (four.adds.others 0x2A (λ e. absurd (omega arith)) ∙ three.adds.others 0x2A (λ e. absurd (omega arith)) ∙ two.adds.others 0x2A (λ e. absurd (omega arith)))
                (held 0x2A IsGenericRow generic_kept generic_bytes (generic_items a classes) r0 r1 t0 t1 (none_at 5 0x2A 5 t0 ready.lacks refl (omega arith)) one);
            bounds = held_later 0x2C IsBoundRow bound_kept (bounds_from 1 (generics_in a classes)) r2 r4 t2 t4 (grows_trans r2 r3 r4 three.grows four.grows)
                (four.adds.others 0x2C (λ e. absurd (omega arith)) ∙ three.adds.others 0x2C (λ e. absurd (omega arith)))
                (held 0x2C IsBoundRow bound_kept bound_bytes (bounds_from 1 (generics_in a classes)) r1 r2 t1 t2 no_bounds two);
            constants = held_later 0x0B IsConstantRow constant_kept (constant_items a classes) r3 r4 t3 t4 four.grows (four.adds.others 0x0B (λ e. absurd (omega arith)))
                (held 0x0B IsConstantRow constant_kept constant_bytes (constant_items a classes) r2 r3 t2 t3 no_constants three);
            attributes = held 0x0C IsAttributeRow attribute_kept attribute_bytes (attribute_items a classes) r3 r4 t3 t4 no_attributes four;
          };
          others = λ table n.
              four.adds.others table (λ e. n (part_here table 0x0C e refl)) ∙ three.adds.others table (λ e. n (part_here table 0x0B e refl))
              ∙ two.adds.others table (λ e. n (part_here table 0x2C e refl)) ∙ one.adds.others table (λ e. n (part_here table 0x2A e refl));
        }
