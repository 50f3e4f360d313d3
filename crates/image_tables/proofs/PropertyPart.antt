-- The rows of properties, events and their accessors.
use Rattle.std.proofs.Common.{◌≡◌, ap, refl, sym, ◌∙◌, subst, ℕ, ◌+◌, ◌-◌, ◌<◌, ◌≤◌, ◌^◌, List, [], ◌∷◌, ◌++◌, length, map, arith}
use Rattle.std.specs.Borrow.{Bor}
use Rattle.std.specs.Prelude.{sum_by}
use Rattle.assembly_tree.specs.declared.assembly.Assembly.{Assembly}
use Rattle.assembly_tree.specs.declared.members.Event.{Event}
use Rattle.assembly_tree.specs.declared.members.Property.{Property}
use Rattle.metadata_tables.specs.Encoding.{rows_of, rows_in}
use Rattle.image_tokens.specs.References.{size, Grows, AreKnown}
use Rattle.image_tokens.specs.declared.references.References.{References}
use Rattle.image_tokens.proofs.GrowthLemmas.{grows_refl, grows_trans}
use Rattle.image_rows.specs.EventRows.{event_bytes, IsEventRow, CanPushEvent}
use Rattle.image_rows.specs.Filled.{HoldsItems, HoldsProperties}
use Rattle.image_members.specs.Lists.{accessor_items, properties_in, events_in}
use Rattle.image_members.specs.Places.{lent}
use Rattle.image_rows.specs.PropertyRows.{property_bytes, IsPropertyRow, CanPushProperty}
use Rattle.image_members.specs.Pushing.{Tables, AddsRows, Pushes, CanPush}
use Rattle.image_rows.specs.SemanticsRows.{semantics_row, CanAddAccessors}
use Rattle.image_members.specs.declared.classes.Class.{Class}
use Rattle.image_rows.proofs.EventLemmas.{event_kept}
use Rattle.image_rows.proofs.PropertyLemmas.{property_kept}
use Rattle.image_tables.specs.Filling.{property_part, IsReady, Fills}
use Rattle.image_tables.proofs.PartLemmas.{none_at, still_none, adds_part, others_trans, all_rows, held, held_later, can_push}

pub property_part_is : (classes : List Class) → property_part classes ≡ sum_by property_bytes (properties_in classes) + sum_by event_bytes (events_in classes)
unfolding property_part
property_part_is classes = refl

module _ (a : Assembly) (classes : List Class) (r0 : References) (t0 : Tables) (ready : IsReady 4 (property_part classes) a classes r0 t0) where
  pub properties_can : (ps : List Property) → ps ≡ properties_in classes → CanPush 0x17 CanPushProperty property_bytes ps r0 t0
  properties_can ps same = subst (λ (xs : List Property). CanPush 0x17 CanPushProperty property_bytes xs r0 t0) (sym same)
      (can_push 0x17 CanPushProperty property_bytes (properties_in classes) r0 t0 ready.known (ready.can r0 (grows_refl r0)).properties
      (none_at 4 0x17 4 t0 ready.lacks refl (omega arith)) ready.few.properties
      (let bytes = property_part_is classes in let room = ready.room in omega arith))

  module _ (r1 : References) (t1 : Tables) (one : Pushes 0x17 IsPropertyRow property_bytes (properties_in classes) r0 r1 t0 t1) where
    no_events : rows_of t1 0x14 ≡ []
    no_events = still_none 0x17 0x14 one.rows t0 t1 one.adds (λ e. absurd (omega arith)) (none_at 4 0x14 4 t0 ready.lacks refl (omega arith))

    pub events_can : (es : List Event) → es ≡ events_in classes → CanPush 0x14 CanPushEvent event_bytes es r1 t1
    events_can es same = subst (λ (xs : List Event). CanPush 0x14 CanPushEvent event_bytes xs r1 t1) (sym same)
        (can_push 0x14 CanPushEvent event_bytes (events_in classes) r1 t1 one.known (ready.can r1 one.grows).events no_events ready.few.events
        (let bytes = property_part_is classes in let room = ready.room in let first = one.room in omega arith))

    module _ (r2 : References) (t2 : Tables) (two : Pushes 0x14 IsEventRow event_bytes (events_in classes) r1 r2 t1 t2) where
      no_accessors : rows_of t2 0x18 ≡ []
      no_accessors =
          still_none 0x14 0x18 two.rows t1 t2 two.adds (λ e. absurd (omega arith))
          (still_none 0x17 0x18 one.rows t0 t1 one.adds (λ e. absurd (omega arith)) (none_at 4 0x18 4 t0 ready.lacks refl (omega arith)))

      pub accessors_can : CanAddAccessors (accessor_items a classes) t2
      accessors_can = record {
        methods = (ready.can r0 (grows_refl r0)).accessors;
        few = (let none = ap (length {A = List ℕ}) no_accessors in let few = ready.few.accessors in omega arith);
      }

      pub properties_filled : (t3 : Tables) → AddsRows 0x18 (map semantics_row (accessor_items a classes)) t2 t3
          → Fills 4 (property_part classes) (HoldsProperties a classes) r0 r2 t0 t3
      properties_filled t3 three = record {
        grows = grows_trans r0 r1 r2 one.grows two.grows;
        known = two.known;
        room = (let bytes = property_part_is classes in let first = one.room in let second = two.room in omega arith);
        holds = record {
          properties = held_later 0x17 IsPropertyRow property_kept (properties_in classes) r1 r2 t1 t3 two.grows
              (three.others 0x17 (λ e. absurd (omega arith)) ∙ two.adds.others 0x17 (λ e. absurd (omega arith)))
              (held 0x17 IsPropertyRow property_kept property_bytes (properties_in classes) r0 r1 t0 t1 (none_at 4 0x17 4 t0 ready.lacks refl (omega arith)) one);
          events = held_later 0x14 IsEventRow event_kept (events_in classes) r2 r2 t2 t3 (grows_refl r2) (three.others 0x14 (λ e. absurd (omega arith)))
              (held 0x14 IsEventRow event_kept event_bytes (events_in classes) r1 r2 t1 t2 no_events two);
          accessors = all_rows 0x18 (map semantics_row (accessor_items a classes)) t2 t3 no_accessors three;
        };
        others = others_trans 4 t0 t1 t3 (adds_part 4 0x17 one.rows t0 t1 refl one.adds)
            (others_trans 4 t1 t2 t3 (adds_part 4 0x14 two.rows t1 t2 refl two.adds) (adds_part 4 0x18 (map semantics_row (accessor_items a classes)) t2 t3 refl three));
      }
