-- The rows of Event.
use Rattle.std.proofs.Common.{◌≡◌, refl, ℕ, ◌+◌, ◌<◌, ◌≤◌, ◌^◌, List, [], ◌∷◌, length, arith}
use Rattle.metadata_tables.specs.Encoding.{AddsRow, IsRowOf}
use Rattle.metadata_tables.specs.Laws.{RowOfColumns}
use Rattle.metadata_tables.specs.Schema.{schema}
use Rattle.assembly_tree.specs.Weight.{owner_weight}
use Rattle.assembly_tree.specs.declared.members.Event.{Event}
use Rattle.type_terms.specs.declared.term.Owner.{Owner}
use Rattle.image_rows.specs.EventRows.{event_bytes, IsEventRow, CanPushEvent}
use Rattle.image_tokens.specs.Members.{Leaves, IsTextAt}
use Rattle.image_members.specs.Pushing.{Tables, Pushes}
use Rattle.image_tokens.specs.References.{Grows, size}
use Rattle.image_members.specs.TypeIndexes.{IsTypeIndex}
use Rattle.image_tokens.specs.declared.references.References.{References}
use Rattle.image_tokens.proofs.GrowthLemmas.{grows_trans, tokens_kept}
use Rattle.image_members.proofs.KindLemmas.{RowKind, one_pushed}
use Rattle.image_tokens.proofs.PathLemmas.{text_kept}
use Rattle.image_tokens.proofs.WritableLemmas.{still_writable_owner}

pub event_cells : RowOfColumns → (flags name type : ℕ) → flags < 2 ^ 16 → IsRowOf 0x14 (flags ∷ name ∷ type ∷ [])
unfolding schema
event_cells law flags name type f = law 0x14 (flags ∷ name ∷ type ∷ []) (omega arith) (f, (tt, (tt, tt)))

pub type_index_kept : (a b : References) → Grows a b → (o : Owner) (index : ℕ) → IsTypeIndex o a index → IsTypeIndex o b index
type_index_kept a b g o index h = (h.0, tokens_kept a b g o h.0 h.1, h.2)

pub event_kept : (a b : References) → Grows a b → (cells : List ℕ) (e : Event) → IsEventRow a cells e → IsEventRow b cells e
event_kept a b g cells e h = record {
  name = h.name;
  type = h.type;
  are = h.are;
  name_is = text_kept a.heaps.strings b.heaps.strings e.name h.name g.strings h.name_is;
  type_is = type_index_kept a b g e.of h.type h.type_is;
}

pub event_still : (a b : References) → Grows a b → (e : Event) → CanPushEvent a e → CanPushEvent b e
event_still a b g e h = record { name = h.name; of = still_writable_owner a b g e.of h.of }

abbrev pub event_kind : RowKind Event
event_kind = record { table = 0x14; is = IsEventRow; weigh = event_bytes; can = CanPushEvent; kept = event_kept; still = event_still }

pub event_bytes_are : (e : Event) → event_bytes e ≡ length e.name + 1 + owner_weight e.of
unfolding event_bytes
event_bytes_are e = refl

pub event_pushed : (a b c : References) (from to : Tables) (e : Event) (name type : ℕ) → Leaves (IsTextAt e.name) a b (length e.name + 1) name
    → Leaves (IsTypeIndex e.of) b c (owner_weight e.of) type → AddsRow from to 0x14 (e.flags ∷ name ∷ type ∷ []) → Pushes 0x14 IsEventRow event_bytes (e ∷ []) a c from to
event_pushed a b c from to e name type t o row =
    let bytes = event_bytes_are e in
    let first = t.room in
    let then = o.room in
    one_pushed event_kind a c from to (e.flags ∷ name ∷ type ∷ []) e (grows_trans a b c t.grows o.grows) o.known (omega arith) row
    (record { name = name; type = type; are = refl; name_is = text_kept b.heaps.strings c.heaps.strings e.name name o.grows.strings t.is; type_is = o.is })
