-- The rows of Property.
use Rattle.std.proofs.Common.{◌≡◌, refl, ℕ, ◌+◌, ◌<◌, ◌≤◌, ◌^◌, List, [], ◌∷◌, length, arith}
use Rattle.metadata_tables.specs.Encoding.{AddsRow, IsRowOf}
use Rattle.metadata_tables.specs.Laws.{RowOfColumns}
use Rattle.metadata_tables.specs.Schema.{schema}
use Rattle.assembly_tree.specs.Weight.{signature_weight}
use Rattle.assembly_tree.specs.declared.members.Property.{Property}
use Rattle.sig_codec.specs.Signature.{SpellsProperty}
use Rattle.type_terms.specs.declared.reference.MethodSig.{MethodSig}
use Rattle.image_tokens.specs.Members.{Leaves, IsTextAt}
use Rattle.image_tokens.specs.Noted.{IsSigned}
use Rattle.image_rows.specs.PropertyRows.{property_flags, property_bytes, IsPropertyRow, CanPushProperty}
use Rattle.image_members.specs.Pushing.{Tables, Pushes}
use Rattle.image_tokens.specs.References.{Grows, size}
use Rattle.image_tokens.specs.Writable.{IsPropertyWritable}
use Rattle.image_tokens.specs.declared.references.References.{References}
use Rattle.image_tokens.proofs.GrowthLemmas.{grows_trans, signature_kept}
use Rattle.image_members.proofs.KindLemmas.{RowKind, one_pushed}
use Rattle.image_tokens.proofs.PathLemmas.{text_kept}
use Rattle.image_tokens.proofs.WritableLemmas.{still_writable, still_writable_each}

pub property_cells : RowOfColumns → (flags name signature : ℕ) → flags < 2 ^ 16 → IsRowOf 0x17 (flags ∷ name ∷ signature ∷ [])
unfolding schema
property_cells law flags name signature f = law 0x17 (flags ∷ name ∷ signature ∷ []) (omega arith) (f, (tt, (tt, tt)))

pub property_sig_can : (a b : References) → Grows a b → (s : MethodSig) → IsPropertyWritable a s → IsPropertyWritable b s
property_sig_can a b g s h = record {
  no_explicit = h.no_explicit;
  no_vararg = h.no_vararg;
  no_generic = h.no_generic;
  no_sentinel = h.no_sentinel;
  count = h.count;
  ret = still_writable a b g s.ret h.ret;
  params = still_writable_each a b g s.params h.params;
}

pub property_kept : (a b : References) → Grows a b → (cells : List ℕ) (p : Property) → IsPropertyRow a cells p → IsPropertyRow b cells p
property_kept a b g cells p h = record {
  name = h.name;
  signature = h.signature;
  are = h.are;
  name_is = text_kept a.heaps.strings b.heaps.strings p.name h.name g.strings h.name_is;
  signature_is = signature_kept SpellsProperty a b p.sig h.signature g h.signature_is;
}

pub property_still : (a b : References) → Grows a b → (p : Property) → CanPushProperty a p → CanPushProperty b p
property_still a b g p h = record { name = h.name; sig = property_sig_can a b g p.sig h.sig }

abbrev pub property_kind : RowKind Property
property_kind = record { table = 0x17; is = IsPropertyRow; weigh = property_bytes; can = CanPushProperty; kept = property_kept; still = property_still }

pub property_bytes_are : (p : Property) → property_bytes p ≡ length p.name + 1 + (signature_weight p.sig + 8)
unfolding property_bytes
property_bytes_are p = refl

pub property_pushed : (a b c : References) (from to : Tables) (p : Property) (name signature : ℕ) → Leaves (IsTextAt p.name) a b (length p.name + 1) name
    → IsSigned SpellsProperty b c p.sig (signature_weight p.sig + 8) signature → AddsRow from to 0x17 (property_flags p ∷ name ∷ signature ∷ []) → Pushes 0x17 IsPropertyRow property_bytes (p ∷ []) a c from to
property_pushed a b c from to p name signature t s row =
    let bytes = property_bytes_are p in
    let first = t.room in
    let then = s.room in
    one_pushed property_kind a c from to (property_flags p ∷ name ∷ signature ∷ []) p (grows_trans a b c t.grows s.grows) s.known (omega arith) row
    (record { name = name; signature = signature; are = refl; name_is = text_kept b.heaps.strings c.heaps.strings p.name name s.grows.strings t.is; signature_is = s.signature })
