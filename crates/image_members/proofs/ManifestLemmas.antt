-- The rows of the module, of the assembly, and of the assemblies that it names.
use Rattle.std.proofs.Common.{◌≡◌, refl, ℕ, ◌+◌, ◌<◌, ◌≤◌, ◌^◌, List, [], ◌∷◌, length, arith}
use Rattle.metadata_tables.specs.Encoding.{IsRowOf, AddsRow}
use Rattle.metadata_tables.specs.Laws.{RowOfColumns}
use Rattle.metadata_tables.specs.Schema.{schema}
use Rattle.assembly_tree.specs.declared.assembly.ExternAssembly.{ExternAssembly}
use Rattle.assembly_tree.specs.declared.assembly.Manifest.{Manifest}
use Rattle.heaps.specs.Heap.{Heap}
use Rattle.image_tokens.specs.Blobs.{HoldsBlob, KeepsBlobs}
use Rattle.image_members.specs.ManifestRows.{assembly_cells, extern_cells, IsModuleRow, IsAssemblyRow, IsExternRow, module_bytes, assembly_bytes, extern_bytes, IsPlainExtern}
use Rattle.image_tokens.specs.Members.{Leaves, IsTextAt}
use Rattle.image_members.specs.Pushing.{Tables, Pushes}
use Rattle.image_tokens.specs.References.{Grows, Goes, size}
use Rattle.image_tokens.specs.declared.references.References.{References}
use Rattle.image_tokens.proofs.GrowthLemmas.{grows_trans}
use Rattle.image_tokens.proofs.PathLemmas.{text_kept}
use Rattle.image_members.proofs.PushLemmas.{pushes_one}

-- ---- cells that make rows

pub module_row : RowOfColumns → (name : ℕ) → IsRowOf 0x00 (0 ∷ name ∷ 1 ∷ 0 ∷ 0 ∷ [])
unfolding schema
module_row law name = law 0x00 (0 ∷ name ∷ 1 ∷ 0 ∷ 0 ∷ []) (omega arith) (omega arith, (tt, (tt, (tt, (tt, tt)))))

pub assembly_row : RowOfColumns → (hash v0 v1 v2 v3 flags key name culture : ℕ) → hash < 2 ^ 32 → v0 < 2 ^ 16 → v1 < 2 ^ 16 → v2 < 2 ^ 16 → v3 < 2 ^ 16 → flags < 2 ^ 32
    → IsRowOf 0x20 (hash ∷ v0 ∷ v1 ∷ v2 ∷ v3 ∷ flags ∷ key ∷ name ∷ culture ∷ [])
unfolding schema
assembly_row law hash v0 v1 v2 v3 flags key name culture a b c d e f =
    law 0x20 (hash ∷ v0 ∷ v1 ∷ v2 ∷ v3 ∷ flags ∷ key ∷ name ∷ culture ∷ []) (omega arith) (a, (b, (c, (d, (e, (f, (tt, (tt, (tt, tt)))))))))

pub extern_row : RowOfColumns → (v0 v1 v2 v3 flags key name culture hash : ℕ) → v0 < 2 ^ 16 → v1 < 2 ^ 16 → v2 < 2 ^ 16 → v3 < 2 ^ 16 → flags < 2 ^ 32
    → IsRowOf 0x23 (v0 ∷ v1 ∷ v2 ∷ v3 ∷ flags ∷ key ∷ name ∷ culture ∷ hash ∷ [])
unfolding schema
extern_row law v0 v1 v2 v3 flags key name culture hash a b c d e =
    law 0x23 (v0 ∷ v1 ∷ v2 ∷ v3 ∷ flags ∷ key ∷ name ∷ culture ∷ hash ∷ []) (omega arith) (a, (b, (c, (d, (e, (tt, (tt, (tt, (tt, tt)))))))))

-- ---- rows stay what they are

pub blob_kept : (old new : Heap) (blob : List ℕ) (index : ℕ) → KeepsBlobs old new → HoldsBlob old blob index → HoldsBlob new blob index
blob_kept old new blob index k h = record { there = k.blobs index blob h.there; used = k.used index h.used }

pub module_kept : (a b : References) → Grows a b → (cells : List ℕ) (m : Manifest) → IsModuleRow a cells m → IsModuleRow b cells m
module_kept a b g cells m h = record { name = h.name; are = h.are; name_is = text_kept a.heaps.strings b.heaps.strings m.module h.name g.strings h.name_is }

pub assembly_kept : (a b : References) → Grows a b → (cells : List ℕ) (m : Manifest) → IsAssemblyRow a cells m → IsAssemblyRow b cells m
assembly_kept a b g cells m h = record {
  key = h.key;
  name = h.name;
  culture = h.culture;
  are = h.are;
  key_is = blob_kept a.heaps.blobs b.heaps.blobs m.key h.key g.blobs h.key_is;
  name_is = text_kept a.heaps.strings b.heaps.strings m.name h.name g.strings h.name_is;
  culture_is = text_kept a.heaps.strings b.heaps.strings m.culture h.culture g.strings h.culture_is;
}

pub extern_kept : (a b : References) → Grows a b → (cells : List ℕ) (e : ExternAssembly) → IsExternRow a cells e → IsExternRow b cells e
extern_kept a b g cells e h = record {
  key = h.key;
  name = h.name;
  culture = h.culture;
  hash = h.hash;
  are = h.are;
  key_is = blob_kept a.heaps.blobs b.heaps.blobs e.key h.key g.blobs h.key_is;
  name_is = text_kept a.heaps.strings b.heaps.strings e.name h.name g.strings h.name_is;
  culture_is = text_kept a.heaps.strings b.heaps.strings e.culture h.culture g.strings h.culture_is;
  hash_is = blob_kept a.heaps.blobs b.heaps.blobs e.hash h.hash g.blobs h.hash_is;
}

-- ---- bytes

pub module_bytes_are : (m : Manifest) → module_bytes m ≡ length m.module + 1
unfolding module_bytes
module_bytes_are m = refl

pub assembly_bytes_are : (m : Manifest) → assembly_bytes m ≡ (length m.key + 4) + (length m.name + 1) + (length m.culture + 1)
unfolding assembly_bytes
assembly_bytes_are m = refl

pub extern_bytes_are : (e : ExternAssembly) → extern_bytes e ≡ (length e.key + 4) + (length e.name + 1) + (length e.culture + 1) + (length e.hash + 4)
unfolding extern_bytes
extern_bytes_are e = refl

-- a named assembly stays as it is
abbrev pub CanPush : References → ExternAssembly → Type 0
CanPush r e = IsPlainExtern e

pub can_push : (a b : References) → Grows a b → (e : ExternAssembly) → CanPush a e → CanPush b e
can_push a b g e h = h

-- ---- what the steps of a row leave

pub module_pushed : (a b : References) (from to : Tables) (m : Manifest) (name : ℕ) → Leaves (IsTextAt m.module) a b (length m.module + 1) name
    → AddsRow from to 0x00 (0 ∷ name ∷ 1 ∷ 0 ∷ 0 ∷ []) → Pushes 0x00 IsModuleRow module_bytes (m ∷ []) a b from to
module_pushed a b from to m name t row =
    let bytes = module_bytes_are m in
    let first = t.room in
    pushes_one 0x00 IsModuleRow module_bytes module_kept a b from to (0 ∷ name ∷ 1 ∷ 0 ∷ 0 ∷ []) m t.grows t.known (omega arith) row (record { name = name; are = refl; name_is = t.is })

pub assembly_pushed : (a b c d : References) (from to : Tables) (m : Manifest) (key name culture : ℕ) → Goes a b (length m.key + 4) → HoldsBlob b.heaps.blobs m.key key
    → Leaves (IsTextAt m.name) b c (length m.name + 1) name → Leaves (IsTextAt m.culture) c d (length m.culture + 1) culture
    → AddsRow from to 0x20 (assembly_cells m.hash m.version m.flags key name culture)
    → Pushes 0x20 IsAssemblyRow assembly_bytes (m ∷ []) a d from to
assembly_pushed a b c d from to m key name culture k key_is n u row =
    let bytes = assembly_bytes_are m in
    let one = k.size in
    let two = n.room in
    let three = u.room in
    let then = grows_trans b c d n.grows u.grows in
    pushes_one 0x20 IsAssemblyRow assembly_bytes assembly_kept a d from to
    (assembly_cells m.hash m.version m.flags key name culture) m
    (grows_trans a b d k.grows then) u.known (omega arith) row (record {
      key = key;
      name = name;
      culture = culture;
      are = refl;
      key_is = blob_kept b.heaps.blobs d.heaps.blobs m.key key then.blobs key_is;
      name_is = text_kept c.heaps.strings d.heaps.strings m.name name u.grows.strings n.is;
      culture_is = u.is;
    })

pub extern_pushed : (a b c d e : References) (from to : Tables) (x : ExternAssembly) (key name culture hash : ℕ) → Goes a b (length x.key + 4) → HoldsBlob b.heaps.blobs x.key key
    → Leaves (IsTextAt x.name) b c (length x.name + 1) name → Leaves (IsTextAt x.culture) c d (length x.culture + 1) culture
    → Goes d e (length x.hash + 4) → HoldsBlob e.heaps.blobs x.hash hash
    → AddsRow from to 0x23 (extern_cells x.version x.flags key name culture hash)
    → Pushes 0x23 IsExternRow extern_bytes (x ∷ []) a e from to
extern_pushed a b c d e from to x key name culture hash k key_is n u h hash_is row =
    let bytes = extern_bytes_are x in
    let one = k.size in
    let two = n.room in
    let three = u.room in
    let four = h.size in
    let last = grows_trans c d e u.grows h.grows in
    let then = grows_trans b c e n.grows last in
    pushes_one 0x23 IsExternRow extern_bytes extern_kept a e from to
    (extern_cells x.version x.flags key name culture hash) x
    (grows_trans a b e k.grows then) h.known (omega arith) row (record {
      key = key;
      name = name;
      culture = culture;
      hash = hash;
      are = refl;
      key_is = blob_kept b.heaps.blobs e.heaps.blobs x.key key then.blobs key_is;
      name_is = text_kept c.heaps.strings e.heaps.strings x.name name last.strings n.is;
      culture_is = text_kept d.heaps.strings e.heaps.strings x.culture culture h.grows.strings u.is;
      hash_is = hash_is;
    })
