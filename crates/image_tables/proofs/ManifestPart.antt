-- The rows of Module, Assembly and AssemblyRef.
use Rattle.std.proofs.Common.{◌≡◌, ap, refl, sym, ◌∙◌, subst, ℕ, ◌+◌, ◌-◌, ◌<◌, ◌≤◌, ◌^◌, List, [], ◌∷◌, length, arith}
use Rattle.std.specs.Prelude.{sum_by}
use Rattle.std.proofs.lemmas.List.Sums.{sum_by-cons}
use Rattle.assembly_tree.specs.declared.assembly.Assembly.{Assembly}
use Rattle.metadata_tables.specs.Encoding.{rows_of, rows_in}
use Rattle.image_tokens.specs.References.{size, Grows, AreKnown}
use Rattle.image_tokens.specs.declared.references.References.{References}
use Rattle.image_tokens.proofs.GrowthLemmas.{grows_trans}
use Rattle.image_rows.specs.Filled.{HoldsManifest}
use Rattle.image_members.specs.ManifestRows.{IsModuleRow, IsAssemblyRow, IsExternRow, module_bytes, assembly_bytes, extern_bytes}
use Rattle.image_members.specs.Pushing.{Tables, Pushes}
use Rattle.image_members.proofs.ManifestLemmas.{module_kept, assembly_kept, extern_kept}
use Rattle.image_tables.specs.Filling.{Fills}
use Rattle.image_tables.specs.Parts.{LacksFrom, KeepsOtherParts}
use Rattle.image_tables.proofs.PartLemmas.{none_at, still_none, adds_part, others_trans, held, held_later}
use Rattle.laws_tree_weights.specs.ImageBytes.{manifest_bytes}

pub manifest_bytes_are : (a : Assembly) → manifest_bytes a ≡ module_bytes a.manifest + assembly_bytes a.manifest + sum_by extern_bytes a.externs
unfolding manifest_bytes
manifest_bytes_are a = refl

module _ (a : Assembly) (r0 r1 : References) (t0 t1 : Tables) (lacks : LacksFrom 0 t0) (room : size r0 + manifest_bytes a ≤ 2 ^ 26) where
  pub no_modules : rows_in t0 0x00 < 2 ^ 24 - 1
  no_modules = let none = ap (length {A = List ℕ}) (none_at 0 0x00 0 t0 lacks refl (omega arith)) in omega arith

  pub module_room : size r0 + module_bytes a.manifest ≤ 2 ^ 26
  module_room = let bytes = manifest_bytes_are a in omega arith

  module _ (one : Pushes 0x00 IsModuleRow module_bytes (a.manifest ∷ []) r0 r1 t0 t1) where
    no_assembly : rows_of t1 0x20 ≡ []
    no_assembly = still_none 0x00 0x20 one.rows t0 t1 one.adds (λ e. absurd (omega arith)) (none_at 0 0x20 0 t0 lacks refl (omega arith))

    no_externs : rows_of t1 0x23 ≡ []
    no_externs = still_none 0x00 0x23 one.rows t0 t1 one.adds (λ e. absurd (omega arith)) (none_at 0 0x23 0 t0 lacks refl (omega arith))

    pub no_assemblies : rows_in t1 0x20 < 2 ^ 24 - 1
    no_assemblies = let none = ap (length {A = List ℕ}) no_assembly in omega arith

    pub assembly_room : size r1 + assembly_bytes a.manifest ≤ 2 ^ 26
    assembly_room =
        let bytes = manifest_bytes_are a in
        let first = one.room in
        let alone = sum_by-cons module_bytes a.manifest [] in
        omega arith

    module _ (r2 : References) (t2 : Tables) (two : Pushes 0x20 IsAssemblyRow assembly_bytes (a.manifest ∷ []) r1 r2 t1 t2) where
      still_no_externs : rows_of t2 0x23 ≡ []
      still_no_externs = still_none 0x20 0x23 two.rows t1 t2 two.adds (λ e. absurd (omega arith)) no_externs

      pub few_externs : length a.externs < 2 ^ 23 → rows_in t2 0x23 + length a.externs < 2 ^ 24
      few_externs few = let none = ap (length {A = List ℕ}) still_no_externs in omega arith

      pub extern_room : size r2 + sum_by extern_bytes a.externs ≤ 2 ^ 26
      extern_room =
          let bytes = manifest_bytes_are a in
          let first = one.room in
          let second = two.room in
          let alone = sum_by-cons module_bytes a.manifest [] in
          let also = sum_by-cons assembly_bytes a.manifest [] in
          omega arith

      pub manifest_filled : (r3 : References) (t3 : Tables) → Pushes 0x23 IsExternRow extern_bytes a.externs r2 r3 t2 t3
          → Fills 0 (manifest_bytes a) (HoldsManifest a) r0 r3 t0 t3
      manifest_filled r3 t3 three = record {
        grows = grows_trans r0 r1 r3 one.grows (grows_trans r1 r2 r3 two.grows three.grows);
        known = three.known;
        room = (let bytes = manifest_bytes_are a in
            let first = one.room in
            let second = two.room in
            let third = three.room in
            let alone = sum_by-cons module_bytes a.manifest [] in
            let also = sum_by-cons assembly_bytes a.manifest [] in
            omega arith);
        holds = record {
          module_row = held_later 0x00 IsModuleRow module_kept (a.manifest ∷ []) r1 r3 t1 t3 (grows_trans r1 r2 r3 two.grows three.grows)
              (three.adds.others 0x00 (λ e. absurd (omega arith)) ∙ two.adds.others 0x00 (λ e. absurd (omega arith)))
              (held 0x00 IsModuleRow module_kept module_bytes (a.manifest ∷ []) r0 r1 t0 t1 (none_at 0 0x00 0 t0 lacks refl (omega arith)) one);
          assembly_row = held_later 0x20 IsAssemblyRow assembly_kept (a.manifest ∷ []) r2 r3 t2 t3 three.grows (three.adds.others 0x20 (λ e. absurd (omega arith)))
              (held 0x20 IsAssemblyRow assembly_kept assembly_bytes (a.manifest ∷ []) r1 r2 t1 t2 no_assembly two);
          externs = held 0x23 IsExternRow extern_kept extern_bytes a.externs r2 r3 t2 t3 still_no_externs three;
        };
        others = others_trans 0 t0 t1 t3 (adds_part 0 0x00 one.rows t0 t1 refl one.adds)
            (others_trans 0 t1 t2 t3 (adds_part 0 0x20 two.rows t1 t2 refl two.adds) (adds_part 0 0x23 three.rows t2 t3 refl three.adds));
      }
