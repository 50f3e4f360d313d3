use Rattle.std.proofs.Common.{◌≡◌, sym, subst, ◌+◌, ◌<◌, ◌≤◌, ◌^◌, List, length}
use Rattle.std.specs.Prelude.{sum_by}
use Rattle.std.specs.List.{AllByRecursion}
use Rattle.assembly_tree.specs.declared.assembly.ExternAssembly.{ExternAssembly}
use Rattle.metadata_tables.specs.Encoding.{rows_in}
use Rattle.image_tokens.specs.References.{size}
use Rattle.image_members.specs.ManifestRows.{IsExternRow, extern_bytes, IsPlainExtern}
use Rattle.image_members.specs.Pushing.{Pushes}
use Rattle.image_tables.proofs.ManifestPart.{no_modules, module_room, no_assemblies, assembly_room, few_externs, extern_room, manifest_filled}
use Rattle.image_tables.proofs.manifest_part.push_manifest.Goals as goal

pub push_module-requires-clause-few : goal.push_module-requires-clause-few
push_module-requires-clause-few c = no_modules c.args.a.now c.args.refs.now c.args.refs.now c.args.rows.now c.args.rows.now c.requires.lacks c.requires.room

pub push_module-requires-clause-room : goal.push_module-requires-clause-room
push_module-requires-clause-room c = module_room c.args.a.now c.args.refs.now c.args.refs.now c.args.rows.now c.args.rows.now c.requires.lacks c.requires.room

pub push_assembly-requires-clause-known : goal.push_assembly-requires-clause-known
push_assembly-requires-clause-known c = c.in_ok-push_module.ensures.known

pub push_assembly-requires-clause-few : goal.push_assembly-requires-clause-few
push_assembly-requires-clause-few c =
    no_assemblies c.args.a.now c.args.refs.now c.push_module.new.refs c.args.rows.now c.push_module.new.rows c.requires.lacks c.requires.room c.in_ok-push_module.ensures

pub push_assembly-requires-clause-room : goal.push_assembly-requires-clause-room
push_assembly-requires-clause-room c =
    assembly_room c.args.a.now c.args.refs.now c.push_module.new.refs c.args.rows.now c.push_module.new.rows c.requires.lacks c.requires.room c.in_ok-push_module.ensures

pub push_externs-requires-clause-known : goal.push_externs-requires-clause-known
push_externs-requires-clause-known c = c.in_ok-push_assembly.ensures.known

pub push_externs-requires-clause-plain : goal.push_externs-requires-clause-plain
push_externs-requires-clause-plain c = subst (λ (xs : List ExternAssembly). AllByRecursion IsPlainExtern xs) (sym c.as_slice.ensures) c.requires.externs

pub push_externs-requires-clause-few : goal.push_externs-requires-clause-few
push_externs-requires-clause-few c =
    subst (λ (xs : List ExternAssembly). rows_in c.push_assembly.new.rows 0x23 + length xs < 2 ^ 24) (sym c.as_slice.ensures)
    (few_externs c.args.a.now c.args.refs.now c.push_module.new.refs c.args.rows.now c.push_module.new.rows c.requires.lacks c.requires.room c.in_ok-push_module.ensures
    c.push_assembly.new.refs c.push_assembly.new.rows c.in_ok-push_assembly.ensures c.requires.few)

pub push_externs-requires-clause-room : goal.push_externs-requires-clause-room
push_externs-requires-clause-room c =
    subst (λ (xs : List ExternAssembly). size c.push_assembly.new.refs + sum_by extern_bytes xs ≤ 2 ^ 26) (sym c.as_slice.ensures)
    (extern_room c.args.a.now c.args.refs.now c.push_module.new.refs c.args.rows.now c.push_module.new.rows c.requires.lacks c.requires.room c.in_ok-push_module.ensures
    c.push_assembly.new.refs c.push_assembly.new.rows c.in_ok-push_assembly.ensures)

pub returns : goal.returns
returns c =
    let externs : Pushes 0x23 IsExternRow extern_bytes c.args.a.now.externs c.push_assembly.new.refs c.push_externs.new.refs c.push_assembly.new.rows c.push_externs.new.rows =
    subst (λ (xs : List ExternAssembly). Pushes 0x23 IsExternRow extern_bytes xs c.push_assembly.new.refs c.push_externs.new.refs c.push_assembly.new.rows c.push_externs.new.rows) c.as_slice.ensures
    c.in_ok-push_externs.ensures in
    manifest_filled c.args.a.now c.args.refs.now c.push_module.new.refs c.args.rows.now c.push_module.new.rows c.requires.lacks c.requires.room c.in_ok-push_module.ensures
    c.push_assembly.new.refs c.push_assembly.new.rows c.in_ok-push_assembly.ensures c.push_externs.new.refs c.push_externs.new.rows externs
