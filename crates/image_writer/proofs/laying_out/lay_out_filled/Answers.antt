use Rattle.std.proofs.Common.{subst, ℕ, ◌+◌, ◌*◌, ◌≤◌, List, length}
use Rattle.std.proofs.lemmas.Result.{IfOk-weaker}
use Rattle.assembly_tree.specs.Weight.{weight_of}
use Rattle.image_layout.specs.LaidOut.{IsLaidOut}
use Rattle.image_layout.specs.Sizes.{heap_bytes, stream_bytes}
use Rattle.image_model.specs.Faults.{Reads}
use Rattle.image_model.specs.Tidy.{IsTidy}
use Rattle.image_writer.proofs.FormedLemmas.{manifest_formed, numbers_formed}
use Rattle.image_writer.proofs.LayLemmas.{contents_fit, contents_small}
use Rattle.image_writer.proofs.laying_out.lay_out_filled.Goals as goal

pub lay_out-requires-clause-base : goal.lay_out-requires-clause-base
lay_out-requires-clause-base c = (numbers_formed c.conditions_are_named.ensures.assemblies c.args.a.now c.requires.formed).0

pub lay_out-requires-clause-alignment : goal.lay_out-requires-clause-alignment
lay_out-requires-clause-alignment c = (numbers_formed c.conditions_are_named.ensures.assemblies c.args.a.now c.requires.formed).1

pub lay_out-requires-clause-indexes : goal.lay_out-requires-clause-indexes
lay_out-requires-clause-indexes c =
    let h = c.requires.contents in
    c.indexes_are_there.ensures c.args.a.now c.args._classes.now c.args.refs.now c.args.rows.now c.args.code
    (c.accessors_have_rows.ensures c.args.a.now c.args._classes.now c.requires.formed c.requires.weight h.filled.classes_are) h.externs_are h.filled

pub lay_out-requires-clause-size : goal.lay_out-requires-clause-size
lay_out-requires-clause-size c =
    contents_fit c.args.a.now c.args._classes.now c.args.refs.now c.args.rows.now c.args.code c.requires.contents c.weight_is_enough.ensures c.filled_is_counted.ensures c.requires.weight

pub returns-clause-reads : goal.returns-clause-reads
returns-clause-reads c =
    let h = c.requires.contents in
    let apart = c.references_are_distinct.ensures in
    let tidy = c.references_are_tidy.ensures c.args.a.now c.args._classes.now c.args.refs.now c.args.rows.now c.args.code c.args.entry c.args.id.now c.args.kind in
    IfOk-weaker c.lay_out.result
    (IsLaidOut c.args.a.now.manifest c.args.refs.now c.args.rows.now c.args.code c.args.entry c.args.id.now c.args.kind)
    (λ (image : List ℕ). Reads image c.args.a.now)
    (λ image laid. c.images_are_read.ensures c.args.a.now c.args._classes.now c.args.refs.now c.args.rows.now c.args.code c.args.id.now c.args.kind image
    (record {
      filled = h.filled;
      laid_out = subst (λ (n : ℕ). IsLaidOut c.args.a.now.manifest c.args.refs.now c.args.rows.now c.args.code n c.args.id.now c.args.kind image) c.requires.entry laid;
      formed = c.requires.formed;
      light = c.requires.weight;
      externs = h.externs_are;
      accessors = c.accessors_have_rows.ensures c.args.a.now c.args._classes.now c.requires.formed c.requires.weight h.filled.classes_are;
      readable = (tidy image h.filled laid c.requires.formed c.requires.weight apart.contents apart.rows).readable;
    }) c.requires.ranges)
    c.lay_out.ensures.laid_out

pub returns-clause-tidy : goal.returns-clause-tidy
returns-clause-tidy c =
    let filled = c.requires.contents.filled in
    let apart = c.references_are_distinct.ensures in
    let tidy = c.references_are_tidy.ensures c.args.a.now c.args._classes.now c.args.refs.now c.args.rows.now c.args.code c.args.entry c.args.id.now c.args.kind in
    IfOk-weaker c.lay_out.result
    (IsLaidOut c.args.a.now.manifest c.args.refs.now c.args.rows.now c.args.code c.args.entry c.args.id.now c.args.kind)
    (λ (image : List ℕ). IsTidy image c.args.kind c.args.id.now)
    (λ image laid. c.images_are_tidy.ensures c.args.a.now c.args._classes.now c.args.refs.now c.args.rows.now c.args.code c.args.entry c.args.id.now c.args.kind image filled laid
    (manifest_formed c.conditions_are_named.ensures.assemblies c.args.a.now c.requires.formed)
    (tidy image filled laid c.requires.formed c.requires.weight apart.contents apart.rows))
    c.lay_out.ensures.laid_out

pub returns-clause-small : goal.returns-clause-small
returns-clause-small c =
    IfOk-weaker c.lay_out.result
    (λ (image : List ℕ). length image ≤ length c.args.code + heap_bytes c.args.refs.now + stream_bytes c.args.rows.now + 3 * c.args.a.now.manifest.file_alignment + 317)
    (λ (image : List ℕ). length image ≤ weight_of c.args.a.now)
    (λ image h. contents_small c.args.a.now c.args._classes.now c.args.refs.now c.args.rows.now c.args.code c.requires.contents c.weight_is_enough.ensures c.filled_is_counted.ensures
    (numbers_formed c.conditions_are_named.ensures.assemblies c.args.a.now c.requires.formed).1 image h) c.lay_out.ensures.len
