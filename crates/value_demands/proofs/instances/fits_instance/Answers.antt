use Rattle.std.proofs.Common.{◌≡◌, ℕ, List, Option, ◌∙◌, ap}
use Rattle.std.specs.Prelude.{nat_eq}
use Rattle.heaps.specs.LookUp.{blob_in}
use Rattle.image_model.specs.Streams.{blobs_of}
use Rattle.sig_codec.specs.Reading.{◌>>=◌}
use Rattle.signature_facts.specs.Scanning.{whole_method, whole_instantiation}
use Rattle.value_demands.specs.Valued.{counts_of, count_of_list}
use Rattle.value_demands.specs.declared.counts.Counts.{Counts}
use Rattle.value_demands.proofs.Fitting.{fits_told, counted_equal}
use Rattle.value_demands.proofs.instances.fits_instance.Goals as goal

pub returns : goal.returns
returns g c =
    let facts = g.O.Owners.facts c.args.facts.now in
    let heap = blobs_of c.args.image.now in
    let many = c.arguments_at.ensures ∙ ap (λ (i : ℕ). count_of_list (blob_in heap i >>= whole_instantiation facts)) c.arguments_of.ensures in
    let generic = ap (λ (n : Counts). n.generic) c.counts_at-counts.ensures ∙ ap (λ (i : ℕ). (counts_of (blob_in heap i >>= whole_method facts)).generic) c.signature_of.ensures in
    fits_told c.args.image.now facts c.requires.can c.args.row c.method_of-table.result.0 c.method_of-table.result.1 (nat_eq c.arguments_at.result c.counts_at-counts.result.generic) c.requires.there c.method_of-table.ensures.names c.requires.used
    (counted_equal c.arguments_at.result c.counts_at-counts.result.generic _ _ many generic)
