use Rattle.std.proofs.Common.{◌≡◌, ℕ, sym, subst, ◌∙◌, ap}
use Rattle.heaps.specs.LookUp.{blob_in}
use Rattle.image_model.specs.Streams.{blobs_of}
use Rattle.sig_codec.specs.Reading.{◌>>=◌}
use Rattle.signature_facts.specs.Scanning.{whole_method}
use Rattle.value_demands.specs.Valued.{counts_of}
use Rattle.value_demands.specs.declared.counts.Counts.{Counts}
use Rattle.value_demands.proofs.Fitting.{signature_fits, not_generic, with_params}
use Rattle.value_demands.proofs.methods.fits_signature.Goals as goal

pub generics-requires-clause-meets : goal.generics-requires-clause-meets
generics-requires-clause-meets g c = c.requires.can.meets

pub params_fit-requires-clause-meets : goal.params_fit-requires-clause-meets
params_fit-requires-clause-meets g c = c.requires.can.meets

pub returns-then-generics-from : goal.returns-then-generics-from
returns-then-generics-from g c =
    let facts = g.O.Owners.facts c.args.facts.now in
    let heap = blobs_of c.args.image.now in
    let e = c.counts_at-counts.ensures ∙ ap (λ (i : ℕ). counts_of (blob_in heap i >>= whole_method facts)) c.signature_of.ensures in
    not_generic c.args.image.now facts c.requires.can c.args.row c.requires.there c.counts_at-counts.result e
    (λ same. c.if-generics-from.true (c.generics.ensures ∙ same ∙ sym c.from.ensures))

pub returns : goal.returns
returns g c =
    let facts = g.O.Owners.facts c.args.facts.now in
    let heap = blobs_of c.args.image.now in
    let e = c.counts_at-counts.ensures ∙ ap (λ (i : ℕ). counts_of (blob_in heap i >>= whole_method facts)) c.signature_of.ensures in
    with_params c.args.image.now facts c.requires.can c.args.row c.requires.there c.counts_at-counts.result e c.params_fit.result (sym c.generics.ensures ∙ c.if-generics-from.false ∙ c.from.ensures) c.params_fit.ensures
