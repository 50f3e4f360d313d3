use Rattle.std.proofs.Common.{◌≡◌, ◌∙◌, sym, ap, map}
use Rattle.std.specs.List.{list_all}
use Rattle.branch_forms.specs.Forms.{has_bytes, shortened}
use Rattle.il_shrink.specs.Forms.{first_form}
use Rattle.il_shrink.proofs.Codes.{firsts_short, firsts_have_bytes}
use Rattle.il_shrink.proofs.Results.{on_ok}
use Rattle.il_shrink.proofs.Shrinking.{slice_is, slice_length, shrunk_from}
use Rattle.il_shrink.proofs.bodies.shrink_code.Goals as goal

pub shorten-requires-clause-bytes : goal.shorten-requires-clause-bytes
shorten-requires-clause-bytes c =
    let first : c.in_ok-forms.forms.items ≡ map first_form c.args.code.now = rw c.as_slice.ensures at c.in_ok-forms.ensures in
    ap (list_all has_bytes) (c.as_mut_slice.ensures.value ∙ first) ∙ firsts_have_bytes c.args.code.now

pub shorten-requires-clause-short : goal.shorten-requires-clause-short
shorten-requires-clause-short c =
    let first : c.in_ok-forms.forms.items ≡ map first_form c.args.code.now = rw c.as_slice.ensures at c.in_ok-forms.ensures in
    let e = c.as_mut_slice.ensures.value ∙ first in
    ap (map shortened) e ∙ firsts_short c.args.code.now ∙ sym e

pub choose-requires : goal.choose-requires
choose-requires c =
    let first : c.in_ok-forms.forms.items ≡ map first_form c.args.code.now = rw c.as_slice.ensures at c.in_ok-forms.ensures in
    let e = c.as_mut_slice.ensures.value ∙ first in
    slice_length c.args.code.now c.as_mut_slice.result.now c.shorten.new.forms c.as_slice-2.result.now e c.shorten.ensures
    (slice_is c.args.code.now c.as_mut_slice.result.now c.shorten.new.forms c.as_slice-2.result.now c.in_ok-forms.forms.items c.in_ok-forms.forms.len e
    c.shorten.ensures c.as_mut_slice.ensures.len c.as_slice-2.ensures.value)

pub returns : goal.returns
returns c =
    let first : c.in_ok-forms.forms.items ≡ map first_form c.args.code.now = rw c.as_slice.ensures at c.in_ok-forms.ensures in
    let e = c.as_mut_slice.ensures.value ∙ first in
    on_ok c.choose.result
    (λ made.
    shrunk_from c.args.code.now c.as_mut_slice.result.now c.shorten.new.forms c.as_slice-2.result.now c.choose.new.code e c.shorten.ensures
    (slice_is c.args.code.now c.as_mut_slice.result.now c.shorten.new.forms c.as_slice-2.result.now c.in_ok-forms.forms.items c.in_ok-forms.forms.len e
    c.shorten.ensures c.as_mut_slice.ensures.len c.as_slice-2.ensures.value)
    made)
    c.choose.ensures
