use Rattle.kept_owners.proofs.Keeping.{goes_on, on_both, stay_there}
use Rattle.kept_owners.proofs.Shortness.{short_type, short_reference}
use Rattle.kept_owners.proofs.owners.keep_all.Goals as goal

pub keep_table-requires-clause-short : goal.keep_table-requires-clause-short
keep_table-requires-clause-short c = short_type c.args.image.now c.requires.meets c.requires.scopes

pub keep_table-requires-2-clause-short : goal.keep_table-requires-2-clause-short
keep_table-requires-2-clause-short c = short_reference c.args.image.now c.requires.meets c.requires.scopes

pub returns : goal.returns
returns c =
    let image = c.args.image.now in
    let a = c.args.kept.now in
    let b = c.keep_table.new.kept in
    let d = c.keep_table-2.new.kept in
    let e = c.keep_specs.new.kept in
    let first = c.in_ok-keep_table.ensures in
    let second = c.in_ok-keep_table-2.ensures in
    on_both c.keep_specs.result (λ goes done. record {
      goes = goes_on image a d e (goes_on image a b d first.goes second.goes) goes;
      few_types = c.keep_table.ensures.few;
      few_references = c.keep_table-2.ensures.few;
      few_specs = c.keep_specs.ensures.few;
      types = stay_there image d e 0x02 _ goes (stay_there image b d 0x02 _ second.goes first.there);
      references = stay_there image d e 0x01 _ goes second.there;
      specs = done;
    }) c.keep_specs.ensures.goes c.keep_specs.ensures.done
