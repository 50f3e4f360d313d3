use Rattle.std.proofs.Common.{◌∙◌, arith, sym}
use Rattle.check_data.proofs.ExternLemmas.{keys_are}
use Rattle.check_data.proofs.FieldLemmas.{faults_of_all}
use Rattle.check_data.proofs.Unmapped.{no_data}
use Rattle.check_data.proofs.mapped_fields.data_faults.Goals as goal

pub returns : goal.returns
returns c s r externs classes labels =
    c.in_ok-faults.ensures s r
    (record {
      measure = record {
        place = record {
          reads = record { bytes = r.bytes; tokens = r.tokens; nodes = r.nodes; lexes = r.lexes; derived = r.derived };
          keys = keys_are s c.args.externs.now.names externs.texts;
          few = c.externs_are_few.ensures s r;
          class = c.new-none.ensures;
          method = c.new-none.ensures;
          few-class = omega arith;
          few-method = omega arith;
        };
        sizes = c.in_ok-sizes.ensures s r classes;
      };
      labels = labels;
      lengths = c.as_slice.ensures ∙ c.in_ok-lengths.ensures s r;
    })

pub returns-then-not-has : goal.returns-then-not-has
returns-then-not-has c s r externs classes labels =
    faults_of_all s c.no_faults.result (no_data s c.no_faults.result (sym (c.has.ensures s.tree r.nodes) ∙ c.if-not-has.true) c.no_faults.ensures.short c.no_faults.ensures.without_size)
