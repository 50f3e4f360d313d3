use Rattle.std.proofs.Common.{◌≡◌, ◌++◌}
use Rattle.std.specs.Prelude.{IsUtf8}
use Rattle.std.specs.Str.Iter.{encode_utf16_pending, encode_utf16_rest}
use Rattle.source_model.specs.Values.{units}
use Rattle.lower_members.proofs.units.units.Given as goal

abbrev pub invariant-loop-unit : goal.invariant-loop-unit
invariant-loop-unit l = record {
  utf8 : IsUtf8 (encode_utf16_rest l.unit-iterator);
  so_far : l.all ++ (encode_utf16_pending l.unit-iterator ++ units (encode_utf16_rest l.unit-iterator)) ≡ units l.text;
}
