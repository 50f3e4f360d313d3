-- Constants that hold no number.
use Rattle.std.specs.Prelude.{if◌then◌else◌}
use Rattle.assembly_tree.specs.declared.members.Constant.{Constant}
use Rattle.assembly_tree.specs.declared.members.Constant.TheVariants as constant
use Rattle.ilasm_grammar.specs.declared.productions.TheConstants.{CONST_BOOL, CONST_BYTES, CONST_TEXT, TEXT, TRUTH_TRUE}
use Rattle.source_model.specs.Constants.{units_in}
use Rattle.source_model.specs.Forest.{Forest, has, leaf_at, the}
use Rattle.source_model.specs.Source.{Source}
use Rattle.source_model.specs.Values.{array_bytes, units_of_bytes}

-- a truth, a string by its units or by bytes of which two make a unit, or no object
abbrev pub other_constant : Source → Forest → Constant
other_constant s f =
    if has CONST_BOOL f then constant.Bool (has TRUTH_TRUE f)
    else if has CONST_TEXT f then constant.Str (units_in s (the TEXT f))
    else if has CONST_BYTES f then constant.Str (units_of_bytes (array_bytes s (leaf_at 0 (the CONST_BYTES f))))
    else constant.Null
