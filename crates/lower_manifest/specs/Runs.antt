-- Declarations by their productions: attributes, and what attributes belong to (ECMA-335 II.21).
use Rattle.std.specs.Prelude.{ℕ, ◌==◌, ◌||◌, Bool}
use Rattle.ilasm_grammar.specs.declared.productions.TheConstants.{DECL_CUSTOM, DECL_FIELD, ITEM_CUSTOM, ITEM_PARAM, MEMBER_CUSTOM, MEMBER_FIELD, MEMBER_PARAM}

abbrev pub is_custom : ℕ → Bool
is_custom p = p == DECL_CUSTOM || p == MEMBER_CUSTOM || p == ITEM_CUSTOM

abbrev pub begins_run : ℕ → Bool
begins_run p = p == DECL_FIELD || p == MEMBER_FIELD || p == MEMBER_PARAM || p == ITEM_PARAM
