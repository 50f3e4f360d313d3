-- Which items a method has, and what stands in them (ECMA-335 II.15.4.1).
use Rattle.std.specs.Prelude.{◌≡◌, ◌||◌, ℕ, List, [], ◌∷◌, ◌++◌, Bool, false}
use Rattle.ilasm_grammar.specs.declared.productions.TheConstants.{
  CALL_CONV,
  DECL_CUSTOM,
  DEF_ARGS_OPT_SOME,
  IMPL_ATTR_STAR_MORE,
  INIT_OPT_SOME,
  ITEM_CUSTOM,
  ITEM_ENTRYPOINT,
  ITEM_INSTRUCTION,
  ITEM_MAXSTACK,
  ITEM_NAME,
  ITEM_STAR_MORE,
  LOCAL,
  MEMBER_CUSTOM,
  MEMBER_PARAM,
  METHOD_ATTR_STAR_MORE,
  OVERRIDDEN_METHOD,
  OVERRIDDEN_SPEC,
  PARAM_OF_BRACKET,
  PARAM_OF_TYPE,
  TYPE,
}
use Rattle.source_model.specs.Clauses.{clause_forms}
use Rattle.source_model.specs.Forest.{Forest, is_among, is_any_part, parts_outside}
use Rattle.source_model.specs.Instructions.{instruction_forms}
use Rattle.lower_bodies.specs.declared.held.Held.{Held}

-- what stands before the braces of a method, and types
abbrev pub head_forms : List ℕ
head_forms = METHOD_ATTR_STAR_MORE ∷ CALL_CONV ∷ TYPE ∷ DEF_ARGS_OPT_SOME ∷ IMPL_ATTR_STAR_MORE ∷ []

-- what holds items of a method, and is nothing by itself
abbrev pub going_forms : List ℕ
going_forms = ITEM_INSTRUCTION ∷ ITEM_STAR_MORE ∷ []

-- what the walk of a method goes past: its head, types, instructions and the names of labels
abbrev pub passed_forms : List ℕ
passed_forms = head_forms ++ (ITEM_NAME ∷ instruction_forms)

-- one of these productions stands in a forest, outside of what is gone past
abbrev pub holds : List ℕ → Forest → Bool
holds sought f = is_any_part (parts_outside passed_forms sought f)

-- what a line of `.param` or an attribute is made of
abbrev pub line_forms : List ℕ
line_forms = PARAM_OF_BRACKET ∷ PARAM_OF_TYPE ∷ MEMBER_PARAM ∷ DECL_CUSTOM ∷ MEMBER_CUSTOM ∷ ITEM_CUSTOM ∷ []

-- all that is looked for
abbrev pub told_forms : List ℕ
told_forms = OVERRIDDEN_METHOD ∷ OVERRIDDEN_SPEC ∷ ITEM_ENTRYPOINT ∷ ITEM_MAXSTACK ∷ LOCAL ∷ INIT_OPT_SOME ∷ (clause_forms ++ line_forms)

-- what is known of a method is so, from what stands below its production
pub record IsHeld (x : Held) (f : Forest) : Type 0 where
  pub overrides : x.overrides ≡ holds (OVERRIDDEN_METHOD ∷ OVERRIDDEN_SPEC ∷ []) f
  pub entry : x.entry ≡ holds (ITEM_ENTRYPOINT ∷ []) f
  pub bound : x.bound ≡ holds (ITEM_MAXSTACK ∷ []) f
  pub local : x.local ≡ holds (LOCAL ∷ []) f
  pub init : x.init ≡ holds (INIT_OPT_SOME ∷ []) f
  pub clause : x.clause ≡ holds clause_forms f
  pub lines : x.lines ≡ holds line_forms f

-- what was known, and what a production is
pub record AddsTo (x : Held) (p : ℕ) (y : Held) : Type 0 where
  pub overrides : y.overrides ≡ (x.overrides || is_among (OVERRIDDEN_METHOD ∷ OVERRIDDEN_SPEC ∷ []) p)
  pub entry : y.entry ≡ (x.entry || is_among (ITEM_ENTRYPOINT ∷ []) p)
  pub bound : y.bound ≡ (x.bound || is_among (ITEM_MAXSTACK ∷ []) p)
  pub local : y.local ≡ (x.local || is_among (LOCAL ∷ []) p)
  pub init : y.init ≡ (x.init || is_among (INIT_OPT_SOME ∷ []) p)
  pub clause : y.clause ≡ (x.clause || is_among clause_forms p)
  pub lines : y.lines ≡ (x.lines || is_among line_forms p)

-- what is known before any production
abbrev pub holding_nothing : Held
holding_nothing = record { overrides = false; entry = false; bound = false; local = false; init = false; clause = false; lines = false }
