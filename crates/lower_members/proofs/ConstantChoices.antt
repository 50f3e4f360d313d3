-- Which constant a forest holds, by what stands in it.
use Rattle.std.proofs.Common.{◌≡◌, ap, ◌∙◌}
use Rattle.std.specs.Prelude.{Bool, false, true, if◌then◌else◌}
use Rattle.assembly_tree.specs.declared.members.Constant.{Constant}
use Rattle.assembly_tree.specs.declared.members.Constant.TheVariants as constant
use Rattle.ilasm_grammar.specs.declared.productions.TheConstants.{CONST_BOOL, CONST_BYTES, CONST_CHAR, CONST_FLOAT32, CONST_FLOAT64, CONST_INT_TYPE, CONST_TEXT, TEXT, TRUTH_TRUE}
use Rattle.source_model.specs.Constants.{const_token, constant_in, integer_of, units_in, wrapped}
use Rattle.source_model.specs.Forest.{Forest, has, leaf_at, the}
use Rattle.source_model.specs.Shapes.{natural}
use Rattle.source_model.specs.Source.{Source}
use Rattle.source_model.specs.Types.{int_type}
use Rattle.source_model.specs.Values.{array_bytes, int_at, units_of_bytes}
use Rattle.lower_members.specs.Constants.{other_constant}

-- the constants of a number
abbrev real4 : Source → Forest → Constant
real4 s f = constant.Real4 (wrapped 32 (int_at s (const_token (the CONST_FLOAT32 f))))

abbrev real8 : Source → Forest → Constant
real8 s f = constant.Real8 (wrapped 64 (int_at s (const_token (the CONST_FLOAT64 f))))

abbrev char : Source → Forest → Constant
char s f = constant.Char (natural (int_at s (const_token (the CONST_CHAR f))))

abbrev int : Source → Forest → Constant
int s f = constant.Int (int_type (the CONST_INT_TYPE f)) (integer_of (int_type (the CONST_INT_TYPE f)) (int_at s (const_token (the CONST_INT_TYPE f))))

abbrev chosen : (a b c d : Bool) → Source → Forest → Constant
chosen a b c d s f = if a then int s f else if b then real4 s f else if c then real8 s f else if d then char s f else other_constant s f

abbrev other : (a b c : Bool) → Source → Forest → Constant
other a b c s f =
    if a then constant.Bool (has TRUTH_TRUE f)
    else if b then constant.Str (units_in s (the TEXT f))
    else if c then constant.Str (units_of_bytes (array_bytes s (leaf_at 0 (the CONST_BYTES f))))
    else constant.Null

module _ (s : Source) (f : Forest) where
  pub is_text : has CONST_BOOL f ≡ false → has CONST_TEXT f ≡ true → other_constant s f ≡ constant.Str (units_in s (the TEXT f))
  is_text a b = ap (λ x. other x (has CONST_TEXT f) (has CONST_BYTES f) s f) a ∙ ap (λ x. other false x (has CONST_BYTES f) s f) b

  pub is_bytes : has CONST_BOOL f ≡ false → has CONST_TEXT f ≡ false → has CONST_BYTES f ≡ true
      → other_constant s f ≡ constant.Str (units_of_bytes (array_bytes s (leaf_at 0 (the CONST_BYTES f))))
  is_bytes a b c =
      ap (λ x. other x (has CONST_TEXT f) (has CONST_BYTES f) s f) a ∙ ap (λ x. other false x (has CONST_BYTES f) s f) b ∙ ap (λ x. other false false x s f) c

  pub is_char : has CONST_INT_TYPE f ≡ false → has CONST_FLOAT32 f ≡ false → has CONST_FLOAT64 f ≡ false → has CONST_CHAR f ≡ true → constant_in s f ≡ char s f
  is_char a b c d =
      ap (λ x. chosen x (has CONST_FLOAT32 f) (has CONST_FLOAT64 f) (has CONST_CHAR f) s f) a ∙ ap (λ x. chosen false x (has CONST_FLOAT64 f) (has CONST_CHAR f) s f) b
      ∙ ap (λ x. chosen false false x (has CONST_CHAR f) s f) c ∙ ap (λ x. chosen false false false x s f) d
