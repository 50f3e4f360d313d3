-- Whether parts of two productions stand in a derivation, outside of what holds neither data nor the sizes of classes.
use Rattle.std.specs.Prelude.{◌≡◌, ℕ, List, [], ◌∷◌, Bool, count_by}
use Rattle.elaborate.specs.declared.standing.Standing.{Standing}
use Rattle.ilasm_grammar.specs.declared.productions.TheConstants.{
  DECL_FIELD,
  DECL_METHOD,
  DECL_CUSTOM,
  CLASS_ATTR_STAR_MORE,
  TYPARS_OPT_SOME,
  EXTENDS_OPT_SOME,
  IMPLEMENTS_OPT_SOME,
  MEMBER_FIELD,
  MEMBER_METHOD,
  MEMBER_PROPERTY,
  MEMBER_EVENT,
  MEMBER_CUSTOM,
}
use Rattle.ilasm_grammar.specs.declared.tree.TreeNode.{TreeNode}
use Rattle.source_model.specs.Forest.{Forest, is_any_part, parts_outside}
use Rattle.source_nodes.specs.Walk.{is_of}

-- what stands in the head of a class, and the members and declarations in which no data and no size of a class stands
-- (ECMA-335 II.10.1, II.10.2)
abbrev pub passed_forms : List ℕ
passed_forms =
    DECL_FIELD ∷ DECL_METHOD ∷ DECL_CUSTOM ∷ CLASS_ATTR_STAR_MORE ∷ TYPARS_OPT_SOME ∷ EXTENDS_OPT_SOME ∷ IMPLEMENTS_OPT_SOME
    ∷ MEMBER_FIELD ∷ MEMBER_METHOD ∷ MEMBER_PROPERTY ∷ MEMBER_EVENT ∷ MEMBER_CUSTOM ∷ []

abbrev pub stands_outside : ℕ → Forest → Bool
stands_outside p f = is_any_part (parts_outside passed_forms (p ∷ []) f)

pub record IsStanding (first second : ℕ) (f : Forest) (x : Standing) : Type 0 where
  pub first-is : x.first ≡ stands_outside first f
  pub second-is : x.second ≡ stands_outside second f

-- no node has either production
pub record HaveNeither (first second : ℕ) (nodes : List TreeNode) : Type 0 where
  pub no-first : count_by (is_of first) nodes ≡ 0
  pub no-second : count_by (is_of second) nodes ≡ 0
