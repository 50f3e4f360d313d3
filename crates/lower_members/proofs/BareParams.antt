-- Parameters of which nothing more is said than their types.
use Rattle.std.proofs.Common.{◌≡◌, ℕ, ◌+◌, List, [], ◌∷◌, ◌++◌, length, refl, ap, ◌∙◌, arith}
use Rattle.std.specs.Prelude.{Bool, true, false, ◌||◌, ◌==◌, not, if◌then◌else◌}
use Rattle.std.specs.List.{AllByRecursion, enumerate_from, flat_map}
use Rattle.std.proofs.lemmas.Bool.Decides.{Decides-eqb}
use Rattle.assembly_tree.specs.declared.members.Param.{Param}
use Rattle.ilasm_grammar.specs.declared.tree.TreeNode.{TreeNode}
use Rattle.ilasm_grammar.specs.declared.productions.TheConstants.{DEF_ARG, DEF_ARGS_OPT_SOME, NAME_OPT_SOME, PARAM_ATTR_STAR_MORE}
use Rattle.source_flags.specs.InRange.{AllInRange, IsInRange}
use Rattle.lower_manifest.proofs.Absent.{no_child, none_in_parts, nothing_of}
use Rattle.source_flags.proofs.Gathered.{IsSought, of_parts}
use Rattle.source_model.specs.Flags.{parameter_flags_in}
use Rattle.source_model.specs.Forest.{Forest, Part, below_each, child, each, has, is_any_part, parts, preorder}
use Rattle.source_model.specs.Nodes.{Around}
use Rattle.source_model.specs.Parameters.{has_row, parameters, params, row, rows_of}
use Rattle.source_model.specs.Source.{Source}
use Rattle.source_syntax.proofs.ReferenceLemmas.{of_child}
use Rattle.lower_members.proofs.ParamFlags.{has_flag}

pub no_nodes : (xs : List TreeNode) → (length xs == 0) ≡ true → xs ≡ []
no_nodes [] e = refl
no_nodes (x ∷ xs) e = let none = (Decides-eqb (length (x ∷ xs)) 0).0 e in absurd (omega (arith, none))

pub second_is : (a : Bool) → true ≡ (a || true)
second_is true = refl
second_is false = refl

pub neither : (a b : Bool) → (a || b) ≡ false → (a ≡ false) × (b ≡ false)
neither true b e = absurd cc
neither false true e = absurd cc
neither false false e = (refl, refl)

module _ (s : Source) (a : Around) where
  -- a parameter has neither a name nor a flag
  rowless : (f : Forest) → AllInRange s f → parts (NAME_OPT_SOME ∷ []) f ≡ [] → parts (PARAM_ATTR_STAR_MORE ∷ []) f ≡ [] → has_row [] f ≡ false
  rowless f h named flagged =
      let flags : is_any_part (parameter_flags_in f) ≡ false =
      has_flag s f h ∙ ap (λ g. not (length (preorder g) == 0)) (no_child PARAM_ATTR_STAR_MORE f flagged) in
      ap (λ (b : Bool). b || is_any_part (parameter_flags_in f) || false) (ap is_any_part named) ∙ ap (λ (b : Bool). b || false) flags

  all_in_range : (ps : List Part) → AllByRecursion (IsSought (IsInRange s) (DEF_ARG ∷ [])) ps → AllByRecursion (AllInRange s) (below_each ps)
  all_in_range [] h = tt
  all_in_range (p ∷ ps) h = (h.0.2, all_in_range ps h.1)

  rows_none : (fs : List Forest) (at : ℕ) → AllByRecursion (AllInRange s) fs → AllByRecursion (λ (g : Forest). parts (NAME_OPT_SOME ∷ []) g ≡ []) fs
      → AllByRecursion (λ (g : Forest). parts (PARAM_ATTR_STAR_MORE ∷ []) g ≡ []) fs → flat_map (rows_of s a []) (enumerate_from at fs) ≡ []
  rows_none [] at h named flagged = refl
  rows_none (f ∷ fs) at h named flagged =
      ap (λ (b : Bool). (if b then row s a at f [] ∷ [] else []) ++ flat_map (rows_of s a []) (enumerate_from (at + 1) fs)) (rowless f h.0 named.0 flagged.0)
      ∙ rows_none fs (at + 1) h.1 named.1 flagged.1

  pub no_rows : (f : Forest) → AllInRange s f → has NAME_OPT_SOME (child (DEF_ARGS_OPT_SOME ∷ []) f) ≡ false
      → has PARAM_ATTR_STAR_MORE (child (DEF_ARGS_OPT_SOME ∷ []) f) ≡ false → params s a f [] ≡ []
  no_rows f h named flagged =
      let g = child (DEF_ARGS_OPT_SOME ∷ []) f in
      rows_none (parameters f) 1 (all_in_range (parts (DEF_ARG ∷ []) g) (of_parts (IsInRange s) (DEF_ARG ∷ []) g (of_child (IsInRange s) (DEF_ARGS_OPT_SOME ∷ []) f h)))
      (none_in_parts (NAME_OPT_SOME ∷ []) (DEF_ARG ∷ []) g (nothing_of (parts (NAME_OPT_SOME ∷ []) g) named))
      (none_in_parts (PARAM_ATTR_STAR_MORE ∷ []) (DEF_ARG ∷ []) g (nothing_of (parts (PARAM_ATTR_STAR_MORE ∷ []) g) flagged))
