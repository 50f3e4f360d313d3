-- The walk along a path.
use Rattle.std.proofs.Common.{◌≡◌, ℕ, List, [], ◌∷◌, ◌++◌, map, refl, ap, sym, subst, ◌∙◌}
use Rattle.std.specs.Prelude.{false}
use Rattle.il_lexer.specs.declared.types.TokenKind.TheVariants as kind
use Rattle.type_terms.specs.declared.name.TypeId.{TypeId}
use Rattle.ilasm_grammar.specs.declared.productions.TheConstants.{PATH, SLASH_NAME}
use Rattle.ilasm_grammar.specs.declared.tree.TreeNode.{TreeNode}
use Rattle.ilasm_grammar.specs.declared.tree.TreeNode.TheVariants.{Branch}
use Rattle.source_model.specs.Forest.{Forest, Part, below_each, branch, has, is_any_part, leaf_at, parts, preorder}
use Rattle.source_model.specs.Laws.{ForestsJoin}
use Rattle.source_model.specs.Names.{path_tokens}
use Rattle.source_model.specs.Nodes.{type_id}
use Rattle.source_model.specs.Source.{Source}
use Rattle.source_nodes.specs.Derived.{FitsBody, HasBodies}
use Rattle.source_nodes.specs.Readers.{IsOf}
use Rattle.source_nodes.specs.Walk.{Opens, is_of}
use Rattle.source_nodes.specs.declared.walk.Opened.{Opened}
use Rattle.source_nodes.proofs.Collecting.{SoFar, starts, goes_in, goes_past, ends, each_own, each_other, is_other}
use Rattle.source_syntax.proofs.ScopeLemmas.{later_ids}
use Rattle.source_nodes.proofs.WrittenNames.{path_begins, slash_names}

-- the first name of a path, and those behind it
pub whole_path : (s : Source) (f : Forest) (path : List TypeId) (first : TypeId) (token : ℕ) → FitsBody s PATH f → path ≡ first ∷ []
    → (IsOf s kind.Name token → first ≡ type_id s token) → token ≡ leaf_at 0 f → path ++ later_ids s f ≡ map (type_id s) (path_tokens f)
whole_path s f path first token fits is id at =
    let named : IsOf s kind.Name token = subst (IsOf s kind.Name) (sym at) (path_begins s f fits) in
    ap (λ p. p ++ later_ids s f) is ∙ ap (λ i. i ∷ later_ids s f) (id named ∙ ap (type_id s) at)

-- a path of one name
pub no_later : (s : Source) (f : Forest) → has SLASH_NAME f ≡ false → later_ids s f ≡ []
no_later s f apart = ap (λ fs. map (type_id s) (map (λ g. leaf_at 1 g) fs)) (no_below (parts (SLASH_NAME ∷ []) f) apart)
  where
    no_below : (ps : List Part) → is_any_part ps ≡ false → below_each ps ≡ []
    no_below [] e = refl
    no_below (p ∷ ps) e = absurd cc

module _ (s : Source) (whole : List TypeId) where
  abbrev pub Names : List TreeNode → List TypeId → Type 0
  Names left path = SoFar (FitsBody s) (later_ids s) whole left path

  pub names_start : (f : Forest) (nodes : List TreeNode) (path : List TypeId) → preorder f ≡ nodes → HasBodies s f → path ++ later_ids s f ≡ whole
      → Names nodes path
  names_start f nodes path e bodies same = starts (FitsBody s) (later_ids s) whole f nodes path e bodies same

  pub name_taken : (left : List TreeNode) (x : Opened) (path longer : List TypeId) (count : ℕ) (id : TypeId) (token : ℕ) → Opens left x
      → x.node ≡ Branch SLASH_NAME count → ((g : Forest) → preorder g ≡ x.below.now → token ≡ leaf_at 1 g) → (IsOf s kind.Name token → id ≡ type_id s token)
      → longer ≡ path ++ id ∷ [] → Names left path → Names x.after.now longer
  name_taken left x path longer count id token o is at named more sf =
      subst (Names x.after.now) (sym more) (goes_past (FitsBody s) (later_ids s) whole left x path (id ∷ []) SLASH_NAME count o is taken sf)
    where
      taken : (b a : Forest) → preorder b ≡ x.below.now → FitsBody s SLASH_NAME b → HasBodies s b
          → later_ids s (branch SLASH_NAME b a) ≡ id ∷ [] ++ later_ids s a
      taken b a e fits bodies =
          let name : IsOf s kind.Name token = subst (IsOf s kind.Name) (sym (at b e)) (slash_names s b fits) in
          ap (λ fs. map (type_id s) (map (λ g. leaf_at 1 g) fs)) (each_own SLASH_NAME b a)
          ∙ ap (λ i. i ∷ later_ids s a) (ap (type_id s) (sym (at b e)) ∙ sym (named name))

  pub names_go_in : ForestsJoin → (left : List TreeNode) (x : Opened) (path : List TypeId) → Opens left x → is_of SLASH_NAME x.node ≡ false
      → Names left path → Names x.behind.now path
  names_go_in joins left x path o other sf =
      goes_in (FitsBody s) (later_ids s) whole left x path o (λ k a. refl)
      (λ q count b a is. ap (λ fs. map (type_id s) (map (λ g. leaf_at 1 g) fs)) (each_other SLASH_NAME joins q b a (is_other SLASH_NAME x.node q count other is))) sf

  pub names_end : (left : List TreeNode) (path : List TypeId) → left ≡ [] → Names left path → path ≡ whole
  names_end left path e sf = ends (FitsBody s) (later_ids s) whole left path e refl sf
