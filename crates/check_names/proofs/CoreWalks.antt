-- The search for a referenced assembly with a core name.
use Rattle.std.proofs.Common.{◌≡◌, ℕ, List, [], Some, refl, ap, sym, subst, ◌∙◌}
use Rattle.std.specs.Prelude.{true, false, ◌||◌, slice_get}
use Rattle.std.specs.List.{list_any}
use Rattle.il_lexer.specs.declared.types.TokenKind.TheVariants as kind
use Rattle.ilasm_grammar.specs.Ilasm.{ilasm, rule_by}
use Rattle.ilasm_grammar.specs.declared.productions.TheConstants.{ASSEMBLY_EXTERN}
use Rattle.ilasm_grammar.specs.declared.terminals.TheConstants as t
use Rattle.ilasm_grammar.specs.declared.tree.TreeNode.{TreeNode}
use Rattle.ilasm_grammar.specs.declared.tree.TreeNode.TheVariants.{Branch, Leaf}
use Rattle.source_model.specs.Classes.{is_core}
use Rattle.source_model.specs.Forest.{Forest, each, joined, leaf_at, preorder}
use Rattle.source_model.specs.Laws.{ForestsJoin}
use Rattle.source_model.specs.Names.{externs}
use Rattle.source_model.specs.Source.{Source}
use Rattle.source_nodes.specs.Derived.{FitsBody, HasBodies}
use Rattle.source_nodes.specs.Readers.{IsOf}
use Rattle.source_nodes.specs.Walk.{Opens, is_of}
use Rattle.source_nodes.specs.declared.walk.Opened.{Opened}
use Rattle.source_nodes.proofs.Collecting.{each_other, each_own, is_other, no_forest, of_joined}
use Rattle.source_syntax.proofs.NameTokens.{name_at, terminals_of_rule}

extern_name : slice_get (terminals_of_rule (ilasm ASSEMBLY_EXTERN)) 1 ≡ Some t.NAME
unfolding ilasm rule_by
extern_name = refl

pub extern_is_name : (s : Source) (f : Forest) → FitsBody s ASSEMBLY_EXTERN f → IsOf s kind.Name (leaf_at 1 f)
extern_is_name s f h = name_at s ASSEMBLY_EXTERN 1 f extern_name h

-- the rest has one exactly where the whole has
pub record CoreLeft (s : Source) (left : List TreeNode) : Type 0 where
  pub rest : Forest
  pub is : preorder rest ≡ left
  pub bodies : HasBodies s rest
  pub same : list_any (is_core s) (each ASSEMBLY_EXTERN rest) ≡ list_any (is_core s) (externs s)

pub core_start : (s : Source) (nodes : List TreeNode) → preorder s.tree ≡ nodes → HasBodies s s.tree → CoreLeft s nodes
core_start s nodes e bodies = record { rest = s.tree; is = e; bodies = bodies; same = refl }

pub core_end : (s : Source) (left : List TreeNode) → left ≡ [] → CoreLeft s left → false ≡ list_any (is_core s) (externs s)
core_end s left e l = ap (λ (g : Forest). list_any (is_core s) (each ASSEMBLY_EXTERN g)) (sym (no_forest l.rest (l.is ∙ e))) ∙ l.same

module _ (s : Source) (left : List TreeNode) (x : Opened) (o : Opens left x) (l : CoreLeft s left) where
  pub core_in : ForestsJoin → is_of ASSEMBLY_EXTERN x.node ≡ false → CoreLeft s x.behind.now
  core_in joins other = go x.node refl
    where
      go : (node : TreeNode) → x.node ≡ node → CoreLeft s x.behind.now
      go (Leaf token) is =
          let b = o.leaf l.rest token l.is is in
          record {
            rest = b.after;
            is = b.rest;
            bodies = subst (HasBodies s) b.is l.bodies;
            same = ap (λ (g : Forest). list_any (is_core s) (each ASSEMBLY_EXTERN g)) (sym b.is) ∙ l.same;
          }
      go (Branch p count) is =
          let b = o.branch l.rest p count l.is is in
          let h = subst (HasBodies s) b.is l.bodies in
          record {
            rest = joined b.inner b.rest;
            is = b.behind-is;
            bodies = of_joined (FitsBody s) b.inner b.rest h.1 h.2;
            same = ap (list_any (is_core s)) (sym (each_other ASSEMBLY_EXTERN joins p b.inner b.rest (is_other ASSEMBLY_EXTERN x.node p count other is)))
                ∙ ap (λ (g : Forest). list_any (is_core s) (each ASSEMBLY_EXTERN g)) (sym b.is) ∙ l.same;
          }

  -- the assembly that stands first
  pub record CoreFirst : Type 0 where
    pub inner : Forest
    pub inner-is : preorder inner ≡ x.below.now
    pub fits : FitsBody s ASSEMBLY_EXTERN inner
    pub found : is_core s inner ≡ true → true ≡ list_any (is_core s) (externs s)
    pub next : is_core s inner ≡ false → CoreLeft s x.after.now

  pub core_first : (count : ℕ) → x.node ≡ Branch ASSEMBLY_EXTERN count → CoreFirst
  core_first count is =
      let b = o.branch l.rest ASSEMBLY_EXTERN count l.is is in
      let h = subst (HasBodies s) b.is l.bodies in
      let whole : (is_core s b.inner || list_any (is_core s) (each ASSEMBLY_EXTERN b.rest)) ≡ list_any (is_core s) (externs s) =
      ap (list_any (is_core s)) (sym (each_own ASSEMBLY_EXTERN b.inner b.rest))
      ∙ ap (λ (g : Forest). list_any (is_core s) (each ASSEMBLY_EXTERN g)) (sym b.is) ∙ l.same in
      record {
        inner = b.inner;
        inner-is = b.inner-is;
        fits = h.0;
        found = λ e. sym (ap (λ c. c || list_any (is_core s) (each ASSEMBLY_EXTERN b.rest)) e) ∙ whole;
        next = λ e. record {
          rest = b.rest;
          is = b.rest-is;
          bodies = h.2;
          same = sym (ap (λ c. c || list_any (is_core s) (each ASSEMBLY_EXTERN b.rest)) e) ∙ whole;
        };
      }
