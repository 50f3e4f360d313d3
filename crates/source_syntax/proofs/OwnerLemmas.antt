-- A walk for all owners of a forest.
use Rattle.std.proofs.Common.{◌≡◌, ℕ, List, [], ◌∷◌, ◌++◌, map, ap, sym, subst, ◌∙◌}
use Rattle.std.specs.Prelude.{false}
use Rattle.type_terms.specs.declared.term.Owner.{Owner, Name, Spec}
use Rattle.type_terms.specs.declared.term.SigType.{SigType}
use Rattle.type_terms.specs.declared.name.TypeName.{TypeName}
use Rattle.ilasm_grammar.specs.declared.productions.TheConstants.{SPEC_TYPE, SPEC_TYPE_NAME}
use Rattle.ilasm_grammar.specs.declared.tree.TreeNode.{TreeNode}
use Rattle.ilasm_grammar.specs.declared.tree.TreeNode.TheVariants.{Branch}
use Rattle.source_model.specs.Forest.{Forest, preorder}
use Rattle.source_model.specs.Names.{type_name}
use Rattle.source_model.specs.Nodes.{Around}
use Rattle.source_model.specs.Source.{Source}
use Rattle.source_model.specs.Types.{owners_in, the_type}
use Rattle.source_nodes.specs.Derived.{HasBodies}
use Rattle.source_syntax.specs.Places.{IsReadable, IsSound}
use Rattle.source_nodes.specs.Walk.{Opens, is_of}
use Rattle.source_nodes.specs.declared.walk.Opened.{Opened}
use Rattle.source_nodes.proofs.Collecting.{SoFar, ends, goes_in, goes_past, is_other, starts}
use Rattle.source_syntax.proofs.TypeLemmas as type
use Rattle.source_syntax.proofs.TypeWalks.{flipped, has_bodies, one_type}

module _ (s : Source) (a : Around) where
  abbrev pub Owners : Forest → List TreeNode → List Owner → Type 0
  Owners f left owners = SoFar (IsSound s) (owners_in s a) (owners_in s a f) left owners

  pub owners_start : (f : Forest) (nodes : List TreeNode) (owners : List Owner) → preorder f ≡ nodes → IsReadable s f → owners ≡ [] → Owners f nodes owners
  owners_start f nodes owners e h empty =
      starts (IsSound s) (owners_in s a) (owners_in s a f) f nodes owners e h (ap (λ os. os ++ owners_in s a f) empty)

  pub name_taken : (f : Forest) (left : List TreeNode) (x : Opened) (owners longer : List Owner) (count : ℕ) (name : TypeName) → Opens left x
      → x.node ≡ Branch SPEC_TYPE_NAME count → ((b : Forest) → preorder b ≡ x.below.now → HasBodies s b → name ≡ type_name s b)
      → longer ≡ owners ++ Name name ∷ [] → Owners f left owners → Owners f x.after.now longer
  name_taken f left x owners longer count name o is named more sf =
      subst (Owners f x.after.now) (sym more)
      (goes_past (IsSound s) (owners_in s a) (owners_in s a f) left x owners (Name name ∷ []) SPEC_TYPE_NAME count o is
      (λ b after e sound h. type.owners_of_name s a b after ∙ ap (λ n. Name n ∷ owners_in s a after) (sym (named b e (has_bodies s b h)))) sf)

  pub type_taken : (f : Forest) (left : List TreeNode) (x : Opened) (owners longer : List Owner) (count : ℕ) (of : SigType) → Opens left x
      → x.node ≡ Branch SPEC_TYPE count → ((b : Forest) → preorder b ≡ x.below.now → IsReadable s b → of ≡ the_type s a b)
      → longer ≡ owners ++ Spec of ∷ [] → Owners f left owners → Owners f x.after.now longer
  type_taken f left x owners longer count of o is typed more sf =
      subst (Owners f x.after.now) (sym more)
      (goes_past (IsSound s) (owners_in s a) (owners_in s a f) left x owners (Spec of ∷ []) SPEC_TYPE count o is
      (λ b after e sound h.
      type.owners_of_type s a b after ∙ ap (λ ts. map Spec ts ++ owners_in s a after) (one_type s a b sound.0)
      ∙ ap (λ t. Spec t ∷ owners_in s a after) (sym (typed b e h))) sf)

  pub owners_go_in : (f : Forest) (left : List TreeNode) (x : Opened) (owners : List Owner) → Opens left x → is_of SPEC_TYPE_NAME x.node ≡ false
      → is_of SPEC_TYPE x.node ≡ false → Owners f left owners → Owners f x.behind.now owners
  owners_go_in f left x owners o m k sf =
      goes_in (IsSound s) (owners_in s a) (owners_in s a f) left x owners o (type.owners_leaf s a)
      (λ q count b after is. type.owners_other s a q b after (flipped SPEC_TYPE_NAME q (is_other SPEC_TYPE_NAME x.node q count m is))
      (flipped SPEC_TYPE q (is_other SPEC_TYPE x.node q count k is))) sf

  pub owners_end : (f : Forest) (left : List TreeNode) (owners : List Owner) → left ≡ [] → Owners f left owners → owners ≡ owners_in s a f
  owners_end f left owners e sf = ends (IsSound s) (owners_in s a) (owners_in s a f) left owners e (type.owners_none s a) sf
