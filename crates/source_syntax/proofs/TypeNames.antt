-- Types' names: what they stand for, and the first one in a forest.
use Rattle.std.proofs.Common.{◌≡◌, ℕ, List, [], ◌∷◌, ◌++◌, map, refl, ap, sym, subst, ◌∙◌, Some}
use Rattle.std.specs.Prelude.{Bool, true, false, ◌==◌, ◌||◌, if◌then◌else◌}
use Rattle.type_terms.specs.declared.name.Scope.{Scope}
use Rattle.type_terms.specs.declared.name.Scope.TheVariants.{Here}
use Rattle.type_terms.specs.declared.name.TypeId.{TypeId}
use Rattle.type_terms.specs.declared.name.TypeName.{TypeName}
use Rattle.ilasm_grammar.specs.declared.productions.TheConstants.{PATH, TYPE_NAME_SCOPE, TYPE_NAME_PATH}
use Rattle.ilasm_grammar.specs.declared.tree.TreeNode.{TreeNode}
use Rattle.ilasm_grammar.specs.declared.tree.TreeNode.TheVariants.{Branch}
use Rattle.source_model.specs.Forest.{Forest, branch, Part, part, parts, preorder, leaf_at, child, joined, is_among}
use Rattle.source_model.specs.Laws.{ForestsJoin}
use Rattle.source_model.specs.Names.{module_name, name_of_parts, or_module, or_scope, path_tokens, type_name, type_named, with_scope, without_scope, written_name, written_scope}
use Rattle.source_model.specs.Nodes.{type_id}
use Rattle.source_model.specs.Source.{Source}
use Rattle.source_nodes.specs.Derived.{FitsBody, HasBodies}
use Rattle.source_nodes.specs.Walk.{Opens, is_of}
use Rattle.source_nodes.specs.declared.walk.Opened.{Opened}
use Rattle.source_nodes.proofs.Collecting.{SoFar, starts, goes_in, ends, is_other}

pub alone : (s : Source) (f : Forest) (path : List TypeId) → path ≡ map (type_id s) (path_tokens (child (PATH ∷ []) f))
    → record { scope = Here; path = path } ≡ type_named s (without_scope f)
alone s f path e = ap (λ p. record { scope = Here; path = p }) e

pub with_its_scope : (s : Source) (f : Forest) (scope : Scope) (path : List TypeId) (token : ℕ) → token ≡ leaf_at 0 f
    → scope ≡ or_scope (written_scope s (Some token)) → path ≡ map (type_id s) (path_tokens (child (PATH ∷ []) f))
    → record { scope = scope; path = path } ≡ type_named s (with_scope f)
with_its_scope s f scope path token at sc e =
    ap (λ p. record { scope = scope; path = p }) e
    ∙ ap (λ x. record { scope = x; path = map (type_id s) (path_tokens (child (PATH ∷ []) f)) }) (sc ∙ ap (λ k. or_scope (written_scope s (Some k))) at)

-- ---- the first

abbrev pub name_parts : Forest → List Part
name_parts f = parts (TYPE_NAME_SCOPE ∷ TYPE_NAME_PATH ∷ []) f

pub record NameFound (s : Source) (f : Forest) (p : ℕ) (below : List TreeNode) : Type 0 where
  pub inner : Forest
  pub inner-is : preorder inner ≡ below
  pub fits : FitsBody s p inner
  pub bodies : HasBodies s inner
  pub is : type_name s f ≡ or_module s (written_name p inner)

pub name_found : (s : Source) (f : Forest) (left : List TreeNode) (x : Opened) (p count : ℕ) → Opens left x → x.node ≡ Branch p count
    → is_among (TYPE_NAME_SCOPE ∷ TYPE_NAME_PATH ∷ []) p ≡ true → SoFar (FitsBody s) name_parts (name_parts f) left [] → NameFound s f p x.below.now
name_found s f left x p count o is known sf =
    let b = o.branch sf.rest p count sf.is is in
    let h = subst HasBodies-s b.is sf.each in
    let own : name_parts (branch p b.inner b.rest) ≡ part p b.inner ∷ name_parts b.rest =
    ap (λ (c : Bool). (if c then part p b.inner ∷ [] else name_parts b.inner) ++ name_parts b.rest) known in
    record {
      inner = b.inner;
      inner-is = b.inner-is;
      fits = h.0;
      bodies = h.1;
      is = ap (name_of_parts s) (sym sf.same ∙ ap name_parts b.is ∙ own);
    }
  where
    HasBodies-s : Forest → Type 0
    HasBodies-s g = HasBodies s g

pub name_starts : (s : Source) (f : Forest) (nodes : List TreeNode) → preorder f ≡ nodes → HasBodies s f → SoFar (FitsBody s) name_parts (name_parts f) nodes []
name_starts s f nodes e bodies = starts (FitsBody s) name_parts (name_parts f) f nodes [] e bodies refl

pub name_goes_in : ForestsJoin → (s : Source) (f : Forest) (left : List TreeNode) (x : Opened) → Opens left x → is_of TYPE_NAME_SCOPE x.node ≡ false
    → is_of TYPE_NAME_PATH x.node ≡ false → SoFar (FitsBody s) name_parts (name_parts f) left [] → SoFar (FitsBody s) name_parts (name_parts f) x.behind.now []
name_goes_in joins s f left x o m n sf = goes_in (FitsBody s) name_parts (name_parts f) left x [] o (λ k a. refl) into sf
  where
    into : (q count : ℕ) (b a : Forest) → x.node ≡ Branch q count → name_parts (branch q b a) ≡ name_parts (joined b a)
    into q count b a is =
        ap (λ (c : Bool). (if c || ((TYPE_NAME_PATH == q) || false) then part q b ∷ [] else name_parts b) ++ name_parts a)
        (is_other TYPE_NAME_SCOPE x.node q count m is)
        ∙ ap (λ (c : Bool). (if c || false then part q b ∷ [] else name_parts b) ++ name_parts a) (is_other TYPE_NAME_PATH x.node q count n is)
        ∙ sym (joins.parts [] (TYPE_NAME_SCOPE ∷ TYPE_NAME_PATH ∷ []) b a)

pub no_name : (s : Source) (f : Forest) (left : List TreeNode) → left ≡ [] → SoFar (FitsBody s) name_parts (name_parts f) left [] → module_name ≡ type_name s f
no_name s f left e sf = ap (name_of_parts s) (ends (FitsBody s) name_parts (name_parts f) left [] e refl sf)
