-- Walks through a forest for its types, suffixes and owners.
use Rattle.std.proofs.Common.{◌≡◌, ℕ, inl, inr, List, [], ◌∷◌, ◌++◌, map, refl, ap, sym, subst, ◌∙◌, Some}
use Rattle.std.specs.Prelude.{Bool, true, false, ◌==◌}
use Rattle.std.proofs.lemmas.Bool.{cases_Bool}
use Rattle.std.proofs.lemmas.Bool.Decides.{Decides-eqb}
use Rattle.type_terms.specs.declared.term.Owner.{Owner, Name, Spec}
use Rattle.type_terms.specs.declared.term.SigType.{SigType, Mod, Prim}
use Rattle.type_terms.specs.declared.term.Primitive.TheVariants as prim
use Rattle.type_terms.specs.declared.name.TypeName.{TypeName}
use Rattle.ilasm_grammar.specs.Grammar.{rule_of}
use Rattle.ilasm_grammar.specs.Ilasm.{ilasm, rule_by}
use Rattle.ilasm_grammar.specs.declared.nonterminals.TheConstants as n
use Rattle.ilasm_grammar.specs.declared.productions.TheConstants.{TYPE, SPEC_TYPE_NAME, SPEC_TYPE, TYPE_SUFFIX_MODREQ, TYPE_SUFFIX_MODOPT}
use Rattle.ilasm_grammar.specs.declared.symbol.Symbol.TheVariants.{Nonterminal}
use Rattle.ilasm_grammar.specs.declared.tree.TreeNode.{TreeNode}
use Rattle.ilasm_grammar.specs.declared.tree.TreeNode.TheVariants.{Branch, Leaf}
use Rattle.source_model.specs.Forest.{Forest, none, leaf, branch, preorder, is_among, joined}
use Rattle.source_model.specs.Names.{type_name, module_name}
use Rattle.source_model.specs.Nodes.{Around}
use Rattle.source_model.specs.Source.{Source}
use Rattle.source_model.specs.Types.{types_in, type_of, suffixed, owners_in, base_type, suffixes, first_owner, first_type, the_type, the_owner}
use Rattle.source_nodes.specs.Derived.{Fits, FitsBody, HasBodies, head_of}
use Rattle.source_syntax.specs.Places.{IsSound, IsReadable}
use Rattle.source_syntax.specs.Sound.{IsTypeOrNothing}
use Rattle.source_syntax.specs.Suffixes.{IsSoundAt, is_suffix, suffix_at}
use Rattle.source_nodes.specs.Walk.{Opens, is_of}
use Rattle.source_nodes.specs.declared.walk.Opened.{Opened}
use Rattle.source_nodes.proofs.Collecting.{SoFar, no_forest, of_joined, starts, goes_in, goes_past, ends, is_other, is_branch}
use Rattle.source_syntax.proofs.TypeLemmas as type
use Rattle.source_nodes.proofs.WrittenNames.{fits_rule, one_in}

pub flipped : (x y : ℕ) → (x == y) ≡ false → (y == x) ≡ false
flipped x y e = elim (cases_Bool (y == x)) [
  | inl same ↦ let also = (Decides-eqb x y).1 (sym ((Decides-eqb y x).0 same)) in absurd cc
  | inr apart ↦ apart
]

readable_bodies : (s : Source) (f : Forest) → IsReadable s f → HasBodies s f
readable_bodies s none h = tt
readable_bodies s (leaf k a) h = readable_bodies s a h
readable_bodies s (branch p b a) h = (h.0.0, readable_bodies s b h.1, readable_bodies s a h.2)

pub has_bodies : (s : Source) (f : Forest) → IsReadable s f → HasBodies s f
has_bodies s f h = readable_bodies s f h

suffix_node : (node : TreeNode) → is_suffix node ≡ true → (p : ℕ) × (count : ℕ) × (node ≡ Branch p count) × (is_among suffixes p ≡ true)
suffix_node (Branch p count) e = (p, count, refl, e)
suffix_node (Leaf token) e = absurd cc

pub suffix_branch : (node : TreeNode) → is_suffix node ≡ true → (p : ℕ) × (count : ℕ) × (node ≡ Branch p count)
suffix_branch node e = let r = suffix_node node e in (r.0, r.1, r.2)

pub mod_is : (required : Bool) (by by' : Owner) (of of' : SigType) → by ≡ by' → of ≡ of' → Mod required by of ≡ Mod required by' of'
mod_is required by by' of of' p q = ap (λ y. Mod required y of) p ∙ ap (λ y. Mod required by' y) q

module _ (s : Source) (a : Around) where
  -- ---- all types

  abbrev pub Types : Forest → List TreeNode → List SigType → Type 0
  Types f left types = SoFar (IsSound s) (types_in s a) (types_in s a f) left types

  pub types_start : (f : Forest) (nodes : List TreeNode) → preorder f ≡ nodes → IsReadable s f → Types f nodes []
  types_start f nodes e h = starts (IsSound s) (types_in s a) (types_in s a f) f nodes [] e h refl

  pub types_take : (f : Forest) (left : List TreeNode) (x : Opened) (types longer : List SigType) (count : ℕ) (of : SigType) → Opens left x
      → x.node ≡ Branch TYPE count → ((b : Forest) → preorder b ≡ x.below.now → IsTypeOrNothing s b → IsReadable s b → of ≡ type_of s a b) → longer ≡ types ++ of ∷ []
      → Types f left types → Types f x.after.now longer
  types_take f left x types longer count of o is typed more sf =
      subst (Types f x.after.now) (sym more)
      (goes_past (IsSound s) (types_in s a) (types_in s a f) left x types (of ∷ []) TYPE count o is
      (λ b after e sound each. type.types_own s a b after ∙ ap (λ t. t ∷ types_in s a after) (sym (typed b e (inr sound.0) each))) sf)

  types_into : (x : Opened) → is_of TYPE x.node ≡ false → (q count : ℕ) (b after : Forest) → x.node ≡ Branch q count
      → types_in s a (branch q b after) ≡ types_in s a (joined b after)
  types_into x other q count b after is = type.types_other s a q b after (flipped TYPE q (is_other TYPE x.node q count other is))

  pub types_go_in : (f : Forest) (left : List TreeNode) (x : Opened) (types : List SigType) → Opens left x → is_of TYPE x.node ≡ false
      → Types f left types → Types f x.behind.now types
  types_go_in f left x types o other sf =
      goes_in (IsSound s) (types_in s a) (types_in s a f) left x types o (type.types_leaf s a) (types_into x other) sf

  pub types_end : (f : Forest) (left : List TreeNode) (types : List SigType) → left ≡ [] → Types f left types → types ≡ types_in s a f
  types_end f left types e sf = ends (IsSound s) (types_in s a) (types_in s a f) left types e (type.types_none s a) sf

  -- ---- the first type

  pub record TypeFound (f : Forest) (below : List TreeNode) : Type 0 where
    pub inner : Forest
    pub inner-is : preorder inner ≡ below
    pub fits : IsTypeOrNothing s inner
    pub each : IsReadable s inner
    pub is : the_type s a f ≡ type_of s a inner

  pub type_found : (f : Forest) (left : List TreeNode) (x : Opened) (count : ℕ) → Opens left x → x.node ≡ Branch TYPE count → Types f left []
      → TypeFound f x.below.now
  type_found f left x count o is sf =
      let b = o.branch sf.rest TYPE count sf.is is in
      let h : IsReadable s (branch TYPE b.inner b.rest) = subst (IsReadable s) b.is sf.each in
      record {
        inner = b.inner;
        inner-is = b.inner-is;
        fits = inr h.0.0;
        each = h.1;
        is = ap (first_type s a) (sym sf.same ∙ ap (types_in s a) b.is ∙ type.types_own s a b.inner b.rest);
      }

  pub no_type : (f : Forest) (left : List TreeNode) → left ≡ [] → Types f left [] → first_type s a [] ≡ the_type s a f
  no_type f left e sf = ap (first_type s a) (types_end f left [] e sf)

  -- ---- a type

  rule_type : ilasm TYPE ≡ Some (rule_of n.TYPE (Nonterminal n.TYPE_BASE ∷ Nonterminal n.TYPE_SUFFIX_STAR ∷ []))
  unfolding ilasm rule_by
  rule_type = refl

  headed : (p : ℕ) (b after : Forest) → IsTypeOrNothing s (branch p b after) → head_of p ≡ Some n.TYPE_BASE
  headed p b after (inl e) = absurd cc
  headed p b after (inr h) = (fits_rule s TYPE n.TYPE (Nonterminal n.TYPE_BASE ∷ Nonterminal n.TYPE_SUFFIX_STAR ∷ []) (branch p b after) rule_type h).0

  -- the suffixes of a type, which go round its base
  pub record TypeSplit (f : Forest) (after : List TreeNode) (base : SigType) : Type 0 where
    pub rest : Forest
    pub rest-is : preorder rest ≡ after
    pub each : IsReadable s rest
    pub is : suffixed s a rest base ≡ type_of s a f

  pub type_split : (f : Forest) (nodes : List TreeNode) (x : Opened) (p count : ℕ) (args : List SigType) (base : SigType) → Opens nodes x
      → x.node ≡ Branch p count → preorder f ≡ nodes → IsTypeOrNothing s f → IsReadable s f
      → ((b : Forest) → preorder b ≡ x.below.now → IsReadable s b → args ≡ types_in s a b)
      → ((b : Forest) → preorder b ≡ x.below.now → head_of p ≡ Some n.TYPE_BASE → IsSound s p b → IsReadable s b → base ≡ base_type s a p b args)
      → TypeSplit f x.after.now base
  type_split f nodes x p count args base o is e fits h typed based =
      let b = o.branch f p count e is in
      let each : IsReadable s (branch p b.inner b.rest) = subst (IsReadable s) b.is h in
      record {
        rest = b.rest;
        rest-is = b.rest-is;
        each = each.2;
        is = ap (suffixed s a b.rest)
            (based b.inner b.inner-is (headed p b.inner b.rest (subst (IsTypeOrNothing s) b.is fits)) each.0 each.1
            ∙ ap (base_type s a p b.inner) (typed b.inner b.inner-is each.1))
            ∙ sym (type.type_branch s a p b.inner b.rest) ∙ ap (type_of s a) (sym b.is);
      }

  -- a base that is one word, whatever stands below its production
  pub word_split : (f : Forest) (nodes : List TreeNode) (x : Opened) (p count : ℕ) (base : SigType) → Opens nodes x
      → x.node ≡ Branch p count → preorder f ≡ nodes → IsReadable s f
      → ((b : Forest) (args : List SigType) → base_type s a p b args ≡ base) → TypeSplit f x.after.now base
  word_split f nodes x p count base o is e h based =
      let b = o.branch f p count e is in
      let each : IsReadable s (branch p b.inner b.rest) = subst (IsReadable s) b.is h in
      record {
        rest = b.rest;
        rest-is = b.rest-is;
        each = each.2;
        is = ap (suffixed s a b.rest) (sym (based b.inner (types_in s a b.inner)))
            ∙ sym (type.type_branch s a p b.inner b.rest) ∙ ap (type_of s a) (sym b.is);
      }

  pub empty_type : (f : Forest) → preorder f ≡ [] → Prim prim.Void ≡ type_of s a f
  empty_type f e = sym (ap (type_of s a) (no_forest f e) ∙ type.type_none s a)

  pub leaf_type : (f : Forest) (nodes : List TreeNode) (x : Opened) (token : ℕ) → Opens nodes x → preorder f ≡ nodes → x.node ≡ Leaf token → Prim prim.Void ≡ type_of s a f
  leaf_type f nodes x token o e is =
      let b = o.leaf f token e is in
      sym (ap (type_of s a) b.is ∙ type.type_leaf s a token b.after)

  pub other_type : (f : Forest) (nodes : List TreeNode) (x : Opened) → Opens nodes x → preorder f ≡ nodes → ((p count : ℕ) → x.node ≡ Branch p count → ⊥)
      → Prim prim.Void ≡ type_of s a f
  other_type f nodes x o e apart = go x.node refl
    where
      go : (node : TreeNode) → x.node ≡ node → Prim prim.Void ≡ type_of s a f
      go (Branch p count) is = absurd (apart p count is)
      go (Leaf token) is = leaf_type f nodes x token o e is

  -- ---- suffixes

  -- what is left goes round `of`, and the whole comes of it
  pub record Wraps (whole : SigType) (left : List TreeNode) (of : SigType) : Type 0 where
    pub rest : Forest
    pub is : preorder rest ≡ left
    pub each : IsReadable s rest
    pub same : suffixed s a rest of ≡ whole

  pub wraps_start : (f : Forest) (nodes : List TreeNode) (base : SigType) → preorder f ≡ nodes → IsReadable s f → Wraps (suffixed s a f base) nodes base
  wraps_start f nodes base e h = record { rest = f; is = e; each = h; same = refl }

  pub wraps_take : (whole : SigType) (left : List TreeNode) (x : Opened) (of with : SigType) → Opens left x → is_suffix x.node ≡ true
      → ((b : Forest) → preorder b ≡ x.below.now → IsSoundAt s x.node b → IsReadable s b → with ≡ suffix_at s a x.node b of) → Wraps whole left of → Wraps whole x.after.now with
  wraps_take whole left x of with o known wrapped w =
      let r = suffix_node x.node known in
      let b = o.branch w.rest r.0 r.1 w.is r.2 in
      let each : IsReadable s (branch r.0 b.inner b.rest) = subst (IsReadable s) b.is w.each in
      record {
        rest = b.rest;
        is = b.rest-is;
        each = each.2;
        same = ap (suffixed s a b.rest) (wrapped b.inner b.inner-is (subst (λ node. IsSoundAt s node b.inner) (sym r.2) each.0) each.1 ∙ ap (λ node. suffix_at s a node b.inner of) r.2)
            ∙ sym (type.suffixed_own s a r.0 b.inner b.rest of r.3) ∙ ap (λ g. suffixed s a g of) (sym b.is) ∙ w.same;
      }

  pub wraps_go_in : (whole : SigType) (left : List TreeNode) (x : Opened) (of : SigType) → Opens left x → is_suffix x.node ≡ false
      → Wraps whole left of → Wraps whole x.behind.now of
  wraps_go_in whole left x of o other w = go x.node refl
    where
      go : (node : TreeNode) → x.node ≡ node → Wraps whole x.behind.now of
      go (Leaf token) is =
          let b = o.leaf w.rest token w.is is in
          record {
            rest = b.after;
            is = b.rest;
            each = subst (IsReadable s) b.is w.each;
            same = sym (type.suffixed_leaf s a token b.after of) ∙ ap (λ g. suffixed s a g of) (sym b.is) ∙ w.same;
          }
      go (Branch q count) is =
          let b = o.branch w.rest q count w.is is in
          let each : IsReadable s (branch q b.inner b.rest) = subst (IsReadable s) b.is w.each in
          let apart : is_among suffixes q ≡ false = ap is_suffix (sym is) ∙ other in
          record {
            rest = joined b.inner b.rest;
            is = b.behind-is;
            each = of_joined (IsSound s) b.inner b.rest each.1 each.2;
            same = sym (type.suffixed_other s a q b.inner b.rest of apart) ∙ ap (λ g. suffixed s a g of) (sym b.is) ∙ w.same;
          }

  pub wraps_end : (whole : SigType) (left : List TreeNode) (of : SigType) → left ≡ [] → Wraps whole left of → of ≡ whole
  wraps_end whole left of e w =
      sym (type.suffixed_none s a of) ∙ ap (λ g. suffixed s a g of) (sym (no_forest w.rest (w.is ∙ e))) ∙ w.same

  pub modreq_is : (node : TreeNode) (f : Forest) (of : SigType) → is_of TYPE_SUFFIX_MODREQ node ≡ true → Mod true (the_owner s a f) of ≡ suffix_at s a node f of
  modreq_is node f of e = let b = is_branch TYPE_SUFFIX_MODREQ node e in ap (λ m. suffix_at s a m f of) (sym b.1)

  pub modopt_is : (node : TreeNode) (f : Forest) (of : SigType) → is_of TYPE_SUFFIX_MODOPT node ≡ true → Mod false (the_owner s a f) of ≡ suffix_at s a node f of
  modopt_is node f of e = let b = is_branch TYPE_SUFFIX_MODOPT node e in ap (λ m. suffix_at s a m f of) (sym b.1)

  -- ---- the first owner

  abbrev pub Owned : Forest → List TreeNode → Type 0
  Owned f left = SoFar (IsSound s) (owners_in s a) (owners_in s a f) left []

  pub owners_start : (f : Forest) (nodes : List TreeNode) → preorder f ≡ nodes → IsReadable s f → Owned f nodes
  owners_start f nodes e h = starts (IsSound s) (owners_in s a) (owners_in s a f) f nodes [] e h refl

  pub owners_go_in : (f : Forest) (left : List TreeNode) (x : Opened) → Opens left x → is_of SPEC_TYPE_NAME x.node ≡ false
      → is_of SPEC_TYPE x.node ≡ false → Owned f left → Owned f x.behind.now
  owners_go_in f left x o m k sf =
      goes_in (IsSound s) (owners_in s a) (owners_in s a f) left x [] o (type.owners_leaf s a)
      (λ q count b after is. type.owners_other s a q b after (flipped SPEC_TYPE_NAME q (is_other SPEC_TYPE_NAME x.node q count m is))
      (flipped SPEC_TYPE q (is_other SPEC_TYPE x.node q count k is))) sf

  pub no_owner : (f : Forest) (left : List TreeNode) (name : TypeName) → left ≡ [] → Owned f left → name ≡ module_name → Name name ≡ the_owner s a f
  no_owner f left name e sf is =
      ap (λ x. Name x) is ∙ ap (first_owner) (ends (IsSound s) (owners_in s a) (owners_in s a f) left [] e (type.owners_none s a) sf)

  pub name_is_owner : (f : Forest) (left : List TreeNode) (x : Opened) (count : ℕ) (name : TypeName) → Opens left x → x.node ≡ Branch SPEC_TYPE_NAME count
      → ((b : Forest) → preorder b ≡ x.below.now → HasBodies s b → name ≡ type_name s b) → Owned f left → Name name ≡ the_owner s a f
  name_is_owner f left x count name o is named sf =
      let b = o.branch sf.rest SPEC_TYPE_NAME count sf.is is in
      let h : IsReadable s (branch SPEC_TYPE_NAME b.inner b.rest) = subst (IsReadable s) b.is sf.each in
      ap (λ y. Name y) (named b.inner b.inner-is (readable_bodies s b.inner h.1))
      ∙ ap (first_owner) (sym (type.owners_of_name s a b.inner b.rest) ∙ ap (owners_in s a) (sym b.is) ∙ sf.same)

  -- below such a production stands one type
  rule_spec : ilasm SPEC_TYPE ≡ Some (rule_of n.SPEC (Nonterminal n.TYPE ∷ []))
  unfolding ilasm rule_by
  rule_spec = refl

  pub one_type_production : (p : ℕ) → head_of p ≡ Some n.TYPE → p ≡ TYPE
  unfolding ilasm
  one_type_production p e = one_in _ _ _ n.TYPE TYPE p e refl

  pub one_type : (b : Forest) → FitsBody s SPEC_TYPE b → types_in s a b ≡ the_type s a b ∷ []
  one_type b h = go b (fits_rule s SPEC_TYPE n.SPEC (Nonterminal n.TYPE ∷ []) b rule_spec h)
    where
      go : (g : Forest) → Fits s (Nonterminal n.TYPE ∷ []) g → types_in s a g ≡ the_type s a g ∷ []
      go none i = absurd i
      go (leaf k after) i = absurd i
      go (branch p c none) i = one p c (one_type_production p i.0)
        where
          one : (q : ℕ) (d : Forest) → q ≡ TYPE → types_in s a (branch q d none) ≡ the_type s a (branch q d none) ∷ []
          one q d e =
              let all : types_in s a (branch q d none) ≡ type_of s a d ∷ [] =
              ap (λ r. types_in s a (branch r d none)) e ∙ type.types_own s a d none ∙ ap (λ ts. type_of s a d ∷ ts) (type.types_none s a) in
              all ∙ ap (λ ts. first_type s a ts ∷ []) (sym all)
      go (branch p c (leaf k after)) i = absurd i.1
      go (branch p c (branch q d after)) i = absurd i.1

  pub type_is_owner : (f : Forest) (left : List TreeNode) (x : Opened) (count : ℕ) (of : SigType) → Opens left x → x.node ≡ Branch SPEC_TYPE count
      → ((b : Forest) → preorder b ≡ x.below.now → IsReadable s b → of ≡ the_type s a b) → Owned f left → Spec of ≡ the_owner s a f
  type_is_owner f left x count of o is typed sf =
      let b = o.branch sf.rest SPEC_TYPE count sf.is is in
      let h : IsReadable s (branch SPEC_TYPE b.inner b.rest) = subst (IsReadable s) b.is sf.each in
      ap (λ y. Spec y) (typed b.inner b.inner-is h.1)
      ∙ ap (first_owner) (ap (λ ts. map Spec ts ++ owners_in s a b.rest) (sym (one_type b.inner h.0.0))
      ∙ sym (type.owners_of_type s a b.inner b.rest) ∙ ap (owners_in s a) (sym b.is) ∙ sf.same)
