-- Walks through a forest for the depths of its types.
use Rattle.std.proofs.Common.{◌≡◌, ℕ, List, [], ◌∷◌, ◌++◌, map, max, min, ap, sym, subst, ◌∙◌, refl, arith}
use Rattle.std.specs.Prelude.{Bool, true, false, nat_lt, if◌then◌else◌, Option, None, Some}
use Rattle.type_terms.specs.Depth.{depth, largest}
use Rattle.type_terms.specs.declared.term.SigType.{SigType}
use Rattle.ilasm_grammar.specs.Grammar.{rule_of}
use Rattle.ilasm_grammar.specs.Ilasm.{ilasm, rule_by}
use Rattle.ilasm_grammar.specs.declared.nonterminals.TheConstants as n
use Rattle.ilasm_grammar.specs.declared.productions.TheConstants.{TYPE}
use Rattle.ilasm_grammar.specs.declared.symbol.Symbol.TheVariants.{Nonterminal}
use Rattle.ilasm_grammar.specs.declared.tree.TreeNode.{TreeNode}
use Rattle.ilasm_grammar.specs.declared.tree.TreeNode.TheVariants.{Branch, Leaf}
use Rattle.source_model.specs.Forest.{Forest, none, leaf, branch, first_token, joined, preorder}
use Rattle.source_model.specs.Laws.{ForestsJoin}
use Rattle.source_model.specs.Nodes.{Around}
use Rattle.source_model.specs.Source.{Source}
use Rattle.source_model.specs.TypeRules.{type_too_deep}
use Rattle.source_model.specs.Types.{base_type, suffixed, type_of, types_in}
use Rattle.source_nodes.specs.Derived.{FitsBody, HasBodies}
use Rattle.source_nodes.specs.Least.{least, sooner}
use Rattle.source_nodes.specs.Walk.{Opens, is_of}
use Rattle.source_nodes.specs.declared.walk.Opened.{Opened}
use Rattle.source_nodes.proofs.Collecting.{is_other, no_forest, of_joined}
use Rattle.source_syntax.proofs.LeastLemmas.{least_append, sooner_assoc}
use Rattle.source_syntax.proofs.TypeLemmas as type
use Rattle.source_syntax.proofs.TypeWalks.{flipped}
use Rattle.source_nodes.proofs.WrittenNames.{fits_rule}
use Rattle.check_visitor.specs.Surroundings.{found_in}
use Rattle.check_names.specs.TypeDepths.{AreDepths, base_depth, own_token}
use Rattle.check_names.specs.declared.type_depths.Depths.{Depths}
use Rattle.check_visitor.proofs.AskingLemmas.{nothing_more}
use Rattle.check_names.proofs.DepthLemmas.{base_is, found_branch, found_into, found_other}
use Rattle.check_names.proofs.DepthRules.{OnlyInSuffixes, no_type, only_in_suffixes}

module _ (s : Source) where
  abbrev found : Around → Forest → List ℕ
  found a f = found_in type_too_deep s a f

  past : (d : ℕ) → nat_lt 100 (min d 101) ≡ nat_lt 100 d
  past d = grind arith

  own_least : (c : Bool) (k : ℕ) → (if c then Some k else None) ≡ least (if c then k ∷ [] else [])
  own_least true k = refl
  own_least false k = refl

  -- what a type has, its own token with what is in it
  own_found : (a : Around) (b rest : Forest) (d token : ℕ) (inner : Option ℕ) → d ≡ min (depth (type_of s a b)) 101 → token ≡ first_token b → inner ≡ least (found a b)
      → sooner (sooner (own_token d token) inner) (least (found a rest)) ≡ least (found a (branch TYPE b rest))
  own_found a b rest d token inner deep first is =
      let own = if nat_lt 100 (depth (type_of s a b)) then first_token b ∷ [] else [] in
      let own_is : own_token d token ≡ least own =
      ap (λ k. own_token d k) first ∙ ap (λ (c : Bool). if c then Some (first_token b) else None) (ap (nat_lt 100) deep ∙ past (depth (type_of s a b)))
      ∙ own_least (nat_lt 100 (depth (type_of s a b))) (first_token b) in
      ap (λ o. sooner (sooner o inner) (least (found a rest))) own_is
      ∙ ap (λ o. sooner (sooner (least own) o) (least (found a rest))) is
      ∙ ap (λ o. sooner o (least (found a rest))) (sym (least_append own (found a b)))
      ∙ sym (least_append (own ++ found a b) (found a rest))
      ∙ ap least (sym (found_branch s a TYPE b rest))

  deepest : (all d l : ℕ) → max (max all (min d 101)) (min l 101) ≡ max all (min (max d l) 101)
  deepest all d l = omega arith

  -- with what is left the depths so far are those of the whole
  pub record Deepens (a : Around) (whole : ℕ) (tokens : Option ℕ) (left : List TreeNode) (all : Depths) : Type 0 where
    pub rest : Forest
    pub is : preorder rest ≡ left
    pub bodies : HasBodies s rest
    pub depth-is : max all.depth (min (largest (map depth (types_in s a rest))) 101) ≡ whole
    pub broken : sooner all.broken (least (found a rest)) ≡ tokens

  pub deepens_start : (a : Around) (f : Forest) (nodes : List TreeNode) (all : Depths) → preorder f ≡ nodes → HasBodies s f → all.depth ≡ 0 → all.broken ≡ None
      → Deepens a (min (largest (map depth (types_in s a f))) 101) (least (found a f)) nodes all
  deepens_start a f nodes all e h zero none_yet = record {
    rest = f;
    is = e;
    bodies = h;
    depth-is = omega (arith, zero);
    broken = ap (λ o. sooner o (least (found a f))) none_yet;
  }

  pub deepens_into : ForestsJoin → (a : Around) (whole : ℕ) (tokens : Option ℕ) (left : List TreeNode) (x : Opened) (all : Depths) → Opens left x → is_of TYPE x.node ≡ false
      → Deepens a whole tokens left all → Deepens a whole tokens x.behind.now all
  deepens_into joins a whole tokens left x all o other d = go x.node refl
    where
      go : (node : TreeNode) → x.node ≡ node → Deepens a whole tokens x.behind.now all
      go (Leaf token) is =
          let b = o.leaf d.rest token d.is is in
          record {
            rest = b.after;
            is = b.rest;
            bodies = subst (HasBodies s) b.is d.bodies;
            depth-is = ap (λ ts. max all.depth (min (largest (map depth ts)) 101)) (sym (type.types_leaf s a token b.after) ∙ ap (types_in s a) (sym b.is)) ∙ d.depth-is;
            broken = ap (λ f. sooner all.broken (least (found a f))) (sym b.is) ∙ d.broken;
          }
      go (Branch q count) is =
          let b = o.branch d.rest q count d.is is in
          let h : HasBodies s (branch q b.inner b.rest) = subst (HasBodies s) b.is d.bodies in
          let apart = flipped TYPE q (is_other TYPE x.node q count other is) in
          record {
            rest = joined b.inner b.rest;
            is = b.behind-is;
            bodies = of_joined (FitsBody s) b.inner b.rest h.1 h.2;
            depth-is = ap (λ ts. max all.depth (min (largest (map depth ts)) 101)) (sym (type.types_other s a q b.inner b.rest apart) ∙ ap (types_in s a) (sym b.is)) ∙ d.depth-is;
            broken = ap (λ ks. sooner all.broken (least ks)) (sym (found_into s joins a q b.inner b.rest apart) ∙ ap (found a) (sym b.is)) ∙ d.broken;
          }

  pub deepens_past : (a : Around) (whole : ℕ) (tokens : Option ℕ) (left : List TreeNode) (x : Opened) (all of next : Depths) (token count : ℕ) → Opens left x
      → x.node ≡ Branch TYPE count
      → ((b : Forest) → preorder b ≡ x.below.now → FitsBody s TYPE b → HasBodies s b → AreDepths s a b (depth (type_of s a b)) of)
      → ((b : Forest) → preorder b ≡ x.below.now → token ≡ first_token b)
      → next.depth ≡ max all.depth of.depth → next.broken ≡ sooner all.broken (sooner (own_token of.depth token) of.broken)
      → Deepens a whole tokens left all → Deepens a whole tokens x.after.now next
  deepens_past a whole tokens left x all of next token count o is inner first deep broken d =
      let b = o.branch d.rest TYPE count d.is is in
      let h : HasBodies s (branch TYPE b.inner b.rest) = subst (HasBodies s) b.is d.bodies in
      let own = inner b.inner b.inner-is h.0 h.1 in
      let l = largest (map depth (types_in s a b.rest)) in
      record {
        rest = b.rest;
        is = b.rest-is;
        bodies = h.2;
        depth-is = ap (λ k. max k (min l 101)) (deep ∙ ap (max all.depth) own.depth-is) ∙ deepest all.depth (depth (type_of s a b.inner)) l
            ∙ ap (λ ts. max all.depth (min (largest (map depth ts)) 101)) (sym (type.types_own s a b.inner b.rest) ∙ ap (types_in s a) (sym b.is)) ∙ d.depth-is;
        broken = ap (λ o. sooner o (least (found a b.rest))) broken
            ∙ sooner_assoc all.broken (sooner (own_token of.depth token) of.broken) (least (found a b.rest))
            ∙ ap (sooner all.broken) (own_found a b.inner b.rest of.depth token of.broken own.depth-is (first b.inner b.inner-is) own.broken
            ∙ ap (λ f. least (found a f)) (sym b.is))
            ∙ d.broken;
      }

  pub deepens_end : (a : Around) (f : Forest) (left : List TreeNode) (all : Depths) → left ≡ []
      → Deepens a (min (largest (map depth (types_in s a f))) 101) (least (found a f)) left all → AreDepths s a f (largest (map depth (types_in s a f))) all
  deepens_end a f left all e d =
      let nothing = no_forest d.rest (d.is ∙ e) in
      let none_left : largest (map depth (types_in s a d.rest)) ≡ 0 = ap (λ ts. largest (map depth ts)) (ap (types_in s a) nothing ∙ type.types_none s a) in
      let same : all.depth ≡ max all.depth (min (largest (map depth (types_in s a d.rest))) 101) = omega (arith, none_left) in
      record {
        depth-is = same ∙ d.depth-is;
        broken = nothing_more all.broken ∙ ap (λ g. sooner all.broken (least (found a g))) (sym nothing) ∙ d.broken;
      }

  -- ---- a type

  rule_type : ilasm TYPE ≡ Some (rule_of n.TYPE (Nonterminal n.TYPE_BASE ∷ Nonterminal n.TYPE_SUFFIX_STAR ∷ []))
  unfolding ilasm rule_by
  rule_type = refl

  -- a base, and the suffixes behind it
  pub record Split (a : Around) (f : Forest) (x : Opened) (p : ℕ) : Type 0 where
    pub inner : Forest
    pub rest : Forest
    pub inner-is : preorder inner ≡ x.below.now
    pub rest-is : preorder rest ≡ x.after.now
    pub bodies : HasBodies s inner × HasBodies s rest
    pub only : OnlyInSuffixes rest
    pub type : type_of s a f ≡ suffixed s a rest (base_type s a p inner (types_in s a inner))
    pub found-is : found a f ≡ found a inner ++ found a rest

  pub split : (a : Around) (f : Forest) (nodes : List TreeNode) (x : Opened) (p count : ℕ) → Opens nodes x → x.node ≡ Branch p count → preorder f ≡ nodes
      → FitsBody s TYPE f → HasBodies s f → Split a f x p
  split a f nodes x p count o is e fits h =
      let b = o.branch f p count e is in
      let each : HasBodies s (branch p b.inner b.rest) = subst (HasBodies s) b.is h in
      let own = fits_rule s TYPE n.TYPE (Nonterminal n.TYPE_BASE ∷ Nonterminal n.TYPE_SUFFIX_STAR ∷ []) (branch p b.inner b.rest) rule_type (subst (FitsBody s TYPE) b.is fits) in
      record {
        inner = b.inner;
        rest = b.rest;
        inner-is = b.inner-is;
        rest-is = b.rest-is;
        bodies = (each.1, each.2);
        only = only_in_suffixes s b.rest own.1 each.2;
        type = ap (type_of s a) b.is ∙ type.type_branch s a p b.inner b.rest;
        found-is = ap (found a) b.is ∙ found_other s a p b.inner b.rest (no_type p n.TYPE_BASE own.0 refl);
      }

  -- a type isn't empty, and doesn't begin with a token
  pub no_empty : (f : Forest) → preorder f ≡ [] → FitsBody s TYPE f → ⊥
  no_empty f e fits = fits_rule s TYPE n.TYPE (Nonterminal n.TYPE_BASE ∷ Nonterminal n.TYPE_SUFFIX_STAR ∷ []) none rule_type (subst (FitsBody s TYPE) (no_forest f e) fits)

  pub no_token : (f : Forest) (nodes : List TreeNode) (x : Opened) → Opens nodes x → ((p count : ℕ) → x.node ≡ Branch p count → ⊥) → preorder f ≡ nodes → FitsBody s TYPE f → ⊥
  no_token f nodes x o apart e fits = go x.node refl
    where
      go : (node : TreeNode) → x.node ≡ node → ⊥
      go (Branch p count) is = apart p count is
      go (Leaf token) is =
          let b = o.leaf f token e is in
          fits_rule s TYPE n.TYPE (Nonterminal n.TYPE_BASE ∷ Nonterminal n.TYPE_SUFFIX_STAR ∷ []) (leaf token b.after) rule_type (subst (FitsBody s TYPE) b.is fits)

  pub split_depths : (a : Around) (f : Forest) (x : Opened) (p : ℕ) (args base result : Depths) (sp : Split a f x p)
      → AreDepths s a sp.inner (largest (map depth (types_in s a sp.inner))) args
      → ((d : ℕ) → args.depth ≡ min d 101 → base.depth ≡ min (base_depth p d) 101) → base.broken ≡ args.broken
      → ((t : SigType) → base.depth ≡ min (depth t) 101
      → (result.depth ≡ min (depth (suffixed s a sp.rest t)) 101) × (result.broken ≡ sooner base.broken (least (found a sp.rest))))
      → AreDepths s a f (depth (type_of s a f)) result
  split_depths a f x p args base result sp in_args deep same after =
      let t = base_type s a p sp.inner (types_in s a sp.inner) in
      let last = after t (deep (largest (map depth (types_in s a sp.inner))) in_args.depth-is ∙ ap (λ d. min d 101) (sym (base_is s a p sp.inner (types_in s a sp.inner)))) in
      record {
        depth-is = last.0 ∙ ap (λ u. min (depth u) 101) (sym sp.type);
        broken = last.1 ∙ ap (λ o. sooner o (least (found a sp.rest))) (same ∙ in_args.broken) ∙ sym (least_append (found a sp.inner) (found a sp.rest))
            ∙ ap least (sym sp.found-is);
      }
