-- The depths of types with suffixes, and of the owners of modifiers.
use Rattle.std.proofs.Common.{◌≡◌, ℕ, ◌+◌, ◌⊎◌, inl, inr, List, [], ◌∷◌, ◌++◌, map, max, min, ap, sym, subst, ◌∙◌, refl, arith}
use Rattle.std.specs.Prelude.{Bool, true, false, ◌==◌, ◌||◌, if◌then◌else◌, Option, Some}
use Rattle.std.proofs.lemmas.Bool.Decides.{Decides-eqb}
use Rattle.type_terms.proofs.Layers.{fold-Name, fold-Spec}
use Rattle.type_terms.specs.Depth.{depth, depth_step, largest, owner_depth, owner_depth_step}
use Rattle.type_terms.specs.declared.term.Owner.{Spec}
use Rattle.type_terms.specs.declared.term.SigType.{SigType}
use Rattle.il_lexer.specs.declared.word.TheConstants.{CLOSE_PAREN, MODOPT, MODREQ, OPEN_PAREN}
use Rattle.ilasm_grammar.specs.Grammar.{rule_of}
use Rattle.ilasm_grammar.specs.Ilasm.{ilasm, rule_by}
use Rattle.ilasm_grammar.specs.declared.nonterminals.TheConstants as n
use Rattle.ilasm_grammar.specs.declared.productions.TheConstants.{SPEC_TYPE, SPEC_TYPE_NAME, TYPE, TYPE_SUFFIX_MODOPT, TYPE_SUFFIX_MODREQ}
use Rattle.ilasm_grammar.specs.declared.symbol.Symbol.{Symbol}
use Rattle.ilasm_grammar.specs.declared.symbol.Symbol.TheVariants.{Terminal, Nonterminal}
use Rattle.ilasm_grammar.specs.declared.terminals.TheConstants as t
use Rattle.ilasm_grammar.specs.declared.tree.TreeNode.{TreeNode}
use Rattle.ilasm_grammar.specs.declared.tree.TreeNode.TheVariants.{Branch, Leaf}
use Rattle.source_model.specs.Forest.{Forest, none, leaf, branch, child, is_among, joined, part, parts_outside, preorder}
use Rattle.source_model.specs.Laws.{ForestsJoin}
use Rattle.source_model.specs.Names.{type_name}
use Rattle.source_model.specs.Nodes.{Around}
use Rattle.source_model.specs.Source.{Source}
use Rattle.source_model.specs.TypeRules.{type_too_deep}
use Rattle.source_model.specs.Types.{first_owner, owners_in, suffix, suffixed, suffixes, the_owner, type_of, types_in}
use Rattle.source_nodes.specs.Derived.{Fits, FitsBody, HasBodies}
use Rattle.source_nodes.specs.Least.{least, sooner}
use Rattle.source_syntax.specs.Suffixes.{is_suffix}
use Rattle.source_nodes.specs.Walk.{Opens}
use Rattle.source_nodes.specs.declared.walk.Opened.{Opened}
use Rattle.source_nodes.proofs.Collecting.{no_forest, of_joined}
use Rattle.source_syntax.proofs.LeastLemmas.{least_append, sooner_assoc}
use Rattle.source_syntax.proofs.TypeLemmas as type
use Rattle.source_syntax.proofs.TypeWalks.{flipped, one_type_production}
use Rattle.source_nodes.proofs.WrittenNames.{fits_rule}
use Rattle.check_visitor.specs.Surroundings.{found_in}
use Rattle.check_names.specs.TypeDepths.{AreDepths, is_modifier, modifier_depth}
use Rattle.check_names.specs.declared.type_depths.Depths.{Depths}
use Rattle.check_visitor.proofs.AskingLemmas.{nothing_more}
use Rattle.check_names.proofs.DepthLemmas.{found_into, found_other, suffix_is}
use Rattle.check_names.proofs.DepthRules.{OnlyInSuffixes, is_a_spec}

module _ (s : Source) where
  abbrev found : Around → Forest → List ℕ
  found a f = found_in type_too_deep s a f

  -- what is left goes round `type`, and the whole comes of it
  pub record Wraps (a : Around) (whole : ℕ) (tokens : Option ℕ) (left : List TreeNode) (of : Depths) : Type 0 where
    pub rest : Forest
    pub is : preorder rest ≡ left
    pub bodies : HasBodies s rest
    pub only : OnlyInSuffixes rest
    pub type : SigType
    pub depth-is : of.depth ≡ min (depth type) 101
    pub same : depth (suffixed s a rest type) ≡ whole
    pub broken : sooner of.broken (least (found a rest)) ≡ tokens

  pub wraps_start : (a : Around) (f : Forest) (nodes : List TreeNode) (base : Depths) (t : SigType) → preorder f ≡ nodes → HasBodies s f → OnlyInSuffixes f → base.depth ≡ min (depth t) 101
      → Wraps a (depth (suffixed s a f t)) (sooner base.broken (least (found a f))) nodes base
  wraps_start a f nodes base t e h only deep = record {
    rest = f;
    is = e;
    bodies = h;
    only = only;
    type = t;
    depth-is = deep;
    same = refl;
    broken = refl;
  }

  nothing_before : {X : Type 0} (xs ys : List X) → xs ++ ys ≡ [] → (xs ≡ []) × (ys ≡ [])
  nothing_before [] ys e = (refl, e)
  nothing_before (x ∷ xs) ys e = absurd cc

  only_behind : (p : ℕ) (b a : Forest) → OnlyInSuffixes (branch p b a) → OnlyInSuffixes a
  only_behind p b a e = (nothing_before (if is_among (TYPE ∷ []) p then part p b ∷ [] else if is_among suffixes p then [] else parts_outside suffixes (TYPE ∷ []) b) (parts_outside suffixes (TYPE ∷ []) a) e).1

  -- a production that is no suffix is no type
  only_apart : (p : ℕ) (b a : Forest) → OnlyInSuffixes (branch p b a) → (p == TYPE) ≡ false
  only_apart p b a e =
      go (is_among (TYPE ∷ []) p) refl
      (nothing_before (if is_among (TYPE ∷ []) p then part p b ∷ [] else if is_among suffixes p then [] else parts_outside suffixes (TYPE ∷ []) b) (parts_outside suffixes (TYPE ∷ []) a) e).0
    where
      go : (c : Bool) → is_among (TYPE ∷ []) p ≡ c → (if c then part p b ∷ [] else if is_among suffixes p then [] else parts_outside suffixes (TYPE ∷ []) b) ≡ [] → (p == TYPE) ≡ false
      go true is nothing = absurd cc
      go false is nothing = flipped TYPE p (first_false (TYPE == p) is)
        where
          first_false : (c : Bool) → (c || false) ≡ false → c ≡ false
          first_false true i = absurd cc
          first_false false i = refl

  only_below : (p : ℕ) (b a : Forest) → is_among suffixes p ≡ false → OnlyInSuffixes (branch p b a) → OnlyInSuffixes b
  only_below p b a other e =
      sym (ap (λ (c : Bool). if c then part p b ∷ [] else if is_among suffixes p then [] else parts_outside suffixes (TYPE ∷ []) b) apart
      ∙ ap (λ (c : Bool). if c then [] else parts_outside suffixes (TYPE ∷ []) b) other)
      ∙ (nothing_before (if is_among (TYPE ∷ []) p then part p b ∷ [] else if is_among suffixes p then [] else parts_outside suffixes (TYPE ∷ []) b) (parts_outside suffixes (TYPE ∷ []) a) e).0
    where
      apart : is_among (TYPE ∷ []) p ≡ false
      apart = ap (λ (c : Bool). c || false) (flipped p TYPE (only_apart p b a e))

  pub wraps_past : (a : Around) (whole : ℕ) (tokens : Option ℕ) (left : List TreeNode) (x : Opened) (by of next : Depths) (p count : ℕ) → Opens left x → x.node ≡ Branch p count
      → is_among suffixes p ≡ true
      → ((b : Forest) → preorder b ≡ x.below.now → HasBodies s b → AreDepths s a b (largest (map depth (types_in s a b))) by)
      → ((b : Forest) → preorder b ≡ x.below.now → FitsBody s p b → HasBodies s b → by.depth ≡ min (largest (map depth (types_in s a b))) 101
      → (t : SigType) → of.depth ≡ min (depth t) 101 → next.depth ≡ min (depth (suffix s p b (owners_in s a b) t)) 101)
      → next.broken ≡ sooner of.broken by.broken → Wraps a whole tokens left of → Wraps a whole tokens x.after.now next
  wraps_past a whole tokens left x by of next p count o is known inner deep broken w =
      let b = o.branch w.rest p count w.is is in
      let h : HasBodies s (branch p b.inner b.rest) = subst (HasBodies s) b.is w.bodies in
      let only : OnlyInSuffixes (branch p b.inner b.rest) = subst OnlyInSuffixes b.is w.only in
      let own = inner b.inner b.inner-is h.1 in
      record {
        rest = b.rest;
        is = b.rest-is;
        bodies = h.2;
        only = only_behind p b.inner b.rest only;
        type = suffix s p b.inner (owners_in s a b.inner) w.type;
        depth-is = deep b.inner b.inner-is h.0 h.1 own.depth-is w.type w.depth-is;
        same = ap depth (sym (type.suffixed_own s a p b.inner b.rest w.type known) ∙ ap (λ g. suffixed s a g w.type) (sym b.is)) ∙ w.same;
        broken = ap (λ k. sooner k (least (found a b.rest))) (broken ∙ ap (sooner of.broken) own.broken)
            ∙ sooner_assoc of.broken (least (found a b.inner)) (least (found a b.rest))
            ∙ ap (sooner of.broken) (sym (least_append (found a b.inner) (found a b.rest))
            ∙ ap least (sym (found_other s a p b.inner b.rest (only_apart p b.inner b.rest only)) ∙ ap (found a) (sym b.is)))
            ∙ w.broken;
      }

  pub wraps_into : ForestsJoin → (a : Around) (whole : ℕ) (tokens : Option ℕ) (left : List TreeNode) (x : Opened) (of : Depths) → Opens left x → is_suffix x.node ≡ false
      → Wraps a whole tokens left of → Wraps a whole tokens x.behind.now of
  wraps_into joins a whole tokens left x of o other w = go x.node refl
    where
      go : (node : TreeNode) → x.node ≡ node → Wraps a whole tokens x.behind.now of
      go (Leaf token) is =
          let b = o.leaf w.rest token w.is is in
          record {
            rest = b.after;
            is = b.rest;
            bodies = subst (HasBodies s) b.is w.bodies;
            only = subst OnlyInSuffixes b.is w.only;
            type = w.type;
            depth-is = w.depth-is;
            same = ap depth (sym (type.suffixed_leaf s a token b.after w.type) ∙ ap (λ g. suffixed s a g w.type) (sym b.is)) ∙ w.same;
            broken = ap (λ f. sooner of.broken (least (found a f))) (sym b.is) ∙ w.broken;
          }
      go (Branch q count) is =
          let b = o.branch w.rest q count w.is is in
          let h : HasBodies s (branch q b.inner b.rest) = subst (HasBodies s) b.is w.bodies in
          let only : OnlyInSuffixes (branch q b.inner b.rest) = subst OnlyInSuffixes b.is w.only in
          let apart : is_among suffixes q ≡ false = ap is_suffix (sym is) ∙ other in
          record {
            rest = joined b.inner b.rest;
            is = b.behind-is;
            bodies = of_joined (FitsBody s) b.inner b.rest h.1 h.2;
            only = joins.parts suffixes (TYPE ∷ []) b.inner b.rest
                ∙ ap (λ ps. ps ++ parts_outside suffixes (TYPE ∷ []) b.rest) (only_below q b.inner b.rest apart only) ∙ only_behind q b.inner b.rest only;
            type = w.type;
            depth-is = w.depth-is;
            same = ap depth (sym (type.suffixed_other s a q b.inner b.rest w.type apart) ∙ ap (λ g. suffixed s a g w.type) (sym b.is)) ∙ w.same;
            broken = ap (λ ks. sooner of.broken (least ks)) (sym (found_into s joins a q b.inner b.rest (only_apart q b.inner b.rest only)) ∙ ap (found a) (sym b.is)) ∙ w.broken;
          }

  pub wraps_end : (a : Around) (whole : ℕ) (tokens : Option ℕ) (left : List TreeNode) (of : Depths) → left ≡ [] → Wraps a whole tokens left of
      → (of.depth ≡ min whole 101) × (of.broken ≡ tokens)
  wraps_end a whole tokens left of e w =
      let nothing = no_forest w.rest (w.is ∙ e) in (
        w.depth-is ∙ ap (λ d. min d 101) (ap depth (sym (type.suffixed_none s a w.type) ∙ ap (λ g. suffixed s a g w.type) (sym nothing)) ∙ w.same),
        nothing_more of.broken ∙ ap (λ g. sooner of.broken (least (found a g))) (sym nothing) ∙ w.broken,
      )

  -- ---- modifiers

  abbrev modifier_body : ℕ → List Symbol
  modifier_body word = Terminal (t.WORDS + word) ∷ Terminal (t.WORDS + OPEN_PAREN) ∷ Nonterminal n.SPEC ∷ Terminal (t.WORDS + CLOSE_PAREN) ∷ []

  rule_modreq : ilasm TYPE_SUFFIX_MODREQ ≡ Some (rule_of n.TYPE_SUFFIX (modifier_body MODREQ))
  unfolding ilasm rule_by
  rule_modreq = refl

  rule_modopt : ilasm TYPE_SUFFIX_MODOPT ≡ Some (rule_of n.TYPE_SUFFIX (modifier_body MODOPT))
  unfolding ilasm rule_by
  rule_modopt = refl

  rule_spec : ilasm SPEC_TYPE ≡ Some (rule_of n.SPEC (Nonterminal n.TYPE ∷ []))
  unfolding ilasm rule_by
  rule_spec = refl

  -- the owner of a modifier: a name, or the type that stands alone in it
  abbrev IsOwner : Around → Forest → Type 0
  IsOwner a f =
      ((child (SPEC_TYPE ∷ []) f ≡ none) × (owner_depth (the_owner s a f) ≡ 0))
      ⊎ ((child (SPEC_TYPE ∷ []) f ≡ none → ⊥) × (owner_depth (the_owner s a f) ≡ largest (map depth (types_in s a f))))

  -- below `type` alone
  alone : (a : Around) (b : Forest) → Fits s (Nonterminal n.TYPE ∷ []) b → (c : Forest) × (b ≡ branch TYPE c none)
  alone a none h = absurd h
  alone a (leaf k f) h = absurd h
  alone a (branch p c (leaf k f)) h = absurd h.1
  alone a (branch p c (branch q d f)) h = absurd h.1
  alone a (branch p c none) h = (c, ap (λ q. branch q c none) (one_type_production s a p h.0))

  in_modifier : (a : Around) (j k l p : ℕ) (b : Forest) → ((p == SPEC_TYPE_NAME) || (p == SPEC_TYPE)) ≡ true → FitsBody s p b → IsOwner a (leaf j (leaf k (branch p b (leaf l none))))
  in_modifier a j k l p b known fits = go (p == SPEC_TYPE_NAME) refl
    where
      named : IsOwner a (leaf j (leaf k (branch SPEC_TYPE_NAME b (leaf l none))))
      named =
          inl (
            refl,
            ap (λ os. owner_depth (first_owner os))
                (type.owners_leaf s a j (leaf k (branch SPEC_TYPE_NAME b (leaf l none))) ∙ type.owners_leaf s a k (branch SPEC_TYPE_NAME b (leaf l none))
                ∙ type.owners_of_name s a b (leaf l none))
                ∙ fold-Name ℕ ℕ owner_depth_step depth_step (type_name s b),
          )

      typed : FitsBody s SPEC_TYPE b → IsOwner a (leaf j (leaf k (branch SPEC_TYPE b (leaf l none))))
      typed h =
          let c = alone a b (fits_rule s SPEC_TYPE n.SPEC (Nonterminal n.TYPE ∷ []) b rule_spec h) in
          let one = type_of s a c.0 in
          let only : types_in s a b ≡ one ∷ [] =
          ap (types_in s a) c.1 ∙ type.types_own s a c.0 none ∙ ap (λ ts. one ∷ ts) (type.types_none s a) in
          let owner : owner_depth (the_owner s a (leaf j (leaf k (branch SPEC_TYPE b (leaf l none))))) ≡ depth one =
          ap (λ os. owner_depth (first_owner os))
          (type.owners_leaf s a j (leaf k (branch SPEC_TYPE b (leaf l none))) ∙ type.owners_leaf s a k (branch SPEC_TYPE b (leaf l none))
          ∙ type.owners_of_type s a b (leaf l none) ∙ ap (λ ts. map Spec ts ++ owners_in s a (leaf l none)) only)
          ∙ fold-Spec ℕ ℕ owner_depth_step depth_step one in
          let all : largest (map depth (types_in s a (leaf j (leaf k (branch SPEC_TYPE b (leaf l none)))))) ≡ max (depth one) 0 =
          ap (λ ts. largest (map depth ts))
          (type.types_leaf s a j (leaf k (branch SPEC_TYPE b (leaf l none))) ∙ type.types_leaf s a k (branch SPEC_TYPE b (leaf l none))
          ∙ type.types_at s a SPEC_TYPE b (leaf l none) ∙ ap (λ ts. ts ++ types_in s a (leaf l none)) only
          ∙ ap (λ ts. (one ∷ []) ++ ts) (type.types_leaf s a l none ∙ type.types_none s a)) in
          let zero : max (depth one) 0 ≡ depth one = omega arith in
          inr (λ e. let clash : branch TYPE c.0 none ≡ none = sym c.1 ∙ e in cc, owner ∙ sym (all ∙ zero))

      go : (c : Bool) → (p == SPEC_TYPE_NAME) ≡ c → IsOwner a (leaf j (leaf k (branch p b (leaf l none))))
      go true e = subst (λ q. IsOwner a (leaf j (leaf k (branch q b (leaf l none))))) (sym ((Decides-eqb p SPEC_TYPE_NAME).0 e)) named
      go false e =
          let is : p ≡ SPEC_TYPE = (Decides-eqb p SPEC_TYPE).0 (sym (ap (λ (c : Bool). c || (p == SPEC_TYPE)) e) ∙ known) in
          subst (λ q. IsOwner a (leaf j (leaf k (branch q b (leaf l none))))) (sym is) (typed (subst (λ q. FitsBody s q b) is fits))

  owner_at : (a : Around) (word : ℕ) (f : Forest) → Fits s (modifier_body word) f → HasBodies s f → IsOwner a f
  owner_at a word none h each = absurd h
  owner_at a word (branch p b f) h each = absurd h
  owner_at a word (leaf j none) h each = absurd h.1
  owner_at a word (leaf j (branch p b f)) h each = absurd h.1
  owner_at a word (leaf j (leaf k none)) h each = absurd h.1.1
  owner_at a word (leaf j (leaf k (leaf l f))) h each = absurd h.1.1
  owner_at a word (leaf j (leaf k (branch p b none))) h each = absurd h.1.1.1
  owner_at a word (leaf j (leaf k (branch p b (branch q c f)))) h each = absurd h.1.1.1
  owner_at a word (leaf j (leaf k (branch p b (leaf l (leaf m f))))) h each = absurd h.1.1.1.1
  owner_at a word (leaf j (leaf k (branch p b (leaf l (branch q c f))))) h each = absurd h.1.1.1.1
  owner_at a word (leaf j (leaf k (branch p b (leaf l none)))) h each = in_modifier a j k l p b (is_a_spec p h.1.1.0) each.0

  owner_of : (a : Around) (p : ℕ) (f : Forest) → is_modifier p ≡ true → FitsBody s p f → HasBodies s f → IsOwner a f
  owner_of a p f known fits each = go (p == TYPE_SUFFIX_MODREQ) refl
    where
      go : (c : Bool) → (p == TYPE_SUFFIX_MODREQ) ≡ c → IsOwner a f
      go true e =
          let is = (Decides-eqb p TYPE_SUFFIX_MODREQ).0 e in
          owner_at a MODREQ f (fits_rule s TYPE_SUFFIX_MODREQ n.TYPE_SUFFIX (modifier_body MODREQ) f rule_modreq (subst (λ q. FitsBody s q f) is fits)) each
      go false e =
          let is : p ≡ TYPE_SUFFIX_MODOPT = (Decides-eqb p TYPE_SUFFIX_MODOPT).0 (sym (ap (λ (c : Bool). c || (p == TYPE_SUFFIX_MODOPT)) e) ∙ known) in
          owner_at a MODOPT f (fits_rule s TYPE_SUFFIX_MODOPT n.TYPE_SUFFIX (modifier_body MODOPT) f rule_modopt (subst (λ q. FitsBody s q f) is fits)) each

  pub no_modifier : (a : Around) (p : ℕ) (f : Forest) → is_modifier p ≡ false → 0 ≡ min (modifier_depth s a p f) 101
  no_modifier a p f e = sym (ap (λ (c : Bool). min (if c then owner_depth (the_owner s a f) else 0) 101) e)

  pub named_modifier : (a : Around) (p : ℕ) (f : Forest) → preorder (child (SPEC_TYPE ∷ []) f) ≡ [] → is_modifier p ≡ true → FitsBody s p f → HasBodies s f
      → 0 ≡ min (modifier_depth s a p f) 101
  named_modifier a p f empty known fits each =
      sym (ap (λ (c : Bool). min (if c then owner_depth (the_owner s a f) else 0) 101) known ∙ ap (λ d. min d 101) (go (owner_of a p f known fits each)))
    where
      go : IsOwner a f → owner_depth (the_owner s a f) ≡ 0
      go (inl h) = h.1
      go (inr h) = absurd (h.0 (no_forest (child (SPEC_TYPE ∷ []) f) empty))

  pub typed_modifier : (a : Around) (p : ℕ) (f : Forest) (d : ℕ) → (preorder (child (SPEC_TYPE ∷ []) f) ≡ [] → ⊥) → is_modifier p ≡ true → FitsBody s p f → HasBodies s f
      → d ≡ min (largest (map depth (types_in s a f))) 101 → d ≡ min (modifier_depth s a p f) 101
  typed_modifier a p f d some known fits each is =
      is ∙ ap (λ k. min k 101) (sym (go (owner_of a p f known fits each)))
      ∙ sym (ap (λ (c : Bool). min (if c then owner_depth (the_owner s a f) else 0) 101) known)
    where
      go : IsOwner a f → owner_depth (the_owner s a f) ≡ largest (map depth (types_in s a f))
      go (inl h) = absurd (some (ap preorder h.0))
      go (inr h) = h.1

  -- with a suffix around it
  pub suffixed_depth : (a : Around) (p : ℕ) (f : Forest) (t : SigType) (of modifier deepest result : ℕ) → modifier ≡ min (modifier_depth s a p f) 101 → of ≡ min (depth t) 101
      → deepest ≡ max of modifier → ((d : ℕ) → deepest ≡ min d 101 → result ≡ min (d + 1) 101) → result ≡ min (depth (suffix s p f (owners_in s a f) t)) 101
  suffixed_depth a p f t of modifier deepest result by deep both more =
      let m = modifier_depth s a p f in
      let same : deepest ≡ min (max m (depth t)) 101 = omega (arith, both, by, deep) in
      more (max m (depth t)) same ∙ ap (λ d. min d 101) (sym (suffix_is s p f (owners_in s a f) t))
