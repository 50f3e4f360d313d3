-- Members of which no two are of one kind.
use Rattle.std.proofs.Common.{◌≡◌, ℕ, suc, ◌+◌, ◌≤◌, List, [], ◌∷◌, ◌++◌, Option, None, Some, length, take, drop, refl, ap, sym, ◌∙◌, arith}
use Rattle.std.proofs.lemmas.List.{take-append-drop}
use Rattle.std.specs.Cmp.{IsTotalOrder}
use Rattle.std.specs.Prelude.{Bool, true, false, ◌&&◌, ◌||◌, if◌then◌else◌}
use Rattle.type_terms.specs.Order.{term_order}
use Rattle.ilasm_grammar.specs.declared.tree.TreeNode.{TreeNode}
use Rattle.ilasm_grammar.specs.declared.tree.TreeNode.TheVariants.{Branch, Leaf}
use Rattle.source_model.specs.DeclaredTwice.{members_twice_in}
use Rattle.source_model.specs.Forest as tree
use Rattle.source_model.specs.Forest.{Forest, Part, part, is_among, joined, parts, preorder}
use Rattle.source_model.specs.Laws.{ForestOpens, ForestsJoin}
use Rattle.source_model.specs.Nodes.{Around}
use Rattle.source_model.specs.Source.{Source}
use Rattle.source_nodes.specs.Least.{least}
use Rattle.source_nodes.proofs.Collecting.{no_forest}
use Rattle.check_members.proofs.MemberWalks.{forests_other, forests_own}
use Rattle.check_members.proofs.TwiceLemmas.{twice_is}
use Rattle.check_members.specs.LoneMembers.{is_met}
use Rattle.check_members.specs.MemberKinds.{again_after, again_in, again_with, declarers, forests_of, parts_at, places, token_of, unbroken_member, with_member}
use Rattle.check_members.specs.declared.lone_members.Kinds.{Kinds}
use Rattle.check_members.specs.declared.member_kinds.Kind.{Kind}
use Rattle.check_members.specs.declared.member_kinds.Kind.TheVariants.{Field, Method, Property, Event}
use Rattle.check_members.specs.declared.member_kinds.Level.{Level}
use Rattle.check_members.specs.declared.member_sets.Member.{Member}

abbrev one_if : Bool → ℕ
one_if b = if b then 1 else 0

joined_counts : (m d : Bool) (n : ℕ) → (m && d) ≡ false → one_if m + (one_if d + n) ≡ one_if (m || d) + n
joined_counts true true n e = absurd cc
joined_counts true false n e = omega arith
joined_counts false true n e = omega arith
joined_counts false false n e = omega arith

first_counts : (kind : Kind) (p : ℕ) (b : Forest) (ps : List Part) (d : Bool) → is_among (declarers kind) p ≡ d
    → length (forests_of kind (part p b ∷ ps)) ≡ one_if d + length (forests_of kind ps)
first_counts kind p b ps true e =
    let one : suc (length (forests_of kind ps)) ≡ 1 + length (forests_of kind ps) = omega arith in
    ap length (forests_own kind p b ps e) ∙ one
first_counts kind p b ps false e =
    let none : length (forests_of kind ps) ≡ 0 + length (forests_of kind ps) = omega arith in
    ap length (forests_other kind p b ps e) ∙ none

module _ (level : Level) where
  -- what is left, and how many of each kind there are with those that were met
  pub record LeftLone (f : Forest) (left : List TreeNode) (met : Kinds) : Type 0 where
    pub rest : Forest
    pub is : preorder rest ≡ left
    pub counts : (kind : Kind) → length (forests_of kind (parts_at level f)) ≡ one_if (is_met met kind) + length (forests_of kind (parts_at level rest))

  nothing_met : (kind : Kind) (n : ℕ) → n ≡ one_if (is_met (record { field = false; method = false; property = false; event = false }) kind) + n
  nothing_met Field n = omega arith
  nothing_met Method n = omega arith
  nothing_met Property n = omega arith
  nothing_met Event n = omega arith

  module _ (f : Forest) where
    pub lone_start : (nodes : List TreeNode) → preorder f ≡ nodes → LeftLone f nodes (record { field = false; method = false; property = false; event = false })
    lone_start nodes e = record { rest = f; is = e; counts = λ kind. nothing_met kind (length (forests_of kind (parts_at level f))) }

    pub lone_end : (left : List TreeNode) (met : Kinds) → left ≡ [] → LeftLone f left met → (kind : Kind) → length (forests_of kind (parts_at level f)) ≤ 1
    lone_end left met e l kind =
        let counts : length (forests_of kind (parts_at level f)) ≡ one_if (is_met met kind) + 0 =
        l.counts kind ∙ ap (λ (g : Forest). one_if (is_met met kind) + length (forests_of kind (parts_at level g))) (no_forest l.rest (l.is ∙ e)) in
        go (is_met met kind) (length (forests_of kind (parts_at level f))) counts
      where
        go : (b : Bool) (n : ℕ) → n ≡ one_if b + 0 → n ≤ 1
        go true n e = omega (arith, e)
        go false n e = omega (arith, e)

    module _ (opens : ForestOpens) (left rest : List TreeNode) (met : Kinds) (l : LeftLone f left met) where
      pub lone_leaf : (token : ℕ) → left ≡ Leaf token ∷ rest → LeftLone f rest met
      lone_leaf token e =
          let b = opens.leaf l.rest token rest (l.is ∙ e) in
          record {
            rest = b.after;
            is = b.rest;
            counts = λ kind. l.counts kind ∙ ap (λ (g : Forest). one_if (is_met met kind) + length (forests_of kind (parts_at level g))) b.is;
          }

      module _ (p count : ℕ) (e : left ≡ Branch p count ∷ rest) where
        pub lone_in : ForestsJoin → is_among (places level) p ≡ false → LeftLone f rest met
        lone_in joins other =
            let b = opens.branch l.rest p count rest (l.is ∙ e) in
            let same : parts_at level (joined b.below b.after) ≡ parts_at level (tree.branch p b.below b.after) =
            joins.parts [] (places level) b.below b.after
            ∙ sym (ap (λ (c : Bool). (if c then part p b.below ∷ [] else parts (places level) b.below) ++ parts (places level) b.after) other) in
            record {
              rest = joined b.below b.after;
              is = joins.nodes b.below b.after ∙ ap (λ ns. ns ++ preorder b.after) b.inner ∙ ap (λ ns. take count rest ++ ns) b.rest ∙ take-append-drop count rest;
              counts = λ kind.
                  l.counts kind ∙ ap (λ (g : Forest). one_if (is_met met kind) + length (forests_of kind (parts_at level g))) b.is
                  ∙ ap (λ ps. one_if (is_met met kind) + length (forests_of kind ps)) (sym same);
            }

        pub lone_past : (here more : Kinds) → is_among (places level) p ≡ true → ((kind : Kind) → is_met here kind ≡ is_among (declarers kind) p)
            → ((kind : Kind) → (is_met met kind && is_met here kind) ≡ false) → ((kind : Kind) → is_met more kind ≡ (is_met met kind || is_met here kind))
            → LeftLone f (drop count rest) more
        lone_past here more place own apart all =
            let b = opens.branch l.rest p count rest (l.is ∙ e) in
            let first : parts_at level (tree.branch p b.below b.after) ≡ part p b.below ∷ parts_at level b.after =
            ap (λ (c : Bool). (if c then part p b.below ∷ [] else parts (places level) b.below) ++ parts (places level) b.after) place in
            record {
              rest = b.after;
              is = b.rest;
              counts = λ kind.
                  l.counts kind ∙ ap (λ (g : Forest). one_if (is_met met kind) + length (forests_of kind (parts_at level g))) b.is
                  ∙ ap (λ ps. one_if (is_met met kind) + length (forests_of kind ps)) first
                  ∙ ap (λ n. one_if (is_met met kind) + n) (first_counts kind p b.below (parts_at level b.after) (is_met here kind) (sym (own kind)))
                  ∙ joined_counts (is_met met kind) (is_met here kind) (length (forests_of kind (parts_at level b.after))) (apart kind)
                  ∙ ap (λ c. one_if c + length (forests_of kind (parts_at level b.after))) (sym (all kind));
            }

-- ---- one alone is the same as none before it

module _ (s : Source) (a : Around) (kind : Kind) where
  first_again : (token : ℕ) (m : Option Member) → again_with token m [] ≡ []
  first_again token None = refl
  first_again token (Some m) = refl

  lone_again : (fs : List Forest) → length fs ≤ 1 → again_after s a kind [] fs ≡ []
  lone_again [] few = refl
  lone_again (f ∷ []) few = ap (λ ks. ks ++ []) (first_again (token_of kind f) (unbroken_member s a kind f))
  lone_again (f ∷ g ∷ fs) few = absurd (omega (arith, few))

  pub none_again : (ps : List Part) → length (forests_of kind ps) ≤ 1 → None ≡ least (again_in s a kind ps)
  none_again ps few = ap least (sym (lone_again (forests_of kind ps) few))

-- nor is one of several kinds
module _ (s : Source) (a : Around) (ps : List Part) where
  pub none_twice : IsTotalOrder term_order → ((kind : Kind) → length (forests_of kind ps) ≤ 1) → None ≡ least (members_twice_in s a ps)
  none_twice total few =
      twice_is s a ps total None None None None (none_again s a Field ps (few Field)) (none_again s a Method ps (few Method))
      (none_again s a Property ps (few Property)) (none_again s a Event ps (few Event))
