-- What stands below the productions that declare members.
use Rattle.std.proofs.Common.{◌≡◌, ℕ, List, [], ◌∷◌, ◌++◌, Some, refl, ap, sym, subst, ◌∙◌}
use Rattle.std.specs.Prelude.{Bool, true, false, ◌==◌, ◌||◌, if◌then◌else◌, slice_get}
use Rattle.std.proofs.lemmas.Bool.Decides.{Decides-eqb}
use Rattle.il_lexer.specs.declared.types.TokenKind.TheVariants as kind
use Rattle.ilasm_grammar.specs.Grammar.{rule_of}
use Rattle.ilasm_grammar.specs.Ilasm.{ilasm, rule_by}
use Rattle.ilasm_grammar.specs.declared.nonterminals.TheConstants as n
use Rattle.ilasm_grammar.specs.declared.productions.TheConstants.{DECL_FIELD, DECL_METHOD, EVENT, FIELD, MEMBER_EVENT, MEMBER_FIELD, MEMBER_METHOD, MEMBER_PROPERTY, METHOD, PROPERTY}
use Rattle.ilasm_grammar.specs.declared.symbol.Symbol.TheVariants.{Nonterminal}
use Rattle.ilasm_grammar.specs.declared.terminals.TheConstants as t
use Rattle.ilasm_grammar.specs.declared.tree.TreeNode.{TreeNode}
use Rattle.ilasm_grammar.specs.declared.tree.TreeNode.TheVariants.{Branch, Leaf}
use Rattle.source_model.specs.DeclaredTwice.{method_token, name_token_of}
use Rattle.source_model.specs.Forest.{Forest, is_among, joined, leaf_at, part, parts, preorder, the}
use Rattle.source_model.specs.Laws.{ForestsJoin}
use Rattle.source_model.specs.Source.{Source}
use Rattle.source_nodes.specs.Derived.{FitsBody, HasBodies, head_of}
use Rattle.source_nodes.specs.Readers.{IsOf}
use Rattle.source_nodes.specs.Walk.{IsForest, Opens}
use Rattle.source_nodes.specs.declared.walk.Opened.{Opened}
use Rattle.source_nodes.proofs.Collecting.{after_is, below_is, no_forest}
use Rattle.source_syntax.proofs.BodyLemmas.{fits_has}
use Rattle.source_syntax.proofs.NameTokens.{IsBody, name_at, terminals_of_rule, the_body}
use Rattle.source_nodes.proofs.WrittenNames.{fits_rule, one_in}
use Rattle.check_members.specs.MemberKinds.{declarers, is_chosen, method_names, production_of}
use Rattle.check_members.specs.declared.member_kinds.Kind.{Kind}
use Rattle.check_members.specs.declared.member_kinds.Kind.TheVariants.{Field, Method, Property, Event}

-- ---- nonterminals with one production

one_field : (p : ℕ) → head_of p ≡ Some n.FIELD → p ≡ FIELD
unfolding ilasm
one_field p e = one_in _ _ _ n.FIELD FIELD p e refl

one_method : (p : ℕ) → head_of p ≡ Some n.METHOD → p ≡ METHOD
unfolding ilasm
one_method p e = one_in _ _ _ n.METHOD METHOD p e refl

one_property : (p : ℕ) → head_of p ≡ Some n.PROPERTY → p ≡ PROPERTY
unfolding ilasm
one_property p e = one_in _ _ _ n.PROPERTY PROPERTY p e refl

one_event : (p : ℕ) → head_of p ≡ Some n.EVENT → p ≡ EVENT
unfolding ilasm
one_event p e = one_in _ _ _ n.EVENT EVENT p e refl

-- ---- the rules

rule_decl_field : ilasm DECL_FIELD ≡ Some (rule_of n.DECL (Nonterminal n.FIELD ∷ []))
unfolding ilasm rule_by
rule_decl_field = refl

rule_decl_method : ilasm DECL_METHOD ≡ Some (rule_of n.DECL (Nonterminal n.METHOD ∷ []))
unfolding ilasm rule_by
rule_decl_method = refl

rule_member_field : ilasm MEMBER_FIELD ≡ Some (rule_of n.MEMBER (Nonterminal n.FIELD ∷ []))
unfolding ilasm rule_by
rule_member_field = refl

rule_member_method : ilasm MEMBER_METHOD ≡ Some (rule_of n.MEMBER (Nonterminal n.METHOD ∷ []))
unfolding ilasm rule_by
rule_member_method = refl

rule_member_property : ilasm MEMBER_PROPERTY ≡ Some (rule_of n.MEMBER (Nonterminal n.PROPERTY ∷ []))
unfolding ilasm rule_by
rule_member_property = refl

rule_member_event : ilasm MEMBER_EVENT ≡ Some (rule_of n.MEMBER (Nonterminal n.EVENT ∷ []))
unfolding ilasm rule_by
rule_member_event = refl

-- ---- the body of a member

module _ (s : Source) (p : ℕ) (b : Forest) (fits : FitsBody s p b) (bodies : HasBodies s b) where
  body_of : (q head m own : ℕ) → (q == p) ≡ true → ilasm q ≡ Some (rule_of head (Nonterminal m ∷ [])) → ((r : ℕ) → head_of r ≡ Some m → r ≡ own)
      → (m == m) ≡ true → IsBody s own (the own b)
  body_of q head m own is rule one same =
      let here : FitsBody s q b = subst (λ r. FitsBody s r b) (sym ((Decides-eqb q p).0 is)) fits in
      the_body s own b (fits_has s (Nonterminal m ∷ []) b m own (fits_rule s q head (Nonterminal m ∷ []) b rule here) (ap (λ (c : Bool). c || false) same) one) bodies

  either : (a c : Bool) → (a || (c || false)) ≡ true → (a ≡ false → c ≡ true)
  either true c e h = absurd cc
  either false true e h = refl
  either false false e h = absurd cc

  alone : (a : Bool) → (a || false) ≡ true → a ≡ true
  alone true e = refl
  alone false e = absurd cc

  pub member_body : (kind : Kind) → is_among (declarers kind) p ≡ true → IsBody s (production_of kind) (the (production_of kind) b)
  member_body Field e = go (DECL_FIELD == p) refl
    where
      go : (c : Bool) → (DECL_FIELD == p) ≡ c → IsBody s FIELD (the FIELD b)
      go true i = body_of DECL_FIELD n.DECL n.FIELD FIELD i rule_decl_field one_field refl
      go false i = body_of MEMBER_FIELD n.MEMBER n.FIELD FIELD (either (DECL_FIELD == p) (MEMBER_FIELD == p) e i) rule_member_field one_field refl
  member_body Method e = go (DECL_METHOD == p) refl
    where
      go : (c : Bool) → (DECL_METHOD == p) ≡ c → IsBody s METHOD (the METHOD b)
      go true i = body_of DECL_METHOD n.DECL n.METHOD METHOD i rule_decl_method one_method refl
      go false i = body_of MEMBER_METHOD n.MEMBER n.METHOD METHOD (either (DECL_METHOD == p) (MEMBER_METHOD == p) e i) rule_member_method one_method refl
  member_body Property e = body_of MEMBER_PROPERTY n.MEMBER n.PROPERTY PROPERTY (alone (MEMBER_PROPERTY == p) e) rule_member_property one_property refl
  member_body Event e = body_of MEMBER_EVENT n.MEMBER n.EVENT EVENT (alone (MEMBER_EVENT == p) e) rule_member_event one_event refl

-- ---- names

field_name : slice_get (terminals_of_rule (ilasm FIELD)) 1 ≡ Some t.NAME
unfolding ilasm rule_by
field_name = refl

property_name : slice_get (terminals_of_rule (ilasm PROPERTY)) 1 ≡ Some t.NAME
unfolding ilasm rule_by
property_name = refl

event_name : slice_get (terminals_of_rule (ilasm EVENT)) 1 ≡ Some t.NAME
unfolding ilasm rule_by
event_name = refl

pub field_is_name : (s : Source) (f : Forest) → FitsBody s FIELD f → IsOf s kind.Name (leaf_at 1 f)
field_is_name s f h = name_at s FIELD 1 f field_name h

pub property_is_name : (s : Source) (f : Forest) → FitsBody s PROPERTY f → IsOf s kind.Name (leaf_at 1 f)
property_is_name s f h = name_at s PROPERTY 1 f property_name h

pub event_is_name : (s : Source) (f : Forest) → FitsBody s EVENT f → IsOf s kind.Name (leaf_at 1 f)
event_is_name s f h = name_at s EVENT 1 f event_name h

-- ---- the token of a method's name

pub record TokenLeft (f : Forest) (left : List TreeNode) : Type 0 where
  pub rest : Forest
  pub is : preorder rest ≡ left
  pub same : method_token rest ≡ method_token f

pub token_end : (f : Forest) (left : List TreeNode) → left ≡ [] → TokenLeft f left → 0 ≡ method_token f
token_end f left e l = ap method_token (sym (no_forest l.rest (l.is ∙ e))) ∙ l.same

module _ (f : Forest) (left : List TreeNode) (x : Opened) (o : Opens left x) (l : TokenLeft f left) where
  pub token_in : ForestsJoin → is_chosen method_names x.node ≡ false → TokenLeft f x.behind.now
  token_in joins other = go x.node refl
    where
      go : (node : TreeNode) → x.node ≡ node → TokenLeft f x.behind.now
      go (Leaf token) is =
          let b = o.leaf l.rest token l.is is in record { rest = b.after; is = b.rest; same = ap method_token (sym b.is) ∙ l.same }
      go (Branch p count) is =
          let b = o.branch l.rest p count l.is is in
          let plain : is_among method_names p ≡ false = ap (is_chosen method_names) (sym is) ∙ other in
          record {
            rest = joined b.inner b.rest;
            is = b.behind-is;
            same = ap name_token_of (joins.parts [] method_names b.inner b.rest
                ∙ sym (ap (λ (c : Bool). (if c then part p b.inner ∷ [] else parts method_names b.inner) ++ parts method_names b.rest) plain))
                ∙ ap method_token (sym b.is) ∙ l.same;
          }

  pub record TokenFound : Type 0 where
    pub inner : Forest
    pub inner-is : preorder inner ≡ x.below.now
    pub is : leaf_at 0 inner ≡ method_token f

  pub token_found : is_chosen method_names x.node ≡ true → TokenFound
  token_found own = go x.node refl
    where
      go : (node : TreeNode) → x.node ≡ node → TokenFound
      go (Leaf token) is = let no : false ≡ true = ap (is_chosen method_names) (sym is) ∙ own in absurd cc
      go (Branch p count) is =
          let b = o.branch l.rest p count l.is is in
          let known : is_among method_names p ≡ true = ap (is_chosen method_names) (sym is) ∙ own in
          record {
            inner = b.inner;
            inner-is = b.inner-is;
            is = sym (ap (λ (c : Bool). name_token_of ((if c then part p b.inner ∷ [] else parts method_names b.inner) ++ parts method_names b.rest)) known)
                ∙ ap method_token (sym b.is) ∙ l.same;
          }

pub chosen_below : (sought : List ℕ) (left : List TreeNode) (x : Opened) → Opens left x → is_chosen sought x.node ≡ true → IsForest left → IsForest x.below.now
chosen_below sought left x o own f = go x.node refl
  where
    go : (node : TreeNode) → x.node ≡ node → IsForest x.below.now
    go (Leaf token) is = let no : false ≡ true = ap (is_chosen sought) (sym is) ∙ own in absurd cc
    go (Branch p count) is = below_is left x p count o is f

pub chosen_after : (sought : List ℕ) (left : List TreeNode) (x : Opened) → Opens left x → is_chosen sought x.node ≡ true → IsForest left → IsForest x.after.now
chosen_after sought left x o own f = go x.node refl
  where
    go : (node : TreeNode) → x.node ≡ node → IsForest x.after.now
    go (Leaf token) is = let no : false ≡ true = ap (is_chosen sought) (sym is) ∙ own in absurd cc
    go (Branch p count) is = after_is left x p count o is f
