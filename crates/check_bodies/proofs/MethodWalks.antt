-- How far the walk over the methods of a source has come, which goes past what stands below each: no other method (ECMA-335 II.15).
use Rattle.std.proofs.Common.{◌≡◌, ℕ, ◌≤◌, List, [], ◌∷◌, ◌++◌, length, map, take, drop, Bool, true, false, ◌||◌, Option, None, Some, refl, sym, ap, subst, ◌∙◌}
use Rattle.std.specs.Prelude.{◌==◌, if◌then◌else◌, option_map}
use Rattle.std.specs.List.{AllByRecursion, flat_map}
use Rattle.std.proofs.lemmas.Bool.{and_parts, eqb-true, false≢true}
use Rattle.std.proofs.lemmas.List.{take-append-drop}
use Rattle.ilasm_grammar.specs.Grammar.{Rule}
use Rattle.ilasm_grammar.specs.Ilasm.{ilasm, body_at, has_bit, picked}
use Rattle.ilasm_grammar.specs.declared.productions.TheConstants.{METHOD}
use Rattle.ilasm_grammar.specs.declared.symbol.Symbol.{Symbol}
use Rattle.ilasm_grammar.specs.declared.symbol.Symbol.TheVariants.{Terminal, Nonterminal}
use Rattle.ilasm_grammar.specs.declared.tree.TreeNode.{TreeNode}
use Rattle.ilasm_grammar.specs.declared.tree.TreeNode.TheVariants.{Branch, Leaf}
use Rattle.ilasm_grammar.proofs.IlasmFacts.{ilasm_table}
use Rattle.ilasm_grammar.proofs.TableCheck.{ilasm_tables, ilasm_checked}
use Rattle.ilasm_grammar.proofs.TableFacts.{at_rule}
use Rattle.ilasm_grammar.proofs.Tables as tables
use Rattle.source_model.specs.Forest.{Forest, none, leaf, branch, is_among, joined, preorder}
use Rattle.source_model.specs.Laws.{ForestOpens, ForestsJoin, OneForest}
use Rattle.source_model.specs.Nodes.{Node, nodes_in, nodes_of, nothing_around}
use Rattle.source_model.specs.Source.{Source}
use Rattle.source_nodes.specs.Derived.{Fits, FitsBody, FitsRule, HasBodies}
use Rattle.source_nodes.specs.Least.{least, sooner}
use Rattle.source_syntax.specs.Methods.{all_below, IsMethod}
use Rattle.source_nodes.specs.Readers.{Reads}
use Rattle.source_nodes.specs.Walk.{IsForest}
use Rattle.source_nodes.specs.declared.reader.Reader.{Reader}
use Rattle.source_syntax.proofs.LeastLemmas.{least_append, sooner_assoc}
use Rattle.source_syntax.proofs.MethodLemmas.{below_joined, chosen_derived, nodes_below_are, nodes_derived, nothing_more}
use Rattle.source_flags.proofs.Apart.{all_in, stays}
use Rattle.check_bodies.specs.AllOfBodies.{body_broken, broken_in}
use Rattle.check_bodies.specs.AmongNodes.{AreMethodsOf, StandsIn}

-- ---- below a method stands no other

-- the nonterminals that stand somewhere below a method
unfoldable below_method : ℕ
below_method = 0x1fffffffffff1e603ff87ffffffffffff3820

method_closed : tables.all_below (stays below_method (METHOD ∷ [])) ilasm_tables.productions ≡ true
unfolding ilasm_tables body_at has_bit below_method
method_closed = refl

method_apart : has_bit below_method (ilasm_tables.head METHOD) ≡ false
unfolding ilasm_tables has_bit below_method
method_apart = refl

implied : (a b : Bool) → tables.implies a b ≡ true → a ≡ true → b ≡ true
implied true b e h = e
implied false b e h = absurd (false≢true h)

either : (a b : Bool) → b ≡ true → (a || b) ≡ true
either true b e = refl
either false b e = e

-- what a production puts in the place of a nonterminal of the set, or of a method, are symbols of the set
body_of : (s : Source) (p : ℕ) (b : Forest) (o : Option Rule) → ilasm p ≡ o → FitsRule s o b
    → (is_among (METHOD ∷ []) p || has_bit below_method (ilasm_tables.head p)) ≡ true → (r : Rule) × Fits s r.body b × (all_in below_method r.body ≡ true)
body_of s p b None e fits h = absurd fits
body_of s p b (Some r) e fits h =
    let body : ilasm_tables.body p ≡ r.body = ap (λ (x : Rule). x.body) (ilasm_table.rules e).1 in (
      r,
      fits,
      sym (ap (all_in below_method) body)
          ∙ implied _ _ (at_rule ilasm_tables ilasm_checked ilasm picked ilasm_table (stays below_method (METHOD ∷ [])) method_closed e) h,
    )

head_in : (p n : ℕ) (o : Option Rule) → ilasm p ≡ o → option_map (λ (r : Rule). r.head) o ≡ Some n → has_bit below_method n ≡ true
    → has_bit below_method (ilasm_tables.head p) ≡ true
head_in p n None e h bit = absurd cc
head_in p n (Some r) e h bit =
    let head : ilasm_tables.head p ≡ r.head = ap (λ (x : Rule). x.head) (ilasm_table.rules e).1 in
    let same : r.head ≡ n = cc in
    ap (has_bit below_method) (head ∙ same) ∙ bit

no_method : (p : ℕ) → has_bit below_method (ilasm_tables.head p) ≡ true → (METHOD == p) ≡ false
no_method p bit = go (METHOD == p) refl
  where
    go : (c : Bool) → (METHOD == p) ≡ c → c ≡ false
    go false e = refl
    go true e =
        let same : METHOD ≡ p = eqb-true METHOD p e in
        absurd (false≢true (sym method_apart ∙ ap (λ k. has_bit below_method (ilasm_tables.head k)) same ∙ bit))

-- what is below a branch of another production is all that it gives
beside : (p : ℕ) (b a : Forest) → (METHOD == p) ≡ false → all_below METHOD (branch p b a) ≡ all_below METHOD b ++ all_below METHOD a
beside p b a e = ap (λ (c : Bool). (if c then b ∷ [] else []) ++ (all_below METHOD b ++ all_below METHOD a)) e

none_in : (s : Source) (f : Forest) (symbols : List Symbol) → all_in below_method symbols ≡ true → Fits s symbols f → HasBodies s f → all_below METHOD f ≡ []
none_in s none symbols all fits bodies = refl
none_in s (leaf k a) [] all fits bodies = absurd fits
none_in s (leaf k a) (Terminal t ∷ more) all fits bodies = none_in s a more all fits.1 bodies
none_in s (leaf k a) (Nonterminal n ∷ more) all fits bodies = absurd fits
none_in s (branch p b a) [] all fits bodies = absurd fits
none_in s (branch p b a) (Terminal t ∷ more) all fits bodies = absurd fits
none_in s (branch p b a) (Nonterminal n ∷ more) all fits bodies =
    let both = and_parts (has_bit below_method n) (all_in below_method more) all in
    let bit = head_in p n (ilasm p) refl fits.0 both.0 in
    let r = body_of s p b (ilasm p) refl bodies.0 (either (is_among (METHOD ∷ []) p) _ bit) in
    beside p b a (no_method p bit)
    ∙ ap (λ fs. fs ++ all_below METHOD a) (none_in s b r.0.body r.2 r.1 bodies.1)
    ∙ none_in s a more both.1 fits.1 bodies.2

none_below : (s : Source) (b : Forest) → FitsBody s METHOD b → HasBodies s b → all_below METHOD b ≡ []
none_below s b fits bodies = let r = body_of s METHOD b (ilasm METHOD) refl fits refl in none_in s b r.0.body r.2 r.1 bodies

-- ---- the walk

-- the methods that aren't asked yet stand in what is left, and what breaks the rule in them completes what was found
pub record Unasked (broken : Node → List ℕ) (s : Source) (all : List Node) (left : Forest) (found : Option ℕ) : Type 0 where
  pub methods : List Node
  pub are : map (λ (n : Node). n.below) methods ≡ all_below METHOD left
  pub each : AllByRecursion (IsMethod s) methods
  pub rest : sooner found (least (flat_map broken methods)) ≡ least (flat_map broken all)

-- what is left of the nodes is a forest, and so it is for each source that is read
pub record Walked (broken : Source → Node → List ℕ) (r : Reader) (nodes left : List TreeNode) (found : Option ℕ) : Type 0 where
  pub forest : Forest
  pub is : preorder forest ≡ left
  pub unasked : (s : Source) (f : Forest) (ms : List Node) → Reads r s → preorder f ≡ nodes → AreMethodsOf s f ms → Unasked (broken s) s ms forest found

pub begin : OneForest → (broken : Source → Node → List ℕ) (r : Reader) (nodes : List TreeNode) → IsForest nodes → Walked broken r nodes nodes None
begin one broken r nodes f = record {
  forest = f.0;
  is = f.1;
  unasked = λ s g ms reads e of. record {
    methods = ms;
    are = of.below ∙ ap (all_below METHOD) (one.one g f.0 (e ∙ sym f.1));
    each = of.each;
    rest = refl;
  };
}

module _ (opens : ForestOpens) (broken : Source → Node → List ℕ) (r : Reader) (nodes left rest : List TreeNode) (found : Option ℕ)
    (w : Walked broken r nodes left found) where
  pub past_leaf : (token : ℕ) → left ≡ Leaf token ∷ rest → Walked broken r nodes rest found
  past_leaf token e =
      let b = opens.leaf w.forest token rest (w.is ∙ e) in
      record {
        forest = b.after;
        is = b.rest;
        unasked = λ s f all reads e0 of.
            let u = w.unasked s f all reads e0 of in
            record { methods = u.methods; are = u.are ∙ ap (all_below METHOD) b.is; each = u.each; rest = u.rest };
      }

  pub into_branch : ForestsJoin → (p count : ℕ) → left ≡ Branch p count ∷ rest → (METHOD == p) ≡ false → Walked broken r nodes rest found
  into_branch joins p count e other =
      let b = opens.branch w.forest p count rest (w.is ∙ e) in
      record {
        forest = joined b.below b.after;
        is = joins.nodes b.below b.after ∙ ap (λ ns. ns ++ preorder b.after) b.inner ∙ ap (λ ns. take count rest ++ ns) b.rest ∙ take-append-drop count rest;
        unasked = λ s f all reads e0 of.
            let u = w.unasked s f all reads e0 of in
            record {
              methods = u.methods;
              are = u.are ∙ ap (all_below METHOD) b.is ∙ beside p b.below b.after other ∙ sym (below_joined METHOD b.below b.after);
              each = u.each;
              rest = u.rest;
            };
      }

  -- what stands below a branch is a forest, within what is left
  pub below_branch : (p count : ℕ) → left ≡ Branch p count ∷ rest → (f : Forest) × (preorder f ≡ take count rest)
  below_branch p count e = let b = opens.branch w.forest p count rest (w.is ∙ e) in (b.below, b.inner)

  pub below_fits : (p count : ℕ) → left ≡ Branch p count ∷ rest → count ≤ length rest
  below_fits p count e = (opens.branch w.forest p count rest (w.is ∙ e)).within

  -- a method, which was asked
  pub past_method : (p count : ℕ) → left ≡ Branch p count ∷ rest → p ≡ METHOD → (here : Option ℕ)
      → ((s : Source) (n : Node) → Reads r s → IsMethod s n → preorder n.below ≡ take count rest → here ≡ least (broken s n))
      → Walked broken r nodes (drop count rest) (sooner found here)
  past_method p count e own here asked =
      let b = opens.branch w.forest p count rest (w.is ∙ e) in
      record {
        forest = b.after;
        is = b.rest;
        unasked = λ s f all reads e0 of.
            let u = w.unasked s f all reads e0 of in
            go s all reads b.below b.after b.inner u.methods (u.are ∙ ap (all_below METHOD) (b.is ∙ ap (λ q. branch q b.below b.after) own)) u.each u.rest;
      }
    where
      go : (s : Source) (all : List Node) → Reads r s → (b a : Forest) → preorder b ≡ take count rest → (ms : List Node)
          → map (λ (n : Node). n.below) ms ≡ b ∷ (all_below METHOD b ++ all_below METHOD a) → AllByRecursion (IsMethod s) ms
          → sooner found (least (flat_map (broken s) ms)) ≡ least (flat_map (broken s) all) → Unasked (broken s) s all a (sooner found here)
      go s all reads b a inner [] are each whole = absurd cc
      go s all reads b a inner (n ∷ ms) are each whole =
          let same : n.below ≡ b = cc in
          let more : map (λ (m : Node). m.below) ms ≡ all_below METHOD b ++ all_below METHOD a = cc in
          let nothing : all_below METHOD b ≡ [] = subst (λ f. all_below METHOD f ≡ []) same (none_below s n.below each.0.fits each.0.bodies) in
          let behind = flat_map (broken s) ms in
          record {
            methods = ms;
            are = more ∙ ap (λ fs. fs ++ all_below METHOD a) nothing;
            each = each.1;
            rest = sooner_assoc found here (least behind)
                ∙ ap (λ o. sooner found (sooner o (least behind))) (asked s n reads each.0 (ap preorder same ∙ inner))
                ∙ ap (sooner found) (sym (least_append (broken s n) behind))
                ∙ whole;
          }

-- at the end all are asked
pub ended : ForestOpens → (broken : Source → Node → List ℕ) (r : Reader) (nodes left : List TreeNode) (found : Option ℕ) → left ≡ []
    → Walked broken r nodes left found → (s : Source) (f : Forest) (ms : List Node) → Reads r s → preorder f ≡ nodes → AreMethodsOf s f ms
    → found ≡ least (flat_map (broken s) ms)
ended opens broken r nodes left found e w s f all reads is of =
    let u = w.unasked s f all reads is of in
    go u.methods (u.are ∙ ap (all_below METHOD) (opens.none w.forest (w.is ∙ e))) u.rest
  where
    go : (ms : List Node) → map (λ (n : Node). n.below) ms ≡ [] → sooner found (least (flat_map (broken s) ms)) ≡ least (flat_map (broken s) all)
        → found ≡ least (flat_map (broken s) all)
    go [] are whole = nothing_more found ∙ whole
    go (n ∷ ms) are whole = absurd cc

-- ---- the methods among the nodes of a part of a source

pub methods_of : (s : Source) (f : Forest) → StandsIn s f → AreMethodsOf s f (nodes_of (METHOD ∷ []) (nodes_in s nothing_around f))
methods_of s f stands = record {
  below = nodes_below_are s METHOD f nothing_around;
  each = chosen_derived s METHOD (nodes_in s nothing_around f) (nodes_derived s f nothing_around stands.first stands.count stands.bodies stands.in-order);
}

pub chosen_broken : (s : Source) (ns : List Node) → flat_map (broken_in s) (nodes_of (METHOD ∷ []) ns) ≡ flat_map (body_broken s) ns
chosen_broken s [] = refl
chosen_broken s (n ∷ ns) = go (is_among (METHOD ∷ []) n.production) (chosen_broken s ns)
  where
    go : (c : Bool) → flat_map (broken_in s) (nodes_of (METHOD ∷ []) ns) ≡ flat_map (body_broken s) ns
        → flat_map (broken_in s) (if c then n ∷ nodes_of (METHOD ∷ []) ns else nodes_of (METHOD ∷ []) ns)
        ≡ (if c then broken_in s n else []) ++ flat_map (body_broken s) ns
    go true rest = ap (λ ks. broken_in s n ++ ks) rest
    go false rest = rest
