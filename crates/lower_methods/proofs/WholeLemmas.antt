-- A source that breaks no rule is whole: its productions are in range, and its methods with their bodies.
use Rattle.std.proofs.Common.{◌≡◌, ℕ, zero, suc, List, [], ◌∷◌, ◌++◌, Option, None, Some, length, refl, ap, sym, subst, ◌∙◌}
use Rattle.std.specs.Prelude.{Bool, true, false, ◌==◌, ◌||◌, if◌then◌else◌}
use Rattle.std.specs.List.{flat_map}
use Rattle.std.proofs.lemmas.Bool.Decides.{Decides-eqb}
use Rattle.std.proofs.lemmas.Grind.{flat_map-append}
use Rattle.std.proofs.lemmas.List.Elements.{filter-append}
use Rattle.ilasm_grammar.specs.Grammar.{Rule}
use Rattle.ilasm_grammar.specs.Ilasm.{ilasm, rule_by}
use Rattle.ilasm_grammar.specs.Parsing.{IsTreeOf}
use Rattle.ilasm_grammar.specs.declared.nonterminals.TheConstants as n
use Rattle.ilasm_grammar.specs.declared.productions.TheConstants.{DECL_METHOD, MEMBER_METHOD, METHOD}
use Rattle.source_model.specs.BodyFaults.{branches_to_the_end, branches_too_far, clauses_backwards}
use Rattle.source_model.specs.BodyNumbers.{body_numbers_out_of_range, body_numbers_out_of_range_in}
use Rattle.source_model.specs.Denotes.{broken, broken_b}
use Rattle.source_model.specs.Faults.{IsFaultless, rule_at}
use Rattle.source_model.specs.Forest as tree
use Rattle.source_model.specs.Forest.{Forest, Part, has, is_among, preorder, the, tokens_of}
use Rattle.source_model.specs.Members.{is_method_part}
use Rattle.source_model.specs.Nodes.{Around, Node, entered, nodes, nodes_in, nodes_of, nothing_around}
use Rattle.source_model.specs.OutOfRange.{data_too_short, data_unsized, nestings_too_deep, numbers_out_of_range, types_too_deep}
use Rattle.source_model.specs.Source.{Source}
use Rattle.source_model.specs.TokenOrder.{numbers_from, TokensStandInOrder}
use Rattle.source_nodes.specs.Derived.{FitsBody, FitsRule, head_of}
use Rattle.source_syntax.proofs.BodyLemmas.{fits_has, goes_on_with}
use Rattle.source_syntax.proofs.ReferenceLemmas.{sound_part}
use Rattle.source_nodes.proofs.WrittenNames.{one_in}
use Rattle.source_flags.specs.InRange.{AllInRange}
use Rattle.source_flags.proofs.Gathered.{has_bodies}
use Rattle.lower_manifest.specs.Laws.{AllAreInRange}
use Rattle.lower_methods.specs.SoundMethods.{AllWhole, IsSoundAt, IsWhole, IsWholePart}

none_of : {X : Type 0} (xs ys : List X) → xs ++ ys ≡ [] → (xs ≡ []) × (ys ≡ [])
none_of [] ys e = (refl, e)
none_of (x ∷ xs) ys e = absurd cc

-- ---- tokens that follow one another

front_run : (xs ys : List ℕ) (at count : ℕ) → xs ++ ys ≡ numbers_from at count → xs ≡ numbers_from at (length xs)
front_run [] ys at count e = refl
front_run (x ∷ xs) ys at zero e = absurd cc
front_run (x ∷ xs) ys at (suc count) e =
    let first : x ≡ at = cc in
    let rest : xs ++ ys ≡ numbers_from (suc at) count = cc in
    ap (λ k. k ∷ xs) first ∙ ap (λ zs. at ∷ zs) (front_run xs ys (suc at) count rest)

back_run : (xs ys : List ℕ) (at count : ℕ) → xs ++ ys ≡ numbers_from at count → (first : ℕ) × (more : ℕ) × (ys ≡ numbers_from first more)
back_run [] ys at count e = (at, count, e)
back_run (x ∷ xs) ys at zero e = absurd cc
back_run (x ∷ xs) ys at (suc count) e = let rest : xs ++ ys ≡ numbers_from (suc at) count = cc in back_run xs ys (suc at) count rest

-- ---- the numbers of bodies, production by production

module _ (s : Source) where
  abbrev numbers_in : List Node → List ℕ
  numbers_in ns = flat_map (body_numbers_out_of_range_in s) (nodes_of (METHOD ∷ []) ns)

  numbers_append : (ms ns : List Node) → numbers_in (ms ++ ns) ≡ numbers_in ms ++ numbers_in ns
  numbers_append ms ns =
      ap (flat_map (body_numbers_out_of_range_in s)) (filter-append (λ m. is_among (METHOD ∷ []) m.production) ms ns)
      ∙ flat_map-append (body_numbers_out_of_range_in s) (nodes_of (METHOD ∷ []) ms) (nodes_of (METHOD ∷ []) ns)

  own_numbers : (m : Node) → m.production ≡ METHOD → numbers_in (m ∷ []) ≡ [] → body_numbers_out_of_range_in s m ≡ []
  own_numbers m is e =
      let among : is_among (METHOD ∷ []) m.production ≡ true = ap (is_among (METHOD ∷ [])) is in
      (none_of (body_numbers_out_of_range_in s m) [] (sym (ap (λ (c : Bool). flat_map (body_numbers_out_of_range_in s) (if c then m ∷ [] else [])) among) ∙ e)).0

  whole : (a : Around) (f : Forest) (at count : ℕ) → AllInRange s f → tokens_of f ≡ numbers_from at count → numbers_in (nodes_in s a f) ≡ [] → AllWhole s f
  whole a tree.none at count h t e = tt
  whole a (tree.leaf k f) at count h t e = let r = back_run (k ∷ []) (tokens_of f) at count t in whole a f r.0 r.1 h r.2 e
  whole a (tree.branch p b f) at count h t e =
      let front = front_run (tokens_of b) (tokens_of f) at count t in
      let back = back_run (tokens_of b) (tokens_of f) at count t in
      let inner = entered s a p b in
      let m : Node = record { production = p; below = b; around = inner } in
      let first = none_of (numbers_in (m ∷ nodes_in s inner b)) (numbers_in (nodes_in s a f)) (sym (numbers_append (m ∷ nodes_in s inner b) (nodes_in s a f)) ∙ e) in
      let own = none_of (numbers_in (m ∷ [])) (numbers_in (nodes_in s inner b)) (sym (numbers_append (m ∷ []) (nodes_in s inner b)) ∙ first.0) in
      let sound : p ≡ METHOD → IsSoundAt s b = λ is. record {
        node = m;
        below = refl;
        sound = record {
          derived = record { fits = subst (λ q. FitsBody s q b) is h.0.fits; bodies = has_bodies s b h.1; first = at; count = length (tokens_of b); in-order = front };
          each = h.1;
          numbers = own_numbers m is own.0;
        };
      } in
      ((h.0, sound), whole inner b at (length (tokens_of b)) h.1 front own.1, whole a f back.0 back.1 h.2 back.2 first.1)

  nothing_at : (rule : ℕ) (ks : List ℕ) → rule_at rule ks ≡ [] → ks ≡ []
  nothing_at rule [] e = refl
  nothing_at rule (k ∷ ks) e = absurd cc

  no_numbers : broken_b s ≡ [] → numbers_out_of_range s ++ body_numbers_out_of_range s ≡ []
  unfolding broken_b
  no_numbers e =
      let r1 = rule_at 1 (numbers_out_of_range s ++ body_numbers_out_of_range s) in
      let r2 = r1 ++ rule_at 2 (branches_too_far s) in
      let r3 = r2 ++ rule_at 3 (clauses_backwards s) in
      let r4 = r3 ++ rule_at 4 (types_too_deep s) in
      let r5 = r4 ++ rule_at 5 (branches_to_the_end s) in
      let r6 = r5 ++ rule_at 6 (nestings_too_deep s) in
      let r7 = r6 ++ rule_at 7 (data_too_short s) in
      let h7 = (none_of r7 (rule_at 8 (data_unsized s)) e).0 in
      let h6 = (none_of r6 (rule_at 7 (data_too_short s)) h7).0 in
      let h5 = (none_of r5 (rule_at 6 (nestings_too_deep s)) h6).0 in
      let h4 = (none_of r4 (rule_at 5 (branches_to_the_end s)) h5).0 in
      let h3 = (none_of r3 (rule_at 4 (types_too_deep s)) h4).0 in
      let h2 = (none_of r2 (rule_at 3 (clauses_backwards s)) h3).0 in
      let h1 = (none_of r1 (rule_at 2 (branches_too_far s)) h2).0 in
      nothing_at 1 (numbers_out_of_range s ++ body_numbers_out_of_range s) h1

  whole_tree : (h : AllInRange s s.tree) (count : ℕ) → tokens_of s.tree ≡ numbers_from 0 count → body_numbers_out_of_range s ≡ [] → AllWhole s s.tree
  unfolding nodes
  whole_tree h count t e = whole nothing_around s.tree 0 count h t e

pub all_whole : AllAreInRange → TokensStandInOrder → (s : Source) → IsTreeOf s.tokens (preorder s.tree) → IsFaultless (broken s) → AllWhole s s.tree
all_whole ranges order s d h =
    let numbers = none_of (numbers_out_of_range s) (body_numbers_out_of_range s) (no_numbers s h.2) in
    whole_tree s (ranges s d numbers.0) _ (order.consecutive _ 0 _ _ (preorder s.tree) s.tree d refl) numbers.1

-- ---- what is whole

pub whole_in_range : (s : Source) (f : Forest) → AllWhole s f → AllInRange s f
whole_in_range s tree.none h = tt
whole_in_range s (tree.leaf k f) h = whole_in_range s f h
whole_in_range s (tree.branch p b f) h = (h.0.0, whole_in_range s b h.1, whole_in_range s f h.2)

one_method : (p : ℕ) → head_of p ≡ Some n.METHOD → p ≡ METHOD
unfolding ilasm
one_method p e = one_in _ _ _ n.METHOD METHOD p e refl

abbrev holds : Option Rule → Bool
holds None = false
holds (Some r) = goes_on_with n.METHOD r.body

by_rule : (s : Source) (o : Option Rule) (f : Forest) → FitsRule s o f → holds o ≡ true → has METHOD f ≡ true
by_rule s None f h e = absurd h
by_rule s (Some r) f h e = fits_has s r.body f n.METHOD METHOD h e one_method

declared_held : holds (ilasm DECL_METHOD) ≡ true
unfolding ilasm rule_by
declared_held = refl

member_held : holds (ilasm MEMBER_METHOD) ≡ true
unfolding ilasm rule_by
member_held = refl

method_in : (s : Source) (p : Part) → is_method_part p ≡ true → FitsBody s p.production p.below → has METHOD p.below ≡ true
method_in s p is fits = go (p.production == DECL_METHOD) refl
  where
    go : (c : Bool) → (p.production == DECL_METHOD) ≡ c → has METHOD p.below ≡ true
    go true same = by_rule s (ilasm DECL_METHOD) p.below (subst (λ q. FitsBody s q p.below) ((Decides-eqb p.production DECL_METHOD).0 same) fits) declared_held
    go false apart =
        let member : (p.production == MEMBER_METHOD) ≡ true = sym (ap (λ (c : Bool). c || p.production == MEMBER_METHOD) apart) ∙ is in
        by_rule s (ilasm MEMBER_METHOD) p.below (subst (λ q. FitsBody s q p.below) ((Decides-eqb p.production MEMBER_METHOD).0 member) fits) member_held

-- a declaration or a member that holds a method holds a sound one
pub part_sound : (s : Source) (p : Part) → IsWholePart s p → is_method_part p ≡ true → IsSoundAt s (the METHOD p.below)
part_sound s p whole is = (sound_part (IsWhole s) METHOD p.below whole.1 (method_in s p is whole.0.0.fits)).0.1 refl
