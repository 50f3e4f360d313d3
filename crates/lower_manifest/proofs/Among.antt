-- Parts among others: those of one kind of declaration, and those that stand in such ones alone (ECMA-335 II.5.1).
use Rattle.std.proofs.Common.{◌≡◌, ℕ, ◌+◌, ◌≤◌, List, [], ◌∷◌, ◌++◌, Bool, true, false, ◌&&◌, ◌||◌, Option, None, Some, cond, length, drop, map, refl, sym, ap, subst, ◌∙◌, append-nil}
use Rattle.std.specs.Prelude.{◌==◌, filter, if◌then◌else◌, slice_get}
use Rattle.std.specs.List.{AllByRecursion, flat_map}
use Rattle.std.proofs.lemmas.Bool.{and_parts}
use Rattle.std.proofs.lemmas.Bool.Decides.{Decides-eqb}
use Rattle.std.proofs.lemmas.List.{append_assoc, drop_all}
use Rattle.ilasm_grammar.specs.Grammar.{Rule}
use Rattle.ilasm_grammar.specs.Ilasm.{ilasm, body_at, has_bit, picked}
use Rattle.ilasm_grammar.specs.declared.nonterminals.TheConstants.{SOURCE}
use Rattle.ilasm_grammar.specs.declared.productions.TheConstants.{ASSEMBLY_EXTERN, DECL_ASSEMBLY}
use Rattle.ilasm_grammar.specs.declared.symbol.Symbol.{Symbol}
use Rattle.ilasm_grammar.specs.declared.symbol.Symbol.TheVariants.{Terminal, Nonterminal}
use Rattle.ilasm_grammar.specs.declared.tree.TreeNode.{TreeNode}
use Rattle.ilasm_grammar.proofs.IlasmFacts.{ilasm_table}
use Rattle.ilasm_grammar.proofs.TableCheck.{ilasm_tables, ilasm_checked}
use Rattle.ilasm_grammar.proofs.TableFacts.{at_rule}
use Rattle.ilasm_grammar.proofs.Tables.{all_below, implies}
use Rattle.source_model.specs.Forest.{Forest, none, leaf, branch, Part, part, parts, parts_outside, is_among}
use Rattle.source_model.specs.Source.{Source}
use Rattle.source_nodes.specs.Derived.{Fits, FitsRule, HasBodies}
use Rattle.source_nodes.specs.Pieces.{ArePieces, piece_of, written}
use Rattle.source_nodes.specs.declared.pieces.Piece.{Piece}
use Rattle.source_syntax.proofs.MethodLemmas.{drop_at}
use Rattle.source_flags.specs.Lines.{productions_of}
use Rattle.lower_manifest.specs.Chosen.{are_of}
use Rattle.source_flags.specs.declared.gathering.Kind.{Kind}
use Rattle.source_flags.specs.declared.gathering.Kind.TheVariants.{Declarations, One}
use Rattle.source_flags.proofs.Apart.{all_in, all_outside, are_apart, stays}
use Rattle.lower_manifest.proofs.Unsought.{head_in, inside_at, unsought}

-- ---- those of a kind among pieces

abbrev pub chosen : Kind → List Piece → List Piece
chosen kind found = filter (λ x. is_among (productions_of kind) x.production) found

module _ (nodes : List TreeNode) (kind : Kind) where
  pub chosen_are : (xs : List Piece) (ps : List Part) → ArePieces nodes xs ps → ArePieces nodes (chosen kind xs) (are_of kind ps)
  chosen_are [] [] e = refl
  chosen_are [] (p ∷ ps) e = absurd cc
  chosen_are (x ∷ xs) [] e = absurd cc
  chosen_are (x ∷ xs) (p ∷ ps) e =
      let first : piece_of nodes x ≡ written p = cc in
      let rest : ArePieces nodes xs ps = cc in
      let same : x.production ≡ p.production = ap (λ (w : ℕ × List TreeNode). w.0) first in
      subst (λ q. ArePieces nodes (chosen kind (x ∷ xs)) (cond (is_among (productions_of kind) q) (p ∷ are_of kind ps) (are_of kind ps))) same
      (go (is_among (productions_of kind) x.production) first (chosen_are xs ps rest))
    where
      go : (c : Bool) → piece_of nodes x ≡ written p → ArePieces nodes (chosen kind xs) (are_of kind ps)
          → ArePieces nodes (cond c (x ∷ chosen kind xs) (chosen kind xs)) (cond c (p ∷ are_of kind ps) (are_of kind ps))
      go true same more = ap (λ w. w ∷ map (piece_of nodes) (chosen kind xs)) same ∙ ap (λ ws. written p ∷ ws) more
      go false same more = more

-- one more was looked at
pub chosen_next : (kind : Kind) (found : List Piece) (i : ℕ) (x : Piece) (some : List Piece) (c : Bool) → slice_get found i ≡ Some x
    → is_among (productions_of kind) x.production ≡ c → some ++ chosen kind (drop i found) ≡ chosen kind found
    → some ++ (cond c (x ∷ chosen kind (drop (i + 1) found)) (chosen kind (drop (i + 1) found))) ≡ chosen kind found
chosen_next kind found i x some c at is e =
    ap (λ (b : Bool). some ++ cond b (x ∷ chosen kind (drop (i + 1) found)) (chosen kind (drop (i + 1) found))) (sym is)
    ∙ ap (λ xs. some ++ chosen kind xs) (sym (drop_at found i x at)) ∙ e

pub all_chosen : (kind : Kind) (found : List Piece) (i : ℕ) (some : List Piece) → length found ≤ i → some ++ chosen kind (drop i found) ≡ chosen kind found
    → some ≡ chosen kind found
all_chosen kind found i some over e = sym (ap (λ xs. some ++ chosen kind xs) (drop_all i found over) ∙ append-nil some) ∙ e

-- what holds of all parts holds of those of a kind
pub all_of_kind : (P : Part → Type 0) (kind : Kind) (ps : List Part) → AllByRecursion P ps → AllByRecursion P (are_of kind ps)
all_of_kind P kind [] h = tt
all_of_kind P kind (p ∷ ps) h = go (is_among (productions_of kind) p.production) h.0 (all_of_kind P kind ps h.1)
  where
    go : (c : Bool) → P p → AllByRecursion P (are_of kind ps) → AllByRecursion P (cond c (p ∷ are_of kind ps) (are_of kind ps))
    go true own more = (own, more)
    go false own more = more

-- ---- those of some productions among the parts of more

filter_append : {X : Type 0} (test : X → Bool) (xs ys : List X) → filter test (xs ++ ys) ≡ filter test xs ++ filter test ys
filter_append test [] ys = refl
filter_append test (x ∷ xs) ys = go (test x) (filter_append test xs ys)
  where
    go : (c : Bool) → filter test (xs ++ ys) ≡ filter test xs ++ filter test ys
        → cond c (x ∷ filter test (xs ++ ys)) (filter test (xs ++ ys)) ≡ cond c (x ∷ filter test xs) (filter test xs) ++ filter test ys
    go true e = ap (λ zs. x ∷ zs) e
    go false e = e

module _ (all some : List ℕ) (within : (p : ℕ) → is_among some p ≡ true → is_among all p ≡ true) where
  abbrev is_some : Part → Bool
  is_some p = is_among some p.production

  pub some_of_parts : (f : Forest) → filter is_some (parts all f) ≡ parts_outside all some f
  some_of_parts none = refl
  some_of_parts (leaf k a) = some_of_parts a
  some_of_parts (branch p b a) = go (is_among some p) (is_among all p) refl refl (some_of_parts b) (some_of_parts a)
    where
      inner : List Part
      inner = parts all b

      later : List Part
      later = parts all a

      left : (d : Bool) → is_among all p ≡ d → filter is_some (parts all (branch p b a)) ≡ filter is_some ((if d then part p b ∷ [] else inner) ++ later)
      left d e = ap (λ (x : Bool). filter is_some ((if x then part p b ∷ [] else inner) ++ later)) e

      right : (c d : Bool) → is_among some p ≡ c → is_among all p ≡ d → parts_outside all some (branch p b a)
          ≡ (if c then part p b ∷ [] else if d then [] else parts_outside all some b) ++ parts_outside all some a
      right c d e g =
          ap (λ (x : Bool). (if x then part p b ∷ [] else if is_among all p then [] else parts_outside all some b) ++ parts_outside all some a) e
          ∙ ap (λ (x : Bool). (if c then part p b ∷ [] else if x then [] else parts_outside all some b) ++ parts_outside all some a) g

      first : (c : Bool) → is_among some p ≡ c → filter is_some (part p b ∷ later) ≡ cond c (part p b ∷ filter is_some later) (filter is_some later)
      first c e = ap (λ (x : Bool). cond x (part p b ∷ filter is_some later) (filter is_some later)) e

      go : (c d : Bool) → is_among some p ≡ c → is_among all p ≡ d → filter is_some inner ≡ parts_outside all some b → filter is_some later ≡ parts_outside all some a
          → filter is_some (parts all (branch p b a)) ≡ parts_outside all some (branch p b a)
      go true true e g below after = left true g ∙ first true e ∙ ap (λ ps. part p b ∷ ps) after ∙ sym (right true true e g)
      go false true e g below after = left true g ∙ first false e ∙ after ∙ sym (right false true e g)
      go true false e g below after = let no : true ≡ false = sym (within p e) ∙ g in absurd cc
      go false false e g below after =
          left false g ∙ filter_append is_some inner later ∙ ap (λ ps. ps ++ filter is_some later) below ∙ ap (λ ps. parts_outside all some b ++ ps) after
          ∙ sym (right false false e g)

-- ---- declarations stand in no declaration

unfoldable pub below_declarations : ℕ
below_declarations = 0xffffffffffffffffffffffffffffffffffffffffc

declarations_closed : all_below (stays below_declarations (productions_of Declarations)) ilasm_tables.productions ≡ true
unfolding ilasm_tables body_at has_bit below_declarations
declarations_closed = refl

unfoldable pub is_declaration : ℕ → Bool
is_declaration p = is_among (productions_of Declarations) p && are_apart below_declarations (p ∷ [])

one_of : (p q : ℕ) → is_among (p ∷ []) q ≡ true → p ≡ q
one_of p q e = go (p == q) refl e
  where
    go : (c : Bool) → (p == q) ≡ c → (c || false) ≡ true → p ≡ q
    go true is h = (Decides-eqb p q).0 is
    go false is h = absurd cc

-- the declarations of one production among all
pub declared_ones : (p : ℕ) → is_declaration p ≡ true → (s : Source) (f : Forest) → HasBodies s f → are_of (One p) (parts (productions_of Declarations) f) ≡ parts (p ∷ []) f
unfolding is_declaration
declared_ones p e s f h =
    let both = and_parts (is_among (productions_of Declarations) p) (are_apart below_declarations (p ∷ [])) e in
    some_of_parts (productions_of Declarations) (p ∷ []) (λ q i. subst (λ r. is_among (productions_of Declarations) r ≡ true) (one_of p q i) both.0) f
    ∙ all_outside below_declarations (productions_of Declarations) (p ∷ []) declarations_closed both.1 s f h

-- ---- what stands in some productions alone

flat_append : {X Y : Type 0} (g : X → List Y) (xs ys : List X) → flat_map g (xs ++ ys) ≡ flat_map g xs ++ flat_map g ys
flat_append g [] ys = refl
flat_append g (x ∷ xs) ys = ap (λ zs. g x ++ zs) (flat_append g xs ys) ∙ sym (append_assoc (g x) (flat_map g xs) (flat_map g ys))

-- what a production puts in the place of a nonterminal of the set stays in it, where the production is none of the outer ones
abbrev pub stays_outside : ℕ → List ℕ → ℕ → Bool
stays_outside mask outer p = is_among outer p || implies (has_bit mask (ilasm_tables.head p)) (all_in mask (ilasm_tables.body p))

module _ (mask : ℕ) (outer inner : List ℕ) (closed : all_below (stays_outside mask outer) ilasm_tables.productions ≡ true) (apart : are_apart mask inner ≡ true) where
  abbrev pub in_each : List Part → List Part
  in_each ps = flat_map (λ p. parts inner p.below) ps

  implied : (a b c : Bool) → (a || implies b c) ≡ true → a ≡ false → b ≡ true → c ≡ true
  implied true b c e h i = absurd cc
  implied false true c e h i = e
  implied false false c e h i = absurd cc

  body_of : (s : Source) (p : ℕ) (b : Forest) (o : Option Rule) → ilasm p ≡ o → FitsRule s o b → is_among outer p ≡ false
      → has_bit mask (ilasm_tables.head p) ≡ true → (r : Rule) × Fits s r.body b × (all_in mask r.body ≡ true)
  body_of s p b None e fits other h = absurd fits
  body_of s p b (Some r) e fits other h =
      let body : ilasm_tables.body p ≡ r.body = ap (λ (x : Rule). x.body) (ilasm_table.rules e).1 in
      let test = at_rule ilasm_tables ilasm_checked ilasm picked ilasm_table (stays_outside mask outer) closed e in
      (r, fits, sym (ap (all_in mask) body) ∙ implied (is_among outer p) (has_bit mask (ilasm_tables.head p)) (all_in mask (ilasm_tables.body p)) test other h)

  pub in_outer : (s : Source) (f : Forest) (symbols : List Symbol) → all_in mask symbols ≡ true → Fits s symbols f → HasBodies s f → in_each (parts outer f) ≡ parts inner f
  in_outer s none symbols all fits bodies = refl
  in_outer s (leaf k a) [] all fits bodies = absurd fits
  in_outer s (leaf k a) (Terminal t ∷ more) all fits bodies = in_outer s a more all fits.1 bodies
  in_outer s (leaf k a) (Nonterminal n ∷ more) all fits bodies = absurd fits
  in_outer s (branch p b a) [] all fits bodies = absurd fits
  in_outer s (branch p b a) (Terminal t ∷ more) all fits bodies = absurd fits
  in_outer s (branch p b a) (Nonterminal n ∷ more) all fits bodies =
      let both = and_parts (has_bit mask n) (all_in mask more) all in
      let bit = head_in mask p n (ilasm p) refl fits.0 both.0 in
      go (λ other. let r = body_of s p b (ilasm p) refl bodies.0 other bit in in_outer s b r.0.body r.2 r.1 bodies.1)
      (in_outer s a more both.1 fits.1 bodies.2) (is_among outer p) refl ∙ sym (inside_at inner p b a (unsought mask inner apart p bit))
    where
      split : (d : Bool) → is_among outer p ≡ d → in_each (parts outer (branch p b a)) ≡ in_each ((if d then part p b ∷ [] else parts outer b) ++ parts outer a)
      split d e = ap (λ (c : Bool). in_each ((if c then part p b ∷ [] else parts outer b) ++ parts outer a)) e

      go : (is_among outer p ≡ false → in_each (parts outer b) ≡ parts inner b) → in_each (parts outer a) ≡ parts inner a
          → (c : Bool) → is_among outer p ≡ c → in_each (parts outer (branch p b a)) ≡ parts inner b ++ parts inner a
      go below after true e = split true e ∙ ap (λ ps. parts inner b ++ ps) after
      go below after false e =
          split false e ∙ flat_append (λ (q : Part). parts inner q.below) (parts outer b) (parts outer a)
          ∙ ap (λ ps. ps ++ in_each (parts outer a)) (below e)
          ∙ ap (λ ps. parts inner b ++ ps) after

-- ---- other assemblies are named in declarations alone

unfoldable pub outside_assemblies : ℕ
outside_assemblies = 0x1fffffffffffffffffffffffffffffffffffff3823

externs_closed : all_below (stays_outside outside_assemblies (DECL_ASSEMBLY ∷ [])) ilasm_tables.productions ≡ true
unfolding ilasm_tables body_at has_bit outside_assemblies
externs_closed = refl

externs_apart : are_apart outside_assemblies (ASSEMBLY_EXTERN ∷ []) ≡ true
unfolding ilasm_tables has_bit outside_assemblies
externs_apart = refl

begins_outside : all_in outside_assemblies (Nonterminal SOURCE ∷ []) ≡ true
unfolding has_bit outside_assemblies
begins_outside = refl

assembly_is_declaration : is_declaration DECL_ASSEMBLY ≡ true
unfolding is_declaration below_declarations ilasm_tables has_bit
assembly_is_declaration = refl

-- the assemblies that a source names stand in its declarations of assemblies
pub externs_declared : (s : Source) → Fits s (Nonterminal SOURCE ∷ []) s.tree → HasBodies s s.tree
    → flat_map (λ (p : Part). parts (ASSEMBLY_EXTERN ∷ []) p.below) (are_of (One DECL_ASSEMBLY) (parts (productions_of Declarations) s.tree)) ≡ parts (ASSEMBLY_EXTERN ∷ []) s.tree
externs_declared s fits bodies =
    ap (flat_map (λ (p : Part). parts (ASSEMBLY_EXTERN ∷ []) p.below)) (declared_ones DECL_ASSEMBLY assembly_is_declaration s s.tree bodies)
    ∙ in_outer outside_assemblies (DECL_ASSEMBLY ∷ []) (ASSEMBLY_EXTERN ∷ []) externs_closed externs_apart s s.tree (Nonterminal SOURCE ∷ []) begins_outside fits bodies
