-- The classes of a piece of a listing are those of its parts.
use Rattle.std.proofs.Common.{◌≡◌, ℕ, suc, ◌+◌, ◌||◌, nat_eq, Bool, true, false, cond, if◌then◌else◌, List, [], ◌∷◌, ◌++◌, refl, ap, sym, subst, ◌∙◌, append_assoc, arith}
use Rattle.std.proofs.lemmas.Bool.Decides.{Decides-eqb}
use Rattle.std.proofs.lemmas.List.Elements.{filter-append}
use Rattle.ilasm_grammar.specs.Ilasm.{ilasm, rule_by, has_bit}
use Rattle.ilasm_grammar.specs.declared.productions.TheConstants as p
use Rattle.ilasm_grammar.specs.declared.symbol.Symbol.{Symbol}
use Rattle.ilasm_grammar.specs.declared.symbol.Symbol.TheVariants.{Terminal, Nonterminal}
use Rattle.source_model.specs.Forest as f
use Rattle.source_model.specs.Nodes.{Around, Node, nodes_in, nodes_of, entered, type_id, class_token}
use Rattle.source_model.specs.Source.{Source}
use Rattle.listing_model.specs.Grown.{body_of, Grows}
use Rattle.listing_model.specs.Shown.{Shown, size}
use Rattle.listing_model.specs.Shown.{Shown as shown}
use Rattle.listing_reading.specs.Below.{below, cant_stand}
use Rattle.listing_reading.specs.BelowMasks.{below_masks}
use Rattle.listing_reading.specs.Laws.{SearchesPass}
use Rattle.listing_reading.specs.Numbered.{numbered}
use Rattle.listing_rows.specs.Laws.{class_parts}

module _ (s : Source) where
  -- the classes in a forest
  abbrev pub class_nodes : Around → f.Forest → List Node
  class_nodes around g = nodes_of class_parts (nodes_in s around g)

  -- a class that is a part, with those in it
  abbrev pub part_nodes : Around → f.Part → List Node
  part_nodes around q =
      record { production = p.CLASS; below = q.below; around = entered s around p.CLASS q.below } ∷ class_nodes (entered s around p.CLASS q.below) q.below

  abbrev pub nodes_of_parts : Around → List f.Part → List Node
  nodes_of_parts around [] = []
  nodes_of_parts around (q ∷ qs) = part_nodes around q ++ nodes_of_parts around qs

  pub parts_join : (around : Around) (xs ys : List f.Part) → nodes_of_parts around (xs ++ ys) ≡ nodes_of_parts around xs ++ nodes_of_parts around ys
  parts_join around [] ys = refl
  parts_join around (x ∷ xs) ys =
      ap (λ ns. part_nodes around x ++ ns) (parts_join around xs ys) ∙ sym (append_assoc (part_nodes around x) (nodes_of_parts around xs) (nodes_of_parts around ys))

  -- ---- a production and what stands behind it

  pub flipped : (j k : ℕ) → nat_eq j k ≡ false → nat_eq k j ≡ false
  flipped j k h = grind (arith, h)

  split : (around : Around) (q : ℕ) (b after : f.Forest) → nodes_of class_parts (nodes_in s (entered s around q b) b ++ nodes_in s around after)
      ≡ class_nodes (entered s around q b) b ++ class_nodes around after
  split around q b after = filter-append (λ n. f.is_among class_parts n.production) (nodes_in s (entered s around q b) b) (nodes_in s around after)

  pub own_class : (around : Around) (b after : f.Forest) → class_nodes around (f.branch p.CLASS b after) ≡ part_nodes around (f.part p.CLASS b) ++ class_nodes around after
  own_class around b after =
      ap (λ ns. record { production = p.CLASS; below = b; around = entered s around p.CLASS b } ∷ ns) (split around p.CLASS b after)

  pub other_class : (around : Around) (q : ℕ) (b after : f.Forest) → nat_eq p.CLASS q ≡ false → class_nodes around (f.branch q b after) ≡ class_nodes (entered s around q b) b ++ class_nodes around after
  other_class around q b after e =
      let rest = nodes_of class_parts (nodes_in s (entered s around q b) b ++ nodes_in s around after) in
      ap (λ (c : Bool). cond (c || false) (record { production = q; below = b; around = entered s around q b } ∷ rest) rest) e ∙ split around q b after

  -- only methods and classes stand around what is in them
  pub entered_is : (around : Around) (q : ℕ) (b : f.Forest) → nat_eq q p.CLASS ≡ false → nat_eq q p.METHOD ≡ false → entered s around q b ≡ around
  entered_is around q b c m =
      ap (λ (x : Bool). if x then record { path = around.path ++ type_id s (class_token b) ∷ []; class = b; method = f.none } else if nat_eq q p.METHOD then record { path = around.path; class = around.class; method = b } else around) c
      ∙ ap (λ (x : Bool). if x then record { path = around.path; class = around.class; method = b } else around) m

  -- ---- by parts

  pub no_class_in_method : cant_stand class_parts (body_of p.METHOD) ≡ true
  unfolding ilasm rule_by has_bit below below_masks
  no_class_in_method = refl

  module _ (searches : SearchesPass) where
    -- what holds no class has none
    pub none_inside : (around : Around) (g : f.Forest) → f.parts class_parts g ≡ [] → class_nodes around g ≡ []
    none_inside around f.none h = refl
    none_inside around (f.leaf k after) h = none_inside around after h
    none_inside around (f.branch q b after) h =
        by (nat_eq p.CLASS q) refl h (λ i. none_inside (entered s around q b) b i) (λ i. none_inside around after i)
      where
        empty_front : (xs ys : List f.Part) → (xs ++ ys) ≡ [] → (xs ≡ []) × (ys ≡ [])
        empty_front [] ys e = (refl, e)
        empty_front (x ∷ xs) ys e = absurd cc

        by : (c : Bool) → nat_eq p.CLASS q ≡ c → (cond (c || false) (f.part q b ∷ []) (f.parts class_parts b) ++ f.parts class_parts after) ≡ [] →
            (f.parts class_parts b ≡ [] → class_nodes (entered s around q b) b ≡ []) → (f.parts class_parts after ≡ [] → class_nodes around after ≡ []) →
            class_nodes around (f.branch q b after) ≡ []
        by true e i inside behind = absurd cc
        by false e i inside behind =
            let es = empty_front (f.parts class_parts b) (f.parts class_parts after) i in
            let first = inside es.0 in
            let later = behind es.1 in
            other_class around q b after e ∙ (λ j. first j ++ later j)

    abbrev AreOfParts : Around → f.Forest → Type 0
    AreOfParts around g = class_nodes around g ≡ nodes_of_parts around (f.parts class_parts g)

    branch_by : (q : ℕ) (b : Shown) → Grows (body_of q) b → (at : ℕ) (behind : f.Forest) (c : Bool) → nat_eq p.CLASS q ≡ c → (m : Bool) → nat_eq q p.METHOD ≡ m → (around : Around) →
        ((inner : Around) → AreOfParts inner (numbered at b)) → AreOfParts around behind → AreOfParts around (f.branch q (numbered at b) behind)
    branch_by q b grown at behind true c m d around inside later =
        let own = numbered at b in
        let same = (Decides-eqb p.CLASS q).0 c in
        subst (λ (x : ℕ). AreOfParts around (f.branch x own behind)) same (own_class around own behind ∙ ap (λ ns. part_nodes around (f.part p.CLASS own) ++ ns) later)
    branch_by q b grown at behind false c true d around inside later =
        let own = numbered at b in
        let same = (Decides-eqb q p.METHOD).0 d in
        let nothing = searches.nothing class_parts (body_of p.METHOD) no_class_in_method b (subst (λ x. Grows (body_of x) b) same grown) at in
        other_class around q own behind c
        ∙ (ap (λ ns. ns ++ class_nodes around behind) (none_inside (entered s around q own) own nothing)
        ∙ (later
        ∙ sym (ap (λ (x : Bool). nodes_of_parts around (cond (x || false) (f.part q own ∷ []) (f.parts class_parts own) ++ f.parts class_parts behind)) c
        ∙ ap (λ ps. nodes_of_parts around (ps ++ f.parts class_parts behind)) nothing)))
    branch_by q b grown at behind false c false d around inside later =
        let own = numbered at b in
        let around_is = entered_is around q own (flipped p.CLASS q c) d in
        let first = ap (λ x. class_nodes x own) around_is ∙ inside around in
        other_class around q own behind c
        ∙ ((λ i. first i ++ later i)
        ∙ (sym (parts_join around (f.parts class_parts own) (f.parts class_parts behind))
        ∙ sym (ap (λ (x : Bool). nodes_of_parts around (cond (x || false) (f.part q own ∷ []) (f.parts class_parts own) ++ f.parts class_parts behind)) c)))

    pub by_parts : (symbols : List Symbol) (g : Shown) → Grows symbols g → (around : Around) (at : ℕ) → AreOfParts around (numbered at g)
    by_parts symbols shown.none h around at = refl
    by_parts [] (shown.leaf l after) h around at = absurd h
    by_parts [] (shown.branch q b after) h around at = absurd h
    by_parts (Terminal t ∷ more) (shown.leaf l after) h around at = by_parts more after h.1 around (suc at)
    by_parts (Terminal t ∷ more) (shown.branch q b after) h around at = absurd h
    by_parts (Nonterminal m ∷ more) (shown.leaf l after) h around at = absurd h
    by_parts (Nonterminal m ∷ more) (shown.branch q b after) h around at =
        branch_by q b h.1 at (numbered (at + size b) after) (nat_eq p.CLASS q) refl (nat_eq q p.METHOD) refl around (λ inner. by_parts (body_of q) b h.1 inner at)
        (by_parts more after h.2 around (at + size b))
