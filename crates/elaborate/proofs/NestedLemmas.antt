-- A class nests others where a class is among its members, and nowhere else (ECMA-335 II.10.6).
use Rattle.std.proofs.Common.{◌≡◌, ℕ, List, [], ◌∷◌, ◌++◌, Bool, true, false, ◌||◌, Option, None, Some, cond, refl, sym, ap, ◌∙◌}
use Rattle.std.specs.Prelude.{◌==◌, if◌then◌else◌}
use Rattle.std.specs.List.{flat_map, list_any}
use Rattle.ilasm_grammar.specs.Grammar.{Rule}
use Rattle.ilasm_grammar.specs.Ilasm.{body_at, has_bit, ilasm}
use Rattle.ilasm_grammar.specs.declared.productions.TheConstants.{
  CLASS,
  MEMBER_CLASS,
  MEMBER_FIELD,
  MEMBER_METHOD,
  MEMBER_PROPERTY,
  MEMBER_EVENT,
  MEMBER_CUSTOM,
  MEMBER_DATA,
  MEMBER_PARAM,
  MEMBER_PACK,
  MEMBER_SIZE,
}
use Rattle.ilasm_grammar.proofs.IlasmFacts.{ilasm_table}
use Rattle.ilasm_grammar.proofs.TableCheck.{ilasm_tables}
use Rattle.ilasm_grammar.proofs.Tables.{all_below}
use Rattle.source_model.specs.Forest.{Forest, Part, none, leaf, branch, part, parts, parts_outside, is_among}
use Rattle.source_model.specs.Items.{members}
use Rattle.source_model.specs.Source.{Source}
use Rattle.source_nodes.specs.Derived.{Fits, FitsBody, FitsRule, HasBodies}
use Rattle.source_flags.specs.Lines.{productions_of}
use Rattle.source_flags.specs.declared.gathering.Kind.TheVariants.{Members, One}
use Rattle.source_flags.proofs.Apart.{all_in, all_outside, are_apart, stays}
use Rattle.lower_manifest.specs.Chosen.{are_of}
use Rattle.lower_manifest.proofs.Among.{in_outer, some_of_parts, stays_outside}
use Rattle.elaborate.specs.HeadForms.{head_forms}
use Rattle.elaborate.proofs.ClassLemmas.{neither}
use Rattle.elaborate.proofs.ClassWalks.{turned}

-- ---- what stands in the head of a class is no member

-- the nonterminals that stand somewhere in it
unfoldable below_heads : ℕ
below_heads = 0x2bff700001ffffff000020

heads_closed : all_below (stays below_heads head_forms) ilasm_tables.productions ≡ true
unfolding ilasm_tables body_at has_bit below_heads
heads_closed = refl

heads_apart : are_apart below_heads (productions_of Members) ≡ true
unfolding ilasm_tables has_bit below_heads
heads_apart = refl

pub same_members : (s : Source) (f : Forest) → HasBodies s f → parts_outside head_forms (productions_of Members) f ≡ members f
same_members s f h = all_outside below_heads head_forms (productions_of Members) heads_closed heads_apart s f h

-- ---- classes among the members

-- the members that are no classes
abbrev others : List ℕ
others = MEMBER_FIELD ∷ MEMBER_METHOD ∷ MEMBER_PROPERTY ∷ MEMBER_EVENT ∷ MEMBER_CUSTOM ∷ MEMBER_DATA ∷ MEMBER_PARAM ∷ MEMBER_PACK ∷ MEMBER_SIZE ∷ []

-- the nonterminals that stand somewhere below them
unfoldable below_others : ℕ
below_others = 0xfffffffffffffffffff03ff87ffffffffffff3820

others_closed : all_below (stays below_others others) ilasm_tables.productions ≡ true
unfolding ilasm_tables body_at has_bit below_others
others_closed = refl

members_apart : are_apart below_others (MEMBER_CLASS ∷ []) ≡ true
unfolding ilasm_tables has_bit below_others
members_apart = refl

-- what is sought is never gone past
same_shut : (q : ℕ) (more : List ℕ) (f : Forest) → parts_outside (q ∷ more) (q ∷ []) f ≡ parts_outside more (q ∷ []) f
same_shut q more none = refl
same_shut q more (leaf k a) = same_shut q more a
same_shut q more (branch p b a) = go (q == p) refl (same_shut q more b) (same_shut q more a)
  where
    go : (c : Bool) → (q == p) ≡ c → parts_outside (q ∷ more) (q ∷ []) b ≡ parts_outside more (q ∷ []) b
        → parts_outside (q ∷ more) (q ∷ []) a ≡ parts_outside more (q ∷ []) a
        → parts_outside (q ∷ more) (q ∷ []) (branch p b a) ≡ parts_outside more (q ∷ []) (branch p b a)
    go true e below after =
        ap (λ (c : Bool). (if c || false then part p b ∷ [] else if c || is_among more p then [] else parts_outside (q ∷ more) (q ∷ []) b)
        ++ parts_outside (q ∷ more) (q ∷ []) a) e
        ∙ ap (λ ps. part p b ∷ ps) after
        ∙ sym (ap (λ (c : Bool). (if c || false then part p b ∷ [] else if is_among more p then [] else parts_outside more (q ∷ []) b)
        ++ parts_outside more (q ∷ []) a) e)
    go false e below after =
        ap (λ (c : Bool). (if c || false then part p b ∷ [] else if c || is_among more p then [] else parts_outside (q ∷ more) (q ∷ []) b)
        ++ parts_outside (q ∷ more) (q ∷ []) a) e
        ∙ ap (λ ps. (if is_among more p then [] else ps) ++ parts_outside (q ∷ more) (q ∷ []) a) below
        ∙ ap (λ ps. (if is_among more p then [] else parts_outside more (q ∷ []) b) ++ ps) after
        ∙ sym (ap (λ (c : Bool). (if c || false then part p b ∷ [] else if is_among more p then [] else parts_outside more (q ∷ []) b)
        ++ parts_outside more (q ∷ []) a) e)

within : (p : ℕ) → is_among (MEMBER_CLASS ∷ []) p ≡ true → is_among (productions_of Members) p ≡ true
within p e = go (MEMBER_CLASS == p) e
  where
    go : (c : Bool) → (c || false) ≡ true → (c || is_among others p) ≡ true
    go true h = refl
    go false h = absurd cc

member_classes : (s : Source) (f : Forest) → HasBodies s f → are_of (One MEMBER_CLASS) (members f) ≡ parts (MEMBER_CLASS ∷ []) f
member_classes s f h =
    some_of_parts (productions_of Members) (MEMBER_CLASS ∷ []) within f
    ∙ same_shut MEMBER_CLASS others f
    ∙ all_outside below_others others (MEMBER_CLASS ∷ []) others_closed members_apart s f h

none_of_one : (q : ℕ) (ps : List Part) → list_any (λ (p : Part). p.production == q) ps ≡ false → are_of (One q) ps ≡ []
none_of_one q [] e = refl
none_of_one q (p ∷ ps) e =
    let both = neither (p.production == q) (list_any (λ (x : Part). x.production == q) ps) e in
    ap (λ (c : Bool). cond (c || false) (p ∷ are_of (One q) ps) (are_of (One q) ps)) (turned p.production q both.0) ∙ none_of_one q ps both.1

-- ---- classes in a class

-- the nonterminals that stand in a class, outside of the classes among its members
unfoldable in_class : ℕ
in_class = 0xffffffffffffffffffffffff7ffffffffffff3820

class_closed : all_below (stays_outside in_class (MEMBER_CLASS ∷ [])) ilasm_tables.productions ≡ true
unfolding ilasm_tables body_at has_bit in_class
class_closed = refl

class_apart : are_apart in_class (CLASS ∷ []) ≡ true
unfolding ilasm_tables has_bit in_class
class_apart = refl

class_begins : all_in in_class (ilasm_tables.body CLASS) ≡ true
unfolding ilasm_tables body_at has_bit in_class
class_begins = refl

-- in a class without classes among its members stands no class
pub nests_none : (s : Source) (f : Forest) → FitsBody s CLASS f → HasBodies s f → list_any (λ (p : Part). p.production == MEMBER_CLASS) (members f) ≡ false
    → parts (CLASS ∷ []) f ≡ []
nests_none s f fits bodies classless =
    let own = body_of (ilasm CLASS) refl fits in
    sym (in_outer in_class (MEMBER_CLASS ∷ []) (CLASS ∷ []) class_closed class_apart s f own.0.body own.2 own.1 bodies)
    ∙ ap (flat_map (λ (p : Part). parts (CLASS ∷ []) p.below)) (sym (member_classes s f bodies) ∙ none_of_one MEMBER_CLASS (members f) classless)
  where
    body_of : (o : Option Rule) → ilasm CLASS ≡ o → FitsRule s o f → (r : Rule) × Fits s r.body f × (all_in in_class r.body ≡ true)
    body_of None e fits = absurd fits
    body_of (Some r) e fits =
        let body : ilasm_tables.body CLASS ≡ r.body = ap (λ (x : Rule). x.body) (ilasm_table.rules e).1 in
        (r, fits, sym (ap (all_in in_class) body) ∙ class_begins)
