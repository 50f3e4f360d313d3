-- Below a member that is no class stands no class: of the nonterminals in whose derivations classes may stand its body has none.
use Rattle.std.proofs.Common.{◌≡◌, ℕ, ◌<◌, List, [], ◌∷◌, length, refl, ap, sym, ◌∙◌, arith}
use Rattle.std.specs.Prelude.{Bool, true, false, not, ◌==◌, ◌||◌, ◌&&◌, Option, None, Some, option_map, slice_index}
use Rattle.std.proofs.lemmas.Bool.Decides.{Decides-eqb}
use Rattle.std.proofs.lemmas.Option.{same_Some}
use Rattle.ilasm_grammar.specs.Grammar.{Rule}
use Rattle.ilasm_grammar.specs.Ilasm.{ilasm, body_by, rule_by}
use Rattle.ilasm_grammar.specs.declared.nonterminals.TheConstants as n
use Rattle.ilasm_grammar.specs.declared.productions.TheConstants.{CLASS, MEMBER_CLASS}
use Rattle.ilasm_grammar.specs.declared.symbol.Symbol.{Symbol}
use Rattle.ilasm_grammar.specs.declared.symbol.Symbol.TheVariants.{Terminal, Nonterminal}
use Rattle.ilasm_grammar.proofs.Tables.{all_below}
use Rattle.ilasm_grammar.proofs.TableFacts.{all_below-at}
use Rattle.ilasm_grammar.proofs.TableLemmas.{rule_by-is}
use Rattle.source_model.specs.Forest.{Forest, none, leaf, branch, is_among}
use Rattle.source_model.specs.Source.{Source}
use Rattle.source_nodes.specs.Derived.{Fits, FitsBody, FitsRule, HasBodies, head_of}
use Rattle.check_names.proofs.Classless.{Classless}
use Rattle.check_members.specs.MemberKinds.{places}
use Rattle.check_members.specs.declared.member_kinds.Level.TheVariants as level

-- nonterminals in whose derivations classes may stand
abbrev holds_classes : ℕ → Bool
holds_classes m = is_among (n.SOURCE ∷ n.DECL ∷ n.DECL_STAR ∷ n.CLASS ∷ n.MEMBER_STAR ∷ n.MEMBER ∷ []) m

-- none of these symbols is one of them
abbrev is_classless : List Symbol → Bool
is_classless [] = true
is_classless (Terminal x ∷ more) = is_classless more
is_classless (Nonterminal m ∷ more) = not (holds_classes m) && is_classless more

-- nor has another nonterminal one in its bodies, by such tables
abbrev keeps_out : List ℕ → List ℕ → List Symbol → ℕ → Bool
keeps_out heads starts bodies p = holds_classes (slice_index heads p) || is_classless (body_by starts bodies p)

either : (a b : Bool) → (a || b) ≡ true → a ≡ false → b ≡ true
either true b e h = absurd cc
either false b e h = e

neither : (a b : Bool) → (not a && b) ≡ true → (a ≡ false) × (b ≡ true)
neither true b e = absurd cc
neither false b e = (refl, e)

of_table : (heads starts : List ℕ) (bodies : List Symbol) (p : ℕ) (r : Rule) → rule_by heads starts bodies p ≡ Some r → (n : ℕ) → length heads ≡ n
    → all_below (keeps_out heads starts bodies) n ≡ true → holds_classes r.head ≡ false → is_classless r.body ≡ true
of_table heads starts bodies p r e n long all other =
    let is = rule_by-is heads starts bodies p r e in
    let within : p < n = omega (arith, is.0, long) in
    let ok = all_below-at (keeps_out heads starts bodies) n all p within in
    sym (ap (λ (x : Rule). is_classless x.body) is.1)
    ∙ either (holds_classes (slice_index heads p)) (is_classless (body_by starts bodies p)) ok (ap (λ (x : Rule). holds_classes x.head) is.1 ∙ other)

of_rule : (p : ℕ) (r : Rule) → ilasm p ≡ Some r → holds_classes r.head ≡ false → is_classless r.body ≡ true
unfolding ilasm
of_rule p r e other = of_table _ _ _ p r e 641 refl refl other

-- ---- forests

class_head : head_of CLASS ≡ Some n.CLASS
unfolding ilasm rule_by
class_head = refl

no_class : (p m : ℕ) → head_of p ≡ Some m → holds_classes m ≡ false → (p == CLASS) ≡ false
no_class p m is other = go (p == CLASS) refl
  where
    go : (c : Bool) → (p == CLASS) ≡ c → c ≡ false
    go false e = refl
    go true e =
        let same : p ≡ CLASS = (Decides-eqb p CLASS).0 e in
        let class : m ≡ n.CLASS = same_Some m n.CLASS (sym is ∙ ap head_of same ∙ class_head) in
        let holds : holds_classes m ≡ true = ap holds_classes class in
        absurd cc

below_symbols : (s : Source) (body : List Symbol) (f : Forest) → Fits s body f → HasBodies s f → is_classless body ≡ true → Classless f
below_symbols s [] none fits h e = tt
below_symbols s [] (leaf k a) fits h e = absurd fits
below_symbols s [] (branch p b a) fits h e = absurd fits
below_symbols s (Terminal x ∷ more) none fits h e = absurd fits
below_symbols s (Terminal x ∷ more) (leaf k a) fits h e = below_symbols s more a fits.1 h e
below_symbols s (Terminal x ∷ more) (branch p b a) fits h e = absurd fits
below_symbols s (Nonterminal m ∷ more) none fits h e = absurd fits
below_symbols s (Nonterminal m ∷ more) (leaf k a) fits h e = absurd fits
below_symbols s (Nonterminal m ∷ more) (branch p b a) fits h e =
    let both = neither (holds_classes m) (is_classless more) e in (
      no_class p m fits.0 both.0,
      inner (λ body fit ok. below_symbols s body b fit h.1 ok) (ilasm p) refl fits.0 h.0 both.0,
      below_symbols s more a fits.1 h.2 both.1,
    )
  where
    inner : ((body : List Symbol) → Fits s body b → is_classless body ≡ true → Classless b) → (o : Option Rule) → ilasm p ≡ o
        → option_map (λ (r : Rule). r.head) o ≡ Some m → FitsRule s o b → holds_classes m ≡ false → Classless b
    inner below None is head fit other = absurd fit
    inner below (Some r) is head fit other = below r.body fit (of_rule p r is (ap holds_classes (same_Some r.head m head) ∙ other))

-- ---- members

abbrev all_of : (ℕ → Bool) → List ℕ → Bool
all_of test [] = true
all_of test (p ∷ ps) = test p && all_of test ps

both : (a b : Bool) → (a && b) ≡ true → (a ≡ true) × (b ≡ true)
both true b e = (refl, e)
both false b e = absurd cc

of_each : (test : ℕ → Bool) (ps : List ℕ) → all_of test ps ≡ true → (q : ℕ) → is_among ps q ≡ true → test q ≡ true
of_each test [] all q e = absurd cc
of_each test (p ∷ ps) all q e =
    let split = both (test p) (all_of test ps) all in
    go (p == q) refl split.0 (of_each test ps split.1 q)
  where
    go : (c : Bool) → (p == q) ≡ c → test p ≡ true → (is_among ps q ≡ true → test q ≡ true) → test q ≡ true
    go true is own later = ap test (sym ((Decides-eqb p q).0 is)) ∙ own
    go false is own later = later (sym (ap (λ c. c || is_among ps q) is) ∙ e)

abbrev has_classless_body : Option Rule → Bool
has_classless_body None = true
has_classless_body (Some r) = is_classless r.body

-- a member that is a class, or whose body has no class
abbrev is_class_or_without : ℕ → Bool
is_class_or_without p = p == MEMBER_CLASS || has_classless_body (ilasm p)

of_members : all_of is_class_or_without (places level.Class) ≡ true
unfolding ilasm rule_by
of_members = refl

-- below a member
pub member_classless : (s : Source) (p : ℕ) (f : Forest) → is_among (places level.Class) p ≡ true → (p == MEMBER_CLASS) ≡ false → FitsBody s p f → HasBodies s f → Classless f
member_classless s p f place other fits h = go (ilasm p) refl fits
  where
    go : (o : Option Rule) → ilasm p ≡ o → FitsRule s o f → Classless f
    go None is fit = absurd fit
    go (Some r) is fit =
        let without = either (p == MEMBER_CLASS) (has_classless_body (ilasm p)) (of_each is_class_or_without (places level.Class) of_members p place) other in
        below_symbols s r.body f fit h (sym (ap has_classless_body is) ∙ without)
