-- Productions whose bodies hold a production of their own: accessors, attributes, properties and events.
use Rattle.std.proofs.Common.{◌≡◌, ℕ, List, [], ◌∷◌, Option, None, Some, refl, ap, sym, subst, ◌∙◌}
use Rattle.std.specs.Prelude.{Bool, true, false, ◌==◌, ◌&&◌, ◌||◌, slice_get}
use Rattle.std.proofs.lemmas.Bool.Decides.{Decides-eqb}
use Rattle.ilasm_grammar.specs.Grammar.{Rule, rule_of}
use Rattle.ilasm_grammar.specs.Ilasm.{ilasm, rule_by}
use Rattle.ilasm_grammar.specs.declared.nonterminals.TheConstants as n
use Rattle.ilasm_grammar.specs.declared.productions.TheConstants.{EVENT, EVENT_ITEM_CUSTOM, MEMBER_EVENT, MEMBER_PROPERTY, METHOD_REF, PROPERTY, PROPERTY_ITEM_CUSTOM}
use Rattle.ilasm_grammar.specs.declared.terminals.TheConstants as t
use Rattle.source_model.specs.Forest.{Forest, has, is_among}
use Rattle.source_model.specs.Source.{Source}
use Rattle.source_flags.specs.InRange.{AllInRange}
use Rattle.source_flags.specs.Lines.{productions_of}
use Rattle.source_flags.specs.declared.gathering.Kind.TheVariants.{Accessors}
use Rattle.source_flags.proofs.Gathered.{has_bodies}
use Rattle.source_nodes.specs.Derived.{Fits, FitsBody, FitsRule, head_of}
use Rattle.source_syntax.proofs.BodyLemmas.{fits_has, goes_on_with}
use Rattle.source_syntax.proofs.NameTokens.{terminals_of_rule}
use Rattle.source_nodes.proofs.WrittenNames.{both_true, fits_rule, one_in}
use Rattle.lower_manifest.specs.Customs.{HoldsMethod}
use Rattle.lower_manifest.proofs.CustomLemmas.{holds_method, one_body}
use Rattle.lower_members.specs.ItemCustoms.{item_customs}

-- the body of a rule goes on with a nonterminal
abbrev pub holds : ℕ → Option Rule → Bool
holds m None = false
holds m (Some r) = goes_on_with m r.body

abbrev pub all_hold : ℕ → List ℕ → Bool
all_hold m [] = true
all_hold m (p ∷ ps) = holds m (ilasm p) && all_hold m ps

by_rule : (s : Source) (o : Option Rule) (f : Forest) (m q : ℕ) → FitsRule s o f → holds m o ≡ true → ((r : ℕ) → head_of r ≡ Some m → r ≡ q) → has q f ≡ true
by_rule s None f m q h e only = absurd h
by_rule s (Some r) f m q h e only = fits_has s r.body f m q h e only

among : (m : ℕ) (ps : List ℕ) (q : ℕ) → all_hold m ps ≡ true → is_among ps q ≡ true → holds m (ilasm q) ≡ true
among m [] q e h = absurd cc
among m (p ∷ ps) q e h = go (p == q) refl (both_true (holds m (ilasm p)) (all_hold m ps) e) (λ all is. among m ps q all is)
  where
    go : (c : Bool) → (p == q) ≡ c → (holds m (ilasm p) ≡ true) × (all_hold m ps ≡ true)
        → (all_hold m ps ≡ true → is_among ps q ≡ true → holds m (ilasm q) ≡ true) → holds m (ilasm q) ≡ true
    go true is both more = subst (λ r. holds m (ilasm r) ≡ true) ((Decides-eqb p q).0 is) both.0
    go false is both more = more both.1 (sym (ap (λ (c : Bool). c || is_among ps q) is) ∙ h)

-- ---- the nonterminals

one_reference : (p : ℕ) → head_of p ≡ Some n.METHOD_REF → p ≡ METHOD_REF
unfolding ilasm
one_reference p e = one_in _ _ _ n.METHOD_REF METHOD_REF p e refl

one_property : (p : ℕ) → head_of p ≡ Some n.PROPERTY → p ≡ PROPERTY
unfolding ilasm
one_property p e = one_in _ _ _ n.PROPERTY PROPERTY p e refl

one_event : (p : ℕ) → head_of p ≡ Some n.EVENT → p ≡ EVENT
unfolding ilasm
one_event p e = one_in _ _ _ n.EVENT EVENT p e refl

-- ---- what holds them

accessors_hold : all_hold n.METHOD_REF (productions_of Accessors) ≡ true
unfolding ilasm rule_by
accessors_hold = refl

property_held : holds n.PROPERTY (ilasm MEMBER_PROPERTY) ≡ true
unfolding ilasm rule_by
property_held = refl

event_held : holds n.EVENT (ilasm MEMBER_EVENT) ≡ true
unfolding ilasm rule_by
event_held = refl

module _ (s : Source) (f : Forest) where
  pub reference_in : (p : ℕ) → is_among (productions_of Accessors) p ≡ true → FitsBody s p f → has METHOD_REF f ≡ true
  reference_in p is fits = by_rule s (ilasm p) f n.METHOD_REF METHOD_REF fits (among n.METHOD_REF (productions_of Accessors) p accessors_hold is) one_reference

  pub property_in : FitsBody s MEMBER_PROPERTY f → has PROPERTY f ≡ true
  property_in fits = by_rule s (ilasm MEMBER_PROPERTY) f n.PROPERTY PROPERTY fits property_held one_property

  pub event_in : FitsBody s MEMBER_EVENT f → has EVENT f ≡ true
  event_in fits = by_rule s (ilasm MEMBER_EVENT) f n.EVENT EVENT fits event_held one_event

-- ---- attributes among items

rule_of_property : ilasm PROPERTY_ITEM_CUSTOM ≡ Some (rule_of n.PROPERTY_ITEM one_body)
unfolding ilasm rule_by
rule_of_property = refl

rule_of_event : ilasm EVENT_ITEM_CUSTOM ≡ Some (rule_of n.EVENT_ITEM one_body)
unfolding ilasm rule_by
rule_of_event = refl

fits_one : (s : Source) (f : Forest) (p : ℕ) → is_among item_customs p ≡ true → FitsBody s p f → Fits s one_body f
fits_one s f p is fits = go (PROPERTY_ITEM_CUSTOM == p) refl
  where
    go : (c : Bool) → (PROPERTY_ITEM_CUSTOM == p) ≡ c → Fits s one_body f
    go true same =
        fits_rule s PROPERTY_ITEM_CUSTOM n.PROPERTY_ITEM one_body f rule_of_property (subst (λ q. FitsBody s q f) (sym ((Decides-eqb PROPERTY_ITEM_CUSTOM p).0 same)) fits)
    go false apart =
        let event : (EVENT_ITEM_CUSTOM == p) ≡ true = last (EVENT_ITEM_CUSTOM == p) (sym (ap (λ (c : Bool). c || ((EVENT_ITEM_CUSTOM == p) || false)) apart) ∙ is) in
        fits_rule s EVENT_ITEM_CUSTOM n.EVENT_ITEM one_body f rule_of_event (subst (λ q. FitsBody s q f) (sym ((Decides-eqb EVENT_ITEM_CUSTOM p).0 event)) fits)
      where
        last : (c : Bool) → (c || false) ≡ true → c ≡ true
        last true e = refl
        last false e = absurd cc

pub custom_in : (s : Source) (f : Forest) (p : ℕ) → is_among item_customs p ≡ true → FitsBody s p f → AllInRange s f → HoldsMethod s f
custom_in s f p is fits each = (holds_method s f (fits_one s f p is fits) (has_bodies s f each), each)

-- ---- names

pub property_is_named : slice_get (terminals_of_rule (ilasm PROPERTY)) 1 ≡ Some t.NAME
unfolding ilasm rule_by
property_is_named = refl

pub event_is_named : slice_get (terminals_of_rule (ilasm EVENT)) 1 ≡ Some t.NAME
unfolding ilasm rule_by
event_is_named = refl
