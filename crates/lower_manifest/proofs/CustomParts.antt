-- Attributes among declarations hold references to their constructors.
use Rattle.std.proofs.Common.{◌≡◌, ℕ, List, [], ◌∷◌, ◌++◌, ap, sym, subst, ◌∙◌, refl}
use Rattle.std.specs.Prelude.{Bool, true, false, ◌==◌, ◌||◌, if◌then◌else◌, Some}
use Rattle.std.specs.List.{AllByRecursion}
use Rattle.std.proofs.lemmas.Bool.Decides.{Decides-eqb}
use Rattle.ilasm_grammar.specs.Grammar.{rule_of}
use Rattle.ilasm_grammar.specs.Ilasm.{ilasm, rule_by}
use Rattle.ilasm_grammar.specs.declared.nonterminals.TheConstants as n
use Rattle.ilasm_grammar.specs.declared.productions.TheConstants.{ASSEMBLY_ITEM_CUSTOM, DECL_CUSTOM, ITEM_CUSTOM, MEMBER_CUSTOM}
use Rattle.source_model.specs.Forest.{Forest, Part}
use Rattle.source_model.specs.Items.{begins_run, customs_outside, is_custom}
use Rattle.source_model.specs.Source.{Source}
use Rattle.source_nodes.specs.Derived.{FitsBody}
use Rattle.source_nodes.proofs.WrittenNames.{fits_rule}
use Rattle.lower_manifest.specs.Customs.{IsCustom}
use Rattle.source_flags.specs.InRange.{AllInRange, IsInRange}
use Rattle.lower_manifest.proofs.CustomLemmas.{holds_method, one_body}
use Rattle.source_flags.proofs.Gathered.{has_bodies}

rule_declared : ilasm DECL_CUSTOM ≡ Some (rule_of n.DECL one_body)
unfolding ilasm rule_by
rule_declared = refl

rule_member : ilasm MEMBER_CUSTOM ≡ Some (rule_of n.MEMBER one_body)
unfolding ilasm rule_by
rule_member = refl

rule_item : ilasm ITEM_CUSTOM ≡ Some (rule_of n.ITEM one_body)
unfolding ilasm rule_by
rule_item = refl

rule_assembly : ilasm ASSEMBLY_ITEM_CUSTOM ≡ Some (rule_of n.ASSEMBLY_ITEM one_body)
unfolding ilasm rule_by
rule_assembly = refl

-- a part that is in its range, as are all below it
abbrev pub IsRanged : Source → Part → Type 0
IsRanged s p = IsInRange s p.production p.below × AllInRange s p.below

module _ (s : Source) where
  holds : (p head : ℕ) (f : Forest) → ilasm p ≡ Some (rule_of head one_body) → FitsBody s p f → AllInRange s f → IsCustom s (record { production = p; below = f })
  holds p head f rule fits each = (holds_method s f (fits_rule s p head one_body f rule fits) (has_bodies s f each), each)

  pub assembly_holds : (p : Part) → p.production ≡ ASSEMBLY_ITEM_CUSTOM → IsRanged s p → IsCustom s p
  assembly_holds p e h = holds ASSEMBLY_ITEM_CUSTOM n.ASSEMBLY_ITEM p.below rule_assembly (subst (λ q. FitsBody s q p.below) e h.0.fits) h.1

  custom_holds : (p : Part) → is_custom p ≡ true → IsRanged s p → IsCustom s p
  custom_holds p e h = declared (p.production == DECL_CUSTOM) refl
    where
      fit : (q : ℕ) → (p.production == q) ≡ true → FitsBody s q p.below
      fit q same = subst (λ r. FitsBody s r p.below) ((Decides-eqb p.production q).0 same) h.0.fits

      item : (p.production == DECL_CUSTOM) ≡ false → (p.production == MEMBER_CUSTOM) ≡ false → (p.production == ITEM_CUSTOM) ≡ true
      item d m =
          sym (ap (λ (c : Bool). c || p.production == MEMBER_CUSTOM || p.production == ITEM_CUSTOM) d
          ∙ ap (λ (c : Bool). c || p.production == ITEM_CUSTOM) m)
          ∙ e

      member : (p.production == DECL_CUSTOM) ≡ false → (c : Bool) → (p.production == MEMBER_CUSTOM) ≡ c → IsCustom s p
      member d true same = holds MEMBER_CUSTOM n.MEMBER p.below rule_member (fit MEMBER_CUSTOM same) h.1
      member d false apart = holds ITEM_CUSTOM n.ITEM p.below rule_item (fit ITEM_CUSTOM (item d apart)) h.1

      declared : (c : Bool) → (p.production == DECL_CUSTOM) ≡ c → IsCustom s p
      declared true same = holds DECL_CUSTOM n.DECL p.below rule_declared (fit DECL_CUSTOM same) h.1
      declared false apart = member apart (p.production == MEMBER_CUSTOM) refl

  pub outside_hold : (in_run : Bool) (ps : List Part) → AllByRecursion (IsRanged s) ps → AllByRecursion (IsCustom s) (customs_outside in_run ps)
  outside_hold in_run [] h = tt
  outside_hold in_run (p ∷ ps) h = go (is_custom p) refl in_run (outside_hold in_run ps h.1) (outside_hold (begins_run p) ps h.1)
    where
      go : (c : Bool) → is_custom p ≡ c → (d : Bool) → AllByRecursion (IsCustom s) (customs_outside in_run ps) → AllByRecursion (IsCustom s) (customs_outside (begins_run p) ps)
          → AllByRecursion (IsCustom s) (if is_custom p then (if d then [] else p ∷ []) ++ customs_outside in_run ps else customs_outside (begins_run p) ps)
      go true is true own other =
          subst (AllByRecursion (IsCustom s)) (sym (ap (λ (c : Bool). if c then customs_outside in_run ps else customs_outside (begins_run p) ps) is)) own
      go true is false own other =
          subst (AllByRecursion (IsCustom s)) (sym (ap (λ (c : Bool). if c then p ∷ customs_outside in_run ps else customs_outside (begins_run p) ps) is))
          (custom_holds p is h.0, own)
      go false is d own other =
          subst (AllByRecursion (IsCustom s))
          (sym (ap (λ (c : Bool). if c then (if d then [] else p ∷ []) ++ customs_outside in_run ps else customs_outside (begins_run p) ps) is)) other
