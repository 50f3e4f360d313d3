-- The items of a method, with the begins and ends of the blocks of `.try` among them.
use Rattle.std.proofs.Common.{◌≡◌, ℕ, inl, inr, List, [], ◌∷◌, ◌++◌, cond, refl, ap, sym, subst, ◌∙◌}
use Rattle.std.specs.Prelude.{Bool, true, false, ◌==◌, ◌||◌, if◌then◌else◌, take_while}
use Rattle.std.specs.List.{AllByRecursion}
use Rattle.std.proofs.lemmas.Bool.Decides.{Decides-eqb}
use Rattle.std.proofs.lemmas.List.Sums.{take_while-cons}
use Rattle.ilasm_grammar.specs.declared.productions.TheConstants.{BLOCK, ITEM_TRY}
use Rattle.source_model.specs.Forest as tree
use Rattle.source_model.specs.Forest.{Forest, Part, is_among, part}
use Rattle.source_model.specs.Items.{begins_run, customs_outside, is_custom, items_and_ends, plain_items}
use Rattle.source_model.specs.Parameters.{is_typar_line}
use Rattle.source_model.specs.Source.{Source}
use Rattle.source_flags.specs.InRange.{AllInRange}
use Rattle.source_flags.proofs.Gathered.{all_append}
use Rattle.lower_manifest.specs.Customs.{IsCustom}
use Rattle.lower_manifest.proofs.CustomParts.{outside_hold}
use Rattle.lower_members.specs.Ranged.{IsEnd, IsRangedItem}
use Rattle.param_lines.specs.Ranged.{IsRanged}

module _ (s : Source) where
  -- what passes a test that no begin and no end passes
  pub ranged_if : (test : Part → Bool) (p : Part) → test (part ITEM_TRY tree.none) ≡ false → test (part BLOCK tree.none) ≡ false → test p ≡ true → IsRangedItem s p → IsRanged s p
  ranged_if test p t b e (inr h) = h
  ranged_if test p t b e (inl (inl i)) = let wrong : true ≡ false = sym e ∙ ap test i ∙ t in absurd cc
  ranged_if test p t b e (inl (inr i)) = let wrong : true ≡ false = sym e ∙ ap test i ∙ b in absurd cc

  pub line_ranged : (p : Part) → is_typar_line p ≡ true → IsRangedItem s p → IsRanged s p
  line_ranged p e h = ranged_if is_typar_line p refl refl e h

  pub custom_ranged : (p : Part) → is_custom p ≡ true → IsRangedItem s p → IsRanged s p
  custom_ranged p e h = ranged_if is_custom p refl refl e h

  custom_one : (p : Part) → is_custom p ≡ true → IsRangedItem s p → IsCustom s p
  custom_one p e h = (subst (λ c. AllByRecursion (IsCustom s) (if c then p ∷ [] else [])) e (outside_hold s false (p ∷ []) (custom_ranged p e h, tt))).0

  -- the attributes that directly follow an item
  pub run_items : (ps : List Part) → AllByRecursion (IsRangedItem s) ps → AllByRecursion (IsCustom s) (take_while is_custom ps)
  run_items [] h = tt
  run_items (p ∷ ps) h =
      subst (AllByRecursion (IsCustom s)) (sym (take_while-cons is_custom p ps)) (go (is_custom p) refl (run_items ps h.1))
    where
      go : (c : Bool) → is_custom p ≡ c → AllByRecursion (IsCustom s) (take_while is_custom ps) → AllByRecursion (IsCustom s) (cond c (p ∷ take_while is_custom ps) [])
      go true is rest = (custom_one p is h.0, rest)
      go false is rest = tt

  -- the attributes of what surrounds the items
  pub outside_items : (in_run : Bool) (ps : List Part) → AllByRecursion (IsRangedItem s) ps → AllByRecursion (IsCustom s) (customs_outside in_run ps)
  outside_items in_run [] h = tt
  outside_items in_run (p ∷ ps) h = go (is_custom p) refl in_run (outside_items in_run ps h.1) (outside_items (begins_run p) ps h.1)
    where
      go : (c : Bool) → is_custom p ≡ c → (d : Bool) → AllByRecursion (IsCustom s) (customs_outside in_run ps) → AllByRecursion (IsCustom s) (customs_outside (begins_run p) ps)
          → AllByRecursion (IsCustom s) (if is_custom p then (if d then [] else p ∷ []) ++ customs_outside in_run ps else customs_outside (begins_run p) ps)
      go true is true own other =
          subst (AllByRecursion (IsCustom s)) (sym (ap (λ (c : Bool). if c then customs_outside in_run ps else customs_outside (begins_run p) ps) is)) own
      go true is false own other =
          subst (AllByRecursion (IsCustom s)) (sym (ap (λ (c : Bool). if c then p ∷ customs_outside in_run ps else customs_outside (begins_run p) ps) is))
          (custom_one p is h.0, own)
      go false is d own other =
          subst (AllByRecursion (IsCustom s))
          (sym (ap (λ (c : Bool). if c then (if d then [] else p ∷ []) ++ customs_outside in_run ps else customs_outside (begins_run p) ps) is)) other

-- ---- all items are in their ranges where the forest is

is_end : (p : ℕ) → (p == ITEM_TRY || p == BLOCK) ≡ true → IsEnd (part p tree.none)
is_end p e = go (p == ITEM_TRY) refl
  where
    go : (c : Bool) → (p == ITEM_TRY) ≡ c → IsEnd (part p tree.none)
    go true is = inl (ap (λ q. part q tree.none) ((Decides-eqb p ITEM_TRY).0 is))
    go false is =
        let block : (p == BLOCK) ≡ true = sym (ap (λ (c : Bool). c || p == BLOCK) is) ∙ e in
        inr (ap (λ q. part q tree.none) ((Decides-eqb p BLOCK).0 block))

pub items_ranged : (s : Source) (f : Forest) → AllInRange s f → AllByRecursion (IsRangedItem s) (items_and_ends f)
items_ranged s tree.none h = tt
items_ranged s (tree.leaf k a) h = items_ranged s a h
items_ranged s (tree.branch p b a) h =
    all_append (IsRangedItem s) own (items_and_ends a) (go (is_among plain_items p) (p == ITEM_TRY || p == BLOCK) refl (items_ranged s b h.1)) (items_ranged s a h.2)
  where
    own : List Part
    own =
        if is_among plain_items p then part p b ∷ []
        else if p == ITEM_TRY || p == BLOCK then (part p tree.none ∷ items_and_ends b) ++ part p tree.none ∷ []
        else items_and_ends b

    go : (c d : Bool) → (p == ITEM_TRY || p == BLOCK) ≡ d → AllByRecursion (IsRangedItem s) (items_and_ends b)
        → AllByRecursion (IsRangedItem s)
        (if c then part p b ∷ [] else if d then (part p tree.none ∷ items_and_ends b) ++ part p tree.none ∷ [] else items_and_ends b)
    go true d is below = (inr (h.0, h.1), tt)
    go false true is below =
        let one = is_end p is in
        all_append (IsRangedItem s) (part p tree.none ∷ items_and_ends b) (part p tree.none ∷ []) (inl one, below) (inl one, tt)
    go false false is below = below
