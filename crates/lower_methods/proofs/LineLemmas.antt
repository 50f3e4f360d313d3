-- Methods without lines of `.param` and without attributes.
use Rattle.std.proofs.Common.{◌≡◌, ℕ, List, [], ◌∷◌, ◌++◌, refl, ap, sym, ◌∙◌}
use Rattle.std.specs.Prelude.{Bool, true, false, ◌==◌, ◌&&◌, ◌||◌, filter, if◌then◌else◌, take_while}
use Rattle.std.specs.List.{AllByRecursion}
use Rattle.std.proofs.lemmas.Bool.Decides.{Decides-eqb}
use Rattle.ilasm_grammar.specs.declared.productions.TheConstants.{BLOCK, DECL_CUSTOM, ITEM_CUSTOM, ITEM_PARAM, ITEM_TRY, MEMBER_CUSTOM, MEMBER_PARAM, PARAM_OF_BRACKET, PARAM_OF_TYPE}
use Rattle.source_model.specs.Forest as tree
use Rattle.source_model.specs.Forest.{Forest, Part, has, is_among, is_any_part, part, parts}
use Rattle.source_model.specs.Items.{Run, begins_run, customs_outside, is_custom, items_and_ends, own_customs, plain_items, runs}
use Rattle.source_model.specs.Parameters.{is_typar_line, speaks_of_parameter, speaks_of_typar}
use Rattle.source_flags.proofs.Gathered.{all_append}
use Rattle.lower_bodies.specs.HeldItems.{line_forms}

never : (a : Bool) → (a && false) ≡ false
never true = refl
never false = refl

neither : (a b : Bool) → (a || b) ≡ false → (a ≡ false) × (b ≡ false)
neither true b e = absurd cc
neither false b e = (refl, e)

nothing_both : {X : Type 0} (xs ys : List X) → xs ++ ys ≡ [] → (xs ≡ []) × (ys ≡ [])
nothing_both [] ys e = (refl, e)
nothing_both (x ∷ xs) ys e = absurd cc

turned : (q p : ℕ) → (q == p) ≡ false → (p == q) ≡ false
turned q p e = go (p == q) refl
  where
    go : (c : Bool) → (p == q) ≡ c → c ≡ false
    go false h = refl
    go true h =
        let same : (q == p) ≡ true = (Decides-eqb q p).1 (sym ((Decides-eqb p q).0 h)) in
        let no : true ≡ false = sym same ∙ e in absurd cc

-- ---- what has none of some productions

module _ (sought : List ℕ) where
  -- neither it is one of them, nor does one stand below it
  abbrev pub IsFree : Part → Type 0
  IsFree p = (is_among sought p.production ≡ false) × (parts sought p.below ≡ [])

  opened : (p : ℕ) (b a : Forest) → parts sought (tree.branch p b a) ≡ [] → (is_among sought p ≡ false) × (parts sought b ≡ []) × (parts sought a ≡ [])
  opened p b a e = go (is_among sought p) refl
    where
      at : (c : Bool) → is_among sought p ≡ c → (if c then part p b ∷ [] else parts sought b) ++ parts sought a ≡ []
      at c is = sym (ap (λ (d : Bool). (if d then part p b ∷ [] else parts sought b) ++ parts sought a) is) ∙ e

      go : (c : Bool) → is_among sought p ≡ c → (is_among sought p ≡ false) × (parts sought b ≡ []) × (parts sought a ≡ [])
      go true is = let wrong : part p b ∷ parts sought a ≡ [] = at true is in absurd cc
      go false is = let h = nothing_both (parts sought b) (parts sought a) (at false is) in (is, h.0, h.1)

  items_free : (f : Forest) → parts sought f ≡ [] → AllByRecursion IsFree (items_and_ends f)
  items_free tree.none e = tt
  items_free (tree.leaf k a) e = items_free a e
  items_free (tree.branch p b a) e =
      let h = opened p b a e in
      all_append IsFree own (items_and_ends a) (go (is_among plain_items p) (p == ITEM_TRY || p == BLOCK) h (items_free b h.1)) (items_free a h.2)
    where
      own : List Part
      own =
          if is_among plain_items p then part p b ∷ []
          else if p == ITEM_TRY || p == BLOCK then (part p tree.none ∷ items_and_ends b) ++ part p tree.none ∷ []
          else items_and_ends b

      go : (c d : Bool) → (is_among sought p ≡ false) × (parts sought b ≡ []) × (parts sought a ≡ []) → AllByRecursion IsFree (items_and_ends b)
          → AllByRecursion IsFree
          (if c then part p b ∷ [] else if d then (part p tree.none ∷ items_and_ends b) ++ part p tree.none ∷ [] else items_and_ends b)
      go true d h below = ((h.0, h.1), tt)
      go false true h below =
          all_append IsFree (part p tree.none ∷ items_and_ends b) (part p tree.none ∷ []) ((h.0, refl), below) ((h.0, refl), tt)
      go false false h below = below

  -- so it has none of fewer productions
  module _ (fewer : List ℕ) (within : (p : ℕ) → is_among sought p ≡ false → is_among fewer p ≡ false) where
    none_of_fewer : (f : Forest) → parts sought f ≡ [] → parts fewer f ≡ []
    none_of_fewer tree.none e = refl
    none_of_fewer (tree.leaf k a) e = none_of_fewer a e
    none_of_fewer (tree.branch p b a) e =
        let h = opened p b a e in
        ap (λ (d : Bool). (if d then part p b ∷ [] else parts fewer b) ++ parts fewer a) (within p h.0)
        ∙ ap (λ ps. ps ++ parts fewer a) (none_of_fewer b h.1) ∙ none_of_fewer a h.2

-- ---- lines

among_bracket : (p : ℕ) → is_among line_forms p ≡ false → is_among (PARAM_OF_BRACKET ∷ []) p ≡ false
among_bracket p e = ap (λ c. c || false) (neither (PARAM_OF_BRACKET == p) _ e).0

among_type : (p : ℕ) → is_among line_forms p ≡ false → is_among (PARAM_OF_TYPE ∷ []) p ≡ false
among_type p e = ap (λ c. c || false) (neither (PARAM_OF_TYPE == p) _ (neither (PARAM_OF_BRACKET == p) _ e).1).0

past_params : (p : ℕ) → is_among line_forms p ≡ false → ((MEMBER_PARAM == p) ≡ false) × (is_among (DECL_CUSTOM ∷ MEMBER_CUSTOM ∷ ITEM_CUSTOM ∷ []) p ≡ false)
past_params p e = neither (MEMBER_PARAM == p) _ (neither (PARAM_OF_TYPE == p) _ (neither (PARAM_OF_BRACKET == p) _ e).1).1

parameter_lines : (ps : List Part) → AllByRecursion (IsFree line_forms) ps → filter speaks_of_parameter (runs ps) ≡ []
parameter_lines [] h = refl
parameter_lines (p ∷ ps) h =
    let silent : has PARAM_OF_BRACKET p.below ≡ false = ap is_any_part (none_of_fewer line_forms (PARAM_OF_BRACKET ∷ []) among_bracket p.below h.0.1) in
    let run : Run = record { head = p; customs = take_while is_custom ps } in
    ap (λ (c : Bool). if c then run ∷ filter speaks_of_parameter (runs ps) else filter speaks_of_parameter (runs ps)) silent ∙ parameter_lines ps h.1

typar_lines : (ps : List Part) → AllByRecursion (IsFree line_forms) ps → filter speaks_of_typar (runs ps) ≡ []
typar_lines [] h = refl
typar_lines (p ∷ ps) h =
    let silent : has PARAM_OF_TYPE p.below ≡ false = ap is_any_part (none_of_fewer line_forms (PARAM_OF_TYPE ∷ []) among_type p.below h.0.1) in
    let other : (p.production == MEMBER_PARAM) ≡ false = turned MEMBER_PARAM p.production (past_params p.production h.0.0).0 in
    let run : Run = record { head = p; customs = take_while is_custom ps } in
    let both : is_typar_line p ≡ false =
    ap (λ c. c || (p.production == ITEM_PARAM && has PARAM_OF_TYPE p.below)) other ∙ ap (λ c. p.production == ITEM_PARAM && c) silent
    ∙ never (p.production == ITEM_PARAM) in
    ap (λ (c : Bool). if c then run ∷ filter speaks_of_typar (runs ps) else filter speaks_of_typar (runs ps)) both ∙ typar_lines ps h.1

isnt_custom : (p : Part) → IsFree line_forms p → is_custom p ≡ false
isnt_custom p h =
    let k = p.production in
    let h1 = neither (DECL_CUSTOM == k) _ (past_params k h.0).1 in
    let h2 = neither (MEMBER_CUSTOM == k) _ h1.1 in
    let h3 = neither (ITEM_CUSTOM == k) _ h2.1 in
    ap (λ c. c || k == MEMBER_CUSTOM || k == ITEM_CUSTOM) (turned DECL_CUSTOM k h1.0)
    ∙ ap (λ c. c || k == ITEM_CUSTOM) (turned MEMBER_CUSTOM k h2.0)
    ∙ turned ITEM_CUSTOM k h3.0

customs : (in_run : Bool) (ps : List Part) → AllByRecursion (IsFree line_forms) ps → customs_outside in_run ps ≡ []
customs in_run [] h = refl
customs in_run (p ∷ ps) h =
    ap (λ (c : Bool). if c then (if in_run then [] else p ∷ []) ++ customs_outside in_run ps else customs_outside (begins_run p) ps) (isnt_custom p h.0)
    ∙ customs (begins_run p) ps h.1

pub no_parameter_lines : (f : Forest) → parts line_forms f ≡ [] → filter speaks_of_parameter (runs (items_and_ends f)) ≡ []
no_parameter_lines f e = parameter_lines (items_and_ends f) (items_free line_forms f e)

pub no_typar_lines : (f : Forest) → parts line_forms f ≡ [] → filter speaks_of_typar (runs (items_and_ends f)) ≡ []
no_typar_lines f e = typar_lines (items_and_ends f) (items_free line_forms f e)

pub no_customs : (f : Forest) → parts line_forms f ≡ [] → own_customs (items_and_ends f) ≡ []
no_customs f e = customs false (items_and_ends f) (items_free line_forms f e)
