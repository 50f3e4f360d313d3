-- The clauses of a method, counted one by one.
use Rattle.std.proofs.Common.{◌≡◌, ℕ, zero, suc, ◌-◌, List, [], ◌∷◌, ◌++◌, drop, map, ap, sym, ◌∙◌, refl, arith, append_assoc, append-nil}
use Rattle.std.specs.Prelude.{◌==◌, Bool, true, false, Option, None, Some, if◌then◌else◌, Result, Ok, Err}
use Rattle.std.proofs.lemmas.List.{map-append}
use Rattle.ilasm_grammar.specs.declared.productions.TheConstants.{ITEM_TRY}
use Rattle.source_model.specs.BodyNumbers.{clause_forests}
use Rattle.source_model.specs.Clauses.{Guarded, clause_forms, guarded_in}
use Rattle.source_model.specs.Forest as tree
use Rattle.source_model.specs.Forest.{Forest, first_token, is_among, joined, part}
use Rattle.source_model.specs.TypeRules.{first_of, past_count}
use Rattle.source_nodes.specs.Least.{least}
use Rattle.check_bodies.specs.ClauseCounts.{clauses_in, clauses_left}

-- ---- the clauses of the model

abbrev below_of : Guarded → Forest
below_of g = g.clause.below

clauses_tried : (tried f : Forest) → map below_of (guarded_in tried f) ≡ clauses_in f
clauses_tried tried tree.none = refl
clauses_tried tried (tree.leaf k f) = clauses_tried tried f
clauses_tried tried (tree.branch p b f) =
    let inner : Forest = if p == ITEM_TRY then b else tried in
    let own : List Guarded = if is_among clause_forms p then record { tried = tried; clause = part p b } ∷ [] else [] in
    map-append below_of (guarded_in inner b ++ own) (guarded_in tried f)
    ∙ ap (λ fs. fs ++ map below_of (guarded_in tried f)) (map-append below_of (guarded_in inner b) own)
    ∙ ap (λ fs. (fs ++ map below_of own) ++ map below_of (guarded_in tried f)) (clauses_tried inner b)
    ∙ ap (λ fs. (clauses_in b ++ fs) ++ map below_of (guarded_in tried f)) (decided (is_among clause_forms p))
    ∙ ap (λ fs. (clauses_in b ++ (if is_among clause_forms p then b ∷ [] else [])) ++ fs) (clauses_tried tried f)
  where
    decided : (c : Bool) → map below_of (if c then record { tried = tried; clause = part p b } ∷ [] else []) ≡ (if c then b ∷ [] else [])
    decided true = refl
    decided false = refl

pub clauses_are : (f : Forest) → clause_forests f ≡ clauses_in f
clauses_are f = clauses_tried tree.none f

-- ---- how many more may stand

-- and behind these, others
abbrev and_then : Result ℕ ℕ → List Forest → Result ℕ ℕ
and_then (Ok n) fs = clauses_left n fs
and_then (Err token) fs = Err token

left_append : (n : ℕ) (xs ys : List Forest) → clauses_left n (xs ++ ys) ≡ and_then (clauses_left n xs) ys
left_append n [] ys = refl
left_append zero (x ∷ xs) ys = refl
left_append (suc n) (x ∷ xs) ys = left_append n xs ys

abbrev pub left_of : ℕ → Unit {0} → Forest → Result ℕ ℕ
left_of n i f = clauses_left n (clauses_in f)

clauses_joined : (b a : Forest) → clauses_in (joined b a) ≡ clauses_in b ++ clauses_in a
clauses_joined tree.none a = refl
clauses_joined (tree.leaf k f) a = clauses_joined f a
clauses_joined (tree.branch p b f) a =
    let own : List Forest = if is_among clause_forms p then b ∷ [] else [] in
    ap (λ fs. (clauses_in b ++ own) ++ fs) (clauses_joined f a) ∙ sym (append_assoc (clauses_in b ++ own) (clauses_in f) (clauses_in a))

pub left_other : (n q : ℕ) (b a : Forest) → is_among clause_forms q ≡ false → left_of n tt (joined b a) ≡ left_of n tt (tree.branch q b a)
left_other n q b a e =
    ap (clauses_left n) (clauses_joined b a ∙ ap (λ fs. fs ++ clauses_in a) (sym (append-nil (clauses_in b)))
    ∙ sym (ap (λ (c : Bool). (clauses_in b ++ (if c then b ∷ [] else [])) ++ clauses_in a) e))

module _ (n q : ℕ) (b a : Forest) (own : is_among clause_forms q ≡ true) where
  -- those within the clause, itself and those after it
  at_clause : left_of n tt (tree.branch q b a) ≡ and_then (and_then (left_of n tt b) (b ∷ [])) (clauses_in a)
  at_clause =
      ap (λ (c : Bool). clauses_left n ((clauses_in b ++ (if c then b ∷ [] else [])) ++ clauses_in a)) own
      ∙ left_append n (clauses_in b ++ b ∷ []) (clauses_in a)
      ∙ ap (λ r. and_then r (clauses_in a)) (left_append n (clauses_in b) (b ∷ []))

  pub left_within : (token : ℕ) → Err token ≡ left_of n tt b → Err token ≡ left_of n tt (tree.branch q b a)
  left_within token e = ap (λ r. and_then (and_then r (b ∷ [])) (clauses_in a)) e ∙ sym at_clause

  pub left_itself : (token within : ℕ) → Ok within ≡ left_of n tt b → within ≡ 0 → token ≡ first_token b → Err token ≡ left_of n tt (tree.branch q b a)
  left_itself token within e none is =
      ap (λ k. Err k) is ∙ ap (λ k. and_then (and_then (Ok k) (b ∷ [])) (clauses_in a)) (sym none)
      ∙ ap (λ r. and_then (and_then r (b ∷ [])) (clauses_in a)) e ∙ sym at_clause

  pub left_past : (within : ℕ) → Ok within ≡ left_of n tt b → (within ≡ 0 → ⊥) → left_of (within - 1) tt a ≡ left_of n tt (tree.branch q b a)
  left_past within e some = go within some ∙ ap (λ r. and_then (and_then r (b ∷ [])) (clauses_in a)) e ∙ sym at_clause
    where
      go : (k : ℕ) → (k ≡ 0 → ⊥) → left_of (k - 1) tt a ≡ and_then (and_then (Ok k) (b ∷ [])) (clauses_in a)
      go zero some = absurd (some refl)
      go (suc k) some = let same : suc k - 1 ≡ k = omega arith in ap (λ m. left_of m tt a) same

-- ---- the first past the most

abbrev least_of : Result ℕ ℕ → Option ℕ
least_of (Ok n) = None
least_of (Err token) = Some token

past_is : (n : ℕ) (fs : List Forest) → least_of (clauses_left n fs) ≡ least (first_of (drop n fs))
past_is zero [] = refl
past_is (suc n) [] = refl
past_is zero (f ∷ fs) = refl
past_is (suc n) (f ∷ fs) = past_is n fs

pub none_past : (f : Forest) (n : ℕ) → Ok n ≡ clauses_left 65535 (clauses_in f) → None ≡ least (past_count (clauses_in f))
none_past f n e = ap least_of e ∙ past_is 65535 (clauses_in f)

pub one_past : (f : Forest) (token : ℕ) → Err token ≡ clauses_left 65535 (clauses_in f) → Some token ≡ least (past_count (clauses_in f))
one_past f token e = ap least_of e ∙ past_is 65535 (clauses_in f)
