-- The bytes that say what the walk of a method does at each production.
use Rattle.std.proofs.Common.{◌≡◌, ℕ, zero, suc, ◌+◌, ◌<◌, ◌≤◌, List, [], ◌∷◌, length, get_or, refl, ap, sym, ◌∙◌, arith}
use Rattle.std.specs.Prelude.{Bool, true, false, ◌==◌, ◌&&◌}
use Rattle.std.proofs.lemmas.Bool.{and_parts, eqb-true}
use Rattle.ilasm_grammar.specs.declared.productions.TheConstants.{ITEM_NAME}
use Rattle.source_model.specs.Forest.{is_among}
use Rattle.source_model.specs.Instructions.{instruction_forms}
use Rattle.check_visitor.proofs.ByteTables.{far_from}
use Rattle.check_bodies.proofs.PastLemmas.{other_no_head}
use Rattle.check_bodies.specs.CodeLines.{head_forms, kind_by, kind_of, others}
use Rattle.check_bodies.specs.declared.code_lines.TheConstants.{KINDS}

-- these bytes are the kinds of the numbers from one on
abbrev are_kinds : List ℕ → ℕ → Bool
are_kinds [] n = true
are_kinds (b ∷ bytes) n = (b == kind_of n) && are_kinds bytes (suc n)

told : (bytes : List ℕ) (n p : ℕ) → are_kinds bytes n ≡ true → p < length bytes → get_or bytes p 0 ≡ kind_of (n + p)
told [] n p e less = absurd (omega (arith, less))
told (b ∷ bytes) n zero e less =
    let both = and_parts (b == kind_of n) (are_kinds bytes (suc n)) e in
    let at : n ≡ n + 0 = omega arith in
    eqb-true b (kind_of n) both.0 ∙ ap kind_of at
told (b ∷ bytes) n (suc p) e less =
    let both = and_parts (b == kind_of n) (are_kinds bytes (suc n)) e in
    let at : suc n + p ≡ n + suc p = omega arith in
    told bytes (suc n) p both.1 (omega (arith, less)) ∙ ap kind_of at

checked : are_kinds KINDS 0 ≡ true
checked = refl

pub bytes_are : (p : ℕ) → p < 704 → get_or KINDS p 0 ≡ kind_of p
bytes_are p less = let at : 0 + p ≡ p = omega arith in told KINDS 0 p checked less ∙ ap kind_of at

pub none_past : (p : ℕ) → 704 ≤ p → 0 ≡ kind_of p
none_past p far =
    sym (ap (λ x. kind_by x (is_among (ITEM_NAME ∷ []) p) (is_among others p) (is_among head_forms p)) (far_from p far instruction_forms refl)
    ∙ ap (λ x. kind_by false x (is_among others p) (is_among head_forms p)) (far_from p far (ITEM_NAME ∷ []) refl)
    ∙ ap (λ x. kind_by false false x (is_among head_forms p)) (far_from p far others refl)
    ∙ ap (kind_by false false false) (far_from p far head_forms refl))

-- ---- what a production is, by its kind

pub record IsNone (p : ℕ) : Type 0 where
  pub form : is_among instruction_forms p ≡ false
  pub name : is_among (ITEM_NAME ∷ []) p ≡ false
  pub other : is_among others p ≡ false
  pub head : is_among head_forms p ≡ false

pub none_of_them : (p : ℕ) → kind_of p ≡ 0 → IsNone p
none_of_them p k = go (is_among instruction_forms p) (is_among (ITEM_NAME ∷ []) p) (is_among others p) (is_among head_forms p) refl refl refl refl k
  where
    go : (f n o h : Bool) → is_among instruction_forms p ≡ f → is_among (ITEM_NAME ∷ []) p ≡ n → is_among others p ≡ o → is_among head_forms p ≡ h
        → kind_by f n o h ≡ 0 → IsNone p
    go false false false false form name other head e = record { form = form; name = name; other = other; head = head }
    go false false false true form name other head e = absurd cc
    go false false true h form name other head e = absurd cc
    go false true o h form name other head e = absurd cc
    go true n o h form name other head e = absurd cc

pub instruction_kind : (p : ℕ) → kind_of p ≡ 1 → is_among instruction_forms p ≡ true
instruction_kind p k = go (is_among instruction_forms p) (is_among (ITEM_NAME ∷ []) p) (is_among others p) (is_among head_forms p) refl k
  where
    go : (f n o h : Bool) → is_among instruction_forms p ≡ f → kind_by f n o h ≡ 1 → is_among instruction_forms p ≡ true
    go true n o h form e = form
    go false false false false form e = absurd cc
    go false false false true form e = absurd cc
    go false false true h form e = absurd cc
    go false true o h form e = absurd cc

pub record IsName (p : ℕ) : Type 0 where
  pub form : is_among instruction_forms p ≡ false
  pub name : is_among (ITEM_NAME ∷ []) p ≡ true

pub name_kind : (p : ℕ) → kind_of p ≡ 2 → IsName p
name_kind p k = go (is_among instruction_forms p) (is_among (ITEM_NAME ∷ []) p) (is_among others p) (is_among head_forms p) refl refl k
  where
    go : (f n o h : Bool) → is_among instruction_forms p ≡ f → is_among (ITEM_NAME ∷ []) p ≡ n → kind_by f n o h ≡ 2 → IsName p
    go false true o h form name e = record { form = form; name = name }
    go true n o h form name e = absurd cc
    go false false false false form name e = absurd cc
    go false false false true form name e = absurd cc
    go false false true h form name e = absurd cc

pub record IsHead (p : ℕ) : Type 0 where
  pub form : is_among instruction_forms p ≡ false
  pub name : is_among (ITEM_NAME ∷ []) p ≡ false
  pub other : is_among others p ≡ false
  pub head : is_among head_forms p ≡ true

pub head_kind : (p : ℕ) → kind_of p ≡ 4 → IsHead p
head_kind p k = go (is_among instruction_forms p) (is_among (ITEM_NAME ∷ []) p) (is_among others p) (is_among head_forms p) refl refl refl refl k
  where
    go : (f n o h : Bool) → is_among instruction_forms p ≡ f → is_among (ITEM_NAME ∷ []) p ≡ n → is_among others p ≡ o → is_among head_forms p ≡ h
        → kind_by f n o h ≡ 4 → IsHead p
    go false false false true form name other head e = record { form = form; name = name; other = other; head = head }
    go false false false false form name other head e = absurd cc
    go false false true h form name other head e = absurd cc
    go false true o h form name other head e = absurd cc
    go true n o h form name other head e = absurd cc

pub record IsOther (p : ℕ) : Type 0 where
  pub form : is_among instruction_forms p ≡ false
  pub name : is_among (ITEM_NAME ∷ []) p ≡ false
  pub head : is_among head_forms p ≡ false

pub other_kind : (p : ℕ) → (kind_of p ≡ 0 → ⊥) → (kind_of p ≡ 1 → ⊥) → (kind_of p ≡ 2 → ⊥) → (kind_of p ≡ 4 → ⊥) → IsOther p
other_kind p none form name head =
    go (is_among instruction_forms p) (is_among (ITEM_NAME ∷ []) p) (is_among others p) (is_among head_forms p) refl refl refl none form name head
  where
    go : (f n o h : Bool) → is_among instruction_forms p ≡ f → is_among (ITEM_NAME ∷ []) p ≡ n → is_among others p ≡ o
        → (kind_by f n o h ≡ 0 → ⊥) → (kind_by f n o h ≡ 1 → ⊥) → (kind_by f n o h ≡ 2 → ⊥) → (kind_by f n o h ≡ 4 → ⊥) → IsOther p
    go false false false false a b c none form name head = absurd (none refl)
    go false false false true a b c none form name head = absurd (head refl)
    go false false true h a b c none form name head = record { form = a; name = b; head = other_no_head p c }
    go false true o h a b c none form name head = absurd (name refl)
    go true n o h a b c none form name head = absurd (form refl)
