-- The hash of a name is the number of the tokens that name it.
use Rattle.std.proofs.Common.{◌≡◌, ℕ, zero, suc, ◌+◌, ◌*◌, ◌/◌, ◌%◌, ◌^◌, ◌≤◌, ◌<◌, ◌⊎◌, inl, inr, Bool, true, false, cond, List, Option, Some, None, refl, sym, ap, subst, ◌∙◌, arith}
use Rattle.std.specs.Prelude.{nat_eq, nat_lt, nat_le, ◌&&◌, ◌↔◌}
use Rattle.std.specs.Option.{option_map}
use Rattle.std.proofs.lemmas.Bool.{cases_lt, cases_eq, cases_Bool, false≢true, eq-eqb, ne_eqb, ltb-true, leb-true, cond-true, cond-false}
use Rattle.std.proofs.lemmas.Option.{same_Some}
use Rattle.type_terms.specs.Same.{is_same_type}
use Rattle.type_terms.specs.declared.name.Scope.{Scope}
use Rattle.type_terms.specs.declared.name.TypeId.{TypeId}
use Rattle.type_terms.specs.declared.name.TypeName.{TypeName}
use Rattle.type_terms.specs.declared.term.Owner.{Owner}
use Rattle.type_terms.specs.declared.term.Owner.TheVariants.{Name, Spec}
use Rattle.type_terms.specs.declared.term.SigType.{SigType, out-SigType}
use Rattle.type_terms.specs.declared.term.Owner.TheOpen as layer
use Rattle.type_terms.specs.declared.term.Owner.TheOpen.{SigType-F}
use Rattle.type_terms.specs.declared.term.SigType.TheVariants.{Mod, Var, outs-Mod}
use Rattle.type_terms.proofs.SameLaws.{equal_types}
use Rattle.type_terms.proofs.Layers.{fold-Name}
use Rattle.image_model.specs.Naming.{here, RowOwner, defined, referred, specified, IsToken, NamesOwner, by_row, TellsOwners}
use Rattle.image_model.specs.Rows.{count_of, HasRow}
use Rattle.name_numbers.specs.Names.{named_at, number_at, depth_at}
use Rattle.name_numbers.specs.declared.numbering.Named.{Named}
use Rattle.signature_facts.specs.declared.facts.Facts.{Facts}
use Rattle.signature_facts.specs.declared.facts.OwnerFacts.{OwnerFacts}
use Rattle.signature_facts.specs.Facts.{Naming, owner_step, type_step, owner_facts}
use Rattle.spec_facts.specs.SpecMap.{AreNameFacts}
use Rattle.type_names.specs.Forest.{ref_node}
use Rattle.type_names.specs.Numbers.{NodeNames, IsNode, NameOne, TellNames, TypeNumbers, number_of}
use Rattle.type_names.proofs.Telling.{type_names, reference_names}
use Rattle.owner_numbers.specs.Canon.{is_row, name_number, type_number, reference_number, AreNumbered}
use Rattle.owner_numbers.proofs.Telling.{IsName, IsSpec, sorts}
use Rattle.owner_numbers.proofs.Numbered as all
use Rattle.image_model.specs.Structure.{HasScopes}
use Rattle.row_demands.specs.Structured.{MeetStructure}
use Rattle.numbered_names.specs.Numbered.{numbered, names_numbered}

-- ---- a number of which a test holds

pub picked : (ℕ → Bool) → ℕ → ℕ
picked test zero = 0
picked test (suc k) = cond (test k) k (picked test k)

pub picked_holds : (test : ℕ → Bool) (count k : ℕ) → k < count → test k ≡ true → test (picked test count) ≡ true
unfolding picked
picked_holds test zero k less e = absurd (omega arith)
picked_holds test (suc n) k less e = step (test n) refl (λ low. picked_holds test n k low e)
  where
    lower : test n ≡ false → k < n
    lower f = elim (cases_lt k n) [
      | inl low ↦ low
      | inr high ↦ let s : k ≡ n = omega arith in absurd (false≢true (sym f ∙ ap test (sym s) ∙ e))
    ]

    step : (b : Bool) → test n ≡ b → (k < n → test (picked test n) ≡ true) → test (cond b n (picked test n)) ≡ true
    step true t rest = t
    step false f rest = rest (lower f)

-- ---- the hash of a name

-- an owner as part of a type, by which it is told from others
abbrev tagged : Owner → SigType
tagged o = Mod true o (Var 0)

abbrev owner_in : Owner → SigType-F Owner SigType → Owner
owner_in other (layer.Mod required by of) = by
owner_in other _ = other

owner_one : (o p : Owner) → tagged o ≡ tagged p → o ≡ p
owner_one o p e = ap (owner_in o) (sym (outs-Mod true o (Var 0)) ∙ ap out-SigType e ∙ outs-Mod true p (Var 0))

-- a token names this name
abbrev names_it : TypeName → Option Owner → Bool
names_it n None = false
names_it n (Some o) = is_same_type (tagged o) (tagged (Name n))

names_it_is : (n : TypeName) (r : Option Owner) → names_it n r ≡ true → r ≡ Some (Name n)
names_it_is n None e = absurd (false≢true e)
names_it_is n (Some o) e = ap (λ (p : Owner). Some p) (owner_one o (Name n) ((equal_types (tagged o) (tagged (Name n)) (is_same_type (tagged o) (tagged (Name n))) refl).0 e))

it_names : (n : TypeName) (r : Option Owner) → r ≡ Some (Name n) → names_it n r ≡ true
it_names n r e = ap (names_it n) e ∙ (equal_types (tagged (Name n)) (tagged (Name n)) (is_same_type (tagged (Name n)) (tagged (Name n))) refl).1 refl

abbrev or_zero : Option ℕ → ℕ
or_zero None = 0
or_zero (Some k) = k

-- names weigh nothing, and have the number of a token that names them for a hash
abbrev pub naming : TypeNumbers → (ℕ → Option Owner) → Naming
naming it owners = record {
  weight = λ n. 0;
  hash = λ n. or_zero (name_number it.image it.named (picked (λ t. names_it n (owners t)) (2 ^ 32)));
}

-- ---- rows and tokens

none_some : (r : Option Owner) (o : Owner) → r ≡ None → r ≡ Some o → ⊥
none_some r o e f = absurd (let n = sym e ∙ f in cc)

token_is : (token t r : ℕ) → t ≡ token / 2 ^ 24 → r ≡ token % 2 ^ 24 → IsToken token t r
token_is token t r e f = record { is = omega arith; fits = omega arith }

row_there : (image : List ℕ) (table row : ℕ) → is_row image table row ≡ true → HasRow image table row
row_there image table row e = both (nat_lt 0 row) (nat_le row (count_of image table)) e refl refl
  where
    both : (a b : Bool) → (a && b) ≡ true → nat_lt 0 row ≡ a → nat_le row (count_of image table) ≡ b → HasRow image table row
    both true true e f g = (ltb-true 0 row f, leb-true row (count_of image table) g)
    both true false e f g = absurd (false≢true e)
    both false b e f g = absurd (false≢true e)

abbrev is_name : Owner → Bool
is_name (Name n) = true
is_name (Spec t) = false

name_not_spec : (n : TypeName) (t : SigType) → Name n ≡ Spec t → ⊥
name_not_spec n t e = absurd (let f = ap is_name e in cc)

abbrev name_in : TypeName → Owner → TypeName
name_in other (Name n) = n
name_in other (Spec t) = other

name_one : (m n : TypeName) → Name m ≡ Name n → m ≡ n
name_one m n e = ap (name_in m) e

row_table : {image : List ℕ} {owners : ℕ → Option Owner} {table row : ℕ} {o : Owner} → RowOwner image owners table row o → table ≤ 0x1B
row_table (defined t there leads) = omega arith
row_table (referred t there leads) = omega arith
row_table (specified t there b s) = omega arith

token_small : {image : List ℕ} {owners : ℕ → Option Owner} {token : ℕ} {o : Owner} → NamesOwner image owners token o → token < 2 ^ 32
token_small (by_row is h) = let a = is.is in let b = is.fits in let c = row_table h in omega arith

row_spec : {image : List ℕ} {owners : ℕ → Option Owner} {table row : ℕ} {o : Owner} → (t : SigType) → RowOwner image owners table row o → o ≡ Spec t → table ≡ 0x1B
row_spec t (defined e there leads) f = absurd (name_not_spec _ t f)
row_spec t (referred e there leads) f = absurd (name_not_spec _ t f)
row_spec t (specified e there b s) f = e

token_spec : {image : List ℕ} {owners : ℕ → Option Owner} {token : ℕ} {o : Owner} → (t : SigType) → NamesOwner image owners token o → o ≡ Spec t → token / 2 ^ 24 ≡ 0x1B
token_spec t (by_row is h) f = let a = is.is in let b = is.fits in let c = row_spec t h f in omega arith

-- ---- what is told

module _ (it : TypeNumbers) (tell : TellNames it.image it.named) (are : AreNumbered it.image it.named) (owners : ℕ → Option Owner) (tells : TellsOwners it.image owners) where
  abbrev number : ℕ → Option ℕ
  number token = name_number it.image it.named token

  number_is : (token : ℕ) → number token
      ≡ cond (nat_eq (token / 2 ^ 24) 0x02) (type_number it.image it.named (token % 2 ^ 24)) (cond (nat_eq (token / 2 ^ 24) 0x01) (reference_number it.image it.named (token % 2 ^ 24)) None)
  unfolding name_number
  number_is token = refl

  one_number : (x y : ℕ) (n : TypeName) → owners x ≡ Some (Name n) → owners y ≡ Some (Name n) → number x ≡ number y
  one_number x y n e f = elim (sorts it.image it.named owners tells are x (Name n) e) [
    | inr a ↦ absurd (name_not_spec n a.term a.is)
    | inl a ↦ elim (sorts it.image it.named owners tells are y (Name n) f) [
      | inr b ↦ absurd (name_not_spec n b.term b.is)
      | inl b ↦
          let names = name_one (record { scope = a.scope; path = a.path }) (record { scope = b.scope; path = b.path }) (sym a.is ∙ b.is) in
          let scopes : a.scope ≡ b.scope = ap (λ (n : TypeName). n.scope) names in
          let paths : a.path ≡ b.path = ap (λ (n : TypeName). n.path) names in
          let second = subst (λ (z : Scope). NodeNames it.image b.node z a.path) (sym scopes) (subst (NodeNames it.image b.node b.scope) (sym paths) b.leads) in
          let one : NameOne it.image a.node b.node = (a.scope, a.path, a.leads, second) in
          a.number ∙ ap (λ (k : ℕ). Some k) ((tell.same a.node b.node a.is_node b.is_node a.some b.some).1 one) ∙ sym b.number
    ]
  ]

  -- the hash of what a token names is its number
  hash_is : (token k : ℕ) (n : TypeName) → owners token ≡ Some (Name n) → number token ≡ Some k → (naming it owners).hash n ≡ k
  hash_is token k n e f =
      let test : ℕ → Bool = λ t. names_it n (owners t) in
      let u = picked test (2 ^ 32) in
      let is : owners u ≡ Some (Name n) = names_it_is n (owners u) (picked_holds test (2 ^ 32) token (token_small ((tells token (Name n)).0 e)) (it_names n (owners token) e)) in
      ap or_zero (one_number u token n is e ∙ f)

  name_told : (n : TypeName) (k : ℕ) → (naming it owners).hash n ≡ k → owner_facts (naming it owners) (Name n) ≡ numbered k
  name_told n k e = fold-Name OwnerFacts Facts (owner_step (naming it owners)) (type_step (naming it owners)) n ∙ ap numbered e

  type_named : (token : ℕ) → token / 2 ^ 24 ≡ 0x02 → HasRow it.image 0x02 (token % 2 ^ 24) → (o : Owner) × (owners token ≡ Some o)
  type_named token t there =
      let row = token % 2 ^ 24 in
      let first = there.0 in
      let last = there.1 in
      let n = (tell.has row (first, omega arith)).0 (are.types row there) in
      let leads = (type_names n.2 last).1 in
      let o = here n.1 in
      (o, (tells token o).1 (by_row (token_is token (token / 2 ^ 24) row refl refl) (defined t there leads)))

  reference_named : (token : ℕ) → token / 2 ^ 24 ≡ 0x01 → HasRow it.image 0x01 (token % 2 ^ 24) → (o : Owner) × (owners token ≡ Some o)
  reference_named token t there =
      let row = token % 2 ^ 24 in
      let first = there.0 in
      let last = there.1 in
      let n = (tell.has (ref_node it.image row) (omega arith, omega arith)).0 (are.references row there) in
      let leads = reference_names n.2 row first refl in
      let o : Owner = Name (record { scope = n.0; path = n.1 }) in
      (o, (tells token o).1 (by_row (token_is token (token / 2 ^ 24) row refl refl) (referred t there leads)))

  no_type : (token : ℕ) → token / 2 ^ 24 ≡ 0x02 → owners token ≡ None → type_number it.image it.named (token % 2 ^ 24) ≡ None
  no_type token t e = elim (cases_Bool (is_row it.image 0x02 (token % 2 ^ 24))) [
    | inl y ↦ absurd (let n = type_named token t (row_there it.image 0x02 (token % 2 ^ 24) y) in none_some (owners token) n.0 e n.1)
    | inr f ↦ cond-false (is_row it.image 0x02 (token % 2 ^ 24)) (number_of it.named (token % 2 ^ 24)) None f
  ]

  no_reference : (token : ℕ) → token / 2 ^ 24 ≡ 0x01 → owners token ≡ None → reference_number it.image it.named (token % 2 ^ 24) ≡ None
  no_reference token t e = elim (cases_Bool (is_row it.image 0x01 (token % 2 ^ 24))) [
    | inl y ↦ absurd (let n = reference_named token t (row_there it.image 0x01 (token % 2 ^ 24) y) in none_some (owners token) n.0 e n.1)
    | inr f ↦ cond-false (is_row it.image 0x01 (token % 2 ^ 24)) (number_of it.named (ref_node it.image (token % 2 ^ 24))) None f
  ]

  -- what names nothing has no number
  no_number : (token : ℕ) → owners token ≡ None → number token ≡ None
  no_number token e =
      let a = type_number it.image it.named (token % 2 ^ 24) in
      let b = reference_number it.image it.named (token % 2 ^ 24) in
      number_is token ∙ elim (cases_eq (token / 2 ^ 24) 0x02) [
        | inl t ↦ cond-true (nat_eq (token / 2 ^ 24) 0x02) a (cond (nat_eq (token / 2 ^ 24) 0x01) b None) (eq-eqb (token / 2 ^ 24) 0x02 t) ∙ no_type token t e
        | inr t ↦
            cond-false (nat_eq (token / 2 ^ 24) 0x02) a (cond (nat_eq (token / 2 ^ 24) 0x01) b None) (ne_eqb (token / 2 ^ 24) 0x02 t)
            ∙ elim (cases_eq (token / 2 ^ 24) 0x01) [
              | inl u ↦ cond-true (nat_eq (token / 2 ^ 24) 0x01) b None (eq-eqb (token / 2 ^ 24) 0x01 u) ∙ no_reference token u e
              | inr u ↦ cond-false (nat_eq (token / 2 ^ 24) 0x01) b None (ne_eqb (token / 2 ^ 24) 0x01 u)
            ]
      ]

  told : (token : ℕ) → (token / 2 ^ 24 ≡ 0x1B → ⊥) → (r : Option Owner) → owners token ≡ r → names_numbered it token ≡ option_map (owner_facts (naming it owners)) r
  told token other None e = ap (option_map numbered) (no_number token e)
  told token other (Some o) e = elim (sorts it.image it.named owners tells are token o e) [
    | inl a ↦
        let n : TypeName = record { scope = a.scope; path = a.path } in
        let k = number_at it.named a.node in
        let is : owners token ≡ Some (Name n) = e ∙ ap (λ (p : Owner). Some p) a.is in
        ap (option_map numbered) a.number ∙ ap (λ (f : OwnerFacts). Some f) (sym (name_told n k (hash_is token k n is a.number))) ∙ ap (λ (p : Owner). Some (owner_facts (naming it owners) p)) (sym a.is)
    | inr a ↦ absurd (other (token_spec a.term ((tells token o).0 e) a.is))
  ]

  -- these are facts of what tokens name
  pub names_are : AreNameFacts (naming it owners) owners (names_numbered it)
  names_are token other = told token other (owners token) refl

-- ---- of an image whose nesting and scopes are right

module _ (it : TypeNumbers) (tell : TellNames it.image it.named) (meets : MeetStructure it.image) (scopes : (table row : ℕ) → HasScopes it.image table row) where
  pub facts_told : (owners : ℕ → Option Owner) → TellsOwners it.image owners → (n : Naming) × AreNameFacts n owners (names_numbered it)
  facts_told owners tells = (naming it owners, names_are it tell (all.numbered it.image it.named tell meets scopes) owners tells)

-- the same of what is seen of a value
pub seen_told : (it seen : TypeNumbers) → it ≡ seen → TellNames it.image it.named → MeetStructure seen.image → ((table row : ℕ) → HasScopes seen.image table row)
    → (owners : ℕ → Option Owner) → TellsOwners seen.image owners → (n : Naming) × AreNameFacts n owners (names_numbered seen)
seen_told it seen e tell meets scopes =
    facts_told seen (subst (λ (z : TypeNumbers). TellNames z.image z.named) e tell) meets scopes
