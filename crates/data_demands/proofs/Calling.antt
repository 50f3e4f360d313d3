-- What a token of a type or a reference names is the one type with that name.
use Rattle.std.proofs.Common.{◌≡◌, ℕ, ◌+◌, ◌%◌, ◌/◌, ◌^◌, ◌<◌, ◌≤◌, inl, inr, true, List, Option, Some, None, refl, sym, ◌∙◌, ap, subst, arith}
use Rattle.std.specs.Prelude.{◌==◌, nat_le, nat_lt}
use Rattle.std.proofs.lemmas.Bool.{cases_order, cases_lt, cond-true, cond-false, eq-eqb, ne_eqb, lt-ltb, le-leb, lt-leb, and_from}
use Rattle.heaps.specs.Content.{HasText}
use Rattle.type_terms.specs.declared.name.Scope.{Scope}
use Rattle.type_terms.specs.declared.name.Scope.TheVariants.{Here, Extern}
use Rattle.type_terms.specs.declared.name.TypeId.{TypeId}
use Rattle.type_terms.specs.declared.name.TypeName.{TypeName}
use Rattle.type_terms.specs.declared.term.Owner.{Owner}
use Rattle.type_terms.specs.declared.term.Owner.TheVariants as owner
use Rattle.image_model.specs.Naming.{HasPath, HasRefPath, RowOwner, IsToken, NamesOwner, TellsOwners}
use Rattle.image_model.specs.Rows.{count_of, HasRow}
use Rattle.image_model.specs.Streams.{strings_of}
use Rattle.image_namings.proofs.OnePath.{ref_path_one}
use Rattle.image_namings.proofs.Owners.{table_is, row_is}
use Rattle.name_numbers.specs.Names.{number_at, depth_at}
use Rattle.name_numbers.specs.declared.numbering.Named.{Named}
use Rattle.sig_codec.specs.Reading.{name_of}
use Rattle.sig_codec.proofs.Numbers.{some_is}
use Rattle.type_names.specs.Forest.{ref_node}
use Rattle.type_names.specs.Numbers.{NodeNames, TellNames, number_of}
use Rattle.type_names.proofs.Scoping.{scope_told}
use Rattle.type_names.proofs.Telling.{type_names, reference_names}
use Rattle.data_demands.specs.Measured.{CanMeasure, IsOneCalled, is_row, reference_number, token_number, type_or_none, type_of_token}

-- ---- numbers of types

low_type : (types number : ℕ) → number ≤ types → type_or_none types (Some number) ≡ number
low_type types number low = cond-true (nat_le number types) number 0 (le-leb number types low)

high_type : (types number : ℕ) → types < number → type_or_none types (Some number) ≡ 0
high_type types number high = cond-false (nat_le number types) number 0 (lt-leb number types high)

module _ (image : List ℕ) (text : (index : ℕ) (a b : List ℕ) → HasText (strings_of image) index a → HasText (strings_of image) index b → a ≡ b) (can : CanMeasure image) where
  -- no two types have one path
  one_type : (a b : ℕ) (path : List TypeId) → HasRow image 0x02 a → HasRow image 0x02 b → HasPath image a path → HasPath image b path → a ≡ b
  one_type a b path ra rb h k = elim (cases_order a b) [
    | inl e ↦ e
    | inr apart ↦ elim apart [
      | inl less ↦ absurd ((can.distinct can.named.0 can.named.1 0x02 b).type refl rb a ra.0 less (path, h, k))
      | inr more ↦ absurd ((can.distinct can.named.0 can.named.1 0x02 a).type refl ra b rb.0 more (path, k, h))
    ]
  ]

  -- a type with this path is the one with this name
  called : (name : TypeName) (path : List TypeId) (row : ℕ) → name ≡ record { scope = Here; path = path } → HasRow image 0x02 row → HasPath image row path → IsOneCalled image name row
  called name path row e there h type = (
    λ c.
        let same : path ≡ c.path = ap (λ (n : TypeName). n.path) (sym e ∙ c.is) in
        (one_type type row c.path c.there there c.named (subst (HasPath image row) same h), c.there.0),
    λ s.
        let is : row ≡ type = sym s.0 in
        record { path = path; is = e; there = subst (HasRow image 0x02) is there; named = subst (λ (t : ℕ). HasPath image t path) is h },
  )

  not_here : (k : ℕ) → Extern k ≡ Here → ⊥
  not_here k e = cc

  -- a name that leads to an assembly is that of no type
  called_none : (name : TypeName) (path : List TypeId) (k row : ℕ) → name ≡ record { scope = Extern k; path = path } → row ≡ 0 → IsOneCalled image name row
  called_none name path k row e none type = (
    λ c. absurd (not_here k (ap (λ (n : TypeName). n.scope) (sym e ∙ c.is))),
    λ s. let same = s.0 in let some = s.1 in absurd (omega arith),
  )

  module _ (named : List Named) (tell : TellNames image named) where
    module _ (row : ℕ) (there : HasRow image 0x01 row) where
      abbrev k : ℕ
      k = ref_node image row

      numbered : 0 < depth_at named k → number_of named k ≡ Some (number_at named k)
      numbered some = cond-false (depth_at named k == 0) None (Some (number_at named k)) (ne_eqb (depth_at named k) 0 (λ e. absurd (omega arith)))

      is_there : is_row image 0x01 row ≡ true
      is_there = and_from (nat_lt 0 row) (nat_le row (count_of image 0x01)) (lt-ltb 0 row there.0) (le-leb row (count_of image 0x01) there.1)

      found : 0 < depth_at named k → reference_number image named row ≡ Some (number_at named k)
      found some = cond-true (is_row image 0x01 row) (number_of named k) None is_there ∙ numbered some

      node : (0 < k) × (k ≤ count_of image 0x02 + count_of image 0x01)
      node = let a = there.0 in let b = there.1 in (omega arith, omega arith)

      -- a reference whose number is that of a type names this type
      low_named : 0 < depth_at named k → number_at named k ≤ count_of image 0x02 → (scope : Scope) (path : List TypeId) → HasRefPath image row scope path
          → (scope ≡ Here) × HasRow image 0x02 (number_at named k) × HasPath image (number_at named k) path
      low_named some low scope path leads =
          let m : ℕ = number_at named k in
          let t = tell.there k node some in
          let one = (tell.same k m node t.0 some t.1).0 (sym t.2) in
          let type = type_names one.3 low in
          let same = ref_path_one image text leads (reference_names one.2 row there.0 refl) in
          (same.0 ∙ type.0, (t.0.0, low), subst (HasPath image m) (sym same.1) type.1)

      deep : 0 < depth_at named k
      deep = ((scope_told image named tell row there).1 ((can.scopes 0x01 row).reference refl there)).0

      here_low : (path : List TypeId) → HasRefPath image row Here path → number_at named k ≤ count_of image 0x02
      here_low path leads =
          let l = (scope_told image named tell row there).1 ((can.scopes 0x01 row).reference refl there) in
          elim l.1 [
            | inl out ↦ absurd (let root = (tell.root k Here path node l.0 (NodeNames.reference there refl leads)).1 refl in omega arith)
            | inr low ↦ low
          ]

      by_reference : (name : TypeName) (scope : Scope) (path : List TypeId) → HasRefPath image row scope path → name ≡ record { scope = scope; path = path }
          → IsOneCalled image name (type_or_none (count_of image 0x02) (Some (number_at named k)))
      by_reference name Here path leads e =
          let low = here_low path leads in
          let is = low_named deep low Here path leads in
          subst (IsOneCalled image name) (sym (low_type (count_of image 0x02) (number_at named k) low)) (called name path (number_at named k) e is.1 is.2)
      by_reference name (Extern j) path leads e = elim (cases_lt (count_of image 0x02) (number_at named k)) [
        | inl high ↦ called_none name path j _ e (high_type (count_of image 0x02) (number_at named k) high)
        | inr low ↦ absurd (not_here j (low_named deep (omega arith) (Extern j) path leads).0)
      ]

    -- ---- tokens

    defined_token : (token row : ℕ) → IsToken token 0x02 row → token_number image named token ≡ Some row
    unfolding token_number
    defined_token token row is =
        cond-true (token / 2 ^ 24 == 0x02) (Some (token % 2 ^ 24)) _ (eq-eqb (token / 2 ^ 24) 0x02 (table_is token 0x02 row is)) ∙ ap (λ (n : ℕ). Some n) (row_is token 0x02 row is)

    referred_token : (token row : ℕ) → IsToken token 0x01 row → token_number image named token ≡ reference_number image named row
    unfolding token_number
    referred_token token row is =
        let table = table_is token 0x01 row is in
        cond-false (token / 2 ^ 24 == 0x02) (Some (token % 2 ^ 24)) _ (ne_eqb (token / 2 ^ 24) 0x02 (λ e. absurd (omega arith)))
        ∙ cond-true (token / 2 ^ 24 == 0x01) (reference_number image named (token % 2 ^ 24)) None (eq-eqb (token / 2 ^ 24) 0x01 table) ∙ ap (reference_number image named) (row_is token 0x01 row is)

    abbrev OneAt : TypeName → Option ℕ → Type 0
    OneAt name number = IsOneCalled image name (type_or_none (count_of image 0x02) number)

    same_name : (n m : TypeName) → owner.Name n ≡ owner.Name m → m ≡ n
    same_name n m e = sym (some_is n m (ap name_of e))

    of_row : (owners : ℕ → Option Owner) (token : ℕ) (name : TypeName) {table row : ℕ} {o : Owner} → IsToken token table row → RowOwner image owners table row o → o ≡ owner.Name name
        → OneAt name (token_number image named token)
    of_row owners token name {row = row} is (RowOwner.defined {path = path} t there h) e =
        let at : IsToken token 0x02 row = subst (λ (x : ℕ). IsToken token x row) t is in
        subst (OneAt name) (sym (defined_token token row at))
        (subst (IsOneCalled image name) (sym (low_type (count_of image 0x02) row there.1)) (called name path row (same_name (record { scope = Here; path = path }) name e) there h))
    of_row owners token name {row = row} is (RowOwner.referred {scope = scope} {path = path} t there h) e =
        let at : IsToken token 0x01 row = subst (λ (x : ℕ). IsToken token x row) t is in
        subst (OneAt name) (sym (referred_token token row at ∙ found row there (deep row there)))
        (by_reference row there name scope path h (same_name (record { scope = scope; path = path }) name e))
    of_row owners token name is (RowOwner.specified t there b s) e = absurd (let n = ap name_of e in cc)

    of_owner : (owners : ℕ → Option Owner) (token : ℕ) (name : TypeName) {o : Owner} → NamesOwner image owners token o → o ≡ owner.Name name → OneAt name (token_number image named token)
    of_owner owners token name (NamesOwner.by_row is h) e = of_row owners token name is h e

    pub token_called : (owners : ℕ → Option Owner) (token : ℕ) (name : TypeName) → TellsOwners image owners → owners token ≡ Some (owner.Name name) → IsOneCalled image name (type_of_token image named token)
    token_called owners token name tells e = of_owner owners token name ((tells token (owner.Name name)).0 e) refl
