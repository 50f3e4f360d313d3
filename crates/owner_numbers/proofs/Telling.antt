-- Two tokens that name a type each have one number exactly where it is one.
use Rattle.std.proofs.Common.{◌≡◌, ℕ, ◌+◌, ◌-◌, ◌*◌, ◌/◌, ◌%◌, ◌^◌, ◌≤◌, ◌<◌, ◌⊎◌, inl, inr, Bool, true, false, cond, List, Option, Some, None, length, refl, sym, ap, subst, ◌∙◌, arith}
use Rattle.std.specs.Prelude.{◌↔◌, ◌==◌, ◌&&◌, ◌||◌, IsTrue, nat_eq, nat_lt, nat_le, slice_get, slice_index}
use Rattle.std.proofs.lemmas.Bool.{cond-true, cond-false, eq-eqb, ne_eqb, eqb-true, lt-ltb, le-leb}
use Rattle.std.proofs.lemmas.Option.{same_Some}
use Rattle.type_terms.specs.Depth.{depth, owner_depth}
use Rattle.type_terms.specs.declared.name.Scope.{Scope}
use Rattle.type_terms.specs.declared.name.Scope.TheVariants.{Here}
use Rattle.type_terms.specs.declared.name.TypeId.{TypeId}
use Rattle.type_terms.specs.declared.name.TypeName.{TypeName}
use Rattle.type_terms.specs.declared.term.Owner.{Owner}
use Rattle.type_terms.specs.declared.term.Owner.TheVariants.{Name, Spec}
use Rattle.type_terms.specs.declared.term.SigType.{SigType}
use Rattle.image_model.specs.Naming.{here, RowOwner, defined, referred, specified, IsToken, NamesOwner, by_row, TellsOwners}
use Rattle.image_model.specs.Rows.{count_of, HasRow}
use Rattle.name_numbers.specs.Names.{named_at, number_at, depth_at}
use Rattle.name_numbers.specs.declared.numbering.Named.{Named}
use Rattle.signature_equality.specs.Numbering.{IsCanon}
use Rattle.type_names.specs.Forest.{ref_node}
use Rattle.type_names.specs.Numbers.{NodeNames, IsNode, NameOne, TellNames, number_in, number_of}
use Rattle.type_names.proofs.Telling.{type_names, reference_names}
use Rattle.owner_numbers.specs.Canon.{Classes, is_row, name_number, type_number, reference_number, spec_number, same_number, canon, AreNumbered, below}
use Rattle.owner_numbers.specs.Terms.{term_of, spec_count}
use Rattle.owner_numbers.proofs.Narrow.{below_is}
use Rattle.owner_numbers.proofs.Told.{token_spec}

number_there : (named : Named) → 0 < named.depth → number_in named ≡ Some named.number
number_there named some = cond-false (nat_eq named.depth 0) None (Some named.number) (ne_eqb named.depth 0 (λ e. absurd (omega arith)))

row_there : (image : List ℕ) (table row : ℕ) → HasRow image table row → is_row image table row ≡ true
row_there image table row there = both (nat_lt 0 row) (nat_le row (count_of image table)) (lt-ltb 0 row there.0) (le-leb row (count_of image table) there.1)
  where
    both : (a b : Bool) → a ≡ true → b ≡ true → (a && b) ≡ true
    both true b p q = q
    both false b p q = absurd cc

no_spec : (classes : List ℕ) (token : ℕ) → (token / 2 ^ 24 ≡ 0x1B → ⊥) → spec_number classes token ≡ None
unfolding spec_number
no_spec classes token other = cond-false (nat_eq (token / 2 ^ 24) 0x1B) (slice_get classes (token % 2 ^ 24)) None (ne_eqb (token / 2 ^ 24) 0x1B other)

is_spec : (classes : List ℕ) (token row : ℕ) → token / 2 ^ 24 ≡ 0x1B → token % 2 ^ 24 ≡ row → spec_number classes token ≡ slice_get classes row
unfolding spec_number
is_spec classes token row t r =
    cond-true (nat_eq (token / 2 ^ 24) 0x1B) (slice_get classes (token % 2 ^ 24)) None (eq-eqb (token / 2 ^ 24) 0x1B t) ∙ ap (slice_get classes) r

module _ (image : List ℕ) (named : List Named) where
  abbrev of_type : ℕ → Option ℕ
  of_type row = type_number image named row

  abbrev of_ref : ℕ → Option ℕ
  of_ref row = reference_number image named row

  name_is : (token : ℕ) → name_number image named token
      ≡ cond (nat_eq (token / 2 ^ 24) 0x02) (of_type (token % 2 ^ 24)) (cond (nat_eq (token / 2 ^ 24) 0x01) (of_ref (token % 2 ^ 24)) None)
  unfolding name_number
  name_is token = refl

  no_name : (token : ℕ) → token / 2 ^ 24 ≡ 0x1B → name_number image named token ≡ None
  no_name token t =
      name_is token
      ∙ cond-false (nat_eq (token / 2 ^ 24) 0x02) (of_type (token % 2 ^ 24)) (cond (nat_eq (token / 2 ^ 24) 0x01) (of_ref (token % 2 ^ 24)) None)
      (ne_eqb (token / 2 ^ 24) 0x02 (λ e. absurd (omega arith)))
      ∙ cond-false (nat_eq (token / 2 ^ 24) 0x01) (of_ref (token % 2 ^ 24)) None (ne_eqb (token / 2 ^ 24) 0x01 (λ e. absurd (omega arith)))

  type_named : (token row : ℕ) → token / 2 ^ 24 ≡ 0x02 → token % 2 ^ 24 ≡ row → HasRow image 0x02 row → 0 < depth_at named row → name_number image named token ≡ Some (number_at named row)
  type_named token row t r there some =
      name_is token
      ∙ cond-true (nat_eq (token / 2 ^ 24) 0x02) (of_type (token % 2 ^ 24)) (cond (nat_eq (token / 2 ^ 24) 0x01) (of_ref (token % 2 ^ 24)) None)
      (eq-eqb (token / 2 ^ 24) 0x02 t)
      ∙ ap of_type r
      ∙ cond-true (is_row image 0x02 row) (number_of named row) None (row_there image 0x02 row there)
      ∙ number_there (named_at named row) some

  ref_named : (token row : ℕ) → token / 2 ^ 24 ≡ 0x01 → token % 2 ^ 24 ≡ row → HasRow image 0x01 row → 0 < depth_at named (ref_node image row)
      → name_number image named token ≡ Some (number_at named (ref_node image row))
  ref_named token row t r there some =
      name_is token
      ∙ cond-false (nat_eq (token / 2 ^ 24) 0x02) (of_type (token % 2 ^ 24)) (cond (nat_eq (token / 2 ^ 24) 0x01) (of_ref (token % 2 ^ 24)) None)
      (ne_eqb (token / 2 ^ 24) 0x02 (λ e. absurd (omega arith)))
      ∙ cond-true (nat_eq (token / 2 ^ 24) 0x01) (of_ref (token % 2 ^ 24)) None (eq-eqb (token / 2 ^ 24) 0x01 t)
      ∙ ap of_ref r
      ∙ cond-true (is_row image 0x01 row) (number_of named (ref_node image row)) None (row_there image 0x01 row there)
      ∙ number_there (named_at named (ref_node image row)) some

  module _ (owners : ℕ → Option Owner) where
    -- a token of a type or a reference names what its node names, and nothing else
    pub record IsName (token : ℕ) (o : Owner) : Type 0 where
      pub node : ℕ
      pub scope : Scope
      pub path : List TypeId
      pub is : o ≡ Name (record { scope = scope; path = path })
      pub is_node : IsNode image node
      pub some : 0 < depth_at named node
      pub leads : NodeNames image node scope path
      pub number : name_number image named token ≡ Some (number_at named node)
      pub no_class : (classes : List ℕ) → spec_number classes token ≡ None
      pub back : (s : Scope) (p : List TypeId) → NodeNames image node s p → NamesOwner image owners token (Name (record { scope = s; path = p }))

    pub record IsSpec (token : ℕ) (o : Owner) : Type 0 where
      pub row : ℕ
      pub term : SigType
      pub is : o ≡ Spec term
      pub there : HasRow image 0x1B row
      pub few : row < 2 ^ 24
      pub spells : term_of image owners row ≡ Some term
      pub no_number : name_number image named token ≡ None
      pub class : (classes : List ℕ) → spec_number classes token ≡ slice_get classes row

    module _ (tells : TellsOwners image owners) (numbered : AreNumbered image named) where
      row_named : {table row : ℕ} {o : Owner} → (token : ℕ) → owners token ≡ Some o → token ≡ table * 2 ^ 24 + row → row < 2 ^ 24 → RowOwner image owners table row o → IsName token o ⊎ IsSpec token o
      row_named {row = row} token e is fits (defined {path = path} t there leads) =
          let first : token / 2 ^ 24 ≡ 0x02 = omega arith in
          let rest : token % 2 ^ 24 ≡ row = omega arith in
          let within = there.1 in
          inl record {
            node = row;
            scope = Here;
            path = path;
            is = refl;
            is_node = (there.0, omega arith);
            some = numbered.types row there;
            leads = NodeNames.type there leads;
            number = type_named token row first rest there (numbered.types row there);
            no_class = λ classes. no_spec classes token (λ x. absurd (omega arith));
            back = λ s p h.
                let n = type_names h there.1 in
                let token_is : IsToken token 0x02 row = record { is = omega arith; fits = fits } in
                subst (λ (z : Scope). NamesOwner image owners token (Name (record { scope = z; path = p }))) (sym n.0) (by_row token_is (defined refl there n.1));
          }
      row_named {row = row} token e is fits (referred {scope = scope} {path = path} t there leads) =
          let first : token / 2 ^ 24 ≡ 0x01 = omega arith in
          let rest : token % 2 ^ 24 ≡ row = omega arith in
          let some_row = there.0 in
          let within = there.1 in
          inl record {
            node = ref_node image row;
            scope = scope;
            path = path;
            is = refl;
            is_node = (omega arith, omega arith);
            some = numbered.references row there;
            leads = NodeNames.reference there refl leads;
            number = ref_named token row first rest there (numbered.references row there);
            no_class = λ classes. no_spec classes token (λ x. absurd (omega arith));
            back = λ s p h.
                let token_is : IsToken token 0x01 row = record { is = omega arith; fits = fits } in
                by_row token_is (referred refl there (reference_names h row there.0 refl));
          }
      row_named {row = row} token e is fits (specified {term = term} t there b s) =
          let first : token / 2 ^ 24 ≡ 0x1B = omega arith in
          let rest : token % 2 ^ 24 ≡ row = omega arith in
          let same : token ≡ 0x1B * 2 ^ 24 + row = omega arith in
          let x = token_spec image owners tells row (Spec term) fits (ap owners (sym same) ∙ e) in
          inr record {
            row = row;
            term = x.term;
            is = x.is;
            there = there;
            few = fits;
            spells = x.spells;
            no_number = no_name token first;
            class = λ classes. is_spec classes token row first rest;
          }

      owner_named : {o : Owner} → (token : ℕ) → owners token ≡ Some o → NamesOwner image owners token o → IsName token o ⊎ IsSpec token o
      owner_named token e (by_row is h) = row_named token e is.is is.fits h

      pub sorts : (token : ℕ) (o : Owner) → owners token ≡ Some o → IsName token o ⊎ IsSpec token o
      sorts token o e = owner_named token e ((tells token o).0 e)

-- ---- a test by numbers

abbrev tested : Option ℕ → Option ℕ → Option ℕ → Option ℕ → Bool
tested a b c d = same_number a b || same_number c d

by_names : (a b c d : Option ℕ) (x y : ℕ) → a ≡ Some x → b ≡ Some y → c ≡ None → tested a b c d ≡ (x == y)
by_names a b c d x y p q r = ap (λ (z : Option ℕ). tested z b c d) p ∙ ap (λ (z : Option ℕ). tested (Some x) z c d) q ∙ ap (λ (z : Option ℕ). tested (Some x) (Some y) z d) r ∙ or_none (x == y)
  where
    or_none : (t : Bool) → (t || false) ≡ t
    or_none true = refl
    or_none false = refl

by_specs : (a b c d : Option ℕ) (x y : ℕ) → a ≡ None → c ≡ Some x → d ≡ Some y → tested a b c d ≡ (x == y)
by_specs a b c d x y p q r = ap (λ (z : Option ℕ). tested z b c d) p ∙ ap (λ (z : Option ℕ). same_number z d) q ∙ ap (λ (z : Option ℕ). same_number (Some x) z) r

by_neither : (a b c d : Option ℕ) → same_number a b ≡ false → same_number c d ≡ false → tested a b c d ≡ false
by_neither a b c d p q = ap (λ (t : Bool). t || same_number c d) p ∙ q

none_first : (a b : Option ℕ) → a ≡ None → same_number a b ≡ false
none_first a b e = ap (λ (z : Option ℕ). same_number z b) e

none_second : (a b : Option ℕ) → b ≡ None → same_number a b ≡ false
none_second None b e = refl
none_second (Some x) b e = ap (same_number (Some x)) e

means_same : (x y : ℕ) (t : Bool) (P : Type 0) → t ≡ (x == y) → (x ≡ y) ↔ P → IsTrue t ↔ P
means_same x y t P e h = (λ s. h.0 (eqb-true x y (sym e ∙ s)), λ p. e ∙ eq-eqb x y (h.1 p))

means_none : (t : Bool) (P : Type 0) → t ≡ false → (P → ⊥) → IsTrue t ↔ P
means_none t P e none = (λ s. absurd cc, λ p. absurd (none p))

abbrev is_name : Owner → Bool
is_name (Name n) = true
is_name (Spec t) = false

name_not_spec : (n : TypeName) (t : SigType) → Name n ≡ Spec t → ⊥
name_not_spec n t e = absurd (let f = ap is_name e in cc)

abbrev term_in : SigType → Owner → SigType
term_in other (Name n) = other
term_in other (Spec t) = t

spec_one : (s t : SigType) → Spec s ≡ Spec t → s ≡ t
spec_one s t e = ap (term_in s) e

abbrev name_in : TypeName → Owner → TypeName
name_in other (Name n) = n
name_in other (Spec t) = other

name_one : (m n : TypeName) → Name m ≡ Name n → m ≡ n
name_one m n e = ap (name_in m) e

module _ (image : List ℕ) (named : List Named) (tell : TellNames image named) (numbered : AreNumbered image named) (owners : ℕ → Option Owner) (tells : TellsOwners image owners) (classes : List ℕ) where
  abbrev it : Classes
  it = record { image = image; named = named; classes = classes }

  one_name : (o p : Owner) (x y : ℕ) → IsName image named owners x o → IsName image named owners y p → owners x ≡ Some o → owners y ≡ Some p
      → IsTrue (canon it x y) ↔ (o ≡ p)
  one_name o p x y a b e f =
      let s = tell.same a.node b.node a.is_node b.is_node a.some b.some in
      let there : NameOne image a.node b.node → o ≡ p = λ one.
      let first : owners x ≡ Some (Name (record { scope = one.0; path = one.1 })) = (tells x (Name (record { scope = one.0; path = one.1 }))).1 (a.back one.0 one.1 one.2) in
      let second : owners y ≡ Some (Name (record { scope = one.0; path = one.1 })) = (tells y (Name (record { scope = one.0; path = one.1 }))).1 (b.back one.0 one.1 one.3) in
      same_Some o (Name (record { scope = one.0; path = one.1 })) (sym e ∙ first) ∙ sym (same_Some p (Name (record { scope = one.0; path = one.1 })) (sym f ∙ second)) in
      let back : o ≡ p → NameOne image a.node b.node = λ one.
      let same : Name (record { scope = a.scope; path = a.path }) ≡ Name (record { scope = b.scope; path = b.path }) = sym a.is ∙ one ∙ b.is in
      let names = name_one (record { scope = a.scope; path = a.path }) (record { scope = b.scope; path = b.path }) same in
      let scopes : a.scope ≡ b.scope = ap (λ (n : TypeName). n.scope) names in
      let paths : a.path ≡ b.path = ap (λ (n : TypeName). n.path) names in
      (a.scope, a.path, a.leads, subst (λ (z : Scope). NodeNames image b.node z a.path) (sym scopes) (subst (NodeNames image b.node b.scope) (sym paths) b.leads)) in
      means_same (number_at named a.node) (number_at named b.node) _ (o ≡ p)
      (by_names (name_number image named x) (name_number image named y) (spec_number classes x) (spec_number classes y) (number_at named a.node) (number_at named b.node) a.number b.number (a.no_class classes))
      (λ n. there (s.0 n), λ q. s.1 (back q))

  mixed : (o p : Owner) (x y : ℕ) → IsName image named owners x o → IsSpec image named owners y p → IsTrue (canon it x y) ↔ (o ≡ p)
  mixed o p x y a b =
      means_none _ (o ≡ p)
      (by_neither (name_number image named x) (name_number image named y) (spec_number classes x) (spec_number classes y)
      (none_second (name_number image named x) (name_number image named y) b.no_number) (none_first (spec_number classes x) (spec_number classes y) (a.no_class classes)))
      (λ e. name_not_spec (record { scope = a.scope; path = a.path }) b.term (sym a.is ∙ e ∙ b.is))

  mixed_back : (o p : Owner) (x y : ℕ) → IsSpec image named owners x o → IsName image named owners y p → IsTrue (canon it x y) ↔ (o ≡ p)
  mixed_back o p x y a b =
      means_none _ (o ≡ p)
      (by_neither (name_number image named x) (name_number image named y) (spec_number classes x) (spec_number classes y)
      (none_first (name_number image named x) (name_number image named y) a.no_number) (none_second (spec_number classes x) (spec_number classes y) (b.no_class classes)))
      (λ e. name_not_spec (record { scope = b.scope; path = b.path }) a.term (sym b.is ∙ sym e ∙ a.is))

  -- the classes of two rows, where both have one and they tell their types
  abbrev Told : ℕ → ℕ → SigType → SigType → Type 0
  Told one other s t = (x y : ℕ) × (slice_get classes one ≡ Some x) × (slice_get classes other ≡ Some y) × ((x ≡ y) ↔ (s ≡ t))

  one_spec : (o p : Owner) (x y : ℕ) (a : IsSpec image named owners x o) (b : IsSpec image named owners y p) → Told a.row b.row a.term b.term
      → IsTrue (canon it x y) ↔ (o ≡ p)
  one_spec o p x y a b told =
      means_same told.0 told.1 _ (o ≡ p)
      (by_specs (name_number image named x) (name_number image named y) (spec_number classes x) (spec_number classes y) told.0 told.1 a.no_number (a.class classes ∙ told.2) (b.class classes ∙ told.3))
      (λ n. a.is ∙ ap (λ (t : SigType). Spec t) (told.4.0 n) ∙ sym b.is, λ e. told.4.1 (spec_one a.term b.term (sym a.is ∙ e ∙ b.is)))

  -- of two tokens that name something each, where classes tell the types of rows of which this holds
  pub told_apart : (Holds : Owner → Type 0)
      → ((one other : ℕ) (s t : SigType) → HasRow image 0x1B one → HasRow image 0x1B other → one < 2 ^ 24 → other < 2 ^ 24 → term_of image owners one ≡ Some s → term_of image owners other ≡ Some t
      → Holds (Spec s) → Holds (Spec t) → Told one other s t)
      → (x y : ℕ) (o p : Owner) → owners x ≡ Some o → owners y ≡ Some p → Holds o → Holds p → IsTrue (canon it x y) ↔ (o ≡ p)
  told_apart Holds classed x y o p e f h k = elim (sorts image named owners tells numbered x o e) [
    | inl a ↦ elim (sorts image named owners tells numbered y p f) [
      | inl b ↦ one_name o p x y a b e f
      | inr b ↦ mixed o p x y a b
    ]
    | inr a ↦ elim (sorts image named owners tells numbered y p f) [
      | inl b ↦ mixed_back o p x y a b
      | inr b ↦ one_spec o p x y a b (classed a.row b.row a.term b.term a.there b.there a.few b.few a.spells b.spells (subst Holds a.is h) (subst Holds b.is k))
    ]
  ]
