-- The parts of types: what is read is spelled so, and what is spelled so is read.
use Rattle.std.proofs.Common.{◌≡◌, ℕ, zero, suc, ◌+◌, ◌*◌, ◌/◌, ◌%◌, ◌^◌, ◌<◌, ◌≤◌, inl, inr, Bool, true, false, cond, nat_lt, nat_eq, ℤ, List, [], ◌∷◌, ◌++◌, length, Option, Some, None, refl, sym, ap, subst, ◌∙◌, append_assoc, arith}
use Rattle.std.proofs.lemmas.Grind.{common_steps}
use Rattle.il_base.specs.Numbers.{Packed, PackedSigned}
use Rattle.type_terms.specs.declared.name.TypeName.{TypeName}
use Rattle.type_terms.specs.declared.term.Owner.{Owner, Name, Spec}
use Rattle.sig_codec.specs.Tokens.{token_of_coded, IsDeclared, type_refs, type_defs, type_specs}
use Rattle.sig_codec.specs.Spelling.{Notation, reading, kind_byte, SpellsOwner, SpellsName, SpellsEachBy, SpellsCounted, SpellsShape}
use Rattle.sig_codec.specs.Reading.{◌>>=◌, Step, number_at, signed_at, each_at, counted_at, owner_at, name_of, is_declared, declared_at, variable_at, shape_at, kind_at, generic_at}
use Rattle.sig_codec.proofs.Numbers.{Took, some_is, bind_some, chosen, number_takes, number_again, signed_takes, signed_again}

-- a front in two parts
pub two_parts : (bytes a b c x y : List ℕ) → bytes ≡ a ++ x → x ≡ b ++ y → bytes ≡ (a ++ b) ++ y
two_parts bytes a b c x y e f = e ∙ ap (λ (t : List ℕ). a ++ t) f ∙ sym (append_assoc a b y)

-- ---- several of a kind

module _ {X : Type 0} (step : List ℕ → Step X) (Spells : List ℕ → X → Type 0)
    (takes : (bytes : List ℕ) (x : X) (rest : List ℕ) → step bytes ≡ Some (x, rest) → Took Spells bytes x rest)
    (again : (front : List ℕ) (x : X) (rest : List ℕ) → Spells front x → step (front ++ rest) ≡ Some (x, rest)) where
  pub each_takes : (count : ℕ) (bytes : List ℕ) (xs : List X) (rest : List ℕ) → each_at step count bytes ≡ Some (xs, rest)
      → (front : List ℕ) × (bytes ≡ front ++ rest) × SpellsEachBy Spells xs front × (length xs ≡ count)
  each_takes zero bytes xs rest e =
      let z : List X × List ℕ = ([], bytes) in
      let y : List X × List ℕ = (xs, rest) in
      let p = some_is z y e in
      subst (λ (q : List X × List ℕ). (front : List ℕ) × (bytes ≡ front ++ q.1) × SpellsEachBy Spells q.0 front × (length q.0 ≡ 0)) p ([], refl, refl, refl)
  each_takes (suc count) bytes xs rest e =
      let b = bind_some (step bytes) (λ x. each_at step count x.1 >>= λ xs. Some (x.0 ∷ xs.0, xs.1)) (xs, rest) e in
      let c = bind_some (each_at step count b.0.1) (λ xs. Some (b.0.0 ∷ xs.0, xs.1)) (xs, rest) b.2 in
      let t = takes bytes b.0.0 b.0.1 b.1 in
      let r = each_takes count b.0.1 c.0.0 c.0.1 c.1 in
      let z : List X × List ℕ = (b.0.0 ∷ c.0.0, c.0.1) in
      let y : List X × List ℕ = (xs, rest) in
      let p = some_is z y c.2 in
      subst (λ (q : List X × List ℕ). (front : List ℕ) × (bytes ≡ front ++ q.1) × SpellsEachBy Spells q.0 front × (length q.0 ≡ suc count)) p
      (t.front ++ r.0, two_parts bytes t.front r.0 [] b.0.1 c.0.1 t.parts r.1, (t.front, r.0, refl, t.spelled, r.2), ap suc r.3)

  pub each_again : (xs : List X) (front rest : List ℕ) → SpellsEachBy Spells xs front → each_at step (length xs) (front ++ rest) ≡ Some (xs, rest)
  each_again [] front rest h = rw h refl
  each_again (x ∷ xs) front rest h =
      let one = again h.0 x (h.1 ++ rest) h.3 in
      let more = each_again xs h.1 rest h.4 in
      rw (h.2, append_assoc, one, more) refl

  pub counted_takes : (owners : ℕ → Option Owner) (limit : ℕ) (bytes : List ℕ) (xs : List X) (rest : List ℕ) → counted_at step limit bytes ≡ Some (xs, rest)
      → Took (λ front ys. SpellsCounted (reading owners) Spells ys front × (length ys ≤ limit)) bytes xs rest
  unfolding counted_at
  counted_takes owners limit bytes xs rest e =
      let b = bind_some (number_at bytes) (λ n. cond (nat_lt limit n.0) None (each_at step n.0 n.1)) (xs, rest) e in
      elim (chosen (nat_lt limit b.0.0) None (each_at step b.0.0 b.0.1) (Some (xs, rest)) b.2) [
        | inl h ↦ absurd (let d = h.1 in cc)
        | inr h ↦
            let low : b.0.0 ≤ limit = grind (arith, common_steps) in
            let n = number_takes bytes b.0.0 b.0.1 b.1 in
            let r = each_takes b.0.0 b.0.1 xs rest h.1 in
            let counted : Packed n.front (length xs) = rw r.3 n.spelled in
            record {
              front = n.front ++ r.0;
              parts = two_parts bytes n.front r.0 [] b.0.1 rest n.parts r.1;
              spelled = (record { count = n.front; each = r.0; whole = refl; counted = counted; spelled_each = r.2 }, omega (arith, r.3));
            }
      ]

  pub counted_again : (owners : ℕ → Option Owner) (limit : ℕ) (xs : List X) (front rest : List ℕ) → SpellsCounted (reading owners) Spells xs front → length xs ≤ limit
      → counted_at step limit (front ++ rest) ≡ Some (xs, rest)
  unfolding counted_at
  counted_again owners limit xs front rest h few =
      let count = number_again h.count (length xs) (h.each ++ rest) h.counted in
      let more = each_again xs h.each rest h.spelled_each in
      let within : nat_lt limit (length xs) ≡ false = grind (arith, common_steps) in
      rw (h.whole, append_assoc, count, within, more) refl

-- ---- tokens

module _ (owners : ℕ → Option Owner) where
  abbrev w : Notation
  w = reading owners

  pub record TookOwner (bytes : List ℕ) (token : ℕ) (o : Owner) (rest : List ℕ) : Type 0 where
    pub front : List ℕ
    pub parts : bytes ≡ front ++ rest
    pub spelled : SpellsOwner w o front
    pub same : spelled.token ≡ token

  pub owner_takes : (bytes : List ℕ) (token : ℕ) (o : Owner) (rest : List ℕ) → owner_at owners bytes ≡ Some (token, o, rest) → TookOwner bytes token o rest
  unfolding owner_at
  owner_takes bytes token o rest e =
      let b = bind_some (number_at bytes) (λ n. token_of_coded n.0 >>= λ t. owners t >>= λ p. Some (t, p, n.1)) (token, o, rest) e in
      let c = bind_some (token_of_coded b.0.0) (λ t. owners t >>= λ p. Some (t, p, b.0.1)) (token, o, rest) b.2 in
      let d = bind_some (owners c.0) (λ p. Some (c.0, p, b.0.1)) (token, o, rest) c.2 in
      let n = number_takes bytes b.0.0 b.0.1 b.1 in
      let z : ℕ × Owner × List ℕ = (c.0, d.0, b.0.1) in
      let y : ℕ × Owner × List ℕ = (token, o, rest) in
      let p = some_is z y d.2 in
      subst (λ (q : ℕ × Owner × List ℕ). TookOwner bytes q.0 q.1 q.2) p
      (record { front = n.front; parts = n.parts; spelled = record { token = c.0; coded = b.0.0; number = n.spelled; decoded = c.1; named = d.1 }; same = refl })

  pub owner_again : (o : Owner) (front rest : List ℕ) → (h : SpellsOwner w o front) → owner_at owners (front ++ rest) ≡ Some (h.token, o, rest)
  unfolding owner_at
  owner_again o front rest h =
      let n = number_again front h.coded rest h.number in
      rw (n, h.decoded, h.named) refl

  -- ---- names

  declared_token : (coded token : ℕ) → token_of_coded coded ≡ Some token → is_declared token ≡ true → IsDeclared token
  declared_token n token e d =
      let low : token < 3 * 2 ^ 24 = grind (arith, common_steps) in
      let third : Option ℕ = cond (nat_eq (n % 4) 2) (Some (type_specs + n / 4)) None in
      let second : Option ℕ = cond (nat_eq (n % 4) 1) (Some (type_refs + n / 4)) third in
      let first : Option ℕ = cond (nat_eq (n % 4) 0) (Some (type_defs + n / 4)) second in
      elim (chosen (nat_lt n (2 ^ 26)) first None (Some token) e) [
        | inl h ↦
            let small : n < 2 ^ 26 = grind (arith, common_steps) in
            elim (chosen (nat_eq (n % 4) 0) (Some (type_defs + n / 4)) second (Some token) h.1) [
              | inl i ↦ let is = some_is (type_defs + n / 4) token i.1 in inr (grind (arith, common_steps))
              | inr i ↦ elim (chosen (nat_eq (n % 4) 1) (Some (type_refs + n / 4)) third (Some token) i.1) [
                | inl j ↦ let is = some_is (type_refs + n / 4) token j.1 in inl (grind (arith, common_steps))
                | inr j ↦ elim (chosen (nat_eq (n % 4) 2) (Some (type_specs + n / 4)) None (Some token) j.1) [
                  | inl k ↦ let is = some_is (type_specs + n / 4) token k.1 in absurd (omega arith)
                  | inr k ↦ absurd (let x = k.1 in cc)
                ]
              ]
            ]
        | inr h ↦ absurd (let x = h.1 in cc)
      ]

  token_declared : (token : ℕ) → IsDeclared token → is_declared token ≡ true
  token_declared token (inl e) = grind (arith, common_steps)
  token_declared token (inr e) = grind (arith, common_steps)

  pub name_is : (o : Owner) (n : TypeName) → name_of o ≡ Some n → o ≡ Name n
  name_is (Name x) n e = ap Name (some_is x n e)
  name_is (Spec x) n e = absurd cc

  with_name : (o : Owner) (n : TypeName) (front : List ℕ) → o ≡ Name n → (s : SpellsOwner w o front) → IsDeclared s.token → SpellsName w n front
  with_name o n front e s d = record { owner = record { token = s.token; coded = s.coded; number = s.number; decoded = s.decoded; named = subst (λ (q : Owner). w.named s.token q) e s.named }; declared = d }

  pub declared_takes : (bytes : List ℕ) (n : TypeName) (rest : List ℕ) → declared_at owners bytes ≡ Some (n, rest) → Took (λ front m. SpellsName w m front) bytes n rest
  unfolding declared_at
  declared_takes bytes n rest e =
      let b = bind_some (owner_at owners bytes) (λ o. name_of o.1 >>= λ m. cond (is_declared o.0) (Some (m, o.2)) None) (n, rest) e in
      let c = bind_some (name_of b.0.1) (λ m. cond (is_declared b.0.0) (Some (m, b.0.2)) None) (n, rest) b.2 in
      elim (chosen (is_declared b.0.0) (Some (c.0, b.0.2)) None (Some (n, rest)) c.2) [
        | inl h ↦
            let o = owner_takes bytes b.0.0 b.0.1 b.0.2 b.1 in
            let z : TypeName × List ℕ = (c.0, b.0.2) in
            let y : TypeName × List ℕ = (n, rest) in
            let p = some_is z y h.1 in
            let named = name_is b.0.1 c.0 c.1 in
            let d : IsDeclared o.spelled.token = declared_token o.spelled.coded o.spelled.token o.spelled.decoded (rw o.same h.0) in
            subst (λ (q : TypeName × List ℕ). Took (λ front m. SpellsName w m front) bytes q.0 q.1) p
            (record { front = o.front; parts = o.parts; spelled = with_name b.0.1 c.0 o.front named o.spelled d })
        | inr h ↦ absurd (let d = h.1 in cc)
      ]

  pub declared_again : (n : TypeName) (front rest : List ℕ) → SpellsName w n front → declared_at owners (front ++ rest) ≡ Some (n, rest)
  unfolding declared_at
  declared_again n front rest h =
      let o = owner_again (Name n) front rest h.owner in
      let d = token_declared h.owner.token h.declared in
      rw (o, d) refl

-- ---- generic parameters

pub variable_takes : (bytes : List ℕ) (n : ℕ) (rest : List ℕ) → variable_at bytes ≡ Some (n, rest) → Took (λ front m. Packed front m × (m < 2 ^ 16)) bytes n rest
unfolding variable_at
variable_takes bytes n rest e =
    let b = bind_some (number_at bytes) (λ n. cond (nat_lt n.0 (2 ^ 16)) (Some (n.0, n.1)) None) (n, rest) e in
    elim (chosen (nat_lt b.0.0 (2 ^ 16)) (Some (b.0.0, b.0.1)) None (Some (n, rest)) b.2) [
      | inl h ↦
          let t = number_takes bytes b.0.0 b.0.1 b.1 in
          let z : ℕ × List ℕ = (b.0.0, b.0.1) in
          let y : ℕ × List ℕ = (n, rest) in
          let p = some_is z y h.1 in
          let low : b.0.0 < 2 ^ 16 = grind (arith, common_steps) in
          subst (λ (q : ℕ × List ℕ). Took (λ front m. Packed front m × (m < 2 ^ 16)) bytes q.0 q.1) p (record { front = t.front; parts = t.parts; spelled = (t.spelled, low) })
      | inr h ↦ absurd (let d = h.1 in cc)
    ]

pub variable_again : (front : List ℕ) (n : ℕ) (rest : List ℕ) → Packed front n → n < 2 ^ 16 → variable_at (front ++ rest) ≡ Some (n, rest)
unfolding variable_at
variable_again front n rest h low =
    let t = number_again front n rest h in
    let within : nat_lt n (2 ^ 16) ≡ true = grind (arith, common_steps) in
    rw (t, within) refl

-- ---- shapes

module _ (owners : ℕ → Option Owner) where
  pub shape_takes : (bytes : List ℕ) (rank : ℕ) (sizes : List ℕ) (lower : List ℤ) (rest : List ℕ) → shape_at bytes ≡ Some (rank, sizes, lower, rest)
      → (front : List ℕ) × (bytes ≡ front ++ rest) × SpellsShape (reading owners) rank sizes lower front
  unfolding shape_at
  shape_takes bytes rank sizes lower rest e =
      let more : ℕ × List ℕ → Option (ℕ × List ℕ × List ℤ × List ℕ) = λ k. counted_at number_at k.0 k.1 >>= λ s. counted_at signed_at k.0 s.1 >>= λ l. Some (k.0, s.0, l.0, l.1) in
      let b = bind_some (number_at bytes) (λ k. cond (nat_eq k.0 0) None (more k)) (rank, sizes, lower, rest) e in
      elim (chosen (nat_eq b.0.0 0) None (more b.0) (Some (rank, sizes, lower, rest)) b.2) [
        | inl h ↦ absurd (let d = h.1 in cc)
        | inr h ↦
            let c = bind_some (counted_at number_at b.0.0 b.0.1) (λ s. counted_at signed_at b.0.0 s.1 >>= λ l. Some (b.0.0, s.0, l.0, l.1)) (rank, sizes, lower, rest) h.1 in
            let d = bind_some (counted_at signed_at b.0.0 c.0.1) (λ l. Some (b.0.0, c.0.0, l.0, l.1)) (rank, sizes, lower, rest) c.2 in
            let some : 0 < b.0.0 = grind (arith, common_steps) in
            let n = number_takes bytes b.0.0 b.0.1 b.1 in
            let s = counted_takes number_at Packed number_takes number_again owners b.0.0 b.0.1 c.0.0 c.0.1 c.1 in
            let l = counted_takes signed_at PackedSigned signed_takes signed_again owners b.0.0 c.0.1 d.0.0 d.0.1 d.1 in
            let z : ℕ × List ℕ × List ℤ × List ℕ = (b.0.0, c.0.0, d.0.0, d.0.1) in
            let y : ℕ × List ℕ × List ℤ × List ℕ = (rank, sizes, lower, rest) in
            let p = some_is z y d.2 in
            subst (λ (q : ℕ × List ℕ × List ℤ × List ℕ). (front : List ℕ) × (bytes ≡ front ++ q.3) × SpellsShape (reading owners) q.0 q.1 q.2 front) p (
              n.front ++ (s.front ++ l.front),
              two_parts bytes n.front (s.front ++ l.front) [] b.0.1 d.0.1 n.parts (two_parts b.0.1 s.front l.front [] c.0.1 d.0.1 s.parts l.parts),
              record { a = n.front; b = s.front; c = l.front; whole = refl; ranked = n.spelled; some = some; sized = s.spelled.0; few_sizes = s.spelled.1; bounded = l.spelled.0; few_bounds = l.spelled.1 },
            )
      ]

  pub shape_again : (front : List ℕ) (rank : ℕ) (sizes : List ℕ) (lower : List ℤ) (rest : List ℕ) → SpellsShape (reading owners) rank sizes lower front
      → shape_at (front ++ rest) ≡ Some (rank, sizes, lower, rest)
  unfolding shape_at
  shape_again front rank sizes lower rest h =
      let n = number_again h.a rank (h.b ++ (h.c ++ rest)) h.ranked in
      let s = counted_again number_at Packed number_takes number_again owners rank sizes h.b (h.c ++ rest) h.sized h.few_sizes in
      let l = counted_again signed_at PackedSigned signed_takes signed_again owners rank lower h.c rest h.bounded h.few_bounds in
      let some : nat_eq rank 0 ≡ false = (let x = h.some in grind (arith, common_steps)) in
      rw (h.whole, append_assoc, append_assoc, n, some, s, l) refl

  -- ---- the head of a generic type

  owner_of_name : (o : Owner) (n : TypeName) (front : List ℕ) → o ≡ Name n → SpellsOwner (reading owners) o front → SpellsOwner (reading owners) (Name n) front
  owner_of_name o n front e s = subst (λ (q : Owner). SpellsOwner (reading owners) q front) e s

  -- the element type of a class or value type, the name, and the number of arguments
  pub record SpellsHead (front : List ℕ) (v : Bool) (name : TypeName) (count : ℕ) : Type 0 where
    pub a : List ℕ
    pub b : List ℕ
    pub whole : front ≡ kind_byte v ∷ (a ++ b)
    pub named : SpellsOwner (reading owners) (Name name) a
    pub counted : Packed b count
    pub some : 0 < count

  kind_takes : (bytes : List ℕ) (v : Bool) (rest : List ℕ) → kind_at bytes ≡ Some (v, rest) → bytes ≡ kind_byte v ∷ rest
  kind_takes [] v rest e = absurd cc
  kind_takes (b ∷ more) v rest e =
      let y : Bool × List ℕ = (v, rest) in
      elim (chosen (nat_eq b 0x11) (Some (true, more)) (cond (nat_eq b 0x12) (Some (false, more)) None) (Some (v, rest)) e) [
        | inl h ↦
            let z : Bool × List ℕ = (true, more) in
            let is : b ≡ 0x11 = grind (arith, common_steps) in
            subst (λ (q : Bool × List ℕ). b ∷ more ≡ kind_byte q.0 ∷ q.1) (some_is z y h.1) (ap (λ (k : ℕ). k ∷ more) is)
        | inr h ↦ elim (chosen (nat_eq b 0x12) (Some (false, more)) None (Some (v, rest)) h.1) [
          | inl k ↦
              let z : Bool × List ℕ = (false, more) in
              let is : b ≡ 0x12 = grind (arith, common_steps) in
              subst (λ (q : Bool × List ℕ). b ∷ more ≡ kind_byte q.0 ∷ q.1) (some_is z y k.1) (ap (λ (k : ℕ). k ∷ more) is)
          | inr k ↦ absurd (let d = k.1 in cc)
        ]
      ]

  kind_again : (v : Bool) (rest : List ℕ) → kind_at (kind_byte v ∷ rest) ≡ Some (v, rest)
  kind_again true rest = refl
  kind_again false rest = refl

  pub generic_takes : (bytes : List ℕ) (v : Bool) (name : TypeName) (count : ℕ) (rest : List ℕ) → generic_at owners bytes ≡ Some (v, name, count, rest)
      → (front : List ℕ) × (bytes ≡ front ++ rest) × SpellsHead front v name count
  unfolding generic_at
  generic_takes bytes v name count rest e =
      let last : Bool → List ℕ → TypeName → ℕ → Option (Bool × TypeName × ℕ × List ℕ) = λ kind after m n. cond (nat_eq n 0) None (Some (kind, m, n, after)) in
      let third : Bool → Owner → (ℕ × List ℕ) → Option (Bool × TypeName × ℕ × List ℕ) = λ kind o n. name_of o >>= λ m. last kind n.1 m n.0 in
      let second : Bool → (ℕ × Owner × List ℕ) → Option (Bool × TypeName × ℕ × List ℕ) = λ kind o. number_at o.2 >>= λ n. third kind o.1 n in
      let first : (Bool × List ℕ) → Option (Bool × TypeName × ℕ × List ℕ) = λ kind. owner_at owners kind.1 >>= λ o. second kind.0 o in
      let y : Bool × TypeName × ℕ × List ℕ = (v, name, count, rest) in
      let a = bind_some (kind_at bytes) first y e in
      let b = bind_some (owner_at owners a.0.1) (second a.0.0) y a.2 in
      let c = bind_some (number_at b.0.2) (third a.0.0 b.0.1) y b.2 in
      let d = bind_some (name_of b.0.1) (λ m. last a.0.0 c.0.1 m c.0.0) y c.2 in
      elim (chosen (nat_eq c.0.0 0) None (Some (a.0.0, d.0, c.0.0, c.0.1)) (Some y) d.2) [
        | inl h ↦ absurd (let x = h.1 in cc)
        | inr h ↦
            let z : Bool × TypeName × ℕ × List ℕ = (a.0.0, d.0, c.0.0, c.0.1) in
            let k = kind_takes bytes a.0.0 a.0.1 a.1 in
            let o = owner_takes owners a.0.1 b.0.0 b.0.1 b.0.2 b.1 in
            let n = number_takes b.0.2 c.0.0 c.0.1 c.1 in
            let some : 0 < c.0.0 = (let x = h.0 in grind (arith, common_steps)) in
            let named = owner_of_name b.0.1 d.0 o.front (name_is owners b.0.1 d.0 d.1) o.spelled in
            let both = two_parts a.0.1 o.front n.front [] b.0.2 c.0.1 o.parts n.parts in
            subst (λ (q : Bool × TypeName × ℕ × List ℕ). (front : List ℕ) × (bytes ≡ front ++ q.3) × SpellsHead front q.0 q.1 q.2) (some_is z y h.1) (
              kind_byte a.0.0 ∷ (o.front ++ n.front),
              k ∙ ap (λ (r : List ℕ). kind_byte a.0.0 ∷ r) both,
              record { a = o.front; b = n.front; whole = refl; named = named; counted = n.spelled; some = some },
            )
      ]

  pub generic_again : (front : List ℕ) (v : Bool) (name : TypeName) (count : ℕ) (rest : List ℕ) → SpellsHead front v name count
      → generic_at owners (front ++ rest) ≡ Some (v, name, count, rest)
  unfolding generic_at
  generic_again front v name count rest h =
      let k = kind_again v (h.a ++ (h.b ++ rest)) in
      let o = owner_again owners (Name name) h.a (h.b ++ rest) h.named in
      let n = number_again h.b count rest h.counted in
      let some : nat_eq count 0 ≡ false = (let x = h.some in grind (arith, common_steps)) in
      rw (h.whole, append_assoc, k, o, n, some) refl
