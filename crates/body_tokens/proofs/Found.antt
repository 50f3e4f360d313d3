-- What was found in lists, and which tables coded indexes name.
use Rattle.std.proofs.Common.{◌≡◌, ◌∙◌, sym, ap, subst, refl, ℕ, zero, suc, ◌+◌, ◌/◌, ◌%◌, ◌^◌, ◌<◌, ◌≤◌, ◌⊎◌, inl, inr, Bool, true, false, cond, List, [], ◌∷◌, length, get_or, Option, None, Some, option_map, arith}
use Rattle.std.specs.Prelude.{Contains, ◌==◌}
use Rattle.std.specs.List.{find, range_with_len}
use Rattle.std.proofs.lemmas.Bool.{cases_Bool}
use Rattle.std.proofs.lemmas.Option.{none-some, same_Some}
use Rattle.metadata_tables.specs.CodedIndex.{tag_bits, tags, table_of, unpacked}
use Rattle.metadata_tables.specs.declared.coded.Coded.{Coded}
use Rattle.metadata_tables.specs.declared.coded.Coded.TheVariants.{MemberRefParent, MethodDefOrRef}
use Rattle.image_model.specs.Rows.{Names}

-- ---- what passes a test

pub found_passes : {X : Type 0} (p : X → Bool) (xs : List X) (x : X) → find p xs ≡ Some x → (p x ≡ true) × Contains xs x
found_passes p [] x e = absurd (none-some x e)
found_passes {X = X} p (y ∷ ys) x e = by_test (p y) refl (found_passes p ys x) where
  by_test : (b : Bool) → p y ≡ b → (find p ys ≡ Some x → (p x ≡ true) × Contains ys x) → (p x ≡ true) × Contains (y ∷ ys) x
  by_test true f more =
      let g : Some y ≡ Some x = sym (ap (λ b. cond b (Some y) (find p ys)) f) ∙ e in
      let same : y ≡ x = same_Some y x g in
      (subst (λ z. p z ≡ true) same f, (0, omega arith, same))
  by_test false f more =
      let g : find p ys ≡ Some x = sym (ap (λ b. cond b (Some y) (find p ys)) f) ∙ e in
      let rest = more g in
      (rest.0, (suc rest.1.0, let l = rest.1.1 in omega arith, rest.1.2))

pub in_range : (a n x : ℕ) → Contains (range_with_len a n) x → (a ≤ x) × (x < a + n)
in_range a zero x c = absurd (let l = c.1 in omega arith)
in_range a (suc n) x (zero, l, e) = let f : a ≡ x = e in (omega arith, omega arith)
in_range a (suc n) x (suc k, l, e) = let more = in_range (a + 1) n x (k, omega arith, e) in let p = more.0 in let q = more.1 in (omega arith, omega arith)

-- ---- coded indexes

abbrev pair_of : ℕ → ℕ → ℕ × ℕ
pair_of row table = (table, row)

map_table : (o : Option ℕ) (row table r : ℕ) → option_map {U = ℕ × ℕ} (λ (t : ℕ). pair_of row t) o ≡ Some (pair_of r table) → o ≡ Some table
map_table None row table r e = absurd (none-some (pair_of r table) e)
map_table (Some t) row table r e = ap Some (ap (λ (p : ℕ × ℕ). p.0) (same_Some (pair_of row t) (pair_of r table) e))

pub names_one : (kind : Coded) (value t r u s : ℕ) → Names kind value t r → Names kind value u s → (t ≡ u) × (r ≡ s)
names_one kind value t r u s h k =
    let e : pair_of r t ≡ pair_of s u = same_Some (pair_of r t) (pair_of s u) (sym h ∙ k) in
    (ap (λ (p : ℕ × ℕ). p.0) e, ap (λ (p : ℕ × ℕ). p.1) e)

map_pair : (o : Option (ℕ × ℕ)) (table : ℕ) → option_map (λ (p : ℕ × ℕ). p.0) o ≡ Some table → (tag : ℕ) × (o ≡ Some (table, tag))
map_pair None table e = absurd (none-some table e)
map_pair (Some p) table e = (p.1, ap (λ t. Some (t, p.1)) (same_Some p.0 table e))

-- the table stands among those that an index of this kind may name
pub named_tag : (kind : Coded) (value table row : ℕ) → Names kind value table row → (tag : ℕ) × Contains (tags kind) (table, tag)
unfolding table_of
named_tag kind value table row h =
    let found = map_table (table_of kind (value % 2 ^ tag_bits kind)) (value / 2 ^ tag_bits kind) table row h in
    let pair = map_pair (find (λ (p : ℕ × ℕ). p.1 == value % 2 ^ tag_bits kind) (tags kind)) table found in
    (pair.0, (found_passes (λ (p : ℕ × ℕ). p.1 == value % 2 ^ tag_bits kind) (tags kind) (table, pair.0) pair.1).1)

pub parent_tables : (value table row : ℕ) → Names MemberRefParent value table row
    → (table ≡ 0x02) ⊎ (table ≡ 0x01) ⊎ (table ≡ 0x1A) ⊎ (table ≡ 0x06) ⊎ (table ≡ 0x1B)
parent_tables value table row h = by_place (named_tag MemberRefParent value table row h).1 where
  by_place : {tag : ℕ} → Contains (tags MemberRefParent) (table, tag) → (table ≡ 0x02) ⊎ (table ≡ 0x01) ⊎ (table ≡ 0x1A) ⊎ (table ≡ 0x06) ⊎ (table ≡ 0x1B)
  by_place (zero, l, e) = inl (sym (ap (λ p. p.0) e))
  by_place (suc zero, l, e) = inr (inl (sym (ap (λ p. p.0) e)))
  by_place (suc (suc zero), l, e) = inr (inr (inl (sym (ap (λ p. p.0) e))))
  by_place (suc (suc (suc zero)), l, e) = inr (inr (inr (inl (sym (ap (λ p. p.0) e)))))
  by_place (suc (suc (suc (suc zero))), l, e) = inr (inr (inr (inr (sym (ap (λ p. p.0) e)))))
  by_place (suc (suc (suc (suc (suc k)))), l, e) = absurd (omega arith)

pub method_tables : (value table row : ℕ) → Names MethodDefOrRef value table row → (table ≡ 0x06) ⊎ (table ≡ 0x0A)
method_tables value table row h = by_place (named_tag MethodDefOrRef value table row h).1 where
  by_place : {tag : ℕ} → Contains (tags MethodDefOrRef) (table, tag) → (table ≡ 0x06) ⊎ (table ≡ 0x0A)
  by_place (zero, l, e) = inl (sym (ap (λ p. p.0) e))
  by_place (suc zero, l, e) = inr (sym (ap (λ p. p.0) e))
  by_place (suc (suc k), l, e) = absurd (omega arith)
