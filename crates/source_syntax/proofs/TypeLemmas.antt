-- How types, suffixes and owners are found in a forest.
use Rattle.std.proofs.Common.{◌≡◌, ℕ, List, [], ◌∷◌, ◌++◌, map, refl, ap, sym, ◌∙◌, append_assoc}
use Rattle.std.specs.Prelude.{Bool, true, false, ◌==◌, if◌then◌else◌}
use Rattle.type_terms.specs.declared.term.Primitive.TheVariants as prim
use Rattle.type_terms.specs.declared.term.Owner.{Owner, Name, Spec}
use Rattle.type_terms.specs.declared.term.SigType.{SigType, Prim}
use Rattle.ilasm_grammar.specs.declared.productions.TheConstants.{TYPE, SPEC_TYPE_NAME, SPEC_TYPE}
use Rattle.source_model.specs.Forest.{Forest, none, leaf, branch, is_among, joined}
use Rattle.source_model.specs.Names.{type_name}
use Rattle.source_model.specs.Nodes.{Around}
use Rattle.source_model.specs.Source.{Source}
use Rattle.source_model.specs.Types.{types_in, type_of, suffixed, owners_in, base_type, suffix, suffixes}

module _ (s : Source) (a : Around) where
  -- ---- types

  pub types_none : types_in s a none ≡ []
  unfolding types_in type_of suffixed owners_in
  types_none = refl

  pub types_leaf : (k : ℕ) (after : Forest) → types_in s a (leaf k after) ≡ types_in s a after
  unfolding types_in type_of suffixed owners_in
  types_leaf k after = refl

  pub types_own : (b after : Forest) → types_in s a (branch TYPE b after) ≡ type_of s a b ∷ types_in s a after
  unfolding types_in type_of suffixed owners_in
  types_own b after = refl

  pub types_at : (p : ℕ) (b after : Forest) → types_in s a (branch p b after) ≡ (if p == TYPE then type_of s a b ∷ [] else types_in s a b) ++ types_in s a after
  unfolding types_in type_of suffixed owners_in
  types_at p b after = refl

  pub types_joined : (f g : Forest) → types_in s a (joined f g) ≡ types_in s a f ++ types_in s a g
  types_joined none g = ap (λ ts. ts ++ types_in s a g) (sym types_none)
  types_joined (leaf k after) g = types_leaf k (joined after g) ∙ types_joined after g ∙ ap (λ ts. ts ++ types_in s a g) (sym (types_leaf k after))
  types_joined (branch p b after) g =
      let own : List SigType = if p == TYPE then type_of s a b ∷ [] else types_in s a b in
      types_at p b (joined after g) ∙ ap (λ ts. own ++ ts) (types_joined after g) ∙ sym (append_assoc own (types_in s a after) (types_in s a g))
      ∙ ap (λ ts. ts ++ types_in s a g) (sym (types_at p b after))

  pub types_other : (p : ℕ) (b after : Forest) → (p == TYPE) ≡ false → types_in s a (branch p b after) ≡ types_in s a (joined b after)
  types_other p b after e =
      types_at p b after ∙ ap (λ (c : Bool). (if c then type_of s a b ∷ [] else types_in s a b) ++ types_in s a after) e ∙ sym (types_joined b after)

  pub type_none : type_of s a none ≡ Prim prim.Void
  unfolding types_in type_of suffixed owners_in
  type_none = refl

  pub type_leaf : (k : ℕ) (after : Forest) → type_of s a (leaf k after) ≡ Prim prim.Void
  unfolding types_in type_of suffixed owners_in
  type_leaf k after = refl

  pub type_branch : (p : ℕ) (b after : Forest) → type_of s a (branch p b after) ≡ suffixed s a after (base_type s a p b (types_in s a b))
  unfolding types_in type_of suffixed owners_in
  type_branch p b after = refl

  -- ---- suffixes

  pub suffixed_none : (t : SigType) → suffixed s a none t ≡ t
  unfolding types_in type_of suffixed owners_in
  suffixed_none t = refl

  pub suffixed_leaf : (k : ℕ) (after : Forest) (t : SigType) → suffixed s a (leaf k after) t ≡ suffixed s a after t
  unfolding types_in type_of suffixed owners_in
  suffixed_leaf k after t = refl

  suffixed_at : (p : ℕ) (b after : Forest) (t : SigType)
      → suffixed s a (branch p b after) t ≡ suffixed s a after (if is_among suffixes p then suffix s p b (owners_in s a b) t else suffixed s a b t)
  unfolding types_in type_of suffixed owners_in
  suffixed_at p b after t = refl

  pub suffixed_own : (p : ℕ) (b after : Forest) (t : SigType) → is_among suffixes p ≡ true
      → suffixed s a (branch p b after) t ≡ suffixed s a after (suffix s p b (owners_in s a b) t)
  suffixed_own p b after t e =
      suffixed_at p b after t ∙ ap (λ (c : Bool). suffixed s a after (if c then suffix s p b (owners_in s a b) t else suffixed s a b t)) e

  pub suffixed_joined : (f g : Forest) (t : SigType) → suffixed s a (joined f g) t ≡ suffixed s a g (suffixed s a f t)
  suffixed_joined none g t = ap (suffixed s a g) (sym (suffixed_none t))
  suffixed_joined (leaf k after) g t =
      suffixed_leaf k (joined after g) t ∙ suffixed_joined after g t ∙ ap (suffixed s a g) (sym (suffixed_leaf k after t))
  suffixed_joined (branch p b after) g t =
      suffixed_at p b (joined after g) t
      ∙ suffixed_joined after g (if is_among suffixes p then suffix s p b (owners_in s a b) t else suffixed s a b t)
      ∙ ap (suffixed s a g) (sym (suffixed_at p b after t))

  pub suffixed_other : (p : ℕ) (b after : Forest) (t : SigType) → is_among suffixes p ≡ false
      → suffixed s a (branch p b after) t ≡ suffixed s a (joined b after) t
  suffixed_other p b after t e =
      suffixed_at p b after t ∙ ap (λ (c : Bool). suffixed s a after (if c then suffix s p b (owners_in s a b) t else suffixed s a b t)) e
      ∙ sym (suffixed_joined b after t)

  -- ---- owners

  pub owners_none : owners_in s a none ≡ []
  unfolding types_in type_of suffixed owners_in
  owners_none = refl

  pub owners_leaf : (k : ℕ) (after : Forest) → owners_in s a (leaf k after) ≡ owners_in s a after
  unfolding types_in type_of suffixed owners_in
  owners_leaf k after = refl

  pub owners_of_name : (b after : Forest) → owners_in s a (branch SPEC_TYPE_NAME b after) ≡ Name (type_name s b) ∷ owners_in s a after
  unfolding types_in type_of suffixed owners_in
  owners_of_name b after = refl

  pub owners_of_type : (b after : Forest) → owners_in s a (branch SPEC_TYPE b after) ≡ map Spec (types_in s a b) ++ owners_in s a after
  unfolding types_in type_of suffixed owners_in
  owners_of_type b after = refl

  abbrev own_owners : ℕ → Forest → List Owner
  own_owners p b = if p == SPEC_TYPE_NAME then Name (type_name s b) ∷ [] else if p == SPEC_TYPE then map Spec (types_in s a b) else owners_in s a b

  owners_at : (p : ℕ) (b after : Forest) → owners_in s a (branch p b after) ≡ own_owners p b ++ owners_in s a after
  unfolding types_in type_of suffixed owners_in
  owners_at p b after = refl

  pub owners_joined : (f g : Forest) → owners_in s a (joined f g) ≡ owners_in s a f ++ owners_in s a g
  owners_joined none g = ap (λ os. os ++ owners_in s a g) (sym owners_none)
  owners_joined (leaf k after) g = owners_leaf k (joined after g) ∙ owners_joined after g ∙ ap (λ os. os ++ owners_in s a g) (sym (owners_leaf k after))
  owners_joined (branch p b after) g =
      owners_at p b (joined after g) ∙ ap (λ os. own_owners p b ++ os) (owners_joined after g)
      ∙ sym (append_assoc (own_owners p b) (owners_in s a after) (owners_in s a g)) ∙ ap (λ os. os ++ owners_in s a g) (sym (owners_at p b after))

  pub owners_other : (p : ℕ) (b after : Forest) → (p == SPEC_TYPE_NAME) ≡ false → (p == SPEC_TYPE) ≡ false
      → owners_in s a (branch p b after) ≡ owners_in s a (joined b after)
  owners_other p b after m n =
      owners_at p b after
      ∙ ap (λ (c : Bool). (if c then Name (type_name s b) ∷ [] else if p == SPEC_TYPE then map Spec (types_in s a b) else owners_in s a b) ++ owners_in s a after) m
      ∙ ap (λ (c : Bool). (if c then map Spec (types_in s a b) else owners_in s a b) ++ owners_in s a after) n
      ∙ sym (owners_joined b after)
