-- What can't stand in the parts of a reference, its last token, and owners by their cases.
use Rattle.std.proofs.Common.{◌≡◌, ℕ, nat_eq, true, List, [], ◌∷◌, ◌++◌, length, refl, ap, sym, subst, ◌∙◌, append-nil}
use Rattle.std.proofs.lemmas.Bool.{and_parts, eqb-true, false≢true}
use Rattle.std.specs.Prelude.{codes}
use lib.Pointwise.{pointwise}
use Rattle.ilasm_grammar.specs.Ilasm.{ilasm, rule_by, has_bit}
use Rattle.ilasm_grammar.specs.declared.productions.TheConstants as p
use Rattle.type_terms.specs.declared.name.TypeId.{TypeId}
use Rattle.type_terms.specs.declared.name.TypeName.{TypeName}
use Rattle.type_terms.specs.declared.term.Owner.{Owner, roll-Owner}
use Rattle.type_terms.specs.declared.term.Owner.TheVariants as o
use Rattle.type_terms.specs.declared.term.Owner.TheOpen as layer
use Rattle.type_terms.specs.declared.term.SigType.{SigType}
use Rattle.type_terms.proofs.Layers.{OwnerWith, TypeWith, owner_values, owner_by_layers}
use Rattle.assembly_tree.specs.WellFormedNames.{is_module}
use Rattle.source_model.specs.Forest as f
use Rattle.source_model.specs.Names.{module_id}
use Rattle.listing_model.specs.Grown.{body_of}
use Rattle.listing_reading.specs.Below.{below, cant_stand}
use Rattle.listing_reading.specs.BelowMasks.{below_masks}

-- ---- what can't stand

pub typed_outside_types : cant_stand (p.FIELD_TARGET_TYPE ∷ []) (body_of p.TYPE) ≡ true
unfolding ilasm rule_by has_bit below below_masks
typed_outside_types = refl

pub scoped_outside_types : cant_stand (p.FIELD_TARGET_SCOPE ∷ []) (body_of p.TYPE) ≡ true
unfolding ilasm rule_by has_bit below below_masks
scoped_outside_types = refl

pub typed_outside_scoped : cant_stand (p.FIELD_TARGET_TYPE ∷ []) (body_of p.FIELD_TARGET_SCOPE) ≡ true
unfolding ilasm rule_by has_bit below below_masks
typed_outside_scoped = refl

pub typed_outside_named : cant_stand (p.FIELD_TARGET_TYPE ∷ []) (body_of p.FIELD_TARGET_NAME) ≡ true
unfolding ilasm rule_by has_bit below below_masks
typed_outside_named = refl

pub scoped_outside_named : cant_stand (p.FIELD_TARGET_SCOPE ∷ []) (body_of p.FIELD_TARGET_NAME) ≡ true
unfolding ilasm rule_by has_bit below below_masks
scoped_outside_named = refl

-- ---- last tokens

-- the trees end with this token, whatever stands before them
abbrev pub Ends : f.Forest → ℕ → Type 0
Ends g k = (d : ℕ) → f.last_of d (f.tokens_of g) ≡ k

ends_behind : (g : f.Forest) (k : ℕ) → Ends g k → (ks : List ℕ) (d : ℕ) → f.last_of d (ks ++ f.tokens_of g) ≡ k
ends_behind g k h [] d = h d
ends_behind g k h (x ∷ xs) d = ends_behind g k h xs x

pub leaf_ends : (k : ℕ) → Ends (f.leaf k f.none) k
leaf_ends k d = refl

pub after_leaf : (k j : ℕ) (g : f.Forest) → Ends g k → Ends (f.leaf j g) k
after_leaf k j g h d = h j

pub after_branch : (k q : ℕ) (under g : f.Forest) → Ends g k → Ends (f.branch q under g) k
after_branch k q under g h d = ends_behind g k h (f.tokens_of under) d

pub in_branch : (k q : ℕ) (under : f.Forest) → Ends under k → Ends (f.branch q under f.none) k
in_branch k q under h d = ap (f.last_of d) (append-nil (f.tokens_of under)) ∙ h d

-- ---- owners

pub owner_cases : (P : Owner → Type 0) → ((n : TypeName) → P (o.Name n)) → ((u : SigType) → P (o.Spec u)) → (x : Owner) → P x
owner_cases P named typed = owner_by_layers P (λ (u : SigType). Unit {0}) made (λ l. tt)
  where
    made : (l : layer.Owner-F (OwnerWith P (λ (u : SigType). Unit {0})) (TypeWith P (λ (u : SigType). Unit {0}))) →
        P (roll-Owner (owner_values P (λ (u : SigType). Unit {0}) l))
    made (layer.Name n) = subst P (sym (o.rolls-Name n)) (named n)
    made (layer.Spec x) = subst P (sym (o.rolls-Spec x.0)) (typed x.0)

-- the type that holds what is declared outside of any class, by its name
same_text : (a b : List ℕ) → pointwise nat_eq a b ≡ true → a ≡ b
same_text [] [] h = refl
same_text [] (y ∷ b) h = absurd (false≢true h)
same_text (x ∷ a) [] h = absurd (false≢true h)
same_text (x ∷ a) (y ∷ b) h =
    let hs = and_parts (nat_eq x y) (pointwise nat_eq a b) h in
    ap (λ z. z ∷ a) (eqb-true x y hs.0) ∙ ap (λ zs. y ∷ zs) (same_text a b hs.1)

no_bytes : (text : List ℕ) → nat_eq (length text) 0 ≡ true → text ≡ []
no_bytes [] h = refl
no_bytes (x ∷ xs) h = let zero_is = eqb-true (length (x ∷ xs)) 0 h in absurd cc

pub module_is : (id : TypeId) → is_module id ≡ true → module_id ≡ id
module_is id h =
    let hs = and_parts (nat_eq (length id.space) 0) (pointwise nat_eq id.name (codes "<Module>")) h in
    sym ((λ i. record { space = no_bytes id.space hs.0 i; name = same_text id.name (codes "<Module>") hs.1 i }))
