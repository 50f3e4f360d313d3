-- The tokens of an image name one thing each.
use Rattle.std.proofs.Common.{◌≡◌, ℕ, ◌↔◌, Option, Some, sym, subst}
use Rattle.image_model.specs.Naming.{NamesMethod, NamesField, NamesLocals}
use Rattle.image_model.specs.ReadLaws.{OneNaming}
use Rattle.image_model.proofs.OneOwners.{same_option, one_owners}

-- maps that are told by one relation are one
one_map : {X : Type 0} (Told : ℕ → X → Type 0) (f g : ℕ → Option X) → ((t : ℕ) (x : X) → (f t ≡ Some x) ↔ Told t x) → ((t : ℕ) (x : X) → (g t ≡ Some x) ↔ Told t x)
    → (t : ℕ) → f t ≡ g t
one_map Told f g h k t = same_option (f t) (g t) (λ x e. (k t x).1 ((h t x).0 e)) (λ x e. (h t x).1 ((k t x).0 e))

pub one_naming : OneNaming
one_naming image names others h k =
    let p = one_owners image names.owners others.owners h.owners k.owners in
    let m : (t : ℕ) (x : _) → (others.methods t ≡ Some x) ↔ NamesMethod image names.owners t x = subst (λ o. (t : ℕ) (x : _) → (others.methods t ≡ Some x) ↔ NamesMethod image o t x) (sym p) k.methods in
    let f : (t : ℕ) (x : _) → (others.fields t ≡ Some x) ↔ NamesField image names.owners t x = subst (λ o. (t : ℕ) (x : _) → (others.fields t ≡ Some x) ↔ NamesField image o t x) (sym p) k.fields in
    let l : (t : ℕ) (x : _) → (others.locals t ≡ Some x) ↔ NamesLocals image names.owners t x = subst (λ o. (t : ℕ) (x : _) → (others.locals t ≡ Some x) ↔ NamesLocals image o t x) (sym p) k.locals in
    let pm = one_map (NamesMethod image names.owners) names.methods others.methods h.methods m in
    let pf = one_map (NamesField image names.owners) names.fields others.fields h.fields f in
    let pl = one_map (NamesLocals image names.owners) names.locals others.locals h.locals l in
    let pt = one_map _ names.texts others.texts h.texts k.texts in
    λ i. record { owners = p i; methods = λ t. pm t i; fields = λ t. pf t i; locals = λ t. pl t i; texts = λ t. pt t i }
