-- What an index names is kept.
use Rattle.std.proofs.Common.{◌≡◌, ℕ, inl, inr, List, Option, Some, None, Result, Ok, Err, sym, ◌∙◌, ap, subst}
use Rattle.metadata_tables.specs.declared.coded.Coded.{Coded}
use Rattle.metadata_tables.specs.declared.coded.Coded.TheVariants.{TypeDefOrRef}
use Rattle.type_terms.specs.declared.reference.MethodRef.{MethodRef}
use Rattle.type_terms.specs.declared.term.Owner.{Owner}
use Rattle.assembly_tree.specs.declared.body.Body.{Body}
use Rattle.body_codec.specs.declared.fault.BodyFault.{BodyFault}
use Rattle.body_codec.specs.declared.fault.BodyFault.TheVariants as faults
use Rattle.body_codec.specs.Faults.{Answers}
use Rattle.image_model.specs.Rows.{Names, token_of}
use Rattle.image_model.specs.Naming.{RowOwner}
use Rattle.image_model.specs.Reading.{OwnerIs}
use Rattle.image_source.specs.Names.{names_of, owner_of_row}
use Rattle.image_source.specs.Ready.{HasKeptOwner, KeepsOwner, HasKeptMethod}
use Rattle.kept_names.specs.declared.names.KeptNames.{KeptNames}

abbrev value_or : {X : Type 0} → X → Option X → X
value_or d None = d
value_or d (Some x) = x

pub some_same : {X : Type 0} (x y : X) → Some x ≡ Some y → x ≡ y
some_same x y s = ap (value_or x) s

abbrev pair : ℕ → ℕ → ℕ × ℕ
pair a b = (a, b)

-- an index names one row
names_one : (kind : Coded) (value t r u s : ℕ) → Names kind value t r → Names kind value u s → (t ≡ u) × (r ≡ s)
names_one kind value t r u s h k =
    let e = some_same (pair t r) (pair u s) (sym h ∙ k) in
    (ap (λ (p : ℕ × ℕ). p.0) e, ap (λ (p : ℕ × ℕ). p.1) e)

-- the type of the row that an index names
pub owner_kept : (image : List ℕ) (kept : KeptNames) (value table row : ℕ) → Names TypeDefOrRef value table row → HasKeptOwner image kept value
    → (o : Owner) × (owner_of_row kept table row ≡ Some o) × RowOwner image (names_of kept).owners table row o
owner_kept image kept value table row n h =
    let e = names_one TypeDefOrRef value h.1.0 h.1.1 table row h.1.2 n in (
      h.0,
      subst (λ (r : ℕ). owner_of_row kept table r ≡ Some h.0) e.1 (subst (λ (t : ℕ). owner_of_row kept t h.1.1 ≡ Some h.0) e.0 h.1.3),
      subst (λ (r : ℕ). RowOwner image (names_of kept).owners table r h.0) e.1 (subst (λ (t : ℕ). RowOwner image (names_of kept).owners t h.1.1 h.0) e.0 h.1.4),
    )

pub method_kept : (kept : KeptNames) (kind : Coded) (value table row : ℕ) → Names kind value table row → HasKeptMethod kept kind value
    → (m : MethodRef) × ((names_of kept).methods (token_of table row) ≡ Some m)
method_kept kept kind value table row n h =
    let e = names_one kind value h.1.0 h.1.1 table row h.1.2 n in
    (h.0, subst (λ (r : ℕ). (names_of kept).methods (token_of table r) ≡ Some h.0) e.1 (subst (λ (t : ℕ). (names_of kept).methods (token_of t h.1.1) ≡ Some h.0) e.0 h.1.3))

-- what a row is kept as, where it is kept as something
pub owner_is : (image : List ℕ) (kept : KeptNames) (value table row : ℕ) (o : Owner) → Names TypeDefOrRef value table row → HasKeptOwner image kept value → owner_of_row kept table row ≡ Some o → KeepsOwner image kept value o
owner_is image kept value table row o n h e =
    let k = owner_kept image kept value table row n h in
    let same : k.0 ≡ o = some_same k.0 o (sym k.1 ∙ e) in
    (table, row, n, e, subst (λ (p : Owner). RowOwner image (names_of kept).owners table row p) same k.2)

-- a type and a method that are kept are what the index names
pub owner_named : (image : List ℕ) (kept : KeptNames) (value : ℕ) (o : Owner) → KeepsOwner image kept value o → OwnerIs image (names_of kept) value o
owner_named image kept value o k = (k.0, k.1, k.2, k.4)

abbrev err_or : BodyFault → Result (Body × ℕ) BodyFault → BodyFault
err_or d (Ok x) = d
err_or d (Err e) = e

-- a body that is there is read, unless there is no memory
pub no_fault : (fault : BodyFault) (body : Body) (size : ℕ) → (fault ≡ faults.NoMemory → ⊥) → Answers {X = Body × ℕ} (Err fault) (Ok (body, size)) → ⊥
no_fault fault body size other (inl e) = absurd cc
no_fault fault body size other (inr e) = other (ap (err_or fault) e)
