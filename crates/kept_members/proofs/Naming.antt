-- What rows of methods and fields name, by what is kept.
use Rattle.std.proofs.Common.{◌≡◌, ℕ, zero, suc, ◌+◌, ◌-◌, ◌<◌, ◌≤◌, ◌^◌, inl, inr, Bool, true, false, ◌||◌, nat_eq, List, [], ◌∷◌, length, Option, Some, refl, sym, ◌∙◌, ap, subst, arith, true≢false}
use Rattle.std.specs.Prelude.{◌==◌, if◌then◌else◌, Contains, slice_index_or}
use Rattle.std.specs.List.{range_with_len}
use Rattle.std.proofs.lemmas.Bool.{cases_lt}
use Rattle.heaps.specs.Content.{HasText, HasBlob}
use Rattle.metadata_tables.specs.declared.coded.Coded.{Coded}
use Rattle.metadata_tables.specs.declared.coded.Coded.TheVariants.{MemberRefParent, MethodDefOrRef}
use Rattle.sig_codec.specs.Signature.{method_byte, IsMethod, IsField, IsInstantiation}
use Rattle.type_terms.specs.declared.name.TypeId.{TypeId}
use Rattle.type_terms.specs.declared.reference.MethodRef.{MethodRef}
use Rattle.type_terms.specs.declared.reference.MethodSig.{MethodSig}
use Rattle.type_terms.specs.declared.term.Owner.{Owner}
use Rattle.type_terms.specs.declared.term.SigType.{SigType}
use Rattle.image_model.specs.Columns.{field_name, field_signature, instance_method, instance_arguments}
use Rattle.image_model.specs.Naming.{HasPath, here, IsToken, OwnsMethod, RowOwner, NamesMethod, NamesField}
use Rattle.image_model.specs.Rows.{HasRow, Names, token_of, methods_of, fields_of}
use Rattle.image_model.specs.Streams.{strings_of, blobs_of}
use Rattle.image_model.specs.Used.{IsReference, IsUsed}
use Rattle.kept_names.specs.declared.names.KeptNames.{KeptNames}
use Rattle.row_demands.specs.Members.{run_of}
use Rattle.row_parts.proofs.OwnedRows.{Among, among_range}
use Rattle.kept_members.specs.Maps.{Has, Adds}
use Rattle.kept_members.specs.Members.{IsKeptOwner, IsKnownParent, IsMethodRow, OwnsField, IsInUse, HasMethods, HasMemberMethods}
use Rattle.kept_members.proofs.Adding.{some_same}

-- ---- lists

at_index : (x : ℕ) (xs : List ℕ) (k : ℕ) → k < length xs → slice_index_or xs k x ≡ x → Among x xs
at_index x [] k less e = absurd (omega (arith, less))
at_index x (y ∷ ys) zero less e = inl e
at_index x (y ∷ ys) (suc k) less e = inr (at_index x ys k (omega (arith, less)) e)

to_among : (x : ℕ) (xs : List ℕ) → Contains xs x → Among x xs
to_among x xs h = at_index x xs h.0 h.1 h.2

-- ---- tokens

pub table_is : (token table row : ℕ) → IsToken token table row → (other r : ℕ) → IsToken token other r → table ≡ other
table_is token table row t other r u = let e = t.is in let f = t.fits in let g = u.is in let h = u.fits in omega (arith, e, f, g, h)

pub row_is : (token table row : ℕ) → IsToken token table row → (other r : ℕ) → IsToken token other r → row ≡ r
row_is token table row t other r u = let e = t.is in let f = t.fits in let g = u.is in let h = u.fits in omega (arith, e, f, g, h)

pub token : (table row : ℕ) → row < 2 ^ 24 → IsToken (token_of table row) table row
token table row few = record { is = refl; fits = few }

-- the tables of references
abbrev pub is_reference : ℕ → Bool
is_reference t = nat_eq t 0x01 || (nat_eq t 0x0A || (nat_eq t 0x11 || (nat_eq t 0x1B || nat_eq t 0x2B)))

reference_test : (t : ℕ) → IsReference t → is_reference t ≡ true
reference_test t (inl e) = subst (λ (x : ℕ). is_reference x ≡ true) (sym e) refl
reference_test t (inr (inl e)) = subst (λ (x : ℕ). is_reference x ≡ true) (sym e) refl
reference_test t (inr (inr (inl e))) = subst (λ (x : ℕ). is_reference x ≡ true) (sym e) refl
reference_test t (inr (inr (inr (inl e)))) = subst (λ (x : ℕ). is_reference x ≡ true) (sym e) refl
reference_test t (inr (inr (inr (inr e)))) = subst (λ (x : ℕ). is_reference x ≡ true) (sym e) refl

pub no_reference : (t : ℕ) → is_reference t ≡ false → IsReference t → ⊥
no_reference t e r = true≢false (sym (reference_test t r) ∙ e)

-- a row of a table that is none of references
pub declared : (image : List ℕ) (table row : ℕ) → row < 2 ^ 24 → (IsReference table → ⊥) → IsInUse image (token_of table row)
declared image table row few plain = record { table = table; row = row; is = token table row few; used = λ r. absurd (plain r) }

pub in_use : (image : List ℕ) (table row : ℕ) → row < 2 ^ 24 → IsUsed image table row → IsInUse image (token_of table row)
in_use image table row few used = record { table = table; row = row; is = token table row few; used = λ r. used }

-- a row in use is there
pub used_there : {image : List ℕ} {table row : ℕ} → IsUsed image table row → HasRow image table row
used_there (IsUsed.by_row plain from names is there) = there
used_there (IsUsed.by_reference from names is there) = there
used_there (IsUsed.by_body from names token is there) = there

-- ---- runs

pub methods_are : (image : List ℕ) (type : ℕ) → methods_of image type ≡ run_of image 0x02 5 0x06 type
unfolding methods_of
methods_are image type = refl

pub fields_are : (image : List ℕ) (type : ℕ) → fields_of image type ≡ run_of image 0x02 4 0x04 type
unfolding fields_of
fields_are image type = refl

-- ---- members of the first so many types

abbrev pub OfTypes : {X : Type 0} → List ℕ → (List ℕ → ℕ → List ℕ) → (table count : ℕ) → (ℕ → Option X) → Type 0
OfTypes image members table count all = (type row : ℕ) → HasRow image 0x02 type → type ≤ count → Contains (members image type) row → Has all (token_of table row)

pub of_none : {X : Type 0} (image : List ℕ) (members : List ℕ → ℕ → List ℕ) (table : ℕ) (all : ℕ → Option X) → OfTypes image members table 0 all
of_none image members table all type row there upto has = absurd (let some = there.0 in omega (arith, some, upto))

pub of_more : {X : Type 0} (Is : ℕ → X → Type 0) (image : List ℕ) (members : List ℕ → ℕ → List ℕ) (table count : ℕ) (old new : ℕ → Option X) → OfTypes image members table count old → Adds Is old new
    → ((row : ℕ) → Contains (members image (count + 1)) row → Has new (token_of table row)) → OfTypes image members table (count + 1) new
of_more Is image members table count old new h adds last type row there upto has = elim (cases_lt type (count + 1)) [
  | inl less ↦ adds.stays (token_of table row) (h type row there (omega (arith, less)) has)
  | inr at ↦
      let same : count + 1 ≡ type = omega (arith, at, upto) in
      last row (subst (λ (t : ℕ). Contains (members image t) row) (sym same) has)
]

-- ---- owners

pub owns_method : (image : List ℕ) (owner : Owner) (method type : ℕ) (path : List TypeId) → HasRow image 0x02 type → Contains (methods_of image type) method → HasPath image type path → here path ≡ owner → OwnsMethod image method owner
owns_method image owner method type path there has leads e = subst (OwnsMethod image method) e (OwnsMethod.owns there has leads)

pub owns_field : (image : List ℕ) (owner : Owner) (field type : ℕ) (path : List TypeId) → HasRow image 0x02 type → Contains (fields_of image type) field → HasPath image type path → here path ≡ owner → OwnsField image field owner
owns_field image owner field type path there has leads e = subst (OwnsField image field) e (OwnsField.owns there has leads)

-- ---- rows that stand side by side

pub of_run : (first count row : ℕ) (P : ℕ → Type 0) → ((k : ℕ) → k < count → P (first + k)) → Contains (range_with_len first count) row → P row
of_run first count row P h has =
    let m = among_range row first count (to_among row (range_with_len first count) has) in
    let same : first + (row - first) ≡ row = omega (arith, m.0) in
    subst P same (h (row - first) (omega (arith, m.0, m.1)))

-- ---- what rows name

pub field_named : (image : List ℕ) (owners : ℕ → Option Owner) {name bytes : List ℕ} (field : ℕ) {k : ℕ} {owner : Owner} {of : SigType} → OwnsField image field owner → IsToken k 0x04 field
    → HasText (strings_of image) (field_name image field) name → HasBlob (blobs_of image) (field_signature image field) bytes → IsField owners bytes of → NamesField image owners k (record { owner = owner; name = name; of = of })
field_named image owners field (OwnsField.owns there has path) t text blob is = NamesField.defined t there has path text blob is

-- the type of a method
pub method_owner : {image : List ℕ} {owners : ℕ → Option Owner} {k : ℕ} {m : MethodRef} (row : ℕ) → NamesMethod image owners k m → IsToken k 0x06 row → OwnsMethod image row m.owner
method_owner {image = image} {k = k} row (NamesMethod.defined {method = method} {owner = owner} t there belongs text blob is) u = subst (λ (r : ℕ). OwnsMethod image r owner) (row_is k 0x06 method t 0x06 row u) belongs
method_owner {k = k} row (NamesMethod.referred {row = at} t there belongs text blob is) u = absurd (let e = table_is k 0x0A at t 0x06 row u in omega (arith, e))
method_owner {k = k} row (NamesMethod.instantiated {row = at} t there n of blob is) u = absurd (let e = table_is k 0x2B at t 0x06 row u in omega (arith, e))

-- a type isn't a row of methods
pub no_type_row : {image : List ℕ} {owners : ℕ → Option Owner} {table row : ℕ} {o : Owner} → RowOwner image owners table row o → table ≡ 0x06 → ⊥
no_type_row (RowOwner.defined e there path) f = absurd (omega (arith, e, f))
no_type_row (RowOwner.referred e there path) f = absurd (omega (arith, e, f))
no_type_row (RowOwner.specified e there blob is) f = absurd (omega (arith, e, f))

-- an index names one row
abbrev pair : ℕ → ℕ → ℕ × ℕ
pair a b = (a, b)

pub names_one : (kind : Coded) (value t r u s : ℕ) → Names kind value t r → Names kind value u s → (t ≡ u) × (r ≡ s)
names_one kind value t r u s h k =
    let e = some_same (pair t r) (pair u s) (sym h ∙ k) in
    (ap (λ (p : ℕ × ℕ). p.0) e, ap (λ (p : ℕ × ℕ). p.1) e)

-- the parent of a reference is known, by the index that names it
pub parent_known : (image : List ℕ) (known : KeptNames) (value table row : ℕ) → Names MemberRefParent value table row → ((t p : ℕ) × Names MemberRefParent value t p × IsKnownParent image known t p) → IsKnownParent image known table row
parent_known image known value table row n h =
    let e = names_one MemberRefParent value h.0 h.1 table row h.2 n in
    subst (λ (r : ℕ). IsKnownParent image known table r) e.1 (subst (λ (t : ℕ). IsKnownParent image known t h.1) e.0 h.3)

pub method_parent : (image : List ℕ) (known : KeptNames) (table row : ℕ) → table ≡ 0x06 → IsKnownParent image known table row → HasRow image 0x06 row
method_parent image known table row e (inl m) = m.1
method_parent image known table row e (inr t) = absurd (no_type_row t.1.1 e)

pub type_parent : (image : List ℕ) (known : KeptNames) (table row : ℕ) → (table ≡ 0x06 → ⊥) → IsKnownParent image known table row → (owner : Owner) × IsKeptOwner image known table row owner
type_parent image known table row other (inl m) = absurd (other m.0)
type_parent image known table row other (inr t) = t

-- the method of an instance, by the index that names it
pub instance_row : (image : List ℕ) (known : KeptNames) (value table row : ℕ) → Names MethodDefOrRef value table row → ((t m : ℕ) × Names MethodDefOrRef value t m × IsMethodRow image known t m) → IsMethodRow image known table row
instance_row image known value table row n h =
    let e = names_one MethodDefOrRef value h.0 h.1 table row h.2 n in
    subst (λ (r : ℕ). IsMethodRow image known table r) e.1 (subst (λ (t : ℕ). IsMethodRow image known t h.1) e.0 h.3)

pub method_kept : (image : List ℕ) (known : KeptNames) (methods : ℕ → Option MethodRef) (table row : ℕ) → HasMethods image methods → HasMemberMethods image known methods → IsMethodRow image known table row → Has methods (token_of table row)
method_kept image known methods table row has members (inl m) = subst (λ (t : ℕ). Has methods (token_of t row)) (sym m.0) (has row m.1)
method_kept image known methods table row has members (inr m) = subst (λ (t : ℕ). Has methods (token_of t row)) (sym m.0) (members row m.1)

-- ---- a signature is a method's or a field's

first_bytes : (a b c d : Bool) → (if a then 0x05 else 0x00) + (if b then 0x20 else 0x00) + (if c then 0x40 else 0x00) + (if d then 0x00 else 0x10) ≡ 0x06 → ⊥
first_bytes true true true true e = omega arith
first_bytes true true true false e = omega arith
first_bytes true true false true e = omega arith
first_bytes true true false false e = omega arith
first_bytes true false true true e = omega arith
first_bytes true false true false e = omega arith
first_bytes true false false true e = omega arith
first_bytes true false false false e = omega arith
first_bytes false true true true e = omega arith
first_bytes false true true false e = omega arith
first_bytes false true false true e = omega arith
first_bytes false true false false e = omega arith
first_bytes false false true true e = omega arith
first_bytes false false true false e = omega arith
first_bytes false false false true e = omega arith
first_bytes false false false false e = omega arith

head_is : (x y : ℕ) (xs ys : List ℕ) → ◌≡◌ {A = List ℕ} (x ∷ xs) (y ∷ ys) → x ≡ y
head_is x y xs ys e = cc

pub no_field : (owners : ℕ → Option Owner) (bytes : List ℕ) (s : MethodSig) (t : SigType) → IsMethod owners bytes s → IsField owners bytes t → ⊥
no_field owners bytes s t h k =
    first_bytes s.vararg s.has_this s.explicit_this (s.generic == 0) (head_is (method_byte s) 0x06 _ k.0.0 (sym h.0.whole ∙ k.0.1))

-- ---- instances

pub instantiated : (image : List ℕ) (owners : ℕ → Option Owner) (row table method : ℕ) {generic : MethodRef} {bytes : List ℕ} {args : List SigType} → row < 2 ^ 24 → HasRow image 0x2B row → Names MethodDefOrRef (instance_method image row) table method
    → NamesMethod image owners (token_of table method) generic → HasBlob (blobs_of image) (instance_arguments image row) bytes → IsInstantiation owners bytes args
    → (owner : Owner) (name : List ℕ) (sig : MethodSig) → owner ≡ generic.owner → name ≡ generic.name → sig ≡ generic.sig → NamesMethod image owners (token_of 0x2B row) (record { owner = owner; name = name; sig = sig; args = Some args })
instantiated image owners row table method {generic = generic} {args = args} few there n of blob is owner name sig o e s =
    let h = NamesMethod.instantiated (token 0x2B row few) there n of blob is in
    subst (λ (x : Owner). NamesMethod image owners (token_of 0x2B row) (record { owner = x; name = name; sig = sig; args = Some args })) (sym o)
    (subst (λ (x : List ℕ). NamesMethod image owners (token_of 0x2B row) (record { owner = generic.owner; name = x; sig = sig; args = Some args })) (sym e)
    (subst (λ (x : MethodSig). NamesMethod image owners (token_of 0x2B row) (record { owner = generic.owner; name = generic.name; sig = x; args = Some args })) (sym s) h))
