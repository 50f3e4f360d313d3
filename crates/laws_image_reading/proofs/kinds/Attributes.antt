-- Rows of attributes name what may have them, and a method (ECMA-335 II.22.10).
use Rattle.std.proofs.Common.{◌≡◌, ap, refl, sym, ◌∙◌, subst, ℕ, ◌+◌, List, [], ◌∷◌, Some, None, Contains, arith}
use Rattle.std.specs.Prelude.{IsTrue, is_none, slice_get, slice_index}
use Rattle.std.specs.List.{AllByRecursion, range_with_len}
use Rattle.std.proofs.lemmas.Bool.{and_parts}
use Rattle.metadata_tables.specs.CodedIndex.{tag_of, unpacked}
use Rattle.metadata_tables.specs.declared.coded.Coded.{Coded}
use Rattle.metadata_tables.specs.declared.coded.Coded.TheVariants.{HasCustomAttribute, CustomAttributeType}
use Rattle.type_terms.specs.declared.reference.MethodRef.{MethodRef}
use Rattle.assembly_tree.specs.WellFormedMembers.{is_attribute}
use Rattle.assembly_tree.specs.WellFormedTerms.{is_method_ref, is_plain_ref}
use Rattle.assembly_tree.specs.declared.assembly.Assembly.{Assembly}
use Rattle.assembly_tree.specs.declared.members.Attribute.{Attribute}
use Rattle.body_codec.specs.Back.{NamesBack}
use Rattle.body_codec.specs.Names.{NameMap}
use Rattle.image_tokens.specs.Indexes.{IsToken, index_of}
use Rattle.image_tokens.specs.KnownTokens.{methods_apart}
use Rattle.image_tokens.specs.References.{HasGenericToken, of_declared, of_referred, IsMethodToken, plain, instance, AreKnown}
use Rattle.image_tokens.specs.declared.references.References.{References}
use Rattle.image_tokens.proofs.NameLemmas.{holds_of_found}
use Rattle.image_members.specs.ByNumber.{or_none, owned_in, owned_at, by_number}
use Rattle.image_members.specs.CodeBytes.{all_tokens}
use Rattle.image_members.specs.Lists.{longest_of, attribute_items, attribute_lists}
use Rattle.image_members.specs.declared.classes.Class.{Class}
use Rattle.image_model.specs.Columns.{attribute_parent, attribute_type}
use Rattle.image_model.specs.Faults.{Holds, attributes}
use Rattle.image_model.specs.Members.{attributed_tables, IsAttributed, HasConstructor}
use Rattle.image_model.specs.Rows.{HasRow}
use Rattle.laws_image_parts.specs.RowsRead.{ReadsOwned}
use Rattle.laws_image_parts.proofs.IndexLemmas.{index_names}
use Rattle.laws_writable_trees.proofs.Each.{each_flat, each_from, each_mapped}
use Rattle.laws_image_reading.proofs.kinds.General.{all_at}
use Rattle.laws_image_reading.proofs.kinds.Rows.{by_row, index_by_token, none_is}

-- ---- items by number have the indexes of rows of their tables

module _ {X : Type 0} (kind : Coded) (Q : ℕ → Type 0) where
  abbrev pub IsOwned : ℕ × X → Type 0
  IsOwned x = (table row : ℕ) × (x.0 ≡ index_of kind table row) × Q table

  in_table : (k table : ℕ) (lists : List (List X)) → Q table → AllByRecursion IsOwned (owned_in kind k (table, lists))
  in_table k table lists q = each_mapped IsOwned (λ (x : X). (index_of kind table (k + 1), x)) (or_none (slice_get lists k)) (always (or_none (slice_get lists k)))
    where
      always : (xs : List X) → AllByRecursion (λ (x : X). IsOwned (index_of kind table (k + 1), x)) xs
      always [] = tt
      always (x ∷ xs) = ((table, k + 1, refl, q), always xs)

  at_number : (tables : List (ℕ × List (List X))) → AllByRecursion (λ t. Q t.0) tables → (ks : List ℕ) → AllByRecursion (λ k. AllByRecursion IsOwned (owned_at kind tables k)) ks
  at_number tables h [] = tt
  at_number tables h (k ∷ ks) =
      (each_flat IsOwned (owned_in kind k) tables (each_from (λ t. Q t.0) (λ t. AllByRecursion IsOwned (owned_in kind k t)) (λ t q. in_table k t.0 t.1 q) tables h), at_number tables h ks)

  owned_each : (tables : List (ℕ × List (List X))) (count : ℕ) → AllByRecursion (λ t. Q t.0) tables → AllByRecursion IsOwned (by_number kind tables count)
  owned_each tables count h = each_flat IsOwned (owned_at kind tables) (range_with_len 0 count) (at_number tables h (range_with_len 0 count))

-- ---- parents

-- a table that may have attributes, with its tag
abbrev MayHave : ℕ → Type 0
MayHave table = Contains attributed_tables table × ((tag : ℕ) × (tag_of HasCustomAttribute table ≡ Some tag))

module _ (a : Assembly) (classes : List Class) where
  may_have : AllByRecursion (λ t. MayHave t.0) (attribute_lists a classes)
  unfolding tag_of
  may_have = (
    ((4, omega arith, refl), (0, refl)),
    (
      ((3, omega arith, refl), (1, refl)),
      (
        ((2, omega arith, refl), (3, refl)),
        (
          ((5, omega arith, refl), (4, refl)),
          (
            ((1, omega arith, refl), (7, refl)),
            (
              ((6, omega arith, refl), (9, refl)),
              (((7, omega arith, refl), (10, refl)), (((0, omega arith, refl), (14, refl)), (((8, omega arith, refl), (19, refl)), tt))),
            ),
          ),
        ),
      ),
    ),
  )

  owned : AllByRecursion (IsOwned {X = Attribute} HasCustomAttribute MayHave) (attribute_items a classes)
  owned = owned_each HasCustomAttribute MayHave (attribute_lists a classes) (longest_of (attribute_lists a classes)) may_have

-- ---- constructors

-- the token of a method without arguments is that of a row of MethodDef or MemberRef
pub record IsPlainToken (token : ℕ) : Type 0 where
  pub table : ℕ
  pub row : ℕ
  pub is : IsToken token table row
  pub tag : ℕ
  pub tag_is : tag_of CustomAttributeType table ≡ Some tag

generic_token : (r : References) (m : MethodRef) (token : ℕ) → HasGenericToken r m token → IsPlainToken token
unfolding tag_of
generic_token r m token (of_declared {row = row} o t member is) = record { table = 0x06; row = row; is = is; tag = 2; tag_is = refl }
generic_token r m token (of_referred {row = row} o member is) = record { table = 0x0A; row = row; is = is; tag = 3; tag_is = refl }

plain_token : (r : References) (m : MethodRef) (token : ℕ) → m.args ≡ None → IsMethodToken r m token → IsPlainToken token
plain_token r m token none (plain is h) = generic_token r m token h
plain_token r m token none (instance {args = args} some h at signature is) = absurd (let gone : None ≡ Some args = sym none ∙ some in cc)

pub constructor_plain : (a : Assembly) (x : Attribute) → IsTrue (is_attribute a x) → x.constructor.args ≡ None
unfolding is_attribute is_plain_ref
constructor_plain a x h = none_is x.constructor.args (and_parts (is_none x.constructor.args) (is_method_ref a x.constructor) h).0

-- ---- rows

module _ (a : Assembly) (classes : List Class) (r : References) (image : List ℕ) (known : AreKnown r) (rows : ReadsOwned a classes r image)
    (formed : AllByRecursion (λ x. IsTrue (is_attribute a x.1)) (attribute_items a classes)) (names : NameMap) (back : NamesBack (all_tokens r) names) where
  parent_named : (row : ℕ) → HasRow image 0x0C row → IsAttributed image row
  parent_named row there =
      by_row (IsAttributed image) image 0x0C row (attribute_items a classes) rows.attributes.count there
      (λ k x at.
      let own = rows.attributes.each k x at in
      let its = all_at (IsOwned {X = Attribute} HasCustomAttribute MayHave) (attribute_items a classes) k x (owned a classes) at in
      let cell : attribute_parent image (1 + k) ≡ index_of HasCustomAttribute its.0 its.1 = ap (λ (cs : List ℕ). slice_index cs 0) own.are ∙ its.2 in (
        its.0,
        its.1,
        subst (λ v. unpacked HasCustomAttribute v ≡ Some (its.0, its.1)) (sym cell) (index_names HasCustomAttribute its.0 its.1 its.3.1.0 its.3.1.1),
        its.3.0,
      ))

  constructor_named : (row : ℕ) → HasRow image 0x0C row → HasConstructor image names row
  constructor_named row there =
      by_row (HasConstructor image names) image 0x0C row (attribute_items a classes) rows.attributes.count there
      (λ k x at.
      let own = rows.attributes.each k x at in
      let m = x.1.constructor in
      let none = constructor_plain a x.1 (all_at (λ (y : ℕ × Attribute). IsTrue (is_attribute a y.1)) (attribute_items a classes) k x formed at) in
      let given : IsMethodToken r m own.token = holds_of_found methods_apart (λ e. IsMethodToken r e.0 e.1) r.known.methods m own.token known.methods own.token_is in
      let t = plain_token r m own.token none given in
      let cell : attribute_type image (1 + k) ≡ index_of CustomAttributeType t.table t.row =
      ap (λ (cs : List ℕ). slice_index cs 1) own.are ∙ index_by_token CustomAttributeType own.token t.table t.row t.is in (
        t.table,
        t.row,
        m,
        subst (λ v. unpacked CustomAttributeType v ≡ Some (t.table, t.row)) (sym cell) (index_names CustomAttributeType t.table t.row t.tag t.tag_is),
        subst (λ v. names.methods v ≡ Some m) t.is.is (back.methods m own.token own.token_is),
      ))

  pub attributes_meet : Holds image names attributes
  attributes_meet = λ table row. record { parent = λ is there. parent_named row there; constructor = λ is there. constructor_named row there }
