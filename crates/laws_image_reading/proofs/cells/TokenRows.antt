-- The rows that tokens of types and of methods name, as coded indexes, and what rows own by number.
use Rattle.std.proofs.Common.{◌≡◌, ◌⊎◌, inl, inr, refl, sym, ◌∙◌, ap, ℕ, ◌+◌, ◌/◌, ◌%◌, ◌^◌, ◌<◌, List, Option, Some, None, arith}
use Rattle.std.specs.Prelude.{slice_get}
use Rattle.std.specs.List.{AllByRecursion, range_with_len}
use Rattle.heaps.specs.Heap.{Heap}
use Rattle.metadata_tables.specs.CodedIndex.{tag_of}
use Rattle.metadata_tables.specs.declared.coded.Coded.{Coded}
use Rattle.metadata_tables.specs.declared.coded.Coded.TheVariants.{TypeDefOrRef, MemberRefParent, MethodDefOrRef, CustomAttributeType}
use Rattle.type_terms.specs.declared.name.TypeId.{TypeId}
use Rattle.type_terms.specs.declared.name.TypeName.{TypeName}
use Rattle.type_terms.specs.declared.reference.MethodRef.{MethodRef}
use Rattle.type_terms.specs.declared.term.Owner.{Owner, out-Owner}
use Rattle.type_terms.specs.declared.term.Owner.TheOpen.{Owner-F, Name, Spec}
use Rattle.type_terms.specs.declared.term.SigType.{SigType}
use Rattle.laws_image_indexes.proofs.EachLemmas.{each_mapped, each_all, each_flat}
use Rattle.image_tokens.specs.Indexes.{IsToken, index_of, index_of_token}
use Rattle.image_tokens.specs.KnownTokens.{names_apart, types_apart, methods_apart, layer_token}
use Rattle.image_tokens.specs.Members.{HasMethod}
use Rattle.image_tokens.specs.NameTokens as names
use Rattle.image_tokens.specs.NameTokens.{HasNameToken}
use Rattle.image_tokens.specs.References.{tokens_of, IsSpecToken, of_declared, of_referred, HasGenericToken, IsMethodToken, plain, instance, AreKnown}
use Rattle.image_tokens.specs.TypePaths.{Follows, last, on}
use Rattle.image_tokens.specs.declared.references.References.{References}
use Rattle.image_tokens.specs.declared.row_set.Cells.{Cells}
use Rattle.image_tokens.proofs.NameLemmas.{holds_of_found}
use Rattle.image_members.specs.ByNumber.{or_none, owned_in, owned_at, by_number}
use Rattle.laws_image_reading.proofs.cells.CellLemmas.{Points}

-- ---- tokens

-- a token names a row, counted from 1, of one of some tables
pub record NamesRow (Among : ℕ → Type 0) (token : ℕ) : Type 0 where
  pub table : ℕ
  pub row : ℕ
  pub is : IsToken token table row
  pub some : 0 < row
  pub among : Among table

-- the tables of types, and those of methods without arguments
abbrev pub OfTypes : ℕ → Type 0
OfTypes table = (table ≡ 0x02) ⊎ ((table ≡ 0x01) ⊎ (table ≡ 0x1B))

abbrev pub OfMethods : ℕ → Type 0
OfMethods table = (table ≡ 0x06) ⊎ (table ≡ 0x0A)

-- the index of a row with a token
pub index_points : (kind : Coded) (Among : ℕ → Type 0) → ((table : ℕ) → Among table → (tag : ℕ) × (tag_of kind table ≡ Some tag))
    → (token index : ℕ) → NamesRow Among token → index ≡ index_of_token kind token → Points kind index
index_points kind Among tags token index n e =
    let is = n.is.is in
    let fits = n.is.fits in
    let table : token / 2 ^ 24 ≡ n.table = omega arith in
    let row : token % 2 ^ 24 ≡ n.row = omega arith in
    let tag = tags n.table n.among in
    record {
      table = n.table;
      row = n.row;
      tag = tag.0;
      tagged = tag.1;
      is = e ∙ ap (λ t. index_of kind t (token % 2 ^ 24)) table ∙ ap (index_of kind n.table) row;
      some = n.some;
    }

type_tag : (table : ℕ) → OfTypes table → (tag : ℕ) × (tag_of TypeDefOrRef table ≡ Some tag)
unfolding tag_of
type_tag table (inl e) = (0, ap (tag_of TypeDefOrRef) e)
type_tag table (inr (inl e)) = (1, ap (tag_of TypeDefOrRef) e)
type_tag table (inr (inr e)) = (2, ap (tag_of TypeDefOrRef) e)

parent_tag : (table : ℕ) → OfTypes table → (tag : ℕ) × (tag_of MemberRefParent table ≡ Some tag)
unfolding tag_of
parent_tag table (inl e) = (0, ap (tag_of MemberRefParent) e)
parent_tag table (inr (inl e)) = (1, ap (tag_of MemberRefParent) e)
parent_tag table (inr (inr e)) = (4, ap (tag_of MemberRefParent) e)

method_tag : (table : ℕ) → OfMethods table → (tag : ℕ) × (tag_of MethodDefOrRef table ≡ Some tag)
unfolding tag_of
method_tag table (inl e) = (0, ap (tag_of MethodDefOrRef) e)
method_tag table (inr e) = (1, ap (tag_of MethodDefOrRef) e)

constructor_tag : (table : ℕ) → OfMethods table → (tag : ℕ) × (tag_of CustomAttributeType table ≡ Some tag)
unfolding tag_of
constructor_tag table (inl e) = (2, ap (tag_of CustomAttributeType) e)
constructor_tag table (inr e) = (3, ap (tag_of CustomAttributeType) e)

-- ---- rows of tokens

followed : (strings : Heap) (rows : List Cells) (inner : ℕ → ℕ) (scope end : ℕ) (path : List TypeId) → Follows strings rows inner scope path end → 0 < end
followed strings rows inner scope end path (last t is) = t.at.counted
followed strings rows inner scope end path (on {row = row} {rest = rest} t is f) = followed strings rows inner (inner row) end rest f

module _ (r : References) (known : AreKnown r) where
  name_row : (name : TypeName) (token : ℕ) → HasNameToken r.heaps.strings r.declared.types r.referred.names name token → NamesRow OfTypes token
  name_row name token (names.of_declared {row = row} here f is) =
      record { table = 0x02; row = row; is = is; some = followed r.heaps.strings r.declared.types _ 0 row name.path f; among = inl refl }
  name_row name token (names.of_referred {number = number} {row = row} scope f is) =
      record { table = 0x01; row = row; is = is; some = followed r.heaps.strings r.referred.names _ _ row name.path f; among = inr (inl refl) }

  layer_row : (l : Owner-F Owner SigType) (token : ℕ) → layer_token r.known.names r.known.specs l ≡ Some token → NamesRow OfTypes token
  layer_row (Name name) token at =
      name_row name token (holds_of_found names_apart (λ e. HasNameToken r.heaps.strings r.declared.types r.referred.names e.0 e.1) r.known.names name token known.names.each at)
  layer_row (Spec of) token at =
      let h : IsSpecToken r of token = holds_of_found types_apart (λ e. IsSpecToken r e.0 e.1) r.known.specs of token known.specs at in
      record { table = 0x1B; row = h.row; is = h.is; some = h.at.counted; among = inr (inr refl) }

  -- the token of a type
  owner_row : (o : Owner) (token : ℕ) → tokens_of r o ≡ Some token → NamesRow OfTypes token
  owner_row o token at = layer_row (out-Owner o) token at

  -- that of a method without its arguments
  generic_row : (m : MethodRef) (token : ℕ) → HasGenericToken r m token → NamesRow OfMethods token
  generic_row m token (of_declared {row = row} o t member is) = record { table = 0x06; row = row; is = is; some = member.at.counted; among = inl refl }
  generic_row m token (of_referred {row = row} o member is) = record { table = 0x0A; row = row; is = is; some = member.at.counted; among = inr refl }

  by_method : (m : MethodRef) (token : ℕ) → m.args ≡ None → IsMethodToken r m token → NamesRow OfMethods token
  by_method m token none (plain e h) = generic_row m token h
  by_method m token none (instance {args = args} some h at signature is) = let no : ◌≡◌ {A = Option (List SigType)} None (Some args) = sym none ∙ some in absurd cc

  -- that of a method that has none
  method_row : (m : MethodRef) (token : ℕ) → m.args ≡ None → HasMethod m r token → NamesRow OfMethods token
  method_row m token none at = by_method m token none (holds_of_found methods_apart (λ e. IsMethodToken r e.0 e.1) r.known.methods m token known.methods at)

  -- ---- coded indexes

  pub type_points : (o : Owner) (token index : ℕ) → tokens_of r o ≡ Some token → index ≡ index_of_token TypeDefOrRef token → Points TypeDefOrRef index
  type_points o token index at e = index_points TypeDefOrRef OfTypes type_tag token index (owner_row o token at) e

  pub parent_points : (o : Owner) (token index : ℕ) → tokens_of r o ≡ Some token → index ≡ index_of_token MemberRefParent token → Points MemberRefParent index
  parent_points o token index at e = index_points MemberRefParent OfTypes parent_tag token index (owner_row o token at) e

  pub generic_points : (m : MethodRef) (token index : ℕ) → HasGenericToken r m token → index ≡ index_of_token MethodDefOrRef token → Points MethodDefOrRef index
  generic_points m token index h e = index_points MethodDefOrRef OfMethods method_tag token index (generic_row m token h) e

  pub method_points : (m : MethodRef) (token : ℕ) → m.args ≡ None → HasMethod m r token → Points MethodDefOrRef (index_of_token MethodDefOrRef token)
  method_points m token none at = index_points MethodDefOrRef OfMethods method_tag token (index_of_token MethodDefOrRef token) (method_row m token none at) refl

  pub constructor_points : (m : MethodRef) (token : ℕ) → m.args ≡ None → HasMethod m r token → Points CustomAttributeType (index_of_token CustomAttributeType token)
  constructor_points m token none at =
      index_points CustomAttributeType OfMethods constructor_tag token (index_of_token CustomAttributeType token) (method_row m token none at) refl

-- ---- what rows own, by number

module _ {X : Type 0} (kind : Coded) where
  abbrev HasTag : ℕ × List (List X) → Type 0
  HasTag t = (tag : ℕ) × (tag_of kind t.0 ≡ Some tag)

  abbrev PointsFirst : ℕ × X → Type 0
  PointsFirst x = Points kind x.0

  owned_points : (k : ℕ) (t : ℕ × List (List X)) → HasTag t → AllByRecursion PointsFirst (owned_in kind k t)
  owned_points k (table, lists) tag =
      each_mapped PointsFirst (λ (x : X). (index_of kind table (k + 1), x)) (or_none (slice_get lists k))
      (each_all (λ (x : X). Points kind (index_of kind table (k + 1))) (or_none (slice_get lists k))
      (λ x. record { table = table; row = k + 1; tag = tag.0; tagged = tag.1; is = refl; some = omega arith }))

  -- each item has the coded index of a row
  pub by_number_points : (owners : List (ℕ × List (List X))) (count : ℕ) → AllByRecursion HasTag owners → AllByRecursion PointsFirst (by_number kind owners count)
  by_number_points owners count tags =
      each_flat (λ k. ℕ) PointsFirst (owned_at kind owners) (range_with_len 0 count)
      (λ k any. each_flat HasTag PointsFirst (owned_in kind k) owners (λ t tag. owned_points k t tag) tags)
      (each_all (λ k. ℕ) (range_with_len 0 count) (λ k. k))
