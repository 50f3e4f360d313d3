-- The rows that tokens name are there, and so are those that coded indexes name.
use Rattle.std.proofs.Common.{◌≡◌, ◌⊎◌, inl, inr, refl, sym, ◌∙◌, ap, subst, ℕ, zero, suc, ◌+◌, ◌-◌, ◌*◌, ◌/◌, ◌%◌, ◌^◌, ◌<◌, ◌≤◌, List, [], ◌∷◌, length, Option, Some, None, arith}
use Rattle.std.specs.Prelude.{slice_get}
use Rattle.std.specs.List.{AllByRecursion}
use Rattle.std.specs.Option.{option_map_or}
use Rattle.std.proofs.lemmas.Option.{slice_get_within}
use Rattle.heaps.specs.Heap.{Heap}
use Rattle.metadata_tables.specs.CodedIndex.{packed}
use Rattle.metadata_tables.specs.Encoding.{rows_in}
use Rattle.metadata_tables.specs.declared.coded.Coded.{Coded}
use Rattle.type_terms.specs.declared.name.TypeId.{TypeId}
use Rattle.type_terms.specs.declared.name.TypeName.{TypeName}
use Rattle.type_terms.specs.declared.reference.MethodRef.{MethodRef}
use Rattle.type_terms.specs.declared.term.Owner.{Owner, out-Owner}
use Rattle.type_terms.specs.declared.term.Owner.TheOpen.{Owner-F, Name, Spec}
use Rattle.type_terms.specs.declared.term.SigType.{SigType}
use Rattle.image_layout.specs.Indexes.{NamesRow}
use Rattle.image_tokens.specs.Indexes.{IsToken, index_of, index_of_token}
use Rattle.image_tokens.specs.KnownTokens.{names_apart, types_apart, methods_apart, layer_token}
use Rattle.image_tokens.specs.Members.{HasMethod}
use Rattle.image_tokens.specs.NameTokens as names
use Rattle.image_tokens.specs.NameTokens.{HasNameToken}
use Rattle.image_tokens.specs.References.{tokens_of, IsSpecToken, HasMemberToken, of_declared, of_referred, HasGenericToken, IsMethodToken, plain, instance, AreKnown}
use Rattle.image_tokens.specs.Rows.{IsRowAt}
use Rattle.image_tokens.specs.TypePaths.{Follows, last, on}
use Rattle.image_tokens.specs.declared.references.References.{References}
use Rattle.image_tokens.specs.declared.row_set.Cells.{Cells}
use Rattle.image_tokens.proofs.NameLemmas.{holds_of_found}
use Rattle.image_members.specs.Pushing.{Tables}

-- ---- coded indexes

-- an index leads nowhere, or to a row that is there
abbrev pub Leads : Coded → Tables → ℕ → Type 0
Leads kind tables index = (index ≡ 0) ⊎ NamesRow kind tables index

pub row_index : (kind : Coded) (tables : Tables) (table row : ℕ) → row ≤ rows_in tables table → Leads kind tables (index_of kind table row)
row_index kind tables table row there = go (packed kind table row) refl where
  go : (o : Option ℕ) → packed kind table row ≡ o → Leads kind tables (index_of kind table row)
  go None e = inl (ap (λ (o : Option ℕ). option_map_or (λ value. value) o 0) e)
  go (Some v) e =
      let same : index_of kind table row ≡ v = ap (λ (o : Option ℕ). option_map_or (λ value. value) o 0) e in
      inr (record { table = table; row = row; is = e ∙ ap Some (sym same); there = there })

-- a token names a row that is there
pub record NamesThere (tables : Tables) (token : ℕ) : Type 0 where
  pub table : ℕ
  pub row : ℕ
  pub is : IsToken token table row
  pub there : row ≤ rows_in tables table

pub token_index : (kind : Coded) (tables : Tables) (token : ℕ) → NamesThere tables token → Leads kind tables (index_of_token kind token)
token_index kind tables token n =
    let is = n.is.is in
    let fits = n.is.fits in
    let t : n.table ≡ token / 2 ^ 24 = omega arith in
    let row : n.row ≡ token % 2 ^ 24 = omega arith in
    subst (λ x. Leads kind tables (index_of kind (token / 2 ^ 24) x)) row
    (subst (λ x. Leads kind tables (index_of kind x n.row)) t (row_index kind tables n.table n.row n.there))

-- ---- rows

pub row_within : (rows : List Cells) (cells : Cells) (row : ℕ) → IsRowAt rows cells row → row ≤ length rows
row_within rows cells row at = let inside = slice_get_within rows (row - 1) cells at.at in let counted = at.counted in omega arith

follows_within : (strings : Heap) (rows : List Cells) (inner : ℕ → ℕ) (scope end : ℕ) (path : List TypeId) → Follows strings rows inner scope path end → end ≤ length rows
follows_within strings rows inner scope end path (last t is) = row_within rows t.cells end t.at
follows_within strings rows inner scope end path (on {row = row} {rest = rest} t is f) = follows_within strings rows inner (inner row) end rest f

-- how many rows there are of what is declared and referred to
pub record Counted (r : References) (tables : Tables) : Type 0 where
  pub types : length r.declared.types ≡ rows_in tables 0x02
  pub names : length r.referred.names ≡ rows_in tables 0x01
  pub specs : length r.referred.specs ≡ rows_in tables 0x1B
  pub methods : length r.declared.methods ≡ rows_in tables 0x06
  pub members : length r.referred.members ≡ rows_in tables 0x0A
  pub instances : length r.referred.instances ≡ rows_in tables 0x2B

module _ (r : References) (tables : Tables) (known : AreKnown r) (counted : Counted r tables) where
  name_there : (name : TypeName) (token : ℕ) → HasNameToken r.heaps.strings r.declared.types r.referred.names name token → NamesThere tables token
  name_there name token (names.of_declared {row = row} here f is) =
      let within = follows_within r.heaps.strings r.declared.types _ 0 row name.path f in
      let same = counted.types in
      record { table = 0x02; row = row; is = is; there = omega arith }
  name_there name token (names.of_referred {number = number} {row = row} scope f is) =
      let within = follows_within r.heaps.strings r.referred.names _ _ row name.path f in
      let same = counted.names in
      record { table = 0x01; row = row; is = is; there = omega arith }

  layer_there : (l : Owner-F Owner SigType) (token : ℕ) → layer_token r.known.names r.known.specs l ≡ Some token → NamesThere tables token
  layer_there (Name name) token at =
      name_there name token (holds_of_found names_apart (λ e. HasNameToken r.heaps.strings r.declared.types r.referred.names e.0 e.1) r.known.names name token known.names.each at)
  layer_there (Spec of) token at =
      let h : IsSpecToken r of token = holds_of_found types_apart (λ e. IsSpecToken r e.0 e.1) r.known.specs of token known.specs at in
      let within = row_within r.referred.specs _ h.row h.at in
      let same = counted.specs in
      record { table = 0x1B; row = h.row; is = h.is; there = omega arith }

  -- the token of a type names a row that is there
  pub owner_there : (o : Owner) (token : ℕ) → tokens_of r o ≡ Some token → NamesThere tables token
  owner_there o token at = layer_there (out-Owner o) token at

  -- so does the token of a method without its arguments
  pub generic_there : (m : MethodRef) (token : ℕ) → HasGenericToken r m token → NamesThere tables token
  generic_there m token (of_declared {row = row} o t member is) =
      let within = row_within r.declared.methods member.cells row member.at in
      let same = counted.methods in
      record { table = 0x06; row = row; is = is; there = omega arith }
  generic_there m token (of_referred {row = row} o member is) =
      let within = row_within r.referred.members member.cells row member.at in
      let same = counted.members in
      record { table = 0x0A; row = row; is = is; there = omega arith }

  by_method : (m : MethodRef) (token : ℕ) → IsMethodToken r m token → NamesThere tables token
  by_method m token (plain none h) = generic_there m token h
  by_method m token (instance {row = row} some h at signature is) =
      let within = row_within r.referred.instances _ row at in
      let same = counted.instances in
      record { table = 0x2B; row = row; is = is; there = omega arith }

  -- and that of a method
  pub method_there : (m : MethodRef) (token : ℕ) → HasMethod m r token → NamesThere tables token
  method_there m token at = by_method m token (holds_of_found methods_apart (λ e. IsMethodToken r e.0 e.1) r.known.methods m token known.methods at)
