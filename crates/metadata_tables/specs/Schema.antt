-- The tables of ECMA-335 II.22 that are read and written here, and the columns of each.
use Rattle.std.specs.Prelude.{ℕ, true, false, List, [], ◌∷◌, slice_index_or}
use Rattle.metadata_tables.specs.declared.coded.Coded.TheVariants.{TypeDefOrRef, HasConstant, HasCustomAttribute, MemberRefParent, HasSemantics, MethodDefOrRef, CustomAttributeType, ResolutionScope, TypeOrMethodDef}
use Rattle.metadata_tables.specs.declared.schema.Column.{Column}
use Rattle.metadata_tables.specs.declared.schema.Column.TheVariants.{Number, Strings, Guids, Blobs, Row, Run, Tagged}

-- The columns of tables 00 to 2C. A table that is not read or written here has none. `true` marks a
-- column that may be nil.
unfoldable pub schema : List (List Column)
schema =
    -- 00 Module: Generation, Name, Mvid, EncId, EncBaseId
    (Number 2 ∷ Strings false ∷ Guids false ∷ Guids true ∷ Guids true ∷ [])
    -- 01 TypeRef: ResolutionScope, Name, Namespace
    ∷ (Tagged ResolutionScope false ∷ Strings false ∷ Strings true ∷ [])
    -- 02 TypeDef: Flags, Name, Namespace, Extends, FieldList, MethodList
    ∷ (Number 4 ∷ Strings false ∷ Strings true ∷ Tagged TypeDefOrRef true ∷ Run 0x04 ∷ Run 0x06 ∷ [])
    ∷ []
    -- 04 Field: Flags, Name, Signature
    ∷ (Number 2 ∷ Strings false ∷ Blobs false ∷ [])
    ∷ []
    -- 06 MethodDef: RVA, ImplFlags, Flags, Name, Signature, ParamList
    ∷ (Number 4 ∷ Number 2 ∷ Number 2 ∷ Strings false ∷ Blobs false ∷ Run 0x08 ∷ [])
    ∷ []
    -- 08 Param: Flags, Sequence, Name
    ∷ (Number 2 ∷ Number 2 ∷ Strings true ∷ [])
    -- 09 InterfaceImpl: Class, Interface
    ∷ (Row 0x02 ∷ Tagged TypeDefOrRef false ∷ [])
    -- 0A MemberRef: Class, Name, Signature
    ∷ (Tagged MemberRefParent false ∷ Strings false ∷ Blobs false ∷ [])
    -- 0B Constant: Type, a zero, Parent, Value
    ∷ (Number 1 ∷ Number 1 ∷ Tagged HasConstant false ∷ Blobs true ∷ [])
    -- 0C CustomAttribute: Parent, Type, Value
    ∷ (Tagged HasCustomAttribute false ∷ Tagged CustomAttributeType false ∷ Blobs true ∷ [])
    ∷ [] ∷ []
    -- 0F ClassLayout: PackingSize, ClassSize, Parent
    ∷ (Number 2 ∷ Number 4 ∷ Row 0x02 ∷ [])
    -- 10 FieldLayout: Offset, Field
    ∷ (Number 4 ∷ Row 0x04 ∷ [])
    -- 11 StandAloneSig: Signature
    ∷ (Blobs false ∷ [])
    -- 12 EventMap: Parent, EventList
    ∷ (Row 0x02 ∷ Run 0x14 ∷ [])
    ∷ []
    -- 14 Event: EventFlags, Name, EventType
    ∷ (Number 2 ∷ Strings false ∷ Tagged TypeDefOrRef true ∷ [])
    -- 15 PropertyMap: Parent, PropertyList
    ∷ (Row 0x02 ∷ Run 0x17 ∷ [])
    ∷ []
    -- 17 Property: Flags, Name, Type
    ∷ (Number 2 ∷ Strings false ∷ Blobs false ∷ [])
    -- 18 MethodSemantics: Semantics, Method, Association
    ∷ (Number 2 ∷ Row 0x06 ∷ Tagged HasSemantics false ∷ [])
    -- 19 MethodImpl: Class, MethodBody, MethodDeclaration
    ∷ (Row 0x02 ∷ Tagged MethodDefOrRef false ∷ Tagged MethodDefOrRef false ∷ [])
    ∷ []
    -- 1B TypeSpec: Signature
    ∷ (Blobs false ∷ [])
    ∷ []
    -- 1D FieldRVA: RVA, Field
    ∷ (Number 4 ∷ Row 0x04 ∷ [])
    ∷ [] ∷ []
    -- 20 Assembly: HashAlgId, MajorVersion, MinorVersion, BuildNumber, RevisionNumber, Flags, PublicKey,
    -- Name, Culture
    ∷ (Number 4 ∷ Number 2 ∷ Number 2 ∷ Number 2 ∷ Number 2 ∷ Number 4 ∷ Blobs true ∷ Strings false ∷ Strings true ∷ [])
    ∷ [] ∷ []
    -- 23 AssemblyRef: MajorVersion, MinorVersion, BuildNumber, RevisionNumber, Flags, PublicKeyOrToken,
    -- Name, Culture, HashValue
    ∷ (Number 2 ∷ Number 2 ∷ Number 2 ∷ Number 2 ∷ Number 4 ∷ Blobs true ∷ Strings false ∷ Strings true ∷ Blobs true ∷ [])
    ∷ [] ∷ [] ∷ [] ∷ [] ∷ []
    -- 29 NestedClass: NestedClass, EnclosingClass
    ∷ (Row 0x02 ∷ Row 0x02 ∷ [])
    -- 2A GenericParam: Number, Flags, Owner, Name
    ∷ (Number 2 ∷ Number 2 ∷ Tagged TypeOrMethodDef false ∷ Strings false ∷ [])
    -- 2B MethodSpec: Method, Instantiation
    ∷ (Tagged MethodDefOrRef false ∷ Blobs false ∷ [])
    -- 2C GenericParamConstraint: Owner, Constraint
    ∷ (Row 0x2A ∷ Tagged TypeDefOrRef false ∷ [])
    ∷ []

-- the columns of a table
abbrev pub columns_of : ℕ → List Column
columns_of table = slice_index_or schema table []
