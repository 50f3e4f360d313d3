-- A listing is its declarations.
use Rattle.std.proofs.Common.{◌≡◌, ℕ, suc, ◌+◌, nat_eq, true, false, if◌then◌else◌, List, [], ◌∷◌, ◌++◌, length, refl, ap, ◌∙◌, append-nil, arith}
use Rattle.ilasm_grammar.specs.Ilasm.{ilasm, rule_by, has_bit}
use Rattle.ilasm_grammar.specs.declared.nonterminals.TheConstants as n
use Rattle.ilasm_grammar.specs.declared.productions.TheConstants as p
use Rattle.ilasm_grammar.specs.declared.symbol.Symbol.TheVariants.{Nonterminal}
use Rattle.type_terms.specs.declared.name.TypeId.{TypeId}
use Rattle.assembly_tree.specs.declared.assembly.Assembly.{Assembly}
use Rattle.assembly_tree.specs.declared.assembly.ExternAssembly.{ExternAssembly}
use Rattle.assembly_tree.specs.declared.members.Attribute.{Attribute}
use Rattle.assembly_tree.specs.declared.members.Field.{Field}
use Rattle.assembly_tree.specs.declared.members.Method.{Method}
use Rattle.source_model.specs.Classes.{classes_in}
use Rattle.source_model.specs.Forest as f
use Rattle.source_model.specs.Items as read
use Rattle.source_model.specs.Nodes.{nothing_around}
use Rattle.source_model.specs.Source.{Source}
use Rattle.listing_groups.specs.Laws.{method_items}
use Rattle.listing_growth.specs.Laws.{CanonStands}
use Rattle.listing_model.specs.Canon.{canon, classes, contents, data_lines, declarations, source_of}
use Rattle.listing_model.specs.Classes.{ClassShown, all_contents, classes_from}
use Rattle.listing_model.specs.Grown.{Grows}
use Rattle.listing_model.specs.Manifests.{extern_lines, manifest_lines, header_lines}
use Rattle.listing_model.specs.Members.{fields, behind_field}
use Rattle.listing_model.specs.Shown.{Item, none, size, star_production, star_below}
use Rattle.listing_model.specs.Values.{customs}
use Rattle.listing_reading.specs.Below.{below}
use Rattle.listing_reading.specs.BelowMasks.{below_masks}
use Rattle.listing_reading.specs.Laws.{SearchesPass}
use Rattle.listing_reading.specs.Numbered.{numbered, Agrees}
use Rattle.listing_reading.specs.Rows.{AreAmong, parts_at}
use Rattle.listing_rows.specs.Laws.{class_parts, SegmentsAreRead, PiecesAreRead}
use Rattle.listing_rows.specs.Segments.{ItemsAgree, pieces_of, pieces_at, EachGrown, EachLacks}
use Rattle.listing_nesting.specs.Laws.{AreOther, types_at, TypeRowsAreRead}
use Rattle.listing_declarations.specs.Laws.{IsListingOf, extern_items, manifest_items, type_items, field_items, global_items, data_items, manifest_place, types_place, fields_place, methods_place, data_place, HasDeclarations, DeclarationsAreRead}
use Rattle.listing_declarations.proofs.Elsewhere.{IsWithout, fields_lack, methods_lack, data_lack, externs_lack, IsNoLine, lines_lack}

abbrev declared_parts : List ℕ
declared_parts =
    p.DECL_ASSEMBLY ∷ p.DECL_MODULE ∷ p.DECL_IMAGEBASE ∷ p.DECL_FILE ∷ p.DECL_STACKRESERVE ∷ p.DECL_SUBSYSTEM ∷ p.DECL_CORFLAGS ∷ p.DECL_CLASS
    ∷ p.DECL_FIELD ∷ p.DECL_METHOD ∷ p.DECL_CUSTOM ∷ p.DECL_DATA ∷ []

-- ---- a row of declarations

module _ (segments : SegmentsAreRead) (pieces : PiecesAreRead) (rows : TypeRowsAreRead) (s : Source) (a : Assembly) where
  row_grown : (ds : List Item) → Grows (Nonterminal n.SOURCE ∷ []) (source_of a ds) → EachGrown n.DECL ds
  unfolding ilasm rule_by
  row_grown [] h = tt
  row_grown (d ∷ ds) h = (h.1.0, h.1.1, pieces.grown n.DECL n.DECL_STAR p.DECL_STAR_MORE p.DECL_STAR_END refl ds h.1.2.1)

  row_agrees : (ds : List Item) → Agrees s 0 (source_of a ds) → ItemsAgree s 0 ds
  row_agrees [] ag = tt
  row_agrees (d ∷ ds) ag = (ag.0.0, segments.row s p.DECL_STAR_MORE p.DECL_STAR_END ds (0 + size d.below) ag.0.1.0)

  row_pieces : (sought : List ℕ) → f.is_among sought p.SOURCE ≡ false → f.is_among sought p.DECL_STAR_MORE ≡ false → f.is_among sought p.DECL_STAR_END ≡ false →
      (ds : List Item) → f.parts sought (numbered 0 (source_of a ds)) ≡ pieces_at sought 0 ds
  row_pieces sought x m e [] = refl
  row_pieces sought x m e (d ∷ ds) =
      let row = f.branch (star_production p.DECL_STAR_MORE p.DECL_STAR_END ds) (numbered (0 + size d.below) (star_below p.DECL_STAR_MORE p.DECL_STAR_END ds)) f.none in
      let own = f.branch d.production (numbered 0 d.below) row in
      let first = pieces_of sought 0 d in
      ap (λ c. (if c then f.part p.SOURCE own ∷ [] else first ++ f.parts sought row) ++ []) x
      ∙ (append-nil (first ++ f.parts sought row)
      ∙ ap (λ ps. first ++ ps) (pieces.row sought p.DECL_STAR_MORE p.DECL_STAR_END m e ds (0 + size d.below) f.none ∙ append-nil (pieces_at sought (0 + size d.below) ds)))

  no_types : classes_in s nothing_around f.none ≡ []
  unfolding classes_in
  no_types = refl

  row_types : (ds : List Item) → AreOther ds → classes_in s nothing_around (numbered 0 (source_of a ds)) ≡ types_at s nothing_around 0 ds
  row_types [] o = no_types
  row_types (d ∷ ds) o =
      let row = f.branch (star_production p.DECL_STAR_MORE p.DECL_STAR_END ds) (numbered (0 + size d.below) (star_below p.DECL_STAR_MORE p.DECL_STAR_END ds)) f.none in
      let own = f.branch d.production (numbered 0 d.below) row in
      let first = classes_in s nothing_around (numbered 0 d.below) in
      let later = types_at s nothing_around (0 + size d.below) ds in
      rows.other s nothing_around p.SOURCE own f.none refl
      ∙ (ap (λ ts. classes_in s nothing_around own ++ ts) no_types
      ∙ (append-nil (classes_in s nothing_around own)
      ∙ (rows.other s nothing_around d.production (numbered 0 d.below) row o.0
      ∙ ap (λ ts. first ++ ts)
      (rows.row s nothing_around p.DECL_STAR_MORE p.DECL_STAR_END refl refl ds o.1 (0 + size d.below) f.none ∙ (ap (λ ts. later ++ ts) no_types ∙ append-nil later)))))

-- ---- the declarations of a listing

module _ (segments : SegmentsAreRead) (externs : List ExternAssembly) where
  among_externs : (k : ℕ) (es : List ExternAssembly) → AreAmong declared_parts (extern_lines externs k es)
  among_externs k [] = tt
  among_externs k (e ∷ es) = (refl, among_externs (suc k) es)

  among_customs : (xs : List Attribute) → AreAmong declared_parts (customs externs p.DECL_CUSTOM xs)
  among_customs [] = tt
  among_customs (x ∷ xs) = (refl, among_customs xs)

  among_types : (outer : List TypeId) (k : ℕ) (cs : List ClassShown) → AreAmong declared_parts (classes_from p.DECL_CLASS outer k cs)
  among_types outer k [] = tt
  among_types outer k (c ∷ cs) = (refl, among_types outer (k + length c.contents) cs)

  among_fields : (k : ℕ) (xs : List Field) → AreAmong declared_parts (fields externs p.DECL_FIELD p.DECL_CUSTOM k xs)
  among_fields k [] = tt
  among_fields k (x ∷ xs) = (
    refl,
    segments.among declared_parts (customs externs p.DECL_CUSTOM x.attributes) (fields externs p.DECL_FIELD p.DECL_CUSTOM (behind_field k x.content) xs)
        (among_customs x.attributes) (among_fields (behind_field k x.content) xs),
  )

  among_methods : (ms : List Method) → AreAmong declared_parts (method_items externs p.DECL_METHOD ms)
  among_methods [] = tt
  among_methods (m ∷ ms) = (refl, among_methods ms)

among_data : (k : ℕ) (all : List (List ℕ)) → AreAmong declared_parts (data_lines k all)
among_data k [] = tt
among_data k (bytes ∷ more) = (refl, among_data (suc k) more)

among_manifest : SegmentsAreRead → (a : Assembly) → AreAmong declared_parts (manifest_items a)
unfolding manifest_lines
among_manifest segments a =
    let own = customs a.externs p.DECL_CUSTOM a.manifest.module_attributes in
    let lines : AreAmong declared_parts (header_lines a.externs a.manifest) = (refl, (refl, (refl, (refl, (refl, tt))))) in
    (refl, (refl, segments.among declared_parts own (header_lines a.externs a.manifest) (among_customs segments a.externs a.manifest.module_attributes) lines))

among_all : SegmentsAreRead → (a : Assembly) → AreAmong declared_parts (declarations a)
among_all segments a =
    segments.among declared_parts (extern_items a) _ (among_externs segments a.externs 0 a.externs)
    (segments.among declared_parts (manifest_items a) _ (among_manifest segments a)
    (segments.among declared_parts (type_items a) _ (among_types segments a.externs [] 0 (classes a))
    (segments.among declared_parts (field_items a) _ (among_fields segments a.externs (length (all_contents (classes a))) a.fields)
    (segments.among declared_parts (global_items a) _ (among_methods segments a.externs a.methods) (among_data 0 (contents a))))))

-- ---- no declaration is a type itself, and only those of types hold any

other_items : (ds : List Item) → AreAmong declared_parts ds → AreOther ds
other_items [] m = tt
other_items (d ∷ ds) m = (by d.production m.0, other_items ds m.1)
  where
    by : (q : ℕ) → f.is_among declared_parts q ≡ true → nat_eq q p.CLASS ≡ false
    by q h = grind (arith, h)

pub record HoldNoType : Type 0 where
  pub externs : IsWithout class_parts p.DECL_ASSEMBLY
  pub lines : IsNoLine class_parts
  pub customs : IsWithout class_parts p.DECL_CUSTOM
  pub fields : IsWithout class_parts p.DECL_FIELD
  pub methods : IsWithout class_parts p.DECL_METHOD
  pub contents : IsWithout class_parts p.DECL_DATA

hold_no_type : HoldNoType
unfolding ilasm rule_by has_bit below below_masks
hold_no_type = record {
  externs = record { own = refl; body = refl };
  lines = record {
    names = record { own = refl; body = refl };
    customs = record { own = refl; body = refl };
    bases = record { own = refl; body = refl };
    alignments = record { own = refl; body = refl };
    stacks = record { own = refl; body = refl };
    subsystems = record { own = refl; body = refl };
    cor_flags = record { own = refl; body = refl };
  };
  customs = record { own = refl; body = refl };
  fields = record { own = refl; body = refl };
  methods = record { own = refl; body = refl };
  contents = record { own = refl; body = refl };
}

manifest_lacks : PiecesAreRead → (a : Assembly) → EachLacks class_parts (manifest_items a)
unfolding manifest_lines
manifest_lacks pieces a = let h = hold_no_type in (h.externs.own, h.externs.body, lines_lack pieces class_parts h.lines a)

-- ---- all of these

module _ (stands : CanonStands) (segments : SegmentsAreRead) (pieces : PiecesAreRead) (rows : TypeRowsAreRead) (s : Source) (a : Assembly) (listed : IsListingOf s a) where
  tree_is : s.tree ≡ numbered 0 (source_of a (declarations a))
  unfolding canon
  tree_is = listed.tree

  tokens_are : ItemsAgree s 0 (declarations a)
  unfolding canon
  tokens_are = row_agrees segments pieces rows s a (declarations a) listed.tokens

  all_grown : EachGrown n.DECL (declarations a)
  unfolding canon
  all_grown = row_grown segments pieces rows s a (declarations a) (stands a listed.formed listed.held)

  abbrev from5 : List Item
  from5 = global_items a ++ data_items a

  abbrev from4 : List Item
  from4 = field_items a ++ from5

  abbrev from3 : List Item
  from3 = type_items a ++ from4

  abbrev from2 : List Item
  from2 = manifest_items a ++ from3

  pieces_are : (sought : List ℕ) → f.is_among sought p.SOURCE ≡ false → f.is_among sought p.DECL_STAR_MORE ≡ false → f.is_among sought p.DECL_STAR_END ≡ false →
      f.parts sought s.tree
      ≡ pieces_at sought 0 (extern_items a)
      ++ (pieces_at sought (manifest_place a) (manifest_items a)
      ++ (pieces_at sought (types_place a) (type_items a)
      ++ (pieces_at sought (fields_place a) (field_items a)
      ++ (pieces_at sought (methods_place a) (global_items a) ++ pieces_at sought (data_place a) (data_items a)))))
  pieces_are sought x m e =
      ap (f.parts sought) tree_is
      ∙ (row_pieces segments pieces rows s a sought x m e (declarations a)
      ∙ (pieces.joined sought 0 (extern_items a) from2
      ∙ ap (λ ps. pieces_at sought 0 (extern_items a) ++ ps) (pieces.joined sought (manifest_place a) (manifest_items a) from3
      ∙ ap (λ ps. pieces_at sought (manifest_place a) (manifest_items a) ++ ps) (pieces.joined sought (types_place a) (type_items a) from4
      ∙ ap (λ ps. pieces_at sought (types_place a) (type_items a) ++ ps) (pieces.joined sought (fields_place a) (field_items a) from5
      ∙ ap (λ ps. pieces_at sought (fields_place a) (field_items a) ++ ps) (pieces.joined sought (methods_place a) (global_items a) (data_items a)))))))

  parts_are : read.declarations s.tree
      ≡ parts_at 0 (extern_items a)
      ++ (parts_at (manifest_place a) (manifest_items a)
      ++ (parts_at (types_place a) (type_items a)
      ++ (parts_at (fields_place a) (field_items a)
      ++ (parts_at (methods_place a) (global_items a) ++ parts_at (data_place a) (data_items a)))))
  parts_are =
      ap (f.parts declared_parts) tree_is
      ∙ (row_pieces segments pieces rows s a declared_parts refl refl refl (declarations a)
      ∙ (pieces.all declared_parts 0 (declarations a) (among_all segments a)
      ∙ (segments.parts 0 (extern_items a) from2
      ∙ ap (λ ps. parts_at 0 (extern_items a) ++ ps) (segments.parts (manifest_place a) (manifest_items a) from3
      ∙ ap (λ ps. parts_at (manifest_place a) (manifest_items a) ++ ps) (segments.parts (types_place a) (type_items a) from4
      ∙ ap (λ ps. parts_at (types_place a) (type_items a) ++ ps) (segments.parts (fields_place a) (field_items a) from5
      ∙ ap (λ ps. parts_at (fields_place a) (field_items a) ++ ps) (segments.parts (methods_place a) (global_items a) (data_items a))))))))

  types_are : EachGrown n.DECL (extern_items a) → EachGrown n.DECL (manifest_items a) → EachGrown n.DECL (field_items a) → EachGrown n.DECL (global_items a) → EachGrown n.DECL (data_items a) →
      classes_in s nothing_around s.tree ≡ types_at s nothing_around (types_place a) (type_items a)
  types_are g1 g2 g4 g5 g6 =
      let h = hold_no_type in
      let own = types_at s nothing_around (types_place a) (type_items a) in
      let no1 = rows.none s nothing_around n.DECL 0 (extern_items a) g1 (externs_lack class_parts a.externs h.externs 0 a.externs) in
      let no2 = rows.none s nothing_around n.DECL (manifest_place a) (manifest_items a) g2 (manifest_lacks pieces a) in
      let no4 = rows.none s nothing_around n.DECL (fields_place a) (field_items a) g4 (fields_lack class_parts pieces a.externs h.fields h.customs (length (all_contents (classes a))) a.fields) in
      let no5 = rows.none s nothing_around n.DECL (methods_place a) (global_items a) g5 (methods_lack class_parts a.externs h.methods a.methods) in
      let no6 = rows.none s nothing_around n.DECL (data_place a) (data_items a) g6 (data_lack class_parts h.contents 0 (contents a)) in
      ap (classes_in s nothing_around) tree_is
      ∙ (row_types segments pieces rows s a (declarations a) (other_items (declarations a) (among_all segments a))
      ∙ (rows.joined s nothing_around 0 (extern_items a) from2
      ∙ (ap (λ ts. ts ++ types_at s nothing_around (manifest_place a) from2) no1
      ∙ (rows.joined s nothing_around (manifest_place a) (manifest_items a) from3
      ∙ (ap (λ ts. ts ++ types_at s nothing_around (types_place a) from3) no2
      ∙ (rows.joined s nothing_around (types_place a) (type_items a) from4
      ∙ (ap (λ ts. own ++ ts) (rows.joined s nothing_around (fields_place a) (field_items a) from5
      ∙ (ap (λ ts. ts ++ types_at s nothing_around (methods_place a) from5) no4
      ∙ (rows.joined s nothing_around (methods_place a) (global_items a) (data_items a) ∙ (λ i. no5 i ++ no6 i))))
      ∙ append-nil own)))))))

  has_declarations : HasDeclarations s a
  has_declarations =
      let a1 = segments.agree s 0 (extern_items a) from2 tokens_are in
      let a2 = segments.agree s (manifest_place a) (manifest_items a) from3 a1.1 in
      let a3 = segments.agree s (types_place a) (type_items a) from4 a2.1 in
      let a4 = segments.agree s (fields_place a) (field_items a) from5 a3.1 in
      let a5 = segments.agree s (methods_place a) (global_items a) (data_items a) a4.1 in
      let g1 = pieces.each n.DECL (extern_items a) from2 all_grown in
      let g2 = pieces.each n.DECL (manifest_items a) from3 g1.1 in
      let g3 = pieces.each n.DECL (type_items a) from4 g2.1 in
      let g4 = pieces.each n.DECL (field_items a) from5 g3.1 in
      let g5 = pieces.each n.DECL (global_items a) (data_items a) g4.1 in
      record {
        externs = a1.0;
        manifest = a2.0;
        types = a3.0;
        fields = a4.0;
        methods = a5.0;
        contents = a5.1;
        externs_grown = g1.0;
        manifest_grown = g2.0;
        types_grown = g3.0;
        fields_grown = g4.0;
        methods_grown = g5.0;
        contents_grown = g5.1;
        pieces = pieces_are;
        parts = parts_are;
        type_rows = types_are g1.0 g2.0 g4.0 g5.0 g5.1;
      }

pub declarations_are_read : CanonStands → SearchesPass → SegmentsAreRead → PiecesAreRead → TypeRowsAreRead → DeclarationsAreRead
declarations_are_read stands searches segments pieces rows s a listed = has_declarations stands segments pieces rows s a listed
