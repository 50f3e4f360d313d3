-- The module's name and the numbers of the headers are read back.
use Rattle.std.proofs.Common.{◌≡◌, ℕ, ◌+◌, ◌^◌, ◌<◌, true, false, List, [], ◌∷◌, ◌++◌, refl, ap, sym, ◌∙◌, append-nil, arith}
use Rattle.std.proofs.lemmas.Bool.{and_parts, ltb-true}
use Rattle.ilasm_grammar.specs.Ilasm.{ilasm, rule_by, has_bit}
use Rattle.ilasm_grammar.specs.declared.nonterminals.TheConstants as n
use Rattle.ilasm_grammar.specs.declared.productions.TheConstants as p
use Rattle.assembly_tree.specs.declared.assembly.Assembly.{Assembly}
use Rattle.assembly_tree.specs.declared.assembly.Manifest.{Manifest}
use Rattle.assembly_tree.specs.WellFormedNames.{is_name}
use Rattle.source_model.specs.Forest as f
use Rattle.source_model.specs.Manifests.{last_said}
use Rattle.source_model.specs.Shapes.{natural}
use Rattle.source_model.specs.Source.{Source}
use Rattle.source_model.specs.Values.{part_texts, dotted, integer}
use Rattle.listing_growth.specs.Held.{is_manifest_held}
use Rattle.listing_model.specs.Grown.{body_of}
use Rattle.listing_model.specs.Manifests.{assembly_item, header_lines, manifest_lines}
use Rattle.listing_model.specs.Shown.{Item, item, line, none, size}
use Rattle.listing_model.specs.Types.{name}
use Rattle.il_lexer.specs.declared.word.TheConstants as word
use Rattle.listing_model.specs.Values.{customs}
use Rattle.listing_reading.specs.Below.{below, cant_stand}
use Rattle.listing_reading.specs.BelowMasks.{below_masks}
use Rattle.listing_rows.specs.Laws.{SegmentsAreRead, PiecesAreRead}
use Rattle.listing_rows.specs.Segments.{end_of, ItemsAgree, pieces_of, pieces_at, EachGrown}
use Rattle.listing_values.specs.Laws.{NamesAreRead, NumbersAreRead}
use Rattle.listing_manifests.specs.Laws.{number_of, name_of, AreHeadersOf, HeadersAreRead}
use Rattle.listing_manifests.proofs.Assemblies.{customs_lack, formed_of}

-- it stands neither in an assembly nor in an attribute
pub record IsApart (sought : List ℕ) : Type 0 where
  pub assembly : cant_stand sought (body_of p.DECL_ASSEMBLY) ≡ true
  pub customs : cant_stand sought (body_of p.DECL_CUSTOM) ≡ true

pub record InDeclarations : Type 0 where
  pub names : IsApart (p.DECL_MODULE ∷ [])
  pub bases : IsApart (p.DECL_IMAGEBASE ∷ [])
  pub alignments : IsApart (p.DECL_FILE ∷ [])
  pub stacks : IsApart (p.DECL_STACKRESERVE ∷ [])
  pub subsystems : IsApart (p.DECL_SUBSYSTEM ∷ [])
  pub cor_flags : IsApart (p.DECL_CORFLAGS ∷ [])

in_declarations : InDeclarations
unfolding ilasm rule_by has_bit below below_masks
in_declarations = record {
  names = record { assembly = refl; customs = refl };
  bases = record { assembly = refl; customs = refl };
  alignments = record { assembly = refl; customs = refl };
  stacks = record { assembly = refl; customs = refl };
  subsystems = record { assembly = refl; customs = refl };
  cor_flags = record { assembly = refl; customs = refl };
}

pub record IsHeld (m : Manifest) : Type 0 where
  pub image_base : m.image_base < 2 ^ 32
  pub file_alignment : m.file_alignment < 2 ^ 32
  pub stack_reserve : m.stack_reserve < 2 ^ 32
  pub subsystem : m.subsystem < 0x10000
  pub cor_flags : m.cor_flags < 2 ^ 32

held_of : (m : Manifest) → is_manifest_held m ≡ true → IsHeld m
unfolding is_manifest_held
held_of m h =
    let h10 = and_parts _ _ h in
    let h9 = and_parts _ _ h10.0 in
    let h8 = and_parts _ _ h9.0 in
    let h7 = and_parts _ _ h8.0 in
    let h6 = and_parts _ _ h7.0 in
    let h5 = and_parts _ _ h6.0 in
    let h4 = and_parts _ _ h5.0 in
    record {
      image_base = ltb-true m.image_base 0x100000000 h4.1;
      file_alignment = ltb-true m.file_alignment 0x100000000 h5.1;
      stack_reserve = ltb-true m.stack_reserve 0x100000000 h6.1;
      subsystem = ltb-true m.subsystem 0x10000 h7.1;
      cor_flags = ltb-true m.cor_flags 0x100000000 h8.1;
    }

small_32 : (k : ℕ) → k < 2 ^ 32 → k < 2 ^ 128
small_32 k h = omega arith

small_16 : (k : ℕ) → k < 0x10000 → k < 2 ^ 128
small_16 k h = omega arith

module _ (segments : SegmentsAreRead) (pieces : PiecesAreRead) (names : NamesAreRead) (numbers : NumbersAreRead) (s : Source) (a : Assembly) (m : Manifest) (grown : EachGrown n.DECL (manifest_lines a.externs m)) (at : ℕ) (ag : ItemsAgree s at (manifest_lines a.externs m)) where
  abbrev assembly : Item
  assembly = assembly_item a.externs m

  abbrev named : Item
  named = item p.DECL_MODULE (line word.DOT_MODULE (name m.«module» none))

  abbrev own : List Item
  own = customs a.externs p.DECL_CUSTOM m.module_attributes

  abbrev second : ℕ
  second = at + size assembly.below

  abbrev third : ℕ
  third = second + size named.below

  abbrev fourth : ℕ
  fourth = end_of third own

  pieces_are : (sought : List ℕ) → f.is_among sought p.DECL_ASSEMBLY ≡ false → f.is_among sought p.DECL_CUSTOM ≡ false → IsApart sought →
      pieces_at sought at (manifest_lines a.externs m) ≡ pieces_of sought second named ++ pieces_at sought fourth (header_lines a.externs m)
  unfolding manifest_lines
  pieces_are sought other no_custom apart =
      let behind = pieces_of sought second named ++ pieces_at sought third (own ++ header_lines a.externs m) in
      let rows = pieces.each n.DECL own (header_lines a.externs m) grown.2.2 in
      let before : pieces_of sought at assembly ++ [] ≡ [] = pieces.none sought n.DECL at (assembly ∷ []) (grown.0, grown.1, tt) (other, apart.assembly, tt) in
      let customs_none = pieces.none sought n.DECL third own rows.0 (customs_lack sought p.DECL_CUSTOM no_custom apart.customs a.externs m.module_attributes) in
      ap (λ ps. ps ++ behind) (sym (append-nil (pieces_of sought at assembly)) ∙ before)
      ∙ ap (λ ps. pieces_of sought second named ++ ps)
      (pieces.joined sought third own (header_lines a.externs m) ∙ ap (λ ps. ps ++ pieces_at sought fourth (header_lines a.externs m)) customs_none)

  headers_agree : ItemsAgree s fourth (header_lines a.externs m)
  unfolding manifest_lines
  headers_agree = (segments.agree s third own (header_lines a.externs m) ag.1.1).1

  module_agrees : ItemsAgree s second (named ∷ [])
  unfolding manifest_lines
  module_agrees = (ag.1.0, tt)

  headers_are : is_name m.«module» ≡ true → IsHeld m → (other : List ℕ) (number : ℕ) → AreHeadersOf s at a m other number
  headers_are wf held other number = record {
    called = ap (last_said (name_of s) other) (pieces_are (p.DECL_MODULE ∷ []) refl refl in_declarations.names)
        ∙ (ap (λ t. dotted (part_texts t)) module_agrees.0.1.0.text ∙ names.name m.«module» wf);
    image_base = ap (last_said (number_of s 1) number) (pieces_are (p.DECL_IMAGEBASE ∷ []) refl refl in_declarations.bases)
        ∙ ap natural (ap integer headers_agree.0.1.0.text ∙ numbers.hexadecimal 8 m.image_base (small_32 m.image_base held.image_base));
    file_alignment = ap (last_said (number_of s 2) number) (pieces_are (p.DECL_FILE ∷ []) refl refl in_declarations.alignments)
        ∙ ap natural (ap integer headers_agree.1.0.1.1.0.text ∙ numbers.hexadecimal 8 m.file_alignment (small_32 m.file_alignment held.file_alignment));
    stack_reserve = ap (last_said (number_of s 1) number) (pieces_are (p.DECL_STACKRESERVE ∷ []) refl refl in_declarations.stacks)
        ∙ ap natural (ap integer headers_agree.1.1.0.1.0.text ∙ numbers.hexadecimal 8 m.stack_reserve (small_32 m.stack_reserve held.stack_reserve));
    subsystem = ap (last_said (number_of s 1) number) (pieces_are (p.DECL_SUBSYSTEM ∷ []) refl refl in_declarations.subsystems)
        ∙ ap natural (ap integer headers_agree.1.1.1.0.1.0.text ∙ numbers.hexadecimal 4 m.subsystem (small_16 m.subsystem held.subsystem));
    cor_flags = ap (last_said (number_of s 1) number) (pieces_are (p.DECL_CORFLAGS ∷ []) refl refl in_declarations.cor_flags)
        ∙ ap natural (ap integer headers_agree.1.1.1.1.0.1.0.text ∙ numbers.hexadecimal 8 m.cor_flags (small_32 m.cor_flags held.cor_flags));
  }

pub headers_are_read : NamesAreRead → NumbersAreRead → SegmentsAreRead → PiecesAreRead → HeadersAreRead
headers_are_read names numbers segments pieces s a m wf h grown at ag other number =
    headers_are segments pieces names numbers s a m grown at ag (formed_of a m wf).«module» (held_of m h) other number
