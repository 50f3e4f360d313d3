-- A listing has the data of the fields.
use Rattle.std.proofs.Common.{◌≡◌, ℕ, zero, suc, ◌+◌, ◌<◌, ◌^◌, Bool, true, false, cond, inl, inr, List, [], ◌∷◌, ◌++◌, map, length, drop, filter, slice_get, Some, refl, ap, ◌∙◌, append-nil, arith}
use Rattle.std.proofs.lemmas.Bool.{and_parts, cases_Bool}
use Rattle.std.proofs.lemmas.Slice.Eq.{bytes_eq-Decides}
use Rattle.std.specs.List.{list_all}
use Rattle.std.specs.Prelude.{find}
use Rattle.std.specs.Str.{bytes_eq}
use Rattle.ilasm_grammar.specs.Ilasm.{ilasm, rule_by, has_bit}
use Rattle.ilasm_grammar.specs.declared.nonterminals.TheConstants as n
use Rattle.ilasm_grammar.specs.declared.productions.TheConstants as p
use Rattle.ilasm_grammar.specs.declared.symbol.Symbol.TheVariants.{Nonterminal}
use Rattle.assembly_tree.specs.declared.assembly.Assembly.{Assembly}
use Rattle.source_model.specs.Data.{bytes_at, labelled, label_token}
use Rattle.source_model.specs.Forest as f
use Rattle.source_model.specs.Source.{Source}
use Rattle.source_model.specs.Values.{name_text, part_texts, dotted, bytes_in_parentheses}
use Rattle.listing_constants.specs.Laws.{LabelsAreRead}
use Rattle.listing_growth.specs.Held.{are_bytes}
use Rattle.listing_leaves.specs.Numbers.{data_label}
use Rattle.listing_model.specs.Canon.{classes, contents, data_lines}
use Rattle.listing_model.specs.Classes.{all_contents}
use Rattle.listing_model.specs.Grown.{body_of}
use Rattle.listing_model.specs.Manifests.{manifest_lines}
use Rattle.listing_model.specs.Shown.{Shown, none, leaf, branch, size}
use Rattle.listing_model.specs.Values.{data_line}
use Rattle.listing_reading.specs.Below.{below}
use Rattle.listing_reading.specs.BelowMasks.{below_masks}
use Rattle.listing_reading.specs.Laws.{SearchesPass}
use Rattle.listing_reading.specs.Numbered.{numbered}
use Rattle.listing_rows.specs.Laws.{PiecesAreRead}
use Rattle.listing_rows.specs.Segments.{ItemsAgree, pieces_at, EachLacks}
use Rattle.listing_values.specs.Laws.{BytesAreRead, LabelsDiffer}
use Rattle.listing_nesting.specs.Laws.{TypesLack, TypesAreWithout}
use Rattle.listing_declarations.specs.Laws.{IsListingOf, extern_items, manifest_items, field_items, global_items, data_items, manifest_place, types_place, fields_place, methods_place, data_place, HasDeclarations, DeclarationsAreRead}
use Rattle.listing_declarations.proofs.Elsewhere.{IsWithout, fields_lack, methods_lack, externs_lack, IsNoLine, lines_lack}
use Rattle.listing_data.specs.Laws.{labels as data_labels, TypesStand, ContentsAreHeld, DataAreThere}

-- ---- where data stand

abbrev data_parts : List ℕ
data_parts = p.DATA ∷ []

pub record NoData : Type 0 where
  pub types : TypesLack data_parts
  pub externs : IsWithout data_parts p.DECL_ASSEMBLY
  pub lines : IsNoLine data_parts
  pub fields : IsWithout data_parts p.DECL_FIELD
  pub customs : IsWithout data_parts p.DECL_CUSTOM
  pub methods : IsWithout data_parts p.DECL_METHOD
  pub type_alone : body_of p.DECL_CLASS ≡ Nonterminal n.CLASS ∷ []

no_data : NoData
unfolding ilasm rule_by has_bit below below_masks
no_data = record {
  types = record {
    members = record {
      others = record { pack = (refl, refl); size = (refl, refl); custom = (refl, refl); param = (refl, refl); field = (refl, refl); property = (refl, refl); event = (refl, refl) };
      method = (refl, refl);
    };
    own = refl;
    nested = refl;
    more = refl;
    end = refl;
    head = refl;
  };
  externs = record { own = refl; body = refl };
  lines = record {
    names = record { own = refl; body = refl };
    customs = record { own = refl; body = refl };
    bases = record { own = refl; body = refl };
    alignments = record { own = refl; body = refl };
    stacks = record { own = refl; body = refl };
    subsystems = record { own = refl; body = refl };
    cor_flags = record { own = refl; body = refl };
  };
  fields = record { own = refl; body = refl };
  customs = record { own = refl; body = refl };
  methods = record { own = refl; body = refl };
  type_alone = refl;
}

manifest_lacks : PiecesAreRead → (a : Assembly) → EachLacks data_parts (manifest_items a)
unfolding manifest_lines
manifest_lacks pieces a = (no_data.externs.own, no_data.externs.body, lines_lack pieces data_parts no_data.lines a)

-- what stands below the production of data
abbrev first_below : Shown → Shown
first_below none = none
first_below (leaf l after) = none
first_below (branch q below after) = below

abbrev data_below : ℕ → List ℕ → Shown
data_below k bytes = first_below (data_line k bytes).below

abbrev data_forests : ℕ → ℕ → List (List ℕ) → List f.Forest
data_forests at k [] = []
data_forests at k (bytes ∷ more) = numbered at (data_below k bytes) ∷ data_forests (at + size (data_line k bytes).below) (suc k) more

forests_are : (at k : ℕ) (all : List (List ℕ)) → f.below_each (pieces_at data_parts at (data_lines k all)) ≡ data_forests at k all
forests_are at k [] = refl
forests_are at k (bytes ∷ more) = ap (λ gs. numbered at (data_below k bytes) ∷ gs) (forests_are (at + size (data_line k bytes).below) (suc k) more)

all_labelled : (at k : ℕ) (all : List (List ℕ)) → filter (f.has p.DATA_LABEL) (data_forests at k all) ≡ data_forests at k all
all_labelled at k [] = refl
all_labelled at k (bytes ∷ more) = ap (λ gs. numbered at (data_below k bytes) ∷ gs) (all_labelled (at + size (data_line k bytes).below) (suc k) more)

-- ---- the data with a label

module _ (bytes_read : BytesAreRead) (differ : LabelsDiffer) (labels : LabelsAreRead) (s : Source) where
  other_label : (j k : ℕ) → j < k → k < 2 ^ 128 → bytes_eq (data_label j) (data_label k) ≡ false
  other_label j k less small = elim (cases_Bool (bytes_eq (data_label j) (data_label k))) [
    | inl is ↦
        let low : j < 2 ^ 128 = omega arith in
        let same = differ.contents j k low small ((bytes_eq-Decides (data_label j) (data_label k)).0 is) in
        absurd (omega arith)
    | inr other ↦ other
  ]

  label_is : (at k : ℕ) (bytes : List ℕ) → k < 2 ^ 128 → ItemsAgree s at (data_line k bytes ∷ []) → name_text s (label_token (numbered at (data_below k bytes))) ≡ data_label k
  label_is at k bytes small ag = ap (λ t. dotted (part_texts t)) ag.0.0.1.1.0.0.0.text ∙ labels.contents k small

  bytes_are : (at k : ℕ) (bytes : List ℕ) → are_bytes bytes ≡ true → ItemsAgree s at (data_line k bytes ∷ []) → bytes_at s (Some (numbered at (data_below k bytes))) ≡ bytes
  bytes_are at k bytes h ag =
      append-nil _ ∙ (ap (λ t. bytes_in_parentheses (drop 9 t)) ag.0.0.1.1.1.0.0.0.text ∙ bytes_read.array bytes h)

  there : (at k : ℕ) (all : List (List ℕ)) → list_all are_bytes all ≡ true → k + length all < 2 ^ 128 → ItemsAgree s at (data_lines k all) → (j : ℕ) (bytes : List ℕ) → slice_get all j ≡ Some bytes →
      bytes_at s (find (λ g. bytes_eq (name_text s (label_token g)) (data_label (k + j))) (data_forests at k all)) ≡ bytes
  there at k [] h small ag zero bytes e = absurd cc
  there at k [] h small ag (suc j) bytes e = absurd cc
  there at k (b ∷ more) h small ag zero bytes e =
      let same : b ≡ bytes = cc in
      let here : k < 2 ^ 128 = omega arith in
      let hs = and_parts (are_bytes b) (list_all are_bytes more) h in
      let plus : k + 0 ≡ k = omega arith in
      let later = find (λ g. bytes_eq (name_text s (label_token g)) (data_label (k + 0))) (data_forests (at + size (data_line k b).below) (suc k) more) in
      ap (λ (c : Bool). bytes_at s (cond c (Some (numbered at (data_below k b))) later))
      (ap (λ t. bytes_eq t (data_label (k + 0))) (label_is at k b here (ag.0, tt)) ∙ (ap (λ i. bytes_eq (data_label k) (data_label i)) plus ∙ (bytes_eq-Decides (data_label k) (data_label k)).1 refl))
      ∙ (bytes_are at k b hs.0 (ag.0, tt) ∙ same)
  there at k (b ∷ more) h small ag (suc j) bytes e =
      let here : k < 2 ^ 128 = omega arith in
      let hs = and_parts (are_bytes b) (list_all are_bytes more) h in
      let less = got_less more j bytes e in
      let before : k < k + suc j = omega arith in
      let last : k + suc j < 2 ^ 128 = omega arith in
      let next : suc k + length more < 2 ^ 128 = omega arith in
      let plus : k + suc j ≡ suc k + j = omega arith in
      let behind = data_forests (at + size (data_line k b).below) (suc k) more in
      let later = find (λ g. bytes_eq (name_text s (label_token g)) (data_label (k + suc j))) behind in
      ap (λ (c : Bool). bytes_at s (cond c (Some (numbered at (data_below k b))) later))
      (ap (λ t. bytes_eq t (data_label (k + suc j))) (label_is at k b here (ag.0, tt)) ∙ other_label k (k + suc j) before last)
      ∙ (ap (λ i. bytes_at s (find (λ g. bytes_eq (name_text s (label_token g)) (data_label i)) behind)) plus
      ∙ there (at + size (data_line k b).below) (suc k) more hs.1 next ag.1 j bytes e)
    where
      got_less : (xs : List (List ℕ)) (i : ℕ) (x : List ℕ) → slice_get xs i ≡ Some x → i < length xs
      got_less [] zero x e = absurd cc
      got_less [] (suc i) x e = absurd cc
      got_less (y ∷ xs) zero x e = omega arith
      got_less (y ∷ xs) (suc i) x e = let less = got_less xs i x e in omega arith

  labels_said : (at k : ℕ) (all : List (List ℕ)) → k + length all < 2 ^ 128 → ItemsAgree s at (data_lines k all) →
      map (λ g. name_text s (label_token g)) (data_forests at k all) ≡ data_labels k all
  labels_said at k [] small ag = refl
  labels_said at k (b ∷ more) small ag =
      let here : k < 2 ^ 128 = omega arith in
      let next : suc k + length more < 2 ^ 128 = omega arith in
      let first = label_is at k b here (ag.0, tt) in
      let later = labels_said (at + size (data_line k b).below) (suc k) more next ag.1 in
      λ i. first i ∷ later i

-- ---- the whole

module _ (searches : SearchesPass) (pieces : PiecesAreRead) (without : TypesAreWithout) (stand : TypesStand) (s : Source) (a : Assembly) (listed : IsListingOf s a) (has : HasDeclarations s a) where
  parts_are : f.parts data_parts s.tree ≡ pieces_at data_parts (data_place a) (data_items a)
  parts_are =
      let no1 = pieces.none data_parts n.DECL 0 (extern_items a) has.externs_grown (externs_lack data_parts a.externs no_data.externs 0 a.externs) in
      let no2 = pieces.none data_parts n.DECL (manifest_place a) (manifest_items a) has.manifest_grown (manifest_lacks pieces a) in
      let no3 = without data_parts no_data.types a true 100 [] a.types (stand s a listed) p.DECL_CLASS n.DECL no_data.type_alone refl 0 (types_place a) has.types_grown in
      let no4 = pieces.none data_parts n.DECL (fields_place a) (field_items a) has.fields_grown (fields_lack data_parts pieces a.externs no_data.fields no_data.customs (length (all_contents (classes a))) a.fields) in
      let no5 = pieces.none data_parts n.DECL (methods_place a) (global_items a) has.methods_grown (methods_lack data_parts a.externs no_data.methods a.methods) in
      has.pieces data_parts refl refl refl
      ∙ (λ i. no1 i ++ (no2 i ++ (no3 i ++ (no4 i ++ (no5 i ++ pieces_at data_parts (data_place a) (data_items a))))))

  labelled_are : labelled s ≡ data_forests (data_place a) 0 (contents a)
  labelled_are =
      ap (λ ps. filter (f.has p.DATA_LABEL) (f.below_each ps)) parts_are
      ∙ (ap (filter (f.has p.DATA_LABEL)) (forests_are (data_place a) 0 (contents a)) ∙ all_labelled (data_place a) 0 (contents a))

pub data_are_there : BytesAreRead → LabelsDiffer → LabelsAreRead → SearchesPass → PiecesAreRead → TypesAreWithout → DeclarationsAreRead → TypesStand → ContentsAreHeld → DataAreThere
data_are_there bytes_read differ label_laws searches pieces without declared stand held = record {
  given = λ s a listed k bytes e.
      let at : k ≡ 0 + k = omega arith in
      let few = held.few s a listed in
      let small : 0 + length (contents a) < 2 ^ 128 = omega arith in
      ap (λ gs. bytes_at s (find (λ g. bytes_eq (name_text s (label_token g)) (data_label k)) gs)) (labelled_are searches pieces without stand s a listed (declared s a listed))
      ∙ (ap (λ i. bytes_at s (find (λ g. bytes_eq (name_text s (label_token g)) (data_label i)) (data_forests (data_place a) 0 (contents a)))) at
      ∙ there bytes_read differ label_laws s (data_place a) 0 (contents a) (held.bytes s a listed) small (declared s a listed).contents k bytes e);
  said = λ s a listed.
      let few = held.few s a listed in
      let small : 0 + length (contents a) < 2 ^ 128 = omega arith in
      ap (map (λ g. name_text s (label_token g))) (labelled_are searches pieces without stand s a listed (declared s a listed))
      ∙ labels_said bytes_read differ label_laws s (data_place a) 0 (contents a) small (declared s a listed).contents;
}
