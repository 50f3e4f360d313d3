-- The data of fields have no more bytes than the assembly weighs.
use Rattle.std.proofs.Common.{◌≡◌, ℕ, zero, suc, ◌+◌, ◌≤◌, ◌^◌, Bool, true, false, List, [], ◌∷◌, ◌++◌, length, Option, None, Some, ap, arith}
use Rattle.std.proofs.lemmas.Bool.{and_parts, eqb-true}
use Rattle.std.proofs.lemmas.List.Sums.{sum_by-cons}
use Rattle.std.specs.List.{list_all}
use Rattle.std.specs.Prelude.{sum_by}
use Rattle.assembly_tree.specs.Weight.{optional, field_weight, own_weight, typedef_weight, weight_of}
use Rattle.assembly_tree.specs.WellFormedTypes.{is_own, are_types}
use Rattle.assembly_tree.specs.declared.assembly.Assembly.{Assembly}
use Rattle.assembly_tree.specs.declared.members.Field.{Field}
use Rattle.assembly_tree.specs.declared.typedef.TypeDef.{TypeDef}
use Rattle.assembly_tree.specs.declared.typedef.TypeDef.TheViews.{out-TypeDef}
use Rattle.assembly_tree.proofs.FormedFacts.{assemblies_named}
use Rattle.source_model.specs.Source.{Source}
use Rattle.listing_declarations.specs.Laws.{IsListingOf}
use Rattle.listing_data.proofs.Contents.{weight_out, its_contents, contents_out, Passes}
use Rattle.listing_model.specs.Canon.{classes, contents}
use Rattle.listing_model.specs.Classes.{all_contents, class}
use Rattle.listing_model.specs.Members.{contents_then, field_contents}

-- how many bytes there are in all
abbrev pub bytes_in : List (List ℕ) → ℕ
bytes_in [] = 0
bytes_in (x ∷ xs) = length x + bytes_in xs

in_both : (xs ys : List (List ℕ)) → bytes_in (xs ++ ys) ≡ bytes_in xs + bytes_in ys
in_both [] ys = omega arith
in_both (x ∷ xs) ys = let later = in_both xs ys in omega arith

abbrev content_weight : Option (List ℕ) → ℕ
content_weight content = optional (λ (bytes : List ℕ). 64 + length bytes) content

then_light : (content : Option (List ℕ)) (rest : List (List ℕ)) → bytes_in (contents_then content rest) ≤ content_weight content + bytes_in rest
then_light None rest = omega arith
then_light (Some bytes) rest = omega arith

fields_light : (fs : List Field) → bytes_in (field_contents fs) ≤ sum_by field_weight fs
unfolding field_weight
fields_light [] = omega arith
fields_light (f ∷ fs) =
    let rest = fields_light fs in
    let one = then_light f.content (field_contents fs) in
    let all = sum_by-cons field_weight f fs in
    omega arith

module _ (a : Assembly) where
  types_light : (depth : ℕ) (top : Bool) (ts : List TypeDef) → are_types a top depth ts ≡ true → bytes_in (its_contents a ts) ≤ sum_by typedef_weight ts
  unfolding are_types own_weight
  types_light zero top [] m = omega arith
  types_light zero top (t ∷ ts) m = let none = eqb-true (suc (length ts)) 0 m in absurd (omega arith)
  types_light (suc depth) top ts m = go (λ us n. types_light depth false us n) ts (and_parts _ _ m).1
    where
      go : ((us : List TypeDef) → are_types a false depth us ≡ true → bytes_in (its_contents a us) ≤ sum_by typedef_weight us) → (us : List TypeDef) → list_all (Passes a top depth) us ≡ true →
          bytes_in (its_contents a us) ≤ sum_by typedef_weight us
      go deeper [] mm = omega arith
      go deeper (t ∷ us) mm =
          let ms = and_parts (Passes a top depth t) (list_all (Passes a top depth) us) mm in
          let own = and_parts (is_own a top (out-TypeDef t)) (are_types a false depth (out-TypeDef t).nested) ms.0 in
          let inner = deeper (out-TypeDef t).nested own.1 in
          let fields = fields_light (out-TypeDef t).fields in
          let is = ap bytes_in (contents_out a t) in
          let split = in_both (field_contents (out-TypeDef t).fields) (its_contents a (out-TypeDef t).nested) in
          let joined = in_both (class a.externs t).contents (its_contents a us) in
          let parts = weight_out t in
          let all = sum_by-cons typedef_weight t us in
          let rest = go deeper us ms.1 in
          omega arith

pub contents_light : (s : Source) (a : Assembly) → IsListingOf s a → bytes_in (contents a) ≤ 2 ^ 26
unfolding weight_of
contents_light s a listed =
    let wf = (assemblies_named a).0 listed.formed in
    let light = listed.light in
    let types = types_light a 100 true a.types wf.classes in
    let fields = fields_light a.fields in
    let joined = in_both (all_contents (classes a)) (field_contents a.fields) in
    omega arith
