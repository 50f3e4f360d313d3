-- What is told of the types of TypeSpec rows is so.
use Rattle.std.proofs.Common.{◌≡◌, ℕ, ◌+◌, ◌*◌, ◌/◌, ◌%◌, ◌^◌, ◌≤◌, ◌<◌, false, List, Option, Some, None, refl, sym, ap, subst, ◌∙◌, arith}
use Rattle.std.specs.Option.{option_map}
use Rattle.std.specs.Prelude.{◌↔◌, IsTrue, nat_eq}
use Rattle.std.proofs.lemmas.Bool.{eqb-true, eq-eqb}
use Rattle.heaps.specs.LookUp.{blob_in}
use Rattle.heaps.proofs.Computed.{blob_is_computed}
use Rattle.type_terms.specs.Depth.{depth, owner_depth}
use Rattle.type_terms.specs.declared.term.Owner.{Owner}
use Rattle.type_terms.specs.declared.term.Owner.TheVariants.{Name, Spec}
use Rattle.type_terms.specs.declared.term.SigType.{SigType}
use Rattle.image_model.specs.Columns.{type_spec_signature}
use Rattle.image_model.specs.Naming.{RowOwner, defined, referred, specified, IsToken, NamesOwner, by_row, TellsOwners}
use Rattle.image_model.specs.Rows.{HasRow, token_of}
use Rattle.image_model.specs.Streams.{blobs_of}
use Rattle.image_namings.proofs.Transfer.{depth-Spec}
use Rattle.sig_codec.specs.Signature.{IsType}
use Rattle.sig_codec.specs.Reading.{◌>>=◌, whole_type}
use Rattle.sig_codec.proofs.Numbers.{some_is, bind_some}
use Rattle.sig_codec.proofs.Whole.{type_whole, whole_type_again}
use Rattle.signature_facts.specs.declared.facts.OwnerFacts.{OwnerFacts}
use Rattle.signature_facts.specs.Facts.{Naming, owner_facts}
use Rattle.signature_facts.specs.Owners.{AreFacts}
use Rattle.signature_facts.specs.Scanning.{OwnersFacts}
use Rattle.signature_facts.proofs.Sizes.{owner_sizes}
use Rattle.owner_numbers.specs.Terms.{term_in, term_of, depth_in, hash_in, level_at, hash_at}

-- the bytes of what is spelled
pub record IsSpelled (image : List ℕ) (owners : ℕ → Option Owner) (index : ℕ) (t : SigType) : Type 0 where
  pub bytes : List ℕ
  pub blob : blob_in (blobs_of image) index ≡ Some bytes
  pub whole : whole_type owners bytes ≡ Some t

pub spelled : (image : List ℕ) (owners : ℕ → Option Owner) (index : ℕ) (t : SigType) → term_in image owners index ≡ Some t → IsSpelled image owners index t
unfolding term_in
spelled image owners index t e =
    let b = bind_some (blob_in (blobs_of image) index) (whole_type owners) t e in
    record { bytes = b.0; blob = b.1; whole = b.2 }

spelled_back : (image : List ℕ) (owners : ℕ → Option Owner) (index : ℕ) (t : SigType) (bytes : List ℕ) → blob_in (blobs_of image) index ≡ Some bytes → whole_type owners bytes ≡ Some t
    → term_in image owners index ≡ Some t
unfolding term_in
spelled_back image owners index t bytes b e = rw b e

module _ (image : List ℕ) (owners : ℕ → Option Owner) (tells : TellsOwners image owners) where
  -- a token names the type of its row
  pub token_named : (row : ℕ) (t : SigType) → HasRow image 0x1B row → row < 2 ^ 24 → term_of image owners row ≡ Some t → owners (token_of 0x1B row) ≡ Some (Spec t)
  token_named row t there few e =
      let s = spelled image owners (type_spec_signature image row) t e in
      let is : IsToken (token_of 0x1B row) 0x1B row = record { is = refl; fits = few } in
      (tells (token_of 0x1B row) (Spec t)).1
      (by_row is (specified refl there ((blob_is_computed (blobs_of image) (type_spec_signature image row) s.bytes).1 s.blob) (type_whole owners s.bytes t s.whole)))

  pub record IsSpec (row : ℕ) (o : Owner) : Type 0 where
    pub term : SigType
    pub is : o ≡ Spec term
    pub there : HasRow image 0x1B row
    pub spells : term_of image owners row ≡ Some term

  row_spec : {table r : ℕ} {o : Owner} → (token row : ℕ) → row < 2 ^ 24 → token ≡ 0x1B * 2 ^ 24 + row → token ≡ table * 2 ^ 24 + r → r < 2 ^ 24 → RowOwner image owners table r o → IsSpec row o
  row_spec token row few a b fits (defined e h p) = absurd (omega arith)
  row_spec token row few a b fits (referred e h p) = absurd (omega arith)
  row_spec {r = r} token row few a b fits (specified {bytes = bytes} {term = term} e h blob s) =
      let same : r ≡ row = omega arith in
      let found : term_of image owners r ≡ Some term =
      spelled_back image owners (type_spec_signature image r) term bytes ((blob_is_computed (blobs_of image) (type_spec_signature image r) bytes).0 blob) (whole_type_again owners bytes term s) in
      record {
        term = term;
        is = refl;
        there = subst (HasRow image 0x1B) same h;
        spells = subst (λ (q : ℕ). term_of image owners q ≡ Some term) same found;
      }

  named_spec : {token : ℕ} {o : Owner} → (row : ℕ) → row < 2 ^ 24 → token ≡ 0x1B * 2 ^ 24 + row → NamesOwner image owners token o → IsSpec row o
  named_spec {token = token} row few e (by_row is h) = row_spec token row few e is.is is.fits h

  -- what a token of TypeSpec names is the type of its row
  pub token_spec : (row : ℕ) (o : Owner) → row < 2 ^ 24 → owners (token_of 0x1B row) ≡ Some o → IsSpec row o
  token_spec row o few e = named_spec row few refl ((tells (token_of 0x1B row) o).0 e)

  token_none : (row : ℕ) → row < 2 ^ 24 → term_of image owners row ≡ None → (r : Option Owner) → owners (token_of 0x1B row) ≡ r → r ≡ None
  token_none row few none None e = refl
  token_none row few none (Some o) e = absurd (let s = token_spec row o few e in let t = s.spells in cc)

  module _ (naming : Naming) (facts : OwnersFacts) (are : AreFacts naming owners facts) (row : ℕ) (there : HasRow image 0x1B row) (few : row < 2 ^ 24) where
    abbrev spec_facts : SigType → OwnerFacts
    spec_facts t = owner_facts naming (Spec t)

    facts_told : (r : Option SigType) → term_of image owners row ≡ r → facts (token_of 0x1B row) ≡ option_map spec_facts r
    facts_told None e = are (token_of 0x1B row) ∙ ap (option_map (owner_facts naming)) (token_none row few e (owners (token_of 0x1B row)) refl)
    facts_told (Some t) e = are (token_of 0x1B row) ∙ ap (option_map (owner_facts naming)) (token_named row t there few e)

    spec_depth : (t : SigType) → term_of image owners row ≡ Some t → depth_in (spec_facts t) ≡ depth t
    spec_depth t e =
        let s = spelled image owners (type_spec_signature image row) t e in
        let is = type_whole owners s.bytes t s.whole in
        let deep = is.1 in
        let sized = (owner_sizes naming (Spec t)).depth in
        omega (arith, depth-Spec t)

    pub level_some : (t : SigType) → term_of image owners row ≡ Some t → level_at facts row ≡ Some (depth t)
    level_some t e = ap (option_map depth_in) (facts_told (Some t) e) ∙ ap (λ (n : ℕ). Some n) (spec_depth t e)

    level_cases : (d : ℕ) → level_at facts row ≡ Some d → (r : Option SigType) → term_of image owners row ≡ r → (t : SigType) × (term_of image owners row ≡ Some t) × (depth t ≡ d)
    level_cases d l None e = absurd (let f = ap (option_map depth_in) (facts_told None e) in cc)
    level_cases d l (Some t) e = (t, e, some_is (depth t) d (sym (level_some t e) ∙ l))

    pub level_back : (d : ℕ) → level_at facts row ≡ Some d → (t : SigType) × (term_of image owners row ≡ Some t) × (depth t ≡ d)
    level_back d l = level_cases d l (term_of image owners row) refl

    pub hash_is : (t : SigType) → term_of image owners row ≡ Some t → hash_at facts row ≡ (spec_facts t).facts.hash
    hash_is t e = ap hash_in (facts_told (Some t) e)

-- ---- what is found of a token

pub level_found : (f : Option OwnerFacts) (of : OwnerFacts) (level : ℕ) → f ≡ Some of → IsTrue (nat_eq (depth_in of) level) ↔ (option_map depth_in f ≡ Some level)
level_found f of level e = (
  λ t. ap (option_map depth_in) e ∙ ap (λ (n : ℕ). Some n) (eqb-true (depth_in of) level t),
  λ h. eq-eqb (depth_in of) level (some_is (depth_in of) level (sym (ap (option_map depth_in) e) ∙ h)),
)

pub level_lacks : (f : Option OwnerFacts) (level : ℕ) → f ≡ None → IsTrue false ↔ (option_map depth_in f ≡ Some level)
level_lacks f level e = (λ t. absurd cc, λ h. absurd (let n = sym (ap (option_map depth_in) e) ∙ h in cc))

pub depth_found : (f : Option OwnerFacts) (of : OwnerFacts) → f ≡ Some of → (d : ℕ) → option_map depth_in f ≡ Some d → d ≤ depth_in of
depth_found f of e d h = let s = some_is (depth_in of) d (sym (ap (option_map depth_in) e) ∙ h) in omega arith

pub depth_lacks : (f : Option OwnerFacts) (n : ℕ) → f ≡ None → (d : ℕ) → option_map depth_in f ≡ Some d → d ≤ n
depth_lacks f n e d h = absurd (let k = sym (ap (option_map depth_in) e) ∙ h in cc)
