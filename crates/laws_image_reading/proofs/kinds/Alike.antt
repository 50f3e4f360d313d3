-- Members of a type whose rows have one name and one signature have one row.
use Rattle.std.proofs.Common.{◌≡◌, sym, ◌∙◌, subst, ℕ, ◌+◌, ◌-◌, Bool, true, List, length, Option, Contains, inl, inr, arith}
use Rattle.std.specs.Prelude.{IsTrue}
use Rattle.std.specs.List.{AllByRecursion, AllZip}
use Rattle.std.proofs.lemmas.Bool.{cases_eq}
use Rattle.assembly_tree.specs.WellFormedNames.{all_differ}
use Rattle.heaps.specs.Content.{HasText, HasBlob}
use Rattle.sig_codec.specs.Spelling.{Notation, reading}
use Rattle.sig_codec.specs.Tokens.{GivesBack}
use Rattle.type_terms.specs.declared.term.Owner.{Owner}
use Rattle.image_tokens.specs.References.{HasSignature, tokens_of}
use Rattle.image_tokens.specs.declared.references.References.{References}
use Rattle.image_members.specs.declared.classes.Class.{Class}
use Rattle.image_layout.specs.Laws.{ReadsHeaps}
use Rattle.image_model.specs.Members.{AreOfOneType, HaveOne, HaveOneName}
use Rattle.image_model.specs.Rows.{count_of}
use Rattle.image_model.specs.Streams.{blobs_of, strings_of}
use Rattle.laws_image_parts.specs.AtRows.{AtEach}
use Rattle.laws_image_parts.proofs.names.OneToken.{OneBlob, OneText}
use Rattle.laws_image_parts.proofs.names.SignatureLemmas.{Rereads, SpellsOne, is_signature}
use Rattle.laws_image_reading.proofs.kinds.General.{all_at, get_some}
use Rattle.laws_image_reading.proofs.kinds.Same.{one_row}

-- ---- members of one type

module _ {X : Type 0} (Is : ℕ → X → Type 0) (same : X → X → Bool) (members : ℕ → List ℕ) (image : List ℕ) (classes : List Class) (first : List X) (of : Class → List X)
    (types : count_of image 0x02 ≡ 1 + length classes) (in_module : AllZip Is (members 1) first) (in_class : AtEach (λ type c. AllZip Is (members type) (of c)) 2 classes)
    (module_differs : IsTrue (all_differ same first)) (classes_differ : AllByRecursion (λ c. IsTrue (all_differ same (of c))) classes) where
  -- two whose items are the same are one
  pub one_member : (a b : ℕ) → AreOfOneType image members a b → ((x y : X) → Is a x → Is b y → (same x y ≡ true) × (same y x ≡ true)) → a ≡ b
  one_member a b (type, there, in_a, in_b) alike = elim (cases_eq type 1) [
    | inl top ↦
        one_row Is same (members 1) first in_module module_differs a b alike (subst (λ t. Contains (members t) a) top in_a) (subst (λ t. Contains (members t) b) top in_b)
    | inr later ↦
        let some = there.0 in
        let high = there.1 in
        let found = get_some classes (type - 2) (omega arith) in
        let place : type ≡ 2 + (type - 2) = omega arith in
        one_row Is same (members (2 + (type - 2))) (of found.0) (in_class (type - 2) found.0 found.1)
        (all_at (λ c. IsTrue (all_differ same (of c))) classes (type - 2) found.0 classes_differ found.1) a b alike (subst (λ t. Contains (members t) a) place in_a)
        (subst (λ t. Contains (members t) b) place in_b)
  ]

-- ---- names and signatures of rows

pub name_alike : (image : List ℕ) → OneText image → (name : ℕ → ℕ) (a b : ℕ) (x y : List ℕ) → HasText (strings_of image) (name a) x → HasText (strings_of image) (name b) y
    → HaveOneName image name a b → x ≡ y
name_alike image text name a b x y h k one = text (name a) x one.0 h one.1 ∙ text (name b) one.0 y one.2 k

-- what the rows of a member hold
pub record HasContent {Y : Type 0} (Spells : Notation → Y → List ℕ → Type 0) (Taken : Y → Type 0) (r : References) (image : List ℕ) (name_cell sig_cell : ℕ) (name : List ℕ) (sig : Y) : Type 0 where
  pub named : HasText (strings_of image) name_cell name
  pub at : ℕ
  pub signature : HasSignature Spells r sig at
  pub cell : sig_cell ≡ at
  pub taken : Taken sig

module _ {Y : Type 0} (Spells : Notation → Y → List ℕ → Type 0) (Taken : Y → Type 0) (rereads : Rereads Spells) (one : SpellsOne Spells Taken) (r : References) (image : List ℕ)
    (text : OneText image) (blob : OneBlob) (heaps : ReadsHeaps r image) (owners : ℕ → Option Owner) (back : GivesBack (tokens_of r) owners) where
  -- what a signature's bytes are
  abbrev pub Tells : (ℕ → ℕ) → (ℕ → Y → Type 0) → Type 0
  Tells sig Has = (row : ℕ) (s : Y) → Has row s → (bytes : List ℕ) × HasBlob (blobs_of image) (sig row) bytes × Spells (reading owners) s bytes × Taken s

  sig_is : (sig : ℕ → ℕ) (Has : ℕ → Y → Type 0) → Tells sig Has → (row : ℕ) (s x : Y) (at : ℕ) → HasSignature Spells r x at → sig row ≡ at → Taken x → Has row s → x ≡ s
  sig_is sig Has tells row s x at h cell taken has =
      let t = tells row s has in
      is_signature Spells Taken rereads one r image blob heaps owners back x s at (sig row) t.0 h cell taken t.1 t.2 t.3

  pub content_alike : (name sig : ℕ → ℕ) (Has : ℕ → Y → Type 0) → Tells sig Has → (a b : ℕ) (x y : List ℕ) (s t : Y) → HasContent Spells Taken r image (name a) (sig a) x s
      → HasContent Spells Taken r image (name b) (sig b) y t → HaveOneName image name a b → HaveOne Has a b → (x ≡ y) × (s ≡ t)
  content_alike name sig Has tells a b x y s t h k names sigs = (
    name_alike image text name a b x y h.named k.named names,
    sig_is sig Has tells a sigs.0 s h.at h.signature h.cell h.taken sigs.1 ∙ sym (sig_is sig Has tells b sigs.0 t k.at k.signature k.cell k.taken sigs.2),
  )
