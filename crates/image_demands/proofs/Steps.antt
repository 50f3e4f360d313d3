-- A demand holds besides those below it, or is the first that fails.
use Rattle.std.proofs.Common.{◌≡◌, ℕ, ◌+◌, ◌<◌, inl, inr, List, Option, Some, None, refl, sym, ap, subst, ◌∙◌, arith}
use Rattle.std.specs.Prelude.{◌==◌, if◌then◌else◌, IfSome, IfNone}
use Rattle.std.specs.Option.{option_map}
use Rattle.std.proofs.lemmas.Bool.{cases_lt}
use Rattle.body_codec.specs.Names.{NameMap}
use Rattle.demand_search.specs.Search as found
use Rattle.metadata_tables.specs.Faults.{IsEarlier}
use Rattle.image_model.specs.declared.place.Place.TheVariants.{Row}
use Rattle.image_model.specs.Faults.{RowRule, indexes, entries, manifest, runs, order, scopes, signatures, distinct, values, header, instructions, clauses, tokens, attributes, bases, accessors, number_of, RowMeets, AllMeet, Holds, HasTables, IsImageFault, in_row}
use Rattle.image_model.specs.Members.{HasBase, HasOwnAccessors}
use Rattle.image_model.specs.Namings.{AreNamings}
use Rattle.image_model.specs.ReadLaws.{OneNaming}
use Rattle.image_streams.specs.declared.opened.Unmet.{Unmet}
use Rattle.image_demands.specs.Meeting.{MeetBelow, FailsOr, unmet_at}

-- ---- demands and their numbers

abbrev rule_at : ℕ → RowRule
rule_at n =
    if n == 8 then indexes else if n == 9 then entries else if n == 10 then manifest else if n == 11 then runs else if n == 12 then order
    else if n == 13 then scopes else if n == 14 then signatures else if n == 15 then distinct else if n == 16 then values else if n == 17 then header
    else if n == 18 then instructions else if n == 19 then clauses else if n == 20 then tokens else if n == 21 then attributes else if n == 22 then bases
    else accessors

rule_is : (rule : RowRule) → rule_at (number_of rule) ≡ rule
rule_is indexes = refl
rule_is entries = refl
rule_is manifest = refl
rule_is runs = refl
rule_is order = refl
rule_is scopes = refl
rule_is signatures = refl
rule_is distinct = refl
rule_is values = refl
rule_is header = refl
rule_is instructions = refl
rule_is clauses = refl
rule_is tokens = refl
rule_is attributes = refl
rule_is bases = refl
rule_is accessors = refl

one_rule : (rule other : RowRule) → number_of rule ≡ number_of other → rule ≡ other
one_rule rule other e = sym (rule_is rule) ∙ ap rule_at e ∙ rule_is other

pub below_24 : (rule : RowRule) → number_of rule < 24
below_24 indexes = omega arith
below_24 entries = omega arith
below_24 manifest = omega arith
below_24 runs = omega arith
below_24 order = omega arith
below_24 scopes = omega arith
below_24 signatures = omega arith
below_24 distinct = omega arith
below_24 values = omega arith
below_24 header = omega arith
below_24 instructions = omega arith
below_24 clauses = omega arith
below_24 tokens = omega arith
below_24 attributes = omega arith
below_24 bases = omega arith
below_24 accessors = omega arith

-- ---- one demand more

module _ (image : List ℕ) (number : ℕ) (below : MeetBelow image number) (rule : RowRule) (is : number_of rule ≡ number) where
  pub one_more : ((names : NameMap) → AreNamings image names → Holds image names rule) → MeetBelow image (number + 1)
  one_more holds = record {
    named = below.named;
    held = λ names are r less. elim (cases_lt (number_of r) number) [
      | inl early ↦ below.held names are r early
      | inr late ↦ subst (λ (s : RowRule). Holds image names s) (one_rule rule r (omega arith)) (holds names are)
    ];
  }

  -- where a row doesn't meet it by all names, and those before do
  pub first_fails : HasTables image → OneNaming → (table row : ℕ) → (((names : NameMap) → AreNamings image names → RowMeets image names rule table row) → ⊥)
      → ((names : NameMap) → AreNamings image names → (t r : ℕ) → IsEarlier t r table row → RowMeets image names rule t r) → IsImageFault image number (Row table row)
  first_fails has one table row bad first =
      let n = below.named in
      in_row n.0 {rule = rule} has (λ l. n.1) (λ earlier less. below.held n.0 n.1 earlier (omega arith))
      (record { bad = λ m. bad (λ names are. subst (λ (k : NameMap). RowMeets image k rule table row) (one image n.0 names n.1 are) m); first = first n.0 n.1 }) (sym is)

-- ---- what a search found

module _ (image : List ℕ) (number : ℕ) (After : Type 0) (Meets : List ℕ → ℕ → ℕ → Type 0) (seen : List ℕ) (same : seen ≡ image) (o : Option (ℕ × ℕ)) where
  searched : (r : Option (ℕ × ℕ)) → o ≡ r → IfSome o (λ a. found.IsFirstBad (Meets seen) a.0 a.1) → IfNone o (found.AllMeet (Meets seen))
      → ((t r : ℕ) → found.IsFirstBad (Meets image) t r → IsImageFault image number (Row t r)) → (found.AllMeet (Meets image) → After)
      → FailsOr image After (option_map (unmet_at number) r)
  searched None e bad none fails meets = meets (subst (λ (i : List ℕ). found.AllMeet (Meets i)) same (subst (λ (x : Option (ℕ × ℕ)). IfNone x (found.AllMeet (Meets seen))) e none))
  searched (Some a) e bad none fails meets =
      let b = subst (λ (x : Option (ℕ × ℕ)). IfSome x (λ p. found.IsFirstBad (Meets seen) p.0 p.1)) e bad in
      fails a.0 a.1 (subst (λ (i : List ℕ). found.IsFirstBad (Meets i) a.0 a.1) same b)

  pub looked : IfSome o (λ a. found.IsFirstBad (Meets seen) a.0 a.1) → IfNone o (found.AllMeet (Meets seen))
      → ((t r : ℕ) → found.IsFirstBad (Meets image) t r → IsImageFault image number (Row t r)) → (found.AllMeet (Meets image) → After)
      → (result : Option Unmet) → result ≡ option_map (unmet_at number) o → FailsOr image After result
  looked bad none fails meets result e = subst (FailsOr image After) (sym e) (searched o refl bad none fails meets)

-- a demand that asks what tokens name
abbrev pub ByNames : RowRule → List ℕ → ℕ → ℕ → Type 0
ByNames rule image table row = (names : NameMap) → AreNamings image names → RowMeets image names rule table row

-- the same of a search for a row that doesn't meet such a demand
module _ (image : List ℕ) (has : HasTables image) (one : OneNaming) (seen : List ℕ) (same : seen ≡ image) (o : Option (ℕ × ℕ)) (result : Option Unmet) where
  by_names : (rule : RowRule) (number : ℕ) → number_of rule ≡ number → ((names : NameMap) → AllMeet image names rule → Holds image names rule) → MeetBelow image number
      → IfSome o (λ a. found.IsFirstBad (ByNames rule seen) a.0 a.1) → IfNone o (found.AllMeet (ByNames rule seen))
      → result ≡ option_map (unmet_at number) o → FailsOr image (MeetBelow image (number + 1)) result
  by_names rule number is all below bad none e =
      looked image number (MeetBelow image (number + 1)) (ByNames rule) seen same o bad none
      (λ t r f. first_fails image number below rule is has one t r f.bad (λ names are a b l. f.first a b l names are))
      (λ m. one_more image number below rule is (λ names are. all names (λ t r. m t r names are))) result e

  pub distinct_next : MeetBelow image 15 → IfSome o (λ a. found.IsFirstBad (ByNames distinct seen) a.0 a.1) → IfNone o (found.AllMeet (ByNames distinct seen))
      → result ≡ option_map (unmet_at 15) o → FailsOr image (MeetBelow image 16) result
  distinct_next below bad none e = by_names distinct 15 refl (λ names m. m) below bad none e

  pub values_next : MeetBelow image 16 → IfSome o (λ a. found.IsFirstBad (ByNames values seen) a.0 a.1) → IfNone o (found.AllMeet (ByNames values seen))
      → result ≡ option_map (unmet_at 16) o → FailsOr image (MeetBelow image 17) result
  values_next below bad none e = by_names values 16 refl (λ names m. m) below bad none e

  pub attributes_next : MeetBelow image 21 → IfSome o (λ a. found.IsFirstBad (ByNames attributes seen) a.0 a.1) → IfNone o (found.AllMeet (ByNames attributes seen))
      → result ≡ option_map (unmet_at 21) o → FailsOr image (MeetBelow image 22) result
  attributes_next below bad none e = by_names attributes 21 refl (λ names m. m) below bad none e

-- and of demands that ask no names
module _ (image : List ℕ) (has : HasTables image) (seen : List ℕ) (same : seen ≡ image) (o : Option (ℕ × ℕ)) (result : Option Unmet) where
  pub bases_next : MeetBelow image 22 → IfSome o (λ a. found.IsFirstBad (HasBase seen) a.0 a.1) → IfNone o (found.AllMeet (HasBase seen))
      → result ≡ option_map (unmet_at 22) o → FailsOr image (MeetBelow image 23) result
  bases_next below bad none e =
      looked image 22 (MeetBelow image 23) HasBase seen same o bad none
      (λ t r f. in_row below.named.0 {rule = bases} has (λ l. below.named.1) (λ earlier less. below.held below.named.0 below.named.1 earlier less) (record { bad = f.bad; first = f.first }) refl)
      (λ m. one_more image 22 below bases refl (λ names are. m)) result e

  pub accessors_next : MeetBelow image 23 → IfSome o (λ a. found.IsFirstBad (HasOwnAccessors seen) a.0 a.1) → IfNone o (found.AllMeet (HasOwnAccessors seen))
      → result ≡ option_map (unmet_at 23) o → FailsOr image (MeetBelow image 24) result
  accessors_next below bad none e =
      looked image 23 (MeetBelow image 24) HasOwnAccessors seen same o bad none
      (λ t r f. in_row below.named.0 {rule = accessors} has (λ l. below.named.1) (λ earlier less. below.held below.named.0 below.named.1 earlier less) (record { bad = f.bad; first = f.first }) refl)
      (λ m. one_more image 23 below accessors refl (λ names are. m)) result e
