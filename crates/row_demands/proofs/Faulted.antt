-- The first of the demands I8 to I12 that fails is a fault of the image.
use Rattle.std.proofs.Common.{◌≡◌, ℕ, ◌<◌, ◌≤◌, List, refl, arith, sym, subst}
use Rattle.std.specs.Prelude.{Option, Some, None, IfSome, IfNone}
use Rattle.body_codec.specs.Names.{NameMap}
use Rattle.image_model.specs.declared.place.Place.{Place}
use Rattle.image_model.specs.declared.place.Place.TheVariants.{Row, Whole}
use Rattle.image_model.specs.Cells.{HasEntry}
use Rattle.image_model.specs.Faults.{RowRule, indexes, entries, manifest, runs, order, scopes, signatures, distinct, values, header, instructions, clauses, tokens, attributes, bases, accessors, number_of, RowMeets, AllMeet, Holds, HoldBefore, NamedFor, IsFirstBad, HasTables, IsImageFault, in_row, in_entry}
use Rattle.demand_search.specs.Search as found

-- a map that names nothing: these demands don't ask what tokens name
abbrev pub no_names : NameMap
no_names = record { owners = λ t. None; methods = λ t. None; fields = λ t. None; locals = λ t. None; texts = λ t. None }

abbrev pub Meets : List ℕ → RowRule → ℕ → ℕ → Type 0
Meets image rule = RowMeets image no_names rule

unnamed : (image : List ℕ) (rule : RowRule) → number_of rule ≤ 13 → NamedFor image no_names rule
unnamed image rule early late = absurd (omega arith)

before_indexes : (image : List ℕ) → HoldBefore image no_names indexes
before_indexes image indexes early = absurd (omega arith)
before_indexes image entries early = absurd (omega arith)
before_indexes image manifest early = absurd (omega arith)
before_indexes image runs early = absurd (omega arith)
before_indexes image order early = absurd (omega arith)
before_indexes image scopes early = absurd (omega arith)
before_indexes image signatures early = absurd (omega arith)
before_indexes image distinct early = absurd (omega arith)
before_indexes image values early = absurd (omega arith)
before_indexes image header early = absurd (omega arith)
before_indexes image instructions early = absurd (omega arith)
before_indexes image clauses early = absurd (omega arith)
before_indexes image tokens early = absurd (omega arith)
before_indexes image attributes early = absurd (omega arith)
before_indexes image bases early = absurd (omega arith)
before_indexes image accessors early = absurd (omega arith)

pub fault_in_indexes : (image : List ℕ) → HasTables image → (table row : ℕ) → found.IsFirstBad (Meets image indexes) table row → IsImageFault image 8 (Row table row)
fault_in_indexes image has table row f =
    in_row no_names {rule = indexes} has (unnamed image indexes (omega arith)) (before_indexes image) (record { bad = f.bad; first = f.first }) refl

before_entries : (image : List ℕ) (all_indexes : AllMeet image no_names indexes) (entry : HasEntry image) → HoldBefore image no_names entries
before_entries image all_indexes entry indexes early = (all_indexes, entry)
before_entries image all_indexes entry entries early = absurd (omega arith)
before_entries image all_indexes entry manifest early = absurd (omega arith)
before_entries image all_indexes entry runs early = absurd (omega arith)
before_entries image all_indexes entry order early = absurd (omega arith)
before_entries image all_indexes entry scopes early = absurd (omega arith)
before_entries image all_indexes entry signatures early = absurd (omega arith)
before_entries image all_indexes entry distinct early = absurd (omega arith)
before_entries image all_indexes entry values early = absurd (omega arith)
before_entries image all_indexes entry header early = absurd (omega arith)
before_entries image all_indexes entry instructions early = absurd (omega arith)
before_entries image all_indexes entry clauses early = absurd (omega arith)
before_entries image all_indexes entry tokens early = absurd (omega arith)
before_entries image all_indexes entry attributes early = absurd (omega arith)
before_entries image all_indexes entry bases early = absurd (omega arith)
before_entries image all_indexes entry accessors early = absurd (omega arith)

pub fault_in_entries : (image : List ℕ) → HasTables image → AllMeet image no_names indexes → HasEntry image → (table row : ℕ) → found.IsFirstBad (Meets image entries) table row → IsImageFault image 9 (Row table row)
fault_in_entries image has all_indexes entry table row f =
    in_row no_names {rule = entries} has (unnamed image entries (omega arith)) (before_entries image all_indexes entry) (record { bad = f.bad; first = f.first }) refl

before_manifest : (image : List ℕ) (all_indexes : AllMeet image no_names indexes) (entry : HasEntry image) (all_entries : AllMeet image no_names entries) → HoldBefore image no_names manifest
before_manifest image all_indexes entry all_entries indexes early = (all_indexes, entry)
before_manifest image all_indexes entry all_entries entries early = all_entries
before_manifest image all_indexes entry all_entries manifest early = absurd (omega arith)
before_manifest image all_indexes entry all_entries runs early = absurd (omega arith)
before_manifest image all_indexes entry all_entries order early = absurd (omega arith)
before_manifest image all_indexes entry all_entries scopes early = absurd (omega arith)
before_manifest image all_indexes entry all_entries signatures early = absurd (omega arith)
before_manifest image all_indexes entry all_entries distinct early = absurd (omega arith)
before_manifest image all_indexes entry all_entries values early = absurd (omega arith)
before_manifest image all_indexes entry all_entries header early = absurd (omega arith)
before_manifest image all_indexes entry all_entries instructions early = absurd (omega arith)
before_manifest image all_indexes entry all_entries clauses early = absurd (omega arith)
before_manifest image all_indexes entry all_entries tokens early = absurd (omega arith)
before_manifest image all_indexes entry all_entries attributes early = absurd (omega arith)
before_manifest image all_indexes entry all_entries bases early = absurd (omega arith)
before_manifest image all_indexes entry all_entries accessors early = absurd (omega arith)

pub fault_in_manifest : (image : List ℕ) → HasTables image → AllMeet image no_names indexes → HasEntry image → AllMeet image no_names entries → (table row : ℕ) → found.IsFirstBad (Meets image manifest) table row → IsImageFault image 10 (Row table row)
fault_in_manifest image has all_indexes entry all_entries table row f =
    in_row no_names {rule = manifest} has (unnamed image manifest (omega arith)) (before_manifest image all_indexes entry all_entries) (record { bad = f.bad; first = f.first }) refl

before_runs : (image : List ℕ) (all_indexes : AllMeet image no_names indexes) (entry : HasEntry image) (all_entries : AllMeet image no_names entries) (all_manifest : AllMeet image no_names manifest) → HoldBefore image no_names runs
before_runs image all_indexes entry all_entries all_manifest indexes early = (all_indexes, entry)
before_runs image all_indexes entry all_entries all_manifest entries early = all_entries
before_runs image all_indexes entry all_entries all_manifest manifest early = all_manifest
before_runs image all_indexes entry all_entries all_manifest runs early = absurd (omega arith)
before_runs image all_indexes entry all_entries all_manifest order early = absurd (omega arith)
before_runs image all_indexes entry all_entries all_manifest scopes early = absurd (omega arith)
before_runs image all_indexes entry all_entries all_manifest signatures early = absurd (omega arith)
before_runs image all_indexes entry all_entries all_manifest distinct early = absurd (omega arith)
before_runs image all_indexes entry all_entries all_manifest values early = absurd (omega arith)
before_runs image all_indexes entry all_entries all_manifest header early = absurd (omega arith)
before_runs image all_indexes entry all_entries all_manifest instructions early = absurd (omega arith)
before_runs image all_indexes entry all_entries all_manifest clauses early = absurd (omega arith)
before_runs image all_indexes entry all_entries all_manifest tokens early = absurd (omega arith)
before_runs image all_indexes entry all_entries all_manifest attributes early = absurd (omega arith)
before_runs image all_indexes entry all_entries all_manifest bases early = absurd (omega arith)
before_runs image all_indexes entry all_entries all_manifest accessors early = absurd (omega arith)

pub fault_in_runs : (image : List ℕ) → HasTables image → AllMeet image no_names indexes → HasEntry image → AllMeet image no_names entries → AllMeet image no_names manifest → (table row : ℕ) → found.IsFirstBad (Meets image runs) table row → IsImageFault image 11 (Row table row)
fault_in_runs image has all_indexes entry all_entries all_manifest table row f =
    in_row no_names {rule = runs} has (unnamed image runs (omega arith)) (before_runs image all_indexes entry all_entries all_manifest) (record { bad = f.bad; first = f.first }) refl

before_order : (image : List ℕ) (all_indexes : AllMeet image no_names indexes) (entry : HasEntry image) (all_entries : AllMeet image no_names entries) (all_manifest : AllMeet image no_names manifest) (all_runs : AllMeet image no_names runs) → HoldBefore image no_names order
before_order image all_indexes entry all_entries all_manifest all_runs indexes early = (all_indexes, entry)
before_order image all_indexes entry all_entries all_manifest all_runs entries early = all_entries
before_order image all_indexes entry all_entries all_manifest all_runs manifest early = all_manifest
before_order image all_indexes entry all_entries all_manifest all_runs runs early = all_runs
before_order image all_indexes entry all_entries all_manifest all_runs order early = absurd (omega arith)
before_order image all_indexes entry all_entries all_manifest all_runs scopes early = absurd (omega arith)
before_order image all_indexes entry all_entries all_manifest all_runs signatures early = absurd (omega arith)
before_order image all_indexes entry all_entries all_manifest all_runs distinct early = absurd (omega arith)
before_order image all_indexes entry all_entries all_manifest all_runs values early = absurd (omega arith)
before_order image all_indexes entry all_entries all_manifest all_runs header early = absurd (omega arith)
before_order image all_indexes entry all_entries all_manifest all_runs instructions early = absurd (omega arith)
before_order image all_indexes entry all_entries all_manifest all_runs clauses early = absurd (omega arith)
before_order image all_indexes entry all_entries all_manifest all_runs tokens early = absurd (omega arith)
before_order image all_indexes entry all_entries all_manifest all_runs attributes early = absurd (omega arith)
before_order image all_indexes entry all_entries all_manifest all_runs bases early = absurd (omega arith)
before_order image all_indexes entry all_entries all_manifest all_runs accessors early = absurd (omega arith)

pub fault_in_order : (image : List ℕ) → HasTables image → AllMeet image no_names indexes → HasEntry image → AllMeet image no_names entries → AllMeet image no_names manifest → AllMeet image no_names runs → (table row : ℕ) → found.IsFirstBad (Meets image order) table row → IsImageFault image 12 (Row table row)
fault_in_order image has all_indexes entry all_entries all_manifest all_runs table row f =
    in_row no_names {rule = order} has (unnamed image order (omega arith)) (before_order image all_indexes entry all_entries all_manifest all_runs) (record { bad = f.bad; first = f.first }) refl

-- the same, told by what the search found
pub told : (image : List ℕ) (rule : ℕ) (at place : Place) (number : ℕ) → number ≡ rule → place ≡ at → IsImageFault image rule at → IsImageFault image number place
told image rule at place number e f h = subst (λ n. IsImageFault image n place) (sym e) (subst (IsImageFault image rule) (sym f) h)

pub of_some : {X : Type 0} (P : X → Type 0) (o : Option X) (x : X) → o ≡ Some x → IfSome o P → P x
of_some P o x e h = subst (λ o. IfSome o P) e h

pub of_none : {X : Type 0} (P : Type 0) (o : Option X) → o ≡ None → IfNone o P → P
of_none P o e h = subst (λ o. IfNone o P) e h
