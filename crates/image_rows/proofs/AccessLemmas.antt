-- Accessors of events and properties, with the rows of their methods.
use Rattle.std.proofs.Common.{◌≡◌, ap, ◌∙◌, refl, ℕ, ◌+◌, List, [], ◌∷◌, ◌++◌, map, length, sum_by, arith}
use Rattle.std.proofs.lemmas.List.Sums.{sum_by-cons}
use Rattle.assembly_tree.specs.declared.assembly.Assembly.{Assembly}
use Rattle.assembly_tree.specs.declared.members.Accessor.{Accessor}
use Rattle.image_members.specs.DeclaredMembers.{class_methods}
use Rattle.image_members.specs.Lists.{access_of, access_from, event_access, property_access, accessor_lists}
use Rattle.image_rows.specs.SemanticsRows.{methods_of, with_methods}
use Rattle.image_members.specs.declared.classes.Class.{Class}
use Rattle.image_rows.specs.declared.semantics_rows.Access.{Access}
use Rattle.image_rows.specs.declared.semantics_rows.Accessing.{Accessing}
use Rattle.image_members.proofs.PlaceLemmas.{FilledTo, filled_begin, filled_on, filled_end}

abbrev pub access_by : {X : Type 0} → (X → List Accessor) → ℕ → X → List (ℕ × ℕ)
access_by of first x = access_of first (of x)

abbrev pub Accesses : Type 0
Accesses = List (List (ℕ × ℕ))

abbrev method_count : Class → ℕ
method_count c = length (class_methods c)

-- ---- types whose methods follow one another

-- those of the types before `rest`, whose first method has this row, are there
pub record AccessesTo (access : ℕ → Class → Accesses) (first row : ℕ) (start now : Accesses) (all rest : List Class) : Type 0 where
  pub filled : FilledTo start now (access_from access first all) (access_from access row rest)
  pub row_is : row + sum_by method_count rest ≡ first + sum_by method_count all

module _ (access : ℕ → Class → Accesses) (first : ℕ) (start : Accesses) (all : List Class) where
  pub accesses_begin : AccessesTo access first first start start all all
  accesses_begin = record { filled = filled_begin start (access_from access first all); row_is = refl }

  module _ (row : ℕ) (now : Accesses) (rest : List Class) where
    module _ (c : Class) (more : List Class) (e : rest ≡ c ∷ more) (d : AccessesTo access first row start now all rest) where
      pub row_within : row + (method_count c + sum_by method_count more) ≡ first + sum_by method_count all
      row_within = let row_is = d.row_is in let sum = ap (sum_by method_count) e ∙ sum_by-cons method_count c more in omega arith

      pub accesses_on : (next : Accesses) → next ≡ now ++ access row c → AccessesTo access first (row + method_count c) start next all more
      accesses_on next n = record {
        filled = filled_on start now next (access_from access first all) (access_from access row rest) (access row c) (access_from access (row + method_count c) more)
            (ap (access_from access row) e) d.filled n;
        row_is = (let within = row_within in omega arith);
      }

    pub accesses_end : rest ≡ [] → AccessesTo access first row start now all rest → now ≡ start ++ access_from access first all
    accesses_end e d = filled_end start now (access_from access first all) (access_from access row rest) (ap (access_from access row) e) d.filled

-- ---- both tables

pub accessors_listed : (a : Assembly) (classes : List Class) (tables : List Accessing) (events properties : List Access) (first : ℕ)
    → tables ≡ record { table = 0x14; of = events } ∷ record { table = 0x17; of = properties } ∷ [] → first ≡ length a.methods + 1
    → map methods_of events ≡ access_from event_access first classes → map methods_of properties ≡ access_from property_access first classes
    → map with_methods tables ≡ accessor_lists a classes
accessors_listed a classes tables events properties first e f p q =
    let same : first ≡ 1 + length a.methods = omega arith in
    ap (map with_methods) e
    ∙ ap (λ lists. (0x14, lists) ∷ (0x17, map methods_of properties) ∷ []) (p ∙ ap (λ n. access_from event_access n classes) same)
    ∙ ap (λ lists. (0x14, access_from event_access (1 + length a.methods) classes) ∷ (0x17, lists) ∷ []) (q ∙ ap (λ n. access_from property_access n classes) same)
