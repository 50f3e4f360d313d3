-- The assemblies that count, one reference after the other.
use Rattle.std.proofs.Common.{◌≡◌, ◌∙◌, ap, refl, sym, ℕ, ◌+◌, ◌<◌, ◌≤◌, true, false, if◌then◌else◌, List, [], ◌∷◌, ◌++◌, length, map, get_or, drop, arith, add-one}
use Rattle.std.specs.List.{list_any}
use Rattle.std.proofs.lemmas.List.{append_assoc, map-append}
use Rattle.std.proofs.lemmas.Option.{slice_get_read, get_or_from_slice_get}
use Rattle.std.proofs.Math.Seq.{drop-cons}
use Rattle.assembly_tree.specs.declared.assembly.Assembly.{Assembly}
use Rattle.type_tables.specs.Members.{assembly_of, member}
use Rattle.type_hierarchy.specs.Names.{same_text}
use Rattle.type_hierarchy.specs.Scopes.{Sources, Member, given, members, members_from, name_of}

abbrev pub number_name : Sources → ℕ → List ℕ
number_name s n = name_of (assembly_of s n)

module _ (s : Sources) (ns : List ℕ) (k : ℕ) (r : Assembly) (low : k < length s.references) (is : r ≡ get_or s.references k r) where
  abbrev before : List (List ℕ)
  before = map (number_name s) ns

  rest : drop k s.references ≡ r ∷ drop (k + 1) s.references
  rest = drop-cons s.references k r low ∙ (λ i. sym is i ∷ drop (sym (add-one k) i) s.references)

  next_is : get_or s.references k s.image ≡ r
  next_is = get_or_from_slice_get s.references k r s.image (slice_get_read s.references (length s.references) k r refl low is)

  number_is : assembly_of s (k + 1) ≡ r
  number_is = ap (assembly_of s) (add-one k) ∙ next_is

  abbrev more_of : List (List ℕ) → List Member
  more_of names = members_from (k + 1 + 1) names (drop (k + 1) s.references)

  abbrev front : List Member
  front = map (member s) ns

  pub members_same : list_any (same_text (name_of r)) before ≡ true
      → map (member s) ns ++ members_from (k + 1) before (drop k s.references) ≡ members s
      → map (member s) ns ++ members_from (k + 1 + 1) before (drop (k + 1) s.references) ≡ members s
  members_same known h = sym (ap (λ ms. map (member s) ns ++ ms) (ap (members_from (k + 1) before) rest
      ∙ ap (λ b. if b then members_from (k + 1 + 1) before (drop (k + 1) s.references) else record { number = k + 1; assembly = r } ∷ members_from (k + 1 + 1) (before ++ name_of r ∷ []) (drop (k + 1) s.references)) known)) ∙ h

  pub members_more : (all : List ℕ) → list_any (same_text (name_of r)) before ≡ false → all ≡ ns ++ (k + 1) ∷ []
      → map (member s) ns ++ members_from (k + 1) before (drop k s.references) ≡ members s
      → map (member s) all ++ members_from (k + 1 + 1) (map (number_name s) all) (drop (k + 1) s.references) ≡ members s
  members_more all new more h =
      let step : members_from (k + 1) before (drop k s.references) ≡ record { number = k + 1; assembly = r } ∷ more_of (before ++ name_of r ∷ []) =
      ap (members_from (k + 1) before) rest
      ∙ ap (λ b. if b then more_of before else record { number = k + 1; assembly = r } ∷ more_of (before ++ name_of r ∷ [])) new in
      (λ i. map (member s) (more i) ++ more_of (map (number_name s) (more i)))
      ∙ (λ i. map-append (member s) ns ((k + 1) ∷ []) i ++ more_of (map-append (number_name s) ns ((k + 1) ∷ []) i))
      ∙ append_assoc front (member s (k + 1) ∷ []) (more_of (before ++ number_name s (k + 1) ∷ []))
      ∙ (λ i. front ++ (record { number = k + 1; assembly = number_is i } ∷ more_of (before ++ name_of (number_is i) ∷ [])))
      ∙ ap (λ ms. front ++ ms) (sym step) ∙ h

-- ---- the references that count, by their numbers

pub given_numbers : (s : Sources) (ns : List ℕ) → map (member s) ns ≡ members s → given s ≡ map (member s) (drop 1 ns)
given_numbers s [] e = absurd (let f : ⊥ = cc in f)
given_numbers s (n ∷ ns) e = let tail : map (member s) ns ≡ given s = cc in sym tail

pub some_number : (s : Sources) (ns : List ℕ) → map (member s) ns ≡ members s → 1 ≤ length ns
some_number s [] e = absurd (let f : ⊥ = cc in f)
some_number s (n ∷ ns) e = omega arith
