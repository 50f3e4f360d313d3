-- Words that fit behind a command, one after the other, and how many there can be.
use Rattle.std.proofs.Common.{◌≡◌, ℕ, suc, ◌+◌, ◌<◌, ◌≤◌, ◌||◌, ◌&&◌, ◌==◌, if◌then◌else◌, slice_index, List, [], ◌∷◌, ◌++◌, Bool, true, false, nat_lt, Option, None, Some, length, take, drop, get_or, drop-cons, add-one, refl, sym, ap, ◌∙◌, arith}
use Rattle.std.specs.Option.{option_map_or}
use Rattle.std.proofs.lemmas.List.{take_more, take_all}
use Rattle.std.proofs.lemmas.List.Sums.{count_by_more_yes, count_by_more_no}
use Rattle.std.proofs.lemmas.Bool.{ltb-true}
use Rattle.std.proofs.Math.ListN.{drop_of_length-le}
use Rattle.std.specs.Prelude.{codes, find}
use Rattle.std.specs.Str.{bytes_eq}
use Rattle.command_words.specs.Words.{command_by, command_of, count, fits_behind, is_slot, lacks, misfit_behind, most, same_slot, shape_of, slot_of, usage_fault}
use Rattle.command_words.specs.declared.command.Command.{Command}
use Rattle.command_words.specs.declared.shape.Shape.{Shape}
use Rattle.command_words.specs.declared.shape.Shape.TheVariants.{Ilasm}
use Rattle.command_words.specs.declared.slot.Slot.{Slot}
use Rattle.command_words.specs.declared.slot.Slot.TheVariants as slot

-- each of the first k words is of a kind, and none is there more often than it may be
pub record AreFitting (shape : Shape) (words : List (List ℕ)) (k : ℕ) : Type 0 where
  pub all : k ≡ count slot.File (take k words) + count slot.Kind (take k words) + count slot.Output (take k words) + count slot.Optimize (take k words)
  pub file : count slot.File (take k words) ≤ most shape slot.File
  pub kind : count slot.Kind (take k words) ≤ most shape slot.Kind
  pub output : count slot.Output (take k words) ≤ most shape slot.Output
  pub optimize : count slot.Optimize (take k words) ≤ most shape slot.Optimize

few : (shape : Shape) → most shape slot.File + most shape slot.Kind + most shape slot.Output + most shape slot.Optimize ≤ 4
few Ilasm = omega arith

pub are_few : (shape : Shape) (words : List (List ℕ)) (k : ℕ) → AreFitting shape words k → k ≤ 4
are_few shape words k fitting =
    let at_most = few shape in
    let all = fitting.all in
    let file = fitting.file in
    let kind = fitting.kind in
    let output = fitting.output in
    let optimize = fitting.optimize in
    omega arith

pub at_first : (shape : Shape) (words : List (List ℕ)) → AreFitting shape words 0
at_first shape words = record { all = refl; file = omega arith; kind = omega arith; output = omega arith; optimize = omega arith }

module _ (shape : Shape) (words : List (List ℕ)) (k : ℕ) (word : List ℕ) (there : k < length words) (is : word ≡ get_or words k word) where
  of_slot : (s t : Slot) → slot_of word ≡ Some s → is_slot t (get_or words k word) ≡ same_slot s t
  of_slot s t e = ap (is_slot t) (sym is) ∙ ap (λ (o : Option Slot). option_map_or (λ found. same_slot found t) o false) e

  comes : (s : Slot) → slot_of word ≡ Some s → same_slot s s ≡ true → count s (take (k + 1) words) ≡ count s (take k words) + 1
  comes s e same = count_by_more_yes (λ w. is_slot s w) words k word there (of_slot s s e ∙ same)

  stays : (s t : Slot) → slot_of word ≡ Some s → same_slot s t ≡ false → count t (take (k + 1) words) ≡ count t (take k words)
  stays s t e other = count_by_more_no (λ w. is_slot t w) words k word there (of_slot s t e ∙ other)

  grows_by : (s : Slot) → slot_of word ≡ Some s → count s (take k words) < most shape s → AreFitting shape words k → AreFitting shape words (k + 1)
  grows_by slot.File e room fitting =
      let all = fitting.all in
      let file = comes slot.File e refl in
      let kind = stays slot.File slot.Kind e refl in
      let output = stays slot.File slot.Output e refl in
      let optimize = stays slot.File slot.Optimize e refl in
      record { all = omega arith; file = omega arith; kind = omega (arith, fitting.kind); output = omega (arith, fitting.output); optimize = omega (arith, fitting.optimize) }
  grows_by slot.Kind e room fitting =
      let all = fitting.all in
      let file = stays slot.Kind slot.File e refl in
      let kind = comes slot.Kind e refl in
      let output = stays slot.Kind slot.Output e refl in
      let optimize = stays slot.Kind slot.Optimize e refl in
      record { all = omega arith; file = omega (arith, fitting.file); kind = omega arith; output = omega (arith, fitting.output); optimize = omega (arith, fitting.optimize) }
  grows_by slot.Output e room fitting =
      let all = fitting.all in
      let file = stays slot.Output slot.File e refl in
      let kind = stays slot.Output slot.Kind e refl in
      let output = comes slot.Output e refl in
      let optimize = stays slot.Output slot.Optimize e refl in
      record { all = omega arith; file = omega (arith, fitting.file); kind = omega (arith, fitting.kind); output = omega arith; optimize = omega (arith, fitting.optimize) }
  grows_by slot.Optimize e room fitting =
      let all = fitting.all in
      let file = stays slot.Optimize slot.File e refl in
      let kind = stays slot.Optimize slot.Kind e refl in
      let output = stays slot.Optimize slot.Output e refl in
      let optimize = comes slot.Optimize e refl in
      record { all = omega arith; file = omega (arith, fitting.file); kind = omega (arith, fitting.kind); output = omega (arith, fitting.output); optimize = omega arith }

  -- a word that fits is of a kind for which there is room
  room_for : (o : Option Slot) → option_map_or (λ s. nat_lt (count s (take k words)) (most shape s)) o false ≡ true
      → (s : Slot) × (o ≡ Some s) × (count s (take k words) < most shape s)
  room_for None fits = absurd cc
  room_for (Some s) fits = (s, refl, ltb-true _ _ fits)

  pub grows : fits_behind shape (take k words) word ≡ true → AreFitting shape words k → AreFitting shape words (k + 1)
  grows fits fitting = let r = room_for (slot_of word) fits in grows_by r.0 r.1 r.2 fitting

  here : drop k words ≡ word ∷ drop (k + 1) words
  here = drop-cons words k word there ∙ ap (λ w. w ∷ drop (suc k) words) (sym is) ∙ rw add-one refl

  pub goes_on : (n : ℕ) → fits_behind shape (take k words) word ≡ true
      → misfit_behind shape n (take k words) (drop k words) ≡ misfit_behind shape (suc n) (take (k + 1) words) (drop (k + 1) words)
  goes_on n fits =
      let more : take (k + 1) words ≡ take k words ++ word ∷ [] = take_more words k word there ∙ ap (λ w. take k words ++ w ∷ []) (sym is) in
      ap (misfit_behind shape n (take k words)) here
      ∙ ap (λ b. if b then misfit_behind shape (suc n) (take k words ++ word ∷ []) (drop (k + 1) words) else Some n) fits
      ∙ ap (λ before. misfit_behind shape (suc n) before (drop (k + 1) words)) (sym more)

  pub stops : (n : ℕ) → fits_behind shape (take k words) word ≡ false → misfit_behind shape n (take k words) (drop k words) ≡ Some n
  stops n misfit =
      ap (misfit_behind shape n (take k words)) here
      ∙ ap (λ b. if b then misfit_behind shape (suc n) (take k words ++ word ∷ []) (drop (k + 1) words) else Some n) misfit

-- all fit
pub ends : (shape : Shape) (words : List (List ℕ)) (k n : ℕ) (b : Bool) → length words ≤ k → lacks shape words ≡ b
    → misfit_behind shape n (take k words) (drop k words) ≡ (if b then Some n else None)
ends shape words k n b past lack =
    let all : take k words ≡ words = take_all k words past in
    let none : drop k words ≡ [] = drop_of_length-le words past in
    ap (misfit_behind shape n (take k words)) none ∙ ap (λ ws. if lacks shape ws then Some n else None) all ∙ ap (λ x. if x then Some n else None) lack

-- ---- the whole line, and NAME of the output

pub whole_line : (words : List (List ℕ)) (word text : List ℕ) (more : List (List ℕ)) (shape : Shape) (command : Command) → words ≡ word ∷ more → text ≡ word
    → Some shape ≡ shape_of text → None ≡ misfit_behind shape 2 [] more → command ≡ command_by shape more
    → (usage_fault words ≡ None) × (command ≡ command_of words)
unfolding usage_fault command_of
whole_line words word text more shape command are text-is named fits is =
    let known : shape_of word ≡ Some shape = ap shape_of (sym text-is) ∙ sym named in (
      ap usage_fault are ∙ ap (λ (o : Option Shape). option_map_or (λ s. misfit_behind s 2 [] more) o (Some 1)) known ∙ sym fits,
      is ∙ sym (ap (λ (o : Option Shape). command_by (option_map_or (λ s. s) o Ilasm) more) known) ∙ sym (ap command_of are),
    )

by_tests : (a b o c d : Bool)
    → option_map_or (λ found. same_slot found slot.Output) (if a then (if b then Some slot.Kind else (if o then Some slot.Optimize else (if c && d then Some slot.Output else None))) else Some slot.File) false ≡ true
    → c ≡ true
by_tests a b o true d e = refl
by_tests false b o false d e = absurd cc
by_tests true true o false d e = absurd cc
by_tests true false true false d e = absurd cc
by_tests true false false false d e = absurd cc

pub output_begins : (word : List ℕ) → is_slot slot.Output word ≡ true → bytes_eq (take 8 word) (codes "-output=") ≡ true
unfolding slot_of
output_begins word is =
    by_tests (slice_index word 0 == 45) (bytes_eq word (codes "-dll") || bytes_eq word (codes "-exe")) (bytes_eq word (codes "-optimize")) (bytes_eq (take 8 word) (codes "-output=")) (nat_lt 8 (length word)) is

-- the word that is found is of the kind
pub find_holds : (p : List ℕ → Bool) (words : List (List ℕ)) (word : List ℕ) → find p words ≡ Some word → p word ≡ true
find_holds p [] word found = absurd cc
find_holds p (w ∷ words) word found = by_test (find_holds p words word) (p w) refl found
  where
    by_test : (find p words ≡ Some word → p word ≡ true) → (b : Bool) → p w ≡ b → (if b then Some w else find p words) ≡ Some word → p word ≡ true
    by_test rest true is e = let same : w ≡ word = cc in ap p (sym same) ∙ is
    by_test rest false is e = rest e
