-- What commands give, and the plans of runs.
use Rattle.std.proofs.Common.{◌≡◌, ℕ, ◌<◌, ◌≤◌, ◌^◌, ◌⊎◌, inl, inr, Bool, IsTrue, List, [], ◌∷◌, Option, None, Some, length, get_or, refl, sym, ap, subst, ◌∙◌, arith}
use Rattle.il_base.specs.Outside.{Files, Rose}
use Rattle.assembly_tree.specs.Fits.{Fits}
use Rattle.assembly_tree.specs.Room.{room}
use Rattle.assembly_tree.specs.Weight.{weight_of}
use Rattle.assembly_tree.specs.declared.assembly.Assembly.{Assembly}
use Rattle.command_words.specs.Words.{usage_fault, command_of}
use Rattle.command_words.specs.declared.command.Command.{Command}
use Rattle.command_words.specs.declared.command.Command.TheVariants.{Ilasm}
use Rattle.pe_layout.specs.declared.parts.Kind.{Kind}
use Rattle.run_endings.proofs.RunLemmas.{Ends, performed_since, planned_misfit, planned_reached, planned_too_long, planned_unread, runs_lacking, runs_planned}
use Rattle.run_endings.specs.Ends.{Shelved, Spoken, IsPerformed, IsUntouched, makes_only, says_only}
use Rattle.run_endings.specs.Reads.{AreRead, IsLonger, StopsAt}
use Rattle.run_endings.specs.Runs.{IsPlanned}
use Rattle.run_endings.specs.Texts.{long_text, unread_text, usage_text}
use Rattle.run_endings.specs.declared.ending.Ending.{Ending}
use Rattle.run_endings.specs.declared.ending.Made.{Made}
use Rattle.run_endings.specs.declared.input.Input.{Input}
use Rattle.source_assembly.specs.Laws.{OneReading}
use Rattle.source_assembly.specs.Reading.{IsAssemblyOf}
use Rattle.il_tools.specs.Assembled.{IsContentFault, IsImageOf}
use Rattle.il_tools.specs.Commands.{AreWithin, Gives, GivesImage, MeritsImage, MeritsOf, Ran, an_image, a_fault, fitting, faulty, inputs_of}
use Rattle.il_tools.specs.declared.fault.ContentFault.{ContentFault}
use Rattle.il_tools.specs.declared.fault.ContentFault.TheVariants as content

-- ---- ilasm: what is given has the status that is due

too_much : (a : Assembly) → Fits a → (2 ^ 26 < weight_of a) ⊎ (2 ^ 24 < room a) → ⊥
too_much a fits (inl large) = let small : weight_of a ≤ 2 ^ 26 = fits.weight in omega arith
too_much a fits (inr full) = let small : room a ≤ 2 ^ 24 = fits.room in omega arith

-- a source whose assembly fits has no fault
no_fault : (one : OneReading) (source : List ℕ) (a : Assembly) (fault : ContentFault) → IsAssemblyOf source a → Fits a → IsContentFault source fault → ⊥
no_fault one source a (content.Source fault) denoted fits f = one.apart source a fault denoted f
no_fault one source a content.TooLarge denoted fits f =
    too_much a fits (subst (λ (b : Assembly). (2 ^ 26 < weight_of b) ⊎ (2 ^ 24 < room b)) (one.assembly source f.0 a f.1 denoted) f.2)

module _ (one : OneReading) (file : List ℕ) (kind : Kind) (optimize : Bool) (output source : List ℕ) (e : Ending) where
  pub due_to_image : GivesImage file kind optimize output source e → (m : ℕ) → MeritsImage source m → e.number ≡ m
  due_to_image (an_image image is made) m (fitting a denoted fits due) = ap (λ (x : Ending). x.number) made ∙ sym due
  due_to_image (an_image image is made) m (faulty fault found due) = absurd (no_fault one source is.meant fault is.denoted is.fits found)
  due_to_image (a_fault fault found said) m (fitting a denoted fits due) = absurd (no_fault one source a fault denoted fits found)
  due_to_image (a_fault fault found said) m (faulty other also due) = ap (λ (x : Ending). x.number) said ∙ sym due

  -- what is made or said is given
  pub image_given : (image bytes : List ℕ) → IsImageOf source kind optimize image → bytes ≡ image → e ≡ makes_only output bytes → GivesImage file kind optimize output source e
  image_given image bytes is same made = an_image image is (made ∙ ap (λ (b : List ℕ). makes_only output b) same)

-- ---- commands: a file is made with 0 alone

image_low : (file : List ℕ) (kind : Kind) (optimize : Bool) (output source : List ℕ) (e : Ending) → GivesImage file kind optimize output source e → e.number ≤ 1
image_low file kind optimize output source e (an_image image is made) = let zero-is : e.number ≡ 0 = ap (λ (x : Ending). x.number) made in omega arith
image_low file kind optimize output source e (a_fault fault found said) = let one-is : e.number ≡ 1 = ap (λ (x : Ending). x.number) said in omega arith

image_makes : (file : List ℕ) (kind : Kind) (optimize : Bool) (output source : List ℕ) (e : Ending) → GivesImage file kind optimize output source e → (made : Made) → e.file ≡ Some made → e.number ≡ 0
image_makes file kind optimize output source e (an_image image is made) m m-is = ap (λ (x : Ending). x.number) made
image_makes file kind optimize output source e (a_fault fault found said) m m-is = let none : e.file ≡ None = ap (λ (x : Ending). x.file) said in absurd cc

gives_low : (command : Command) (given : List (List ℕ)) (e : Ending) → Gives command given e → e.number ≤ 1
gives_low (Ilasm file kind optimize output) [] e gives = absurd gives
gives_low (Ilasm file kind optimize output) (source ∷ []) e gives = image_low file kind optimize output source e gives
gives_low (Ilasm file kind optimize output) (source ∷ other ∷ more) e gives = absurd gives

gives_makes : (command : Command) (given : List (List ℕ)) (e : Ending) → Gives command given e → (made : Made) → e.file ≡ Some made → e.number ≡ 0
gives_makes (Ilasm file kind optimize output) [] e gives = absurd gives
gives_makes (Ilasm file kind optimize output) (source ∷ []) e gives = image_makes file kind optimize output source e gives
gives_makes (Ilasm file kind optimize output) (source ∷ other ∷ more) e gives = absurd gives

-- ---- what is read is given on

pub within_limits : (tells : Bool) (files : Files) (inputs : List Input) (given : List (List ℕ)) → AreRead tells files inputs given → AreWithin inputs given
within_limits tells files [] [] are = tt
within_limits tells files [] (bytes ∷ given) are = absurd are
within_limits tells files (input ∷ inputs) [] are = absurd are
within_limits tells files (input ∷ inputs) (bytes ∷ given) are = (are.0.within, within_limits tells files inputs given are.1)

-- of a command with one input there is one text, the first
module _ (command : Command) (file : List ℕ) (kind : Kind) (optimize : Bool) (output : List ℕ) (given : List (List ℕ)) (is : command ≡ Ilasm file kind optimize output) (within : AreWithin (inputs_of command) given) where
  one_within : (given : List (List ℕ)) → AreWithin (inputs_of (Ilasm file kind optimize output)) given → (d : List ℕ)
      → (given ≡ get_or given 0 d ∷ []) × (length (get_or given 0 d) ≤ 2 ^ 27)
  one_within [] w d = absurd w
  one_within (source ∷ []) w d = (refl, w.0)
  one_within (source ∷ other ∷ more) w d = absurd w.1

  pub the_source : (d : List ℕ) → (given ≡ get_or given 0 d ∷ []) × (length (get_or given 0 d) ≤ 2 ^ 27)
  the_source d = one_within given (subst (λ (c : Command). AreWithin (inputs_of c) given) is within) d

  pub there_is : 0 < length given
  there_is = let one : length given ≡ 1 = ap (λ (g : List (List ℕ)). length g) (the_source []).0 in omega arith

  pub gives_image : (source : List ℕ) (e : Ending) → given ≡ source ∷ [] → GivesImage file kind optimize output source e → Gives command given e
  gives_image source e given-is gives = subst (λ (g : List (List ℕ)). Gives command g e) (sym given-is) (subst (λ (c : Command). Gives c (source ∷ []) e) (sym is) gives)

  pub merits_image : (source : List ℕ) (m : ℕ) → given ≡ source ∷ [] → MeritsOf command given m → MeritsImage source m
  merits_image source m given-is merits =
      subst (λ (c : Command). MeritsOf c (source ∷ []) m) is (subst (λ (g : List (List ℕ)). MeritsOf command g m) given-is merits)

  pub source_within : (d lent : List ℕ) → lent ≡ get_or given 0 d → length lent ≤ 2 ^ 27
  source_within d lent same = subst (λ (xs : List ℕ). length xs ≤ 2 ^ 27) (sym same) (the_source d).1

  source_alone : (d lent : List ℕ) → lent ≡ get_or given 0 d → given ≡ lent ∷ []
  source_alone d lent same = (the_source d).0 ∙ ap (λ (xs : List ℕ). xs ∷ []) (sym same)

  pub plan_gives : (d lent lent-file : List ℕ) (e : Ending) → lent ≡ get_or given 0 d → lent-file ≡ file → GivesImage lent-file kind optimize output lent e → Gives command given e
  plan_gives d lent lent-file e same same-file gives =
      gives_image lent e (source_alone d lent same) (subst (λ (f : List ℕ). GivesImage f kind optimize output lent e) same-file gives)

  pub plan_merits : (d lent : List ℕ) (e : Ending) → lent ≡ get_or given 0 d → ((m : ℕ) → MeritsImage lent m → e.number ≡ m) → (m : ℕ) → MeritsOf command given m → e.number ≡ m
  plan_merits d lent e same only m merits = only m (merits_image lent m (source_alone d lent same) merits)

-- a command that reads has something given
pub some_given : (command : Command) (given : List (List ℕ)) → AreWithin (inputs_of command) given → 0 < length given
some_given (Ilasm file kind optimize output) given within = there_is (Ilasm file kind optimize output) file kind optimize output given refl within

pub given_within : (command : Command) (given : List (List ℕ)) → AreWithin (inputs_of command) given → (d lent : List ℕ) → lent ≡ get_or given 0 d → length lent ≤ 2 ^ 27
given_within (Ilasm file kind optimize output) given within = source_within (Ilasm file kind optimize output) file kind optimize output given refl within

pub given_merits : (command : Command) (given : List (List ℕ)) → AreWithin (inputs_of command) given → (d lent : List ℕ) (e : Ending) → lent ≡ get_or given 0 d
    → ((m : ℕ) → MeritsImage lent m → e.number ≡ m) → (m : ℕ) → MeritsOf command given m → e.number ≡ m
given_merits (Ilasm file kind optimize output) given within = plan_merits (Ilasm file kind optimize output) file kind optimize output given refl within

-- ---- plans

module _ (command : Command) (tells : Bool) (files : Files) (reads reads_now : ℕ) (inputs lent : List Input) (are : inputs ≡ inputs_of command) (lent-are : lent ≡ inputs) where
  IsPlan : Ending → Type 0
  IsPlan e = IsPlanned None (inputs_of command) (Gives command) (MeritsOf command) tells files reads reads_now e

  same : lent ≡ inputs_of command
  same = lent-are ∙ are

  stops_so : (at : Input) → StopsAt tells files lent at → StopsAt tells files (inputs_of command) at
  stops_so at stops = subst (λ (all : List Input). StopsAt tells files all at) same stops

  read_so : (given : List (List ℕ)) → AreRead tells files lent given → AreRead tells files (inputs_of command) given
  read_so given read = subst (λ (all : List Input). AreRead tells files all given) same read

  pub within_so : (given lent-given : List (List ℕ)) → lent-given ≡ given → AreRead tells files lent given → AreWithin (inputs_of command) lent-given
  within_so given lent-given g read = subst (λ (x : List (List ℕ)). AreWithin (inputs_of command) x) (sym g) (within_limits tells files (inputs_of command) given (read_so given read))

  pub plan_reached : (given lent-given : List (List ℕ)) (e : Ending) → lent-given ≡ given → AreRead tells files lent given → Gives command lent-given e
      → ((m : ℕ) → MeritsOf command lent-given m → e.number ≡ m) → IsPlanned None (inputs_of command) (Gives command) (MeritsOf command) tells files reads reads_now e
  plan_reached given lent-given e g read gives merits =
      let gives-it : Gives command given e = subst (λ (x : List (List ℕ)). Gives command x e) g gives in
      planned_reached None (inputs_of command) (Gives command) (MeritsOf command) tells files reads reads_now refl given e (read_so given read) gives-it
      (gives_low command given e gives-it) (gives_makes command given e gives-it)
      (subst (λ (x : List (List ℕ)). (m : ℕ) → MeritsOf command x m → e.number ≡ m) g merits)

  pub plan_unread : (at : Input) (e : Ending) → StopsAt tells files lent at → Rose reads reads_now ⊎ (IsTrue tells × (files at.name ≡ None))
      → e ≡ says_only 3 (unread_text at.name) → IsPlanned None (inputs_of command) (Gives command) (MeritsOf command) tells files reads reads_now e
  plan_unread at e stops why is = planned_unread None (inputs_of command) (Gives command) (MeritsOf command) tells files reads reads_now refl at e (stops_so at stops) why is

  pub plan_too_long : (at : Input) (e : Ending) → StopsAt tells files lent at → (IsTrue tells → IsLonger files at)
      → e ≡ says_only 5 (long_text at.name at.limit) → IsPlanned None (inputs_of command) (Gives command) (MeritsOf command) tells files reads reads_now e
  plan_too_long at e stops why is = planned_too_long None (inputs_of command) (Gives command) (MeritsOf command) tells files reads reads_now refl at e (stops_so at stops) why is

-- the plan of words that fit
pub plan_of_words : (words : List (List ℕ)) (command : Command) (tells : Bool) (files : Files) (reads reads_now : ℕ) (e : Ending) → usage_fault words ≡ None → command ≡ command_of words
    → IsPlanned None (inputs_of command) (Gives command) (MeritsOf command) tells files reads reads_now e
    → IsPlanned (usage_fault words) (inputs_of (command_of words)) (Gives (command_of words)) (MeritsOf (command_of words)) tells files reads reads_now e
plan_of_words words command tells files reads reads_now e fits is plan =
    subst (λ (u : Option ℕ). IsPlanned u (inputs_of (command_of words)) (Gives (command_of words)) (MeritsOf (command_of words)) tells files reads reads_now e) (sym fits)
    (subst (λ (c : Command). IsPlanned None (inputs_of c) (Gives c) (MeritsOf c) tells files reads reads_now e) is plan)

-- what was planned is performed
pub ran_by : (words : List (List ℕ)) (s t : Shelved) (c : Spoken) (e : Ending) (number reads1 : ℕ) → Ends s t → s.reads_now ≡ reads1
    → IsPlanned (usage_fault words) (inputs_of (command_of words)) (Gives (command_of words)) (MeritsOf (command_of words)) s.tells s.before s.reads reads1 e
    → IsPerformed e t c number → Ran words number s c
ran_by words s t c e number reads1 ends same plan performed =
    runs_planned (usage_fault words) (inputs_of (command_of words)) (Gives (command_of words)) (MeritsOf (command_of words)) s c e
    (subst (λ (n : ℕ). IsPlanned (usage_fault words) (inputs_of (command_of words)) (Gives (command_of words)) (MeritsOf (command_of words)) s.tells s.before s.reads n e) (sym same) plan)
    number (performed_since s t ends e c number performed)

pub ran_lacking : (words : List (List ℕ)) (s : Shelved) (c : Spoken) → IsUntouched s c → Ran words 6 s c
ran_lacking words s c untouched = runs_lacking (usage_fault words) (inputs_of (command_of words)) (Gives (command_of words)) (MeritsOf (command_of words)) s c untouched

pub plan_misfit : (words : List (List ℕ)) (tells : Bool) (files : Files) (reads reads_now word : ℕ) (e : Ending) → usage_fault words ≡ Some word → e ≡ says_only 2 (usage_text word)
    → IsPlanned (usage_fault words) (inputs_of (command_of words)) (Gives (command_of words)) (MeritsOf (command_of words)) tells files reads reads_now e
plan_misfit words tells files reads reads_now word e fault is =
    planned_misfit (usage_fault words) (inputs_of (command_of words)) (Gives (command_of words)) (MeritsOf (command_of words)) tells files reads reads_now word e fault is
