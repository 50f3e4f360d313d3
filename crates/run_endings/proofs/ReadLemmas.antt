-- Inputs that were read, and the first that can't be.
use Rattle.std.proofs.Common.{◌≡◌, ℕ, suc, ◌+◌, ◌<◌, ◌≤◌, ◌⊎◌, inl, inr, Bool, IsTrue, List, [], ◌∷◌, ◌++◌, Option, None, Some, length, take, drop, get_or, drop-cons, add-one, refl, sym, ap, subst, ◌∙◌, arith}
use Rattle.std.proofs.lemmas.List.{take-append-drop, take_more}
use Rattle.std.proofs.lemmas.Option.{same_Some}
use Rattle.il_base.specs.Outside.{Files, Rose}
use Rattle.run_endings.specs.Reads.{AreRead, IsRead, IsLonger, StopsAt}
use Rattle.run_endings.specs.declared.input.Input.{Input}

-- ---- one more is read

pub read_more : (tells : Bool) (files : Files) (inputs : List Input) (given : List (List ℕ)) (input : Input) (bytes : List ℕ)
    → AreRead tells files inputs given → IsRead tells files input bytes → AreRead tells files (inputs ++ input ∷ []) (given ++ bytes ∷ [])
read_more tells files [] [] input bytes are is = (is, tt)
read_more tells files [] (b ∷ given) input bytes are is = absurd are
read_more tells files (i ∷ inputs) [] input bytes are is = absurd are
read_more tells files (i ∷ inputs) (b ∷ given) input bytes are is = (are.0, read_more tells files inputs given input bytes are.1 is)

-- for each input something is read
pub read_length : (tells : Bool) (files : Files) (inputs : List Input) (given : List (List ℕ)) → AreRead tells files inputs given → length given ≡ length inputs
read_length tells files [] [] are = refl
read_length tells files [] (b ∷ given) are = absurd are
read_length tells files (i ∷ inputs) [] are = absurd are
read_length tells files (i ∷ inputs) (b ∷ given) are = ap suc (read_length tells files inputs given are.1)

-- the input at this place, where those before it were read
module _ (tells : Bool) (files : Files) (all : List Input) (k : ℕ) (input : Input) (given : List (List ℕ)) (there : k < length all) (is : input ≡ get_or all k input)
    (read : AreRead tells files (take k all) given) where
  parts : all ≡ take k all ++ input ∷ drop (k + 1) all
  parts = sym (take-append-drop k all) ∙ ap (λ (xs : List Input). take k all ++ xs) (drop-cons all k input there ∙ ap (λ (i : Input). i ∷ drop (suc k) all) (sym is) ∙ rw add-one refl)

  pub stops_here : StopsAt tells files all input
  stops_here = record { passed = take k all; rest = drop (k + 1) all; is = parts; given = given; read = read }

  pub reads_here : (bytes : List ℕ) → IsRead tells files input bytes → AreRead tells files (take (k + 1) all) (given ++ bytes ∷ [])
  reads_here bytes now =
      let more : take (k + 1) all ≡ take k all ++ input ∷ [] = take_more all k input there ∙ ap (λ (i : Input). take k all ++ i ∷ []) (sym is) in
      subst (λ (xs : List Input). AreRead tells files xs (given ++ bytes ∷ [])) (sym more) (read_more tells files (take k all) given input bytes read now)

-- what is known of a file later on, when no told file has changed
module _ (tells tells1 : Bool) (files files1 : Files) (input : Input) (text : List ℕ) (same_tells : tells1 ≡ tells) (same_files : IsTrue tells → files1 ≡ files) (is : text ≡ input.name) where
  told_since : (what : Option (List ℕ)) → IsTrue tells → files1 text ≡ what → files input.name ≡ what
  told_since what told now = ap files (sym is) ∙ sym (ap (λ (f : Files). f text) (same_files told)) ∙ now

  pub read_since : (bytes : List ℕ) → length bytes ≤ input.limit → (IsTrue tells1 → files1 text ≡ Some bytes) → IsRead tells files input bytes
  read_since bytes within now = record { within = within; told = λ told. told_since (Some bytes) told (now (subst IsTrue (sym same_tells) told)) }

  pub unread_since : (reads reads1 reads2 : ℕ) → reads ≤ reads1 → Rose reads1 reads2 ⊎ (IsTrue tells1 × (files1 text ≡ None))
      → Rose reads reads2 ⊎ (IsTrue tells × (files input.name ≡ None))
  unread_since reads reads1 reads2 up (inl rose) = inl (omega arith)
  unread_since reads reads1 reads2 up (inr gone) = let told : IsTrue tells = subst IsTrue same_tells gone.0 in inr (told, told_since None told gone.1)

  pub longer_since : (IsTrue tells1 → (file : List ℕ) × (files1 text ≡ Some file) × (input.limit < length file)) → IsTrue tells → IsLonger files input
  longer_since now told =
      let l = now (subst IsTrue (sym same_tells) told) in
      record { bytes = l.0; told = told_since (Some l.0) told l.1; more = l.2 }

-- ---- told inputs can be read, or not

-- a told input that can't be read: its file is absent, or too long
abbrev pub Blocked : Files → Input → Type 0
Blocked files input = (files input.name ≡ None) ⊎ IsLonger files input

some_none : {X : Type 0} (o : Option X) (x : X) → o ≡ Some x → o ≡ None → ⊥
some_none o x some none = absurd cc

pub not_both : (files : Files) (input : Input) → files input.name ≡ None → IsLonger files input → ⊥
not_both files input none longer = some_none (files input.name) longer.bytes longer.told none

pub blocked_unread : (tells : Bool) (files : Files) (input : Input) (bytes : List ℕ) → IsTrue tells → IsRead tells files input bytes → Blocked files input → ⊥
blocked_unread tells files input bytes told read (inl none) = some_none (files input.name) bytes (read.told told) none
blocked_unread tells files input bytes told read (inr longer) =
    let same : longer.bytes ≡ bytes = same_Some longer.bytes bytes (sym longer.told ∙ read.told told) in
    let more : input.limit < length bytes = subst (λ (b : List ℕ). input.limit < length b) same longer.more in
    let within = read.within in
    omega arith

module _ (tells : Bool) (files : Files) (told : IsTrue tells) where
  -- where all are read, none is blocked
  read_at : (passed rest : List Input) (at : Input) (given : List (List ℕ)) → AreRead tells files (passed ++ at ∷ rest) given → Blocked files at → ⊥
  read_at [] rest at [] are blocked = are
  read_at [] rest at (bytes ∷ given) are blocked = blocked_unread tells files at bytes told are.0 blocked
  read_at (i ∷ passed) rest at [] are blocked = are
  read_at (i ∷ passed) rest at (bytes ∷ given) are blocked = read_at passed rest at given are.1 blocked

  pub no_stop : (inputs : List Input) (given : List (List ℕ)) (at : Input) → AreRead tells files inputs given → StopsAt tells files inputs at → Blocked files at → ⊥
  no_stop inputs given at are stops blocked =
      read_at stops.passed stops.rest at given (subst (λ (all : List Input). AreRead tells files all given) stops.is are) blocked

  -- the first that is blocked is one
  first_is_one : (passed rest passed' rest' : List Input) (at at' : Input) (given given' : List (List ℕ)) → passed ++ at ∷ rest ≡ passed' ++ at' ∷ rest'
      → AreRead tells files passed given → AreRead tells files passed' given' → Blocked files at → Blocked files at' → at ≡ at'
  first_is_one [] rest [] rest' at at' given given' same are are' blocked blocked' = cc
  first_is_one [] rest (i ∷ passed') rest' at at' given [] same are are' blocked blocked' = absurd are'
  first_is_one [] rest (i ∷ passed') rest' at at' given (bytes ∷ given') same are are' blocked blocked' =
      let head : at ≡ i = cc in
      absurd (blocked_unread tells files i bytes told are'.0 (subst (λ (input : Input). Blocked files input) head blocked))
  first_is_one (i ∷ passed) rest [] rest' at at' [] given' same are are' blocked blocked' = absurd are
  first_is_one (i ∷ passed) rest [] rest' at at' (bytes ∷ given) given' same are are' blocked blocked' =
      let head : at' ≡ i = cc in
      absurd (blocked_unread tells files i bytes told are.0 (subst (λ (input : Input). Blocked files input) head blocked'))
  first_is_one (i ∷ passed) rest (j ∷ passed') rest' at at' [] given' same are are' blocked blocked' = absurd are
  first_is_one (i ∷ passed) rest (j ∷ passed') rest' at at' (bytes ∷ given) [] same are are' blocked blocked' = absurd are'
  first_is_one (i ∷ passed) rest (j ∷ passed') rest' at at' (bytes ∷ given) (bytes' ∷ given') same are are' blocked blocked' =
      let tail : passed ++ at ∷ rest ≡ passed' ++ at' ∷ rest' = cc in
      first_is_one passed rest passed' rest' at at' given given' tail are.1 are'.1 blocked blocked'

  pub one_stop : (inputs : List Input) (at at' : Input) → StopsAt tells files inputs at → StopsAt tells files inputs at' → Blocked files at → Blocked files at' → at ≡ at'
  one_stop inputs at at' stops stops' blocked blocked' =
      first_is_one stops.passed stops.rest stops'.passed stops'.rest at at' stops.given stops'.given (sym stops.is ∙ stops'.is) stops.read stops'.read blocked blocked'

  -- what is read is one
  pub one_given : (inputs : List Input) (given given' : List (List ℕ)) → AreRead tells files inputs given → AreRead tells files inputs given' → given ≡ given'
  one_given [] [] [] are are' = refl
  one_given [] [] (b' ∷ given') are are' = absurd are'
  one_given [] (b ∷ given) given' are are' = absurd are
  one_given (i ∷ inputs) [] given' are are' = absurd are
  one_given (i ∷ inputs) (b ∷ given) [] are are' = absurd are'
  one_given (i ∷ inputs) (b ∷ given) (b' ∷ given') are are' =
      let same : b ≡ b' = same_Some b b' (sym (are.0.told told) ∙ are'.0.told told) in
      let rest : given ≡ given' = one_given inputs given given' are.1 are'.1 in
      cc
