-- The bodies of methods, one after another, as they come to stand in an image (ECMA-335 II.25.4).
use Rattle.std.specs.Prelude.{◌≡◌, ℕ, ◌+◌, ◌*◌, ◌%◌, ◌^◌, ◌<◌, ◌≤◌, ⊤, List, ◌++◌, length, sum_by, Option, None, Some}
use Rattle.std.specs.List.{AllByRecursion, AllZip}
use Rattle.assembly_tree.specs.Weight.{optional}
use Rattle.assembly_tree.specs.declared.body.Body.{Body}
use Rattle.assembly_tree.specs.declared.members.Method.{Method}
use Rattle.body_codec.specs.Encoding.{offset, CanBeWritten, IsFirstFar, IsWritten}
use Rattle.body_codec.specs.Names.{TokenMap}
use Rattle.body_codec.specs.Written.{token_map}
use Rattle.type_terms.specs.declared.reference.FieldRef.{FieldRef}
use Rattle.type_terms.specs.declared.reference.MethodRef.{MethodRef}
use Rattle.type_terms.specs.declared.term.Owner.{Owner}
use Rattle.type_terms.specs.declared.term.SigType.{SigType}
use Rattle.image_tokens.specs.Found.{token_in}
use Rattle.image_tokens.specs.KnownTokens.{methods_apart, fields_apart, locals_apart, texts_apart}
use Rattle.image_tokens.specs.NamesWeight.{names_weight}
use Rattle.image_members.specs.Placing.{StandsIn}
use Rattle.image_tokens.specs.References.{tokens_of, size, Grows, AreKnown}
use Rattle.image_tokens.specs.Writable.{IsBodyWritable}
use Rattle.image_tokens.specs.declared.references.References.{References}

-- ---- tokens

-- those that have been given
abbrev pub all_tokens : References → TokenMap
all_tokens r =
    token_map (tokens_of r) (token_in methods_apart r.known.methods) (token_in fields_apart r.known.fields) (token_in locals_apart r.known.locals)
    (token_in texts_apart r.known.texts)

-- whatever has a token has the same one later
pub record KeepsTokens (earlier later : TokenMap) : Type 0 where
  pub owners : (o : Owner) (t : ℕ) → earlier.owners o ≡ Some t → later.owners o ≡ Some t
  pub methods : (m : MethodRef) (t : ℕ) → earlier.methods m ≡ Some t → later.methods m ≡ Some t
  pub fields : (f : FieldRef) (t : ℕ) → earlier.fields f ≡ Some t → later.fields f ≡ Some t
  pub locals : (ts : List SigType) (t : ℕ) → earlier.locals ts ≡ Some t → later.locals ts ≡ Some t
  pub texts : (units : List ℕ) (t : ℕ) → earlier.texts units ≡ Some t → later.texts units ≡ Some t

-- everything has a token
abbrev pub any_token : TokenMap
any_token = token_map (λ o. Some 1) (λ m. Some 1) (λ f. Some 1) (λ ts. Some 1) (λ units. Some 1)

-- ---- bodies in the code

-- A body stands in the code, at a multiple of 4. It is spelled with the tokens that there were when it was written, and they are
-- the same still.
pub record IsBodyAt (r : References) (code : List ℕ) (b : Body) (rva : ℕ) : Type 0 where
  pub bytes : List ℕ
  pub stands : StandsIn code rva bytes
  pub aligned : rva % 4 ≡ 0
  pub earlier : TokenMap
  pub within : KeepsTokens earlier (all_tokens r)
  pub written : IsWritten earlier b bytes

-- the RVA of a body; 0 where there is none
abbrev pub HasBody : References → List ℕ → ℕ → Option Body → Type 0
HasBody r code rva None = rva ≡ 0
HasBody r code rva (Some b) = IsBodyAt r code b rva

-- ---- steps

-- So many bytes a body takes at most, with those that fill the code up before it: 12 for the header, 3 before it and 3 before the
-- section of clauses, and 64 for each clause, of which one pays for the section's size too
unfoldable pub code_room : Body → ℕ
code_room b = 18 + offset b.code (length b.code) + 64 * length b.clauses

-- what comes into heaps and rows of references for what bodies name
abbrev pub stated_weight : Option Body → ℕ
stated_weight b = optional names_weight b

abbrev pub stated_room : Option Body → ℕ
stated_room b = optional code_room b

abbrev pub body_of : Method → Option Body
body_of m = m.body

-- the bodies have been added to the code, and so many bytes came at most
pub record AddsBodies (bodies : List (Option Body)) (old new : References) (from to : List ℕ) (rvas : List ℕ) : Type 0 where
  pub grows : Grows old new
  pub known : AreKnown new
  pub room : size new ≤ size old + sum_by stated_weight bodies
  pub more : List ℕ
  pub is : to ≡ from ++ more
  pub long : length to ≤ length from + sum_by stated_room bodies
  pub each : AllZip (HasBody new to) rvas bodies

-- one of them
pub record AddsBody (b : Body) (old new : References) (from to : List ℕ) (rva : ℕ) : Type 0 where
  pub grows : Grows old new
  pub known : AreKnown new
  pub room : size new ≤ size old + names_weight b
  pub more : List ℕ
  pub is : to ≡ from ++ more
  pub long : length to ≤ length from + code_room b
  pub at : IsBodyAt new to b rva

-- ---- what can be written

-- what it names can be written, its parts fit, and each short branch reaches its target
pub record CanPushBody (r : References) (b : Body) : Type 0 where
  pub writable : IsBodyWritable r b
  pub form : CanBeWritten any_token b
  pub reaches : (at : ℕ) → IsFirstFar b.code at → ⊥

abbrev pub CanPushStated : References → Option Body → Type 0
CanPushStated r None = ⊤
CanPushStated r (Some b) = CanPushBody r b

pub record CanPushBodies (bodies : List (Option Body)) (r : References) (code : List ℕ) : Type 0 where
  pub known : AreKnown r
  pub each : AllByRecursion (CanPushStated r) bodies
  pub room : size r + sum_by stated_weight bodies ≤ 2 ^ 26
  pub long : length code + sum_by stated_room bodies ≤ 2 ^ 26
