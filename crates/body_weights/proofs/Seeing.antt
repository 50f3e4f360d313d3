-- The weights of bodies while they are found, one method after the other.
use Rattle.std.proofs.Common.{◌≡◌, ◌≢◌, ℕ, ◌+◌, ◌-◌, ◌<◌, ◌≤◌, inl, inr, cond, nat_eq, List, length, get_or, Option, None, Some, Result, Ok, Err, IfOk, refl, sym, ◌∙◌, ap, subst, arith}
use Rattle.std.proofs.lemmas.Bool.{cases_eq, eq-eqb, ne_eqb}
use Rattle.std.proofs.lemmas.Option.{same_Some}
use Rattle.hash_places.specs.Slots.{place_of}
use Rattle.hash_places.specs.declared.slots.Slot.{Slot}
use Rattle.body_codec.specs.Faults.{IsFaultOfAll}
use Rattle.body_codec.specs.declared.fault.BodyFault.{BodyFault}
use Rattle.body_codec.specs.declared.fault.BodyFault.TheVariants as faults
use Rattle.body_codec.specs.Names.{NameMap}
use Rattle.body_codec.proofs.Operands.{any_ins}
use Rattle.body_codec.proofs.Decoded.{Passes, spelled_passes, fault_excluded}
use Rattle.assembly_tree.specs.Weight.{optional, body_weight}
use Rattle.image_model.specs.Bodies.{IsBody}
use Rattle.image_model.specs.Reading.{BodyIs}
use Rattle.told_weights.specs.Told.{Tells}
use Rattle.image_model.specs.Columns.{method_rva}
use Rattle.image_model.specs.Rows.{count_of, HasRow}
use Rattle.pe_layout.specs.FileMap.{readable}
use Rattle.row_weights.proofs.Filling.{AreTold}
use Rattle.body_weights.specs.Bodies.{BodyTold, BodyAtTold, TellTo, AreSeen}

-- ---- bodies

-- a method without one
pub none_told : (image : List ℕ) (row told : ℕ) → method_rva image row ≡ 0 → told ≡ 0 → BodyAtTold image row told
none_told image row told none zero names None tell is = omega (arith, zero)
none_told image row told none zero names (Some body) tell is = absurd (is.0 none)

pub there_told : (image : List ℕ) (row rva told : ℕ) → rva ≡ method_rva image row → (rva ≡ 0 → ⊥) → BodyTold image (readable image rva) told → BodyAtTold image row told
there_told image row rva told e some h names None tell is = absurd (some (e ∙ is))
there_told image row rva told e some h names (Some body) tell is =
    h names body tell (subst (λ (z : ℕ). IsBody names (readable image z) body) (sym e) is.1)

-- as a method above with the same RVA
pub again_told : (image : List ℕ) (row first rva : ℕ) (weights : List ℕ) (seen : List Slot) (told : ℕ) → AreSeen image (row - 1) seen → TellTo image (row - 1) weights → place_of seen rva ≡ Some first
    → rva ≡ method_rva image row → told ≡ get_or weights first 0 → BodyAtTold image row told
again_told image row first rva weights seen told are tell at e is names body namings h =
    let s = are rva first at in
    let w = tell first s.0 s.1 names body namings (subst (λ (z : ℕ). BodyIs image names z body) (sym (s.2 ∙ e)) h) in
    subst (λ (z : ℕ). Tells z (optional body_weight body)) (sym is) w

-- a body with a fault isn't read
excluded : (names : NameMap) (bytes : List ℕ) (fault : BodyFault) → Passes names bytes → IsFaultOfAll bytes fault → fault ≡ faults.NoMemory
excluded names bytes faults.Header p h = absurd (h p.known.header)
excluded names bytes (faults.Opcode n) p h = fault_excluded names bytes (faults.Opcode n) p (p.known, h.1)
excluded names bytes (faults.Cut n) p h = fault_excluded names bytes (faults.Cut n) p (p.known, h.1)
excluded names bytes (faults.Target n) p h = fault_excluded names bytes (faults.Target n) p (p.known, h.1)
excluded names bytes (faults.Range n) p h = fault_excluded names bytes (faults.Range n) p (p.known, h.1)
excluded names bytes (faults.Token n) p h = absurd h
excluded names bytes (faults.Far n) p h = absurd h
excluded names bytes faults.NoMemory p h = refl

pub fault_told : {E : Type 0} (image bytes : List ℕ) (fault : BodyFault) (r : Result ℕ E) → IsFaultOfAll bytes fault → IfOk r (λ n. fault ≢ faults.NoMemory) → IfOk r (BodyTold image bytes)
fault_told image bytes fault (Ok n) h other = λ names body tell is. absurd (other (excluded names bytes fault (spelled_passes names bytes body is.0 any_ins is.1) h))
fault_told image bytes fault (Err e) h other = tt

-- ---- RVAs

pub seen_none : (image : List ℕ) (seen : List Slot) → ((h : ℕ) → place_of seen h ≡ None) → AreSeen image 0 seen
seen_none image seen none rva row e = absurd (let f = sym (none rva) ∙ e in cc)

pub seen_kept : (image : List ℕ) (row : ℕ) (seen : List Slot) → AreSeen image (row - 1) seen → AreSeen image row seen
seen_kept image row seen h rva k e = let x = h rva k e in (x.0, let u = x.1 in omega (arith, u), x.2)

pub seen_more : (image : List ℕ) (row rva : ℕ) (old new : List Slot) → HasRow image 0x06 row → AreSeen image (row - 1) old
    → ((q : ℕ) → place_of new q ≡ cond (nat_eq rva q) (Some row) (place_of old q)) → rva ≡ method_rva image row → AreSeen image row new
seen_more image row rva old new there h places e q k f =
    elim (cases_eq rva q) [
      | inl same ↦
          let at : place_of new q ≡ Some row = places q ∙ ap (λ b. cond b (Some row) (place_of old q)) (eq-eqb rva q same) in
          let here : row ≡ k = same_Some row k (sym at ∙ f) in
          let P : ℕ → Type 0 = λ x. HasRow image 0x06 x × (x ≤ row) × (method_rva image x ≡ q) in
          subst P here (there, omega arith, sym e ∙ same)
      | inr other ↦
          let at : place_of new q ≡ place_of old q = places q ∙ ap (λ b. cond b (Some row) (place_of old q)) (ne_eqb rva q other) in
          seen_kept image row old h q k (sym at ∙ f)
    ]

-- the first so many weights
pub tell_to : (image : List ℕ) (row now : ℕ) (weights : List ℕ) → now ≡ row - 1 → AreTold image 0x06 (BodyAtTold image) now weights → TellTo image (row - 1) weights
tell_to image row now weights e told r there below = told.each r there (omega (arith, e, below))
