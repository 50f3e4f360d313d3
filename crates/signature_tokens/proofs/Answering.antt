-- What a call answers, from the scan of the signature and the walk along it.
use Rattle.std.proofs.Common.{◌≡◌, ℕ, ◌≤◌, Bool, true, false, not, List, [], ◌∷◌, ◌++◌, Option, Some, None, Result, Ok, Err, refl, sym, ap, ◌∙◌, arith}
use Rattle.std.specs.Borrow.{Bor}
use Rattle.std.specs.Option.{option_map}
use Rattle.std.specs.Prelude.{IfOk, is_some}
use Rattle.type_terms.specs.Depth.{owner_depth, depth_step, owner_depth_step}
use Rattle.type_terms.specs.Nodes.{owner_nodes, nodes_step, owner_nodes_step}
use Rattle.type_terms.specs.declared.name.Scope.TheVariants.{Extern}
use Rattle.type_terms.specs.declared.name.TypeName.{TypeName}
use Rattle.type_terms.specs.declared.term.Owner.{Owner, Name}
use Rattle.type_terms.proofs.Layers.{fold-Name}
use Rattle.sig_codec.specs.Reading.{Step}
use Rattle.sig_codec.specs.Signature.{max_depth, max_nodes}
use Rattle.sig_codec.proofs.Numbers.{some_is}
use Rattle.image_model.specs.Tokens.{marked}
use Rattle.signature_facts.specs.declared.facts.Facts.{Facts}
use Rattle.signature_facts.specs.declared.facts.OwnerFacts.{OwnerFacts}
use Rattle.signature_facts.specs.Facts.{Naming, owner_step, type_step, owner_facts}
use Rattle.signature_facts.specs.Owners.{AreFacts, AreBounded}
use Rattle.signature_tokens.specs.declared.stop.Stop.{Stop}
use Rattle.signature_tokens.specs.declared.stop.Stop.TheVariants.{Memory, Unspelled}
use Rattle.signature_tokens.specs.Collecting.{Gives, EndsAs}
use Rattle.signature_tokens.specs.Named.{named}
use Rattle.signature_tokens.specs.Tells.{Tells}
use Rattle.signature_tokens.proofs.Collected.{Ends}

-- names of which nothing is known
pub nameless : Naming
nameless = record { weight = λ name. 0; hash = λ name. 0 }

pub all_named : AreFacts nameless marked (λ token. Some named)
unfolding nameless
all_named token =
    let naming : Naming = record { weight = λ name. 0; hash = λ name. 0 } in
    let n : TypeName = record { scope = Extern token; path = record { space = []; name = [] } ∷ [] } in
    ap (λ (o : OwnerFacts). Some o) (sym (fold-Name OwnerFacts Facts (owner_step naming) (type_step naming) n))

pub marked_bounded : AreBounded marked
marked_bounded token o e =
    let n : TypeName = record { scope = Extern token; path = record { space = []; name = [] } ∷ [] } in
    let is : Name n ≡ o = some_is (Name n) o e in
    let deep : owner_depth o ≡ 0 = ap owner_depth (sym is) ∙ fold-Name ℕ ℕ owner_depth_step depth_step n in
    let many : owner_nodes o ≡ 0 = ap owner_nodes (sym is) ∙ fold-Name ℕ ℕ owner_nodes_step nodes_step n in
    (omega arith, omega arith)

pub none_told : {F V : Type 0} (facts : V → F) (view : V → List ℕ) (whole : Option V) (scanned : Option F) (none : Bool) → scanned ≡ option_map facts whole → is_some scanned ≡ not none → none ≡ true
    → (old : List ℕ) → Tells old old false (option_map view whole)
none_told facts view None scanned none e f g old = (refl, refl)
none_told facts view (Some v) scanned none e f g old = absurd (let h = sym f ∙ ap is_some e in let i = ap not g in cc)

ended : {E : Type 0} (old now : List ℕ) (r : Result (Bor (List ℕ)) Stop) (result : Result Bool E) (step : Step (List ℕ)) (tokens : List ℕ)
    → Gives (λ (rest : Bor (List ℕ)). (now, rest.now)) r step → EndsAs r result → Ends step old tokens → IfOk result (λ spelled. Tells old now spelled (Some tokens))
ended old now (Ok rest) (Ok spelled) step tokens g e ends =
    let z : List ℕ × List ℕ = (old ++ tokens, ends.0) in
    let w : List ℕ × List ℕ = (now, rest.now) in
    let is = some_is z w (sym ends.1 ∙ g) in
    (cc, sym (ap (λ (x : List ℕ × List ℕ). x.0) is))
ended old now (Ok rest) (Err x) step tokens g e ends = tt
ended old now (Err Unspelled) result step tokens g e ends = absurd (let h = sym ends.1 ∙ g in cc)
ended old now (Err Memory) (Ok spelled) step tokens g e ends = absurd e
ended old now (Err Memory) (Err x) step tokens g e ends = tt

pub some_told : {F V E : Type 0} (facts : V → F) (view : V → List ℕ) (whole : Option V) (scanned : Option F) (none : Bool) → scanned ≡ option_map facts whole → is_some scanned ≡ not none → none ≡ false
    → (old now : List ℕ) (r : Result (Bor (List ℕ)) Stop) (result : Result Bool E) (step : Step (List ℕ)) → Gives (λ (rest : Bor (List ℕ)). (now, rest.now)) r step → EndsAs r result
    → ((v : V) → whole ≡ Some v → Ends step old (view v)) → IfOk result (λ spelled. Tells old now spelled (option_map view whole))
some_told facts view None scanned none e f g old now r result step h i ends = absurd (let j = sym f ∙ ap is_some e in let k = ap not g in cc)
some_told facts view (Some v) scanned none e f g old now r result step h i ends = ended old now r result step (view v) h i (ends v refl)
