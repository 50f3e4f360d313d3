-- What is read in a world that goes on.
use Rattle.std.proofs.Common.{◌≡◌, ◌∙◌, refl, sym, subst, ℕ, ◌<◌, List, [], length, Result, Ok, Err, OnOk, IfOk, Option, None, Some}
use Rattle.std.proofs.lemmas.List.{append-nil}
use Rattle.type_terms.specs.declared.term.SigType.{SigType}
use Rattle.std.specs.Option.{ForSome}
use Rattle.sig_pool.specs.declared.node.Node.{Node}
use Rattle.sig_pool.specs.Terms.{AllBelow, term_of}
use Rattle.sig_pool.specs.Pool.{Extends}
use Rattle.sig_pool.specs.Replaced.{terms_at}
use Rattle.type_hierarchy.specs.Hierarchy.{Hierarchy}
use Rattle.type_hierarchy.specs.Tables.{hierarchy_in}
use Rattle.type_hierarchy.specs.World.{Content, Stays, hierarchy}
use Rattle.type_hierarchy.proofs.GrowLemmas.{below_extends, kept, extends_trans}

pub stays_itself : (w : Content) → Stays w w
stays_itself w = record { tables = refl; nodes = record { more = []; nodes = sym (append-nil w.nodes); terms = λ k h. refl } }

-- what is made of a hierarchy and of the types of ids
pub in_old : {X : Type 0} (f : Hierarchy → List SigType → X) (old new : Content) (args : List ℕ) → Stays old new → AllBelow (length old.nodes) args →
    f (hierarchy new) (terms_at new.nodes args) ≡ f (hierarchy old) (terms_at old.nodes args)
in_old f old new args s low = λ i. f (hierarchy_in (s.tables i)) (kept old.nodes new.nodes args s.nodes low i)

pub at_old : {X : Type 0} (f : Hierarchy → SigType → X) (old new : Content) (id : ℕ) → Stays old new → id < length old.nodes →
    f (hierarchy new) (term_of new.nodes id) ≡ f (hierarchy old) (term_of old.nodes id)
at_old f old new id s low = λ i. f (hierarchy_in (s.tables i)) (s.nodes.terms id low i)

pub stays_on : (a b c : Content) → Stays a b → Stays b c → Stays a c
stays_on a b c s u = record { tables = u.tables ∙ s.tables; nodes = extends_trans a.nodes b.nodes c.nodes s.nodes u.nodes }

pub on_ok_more : {X E P Q : Type 0} (r : Result X E) → (P → Q) → OnOk r P → OnOk r Q
on_ok_more (Ok x) f h = f h
on_ok_more (Err e) f h = h

pub if_ok_more : {X E : Type 0} {P Q : X → Type 0} (r : Result X E) → ((x : X) → P x → Q x) → IfOk r P → IfOk r Q
if_ok_more (Ok x) f h = f x h
if_ok_more (Err e) f h = h

pub option_below : (ns ms : List Node) (o : Option (List ℕ)) → Extends ns ms → ForSome o (λ ks. AllBelow (length ns) ks) → ForSome o (λ ks. AllBelow (length ms) ks)
option_below ns ms None x p = λ ls e. let q : ⊥ = cc in absurd q
option_below ns ms (Some ks) x p = λ ls e. below_extends ns ms ls x (p ls e)

pub for_some : {X : Type 0} (P : X → Type 0) (k : X) → P k → ForSome (Some k) P
for_some P k h x e = let q : k ≡ x = cc in subst P q h
