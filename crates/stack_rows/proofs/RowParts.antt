-- Rows from what is asked and pushed.
use Rattle.std.proofs.Common.{◌≡◌, ◌∙◌, ap, refl, ℕ, ◌<◌, Option, None, Some, List, [], ◌∷◌, map, length}
use Rattle.std.specs.List.{All, AllZip}
use Rattle.std.proofs.lemmas.List.Elements.{All-nil, All-cons}
use Rattle.std.specs.Prelude.{IfSome}
use Rattle.type_terms.specs.declared.term.SigType.{SigType}
use Rattle.sig_pool.specs.declared.node.Node.{Node}
use Rattle.sig_pool.specs.Pool.{Has}
use Rattle.sig_pool.specs.Terms.{term_of}
use Rattle.type_hierarchy.specs.Hierarchy.{Hierarchy}
use Rattle.type_hierarchy.specs.Tables.{hierarchy_in}
use Rattle.type_hierarchy.specs.World.{Content, hierarchy, Stays}
use Rattle.type_hierarchy.specs.declared.stack_type.StackType.{StackType}
use Rattle.type_hierarchy.specs.Meaning.{Means}
use Rattle.type_hierarchy.specs.Stack.{Stack}
use Rattle.stack_rows.specs.declared.row.Demand.{Demand}
use Rattle.stack_rows.specs.declared.row.Demand.TheVariants.{Exactly, OneOf, To}
use Rattle.stack_rows.specs.declared.row.Pushed.{Pushed}
use Rattle.stack_rows.specs.declared.row.Pushed.TheVariants.{Always}
use Rattle.stack_rows.specs.declared.row.Row.{Row}
use Rattle.code_flow.specs.Demands as demands
use Rattle.code_flow.specs.Rows as rows
use Rattle.stack_rows.specs.RowMeanings.{demand_meant, IsDemandWithin, MeansDemand, pushed_meant, IsPushedWithin, MeansPushed, together_meant, MeansRow, type_option}

-- ---- one

pub exactly_means : (ns : List Node) (s : StackType) (x : Stack) → Means ns s x → MeansDemand ns (Exactly s) (demands.exactly x)
exactly_means ns s x h = record { within = h.within; is = ap demands.exactly h.is }

pub to_means : (ns : List Node) (s : StackType) (x : Stack) → Means ns s x → MeansDemand ns (To s) (demands.to x)
to_means ns s x h = record { within = h.within; is = ap demands.to h.is }

pub one_of_means : (ns : List Node) (s t : StackType) (x y : Stack) → Means ns s x → Means ns t y → MeansDemand ns (OneOf s t) (demands.one_of x y)
one_of_means ns s t x y h g = record { within = (h.within, g.within); is = let e = h.is in let f = g.is in λ i. demands.one_of (e i) (f i) }

pub always_means : (ns : List Node) (s : StackType) (x : Stack) → Means ns s x → MeansPushed ns (Always s) (rows.always x)
always_means ns s x h = record { within = h.within; is = ap rows.always h.is }

-- ---- many

demands_within : (ns : List Node) (ds : List Demand) (os : List demands.Demand) → AllZip (MeansDemand ns) ds os → All (IsDemandWithin (length ns)) ds
demands_within ns [] [] h = All-nil (IsDemandWithin (length ns))
demands_within ns [] (o ∷ os) h = absurd h
demands_within ns (d ∷ ds) [] h = absurd h
demands_within ns (d ∷ ds) (o ∷ os) h = All-cons (IsDemandWithin (length ns)) d ds h.0.within (demands_within ns ds os h.1)

demands_are : (ns : List Node) (ds : List Demand) (os : List demands.Demand) → AllZip (MeansDemand ns) ds os → map (demand_meant ns) ds ≡ os
demands_are ns [] [] h = refl
demands_are ns [] (o ∷ os) h = absurd h
demands_are ns (d ∷ ds) [] h = absurd h
demands_are ns (d ∷ ds) (o ∷ os) h = let e : demand_meant ns d ≡ o = h.0.is in let t = demands_are ns ds os h.1 in λ i. e i ∷ t i

results_within : (ns : List Node) (qs : List Pushed) (ps : List rows.Pushed) → AllZip (MeansPushed ns) qs ps → All (IsPushedWithin (length ns)) qs
results_within ns [] [] h = All-nil (IsPushedWithin (length ns))
results_within ns [] (p ∷ ps) h = absurd h
results_within ns (q ∷ qs) [] h = absurd h
results_within ns (q ∷ qs) (p ∷ ps) h = All-cons (IsPushedWithin (length ns)) q qs h.0.within (results_within ns qs ps h.1)

results_are : (ns : List Node) (qs : List Pushed) (ps : List rows.Pushed) → AllZip (MeansPushed ns) qs ps → map (pushed_meant ns) qs ≡ ps
results_are ns [] [] h = refl
results_are ns [] (p ∷ ps) h = absurd h
results_are ns (q ∷ qs) [] h = absurd h
results_are ns (q ∷ qs) (p ∷ ps) h = let e : pushed_meant ns q ≡ p = h.0.is in let t = results_are ns qs ps h.1 in λ i. e i ∷ t i

-- ---- rows

pub row_means : (ns : List Node) (r : Row) (os : List demands.Demand) (t : demands.Together) (ps : List rows.Pushed) → together_meant r.together ≡ t → AllZip (MeansDemand ns) r.operands os
    → AllZip (MeansPushed ns) r.pushed ps → MeansRow ns r (record { operands = os; together = t; pushed = ps; empties = r.empties })
row_means ns r os t ps e hd hp = record {
  within = record { operands = demands_within ns r.operands os hd; pushed = results_within ns r.pushed ps hp };
  is = let a = demands_are ns r.operands os hd in let b = results_are ns r.pushed ps hp in
      λ i. record { operands = a i; together = e i; pushed = b i; empties = r.empties };
}

-- ---- the object of a field or a call

pub option_same : (a b : Content) (k : Option ℕ) → Stays a b → IfSome k (λ j. j < length a.nodes) → type_option b.nodes k ≡ type_option a.nodes k
option_same a b None t h = refl
option_same a b (Some k) t h = ap Some (t.nodes.terms k h)

pub object_same : (D : Hierarchy → Option SigType → SigType → demands.Demand) (a b : Content) (ms : List Node) (d : Demand) (k : Option ℕ) (owner : ℕ) (t : SigType) → Stays a b
    → IfSome k (λ j. j < length a.nodes) → Has b.nodes owner t → MeansDemand ms d (D (hierarchy b) (type_option b.nodes k) (term_of b.nodes owner)) → MeansDemand ms d (D (hierarchy a) (type_option a.nodes k) t)
object_same D a b ms d k owner t s low has h = record {
  within = h.within;
  is = h.is ∙ (let eh : hierarchy b ≡ hierarchy a = ap hierarchy_in s.tables in let eo = option_same a b k s low in let et = has.term in λ i. D (eh i) (eo i) (et i));
}
