-- The edges of a body as a check goes along them.
use Rattle.std.proofs.Common.{◌≡◌, refl, sym, ◌∙◌, ap, subst, ℕ, zero, suc, ◌<◌, List, [], ◌∷◌, length, get_or, Some}
use Rattle.std.specs.Prelude.{slice_get}
use Rattle.std.specs.List.{Contains}
use Rattle.std.proofs.lemmas.Option.{slice_get-get_or, slice_get_within, get_or_from_slice_get}
use Rattle.std.proofs.lemmas.List.Elements.{Contains-get_or, at_from_Contains}
use Rattle.sig_pool.specs.declared.node.Node.{Node}
use Rattle.code_flow.specs.declared.goings.Carried.{Carried}
use Rattle.code_flow.specs.declared.goings.Carried.TheVariants.{Flowing, Nothing, Object, Caught}
use Rattle.code_flow.specs.declared.goings.Going.{Going}
use Rattle.body_verifier.specs.declared.stated.Stated.{Stated}
use Rattle.code_flow.specs.Edges as edges
use Rattle.code_flow.specs.Frames.{Frame}
use Rattle.code_flow.specs.Goings.{carries_of, found_in, AreGoings, IsGoings}
use Rattle.body_verifier.specs.Ways.{Says, AreWays, AreAllWays, AreStatedFor}

says_of : (ns : List Node) (s : Stated) (f : Frame) (c : Carried) → AreStatedFor ns s f → Says ns s c (carries_of f c)
says_of ns s f Flowing h = refl
says_of ns s f Nothing h = ([], refl, h.nothing)
says_of ns s f Object h = (edges.any_object, refl, h.object)
says_of ns s f (Caught k) h = (found_in f (slice_get f.clauses k), refl, h.caught k)

contains_there : (gs : List Going) (j : ℕ) (g : Going) → slice_get gs j ≡ Some g → Contains gs g
contains_there gs j g at =
    let P : Going → Type 0 = λ (x : Going). Contains gs x in
    subst P (get_or_from_slice_get gs j g g at) (Contains-get_or gs j g (slice_get_within gs j g at))

place_there : (gs : List Going) (g : Going) → Contains gs g → (j : ℕ) × (slice_get gs j ≡ Some g)
place_there gs g c = let r = at_from_Contains gs g c in (r.0, slice_get-get_or gs r.0 g r.1 ∙ ap Some (r.2 g))

pub ways_of : (ns : List Node) (s : Stated) (f : Frame) (k : ℕ) (gs : List Going) → AreStatedFor ns s f → AreGoings f k gs → AreWays ns s f k gs
ways_of ns s f k gs h g = record {
  each = λ j x at. let e = g.each x (contains_there gs j x at) in (e.0, (carries_of f x.carries, says_of ns s f x.carries h, e.1));
  whole = λ t c into e.
      let r = g.all t c into e in
      let p = place_there gs r.0 r.1 in
      let P : edges.Carries → Type 0 = λ (d : edges.Carries). Says ns s r.0.carries d in
      (p.0, r.0, p.1, r.2, subst P r.3 (says_of ns s f r.0.carries h));
}

pub all_ways_of : (ns : List Node) (s : Stated) (f : Frame) (all : List (List Going)) → AreStatedFor ns s f → IsGoings f all → AreAllWays ns s f all
all_ways_of ns s f all h g = record { long = g.count; are = λ k below. ways_of ns s f k (get_or all k []) h (g.are k below) }
