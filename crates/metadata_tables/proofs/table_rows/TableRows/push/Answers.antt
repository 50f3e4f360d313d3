use Rattle.std.proofs.Common.{◌≡◌, ◌+◌, ◌*◌, ◌++◌, ◌∷◌, [], ℕ, List, length, ap, arith, refl, length-append}
use Rattle.std.specs.List.{All}
use Rattle.metadata_tables.specs.Encoding.{pieces}
use Rattle.metadata_tables.proofs.Pieces.{length-pieces, resized, pieces_more}
use Rattle.metadata_tables.proofs.table_rows.TableRows.push.Goals as goal

pub overflow_add-self : goal.overflow_add-self
overflow_add-self c =
    let count = length-pieces c.self.inside.columns c.self.inside.len c.self.inside.cells in
    let there = ap length c.self.view_is in
    omega (arith, count, there, c.requires.room)

-- a row more, at the row's size
added : (columns len : ℕ) (cells new rest : List ℕ) (rows : List (List ℕ)) → length cells ≡ columns * len → pieces columns len cells ≡ rows → All (λ row. length row ≡ length new) rows → rest ≡ cells ++ new → (length rest ≡ length new * (len + 1)) × (pieces (length new) (len + 1) rest ≡ rows ++ new ∷ [])
added columns len cells new rest rows all is alike e =
    let size = resized columns len (length new) cells all (rw is alike) in
    let longer = length-append cells new in
    (rw e (omega (arith, longer, size.0)), rw (e, ← is, size.1) (pieces_more (length new) len cells new size.0 refl))

pub invariant_of-self-2 : goal.invariant_of-self-2
invariant_of-self-2 c =
    (added c.self.inside.columns c.self.inside.len c.self.inside.cells c.args.cells.now c.extend.new.self c.args.self.now c.self.invariant c.self.view_is c.requires.alike c.in_ok-extend.ensures.ok).0

pub returns-clause-ok : goal.returns-clause-ok
returns-clause-ok c =
    (added c.self.inside.columns c.self.inside.len c.self.inside.cells c.args.cells.now c.extend.new.self c.args.self.now c.self.invariant c.self.view_is c.requires.alike c.in_ok-extend.ensures.ok).1
