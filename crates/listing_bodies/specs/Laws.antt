-- What the bodies of methods of a listing are read as (ECMA-335 II.15.4.1, II.19, II.25.4, III.1.7).
use Rattle.std.specs.Prelude.{ℕ, ◌+◌, ◌≡◌, ◌<◌, ◌^◌, true, false, List, [], ◌∷◌, ◌++◌, length, Some}
use Rattle.ilasm_grammar.specs.declared.nonterminals.TheConstants as n
use Rattle.ilasm_grammar.specs.declared.productions.TheConstants as p
use Rattle.assembly_tree.specs.WellFormedBodies.{offset_of, is_body}
use Rattle.assembly_tree.specs.declared.assembly.Assembly.{Assembly}
use Rattle.ilasm_grammar.specs.declared.symbol.Symbol.TheVariants.{Nonterminal}
use Rattle.assembly_tree.specs.declared.body.Body.{Body}
use Rattle.assembly_tree.specs.declared.body.Clause.{Clause}
use Rattle.assembly_tree.specs.declared.body.Ins.{Ins}
use Rattle.source_model.specs.Bodies as read
use Rattle.source_model.specs.Clauses.{Guarded, guarded_in, guarded}
use Rattle.source_model.specs.Forest as f
use Rattle.source_model.specs.Instructions.{instruction_forms, instructions_of}
use Rattle.source_model.specs.Nodes.{Around}
use Rattle.source_model.specs.Source.{Source}
use Rattle.listing_formed.specs.Laws.{Knows}
use Rattle.listing_growth.specs.Held.{is_body_held}
use Rattle.listing_model.specs.Bodies as written
use Rattle.listing_model.specs.Grown.{body_of, Grows}
use Rattle.listing_model.specs.Shown.{Item, size}
use Rattle.listing_reading.specs.Below.{cant_stand}
use Rattle.listing_reading.specs.Numbered.{numbered}
use Rattle.listing_rows.specs.Segments.{ItemsAgree, pieces_at, EachGrown}

-- the clauses that stand in items of a row
abbrev pub guarded_at : ℕ → List Item → List Guarded
guarded_at at [] = []
guarded_at at (i ∷ is) = guarded_in f.none (f.branch i.production (numbered at i.below) f.none) ++ guarded_at (at + size i.below) is

-- All that a body consists of stands in these items of a method: its instructions, its labels, its locals, the bound of its stack, and its
-- clauses.
pub record IsBodyOf (method : f.Forest) (at : ℕ) (items : List Item) : Type 0 where
  pub instructions : instructions_of method ≡ pieces_at instruction_forms at items
  pub labels : f.parts (p.ITEM_NAME ∷ []) method ≡ pieces_at (p.ITEM_NAME ∷ []) at items
  pub locals : f.parts (p.LOCAL ∷ []) method ≡ pieces_at (p.LOCAL ∷ []) at items
  pub init : f.parts (p.INIT_OPT_SOME ∷ []) method ≡ pieces_at (p.INIT_OPT_SOME ∷ []) at items
  pub bound : f.parts (p.ITEM_MAXSTACK ∷ []) method ≡ pieces_at (p.ITEM_MAXSTACK ∷ []) at items
  pub clauses : guarded method ≡ guarded_at at items

-- nothing that is sought is a line of this production, or can stand in one
pub record LacksIn (sought : List ℕ) (q : ℕ) : Type 0 where
  pub own : f.is_among sought q ≡ false
  pub inside : cant_stand sought (body_of q) ≡ true

-- nothing that is sought is a production of a clause by labels, or can stand in an owner
pub record PassesClauses (sought : List ℕ) : Type 0 where
  pub range : f.is_among sought p.TRY_RANGE_NAME ≡ false
  pub catch : f.is_among sought p.CLAUSE_CATCH ≡ false
  pub filter : f.is_among sought p.CLAUSE_FILTER ≡ false
  pub finally : f.is_among sought p.CLAUSE_FINALLY ≡ false
  pub fault : f.is_among sought p.CLAUSE_FAULT ≡ false
  pub filter_start : f.is_among sought p.FILTER_START_NAME ≡ false
  pub handler : f.is_among sought p.HANDLER_HANDLER ≡ false
  pub end : f.is_among sought p.CLAUSE_STAR_END ≡ false
  pub owners : cant_stand sought (Nonterminal n.SPEC ∷ []) ≡ true

-- A clause, and a body, hold nothing that can't stand in their lines.
pub record LinesLack : Type 0 where
  pub clause : (a : Assembly) (code : List Ins) (sought : List ℕ) → PassesClauses sought → (c : Clause) → Grows (body_of p.ITEM_TRY) (written.clause a.externs code c).below →
      (at : ℕ) → f.parts sought (numbered at (written.clause a.externs code c).below) ≡ []
  pub body : (a : Assembly) (b : Body) (sought : List ℕ) → PassesClauses sought → f.is_among sought p.ITEM_TRY ≡ false → LacksIn sought p.ITEM_MAXSTACK →
      LacksIn sought p.ITEM_LOCALS → LacksIn sought p.ITEM_NAME → LacksIn sought p.ITEM_INSTRUCTION → EachGrown n.ITEM (written.body a.externs b) → (at : ℕ) →
      pieces_at sought at (written.body a.externs b) ≡ []

-- a body whose code isn't too long, in any method that has its items and no others of the kind
abbrev pub BodiesAreRead : Type 0
BodiesAreRead =
    (s : Source) (around : Around) (a : Assembly) → Knows s a → (b : Body) → is_body a b ≡ true → is_body_held b ≡ true →
    offset_of b.code (length b.code) < 2 ^ 128 → (method : f.Forest) (at : ℕ) → EachGrown n.ITEM (written.body a.externs b) →
    ItemsAgree s at (written.body a.externs b) → IsBodyOf method at (written.body a.externs b) → read.body s around method ≡ Some b
