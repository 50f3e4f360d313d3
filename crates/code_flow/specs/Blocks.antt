-- The blocks of a body and how they lie in one another (ECMA-335 I.12.4.2, II.19, III.1.7).
use Rattle.std.specs.Prelude.{◌≡◌, ℕ, ◌<◌, ◌≤◌, List, [], ◌∷◌, slice_get, Some}
use Rattle.std.specs.List.{Contains, flat_map}
use Rattle.assembly_tree.specs.declared.body.Clause.{Clause}
use Rattle.assembly_tree.specs.declared.body.ClauseKind.{ClauseKind}
use Rattle.assembly_tree.specs.declared.body.ClauseKind.TheVariants.{Catch, Filter, Finally, Fault}

pub data BlockKind : Type 0 where
  guarded : BlockKind
  handler : ClauseKind → BlockKind
  filter : BlockKind

-- a range of instructions, the end not included. Tries with equal ranges are one block
pub record Block : Type 0 where
  pub kind : BlockKind
  pub start : ℕ
  pub end : ℕ

abbrev pub try_block : Clause → Block
try_block c = record { kind = guarded; start = c.try_start; end = c.try_end }

abbrev pub handler_block : Clause → Block
handler_block c = record { kind = handler c.kind; start = c.handler_start; end = c.handler_end }

-- a filter runs to the start of its handler
abbrev pub filter_blocks : ℕ → ClauseKind → List Block
filter_blocks handler_start (Filter at) = record { kind = filter; start = at; end = handler_start } ∷ []
filter_blocks handler_start (Catch o) = []
filter_blocks handler_start Finally = []
filter_blocks handler_start Fault = []

-- the handler of a clause, and its filter where it has one
abbrev pub handling_blocks : Clause → List Block
handling_blocks c = handler_block c ∷ filter_blocks c.handler_start c.kind

abbrev pub blocks_of : Clause → List Block
blocks_of c = try_block c ∷ handling_blocks c

abbrev pub blocks : List Clause → List Block
blocks clauses = flat_map blocks_of clauses

-- ---- instructions in blocks

-- the block holds the instruction
pub record Holds (b : Block) (k : ℕ) : Type 0 where
  pub from : b.start ≤ k
  pub to : k < b.end

-- a block of the body that holds the instruction, and lies in each other that does
pub record IsInnermost (clauses : List Clause) (k : ℕ) (b : Block) : Type 0 where
  pub is : Contains (blocks clauses) b
  pub holds : Holds b k
  pub inside : (c : Block) → Contains (blocks clauses) c → Holds c k → (c.start ≤ b.start) × (b.end ≤ c.end)

-- a try that begins at an instruction
pub record BeginsAt (b : Block) (k : ℕ) : Type 0 where
  pub is_try : b.kind ≡ guarded
  pub begins : b.start ≡ k

-- A step from one instruction to another is level: it leaves no block, and enters only tries, at their first instruction.
pub record IsLevel (clauses : List Clause) (k t : ℕ) : Type 0 where
  pub stays : (b : Block) → Contains (blocks clauses) b → Holds b k → Holds b t
  pub enters : (b : Block) → Contains (blocks clauses) b → Holds b t → (Holds b k → ⊥) → BeginsAt b t

-- ---- blocks in blocks

abbrev pub AreDisjoint : Block → Block → Type 0
AreDisjoint a b = (k : ℕ) → Holds a k → Holds b k → ⊥

abbrev pub LiesIn : Block → Block → Type 0
LiesIn a b = (k : ℕ) → Holds a k → Holds b k

abbrev pub AllDisjoint : List Block → List Block → Type 0
AllDisjoint xs ys = (x y : Block) → Contains xs x → Contains ys y → AreDisjoint x y

-- the ranges of the tries are the same
pub record SameTry (c d : Clause) : Type 0 where
  pub starts : c.try_start ≡ d.try_start
  pub ends : c.try_end ≡ d.try_end

-- all blocks of a clause lie in one block
pub record LieIn (c : Clause) (b : Block) : Type 0 where
  pub all : (x : Block) → Contains (blocks_of c) x → LiesIn x b

-- Of two clauses with different tries, all blocks are disjoint, or those of one lie in one block of the other. Where that is
-- the try, the inner clause stands first.
pub data AreNested (c d : Clause) : Type 0 where
  disjoint : AllDisjoint (blocks_of c) (blocks_of d) → AreNested c d
  first_inside : (b : Block) → Contains (blocks_of d) b → LieIn c b → AreNested c d
  second_inside : (b : Block) → Contains (handling_blocks c) b → LieIn d b → AreNested c d

-- The blocks of each clause are disjoint; clauses with one try have disjoint handlers and filters; others are nested.
pub record ClausesNest (clauses : List Clause) : Type 0 where
  pub each : (c : Clause) → Contains clauses c → AllDisjoint (try_block c ∷ []) (handling_blocks c)
  pub filters : (c : Clause) → Contains clauses c → AllDisjoint (handler_block c ∷ []) (filter_blocks c.handler_start c.kind)
  pub shared : (i j : ℕ) (c d : Clause) → i < j → slice_get clauses i ≡ Some c → slice_get clauses j ≡ Some d →
      SameTry c d → AllDisjoint (handling_blocks c) (handling_blocks d)
  pub nested : (i j : ℕ) (c d : Clause) → i < j → slice_get clauses i ≡ Some c → slice_get clauses j ≡ Some d →
      (SameTry c d → ⊥) → AreNested c d
