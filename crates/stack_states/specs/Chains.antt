-- The values of a stack's cells, the topmost first.
use Rattle.std.specs.Prelude.{List, [], ◌∷◌, Option, None, Some}
use Rattle.std.specs.Rc.{rc_value}
use Rattle.std.specs.declared.alloc.Global.{Global}
use Rattle.std.specs.declared.rc.Rc.{Rc}
use Rattle.type_hierarchy.specs.declared.stack_type.StackType.{StackType}
use Rattle.stack_states.specs.declared.stack.Uppermost.{Uppermost}
use Rattle.stack_states.specs.declared.stack.Uppermost.TheVariants.{One, Two, More}
use Rattle.stack_states.specs.declared.stack.Cell.{Cell, Cell', Held-Cell-below, None', Some'}

abbrev mutual
  pub values_in : Cell → List StackType
  values_in (Cell' value below) = value ∷ values_below below

  pub values_below : Held-Cell-below → List StackType
  values_below None' = []
  values_below (Some' p cell) = values_in cell

abbrev pub values_of : Option (Rc Cell Global) → List StackType
values_of None = []
values_of (Some cell) = values_in (rc_value cell)

-- the topmost values of a stack, the topmost last
abbrev pub topmost_values : Uppermost → List StackType
topmost_values (One value) = value ∷ []
topmost_values (Two values) = values
topmost_values (More values) = values.items
