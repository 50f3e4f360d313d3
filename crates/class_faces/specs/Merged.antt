-- The interfaces of two lists.
use Rattle.class_faces.specs.declared.faces.Faces.{Faces}
use Rattle.class_faces.specs.Unions.{IsUnion}

pub record AreMerged (above own f : Faces) : Type 0 where
  pub all : IsUnion above.all own.all f.all
  pub overriding : IsUnion above.overriding own.overriding f.overriding
