-- What a source declares, as the code holds it.
use Rattle.std.specs.Prelude.{◌≡◌}
use Rattle.std.specs.List.{list_any}
use Rattle.source_model.specs.Forest.{preorder}
use Rattle.source_model.specs.Source.{Source}
use Rattle.source_syntax.specs.Namings.{AreNames}
use Rattle.source_syntax.specs.declared.name_lists.Naming.TheVariants.{Assembly, Label, Own}
use Rattle.check_names.specs.DeclaredClasses.{AreClasses}
use Rattle.check_source.specs.Census.{IsCensus, is_long}
use Rattle.check_source.specs.declared.all_declared.Declarations.{Declarations}

-- the data, the assemblies and the classes of a source, and how many nodes each production has there
pub record AreDeclarations (s : Source) (d : Declarations) : Type 0 where
  pub labels : AreNames s Label d.labels
  pub externs : AreNames s Assembly d.externs
  pub own : AreNames s Own d.own
  pub classes : AreClasses s d.classes
  pub census : IsCensus (preorder s.tree) d.census
  pub long-types : d.census.long_types ≡ list_any is_long (preorder s.tree)
