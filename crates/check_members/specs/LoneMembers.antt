-- Which kinds are among some.
use Rattle.std.specs.Prelude.{Bool}
use Rattle.check_members.specs.declared.lone_members.Kinds.{Kinds}
use Rattle.check_members.specs.declared.member_kinds.Kind.{Kind}
use Rattle.check_members.specs.declared.member_kinds.Kind.TheVariants.{Field, Method, Property, Event}

abbrev pub is_met : Kinds → Kind → Bool
is_met ks Field = ks.field
is_met ks Method = ks.method
is_met ks Property = ks.property
is_met ks Event = ks.event
