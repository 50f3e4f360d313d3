-- Members that are the same: those of one name and one signature (ECMA-335 II.22.15, II.22.26, II.22.34).
use Rattle.std.specs.Prelude.{◌&&◌, Bool, List, bytes_eq}
use Rattle.std.specs.List.{list_any}
use Rattle.type_terms.specs.Same.{is_same_signature}
use Rattle.check_members.specs.declared.member_sets.Member.{Member}

abbrev pub is_same_member : Member → Member → Bool
is_same_member m n = bytes_eq m.name n.name && is_same_signature m.sig n.sig

-- one of these is the same
abbrev pub is_member : List Member → Member → Bool
is_member ms m = list_any (is_same_member m) ms
