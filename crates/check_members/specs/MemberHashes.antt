-- The hash by which a member is found: that of its name and its signature (ECMA-335 II.22.15, II.22.26, II.22.34).
use Rattle.std.specs.Prelude.{ℕ}
use Rattle.type_terms.specs.Hashing.{hash_member}
use Rattle.check_members.specs.declared.member_sets.Member.{Member}

abbrev pub member_hash : Member → ℕ
member_hash m = hash_member m.name m.sig
