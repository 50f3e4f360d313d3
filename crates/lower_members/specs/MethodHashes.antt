-- The hash by which a method is found: that of its name and its signature (ECMA-335 II.22.26).
use Rattle.std.specs.Prelude.{ℕ}
use Rattle.type_terms.specs.Hashing.{hash_member}
use Rattle.lower_members.specs.SignedMethods.{Signed}

abbrev pub signed_hash : Signed → ℕ
signed_hash m = hash_member m.name m.sig
