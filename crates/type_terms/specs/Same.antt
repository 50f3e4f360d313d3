-- Types and signatures that are the same (ECMA-335 II.23.2.1, II.23.2.12).
use Rattle.std.specs.Prelude.{ℕ, ◌==◌, ◌&&◌, Bool, true, false, Option, None, Some}
use Rattle.std.specs.Bool.{beq}
use Rattle.std.specs.Ordering.{is_eq}
use lib.Pointwise.{pointwise}
use Rattle.type_terms.specs.Order.{term_order}
use Rattle.type_terms.specs.declared.reference.MethodSig.{MethodSig}
use Rattle.type_terms.specs.declared.term.SigType.{SigType}

-- types are the same where their order is "equal", which is so exactly for equal types
abbrev pub is_same_type : SigType → SigType → Bool
is_same_type x y = is_eq (term_order x y)

abbrev pub is_same_sentinel : Option ℕ → Option ℕ → Bool
is_same_sentinel None None = true
is_same_sentinel (Some j) (Some k) = j == k
is_same_sentinel None (Some k) = false
is_same_sentinel (Some j) None = false

unfoldable pub is_same_signature : MethodSig → MethodSig → Bool
is_same_signature s u =
    beq s.has_this u.has_this && beq s.explicit_this u.explicit_this && beq s.vararg u.vararg && (s.generic == u.generic)
    && is_same_sentinel s.sentinel u.sentinel && is_same_type s.ret u.ret && pointwise is_same_type s.params u.params
