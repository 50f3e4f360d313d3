-- Terms with their tokens. Terms are told apart by what a ghost store would hold of them, which is one to one.
use base.Stored.{Gv, gnil, gnum, gcons, Coded}
use Rattle.std.specs.Prelude.{ℕ, Bool, true, false, ◌&&◌, nat_eq, List, [], ◌∷◌, Option, Some, None, if◌then◌else◌}

-- whether two stored values are one
abbrev pub same_stored : Gv → Gv → Bool
same_stored gnil gnil = true
same_stored gnil (gnum n) = false
same_stored gnil (gcons c d) = false
same_stored (gnum m) gnil = false
same_stored (gnum m) (gnum n) = nat_eq m n
same_stored (gnum m) (gcons c d) = false
same_stored (gcons a b) gnil = false
same_stored (gcons a b) (gnum n) = false
same_stored (gcons a b) (gcons c d) = same_stored a c && same_stored b d

-- whether two terms are equal
unfoldable pub same_term : {T : Type 0} → Coded T → T → T → Bool
same_term coded a b = same_stored (coded.code a) (coded.code b)

-- the token of a term among terms with tokens
abbrev pub token_in : {T : Type 0} → Coded T → List (T × ℕ) → T → Option ℕ
token_in coded [] x = None
token_in coded (e ∷ es) x = if same_term coded e.0 x then Some e.1 else token_in coded es x
