-- What is said of an instruction that breaks a rule.
use Rattle.std.specs.Prelude.{ℕ, ◌-◌, List, [], ◌∷◌, codes, slice_index_or}

-- the texts of the rules V1 to V20, in order
unfoldable pub rule_texts : List (List ℕ)
rule_texts =
    codes "too few operands"
    ∷ codes "stacks of different depth meet"
    ∷ codes "the stack is deeper than .maxstack"
    ∷ codes "an operand isn't of the kind demanded"
    ∷ codes "an operand isn't assignable to what is demanded"
    ∷ codes "the code runs past its end"
    ∷ codes "the operator doesn't take these operands together"
    ∷ codes "no such local"
    ∷ codes "no such argument"
    ∷ codes "the member doesn't fit the instruction"
    ∷ codes "ret with a wrong stack or inside a protected block or handler"
    ∷ codes "a branch enters or leaves a block"
    ∷ codes "the code falls into or out of a block"
    ∷ codes "a protected block is entered with a stack that isn't empty"
    ∷ codes "leave, rethrow, endfinally or endfilter out of its place"
    ∷ codes "the clauses don't nest"
    ∷ codes "a prefix doesn't fit what follows"
    ∷ codes "the instruction or signature is never verified"
    ∷ codes "a pointer to a by-reference type"
    ∷ codes "locals without init"
    ∷ []

-- the text of a rule
abbrev pub rule_text_of : ℕ → List ℕ
rule_text_of rule = slice_index_or rule_texts (rule - 1) []
