-- What `peverify` says: a line for each failure, how many methods and failures there are, and which type is its own ancestor.
use Rattle.std.specs.Prelude.{ℕ, ◌≤◌, false, List, [], ◌++◌, length, codes}
use Rattle.std.specs.Fmt.{decimal, digits}
use Rattle.std.specs.List.{flat_map}
use Rattle.std.specs.Option.{option_map_or}
use Rattle.assembly_tree.specs.declared.assembly.Assembly.{Assembly}
use Rattle.assembly_tree.specs.declared.typedef.MethodPath.{MethodPath}
use Rattle.body_verifier.specs.Texts.{rule_text_of}
use Rattle.body_verifier.specs.declared.report.Failure.{Failure}
use Rattle.code_flow.specs.Methods.{all_methods}
use Rattle.listing_leaves.specs.Numbers.{at_least}
use Rattle.listing_model.specs.Canon.{reference_at, reference_line}

-- a declared method, as the listing of its assembly refers to it
abbrev pub method_text : Assembly → MethodPath → List ℕ
method_text a at = option_map_or (reference_line a) (reference_at a at) []

-- the rules V1 to V20 (III.1.8)
abbrev pub IsRule : ℕ → Type 0
IsRule rule = (1 ≤ rule) × (rule ≤ 20)

-- METHOD [0xOOOO] Vn: TEXT
abbrev pub failure_text : Assembly → Failure → List ℕ
failure_text a f =
    method_text a f.method ++ (codes " [0x" ++ (at_least 4 (digits 16 false f.offset) ++ (codes "] V" ++ (decimal f.rule ++ (codes ": " ++ (rule_text_of f.rule ++ codes "\n"))))))

-- methods M, failures F
abbrev pub count_text : (methods failures : ℕ) → List ℕ
count_text methods failures = codes "methods " ++ (decimal methods ++ (codes ", failures " ++ (decimal failures ++ codes "\n")))

-- the failures, and then how many methods with a body and failures there are
abbrev pub report_text : Assembly → List Failure → List ℕ
report_text a failures = flat_map (failure_text a) failures ++ count_text (length (all_methods a)) (length failures)

-- FILE: error Y1: TYPE is its own ancestor
abbrev pub cyclic_text : (file type : List ℕ) → List ℕ
cyclic_text file type = file ++ (codes ": error Y1: " ++ (type ++ codes " is its own ancestor\n"))
