-- What is said of the fault of a source.
use Rattle.std.specs.Prelude.{ℕ, ◌==◌, if◌then◌else◌, List, [], ◌++◌, codes}
use Rattle.std.specs.Fmt.{decimal}
use Rattle.source_assembly.specs.declared.fault.SourceFault.{SourceFault}
use Rattle.source_assembly.specs.declared.fault.SourceFault.TheVariants.{Lexical, Syntax, Named}
use Rattle.il_tools.specs.declared.fault.ContentFault.{ContentFault}
use Rattle.il_tools.specs.declared.fault.ContentFault.TheVariants.{Source, TooLarge}
use Rattle.source_model.specs.declared.fault.NameClass.{NameClass}
use Rattle.source_model.specs.declared.fault.NameClass.TheVariants.{D, N, B}

-- the text of the rule L1 to L7 with this number
unfoldable pub lexical_text : ℕ → List ℕ
lexical_text rule =
    if rule == 1 then codes "the source isn't UTF-8"
    else if rule == 2 then codes "a string, a quoted name or a comment doesn't end"
    else if rule == 3 then codes "an escape, a zero byte or an empty quoted name isn't allowed"
    else if rule == 4 then codes "a real number in decimal isn't read"
    else if rule == 5 then codes "no token begins here"
    else if rule == 6 then codes "more than 16777216 tokens"
    else if rule == 7 then codes "brackets nest deeper than 400"
    else []

-- the text of the rule S1 or S2 with this number
unfoldable pub syntax_text : ℕ → List ℕ
syntax_text rule =
    if rule == 1 then codes "no declaration goes on with this token"
    else if rule == 2 then codes "this construct is left out"
    else []

-- the text of the rule D1 to D7 with this number
unfoldable pub twice_text : ℕ → List ℕ
twice_text rule =
    if rule == 1 then codes "type declared twice"
    else if rule == 2 then codes "member declared twice"
    else if rule == 3 then codes "extern or alias declared twice"
    else if rule == 4 then codes "label declared twice"
    else if rule == 5 then codes "a second .entrypoint"
    else if rule == 6 then codes "a second .assembly or .module"
    else if rule == 7 then codes "data label declared twice"
    else []

-- the text of the rule N1 to N8 with this number
unfoldable pub undeclared_text : ℕ → List ℕ
undeclared_text rule =
    if rule == 1 then codes "type isn't declared here"
    else if rule == 2 then codes "extern isn't declared"
    else if rule == 3 then codes "label isn't declared"
    else if rule == 4 then codes "local or argument isn't declared"
    else if rule == 5 then codes "generic parameter isn't declared"
    else if rule == 6 then codes "accessor isn't a method of this class"
    else if rule == 7 then codes "no .assembly"
    else if rule == 8 then codes "data label isn't declared"
    else []

-- the text of the rule B1 to B8 with this number
unfoldable pub bounds_text : ℕ → List ℕ
bounds_text rule =
    if rule == 1 then codes "a number or a count is out of its range"
    else if rule == 2 then codes "a short branch is too far"
    else if rule == 3 then codes "a clause's range is empty or backwards"
    else if rule == 4 then codes "a signature is deeper than 100"
    else if rule == 5 then codes "a branch goes to the end of the code"
    else if rule == 6 then codes "classes or a path nest deeper than 100"
    else if rule == 7 then codes "data is shorter than its field"
    else if rule == 8 then codes "a field with data has no stated size"
    else []

unfoldable pub letter : NameClass → List ℕ
letter D = codes "D"
letter N = codes "N"
letter B = codes "B"

abbrev pub rule_text : NameClass → ℕ → List ℕ
rule_text D rule = twice_text rule
rule_text N rule = undeclared_text rule
rule_text B rule = bounds_text rule

abbrev pub named_text : List ℕ → ℕ → NameClass → ℕ → List ℕ
named_text file line class rule =
    file ++ (codes "(" ++ (decimal line ++ (codes "): error " ++ (letter class ++ (decimal rule ++ (codes ": " ++ (rule_text class rule ++ codes "\n")))))))

-- the line for a fault: FILE(LINE): error RULE: TEXT
abbrev pub source_text : List ℕ → SourceFault → List ℕ
source_text file (Lexical line rule) =
    file ++ (codes "(" ++ (decimal line ++ (codes "): error L" ++ (decimal rule ++ (codes ": " ++ (lexical_text rule ++ codes "\n"))))))
source_text file (Syntax line rule) =
    file ++ (codes "(" ++ (decimal line ++ (codes "): error S" ++ (decimal rule ++ (codes ": " ++ (syntax_text rule ++ codes "\n"))))))
source_text file (Named line class rule) = named_text file line class rule

-- the line for a source without an image
abbrev pub content_text : List ℕ → ContentFault → List ℕ
content_text file (Source fault) = source_text file fault
content_text file TooLarge = file ++ codes ": error Z1: the assembly is too large\n"
