-- The source of N classes, line by line.
use Rattle.std.specs.Prelude.{ℕ, zero, suc, ◌-◌, ◌/◌, List, [], ◌++◌, codes}
use Rattle.std.specs.Fmt.{decimal}

abbrev pub heading : List ℕ
heading = codes ".assembly extern mscorlib { .ver 4:0:0:0 }\n" ++ codes ".assembly Made { .ver 1:0:0:0 }\n"

-- the number of the class that is the base of a class, and 0 for the first
abbrev pub below : ℕ → ℕ
below class = (class - 1) / 2

-- the base: that class, and System.Object for the first
abbrev pub base_of : ℕ → List ℕ
base_of zero = codes "[mscorlib]System.Object"
base_of (suc class) = codes "C" ++ decimal (below (suc class))

-- the line of a class with a base: a method that puts null as this class or as the other, and returns it
abbrev pub line_with : ℕ → List ℕ → ℕ → List ℕ
line_with class base other =
    codes ".class public C" ++ (decimal class ++ (codes " extends " ++ (base
    ++ (codes " { .method public static object M(bool) cil managed { ldarg.0 brtrue.s L ldnull castclass C" ++ (decimal class
    ++ (codes " br.s J L: ldnull castclass C" ++ (decimal other ++ codes " J: ret } }\n")))))))

abbrev pub class_line : ℕ → List ℕ
class_line class = line_with class (base_of class) (below class)

-- the lines of the first classes
unfoldable pub class_lines : ℕ → List ℕ
class_lines zero = []
class_lines (suc class) = class_lines class ++ class_line class

abbrev pub made : ℕ → List ℕ
made n = heading ++ class_lines n
