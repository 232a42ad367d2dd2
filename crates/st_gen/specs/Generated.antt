-- The lines that `gen` puts behind its input, and the line that it writes. Both are this profile's own.
use Rattle.std.specs.Prelude.{ℕ, zero, suc, ◌+◌, ◌*◌, ◌%◌, List, [], ◌++◌, codes, decimal}

-- a class, its method `run:`, and an initializer that shows what the method makes of a value, around the class's number
abbrev pub class_begins : List ℕ
class_begins = codes "Class named: 'G"

abbrev pub class_ends : List ℕ
class_ends = codes "' superclass: 'Object' indexedInstanceVariables: #none instanceVariableNames: '' classVariableNames: '' sharedPools: '' classInstanceVariableNames: ''!\nG"

abbrev pub method_text : List ℕ
method_text = codes " method!\nrun: n\n\t^[n > 50 ifTrue: [Warning signal]. n] on: Warning do: [:w | w return: 50]!\nGlobal initializer!\nTranscript show: (G"

unfoldable pub lines_of : (number value : ℕ) → List ℕ
lines_of number value =
    class_begins ++ decimal number ++ class_ends ++ decimal number ++ method_text ++ decimal number ++ codes " new run: " ++ decimal value ++ codes ") printString; cr!\n"

-- the value of the class with this number
abbrev pub value_of : (seed number : ℕ) → ℕ
value_of seed number = (seed + 7 * number) % 100

-- the lines of the classes with the numbers from 1 to the size
abbrev pub generated : (seed size : ℕ) → List ℕ
generated seed zero = []
generated seed (suc n) = generated seed n ++ lines_of (suc n) (value_of seed (suc n))

-- what is written of a file of so many units and bytes, whose run wrote so many bytes in so many steps
abbrev pub gen_line : (units bytes transcript steps : ℕ) → List ℕ
gen_line units bytes transcript steps =
    codes "gen units " ++ decimal units ++ codes " bytes " ++ decimal bytes ++ codes " transcript " ++ decimal transcript ++ codes " steps " ++ decimal steps ++ codes "\n"
