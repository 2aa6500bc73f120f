-- What is said of a line that cannot be read.
use Rattle.std.specs.Prelude.{ℕ, List, codes}
use Rattle.wording.specs.declared.malformed.Malformed.{Malformed}
use Rattle.wording.specs.declared.malformed.Malformed.TheVariants.{UnknownWord, MissingWord, ExtraWord, NotANumber, OutOfRange, NotAFloat, BadText, NotInTable, NoMemory}

-- the message of each refusal
abbrev pub message : Malformed → List ℕ
message UnknownWord = codes "unknown call or event"
message MissingWord = codes "a word is missing"
message ExtraWord = codes "a word too many"
message NotANumber = codes "not a decimal number"
message OutOfRange = codes "number out of range"
message NotAFloat = codes "not 0x and eight hex digits"
message BadText = codes "not a text in double quotes"
message NotInTable = codes "no value of its type has this number"
message NoMemory = codes "no memory for the text"
