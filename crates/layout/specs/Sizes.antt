-- The numbers of docs/LAYOUT.md by the names that the code has for them (src/lib.rt).
use Rattle.std.specs.Prelude.{ℕ}

-- a type reference below this is a place in the question; from here on, this plus a place in work
abbrev pub BASE : ℕ
BASE = 2048

-- the references of Int and Bool
abbrev pub INT : ℕ
INT = 2048

abbrev pub BOOL : ℕ
BOOL = 2049

-- where the table of ends begins in work, and where types and runs of entries do
abbrev pub ENDS : ℕ
ENDS = 16

abbrev pub FLOOR : ℕ
FLOOR = 2064

-- what a word has more where it says that a type is a monotype
abbrev pub MONO : ℕ
MONO = 4096

-- no more words of work are used, and no more fresh names drawn: places and names stay words
abbrev pub CAP : ℕ
CAP = 1000000
