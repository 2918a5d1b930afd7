-- A fault of the question: the program's as the definition's.
use Rattle.std.specs.Prelude.{ℕ}
use Rattle.definition.specs.Question.{Read, fault}
use Rattle.reading.specs.declared.Refusal.{Refusal}
use Rattle.reading.specs.declared.Refusal.TheVariants.{BadShape, ReservedName}
use Rattle.reading.specs.declared.Fault.{Fault}

-- the codes of document 01
abbrev pub refusal_code : Refusal → ℕ
refusal_code BadShape = 4
refusal_code ReservedName = 5

abbrev pub bad_shape : ℕ → Fault
bad_shape p = record { why = BadShape; at = p }

abbrev pub reserved_name : ℕ → Fault
reserved_name p = record { why = ReservedName; at = p }

-- the same fault of the definition
abbrev pub fault_of : {A : Type 0} → Fault → Read A
fault_of f = fault (refusal_code f.why) f.at
