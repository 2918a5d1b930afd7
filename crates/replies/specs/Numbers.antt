-- The four numbers of a reply of the definition, and what they say of its report.
use Rattle.std.specs.Prelude.{◌≡◌, ℕ, eqb}
use Rattle.definition.specs.Syntax.{pick}
use Rattle.definition.specs.Reply as definition
use Rattle.replies.specs.declared.Reply.{Reply}

pub record Numbers (R : definition.Reply) (r : Reply) : Type 0 where
  pub code : r.code ≡ R.code
  pub at : r.at ≡ R.at
  pub len : r.len ≡ R.len
  pub units : r.units ≡ R.units

-- how many words of report a reply has: none on NoRoom, whose length is the needed one
abbrev pub written_of : Reply → ℕ
written_of r = pick (eqb r.code 7) 0 r.len
