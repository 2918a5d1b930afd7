-- What the desk program says, by the definition's reply to the bytes that it read.
use Rattle.std.specs.Prelude.{◌≡◌, List, [], ◌∷◌, ◌++◌, ℕ, ◌≤◌, length, take}
use Rattle.definition.specs.Reply as definition
use Rattle.definition.specs.Host.{numbers, byte_reply}
use Rattle.lines.specs.Lines.{line_of}
use Rattle.replies.specs.declared.Reply.{Reply}
use Rattle.replies.specs.Numbers.{written_of}

-- "prints two lines: the four numbers, then the report words (line empty if none)"
unfoldable pub two_lines : definition.Reply → List ℕ
two_lines r = line_of (numbers r) ++ line_of r.report

-- "budget 384, 16,384 work and 4,096 report words", "Input that isn't whole words is BadLength": the first z bytes of out are the two lines
pub record Said (input out : List ℕ) (z : ℕ) : Type 0 where
  pub is : take z out ≡ two_lines (byte_reply 4096 input)
  pub within : z ≤ length out

-- ## Inside

-- the two lines of a reply whose report stands at the start of the slice s
pub record Lines (r : Reply) (s out : List ℕ) (z : ℕ) : Type 0 where
  pub is : take z out ≡ line_of (r.code ∷ r.at ∷ r.len ∷ r.units ∷ []) ++ line_of (take (written_of r) s)
  pub within : z ≤ length out
