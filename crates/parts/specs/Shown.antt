-- What the parts program says, by the definition's reply to the bytes that it read.
use Rattle.std.specs.Prelude.{◌≡◌, List, [], ◌∷◌, ◌++◌, ℕ, ◌+◌, ◌≤◌, length, take}
use Rattle.definition.specs.Reply as definition
use Rattle.definition.specs.Host.{numbers, byte_reply}
use Rattle.lines.specs.Lines.{line_of, PutBytes}
use Rattle.replies.specs.declared.Reply.{Reply}
use Rattle.sections.specs.declared.Section.{Section}
use Rattle.sections.specs.declared.Section.TheVariants.{Ty, Context, Tree, First, Second}
use Rattle.sections.specs.Sections.{part_of}
use Rattle.sections.specs.Nodes.{rules_in}

-- the line of each section, in the order in which they are declared
abbrev pub five : (Section → List ℕ) → List ℕ
five part = line_of (part Ty) ++ (line_of (part Context) ++ (line_of (part Tree) ++ (line_of (part First) ++ line_of (part Second))))

-- "the four numbers", then a line for "Each of the report's sections", "empty where there is none"
unfoldable pub six_lines : definition.Reply → List ℕ
six_lines r = line_of (numbers r) ++ five (λ x. part_of x r.code r.report)

-- and one for the rules of the tree's nodes, in written order
unfoldable pub seven_lines : definition.Reply → List ℕ
seven_lines r = six_lines r ++ line_of (rules_in (part_of Tree r.code r.report))

-- with the desk program's sizes: the first z bytes of out are the seven lines
pub record PartsSaid (input out : List ℕ) (z : ℕ) : Type 0 where
  pub is : take z out ≡ seven_lines (byte_reply 4096 input)
  pub within : z ≤ length out

-- ## Inside: a reply r whose report stands at the start of the slice s

abbrev pub part_in : Reply → List ℕ → Section → List ℕ
part_in r s x = part_of x r.code (take r.len s)

pub record PartLine (r : Reply) (x : Section) (s out out' : List ℕ) (at z : ℕ) : Type 0 where
  pub wrote : PutBytes out out' at (line_of (part_in r s x)) z
  pub short : z ≤ at + 45057

pub record SectionLines (r : Reply) (s out : List ℕ) (z : ℕ) : Type 0 where
  pub is : take z out ≡ line_of (r.code ∷ r.at ∷ r.len ∷ r.units ∷ []) ++ five (part_in r s)
  pub short : z ≤ 225330

-- n rules, those of the nodes in the words ws
pub record RulesOf (ws rules : List ℕ) (n : ℕ) : Type 0 where
  pub is : take n rules ≡ rules_in ws
  pub within : n ≤ length rules

pub record RuleLine (r : Reply) (s out out' : List ℕ) (at z : ℕ) : Type 0 where
  pub wrote : PutBytes out out' at (line_of (rules_in (part_in r s Tree))) z
  pub short : z ≤ at + 5633
