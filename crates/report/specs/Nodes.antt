-- The nodes of the tree by their words.
use Rattle.std.specs.Prelude.{◌≡◌, Bool, ◌||◌, not, List, [], ◌∷◌, ℕ, ◌+◌, ◌≤◌, ◌<◌, ◌^◌, eqb, length, get_or}
use Rattle.std.specs.Bool.{then_some}
use Rattle.definition.specs.Syntax.{Ty, Ctx, Judgement, Rule, rule_number, judgement_words, Trees, trees_words}
use Rattle.layout.specs.declared.Span.{Span}
use Rattle.judging.specs.Nodes.{NodeAt, NodesAt}
use Rattle.writing.specs.Spelling.{Spells, Just, Long, Writes}
use Rattle.writing.specs.After.{Measures, Stands}
use Rattle.report.specs.declared.Node.{Node}
use Rattle.report.specs.declared.Measured.{Measured}
use Rattle.report.specs.declared.Wrote.{Wrote}

-- which type sections are filled, by the judgement's kind
pub record Filled : Type 0 where
  pub left : Bool
  pub right : Bool
  pub result : Bool

abbrev pub fills : ℕ → Filled
fills k = record { left = not (eqb k 1 || eqb k 2); right = not (eqb k 1 || eqb k 3); result = eqb k 1 || eqb k 3 }

-- a node's words, read
pub record NodeRead (w : List ℕ) (m : ℕ) (n : Node) : Type 0 where
  pub rule : n.rule ≡ get_or w m 0
  pub kids : n.kids ≡ get_or w (m + 1) 0
  pub place : n.place ≡ get_or w (m + 2) 0
  pub in_at : n.input.at ≡ get_or w (m + 3) 0
  pub in_n : n.input.n ≡ get_or w (m + 4) 0
  pub left : n.left ≡ then_some (fills (get_or w (m + 10) 0)).left (get_or w (m + 5) 0)
  pub right : n.right ≡ then_some (fills (get_or w (m + 10) 0)).right (get_or w (m + 6) 0)
  pub out_at : n.output.at ≡ get_or w (m + 7) 0
  pub out_n : n.output.n ≡ get_or w (m + 8) 0
  pub result : n.result ≡ then_some (fills (get_or w (m + 10) 0)).result (get_or w (m + 9) 0)
  pub small : (n.rule < 2 ^ 32) × (n.kids < 2 ^ 32) × (n.place < 2 ^ 32)

-- three words and their room
abbrev pub Three : ℕ → ℕ → ℕ → List ℕ → Type 0
Three a b c = Just (a ∷ b ∷ c ∷ [])

pub record WordsFit (s : List ℕ) (p a b c : ℕ) : Type 0 where
  pub room : p + 3 ≤ length s
  pub small : (a < 2 ^ 32) × (b < 2 ^ 32) × (c < 2 ^ 32)

-- what a node says
pub record NodeSaid : Type 0 where
  pub rule : Rule
  pub kids : ℕ
  pub judgement : Judgement
  pub type : Ty
  pub context : Ctx

abbrev pub said_words : NodeSaid → List ℕ
said_words n = rule_number n.rule ∷ n.kids ∷ judgement_words n.judgement n.type n.context

pub record NodeIn (q w : List ℕ) (t m : ℕ) (n : NodeSaid) : Type 0 where
  pub node : NodeAt q w t m n.rule n.kids n.judgement n.type n.context
  pub within : m + 12 ≤ length w

abbrev pub OfNode : List ℕ → List ℕ → ℕ → ℕ → List ℕ → Type 0
OfNode q w t m = Spells (NodeIn q w t m) said_words

-- a node's output context
abbrev pub output_at : List ℕ → ℕ → Span
output_at w m = record { at = get_or w (m + 7) 0; n = get_or w (m + 8) 0 }

-- the node's length, and that of its output context
pub record NodeLong (q w : List ℕ) (t m : ℕ) (z : Measured) : Type 0 where
  pub long : Long (2 ^ 32) (OfNode q w t m) z.length
  pub output : Measures q w t (output_at w m) z.output

-- the node was written at p, and its output context stands before its end
pub record WritesNode (q w : List ℕ) (t m : ℕ) (s s' : List ℕ) (p : ℕ) (z : Wrote) : Type 0 where
  pub writes : Writes (OfNode q w t m) s s' p z.end
  pub span : z.output.g ≡ output_at w m
  pub output : Stands q w t s' z.end z.output

pub record NodesIn (q w : List ℕ) (t lo hi : ℕ) (ts : Trees) : Type 0 where
  pub nodes : NodesAt q w t lo hi ts
  pub within : hi ≤ length w

abbrev pub OfNodes : List ℕ → List ℕ → ℕ → ℕ → ℕ → List ℕ → Type 0
OfNodes q w t lo hi = Spells (NodesIn q w t lo hi) trees_words
