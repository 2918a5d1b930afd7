-- The nodes of the tree: twelve words each, from high places down, parent first.
use Rattle.std.specs.Prelude.{◌≡◌, List, ℕ, ◌+◌, ◌≤◌, get_or}
use Rattle.definition.specs.Syntax.{Ty, Ctx, Judgement, Rule, rule_number, node, Trees, leaf, ◌&◌, children}
use Rattle.layout.specs.Denotes.{Den, Run}
use Rattle.layout.specs.declared.Span.{Span}
use Rattle.judging.specs.declared.Ask.{Ask}
use Rattle.judging.specs.Asking.{Asks}

-- rule, children, place, input, left, right, output, result, kind
pub record NodeWords (w : List ℕ) (m rule kids : ℕ) (g : Span) (a : Ask) (h : Span) (ty : ℕ) : Type 0 where
  pub rule_is : get_or w m 0 ≡ rule
  pub kids_is : get_or w (m + 1) 0 ≡ kids
  pub place_is : get_or w (m + 2) 0 ≡ a.ex
  pub in_at : get_or w (m + 3) 0 ≡ g.at
  pub in_n : get_or w (m + 4) 0 ≡ g.n
  pub left_is : get_or w (m + 5) 0 ≡ a.left
  pub right_is : get_or w (m + 6) 0 ≡ a.right
  pub out_at : get_or w (m + 7) 0 ≡ h.at
  pub out_n : get_or w (m + 8) 0 ≡ h.n
  pub ty_is : get_or w (m + 9) 0 ≡ ty
  pub kind_is : get_or w (m + 10) 0 ≡ a.kind

-- the node at m; what it refers to lies below t
pub record NodeAt (q w : List ℕ) (t m : ℕ) (r : Rule) (kids : ℕ) (j : Judgement) (C : Ty) (Δ : Ctx) : Type 0 where
  pub input : Span
  pub ask : Ask
  pub output : Span
  pub ty : ℕ
  pub words : NodeWords w m (rule_number r) kids input ask output ty
  pub asks : Asks q w t input ask j
  pub out : Run q w t output.at output.n Δ
  pub den : Den q w t ty C

-- trees from hi down to lo, parent first
pub data NodesAt (q w : List ℕ) (t : ℕ) : ℕ → ℕ → Trees → Type 0 where
  no_nodes : {lo hi : ℕ} → lo ≡ hi → NodesAt q w t lo hi leaf
  a_node : {lo mid m hi : ℕ} {r : Rule} {j : Judgement} {C : Ty} {Δ : Ctx} {ts us : Trees} → m + 12 ≡ hi → mid ≤ m
      → NodeAt q w t m r (children ts) j C Δ → NodesAt q w t mid m ts → lo ≤ mid → NodesAt q w t lo mid us
      → NodesAt q w t lo hi (node r j C Δ ts & us)
