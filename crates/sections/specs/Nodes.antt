-- The nodes of a tree in a report's words, one after the other, parent first; and what each states.
use Rattle.std.specs.Prelude.{◌≡◌, Bool, ◌&&◌, Option, None, Some, List, [], ◌∷◌, ◌++◌, map, ℕ, zero, suc, ◌+◌, ◌-◌, ◌≤◌, length, get_or, take, drop, ltb, leb}
use Rattle.definition.specs.Syntax.{pick, place_of, ty_words, etvar, Ty, ctx_words, Ctx, on_l, on_r, Judgement, infer, check, infer_app, subtype, inst, Rule, rule_number, Tree, node, Trees, leaf, ◌&◌, section, sections, children}
use Rattle.definition.specs.Run.{Out, done, fail, stop}
use Rattle.definition.specs.Rules.{Result}
use Rattle.sections.specs.declared.Bounds.{Bounds}
use Rattle.sections.specs.declared.Node.{Node}
use Rattle.sections.specs.Sections.{bounds_at, sections_compute}

-- ## One node

-- whether the section whose count stands at a place lies within the words
unfoldable pub whole_at : List ℕ → ℕ → Bool
whole_at ws at = ltb at (length ws) && leb (get_or ws at 0) (length ws - (at + 1))

abbrev pub bounds : ℕ × ℕ → Bounds
bounds b = record { from = b.0; to = b.1 }

-- "A node: rule number, number of children, place of its expression in the question (0 if none), then five sections: input context,
-- left type, right type, output context, result type." All five are whole where the last is: one that is not ends where the words do.
unfoldable pub node_in : List ℕ → ℕ → Option Node
node_in ws at =
    let input : ℕ × ℕ = bounds_at ws (at + 3) in
    let left : ℕ × ℕ = bounds_at ws input.1 in
    let right : ℕ × ℕ = bounds_at ws left.1 in
    let output : ℕ × ℕ = bounds_at ws right.1 in
    let result : ℕ × ℕ = bounds_at ws output.1 in
    pick (whole_at ws output.1)
    (Some (record {
      rule = get_or ws at 0;
      children = get_or ws (at + 1) 0;
      place = get_or ws (at + 2) 0;
      input = bounds input;
      left = bounds left;
      right = bounds right;
      output = bounds output;
      result = bounds result;
      end = result.1;
    }))
    None

-- ## A walk: the next node stands where the words of this one end

unfoldable pub onward : (ℕ → List Node) → Option Node → List Node
onward next (Some N) = N ∷ next N.end
onward next None = []

-- at most so many of them, from a place on
unfoldable pub nodes_from : ℕ → List ℕ → ℕ → List Node
nodes_from zero ws at = []
nodes_from (suc d) ws at = onward (λ p. nodes_from d ws p) (node_in ws at)

-- (there are more words than nodes)
unfoldable pub nodes_in : List ℕ → List Node
nodes_in ws = nodes_from (length ws) ws 0

-- their rules' numbers
unfoldable pub rules_in : List ℕ → List ℕ
rules_in ws = map (λ (N : Node). N.rule) (nodes_in ws)

-- ## What a node states

pub record Stated : Type 0 where
  pub rule : ℕ
  pub children : ℕ
  pub place : ℕ
  pub input : List ℕ
  pub left : List ℕ
  pub right : List ℕ
  pub output : List ℕ
  pub result : List ℕ

abbrev pub words_in : List ℕ → Bounds → List ℕ
words_in ws b = take (b.to - b.from) (drop b.from ws)

-- read off the words that it was found in
abbrev pub stated : List ℕ → Node → Stated
stated ws N = record {
  rule = N.rule;
  children = N.children;
  place = N.place;
  input = words_in ws N.input;
  left = words_in ws N.left;
  right = words_in ws N.right;
  output = words_in ws N.output;
  result = words_in ws N.result;
}

-- all that a walk through words meets
unfoldable pub stated_in : List ℕ → List Stated
stated_in ws = map (stated ws) (nodes_in ws)

-- ## The words that it is stated in

unfoldable pub state_words : Stated → List ℕ
state_words S =
    S.rule ∷ S.children ∷ S.place
    ∷ sections (section S.input) (section S.left) (section S.right) (section S.output) (section S.result)

unfoldable pub states_words : List Stated → List ℕ
states_words [] = []
states_words (S ∷ Ss) = state_words S ++ states_words Ss

-- what is met at a place stands there, and ends before what follows; where nothing is met no node stands, whatever it states
abbrev pub Finds : List ℕ → ℕ → Option Node → Type 0
Finds ws at (Some N) = (N.end ≤ length ws) × (drop at ws ≡ state_words (stated ws N) ++ drop N.end ws)
Finds ws at None = (S : Stated) (qs : List ℕ) → drop at ws ≡ state_words S ++ qs → ⊥

-- ## What the definition's nodes state

abbrev pub states : Rule → ℕ → ℕ → Ctx → List ℕ → List ℕ → Ctx → List ℕ → Stated
states r n p Γ left right Δ result = record {
  rule = rule_number r;
  children = n;
  place = p;
  input = ctx_words Γ;
  left = left;
  right = right;
  output = ctx_words Δ;
  result = result;
}

-- "Left and right are filled as in the question of that judgement; result only for infer and infer_app."
unfoldable pub of_node : Rule → ℕ → Judgement → Ty → Ctx → Stated
of_node r n (infer Γ e) C Δ = states r n (place_of e) Γ [] [] Δ (ty_words C)
of_node r n (check Γ e B) C Δ = states r n (place_of e) Γ [] (ty_words B) Δ []
of_node r n (infer_app Γ e A) C Δ = states r n (place_of e) Γ (ty_words A) [] Δ (ty_words C)
of_node r n (subtype Γ A B) C Δ = states r n 0 Γ (ty_words A) (ty_words B) Δ []
of_node r n (inst on_l Γ a T) C Δ = states r n 0 Γ (ty_words (etvar a)) (ty_words T) Δ []
of_node r n (inst on_r Γ a T) C Δ = states r n 0 Γ (ty_words T) (ty_words (etvar a)) Δ []

-- "The tree is written parent first."
unfoldable mutual
  pub of_tree : Tree → List Stated
  of_tree (node r j C Δ ts) = of_node r (children ts) j C Δ ∷ of_trees ts

  pub of_trees : Trees → List Stated
  of_trees leaf = []
  of_trees (t & ts) = of_tree t ++ of_trees ts

-- by how the run came out
unfoldable pub of_run : Out Result → List Stated
of_run (done r left fresh) = of_tree r.2
of_run (fail e left) = []
of_run stop = []

-- `unfolding nodes_compute` opens every definition above
unfoldable pub nodes_compute : Unit {0}
unfolding whole_at node_in onward nodes_from nodes_in rules_in stated_in state_words states_words of_node of_tree of_run sections_compute
nodes_compute = tt
