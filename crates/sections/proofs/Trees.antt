-- A walk through what is handed out as the tree of a reply meets the nodes of the definition's tree.
use mathlib.Core.Path.{◌≡◌, refl, sym, ap, ◌∙◌}
use mathlib.Core.Bool.{Bool, true, false}
use mathlib.Core.List.{List, [], ◌∷◌}
use Prim.Native.Nat.{ℕ}
use native.Mathlib.Omega.{arith}
use lib.Dec.{eqb}
use Rattle.definition.specs.Syntax.{pick}
use Rattle.definition.specs.Run.{Out, done, fail, stop}
use Rattle.definition.specs.Rules.{Result}
use Rattle.definition.specs.Question.{Question, got, read_question}
use Rattle.definition.specs.Reply.{Reply, refusal, answer, out_reply, read_reply, reply}
use Rattle.sections.specs.declared.Section.TheVariants.{Tree}
use Rattle.sections.specs.Outcomes.{of_result, of_error, of_outcome, handed}
use Rattle.sections.specs.Nodes.{nodes_from, nodes_in, stated_in, of_run, nodes_compute}
use Rattle.sections.proofs.Reports.{every_outcome}
use Rattle.sections.proofs.Nodes.{tree_met}

-- ## By how the run came out

none_met : stated_in [] ≡ []
unfolding stated_in nodes_in nodes_from
none_met = refl

outcome_met : (k : ℕ) (o : Out Result) → stated_in (of_outcome k o Tree) ≡ of_run o
unfolding of_outcome of_result of_error of_run
outcome_met k (done r l n) = tree_met r.2
outcome_met k (fail e l) = none_met
outcome_met k stop = none_met

-- the nodes of the run's tree; none where there was no room for the report
pub every_tree : (k budget room : ℕ) (o : Out Result) (s : List ℕ)
    → stated_in (handed Tree (out_reply k budget room o) s) ≡ pick (eqb (out_reply k budget room o).code 7) [] (of_run o)
unfolding pick
every_tree k budget room o s = rw (every_outcome k budget room o Tree s) (go (eqb (out_reply k budget room o).code 7))
  where
    go : (b : Bool) → stated_in (pick b [] (of_outcome k o Tree)) ≡ pick b [] (of_run o)
    go true = none_met
    go false = outcome_met k o

-- ## On code 0

-- none of 1, 2 and 3 was given
not_refused : (x y z : Bool) (R : Reply) → (pick x (refusal 1 0 0) (pick y (refusal 2 0 0) (pick z (refusal 3 0 0) R))).code ≡ 0
    → pick x (refusal 1 0 0) (pick y (refusal 2 0 0) (pick z (refusal 3 0 0) R)) ≡ R
unfolding pick refusal
not_refused true y z R h = absurd (omega (arith, h))
not_refused false true z R h = absurd (omega (arith, h))
not_refused false false true R h = absurd (omega (arith, h))
not_refused false false false R h = refl

run_reply : (budget work room : ℕ) (q : List ℕ) {Q : Question} {p : ℕ} {vs : List ℕ} → read_question q ≡ got Q p vs
    → (reply budget work room q).code ≡ 0 → reply budget work room q ≡ out_reply Q.kind budget room (answer Q budget 0)
unfolding reply read_reply
run_reply budget work room q read h = not_refused _ _ _ _ h ∙ rw read

-- Q is the question that the words q are read as
pub tree_on_zero : (budget work room : ℕ) (q s : List ℕ) {Q : Question} {p : ℕ} {vs : List ℕ} → read_question q ≡ got Q p vs
    → (reply budget work room q).code ≡ 0 → stated_in (handed Tree (reply budget work room q) s) ≡ of_run (answer Q budget 0)
unfolding pick
tree_on_zero budget work room q s {Q} read h =
    let e = run_reply budget work room q read h in
    let z : (out_reply Q.kind budget room (answer Q budget 0)).code ≡ 0 = ap (λ (R : Reply). R.code) (sym e) ∙ h in
    rw e (every_tree Q.kind budget room (answer Q budget 0) s ∙ rw z)

-- ## Computed

-- rules 22 and 2, two nodes, and the beginning of a third; the second is case (a)'s tree
abbrev two : List ℕ
two = 22 ∷ 0 ∷ 0 ∷ 0 ∷ 1 ∷ 1 ∷ 1 ∷ 1 ∷ 0 ∷ 0 ∷ 2 ∷ 0 ∷ 4 ∷ 0 ∷ 0 ∷ 0 ∷ 0 ∷ 1 ∷ 1 ∷ 2 ∷ 0 ∷ 4 ∷ 0 ∷ 0 ∷ 0 ∷ 0 ∷ 1 ∷ []

pub walked : stated_in two
    ≡ record { rule = 22; children = 0; place = 0; input = []; left = 1 ∷ []; right = 1 ∷ []; output = []; result = [] }
    ∷ record { rule = 2; children = 0; place = 4; input = []; left = []; right = []; output = []; result = 1 ∷ [] } ∷ []
unfolding nodes_compute
walked = refl
