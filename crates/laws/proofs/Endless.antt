-- "A solution that leads back to itself therefore ends in 6", at every allowed budget, of three questions: document 01's edge, a ring of two,
-- and a ring that the run itself makes (DIFFERENCES, R2).
use mathlib.Core.Path.{◌≡◌, refl}
use Prim.Native.Nat.{ℕ, ◌+◌, ◌-◌, ◌≤◌}
use mathlib.Core.List.{[], ◌∷◌}
use lib.ListN.{length}
use lib.Dec.{lit≤}
use Rattle.definition.specs.Syntax.{pick, TyVar, int, etvar, arrow, setvar_bnd, etvar_bnd, Ctx, on_l, given, infer, check, inst, lit_int, Judgement, Tree, node, leaf, on_r, InstRSolve}
use Rattle.definition.specs.Question.{plain, Question, question_computes}
use Rattle.definition.specs.Run.{done, charge, fresh}
use Rattle.definition.specs.Contexts.{contexts_compute}
use Rattle.definition.specs.Types.{apply}
use Rattle.definition.specs.Rules.{Result, outside, ◌from◌, ◌or_else◌, when, on, on_both, expr_code, ty_code, as_abs, as_arrow, as_forall, other, split, inst_arrow, inst_rule, chk_sub, check_rule, rule, judge_step, judge, rules_compute}
use Rattle.definition.specs.Reply.{refusal, reply, answer}
use Rattle.laws.specs.OtherBudgets.{Allowed}
use Rattle.laws.specs.Rings.{here, follow, left, right, Ring, Applies, itself, first, after, judging}
use Rattle.laws.proofs.Steps.{charge_yes}
use Rattle.laws.proofs.Rings.{ring_gets_6}

abbrev name : ℕ → TyVar
name k = record { number = k }

-- ## A literal against an unknown: it is inferred, and ChkSub applies the context to its type and to the unknown

abbrev literal : Ctx → ℕ → TyVar → Question
literal Γ p b = record { kind = 2; manner = plain; asks = check Γ (lit_int p 1 0) (etvar b) }

literal_applies : (Γ : Ctx) (p : ℕ) (b : TyVar) {t : Tree} {r r' : ℕ} → 1 + length Γ ≤ 8192
    → judge (outside plain) (infer Γ (lit_int p 1 0)) (8192 - (1 + length Γ)) 0 ≡ done (int, Γ, t) r 0
    → apply Γ int r 0 ≡ done int r' 0 → Applies Γ (etvar b) Result (answer (literal Γ p b)) 8192 0
unfolding answer judge_step rule check_rule ◌or_else◌ when on on_both expr_code ty_code as_abs as_arrow as_forall pick chk_sub given
literal_applies Γ p b h e i =
    judging (outside plain) _ (after (charge _) _ (charge_yes (1 + length Γ) 8192 0 h) (first _
    (after (judge (outside plain) (infer Γ (lit_int p 1 0))) _ e
    (after (apply Γ int) _ i
    (first _ itself)))))

-- ## Document 01's edge: "context SETVarBnd A (ETVar A), kind 2, literal 1 against ETVar A gives 6 at every allowed budget"

abbrev its_own : Ctx
its_own = setvar_bnd (name 1) (etvar (name 1)) from outside plain ∷ []

its_own_ring : Ring its_own (name 1)
unfolding contexts_compute
its_own_ring = record { solution = etvar (name 1); solved = refl; back = here }

its_own_applies : Applies its_own (etvar (name 1)) Result (answer (literal its_own 8 (name 1))) 8192 0
unfolding rules_compute
its_own_applies = literal_applies its_own 8 (name 1) (lit≤ tt) refl refl

pub endless : (budget work room : ℕ) → Allowed budget work
    → reply budget work room (2 ∷ 0 ∷ 4 ∷ 35 ∷ 1 ∷ 4 ∷ 1 ∷ 3 ∷ 22 ∷ 1 ∷ 0 ∷ 0 ∷ 2 ∷ 4 ∷ 1 ∷ []) ≡ refusal 6 0 budget
unfolding question_computes
endless budget work room a =
    ring_gets_6 its_own_ring here its_own_applies (record { allowed = a; few = lit≤ tt; place = 15; rest = []; read = refl }) a.high room

-- ## A ring of two: ^1 is ^2, ^2 is Int to ^1; the literal 1 against ^1

abbrev two : Ctx
two = setvar_bnd (name 1) (etvar (name 2)) from outside plain ∷ setvar_bnd (name 2) (arrow int (etvar (name 1))) from outside plain ∷ []

two_ring : Ring two (name 1)
unfolding contexts_compute
two_ring = record { solution = etvar (name 2); solved = refl; back = follow refl (right here) }

two_applies : Applies two (etvar (name 1)) Result (answer (literal two 14 (name 1))) 8192 0
unfolding rules_compute
two_applies = literal_applies two 14 (name 1) (lit≤ tt) refl refl

pub ring_of_two : (budget work room : ℕ) → Allowed budget work
    → reply budget work room (2 ∷ 0 ∷ 10 ∷ 35 ∷ 1 ∷ 4 ∷ 2 ∷ 35 ∷ 2 ∷ 5 ∷ 1 ∷ 4 ∷ 1 ∷ 3 ∷ 22 ∷ 1 ∷ 0 ∷ 0 ∷ 2 ∷ 4 ∷ 1 ∷ []) ≡ refusal 6 0 budget
unfolding question_computes
ring_of_two budget work room a =
    ring_gets_6 two_ring here two_applies (record { allowed = a; few = lit≤ tt; place = 21; rest = []; read = refl }) a.high room

-- ## A ring made on the way: ^1 against ^1 to ^1, with ^1 unsolved. InstLArr solves ^1 as ^b to ^c and ^b as ^1, and applies that to ^1

abbrev unsolved : Question
unsolved = record { kind = 5; manner = plain; asks = inst on_l (etvar_bnd (name 1) from outside plain ∷ []) (name 1) (arrow (etvar (name 1)) (etvar (name 1))) }

abbrev made : Ctx
made =
    setvar_bnd (name 1) (arrow (etvar (name 1_000_000)) (etvar (name 1_000_001))) from outside plain
    ∷ setvar_bnd (name 1_000_000) (etvar (name 1)) from outside plain
    ∷ etvar_bnd (name 1_000_001) from outside plain
    ∷ []

made_ring : Ring made (name 1)
unfolding contexts_compute
made_ring = record { solution = arrow (etvar (name 1_000_000)) (etvar (name 1_000_001)); solved = refl; back = left (follow refl here) }

halfway : Judgement
halfway = inst on_r (split (outside plain) (name 1) (name 1_000_000) (name 1_000_001) (etvar_bnd (name 1) from outside plain ∷ [])) (name 1_000_000) (etvar (name 1))

half : judge (outside plain) halfway 8190 2 ≡ done (int, made, node InstRSolve halfway int made leaf) 8183 2
unfolding rules_compute halfway
half = refl

made_applies : Applies made (etvar (name 1)) Result (answer unsolved) 8192 0
unfolding answer judge_step rule inst_rule inst_arrow other pick halfway fresh given
made_applies =
    judging (outside plain) _ (after (charge 2) _ (charge_yes 2 8192 0 (lit≤ tt)) (first _
    (after fresh _ refl
    (after fresh _ refl
    (after (judge (outside plain) halfway) _ half
    (first _ itself))))))

pub ring_made : (budget work room : ℕ) → Allowed budget work
    → reply budget work room (5 ∷ 0 ∷ 2 ∷ 34 ∷ 1 ∷ 0 ∷ 2 ∷ 4 ∷ 1 ∷ 5 ∷ 5 ∷ 4 ∷ 1 ∷ 4 ∷ 1 ∷ []) ≡ refusal 6 0 budget
unfolding question_computes
ring_made budget work room a =
    ring_gets_6 made_ring here made_applies (record { allowed = a; few = lit≤ tt; place = 15; rest = []; read = refl }) a.high room
