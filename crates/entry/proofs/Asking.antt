-- The judgement that a question of each kind asks, as the judgement functions are asked it.
use mathlib.Core.Path.{◌≡◌, refl, sym, ◌∙◌}
use mathlib.Core.Bool.{Bool, true, false}
use mathlib.Core.List.{List}
use Prim.Native.Nat.{ℕ, ◌<◌}
use native.Mathlib.Omega.{arith}
use lib.ListN.{length}
use lib.Dec.{eqb}
use Rattle.definition.specs.Syntax.{pick, Ctx, on_l, on_r, Judgement}
use Rattle.definition.specs.Question as question
use Rattle.definition.specs.Run.{◌>>=◌}
use Rattle.definition.specs.Rules.{outside, judge}
use Rattle.definition.specs.Reply.{answer}
use Rattle.laws.specs.Count.{charged}
use Rattle.layout.specs.Sizes.{BASE}
use Rattle.layout.specs.Kinds.{kind_number}
use Rattle.layout.specs.Denotes.{Run, written}
use Rattle.layout.specs.declared.Span.{Span}
use Rattle.layout.specs.declared.State.{State}
use Rattle.layout.proofs.Places.{ty_code_lem, expr_code_lem}
use Rattle.judging.specs.declared.Ask.{Ask}
use Rattle.judging.specs.declared.Here.{Here}
use Rattle.judging.specs.Ending.{Step, RunsJ, charge_of, Judged}
use Rattle.judging.specs.Asking.{here, Asks, as_infer, as_check, as_app, as_sub, as_inst_l, as_inst_r, infer_ask, check_ask, app_ask, sub_ask, inst_ask, Small, JudgePre}
use Rattle.reading.specs.Questions.{ContextAt, AsksAt, infers_at, checks_at, applies_at, compares_at, solves_left_at, solves_right_at, runs_at, ModeIs, plainly, strictly, Accepted}
use Rattle.reading.specs.declared.Question.{Question}
use Rattle.reading.specs.declared.Mode as program
use Rattle.reading.specs.declared.Mode.TheVariants.{Plain, Strict}
use Rattle.entry.specs.Entry.{OutsideOf, AskPre, Answers, ResolvePre, Resolves}

module _ {q w : List ℕ} {t : ℕ} {g : Span} {x : Question} (run : (Γ : Ctx) → ContextAt q x Γ → Run q w t g.at g.n Γ) where
  pub asks_1 : (j : Judgement) → AsksAt q x 1 j → Asks q w t g (infer_ask x.expr) j
  asks_1 j (infers_at c e l r) = as_infer refl (run _ c) e

  pub asks_2 : (j : Judgement) → AsksAt q x 2 j → Asks q w t g (check_ask x.expr x.right) j
  asks_2 j (checks_at c e l r) = as_check refl (run _ c) e (written r)

  pub asks_3 : (j : Judgement) → AsksAt q x 3 j → Asks q w t g (app_ask x.left x.expr) j
  asks_3 j (applies_at c e l r) = as_app refl (run _ c) e (written l)

  pub asks_4 : (j : Judgement) → AsksAt q x 4 j → Asks q w t g (sub_ask x.left x.right) j
  asks_4 j (compares_at c e l r) = as_sub refl refl (run _ c) (written l) (written r)

  pub asks_5 : (j : Judgement) → AsksAt q x 5 j → Asks q w t g (inst_ask on_l x.left x.right) j
  asks_5 j (solves_left_at c e l r) = as_inst_l refl refl (run _ c) (written l) (written r)

  pub asks_6 : (j : Judgement) → AsksAt q x 6 j → Asks q w t g (inst_ask on_r x.right x.left) j
  asks_6 j (solves_right_at c e l r) = as_inst_r refl refl (run _ c) (written l) (written r)

  pub asks_7 : (j : Judgement) → AsksAt q x 7 j → Asks q w t g (infer_ask x.expr) j
  asks_7 j (runs_at c e l r) = as_infer refl (run _ c) e

-- ## Small enough to be written

places_small : {q : List ℕ} {x : Question} {k : ℕ} {j : Judgement} → AsksAt q x k j → (x.expr < BASE) × (x.left < BASE) × (x.right < BASE)
places_small (infers_at c e l r) = let a = expr_code_lem e in (a.inside, omega arith, omega arith)
places_small (checks_at c e l r) = let a = expr_code_lem e in let b = ty_code_lem r in (a.inside, omega arith, b.inside)
places_small (applies_at c e l r) = let a = expr_code_lem e in let b = ty_code_lem l in (a.inside, b.inside, omega arith)
places_small (compares_at c e l r) = let a = ty_code_lem l in let b = ty_code_lem r in (omega arith, a.inside, b.inside)
places_small (solves_left_at c e l r) = let a = ty_code_lem l in let b = ty_code_lem r in (omega arith, a.inside, b.inside)
places_small (solves_right_at c e l r) = let a = ty_code_lem l in let b = ty_code_lem r in (omega arith, a.inside, b.inside)
places_small (runs_at c e l r) = let a = expr_code_lem e in (a.inside, omega arith, omega arith)

-- ## One kind

module _ {q w : List ℕ} {x : Question} {st : State} {g : Span} (pre : AskPre q w x st g) (k : ℕ) (is : kind_number x.kind ≡ k) {a : Ask}
    (asks : (j : Judgement) → AsksAt q x k j → Asks q w st.top g a j) where
  asked_as : (acc : Accepted q x) → AsksAt q x k acc.asked.asks
  asked_as acc = rw (sym acc.kind ∙ is) at acc.asks

  -- the judgement may be asked
  pub kind_pre : ((x.expr < BASE) × (x.left < BASE) × (x.right < BASE) → Small a) → JudgePre q w st g a
  kind_pre sm = record {
    ready = pre.ready;
    small = sm (places_small pre.accepted.asks);
    j = pre.accepted.asked.asks;
    asks = asks _ (asked_as pre.accepted);
  }

  module _ {m : Here} (mo : OutsideOf x.mode m) {w₁ : List ℕ} {z : Step} (call : Judged m q w w₁ st g a z) where
    ran : (acc : Accepted q x) → RunsJ q w w₁ st z (judge (outside acc.asked.manner) acc.asked.asks st.left st.fresh)
    ran acc = rw (mo.is acc.mode) at (call.run acc.asked.asks (asks _ (asked_as acc)))

    paid : (acc : Accepted q x) → charge_of z ≡ charged st.left (judge (outside acc.asked.manner) acc.asked.asks st.left st.fresh)
    paid acc = rw (mo.is acc.mode) at (call.charge acc.asked.asks (asks _ (asked_as acc)))

    -- its answer is the question's, for every kind but 7
    pub kind_answers : eqb k 7 ≡ false → Answers q w w₁ x st z
    unfolding answer pick
    kind_answers e = record {
      keep = (ran pre.accepted).keep.long;
      ends = λ acc. rw (sym acc.kind ∙ is, e) (ran acc).ends;
      charge = λ acc. rw (sym acc.kind ∙ is, e) (paid acc);
    }

    -- and for kind 7, resolved
    pub resolve_pre : ResolvePre q w₁ st z
    resolve_pre = record { R = _; ends = (ran pre.accepted).ends }

    pub kind7_answers : eqb k 7 ≡ true → {w₂ : List ℕ} {y : Step} → length w₁ ≡ length w₂ → Resolves q w₁ w₂ st z y → Answers q w w₂ x st y
    unfolding answer pick ◌>>=◌
    kind7_answers e l h = record {
      keep = (ran pre.accepted).keep.long ∙ l;
      ends = λ acc. rw (sym acc.kind ∙ is, e) (h.ends _ (ran acc).ends);
      charge = λ acc. rw (sym acc.kind ∙ is, e) (h.charge _ (ran acc).ends (paid acc));
    }

-- ## The mode

abbrev pub is_strict : program.Mode → Bool
is_strict Plain = false
is_strict Strict = true

pub not_strict : (m : program.Mode) → (m ≡ Strict → ⊥) → is_strict m ≡ false
not_strict Plain n = refl
not_strict Strict n = absurd (n refl)

outside_is : {m : program.Mode} {μ : question.Mode} → ModeIs m μ → outside (record { compares_parameter = is_strict m; applies_branches = is_strict m }) ≡ outside μ
outside_is plainly = refl
outside_is strictly = refl

pub outside_of : {m : program.Mode} {b : Bool} {h : Here} → b ≡ is_strict m → here h ≡ outside (record { compares_parameter = b; applies_branches = b }) → OutsideOf m h
outside_of f e = record { is = λ m. rw f at e ∙ outside_is m }
