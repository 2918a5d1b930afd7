-- The depth does not matter: `apply` and `judge` meet the equations of a recursion without any count, and no words are an empty context.
-- A program's proof goes by these.
use mathlib.Core.Path.{◌≡◌, refl, sym, ap, ◌∙◌}
use mathlib.Core.List.{[]}
use Prim.Native.Nat.{ℕ, zero, suc, ◌+◌, ◌-◌, ◌≤◌}
use native.Mathlib.Omega.{arith}
use native.Mathlib.Nat.{le_of_suc-le-suc, not-suc-le-zero, lt_of_not-le, le_refl}
use native.Mathlib.Decide.{dec_le}
use lib.ListN.{length}
use Rattle.definition.specs.Syntax.{Ty, Ctx, Judgement, given}
use Rattle.definition.specs.Question.{got, Reader, unless_end, read_ctx}
use Rattle.definition.specs.Run.{Out, done, fail, stop, M, and_then, ◌>>=◌, give, refuse, halt, charge, fresh}
use Rattle.definition.specs.Types.{apply_step, apply_to, apply}
use Rattle.definition.specs.Rules.{Result, Judge, Here, Rules, rule, judge_step, judge_to, judge_by, judge}
use Rattle.laws.proofs.Steps.{charge_yes, charge_no}
use Rattle.laws.proofs.Congruence.{Rel, Compatible, apply_step_r, Congruent, rule_congruent}

-- ## Two runs that are the same at every budget up to b, and never leave more than there was

abbrev pub NoMoreLeft : {A : Type 0} → ℕ → Out A → Type 0
NoMoreLeft l (done a l' n) = l' ≤ l
NoMoreLeft l (fail e l') = l' ≤ l
NoMoreLeft l stop = Unit {0}

abbrev pub Upto : ℕ → Rel
Upto b A m m' = (l n : ℕ) → l ≤ b → (m l n ≡ m' l n) × NoMoreLeft l (m l n)

weaken : {A : Type 0} (l l' : ℕ) (o : Out A) → l' ≤ l → NoMoreLeft l' o → NoMoreLeft l o
weaken l l' (done a m n) h p = omega arith
weaken l l' (fail e m) h p = omega arith
weaken l l' stop h p = tt

and_then_upto : (b : ℕ) {A B : Type 0} (l : ℕ) (o o' : Out A) (f f' : A → M B) → l ≤ b → o ≡ o' → NoMoreLeft l o → ((a : A) → Upto b B (f a) (f' a))
    → (and_then o f ≡ and_then o' f') × NoMoreLeft l (and_then o f)
unfolding and_then
and_then_upto b l (done a l' n) o' f f' h e p k =
    let r : (f a l' n ≡ f' a l' n) × NoMoreLeft l' (f a l' n) = k a l' n (omega arith) in
    (r.0 ∙ ap (λ o. and_then o f') e, weaken l l' (f a l' n) p r.1)
and_then_upto b l (fail x l') o' f f' h e p k = (ap (λ o. and_then o f') e, p)
and_then_upto b l stop o' f f' h e p k = (ap (λ o. and_then o f') e, tt)

charge_upto : (b c : ℕ) → Upto b (Unit {0}) (charge c) (charge c)
charge_upto b c l n h =
    (refl, elim (dec_le c l) [ yes k ↦ rw (charge_yes c l n k) (omega arith) | no k ↦ rw (charge_no c l n (lt_of_not-le k)) tt ])

pub upto : (b : ℕ) → Compatible (Upto b)
unfolding give refuse fresh ◌>>=◌
upto b = record {
  give_r = λ a l n h. (refl, le_refl l);
  refuse_r = λ e d l n h. (refl, le_refl l);
  fresh_r = λ l n h. (refl, le_refl l);
  charge_r = λ c. charge_upto b c;
  bind_r = λ {A} {B} {m} {m'} {f} {f'} hm hf l n h. and_then_upto b l (m l n) (m' l n) f f' h (hm l n h).0 (hm l n h).1 hf;
}

-- a charge of one or more, and then what is the same at every smaller budget
charged_upto : (b c : ℕ) {A : Type 0} (f f' : Unit {0} → M A) → 1 ≤ c → Upto b A (f tt) (f' tt) → Upto (suc b) A (charge c >>= f) (charge c >>= f')
unfolding ◌>>=◌ and_then
charged_upto b c f f' p h l n k =
    elim (dec_le c l) [
      | yes q ↦
          let r : (f tt (l - c) n ≡ f' tt (l - c) n) × NoMoreLeft (l - c) (f tt (l - c) n) = h (l - c) n (omega arith) in
          rw (charge_yes c l n q) (r.0, weaken l (l - c) (f tt (l - c) n) (omega arith) r.1)
      | no q ↦ rw (charge_no c l n (lt_of_not-le q)) (refl, tt)
    ]

-- with nothing left it stops at once
charged_none : (c : ℕ) {A : Type 0} (f : Unit {0} → M A) (n : ℕ) → 1 ≤ c → (charge c >>= f) 0 n ≡ stop
unfolding ◌>>=◌ and_then
charged_none c f n p = rw (charge_no c 0 n p)

none_upto : {A : Type 0} (m m' : M A) → ((n : ℕ) → m 0 n ≡ stop) → ((n : ℕ) → m' 0 n ≡ stop) → Upto 0 A m m'
none_upto m m' e e' zero n h = (e n ∙ sym (e' n), rw (e n) tt)
none_upto m m' e e' (suc l) n h = absurd (not-suc-le-zero h)

-- ## Application

apply_to_none : (d : ℕ) (Γ : Ctx) (A : Ty) (n : ℕ) → apply_to d Γ A 0 n ≡ stop
unfolding apply_to halt
apply_to_none zero Γ A n = refl
apply_to_none (suc d) Γ A n = charged_none 1 _ n (le_refl 1)

apply_to_upto : (b d d' : ℕ) → b ≤ d → b ≤ d' → (Γ : Ctx) (A : Ty) → Upto b Ty (apply_to d Γ A) (apply_to d' Γ A)
unfolding apply_to
apply_to_upto zero d d' h h' Γ A = none_upto (apply_to d Γ A) (apply_to d' Γ A) (apply_to_none d Γ A) (apply_to_none d' Γ A)
apply_to_upto (suc b) zero d' h h' Γ A = absurd (not-suc-le-zero h)
apply_to_upto (suc b) (suc d) zero h h' Γ A = absurd (not-suc-le-zero h')
apply_to_upto (suc b) (suc d) (suc d') h h' Γ A =
    charged_upto b 1 _ _ (le_refl 1)
    (apply_step_r (Upto b) (upto b) Γ (λ B l n. apply_to d Γ B l n) (λ B l n. apply_to d' Γ B l n)
    (apply_to_upto b d d' (le_of_suc-le-suc h) (le_of_suc-le-suc h') Γ) A)

-- `apply` at any depth that is enough
pub apply_upto : (b d : ℕ) → b ≤ d → (Γ : Ctx) (A : Ty) → Upto b Ty (apply_to d Γ A) (apply Γ A)
unfolding apply
apply_upto b d h Γ A l n k = apply_to_upto l d l (omega arith) (le_refl l) Γ A l n (le_refl l)

apply_self : (b : ℕ) (Γ : Ctx) (A : Ty) → Upto b Ty (apply Γ A) (apply Γ A)
unfolding apply
apply_self b Γ A l n k = apply_to_upto l l l (le_refl l) (le_refl l) Γ A l n (le_refl l)

-- the equation of `apply`
pub apply_eq : (Γ : Ctx) (A : Ty) (l n : ℕ) → apply Γ A l n ≡ (charge 1 >>= λ u. apply_step Γ (apply Γ) A) l n
unfolding apply apply_to
apply_eq Γ A zero n = apply_to_none 0 Γ A n ∙ sym (charged_none 1 (λ u. apply_step Γ (apply Γ) A) n (le_refl 1))
apply_eq Γ A (suc l) n =
    (charged_upto l 1 (λ u. apply_step Γ (λ B k n. apply_to l Γ B k n) A) (λ u. apply_step Γ (apply Γ) A) (le_refl 1)
    (apply_step_r (Upto l) (upto l) Γ (λ B k n. apply_to l Γ B k n) (apply Γ) (apply_upto l l (le_refl l) Γ) A)
    (suc l) n (le_refl (suc l))).0

-- ## Judgements, by any rules that keep what runs keep

module _ {rules : Rules} (c : Congruent rules) where
  judge_step_upto : (b : ℕ) (rec rec' : Here → Judge) → ((h : Here) (i : Judgement) → Upto b Result (rec h i) (rec' h i))
      → (h : Here) (j : Judgement) → Upto (suc b) Result (judge_step rules rec h j) (judge_step rules rec' h j)
  unfolding judge_step
  judge_step_upto b rec rec' e h j =
      charged_upto b (1 + length (given j)) _ _ (omega arith)
      ((upto b).bind_r (c.keeps (Upto b) (upto b) (apply_self b) h (rec h) (rec' h) (e h) j)
      (λ r. (upto b).bind_r (charge_upto b _) (λ v. (upto b).give_r _)))

  judge_step_none : (rec : Here → Judge) (h : Here) (j : Judgement) (n : ℕ) → judge_step rules rec h j 0 n ≡ stop
  unfolding judge_step
  judge_step_none rec h j n = charged_none (1 + length (given j)) _ n (omega arith)

  judge_to_none : (d : ℕ) (h : Here) (j : Judgement) (n : ℕ) → judge_to rules d h j 0 n ≡ stop
  unfolding judge_to halt
  judge_to_none zero h j n = refl
  judge_to_none (suc d) h j n = judge_step_none _ h j n

  judge_to_upto : (b d d' : ℕ) → b ≤ d → b ≤ d' → (h : Here) (j : Judgement) → Upto b Result (judge_to rules d h j) (judge_to rules d' h j)
  unfolding judge_to
  judge_to_upto zero d d' p p' h j = none_upto (judge_to rules d h j) (judge_to rules d' h j) (judge_to_none d h j) (judge_to_none d' h j)
  judge_to_upto (suc b) zero d' p p' h j = absurd (not-suc-le-zero p)
  judge_to_upto (suc b) (suc d) zero p p' h j = absurd (not-suc-le-zero p')
  judge_to_upto (suc b) (suc d) (suc d') p p' h j =
      judge_step_upto b (λ i k l n. judge_to rules d i k l n) (λ i k l n. judge_to rules d' i k l n)
      (judge_to_upto b d d' (le_of_suc-le-suc p) (le_of_suc-le-suc p')) h j

  pub judge_by_upto : (b : ℕ) (h : Here) (j : Judgement) → Upto b Result (judge_to rules b h j) (judge_by rules h j)
  unfolding judge_by
  judge_by_upto b h j l n p = judge_to_upto l b l p (le_refl l) h j l n (le_refl l)

  -- a judgement is its step, whose judgements are judged by the same rules
  pub judge_by_eq : (h : Here) (j : Judgement) (l n : ℕ) → judge_by rules h j l n ≡ judge_step rules (judge_by rules) h j l n
  unfolding judge_by judge_to
  judge_by_eq h j zero n = judge_to_none 0 h j n ∙ sym (judge_step_none (judge_by rules) h j n)
  judge_by_eq h j (suc l) n =
      (judge_step_upto l (λ i k l' n. judge_to rules l i k l' n) (judge_by rules) (judge_by_upto l) h j (suc l) n (le_refl (suc l))).0

  pub judge_by_left : (h : Here) (j : Judgement) (l n : ℕ) → NoMoreLeft l (judge_by rules h j l n)
  unfolding judge_by
  judge_by_left h j l n = (judge_to_upto l l l (le_refl l) (le_refl l) h j l n (le_refl l)).1

-- the equation of `judge`
pub judge_eq : (h : Here) (j : Judgement) (l n : ℕ) → judge h j l n ≡ judge_step rule judge h j l n
judge_eq = judge_by_eq rule_congruent

-- ## No run leaves more than there was

pub judge_left : (h : Here) (j : Judgement) (l n : ℕ) → NoMoreLeft l (judge h j l n)
judge_left = judge_by_left rule_congruent

-- ## No words, read as a context at any depth

pub read_ctx_none : (name : Reader ℕ) (d p : ℕ) → read_ctx name d p [] ≡ got [] p []
unfolding read_ctx unless_end
read_ctx_none name zero p = refl
read_ctx_none name (suc d) p = refl
