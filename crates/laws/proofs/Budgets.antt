-- What a run does with another budget. It is the same to a run of the definition whether something is charged before it or at its end: k
-- less to begin with is k less left.
use mathlib.Core.Path.{◌≡◌, refl, sym, ap, ◌∙◌}
use Prim.Native.Nat.{ℕ, suc, ◌+◌, ◌-◌, ◌≤◌, ◌<◌}
use native.Mathlib.Omega.{arith}
use native.Mathlib.Nat.{lt_of_not-le, le_refl}
use native.Mathlib.Decide.{dec_le}
use mathlib.Core.Bool.{Bool, true, false}
use lib.Dec.{leb}
use Rattle.definition.specs.Syntax.{pick, TypeError, Ty, Ctx, Judgement}
use Rattle.definition.specs.Question.{Question}
use Rattle.definition.specs.Run.{Out, done, fail, stop, M, and_then, ◌>>=◌, give, refuse, halt, charge, fresh}
use Rattle.definition.specs.Types.{apply_to, apply}
use Rattle.definition.specs.Rules.{Here, Rules, judge_to, judge_by, judge}
use Rattle.definition.specs.Reply.{answer}
use Rattle.laws.proofs.Steps.{charge_yes, charge_no}
use Rattle.laws.proofs.Congruence.{Rel, Compatible, Congruent, rule_congruent, apply_to_r, judge_to_r, answer_r}
use Rattle.laws.proofs.Depth.{Upto, upto, apply_upto, judge_by_upto}

-- an end, a type error among others, that is charged k more
unfoldable pub late : {A : Type 0} → ℕ → Out A → Out A
late k (done a l n) = (charge k >>= λ u. give a) l n
late k (fail e l) = (charge k >>= λ u. refuse e) l 0
late k stop = stop

pub record Steady {A : Type 0} (m : M A) : Type 0 where
  pub early : (k l n : ℕ) → (charge k >>= λ u. m) l n ≡ late k (m l n)

-- ## A relation that every rule keeps

then_then : {A B C : Type 0} (o : Out A) (f : A → M B) (g : B → M C) → and_then (and_then o f) g ≡ and_then o (λ a. f a >>= g)
unfolding and_then ◌>>=◌
then_then (done a l n) f g = refl
then_then (fail e l) f g = refl
then_then stop f g = refl

-- a charge takes no fresh name
charge_names : {A : Type 0} (f g : Unit {0} → M A) (n n' : ℕ) → ((l : ℕ) → f tt l n ≡ g tt l n') → (k l : ℕ)
    → (charge k >>= f) l n ≡ (charge k >>= g) l n'
unfolding charge ◌>>=◌ and_then pick
charge_names {A} f g n n' h k l = go (leb k l)
  where
    go : (b : Bool) → and_then (pick b (done tt (l - k) n) stop) f ≡ and_then (pick b (done tt (l - k) n') stop) g
    go true = h (l - k)
    go false = refl

give_steady : {A : Type 0} (a : A) → Steady (give a)
unfolding late give
give_steady a = record { early = λ k l n. refl }

charge_steady : (c : ℕ) → Steady (charge c)
unfolding late ◌>>=◌ and_then give
charge_steady c = record {
  early = λ k l n. elim (dec_le (k + c) l) [
    | yes h ↦
        let e : l - k - c ≡ l - c - k = omega arith in
        rw (charge_yes k l n (omega arith), charge_yes c (l - k) n (omega arith))
        (rw (charge_yes c l n (omega arith), charge_yes k (l - c) n (omega arith), e))
    | no h ↦ first k l n (lt_of_not-le h) ∙ sym (last k l n (lt_of_not-le h))
  ];
}
  where
    first : (k l n : ℕ) → l < k + c → and_then (charge k l n) (λ u. charge c) ≡ stop
    first k l n h =
        elim (dec_le k l) [
          | yes i ↦ rw (charge_yes k l n i) (charge_no c (l - k) n (omega arith))
          | no i ↦ rw (charge_no k l n (lt_of_not-le i))
        ]

    last : (k l n : ℕ) → l < k + c → late k (charge c l n) ≡ stop
    last k l n h =
        elim (dec_le c l) [
          | yes i ↦ rw (charge_yes c l n i, charge_no k (l - c) n (omega arith))
          | no i ↦ rw (charge_no c l n (lt_of_not-le i))
        ]

refuse_steady : {A : Type 0} (e : TypeError) → Steady {A = A} (refuse e)
unfolding late refuse
refuse_steady e = record { early = λ k l n. charge_names _ _ n 0 (λ r. refl) k l }

fresh_steady : Steady fresh
unfolding late fresh give
fresh_steady = record { early = λ k l n. charge_names _ _ n (suc n) (λ r. refl) k l }

halt_steady : {A : Type 0} → Steady {A = A} halt
unfolding late halt ◌>>=◌ and_then
halt_steady = record { early = λ k l n. elim (dec_le k l) [ yes h ↦ rw (charge_yes k l n h) | no h ↦ rw (charge_no k l n (lt_of_not-le h)) ] }

then_late : {A B : Type 0} (k : ℕ) (o : Out A) (f : A → M B) → ((a : A) → Steady (f a)) → and_then (late k o) f ≡ late k (and_then o f)
unfolding late ◌>>=◌ and_then give refuse
then_late k (done a l n) f h = then_then (charge k l n) (λ u. give a) f ∙ (h a).early k l n
then_late k (fail e l) f h = then_then (charge k l 0) (λ u. refuse e) f
then_late k stop f h = refl

bind_steady : {A B : Type 0} {m : M A} {f : A → M B} → Steady m → ((a : A) → Steady (f a)) → Steady (m >>= f)
unfolding ◌>>=◌
bind_steady {m = m} {f} hm hf = record {
  early = λ k l n. sym (then_then (charge k l n) (λ u. m) f) ∙ ap (λ o. and_then o f) (hm.early k l n) ∙ then_late k (m l n) f hf;
}

abbrev SteadyOne : Rel
SteadyOne A m m' = Steady m

each : Compatible SteadyOne
each = record {
  give_r = give_steady;
  refuse_r = λ e d. refuse_steady e;
  fresh_r = fresh_steady;
  charge_r = charge_steady;
  bind_r = λ hm hf. bind_steady hm hf;
}

-- ## Application and judgements

-- what is steady to every depth, and does not depend on it where the depth is enough
from_depths : {A : Type 0} (m : ℕ → M A) (x : M A) → ((d : ℕ) → Steady (m d)) → ((d : ℕ) → Upto d A (m d) x) → Steady x
from_depths m x h e = record {
  early = λ k l n.
      sym ((upto l).bind_r ((upto l).charge_r k) (λ u. e l) l n (le_refl l)).0 ∙ (h l).early k l n ∙ ap (late k) (e l l n (le_refl l)).0;
}

apply_steady : (Γ : Ctx) (A : Ty) → Steady (apply Γ A)
apply_steady Γ A =
    from_depths (λ d. apply_to d Γ A) (apply Γ A) (λ d. apply_to_r SteadyOne each (λ A. halt_steady) d Γ A) (λ d. apply_upto d d (le_refl d) Γ A)

module _ {rules : Rules} (c : Congruent rules) where
  pub judge_by_steady : (h : Here) (j : Judgement) → Steady (judge_by rules h j)
  judge_by_steady h j =
      from_depths (λ d. judge_to rules d h j) (judge_by rules h j) (λ d. judge_to_r SteadyOne each (λ A. halt_steady) apply_steady c d h j)
      (λ d. judge_by_upto c d h j)

-- each of the six judgements, whatever it runs in
pub judge_steady : (h : Here) (j : Judgement) → Steady (judge h j)
judge_steady = judge_by_steady rule_congruent

-- what a question asks, kind 7's resolving among it
pub answer_steady : (q : Question) → Steady (answer q)
answer_steady q = answer_r SteadyOne each (λ A. halt_steady) apply_steady judge_steady q

-- ## One budget's end tells another's

pub smaller : {A : Type 0} {m : M A} → Steady m → (l k n : ℕ) → l ≤ k → m l n ≡ late (k - l) (m k n)
unfolding ◌>>=◌ and_then
smaller s l k n h =
    let e : k - (k - l) ≡ l = omega arith in
    rw (charge_yes (k - l) k n (omega arith), e) at (s.early (k - l) k n)
