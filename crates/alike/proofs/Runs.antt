-- Two runs on what is alike, and what keeps them so: giving, refusing, a fresh name, a charge, a bind.
use mathlib.Core.Path.{◌≡◌, refl}
use Prim.Native.Nat.{ℕ}
use lib.Dec.{leb}
use Rattle.definition.specs.Syntax.{TypeError}
use Rattle.definition.specs.Run.{Out, done, fail, stop, M, and_then, ◌>>=◌, give, refuse, halt, charge, fresh}
use Rattle.alike.specs.Alike
use Rattle.alike.specs.Alike.{Pairing}
use Rattle.alike.proofs.Related.{NameR, TypeErrorR, pick_r}

-- the same budget left and the same number of fresh names taken
pub data OutR (P : Pairing) {A : Type 0} (W : A → A → Type 0) : Out A → Out A → Type 0 where
  done_r : {a a' : A} {l n : ℕ} → W a a' → OutR P W (done a l n) (done a' l n)
  fail_r : {e e' : TypeError} {l : ℕ} → TypeErrorR P e e' → OutR P W (fail e l) (fail e' l)
  stop_r : OutR P W stop stop

pub record RunsAlike (P : Pairing) {A : Type 0} (W : A → A → Type 0) (m m' : M A) : Type 0 where
  pub at : (l n : ℕ) → OutR P W (m l n) (m' l n)

module _ {P : Pairing} where
  and_then_r : {A B : Type 0} {W : A → A → Type 0} {U : B → B → Type 0} {o o' : Out A} (f f' : A → M B)
      → OutR P W o o' → ((a a' : A) → W a a' → RunsAlike P U (f a) (f' a')) → OutR P U (and_then o f) (and_then o' f')
  unfolding and_then
  and_then_r f f' (done_r {a = a} {a' = a'} {l = l} {n = n} w) h = (h a a' w).at l n
  and_then_r f f' (fail_r e) h = fail_r e
  and_then_r f f' stop_r h = stop_r

  pub bind_r : {A B : Type 0} {W : A → A → Type 0} {U : B → B → Type 0} {m m' : M A} {f f' : A → M B}
      → RunsAlike P W m m' → ((a a' : A) → W a a' → RunsAlike P U (f a) (f' a')) → RunsAlike P U (m >>= f) (m' >>= f')
  unfolding ◌>>=◌
  bind_r {f = f} {f' = f'} p h = record { at = λ l n. and_then_r f f' (p.at l n) h }

  pub give_r : {A : Type 0} {W : A → A → Type 0} (a a' : A) → W a a' → RunsAlike P W (give a) (give a')
  unfolding give
  give_r a a' w = record { at = λ l n. done_r w }

  pub refuse_r : {A : Type 0} {W : A → A → Type 0} {e e' : TypeError} → TypeErrorR P e e' → RunsAlike P W (refuse e) (refuse e')
  unfolding refuse
  refuse_r w = record { at = λ l n. fail_r w }

  pub halt_r : {A : Type 0} {W : A → A → Type 0} → RunsAlike P W halt halt
  unfolding halt
  halt_r = record { at = λ l n. stop_r }

  pub fresh_r : RunsAlike P (NameR P) fresh fresh
  unfolding fresh
  fresh_r = record { at = λ l n. done_r (record { numbers = Alike.fresh n }) }

  pub charge_r : {c c' : ℕ} → c ≡ c' → RunsAlike P ◌≡◌ (charge c) (charge c')
  unfolding charge
  charge_r {c} {c'} e = record { at = λ l n. rw e (pick_r (OutR P ◌≡◌) {b = leb c' l} refl (done_r refl) stop_r) }
